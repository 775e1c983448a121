use Rattle.std.proofs.Common.{◌≡◌, ℕ, ◌+◌, ◌*◌, ◌<◌, ◌≤◌, ◌⊎◌, get_or}
use Rattle.octets.specs.Words.{word_at}
use Rattle.disc.proofs.format.put_words.Given as goal

abbrev pub invariant-loop-i : goal.invariant-loop-i
invariant-loop-i l =
    ((k : ℕ) → k < l.i → word_at l.image (4 + 4 * k) ≡ get_or l.words k 0)
    × ((k : ℕ) → (k < 4) ⊎ (4 + 4 * l.i ≤ k) → get_or l.image k 0 ≡ get_or l.initial.image k 0)
