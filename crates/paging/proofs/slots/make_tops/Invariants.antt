use Rattle.std.proofs.Common.{◌≡◌, ℕ, ◌+◌, ◌*◌, ◌<◌}
use Rattle.octets.specs.Words.{word_at}
use Rattle.paging.proofs.slots.make_tops.Given as goal

abbrev pub invariant-loop-n : goal.invariant-loop-n
invariant-loop-n l = (m : ℕ) → m < l.n → word_at l.frames (m * 4) ≡ 64 + m
