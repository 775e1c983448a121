use Rattle.std.proofs.Common.{◌≡◌, ℕ, ◌+◌, ◌<◌, get_or}
use Rattle.disc.specs.Lent.{file_of}
use Rattle.disc.proofs.files.Files.read.Given as goal

abbrev pub invariant-loop-k : goal.invariant-loop-k
invariant-loop-k l = (i : ℕ) → i < l.k → get_or l.out i 0 ≡ get_or (file_of l.self l.f) (l.from + i) 0
