use Rattle.std.proofs.Common.{◌≡◌, ℕ, ◌*◌, ◌<◌, true, [], map, length, get_or, vec_items}
use Rattle.disc.specs.Lent.{file_of}
use Rattle.disc.proofs.files.Files.is_same.Given as goal

-- all files before this one are the same
abbrev pub invariant-files : goal.invariant-files
invariant-files l = (l.same ≡ true) × ((g : ℕ) → g < l.f → file_of l.self g ≡ get_or (map vec_items l.files) g [])

-- and so are the blocks of this one before this block
abbrev pub invariant-loop-b : goal.invariant-loop-b
invariant-loop-b l =
    (l.same ≡ true) × ((g : ℕ) → g < l.f → file_of l.self g ≡ get_or (map vec_items l.files) g [])
    × ((k : ℕ) → k < 512 * l.b → k < length l.bytes → get_or (file_of l.self l.f) k 0 ≡ get_or l.bytes k 0)
