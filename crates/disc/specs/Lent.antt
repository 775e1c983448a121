-- The files of a disc by a header, as the code lends them. Assumes nothing: these are definitions.
use Rattle.std.specs.Prelude.{ℕ, List}
use Rattle.disc.specs.Blocks.{blocks}
use Rattle.disc.specs.Layout.{Header, file_in}
use Rattle.disc.specs.Plans.{shape}
use Rattle.disc.specs.declared.files.Files.{Files}

-- the header by which they are read
abbrev pub header_of : Files → Header
header_of s = blocks s.head.now

-- what file f holds
abbrev pub file_of : Files → ℕ → List ℕ
file_of s f = file_in (shape s.plan) (header_of s) (blocks s.disc.now) f
