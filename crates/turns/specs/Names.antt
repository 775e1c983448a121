-- The ten sizes by their names. Assumes nothing: these are definitions.
use Rattle.std.specs.Prelude.{ℕ, List, [], ◌∷◌, codes, find, Option, slice_index_or}
use Rattle.std.specs.Str.{bytes_eq}
use Rattle.turns.specs.declared.vocabulary.Sizes.{Sizes}
use Rattle.turns.specs.declared.sizes.SizeName.{SizeName}
use Rattle.turns.specs.declared.sizes.SizeName.TheVariants.{Processes, Opens, Pipes, Handles, Memory, Pipe, File, Files, Screens, Turn}

-- all ten, in the order in which they stand on a disc
abbrev pub all_names : List SizeName
all_names = Processes ∷ Opens ∷ Pipes ∷ Handles ∷ Memory ∷ Pipe ∷ File ∷ Files ∷ Screens ∷ Turn ∷ []

-- the place of one in that order
abbrev pub place_of : SizeName → ℕ
place_of Processes = 0
place_of Opens = 1
place_of Pipes = 2
place_of Handles = 3
place_of Memory = 4
place_of Pipe = 5
place_of File = 6
place_of Files = 7
place_of Screens = 8
place_of Turn = 9

-- the size at a place; behind the last it is the last
abbrev pub name_at : ℕ → SizeName
name_at i = slice_index_or all_names i Turn

-- the word by which a size goes
abbrev pub size_word : SizeName → List ℕ
size_word Processes = codes "processes"
size_word Opens = codes "opens"
size_word Pipes = codes "pipes"
size_word Handles = codes "handles"
size_word Memory = codes "memory"
size_word Pipe = codes "pipe"
size_word File = codes "file"
size_word Files = codes "files"
size_word Screens = codes "screens"
size_word Turn = codes "turn"

-- the size that goes by a word
abbrev pub size_named : List ℕ → Option SizeName
size_named w = find (λ name. bytes_eq w (size_word name)) all_names

-- the sizes with one of them changed
abbrev pub with_size : SizeName → ℕ → Sizes → Sizes
with_size Processes x z = record z { processes = x }
with_size Opens x z = record z { opens = x }
with_size Pipes x z = record z { pipes = x }
with_size Handles x z = record z { handles = x }
with_size Memory x z = record z { memory = x }
with_size Pipe x z = record z { pipe = x }
with_size File x z = record z { file = x }
with_size Files x z = record z { files = x }
with_size Screens x z = record z { screens = x }
with_size Turn x z = record z { turn = x }
