-- What is wrong with a list or a script, in words. Assumes nothing: these are definitions.
use Rattle.std.specs.Prelude.{ℕ, List, ◌++◌, codes, decimal}
use Rattle.turns.specs.Names.{size_word}
use Rattle.inputs.specs.declared.lists.Reason.{Reason}
use Rattle.inputs.specs.declared.lists.Reason.TheVariants as reason
use Rattle.inputs.specs.declared.lists.Fault.{Fault}
use Rattle.inputs.specs.declared.scripts.Wrong.{Wrong}
use Rattle.inputs.specs.declared.scripts.Wrong.TheVariants as wrong

abbrev pub reason_words : Reason → List ℕ
reason_words reason.UnknownWord = codes "this is no size and not put: write a line such as 'processes 2' or 'put 0 PATH'"
reason_words reason.NoNumber = codes "a number from 0 to 4294967295 should stand here"
reason_words reason.NoPath = codes "a path should stand behind the number of the file"
reason_words reason.TooManyWords = codes "there are more words than belong here"
reason_words (reason.Twice name) = size_word name ++ codes " is given twice"
reason_words (reason.Missing name) = size_word name ++ codes " is missing"
reason_words (reason.FileTwice n) = codes "file " ++ decimal n ++ codes " has contents already"
reason_words (reason.NoSuchFile n) = codes "there is no file " ++ decimal n

-- with the line
abbrev pub fault_words : Fault → List ℕ
fault_words f = decimal f.line ++ codes ": " ++ reason_words f.reason

abbrev pub wrong_words : Wrong → List ℕ
wrong_words wrong.UnknownWord = codes "this is no event: write a line such as 'ticks 20', 'key 0 k' or 'cut 3 255'"
wrong_words wrong.NoNumber = codes "a number from 0 to 4294967295 should stand here"
wrong_words wrong.NoByte = codes "a number from 0 to 255 should stand here"
wrong_words wrong.NoKey = codes "a key should stand here: one printable character, or a byte as #107"
wrong_words wrong.TooManyWords = codes "there are more words than belong here"
