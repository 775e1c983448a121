-- What a list says, line by line. Assumes nothing: these are definitions.
use Rattle.std.specs.Prelude.{◌≡◌, ℕ, ◌-◌, ◌≤◌, Bool, ◌&&◌, not, List, map, take, drop, replicate, is_some, find, Some, None, Ok, Err, codes, Option, Result, if◌then◌else◌, ◌==◌, nat_le, nat_lt, slice_index_or, slice_set}
use Rattle.std.specs.List.{range_with_len}
use Rattle.std.specs.Option.{unwrap_or}
use Rattle.std.specs.Str.{bytes_eq}
use Rattle.turns.specs.Names.{size_named, place_of, all_names, with_size}
use Rattle.turns.specs.declared.sizes.SizeName.{SizeName}
use Rattle.inputs.specs.Texts.{is_blank, in_word, is_hash, found, number_of}
use Rattle.inputs.specs.Lines.{line_end, all_lines}
use Rattle.inputs.specs.declared.lists.Span.{Span}
use Rattle.inputs.specs.declared.lists.Reason.{Reason}
use Rattle.inputs.specs.declared.lists.Reason.TheVariants.{UnknownWord, NoNumber, NoPath, TooManyWords, Twice, Missing, FileTwice, NoSuchFile}
use Rattle.inputs.specs.declared.lists.Draft.{Draft}
use Rattle.inputs.specs.declared.lists.Entry.{Entry}
use Rattle.inputs.specs.declared.lists.Entry.TheVariants as entry
use Rattle.inputs.specs.declared.lists.Put.{Put}
use Rattle.inputs.specs.declared.lists.DiscList.{DiscList}
use Rattle.inputs.specs.declared.lists.Fault.{Fault}

-- the word of a text that begins at or behind place i, before place e
abbrev pub span_at : List ℕ → ℕ → ℕ → Span
span_at text i e = record { from = found in_word text i e; to = found is_blank text (found in_word text i e) e }

-- its bytes
abbrev pub part : List ℕ → Span → List ℕ
part text s = take (s.to - s.from) (drop s.from text)

-- a size: its name, a number, and nothing more
abbrev pub size_entry : SizeName → Option ℕ → Bool → Result (Option Entry) Reason
size_entry name None more = Err NoNumber
size_entry name (Some n) more = if more then Err TooManyWords else Ok (Some (entry.Size name n))

-- contents: the number of a file, a path, and nothing more
abbrev pub put_entry : Option ℕ → Span → Bool → Result (Option Entry) Reason
put_entry None path more = Err NoNumber
put_entry (Some f) path more = if path.from == path.to then Err NoPath else if more then Err TooManyWords else Ok (Some (entry.Put f path))

-- what a line says that ends before place e, if it says anything: by its first word, with the second and the third
abbrev pub entry_by : List ℕ → ℕ → Span → Span → Span → Result (Option Entry) Reason
entry_by text e one two three =
    if one.from == e then Ok None
    else if bytes_eq (part text one) (codes "put") then put_entry (number_of (part text two)) three (not ((span_at text three.to e).from == e))
    else elim (size_named (part text one)) [ None ↦ Err UnknownWord | Some name ↦ size_entry name (number_of (part text two)) (not (three.from == e)) ]

-- what the line says that is in a text from place i up to before e
abbrev pub entry_of : List ℕ → ℕ → ℕ → Result (Option Entry) Reason
entry_of text i e = entry_by text e (span_at text i e) (span_at text (span_at text i e).to e) (span_at text (span_at text (span_at text i e).to e).to e)

-- a path that it names is a part of the text up to before e
abbrev pub EndsBy : ℕ → Result (Option Entry) Reason → Type 0
EndsBy e (Ok None) = Unit {0}
EndsBy e (Ok (Some (entry.Size name n))) = Unit {0}
EndsBy e (Ok (Some (entry.Put f s))) = (s.from ≤ s.to) × (s.to ≤ e)
EndsBy e (Err r) = Unit {0}

-- nothing has been said yet
abbrev pub unsaid : Draft
unsaid =
    record {
      sizes = record { processes = 0; opens = 0; pipes = 0; handles = 0; memory = 0; pipe = 0; file = 0; files = 0; screens = 0; turn = 0 };
      lines = replicate 10 None;
      puts = replicate 64 None;
    }

-- a size is given in a line; it may not have been given before
abbrev pub given : Draft → ℕ → SizeName → ℕ → Result Draft Reason
given d line name n =
    if is_some (slice_index_or d.lines (place_of name) None) then Err (Twice name)
    else Ok (record { sizes = with_size name n d.sizes; lines = slice_set d.lines (place_of name) (Some line); puts = d.puts })

-- the contents of a file are named in a line; they may not have been named before
abbrev pub named : Draft → ℕ → ℕ → Span → Result Draft Reason
named d line f path =
    if nat_lt f 64 then (if is_some (slice_index_or d.puts f None) then Err (FileTwice f) else Ok (record { sizes = d.sizes; lines = d.lines; puts = slice_set d.puts f (Some (record { line = line; path = path })) }))
    else Err (NoSuchFile f)

-- an answer, and what is said then; where it is wrong nothing is said of it
abbrev pub Said : {X : Type 0} → Result X Reason → Result Draft Reason → Draft → Type 0
Said (Ok x) e d = e ≡ Ok d
Said (Err r) e d = e ≡ Err r

-- an answer of the line with this number, and what is said then
abbrev pub ReadIn : {X : Type 0} → ℕ → Result X Fault → Result Draft Reason → Draft → Type 0
ReadIn line (Ok x) e d = e ≡ Ok d
ReadIn line (Err f) e d = (f.line ≡ line) × (e ≡ Err f.reason)

-- what a line says is added
abbrev pub said : Draft → ℕ → Result (Option Entry) Reason → Result Draft Reason
said d line (Ok None) = Ok d
said d line (Ok (Some (entry.Size name n))) = given d line name n
said d line (Ok (Some (entry.Put f path))) = named d line f path
said d line (Err r) = Err r

-- a size that was not given; the first of them, if there is one
abbrev pub is_missing : Draft → SizeName → Bool
is_missing d name = not (is_some (slice_index_or d.lines (place_of name) None))

abbrev pub first_missing : Draft → Option SizeName
first_missing d = find (is_missing d) all_names

-- a file that has contents, and that there is not; the first of them, if there is one
abbrev pub is_strange : Draft → ℕ → Bool
is_strange d f = is_some (slice_index_or d.puts f None) && nat_le d.sizes.files f

abbrev pub first_strange : Draft → Option ℕ
first_strange d = find (is_strange d) (range_with_len 0 64)

-- the line in which a file's contents are named
abbrev pub line_of : Option Put → ℕ
line_of None = 0
line_of (Some p) = p.line

-- what the list says, if no file is strange
abbrev pub finished_by : Draft → Option ℕ → Result DiscList Fault
finished_by d (Some f) = Err (record { line = line_of (slice_index_or d.puts f None); reason = NoSuchFile f })
finished_by d None = Ok (record { sizes = d.sizes; lines = map (λ line. unwrap_or line 0) d.lines; puts = d.puts })

-- and nothing is missing; a size that is missing is missed in the line behind the last
abbrev pub finished : Draft → ℕ → Result DiscList Fault
finished d line = elim (first_missing d) [ Some name ↦ Err (record { line = line; reason = Missing name }) | None ↦ finished_by d (first_strange d) ]

-- the line that begins at place i of a text ends before this place, or earlier, where its comment begins
abbrev pub content_end : List ℕ → ℕ → ℕ
content_end text i = found is_hash text i (line_end text i)

-- what the line that begins at place i makes of a draft
abbrev pub list_step : List ℕ → ℕ → ℕ → Draft → Result Draft Reason
list_step text line i d = said d line (entry_of text i (content_end text i))

-- WHAT A LIST SAYS: what its lines say, if nothing is missing; or the first thing that is wrong
abbrev pub list_by : Result (ℕ × Draft) (ℕ × Reason) → Result DiscList Fault
list_by (Ok d) = finished d.1 d.0
list_by (Err w) = Err (record { line = w.0; reason = w.1 })

unfoldable pub list_of : List ℕ → Result DiscList Fault
list_of text = list_by (all_lines text (list_step text) unsaid)

-- a part of a text that has n bytes; paths are such parts
abbrev pub Within : ℕ → Span → Type 0
Within n s = (s.from ≤ s.to) × (s.to ≤ n)

abbrev pub PathsWithin : ℕ → List (Option Put) → Type 0
PathsWithin n puts = (f : ℕ) (p : Put) → slice_index_or puts f None ≡ Some p → Within n p.path
