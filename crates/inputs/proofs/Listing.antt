-- What a list says, line by line. Assumes nothing.
use Rattle.std.proofs.Common.{◌≡◌, ℕ, ◌+◌, ◌<◌, ◌≤◌, ltb, List, length, get_or, is_some, IfOk, Some, None, Ok, Err, Option, Result, sym, refl, ap, ◌∙◌, subst, arith}
use Rattle.std.proofs.lemmas.Bool.{cond_both}
use Rattle.std.proofs.lemmas.Option.{none-some, same_Some}
use Rattle.octets.proofs.Tests.{get_or_set_by, get_or_all}
use Rattle.turns.specs.Names.{place_of}
use Rattle.turns.specs.declared.sizes.SizeName.{SizeName}
use Rattle.inputs.specs.Lines.{line_end, lines_from, all_lines}
use Rattle.inputs.specs.Lists.{entry_of, EndsBy, unsaid, ReadIn, given, named, said, first_missing, first_strange, finished_by, finished, content_end, list_step, list_by, list_of, PathsWithin}
use Rattle.inputs.specs.Texts.{found, is_newline, is_hash}
use Rattle.inputs.specs.Walks.{FirstLine}
use Rattle.inputs.specs.declared.lines.Line.{Line}
use Rattle.inputs.specs.declared.lines.Lines.{Lines}
use Rattle.inputs.proofs.Reading.{found_behind, found_within}
use Rattle.inputs.proofs.Turns.{at_first, next_at, lines_fail, lines_more, lines_end}
use Rattle.inputs.specs.declared.lists.Span.{Span}
use Rattle.inputs.specs.declared.lists.Put.{Put}
use Rattle.inputs.specs.declared.lists.Reason.{Reason}
use Rattle.inputs.specs.declared.lists.Reason.TheVariants.{Missing}
use Rattle.inputs.specs.declared.lists.Draft.{Draft}
use Rattle.inputs.specs.declared.lists.DiscList.{DiscList}
use Rattle.inputs.specs.declared.lists.Fault.{Fault}
use Rattle.inputs.specs.declared.lists.Entry.{Entry}
use Rattle.inputs.specs.declared.lists.Entry.TheVariants as entry

-- paths are parts of the text: of a draft, and of one if it is one
abbrev Kept : ℕ → Draft → Type 0
Kept n d = PathsWithin n d.puts

abbrev KeptIfOk : ℕ → Result Draft Reason → Type 0
KeptIfOk n (Ok d) = Kept n d
KeptIfOk n (Err r) = Unit {0}

kept_unsaid : (n : ℕ) → Kept n unsaid
kept_unsaid n = λ f p e. let q : None ≡ Some p = sym (get_or_all {X = Option Put} 64 f None) ∙ e in absurd (none-some _ q)

kept_given : (n line : ℕ) (d : Draft) (name : SizeName) (x : ℕ) → Kept n d → KeptIfOk n (given d line name x)
kept_given n line d name x k = cond_both (is_some (get_or d.lines (place_of name) None)) _ _ (KeptIfOk n) (λ _. tt) (λ _. k)

kept_named : (n line f : ℕ) (d : Draft) (s : Span) → (s.from ≤ s.to) × (s.to ≤ n) → Kept n d → KeptIfOk n (named d line f s)
kept_named n line f d s b k =
    cond_both (ltb f 64) _ _ (KeptIfOk n)
    (λ _. cond_both (is_some (get_or d.puts f None)) _ _ (KeptIfOk n) (λ _. tt)
    (λ _ g p. get_or_set_by (λ (o : Option Put). o ≡ Some p → (p.path.from ≤ p.path.to) × (p.path.to ≤ n)) d.puts f g _ None
    (λ _ e. subst (λ (q : Put). (q.path.from ≤ q.path.to) × (q.path.to ≤ n)) (same_Some (record { line = line; path = s }) p e) b) (k g p)))
    (λ _. tt)

kept_said : (n line : ℕ) (d : Draft) (x : Result (Option Entry) Reason) → EndsBy n x → Kept n d → KeptIfOk n (said d line x)
kept_said n line d (Ok None) b k = k
kept_said n line d (Ok (Some (entry.Size name x))) b k = kept_given n line d name x k
kept_said n line d (Ok (Some (entry.Put f s))) b k = kept_named n line f d s b k
kept_said n line d (Err r) b k = tt

ends_later : (m n : ℕ) (x : Result (Option Entry) Reason) → m ≤ n → EndsBy m x → EndsBy n x
ends_later m n (Ok None) h b = tt
ends_later m n (Ok (Some (entry.Size name x))) h b = tt
ends_later m n (Ok (Some (entry.Put f s))) h b = (b.0, omega (arith, b.1))
ends_later m n (Err r) h b = tt

-- what is finished has the draft's paths
finished_paths_by : (n : ℕ) (d : Draft) (o : Option ℕ) → Kept n d → IfOk (finished_by d o) (λ l. PathsWithin n l.puts)
finished_paths_by n d (Some f) k = tt
finished_paths_by n d None k = k

finished_paths : (n line : ℕ) (d : Draft) → Kept n d → IfOk (finished d line) (λ l. PathsWithin n l.puts)
finished_paths n line d k = go (first_missing d)
  where
    go : (o : Option SizeName) → IfOk (elim o [ Some name ↦ Err (record { line = line; reason = Missing name }) | None ↦ finished_by d (first_strange d) ]) (λ (l : DiscList). PathsWithin n l.puts)
    go (Some name) = tt
    go None = finished_paths_by n d (first_strange d) k

-- what was said so far, before the lines that are left, is what the list's first lines say
pub record SoFar (text : List ℕ) (a : Lines) (d : Draft) : Type 0 where
  pub here : a.text.now ≡ text
  pub rest : lines_from text (list_step text) a.at a.number d ≡ all_lines text (list_step text) unsaid
  pub paths : PathsWithin (length text) d.puts

pub so_far_none : (text : List ℕ) (a : Lines) → a.text.now ≡ text → a.at ≡ 0 → a.number ≡ 1 → SoFar text a unsaid
so_far_none text a e i n = record { here = e; rest = rw (i, n) refl; paths = kept_unsaid (length text) }

-- what a list's next line says
abbrev read_at : List ℕ → ℕ → ℕ → Result (Option Entry) Reason
read_at text i e = entry_of text i (found is_hash text i e)

abbrev at_line : ℕ → Reason → Result DiscList Fault
at_line n r = Err (record { line = n; reason = r })

pub so_far_bad : (text : List ℕ) (a b : Lines) (n : ℕ) (l : Line) (d e : Draft) (f : Fault) → FirstLine a n l b → ReadIn {X = Unit} n (Err f) (said d n (read_at l.text.now l.at l.end)) e → SoFar text a d → Err f ≡ list_of text
unfolding list_of
so_far_bad text a b n l d e f t r s =
    let h : a.at < length text = rw s.here at t.more in
    let w : said d n (read_at text a.at (line_end text a.at)) ≡ Err f.reason = at_first (λ x i k. said d n (read_at x i k) ≡ Err f.reason) text a b n l t s.here r.1 in
    let q : lines_from text (list_step text) a.at n d ≡ all_lines text (list_step text) unsaid = rw t.number s.rest in
    ap (λ k. at_line k f.reason) r.0 ∙ ap list_by (sym (lines_fail text (list_step text) a.at n d f.reason h w) ∙ q)

content_within : (text : List ℕ) (i : ℕ) → i < length text → content_end text i ≤ length text
content_within text i h =
    let a = found_within is_newline text i (length text) (omega arith) in
    let b = found_within is_hash text i (line_end text i) (found_behind is_newline text i (length text)) in
    omega (arith, a, b)

pub so_far_more : (text : List ℕ) (a b : Lines) (n : ℕ) (l : Line) (d f : Draft) → FirstLine a n l b → said d n (read_at l.text.now l.at l.end) ≡ Ok f →
    EndsBy (found is_hash l.text.now l.at l.end) (read_at l.text.now l.at l.end) → SoFar text a d → SoFar text b f
so_far_more text a b n l d f t r u s =
    let h : a.at < length text = rw s.here at t.more in
    let w : said d n (read_at text a.at (line_end text a.at)) ≡ Ok f = at_first (λ x i k. said d n (read_at x i k) ≡ Ok f) text a b n l t s.here r in
    let v : EndsBy (content_end text a.at) (read_at text a.at (line_end text a.at)) = at_first (λ x i k. EndsBy (found is_hash x i k) (read_at x i k)) text a b n l t s.here u in
    let q : lines_from text (list_step text) a.at n d ≡ all_lines text (list_step text) unsaid = rw t.number s.rest in
    let c : b.number ≡ n + 1 = rw t.number t.count in
    record {
      here = t.same ∙ s.here;
      rest = rw (next_at text a b n l t s.here, c) (sym (lines_more text (list_step text) a.at n d f h w) ∙ q);
      paths = subst (KeptIfOk (length text)) w (kept_said (length text) n d _ (ends_later (content_end text a.at) (length text) _ (content_within text a.at h) v) s.paths);
    }

pub so_far_all : (text : List ℕ) (a : Lines) (n : ℕ) (d : Draft) → n ≡ a.number → length a.text.now ≤ a.at → SoFar text a d → (finished d n ≡ list_of text) × IfOk (finished d n) (λ l. PathsWithin (length text) l.puts)
unfolding list_of
so_far_all text a n d e h s =
    let q : lines_from text (list_step text) a.at n d ≡ all_lines text (list_step text) unsaid = rw e s.rest in
    (ap list_by (sym (lines_end text (list_step text) a.at n d (rw s.here at h)) ∙ q), finished_paths (length text) n d s.paths)
