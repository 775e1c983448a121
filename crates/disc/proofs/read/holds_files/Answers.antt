use Rattle.std.proofs.Common.{◌≡◌, map, vec_items, sym, ap, ◌∙◌, arith}
use Rattle.std.proofs.lemmas.List.{length-map}
use Rattle.disc.specs.Blocks.{blocks}
use Rattle.disc.specs.Layout.{Shape}
use Rattle.disc.specs.Plans.{shape}
use Rattle.disc.proofs.Held.{large_of, opened, holds_if, if_holds, count_if}
use Rattle.disc.proofs.read.holds_files.Goals as goal

pub returns-then-files-sizes-clause-no : goal.returns-then-files-sizes-clause-no
returns-then-files-sizes-clause-no c = λ _ h.
    c.if-files-sizes.true (sym (length-map c.args.files.now vec_items) ∙ count_if c.args.sizes (blocks c.args.disc.now) (map vec_items c.args.files.now) h)

pub header_of-head-requires : goal.header_of-head-requires
header_of-head-requires c = record { large = large_of c.args.sizes c.args.disc.now (shape c.new-plan.result) c.new-plan.ensures c.requires.taken }

pub invariant_of-is_same : goal.invariant_of-is_same
invariant_of-is_same c =
    record { large = large_of c.args.sizes c.args.disc.now (shape c.new-plan.result) c.new-plan.ensures c.requires.taken; size = c.header_of-head.ensures.size }

pub is_same-requires-clause-sound : goal.is_same-requires-clause-sound
is_same-requires-clause-sound c = λ f l.
    let e : c.new-plan.result.files ≡ c.args.sizes.files = ap (λ (p : Shape). p.files) c.new-plan.ensures in
    (opened c.args.sizes c.args.disc.now f c.header_of-head.result.now (shape c.new-plan.result) c.new-plan.ensures c.requires.taken (omega arith)
    c.header_of-head.ensures.value).sound

pub returns-clause-yes : goal.returns-clause-yes
returns-clause-yes c = λ e.
    holds_if c.args.sizes c.args.disc.now (shape c.new-plan.result) c.header_of-head.result.now (map vec_items c.args.files.now) c.new-plan.ensures c.requires.taken
    c.header_of-head.ensures.value (length-map c.args.files.now vec_items ∙ c.if-files-sizes.false) (c.is_same.ensures.yes e)

pub returns-clause-no : goal.returns-clause-no
returns-clause-no c = λ e h.
    c.is_same.ensures.no e
    (if_holds c.args.sizes c.args.disc.now (shape c.new-plan.result) c.header_of-head.result.now (map vec_items c.args.files.now) c.new-plan.ensures h c.header_of-head.ensures.value)
