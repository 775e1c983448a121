use Rattle.std.proofs.Common.{◌≡◌, ℕ, [], map, get_or, vec_items, sym, ap, ◌∙◌, subst, arith}
use Rattle.std.proofs.lemmas.List.{length-map, get_or-map}
use Rattle.disc.specs.Format.{Laid}
use Rattle.disc.specs.Plans.{shape}
use Rattle.disc.proofs.Images.{laid_step}
use Rattle.disc.proofs.format.put_files.Goals as goal
use Rattle.disc.proofs.format.put_files.Goals.{After-deref}

-- the file that is put is the one at its place
row : (c : After-deref) → c.deref.result.now ≡ get_or (map vec_items c.args.files.now) c.loop-f.f []
row c = c.deref.ensures.value ∙ ap vec_items c.index-files-f.is ∙ sym (get_or-map vec_items c.args.files.now c.loop-f.f c.index-files-f.result [] (omega arith))

pub put_file-requires-clause-short : goal.put_file-requires-clause-short
put_file-requires-clause-short c =
    let m = c.requires.planned.count in
    let n = length-map c.args.files.now vec_items in
    let o = c.requires.planned.short c.loop-f.f (omega arith) in
    rw (row c) o

pub loop-f-preserved : goal.loop-f-preserved
loop-f-preserved c =
    λ z h.
    let m = c.requires.planned.count in
    let n = length-map c.args.files.now vec_items in
    laid_step z (shape c.args.plan) _ c.loop-f.f c.loop-f.image c.put_file.new.image _ c.requires.planned.fit (c.loop-f.invariant z h) (omega arith) c.requires.planned.short (omega arith)
    (row (goal.at.loop-f-preserved c).After-deref) c.put_file.ensures.long c.put_file.ensures.held c.put_file.ensures.others

pub returns : goal.returns
returns c = λ z h.
    let m = c.requires.planned.count in
    let n = length-map c.args.files.now vec_items in
    let e : c.loop-f.f ≡ c.args.plan.files = omega arith in
    subst (λ (i : ℕ). Laid z (shape c.args.plan) (map vec_items c.args.files.now) i c.loop-f.image) e (c.loop-f.invariant z h)
