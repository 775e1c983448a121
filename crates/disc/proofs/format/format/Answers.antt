use Rattle.std.proofs.Common.{◌≡◌, ℕ, map, length, vec_items, refl, subst, arith}
use Rattle.std.proofs.lemmas.Result.{err_from_is_err_and}
use Rattle.disc.specs.Format.{Planned}
use Rattle.disc.specs.Plans.{shape}
use Rattle.disc.proofs.Images.{fits_never, laid_bare, holds_by}
use Rattle.disc.proofs.format.format.Goals as goal

pub returns-in_err-plan : goal.returns-in_err-plan
returns-in_err-plan c =
    let p = err_from_is_err_and c.from_residual.result c.from_residual.ensures.1 in
    let m = c.in_err-plan.ensures.value in
    rw (p.1, p.2) (record { value = m; same = refl; fits = λ f s. absurd (fits_never _ _ _ _ f s m) })

pub put_files-requires : goal.put_files-requires
put_files-requires c =
    let e : length c.args.image.now ≡ length c.put_sizes.new.image = omega arith in
    record { planned = subst (λ (n : ℕ). Planned (shape c.in_ok-plan.plan) (map vec_items c.args.files.now) n) e c.in_ok-plan.ensures.plan }

pub returns : goal.returns
returns c =
    let v = c.in_ok-plan.ensures.value in
    let f = c.in_ok-plan.ensures.fits in
    let p = c.in_ok-plan.ensures.plan in
    let size = v.1 in
    let l = laid_bare c.args.sizes (shape c.in_ok-plan.plan) (map vec_items c.args.files.now) c.fill.new.self c.put_sizes.new.image (length c.args.image.now) p.size
    (c.fill.ensures.after (λ y e. e)) (omega arith) c.put_sizes.ensures.name c.put_sizes.ensures.sizes c.put_sizes.ensures.others in
    record {
      value = (
        holds_by c.args.sizes (shape c.in_ok-plan.plan) (map vec_items c.args.files.now) c.put_files.new.image v.0 f.0.0 f.0.1 f.1
            (c.put_files.ensures c.args.sizes l) (λ k. let t = c.type_inv.image k in omega arith),
        omega arith,
      );
      same = tt;
      fits = λ _ _. refl;
    }
