use Rattle.std.proofs.Common.{◌≡◌, Ok, sym, ap, ◌∙◌, subst, arith}
use Rattle.std.proofs.lemmas.Result.{err_from_is_err_and}
use Rattle.turns.specs.Ranges.{InRange}
use Rattle.turns.specs.declared.vocabulary.Sizes.{Sizes}
use Rattle.disc.specs.Blocks.{blocks}
use Rattle.disc.specs.Layout.{Shape, plan_of, room}
use Rattle.disc.specs.Check.{first_out, first_wrong, size_refusal, block_refusal, disc_sizes, TakenBytes}
use Rattle.disc.specs.Plans.{shape}
use Rattle.disc.proofs.Verdicts.{refused_1, refused_2, refused_3, refused_4, passed_4, taken_if, none_if, never_refused}
use Rattle.disc.proofs.check.check_disc.Goals as goal

pub returns-in_err-check_length : goal.returns-in_err-check_length
returns-in_err-check_length c =
    let p = err_from_is_err_and c.from_residual.result c.from_residual.ensures.1 in
    let e = refused_1 c.args.disc.now _ c.in_err-check_length.ensures.value in
    rw (p.1, p.2) (record { value = e; taken = tt; only = λ z t. absurd (never_refused _ _ z e t) })

pub returns-in_err-check_name : goal.returns-in_err-check_name
returns-in_err-check_name c =
    let p = err_from_is_err_and c.from_residual-in_err-check_name.result c.from_residual-in_err-check_name.ensures.1 in
    let e = refused_2 c.args.disc.now _ c.in_ok-check_length.ensures.value c.in_err-check_name.ensures in
    rw (p.1, p.2) (record { value = e; taken = tt; only = λ z t. absurd (never_refused _ _ z e t) })

pub returns-in_err-check_sizes : goal.returns-in_err-check_sizes
returns-in_err-check_sizes c =
    let p = err_from_is_err_and c.from_residual-in_err-check_sizes.result c.from_residual-in_err-check_sizes.ensures.1 in
    let s = c.sizes_of-sizes.ensures in
    let e = refused_3 c.args.disc.now _ c.in_ok-check_length.ensures.value c.in_ok-check_name.ensures
    (ap (λ (z : Sizes). size_refusal (first_out z)) (sym s) ∙ c.in_err-check_sizes.ensures.value) in
    rw (p.1, p.2) (record { value = e; taken = tt; only = λ z t. absurd (never_refused _ _ z e t) })

pub returns-in_err-check_blocks : goal.returns-in_err-check_blocks
returns-in_err-check_blocks c =
    let p = err_from_is_err_and c.from_residual-in_err-check_blocks.result c.from_residual-in_err-check_blocks.ensures.1 in
    let s = c.sizes_of-sizes.ensures in
    let q : shape c.new.result ≡ plan_of (disc_sizes c.args.disc.now) = c.new.ensures ∙ ap plan_of s in
    let e = refused_4 c.args.disc.now _ c.in_ok-check_length.ensures.value c.in_ok-check_name.ensures
    (ap (λ (z : Sizes). size_refusal (first_out z)) (sym s) ∙ c.in_ok-check_sizes.ensures.value)
    (ap (λ (g : Shape). block_refusal (room g) (first_wrong g (blocks c.args.disc.now))) (sym q) ∙ c.in_err-check_blocks.ensures) in
    rw (p.1, p.2) (record { value = e; taken = tt; only = λ z t. absurd (never_refused _ _ z e t) })

pub returns : goal.returns
returns c =
    let s = c.sizes_of-sizes.ensures in
    let w = c.in_ok-check_length.ensures.whole in
    let q : shape c.new.result ≡ plan_of (disc_sizes c.args.disc.now) = c.new.ensures ∙ ap plan_of s in
    let b = ap (λ (g : Shape). block_refusal (room g) (first_wrong g (blocks c.args.disc.now))) (sym q) ∙ c.in_ok-check_blocks.ensures in
    record {
      value = passed_4 c.args.disc.now c.in_ok-check_length.ensures.value c.in_ok-check_name.ensures
          (ap (λ (z : Sizes). size_refusal (first_out z)) (sym s) ∙ c.in_ok-check_sizes.ensures.value) b;
      taken = subst (λ (z : Sizes). TakenBytes z c.args.disc.now) (sym s)
          (taken_if c.args.disc.now (λ k. let t = c.type_inv.disc k in omega arith) w.0 w.1 w.2 c.in_ok-check_name.ensures
          (subst InRange s c.in_ok-check_sizes.ensures.range) b);
      only = λ z t. ap Ok (s ∙ (none_if c.args.disc.now z t).1);
    }
