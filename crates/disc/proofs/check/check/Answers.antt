use Rattle.std.proofs.lemmas.Result.{err_from_is_err_and}
use Rattle.disc.proofs.Verdicts.{refused_first, refused_frames, passed_frames, none_if}
use Rattle.disc.proofs.check.check.Goals as goal

pub returns-in_err-sizes-clause-value : goal.returns-in_err-sizes-clause-value
returns-in_err-sizes-clause-value c =
    let p = err_from_is_err_and c.from_residual.result c.from_residual.ensures.1 in rw (p.1, p.2) (refused_first _ _ _ c.in_err-sizes.ensures.value)

pub returns-in_err-check_frames-clause-value : goal.returns-in_err-check_frames-clause-value
returns-in_err-check_frames-clause-value c =
    let p = err_from_is_err_and c.from_residual-in_err-check_frames.result c.from_residual-in_err-check_frames.ensures.1 in
    let s = none_if c.args.disc.now c.in_ok-sizes.sizes c.in_ok-sizes.ensures.taken in
    rw (p.1, p.2) (refused_frames _ _ _ _ s.0 s.1 c.in_err-check_frames.ensures)

pub returns-clause-value : goal.returns-clause-value
returns-clause-value c =
    let s = none_if c.args.disc.now c.in_ok-sizes.sizes c.in_ok-sizes.ensures.taken in passed_frames _ _ _ s.0 s.1 c.in_ok-check_frames.ensures
