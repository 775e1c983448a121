use Rattle.std.proofs.Common.{Some, sym, ap, ◌∙◌}
use Rattle.turns.specs.Core.Act.{quiet}
use Rattle.rv32.specs.Execute.{finished}
use Rattle.rv32.specs.Act.{completed, effected}
use Rattle.rv32.proofs.Stepping.{not_fetched, carried, not_loaded, has_loaded, not_stored, has_stored}
use Rattle.rv32.proofs.memory.act.Goals as goal

pub returns-in_err-at-clause-value : goal.returns-in_err-at-clause-value
returns-in_err-at-clause-value c = rw c.from_residual.ensures (sym (not_fetched _ _ c.in_err-at.ensures.meets))

pub returns-in_err-execute-clause-value : goal.returns-in_err-execute-clause-value
unfolding completed effected
returns-in_err-execute-clause-value c =
    let f = carried _ _ _ _ _ _ c.in_ok-at.ensures.meets c.read.ensures c.in_err-execute.ensures.value c.in_err-execute.ensures.after in
    rw c.from_residual-in_err-execute.ensures (sym f)

pub returns-in_err-at-in-Load-clause-value : goal.returns-in_err-at-in-Load-clause-value
returns-in_err-at-in-Load-clause-value c =
    let f = carried _ _ _ _ _ _ c.in_ok-at.ensures.meets c.read.ensures (ap Some (sym c.in-Load.is) ∙ c.in_ok-execute.ensures.value) c.in_ok-execute.ensures.after in
    rw c.from_residual-in_err-at-in-Load.ensures (sym (f ∙ not_loaded _ _ _ _ _ (rw c.load_size.ensures.value at c.in_err-at-in-Load.ensures.meets)))

pub returns-in_err-place-in-Store-clause-value : goal.returns-in_err-place-in-Store-clause-value
returns-in_err-place-in-Store-clause-value c =
    let f = carried _ _ _ _ _ _ c.in_ok-at.ensures.meets c.read.ensures (ap Some (sym c.in-Store.is) ∙ c.in_ok-execute.ensures.value) c.in_ok-execute.ensures.after in
    rw c.from_residual-in_err-place-in-Store.ensures (sym (f ∙ not_stored _ _ _ _ _ (rw c.store_size.ensures.value at c.in_err-place-in-Store.ensures.meets)))

pub returns-in-Quiet-clause-value : goal.returns-in-Quiet-clause-value
unfolding completed effected
returns-in-Quiet-clause-value c =
    sym (carried _ _ _ _ _ _ c.in_ok-at.ensures.meets c.read.ensures (ap Some (sym c.in-Quiet.is) ∙ c.in_ok-execute.ensures.value) c.in_ok-execute.ensures.after)

pub returns-in_ok-at-in-Load-clause-value : goal.returns-in_ok-at-in-Load-clause-value
returns-in_ok-at-in-Load-clause-value c =
    let f = carried _ _ _ _ _ _ c.in_ok-at.ensures.meets c.read.ensures (ap Some (sym c.in-Load.is) ∙ c.in_ok-execute.ensures.value) c.in_ok-execute.ensures.after in
    ap quiet (c.finish.ensures ∙ ap (finished c.execute.new.self c.in-Load.rd) (rw c.in_ok-at-in-Load.ensures.meets.1 at c.load.ensures))
    ∙ sym (f ∙ has_loaded _ _ _ _ _ (rw c.load_size.ensures.value at c.in_ok-at-in-Load.ensures.meets.0))

pub returns-in_ok-place-in-Store-clause-value : goal.returns-in_ok-place-in-Store-clause-value
returns-in_ok-place-in-Store-clause-value c =
    let f = carried _ _ _ _ _ _ c.in_ok-at.ensures.meets c.read.ensures (ap Some (sym c.in-Store.is) ∙ c.in_ok-execute.ensures.value) c.in_ok-execute.ensures.after in
    sym (f ∙ has_stored _ _ _ _ _ (rw c.store_size.ensures.value at c.in_ok-place-in-Store.ensures.meets.0))

pub returns-in-Call-clause-value : goal.returns-in-Call-clause-value
unfolding completed effected
returns-in-Call-clause-value c =
    sym (carried _ _ _ _ _ _ c.in_ok-at.ensures.meets c.read.ensures (ap Some (sym c.in-Call.is) ∙ c.in_ok-execute.ensures.value) c.in_ok-execute.ensures.after)
