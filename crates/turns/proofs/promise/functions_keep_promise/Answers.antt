use Rattle.turns.specs.Promise.{system_of}
use Rattle.turns.proofs.Lives.{keeps_promise, same_shown_by, comes_up_by}
use Rattle.turns.proofs.promise.functions_keep_promise.Goals as goal

pub returns : goal.returns
returns g c =
    let f = g.S.MachineByFunctions.functions in
    let k = keeps_promise (system_of f) g.S.MachineByFunctions.owed in
    record { shown = same_shown_by f k; up = comes_up_by f k; writes = g.S.MachineByFunctions.changes; all = g.S.MachineByFunctions.room }
