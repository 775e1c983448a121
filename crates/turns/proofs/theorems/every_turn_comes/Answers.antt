use Rattle.turns.proofs.Turns.{turn_comes}
use Rattle.turns.proofs.theorems.every_turn_comes.Goals as goal

pub returns : goal.returns
returns g c = turn_comes _
