use Rattle.std.proofs.Common.{[]}
use Rattle.disc.proofs.Rows.{puts_lasting, puts_left, puts_other, gone_or_done}
use Rattle.disc.proofs.blocks.writes_go_out.Goals as goal

pub returns : goal.returns
returns c = record { lasting = puts_lasting; left = puts_left; others = λ p d ws t k a. puts_other p d ws t k [] a; either = gone_or_done }
