use Rattle.std.proofs.Common.{◌≡◌}
use Rattle.disc.specs.Blocks.{at, blocks}
use Rattle.disc.specs.Writes.{puts, spent_by, row_writes}
use Rattle.disc.proofs.blocks.put_row.Given as goal

abbrev pub invariant-loop-i : goal.invariant-loop-i
invariant-loop-i l =
    (blocks l.disc ≡ puts l.initial.power (blocks l.initial.disc) (row_writes l.first (at (blocks l.bytes)) l.i) l.torn)
    × (l.power ≡ spent_by l.initial.power (row_writes l.first (at (blocks l.bytes)) l.i))
