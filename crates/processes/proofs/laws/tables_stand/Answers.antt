use Rattle.processes.proofs.Standing.{same_of_tables, tabled_memory, tabled_others, handles_lead}
use Rattle.processes.proofs.laws.tables_stand.Goals as goal

pub returns : goal.returns
returns c = record { rows = same_of_tables; memory = tabled_memory; others = tabled_others; handles = handles_lead }
