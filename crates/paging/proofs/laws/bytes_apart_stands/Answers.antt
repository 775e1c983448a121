use Rattle.paging.proofs.Standing.{bytes_apart}
use Rattle.paging.proofs.laws.bytes_apart_stands.Goals as goal

pub returns : goal.returns
returns c = bytes_apart
