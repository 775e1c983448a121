use Rattle.paging.proofs.Standing.{finds_pages}
use Rattle.paging.proofs.laws.finds_pages_stands.Goals as goal

pub returns : goal.returns
returns c = finds_pages
