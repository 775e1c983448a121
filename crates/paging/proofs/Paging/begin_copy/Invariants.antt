use Rattle.paging.specs.Tables.{byte_of}
use Rattle.paging.specs.Changes.{Begun}
use Rattle.paging.proofs.Paging.begin_copy.Given as goal

abbrev pub invariant-loop-page : goal.invariant-loop-page
invariant-loop-page l = Begun l.initial.self l.initial.frames l.self l.frames l.to l.page (byte_of l.initial.frames l.from)
