-- A plan of the code as the shape that the definitions speak of. Assumes nothing: these are definitions.
use Rattle.disc.specs.Layout.{Shape}
use Rattle.disc.specs.declared.plan.Plan.{Plan}

abbrev pub shape : Plan → Shape
shape p = record { files = p.files; size = p.size; each = p.each; head = p.head }
