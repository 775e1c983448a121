use Rattle.std.proofs.Common.{◌≡◌, Some, None, Option, get_or, refl, sym, ◌∙◌, rules, tests}
use Rattle.std.specs.Option.{option_map}
use Rattle.std.proofs.lemmas.Iterator.{YieldsList-from_range}
use Rattle.std.proofs.lemmas.Iterator.Search.{find_from_yields_List}
use Rattle.inputs.proofs.lines.Line.find.Goals as goal

same : {A : Type 0} (o : Option A) → option_map (λ x. x) o ≡ o
same None = refl
same (Some x) = refl

pub returns : goal.returns
returns g c = λ p h. sym (same c.find.result) ∙ find_from_yields_List (λ k. p (get_or c.args.self.now.text.now k 0)) _ _ c.find.result c.find.ensures.ran (YieldsList-from_range c.args.self.now.at c.args.self.now.end _ refl refl) (λ x r q k. search (rules, h, tests))
