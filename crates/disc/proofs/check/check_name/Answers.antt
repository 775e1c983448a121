use Rattle.std.proofs.Common.{sym, ◌∙◌}
use Rattle.std.proofs.lemmas.Bool.{cond-true, cond-false}
use Rattle.disc.proofs.Verdicts.{named_first}
use Rattle.disc.proofs.check.check_name.Goals as goal

pub returns-then-is_named : goal.returns-then-is_named
returns-then-is_named c = cond-true _ _ _ (named_first c.args.disc.now c.requires.within ∙ sym c.is_named.ensures ∙ c.if-is_named.true)

pub returns-else-is_named : goal.returns-else-is_named
returns-else-is_named c = cond-false _ _ _ (named_first c.args.disc.now c.requires.within ∙ sym c.is_named.ensures ∙ c.if-is_named.false)
