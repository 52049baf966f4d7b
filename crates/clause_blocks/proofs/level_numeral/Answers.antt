use Rattle.clause_blocks.proofs.NextBlocks.{level_short, number_short}
use Rattle.encoding.specs.Literal.{var}
use Rattle.clause_literals.specs.Sizes.{Bounded}
use mathlib.Core.Path.{subst, ap, ◌∙◌}
use Rattle.clause_blocks.proofs.level_numeral.Goals as goal

pub new-requires : goal.new-requires
new-requires c = number_short c.level_var.ensures (level_short c.args.s (subst Bounded c.s.view_is c.s.invariant) c.args.a.0 c.requires.1 c.args.j c.requires.2 c.requires.3)

pub returns : goal.returns
returns c = c.new.ensures ∙ ap var c.level_var.ensures
