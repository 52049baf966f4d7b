use mathlib.Core.Path.{refl, sym, ◌∙◌}
use borrow.Author.Rules.{rules}
use native.Mathlib.Omega.{arith}
use Rattle.clause_heads.proofs.NextHeads.{next_eights}
use Rattle.clause_heads.proofs.past_eights.Goals as goal

pub loop-i-init : goal.loop-i-init
loop-i-init c = (c.requires.1, refl)

pub loop-i-preserved : goal.loop-i-preserved
loop-i-preserved c = (search rules, next_eights c.args.a.0 c.args.heads.now c.loop-i.i 8 (omega arith) c.loop-i-test.true (sym c.among.ensures ∙ c.if-among.false) ∙ c.loop-i.invariant.1)
