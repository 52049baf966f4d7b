use Rattle.truth_levels.proofs.ChainLaws.{body_after, head_after, next_after, below_after, next_below_after, pair_is}
use Rattle.truth_levels.specs.Levels.{chain_true}
use Rattle.truth_literals.specs.Values.{value_in}
use Rattle.clause_literals.specs.Sizes.{Bounded}
use Rattle.encoding.specs.Variables.{Sizes}
use native.Mathlib.Omega.{arith}
use mathlib.Core.Path.{◌∙◌, ap, subst}
use Rattle.truth_levels.proofs.pair_holds.Goals as goal

pub chain_holds-requires : goal.chain_holds-requires
chain_holds-requires c = let b = subst Bounded c.s.view_is c.s.invariant in omega (arith, ap (λ (S : Sizes). S.w) c.s.view_is, c.requires.some_bit, b.bits, below_after c.requires b c.below_var.ensures, body_after c.requires b c.level_var-x.ensures, head_after c.requires b c.level_var-y.ensures)

pub chain_holds-requires-2 : goal.chain_holds-requires-2
chain_holds-requires-2 c = let b = subst Bounded c.s.view_is c.s.invariant in omega (arith, ap (λ (S : Sizes). S.w) c.s.view_is, c.requires.some_bit, b.bits, next_below_after c.requires b c.next_below_var.ensures, next_after c.requires b c.next_var.ensures, head_after c.requires b c.level_var-y.ensures)

pub returns : goal.returns
returns c = let a = c.args in let A = value_in a.assignment.now in pair_is A a.s a.k.0 a.b.0 a.h.0 c.below_var.ensures c.level_var-x.ensures c.level_var-y.ensures
    c.next_below_var.ensures c.next_var.ensures (c.chain_holds.ensures ∙ ap (λ (S : Sizes). chain_true A S.w c.below_var.result.0 c.level_var-x.result.0 c.level_var-y.result.0) c.s.view_is) (c.chain_holds-2.ensures ∙ ap (λ (S : Sizes). chain_true A S.w c.next_below_var.result.0 c.next_var.result.0 c.level_var-y.result.0) c.s.view_is)
