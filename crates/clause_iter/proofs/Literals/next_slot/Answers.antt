use native.Mathlib.Omega.{arith}
use Rattle.clause_iter.proofs.Next.{rules_few, past_few}
use Rattle.clause_iter.proofs.Literals.next_slot.Goals as goal

pub past_empty-requires : goal.past_empty-requires
past_empty-requires c = (rules_few c.args.self.now, omega (arith, c.if-self-eq0.false))

pub overflow_add-result : goal.overflow_add-result
overflow_add-result c = omega (arith, c.past_empty.ensures, past_few c.args.self.now (omega (arith, c.if-self-eq0.false)))
