use native.Mathlib.Omega.{arith}
use Rattle.clause_iter.specs.Left.{numbers_left}
use Rattle.clause_iter.proofs.Left.{goes_on}
use Rattle.clause_iter.proofs.Next.{none_left, then_held, next_yielded}
use Rattle.clause_iter.proofs.LiteralsIterator.next.Goals as goal

pub returns-then-self-l-clause-steps : goal.returns-then-self-l-clause-steps
returns-then-self-l-clause-steps c = let e = none_left c.args.self.now c.next_slot-l.ensures (omega (arith, c.if-self-l.true)) in (e, e)

pub invariant_of-self : goal.invariant_of-self
invariant_of-self c =
    let s = c.args.self.now in
    record {
      rules_are = s.rules_are;
      slots_are = s.slots_are;
      done_held = λ h. then_held s c.next_slot-l.ensures (omega (arith, c.if-self-l.false));
    }

pub returns-clause-steps : goal.returns-clause-steps
returns-clause-steps c = next_yielded c.args.self.now c.next_slot-l.ensures (omega (arith, c.if-self-l.false)) c.slot.result c.slot.ensures

pub returns-clause-goes : goal.returns-clause-goes
returns-clause-goes c =
    goes_on numbers_left c.slot.result (next_yielded c.args.self.now c.next_slot-l.ensures (omega (arith, c.if-self-l.false)) c.slot.result c.slot.ensures)
