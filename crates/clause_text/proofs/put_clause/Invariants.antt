use Rattle.std.specs.Prelude.{length, take}
use Rattle.clause_layout.specs.Clauses.{literals_of}
use Rattle.digits.specs.Bytes.{literals_text, Wrote}
use Rattle.clause_text.proofs.put_clause.Given as goal

abbrev pub invariant-loop-x : goal.invariant-loop-x
invariant-loop-x l = Wrote (literals_text (take (length l.yielded) (literals_of l.c))) l.initial.buf l.buf l.to
