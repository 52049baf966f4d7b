use Rattle.clause_blocks.specs.Texts.{lower_text}
use Rattle.digits.specs.Bytes.{Wrote}
use Rattle.clause_blocks.proofs.NextBlock.put_lower.Given as goal

abbrev pub invariant-loop-j : goal.invariant-loop-j
invariant-loop-j l = Wrote (lower_text l.self.sizes l.self.atom.0 l.j) l.initial.buf l.buf l.at
