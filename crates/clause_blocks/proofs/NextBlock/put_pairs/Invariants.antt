use Rattle.clause_blocks.specs.Texts.{pairs_text}
use Rattle.clause_numerals.specs.Numerals.{held}
use Rattle.digits.specs.Bytes.{Wrote}
use Rattle.clause_blocks.proofs.NextBlock.put_pairs.Given as goal

abbrev pub invariant-loop-j : goal.invariant-loop-j
invariant-loop-j l = Wrote (pairs_text l.self.sizes l.self.atom.0 l.j (held l.self.u) (held l.self.v)) l.initial.buf l.buf l.at
