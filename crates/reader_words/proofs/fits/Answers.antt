use mathlib.Core.Logic.{inl, inr}
use native.Mathlib.Omega.{arith}
use borrow.Author.Tests.{lt-ltb, le-ltb, le-leb, lt-leb}
use Rattle.reader_words.specs.Standing.{fits_at}
use Rattle.reader_words.proofs.fits.Goals as goal
use Rattle.reader_words.proofs.fits.Goals.{then-a-from, else-a-from}

pub returns-then-s-a : goal.returns-then-s-a
unfolding fits_at
returns-then-s-a c = simp (le-ltb c.args.s.atoms c.args.a.0 (omega (arith, c.if-s-a.true, c.from.ensures)), lt-leb _ _ c.if-s-a.true.1)

pub returns-else-s-a : goal.returns-else-s-a
unfolding fits_at
returns-else-s-a c =
    elim c.if-a-from.branch [
      | then-a-from w ↦
          elim c.if-s-a.either [
            | inl p ↦ simp (w.t-4-is, le-ltb _ _ p.1, le-ltb c.args.s.atoms c.args.a.0 (omega (arith, p.0, c.from.ensures)), le-leb _ _ p.1)
            | inr q ↦ absurd (omega (arith, q, w.if-a-from.true))
          ]
      | else-a-from w ↦ simp (w.t-4-is, lt-leb _ _ w.if-a-from.false, lt-ltb c.args.s.atoms c.args.a.0 (omega (arith, w.if-a-from.false, c.from.ensures)))
    ]
