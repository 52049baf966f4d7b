use borrow.Author.Rules.{sfits_of}
use mathlib.Core.Path.{◌∙◌, ap, sym, subst}
use Prim.Native.Nat.{◌<◌, ◌^◌}
use lib.IntN.{ℤ, neg_ℤ, nat_abs}
use mir.Syntax.{w32}
use mir.Facts.{to_z-of_z}
use Rattle.answer_words.proofs.negative.Goals as goal

pub negate-requires : goal.negate-requires
negate-requires c = subst (λ (x : ℤ). nat_abs x < 2 ^ 31) (sym (to_z-of_z (sfits_of {w = w32} c.positive.type_inv) ∙ c.positive.ensures)) c.requires

pub returns : goal.returns
returns c = to_z-of_z (sfits_of {w = w32} c.negate.type_inv) ∙ c.negate.ensures ∙ ap neg_ℤ (to_z-of_z (sfits_of {w = w32} c.positive.type_inv) ∙ c.positive.ensures)
