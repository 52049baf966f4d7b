-- The line of the variables that were assumed, and the lines of a model.
--   assumed_none, assumed_some    its text where the count is 0, and where it is not
--   assumed_small, shown_room     it has at most 31 bytes, and 1,131 bytes are room for it and the line of the model
-- Assumes nothing.
use Prim.Native.Nat.{ℕ, ◌^◌, ◌≤◌, ◌<◌}
use native.Mathlib.Omega.{arith}
use mathlib.Core.Path.{◌≡◌, ap}
use mathlib.Core.Bool.{Bool, true, false, cond}
use mathlib.Core.List.{List, [], ◌++◌}
use lib.Dec.{eqb}
use lib.ListN.{length, get_or, length-append}
use borrow.Author.Tests.{eq-eqb, ne_eqb}
use Rattle.lists.specs.Ascii.{ascii}
use Rattle.text.specs.Decimal.{decimal}
use Rattle.digits.proofs.Lengths.{decimal_fits}
use Rattle.checker_model.specs.Model.{model_text, assumed_text, shown_model}
use Rattle.checker_model.proofs.Parts.{model_small}

module _ (c : ℕ) where
  -- the text of a count that is not 0
  abbrev some : List ℕ
  some = ascii "(assumed " ++ (decimal c ++ ascii ")\n")

  pub assumed_none : c ≡ 0 → assumed_text c ≡ []
  unfolding assumed_text
  assumed_none e = ap (λ (d : Bool). cond d [] some) (eq-eqb c 0 e)

  pub assumed_some : (c ≡ 0 → ⊥) → assumed_text c ≡ some
  unfolding assumed_text
  assumed_some e = ap (λ (d : Bool). cond d [] some) (ne_eqb c 0 e)

  pub assumed_small : c < 2 ^ 64 → length (assumed_text c) ≤ 31
  unfolding assumed_text ascii
  assumed_small h = go (eqb c 0)
    where
      go : (d : Bool) → length (cond d [] some) ≤ 31
      go true = omega arith
      go false =
          omega (arith, length-append (ascii "(assumed ") (decimal c ++ ascii ")\n"), length-append (decimal c) (ascii ")\n"), decimal_fits 19 c (omega (arith, h)))

-- both lines
pub shown_room : (n c : ℕ) (bs ls : List ℕ) {m : ℕ} → n ≤ 126 → ((i : ℕ) → get_or ls i 0 < 256) → c < 2 ^ 64 → 1131 ≤ m → length (shown_model n c bs ls) ≤ m
shown_room n c bs ls h f k l = omega (arith, length-append (assumed_text c) (model_text n bs ls), assumed_small c k, model_small n bs ls h f, l)
