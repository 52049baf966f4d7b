-- The lines of whole bits of chains.
--   first_bit, next_bit    the lines of a chain's bit, from its literals
-- Assumes nothing.
use Prim.Native.Nat.{ℕ}
use mathlib.Core.Path.{◌≡◌, sym, ◌∙◌, ap, ap₂}
use mathlib.Core.Bool.{Bool, cond}
use mathlib.Core.List.{List, [], ◌∷◌, ◌++◌, append_assoc}
use lib.Dec.{eqb}
use borrow.Author.Tests.{ne_eqb}
use Rattle.lists.specs.Lists.{each}
use Rattle.encoding.specs.Literal.{Literal, var, −◌}
use Rattle.digits.specs.Bytes.{line_text}
use Rattle.clause_walk.specs.Walk.{chain_first, chain_next}
use Rattle.clause_chains.specs.declared.Chain.{Chain}
use Rattle.clause_bits.specs.BitTexts.{starts_text, ends_text, half_text, first_text, next_text, bit_text}

regroup : (a b c d : List ℕ) → a ++ ((b ++ c) ++ d) ≡ ((a ++ b) ++ c) ++ d
regroup a b c d = sym (append_assoc a (b ++ c) d) ∙ ap (λ (t : List ℕ). t ++ d) (sym (append_assoc a b c))

-- ---- the lines of a chain's bit

module _ (c : Chain) (i : ℕ) where
  abbrev z : ℕ
  z = c.z.0

  abbrev x : ℕ
  x = c.x.0

  abbrev y : ℕ
  y = c.y.0

  abbrev g : ℕ
  g = c.g.0

  first_lines : i ≡ 1 → first_text (var z) (var x) (var y) ≡ bit_text c i
  unfolding first_text starts_text
  first_lines q = ap (bit_text c) (sym q)

  -- by the test for the first bit
  abbrev lines_by : Bool → List ℕ
  lines_by d =
      each (cond d 3 6)
      (λ n. line_text (each (cond d (cond (eqb n 3) 3 2) 3) (λ l. (cond d (chain_first z x y n l) (chain_next z x y g n l) ∷ []))))

  next_lines : (i ≡ 1 → ⊥) → next_text (var z) (var x) (var y) (var g) ≡ bit_text c i
  unfolding next_text half_text ends_text
  next_lines q =
      regroup (half_text (− z) (− x) (var y) (var g)) (line_text (var z ∷ var x ∷ − y ∷ [])) (line_text (var z ∷ var x ∷ − g ∷ [])) (line_text (var z ∷ − y ∷ − g ∷ []))
      ∙ sym (ap lines_by (ne_eqb i 1 q))

  -- from the literals that code has
  module _ {k l m : Literal} (e : k ≡ var z) (f : l ≡ var x) (h : m ≡ var y) where
    pub first_bit : i ≡ 1 → first_text k l m ≡ bit_text c i
    first_bit q = ap (λ (k : Literal). first_text k l m) e ∙ ap₂ (λ (l m : Literal). first_text (var z) l m) f h ∙ first_lines q

    pub next_bit : {n : Literal} → n ≡ var g → (i ≡ 1 → ⊥) → next_text k l m n ≡ bit_text c i
    next_bit {n} p q =
        ap₂ (λ (k l : Literal). next_text k l m n) e f ∙ ap₂ (λ (m n : Literal). next_text (var z) (var x) m n) h p ∙ next_lines q
