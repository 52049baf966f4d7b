-- The regions of the table of a stored program, written one after the other.
--   arrays_fit       what the copies of the arrays need
--   arrays_laid      what they leave of cells that are all 0
--   set_before, sets_partners, sets_owners    what is said of the pairs
-- Assumes nothing.
use Prim.Native.Nat.{ℕ, ◌+◌, ◌*◌, ◌≤◌, ◌<◌}
use native.Mathlib.Nat.{sub-zero}
use native.Mathlib.Omega.{arith}
use mathlib.Core.Path.{◌≡◌, refl, sym, ◌∙◌, ap, ap₂}
use mathlib.Core.List.{List, [], ◌∷◌, ◌++◌}
use lib.ListN.{length, set, take, replicate, length-replicate}
use lib.Seq.{sets, take_at, length-take-le}
use Rattle.lists.specs.Lists.{joined}
use Rattle.program.specs.declared.Program.{Program as Arrays}
use Rattle.clause_tables.specs.Tables.{Stored}
use Rattle.clause_tabling.specs.Stages.{copied, laid, with_arrays}
use Rattle.clause_tabling.proofs.Stores.{sets_pad}
use Rattle.clause_tabling.proofs.Regions.{total, sets_region, set_region}
use Rattle.clause_tabling.proofs.Held.{Held, held_length, heads_held, bodies_held, starts_held, many_heads, many_bodies}

-- the first elements of an array with zeros after them, stored in zeros
filled_up : (n k : ℕ) (ys : List ℕ) → Held n k ys → sets (replicate n 0) 0 (take k ys) ≡ ys
filled_up n k ys h =
    ap (λ (zs : List ℕ). sets (replicate n 0) 0 (take k zs)) h.is_pad
    ∙ ap₂ (λ (j : ℕ) (zs : List ℕ). sets (replicate j 0) 0 zs) (sym (sub-zero n)) (take_at h.list _ k (sym h.list_length))
    ∙ sets_pad [] h.list n (omega (arith, h.list_length, h.few))
    ∙ sym h.is_pad

abbrev zeros : ℕ → List ℕ
zeros k = replicate k 0

-- the same in one of several lists
region_copied : (xss yss : List (List ℕ)) (n k j : ℕ) (ys : List ℕ) → j ≡ total xss + 0 → Held n k ys
    → sets (joined (xss ++ (zeros n ∷ yss))) j (take k ys) ≡ joined (xss ++ (ys ∷ yss))
region_copied xss yss n k j ys e h =
    sets_region xss (zeros n) yss (take k ys) 0 j e
    (omega (arith, length-take-le k ys (omega (arith, held_length n k ys h, h.few)), h.few, length-replicate {A = ℕ} n 0))
    ∙ ap (λ (zs : List ℕ). joined (xss ++ (zs ∷ yss))) (filled_up n k ys h)

-- the two regions of the links, and the six last regions, with nothing written
abbrev ends : List (List ℕ)
ends = zeros 126 ∷ zeros 500 ∷ []

abbrev empties : List (List ℕ)
empties = zeros 501 ∷ zeros 500 ∷ zeros 500 ∷ zeros 1001 ∷ ends

module _ (A : Arrays) (s : Stored A) where
  -- ---- the arrays

  pub arrays_fit : (A.rules ≤ 500) × (A.held ≤ 500)
  arrays_fit = ((heads_held A s).few, (bodies_held A s).few)

  heads_laid : sets (zeros 4144) 16 (take A.rules A.heads) ≡ joined (zeros 16 ∷ A.heads ∷ zeros 500 ∷ empties)
  heads_laid = region_copied (zeros 16 ∷ []) (zeros 500 ∷ empties) 500 A.rules 16 A.heads refl (heads_held A s)

  bodies_laid : sets (joined (zeros 16 ∷ A.heads ∷ zeros 500 ∷ empties)) 516 (take A.held A.bodies)
      ≡ joined (zeros 16 ∷ A.heads ∷ A.bodies ∷ empties)
  bodies_laid = region_copied (zeros 16 ∷ A.heads ∷ []) empties 500 A.held 516 A.bodies (omega (arith, many_heads A s)) (bodies_held A s)

  starts_laid : sets (joined (zeros 16 ∷ A.heads ∷ A.bodies ∷ empties)) 2517 (take (2 * A.rules + 1) A.starts)
      ≡ laid A (zeros 501) (zeros 500) (zeros 500)
  starts_laid =
      region_copied (zeros 16 ∷ A.heads ∷ A.bodies ∷ zeros 501 ∷ zeros 500 ∷ zeros 500 ∷ []) ends 1001 (2 * A.rules + 1) 2517 A.starts
      (omega (arith, many_heads A s, many_bodies A s)) (starts_held A s)

  pub arrays_laid : (t t' : List ℕ) → t ≡ replicate 4144 0 → t' ≡ copied t A → t' ≡ with_arrays A
  unfolding with_arrays
  arrays_laid t t' e e' =
      e' ∙ ap (λ (x : List ℕ). copied x A) e
      ∙ ap (λ (x : List ℕ). sets (sets x 516 (take A.held A.bodies)) 2517 (take (2 * A.rules + 1) A.starts)) heads_laid
      ∙ ap (λ (x : List ℕ). sets x 2517 (take (2 * A.rules + 1) A.starts)) bodies_laid ∙ starts_laid

  -- ---- the pairs

  module _ (ks xs ys : List ℕ) (many : length ks ≡ 501) where
    pub set_before : (r x : ℕ) → r < 501 → set (laid A ks xs ys) (1016 + r) x ≡ laid A (set ks r x) xs ys
    set_before r x h =
        set_region (zeros 16 ∷ A.heads ∷ A.bodies ∷ []) ks (xs ∷ ys ∷ A.starts ∷ ends) x r (1016 + r)
        (omega (arith, many_heads A s, many_bodies A s)) (omega (arith, many, h))

    module _ (full : length xs ≡ 500) where
      pub sets_partners : (k : ℕ) (zs : List ℕ) → k + length zs ≤ 500 → sets (laid A ks xs ys) (1517 + k) zs ≡ laid A ks (sets xs k zs) ys
      sets_partners k zs h =
          sets_region (zeros 16 ∷ A.heads ∷ A.bodies ∷ ks ∷ []) xs (ys ∷ A.starts ∷ ends) zs k (1517 + k)
          (omega (arith, many_heads A s, many_bodies A s, many)) (omega (arith, full, h))

      pub sets_owners : (k : ℕ) (zs : List ℕ) → length ys ≡ 500 → k + length zs ≤ 500 → sets (laid A ks xs ys) (2017 + k) zs ≡ laid A ks xs (sets ys k zs)
      sets_owners k zs also h =
          sets_region (zeros 16 ∷ A.heads ∷ A.bodies ∷ ks ∷ xs ∷ []) ys (A.starts ∷ ends) zs k (2017 + k)
          (omega (arith, many_heads A s, many_bodies A s, many, full)) (omega (arith, also, h))
