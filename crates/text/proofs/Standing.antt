-- What stands where in a text, by what is left of it from a place on (`drop`).
--   behind, next, element, inside   where a list from place s on is known: what is left further on, and the element at s
--   stands                          where the text from s on begins with u, u stands at s
--   FreshAt t s v                   the text from s on is v, and the byte before it parts numbers
--   fresh                           after a byte that parts numbers
--   whole                           what then comes up to the next such byte stands whole
-- Assumes nothing.
use Prim.Native.Nat.{ℕ, zero, pred, ◌+◌, ◌<◌}
use native.Mathlib.Nat.{add-zero}
use native.Mathlib.Numerals.{add-one}
use native.Mathlib.Omega.{arith}
use mathlib.Core.Path.{◌≡◌, sym, ◌∙◌, ap}
use mathlib.Core.Bool.{So}
use mathlib.Core.List.{List, [], ◌∷◌, ◌++◌}
use lib.ListN.{length, take, drop, get_or, length-drop}
use lib.Seq.{take-append_seam, drop-append_seam, drop-drop, get_or-drop}
use Rattle.text.specs.Standing.{StandsAt, separates, WholeAt}

module _ {A : Type 0} (t : List A) (s : ℕ) where
  pub behind : (u v : List A) → drop s t ≡ u ++ v → drop (s + length u) t ≡ v
  behind u v e = sym (drop-drop (length u) s t) ∙ ap (drop (length u)) e ∙ drop-append_seam u v

  pub next : (x : A) (v : List A) → drop s t ≡ x ∷ v → drop (s + 1) t ≡ v
  next x v e = behind (x ∷ []) v e

  -- the first element from s on
  from : (d : A) → get_or t s d ≡ get_or (drop s t) 0 d
  from d = ap (λ (k : ℕ). get_or t k d) (sym (add-zero s)) ∙ sym (get_or-drop s t 0 d)

  pub element : (x : A) (v : List A) (d : A) → drop s t ≡ x ∷ v → get_or t s d ≡ x
  element x v d e = from d ∙ ap (λ (l : List A). get_or l 0 d) e

  pub inside : (x : A) (v : List A) → drop s t ≡ x ∷ v → s < length t
  inside x v e = omega (arith, ap length e, length-drop s t)

module _ (t : List ℕ) where
  pub stands : (s : ℕ) (u v : List ℕ) → drop s t ≡ u ++ v → StandsAt t s u
  stands s u v e = ap (take (length u)) e ∙ take-append_seam u v

  pub record FreshAt (s : ℕ) (v : List ℕ) : Type 0 where
    pub starts : zero < s
    pub before : So (separates (get_or t (pred s) 0))
    pub rest : drop s t ≡ v

  pub fresh : (g s b : ℕ) (v : List ℕ) → drop g t ≡ b ∷ v → So (separates b) → s ≡ g + 1 → FreshAt s v
  fresh g s b v e p q =
      record {
        starts = omega arith;
        before = ap (λ (k : ℕ). separates (get_or t (pred k) 0)) (q ∙ add-one g) ∙ ap separates (element t g b v 0 e) ∙ p;
        rest = ap (λ (k : ℕ). drop k t) q ∙ next t g b v e;
      }

  pub whole : (s : ℕ) (u v : List ℕ) → FreshAt s (u ++ v) → So (separates (get_or v 0 0)) → WholeAt t s u
  whole s u v f p =
      record {
        stands = stands s u v f.rest;
        starts = f.starts;
        before = f.before;
        behind = ap separates (from t (s + length u) 0 ∙ ap (λ (l : List ℕ). get_or l 0 0) (behind t s u v f.rest)) ∙ p;
      }
