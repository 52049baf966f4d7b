-- The arrays of a stored program: each is a list, filled up with zeros.
--   rules_many       the program that arrays hold has as many rules as they say
--   Held n k ys      ys is a list of k elements, filled up with zeros to n
--   heads_held, bodies_held, starts_held    so are the arrays
--   many_heads, many_bodies, many_starts    their lengths
-- Assumes nothing.
use Prim.Native.Nat.{ℕ, zero, suc, ◌+◌, ◌*◌, ◌≤◌}
use native.Mathlib.Omega.{arith}
use mathlib.Core.Path.{◌≡◌, refl, sym, ◌∙◌, ap, subst}
use mathlib.Core.List.{List, [], ◌∷◌, map}
use lib.ListN.{length, length-map}
use Rattle.meaning.specs.Program.{Rule}
use Rattle.program.specs.declared.Program.{Program as Arrays}
use Rattle.program.specs.Arrays.{pad, kept, ends_of, rules_from, decoded}
use Rattle.program.proofs.Pads.{length_pad}
use Rattle.text.specs.Limits.{bodies_of}
use Rattle.clause_tables.specs.Tables.{Stored}

pub rules_many : (A : Arrays) → length (decoded A).rules ≡ A.rules
unfolding decoded
rules_many A = go 0 A.rules
  where
    go : (i k : ℕ) → length (rules_from A i k) ≡ k
    go i zero = refl
    go i (suc k) = ap suc (go (suc i) k)

ends_length : (j : ℕ) (rs : List Rule) → length (ends_of j rs) ≡ 2 * length rs
ends_length j [] = refl
ends_length j (R ∷ rs) = omega (arith, ends_length (j + length R.positive + length R.negative) rs)

pub record Held (n k : ℕ) (ys : List ℕ) : Type 0 where
  pub list : List ℕ
  pub list_length : k ≡ length list
  pub few : k ≤ n
  pub is_pad : ys ≡ pad n list

pub held_length : (n k : ℕ) (ys : List ℕ) → Held n k ys → length ys ≡ n
held_length n k ys h = ap length h.is_pad ∙ length_pad n h.list (omega (arith, h.list_length, h.few))

module _ (A : Arrays) (s : Stored A) where
  pub heads_held : Held 500 A.rules A.heads
  unfolding kept
  heads_held =
      record {
        list = map (λ r. r.head) (decoded A).rules;
        list_length = sym (length-map (decoded A).rules (λ r. r.head) ∙ rules_many A);
        few = omega (arith, rules_many A, s.limits.few_rules);
        is_pad = ap (λ (B : Arrays). B.heads) s.arrays_are;
      }

  pub bodies_held : Held 500 A.held A.bodies
  unfolding kept
  bodies_held =
      record {
        list = bodies_of (decoded A).rules;
        list_length = ap (λ (B : Arrays). B.held) s.arrays_are;
        few = subst (λ (B : Arrays). B.held ≤ 500) (sym s.arrays_are) s.limits.few_bodies;
        is_pad = ap (λ (B : Arrays). B.bodies) s.arrays_are;
      }

  pub starts_held : Held 1001 (2 * A.rules + 1) A.starts
  unfolding kept
  starts_held =
      record {
        list = 0 ∷ ends_of 0 (decoded A).rules;
        list_length = omega (arith, rules_many A, ends_length 0 (decoded A).rules);
        few = omega (arith, rules_many A, s.limits.few_rules);
        is_pad = ap (λ (B : Arrays). B.starts) s.arrays_are;
      }

  pub many_heads : length A.heads ≡ 500
  many_heads = held_length 500 A.rules A.heads heads_held

  pub many_bodies : length A.bodies ≡ 500
  many_bodies = held_length 500 A.held A.bodies bodies_held

  pub many_starts : length A.starts ≡ 1001
  many_starts = held_length 1001 (2 * A.rules + 1) A.starts starts_held
