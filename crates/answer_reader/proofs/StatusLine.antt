-- The status line, from what the answer's first line has in common with the three status lines.
--   found_yes, found_no, found_unknown, found_left   the answer `status` gives in each case
--   spot_within                                      the spot is within the answer
-- Assumes nothing.
use Prim.Native.Nat.{ℕ, suc, ◌+◌, ◌≤◌, max}
use native.Mathlib.Omega.{arith}
use mathlib.Core.Path.{◌≡◌, sym, ◌∙◌, ap}
use mathlib.Core.Bool.{Bool, true, false, cond}
use mathlib.Core.List.{List, [], ◌∷◌}
use lib.Dec.{eqb}
use lib.ListN.{length, length-drop, drop}
use borrow.Author.Tests.{eq-eqb, ne_eqb}
use Rattle.answer_form.specs.Answer.{Status, satisfiable_text, status_text}
use Rattle.answer_form.specs.Pieces.{Found, common, first_line, status_from, status_of}
use Rattle.std.specs.Prelude.{Ok, Err}
use Rattle.answer_reader.specs.declared.AnswerFault.TheVariants.{NoModel}
use Rattle.answer_reader.specs.Results.{malformed, found_for}

common_within : (u w : List ℕ) → common u w ≤ length u
unfolding common
common_within u [] = omega arith
common_within [] (c ∷ w) = omega arith
common_within (b ∷ u) (c ∷ w) = go (eqb b c) (common_within u w)
  where
    go : (x : Bool) → common u w ≤ length u → cond x (suc (common u w)) 0 ≤ suc (length u)
    go true h = omega (arith, h)
    go false h = omega arith

module _ (t : List ℕ) (at : ℕ) (line : at ≡ first_line 0 0 t) (yes : ℕ) (y : yes ≡ common (drop at t) satisfiable_text) where
  from_line : status_of t ≡ status_from at (drop at t)
  unfolding status_of
  from_line = sym (ap (λ (k : ℕ). status_from k (drop k t)) line)

  is_yes : yes ≡ 14 → status_from at (drop at t) ≡ Found.satisfiable (at + 13)
  unfolding status_from
  is_yes p = rw (← y, eq-eqb yes 14 p)

  pub found_yes : yes ≡ 14 → Ok (at + 13) ≡ found_for (status_of t)
  found_yes p = sym (ap found_for (from_line ∙ is_yes p))

  module _ (yes-not : yes ≡ 14 → ⊥) (no : ℕ) (n : no ≡ common (drop at t) (status_text Status.unsatisfiable)) where
    is_no : no ≡ 16 → status_from at (drop at t) ≡ Found.other Status.unsatisfiable
    unfolding status_from
    is_no p = rw (← y, ne_eqb yes 14 yes-not, ← n, eq-eqb no 16 p)

    pub found_no : no ≡ 16 → Err NoModel ≡ found_for (status_of t)
    found_no p = sym (ap found_for (from_line ∙ is_no p))

    module _ (no-not : no ≡ 16 → ⊥) (unknown : ℕ) (k : unknown ≡ common (drop at t) (status_text Status.unknown)) where
      is_unknown : unknown ≡ 10 → status_from at (drop at t) ≡ Found.other Status.unknown
      unfolding status_from
      is_unknown p = rw (← y, ne_eqb yes 14 yes-not, ← n, ne_eqb no 16 no-not, ← k, eq-eqb unknown 10 p)

      pub found_unknown : unknown ≡ 10 → Err NoModel ≡ found_for (status_of t)
      found_unknown p = sym (ap found_for (from_line ∙ is_unknown p))

      module _ (m : ℕ) (larger : m ≡ max no unknown) (most : ℕ) (largest : most ≡ max yes m) where
        is_left : (unknown ≡ 10 → ⊥) → status_from at (drop at t) ≡ Found.left (at + most)
        unfolding status_from
        is_left p = rw (← y, ne_eqb yes 14 yes-not, ← n, ne_eqb no 16 no-not, ← k, ne_eqb unknown 10 p, ← larger, ← largest)

        pub found_left : (unknown ≡ 10 → ⊥) → malformed (at + most) ≡ found_for (status_of t)
        found_left p = sym (ap found_for (from_line ∙ is_left p))

        pub spot_within : at ≤ length t → at + most ≤ length t
        spot_within h =
            omega (
              arith,
              h,
              y,
              n,
              k,
              larger,
              largest,
              length-drop at t,
              common_within (drop at t) satisfiable_text,
              common_within (drop at t) (status_text Status.unsatisfiable),
              common_within (drop at t) (status_text Status.unknown),
            )
