-- The arrays kept of a program hold that program.
-- Assumes nothing.
use Prim.Native.Nat.{ℕ, suc, ◌+◌, ◌-◌, ◌*◌}
use native.Mathlib.Nat.{add-zero}
use native.Mathlib.Omega.{arith}
use mathlib.Core.Path.{◌≡◌, refl, sym, ◌∙◌, ap, ap₂}
use mathlib.Core.List.{List, [], ◌∷◌, ◌++◌, map, append_assoc}
use lib.ListN.{length, get_or, take, drop, length-append}
use lib.Seq.{take-append_seam, drop-append_seam}
use Rattle.lists.proofs.Tables.{get_or_skip}
use Rattle.meaning.specs.Program.{Rule, Program}
use Rattle.program.specs.declared.Program.{Program as Arrays}
use Rattle.text.specs.Limits.{bodies_of}
use Rattle.program.specs.Arrays.{ends_of, kept}
use Rattle.program.specs.Arrays.{start_of, rule_in, rules_from, decoded}

-- what stands between j and j + k of bs ++ (xs ++ ys)
part : (bs xs ys : List ℕ) (j : ℕ) → length bs ≡ j → take (j + length xs - j) (drop j (bs ++ (xs ++ ys))) ≡ xs
part bs xs ys j p =
    ap₂ (λ (k i : ℕ). take k (drop i (bs ++ (xs ++ ys)))) (less j (length xs)) (sym p)
    ∙ ap (take (length xs)) (drop-append_seam bs (xs ++ ys)) ∙ take-append_seam xs ys
  where
    less : (j k : ℕ) → j + k - j ≡ k
    less j k = omega arith

-- the arrays hold the rules rs from rule i on: after i heads, 2i starts and j body atoms
record Holds (A : Arrays) (i j : ℕ) (rs : List Rule) : Type 0 where
  before_heads : List ℕ
  before_starts : List ℕ
  before_bodies : List ℕ
  after_heads : List ℕ
  after_starts : List ℕ
  after_bodies : List ℕ
  heads_are : A.heads ≡ before_heads ++ (map (λ R. R.head) rs ++ after_heads)
  starts_are : A.starts ≡ before_starts ++ (j ∷ (ends_of j rs ++ after_starts))
  bodies_are : A.bodies ≡ before_bodies ++ (bodies_of rs ++ after_bodies)
  heads_before : length before_heads ≡ i
  starts_before : length before_starts ≡ 2 * i
  bodies_before : length before_bodies ≡ j

module _ (A : Arrays) (R : Rule) (rs : List Rule) (i j : ℕ) (h : Holds A i j (R ∷ rs)) where
  abbrev B : List ℕ
  B = R.positive

  abbrev C : List ℕ
  C = R.negative

  -- the start with x starts after that of the rule
  start_is : (x : ℕ) → start_of A (2 * i + x) ≡ get_or (j ∷ (j + length B) ∷ (j + length B + length C) ∷ (ends_of (j + length B + length C) rs ++ h.after_starts)) x 0
  start_is x = ap (λ (xs : List ℕ). get_or xs (2 * i + x) 0) h.starts_are ∙ get_or_skip h.before_starts _ 0 (2 * i) x h.starts_before

  first_start : start_of A (2 * i) ≡ j
  first_start = ap (start_of A) (sym (add-zero (2 * i))) ∙ start_is 0

  third_start : start_of A (2 * i + 1 + 1) ≡ j + length B + length C
  third_start = ap (start_of A) (more i) ∙ start_is 2
    where
      more : (i : ℕ) → 2 * i + 1 + 1 ≡ 2 * i + 2
      more i = omega arith

  -- the bodies with the rule's positive list, and with its negative one, in front
  at_positive : A.bodies ≡ h.before_bodies ++ (B ++ (C ++ (bodies_of rs ++ h.after_bodies)))
  at_positive = h.bodies_are ∙ simp append_assoc

  at_negative : A.bodies ≡ (h.before_bodies ++ B) ++ (C ++ (bodies_of rs ++ h.after_bodies))
  at_negative = at_positive ∙ simp append_assoc

  behind : length (h.before_bodies ++ B) ≡ j + length B
  behind = length-append h.before_bodies B ∙ ap (λ (k : ℕ). k + length B) h.bodies_before

  rule_is : rule_in A i ≡ R
  rule_is =
      λ t. record {
        head = (ap (λ (xs : List ℕ). get_or xs i 0) h.heads_are ∙ ap (λ (k : ℕ). get_or (h.before_heads ++ ((R.head ∷ map (λ R. R.head) rs) ++ h.after_heads)) k 0) (sym (add-zero i)) ∙ get_or_skip h.before_heads _ 0 i 0 h.heads_before) t;
        positive = (ap₂ (λ (e b : ℕ). take (e - b) (drop b A.bodies)) (start_is 1) first_start ∙ ap (λ (xs : List ℕ). take (j + length B - j) (drop j xs)) at_positive ∙ part h.before_bodies B _ j h.bodies_before) t;
        negative = (ap₂ (λ (e b : ℕ). take (e - b) (drop b A.bodies)) third_start (start_is 1) ∙ ap (λ (xs : List ℕ). take (j + length B + length C - (j + length B)) (drop (j + length B) xs)) at_negative ∙ part (h.before_bodies ++ B) C _ (j + length B) behind) t;
      }

  rest_holds : Holds A (suc i) (j + length B + length C) rs
  rest_holds =
      record {
        before_heads = h.before_heads ++ (R.head ∷ []);
        before_starts = h.before_starts ++ (j ∷ (j + length B) ∷ []);
        before_bodies = (h.before_bodies ++ B) ++ C;
        after_heads = h.after_heads;
        after_starts = h.after_starts;
        after_bodies = h.after_bodies;
        heads_are = h.heads_are ∙ simp append_assoc;
        starts_are = h.starts_are ∙ simp append_assoc;
        bodies_are = at_negative ∙ simp append_assoc;
        heads_before = length-append h.before_heads (R.head ∷ []) ∙ omega (arith, h.heads_before);
        starts_before = length-append h.before_starts (j ∷ (j + length B) ∷ []) ∙ omega (arith, h.starts_before);
        bodies_before = length-append (h.before_bodies ++ B) C ∙ ap (λ (k : ℕ). k + length C) behind;
      }

decode_from : (A : Arrays) (rs : List Rule) (i j : ℕ) → Holds A i j rs → rules_from A i (length rs) ≡ rs
decode_from A [] i j h = refl
decode_from A (R ∷ rs) i j h =
    ap₂ (λ (x : Rule) (xs : List Rule). x ∷ xs) (rule_is A R rs i j h) (decode_from A rs (suc i) (j + length R.positive + length R.negative) (rest_holds A R rs i j h))

pub decoded_kept : (P : Program) → decoded (kept P) ≡ P
unfolding decoded kept
decoded_kept P =
    ap (λ (rs : List Rule). record { atoms = P.atoms; rules = rs })
    (decode_from (kept P) P.rules 0 0
    (record {
      before_heads = [];
      before_starts = [];
      before_bodies = [];
      after_heads = _;
      after_starts = _;
      after_bodies = _;
      heads_are = refl;
      starts_are = refl;
      bodies_are = refl;
      heads_before = refl;
      starts_before = refl;
      bodies_before = refl;
    }))
