-- The whole work of a program: it passes and holds the program's arrays, or it is stopped by the first breach.
-- Assumes nothing.
use Prim.Native.Nat.{ℕ, ◌+◌, ◌*◌, ◌≤◌}
use native.Mathlib.Nat.{suc-ne-zero, add-zero, zero-add}
use native.Mathlib.Omega.{arith}
use mathlib.Core.Path.{◌≡◌, refl, sym, ◌∙◌, ap, ap₂, subst}
use mathlib.Core.Bool.{Bool, true, false}
use mathlib.Core.List.{List, [], ◌∷◌, ◌++◌, map, append_assoc, append-nil}
use lib.Dec.{ltb, eqb}
use lib.ListN.{length, replicate, length-append}
use borrow.Author.Tests.{ltb-false, eqb-false}
use Rattle.meaning.specs.Program.{Rule, Program}
use Rattle.text.specs.Decimal.{decimal}
use Rattle.reader_work.specs.Work.{work_of, work_heads, work_starts, work_bodies, ended_of, ended_heads, ended_bodies, atoms_ended}
use Rattle.reader_laws.specs.Judge.{Work, acts, number_read, rule_end, rule_read, rules_read, judged, positive_spot, negative_spot}
use Rattle.reader_laws.specs.Breach.{atoms_read, rule_opened, head_read, list_events, rule_events, rules_events, events, when_met, Hit, hits_of, hits_in, hits}
use Rattle.text.specs.Limits.{bodies_of}
use Rattle.program.specs.Arrays.{ends_of}
use Rattle.reader_laws.proofs.Frozen.{rules_frozen}
use Rattle.reader_laws.proofs.Outcomes.{Out, passed, stopped, then, nil_left, nil_right, room_list, hits_append, below, good, cap_above, cap_known, rule_out, done}

good_eq : (N : ℕ) {r s : ℕ} {hs is st tt' bs cs : List ℕ} → r ≡ s → hs ≡ is → st ≡ tt' → bs ≡ cs → good N r hs st bs 0 ≡ good N s is tt' cs 0
good_eq N p q u v = λ j. good N (p j) (q j) (u j) (v j) 0

-- a rule with no breach leaves room for the next
module _ (N : ℕ) (R : Rule) (r g j : ℕ) (h : r ≤ 500) (k : j ≤ 500) (e : hits_in N (rule_events R r g j) ≡ []) where
  rules_room : r + 1 ≤ 500
  rules_room = go (eqb r 500) refl (nil_left (hits_of N (rule_opened r g)) _ e)
    where
      go : (d : Bool) → eqb r 500 ≡ d → map {B = Hit} (λ k. record { row = k; spot = g }) (when_met d 6) ≡ [] → r + 1 ≤ 500
      go false z e = omega (arith, below h (eqb-false r 500 z))
      go true z e = absurd (suc-ne-zero _ (ap length e))

  lists : hits_in N (list_events R.positive (positive_spot R g) j) ++ hits_in N (list_events R.negative (negative_spot R g) (j + length R.positive)) ≡ []
  lists =
      sym (hits_append N (list_events R.positive (positive_spot R g) j) (list_events R.negative (negative_spot R g) (j + length R.positive)))
      ∙ nil_right (hits_of N (head_read R.head (g + 6))) _ (nil_right (hits_of N (rule_opened r g)) _ e)

  bodies_room : j + length R.positive + length R.negative ≤ 500
  bodies_room =
      room_list N R.negative (j + length R.positive) (negative_spot R g)
      (room_list N R.positive j (positive_spot R g) k (nil_left _ _ lists)) (nil_right (hits_in N (list_events R.positive (positive_spot R g) j)) _ lists)

rules_out : (N : ℕ) → N ≤ 126 → (rs : List Rule) (r g : ℕ) (hs st bs : List ℕ) → length hs ≡ r → length st ≡ 2 * r + 1 → r ≤ 500 → length bs ≤ 500
    → Out (hits_in N (rules_events rs r g (length bs))) (rules_read rs g (good N r hs st bs 0))
    (good N (r + length rs) (hs ++ map (λ R. R.head) rs) (st ++ ends_of (length bs) rs) (bs ++ bodies_of rs) 0)
rules_out N n [] r g hs st bs eh es h k = passed refl (good_eq N (sym (add-zero r)) (sym (append-nil hs)) (sym (append-nil st)) (sym (append-nil bs)))
rules_out N n (R ∷ rs) r g hs st bs eh es h k = go (rules_out N n rs (r + 1) (rule_end R g))
  where
    j_c : length ((bs ++ R.positive) ++ R.negative) ≡ length bs + length R.positive + length R.negative
    j_c = length-append (bs ++ R.positive) R.negative ∙ ap (λ (x : ℕ). x + length R.negative) (length-append bs R.positive)

    -- the work after the rules after R, in the words of the whole list
    ends_is : good N (r + 1 + length rs) ((hs ++ (R.head ∷ [])) ++ map (λ R. R.head) rs)
        (((st ++ (length (bs ++ R.positive) ∷ [])) ++ (length ((bs ++ R.positive) ++ R.negative) ∷ [])) ++ ends_of (length ((bs ++ R.positive) ++ R.negative)) rs)
        (((bs ++ R.positive) ++ R.negative) ++ bodies_of rs) 0
        ≡ good N (r + length (R ∷ rs)) (hs ++ map (λ R. R.head) (R ∷ rs)) (st ++ ends_of (length bs) (R ∷ rs)) (bs ++ bodies_of (R ∷ rs)) 0
    ends_is =
        good_eq N (omega arith) (append_assoc hs (R.head ∷ []) (map (λ R. R.head) rs))
        (append_assoc (st ++ (length (bs ++ R.positive) ∷ [])) (length ((bs ++ R.positive) ++ R.negative) ∷ []) _
        ∙ append_assoc st (length (bs ++ R.positive) ∷ []) _
        ∙ ap₂ (λ (a b : ℕ). st ++ (a ∷ b ∷ ends_of b rs)) (length-append bs R.positive) j_c)
        (append_assoc (bs ++ R.positive) R.negative (bodies_of rs) ∙ append_assoc bs R.positive (R.negative ++ bodies_of rs))

    go : ((hs st bs : List ℕ) → length hs ≡ r + 1 → length st ≡ 2 * (r + 1) + 1 → r + 1 ≤ 500 → length bs ≤ 500
        → Out (hits_in N (rules_events rs (r + 1) (rule_end R g) (length bs))) (rules_read rs (rule_end R g) (good N (r + 1) hs st bs 0))
        (good N (r + 1 + length rs) (hs ++ map (λ R. R.head) rs) (st ++ ends_of (length bs) rs) (bs ++ bodies_of rs) 0))
        → Out (hits_in N (rules_events (R ∷ rs) r g (length bs))) (rules_read (R ∷ rs) g (good N r hs st bs 0))
        (good N (r + length (R ∷ rs)) (hs ++ map (λ R. R.head) (R ∷ rs)) (st ++ ends_of (length bs) (R ∷ rs)) (bs ++ bodies_of (R ∷ rs)) 0)
    go ih =
        subst (λ (xs : List Hit). Out xs (rules_read (R ∷ rs) g (good N r hs st bs 0)) (good N (r + length (R ∷ rs)) (hs ++ map (λ R. R.head) (R ∷ rs)) (st ++ ends_of (length bs) (R ∷ rs)) (bs ++ bodies_of (R ∷ rs)) 0))
        (sym (hits_append N (rule_events R r g (length bs)) (rules_events rs (r + 1) (rule_end R g) (length bs + length R.positive + length R.negative))))
        (then (hits_in N (rule_events R r g (length bs))) (hits_in N (rules_events rs (r + 1) (rule_end R g) (length bs + length R.positive + length R.negative)))
        (rule_read R g (good N r hs st bs 0)) (done N n R r g hs st bs eh es) _ (rules_read rs (rule_end R g)) (λ W f. rules_frozen W f rs (rule_end R g))
        (rule_out N n R r g hs st bs eh es h k) (λ e. next e))
      where
        next : hits_in N (rule_events R r g (length bs)) ≡ [] → Out (hits_in N (rules_events rs (r + 1) (rule_end R g) (length bs + length R.positive + length R.negative)))
            (rules_read rs (rule_end R g) (done N n R r g hs st bs eh es)) (good N (r + length (R ∷ rs)) (hs ++ map (λ R. R.head) (R ∷ rs)) (st ++ ends_of (length bs) (R ∷ rs)) (bs ++ bodies_of (R ∷ rs)) 0)
        next e =
            subst (λ (W : Work). Out (hits_in N (rules_events rs (r + 1) (rule_end R g) (length bs + length R.positive + length R.negative))) (rules_read rs (rule_end R g) (done N n R r g hs st bs eh es)) W) ends_is
            (subst (λ (x : ℕ). Out (hits_in N (rules_events rs (r + 1) (rule_end R g) x)) (rules_read rs (rule_end R g) (done N n R r g hs st bs eh es))
            (good N (r + 1 + length rs) ((hs ++ (R.head ∷ [])) ++ map (λ R. R.head) rs)
            (((st ++ (length (bs ++ R.positive) ∷ [])) ++ (length ((bs ++ R.positive) ++ R.negative) ∷ [])) ++ ends_of (length ((bs ++ R.positive) ++ R.negative)) rs)
            (((bs ++ R.positive) ++ R.negative) ++ bodies_of rs) 0)) j_c
            (ih (hs ++ (R.head ∷ [])) ((st ++ (length (bs ++ R.positive) ∷ [])) ++ (length ((bs ++ R.positive) ++ R.negative) ∷ [])) ((bs ++ R.positive) ++ R.negative)
            (omega (arith, eh, length-append hs (R.head ∷ [])))
            (omega (arith, es, length-append (st ++ (length (bs ++ R.positive) ∷ [])) (length ((bs ++ R.positive) ++ R.negative) ∷ []), length-append st (length (bs ++ R.positive) ∷ [])))
            (rules_room N R r g (length bs) h k e) (subst (λ (x : ℕ). x ≤ 500) (sym j_c) (bodies_room N R r g (length bs) h k e))))

-- the work before the first byte
unfoldable pub start : Work
start = record { counts = record { atoms = 0; rules = 0; held = 0; prev = 0; number = 0; spot = 0 }; heads = replicate 500 0; starts = replicate 1001 0; bodies = replicate 500 0 }

-- the work of a program that passes
abbrev pub whole : Program → Work
whole P = good P.atoms (length P.rules) (map (λ R. R.head) P.rules) (0 ∷ ends_of 0 P.rules) (bodies_of P.rules) 0

atoms_out : (N : ℕ) → Out (hits_of N (atoms_read N 7)) (number_read 7 N 7 start) (good N 0 [] (0 ∷ []) [] 0)
unfolding start acts work_of work_heads work_starts work_bodies ended_of ended_heads ended_bodies atoms_ended
atoms_out N = go (ltb 126 N) refl
  where
    go : (d : Bool) → ltb 126 N ≡ d → Out (hits_of N (atoms_read N 7)) (number_read 7 N 7 start) (good N 0 [] (0 ∷ []) [] 0)
    go true e =
        stopped (record { row = 3; spot = 7 }) [] (rw e) (record { row_is = rw (cap_above 126 N (omega arith) ∙ e); spot_is = rw (cap_above 126 N (omega arith) ∙ e); a_row = suc-ne-zero 2 })
    go false e = passed (rw e) (rw (cap_above 126 N (omega arith) ∙ e, cap_known 126 N (omega arith) e))

small_enough : (N : ℕ) → hits_of N (atoms_read N 7) ≡ [] → N ≤ 126
small_enough N e = go (ltb 126 N) refl e
  where
    go : (d : Bool) → ltb 126 N ≡ d → map {B = Hit} (λ k. record { row = k; spot = 7 }) (when_met d 3) ≡ [] → N ≤ 126
    go false z e = ltb-false 126 N z
    go true z e = absurd (suc-ne-zero _ (ap length e))

pub judged_out : (P : Program) → Out (hits P) (judged P start) (whole P)
unfolding judged events
judged_out P =
    let N = P.atoms in
    let g = 7 + length (decimal P.atoms) + 2 in
    then (hits_of N (atoms_read N 7)) (hits_in N (rules_events P.rules 0 g 0)) (number_read 7 N 7 start) (good N 0 [] (0 ∷ []) [] 0) (whole P)
    (rules_read P.rules g) (λ W f. rules_frozen W f P.rules g) (atoms_out N)
    (λ e. subst (λ (x : ℕ). Out (hits_in N (rules_events P.rules 0 g 0)) (rules_read P.rules g (good N 0 [] (0 ∷ []) [] 0)) (good N x (map (λ R. R.head) P.rules) (0 ∷ ends_of 0 P.rules) (bodies_of P.rules) 0))
    (zero-add (length P.rules)) (rules_out N (small_enough N e) P.rules 0 g [] (0 ∷ []) [] refl refl (omega arith) (omega arith)))
