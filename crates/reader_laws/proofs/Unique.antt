-- A text is that of one program: numbers, lists and rules can be told from the bytes.
-- Assumes nothing.
use Prim.Native.Nat.{ℕ, ◌+◌, ◌*◌, ◌-◌, ◌/◌, ◌%◌, ◌<◌}
use native.Mathlib.Omega.{arith}
use mathlib.Core.Path.{◌≡◌, refl, sym, ◌∙◌, ap, ap₂}
use mathlib.Core.Bool.{false, So, cond}
use mathlib.Core.List.{List, [], ◌∷◌, ◌++◌, append_assoc}
use lib.ListN.{length, length-append, drop}
use Rattle.lists.specs.Lists.{all}
use Rattle.lists.proofs.Bools.{and_in, and_left, and_right}
use Rattle.lists.proofs.Tests.{all_append}
use Rattle.lists.proofs.Cons.{cons_head, cons_tail}
use Rattle.meaning.specs.Program.{Rule, Program}
use Rattle.text.specs.Decimal.{decimal}
use Rattle.text.specs.Text.{more_text, list_text, rule_text, rules_text, text_of}
use Rattle.text.proofs.Decimals.{decimal_small, decimal_large, digits-ind}
use Rattle.reader_form.specs.Automaton.{digit_test}
use Rattle.reader_form.proofs.Digits.{is_digit}
use Rattle.reader_laws.proofs.Values.{rule_then}

-- ---- leading digits

abbrev lead : List ℕ → List ℕ
lead [] = []
lead (b ∷ t) = cond (digit_test b) (b ∷ lead t) []

abbrev rest : List ℕ → List ℕ
rest [] = []
rest (b ∷ t) = cond (digit_test b) (rest t) (b ∷ t)

decimal_digits : (n : ℕ) → So (all digit_test (decimal n))
decimal_digits = digits-ind (λ n. So (all digit_test (decimal n))) (λ n h. rw (decimal_small n h) (and_in (is_digit n h) refl))
    (λ n h ih. rw (decimal_large n h) (all_append digit_test (decimal (n / 10)) ((48 + n % 10) ∷ []) ∙ and_in ih (and_in (is_digit (n % 10) (omega arith)) refl)))

-- c is no digit and comes first
lead_append : (ds : List ℕ) (c : ℕ) (u : List ℕ) → So (all digit_test ds) → digit_test c ≡ false → lead (ds ++ (c ∷ u)) ≡ ds
lead_append [] c u a n = rw n
lead_append (d ∷ ds) c u a n = rw (and_left (digit_test d) (all digit_test ds) a) (ap (λ (z : List ℕ). d ∷ z) (lead_append ds c u (and_right (digit_test d) (all digit_test ds) a) n))

rest_append : (ds : List ℕ) (c : ℕ) (u : List ℕ) → So (all digit_test ds) → digit_test c ≡ false → rest (ds ++ (c ∷ u)) ≡ c ∷ u
rest_append [] c u a n = rw n
rest_append (d ∷ ds) c u a n = rw (and_left (digit_test d) (all digit_test ds) a) (rest_append ds c u (and_right (digit_test d) (all digit_test ds) a) n)

-- ---- the value of digits

abbrev value_from : ℕ → List ℕ → ℕ
value_from v [] = v
value_from v (b ∷ t) = value_from (v * 10 + (b - 48)) t

value_append : (v : ℕ) (ds es : List ℕ) → value_from v (ds ++ es) ≡ value_from (value_from v ds) es
value_append v [] es = refl
value_append v (d ∷ ds) es = value_append (v * 10 + (d - 48)) ds es

decimal_value : (n : ℕ) → value_from 0 (decimal n) ≡ n
decimal_value = digits-ind (λ n. value_from 0 (decimal n) ≡ n) (λ n h. rw (decimal_small n h) (omega arith))
    (λ n h ih. rw (decimal_large n h) (value_append 0 (decimal (n / 10)) ((48 + n % 10) ∷ []) ∙ ap (λ (v : ℕ). v * 10 + (48 + n % 10 - 48)) ih ∙ omega arith))

-- ---- cancelling

number_cancel : (x y c d : ℕ) (u v : List ℕ) → digit_test c ≡ false → digit_test d ≡ false → decimal x ++ (c ∷ u) ≡ decimal y ++ (d ∷ v) → (x ≡ y) × (c ∷ u ≡ d ∷ v)
number_cancel x y c d u v p q e = (
  sym (decimal_value x) ∙ ap (value_from 0) (sym (lead_append (decimal x) c u (decimal_digits x) p) ∙ ap lead e ∙ lead_append (decimal y) d v (decimal_digits y) q) ∙ decimal_value y,
  sym (rest_append (decimal x) c u (decimal_digits x) p) ∙ ap rest e ∙ rest_append (decimal y) d v (decimal_digits y) q,
)

-- the byte after a list's number
follow : List ℕ → ℕ
follow [] = 41
follow (x ∷ xs) = 32

behind : List ℕ → List ℕ → List ℕ
behind [] u = u
behind (x ∷ xs) u = (decimal x ++ more_text xs) ++ (41 ∷ u)

more_is : (xs u : List ℕ) → more_text xs ++ (41 ∷ u) ≡ follow xs ∷ behind xs u
unfolding follow behind
more_is [] u = refl
more_is (x ∷ xs) u = refl

follow_stops : (xs : List ℕ) → digit_test (follow xs) ≡ false
unfolding follow digit_test
follow_stops [] = refl
follow_stops (x ∷ xs) = refl

-- two numbers of lists, with what follows them
numbers_cancel : (x y : ℕ) (xs ys u v : List ℕ) → (decimal x ++ more_text xs) ++ (41 ∷ u) ≡ (decimal y ++ more_text ys) ++ (41 ∷ v)
    → (x ≡ y) × (more_text xs ++ (41 ∷ u) ≡ more_text ys ++ (41 ∷ v))
numbers_cancel x y xs ys u v e =
    let q = number_cancel x y (follow xs) (follow ys) (behind xs u) (behind ys v) (follow_stops xs) (follow_stops ys)
    (ap (λ (z : List ℕ). decimal x ++ z) (sym (more_is xs u)) ∙ sym (append_assoc (decimal x) (more_text xs) (41 ∷ u)) ∙ e
    ∙ append_assoc (decimal y) (more_text ys) (41 ∷ v) ∙ ap (λ (z : List ℕ). decimal y ++ z) (more_is ys v)) in
    (q.0, more_is xs u ∙ q.1 ∙ sym (more_is ys v))

more_cancel : (xs ys u v : List ℕ) → more_text xs ++ (41 ∷ u) ≡ more_text ys ++ (41 ∷ v) → (xs ≡ ys) × (u ≡ v)
more_cancel [] [] u v e = (refl, cons_tail e)
more_cancel [] (y ∷ ys) u v e = absurd (omega (arith, cons_head e))
more_cancel (x ∷ xs) [] u v e = absurd (omega (arith, cons_head e))
more_cancel (x ∷ xs) (y ∷ ys) u v e =
    let q = numbers_cancel x y xs ys u v (cons_tail e) in
    let r = more_cancel xs ys u v q.1 in
    (ap₂ (λ (a : ℕ) (zs : List ℕ). a ∷ zs) q.0 r.0, r.1)

pub decimal_some : (n : ℕ) → 0 < length (decimal n)
decimal_some = digits-ind (λ n. 0 < length (decimal n)) (λ n h. rw (decimal_small n h) (omega arith))
    (λ n h ih. omega (arith, ap length (decimal_large n h), length-append (decimal (n / 10)) ((48 + n % 10) ∷ [])))

-- a bracket is no number
no_number : (y : ℕ) (ys u v : List ℕ) → 41 ∷ u ≡ (decimal y ++ more_text ys) ++ (41 ∷ v) → ⊥
unfolding digit_test
no_number y ys u v e =
    omega (
      arith,
      decimal_some y,
      ap (λ (z : List ℕ). length (lead z)) (e ∙ append_assoc (decimal y) (more_text ys) (41 ∷ v) ∙ ap (λ (z : List ℕ). decimal y ++ z) (more_is ys v)),
      ap length (lead_append (decimal y) (follow ys) (behind ys v) (decimal_digits y) (follow_stops ys)),
    )

list_cancel : (xs ys u v : List ℕ) → list_text xs ++ (41 ∷ u) ≡ list_text ys ++ (41 ∷ v) → (xs ≡ ys) × (u ≡ v)
list_cancel [] [] u v e = (refl, cons_tail e)
list_cancel [] (y ∷ ys) u v e = absurd (no_number y ys u v e)
list_cancel (x ∷ xs) [] u v e = absurd (no_number x xs v u (sym e))
list_cancel (x ∷ xs) (y ∷ ys) u v e =
    let q = numbers_cancel x y xs ys u v e in
    let r = more_cancel xs ys u v q.1 in
    (ap₂ (λ (a : ℕ) (zs : List ℕ). a ∷ zs) q.0 r.0, r.1)

-- ---- rules and programs

rule_cancel : (r s : Rule) (u v : List ℕ) → rule_text r ++ u ≡ rule_text s ++ v → (r ≡ s) × (u ≡ v)
unfolding digit_test
rule_cancel r s u v e =
    let a = ap (λ (z : List ℕ). drop 6 z) (sym (rule_then r u) ∙ e ∙ rule_then s v) in
    let h = number_cancel r.head s.head 32 32 (40 ∷ _) (40 ∷ _) refl refl a in
    let p = list_cancel r.positive s.positive (32 ∷ 40 ∷ _) (32 ∷ 40 ∷ _) (ap (λ (z : List ℕ). drop 2 z) h.1) in
    let n = list_cancel r.negative s.negative (41 ∷ 10 ∷ u) (41 ∷ 10 ∷ v) (ap (λ (z : List ℕ). drop 2 z) p.1) in
    (same_rule h.0 p.0 n.0, ap (λ (z : List ℕ). drop 2 z) n.1)
  where
    same_rule : {h i : ℕ} {bs cs ds es : List ℕ} → h ≡ i → bs ≡ cs → ds ≡ es
        → ◌≡◌ {A = Rule} (record { head = h; positive = bs; negative = ds }) (record { head = i; positive = cs; negative = es })
    same_rule p q r = λ j. record { head = p j; positive = q j; negative = r j }

rules_cancel : (rs ss : List Rule) → rules_text rs ≡ rules_text ss → rs ≡ ss
rules_cancel [] [] e = refl
rules_cancel [] (s ∷ ss) e = absurd (omega (arith, ap length e, length-append (rule_text s) (rules_text ss)))
rules_cancel (r ∷ rs) [] e = absurd (omega (arith, ap length e, length-append (rule_text r) (rules_text rs)))
rules_cancel (r ∷ rs) (s ∷ ss) e =
    let q = rule_cancel r s (rules_text rs) (rules_text ss) e in
    ap₂ (λ (a : Rule) (zs : List Rule). a ∷ zs) q.0 (rules_cancel rs ss q.1)

pub text_unique : (P Q : Program) → text_of P ≡ text_of Q → P ≡ Q
unfolding text_of digit_test
text_unique P Q e =
    let n = number_cancel P.atoms Q.atoms 41 41 (10 ∷ rules_text P.rules) (10 ∷ rules_text Q.rules) refl refl (ap (λ (z : List ℕ). drop 7 z) e) in
    let r = rules_cancel P.rules Q.rules (ap (λ (z : List ℕ). drop 2 z) n.1) in
    λ j. record { atoms = n.0 j; rules = r j }
