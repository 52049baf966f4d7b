-- The number of clauses, group by group, and document 01's formula.
-- Assumes nothing.
use Prim.Native.Nat.{ℕ, zero, suc, pred, ◌+◌, ◌-◌, ◌*◌, ◌^◌, ◌≤◌}
use native.Mathlib.Nat.{zero-mul, suc-pred-eq_of_pos}
use native.Mathlib.Omega.{arith}
use mathlib.Core.Path.{◌≡◌, refl, sym, ◌∙◌, ap, ap₂, subst}
use mathlib.Core.Bool.{Bool, true, false, So, cond}
use mathlib.Core.List.{List, [], ◌∷◌, ◌++◌, map}
use lib.Dec.{eqb, eqb-suc-zero}
use lib.ListN.{length, length-append, length-map}
use Rattle.lists.specs.Lists.{sum, each, select}
use Rattle.lists.proofs.Tables.{sum_ext, sum_add, sum_mul, sum_const, sum_zero, sum_swap, length_tab, length_each, sum_twice}
use Rattle.lists.proofs.Growing.{one, count_le}
use Rattle.lists.proofs.Counting.{sum_with, one_of}
use Rattle.meaning.specs.Program.{Rule, Program, rule_at, well_formed}
use Rattle.theory.proofs.Atoms.{by_place}
use Rattle.encoding.specs.Literal.{−◌, Clause}
use Rattle.encoding.specs.Variables.{Sizes, body_var, level_var, next_var, below_var, next_below_var}
use Rattle.encoding.specs.Counter.{chain, chain_at, successor, successor_at, keeps_clauses, flips_clauses}
use Rattle.encoding.specs.Clauses.{body_clauses, implied_clauses, supported_clause, zero_clauses, next_clauses, pair_clauses, founds_clauses, one_clauses, lowest_clauses, founded_clause, rules_of, clauses, pair_count, body_atoms, empty_bodies, clause_count}
use Rattle.encoding.specs.Code.{Code, whole, m, code_sizes, rl, inner, its, pair_list, pair_body, pair_head, before, pair_numbers, part1, part2, part3, part4, part5, part6, part7, clauses_of}
use Rattle.theory.proofs.Numbered.{Ranges}
use Rattle.theory.proofs.Whole.{inner_whole, pairs_whole, clauses_whole, whole_fit}
use Rattle.theory.proofs.Pairs.{pair_count_lem}

-- the terms of a sum, added up
sum_more : (n : ℕ) (f : ℕ → ℕ) (a : ℕ) → sum n (λ i. f i + a) ≡ sum n f + n * a
sum_more n f a = sum_add n f (λ i. a) ∙ ap (λ (x : ℕ). sum n f + x) (sum_const n a)

-- the numbers that pass, counted
length_select : (n : ℕ) (p : ℕ → Bool) → length (select n p) ≡ sum n (λ i. one (p i))
length_select n p = length_each n (λ i. cond (p i) (i ∷ []) []) ∙ sum_ext n _ _ (λ i h. go (suc i) (p (suc i)))
  where
    go : (i : ℕ) (b : Bool) → length (cond b (i ∷ []) []) ≡ one b
    go i true = refl
    go i false = refl

-- ---- one successor, one chain

successor_count : (w : ℕ) (u v : ℕ → ℕ) → length (successor w u v) ≡ w * (w + 1)
unfolding successor
successor_count w u v = length_each w (successor_at u v) ∙ sum_ext w _ (λ i. 2 * i) (λ i h. bit_count i) ∙ sum_twice w
  where
    bit_count : (i : ℕ) → length (successor_at u v (suc i)) ≡ 2 * suc i
    bit_count i =
        length-append (each i (keeps_clauses u v (suc i))) (flips_clauses u v (suc i))
        ∙ ap (λ (x : ℕ). x + 2) (length_each i (keeps_clauses u v (suc i)) ∙ sum_const i 2) ∙ omega arith

chain_count : (w : ℕ) (z x y : ℕ → ℕ) → length (chain (suc w) z x y) ≡ 3 + 6 * w
unfolding chain
chain_count w z x y = length_each (suc w) (chain_at z x y) ∙ go w
  where
    go : (w : ℕ) → sum (suc w) (λ i. length (chain_at z x y i)) ≡ 3 + 6 * w
    go zero = refl
    go (suc w) = omega (arith, go w)

-- 1 for an empty list, 0 for another
abbrev empty : ℕ → ℕ
empty l = cond (eqb l 0) 1 0

-- O, e and the number of open atoms
abbrev body_count : Code → ℕ
body_count G = sum (m G) (λ r. length (rl G r).positive + length (rl G r).negative)

abbrev empty_count : Code → ℕ
empty_count G = sum (m G) (λ r. empty (length (inner G r)))

abbrev open_count : Code → ℕ
open_count G = sum G.n (λ a. one (G.opened a))

module _ (G : Code) (g : Ranges G) (k : ℕ) (wide : G.w ≡ suc k) where
  abbrev S : Sizes
  S = code_sizes G

  its_count : sum G.n (λ a. length (its G a)) ≡ m G
  unfolding rules_of
  its_count =
      sum_ext G.n _ (λ a. sum (m G) (λ r. one (eqb (rl G r).head a))) (λ a h. length_select (m G) (λ r. eqb (rl G r).head (suc a)))
      ∙ sum_swap G.n (m G) (λ a r. one (eqb (rl G r).head a))
      ∙ sum_ext (m G) _ (λ r. 1) (λ r h. by_place G.n (λ x. sum G.n (λ a. one (eqb x a)) ≡ 1) (one_of G.n) (rl G (suc r)).head (g.head_in r h))
      ∙ sum_const (m G) 1 ∙ omega arith

  count1 : length (part1 G) ≡ body_count G + m G
  count1 =
      length_each (m G) (λ r. body_clauses S r (rl G r)) ∙ sum_ext (m G) _ (λ r. length (rl G r).positive + length (rl G r).negative + 1) (λ r h. rule_count_lem (suc r) (rl G (suc r)))
      ∙ sum_more (m G) (λ r. length (rl G r).positive + length (rl G r).negative) 1 ∙ omega arith
    where
      rule_count_lem : (r : ℕ) (R : Rule) → length (body_clauses S r R) ≡ length R.positive + length R.negative + 1
      rule_count_lem r R =
          length-append (map _ R.positive) _
          ∙ ap₂ ◌+◌ (length-map R.positive _) (length-append (map _ R.negative) _ ∙ ap (λ (x : ℕ). x + 1) (length-map R.negative _)) ∙ omega arith

  count2 : length (part2 G) + open_count G ≡ m G + G.n
  count2 =
      ap (λ (x : ℕ). x + open_count G) (length_each G.n (λ a. implied_clauses S a (its G a) ++ cond (G.opened a) [] (supported_clause S a (its G a) ∷ [])))
      ∙ sum_with G.n _ (λ a. one (G.opened a)) (λ a. length (its G a) + 1)
      (λ a h. atom_count (G.opened (suc a)) (implied_clauses S (suc a) (its G (suc a))) (supported_clause S (suc a) (its G (suc a))) (length-map (its G (suc a)) _))
      ∙ sum_more G.n (λ a. length (its G a)) 1 ∙ omega (arith, its_count)
    where
      atom_count : (b : Bool) (xs : List Clause) (c : Clause) {l : ℕ} → length xs ≡ l → length (xs ++ cond b [] (c ∷ [])) + one b ≡ l + 1
      atom_count true xs c e = omega (arith, length-append xs [], e)
      atom_count false xs c e = omega (arith, length-append xs (c ∷ []), e)

  count3 : length (part3 G) ≡ G.n * G.w
  count3 = length_each G.n (zero_clauses S) ∙ sum_ext G.n _ (λ a. G.w) (λ a h. length_tab G.w _) ∙ sum_const G.n G.w

  count4 : length (part4 G) ≡ G.n * (G.w * (G.w + 1))
  count4 =
      length_each G.n (next_clauses S) ∙ sum_ext G.n _ (λ a. G.w * (G.w + 1)) (λ a h. successor_count G.w (next_var S (suc a)) (level_var S (suc a)))
      ∙ sum_const G.n (G.w * (G.w + 1))

  count5 : length (part5 G) ≡ length (pair_list G) * (6 + 12 * k)
  count5 =
      length_each (length (pair_list G)) (λ p. pair_clauses S p (pair_body G p) (pair_head G p))
      ∙ sum_ext (length (pair_list G)) _ (λ p. 6 + 12 * k) (λ p h. pair_clauses_lem (suc p) (pair_body G (suc p)) (pair_head G (suc p)))
      ∙ sum_const (length (pair_list G)) (6 + 12 * k)
    where
      chain_length : (z x y : ℕ → ℕ) → length (chain G.w z x y) ≡ 3 + 6 * k
      chain_length z x y = ap (λ (w : ℕ). length (chain w z x y)) wide ∙ chain_count k z x y

      pair_clauses_lem : (p b h : ℕ) → length (pair_clauses S p b h) ≡ 6 + 12 * k
      pair_clauses_lem p b h =
          length-append (chain G.w (below_var S p) (level_var S b) (level_var S h)) (chain G.w (next_below_var S p) (next_var S b) (level_var S h))
          ∙ omega (arith, chain_length (below_var S p) (level_var S b) (level_var S h), chain_length (next_below_var S p) (next_var S b) (level_var S h))

  count6 : length (part6 G) + empty_count G ≡ 3 * m G + length (pair_list G) + G.w * empty_count G
  count6 =
      ap (λ (x : ℕ). x + empty_count G) (length_each (m G) (λ r. founds_clauses S r (pair_numbers G r) ++ lowest_clauses S r (rl G r).head (pair_numbers G r)))
      ∙ sum_with (m G) _ (λ r. empty (length (inner G r))) (λ r. length (inner G r) + empty (length (inner G r)) * G.w + 3) (λ r h. rule_clauses (suc r))
      ∙ sum_more (m G) (λ r. length (inner G r) + empty (length (inner G r)) * G.w) 3
      ∙ ap (λ (x : ℕ). x + m G * 3) (sum_add (m G) (λ r. length (inner G r)) (λ r. empty (length (inner G r)) * G.w)
      ∙ ap (λ (x : ℕ). sum (m G) (λ r. length (inner G r)) + x) (sum_mul (m G) G.w (λ r. empty (length (inner G r)))))
      ∙ omega (arith, pair_count_lem G)
    where
      founds_count : (r : ℕ) (ks : List ℕ) → length (founds_clauses S r ks) ≡ length ks + 2
      founds_count r ks = ap suc (length-append (map _ ks) _ ∙ ap (λ (x : ℕ). x + 1) (length-map ks _)) ∙ omega arith

      lowest_count : (r h : ℕ) (ks : List ℕ) → length (lowest_clauses S r h ks) + empty (length ks) ≡ empty (length ks) * G.w + 1
      lowest_count r h [] = omega (arith, length_tab (pred G.w) (λ i. − body_var S r ∷ − level_var S h (suc i) ∷ []), wide)
      lowest_count r h (q ∷ ks) = ap (λ b. 1 + one b) (eqb-suc-zero (length ks)) ∙ sym (ap (λ b. one b * G.w + 1) (eqb-suc-zero (length ks)) ∙ omega (arith, zero-mul G.w))

      rule_clauses : (r : ℕ) → length (founds_clauses S r (pair_numbers G r) ++ lowest_clauses S r (rl G r).head (pair_numbers G r)) + empty (length (inner G r))
          ≡ length (inner G r) + empty (length (inner G r)) * G.w + 3
      rule_clauses r =
          let ks = pair_numbers G r in
          let e = length_tab (length (inner G r)) (λ j. before G r + j) in
          ap (λ (x : ℕ). x + empty (length (inner G r))) (length-append (founds_clauses S r ks) (lowest_clauses S r (rl G r).head ks))
          ∙ omega (arith, founds_count r ks, subst (λ (l : ℕ). length (lowest_clauses S r (rl G r).head ks) + empty l ≡ empty l * G.w + 1) e (lowest_count r (rl G r).head ks), e)

  count7 : length (part7 G) + open_count G ≡ G.n + G.w * open_count G
  count7 =
      ap (λ (x : ℕ). x + open_count G) (length_each G.n (λ a. cond (G.opened a) (one_clauses S a a) (founded_clause S a (its G a) ∷ [])))
      ∙ sum_with G.n _ (λ a. one (G.opened a)) (λ a. one (G.opened a) * G.w + 1) (λ a h. last (suc a) (G.opened (suc a)))
      ∙ sum_more G.n (λ a. one (G.opened a) * G.w) 1 ∙ ap (λ (x : ℕ). x + G.n * 1) (sum_mul G.n G.w (λ a. one (G.opened a))) ∙ omega arith
    where
      last : (a : ℕ) (b : Bool) → length (cond b (one_clauses S a a) (founded_clause S a (its G a) ∷ [])) + one b ≡ one b * G.w + 1
      last a true = omega (arith, length_tab (pred G.w) (λ i. − a ∷ − level_var S a (suc i) ∷ []), wide)
      last a false = omega (arith, zero-mul G.w)

  pub count_clauses : length (clauses_of G) + empty_count G + 2 * open_count G
      ≡ body_count G + 5 * m G + G.w * empty_count G + 2 * G.n + G.n * G.w * (G.w + 2) + length (pair_list G) * (12 * G.w - 5) + G.w * open_count G
  unfolding clauses_of
  count_clauses =
      ap (λ (x : ℕ). x + empty_count G + 2 * open_count G)
      (length-append (part1 G) _ ∙ ap (λ (x : ℕ). length (part1 G) + x)
      (length-append (part2 G) _ ∙ ap (λ (x : ℕ). length (part2 G) + x)
      (length-append (part3 G) _ ∙ ap (λ (x : ℕ). length (part3 G) + x)
      (length-append (part4 G) _ ∙ ap (λ (x : ℕ). length (part4 G) + x)
      (length-append (part5 G) _ ∙ ap (λ (x : ℕ). length (part5 G) + x)
      (length-append (part6 G) _ ∙ ap (λ (x : ℕ). length (part6 G) + x) (length-append (part7 G) [])))))))
      ∙ omega (arith, count1, count2, count3, count4, count5, count6, count7, wide, factor)
    where
      factor : length (pair_list G) * (12 * G.w - 5) ≡ length (pair_list G) * (7 + 12 * k)
      factor = ap (λ (x : ℕ). length (pair_list G) * x) (omega (arith, wide))

-- ---- document 01's formula

pub count_whole : (P : Program) (w : ℕ) → So (well_formed P) → P.atoms + 2 ≤ 2 ^ w → length (clauses P w) ≡ clause_count P w
unfolding clause_count body_atoms empty_bodies
count_whole P w form wide =
    let f = whole_fit P w form wide in
    let G = whole P w in
    ap length (sym (clauses_whole P w))
    ∙ formula (length (clauses_of G)) (body_atoms P) (length P.rules) P.atoms (empty_bodies P) (pair_count P) (empty_count G) (length (pair_list G)) (open_count G)
    (count_le (length P.rules) (λ r. eqb (length (rule_at P.rules r).positive) 0))
    (sum_ext (length P.rules) _ _ (λ r h. ap (λ (bs : List ℕ). empty (length bs)) (inner_whole P w (suc r)))) (ap length (pairs_whole P w)) (sum_zero P.atoms)
    (count_clauses G f.ranges (pred w) (sym (suc-pred-eq_of_pos f.some_bit)))
  where
    -- the code's count, with its e and K for those of the program and no open atom
    formula : (C O m n e K e' K' o : ℕ) → e ≤ m → e' ≡ e → K' ≡ K → o ≡ 0
        → C + e' + 2 * o ≡ O + 5 * m + w * e' + 2 * n + n * w * (w + 2) + K' * (12 * w - 5) + w * o
        → C ≡ O + 5 * m - e + w * e + 2 * n + n * w * (w + 2) + K * (12 * w - 5)
    formula C O m n e K e' K' o l p q z c =
        plain (subst (λ (x : ℕ). C + e + 2 * x ≡ O + 5 * m + w * e + 2 * n + n * w * (w + 2) + K * (12 * w - 5) + w * x) z
        (subst (λ (x : ℕ). C + e + 2 * o ≡ O + 5 * m + w * e + 2 * n + n * w * (w + 2) + x * (12 * w - 5) + w * o) q
        (subst (λ (x : ℕ). C + x + 2 * o ≡ O + 5 * m + w * x + 2 * n + n * w * (w + 2) + K' * (12 * w - 5) + w * o) p c)))
      where
        plain : C + e + 2 * 0 ≡ O + 5 * m + w * e + 2 * n + n * w * (w + 2) + K * (12 * w - 5) + w * 0
            → C ≡ O + 5 * m - e + w * e + 2 * n + n * w * (w + 2) + K * (12 * w - 5)
        plain d = omega (arith, l, d)
