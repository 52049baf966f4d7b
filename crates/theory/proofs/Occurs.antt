-- No variable of a clause passes V or is 0, and every variable from 1 to V occurs in some clause.
--   Fits G c         each variable of the clause is one of 1 to V
--   occurs v cs      some literal of some clause is of variable v
-- Assumes nothing.
use Prim.Native.Nat.{ℕ, zero, suc, pred, ◌+◌, ◌≤◌, ◌<◌}
use native.Mathlib.Nat.{mul-le-mul_right, suc-pred-eq_of_pos}
use native.Mathlib.Omega.{arith}
use mathlib.Core.Path.{◌≡◌, refl, sym, ◌∙◌, subst}
use mathlib.Core.Bool.{Bool, true, false, So, cond}
use mathlib.Core.List.{List, [], ◌∷◌, ◌++◌, map}
use lib.Dec.{eqb, lit<}
use lib.ListN.{length, get_or}
use borrow.Author.Tests.{eq-eqb}
use Rattle.lists.specs.Lists.{all, any, tab, each}
use Rattle.lists.proofs.Bools.{and_in, or_left, or_right}
use Rattle.lists.proofs.Tests.{all_at, all_in, all_map, all_tab, all_each, all_append, all_joined, all_to_in, any_append, any_each, any_tab, any_joined, any_in, any_to_in}
use Rattle.meaning.specs.Program.{is_atom}
use Rattle.theory.proofs.Atoms.{is_atom_lem, atom_pos, atom_le, by_place}
use Rattle.encoding.specs.Literal.{Literal, var, −◌, variable, Clause, within, occurs}
use Rattle.encoding.specs.Variables.{Sizes, body_var, founds_var, level_var, next_var, below_var, next_below_var}
use Rattle.encoding.specs.Counter.{chain, chain_at, successor, successor_at, keeps_clauses, flips_clauses}
use Rattle.encoding.specs.Clauses.{implied_clauses, supported_clause, founds_clauses, one_clauses, lowest_clauses, founded_clause}
use Rattle.encoding.specs.Code.{Code, m, code_sizes, rl, inner, its, pair_list, pair_body, pair_head, before, pair_numbers, part1, part2, part3, part4, part5, part6, part7, clauses_of, variables_of}
use Rattle.theory.proofs.Numbered.{Ranges}
use Rattle.theory.proofs.Pairs.{pair_below, body_in, head_in}
use Rattle.theory.proofs.Meaning.{all_its}
use Rattle.theory.proofs.Families.{Member, atom_at, body_at, founds_at, level_at, next_at, below_at, next_below_at, member}

module _ (G : Code) (g : Ranges G) (some : zero < G.w) where
  abbrev S : Sizes
  S = code_sizes G

  abbrev V' : ℕ
  V' = variables_of G

  abbrev ok : ℕ → Bool
  ok v = is_atom V' v

  abbrev fit : Clause → Bool
  fit c = all (λ l. ok (variable l)) c

  abbrev all_fit : List Clause → Bool
  all_fit cs = all fit cs

  -- ---- the variables of each family

  ok_atom : (a : ℕ) → So (is_atom G.n a) → So (ok a)
  ok_atom a t = is_atom_lem V' a (atom_pos G.n a t) (omega (arith, atom_le G.n a t))

  ok_body : (r : ℕ) → r < m G → So (ok (body_var S (suc r)))
  ok_body r h = is_atom_lem V' (body_var S (suc r)) (omega arith) (omega arith)

  ok_founds : (r : ℕ) → r < m G → So (ok (founds_var S (suc r)))
  ok_founds r h = is_atom_lem V' (founds_var S (suc r)) (omega arith) (omega arith)

  ok_level : (a : ℕ) → So (is_atom G.n a) → (i : ℕ) → i < G.w → So (ok (level_var S a (suc i)))
  ok_level = by_place G.n (λ a. (i : ℕ) → i < G.w → So (ok (level_var S a (suc i)))) (λ a h i l. is_atom_lem V' (level_var S (suc a) (suc i)) (omega arith) (omega (arith, mul-le-mul_right G.w h)))

  ok_next : (a : ℕ) → So (is_atom G.n a) → (i : ℕ) → i < G.w → So (ok (next_var S a (suc i)))
  ok_next = by_place G.n (λ a. (i : ℕ) → i < G.w → So (ok (next_var S a (suc i)))) (λ a h i l. is_atom_lem V' (next_var S (suc a) (suc i)) (omega arith) (omega (arith, mul-le-mul_right G.w h)))

  ok_below : (k : ℕ) → k < length (pair_list G) → (i : ℕ) → i < G.w → So (ok (below_var S (suc k) (suc i)))
  ok_below k h i l = is_atom_lem V' (below_var S (suc k) (suc i)) (omega arith) (omega (arith, mul-le-mul_right G.w h))

  ok_next_below : (k : ℕ) → k < length (pair_list G) → (i : ℕ) → i < G.w → So (ok (next_below_var S (suc k) (suc i)))
  ok_next_below k h i l = is_atom_lem V' (next_below_var S (suc k) (suc i)) (omega arith) (omega (arith, mul-le-mul_right G.w h))

  -- at bit w
  top : (f : ℕ → ℕ) → ((i : ℕ) → i < G.w → So (ok (f (suc i)))) → So (ok (f G.w))
  top f h = subst (λ (x : ℕ). So (ok (f x))) (suc-pred-eq_of_pos some) (h (pred G.w) (omega (arith, suc-pred-eq_of_pos some)))

  -- ---- lists of clauses

  one_fit : (c : Clause) → So (fit c) → So (all_fit (c ∷ []))
  one_fit c t = and_in t refl

  two_fit : (l k : Literal) → So (ok (variable l)) → So (ok (variable k)) → So (fit (l ∷ k ∷ []))
  two_fit l k t u = and_in t (and_in u refl)

  three_fit : (l k j : Literal) → So (ok (variable l)) → So (ok (variable k)) → So (ok (variable j)) → So (fit (l ∷ k ∷ j ∷ []))
  three_fit l k j t u v = and_in t (and_in u (and_in v refl))

  append_fit : (xs ys : List Clause) → So (all_fit xs) → So (all_fit ys) → So (all_fit (xs ++ ys))
  append_fit xs ys t u = all_append fit xs ys ∙ and_in t u

  each_fit : (n : ℕ) (f : ℕ → List Clause) → ((i : ℕ) → i < n → So (all_fit (f (suc i)))) → So (all_fit (each n f))
  each_fit n f h = all_each fit n f ∙ all_to_in n (λ i. all_fit (f i)) h

  tab_fit : (n : ℕ) (f : ℕ → Clause) → ((i : ℕ) → i < n → So (fit (f (suc i)))) → So (all_fit (tab n f))
  tab_fit n f h = all_tab fit n f ∙ all_to_in n (λ i. fit (f i)) h

  -- clauses and literals made of the elements of a list that pass a test
  map_fit : (q : ℕ → Bool) (xs : List ℕ) (f : ℕ → Clause) → So (all q xs) → ((x : ℕ) → So (q x) → So (fit (f x))) → So (all_fit (map f xs))
  map_fit q xs f t h = all_map fit f xs ∙ all_in _ xs 0 (λ j i. h _ (all_at q xs 0 t j i))

  map_ok : (q : ℕ → Bool) (xs : List ℕ) (f : ℕ → Literal) → So (all q xs) → ((x : ℕ) → So (q x) → So (ok (variable (f x)))) → So (fit (map f xs))
  map_ok q xs f t h = all_map (λ l. ok (variable l)) f xs ∙ all_in _ xs 0 (λ j i. h _ (all_at q xs 0 t j i))

  -- the rules of an atom, and the pairs of a rule
  its_in : (a : ℕ) → So (all (is_atom (m G)) (its G a))
  its_in a = all_its G (is_atom (m G)) a (λ r h e. is_atom_lem (m G) (suc r) (omega arith) h)

  pairs_in : (r : ℕ) → r < m G → So (all (is_atom (length (pair_list G))) (pair_numbers G (suc r)))
  pairs_in r h =
      all_tab (is_atom (length (pair_list G))) (length (inner G (suc r))) (λ j. before G (suc r) + j)
      ∙ all_to_in (length (inner G (suc r))) _ (λ j i. is_atom_lem (length (pair_list G)) (before G (suc r) + suc j) (omega arith) (omega (arith, pair_below G r j h i)))

  by_rule_lem : (f : ℕ → ℕ) → ((r : ℕ) → r < m G → So (ok (f (suc r)))) → (r : ℕ) → So (is_atom (m G) r) → So (ok (f r))
  by_rule_lem f h = by_place (m G) (λ r. So (ok (f r))) h

  by_pair : (f : ℕ → ℕ) → ((k : ℕ) → k < length (pair_list G) → So (ok (f (suc k)))) → (k : ℕ) → So (is_atom (length (pair_list G)) k) → So (ok (f k))
  by_pair f h = by_place (length (pair_list G)) (λ k. So (ok (f k))) h

  -- ---- the groups

  fit1 : So (all_fit (part1 G))
  fit1 = each_fit (m G) _ (λ r h.
      let R = rl G (suc r) in
      let t = ok_body r h in
      append_fit (map (λ b. − body_var S (suc r) ∷ var b ∷ []) R.positive) _
      (map_fit (is_atom G.n) R.positive _ (g.positive_in r h) (λ b u. two_fit (− body_var S (suc r)) (var b) t (ok_atom b u)))
      (append_fit (map (λ c. − body_var S (suc r) ∷ − c ∷ []) R.negative) _
      (map_fit (is_atom G.n) R.negative _ (g.negative_in r h) (λ c u. two_fit (− body_var S (suc r)) (− c) t (ok_atom c u)))
      (one_fit (var (body_var S (suc r)) ∷ (map −◌ R.positive ++ map var R.negative))
      (and_in t (all_append (λ l. ok (variable l)) (map −◌ R.positive) (map var R.negative)
      ∙ and_in (map_ok (is_atom G.n) R.positive −◌ (g.positive_in r h) ok_atom) (map_ok (is_atom G.n) R.negative var (g.negative_in r h) ok_atom))))))

  fit2 : So (all_fit (part2 G))
  fit2 = each_fit G.n _ (λ a h.
      let t = ok_atom (suc a) (is_atom_lem G.n (suc a) (omega arith) h) in
      append_fit (implied_clauses S (suc a) (its G (suc a))) _
      (map_fit (is_atom (m G)) (its G (suc a)) _ (its_in (suc a)) (λ r u. two_fit (var (suc a)) (− body_var S r) t (by_rule_lem (body_var S) ok_body r u)))
      (last (G.opened (suc a)) (supported_clause S (suc a) (its G (suc a)))
      (and_in t (map_ok (is_atom (m G)) (its G (suc a)) (λ r. var (body_var S r)) (its_in (suc a)) (by_rule_lem (body_var S) ok_body)))))
    where
      last : (b : Bool) (c : Clause) → So (fit c) → So (all_fit (cond b [] (c ∷ [])))
      last true c t = refl
      last false c t = and_in t refl

  fit3 : So (all_fit (part3 G))
  fit3 = each_fit G.n _ (λ a h.
      let t = is_atom_lem G.n (suc a) (omega arith) h in
      tab_fit G.w _ (λ i l. two_fit (var (suc a)) (− level_var S (suc a) (suc i)) (ok_atom (suc a) t) (ok_level (suc a) t i l)))

  successor_fit : (u v : ℕ → ℕ) → ((i : ℕ) → i < G.w → So (ok (u (suc i)))) → ((i : ℕ) → i < G.w → So (ok (v (suc i)))) → So (all_fit (successor G.w u v))
  unfolding successor
  successor_fit u v p q = each_fit G.w _ (λ i h.
      append_fit (each i (keeps_clauses u v (suc i))) (flips_clauses u v (suc i))
      (each_fit i _ (λ j l. and_in (three_fit (var (v (suc j))) (− u (suc i)) (var (v (suc i))) (q j (omega arith)) (p i h) (q i h))
      (and_in (three_fit (var (v (suc j))) (var (u (suc i))) (− v (suc i)) (q j (omega arith)) (p i h) (q i h)) refl)))
      (and_in (signs i h (− u (suc i) ∷ − v (suc i) ∷ []) (two_fit (− u (suc i)) (− v (suc i)) (p i h) (q i h)))
      (and_in (signs i h (var (u (suc i)) ∷ var (v (suc i)) ∷ []) (two_fit (var (u (suc i))) (var (v (suc i))) (p i h) (q i h))) refl)))
    where
      signs : (i : ℕ) → i < G.w → (ls : Clause) → So (fit ls) → So (fit (tab i (λ j. − v j) ++ ls))
      signs i h ls t =
          all_append (λ l. ok (variable l)) (tab i (λ j. − v j)) ls
          ∙ and_in (all_tab (λ l. ok (variable l)) i (λ j. − v j) ∙ all_to_in i _ (λ j l. q j (omega arith))) t

  chain_fit : (z x y : ℕ → ℕ) → ((i : ℕ) → i < G.w → So (ok (z (suc i)))) → ((i : ℕ) → i < G.w → So (ok (x (suc i)))) → ((i : ℕ) → i < G.w → So (ok (y (suc i))))
      → So (all_fit (chain G.w z x y))
  unfolding chain
  chain_fit z x y p q r = each_fit G.w _ at
    where
      at : (i : ℕ) → i < G.w → So (all_fit (chain_at z x y (suc i)))
      at zero h =
          and_in (two_fit (− z 1) (− x 1) (p 0 h) (q 0 h)) (and_in (two_fit (− z 1) (var (y 1)) (p 0 h) (r 0 h)) (and_in (three_fit (var (z 1)) (var (x 1)) (− y 1) (p 0 h) (q 0 h) (r 0 h)) refl))
      at (suc i) h =
          let a = p (suc i) h in
          let b = q (suc i) h in
          let c = r (suc i) h in
          let d = p i (omega arith) in
          and_in (and_in a (and_in b (and_in c refl))) (and_in (and_in a (and_in b (and_in d refl))) (and_in (and_in a (and_in c (and_in d refl)))
          (and_in (and_in a (and_in b (and_in c refl))) (and_in (and_in a (and_in b (and_in d refl))) (and_in (and_in a (and_in c (and_in d refl))) refl)))))

  fit4 : So (all_fit (part4 G))
  fit4 = each_fit G.n _ (λ a h. let t = is_atom_lem G.n (suc a) (omega arith) h in successor_fit (next_var S (suc a)) (level_var S (suc a)) (ok_next (suc a) t) (ok_level (suc a) t))

  fit5 : So (all_fit (part5 G))
  fit5 = each_fit (length (pair_list G)) _ (λ k h.
      append_fit (chain G.w (below_var S (suc k)) (level_var S (pair_body G (suc k))) (level_var S (pair_head G (suc k)))) _
      (chain_fit _ _ _ (ok_below k h) (ok_level (pair_body G (suc k)) (body_in G g k h)) (ok_level (pair_head G (suc k)) (head_in G g k h)))
      (chain_fit _ _ _ (ok_next_below k h) (ok_next (pair_body G (suc k)) (body_in G g k h)) (ok_level (pair_head G (suc k)) (head_in G g k h))))

  one_clauses_fit : (x h : ℕ) → So (ok x) → So (is_atom G.n h) → So (all_fit (one_clauses S x h))
  one_clauses_fit x h t u =
      and_in (two_fit (− x) (var (level_var S h 1)) t (ok_level h u 0 some))
      (tab_fit (pred G.w) _ (λ i l. two_fit (− x) (− level_var S h (suc (suc i))) t (ok_level h u (suc i) (omega (arith, l, suc-pred-eq_of_pos some)))))

  fit6 : So (all_fit (part6 G))
  fit6 = each_fit (m G) _ (λ r h.
      let ks = pair_numbers G (suc r) in
      let s = ok_founds r h in
      let t = ok_body r h in
      let below = by_pair (λ k. below_var S k G.w) (λ k l. top (below_var S (suc k)) (ok_below k l)) in
      append_fit (founds_clauses S (suc r) ks) _
      (and_in (two_fit (− founds_var S (suc r)) (var (body_var S (suc r))) s t)
      (append_fit (map (λ k. − founds_var S (suc r) ∷ var (below_var S k G.w) ∷ []) ks) _
      (map_fit (is_atom (length (pair_list G))) ks _ (pairs_in r h) (λ k u. two_fit (− founds_var S (suc r)) (var (below_var S k G.w)) s (below k u)))
      (one_fit (var (founds_var S (suc r)) ∷ − body_var S (suc r) ∷ map (λ k. − below_var S k G.w) ks)
      (and_in s (and_in t (map_ok (is_atom (length (pair_list G))) ks (λ k. − below_var S k G.w) (pairs_in r h) below))))))
      (lowest r h ks (pairs_in r h)))
    where
      lowest : (r : ℕ) → r < m G → (ks : List ℕ) → So (all (is_atom (length (pair_list G))) ks) → So (all_fit (lowest_clauses S (suc r) (rl G (suc r)).head ks))
      lowest r h [] t = one_clauses_fit (body_var S (suc r)) (rl G (suc r)).head (ok_body r h) (g.head_in r h)
      lowest r h (k ∷ ks) t =
          one_fit (− body_var S (suc r) ∷ map (λ k. − next_below_var S k G.w) (k ∷ ks))
          (and_in (ok_body r h) (map_ok (is_atom (length (pair_list G))) (k ∷ ks) (λ k. − next_below_var S k G.w) t
          (by_pair (λ k. next_below_var S k G.w) (λ k l. top (next_below_var S (suc k)) (ok_next_below k l)))))

  fit7 : So (all_fit (part7 G))
  fit7 = each_fit G.n _ (λ a h. last a (is_atom_lem G.n (suc a) (omega arith) h) (G.opened (suc a)))
    where
      last : (a : ℕ) → So (is_atom G.n (suc a)) → (b : Bool) → So (all_fit (cond b (one_clauses S (suc a) (suc a)) (founded_clause S (suc a) (its G (suc a)) ∷ [])))
      last a t true = one_clauses_fit (suc a) (suc a) (ok_atom (suc a) t) t
      last a t false =
          one_fit (founded_clause S (suc a) (its G (suc a)))
          (and_in (ok_atom (suc a) t) (map_ok (is_atom (m G)) (its G (suc a)) (λ r. var (founds_var S r)) (its_in (suc a)) (by_rule_lem (founds_var S) ok_founds)))

  -- every literal of every clause is of a variable from 1 to V
  pub clauses_fit : So (within (variables_of G) (clauses_of G))
  unfolding clauses_of
  clauses_fit =
      all_joined fit (part1 G ∷ part2 G ∷ part3 G ∷ part4 G ∷ part5 G ∷ part6 G ∷ part7 G ∷ [])
      ∙ and_in fit1 (and_in fit2 (and_in fit3 (and_in fit4 (and_in fit5 (and_in fit6 (and_in fit7 refl))))))

  -- ---- and every variable occurs

  module _ (v : ℕ) where
    abbrev has : Literal → Bool
    has l = eqb (variable l) v

    abbrev in_clause : Clause → Bool
    in_clause c = any has c

    each_has : (n : ℕ) (f : ℕ → List Clause) (i : ℕ) → i < n → So (any in_clause (f (suc i))) → So (any in_clause (each n f))
    each_has n f i h t = any_each in_clause n f ∙ any_to_in n (λ i. any in_clause (f i)) i h t

    append_left : (xs ys : List Clause) → So (any in_clause xs) → So (any in_clause (xs ++ ys))
    append_left xs ys t = any_append in_clause xs ys ∙ or_left (any in_clause xs) (any in_clause ys) t

    append_right : (xs ys : List Clause) → So (any in_clause ys) → So (any in_clause (xs ++ ys))
    append_right xs ys t = any_append in_clause xs ys ∙ or_right (any in_clause xs) (any in_clause ys) t

    -- the variable is that of literal j of the first clause
    here : (cs : List Clause) (j : ℕ) → zero < length cs → j < length (get_or cs 0 []) → v ≡ variable (get_or (get_or cs 0 []) j (var 0)) → So (any in_clause cs)
    here cs j z h e = any_in in_clause cs [] 0 z (any_in has (get_or cs 0 []) (var 0) j h (eq-eqb (variable (get_or (get_or cs 0 []) j (var 0))) v (sym e)))

    in_zero : (a i j : ℕ) → a < G.n → i < G.w → j < 2 → v ≡ variable (get_or (var (suc a) ∷ − level_var S (suc a) (suc i) ∷ []) j (var 0)) → So (any in_clause (part3 G))
    in_zero a i j h l k e =
        each_has G.n _ a h (any_tab in_clause G.w (λ i. var (suc a) ∷ − level_var S (suc a) i ∷ [])
        ∙ any_to_in G.w _ i l (any_in has (var (suc a) ∷ − level_var S (suc a) (suc i) ∷ []) (var 0) j k (eq-eqb (variable (get_or (var (suc a) ∷ − level_var S (suc a) (suc i) ∷ []) j (var 0))) v (sym e))))

    in_founds : (r j : ℕ) → r < m G → j < 2 → v ≡ variable (get_or (− founds_var S (suc r) ∷ var (body_var S (suc r)) ∷ []) j (var 0)) → So (any in_clause (part6 G))
    in_founds r j h k e =
        each_has (m G) _ r h (append_left (founds_clauses S (suc r) (pair_numbers G (suc r))) _ (here (founds_clauses S (suc r) (pair_numbers G (suc r))) j (omega arith) k e))

    in_next : (a i : ℕ) → a < G.n → i < G.w → v ≡ next_var S (suc a) (suc i) → So (any in_clause (part4 G))
    unfolding successor
    in_next a i h l e = each_has G.n _ a h (bits (next_var S (suc a)) (level_var S (suc a)) e)
      where
        flips : (u w : ℕ → ℕ) → v ≡ u (suc i) → So (any in_clause (flips_clauses u w (suc i)))
        flips u w e =
            or_left (in_clause (tab i (λ j. − w j) ++ (− u (suc i) ∷ − w (suc i) ∷ []))) _
            (any_append has (tab i (λ j. − w j)) (− u (suc i) ∷ − w (suc i) ∷ []) ∙ or_right (any has (tab i (λ j. − w j))) _ (or_left (eqb (u (suc i)) v) _ (eq-eqb (u (suc i)) v (sym e))))

        bits : (u w : ℕ → ℕ) → v ≡ u (suc i) → So (any in_clause (successor G.w u w))
        bits u w e = each_has G.w (successor_at u w) i l (append_right (each i (keeps_clauses u w (suc i))) (flips_clauses u w (suc i)) (flips u w e))

    in_chain : (z x y : ℕ → ℕ) (i : ℕ) → i < G.w → v ≡ z (suc i) → So (any in_clause (chain G.w z x y))
    unfolding chain
    in_chain z x y i l e = each_has G.w (chain_at z x y) i l (at i e)
      where
        at : (i : ℕ) → v ≡ z (suc i) → So (any in_clause (chain_at z x y (suc i)))
        at zero e = here (chain_at z x y 1) 0 (lit< tt) (lit< tt) e
        at (suc i) e = here (chain_at z x y (suc (suc i))) 0 (lit< tt) (lit< tt) e

    in_part : (j : ℕ) → j < 7 → So (any in_clause (get_or (part1 G ∷ part2 G ∷ part3 G ∷ part4 G ∷ part5 G ∷ part6 G ∷ part7 G ∷ []) j [])) → So (occurs v (clauses_of G))
    unfolding clauses_of
    in_part j h t =
        any_joined in_clause (part1 G ∷ part2 G ∷ part3 G ∷ part4 G ∷ part5 G ∷ part6 G ∷ part7 G ∷ [])
        ∙ any_in (any in_clause) (part1 G ∷ part2 G ∷ part3 G ∷ part4 G ∷ part5 G ∷ part6 G ∷ part7 G ∷ []) [] j h t

    member_occurs : Member S (length (pair_list G)) v → So (occurs v (clauses_of G))
    member_occurs (atom_at a h e) = in_part 2 (lit< tt) (in_zero a 0 0 h some (lit< tt) e)
    member_occurs (body_at r h e) = in_part 5 (lit< tt) (in_founds r 1 h (lit< tt) e)
    member_occurs (founds_at r h e) = in_part 5 (lit< tt) (in_founds r 0 h (lit< tt) e)
    member_occurs (level_at a i h l e) = in_part 2 (lit< tt) (in_zero a i 1 h l (lit< tt) e)
    member_occurs (next_at a i h l e) = in_part 3 (lit< tt) (in_next a i h l e)
    member_occurs (below_at k i h l e) =
        in_part 4 (lit< tt) (each_has (length (pair_list G)) _ k h
        (append_left (chain G.w (below_var S (suc k)) (level_var S (pair_body G (suc k))) (level_var S (pair_head G (suc k)))) _ (in_chain _ _ _ i l e)))
    member_occurs (next_below_at k i h l e) =
        in_part 4 (lit< tt) (each_has (length (pair_list G)) _ k h
        (append_right (chain G.w (below_var S (suc k)) (level_var S (pair_body G (suc k))) (level_var S (pair_head G (suc k)))) _ (in_chain _ _ _ i l e)))

  pub all_occur : (v : ℕ) → zero < v → v ≤ variables_of G → So (occurs v (clauses_of G))
  all_occur v p h = member_occurs v (member S (length (pair_list G)) v p h)
