-- The pairs of a code: pair j of rule r stands after the pairs of the rules before it, and each pair is one of these.
-- Assumes nothing.
use Prim.Native.Nat.{ℕ, zero, suc, pred, ◌+◌, ◌≤◌, ◌<◌}
use native.Mathlib.Nat.{add-suc}
use native.Mathlib.Omega.{arith}
use mathlib.Core.Path.{◌≡◌, refl, sym, ◌∙◌, ap, subst}
use mathlib.Core.Bool.{Bool, true, false, So, cond}
use mathlib.Core.List.{List, [], ◌∷◌}
use lib.ListN.{length, get_or, length-map}
use Rattle.lists.specs.Lists.{all, keep, sum}
use Rattle.lists.proofs.Tests.{all_at, all_tab, all_to_ext}
use Rattle.lists.proofs.Tables.{sum_ext, sum_mono, sum_place, length_each, get_or_each, get_d_map, all_places, all_keep}
use Rattle.meaning.specs.Program.{is_atom}
use Rattle.encoding.specs.Clauses.{Pair, no_pair, pair_at, pairs_with}
use Rattle.encoding.specs.Code.{Code, m, rl, inner, pair_list, pair_body, pair_head, before, pair_numbers}
use Rattle.theory.proofs.Numbered.{Ranges}

keep_few : (p : ℕ → Bool) (xs : List ℕ) → length (keep p xs) ≤ length xs
keep_few p [] = omega arith
keep_few p (x ∷ xs) = go (p x) (keep_few p xs)
  where
    go : (b : Bool) → length (keep p xs) ≤ length xs → length (cond b (x ∷ keep p xs) (keep p xs)) ≤ suc (length xs)
    go true h = omega (arith, h)
    go false h = omega (arith, h)

sum_few : (n : ℕ) (f g : ℕ → ℕ) → ((i : ℕ) → f i ≤ g i) → sum n f ≤ sum n g
sum_few zero f g h = omega arith
sum_few (suc n) f g h = omega (arith, sum_few n f g h, h (suc n))

module _ (G : Code) where
  abbrev size_of : ℕ → ℕ
  size_of r = length (inner G r)

  row_length : (r : ℕ) → length (pairs_with (rl G r).head (inner G r)) ≡ size_of r
  row_length r = length-map (inner G r) _

  pub pair_count_lem : length (pair_list G) ≡ sum (m G) size_of
  unfolding pair_list
  pair_count_lem = length_each (m G) _ ∙ sum_ext (m G) _ _ (λ r h. row_length (suc r))

  -- at most as many as positive body atoms
  pub pairs_few : length (pair_list G) ≤ sum (m G) (λ r. length (rl G r).positive)
  unfolding inner
  pairs_few =
      omega (
        arith,
        pair_count_lem,
        sum_few (m G) size_of (λ r. length (rl G r).positive) (λ r. keep_few (λ b. G.inside b (rl G r).head) (rl G r).positive),
      )

  before_is : (r : ℕ) → before G (suc r) ≡ sum r size_of
  unfolding before
  before_is r = refl

  pub pair_below : (r j : ℕ) → r < m G → j < size_of (suc r) → before G (suc r) + j < length (pair_list G)
  pair_below r j h g = omega (arith, pair_count_lem, before_is r, sum_mono (m G) size_of r h)

  pub pair_is : (r j : ℕ) → r < m G → j < size_of (suc r)
      → pair_at (pair_list G) (before G (suc r) + suc j) ≡ record { body = get_or (inner G (suc r)) j 0; head = (rl G (suc r)).head }
  unfolding pair_list before
  pair_is r j h g =
      ap (λ (k : ℕ). get_or (pair_list G) (pred k) no_pair) (add-suc (sum r size_of) j)
      ∙ ap (λ (k : ℕ). get_or (pair_list G) (k + j) no_pair) (sym (sum_ext r _ _ (λ q i. row_length (suc q))))
      ∙ get_or_each (m G) (λ r. pairs_with (rl G r).head (inner G r)) no_pair r j h (subst (λ (k : ℕ). j < k) (sym (row_length (suc r))) g)
      ∙ get_d_map _ (inner G (suc r)) 0 no_pair j g

  -- each pair is pair j of some rule r
  pub record PairOf (k : ℕ) : Type 0 where
    pub rule : ℕ
    pub place : ℕ
    pub is_rule : rule < m G
    pub is_place : place < size_of (suc rule)
    pub number : k ≡ before G (suc rule) + place

  pub pair_of : (k : ℕ) → k < length (pair_list G) → PairOf k
  pair_of k h =
      let q = sum_place (m G) size_of k (subst (λ (x : ℕ). k < x) pair_count_lem h) in
      record { rule = q.0; place = q.1; is_rule = q.2; is_place = q.3; number = q.4 ∙ ap (λ (x : ℕ). x + q.1) (sym (before_is q.0)) }

  pub pair_of_is : (k : ℕ) (p : PairOf k) → pair_at (pair_list G) (suc k) ≡ record { body = get_or (inner G (suc p.rule)) p.place 0; head = (rl G (suc p.rule)).head }
  pair_of_is k p =
      ap (pair_at (pair_list G)) (ap suc p.number ∙ sym (add-suc (before G (suc p.rule)) p.place))
      ∙ pair_is p.rule p.place p.is_rule p.is_place

  pub inner_in : Ranges G → (r : ℕ) → r < m G → So (all (is_atom G.n) (inner G (suc r)))
  unfolding inner
  inner_in g r h = all_keep (λ b. G.inside b (rl G (suc r)).head) (is_atom G.n) (rl G (suc r)).positive (g.positive_in r h)

  -- the atoms of a pair are in range
  pub body_in : Ranges G → (k : ℕ) → k < length (pair_list G) → So (is_atom G.n (pair_body G (suc k)))
  body_in g k h =
      let p = pair_of k h in
      subst (λ (x : Pair). So (is_atom G.n x.body)) (sym (pair_of_is k p))
      (all_at (is_atom G.n) (inner G (suc p.rule)) 0 (inner_in g p.rule p.is_rule) p.place p.is_place)

  pub head_in : Ranges G → (k : ℕ) → k < length (pair_list G) → So (is_atom G.n (pair_head G (suc k)))
  head_in g k h =
      let p = pair_of k h in
      subst (λ (x : Pair). So (is_atom G.n x.head)) (sym (pair_of_is k p)) (g.head_in p.rule p.is_rule)

  -- a test of the numbers of a rule's pairs that tells by the pair's atoms is one of the inner body atoms
  pub all_pairs : (p : ℕ → Bool) (q : ℕ → ℕ → Bool)
      → ((k : ℕ) → k < length (pair_list G) → p (suc k) ≡ q (pair_body G (suc k)) (pair_head G (suc k)))
      → (r : ℕ) → r < m G → all p (pair_numbers G (suc r)) ≡ all (λ b. q b (rl G (suc r)).head) (inner G (suc r))
  all_pairs p q e r h =
      all_tab p (size_of (suc r)) (λ j. before G (suc r) + j)
      ∙ all_to_ext (size_of (suc r)) _ _
      (λ j g. ap p (add-suc (before G (suc r)) j) ∙ e (before G (suc r) + j) (pair_below r j h g)
      ∙ ap (λ (x : Pair). q x.body x.head) (ap (pair_at (pair_list G)) (sym (add-suc (before G (suc r)) j)) ∙ pair_is r j h g))
      ∙ sym (all_places (λ b. q b (rl G (suc r)).head) (inner G (suc r)) 0)
