-- The clauses of a code are true under A exactly if A's true atoms are a stable model and each variable has the value that the model
-- gives it. From clauses to model and levels no bound on the width is used: next may wrap. The other way, level + 1 has to fit.
--   Canon G M A      each variable has under A the value that M and its levels give it
--   says_stable, says_canon   from the clauses' meaning to these
--   canon_says       and back, where level + 1 is below 2^w for each atom
-- Assumes nothing.
use Prim.Native.Nat.{ℕ, zero, suc, pred, ◌+◌, ◌-◌, ◌^◌, ◌%◌, ◌≤◌, ◌<◌}
use native.Mathlib.Nat.{not-suc-le-zero, mod-eq_of_lt, zero-div, sub-add_cancel, le_trans, le_refl, mod-le}
use native.Mathlib.Omega.{arith}
use lib.Pow.{mod-mod-pow}
use mathlib.Core.Path.{◌≡◌, refl, sym, ◌∙◌, ap, ap₂, subst, fun_ext}
use mathlib.Core.Logic.{◌↔◌}
use mathlib.Core.Bool.{Bool, true, false, not, ◌&&◌, So, cond}
use mathlib.Core.List.{List, [], ◌∷◌}
use lib.Dec.{ltb, eqb}
use lib.ListN.{length, get_or}
use borrow.Author.Tests.{ltb-false, le-ltb, not-true}
use Rattle.lists.specs.Lists.{all, all_to}
use Rattle.lists.proofs.Bools.{and_in, and_left, and_right, not_So, false_of, So-not}
use Rattle.lists.proofs.Tests.{all_at, all_ext, any_at, any_not}
use Rattle.lists.proofs.Tables.{sum_zero, length_tab}
use Rattle.meaning.specs.Program.{Atoms, is_atom, body_true}
use Rattle.theory.proofs.Atoms.{is_atom_lem, by_place}
use Rattle.encoding.specs.Literal.{Assignment}
use Rattle.encoding.specs.Variables.{Sizes, body_var, founds_var, level_var, next_var, below_var, next_below_var}
use Rattle.encoding.specs.Counter.{value, bit}
use Rattle.encoding.specs.Fill.{less_at, founds, true_in, counter}
use Rattle.encoding.specs.Code.{Code, m, code_sizes, rl, inner, pair_list, pair_body, pair_head, pair_numbers, before, level_of, StableIn}
use Rattle.theory.proofs.Bits.{value_ext, value_mod, value_bit, bit_value, bit_mod}
use Rattle.theory.proofs.Counters.{bits, Compares, one_iff}
use Rattle.theory.proofs.Groups.{one_test, low_test}
use Rattle.theory.proofs.Meaning.{Says}
use Rattle.theory.proofs.Numbered.{Ranges, Rank, Numbering, numbered_stable, numbered_level, stable_numbered}
use Rattle.theory.proofs.Pairs.{body_in, head_in, all_pairs}

pub record Canon (G : Code) (M : Atoms) (A : Assignment) : Type 0 where
  pub atoms : (a : ℕ) → a < G.n → A (suc a) ≡ M (suc a)
  pub bodies : (r : ℕ) → r < m G → A (body_var (code_sizes G) (suc r)) ≡ body_true M (rl G (suc r))
  pub foundings : (r : ℕ) → r < m G → A (founds_var (code_sizes G) (suc r)) ≡ founds M (level_of G M) (rl G (suc r)) (inner G (suc r))
  pub levels : (a : ℕ) → a < G.n → (i : ℕ) → i < G.w → A (level_var (code_sizes G) (suc a) (suc i)) ≡ bit (level_of G M (suc a)) (suc i)
  pub nexts : (a : ℕ) → a < G.n → (i : ℕ) → i < G.w → A (next_var (code_sizes G) (suc a) (suc i)) ≡ bit (level_of G M (suc a) + 1) (suc i)
  pub belows : (k : ℕ) → k < length (pair_list G) → (i : ℕ) → i < G.w → A (below_var (code_sizes G) (suc k) (suc i))
      ≡ less_at (level_of G M (pair_body G (suc k))) (level_of G M (pair_head G (suc k))) (suc i)
  pub next_belows : (k : ℕ) → k < length (pair_list G) → (i : ℕ) → i < G.w → A (next_below_var (code_sizes G) (suc k) (suc i))
      ≡ less_at (level_of G M (pair_body G (suc k)) + 1) (level_of G M (pair_head G (suc k))) (suc i)

-- ---- small laws

-- two sets that agree on the atoms make the same bodies true
body_agree : (G : Code) → Ranges G → (X Y : Atoms) → ((a : ℕ) → a < G.n → X (suc a) ≡ Y (suc a))
    → (r : ℕ) → r < m G → body_true X (rl G (suc r)) ≡ body_true Y (rl G (suc r))
body_agree G g X Y e r h =
    ap₂ ◌&&◌
    (all_ext X Y (rl G (suc r)).positive 0 (λ j i. agree _ (all_at (is_atom G.n) (rl G (suc r)).positive 0 (g.positive_in r h) j i)))
    (all_ext (λ c. not (X c)) (λ c. not (Y c)) (rl G (suc r)).negative 0 (λ j i. ap not (agree _ (all_at (is_atom G.n) (rl G (suc r)).negative 0 (g.negative_in r h) j i))))
  where
    agree : (a : ℕ) → So (is_atom G.n a) → X a ≡ Y a
    agree = by_place G.n (λ a. X a ≡ Y a) e

true_in_lem : (n : ℕ) (A : Assignment) (a : ℕ) → a < n → A (suc a) ≡ true_in n A (suc a)
true_in_lem n A a h = sym (ap (λ b. b && A (suc a)) (is_atom_lem n (suc a) (omega arith) h))

value_none : (X : ℕ → Bool) (w : ℕ) → ((i : ℕ) → i < w → X (suc i) ≡ false) → value X w ≡ 0
value_none X w e = value_ext X (λ i. false) w e ∙ sum_zero w

bit_zero : (i : ℕ) → bit 0 i ≡ false
bit_zero i = ap (λ (x : ℕ). eqb (x % 2) 1) (zero-div (2 ^ pred i))

-- where there is a bit, the counter is 1 exactly if its lowest bit alone is set
one_iff_w : (S : Sizes) (A : Assignment) (h : ℕ) → zero < S.w → So (one_test S A h) ↔ (counter S A h ≡ 1)
one_iff_w S A h z = go S.w z
  where
    go : (w : ℕ) → zero < w → So (A (level_var S h 1) && all_to (pred w) (λ i. not (A (level_var S h (suc i))))) ↔ (value (λ i. A (level_var S h i)) w ≡ 1)
    go zero z = absurd (not-suc-le-zero z)
    go (suc w) z = one_iff (λ i. A (level_var S h i)) w

low_none : (S : Sizes) (A : Assignment) (h : ℕ) (ks : List ℕ) → length ks ≡ 0 → low_test S A h ks ≡ one_test S A h
low_none S A h [] e = refl
low_none S A h (k ∷ ks) e = absurd (omega arith)

low_some : (S : Sizes) (A : Assignment) (h : ℕ) (ks : List ℕ) → zero < length ks → low_test S A h ks ≡ not (all (λ k. A (next_below_var S k S.w)) ks)
low_some S A h [] e = absurd (not-suc-le-zero e)
low_some S A h (k ∷ ks) e = any_not (λ k. A (next_below_var S k S.w)) (k ∷ ks)

less_w : (x y w : ℕ) → x < 2 ^ w → y < 2 ^ w → less_at x y w ≡ ltb x y
less_w x y w h g = ap₂ ltb (mod-eq_of_lt h) (mod-eq_of_lt g)

mod_low : (x w i : ℕ) → i ≤ w → x % 2 ^ w % 2 ^ i ≡ x % 2 ^ i
mod_low x w i h = ap (λ (k : ℕ). x % 2 ^ k % 2 ^ i) (sym (sub-add_cancel h)) ∙ mod-mod-pow x (w - i) i

-- what holds at bit w
top_bit {ℓ} : (Q : ℕ → Type ℓ) (w : ℕ) → zero < w → ((i : ℕ) → i < w → Q (suc i)) → Q w
top_bit Q zero z f = absurd (not-suc-le-zero z)
top_bit Q (suc w) z f = f w (omega arith)

-- not all are below: some one is not
not_all : (p : ℕ → Bool) (xs : List ℕ) → So (not (all p xs)) → (j : ℕ) × (j < length xs) × (p (get_or xs j 0) ≡ false)
not_all p xs t = let q = any_at (λ x. not (p x)) xs 0 (any_not p xs ∙ t) in (q.0, q.1, not-true (p (get_or xs q.0 0)) q.2)

-- ---- from the clauses

module _ (G : Code) (A : Assignment) (g : Ranges G) (z : zero < G.w) (s : Says G A) where
  abbrev S : Sizes
  S = code_sizes G

  abbrev M : Atoms
  M = true_in G.n A

  abbrev c : ℕ → ℕ
  c = counter S A

  -- the counter of a true atom, 0 for any other number
  abbrev ℓ : ℕ → ℕ
  ℓ a = cond (M a) (c a) 0

  bodies_true : (r : ℕ) → r < m G → A (body_var S (suc r)) ≡ body_true M (rl G (suc r))
  bodies_true r h = s.bodies r h ∙ body_agree G g A M (true_in_lem G.n A) r h

  counter_is : (a : ℕ) → So (is_atom G.n a) → c a ≡ ℓ a
  counter_is = by_place G.n (λ a. c a ≡ ℓ a) (λ a h. go a h (M (suc a)) refl)
    where
      go : (a : ℕ) → a < G.n → (b : Bool) → M (suc a) ≡ b → c (suc a) ≡ cond b (c (suc a)) 0
      go a h true e = refl
      go a h false e = value_none (λ i. A (level_var S (suc a) i)) G.w (s.zeroed a h (true_in_lem G.n A a h ∙ e))

  below_is : (k : ℕ) → k < length (pair_list G) → A (below_var S (suc k) G.w) ≡ ltb (ℓ (pair_body G (suc k))) (ℓ (pair_head G (suc k)))
  below_is k h =
      top_bit (λ i. Compares A (below_var S (suc k)) (level_var S (pair_body G (suc k))) (level_var S (pair_head G (suc k))) i) G.w z (s.belows k h)
      ∙ ap₂ ltb (counter_is (pair_body G (suc k)) (body_in G g k h)) (counter_is (pair_head G (suc k)) (head_in G g k h))

  founds_is : (r : ℕ) → r < m G → A (founds_var S (suc r)) ≡ founds M ℓ (rl G (suc r)) (inner G (suc r))
  founds_is r h = s.founds r h ∙ ap₂ ◌&&◌ (bodies_true r h) (all_pairs G (λ k. A (below_var S k G.w)) (λ b h. ltb (ℓ b) (ℓ h)) below_is r h)

  -- the number of the next of an atom
  next_value : (a : ℕ) → So (is_atom G.n a) → value (bits A (next_var S a)) G.w ≡ (c a + 1) % 2 ^ G.w
  next_value = by_place G.n (λ a. value (bits A (next_var S a)) G.w ≡ (c a + 1) % 2 ^ G.w) s.nexts

  next_below_is : (k : ℕ) → k < length (pair_list G)
      → A (next_below_var S (suc k) G.w) ≡ ltb ((ℓ (pair_body G (suc k)) + 1) % 2 ^ G.w) (ℓ (pair_head G (suc k)))
  next_below_is k h =
      top_bit (λ i. Compares A (next_below_var S (suc k)) (next_var S (pair_body G (suc k))) (level_var S (pair_head G (suc k))) i) G.w z (s.next_belows k h)
      ∙ ap₂ ltb (next_value (pair_body G (suc k)) (body_in G g k h) ∙ ap (λ (x : ℕ). (x + 1) % 2 ^ G.w) (counter_is (pair_body G (suc k)) (body_in G g k h)))
      (counter_is (pair_head G (suc k)) (head_in G g k h))

  numbering : Numbering G M ℓ
  numbering =
      record {
        atoms = λ a t. and_left (is_atom G.n a) (A a) t;
        closed = λ r h t.
            by_place G.n (λ a. (rl G (suc r)).head ≡ a → So (M a))
            (λ a l e. and_in (is_atom_lem G.n (suc a) (omega arith) l) (s.implied a l r h e (bodies_true r h ∙ t))) (rl G (suc r)).head (g.head_in r h) refl;
        off = λ a e. ap (λ b. cond b (c a) 0) e;
        one = λ a t o. sym (counter_is a (and_left (is_atom G.n a) (A a) t)) ∙ (one_iff_w S A a z).0 (opened_one a (and_left (is_atom G.n a) (A a) t) (and_right (is_atom G.n a) (A a) t) o);
        found = λ a t o. founded_by a (and_left (is_atom G.n a) (A a) t) (and_right (is_atom G.n a) (A a) t) o;
        low_none = λ r h b e.
            sym (counter_is (rl G (suc r)).head (g.head_in r h))
            ∙ (one_iff_w S A (rl G (suc r)).head z).0
            (sym (low_none S A (rl G (suc r)).head (pair_numbers G (suc r)) (length_tab (length (inner G (suc r))) _ ∙ e)) ∙ s.lowest r h (bodies_true r h ∙ b));
        low_some = λ r h b l. some_low r h b l;
      }
    where
      opened_one : (a : ℕ) → So (is_atom G.n a) → So (A a) → So (G.opened a) → So (one_test S A a)
      opened_one = by_place G.n (λ a. So (A a) → So (G.opened a) → So (one_test S A a)) (λ a h t o. s.one a h o t)

      founded_by : (a : ℕ) → So (is_atom G.n a) → So (A a) → G.opened a ≡ false
          → (r : ℕ) × (r < m G) × ((rl G (suc r)).head ≡ a) × So (body_true M (rl G (suc r))) × So (all (λ b. ltb (ℓ b) (ℓ a)) (inner G (suc r)))
      founded_by =
          by_place G.n
          (λ a. So (A a) → G.opened a ≡ false
          → (r : ℕ) × (r < m G) × ((rl G (suc r)).head ≡ a) × So (body_true M (rl G (suc r))) × So (all (λ b. ltb (ℓ b) (ℓ a)) (inner G (suc r))))
          (λ a h t o.
          let q = s.founded a h o t in
          let R = rl G (suc q.0) in
          let bs = inner G (suc q.0) in
          let f = sym (founds_is q.0 q.1) ∙ q.3 in (
            q.0,
            q.1,
            q.2,
            and_left (body_true M R) (all (λ b. ltb (ℓ b) (ℓ R.head)) bs) f,
            subst (λ (x : ℕ). So (all (λ b. ltb (ℓ b) (ℓ x)) bs)) q.2 (and_right (body_true M R) (all (λ b. ltb (ℓ b) (ℓ R.head)) bs) f),
          ))

      some_low : (r : ℕ) → r < m G → So (body_true M (rl G (suc r))) → zero < length (inner G (suc r))
          → (j : ℕ) × (j < length (inner G (suc r))) × (ℓ (rl G (suc r)).head ≤ ℓ (get_or (inner G (suc r)) j 0) + 1)
      some_low r h b l =
          let bs = inner G (suc r) in
          let top = (rl G (suc r)).head in
          let ks = pair_numbers G (suc r) in
          let q = not_all (λ b. ltb ((ℓ b + 1) % 2 ^ G.w) (ℓ top)) bs
          (ap not (sym (all_pairs G (λ k. A (next_below_var S k G.w)) (λ b h. ltb ((ℓ b + 1) % 2 ^ G.w) (ℓ h)) next_below_is r h))
          ∙ sym (low_some S A top ks (subst (λ (x : ℕ). zero < x) (sym (length_tab (length bs) _)) l)) ∙ s.lowest r h (bodies_true r h ∙ b)) in
          (q.0, q.1, le_trans (ltb-false ((ℓ (get_or bs q.0 0) + 1) % 2 ^ G.w) (ℓ top) q.2) (mod-le (ℓ (get_or bs q.0 0) + 1) (2 ^ G.w)))

  pub says_stable : Rank G → StableIn G M
  says_stable k = numbered_stable G M ℓ numbering k

  pub counter_level : (a : ℕ) → So (is_atom G.n a) → c a ≡ level_of G M a
  counter_level a t = counter_is a t ∙ numbered_level G M ℓ numbering g a

  pub says_canon : Canon G M A
  says_canon =
      record {
        atoms = true_in_lem G.n A;
        bodies = bodies_true;
        foundings = λ r h. founds_is r h ∙ ap (λ (f : ℕ → ℕ). founds M f (rl G (suc r)) (inner G (suc r))) (fun_ext (numbered_level G M ℓ numbering g));
        levels = λ a h i j. sym (bit_value (bits A (level_var S (suc a))) G.w i j) ∙ ap (λ (x : ℕ). bit x (suc i)) (counter_level (suc a) (is_atom_lem G.n (suc a) (omega arith) h));
        nexts = λ a h i j.
            bit_mod (bits A (next_var S (suc a))) (c (suc a) + 1) G.w i (s.nexts a h) j
            ∙ ap (λ (x : ℕ). bit (x + 1) (suc i)) (counter_level (suc a) (is_atom_lem G.n (suc a) (omega arith) h));
        belows = λ k h i j. s.belows k h i j ∙ ap₂ ltb (lower (pair_body G (suc k)) (body_in G g k h) i j) (lower (pair_head G (suc k)) (head_in G g k h) i j);
        next_belows = λ k h i j. s.next_belows k h i j ∙ ap₂ ltb (lower_next (pair_body G (suc k)) (body_in G g k h) i j) (lower (pair_head G (suc k)) (head_in G g k h) i j);
      }
    where
      lower : (a : ℕ) → So (is_atom G.n a) → (i : ℕ) → i < G.w → value (bits A (level_var S a)) (suc i) ≡ level_of G M a % 2 ^ suc i
      lower a t i h = sym (value_mod (bits A (level_var S a)) G.w (suc i) h) ∙ ap (λ (x : ℕ). x % 2 ^ suc i) (counter_level a t)

      lower_next : (a : ℕ) → So (is_atom G.n a) → (i : ℕ) → i < G.w → value (bits A (next_var S a)) (suc i) ≡ (level_of G M a + 1) % 2 ^ suc i
      lower_next a t i h =
          sym (value_mod (bits A (next_var S a)) G.w (suc i) h) ∙ ap (λ (x : ℕ). x % 2 ^ suc i) (next_value a t)
          ∙ mod_low (c a + 1) G.w (suc i) h ∙ ap (λ (x : ℕ). (x + 1) % 2 ^ suc i) (counter_level a t)

-- ---- and back

module _ (G : Code) (M : Atoms) (A : Assignment) (g : Ranges G) (stable : StableIn G M)
    (fits : (a : ℕ) → level_of G M a + 1 < 2 ^ G.w) (can : Canon G M A) where
  abbrev lev : ℕ → ℕ
  lev = level_of G M

  abbrev T : Sizes
  T = code_sizes G

  num : Numbering G M lev
  num = stable_numbered G M g stable

  lev_lt : (a : ℕ) → lev a < 2 ^ G.w
  lev_lt a = omega (arith, fits a)

  some_bit : zero < G.w
  some_bit = go G.w (fits 0)
    where
      go : (w : ℕ) → lev 0 + 1 < 2 ^ w → zero < w
      go zero h = absurd (omega arith)
      go (suc w) h = omega arith

  -- the lowest i bits of level and next
  low_level : (a : ℕ) → So (is_atom G.n a) → (i : ℕ) → i ≤ G.w → value (bits A (level_var T a)) i ≡ lev a % 2 ^ i
  low_level =
      by_place G.n (λ a. (i : ℕ) → i ≤ G.w → value (bits A (level_var T a)) i ≡ lev a % 2 ^ i)
      (λ a h i l. value_ext (bits A (level_var T (suc a))) (bit (lev (suc a))) i (λ j k. can.levels a h j (le_trans k l)) ∙ value_bit (lev (suc a)) i)

  low_next : (a : ℕ) → So (is_atom G.n a) → (i : ℕ) → i ≤ G.w → value (bits A (next_var T a)) i ≡ (lev a + 1) % 2 ^ i
  low_next =
      by_place G.n (λ a. (i : ℕ) → i ≤ G.w → value (bits A (next_var T a)) i ≡ (lev a + 1) % 2 ^ i)
      (λ a h i l. value_ext (bits A (next_var T (suc a))) (bit (lev (suc a) + 1)) i (λ j k. can.nexts a h j (le_trans k l)) ∙ value_bit (lev (suc a) + 1) i)

  counter_lev : (a : ℕ) → So (is_atom G.n a) → counter T A a ≡ lev a
  counter_lev a t = low_level a t G.w (le_refl G.w) ∙ mod-eq_of_lt (lev_lt a)

  below_w : (k : ℕ) → k < length (pair_list G) → A (below_var T (suc k) G.w) ≡ ltb (lev (pair_body G (suc k))) (lev (pair_head G (suc k)))
  below_w k h =
      top_bit (λ i. A (below_var T (suc k) i) ≡ less_at (lev (pair_body G (suc k))) (lev (pair_head G (suc k))) i) G.w some_bit (can.belows k h)
      ∙ less_w (lev (pair_body G (suc k))) (lev (pair_head G (suc k))) G.w (lev_lt (pair_body G (suc k))) (lev_lt (pair_head G (suc k)))

  next_below_w : (k : ℕ) → k < length (pair_list G) → A (next_below_var T (suc k) G.w) ≡ ltb (lev (pair_body G (suc k)) + 1) (lev (pair_head G (suc k)))
  next_below_w k h =
      top_bit (λ i. A (next_below_var T (suc k) i) ≡ less_at (lev (pair_body G (suc k)) + 1) (lev (pair_head G (suc k))) i) G.w some_bit (can.next_belows k h)
      ∙ less_w (lev (pair_body G (suc k)) + 1) (lev (pair_head G (suc k))) G.w (fits (pair_body G (suc k))) (lev_lt (pair_head G (suc k)))

  low_holds : (r : ℕ) → r < m G → So (body_true M (rl G (suc r))) → (l : ℕ) → length (inner G (suc r)) ≡ l → So (low_test T A (rl G (suc r)).head (pair_numbers G (suc r)))
  low_holds r h b zero e =
      low_none T A (rl G (suc r)).head (pair_numbers G (suc r)) (length_tab (length (inner G (suc r))) _ ∙ e)
      ∙ (one_iff_w T A (rl G (suc r)).head some_bit).1 (counter_lev (rl G (suc r)).head (g.head_in r h) ∙ num.low_none r h b e)
  low_holds r h b (suc l) e =
      let bs = inner G (suc r) in
      let top = (rl G (suc r)).head in
      let q = num.low_some r h b (omega arith) in
      low_some T A top (pair_numbers G (suc r)) (omega (arith, e, length_tab (length bs) (λ j. before G (suc r) + j)))
      ∙ ap not (all_pairs G (λ k. A (next_below_var T k G.w)) (λ b h. ltb (lev b + 1) (lev h)) next_below_w r h)
      ∙ So-not (all (λ b. ltb (lev b + 1) (lev top)) bs)
      (false_of (all (λ b. ltb (lev b + 1) (lev top)) bs)
      (λ t. not_So (ltb (lev (get_or bs q.0 0) + 1) (lev top)) (le-ltb (lev (get_or bs q.0 0) + 1) (lev top) q.2) (all_at (λ b. ltb (lev b + 1) (lev top)) bs 0 t q.0 q.1)))

  pub canon_says : Says G A
  canon_says =
      record {
        bodies = λ r h. can.bodies r h ∙ body_agree G g M A (λ a l. sym (can.atoms a l)) r h;
        implied = λ a h r l e t. can.atoms a h ∙ subst (λ (x : ℕ). So (M x)) e (num.closed r l (sym (can.bodies r l) ∙ t));
        supported = λ a h o t.
            let q = num.found (suc a) (sym (can.atoms a h) ∙ t) o in
            (q.0, q.1, q.2, can.bodies q.0 q.1 ∙ q.3);
        zeroed = λ a h e i l. can.levels a h i l ∙ ap (λ (x : ℕ). bit x (suc i)) (num.off (suc a) (sym (can.atoms a h) ∙ e)) ∙ bit_zero (suc i);
        nexts = λ a h.
            let t = is_atom_lem G.n (suc a) (omega arith) h in
            low_next (suc a) t G.w (le_refl G.w) ∙ ap (λ (x : ℕ). (x + 1) % 2 ^ G.w) (sym (counter_lev (suc a) t));
        belows = λ k h i l. can.belows k h i l ∙ ap₂ ltb (sym (low_level (pair_body G (suc k)) (body_in G g k h) (suc i) l)) (sym (low_level (pair_head G (suc k)) (head_in G g k h) (suc i) l));
        next_belows = λ k h i l. can.next_belows k h i l ∙ ap₂ ltb (sym (low_next (pair_body G (suc k)) (body_in G g k h) (suc i) l)) (sym (low_level (pair_head G (suc k)) (head_in G g k h) (suc i) l));
        founds = λ r h. can.foundings r h ∙ ap₂ ◌&&◌ (sym (can.bodies r h)) (sym (all_pairs G (λ k. A (below_var T k G.w)) (λ b h. ltb (lev b) (lev h)) below_w r h));
        lowest = λ r h t. low_holds r h (sym (can.bodies r h) ∙ t) (length (inner G (suc r))) refl;
        founded = λ a h o t.
            let q = num.found (suc a) (sym (can.atoms a h) ∙ t) o in
            (q.0, q.1, q.2, can.foundings q.0 q.1 ∙ and_in q.3 (subst (λ (x : ℕ). So (all (λ b. ltb (lev b) (lev x)) (inner G (suc q.0)))) (sym q.2) q.4));
        one = λ a h o t.
            (one_iff_w T A (suc a) some_bit).1 (counter_lev (suc a) (is_atom_lem G.n (suc a) (omega arith) h) ∙ num.one (suc a) (sym (can.atoms a h) ∙ t) o);
      }
