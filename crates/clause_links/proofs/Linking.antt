-- The loop that links the rules of each atom, from the last rule to the first.
--   Linking hs t r u     u is the table t with the rules after rule r linked, where hs are the heads of the rules
--   linking_from         before the first turn
--   head_fits            the head that a turn reads is an atom
--   linking_next         one turn
--   linking_end          after the last one
-- Assumes nothing.
use Prim.Native.Nat.{ℕ, suc, ◌+◌, ◌-◌, ◌≤◌, ◌<◌}
use native.Mathlib.Nat.{zero-add, suc-add, suc_inj, eq-or-lt_of_le}
use native.Mathlib.Omega.{arith}
use mathlib.Core.Path.{◌≡◌, refl, sym, ◌∙◌, ap, ap₂, subst}
use mathlib.Core.Bool.{Bool, true, false, cond}
use mathlib.Core.List.{List, [], ◌∷◌, ◌++◌}
use mathlib.Core.Logic.{⊎_elim}
use lib.Dec.{eqb}
use lib.ListN.{length, get_or, set, take, drop, replicate, length-drop, length-set, length-replicate, get_or-replicate, take-append-drop, replicate-append-replicate}
use lib.Seq.{ext_get_or, get_or-set_same, get_or-set_other, set-append_left, length-take-le}
use borrow.Author.Tests.{eqb-true, eqb-false}
use Rattle.lists.specs.Lists.{tab}
use Rattle.lists.proofs.Tables.{length_tab, get_or_tab, get_or_skip, get_or_here}
use Rattle.clause_tables.specs.Links.{rule_from, first_rule, next_rule}
use Rattle.clause_tables.proofs.Links.{from_nil, from_cons}
use Rattle.clause_links.specs.Linked.{Unlinked, link_one, linked}

-- ---- a store behind a list

set_behind : (xs ys : List ℕ) (i x : ℕ) → set (xs ++ ys) (length xs + i) x ≡ xs ++ set ys i x
set_behind [] ys i x = ap (λ (k : ℕ). set ys k x) (zero-add i)
set_behind (y ∷ xs) ys i x = ap (λ (k : ℕ). set (y ∷ (xs ++ ys)) k x) (suc-add (length xs) i) ∙ ap (λ (zs : List ℕ). y ∷ zs) (set_behind xs ys i x)

set_skip : (xs ys : List ℕ) (k i x : ℕ) → length xs ≡ k → set (xs ++ ys) (k + i) x ≡ xs ++ set ys i x
set_skip xs ys k i x e = subst (λ (k : ℕ). set (xs ++ ys) (k + i) x ≡ xs ++ set ys i x) e (set_behind xs ys i x)

-- ---- the loop

pub record Linking (hs t : List ℕ) (r : ℕ) (u : List ℕ) : Type 0 where
  firsts : List ℕ
  links : List ℕ
  is : u ≡ take 3518 t ++ (firsts ++ links)
  many_front : length (take 3518 t) ≡ 3518
  many_firsts : length firsts ≡ 126
  many_links : length links ≡ 500
  firsts_are : (i : ℕ) → i < 126 → get_or firsts i 0 ≡ rule_from (suc r) (drop r hs) (suc i)
  links_are : (j : ℕ) → r ≤ j → j < 500 → get_or links j 0 ≡ next_rule hs (suc j)

module _ (hs t : List ℕ) where
  linking_start : (r : ℕ) → length hs ≡ r → drop 3518 t ≡ replicate 626 0 → Linking hs t r t
  linking_start r e z =
      record {
        firsts = replicate 126 0;
        links = replicate 500 0;
        is = sym (take-append-drop 3518 t) ∙ ap (λ (xs : List ℕ). take 3518 t ++ xs) (z ∙ sym (replicate-append-replicate 126 500 0));
        many_front = length-take-le 3518 t (omega (arith, length-drop 3518 t, ap length z, length-replicate {A = ℕ} 626 0));
        many_firsts = length-replicate {A = ℕ} 126 0;
        many_links = length-replicate {A = ℕ} 500 0;
        firsts_are = λ i h. get_or-replicate 126 i 0 0 h ∙ sym (from_nil hs r (suc i) (omega (arith, e)));
        links_are = λ j l h. get_or-replicate 500 j 0 0 h ∙ sym (from_nil hs (suc j) (get_or hs j 0) (omega (arith, e, l)));
      }

  -- two lists of n elements
  by_places : (n : ℕ) (xs : List ℕ) (f : ℕ → ℕ) → length xs ≡ n → ((i : ℕ) → i < n → get_or xs i 0 ≡ f (suc i)) → xs ≡ tab n f
  by_places n xs f e p =
      ext_get_or 0 xs (tab n f) (e ∙ sym (length_tab n f)) (λ i h. p i (omega (arith, e, h)) ∙ sym (get_or_tab n f 0 i (omega (arith, e, h))))

  pub linking_end : (r : ℕ) (u : List ℕ) → r ≡ 0 → Linking hs t r u → u ≡ linked hs t
  unfolding linked
  linking_end r u z k =
      k.is
      ∙ ap₂ (λ (xs ys : List ℕ). take 3518 t ++ (xs ++ ys))
      (by_places 126 k.firsts (first_rule hs) k.many_firsts (λ i h. k.firsts_are i h ∙ ap (λ (r : ℕ). rule_from (suc r) (drop r hs) (suc i)) z))
      (by_places 500 k.links (next_rule hs) k.many_links (λ j h. k.links_are j (omega (arith, z)) h))

  -- one turn, for rule q + 1 with the head i + 1
  module _ (q i : ℕ) (u : List ℕ) (k : Linking hs t (suc q) u) (in_rules : q < length hs) (few : q < 500) (head_is : get_or hs q 0 ≡ suc i) (in-atoms : i < 126) where
    first_read_lem : get_or u (3518 + i) 0 ≡ get_or k.firsts i 0
    first_read_lem =
        ap (λ (xs : List ℕ). get_or xs (3518 + i) 0) k.is ∙ get_or_skip (take 3518 t) (k.firsts ++ k.links) 0 3518 i k.many_front
        ∙ get_or_here k.firsts k.links 0 126 i k.many_firsts in-atoms

    stored : set (set u (3644 + q) (get_or u (3518 + i) 0)) (3518 + i) (suc q)
        ≡ take 3518 t ++ (set k.firsts i (suc q) ++ set k.links q (get_or k.firsts i 0))
    stored =
        ap₂ (λ (xs : List ℕ) (x : ℕ). set (set xs (3644 + q) x) (3518 + i) (suc q)) k.is first_read_lem
        ∙ ap (λ (xs : List ℕ). set xs (3518 + i) (suc q))
        (ap (λ (j : ℕ). set (take 3518 t ++ (k.firsts ++ k.links)) j x) (place q)
        ∙ set_skip (take 3518 t) (k.firsts ++ k.links) 3518 (126 + q) x k.many_front
        ∙ ap (λ (xs : List ℕ). take 3518 t ++ xs) (set_skip k.firsts k.links 126 q x k.many_firsts))
        ∙ set_skip (take 3518 t) (k.firsts ++ set k.links q x) 3518 i (suc q) k.many_front
        ∙ ap (λ (xs : List ℕ). take 3518 t ++ xs) (set-append_left k.firsts (set k.links q x) i (suc q) (omega (arith, in-atoms, k.many_firsts)))
      where
        x : ℕ
        x = get_or k.firsts i 0

        place : (q : ℕ) → 3644 + q ≡ 3518 + (126 + q)
        place q = omega arith

    firsts_next : (j : ℕ) → j < 126 → get_or (set k.firsts i (suc q)) j 0 ≡ rule_from (suc q) (drop q hs) (suc j)
    firsts_next j h = go (eqb (suc i) (suc j)) refl ∙ sym (from_cons hs q (suc j) in_rules ∙ ap (λ (y : ℕ). cond (eqb y (suc j)) (suc q) (rest j)) head_is)
      where
        rest : ℕ → ℕ
        rest j = rule_from (suc (suc q)) (drop (suc q) hs) (suc j)

        go : (b : Bool) → eqb (suc i) (suc j) ≡ b → get_or (set k.firsts i (suc q)) j 0 ≡ cond b (suc q) (rest j)
        go true e =
            ap (λ (y : ℕ). get_or (set k.firsts i (suc q)) y 0) (sym (suc_inj (eqb-true (suc i) (suc j) e)))
            ∙ get_or-set_same k.firsts i (suc q) 0 (omega (arith, in-atoms, k.many_firsts))
        go false e =
            get_or-set_other k.firsts i j (suc q) 0 (λ p. eqb-false (suc i) (suc j) e (ap suc (sym p))) ∙ k.firsts_are j h

    links_next : (j : ℕ) → q ≤ j → j < 500 → get_or (set k.links q (get_or k.firsts i 0)) j 0 ≡ next_rule hs (suc j)
    links_next j l h = ⊎_elim (λ (e : q ≡ j). here j e) (λ (g : q < j). on g) (eq-or-lt_of_le l)
      where
        here : (j : ℕ) → q ≡ j → get_or (set k.links q (get_or k.firsts i 0)) j 0 ≡ next_rule hs (suc j)
        here j e =
            subst (λ (j : ℕ). get_or (set k.links q (get_or k.firsts i 0)) j 0 ≡ next_rule hs (suc j)) e
            (get_or-set_same k.links q (get_or k.firsts i 0) 0 (omega (arith, few, k.many_links))
            ∙ k.firsts_are i in-atoms ∙ ap (rule_from (suc (suc q)) (drop (suc q) hs)) (sym head_is))

        on : q < j → get_or (set k.links q (get_or k.firsts i 0)) j 0 ≡ next_rule hs (suc j)
        on g = get_or-set_other k.links q j (get_or k.firsts i 0) 0 (λ e. omega (arith, g, e)) ∙ k.links_are j g h

    turned : Linking hs t q (set (set u (3644 + q) (get_or u (3518 + i) 0)) (3518 + i) (suc q))
    turned =
        record {
          firsts = set k.firsts i (suc q);
          links = set k.links q (get_or k.firsts i 0);
          is = stored;
          many_front = k.many_front;
          many_firsts = length-set k.firsts i (suc q) ∙ k.many_firsts;
          many_links = length-set k.links q (get_or k.firsts i 0) ∙ k.many_links;
          firsts_are = firsts_next;
          links_are = links_next;
        }

-- ---- as the code has it

module _ (heads t : List ℕ) (U : Unlinked (length heads) heads t) where
  pub linking_from : Linking heads t (length heads) t
  linking_from = linking_start heads t (length heads) refl U.none_linked

  module _ (r a : ℕ) (some : 0 < r) (in_rules : r ≤ length heads) (e : a ≡ get_or heads (r - 1) 0) where
    pub head_fits : (0 < a) × (a ≤ 126)
    head_fits = let h = U.atoms (r - 1) (omega (arith, some, in_rules)) in (omega (arith, e, h.0), omega (arith, e, h.1))

    pub linking_next : (u v : List ℕ) → Linking heads t r u → v ≡ link_one r a u → Linking heads t (r - 1) v
    linking_next u v k p =
        subst (λ (v : List ℕ). Linking heads t (r - 1) v) (sym (p ∙ same))
        (turned heads t (r - 1) (a - 1) u (subst (λ (r : ℕ). Linking heads t r u) back k)
        (omega (arith, some, in_rules)) (omega (arith, some, in_rules, U.few_rules))
        (sym e ∙ again) (omega (arith, head_fits.1)))
      where
        back : r ≡ suc (r - 1)
        back = omega (arith, some)

        again : a ≡ suc (a - 1)
        again = omega (arith, head_fits.0)

        behind : (k n : ℕ) → 0 < n → k + n - 1 ≡ k + (n - 1)
        behind k n h = omega (arith, h)

        same : link_one r a u ≡ set (set u (3644 + (r - 1)) (get_or u (3518 + (a - 1)) 0)) (3518 + (a - 1)) (suc (r - 1))
        same = λ i. set (set u (behind 3644 r some i) (get_or u (behind 3518 a head_fits.0 i) 0)) (behind 3518 a head_fits.0 i) (back i)
