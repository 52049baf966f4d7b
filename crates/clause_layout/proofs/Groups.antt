-- Sizes, numbers of slots and slots of a code whose tables are given, group by group, as the code asks for them.
-- Assumes nothing.
use Prim.Native.Nat.{ℕ, zero, suc, ◌+◌, ◌-◌, ◌*◌, ◌^◌, ◌≤◌, ◌<◌}
use native.Mathlib.Nat.{le_trans, le_refl, add-zero}
use native.Mathlib.Omega.{arith}
use native.Mathlib.Numerals.{add-one}
use mathlib.Core.Path.{◌≡◌, refl, sym, ◌∙◌, ap, ap₂, subst}
use mathlib.Core.Bool.{Bool, true, false, cond}
use mathlib.Core.Logic.{◌⊎◌, inl, inr, ⊎_elim}
use Rattle.lists.proofs.Tests.{le_or_lt}
use mathlib.Core.List.{List, [], ◌∷◌}
use lib.Dec.{eqb, leb}
use lib.ListN.{length, get_or, take, drop}
use lib.IntN.{ℤ}
use Rattle.std.specs.Prelude.{Some}
use lib.Signed.{mag}
use mir.Syntax.{w32}
use mir.Val.{hbits, to_z, of_z}
use borrow.Author.Tests.{le-leb, lt-leb, lt-ltb, le-ltb}
use Rattle.encoding.specs.Code.{Code, code_sizes, pair_total, before}
use Rattle.encoding.specs.Literal.{Literal, literal_number}
use Rattle.encoding.specs.Variables.{Sizes, body_var, founds_var}
use Rattle.clause_literals.specs.Sizes.{Bounded}
use Rattle.clause_walk.specs.Walk.{heads_of, head_of, positives, inner_count, body_of, body_count, item_count, block_count, size, slots, slot, of_head, slots1, slot1, slot3, slot4, slots4, slots6, slot6, size6, chain_size, chain_slots, chain_bit, implied_slot, bit_of, BlockAt, At, Group, group_of}
use Rattle.clause_walk.proofs.Groups.{Last, last_group}
use Rattle.clause_literals.proofs.Signed.{read_back}
use Rattle.clause_slots.specs.SlotNumber.{slot_number, rule_var}
use Rattle.clause_tables.specs.declared.Totals.{Totals}
use Rattle.clause_tables.specs.Tables.{Tabled}
use Rattle.clause_table_laws.proofs.Elements as elements
use Rattle.clause_layout.specs.Numbers.{implied_size}

-- the number of a slot, as a call gave it
pub held_in : {ls : List Literal} {l : Literal} {x : ℤ} → ls ≡ l ∷ [] → mag x < 2 ^ hbits w32 → x ≡ literal_number l
    → Some (to_z w32 (of_z w32 x)) ≡ slot_number ls
held_in p ok q = ap Some (read_back ok q) ∙ ap slot_number (sym p)

-- ---- the tests that `size`, `slots` and `slot` begin with

module _ (G : Code) (g a i y l : ℕ) (f : Last g) where
  last_size : size G g a i ≡ 1
  unfolding size
  last_size = ap (λ (x : Group). x.size a i) (last_group G g f)

  last_slots : slots G g a i y ≡ suc (length G.rules)
  unfolding slots
  last_slots = ap (λ (x : Group). x.slots a i y) (last_group G g f)

  pub last_slot : slot G g a i y l ≡ of_head (heads_of G) a (founds_var (code_sizes G)) l
  unfolding slot
  last_slot = ap (λ (x : Group). x.slot a i y l) (last_group G g f)

-- items of the other groups
module _ (G : Code) (a i y l : ℕ) where
  items1 : item_count G 1 ≡ length G.rules
  unfolding item_count group_of
  items1 = refl

  items5 : item_count G 5 ≡ pair_total G
  unfolding item_count group_of
  items5 = refl

  items6 : item_count G 6 ≡ length G.rules
  unfolding item_count group_of
  items6 = refl

  items3 : item_count G 3 ≡ G.n
  unfolding item_count group_of
  items3 = refl

  items4 : item_count G 4 ≡ G.n
  unfolding item_count group_of
  items4 = refl

  blocks4 : block_count G 4 ≡ G.w
  unfolding block_count group_of
  blocks4 = refl

  blocks5 : block_count G 5 ≡ G.w + G.w
  unfolding block_count group_of
  blocks5 = refl

module _ {G : Code} {t : Totals} {hs ss bs ks xs ys : List ℕ} (T : Tabled G t hs ss bs ks xs ys) where
  abbrev w : ℕ
  w = t.sizes.w

  abbrev m : ℕ
  m = t.sizes.m

  width_are : w ≡ G.w
  width_are = elements.width_are G t hs ss bs ks xs ys T

  pub sizes_are : t.sizes ≡ code_sizes G
  sizes_are = λ i. record { n = elements.atoms_are G t hs ss bs ks xs ys T i; m = elements.rules_are G t hs ss bs ks xs ys T i; w = width_are i }

  rules_are : m ≡ length G.rules
  rules_are = elements.rules_are G t hs ss bs ks xs ys T

  listed : (r : ℕ) → 0 < r → r ≤ length G.rules → elements.Listed G ss bs r (r - 1)
  listed = elements.start_first G t hs ss bs ks xs ys T

  inner_is : (r : ℕ) → inner_count G r ≡ positives G r
  inner_is = elements.inner_positives G T.limits

  rules_fit : length G.rules ≤ 500
  rules_fit = elements.rules_fit G t hs ss bs ks xs ys T

  pub bounded : Bounded t.sizes
  bounded = elements.bounded G t hs ss bs ks xs ys T

  -- entry 2i of the starts, as code has it
  from_first : (i : ℕ) → get_or ss (2 * i + 0) 0 ≡ get_or ss (2 * i) 0
  from_first i = ap (λ (j : ℕ). get_or ss j 0) (add-zero (2 * i))

  -- ---- items by group

  module _ {g a i : ℕ} (R : BlockAt G g a i) where
    item_is : (k : ℕ) → g ≡ k → a ≤ item_count G k
    item_is k e = subst (λ (x : ℕ). a ≤ item_count G x) e R.item_in

    block_is : (k : ℕ) → g ≡ k → i ≤ block_count G k
    block_is k e = subst (λ (x : ℕ). i ≤ block_count G x) e R.block_in

    pub rule1 : g ≡ 1 → a ≤ length G.rules
    rule1 e = subst (λ (x : ℕ). a ≤ x) (items1 G a i 0 0) (item_is 1 e)

    pub rule6 : g ≡ 6 → a ≤ length G.rules
    rule6 e = subst (λ (x : ℕ). a ≤ x) (items6 G a i 0 0) (item_is 6 e)

    pub pair5 : g ≡ 5 → a ≤ pair_total G
    pair5 e = subst (λ (x : ℕ). a ≤ x) (items5 G a i 0 0) (item_is 5 e)

    pub atom3 : g ≡ 3 → a ≤ 126
    atom3 e = le_trans (subst (λ (x : ℕ). a ≤ x) (items3 G a i 0 0) (item_is 3 e)) (elements.atoms_fit G t hs ss bs ks xs ys T)

    pub atom4 : g ≡ 4 → a ≤ 126
    atom4 e = le_trans (subst (λ (x : ℕ). a ≤ x) (items4 G a i 0 0) (item_is 4 e)) (elements.atoms_fit G t hs ss bs ks xs ys T)

    pub block4 : g ≡ 4 → i ≤ w
    block4 e = subst (λ (x : ℕ). i ≤ x) (blocks4 G a i 0 0 ∙ sym width_are) (block_is 4 e)

    pub block5 : g ≡ 5 → i ≤ w + w
    block5 e = subst (λ (x : ℕ). i ≤ x) (blocks5 G a i 0 0 ∙ ap (λ (x : ℕ). x + x) (sym width_are)) (block_is 5 e)

    -- ---- the starts of a rule

    module _ (h : a ≤ length G.rules) where
      pub rule_fits_lem : a ≤ 500
      rule_fits_lem = le_trans h rules_fit

      L : elements.Listed G ss bs a (a - 1)
      L = listed a R.item_some h

      first_middle : get_or ss (2 * (a - 1) + 0) 0 ≤ get_or ss (2 * (a - 1) + 1) 0
      first_middle = subst (λ (x : ℕ). x ≤ get_or ss (2 * (a - 1) + 1) 0) (sym (from_first (a - 1))) L.first_up

      first_end : get_or ss (2 * (a - 1) + 0) 0 ≤ get_or ss (2 * (a - 1) + 2) 0
      first_end = le_trans first_middle L.second_up

      -- what `span` asks
      pub span_asks : (k : ℕ) → k ≤ 2 → (0 < a) × (a ≤ 500) × (k ≤ 2) × (get_or ss (2 * (a - 1) + 0) 0 ≤ get_or ss (2 * (a - 1) + k) 0)
      span_asks k h = (R.item_some, rule_fits_lem, h, go k h)
        where
          go : (k : ℕ) → k ≤ 2 → get_or ss (2 * (a - 1) + 0) 0 ≤ get_or ss (2 * (a - 1) + k) 0
          go zero h = le_refl (get_or ss (2 * (a - 1) + 0) 0)
          go (suc zero) h = first_middle
          go (suc (suc zero)) h = first_end
          go (suc (suc (suc k))) h = absurd (omega (arith, h))

      pub span1 : get_or ss (2 * (a - 1) + 1) 0 - get_or ss (2 * (a - 1) + 0) 0 ≡ positives G a
      span1 = ap (λ (x : ℕ). get_or ss (2 * (a - 1) + 1) 0 - x) (from_first (a - 1)) ∙ L.positives_are

      pub span2 : get_or ss (2 * (a - 1) + 2) 0 - get_or ss (2 * (a - 1) + 0) 0 ≡ body_count G a
      span2 = ap (λ (x : ℕ). get_or ss (2 * (a - 1) + 2) 0 - x) (from_first (a - 1)) ∙ L.count_are

      pub body_is : take (get_or ss (2 * (a - 1) + 2) 0 - get_or ss (2 * (a - 1) + 0) 0) (drop (get_or ss (2 * (a - 1) + 0) 0) bs) ≡ body_of G a
      body_is = ap (λ (x : ℕ). take (get_or ss (2 * (a - 1) + 2) 0 - x) (drop x bs)) (from_first (a - 1)) ∙ L.body_are

      pub end_in : get_or ss (2 * (a - 1) + 2) 0 ≤ 500
      end_in = L.end_fits

      -- where C begins and where it ends
      pub starts_fit : (get_or ss (2 * (a - 1) + 1) 0 ≤ 500) × (get_or ss (2 * (a - 1) + 2) 0 ≤ 500)
      starts_fit = (le_trans L.second_up end_in, end_in)

      pub body_fits : body_count G a ≤ 500
      body_fits = elements.body_fits G T.limits a R.item_some h

      pub pairs_in : before G a + positives G a ≤ 500
      pairs_in =
          le_trans (subst (λ (x : ℕ). before G a + x ≤ pair_total G) (inner_is a) (elements.before_fits G T.limits a R.item_some h)) (elements.pairs_fit G T.limits)

    -- ---- sizes

    size_at : (k : ℕ) → g ≡ k → size G k a i ≡ size G g a i
    size_at k e = ap (λ (x : ℕ). size G x a i) (sym e)

    pub size_body : {x : ℕ} → g ≡ 1 → x ≡ get_or ss (2 * (a - 1) + 2) 0 - get_or ss (2 * (a - 1) + 0) 0 → x + 1 ≡ size G g a i
    unfolding size group_of
    size_body {x} e q = ap (λ (k : ℕ). k + 1) (q ∙ span2 (rule1 e)) ∙ add-one (body_count G a) ∙ size_at 1 e

    pub size_implied : {x : ℕ} → g ≡ 2 → x ≡ implied_size m hs a i → x ≡ size G g a i
    unfolding size group_of
    size_implied {x} e q = q ∙ go (le_or_lt i (length G.rules)) ∙ size_at 2 e
      where
        go : (i ≤ length G.rules) ⊎ (length G.rules < i) → implied_size m hs a i ≡ cond (leb i (length G.rules)) (cond (eqb (head_of G i) a) 1 0) 1
        go (inl h) =
            ap (λ (b : Bool). cond b 1 (cond (eqb (get_or hs (i - 1) 0) a) 1 0)) (le-ltb m i (subst (λ (k : ℕ). i ≤ k) (sym rules_are) h))
            ∙ ap (λ (k : ℕ). cond (eqb k a) 1 0) (elements.head_is G t hs ss bs ks xs ys T i R.block_some h)
            ∙ sym (ap (λ (b : Bool). cond b (cond (eqb (head_of G i) a) 1 0) 1) (le-leb i (length G.rules) h))
        go (inr h) =
            ap (λ (b : Bool). cond b 1 (cond (eqb (get_or hs (i - 1) 0) a) 1 0)) (lt-ltb m i (subst (λ (k : ℕ). k < i) (sym rules_are) h))
            ∙ sym (ap (λ (b : Bool). cond b (cond (eqb (head_of G i) a) 1 0) 1) (lt-leb i (length G.rules) h))

    pub size_zero : g ≡ 3 → w ≡ size G g a i
    unfolding size group_of
    size_zero e = width_are ∙ size_at 3 e

    pub size_next : g ≡ 4 → 2 * i ≡ size G g a i
    unfolding size group_of
    size_next e = size_at 4 e

    pub size_pair : {b x : ℕ} → g ≡ 5 → b ≡ chain_bit w i → x ≡ chain_size b → x ≡ size G g a i
    unfolding size group_of
    size_pair e p q = q ∙ ap chain_size (p ∙ ap (λ (x : ℕ). chain_bit x i) width_are) ∙ size_at 5 e

    pub size_rule : {b x : ℕ} → g ≡ 6 → b ≡ get_or ss (2 * (a - 1) + 1) 0 - get_or ss (2 * (a - 1) + 0) 0 → x ≡ size6 w b → x ≡ size G g a i
    unfolding size group_of
    size_rule e p q = q ∙ ap₂ size6 width_are (p ∙ span1 (rule6 e) ∙ sym (inner_is a)) ∙ size_at 6 e

    pub size_last : Last g → 1 ≡ size G g a i
    size_last f = sym (last_size G g a i 0 0 f)

    -- ---- what the calls ask

    pub bits4 : g ≡ 4 → i ≤ 7
    bits4 e = le_trans (block4 e) bounded.bits

    pub heads_in_lem : m ≤ length hs
    heads_in_lem = subst (λ (k : ℕ). m ≤ k) (sym (elements.heads_length G t hs ss bs ks xs ys T)) bounded.rules

    pub span_fits1 : {x : ℕ} → a ≤ length G.rules → x ≡ get_or ss (2 * (a - 1) + 1) 0 - get_or ss (2 * (a - 1) + 0) 0 → x ≤ 500
    span_fits1 {x} h q = subst (λ (k : ℕ). k ≤ 500) (sym (q ∙ span1 h)) (fits (before G a) (positives G a) (pairs_in h))
      where
        fits : (j k : ℕ) → j + k ≤ 500 → k ≤ 500
        fits j k h = omega (arith, h)

    pub span_fits2 : {x : ℕ} → a ≤ length G.rules → x ≡ get_or ss (2 * (a - 1) + 2) 0 - get_or ss (2 * (a - 1) + 0) 0 → x ≤ 500
    span_fits2 {x} h q = subst (λ (k : ℕ). k ≤ 500) (sym (q ∙ span2 h)) (body_fits h)

    pub pair_fits : g ≡ 5 → a ≤ 500
    pair_fits e = le_trans (pair5 e) (elements.pairs_fit G T.limits)

    pub pair_asks : {b h : ℕ} → g ≡ 5 → b ≡ get_or xs (a - 1) 0 → h ≡ get_or ys (a - 1) 0
        → (0 < a) × (a ≤ 500) × (0 < b) × (b ≤ 126) × (0 < h) × (h ≤ 126) × (0 < i) × (i ≤ w + w)
    pair_asks {b} {h} e p q =
        (R.item_some, pair_fits e, subst (λ (k : ℕ). 0 < k) (sym p) x.0, subst (λ (k : ℕ). k ≤ 126) (sym p) x.1, subst (λ (k : ℕ). 0 < k) (sym q) z.0, subst (λ (k : ℕ). k ≤ 126) (sym q) z.1, R.block_some, block5 e)
      where
        x : (0 < get_or xs (a - 1) 0) × (get_or xs (a - 1) 0 ≤ 126)
        x = elements.partner_in G t hs ss bs ks xs ys T a R.item_some (pair5 e)

        z : (0 < get_or ys (a - 1) 0) × (get_or ys (a - 1) 0 ≤ 126)
        z = elements.owner_in G t hs ss bs ks xs ys T a R.item_some (pair5 e)

  -- ---- slots

  module _ {g a i y : ℕ} (A : At G g a i y) where
    R : BlockAt G g a i
    R = A.block_at

    slots_at : (k : ℕ) → g ≡ k → slots G k a i y ≡ slots G g a i y
    slots_at k e = ap (λ (x : ℕ). slots G x a i y) (sym e)

    pub slots_body : {b x : ℕ} → g ≡ 1 → b ≡ get_or ss (2 * (a - 1) + 2) 0 - get_or ss (2 * (a - 1) + 0) 0 → x ≡ slots1 b y → x ≡ slots G g a i y
    unfolding slots group_of
    slots_body e p q = q ∙ ap (λ (k : ℕ). slots1 k y) (p ∙ span2 R (rule1 R e)) ∙ slots_at 1 e

    one_more : m + 1 ≡ suc (length G.rules)
    one_more = omega (arith, rules_are)

    pub slots_supported : g ≡ 2 → m < i → m + 1 ≡ slots G g a i y
    unfolding slots group_of
    slots_supported e h =
        one_more
        ∙ sym (ap (λ (b : Bool). cond b 2 (suc (length G.rules))) (lt-leb i (length G.rules) (subst (λ (k : ℕ). k < i) rules_are h)))
        ∙ slots_at 2 e

    pub slots_implied : g ≡ 2 → i ≤ m → 2 ≡ slots G g a i y
    unfolding slots group_of
    slots_implied e h =
        sym (ap (λ (b : Bool). cond b 2 (suc (length G.rules))) (le-leb i (length G.rules) (subst (λ (k : ℕ). i ≤ k) rules_are h)))
        ∙ slots_at 2 e

    pub slots_zero : g ≡ 3 → 2 ≡ slots G g a i y
    unfolding slots group_of
    slots_zero e = slots_at 3 e

    pub slots_next : {x : ℕ} → g ≡ 4 → x ≡ slots4 i y → x ≡ slots G g a i y
    unfolding slots group_of
    slots_next e q = q ∙ slots_at 4 e

    pub slots_pair : {b x : ℕ} → g ≡ 5 → b ≡ chain_bit w i → x ≡ chain_slots b y → x ≡ slots G g a i y
    unfolding slots group_of
    slots_pair e p q = q ∙ ap (λ (k : ℕ). chain_slots k y) (p ∙ ap (λ (x : ℕ). chain_bit x i) width_are) ∙ slots_at 5 e

    pub slots_rule : {b x : ℕ} → g ≡ 6 → b ≡ get_or ss (2 * (a - 1) + 1) 0 - get_or ss (2 * (a - 1) + 0) 0 → x ≡ slots6 b y → x ≡ slots G g a i y
    unfolding slots group_of
    slots_rule e p q = q ∙ ap (λ (k : ℕ). slots6 k y) (p ∙ span1 R (rule6 R e) ∙ sym (inner_is a)) ∙ slots_at 6 e

    pub slots_last : Last g → m + 1 ≡ slots G g a i y
    slots_last f = one_more ∙ sym (last_slots G g a i y 0 f)

    -- ---- the literal in slot l

    module _ (l : ℕ) where
      slot_at : (k : ℕ) → g ≡ k → slot G g a i y l ≡ slot G k a i y l
      slot_at k e = ap (λ (x : ℕ). slot G x a i y l) e

      -- the group's literal alone, with the program's sizes and x for its own
      alone : {x : Literal} (f : Sizes → Literal) → x ≡ f (code_sizes G) → f (code_sizes G) ∷ [] ≡ x ∷ []
      alone f q = ap (λ (z : Literal). z ∷ []) (sym q)

      pub slot_body : {b c d : ℕ} → g ≡ 1 → b ≡ get_or ss (2 * (a - 1) + 0) 0 → c ≡ get_or ss (2 * (a - 1) + 1) 0 → d ≡ get_or ss (2 * (a - 1) + 2) 0
          → slot G g a i y l ≡ slot1 t.sizes a (take (d - b) (drop b bs)) (c - b) y l ∷ []
      unfolding slot group_of
      slot_body {b} {c} {d} e p q r =
          slot_at 1 e
          ∙ alone (λ S. slot1 S a (body_of G a) (positives G a) y l)
          (ap (λ (S : Sizes). slot1 S a (take (d - b) (drop b bs)) (c - b) y l) sizes_are
          ∙ ap₂ (λ (xs : List ℕ) (k : ℕ). slot1 (code_sizes G) a xs k y l)
          (ap₂ (λ (d b : ℕ). take (d - b) (drop b bs)) r p ∙ body_is R (rule1 R e)) (ap₂ (λ (c b : ℕ). c - b) q p ∙ span1 R (rule1 R e)))

      -- the last clause of an atom, by what it names of a rule
      heads_are : (d : Bool) → of_head (heads_of G) a (rule_var (code_sizes G) d) l ≡ of_head (take m hs) a (rule_var t.sizes d) l
      heads_are d = sym (ap₂ (λ (xs : List ℕ) (S : Sizes). of_head xs a (rule_var S d) l) (elements.heads_taken G t hs ss bs ks xs ys T) sizes_are)

      pub supported_slot : g ≡ 2 → m < i → slot G g a i y l ≡ of_head (heads_of G) a (body_var (code_sizes G)) l
      unfolding slot group_of
      supported_slot e h =
          slot_at 2 e
          ∙ ap (λ (b : Bool). cond b (implied_slot (code_sizes G) a i l ∷ []) (of_head (heads_of G) a (body_var (code_sizes G)) l)) (lt-leb i (length G.rules) (subst (λ (k : ℕ). k < i) rules_are h))

      pub slot_supported : g ≡ 2 → m < i → slot G g a i y l ≡ of_head (take m hs) a (rule_var t.sizes false) l
      slot_supported e h = supported_slot e h ∙ heads_are false

      pub slot_implied : g ≡ 2 → i ≤ m → slot G g a i y l ≡ implied_slot t.sizes a i l ∷ []
      unfolding slot group_of
      slot_implied e h =
          slot_at 2 e
          ∙ ap (λ (b : Bool). cond b (implied_slot (code_sizes G) a i l ∷ []) (of_head (heads_of G) a (body_var (code_sizes G)) l)) (le-leb i (length G.rules) (subst (λ (k : ℕ). i ≤ k) rules_are h))
          ∙ alone (λ S. implied_slot S a i l) (ap (λ (S : Sizes). implied_slot S a i l) sizes_are)

      pub slot_zero : g ≡ 3 → slot G g a i y l ≡ slot3 t.sizes a y l ∷ []
      unfolding slot group_of
      slot_zero e = slot_at 3 e ∙ alone (λ S. slot3 S a y l) (ap (λ (S : Sizes). slot3 S a y l) sizes_are)

      pub slot_next : g ≡ 4 → slot G g a i y l ≡ slot4 t.sizes a i y l ∷ []
      unfolding slot group_of
      slot_next e = slot_at 4 e ∙ alone (λ S. slot4 S a i y l) (ap (λ (S : Sizes). slot4 S a i y l) sizes_are)

      pub slot_rule : {h k b : ℕ} → g ≡ 6 → h ≡ get_or hs (a - 1) 0 → k ≡ get_or ks (a - 1) 0 → b ≡ get_or ss (2 * (a - 1) + 1) 0 - get_or ss (2 * (a - 1) + 0) 0
          → slot G g a i y l ≡ slot6 t.sizes a h k b y l ∷ []
      unfolding slot group_of
      slot_rule {h} {k} {b} e p q r =
          slot_at 6 e
          ∙ alone (λ S. slot6 S a (head_of G a) (before G a) (inner_count G a) y l)
          (ap (λ (S : Sizes). slot6 S a h k b y l) sizes_are
          ∙ ap₂ (λ (h k : ℕ). slot6 (code_sizes G) a h k b y l) (p ∙ elements.head_is G t hs ss bs ks xs ys T a R.item_some (rule6 R e)) (q ∙ elements.before_is G t hs ss bs ks xs ys T a R.item_some (le_trans (rule6 R e) (omega arith)))
          ∙ ap (λ (b : ℕ). slot6 (code_sizes G) a (head_of G a) (before G a) b y l) (r ∙ span1 R (rule6 R e) ∙ sym (inner_is a)))

      pub slot_last : Last g → slot G g a i y l ≡ of_head (take m hs) a (rule_var t.sizes true) l
      slot_last f = last_slot G g a i y l f ∙ heads_are true

      -- ---- what the calls ask

      pub body_asks : {b c d : ℕ} → g ≡ 1 → b ≡ get_or ss (2 * (a - 1) + 0) 0 → c ≡ get_or ss (2 * (a - 1) + 1) 0 → d ≡ get_or ss (2 * (a - 1) + 2) 0
          → 0 < l → l ≤ slots G g a i y
          → (a ≤ 500) × (b ≤ c) × (b ≤ d) × (d ≤ 500) × (0 < y) × (0 < l) × (l ≤ slots1 (d - b) y)
      body_asks {b} {c} {d} e p q r f n =
          (rule_fits_lem R (rule1 R e), le_by p q (first_middle R (rule1 R e)), le_by p r (first_end R (rule1 R e)), subst (λ (k : ℕ). k ≤ 500) (sym r) (end_in R (rule1 R e)), A.clause_some, f, subst (λ (k : ℕ). l ≤ k) (sym (slots_body e (ap₂ (λ (d b : ℕ). d - b) r p) refl)) n)
        where
          le_by : {j k u v : ℕ} → j ≡ u → k ≡ v → u ≤ v → j ≤ k
          le_by {j} {k} {u} {v} p q h = subst (λ (x : ℕ). x ≤ k) (sym p) (subst (λ (x : ℕ). u ≤ x) (sym q) h)

      pub supported_asks : g ≡ 2 → m < i → 0 < l → l ≤ slots G g a i y → (0 < l) × (l ≤ m + 1)
      supported_asks e h f n = (f, subst (λ (k : ℕ). l ≤ k) (sym (slots_supported e h)) n)

      pub implied_asks : i ≤ m → i ≤ 500
      implied_asks h = le_trans h bounded.rules

      pub zero_asks : g ≡ 3 → (0 < a) × (a ≤ 126) × (y ≤ 7)
      zero_asks e = (R.item_some, atom3 R e, le_trans (subst (λ (k : ℕ). y ≤ k) (sym (size_zero R e)) A.clause_in_lem) bounded.bits)

      pub next_asks : g ≡ 4 → l ≤ slots G g a i y
          → (0 < a) × (a ≤ 126) × (i ≤ 7) × (0 < y) × (y ≤ 14) × (l ≤ 8)
      next_asks e n =
          (R.item_some, atom4 R e, bits4 R e, A.clause_some, omega (arith, subst (λ (k : ℕ). y ≤ k) (sym (size_next R e)) A.clause_in_lem, bits4 R e), few (subst (λ (k : ℕ). l ≤ k) (sym (slots_next e refl)) n))
        where
          few : l ≤ slots4 i y → l ≤ 8
          few n = ⊎_elim
              (λ (h : i ≤ bit_of y). omega (arith, subst (λ (b : Bool). l ≤ cond b 3 (suc i)) (le-ltb (bit_of y) i h) n, bits4 R e))
              (λ (h : bit_of y < i). omega (arith, subst (λ (b : Bool). l ≤ cond b 3 (suc i)) (lt-ltb (bit_of y) i h) n)) (le_or_lt i (bit_of y))

      pub rule_asks : {h k b : ℕ} → g ≡ 6 → h ≡ get_or hs (a - 1) 0 → k ≡ get_or ks (a - 1) 0 → b ≡ get_or ss (2 * (a - 1) + 1) 0 - get_or ss (2 * (a - 1) + 0) 0
          → 0 < l → l ≤ slots G g a i y
          → (a ≤ 500) × (0 < h) × (h ≤ 126) × (k + b ≤ 500) × (0 < y) × (y ≤ size6 w b) × (0 < l) × (l ≤ slots6 b y)
      rule_asks {h} {k} {b} e p q r f n =
          (rule_fits_lem R (rule6 R e), subst (λ (k : ℕ). 0 < k) (sym p') x.0, subst (λ (k : ℕ). k ≤ 126) (sym p') x.1, subst (λ (k : ℕ). k ≤ 500) (sym (ap₂ (λ (k b : ℕ). k + b) q' (r ∙ span1 R (rule6 R e)))) (pairs_in R (rule6 R e)), A.clause_some, subst (λ (k : ℕ). y ≤ k) (sym (size_rule R e r refl)) A.clause_in_lem, f, subst (λ (k : ℕ). l ≤ k) (sym (slots_rule e r refl)) n)
        where
          x : (0 < head_of G a) × (head_of G a ≤ 126)
          x = elements.head_in G T.limits a R.item_some (rule6 R e)

          p' : h ≡ head_of G a
          p' = p ∙ elements.head_is G t hs ss bs ks xs ys T a R.item_some (rule6 R e)

          q' : k ≡ before G a
          q' = q ∙ elements.before_is G t hs ss bs ks xs ys T a R.item_some (le_trans (rule6 R e) (omega arith))

      pub founded_asks : Last g → 0 < l → l ≤ slots G g a i y → (0 < l) × (l ≤ m + 1)
      founded_asks f p n = (p, subst (λ (k : ℕ). l ≤ k) (sym (slots_last f)) n)
