-- The items of groups 3, 4 and 5, in a code whose tables are given: all their clauses, and that their variables have bytes.
--   zero_item, next_item, pair_item     the items of groups 3, 4 and 5
--   pair_fits                           a pair of the tables is one of at most 500
--   zero_asks, next_asks, pair_asks     what the functions require
-- Assumes nothing.
use Prim.Native.Nat.{ℕ, zero, suc, ◌+◌, ◌-◌, ◌*◌, ◌≤◌, ◌<◌}
use native.Mathlib.Nat.{le_trans}
use native.Mathlib.Omega.{arith}
use mathlib.Core.Path.{◌≡◌, refl, sym, ◌∙◌, ap, subst}
use mathlib.Core.Bool.{Bool, ◌&&◌, So, cond}
use mathlib.Core.List.{List}
use lib.ListN.{length, get_or}
use borrow.Author.Tests.{le-leb, lt-leb}
use Rattle.lists.specs.Lists.{all_to}
use Rattle.lists.proofs.Tests.{all_to_ext}
use Rattle.meaning.specs.Program.{is_atom}
use Rattle.encoding.specs.Code.{Code, pair_total, pair_body, pair_head}
use Rattle.encoding.specs.Literal.{Assignment}
use Rattle.encoding.specs.Variables.{Sizes, level_var, next_var, below_var, next_below_var, var_count}
use Rattle.theory.proofs.Atoms.{atom_pos, atom_le}
use Rattle.theory.proofs.Pairs.{body_in, head_in}
use Rattle.clause_walk.specs.Walk.{group_of, item_count, block_count, slot3, slots4, slot4, chain_size, chain_slots, chain_slot, chain_bit, BlockAt}
use Rattle.clause_chains.specs.declared.Chain.{Chain}
use Rattle.clause_chains.proofs.Chains.{with_first, with_second}
use Rattle.clause_tables.specs.declared.Totals.{Totals}
use Rattle.clause_tables.specs.Tables.{Tabled}
use Rattle.clause_table_laws.proofs.Elements.{ranges, width_are, width_pos, vars_are, partner_is, owner_is, pairs_fit}
use Rattle.clause_layout.specs.BlockChain.{chain_of_block}
use Rattle.clause_layout.proofs.Groups.{sizes_are, size_zero, size_next, size_pair, slots_zero, slots_next, slots_pair, slot_zero, slot_next}
use Rattle.clause_layout.proofs.BlockChains.{chain_pair, slot_chain}
use Rattle.truth_literals.specs.Clauses.{bit_true}
use Rattle.truth_literals.specs.Items.{block_true, item_true}
use Rattle.truth_literals.proofs.Gathered.{all_append}
use Rattle.truth_literals.proofs.Items.{block_of_lem, block_at, item_of_lem, item_one}
use Rattle.truth_literals.proofs.Variables.{count_grows}
use Rattle.truth_levels.specs.Levels.{LevelIn, PairIn, zero_true, next_true, nexts_true, chain_bit_true, chain_true, pair_true}

-- ---- how many items and blocks there are

module _ (G : Code) where
  items3 : item_count G 3 ≡ G.n
  unfolding item_count group_of
  items3 = refl

  items4 : item_count G 4 ≡ G.n
  unfolding item_count group_of
  items4 = refl

  items5 : item_count G 5 ≡ pair_total G
  unfolding item_count group_of
  items5 = refl

  blocks3 : 1 ≡ block_count G 3
  unfolding block_count group_of
  blocks3 = refl

  blocks4 : G.w ≡ block_count G 4
  unfolding block_count group_of
  blocks4 = refl

  blocks5 : G.w + G.w ≡ block_count G 5
  unfolding block_count group_of
  blocks5 = refl

-- ---- the bit of a block of the second chain

second_bit : (w i : ℕ) → 0 < i → i ≡ chain_bit w (w + i)
second_bit w i h = back w i ∙ sym (ap (λ (d : Bool). cond d (w + i) (w + i - w)) (lt-leb (w + i) w (omega (arith, h))))
  where
    back : (w i : ℕ) → i ≡ w + i - w
    back w i = omega arith

first_bit : (w i : ℕ) → i ≤ w → i ≡ chain_bit w i
first_bit w i h = sym (ap (λ (d : Bool). cond d i (i - w)) (le-leb i w h))

module _ {G : Code} {t : Totals} {hs ss bs ks xs ys : List ℕ} (T : Tabled G t hs ss bs ks xs ys) where
  abbrev w : ℕ
  w = t.sizes.w

  abbrev S : Sizes
  S = t.sizes

  width_of : w ≡ G.w
  width_of = width_are G t hs ss bs ks xs ys T

  vars_of : t.vars ≡ var_count S (pair_total G)
  vars_of = vars_are G t hs ss bs ks xs ys T ∙ ap (λ (S : Sizes). var_count S (pair_total G)) (sym (sizes_are T))

  atoms_of : G.n ≡ t.sizes.n
  atoms_of = ap (λ (S : Sizes). S.n) (sym (sizes_are T))

  -- ---- group 3

  zero_block : {a i : ℕ} → BlockAt G 3 a i → (A : Assignment) → zero_true A S a ≡ block_true G A 3 a i
  unfolding zero_true
  zero_block {a} R A = block_of_lem R A w (λ y. 2) (slot3 S a) (size_zero T R refl) (λ y B. slots_zero T B refl) (λ y l B. slot_zero T B l refl)

  pub zero_item : (A : Assignment) (a : ℕ) → 0 < a → a ≤ item_count G 3 → zero_true A S a ≡ item_true G A 3 a
  zero_item A a p h = item_one G 3 a (omega arith) (omega arith) p h A (blocks3 G) (λ R. zero_block R A)

  -- ---- group 4

  next_block : {a i : ℕ} → BlockAt G 4 a i → (A : Assignment) → next_true A S a i ≡ block_true G A 4 a i
  unfolding next_true
  next_block {a} {i} R A = block_of_lem R A (2 * i) (slots4 i) (slot4 S a i) (size_next T R refl) (λ y B. slots_next T B refl refl) (λ y l B. slot_next T B l refl)

  pub next_item : (A : Assignment) (a : ℕ) → 0 < a → a ≤ item_count G 4 → nexts_true A S a ≡ item_true G A 4 a
  unfolding nexts_true
  next_item A a p h = item_of_lem G 4 a (omega arith) (omega arith) p h A w (next_true A S a) (width_of ∙ blocks4 G) (λ i l R. next_block R A)

  -- ---- group 5

  bit_block_lem : {a i : ℕ} → BlockAt G 5 a i → {c : Chain} {j : ℕ} → c ≡ chain_of_block G a i → j ≡ chain_bit w i → (A : Assignment)
      → bit_true A c j ≡ block_true G A 5 a i
  unfolding bit_true
  bit_block_lem R {c} {j} p q A =
      block_of_lem R A (chain_size j) (chain_slots j) (chain_slot c.z.0 c.x.0 c.y.0 c.g.0 j) (size_pair T R refl q refl)
      (λ y B. slots_pair T B refl q refl) (λ y l B. slot_chain T R y l refl p q)

  -- ---- what the functions require

  level_asks : {a : ℕ} → 0 < a → a ≤ G.n → (vs : List ℕ) → t.vars ≤ length vs → LevelIn vs t.sizes a
  level_asks {a} p h vs f =
      record {
        some = p;
        among = subst (λ (n : ℕ). a ≤ n) atoms_of h;
        bytes = le_trans (count_grows S 0 (pair_total G) (omega arith)) (subst (λ (n : ℕ). n ≤ length vs) vars_of f);
      }

  pub zero_asks : {a : ℕ} → 0 < a → a ≤ item_count G 3 → (vs : List ℕ) → t.vars ≤ length vs → LevelIn vs t.sizes a
  zero_asks {a} p h vs f = level_asks p (subst (λ (n : ℕ). a ≤ n) (items3 G) h) vs f

  pub next_asks : {a : ℕ} → 0 < a → a ≤ item_count G 4 → (vs : List ℕ) → t.vars ≤ length vs → LevelIn vs t.sizes a
  next_asks {a} p h vs f = level_asks p (subst (λ (n : ℕ). a ≤ n) (items4 G) h) vs f

  pub pair_fits : {a : ℕ} → a ≤ item_count G 5 → a ≤ 500
  pair_fits {a} l = le_trans (subst (λ (n : ℕ). a ≤ n) (items5 G) l) (pairs_fit G T.limits)

  module _ {a b h : ℕ} (p : 0 < a) (l : a ≤ item_count G 5) (q : b ≡ get_or xs (a - 1) 0) (s : h ≡ get_or ys (a - 1) 0) where
    in_pairs : a ≤ pair_total G
    in_pairs = subst (λ (n : ℕ). a ≤ n) (items5 G) l

    -- the atoms of the pair
    among : (v : ℕ) → So (is_atom G.n v) → (0 < v) × (v ≤ t.sizes.n)
    among v u = (atom_pos G.n v u, subst (λ (n : ℕ). v ≤ n) atoms_of (atom_le G.n v u))

    body_among : (0 < b) × (b ≤ t.sizes.n)
    body_among = among b (subst (λ (v : ℕ). So (is_atom G.n v)) (sym (q ∙ partner_is G t hs ss bs ks xs ys T a p in_pairs)) (go a p in_pairs))
      where
        go : (a : ℕ) → 0 < a → a ≤ pair_total G → So (is_atom G.n (pair_body G a))
        go zero p l = absurd (omega (arith, p))
        go (suc k) p l = body_in G (ranges G T.limits) k l

    head_among : (0 < h) × (h ≤ t.sizes.n)
    head_among = among h (subst (λ (v : ℕ). So (is_atom G.n v)) (sym (s ∙ owner_is G t hs ss bs ks xs ys T a p in_pairs)) (go a p in_pairs))
      where
        go : (a : ℕ) → 0 < a → a ≤ pair_total G → So (is_atom G.n (pair_head G a))
        go zero p l = absurd (omega (arith, p))
        go (suc k) p l = head_in G (ranges G T.limits) k l

    pub pair_asks : (vs : List ℕ) → t.vars ≤ length vs → PairIn vs t.sizes a b h
    pair_asks vs f =
        record {
          some_bit = width_pos G t hs ss bs ks xs ys T;
          some = p;
          few = le_trans in_pairs (pairs_fit G T.limits);
          body_some = body_among.0;
          body_among = body_among.1;
          head_some = head_among.0;
          head_among = head_among.1;
          bytes = le_trans (count_grows S a (pair_total G) in_pairs) (subst (λ (n : ℕ). n ≤ length vs) vars_of f);
        }

    -- bit i of the first chain, and of the second: those of block i, and of block w + i
    abbrev first_chain : Assignment → ℕ → Bool
    first_chain A i = chain_bit_true A (below_var S a 0) (level_var S b 0) (level_var S h 0) i

    abbrev second_chain : Assignment → ℕ → Bool
    second_chain A i = chain_bit_true A (next_below_var S a 0) (next_var S b 0) (level_var S h 0) i

    first_block : (A : Assignment) {i : ℕ} → i ≤ w → BlockAt G 5 a i → first_chain A i ≡ block_true G A 5 a i
    first_block A {i} m R =
        bit_block_lem R
        (chain_pair T R q s (with_first S a b h i m (omega arith) (omega arith) (omega arith) (omega arith)))
        (first_bit w i m) A

    second_block : (A : Assignment) {i : ℕ} → 0 < i → BlockAt G 5 a (w + i) → second_chain A i ≡ block_true G A 5 a (w + i)
    second_block A {i} m R =
        bit_block_lem R
        (chain_pair T R q s (with_second S a b h (w + i) (omega (arith, m)) (omega arith) (omega arith) (omega arith) (omega arith)))
        (second_bit w i m) A

    pub pair_item : (A : Assignment) → pair_true A S a b h ≡ item_true G A 5 a
    unfolding pair_true chain_true item_true
    pair_item A =
        ap (λ (d : Bool). d && all_to w (second_chain A))
        (all_to_ext w (first_chain A) (block_true G A 5 a) (λ i m. first_block A m (block (suc i) (omega arith) (omega (arith, m)))))
        ∙ sym
        (all_append w w (block_true G A 5 a) (second_chain A)
        (λ i m. sym (second_block A (omega arith) (block (w + suc i) (omega arith) (omega (arith, m))))))
        ∙ ap (λ (n : ℕ). all_to n (block_true G A 5 a)) blocks
      where
        blocks : w + w ≡ block_count G 5
        blocks = ap (λ (x : ℕ). x + x) width_of ∙ blocks5 G

        block : (i : ℕ) → 0 < i → i ≤ w + w → BlockAt G 5 a i
        block i m n = block_at G 5 a (omega arith) (omega arith) p l i m (subst (λ (x : ℕ). i ≤ x) blocks n)
