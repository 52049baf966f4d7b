-- Groups 4 and 5 of the walk are those of the clause list.
-- Assumes nothing.
use Prim.Native.Nat.{ℕ, zero, suc, pred, ◌+◌, ◌-◌, ◌*◌, ◌/◌, ◌%◌, ◌<◌}
use native.Mathlib.Nat.{le_refl}
use native.Mathlib.Omega.{arith}
use mathlib.Core.Path.{◌≡◌, refl, sym, ◌∙◌, ap, ap₂}
use mathlib.Core.Bool.{Bool, true, false, cond}
use mathlib.Core.List.{List, [], ◌∷◌, ◌++◌, append_assoc}
use lib.Dec.{eqb, ltb}
use borrow.Author.Tests.{eq-eqb, ne_eqb, lt-ltb, le-ltb, le-leb, lt-leb}
use Rattle.lists.specs.Lists.{tab, each}
use Rattle.lists.proofs.Tables.{each_ext, tab_each}
use Rattle.encoding.specs.Literal.{var, −◌, Clause}
use Rattle.encoding.specs.Variables.{Sizes, level_var, next_var, below_var, next_below_var}
use Rattle.encoding.specs.Counter.{keeps_clauses, flips_clauses, successor_at, successor, chain_at, chain}
use Rattle.encoding.specs.Clauses.{pair_clauses}
use Rattle.encoding.specs.Code.{Code, code_sizes, pair_total, pair_body, pair_head, part4, part5}
use Rattle.clause_walk.specs.Walk.{signed, three, chain_size, chain_slots, chain_first, chain_next, chain_slot, item_count, block_count, size, slots, slot, clause_at, block, group, group_of}
use Rattle.clause_walk.proofs.Tabs.{each_add, tab_pairs}

module _ (G : Code) where
  abbrev w : ℕ
  w = G.w

  abbrev S : Sizes
  S = code_sizes G

  -- ---- group 4

  module _ (a : ℕ) where
    abbrev u : ℕ → ℕ
    u = next_var S a

    abbrev v : ℕ → ℕ
    v = level_var S a

    -- a clause of block i with bit j, below i or not as d says, and the rest ρ of its number by 2
    abbrev clause4 : Bool → ℕ → ℕ → ℕ → Clause
    clause4 d ρ i j =
        each (cond d 3 (suc i))
        (λ l. cond d (three (var (v j)) (signed (eqb ρ 0) (u i)) (signed (eqb ρ 1) (v i)) l)
        (cond (ltb l i) (− v l) (cond (eqb l i) (signed (eqb ρ 0) (u i)) (signed (eqb ρ 0) (v i)))) ∷ [])

    as_clause4 : (i x ρ y : ℕ) → pred y / 2 ≡ x → y % 2 ≡ ρ → clause_at G 4 a i y ≡ clause4 (ltb (suc x) i) ρ i (suc x)
    unfolding slots slot group_of
    as_clause4 i x ρ y p q = ap₂ (λ (x ρ : ℕ). clause4 (ltb (suc x) i) ρ i (suc x)) p q

    -- the clauses 2x + 1 and 2x + 2 of block i
    both4 : (i x : ℕ) → clause_at G 4 a i (suc (2 * x)) ∷ clause_at G 4 a i (suc (suc (2 * x))) ∷ []
        ≡ clause4 (ltb (suc x) i) 1 i (suc x) ∷ clause4 (ltb (suc x) i) 0 i (suc x) ∷ []
    both4 i x =
        ap₂ (λ (c d : Clause). c ∷ d ∷ []) (as_clause4 i x 1 (suc (2 * x)) (omega arith) (omega arith)) (as_clause4 i x 0 (suc (suc (2 * x))) (omega arith) (omega arith))

    -- a long clause of block i + 1
    flip : (i : ℕ) (b : Bool) → each (suc (suc i)) (λ l. cond (ltb l (suc i)) (− v l) (cond (eqb l (suc i)) (signed b (u (suc i))) (signed b (v (suc i)))) ∷ [])
        ≡ tab i (λ j. − v j) ++ (signed b (u (suc i)) ∷ signed b (v (suc i)) ∷ [])
    flip i b =
        ap₂ (λ (xs ys : Clause). xs ++ ys)
        (ap₂ (λ (xs ys : Clause). xs ++ ys)
        (each_ext i (λ l. cond (ltb l (suc i)) (− v l) (cond (eqb l (suc i)) (signed b (u (suc i))) (signed b (v (suc i)))) ∷ []) (λ j. − v j ∷ [])
        (λ x h. rw (lt-ltb (suc x) (suc i) (omega arith)))
        ∙ sym (tab_each i (λ j. − v j)))
        (rw (le-ltb (suc i) (suc i) (le_refl (suc i)), eq-eqb (suc i) (suc i) refl)))
        (rw (le-ltb (suc (suc i)) (suc i) (omega arith), ne_eqb (suc (suc i)) (suc i) (λ e. omega arith)))
        ∙ append_assoc (tab i (λ j. − v j)) (signed b (u (suc i)) ∷ []) (signed b (v (suc i)) ∷ [])

    keeps : (i x : ℕ) → x < i → clause_at G 4 a (suc i) (suc (2 * x)) ∷ clause_at G 4 a (suc i) (suc (suc (2 * x))) ∷ [] ≡ keeps_clauses u v (suc i) (suc x)
    keeps i x h = both4 (suc i) x ∙ ap (λ (d : Bool). clause4 d 1 (suc i) (suc x) ∷ clause4 d 0 (suc i) (suc x) ∷ []) (lt-ltb (suc x) (suc i) (omega arith))

    flips : (i : ℕ) → clause_at G 4 a (suc i) (suc (2 * i)) ∷ clause_at G 4 a (suc i) (suc (suc (2 * i))) ∷ [] ≡ flips_clauses u v (suc i)
    flips i =
        both4 (suc i) i ∙ ap (λ (d : Bool). clause4 d 1 (suc i) (suc i) ∷ clause4 d 0 (suc i) (suc i) ∷ []) (le-ltb (suc i) (suc i) (le_refl (suc i)))
        ∙ ap₂ (λ (c d : Clause). c ∷ d ∷ []) (flip i false) (flip i true)

    block4 : (i : ℕ) → block G 4 a (suc i) ≡ successor_at u v (suc i)
    unfolding size group_of
    block4 i =
        tab_pairs (suc i) (clause_at G 4 a (suc i))
        ∙ ap₂ (λ (xs ys : List Clause). xs ++ ys)
        (each_ext i (λ j. clause_at G 4 a (suc i) (suc (2 * pred j)) ∷ clause_at G 4 a (suc i) (suc (suc (2 * pred j))) ∷ []) (keeps_clauses u v (suc i)) (keeps i)) (flips i)

  pub is_group4 : group G 4 ≡ part4 G
  unfolding item_count block_count successor group_of
  is_group4 =
      each_ext G.n (λ a. each w (block G 4 a)) (λ a. each w (successor_at (next_var S a) (level_var S a)))
      (λ x h. each_ext w (block G 4 (suc x)) (successor_at (next_var S (suc x)) (level_var S (suc x))) (λ i k. block4 (suc x) i))

  -- ---- group 5

  chain_block : (z x y : ℕ → ℕ) (i : ℕ)
      → tab (chain_size (suc i)) (λ c. each (chain_slots (suc i) c) (λ l. chain_slot (z (suc i)) (x (suc i)) (y (suc i)) (z i) (suc i) c l ∷ [])) ≡ chain_at z x y (suc i)
  chain_block z x y zero = refl
  chain_block z x y (suc j) =
      let i = suc (suc j) in
      ap (λ (d : Bool). tab (cond d 3 6) (λ c. each (cond d (cond (eqb c 3) 3 2) 3)
      (λ l. cond d (chain_first (z i) (x i) (y i) c l) (chain_next (z i) (x i) (y i) (z (suc j)) c l) ∷ []))) (ne_eqb i 1 (λ e. omega arith))

  module _ (k : ℕ) where
    abbrev b : ℕ
    b = pair_body G k

    abbrev h : ℕ
    h = pair_head G k

    -- bit i of a chain
    abbrev bit_block : (ℕ → ℕ) → (ℕ → ℕ) → ℕ → List Clause
    bit_block z x i = tab (chain_size i) (λ c. each (chain_slots i c) (λ l. chain_slot (z i) (x i) (level_var S h i) (z (pred i)) i c l ∷ []))

    -- block i, of the first chain or not as d says
    abbrev block5 : Bool → ℕ → List Clause
    block5 d i =
        tab (chain_size (cond d i (i - w)))
        (λ c. each (chain_slots (cond d i (i - w)) c)
        (λ l. cond d (chain_slot (below_var S k i) (level_var S b i) (level_var S h i) (below_var S k (pred i)) i c l)
        (chain_slot (next_below_var S k (i - w)) (next_var S b (i - w)) (level_var S h (i - w)) (next_below_var S k (pred (i - w))) (i - w) c l) ∷ []))

    first_chain : (i : ℕ) → i < w → block G 5 k (suc i) ≡ chain_at (below_var S k) (level_var S b) (level_var S h) (suc i)
    unfolding size slots slot group_of
    first_chain i l = ap (λ (d : Bool). block5 d (suc i)) (le-leb (suc i) w l) ∙ chain_block (below_var S k) (level_var S b) (level_var S h) i

    second_chain : (i : ℕ) → block G 5 k (w + suc i) ≡ chain_at (next_below_var S k) (next_var S b) (level_var S h) (suc i)
    unfolding size slots slot group_of
    second_chain i =
        ap (λ (d : Bool). block5 d (w + suc i)) (lt-leb (w + suc i) w (omega arith))
        ∙ ap (bit_block (next_below_var S k) (next_var S b)) (add_sub w i) ∙ chain_block (next_below_var S k) (next_var S b) (level_var S h) i
      where
        add_sub : (w i : ℕ) → w + suc i - w ≡ suc i
        add_sub w i = omega arith

    blocks5 : each (w + w) (block G 5 k) ≡ pair_clauses S k b h
    unfolding chain
    blocks5 =
        each_add w w (block G 5 k)
        ∙ ap₂ (λ (xs ys : List Clause). xs ++ ys)
        (each_ext w (block G 5 k) (chain_at (below_var S k) (level_var S b) (level_var S h)) first_chain)
        (each_ext w (λ i. block G 5 k (w + i)) (chain_at (next_below_var S k) (next_var S b) (level_var S h)) (λ i l. second_chain i))

  pub is_group5 : group G 5 ≡ part5 G
  unfolding item_count block_count group_of
  is_group5 =
      each_ext (pair_total G) (λ k. each (w + w) (block G 5 k)) (λ k. pair_clauses S k (pair_body G k) (pair_head G k)) (λ i l. blocks5 (suc i))
