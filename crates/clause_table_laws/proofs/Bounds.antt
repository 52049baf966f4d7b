-- The bounds of all numbers and lines of a code that is limited (Limited G).
--   variables_fit, clauses_fit         at most 9,890 variables and 53,690 clauses
--   positives_fit                      a rule has at most 126 positive body atoms
--   items_fit, blocks_fit, size_fits   at most 500 items, 501 blocks and 503 clauses in a block
--   slots_fit, clause_short            a clause of the walk has at most 501 slots, and at most 501 literals
--   slot_short                         a slot holds at most one literal
--   clause_in_lem, slot_in             each literal of a clause, and of a slot, is of a variable from 1 to V
--   literal_in_lem                     a slot is empty, or holds one literal, of a variable from 1 to 9,890 (Slotted)
--   vars_short, clauses_short           the same of the tables
--   line_fits, lines_fit               the line of a clause of the walk, and of any clause, has at most 3,008 bytes
-- Assumes nothing.
use Prim.Native.Nat.{ℕ, zero, suc, pred, ◌+◌, ◌-◌, ◌*◌, ◌≤◌, ◌<◌}
use native.Mathlib.Nat.{mul-le-mul, le_refl, le_trans, not-suc-le-zero, suc-pred-eq_of_pos}
use native.Mathlib.Omega.{arith}
use mathlib.Core.Path.{◌≡◌, refl, sym, ◌∙◌, ap, subst}
use mathlib.Core.Bool.{Bool, true, false, So, cond}
use mathlib.Core.List.{List, [], ◌∷◌}
use lib.Dec.{eqb, ltb, leb}
use lib.ListN.{length, get_or, length-append}
use borrow.Author.Tests.{ltb-true, leb-true, le-leb}
use Rattle.lists.specs.Lists.{all, tab, each, sum}
use Rattle.lists.proofs.Tables.{sum_ext, sum_zero}
use Rattle.lists.proofs.Growing.{one, count_le}
use Rattle.lists.proofs.Bools.{and_left, and_right}
use Rattle.lists.proofs.Tests.{all_at, all_each, all_tab, all_to_at, all_to_in}
use Rattle.meaning.specs.Program.{no_rule, is_atom}
use Rattle.encoding.specs.Literal.{Literal, var, −◌, variable, literal_number, Clause}
use Rattle.encoding.specs.Variables.{Sizes, body_var, founds_var}
use Rattle.encoding.specs.Clauses.{body_atoms}
use Rattle.encoding.specs.Code.{Code, program_of, code_sizes, inner, pair_total, clauses_of, clause_total_of, variables_of}
use Rattle.encoding.proofs.Literals.{number_size}
use Rattle.theory.proofs.Atoms.{atom_pos, atom_le, rule_in_lem}
use Rattle.theory.proofs.Counts.{count_clauses}
use Rattle.theory.proofs.Occurs.{clauses_fit as code-within}
use Rattle.digits.specs.Bytes.{literal_text, line_text}
use Rattle.digits.proofs.Lengths.{literal_fits, literals_fit, line_length}
use Rattle.clause_walk.specs.Walk.{rule_count, heads_of, head_at, head_of, positives, inner_count, body_count, bit_of, chain_bit, implied_slot, of_head, item_count, block_count, size, slots, slot, clause_at, block, group, walked, BlockAt, At, group_of, Group, body_group, head_group, zero_group, next_group, pair_group, rule_group, founded_group}
use Rattle.clause_walk.proofs.Groups.{every_group}
use Rattle.clause_walk.proofs.Walked.{walked_clauses}
use Rattle.text.specs.Limits.{ascends, rule_ascends}
use Rattle.clause_table_laws.proofs.Elements.{ranges, inner_positives, pairs_fit, body_fits, all_fit_lem, vars_are, clauses_are}
use Rattle.clause_tables.specs.declared.Totals.{Totals}
use Rattle.clause_tables.specs.Tables.{Limited, Tabled}
use Rattle.clause_tables.proofs.Sizes.{atoms_held}

-- ---- the walk's numbers, from 1

module _ {A : Type 0} where
  each_at : (p : A → Bool) (n : ℕ) (f : ℕ → List A) → So (all p (each n f)) → (i : ℕ) → 0 < i → i ≤ n → So (all p (f i))
  each_at p n f t zero l h = absurd (not-suc-le-zero l)
  each_at p n f t (suc i) l h = all_to_at n (λ i. all p (f i)) (sym (all_each p n f) ∙ t) i h

  each_in : (p : A → Bool) (n : ℕ) (f : ℕ → List A) → ((i : ℕ) → 0 < i → i ≤ n → So (all p (f i))) → So (all p (each n f))
  each_in p n f u = all_each p n f ∙ all_to_in n (λ i. all p (f i)) (λ i h. u (suc i) (omega arith) h)

  tab_at : (p : A → Bool) (n : ℕ) (f : ℕ → A) → So (all p (tab n f)) → (i : ℕ) → 0 < i → i ≤ n → So (p (f i))
  tab_at p n f t zero l h = absurd (not-suc-le-zero l)
  tab_at p n f t (suc i) l h = all_to_at n (λ i. p (f i)) (sym (all_tab p n f) ∙ t) i h

  tab_in : (p : A → Bool) (n : ℕ) (f : ℕ → A) → ((i : ℕ) → 0 < i → i ≤ n → So (p (f i))) → So (all p (tab n f))
  tab_in p n f u = all_tab p n f ∙ all_to_in n (λ i. p (f i)) (λ i h. u (suc i) (omega arith) h)

  each_short : (n : ℕ) (f : ℕ → List A) → ((i : ℕ) → length (f i) ≤ 1) → length (each n f) ≤ n
  each_short zero f u = omega arith
  each_short (suc n) f u = omega (arith, length-append (each n f) (f (suc n)), each_short n f u, u (suc n))

-- ---- lists that ascend

-- from x on there is room for the rest
room : (n x : ℕ) (xs : List ℕ) → So (ascends (x ∷ xs)) → So (all (is_atom n) (x ∷ xs)) → x + length xs ≤ n
room n x [] a t = omega (arith, atom_le n x (and_left (is_atom n x) true t))
room n x (y ∷ xs) a t =
    omega (
      arith,
      ltb-true x y (and_left (ltb x y) (ascends (y ∷ xs)) a),
      room n y xs (and_right (ltb x y) (ascends (y ∷ xs)) a) (and_right (is_atom n x) (all (is_atom n) (y ∷ xs)) t),
    )

few : (n : ℕ) (xs : List ℕ) → So (ascends xs) → So (all (is_atom n) xs) → length xs ≤ n
few n [] a t = omega arith
few n (x ∷ xs) a t = omega (arith, room n x xs a t, atom_pos n x (and_left (is_atom n x) (all (is_atom n) xs) t))

-- ---- texts

word_fits : (x : Literal) → variable x ≤ 9890 → length (literal_text (literal_number x)) + 1 ≤ 6
word_fits x h = omega (arith, literal_fits 3 (literal_number x) (omega (arith, number_size x, h)))

text_fits : (n : ℕ) (c : Clause) → n ≤ 9890 → So (all (λ x. is_atom n (variable x)) c) → length c ≤ 501 → length (line_text c) ≤ 3008
text_fits n c l t h =
    omega (
      arith,
      line_length c,
      literals_fit 6 (− 0) c
          (λ j k. word_fits (get_or c j (− 0)) (le_trans (atom_le n (variable (get_or c j (− 0))) (all_at (λ x. is_atom n (variable x)) c (− 0) t j k)) l)),
      h,
    )

-- what a slot holds
pub data Slotted (ls : List Literal) : Type 0 where
  empty : ls ≡ [] → Slotted ls
  holds : (x : Literal) → ls ≡ x ∷ [] → 0 < variable x → variable x ≤ 9890 → Slotted ls

slotted : (n : ℕ) (ls : List Literal) → n ≤ 9890 → length ls ≤ 1 → So (all (λ x. is_atom n (variable x)) ls) → Slotted ls
slotted n [] l h t = empty refl
slotted n (x ∷ []) l h t =
    let u = and_left (is_atom n (variable x)) true t in holds x refl (atom_pos n (variable x) u) (le_trans (atom_le n (variable x) u) l)
slotted n (x ∷ (y ∷ ls)) l h t = absurd (omega arith)

-- ---- how long a slot is

cond_short : (b : Bool) (xs ys : List Literal) → length xs ≤ 1 → length ys ≤ 1 → length (cond b xs ys) ≤ 1
cond_short true xs ys h k = h
cond_short false xs ys h k = k

head_short : (hs : List ℕ) (a : ℕ) (v : ℕ → ℕ) (l : ℕ) → length (of_head hs a v l) ≤ 1
head_short hs a v l =
    cond_short (eqb l 1) (− a ∷ []) (cond (eqb (head_at hs (pred l)) a) (var (v (pred l)) ∷ []) []) (omega arith)
    (cond_short (eqb (head_at hs (pred l)) a) (var (v (pred l)) ∷ []) [] (omega arith) (omega arith))

-- the numbers of a group of a limited code are bounded, and a slot has at most one literal
pub record GroupBounds (x : Group) : Type 0 where
  pub items_few : x.items ≤ 500
  pub blocks_few : x.blocks ≤ 501
  pub size_few : (a i : ℕ) → 0 < a → a ≤ x.items → i ≤ x.blocks → x.size a i ≤ 503
  pub slots_few : (a i y : ℕ) → 0 < a → a ≤ x.items → i ≤ x.blocks → x.slots a i y ≤ 501
  pub one_literal : (a i y l : ℕ) → length (x.slot a i y l) ≤ 1

module _ (G : Code) (L : Limited G) where
  abbrev w : ℕ
  w = G.w

  -- ---- the totals

  pub variables_fit : variables_of G ≤ 9890
  variables_fit =
      omega (
        arith,
        L.within.few_atoms,
        L.within.few_rules,
        mul-le-mul {n₂ = 252} {m₂ = 7} (twice 126 G.n L.within.few_atoms) L.few_bits,
        mul-le-mul {n₂ = 1000} {m₂ = 7} (twice 500 (pair_total G) (pairs_fit G L)) L.few_bits,
      )
    where
      twice : (k x : ℕ) → x ≤ k → 2 * x ≤ 2 * k
      twice k x h = omega arith

  pub clauses_fit : clause_total_of G ≤ 53690
  unfolding body_atoms
  clauses_fit =
      sums (clause_total_of G) (body_atoms (program_of G)) (length G.rules) _ w G.n (pair_total G) _ no_open
      (count_clauses G (ranges G L) (pred w) (sym (suc-pred-eq_of_pos L.some_bit)))
      (omega (arith, atoms_held (program_of G), L.within.few_bodies)) L.within.few_rules
      (count_le (length G.rules) (λ r. eqb (length (inner G r)) 0)) L.few_bits L.within.few_atoms (pairs_fit G L)
    where
      no_open : sum G.n (λ a. one (G.opened a)) ≡ 0
      no_open = sum_ext G.n (λ a. one (G.opened a)) (λ a. 0) (λ a h. ap one (L.none_open (suc a))) ∙ sum_zero G.n

      sums : (c o m e x n k p : ℕ) → p ≡ 0 → c + e + 2 * p ≡ o + 5 * m + x * e + 2 * n + n * x * (x + 2) + k * (12 * x - 5) + x * p
          → o ≤ 500 → m ≤ 500 → e ≤ m → x ≤ 7 → n ≤ 126 → k ≤ 500 → c ≤ 53690
      sums c o m e x n k p z d l q r s t u =
          let bits : x * e ≤ 7 * e = mul-le-mul {n₂ = 7} {m₂ = e} s (le_refl e) in
          let atoms : n * x * (x + 2) ≤ 882 * 9 = mul-le-mul {n₂ = 882} {m₂ = 9} (mul-le-mul {n₂ = 126} {m₂ = 7} t s) (omega arith) in
          let pairs : k * (12 * x - 5) ≤ 500 * 79 = mul-le-mul {n₂ = 500} {m₂ = 79} u (omega arith) in
          let opens : x * p ≤ 7 * p = mul-le-mul {n₂ = 7} {m₂ = p} s (le_refl p) in
          omega (arith, z, d, l, q, r)

  -- ---- the numbers of the walk

  pub positives_fit : (r : ℕ) → 0 < r → r ≤ length G.rules → positives G r ≤ 126
  positives_fit zero p h = absurd (not-suc-le-zero p)
  positives_fit (suc i) p h =
      let R = get_or G.rules i no_rule in
      le_trans
      (few G.n R.positive (and_left (ascends R.positive) (ascends R.negative) (all_at rule_ascends G.rules no_rule L.within.ascending i h))
      (rule_in_lem G.n G.rules (all_fit_lem G L) i h).positive_in)
      L.within.few_atoms

  pub inner_fit : (r : ℕ) → 0 < r → r ≤ length G.rules → inner_count G r ≤ 126
  inner_fit r p h = omega (arith, inner_positives G L r, positives_fit r p h)

  -- ---- each group: its numbers are bounded, and a slot has at most one literal

  few_pair : (c : Bool) (b : ℕ) → b ≤ 500 → cond c 2 (suc b) ≤ 501
  few_pair true b l = omega arith
  few_pair false b l = omega arith

  abbrev S : Sizes
  S = code_sizes G

  body_bounds : GroupBounds (body_group G)
  body_bounds =
      record {
        items_few = L.within.few_rules;
        blocks_few = omega arith;
        size_few = λ r i p h k. omega (arith, body_fits G L r p h);
        slots_few = λ r i y p h k. few_pair (leb y (body_count G r)) (body_count G r) (body_fits G L r p h);
        one_literal = λ r i y l. le_refl 1;
      }

  head_bounds : GroupBounds (head_group G)
  head_bounds =
      record {
        items_few = le_trans L.within.few_atoms (omega arith);
        blocks_few = omega (arith, L.within.few_rules);
        size_few = λ a i p h k. few_two (leb i (rule_count G)) (eqb (head_of G i) a);
        slots_few = λ a i y p h k. few_pair (leb i (rule_count G)) (rule_count G) L.within.few_rules;
        one_literal = λ a i y l.
            cond_short (leb i (rule_count G)) (implied_slot S a i l ∷ []) (of_head (heads_of G) a (body_var S) l) (le_refl 1) (head_short (heads_of G) a (body_var S) l);
      }
    where
      few_two : (c d : Bool) → cond c (cond d 1 0) 1 ≤ 503
      few_two true true = omega arith
      few_two true false = omega arith
      few_two false d = omega arith

  zero_bounds : GroupBounds (zero_group G)
  zero_bounds =
      record {
        items_few = le_trans L.within.few_atoms (omega arith);
        blocks_few = omega arith;
        size_few = λ a i p h k. omega (arith, L.few_bits);
        slots_few = λ a i y p h k. omega arith;
        one_literal = λ a i y l. le_refl 1;
      }

  next_bounds : GroupBounds (next_group G)
  next_bounds =
      record {
        items_few = le_trans L.within.few_atoms (omega arith);
        blocks_few = omega (arith, L.few_bits);
        size_few = λ a i p h k. omega (arith, L.few_bits, k);
        slots_few = λ a i y p h k. few_three i (ltb (bit_of y) i) (le_trans k L.few_bits);
        one_literal = λ a i y l. le_refl 1;
      }
    where
      few_three : (i : ℕ) (c : Bool) → i ≤ 7 → cond c 3 (suc i) ≤ 501
      few_three i true l = omega arith
      few_three i false l = omega arith

  pair_bounds : GroupBounds (pair_group G)
  pair_bounds =
      record {
        items_few = pairs_fit G L;
        blocks_few = omega (arith, L.few_bits);
        size_few = λ k i p h q. few_clauses (eqb (chain_bit w i) 1);
        slots_few = λ k i y p h q. few_slots (eqb (chain_bit w i) 1) (eqb y 3);
        one_literal = λ k i y l. le_refl 1;
      }
    where
      few_clauses : (c : Bool) → cond c 3 6 ≤ 503
      few_clauses true = omega arith
      few_clauses false = omega arith

      few_slots : (c d : Bool) → cond c (cond d 3 2) 3 ≤ 501
      few_slots true true = omega arith
      few_slots true false = omega arith
      few_slots false d = omega arith

  rule_bounds : GroupBounds (rule_group G)
  rule_bounds =
      record {
        items_few = L.within.few_rules;
        blocks_few = omega arith;
        size_few = λ r i p h k. few_clauses (eqb (inner_count G r) 0) (inner_count G r) (inner_fit r p h);
        slots_few = λ r i y p h k.
            few_slots (leb y (suc (inner_count G r))) (eqb y (suc (suc (inner_count G r)))) (eqb (inner_count G r) 0) (inner_count G r) (inner_fit r p h);
        one_literal = λ r i y l. le_refl 1;
      }
    where
      few_clauses : (c : Bool) (b : ℕ) → b ≤ 126 → cond c (suc (suc w)) (suc (suc (suc b))) ≤ 503
      few_clauses true b l = omega (arith, L.few_bits)
      few_clauses false b l = omega (arith, l)

      few_slots : (c d e : Bool) (b : ℕ) → b ≤ 126 → cond c 2 (cond d (suc (suc b)) (cond e 2 (suc b))) ≤ 501
      few_slots true d e b l = omega arith
      few_slots false true e b l = omega arith
      few_slots false false true b l = omega arith
      few_slots false false false b l = omega arith

  founded_bounds : GroupBounds (founded_group G)
  founded_bounds =
      record {
        items_few = le_trans L.within.few_atoms (omega arith);
        blocks_few = omega arith;
        size_few = λ a i p h k. omega arith;
        slots_few = λ a i y p h k. omega (arith, L.within.few_rules);
        one_literal = λ a i y l. head_short (heads_of G) a (founds_var S) l;
      }

  pub groups_bounded : (g : ℕ) → GroupBounds (group_of G g)
  groups_bounded = every_group G GroupBounds body_bounds head_bounds zero_bounds next_bounds pair_bounds rule_bounds founded_bounds

  pub items_fit : (g : ℕ) → item_count G g ≤ 500
  unfolding item_count
  items_fit g = (groups_bounded g).items_few

  pub blocks_fit : (g : ℕ) → block_count G g ≤ 501
  unfolding block_count
  blocks_fit g = (groups_bounded g).blocks_few

  pub size_fits : (g a i : ℕ) → BlockAt G g a i → size G g a i ≤ 503
  unfolding size item_count block_count
  size_fits g a i s = (groups_bounded g).size_few a i s.item_some s.item_in s.block_in

  pub slots_fit : (g a i y : ℕ) → 0 < a → a ≤ item_count G g → 0 < i → i ≤ block_count G g → slots G g a i y ≤ 501
  unfolding slots item_count block_count
  slots_fit g a i y p h q k = (groups_bounded g).slots_few a i y p h k

  pub slot_short : (g a i y l : ℕ) → length (slot G g a i y l) ≤ 1
  unfolding slot
  slot_short g a i y l = (groups_bounded g).one_literal a i y l

  -- ---- the literals

  abbrev fits : Literal → Bool
  fits x = is_atom (variables_of G) (variable x)

  all_within : So (all (all fits) (walked G))
  all_within =
      subst (λ (cs : List Clause). So (all (all fits) cs)) (sym (walked_clauses G L.some_bit L.none_open))
      (code-within G (ranges G L) L.some_bit)

  -- what holds of every clause of the walk holds of the clause at a place, and the other way round
  at_place : (p : Clause → Bool) → So (all p (walked G)) → (g a i y : ℕ) → At G g a i y → So (p (clause_at G g a i y))
  unfolding walked
  at_place p t g a i y s =
      tab_at p (size G g a i) (clause_at G g a i)
      (each_at p (block_count G g) (block G g a)
      (each_at p (item_count G g) (λ a. each (block_count G g) (block G g a)) (each_at p 7 (group G) t g s.block_at.group_some s.block_at.group_in) a s.block_at.item_some s.block_at.item_in)
      i s.block_at.block_some s.block_at.block_in)
      y s.clause_some s.clause_in_lem

  by_place : (p : Clause → Bool) → ((g a i y : ℕ) → At G g a i y → So (p (clause_at G g a i y))) → So (all p (walked G))
  unfolding walked
  by_place p u =
      each_in p 7 (group G)
      (λ g g1 g2. each_in p (item_count G g) (λ a. each (block_count G g) (block G g a))
      (λ a a1 a2. each_in p (block_count G g) (block G g a)
      (λ i i1 i2. tab_in p (size G g a i) (clause_at G g a i)
      (λ y y1 y2.
      u g a i y
      (record { block_at = record { group_some = g1; group_in = g2; item_some = a1; item_in = a2; block_some = i1; block_in = i2 }; clause_some = y1; clause_in_lem = y2 })))))

  pub clause_in_lem : (g a i y : ℕ) → At G g a i y → So (all (λ x. is_atom (variables_of G) (variable x)) (clause_at G g a i y))
  clause_in_lem g a i y s = at_place (all fits) all_within g a i y s

  pub slot_in : (g a i y l : ℕ) → At G g a i y → 0 < l → l ≤ slots G g a i y → So (all (λ x. is_atom (variables_of G) (variable x)) (slot G g a i y l))
  slot_in g a i y l s p h = each_at fits (slots G g a i y) (slot G g a i y) (clause_in_lem g a i y s) l p h

  pub literal_in_lem : (g a i y l : ℕ) → At G g a i y → 0 < l → l ≤ slots G g a i y → Slotted (slot G g a i y l)
  literal_in_lem g a i y l s p h = slotted (variables_of G) (slot G g a i y l) variables_fit (slot_short g a i y l) (slot_in g a i y l s p h)

  -- ---- the lines

  pub clause_short : (g a i y : ℕ) → At G g a i y → length (clause_at G g a i y) ≤ 501
  clause_short g a i y s =
      le_trans (each_short (slots G g a i y) (slot G g a i y) (slot_short g a i y)) (slots_fit g a i y s.block_at.item_some s.block_at.item_in s.block_at.block_some s.block_at.block_in)

  pub line_fits : (g a i y : ℕ) → At G g a i y → length (line_text (clause_at G g a i y)) ≤ 3008
  line_fits g a i y s = text_fits (variables_of G) (clause_at G g a i y) variables_fit (clause_in_lem g a i y s) (clause_short g a i y s)

  pub lines_fit : (j : ℕ) → j < length (clauses_of G) → length (line_text (get_or (clauses_of G) j [])) ≤ 3008
  lines_fit j h =
      leb-true (length (line_text (get_or (clauses_of G) j []))) 3008
      (all_at (λ c. leb (length (line_text c)) 3008) (clauses_of G) []
      (subst (λ (cs : List Clause). So (all (λ c. leb (length (line_text c)) 3008) cs)) (walked_clauses G L.some_bit L.none_open)
      (by_place (λ c. leb (length (line_text c)) 3008) (λ g a i y s. le-leb (length (line_text (clause_at G g a i y))) 3008 (line_fits g a i y s)))) j h)

-- ---- of the tables

module _ {G : Code} {t : Totals} {hs ss bs ks xs ys : List ℕ} (T : Tabled G t hs ss bs ks xs ys) where
  pub vars_short : t.vars ≤ 9890
  vars_short = subst (λ (k : ℕ). k ≤ 9890) (sym (vars_are G t hs ss bs ks xs ys T)) (variables_fit G T.limits)

  pub clauses_short : t.clauses ≤ 53690
  clauses_short = subst (λ (k : ℕ). k ≤ 53690) (sym (clauses_are G t hs ss bs ks xs ys T)) (clauses_fit G T.limits)
