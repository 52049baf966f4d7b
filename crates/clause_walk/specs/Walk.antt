-- The clause list as a walk: groups 1 to 7, in each its items (rules, atoms or pairs), in an item its blocks, in a block its clauses, in a clause its
-- slots, each from 1; a slot holds a literal or none. Code goes from place to place by these numbers and stores no clause.
--   body_group, head_group ..  each group: its items and blocks, and by item, block, clause and slot its clauses, slots and literals
--   group_count, group_of G g  how many groups there are, and group g
--   item_count G g             how many items group g has
--   block_count G g            how many blocks an item of group g has
--   size G g a i               how many clauses block i of item a has
--   slots G g a i y            how many slots clause y of that block has
--   slot G g a i y l           the literal in slot l of that clause, if there is one
--   walked G                   all clauses, in the walk's order
--   BlockAt G g a i            group g has an item a, with a block i
--   At G g a i y               and that block has a clause y
-- Assumes nothing.
use Rattle.std.specs.Prelude.{ℕ, suc, pred, ◌+◌, ◌-◌, ◌*◌, ◌/◌, ◌%◌, ◌≤◌, ◌<◌, Bool, cond, List, [], ◌∷◌, ◌++◌, map, eqb, ltb, leb, length, get_or}
use Rattle.lists.specs.Lists.{tab, each}
use Rattle.encoding.specs.Literal.{Literal, var, −◌, Clause}
use Rattle.encoding.specs.Variables.{Sizes, body_var, founds_var, level_var, next_var, below_var, next_below_var}
use Rattle.encoding.specs.Code.{Code, code_sizes, rl, inner, pair_total, pair_body, pair_head, before}

-- ---- rules and pairs

abbrev pub rule_count : Code → ℕ
rule_count G = length G.rules

-- the heads of the rules, and that of rule r
abbrev pub heads_of : Code → List ℕ
heads_of G = map (λ R. R.head) G.rules

abbrev pub head_at : List ℕ → ℕ → ℕ
head_at hs r = get_or hs (pred r) 0

abbrev pub head_of : Code → ℕ → ℕ
head_of G r = head_at (heads_of G) r

-- how many positive body atoms rule r has, and how many of them are inside
abbrev pub positives : Code → ℕ → ℕ
positives G r = length (rl G r).positive

abbrev pub inner_count : Code → ℕ → ℕ
inner_count G r = length (inner G r)

-- the body atoms of rule r, B before C
abbrev pub body_of : Code → ℕ → List ℕ
body_of G r = (rl G r).positive ++ (rl G r).negative

abbrev pub body_count : Code → ℕ → ℕ
body_count G r = length (body_of G r)

-- a variable, or its negation
abbrev pub signed : Bool → ℕ → Literal
signed b v = cond b (var v) (− v)

-- two and three literals
abbrev pub two : Literal → Literal → ℕ → Literal
two x y l = cond (eqb l 1) x y

abbrev pub three : Literal → Literal → Literal → ℕ → Literal
three x y z l = cond (eqb l 1) x (cond (eqb l 2) y z)

-- after the first slot, the variable v of rule l − 1 if a is its head
abbrev pub of_head : List ℕ → ℕ → (ℕ → ℕ) → ℕ → List Literal
of_head hs a v l = cond (eqb l 1) (− a ∷ []) (cond (eqb (head_at hs (pred l)) a) (var (v (pred l)) ∷ []) [])

-- ---- group 1, rule r with the body atoms bs, the first p of them positive: clause y for body atom y, then the long one

abbrev pub atom_at : List ℕ → ℕ → ℕ
atom_at bs x = get_or bs (pred x) 0

-- body atom x as it stands in the rule, and negated
abbrev pub body_literal : List ℕ → ℕ → ℕ → Literal
body_literal bs p x = signed (leb x p) (atom_at bs x)

abbrev pub body_opposite : List ℕ → ℕ → ℕ → Literal
body_opposite bs p x = signed (ltb p x) (atom_at bs x)

abbrev pub slots1 : ℕ → ℕ → ℕ
slots1 b y = cond (leb y b) 2 (suc b)

abbrev pub slot1 : Sizes → ℕ → List ℕ → ℕ → ℕ → ℕ → Literal
slot1 S r bs p y l =
    cond (leb y (length bs)) (two (− body_var S r) (body_literal bs p y) l) (cond (eqb l 1) (var (body_var S r)) (body_opposite bs p (pred l)))

-- ---- group 2, atom a: block i for rule i, with a clause if a is its head; then the last block

abbrev pub size2 : Code → ℕ → ℕ → ℕ
size2 G a i = cond (leb i (rule_count G)) (cond (eqb (head_of G i) a) 1 0) 1

abbrev pub slots2 : Code → ℕ → ℕ
slots2 G i = cond (leb i (rule_count G)) 2 (suc (rule_count G))

abbrev pub implied_slot : Sizes → ℕ → ℕ → ℕ → Literal
implied_slot S a r l = two (var a) (− body_var S r) l

abbrev pub slot2 : Code → ℕ → ℕ → ℕ → List Literal
slot2 G a i l =
    cond (leb i (rule_count G)) (implied_slot (code_sizes G) a i l ∷ []) (of_head (heads_of G) a (body_var (code_sizes G)) l)

-- ---- group 3, atom a: clause y for bit y

abbrev pub slot3 : Sizes → ℕ → ℕ → ℕ → Literal
slot3 S a y l = two (var a) (− level_var S a y) l

-- ---- group 4, atom a: block i for bit i, two clauses for each j from 1 to i; those with j = i are the long ones

-- j of clause y, and whether it is the first or the second of its two
abbrev pub bit_of : ℕ → ℕ
bit_of y = suc (pred y / 2)

abbrev pub is_first : ℕ → Bool
is_first y = eqb (y % 2) 1

abbrev pub is_second : ℕ → Bool
is_second y = eqb (y % 2) 0

abbrev pub slots4 : ℕ → ℕ → ℕ
slots4 i y = cond (ltb (bit_of y) i) 3 (suc i)

abbrev pub slot4 : Sizes → ℕ → ℕ → ℕ → ℕ → Literal
slot4 S a i y l =
    cond (ltb (bit_of y) i)
    (three (var (level_var S a (bit_of y))) (signed (is_second y) (next_var S a i)) (signed (is_first y) (level_var S a i)) l)
    (cond (ltb l i) (− level_var S a l) (cond (eqb l i) (signed (is_second y) (next_var S a i)) (signed (is_second y) (level_var S a i))))

-- ---- group 5, pair k: block i for bit i of the first chain, block w + i for bit i of the second

abbrev pub chain_size : ℕ → ℕ
chain_size i = cond (eqb i 1) 3 6

abbrev pub chain_slots : ℕ → ℕ → ℕ
chain_slots i y = cond (eqb i 1) (cond (eqb y 3) 3 2) 3

-- clause c of bit 1, and of bit i from 2, with z, x and y at that bit and g, z at the bit before
abbrev pub chain_first : ℕ → ℕ → ℕ → ℕ → ℕ → Literal
chain_first z x y c l = cond (eqb c 1) (two (− z) (− x) l) (cond (eqb c 2) (two (− z) (var y) l) (three (var z) (var x) (− y) l))

abbrev pub chain_next : ℕ → ℕ → ℕ → ℕ → ℕ → ℕ → Literal
chain_next z x y g c l =
    cond (eqb c 1) (three (− z) (− x) (var y) l)
    (cond (eqb c 2) (three (− z) (− x) (var g) l)
    (cond (eqb c 3) (three (− z) (var y) (var g) l)
    (cond (eqb c 4) (three (var z) (var x) (− y) l)
    (cond (eqb c 5) (three (var z) (var x) (− g) l) (three (var z) (− y) (− g) l)))))

abbrev pub chain_slot : ℕ → ℕ → ℕ → ℕ → ℕ → ℕ → ℕ → Literal
chain_slot z x y g i c l = cond (eqb i 1) (chain_first z x y c l) (chain_next z x y g c l)

-- the bit of block i
abbrev pub chain_bit : ℕ → ℕ → ℕ
chain_bit w i = cond (leb i w) i (i - w)

-- with the body atom b and the head h
abbrev pub slot5 : Sizes → ℕ → ℕ → ℕ → ℕ → ℕ → ℕ → Literal
slot5 S k b h i y l =
    cond (leb i S.w)
    (chain_slot (below_var S k i) (level_var S b i) (level_var S h i) (below_var S k (pred i)) i y l)
    (chain_slot (next_below_var S k (i - S.w)) (next_var S b (i - S.w)) (level_var S h (i - S.w)) (next_below_var S k (pred (i - S.w))) (i - S.w) y l)

-- ---- group 6, rule r with b pairs after k others and the head h: clause 1, b clauses, the long one, and the last ones

abbrev pub size6 : ℕ → ℕ → ℕ
size6 w b = cond (eqb b 0) (suc (suc w)) (suc (suc (suc b)))

abbrev pub slots6 : ℕ → ℕ → ℕ
slots6 b y = cond (leb y (suc b)) 2 (cond (eqb y (suc (suc b))) (suc (suc b)) (cond (eqb b 0) 2 (suc b)))

abbrev pub slot6 : Sizes → ℕ → ℕ → ℕ → ℕ → ℕ → ℕ → Literal
slot6 S r h k b y l =
    let s = founds_var S r in
    let t = body_var S r in
    cond (eqb y 1) (two (− s) (var t) l)
    (cond (leb y (suc b)) (two (− s) (var (below_var S (k + pred y) S.w)) l)
    (cond (eqb y (suc (suc b))) (three (var s) (− t) (− below_var S (k + (l - 2)) S.w) l)
    (cond (eqb b 0) (two (− t) (signed (eqb y 3) (level_var S h (y - 2))) l) (two (− t) (− next_below_var S (k + pred l) S.w) l))))

-- ---- each group: its items, the blocks of an item, and by item a, block i, clause y and slot l how many clauses and slots there are, and the literal

pub record Group : Type 0 where
  pub items : ℕ
  pub blocks : ℕ
  pub size : ℕ → ℕ → ℕ
  pub slots : ℕ → ℕ → ℕ → ℕ
  pub slot : ℕ → ℕ → ℕ → ℕ → List Literal

abbrev pub body_group : Code → Group
body_group G =
    record {
      items = rule_count G;
      blocks = 1;
      size = λ r i. suc (body_count G r);
      slots = λ r i y. slots1 (body_count G r) y;
      slot = λ r i y l. slot1 (code_sizes G) r (body_of G r) (positives G r) y l ∷ [];
    }

abbrev pub head_group : Code → Group
head_group G =
    record {
      items = G.n;
      blocks = suc (rule_count G);
      size = size2 G;
      slots = λ a i y. slots2 G i;
      slot = λ a i y l. slot2 G a i l;
    }

abbrev pub zero_group : Code → Group
zero_group G =
    record {
      items = G.n;
      blocks = 1;
      size = λ a i. G.w;
      slots = λ a i y. 2;
      slot = λ a i y l. slot3 (code_sizes G) a y l ∷ [];
    }

abbrev pub next_group : Code → Group
next_group G =
    record {
      items = G.n;
      blocks = G.w;
      size = λ a i. 2 * i;
      slots = λ a i y. slots4 i y;
      slot = λ a i y l. slot4 (code_sizes G) a i y l ∷ [];
    }

abbrev pub pair_group : Code → Group
pair_group G =
    record {
      items = pair_total G;
      blocks = G.w + G.w;
      size = λ k i. chain_size (chain_bit G.w i);
      slots = λ k i y. chain_slots (chain_bit G.w i) y;
      slot = λ k i y l. slot5 (code_sizes G) k (pair_body G k) (pair_head G k) i y l ∷ [];
    }

abbrev pub rule_group : Code → Group
rule_group G =
    record {
      items = rule_count G;
      blocks = 1;
      size = λ r i. size6 G.w (inner_count G r);
      slots = λ r i y. slots6 (inner_count G r) y;
      slot = λ r i y l. slot6 (code_sizes G) r (head_of G r) (before G r) (inner_count G r) y l ∷ [];
    }

abbrev pub founded_group : Code → Group
founded_group G =
    record {
      items = G.n;
      blocks = 1;
      size = λ a i. 1;
      slots = λ a i y. suc (rule_count G);
      slot = λ a i y l. of_head (heads_of G) a (founds_var (code_sizes G)) l;
    }

-- ---- all groups, by their number

abbrev pub group_count : ℕ
group_count = 7

unfoldable pub group_of : Code → ℕ → Group
group_of G g =
    cond (eqb g 1) (body_group G)
    (cond (eqb g 2) (head_group G)
    (cond (eqb g 3) (zero_group G)
    (cond (eqb g 4) (next_group G) (cond (eqb g 5) (pair_group G) (cond (eqb g 6) (rule_group G) (founded_group G))))))

unfoldable pub item_count : Code → ℕ → ℕ
item_count G g = (group_of G g).items

unfoldable pub block_count : Code → ℕ → ℕ
block_count G g = (group_of G g).blocks

unfoldable pub size : Code → ℕ → ℕ → ℕ → ℕ
size G g a i = (group_of G g).size a i

unfoldable pub slots : Code → ℕ → ℕ → ℕ → ℕ → ℕ
slots G g a i y = (group_of G g).slots a i y

unfoldable pub slot : Code → ℕ → ℕ → ℕ → ℕ → ℕ → List Literal
slot G g a i y l = (group_of G g).slot a i y l

abbrev pub clause_at : Code → ℕ → ℕ → ℕ → ℕ → Clause
clause_at G g a i y = each (slots G g a i y) (slot G g a i y)

abbrev pub block : Code → ℕ → ℕ → ℕ → List Clause
block G g a i = tab (size G g a i) (clause_at G g a i)

abbrev pub group : Code → ℕ → List Clause
group G g = each (item_count G g) (λ a. each (block_count G g) (block G g a))

unfoldable pub walked : Code → List Clause
walked G = each group_count (group G)

-- ---- the places

pub record BlockAt (G : Code) (g a i : ℕ) : Type 0 where
  pub group_some : 0 < g
  pub group_in : g ≤ group_count
  pub item_some : 0 < a
  pub item_in : a ≤ item_count G g
  pub block_some : 0 < i
  pub block_in : i ≤ block_count G g

pub record At (G : Code) (g a i y : ℕ) : Type 0 where
  pub block_at : BlockAt G g a i
  pub clause_some : 0 < y
  pub clause_in_lem : y ≤ size G g a i
