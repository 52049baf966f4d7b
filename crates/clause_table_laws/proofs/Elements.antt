-- What the tables of a program hold, by number. Arrays count from 0 as the code does; rules, pairs and atoms count from 1.
-- Of a code that is limited (Limited G):
--   ranges                            its atoms are in range
--   inner_all, inner_positives        the inner body atoms of a rule are its positive ones
--   head_atom, head_in                the head of rule r is from 1 to the number of atoms, and to 126
--   pairs_fit, before_fits            there are at most 500 pairs; those before a rule and its own are among them
--   body_fits                         a rule has at most 500 body atoms
--   pair_body_in, pair_head_in        the atoms of a pair are from 1 to 126
-- Of its tables (Tabled G ..):
--   rules_fit, rules_are, atoms_are, width_are, atoms_fit, bounded, width_pos, pairs_are, vars_are, clauses_are    the totals
--   heads_length, starts_length, bodies_length, before_length, partners_length, owners_length    the lengths of the arrays
--   heads_taken, head_is              the heads
--   start_first (Listed)              where the body atoms of rule r begin, where its negative ones do, and where they end; its body atoms
--   before_is                         how many pairs stand before rule r
--   partner_is, owner_is              body atom and head of pair k
--   partner_in, owner_in              both are from 1 to 126
-- Of arrays:
--   program_in_is                     the sizes and the three arrays kept of a program hold it
--   kept_stored                       the arrays kept of a program are Stored
-- Of document 01's code:
--   program_limited                   that of a program within the limits is limited
--   limited_whole                     a limited code is document 01's, but for its width
-- Assumes nothing.
use Prim.Native.Nat.{ℕ, zero, suc, pred, ◌+◌, ◌-◌, ◌*◌, ◌≤◌, ◌<◌}
use native.Mathlib.Nat.{not-suc-le-zero, le_of_suc-le-suc, zero-add, add-zero, le_trans}
use native.Mathlib.Omega.{arith}
use mathlib.Core.Path.{◌≡◌, refl, sym, ◌∙◌, ap, ap₂, subst, fun_ext}
use mathlib.Core.Bool.{◌&&◌, So}
use mathlib.Core.List.{List, [], ◌∷◌, ◌++◌, map, append_assoc}
use lib.ListN.{length, get_or, take, drop, replicate, length-append, length-map}
use lib.Seq.{take_at, drop_at}
use Rattle.lists.specs.Lists.{all, tab, sum}
use Rattle.lists.proofs.Bools.{and_left}
use Rattle.lists.proofs.Tests.{all_at}
use Rattle.lists.proofs.Tables.{sum_mono, length_tab, get_or_tab, get_d_map, keep_all}
use Rattle.meaning.specs.Program.{Rule, Program, no_rule, is_atom, rule_fits, well_formed}
use Rattle.encoding.specs.Clauses.{no_pair}
use Rattle.encoding.specs.Code.{Code, whole, code_of, program_of, rl, inner, pair_list, pair_total, pair_body, pair_head, before, variables_of, clause_total_of}
use Rattle.theory.proofs.Atoms.{atom_pos, atom_le, rule_in_lem}
use Rattle.theory.proofs.Numbered.{Ranges}
use Rattle.theory.proofs.Pairs.{pair_count_lem, pairs_few, body_in, head_in as owner-range}
use Rattle.theory.proofs.Widths.{width_is, width_some}
use Rattle.clause_literals.specs.Sizes.{Bounded}
use Rattle.clause_literals.proofs.Products.{one_before}
use Rattle.clause_walk.specs.Walk.{heads_of, head_of, positives, inner_count, body_of, body_count}
use Rattle.clause_walk.proofs.Tabs.{head_is as its_head}
use Rattle.program.specs.declared.Program.{Program as Arrays}
use Rattle.program.specs.Arrays.{pad, ends_of, kept}
use Rattle.text.specs.Limits.{bodies_of}
use Rattle.program.specs.Arrays.{rule_in, rules_from, decoded}
use Rattle.text.specs.Limits.{Limits}
use Rattle.program.proofs.Decode.{decoded_kept}
use Rattle.program.proofs.Pads.{length_pad}
use Rattle.clause_tables.specs.declared.Totals.{Totals}
use Rattle.clause_tables.specs.Tables.{Stored, Limited, Tabled, program_in, totals_of}
use Rattle.clause_tables.proofs.Sizes.{pairs_few as positives-few}

-- ---- lists filled up with zeros

none_there : (m k : ℕ) → ◌≡◌ {A = ℕ} (get_or (replicate m 0) k 0) 0
none_there zero k = refl
none_there (suc m) zero = refl
none_there (suc m) (suc k) = none_there m k

behind_zeros : (xs : List ℕ) (m k : ℕ) → get_or (xs ++ replicate m 0) k 0 ≡ get_or xs k 0
behind_zeros [] m k = none_there m k
behind_zeros (x ∷ xs) m zero = refl
behind_zeros (x ∷ xs) m (suc k) = behind_zeros xs m k

pub get_or_pad : (n : ℕ) (xs : List ℕ) (k : ℕ) → get_or (pad n xs) k 0 ≡ get_or xs k 0
get_or_pad n xs k = behind_zeros xs (n - length xs) k

-- ---- the lists of rules

-- how many body atoms stand before the rule with i rules before it
abbrev behind : List Rule → ℕ → ℕ
behind [] i = 0
behind (R ∷ rs) zero = 0
behind (R ∷ rs) (suc i) = length R.positive + length R.negative + behind rs i

ends_length : (j : ℕ) (rs : List Rule) → length (ends_of j rs) ≡ 2 * length rs
ends_length j [] = refl
ends_length j (R ∷ rs) = omega (arith, ends_length (j + length R.positive + length R.negative) rs)

-- the starts from that of rule R on, after k body atoms and before the rules rs
abbrev starts_from : ℕ → Rule → List Rule → List ℕ
starts_from k R rs = k ∷ ends_of k (R ∷ rs)

starts_at : (d j : ℕ) (rs : List Rule) (i : ℕ) → i < length rs
    → get_or (j ∷ ends_of j rs) (2 * i + d) 0 ≡ get_or (starts_from (j + behind rs i) (get_or rs i no_rule) (drop (suc i) rs)) d 0
starts_at d j [] i h = absurd (not-suc-le-zero h)
starts_at d j (R ∷ rs) zero h =
    ap (λ (k : ℕ). get_or (starts_from j R rs) k 0) (zero-add d) ∙ ap (λ (k : ℕ). get_or (starts_from k R rs) d 0) (sym (add-zero j))
starts_at d j (R ∷ rs) (suc i) h =
    ap (λ (k : ℕ). get_or (starts_from j R rs) k 0) (next i)
    ∙ starts_at d (j + length R.positive + length R.negative) rs i (le_of_suc-le-suc h)
    ∙ ap (λ (k : ℕ). get_or (starts_from k (get_or rs i no_rule) (drop (suc i) rs)) d 0) (sums j (length R.positive) (length R.negative) (behind rs i))
  where
    next : (i : ℕ) → 2 * suc i + d ≡ suc (suc (2 * i + d))
    next i = omega arith

    sums : (j a b c : ℕ) → j + a + b + c ≡ j + (a + b + c)
    sums j a b c = omega arith

-- its body atoms stand there
record Within (rs : List Rule) (i : ℕ) : Type 0 where
  front : List ℕ
  back : List ℕ
  whole : bodies_of rs ≡ front ++ (((get_or rs i no_rule).positive ++ (get_or rs i no_rule).negative) ++ back)
  place : length front ≡ behind rs i

within : (rs : List Rule) (i : ℕ) → i < length rs → Within rs i
within [] i h = absurd (not-suc-le-zero h)
within (R ∷ rs) zero h = record { front = []; back = bodies_of rs; whole = simp append_assoc; place = refl }
within (R ∷ rs) (suc i) h =
    let q = within rs i (le_of_suc-le-suc h) in
    record {
      front = (R.positive ++ R.negative) ++ q.front;
      back = q.back;
      whole = ap (λ (xs : List ℕ). R.positive ++ (R.negative ++ xs)) q.whole ∙ simp append_assoc;
      place = length-append (R.positive ++ R.negative) q.front ∙ ap₂ ◌+◌ (length-append R.positive R.negative) q.place;
    }

-- ---- of a program within the limits

module _ (G : Code) (L : Limited G) where
  -- each rule holds atoms alone
  pub all_fit_lem : So (all (rule_fits G.n) G.rules)
  unfolding well_formed
  all_fit_lem = L.within.all_atoms

  rule_fits_lem : (i : ℕ) → i < length G.rules → So (rule_fits G.n (get_or G.rules i no_rule))
  rule_fits_lem i h = all_at (rule_fits G.n) G.rules no_rule all_fit_lem i h

  pub head_atom : (r : ℕ) → 0 < r → r ≤ length G.rules → (0 < head_of G r) × (head_of G r ≤ G.n)
  head_atom zero p h = absurd (omega arith)
  head_atom (suc i) p h =
      let R = get_or G.rules i no_rule in
      let e = its_head G.rules (suc i) in
      let t = and_left (is_atom G.n R.head) (all (is_atom G.n) R.positive && all (is_atom G.n) R.negative) (rule_fits_lem i h) in
      (omega (arith, e, atom_pos G.n R.head t), omega (arith, e, atom_le G.n R.head t))

  pub head_in : (r : ℕ) → 0 < r → r ≤ length G.rules → (0 < head_of G r) × (head_of G r ≤ 126)
  head_in r p h = let q = head_atom r p h in (q.0, omega (arith, q.1, L.within.few_atoms))

  -- ---- the pairs

  pub ranges : Ranges G
  ranges =
      record {
        head_in = λ r h. (rule_in_lem G.n G.rules all_fit_lem r h).head_in;
        positive_in = λ r h. (rule_in_lem G.n G.rules all_fit_lem r h).positive_in;
        negative_in = λ r h. (rule_in_lem G.n G.rules all_fit_lem r h).negative_in;
      }

  pub inner_all : (r : ℕ) → inner G r ≡ (rl G r).positive
  unfolding inner
  inner_all r = keep_all (λ b. G.inside b (rl G r).head) (rl G r).positive (λ b. L.all_inside b (rl G r).head)

  pub inner_positives : (r : ℕ) → inner_count G r ≡ positives G r
  inner_positives r = ap length (inner_all r)

  sum_is : (r : ℕ) → before G (suc r) ≡ sum r (inner_count G)
  unfolding before
  sum_is r = refl

  pub before_fits : (r : ℕ) → 0 < r → r ≤ length G.rules → before G r + inner_count G r ≤ pair_total G
  before_fits zero p h = absurd (omega arith)
  before_fits (suc i) p h = omega (arith, pair_count_lem G, sum_is i, sum_mono (length G.rules) (inner_count G) i h)

  pub pairs_fit : pair_total G ≤ 500
  pairs_fit = omega (arith, pairs_few G, positives-few (program_of G), L.within.few_bodies)

  pub pair_body_in : (k : ℕ) → 0 < k → k ≤ pair_total G → (0 < pair_body G k) × (pair_body G k ≤ 126)
  pair_body_in zero p h = absurd (omega arith)
  pair_body_in (suc k) p h =
      let t = body_in G ranges k h in (atom_pos G.n (pair_body G (suc k)) t, le_trans (atom_le G.n (pair_body G (suc k)) t) L.within.few_atoms)

  pub pair_head_in : (k : ℕ) → 0 < k → k ≤ pair_total G → (0 < pair_head G k) × (pair_head G k ≤ 126)
  pair_head_in zero p h = absurd (omega arith)
  pair_head_in (suc k) p h =
      let t = owner-range G ranges k h in (atom_pos G.n (pair_head G (suc k)) t, le_trans (atom_le G.n (pair_head G (suc k)) t) L.within.few_atoms)

  -- ---- the body atoms

  behind_fits : (i : ℕ) → i < length G.rules
      → behind G.rules i + length (get_or G.rules i no_rule).positive + length (get_or G.rules i no_rule).negative ≤ 500
  behind_fits i h =
      let R = get_or G.rules i no_rule in
      let q = within G.rules i h in
      omega (
        arith,
        L.within.few_bodies,
        ap length q.whole,
        length-append q.front ((R.positive ++ R.negative) ++ q.back),
        length-append (R.positive ++ R.negative) q.back,
        length-append R.positive R.negative,
        q.place,
      )

  pub body_fits : (r : ℕ) → 0 < r → r ≤ length G.rules → body_count G r ≤ 500
  body_fits zero p h = absurd (omega arith)
  body_fits (suc i) p h =
      omega (arith, behind_fits i h, length-append (get_or G.rules i no_rule).positive (get_or G.rules i no_rule).negative)

-- ---- of the tables

-- rule r in the arrays, with i rules before it: where its body atoms begin, where its negative ones do, and where they end
pub record Listed (G : Code) (ss bs : List ℕ) (r i : ℕ) : Type 0 where
  pub first_up : get_or ss (2 * i) 0 ≤ get_or ss (2 * i + 1) 0
  pub second_up : get_or ss (2 * i + 1) 0 ≤ get_or ss (2 * i + 2) 0
  pub end_fits : get_or ss (2 * i + 2) 0 ≤ 500
  pub positives_are : get_or ss (2 * i + 1) 0 - get_or ss (2 * i) 0 ≡ positives G r
  pub count_are : get_or ss (2 * i + 2) 0 - get_or ss (2 * i) 0 ≡ body_count G r
  pub body_are : take (get_or ss (2 * i + 2) 0 - get_or ss (2 * i) 0) (drop (get_or ss (2 * i) 0) bs) ≡ body_of G r

module _ (G : Code) (t : Totals) (hs ss bs ks xs ys : List ℕ) (T : Tabled G t hs ss bs ks xs ys) where
  abbrev L : Limited G
  L = T.limits

  -- ---- the totals

  pub rules_fit : length G.rules ≤ 500
  rules_fit = L.within.few_rules

  pub atoms_fit : G.n ≤ 126
  atoms_fit = L.within.few_atoms

  pub rules_are : t.sizes.m ≡ length G.rules
  unfolding totals_of
  rules_are = ap (λ (x : Totals). x.sizes.m) T.totals_are

  pub atoms_are : t.sizes.n ≡ G.n
  unfolding totals_of
  atoms_are = ap (λ (x : Totals). x.sizes.n) T.totals_are

  pub width_are : t.sizes.w ≡ G.w
  unfolding totals_of
  width_are = ap (λ (x : Totals). x.sizes.w) T.totals_are

  pub pairs_are : t.pairs ≡ pair_total G
  unfolding totals_of
  pairs_are = ap (λ (x : Totals). x.pairs) T.totals_are

  pub vars_are : t.vars ≡ variables_of G
  unfolding totals_of
  vars_are = ap (λ (x : Totals). x.vars) T.totals_are

  pub clauses_are : t.clauses ≡ clause_total_of G
  unfolding totals_of
  clauses_are = ap (λ (x : Totals). x.clauses) T.totals_are

  pub bounded : Bounded t.sizes
  bounded = record { atoms = omega (arith, atoms_are, atoms_fit); rules = omega (arith, rules_are, rules_fit); bits = omega (arith, width_are, L.few_bits) }

  pub width_pos : 0 < t.sizes.w
  width_pos = omega (arith, width_are, L.some_bit)

  -- ---- the arrays

  heads_pad : hs ≡ pad 500 (heads_of G)
  unfolding kept
  heads_pad = T.heads_are

  starts_pad : ss ≡ pad 1001 (0 ∷ ends_of 0 G.rules)
  unfolding kept
  starts_pad = T.starts_are

  bodies_pad : bs ≡ pad 500 (bodies_of G.rules)
  unfolding kept
  bodies_pad = T.bodies_are

  before_pad : ks ≡ pad 501 (tab (suc (length G.rules)) (before G))
  before_pad = T.before_are

  partners_pad : xs ≡ pad 500 (map (λ p. p.body) (pair_list G))
  partners_pad = T.partners_are

  owners_pad : ys ≡ pad 500 (map (λ p. p.head) (pair_list G))
  owners_pad = T.owners_are

  pub heads_length : length hs ≡ 500
  heads_length = ap length heads_pad ∙ length_pad 500 (heads_of G) (omega (arith, length-map {B = ℕ} G.rules (λ R. R.head), rules_fit))

  pub starts_length : length ss ≡ 1001
  starts_length = ap length starts_pad ∙ length_pad 1001 (0 ∷ ends_of 0 G.rules) (omega (arith, ends_length 0 G.rules, rules_fit))

  pub bodies_length : length bs ≡ 500
  bodies_length = ap length bodies_pad ∙ length_pad 500 (bodies_of G.rules) L.within.few_bodies

  pub before_length : length ks ≡ 501
  before_length =
      ap length before_pad
      ∙ length_pad 501 (tab (suc (length G.rules)) (before G)) (omega (arith, length_tab (suc (length G.rules)) (before G), rules_fit))

  pub partners_length : length xs ≡ 500
  partners_length = ap length partners_pad ∙ length_pad 500 (map (λ p. p.body) (pair_list G)) (omega (arith, length-map {B = ℕ} (pair_list G) (λ p. p.body), pairs_fit G L))

  pub owners_length : length ys ≡ 500
  owners_length = ap length owners_pad ∙ length_pad 500 (map (λ p. p.head) (pair_list G)) (omega (arith, length-map {B = ℕ} (pair_list G) (λ p. p.head), pairs_fit G L))

  -- ---- the heads

  pub heads_taken : take t.sizes.m hs ≡ heads_of G
  heads_taken =
      ap (take t.sizes.m) heads_pad
      ∙ take_at (heads_of G) (replicate (500 - length (heads_of G)) 0) t.sizes.m (length-map G.rules (λ R. R.head) ∙ sym rules_are)

  pub head_is : (r : ℕ) → 0 < r → r ≤ length G.rules → get_or hs (r - 1) 0 ≡ head_of G r
  head_is r p h = ap₂ (λ (l : List ℕ) (k : ℕ). get_or l k 0) heads_pad (one_before r) ∙ get_or_pad 500 (heads_of G) (pred r)

  -- ---- the body atoms

  start_is : (d i : ℕ) → i < length G.rules
      → get_or ss (2 * i + d) 0 ≡ get_or (starts_from (0 + behind G.rules i) (get_or G.rules i no_rule) (drop (suc i) G.rules)) d 0
  start_is d i h =
      ap (λ (l : List ℕ). get_or l (2 * i + d) 0) starts_pad ∙ get_or_pad 1001 (0 ∷ ends_of 0 G.rules) (2 * i + d) ∙ starts_at d 0 G.rules i h

  -- the three starts of a rule
  module _ (i : ℕ) (h : i < length G.rules) where
    abbrev R : Rule
    R = get_or G.rules i no_rule

    abbrev at : ℕ
    at = behind G.rules i

    start_0 : get_or ss (2 * i) 0 ≡ at
    start_0 = ap (λ (k : ℕ). get_or ss k 0) (sym (add-zero (2 * i))) ∙ start_is 0 i h ∙ zero-add at

    start_1 : get_or ss (2 * i + 1) 0 ≡ at + length R.positive
    start_1 = start_is 1 i h ∙ ap (λ (k : ℕ). k + length R.positive) (zero-add at)

    start_2 : get_or ss (2 * i + 2) 0 ≡ at + length R.positive + length R.negative
    start_2 = start_is 2 i h ∙ ap (λ (k : ℕ). k + length R.positive + length R.negative) (zero-add at)

    body_length : length (R.positive ++ R.negative) ≡ length R.positive + length R.negative
    body_length = length-append R.positive R.negative

    body_there : take (length (R.positive ++ R.negative)) (drop at bs) ≡ R.positive ++ R.negative
    body_there =
        let q = within G.rules i h in
        ap (λ (l : List ℕ). take (length (R.positive ++ R.negative)) (drop at l))
        (bodies_pad ∙ ap (λ (l : List ℕ). l ++ replicate (500 - length (bodies_of G.rules)) 0) q.whole
        ∙ append_assoc q.front ((R.positive ++ R.negative) ++ q.back) (replicate (500 - length (bodies_of G.rules)) 0)
        ∙ ap (λ (l : List ℕ). q.front ++ l) (append_assoc (R.positive ++ R.negative) q.back (replicate (500 - length (bodies_of G.rules)) 0)))
        ∙ ap (take (length (R.positive ++ R.negative))) (drop_at q.front _ at q.place)
        ∙ take_at (R.positive ++ R.negative) _ (length (R.positive ++ R.negative)) refl

    count_there : get_or ss (2 * i + 2) 0 - get_or ss (2 * i) 0 ≡ length (R.positive ++ R.negative)
    count_there = omega (arith, start_0, start_2, body_length)

    pub start_at_lem : Listed G ss bs (suc i) i
    start_at_lem =
        record {
          first_up = omega (arith, start_0, start_1);
          second_up = omega (arith, start_1, start_2);
          end_fits = omega (arith, start_2, behind_fits G L i h);
          positives_are = omega (arith, start_0, start_1);
          count_are = count_there;
          body_are = ap₂ (λ (k b : ℕ). take k (drop b bs)) count_there start_0 ∙ body_there;
        }

  pub start_first : (r : ℕ) → 0 < r → r ≤ length G.rules → Listed G ss bs r (r - 1)
  start_first zero p h = absurd (omega arith)
  start_first (suc i) p h = subst (λ (k : ℕ). Listed G ss bs (suc i) k) (sym (one_before (suc i))) (start_at_lem i h)

  -- ---- the pairs

  before_at : (i : ℕ) → i < suc (length G.rules) → get_or ks i 0 ≡ before G (suc i)
  before_at i h =
      ap (λ (l : List ℕ). get_or l i 0) before_pad ∙ get_or_pad 501 (tab (suc (length G.rules)) (before G)) i
      ∙ get_or_tab (suc (length G.rules)) (before G) 0 i h

  pub before_is : (r : ℕ) → 0 < r → r ≤ suc (length G.rules) → get_or ks (r - 1) 0 ≡ before G r
  before_is zero p h = absurd (omega arith)
  before_is (suc i) p h = ap (λ (k : ℕ). get_or ks k 0) (one_before (suc i)) ∙ before_at i h

  pub partner_is : (k : ℕ) → 0 < k → k ≤ pair_total G → get_or xs (k - 1) 0 ≡ pair_body G k
  partner_is zero p h = absurd (omega arith)
  partner_is (suc k) p h =
      ap₂ (λ (l : List ℕ) (j : ℕ). get_or l j 0) partners_pad (one_before (suc k)) ∙ get_or_pad 500 (map (λ p. p.body) (pair_list G)) k
      ∙ get_d_map (λ p. p.body) (pair_list G) no_pair 0 k h

  pub owner_is : (k : ℕ) → 0 < k → k ≤ pair_total G → get_or ys (k - 1) 0 ≡ pair_head G k
  owner_is zero p h = absurd (omega arith)
  owner_is (suc k) p h =
      ap₂ (λ (l : List ℕ) (j : ℕ). get_or l j 0) owners_pad (one_before (suc k)) ∙ get_or_pad 500 (map (λ p. p.head) (pair_list G)) k
      ∙ get_d_map (λ p. p.head) (pair_list G) no_pair 0 k h

  pub partner_in : (k : ℕ) → 0 < k → k ≤ pair_total G → (0 < get_or xs (k - 1) 0) × (get_or xs (k - 1) 0 ≤ 126)
  partner_in k p h = let q = pair_body_in G L k p h in (omega (arith, partner_is k p h, q.0), omega (arith, partner_is k p h, q.1))

  pub owner_in : (k : ℕ) → 0 < k → k ≤ pair_total G → (0 < get_or ys (k - 1) 0) × (get_or ys (k - 1) 0 ≤ 126)
  owner_in k p h = let q = pair_head_in G L k p h in (omega (arith, owner_is k p h, q.0), omega (arith, owner_is k p h, q.1))

-- ---- of arrays

-- the rules that arrays hold depend on three of them alone
same_rules : (A : Arrays) (n m k i : ℕ)
    → rules_from (record { atoms = n; rules = m; held = 0; heads = A.heads; starts = A.starts; bodies = A.bodies }) i k ≡ rules_from A i k
same_rules A n m zero i = refl
same_rules A n m (suc k) i = ap (λ (rs : List Rule). rule_in A i ∷ rs) (same_rules A n m k (suc i))

held_none : (P : Program) (w : ℕ)
    → program_in (record { n = P.atoms; m = length P.rules; w = w }) (kept P).heads (kept P).starts (kept P).bodies ≡ decoded (kept P)
unfolding decoded kept
held_none P w = ap (λ (rs : List Rule). record { atoms = P.atoms; rules = rs }) (same_rules (kept P) P.atoms (length P.rules) (length P.rules) 0)

pub program_in_is : (P : Program) (w : ℕ)
    → program_in (record { n = P.atoms; m = length P.rules; w = w }) (kept P).heads (kept P).starts (kept P).bodies ≡ P
program_in_is P w = held_none P w ∙ decoded_kept P

-- document 01's code of a program within the limits
pub program_limited : (P : Program) → Limits P → Limited (code_of P)
program_limited P L =
    record {
      within = L;
      some_bit = width_some P.atoms;
      few_bits = (width_is P.atoms).least 7 (omega (arith, L.few_atoms));
      none_open = λ a. refl;
      all_inside = λ b h. refl;
    }

pub kept_stored : (P : Program) → Limits P → Stored (kept P)
kept_stored P l = record { limits = subst (λ (X : Program). Limits X) (sym (decoded_kept P)) l; arrays_are = ap kept (sym (decoded_kept P)) }

-- a limited code is document 01's, but for its width
pub limited_whole : {G : Code} → Limited G → G ≡ whole (program_of G) G.w
limited_whole {G} L = λ i. record { n = G.n; w = G.w; rules = G.rules; opened = fun_ext L.none_open i; inside = fun_ext (λ b. fun_ext (L.all_inside b)) i }
