-- What each family asks and writes, for a code in its tables (Tabled G ..); s are the bytes of the set, ls those of the levels.
--   body_unmet, body_is           the body of a rule, list by list
--   founds_is                     whether a rule founds its head
--   is_byte                       a truth value as a byte
--   levels_family                 the bits of the levels of the first atoms
--   truth_row, truths_room, truths_long, truths_as    truth values of any kind, one after the other
--   rules_of                      as many as there are rules
--   families_room, families_written, values_written    the families one after the other
--   levels_long, filled_is        with the levels of the stages
-- Assumes nothing.
use Prim.Native.Nat.{ℕ, suc, ◌+◌, ◌≤◌}
use native.Mathlib.Numerals.{add-one}
use native.Mathlib.Omega.{arith}
use mathlib.Core.Path.{◌≡◌, refl, sym, ◌∙◌, ap, ap₂, subst}
use mathlib.Core.Bool.{Bool, true, false, ◌&&◌, So}
use mathlib.Core.List.{List, ◌++◌}
use mir.Val.{bool_byte}
use lib.Dec.{ltb}
use lib.ListN.{length, take, drop, length-append}
use Rattle.lists.specs.Lists.{all, tab, each}
use Rattle.lists.proofs.Tables.{length_tab}
use Rattle.meaning.specs.Program.{Rule, Atoms, is_atom, none_in, body_true}
use Rattle.encoding.specs.Code.{Code, rl, inner, level_of, code_fill}
use Rattle.theory.proofs.Atoms.{RuleIn}
use Rattle.clause_tables.specs.declared.Totals.{Totals}
use Rattle.clause_tables.specs.Tables.{Tabled}
use Rattle.clause_table_laws.proofs.Elements.{ranges, inner_all, rules_are, atoms_are, width_are, vars_are}
use Rattle.truth_literals.specs.Values.{value_in}
use Rattle.level_lists.specs.Bytes.{set_in, level_byte}
use Rattle.level_lists.proofs.Rules.{none_is, all_is}
use Rattle.level_stages.proofs.OneRound.{tab_byte}
use Rattle.answer_offers.specs.Offered.{value_bytes}
use Rattle.level_bits.specs.Bits.{byte_of, truth_bytes, level_bytes}
use Rattle.level_bits.proofs.Pairs.{levels_taken}
use Rattle.level_fill.specs.Values.{founds_at, family_bytes, filled_with}
use Rattle.level_fill.proofs.Whole.{filled_same, filled_fill, values_are, values_length}
use Rattle.digits.specs.Bytes.{Room, Wrote}
use Rattle.digits.proofs.Wrote.{wrote_as, rows_whole}

-- ---- one rule

module _ {n : ℕ} {R : Rule} (I : RuleIn n R) (s : List ℕ) {u : Bool} (e : u ≡ all (value_in s) R.positive) where
  pub body_unmet : u ≡ false → false ≡ body_true (set_in n s) R
  body_unmet z = sym (ap (λ (b : Bool). b && none_in (set_in n s) R.negative) (sym (all_is n s R.positive I.positive_in) ∙ sym e ∙ z))

  pub body_is : {v : Bool} → u ≡ true → v ≡ none_in (value_in s) R.negative → v ≡ body_true (set_in n s) R
  body_is z f =
      f ∙ none_is n s R.negative I.negative_in
      ∙ sym (ap (λ (b : Bool). b && none_in (set_in n s) R.negative) (sym (all_is n s R.positive I.positive_in) ∙ sym e ∙ z))

module _ {G : Code} {t : Totals} {hs ss bs ks xs ys : List ℕ} (T : Tabled G t hs ss bs ks xs ys) (M : Atoms) (ls : List ℕ) (r : ℕ) {u : Bool} (e : u ≡ body_true M (rl G r)) where
  pub founds_is : {v : Bool} {h y : ℕ} → u ≡ true → h ≡ (rl G r).head → y ≡ level_byte ls h → v ≡ all (λ b. ltb (level_byte ls b) y) (rl G r).positive
      → v ≡ founds_at G M (level_byte ls) r
  founds_is z q l f =
      f ∙ ap₂ (λ (y : ℕ) (cs : List ℕ). all (λ b. ltb (level_byte ls b) y) cs) (l ∙ ap (level_byte ls) q) (sym (inner_all G T.limits r))
      ∙ sym (ap (λ (b : Bool). b && all (λ b. ltb (level_byte ls b) (level_byte ls (rl G r).head)) (inner G r)) (sym e ∙ z))

-- a truth value as a byte
pub is_byte : (b : Bool) → bool_byte b ≡ byte_of b
is_byte true = refl
is_byte false = refl

-- number k + 1, whose test is x and its byte v
pub truth_row : (p : ℕ → Bool) (k : ℕ) {x : Bool} {v : ℕ} → x ≡ p (k + 1) → v ≡ byte_of x → v ≡ byte_of (p (suc k))
truth_row p k e f = f ∙ ap byte_of (e ∙ ap p (add-one k))

-- the room that n truth values take
pub truths_room : (n : ℕ) (p : ℕ → Bool) (b : List ℕ) → n ≤ length b → Room (truth_bytes n p) b
truths_room n p b h = omega (arith, h, length_tab n (λ i. byte_of (p i)))

pub truths_long : (n : ℕ) (p : ℕ → Bool) (b : List ℕ) {m : ℕ} → m ≡ n → Room (truth_bytes n p) b → m ≤ length b
truths_long n p b e h = omega (arith, e, h, length_tab n (λ i. byte_of (p i)))

-- the levels of the first n atoms
pub levels_family : (ls : List ℕ) (d : ℕ) {m n v w : ℕ} → m ≡ n → v ≡ w → n ≤ length ls
    → level_bytes (length (take m ls)) v d (level_byte (take m ls)) ≡ level_bytes n w d (level_byte ls)
levels_family ls d {m} {n} {v} {w} e f h = ap₂ (λ (k u : ℕ). level_bytes (length (take k ls)) u d (level_byte (take k ls))) e f ∙ levels_taken n w d ls h

-- as many truth values as there are
pub truths_as : {n m r : ℕ} {b e : List ℕ} (p : ℕ → Bool) → m ≡ n → Wrote (truth_bytes m p) b e r → Wrote (truth_bytes n p) b e r
truths_as p e W = wrote_as (ap (λ (m : ℕ). truth_bytes m p) e) W

-- ---- of the tables

module _ {G : Code} {t : Totals} {hs ss bs ks xs ys : List ℕ} (T : Tabled G t hs ss bs ks xs ys) where
  atoms : t.sizes.n ≡ G.n
  atoms = atoms_are G t hs ss bs ks xs ys T

  pub rules_of : {m : ℕ} → m ≡ t.sizes.m → m ≡ length G.rules
  rules_of e = e ∙ rules_are G t hs ss bs ks xs ys T

  -- ---- all families, with w the width
  module _ (s ls : List ℕ) {w : ℕ} (q : w ≡ t.sizes.w) where
    abbrev M : Atoms
    M = set_in t.sizes.n s

    families_are : value_bytes (filled_with G M (level_byte ls)) ≡ each 6 (family_bytes G t.sizes.n w M (level_byte ls))
    families_are =
        values_are G M (level_byte ls)
        ∙ ap₂ (λ (n v : ℕ). each 6 (family_bytes G n v M (level_byte ls))) (sym atoms) (sym (q ∙ width_are G t hs ss bs ks xs ys T))

    families_length : length (each 6 (family_bytes G t.sizes.n w M (level_byte ls))) ≡ t.vars
    families_length =
        ap length (sym families_are) ∙ values_length G M (level_byte ls) ∙ sym (vars_are G t hs ss bs ks xs ys T)

    pub families_room : (b : List ℕ) → t.vars ≤ length b → Room (each 6 (family_bytes G t.sizes.n w M (level_byte ls))) b
    families_room b h = omega (arith, families_length, h)

    pub families_written : {b e : List ℕ} {k to : ℕ} → k ≤ 6 → 6 ≤ k → Wrote (each k (family_bytes G t.sizes.n w M (level_byte ls))) b e to
        → Wrote (value_bytes (filled_with G M (level_byte ls))) b e to
    families_written h l W = wrote_as (sym families_are) (rows_whole (family_bytes G t.sizes.n w M (level_byte ls)) h l W)

    -- all of them, where bs are the values that they stand for
    pub values_written : {bs : List Bool} {b e : List ℕ} {r : ℕ} → filled_with G M (level_byte ls) ≡ bs → Wrote (value_bytes (filled_with G M (level_byte ls))) b e r
        → e ≡ value_bytes bs ++ drop t.vars b
    values_written {b = b} v W =
        W.bytes ∙ ap₂ (λ (vs : List Bool) (k : ℕ). value_bytes vs ++ drop k b) v (W.count ∙ ap length families_are ∙ families_length)

  -- ---- with the levels of the stages
  module _ (s rest : List ℕ) {ls : List ℕ} (q : ls ≡ tab t.sizes.n (level_of G (set_in t.sizes.n s)) ++ rest) where
    pub levels_long : t.sizes.n ≤ length ls
    levels_long =
        omega (
          arith,
          ap length q,
          length-append (tab t.sizes.n (level_of G (set_in t.sizes.n s))) rest,
          length_tab t.sizes.n (level_of G (set_in t.sizes.n s)),
        )

    pub filled_is : filled_with G (set_in t.sizes.n s) (level_byte ls) ≡ code_fill G (set_in t.sizes.n s)
    filled_is =
        filled_same G (ranges G T.limits) (set_in t.sizes.n s) (level_byte ls) (level_of G (set_in t.sizes.n s))
        (λ a u. ap (λ (l : List ℕ). level_byte l a) q
        ∙ tab_byte t.sizes.n (level_of G (set_in t.sizes.n s)) rest a (subst (λ (n : ℕ). So (is_atom n a)) (sym atoms) u))
        ∙ filled_fill G (set_in t.sizes.n s)
