-- The turns of the rules of a code in its tables, and its rounds (Tabled G ..); s are the bytes of the set, ls those of the levels.
--   Turned, Staged            what holds within a round, and between rounds
--   headed, unmet, fired      one rule's turn
--   begins, goes, ends        a round
--   first_round, next_round, last_round, rounds_over    the rounds
--   zeroed                    the bytes zeroed first
--   difference_is             the first difference is that of set and least model
--   stable_read               there is none exactly if the set is a stable model
--   own_tail                  bytes that begin with a table, by their own rest
-- Assumes nothing.
use Prim.Native.Nat.{ℕ, pred, ◌+◌, ◌-◌, ◌≤◌, ◌<◌}
use native.Mathlib.Omega.{arith}
use mathlib.Core.Path.{◌≡◌, refl, sym, ◌∙◌, ap, subst, fun_ext}
use mathlib.Core.Logic.{◌↔◌}
use mathlib.Core.Bool.{Bool, true, false, ◌||◌, So}
use mathlib.Core.List.{List, ◌++◌}
use lib.ListN.{length, get_or, take, drop, set}
use lib.Seq.{drop_at}
use Rattle.encoding.specs.Code.{Code, program_of, level_of}
use Rattle.lists.specs.Lists.{all, any, tab}
use Rattle.lists.proofs.Tables.{length_tab}
use Rattle.meaning.specs.Program.{Atoms, rule_at, is_atom, rule_fits}
use Rattle.meaning.specs.Stage.{Stable, reduct, level_in, level, differ}
use Rattle.theory.proofs.Atoms.{RuleIn}
use Rattle.theory.proofs.Decided.{decided}
use Rattle.theory.proofs.Whole.{level_whole}
use Rattle.truth_literals.specs.Values.{value_in}
use Rattle.lists.proofs.Bools.{and_left}
use Rattle.clause_tables.specs.declared.Totals.{Totals}
use Rattle.clause_tables.specs.Tables.{Limited, Tabled}
use Rattle.clause_table_laws.proofs.Elements.{rules_are, atoms_are, all_fit_lem, limited_whole}
use Rattle.level_lists.specs.Bytes.{set_in, level_byte, enters}
use Rattle.level_stages.specs.Levels.{fires, fired_bytes, first_difference}
use Rattle.level_lists.proofs.Rules.{its_head_is, rule_atoms}
use Rattle.level_stages.proofs.OneRound.{turn_headed, turn_unmet, turn_fired, bytes_after, round_none, round_more, given_more, round_all}
use Rattle.level_stages.proofs.Levels.{zeros_are, round_levels, rested, levels_last, unlike_differ}

-- in round i, which began with the bytes ls, k rules had their turn: the bytes are cs, and g says whether a level was given
pub record Turned (G : Code) (t : Totals) (s ls : List ℕ) (i k : ℕ) (cs : List ℕ) (g : Bool) : Type 0 where
  pub within : k ≤ t.sizes.m
  pub same : length cs ≡ length ls
  pub bytes : cs ≡ bytes_after t.sizes.n (set_in t.sizes.n s) ls i (take k G.rules)
  pub flag : g ≡ any (fires (set_in t.sizes.n s) ls i) (take k G.rules)

-- a buffer that was e holds in cs the levels within stage i
pub record Staged (G : Code) (t : Totals) (s e : List ℕ) (i : ℕ) (cs : List ℕ) : Type 0 where
  pub within : i ≤ t.sizes.n
  pub same : length cs ≡ length e
  pub bytes : cs ≡ tab t.sizes.n (level_in i (reduct (program_of G) (set_in t.sizes.n s))) ++ drop t.sizes.n e

-- the bytes after a table
tail_is : (n : ℕ) (f : ℕ → ℕ) (rest : List ℕ) {ls : List ℕ} → ls ≡ tab n f ++ rest → drop n ls ≡ rest
tail_is n f rest q = ap (drop n) q ∙ drop_at (tab n f) rest n (length_tab n f)

pub own_tail : (n : ℕ) (f : ℕ → ℕ) (rest : List ℕ) {ls : List ℕ} → ls ≡ tab n f ++ rest → ls ≡ tab n f ++ drop n ls
own_tail n f rest q = q ∙ ap (λ (l : List ℕ). tab n f ++ l) (sym (tail_is n f rest q))

-- the levels of a limited code are those of its program
pub code_level : {G : Code} → Limited G → (M : Atoms) (a : ℕ) → level_of G M a ≡ level (program_of G) M a
code_level {G} L M a = ap (λ (H : Code). level_of H M a) (limited_whole L) ∙ level_whole (program_of G) G.w M a

module _ {G : Code} {t : Totals} {hs ss bs ks xs ys : List ℕ} (T : Tabled G t hs ss bs ks xs ys) (s : List ℕ) where
  abbrev M : Atoms
  M = set_in t.sizes.n s

  -- ---- one rule's turn
  module _ (ls : List ℕ) (i r : ℕ) (p : 0 < r) (h : r ≤ t.sizes.m) {a x : ℕ} (q : a ≡ get_or hs (r - 1) 0) (l : x ≡ level_byte ls a) where
    abbrev Turn : Bool → List ℕ → Type 0
    Turn v cs = (v ≡ fires M ls i (rule_at G.rules r)) × (cs ≡ fired_bytes M i (rule_at G.rules r) ls)

    pub headed : (x ≡ 0 → ⊥) → Turn false ls
    headed = turn_headed M i (rule_at G.rules r) ls (its_head_is T r p h q) l

    pub unmet : {e : Bool} → x ≡ 0 → e ≡ enters M ls i (rule_at G.rules r) → e ≡ false → Turn false ls
    unmet = turn_unmet M i (rule_at G.rules r) ls (its_head_is T r p h q) l

    pub fired : {e : Bool} {cs : List ℕ} → x ≡ 0 → e ≡ enters M ls i (rule_at G.rules r) → e ≡ true → cs ≡ set ls (pred a) i → Turn true cs
    fired = turn_fired M i (rule_at G.rules r) ls (its_head_is T r p h q) l

  -- ---- a round
  module _ (ls : List ℕ) (i : ℕ) where
    pub begins : t.sizes.n ≤ length ls → Turned G t s ls i 0 ls false
    begins h = record { within = omega arith; same = refl; bytes = round_none t.sizes.n M ls i h; flag = refl }

    module _ {k : ℕ} {cs : List ℕ} {g : Bool} (B : Turned G t s ls i k cs g) where
      pub goes : {ds : List ℕ} {x y : Bool} → 0 < i → k < t.sizes.m → length ds ≡ length cs
          → (x ≡ fires M cs i (rule_at G.rules (k + 1))) × (ds ≡ fired_bytes M i (rule_at G.rules (k + 1)) cs) → y ≡ (g || x) → Turned G t s ls i (k + 1) ds y
      goes {ds} {x} {y} z h l turn e =
          record {
            within = omega (arith, h);
            same = l ∙ B.same;
            bytes = round_more t.sizes.n M ls i z G.rules k inside here B.bytes turn;
            flag = given_more t.sizes.n M ls i z G.rules k inside here B.bytes turn B.flag e;
          }
        where
          inside : k < length G.rules
          inside = subst (λ (m : ℕ). k < m) (rules_are G t hs ss bs ks xs ys T) h

          here : RuleIn t.sizes.n (rule_at G.rules (k + 1))
          here = rule_atoms T (k + 1) (omega arith) (omega (arith, h))

      pub ends : t.sizes.m ≤ k → (g ≡ any (fires M ls i) G.rules) × (cs ≡ bytes_after t.sizes.n M ls i G.rules)
      ends h = round_all t.sizes.n M ls i G.rules k (subst (λ (m : ℕ). m ≤ k) (rules_are G t hs ss bs ks xs ys T) h) B.bytes B.flag

  -- ---- the rounds, on a buffer that was e
  fit : So (all (rule_fits t.sizes.n) G.rules)
  fit = subst (λ (n : ℕ). So (all (rule_fits n) G.rules)) (sym (atoms_are G t hs ss bs ks xs ys T)) (all_fit_lem G T.limits)

  module _ (e : List ℕ) where
    abbrev Done : List ℕ → Type 0
    Done cs = cs ≡ tab t.sizes.n (level_of G M) ++ drop t.sizes.n e

    whole : {cs : List ℕ} → cs ≡ tab t.sizes.n (level_in t.sizes.n (reduct (program_of G) M)) ++ drop t.sizes.n e → Done cs
    whole q =
        q ∙ ap (λ (n : ℕ). tab t.sizes.n (level_in n (reduct (program_of G) M)) ++ drop t.sizes.n e) (atoms_are G t hs ss bs ks xs ys T)
        ∙ ap (λ (ℓ : ℕ → ℕ). tab t.sizes.n ℓ ++ drop t.sizes.n e) (sym (fun_ext (code_level T.limits M)))

    pub first_round : e ≡ tab t.sizes.n (λ a. 0) ++ drop t.sizes.n e → Staged G t s e 0 e
    first_round q = record { within = omega arith; same = refl; bytes = zeros_are t.sizes.n (program_of G) fit M (drop t.sizes.n e) q }

    module _ {i : ℕ} {cs : List ℕ} (B : Staged G t s e i cs) where
      module _ {ds : List ℕ} {g : Bool} (h : i < t.sizes.n)
          (q : (g ≡ any (fires M cs (i + 1)) G.rules) × (ds ≡ bytes_after t.sizes.n M cs (i + 1) G.rules)) where
        pub next_round : length ds ≡ length cs → Staged G t s e (i + 1) ds
        next_round l =
            record { within = omega (arith, h); same = l ∙ B.same; bytes = round_levels t.sizes.n (program_of G) fit M (drop t.sizes.n e) i B.bytes q.1 }

        pub last_round : g ≡ false → Done ds
        last_round z = whole (rested t.sizes.n (program_of G) fit M (drop t.sizes.n e) i B.bytes h q.1 q.0 z)

      pub rounds_over : t.sizes.n ≤ i → Done cs
      rounds_over h = whole (levels_last t.sizes.n (program_of G) fit M (drop t.sizes.n e) i B.within h B.bytes)

    -- e was zeroed before, to ds
    pub zeroed : {ds : List ℕ} → ds ≡ tab t.sizes.n (λ a. 0) ++ drop t.sizes.n e → ds ≡ tab t.sizes.n (λ a. 0) ++ drop t.sizes.n ds
    zeroed = own_tail t.sizes.n (λ a. 0) (drop t.sizes.n e)

  -- ---- the first difference
  as_program : (n : ℕ) (ls rest : List ℕ) → ls ≡ tab n (level_of G (set_in n s)) ++ rest → ls ≡ tab n (level (program_of G) (set_in n s)) ++ rest
  as_program n ls rest q = q ∙ ap (λ (ℓ : ℕ → ℕ). tab n ℓ ++ rest) (fun_ext (code_level T.limits (set_in n s)))

  pub difference_is : (ls rest : List ℕ) → ls ≡ tab t.sizes.n (level_of G M) ++ rest → first_difference t.sizes.n s ls ≡ differ (program_of G) M
  difference_is ls rest q =
      subst (λ (n : ℕ). ls ≡ tab n (level_of G (set_in n s)) ++ rest → first_difference n s ls ≡ differ (program_of G) (set_in n s)) (sym (atoms_are G t hs ss bs ks xs ys T))
      (λ q. unlike_differ (program_of G) s ls rest (as_program G.n ls rest q)) q

  -- there is none exactly if the set is a stable model
  pub stable_read : (ls rest : List ℕ) → ls ≡ tab t.sizes.n (level_of G M) ++ rest → (first_difference t.sizes.n s ls ≡ 0) ↔ Stable (program_of G) M
  stable_read ls rest q =
      let d = decided (program_of G) T.limits.within.all_atoms M (λ a u. subst (λ (n : ℕ). So (is_atom n a)) (atoms_are G t hs ss bs ks xs ys T) (and_left (is_atom t.sizes.n a) (value_in s a) u)) in
      (λ e. d.0 (sym (difference_is ls rest q) ∙ e), λ u. difference_is ls rest q ∙ d.1 u)
