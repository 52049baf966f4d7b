-- The bytes of a round hold the levels of its stage; a round that gives none is the last; bytes and the least model.
--   level_stage                 stage i holds an atom exactly if its level within i is not 0
--   zeros_are                   before the first round
--   round_levels                one round more
--   rested                      after a round that gave no level
--   levels_last                 after round n
--   unlike_differ               the first atom where set and levels are unlike is the first where set and least model differ
-- Assumes nothing.
use Prim.Native.Nat.{ℕ, zero, suc, ◌+◌, ◌-◌, ◌≤◌, ◌<◌}
use native.Mathlib.Nat.{pos_of_ne-zero, add-zero, add-suc, add-sub_of_le, le_antisymm}
use native.Mathlib.Numerals.{add-one}
use native.Mathlib.Omega.{arith}
use mathlib.Core.Path.{◌≡◌, refl, sym, ◌∙◌, ap, ap₂, subst}
use mathlib.Core.Bool.{Bool, true, false, not, ◌&&◌, ◌||◌, So, cond, beq, and-true}
use mathlib.Core.List.{List, [], ◌∷◌, ◌++◌}
use lib.Dec.{eqb, ltb}
use lib.ListN.{length, get_or, drop}
use lib.Seq.{drop_at}
use borrow.Author.Tests.{eq-eqb, ne_eqb, eqb-true, lt-ltb}
use Rattle.lists.specs.Lists.{all, any, keep, tab, or_last, first}
use Rattle.lists.proofs.Bools.{and_in, and_left, and_right, not_So, same}
use Rattle.lists.proofs.Tests.{all_at, all_ext, any_at, any_in, any_is, any_map}
use Rattle.lists.proofs.Tables.{length_tab, tab_ext}
use Rattle.lists.proofs.First.{first_is, first_pos, first_ext}
use Rattle.meaning.specs.Program.{Rule, Program, Atoms, no_rule, is_atom, rule_fits, none_in}
use Rattle.meaning.specs.Stage.{Definite, definite, reduct, stage, least_model, level_in, level, differ}
use Rattle.theory.proofs.Atoms.{RuleIn, rule_in_lem, is_atom_lem}
use Rattle.theory.proofs.Stages.{stage_zero, stage_step, stage_le}
use Rattle.theory.proofs.LeastModel.{level_le}
use Rattle.truth_literals.specs.Values.{value_in}
use Rattle.level_lists.specs.Bytes.{set_in, level_byte, is_below, enters}
use Rattle.level_stages.specs.Levels.{fires, level_after, first_difference}
use Rattle.level_lists.proofs.Rules.{set_is}
use Rattle.level_stages.proofs.OneRound.{tab_byte, bytes_after}

-- ---- lists

module _ {A : Type 0} where
  any_keep : (p q : A → Bool) (xs : List A) → any q (keep p xs) ≡ any (λ x. p x && q x) xs
  any_keep p q [] = refl
  any_keep p q (x ∷ xs) = go (p x) (any_keep p q xs)
    where
      go : (b : Bool) → any q (keep p xs) ≡ any (λ x. p x && q x) xs → any q (cond b (x ∷ keep p xs) (keep p xs)) ≡ ((b && q x) || any (λ x. p x && q x) xs)
      go true e = ap (λ (c : Bool). q x || c) e
      go false e = e

  any_ext : (p q : A → Bool) (xs : List A) (d : A) → ((j : ℕ) → j < length xs → p (get_or xs j d) ≡ q (get_or xs j d)) → any p xs ≡ any q xs
  any_ext p q xs d f =
      any_is p xs ∙ ap not (all_ext (λ x. not (p x)) (λ x. not (q x)) xs d (λ j h. ap not (f j h))) ∙ sym (any_is q xs)

-- ---- stages and levels of definite rules

module _ (D : List Definite) where
  pub level_stage : (i a : ℕ) → not (eqb (level_in i D a) 0) ≡ stage D i a
  unfolding level_in
  level_stage i a = same (not (eqb (first i (λ j. stage D j a)) 0)) (stage D i a) found (held i)
    where
      found : So (not (eqb (first i (λ j. stage D j a)) 0)) → So (stage D i a)
      found t =
          let F = first_is i (λ j. stage D j a) in
          stage_le D (first i (λ j. stage D j a)) i a F.within
          (F.passes (pos_of_ne-zero (λ e. not_So (not (eqb (first i (λ j. stage D j a)) 0)) (ap not (eq-eqb (first i (λ j. stage D j a)) 0 e)) t)))

      held : (i : ℕ) → So (stage D i a) → So (not (eqb (first i (λ j. stage D j a)) 0))
      held zero t = absurd (stage_zero D a t)
      held (suc i) t =
          ap not (ne_eqb (first (suc i) (λ j. stage D j a)) 0 (λ e. absurd (omega (arith, first_pos (suc i) (λ j. stage D j a) i (omega arith) t, e))))

  level_suc : (i a : ℕ) → level_in (suc i) D a ≡ or_last (level_in i D a) (stage D (suc i) a) (suc i)
  unfolding level_in
  level_suc i a = refl

  -- stages that do not grow from i on
  module _ (i : ℕ) (f : (a : ℕ) → So (stage D (suc i) a) → So (stage D i a)) where
    all_there : (d a : ℕ) → So (stage D (i + d) a) → So (stage D i a)
    all_there zero a t = subst (λ (k : ℕ). So (stage D k a)) (add-zero i) t
    all_there (suc d) a t = f a (stage_step D (i + d) i (all_there d) a (subst (λ (k : ℕ). So (stage D k a)) (add-suc i d) t))

    rests : (d a : ℕ) → level_in (i + d) D a ≡ level_in i D a
    rests zero a = ap (λ (k : ℕ). level_in k D a) (add-zero i)
    rests (suc d) a =
        ap (λ (k : ℕ). level_in k D a) (add-suc i d) ∙ level_suc (i + d) a
        ∙ kept (level_in (i + d) D a) (stage D (suc (i + d)) a) (suc (i + d)) has ∙ rests d a
      where
        has : So (stage D (suc (i + d)) a) → 0 < level_in (i + d) D a
        has t =
            pos_of_ne-zero
            (λ e. not_So (stage D (i + d) a) (sym (level_stage (i + d) a) ∙ ap not (eq-eqb (level_in (i + d) D a) 0 e))
            (stage_le D i (i + d) a (omega arith) (all_there (suc d) a (subst (λ (k : ℕ). So (stage D k a)) (sym (add-suc i d)) t))))

        kept : (x : ℕ) (b : Bool) (m : ℕ) → (So b → 0 < x) → or_last x b m ≡ x
        kept zero true m h = absurd (omega (arith, h refl))
        kept zero false m h = refl
        kept (suc x) b m h = refl

    rests_to : (n a : ℕ) → i ≤ n → level_in n D a ≡ level_in i D a
    rests_to n a h = ap (λ (k : ℕ). level_in k D a) (sym (add-sub_of_le h)) ∙ rests (n - i) a

-- ---- the rounds

module _ (n : ℕ) (P : Program) (fit : So (all (rule_fits n) P.rules)) (M : Atoms) where
  abbrev D : List Definite
  D = reduct P M

  stage_rules : (i a : ℕ) → stage D (suc i) a ≡ any (λ R. none_in M R.negative && (eqb R.head a && all (stage D i) R.positive)) P.rules
  unfolding stage reduct
  stage_rules i a =
      any_map (λ d. eqb d.head a && all (stage D i) d.body) definite (keep (λ R. none_in M R.negative) P.rules)
      ∙ any_keep (λ R. none_in M R.negative) (λ R. eqb R.head a && all (stage D i) R.positive) P.rules

  -- ls has the levels of stage i
  module _ (ls : List ℕ) (i : ℕ) (at : (a : ℕ) → So (is_atom n a) → level_byte ls a ≡ level_in i D a) where
    below_stage : (b : ℕ) → So (is_atom n b) → is_below ls (suc i) b ≡ stage D i b
    below_stage b t =
        ap (λ (x : ℕ). not (eqb x 0) && ltb x (suc i)) (at b t)
        ∙ ap (λ (c : Bool). not (eqb (level_in i D b) 0) && c) (lt-ltb (level_in i D b) (suc i) (omega (arith, level_le D i b)))
        ∙ and-true (not (eqb (level_in i D b) 0)) ∙ level_stage D i b

    enters_stage : (R : Rule) → RuleIn n R → enters M ls (suc i) R ≡ (none_in M R.negative && all (stage D i) R.positive)
    enters_stage R I =
        ap (λ (b : Bool). none_in M R.negative && b)
        (all_ext (is_below ls (suc i)) (stage D i) R.positive 0 (λ j h. below_stage (get_or R.positive j 0) (all_at (is_atom n) R.positive 0 I.positive_in j h)))

    entered_stage : (a : ℕ) → any (λ R. eqb R.head a && enters M ls (suc i) R) P.rules ≡ stage D (suc i) a
    entered_stage a =
        any_ext (λ R. eqb R.head a && enters M ls (suc i) R) (λ R. none_in M R.negative && (eqb R.head a && all (stage D i) R.positive)) P.rules no_rule
        (λ j h.
        let R = get_or P.rules j no_rule in
        ap (λ (b : Bool). eqb R.head a && b) (enters_stage R (rule_in_lem n P.rules fit j h))
        ∙ swap (eqb R.head a) (none_in M R.negative) (all (stage D i) R.positive))
        ∙ sym (stage_rules i a)
      where
        swap : (a b c : Bool) → (a && (b && c)) ≡ (b && (a && c))
        swap true b c = refl
        swap false true c = refl
        swap false false c = refl

    after_level : (a : ℕ) → So (is_atom n a) → level_after M ls (suc i) P.rules a ≡ level_in (suc i) D a
    after_level a t =
        ap₂ (λ (x : ℕ) (b : Bool). cond (eqb x 0 && b) (suc i) x) (at a t) (entered_stage a)
        ∙ last (level_in i D a) (stage D (suc i) a) ∙ sym (level_suc D i a)
      where
        last : (x : ℕ) (b : Bool) → cond (eqb x 0 && b) (suc i) x ≡ or_last x b (suc i)
        last zero true = refl
        last zero false = refl
        last (suc x) b = ap (λ (c : Bool). cond (c && b) (suc i) (suc x)) (ne_eqb (suc x) 0 (λ e. absurd (omega (arith, e))))

    -- no rule gives a level: the stage does not grow
    no_more : any (fires M ls (suc i)) P.rules ≡ false → (a : ℕ) → So (stage D (suc i) a) → So (stage D i a)
    no_more none a t = go (stage D i a) refl
      where
        go : (b : Bool) → stage D i a ≡ b → So b
        go true e = refl
        go false e =
            let q = any_at (λ R. eqb R.head a && enters M ls (suc i) R) P.rules no_rule (entered_stage a ∙ t) in
            let R = get_or P.rules q.0 no_rule in
            let I = rule_in_lem n P.rules fit q.0 q.1 in
            let same_head = eqb-true R.head a (and_left (eqb R.head a) (enters M ls (suc i) R) q.2) in
            absurd
            (not_So (any (fires M ls (suc i)) P.rules) none
            (any_in (fires M ls (suc i)) P.rules no_rule q.0 q.1
            (and_in
            (ap (λ (x : ℕ). eqb x 0) (at R.head I.head_in ∙ ap (level_in i D) same_head) ∙ not_not (eqb (level_in i D a) 0) (level_stage D i a ∙ e))
            (and_right (eqb R.head a) (enters M ls (suc i) R) q.2))))
          where
            not_not : (b : Bool) → not b ≡ false → b ≡ true
            not_not true e = refl
            not_not false e = sym e

  -- the bytes are the levels within stage i, then the rest
  module _ (rest : List ℕ) (i : ℕ) {ls : List ℕ} (B : ls ≡ tab n (level_in i D) ++ rest) where
    byte_level : (a : ℕ) → So (is_atom n a) → level_byte ls a ≡ level_in i D a
    byte_level a t = ap (λ (l : List ℕ). level_byte l a) B ∙ tab_byte n (level_in i D) rest a t

    behind : drop n ls ≡ rest
    behind = ap (drop n) B ∙ drop_at (tab n (level_in i D)) rest n (length_tab n (level_in i D))

    pub round_levels : {bs : List ℕ} → bs ≡ bytes_after n M ls (i + 1) P.rules → bs ≡ tab n (level_in (i + 1) D) ++ rest
    round_levels q =
        q ∙ ap₂ ◌++◌ (tab_ext n (level_after M ls (i + 1) P.rules) (level_in (i + 1) D) (λ a h. step (i + 1) (add-one i) (suc a) (is_atom_lem n (suc a) (omega arith) h))) behind
      where
        step : (k : ℕ) → k ≡ suc i → (a : ℕ) → So (is_atom n a) → level_after M ls k P.rules a ≡ level_in k D a
        step k e a t =
            ap (λ (k : ℕ). level_after M ls k P.rules a) e ∙ after_level ls i byte_level a t ∙ ap (λ (k : ℕ). level_in k D a) (sym e)

    pub rested : {bs : List ℕ} {g : Bool} → i < n → bs ≡ bytes_after n M ls (i + 1) P.rules → g ≡ any (fires M ls (i + 1)) P.rules → g ≡ false
        → bs ≡ tab n (level_in n D) ++ rest
    rested {bs} {g} h q e z =
        round_levels q
        ∙ ap (λ (l : List ℕ). l ++ rest) (tab_ext n (level_in (i + 1) D) (level_in n D) (λ a k. rests_to D i stops (i + 1) (suc a) (omega arith) ∙ sym (rests_to D i stops n (suc a) (omega (arith, h)))))
      where
        stops : (a : ℕ) → So (stage D (suc i) a) → So (stage D i a)
        stops = no_more ls i byte_level (ap (λ (k : ℕ). any (fires M ls k) P.rules) (sym (add-one i)) ∙ sym e ∙ z)

  pub zeros_are : (rest : List ℕ) {bs : List ℕ} → bs ≡ tab n (λ a. 0) ++ rest → bs ≡ tab n (level_in 0 D) ++ rest
  unfolding level_in
  zeros_are rest q = q

  pub levels_last : (rest : List ℕ) (i : ℕ) {bs : List ℕ} → i ≤ n → n ≤ i → bs ≡ tab n (level_in i D) ++ rest → bs ≡ tab n (level_in n D) ++ rest
  levels_last rest i h k q = q ∙ ap (λ (j : ℕ). tab n (level_in j D) ++ rest) (le_antisymm h k)

-- ---- set and least model

pub unlike_differ : (P : Program) (s ls rest : List ℕ) → ls ≡ tab P.atoms (level P (set_in P.atoms s)) ++ rest
    → first_difference P.atoms s ls ≡ differ P (set_in P.atoms s)
unfolding first_difference differ
unlike_differ P s ls rest B =
    first_ext P.atoms (λ a. not (beq (value_in s a) (value_in ls a))) (λ a. not (beq (set_in P.atoms s a) (least_model P (set_in P.atoms s) a)))
    (λ i h.
    let t = is_atom_lem P.atoms (suc i) (omega arith) h in
    ap₂ (λ (x y : Bool). not (beq x y)) (set_is P.atoms s (suc i) t)
    (ap (λ (x : ℕ). not (eqb x 0)) (ap (λ (l : List ℕ). level_byte l (suc i)) B ∙ tab_byte P.atoms (level P (set_in P.atoms s)) rest (suc i) t)
    ∙ level_stage (reduct P (set_in P.atoms s)) P.atoms (suc i)))
