-- The level numberings of document 001: a set has one exactly if it is a stable model, and it is the level number of each atom.
--   largest_le, largest_at   the largest level of a body
--   stable_level_numbering   the level numbers of a stable model are a level numbering
--   level_numbering_stable   a set with a level numbering is a stable model
--   level_numbering_unique   and the numbering is its level numbers
-- Assumes nothing.
use Prim.Native.Nat.{ℕ, zero, suc, ◌+◌, ◌≤◌, ◌<◌, suc-le-suc}
use native.Mathlib.Nat.{not-suc-le-zero, le_antisymm, le_trans, le-max_left, le-max_right, le_of_suc-le-suc, max-le}
use native.Mathlib.Omega.{arith}
use mathlib.Core.Path.{◌≡◌, refl, sym, ◌∙◌, ap, subst, fun_ext}
use mathlib.Core.Bool.{So, false≢true, cond}
use mathlib.Core.List.{List, [], ◌∷◌}
use lib.Dec.{ltb}
use lib.ListN.{length, get_or}
use borrow.Author.Tests.{lt-ltb, ltb-true}
use Rattle.lists.specs.Lists.{all}
use Rattle.lists.proofs.Bools.{and_left}
use Rattle.lists.proofs.Tests.{all_at, all_in}
use Rattle.lists.proofs.First.{greatest}
use Rattle.meaning.specs.Program.{Rule, Program, Atoms, no_rule, none_in, body_true, is_atom, well_formed}
use Rattle.meaning.specs.Stage.{Stable, level}
use Rattle.meaning.specs.Numbering.{largest, body_level, LevelNumbering}
use Rattle.encoding.specs.Code.{Code, whole, inner, level_of}
use Rattle.theory.proofs.Numbered.{Numbering, numbered_stable, numbered_level, stable_numbered, positive}
use Rattle.theory.proofs.Whole.{inner_whole, level_whole, stable_whole, whole_ranges, whole_rank}

largest_le : (ℓ : ℕ → ℕ) (bs : List ℕ) (j : ℕ) → j < length bs → ℓ (get_or bs j 0) ≤ largest ℓ bs
largest_le ℓ [] j h = absurd (not-suc-le-zero h)
largest_le ℓ (b ∷ bs) zero h = le-max_left (ℓ b) (largest ℓ bs)
largest_le ℓ (b ∷ bs) (suc j) h = le_trans (largest_le ℓ bs j (le_of_suc-le-suc h)) (le-max_right (ℓ b) (largest ℓ bs))

largest_under : (ℓ : ℕ → ℕ) (bs : List ℕ) (k : ℕ) → ((j : ℕ) → j < length bs → ℓ (get_or bs j 0) ≤ k) → largest ℓ bs ≤ k
largest_under ℓ [] k f = omega arith
largest_under ℓ (b ∷ bs) k f = max-le (f 0 (omega arith)) (largest_under ℓ bs k (λ j h. f (suc j) (omega arith)))

-- the largest level is that of some element
largest_at : (ℓ : ℕ → ℕ) (bs : List ℕ) → zero < length bs → (j : ℕ) × (j < length bs) × (largest ℓ bs ≡ ℓ (get_or bs j 0))
largest_at ℓ bs z = let q = greatest ℓ bs z in (q.0, q.1, le_antisymm (largest_under ℓ bs (ℓ (get_or bs q.0 0)) q.2) (largest_le ℓ bs q.0 q.1))

module _ (P : Program) (form : So (well_formed P)) (M : Atoms) where
  abbrev G : Code
  G = whole P 0

  abbrev R : ℕ → Rule
  R j = get_or P.rules j no_rule

  module _ (s : Stable P M) where
    num : Numbering G M (level_of G M)
    num = stable_numbered G M (whole_ranges P 0 form) ((stable_whole P 0 M).1 s)

    abbrev lev : ℕ → ℕ
    lev = level_of G M

    low : (j : ℕ) → j < length P.rules → So (body_true M (R j)) → lev (R j).head ≤ body_level lev (R j).positive
    low j h b = go (length (inner G (suc j))) refl
      where
        go : (l : ℕ) → length (inner G (suc j)) ≡ l → lev (R j).head ≤ body_level lev (R j).positive
        go zero e = omega (arith, num.low_none j h b e)
        go (suc l) e =
            let q = num.low_some j h b (omega arith) in
            omega (
              arith,
              q.2,
              subst (λ (bs : List ℕ). lev (get_or bs q.0 0) ≤ largest lev (R j).positive) (sym (inner_whole P 0 (suc j)))
                  (largest_le lev (R j).positive q.0 (subst (λ (bs : List ℕ). q.0 < length bs) (inner_whole P 0 (suc j)) q.1)),
            )

    levels : LevelNumbering P M lev
    levels =
        record {
          model = λ a j t. subst (λ (x : ℕ). So (M x)) t.its_head (num.closed j t.is_rule t.its_body);
          attained = λ a t.
              let q = num.found a t refl in (
                q.0,
                record { is_rule = q.1; its_head = q.2; its_body = q.3 },
                le_antisymm (subst (λ (x : ℕ). lev x ≤ body_level lev (R q.0).positive) q.2 (low q.0 q.1 q.3))
                    (above a (R q.0).positive (positive G M lev num a t) (subst (λ (bs : List ℕ). So (all (λ b. ltb (lev b) (lev a)) bs)) (inner_whole P 0 (suc q.0)) q.4)),
              );
          least = λ a j t. subst (λ (x : ℕ). lev x ≤ body_level lev (R j).positive) t.its_head (low j t.is_rule t.its_body);
        }
      where
        above : (a : ℕ) (bs : List ℕ) → zero < lev a → So (all (λ b. ltb (lev b) (lev a)) bs) → body_level lev bs ≤ lev a
        above a bs z t = go (lev a) refl z
          where
            go : (k : ℕ) → lev a ≡ k → zero < k → suc (largest lev bs) ≤ k
            go zero e z = absurd (not-suc-le-zero z)
            go (suc k) e z =
                suc-le-suc (largest_under lev bs k (λ j h. omega (arith, e, ltb-true (lev (get_or bs j 0)) (lev a) (all_at (λ b. ltb (lev b) (lev a)) bs 0 t j h))))

    pub stable_level_numbering : LevelNumbering P M (level P M)
    stable_level_numbering = subst (LevelNumbering P M) (fun_ext (level_whole P 0 M)) levels

  module _ (ℓ : ℕ → ℕ) (s : LevelNumbering P M ℓ) where
    -- the numbers of the atoms of M, 0 for any other number
    abbrev ℓ' : ℕ → ℕ
    ℓ' a = cond (M a) (ℓ a) 0

    same_on : (a : ℕ) → So (M a) → ℓ' a ≡ ℓ a
    same_on a t = ap (λ b. cond b (ℓ a) 0) t

    body_on : (j i : ℕ) → So (body_true M (R j)) → i < length (R j).positive → So (M (get_or (R j).positive i 0))
    body_on j i b h = all_at M (R j).positive 0 (and_left (all M (R j).positive) (none_in M (R j).negative) b) i h

    closed : (j : ℕ) → j < length P.rules → So (body_true M (R j)) → So (M (R j).head)
    closed j h b = s.model (R j).head j (record { is_rule = h; its_head = refl; its_body = b })

    numbering : Numbering G M ℓ'
    numbering =
        record {
          atoms = λ a t. let q = s.attained a t in subst (λ (x : ℕ). So (is_atom P.atoms x)) q.1.its_head ((whole_ranges P 0 form).head_in q.0 q.1.is_rule);
          closed = closed;
          off = λ a e. ap (λ b. cond b (ℓ a) 0) e;
          one = λ a t o. absurd (false≢true o);
          found = λ a t o.
              let q = s.attained a t in
              let bs = (R q.0).positive in (
                q.0,
                q.1.is_rule,
                q.1.its_head,
                q.1.its_body,
                subst (λ (bs : List ℕ). So (all (λ b. ltb (ℓ' b) (ℓ' a)) bs)) (sym (inner_whole P 0 (suc q.0)))
                    (all_in (λ b. ltb (ℓ' b) (ℓ' a)) bs 0
                    (λ i h. lt-ltb (ℓ' (get_or bs i 0)) (ℓ' a) (omega (arith, q.2, same_on a t, same_on (get_or bs i 0) (body_on q.0 i q.1.its_body h), largest_le ℓ bs i h)))),
              );
          low_none = λ r h b e. none r h b (R r).positive refl (ap length (sym (inner_whole P 0 (suc r))) ∙ e);
          low_some = λ r h b z.
              let bs = (R r).positive in
              let q = largest_at ℓ bs (subst (λ (xs : List ℕ). zero < length xs) (inner_whole P 0 (suc r)) z) in (
                q.0,
                subst (λ (xs : List ℕ). q.0 < length xs) (sym (inner_whole P 0 (suc r))) q.1,
                subst (λ (xs : List ℕ). ℓ' (R r).head ≤ ℓ' (get_or xs q.0 0) + 1) (sym (inner_whole P 0 (suc r)))
                    (omega (arith, q.2, s.least (R r).head r (record { is_rule = h; its_head = refl; its_body = b }), same_on (R r).head (closed r h b), same_on (get_or bs q.0 0) (body_on r q.0 b q.1))),
              );
        }
      where
        none : (r : ℕ) → r < length P.rules → So (body_true M (R r)) → (bs : List ℕ) → (R r).positive ≡ bs → length bs ≡ 0 → ℓ' (R r).head ≡ 1
        none r h b [] e z =
            let q = s.attained (R r).head (closed r h b) in
            same_on (R r).head (closed r h b)
            ∙ le_antisymm (subst (λ (bs : List ℕ). ℓ (R r).head ≤ body_level ℓ bs) e (s.least (R r).head r (record { is_rule = h; its_head = refl; its_body = b }))) (omega (arith, q.2))
        none r h b (x ∷ bs) e z = absurd (omega arith)

    pub level_numbering_stable : Stable P M
    level_numbering_stable = (stable_whole P 0 M).0 (numbered_stable G M ℓ' numbering (whole_rank P 0))

    pub level_numbering_unique : (a : ℕ) → So (M a) → ℓ a ≡ level P M a
    level_numbering_unique a t = sym (same_on a t) ∙ numbered_level G M ℓ' numbering (whole_ranges P 0 form) a ∙ level_whole P 0 M a
