-- What the clause list of a code says, group by group: all its clauses are true exactly if the record `Says` holds.
-- Assumes nothing.
use Prim.Native.Nat.{ℕ, suc, ◌+◌, ◌^◌, ◌%◌, ◌<◌}
use mathlib.Core.Path.{◌≡◌, refl, sym, ◌∙◌, ap, subst}
use mathlib.Core.Logic.{◌↔◌, ⊎_elim}
use mathlib.Core.Bool.{Bool, true, false, not, ◌&&◌, ◌||◌, So, cond}
use mathlib.Core.List.{List, [], ◌∷◌}
use lib.Dec.{eqb}
use lib.ListN.{length}
use borrow.Author.Tests.{eq-eqb, eqb-true, not-true}
use Rattle.lists.specs.Lists.{all, any, all_to}
use Rattle.lists.proofs.Bools.{and_in, and_left, and_right, or_cases, beq_eq, eq_beq, not_So, So-not}
use lib.Dec.{lit<}
use Rattle.lists.proofs.Tests.{all_at, all_to_at, all_to_in, any_to_at, any_to_in, all_joined, all_select, any_select}
use Rattle.meaning.specs.Program.{body_true}
use Rattle.encoding.specs.Literal.{Clause, Assignment, clause_true, all_true}
use Rattle.encoding.specs.Variables.{Sizes, body_var, founds_var, level_var, next_var, below_var, next_below_var}
use Rattle.encoding.specs.Counter.{value, chain}
use Rattle.encoding.specs.Clauses.{implied_clauses, supported_clause, founds_clauses, one_clauses, lowest_clauses, founded_clause, rules_of}
use Rattle.encoding.specs.Fill.{counter}
use Rattle.encoding.specs.Code.{Code, m, code_sizes, rl, its, pair_list, pair_body, pair_head, pair_numbers, part1, part2, part3, part4, part5, part6, part7, clauses_of}
use Rattle.theory.proofs.AllTrue.{so_or, or_so, so_implies, each_at, each_in, append_left, append_right, append_in, one_of}
use Rattle.theory.proofs.Counters.{bits, Compares, chain_iff, successor_iff}
use Rattle.theory.proofs.Groups.{body_means, implied_means, supported_means, zero_means, founds_means, one_test, one_means, low_test, lowest_means, founded_means}

pub record Says (G : Code) (A : Assignment) : Type 0 where
  -- group 1
  pub bodies : (r : ℕ) → r < m G → A (body_var (code_sizes G) (suc r)) ≡ body_true A (rl G (suc r))
  -- group 2
  pub implied : (a : ℕ) → a < G.n → (r : ℕ) → r < m G → (rl G (suc r)).head ≡ suc a → So (A (body_var (code_sizes G) (suc r))) → So (A (suc a))
  pub supported : (a : ℕ) → a < G.n → G.opened (suc a) ≡ false → So (A (suc a))
      → (r : ℕ) × (r < m G) × ((rl G (suc r)).head ≡ suc a) × So (A (body_var (code_sizes G) (suc r)))
  -- group 3
  pub zeroed : (a : ℕ) → a < G.n → A (suc a) ≡ false → (i : ℕ) → i < G.w → A (level_var (code_sizes G) (suc a) (suc i)) ≡ false
  -- group 4
  pub nexts : (a : ℕ) → a < G.n → value (bits A (next_var (code_sizes G) (suc a))) G.w ≡ (counter (code_sizes G) A (suc a) + 1) % 2 ^ G.w
  -- group 5
  pub belows : (k : ℕ) → k < length (pair_list G) → (i : ℕ) → i < G.w
      → Compares A (below_var (code_sizes G) (suc k)) (level_var (code_sizes G) (pair_body G (suc k))) (level_var (code_sizes G) (pair_head G (suc k))) (suc i)
  pub next_belows : (k : ℕ) → k < length (pair_list G) → (i : ℕ) → i < G.w
      → Compares A (next_below_var (code_sizes G) (suc k)) (next_var (code_sizes G) (pair_body G (suc k))) (level_var (code_sizes G) (pair_head G (suc k))) (suc i)
  -- group 6
  pub founds : (r : ℕ) → r < m G → A (founds_var (code_sizes G) (suc r))
      ≡ (A (body_var (code_sizes G) (suc r)) && all (λ k. A (below_var (code_sizes G) k G.w)) (pair_numbers G (suc r)))
  pub lowest : (r : ℕ) → r < m G → So (A (body_var (code_sizes G) (suc r))) → So (low_test (code_sizes G) A (rl G (suc r)).head (pair_numbers G (suc r)))
  -- group 7
  pub founded : (a : ℕ) → a < G.n → G.opened (suc a) ≡ false → So (A (suc a))
      → (r : ℕ) × (r < m G) × ((rl G (suc r)).head ≡ suc a) × So (A (founds_var (code_sizes G) (suc r)))
  pub one : (a : ℕ) → a < G.n → So (G.opened (suc a)) → So (A (suc a)) → So (one_test (code_sizes G) A (suc a))

-- ---- the rules of an atom

module _ (G : Code) (p : ℕ → Bool) (a : ℕ) where
  pub its_any : So (any p (its G a)) → (r : ℕ) × (r < m G) × ((rl G (suc r)).head ≡ a) × So (p (suc r))
  unfolding rules_of
  its_any t =
      let q = any_to_at (m G) (λ r. eqb (rl G r).head a && p r) (sym (any_select p (λ r. eqb (rl G r).head a) (m G)) ∙ t) in
      let r = suc q.0 in
      (q.0, q.1, eqb-true (rl G r).head a (and_left (eqb (rl G r).head a) (p r) q.2), and_right (eqb (rl G r).head a) (p r) q.2)

  pub any_its : (r : ℕ) → r < m G → (rl G (suc r)).head ≡ a → So (p (suc r)) → So (any p (its G a))
  unfolding rules_of
  any_its r h e t =
      any_select p (λ r. eqb (rl G r).head a) (m G)
      ∙ any_to_in (m G) (λ r. eqb (rl G r).head a && p r) r h (and_in (eq-eqb (rl G (suc r)).head a e) t)

  pub its_all : So (all p (its G a)) → (r : ℕ) → r < m G → (rl G (suc r)).head ≡ a → So (p (suc r))
  unfolding rules_of
  its_all t r h e =
      or_so (eqb (rl G (suc r)).head a) (p (suc r))
      (all_to_at (m G) (λ r. not (eqb (rl G r).head a) || p r) (sym (all_select p (λ r. eqb (rl G r).head a) (m G)) ∙ t) r h)
      (eq-eqb (rl G (suc r)).head a e)

  pub all_its : ((r : ℕ) → r < m G → (rl G (suc r)).head ≡ a → So (p (suc r))) → So (all p (its G a))
  unfolding rules_of
  all_its f =
      all_select p (λ r. eqb (rl G r).head a) (m G)
      ∙ all_to_in (m G) (λ r. not (eqb (rl G r).head a) || p r)
      (λ r h. so_implies (eqb (rl G (suc r)).head a) (p (suc r)) (λ e. f r h (eqb-true (rl G (suc r)).head a e)))

module _ (G : Code) (A : Assignment) where
  abbrev S : Sizes
  S = code_sizes G

  -- ---- the list, part by part

  pub record Parts : Type 0 where
    pub at1 : So (all_true A (part1 G))
    pub at2 : So (all_true A (part2 G))
    pub at3 : So (all_true A (part3 G))
    pub at4 : So (all_true A (part4 G))
    pub at5 : So (all_true A (part5 G))
    pub at6 : So (all_true A (part6 G))
    pub at7 : So (all_true A (part7 G))

  clauses_parts : So (all_true A (clauses_of G)) → Parts
  unfolding clauses_of
  clauses_parts t =
      let parts = part1 G ∷ part2 G ∷ part3 G ∷ part4 G ∷ part5 G ∷ part6 G ∷ part7 G ∷ [] in
      let f = all_at (all_true A) parts [] (sym (all_joined (clause_true A) parts) ∙ t) in
      record { at1 = f 0 (lit< tt); at2 = f 1 (lit< tt); at3 = f 2 (lit< tt); at4 = f 3 (lit< tt); at5 = f 4 (lit< tt); at6 = f 5 (lit< tt); at7 = f 6 (lit< tt) }

  parts_clauses : Parts → So (all_true A (clauses_of G))
  unfolding clauses_of
  parts_clauses p =
      all_joined (clause_true A) (part1 G ∷ part2 G ∷ part3 G ∷ part4 G ∷ part5 G ∷ part6 G ∷ part7 G ∷ [])
      ∙ and_in p.at1 (and_in p.at2 (and_in p.at3 (and_in p.at4 (and_in p.at5 (and_in p.at6 (and_in p.at7 refl))))))

  -- ---- the clauses of one atom, pair or rule

  abbrev unopened : ℕ → List Clause
  unopened a = cond (G.opened a) [] (supported_clause S a (its G a) ∷ [])

  abbrev below_chain : ℕ → List Clause
  below_chain k = chain G.w (below_var S k) (level_var S (pair_body G k)) (level_var S (pair_head G k))

  abbrev next_below_chain : ℕ → List Clause
  next_below_chain k = chain G.w (next_below_var S k) (next_var S (pair_body G k)) (level_var S (pair_head G k))

  abbrev founds_part : ℕ → List Clause
  founds_part r = founds_clauses S r (pair_numbers G r)

  abbrev lowest_part : ℕ → List Clause
  lowest_part r = lowest_clauses S r (rl G r).head (pair_numbers G r)

  -- ---- the parts, read

  reads : Parts → Says G A
  reads p =
      record {
        bodies = λ r h. beq_eq _ _ (sym (body_means S A (suc r) (rl G (suc r))) ∙ each_at A (m G) _ p.at1 r h);
        implied = λ a h r g e t.
            ⊎_elim (λ u. u) (λ u. absurd (not_So (not (A (body_var S (suc r)))) (ap not t) (its_all G (λ r. not (A (body_var S r))) (suc a) u r g e)))
            (or_cases (A (suc a)) _ (sym (implied_means S A (suc a) (its G (suc a))) ∙ append_left A (implied_clauses S (suc a) (its G (suc a))) (unopened (suc a)) (each_at A G.n _ p.at2 a h)));
        supported = λ a h o t.
            its_any G (λ r. A (body_var S r)) (suc a)
            (or_so (A (suc a)) _
            (sym (supported_means S A (suc a) (its G (suc a)))
            ∙ one_of A (supported_clause S (suc a) (its G (suc a)))
            (subst (λ b. So (all_true A (cond b [] (supported_clause S (suc a) (its G (suc a)) ∷ [])))) o
            (append_right A (implied_clauses S (suc a) (its G (suc a))) (unopened (suc a)) (each_at A G.n _ p.at2 a h)))) t);
        zeroed = λ a h e i g.
            not-true (A (level_var S (suc a) (suc i)))
            (all_to_at G.w (λ i. not (A (level_var S (suc a) i)))
            (subst (λ b. So (b || all_to G.w (λ i. not (A (level_var S (suc a) i))))) e (sym (zero_means S A (suc a)) ∙ each_at A G.n _ p.at3 a h)) i g);
        nexts = λ a h. (successor_iff A G.w (next_var S (suc a)) (level_var S (suc a))).0 (each_at A G.n _ p.at4 a h);
        belows = λ k h. (chain_iff A G.w _ _ _).0 (append_left A (below_chain (suc k)) (next_below_chain (suc k)) (each_at A (length (pair_list G)) _ p.at5 k h));
        next_belows = λ k h. (chain_iff A G.w _ _ _).0 (append_right A (below_chain (suc k)) (next_below_chain (suc k)) (each_at A (length (pair_list G)) _ p.at5 k h));
        founds = λ r h. beq_eq _ _ (sym (founds_means S A (suc r) (pair_numbers G (suc r))) ∙ append_left A (founds_part (suc r)) (lowest_part (suc r)) (each_at A (m G) _ p.at6 r h));
        lowest = λ r h t.
            or_so (A (body_var S (suc r))) _
            (sym (lowest_means S A (suc r) (rl G (suc r)).head (pair_numbers G (suc r))) ∙ append_right A (founds_part (suc r)) (lowest_part (suc r)) (each_at A (m G) _ p.at6 r h)) t;
        founded = λ a h o t.
            its_any G (λ r. A (founds_var S r)) (suc a)
            (or_so (A (suc a)) _
            (sym (founded_means S A (suc a) (its G (suc a)))
            ∙ one_of A (founded_clause S (suc a) (its G (suc a)))
            (subst (λ b. So (all_true A (cond b (one_clauses S (suc a) (suc a)) (founded_clause S (suc a) (its G (suc a)) ∷ [])))) o (each_at A G.n _ p.at7 a h))) t);
        one = λ a h o t.
            or_so (A (suc a)) _
            (sym (one_means S A (suc a) (suc a))
            ∙ subst (λ b. So (all_true A (cond b (one_clauses S (suc a) (suc a)) (founded_clause S (suc a) (its G (suc a)) ∷ [])))) o (each_at A G.n _ p.at7 a h)) t;
      }

  -- ---- and written

  writes : Says G A → Parts
  writes s =
      record {
        at1 = each_in A (m G) _ (λ r h. body_means S A (suc r) (rl G (suc r)) ∙ eq_beq _ _ (s.bodies r h));
        at2 = each_in A G.n _ (λ a h. append_in A (implied_clauses S (suc a) (its G (suc a))) (unopened (suc a))
            (implied_means S A (suc a) (its G (suc a))
            ∙ so_or (A (suc a)) _ (λ u. all_its G (λ r. not (A (body_var S r))) (suc a) (λ r g e. so_false (A (body_var S (suc r))) (λ t. not_So (A (suc a)) (not-true (A (suc a)) u) (s.implied a h r g e t)))))
            (opened_or (G.opened (suc a)) a refl h));
        at3 = each_in A G.n _ (λ a h. zero_means S A (suc a)
            ∙ so_or (A (suc a)) _ (λ u. all_to_in G.w _ (λ i g. So-not (A (level_var S (suc a) (suc i))) (s.zeroed a h (not-true (A (suc a)) u) i g))));
        at4 = each_in A G.n _ (λ a h. (successor_iff A G.w (next_var S (suc a)) (level_var S (suc a))).1 (s.nexts a h));
        at5 = each_in A (length (pair_list G)) _ (λ k h. append_in A (below_chain (suc k)) (next_below_chain (suc k)) ((chain_iff A G.w _ _ _).1 (s.belows k h)) ((chain_iff A G.w _ _ _).1 (s.next_belows k h)));
        at6 = each_in A (m G) _ (λ r h. append_in A (founds_part (suc r)) (lowest_part (suc r))
            (founds_means S A (suc r) (pair_numbers G (suc r)) ∙ eq_beq _ _ (s.founds r h))
            (lowest_means S A (suc r) (rl G (suc r)).head (pair_numbers G (suc r)) ∙ so_implies (A (body_var S (suc r))) _ (s.lowest r h)));
        at7 = each_in A G.n _ (λ a h. opened_last (G.opened (suc a)) a refl h);
      }
    where
      so_false : (b : Bool) → (So b → ⊥) → So (not b)
      so_false true f = absurd (f refl)
      so_false false f = refl

      opened_or : (b : Bool) → (a : ℕ) → G.opened (suc a) ≡ b → a < G.n → So (all_true A (cond b [] (supported_clause S (suc a) (its G (suc a)) ∷ [])))
      opened_or true a o h = refl
      opened_or false a o h =
          and_in (supported_means S A (suc a) (its G (suc a)) ∙ so_implies (A (suc a)) _ (λ t. let q = s.supported a h o t in any_its G (λ r. A (body_var S r)) (suc a) q.0 q.1 q.2 q.3)) refl

      opened_last : (b : Bool) → (a : ℕ) → G.opened (suc a) ≡ b → a < G.n → So (all_true A (cond b (one_clauses S (suc a) (suc a)) (founded_clause S (suc a) (its G (suc a)) ∷ [])))
      opened_last true a o h = one_means S A (suc a) (suc a) ∙ so_implies (A (suc a)) _ (s.one a h o)
      opened_last false a o h =
          and_in (founded_means S A (suc a) (its G (suc a)) ∙ so_implies (A (suc a)) _ (λ t. let q = s.founded a h o t in any_its G (λ r. A (founds_var S r)) (suc a) q.0 q.1 q.2 q.3)) refl

  pub clauses_iff : So (all_true A (clauses_of G)) ↔ Says G A
  clauses_iff = (λ t. reads (clauses_parts t), λ s. parts_clauses (writes s))
