-- How an atom enters a stage of the reduct of a code: by a rule or as an open atom.
-- Assumes nothing.
use Prim.Native.Nat.{ℕ, suc, ◌<◌}
use native.Mathlib.Omega.{arith}
use mathlib.Core.Path.{◌≡◌, refl, sym, ◌∙◌, ap₂, subst}
use mathlib.Core.Logic.{◌⊎◌, inl, inr, ⊎_elim}
use mathlib.Core.Bool.{Bool, true, false, not, ◌&&◌, ◌||◌, So, cond, or-false}
use mathlib.Core.List.{[], ◌∷◌}
use lib.Dec.{eqb}
use lib.ListN.{get_or}
use borrow.Author.Tests.{eqb-true, eq-eqb}
use Rattle.lists.specs.Lists.{all, any, any_to, each}
use Rattle.lists.proofs.Bools.{and_in, and_left, and_right, or_left, or_right, or_cases}
use Rattle.lists.proofs.Tests.{all_at, all_in, any_to_at, any_to_in, any_to_ext, any_append, any_each}
use Rattle.lists.proofs.Tables.{all_keep, all_of_keep}
use Rattle.meaning.specs.Program.{Atoms, none_in, body_true, is_atom}
use Rattle.meaning.specs.Stage.{Definite, stage}
use Rattle.theory.proofs.Atoms.{is_atom_lem, by_place}
use Rattle.encoding.specs.Code.{Code, rl, inner, keeps, rule_kept, open_kept, reduct_of, m}

module _ (G : Code) (M : Atoms) where
  -- rule r is kept and puts a into the stage above i
  pub record ByRule (i a r : ℕ) : Type 0 where
    pub is_rule : r < m G
    pub its_head : (rl G (suc r)).head ≡ a
    pub kept : So (keeps G M (suc r))
    pub its_inner : So (all (stage (reduct_of G M) i) (inner G (suc r)))

  -- a is an open atom of M
  pub record ByOpen (a : ℕ) : Type 0 where
    pub is_in : So (is_atom G.n a)
    pub is_open : So (G.opened a)
    pub is_true : So (M a)

  enters : ℕ → ℕ → Definite → Bool
  enters i a d = eqb d.head a && all (stage (reduct_of G M) i) d.body

  abbrev by_rule : ℕ → ℕ → ℕ → Bool
  by_rule i a r = keeps G M r && enters i a (record { head = (rl G r).head; body = inner G r })

  abbrev by_open : ℕ → ℕ → ℕ → Bool
  by_open i a b = (G.opened b && M b) && enters i a (record { head = b; body = [] })

  any_kept : (i a : ℕ) (b : Bool) (d : Definite) → any (enters i a) (cond b (d ∷ []) []) ≡ (b && enters i a d)
  any_kept i a true d = or-false (enters i a d)
  any_kept i a false d = refl

  stage_parts : (i a : ℕ) → stage (reduct_of G M) (suc i) a
      ≡ (any_to (m G) (by_rule i a)
      || any_to G.n (by_open i a))
  unfolding stage reduct_of enters
  stage_parts i a =
      any_append (enters i a) (each (m G) (rule_kept G M)) (each G.n (open_kept G M))
      ∙ ap₂ ◌||◌
      (any_each (enters i a) (m G) (rule_kept G M) ∙ any_to_ext (m G) _ _ (λ r h. any_kept i a (keeps G M (suc r)) _))
      (any_each (enters i a) G.n (open_kept G M) ∙ any_to_ext G.n _ _ (λ b h. any_kept i a (G.opened (suc b) && M (suc b)) _))

  pub stage_in_rule : (i a r : ℕ) → ByRule i a r → So (stage (reduct_of G M) (suc i) a)
  unfolding enters
  stage_in_rule i a r e =
      stage_parts i a
      ∙ or_left (any_to (m G) (by_rule i a)) (any_to G.n (by_open i a)) (any_to_in (m G) (by_rule i a) r e.is_rule
      (and_in e.kept (and_in (eq-eqb (rl G (suc r)).head a e.its_head) e.its_inner)))

  pub stage_in_open : (i a : ℕ) → ByOpen a → So (stage (reduct_of G M) (suc i) a)
  unfolding enters
  stage_in_open i a e =
      by_place G.n (λ a. So (G.opened a) → So (M a) → So (stage (reduct_of G M) (suc i) a))
      (λ a h o t. stage_parts i (suc a)
      ∙ or_right (any_to (m G) (by_rule i (suc a))) (any_to G.n (by_open i (suc a))) (any_to_in G.n (by_open i (suc a)) a h
      (and_in (and_in o t) (and_in (eq-eqb (suc a) (suc a) refl) refl)))) a e.is_in e.is_open e.is_true

  pub stage_cases : (i a : ℕ) → So (stage (reduct_of G M) (suc i) a) → ((r : ℕ) × ByRule i a r) ⊎ ByOpen a
  unfolding enters
  stage_cases i a t = ⊎_elim (λ u. inl (rule u)) (λ u. inr (opn u)) (or_cases _ _ (sym (stage_parts i a) ∙ t))
    where
      rule : So (any_to (m G) (by_rule i a)) → (r : ℕ) × ByRule i a r
      rule u =
          let q = any_to_at (m G) (by_rule i a) u in
          let r = suc q.0 in
          let v = and_right (keeps G M r) (enters i a (record { head = (rl G r).head; body = inner G r })) q.2 in (
            q.0,
            record {
              is_rule = q.1;
              its_head = eqb-true (rl G r).head a (and_left (eqb (rl G r).head a) (all (stage (reduct_of G M) i) (inner G r)) v);
              kept = and_left (keeps G M r) (enters i a (record { head = (rl G r).head; body = inner G r })) q.2;
              its_inner = and_right (eqb (rl G r).head a) (all (stage (reduct_of G M) i) (inner G r)) v;
            },
          )

      opn : So (any_to G.n (by_open i a)) → ByOpen a
      opn u =
          let q = any_to_at G.n (by_open i a) u in
          let b = suc q.0 in
          let e = eqb-true b a (and_left (eqb b a) true (and_right (G.opened b && M b) (eqb b a && true) q.2)) in
          let v = and_left (G.opened b && M b) (eqb b a && true) q.2 in
          record {
            is_in = subst (λ (x : ℕ). So (is_atom G.n x)) e (is_atom_lem G.n b (omega arith) q.1);
            is_open = subst (λ (x : ℕ). So (G.opened x)) e (and_left (G.opened b) (M b) v);
            is_true = subst (λ (x : ℕ). So (M x)) e (and_right (G.opened b) (M b) v);
          }

  -- ---- a rule's body is true exactly if the rule is kept and its inner body atoms are true

  pub kept_of_body : (r : ℕ) → So (body_true M (rl G r)) → So (keeps G M r)
  kept_of_body r t =
      and_in (and_right (all M (rl G r).positive) (none_in M (rl G r).negative) t)
      (all_in _ (rl G r).positive 0
      (λ j h. or_right (G.inside (get_or (rl G r).positive j 0) (rl G r).head) _
      (all_at M (rl G r).positive 0 (and_left (all M (rl G r).positive) (none_in M (rl G r).negative) t) j h)))

  pub inner_of_body : (r : ℕ) → So (body_true M (rl G r)) → So (all M (inner G r))
  unfolding inner
  inner_of_body r t =
      all_keep (λ b. G.inside b (rl G r).head) M (rl G r).positive (and_left (all M (rl G r).positive) (none_in M (rl G r).negative) t)

  pub body_of_kept : (r : ℕ) → So (keeps G M r) → So (all M (inner G r)) → So (body_true M (rl G r))
  unfolding inner
  body_of_kept r k t =
      and_in
      (all_in M (rl G r).positive 0 (λ j h. both (G.inside (get_or (rl G r).positive j 0) (rl G r).head) _
      (all_at (λ b. G.inside b (rl G r).head || M b) (rl G r).positive 0 (and_right (none_in M (rl G r).negative) _ k) j h)
      (all_at (λ b. not (G.inside b (rl G r).head) || M b) (rl G r).positive 0
      (sym (all_of_keep (λ b. G.inside b (rl G r).head) M (rl G r).positive) ∙ t) j h)))
      (and_left (none_in M (rl G r).negative) _ k)
    where
      both : (p q : Bool) → So (p || q) → So (not p || q) → So q
      both true q t u = u
      both false q t u = t
