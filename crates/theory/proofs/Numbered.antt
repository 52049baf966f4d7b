-- Level numberings and stable models: a set has a numbering exactly if it is stable, and the numbering is its levels.
--   Ranges G            the atoms of the rules are among 1 to n
--   Rank G              a rank that does not rise from head to body, and falls to a body atom that is not inside
--   Numbering G M ℓ     ℓ numbers the atoms of M as the clauses say
--   numbered_stable     M is stable
--   numbered_level      ℓ is the level of each atom
--   stable_numbered     the levels of a stable model number it
-- Assumes nothing.
use Prim.Native.Nat.{ℕ, zero, suc, ◌+◌, ◌≤◌, ◌<◌}
use native.Mathlib.Nat.{not-suc-le-zero, le_refl, le_antisymm, le_trans, le_of_suc-le-suc}
use native.Mathlib.Omega.{arith}
use mathlib.Core.Path.{◌≡◌, refl, sym, ◌∙◌, subst}
use mathlib.Core.Logic.{◌⊎◌, inl, inr, ⊎_elim}
use mathlib.Core.Bool.{Bool, true, false, not, ◌&&◌, ◌||◌, So, cond}
use mathlib.Core.List.{[], ◌∷◌}
use lib.Dec.{ltb}
use lib.ListN.{length, get_or}
use borrow.Author.Tests.{ltb-true, lt-ltb}
use Rattle.lists.specs.Lists.{all, each}
use Rattle.lists.proofs.Bools.{and_in, and_left, and_right, not_So, So-or-not}
use Rattle.lists.proofs.Tests.{all_at, all_in, all_append, all_each, all_to_in}
use Rattle.lists.proofs.Tables.{keep_all, all_keep, all_of_keep}
use Rattle.lists.proofs.First.{greatest}
use Rattle.meaning.specs.Program.{Atoms, is_atom, none_in, body_true}
use Rattle.meaning.specs.Stage.{Definite, stage, InUnion}
use Rattle.theory.proofs.Atoms.{is_atom_lem}
use Rattle.theory.proofs.Stages.{stage_zero, stage_atom, stage_le}
use Rattle.theory.proofs.LeastModel.{collect, level_none, level_pos, level_first, level_least}
use Rattle.encoding.specs.Code.{Code, m, rl, inner, keeps, rule_kept, open_kept, reduct_of, level_of, full, StableIn}
use Rattle.theory.proofs.Reducts.{ByRule, ByOpen, stage_in_rule, stage_in_open, stage_cases, kept_of_body, inner_of_body, body_of_kept}

pub record Ranges (G : Code) : Type 0 where
  pub head_in : (r : ℕ) → r < m G → So (is_atom G.n (rl G (suc r)).head)
  pub positive_in : (r : ℕ) → r < m G → So (all (is_atom G.n) (rl G (suc r)).positive)
  pub negative_in : (r : ℕ) → r < m G → So (all (is_atom G.n) (rl G (suc r)).negative)

pub record Rank (G : Code) : Type 0 where
  pub rank : ℕ → ℕ
  pub no_rise : (r : ℕ) → r < m G → (j : ℕ) → j < length (rl G (suc r)).positive → rank (get_or (rl G (suc r)).positive j 0) ≤ rank (rl G (suc r)).head
  pub falls : (r : ℕ) → r < m G → (j : ℕ) → j < length (rl G (suc r)).positive → G.inside (get_or (rl G (suc r)).positive j 0) (rl G (suc r)).head ≡ false
      → rank (get_or (rl G (suc r)).positive j 0) < rank (rl G (suc r)).head

-- a rule whose body is true has its head in M
abbrev pub Closed : Code → Atoms → Type 0
Closed G M = (r : ℕ) → r < m G → So (body_true M (rl G (suc r))) → So (M (rl G (suc r)).head)

pub record Numbering (G : Code) (M : Atoms) (ℓ : ℕ → ℕ) : Type 0 where
  pub atoms : (a : ℕ) → So (M a) → So (is_atom G.n a)
  pub closed : Closed G M
  -- a false atom has number 0, a true open atom 1
  pub off : (a : ℕ) → M a ≡ false → ℓ a ≡ 0
  pub one : (a : ℕ) → So (M a) → So (G.opened a) → ℓ a ≡ 1
  -- another true atom has a rule with a true body and smaller inner numbers
  pub found : (a : ℕ) → So (M a) → G.opened a ≡ false
      → (r : ℕ) × (r < m G) × ((rl G (suc r)).head ≡ a) × So (body_true M (rl G (suc r))) × So (all (λ b. ltb (ℓ b) (ℓ a)) (inner G (suc r)))
  -- a rule with a true body leaves its head no more than one above some inner body atom, or at 1 if there is none
  pub low_none : (r : ℕ) → r < m G → So (body_true M (rl G (suc r))) → length (inner G (suc r)) ≡ 0 → ℓ (rl G (suc r)).head ≡ 1
  pub low_some : (r : ℕ) → r < m G → So (body_true M (rl G (suc r))) → zero < length (inner G (suc r))
      → (j : ℕ) × (j < length (inner G (suc r))) × (ℓ (rl G (suc r)).head ≤ ℓ (get_or (inner G (suc r)) j 0) + 1)

module _ (G : Code) (M : Atoms) where
  pub heads_in_lem : Ranges G → So (all (λ d. is_atom G.n d.head) (reduct_of G M))
  unfolding reduct_of
  heads_in_lem g =
      all_append (λ d. is_atom G.n d.head) (each (m G) (rule_kept G M)) (each G.n (open_kept G M))
      ∙ and_in
      (all_each (λ d. is_atom G.n d.head) (m G) (rule_kept G M) ∙ all_to_in (m G) _ (λ r h. kept (keeps G M (suc r)) _ (g.head_in r h)))
      (all_each (λ d. is_atom G.n d.head) G.n (open_kept G M) ∙ all_to_in G.n _ (λ a h. kept (G.opened (suc a) && M (suc a)) _ (is_atom_lem G.n (suc a) (omega arith) h)))
    where
      kept : (b : Bool) (d : Definite) → So (is_atom G.n d.head) → So (all (λ d. is_atom G.n d.head) (cond b (d ∷ []) []))
      kept true d t = and_in t refl
      kept false d t = refl

  -- the stages stay within a closed set
  pub stage_sub : Closed G M → (i a : ℕ) → So (stage (reduct_of G M) i a) → So (M a)
  stage_sub c zero a t = absurd (stage_zero (reduct_of G M) a t)
  stage_sub c (suc i) a t = go (stage_cases G M i a t) (stage_sub c i)
    where
      go : ((r : ℕ) × ByRule G M i a r) ⊎ ByOpen G M a → ((b : ℕ) → So (stage (reduct_of G M) i b) → So (M b)) → So (M a)
      go (inl q) ih =
          let e = q.1 in
          subst (λ (x : ℕ). So (M x)) e.its_head
          (c q.0 e.is_rule (body_of_kept G M (suc q.0) e.kept
          (all_in M (inner G (suc q.0)) 0 (λ j h. ih _ (all_at (stage (reduct_of G M) i) (inner G (suc q.0)) 0 e.its_inner j h)))))
      go (inr o) ih = o.is_true

pub inner_full : (G : Code) (r : ℕ) → inner (full G) r ≡ (rl G r).positive
unfolding inner
inner_full G r = keep_all (λ b. true) (rl G r).positive (λ b. refl)

-- what holds of the positive body holds of the inner atoms
all_inner : (G : Code) (X : Atoms) (r : ℕ) → So (all X (rl G r).positive) → So (all X (inner G r))
unfolding inner
all_inner G X r t = all_keep (λ b. G.inside b (rl G r).head) X (rl G r).positive t

-- what holds of the inner atoms holds of each body atom that is inside
inner_all : (G : Code) (X : Atoms) (r : ℕ) → So (all X (inner G r)) → So (all (λ b. not (G.inside b (rl G r).head) || X b) (rl G r).positive)
unfolding inner
inner_all G X r t = sym (all_of_keep (λ b. G.inside b (rl G r).head) X (rl G r).positive) ∙ t

module _ (G : Code) (M : Atoms) where
  -- ---- full stages and stages with inner bodies

  full_local : Closed G M → (i a : ℕ) → So (stage (reduct_of (full G) M) i a) → So (stage (reduct_of G M) i a)
  full_local c zero a t = absurd (stage_zero (reduct_of (full G) M) a t)
  full_local c (suc i) a t = go (stage_cases (full G) M i a t) (full_local c i)
    where
      go : ((r : ℕ) × ByRule (full G) M i a r) ⊎ ByOpen (full G) M a
          → ((b : ℕ) → So (stage (reduct_of (full G) M) i b) → So (stage (reduct_of G M) i b)) → So (stage (reduct_of G M) (suc i) a)
      go (inl q) ih =
          let r = suc q.0 in
          let e = q.1 in
          let bs = (rl G r).positive in
          let up = subst (λ xs. So (all (stage (reduct_of (full G) M) i) xs)) (inner_full G r) e.its_inner in
          let body = body_of_kept (full G) M r e.kept
          (all_in M (inner (full G) r) 0 (λ j h. stage_sub (full G) M c i _ (all_at (stage (reduct_of (full G) M) i) (inner (full G) r) 0 e.its_inner j h))) in
          stage_in_rule G M i a q.0
          (record {
            is_rule = e.is_rule;
            its_head = e.its_head;
            kept = kept_of_body G M r body;
            its_inner = all_inner G (stage (reduct_of G M) i) r (all_in (stage (reduct_of G M) i) bs 0 (λ j h. ih _ (all_at (stage (reduct_of (full G) M) i) bs 0 up j h)));
          })
      go (inr o) ih = stage_in_open G M i a (record { is_in = o.is_in; is_open = o.is_open; is_true = o.is_true })

  module _ (k : Rank G) where
    -- with the atoms of smaller rank in the full union, so are those of this rank, stage by stage
    climb : (c : ℕ) → ((b : ℕ) → k.rank b < c → So (M b) → InUnion (reduct_of (full G) M) b)
        → (i a : ℕ) → k.rank a ≤ c → So (stage (reduct_of G M) i a) → InUnion (reduct_of (full G) M) a
    climb c below zero a h t = absurd (stage_zero (reduct_of G M) a t)
    climb c below (suc i) a h t = go (stage_cases G M i a t) (climb c below i)
      where
        body_in : (r j : ℕ) → r < m G → j < length (rl G (suc r)).positive → k.rank (rl G (suc r)).head ≤ c → (b : Bool)
            → G.inside (get_or (rl G (suc r)).positive j 0) (rl G (suc r)).head ≡ b
            → So (b || M (get_or (rl G (suc r)).positive j 0)) → So (not b || stage (reduct_of G M) i (get_or (rl G (suc r)).positive j 0))
            → ((b : ℕ) → k.rank b ≤ c → So (stage (reduct_of G M) i b) → InUnion (reduct_of (full G) M) b)
            → InUnion (reduct_of (full G) M) (get_or (rl G (suc r)).positive j 0)
        body_in r j p q l true e u v ih = ih _ (le_trans (k.no_rise r p j q) l) v
        body_in r j p q l false e u v ih = below _ (omega (arith, k.falls r p j q e)) u

        go : ((r : ℕ) × ByRule G M i a r) ⊎ ByOpen G M a
            → ((b : ℕ) → k.rank b ≤ c → So (stage (reduct_of G M) i b) → InUnion (reduct_of (full G) M) b) → InUnion (reduct_of (full G) M) a
        go (inl q) ih =
            let r = suc q.0 in
            let e = q.1 in
            let bs = (rl G r).positive in
            let l = subst (λ (x : ℕ). k.rank x ≤ c) (sym e.its_head) h in
            let s = collect (reduct_of (full G) M) bs
            (λ j g. body_in q.0 j e.is_rule g l (G.inside (get_or bs j 0) (rl G r).head) refl
            (all_at (λ b. G.inside b (rl G r).head || M b) bs 0 (and_right (none_in M (rl G r).negative) _ e.kept) j g)
            (all_at (λ b. not (G.inside b (rl G r).head) || stage (reduct_of G M) i b) bs 0 (inner_all G (stage (reduct_of G M) i) r e.its_inner) j g) ih) in (
              suc s.0,
              stage_in_rule (full G) M s.0 a q.0
                  (record {
                    is_rule = e.is_rule;
                    its_head = e.its_head;
                    kept = and_in (and_left (none_in M (rl G r).negative) _ e.kept) (all_in (λ b. true || M b) bs 0 (λ j g. refl));
                    its_inner = subst (λ xs. So (all (stage (reduct_of (full G) M) s.0) xs)) (sym (inner_full G r)) s.1;
                  }),
            )
        go (inr o) ih = (1, stage_in_open (full G) M 0 a (record { is_in = o.is_in; is_open = o.is_open; is_true = o.is_true }))

    climbs : ((a : ℕ) → So (M a) → InUnion (reduct_of G M) a) → (c a : ℕ) → k.rank a < c → So (M a) → InUnion (reduct_of (full G) M) a
    climbs f zero a h t = absurd (not-suc-le-zero h)
    climbs f (suc c) a h t = let u = f a t in climb c (climbs f c) u.0 a (le_of_suc-le-suc h) u.1

  -- ---- a numbering gives stability, and is the level of each atom

  module _ (ℓ : ℕ → ℕ) (s : Numbering G M ℓ) where
    pub positive : (a : ℕ) → So (M a) → zero < ℓ a
    positive a t =
        ⊎_elim (λ (o : So (G.opened a)). omega (arith, s.one a t o))
        (λ (o : G.opened a ≡ false). let q = s.found a t o in go q.0 (length (inner G (suc q.0))) refl q.1 q.2 q.3 q.4)
        (So-or-not (G.opened a))
      where
        go : (r k : ℕ) → length (inner G (suc r)) ≡ k → r < m G → (rl G (suc r)).head ≡ a → So (body_true M (rl G (suc r)))
            → So (all (λ b. ltb (ℓ b) (ℓ a)) (inner G (suc r))) → zero < ℓ a
        go r zero e h i b l = omega (arith, subst (λ (x : ℕ). ℓ x ≡ 1) i (s.low_none r h b e))
        go r (suc k) e h i b l =
            omega (arith, ltb-true (ℓ (get_or (inner G (suc r)) 0 0)) (ℓ a) (all_at (λ b. ltb (ℓ b) (ℓ a)) (inner G (suc r)) 0 l 0 (omega arith)))

    reached : (k a : ℕ) → ℓ a ≤ k → So (M a) → So (stage (reduct_of G M) k a)
    reached zero a h t = absurd (omega (arith, positive a t))
    reached (suc k) a h t =
        ⊎_elim (λ (o : So (G.opened a)). stage_in_open G M k a (record { is_in = s.atoms a t; is_open = o; is_true = t }))
        (λ (o : G.opened a ≡ false).
        let q = s.found a t o in
        let r = suc q.0 in
        stage_in_rule G M k a q.0
        (record {
          is_rule = q.1;
          its_head = q.2;
          kept = kept_of_body G M r q.3;
          its_inner = all_in (stage (reduct_of G M) k) (inner G r) 0
              (λ j g. reached k (get_or (inner G r) j 0)
              (omega (arith, ltb-true (ℓ (get_or (inner G r) j 0)) (ℓ a) (all_at (λ b. ltb (ℓ b) (ℓ a)) (inner G r) 0 q.4 j g)))
              (all_at M (inner G r) 0 (inner_of_body G M r q.3) j g));
        }))
        (So-or-not (G.opened a))

    in_union : (a : ℕ) → So (M a) → InUnion (reduct_of G M) a
    in_union a t = (ℓ a, reached (ℓ a) a (le_refl (ℓ a)) t)

    pub numbered_stable : Rank G → StableIn G M
    numbered_stable k =
        record { founded = λ a t. climbs k in_union (suc (k.rank a)) a (omega arith) t; closed = λ a u. stage_sub (full G) M s.closed u.0 a u.1 }

    no_more : (i a : ℕ) → So (stage (reduct_of G M) i a) → ℓ a ≤ i
    no_more zero a t = absurd (stage_zero (reduct_of G M) a t)
    no_more (suc i) a t = go (stage_cases G M i a t) (no_more i)
      where
        sized : (r k : ℕ) → length (inner G (suc r)) ≡ k → ByRule G M i a r → ((b : ℕ) → So (stage (reduct_of G M) i b) → ℓ b ≤ i) → ℓ (rl G (suc r)).head ≤ suc i
        sized r k e q ih =
            let b = body_of_kept G M (suc r) q.kept
            (all_in M (inner G (suc r)) 0 (λ j h. stage_sub G M s.closed i _ (all_at (stage (reduct_of G M) i) (inner G (suc r)) 0 q.its_inner j h))) in
            by_size k e b
          where
            by_size : (k : ℕ) → length (inner G (suc r)) ≡ k → So (body_true M (rl G (suc r))) → ℓ (rl G (suc r)).head ≤ suc i
            by_size zero e b = omega (arith, s.low_none r q.is_rule b e)
            by_size (suc k) e b =
                let w = s.low_some r q.is_rule b (omega arith) in
                omega (arith, w.2, ih (get_or (inner G (suc r)) w.0 0) (all_at (stage (reduct_of G M) i) (inner G (suc r)) 0 q.its_inner w.0 w.1))

        go : ((r : ℕ) × ByRule G M i a r) ⊎ ByOpen G M a → ((b : ℕ) → So (stage (reduct_of G M) i b) → ℓ b ≤ i) → ℓ a ≤ suc i
        go (inl q) ih = subst (λ (x : ℕ). ℓ x ≤ suc i) q.1.its_head (sized q.0 (length (inner G (suc q.0))) refl q.1 ih)
        go (inr o) ih = omega (arith, s.one a o.is_true o.is_open)

    pub numbered_level : Ranges G → (a : ℕ) → ℓ a ≡ level_of G M a
    numbered_level g a =
        ⊎_elim
        (λ (t : So (M a)). le_antisymm
        (no_more (level_of G M a) a (level_first (reduct_of G M) G.n (heads_in_lem G M g) a (in_union a t)).holds)
        (level_least (reduct_of G M) G.n (heads_in_lem G M g) a (ℓ a) (reached (ℓ a) a (le_refl (ℓ a)) t)))
        (λ (e : M a ≡ false). s.off a e ∙ sym (level_none (reduct_of G M) G.n a (λ u. not_So (M a) e (stage_sub G M s.closed u.0 a u.1))))
        (So-or-not (M a))

  -- ---- the levels of a stable model number it

  module _ (g : Ranges G) (s : StableIn G M) where
    abbrev lev : ℕ → ℕ
    lev = level_of G M

    stable_closed : Closed G M
    stable_closed r h t =
        let bs = (rl G (suc r)).positive in
        let q = collect (reduct_of (full G) M) bs (λ j i. s.founded (get_or bs j 0) (all_at M bs 0 (and_left (all M bs) (none_in M (rl G (suc r)).negative) t) j i)) in
        s.closed (rl G (suc r)).head (
          suc q.0,
          stage_in_rule (full G) M q.0 (rl G (suc r)).head r
              (record { is_rule = h; its_head = refl; kept = kept_of_body (full G) M (suc r) t; its_inner = subst (λ xs. So (all (stage (reduct_of (full G) M) q.0) xs)) (sym (inner_full G (suc r))) q.1 }),
        )

    pub local : (a : ℕ) → So (M a) → InUnion (reduct_of G M) a
    local a t = let u = s.founded a t in (u.0, full_local stable_closed u.0 a u.1)

    pub stable_in : (a : ℕ) → So (M a) → So (is_atom G.n a)
    stable_in a t = let u = local a t in stage_atom (reduct_of G M) G.n (heads_in_lem G M g) u.0 a u.1

    level_is_one : (a : ℕ) → So (stage (reduct_of G M) 1 a) → lev a ≡ 1
    level_is_one a t =
        le_antisymm (level_least (reduct_of G M) G.n (heads_in_lem G M g) a 1 t) (level_pos (reduct_of G M) G.n (heads_in_lem G M g) a (1, t))

    found_at : (a i : ℕ) → lev a ≡ i → So (stage (reduct_of G M) i a) → G.opened a ≡ false
        → (r : ℕ) × (r < m G) × ((rl G (suc r)).head ≡ a) × So (body_true M (rl G (suc r))) × So (all (λ b. ltb (lev b) (lev a)) (inner G (suc r)))
    found_at a zero e t o = absurd (stage_zero (reduct_of G M) a t)
    found_at a (suc i) e t o = go (stage_cases G M i a t)
      where
        go : ((r : ℕ) × ByRule G M i a r) ⊎ ByOpen G M a
            → (r : ℕ) × (r < m G) × ((rl G (suc r)).head ≡ a) × So (body_true M (rl G (suc r))) × So (all (λ b. ltb (lev b) (lev a)) (inner G (suc r)))
        go (inl q) =
            let r = suc q.0 in
            let p = q.1 in (
              q.0,
              p.is_rule,
              p.its_head,
              body_of_kept G M r p.kept (all_in M (inner G r) 0 (λ j h. stage_sub G M stable_closed i _ (all_at (stage (reduct_of G M) i) (inner G r) 0 p.its_inner j h))),
              all_in (λ b. ltb (lev b) (lev a)) (inner G r) 0
                  (λ j h. lt-ltb (lev (get_or (inner G r) j 0)) (lev a)
                  (omega (arith, e, level_least (reduct_of G M) G.n (heads_in_lem G M g) (get_or (inner G r) j 0) i (all_at (stage (reduct_of G M) i) (inner G r) 0 p.its_inner j h)))),
            )
        go (inr x) = absurd (not_So (G.opened a) o x.is_open)

    pub stable_numbered : Numbering G M lev
    stable_numbered =
        record {
          atoms = stable_in;
          closed = stable_closed;
          off = λ a e. level_none (reduct_of G M) G.n a (λ u. not_So (M a) e (stage_sub G M stable_closed u.0 a u.1));
          one = λ a t o. level_is_one a (stage_in_open G M 0 a (record { is_in = stable_in a t; is_open = o; is_true = t }));
          found = λ a t o. found_at a (lev a) refl (level_first (reduct_of G M) G.n (heads_in_lem G M g) a (local a t)).holds o;
          low_none = λ r h b e. level_is_one (rl G (suc r)).head (entered r h b 0 (all_in (stage (reduct_of G M) 0) (inner G (suc r)) 0 (λ j i. absurd (omega arith))));
          low_some = λ r h b z. highest r h b (greatest lev (inner G (suc r)) z);
        }
      where
        entered : (r : ℕ) → r < m G → So (body_true M (rl G (suc r))) → (i : ℕ) → So (all (stage (reduct_of G M) i) (inner G (suc r))) → So (stage (reduct_of G M) (suc i) (rl G (suc r)).head)
        entered r h b i t = stage_in_rule G M i (rl G (suc r)).head r (record { is_rule = h; its_head = refl; kept = kept_of_body G M (suc r) b; its_inner = t })

        highest : (r : ℕ) → r < m G → So (body_true M (rl G (suc r)))
            → (j : ℕ) × (j < length (inner G (suc r))) × ((i : ℕ) → i < length (inner G (suc r)) → lev (get_or (inner G (suc r)) i 0) ≤ lev (get_or (inner G (suc r)) j 0))
            → (j : ℕ) × (j < length (inner G (suc r))) × (lev (rl G (suc r)).head ≤ lev (get_or (inner G (suc r)) j 0) + 1)
        highest r h b q =
            let top = lev (get_or (inner G (suc r)) q.0 0) in (
              q.0,
              q.1,
              omega (
                arith,
                level_least (reduct_of G M) G.n (heads_in_lem G M g) (rl G (suc r)).head (suc top)
                    (entered r h b top (all_in (stage (reduct_of G M) top) (inner G (suc r)) 0
                    (λ i k. stage_le (reduct_of G M) (lev (get_or (inner G (suc r)) i 0)) top (get_or (inner G (suc r)) i 0) (q.2 i k)
                    (level_first (reduct_of G M) G.n (heads_in_lem G M g) (get_or (inner G (suc r)) i 0) (local _ (all_at M (inner G (suc r)) 0 (inner_of_body G M (suc r) b) i k))).holds))),
              ),
            )
