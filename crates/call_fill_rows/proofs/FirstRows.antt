-- Filling out refuses with the first row met, and accepts exactly if none is.
--   fill_told      the two cases
--   fill_answers_first, first_fill_answers, fill_accepts_none, none_fill_accepts, first_fill_one
--   none_bad       no byte of a set is above 1
--   stable_result  the result for a stable set of the right form
-- Assumes nothing.
use Prim.Native.Nat.{ℕ, zero, suc, pred, ◌-◌, ◌≤◌, ◌<◌}
use native.Mathlib.Nat.{le_refl, le_antisymm}
use native.Mathlib.Omega.{arith}
use mathlib.Core.Path.{◌≡◌, refl, sym, ◌∙◌, ap, ap₂, subst, fun_ext}
use mathlib.Core.Logic.{◌⊎◌, inl, inr, ⊎_elim}
use mathlib.Core.Bool.{Bool, true, false, true≢false, not, So, cond}
use mathlib.Core.List.{List}
use lib.Dec.{eqb, ltb}
use lib.ListN.{length, get_or}
use borrow.Author.Tests.{lt-ltb, le-ltb, eq-eqb, ne_eqb, eqb-true, eqb-false, ltb-true}
use Rattle.lists.specs.Lists.{tab}
use Rattle.lists.proofs.Bools.{and_left}
use Rattle.lists.proofs.Tests.{le_or_lt}
use Rattle.lists.proofs.First.{first_is, first_pos, first_le, first_none}
use Rattle.meaning.specs.Program.{Program, is_atom, well_formed}
use Rattle.meaning.specs.Stage.{Stable, least_model, level, differ}
use Rattle.encoding.specs.Code.{code_of, level_of, code_fill}
use Rattle.encoding.specs.Width.{width}
use Rattle.encoding.specs.Fill.{fill}
use Rattle.theory.proofs.Atoms.{atom_pos, is_atom_lem}
use Rattle.theory.proofs.Whole.{level_whole, fill_whole}
use Rattle.theory.proofs.Decided.{decided, stable_least, differ_at, differ_before, differ_le}
use Rattle.clause_literals.proofs.Products.{one_before}
use Rattle.refusals.specs.declared.TextRefusal.{TextRefusal}
use Rattle.reader.specs.Verdict.{read_of}
use Rattle.refusals.specs.Numbers.{text_number, text_spot}
use Rattle.reader_laws.specs.Row.{rank, NoLater, ranked, nearer, smaller, FirstRow}
use Rattle.text.specs.Limits.{Admitted}
use Rattle.reader_laws.proofs.Rows.{accepted_none}
use Rattle.call_laws.proofs.Texts.{admitted_program, one_admitted, refused_row, refused_admits_none}
use Rattle.answer_offers.specs.Offered.{value_bytes}
use Rattle.truth_clauses.specs.Truth.{value_in}
use Rattle.level_lists.specs.Bytes.{set_in}
use Rattle.call_results.specs.Results.{Result, var_total, program_read}
use Rattle.call_results.specs.Order.{NotAfter}
use Rattle.call_results.proofs.Order.{Told, at_row, met_none}
use Rattle.call_results.proofs.Order as Order
use Rattle.refusals.specs.declared.FillRefusal.{FillRefusal}
use Rattle.refusals.specs.declared.FillRefusal.TheVariants.{Text, ShortBuffer, BadSet, Unfounded}
use Rattle.refusals.specs.Numbers.{fill_number, fill_spot}
use Rattle.call_fill_rows.specs.FillOut.{fill_refused, first_bad, founded_result, fill_result, fill_after_reading, fill_verdict_of, fill_of, fill_answer}
use Rattle.call_fill_rows.specs.Rows.{FillRow, of_text, short_assignment, short_levels, wrong_length, bad_byte, unfounded, FirstFillRow, FillAnswers, FillAccepts}
use Rattle.reader.specs.Verdict.{ReadVerdict}
use Rattle.std.specs.Prelude.{Err, Ok}
use Rattle.call_fill_rows.specs.Verdict.{FillVerdict}

-- of one row, the smaller spot is first
no_larger : (k r s u : ℕ) → s ≤ u → NotAfter k r s k r u
no_larger k r s u h =
    ⊎_elim (λ (g : u ≤ s). NotAfter.smaller refl (le_antisymm h g) (le_refl r)) (λ (g : s < u). NotAfter.nearer refl g) (le_or_lt u s)

-- no byte is above 1
pub none_bad : (s : List ℕ) → ((i : ℕ) → i < length s → get_or s i 0 ≤ 1) → first_bad s ≤ 0
unfolding first_bad
none_bad s f = let e = first_none (length s) (λ i. ltb 1 (get_or s (pred i) 0)) (λ i h. le-ltb 1 (get_or s i 0) (f i h)) in omega (arith, e)

module _ (t s : List ℕ) (a l : ℕ) where
  abbrev Case : Type 0
  Case = Told (FillRow t s a l) (FillAnswers t s a l) (FillAccepts t s a l)

  -- ---- a refused text

  module _ (x : TextRefusal) (v : (read_of t).verdict ≡ Err x) where
    F : FirstRow t (text_number x) (text_spot x)
    F = refused_row t x v

    text_first : (k r u : ℕ) → FillRow t s a l k r u → NotAfter (rank (text_number x)) (text_number x) (text_spot x) k r u
    text_first k r u (of_text ρ) = go (F.first r u ρ)
      where
        go : NoLater (text_number x) (text_spot x) r u → NotAfter (rank (text_number x)) (text_number x) (text_spot x) (rank r) r u
        go (ranked h) = NotAfter.earlier h
        go (nearer e h) = NotAfter.nearer e h
        go (smaller e f h) = NotAfter.smaller e f h
    text_first k r u (short_assignment P b h) = absurd (refused_admits_none t x v P b)
    text_first k r u (short_levels P b h) = absurd (refused_admits_none t x v P b)
    text_first k r u (wrong_length P b h) = absurd (refused_admits_none t x v P b)
    text_first k r u (bad_byte P b e i h g) = absurd (refused_admits_none t x v P b)
    text_first k r u (unfounded P b i h g) = absurd (refused_admits_none t x v P b)

    text_told : Case
    unfolding fill_answer fill_of
    text_told =
        at_row (text_number x) (text_spot x) (record { place = rank (text_number x); met = of_text F.met; first = text_first })
        (record {
          refusal = Text x;
          answer_is = ap (λ (y : ReadVerdict). fill_verdict_of (program_read (read_of t)).atoms (fill_after_reading y (fill_result (code_of (program_read (read_of t))) s a l))) v;
          row_is = refl;
          spot_is = refl;
        })

  -- ---- an accepted text

  module _ (v : (read_of t).verdict ≡ Ok tt) where
    abbrev P : Program
    P = program_read (read_of t)

    A : Admitted t P
    A = admitted_program t v

    same : (Q : Program) → Admitted t Q → Q ≡ P
    same Q b = one_admitted A b

    result : fill_of t s a l ≡ fill_result (code_of P) s a l
    unfolding fill_of
    result = ap (λ (y : ReadVerdict). fill_after_reading y (fill_result (code_of P) s a l)) v

    refuses : (q : FillRefusal) → fill_result (code_of P) s a l ≡ fill_refused q → FillAnswers t s a l (fill_number q) (fill_spot q)
    unfolding fill_answer
    refuses q e = record { refusal = q; answer_is = ap (fill_verdict_of P.atoms) (result ∙ e); row_is = refl; spot_is = refl }

    -- the result, by its tests
    abbrev by : Bool → Bool → Bool → Bool → Result FillRefusal
    by c d e f =
        cond c (fill_refused (ShortBuffer (var_total P)))
        (cond d (fill_refused (ShortBuffer P.atoms))
        (cond e (fill_refused (BadSet P.atoms)) (cond f (fill_refused (BadSet (first_bad s - 1))) (founded_result (code_of P) (set_in P.atoms s)))))

    abbrev test2 : Bool
    test2 = ltb l P.atoms

    abbrev test3 : Bool
    test3 = not (eqb (length s) P.atoms)

    abbrev test4 : Bool
    test4 = ltb 0 (first_bad s)

    -- row 8, for the assignment
    told1 : a < var_total P → Case
    told1 h =
        at_row 8 (var_total P) (record { place = 3; met = short_assignment P A h; first = go })
        (refuses (ShortBuffer (var_total P)) (ap (λ c. by c test2 test3 test4) (lt-ltb a (var_total P) h)))
      where
        go : (k r u : ℕ) → FillRow t s a l k r u → NotAfter 3 8 (var_total P) k r u
        go k r u (of_text ρ) = absurd (accepted_none t v r u ρ)
        go k r u (short_assignment Q b f) = NotAfter.smaller refl (ap var_total (sym (same Q b))) (le_refl 8)
        go k r u (short_levels Q b f) = NotAfter.earlier (omega arith)
        go k r u (wrong_length Q b f) = NotAfter.earlier (omega arith)
        go k r u (bad_byte Q b e i f g) = NotAfter.earlier (omega arith)
        go k r u (unfounded Q b i f g) = NotAfter.earlier (omega arith)

    module _ (h1 : var_total P ≤ a) where
      none1 : (Q : Program) → Admitted t Q → a < var_total Q → ⊥
      none1 Q b f =
          let g = subst (λ (X : Program). a < var_total X) (same Q b) f in
          omega (arith, g, h1)

      -- row 8, for the levels
      told2 : l < P.atoms → Case
      told2 h =
          at_row 8 P.atoms (record { place = 4; met = short_levels P A h; first = go })
          (refuses (ShortBuffer P.atoms) (ap (λ c. by c test2 test3 test4) (le-ltb a (var_total P) h1) ∙ ap (λ d. by false d test3 test4) (lt-ltb l P.atoms h)))
        where
          go : (k r u : ℕ) → FillRow t s a l k r u → NotAfter 4 8 P.atoms k r u
          go k r u (of_text ρ) = absurd (accepted_none t v r u ρ)
          go k r u (short_assignment Q b f) = absurd (none1 Q b f)
          go k r u (short_levels Q b f) = NotAfter.smaller refl (ap (λ (X : Program). X.atoms) (sym (same Q b))) (le_refl 8)
          go k r u (wrong_length Q b f) = NotAfter.earlier (omega arith)
          go k r u (bad_byte Q b e i f g) = NotAfter.earlier (omega arith)
          go k r u (unfounded Q b i f g) = NotAfter.earlier (omega arith)

      module _ (h2 : P.atoms ≤ l) where
        none2 : (Q : Program) → Admitted t Q → l < Q.atoms → ⊥
        none2 Q b f =
            let g = subst (λ (X : Program). l < X.atoms) (same Q b) f in
            omega (arith, g, h2)

        past : fill_result (code_of P) s a l ≡ by false false test3 test4
        past = ap (λ c. by c test2 test3 test4) (le-ltb a (var_total P) h1) ∙ ap (λ d. by false d test3 test4) (le-ltb l P.atoms h2)

        -- row 17, the length
        told3 : (length s ≡ P.atoms → ⊥) → Case
        told3 h =
            at_row 17 P.atoms (record { place = 5; met = wrong_length P A h; first = go })
            (refuses (BadSet P.atoms) (past ∙ ap (λ e. by false false (not e) test4) (ne_eqb (length s) P.atoms h)))
          where
            go : (k r u : ℕ) → FillRow t s a l k r u → NotAfter 5 17 P.atoms k r u
            go k r u (of_text ρ) = absurd (accepted_none t v r u ρ)
            go k r u (short_assignment Q b f) = absurd (none1 Q b f)
            go k r u (short_levels Q b f) = absurd (none2 Q b f)
            go k r u (wrong_length Q b f) = NotAfter.smaller refl (ap (λ (X : Program). X.atoms) (sym (same Q b))) (le_refl 17)
            go k r u (bad_byte Q b e i f g) = absurd (h (e ∙ ap (λ (X : Program). X.atoms) (same Q b)))
            go k r u (unfounded Q b i f g) = NotAfter.earlier (omega arith)

        module _ (h3 : length s ≡ P.atoms) where
          none3 : (Q : Program) → Admitted t Q → (length s ≡ Q.atoms → ⊥) → ⊥
          none3 Q b f = f (h3 ∙ ap (λ (X : Program). X.atoms) (sym (same Q b)))

          past3 : fill_result (code_of P) s a l ≡ by false false false test4
          past3 = past ∙ ap (λ e. by false false (not e) test4) (eq-eqb (length s) P.atoms h3)

          -- row 17, a byte
          bad_at : 0 < first_bad s → (first_bad s - 1 < length s) × (1 < get_or s (first_bad s - 1) 0)
          unfolding first_bad
          bad_at h =
              let f = first_is (length s) (λ i. ltb 1 (get_or s (pred i) 0)) in
              (omega (arith, h, f.within), ltb-true 1 (get_or s (first_bad s - 1) 0) (ap (λ (i : ℕ). ltb 1 (get_or s i 0)) (one_before (first_bad s)) ∙ f.passes h))

          bad_least : (i : ℕ) → i < length s → 1 < get_or s i 0 → first_bad s - 1 ≤ i
          unfolding first_bad
          bad_least i h g =
              let f = first_le (length s) (λ i. ltb 1 (get_or s (pred i) 0)) i h (lt-ltb 1 (get_or s i 0) g) in
              omega (arith, f)

          told4 : 0 < first_bad s → Case
          told4 h =
              at_row 17 (first_bad s - 1) (record { place = 5; met = bad_byte P A h3 (first_bad s - 1) (bad_at h).0 (bad_at h).1; first = go })
              (refuses (BadSet (first_bad s - 1)) (past3 ∙ ap (λ e. by false false false e) (lt-ltb 0 (first_bad s) h)))
            where
              go : (k r u : ℕ) → FillRow t s a l k r u → NotAfter 5 17 (first_bad s - 1) k r u
              go k r u (of_text ρ) = absurd (accepted_none t v r u ρ)
              go k r u (short_assignment Q b f) = absurd (none1 Q b f)
              go k r u (short_levels Q b f) = absurd (none2 Q b f)
              go k r u (wrong_length Q b f) = absurd (none3 Q b f)
              go k r u (bad_byte Q b e i f g) = no_larger 5 17 (first_bad s - 1) i (bad_least i f g)
              go k r u (unfounded Q b i f g) = NotAfter.earlier (omega arith)

          module _ (h4 : first_bad s ≤ 0) where
            none4 : (i : ℕ) → i < length s → 1 < get_or s i 0 → ⊥
            unfolding first_bad
            none4 i h g =
                let f = first_pos (length s) (λ i. ltb 1 (get_or s (pred i) 0)) i h (lt-ltb 1 (get_or s i 0) g) in
                omega (arith, f, h4)

            abbrev M : ℕ → Bool
            M = set_in P.atoms s

            past4 : fill_result (code_of P) s a l ≡ founded_result (code_of P) M
            past4 = past3 ∙ ap (λ e. by false false false e) (le-ltb 0 (first_bad s) h4)

            form : So (well_formed P)
            form = A.limits.all_atoms

            -- row 18
            least_differ : (v : ℕ) → So (is_atom P.atoms v) → (M v ≡ least_model P M v → ⊥) → differ P M ≤ v
            least_differ v i g =
                ⊎_elim (λ (q : differ P M ≤ v). q) (λ (q : v < differ P M). absurd (g (before v (atom_pos P.atoms v i) q))) (le_or_lt (differ P M) v)
              where
                before : (v : ℕ) → 0 < v → v < differ P M → M v ≡ least_model P M v
                before zero p q = absurd (omega (arith, p))
                before (suc v) p q = differ_before P form M v q

            told5 : 0 < differ P M → Case
            unfolding founded_result
            told5 h =
                at_row 18 (differ P M)
                (record { place = 6; met = unfounded P A (differ P M) (is_atom_lem P.atoms (differ P M) h (differ_le P form M)) (differ_at P form M h); first = go })
                (refuses (Unfounded (differ P M))
                (past4 ∙ ap (λ e. cond e (fill_refused (Unfounded (differ P M))) (Result.accepted 0 (value_bytes (code_fill (code_of P) M)) (tab P.atoms (level_of (code_of P) M)))) (lt-ltb 0 (differ P M) h)))
              where
                go : (k r u : ℕ) → FillRow t s a l k r u → NotAfter 6 18 (differ P M) k r u
                go k r u (of_text ρ) = absurd (accepted_none t v r u ρ)
                go k r u (short_assignment Q b f) = absurd (none1 Q b f)
                go k r u (short_levels Q b f) = absurd (none2 Q b f)
                go k r u (wrong_length Q b f) = absurd (none3 Q b f)
                go k r u (bad_byte Q b e i f g) = absurd (none4 i f g)
                go k r u (unfounded Q b i f g) =
                    no_larger 6 18 (differ P M) i
                    (least_differ i (subst (λ (X : Program). So (is_atom X.atoms i)) (same Q b) f)
                    (subst (λ (X : Program). set_in X.atoms s i ≡ least_model X (set_in X.atoms s) i → ⊥) (same Q b) g))

            atoms_alone : (i : ℕ) → So (M i) → So (is_atom P.atoms i)
            atoms_alone i e = and_left (is_atom P.atoms i) (value_in s i) e

            module _ (h5 : differ P M ≤ 0) where
              pub stable : Stable P M
              stable = (decided P form M atoms_alone).0 (omega (arith, h5))

              pub past5 : fill_result (code_of P) s a l ≡ Result.accepted 0 (value_bytes (fill P (width P.atoms) M)) (tab P.atoms (level P M))
              unfolding founded_result
              past5 =
                  past4 ∙ ap (λ e. cond e (fill_refused (Unfounded (differ P M))) (Result.accepted 0 (value_bytes (code_fill (code_of P) M)) (tab P.atoms (level_of (code_of P) M)))) (le-ltb 0 (differ P M) h5)
                  ∙ ap₂ (λ (vs : List Bool) (ℓ : ℕ → ℕ). Result.accepted 0 (value_bytes vs) (tab P.atoms ℓ)) (fill_whole P (width P.atoms) M) (fun_ext (level_whole P (width P.atoms) M))

              told6 : Case
              unfolding fill_answer
              told6 = met_none (record { count = _; highest = _; answer_is = ap (fill_verdict_of P.atoms) (result ∙ past5) }) go
                where
                  go : (k r u : ℕ) → FillRow t s a l k r u → ⊥
                  go k r u (of_text ρ) = accepted_none t v r u ρ
                  go k r u (short_assignment Q b f) = none1 Q b f
                  go k r u (short_levels Q b f) = none2 Q b f
                  go k r u (wrong_length Q b f) = none3 Q b f
                  go k r u (bad_byte Q b e i f g) = none4 i f g
                  go k r u (unfounded Q b i f g) =
                      subst (λ (X : Program). set_in X.atoms s i ≡ least_model X (set_in X.atoms s) i → ⊥) (same Q b) g (stable_least P form M stable i)

    accepted_told : Case
    accepted_told = go1 (le_or_lt (var_total P) a)
      where
        go5 : (h1 : var_total P ≤ a) (h2 : P.atoms ≤ l) (h3 : length s ≡ P.atoms) (h4 : first_bad s ≤ 0)
            → (differ P (set_in P.atoms s) ≤ 0) ⊎ (0 < differ P (set_in P.atoms s)) → Case
        go5 h1 h2 h3 h4 (inl h) = told6 h1 h2 h3 h4 h
        go5 h1 h2 h3 h4 (inr h) = told5 h1 h2 h3 h4 h

        go4 : (h1 : var_total P ≤ a) (h2 : P.atoms ≤ l) (h3 : length s ≡ P.atoms) → (first_bad s ≤ 0) ⊎ (0 < first_bad s) → Case
        go4 h1 h2 h3 (inl h) = go5 h1 h2 h3 h (le_or_lt (differ P (set_in P.atoms s)) 0)
        go4 h1 h2 h3 (inr h) = told4 h1 h2 h3 h

        go3 : (h1 : var_total P ≤ a) (h2 : P.atoms ≤ l) (d : Bool) → eqb (length s) P.atoms ≡ d → Case
        go3 h1 h2 true e = let q = eqb-true (length s) P.atoms e in go4 h1 h2 q (le_or_lt (first_bad s) 0)
        go3 h1 h2 false e = told3 h1 h2 (eqb-false (length s) P.atoms e)

        go2 : (h1 : var_total P ≤ a) → (P.atoms ≤ l) ⊎ (l < P.atoms) → Case
        go2 h1 (inl h) = go3 h1 h (eqb (length s) P.atoms) refl
        go2 h1 (inr h) = told2 h1 h

        go1 : (var_total P ≤ a) ⊎ (a < var_total P) → Case
        go1 (inl h) = go2 h (le_or_lt P.atoms l)
        go1 (inr h) = told1 h

    -- a stable set of the right form gives this result
    pub stable_result : var_total P ≤ a → P.atoms ≤ l → length s ≡ P.atoms → first_bad s ≤ 0 → Stable P (set_in P.atoms s)
        → fill_of t s a l ≡ Result.accepted 0 (value_bytes (fill P (width P.atoms) (set_in P.atoms s))) (tab P.atoms (level P (set_in P.atoms s)))
    stable_result h1 h2 h3 h4 σ =
        let M = set_in P.atoms s in
        let none = (decided P A.limits.all_atoms M (atoms_alone h1 h2 h3 h4)).1 σ in
        result ∙ past5 h1 h2 h3 h4 (omega (arith, none))

  pub fill_told : Case
  fill_told = go (read_of t).verdict refl
    where
      go : (x : ReadVerdict) → (read_of t).verdict ≡ x → Case
      go (Ok u) e = accepted_told e
      go (Err x) e = text_told x e

  -- ---- exactly

  is_refused : FillVerdict → Bool
  is_refused (Err r) = true
  is_refused (Ok x) = false

  refusal_in : FillVerdict → FillRefusal
  refusal_in (Err r) = r
  refusal_in (Ok x) = ShortBuffer 0

  one_answer : (r u q w : ℕ) → FillAnswers t s a l r u → FillAnswers t s a l q w → (r ≡ q) × (u ≡ w)
  unfolding refusal_in
  one_answer r u q w x y =
      let e = ap refusal_in (sym x.answer_is ∙ y.answer_is) in
      (sym x.row_is ∙ ap fill_number e ∙ y.row_is, sym x.spot_is ∙ ap fill_spot e ∙ y.spot_is)

  not_accepted : (r u : ℕ) → FillAnswers t s a l r u → FillAccepts t s a l → ⊥
  unfolding is_refused
  not_accepted r u x y = true≢false (ap is_refused (sym x.answer_is ∙ y.answer_is))

  pub fill_answers_first : (r u : ℕ) → FillAnswers t s a l r u → FirstFillRow t s a l r u
  fill_answers_first = Order.answers_first (FillRow t s a l) (FillAnswers t s a l) (FillAccepts t s a l) fill_told one_answer not_accepted

  pub first_fill_answers : (r u : ℕ) → FirstFillRow t s a l r u → FillAnswers t s a l r u
  first_fill_answers = Order.first_answers (FillRow t s a l) (FillAnswers t s a l) (FillAccepts t s a l) fill_told

  pub fill_accepts_none : FillAccepts t s a l → (k r u : ℕ) → FillRow t s a l k r u → ⊥
  fill_accepts_none = Order.accepts_none (FillRow t s a l) (FillAnswers t s a l) (FillAccepts t s a l) fill_told one_answer not_accepted

  pub none_fill_accepts : ((k r u : ℕ) → FillRow t s a l k r u → ⊥) → FillAccepts t s a l
  none_fill_accepts = Order.none_accepts (FillRow t s a l) (FillAnswers t s a l) (FillAccepts t s a l) fill_told

pub first_fill_one : (t s : List ℕ) (a l r u q w : ℕ) → FirstFillRow t s a l r u → FirstFillRow t s a l q w → (r ≡ q) × (u ≡ w)
first_fill_one t s a l = Order.first_one (FillRow t s a l)
