-- Stable models, accepted assignments and filled-out sets correspond, for every admitted program text.
--   shows_accepted     the values of an answer that shows a model are an accepted assignment
--   accepted_true      an accepted assignment has V values and makes every clause true
--   accepted_stable    its true atoms are a stable model, and it is the filled-out list of that model
--   accepted_counter   the counter of each atom is its level number
--   stable_accepted, exhibited, exhibited_fits   the filled-out list of a stable model is an accepted assignment: the answer that prints it is accepted
--   one_accepted       two accepted assignments with the same true atoms are equal
--   check_writes       what the check answers and writes for an answer with an accepted assignment
--   fill_agrees        filling out the set of its true atoms answers and writes the same
--   bytes_set          the bytes of a stable model
-- Assumes nothing.
use Prim.Native.Nat.{ℕ, zero, suc, ◌+◌, ◌^◌, ◌≤◌, ◌<◌}
use native.Mathlib.Nat.{le_refl}
use native.Mathlib.Omega.{arith}
use mathlib.Core.Path.{◌≡◌, refl, sym, ◌∙◌, ap, ap₂, subst}
use mathlib.Core.Logic.{◌⊎◌, inl, inr}
use mathlib.Core.Bool.{Bool, true, false, ◌&&◌, So, cond}
use mathlib.Core.List.{List, [], ◌++◌}
use lib.ListN.{length, get_or, drop, length-map, get_or-map}
use Rattle.lists.specs.Lists.{tab, sum, highest}
use Rattle.lists.proofs.Bools.{not_So, So-or-not}
use Rattle.lists.proofs.Tests.{all_in, all_at}
use Rattle.lists.proofs.Tables.{sum_ext, tab_ext, length_tab, get_or_tab}
use Rattle.lists.proofs.Highest.{highest_same}
use Rattle.meaning.specs.Program.{Program, Atoms, is_atom, well_formed}
use Rattle.meaning.specs.Stage.{Stable, level}
use Rattle.encoding.specs.Width.{width}
use Rattle.encoding.specs.Code.{code_of}
use Rattle.encoding.specs.Literal.{Clause, value_of, clause_true, all_true}
use Rattle.encoding.specs.Clauses.{sizes, clauses, variables}
use Rattle.encoding.specs.Fill.{fill, true_atoms, counter}
use Rattle.theory.proofs.Atoms.{is_atom_lem, by_place}
use Rattle.theory.proofs.Decided.{stable_atom}
use Rattle.theory.proofs.Base as Base
use Rattle.theory.proofs.Widths.{width_enough}
use Rattle.theory.proofs.Whole.{variables_whole}
use Rattle.clause_table_laws.proofs.Elements.{program_limited}
use Rattle.text.specs.Limits.{Admitted}
use Rattle.reader_laws.proofs.Unique.{text_unique}
use Rattle.answer_form.specs.Pieces.{Spotted, spots_of}
use Rattle.answer_offers.specs.Offered.{value_bytes, values_of, literals_for, offered, offered_text}
use Rattle.answer_values.specs.Rows.{AllFit}
use Rattle.answer_offers.proofs.Values.{values_length}
use Rattle.answer_offers.proofs.Offers.{offered_proper, offered_fits, offered_spots, offered_fit, offered_values}
use Rattle.clause_table_laws.proofs.Bounds.{variables_fit}
use Rattle.truth_clauses.specs.Truth.{value_in}
use Rattle.level_lists.specs.Bytes.{set_in}
use Rattle.call_results.specs.Results.{var_total}
use Rattle.call_results.proofs.ValueBytes.{value_same}
use Rattle.call_check_rows.specs.Check.{check_answer, check_assignment, check_levels}
use Rattle.call_check_rows.specs.Rows.{Offers, assumed_number, true_number, levels_of, clause_of, clause_number, EachTrue, Shows, ModelWritten}
use Rattle.call_check_rows.proofs.Spots.{offers_unique}
use Rattle.call_check_rows.proofs.Verdicts.{model_offers, true_accepted}
use Rattle.call_check_rows.proofs.Buffers.{shows_writes}
use Rattle.call_fill_rows.specs.FillOut.{fill_answer, fill_assignment, fill_levels}
use Rattle.call_fill_rows.proofs.Written.{stable_fills}
use Rattle.correspondence.specs.Accepted.{AcceptedAssignment, Room, CheckWrites, set_bytes, SetOf}
use Rattle.call_check_rows.specs.Verdict.{model_shown}
use Rattle.call_fill_rows.specs.Verdict.{filled_out}

-- ---- clauses, one by one and all together

module _ (P : Program) (bs : List Bool) where
  abbrev cs : List Clause
  cs = clauses P (width P.atoms)

  all_true_lem : ((j : ℕ) → 0 < j → j ≤ clause_number P → So (clause_true (value_of bs) (clause_of P j))) → So (all_true (value_of bs) cs)
  all_true_lem f = all_in (clause_true (value_of bs)) cs [] (λ j h. f (suc j) (omega arith) h)

  each_true_lem : So (all_true (value_of bs) cs) → (j : ℕ) → 0 < j → j ≤ clause_number P → So (clause_true (value_of bs) (clause_of P j))
  each_true_lem t zero p h = absurd (omega (arith, p))
  each_true_lem t (suc j) p h = all_at (clause_true (value_of bs)) cs [] t j h

module _ (t : List ℕ) (P : Program) (A : Admitted t P) where
  abbrev n : ℕ
  n = P.atoms

  abbrev w : ℕ
  w = width P.atoms

  form : So (well_formed P)
  form = A.limits.all_atoms

  wide : P.atoms + 2 ≤ 2 ^ width P.atoms
  wide = width_enough P.atoms

  total : var_total P ≡ variables P w
  total = variables_whole P w

  -- ---- an answer that is accepted

  module _ (u : List ℕ) (xs : List Spotted) (o : Offers u xs) where
    shows : (a l k h c : ℕ) → check_answer t u a l ≡ model_shown k h c → Shows t u a l P xs
    shows a l k h c e = go (model_offers t u a l k h c e)
      where
        go : ((Q : Program) × (ys : List Spotted) × Shows t u a l Q ys) → Shows t u a l P xs
        go (Q, ys, S) =
            subst (λ (X : Program). Shows t u a l X xs) (text_unique Q P (sym S.admitted.its_text ∙ A.its_text))
            (subst (Shows t u a l Q) (offers_unique S.offers o) S)

    -- what shows a model with some buffers shows it with all that have room
    with_room : {a l : ℕ} → Shows t u a l P xs → (b c : ℕ) → var_total P ≤ b → n ≤ c → Shows t u b c P xs
    with_room S b c h g =
        record {
          admitted = S.admitted;
          offers = S.offers;
          fit = S.fit;
          each_true_lem = S.each_true_lem;
          room = h;
          levels_room = g;
          not_overlong = S.not_overlong;
        }

    -- literals that name no variable above V and none twice, and whose values make each clause true, have an accepted assignment
    abbrev true_assignment : length u ≤ 65536 → AllFit (var_total P) xs → EachTrue P xs → {bs : List Bool} → values_of (var_total P) xs ≡ bs → AcceptedAssignment t P bs
    true_assignment f fit e v =
        let q = true_accepted t u (var_total P) n P xs A o f fit (le_refl (var_total P)) (le_refl n) e in
        record { answer = u; literals = xs; offers = o; its_values = v; count = q.0; highest = q.1; assumed = q.2; accepted = q.3 }

    abbrev pub shows_accepted : {a l : ℕ} → Shows t u a l P xs → AcceptedAssignment t P (values_of (var_total P) xs)
    shows_accepted S = true_assignment S.not_overlong S.fit S.each_true_lem refl

  -- ---- accepted assignments

  module _ (bs : List Bool) (X : AcceptedAssignment t P bs) where
    its_shows : Shows t X.answer (var_total P) n P X.literals
    its_shows = shows X.answer X.literals X.offers (var_total P) n X.count X.highest X.assumed X.accepted

    pub accepted_true : (length bs ≡ var_total P) × So (all_true (value_of bs) (clauses P w))
    accepted_true = (
      ap length (sym X.its_values) ∙ values_length (var_total P) X.literals,
      all_true_lem P bs (λ j p h. subst (λ (cs : List Bool). So (clause_true (value_of cs) (clause_of P j))) X.its_values (its_shows.each_true_lem j p h)),
    )

    pub accepted_stable : Stable P (true_atoms P bs) × (bs ≡ fill P w (true_atoms P bs))
    accepted_stable = (Base.exactly P w form wide bs (accepted_true.0 ∙ total)).0 accepted_true.1

    pub accepted_counter : (a : ℕ) → So (is_atom n a) → counter (sizes P w) (value_of bs) a ≡ level P (true_atoms P bs) a
    accepted_counter = Base.counter_is_level P w form wide bs accepted_true.1

    -- what the check answers and writes, for all buffers with room

    abbrev M : Atoms
    M = true_atoms P bs

    count_is : true_number P X.literals ≡ sum n (λ a. cond (M a) 1 0)
    count_is =
        ap (λ (cs : List Bool). sum n (λ a. cond (value_of cs a) 1 0)) X.its_values
        ∙ sum_ext n _ _ (λ i h. ap (λ (c : Bool). cond (c && value_of bs (suc i)) 1 0) (sym (is_atom_lem n (suc i) (omega arith) h)))

    level_is : (i : ℕ) → i < n → levels_of P X.literals (suc i) ≡ level P M (suc i)
    level_is i h =
        ap (λ (cs : List Bool). counter (sizes P w) (value_of cs) (suc i)) X.its_values
        ∙ accepted_counter (suc i) (is_atom_lem n (suc i) (omega arith) h)

    pub check_writes : (b l : List ℕ) → Room P b l → CheckWrites t P bs X b l
    check_writes b l r = go (shows_writes t X.answer b l P X.literals (with_room X.answer X.literals X.offers its_shows (length b) (length l) r.assignment r.levels))
      where
        go : ((k : ℕ) × (h : ℕ) × (c : ℕ) × (check_answer t X.answer (length b) (length l) ≡ model_shown k h c) × ModelWritten t X.answer b l P X.literals k h c)
            → CheckWrites t P bs X b l
        go (k, h, c, e, W) =
            record {
              answer_is =
                  e ∙ ap (model_shown k h) W.assumed_is
                  ∙ ap₂ (λ (x y : ℕ). model_shown x y (assumed_number P X.literals)) (W.count_is ∙ count_is)
                  (W.highest_is ∙ highest_same n (levels_of P X.literals) (level P M) level_is);
              assignment_is = W.assignment_is ∙ ap (λ (cs : List Bool). value_bytes cs ++ drop (var_total P) b) X.its_values;
              levels_are = W.levels_are ∙ ap (λ (ls : List ℕ). ls ++ drop n l) (tab_ext n (levels_of P X.literals) (level P M) level_is);
            }

    -- and filling out the set of its true atoms does the same
    pub fill_agrees : (s b l : List ℕ) → SetOf n s M → Room P b l
        → (fill_answer t s (length b) (length l) ≡ filled_out (sum n (λ a. cond (M a) 1 0)) (highest n (level P M)))
        × (fill_assignment t s b (length l) ≡ check_assignment t X.answer b (length l))
        × (fill_levels t s (length b) l ≡ check_levels t X.answer (length b) l)
    fill_agrees s b l S r =
        let σ = subst (Stable P) (sym S.its_atoms) accepted_stable.0 in
        let F = stable_fills t s b l P A (record { room = r.assignment; levels_room = r.levels; sized = S.sized; bytes = S.bytes; stable = σ }) in
        let C = check_writes b l r in (
          F.0 ∙ ap (λ (Y : Atoms). filled_out (sum n (λ a. cond (Y a) 1 0)) (highest n (level P Y))) S.its_atoms,
          F.1.assignment_is ∙ ap (λ (Y : Atoms). value_bytes (fill P w Y) ++ drop (var_total P) b) S.its_atoms ∙ ap (λ (cs : List Bool). value_bytes cs ++ drop (var_total P) b) (sym accepted_stable.1) ∙ sym C.assignment_is,
          F.1.levels_is ∙ ap (λ (Y : Atoms). tab n (level P Y) ++ drop n l) S.its_atoms ∙ sym C.levels_are,
        )

  pub one_accepted : (bs cs : List Bool) → AcceptedAssignment t P bs → AcceptedAssignment t P cs → true_atoms P bs ≡ true_atoms P cs → bs ≡ cs
  one_accepted bs cs X Y e =
      Base.one_list P w form wide bs cs ((accepted_true bs X).0 ∙ total) ((accepted_true cs Y).0 ∙ total) (accepted_true bs X).1 (accepted_true cs Y).1 e

  -- ---- the answer that prints the filled-out list

  module _ (M : Atoms) (σ : Stable P M) where
    abbrev bs : List Bool
    bs = fill P w M

    size : length bs ≡ var_total P
    size = Base.fill_length P w form wide M ∙ sym total

    offers : Offers (offered_text bs) (spots_of (offered bs))
    unfolding offered_text
    offers = record { before = []; lines = []; last = literals_for bs; after = []; is_proper = offered_proper bs; its_text = refl; literals_are = refl }

    fit : AllFit (var_total P) (spots_of (offered bs))
    fit = subst (λ (k : ℕ). AllFit k (spots_of (offered bs))) size (subst (AllFit (length bs)) (offered_spots bs) (offered_fit bs))

    values : values_of (var_total P) (spots_of (offered bs)) ≡ bs
    values = ap₂ values_of (sym size) (sym (offered_spots bs)) ∙ offered_values bs

    fits : length (offered_text bs) ≤ 65536
    fits = offered_fits bs (subst (λ (k : ℕ). k ≤ 9890) (sym size) (variables_fit (code_of P) (program_limited P A.limits)))

    pub stable_accepted : AcceptedAssignment t P bs
    stable_accepted = true_assignment (offered_text bs) (spots_of (offered bs)) offers fits fit true_each values
      where
        true_each : EachTrue P (spots_of (offered bs))
        true_each j p h = subst (λ (cs : List Bool). So (clause_true (value_of cs) (clause_of P j))) (sym values) (each_true_lem P bs (Base.fill_true P w form wide M σ) j p h)

    pub stable_atoms : true_atoms P bs ≡ M
    stable_atoms = Base.fill_has P w form wide M σ

    -- it is the text that prints the list, and it is short enough
    pub exhibited : stable_accepted.answer ≡ offered_text (fill P w M)
    unfolding offered_text stable_accepted
    exhibited = refl

    pub exhibited_fits : length stable_accepted.answer ≤ 65536
    unfolding stable_accepted
    exhibited_fits = fits

    inside : (a : ℕ) → So (is_atom n a) → value_in (set_bytes n M) a ≡ M a
    unfolding value_of
    inside = by_place n (λ a. value_in (set_bytes n M) a ≡ M a) (λ a h. value_same (tab n M) (suc a) ∙ get_or_tab n M false a h)

    -- its bytes are a set that filling out takes
    pub bytes_set : SetOf n (set_bytes n M) M
    bytes_set =
        record {
          sized = length-map (tab n M) (λ b. cond b 1 0) ∙ length_tab n M;
          bytes = λ i h. subst (λ (x : ℕ). x ≤ 1) (sym (get_or-map (λ b. cond b 1 0) (tab n M) i false)) (small (get_or (tab n M) i false));
          its_atoms = λ i a. same a i;
        }
      where
        small : (b : Bool) → cond b 1 0 ≤ 1
        small true = omega arith
        small false = omega arith

        outside : (a : ℕ) → is_atom n a ≡ false → M a ≡ false
        outside a e = go (So-or-not (M a))
          where
            go : So (M a) ⊎ (M a ≡ false) → M a ≡ false
            go (inl h) = absurd (not_So (is_atom n a) e (stable_atom P form M σ a h))
            go (inr h) = h

        same : (a : ℕ) → set_in n (set_bytes n M) a ≡ M a
        same a = go (is_atom n a) refl
          where
            go : (d : Bool) → is_atom n a ≡ d → (is_atom n a && value_in (set_bytes n M) a) ≡ M a
            go true e = ap (λ (c : Bool). c && value_in (set_bytes n M) a) e ∙ inside a e
            go false e = ap (λ (c : Bool). c && value_in (set_bytes n M) a) e ∙ sym (outside a e)
