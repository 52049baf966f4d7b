-- The result of the check, by the tests that the code makes.
--   gives_refused, gives_zeroed, front_zeroed   what a refusal answers and leaves
--   fresh, fresh_length            bytes without values, one for each variable
--   judged_false, judged_accepted   row 16, and acceptance
--   assigned_judged, assigned_refused   rows 13 and 14, then these
--   short_assignment, short_levels, overlong, form_refused, form_model   rows 8, 10, 11 and 12, then these
-- Assumes nothing.
use Prim.Native.Nat.{ℕ, suc, ◌+◌, ◌*◌, ◌≤◌, ◌<◌}
use native.Mathlib.Omega.{arith}
use mathlib.Core.Path.{◌≡◌, refl, sym, ◌∙◌, ap, ap₂, subst}
use mathlib.Core.Bool.{Bool, true, false, cond}
use mathlib.Core.List.{List, ◌++◌}
use lib.Dec.{ltb}
use lib.ListN.{length, get_or, take, drop, replicate, take-append-drop, length-replicate, length-map}
use lib.Seq.{take_at, take_all, drop_at, length-take-le}
use borrow.Author.Tests.{lt-ltb, le-ltb}
use Rattle.std.proofs.lemmas.List.{take-replicate}
use Rattle.lists.specs.Lists.{tab, highest}
use Rattle.lists.proofs.Tables.{length_tab, get_or_here}
use Rattle.lists.proofs.Highest.{highest_same}
use Rattle.encoding.specs.Code.{Code, code_sizes, variables_of}
use Rattle.encoding.specs.Fill.{counter}
use Rattle.clause_literals.specs.declared.Sizes.{Sizes}
use Rattle.answer_reader.specs.declared.AnswerFault.{AnswerFault}
use Rattle.answer_reader.specs.declared.AnswerFault.TheVariants.{NoModel, Malformed}
use Rattle.answer_reader.specs.Refusals.{refusal_of as answer_refusal}
use Rattle.answer_reader.specs.Results.{Formed, form_of}
use Rattle.answer_bytes.specs.declared.AssignFault.{AssignFault}
use Rattle.answer_bytes.specs.declared.AssignFault.TheVariants.{Stray, Repeated}
use Rattle.answer_bytes.specs.Refusals.{refusal_of as literal_refusal}
use Rattle.answer_bytes.specs.Bytes.{Outcome, unset_count, completed_byte, completed, overwritten, assigned_for}
use Rattle.answer_values.specs.Assign.{literals_from, assigned_of, assigned_bytes, read_outcome, read_bytes, ValuesRead, ModelRead, values_read, answer_read}
use Rattle.answer_form.specs.Pieces.{Spotted}
use Rattle.answer_values.proofs.Steps.{rest_kept}
use Rattle.answer_values.proofs.Rows.{literals_named}
use Rattle.answer_values.proofs.OnePass.{read_formed, model_read, fault_read}
use Rattle.clause_tables.specs.declared.Totals.{Totals}
use Rattle.clause_tables.specs.Tables.{totals_of, Tabled}
use Rattle.clause_table_laws.proofs.Elements.{atoms_are, vars_are}
use Rattle.clause_table_laws.proofs.Bounds.{vars_short}
use Rattle.truth_clauses.specs.Truth.{value_in, code_first_false}
use Rattle.call_results.specs.Results.{Result, true_count, level_byte, counters, assignment_after}
use Rattle.refusals.specs.declared.CheckRefusal.{CheckRefusal}
use Rattle.refusals.specs.declared.CheckRefusal.TheVariants.{ShortBuffer, OverlongAnswer, FalseClause}
use Rattle.call_check_rows.specs.Check.{zeroes, check_refused, values_judged, no_values, read_judged, after_assigning, assigned_result, form_result, answer_result, check_result, CheckGives}
use Rattle.call_check_rows.proofs.Agree.{unset_front, false_front, true_front, counters_front}
use Rattle.call_check_rows.specs.Verdict.{CheckVerdict, model_shown}
use Rattle.std.specs.Prelude.{Err, Ok}

-- ---- refusals

module _ (G : Code) {x : Result CheckRefusal} {q : CheckRefusal} (e : x ≡ check_refused q) (b l : List ℕ) where
  -- one that writes nothing
  pub gives_refused : zeroes q ≡ false → CheckGives G x (Err q) b b l l
  gives_refused z =
      subst (λ (y : Result CheckRefusal). CheckGives G y (Err q) b b l l) (sym e) (refl, sym (ap (λ d. cond d (overwritten (variables_of G) 0 b) b) z), refl)

  -- one that leaves zeros
  pub gives_zeroed : zeroes q ≡ true → {r : CheckVerdict} {c : List ℕ} → (r ≡ Err q) × (c ≡ overwritten (variables_of G) 0 b) → CheckGives G x r b c l l
  gives_zeroed z {r} {c} u =
      subst (λ (y : Result CheckRefusal). CheckGives G y r b c l l) (sym e) (u.0, u.1 ∙ sym (ap (λ d. cond d (overwritten (variables_of G) 0 b) b) z), refl)

-- the first n bytes are zeroed
pub front_zeroed : (n : ℕ) (b : List ℕ) {c : List ℕ} → n ≤ length b → c ≡ replicate (length (take n b)) 0 → c ++ drop n b ≡ overwritten n 0 b
unfolding overwritten
front_zeroed n b h e = ap (λ (c : List ℕ). c ++ drop n b) (e ∙ ap (λ (k : ℕ). replicate k 0) (length-take-le n b h))

-- ---- row 16

-- u of the values bs are assumed
module _ (G : Code) (u : ℕ) (bs : List ℕ) where
  abbrev judged_by : Bool → Result CheckRefusal
  judged_by f = cond f (check_refused (FalseClause (code_first_false G bs))) (Result.accepted u bs (counters (code_sizes G) bs))

  judged_by_lem : {f : Bool} → ltb 0 (code_first_false G bs) ≡ f → values_judged G u bs ≡ judged_by f
  unfolding values_judged
  judged_by_lem q = ap judged_by q

  pub judged_16 : 0 < code_first_false G bs → values_judged G u bs ≡ check_refused (FalseClause (code_first_false G bs))
  judged_16 g = judged_by_lem (lt-ltb 0 (code_first_false G bs) g)

  pub judged_none : code_first_false G bs ≤ 0 → values_judged G u bs ≡ Result.accepted u bs (counters (code_sizes G) bs)
  judged_none g = judged_by_lem (le-ltb 0 (code_first_false G bs) g)

  -- whatever it is, it leaves nothing of the first V bytes of the buffer
  judged_rest : (b c : List ℕ) → drop (variables_of G) b ≡ drop (variables_of G) c
      → assignment_after zeroes (variables_of G) (values_judged G u bs) b ≡ assignment_after zeroes (variables_of G) (values_judged G u bs) c
  unfolding values_judged overwritten
  judged_rest b c e = go (ltb 0 (code_first_false G bs))
    where
      go : (f : Bool) → assignment_after zeroes (variables_of G) (judged_by f) b ≡ assignment_after zeroes (variables_of G) (judged_by f) c
      go true = ap (λ (y : List ℕ). replicate (variables_of G) 0 ++ y) e
      go false = ap (λ (y : List ℕ). bs ++ y) e

-- ---- rows 13 and 14, from the code's answer for the outcome o of assigning

read_is : (G : Code) (o : Outcome) (k : ℕ) (bs : List ℕ) → read_judged G (values_read (assigned_for o) k) bs ≡ after_assigning o (values_judged G k bs)
read_is G Outcome.done k bs = refl
read_is G (Outcome.stray s) k bs = refl
read_is G (Outcome.repeated s) k bs = refl

-- ---- the same, with the totals given

levels_room : (G : Code) {b : ℕ} → variables_of G ≤ b → G.n + 2 * length G.rules + G.n * G.w ≤ b
levels_room G h = omega (arith, h)

module _ {G : Code} {t : Totals} {hs ss bs ks xs ys : List ℕ} (T : Tabled G t hs ss bs ks xs ys) where
  sizes_are : t.sizes ≡ record { n = G.n; m = length G.rules; w = G.w }
  unfolding totals_of
  sizes_are = ap (λ (y : Totals). y.sizes) T.totals_are

  pub atoms_is : t.sizes.n ≡ G.n
  atoms_is = atoms_are G t hs ss bs ks xs ys T

  vars_is : t.vars ≡ variables_of G
  vars_is = vars_are G t hs ss bs ks xs ys T

  pub vars_few : t.vars ≤ 9890
  vars_few = vars_short T

  -- the first bytes of an array of the call's own
  pub fresh : take t.vars (replicate 9890 2) ≡ no_values t.vars
  fresh = take-replicate t.vars 9890 2 vars_few

  pub fresh_length : length (take t.vars (replicate {A = ℕ} 9890 2)) ≡ t.vars
  fresh_length = ap (λ (y : List ℕ). length y) fresh ∙ length-replicate t.vars 2

  pub counters_asks : {b l : ℕ} → t.vars ≤ b → t.sizes.n ≤ l → (t.sizes.n + 2 * t.sizes.m + t.sizes.n * t.sizes.w ≤ b) × (t.sizes.n ≤ l)
  counters_asks {b} {l} h g =
      (subst (λ (s : Sizes). s.n + 2 * s.m + s.n * s.w ≤ b) (sym sizes_are) (levels_room G (subst (λ (k : ℕ). k ≤ b) vars_is h)), g)

  pub atoms_room : {b : ℕ} → t.vars ≤ b → t.sizes.n ≤ b
  atoms_room {b} h = omega (arith, (counters_asks {b = b} {l = t.sizes.n} h (omega arith)).0)

  -- ---- row 16, and acceptance

  module _ (b l : List ℕ) (u : ℕ) {j : ℕ} (f : j ≡ code_first_false G b) where
    false_is : code_first_false G (take (variables_of G) b) ≡ j
    false_is = false_front G T.limits b ∙ sym f

    pub judged_false : 0 < j → {r : CheckVerdict} {c : List ℕ} → (r ≡ Err (FalseClause j)) × (c ≡ overwritten t.vars 0 b)
        → CheckGives G (values_judged G u (take (variables_of G) b)) r b c l l
    judged_false h {r} {c} w =
        gives_zeroed G (judged_16 G u (take (variables_of G) b) (subst (λ (k : ℕ). 0 < k) (sym false_is) h) ∙ ap (λ (k : ℕ). check_refused (FalseClause k)) false_is) b l refl
        (w.0, w.1 ∙ ap (λ (k : ℕ). overwritten k 0 b) vars_is)

    -- m was written by the sizes s
    pub judged_accepted : j ≤ 0 → {s : Sizes} → t.sizes ≡ s → {m : List ℕ} {k h : ℕ} → m ≡ tab s.n (counter s (value_in b)) ++ drop s.n l
        → k ≡ true_count t.sizes.n b → h ≡ highest t.sizes.n (level_byte m) → CheckGives G (values_judged G u (take (variables_of G) b)) (model_shown k h u) b b l m
    judged_accepted g p {m} {k} {h} x y w =
        subst (λ (q : Result CheckRefusal). CheckGives G q (model_shown k h u) b b l m)
        (sym (judged_none G u (take (variables_of G) b) (subst (λ (k : ℕ). k ≤ 0) (sym false_is) g))) (
          ap₂ (λ (x y : ℕ). model_shown x y u) (y ∙ ap (λ (i : ℕ). true_count i b) atoms_is ∙ sym (true_front G T.limits b))
              (w ∙ ap (λ (i : ℕ). highest i (level_byte m)) atoms_is ∙ highest_same G.n (level_byte m) (level_byte cs) same_level),
          sym (take-append-drop (variables_of G) b),
          levels_are,
        )
      where
        cs : List ℕ
        cs = counters (code_sizes G) (take (variables_of G) b)

        levels_are : m ≡ cs ++ drop G.n l
        levels_are =
            x ∙ ap (λ (s : Sizes). tab s.n (counter s (value_in b)) ++ drop s.n l) (sym p ∙ sizes_are)
            ∙ ap (λ (y : List ℕ). y ++ drop G.n l) (sym (counters_front G T.limits b))

        same_level : (i : ℕ) → i < G.n → level_byte m (suc i) ≡ level_byte cs (suc i)
        same_level i p =
            ap (λ (y : List ℕ). get_or y i 0) levels_are
            ∙ get_or_here cs (drop G.n l) 0 G.n i (length_tab G.n (counter (code_sizes G) (value_in (take (variables_of G) b)))) p

  -- ---- rows 13 and 14

  module _ (vs b l : List ℕ) where
    abbrev values : List ℕ
    values = completed (take (variables_of G) vs)

    abbrev next : ValuesRead → Result CheckRefusal
    next v = read_judged G v values

    -- each literal is assigned, and u variables have no value; b₂ is the buffer with the values vs, completed
    pub assigned_judged : {v : ValuesRead} {u : ℕ} → v ≡ Ok u → t.vars ≤ length vs → {b₂ : List ℕ} → b₂ ≡ completed (take t.vars vs) ++ drop t.vars b
        → {r : CheckVerdict} {c m : List ℕ} → CheckGives G (values_judged G u (take (variables_of G) b₂)) r b₂ c l m → CheckGives G (next v) r b c l m
    assigned_judged {u = u} d h {b₂} e {r} {c} {m} w =
        subst (λ (y : ValuesRead). CheckGives G (next y) r b c l m) (sym d) (then (subst (λ (y : List ℕ). CheckGives G (values_judged G u y) r b₂ c l m) front_is w))
      where
        -- with V
        whole : b₂ ≡ values ++ drop (variables_of G) b
        whole = e ∙ ap (λ (k : ℕ). completed (take k vs) ++ drop k b) vars_is

        front_length : length values ≡ variables_of G
        front_length = length-map (take (variables_of G) vs) completed_byte ∙ length-take-le (variables_of G) vs (subst (λ (k : ℕ). k ≤ length vs) vars_is h)

        front_is : take (variables_of G) b₂ ≡ values
        front_is = ap (take (variables_of G)) whole ∙ take_at values (drop (variables_of G) b) (variables_of G) front_length

        rest_is : drop (variables_of G) b₂ ≡ drop (variables_of G) b
        rest_is = ap (drop (variables_of G)) whole ∙ drop_at values (drop (variables_of G) b) (variables_of G) front_length

        then : CheckGives G (values_judged G u values) r b₂ c l m → CheckGives G (values_judged G u values) r b c l m
        then w = (w.0, w.1 ∙ judged_rest G u values b₂ b rest_is, w.2)

    pub assigned_refused : {v : ValuesRead} {f : AssignFault} → v ≡ Err f → {r : CheckVerdict} {c : List ℕ}
        → (r ≡ Err (literal_refusal f)) × (c ≡ overwritten t.vars 0 b) → CheckGives G (next v) r b c l l
    assigned_refused {f = Stray s} d w = gives_zeroed G (ap next d) b l refl (w.0, w.1 ∙ ap (λ (k : ℕ). overwritten k 0 b) vars_is)
    assigned_refused {f = Repeated s} d w = gives_zeroed G (ap next d) b l refl (w.0, w.1 ∙ ap (λ (k : ℕ). overwritten k 0 b) vars_is)

  -- the values vs that the literals of an answer of the form give, from the bytes ns without values on
  module _ (answer : List ℕ) {i : ℕ} (q : form_of answer ≡ Ok i) {ns : List ℕ} (start : ns ≡ no_values t.vars) {vs : List ℕ} (g : vs ≡ read_bytes (length ns) answer ns)
      {v : ValuesRead} (e : values_read (assigned_for (read_outcome (length ns) answer ns)) (unset_count (length ns) vs) ≡ v) where
    abbrev ls : List Spotted
    ls = literals_from answer i

    abbrev alone : List ℕ
    alone = assigned_bytes t.vars ls (no_values t.vars)

    each_one : length ns ≡ t.vars
    each_one = ap (λ (y : List ℕ). length y) start ∙ length-replicate t.vars 2

    outcome_is : read_outcome (length ns) answer ns ≡ assigned_of t.vars ls (no_values t.vars)
    outcome_is = ap₂ (λ (n : ℕ) (y : List ℕ). read_outcome n answer y) each_one start ∙ (read_formed answer i q t.vars (no_values t.vars)).0

    alone_length : length alone ≡ t.vars
    alone_length = (rest_kept t.vars ls (no_values t.vars) (literals_named answer i)).1 ∙ length-replicate t.vars 2

    values_are : take t.vars vs ≡ alone
    values_are =
        ap (take t.vars) (g ∙ ap₂ (λ (n : ℕ) (y : List ℕ). read_bytes n answer y) each_one start ∙ (read_formed answer i q t.vars (no_values t.vars)).1)
        ∙ take_all t.vars alone (omega (arith, alone_length))

    unset_is : unset_count (length ns) vs ≡ unset_count t.vars (take t.vars vs)
    unset_is = ap (λ (n : ℕ). unset_count n vs) each_one ∙ sym (unset_front vs t.vars)

    assigned_is : read_judged G v (completed (take (variables_of G) vs)) ≡ assigned_result G answer i
    assigned_is =
        ap (λ (k : ℕ). read_judged G v (completed (take k vs))) (sym vars_is) ∙ ap (λ (y : ValuesRead). read_judged G y (completed (take t.vars vs))) (sym e)
        ∙ read_is G (read_outcome (length ns) answer ns) (unset_count (length ns) vs) (completed (take t.vars vs))
        ∙ ap₂ (λ (o : Outcome) (k : ℕ). after_assigning o (values_judged G k (completed (take t.vars vs)))) outcome_is unset_is
        ∙ ap (λ (y : List ℕ). after_assigning (assigned_of t.vars ls (no_values t.vars)) (values_judged G (unset_count t.vars y) (completed y))) values_are
        ∙ ap (λ (v : ℕ). after_assigning (assigned_of v ls (no_values v)) (values_judged G (unset_count v (assigned_bytes v ls (no_values v))) (completed (assigned_bytes v ls (no_values v))))) vars_is

  -- ---- rows 8, 10, 11 and 12

  module _ (answer : List ℕ) (k : ℕ) (b l : List ℕ) where
    abbrev x : Result CheckRefusal
    x = check_result G answer k (length b) (length l)

    pub short_assignment : length b < t.vars → CheckGives G x (Err (ShortBuffer t.vars)) b b l l
    short_assignment h =
        subst (λ (v : ℕ). CheckGives G x (Err (ShortBuffer v)) b b l l) (sym vars_is)
        (gives_refused G (ap (λ d. cond d (check_refused (ShortBuffer (variables_of G))) (cond (ltb (length l) G.n) (check_refused (ShortBuffer G.n)) (answer_result G answer k))) (lt-ltb (length b) (variables_of G) (subst (λ (v : ℕ). length b < v) vars_is h))) b l refl)

    module _ (enough : t.vars ≤ length b) where
      past_assignment : x ≡ cond (ltb (length l) G.n) (check_refused (ShortBuffer G.n)) (answer_result G answer k)
      past_assignment =
          ap (λ d. cond d (check_refused (ShortBuffer (variables_of G))) (cond (ltb (length l) G.n) (check_refused (ShortBuffer G.n)) (answer_result G answer k)))
          (le-ltb (length b) (variables_of G) (subst (λ (v : ℕ). v ≤ length b) vars_is enough))

      pub short_levels : length l < t.sizes.n → CheckGives G x (Err (ShortBuffer t.sizes.n)) b b l l
      short_levels h =
          subst (λ (v : ℕ). CheckGives G x (Err (ShortBuffer v)) b b l l) (sym atoms_is)
          (gives_refused G (past_assignment ∙ ap (λ d. cond d (check_refused (ShortBuffer G.n)) (answer_result G answer k)) (lt-ltb (length l) G.n (subst (λ (v : ℕ). length l < v) atoms_is h))) b l refl)

      module _ (room : t.sizes.n ≤ length l) where
        past_levels : x ≡ answer_result G answer k
        past_levels =
            past_assignment ∙ ap (λ d. cond d (check_refused (ShortBuffer G.n)) (answer_result G answer k)) (le-ltb (length l) G.n (subst (λ (v : ℕ). v ≤ length l) atoms_is room))

        pub overlong : 65536 < k → CheckGives G x (Err (OverlongAnswer k)) b b l l
        overlong h = gives_refused G (past_levels ∙ ap (λ d. cond d (check_refused (OverlongAnswer k)) (form_result G answer (form_of answer))) (lt-ltb 65536 k h)) b l refl

        module _ (short : k ≤ 65536) where
          by_form : {f : Formed} → form_of answer ≡ f → x ≡ form_result G answer f
          by_form q = past_levels ∙ ap (λ d. cond d (check_refused (OverlongAnswer k)) (form_result G answer (form_of answer))) (le-ltb 65536 k short) ∙ ap (form_result G answer) q

          -- y is what the code answers of the answer, by its form
          module _ {y : ModelRead} where
            pub form_refused : (v : ValuesRead) → y ≡ answer_read (form_of answer) v → {fault : AnswerFault} → y ≡ Err fault → CheckGives G x (Err (answer_refusal fault)) b b l l
            form_refused v e {fault = NoModel} q = gives_refused G (by_form (fault_read v (sym e ∙ q))) b l refl
            form_refused v e {fault = Malformed s} q = gives_refused G (by_form (fault_read v (sym e ∙ q))) b l refl

            pub form_model : {ns vs : List ℕ} → y ≡ answer_read (form_of answer) (values_read (assigned_for (read_outcome (length ns) answer ns)) (unset_count (length ns) vs))
                → {v : ValuesRead} → y ≡ Ok v → ns ≡ no_values t.vars → vs ≡ read_bytes (length ns) answer ns → {r : CheckVerdict} {c m : List ℕ}
                → CheckGives G (read_judged G v (completed (take (variables_of G) vs))) r b c l m → CheckGives G x r b c l m
            form_model e {v} q h g {r} {c} {m} w =
                let f = model_read (sym e ∙ q) in
                subst (λ (z : Result CheckRefusal). CheckGives G z r b c l m) (assigned_is answer f.1 h g f.2 ∙ sym (by_form f.1)) w
