-- Filling out by the tests that the code makes, and on a text.
--   first_here, first_nowhere, bad_place_is        the first byte above 1, by the bytes before it
--   founded_refused, founded_accepted              row 18, and acceptance
--   short_assignment, short_levels, wrong_size, bad_at, set_founded   rows 8 and 17, then these
--   same_code, read_accepted, read_refused      on a program that was read, and on a text
-- Assumes nothing.
use Prim.Native.Nat.{ℕ, zero, suc, pred, ◌+◌, ◌-◌, ◌≤◌, ◌<◌}
use native.Mathlib.Nat.{le_antisymm}
use native.Mathlib.Omega.{arith}
use mathlib.Core.Path.{◌≡◌, refl, sym, ◌∙◌, ap, ap₂, subst, fun_ext}
use mathlib.Core.Logic.{⊎_elim}
use mathlib.Core.Bool.{Bool, false, not, So, cond, false≢true}
use mathlib.Core.List.{List, ◌++◌}
use lib.Dec.{eqb, ltb}
use lib.ListN.{length, get_or, take, drop, length-map, length-append}
use lib.Seq.{take_at, length-take-le}
use borrow.Author.Tests.{lt-ltb, le-ltb, eq-eqb, ne_eqb, ltb-true, ltb-false}
use Rattle.lists.specs.Lists.{tab, first, highest}
use Rattle.lists.proofs.Tests.{le_or_lt}
use Rattle.lists.proofs.First.{first_is, first_le, first_none}
use Rattle.lists.proofs.Tables.{length_tab, get_or_here, sum_ext}
use Rattle.lists.proofs.Highest.{highest_same}
use Rattle.meaning.specs.Program.{Atoms}
use Rattle.meaning.specs.Stage.{differ}
use Rattle.encoding.specs.Code.{Code, code_of, program_of, level_of, variables_of, code_fill}
use Rattle.theory.proofs.Theorem.{fill_vars}
use Rattle.refusals.specs.declared.TextRefusal.{TextRefusal}
use Rattle.reader.specs.Verdict.{read_of}
use Rattle.answer_offers.specs.Offered.{value_bytes}
use Rattle.clause_tables.specs.declared.Totals.{Totals}
use Rattle.digits.specs.Bytes.{Wrote}
use Rattle.clause_tables.specs.Tables.{Tabled}
use Rattle.clause_table_laws.proofs.Elements.{atoms_are, vars_are}
use Rattle.level_lists.specs.Bytes.{set_in}
use Rattle.level_stages.specs.Levels.{first_difference}
use Rattle.level_stages.proofs.Levels.{unlike_differ}
use Rattle.level_stages.proofs.Turns.{code_level}
use Rattle.call_results.specs.Results.{called, Result, true_count, level_byte, program_read}
use Rattle.call_results.proofs.ValueBytes.{atoms_within, value_here}
use Rattle.refusals.specs.declared.FillRefusal.{FillRefusal}
use Rattle.refusals.specs.declared.FillRefusal.TheVariants.{Text, ShortBuffer, BadSet, Unfounded}
use Rattle.call_fill_rows.specs.FillOut.{fill_refused, first_bad, bad_place, founded_result, fill_result, fill_after_reading, FillGives, fill_of, fill_answer, fill_assignment, fill_levels, fill_call}
use Rattle.reader.specs.Verdict.{ReadVerdict}
use Rattle.reader.specs.declared.ReadResult.{ReadResult}
use Rattle.std.specs.Prelude.{Err, Ok, Option, Some, None}
use Rattle.std.specs.List.{position_or_len}
use Rattle.std.proofs.lemmas.List.Sums.{fails_before_first, passes_at_first}
use Rattle.call_fill_rows.specs.Verdict.{FillVerdict, filled_out}

-- ---- the first byte above 1

abbrev NoneTo : List ℕ → ℕ → Type 0
NoneTo s i = (k : ℕ) → k < i → get_or s k 0 ≤ 1

first_here : (s : List ℕ) (i : ℕ) → NoneTo s i → i < length s → 1 < get_or s i 0 → i + 1 ≡ first_bad s
unfolding first_bad
first_here s i f h g = go (first (length s) p) refl
  where
    p : ℕ → Bool
    p j = ltb 1 (get_or s (pred j) 0)

    here : So (ltb 1 (get_or s i 0))
    here = lt-ltb 1 (get_or s i 0) g

    go : (k : ℕ) → first (length s) (λ j. ltb 1 (get_or s (pred j) 0)) ≡ k → i + 1 ≡ first (length s) (λ j. ltb 1 (get_or s (pred j) 0))
    go zero e = absurd (false≢true (sym ((first_is (length s) (λ j. ltb 1 (get_or s (pred j) 0))).none_at_all e i h) ∙ here))
    go (suc k) e = le_antisymm lower (omega (arith, first_le (length s) (λ j. ltb 1 (get_or s (pred j) 0)) i h here))
      where
        at : 1 < get_or s k 0
        at =
            let q = (first_is (length s) (λ j. ltb 1 (get_or s (pred j) 0))).passes (omega (arith, e)) in
            ltb-true 1 (get_or s k 0) (subst (λ (j : ℕ). So (ltb 1 (get_or s (pred j) 0))) e q)

        lower : i + 1 ≤ first (length s) (λ j. ltb 1 (get_or s (pred j) 0))
        lower = ⊎_elim (λ (q : i ≤ k). omega (arith, q, e)) (λ (q : k < i). absurd (omega (arith, f k q, at))) (le_or_lt i k)

first_nowhere : (s : List ℕ) (i : ℕ) → NoneTo s i → length s ≤ i → 0 ≡ first_bad s
unfolding first_bad
first_nowhere s i f h = sym (first_none (length s) (λ j. ltb 1 (get_or s (pred j) 0)) (λ k g. le-ltb 1 (get_or s k 0) (f k (omega (arith, g, h)))))

-- the place, from 0, of the number i, from 1; none for 0
abbrev place_of : ℕ → Option ℕ
place_of zero = None
place_of (suc i) = Some i

bad_place_is : (s : List ℕ) {r : Option ℕ} → r ≡ bad_place s → r ≡ place_of (first_bad s)
bad_place_is s e = e ∙ ⊎_elim none found (le_or_lt (length s) (position_or_len (λ x. ltb 1 x) s))
  where
    none_to : NoneTo s (position_or_len (λ x. ltb 1 x) s)
    none_to k g = ltb-false 1 (get_or s k 0) (fails_before_first (λ x. ltb 1 x) s k 0 g)

    none : length s ≤ position_or_len (λ x. ltb 1 x) s → bad_place s ≡ place_of (first_bad s)
    none h =
        ap (λ (b : Bool). cond b (Some (position_or_len (λ x. ltb 1 x) s)) None) (le-ltb (position_or_len (λ x. ltb 1 x) s) (length s) h)
        ∙ ap place_of (first_nowhere s (position_or_len (λ x. ltb 1 x) s) none_to h)

    found : position_or_len (λ x. ltb 1 x) s < length s → bad_place s ≡ place_of (first_bad s)
    found h =
        let i = position_or_len (λ x. ltb 1 x) s in
        let n : suc i ≡ first_bad s = omega (arith, first_here s i none_to h (ltb-true 1 (get_or s i 0) (passes_at_first (λ x. ltb 1 x) s 0 h))) in
        ap (λ (b : Bool). cond b (Some i) None) (lt-ltb i (length s) h) ∙ ap place_of n

-- the number, from 1, of a place
abbrev number_in : Option ℕ → ℕ
number_in None = 0
number_in (Some i) = suc i

number_of_place : (n : ℕ) → number_in (place_of n) ≡ n
number_of_place zero = refl
number_of_place (suc i) = refl

place_number : (n i : ℕ) → Some i ≡ place_of n → n ≡ suc i
place_number n i e = sym (number_of_place n) ∙ ap number_in (sym e)

no_place : (n : ℕ) → None ≡ place_of n → n ≤ 0
no_place n e = omega (arith, sym (number_of_place n) ∙ ap number_in (sym e))

-- ---- refusals

gives_refused : (G : Code) {x : Result FillRefusal} {q : FillRefusal} → x ≡ fill_refused q → (b l : List ℕ) → FillGives G x (Err q) b b l l
gives_refused G {x} {q} e b l = subst (λ (y : Result FillRefusal). FillGives G y (Err q) b b l l) (sym e) (refl, refl, refl)

-- how many values at the front of a list are true
true_here : (n : ℕ) (xs ys : List ℕ) → n ≤ length xs → true_count n (xs ++ ys) ≡ true_count n xs
unfolding true_count
true_here n xs ys h = sum_ext n _ _ (λ i g. ap (λ x. cond x 1 0) (value_here xs ys i (omega (arith, g, h))))

module _ {G : Code} {t : Totals} {hs ss bs ks xs ys : List ℕ} (T : Tabled G t hs ss bs ks xs ys) where
  atoms_is : t.sizes.n ≡ G.n
  atoms_is = atoms_are G t hs ss bs ks xs ys T

  vars_is : t.vars ≡ variables_of G
  vars_is = vars_are G t hs ss bs ks xs ys T

  pub atoms_few : t.sizes.n ≤ 126
  atoms_few = omega (arith, atoms_is, T.limits.within.few_atoms)

  -- ---- row 18

  module _ (s b l : List ℕ) where
    abbrev M : Atoms
    M = set_in G.n s

    set_is : set_in t.sizes.n s ≡ M
    set_is = ap (λ (k : ℕ). set_in k s) atoms_is

    founded_by : {d : Bool} → ltb 0 (differ (program_of G) M) ≡ d
        → founded_result G M ≡ cond d (fill_refused (Unfounded (differ (program_of G) M))) (Result.accepted 0 (value_bytes (code_fill G M)) (tab G.n (level_of G M)))
    unfolding founded_result
    founded_by e = ap (λ d. cond d (fill_refused (Unfounded (differ (program_of G) M))) (Result.accepted 0 (value_bytes (code_fill G M)) (tab G.n (level_of G M)))) e

    pub found_room : {f : List ℕ} (rest : List ℕ) → f ≡ tab t.sizes.n (level_of G (set_in t.sizes.n s)) ++ rest → t.sizes.n ≤ length f
    found_room rest e =
        omega (arith, ap length e, length-append (tab t.sizes.n (level_of G (set_in t.sizes.n s))) rest, length_tab t.sizes.n (level_of G (set_in t.sizes.n s)))

    pub front_room : {f : List ℕ} (rest : List ℕ) → f ≡ tab t.sizes.n (level_of G (set_in t.sizes.n s)) ++ rest → t.sizes.n ≤ length l → length (take t.sizes.n f) ≤ length l
    front_room {f} rest e h = subst (λ (k : ℕ). k ≤ length l) (sym (length-take-le t.sizes.n f (found_room rest e))) h

    -- the atoms have bytes in the filled-out values
    pub filled_room : {c : List ℕ} (rest : List ℕ) → c ≡ value_bytes (code_fill G (set_in t.sizes.n s)) ++ rest → t.sizes.n ≤ length c
    filled_room {c} rest e =
        let vs = code_fill G (set_in t.sizes.n s) in
        let k = length-map {B = ℕ} vs (λ b. cond b 1 0) in
        let v = fill_vars G (set_in t.sizes.n s) in
        let w = ap length e ∙ length-append (value_bytes vs) rest in
        omega (arith, k, v, w, atoms_is, atoms_within G)

    -- f holds the levels found
    module _ {f : List ℕ} (rest : List ℕ) (e : f ≡ tab t.sizes.n (level_of G (set_in t.sizes.n s)) ++ rest) {d : ℕ} (g : d ≡ first_difference t.sizes.n s f) where
      found_is : f ≡ tab G.n (level_of G M) ++ rest
      found_is = e ∙ ap (λ (k : ℕ). tab k (level_of G (set_in k s)) ++ rest) atoms_is

      differ_is : d ≡ differ (program_of G) M
      differ_is =
          g ∙ ap (λ (k : ℕ). first_difference k s f) atoms_is
          ∙ unlike_differ (program_of G) s f rest (found_is ∙ ap (λ (ℓ : ℕ → ℕ). tab G.n ℓ ++ rest) (fun_ext (code_level T.limits M)))

      pub founded_refused : 0 < d → FillGives G (founded_result G (set_in t.sizes.n s)) (Err (Unfounded d)) b b l l
      founded_refused h =
          subst (λ (X : Atoms). FillGives G (founded_result G X) (Err (Unfounded d)) b b l l) (sym set_is)
          (gives_refused G (founded_by (lt-ltb 0 (differ (program_of G) M) (subst (λ (k : ℕ). 0 < k) differ_is h)) ∙ ap (λ (k : ℕ). fill_refused (Unfounded k)) (sym differ_is)) b l)

      pub founded_accepted : d ≤ 0 → {c m : List ℕ} {j k h : ℕ} → c ≡ value_bytes (code_fill G (set_in t.sizes.n s)) ++ drop t.vars b
          → Wrote (take t.sizes.n f) l m j
          → k ≡ true_count t.sizes.n c → h ≡ highest t.sizes.n (level_byte m)
          → FillGives G (founded_result G (set_in t.sizes.n s)) (filled_out k h) b c l m
      founded_accepted z {c} {m} {j} {k} {h} u x y w =
          subst (λ (X : Atoms). FillGives G (founded_result G X) (filled_out k h) b c l m) (sym set_is)
          (subst (λ (q : Result FillRefusal). FillGives G q (filled_out k h) b c l m) (sym (founded_by (le-ltb 0 (differ (program_of G) M) (subst (λ (k : ℕ). k ≤ 0) differ_is z))))
          (ap₂ filled_out count_is highest_is, values_are, levels_are))
        where
          vs : List ℕ
          vs = value_bytes (code_fill G M)

          ls : List ℕ
          ls = tab G.n (level_of G M)

          values_are : c ≡ vs ++ drop (variables_of G) b
          values_are =
              u ∙ ap (λ (X : Atoms). value_bytes (code_fill G X) ++ drop t.vars b) set_is
              ∙ ap (λ (v : ℕ). value_bytes (code_fill G M) ++ drop v b) vars_is

          values_length : length vs ≡ variables_of G
          values_length = length-map (code_fill G M) (λ b. cond b 1 0) ∙ fill_vars G M

          front_is : take t.sizes.n f ≡ ls
          front_is = ap₂ take atoms_is found_is ∙ take_at ls rest G.n (length_tab G.n (level_of G M))

          levels_are : m ≡ ls ++ drop G.n l
          levels_are = x.bytes ∙ ap₂ (λ (y : List ℕ) (i : ℕ). y ++ drop i l) front_is (x.count ∙ ap length front_is ∙ length_tab G.n (level_of G M))

          count_is : k ≡ true_count G.n vs
          count_is =
              y ∙ ap₂ true_count atoms_is values_are ∙ true_here G.n vs (drop (variables_of G) b) (omega (arith, atoms_within G, values_length))

          highest_is : h ≡ highest G.n (level_byte ls)
          highest_is =
              w ∙ ap₂ (λ (i : ℕ) (y : List ℕ). highest i (level_byte y)) atoms_is levels_are
              ∙ highest_same G.n (level_byte (ls ++ drop G.n l)) (level_byte ls) (λ i g. get_or_here ls (drop G.n l) 0 G.n i (length_tab G.n (level_of G M)) g)

    -- ---- rows 8 and 17

    abbrev x : Result FillRefusal
    x = fill_result G s (length b) (length l)

    abbrev by : Bool → Bool → Bool → Bool → Result FillRefusal
    by c d e f =
        cond c (fill_refused (ShortBuffer (variables_of G)))
        (cond d (fill_refused (ShortBuffer G.n))
        (cond e (fill_refused (BadSet G.n)) (cond f (fill_refused (BadSet (first_bad s - 1))) (founded_result G M))))

    abbrev test2 : Bool
    test2 = ltb (length l) G.n

    abbrev test3 : Bool
    test3 = not (eqb (length s) G.n)

    abbrev test4 : Bool
    test4 = ltb 0 (first_bad s)

    pub short_assignment : length b < t.vars → FillGives G x (Err (ShortBuffer t.vars)) b b l l
    short_assignment h =
        subst (λ (v : ℕ). FillGives G x (Err (ShortBuffer v)) b b l l) (sym vars_is)
        (gives_refused G (ap (λ c. by c test2 test3 test4) (lt-ltb (length b) (variables_of G) (subst (λ (v : ℕ). length b < v) vars_is h))) b l)

    module _ (h1 : t.vars ≤ length b) where
      past1 : x ≡ by false test2 test3 test4
      past1 = ap (λ c. by c test2 test3 test4) (le-ltb (length b) (variables_of G) (subst (λ (v : ℕ). v ≤ length b) vars_is h1))

      pub short_levels : length l < t.sizes.n → FillGives G x (Err (ShortBuffer t.sizes.n)) b b l l
      short_levels h =
          subst (λ (v : ℕ). FillGives G x (Err (ShortBuffer v)) b b l l) (sym atoms_is)
          (gives_refused G (past1 ∙ ap (λ d. by false d test3 test4) (lt-ltb (length l) G.n (subst (λ (v : ℕ). length l < v) atoms_is h))) b l)

      module _ (h2 : t.sizes.n ≤ length l) where
        past2 : x ≡ by false false test3 test4
        past2 = past1 ∙ ap (λ d. by false d test3 test4) (le-ltb (length l) G.n (subst (λ (v : ℕ). v ≤ length l) atoms_is h2))

        pub wrong_size : (length s ≡ t.sizes.n → ⊥) → FillGives G x (Err (BadSet t.sizes.n)) b b l l
        wrong_size h =
            subst (λ (v : ℕ). FillGives G x (Err (BadSet v)) b b l l) (sym atoms_is)
            (gives_refused G (past2 ∙ ap (λ e. by false false (not e) test4) (ne_eqb (length s) G.n (λ q. h (q ∙ sym atoms_is)))) b l)

        module _ (h3 : length s ≡ t.sizes.n) where
          past3 : x ≡ by false false false test4
          past3 = past2 ∙ ap (λ e. by false false (not e) test4) (eq-eqb (length s) G.n (h3 ∙ atoms_is))

          pub bad_at : {i : ℕ} → Some i ≡ bad_place s → FillGives G x (Err (BadSet i)) b b l l
          bad_at {i} e =
              let n = place_number (first_bad s) i (bad_place_is s e) in
              gives_refused G (past3 ∙ ap (λ e. by false false false e) (lt-ltb 0 (first_bad s) (omega (arith, n))) ∙ ap (λ (k : ℕ). fill_refused (BadSet k)) (omega (arith, n))) b l

          pub set_founded : None ≡ bad_place s → {r : FillVerdict} {c m : List ℕ} → FillGives G (founded_result G (set_in t.sizes.n s)) r b c l m → FillGives G x r b c l m
          set_founded e {r} {c} {m} u =
              subst (λ (y : Result FillRefusal). FillGives G y r b c l m) (sym (past3 ∙ ap (λ e. by false false false e) (le-ltb 0 (first_bad s) (no_place (first_bad s) (bad_place_is s e)))))
              (subst (λ (X : Atoms). FillGives G (founded_result G X) r b c l m) set_is u)

-- ---- on a program that was read, and on a text

module _ (s b l : List ℕ) {r : FillVerdict} {c m : List ℕ} where
  pub same_code : {G H : Code} → G ≡ H → FillGives G (fill_result G s (length b) (length l)) r b c l m → FillGives H (fill_result H s (length b) (length l)) r b c l m
  same_code e u = subst (λ (X : Code). FillGives X (fill_result X s (length b) (length l)) r b c l m) e u

module _ (t s b l : List ℕ) {x : ReadResult} (e : x ≡ read_of t) {r : FillVerdict} {c m : List ℕ} where
  -- the answer and the buffers are those of the call
  as_called : {q : ReadVerdict} → x.verdict ≡ q → FillGives (code_of (program_read x)) (fill_after_reading q (fill_result (code_of (program_read x)) s (length b) (length l))) r b c l m
      → called r c m ≡ fill_call t s b l
  unfolding fill_of fill_answer fill_assignment fill_levels
  as_called v u =
      let w = subst (λ (y : ReadResult). FillGives (code_of (program_read y)) (fill_after_reading y.verdict (fill_result (code_of (program_read y)) s (length b) (length l))) r b c l m) e
      (subst (λ (q : ReadVerdict). FillGives (code_of (program_read x)) (fill_after_reading q (fill_result (code_of (program_read x)) s (length b) (length l))) r b c l m) (sym v) u) in
      λ i. called (w.0 i) (w.1 i) (w.2 i)

  pub read_accepted : x.verdict ≡ Ok tt → FillGives (code_of (program_read x)) (fill_result (code_of (program_read x)) s (length b) (length l)) r b c l m → called r c m ≡ fill_call t s b l
  read_accepted v u = as_called v u

pub read_refused : (t s b l : List ℕ) {x : ReadResult} → x ≡ read_of t → {q : TextRefusal} → x.verdict ≡ Err q → called (Err (Text q)) b l ≡ fill_call t s b l
read_refused t s b l {x} e {q} v = as_called t s b l e v (gives_refused (code_of (program_read x)) refl b l)
