-- What the two calls write, for any text, and how a run goes with its lines.
--   line_stays        a refused line writes nothing
--   line_writes       an accepted one writes line j from its place on, and nothing else
--   run_refused_as    a run is refused exactly as its first line is at place 0
--   run_stays         then it writes nothing
--   run_writes        an accepted run writes as many whole lines as fit, one after the other, and nothing else
-- Assumes nothing.
use Prim.Native.Nat.{ℕ, zero, suc, pred, ◌+◌, ◌-◌, ◌≤◌, ◌<◌}
use native.Mathlib.Nat.{not-suc-le-zero}
use native.Mathlib.Omega.{arith}
use mathlib.Core.Path.{◌≡◌, refl, sym, ◌∙◌, ap, ap₂, subst}
use mathlib.Core.Logic.{◌⊎◌, inl, inr, ◌↔◌}
use mathlib.Core.Bool.{Bool, true, false, true≢false, cond}
use mathlib.Core.List.{List, [], ◌∷◌, ◌++◌}
use lib.Dec.{ltb}
use lib.ListN.{length, get_or, take, drop, length-append, length-drop, drop_of_length-le}
use lib.Seq.{take-suc, drop-cons, get_or-drop}
use borrow.Author.Tests.{le-leb, lt-leb, ltb-true, ltb-false}
use Rattle.lists.specs.Lists.{tab, joined}
use Rattle.lists.proofs.Tests.{le_or_lt}
use Rattle.meaning.specs.Program.{Program}
use Rattle.encoding.specs.Code.{code_of}
use Rattle.reader.specs.Verdict.{read_of}
use Rattle.program.specs.Arrays.{decoded}
use Rattle.text.specs.Limits.{Admitted}
use Rattle.program.proofs.Decode.{decoded_kept}
use Rattle.reader_laws.proofs.Contents.{admitted_answer}
use Rattle.clause_table_laws.proofs.Elements.{program_limited}
use Rattle.clause_table_laws.proofs.Cells.{Own, own}
use Rattle.call_laws.proofs.Tabled.{stored}
use Rattle.refusals.specs.declared.LineRefusal.{LineRefusal}
use Rattle.clause_runs.specs.Lines.{clause_total, lines_of, line_of, fitting, run_in, code_run_bytes}
use Rattle.call_lines_rows.specs.Lines.{after_text, kept_bytes, answer_in, line_bytes_in, line_answer, line_bytes, after_text_run, run_answer_in, run_answer, run_bytes}
use Rattle.call_lines_rows.specs.Rows.{RunWritten}
use Rattle.clause_runs.proofs.Placed.{total_is, lines_count}
use Rattle.clause_runs.proofs.Runs.{fitting_few, fitting_room}
use Rattle.reader.specs.Verdict.{ReadVerdict}
use Rattle.reader.specs.declared.ReadResult.{ReadResult}
use Rattle.std.specs.Prelude.{Err, Ok}
use Rattle.call_lines_rows.specs.Verdicts.{LineVerdict, RunVerdict, written_run}

-- ---- the verdicts

abbrev refusal_in : LineVerdict → Bool
refusal_in (Err r) = true
refusal_in (Ok x) = false

abbrev run_refusal_in : RunVerdict → Bool
run_refusal_in (Err r) = true
run_refusal_in (Ok x) = false

abbrev length_in : LineVerdict → ℕ
length_in (Err r) = 0
length_in (Ok x) = x

abbrev lines_in : RunVerdict → ℕ
lines_in (Err r) = 0
lines_in (Ok x) = x.lines

abbrev bytes_count : RunVerdict → ℕ
bytes_count (Err r) = 0
bytes_count (Ok x) = x.bytes

abbrev as_line : ℕ → RunVerdict → LineVerdict
as_line c (Err r) = Err r
as_line c (Ok x) = Ok c

abbrev as_run : ℕ → ℕ → LineVerdict → RunVerdict
as_run m x (Err r) = Err r
as_run m x (Ok c) = written_run m x

-- ---- one line, by the two tests

module _ (p q : LineRefusal) (c : ℕ) (x y : List ℕ) where
  stays : (d e : Bool) {r : LineRefusal} → cond d (Err p) (cond e (Err q) (Ok c)) ≡ Err r → cond d x (cond e x y) ≡ x
  stays true e v = refl
  stays false true v = refl
  stays false false v = absurd (true≢false (sym (ap refusal_in v)))

  writes : (d e : Bool) {z : ℕ} → cond d (Err p) (cond e (Err q) (Ok c)) ≡ Ok z → (z ≡ c) × (cond d x (cond e x y) ≡ y)
  writes true e v = absurd (true≢false (ap refusal_in v))
  writes false true v = absurd (true≢false (ap refusal_in v))
  writes false false v = (sym (ap length_in v), refl)

pub line_stays : (t : List ℕ) (j k : ℕ) (b : List ℕ) (r : LineRefusal) → line_answer t j k (length b) ≡ Err r → line_bytes t j k b ≡ b
unfolding line_answer line_bytes
line_stays t j k b r = go (read_of t).verdict
  where
    go : (v : ReadVerdict) → after_text v (answer_in (code_of (decoded (read_of t).program)) j (length b - k)) ≡ Err r → kept_bytes v (line_bytes_in (code_of (decoded (read_of t).program)) j k b) b ≡ b
    go (Ok u) e = stays _ _ _ b _ (ltb (clause_total (decoded (read_of t).program)) j) (ltb (length b - k) (length (line_of (decoded (read_of t).program) j))) e
    go (Err q) e = refl

-- the program of an admitted text
program_read_lem : (t : List ℕ) (P : Program) → Admitted t P → decoded (read_of t).program ≡ P
program_read_lem t P a = ap (λ (r : ReadResult). decoded r.program) (admitted_answer t P a) ∙ decoded_kept P

verdict_read : (t : List ℕ) (P : Program) → Admitted t P → (read_of t).verdict ≡ Ok tt
verdict_read t P a = ap (λ (r : ReadResult). r.verdict) (admitted_answer t P a)

pub line_writes : (t : List ℕ) (j k : ℕ) (b : List ℕ) (x : ℕ) → line_answer t j k (length b) ≡ Ok x → (P : Program) → Admitted t P
    → (x ≡ length (line_of P j)) × (line_bytes t j k b ≡ take k b ++ (line_of P j ++ drop (k + x) b))
unfolding line_answer line_bytes
line_writes t j k b x e P a =
    let w = writes _ _ (length (line_of P j)) b (take k b ++ (line_of P j ++ drop (k + length (line_of P j)) b)) (ltb (clause_total P) j) (ltb (length b - k) (length (line_of P j))) (sym answer ∙ e) in
    (w.0, bytes ∙ w.1 ∙ ap (λ (n : ℕ). take k b ++ (line_of P j ++ drop (k + n) b)) (sym w.0))
  where
    answer : after_text (read_of t).verdict (answer_in (code_of (decoded (read_of t).program)) j (length b - k)) ≡ answer_in (code_of P) j (length b - k)
    answer = ap₂ (λ (v : ReadVerdict) (Q : Program). after_text v (answer_in (code_of Q) j (length b - k))) (verdict_read t P a) (program_read_lem t P a)

    bytes : kept_bytes (read_of t).verdict (line_bytes_in (code_of (decoded (read_of t).program)) j k b) b ≡ line_bytes_in (code_of P) j k b
    bytes = ap₂ (λ (v : ReadVerdict) (Q : Program). kept_bytes v (line_bytes_in (code_of Q) j k b) b) (verdict_read t P a) (program_read_lem t P a)

-- ---- a run is refused as its first line

module _ (p q : LineRefusal) (c m x : ℕ) where
  as_line_lem : (d e : Bool) → as_line c (cond d (Err p) (cond e (Err q) (written_run m x))) ≡ cond d (Err p) (cond e (Err q) (Ok c))
  as_line_lem true e = refl
  as_line_lem false true = refl
  as_line_lem false false = refl

  as_run_lem : (d e : Bool) → as_run m x (cond d (Err p) (cond e (Err q) (Ok c))) ≡ cond d (Err p) (cond e (Err q) (written_run m x))
  as_run_lem true e = refl
  as_run_lem false true = refl
  as_run_lem false false = refl

no_place : (n : ℕ) → n - 0 ≡ n
no_place n = omega arith

pub run_refused_as : (t : List ℕ) (j n : ℕ) (r : LineRefusal) → (run_answer t j n ≡ Err r) ↔ (line_answer t j 0 n ≡ Err r)
unfolding line_answer run_answer
run_refused_as t j n r = (to (read_of t).verdict, from (read_of t).verdict)
  where
    to : (v : ReadVerdict) → after_text_run v (run_answer_in (code_of (decoded (read_of t).program)) j n) ≡ Err r → after_text v (answer_in (code_of (decoded (read_of t).program)) j (n - 0)) ≡ Err r
    to (Ok u) e =
        ap (answer_in (code_of (decoded (read_of t).program)) j) (no_place n)
        ∙ sym (as_line_lem _ _ (length (line_of (decoded (read_of t).program) j)) _ _ (ltb (clause_total (decoded (read_of t).program)) j) (ltb n (length (line_of (decoded (read_of t).program) j))))
        ∙ ap (as_line (length (line_of (decoded (read_of t).program) j))) e
    to (Err q) e = ap (as_line 0) e

    from : (v : ReadVerdict) → after_text v (answer_in (code_of (decoded (read_of t).program)) j (n - 0)) ≡ Err r → after_text_run v (run_answer_in (code_of (decoded (read_of t).program)) j n) ≡ Err r
    from (Ok u) e =
        sym (as_run_lem _ _ (length (line_of (decoded (read_of t).program) j)) (fitting n (drop j (lines_of (decoded (read_of t).program)))) (length (joined (run_in (decoded (read_of t).program) j n))) (ltb (clause_total (decoded (read_of t).program)) j) (ltb n (length (line_of (decoded (read_of t).program) j))))
        ∙ ap (as_run (fitting n (drop j (lines_of (decoded (read_of t).program)))) (length (joined (run_in (decoded (read_of t).program) j n)))) (ap (answer_in (code_of (decoded (read_of t).program)) j) (sym (no_place n)) ∙ e)
    from (Err q) e = ap (as_run 0 0) e

-- ---- the lines of a run

-- m lines from line j on, one by one
some_lines : (ls : List (List ℕ)) (j m : ℕ) → j + m ≤ length ls → take m (drop j ls) ≡ tab m (λ i. get_or ls (j + pred i) [])
some_lines ls j zero h = refl
some_lines ls j (suc m) h =
    take-suc (drop j ls) m [] (subst (λ (k : ℕ). m < k) (sym (length-drop j ls)) (omega (arith, h)))
    ∙ ap₂ (λ (xs : List (List ℕ)) (x : List ℕ). xs ++ (x ∷ [])) (some_lines ls j m (omega (arith, h))) (get_or-drop j ls m [])

-- the line after them does not fit
fitting_most : (ls : List (List ℕ)) (n : ℕ) → fitting n ls < length ls → n < length (joined (take (fitting n ls) ls)) + length (get_or ls (fitting n ls) [])
fitting_most [] n h = absurd (not-suc-le-zero h)
fitting_most (l ∷ ls) n h = go (fitting_most ls (n - length l)) h (le_or_lt (length l) n)
  where
    go : (fitting (n - length l) ls < length ls → n - length l < length (joined (take (fitting (n - length l) ls) ls)) + length (get_or ls (fitting (n - length l) ls) []))
        → fitting n (l ∷ ls) < suc (length ls) → (length l ≤ n) ⊎ (n < length l)
        → n < length (joined (take (fitting n (l ∷ ls)) (l ∷ ls))) + length (get_or (l ∷ ls) (fitting n (l ∷ ls)) [])
    go f h (inl q) =
        subst (λ (k : ℕ). n < length (joined (take k (l ∷ ls))) + length (get_or (l ∷ ls) k [])) (sym fits)
        (omega (arith, length-append l (joined (take (fitting (n - length l) ls) ls)), q, f (omega (arith, fits, h))))
      where
        fits : fitting n (l ∷ ls) ≡ suc (fitting (n - length l) ls)
        fits = ap (λ (d : Bool). cond d (suc (fitting (n - length l) ls)) 0) (le-leb (length l) n q)
    go f h (inr q) =
        subst (λ (k : ℕ). n < length (joined (take k (l ∷ ls))) + length (get_or (l ∷ ls) k [])) (sym fits) (omega (arith, q))
      where
        fits : fitting n (l ∷ ls) ≡ 0
        fits = ap (λ (d : Bool). cond d (suc (fitting (n - length l) ls)) 0) (lt-leb (length l) n q)

-- ---- what a run writes

module _ (p q : LineRefusal) (m x : ℕ) where
  run_gives : (d e : Bool) {m' x' : ℕ} → cond d (Err p) (cond e (Err q) (written_run m x)) ≡ written_run m' x'
      → (d ≡ false) × (e ≡ false) × (m' ≡ m) × (x' ≡ x)
  run_gives true e v = absurd (true≢false (ap run_refusal_in v))
  run_gives false true v = absurd (true≢false (ap run_refusal_in v))
  run_gives false false v = (refl, refl, sym (ap lines_in v), sym (ap bytes_count v))

  run_refuses : (d e : Bool) {r : LineRefusal} → cond d (Err p) (cond e (Err q) (written_run m x)) ≡ Err r → (d ≡ true) ⊎ (e ≡ true)
  run_refuses true e v = inl refl
  run_refuses false true v = inr refl
  run_refuses false false v = absurd (true≢false (sym (ap run_refusal_in v)))

module _ (t : List ℕ) (v : (read_of t).verdict ≡ Ok tt) where
  abbrev P : Program
  P = decoded (read_of t).program

  T : Own (code_of P)
  T = own (code_of P) (program_limited P (stored t v).limits)

  lines_many : length (lines_of P) ≡ suc (clause_total P)
  lines_many = lines_count T ∙ ap suc (total_is T)

  first_fits : (j n : ℕ) → j ≤ clause_total P → length (line_of P j) ≤ n → 0 < fitting n (drop j (lines_of P))
  first_fits j n h q =
      subst (λ (k : ℕ). 0 < k)
      (sym
      (ap (fitting n) (drop-cons (lines_of P) j [] (subst (λ (k : ℕ). j < k) (sym lines_many) (omega (arith, h))))
      ∙ ap (λ (d : Bool). cond d (suc (fitting (n - length (line_of P j)) (drop (suc j) (lines_of P)))) 0) (le-leb (length (line_of P j)) n q)))
      (omega arith)

  none_fits : (j n : ℕ) → n < length (line_of P j) → fitting n (drop j (lines_of P)) ≡ 0
  none_fits j n q = go (le_or_lt (length (lines_of P)) j)
    where
      go : (length (lines_of P) ≤ j) ⊎ (j < length (lines_of P)) → fitting n (drop j (lines_of P)) ≡ 0
      go (inl h) = ap (fitting n) (drop_of_length-le (lines_of P) h)
      go (inr h) =
          ap (fitting n) (drop-cons (lines_of P) j [] h)
          ∙ ap (λ (d : Bool). cond d (suc (fitting (n - length (line_of P j)) (drop (suc j) (lines_of P)))) 0) (lt-leb (length (line_of P j)) n q)

  run_none_bytes : (j : ℕ) (b : List ℕ) {r : LineRefusal} → run_answer_in (code_of P) j (length b) ≡ Err r → code_run_bytes (code_of P) j b ≡ b
  run_none_bytes j b e = go (run_refuses _ _ _ _ (ltb (clause_total P) j) (ltb (length b) (length (line_of P j))) e)
    where
      empty : fitting (length b) (drop j (lines_of P)) ≡ 0 → code_run_bytes (code_of P) j b ≡ b
      empty z = ap (λ (k : ℕ). joined (take k (drop j (lines_of P))) ++ drop (length (joined (take k (drop j (lines_of P))))) b) z

      go : (ltb (clause_total P) j ≡ true) ⊎ (ltb (length b) (length (line_of P j)) ≡ true) → code_run_bytes (code_of P) j b ≡ b
      go (inl h) =
          empty (ap (fitting (length b)) (drop_of_length-le (lines_of P) (subst (λ (k : ℕ). k ≤ j) (sym lines_many) (ltb-true (clause_total P) j h))))
      go (inr h) = empty (none_fits j (length b) (ltb-true (length b) (length (line_of P j)) h))

  run_written : (j : ℕ) (b : List ℕ) {m x : ℕ} → run_answer_in (code_of P) j (length b) ≡ written_run m x → RunWritten P j b m x (code_run_bytes (code_of P) j b)
  run_written j b {m} {x} e =
      let g = run_gives _ _ _ _ (ltb (clause_total P) j) (ltb (length b) (length (line_of P j))) e in
      subst (λ (k : ℕ). RunWritten P j b k x (code_run_bytes (code_of P) j b)) (sym g.2)
      (subst (λ (k : ℕ). RunWritten P j b M k (code_run_bytes (code_of P) j b)) (sym g.3)
      (whole (ltb-false (clause_total P) j g.0) (ltb-false (length b) (length (line_of P j)) g.1)))
    where
      M : ℕ
      M = fitting (length b) (drop j (lines_of P))

      whole : j ≤ clause_total P → length (line_of P j) ≤ length b → RunWritten P j b M (length (joined (run_in P j (length b)))) (code_run_bytes (code_of P) j b)
      whole h q =
          record {
            some = first_fits j (length b) h q;
            listed = within;
            bytes_are = ap (λ (ls : List (List ℕ)). length (joined ls)) by_line;
            in_room = fitting_room (drop j (lines_of P)) (length b);
            text_is = ap (λ (ls : List (List ℕ)). joined ls ++ drop (length (joined (run_in P j (length b)))) b) by_line;
            most = λ f.
                subst (λ (l : List ℕ). length b < length (joined (run_in P j (length b))) + length l) (get_or-drop j (lines_of P) M [])
                (fitting_most (drop j (lines_of P)) (length b) (subst (λ (k : ℕ). M < k) (sym (length-drop j (lines_of P))) (omega (arith, f, lines_many))));
          }
        where
          within : j + M ≤ suc (clause_total P)
          within = omega (arith, fitting_few (drop j (lines_of P)) (length b), length-drop j (lines_of P), lines_many, h)

          by_line : run_in P j (length b) ≡ tab M (λ i. line_of P (j + pred i))
          by_line = some_lines (lines_of P) j M (subst (λ (k : ℕ). j + M ≤ k) (sym lines_many) within)

pub run_stays : (t : List ℕ) (j : ℕ) (b : List ℕ) (r : LineRefusal) → run_answer t j (length b) ≡ Err r → run_bytes t j b ≡ b
unfolding run_answer run_bytes
run_stays t j b r = go (read_of t).verdict refl
  where
    go : (v : ReadVerdict) → (read_of t).verdict ≡ v → after_text_run v (run_answer_in (code_of (decoded (read_of t).program)) j (length b)) ≡ Err r → kept_bytes v (code_run_bytes (code_of (decoded (read_of t).program)) j b) b ≡ b
    go (Ok u) v e = run_none_bytes t v j b e
    go (Err q) v e = refl

pub run_writes : (t : List ℕ) (j : ℕ) (b : List ℕ) (m x : ℕ) → run_answer t j (length b) ≡ written_run m x → (P : Program) → Admitted t P
    → RunWritten P j b m x (run_bytes t j b)
unfolding run_answer run_bytes
run_writes t j b m x e P a =
    subst (λ (Q : Program). RunWritten Q j b m x (kept_bytes (read_of t).verdict (code_run_bytes (code_of (decoded (read_of t).program)) j b) b)) (program_read_lem t P a)
    (subst (RunWritten (decoded (read_of t).program) j b m x) (sym (ap (λ (v : ReadVerdict). kept_bytes v (code_run_bytes (code_of (decoded (read_of t).program)) j b) b) (verdict_read t P a)))
    (run_written t (verdict_read t P a) j b (sym (ap (λ (v : ReadVerdict). after_text_run v (run_answer_in (code_of (decoded (read_of t).program)) j (length b))) (verdict_read t P a)) ∙ e)))
