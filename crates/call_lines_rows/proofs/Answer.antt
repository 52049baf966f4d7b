-- The answers of the two calls for a code whose tables are given, by the tests that the code makes.
-- Assumes nothing.
use Prim.Native.Nat.{ℕ, suc, ◌+◌, ◌-◌, ◌≤◌, ◌<◌}
use native.Mathlib.Omega.{arith}
use mathlib.Core.Path.{◌≡◌, sym, ◌∙◌, ap, ap₂, subst}
use mathlib.Core.Bool.{Bool, cond}
use mathlib.Core.Logic.{◌⊎◌, inl, inr}
use mathlib.Core.List.{List, [], ◌++◌}
use lib.Dec.{leb}
use lib.ListN.{length, take, drop, drop_of_length-le}
use lib.Seq.{drop-cons}
use borrow.Author.Tests.{le-leb, lt-leb}
use borrow.Rule.Slice.PartMut.{put_mid}
use Rattle.encoding.specs.Code.{Code, clause_total_of}
use Rattle.lists.specs.Lists.{joined}
use Rattle.lists.proofs.Tests.{le_or_lt}
use Rattle.digits.specs.Bytes.{Wrote}
use Rattle.digits.proofs.Tail.{lent, tail_length}
use Rattle.clause_tables.specs.declared.Totals.{Totals}
use Rattle.clause_tables.specs.Tables.{Tabled}
use Rattle.clause_places.specs.declared.Place.{Place}
use Rattle.clause_places.specs.Places.{place_at}
use Rattle.refusals.specs.declared.LineRefusal.TheVariants.{NoSuchClause, ShortBuffer}
use Rattle.clause_runs.specs.declared.RunPart.{RunPart}
use Rattle.clause_runs.specs.Lines.{code_lines, code_line, fitting, code_run, code_run_bytes, code_part}
use Rattle.call_lines_rows.specs.Lines.{answer_in, line_bytes_in, run_answer_in}
use Rattle.call_lines_rows.proofs.Cases.{answer_none, answer_short, answer_fits, bytes_none, bytes_short, bytes_fits, run_none, run_short, run_fits}
use Rattle.clause_runs.proofs.Placed.{total_is, lines_count, line_some}
use Rattle.clause_places.proofs.Numbers.{number_is}
use Rattle.std.specs.Prelude.{Err, Ok}
use Rattle.call_lines_rows.specs.Verdicts.{written_run}

module _ {G : Code} {t : Totals} {hs ss bs ks xs ys : List ℕ} (T : Tabled G t hs ss bs ks xs ys) (j : ℕ) where
  abbrev C : ℕ
  C = clause_total_of G

  abbrev need : ℕ
  need = length (code_line G j)

  past : t.clauses < j → C < j
  past h = subst (λ (k : ℕ). k < j) (total_is T) h

  within : j ≤ t.clauses → j ≤ C
  within h = subst (λ (k : ℕ). j ≤ k) (total_is T) h

  -- ---- the line at the place of line j

  module _ {c : Place} (e : c ≡ place_at G j) where
    pub need_is : {x : ℕ} → x ≡ length (code_line G c.number) → x ≡ need
    need_is q = q ∙ ap (λ (k : ℕ). length (code_line G k)) (number_is T e)

    pub placed_within : j ≤ t.clauses → c.number ≤ t.clauses
    placed_within h = subst (λ (k : ℕ). k ≤ t.clauses) (sym (number_is T e)) h

    pub placed_asks : {n : ℕ} → need ≤ n → length (code_line G c.number) ≤ n
    placed_asks {n} h = subst (λ (k : ℕ). length (code_line G k) ≤ n) (sym (number_is T e)) h

    pub placed_line : code_line G c.number ≡ code_line G j
    placed_line = ap (code_line G) (number_is T e)

    pub placed_part : (b : List ℕ) {q : RunPart} {l : List ℕ} → (q ≡ code_part G c.number (length b)) × (l ≡ code_run_bytes G c.number b)
        → (q ≡ code_part G j (length b)) × (l ≡ code_run_bytes G j b)
    placed_part b {q} {l} u = subst (λ (k : ℕ). (q ≡ code_part G k (length b)) × (l ≡ code_run_bytes G k b)) (number_is T e) u

  -- ---- one line

  module _ (k : ℕ) (b : List ℕ) where
    pub line_none : t.clauses < j → (Err (NoSuchClause t.clauses) ≡ answer_in G j (length b - k)) × (b ≡ line_bytes_in G j k b)
    line_none h =
        (ap (λ (n : ℕ). Err (NoSuchClause n)) (total_is T) ∙ sym (answer_none G j (length b - k) (past h)), sym (bytes_none G j k b (past h)))

    module _ (h : j ≤ t.clauses) where
      pub line_short : {x : ℕ} → x ≡ need → length b - k < x → (Err (ShortBuffer x) ≡ answer_in G j (length b - k)) × (b ≡ line_bytes_in G j k b)
      line_short {x} e f =
          (ap (λ (n : ℕ). Err (ShortBuffer n)) e ∙ sym (answer_short G j (length b - k) (within h) short), sym (bytes_short G j k b (within h) short))
        where
          short : length b - k < need
          short = subst (λ (n : ℕ). length b - k < n) e f

      -- the place is past the end
      pub line_past : {x : ℕ} → x ≡ need → length b < k → (Err (ShortBuffer x) ≡ answer_in G j (length b - k)) × (b ≡ line_bytes_in G j k b)
      line_past {x} e f = line_short e (omega (arith, e, f, line_some T j h))

      module _ {x : ℕ} (e : x ≡ need) (f : x ≤ length b - k) where
        enough : need ≤ length b - k
        enough = subst (λ (n : ℕ). n ≤ length b - k) e f

        pub line_asks : need ≤ length (take (length b - k) (drop k b))
        line_asks = subst (λ (n : ℕ). need ≤ n) (sym (tail_length b k)) enough

        pub line_written : {r : ℕ} {l : List ℕ} → Wrote (code_line G j) (take (length b - k) (drop k b)) l r
            → (Ok r ≡ answer_in G j (length b - k)) × (put_mid k (length b - k) b l ≡ line_bytes_in G j k b)
        line_written {r} {l} u =
            (ap Ok u.count ∙ sym (answer_fits G j (length b - k) (within h) enough), lent b k r (code_line G j) l u.bytes ∙ ap (λ (n : ℕ). take k b ++ (code_line G j ++ drop (k + n) b)) u.count ∙ sym (bytes_fits G j k b (within h) enough))

  -- ---- a run of lines

  module _ (b : List ℕ) where
    abbrev n : ℕ
    n = length b

    abbrev ls : List (List ℕ)
    ls = drop j (code_lines G)

    pub run_past : t.clauses < j → (Err (NoSuchClause t.clauses) ≡ run_answer_in G j n) × (b ≡ code_run_bytes G j b)
    run_past h =
        (ap (λ (n : ℕ). Err (NoSuchClause n)) (total_is T) ∙ sym (run_none G j n (past h)), sym (ap (λ (ms : List (List ℕ)). joined (take (fitting n ms) ms) ++ drop (length (joined (take (fitting n ms) ms))) b) (drop_of_length-le (code_lines G) (subst (λ (k : ℕ). k ≤ j) (sym (lines_count T)) h))))

    module _ (h : j ≤ t.clauses) where
      fits_first : fitting n ls ≡ cond (leb need n) (suc (fitting (n - need) (drop (suc j) (code_lines G)))) 0
      fits_first = ap (fitting n) (drop-cons (code_lines G) j [] (subst (λ (k : ℕ). j < k) (sym (lines_count T)) (omega (arith, h))))

      some_lines : need ≤ n → fitting n ls ≡ 0 → ⊥
      some_lines q e = omega (arith, sym e ∙ fits_first ∙ ap (λ (d : Bool). cond d (suc (fitting (n - need) (drop (suc j) (code_lines G)))) 0) (le-leb need n q))

      no_line : n < need → fitting n ls ≡ 0
      no_line q = fits_first ∙ ap (λ (d : Bool). cond d (suc (fitting (n - need) (drop (suc j) (code_lines G)))) 0) (lt-leb need n q)

      pub run_refused : {x y : ℕ} → x ≡ fitting n ls → x ≡ 0 → y ≡ need → Err (ShortBuffer y) ≡ run_answer_in G j n
      run_refused {x} {y} e z f = go (le_or_lt need n)
        where
          go : (need ≤ n) ⊎ (n < need) → Err (ShortBuffer y) ≡ run_answer_in G j n
          go (inl q) = absurd (some_lines q (sym e ∙ z))
          go (inr q) = ap (λ (k : ℕ). Err (ShortBuffer k)) f ∙ sym (run_short G j n (within h) q)

      pub run_written : {x y : ℕ} → x ≡ fitting n ls → y ≡ length (joined (code_run G j n)) → (x ≡ 0 → ⊥) → written_run x y ≡ run_answer_in G j n
      run_written {x} {y} e f z = go (le_or_lt need n)
        where
          go : (need ≤ n) ⊎ (n < need) → written_run x y ≡ run_answer_in G j n
          go (inl q) = ap₂ written_run e f ∙ sym (run_fits G j n (within h) q)
          go (inr q) = absurd (z (e ∙ no_line q))
