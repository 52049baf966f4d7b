-- The parts of the clause file, one after the other, from the tables of the program: together they are the clause file.
-- Assumes nothing.
use Prim.Native.Nat.{ℕ, ◌+◌, ◌≤◌, ◌<◌}
use native.Mathlib.Omega.{arith}
use mathlib.Core.Path.{◌≡◌, sym, ◌∙◌, ap, ap₂, subst}
use mathlib.Core.List.{List, ◌++◌}
use lib.ListN.{length, take, drop, length-append, length-drop}
use lib.Seq.{length-take-le, take-add, take_all}
use Rattle.lists.specs.Lists.{joined}
use Rattle.encoding.specs.Code.{Code, clause_total_of}
use Rattle.clause_tables.specs.declared.Totals.{Totals}
use Rattle.clause_tables.specs.Tables.{Tabled}
use Rattle.clause_places.specs.declared.Place.{Place}
use Rattle.clause_places.specs.Places.{place_at}
use Rattle.clause_runs.specs.declared.RunPart.{RunPart}
use Rattle.clause_runs.specs.Lines.{code_lines, fitting, code_part, code_run, code_run_bytes}
use Rattle.clause_runs.proofs.Runs.{joined_append, part_bytes, part_place, part_within, part_onward}
use Rattle.clause_table_laws.proofs.Elements.{clauses_are}
use Rattle.clause_table_laws.proofs.Bounds.{clauses_short}
use Rattle.clause_runs.proofs.Placed.{lines_count}
use Rattle.writer_output.specs.Output.{Stands, PartPut}

module _ {G : Code} {t : Totals} {hs ss bs ks xs ys : List ℕ} (T : Tabled G t hs ss bs ks xs ys) where
  pub total_is : t.clauses ≡ clause_total_of G
  total_is = clauses_are G t hs ss bs ks xs ys T

  module _ (c : Place) (h : c.number ≤ t.clauses) (b : List ℕ) (f : 3008 ≤ length b) {q : RunPart} {l : List ℕ}
      (v : (q ≡ code_part G c.number (length b)) × (l ≡ code_run_bytes G c.number b)) where
    bytes_in_lem : q.bytes ≤ length b
    bytes_in_lem = part_bytes T c.number (length b) v.0

    same_length : length l ≡ length b
    same_length =
        ap length v.1 ∙ length-append (joined (code_run G c.number (length b))) (drop (length (joined (code_run G c.number (length b)))) b)
        ∙ whole (length (joined (code_run G c.number (length b)))) (ap (λ (x : RunPart). x.bytes) v.0)
      where
        whole : (x : ℕ) → q.bytes ≡ x → x + length (drop x b) ≡ length b
        whole x e = omega (arith, e, bytes_in_lem, length-drop x b)

    within : q.bytes ≤ length l
    within = subst (λ (x : ℕ). q.bytes ≤ x) (sym same_length) bytes_in_lem

    number_then : q.place.number ≡ c.number + fitting (length b) (drop c.number (code_lines G))
    number_then = ap (λ (x : RunPart). x.place.number) v.0

    -- the lines before the next place are those before c and those of the part
    before_then : joined (take q.place.number (code_lines G)) ≡ joined (take c.number (code_lines G)) ++ joined (code_run G c.number (length b))
    before_then =
        ap (λ (j : ℕ). joined (take j (code_lines G))) number_then
        ∙ ap joined (take-add c.number (fitting (length b) (drop c.number (code_lines G))) (code_lines G))
        ∙ joined_append (take c.number (code_lines G)) (code_run G c.number (length b))

    module _ (n : ℕ) (s : Stands G c n) (g : length b ≤ 65536) where
      handed_then : n + q.bytes ≡ length (joined (take q.place.number (code_lines G)))
      handed_then =
          ap₂ (λ (x y : ℕ). x + y) s.handed (ap (λ (x : RunPart). x.bytes) v.0)
          ∙ sym (length-append (joined (take c.number (code_lines G))) (joined (code_run G c.number (length b)))) ∙ sym (ap length before_then)

      pub part_put : PartPut G c n b q l
      part_put =
          record {
            part_is = v.0;
            bytes_are = v.1;
            counts = (within, sym (length-take-le q.bytes l within));
            onward = onward;
            stands =
                record {
                  placed = part_place T c.number (length b) v.0 h;
                  within = omega (arith, part_within T c.number (length b) v.0 h, total_is);
                  handed = handed_then;
                  bounded = omega (arith, s.bounded, bytes_in_lem, g, onward);
                };
          }
        where
          onward : c.number < q.place.number
          onward = part_onward T c.number (length b) v.0 h f

  pub total_short : t.clauses ≤ 53690
  total_short = clauses_short T

  -- ---- the beginning and the end

  pub first_stands : {c : Place} → c ≡ place_at G 0 → Stands G c 0
  first_stands {c} e = record { placed = e ∙ ap (place_at G) (sym number); within = omega (arith, number); handed = ap (λ (j : ℕ). length (joined (take j (code_lines G)))) (sym number); bounded = omega arith }
    where
      number : c.number ≡ 0
      number = ap (λ (d : Place). d.number) e

  -- at the place after the last line all of the clause file has been handed over
  pub stands_end : {c : Place} {n : ℕ} → Stands G c n → t.clauses < c.number → n ≡ length (joined (code_lines G))
  stands_end {c} {n} s h =
      s.handed ∙ ap (λ (x : List (List ℕ)). length (joined x)) (take_all c.number (code_lines G) (omega (arith, lines_count T, h)))
