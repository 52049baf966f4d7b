-- The loop over the rules that writes the pairs into the table.
--   Filled A r table t    the table and the tally after the first r rules of the program that A holds
--   filled_start      before the first rule
--   filled_next       one turn
--   filled_end        after the last rule and the last number, the table has all pairs
-- Assumes nothing.
use Prim.Native.Nat.{ℕ, suc, ◌+◌, ◌*◌, ◌≤◌, ◌<◌}
use native.Mathlib.Numerals.{add-one}
use native.Mathlib.Omega.{arith}
use mathlib.Core.Path.{◌≡◌, refl, sym, ◌∙◌, ap, ap₂, fun_ext}
use mathlib.Core.List.{List, [], ◌∷◌, ◌++◌, map, map-append}
use lib.ListN.{length, get_or, set, replicate, length-map, length-replicate}
use lib.Seq.{sets, length-sets}
use Rattle.lists.specs.Lists.{tab, each, sum}
use Rattle.lists.proofs.Tables.{sum_ext, length_tab, length_each}
use Rattle.meaning.specs.Program.{Program, rule_at}
use Rattle.encoding.specs.Width.{width}
use Rattle.encoding.specs.Clauses.{Pair, pairs, pairs_with, pairs_before}
use Rattle.theory.proofs.Whole.{pairs_whole, before_whole}
use Rattle.program.specs.declared.Program.{Program as Arrays}
use Rattle.program.specs.Arrays.{pad, list_in, decoded}
use Rattle.program.proofs.Pads.{length_pad}
use Rattle.text.specs.Limits.{Limits}
use Rattle.clause_tables.specs.Tables.{Stored}
use Rattle.clause_tables.proofs.Sizes.{size_of}
use Rattle.clause_tabling.specs.declared.Tally.{Tally}
use Rattle.clause_tabling.specs.Stages.{counted, laid, with_arrays, with_pairs}
use Rattle.clause_tabling.proofs.Stores.{set_behind, sets_behind}
use Rattle.clause_tabling.proofs.Held.{rules_many}
use Rattle.clause_tabling.proofs.Kept.{Here, here}
use Rattle.clause_tabling.proofs.Sums.{Summed, summed_start, body_size, summed_next, few}
use Rattle.clause_tabling.proofs.Laid.{set_before, sets_partners, sets_owners}

-- the pairs of rule r
abbrev pub row_of : Program → ℕ → List Pair
row_of P r = pairs_with (rule_at P.rules r).head (rule_at P.rules r).positive

-- of the first r rules of P: the number of pairs before each one, and one of the two atoms of each pair
abbrev pub numbers_to : Program → ℕ → List ℕ
numbers_to P r = pad 501 (tab r (pairs_before P))

abbrev pub atoms_to : Program → ℕ → (Pair → ℕ) → List ℕ
atoms_to P r g = pad 500 (map g (each r (row_of P)))

pub record Filled (A : Arrays) (r : ℕ) (table : List ℕ) (t : Tally) : Type 0 where
  pub sums : Summed A r t
  pub table_is : table ≡ laid A (numbers_to (decoded A) r) (atoms_to (decoded A) r (λ p. p.body)) (atoms_to (decoded A) r (λ p. p.head))

pub filled_start : (A : Arrays) (table : List ℕ) → table ≡ with_arrays A → Filled A 0 table (record { pairs = 0; empty = 0 })
unfolding with_arrays
filled_start A table e = record { sums = summed_start A; table_is = e }

-- ---- one rule

bodies_of_lem : (h : ℕ) (bs : List ℕ) → map (λ p. p.body) (pairs_with h bs) ≡ bs
bodies_of_lem h [] = refl
bodies_of_lem h (b ∷ bs) = ap (λ (xs : List ℕ). b ∷ xs) (bodies_of_lem h bs)

heads_of_lem : (h : ℕ) (bs : List ℕ) → map (λ p. p.head) (pairs_with h bs) ≡ replicate (length bs) h
heads_of_lem h [] = refl
heads_of_lem h (b ∷ bs) = ap (λ (xs : List ℕ). h ∷ xs) (heads_of_lem h bs)

module _ (P : Program) (l : Limits P) (r : ℕ) where
  row_count : (g : Pair → ℕ) → length (map g (each r (row_of P))) ≡ sum r (size_of P)
  row_count g = length-map (each r (row_of P)) g ∙ length_each r (row_of P) ∙ sum_ext r _ _ (λ i h. length-map (rule_at P.rules (suc i)).positive _)

  numbers_length : r ≤ length P.rules → length (numbers_to P r) ≡ 501
  numbers_length h = length_pad 501 (tab r (pairs_before P)) (omega (arith, length_tab r (pairs_before P), h, l.few_rules))

  numbers_next : r ≤ length P.rules → set (numbers_to P r) r (sum r (size_of P)) ≡ numbers_to P (suc r)
  unfolding pairs_before
  numbers_next h = set_behind (tab r (pairs_before P)) _ 501 r _ refl (length_tab r (pairs_before P)) (omega (arith, h, l.few_rules))

  module _ (h : r < length P.rules) where
    atoms_length : (g : Pair → ℕ) → length (atoms_to P r g) ≡ 500
    atoms_length g = length_pad 500 (map g (each r (row_of P))) (omega (arith, row_count g, few P l r h))

    -- the pairs of the next rule stored after the others, by one of their two atoms
    atoms_next : (g : Pair → ℕ) (ys : List ℕ) → length ys ≡ size_of P (suc r) → map g (row_of P (suc r)) ≡ ys
        → sets (atoms_to P r g) (sum r (size_of P)) ys ≡ atoms_to P (suc r) g
    atoms_next g ys e y =
        sets_behind (map g (each r (row_of P))) _ ys 500 (sum r (size_of P)) refl (row_count g) (omega (arith, e, few P l r h))
        ∙ ap (pad 500) (sym (map-append g (each r (row_of P)) (row_of P (suc r)) ∙ ap (λ (xs : List ℕ). map g (each r (row_of P)) ++ xs) y))

module _ (A : Arrays) (s : Stored A) (r : ℕ) (table : List ℕ) (t : Tally) (f : Filled A r table t) where
  abbrev P : Program
  P = decoded A

  abbrev partners : ℕ → List ℕ
  partners i = atoms_to P i (λ p. p.body)

  abbrev owners : ℕ → List ℕ
  owners i = atoms_to P i (λ p. p.head)

  -- how many pairs the first r rules have, and the body atoms and the head of each pair of the next rule
  abbrev K : ℕ
  K = sum r (size_of P)

  abbrev bs : List ℕ
  bs = (rule_at P.rules (suc r)).positive

  abbrev hs : List ℕ
  hs = replicate (size_of P (suc r)) (rule_at P.rules (suc r)).head

  number_next : set table (1016 + r) t.pairs ≡ laid A (numbers_to P (suc r)) (partners r) (owners r)
  number_next =
      ap₂ (λ (t : List ℕ) (k : ℕ). set t (1016 + r) k) f.table_is f.sums.pairs_sum
      ∙ set_before A s (numbers_to P r) (partners r) (owners r) (numbers_length P s.limits r f.sums.in_rules) r K
      (omega (arith, f.sums.in_rules, s.limits.few_rules))
      ∙ ap (λ (ks : List ℕ). laid A ks (partners r) (owners r)) (numbers_next P s.limits r f.sums.in_rules)

  pairs_next : r < length P.rules
      → sets (sets (laid A (numbers_to P (suc r)) (partners r) (owners r)) (1517 + K) bs) (2017 + K) hs
      ≡ laid A (numbers_to P (suc r)) (partners (suc r)) (owners (suc r))
  pairs_next h =
      ap (λ (t : List ℕ). sets t (2017 + K) hs) (sets_partners A s ks (partners r) (owners r) many some K bs (few P s.limits r h))
      ∙ sets_owners A s ks (sets (partners r) K bs) (owners r) many (length-sets (partners r) K bs ∙ some) K hs
      (atoms_length P s.limits r h (λ p. p.head)) (omega (arith, few P s.limits r h, as_many))
      ∙ ap₂ (λ (xs ys : List ℕ). laid A ks xs ys)
      (atoms_next P s.limits r h (λ p. p.body) bs refl (bodies_of_lem (rule_at P.rules (suc r)).head bs))
      (atoms_next P s.limits r h (λ p. p.head) hs as_many (heads_of_lem (rule_at P.rules (suc r)).head bs))
    where
      ks : List ℕ
      ks = numbers_to P (suc r)

      many : length ks ≡ 501
      many = numbers_length P s.limits (suc r) h

      some : length (partners r) ≡ 500
      some = atoms_length P s.limits r h (λ p. p.body)

      as_many : length hs ≡ size_of P (suc r)
      as_many = length-replicate (size_of P (suc r)) (rule_at P.rules (suc r)).head

  pub filled_end : (m : ℕ) → r ≡ A.rules → m ≡ A.rules → set table (1016 + m) t.pairs ≡ with_pairs A
  unfolding with_pairs pairs
  filled_end m q n =
      ap (λ (k : ℕ). set table (1016 + k) t.pairs) (n ∙ sym q) ∙ number_next
      ∙ ap (λ (k : ℕ). laid A (numbers_to P (suc k)) (partners k) (owners k)) (q ∙ sym (rules_many A))
      ∙ ap₂ (λ (f : ℕ → ℕ) (ps : List Pair). laid A (pad 501 (tab (suc (length P.rules)) f))
      (pad 500 (map (λ p. p.body) ps)) (pad 500 (map (λ p. p.head) ps)))
      (fun_ext (λ i. sym (before_whole P (width P.atoms) i))) (sym (pairs_whole P (width P.atoms)))

  -- one turn of the code
  pub filled_next : (h : r < A.rules) (body table' : List ℕ) (k : ℕ) → body ≡ list_in A (2 * r) → k ≡ t.pairs
      → table' ≡ sets (sets (set table (1016 + r) t.pairs) (1517 + k) body) (2017 + k) (replicate (length body) (get_or A.heads r 0))
      → Filled A (r + 1) table' (counted t (length body))
  filled_next h body table' k e ek et =
      record {
        sums = summed_next A s r t f.sums h (length body) (body_size A s r h body e);
        table_is = et ∙ same ∙ pairs_next at.is_rule ∙ ap (λ (k : ℕ). laid A (numbers_to P k) (partners k) (owners k)) (sym (add-one r));
      }
    where
      at : Here A P r
      at = here A s r h

      bodies : body ≡ bs
      bodies = e ∙ at.positive_is

      heads : replicate (length body) (get_or A.heads r 0) ≡ hs
      heads = ap₂ (λ (k y : ℕ). replicate k y) (body_size A s r h body e) at.head_is

      same : sets (sets (set table (1016 + r) t.pairs) (1517 + k) body) (2017 + k) (replicate (length body) (get_or A.heads r 0))
          ≡ sets (sets (laid A (numbers_to P (suc r)) (partners r) (owners r)) (1517 + K) bs) (2017 + K) hs
      same = λ i. sets (sets (number_next i) (1517 + (ek ∙ f.sums.pairs_sum) i) (bodies i)) (2017 + (ek ∙ f.sums.pairs_sum) i) (heads i)
