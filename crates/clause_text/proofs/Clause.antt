-- The text of a clause, literal by literal.
--   slotted            a slot is empty or holds one literal, of a variable from 1 to 9,890
--   line_short         the line has at most 3,008 bytes
--   total_length       the bytes of literals, added up from their numbers
--   turn_bits          a number of a clause is that of its bits too
--   part_fits          there is room for one literal more
--   sum_fits           the number of bytes with it is small
--   text_next          it has been written
--   end_small, end_fits, line_text_lem, line_kept   room for the end of the line, and the buffer with the line
-- Assumes nothing.
use Prim.Native.Nat.{ℕ, zero, suc, ◌+◌, ◌≤◌, ◌<◌}
use native.Mathlib.Nat.{not-suc-le-zero, le_of_suc-le-suc}
use native.Mathlib.Numerals.{add-one}
use native.Mathlib.Omega.{arith}
use mathlib.Core.Path.{◌≡◌, refl, sym, ◌∙◌, ap, subst}
use mathlib.Core.List.{List, [], ◌∷◌, ◌++◌, map, append_assoc, append-nil}
use lib.IntN.{ℤ}
use lib.ListN.{length, take, set, length-append}
use mir.Syntax.{w32}
use mir.Val.{to_z, of_z}
use mir.Facts.{to_z-of_z}
use Rattle.std.specs.List.{fold}
use Rattle.encoding.specs.Code.{Code}
use Rattle.encoding.specs.Literal.{Literal, literal_number}
use Rattle.digits.specs.Bytes.{literal_text, literals_text, line_text, Room, Wrote}
use Rattle.digits.proofs.Lengths.{word_length, line_length}
use Rattle.digits.proofs.Wrote.{room_as, wrote_as, wrote_kept, wrote_end, end_room}
use Rattle.clause_walk.specs.Walk.{slots, slot, At}
use Rattle.clause_tables.specs.declared.Totals.{Totals}
use Rattle.clause_tables.specs.Tables.{Tabled}
use Rattle.clause_table_laws.proofs.Bounds.{Slotted, literal_in_lem, line_fits}
use Rattle.clause_table_laws.proofs.Cells.{arrays}
use Rattle.clause_cells.specs.Held.{table_code}
use Rattle.clause_literals.proofs.Signed.{abs_fits}
use Rattle.clause_iter.proofs.Numbers.{Turn, number_small}
use Rattle.clause_layout.specs.declared.TableClause.{TableClause}
use Rattle.clause_layout.specs.Clauses.{literals_of}

module _ {G : Code} {t : Totals} {hs ss bs ks xs ys : List ℕ} (T : Tabled G t hs ss bs ks xs ys) {g a i y : ℕ} (A : At G g a i y) where
  pub slotted : (l : ℕ) → 0 < l → l ≤ slots G g a i y → Slotted (slot G g a i y l)
  slotted l p h = literal_in_lem G T.limits g a i y l A p h

pub line_short : (c : TableClause) → length (line_text (literals_of c)) ≤ 3008
line_short c = line_fits (table_code c.block.table) (arrays c.block.table.ready).limits c.block.group c.block.item c.block.number c.number c.stands

-- ---- how many bytes

-- how many bytes the literal with this number has with one space
abbrev pub bytes : ℤ → ℕ
bytes z = length (literal_text z) + 1

total_from : (n : ℕ) (ls : List Literal) → fold (λ (k : ℕ) (z : ℤ). k + bytes z) n (map literal_number ls) ≡ n + length (literals_text ls)
total_from n [] = omega arith
total_from n (l ∷ ls) =
    total_from (n + bytes (literal_number l)) ls
    ∙ omega (arith, length-append (literal_text (literal_number l) ++ (32 ∷ [])) (literals_text ls), word_length (literal_number l))

pub total_length : (ls : List Literal) {r : ℕ} → r ≡ fold (λ (k : ℕ) (z : ℤ). k + bytes z) 0 (map literal_number ls) → r + 2 ≡ length (line_text ls)
total_length ls e = omega (arith, e, total_from 0 ls, line_length ls)

-- ---- the first k literals

abbrev text : List Literal → ℕ → List ℕ
text ls k = literals_text (take k ls)

-- a number of a clause is that of its bits too
pub turn_bits : (c : TableClause) (k : ℕ) (z : ℤ) → Turn (literals_of c) k z → Turn (literals_of c) k (to_z w32 (of_z w32 z))
turn_bits c k z h = subst (Turn (literals_of c) k) (sym (to_z-of_z (abs_fits z (number_small c k z h)))) h

text_suc : (ls : List Literal) (k : ℕ) (z : ℤ) → Turn ls k z → text ls (suc k) ≡ text ls k ++ (literal_text z ++ (32 ∷ []))
text_suc [] k z h = absurd (not-suc-le-zero h.0)
text_suc (l ∷ ls) zero z h =
    append-nil (literal_text (literal_number l) ++ (32 ∷ [])) ∙ ap (λ (z : ℤ). literal_text z ++ (32 ∷ [])) (sym h.1)
text_suc (l ∷ ls) (suc k) z h =
    ap (λ (t : List ℕ). (literal_text (literal_number l) ++ (32 ∷ [])) ++ t) (text_suc ls k z (le_of_suc-le-suc h.0, h.1))
    ∙ sym (append_assoc (literal_text (literal_number l) ++ (32 ∷ [])) (text ls k) (literal_text z ++ (32 ∷ [])))

text_in : (ls : List Literal) (k : ℕ) → length (text ls k) ≤ length (literals_text ls)
text_in ls zero = omega arith
text_in [] (suc k) = omega arith
text_in (l ∷ ls) (suc k) =
    omega (
      arith,
      length-append (literal_text (literal_number l) ++ (32 ∷ [])) (text ls k),
      length-append (literal_text (literal_number l) ++ (32 ∷ [])) (literals_text ls),
      text_in ls k,
    )

text_whole : (ls : List Literal) {k : ℕ} → k ≡ length (map literal_number ls) → text ls k ≡ literals_text ls
text_whole ls e = ap (text ls) e ∙ go ls
  where
    go : (ls : List Literal) → text ls (length (map literal_number ls)) ≡ literals_text ls
    go [] = refl
    go (l ∷ ls) = ap (λ (t : List ℕ). (literal_text (literal_number l) ++ (32 ∷ [])) ++ t) (go ls)

-- ---- one literal more, in the buffer b, which has room for the line

module _ (c : TableClause) (b : List ℕ) (f : Room (line_text (literals_of c)) b) where
  abbrev ls : List Literal
  ls = literals_of c

  module _ (k : ℕ) (z : ℤ) (h : Turn ls k z) where
    pub part_fits : Room (text ls k ++ (literal_text z ++ (32 ∷ []))) b
    part_fits = room_as (sym (text_suc ls k z h)) (omega (arith, text_in ls (suc k), line_length ls, f))

    pub sum_fits : {to r : ℕ} → to ≡ length (text ls k) → r ≡ length (literal_text z ++ (32 ∷ [])) → to + r ≤ 3008
    sum_fits p q =
        omega (
          arith,
          p,
          q,
          length-append (text ls k) (literal_text z ++ (32 ∷ [])),
          ap (λ (t : List ℕ). length t) (text_suc ls k z h),
          text_in ls (suc k),
          line_length ls,
          line_short c,
        )

    pub text_next : {n to : ℕ} {e : List ℕ} → n ≡ k + 1 → Wrote (text ls k ++ (literal_text z ++ (32 ∷ []))) b e to → Wrote (text ls n) b e to
    text_next p W = wrote_as (sym (ap (text ls) (p ∙ add-one k) ∙ text_suc ls k z h)) W

  -- all literals have been written
  module _ {k to : ℕ} {e : List ℕ} (n : k ≡ length (map literal_number ls)) (W : Wrote (text ls k) b e to) where
    whole_text : Wrote (literals_text ls) b e to
    whole_text = wrote_as (text_whole ls n) W

    pub end_small : to + 2 ≤ 3008
    end_small = omega (arith, whole_text.count, line_length ls, line_short c)

    pub end_fits : to + 2 ≤ length e
    end_fits = end_room ls f whole_text

    -- a byte and one after it have been written: the line
    module _ (u v : ℕ) (p : u ≡ 48) (q : v ≡ 10) where
      pub line_text_lem : Wrote (line_text ls) b (set (set e to u) (to + 1) v) (to + 2)
      line_text_lem = wrote_end ls f whole_text u v p q

      pub line_kept : length (set (set e to u) (to + 1) v) ≡ length b
      line_kept = wrote_kept line_text_lem f
