-- Rows 8 and 9 of document 01's table ("Verdicts") beside the reader's, for a call that gives line j into n bytes from place k on.
--   LineRow t j k n r s        row r is met, with spot s
--   FirstLineRow t j k n r s   of the rows met it is the first in the order: the reader's, then 9, then 8
--   LineAnswers t j k n r s    the call refuses with row r and spot s
--   RunWritten P j b m x c     c is the buffer b after m whole lines, x bytes, from line j on
-- Assumes nothing.
use Rattle.std.specs.Prelude.{ℕ, suc, pred, ◌+◌, ◌-◌, ◌≤◌, ◌<◌, ◌≡◌, cond, List, ◌++◌, eqb, length, drop}
use Rattle.lists.specs.Lists.{tab, joined}
use Rattle.meaning.specs.Program.{Program}
use Rattle.reader_laws.specs.Row.{Row, rank, NoLaterBy}
use Rattle.text.specs.Limits.{Admitted}
use Rattle.refusals.specs.declared.LineRefusal.{LineRefusal}
use Rattle.clause_runs.specs.Lines.{clause_total, line_of}
use Rattle.refusals.specs.Numbers.{line_number, line_spot}
use Rattle.call_lines_rows.specs.Lines.{line_answer}
use Rattle.std.specs.Prelude.{Err}

-- the bytes of the buffer from place k on: none if that is past the end
abbrev pub room_from : ℕ → ℕ → ℕ
room_from k n = n - k

pub data LineRow (t : List ℕ) (j k n : ℕ) : ℕ → ℕ → Type 0 where
  of_text : {r s : ℕ} → Row t r s → LineRow t j k n r s
  short_buffer : (P : Program) → Admitted t P → room_from k n < length (line_of P j) → LineRow t j k n 8 (length (line_of P j))
  no_such_clause : (P : Program) → Admitted t P → clause_total P < j → LineRow t j k n 9 (clause_total P)

abbrev pub line_rank : ℕ → ℕ
line_rank r = cond (eqb r 9) 3 (cond (eqb r 8) 4 (rank r))

pub record FirstLineRow (t : List ℕ) (j k n r s : ℕ) : Type 0 where
  pub met : LineRow t j k n r s
  pub first : (l u : ℕ) → LineRow t j k n l u → NoLaterBy line_rank r s l u

pub record LineAnswers (t : List ℕ) (j k n r s : ℕ) : Type 0 where
  pub refusal : LineRefusal
  pub answer_is : line_answer t j k n ≡ Err refusal
  pub row_is : line_number refusal ≡ r
  pub spot_is : line_spot refusal ≡ s

-- m lines from line j on, one after the other, as many as fit; after them the buffer stays
pub record RunWritten (P : Program) (j : ℕ) (b : List ℕ) (m x : ℕ) (c : List ℕ) : Type 0 where
  pub some : 0 < m
  pub listed : j + m ≤ suc (clause_total P)
  pub bytes_are : x ≡ length (joined (tab m (λ i. line_of P (j + pred i))))
  pub in_room : x ≤ length b
  pub text_is : c ≡ joined (tab m (λ i. line_of P (j + pred i))) ++ drop x b
  pub most : j + m ≤ clause_total P → length b < x + length (line_of P (j + m))
