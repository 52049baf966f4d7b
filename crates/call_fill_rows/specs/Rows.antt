-- Rows 8, 17 and 18 of document 01's table ("Verdicts") beside the reader's, for filling out the set s with buffers of a and l bytes.
--   FillRow t s a l k r u      row r is met, with spot u; k is its place in the order: the reader's, 8 for the assignment, 8 for the levels, 17, 18
--   FirstFillRow t s a l r u   of the rows met it is the first in the order
--   FillAnswers t s a l r u    the call refuses with row r and spot u
--   FillAccepts t s a l        the call accepts
--   Fills t s b l k h P        what an accepted call says of the program, the set and the buffers
-- Assumes nothing.
use Rattle.std.specs.Prelude.{ℕ, ◌≤◌, ◌<◌, ◌≡◌, cond, List, ◌++◌, length, get_or, drop}
use Rattle.std.proofs.Math.Bool.{So}
use Rattle.lists.specs.Lists.{tab, sum, highest as highest_of}
use Rattle.meaning.specs.Program.{Program, is_atom}
use Rattle.meaning.specs.Stage.{Stable, least_model, level}
use Rattle.encoding.specs.Width.{width}
use Rattle.encoding.specs.Fill.{fill}
use Rattle.reader_laws.specs.Row.{Row, rank}
use Rattle.text.specs.Limits.{Admitted}
use Rattle.answer_offers.specs.Offered.{value_bytes}
use Rattle.level_lists.specs.Bytes.{set_in}
use Rattle.call_results.specs.Results.{var_total}
use Rattle.call_results.specs.Order.{First}
use Rattle.refusals.specs.declared.FillRefusal.{FillRefusal}
use Rattle.refusals.specs.Numbers.{fill_number, fill_spot}
use Rattle.call_fill_rows.specs.FillOut.{fill_answer, fill_assignment, fill_levels}
use Rattle.call_fill_rows.specs.Verdict.{filled_out}
use Rattle.std.specs.Prelude.{Err}

pub data FillRow (t s : List ℕ) (a l : ℕ) : ℕ → ℕ → ℕ → Type 0 where
  of_text : {r u : ℕ} → Row t r u → FillRow t s a l (rank r) r u
  short_assignment : (P : Program) → Admitted t P → a < var_total P → FillRow t s a l 3 8 (var_total P)
  short_levels : (P : Program) → Admitted t P → l < P.atoms → FillRow t s a l 4 8 P.atoms
  -- the length is not n
  wrong_length : (P : Program) → Admitted t P → (length s ≡ P.atoms → ⊥) → FillRow t s a l 5 17 P.atoms
  -- else byte i, from 0, is above 1; the first such byte has the smallest spot
  bad_byte : (P : Program) → Admitted t P → length s ≡ P.atoms → (i : ℕ) → i < length s → 1 < get_or s i 0 → FillRow t s a l 5 17 i
  -- set and least model of its reduct differ at atom v; the smallest such atom has the smallest spot
  unfounded : (P : Program) → Admitted t P → (v : ℕ) → So (is_atom P.atoms v)
      → (set_in P.atoms s v ≡ least_model P (set_in P.atoms s) v → ⊥) → FillRow t s a l 6 18 v

abbrev pub FirstFillRow : List ℕ → List ℕ → ℕ → ℕ → ℕ → ℕ → Type 0
FirstFillRow t s a l r u = First (FillRow t s a l) r u

pub record FillAnswers (t s : List ℕ) (a l r u : ℕ) : Type 0 where
  pub refusal : FillRefusal
  pub answer_is : fill_answer t s a l ≡ Err refusal
  pub row_is : fill_number refusal ≡ r
  pub spot_is : fill_spot refusal ≡ u

pub record FillAccepts (t s : List ℕ) (a l : ℕ) : Type 0 where
  pub count : ℕ
  pub highest : ℕ
  pub answer_is : fill_answer t s a l ≡ filled_out count highest

-- what an accepted call says of the program, the set and the buffers b and l: k atoms are true, h is the highest level
pub record Fills (t s b l : List ℕ) (k h : ℕ) (P : Program) : Type 0 where
  pub admitted : Admitted t P
  pub room : var_total P ≤ length b
  pub levels_room : P.atoms ≤ length l
  pub sized : length s ≡ P.atoms
  pub bytes : (i : ℕ) → i < length s → get_or s i 0 ≤ 1
  pub stable : Stable P (set_in P.atoms s)
  pub count_is : k ≡ sum P.atoms (λ a. cond (set_in P.atoms s a) 1 0)
  pub highest_is : h ≡ highest_of P.atoms (level P (set_in P.atoms s))
  pub assignment_is : fill_assignment t s b (length l) ≡ value_bytes (fill P (width P.atoms) (set_in P.atoms s)) ++ drop (var_total P) b
  pub levels_is : fill_levels t s (length b) l ≡ tab P.atoms (level P (set_in P.atoms s)) ++ drop P.atoms l
