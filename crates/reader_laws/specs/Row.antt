-- Rows 1 to 7 of document 01's table ("Verdicts"), as it has them, and the first row met in its order.
--   Row t k s        row k is met by the text t, with spot s
--   NoLaterBy        row k with spot s comes no later than row l with spot u, for an order of the rows
--   FirstRow t k s   of the rows met it is the first in the order 1, 2, then the smallest spot among 3 to 7, the smaller number on a tie
--   Answers t k s    the reader refuses t with row k and spot s
-- Assumes nothing.
use Rattle.std.specs.Prelude.{ℕ, ◌≤◌, ◌<◌, ◌≡◌, cond, List, eqb, length}
use Rattle.meaning.specs.Program.{Program}
use Rattle.text.specs.Text.{text_of, Malformed}
use Rattle.text.specs.Limits.{max_text}
use Rattle.refusals.specs.declared.TextRefusal.{TextRefusal}
use Rattle.reader.specs.Verdict.{read_of}
use Rattle.refusals.specs.Numbers.{text_number, text_spot}
use Rattle.reader_laws.specs.Breach.{Breach}
use Rattle.std.specs.Prelude.{Err}

pub data Row (t : List ℕ) : ℕ → ℕ → Type 0 where
  overlong : max_text < length t → Row t 1 (length t)
  malformed : {s : ℕ} → Malformed t s → Row t 2 s
  breach : {k s : ℕ} (P : Program) → t ≡ text_of P → Breach P k s → Row t k s

-- the row's rank in the order: 1, then 2, then the others
abbrev pub rank : ℕ → ℕ
rank k = cond (eqb k 1) 0 (cond (eqb k 2) 1 2)

-- row k with spot s comes no later than row l with spot u: by rank, then by the smaller spot, then by the smaller number
pub data NoLaterBy (order : ℕ → ℕ) (k s l u : ℕ) : Type 0 where
  ranked : order k < order l → NoLaterBy order k s l u
  nearer : order k ≡ order l → s < u → NoLaterBy order k s l u
  smaller : order k ≡ order l → s ≡ u → k ≤ l → NoLaterBy order k s l u

abbrev pub NoLater : ℕ → ℕ → ℕ → ℕ → Type 0
NoLater = NoLaterBy rank

pub record FirstRow (t : List ℕ) (k s : ℕ) : Type 0 where
  pub met : Row t k s
  pub first : (l u : ℕ) → Row t l u → NoLater k s l u

pub record Answers (t : List ℕ) (k s : ℕ) : Type 0 where
  pub refusal : TextRefusal
  pub verdict_is : (read_of t).verdict ≡ Err refusal
  pub row_is : text_number refusal ≡ k
  pub spot_is : text_spot refusal ≡ s
