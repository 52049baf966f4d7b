-- What the text of a program has at the spots of its events (document 01, "Verdicts", rows 3 to 7: "its first byte").
--   NeighbourAt t s y   the number y stands right before the number at s, with one space between
--   EventAt P e         at the spot of e the text of P has the number that e reads, or the rule that e opens
--   BreachAt P k s      what row k names stands at s in the text of P
-- Assumes nothing.
use Rattle.std.specs.Prelude.{ℕ, suc, ◌+◌, ◌≤◌, ◌<◌, ◌≡◌, ◌⊎◌, List, [], ◌∷◌, length, get_or}
use Rattle.meaning.specs.Program.{Program, rule_at}
use Rattle.text.specs.Standing.{StandsAt, WholeAt}
use Rattle.text.specs.Decimal.{decimal}
use Rattle.text.specs.Text.{rule_text, text_of}
use Rattle.text.specs.Limits.{max_atoms, max_rules, max_body_atoms, bodies_of}
use Rattle.reader_laws.specs.Breach.{Event, atoms_read, rule_opened, head_read, body_read}

pub record NeighbourAt (t : List ℕ) (s y : ℕ) : Type 0 where
  pub spot : ℕ
  pub number : WholeAt t spot (decimal y)
  pub one_space : get_or t (spot + length (decimal y)) 0 ≡ 32
  pub then : s ≡ spot + length (decimal y) + 1

pub data EventAt (P : Program) : Event → Type 0 where
  atoms_at : {s : ℕ} → WholeAt (text_of P) s (decimal P.atoms) → EventAt P (atoms_read P.atoms s)
  -- the line of rule i + 1
  rule_at_lem : {i s : ℕ} → i < length P.rules → StandsAt (text_of P) s (rule_text (rule_at P.rules (suc i))) → EventAt P (rule_opened i s)
  head_at_lem : {x s : ℕ} → WholeAt (text_of P) s (decimal x) → EventAt P (head_read x s)
  -- body atom j + 1 of the text: the first of its list, or one with a neighbour before it
  first_at : {x s j : ℕ} → j < length (bodies_of P.rules) → get_or (bodies_of P.rules) j 0 ≡ x → WholeAt (text_of P) s (decimal x)
      → EventAt P (body_read x s [] j)
  further_at : {x s y j : ℕ} → j < length (bodies_of P.rules) → get_or (bodies_of P.rules) j 0 ≡ x → WholeAt (text_of P) s (decimal x)
      → NeighbourAt (text_of P) s y → EventAt P (body_read x s (y ∷ []) j)

-- the rows in the table's words
pub data BreachAt (P : Program) : (row spot : ℕ) → Type 0 where
  -- N above 126; the number's first byte
  too_many_atoms : {s : ℕ} → max_atoms < P.atoms → WholeAt (text_of P) s (decimal P.atoms) → BreachAt P 3 s
  -- 0 or above N; its first byte
  unknown_atom : {s : ℕ} (x : ℕ) → (x ≡ 0) ⊎ (P.atoms < x) → WholeAt (text_of P) s (decimal x) → BreachAt P 4 s
  -- not above its list neighbour before; its first byte
  unordered : {s : ℕ} (x y : ℕ) → x ≤ y → NeighbourAt (text_of P) s y → WholeAt (text_of P) s (decimal x) → BreachAt P 5 s
  -- rule 501, with 500 before it; its first byte
  too_many_rules : {s : ℕ} → max_rules < length P.rules → StandsAt (text_of P) s (rule_text (rule_at P.rules (suc max_rules))) → BreachAt P 6 s
  -- body atom 501, with 500 before it; its first byte
  bodies_full : {s : ℕ} → max_body_atoms < length (bodies_of P.rules) → WholeAt (text_of P) s (decimal (get_or (bodies_of P.rules) max_body_atoms 0))
      → BreachAt P 7 s
