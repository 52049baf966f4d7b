-- The breaches of rows 3 to 7 (document 01, "Verdicts"), in the words of the table, over the numbers of a program in text order.
--   Event           a number of the text or a rule's beginning, with its first byte and what the rows ask of it
--   events P        the events of the text of P, in its order
--   Breached N e k  with N atoms event e meets row k
--   Breach P k s    some event of the text of P meets row k at spot s
--   rows_of N e     the rows that e meets, ascending, computed
--   hits P          all breaches in text order, computed
-- Assumes nothing.
use Rattle.std.specs.Prelude.{ℕ, ◌+◌, ◌≤◌, ◌<◌, ◌≡◌, ◌⊎◌, Bool, false, ◌||◌, cond, List, [], ◌∷◌, ◌++◌, map, ltb, leb, eqb, length, get_or}
use Rattle.meaning.specs.Program.{Rule, Program}
use Rattle.text.specs.Decimal.{decimal}
use Rattle.text.specs.Limits.{max_atoms, max_rules, max_body_atoms}
use Rattle.reader_laws.specs.Judge.{positive_spot, negative_spot, rule_end}

pub data Event : Type 0 where
  -- the number of atoms
  atoms_read : (x spot : ℕ) → Event
  -- a rule with `index` rules before it
  rule_opened : (index spot : ℕ) → Event
  head_read : (x spot : ℕ) → Event
  -- a body atom with `index` body atoms before it, and its neighbour before it in its list, if there is one
  body_read : (x spot : ℕ) (neighbour : List ℕ) (index : ℕ) → Event

abbrev pub spot_of : Event → ℕ
spot_of (atoms_read x spot) = spot
spot_of (rule_opened index spot) = spot
spot_of (head_read x spot) = spot
spot_of (body_read x spot neighbour index) = spot

-- ---- the events of a text

-- the further numbers of a list after y, from the space at g on, with j body atoms before them
abbrev pub more_events : List ℕ → ℕ → ℕ → ℕ → List Event
more_events [] y g j = []
more_events (x ∷ xs) y g j = body_read x (g + 1) (y ∷ []) j ∷ more_events xs x (g + 1 + length (decimal x)) (j + 1)

abbrev pub list_events : List ℕ → ℕ → ℕ → List Event
list_events [] g j = []
list_events (x ∷ xs) g j = body_read x g [] j ∷ more_events xs x (g + length (decimal x)) (j + 1)

abbrev pub rule_events : Rule → ℕ → ℕ → ℕ → List Event
rule_events r i g j =
    rule_opened i g ∷ head_read r.head (g + 6)
    ∷ (list_events r.positive (positive_spot r g) j ++ list_events r.negative (negative_spot r g) (j + length r.positive))

abbrev pub rules_events : List Rule → ℕ → ℕ → ℕ → List Event
rules_events [] i g j = []
rules_events (r ∷ rs) i g j = rule_events r i g j ++ rules_events rs (i + 1) (rule_end r g) (j + length r.positive + length r.negative)

unfoldable pub events : Program → List Event
events P = atoms_read P.atoms 7 ∷ rules_events P.rules 0 (7 + length (decimal P.atoms) + 2) 0

-- ---- the rows

pub data Breached (N : ℕ) : Event → ℕ → Type 0 where
  too_many_atoms : {x s : ℕ} → max_atoms < x → Breached N (atoms_read x s) 3
  unknown_head : {x s : ℕ} → (x ≡ 0) ⊎ (N < x) → Breached N (head_read x s) 4
  unknown_atom : {x s : ℕ} {ys : List ℕ} {j : ℕ} → (x ≡ 0) ⊎ (N < x) → Breached N (body_read x s ys j) 4
  unordered : {x s y j : ℕ} {ys : List ℕ} → x ≤ y → Breached N (body_read x s (y ∷ ys) j) 5
  too_many_rules : {s : ℕ} → Breached N (rule_opened max_rules s) 6
  bodies_full : {x s : ℕ} {ys : List ℕ} → Breached N (body_read x s ys max_body_atoms) 7

-- what stands at a place that is no event's
abbrev pub no_event : Event
no_event = head_read 1 0

pub record Breach (P : Program) (k s : ℕ) : Type 0 where
  pub place : ℕ
  pub is_event : place < length (events P)
  pub breached : Breached P.atoms (get_or (events P) place no_event) k
  pub its_spot : spot_of (get_or (events P) place no_event) ≡ s

-- ---- computed

abbrev pub unknown : ℕ → ℕ → Bool
unknown N x = eqb x 0 || ltb N x

-- x is not above its neighbour
abbrev pub not_above : ℕ → List ℕ → Bool
not_above x [] = false
not_above x (y ∷ ys) = leb x y

abbrev pub when_met : Bool → ℕ → List ℕ
when_met b k = cond b (k ∷ []) []

abbrev pub rows_of : ℕ → Event → List ℕ
rows_of N (atoms_read x s) = when_met (ltb max_atoms x) 3
rows_of N (rule_opened i s) = when_met (eqb i max_rules) 6
rows_of N (head_read x s) = when_met (unknown N x) 4
rows_of N (body_read x s ys j) = when_met (unknown N x) 4 ++ (when_met (not_above x ys) 5 ++ when_met (eqb j max_body_atoms) 7)

pub record Hit : Type 0 where
  pub row : ℕ
  pub spot : ℕ

abbrev pub hits_of : ℕ → Event → List Hit
hits_of N e = map (λ k. record { row = k; spot = spot_of e }) (rows_of N e)

abbrev pub hits_in : ℕ → List Event → List Hit
hits_in N [] = []
hits_in N (e ∷ es) = hits_of N e ++ hits_in N es

abbrev pub hits : Program → List Hit
hits P = hits_in P.atoms (events P)
