-- What the reader keeps while it reads, and how each end of a number, list or line changes it (document 01, rows 3 to 7).
--   refused_of c number spot  the refusal is kept
--   grown_of value b          the number being read with one digit more, 1000 for 1000 and above
--   work_of, work_heads, work_starts, work_bodies  counts and arrays after one byte's action
-- Assumes nothing.
use Rattle.std.specs.Prelude.{ℕ, ◌+◌, ◌-◌, ◌*◌, cond, List, ltb, leb, eqb, set}
use Rattle.text.specs.Limits.{max_atoms, max_rules, max_body_atoms}
use Rattle.reader_form.specs.Automaton.{form_atoms, form_head}

-- what is read so far: the number of atoms, the rules and body atoms stored, the list's last number, and the first refusal's number and
-- spot (number 0 while there is none)
pub record Tally : Type 0 where
  pub atoms : ℕ
  pub rules : ℕ
  pub held : ℕ
  pub prev : ℕ
  pub number : ℕ
  pub spot : ℕ

abbrev pub refused_of : Tally → ℕ → ℕ → Tally
refused_of c number spot = record { atoms = c.atoms; rules = c.rules; held = c.held; prev = c.prev; number = number; spot = spot }

abbrev pub with_prev : Tally → ℕ → Tally
with_prev c prev = record { atoms = c.atoms; rules = c.rules; held = c.held; prev = prev; number = c.number; spot = c.spot }

unfoldable pub grown_of : ℕ → ℕ → ℕ
grown_of value b =
    cond (ltb 999 value) 1000 (cond (ltb b 48) 0 (cond (ltb 1000 (value * 10 + (b - 48))) 1000 (value * 10 + (b - 48))))

unfoldable pub value_after : ℕ → ℕ → ℕ → ℕ
value_after act value b = cond (eqb act 1) (grown_of 0 b) (cond (eqb act 2) (grown_of value b) 0)

unfoldable pub begin_after : ℕ → ℕ → ℕ → ℕ
begin_after act begin i = cond (eqb act 1) i (cond (eqb act 2) begin 0)

-- row 3: N above 126
unfoldable pub atoms_ended : ℕ → ℕ → Tally → Tally
atoms_ended value begin c =
    cond (ltb max_atoms value) (refused_of c 3 begin)
    (record { atoms = value; rules = c.rules; held = c.held; prev = c.prev; number = c.number; spot = c.spot })

-- row 4: 0 or above N
unfoldable pub head_ended : ℕ → ℕ → Tally → Tally
head_ended value begin c = cond (eqb value 0) (refused_of c 4 begin) (cond (ltb c.atoms value) (refused_of c 4 begin) (with_prev c 0))

unfoldable pub head_stored : ℕ → Tally → List ℕ → List ℕ
head_stored value c heads =
    cond (eqb value 0) heads (cond (ltb c.atoms value) heads (cond (ltb c.rules max_rules) (set heads c.rules value) heads))

-- rows 4, 5 and 7: not an atom, not above its list neighbour before, body atom 501
unfoldable pub body_ended : ℕ → ℕ → Tally → Tally
body_ended value begin c =
    cond (eqb value 0) (refused_of c 4 begin)
    (cond (ltb c.atoms value) (refused_of c 4 begin)
    (cond (leb value c.prev) (refused_of c 5 begin)
    (cond (ltb c.held max_body_atoms)
    (record { atoms = c.atoms; rules = c.rules; held = c.held + 1; prev = value; number = c.number; spot = c.spot })
    (refused_of c 7 begin))))

unfoldable pub body_stored : ℕ → Tally → List ℕ → List ℕ
body_stored value c bodies =
    cond (eqb value 0) bodies (cond (ltb c.atoms value) bodies (cond (leb value c.prev) bodies (cond (ltb c.held max_body_atoms) (set bodies c.held value) bodies)))

-- row 6: rule 501
unfoldable pub opened_of : ℕ → Tally → Tally
opened_of i c = cond (ltb c.rules max_rules) c (refused_of c 6 i)

unfoldable pub start_stored : ℕ → Tally → List ℕ → List ℕ
start_stored j c starts = cond (ltb 499 c.rules) starts (cond (ltb j 3) (set starts (2 * c.rules + j) c.held) starts)

unfoldable pub rule_shut : Tally → Tally
rule_shut c =
    cond (ltb c.rules max_rules)
    (record { atoms = c.atoms; rules = c.rules + 1; held = c.held; prev = 0; number = c.number; spot = c.spot }) c

-- the number at place k is read: N, a head or a body atom
unfoldable pub ended_of : ℕ → ℕ → ℕ → Tally → Tally
ended_of k value begin c = cond (eqb k form_atoms) (atoms_ended value begin c) (cond (eqb k form_head) (head_ended value begin c) (body_ended value begin c))

unfoldable pub ended_heads : ℕ → ℕ → Tally → List ℕ → List ℕ
ended_heads k value c heads = cond (eqb k form_atoms) heads (cond (eqb k form_head) (head_stored value c heads) heads)

unfoldable pub ended_bodies : ℕ → ℕ → Tally → List ℕ → List ℕ
ended_bodies k value c bodies = cond (eqb k form_atoms) bodies (cond (eqb k form_head) bodies (body_stored value c bodies))

-- actions 4, 5 and 6: a rule line begins, its positive list ends, the line ends
unfoldable pub bracket_of : ℕ → ℕ → Tally → Tally
bracket_of act i c = cond (eqb act 4) (opened_of i c) (cond (eqb act 5) (with_prev c 0) (rule_shut c))

unfoldable pub bracket_starts : ℕ → Tally → List ℕ → List ℕ
bracket_starts act c starts = cond (eqb act 4) starts (cond (eqb act 5) (start_stored 1 c starts) (start_stored 2 c starts))

-- actions below 3 change nothing, and nothing changes after a refusal
unfoldable pub work_of : ℕ → ℕ → ℕ → ℕ → ℕ → Tally → Tally
work_of act k value begin i c =
    cond (ltb act 3) c (cond (eqb c.number 0) (cond (eqb act 3) (ended_of k value begin c) (bracket_of act i c)) c)

unfoldable pub work_heads : ℕ → ℕ → ℕ → Tally → List ℕ → List ℕ
work_heads act k value c heads = cond (ltb act 3) heads (cond (eqb c.number 0) (cond (eqb act 3) (ended_heads k value c heads) heads) heads)

unfoldable pub work_starts : ℕ → Tally → List ℕ → List ℕ
work_starts act c starts = cond (ltb act 3) starts (cond (eqb c.number 0) (cond (eqb act 3) starts (bracket_starts act c starts)) starts)

unfoldable pub work_bodies : ℕ → ℕ → ℕ → Tally → List ℕ → List ℕ
work_bodies act k value c bodies = cond (ltb act 3) bodies (cond (eqb c.number 0) (cond (eqb act 3) (ended_bodies k value c bodies) bodies) bodies)
