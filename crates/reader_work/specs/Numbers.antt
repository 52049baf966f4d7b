-- What the reader keeps, by the numbers of the definitions.
--   refusal_number, refusal_spot   number and spot of a refusal, both 0 for none
--   tally c                        counts, with the number and the spot of their refusal
--   with_arrays A h s b            the program A with the arrays h, s and b
--   SameCounts A B                 the program B has the counts of A, whatever its arrays hold
-- Assumes nothing.
use Rattle.std.specs.Prelude.{ℕ, ◌≡◌, List, Option, Some, None}
use Rattle.program.specs.declared.Program.{Program}
use Rattle.refusals.specs.declared.TextRefusal.{TextRefusal}
use Rattle.refusals.specs.Numbers.{text_number, text_spot}
use Rattle.reader_work.specs.declared.Counts.{Counts}
use Rattle.reader_work.specs.Work.{Tally}

abbrev pub refusal_number : Option TextRefusal → ℕ
refusal_number None = 0
refusal_number (Some r) = text_number r

abbrev pub refusal_spot : Option TextRefusal → ℕ
refusal_spot None = 0
refusal_spot (Some r) = text_spot r

abbrev pub tally : Counts → Tally
tally c =
    record { atoms = c.atoms; rules = c.rules; held = c.held; prev = c.prev; number = refusal_number c.refusal; spot = refusal_spot c.refusal }

abbrev pub with_arrays : Program → List ℕ → List ℕ → List ℕ → Program
with_arrays A heads starts bodies = record { atoms = A.atoms; rules = A.rules; held = A.held; heads = heads; starts = starts; bodies = bodies }

abbrev pub SameCounts : Program → Program → Type 0
SameCounts A B = B ≡ with_arrays A B.heads B.starts B.bodies
