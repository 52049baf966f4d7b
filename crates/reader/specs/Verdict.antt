-- The reader's whole answer (document 01, rows 1 to 7).
--   ReadVerdict             whether a text is a program, or why it is refused
--   ReadResult              the verdict on a text, and its program
--   verdict_told r          the verdict, from the refusal that the reader keeps
--   read_of t               verdict and program of the text t: the empty one where it is refused
--   left_of t               the program as the reading of t leaves it, refused or not
-- Assumes nothing.
use Rattle.std.specs.Prelude.{ℕ, cond, List, ltb, eqb, length, replicate, Option, Some, None, Result, Ok, Err, ⊤}
use Rattle.text.specs.Limits.{max_text}
use Rattle.program.specs.declared.Program.{Program}
use Rattle.program.specs.Arrays.{empty_program}
use Rattle.refusals.specs.declared.TextRefusal.{TextRefusal}
use Rattle.refusals.specs.declared.TextRefusal.TheVariants.{Overlong, Malformed, TooManyAtoms, UnknownAtom, Unordered, TooManyRules, BodiesFull}
use Rattle.reader.specs.declared.ReadResult.{ReadResult}
use Rattle.reader_work.specs.Fold.{State, started, read_from}

abbrev pub ReadVerdict : Type 0
ReadVerdict = Result ⊤ TextRefusal

abbrev pub verdict_told : Option TextRefusal → ReadVerdict
verdict_told None = Ok tt
verdict_told (Some r) = Err r

-- the refusal of row `number`, from 2 to 7
unfoldable pub refusal_of : ℕ → ℕ → TextRefusal
refusal_of number spot =
    cond (eqb number 2) (Malformed spot)
    (cond (eqb number 3) (TooManyAtoms spot)
    (cond (eqb number 4) (UnknownAtom spot)
    (cond (eqb number 5) (Unordered spot)
    (cond (eqb number 6) (TooManyRules spot) (BodiesFull spot)))))

unfoldable pub refuse_of : TextRefusal → ReadResult
refuse_of refusal = record { verdict = Err refusal; program = empty_program }

-- the program that a state holds
abbrev pub program_of : State → Program
program_of s =
    record { atoms = s.counts.atoms; rules = s.counts.rules; held = s.counts.held; heads = s.heads; starts = s.starts; bodies = s.bodies }

-- its verdict
abbrev pub verdict_of : State → ReadVerdict
verdict_of s = cond (eqb s.counts.number 0) (Ok tt) (Err (refusal_of s.counts.number s.counts.spot))

unfoldable pub finished : State → ReadResult
finished s =
    cond (eqb s.counts.number 0) (record { verdict = Ok tt; program = program_of s }) (refuse_of (refusal_of s.counts.number s.counts.spot))

abbrev pub start : State
start = started (replicate 500 0) (replicate 1001 0) (replicate 500 0)

unfoldable pub read_of : List ℕ → ReadResult
read_of t = cond (ltb max_text (length t)) (refuse_of (Overlong (length t))) (finished (read_from start 0 t))

unfoldable pub left_of : List ℕ → Program
left_of t = cond (ltb max_text (length t)) empty_program (program_of (read_from start 0 t))
