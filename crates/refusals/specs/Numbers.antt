-- The document's number and spot of each refusal (document 01, "Verdicts").
--   text_number, text_spot    of a program text
--   line_number, line_spot    of the calls that write lines
--   check_number, check_spot  of the check
--   fill_number, fill_spot    of filling out
-- Assumes nothing.
use Rattle.std.specs.Prelude.{ℕ}
use Rattle.refusals.specs.declared.TextRefusal.{TextRefusal}
use Rattle.refusals.specs.declared.TextRefusal.TheVariants.{Overlong, Malformed, TooManyAtoms, UnknownAtom, Unordered, TooManyRules, BodiesFull}
use Rattle.refusals.specs.declared.LineRefusal.{LineRefusal}
use Rattle.refusals.specs.declared.CheckRefusal.{CheckRefusal}
use Rattle.refusals.specs.declared.FillRefusal.{FillRefusal}
use Rattle.refusals.specs.declared.LineRefusal.TheVariants as L
use Rattle.refusals.specs.declared.CheckRefusal.TheVariants as C
use Rattle.refusals.specs.declared.FillRefusal.TheVariants as F

abbrev pub text_number : TextRefusal → ℕ
text_number (Overlong spot) = 1
text_number (Malformed spot) = 2
text_number (TooManyAtoms spot) = 3
text_number (UnknownAtom spot) = 4
text_number (Unordered spot) = 5
text_number (TooManyRules spot) = 6
text_number (BodiesFull spot) = 7

abbrev pub text_spot : TextRefusal → ℕ
text_spot (Overlong spot) = spot
text_spot (Malformed spot) = spot
text_spot (TooManyAtoms spot) = spot
text_spot (UnknownAtom spot) = spot
text_spot (Unordered spot) = spot
text_spot (TooManyRules spot) = spot
text_spot (BodiesFull spot) = spot

abbrev pub line_number : LineRefusal → ℕ
line_number (L.Text r) = text_number r
line_number (L.ShortBuffer s) = 8
line_number (L.NoSuchClause s) = 9

abbrev pub line_spot : LineRefusal → ℕ
line_spot (L.Text r) = text_spot r
line_spot (L.ShortBuffer s) = s
line_spot (L.NoSuchClause s) = s

abbrev pub check_number : CheckRefusal → ℕ
check_number (C.Text r) = text_number r
check_number (C.ShortBuffer s) = 8
check_number (C.OverlongAnswer s) = 10
check_number (C.MalformedAnswer s) = 11
check_number C.NoModelOffered = 12
check_number (C.StrayVariable s) = 13
check_number (C.RepeatedVariable s) = 14
check_number (C.FalseClause j) = 16

abbrev pub check_spot : CheckRefusal → ℕ
check_spot (C.Text r) = text_spot r
check_spot (C.ShortBuffer s) = s
check_spot (C.OverlongAnswer s) = s
check_spot (C.MalformedAnswer s) = s
check_spot C.NoModelOffered = 0
check_spot (C.StrayVariable s) = s
check_spot (C.RepeatedVariable s) = s
check_spot (C.FalseClause j) = j

abbrev pub fill_number : FillRefusal → ℕ
fill_number (F.Text r) = text_number r
fill_number (F.ShortBuffer s) = 8
fill_number (F.BadSet s) = 17
fill_number (F.Unfounded a) = 18

abbrev pub fill_spot : FillRefusal → ℕ
fill_spot (F.Text r) = text_spot r
fill_spot (F.ShortBuffer s) = s
fill_spot (F.BadSet s) = s
fill_spot (F.Unfounded a) = a
