-- Some lines of a program, written into the front of a buffer.
--   Taken G n r b c    c is the buffer b after the part r: some lines from line n on, with the place of the line after them
-- Assumes nothing.
use Rattle.std.specs.Prelude.{ℕ, ◌+◌, ◌≤◌, ◌<◌, ◌≡◌, List, length, take, drop}
use Rattle.encoding.specs.Code.{Code}
use Rattle.lists.specs.Lists.{joined}
use Rattle.digits.specs.Bytes.{Wrote}
use Rattle.clause_places.specs.Places.{place_at}
use Rattle.clause_runs.specs.declared.RunPart.{RunPart}
use Rattle.clause_runs.specs.Lines.{code_lines}

pub record Taken (G : Code) (n : ℕ) (r : RunPart) (b c : List ℕ) : Type 0 where
  pub some : 0 < r.lines
  pub listed : n + r.lines ≤ length (code_lines G)
  pub in_room : r.bytes ≤ length b
  pub wrote : Wrote (joined (take r.lines (drop n (code_lines G)))) b c r.bytes
  pub place_is : r.place ≡ place_at G (n + r.lines)
