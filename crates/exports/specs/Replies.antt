-- The replies of the functions that other languages call. What a call writes is said by the definitions of the call that it is made of.
--   read_reply t              the reply for the text t
--   line_reply t j k n        for line j of text t, into n bytes from place k on
--   run_reply t j n           for the lines from line j on, into n bytes
--   check_reply t u a l       for the check of the answer u, with buffers of a and l bytes
--   fill_reply t s a l        for filling out the set s, likewise
--   line_replied, run_replied, check_replied, fill_replied  the reply with what the call leaves in its lent buffers
-- Assumes nothing.
use Rattle.std.specs.Prelude.{ℕ, List, length}
use Rattle.reader.specs.Verdict.{read_of}
use Rattle.program.specs.Arrays.{decoded}
use Rattle.call_lines_rows.specs.Lines.{line_answer, line_bytes, run_answer, run_bytes, Answered, answered}
use Rattle.call_results.specs.Results.{Called, called}
use Rattle.call_check_rows.specs.Check.{check_answer, check_assignment, check_levels}
use Rattle.call_fill_rows.specs.FillOut.{fill_answer, fill_assignment, fill_levels}
use Rattle.call_replies.specs.declared.Reply.{Reply}
use Rattle.call_replies.specs.Replies.{of_reading, of_line, of_run, of_check, of_fill}

unfoldable pub read_reply : List ℕ → Reply
read_reply t = of_reading (read_of t).verdict (decoded (read_of t).program)

unfoldable pub line_reply : List ℕ → ℕ → ℕ → ℕ → Reply
line_reply t j k n = of_line (line_answer t j k n)

unfoldable pub run_reply : List ℕ → ℕ → ℕ → Reply
run_reply t j n = of_run (run_answer t j n)

unfoldable pub check_reply : List ℕ → List ℕ → ℕ → ℕ → Reply
check_reply t u a l = of_check (check_answer t u a l)

unfoldable pub fill_reply : List ℕ → List ℕ → ℕ → ℕ → Reply
fill_reply t s a l = of_fill (fill_answer t s a l)

abbrev pub line_replied : List ℕ → ℕ → ℕ → List ℕ → Answered Reply
line_replied t j k b = answered (line_reply t j k (length b)) (line_bytes t j k b)

abbrev pub run_replied : List ℕ → ℕ → List ℕ → Answered Reply
run_replied t j b = answered (run_reply t j (length b)) (run_bytes t j b)

abbrev pub check_replied : List ℕ → List ℕ → List ℕ → List ℕ → Called Reply
check_replied t u b l = called (check_reply t u (length b) (length l)) (check_assignment t u b (length l)) (check_levels t u (length b) l)

abbrev pub fill_replied : List ℕ → List ℕ → List ℕ → List ℕ → Called Reply
fill_replied t s b l = called (fill_reply t s (length b) (length l)) (fill_assignment t s b (length l)) (fill_levels t s (length b) l)
