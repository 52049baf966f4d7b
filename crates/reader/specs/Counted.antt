-- The reader's answer from the front of a text and its length.
--   counted_of front total   overlong with the true length, or what the reader answers to `front`
-- Assumes nothing.
use Rattle.std.specs.Prelude.{ℕ, cond, List, ltb}
use Rattle.text.specs.Limits.{max_text}
use Rattle.refusals.specs.declared.TextRefusal.TheVariants.{Overlong}
use Rattle.reader.specs.Verdict.{refuse_of, read_of}
use Rattle.reader.specs.declared.ReadResult.{ReadResult}

unfoldable pub counted_of : List ℕ → ℕ → ReadResult
counted_of front total = cond (ltb max_text total) (refuse_of (Overlong total)) (read_of front)
