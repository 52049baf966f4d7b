-- The front of a text, 65,537 bytes of it or all, and its length give the reader's answer to the whole text.
-- Assumes nothing.
use Prim.Native.Nat.{ℕ, ◌≤◌, ◌<◌}
use native.Mathlib.Nat.{le_trans}
use native.Mathlib.Omega.{arith}
use mathlib.Core.Path.{◌≡◌, sym, ◌∙◌, ap}
use mathlib.Core.Logic.{⊎_elim}
use mathlib.Core.List.{List}
use lib.ListN.{length, take}
use lib.Seq.{take_all}
use borrow.Author.Tests.{lt-ltb, le-ltb}
use Rattle.lists.proofs.Tests.{le_or_lt}
use Rattle.refusals.specs.declared.TextRefusal.TheVariants.{Overlong}
use Rattle.reader.specs.Verdict.{refuse_of, read_of}
use Rattle.reader.specs.Counted.{counted_of}

-- by the test that the code makes
pub counted_long : (front : List ℕ) (total : ℕ) → 65536 < total → refuse_of (Overlong total) ≡ counted_of front total
unfolding counted_of
counted_long front total h = rw (lt-ltb 65536 total h)

pub counted_short : (front : List ℕ) (total : ℕ) → total ≤ 65536 → read_of front ≡ counted_of front total
unfolding counted_of
counted_short front total h = rw (le-ltb 65536 total h)

pub counted_whole : (t : List ℕ) → counted_of (take 65537 t) (length t) ≡ read_of t
unfolding read_of
counted_whole t =
    ⊎_elim
    (λ (h : length t ≤ 65536). sym (counted_short (take 65537 t) (length t) h) ∙ ap read_of (take_all 65537 t (le_trans h (omega arith))))
    (λ (h : 65536 < length t). sym (counted_long (take 65537 t) (length t) h) ∙ long h)
    (le_or_lt (length t) 65536)
  where
    long : 65536 < length t → refuse_of (Overlong (length t)) ≡ read_of t
    long h = rw (lt-ltb 65536 (length t) h)
