-- What is counted of an input, by the sizes of its reads. What a read gives is the C library's word; what is made of it is said here.
--   most_counted   65,536,000,000,000,000: a read that begins past it is taken for the end
--   first_read k   the first read has given k bytes, which are kept
--   read_on f n    one read more has given n bytes; none is the end of the input
--   read_all f ns  reads that have given ns bytes, one after the other
--   Counted f      f is what some reads give, the last of which met the end
--   bytes_in ns    how many bytes reads of ns bytes give in all
-- Assumes nothing.
use Rattle.std.specs.Prelude.{ℕ, ◌+◌, ◌*◌, ◌≡◌, Bool, true, false, cond, List, [], ◌∷◌, eqb, ltb}
use Rattle.files.specs.declared.Front.{Front}

abbrev pub most_counted : ℕ
most_counted = 65536 * 1000000000000

abbrev pub counted : ℕ → ℕ → Bool → Front
counted k n e = record { kept = k; total = n; ended = e }

abbrev pub first_read : ℕ → Front
first_read k = counted k k false

unfoldable pub read_on : Front → ℕ → Front
read_on f n =
    cond (eqb n 0) (counted f.kept f.total true)
    (cond (ltb most_counted f.total) (counted f.kept f.total true) (counted f.kept (f.total + n) false))

abbrev pub read_all : Front → List ℕ → Front
read_all f [] = f
read_all f (n ∷ ns) = read_all (read_on f n) ns

abbrev pub bytes_in : List ℕ → ℕ
bytes_in [] = 0
bytes_in (n ∷ ns) = n + bytes_in ns

pub record Counted (f : Front) : Type 0 where
  pub reads : List ℕ
  pub counted_is : f ≡ read_all (first_read f.kept) reads
  pub at_end : f.ended ≡ true
