-- The reading where it stands between two words, numbers or lists of the form, and what the text has there.
--   standing s heads starts bodies     the state of a stand with three arrays: no number is begun, nothing is refused
--   read_rest s heads starts bodies t  the last state, from there over the rest of the text t
--   Goes s r t                         the reading from r is that from s, whatever the arrays hold
--   GoesHeads, GoesStarts, GoesBodies   the same, with the array before and after
--   has_at t i w                        the bytes of t from i on begin with w
--   short_number_at t i                the number at i, of one to three digits, the first not 0; none where there is no such number
--   ready_at s k, listing_at s         s stands at place k itself; in a list, where a number may begin
--   fits_at s v, added_to s v k mode i  v may be the list's next atom; s with it, at place k before byte i
-- Assumes nothing.
use Rattle.std.specs.Prelude.{Option, Some, None, ℕ, ◌+◌, ◌-◌, ◌*◌, ◌≡◌, Bool, true, false, cond, List, [], ◌∷◌, ltb, leb, eqb, length, get_or, drop}
use Rattle.text.specs.Limits.{max_rules, max_body_atoms}
use Rattle.reader_form.specs.Automaton.{form_positive, form_negative, digit_test}
use Rattle.reader_form.specs.declared.Mode.{Mode}
use Rattle.reader_form.specs.Numbers.{mode_number}
use Rattle.reader_words.specs.declared.Stand.{Stand}
use Rattle.reader_words.specs.declared.ShortNumber.{ShortNumber}
use Rattle.reader_work.specs.Fold.{State, read_from}

abbrev pub standing : Stand → List ℕ → List ℕ → List ℕ → State
standing s heads starts bodies =
    record {
      k = s.k;
      mode = mode_number s.mode;
      value = 0;
      begin = 0;
      counts = record { atoms = s.atoms; rules = s.rules; held = s.held; prev = s.prev; number = 0; spot = 0 };
      heads = heads;
      starts = starts;
      bodies = bodies;
    }

unfoldable pub read_rest : Stand → List ℕ → List ℕ → List ℕ → List ℕ → State
read_rest s heads starts bodies t = read_from (standing s heads starts bodies) s.at (drop s.at t)

abbrev pub Goes : Stand → Stand → List ℕ → Type 0
Goes s r t = (heads starts bodies : List ℕ) → read_rest r heads starts bodies t ≡ read_rest s heads starts bodies t

abbrev pub GoesHeads : Stand → List ℕ → Stand → List ℕ → List ℕ → Type 0
GoesHeads s heads r heads' t = (starts bodies : List ℕ) → read_rest r heads' starts bodies t ≡ read_rest s heads starts bodies t

abbrev pub GoesStarts : Stand → List ℕ → Stand → List ℕ → List ℕ → Type 0
GoesStarts s starts r starts' t = (heads bodies : List ℕ) → read_rest r heads starts' bodies t ≡ read_rest s heads starts bodies t

abbrev pub GoesBodies : Stand → List ℕ → Stand → List ℕ → List ℕ → Type 0
GoesBodies s bodies r bodies' t = (heads starts : List ℕ) → read_rest r heads starts bodies' t ≡ read_rest s heads starts bodies t

-- t begins with w
unfoldable pub begins : List ℕ → List ℕ → Bool
begins t [] = true
begins [] (b ∷ w) = false
begins (a ∷ t) (b ∷ w) = cond (eqb a b) (begins t w) false

unfoldable pub has_at : List ℕ → ℕ → List ℕ → Bool
has_at t i w = cond (ltb (length t) i) false (begins (drop i t) w)

abbrev pub short_number : ℕ → ℕ → Option ShortNumber
short_number value size = Some (record { value = value; count = size })

-- the number that begins with the bytes a, b and c
unfoldable pub short_number_of : ℕ → ℕ → ℕ → Option ShortNumber
short_number_of a b c =
    cond (ltb a 49) None
    (cond (ltb 57 a) None
    (cond (digit_test b)
    (cond (digit_test c) (short_number (((a - 48) * 10 + (b - 48)) * 10 + (c - 48)) 3) (short_number ((a - 48) * 10 + (b - 48)) 2))
    (short_number (a - 48) 1)))

-- four bytes are asked for, so that one stands after the number
unfoldable pub short_number_at : List ℕ → ℕ → Option ShortNumber
short_number_at t i =
    cond (ltb (length t) 4) None
    (cond (ltb (length t - 4) i) None (short_number_of (get_or t i 0) (get_or t (i + 1) 0) (get_or t (i + 2) 0)))

-- at place k itself, with fewer than 500 rules
unfoldable pub ready_at : Stand → ℕ → Bool
ready_at s k = cond (eqb s.k k) (cond (eqb (mode_number s.mode) 0) (ltb s.rules max_rules) false) false

-- the places of the two lists
unfoldable pub list_at : ℕ → Bool
list_at k = cond (eqb k form_positive) true (eqb k form_negative)

-- in a list, at its first number or after a space
unfoldable pub listing_at : Stand → Bool
listing_at s = cond (list_at s.k) (cond (eqb (mode_number s.mode) 0) true (eqb (mode_number s.mode) 3)) false

-- an atom above the list's last one, with room for it
unfoldable pub fits_at : Stand → ℕ → Bool
fits_at s value = cond (ltb s.atoms value) false (cond (leb value s.prev) false (ltb s.held max_body_atoms))

abbrev pub added_to : Stand → ℕ → ℕ → Mode → ℕ → Stand
added_to s value k mode at = record { k = k; at = at; rules = s.rules; held = s.held + 1; prev = value; atoms = s.atoms; mode = mode }
