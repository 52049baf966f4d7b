-- The bytes of a text in ASCII, so that examples can be written as texts.
-- Assumes nothing.
use Rattle.std.specs.Prelude.{ℕ, zero, suc, ◌+◌, List, [], ◌∷◌}
use Prim.Native.Char.{code}
use Prim.Native.String.{String, len, char_at}

-- k bytes from byte i on
abbrev bytes_from : ℕ → String → ℕ → List ℕ
bytes_from zero s i = []
bytes_from (suc k) s i = code (char_at s i) ∷ bytes_from k s (i + 1)

unfoldable pub ascii : String → List ℕ
ascii s = bytes_from (len s) s 0
