-- Where a text leaves a form (document 01, "Verdicts", row 2; row 11 has its spot as row 2), for any form.
--   ViableIn Form t        some ending of t, a list of bytes, gives the form
--   MalformedIn Form t s   s is the first byte after which no ending gives the form, or the length if the text stops short
-- Assumes nothing.
use Rattle.std.specs.Prelude.{ℕ, ◌+◌, ◌≤◌, ◌<◌, ◌≡◌, List, ◌++◌, length, take}
use Rattle.std.proofs.Math.Bool.{So}
use Rattle.text.specs.Bytes.{are_bytes}

pub record ViableIn (Form : List ℕ → Type 0) (t : List ℕ) : Type 0 where
  pub ending : List ℕ
  pub bytes : So (are_bytes ending)
  pub gives : Form (t ++ ending)

pub record MalformedIn (Form : List ℕ → Type 0) (t : List ℕ) (s : ℕ) : Type 0 where
  pub within : s ≤ length t
  -- some ending of the first s bytes gives the form
  pub before : ViableIn Form (take s t)
  -- none does with the byte at s
  pub dead : s < length t → ViableIn Form (take (s + 1) t) → ⊥
  -- and a text that stops short does not have it
  pub short : s ≡ length t → Form t → ⊥
