-- From an answer of the code back to the definition's: which status, which literal, which end.
--   found_satisfiable            the status
--   next_named, next_last, next_left             the next literal; of a number that is handed out, some literal is the number's
--   next_further                                 a literal stands after the position, within the text
-- Assumes nothing.
use Prim.Native.Nat.{ℕ, ◌≤◌, ◌<◌}
use native.Mathlib.Omega.{arith}
use mathlib.Core.Path.{◌≡◌, subst}
use mathlib.Core.List.{List}
use lib.IntN.{ℤ}
use lib.ListN.{length, length-drop, drop}
use Rattle.encoding.specs.Literal.{Literal}
use Rattle.answer_form.specs.Pieces.{Found, Next, next_literal}
use Rattle.answer_form.proofs.Passing.{Heard, next_heard}
use Rattle.std.specs.Prelude.{Ok, Err}
use Rattle.answer_reader.specs.declared.Token.TheVariants as token
use Rattle.answer_reader.specs.Results.{capped, found_for, next_for}

-- ---- the status

pub found_satisfiable : (x : Found) (e : ℕ) → found_for x ≡ Ok e → x ≡ Found.satisfiable e
found_satisfiable (Found.satisfiable k) e q = cc
found_satisfiable (Found.other s) e q = cc
found_satisfiable (Found.left s) e q = cc

-- ---- literals

pub next_named : (x : Next) (z : ℤ) (f j : ℕ) → next_for x ≡ Ok (token.Literal z f j) → (l : Literal) × (z ≡ capped l) × (x ≡ Next.literal l f j)
next_named (Next.literal l g k) z f j q = (l, cc, cc)
next_named (Next.last k) z f j q = absurd (cc)
next_named (Next.left s) z f j q = absurd (cc)

pub next_last : (x : Next) (j : ℕ) → next_for x ≡ Ok (token.Last j) → x ≡ Next.last j
next_last (Next.literal l f k) j q = cc
next_last (Next.last k) j q = cc
next_last (Next.left s) j q = cc

pub next_left : (x : Next) (s : ℕ) → next_for x ≡ Err s → x ≡ Next.left s
next_left (Next.literal l f k) s q = cc
next_left (Next.last k) s q = cc
next_left (Next.left k) s q = cc

-- a literal's first byte is not before the position, and the position after it is within the text
pub next_further : (t : List ℕ) (p : ℕ) (l : Literal) (f j : ℕ) → next_literal t p ≡ Next.literal l f j → p ≤ length t → (p ≤ f) × (f < j) × (j ≤ length t)
next_further t p l f j e h = go (subst (λ (x : Next). Heard 35 p (drop p t) x) e (next_heard t p))
  where
    go : Heard 35 p (drop p t) (Next.literal l f j) → (p ≤ f) × (f < j) × (j ≤ length t)
    go (Heard.a_literal m g k n a b c s w) = (b, c, omega (arith, h, s, w.within, length-drop p t))
