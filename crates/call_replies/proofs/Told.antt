-- A reply, from what the calls below gave: a verdict by its case, a refusal by its number and spot.
-- Assumes nothing.
use Prim.Native.Nat.{ℕ}
use mathlib.Core.Path.{◌≡◌, sym, ◌∙◌, ap, ap₂}
use Rattle.call_replies.specs.declared.Reply.{Reply}
use Rattle.call_replies.specs.Replies.{refused_reply}

-- the verdict v is w
pub told : {A : Type 0} (f : A → Reply) {v w : A} {r : Reply} → v ≡ w → r ≡ f w → r ≡ f v
told f q e = e ∙ sym (ap f q)

pub numbered : {i j s u : ℕ} {r : Reply} → i ≡ j → s ≡ u → r ≡ refused_reply i s → r ≡ refused_reply j u
numbered e f q = q ∙ ap₂ refused_reply e f
