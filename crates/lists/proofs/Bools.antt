-- Laws of `So`, conjunction, disjunction and equality of truth values.
-- Assumes nothing.
use mathlib.Core.Path.{◌≡◌, refl, sym, ◌∙◌}
use mathlib.Core.Logic.{◌⊎◌, inl, inr}
use mathlib.Core.Bool.{Bool, true, false, not, ◌&&◌, ◌||◌, So, false≢true, true≢false, beq}

pub and_in : {a b : Bool} → So a → So b → So (a && b)
and_in {a = true} s t = t
and_in {a = false} s t = s

pub and_left : (a b : Bool) → So (a && b) → So a
and_left true b t = refl
and_left false b t = t

pub and_right : (a b : Bool) → So (a && b) → So b
and_right true b t = t
and_right false b t = absurd (false≢true t)

pub or_left : (a b : Bool) → So a → So (a || b)
or_left true b t = refl
or_left false b t = absurd (false≢true t)

pub or_right : (a b : Bool) → So b → So (a || b)
or_right true b t = refl
or_right false b t = t

pub or_cases : (a b : Bool) → So (a || b) → So a ⊎ So b
or_cases true b t = inl refl
or_cases false b t = inr t

pub or_neither : (a b : Bool) → (a || b) ≡ false → (a ≡ false) × (b ≡ false)
or_neither true b e = absurd (true≢false e)
or_neither false b e = (refl, e)

pub and_assoc : (a b c : Bool) → ((a && b) && c) ≡ (a && (b && c))
and_assoc true b c = refl
and_assoc false b c = refl

pub or_assoc : (a b c : Bool) → ((a || b) || c) ≡ (a || (b || c))
or_assoc true b c = refl
or_assoc false b c = refl

-- false and true told apart, from one equation each way
pub So-or-not : (b : Bool) → So b ⊎ (b ≡ false)
So-or-not true = inl refl
So-or-not false = inr refl

pub not_So : (b : Bool) → b ≡ false → So b → ⊥
not_So b e t = true≢false (sym t ∙ e)

pub So-not : (b : Bool) → b ≡ false → So (not b)
So-not true e = absurd (true≢false e)
So-not false e = refl

pub false_of : (b : Bool) → (So b → ⊥) → b ≡ false
false_of true h = absurd (h refl)
false_of false h = refl

-- two truth values that hold together are equal
pub same : (a b : Bool) → (So a → So b) → (So b → So a) → a ≡ b
same true true f g = refl
same true false f g = sym (f refl)
same false true f g = g refl
same false false f g = refl

pub beq_eq : (a b : Bool) → So (beq a b) → a ≡ b
beq_eq true true t = refl
beq_eq true false t = absurd (false≢true t)
beq_eq false true t = absurd (false≢true t)
beq_eq false false t = refl

pub eq_beq : (a b : Bool) → a ≡ b → So (beq a b)
eq_beq true true e = refl
eq_beq true false e = absurd (true≢false e)
eq_beq false true e = absurd (false≢true e)
eq_beq false false e = refl
