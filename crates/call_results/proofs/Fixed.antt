-- One equation about a call fixes each part: its answer and every byte of its two lent buffers.
-- Assumes nothing.
use Prim.Native.Nat.{ℕ}
use mathlib.Core.Path.{◌≡◌, ap}
use mathlib.Core.List.{List}
use Rattle.call_results.specs.Results.{Called, called}

pub called_fixes : {A : Type 0} {v w : A} {b c l m : List ℕ} → called v b l ≡ called w c m → (v ≡ w) × (b ≡ c) × (l ≡ m)
called_fixes {A} e = (ap (λ (x : Called A). x.verdict) e, ap (λ (x : Called A). x.assignment) e, ap (λ (x : Called A). x.levels) e)
