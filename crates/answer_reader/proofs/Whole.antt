-- The form of the whole answer: literal by literal, and by its status.
--   model_goes            after a literal the form is what it was before it, and the position is further on
--   model_ends, model_breaks    literal 0 and what follows it; the spot where the answer leaves the form
--   form_satisfiable, form_refused   the form by the status
--   status_end_within     the status line ends within the answer
-- Assumes nothing.
use Prim.Native.Nat.{ℕ, ◌+◌, ◌≤◌, ◌<◌}
use native.Mathlib.Nat.{zero-add, add_assoc}
use native.Mathlib.Omega.{arith}
use mathlib.Core.Path.{◌≡◌, refl, sym, ◌∙◌, ap, ap₂, subst}
use mathlib.Core.Bool.{Bool, cond}
use mathlib.Core.List.{List}
use lib.IntN.{ℤ}
use lib.ListN.{length, drop}
use lib.Seq.{drop-drop}
use Rattle.encoding.specs.Literal.{Literal}
use Rattle.answer_form.specs.Automaton.{answer_accepts, answer_leaves}
use Rattle.answer_form.specs.Pieces.{Found, status_of, Next, next_literal, Close, close_of, Reads}
use Rattle.answer_form.proofs.Passing.{Passes, Heard, next_heard, Closed}
use Rattle.answer_form.proofs.StatusLaws.{Told, status_told}
use Rattle.answer_form.proofs.PieceLaws.{reads_closed}
use Rattle.answer_form.proofs.Whole.{status_within}
use Rattle.std.specs.Prelude.{⊤, Result, Ok, Err}
use Rattle.answer_reader.specs.declared.AnswerFault.{AnswerFault}
use Rattle.answer_reader.specs.declared.Token.{Token}
use Rattle.answer_reader.specs.declared.Token.TheVariants as token
use Rattle.answer_reader.proofs.Given.{found_satisfiable, next_named, next_last, next_left, next_further}
use Rattle.answer_reader.specs.Results.{Formed, malformed, found_for, next_for, close_for, closed_form, model_from, form_for, form_of}

-- ---- from literal to literal

module _ (t : List ℕ) where
  passed : (q r i n : ℕ) → Passes q (drop i t) r n → (e : ℕ)
      → cond (answer_accepts q (drop i t)) (Ok e) (malformed (i + answer_leaves q (drop i t)))
      ≡ cond (answer_accepts r (drop (i + n) t)) (Ok e) (malformed (i + n + answer_leaves r (drop (i + n) t)))
  passed q r i n w e =
      ap₂ (λ (x : Bool) (y : ℕ). cond x (Ok e) (malformed y)) (w.accept ∙ ap (answer_accepts r) (drop-drop n i t))
      (ap (λ (k : ℕ). i + k) (w.leave ∙ ap (λ (u : List ℕ). n + answer_leaves r u) (drop-drop n i t)) ∙ sym (add_assoc i n (answer_leaves r (drop (i + n) t))))

  module _ (e p : ℕ) where
    model_same : (l : Literal) (f j : ℕ) → next_literal t p ≡ Next.literal l f j → model_from e j t ≡ model_from e p t
    unfolding model_from
    model_same l f j is = go (subst (λ (x : Next). Heard 35 p (drop p t) x) is (next_heard t p))
      where
        go : Heard 35 p (drop p t) (Next.literal l f j) → model_from e j t ≡ model_from e p t
        go (Heard.a_literal m g k n a b c s w) = ap (λ (i : ℕ). model_from e i t) s ∙ sym (passed 35 35 p n w e)

    pub model_goes : p ≤ length t → (r : Result Token ℕ) → r ≡ next_for (next_literal t p) → (z : ℤ) (f j : ℕ) → r ≡ Ok (token.Literal z f j)
        → (p < j) × (j ≤ length t) × (model_from e j t ≡ model_from e p t)
    model_goes h r a z f j b =
        let n = next_named (next_literal t p) z f j (sym a ∙ b) in
        let k = next_further t p n.0 f j n.2 h in
        (omega (arith, k.0, k.1), k.2, model_same n.0 f j n.2)

    model_closed : (c : Close) → Closed 35 p (drop p t) c → closed_form e (close_for c) ≡ model_from e p t
    unfolding model_from
    model_closed c (Closed.is_fine a) = rw a
    model_closed c (Closed.is_left s n f x) = ap malformed (f ∙ ap (λ (k : ℕ). p + k) (sym x.leave)) ∙ rw x.reject

    pub model_ends : (r : Result Token ℕ) → r ≡ next_for (next_literal t p) → (j : ℕ) → r ≡ Ok (token.Last j) → (c : Result ⊤ ℕ) → c ≡ close_for (close_of t j)
        → (f : Formed) → f ≡ closed_form e c → f ≡ model_from e p t
    model_ends r a j b c d f g =
        g ∙ ap (closed_form e) d ∙ model_closed (close_of t j) (reads_closed t (Reads.ends j (next_last (next_literal t p) j (sym a ∙ b)) refl))

    pub model_breaks : (r : Result Token ℕ) → r ≡ next_for (next_literal t p) → (s : ℕ) → r ≡ Err s → malformed s ≡ model_from e p t
    model_breaks r a s b = model_closed (Close.left s) (reads_closed t (Reads.breaks s (next_left (next_literal t p) s (sym a ∙ b))))

  -- ---- by the status

  module _ (r : Formed) (a : r ≡ found_for (status_of t)) where
    status_is : (e : ℕ) → r ≡ Ok e → status_of t ≡ Found.satisfiable e
    status_is e b = found_satisfiable (status_of t) e (sym a ∙ b)

    pub status_end_within : (e : ℕ) → r ≡ Ok e → e ≤ length t
    status_end_within e b = status_within t e (status_is e b)

    pub form_satisfiable : (e : ℕ) → r ≡ Ok e → (f : Formed) → f ≡ model_from e e t → f ≡ form_of t
    unfolding form_of model_from
    form_satisfiable e b f g = g ∙ go (subst (λ (x : Found). Told 0 t x) (status_is e b) (status_told t)) ∙ sym (ap (form_for t) (status_is e b))
      where
        go : Told 0 t (Found.satisfiable e) → model_from e e t ≡ form_for t (Found.satisfiable e)
        go (Told.a_model k n h w) =
            let v : Passes 0 t 35 e = subst (λ (j : ℕ). Passes 0 t 35 j) (sym (h ∙ zero-add n)) w in
            sym (ap₂ (λ (x : Bool) (y : ℕ). cond x (Ok e) (malformed y)) v.accept v.leave)

    pub form_refused : (f : AnswerFault) → r ≡ Err f → Err f ≡ form_of t
    unfolding form_of
    form_refused f b = go (status_of t) refl (sym a ∙ b)
      where
        go : (x : Found) → status_of t ≡ x → found_for x ≡ Err f → Err f ≡ form_for t (status_of t)
        go (Found.satisfiable e) is z = cc
        go (Found.other s) is z = sym z ∙ sym (ap (form_for t) is)
        go (Found.left s) is z = sym z ∙ sym (ap (form_for t) is)
