-- Literals that are passed over at once.
--   PassKeeps, gives_keep    where they are assigned, the form, the outcome and the buffer from there on are those from before them
--   NextKeeps, next_keeps    the same after the code's answer so far
-- Assumes nothing.
use Prim.Native.Nat.{ℕ, ◌-◌, ◌≤◌, ◌<◌}
use native.Mathlib.Omega.{arith}
use mathlib.Core.Path.{◌≡◌, refl, sym, ◌∙◌, ap}
use mathlib.Core.List.{List}
use lib.ListN.{length, get_or, set}
use borrow.Author.Tests.{eq-eqb, le-ltb}
use Rattle.encoding.specs.Literal.{Literal, variable}
use Literal.{var, −◌}
use Rattle.answer_form.specs.Pieces.{Next, next_literal, Spotted}
use Rattle.answer_reader.specs.Results.{capped, next_for, model_from}
use Rattle.answer_reader.proofs.Whole.{model_goes}
use Rattle.answer_quick.specs.Quick.{Gives}
use Rattle.std.specs.Prelude.{Ok, Err}
use Rattle.answer_bytes.specs.Bytes.{Outcome, put_outcome, put_bytes, Assigned, assigned_for}
use Rattle.answer_values.specs.Assign.{literals_from, literal_value, assigned_of, assigned_bytes, next_answer, next_bytes, PassesNext}
use Rattle.answer_values.proofs.Taking.{literals_more}

module _ (n v s x : ℕ) (b : List ℕ) (h : v ≤ n) (e : get_or b (v - 1) 0 ≡ 2) where
  outcome_done : put_outcome n v s b ≡ Outcome.done
  unfolding put_outcome
  outcome_done = rw (le-ltb n v h, eq-eqb (get_or b (v - 1) 0) 2 e)

  bytes_set : put_bytes n v x b ≡ set b (v - 1) x
  unfolding put_bytes
  bytes_set = rw (le-ltb n v h, eq-eqb (get_or b (v - 1) 0) 2 e)

module _ (t : List ℕ) (n p : ℕ) (b : List ℕ) where
  pub record PassKeeps (q : ℕ) (c : List ℕ) : Type 0 where
    pub further : p ≤ q
    pub within : q ≤ length t
    pub form : (e : ℕ) → model_from e q t ≡ model_from e p t
    pub outcome : assigned_of n (literals_from t q) c ≡ assigned_of n (literals_from t p) b
    pub bytes : assigned_bytes n (literals_from t q) c ≡ assigned_bytes n (literals_from t p) b

  -- one literal more
  one_keeps : (q : ℕ) (c : List ℕ) → PassKeeps q c → (l : Literal) (f j : ℕ) → next_literal t q ≡ Next.literal l f j → variable l ≤ n
      → get_or c (variable l - 1) 0 ≡ 2 → PassKeeps j (set c (variable l - 1) (literal_value l))
  one_keeps q c w l f j is h e =
      let more = literals_more t q l f j is in
      let done = outcome_done n (variable l) f (literal_value l) c h e in
      let put = bytes_set n (variable l) f (literal_value l) c h e in
      record {
        further = omega (arith, w.further, (goes 0).0);
        within = (goes 0).1;
        form = λ k. (goes k).2 ∙ w.form k;
        outcome = sym (ap (λ (u : List Spotted). assigned_of n u c) more ∙ rw (done, put)) ∙ w.outcome;
        bytes = sym (ap (λ (u : List Spotted). assigned_bytes n u c) more ∙ rw (done, put)) ∙ w.bytes;
      }
    where
      goes : (k : ℕ) → (q < j) × (j ≤ length t) × (model_from k j t ≡ model_from k q t)
      goes k = model_goes t k q w.within (next_for (next_literal t q)) refl (capped l) f j (ap next_for is)

  pub gives_keep : p ≤ length t → {q : ℕ} {c : List ℕ} → Gives t n p b q c → PassKeeps q c
  gives_keep h Gives.none = record { further = omega arith; within = h; form = λ k. refl; outcome = refl; bytes = refl }
  gives_keep h (Gives.plus {q = q} {c = c} k f j g so is a e) = one_keeps q c (gives_keep h g) (var k) f j is a e
  gives_keep h (Gives.minus {q = q} {c = c} k f j g so is a e) = one_keeps q c (gives_keep h g) (− k) f j is a e

  -- ---- after an answer

  pub record NextKeeps (o : Assigned) (q : ℕ) (c : List ℕ) : Type 0 where
    pub further : p ≤ q
    pub within : q ≤ length t
    pub form : (e : ℕ) → model_from e q t ≡ model_from e p t
    pub outcome : next_answer o (assigned_of n (literals_from t q) c) ≡ next_answer o (assigned_of n (literals_from t p) b)
    pub bytes : next_bytes o (assigned_bytes n (literals_from t q) c) c ≡ next_bytes o (assigned_bytes n (literals_from t p) b) b

  pub next_keeps : p ≤ length t → (o : Assigned) (q : ℕ) (c : List ℕ) → PassesNext o t n p b q c → NextKeeps o q c
  next_keeps h (Ok x) q c w =
      let k = gives_keep h w.each in
      record { further = k.further; within = k.within; form = k.form; outcome = ap assigned_for k.outcome; bytes = k.bytes }
  next_keeps h (Err f) q c w =
      let same : (e : ℕ) → model_from e q t ≡ model_from e p t = λ e. ap (λ (i : ℕ). model_from e i t) w.0 in
      record { further = omega (arith, w.0); within = omega (arith, w.0, h); form = same; outcome = refl; bytes = w.1 }
