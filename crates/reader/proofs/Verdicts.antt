-- The verdict of a state, from what the reader keeps.
--   not_overlong              the reading of a text is refused with no number 1
--   accepted, told, verdict_is  the verdict, from the refusal kept
--   program_left              the program that the counts and arrays make
--   read_accepted, read_refused  the reader's answer, from its verdict and the program that is left
--   verdict_read, program_read, verdict_long, program_long  verdict and program of a text, by its length
-- Assumes nothing.
use Prim.Native.Nat.{ℕ, ◌+◌, ◌≤◌, ◌<◌}
use native.Mathlib.Omega.{arith}
use mathlib.Core.Path.{◌≡◌, refl, sym, ◌∙◌, ap}
use mathlib.Core.Bool.{Bool, true, false, cond, false≢true}
use mathlib.Core.List.{List, [], ◌∷◌}
use lib.Dec.{eqb, ltb, leb}
use lib.ListN.{length}
use borrow.Author.Tests.{lt-ltb, le-ltb}
use Rattle.std.specs.Prelude.{Option, Some, None, Ok, Err}
use Rattle.program.specs.declared.Program.{Program}
use Rattle.program.specs.Arrays.{empty_program}
use Rattle.refusals.specs.declared.TextRefusal.{TextRefusal}
use Rattle.refusals.specs.declared.TextRefusal.TheVariants.{Overlong, Malformed, TooManyAtoms, UnknownAtom, Unordered, TooManyRules, BodiesFull}
use Rattle.refusals.specs.Numbers.{text_number, text_spot}
use Rattle.reader_form.specs.Automaton.{form_step}
use Rattle.reader_work.specs.Work.{Tally, atoms_ended, head_ended, body_ended, opened_of, rule_shut, ended_of, bracket_of, work_of}
use Rattle.reader_work.specs.Numbers.{refusal_number, refusal_spot}
use Rattle.reader_work.specs.Fold.{State, advance, dead_at, ended, read_from, started, Ends}
use Rattle.reader.specs.Verdict.{ReadVerdict, verdict_told, refusal_of, refuse_of, verdict_of, program_of, finished, start, read_of, left_of}
use Rattle.reader.specs.declared.ReadResult.{ReadResult}

-- ---- the numbers

abbrev Named : Tally → Type 0
Named c = c.number ≡ 1 → ⊥

one_of : {A : Type 0} (P : A → Type 0) (b : Bool) {x y : A} → P x → P y → P (cond b x y)
one_of P true p q = p
one_of P false p q = q

module _ (c : Tally) (h : Named c) where
  named_work : (act k value begin i : ℕ) → Named (work_of act k value begin i c)
  unfolding work_of ended_of bracket_of atoms_ended head_ended body_ended opened_of rule_shut
  named_work act k value begin i =
      one_of Named (ltb act 3) h
      (one_of Named (eqb c.number 0)
      (one_of Named (eqb act 3)
      (one_of Named (eqb k 7) (one_of Named (ltb 126 value) (λ e. omega (arith, e)) h)
      (one_of Named (eqb k 16) (one_of Named (eqb value 0) (λ e. omega (arith, e)) (one_of Named (ltb c.atoms value) (λ e. omega (arith, e)) h))
      (one_of Named (eqb value 0) (λ e. omega (arith, e))
      (one_of Named (ltb c.atoms value) (λ e. omega (arith, e))
      (one_of Named (leb value c.prev) (λ e. omega (arith, e)) (one_of Named (ltb c.held 500) h (λ e. omega (arith, e))))))))
      (one_of Named (eqb act 4) (one_of Named (ltb c.rules 500) h (λ e. omega (arith, e)))
      (one_of Named (eqb act 5) h (one_of Named (ltb c.rules 500) h h))))
      h)

abbrev NamedState : State → Type 0
NamedState s = Named s.counts

named_read : (t : List ℕ) (s : State) (i : ℕ) → NamedState s → NamedState (read_from s i t)
unfolding read_from ended
named_read [] s i h = one_of NamedState (eqb s.k 10) (one_of NamedState (eqb s.mode 0) h (λ e. omega (arith, e))) (λ e. omega (arith, e))
named_read (b ∷ t) s i h =
    one_of NamedState (dead_at s b) (λ e. omega (arith, e))
    (named_read t (advance s i b) (i + 1) (named_work s.counts h (form_step s.k s.mode b).act s.k s.value s.begin i))

pub not_overlong : (heads starts bodies t : List ℕ) → (read_from (started heads starts bodies) 0 t).counts.number ≡ 1 → ⊥
not_overlong heads starts bodies t = named_read t (started heads starts bodies) 0 (λ e. omega (arith, e))

-- ---- the verdict

named_by : (r : TextRefusal) → (text_number r ≡ 1 → ⊥) → refusal_of (text_number r) (text_spot r) ≡ r
unfolding refusal_of
named_by (Overlong spot) h = absurd (h refl)
named_by (Malformed spot) h = refl
named_by (TooManyAtoms spot) h = refl
named_by (UnknownAtom spot) h = refl
named_by (Unordered spot) h = refl
named_by (TooManyRules spot) h = refl
named_by (BodiesFull spot) h = refl

some_row : (r : TextRefusal) → eqb (text_number r) 0 ≡ false
some_row (Overlong spot) = refl
some_row (Malformed spot) = refl
some_row (TooManyAtoms spot) = refl
some_row (UnknownAtom spot) = refl
some_row (Unordered spot) = refl
some_row (TooManyRules spot) = refl
some_row (BodiesFull spot) = refl

module _ (o : Option TextRefusal) {c : Tally} {h st b : List ℕ} {s : State} (e : Ends c h st b s) (p : refusal_number o ≡ c.number) where
  number_is : refusal_number o ≡ s.counts.number
  number_is = p ∙ ap (λ (c : Tally). c.number) e.ends_counts

  pub accepted : o ≡ None → ◌≡◌ {A = ReadVerdict} (Ok tt) (verdict_of s)
  accepted n = rw (sym number_is ∙ ap refusal_number n)

  pub told : (r : TextRefusal) → o ≡ Some r → refusal_spot o ≡ c.spot → (s.counts.number ≡ 1 → ⊥) → ◌≡◌ {A = ReadVerdict} (Err r) (verdict_of s)
  told r n q h =
      let a : s.counts.number ≡ text_number r = sym number_is ∙ ap refusal_number n in
      let g : s.counts.spot ≡ text_spot r = sym (q ∙ ap (λ (c : Tally). c.spot) e.ends_counts) ∙ ap refusal_spot n in
      rw (a, g, some_row r, named_by r (λ z. h (a ∙ z)))

pub verdict_is : (o : Option TextRefusal) {c : Tally} {h st b : List ℕ} {s : State} → Ends c h st b s → refusal_number o ≡ c.number → refusal_spot o ≡ c.spot
    → (s.counts.number ≡ 1 → ⊥) → verdict_told o ≡ verdict_of s
verdict_is None e p q h = accepted None e p refl
verdict_is (Some r) e p q h = told (Some r) e p r refl q h

-- ---- the answer

pub program_left : {c : Tally} {h st b : List ℕ} {s : State} → Ends c h st b s
    → ◌≡◌ {A = Program} (record { atoms = c.atoms; rules = c.rules; held = c.held; heads = h; starts = st; bodies = b }) (program_of s)
program_left e = rw (e.ends_counts, e.ends_heads, e.ends_starts, e.ends_bodies)

-- the answer, by the verdict: b says that the text is overlong, c that nothing is refused
abbrev answered : Bool → Bool → TextRefusal → TextRefusal → Program → ReadResult
answered b c o q p = cond b (refuse_of o) (cond c (record { verdict = Ok tt; program = p }) (refuse_of q))

abbrev refuses : ReadVerdict → Bool
refuses (Ok u) = false
refuses (Err r) = true

answered_ok : (b c : Bool) (o q : TextRefusal) (p : Program) → ◌≡◌ {A = ReadVerdict} (Ok tt) (answered b c o q p).verdict
    → ◌≡◌ {A = ReadResult} (record { verdict = Ok tt; program = cond b empty_program p }) (answered b c o q p)
unfolding refuse_of
answered_ok true c o q p e = absurd (false≢true (ap refuses e))
answered_ok false true o q p e = refl
answered_ok false false o q p e = absurd (false≢true (ap refuses e))

abbrev refusal_in : TextRefusal → ReadVerdict → TextRefusal
refusal_in r (Ok u) = r
refusal_in r (Err q) = q

answered_err : (b c : Bool) (o q r : TextRefusal) (p : Program) → ◌≡◌ {A = ReadVerdict} (Err r) (answered b c o q p).verdict → refuse_of r ≡ answered b c o q p
unfolding refuse_of
answered_err true c o q r p e = ap refuse_of (ap (refusal_in r) e)
answered_err false true o q r p e = absurd (false≢true (sym (ap refuses e)))
answered_err false false o q r p e = ap refuse_of (ap (refusal_in r) e)

verdict_finished : (c : Bool) (q : TextRefusal) (p : Program) → ◌≡◌ {A = ReadVerdict} (cond c (Ok tt) (Err q)) (answered false c q q p).verdict
unfolding refuse_of
verdict_finished true q p = refl
verdict_finished false q p = refl

module _ (t : List ℕ) where
  pub read_accepted : ◌≡◌ {A = ReadVerdict} (Ok tt) (read_of t).verdict → ◌≡◌ {A = ReadResult} (record { verdict = Ok tt; program = left_of t }) (read_of t)
  unfolding read_of finished left_of
  read_accepted e =
      let s = read_from start 0 t in
      answered_ok (ltb 65536 (length t)) (eqb s.counts.number 0) (Overlong (length t)) (refusal_of s.counts.number s.counts.spot) (program_of s) e

  pub read_refused : (r : TextRefusal) → ◌≡◌ {A = ReadVerdict} (Err r) (read_of t).verdict → refuse_of r ≡ read_of t
  unfolding read_of finished
  read_refused r e =
      let s = read_from start 0 t in
      answered_err (ltb 65536 (length t)) (eqb s.counts.number 0) (Overlong (length t)) (refusal_of s.counts.number s.counts.spot) r (program_of s) e

-- the state after a text, read into the arrays of p
abbrev last : List ℕ → Program → State
last t p = read_from (started p.heads p.starts p.bodies) 0 t

module _ (t : List ℕ) {p : Program} (e : p ≡ empty_program) where
  from_start : last t p ≡ read_from start 0 t
  unfolding empty_program
  from_start = ap (last t) e

  module _ (h : length t ≤ 65536) where
    pub verdict_read : verdict_of (last t p) ≡ (read_of t).verdict
    unfolding read_of finished
    verdict_read =
        let s = read_from start 0 t in
        ap verdict_of from_start
        ∙ verdict_finished (eqb s.counts.number 0) (refusal_of s.counts.number s.counts.spot) (program_of s)
        ∙ sym (short (length t) h)
      where
        short : (n : ℕ) → n ≤ 65536 → (cond (ltb 65536 n) (refuse_of (Overlong n)) (finished (read_from start 0 t))).verdict ≡ (finished (read_from start 0 t)).verdict
        short n g = rw (le-ltb 65536 n g)

    pub program_read : program_of (last t p) ≡ left_of t
    unfolding left_of
    program_read = ap program_of from_start ∙ sym (short (length t) h)
      where
        short : (n : ℕ) → n ≤ 65536 → cond (ltb 65536 n) empty_program (program_of (read_from start 0 t)) ≡ program_of (read_from start 0 t)
        short n g = rw (le-ltb 65536 n g)

  module _ (h : 65536 < length t) where
    pub verdict_long : ◌≡◌ {A = ReadVerdict} (Err (Overlong (length t))) (read_of t).verdict
    unfolding read_of refuse_of
    verdict_long = rw (lt-ltb 65536 (length t) h)

    pub program_long : p ≡ left_of t
    unfolding left_of
    program_long = e ∙ long (length t) h
      where
        long : (n : ℕ) → 65536 < n → empty_program ≡ cond (ltb 65536 n) empty_program (program_of (read_from start 0 t))
        long n g = rw (lt-ltb 65536 n g)
