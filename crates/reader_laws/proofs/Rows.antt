-- The reader's answer is the first row met, and it accepts exactly if none is.
-- Assumes nothing.
use Prim.Native.Nat.{ℕ, ◌-◌, ◌≤◌, ◌<◌}
use native.Mathlib.Nat.{zero-add, suc-ne-zero, lt_irrefl, le_refl, le_trans, le_of_lt, le_antisymm}
use native.Mathlib.Omega.{arith}
use mathlib.Core.Path.{◌≡◌, refl, sym, ◌∙◌, ap, subst}
use mathlib.Core.Logic.{◌⊎◌, inl, inr, ⊎_elim}
use mathlib.Core.Bool.{Bool, true, false, false≢true}
use mathlib.Core.List.{List, [], ◌∷◌}
use lib.ListN.{length, get_or}
use borrow.Author.Tests.{lt-ltb, le-ltb, ne_eqb}
use Rattle.lists.proofs.Tests.{le_or_lt}
use Rattle.meaning.specs.Program.{Program}
use Rattle.text.specs.Text.{text_of, Malformed}
use Rattle.refusals.specs.declared.TextRefusal.{TextRefusal}
use Rattle.refusals.specs.declared.TextRefusal.TheVariants as Refusal
use Rattle.reader_work.specs.Fold.{State, read_from}
use Rattle.refusals.specs.Numbers.{text_number, text_spot}
use Rattle.reader.specs.Verdict.{refusal_of, refuse_of, finished, read_of}
use Rattle.reader.specs.Verdict as Verdict
use Rattle.reader_laws.specs.Judge.{Work, judged}
use Rattle.reader_laws.specs.Scan.{text_accepts, text_leaves}
use Rattle.reader_laws.specs.Breach.{Event, events, no_event, Breached, too_many_atoms, unknown_head, unknown_atom, unordered, too_many_rules, bodies_full, Breach, Hit, hits}
use Rattle.program.specs.Arrays.{kept}
use Rattle.reader_laws.specs.Row.{Row, overlong, malformed, breach, rank, NoLaterBy, NoLater, ranked, nearer, smaller, FirstRow, Answers}
use Rattle.reader_laws.proofs.Values.{state_of, read_text}
use Rattle.reader_laws.proofs.Scanned.{MalformedAt, read_rejects}
use Rattle.reader_laws.proofs.Sound.{sound}
use Rattle.reader_laws.proofs.Spot.{rejected_malformed, spot_unique, form_not_malformed}
use Rattle.reader_laws.proofs.Unique.{text_unique}
use Rattle.reader_laws.proofs.Outcomes.{Out, passed, stopped, Stopped}
use Rattle.reader_laws.proofs.Judged.{start, whole, judged_out}
use Rattle.reader_laws.proofs.Order.{Before, first_hit, hit_event, no_hit, span_events, breached_meets, meets_breached}
use Rattle.std.specs.Prelude.{Ok, Err}
use Rattle.reader.specs.Verdict.{ReadVerdict}
use Rattle.reader.specs.declared.ReadResult.{ReadResult}

-- the reader's answer, with why it gives it
pub data Outcome (t : List ℕ) : Type 0 where
  too_long : 65536 < length t → read_of t ≡ refuse_of (Refusal.Overlong (length t)) → Outcome t
  left_form : (s : ℕ) → length t ≤ 65536 → Malformed t s → read_of t ≡ refuse_of (Refusal.Malformed s) → Outcome t
  breached : (P : Program) (h : Hit) (rest : List Hit) → length t ≤ 65536 → t ≡ text_of P → hits P ≡ h ∷ rest → read_of t ≡ refuse_of (refusal_of h.row h.spot) → Outcome t
  fine : (P : Program) → length t ≤ 65536 → t ≡ text_of P → hits P ≡ [] → read_of t ≡ record { verdict = Ok tt; program = kept P } → Outcome t

read_short : (t : List ℕ) → length t ≤ 65536 → read_of t ≡ finished (read_from Verdict.start 0 t)
unfolding read_of
read_short t h = rw (le-ltb 65536 (length t) h)

finish_malformed : (s : State) (u : ℕ) → MalformedAt s.counts u → finished s ≡ refuse_of (Refusal.Malformed u)
unfolding finished refusal_of
finish_malformed s u m = rw (m.row, m.spot)

read_long : (t : List ℕ) → 65536 < length t → read_of t ≡ refuse_of (Refusal.Overlong (length t))
unfolding read_of
read_long t h = rw (lt-ltb 65536 (length t) h)

read_malformed : (t : List ℕ) → text_accepts 0 0 t ≡ false → finished (read_from Verdict.start 0 t) ≡ refuse_of (Refusal.Malformed (text_leaves 0 0 t))
read_malformed t e =
    finish_malformed (read_from Verdict.start 0 t) (text_leaves 0 0 t)
    (subst (MalformedAt (read_from Verdict.start 0 t).counts) (zero-add (text_leaves 0 0 t)) (read_rejects t Verdict.start 0 e))

read_form : (P : Program) → read_from Verdict.start 0 (text_of P) ≡ state_of 10 0 0 0 (judged P start)
unfolding start
read_form P = read_text P start

finish_passed : (P : Program) → finished (state_of 10 0 0 0 (whole P)) ≡ record { verdict = Ok tt; program = kept P }
unfolding finished kept
finish_passed P = refl

finish_stopped : (W : Work) (h : Hit) → Stopped W h → finished (state_of 10 0 0 0 W) ≡ refuse_of (refusal_of h.row h.spot)
unfolding finished
finish_stopped W h s = rw (s.row_is, s.spot_is, ne_eqb h.row 0 s.a_row)

form_outcome : (t : List ℕ) (P : Program) → length t ≤ 65536 → t ≡ text_of P → Outcome t
form_outcome t P h p = go (judged_out P)
  where
    answer : read_of t ≡ finished (state_of 10 0 0 0 (judged P start))
    answer = read_short t h ∙ ap (λ (u : List ℕ). finished (read_from Verdict.start 0 u)) p ∙ ap finished (read_form P)

    go : Out (hits P) (judged P start) (whole P) → Outcome t
    go (passed e w) = fine P h p e (answer ∙ ap (λ (W : Work). finished (state_of 10 0 0 0 W)) w ∙ finish_passed P)
    go (stopped x rest e s) = breached P x rest h p e (answer ∙ finish_stopped (judged P start) x s)

short_outcome : (t : List ℕ) → length t ≤ 65536 → (d : Bool) → text_accepts 0 0 t ≡ d → Outcome t
short_outcome t h true e = let f = sound t e in form_outcome t f.program h f.its_text
short_outcome t h false e = left_form (text_leaves 0 0 t) h (rejected_malformed t e) (read_short t h ∙ read_malformed t e)

pub outcome : (t : List ℕ) → Outcome t
outcome t = ⊎_elim (λ (h : length t ≤ 65536). short_outcome t h (text_accepts 0 0 t) refl) (λ (h : 65536 < length t). too_long h (read_long t h)) (le_or_lt (length t) 65536)

-- ---- the rows met

-- what rows 3 to 7 have in common
record Later (k : ℕ) : Type 0 where
  pub ranks : rank k ≡ 2
  pub numbered : (s : ℕ) → text_number (refusal_of k s) ≡ k
  pub spotted : (s : ℕ) → text_spot (refusal_of k s) ≡ s

later : {N : ℕ} {e : Event} {k : ℕ} → Breached N e k → Later k
unfolding refusal_of
later (too_many_atoms h) = record { ranks = refl; numbered = λ s. refl; spotted = λ s. refl }
later (unknown_head h) = record { ranks = refl; numbered = λ s. refl; spotted = λ s. refl }
later (unknown_atom h) = record { ranks = refl; numbered = λ s. refl; spotted = λ s. refl }
later (unordered h) = record { ranks = refl; numbered = λ s. refl; spotted = λ s. refl }
later too_many_rules = record { ranks = refl; numbered = λ s. refl; spotted = λ s. refl }
later bodies_full = record { ranks = refl; numbered = λ s. refl; spotted = λ s. refl }

-- a short text of the form meets the breaches of its program only
row_breach : (t : List ℕ) (P : Program) → length t ≤ 65536 → t ≡ text_of P → (k s : ℕ) → Row t k s → Breach P k s
row_breach t P h p k s (overlong l) = absurd (lt_irrefl 65536 (le_trans l h))
row_breach t P h p k s (malformed m) = absurd (form_not_malformed t s (record { program = P; its_text = p }) m)
row_breach t P h p k s (breach Q q b) = subst (λ (X : Program). Breach X k s) (text_unique Q P (sym q ∙ p)) b

first_long : (t : List ℕ) → 65536 < length t → FirstRow t 1 (length t)
first_long t h = record { met = overlong h; first = go }
  where
    go : (l u : ℕ) → Row t l u → NoLater 1 (length t) l u
    go l u (overlong x) = smaller refl refl (le_refl 1)
    go l u (malformed m) = ranked (le_refl 1)
    go l u (breach P p b) = ranked (subst (λ (x : ℕ). 0 < x) (sym (later b.breached).ranks) (omega arith))

first_malformed : (t : List ℕ) (s : ℕ) → length t ≤ 65536 → Malformed t s → FirstRow t 2 s
first_malformed t s h m = record { met = malformed m; first = go }
  where
    go : (l u : ℕ) → Row t l u → NoLater 2 s l u
    go l u (overlong x) = absurd (lt_irrefl 65536 (le_trans x h))
    go l u (malformed n) = smaller refl (spot_unique t s u m n) (le_refl 2)
    go l u (breach P p b) = absurd (form_not_malformed t s (record { program = P; its_text = p }) m)

first_breach : (t : List ℕ) (P : Program) (h : Hit) (rest : List Hit) → length t ≤ 65536 → t ≡ text_of P → hits P ≡ h ∷ rest → FirstRow t h.row h.spot
first_breach t P h rest b p e = record { met = breach P p own; first = λ l u r. go l u (row_breach t P b p l u r) }
  where
    own : Breach P h.row h.spot
    own =
        let q = hit_event P.atoms (events P) h rest e in
        record { place = q.0; is_event = q.1; breached = meets_breached P.atoms (get_or (events P) q.0 no_event) h.row q.2; its_spot = q.3 }

    ordered : (l u : ℕ) → rank h.row ≡ rank l → Before h l u → NoLater h.row h.spot l u
    ordered l u r (Before.nearer x) = nearer r x
    ordered l u r (Before.same x y) = smaller r x y

    go : (l u : ℕ) → Breach P l u → NoLater h.row h.spot l u
    go l u x =
        ordered l u ((later own.breached).ranks ∙ sym (later x.breached).ranks)
        (subst (Before h l) x.its_spot
        (first_hit P.atoms (events P) (span_events P).1 h rest e x.place x.is_event l
        (breached_meets P.atoms (get_or (events P) x.place no_event) l x.breached)))

-- of two rows that come no later than one another, number and spot are the same
pub no_later_both : (order : ℕ → ℕ) (k s l u : ℕ) → NoLaterBy order k s l u → NoLaterBy order l u k s → (k ≡ l) × (s ≡ u)
no_later_both order k s l u = go
  where
    go : NoLaterBy order k s l u → NoLaterBy order l u k s → (k ≡ l) × (s ≡ u)
    go (ranked x) (ranked y) = absurd (lt_irrefl (order k) (le_trans x (le_of_lt y)))
    go (ranked x) (nearer r y) = absurd (lt_irrefl (order k) (subst (λ (z : ℕ). order k < z) r x))
    go (ranked x) (smaller r y z) = absurd (lt_irrefl (order k) (subst (λ (z : ℕ). order k < z) r x))
    go (nearer r x) (ranked y) = absurd (lt_irrefl (order l) (subst (λ (z : ℕ). order l < z) r y))
    go (nearer r x) (nearer q y) = absurd (lt_irrefl s (le_trans x (le_of_lt y)))
    go (nearer r x) (smaller q y z) = absurd (lt_irrefl s (subst (λ (z : ℕ). s < z) y x))
    go (smaller r x z) (ranked y) = absurd (lt_irrefl (order l) (subst (λ (z : ℕ). order l < z) r y))
    go (smaller r x z) (nearer q y) = absurd (lt_irrefl u (subst (λ (z : ℕ). u < z) x y))
    go (smaller r x z) (smaller q y w) = (le_antisymm z w, x)

-- there is one first row, with one spot
pub first_unique : (t : List ℕ) (k s l u : ℕ) → FirstRow t k s → FirstRow t l u → (k ≡ l) × (s ≡ u)
first_unique t k s l u a b = no_later_both rank k s l u (a.first l u b.met) (b.first k s a.met)

-- the rows of a text are 1 to 7
pub row_few : (t : List ℕ) (k s : ℕ) → Row t k s → k ≤ 7
row_few t k s (overlong x) = omega arith
row_few t k s (malformed m) = omega arith
row_few t k s (breach P p b) = few b.breached
  where
    few : {N : ℕ} {e : Event} {k : ℕ} → Breached N e k → k ≤ 7
    few (too_many_atoms h) = omega arith
    few (unknown_head h) = omega arith
    few (unknown_atom h) = omega arith
    few (unordered h) = omega arith
    few too_many_rules = omega arith
    few bodies_full = omega arith

-- ---- the answer

answers : (t : List ℕ) (r : TextRefusal) (k s : ℕ) → read_of t ≡ refuse_of r → text_number r ≡ k → text_spot r ≡ s → Answers t k s
unfolding refuse_of
answers t r k s e a b = record { refusal = r; verdict_is = ap (λ (x : ReadResult). x.verdict) e; row_is = a; spot_is = b }

-- the two ways of the reader
data Told (t : List ℕ) : Type 0 where
  at_row : (k s : ℕ) → FirstRow t k s → Answers t k s → Told t
  no_row : ((k s : ℕ) → Row t k s → ⊥) → (read_of t).verdict ≡ Ok tt → Told t

told : (t : List ℕ) → Told t
told t = go (outcome t)
  where
    go : Outcome t → Told t
    go (too_long h e) = at_row 1 (length t) (first_long t h) (answers t _ 1 (length t) e refl refl)
    go (left_form s h m e) = at_row 2 s (first_malformed t s h m) (answers t _ 2 s e refl refl)
    go (breached P x rest h p hs e) =
        let f = first_breach t P x rest h p hs in
        let n = later (row_breach t P h p x.row x.spot f.met).breached in
        at_row x.row x.spot f (answers t _ x.row x.spot e (n.numbered x.spot) (n.spotted x.spot))
    go (fine P h p hs e) =
        no_row (λ k s r. let b = row_breach t P h p k s r in
        no_hit P.atoms (events P) hs b.place b.is_event k (breached_meets P.atoms (get_or (events P) b.place no_event) k b.breached))
        (ap (λ (x : ReadResult). x.verdict) e)

-- the refusal of a verdict, if it is one
abbrev refusal_in_lem : ReadVerdict → TextRefusal → TextRefusal
refusal_in_lem (Ok u) r = r
refusal_in_lem (Err q) r = q

abbrev is_refused_lem : ReadVerdict → Bool
is_refused_lem (Ok u) = false
is_refused_lem (Err r) = true

pub not_both : {v : ReadVerdict} {r : TextRefusal} → v ≡ Ok tt → v ≡ Err r → ⊥
not_both a b = false≢true (ap is_refused_lem (sym a ∙ b))

answers_unique : (t : List ℕ) (k s l u : ℕ) → Answers t k s → Answers t l u → (k ≡ l) × (s ≡ u)
answers_unique t k s l u a b =
    let e = ap (λ (v : ReadVerdict). refusal_in_lem v a.refusal) (sym a.verdict_is ∙ b.verdict_is) in
    (sym a.row_is ∙ ap text_number e ∙ b.row_is, sym a.spot_is ∙ ap text_spot e ∙ b.spot_is)

pub answers_first : (t : List ℕ) (k s : ℕ) → Answers t k s → FirstRow t k s
answers_first t k s a = go (told t)
  where
    go : Told t → FirstRow t k s
    go (at_row l u f b) = let q = answers_unique t l u k s b a in subst (FirstRow t k) q.1 (subst (λ (x : ℕ). FirstRow t x u) q.0 f)
    go (no_row n e) = absurd (not_both e a.verdict_is)

pub first_answers : (t : List ℕ) (k s : ℕ) → FirstRow t k s → Answers t k s
first_answers t k s f = go (told t)
  where
    go : Told t → Answers t k s
    go (at_row l u g b) = let q = first_unique t l u k s g f in subst (Answers t k) q.1 (subst (λ (x : ℕ). Answers t x u) q.0 b)
    go (no_row n e) = absurd (n k s f.met)

pub accepted_none : (t : List ℕ) → (read_of t).verdict ≡ Ok tt → (k s : ℕ) → Row t k s → ⊥
accepted_none t e k s r = go (told t)
  where
    go : Told t → ⊥
    go (at_row l u f a) = not_both e a.verdict_is
    go (no_row n x) = n k s r

pub none_accepted : (t : List ℕ) → ((k s : ℕ) → Row t k s → ⊥) → (read_of t).verdict ≡ Ok tt
none_accepted t n = go (told t)
  where
    go : Told t → (read_of t).verdict ≡ Ok tt
    go (at_row k s f a) = absurd (n k s f.met)
    go (no_row m e) = e

-- ---- rows 2 and 3 to 7 by themselves

pub answers_malformed : (t : List ℕ) (s : ℕ) → Answers t 2 s → Malformed t s
answers_malformed t s a = go 2 s (answers_first t 2 s a).met refl
  where
    go : (k u : ℕ) → Row t k u → k ≡ 2 → Malformed t u
    go k u (overlong h) e = absurd (suc-ne-zero 0 (sym (ap (λ (x : ℕ). x - 1) e)))
    go k u (malformed m) e = m
    go k u (breach P p b) e = absurd (suc-ne-zero 0 (sym (ap (λ (x : ℕ). x - 1) (ap rank (sym e) ∙ (later b.breached).ranks))))

pub answers_breach : (t : List ℕ) (P : Program) → length t ≤ 65536 → t ≡ text_of P → (k s : ℕ) → Answers t k s
    → Breach P k s × ((l u : ℕ) → Breach P l u → (s < u) ⊎ ((s ≡ u) × (k ≤ l)))
answers_breach t P h p k s a =
    let f = answers_first t k s a in
    let own = row_breach t P h p k s f.met in
    (own, λ l u b. order ((later own.breached).ranks ∙ sym (later b.breached).ranks) (f.first l u (breach P p b)))
  where
    order : {l u : ℕ} → rank k ≡ rank l → NoLater k s l u → (s < u) ⊎ ((s ≡ u) × (k ≤ l))
    order r (ranked x) = absurd (lt_irrefl (rank k) (subst (λ (z : ℕ). rank k < z) (sym r) x))
    order r (nearer q x) = inl x
    order r (smaller q x y) = inr (x, y)
