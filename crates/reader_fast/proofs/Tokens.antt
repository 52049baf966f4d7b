-- The reading from a stand, over the fixed bytes of the form and the numbers between them: the automaton computes, since the places are numbers.
--   put s k mode, on s k at prev   s at place k; s at place k before byte `at`
--   begun_from, head_from, closed_from, atom_behind, between_from, shut_from, first_from   the parts of the form
--   ListPlace k                    what the automaton does at the place of a list
-- Assumes nothing.
use Prim.Native.Nat.{ℕ, ◌+◌, ◌*◌, ◌≤◌, ◌<◌}
use native.Mathlib.Omega.{arith}
use mathlib.Core.Path.{◌≡◌, refl, sym, ◌∙◌, ap₂, subst}
use mathlib.Core.Bool.{Bool, true, false, cond, false≢true}
use mathlib.Core.List.{List, [], ◌∷◌}
use lib.Dec.{eqb, ltb, leb}
use lib.ListN.{length, get_or, set, drop}
use borrow.Author.Tests.{eqb-true, ltb-true, ltb-false, leb-false, lt-ltb, le-ltb, lt-leb, ne_eqb}
use Rattle.reader_form.specs.Automaton.{placed, form_at, digit_test, literal_of, leave_of, digit_of, item_of, act_at, form_step}
use Rattle.std.specs.Prelude.{Some}
use Rattle.reader_form.specs.declared.Mode.{Mode}
use Rattle.reader_form.specs.declared.Mode.TheVariants.{AtPlace}
use Rattle.reader_form.specs.Numbers.{mode_number}
use Rattle.reader_form.proofs.Modes.{same_mode}
use Rattle.reader_words.specs.declared.Stand.{Stand}
use Rattle.reader_words.specs.declared.ShortNumber.{ShortNumber}
use Rattle.reader_work.specs.Work as Work
use Rattle.reader_work.specs.Fold.{read_from}
use Rattle.reader_words.specs.Standing.{standing, read_rest, Goes, GoesHeads, GoesStarts, has_at, ready_at, list_at, listing_at, fits_at, added_to, short_number_at}
use Rattle.reader_words.proofs.Words.{word_found}
use Rattle.reader_words.proofs.Digits.{Item, Read, within, byte_read, short_number_read}

-- a stand, put at place k
abbrev pub put : Stand → ℕ → Mode → Stand
put s k mode = record { k = k; at = s.at; rules = s.rules; held = s.held; prev = s.prev; atoms = s.atoms; mode = mode }

pub ready_found : (s : Stand) (k : ℕ) → ready_at s k ≡ true → (s ≡ put s k AtPlace) × (s.rules < 500)
unfolding ready_at
ready_found s k h = go (eqb s.k k) refl (eqb (mode_number s.mode) 0) refl h
  where
    go : (e : Bool) → eqb s.k k ≡ e → (f : Bool) → eqb (mode_number s.mode) 0 ≡ f → cond e (cond f (ltb s.rules 500) false) false ≡ true
        → (s ≡ put s k AtPlace) × (s.rules < 500)
    go true e true f g = (ap₂ (λ (k : ℕ) (mode : Mode). put s k mode) (eqb-true s.k k e) (same_mode s.mode AtPlace f), ltb-true s.rules 500 g)
    go true e false f g = absurd (false≢true g)
    go false e f q g = absurd (false≢true g)

-- a stand at place k and byte `at`, with the same counts but the list's last number
abbrev pub on : Stand → ℕ → ℕ → ℕ → Stand
on s k at prev = record { k = k; at = at; rules = s.rules; held = s.held; prev = prev; atoms = s.atoms; mode = AtPlace }

-- a rule line is read
abbrev pub shut_as : Stand → Stand
shut_as s = record { k = 10; at = s.at + 2; rules = s.rules + 1; held = s.held; prev = 0; atoms = s.atoms; mode = AtPlace }

two : (i : ℕ) → i + 1 + 1 ≡ i + 2
two i = omega arith

six : (i : ℕ) → i + 1 + 1 + 1 + 1 + 1 + 1 ≡ i + 6
six i = omega arith

seven : (i : ℕ) → i + 1 + 1 + 1 + 1 + 1 + 1 + 1 ≡ i + 7
seven i = omega arith

abbrev pub before_head : List ℕ
before_head = 40 ∷ 114 ∷ 117 ∷ 108 ∷ 101 ∷ 32 ∷ []

abbrev pub before_list : List ℕ
before_list = 32 ∷ 40 ∷ []

abbrev pub at_line_end : List ℕ
at_line_end = 41 ∷ 10 ∷ []

abbrev pub before_atoms : List ℕ
before_atoms = 40 ∷ 97 ∷ 116 ∷ 111 ∷ 109 ∷ 115 ∷ 32 ∷ []

-- ---- fixed bytes

module _ (s : Stand) (t : List ℕ) (h : s.rules < 500) where
  pub begun_from : has_at t s.at before_head ≡ true → Goes (put s 10 AtPlace) (on s 16 (s.at + 6) s.prev) t
  unfolding form_at digit_test literal_of leave_of digit_of item_of act_at form_step Work.value_after Work.begin_after Work.atoms_ended Work.head_ended Work.head_stored Work.opened_of Work.start_stored Work.rule_shut Work.ended_of Work.ended_heads Work.ended_bodies Work.bracket_of Work.bracket_starts Work.work_of Work.work_heads Work.work_starts Work.work_bodies read_from read_rest
  begun_from e heads starts bodies = rw ((word_found t before_head s.at e).1, lt-ltb s.rules 500 h, six s.at)

  pub between_from : has_at t s.at before_list ≡ true → (starts : List ℕ)
      → GoesStarts (put s 21 AtPlace) starts (on s 23 (s.at + 2) 0) (set starts (2 * s.rules + 1) s.held) t
  unfolding form_at digit_test literal_of leave_of digit_of item_of act_at form_step Work.value_after Work.begin_after Work.atoms_ended Work.head_ended Work.head_stored Work.opened_of Work.start_stored Work.rule_shut Work.ended_of Work.ended_heads Work.ended_bodies Work.bracket_of Work.bracket_starts Work.work_of Work.work_heads Work.work_starts Work.work_bodies read_from read_rest
  between_from e starts heads bodies = rw ((word_found t before_list s.at e).1, le-ltb 499 s.rules (omega arith), two s.at)

  pub shut_from : has_at t s.at at_line_end ≡ true → (starts : List ℕ)
      → GoesStarts (put s 25 AtPlace) starts (shut_as s) (set starts (2 * s.rules + 2) s.held) t
  unfolding form_at digit_test literal_of leave_of digit_of item_of act_at form_step Work.value_after Work.begin_after Work.atoms_ended Work.head_ended Work.head_stored Work.opened_of Work.start_stored Work.rule_shut Work.ended_of Work.ended_heads Work.ended_bodies Work.bracket_of Work.bracket_starts Work.work_of Work.work_heads Work.work_starts Work.work_bodies read_from read_rest
  shut_from e starts heads bodies = rw ((word_found t at_line_end s.at e).1, lt-ltb s.rules 500 h, le-ltb 499 s.rules (omega arith), two s.at)

-- ---- numbers between fixed bytes

-- a place with a number or a list takes a number
item_place : (k mode : ℕ) → ((m b : ℕ) → form_step k m b ≡ item_of k (form_at k) m b) → eqb mode 1 ≡ false → eqb mode 2 ≡ false → Item k mode
unfolding item_of digit_of digit_test
item_place k mode f p q =
    record {
      begins_with = λ b l u. f mode b ∙ rw (le-ltb b 48 (omega arith), lt-ltb b 58 u, p, q, ne_eqb b 48 (λ e. omega arith));
      goes_with = λ b d. f 2 b ∙ rw d;
    }

item_atoms : Item 7 0
unfolding form_at form_step
item_atoms = item_place 7 0 (λ m b. refl) refl refl

item_head : Item 16 0
unfolding form_at form_step
item_head = item_place 16 0 (λ m b. refl) refl refl

module _ (s : Stand) (t : List ℕ) (n : ShortNumber) where
  -- a head is read, from the first byte after it
  head_behind : (at j : ℕ) (heads starts bodies : List ℕ) → 0 < n.value → n.value ≤ s.atoms → s.rules < 500 → has_at t j before_list ≡ true
      → read_from (within (standing (put s 16 AtPlace) heads starts bodies) n.value at) j (drop j t)
      ≡ read_rest (on s 19 (j + 2) 0) (set heads s.rules n.value) starts bodies t
  unfolding form_at digit_test literal_of leave_of digit_of item_of act_at form_step Work.value_after Work.begin_after Work.atoms_ended Work.head_ended Work.head_stored Work.opened_of Work.start_stored Work.rule_shut Work.ended_of Work.ended_heads Work.ended_bodies Work.bracket_of Work.bracket_starts Work.work_of Work.work_heads Work.work_starts Work.work_bodies read_from read_rest
  head_behind at j heads starts bodies o l h e =
      rw ((word_found t before_list j e).1, ne_eqb n.value 0 (λ z. omega arith), le-ltb s.atoms n.value l, lt-ltb s.rules 500 h, two j)

  pub head_from : Some n ≡ short_number_at t s.at → n.value ≤ s.atoms → s.rules < 500 → has_at t (s.at + n.count) before_list ≡ true
      → (heads : List ℕ) → GoesHeads (put s 16 AtPlace) heads (on s 19 (s.at + n.count + 2) 0) (set heads s.rules n.value) t
  unfolding read_rest
  head_from e l h w heads starts bodies =
      let r : Read t s.at (standing (put s 16 AtPlace) heads starts bodies) n = short_number_read t s.at (standing (put s 16 AtPlace) heads starts bodies) item_head n e in
      sym (r.same ∙ head_behind s.at (s.at + n.count) heads starts bodies r.some l h w)

  -- the first line
  first_before : (heads starts bodies : List ℕ) → has_at t s.at before_atoms ≡ true
      → read_rest (put s 0 AtPlace) heads starts bodies t ≡ read_from (standing (put s 7 AtPlace) heads starts bodies) (s.at + 7) (drop (s.at + 7) t)
  unfolding form_at digit_test literal_of leave_of digit_of item_of act_at form_step Work.value_after Work.begin_after Work.atoms_ended Work.head_ended Work.head_stored Work.opened_of Work.start_stored Work.rule_shut Work.ended_of Work.ended_heads Work.ended_bodies Work.bracket_of Work.bracket_starts Work.work_of Work.work_heads Work.work_starts Work.work_bodies read_from read_rest
  first_before heads starts bodies e = rw ((word_found t before_atoms s.at e).1, seven s.at)

  first_behind : (at j : ℕ) (heads starts bodies : List ℕ) → n.value ≤ 126 → has_at t j at_line_end ≡ true
      → read_from (within (standing (put s 7 AtPlace) heads starts bodies) n.value at) j (drop j t)
      ≡ read_rest (record { k = 10; at = j + 2; rules = s.rules; held = s.held; prev = s.prev; atoms = n.value; mode = AtPlace }) heads starts bodies t
  unfolding form_at digit_test literal_of leave_of digit_of item_of act_at form_step Work.value_after Work.begin_after Work.atoms_ended Work.head_ended Work.head_stored Work.opened_of Work.start_stored Work.rule_shut Work.ended_of Work.ended_heads Work.ended_bodies Work.bracket_of Work.bracket_starts Work.work_of Work.work_heads Work.work_starts Work.work_bodies read_from read_rest
  first_behind at j heads starts bodies l e = rw ((word_found t at_line_end j e).1, le-ltb 126 n.value l, two j)

  pub first_from : Some n ≡ short_number_at t (s.at + 7) → n.value ≤ 126 → has_at t s.at before_atoms ≡ true → has_at t (s.at + 7 + n.count) at_line_end ≡ true
      → Goes (put s 0 AtPlace) (record { k = 10; at = s.at + 7 + n.count + 2; rules = s.rules; held = s.held; prev = s.prev; atoms = n.value; mode = AtPlace }) t
  first_from e l w v heads starts bodies =
      let r : Read t (s.at + 7) (standing (put s 7 AtPlace) heads starts bodies) n =
      short_number_read t (s.at + 7) (standing (put s 7 AtPlace) heads starts bodies) item_atoms n e in
      sym (first_before heads starts bodies w ∙ r.same ∙ first_behind (s.at + 7) (s.at + 7 + n.count) heads starts bodies l v)

-- ---- lists

pub list_cases : (P : ℕ → Type 0) (k : ℕ) → list_at k ≡ true → P 19 → P 23 → P k
unfolding list_at
list_cases P k h p q = go (eqb k 19) refl h
  where
    go : (e : Bool) → eqb k 19 ≡ e → cond e true (eqb k 23) ≡ true → P k
    go true e g = subst P (sym (eqb-true k 19 e)) p
    go false e g = subst P (sym (eqb-true k 23 g)) q

pub closed_from : (s : Stand) (t : List ℕ) → has_at t s.at (41 ∷ []) ≡ true → (k : ℕ) → list_at k ≡ true → Goes (put s k AtPlace) (on s (k + 2) (s.at + 1) s.prev) t
unfolding form_at digit_test literal_of leave_of digit_of item_of act_at form_step Work.value_after Work.begin_after Work.atoms_ended Work.head_ended Work.head_stored Work.opened_of Work.start_stored Work.rule_shut Work.ended_of Work.ended_heads Work.ended_bodies Work.bracket_of Work.bracket_starts Work.work_of Work.work_heads Work.work_starts Work.work_bodies read_from read_rest
closed_from s t e k h =
    list_cases (λ k. Goes (put s k AtPlace) (on s (k + 2) (s.at + 1) s.prev) t) k h
    (λ heads starts bodies. rw (word_found t (41 ∷ []) s.at e).1)
    (λ heads starts bodies. rw (word_found t (41 ∷ []) s.at e).1)

-- what the automaton does at the place of a list
pub record ListPlace (k : ℕ) : Type 0 where
  pub steps : (m b : ℕ) → form_step k m b ≡ item_of k (form_at k) m b
  pub at_space : form_step k 2 32 ≡ placed k 3 3
  pub at_bracket : form_step k 2 41 ≡ placed (k + 2) 0 3
  pub counts_then : (v g : ℕ) (c : Work.Tally) → Work.ended_of k v g c ≡ Work.body_ended v g c
  pub heads_then : (v : ℕ) (c : Work.Tally) (l : List ℕ) → Work.ended_heads k v c l ≡ l
  pub bodies_then : (v : ℕ) (c : Work.Tally) (l : List ℕ) → Work.ended_bodies k v c l ≡ Work.body_stored v c l

list_place : (k : ℕ) → list_at k ≡ true → ListPlace k
unfolding form_at digit_test literal_of leave_of item_of form_step Work.ended_of Work.ended_heads Work.ended_bodies
list_place k h =
    list_cases ListPlace k h
    (record { steps = λ m b. refl; at_space = refl; at_bracket = refl; counts_then = λ v g c. refl; heads_then = λ v c l. refl; bodies_then = λ v c l. refl })
    (record { steps = λ m b. refl; at_space = refl; at_bracket = refl; counts_then = λ v g c. refl; heads_then = λ v c l. refl; bodies_then = λ v c l. refl })

pub listing_found : (s : Stand) → listing_at s ≡ true → ListPlace s.k × Item s.k (mode_number s.mode)
unfolding listing_at
listing_found s h = go (list_at s.k) refl (eqb (mode_number s.mode) 0) refl h
  where
    go : (e : Bool) → list_at s.k ≡ e → (f : Bool) → eqb (mode_number s.mode) 0 ≡ f → cond e (cond f true (eqb (mode_number s.mode) 3)) false ≡ true
        → ListPlace s.k × Item s.k (mode_number s.mode)
    go true e true f g =
        (list_place s.k e, subst (λ (m : ℕ). Item s.k m) (sym (eqb-true (mode_number s.mode) 0 f)) (item_place s.k 0 (list_place s.k e).steps refl refl))
    go true e false f g =
        (list_place s.k e, subst (λ (m : ℕ). Item s.k m) (sym (eqb-true (mode_number s.mode) 3 g)) (item_place s.k 3 (list_place s.k e).steps refl refl))
    go false e f q g = absurd (false≢true g)

pub record Fits (s : Stand) (v : ℕ) : Type 0 where
  pub atom : v ≤ s.atoms
  pub above : s.prev < v
  pub room : s.held < 500

pub fits_found : (s : Stand) (v : ℕ) → fits_at s v ≡ true → Fits s v
unfolding fits_at
fits_found s v h = go (ltb s.atoms v) refl (leb v s.prev) refl h
  where
    go : (e : Bool) → ltb s.atoms v ≡ e → (f : Bool) → leb v s.prev ≡ f → cond e false (cond f false (ltb s.held 500)) ≡ true → Fits s v
    go true e f q g = absurd (false≢true g)
    go false e true f g = absurd (false≢true g)
    go false e false f g = record { atom = ltb-false s.atoms v e; above = leb-false v s.prev f; room = ltb-true s.held 500 g }

module _ (s : Stand) (t : List ℕ) (v at j : ℕ) (f : Fits s v) (p : ListPlace s.k) (h : j < length t) (heads starts bodies : List ℕ) where
  -- a body atom is read, from the byte after it, which leads to place k
  pub atom_behind : (k : ℕ) (mode : Mode) (b : ℕ) → get_or t j 0 ≡ b → form_step s.k 2 b ≡ placed k (mode_number mode) 3 → eqb (mode_number mode) 4 ≡ false
      → read_from (within (standing s heads starts bodies) v at) j (drop j t) ≡ read_rest (added_to s v k mode (j + 1)) heads starts (set bodies s.held v) t
  unfolding Work.value_after Work.begin_after Work.work_of Work.work_heads Work.work_starts Work.work_bodies Work.body_ended Work.body_stored read_rest
  atom_behind k mode b e g d =
      byte_read t j (within (standing s heads starts bodies) v at) (placed k (mode_number mode) 3) h (rw e g) d
      ∙ rw (p.counts_then, p.heads_then, p.bodies_then, ne_eqb v 0 (λ z. omega (arith, f.above)), le-ltb s.atoms v f.atom, lt-leb v s.prev f.above, lt-ltb s.held 500 f.room)
