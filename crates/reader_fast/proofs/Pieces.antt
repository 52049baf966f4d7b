-- What each function returns, from the tests that it makes; and one function after the other.
--   word_in, few_rules, room_left, list_below, listing_below   bounds that the tests give
--   begun_goes, between_goes, shut_goes, closed_goes, headed_goes, first_goes, space_goes, bracket_goes   the returns that go on
-- Assumes nothing.
use Prim.Native.Nat.{ℕ, ◌+◌, ◌-◌, ◌*◌, ◌≤◌, ◌<◌}
use native.Mathlib.Nat.{add-sub_cancel}
use native.Mathlib.Omega.{arith}
use mathlib.Core.Path.{◌≡◌, refl, sym, ◌∙◌, subst}
use mathlib.Core.Bool.{Bool, true, false, not, cond}
use mathlib.Core.List.{List, [], ◌∷◌}
use lib.Dec.{eqb}
use lib.ListN.{length, get_or, set}
use borrow.Author.Tests.{not-false}
use denote.Enum.Bare.{sameb}
use Rattle.std.specs.Prelude.{Some}
use Rattle.reader_form.specs.contracts.Mode.{the_type}
use Rattle.reader_form.proofs.Modes.{same_mode, at_place}
use Rattle.reader_form.specs.declared.Mode.{Mode}
use Rattle.reader_form.specs.declared.Mode.TheVariants.{AtPlace, AtSpace}
use Rattle.reader_form.specs.Numbers.{mode_number}
use Rattle.reader_form.specs.Automaton.{placed, form_step}
use Rattle.reader_words.specs.declared.Stand.{Stand}
use Rattle.reader_words.specs.declared.ShortNumber.{ShortNumber}
use Rattle.reader_words.specs.Standing.{standing, read_rest, Goes, GoesHeads, GoesStarts, GoesBodies, has_at, ready_at, list_at, listing_at, fits_at, added_to, short_number_at}
use Rattle.reader_words.proofs.Words.{word_found}
use Rattle.reader_words.proofs.Digits.{Item, Read, short_number_read}
use Rattle.reader_fast.proofs.Tokens.{put, on, shut_as, before_head, before_list, at_line_end, before_atoms, ready_found, begun_from, between_from, shut_from}
use Rattle.reader_fast.proofs.Tokens.{head_from, first_from, list_cases, closed_from, ListPlace, listing_found, fits_found, atom_behind}

yes : (r x : Bool) → r ≡ x → r ≡ true → x ≡ true
yes r x e h = sym e ∙ h

pub word_in : (t w : List ℕ) (at : ℕ) (r : Bool) → r ≡ has_at t at w → r ≡ true → at + length w ≤ length t
word_in t w at r e h = (word_found t w at (yes r (has_at t at w) e h)).0

pub few_rules : (s : Stand) (k : ℕ) (r : Bool) → r ≡ ready_at s k → r ≡ true → s.rules < 500
few_rules s k r e h = (ready_found s k (yes r (ready_at s k) e h)).1

pub room_left : (s : Stand) (v : ℕ) (r : Bool) → r ≡ fits_at s v → r ≡ true → s.held < 500
room_left s v r e h = (fits_found s v (yes r (fits_at s v) e h)).room

pub list_below : (k : ℕ) (r : Bool) → r ≡ list_at k → r ≡ true → k < 27
list_below k r e h = list_cases (λ k. k < 27) k (yes r (list_at k) e h) (omega arith) (omega arith)

listing_list : (s : Stand) → listing_at s ≡ true → list_at s.k ≡ true
unfolding listing_at
listing_list s h = go (list_at s.k) h
  where
    go : (e : Bool) → cond e (cond (eqb (mode_number s.mode) 0) true (eqb (mode_number s.mode) 3)) false ≡ true → e ≡ true
    go true g = refl
    go false g = g

pub listing_below : (s : Stand) (r : Bool) → r ≡ listing_at s → r ≡ true → s.k < 27
listing_below s r e h = list_cases (λ k. k < 27) s.k (listing_list s (yes r (listing_at s) e h)) (omega arith) (omega arith)

module _ (s : Stand) (k : ℕ) (r : Bool) (e : r ≡ ready_at s k) (h : r ≡ true) where
  from_ready : (P : Stand → Type 0) → P (put s k AtPlace) → P s
  from_ready P = subst P (sym (ready_found s k (yes r (ready_at s k) e h)).0)

module _ (s : Stand) (t : List ℕ) (r q : Bool) where
  pub begun_goes : r ≡ ready_at s 10 → r ≡ true → q ≡ has_at t s.at before_head → q ≡ true → Goes s (on s 16 (s.at + 6) s.prev) t
  begun_goes e h f g =
      from_ready s 10 r e h (λ (x : Stand). Goes x (on s 16 (s.at + 6) s.prev) t)
      (begun_from s t (few_rules s 10 r e h) (yes q (has_at t s.at before_head) f g))

  pub between_goes : r ≡ ready_at s 21 → r ≡ true → q ≡ has_at t s.at before_list → q ≡ true → (starts : List ℕ) (w : ℕ) → w ≡ s.rules
      → GoesStarts s starts (on s 23 (s.at + 2) 0) (set starts (2 * w + 1) s.held) t
  between_goes e h f g starts w p =
      rw p
      (from_ready s 21 r e h (λ (x : Stand). GoesStarts x starts (on s 23 (s.at + 2) 0) (set starts (2 * s.rules + 1) s.held) t)
      (between_from s t (few_rules s 21 r e h) (yes q (has_at t s.at before_list) f g) starts))

  pub shut_goes : r ≡ ready_at s 25 → r ≡ true → q ≡ has_at t s.at at_line_end → q ≡ true → (starts : List ℕ) (w : ℕ) → w ≡ s.rules
      → GoesStarts s starts (shut_as s) (set starts (2 * w + 2) s.held) t
  shut_goes e h f g starts w p =
      rw p
      (from_ready s 25 r e h (λ (x : Stand). GoesStarts x starts (shut_as s) (set starts (2 * s.rules + 2) s.held) t)
      (shut_from s t (few_rules s 25 r e h) (yes q (has_at t s.at at_line_end) f g) starts))

  pub closed_goes : r ≡ list_at s.k → r ≡ true → s.mode ≡ AtPlace → q ≡ has_at t s.at (41 ∷ []) → q ≡ true
      → Goes s (record { k = s.k + 2; at = s.at + 1; rules = s.rules; held = s.held; prev = s.prev; atoms = s.atoms; mode = s.mode }) t
  closed_goes e h m f g =
      subst
      (λ (m : Mode).
      Goes (put s s.k m) (record { k = s.k + 2; at = s.at + 1; rules = s.rules; held = s.held; prev = s.prev; atoms = s.atoms; mode = m }) t)
      (sym m) (closed_from s t (yes q (has_at t s.at (41 ∷ [])) f g) s.k (yes r (list_at s.k) e h))

  module _ (n : ShortNumber) where
    pub headed_goes : r ≡ ready_at s 16 → r ≡ true → Some n ≡ short_number_at t s.at → n.value ≤ s.atoms
        → q ≡ has_at t (s.at + n.count) before_list → q ≡ true → (heads heads' : List ℕ) → heads' ≡ set heads (s.rules + 1 - 1) n.value
        → GoesHeads s heads (on s 19 (s.at + n.count + 2) 0) heads' t
    headed_goes e h p l f g heads heads' w =
        rw (w, add-sub_cancel)
        (from_ready s 16 r e h (λ (x : Stand). GoesHeads x heads (on s 19 (s.at + n.count + 2) 0) (set heads s.rules n.value) t)
        (head_from s t n p l (few_rules s 16 r e h) (yes q (has_at t (s.at + n.count) before_list) f g) heads))

    pub first_goes : (q' : Bool) → r ≡ ready_at s 0 → r ≡ true → q ≡ has_at t s.at before_atoms → q ≡ true → Some n ≡ short_number_at t (s.at + 7)
        → n.value ≤ 126 → q' ≡ has_at t (s.at + 7 + n.count) at_line_end → q' ≡ true
        → Goes s (record { k = 10; at = s.at + 7 + n.count + 2; rules = s.rules; held = s.held; prev = s.prev; atoms = n.value; mode = AtPlace }) t
    first_goes q' e h f g p l f' g' =
        from_ready s 0 r e h
        (λ (x : Stand).
        Goes x (record { k = 10; at = s.at + 7 + n.count + 2; rules = s.rules; held = s.held; prev = s.prev; atoms = n.value; mode = AtPlace }) t)
        (first_from s t n p l (yes q (has_at t s.at before_atoms) f g) (yes q' (has_at t (s.at + 7 + n.count) at_line_end) f' g'))

    -- a body atom and the byte after it
    module _ (e : r ≡ listing_at s) (h : r ≡ true) (p : Some n ≡ short_number_at t s.at) (f : q ≡ fits_at s n.value) (g : q ≡ true) where
      atom_goes : (k : ℕ) (mode : Mode) (b : ℕ) → get_or t (s.at + n.count) 0 ≡ b → (ListPlace s.k → form_step s.k 2 b ≡ placed k (mode_number mode) 3)
          → eqb (mode_number mode) 4 ≡ false
          → (bodies : List ℕ) → GoesBodies s bodies (added_to s n.value k mode (s.at + n.count + 1)) (set bodies s.held n.value) t
      unfolding read_rest
      atom_goes k mode b c d a bodies heads starts =
          let l : ListPlace s.k × Item s.k (mode_number s.mode) = listing_found s (yes r (listing_at s) e h) in
          let m : Read t s.at (standing s heads starts bodies) n = short_number_read t s.at (standing s heads starts bodies) l.1 n p in
          sym
          (m.same
          ∙ atom_behind s t n.value s.at (s.at + n.count) (fits_found s n.value (yes q (fits_at s n.value) f g)) l.0 m.left heads starts bodies k mode b c (d l.0) a)

      module _ (bodies bodies' : List ℕ) (w : ℕ) (u : w ≡ s.held) (v : bodies' ≡ set bodies w n.value) (x : Stand) where
        pub space_goes : get_or t (s.at + n.count) 0 ≡ 32 → x ≡ added_to s n.value s.k AtSpace (s.at + n.count + 1) → GoesBodies s bodies x bodies' t
        space_goes c y = rw (y, v, u) (atom_goes s.k AtSpace 32 c (λ l. l.at_space) refl bodies)

        pub bracket_goes : get_or t (s.at + n.count) 0 ≡ 41 → x ≡ added_to s n.value (s.k + 2) AtPlace (s.at + n.count + 1) → GoesBodies s bodies x bodies' t
        bracket_goes c y = rw (y, v, u) (atom_goes (s.k + 2) AtPlace 41 c (λ l. l.at_bracket) refl bodies)

-- ---- one after the other

pub goes_bodies : (s p q : Stand) (b b' b'' t : List ℕ) → GoesBodies s b p b' t → GoesBodies p b' q b'' t → GoesBodies s b q b'' t
goes_bodies s p q b b' b'' t f g heads starts = g heads starts ∙ f heads starts

-- ---- the tests of the mode

pub placed_there : (m : Mode) (r : Bool) → r ≡ not (sameb the_type m AtPlace) → r ≡ false → m ≡ AtPlace
placed_there m r e h = same_mode m AtPlace (sym (at_place m) ∙ not-false (sameb the_type m AtPlace) (sym e ∙ h))
