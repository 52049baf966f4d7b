-- At the spot of each event the text of a program has the number or the rule that the event is of; so has it at the spot of each breach.
--   events_at       each event
--   breach_at       each breach, in the words of the table
--   spots_shown     the bytes at the spots of a small program
-- Assumes nothing.
use Prim.Native.Nat.{ℕ, ◌+◌, ◌<◌}
use native.Mathlib.Omega.{arith}
use mathlib.Core.Path.{◌≡◌, refl, sym, ◌∙◌, ap, subst}
use mathlib.Core.Bool.{So}
use mathlib.Core.List.{List, [], ◌∷◌, ◌++◌, map, append_assoc}
use lib.ListN.{length, take, drop, get_or}
use Rattle.lists.specs.Ascii.{ascii}
use Rattle.meaning.specs.Program.{Rule, Program, no_rule}
use Rattle.text.specs.Standing.{separates, WholeAt}
use Rattle.text.specs.Decimal.{decimal}
use Rattle.text.specs.Text.{more_text, list_text, rule_text, rules_text, text_of}
use Rattle.text.specs.Limits.{bodies_of}
use Rattle.text.proofs.Standing.{behind, next, element, inside, stands, FreshAt, fresh, whole}
use Rattle.text.proofs.Each.{Each, none, also, each_append, each_at}
use Rattle.reader_laws.specs.Judge.{positive_spot, negative_spot, rule_end}
use Rattle.reader_laws.specs.Breach.{Event, spot_of, more_events, list_events, rule_events, rules_events, events, Breached, no_event, Breach}
use Rattle.reader_laws.specs.Breach as Met
use Rattle.reader_laws.specs.FirstBytes.{EventAt, atoms_at, rule_at_lem, head_at_lem, first_at, further_at, BreachAt}
use Rattle.reader_laws.specs.FirstBytes as Shown
use Rattle.reader_laws.proofs.Values.{rule_then}

-- a space or the bracket stands after a number of a list
stops : (xs w : List ℕ) → So (separates (get_or (more_text xs ++ (41 ∷ w)) 0 0))
stops [] w = refl
stops (x ∷ xs) w = refl

module _ (P : Program) where
  abbrev t : List ℕ
  t = text_of P

  abbrev B : List ℕ
  B = bodies_of P.rules

  -- the numbers after y, which stands at h
  more_at : (xs : List ℕ) (y h j : ℕ) (w bs : List ℕ) → FreshAt t h (decimal y ++ (more_text xs ++ (41 ∷ w))) → drop j B ≡ xs ++ bs
      → Each (EventAt P) (more_events xs y (h + length (decimal y)) j)
  more_at [] y h j w bs f e = none
  more_at (x ∷ xs) y h j w bs f e =
      let g = h + length (decimal y) in
      let space : drop g t ≡ 32 ∷ (decimal x ++ (more_text xs ++ (41 ∷ w))) =
      behind t h (decimal y) _ f.rest ∙ ap (λ (u : List ℕ). 32 ∷ u) (append_assoc (decimal x) (more_text xs) (41 ∷ w)) in
      let n = fresh t g (g + 1) 32 _ space refl refl in
      also
      (further_at (inside B j x (xs ++ bs) e) (element B j x (xs ++ bs) 0 e) (whole t (g + 1) (decimal x) _ n (stops xs w))
      (record { spot = h; number = whole t h (decimal y) _ f refl; one_space = element t g 32 _ 0 space; then = refl }))
      (more_at xs x (g + 1) (j + 1) w bs n (next B j x (xs ++ bs) e))

  list_at_lem : (xs : List ℕ) (g j : ℕ) (w bs : List ℕ) → FreshAt t g (list_text xs ++ (41 ∷ w)) → drop j B ≡ xs ++ bs → Each (EventAt P) (list_events xs g j)
  list_at_lem [] g j w bs f e = none
  list_at_lem (x ∷ xs) g j w bs f e =
      let n : FreshAt t g (decimal x ++ (more_text xs ++ (41 ∷ w))) = subst (FreshAt t g) (append_assoc (decimal x) (more_text xs) (41 ∷ w)) f in
      also (first_at (inside B j x (xs ++ bs) e) (element B j x (xs ++ bs) 0 e) (whole t g (decimal x) _ n (stops xs w)))
      (more_at xs x g (j + 1) w bs n (next B j x (xs ++ bs) e))

  -- ---- a rule at g, with rule i + 1 of the program, and j body atoms before it

  module _ (r : Rule) (g : ℕ) (w : List ℕ) (e : drop g t ≡ rule_text r ++ w) where
    abbrev tail₂ : List ℕ
    tail₂ = list_text r.negative ++ (41 ∷ 41 ∷ 10 ∷ w)

    abbrev tail₁ : List ℕ
    tail₁ = list_text r.positive ++ (41 ∷ 32 ∷ 40 ∷ tail₂)

    word : drop (g + 5) t ≡ 32 ∷ (decimal r.head ++ (32 ∷ 40 ∷ tail₁))
    word = behind t g (40 ∷ 114 ∷ 117 ∷ 108 ∷ 101 ∷ []) _ (e ∙ rule_then r w)

    head_fresh : FreshAt t (g + 6) (decimal r.head ++ (32 ∷ 40 ∷ tail₁))
    head_fresh = fresh t (g + 5) (g + 6) 32 _ word refl (omega arith)

    positive_fresh : FreshAt t (positive_spot r g) tail₁
    positive_fresh =
        fresh t (g + 6 + length (decimal r.head) + 1) (positive_spot r g) 40 _
        (next t (g + 6 + length (decimal r.head)) 32 _ (behind t (g + 6) (decimal r.head) _ head_fresh.rest)) refl (omega arith)

    negative_fresh : FreshAt t (negative_spot r g) tail₂
    negative_fresh =
        fresh t (positive_spot r g + length (list_text r.positive) + 2) (negative_spot r g) 40 _
        (behind t (positive_spot r g + length (list_text r.positive)) (41 ∷ 32 ∷ []) _
        (behind t (positive_spot r g) (list_text r.positive) _ positive_fresh.rest)) refl (omega arith)

    rule_end_lem : drop (rule_end r g) t ≡ w
    rule_end_lem =
        behind t (negative_spot r g + length (list_text r.negative)) (41 ∷ 41 ∷ 10 ∷ []) w
        (behind t (negative_spot r g) (list_text r.negative) _ negative_fresh.rest)

    rule_events_lem : (i j : ℕ) (rs : List Rule) (bs : List ℕ) → drop i P.rules ≡ r ∷ rs → drop j B ≡ r.positive ++ (r.negative ++ bs)
        → Each (EventAt P) (rule_events r i g j)
    rule_events_lem i j rs bs d b =
        also
        (rule_at_lem (inside P.rules i r rs d)
        (subst (λ (R : Rule). take (length (rule_text R)) (drop g t) ≡ rule_text R) (sym (element P.rules i r rs no_rule d)) (stands t g (rule_text r) w e)))
        (also (head_at_lem (whole t (g + 6) (decimal r.head) _ head_fresh refl))
        (each_append (EventAt P) (list_at_lem r.positive (positive_spot r g) j _ _ positive_fresh b)
        (list_at_lem r.negative (negative_spot r g) (j + length r.positive) _ bs negative_fresh (behind B j r.positive _ b))))

  rules_at : (rs : List Rule) (i g j : ℕ) → drop g t ≡ rules_text rs → drop i P.rules ≡ rs → drop j B ≡ bodies_of rs → Each (EventAt P) (rules_events rs i g j)
  rules_at [] i g j e d b = none
  rules_at (r ∷ rs) i g j e d b =
      each_append (EventAt P) (rule_events_lem r g (rules_text rs) e i j rs (bodies_of rs) d b)
      (rules_at rs (i + 1) (rule_end r g) (j + length r.positive + length r.negative) (rule_end_lem r g (rules_text rs) e) (next P.rules i r rs d)
      (behind B (j + length r.positive) r.negative (bodies_of rs) (behind B j r.positive _ b)))

  all_events : Each (EventAt P) (events P)
  unfolding events text_of
  all_events =
      let n : FreshAt t 7 (decimal P.atoms ++ (41 ∷ 10 ∷ rules_text P.rules)) = fresh t 6 7 32 _ refl refl refl in
      also (atoms_at (whole t 7 (decimal P.atoms) _ n refl))
      (rules_at P.rules 0 (7 + length (decimal P.atoms) + 2) 0
      (behind t (7 + length (decimal P.atoms)) (41 ∷ 10 ∷ []) _ (behind t 7 (decimal P.atoms) _ n.rest)) refl refl)

  pub events_at : (j : ℕ) → j < length (events P) → EventAt P (get_or (events P) j no_event)
  events_at = each_at (EventAt P) no_event all_events

  event_breach : (e : Event) (k : ℕ) → EventAt P e → Breached P.atoms e k → BreachAt P k (spot_of e)
  event_breach e k (atoms_at w) (Met.too_many_atoms h) = Shown.too_many_atoms h w
  event_breach e k (head_at_lem w) (Met.unknown_head {x = x} h) = Shown.unknown_atom x h w
  event_breach e k (first_at i q w) (Met.unknown_atom {x = x} h) = Shown.unknown_atom x h w
  event_breach e k (further_at i q w n) (Met.unknown_atom {x = x} h) = Shown.unknown_atom x h w
  event_breach e k (further_at {y = y} i q w n) (Met.unordered {x = x} h) = Shown.unordered x y h n w
  event_breach e k (rule_at_lem i w) Met.too_many_rules = Shown.too_many_rules i w
  event_breach e k (first_at {s = s} i q w) Met.bodies_full = Shown.bodies_full i (subst (λ (z : ℕ). WholeAt t s (decimal z)) (sym q) w)
  event_breach e k (further_at {s = s} i q w n) Met.bodies_full = Shown.bodies_full i (subst (λ (z : ℕ). WholeAt t s (decimal z)) (sym q) w)

  pub breach_at : (k s : ℕ) → Breach P k s → BreachAt P k s
  breach_at k s b = subst (BreachAt P k) b.its_spot (event_breach _ k (events_at b.place b.is_event) b.breached)

-- ---- "(atoms 2)", "(rule 1 (3 12) ())", "(rule 2 () (1))"

abbrev sample : Program
sample = record {
  atoms = 2;
  rules = record { head = 1; positive = 3 ∷ 12 ∷ []; negative = [] } ∷ record { head = 2; positive = []; negative = 1 ∷ [] } ∷ [];
}

pub spots_shown : map (λ e. take 3 (drop (spot_of e) (text_of sample))) (events sample)
    ≡ map ascii ("2)\n" ∷ "(ru" ∷ "1 (" ∷ "3 1" ∷ "12)" ∷ "(ru" ∷ "2 (" ∷ "1))" ∷ [])
unfolding events text_of decimal ascii
spots_shown = refl
