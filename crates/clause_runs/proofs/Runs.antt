-- A run of lines, line by line.
--   Going        the state of a run that began at line j: lines written so far, their bytes, and what is still to fit
--   goes_on      after some lines more
--   runs_out     when no line is left
--   runs_full    when the next line does not fit
--   part-..      the part that is written, and the place after it
-- Assumes nothing.
use Prim.Native.Nat.{ℕ, zero, suc, ◌+◌, ◌-◌, ◌≤◌, ◌<◌}
use native.Mathlib.Nat.{zero-add, add-zero, suc-add, le_trans}
use native.Mathlib.Omega.{arith}
use mathlib.Core.Path.{◌≡◌, refl, sym, ◌∙◌, ap, ap₂, subst}
use mathlib.Core.Bool.{Bool, true, false, cond}
use mathlib.Core.Logic.{◌⊎◌, inl, inr}
use Rattle.encoding.specs.Code.{Code}
use Rattle.lists.proofs.Tests.{le_or_lt}
use mathlib.Core.List.{List, [], ◌∷◌, ◌++◌, append_assoc, append-nil}
use lib.Dec.{leb}
use lib.ListN.{length, get_or, take, drop, length-append, length-drop, drop_of_length-le}
use lib.Seq.{take-add, take-suc, drop-cons, drop-drop}
use borrow.Author.Tests.{le-leb, lt-leb, leb-false}
use borrow.Rule.Slice.PartMut.{put_mid}
use Rattle.lists.specs.Lists.{joined}
use Rattle.digits.specs.Bytes.{Wrote}
use Rattle.digits.proofs.Tail.{tail_length}
use Rattle.digits.proofs.Wrote.{wrote_as, wrote_kept, wrote_after}
use Rattle.clause_tables.specs.declared.Totals.{Totals}
use Rattle.clause_tables.specs.Tables.{Tabled}
use Rattle.clause_places.specs.declared.Place.{Place}
use Rattle.clause_places.specs.Places.{place_at}
use Rattle.clause_runs.specs.declared.RunPart.{RunPart}
use Rattle.clause_runs.proofs.Placed.{lines_count, line_short}
use Rattle.clause_places.proofs.Numbers.{own_number, number_is}
use Rattle.clause_runs.specs.Lines.{code_lines, code_line, fitting, code_part, code_run_bytes}
use Rattle.clause_runs.specs.Taken.{Taken}

pub joined_append : (xs ys : List (List ℕ)) → joined (xs ++ ys) ≡ joined xs ++ joined ys
joined_append [] ys = refl
joined_append (x ∷ xs) ys = ap (λ (zs : List ℕ). x ++ zs) (joined_append xs ys) ∙ sym (append_assoc x (joined xs) (joined ys))

-- the first k lines, and m more
pub joined_take : (ls : List (List ℕ)) (k m : ℕ) → joined (take (k + m) ls) ≡ joined (take k ls) ++ joined (take m (drop k ls))
joined_take ls k m = ap joined (take-add k m ls) ∙ joined_append (take k ls) (take m (drop k ls))

-- m lines fit, and those after them as far as they fit what is left
fitting_some : (ls : List (List ℕ)) (n m : ℕ) → m ≤ length ls → length (joined (take m ls)) ≤ n
    → fitting n ls ≡ m + fitting (n - length (joined (take m ls))) (drop m ls)
fitting_some ls n zero h f = ap (λ (k : ℕ). fitting k ls) (less n) ∙ sym (zero-add (fitting (n - 0) ls))
  where
    less : (k : ℕ) → k ≡ k - 0
    less k = omega arith
fitting_some [] n (suc m) h f = absurd (omega (arith, h))
fitting_some (l ∷ ls) n (suc m) h f =
    ap (λ (d : Bool). cond d (suc (fitting (n - length l) ls)) 0) (le-leb (length l) n (omega (arith, both, f)))
    ∙ ap suc (fitting_some ls (n - length l) m (omega (arith, h)) (omega (arith, both, f)))
    ∙ ap (λ (k : ℕ). suc (m + fitting k (drop m ls))) (minus n (length l) (length (joined (take m ls))) both)
    ∙ sym (suc-add m (fitting (n - length (l ++ joined (take m ls))) (drop m ls)))
  where
    both : length (l ++ joined (take m ls)) ≡ length l + length (joined (take m ls))
    both = length-append l (joined (take m ls))

    minus : (n x y : ℕ) {z : ℕ} → z ≡ x + y → n - x - y ≡ n - z
    minus n x y e = omega (arith, e)

-- the first k + 1 lines
pub joined_next : (ls : List (List ℕ)) (k : ℕ) → k < length ls → joined (take (suc k) ls) ≡ joined (take k ls) ++ get_or ls k []
joined_next ls k h =
    ap joined (take-suc ls k [] h) ∙ joined_append (take k ls) (get_or ls k [] ∷ []) ∙ ap (λ (x : List ℕ). joined (take k ls) ++ x) (append-nil (get_or ls k []))

module _ (all : List (List ℕ)) (j : ℕ) (b₀ : List ℕ) where
  abbrev ls : List (List ℕ)
  ls = drop j all

  pub record Going (n lines to : ℕ) (b : List ℕ) : Type 0 where
    pub number_is : n ≡ j + lines
    pub in_room : to ≤ length b₀
    pub same_length : length b ≡ length b₀
    pub wrote : Wrote (joined (take lines ls)) b₀ b to
    pub fits_are : fitting (length b₀) ls ≡ lines + fitting (length b₀ - to) (drop n all)

  module _ {n lines to : ℕ} {b : List ℕ} (G : Going n lines to b) (h : n < length all) where
    abbrev line : List ℕ
    line = get_or all n []

    here : drop n all ≡ line ∷ drop (suc n) all
    here = drop-cons all n [] h

    pub runs_full : length b - to < length line → lines ≡ fitting (length b₀) ls
    runs_full f = sym (G.fits_are ∙ ap (λ (k : ℕ). lines + k) none ∙ add-zero lines)
      where
        none : fitting (length b₀ - to) (drop n all) ≡ 0
        none =
            ap (fitting (length b₀ - to)) here
            ∙ ap (λ (c : Bool). cond c (suc (fitting (length b₀ - to - length line) (drop (suc n) all))) 0) (lt-leb (length line) (length b₀ - to) (subst (λ (k : ℕ). k - to < length line) G.same_length f))

  module _ {n lines to : ℕ} {b : List ℕ} (G : Going n lines to b) where
    -- after m lines more
    pub goes_on : (m : ℕ) {r : ℕ} {l : List ℕ} → n + m ≤ length all → r ≤ length b - to → Wrote (joined (take m (drop n all))) (take (length b - to) (drop to b)) l r
        → Going (n + m) (lines + m) (to + r) (put_mid to (length b - to) b l)
    goes_on m {r} {l} h f X =
        record {
          number_is = omega (arith, G.number_is);
          in_room = omega (arith, f, G.same_length, G.in_room);
          same_length = wrote_kept more (omega (arith, more.count, f, G.same_length, G.in_room));
          wrote = wrote_as (sym next_lines) more;
          fits_are = G.fits_are ∙ ap (λ (k : ℕ). lines + k) fits_next ∙ again lines m (fitting (length b₀ - (to + r)) (drop (n + m) all));
        }
      where
        more : Wrote (joined (take lines ls) ++ joined (take m (drop n all))) b₀ (put_mid to (length b - to) b l) (to + r)
        more = wrote_after G.wrote (joined (take m (drop n all))) X

        e : r ≡ length (joined (take m (drop n all)))
        e = X.count

        next_lines : joined (take (lines + m) ls) ≡ joined (take lines ls) ++ joined (take m (drop n all))
        next_lines =
            joined_take ls lines m
            ∙ ap (λ (xs : List (List ℕ)). joined (take lines ls) ++ joined (take m xs)) (drop-drop lines j all ∙ ap (λ (k : ℕ). drop k all) (sym G.number_is))

        again : (x y z : ℕ) → x + (y + z) ≡ x + y + z
        again x y z = omega arith

        fits_next : fitting (length b₀ - to) (drop n all) ≡ m + fitting (length b₀ - (to + r)) (drop (n + m) all)
        fits_next =
            fitting_some (drop n all) (length b₀ - to) m
            (subst (λ (k : ℕ). m ≤ k) (sym (length-drop n all)) (omega (arith, h)))
            (subst (λ (k : ℕ). length (joined (take m (drop n all))) ≤ k - to) G.same_length (subst (λ (k : ℕ). k ≤ length b - to) e f))
            ∙ ap₂ (λ (k : ℕ) (xs : List (List ℕ)). m + fitting k xs) (minus (length b₀) (length (joined (take m (drop n all)))) e) (drop-drop m n all)
          where
            minus : (k x : ℕ) → r ≡ x → k - to - x ≡ k - (to + r)
            minus k x e = omega (arith, e)

    pub runs_out : length all ≤ n → lines ≡ fitting (length b₀) ls
    runs_out h = sym (G.fits_are ∙ ap (λ (k : List (List ℕ)). lines + fitting (length b₀ - to) k) (drop_of_length-le all h) ∙ add-zero lines)

    -- what is written, once it is known how many lines fit
    pub written : lines ≡ fitting (length b₀) ls → b ≡ joined (take (fitting (length b₀) ls) ls) ++ drop (length (joined (take (fitting (length b₀) ls) ls))) b₀
    written e = G.wrote.bytes ∙ ap₂ (λ (k x : ℕ). joined (take k ls) ++ drop x b₀) e (G.wrote.count ∙ ap (λ (k : ℕ). length (joined (take k ls))) e)

    pub written_bytes : lines ≡ fitting (length b₀) ls → to ≡ length (joined (take (fitting (length b₀) ls) ls))
    written_bytes e = G.wrote.count ∙ ap (λ (k : ℕ). length (joined (take k ls))) e

-- ---- of a code whose tables are given, at place `at`

module _ {G : Code} {t : Totals} {hs ss bs ks xs ys : List ℕ} (T : Tabled G t hs ss bs ks xs ys) (j : ℕ) (b₀ : List ℕ) where
  module _ {at : Place} {lines to : ℕ} {b : List ℕ} (e : at ≡ place_at G at.number) (N : Going (code_lines G) j b₀ at.number lines to b) where
    -- the part that is written, once it is known how many lines fit
    part_is : lines ≡ fitting (length b₀) (drop j (code_lines G))
        → (record { lines = lines; bytes = to; place = at } ≡ code_part G j (length b₀)) × (b ≡ code_run_bytes G j b₀)
    part_is f = (
      λ i. record {
        lines = f i;
        bytes = written_bytes (code_lines G) j b₀ N f i;
        place = (e ∙ ap (place_at G) (N.number_is ∙ ap (λ (k : ℕ). j + k) f)) i;
      },
      written (code_lines G) j b₀ N f,
    )

    -- no line is left
    pub part_out : t.clauses < at.number → (record { lines = lines; bytes = to; place = at } ≡ code_part G j (length b₀)) × (b ≡ code_run_bytes G j b₀)
    part_out h = part_is (runs_out (code_lines G) j b₀ N (subst (λ (k : ℕ). k ≤ at.number) (sym (lines_count T)) h))

    module _ (h : at.number ≤ t.clauses) where
      listed : at.number < length (code_lines G)
      listed = subst (λ (k : ℕ). at.number < k) (sym (lines_count T)) (omega (arith, h))

      -- the next line does not fit
      pub part_full : {f : Bool} → f ≡ leb (length (code_line G at.number)) (length b - to) → f ≡ false
          → (record { lines = lines; bytes = to; place = at } ≡ code_part G j (length b₀)) × (b ≡ code_run_bytes G j b₀)
      part_full p q = part_is (runs_full (code_lines G) j b₀ N listed (leb-false (length (code_line G at.number)) (length b - to) (sym p ∙ q)))

      -- some lines are written into the lent tail
      module _ {q : RunPart} {l : List ℕ} (u : Taken G at.number q (take (length b - to) (drop to b)) l) where
        onward : Going (code_lines G) j b₀ (at.number + q.lines) (lines + q.lines) (to + q.bytes) (put_mid to (length b - to) b l)
        onward =
            goes_on (code_lines G) j b₀ N q.lines u.listed (subst (λ (k : ℕ). q.bytes ≤ k) (tail_length b to) u.in_room) u.wrote

        pub run_goes_on : (q.place ≡ place_at G q.place.number) × (q.place.number ≤ suc t.clauses)
            × Going (code_lines G) j b₀ q.place.number (lines + q.lines) (to + q.bytes) (put_mid to (length b - to) b l)
        run_goes_on =
            (own_number T u.place_is, omega (arith, number_is T u.place_is, u.listed, lines_count T), subst (λ (k : ℕ). Going (code_lines G) j b₀ k (lines + q.lines) (to + q.bytes) (put_mid to (length b - to) b l)) (sym (number_is T u.place_is)) onward)

-- ---- from part to part

pub fitting_few : (ls : List (List ℕ)) (n : ℕ) → fitting n ls ≤ length ls
fitting_few [] n = omega arith
fitting_few (l ∷ ls) n = go (leb (length l) n) (fitting_few ls (n - length l))
  where
    go : (d : Bool) → fitting (n - length l) ls ≤ length ls → cond d (suc (fitting (n - length l) ls)) 0 ≤ suc (length ls)
    go true h = omega (arith, h)
    go false h = omega arith

-- the lines that fit n bytes have at most n
pub fitting_room : (ls : List (List ℕ)) (n : ℕ) → length (joined (take (fitting n ls) ls)) ≤ n
fitting_room [] n = omega arith
fitting_room (l ∷ ls) n = go (fitting_room ls (n - length l)) (le_or_lt (length l) n)
  where
    go : length (joined (take (fitting (n - length l) ls) ls)) ≤ n - length l → (length l ≤ n) ⊎ (n < length l)
        → length (joined (take (fitting n (l ∷ ls)) (l ∷ ls))) ≤ n
    go q (inl h) =
        subst (λ (d : Bool). length (joined (take (cond d (suc (fitting (n - length l) ls)) 0) (l ∷ ls))) ≤ n) (sym (le-leb (length l) n h))
        (omega (arith, length-append l (joined (take (fitting (n - length l) ls) ls)), q, h))
    go q (inr h) =
        subst (λ (d : Bool). length (joined (take (cond d (suc (fitting (n - length l) ls)) 0) (l ∷ ls))) ≤ n) (sym (lt-leb (length l) n h)) (omega arith)

module _ {G : Code} {t : Totals} {hs ss bs ks xs ys : List ℕ} (T : Tabled G t hs ss bs ks xs ys) where
  module _ (j n : ℕ) {q : RunPart} (e : q ≡ code_part G j n) where
    pub part_bytes : q.bytes ≤ n
    part_bytes = subst (λ (x : RunPart). x.bytes ≤ n) (sym e) (fitting_room (drop j (code_lines G)) n)

    module _ (h : j ≤ t.clauses) where
      number_then : q.place.number ≡ j + fitting n (drop j (code_lines G))
      number_then = ap (λ (x : RunPart). x.place.number) e

      pub part_place : q.place ≡ place_at G q.place.number
      part_place = own_number T (ap (λ (x : RunPart). x.place) e)

      pub part_within : q.place.number ≤ suc t.clauses
      part_within =
          omega (arith, number_then, fitting_few (drop j (code_lines G)) n, length-drop j (code_lines G), lines_count T, h)

      -- a buffer of 3,008 bytes or more takes a line
      pub part_onward : 3008 ≤ n → j < q.place.number
      part_onward k = omega (arith, number_then, some)
        where
          fits : length (code_line G j) ≤ n
          fits = le_trans (line_short T j h) k

          some : 0 < fitting n (drop j (code_lines G))
          some =
              subst (λ (x : ℕ). 0 < x)
              (sym
              (ap (fitting n) (drop-cons (code_lines G) j [] (subst (λ (x : ℕ). j < x) (sym (lines_count T)) (omega (arith, h))))
              ∙ ap (λ (d : Bool). cond d (suc (fitting (n - length (code_line G j)) (drop (suc j) (code_lines G)))) 0) (le-leb (length (code_line G j)) n fits)))
              (omega arith)
