-- The search part by part, over plain numbers.
--   passed_first, passed_on      the search begins with all clauses left, and passes a part whose clauses are no more
--   falls_here, falls_last       fewer clauses than the part has fall into it, and so does what is left at the last part
--   falls_as, falls_more         the number of parts by another name, and further parts change nothing
--   between_all, between_low, between_high, falls_between    the binary search
--   falls_even                   parts of one size are passed by a division
--   each_falls                   an element of several lists in one stands in the list that it falls into
-- Assumes nothing.
use Prim.Native.Nat.{ℕ, zero, suc, pred, ◌+◌, ◌-◌, ◌*◌, ◌/◌, ◌%◌, ◌≤◌, ◌<◌}
use native.Mathlib.Nat.{not-suc-le-zero, zero-add, le_antisymm, le_trans, suc-pred-eq_of_pos, div-add-mod', mod-lt, div-lt_iff_lt-mul}
use native.Mathlib.Numerals.{add-one}
use native.Mathlib.Omega.{arith}
use mathlib.Core.Path.{◌≡◌, refl, sym, ◌∙◌, ap, subst}
use mathlib.Core.List.{List}
use lib.ListN.{length, get_or}
use Rattle.lists.specs.Lists.{sum, each}
use Rattle.lists.proofs.Tables.{sum_ext, sum_const, get_or_each}
use Rattle.clause_finding.specs.declared.PartFound.{PartFound}
use Rattle.clause_finding.specs.Falls.{Passed, Falls, Between}

-- the last term, apart
sum_last : (i : ℕ) (f : ℕ → ℕ) → 0 < i → sum (pred i) f + f i ≡ sum i f
sum_last zero f p = absurd (not-suc-le-zero p)
sum_last (suc i) f p = refl

part_some : (n : ℕ) (f : ℕ → ℕ) (x : ℕ) → x < sum n f → 0 < n
part_some zero f x h = absurd (not-suc-le-zero h)
part_some (suc n) f x h = omega arith

module _ {n : ℕ} {f : ℕ → ℕ} {x : ℕ} where
  pub passed_first : x < sum n f → Passed n f x 1 x
  passed_first h = record { some = omega arith; within = part_some n f x h; left_are = zero-add x }

  module _ {i at : ℕ} (p : Passed n f x i at) where
    pub passed_on : i < n → {k : ℕ} → k ≡ f i → k ≤ at → Passed n f x (i + 1) (at - k)
    passed_on h {k} e q =
        record {
          some = omega arith;
          within = omega (arith, h);
          left_are =
              ap (λ (j : ℕ). sum (pred j) f + (at - k)) (add-one i)
              ∙ ap (λ (s : ℕ). s + (at - k)) (sym (sum_last i f p.some))
              ∙ omega (arith, e, q, p.left_are);
        }

    pub falls_here : {k : ℕ} → k ≡ f i → at < k → Falls n f x (record { number = i; left = at })
    falls_here e q = record { at = p; inside = subst (λ (k : ℕ). at < k) e q }

    pub falls_last : n ≤ i → x < sum n f → Falls n f x (record { number = n; left = at })
    falls_last h q =
        subst (λ (k : ℕ). Falls n f x (record { number = k; left = at })) (sym (le_antisymm h p.within))
        (record {
          at = p;
          inside = omega (arith, sum_last i f p.some, p.left_are, subst (λ (k : ℕ). x < sum k f) (le_antisymm h p.within) q);
        })

  pub between_all : x < sum n f → Between n f x 0 n
  between_all h = record { some = part_some n f x h; within = omega arith; low = omega arith; high = h }

  module _ {a b : ℕ} (B : Between n f x a b) where
    pub between_low : {c s : ℕ} → c < b → s ≡ sum c f → s ≤ x → Between n f x c b
    between_low p e q = record { some = p; within = B.within; low = omega (arith, e, q); high = B.high }

    pub between_high : {c s : ℕ} → a < c → c < b → s ≡ sum c f → x < s → Between n f x a c
    between_high p h e q = record { some = p; within = omega (arith, h, B.within); low = B.low; high = omega (arith, e, q) }

    pub falls_between : {s : ℕ} → b ≤ a + 1 → s ≡ sum a f → Falls n f x (record { number = b; left = x - s })
    falls_between {s} p e =
        record {
          at = record { some = omega (arith, B.some); within = B.within; left_are = ap (λ (k : ℕ). sum k f + (x - s)) before ∙ omega (arith, e, B.low) };
          inside = omega (arith, e, B.low, B.high, sum_last b f (omega (arith, B.some)), ap (λ (k : ℕ). sum k f) before);
        }
      where
        before : pred b ≡ a
        before = let e : b ≡ a + 1 = omega (arith, p, B.some) in ap pred (e ∙ add-one a)

  -- a part that x falls into is found by a division where all are of one size
  pub falls_even : {k : ℕ} → 0 < k → ((i : ℕ) → i < n → f (suc i) ≡ k) → x < sum n f → Falls n f x (record { number = x / k + 1; left = x % k })
  falls_even {k} p e h =
      record {
        at =
            record {
              some = omega arith;
              within = omega (arith, below);
              left_are =
                  ap (λ (j : ℕ). sum (pred j) f + x % k) (add-one (x / k))
                  ∙ ap (λ (s : ℕ). s + x % k) (evenly (x / k) (omega (arith, below))) ∙ div-add-mod' x k;
            };
        inside = subst (λ (s : ℕ). x % k < s) (sym (ap f (add-one (x / k)) ∙ e (x / k) below)) (mod-lt x p);
      }
    where
      evenly : (i : ℕ) → i ≤ n → sum i f ≡ i * k
      evenly i q = sum_ext i f (λ j. k) (λ j l. e j (omega (arith, l, q))) ∙ sum_const i k

      below : x / k < n
      below = (div-lt_iff_lt-mul {x = x} {y = n} p).1 (subst (λ (s : ℕ). x < s) (evenly n (omega arith)) h)

-- the number of parts by another name
pub falls_as : {n k : ℕ} {f : ℕ → ℕ} {x : ℕ} {r : PartFound} → n ≡ k → (x < sum n f → Falls n f x r) → x < sum k f → Falls k f x r
falls_as {f = f} {x = x} {r = r} e F h = subst (λ (m : ℕ). Falls m f x r) e (F (subst (λ (m : ℕ). x < sum m f) (sym e) h))

pub falls_more : {n k : ℕ} {f : ℕ → ℕ} {x : ℕ} {r : PartFound} → n ≤ k → Falls n f x r → Falls k f x r
falls_more h F =
    record { at = record { some = F.at.some; within = le_trans F.at.within h; left_are = F.at.left_are }; inside = F.inside }

pub each_falls : {A : Type 0} (n : ℕ) (f : ℕ → List A) (g : ℕ → ℕ) (d : A) (x : ℕ) (r : PartFound) → ((i : ℕ) → length (f i) ≡ g i)
    → Falls n g x r → get_or (each n f) x d ≡ get_or (f r.number) r.left d
each_falls n f g d x r e F =
    ap (λ (k : ℕ). get_or (each n f) k d) (sym (ap (λ (s : ℕ). s + r.left) (sum_ext i _ g (λ k h. e (suc k))) ∙ F.at.left_are))
    ∙ get_or_each n f d i r.left (omega (arith, is, F.at.within)) (subst (λ (k : ℕ). r.left < k) (sym (e (suc i) ∙ ap g is)) F.inside)
    ∙ ap (λ (k : ℕ). get_or (f k) r.left d) is
  where
    i : ℕ
    i = pred r.number

    is : suc i ≡ r.number
    is = suc-pred-eq_of_pos F.at.some
