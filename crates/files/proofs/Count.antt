-- What the reads of an input come to.
-- Assumes nothing.
use Prim.Native.Nat.{ℕ, suc, ◌+◌, ◌-◌, ◌≤◌, ◌<◌}
use native.Mathlib.Omega.{arith}
use mathlib.Core.Path.{◌≡◌, refl, sym, ◌∙◌, ap, subst}
use mathlib.Core.Bool.{Bool, true, false, cond, So}
use mathlib.Core.List.{List, [], ◌∷◌, ◌++◌}
use lib.Dec.{eqb, ltb}
use borrow.Author.Tests.{ltb-true, ltb-false, eqb-false, eq-eqb, ne_eqb, lt-ltb, le-ltb}
use Rattle.io.specs.Counts.{IsPrefixLen}
use Rattle.lists.specs.Lists.{all}
use Rattle.lists.proofs.Bools.{and_left, and_right}
use Rattle.files.specs.declared.Front.{Front}
use Rattle.files.specs.Count.{most_counted, counted, first_read, read_on, read_all, bytes_in, Counted}

-- ---- one read more

pub read_none : (f : Front) {n : ℕ} → n ≡ 0 → counted f.kept f.total true ≡ read_on f n
unfolding read_on
read_none f {n} e = rw (eq-eqb n 0 e)

pub read_past : (f : Front) {n : ℕ} → (n ≡ 0 → ⊥) → most_counted < f.total → counted f.kept f.total true ≡ read_on f n
unfolding read_on
read_past f {n} e h = rw (ne_eqb n 0 e, lt-ltb most_counted f.total h)

pub read_some : (f : Front) {n : ℕ} → (n ≡ 0 → ⊥) → f.total ≤ most_counted → counted f.kept (f.total + n) false ≡ read_on f n
unfolding read_on
read_some f {n} e h = rw (ne_eqb n 0 e, le-ltb most_counted f.total h)

-- ---- reads one after the other

pub read_next : (f : Front) (ns : List ℕ) (n : ℕ) → read_all f (ns ++ (n ∷ [])) ≡ read_on (read_all f ns) n
read_next f [] n = refl
read_next f (m ∷ ns) n = read_next (read_on f m) ns n

-- what the reads so far come to
pub record Reads (f : Front) (k : ℕ) : Type 0 where
  pub kept_are : f.kept ≡ k
  pub reads : List ℕ
  pub counted_is : f ≡ read_all (first_read k) reads

pub reads_first : (k : ℕ) → Reads (first_read k) k
reads_first k = record { kept_are = refl; reads = []; counted_is = refl }

pub kept_on : (f : Front) (n : ℕ) → (read_on f n).kept ≡ f.kept
unfolding read_on
kept_on f n = go (eqb n 0) (ltb most_counted f.total)
  where
    go : (a b : Bool) → (cond a (counted f.kept f.total true) (cond b (counted f.kept f.total true) (counted f.kept (f.total + n) false))).kept ≡ f.kept
    go true b = refl
    go false true = refl
    go false false = refl

pub reads_on : (f : Front) (n : ℕ) {g : Front} {k : ℕ} → Reads f k → g ≡ read_on f n → Reads g k
reads_on f n {g} {k} r e =
    record {
      kept_are = ap (λ (x : Front). x.kept) e ∙ kept_on f n ∙ r.kept_are;
      reads = r.reads ++ (n ∷ []);
      counted_is = e ∙ ap (λ (x : Front). read_on x n) r.counted_is ∙ sym (read_next (first_read k) r.reads n);
    }

pub reads_counted : {f : Front} {k : ℕ} → Reads f k → f.ended ≡ true → Counted f
reads_counted {f} {k} r e = record { reads = r.reads; counted_is = r.counted_is ∙ ap (λ (x : ℕ). read_all (first_read x) r.reads) (sym r.kept_are); at_end = e }

-- ---- the loop ends

-- how far the reads can still go: 0 once the end is met
abbrev pub ahead : Front → ℕ
ahead f = cond f.ended 0 (suc (most_counted + 65536 - f.total))

pub ahead_less : (f : Front) (n : ℕ) {g : Front} → f.ended ≡ false → n ≤ 65536 → g ≡ read_on f n → ahead g < ahead f
unfolding read_on
ahead_less f n {g} e h q = rw (q, e) (go (eqb n 0) (ltb most_counted f.total) refl refl)
  where
    go : (a b : Bool) → eqb n 0 ≡ a → ltb most_counted f.total ≡ b
        → ahead (cond a (counted f.kept f.total true) (cond b (counted f.kept f.total true) (counted f.kept (f.total + n) false)))
        < suc (most_counted + 65536 - f.total)
    go true b x y = omega arith
    go false true x y = omega arith
    go false false x y = omega (arith, ltb-false most_counted f.total y, eqb-false n 0 x, h)

-- ---- what is counted

-- an input whose reads give n bytes, then those of ns, none of which is 0, and then none has n bytes and those of ns
pub all_counted : (ns : List ℕ) (k n : ℕ) → So (all (λ m. ltb 0 m) ns) → n + bytes_in ns ≤ most_counted
    → read_all (counted k n false) (ns ++ (0 ∷ [])) ≡ counted k (n + bytes_in ns) true
all_counted [] k n p h = sym (read_none (counted k n false) refl) ∙ ap (λ (x : ℕ). counted k x true) (omega arith)
all_counted (m ∷ ns) k n p h =
    ap (λ (f : Front). read_all f (ns ++ (0 ∷ []))) (sym (read_some (counted k n false) some (omega (arith, h))))
    ∙ all_counted ns k (n + m) (and_right (ltb 0 m) (all (λ x. ltb 0 x) ns) p) (omega (arith, h)) ∙ ap (λ (x : ℕ). counted k x true) (omega arith)
  where
    some : m ≡ 0 → ⊥
    some e = omega (arith, ltb-true 0 m (and_left (ltb 0 m) (all (λ x. ltb 0 x) ns) p), e)

-- the bytes kept are those of the first read
pub counts_kept : (b : List ℕ) (k : ℕ) {f : Front} → IsPrefixLen k b → Reads f k → IsPrefixLen f.kept b
counts_kept b k {f} h r = subst (λ (x : ℕ). IsPrefixLen x b) (sym r.kept_are) h

-- no bytes, of a file that is not there
pub none_read : (b : List ℕ) → IsPrefixLen 0 b × Counted (counted 0 0 true)
none_read b = ((omega arith, refl), record { reads = 0 ∷ []; counted_is = read_none (first_read 0) refl; at_end = refl })
