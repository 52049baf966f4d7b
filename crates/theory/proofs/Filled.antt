-- The filled-out list: its length is V, and each variable has the value of its family.
-- Assumes nothing.
use Prim.Native.Nat.{ℕ, suc, pred, ◌+◌, ◌*◌, ◌<◌}
use native.Mathlib.Nat.{mul-le-mul_right}
use native.Mathlib.Omega.{arith}
use mathlib.Core.Path.{◌≡◌, ◌∙◌, ap, ap₂}
use mathlib.Core.Bool.{Bool, false}
use mathlib.Core.List.{List, [], ◌++◌, append-nil}
use lib.ListN.{length, get_or, length-append}
use Rattle.lists.specs.Lists.{tab, each}
use Rattle.lists.proofs.Tables.{length_tab, length_rows, get_or_tab, get_d_rows, get_or_skip, get_or_here}
use Rattle.meaning.specs.Program.{Rule, Atoms, body_true}
use Rattle.encoding.specs.Literal.{value_of}
use Rattle.encoding.specs.Variables.{Sizes, body_var, founds_var, level_var, next_var, below_var, next_below_var, var_count}
use Rattle.encoding.specs.Counter.{bit}
use Rattle.encoding.specs.Clauses.{Pair, pair_at}
use Rattle.encoding.specs.Fill.{less_at, founds, level_bits, next_bits, chain_bits, fill_with}

module _ (S : Sizes) (rule : ℕ → Rule) (inner : ℕ → List ℕ) (ps : List Pair) (M : Atoms) (ℓ : ℕ → ℕ) where
  open S use {n, m, w}

  abbrev F : List Bool
  F = fill_with S rule inner ps M ℓ

  -- the parts from each family on
  abbrev from6 : List Bool
  from6 = each (length ps) (chain_bits S ps ℓ) ++ []

  abbrev from5 : List Bool
  from5 = next_bits S ℓ ++ from6

  abbrev from4 : List Bool
  from4 = level_bits S ℓ ++ from5

  abbrev from3 : List Bool
  from3 = tab m (λ r. founds M ℓ (rule r) (inner r)) ++ from4

  abbrev from2 : List Bool
  from2 = tab m (λ r. body_true M (rule r)) ++ from3

  bits_length : (f : ℕ → ℕ → Bool) → length (each n (λ a. tab w (f a))) ≡ n * w
  bits_length f = length_rows n w (λ a. tab w (f a)) (λ a h. length_tab w (f (suc a)))

  chain_length : (k : ℕ) → length (chain_bits S ps ℓ k) ≡ 2 * w
  chain_length k = length-append (tab w _) (tab w _) ∙ omega (arith, length_tab w (less_at (ℓ (pair_at ps k).body) (ℓ (pair_at ps k).head)), length_tab w (less_at (ℓ (pair_at ps k).body + 1) (ℓ (pair_at ps k).head)))

  chains_length : length (each (length ps) (chain_bits S ps ℓ)) ≡ length ps * (2 * w)
  chains_length = length_rows (length ps) (2 * w) (chain_bits S ps ℓ) (λ k h. chain_length (suc k))

  pub fill_length : length F ≡ var_count S (length ps)
  unfolding fill_with
  fill_length =
      length-append (tab n M) from2 ∙ ap₂ ◌+◌ (length_tab n M)
      (length-append (tab m (λ r. body_true M (rule r))) from3 ∙ ap₂ ◌+◌ (length_tab m (λ r. body_true M (rule r)))
      (length-append (tab m (λ r. founds M ℓ (rule r) (inner r))) from4 ∙ ap₂ ◌+◌ (length_tab m (λ r. founds M ℓ (rule r) (inner r)))
      (length-append (level_bits S ℓ) from5 ∙ ap₂ ◌+◌ (bits_length (λ a. bit (ℓ a)))
      (length-append (next_bits S ℓ) from6 ∙ ap₂ ◌+◌ (bits_length (λ a. bit (ℓ a + 1)))
      (ap length (append-nil (each (length ps) (chain_bits S ps ℓ))) ∙ chains_length)))))
      ∙ omega arith

  -- the value at a place after the first parts
  place : (v x : ℕ) → pred v ≡ x → value_of F v ≡ get_or F x false
  unfolding value_of
  place v x e = ap (λ (k : ℕ). get_or F k false) e

  past1 : (x : ℕ) → get_or F (n + x) false ≡ get_or from2 x false
  unfolding fill_with
  past1 x = get_or_skip (tab n M) from2 false n x (length_tab n M)

  past2 : (x : ℕ) → get_or F (n + (m + x)) false ≡ get_or from3 x false
  past2 x = past1 (m + x) ∙ get_or_skip (tab m (λ r. body_true M (rule r))) from3 false m x (length_tab m (λ r. body_true M (rule r)))

  past3 : (x : ℕ) → get_or F (n + (m + (m + x))) false ≡ get_or from4 x false
  past3 x = past2 (m + x) ∙ get_or_skip (tab m (λ r. founds M ℓ (rule r) (inner r))) from4 false m x (length_tab m (λ r. founds M ℓ (rule r) (inner r)))

  past4 : (x : ℕ) → get_or F (n + (m + (m + (n * w + x)))) false ≡ get_or from5 x false
  past4 x = past3 (n * w + x) ∙ get_or_skip (level_bits S ℓ) from5 false (n * w) x (bits_length (λ a. bit (ℓ a)))

  past5 : (x : ℕ) → get_or F (n + (m + (m + (n * w + (n * w + x))))) false ≡ get_or from6 x false
  past5 x = past4 (n * w + x) ∙ get_or_skip (next_bits S ℓ) from6 false (n * w) x (bits_length (λ a. bit (ℓ a + 1)))

  -- a place in rows of w
  in_rows : (k : ℕ) (a i : ℕ) → a < k → i < w → a * w + i < k * w
  in_rows k a i h g = omega (arith, mul-le-mul_right w h)

  row_at : (f : ℕ → ℕ → Bool) (ys : List Bool) (a i : ℕ) → a < n → i < w → get_or (each n (λ a. tab w (f a)) ++ ys) (a * w + i) false ≡ f (suc a) (suc i)
  row_at f ys a i h g =
      get_or_here (each n (λ a. tab w (f a))) ys false (n * w) (a * w + i) (bits_length f) (in_rows n a i h g)
      ∙ get_d_rows n w (λ a. tab w (f a)) false (λ a h. length_tab w (f (suc a))) a i h g ∙ get_or_tab w (f (suc a)) false i g

  chain_at_lem : (k j : ℕ) → k < length ps → j < 2 * w → get_or from6 (k * (2 * w) + j) false ≡ get_or (chain_bits S ps ℓ (suc k)) j false
  chain_at_lem k j h g =
      get_or_here (each (length ps) (chain_bits S ps ℓ)) [] false (length ps * (2 * w)) (k * (2 * w) + j) chains_length (omega (arith, mul-le-mul_right (2 * w) h))
      ∙ get_d_rows (length ps) (2 * w) (chain_bits S ps ℓ) false (λ k h. chain_length (suc k)) k j h g

  pub atom_value : (a : ℕ) → a < n → value_of F (suc a) ≡ M (suc a)
  unfolding value_of fill_with
  atom_value a h = get_or_here (tab n M) from2 false n a (length_tab n M) h ∙ get_or_tab n M false a h

  pub body_value : (r : ℕ) → r < m → value_of F (body_var S (suc r)) ≡ body_true M (rule (suc r))
  body_value r h =
      place (body_var S (suc r)) (n + r) (omega arith) ∙ past1 r
      ∙ get_or_here (tab m (λ r. body_true M (rule r))) from3 false m r (length_tab m (λ r. body_true M (rule r))) h ∙ get_or_tab m (λ r. body_true M (rule r)) false r h

  pub founds_value : (r : ℕ) → r < m → value_of F (founds_var S (suc r)) ≡ founds M ℓ (rule (suc r)) (inner (suc r))
  founds_value r h =
      place (founds_var S (suc r)) (n + (m + r)) (omega arith) ∙ past2 r
      ∙ get_or_here (tab m (λ r. founds M ℓ (rule r) (inner r))) from4 false m r (length_tab m (λ r. founds M ℓ (rule r) (inner r))) h
      ∙ get_or_tab m (λ r. founds M ℓ (rule r) (inner r)) false r h

  pub level_value : (a i : ℕ) → a < n → i < w → value_of F (level_var S (suc a) (suc i)) ≡ bit (ℓ (suc a)) (suc i)
  level_value a i h g =
      place (level_var S (suc a) (suc i)) (n + (m + (m + (a * w + i)))) (omega arith) ∙ past3 (a * w + i) ∙ row_at (λ a. bit (ℓ a)) from5 a i h g

  pub next_value : (a i : ℕ) → a < n → i < w → value_of F (next_var S (suc a) (suc i)) ≡ bit (ℓ (suc a) + 1) (suc i)
  next_value a i h g =
      place (next_var S (suc a) (suc i)) (n + (m + (m + (n * w + (a * w + i))))) (omega arith) ∙ past4 (a * w + i) ∙ row_at (λ a. bit (ℓ a + 1)) from6 a i h g

  pub below_value : (k i : ℕ) → k < length ps → i < w
      → value_of F (below_var S (suc k) (suc i)) ≡ less_at (ℓ (pair_at ps (suc k)).body) (ℓ (pair_at ps (suc k)).head) (suc i)
  below_value k i h g =
      let x = ℓ (pair_at ps (suc k)).body in
      let y = ℓ (pair_at ps (suc k)).head in
      place (below_var S (suc k) (suc i)) (n + (m + (m + (n * w + (n * w + (k * (2 * w) + i)))))) (omega arith) ∙ past5 (k * (2 * w) + i)
      ∙ chain_at_lem k i h (omega arith) ∙ get_or_here (tab w (less_at x y)) (tab w (less_at (x + 1) y)) false w i (length_tab w (less_at x y)) g ∙ get_or_tab w (less_at x y) false i g

  pub next_below_value : (k i : ℕ) → k < length ps → i < w
      → value_of F (next_below_var S (suc k) (suc i)) ≡ less_at (ℓ (pair_at ps (suc k)).body + 1) (ℓ (pair_at ps (suc k)).head) (suc i)
  next_below_value k i h g =
      let x = ℓ (pair_at ps (suc k)).body in
      let y = ℓ (pair_at ps (suc k)).head in
      place (next_below_var S (suc k) (suc i)) (n + (m + (m + (n * w + (n * w + (k * (2 * w) + (w + i))))))) (omega arith) ∙ past5 (k * (2 * w) + (w + i))
      ∙ chain_at_lem k (w + i) h (omega arith) ∙ get_or_skip (tab w (less_at x y)) (tab w (less_at (x + 1) y)) false w i (length_tab w (less_at x y)) ∙ get_or_tab w (less_at (x + 1) y) false i g
