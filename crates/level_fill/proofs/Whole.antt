-- The families one after the other are the filled-out assignment.
--   values_are       the bytes of the filled-out values, family by family
--   values_length    they are V
--   filled_same      levels that agree on the atoms fill out alike
--   filled_fill      with the levels of the stages, the filled-out assignment
-- Assumes nothing.
use Prim.Native.Nat.{ℕ, zero, suc, ◌+◌, ◌<◌}
use native.Mathlib.Nat.{add-zero}
use native.Mathlib.Omega.{arith}
use mathlib.Core.Path.{◌≡◌, refl, sym, ◌∙◌, ap, ap₂}
use mathlib.Core.Bool.{Bool, ◌&&◌, So}
use mathlib.Core.List.{List, [], ◌∷◌, ◌++◌, append_assoc, append-nil, map-append}
use lib.Dec.{ltb}
use lib.ListN.{length, get_or, length-map}
use Rattle.lists.specs.Lists.{tab, each, joined}
use Rattle.lists.proofs.Tests.{all_at, all_ext}
use Rattle.lists.proofs.Tables.{tab_ext, each_ext}
use Rattle.meaning.specs.Program.{Atoms, is_atom, body_true}
use Rattle.encoding.specs.Code.{Code, code_sizes, rl, inner, pair_list, pair_total, pair_body, pair_head, variables_of, level_of, code_fill}
use Rattle.encoding.specs.Counter.{bit}
use Rattle.encoding.specs.Clauses.{Pair, pair_at}
use Rattle.encoding.specs.Fill.{less_at, founds, level_bits, next_bits, chain_bits, fill_with}
use Rattle.theory.proofs.Atoms.{is_atom_lem}
use Rattle.theory.proofs.Numbered.{Ranges}
use Rattle.theory.proofs.Pairs.{inner_in, body_in, head_in}
use Rattle.theory.proofs.Filled.{fill_length}
use Rattle.answer_offers.specs.Offered.{value_bytes}
use Rattle.level_bits.specs.Bits.{byte_of, bit_bytes, level_bytes, pair_bytes, chain_bytes}
use Rattle.level_fill.specs.Values.{family_bytes, filled_with}

-- ---- the bytes of tables

bytes_tab : (n : ℕ) (f : ℕ → Bool) → value_bytes (tab n f) ≡ tab n (λ i. byte_of (f i))
bytes_tab zero f = refl
bytes_tab (suc n) f = map-append byte_of (tab n f) (f (suc n) ∷ []) ∙ ap (λ (l : List ℕ). l ++ (byte_of (f (suc n)) ∷ [])) (bytes_tab n f)

bytes_each : (n : ℕ) (f : ℕ → List Bool) → value_bytes (each n f) ≡ each n (λ i. value_bytes (f i))
bytes_each zero f = refl
bytes_each (suc n) f = map-append byte_of (each n f) (f (suc n)) ∙ ap (λ (l : List ℕ). l ++ value_bytes (f (suc n))) (bytes_each n f)

-- six lists, one after the other
six : (a b c d e f : List Bool) → value_bytes (joined (a ∷ b ∷ c ∷ d ∷ e ∷ f ∷ []))
    ≡ ((((value_bytes a ++ value_bytes b) ++ value_bytes c) ++ value_bytes d) ++ value_bytes e) ++ value_bytes f
six a b c d e f =
    ap value_bytes (nested a b c d e f) ∙ map-append byte_of ((((a ++ b) ++ c) ++ d) ++ e) f
    ∙ ap (λ (l : List ℕ). l ++ value_bytes f) (map-append byte_of (((a ++ b) ++ c) ++ d) e
    ∙ ap (λ (l : List ℕ). l ++ value_bytes e) (map-append byte_of ((a ++ b) ++ c) d
    ∙ ap (λ (l : List ℕ). l ++ value_bytes d) (map-append byte_of (a ++ b) c ∙ ap (λ (l : List ℕ). l ++ value_bytes c) (map-append byte_of a b))))
  where
    nested : (a b c d e f : List Bool) → joined (a ∷ b ∷ c ∷ d ∷ e ∷ f ∷ []) ≡ ((((a ++ b) ++ c) ++ d) ++ e) ++ f
    nested a b c d e f = simp (append_assoc, append-nil)

module _ (G : Code) (M : Atoms) (ℓ : ℕ → ℕ) where
  abbrev w : ℕ
  w = G.w

  abbrev ps : List Pair
  ps = pair_list G

  pub values_are : value_bytes (filled_with G M ℓ) ≡ each 6 (family_bytes G G.n w M ℓ)
  unfolding filled_with fill_with
  values_are =
      six (tab G.n M) (tab (length G.rules) (λ r. body_true M (rl G r))) (tab (length G.rules) (λ r. founds M ℓ (rl G r) (inner G r)))
      (level_bits (code_sizes G) ℓ) (next_bits (code_sizes G) ℓ) (each (length ps) (chain_bits (code_sizes G) ps ℓ))
      ∙ ap₂ ◌++◌ (ap₂ ◌++◌ (ap₂ ◌++◌ (ap₂ ◌++◌ (ap₂ ◌++◌ (bytes_tab G.n M) (bytes_tab (length G.rules) (λ r. body_true M (rl G r))))
      (bytes_tab (length G.rules) (λ r. founds M ℓ (rl G r) (inner G r)))) levels) nexts) chains
    where
      levels : value_bytes (each G.n (λ a. tab w (bit (ℓ a)))) ≡ level_bytes G.n w 0 ℓ
      levels =
          bytes_each G.n (λ a. tab w (bit (ℓ a)))
          ∙ each_ext G.n (λ a. value_bytes (tab w (bit (ℓ a)))) (λ a. bit_bytes w (ℓ a + 0)) (λ a h. bytes_tab w (bit (ℓ (suc a))) ∙ ap (bit_bytes w) (sym (add-zero (ℓ (suc a)))))

      nexts : value_bytes (each G.n (λ a. tab w (bit (ℓ a + 1)))) ≡ level_bytes G.n w 1 ℓ
      nexts =
          bytes_each G.n (λ a. tab w (bit (ℓ a + 1)))
          ∙ each_ext G.n (λ a. value_bytes (tab w (bit (ℓ a + 1)))) (λ a. bit_bytes w (ℓ a + 1)) (λ a h. bytes_tab w (bit (ℓ (suc a) + 1)))

      pair : (x y : ℕ) → value_bytes (tab w (less_at x y) ++ tab w (less_at (x + 1) y)) ≡ pair_bytes w x y
      pair x y = map-append byte_of (tab w (less_at x y)) (tab w (less_at (x + 1) y)) ∙ ap₂ ◌++◌ (bytes_tab w (less_at x y)) (bytes_tab w (less_at (x + 1) y))

      chains : value_bytes (each (length ps) (chain_bits (code_sizes G) ps ℓ)) ≡ chain_bytes G w ℓ
      chains =
          bytes_each (length ps) (chain_bits (code_sizes G) ps ℓ)
          ∙ each_ext (length ps) (λ k. value_bytes (chain_bits (code_sizes G) ps ℓ k)) (λ k. pair_bytes w (ℓ (pair_at ps k).body) (ℓ (pair_at ps k).head))
          (λ k h. pair (ℓ (pair_at ps (suc k)).body) (ℓ (pair_at ps (suc k)).head))

  pub values_length : length (value_bytes (filled_with G M ℓ)) ≡ variables_of G
  unfolding filled_with
  values_length =
      length-map (filled_with G M ℓ) byte_of ∙ fill_length (code_sizes G) (rl G) (inner G) (pair_list G) M ℓ

-- ---- levels that agree on the atoms

module _ (G : Code) (I : Ranges G) where
  pub filled_same : (M : Atoms) (ℓ κ : ℕ → ℕ) → ((a : ℕ) → So (is_atom G.n a) → ℓ a ≡ κ a) → filled_with G M ℓ ≡ filled_with G M κ
  unfolding filled_with fill_with
  filled_same M ℓ κ e =
      ap (λ (l : List Bool). tab G.n M ++ (tab (length G.rules) (λ r. body_true M (rl G r)) ++ l))
      (ap₂ ◌++◌ founded (ap₂ ◌++◌ levels (ap₂ ◌++◌ nexts (ap (λ (l : List Bool). l ++ []) chains))))
    where
      at : (a : ℕ) → a < G.n → ℓ (suc a) ≡ κ (suc a)
      at a h = e (suc a) (is_atom_lem G.n (suc a) (omega arith) h)

      founded : tab (length G.rules) (λ r. founds M ℓ (rl G r) (inner G r)) ≡ tab (length G.rules) (λ r. founds M κ (rl G r) (inner G r))
      founded =
          tab_ext (length G.rules) (λ r. founds M ℓ (rl G r) (inner G r)) (λ r. founds M κ (rl G r) (inner G r))
          (λ j h.
          let R = rl G (suc j) in
          let bs = inner G (suc j) in
          ap (λ (b : Bool). body_true M R && b)
          (all_ext (λ b. ltb (ℓ b) (ℓ R.head)) (λ b. ltb (κ b) (κ R.head)) bs 0
          (λ i k. ap₂ ltb (e (get_or bs i 0) (all_at (is_atom G.n) bs 0 (inner_in G I j h) i k)) (e R.head (I.head_in j h)))))

      levels : level_bits (code_sizes G) ℓ ≡ level_bits (code_sizes G) κ
      levels = each_ext G.n (λ a. tab G.w (bit (ℓ a))) (λ a. tab G.w (bit (κ a))) (λ a h. ap (λ (x : ℕ). tab G.w (bit x)) (at a h))

      nexts : next_bits (code_sizes G) ℓ ≡ next_bits (code_sizes G) κ
      nexts = each_ext G.n (λ a. tab G.w (bit (ℓ a + 1))) (λ a. tab G.w (bit (κ a + 1))) (λ a h. ap (λ (x : ℕ). tab G.w (bit (x + 1))) (at a h))

      chains : each (pair_total G) (chain_bits (code_sizes G) (pair_list G) ℓ) ≡ each (pair_total G) (chain_bits (code_sizes G) (pair_list G) κ)
      chains =
          each_ext (pair_total G) (chain_bits (code_sizes G) (pair_list G) ℓ) (chain_bits (code_sizes G) (pair_list G) κ)
          (λ k h.
          ap₂ (λ (x y : ℕ). tab G.w (less_at x y) ++ tab G.w (less_at (x + 1) y)) (e (pair_body G (suc k)) (body_in G I k h)) (e (pair_head G (suc k)) (head_in G I k h)))

pub filled_fill : (G : Code) (M : Atoms) → filled_with G M (level_of G M) ≡ code_fill G M
unfolding filled_with
filled_fill G M = refl
