-- The bytes of the filled-out assignment, family by family (document 01, "Variables" and "Check and filling out").
--   atom_bytes n M       the atoms
--   body_bytes G M       t(r) of each rule, which is body_at G M r
--   founds_bytes G M ℓ   s(r) of each rule, which is founds_at G M ℓ r, for levels ℓ
--   family_bytes G n w M ℓ k   family k of six: these three, the bits of levels and of their next ones, and the chains
--   family_in tb s ls k   the same of the code in a table, for the bytes s of a set and ls of levels
--   family_of a ls k      the same beside the table, for a set a
--   TestsBy n p P         P gives of no k from 1 to n another answer than p k
--   filled_with G M ℓ  the filled-out values of a set M, for levels ℓ
-- Assumes nothing.
use Rattle.std.specs.Prelude.{ℕ, zero, suc, ◌≤◌, ◌<◌, ◌≡◌, Bool, List, [], length}
use Rattle.meaning.specs.Program.{Atoms, body_true}
use Rattle.encoding.specs.Code.{Code, code_sizes, rl, inner, pair_list}
use Rattle.encoding.specs.Fill.{founds, fill_with}
use Rattle.clause_tables.specs.Tables.{code_in, atoms_in}
use Rattle.level_lists.specs.Bytes.{set_in, level_byte}
use Rattle.level_lists.specs.declared.AtomBytes.{AtomBytes}
use Rattle.level_bits.specs.Bits.{truth_bytes, level_bytes, chain_bytes}

abbrev pub atom_bytes : ℕ → Atoms → List ℕ
atom_bytes n M = truth_bytes n M

-- t(r) and s(r)
abbrev pub body_at : Code → Atoms → ℕ → Bool
body_at G M r = body_true M (rl G r)

abbrev pub founds_at : Code → Atoms → (ℕ → ℕ) → ℕ → Bool
founds_at G M ℓ r = founds M ℓ (rl G r) (inner G r)

abbrev pub body_bytes : Code → Atoms → List ℕ
body_bytes G M = truth_bytes (length G.rules) (body_at G M)

abbrev pub founds_bytes : Code → Atoms → (ℕ → ℕ) → List ℕ
founds_bytes G M ℓ = truth_bytes (length G.rules) (founds_at G M ℓ)

-- the six families in their order, from 1
abbrev pub family_bytes : Code → ℕ → ℕ → Atoms → (ℕ → ℕ) → ℕ → List ℕ
family_bytes G n w M ℓ zero = []
family_bytes G n w M ℓ (suc zero) = atom_bytes n M
family_bytes G n w M ℓ (suc (suc zero)) = body_bytes G M
family_bytes G n w M ℓ (suc (suc (suc zero))) = founds_bytes G M ℓ
family_bytes G n w M ℓ (suc (suc (suc (suc zero)))) = level_bytes n w 0 ℓ
family_bytes G n w M ℓ (suc (suc (suc (suc (suc zero))))) = level_bytes n w 1 ℓ
family_bytes G n w M ℓ (suc (suc (suc (suc (suc (suc k)))))) = chain_bytes G w ℓ

-- of the code in a table, for the bytes of a set and of levels
abbrev pub family_in : List ℕ → List ℕ → List ℕ → ℕ → List ℕ
family_in tb s ls k = family_bytes (code_in tb) (atoms_in tb) (code_in tb).w (set_in (atoms_in tb) s) (level_byte ls) k

abbrev pub family_of : AtomBytes → List ℕ → ℕ → List ℕ
family_of a ls k = family_in a.table.cells.now a.bytes.now ls k

abbrev pub TestsBy : ℕ → (ℕ → Bool) → (ℕ → Bool → Type 0) → Type 0
TestsBy n p P = (k : ℕ) (b : Bool) → 0 < k → k ≤ n → P k b → b ≡ p k

unfoldable pub filled_with : Code → Atoms → (ℕ → ℕ) → List Bool
filled_with G M ℓ = fill_with (code_sizes G) (rl G) (inner G) (pair_list G) M ℓ
