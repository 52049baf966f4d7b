-- Which numbers are atoms of a program, and what its rules hold.
-- Assumes nothing.
use Prim.Native.Nat.{ℕ, zero, suc, ◌≤◌, ◌<◌}
use mathlib.Core.Bool.{◌&&◌, So, false≢true}
use mathlib.Core.List.{List}
use lib.Dec.{ltb, leb}
use lib.ListN.{length, get_or}
use borrow.Author.Tests.{ltb-true, leb-true, lt-ltb, le-leb}
use Rattle.lists.specs.Lists.{all}
use Rattle.lists.proofs.Bools.{and_in, and_left, and_right}
use Rattle.lists.proofs.Tests.{all_at}
use Rattle.meaning.specs.Program.{Rule, is_atom, rule_fits, no_rule}

pub atom_pos : (n a : ℕ) → So (is_atom n a) → zero < a
atom_pos n a t = ltb-true 0 a (and_left (ltb 0 a) (leb a n) t)

pub atom_le : (n a : ℕ) → So (is_atom n a) → a ≤ n
atom_le n a t = leb-true a n (and_right (ltb 0 a) (leb a n) t)

pub is_atom_lem : (n a : ℕ) → zero < a → a ≤ n → So (is_atom n a)
is_atom_lem n a p h = and_in (lt-ltb 0 a p) (le-leb a n h)

-- what holds of suc a for each a below n holds of each atom
pub by_place {ℓ} : (n : ℕ) (Q : ℕ → Type ℓ) → ((a : ℕ) → a < n → Q (suc a)) → (a : ℕ) → So (is_atom n a) → Q a
by_place n Q f zero t = absurd (false≢true t)
by_place n Q f (suc a) t = f a (atom_le n (suc a) t)

-- the atoms of a rule are in range
pub record RuleIn (n : ℕ) (r : Rule) : Type 0 where
  pub head_in : So (is_atom n r.head)
  pub positive_in : So (all (is_atom n) r.positive)
  pub negative_in : So (all (is_atom n) r.negative)

pub rule_in_lem : (n : ℕ) (rs : List Rule) → So (all (rule_fits n) rs) → (j : ℕ) → j < length rs → RuleIn n (get_or rs j no_rule)
rule_in_lem n rs t j h =
    let r = get_or rs j no_rule in
    let u = all_at (rule_fits n) rs no_rule t j h in
    let v = and_right (is_atom n r.head) (all (is_atom n) r.positive && all (is_atom n) r.negative) u in
    record {
      head_in = and_left (is_atom n r.head) (all (is_atom n) r.positive && all (is_atom n) r.negative) u;
      positive_in = and_left (all (is_atom n) r.positive) (all (is_atom n) r.negative) v;
      negative_in = and_right (all (is_atom n) r.positive) (all (is_atom n) r.negative) v;
    }
