use Rattle.std.proofs.Common.{rules}
use native.Mathlib.Omega.{arith}
use mathlib.Core.Path.{◌≡◌, subst}
use Prim.Native.Nat.{ℕ, ◌≤◌}
use lib.ListN.{length}
use Rattle.clause_tables.specs.Tables.{code_in, atoms_in}
use Rattle.digits.proofs.Wrote.{room_as, wrote_as}
use Rattle.level_fill.proofs.Families.{levels_family}
use Rattle.level_fill.specs.Values.{family_of}
use Rattle.level_fill.proofs.put_family.Goals as goal

pub put_level_values-requires : goal.put_level_values-requires
put_level_values-requires c =
    let n : c.from-n.result ≡ atoms_in c.args.set.table.cells.now = search rules in
    let w : c.from-w.result ≡ (code_in c.args.set.table.cells.now).w = search rules in
    (omega arith, room_as (levels_family c.args.levels.now 0 n w c.requires.2) (subst (λ (k : ℕ). length (family_of c.args.set c.args.levels.now k) ≤ length c.args.buf.now) c.in-4.is c.requires.3))

pub put_level_values-requires-in-5 : goal.put_level_values-requires-in-5
put_level_values-requires-in-5 c =
    let n : c.from-n.result ≡ atoms_in c.args.set.table.cells.now = search rules in
    let w : c.from-w.result ≡ (code_in c.args.set.table.cells.now).w = search rules in
    (omega arith, room_as (levels_family c.args.levels.now 1 n w c.requires.2) (subst (λ (k : ℕ). length (family_of c.args.set c.args.levels.now k) ≤ length c.args.buf.now) c.in-5.is c.requires.3))

pub returns-in-4 : goal.returns-in-4
returns-in-4 c =
    let n : c.from-n.result ≡ atoms_in c.args.set.table.cells.now = search rules in
    let w : c.from-w.result ≡ (code_in c.args.set.table.cells.now).w = search rules in
    rw c.in-4.is (wrote_as (levels_family c.args.levels.now 0 n w c.requires.2) c.put_level_values.ensures)

pub returns-in-5 : goal.returns-in-5
returns-in-5 c =
    let n : c.from-n.result ≡ atoms_in c.args.set.table.cells.now = search rules in
    let w : c.from-w.result ≡ (code_in c.args.set.table.cells.now).w = search rules in
    rw c.in-5.is (wrote_as (levels_family c.args.levels.now 1 n w c.requires.2) c.put_level_values-in-5.ensures)
