use Rattle.numbers.proofs.Found.{found_is, found_some, found_none}
use Rattle.clause_table_laws.proofs.Cells.{arrays}
use Rattle.clause_tables.specs.declared.Totals.{Totals}
use Rattle.encoding.specs.Variables.{Sizes}
use Rattle.clause_tables.specs.Tables.{atoms_in, vars_in}
use Rattle.level_stages.proofs.Scans.{difference_taken, taken_even}
use Rattle.call_results.proofs.Counting.{count_taken, highest_taken}
use Rattle.call_fill_rows.proofs.Steps.{found_room, founded_refused, founded_accepted, filled_room}
use mathlib.Core.Path.{◌≡◌, ◌∙◌, sym, ap}
use native.Mathlib.Omega.{arith}
use Prim.Native.Nat.{ℕ, ◌≤◌}
use lib.Seq.{length-take-le}
use lib.ListN.{length, take, drop}
use Rattle.digits.proofs.Wrote.{wrote_as}
use Rattle.call_fill_found.proofs.fill_found.Goals as goal

pub slice_bounds-first_difference-end-2 : goal.slice_bounds-first_difference-end-2
slice_bounds-first_difference-end-2 c =
    let e : c.from-n.result ≡ atoms_in c.args.set.table.cells.now = c.from-n.ensures ∙ ap (λ (s : Sizes). s.n) c.s.view_is ∙ ap (λ (t : Totals). t.sizes.n) c.totals-s.ensures in
    let f : atoms_in c.args.set.table.cells.now ≤ length c.args.found.now = found_room (arrays c.args.set.table.ready) c.args.set.bytes.now c.args.assignment.now c.args.levels.now (drop (atoms_in c.args.set.table.cells.now) c.args.found.now) c.requires.0 in
    sym (length-take-le c.from-n.result c.args.found.now (omega (arith, e, f)))

pub first_difference-requires : goal.first_difference-requires
first_difference-requires c =
    let e : c.from-n.result ≡ atoms_in c.args.set.table.cells.now = c.from-n.ensures ∙ ap (λ (s : Sizes). s.n) c.s.view_is ∙ ap (λ (t : Totals). t.sizes.n) c.totals-s.ensures in
    let f : atoms_in c.args.set.table.cells.now ≤ length c.args.found.now = found_room (arrays c.args.set.table.ready) c.args.set.bytes.now c.args.assignment.now c.args.levels.now (drop (atoms_in c.args.set.table.cells.now) c.args.found.now) c.requires.0 in
    taken_even (atoms_in c.args.set.table.cells.now) c.args.set.bytes.now c.args.found.now e c.args.set.long f

pub returns-in-Some : goal.returns-in-Some
returns-in-Some c =
    let e : c.from-n.result ≡ atoms_in c.args.set.table.cells.now = c.from-n.ensures ∙ ap (λ (s : Sizes). s.n) c.s.view_is ∙ ap (λ (t : Totals). t.sizes.n) c.totals-s.ensures in
    let f : atoms_in c.args.set.table.cells.now ≤ length c.args.found.now = found_room (arrays c.args.set.table.ready) c.args.set.bytes.now c.args.assignment.now c.args.levels.now (drop (atoms_in c.args.set.table.cells.now) c.args.found.now) c.requires.0 in
    founded_refused (arrays c.args.set.table.ready) c.args.set.bytes.now c.args.assignment.now c.args.levels.now (drop (atoms_in c.args.set.table.cells.now) c.args.found.now) c.requires.0 (found_is _ c.in-Some.ensures ∙ difference_taken (atoms_in c.args.set.table.cells.now) c.args.set.bytes.now c.args.found.now e c.args.set.long f) (found_some _ c.in-Some.ensures)

pub slice_bounds-put_word-end : goal.slice_bounds-put_word-end
slice_bounds-put_word-end c =
    let e : c.from-n.result ≡ atoms_in c.args.set.table.cells.now = c.from-n.ensures ∙ ap (λ (s : Sizes). s.n) c.s.view_is ∙ ap (λ (t : Totals). t.sizes.n) c.totals-s.ensures in
    let f : atoms_in c.args.set.table.cells.now ≤ length c.args.found.now = found_room (arrays c.args.set.table.ready) c.args.set.bytes.now c.args.assignment.now c.args.levels.now (drop (atoms_in c.args.set.table.cells.now) c.args.found.now) c.requires.0 in
    sym (length-take-le c.from-n.result c.args.found.now (omega (arith, e, f)))

pub slice_bounds-true_count-end : goal.slice_bounds-true_count-end
slice_bounds-true_count-end c =
    let e : c.from-n.result ≡ atoms_in c.args.set.table.cells.now = c.from-n.ensures ∙ ap (λ (s : Sizes). s.n) c.s.view_is ∙ ap (λ (t : Totals). t.sizes.n) c.totals-s.ensures in
    let h : atoms_in c.args.set.table.cells.now ≤ length c.put_filled.new.assignment = filled_room (arrays c.args.set.table.ready) c.args.set.bytes.now c.args.assignment.now c.args.levels.now (drop (vars_in c.args.set.table.cells.now) c.args.assignment.now) c.put_filled.ensures in
    omega (arith, e, h)

pub slice_bounds-true_count-end-2 : goal.slice_bounds-true_count-end-2
slice_bounds-true_count-end-2 c =
    let e : c.from-n.result ≡ atoms_in c.args.set.table.cells.now = c.from-n.ensures ∙ ap (λ (s : Sizes). s.n) c.s.view_is ∙ ap (λ (t : Totals). t.sizes.n) c.totals-s.ensures in
    let h : atoms_in c.args.set.table.cells.now ≤ length c.put_filled.new.assignment = filled_room (arrays c.args.set.table.ready) c.args.set.bytes.now c.args.assignment.now c.args.levels.now (drop (vars_in c.args.set.table.cells.now) c.args.assignment.now) c.put_filled.ensures in
    sym (length-take-le c.from-n.result c.put_filled.new.assignment (omega (arith, e, h)))

pub returns : goal.returns
returns c =
    let e : c.from-n.result ≡ atoms_in c.args.set.table.cells.now = c.from-n.ensures ∙ ap (λ (s : Sizes). s.n) c.s.view_is ∙ ap (λ (t : Totals). t.sizes.n) c.totals-s.ensures in
    let f : atoms_in c.args.set.table.cells.now ≤ length c.args.found.now = found_room (arrays c.args.set.table.ready) c.args.set.bytes.now c.args.assignment.now c.args.levels.now (drop (atoms_in c.args.set.table.cells.now) c.args.found.now) c.requires.0 in
    let h : atoms_in c.args.set.table.cells.now ≤ length c.put_filled.new.assignment = filled_room (arrays c.args.set.table.ready) c.args.set.bytes.now c.args.assignment.now c.args.levels.now (drop (vars_in c.args.set.table.cells.now) c.args.assignment.now) c.put_filled.ensures in
    let g : atoms_in c.args.set.table.cells.now ≤ length c.put_word.new.buf = omega (arith, c.requires.2, c.put_word.auto.buf) in
    founded_accepted (arrays c.args.set.table.ready) c.args.set.bytes.now c.args.assignment.now c.args.levels.now (drop (atoms_in c.args.set.table.cells.now) c.args.found.now) c.requires.0 (found_none _ c.in_default.ensures ∙ difference_taken (atoms_in c.args.set.table.cells.now) c.args.set.bytes.now c.args.found.now e c.args.set.long f) (omega arith) c.put_filled.ensures (wrote_as (ap (λ (k : ℕ). take k c.args.found.now) e) c.put_word.ensures)
    (c.true_count.ensures ∙ count_taken (atoms_in c.args.set.table.cells.now) c.put_filled.new.assignment e h) (c.highest_of.ensures ∙ highest_taken (atoms_in c.args.set.table.cells.now) c.put_word.new.buf e g)
