use native.Mathlib.Omega.{arith}
use Rattle.clause_finding.proofs.Located.{found_at, found_fits, first_place, placed}
use Rattle.clause_table_laws.proofs.Cells.{arrays}
use Rattle.clause_finding.proofs.place_of.Goals as goal

pub returns-then-j-eq0 : goal.returns-then-j-eq0
returns-then-j-eq0 c = first_place _ c.args.j c.if-j-eq0.true c.start.ensures

pub find_item-a-requires : goal.find_item-a-requires
find_item-a-requires c = (c.find_group-g.ensures.at.some, c.find_group-g.ensures.at.within, c.find_group-g.ensures.inside)

pub find_block-i-requires : goal.find_block-i-requires
find_block-i-requires c = (c.find_group-g.ensures.at.some, c.find_group-g.ensures.at.within, c.find_item-a.ensures.at.some, c.find_item-a.ensures.at.within, c.find_item-a.ensures.inside)

pub overflow_cast-clause : goal.overflow_cast-clause
overflow_cast-clause c = omega (arith, found_fits _ c.find_group-g.ensures c.find_item-a.ensures c.find_block-i.ensures (arrays c.args.table.ready).limits)

pub overflow_add-clause : goal.overflow_add-clause
overflow_add-clause c = omega (arith, found_fits _ c.find_group-g.ensures c.find_item-a.ensures c.find_block-i.ensures (arrays c.args.table.ready).limits)

pub invariant_of-block : goal.invariant_of-block
invariant_of-block c = record { stands = (found_at _ c.find_group-g.ensures c.find_item-a.ensures c.find_block-i.ensures).block_at }

pub invariant_of-clause : goal.invariant_of-clause
invariant_of-clause c = record { stands = found_at _ c.find_group-g.ensures c.find_item-a.ensures c.find_block-i.ensures }

pub returns : goal.returns
returns c = placed _ c.args.j c.if-j-eq0.false c.find_group-g.ensures c.find_item-a.ensures c.find_block-i.ensures c.coordinates_of.ensures
