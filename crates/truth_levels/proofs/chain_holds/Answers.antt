use Rattle.truth_levels.proofs.ChainLaws.{bit_first, bit_further, chain_first_lem, chain_more, chain_all}
use Rattle.truth_literals.specs.Values.{value_in}
use Rattle.truth_levels.proofs.chain_holds.Goals as goal

pub first_bit_holds-ok-requires : goal.first_bit_holds-ok-requires
first_bit_holds-ok-requires c = let s = c.args in bit_first s.assignment.now s.w s.z.0 s.x.0 s.y.0 c.requires c.chain_bit.ensures

pub loop-i-init : goal.loop-i-init
loop-i-init c = let s = c.args in chain_first_lem (value_in s.assignment.now) s.z.0 s.x.0 s.y.0 c.chain_bit.ensures c.first_bit_holds-ok.ensures

pub next_bit_holds-ok-requires : goal.next_bit_holds-ok-requires
next_bit_holds-ok-requires c = let s = c.args in
    bit_further s.assignment.now s.w s.z.0 s.x.0 s.y.0 c.requires c.loop-i.i c.loop-i.auto.i c.loop-i-test.true c.chain_bit-in-loop-i.ensures

pub loop-i-preserved : goal.loop-i-preserved
loop-i-preserved c = let s = c.args in
    chain_more (value_in s.assignment.now) s.z.0 s.x.0 s.y.0 c.loop-i.i c.loop-i.auto.i c.chain_bit-in-loop-i.ensures c.loop-i.invariant
    c.next_bit_holds-ok.ensures

pub returns : goal.returns
returns c = let s = c.args in
    chain_all (value_in s.assignment.now) s.z.0 s.x.0 s.y.0 c.loop-i.i c.loop-i.invariant (c.loop-i.auto.i-end c.requires.0) c.loop-i-test.false
