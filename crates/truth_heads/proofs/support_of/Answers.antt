use Rattle.truth_heads.proofs.SupportLaws.{place_is, numbered_so, met, none_met, fewer, at_rule, visited_first, visited_next, visited_less, visited_all, atom_fits, rule_fits_lem, atom_in, rule_in_lem, rule_named, from_none, from_rule}
use Rattle.truth_literals.specs.Values.{value_in}
use Rattle.clause_tables.specs.Tables.{code_in}
use Rattle.clause_walk.specs.Walk.{heads_of}
use Rattle.encoding.specs.Code.{code_sizes}
use Rattle.clause_slots.specs.SlotNumber.{is_founds}
use Rattle.truth_heads.proofs.support_of.Goals as goal

pub first_rule-rule-requires : goal.first_rule-rule-requires
first_rule-rule-requires c = (c.requires.0, atom_fits c.args.valued.table.ready c.requires.1)

pub loop-rule-init : goal.loop-rule-init
loop-rule-init c =
    record {
      numbered = numbered_so _ _ c.first_rule-rule.ensures;
      visited = visited_first (value_in c.args.valued.values.now) (code_sizes (code_in c.args.valued.table.cells.now)) (heads_of (code_in c.args.valued.table.cells.now)) c.args.a.0 (is_founds c.args.which) (from_none c.args.valued.table.ready c.args.a.0 c.requires.0 c.requires.1 (place_is _ _ c.first_rule-rule.ensures));
    }

pub of-x-requires : goal.of-x-requires
of-x-requires c =
    let v = at_rule (value_in c.args.valued.values.now) (code_sizes (code_in c.args.valued.table.cells.now)) (heads_of (code_in c.args.valued.table.cells.now)) c.args.a.0 (is_founds c.args.which) c.in-Some.is c.loop-rule.invariant.visited in
    rule_fits_lem c.args.valued.table.ready c.in-Some.r.0 v.within

pub stands-requires : goal.stands-requires
stands-requires c = atom_in c.args.valued.table.ready c.from.ensures c.requires.0 c.requires.1 c.args.valued.long

pub stands-requires-in-Some : goal.stands-requires-in-Some
stands-requires-in-Some c =
    let v = at_rule (value_in c.args.valued.values.now) (code_sizes (code_in c.args.valued.table.cells.now)) (heads_of (code_in c.args.valued.table.cells.now)) c.args.a.0 (is_founds c.args.which) c.in-Some.is c.loop-rule.invariant.visited in
    let p = met c.in-Some.is c.loop-rule.invariant.numbered in
    rule_in_lem c.args.valued.table.ready c.totals-s.ensures (is_founds c.args.which) c.in-Some.r.0 c.of-x.ensures p v.within c.args.valued.long

pub stands-some-requires : goal.stands-some-requires
stands-some-requires c =
    let v = at_rule (value_in c.args.valued.values.now) (code_sizes (code_in c.args.valued.table.cells.now)) (heads_of (code_in c.args.valued.table.cells.now)) c.args.a.0 (is_founds c.args.which) c.in-Some.is c.loop-rule.invariant.visited in
    let p = met c.in-Some.is c.loop-rule.invariant.numbered in
    rule_in_lem c.args.valued.table.ready c.totals-s.ensures (is_founds c.args.which) c.in-Some.r.0 c.of-x.ensures p v.within c.args.valued.long

pub next_rule-rule-requires : goal.next_rule-rule-requires
next_rule-rule-requires c =
    let v = at_rule (value_in c.args.valued.values.now) (code_sizes (code_in c.args.valued.table.cells.now)) (heads_of (code_in c.args.valued.table.cells.now)) c.args.a.0 (is_founds c.args.which) c.in-Some.is c.loop-rule.invariant.visited in
    let p = met c.in-Some.is c.loop-rule.invariant.numbered in
    (p, rule_fits_lem c.args.valued.table.ready c.in-Some.r.0 v.within)

pub loop-rule-smaller : goal.loop-rule-smaller
loop-rule-smaller c =
    let v = at_rule (value_in c.args.valued.values.now) (code_sizes (code_in c.args.valued.table.cells.now)) (heads_of (code_in c.args.valued.table.cells.now)) c.args.a.0 (is_founds c.args.which) c.in-Some.is c.loop-rule.invariant.visited in
    let p = met c.in-Some.is c.loop-rule.invariant.numbered in
    fewer (heads_of (code_in c.args.valued.table.cells.now)) c.in-Some.is (visited_less (value_in c.args.valued.values.now) (code_sizes (code_in c.args.valued.table.cells.now)) (heads_of (code_in c.args.valued.table.cells.now)) c.args.a.0 (is_founds c.args.which) v p (from_rule c.args.valued.table.ready c.in-Some.r.0 v.within c.args.a.0 p (v.head_is p) (place_is _ _ c.next_rule-rule.ensures)))

pub loop-rule-preserved : goal.loop-rule-preserved
loop-rule-preserved c =
    let v = at_rule (value_in c.args.valued.values.now) (code_sizes (code_in c.args.valued.table.cells.now)) (heads_of (code_in c.args.valued.table.cells.now)) c.args.a.0 (is_founds c.args.which) c.in-Some.is c.loop-rule.invariant.visited in
    let p = met c.in-Some.is c.loop-rule.invariant.numbered in
    record {
      numbered = numbered_so _ _ c.next_rule-rule.ensures;
      visited = visited_next (value_in c.args.valued.values.now) (code_sizes (code_in c.args.valued.table.cells.now)) (heads_of (code_in c.args.valued.table.cells.now)) c.args.a.0 (is_founds c.args.which) v p (from_rule c.args.valued.table.ready c.in-Some.r.0 v.within c.args.a.0 p (v.head_is p) (place_is _ _ c.next_rule-rule.ensures)) c.from.ensures (rule_named c.args.valued.table.ready c.totals-s.ensures (is_founds c.args.which) c.in-Some.r.0 c.of-x.ensures) c.stands.ensures c.stands-in-Some.ensures c.stands-some.ensures;
    }

pub returns : goal.returns
returns c = visited_all (value_in c.args.valued.values.now) (code_sizes (code_in c.args.valued.table.cells.now)) (heads_of (code_in c.args.valued.table.cells.now)) c.args.a.0 (is_founds c.args.which) c.loop-rule.invariant.visited (none_met c.in_default.is)
