use Rattle.clause_table_laws.proofs.Cells.{arrays}
use Rattle.level_stages.proofs.Turns.{headed, unmet, fired}
use Rattle.level_lists.proofs.Rules.{rule_fits_lem, head_fits}
use Rattle.level_stages.proofs.put_rule.Goals as goal
use Rattle.level_stages.proofs.put_rule.Goals.{then-byte_of-ne0-via-then-byte_of-ne0, then-byte_of-ne0-via-else-byte_of-ne0+then-not-enters}

pub head-h-requires : goal.head-h-requires
head-h-requires c = (c.args.r.some, rule_fits_lem (arrays c.args.r.atoms.table.ready) c.args.r.rule.0 c.args.r.some c.args.r.within)

pub byte_of-requires : goal.byte_of-requires
byte_of-requires c = head_fits (arrays c.args.r.atoms.table.ready) c.args.r.rule.0 c.args.r.some c.args.r.within c.args.levels.now c.requires c.head-h.ensures

pub put_byte-requires : goal.put_byte-requires
put_byte-requires c = head_fits (arrays c.args.r.atoms.table.ready) c.args.r.rule.0 c.args.r.some c.args.r.within c.args.levels.now c.requires c.head-h.ensures

pub returns : goal.returns
returns c = fired (arrays c.args.r.atoms.table.ready) c.args.r.atoms.bytes.now c.args.levels.now c.args.i c.args.r.rule.0 c.args.r.some c.args.r.within c.head-h.ensures c.byte_of.ensures c.if-byte_of-ne0.false c.enters.ensures c.if-not-enters.false c.put_byte.ensures

pub returns-then-byte_of-ne0 : goal.returns-then-byte_of-ne0
returns-then-byte_of-ne0 c =
    elim c.then-byte_of-ne0.branch [
      | then-byte_of-ne0-via-then-byte_of-ne0 w ↦ headed (arrays c.args.r.atoms.table.ready) c.args.r.atoms.bytes.now c.args.levels.now c.args.i c.args.r.rule.0 c.args.r.some c.args.r.within c.head-h.ensures c.byte_of.ensures w.if-byte_of-ne0.true
      | then-byte_of-ne0-via-else-byte_of-ne0+then-not-enters w ↦
          unmet (arrays c.args.r.atoms.table.ready) c.args.r.atoms.bytes.now c.args.levels.now c.args.i c.args.r.rule.0 c.args.r.some c.args.r.within c.head-h.ensures c.byte_of.ensures w.if-byte_of-ne0.false w.enters.ensures w.if-not-enters.true
    ]
