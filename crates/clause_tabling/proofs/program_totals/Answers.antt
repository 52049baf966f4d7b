use Rattle.clause_tabling.proofs.program_totals.Goals as goal

pub totals_of-requires : goal.totals_of-requires
totals_of-requires c = record { heads = c.args.p.now.heads; bodies = c.args.p.now.bodies; stored = c.requires }

pub returns : goal.returns
returns c = c.totals_of.ensures _ _ c.requires
