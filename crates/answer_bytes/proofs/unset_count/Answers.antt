use Rattle.answer_bytes.proofs.Turns.{unset_is}
use Rattle.std.proofs.lemmas.Iterator.{YieldsList-from_slice}
use Rattle.std.proofs.lemmas.Iterator.Consumers.{count_from_yields_List, YieldsList-from_filter}
use Rattle.std.proofs.Common.{rules, tests}
use mathlib.Core.Path.{◌∙◌}
use Rattle.answer_bytes.proofs.unset_count.Goals as goal

pub returns : goal.returns
returns c = count_from_yields_List c.filter.result _ c.count.ensures.ran (YieldsList-from_filter _ _ (YieldsList-from_slice c.args.values.now cc) c.filter.ensures.closure (λ x b q k. search (rules, tests))) ∙ unset_is c.args.values.now
