use mathlib.Core.Path.{◌∙◌}
use Rattle.reader_fast.proofs.take_rule.Goals as goal

pub returns-then-a-ne-FORM_HEAD-clause-rest : goal.returns-then-a-ne-FORM_HEAD-clause-rest
returns-then-a-ne-FORM_HEAD-clause-rest c = c.take_rule_word-a.ensures _ _ _

pub returns-then-b-ne-FORM_POSITIVE-clause-rest : goal.returns-then-b-ne-FORM_POSITIVE-clause-rest
returns-then-b-ne-FORM_POSITIVE-clause-rest c = c.take_head-b.ensures _ _ ∙ c.take_rule_word-a.ensures _ _ _

pub returns-then-d-ne-FORM_BETWEEN-clause-rest : goal.returns-then-d-ne-FORM_BETWEEN-clause-rest
returns-then-d-ne-FORM_BETWEEN-clause-rest c = c.take_body_atoms-d.ensures _ _ ∙ c.take_empty_list-c.ensures _ _ _ ∙ c.take_head-b.ensures _ _ ∙ c.take_rule_word-a.ensures _ _ _

pub returns-then-e-ne-FORM_NEGATIVE-clause-rest : goal.returns-then-e-ne-FORM_NEGATIVE-clause-rest
returns-then-e-ne-FORM_NEGATIVE-clause-rest c = c.take_separator-e.ensures _ _ ∙ c.take_body_atoms-d.ensures _ _ ∙ c.take_empty_list-c.ensures _ _ _ ∙ c.take_head-b.ensures _ _ ∙ c.take_rule_word-a.ensures _ _ _

pub returns-clause-rest : goal.returns-clause-rest
returns-clause-rest c = c.take_line_end.ensures _ _ ∙ c.take_body_atoms-g.ensures _ _ ∙ c.take_empty_list-f.ensures _ _ _ ∙ c.take_separator-e.ensures _ _ ∙ c.take_body_atoms-d.ensures _ _ ∙ c.take_empty_list-c.ensures _ _ _ ∙ c.take_head-b.ensures _ _ ∙ c.take_rule_word-a.ensures _ _ _
