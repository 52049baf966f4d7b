-- The check's refusal of a literal that is not assigned.
--   refusal_of f  by the fault f: rows 13 and 14
-- Assumes nothing.
use Rattle.refusals.specs.declared.CheckRefusal.{CheckRefusal}
use Rattle.refusals.specs.declared.CheckRefusal.TheVariants.{StrayVariable, RepeatedVariable}
use Rattle.answer_bytes.specs.declared.AssignFault.{AssignFault}
use Rattle.answer_bytes.specs.declared.AssignFault.TheVariants.{Stray, Repeated}

abbrev pub refusal_of : AssignFault → CheckRefusal
refusal_of (Stray s) = StrayVariable s
refusal_of (Repeated s) = RepeatedVariable s
