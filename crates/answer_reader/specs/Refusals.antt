-- The check's refusal of an answer that offers no model.
--   refusal_of f  by the fault f: rows 11 and 12
-- Assumes nothing.
use Rattle.refusals.specs.declared.CheckRefusal.{CheckRefusal}
use Rattle.refusals.specs.declared.CheckRefusal.TheVariants.{MalformedAnswer, NoModelOffered}
use Rattle.answer_reader.specs.declared.AnswerFault.{AnswerFault}
use Rattle.answer_reader.specs.declared.AnswerFault.TheVariants.{NoModel, Malformed}

abbrev pub refusal_of : AnswerFault → CheckRefusal
refusal_of NoModel = NoModelOffered
refusal_of (Malformed s) = MalformedAnswer s
