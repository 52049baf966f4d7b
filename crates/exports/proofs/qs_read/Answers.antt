use Rattle.reader.specs.Verdict.{read_of}
use Rattle.call_replies.specs.Replies.{of_totals, of_verdict}
use Rattle.refusals.specs.Numbers.{text_number, text_spot}
use Rattle.exports.specs.Replies.{read_reply}
use Rattle.exports.proofs.Told.{read_told}
use mathlib.Core.Path.{◌∙◌, ap}
use Rattle.exports.proofs.qs_read.Goals as goal

pub returns : goal.returns
unfolding read_reply
returns c = c.reply_to.ensures ∙ ap (of_verdict of_totals text_number text_spot) c.read_totals.ensures ∙ read_told (read_of c.args.text.now)
