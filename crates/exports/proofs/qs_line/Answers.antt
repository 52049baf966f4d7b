use Rattle.call_replies.specs.Replies.{of_line}
use Rattle.exports.specs.Replies.{line_reply}
use Rattle.exports.proofs.Told.{replied_lines}
use Rattle.exports.proofs.qs_line.Goals as goal

pub returns : goal.returns
unfolding line_reply
returns c = replied_lines of_line c.reply_to.ensures c.line.ensures
