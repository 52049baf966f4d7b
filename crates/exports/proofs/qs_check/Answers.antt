use Rattle.call_replies.specs.Replies.{of_check}
use Rattle.exports.specs.Replies.{check_reply}
use Rattle.exports.proofs.Told.{replied}
use Rattle.exports.proofs.qs_check.Goals as goal

pub returns : goal.returns
unfolding check_reply
returns c = replied of_check c.reply_to.ensures c.check.ensures
