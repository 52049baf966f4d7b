use Rattle.call_replies.specs.Replies.{of_fill}
use Rattle.exports.specs.Replies.{fill_reply}
use Rattle.exports.proofs.Told.{replied}
use Rattle.exports.proofs.qs_fill.Goals as goal

pub returns : goal.returns
unfolding fill_reply
returns c = replied of_fill c.reply_to.ensures c.fill_out.ensures
