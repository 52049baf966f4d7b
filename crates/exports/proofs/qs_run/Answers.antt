use Rattle.call_replies.specs.Replies.{of_run}
use Rattle.exports.specs.Replies.{run_reply}
use Rattle.exports.proofs.Told.{replied_lines}
use Rattle.exports.proofs.qs_run.Goals as goal

pub returns : goal.returns
unfolding run_reply
returns c = replied_lines of_run c.reply_to.ensures c.run.ensures
