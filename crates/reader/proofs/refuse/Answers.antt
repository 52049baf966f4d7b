use Rattle.reader.specs.Verdict.{refuse_of}
use Rattle.reader.proofs.refuse.Goals as goal

pub returns : goal.returns
unfolding refuse_of
returns c = rw c.empty.ensures
