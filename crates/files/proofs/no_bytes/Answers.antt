use mathlib.Core.Path.{refl}
use mathlib.Core.List.{[]}
use Rattle.files.proofs.Count.{none_read}
use Rattle.files.proofs.no_bytes.Goals as goal

pub returns : goal.returns
returns c = (refl, (none_read []).1)
