use Rattle.checker_model.proofs.Assumed.{shown_room}
use Rattle.checker_model.specs.Model.{assumed_text, model_text}
use Rattle.digits.proofs.Wrote.{room_front, after_room}
use lib.ListN.{length}
use Rattle.checker_model.proofs.ModelBytes.put_shown_model.Goals as goal

pub put_assumed-to-requires : goal.put_assumed-to-requires
put_assumed-to-requires c = room_front (assumed_text c.args.assumed) (model_text (length c.args.self.atoms.now) c.args.self.atoms.now c.args.self.levels.now) (shown_room (length c.args.self.atoms.now) c.args.assumed c.args.self.atoms.now c.args.self.levels.now c.requires.0 c.bytes_small.ensures c.ranges.assumed.fits c.requires.1)

pub put_model-requires : goal.put_model-requires
put_model-requires c = (after_room c.put_assumed-to.ensures (model_text (length c.args.self.atoms.now) c.args.self.atoms.now c.args.self.levels.now) (shown_room (length c.args.self.atoms.now) c.args.assumed c.args.self.atoms.now c.args.self.levels.now c.requires.0 c.bytes_small.ensures c.ranges.assumed.fits c.requires.1))
