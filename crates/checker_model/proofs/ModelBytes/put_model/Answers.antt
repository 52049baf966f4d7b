use Rattle.checker_model.proofs.Parts.{model_parts}
use Rattle.checker_model.specs.Model.{true_atom_list, numbers_text, levels_text}
use Rattle.digits.proofs.Wrote.{room_as, room_front, wrote_as, wrote_after, after_room}
use Rattle.lists.specs.Ascii.{ascii}
use mathlib.Core.List.{◌++◌}
use lib.ListN.{length}
use Rattle.checker_model.proofs.ModelBytes.put_model.Goals as goal

pub put_atoms-to-requires : goal.put_atoms-to-requires
put_atoms-to-requires c = (room_front (ascii "(model (" ++ (numbers_text (true_atom_list (length c.args.self.atoms.now) c.args.self.atoms.now))) ((ascii ") (" ++ (levels_text (length c.args.self.atoms.now) c.args.self.atoms.now c.args.self.levels.now)) ++ ascii "))\n") (room_as (model_parts (length c.args.self.atoms.now) c.args.self.atoms.now c.args.self.levels.now) c.requires))

pub put_levels_closed-requires : goal.put_levels_closed-requires
put_levels_closed-requires c = (after_room c.put_atoms-to.ensures ((ascii ") (" ++ (levels_text (length c.args.self.atoms.now) c.args.self.atoms.now c.args.self.levels.now)) ++ ascii "))\n") (room_as (model_parts (length c.args.self.atoms.now) c.args.self.atoms.now c.args.self.levels.now) c.requires))

pub returns : goal.returns
returns c = wrote_as (model_parts (length c.args.self.atoms.now) c.args.self.atoms.now c.args.self.levels.now) (wrote_after c.put_atoms-to.ensures ((ascii ") (" ++ (levels_text (length c.args.self.atoms.now) c.args.self.atoms.now c.args.self.levels.now)) ++ ascii "))\n") c.put_levels_closed.ensures)
