use Prim.Native.Nat.{ℕ}
use Rattle.checker_model.specs.Model.{true_atom_list, numbers_text}
use Rattle.digits.proofs.Wrote.{room_front, wrote_after, after_room, after_sum}
use Rattle.lists.specs.Ascii.{ascii}
use borrow.Author.Rules.{rules}
use lib.ListN.{length}
use Rattle.checker_model.proofs.ModelBytes.put_atoms.Goals as goal

pub put_word-to-requires : goal.put_word-to-requires
unfolding ascii
put_word-to-requires c = room_front (ascii "(model (") (numbers_text (true_atom_list (length c.args.self.atoms.now) c.args.self.atoms.now)) c.requires

pub put_of_true-requires : goal.put_of_true-requires
unfolding ascii
put_of_true-requires c = (
  search rules,
  record {
    number = λ (a : ℕ). a;
    by = λ k x p h q. search rules;
    room = after_room c.put_word-to.ensures (numbers_text (true_atom_list (length c.args.self.atoms.now) c.args.self.atoms.now)) c.requires;
  },
)

pub overflow_add-result : goal.overflow_add-result
unfolding ascii
overflow_add-result c =
    let atoms = c.put_of_true.ensures (λ (a : ℕ). a) (λ k x p h q. search rules) in
    search (rules, after_sum c.put_word-to.ensures (numbers_text (true_atom_list (length c.args.self.atoms.now) c.args.self.atoms.now)) c.requires atoms.count)

pub returns : goal.returns
unfolding ascii
returns c =
    let atoms = c.put_of_true.ensures (λ (a : ℕ). a) (λ k x p h q. search rules) in
    wrote_after c.put_word-to.ensures (numbers_text (true_atom_list (length c.args.self.atoms.now) c.args.self.atoms.now)) atoms
