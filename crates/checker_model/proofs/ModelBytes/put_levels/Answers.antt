use Rattle.checker_model.specs.Model.{levels_text}
use Rattle.checker_model.proofs.Listed.{levels_are}
use Rattle.digits.proofs.Wrote.{room_as, room_front, wrote_as, wrote_after, after_room, after_sum}
use Rattle.level_lists.specs.Bytes.{level_byte}
use Rattle.lists.specs.Ascii.{ascii}
use native.Mathlib.Omega.{arith}
use borrow.Author.Rules.{rules}
use lib.ListN.{length, get_or}
use native.Mathlib.Numerals.{sub-one}
use Prim.Native.Nat.{ℕ, ◌-◌}
use mathlib.Core.Path.{◌≡◌, ◌∙◌, ap}
use Rattle.checker_model.proofs.ModelBytes.put_levels.Goals as goal

pub put_word-to-requires : goal.put_word-to-requires
unfolding ascii
put_word-to-requires c = room_front (ascii ") (") (levels_text (length c.args.self.atoms.now) c.args.self.atoms.now c.args.self.levels.now) c.requires

pub put_of_true-requires : goal.put_of_true-requires
unfolding ascii
put_of_true-requires c = (
  (λ k p h. (p, omega (arith, h, c.args.self.even))),
  record {
    number = level_byte c.args.self.levels.now;
    by = λ k x p h q. let e : x ≡ get_or c.args.self.levels.now (k - 1) 0 = search rules in e ∙ ap (λ (i : ℕ). get_or c.args.self.levels.now i 0) (sub-one k);
    room = room_as (levels_are c.args.self.levels.now c.args.self.atoms.now (length c.args.self.atoms.now)) (after_room c.put_word-to.ensures (levels_text (length c.args.self.atoms.now) c.args.self.atoms.now c.args.self.levels.now) c.requires);
  },
)

pub overflow_add-result : goal.overflow_add-result
unfolding ascii
overflow_add-result c =
    let levels = wrote_as (levels_are c.args.self.levels.now c.args.self.atoms.now (length c.args.self.atoms.now)) (c.put_of_true.ensures (level_byte c.args.self.levels.now) (λ k x p h q. let e : x ≡ get_or c.args.self.levels.now (k - 1) 0 = search rules in e ∙ ap (λ (i : ℕ). get_or c.args.self.levels.now i 0) (sub-one k))) in
    search (rules, after_sum c.put_word-to.ensures (levels_text (length c.args.self.atoms.now) c.args.self.atoms.now c.args.self.levels.now) c.requires levels.count)

pub returns : goal.returns
unfolding ascii
returns c =
    let levels = wrote_as (levels_are c.args.self.levels.now c.args.self.atoms.now (length c.args.self.atoms.now)) (c.put_of_true.ensures (level_byte c.args.self.levels.now) (λ k x p h q. let e : x ≡ get_or c.args.self.levels.now (k - 1) 0 = search rules in e ∙ ap (λ (i : ℕ). get_or c.args.self.levels.now i 0) (sub-one k))) in
    wrote_after c.put_word-to.ensures (levels_text (length c.args.self.atoms.now) c.args.self.atoms.now c.args.self.levels.now) levels
