use lib.Seq.{lt-length-set}
use mathlib.Core.Path.{◌∙◌, refl, ap}
use native.Mathlib.Omega.{arith}
use Rattle.std.proofs.lemmas.List.{length_push}
use Rattle.clause_iter.specs.Left.{numbers_left}
use Rattle.clause_iter.proofs.Numbers.{yields_next, yields_end, number_small}
use Rattle.digits.proofs.Wrote.{wrote_after, after_room}
use Rattle.clause_text.proofs.Clause.{turn_bits, part_fits, text_next, sum_fits, end_small, end_fits, line_text_lem}
use Rattle.clause_text.proofs.put_clause.Goals as goal

pub put_literal-to-requires : goal.put_literal-to-requires
put_literal-to-requires c =
    let h = turn_bits c.args.c _ _ (yields_next c.args.c c.into_iter-x-iterator.result (ap numbers_left c.into_iter-x-iterator.ensures.into_iter_gives ∙ c.of-x-items.ensures) c.loop-x.yielded c.loop-x.x-iterator c.next.new.self c.loop-x.yielded_by c.in-Some.x c.in-Some.is c.next.ensures.steps) in
    (number_small c.args.c _ _ h, after_room c.loop-x.invariant _ (part_fits c.args.c c.args.buf.now c.requires _ _ h))

pub overflow_add-to : goal.overflow_add-to
overflow_add-to c =
    let h = turn_bits c.args.c _ _ (yields_next c.args.c c.into_iter-x-iterator.result (ap numbers_left c.into_iter-x-iterator.ensures.into_iter_gives ∙ c.of-x-items.ensures) c.loop-x.yielded c.loop-x.x-iterator c.next.new.self c.loop-x.yielded_by c.in-Some.x c.in-Some.is c.next.ensures.steps) in
    omega (arith, sum_fits c.args.c c.args.buf.now c.requires _ _ h c.loop-x.invariant.count c.put_literal-to.ensures.count)

pub loop-x-preserved : goal.loop-x-preserved
loop-x-preserved c =
    let h = turn_bits c.args.c _ _ (yields_next c.args.c c.into_iter-x-iterator.result (ap numbers_left c.into_iter-x-iterator.ensures.into_iter_gives ∙ c.of-x-items.ensures) c.loop-x.yielded c.loop-x.x-iterator c.next.new.self c.loop-x.yielded_by c.in-Some.x c.in-Some.is c.next.ensures.steps) in
    text_next c.args.c c.args.buf.now c.requires _ _ h (length_push c.loop-x.yielded c.in-Some.x) (wrote_after c.loop-x.invariant _ c.put_literal-to.ensures)

pub bounds-buf-to : goal.bounds-buf-to
bounds-buf-to c =
    let n = yields_end c.args.c c.into_iter-x-iterator.result (ap numbers_left c.into_iter-x-iterator.ensures.into_iter_gives ∙ c.of-x-items.ensures) c.loop-x.yielded c.loop-x.x-iterator c.next.new.self c.loop-x.yielded_by c.in-None.is c.next.ensures.steps in
    omega (arith, end_fits c.args.c c.args.buf.now c.requires n c.loop-x.invariant)

pub overflow_add-buf : goal.overflow_add-buf
overflow_add-buf c =
    let n = yields_end c.args.c c.into_iter-x-iterator.result (ap numbers_left c.into_iter-x-iterator.ensures.into_iter_gives ∙ c.of-x-items.ensures) c.loop-x.yielded c.loop-x.x-iterator c.next.new.self c.loop-x.yielded_by c.in-None.is c.next.ensures.steps in
    omega (arith, end_small c.args.c c.args.buf.now c.requires n c.loop-x.invariant)

pub bounds-buf-to-2 : goal.bounds-buf-to-2
bounds-buf-to-2 c =
    let n = yields_end c.args.c c.into_iter-x-iterator.result (ap numbers_left c.into_iter-x-iterator.ensures.into_iter_gives ∙ c.of-x-items.ensures) c.loop-x.yielded c.loop-x.x-iterator c.next.new.self c.loop-x.yielded_by c.in-None.is c.next.ensures.steps in
    lt-length-set c.loop-x.buf c.loop-x.to _ (omega (arith, end_fits c.args.c c.args.buf.now c.requires n c.loop-x.invariant))

pub overflow_add-result : goal.overflow_add-result
overflow_add-result c =
    let n = yields_end c.args.c c.into_iter-x-iterator.result (ap numbers_left c.into_iter-x-iterator.ensures.into_iter_gives ∙ c.of-x-items.ensures) c.loop-x.yielded c.loop-x.x-iterator c.next.new.self c.loop-x.yielded_by c.in-None.is c.next.ensures.steps in
    omega (arith, end_small c.args.c c.args.buf.now c.requires n c.loop-x.invariant)

pub returns : goal.returns
returns c =
    let n = yields_end c.args.c c.into_iter-x-iterator.result (ap numbers_left c.into_iter-x-iterator.ensures.into_iter_gives ∙ c.of-x-items.ensures) c.loop-x.yielded c.loop-x.x-iterator c.next.new.self c.loop-x.yielded_by c.in-None.is c.next.ensures.steps in
    line_text_lem c.args.c c.args.buf.now c.requires n c.loop-x.invariant _ _ refl refl
