use Rattle.reader_form.proofs.Modes.{at_place, at_space}
use Rattle.reader_words.specs.Standing.{listing_at}
use Rattle.reader_words.proofs.listing.Goals as goal

pub returns-then-eq : goal.returns-then-eq
unfolding listing_at
returns-then-eq c = simp (← c.is_list.ensures, c.if-is_list.true, ← at_place c.args.s.mode, ← c.eq.ensures, c.if-eq.true)

pub returns-else-eq : goal.returns-else-eq
unfolding listing_at
returns-else-eq c = simp (← c.is_list.ensures, c.if-is_list.true, ← at_place c.args.s.mode, ← c.eq.ensures, c.if-eq.false, ← at_space c.args.s.mode) c.eq-else-eq.ensures

pub returns-else-is_list : goal.returns-else-is_list
unfolding listing_at
returns-else-is_list c = simp (← c.is_list.ensures, c.if-is_list.false)
