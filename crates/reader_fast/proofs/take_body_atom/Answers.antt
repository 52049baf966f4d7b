use mathlib.Core.Path.{sym, ◌∙◌}
use native.Mathlib.Omega.{arith}
use Rattle.reader_words.proofs.Digits.{short_number_in}
use Rattle.reader_fast.proofs.Pieces.{listing_below, room_left, space_goes, bracket_goes}
use Rattle.reader_fast.proofs.take_body_atom.Goals as goal
use Rattle.reader_fast.proofs.take_body_atom.Goals.{in-32, in-41}

pub overflow_add-to : goal.overflow_add-to
overflow_add-to c = omega (arith, short_number_in _ _ _ (sym c.in-Some.is ∙ c.short_number_at.ensures))

pub bounds-text-to : goal.bounds-text-to
bounds-text-to c = short_number_in _ _ _ (sym c.in-Some.is ∙ c.short_number_at.ensures)

pub overflow_add-k : goal.overflow_add-k
overflow_add-k c = omega (arith, listing_below _ _ c.listing.ensures c.if-not-listing.false)

pub put_body-requires : goal.put_body-requires
put_body-requires c = omega (arith, c.from.ensures, room_left _ _ _ c.fits.ensures c.if-not-fits.false)

pub added-requires : goal.added-requires
added-requires c = room_left _ _ _ c.fits.ensures c.if-not-fits.false

pub returns : goal.returns
returns c =
    elim c.match-text-to.branch [
      | in-32 w ↦
          space_goes _ _ _ _ _ c.listing.ensures c.if-not-listing.false (sym c.in-Some.is ∙ c.short_number_at.ensures) c.fits.ensures c.if-not-fits.false _ _ _ c.from.ensures c.put_body.ensures _ w.in-32.is
          (simp w.k-is at c.added.ensures)
      | in-41 w ↦
          bracket_goes _ _ _ _ _ c.listing.ensures c.if-not-listing.false (sym c.in-Some.is ∙ c.short_number_at.ensures) c.fits.ensures c.if-not-fits.false _ _ _ c.from.ensures c.put_body.ensures _ w.in-41.is
          (simp w.k-is at c.added.ensures)
    ]
