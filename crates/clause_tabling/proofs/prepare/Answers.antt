use native.Mathlib.Omega.{arith}
use mathlib.Core.Path.{◌∙◌}
use Rattle.clause_tabling.proofs.Held.{heads_held}
use Rattle.clause_tabling.proofs.Links.{links_asked, links_made}
use Rattle.clause_tabling.proofs.Laid.{arrays_fit, arrays_laid}
use Rattle.clause_tabling.proofs.Totals.{counts_bounded, totals_made, table_made}
use Rattle.clause_tabling.proofs.prepare.Goals as goal

pub copy_arrays-requires : goal.copy_arrays-requires
copy_arrays-requires c = arrays_fit _ c.requires.0

pub add_pairs-all-requires : goal.add_pairs-all-requires
add_pairs-all-requires c = (c.requires.0, arrays_laid _ c.requires.0 _ _ c.requires.1 c.copy_arrays.ensures)

pub totals_from-requires : goal.totals_from-requires
totals_from-requires c = counts_bounded _ c.requires.0 _ c.add_pairs-all.ensures.1

pub shared_ref_as_front-heads : goal.shared_ref_as_front-heads
shared_ref_as_front-heads c = omega (arith, c.from.ensures, (heads_held _ c.requires.0).few)

pub add_links-requires : goal.add_links-requires
add_links-requires c = links_asked _ c.requires.0 _ (table_made _ c.requires.0 _ _ _ (c.totals_from.ensures.is ∙ totals_made _ c.requires.0 _ c.add_pairs-all.ensures.1) c.add_pairs-all.ensures.0 c.put_totals.ensures) _ c.from.ensures

pub returns : goal.returns
returns c = links_made _ c.requires.0 _ (table_made _ c.requires.0 _ _ _ (c.totals_from.ensures.is ∙ totals_made _ c.requires.0 _ c.add_pairs-all.ensures.1) c.add_pairs-all.ensures.0 c.put_totals.ensures) _ c.from.ensures _ c.add_links.ensures
