-- The walk gives the clause list, for every code with no open atom and a width above 0.
-- Assumes nothing.
use Prim.Native.Nat.{ℕ, ◌<◌}
use mathlib.Core.Bool.{false}
use mathlib.Core.Path.{◌≡◌, ◌∙◌}
use mathlib.Core.List.{◌++◌, append_assoc, append-nil}
use Rattle.encoding.specs.Code.{Code, clauses_of}
use Rattle.clause_walk.specs.Walk.{walked}
use Rattle.clause_walk.proofs.Blocks.{is_group1, is_group2, is_group3, is_group7}
use Rattle.clause_walk.proofs.Bits.{is_group4, is_group5}
use Rattle.clause_walk.proofs.Lowest.{is_group6}

pub walked_clauses : (G : Code) → 0 < G.w → ((a : ℕ) → G.opened a ≡ false) → walked G ≡ clauses_of G
unfolding walked clauses_of
walked_clauses G p f =
    (λ t. (((((is_group1 G t ++ is_group2 G f t) ++ is_group3 G t) ++ is_group4 G t) ++ is_group5 G t) ++ is_group6 G p t) ++ is_group7 G f t)
    ∙ simp (append_assoc, append-nil)
