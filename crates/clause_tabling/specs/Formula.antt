-- What one rule adds to the number of rules with no positive body atom, document 01's number of clauses and totals over plain numbers, and the counts of a table.
--   when_none k                 1 where k is 0, else 0
--   clauses_for n m w o k e     O + 5m − e + we + 2n + nw(w + 2) + K(12w − 5)
--   tallied n m o t             the totals of n atoms, m rules and o body atoms, by the tally t of all rules
--   counts_of t                 the counts of the table in their order
-- Assumes nothing.
use Rattle.std.specs.Prelude.{ℕ, ◌+◌, ◌-◌, ◌*◌, cond, List, [], ◌∷◌, eqb}
use Rattle.encoding.specs.Width.{width}
use Rattle.encoding.specs.Variables.{var_count}
use Rattle.clause_tables.specs.declared.Totals.{Totals}
use Rattle.clause_tabling.specs.declared.Tally.{Tally}

abbrev pub when_none : ℕ → ℕ
when_none k = cond (eqb k 0) 1 0

abbrev pub clauses_for : ℕ → ℕ → ℕ → ℕ → ℕ → ℕ → ℕ
clauses_for n m w o k e = o + 5 * m - e + w * e + 2 * n + n * w * (w + 2) + k * (12 * w - 5)

abbrev pub tallied : ℕ → ℕ → ℕ → Tally → Totals
tallied n m o t =
    let w = width n in
    record {
      sizes = record { n = n; m = m; w = w };
      pairs = t.pairs;
      vars = var_count (record { n = n; m = m; w = w }) t.pairs;
      clauses = clauses_for n m w o t.pairs t.empty;
    }

abbrev pub counts_of : Totals → List ℕ
counts_of t = t.sizes.n ∷ t.sizes.m ∷ t.sizes.w ∷ t.pairs ∷ t.vars ∷ t.clauses ∷ []
