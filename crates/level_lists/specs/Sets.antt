-- What the bytes beside a table hold, as a set or as levels, and the rule that a number stands for.
--   atoms_of s   how many atoms the table has
--   code_of s    the code that the table holds
--   set_of s     the atoms whose byte is not 0
--   levels_of s  the byte of each atom, as its level
--   rule_of r    the rule
-- Assumes nothing.
use Rattle.std.specs.Prelude.{ℕ}
use Rattle.meaning.specs.Program.{Rule, Atoms}
use Rattle.encoding.specs.Code.{Code, rl}
use Rattle.clause_tables.specs.Tables.{atoms_in}
use Rattle.clause_cells.specs.Held.{table_code}
use Rattle.level_lists.specs.Bytes.{set_in, level_byte}
use Rattle.level_lists.specs.declared.AtomBytes.{AtomBytes}
use Rattle.level_lists.specs.declared.RuleOver.{RuleOver}

abbrev pub atoms_of : AtomBytes → ℕ
atoms_of s = atoms_in s.table.cells.now

abbrev pub code_of : AtomBytes → Code
code_of s = table_code s.table

abbrev pub set_of : AtomBytes → Atoms
set_of s = set_in (atoms_of s) s.bytes.now

abbrev pub levels_of : AtomBytes → ℕ → ℕ
levels_of s = level_byte s.bytes.now

abbrev pub rule_of : RuleOver → Rule
rule_of r = rl (code_of r.atoms) r.rule.0
