-- The table before and after the rules of each atom are linked.
--   Unlinked m hs t      the first m of hs are heads of rules, and the cells of t for links are all 0
--   link_one r a t       t with rule r as the first one of atom a, and the one that was the first as the next after r
--   linked hs t          t with the first rule of each atom and the next rule of each rule, where hs are the heads of the rules
-- Assumes nothing.
use Rattle.std.specs.Prelude.{ℕ, ◌+◌, ◌-◌, ◌≤◌, ◌<◌, ◌≡◌, List, ◌++◌, length, get_or, set, take, drop, replicate}
use Rattle.lists.specs.Lists.{tab}
use Rattle.clause_tables.specs.Links.{first_rule, next_rule}

pub record Unlinked (m : ℕ) (hs t : List ℕ) : Type 0 where
  pub few_rules : m ≤ 500
  pub many_heads : m ≤ length hs
  pub atoms : (i : ℕ) → i < m → (0 < get_or hs i 0) × (get_or hs i 0 ≤ 126)
  pub none_linked : drop 3518 t ≡ replicate 626 0

abbrev pub link_one : ℕ → ℕ → List ℕ → List ℕ
link_one r a t = set (set t (3644 + r - 1) (get_or t (3518 + a - 1) 0)) (3518 + a - 1) r

unfoldable pub linked : List ℕ → List ℕ → List ℕ
linked hs t = take 3518 t ++ (tab 126 (first_rule hs) ++ tab 500 (next_rule hs))
