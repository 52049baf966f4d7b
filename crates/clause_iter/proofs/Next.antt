-- The next literal of a clause, and the empty slots before it.
--   first_held     the first slot holds a literal
--   rules_few      how many rules there are
--   past_few       how many slots are done with the empty ones
--   none_left      behind the last slot no literal is left
--   then_held      any other slot behind the empty ones holds a literal
--   next_yielded   and that is the first of those that are left
-- Assumes nothing.
use Prim.Native.Nat.{ℕ, ◌+◌, ◌≤◌, ◌<◌}
use native.Mathlib.Omega.{arith}
use mathlib.Core.Path.{◌≡◌, refl, sym, ◌∙◌, ap, subst}
use mathlib.Core.Bool.{Bool, true, false, cond}
use mathlib.Core.List.{[]}
use mathlib.Core.Logic.{◌≢◌}
use lib.Dec.{eqb}
use lib.IntN.{ℤ}
use borrow.Author.Tests.{eqb-true, eqb-false}
use Rattle.std.specs.Prelude.{Option}
use Rattle.std.specs.Iterator.{YieldsFirst}
use Rattle.lists.specs.Lists.{each}
use Rattle.clause_slots.specs.SlotNumber.{slot_number}
use Rattle.clause_tables.specs.Tables.{heads_in}
use Rattle.clause_table_laws.proofs.Bounds.{slots_fit, literal_in_lem}
use Rattle.clause_table_laws.proofs.Cells.{arrays}
use Rattle.clause_heads.specs.NextHead.{past_empty}
use Rattle.clause_cells.specs.Held.{table_code}
use Rattle.clause_layout.proofs.Groups.{bounded}
use Rattle.clause_layout.proofs.Passed.{Passed, passed, passed_each}
use Rattle.clause_layout.specs.declared.TableClause.{TableClause}
use Rattle.clause_layout.specs.Clauses.{slots_in, slot_in}
use Rattle.clause_iter.specs.Held.{Held}
use Rattle.clause_iter.specs.declared.Literals.{Literals}
use Rattle.clause_iter.specs.Left.{numbers_left, passed_slots}
use Rattle.clause_iter.proofs.Full.{slots_some, full_first, full_past}
use Rattle.clause_iter.proofs.Left.{numbers, left_none, left_past, left_next, left_behind}

pub first_held : (c : TableClause) → Held c 1
first_held c =
    let T = arrays c.block.table.ready in record { within = slots_some T c.stands; full = full_first T c.stands }

pub rules_few : (s : Literals) → s.rules ≤ 500
rules_few s = omega (arith, (bounded (arrays s.clause.block.table.ready)).rules, s.rules_are)

module _ (s : Literals) where
  -- how many slots are done with the empty ones behind the last literal, of m rules
  abbrev past : ℕ → ℕ
  past m = past_empty m (heads_in s.clause.block.table.cells.now) s.clause.block.group s.clause.block.item s.clause.block.number s.done

  -- before the first literal, and behind one
  first : eqb s.done 0 ≡ true → passed_slots s ≡ 0
  first e = ap (λ (b : Bool). cond b 0 (past s.rules)) e

  behind : eqb s.done 0 ≡ false → passed_slots s ≡ past s.rules
  behind e = ap (λ (b : Bool). cond b 0 (past s.rules)) e

  module _ (h : 0 < s.done) where
    passed_past : Passed (table_code s.clause.block.table) s.clause.block.group s.clause.block.item s.clause.block.number s.clause.number s.done (past s.rules)
    passed_past = passed (arrays s.clause.block.table.ready) s.clause.stands h (s.done_held h).within (ap past s.rules_are)

    pub past_few : past s.rules ≤ 501
    past_few =
        let A = s.clause.stands.block_at in
        omega (
          arith,
          passed_past.within,
          slots_fit (table_code s.clause.block.table) (arrays s.clause.block.table.ready).limits s.clause.block.group s.clause.block.item s.clause.block.number s.clause.number A.item_some A.item_in A.block_some A.block_in,
        )

  some : eqb s.done 0 ≡ false → 0 < s.done
  some e = pos s.done (eqb-false s.done 0 e)
    where
      pos : (n : ℕ) → (n ≡ 0 → ⊥) → 0 < n
      pos n f = omega (arith, f)

  same : each (passed_slots s) (slot_in s.clause) ≡ each s.done (slot_in s.clause)
  same = go (eqb s.done 0) refl
    where
      go : (b : Bool) → eqb s.done 0 ≡ b → each (passed_slots s) (slot_in s.clause) ≡ each s.done (slot_in s.clause)
      go true e = ap (λ (k : ℕ). each k (slot_in s.clause)) (first e ∙ sym (eqb-true s.done 0 e))
      go false e = ap (λ (k : ℕ). each k (slot_in s.clause)) (behind e) ∙ passed_each (passed_past (some e))

  full : passed_slots s < slots_in s.clause → slot_in s.clause (passed_slots s + 1) ≢ []
  full h = go (eqb s.done 0) refl
    where
      go : (b : Bool) → eqb s.done 0 ≡ b → slot_in s.clause (passed_slots s + 1) ≢ []
      go true e =
          subst (λ (k : ℕ). slot_in s.clause (k + 1) ≢ []) (sym (first e)) (first_held s.clause).full
      go false e = full_past (arrays s.clause.block.table.ready) s.clause.stands (some e) h (behind e ∙ ap past s.rules_are)

  yielded : passed_slots s < slots_in s.clause → (x : Option ℤ) → x ≡ slot_number (slot_in s.clause (passed_slots s + 1))
      → YieldsFirst (numbers (slot_in s.clause) (slots_in s.clause)) s.done x (passed_slots s + 1)
  yielded h x e =
      let T = arrays s.clause.block.table.ready in
      let l = passed_slots s in
      left_behind (slot_in s.clause) (slots_in s.clause) s.done l (l + 1) x same
      (left_next (slot_in s.clause) (slots_in s.clause) l (l + 1) x h
      (literal_in_lem (table_code s.clause.block.table) T.limits s.clause.block.group s.clause.block.item s.clause.block.number s.clause.number (l + 1) s.clause.stands (omega arith) (omega (arith, h)))
      (full h) e refl)

  module _ {l : ℕ} (u : l ≡ passed_slots s + 1) where
    pub none_left : s.slots < l → numbers_left s ≡ []
    none_left h =
        sym (left_past (slot_in s.clause) (slots_in s.clause) s.done (passed_slots s) same)
        ∙ left_none (slot_in s.clause) (slots_in s.clause) {l = passed_slots s} s.slots_are (omega (arith, u, h))

    module _ (h : l ≤ s.slots) where
      before : passed_slots s < slots_in s.clause
      before = omega (arith, u, h, s.slots_are)

      pub then_held : Held s.clause l
      then_held =
          record {
            within = subst (λ (k : ℕ). l ≤ k) s.slots_are h;
            full = subst (λ (k : ℕ). slot_in s.clause k ≢ []) (sym u) (full before);
          }

      pub next_yielded : (x : Option ℤ) → x ≡ slot_number (slot_in s.clause l) → YieldsFirst (numbers (slot_in s.clause) (slots_in s.clause)) s.done x l
      next_yielded =
          subst (λ (k : ℕ). (x : Option ℤ) → x ≡ slot_number (slot_in s.clause k) → YieldsFirst (numbers (slot_in s.clause) (slots_in s.clause)) s.done x k) (sym u)
          (yielded before)
