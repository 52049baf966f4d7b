-- The line of a model: it has at most 1,100 bytes (model_small), its two parts (model_parts), and the lines of the first n bytes (model_taken).
-- Assumes nothing.
use Prim.Native.Nat.{ℕ, suc, ◌≤◌, ◌<◌}
use native.Mathlib.Omega.{arith}
use mathlib.Core.Path.{◌≡◌, refl, sym, ◌∙◌, ap, ap₂}
use mathlib.Core.Bool.{not, cond}
use lib.Dec.{eqb}
use lib.Seq.{length-take-le, get_or-take}
use Rattle.lists.proofs.Tables.{each_ext}
use mathlib.Core.List.{List, [], ◌∷◌, ◌++◌}
use lib.ListN.{length, get_or, take, length-append}
use Rattle.lists.specs.Ascii.{ascii}
use Rattle.digits.proofs.Lengths.{decimal_fits}
use Rattle.clause_walk.proofs.Tabs.{map_select}
use Rattle.truth_literals.specs.Values.{value_in}
use Rattle.level_lists.specs.Bytes.{level_byte}
use Rattle.checker_model.specs.Model.{true_atom_list, numbers_text, levels_text, model_line, model_text, assumed_text, shown_model}
use Rattle.checker_model.proofs.Listed.{listed_small}

module _ (n : ℕ) (bs ls : List ℕ) (h : n ≤ 126) (f : (i : ℕ) → get_or ls i 0 < 256) where
  abbrev atoms : List ℕ
  atoms = numbers_text (true_atom_list n bs)

  abbrev levels : List ℕ
  levels = levels_text n bs ls

  atoms_small : length atoms ≤ 504
  atoms_small = omega (arith, h, listed_small (value_in bs) (λ (a : ℕ). a) 3 n (λ a l. decimal_fits 2 (suc a) (omega (arith, h, l))))

  levels_small : length levels ≤ 504
  levels_small =
      omega (
        arith,
        h,
        listed_small (value_in bs) (level_byte ls) 3 n (λ a l. decimal_fits 2 (level_byte ls (suc a)) (omega (arith, f a))),
        ap (λ (xs : List ℕ). length (numbers_text xs)) (map_select (level_byte ls) n (value_in bs)),
      )

  pub model_small : length (model_text n bs ls) ≤ 1100
  unfolding model_text ascii
  model_small =
      omega (
        arith,
        atoms_small,
        levels_small,
        length-append (ascii "(model (" ++ atoms) ((ascii ") (" ++ levels) ++ ascii "))\n"),
        length-append (ascii ") (" ++ levels) (ascii "))\n"),
        length-append (ascii ") (") levels,
        length-append (ascii "(model (") atoms,
      )

pub model_parts : (n : ℕ) (bs ls : List ℕ)
    → (ascii "(model (" ++ numbers_text (true_atom_list n bs)) ++ ((ascii ") (" ++ levels_text n bs ls) ++ ascii "))\n") ≡ model_text n bs ls
unfolding model_text
model_parts n bs ls = refl

-- of the first n bytes
pub model_taken : (n c : ℕ) (bs ls : List ℕ) {m : ℕ} → m ≡ n → n ≤ length bs → n ≤ length ls
    → shown_model (length (take m bs)) c (take m bs) (take m ls) ≡ shown_model n c bs ls
unfolding model_text
model_taken n c bs ls e h g =
    ap (λ (m : ℕ). shown_model (length (take m bs)) c (take m bs) (take m ls)) e
    ∙ ap (λ (k : ℕ). shown_model k c (take n bs) (take n ls)) (length-take-le n bs h)
    ∙ ap₂ (λ (xs ys : List ℕ). assumed_text c ++ model_line xs ys)
    (each_ext n _ _ (λ i l. ap (λ (b : ℕ). cond (not (eqb b 0)) (suc i ∷ []) []) (get_or-take n bs i 0 l)))
    (map_select (level_byte (take n ls)) n (value_in (take n bs))
    ∙ each_ext n _ _ (λ i l. ap₂ (λ (x b : ℕ). cond (not (eqb b 0)) (x ∷ []) []) (get_or-take n ls i 0 l) (get_or-take n bs i 0 l))
    ∙ sym (map_select (level_byte ls) n (value_in bs)))
