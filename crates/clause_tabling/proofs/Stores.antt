-- What stores leave of a list, and of an array with zeros after its list.
--   part_stored                a list stored as a part
--   copies_stored              copies of a number stored so
--   rest_starts, rest_goes, rest_ends    a list stored by a loop
--   set_pad, sets_pad          x, and the elements of ys, stored after xs
--   set_behind, sets_behind    the same at a place that is known to be after xs
-- Assumes nothing.
use Prim.Native.Nat.{ℕ, suc, ◌+◌, ◌-◌, ◌≤◌, ◌<◌}
use native.Mathlib.Nat.{add-zero}
use native.Mathlib.Numerals.{add-one}
use native.Mathlib.Omega.{arith}
use mathlib.Core.Path.{◌≡◌, refl, sym, ◌∙◌, ap, ap₂, subst}
use mathlib.Core.List.{List, [], ◌∷◌, ◌++◌, append_assoc, append-nil}
use lib.ListN.{length, get_or, set, take, drop, replicate, length-append, length-drop, length-replicate, drop_of_length-le}
use lib.Seq.{sets, drop-cons, drop-drop, set_at, append_snoc, length-take-le}
use borrow.Rule.Slice.PartMut.{put_mid, mid_of}
use Rattle.std.proofs.lemmas.List.Edits.{sets-eq}
use Rattle.program.specs.Arrays.{pad}

-- ---- a part of a list

-- ys written to the cells from a on
pub part_stored : (xs ys : List ℕ) (a k : ℕ) → length ys ≡ k → a + k ≤ length xs → put_mid a k xs ys ≡ sets xs a ys
part_stored xs ys a k e h =
    ap (λ (zs : List ℕ). take a xs ++ (ys ++ zs)) (drop-drop k a xs ∙ ap (λ (j : ℕ). drop (a + j) xs) (sym e))
    ∙ sym (append_assoc (take a xs) ys (drop (a + length ys) xs))
    ∙ sym (sets-eq ys xs a (omega (arith, e, h)))

-- n copies of h written to the cells from a on
pub copies_stored : (xs ys : List ℕ) (a k n h : ℕ) → k ≡ n → a + n ≤ length xs → ys ≡ replicate (length (mid_of a k xs)) h
    → put_mid a k xs ys ≡ sets xs a (replicate n h)
copies_stored xs ys a k n h e fits is =
    part_stored xs ys a k (ap length whole ∙ length-replicate n h ∙ sym e) (omega (arith, e, fits)) ∙ ap (sets xs a) whole
  where
    whole : ys ≡ replicate n h
    whole = is ∙ ap (λ (i : ℕ). replicate i h) (length-take-le k (drop a xs) (omega (arith, e, fits, length-drop a xs)) ∙ e)

-- ---- a loop that writes a list: i elements are written, and the others are left

pub rest_starts : (ys xs : List ℕ) (at : ℕ) → sets ys (at + 0) (drop 0 xs) ≡ sets ys at xs
rest_starts ys xs at = ap (λ (k : ℕ). sets ys k xs) (add-zero at)

pub rest_goes : (ys xs ws : List ℕ) (at i : ℕ) → i < length xs → sets ys (at + i) (drop i xs) ≡ ws
    → sets (set ys (at + i) (get_or xs i 0)) (at + (i + 1)) (drop (i + 1) xs) ≡ ws
rest_goes ys xs ws at i h inv =
    ap₂ (λ (k j : ℕ). sets (set ys (at + i) (get_or xs i 0)) k (drop j xs)) (next at i) (add-one i)
    ∙ sym (ap (sets ys (at + i)) (drop-cons xs i 0 h)) ∙ inv
  where
    next : (at i : ℕ) → at + (i + 1) ≡ suc (at + i)
    next at i = omega arith

pub rest_ends : (ys xs ws : List ℕ) (at i : ℕ) → length xs ≤ i → sets ys (at + i) (drop i xs) ≡ ws → ys ≡ ws
rest_ends ys xs ws at i h inv = sym (ap (sets ys (at + i)) (drop_of_length-le xs h)) ∙ inv

-- ---- arrays with zeros after a list

-- x stored after xs
pub set_pad : (xs : List ℕ) (n x : ℕ) → length xs < n → set (pad n xs) (length xs) x ≡ pad n (xs ++ (x ∷ []))
set_pad xs n x h =
    ap (λ (k : ℕ). set (xs ++ replicate k 0) (length xs) x) (more (length xs) h)
    ∙ set_at xs 0 (replicate (n - (length xs + 1)) 0) x (length xs) refl
    ∙ sym (append_snoc xs x (replicate (n - (length xs + 1)) 0))
    ∙ ap (λ (k : ℕ). (xs ++ (x ∷ [])) ++ replicate (n - k) 0) (sym (length-append xs (x ∷ [])))
  where
    more : (k : ℕ) → k < n → n - k ≡ suc (n - (k + 1))
    more k h = omega (arith, h)

pub sets_pad : (xs ys : List ℕ) (n : ℕ) → length xs + length ys ≤ n → sets (pad n xs) (length xs) ys ≡ pad n (xs ++ ys)
sets_pad xs [] n h = ap (pad n) (sym (append-nil xs))
sets_pad xs (y ∷ ys) n h =
    ap₂ (λ (zs : List ℕ) (k : ℕ). sets zs k ys) (set_pad xs n y (omega (arith, h))) (sym (length-append xs (y ∷ []) ∙ add-one (length xs)))
    ∙ sets_pad (xs ++ (y ∷ [])) ys n (omega (arith, h, length-append xs (y ∷ [])))
    ∙ ap (pad n) (append_snoc xs y ys)

-- at a place that is known to be after xs
pub set_behind : (xs zs : List ℕ) (n k x : ℕ) → zs ≡ pad n xs → length xs ≡ k → k < n → set zs k x ≡ pad n (xs ++ (x ∷ []))
set_behind xs zs n k x p e h =
    ap₂ (λ (zs : List ℕ) (k : ℕ). set zs k x) p (sym e) ∙ set_pad xs n x (subst (λ (k : ℕ). k < n) (sym e) h)

pub sets_behind : (xs zs ys : List ℕ) (n k : ℕ) → zs ≡ pad n xs → length xs ≡ k → k + length ys ≤ n → sets zs k ys ≡ pad n (xs ++ ys)
sets_behind xs zs ys n k p e h =
    ap₂ (λ (zs : List ℕ) (k : ℕ). sets zs k ys) p (sym e) ∙ sets_pad xs ys n (subst (λ (k : ℕ). k + length ys ≤ n) (sym e) h)
