-- One round over the rules: what the bytes hold after some of them had their turn.
--   turn_headed, turn_unmet, turn_fired    one rule's turn, test by test
--   tab_byte                           the byte of an atom in a table of bytes
--   bytes_after n M ls i rs            the bytes once the rules rs had their turn in round i, which began with ls
--   round_none, round_more, given_more, round_all    no rule, one rule more, all of them
-- Assumes nothing.
use Prim.Native.Nat.{ℕ, suc, pred, ◌+◌, ◌≤◌, ◌<◌}
use native.Mathlib.Numerals.{add-one}
use native.Mathlib.Omega.{arith}
use mathlib.Core.Path.{◌≡◌, refl, sym, ◌∙◌, ap, ap₂}
use mathlib.Core.Bool.{Bool, true, false, not, ◌&&◌, ◌||◌, So, cond, and-true, and-false, or-false}
use mathlib.Core.List.{List, [], ◌∷◌, ◌++◌}
use lib.Dec.{eqb, ltb}
use lib.ListN.{length, get_or, take, drop, set, length-set, take-append-drop}
use lib.Seq.{take-suc, take_all, ext_get_or, set-append_left, get_or-set_same, get_or-set_other, get_or-take, length-take-le}
use borrow.Author.Tests.{eq-eqb, ne_eqb, eqb-true, eqb-false, le-ltb}
use Rattle.lists.specs.Lists.{any, tab}
use Rattle.lists.proofs.Bools.{and_in, and_left, and_right}
use Rattle.lists.proofs.Tests.{all_at, all_ext, any_at, any_in, any_append}
use Rattle.lists.proofs.Tables.{length_tab, tab_ext, get_or_tab, get_or_here}
use Rattle.meaning.specs.Program.{Rule, Atoms, no_rule, rule_at, is_atom, none_in}
use Rattle.theory.proofs.Atoms.{RuleIn, by_place}
use Rattle.level_lists.specs.Bytes.{level_byte, is_below, enters}
use Rattle.level_stages.specs.Levels.{fires, fired_bytes, level_after}

-- ---- one rule's turn; a is its head, x the head's byte, e whether the rule enters

module _ (M : Atoms) (i : ℕ) (R : Rule) (ls : List ℕ) {a x : ℕ} (q : a ≡ R.head) (l : x ≡ level_byte ls a) where
  byte_is : level_byte ls R.head ≡ x
  byte_is = ap (level_byte ls) (sym q) ∙ sym l

  abbrev Turn : Bool → List ℕ → Type 0
  Turn r bs = (r ≡ fires M ls i R) × (bs ≡ fired_bytes M i R ls)

  not_fired : fires M ls i R ≡ false → Turn false ls
  not_fired f = (sym f, sym (ap (λ (b : Bool). cond b (set ls (pred R.head) i) ls) f))

  pub turn_headed : (x ≡ 0 → ⊥) → Turn false ls
  turn_headed f = not_fired (ap (λ (b : Bool). b && enters M ls i R) (ne_eqb (level_byte ls R.head) 0 (λ e. f (sym byte_is ∙ e))))

  none : x ≡ 0 → eqb (level_byte ls R.head) 0 ≡ true
  none z = eq-eqb (level_byte ls R.head) 0 (byte_is ∙ z)

  pub turn_unmet : {e : Bool} → x ≡ 0 → e ≡ enters M ls i R → e ≡ false → Turn false ls
  turn_unmet z f g = not_fired (ap₂ ◌&&◌ (none z) (sym f ∙ g))

  pub turn_fired : {e : Bool} {bs : List ℕ} → x ≡ 0 → e ≡ enters M ls i R → e ≡ true → bs ≡ set ls (pred a) i → Turn true bs
  turn_fired {e} {bs} z f g k = (sym fired, k ∙ ap (λ (h : ℕ). set ls (pred h) i) q ∙ sym (ap (λ (b : Bool). cond b (set ls (pred R.head) i) ls) fired))
    where
      fired : fires M ls i R ≡ true
      fired = ap₂ ◌&&◌ (none z) (sym f ∙ g)

-- ---- bytes by atom

pub tab_byte : (n : ℕ) (g : ℕ → ℕ) (rest : List ℕ) (a : ℕ) → So (is_atom n a) → level_byte (tab n g ++ rest) a ≡ g a
tab_byte n g rest = by_place n (λ a. level_byte (tab n g ++ rest) a ≡ g a) (λ a h. get_or_here (tab n g) rest 0 n a (length_tab n g) h ∙ get_or_tab n g 0 a h)

-- a byte is set at an atom
tab_set : (n : ℕ) (g : ℕ → ℕ) (rest : List ℕ) (v h : ℕ) → So (is_atom n h)
    → set (tab n g ++ rest) (pred h) v ≡ tab n (λ a. cond (eqb h a) v (g a)) ++ rest
tab_set n g rest v =
    by_place n (λ h. set (tab n g ++ rest) (pred h) v ≡ tab n (λ a. cond (eqb h a) v (g a)) ++ rest)
    (λ k l. set-append_left (tab n g) rest k v (omega (arith, l, length_tab n g)) ∙ ap (λ (xs : List ℕ). xs ++ rest) (ext_get_or 0 (set (tab n g) k v) (tab n (put k)) (lengths k) (at k l)))
  where
    put : ℕ → ℕ → ℕ
    put k a = cond (eqb (suc k) a) v (g a)

    lengths : (k : ℕ) → length (set (tab n g) k v) ≡ length (tab n (put k))
    lengths k = length-set (tab n g) k v ∙ length_tab n g ∙ sym (length_tab n (put k))

    at : (k : ℕ) → k < n → (j : ℕ) → j < length (set (tab n g) k v) → get_or (set (tab n g) k v) j 0 ≡ get_or (tab n (put k)) j 0
    at k l j h = go (eqb (suc k) (suc j)) refl ∙ sym (get_or_tab n (put k) 0 j inner)
      where
        inner : j < n
        inner = omega (arith, h, length-set (tab n g) k v, length_tab n g)

        go : (b : Bool) → eqb (suc k) (suc j) ≡ b → get_or (set (tab n g) k v) j 0 ≡ cond b v (g (suc j))
        go true e =
            ap (λ (x : ℕ). get_or (set (tab n g) k v) x 0) (same_place (eqb-true (suc k) (suc j) e)) ∙ get_or-set_same (tab n g) k v 0 (omega (arith, l, length_tab n g))
          where
            same_place : suc k ≡ suc j → j ≡ k
            same_place q = omega (arith, q)
        go false e =
            get_or-set_other (tab n g) k j v 0 (λ q. eqb-false (suc k) (suc j) e (ap suc (sym q))) ∙ get_or_tab n g 0 j inner

-- or left as it is
tab_set_if : (n : ℕ) (g : ℕ → ℕ) (rest : List ℕ) (v h : ℕ) → So (is_atom n h) → (b : Bool)
    → cond b (set (tab n g ++ rest) (pred h) v) (tab n g ++ rest) ≡ tab n (λ a. cond (eqb h a && b) v (g a)) ++ rest
tab_set_if n g rest v h t true =
    tab_set n g rest v h t ∙ ap (λ (xs : List ℕ). xs ++ rest) (tab_ext n _ _ (λ j l. ap (λ (b : Bool). cond b v (g (suc j))) (sym (and-true (eqb h (suc j))))))
tab_set_if n g rest v h t false =
    ap (λ (xs : List ℕ). xs ++ rest) (tab_ext n _ _ (λ j l. ap (λ (b : Bool). cond b v (g (suc j))) (sym (and-false (eqb h (suc j))))))

-- ---- a round that began with the bytes ls

abbrev pub bytes_after : ℕ → Atoms → List ℕ → ℕ → List Rule → List ℕ
bytes_after n M ls i rs = tab n (level_after M ls i rs) ++ drop n ls

pub round_none : (n : ℕ) (M : Atoms) (ls : List ℕ) (i : ℕ) → n ≤ length ls → ls ≡ bytes_after n M ls i []
round_none n M ls i h =
    sym (take-append-drop n ls) ∙ ap (λ (xs : List ℕ). xs ++ drop n ls) (ext_get_or 0 (take n ls) (tab n (level_after M ls i [])) lengths at)
  where
    lengths : length (take n ls) ≡ length (tab n (level_after M ls i []))
    lengths = length-take-le n ls h ∙ sym (length_tab n (level_after M ls i []))

    at : (j : ℕ) → j < length (take n ls) → get_or (take n ls) j 0 ≡ get_or (tab n (level_after M ls i [])) j 0
    at j k =
        get_or-take n ls j 0 inner ∙ sym (get_or_tab n (level_after M ls i []) 0 j inner ∙ ap (λ (b : Bool). cond b i (get_or ls j 0)) (and-false (eqb (get_or ls j 0) 0)))
      where
        inner : j < n
        inner = omega (arith, k, length-take-le n ls h)

module _ (n : ℕ) (M : Atoms) (ls : List ℕ) (i : ℕ) (some : 0 < i) where
  -- some rule of rs puts a into stage i
  abbrev entered : List Rule → ℕ → Bool
  entered rs a = any (λ R. eqb R.head a && enters M ls i R) rs

  -- a level given in this round is not below i, and none was before
  below_same : (x : ℕ) (c : Bool)
      → (not (eqb (cond (eqb x 0 && c) i x) 0) && ltb (cond (eqb x 0 && c) i x) i) ≡ (not (eqb x 0) && ltb x i)
  below_same x c = go (eqb x 0) refl c
    where
      go : (d : Bool) → eqb x 0 ≡ d → (c : Bool) → (not (eqb (cond (d && c) i x) 0) && ltb (cond (d && c) i x) i) ≡ (not d && ltb x i)
      go true e true = ap (λ (b : Bool). not (eqb i 0) && b) (le-ltb i i (omega arith)) ∙ and-false (not (eqb i 0))
      go true e false = ap (λ (b : Bool). not b && ltb x i) e
      go false e c = ap (λ (b : Bool). not b && ltb x i) e

  byte_after : (rs : List Rule) (a : ℕ) → So (is_atom n a) → level_byte (bytes_after n M ls i rs) a ≡ level_after M ls i rs a
  byte_after rs a t = tab_byte n (level_after M ls i rs) (drop n ls) a t

  below_kept : (rs : List Rule) (b : ℕ) → So (is_atom n b) → is_below (bytes_after n M ls i rs) i b ≡ is_below ls i b
  below_kept rs b t = ap (λ (y : ℕ). not (eqb y 0) && ltb y i) (byte_after rs b t) ∙ below_same (level_byte ls b) (entered rs b)

  module _ (rs : List Rule) (R : Rule) (I : RuleIn n R) where
    abbrev now_bytes : List ℕ
    now_bytes = bytes_after n M ls i rs

    enters_kept : enters M now_bytes i R ≡ enters M ls i R
    enters_kept =
        ap (λ (b : Bool). none_in M R.negative && b)
        (all_ext (is_below now_bytes i) (is_below ls i) R.positive 0 (λ j h. below_kept rs (get_or R.positive j 0) (all_at (is_atom n) R.positive 0 I.positive_in j h)))

    fires_kept : fires M now_bytes i R ≡ (eqb (level_after M ls i rs R.head) 0 && enters M ls i R)
    fires_kept = ap₂ ◌&&◌ (ap (λ (x : ℕ). eqb x 0) (byte_after rs R.head I.head_in)) enters_kept

    -- one rule more
    level_more : (a : ℕ) → level_after M ls i (rs ++ (R ∷ [])) a ≡ cond (eqb R.head a && fires M now_bytes i R) i (level_after M ls i rs a)
    level_more a =
        ap (λ (b : Bool). cond (eqb x 0 && b) i x) (any_append (λ R. eqb R.head a && enters M ls i R) rs (R ∷ []))
        ∙ go (eqb R.head a) refl
        ∙ sym (ap (λ (b : Bool). cond (eqb R.head a && b) i (level_after M ls i rs a)) fires_kept)
      where
        x : ℕ
        x = level_byte ls a

        at_head : (d : Bool) → eqb x 0 ≡ d → (c e : Bool)
            → cond (d && (c || (e || false))) i x ≡ cond (eqb (cond (d && c) i x) 0 && e) i (cond (d && c) i x)
        at_head true q true e = sym (cond_same (eqb i 0 && e))
          where
            cond_same : (b : Bool) → cond b i i ≡ i
            cond_same true = refl
            cond_same false = refl
        at_head true q false e = ap (λ (b : Bool). cond b i x) (or-false e) ∙ sym (ap (λ (b : Bool). cond (b && e) i x) q)
        at_head false q c e = sym (ap (λ (b : Bool). cond (b && e) i x) q)

        go : (d : Bool) → eqb R.head a ≡ d
            → cond (eqb x 0 && (entered rs a || ((d && enters M ls i R) || false))) i x
            ≡ cond (d && (eqb (level_after M ls i rs R.head) 0 && enters M ls i R)) i (level_after M ls i rs a)
        go true q =
            at_head (eqb x 0) refl (entered rs a) (enters M ls i R)
            ∙ ap (λ (h : ℕ). cond (eqb (level_after M ls i rs h) 0 && enters M ls i R) i (level_after M ls i rs a)) (sym (eqb-true R.head a q))
        go false q = ap (λ (b : Bool). cond (eqb x 0 && b) i x) (or-false (entered rs a))

    bytes_more : bytes_after n M ls i (rs ++ (R ∷ [])) ≡ fired_bytes M i R now_bytes
    bytes_more =
        ap (λ (xs : List ℕ). xs ++ drop n ls) (tab_ext n (level_after M ls i (rs ++ (R ∷ []))) (λ a. cond (eqb R.head a && fires M now_bytes i R) i (level_after M ls i rs a)) (λ j h. level_more (suc j)))
        ∙ sym (tab_set_if n (level_after M ls i rs) (drop n ls) i R.head I.head_in (fires M now_bytes i R))

    fired_more : any (fires M ls i) (rs ++ (R ∷ [])) ≡ (any (fires M ls i) rs || fires M now_bytes i R)
    fired_more =
        any_append (fires M ls i) rs (R ∷ [])
        ∙ go (eqb (level_byte ls R.head) 0) refl (entered rs R.head) (any (fires M ls i) rs) before
        ∙ sym (ap (λ (b : Bool). any (fires M ls i) rs || b) fires_kept)
      where
        x : ℕ
        x = level_byte ls R.head

        e : Bool
        e = enters M ls i R

        -- a rule before gave the head its level
        before : So (eqb x 0) → So (entered rs R.head) → So (any (fires M ls i) rs)
        before z t =
            let q = any_at (λ S. eqb S.head R.head && enters M ls i S) rs no_rule t in
            let S = get_or rs q.0 no_rule in
            any_in (fires M ls i) rs no_rule q.0 q.1
            (and_in
            (ap (λ (h : ℕ). eqb (level_byte ls h) 0) (eqb-true S.head R.head (and_left (eqb S.head R.head) (enters M ls i S) q.2)) ∙ z)
            (and_right (eqb S.head R.head) (enters M ls i S) q.2))

        go : (d : Bool) → eqb x 0 ≡ d → (c f : Bool) → (So d → So c → So f)
            → (f || ((d && e) || false)) ≡ (f || (eqb (cond (d && c) i x) 0 && e))
        go true q true f u = ap (λ (b : Bool). b || (e || false)) (u refl refl) ∙ sym (ap (λ (b : Bool). b || (eqb i 0 && e)) (u refl refl))
        go true q false f u = ap (λ (b : Bool). f || b) (or-false e) ∙ sym (ap (λ (b : Bool). f || (b && e)) q)
        go false q c f u = sym (ap (λ (b : Bool). f || (b && e)) q)

  -- ---- as the loop goes: bs the bytes and g the flag after k rules, x what the next rule's turn gave and cs the bytes after it
  module _ (rs : List Rule) (k : ℕ) (h : k < length rs) (I : RuleIn n (rule_at rs (k + 1))) {bs cs : List ℕ} {x : Bool} (B : bs ≡ bytes_after n M ls i (take k rs))
      (turn : (x ≡ fires M bs i (rule_at rs (k + 1))) × (cs ≡ fired_bytes M i (rule_at rs (k + 1)) bs)) where
    next_rule_lem : take (k + 1) rs ≡ take k rs ++ (rule_at rs (k + 1) ∷ [])
    next_rule_lem =
        ap (λ (j : ℕ). take j rs) (add-one k) ∙ take-suc rs k no_rule h
        ∙ ap (λ (j : ℕ). take k rs ++ (rule_at rs j ∷ [])) (sym (add-one k))

    pub round_more : cs ≡ bytes_after n M ls i (take (k + 1) rs)
    round_more =
        turn.1 ∙ ap (fired_bytes M i (rule_at rs (k + 1))) B ∙ sym (bytes_more (take k rs) (rule_at rs (k + 1)) I)
        ∙ ap (bytes_after n M ls i) (sym next_rule_lem)

    pub given_more : {g y : Bool} → g ≡ any (fires M ls i) (take k rs) → y ≡ (g || x) → y ≡ any (fires M ls i) (take (k + 1) rs)
    given_more {g} e z =
        z ∙ ap₂ ◌||◌ e (turn.0 ∙ ap (λ (l : List ℕ). fires M l i (rule_at rs (k + 1))) B)
        ∙ sym (fired_more (take k rs) (rule_at rs (k + 1)) I) ∙ ap (any (fires M ls i)) (sym next_rule_lem)

pub round_all : (n : ℕ) (M : Atoms) (ls : List ℕ) (i : ℕ) (rs : List Rule) (k : ℕ) {bs : List ℕ} {g : Bool} → length rs ≤ k
    → bs ≡ bytes_after n M ls i (take k rs) → g ≡ any (fires M ls i) (take k rs) → (g ≡ any (fires M ls i) rs) × (bs ≡ bytes_after n M ls i rs)
round_all n M ls i rs k h B e = (e ∙ ap (any (fires M ls i)) (take_all k rs h), B ∙ ap (bytes_after n M ls i) (take_all k rs h))
