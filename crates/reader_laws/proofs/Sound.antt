-- A text that the automaton accepts has the form: its words, numbers and lists are taken off, line by line.
-- Assumes nothing.
use Prim.Native.Nat.{ℕ, zero, suc, ◌+◌, ◌*◌, ◌≤◌, ◌<◌}
use native.Mathlib.Nat.{not-suc-le-zero, le_of_suc-le-suc, suc-ne-zero, le_refl}
use native.Mathlib.Omega.{arith}
use mathlib.Core.Path.{◌≡◌, refl, sym, ◌∙◌, ap, subst}
use mathlib.Core.Logic.{◌⊎◌, inl, inr}
use mathlib.Core.Bool.{Bool, true, false, ◌&&◌, cond, false≢true}
use mathlib.Core.List.{List, [], ◌∷◌, ◌++◌, append_assoc}
use lib.Dec.{eqb}
use lib.ListN.{length, length-append}
use borrow.Author.Tests.{eqb-true}
use Rattle.lists.proofs.Cons.{cons_head}
use Rattle.meaning.specs.Program.{Rule}
use Rattle.text.specs.Decimal.{decimal}
use Rattle.text.specs.Text.{more_text, list_text, rule_text, rules_text, text_of, HasForm}
use Rattle.text.proofs.Decimals.{decimal_small, decimal_snoc}
use Rattle.reader_form.specs.Automaton.{Step}
use Rattle.reader_form.specs.Automaton.{placed, form_at, digit_test, literal_of, leave_of, digit_of, act_at, item_of, form_step}
use Rattle.reader_form.proofs.Digits.{digit_of_lem}
use Rattle.reader_laws.specs.Scan.{text_accepts}
use Rattle.reader_laws.proofs.Values.{Item, atoms, head, Fresh, now, after, in_number, in_number_pos, digit_step, first_digit, further_digit, ListAt, item_of_lem, rule_then}

-- ---- one byte

-- a byte that leads to place p leaves the rest to be accepted from there
took : (k m b : ℕ) (p : Step) (t : List ℕ) → form_step k m b ≡ p → text_accepts k m (b ∷ t) ≡ true → text_accepts p.k p.mode t ≡ true
unfolding text_accepts
took k m b p t e a = go (eqb p.mode 4) (subst (λ (q : Step). cond (eqb q.mode 4) false (text_accepts q.k q.mode t) ≡ true) e a)
  where
    go : (d : Bool) → cond d false (text_accepts p.k p.mode t) ≡ true → text_accepts p.k p.mode t ≡ true
    go true e = absurd (false≢true e)
    go false e = e

-- no byte leads past the form
not_dead : (k m b : ℕ) (p : Step) (t : List ℕ) → form_step k m b ≡ p → eqb p.mode 4 ≡ true → text_accepts k m (b ∷ t) ≡ true → ⊥
unfolding text_accepts
not_dead k m b p t e d a = false≢true (sym (ap (λ (q : Step). cond (eqb q.mode 4) false (text_accepts q.k q.mode t)) e ∙ rw d) ∙ a)

-- where the text may not end, there is a byte
not_ended : (k m : ℕ) → (eqb k 10 && eqb m 0) ≡ false → text_accepts k m [] ≡ true → ⊥
unfolding text_accepts
not_ended k m e a = false≢true (sym e ∙ a)

-- a place with the fixed byte c, in the sense of what a byte b does there
abbrev Fixed : ℕ → ℕ → ℕ → ℕ → Type 0
Fixed k m c k' = (b : ℕ) → digit_test b ≡ false → (act : ℕ) × (dead : ℕ) × (form_step k m b ≡ cond (eqb b c) (placed k' 0 act) (placed dead 4 0))

-- the byte c and a rest that is accepted after it
abbrev Behind : List ℕ → ℕ → ℕ → Type 0
Behind t c k' = (u : List ℕ) × (t ≡ c ∷ u) × (text_accepts k' 0 u ≡ true)

chosen : (k m b c k' act dead : ℕ) (u : List ℕ) → form_step k m b ≡ cond (eqb b c) (placed k' 0 act) (placed dead 4 0) → text_accepts k m (b ∷ u) ≡ true → Behind (b ∷ u) c k'
chosen k m b c k' act dead u e a = go (eqb b c) refl e
  where
    go : (x : Bool) → eqb b c ≡ x → form_step k m b ≡ cond x (placed k' 0 act) (placed dead 4 0) → Behind (b ∷ u) c k'
    go true q e = (u, ap (λ (z : ℕ). z ∷ u) (eqb-true b c q), took k m b (placed k' 0 act) u e a)
    go false q e = absurd (not_dead k m b (placed dead 4 0) u e refl a)

-- place k has the fixed byte c, and k' is after it
record Letter (k c k' : ℕ) : Type 0 where
  act : ℕ
  steps : (b : ℕ) → form_step k 0 b ≡ cond (eqb b c) (placed k' 0 act) (placed k 4 0)
  not_last : eqb k 10 ≡ false

letter : (k c k' : ℕ) → Letter k c k' → (t : List ℕ) → text_accepts k 0 t ≡ true → Behind t c k'
letter k c k' l [] a = absurd (not_ended k 0 (rw l.not_last) a)
letter k c k' l (b ∷ u) a = chosen k 0 b c k' l.act k u (l.steps b) a

-- the form has the bytes cs from place k to k'
data Spells : ℕ → List ℕ → ℕ → Type 0 where
  done : {k : ℕ} → Spells k [] k
  then : {k c k' k'' : ℕ} {cs : List ℕ} → Letter k c k' → Spells k' cs k'' → Spells k (c ∷ cs) k''

word : {k k' : ℕ} {cs : List ℕ} → Spells k cs k' → (t : List ℕ) → text_accepts k 0 t ≡ true → (u : List ℕ) × (t ≡ cs ++ u) × (text_accepts k' 0 u ≡ true)
word done t a = (t, refl, a)
word (then {k = k} {c = c} {k' = k'} l s) t a =
    let q = letter k c k' l t a in
    let r = word s q.0 q.2 in
    (r.0, q.1 ∙ ap (λ (z : List ℕ). c ∷ z) r.1, r.2)

-- ---- numbers

-- no digit comes first
pub record Stops (u : List ℕ) : Type 0 where
  pub stops : (b : ℕ) (v : List ℕ) → u ≡ b ∷ v → digit_test b ≡ false

-- a number x and further digits are one number
abbrev Number : ℕ → ℕ → List ℕ → Type 0
Number k x u = (y : ℕ) × (v : List ℕ) × (decimal x ++ u ≡ decimal y ++ v) × (text_accepts k 2 v ≡ true) × Stops v × (0 < y)

digits : (k : ℕ) → Item k → (u : List ℕ) (x : ℕ) → 0 < x → text_accepts k 2 u ≡ true → Number k x u
digits k it [] x z a = (x, [], refl, a, record { stops = λ b v e. absurd (suc-ne-zero (length v) (sym (ap length e))) }, z)
digits k it (b ∷ u) x z a = go (digit_test b) refl (digits k it u)
  where
    go : (d : Bool) → digit_test b ≡ d → ((x : ℕ) → 0 < x → text_accepts k 2 u ≡ true → Number k x u) → Number k x (b ∷ u)
    go true e ih =
        let q = digit_of_lem b e in
        let d = q.0 in
        let r = ih (x * 10 + d) (omega arith) (took k 2 b (placed k 2 2) u (ap (form_step k 2) q.1 ∙ further_digit k d it q.2) a) in (
          r.0,
          r.1,
          ap (λ (z : ℕ). decimal x ++ (z ∷ u)) q.1 ∙ sym (append_assoc (decimal x) ((48 + d) ∷ []) u)
              ∙ ap (λ (ds : List ℕ). ds ++ u) (sym (decimal_snoc x d z q.2)) ∙ r.2,
          r.3,
          r.4,
          r.5,
        )
    go false e ih = (x, b ∷ u, refl, a, record { stops = λ c v f. subst (λ (z : ℕ). digit_test z ≡ false) (cons_head f) e }, z)

zero_digit : (k d : ℕ) → Item k → d < 10 → form_step k 1 (48 + d) ≡ placed k 4 0
unfolding digit_of
zero_digit k d it h = digit_step k 1 d it h

-- a number at place k, and what is accepted after it
abbrev Numbered : ℕ → List ℕ → Type 0
Numbered k t = (x : ℕ) × (v : List ℕ) × (t ≡ decimal x ++ v) × (text_accepts k (in_number x) v ≡ true) × Stops v

zero_stops : (k : ℕ) → Item k → (u : List ℕ) → text_accepts k 1 u ≡ true → Stops u
zero_stops k it u a = record { stops = λ b v e. go b v e (digit_test b) refl }
  where
    go : (b : ℕ) (v : List ℕ) → u ≡ b ∷ v → (d : Bool) → digit_test b ≡ d → digit_test b ≡ false
    go b v e true f =
        let q = digit_of_lem b f in
        absurd (not_dead k 1 b (placed k 4 0) v (ap (form_step k 1) q.1 ∙ zero_digit k q.0 it q.2) refl (subst (λ (w : List ℕ). text_accepts k 1 w ≡ true) e a))
    go b v e false f = f

taken : (k m : ℕ) → Item k → Fresh m → (b : ℕ) (u : List ℕ) → digit_test b ≡ true → text_accepts k m (b ∷ u) ≡ true → Numbered k (b ∷ u)
taken k m it f b u e a =
    let q = digit_of_lem b e in
    go q.0 q.1 q.2 (took k m b (placed k (in_number q.0) 1) u (ap (form_step k m) q.1 ∙ first_digit k m q.0 it f q.2) a)
  where
    go : (d : ℕ) → b ≡ 48 + d → d < 10 → text_accepts k (in_number d) u ≡ true → Numbered k (b ∷ u)
    go zero e h a = (0, u, ap (λ (z : ℕ). z ∷ u) e ∙ ap (λ (ds : List ℕ). ds ++ u) (sym (decimal_small 0 h)), a, zero_stops k it u a)
    go (suc d) e h a =
        let r = digits k it u (suc d) (omega arith) (subst (λ (x : ℕ). text_accepts k x u ≡ true) (in_number_pos (suc d) (omega arith)) a) in (
          r.0,
          r.1,
          ap (λ (z : ℕ). z ∷ u) e ∙ ap (λ (ds : List ℕ). ds ++ u) (sym (decimal_small (suc d) h)) ∙ r.2,
          subst (λ (x : ℕ). text_accepts k x r.1 ≡ true) (sym (in_number_pos r.0 r.5)) r.3,
          r.4,
        )

-- the byte after a number, from either mode within it
past : (k c k' x : ℕ) → Fixed k 1 c k' → Fixed k 2 c k' → eqb k 10 ≡ false → (v : List ℕ) → Stops v → text_accepts k (in_number x) v ≡ true → Behind v c k'
past k c k' x f g n [] s a = absurd (not_ended k (in_number x) (rw n) a)
past k c k' x f g n (b ∷ u) s a = go (eqb x 0) a
  where
    stop : digit_test b ≡ false
    stop = s.stops b u refl

    go : (z : Bool) → text_accepts k (cond z 1 2) (b ∷ u) ≡ true → Behind (b ∷ u) c k'
    go true a = let q = f b stop in chosen k 1 b c k' q.0 q.1 u q.2 a
    go false a = let q = g b stop in chosen k 2 b c k' q.0 q.1 u q.2 a

-- a place with a number, the number and the byte c after it
abbrev NumberThen : List ℕ → ℕ → ℕ → Type 0
NumberThen t c k' = (x : ℕ) × (u : List ℕ) × (t ≡ decimal x ++ (c ∷ u)) × (text_accepts k' 0 u ≡ true)

number_then : (k c k' : ℕ) → Item k → ((b : ℕ) → digit_test b ≡ false → form_step k 0 b ≡ placed k 4 0) → Fixed k 1 c k' → Fixed k 2 c k' → eqb k 10 ≡ false
    → (t : List ℕ) → text_accepts k 0 t ≡ true → NumberThen t c k'
number_then k c k' it dead f g n [] a = absurd (not_ended k 0 (rw n) a)
number_then k c k' it dead f g n (b ∷ u) a = go (digit_test b) refl
  where
    go : (d : Bool) → digit_test b ≡ d → NumberThen (b ∷ u) c k'
    go true e =
        let q = taken k 0 it now b u e a in
        let r = past k c k' q.0 f g n q.1 q.4 q.3 in
        (q.0, r.0, q.2 ∙ ap (λ (w : List ℕ). decimal q.0 ++ w) r.1, r.2)
    go false e = absurd (not_dead k 0 b (placed k 4 0) u (dead b e) refl a)

-- ---- lists

-- what a byte that is no digit does after a number of a list, and at an empty list
list_past : (k m b : ℕ) → ListAt k → (m ≡ 1) ⊎ (m ≡ 2) → digit_test b ≡ false
    → form_step k m b ≡ cond (eqb b 32) (placed k 3 3) (cond (eqb b 41) (placed (k + 2) 0 3) (placed (k + 1) 4 0))
unfolding form_step form_at item_of leave_of literal_of
list_past k m b ListAt.positive (inl e) d = rw (e, d)
list_past k m b ListAt.positive (inr e) d = rw (e, d)
list_past k m b ListAt.negative (inl e) d = rw (e, d)
list_past k m b ListAt.negative (inr e) d = rw (e, d)

list_empty : (k b : ℕ) → ListAt k → digit_test b ≡ false → form_step k 0 b ≡ cond (eqb b 41) (placed (k + 2) 0 0) (placed (k + 1) 4 0)
unfolding form_step form_at item_of leave_of literal_of
list_empty k b ListAt.positive d = rw d
list_empty k b ListAt.negative d = rw d

list_spaced : (k b : ℕ) → ListAt k → digit_test b ≡ false → form_step k 3 b ≡ placed k 4 0
unfolding form_step form_at item_of leave_of
list_spaced k b ListAt.positive d = rw d
list_spaced k b ListAt.negative d = rw d

not_ten : (k : ℕ) → ListAt k → eqb k 10 ≡ false
not_ten k ListAt.positive = refl
not_ten k ListAt.negative = refl

-- numbers with their spaces, the bracket, and what is accepted after it
abbrev More : ℕ → List ℕ → Type 0
More k v = (xs : List ℕ) × (u : List ℕ) × (v ≡ more_text xs ++ (41 ∷ u)) × (text_accepts (k + 2) 0 u ≡ true)

in_modes : (x : ℕ) → (in_number x ≡ 1) ⊎ (in_number x ≡ 2)
in_modes x = go (eqb x 0)
  where
    go : (z : Bool) → (◌≡◌ {A = ℕ} (cond z 1 2) 1) ⊎ (◌≡◌ {A = ℕ} (cond z 1 2) 2)
    go true = inl refl
    go false = inr refl

-- what the rest of a list comes to, for rests of at most f bytes
abbrev Rests : ℕ → ℕ → Type 0
Rests f k = (x : ℕ) (v : List ℕ) → length v ≤ f → Stops v → text_accepts k (in_number x) v ≡ true → More k v

spaced : (f k : ℕ) → ListAt k → Rests f k → (w : List ℕ) → length w ≤ f → text_accepts k 3 w ≡ true → More k (32 ∷ w)
spaced f k l ih [] h a = absurd (not_ended k 3 (rw (not_ten k l)) a)
spaced f k l ih (c ∷ w) h a = go (digit_test c) refl
  where
    go : (d : Bool) → digit_test c ≡ d → More k (32 ∷ (c ∷ w))
    go true e =
        let q = taken k 3 (item_of_lem l) after c w e a in
        let r = ih q.0 q.1 (omega (arith, h, ap length q.2 ∙ length-append (decimal q.0) q.1)) q.4 q.3 in (
          q.0 ∷ r.0,
          r.1,
          ap (λ (z : List ℕ). 32 ∷ z) (q.2 ∙ ap (λ (z : List ℕ). decimal q.0 ++ z) r.2 ∙ sym (append_assoc (decimal q.0) (more_text r.0) (41 ∷ r.1))),
          r.3,
        )
    go false e = absurd (not_dead k 3 c (placed k 4 0) w (list_spaced k c l e) refl a)

more : (f k : ℕ) → ListAt k → Rests f k
more zero k l x [] h s a = absurd (not_ended k (in_number x) (rw (not_ten k l)) a)
more zero k l x (b ∷ u) h s a = absurd (not-suc-le-zero h)
more (suc f) k l x [] h s a = absurd (not_ended k (in_number x) (rw (not_ten k l)) a)
more (suc f) k l x (b ∷ u) h s a = go (more f k l) (eqb b 32) refl (eqb b 41) refl (list_past k (in_number x) b l (in_modes x) (s.stops b u refl))
  where
    go : Rests f k → (y : Bool) → eqb b 32 ≡ y → (z : Bool) → eqb b 41 ≡ z
        → form_step k (in_number x) b ≡ cond y (placed k 3 3) (cond z (placed (k + 2) 0 3) (placed (k + 1) 4 0)) → More k (b ∷ u)
    go ih true p z q e =
        let r = spaced f k l ih u (le_of_suc-le-suc h) (took k (in_number x) b (placed k 3 3) u e a) in
        (r.0, r.1, ap (λ (c : ℕ). c ∷ u) (eqb-true b 32 p) ∙ r.2, r.3)
    go ih false p true q e = ([], u, ap (λ (c : ℕ). c ∷ u) (eqb-true b 41 q), took k (in_number x) b (placed (k + 2) 0 3) u e a)
    go ih false p false q e = absurd (not_dead k (in_number x) b (placed (k + 1) 4 0) u e refl a)

-- a list, its bracket, and what is accepted after it
abbrev ListThen : ℕ → List ℕ → Type 0
ListThen k t = (xs : List ℕ) × (u : List ℕ) × (t ≡ list_text xs ++ (41 ∷ u)) × (text_accepts (k + 2) 0 u ≡ true)

list_then : (k : ℕ) → ListAt k → (t : List ℕ) → text_accepts k 0 t ≡ true → ListThen k t
list_then k l [] a = absurd (not_ended k 0 (rw (not_ten k l)) a)
list_then k l (b ∷ t) a = go (digit_test b) refl
  where
    go : (d : Bool) → digit_test b ≡ d → ListThen k (b ∷ t)
    go true e =
        let q = taken k 0 (item_of_lem l) now b t e a in
        let r = more (length q.1) k l q.0 q.1 (le_refl (length q.1)) q.4 q.3 in
        (q.0 ∷ r.0, r.1, q.2 ∙ ap (λ (z : List ℕ). decimal q.0 ++ z) r.2 ∙ sym (append_assoc (decimal q.0) (more_text r.0) (41 ∷ r.1)), r.3)
    go false e = let q = chosen k 0 b 41 (k + 2) 0 (k + 1) t (list_empty k b l e) a in ([], q.0, q.1, q.2)

-- ---- lines

at : (k c k' act : ℕ) → ((b : ℕ) → form_step k 0 b ≡ cond (eqb b c) (placed k' 0 act) (placed k 4 0)) → eqb k 10 ≡ false → Letter k c k'
at k c k' act f n = record { act = act; steps = f; not_last = n }

-- the words of the form: "(atoms ", byte 10 after it, "rule " after its bracket, and the brackets around its lists
atoms_word : Spells 0 (40 ∷ 97 ∷ 116 ∷ 111 ∷ 109 ∷ 115 ∷ 32 ∷ []) 7
unfolding form_step form_at literal_of act_at
atoms_word =
    then (at 0 40 1 0 (λ b. refl) refl) (then (at 1 97 2 0 (λ b. refl) refl) (then (at 2 116 3 0 (λ b. refl) refl) (then (at 3 111 4 0 (λ b. refl) refl)
    (then (at 4 109 5 0 (λ b. refl) refl) (then (at 5 115 6 0 (λ b. refl) refl) (then (at 6 32 7 0 (λ b. refl) refl) done))))))

atoms_end : Spells 9 (10 ∷ []) 10
unfolding form_step form_at literal_of act_at
atoms_end = then (at 9 10 10 0 (λ b. refl) refl) done

rule_word : Spells 11 (114 ∷ 117 ∷ 108 ∷ 101 ∷ 32 ∷ []) 16
unfolding form_step form_at literal_of act_at
rule_word =
    then (at 11 114 12 0 (λ b. refl) refl) (then (at 12 117 13 0 (λ b. refl) refl) (then (at 13 108 14 0 (λ b. refl) refl)
    (then (at 14 101 15 0 (λ b. refl) refl) (then (at 15 32 16 0 (λ b. refl) refl) done))))

list_open : Spells 18 (40 ∷ []) 19
unfolding form_step form_at literal_of act_at
list_open = then (at 18 40 19 0 (λ b. refl) refl) done

list_between : Spells 21 (32 ∷ 40 ∷ []) 23
unfolding form_step form_at literal_of act_at
list_between = then (at 21 32 22 5 (λ b. refl) refl) (then (at 22 40 23 0 (λ b. refl) refl) done)

rule_end_lem : Spells 25 (41 ∷ 10 ∷ []) 10
unfolding form_step form_at literal_of act_at
rule_end_lem = then (at 25 41 26 0 (λ b. refl) refl) (then (at 26 10 10 6 (λ b. refl) refl) done)

-- the parts of a rule line, each with what is accepted after it
rule_open : (b : ℕ) (t : List ℕ) → text_accepts 10 0 (b ∷ t) ≡ true → (u : List ℕ) × (b ∷ t ≡ 40 ∷ 114 ∷ 117 ∷ 108 ∷ 101 ∷ 32 ∷ u) × (text_accepts 16 0 u ≡ true)
unfolding form_step form_at literal_of act_at
rule_open b t a =
    let q = chosen 10 0 b 40 11 4 10 t refl a in
    let r = word rule_word q.0 q.2 in
    (r.0, q.1 ∙ ap (λ (z : List ℕ). 40 ∷ z) r.1, r.2)

rule_head : (t : List ℕ) → text_accepts 16 0 t ≡ true → (x : ℕ) × (u : List ℕ) × (t ≡ decimal x ++ (32 ∷ 40 ∷ u)) × (text_accepts 19 0 u ≡ true)
unfolding form_step form_at literal_of act_at item_of leave_of
rule_head t a =
    let h = number_then 16 32 18 head (λ b d. rw d) (λ b d. (3, 17, rw d)) (λ b d. (3, 17, rw d)) refl t a in
    let r = word list_open h.1 h.3 in
    (h.0, r.0, h.2 ∙ ap (λ (z : List ℕ). decimal h.0 ++ (32 ∷ z)) r.1, r.2)

rule_positive : (t : List ℕ) → text_accepts 19 0 t ≡ true → (xs u : List ℕ) × (t ≡ list_text xs ++ (41 ∷ 32 ∷ 40 ∷ u)) × (text_accepts 23 0 u ≡ true)
rule_positive t a =
    let p = list_then 19 ListAt.positive t a in
    let r = word list_between p.1 p.3 in
    (p.0, r.0, p.2 ∙ ap (λ (z : List ℕ). list_text p.0 ++ (41 ∷ z)) r.1, r.2)

rule_negative : (t : List ℕ) → text_accepts 23 0 t ≡ true → (xs u : List ℕ) × (t ≡ list_text xs ++ (41 ∷ 41 ∷ 10 ∷ u)) × (text_accepts 10 0 u ≡ true)
rule_negative t a =
    let p = list_then 23 ListAt.negative t a in
    let r = word rule_end_lem p.1 p.3 in
    (p.0, r.0, p.2 ∙ ap (λ (z : List ℕ). list_text p.0 ++ (41 ∷ z)) r.1, r.2)

-- the parts together
rule_text_lem : (t u v w z : List ℕ) (h : ℕ) (bs cs : List ℕ) → t ≡ 40 ∷ 114 ∷ 117 ∷ 108 ∷ 101 ∷ 32 ∷ u → u ≡ decimal h ++ (32 ∷ 40 ∷ v)
    → v ≡ list_text bs ++ (41 ∷ 32 ∷ 40 ∷ w) → w ≡ list_text cs ++ (41 ∷ 41 ∷ 10 ∷ z) → t ≡ rule_text (record { head = h; positive = bs; negative = cs }) ++ z
rule_text_lem t u v w z h bs cs e f g k = rw (e, f, g, k) (sym (rule_then (record { head = h; positive = bs; negative = cs }) z))

-- a rule line, and what is accepted after it
abbrev RuleThen : List ℕ → Type 0
RuleThen t = (r : Rule) × (u : List ℕ) × (t ≡ rule_text r ++ u) × (text_accepts 10 0 u ≡ true)

rule_line : (b : ℕ) (t : List ℕ) → text_accepts 10 0 (b ∷ t) ≡ true → RuleThen (b ∷ t)
rule_line b t a = opened (rule_open b t a)
  where
    opened : (u : List ℕ) × (b ∷ t ≡ 40 ∷ 114 ∷ 117 ∷ 108 ∷ 101 ∷ 32 ∷ u) × (text_accepts 16 0 u ≡ true) → RuleThen (b ∷ t)
    opened o = headed (rule_head o.0 o.2)
      where
        headed : (x : ℕ) × (u : List ℕ) × (o.0 ≡ decimal x ++ (32 ∷ 40 ∷ u)) × (text_accepts 19 0 u ≡ true) → RuleThen (b ∷ t)
        headed h = listed (rule_positive h.1 h.3)
          where
            listed : (xs u : List ℕ) × (h.1 ≡ list_text xs ++ (41 ∷ 32 ∷ 40 ∷ u)) × (text_accepts 23 0 u ≡ true) → RuleThen (b ∷ t)
            listed p =
                let q = rule_negative p.1 p.3 in
                (record { head = h.0; positive = p.0; negative = q.0 }, q.1, rule_text_lem (b ∷ t) o.0 h.1 p.1 q.1 h.0 p.0 q.0 o.1 h.2 p.2 q.2, q.3)

-- what follows a rule is shorter
shorter : (r : Rule) (t u : List ℕ) → t ≡ rule_text r ++ u → length u < length t
shorter r t u e = omega (arith, ap length e, length-append (rule_text r) u)

rule_lines : (f : ℕ) (t : List ℕ) → length t ≤ f → text_accepts 10 0 t ≡ true → (rs : List Rule) × (t ≡ rules_text rs)
rule_lines zero [] h a = ([], refl)
rule_lines zero (b ∷ t) h a = absurd (not-suc-le-zero h)
rule_lines (suc f) [] h a = ([], refl)
rule_lines (suc f) (b ∷ t) h a = go (rule_line b t a) (rule_lines f)
  where
    go : RuleThen (b ∷ t) → ((t : List ℕ) → length t ≤ f → text_accepts 10 0 t ≡ true → (rs : List Rule) × (t ≡ rules_text rs)) → (rs : List Rule) × (b ∷ t ≡ rules_text rs)
    go q ih =
        let r = ih q.1 (omega (arith, h, shorter q.0 (b ∷ t) q.1 q.2)) q.3 in
        (q.0 ∷ r.0, q.2 ∙ ap (λ (z : List ℕ). rule_text q.0 ++ z) r.1)

atoms_line : (t : List ℕ) → text_accepts 7 0 t ≡ true → (x : ℕ) × (u : List ℕ) × (t ≡ decimal x ++ (41 ∷ 10 ∷ u)) × (text_accepts 10 0 u ≡ true)
unfolding form_step form_at literal_of act_at item_of leave_of
atoms_line t a =
    let h = number_then 7 41 9 atoms (λ b d. rw d) (λ b d. (3, 8, rw d)) (λ b d. (3, 8, rw d)) refl t a in
    let r = word atoms_end h.1 h.3 in
    (h.0, r.0, h.2 ∙ ap (λ (z : List ℕ). decimal h.0 ++ (41 ∷ z)) r.1, r.2)

pub sound : (t : List ℕ) → text_accepts 0 0 t ≡ true → HasForm t
unfolding text_of
sound t a = opened (word atoms_word t a)
  where
    opened : (u : List ℕ) × (t ≡ (40 ∷ 97 ∷ 116 ∷ 111 ∷ 109 ∷ 115 ∷ 32 ∷ []) ++ u) × (text_accepts 7 0 u ≡ true) → HasForm t
    opened o = numbered (atoms_line o.0 o.2)
      where
        numbered : (x : ℕ) × (u : List ℕ) × (o.0 ≡ decimal x ++ (41 ∷ 10 ∷ u)) × (text_accepts 10 0 u ≡ true) → HasForm t
        numbered n =
            let r = rule_lines (length n.1) n.1 (le_refl (length n.1)) n.3 in
            record {
              program = record { atoms = n.0; rules = r.0 };
              its_text = o.1 ∙ ap (λ (z : List ℕ). 40 ∷ 97 ∷ 116 ∷ 111 ∷ 109 ∷ 115 ∷ 32 ∷ z) (n.2 ∙ ap (λ (z : List ℕ). decimal n.0 ++ (41 ∷ 10 ∷ z)) r.1);
            }
