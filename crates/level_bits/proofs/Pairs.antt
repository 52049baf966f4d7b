-- What the levels and the pairs of a code in its tables (Tabled G ..) ask and write; ls are the bytes of the levels.
--   levels_taken                  of the levels of n atoms, the bits of the levels of atoms 1 to n
--   chains_room                   how much room the two chains of a pair take does not depend on the levels
--   pairs_asks, pairs_done    one pair of many
--   pair_fits, partner_fits, owner_fits, pair_row    pair k, its body atom and its head
-- Assumes nothing.
use Prim.Native.Nat.{ℕ, zero, suc, ◌+◌, ◌-◌, ◌≤◌, ◌<◌}
use native.Mathlib.Omega.{arith}
use mathlib.Core.Path.{◌≡◌, sym, ◌∙◌, ap, ap₂, subst}
use mathlib.Core.Bool.{So}
use mathlib.Core.List.{List}
use lib.ListN.{length, get_or, take, length-append}
use lib.Seq.{length-take-le, get_or-take}
use Rattle.lists.proofs.Tables.{length_tab, each_ext}
use Rattle.meaning.specs.Program.{is_atom}
use Rattle.encoding.specs.Code.{Code, pair_total, pair_body, pair_head}
use Rattle.encoding.specs.Fill.{less_at}
use Rattle.theory.proofs.Atoms.{atom_pos, atom_le}
use Rattle.theory.proofs.Pairs.{body_in, head_in}
use Rattle.clause_tables.specs.declared.Totals.{Totals}
use Rattle.clause_tables.specs.Tables.{Tabled}
use Rattle.clause_table_laws.proofs.Elements.{ranges, pairs_fit, atoms_are, pairs_are, partner_is, owner_is}
use Rattle.level_lists.specs.Bytes.{level_byte}
use Rattle.level_bits.specs.Bits.{byte_of, bit_bytes, level_bytes, less_bytes, pair_bytes, pair_at_bytes}

pub levels_taken : (n w d : ℕ) (ls : List ℕ) → n ≤ length ls → level_bytes (length (take n ls)) w d (level_byte (take n ls)) ≡ level_bytes n w d (level_byte ls)
levels_taken n w d ls h =
    ap (λ (k : ℕ). level_bytes k w d (level_byte (take n ls))) (length-take-le n ls h)
    ∙ each_ext n _ _ (λ i l. ap (λ (x : ℕ). bit_bytes w (x + d)) (get_or-take n ls i 0 l))

chains_length : (w x y : ℕ) → length (pair_bytes w x y) ≡ w + w
chains_length w x y =
    omega (
      arith,
      length-append (less_bytes w x y) (less_bytes w (x + 1) y),
      length_tab w (λ i. byte_of (less_at x y i)),
      length_tab w (λ i. byte_of (less_at (x + 1) y i)),
    )

pub chains_room : (w x y u v : ℕ) {k : ℕ} → length (pair_bytes w x y) ≤ k → length (pair_bytes w u v) ≤ k
chains_room w x y u v f = omega (arith, chains_length w x y, chains_length w u v, f)

-- ---- of the tables

module _ {G : Code} {t : Totals} {hs ss bs ks xs ys : List ℕ} (T : Tabled G t hs ss bs ks xs ys) where
  atoms : t.sizes.n ≡ G.n
  atoms = atoms_are G t hs ss bs ks xs ys T

  -- pair k + 1, where there are k before it
  pub pairs_asks : (k : ℕ) → k < t.pairs → k < pair_total G
  pairs_asks k h = subst (λ (m : ℕ). k < m) (pairs_are G t hs ss bs ks xs ys T) h

  pub pairs_done : (k : ℕ) → k ≤ t.pairs → t.pairs ≤ k → (k ≤ pair_total G) × (pair_total G ≤ k)
  pairs_done k h l = (subst (λ (m : ℕ). k ≤ m) (pairs_are G t hs ss bs ks xs ys T) h, subst (λ (m : ℕ). m ≤ k) (pairs_are G t hs ss bs ks xs ys T) l)

  -- ---- pair k
  module _ (k : ℕ) (p : 0 < k) (h : k ≤ t.pairs) where
    inside : k ≤ pair_total G
    inside = subst (λ (m : ℕ). k ≤ m) (pairs_are G t hs ss bs ks xs ys T) h

    pub pair_fits : k ≤ 500
    pair_fits = omega (arith, inside, pairs_fit G T.limits)

    body_of_lem : {b : ℕ} → b ≡ get_or xs (k - 1) 0 → b ≡ pair_body G k
    body_of_lem e = e ∙ partner_is G t hs ss bs ks xs ys T k p inside

    head_of_lem : {b : ℕ} → b ≡ get_or ys (k - 1) 0 → b ≡ pair_head G k
    head_of_lem e = e ∙ owner_is G t hs ss bs ks xs ys T k p inside

    -- both are atoms, and have a byte among the levels ls
    has_byte : (ls : List ℕ) {a b : ℕ} → t.sizes.n ≤ length ls → a ≡ b → So (is_atom G.n b) → (0 < a) × (a ≤ length ls)
    has_byte ls {a} {b} l e u =
        let v = subst (λ (x : ℕ). So (is_atom G.n x)) (sym e) u in (atom_pos G.n a v, omega (arith, atoms, atom_le G.n a v, l))

    pub partner_fits : (ls : List ℕ) {b : ℕ} → t.sizes.n ≤ length ls → b ≡ get_or xs (k - 1) 0 → (0 < b) × (b ≤ length ls)
    partner_fits ls l e = has_byte ls l (body_of_lem e) (go k p inside)
      where
        go : (k : ℕ) → 0 < k → k ≤ pair_total G → So (is_atom G.n (pair_body G k))
        go zero p h = absurd (omega (arith, p))
        go (suc j) p h = body_in G (ranges G T.limits) j h

    pub owner_fits : (ls : List ℕ) {b : ℕ} → t.sizes.n ≤ length ls → b ≡ get_or ys (k - 1) 0 → (0 < b) × (b ≤ length ls)
    owner_fits ls l e = has_byte ls l (head_of_lem e) (go k p inside)
      where
        go : (k : ℕ) → 0 < k → k ≤ pair_total G → So (is_atom G.n (pair_head G k))
        go zero p h = absurd (omega (arith, p))
        go (suc j) p h = head_in G (ranges G T.limits) j h

    -- x and y are the levels of its body atom b and its head a
    pub pair_row : (w : ℕ) (ls : List ℕ) {a b x y : ℕ} → b ≡ get_or xs (k - 1) 0 → x ≡ level_byte ls b → a ≡ get_or ys (k - 1) 0 → y ≡ level_byte ls a
        → pair_bytes w x y ≡ pair_at_bytes G w (level_byte ls) k
    pair_row w ls e f g l = ap₂ (pair_bytes w) (f ∙ ap (level_byte ls) (body_of_lem e)) (l ∙ ap (level_byte ls) (head_of_lem g))
