-- The reader as a fold over the bytes (document 01, "Program text" and rows 1 to 7).
--   State             a place in the form, the number being read with its first byte, what is counted, and the three arrays
--   advance s i b     the state after byte b at i
--   read_from s i t   the last state, from s at byte i over the bytes t; a text that leaves the form, or ends within it, is refused with 2
-- Assumes nothing.
use Rattle.std.specs.Prelude.{ℕ, ◌+◌, ◌≡◌, Bool, cond, List, [], ◌∷◌, eqb}
use Rattle.reader_form.specs.Automaton.{form_rule, form_step}
use Rattle.reader_work.specs.Work.{Tally, refused_of, value_after, begin_after, work_of, work_heads, work_starts, work_bodies}

pub record State : Type 0 where
  pub k : ℕ
  pub mode : ℕ
  pub value : ℕ
  pub begin : ℕ
  pub counts : Tally
  pub heads : List ℕ
  pub starts : List ℕ
  pub bodies : List ℕ

abbrev pub no_counts : Tally
no_counts = record { atoms = 0; rules = 0; held = 0; prev = 0; number = 0; spot = 0 }

abbrev pub started : List ℕ → List ℕ → List ℕ → State
started heads starts bodies =
    record { k = 0; mode = 0; value = 0; begin = 0; counts = no_counts; heads = heads; starts = starts; bodies = bodies }

abbrev pub malformed : State → ℕ → State
malformed s i =
    record { k = s.k; mode = s.mode; value = s.value; begin = s.begin; counts = refused_of s.counts 2 i; heads = s.heads; starts = s.starts; bodies = s.bodies }

abbrev pub dead_at : State → ℕ → Bool
dead_at s b = eqb (form_step s.k s.mode b).mode 4

abbrev pub advance : State → ℕ → ℕ → State
advance s i b =
    let p = form_step s.k s.mode b in
    record {
      k = p.k;
      mode = p.mode;
      value = value_after p.act s.value b;
      begin = begin_after p.act s.begin i;
      counts = work_of p.act s.k s.value s.begin i s.counts;
      heads = work_heads p.act s.k s.value s.counts s.heads;
      starts = work_starts p.act s.counts s.starts;
      bodies = work_bodies p.act s.k s.value s.counts s.bodies;
    }

unfoldable pub ended : State → ℕ → State
ended s i = cond (eqb s.k form_rule) (cond (eqb s.mode 0) s (malformed s i)) (malformed s i)

unfoldable pub read_from : State → ℕ → List ℕ → State
read_from s i [] = ended s i
read_from s i (b ∷ t) = cond (dead_at s b) (malformed s i) (read_from (advance s i b) (i + 1) t)

-- counts and arrays are those of a state
pub record Ends (c : Tally) (heads starts bodies : List ℕ) (s : State) : Type 0 where
  pub ends_counts : c ≡ s.counts
  pub ends_heads : heads ≡ s.heads
  pub ends_starts : starts ≡ s.starts
  pub ends_bodies : bodies ≡ s.bodies
