-- A constant table is right at all of its entries by one test that is computed over the whole table: a walk along the powers by the
-- doubling rule, at each step of which an entry is compared. Assumes nothing.
use mathlib.Core.Path.{◌≡◌, refl, ◌∙◌, sym, ap}
use mathlib.Core.Bool.{Bool}
use mathlib.Core.List.{List}
use Prim.Native.Nat.{ℕ, zero, suc, ◌-◌, ◌^◌, ◌<◌}
use native.Mathlib.Nat.{zero-add, zero-lt-suc}
use lib.Dec.{T, eqb, eqb→eq}
use lib.ListN.{length, get_or}
use Rattle.fields.specs.Elements.{power, exponent, powers, exponents}
use Rattle.fields.specs.Field.{Field}
use Rattle.fields.proofs.Lists.{tabulate_is}
use Rattle.fields.proofs.Pieces.{pieces, look, look_is, once, once_is}
use Rattle.fields.proofs.Walk.{walk, walk_at}

-- the i-th entry is x; the entry at x is i
abbrev pub entry_is : List (List ℕ) → ℕ → ℕ → Bool
entry_is rs i x = eqb (look rs i) x

abbrev pub entry_gives : List (List ℕ) → ℕ → ℕ → Bool
entry_gives rs i x = eqb (look rs x) i

module _ (m p : ℕ) where
  -- a walk over all the powers, with the pieces of a table at hand
  abbrev over : (List (List ℕ) → ℕ → ℕ → Bool) → List (List ℕ) → Bool
  over f rs = walk m p (f rs) (2 ^ m - 1) 0 1

  abbrev pub whole : (List (List ℕ) → ℕ → ℕ → Bool) → List ℕ → Bool
  whole f xs = once (over f) (pieces xs)

  whole_at : (f : List (List ℕ) → ℕ → ℕ → Bool) (xs : List ℕ) → T (whole f xs) → (i : ℕ) → i < 2 ^ m - 1 → T (f (pieces xs) i (power m p i))
  unfolding power
  whole_at f xs t i h = rw zero-add at (walk_at m p (f (pieces xs)) (2 ^ m - 1) 0 1 refl (once_is (over f) (pieces xs) t) i h)

  -- a table of powers has at each exponent its power
  pub powers_are : (es : List ℕ) → length es ≡ 2 ^ m - 1 → T (whole entry_is es) → es ≡ powers m p
  unfolding powers
  powers_are es e t = tabulate_is (2 ^ m - 1) (power m p) es 0 e entry
    where
      entry : (i : ℕ) → i < 2 ^ m - 1 → get_or es i 0 ≡ power m p i
      entry i h = sym (look_is es i (rw e h)) ∙ eqb→eq (look (pieces es) i) (power m p i) (whole_at entry_is es t i h)

  -- a table of exponents has at each power its exponent, and 0 at 0
  pub exponents_are : Field m p → (ls : List ℕ) → length ls ≡ 2 ^ m → get_or ls 0 0 ≡ 0 → T (whole entry_gives ls) → ls ≡ exponents m p
  unfolding exponents
  exponents_are F ls e z t = tabulate_is (2 ^ m) (exponent m p) ls 0 e entry
    where
      entry : (x : ℕ) → x < 2 ^ m → get_or ls x 0 ≡ exponent m p x
      entry zero h = z ∙ sym F.exponent_zero
      entry (suc x) h =
          let i = exponent m p (suc x) in
          sym (look_is ls (suc x) (rw e h)) ∙ ap (look (pieces ls)) (sym (F.power_exponent (suc x) (zero-lt-suc x) h))
          ∙ eqb→eq (look (pieces ls) (power m p i)) i (whole_at entry_gives ls t i (F.exponent_lt (suc x)))
