-- A step of each loop over a word, from what the calls in its body ensure. Assumes nothing.
use mathlib.Core.Path.{◌≡◌, refl}
use mathlib.Core.Bool.{true}
use mathlib.Core.List.{List}
use Prim.Native.Nat.{ℕ, ◌+◌, ◌≤◌, ◌<◌}
use native.Mathlib.Nat.{zero-add}
use native.Mathlib.Numerals.{add-one}
use native.Mathlib.Omega.{arith}
use lib.Dec.{lit<}
use lib.ListN.{length, get_or, set}
use Rattle.fields.specs.Elements.{xor, times_a}
use Rattle.fields.specs.Lists.{tabulate}
use Rattle.fields.specs.Steps.ByTables.{table_product, table_power}
use Rattle.fields.specs.Places.{at, all_below, horner}
use Rattle.fields.proofs.Instances.{field_a}
use Rattle.fields.proofs.Places.Tests.{below_at}
use Rattle.fields.proofs.Places.Filling.{Filled, filled_next, filled_end}
use Rattle.decoding.specs.Steps.ByTables.{table_value, root_value, root_values}
use Rattle.words.specs.ReedSolomon.{parity_of, shifted_in, divided}
use Rattle.words.specs.OuterCode.{generator, outer_parity}
use Rattle.words.proofs.Codes.TableValues.{divided_lt}
use Rattle.words.proofs.Codes.OuterWords.{generator_lt}

-- the value of the first i symbols, by Horner's rule over a lent field
unfoldable pub value_up_to : List ℕ → List ℕ → List ℕ → ℕ → ℕ → ℕ
value_up_to es ls w x i = horner (λ v. table_product es ls v x) (at w) i

module _ (es ls w : List ℕ) (x : ℕ) where
  pub value_none : 0 ≡ value_up_to es ls w x 0
  unfolding value_up_to horner
  value_none = refl

  module _ (i v : ℕ) (so_far : v ≡ value_up_to es ls w x i) where
    pub value_next : (m r : ℕ) → m ≡ table_product es ls v x → r ≡ xor m (get_or w i 0) → r ≡ value_up_to es ls w x (i + 1)
    unfolding value_up_to horner
    value_next m r em er = rw (add-one, ← so_far, ← em) er

    pub value_end : i ≤ length w → length w ≤ i → v ≡ table_value es ls w x
    unfolding value_up_to table_value
    value_end l h = let e : i ≡ length w = omega arith in rw e at so_far

module _ (es ls w values : List ℕ) (j : ℕ) (so_far : Filled 16 (root_value es ls w) j values) where
  pub root_next : (x r : ℕ) → j < 16 → x ≡ table_power es (0 + j) → r ≡ table_value es ls w x → Filled 16 (root_value es ls w) (j + 1) (set values j r)
  unfolding root_value
  root_next x r l ex er = filled_next so_far l (rw (ex, zero-add) at er)

  pub roots_end : 16 ≤ j → values ≡ root_values es ls w
  unfolding root_values
  roots_end l = filled_end so_far l

-- the register after the first i symbols of data
unfoldable pub divided_up_to : List ℕ → ℕ → List ℕ
divided_up_to d i = divided times_a 16 (at generator) (at d) i

module _ (d reg : List ℕ) where
  pub divided_none : reg ≡ tabulate 16 (λ i. 0) → reg ≡ divided_up_to d 0
  unfolding divided_up_to divided
  divided_none e = e

  module _ (i : ℕ) (so_far : reg ≡ divided_up_to d i) where
    pub divided_next : (next : List ℕ) → next ≡ shifted_in times_a 16 (at generator) reg (get_or d i 0) → next ≡ divided_up_to d (i + 1)
    unfolding divided_up_to divided
    divided_next next e = rw (add-one, ← so_far) e

    pub divided_end : i ≤ length d → length d ≤ i → reg ≡ outer_parity d
    unfolding divided_up_to parity_of
    divided_end l h = let e : i ≡ length d = omega arith in rw e at so_far

    -- the first cell is an element
    pub divided_below : all_below 1024 d ≡ true → at reg 0 < 1024
    unfolding divided_up_to
    divided_below h = rw so_far (divided_lt 10 1033 field_a 16 (at generator) (at d) generator_lt (below_at 1024 d (lit< tt) h) i 0)
