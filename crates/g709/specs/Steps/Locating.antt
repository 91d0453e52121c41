-- The locator polynomials of the sixteen words of a row, side by side, and the places of their roots.
use Rattle.std.specs.Prelude.{◌≡◌, cond, List, ℕ, ◌/◌, ◌%◌, ◌<◌, eqb, length}
use Rattle.fields.specs.Lists.{tabulate}
use Rattle.fields.specs.Elements.{powers_c, exponents_c}
use Rattle.fields.specs.Places.{at}
use Rattle.decoding.specs.Steps.Annihilator.{Annihilates}
use Rattle.decoding.specs.Steps.RootSearch.{Roots}
use Rattle.g709.specs.Steps.Restoring.{lane_of}
use Rattle.g709.specs.Steps.RootColumns.{polynomial_of, column_values}

-- polynomial k stored among the sixteen
unfoldable pub polynomial_stored : List ℕ → ℕ → List ℕ → List ℕ
polynomial_stored terms k v = tabulate (length terms) (λ i. cond (eqb (i % 16) k) (at v (i / 16)) (at terms i))

-- polynomial k annihilates the syndromes of word k
abbrev pub LocatorAt : List ℕ → List ℕ → ℕ → Type 0
LocatorAt s terms k = Annihilates powers_c exponents_c (lane_of s k) (polynomial_of terms k)

-- the first n polynomials do
pub record LocatorsTo (s : List ℕ) (n : ℕ) (terms : List ℕ) : Type 0 where
  pub each : (k : ℕ) → k < n → LocatorAt s terms k

-- polynomial k is set, and the others are as they were
pub record LocatorSet (s : List ℕ) (k : ℕ) (before terms : List ℕ) : Type 0 where
  pub long : length terms ≡ 144
  pub here : LocatorAt s terms k
  pub others : (j : ℕ) → j < 16 → (j ≡ k → ⊥) → polynomial_of terms j ≡ polynomial_of before j

-- the values, at all powers of a, of polynomials that annihilate the words' syndromes
pub record LocatorValues (s values : List ℕ) : Type 0 where
  pub terms : List ℕ
  pub locators : LocatorsTo s 16 terms
  pub values_are : values ≡ column_values terms

-- the places, among the first i, where polynomial k has a root, whatever the polynomials are whose values these are
pub record PlacesTo (values : List ℕ) (k i : ℕ) (places : List ℕ) (count : ℕ) : Type 0 where
  pub roots : (terms : List ℕ) → values ≡ column_values terms → Roots powers_c exponents_c (polynomial_of terms k) 255 i places count
