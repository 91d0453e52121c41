-- Locators and the resolving of the errors: a law for each way through a function and for each step of a loop. Assumes nothing.
use mathlib.Core.Path.{◌≡◌, refl, ap, ap₂, ◌∙◌}
use mathlib.Core.List.{List}
use Prim.Native.Nat.{ℕ, suc, ◌+◌, ◌-◌, ◌≤◌, ◌<◌}
use native.Mathlib.Numerals.{add-one}
use native.Mathlib.Omega.{arith}
use borrow.Author.Tests.{eq-eqb, ne_eqb}
use lib.ListN.{get_or, set}
use Rattle.fields.specs.Elements.{xor}
use Rattle.fields.specs.Steps.ByTables.{table_product, table_inverse, table_power}
use Rattle.fields.specs.Places.{at, sum_to, differs}
use Rattle.fields.proofs.Places.Filling.{Filled, filled_next, filled_end}
use Rattle.decoding.specs.declared.error_values.Errors.{Errors}
use Rattle.decoding.specs.Steps.Decoder.{locator, times_power, change_between, weight_between}
use Rattle.decoding.specs.Steps.ErrorValues.{filtered, filtered_by, filter_factor, error_value, less_error, resolved}
use Rattle.decoding.proofs.Decoding.Changes.{change_inside}

-- the locator, by the exponent
pub locator_by : (es : List ℕ) (n i s t r : ℕ) → s ≡ n - i → t ≡ s - 1 → r ≡ table_power es t → r ≡ locator es n i
unfolding locator
locator_by es n i s t r ea eb e = let q : t ≡ n - suc i = omega arith in rw (← q) e

-- ---- the values

-- entry j of a sequence with the powers of x filtered out
unfoldable pub filtered_entry : List ℕ → List ℕ → ℕ → List ℕ → ℕ → ℕ
filtered_entry es ls x t j = xor (at t (suc j)) (table_product es ls x (at t j))

module _ (es ls : List ℕ) (x : ℕ) (t s : List ℕ) (j : ℕ) (so_far : Filled 16 (filtered_entry es ls x t) j s) where
  pub filtered_next : (a b r : ℕ) → j < 16 → a ≡ at t (j + 1) → b ≡ table_product es ls x (get_or t j 0) → r ≡ xor a b →
      Filled 16 (filtered_entry es ls x t) (j + 1) (set s j r)
  unfolding filtered_entry
  filtered_next a b r l ea eb er = filled_next so_far l (er ∙ ap₂ xor (ea ∙ ap (at t) (add-one j)) eb)

  pub filtered_end : 16 ≤ j → s ≡ filtered es ls x t
  unfolding filtered filtered_entry
  filtered_end l = filled_end so_far l

pub factor_made : (es ls : List ℕ) (f x y s r : ℕ) → s ≡ xor x y → r ≡ table_product es ls f s → r ≡ table_product es ls f (xor x y)
factor_made es ls f x y s r e er = rw e at er

-- the locators of the first i places are filtered out, and the factor of x is known
module _ (es ls : List ℕ) (n : ℕ) (places t : List ℕ) where
  pub filter_none : t ≡ filtered_by es ls n places t 0
  unfolding filtered_by
  filter_none = refl

  pub filter_next : (i : ℕ) (s : List ℕ) → s ≡ filtered_by es ls n places t i → (y : ℕ) (r : List ℕ) → y ≡ locator es n (get_or places i 0) → r ≡ filtered es ls y s →
      r ≡ filtered_by es ls n places t (i + 1)
  unfolding filtered_by
  filter_next i s e y r ey er = rw (add-one, ← e, ← ey) er

module _ (es ls : List ℕ) (n : ℕ) (places : List ℕ) (x : ℕ) where
  pub factor_none : 1 ≡ filter_factor es ls n places x 0
  unfolding filter_factor
  factor_none = refl

  pub factor_next : (i f : ℕ) → f ≡ filter_factor es ls n places x i → (y r : ℕ) → y ≡ locator es n (get_or places i 0) → r ≡ table_product es ls f (xor x y) →
      r ≡ filter_factor es ls n places x (i + 1)
  unfolding filter_factor
  factor_next i f e y r ey er = rw (add-one, ← e, ← ey) er

pub value_found : (es ls : List ℕ) (n : ℕ) (places t : List ℕ) (k i x : ℕ) (s : List ℕ) (f g r : ℕ) → i ≤ k → k ≤ i → x ≡ locator es n (get_or places k 0) →
    s ≡ filtered_by es ls n places t i → f ≡ filter_factor es ls n places x i → g ≡ table_inverse es ls f → r ≡ table_product es ls (get_or s 0 0) g →
    r ≡ error_value es ls n places t k
unfolding error_value
value_found es ls n places t k i x s f g r lo hi ex es' ef eg er =
    let q : i ≡ k = omega arith in
    er ∙ ap₂ (table_product es ls) (ap (λ (u : List ℕ). at u 0) (rw q at es')) (eg ∙ ap (table_inverse es ls) (rw (q, ex) at ef))

-- entry j of the syndromes with those of the error v at the locator x taken away
unfoldable pub less_entry : List ℕ → List ℕ → ℕ → ℕ → List ℕ → ℕ → ℕ
less_entry es ls x v t j = xor (at t j) (times_power (table_product es ls) x v j)

pub power_none : (es ls : List ℕ) (x v : ℕ) → v ≡ times_power (table_product es ls) x v 0
unfolding times_power
power_none es ls x v = refl

pub power_next : (es ls : List ℕ) (x v c j r : ℕ) → c ≡ times_power (table_product es ls) x v j → r ≡ table_product es ls x c →
    r ≡ times_power (table_product es ls) x v (j + 1)
unfolding times_power
power_next es ls x v c j r e er = rw (add-one, ← e) er

module _ (es ls : List ℕ) (x v : ℕ) (t s : List ℕ) (j : ℕ) (so_far : Filled 16 (less_entry es ls x v t) j s) where
  pub less_next : (c r : ℕ) → j < 16 → c ≡ times_power (table_product es ls) x v j → r ≡ xor (get_or t j 0) c →
      Filled 16 (less_entry es ls x v t) (j + 1) (set s j r)
  unfolding less_entry
  less_next c r l ec er = filled_next so_far l (rw ec at er)

  pub less_end : 16 ≤ j → s ≡ less_error es ls x v t
  unfolding less_error less_entry
  less_end l = filled_end so_far l

pub resolved_made : (es ls : List ℕ) (n k : ℕ) (e : Errors) (v x i : ℕ) (left : List ℕ) → v ≡ error_value es ls n e.places.at e.left k →
    x ≡ locator es n i → i ≡ get_or e.places.at k 0 → left ≡ less_error es ls x v e.left →
    record { places = e.places; values = set e.values k v; left = left } ≡ resolved es ls n k e
unfolding resolved
resolved_made es ls n k e v x i left ev ex ei el = rw (el, ex, ei, ev)

-- ---- the weight

module _ (from to place v : ℕ) where
  pub change_not : from ≤ place → place < to → v ≡ 0 → 0 ≡ change_between from to place v
  unfolding differs
  change_not l h e = rw (change_inside from to place v l h, eq-eqb v 0 e)

  pub change_so : from ≤ place → place < to → (v ≡ 0 → ⊥) → 1 ≡ change_between from to place v
  unfolding differs
  change_so l h n = rw (change_inside from to place v l h, ne_eqb v 0 n)

module _ (from to : ℕ) (places values : List ℕ) where
  pub weight_none : 0 ≡ weight_between from to places values 0
  unfolding weight_between sum_to
  weight_none = refl

  module _ (k n : ℕ) (so_far : n ≡ weight_between from to places values k) where
    pub weight_next : (r : ℕ) → r ≡ change_between from to (get_or places k 0) (get_or values k 0) → n + r ≡ weight_between from to places values (k + 1)
    unfolding weight_between sum_to
    weight_next r e = rw (add-one, ← so_far, e)

    pub weight_end : (count : ℕ) → k ≤ count → count ≤ k → n ≡ weight_between from to places values count
    weight_end count l h = let e : k ≡ count = omega arith in rw e at so_far
