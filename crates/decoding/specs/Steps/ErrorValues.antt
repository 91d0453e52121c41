-- The values of the errors at the places found; and in words of bits, where they are known.
use Rattle.std.specs.Prelude.{◌≡◌, List, ℕ, zero, suc, ◌-◌, ◌*◌, length, set, replicate}
use Rattle.fields.specs.Lists.{tabulate}
use Rattle.fields.specs.Elements.{xor}
use Rattle.fields.specs.Steps.ByTables.{table_product, table_inverse, table_power}
use Rattle.fields.specs.Places.{at}
use Rattle.decoding.specs.declared.error_values.Errors.{Errors}
use Rattle.decoding.specs.declared.root_search.Places.{Places}
use Rattle.decoding.specs.Steps.Decoder.{locator, times_power}
use Rattle.decoding.specs.Steps.Annihilator.{Annihilates}
use Rattle.decoding.specs.Steps.RootSearch.{Roots}

-- the sequence t with all multiples of the powers of x taken out: its next entry plus x times the entry itself
unfoldable pub filtered : List ℕ → List ℕ → ℕ → List ℕ → List ℕ
filtered es ls x t = tabulate 16 (λ j. xor (at t (suc j)) (table_product es ls x (at t j)))

-- the sequence t with the powers of the locators of the first k places taken out
unfoldable pub filtered_by : List ℕ → List ℕ → ℕ → List ℕ → List ℕ → ℕ → List ℕ
filtered_by es ls n places t zero = t
filtered_by es ls n places t (suc k) = filtered es ls (locator es n (at places k)) (filtered_by es ls n places t k)

-- the product of x plus each of these locators, by which filtering multiplies the powers of x
unfoldable pub filter_factor : List ℕ → List ℕ → ℕ → List ℕ → ℕ → ℕ → ℕ
filter_factor es ls n places x zero = 1
filter_factor es ls n places x (suc k) = table_product es ls (filter_factor es ls n places x k) (xor x (locator es n (at places k)))

-- the value of the error at place k of those listed, where t are the syndromes of the errors at the places up to k
unfoldable pub error_value : List ℕ → List ℕ → ℕ → List ℕ → List ℕ → ℕ → ℕ
error_value es ls n places t k =
    table_product es ls (at (filtered_by es ls n places t k) 0) (table_inverse es ls (filter_factor es ls n places (locator es n (at places k)) k))

-- the syndromes t, with those of the error v at the locator x taken away
unfoldable pub less_error : List ℕ → List ℕ → ℕ → ℕ → List ℕ → List ℕ
less_error es ls x v t = tabulate 16 (λ j. xor (at t j) (times_power (table_product es ls) x v j))

-- the error at place k of those listed is found and taken away
unfoldable pub resolved : List ℕ → List ℕ → ℕ → ℕ → Errors → Errors
resolved es ls n k e =
    let v = error_value es ls n e.places.at e.left k in
    record { places = e.places; values = set e.values k v; left = less_error es ls (locator es n (at e.places.at k)) v e.left }

-- the places are the roots, among the locators of n places, of a polynomial that annihilates the syndromes t
pub record Located (es ls t : List ℕ) (n : ℕ) (places : List ℕ) (count : ℕ) : Type 0 where
  pub polynomial : List ℕ
  pub long : length polynomial ≡ 9
  pub annihilates : Annihilates es ls t polynomial
  pub roots : Roots es ls polynomial n n places count

-- ---- the same in words of bits

-- the syndromes t, with those of the error a^e at the locator a^e taken away
unfoldable pub less_powers : List ℕ → ℕ → List ℕ → List ℕ
less_powers es e t = tabulate 16 (λ j. xor (at t j) (table_power es (e * suc j)))

-- the error at place k of those listed has its locator for a value, and is taken away
unfoldable pub flipped : List ℕ → ℕ → ℕ → Errors → Errors
flipped es n k e =
    let x = n - suc (at e.places.at k) in
    record { places = e.places; values = set e.values k (at es x); left = less_powers es x e.left }

-- the errors at the first k places, of those listed for the syndromes t, have their locators for values, and are taken away
unfoldable pub flipped_to : List ℕ → ℕ → List ℕ → Places → ℕ → Errors
flipped_to es n t p zero = record { places = p; values = replicate 8 0; left = t }
flipped_to es n t p (suc k) = flipped es n k (flipped_to es n t p k)
