-- The places whose locators are roots of a polynomial, from place to place.
use Rattle.std.specs.Prelude.{◌≡◌, cond, List, [], ◌∷◌, ℕ, zero, suc, ◌+◌, ◌-◌, ◌≤◌, ◌<◌, eqb, ltb, length, set, map, replicate}
use Rattle.fields.specs.Lists.{tabulate}
use Rattle.fields.specs.Steps.ByTables.{table_product, table_power}
use Rattle.fields.specs.Places.{at, horner}
use Rattle.decoding.specs.declared.root_search.Places.{Places}
use Rattle.decoding.specs.declared.root_search.Term.{Term}
use Rattle.decoding.specs.declared.root_search.Terms.{Terms}
use Rattle.decoding.specs.Steps.ByTables.{table_value}
use Rattle.decoding.specs.Steps.Decoder.{locator, xor_to, times_power}

-- the places below i, of n, whose locators are roots of v; the last first
unfoldable pub root_places : List ℕ → List ℕ → List ℕ → ℕ → ℕ → List ℕ
root_places es ls v n zero = []
root_places es ls v n (suc i) =
    cond (eqb (table_value es ls v (locator es n i)) 0) (i ∷ root_places es ls v n i) (root_places es ls v n i)

-- the first k entries of a list, the last first
unfoldable pub backwards : List ℕ → ℕ → List ℕ
backwards l zero = []
backwards l (suc k) = at l k ∷ backwards l k

-- the places among the first i of n that the search keeps: the roots in ascending order, and all of them unless there are more than eight
pub record Roots (es ls v : List ℕ) (n i : ℕ) (places : List ℕ) (count : ℕ) : Type 0 where
  pub few : count ≤ 8
  pub below : (k : ℕ) → k < count → at places k < i
  pub ascending : (k l : ℕ) → k < l → l < count → at places k < at places l
  pub all : length (root_places es ls v n i) ≤ 8 → backwards places count ≡ root_places es ls v n i

-- the terms of a polynomial, with one more of exponent e, which falls by `step` from one place to the next
abbrev pub add_term : ℕ → ℕ → Terms → Terms
add_term e step t = record { terms = set t.terms t.count (record { exponent = e; step = step }); count = t.count + 1 }

-- the terms, with one more by its value, if that is not zero, and by the power of a that it loses from one place to the next
unfoldable pub with_term : List ℕ → ℕ → ℕ → Terms → Terms
with_term ls value power t = cond (eqb value 0) t (add_term (at ls value) (at ls power) t)

-- the terms of degree below k of the polynomial v at the locator x, but for those that are zero
unfoldable pub terms_to : List ℕ → List ℕ → List ℕ → ℕ → ℕ → Terms
terms_to es ls v x zero = record { terms = replicate 9 (record { exponent = 0; step = 0 }); count = 0 }
terms_to es ls v x (suc d) =
    with_term ls (table_product es ls (times_power (table_product es ls) x 1 d) (at v (8 - d))) (table_power es d) (terms_to es ls v x d)

-- the exponents of terms, and their steps
abbrev pub exponents_of : List Term → List ℕ
exponents_of terms = map (λ t. t.exponent) terms

abbrev pub steps_of : List Term → List ℕ
steps_of terms = map (λ t. t.step) terms

-- the first k entries of a list are exponents that the table of powers has
pub record Exponents (es : List ℕ) (k : ℕ) (exponents : List ℕ) : Type 0 where
  pub long : k ≤ length exponents
  pub inside : (l : ℕ) → l < k → at exponents l < length es

-- the sum of the powers with the first k exponents
unfoldable pub powers_to : List ℕ → List ℕ → ℕ → ℕ
powers_to es exponents k = xor_to k (λ l. at es (at exponents l))

-- e - d, counted modulo n, for e and d below n
unfoldable pub less_modulo : ℕ → ℕ → ℕ → ℕ
less_modulo n e d = cond (ltb e d) (e + (n - d)) (e - d)

-- the exponents, the first k of them less by their steps
unfoldable pub lowered : ℕ → List ℕ → List ℕ → ℕ → List ℕ
lowered n exponents steps zero = exponents
lowered n exponents steps (suc l) = set (lowered n exponents steps l) l (less_modulo n (at exponents l) (at steps l))

-- the locator of place i is a root of v
abbrev pub RootAt : List ℕ → List ℕ → List ℕ → ℕ → ℕ → Type 0
RootAt es ls v n i = table_value es ls v (locator es n i) ≡ 0

-- r is the first place from i on, of n, whose locator is a root of v; n, if there is none
pub record FirstRoot (es ls v : List ℕ) (n i r : ℕ) : Type 0 where
  pub from : i ≤ r
  pub most : r ≤ n
  pub before : (k : ℕ) → i ≤ k → k < r → RootAt es ls v n k → ⊥
  pub here : r < n → RootAt es ls v n r

-- the quotient of v by x + r, where r is a root: coefficient k is the value at r of the first k coefficients of v
unfoldable pub quotient_of : List ℕ → List ℕ → List ℕ → ℕ → List ℕ
quotient_of es ls v r = tabulate 9 (horner (λ u. table_product es ls u r) (at v))

-- place i joins the places if there is room
unfoldable pub kept : ℕ → Places → Places
kept i p = cond (ltb p.count 8) (record { at = set p.at p.count i; count = p.count + 1 }) p
