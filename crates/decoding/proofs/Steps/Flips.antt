-- Errors in words of bits: a law for each way through a function and for each step of a loop. Assumes nothing.
use mathlib.Core.Path.{◌≡◌, refl, sym, ap, ◌∙◌}
use mathlib.Core.List.{List}
use Prim.Native.Nat.{ℕ, zero, suc, ◌+◌, ◌-◌, ◌*◌, ◌%◌, ◌≤◌, ◌<◌}
use native.Mathlib.Nat.{mod-add-mod, mod-eq_of_lt, mod-eq-sub-mod, mod-lt, mul-one, mul-suc}
use native.Mathlib.Numerals.{add-one}
use native.Mathlib.Omega.{arith}
use lib.ListN.{length, get_or, set, replicate}
use Rattle.fields.specs.Elements.{xor}
use Rattle.fields.specs.Steps.ByTables.{table_power, wrapped}
use Rattle.fields.specs.Places.{at}
use Rattle.fields.proofs.Ways.{wrapped_modulo}
use Rattle.fields.proofs.Places.Filling.{Filled, filled_start, filled_next, filled_end}
use Rattle.decoding.specs.declared.error_values.Errors.{Errors}
use Rattle.decoding.specs.declared.root_search.Places.{Places}
use Rattle.decoding.specs.Steps.ErrorValues.{less_powers, flipped, flipped_to}

-- a sum modulo n: below n it stays, else n is taken away; `wrapped` does either
module _ (n e d : ℕ) where
  pub plus_low : e + d < n → e + d ≡ (e + d) % n
  plus_low h = sym (mod-eq_of_lt h)

  pub plus_high : e < n → d < n → n ≤ e + d → e + d - n ≡ (e + d) % n
  plus_high he hd h = sym (mod-eq-sub-mod h ∙ mod-eq_of_lt (omega arith))

pub plus_is : (n e d r : ℕ) → e < n → d < n → r ≡ wrapped n (e + d) → r ≡ (e + d) % n
plus_is n e d r he hd er = er ∙ wrapped_modulo n (e + d) (omega arith)

-- entry j of the syndromes with those of the error a^e at a^e taken away
unfoldable pub less_power : List ℕ → ℕ → List ℕ → ℕ → ℕ
less_power es e t j = xor (at t j) (table_power es (e * suc j))

-- the first j entries are there, and k is the exponent of the next power
pub record LessPowers (es : List ℕ) (e : ℕ) (t : List ℕ) (j : ℕ) (s : List ℕ) (k : ℕ) : Type 0 where
  pub filled : Filled 16 (less_power es e t) j s
  pub exponent : k ≡ e * suc j % length es
  pub inside : k < length es

module _ (es : List ℕ) (e : ℕ) (t : List ℕ) where
  pub powers_none : (s : List ℕ) → length s ≡ 16 → e < length es → LessPowers es e t 0 s e
  powers_none s long h = record { filled = filled_start long; exponent = sym (ap (λ (x : ℕ). x % length es) (mul-one e) ∙ mod-eq_of_lt h); inside = h }

  module _ (j : ℕ) (s : List ℕ) (k : ℕ) (so_far : LessPowers es e t j s k) where
    pub powers_next : (r l : ℕ) → j < 16 → r ≡ xor (get_or t j 0) (get_or es k 0) → l ≡ (k + e) % length es → LessPowers es e t (j + 1) (set s j r) l
    unfolding less_power table_power
    powers_next r l h er el =
        record {
          filled = filled_next so_far.filled h (rw so_far.exponent at er);
          exponent = rw (add-one, mul-suc e (suc j)) (el ∙ ap (λ (x : ℕ). (x + e) % length es) so_far.exponent ∙ mod-add-mod (e * suc j) (length es) e);
          inside = rw el (mod-lt (k + e) (omega (arith, so_far.inside)));
        }

    pub powers_end : 16 ≤ j → s ≡ less_powers es e t
    unfolding less_power less_powers
    powers_end h = filled_end so_far.filled h

pub flipped_made : (es : List ℕ) (n k : ℕ) (e : Errors) (left : List ℕ) → left ≡ less_powers es (n - 1 - get_or e.places.at k 0) e.left →
    record { places = e.places; values = set e.values k (get_or es (n - 1 - get_or e.places.at k 0) 0); left = left } ≡ flipped es n k e
unfolding flipped
flipped_made es n k e left el = let q : n - suc (get_or e.places.at k 0) ≡ n - 1 - get_or e.places.at k 0 = omega arith in rw (q, el)

-- the first k places
module _ (es : List ℕ) (n : ℕ) (t : List ℕ) (p : Places) where
  pub flipped_none : record { places = p; values = replicate 8 0; left = t } ≡ flipped_to es n t p 0
  unfolding flipped_to
  flipped_none = refl

  places_stay : (k : ℕ) → (flipped_to es n t p k).places ≡ p
  unfolding flipped_to flipped
  places_stay zero = refl
  places_stay (suc k) = places_stay k

  module _ (k : ℕ) (e : Errors) (so_far : e ≡ flipped_to es n t p k) where
    pub flipped_place : ((l : ℕ) → l < p.count → at p.at l < n) → k < p.count → get_or e.places.at k 0 < n
    flipped_place below h = let q : e.places ≡ p = ap (λ (u : Errors). u.places) so_far ∙ places_stay k in rw q (below k h)

    pub flipped_next : (r : Errors) → r ≡ flipped es n k e → r ≡ flipped_to es n t p (k + 1)
    unfolding flipped_to
    flipped_next r er = rw (add-one, ← so_far) er

    pub flipped_end : k ≤ p.count → p.count ≤ k → e ≡ flipped_to es n t p p.count
    flipped_end l h = let q : k ≡ p.count = omega arith in rw q at so_far
