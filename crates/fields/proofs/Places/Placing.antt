-- Loops that store a list into a buffer from a place on. Assumes nothing.
use mathlib.Core.Path.{◌≡◌, refl, sym, ap, ◌∙◌}
use mathlib.Core.List.{List, ◌++◌}
use Prim.Native.Nat.{ℕ, ◌+◌, ◌-◌, ◌≤◌, ◌<◌, zero-le}
use native.Mathlib.Decide.{ℕ_discrete, dec_lt}
use native.Mathlib.Nat.{not-suc-le-zero}
use native.Mathlib.Omega.{arith}
use lib.ListN.{length, set, length-set, length-append, get_or-append}
use lib.Seq.{get_or-set_same, get_or-set_other, get_or-append-add}
use Rattle.fields.specs.Places.{at}
use Rattle.fields.specs.Steps.Buffers.{Placed}

-- the invariant: the first k places of xs are stored
pub record Placing (i : ℕ) (xs : List ℕ) (k : ℕ) (before after : List ℕ) : Type 0 where
  pub long : length after ≡ length before
  pub within : k ≤ length xs
  pub inside : (j : ℕ) → j < k → at after (i + j) ≡ at xs j
  pub below : (j : ℕ) → j < i → at after j ≡ at before j
  pub above : (j : ℕ) → i + k ≤ j → at after j ≡ at before j

pub placing_start : {i : ℕ} {xs before : List ℕ} → Placing i xs 0 before before
placing_start =
    record { long = refl; within = zero-le; inside = λ j h. absurd (not-suc-le-zero h); below = λ j h. refl; above = λ j h. refl }

pub placing_next : {i k v : ℕ} {xs before after : List ℕ} → Placing i xs k before after → k < length xs → i + length xs ≤ length before → v ≡ at xs k
    → Placing i xs (k + 1) before (set after (i + k) v)
placing_next {i} {k} {v} {xs} {before} {after} p h room e =
    record {
      long = length-set after (i + k) v ∙ p.long;
      within = omega arith;
      inside = λ j b. stored j b (ℕ_discrete j k);
      below = λ j b. get_or-set_other after (i + k) j v 0 (λ q. omega arith) ∙ p.below j b;
      above = λ j b. get_or-set_other after (i + k) j v 0 (λ q. omega arith) ∙ p.above j (omega arith);
    }
  where
    stored : (j : ℕ) → j < k + 1 → Dec (j ≡ k) → at (set after (i + k) v) (i + j) ≡ at xs j
    stored j b (yes q) = rw q (get_or-set_same after (i + k) v 0 (omega (arith, p.long)) ∙ e)
    stored j b (no q) = get_or-set_other after (i + k) (i + j) v 0 (λ r. q (omega arith)) ∙ p.inside j (omega arith)

pub placing_end : {i k : ℕ} {xs before after : List ℕ} → Placing i xs k before after → length xs ≤ k → Placed i xs before after
placing_end {i} {k} {xs} {before} {after} p h =
    let e : k ≡ length xs = omega (arith, p.within) in
    record { long = p.long; inside = λ j b. p.inside j (omega arith); below = p.below; above = λ j b. p.above j (omega arith) }

-- n places at once
pub placing_more : {i k n : ℕ} {xs ys before mid after : List ℕ} → Placing i xs k before mid → Placed (i + k) ys mid after → length ys ≡ n →
    k + n ≤ length xs → ((j : ℕ) → j < n → at ys j ≡ at xs (k + j)) → Placing i xs (k + n) before after
placing_more {i} {k} {n} {xs} {ys} {before} {mid} {after} p q e room same =
    record {
      long = q.long ∙ p.long;
      within = room;
      inside = λ j b. stored j b (dec_lt j k);
      below = λ j b. q.below j (omega arith) ∙ p.below j b;
      above = λ j b. q.above j (omega arith) ∙ p.above j (omega arith);
    }
  where
    stored : (j : ℕ) → j < k + n → Dec (j < k) → at after (i + j) ≡ at xs j
    stored j b (yes l) = q.below (i + j) (omega arith) ∙ p.inside j l
    stored j b (no l) =
        let f : i + j ≡ i + k + (j - k) = omega arith in
        ap (at after) f ∙ q.inside (j - k) (omega arith) ∙ same (j - k) (omega arith) ∙ ap (at xs) (omega arith)

-- place i of two lists, the first of length n
pub append_at : (xs ys : List ℕ) (n i : ℕ) {v : ℕ} → length xs ≡ n → (i < n → at xs i ≡ v) → (n ≤ i → at ys (i - n) ≡ v) → at (xs ++ ys) i ≡ v
append_at xs ys n i {v} e first past = go (dec_lt i n)
  where
    go : Dec (i < n) → at (xs ++ ys) i ≡ v
    go (yes l) = get_or-append xs ys 0 i (omega arith) ∙ first l
    go (no l) =
        let q : i ≡ length xs + (i - n) = omega arith in
        ap (at (xs ++ ys)) q ∙ get_or-append-add xs ys (i - n) 0 ∙ past (omega arith)

-- one list after another
pub placed_append : {i n : ℕ} {xs ys a b c : List ℕ} → length xs ≡ n → Placed i xs a b → Placed (i + n) ys b c → Placed i (xs ++ ys) a c
placed_append {i} {n} {xs} {ys} {a} {b} {c} l p q =
    record {
      long = q.long ∙ p.long;
      inside = λ j h. sym (append_at xs ys n j l (λ s. sym (q.below (i + j) (omega arith) ∙ p.inside j (omega arith)))
          (λ s. let f : i + j ≡ i + n + (j - n) = omega arith in sym (ap (at c) f ∙ q.inside (j - n) (omega (arith, length-append xs ys)))));
      below = λ j h. q.below j (omega arith) ∙ p.below j h;
      above = λ j h. q.above j (omega (arith, length-append xs ys)) ∙ p.above j (omega (arith, length-append xs ys));
    }
