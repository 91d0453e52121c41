-- Inner words that candidates invert in more than eight places, counted bit-sliced. Assumes nothing.
use mathlib.Core.Path.{◌≡◌, refl, sym, ap, ap₂, ◌∙◌}
use mathlib.Core.Bool.{Bool, true, false, cond}
use mathlib.Core.List.{List}
use Prim.Native.Nat.{ℕ, zero, suc, ◌+◌, ◌^◌, ◌≤◌, ◌<◌, zero-le}
use native.Mathlib.Decide.{ℕ_discrete, dec_le, dec_lt}
use native.Mathlib.Nat.{add-zero}
use native.Mathlib.Numerals.{add-one}
use native.Mathlib.Omega.{arith}
use borrow.Author.Tests.{lt-ltb, le-ltb}
use lib.Bits.{bit_and, bit_or, and_le_r, and_zero_r, or_zero_r, or_lt}
use lib.Dec.{ltb, lit<, lit≤}
use lib.ListN.{length, get_or, set, replicate, length-set}
use lib.Seq.{get_or-set_same, get_or-set_other}
use mir.Syntax.{w64}
use mir.Val.{Fits}
use Rattle.fields.specs.Elements.{scale}
use Rattle.fields.specs.Places.{at, sum_to}
use Rattle.fields.proofs.Places.Filling.{zeros_at}
use Rattle.words.specs.Bits.{bit_of}
use Rattle.words.proofs.Bits.Numbers.{bit_of_lt, bit_of_zero, number_of_same, number_of_bits_lem}
use Rattle.words.proofs.Codes.Horner.{scale_one, scale_zero}
use Rattle.inner_words.specs.Steps.Candidates.{above, Raised, flips_in, too_many}
use Rattle.inner_words.proofs.Interleaving.BitSliced.{bit_or_lem, bit_product}

-- ---- a number above j

pub above_lt : (j n : ℕ) → above j n < 2
unfolding above
above_lt j n = go (ltb j n)
  where
    go : (t : Bool) → cond t 1 0 < 2
    go true = lit< tt
    go false = lit< tt

pub above_not : (j n : ℕ) → above j n ≡ 0 → n ≤ j
unfolding above
above_not j n e = go (dec_le n j)
  where
    go : Dec (n ≤ j) → n ≤ j
    go (yes h) = h
    go (no g) = absurd (omega (arith, rw (lt-ltb j n (omega arith)) at e))

above_is : (j n : ℕ) → j < n → above j n ≡ 1
unfolding above
above_is j n h = rw (lt-ltb j n h)

above_none : (j n : ℕ) → n ≤ j → above j n ≡ 0
unfolding above
above_none j n h = rw (le-ltb j n h)

-- one more, or none
above_zero : (n b : ℕ) → b < 2 → bit_or (above 0 n) b ≡ above 0 (n + b)
above_zero n zero h = or_zero_r (above 0 n) ∙ ap (above 0) (sym (add-zero n))
above_zero n (suc zero) h = go (dec_lt 0 n)
  where
    go : Dec (0 < n) → bit_or (above 0 n) 1 ≡ above 0 (n + 1)
    go (yes l) = rw (above_is 0 n l, above_is 0 (n + 1) (omega arith))
    go (no l) = rw (above_none 0 n (omega arith), above_is 0 (n + 1) (omega arith))
above_zero n (suc (suc b)) h = absurd (omega arith)

above_next : (j n b : ℕ) → b < 2 → bit_or (above (suc j) n) (scale (above j n) b) ≡ above (suc j) (n + b)
above_next j n zero h = ap (bit_or (above (suc j) n)) (scale_zero (above j n)) ∙ or_zero_r (above (suc j) n) ∙ ap (above (suc j)) (sym (add-zero n))
above_next j n (suc zero) h = ap (bit_or (above (suc j) n)) (scale_one (above j n) (above_lt j n)) ∙ go (dec_lt j n) (dec_lt (suc j) n)
  where
    go : Dec (j < n) → Dec (suc j < n) → bit_or (above (suc j) n) (above j n) ≡ above (suc j) (n + 1)
    go (yes l) (yes m) = rw (above_is j n l, above_is (suc j) n m, above_is (suc j) (n + 1) (omega arith))
    go (yes l) (no m) = rw (above_is j n l, above_none (suc j) n (omega arith), above_is (suc j) (n + 1) (omega arith))
    go (no l) m = rw (above_none j n (omega arith), above_none (suc j) n (omega arith), above_none (suc j) (n + 1) (omega arith))
above_next j n (suc (suc b)) h = absurd (omega arith)

-- ---- one place more

pub raised_none : (s : List ℕ) (x : ℕ) → x ≡ 0 → Raised s x s
raised_none s x e = record { first = rw e (sym (or_zero_r (at s 0))); later = λ j h. rw (e, and_zero_r (at s j)) (sym (or_zero_r (at s (suc j)))) }

-- the invariant: the numbers above j have what they get, the others what they had
pub record Going (s : List ℕ) (x j : ℕ) (r : List ℕ) : Type 0 where
  pub long : length r ≡ 9
  pub done : (i : ℕ) → j ≤ i → i < 8 → at r (suc i) ≡ bit_or (at s (suc i)) (bit_and (at s i) x)
  pub ahead : (i : ℕ) → i ≤ j → at r i ≡ at s i

pub going_start : (s : List ℕ) (x : ℕ) → length s ≡ 9 → Going s x 8 s
going_start s x long = record { long = long; done = λ i h l. absurd (omega arith); ahead = λ i h. refl }

pub going_next : {s r : List ℕ} {x j m : ℕ} → Going s x j r → j ≡ m + 1 → j ≤ 8 → Going s x m (set r (m + 1) (bit_or (at r (m + 1)) (bit_and (at r m) x)))
going_next {s} {r} {x} {j} {m} so_far ej h =
    record {
      long = length-set r (m + 1) _ ∙ so_far.long;
      done = λ i l b. here i l b (ℕ_discrete i m);
      ahead = λ i l. get_or-set_other r (m + 1) i _ 0 (λ e. omega arith) ∙ so_far.ahead i (omega arith);
    }
  where
    here : (i : ℕ) → m ≤ i → i < 8 → Dec (i ≡ m) → at (set r (m + 1) (bit_or (at r (m + 1)) (bit_and (at r m) x))) (suc i) ≡ bit_or (at s (suc i)) (bit_and (at s i) x)
    here i l b (yes e) =
        rw (e, add-one) (get_or-set_same r (suc m) _ 0 (omega (arith, so_far.long))
        ∙ ap₂ (λ (a b : ℕ). bit_or a (bit_and b x)) (so_far.ahead (suc m) (omega arith)) (so_far.ahead m (omega arith)))
    here i l b (no e) = get_or-set_other r (m + 1) (suc i) _ 0 (λ q. e (omega arith)) ∙ so_far.done i (omega arith) b

pub going_end : {s r : List ℕ} {x j : ℕ} → Going s x j r → j ≤ 0 → Raised s x (set r 0 (bit_or (at r 0) x))
going_end {s} {r} {x} {j} so_far h =
    record {
      first = get_or-set_same r 0 _ 0 (omega (arith, so_far.long)) ∙ ap (λ (a : ℕ). bit_or a x) (so_far.ahead 0 zero-le);
      later = λ i l. get_or-set_other r 0 (suc i) _ 0 (λ e. omega arith) ∙ so_far.done i (omega arith) l;
    }

-- bit k of the numbers, where inner word k is to be inverted in n places
pub record Has (n k : ℕ) (s : List ℕ) : Type 0 where
  pub has : (j : ℕ) → j ≤ 8 → bit_of 64 (at s j) k ≡ above j n

has_next : (n k x : ℕ) (s r : List ℕ) → Has n k s → Raised s x r → Has (n + bit_of 64 x k) k r
has_next n k x s r h g = record { has = go }
  where
    go : (j : ℕ) → j ≤ 8 → bit_of 64 (at r j) k ≡ above j (n + bit_of 64 x k)
    go zero l =
        ap (λ (y : ℕ). bit_of 64 y k) g.first ∙ bit_or_lem 64 k (at s 0) x ∙ ap (λ (y : ℕ). bit_or y (bit_of 64 x k)) (h.has 0 l)
        ∙ above_zero n (bit_of 64 x k) (bit_of_lt 64 x k)
    go (suc j) l =
        ap (λ (y : ℕ). bit_of 64 y k) (g.later j (omega arith)) ∙ bit_or_lem 64 k (at s (suc j)) (bit_and (at s j) x)
        ∙ ap₂ bit_or (h.has (suc j) l) (bit_product 64 k (at s j) x ∙ ap (λ (y : ℕ). scale y (bit_of 64 x k)) (h.has j (omega arith)))
        ∙ above_next j n (bit_of 64 x k) (bit_of_lt 64 x k)

-- ---- all places

-- the invariant: the first p places are counted
pub record Raising (flips : List ℕ) (p : ℕ) (s : List ℕ) : Type 0 where
  pub long : length s ≡ 9
  pub within : p ≤ 2040
  pub each : (k : ℕ) → Has (sum_to p (λ q. bit_of 64 (at flips q) k)) k s
  pub top : at s 8 < 2 ^ 64

pub raising_start : {flips : List ℕ} → Raising flips 0 (replicate 9 0)
unfolding sum_to
raising_start = record {
  long = refl;
  within = zero-le;
  each = λ k. record { has = λ j h. ap (λ (x : ℕ). bit_of 64 x k) (zeros_at 9 j) ∙ bit_of_zero 64 k ∙ sym (above_none j 0 zero-le) };
  top = lit< tt;
}

pub raising_next : {flips : List ℕ} {p : ℕ} {s r : List ℕ} → Raising flips p s → p < 2040 → ((i : ℕ) → Fits w64 (get_or flips i 0)) → length r ≡ length s →
    Raised s (at flips p) r → Raising flips (p + 1) r
unfolding sum_to
raising_next {flips} {p} {s} {r} so_far h small long g =
    record {
      long = long ∙ so_far.long;
      within = omega arith;
      each = λ k. rw add-one (has_next (sum_to p (λ q. bit_of 64 (at flips q) k)) k (at flips p) s r (so_far.each k) g);
      top = rw (g.later 7 (lit< tt)) (or_lt 64 (at s 8) (bit_and (at s 7) (at flips p)) so_far.top (omega (arith, and_le_r (at s 7) (at flips p), small p)));
    }

pub raising_end : {flips : List ℕ} {p : ℕ} {s : List ℕ} → Raising flips p s → 2040 ≤ p → at s 8 ≡ too_many flips
unfolding too_many flips_in
raising_end {flips} {p} {s} so_far h =
    let e : p ≡ 2040 = omega (arith, so_far.within) in
    sym (number_of_bits_lem 64 (at s 8) so_far.top) ∙ number_of_same 64 _ _ (λ k l. rw e at (so_far.each k).has 8 (lit≤ tt))
