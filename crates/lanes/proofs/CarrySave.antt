-- Counting in bit planes: full adders, steps of eight numbers with their carries, and the counts from the planes. Assumes nothing.
use mathlib.Core.Path.{◌≡◌, refl, sym, ap, ap₂, ◌∙◌}
use mathlib.Core.Bool.{true}
use mathlib.Core.List.{List, [], ◌∷◌}
use Prim.Native.Nat.{ℕ, zero, suc, ◌+◌, ◌-◌, ◌*◌, ◌/◌, ◌%◌, ◌^◌, ◌≤◌, ◌<◌, zero-le, min, max}
use native.Mathlib.Decide.{dec_lt}
use native.Mathlib.Nat.{le_refl, not-suc-le-zero, zero-add, pow-suc}
use native.Mathlib.Numerals.{add-one}
use native.Mathlib.Omega.{arith}
use borrow.Author.Tests.{eqb-true}
use lib.Bits.{bit_and, bit_or, and_mask}
use lib.Dec.{eqb}
use lib.ListN.{length, get_or, set, replicate, take, drop}
use lib.Pow.{pow_pos, pow_mono}
use Rattle.std.proofs.lemmas.List.{get_or-drop, get_or-take, length-take-le, take_rest}
use lib.Seq.{get_or-set_same, get_or-set_other}
use Rattle.fields.specs.Elements.{xor}
use Rattle.fields.specs.Lists.{tabulate}
use Rattle.fields.specs.Places.{at, every, sum_to}
use Rattle.fields.proofs.Lists.{tabulate_at, tabulate_is, tabulate_length, tabulate_same}
use Rattle.fields.proofs.Ways.{past}
use Rattle.fields.proofs.Places.Counting.{sum_most, sum_same, sum_zero}
use Rattle.fields.proofs.Places.Differences.{sum_plus}
use Rattle.fields.proofs.Places.Filling.{FilledOver, over_next, filled_end}
use Rattle.fields.proofs.Places.Tests.{every_at}
use Rattle.lanes.specs.declared.counters.Planes.{Planes}
use Rattle.lanes.specs.Steps.Sliced.{lane_bit, turned}
use Rattle.lanes.specs.Steps.Counters.{ones_in, lowest, EightMore, Carried, plane_added, weighed, plane_counts, carried_counts}
use Rattle.lanes.proofs.Lanewise.{bit_lt, bit_none, bit_sum, bit_masked, bit_some}

-- ---- a full adder

-- the sum of three bits: a test that is computed
bits_tested : every 2 (λ a. every 2 (λ b. every 2 (λ c. eqb (a + b + c) (xor (xor a b) c + 2 * max (min a b) (min c (xor a b)))))) ≡ true
unfolding every xor
bits_tested = refl

three_bits : (a b c : ℕ) → a < 2 → b < 2 → c < 2 → a + b + c ≡ xor (xor a b) c + 2 * max (min a b) (min c (xor a b))
three_bits a b c ha hb hc = eqb-true _ _ (every_at 2 _ (every_at 2 _ (every_at 2 _ bits_tested a ha) b hb) c hc)

pub adder_is : (k a b c : ℕ) →
    lane_bit k a + lane_bit k b + lane_bit k c ≡ lane_bit k (xor (xor a b) c) + 2 * lane_bit k (bit_or (bit_and a b) (bit_and c (xor a b)))
adder_is k a b c =
    rw (bit_some k, bit_masked k a b, bit_masked k c (xor a b), bit_sum k (xor a b) c, bit_sum k a b)
    (three_bits (lane_bit k a) (lane_bit k b) (lane_bit k c) (bit_lt k a) (bit_lt k b) (bit_lt k c))

-- ---- numbers with a 1

module _ (k : ℕ) where
  ones_most : (f : ℕ → ℕ) (n : ℕ) → ones_in k f n ≤ n
  unfolding ones_in
  ones_most f n =
      rw zero-add at (sum_most 0 n (λ i. lane_bit k (f i)) (λ i h. absurd (not-suc-le-zero h)) (λ i. omega (arith, bit_lt k (f i))))

  pub ones_same : (f g : ℕ → ℕ) (n : ℕ) → ((i : ℕ) → i < n → f i ≡ g i) → ones_in k f n ≡ ones_in k g n
  unfolding ones_in
  ones_same f g n h = sum_same n _ _ (λ i l. ap (lane_bit k) (h i l))

  ones_plus : (f : ℕ → ℕ) (m n : ℕ) → ones_in k f (m + n) ≡ ones_in k f m + ones_in k (λ q. f (m + q)) n
  unfolding ones_in
  ones_plus f m n = sum_plus m n (λ i. lane_bit k (f i))

  ones_next : (f : ℕ → ℕ) (n : ℕ) → ones_in k f (n + 1) ≡ ones_in k f n + lane_bit k (f n)
  unfolding ones_in sum_to
  ones_next f n = rw add-one

  -- the first m of n numbers, where the others are 0
  pub ones_first : (f : ℕ → ℕ) (m n : ℕ) → ((i : ℕ) → m ≤ i → f i ≡ 0) → m ≤ n → ones_in k f n ≡ ones_in k f m
  unfolding ones_in
  ones_first f m n z h =
      let e : n ≡ m + (n - m) = omega arith in
      let rest = sum_zero (n - m) (λ q. lane_bit k (f (m + q))) (λ q l. ap (lane_bit k) (z (m + q) (omega arith)) ∙ bit_none k) in
      ap (ones_in k f) e ∙ omega (arith, ones_plus f m (n - m), rest)

-- ---- steps of eight numbers

pub eight_added : {xs : ℕ → ℕ} {i : ℕ} {s r : Planes} →
    ((k : ℕ) → lowest k s + lane_bit k (xs i) + lane_bit k (xs (i + 1)) + lane_bit k (xs (i + 2)) + lane_bit k (xs (i + 3)) + lane_bit k (xs (i + 4))
    + lane_bit k (xs (i + 5)) + lane_bit k (xs (i + 6)) + lane_bit k (xs (i + 7)) ≡ lowest k r + 8 * lane_bit k r.carry) → EightMore xs i s r
unfolding ones_in sum_to
eight_added {xs} {i} e = record { each = λ k. let first : i + 0 ≡ i = omega arith in omega (arith, ap (λ (j : ℕ). lane_bit k (xs j)) first, e k) }

-- the first eight of a list from number n on
pub eight_from : (xs : List ℕ) (n : ℕ) {s r : Planes} → EightMore (at (take (length xs - n) (drop n xs))) 0 s r → EightMore (at xs) n s r
eight_from xs n e =
    let rest = rw (take_rest xs n) at e in
    record {
      each = λ k.
          let same = ones_same k (λ q. at (drop n xs) (0 + q)) (λ q. at xs (n + q)) 8 (λ q l. ap (at (drop n xs)) (zero-add q) ∙ get_or-drop n xs q 0) in
          omega (arith, rest.each k, same);
    }

pub carried_start : {xs : ℕ → ℕ} {carries : List ℕ} → ((i : ℕ) → at carries i ≡ 0) →
    Carried xs 0 (record { ones = 0; twos = 0; fours = 0; carry = 0 }) carries
unfolding ones_in sum_to
carried_start z = record { each = λ k. omega (arith, bit_none k); none = λ i h. z i }

pub carried_default : {xs : ℕ → ℕ} {s : Planes} {carries : List ℕ} → s ≡ record { ones = 0; twos = 0; fours = 0; carry = 0 } → ((i : ℕ) → at carries i ≡ 0) →
    Carried xs 0 s carries
carried_default e z = rw e (carried_start z)

pub carried_next : {xs : ℕ → ℕ} {i n m : ℕ} {s r : Planes} {carries : List ℕ} → Carried xs i s carries → i < n → n ≤ m → length carries ≡ m →
    EightMore xs (8 * i) s r → Carried xs (i + 1) r (set carries i r.carry)
carried_next {xs} {i} {n} {m} {s} {r} {carries} so_far h few long e =
    let l : i < length carries = omega arith in
    record {
      each = λ k.
          let more : 8 * (i + 1) ≡ 8 * i + 8 = omega arith in
          let same = ones_same k (at (set carries i r.carry)) (at carries) i (λ j b. get_or-set_other carries i j r.carry 0 (λ q. omega arith)) in
          let last : lane_bit k (at (set carries i r.carry) i) ≡ lane_bit k r.carry = ap (lane_bit k) (get_or-set_same carries i r.carry 0 l) in
          ap (ones_in k xs) more
          ∙ omega (arith, ones_plus k xs (8 * i) 8, so_far.each k, e.each k, ones_next k (at (set carries i r.carry)) i, same, last);
      none = λ j h. get_or-set_other carries i j r.carry 0 (λ q. omega arith) ∙ so_far.none j (omega arith);
    }

pub carried_end : {xs : ℕ → ℕ} {i n : ℕ} {s : Planes} {carries : List ℕ} → Carried xs i s carries → i ≤ n → n ≤ i → Carried xs n s carries
carried_end {xs} {i} {n} so_far h l = let e : i ≡ n = omega arith in rw e at so_far

-- the first n times eight of a list
pub carried_first : (xs : List ℕ) (n : ℕ) {s : Planes} {carries : List ℕ} → 8 * n ≤ length xs →
    Carried (at (take (8 * n) xs)) (length (take (8 * n) xs) / 8) s carries → Carried (at xs) n s carries
carried_first xs n {s} {carries} h all =
    let long : length (take (8 * n) xs) / 8 ≡ n = omega (arith, length-take-le (8 * n) xs h) in
    let first = rw long at all in
    record {
      each = λ k. ones_same k (at xs) (at (take (8 * n) xs)) (8 * n) (λ i l. sym (get_or-take (8 * n) xs i 0 l)) ∙ first.each k;
      none = first.none;
    }

-- ---- planes, added to the counts one by one

-- count k, with a plane added
unfoldable pub added_at : List ℕ → ℕ → ℕ → ℕ → ℕ
added_at counts x weight k = at counts k + lane_bit (turned k) x * weight

pub plane_none : (counts : List ℕ) (x weight : ℕ) → length counts ≡ 64 → x ≡ 0 → counts ≡ plane_added counts x weight
unfolding plane_added
plane_none counts x weight long e = tabulate_is 64 _ counts 0 long (λ k l. rw (e, bit_none (turned k)) (omega arith))

bit_times : (b w : ℕ) → b < 2 → b * w ≤ w
bit_times zero w h = omega arith
bit_times (suc zero) w h = omega arith
bit_times (suc (suc b)) w h = absurd (omega arith)

module _ (before counts : List ℕ) (x weight k : ℕ) (so_far : FilledOver 64 (added_at before x weight) before k counts) where
  pub plane_next : k < 64 →
      FilledOver 64 (added_at before x weight) before (k + 1) (set counts k (get_or counts k 0 + bit_and (x / 2 ^ (8 * (k / 8) + 7 - k % 8)) 1 * weight))
  unfolding added_at lane_bit turned
  plane_next h =
      let e : 8 * (k / 8) + 7 - k % 8 ≡ 63 - (8 * (7 - k / 8) + k % 8) = omega arith in
      let bit = and_mask (x / 2 ^ (8 * (k / 8) + 7 - k % 8)) 1 ∙ ap (λ (j : ℕ). x / 2 ^ j % 2) e in
      over_next so_far h (ap₂ (λ (n b : ℕ). n + b * weight) (so_far.ahead k (le_refl k)) bit)

  pub plane_end : 64 ≤ k → counts ≡ plane_added before x weight
  unfolding added_at plane_added
  plane_end h = filled_end so_far.filled h

weighed_lt : (k : ℕ) (f : ℕ → ℕ) (n : ℕ) → weighed k f n < 2 ^ n
unfolding weighed
weighed_lt k f zero = pow_pos 0
weighed_lt k f (suc n) = omega (arith, weighed_lt k f n, bit_times (lane_bit k (f n)) (2 ^ n) (bit_lt k (f n)), pow-suc 2 n)

-- the weight of plane i, as the function has it
weight_is : (i : ℕ) → i < 12 → 1 * 2 ^ i % 65536 ≡ 2 ^ i
weight_is i l = let few : 2 ^ i ≤ 2 ^ 11 = pow_mono {j = 11} (omega arith) in omega arith

-- the invariant: the first i planes are added
pub record Weighing (planes : List ℕ) (i : ℕ) (counts : List ℕ) : Type 0 where
  pub within : i ≤ 12
  pub long : length counts ≡ 64
  pub value : counts ≡ tabulate 64 (λ k. weighed (turned k) (at planes) i)

pub weighing_start : {planes : List ℕ} → Weighing planes 0 (replicate 64 0)
unfolding weighed tabulate
weighing_start = record { within = zero-le; long = refl; value = refl }

module _ (planes counts : List ℕ) (i : ℕ) (so_far : Weighing planes i counts) where
  count_at : (k : ℕ) → k < 64 → at counts k ≡ weighed (turned k) (at planes) i
  count_at k l = ap (λ (c : List ℕ). at c k) so_far.value ∙ tabulate_at 64 (λ k. weighed (turned k) (at planes) i) k 0 l

  module _ (l : i < 12) where
    pub weighing_few : (k : ℕ) → at counts k < 1 * 2 ^ i % 65536
    weighing_few k = rw (weight_is i l) (go (dec_lt k 64))
      where
        go : Dec (k < 64) → at counts k < 2 ^ i
        go (yes b) = omega (arith, count_at k b, weighed_lt (turned k) (at planes) i)
        go (no g) = omega (arith, past counts k (omega (arith, so_far.long)), pow_pos i)

    pub weighing_light : 1 * 2 ^ i % 65536 ≤ 2048
    weighing_light = rw (weight_is i l) (let few : 2 ^ i ≤ 2 ^ 11 = pow_mono {j = 11} (omega arith) in few)

    pub weighing_next : (next : List ℕ) → next ≡ plane_added counts (at planes i) (1 * 2 ^ i % 65536) → Weighing planes (i + 1) next
    unfolding weighed plane_added
    weighing_next next e =
        record {
          within = omega arith;
          long = ap length e ∙ tabulate_length 64 _;
          value = e ∙ rw add-one (tabulate_same 64 _ _ (λ k h.
              ap₂ (λ (n w : ℕ). n + lane_bit (turned k) (at planes i) * w) (count_at k h) (weight_is i l)));
        }

  pub weighing_end : 12 ≤ i → counts ≡ plane_counts planes
  unfolding plane_counts
  weighing_end h = let e : i ≡ 12 = omega (arith, so_far.within) in rw e at so_far.value

-- ---- carries of carries

-- of n times eight carries of weight 8, of those of weight 64 that they give, and of the four of weight 512, which give none
module _ (low a b c : Planes) (eights sixty-fours last none : List ℕ) (n : ℕ) where
  pub all_counted_lem : n ≤ 32 → Carried (at eights) n a sixty-fours → Carried (at sixty-fours) 4 b last → Carried (at last) 1 c none → (counts : List ℕ) →
      counts ≡ plane_counts (low.ones ∷ low.twos ∷ low.fours ∷ a.ones ∷ a.twos ∷ a.fours
      ∷ b.ones ∷ b.twos ∷ b.fours ∷ c.ones ∷ c.twos ∷ c.fours ∷ []) →
      counts ≡ carried_counts low eights n
  unfolding weighed plane_counts carried_counts
  all_counted_lem h ca cb cc counts e = e ∙ tabulate_same 64 _ _ (λ k l.
      let j = turned k in
      let more = ones_first j (at sixty-fours) n 32 ca.none h in
      let four = ones_first j (at last) 4 8 cb.none (omega arith) in
      omega (arith, ca.each j, more, cb.each j, four, ones_most j (at last) 4, cc.each j))
