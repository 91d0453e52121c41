-- Counting for 64 inner words at once: in how many of some numbers the bit of inner word k is 1.
use Rattle.std.specs.Prelude.{◌≡◌, List, ℕ, zero, suc, ◌+◌, ◌*◌, ◌^◌, ◌≤◌}
use Rattle.fields.specs.Lists.{tabulate}
use Rattle.fields.specs.Places.{at, sum_to}
use Rattle.lanes.specs.declared.counters.Planes.{Planes}
use Rattle.lanes.specs.Steps.Sliced.{lane_bit, turned}

-- how many of the numbers f 0, .. f (n - 1) have a 1 for inner word k
unfoldable pub ones_in : ℕ → (ℕ → ℕ) → ℕ → ℕ
ones_in k f n = sum_to n (λ i. lane_bit k (f i))

-- the count of inner word k in the planes of weight 1, 2 and 4
abbrev pub lowest : ℕ → Planes → ℕ
lowest k s = lane_bit k s.ones + 2 * lane_bit k s.twos + 4 * lane_bit k s.fours

-- eight numbers are added, from number i on
pub record EightMore (xs : ℕ → ℕ) (i : ℕ) (s r : Planes) : Type 0 where
  pub each : (k : ℕ) → lowest k s + ones_in k (λ q. xs (i + q)) 8 ≡ lowest k r + 8 * lane_bit k r.carry

-- n times eight numbers are counted: what is not in the planes is in the first n carries, and there is no other
pub record Carried (xs : ℕ → ℕ) (n : ℕ) (s : Planes) (carries : List ℕ) : Type 0 where
  pub each : (k : ℕ) → ones_in k xs (8 * n) ≡ lowest k s + 8 * ones_in k (at carries) n
  pub none : (i : ℕ) → n ≤ i → at carries i ≡ 0

-- the counts, in the order of the inner words, with a plane of some weight added
unfoldable pub plane_added : List ℕ → ℕ → ℕ → List ℕ
plane_added counts x weight = tabulate 64 (λ k. at counts k + lane_bit (turned k) x * weight)

-- the number whose binary digits, the lowest first, are the bits of inner word k in the planes f 0, .. f (n - 1)
unfoldable pub weighed : ℕ → (ℕ → ℕ) → ℕ → ℕ
weighed k f zero = 0
weighed k f (suc n) = weighed k f n + lane_bit k (f n) * 2 ^ n

-- the counts that twelve planes are, in that order
unfoldable pub plane_counts : List ℕ → List ℕ
plane_counts planes = tabulate 64 (λ k. weighed (turned k) (at planes) 12)

-- the counts that the planes of weight 1, 2 and 4 and the first 8 n carries are, in that order
unfoldable pub carried_counts : Planes → List ℕ → ℕ → List ℕ
carried_counts low eights n = tabulate 64 (λ k. lowest (turned k) low + 8 * ones_in (turned k) (at eights) (8 * n))
