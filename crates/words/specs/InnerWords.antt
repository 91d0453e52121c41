-- The 64 inner words of a frame, place by place, their parity bits, and the inner pass over them. Bits are given by a function b: bit i is b i.
use Rattle.std.specs.Prelude.{Bool, not, cond, List, ℕ, ◌+◌, ◌-◌, ◌*◌, ◌/◌, ◌%◌, ltb}
use Rattle.std.proofs.Math.Option.{get_or}
use Rattle.fields.specs.Lists.{tabulate}
use Rattle.fields.specs.Places.{at}
use Rattle.words.specs.InnerCode.{is_inner, inner_parity}
use Rattle.words.specs.Nearest.{is_some, nearest}

-- frame bit 64 p + k is place p of inner word k: 1,952 data places, and with the parity places 2,040
unfoldable pub inner_data : (ℕ → ℕ) → ℕ → List ℕ
inner_data b k = tabulate 1952 (λ p. b (64 * p + k))

unfoldable pub inner_word : (ℕ → ℕ) → ℕ → List ℕ
inner_word b k = tabulate 2040 (λ p. b (64 * p + k))

-- parity bit p of inner word k stands at frame bit 124,928 + 64 p + k
unfoldable pub parity_place : ℕ → ℕ → ℕ
parity_place p k = 124928 + 64 * p + k

-- the bits b below 124,928, and after them the parity bits of their inner words
unfoldable pub with_parity : (ℕ → ℕ) → ℕ → ℕ
with_parity b i = cond (ltb i 124928) (b i) (at (inner_parity (inner_data b (i % 64))) (i / 64 - 1952))

-- inner pass: a word with an inner code word within eight places becomes that code word; any other is left as received
unfoldable pub inner_restored : List ℕ → List ℕ
inner_restored w = get_or (nearest is_inner 2 8 w) w

unfoldable pub inner_pass : (ℕ → ℕ) → ℕ → ℕ
inner_pass b i = at (inner_restored (inner_word b (i % 64))) (i / 64)

-- the inner words that it leaves as received: those without such a code word
unfoldable pub is_lost : (ℕ → ℕ) → ℕ → Bool
is_lost b k = not (is_some (nearest is_inner 2 8 (inner_word b k)))
