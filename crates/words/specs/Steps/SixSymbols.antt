-- Symbols of ten bits packed six in a number, and the table by which a word is divided by the generator six symbols at a step.
use Rattle.std.specs.Prelude.{◌≡◌, List, ℕ, zero, suc, ◌+◌, ◌-◌, ◌*◌, ◌/◌, ◌%◌, ◌^◌, ◌<◌, length}
use Rattle.fields.specs.Lists.{tabulate}
use Rattle.fields.specs.Elements.{times_a}
use Rattle.fields.specs.Places.{at, horner}
use Rattle.words.specs.ReedSolomon.{divided}
use Rattle.words.specs.OuterCode.{generator}

-- the number that the n symbols b 0, b 1, .. are, the first the highest; that of n symbols of a word from place i on; and symbol i of six
unfoldable pub joined : (ℕ → ℕ) → ℕ → ℕ
joined b n = horner (λ v. v * 1024) b n

unfoldable pub joined_from : List ℕ → ℕ → ℕ → ℕ
joined_from w i n = joined (λ j. at w (i + j)) n

unfoldable pub symbol_of : ℕ → ℕ → ℕ
symbol_of x i = x / 2 ^ (10 * (5 - i)) % 1024

-- the six cells of a register from cell k on; past its end they are 0
abbrev pub six : List ℕ → ℕ → ℕ
six cells k = joined_from cells k 6

-- the three numbers that the sixteen cells of a register are
pub record Packs (high middle low : ℕ) (cells : List ℕ) : Type 0 where
  pub high_six : high ≡ six cells 0
  pub middle_six : middle ≡ six cells 6
  pub low_six : low ≡ six cells 12

-- number k of the three; and the sixteen cells that they are
unfoldable pub packed_number : ℕ → ℕ → ℕ → ℕ → ℕ
packed_number high middle low zero = high
packed_number high middle low (suc zero) = middle
packed_number high middle low (suc (suc k)) = low

unfoldable pub unpacked : ℕ → ℕ → ℕ → List ℕ
unpacked high middle low = tabulate 16 (λ i. symbol_of (packed_number high middle low (i / 6)) (i % 6))

-- the parity of six symbols in a number
unfoldable pub six_parity : ℕ → List ℕ
six_parity x = divided times_a 16 (at generator) (symbol_of x) 6

-- The table has 64 entries for each of the three numbers of a register and each of the ten digits of six bits that six symbols have:
-- those from 64 (10 k + d) on have number k of the parity of the digit v at the place of digit d
unfoldable pub parity_entry : ℕ → ℕ
parity_entry n = six (six_parity (n % 64 * 2 ^ (6 * (n / 64 % 10)))) (6 * (n / 640))

unfoldable pub digit_parities : List ℕ
digit_parities = tabulate 1920 parity_entry

-- the parities of the sixty single bits, from which the entries are added up: the sixty first numbers, then the middle and the low ones
unfoldable pub unit_parities : List ℕ
unit_parities = tabulate 180 (λ n. six (six_parity (2 ^ (n % 60))) (6 * (n / 60)))

-- the first n entries of the table are stored
pub record Stored (n : ℕ) (table : List ℕ) : Type 0 where
  pub long : length table ≡ 1920
  pub entry : (i : ℕ) → i < n → at table i ≡ parity_entry i
