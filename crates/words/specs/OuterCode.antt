-- The outer code: the Reed-Solomon code over field A with the sixteen roots a^0 to a^15, and so sixteen parity symbols ("check symbols").
use Rattle.std.specs.Prelude.{Bool, List, ℕ}
use Rattle.fields.specs.Elements.{power}
use Rattle.words.specs.ReedSolomon.{value_at_root, is_code_word, generator_of, parity_of}

-- a to the i-th in field A
abbrev pub power_a : ℕ → ℕ
power_a = power 10 1033

-- a word's value at a^j: its first symbol has the highest power
abbrev pub outer_value : List ℕ → ℕ → ℕ
outer_value = value_at_root 10 1033 0

-- an outer code word: symbols below 1,024, and zero at the sixteen roots
abbrev pub is_outer : List ℕ → Bool
is_outer = is_code_word 10 1033 0 16

-- the polynomial with these roots and the leading coefficient 1
abbrev pub generator : List ℕ
generator = generator_of 10 1033 0 16

-- the parity symbols of data: the remainder after division of the data, times x^16, by the generator
abbrev pub outer_parity : List ℕ → List ℕ
outer_parity = parity_of 10 1033 0 16
