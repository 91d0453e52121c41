-- The two tables of multiples of the generator: how they are filled, and that the multiples for the digits of an element make its own. Assumes nothing.
use mathlib.Core.Path.{◌≡◌, sym, ap, ap₂, ◌∙◌}
use mathlib.Core.List.{List}
use Prim.Native.Nat.{ℕ, suc, ◌+◌, ◌*◌, ◌/◌, ◌%◌, ◌≤◌, ◌<◌}
use native.Mathlib.Nat.{mul-le-mul_left}
use native.Mathlib.Numerals.{add-one}
use native.Mathlib.Omega.{arith}
use lib.ListN.{length, get_or, set}
use Rattle.fields.specs.Elements.{xor, times_a, powers_a, exponents_a}
use Rattle.fields.specs.Steps.ByTables.{table_product}
use Rattle.fields.specs.Places.{at}
use Rattle.fields.proofs.Instances.{field_a}
use Rattle.fields.proofs.Lists.{tabulate_at, tabulate_length}
use Rattle.fields.proofs.Xor.{xor_comm, xor_shifted}
use Rattle.fields.proofs.Places.Filling.{Filled, filled_next, filled_end}
use Rattle.words.specs.OuterCode.{generator}
use Rattle.words.specs.Steps.Division.{multiples}
use Rattle.words.proofs.Codes.TableValues.{product_same}
use Rattle.words.proofs.Codes.OuterWords.{generator_lt}

-- entry n of the table
unfoldable pub multiple : ℕ → ℕ → ℕ
multiple unit n = times_a (unit * (n / 16)) (at generator (suc (n % 16)))

-- the factor of an entry is an element, and fits in 16 bits
factor_lt : (unit n : ℕ) → unit ≤ 32 → n < 512 → unit * (n / 16) < 1024
factor_lt unit n hu hn =
    let k : n / 16 ≤ 31 = omega arith in
    omega (arith, mul-le-mul_left unit k)

pub factor_fits : (unit n : ℕ) → unit ≤ 32 → n < 512 → unit * (n / 16) < 65536
factor_fits unit n hu hn = omega (arith, factor_lt unit n hu hn)

module _ (unit n : ℕ) (table : List ℕ) (so_far : Filled 512 (multiple unit) n table) where
  pub multiples_next : (es ls g : List ℕ) (v : ℕ) → unit ≤ 32 → n < 512 → es ≡ powers_a → ls ≡ exponents_a → g ≡ generator →
      v ≡ table_product es ls (unit * (n / 16)) (get_or g (n % 16 + 1) 0) → Filled 512 (multiple unit) (n + 1) (set table n v)
  unfolding multiple
  multiples_next es ls g v hu hn exp log gen e =
      filled_next so_far hn (e ∙ rw (exp, log, gen, add-one) (product_same 10 1033 field_a _ _ (factor_lt unit n hu hn) (generator_lt (suc (n % 16)))))

  pub multiples_end : 512 ≤ n → table ≡ multiples unit
  unfolding multiples multiple
  multiples_end l = filled_end so_far l

multiples_length : (unit : ℕ) → length (multiples unit) ≡ 512
unfolding multiples
multiples_length unit = tabulate_length 512 _

multiples_at : (unit k i : ℕ) → k < 32 → i < 16 → at (multiples unit) (k * 16 + i) ≡ times_a (unit * k) (at generator (suc i))
unfolding multiples
multiples_at unit k i hk hi =
    let digit : (k * 16 + i) / 16 ≡ k = omega arith in
    let column : (k * 16 + i) % 16 ≡ i = omega arith in
    tabulate_at 512 _ (k * 16 + i) 0 (omega arith) ∙ ap₂ (λ (a b : ℕ). times_a (unit * a) (at generator (suc b))) digit column

-- a number is the sum of its digits
digits : (f : ℕ) → f ≡ xor (1 * (f % 32)) (32 * (f / 32))
digits f =
    let low : f % 32 ≡ 1 * (f % 32) = omega arith in
    let high : f / 32 * 32 ≡ 32 * (f / 32) = omega arith in
    let whole : f ≡ f / 32 * 32 + f % 32 = omega arith in
    whole ∙ sym (xor_shifted (f / 32) 5 (f % 32) (omega arith)) ∙ xor_comm _ _ ∙ ap₂ xor low high

-- the multiples that start at l and h add up to the multiple by f
pub record DigitMultiples (low high : List ℕ) (f l h : ℕ) : Type 0 where
  pub low_long : length low ≡ 512
  pub high_long : length high ≡ 512
  pub low_start : l ≤ 496
  pub high_start : h ≤ 496
  pub adds : (i : ℕ) → i < 16 → xor (get_or low (l + i) 0) (get_or high (h + i) 0) ≡ times_a f (at generator (suc i))

pub digits_add : (low high : List ℕ) (r s f : ℕ) → low ≡ multiples 1 → high ≡ multiples 32 → r < 1024 → s < 1024 → f ≡ xor r s →
    DigitMultiples low high f (f % 32 * 16) (f / 32 * 16)
digits_add low high r s f el eh hr hs ef =
    let lt : f < 1024 = rw ef (field_a.sum_lt r s hr hs) in
    record {
      low_long = rw el (multiples_length 1);
      high_long = rw eh (multiples_length 32);
      low_start = omega arith;
      high_start = omega arith;
      adds = λ i h. ap₂ xor (rw el (multiples_at 1 (f % 32) i (omega arith) h)) (rw eh (multiples_at 32 (f / 32) i (omega arith) h))
          ∙ sym (ap (λ (x : ℕ). times_a x (at generator (suc i))) (digits f) ∙ field_a.sum_times _ _ _);
    }
