-- Division four places a step: the places that the shift brings to the divisor's degree and above are replaced by their remainder, which a table has.
-- Assumes nothing.
use mathlib.Core.Path.{◌≡◌, refl, sym, ap, ap₂, ◌∙◌}
use mathlib.Core.List.{List}
use Prim.Native.Nat.{ℕ, zero, suc, ◌+◌, ◌-◌, ◌*◌, ◌/◌, ◌%◌, ◌^◌, ◌≤◌, ◌<◌}
use native.Mathlib.Nat.{le-add_left, mod-lt, mul_assoc, pow-suc, zero-add}
use native.Mathlib.Numerals.{add-one}
use native.Mathlib.Omega.{arith}
use lib.Bits.{bit_xor}
use lib.ListN.{length, get_or}
use lib.Pow.{split, pow_pos, shl_lt}
use Rattle.fields.specs.Elements.{xor, scale, doubled}
use Rattle.fields.proofs.Lists.{tabulate_at, tabulate_length}
use Rattle.fields.proofs.Places.Filling.{Filled, filled_end}
use Rattle.fields.specs.Places.{horner}
use Rattle.fields.proofs.Xor.{xor_comm, xor_zero_l, xor_zero_r, xor_assoc, xor_shifted}
use Rattle.fields.proofs.Doubling.{doubled_sum, doubled_below, doubled_lt}
use Rattle.words.specs.Bits.{bit_of, number_of, bit_at}
use Rattle.words.specs.InnerCode.{divisor, remainder}
use Rattle.words.specs.Steps.Residues.{residue, residues}
use Rattle.words.proofs.Bits.Bytes.{bit_at_lt, number_of_bits}
use Rattle.words.proofs.Bits.Numbers.{bit_of_lt, number_of_lt}
use Rattle.words.proofs.Codes.Horner.{iter, horner_same, iter_sum, horner_parts}
use Rattle.words.proofs.Codes.LeastPolynomials.{divisor_degree}
use Rattle.words.proofs.Codes.InnerParity.{remainder_short, inner_remainder_lt}

-- z^e times s, where no term z^m comes up
iter_shift : (m p e s : ℕ) → s * 2 ^ e < 2 ^ m → iter (doubled m p) e s ≡ s * 2 ^ e
unfolding iter
iter_shift m p zero s h = omega arith
iter_shift m p (suc e) s h =
    let q : 2 * (s * 2 ^ e) ≡ s * 2 ^ suc e = rw pow-suc (omega (arith, mul_assoc s (2 ^ e) 2)) in
    ap (doubled m p) (iter_shift m p e s (omega arith)) ∙ doubled_below m p (s * 2 ^ e) (omega arith) ∙ q

-- e places more: the terms that come to z^(j + e) and above, and the others
remainder_more : (j e p : ℕ) (b : ℕ → ℕ) → ((i : ℕ) → b i < 2) → (n : ℕ) →
    remainder (j + e) p b (n + e) ≡
    xor (iter (doubled (j + e) p) e (remainder (j + e) p b n / 2 ^ j * 2 ^ j)) (remainder (j + e) p b n % 2 ^ j * 2 ^ e + number_of e (λ i. b (n + i)))
remainder_more j e p b bits n =
    let m = j + e in
    let f = doubled m p in
    let v = remainder m p b n in
    let k = v / 2 ^ j * 2 ^ j in
    let s = v % 2 ^ j in
    let x = number_of e (λ i. b (n + i)) in
    let parts : xor k s ≡ v = xor_shifted (v / 2 ^ j) j s (mod-lt v (pow_pos j)) ∙ split v j in
    let up : iter f e s ≡ s * 2 ^ e = iter_shift m p e s (shl_lt j e (mod-lt v (pow_pos j))) in
    let end : remainder m p (λ i. b (n + i)) e ≡ x = remainder_short m p (λ i. b (n + i)) (λ i. bits (n + i)) e (le-add_left e j) in
    let low : xor (s * 2 ^ e) x ≡ s * 2 ^ e + x = xor_shifted s e x (number_of_lt (λ i. b (n + i)) (λ i. bits (n + i)) e) in
    horner_parts f (doubled_sum m p) b n e ∙ ap₂ (λ (y z : ℕ). xor (iter f e y) z) (sym parts) end
    ∙ ap (λ (y : ℕ). xor y x) (iter_sum f (doubled_sum m p) e k s ∙ ap (xor (iter f e k)) up) ∙ xor_assoc _ _ _ ∙ ap (xor (iter f e k)) low

-- n of the bits of a number, too few for a division to begin
remainder_bits : (m p l x s n : ℕ) → n ≤ m → s + n ≤ l → remainder m p (λ i. bit_of l x (s + i)) n ≡ x / 2 ^ (l - (s + n)) % 2 ^ n
remainder_bits m p l x s n few h = remainder_short m p (λ i. bit_of l x (s + i)) (λ i. bit_of_lt l x (s + i)) n few ∙ number_of_bits l x s n h

-- the remainder of k z^88: four steps from k z^84
residue_is : (p k : ℕ) → k < 16 → residue p k ≡ iter (doubled 88 p) 4 (k * 2 ^ 84)
unfolding residue
residue_is p k h =
    let x = k * 2 ^ 88 in
    let b = bit_of 92 x in
    let f = doubled 88 p in
    let same : remainder 88 p b 88 ≡ remainder 88 p (λ i. b (0 + i)) 88 = horner_same f _ _ 88 (λ i l. ap b (sym (zero-add i))) in
    let front : remainder 88 p b 88 ≡ k * 2 ^ 84 = same ∙ remainder_bits 88 p 92 x 0 88 (omega arith) (omega arith) ∙ omega arith in
    let rest : remainder 88 p (λ i. b (88 + i)) 4 ≡ 0 = remainder_bits 88 p 92 x 88 4 (omega arith) (omega arith) ∙ omega arith in
    horner_parts f (doubled_sum 88 p) b 88 4 ∙ ap₂ (λ (y z : ℕ). xor (iter f 4 y) z) front rest ∙ xor_zero_r _

-- four places more: the remainder of the terms that come to z^88 and above, and the others
remainder_four : (b : ℕ → ℕ) → ((i : ℕ) → b i < 2) → (n v : ℕ) → remainder 88 divisor b n ≡ v →
    remainder 88 divisor b (n + 4) ≡ xor (residue divisor (v / 2 ^ 84 % 16)) (16 * v % 2 ^ 88 + number_of 4 (λ j. b (n + j)))
remainder_four b bits n v e =
    let lt : remainder 88 divisor b n < 2 ^ 88 = inner_remainder_lt b bits n in
    let k : v / 2 ^ 84 % 16 ≡ v / 2 ^ 84 = omega arith in
    let s : 16 * v % 2 ^ 88 ≡ v % 2 ^ 84 * 2 ^ 4 = omega arith in
    rw (k, residue_is divisor (v / 2 ^ 84) (omega arith), s, ← e) (remainder_more 84 4 divisor b bits n)

-- the remainder of k z^84 times z^i, for i up to 4
abbrev pub residue_so_far : ℕ → ℕ → ℕ
residue_so_far k i = iter (doubled 88 divisor) i (k * 2 ^ 84)

module _ (k : ℕ) (small : k < 16) where
  residue_lt : (i : ℕ) → residue_so_far k i < 2 ^ 88
  unfolding iter
  residue_lt zero = omega arith
  residue_lt (suc i) = doubled_lt 88 divisor divisor_degree _ (residue_lt i)

  pub residue_none : k * 2 ^ 84 % 2 ^ 128 ≡ residue_so_far k 0
  unfolding iter
  residue_none = omega arith

  module _ (v i : ℕ) (so_far : v ≡ residue_so_far k i) where
    pub residue_room : v < 2 ^ 100
    residue_room = omega (arith, residue_lt i)

    pub residue_next : (d a : ℕ) → d ≡ divisor → a ≡ doubled 88 d v → a ≡ residue_so_far k (i + 1)
    unfolding iter
    residue_next d a ed e = e ∙ ap₂ (doubled 88) ed so_far ∙ sym (ap (residue_so_far k) (add-one i))

    pub residue_end : i ≤ 4 → 4 ≤ i → v ≡ residue divisor k
    residue_end lo hi =
        let e : i ≡ 4 = omega arith in
        rw (residue_is divisor k small, ← e) so_far

-- the table, entry by entry
pub residues_end : (p k : ℕ) (t : List ℕ) → Filled 16 (residue p) k t → 16 ≤ k → t ≡ residues p
unfolding residues
residues_end p k t so_far l = filled_end so_far l

pub residues_long : (p : ℕ) (t : List ℕ) → t ≡ residues p → length t ≡ 16
unfolding residues
residues_long p t e = rw e (tabulate_length 16 (residue p))

-- the remainder of the first 4 i places
module _ (bytes : List ℕ) (v i : ℕ) where
  pub remainder_none : 0 ≡ remainder 88 divisor (bit_at bytes) (4 * 0)
  unfolding horner
  remainder_none = refl

  module _ (so_far : v ≡ remainder 88 divisor (bit_at bytes) (4 * i)) where
    pub remainder_next : (t : List ℕ) → t ≡ residues divisor → (k x a : ℕ) → k ≡ v / 2 ^ 84 % 16 →
        x ≡ number_of 4 (λ j. bit_at bytes (4 * i + j)) → a ≡ 16 * v % 2 ^ 88 + x →
        bit_xor (get_or t k 0) a ≡ remainder 88 divisor (bit_at bytes) (4 * (i + 1))
    unfolding residues xor
    remainder_next t table k x a ek ex s =
        let e : 4 * i + 4 ≡ 4 * (i + 1) = omega arith in
        let four = remainder_four (bit_at bytes) (bit_at_lt bytes) (4 * i) v (sym so_far) in
        let above : get_or t k 0 ≡ residue divisor (v / 2 ^ 84 % 16) = rw table (tabulate_at 16 (residue divisor) k 0 (omega arith)) ∙ ap (residue divisor) ek in
        let below = s ∙ ap (λ (y : ℕ). 16 * v % 2 ^ 88 + y) ex in
        ap₂ bit_xor above below ∙ sym (rw e at four)

    pub remainder_end : i ≤ 510 → 510 ≤ i → v ≡ remainder 88 divisor (bit_at bytes) 2040
    remainder_end lo hi = let e : i ≡ 510 = omega arith in rw e at so_far

-- byte k of eleven, the highest first
pub byte_made : (x k : ℕ) → k < 11 → x / 2 ^ (88 - 8 * (k + 1)) % 256 ≡ number_of 8 (λ j. bit_of 88 x (8 * k + j))
byte_made x k h =
    let same : 88 - 8 * (k + 1) ≡ 88 - (8 * k + 8) = omega arith in
    ap (λ (z : ℕ). x / 2 ^ z % 256) same ∙ sym (number_of_bits 88 x (8 * k) 8 (omega arith))

-- doubling, by the term that comes up
module _ (x d : ℕ) where
  pub doubled_same : 2 * x / 2 ^ 88 % 2 ≡ 0 → 2 * x ≡ doubled 88 d x
  unfolding doubled scale
  doubled_same e = sym (ap (λ (t : ℕ). xor (scale t d) (2 * x)) e ∙ xor_zero_l (2 * x))

  pub doubled_less : (2 * x / 2 ^ 88 % 2 ≡ 0 → ⊥) → bit_xor (2 * x) d ≡ doubled 88 d x
  unfolding doubled scale xor
  doubled_less n =
      let e : 2 * x / 2 ^ 88 % 2 ≡ 1 = omega arith in
      xor_comm (2 * x) d ∙ sym (ap (λ (t : ℕ). bit_xor (scale t d) (2 * x)) e)

-- times a bit
pub scaled_none : (b x : ℕ) → b ≡ 0 → 0 ≡ scale b x
unfolding scale
scaled_none b x e = rw e refl

pub scaled_one : (b x : ℕ) → (b ≡ 0 → ⊥) → x ≡ scale b x
unfolding scale
scaled_one zero x n = absurd (n refl)
scaled_one (suc b) x n = refl
