-- The parity bits of an inner word are the sums of the coefficients of its residues that the matrix has a 1 for. Assumes nothing.
use mathlib.Core.Path.{◌≡◌, refl, sym, ap, ap₂, ◌∙◌}
use mathlib.Core.Bool.{true}
use mathlib.Core.List.{List}
use Prim.Native.Nat.{ℕ, zero, suc, ◌+◌, ◌-◌, ◌*◌, ◌/◌, ◌%◌, ◌^◌, ◌<◌}
use native.Mathlib.Nat.{add-suc, add-zero, div-add-mod', div-lt_iff_lt-mul, le_refl, mod-lt, mul-suc}
use native.Mathlib.Omega.{arith}
use borrow.Author.Tests.{eqb-true}
use lib.Arith.{lt-one}
use lib.Dec.{eqb, lit<}
use lib.Pow.{field, mod-mod-pow, pow_pos}
use Rattle.fields.specs.Elements.{xor, scale, doubled}
use Rattle.fields.specs.Lists.{tabulate}
use Rattle.fields.specs.Places.{at, every, horner}
use Rattle.fields.proofs.Doubling.{doubled_sum, scale_lt, scale_sum}
use Rattle.fields.proofs.Lists.{tabulate_at, tabulate_same}
use Rattle.fields.proofs.Xor.{additive_zero, xor_assoc, xor_comm, xor_lt, xor_shifted, xor_zero_r}
use Rattle.fields.proofs.Places.Tests.{every_at}
use Rattle.decoding.specs.Steps.Decoder.{xor_to}
use Rattle.decoding.proofs.Algebra.Tables.{xor_to_same}
use Rattle.words.specs.Bits.{bit_of, number_of, bit_at}
use Rattle.words.specs.InnerCode.{value_of, factors, divisor, inner_remainder, inner_parity}
use Rattle.words.specs.InnerWords.{inner_data}
use Rattle.words.proofs.Bits.Bytes.{bit_at_lt, bytes_bit}
use Rattle.words.proofs.Bits.Numbers.{bit_of_lt, bit_of_number, number_of_bits_lem, number_of_lt, number_of_same}
use Rattle.words.proofs.Codes.Horner.{Additive, scale_zero, iter, iter_in, iter_sum, horner_same, horner_sum, horner_zero, horner_zeros, value_of_sum, value_remainder}
use Rattle.words.proofs.Codes.LeastPolynomials.{divisor_is}
use Rattle.words.proofs.Codes.ShiftedBits.{bit_of_scale, bit_of_sum}
use Rattle.inner_words.specs.Steps.BitSliced.{parity_places}
use Rattle.inner_words.specs.Steps.InnerResidues.{coefficient, word_residue, residues_of}
use Rattle.inner_words.specs.Steps.ParityMatrix.{shares, column, parity_matrix, four_sum, four_sums, parity_sum, parity_sums}
use Rattle.inner_words.proofs.Interleaving.InterleavedBits.{data_length}
use Rattle.inner_words.proofs.Remainders.ResidueCodes.{factor_degree, residue_bit, residue_lt, residues_lt}

-- ---- sums

-- what respects sums respects long ones
additive_sum : (φ : ℕ → ℕ) → Additive φ → (n : ℕ) (f : ℕ → ℕ) → φ (xor_to n f) ≡ xor_to n (λ i. φ (f i))
unfolding xor_to
additive_sum φ h zero f = additive_zero φ h
additive_sum φ h (suc n) f = h _ _ ∙ ap (λ (x : ℕ). xor x (φ (f n))) (additive_sum φ h n f)

sum_parts : (m n : ℕ) (f : ℕ → ℕ) → xor_to (m + n) f ≡ xor (xor_to m f) (xor_to n (λ i. f (m + i)))
unfolding xor_to
sum_parts m zero f = rw add-zero (sym (xor_zero_r _))
sum_parts m (suc n) f = rw (add-suc, xor_to, sum_parts m n f) (xor_assoc _ _ _)

-- w terms at a time
sum_blocks : (w n : ℕ) (f : ℕ → ℕ) → xor_to (w * n) f ≡ xor_to n (λ g. xor_to w (λ t. f (w * g + t)))
unfolding xor_to
sum_blocks w zero f = let e : w * 0 ≡ 0 = omega arith in rw e
sum_blocks w (suc n) f =
    ap (λ (k : ℕ). xor_to k f) (mul-suc w n) ∙ sum_parts (w * n) w f ∙ ap (λ (x : ℕ). xor x (xor_to w (λ t. f (w * n + t)))) (sum_blocks w n f)

scale_swap : (s t : ℕ) → s < 2 → t < 2 → scale s t ≡ scale t s
unfolding scale
scale_swap zero zero hs ht = refl
scale_swap zero (suc t) hs ht = refl
scale_swap (suc zero) zero hs ht = refl
scale_swap (suc zero) (suc zero) hs ht = refl
scale_swap (suc zero) (suc (suc t)) hs ht = absurd (omega arith)
scale_swap (suc (suc s)) t hs ht = absurd (omega arith)

-- what respects sums is known by its values at the powers of z
module _ (φ : ℕ → ℕ) (φ-sum : Additive φ) where
  top_term : (n t x : ℕ) → t < 2 → x < 2 ^ n → φ (t * 2 ^ n + x) ≡ xor (φ x) (scale t (φ (2 ^ n)))
  unfolding scale
  top_term n zero x h l = ap φ (omega arith) ∙ sym (xor_zero_r _)
  top_term n (suc zero) x h l =
      ap φ (sym (xor_shifted 1 n x l)) ∙ φ-sum _ _ ∙ ap (λ (y : ℕ). xor (φ y) (φ x)) (omega arith) ∙ xor_comm _ _
  top_term n (suc (suc t)) x h l = absurd (omega arith)

  low_coefficient : (n r i : ℕ) → i < n → coefficient i (r % 2 ^ n) ≡ coefficient i r
  low_coefficient n r i h =
      let q : n ≡ (n - suc i) + 1 + i = omega arith in
      ap (λ (k : ℕ). r % 2 ^ k / 2 ^ i % 2) q ∙ ap (λ (x : ℕ). x % 2) (field r ((n - suc i) + 1) i) ∙ mod-mod-pow (r / 2 ^ i) (n - suc i) 1

  by_powers : (n r : ℕ) → r < 2 ^ n → φ r ≡ xor_to n (λ i. scale (coefficient i r) (φ (2 ^ i)))
  unfolding xor_to
  by_powers zero r h = rw (lt-one h) (additive_zero φ φ-sum)
  by_powers (suc n) r h =
      let t : r / 2 ^ n < 2 = (div-lt_iff_lt-mul (pow_pos n)).1 (omega arith) in
      let c : r / 2 ^ n ≡ coefficient n r = omega arith in
      ap φ (sym (div-add-mod' r (2 ^ n))) ∙ top_term n (r / 2 ^ n) (r % 2 ^ n) t (mod-lt r (pow_pos n))
      ∙ ap₂ xor (by_powers n (r % 2 ^ n) (mod-lt r (pow_pos n)) ∙ xor_to_same n _ _ (λ i l. ap (λ (s : ℕ). scale s (φ (2 ^ i))) (low_coefficient n r i l)))
      (ap (λ (s : ℕ). scale s (φ (2 ^ n))) c)

-- ---- the shares

abbrev step : ℕ → ℕ
step = doubled 88 divisor

-- a share vanishes modulo its factor, and the shares together are z^88, modulo the divisor p
abbrev vanish_by : ℕ → ℕ → ℕ
vanish_by p j = value_of (doubled 88 p) (at shares j) 12 (at factors j)

shares_test : every 8 (λ j. eqb (vanish_by 317645624157077156049808851 j) 0) ≡ true
unfolding every shares factors value_of scale xor doubled
shares_test = refl

share_vanishes : (j : ℕ) → j < 8 → value_of step (at shares j) 12 (at factors j) ≡ 0
share_vanishes j h =
    ap (λ (p : ℕ). vanish_by p j) divisor_is ∙ eqb-true _ _ (every_at 8 (λ j. eqb (vanish_by 317645624157077156049808851 j) 0) shares_test j h)

shares_sum : xor_to 8 (at shares) ≡ iter step 88 1
unfolding xor_to shares xor iter scale doubled
shares_sum = ap (λ (p : ℕ). iter (doubled 88 p) 88 1) (sym divisor_is)

step_sum : Additive step
step_sum = doubled_sum 88 divisor

-- Horner's rule of a sum of multiples
horner_multiples : (b : ℕ → ℕ) (n m : ℕ) (e : ℕ → ℕ) → xor_to m (λ j. horner step (λ i. scale (b i) (e j)) n) ≡ horner step (λ i. scale (b i) (xor_to m e)) n
unfolding xor_to
horner_multiples b n zero e = sym (horner_zero step step_sum _ (λ i. scale_zero (b i)) n)
horner_multiples b n (suc m) e =
    ap (λ (x : ℕ). xor x (horner step (λ i. scale (b i) (e m)) n)) (horner_multiples b n m e) ∙ sym (horner_sum step step_sum _ _ n)
    ∙ horner_same step _ _ n (λ i l. sym (scale_sum (b i) (xor_to m e) (e m)))

additive_bit : (φ : ℕ → ℕ) → Additive φ → (t : ℕ) → t < 2 → φ t ≡ scale t (φ 1)
unfolding scale
additive_bit φ h zero l = additive_zero φ h
additive_bit φ h (suc zero) l = refl
additive_bit φ h (suc (suc t)) l = absurd (omega arith)

-- a word times z^m
shifted_horner : (b : ℕ → ℕ) → ((i : ℕ) → b i < 2) → (m n : ℕ) → iter step m (horner step b n) ≡ horner step (λ i. scale (b i) (iter step m 1)) n
unfolding horner
shifted_horner b bits m zero = additive_zero (iter step m) (iter_sum step step_sum m)
shifted_horner b bits m (suc n) =
    iter_sum step step_sum m _ (b n)
    ∙ ap₂ xor (iter_in step m (horner step b n) ∙ ap step (shifted_horner b bits m n)) (additive_bit (iter step m) (iter_sum step step_sum m) (b n) (bits n))

-- ---- an inner word

module _ (bytes : List ℕ) (k : ℕ) where
  abbrev places : ℕ → ℕ
  places p = bit_at bytes (64 * p + k)

  places_lt : (p : ℕ) → places p < 2
  places_lt p = bit_at_lt bytes (64 * p + k)

  abbrev r : ℕ → ℕ
  r j = word_residue j bytes 1952 k

  abbrev parity : ℕ
  parity = inner_remainder (inner_data (bit_at bytes) k)

  data_shifted : iter step 88 (horner step places 1952) ≡ parity
  unfolding inner_remainder inner_data
  data_shifted =
      let c = inner_data (bit_at bytes) k in
      let same : horner step places 1952 ≡ horner step (at c) 1952 = horner_same step _ _ 1952 (λ p l. sym (tabulate_at 1952 places p 0 l)) in
      let zeros : horner step (at c) 2040 ≡ iter step 88 (horner step (at c) 1952) = rw (data_length (bit_at bytes) k) at (horner_zeros step step_sum c 88) in
      ap (iter step 88) same ∙ sym zeros

  -- its residues times the shares
  shares_parity : xor_to 8 (λ j. value_of step (at shares j) 12 (r j)) ≡ parity
  unfolding word_residue
  shares_parity =
      xor_to_same 8 _ _ (λ j l. value_remainder step step_sum (at shares j) 11 (at factors j) (lit< tt) (factor_degree j l) (share_vanishes j l) places places_lt 1952)
      ∙ horner_multiples places 1952 8 (at shares) ∙ ap (λ (z : ℕ). horner step (λ i. scale (places i) z) 1952) shares_sum
      ∙ sym (shifted_horner places places_lt 88 1952) ∙ data_shifted

  r_lt : (j : ℕ) → j < 8 → r j < 2 ^ 11
  unfolding word_residue
  r_lt j h = residue_lt places places_lt 1952 j h

  abbrev term : ℕ → ℕ
  term c = scale (coefficient (c % 11) (r (c / 11))) (column c)

  columns_parity : xor_to 88 term ≡ parity
  unfolding column
  columns_parity = sum_blocks 11 8 term ∙ xor_to_same 8 _ _ factor ∙ shares_parity
    where
      one : (j i : ℕ) → i < 11 → term (11 * j + i) ≡ scale (coefficient i (r j)) (value_of step (at shares j) 12 (2 ^ i))
      one j i h =
          let q : (11 * j + i) / 11 ≡ j = omega arith in
          let m : (11 * j + i) % 11 ≡ i = omega arith in
          rw (q, m)

      factor : (j : ℕ) → j < 8 → xor_to 11 (λ i. term (11 * j + i)) ≡ value_of step (at shares j) 12 (r j)
      factor j h =
          xor_to_same 11 _ _ (λ i l. one j i l)
          ∙ sym (by_powers (value_of step (at shares j) 12) (value_of_sum step step_sum (at shares j) 12) 11 (r j) (r_lt j h))

-- ---- the matrix

matrix_bit : (q c : ℕ) → q < 88 → c < 88 → bit_at parity_matrix (88 * q + c) ≡ bit_of 88 (column c) q
unfolding parity_matrix
matrix_bit q c hq hc =
    let m : (88 * q + c) % 88 ≡ c = omega arith in
    let d : (88 * q + c) / 88 ≡ q = omega arith in
    bytes_bit 968 (λ i. bit_of 88 (column (i % 88)) (i / 88)) (λ i. bit_of_lt 88 (column (i % 88)) (i / 88)) (88 * q + c) (omega arith) ∙ rw (m, d)

-- four columns at a time, or one
module _ (xs matrix : List ℕ) (q : ℕ) where
  abbrev bit : ℕ → ℕ
  bit c = bit_at matrix (88 * q + c)

  four_bits : (g : ℕ) → g < 22 →
      at (four_sums xs) (16 * g + number_of 4 (λ t. bit_at matrix (88 * q + 4 * g + t))) ≡ xor_to 4 (λ t. scale (bit (4 * g + t)) (at xs (4 * g + t)))
  unfolding four_sums four_sum
  four_bits g h =
      let b : ℕ → ℕ = λ t. bit_at matrix (88 * q + 4 * g + t) in
      let bits : (t : ℕ) → bit_at matrix (88 * q + 4 * g + t) < 2 = λ t. bit_at_lt matrix _ in
      let v = number_of 4 (λ t. bit_at matrix (88 * q + 4 * g + t)) in
      let l : v < 16 = number_of_lt _ bits 4 in
      let d : (16 * g + v) / 16 ≡ g = omega arith in
      let m : (16 * g + v) % 16 ≡ v = omega arith in
      tabulate_at 352 (λ i. four_sum xs (i / 16) (i % 16)) (16 * g + v) 0 (omega arith) ∙ ap₂ (four_sum xs) d m
      ∙ xor_to_same 4 _ _ (λ t k. ap (λ (s : ℕ). scale s (at xs (4 * g + t))) (bit_of_number _ bits 4 t k ∙ ap (bit_at matrix) (omega arith)))

  pub place_picks : parity_sum (four_sums xs) matrix q ≡ xor_to 88 (λ c. scale (bit c) (at xs c))
  unfolding parity_sum
  place_picks = xor_to_same 22 _ _ four_bits ∙ sym (sum_blocks 4 22 (λ c. scale (bit c) (at xs c)))

sum_lt : (m n : ℕ) (f : ℕ → ℕ) → ((i : ℕ) → i < n → f i < 2 ^ m) → xor_to n f < 2 ^ m
unfolding xor_to
sum_lt m zero f h = pow_pos m
sum_lt m (suc n) f h = xor_lt m _ _ (sum_lt m n f (λ i l. h i (omega arith))) (h n (le_refl (suc n)))

-- ---- all inner words

module _ (bytes : List ℕ) (q : ℕ) (q-lt : q < 88) where
  abbrev cells : List ℕ
  cells = residues_of bytes 1952

  sum_bit : (k : ℕ) → k < 64 → bit_of 64 (parity_sum (four_sums cells) parity_matrix q) k ≡ bit_of 88 (inner_remainder (inner_data (bit_at bytes) k)) q
  sum_bit k h =
      ap (λ (x : ℕ). bit_of 64 x k) (place_picks cells parity_matrix q) ∙ additive_sum (λ x. bit_of 64 x k) (bit_of_sum 64 k) 88 _ ∙ xor_to_same 88 _ _ same
      ∙ sym (additive_sum (λ x. bit_of 88 x q) (bit_of_sum 88 q) 88 (term bytes k)) ∙ ap (λ (x : ℕ). bit_of 88 x q) (columns_parity bytes k)
    where
      same : (c : ℕ) → c < 88 → bit_of 64 (scale (bit_at parity_matrix (88 * q + c)) (at cells c)) k ≡ bit_of 88 (term bytes k c) q
      same c l =
          bit_of_scale 64 k _ (at cells c) ∙ ap₂ scale (matrix_bit q c q-lt l) (residue_bit bytes 1952 k c h l)
          ∙ scale_swap _ _ (bit_of_lt 88 (column c) q) (omega arith) ∙ sym (bit_of_scale 88 q _ (column c))

  sum_small : parity_sum (four_sums cells) parity_matrix q < 2 ^ 64
  sum_small = rw (place_picks cells parity_matrix q) (sum_lt 64 88 _ (λ c l. scale_lt _ (at cells c) (2 ^ 64) (pow_pos 64) (residues_lt bytes 1952 c l)))

  place_parity : parity_sum (four_sums cells) parity_matrix q ≡ number_of 64 (λ k. at (inner_parity (inner_data (bit_at bytes) k)) q)
  unfolding inner_parity
  place_parity =
      sym (number_of_bits_lem 64 _ sum_small)
      ∙ number_of_same 64 (bit_of 64 (parity_sum (four_sums cells) parity_matrix q)) _ (λ k l. sum_bit k l ∙ sym (tabulate_at 88 (bit_of 88 (inner_remainder (inner_data (bit_at bytes) k))) q 0 q-lt))

pub places_made : (bytes cells x : List ℕ) → cells ≡ residues_of bytes (5 + 11 * 177) → x ≡ parity_sums cells → x ≡ parity_places bytes
unfolding parity_sums parity_places
places_made bytes cells x ec ex = ex ∙ ap (λ (c : List ℕ). tabulate 88 (parity_sum (four_sums c) parity_matrix)) ec ∙ tabulate_same 88 _ _ (place_parity bytes)
