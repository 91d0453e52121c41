-- Parity bits of the inner code: data with its parity bits is a code word, and no other bits make one of it. Assumes nothing.
use mathlib.Core.Path.{◌≡◌, refl, sym, ap, ◌∙◌, subst}
use mathlib.Core.Bool.{true}
use mathlib.Core.List.{List, ◌++◌}
use Prim.Native.Nat.{ℕ, zero, suc, ◌+◌, ◌*◌, ◌^◌, ◌≤◌, ◌<◌}
use native.Mathlib.Nat.{le_refl}
use native.Mathlib.Omega.{arith}
use lib.Dec.{lit<}
use lib.ListN.{length, length-append}
use lib.Pow.{pow_mono}
use lib.Seq.{get_or-append-add}
use Rattle.fields.specs.Elements.{xor, doubled}
use Rattle.fields.specs.Lists.{tabulate}
use Rattle.fields.specs.Places.{at, all_below, horner}
use Rattle.fields.proofs.Xor.{xor_zero_r, xor_self, xor_shifted, xor_cancel}
use Rattle.fields.proofs.Doubling.{doubled_sum, doubled_below}
use Rattle.fields.proofs.Lists.{tabulate_length, tabulate_at, tabulate_is}
use Rattle.fields.proofs.Places.Tests.{below_at, below_all, below_append}
use Rattle.words.specs.Bits.{bit_of, number_of}
use Rattle.words.specs.InnerCode.{divisor, remainder, is_inner, inner_remainder, inner_parity}
use Rattle.words.proofs.Bits.Numbers.{bit_of_lt, number_of_lt, number_of_bits_lem, bit_of_number}
use Rattle.words.proofs.Codes.Horner.{horner_same, horner_append, remainder_lt}
use Rattle.words.proofs.Codes.LeastPolynomials.{divisor_degree}
use Rattle.words.proofs.Codes.InnerWords.{inner_is}

-- a word of at most m bits is its own remainder
pub remainder_short : (m p : ℕ) (b : ℕ → ℕ) → ((i : ℕ) → b i < 2) → (n : ℕ) → n ≤ m → remainder m p b n ≡ number_of n b
unfolding horner number_of
remainder_short m p b bits zero h = refl
remainder_short m p b bits (suc n) h =
    let k : 2 ^ suc n ≤ 2 ^ m = pow_mono h in
    let v = number_of n b in
    let e : 2 * v ≡ v * 2 ^ 1 = omega arith in
    rw (remainder_short m p b bits n (omega arith), doubled_below m p v (omega (arith, number_of_lt b bits n)), e) (xor_shifted v 1 (b n) (bits n))

pub inner_remainder_lt : (b : ℕ → ℕ) → ((i : ℕ) → b i < 2) → (n : ℕ) → remainder 88 divisor b n < 2 ^ 88
inner_remainder_lt = remainder_lt 88 divisor (lit< tt) divisor_degree

pub inner_length : (d : List ℕ) → length (inner_parity d) ≡ 88
unfolding inner_parity
inner_length d = tabulate_length 88 (bit_of 88 (inner_remainder d))

-- the remainder of data followed by 88 bits
followed : (d q : List ℕ) → length d ≡ 1952 → remainder 88 divisor (at (d ++ q)) 2040 ≡ xor (inner_remainder d) (remainder 88 divisor (at q) 88)
unfolding inner_remainder
followed d q long =
    subst (λ (n : ℕ). remainder 88 divisor (at (d ++ q)) (n + 88) ≡ xor (remainder 88 divisor (at d) (n + 88)) (remainder 88 divisor (at q) 88)) long
    (horner_append (doubled 88 divisor) (doubled_sum 88 divisor) d q 88)

parity_remainder : (d : List ℕ) → all_below 2 d ≡ true → remainder 88 divisor (at (inner_parity d)) 88 ≡ inner_remainder d
unfolding inner_parity inner_remainder
parity_remainder d h =
    let r = inner_remainder d in
    horner_same (doubled 88 divisor) _ _ 88 (λ i l. tabulate_at 88 (bit_of 88 r) i 0 l) ∙ remainder_short 88 divisor (bit_of 88 r) (bit_of_lt 88 r) 88 (le_refl 88)
    ∙ number_of_bits_lem 88 r (inner_remainder_lt (at d) (below_at 2 d (lit< tt) h) 2040)

pub parity_bits : (d : List ℕ) → all_below 2 (inner_parity d) ≡ true
unfolding inner_parity
parity_bits d =
    let b = bit_of 88 (inner_remainder d) in
    below_all 2 (tabulate 88 b) (λ i l. rw (tabulate_at 88 b i 0 (rw (tabulate_length 88 b) at l)) (bit_of_lt 88 (inner_remainder d) i))

pub inner_made : (d : List ℕ) → length d ≡ 1952 → all_below 2 d ≡ true → is_inner (d ++ inner_parity d) ≡ true
unfolding is_inner
inner_made d long h =
    let l : length (d ++ inner_parity d) ≡ 2040 = rw (length-append, inner_length d, long) in
    rw (l, below_append 2 d (inner_parity d) h (parity_bits d), followed d (inner_parity d) long, parity_remainder d h, xor_self (inner_remainder d))

pub inner_only : (d q : List ℕ) → length d ≡ 1952 → is_inner (d ++ q) ≡ true → q ≡ inner_parity d
unfolding inner_parity
inner_only d q long h =
    let w = inner_is (d ++ q) h in
    let s = inner_remainder d in
    let bits : (i : ℕ) → at q i < 2 = λ i. rw (get_or-append-add d q i 0) at (w.bits (length d + i)) in
    let sum : xor s (number_of 88 (at q)) ≡ 0 = ap (xor s) (sym (remainder_short 88 divisor (at q) bits 88 (le_refl 88))) ∙ sym (followed d q long) ∙ w.divides in
    let r : number_of 88 (at q) ≡ s = sym (xor_cancel s _) ∙ ap (xor s) sum ∙ xor_zero_r s in
    let e : length d + length q ≡ 2040 = sym (length-append d q) ∙ w.long in
    tabulate_is 88 _ q 0 (omega arith) (λ i l. rw (← r) (sym (bit_of_number (at q) bits 88 i l)))
