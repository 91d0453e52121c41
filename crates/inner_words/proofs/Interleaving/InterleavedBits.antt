-- The bits of 64 inner words: their places, data and parity, both ways. Assumes nothing.
use mathlib.Core.Path.{◌≡◌, sym, ap, ◌∙◌}
use mathlib.Core.Bool.{true}
use mathlib.Core.List.{List, ◌++◌}
use Prim.Native.Nat.{ℕ, ◌+◌, ◌-◌, ◌*◌, ◌/◌, ◌%◌, ◌≤◌, ◌<◌}
use native.Mathlib.Decide.{dec_lt}
use native.Mathlib.Omega.{arith}
use borrow.Author.Tests.{lt-ltb, le-ltb}
use lib.Dec.{lit<}
use lib.ListN.{length}
use Rattle.fields.specs.Lists.{tabulate}
use Rattle.fields.specs.Places.{at, all_below}
use Rattle.fields.proofs.Lists.{tabulate_at, tabulate_is, tabulate_length, tabulate_lt, tabulate_same, tabulate_append}
use Rattle.fields.proofs.Places.Tests.{below_at, below_all}
use Rattle.words.specs.InnerCode.{is_inner, inner_parity}
use Rattle.words.specs.InnerWords.{inner_data, inner_word, parity_place, with_parity}
use Rattle.words.proofs.Codes.InnerParity.{parity_bits}
use Rattle.words.proofs.Codes.Proved.{codes}

-- places of inner words are bits, both ways
pub place_to_bit : (b : ℕ → ℕ) (k p : ℕ) → p < 2040 → at (inner_word b k) p ≡ b (64 * p + k)
unfolding inner_word
place_to_bit b k p l = tabulate_at 2040 _ p 0 l

pub bit_to_place : (b : ℕ → ℕ) (i : ℕ) → i < 130560 → b i ≡ at (inner_word b (i % 64)) (i / 64)
bit_to_place b i l = sym (place_to_bit b (i % 64) (i / 64) (omega arith) ∙ ap b (omega arith))

-- bits are the same where their inner words are
pub word_to_bit : (b c : ℕ → ℕ) (i : ℕ) → i < 130560 → inner_word b (i % 64) ≡ inner_word c (i % 64) → b i ≡ c i
word_to_bit b c i l e = bit_to_place b i l ∙ ap (λ (w : List ℕ). at w (i / 64)) e ∙ sym (bit_to_place c i l)

pub inner_word_length : (b : ℕ → ℕ) (k : ℕ) → length (inner_word b k) ≡ 2040
unfolding inner_word
inner_word_length b k = tabulate_length 2040 (λ p. b (64 * p + k))

-- the first 1,952 places of an inner word, and the last 88
inner_parts : (b : ℕ → ℕ) (k : ℕ) → inner_word b k ≡ inner_data b k ++ tabulate 88 (λ p. b (parity_place p k))
unfolding inner_word inner_data parity_place
inner_parts b k = sym (tabulate_append 1952 88 (λ p. b (64 * p + k)) (λ p. b (124928 + 64 * p + k)) (λ p. ap b (omega arith)))

pub data_length : (b : ℕ → ℕ) (k : ℕ) → length (inner_data b k) ≡ 1952
unfolding inner_data
data_length b k = tabulate_length 1952 (λ p. b (64 * p + k))

pub data_same : (b c : ℕ → ℕ) → ((i : ℕ) → i < 124928 → b i ≡ c i) → (k : ℕ) → k < 64 → inner_data b k ≡ inner_data c k
unfolding inner_data
data_same b c h k l = tabulate_same 1952 _ _ (λ p m. h (64 * p + k) (omega arith))

pub data_below : (b : ℕ → ℕ) → ((i : ℕ) → b i < 2) → (k : ℕ) → all_below 2 (inner_data b k) ≡ true
unfolding inner_data
data_below b bits k = below_all 2 _ (λ i l. tabulate_lt 2 1952 (λ p. b (64 * p + k)) (lit< tt) (λ p. bits (64 * p + k)) i)

-- an inner word is a code word where its parity places hold the parity bits of its data
pub places_code : (b : ℕ → ℕ) → ((i : ℕ) → b i < 2) → (k : ℕ) → ((p : ℕ) → p < 88 → at (inner_parity (inner_data b k)) p ≡ b (parity_place p k)) →
    is_inner (inner_word b k) ≡ true
places_code b bits k h =
    let d = inner_data b k in
    let parity : inner_parity d ≡ tabulate 88 (λ p. b (parity_place p k)) = tabulate_is 88 _ (inner_parity d) 0 (codes.inner_length d) h in
    rw (inner_parts b k, ← parity) (codes.inner_made d (data_length b k) (data_below b bits k))

pub code_places : (b : ℕ → ℕ) (k : ℕ) → is_inner (inner_word b k) ≡ true → (p : ℕ) → p < 88 → at (inner_parity (inner_data b k)) p ≡ b (parity_place p k)
code_places b k h p l =
    let d = inner_data b k in
    let q = tabulate 88 (λ p. b (parity_place p k)) in
    let parity : q ≡ inner_parity d = codes.inner_only d q (data_length b k) (ap is_inner (sym (inner_parts b k)) ∙ h) in
    ap (λ (x : List ℕ). at x p) (sym parity) ∙ tabulate_at 88 _ p 0 l

-- a bit with parity: below 124,928, and from there on
pub parity_before : (b : ℕ → ℕ) (i : ℕ) → i < 124928 → with_parity b i ≡ b i
unfolding with_parity
parity_before b i l = rw (lt-ltb i 124928 l)

pub parity_after : (b : ℕ → ℕ) (i : ℕ) → 124928 ≤ i → with_parity b i ≡ at (inner_parity (inner_data b (i % 64))) (i / 64 - 1952)
unfolding with_parity
parity_after b i g = rw (le-ltb i 124928 g)

-- both
pub parity_cases : (P : ℕ → Type 0) (b : ℕ → ℕ) (i : ℕ) → (i < 124928 → P (b i)) →
    (124928 ≤ i → P (at (inner_parity (inner_data b (i % 64))) (i / 64 - 1952))) → P (with_parity b i)
parity_cases P b i before after = go (dec_lt i 124928)
  where
    go : Dec (i < 124928) → P (with_parity b i)
    go (yes l) = rw (parity_before b i l) (before l)
    go (no g) = let h : 124928 ≤ i = omega arith in rw (parity_after b i h) (after h)

pub with_parity_lt : (b : ℕ → ℕ) → ((i : ℕ) → b i < 2) → (i : ℕ) → with_parity b i < 2
with_parity_lt b bits i =
    let d = inner_data b (i % 64) in
    parity_cases (λ x. x < 2) b i (λ l. bits i) (λ g. below_at 2 (inner_parity d) (lit< tt) (parity_bits d) (i / 64 - 1952))
