-- The parity places of inner words where they stand in a frame. Assumes nothing.
use mathlib.Core.Path.{◌≡◌, sym, ap, ◌∙◌}
use mathlib.Core.Bool.{true}
use mathlib.Core.List.{List}
use Prim.Native.Nat.{ℕ, ◌+◌, ◌-◌, ◌*◌, ◌/◌, ◌%◌, ◌≤◌, ◌<◌}
use native.Mathlib.Omega.{arith}
use lib.ListN.{length, get_or}
use mir.Syntax.{w8}
use mir.Val.{Fits}
use Rattle.fields.specs.Lists.{tabulate}
use Rattle.fields.specs.Places.{at, all_below}
use Rattle.fields.specs.Steps.Buffers.{Placed}
use Rattle.fields.proofs.Lists.{tabulate_at, tabulate_length}
use Rattle.fields.proofs.Places.Tests.{below_all}
use Rattle.fields.proofs.Places.Placing.{Placing, placing_more, placing_end}
use Rattle.words.specs.Bits.{bit_of, bit_at, bytes_of}
use Rattle.words.specs.InnerWords.{with_parity}
use Rattle.words.proofs.Bits.Bytes.{bytes_same}
use Rattle.inner_words.specs.Steps.BitSliced.{parity_places, byte_of64, parity_bytes}
use Rattle.inner_words.proofs.Interleaving.InterleavedBits.{parity_cases}
use Rattle.inner_words.proofs.Interleaving.BitSliced.{places_bits}
use Rattle.inner_words.proofs.Interleaving.EightBytes.{byte_bit}

-- ---- their bytes

module _ (cells : List ℕ) where
  parity_bytes_length : length (parity_bytes cells) ≡ 704
  unfolding parity_bytes
  parity_bytes_length = tabulate_length 704 _

  parity_byte : (m : ℕ) → m < 704 → at (parity_bytes cells) m ≡ byte_of64 (at cells (m / 8)) (m % 8)
  unfolding parity_bytes
  parity_byte m h = tabulate_at 704 _ m 0 h

  pub storing_next : {before after next : List ℕ} {q : ℕ} → Placing 15616 (parity_bytes cells) (8 * q) before after → q < 88 →
      Placed (8 * (1952 + q)) (tabulate 8 (byte_of64 (get_or cells q 0))) after next → Placing 15616 (parity_bytes cells) (8 * (q + 1)) before next
  storing_next {before} {after} {next} {q} so_far h put =
      let n : 8 * (q + 1) ≡ 8 * q + 8 = omega arith in
      let i : 8 * (1952 + q) ≡ 15616 + 8 * q = omega arith in
      rw n (placing_more so_far (rw i at put) (tabulate_length 8 _) (omega (arith, parity_bytes_length)) same)
    where
      same : (j : ℕ) → j < 8 → at (tabulate 8 (byte_of64 (get_or cells q 0))) j ≡ at (parity_bytes cells) (8 * q + j)
      same j l =
          let d : (8 * q + j) / 8 ≡ q = omega arith in
          let r : (8 * q + j) % 8 ≡ j = omega arith in
          tabulate_at 8 (byte_of64 (get_or cells q 0)) j 0 l ∙ sym (parity_byte (8 * q + j) (omega arith) ∙ rw (d, r))

  pub storing_end : {before after : List ℕ} {q : ℕ} → Placing 15616 (parity_bytes cells) (8 * q) before after → 88 ≤ q → Placed 15616 (parity_bytes cells) before after
  storing_end so_far h = placing_end so_far (omega (arith, parity_bytes_length))

-- ---- the frame with its parity places

module _ (before after : List ℕ) where
  stored_bit : Placed 15616 (parity_bytes (parity_places before)) before after → (i : ℕ) → i < 130560 → with_parity (bit_at before) i ≡ bit_at after i
  unfolding bit_at
  stored_bit stored i l =
      let cells = parity_places before in
      let p = i / 64 - 1952 in
      let m = i / 8 - 15616 in
      parity_cases (λ x. x ≡ bit_at after i) (bit_at before) i (λ h. ap (λ (x : ℕ). bit_of 8 x (i % 8)) (sym (stored.below (i / 8) (omega arith))))
      (λ h. let e : i / 8 ≡ 15616 + m = omega arith in
      let q : m / 8 ≡ p = omega arith in
      let r : 8 * (m % 8) + i % 8 ≡ i % 64 = omega arith in
      let byte : at after (i / 8) ≡ byte_of64 (at cells p) (m % 8) =
      ap (at after) e ∙ stored.inside m (omega (arith, parity_bytes_length cells)) ∙ parity_byte cells m (omega arith)
      ∙ ap (λ (j : ℕ). byte_of64 (at cells j) (m % 8)) q in
      sym (ap (λ (x : ℕ). bit_of 8 x (i % 8)) byte ∙ byte_bit (at cells p) (m % 8) (i % 8) (omega arith)
      ∙ ap (bit_of 64 (at cells p)) r ∙ places_bits before (i % 64) (omega arith) p (omega arith)))

  encoded : (cells : List ℕ) → cells ≡ parity_places before → Placed 15616 (parity_bytes cells) before after → length before ≡ 16320 →
      ((i : ℕ) → Fits w8 (get_or after i 0)) → after ≡ bytes_of 16320 (with_parity (bit_at before))
  encoded cells e stored long small =
      let below : all_below 256 after ≡ true = below_all 256 after (λ i l. omega (arith, small i)) in
      sym (bytes_same 16320 (with_parity (bit_at before)) after (stored.long ∙ long) below (stored_bit (rw e at stored)))

pub encoded_lent : (block before : List ℕ) {after : List ℕ} → before ≡ block → (cells : List ℕ) → cells ≡ parity_places before →
    Placed 15616 (parity_bytes cells) before after → length block ≡ 16320 → ((i : ℕ) → Fits w8 (get_or after i 0)) → after ≡ bytes_of 16320 (with_parity (bit_at block))
encoded_lent block before {after} e cells ec stored long small = rw e at (encoded before after cells ec stored (rw (← e) at long) small)
