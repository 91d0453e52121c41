-- What the entries answer, one law for each way through an entry. Assumes nothing.
use mathlib.Core.Path.{◌≡◌, sym, ap, ◌∙◌}
use mathlib.Core.Bool.{Bool, true, false, ◌&&◌}
use mathlib.Core.List.{List}
use Prim.Native.Nat.{ℕ, ◌-◌, ◌/◌, ◌%◌, ◌<◌}
use native.Mathlib.Omega.{arith}
use borrow.Author.Tests.{eq-eqb, ne_eqb}
use lib.ListN.{length, get_or}
use mir.Syntax.{w8}
use mir.Val.{Fits}
use Rattle.fields.specs.Places.{at}
use Rattle.fields.proofs.Places.Tests.{below_all}
use Rattle.words.specs.Bits.{bit_at, bytes_of}
use Rattle.words.specs.InnerCode.{inner_parity}
use Rattle.words.specs.Answers.{answered}
use Rattle.words.specs.InnerWords.{with_parity}
use Rattle.words.proofs.Bits.Bytes.{bits_same}
use Rattle.inner_words.specs.Steps.Passes.{inner_codes}
use Rattle.inner_words.proofs.Interleaving.InterleavedBits.{data_same, parity_before, parity_after, parity_cases}
use Rattle.frames.specs.Frames.{is_block, outer_words, sent_bit, frame_of_words, frame_of}
use Rattle.frames.specs.Answers.{is_frame, frame_encoded, frame_checked, payload_extracted}
use Rattle.frames.specs.Steps.Received.{received_symbols, outer_codes}
use Rattle.frames.specs.Steps.Symbols.{Concatenated, Sent, payload_in}
use Rattle.frames.proofs.OuterSymbols.Received.{is_frame_lem}
use Rattle.frames.proofs.OuterSymbols.Words.{received_payload, symbols_sent}

-- ---- encoding

-- parity bits are those of the data bits
with_parity_same : (b c : ℕ → ℕ) → ((i : ℕ) → i < 124928 → b i ≡ c i) → (i : ℕ) → i < 130560 → with_parity b i ≡ with_parity c i
with_parity_same b c h i l =
    parity_cases (λ x. x ≡ with_parity c i) b i (λ m. h i m ∙ sym (parity_before c i m))
    (λ m. ap (λ (d : List ℕ). at (inner_parity d) (i / 64 - 1952)) (data_same b c h (i % 64) (omega arith)) ∙ sym (parity_after c i m))

-- outer words, what is sent of their symbols and the parity bits after that are the frame of the words
pub frame_written : (words : List (List ℕ)) (outer mid : List ℕ) → Concatenated words outer → Sent outer mid → bytes_of 16320 (with_parity (bit_at mid)) ≡ frame_of_words words
unfolding frame_of_words
frame_written words outer mid r s =
    bits_same 16320 _ _ (with_parity_same (bit_at mid) (sent_bit words) (λ i l. s.bits i l ∙ symbols_sent words outer r i l))

module _ (p o : List ℕ) where
  pub encode_length : (length p ≡ 15296 → ⊥) → ◌≡◌ {A = ℕ × List ℕ} (1, o) (frame_encoded p o)
  unfolding frame_encoded answered
  encode_length n = rw (ne_eqb (length p) 15296 n)

  module _ (e : length p ≡ 15296) where
    pub encode_space : (length o ≡ 16320 → ⊥) → ◌≡◌ {A = ℕ × List ℕ} (3, o) (frame_encoded p o)
    unfolding frame_encoded answered
    encode_space n = rw (eq-eqb (length p) 15296 e, ne_eqb (length o) 16320 n)

    pub encode_written : (outer mid out : List ℕ) → length o ≡ 16320 → Concatenated (outer_words p) outer → Sent outer mid → out ≡ bytes_of 16320 (with_parity (bit_at mid)) →
        ◌≡◌ {A = ℕ × List ℕ} (0, out) (frame_encoded p o)
    unfolding frame_encoded answered frame_of
    encode_written outer mid out f r s w = rw (eq-eqb (length p) 15296 e, eq-eqb (length o) 16320 f, w, frame_written (outer_words p) outer mid r s)

-- ---- blocks

pub is_block_lem : (b : List ℕ) → length b ≡ 16320 → ((i : ℕ) → Fits w8 (get_or b i 0)) → is_block b ≡ true
unfolding is_block
is_block_lem b e bytes = rw (eq-eqb (length b) 16320 e, below_all 256 b (λ i l. omega (arith, bytes i)))

-- the test of a block decides
block_tested : (b : List ℕ) → length b ≡ 16320 → ((i : ℕ) → Fits w8 (get_or b i 0)) → (t : Bool) → t ≡ (outer_codes (bit_at b) && inner_codes (bit_at b)) → is_frame b ≡ t
block_tested b e bytes t test = is_frame_lem b (is_block_lem b e bytes) ∙ sym test

module _ (b : List ℕ) where
  pub check_length : (length b ≡ 16320 → ⊥) → 2 ≡ frame_checked b
  unfolding frame_checked
  check_length n = rw (ne_eqb (length b) 16320 n)

  module _ (e : length b ≡ 16320) (bytes : (i : ℕ) → Fits w8 (get_or b i 0)) (t : Bool) (test : t ≡ (outer_codes (bit_at b) && inner_codes (bit_at b))) where
    pub check_accepted : t ≡ true → 0 ≡ frame_checked b
    unfolding frame_checked
    check_accepted h = rw (eq-eqb (length b) 16320 e, block_tested b e bytes t test, h)

    pub check_no_frame : t ≡ false → 4 ≡ frame_checked b
    unfolding frame_checked
    check_no_frame h = rw (eq-eqb (length b) 16320 e, block_tested b e bytes t test, h)

module _ (b o : List ℕ) where
  pub extract_length : (length b ≡ 16320 → ⊥) → ◌≡◌ {A = ℕ × List ℕ} (2, o) (payload_extracted b o)
  unfolding payload_extracted answered
  extract_length n = rw (ne_eqb (length b) 16320 n)

  module _ (e : length b ≡ 16320) where
    pub extract_space : (length o ≡ 15296 → ⊥) → ◌≡◌ {A = ℕ × List ℕ} (3, o) (payload_extracted b o)
    unfolding payload_extracted answered
    extract_space n = rw (eq-eqb (length b) 16320 e, ne_eqb (length o) 15296 n)

    module _ (f : length o ≡ 15296) (bytes : (i : ℕ) → Fits w8 (get_or b i 0)) (t : Bool) (test : t ≡ (outer_codes (bit_at b) && inner_codes (bit_at b))) where
      pub extract_no_frame : t ≡ false → ◌≡◌ {A = ℕ × List ℕ} (4, o) (payload_extracted b o)
      unfolding payload_extracted answered
      extract_no_frame h = rw (eq-eqb (length b) 16320 e, eq-eqb (length o) 15296 f, block_tested b e bytes t test, h)

      pub extract_written : (outer out : List ℕ) → t ≡ true → outer ≡ received_symbols (bit_at b) → out ≡ payload_in outer → ◌≡◌ {A = ℕ × List ℕ} (0, out) (payload_extracted b o)
      unfolding payload_extracted answered
      extract_written outer out h r w =
          rw (eq-eqb (length b) 16320 e, eq-eqb (length o) 15296 f, block_tested b e bytes t test, h, w, r, received_payload b)
