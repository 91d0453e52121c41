-- Answers packed into one number. Assumes nothing.
use mathlib.Core.Path.{◌≡◌, ap}
use mathlib.Core.List.{List}
use Prim.Native.Nat.{ℕ, ◌+◌, ◌*◌, ◌≤◌}
use native.Mathlib.Nat.{add_comm}
use Rattle.fields.specs.Steps.Buffers.{copied}
use Rattle.words.specs.Corrections.{Correction, refusal_of, changed_of}
use Rattle.words.specs.InnerCorrections.{InnerCorrection, inner_refusal_of, data_changed_of, parity_changed_of}
use Rattle.words.specs.Answers.{inner_corrected}
use Rattle.words.proofs.Steps.InnerCorrection.{changes_few}
use Rattle.frames.specs.Answers.{CorrectorAnswer}
use Rattle.exports.specs.Packed.{packed, packed_word, packed_inner, packed_frame}

pub word_packed : (r : ℕ) (c : Correction) (out : List ℕ) (a : Correction × List ℕ) → r ≡ packed (refusal_of c) (changed_of c) → ◌≡◌ {A = Correction × List ℕ} (c, out) a →
    ◌≡◌ {A = ℕ × List ℕ} (r, out) (packed_word a)
unfolding packed_word
word_packed r c out a e h = rw (← h, e)

module _ (w o : List ℕ) (c : InnerCorrection) (out : List ℕ) (h : ◌≡◌ {A = InnerCorrection × List ℕ} (c, out) (inner_corrected w o)) where
  pub inner_few : data_changed_of c + parity_changed_of c ≤ 8
  inner_few = let e = ap (λ (a : InnerCorrection × List ℕ). a.0) h in rw e (changes_few w o)

  pub inner_packed : (r : ℕ) → r ≡ packed (inner_refusal_of c) (packed (data_changed_of c) (parity_changed_of c)) → ◌≡◌ {A = ℕ × List ℕ} (r, out) (packed_inner (inner_corrected w o))
  unfolding packed_inner
  inner_packed r e = rw (← h, e)

pub frame_packed : (r n sum : ℕ) (d p out x y x' y' : List ℕ) (a : CorrectorAnswer) → r ≡ 256 * sum + n → x' ≡ copied d x → y' ≡ copied p y →
    ◌≡◌ {A = CorrectorAnswer} (n, d, p, sum, out) a → ◌≡◌ {A = ℕ × List ℕ × List ℕ × List ℕ} (r, out, x', y') (packed_frame a x y)
unfolding packed_frame packed
frame_packed r n sum d p out x y x' y' a e h g q = rw (← q, e, h, g, add_comm n (256 * sum))
