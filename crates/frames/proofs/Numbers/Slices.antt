-- Parts of a list that are read or written as slices. Assumes nothing.
use mathlib.Core.Path.{◌≡◌, sym, ap, ◌∙◌, subst}
use mathlib.Core.List.{List, ◌++◌}
use Prim.Native.Nat.{ℕ, ◌+◌, ◌-◌, ◌*◌, ◌/◌, ◌%◌, ◌≤◌, ◌<◌}
use native.Mathlib.Decide.{dec_lt}
use native.Mathlib.Omega.{arith}
use borrow.Rule.Slice.PartMut.{put_mid}
use lib.ListN.{length, take, drop, length-append, length-drop}
use lib.Seq.{ext_get_or, get_or-take, get_or-drop, length-take-le}
use Rattle.std.proofs.lemmas.List.{get_or_past}
use Rattle.fields.specs.Places.{at}
use Rattle.fields.specs.Steps.Buffers.{Placed}
use Rattle.fields.proofs.Places.Placing.{append_at, placed_append}
use Rattle.words.specs.Bits.{bit_of, bit_at}

-- the n places of a list from place k on
pub part_long : (xs : List ℕ) (k n : ℕ) → k + n ≤ length xs → length (take n (drop k xs)) ≡ n
part_long xs k n room = length-take-le n (drop k xs) (omega (arith, length-drop k xs))

pub part_at : (xs : List ℕ) (k n i : ℕ) → i < n → at (take n (drop k xs)) i ≡ at xs (k + i)
part_at xs k n i l = get_or-take n (drop k xs) i 0 l ∙ get_or-drop k xs i 0

-- all of them from place k on, and past the end
pub rest_at : (xs : List ℕ) (k n i : ℕ) → k ≤ length xs → n ≡ length xs - k → at (take n (drop k xs)) i ≡ at xs (k + i)
rest_at xs k n i h e = go (dec_lt i n)
  where
    go : Dec (i < n) → at (take n (drop k xs)) i ≡ at xs (k + i)
    go (yes l) = part_at xs k n i l
    go (no g) = get_or_past (take n (drop k xs)) i 0 (omega (arith, part_long xs k n (omega arith))) ∙ sym (get_or_past xs (k + i) 0 (omega arith))

pub rest_bit : (bytes : List ℕ) (k n i : ℕ) → k ≤ length bytes → n ≡ length bytes - k → bit_at (take n (drop k bytes)) i ≡ bit_at bytes (8 * k + i)
unfolding bit_at
rest_bit bytes k n i h e =
    let q : (8 * k + i) / 8 ≡ k + i / 8 = omega arith in
    let r : (8 * k + i) % 8 ≡ i % 8 = omega arith in
    ap (λ (x : ℕ). bit_of 8 x (i % 8)) (rest_at bytes k n (i / 8) h e) ∙ rw (q, r)

-- a list that is written over as many places of a buffer
abbrev after_part : ℕ → ℕ → List ℕ → List ℕ
after_part a k xs = drop k (drop a xs)

pub placed_slice : (a k : ℕ) (ys xs : List ℕ) → length ys ≡ k → a + k ≤ length xs → Placed a ys xs (put_mid a k xs ys)
placed_slice a k ys xs e room =
    record {
      long = omega (arith, length-append (take a xs) (ys ++ after_part a k xs), length-append ys (after_part a k xs), start, length-drop k (drop a xs), length-drop a xs);
      inside = λ j h. append_at (take a xs) (ys ++ after_part a k xs) a (a + j) start (λ l. absurd (omega arith)) (λ l.
          append_at ys (after_part a k xs) k (a + j - a) e (λ m. ap (at ys) (omega arith)) (λ m. absurd (omega arith)));
      below = λ j h. append_at (take a xs) (ys ++ after_part a k xs) a j start (λ l. get_or-take a xs j 0 l) (λ l. absurd (omega arith));
      above = λ j h. append_at (take a xs) (ys ++ after_part a k xs) a j start (λ l. absurd (omega arith)) (λ l.
          append_at ys (after_part a k xs) k (j - a) e (λ m. absurd (omega arith)) (λ m.
          get_or-drop k (drop a xs) (j - a - k) 0 ∙ get_or-drop a xs (k + (j - a - k)) 0 ∙ ap (at xs) (omega arith)));
    }
  where
    start : length (take a xs) ≡ a
    start = length-take-le a xs (omega arith)

-- a list that stands in the whole buffer is all of it
pub placed_whole : {xs before after : List ℕ} → Placed 0 xs before after → length xs ≡ length before → after ≡ xs
placed_whole {xs} {before} {after} p e =
    ext_get_or 0 after xs (p.long ∙ sym e) (λ j h. let z : j ≡ 0 + j = omega arith in ap (at after) z ∙ p.inside j (omega (arith, p.long)))

-- two lists that are written side by side over a whole buffer
pub two_slices : (before first second : List ℕ) (f s : ℕ) → length first ≡ f → length second ≡ s → f + s ≡ length before →
    put_mid f s (first ++ drop f before) second ≡ first ++ second
two_slices before first second f s e1 e2 all =
    let mid = first ++ drop f before in
    let p : Placed 0 first before mid = placed_slice 0 f first before e1 (omega arith) in
    let q : Placed f second mid (put_mid f s mid second) = placed_slice f s second mid e2 (omega (arith, p.long)) in
    let z : f ≡ 0 + f = omega arith in
    let there : Placed 0 (first ++ second) before (put_mid f s mid second) =
    placed_append e1 p (subst (λ (x : ℕ). Placed x second mid (put_mid f s mid second)) z q) in
    placed_whole there (omega (arith, length-append first second))
