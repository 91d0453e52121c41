-- Document 03's parity bits of a frame are ours. Assumes nothing.
use mathlib.Core.Path.{◌≡◌, refl, sym, ap, ap₂, ◌∙◌}
use mathlib.Core.List.{List, [], ◌∷◌, ◌++◌}
use Prim.Native.Nat.{ℕ, zero, suc, ◌+◌, ◌-◌, ◌*◌, ◌/◌, ◌%◌, ◌<◌}
use native.Mathlib.Nat.{le_of_suc-le-suc, not-suc-le-zero}
use native.Mathlib.Omega.{arith}
use lib.ListN.{length, get_or, drop, length-append, get_or-append}
use lib.Seq.{get_or-append-add, get_or-drop}
use Rattle.fields.specs.Lists.{tabulate}
use Rattle.fields.specs.Places.{at}
use Rattle.fields.proofs.Lists.{tabulate_length, tabulate_at, tabulate_same}
use Rattle.fields.proofs.Places.Placing.{append_at}
use Rattle.words.specs.InnerCode.{inner_parity}
use Rattle.words.specs.InnerWords.{with_parity}
use Rattle.words.specs.InnerWords as InnerWords
use Rattle.inner_words.proofs.Interleaving.InterleavedBits.{data_length, data_below, parity_before, parity_after}
use Rattle.document03.proofs.Words.Statements.{inner_checks}
use Rattle.document03.proofs.Words.WordsAgree.{dropped_at}
use Rattle.document03.proofs.Words.InnerAgrees.{parity_agrees}
use Rattle.document03.proofs.Frames.Statements.{every_from, inner_data, checks_from, heads, tails, woven, with_checks}
use Rattle.document03.proofs.Frames.ListsAgree.{all_agree}

-- every 64th bit, from bit k on
every_first : (n : ℕ) (bs : List ℕ) → every_from n bs ≡ tabulate n (λ p. at bs (64 * p))
unfolding tabulate
every_first zero bs = refl
every_first (suc n) bs =
    ap₂ ◌∷◌ (ap (at bs) (omega arith)) (every_first n (drop 64 bs) ∙ tabulate_same n _ _ (λ p l. get_or-drop 64 bs (64 * p) 0 ∙ ap (at bs) (omega arith)))

pub every_agrees : (n k : ℕ) (bs : List ℕ) → every_from n (drop k bs) ≡ tabulate n (λ p. at bs (64 * p + k))
every_agrees n k bs = every_first n (drop k bs) ∙ tabulate_same n _ _ (λ p l. get_or-drop k bs (64 * p) 0 ∙ ap (at bs) (omega arith))

-- words woven into each other: place p of word k is place m p + k, if there are m words
heads_long : (cs : List (List ℕ)) → length (heads cs) ≡ length cs
heads_long [] = refl
heads_long (c ∷ cs) = ap suc (heads_long cs)

heads_at : (cs : List (List ℕ)) (k : ℕ) → at (heads cs) k ≡ at (get_or cs k []) 0
heads_at [] k = refl
heads_at (c ∷ cs) zero = refl
heads_at (c ∷ cs) (suc k) = heads_at cs k

tails_long : (cs : List (List ℕ)) → length (tails cs) ≡ length cs
tails_long [] = refl
tails_long (c ∷ cs) = ap suc (tails_long cs)

tails_at : (cs : List (List ℕ)) (k : ℕ) → get_or (tails cs) k [] ≡ drop 1 (get_or cs k [])
tails_at [] k = refl
tails_at (c ∷ cs) zero = refl
tails_at (c ∷ cs) (suc k) = tails_at cs k

woven_long : (n : ℕ) (cs : List (List ℕ)) → length (woven n cs) ≡ n * length cs
woven_long zero cs = omega arith
woven_long (suc n) cs =
    length-append (heads cs) (woven n (tails cs)) ∙ omega (arith, heads_long cs, woven_long n (tails cs) ∙ ap (λ (m : ℕ). n * m) (tails_long cs))

woven_at : (n : ℕ) (cs : List (List ℕ)) (p k : ℕ) → p < n → k < length cs → at (woven n cs) (length cs * p + k) ≡ at (get_or cs k []) p
woven_at zero cs p k hp hk = absurd (not-suc-le-zero hp)
woven_at (suc n) cs zero k hp hk =
    let e : length cs * 0 + k ≡ k = omega arith in
    ap (at (heads cs ++ woven n (tails cs))) e ∙ get_or-append (heads cs) (woven n (tails cs)) 0 k (omega (arith, heads_long cs)) ∙ heads_at cs k
woven_at (suc n) cs (suc p) k hp hk =
    let e : length cs * suc p + k ≡ length (heads cs) + (length (tails cs) * p + k) = omega (arith, heads_long cs, ap (λ (m : ℕ). m * p) (tails_long cs)) in
    ap (at (heads cs ++ woven n (tails cs))) e ∙ get_or-append-add (heads cs) (woven n (tails cs)) (length (tails cs) * p + k) 0
    ∙ woven_at n (tails cs) p k (le_of_suc-le-suc hp) (omega (arith, tails_long cs)) ∙ ap (λ (c : List ℕ). at c p) (tails_at cs k) ∙ dropped_at (get_or cs k []) p

-- the bits b below 124,928, as a list
module _ (bs : List ℕ) (b : ℕ → ℕ) (long : length bs ≡ 124928) (same : (i : ℕ) → i < 124928 → at bs i ≡ b i) (bits : (i : ℕ) → b i < 2) where
  data_agrees : (k : ℕ) → k < 64 → inner_data k bs ≡ InnerWords.inner_data b k
  unfolding InnerWords.inner_data
  data_agrees k h = every_agrees 1952 k bs ∙ tabulate_same 1952 _ _ (λ p l. same (64 * p + k) (omega arith))

  parity : ℕ → List ℕ
  parity k = inner_parity (InnerWords.inner_data b k)

  word_agrees : (k : ℕ) → k < 64 → inner_checks (inner_data k bs) ≡ parity k
  unfolding parity
  word_agrees k h = ap inner_checks (data_agrees k h) ∙ parity_agrees (InnerWords.inner_data b k) (data_length b k) (data_below b bits k)

  checks_agree : checks_from 64 0 bs ≡ tabulate 64 parity
  checks_agree = all_agree (λ n k. checks_from n k bs) (λ k. inner_checks (inner_data k bs)) parity 64 (λ k. refl) (λ n k. refl) word_agrees

  checks_count : length (checks_from 64 0 bs) ≡ 64
  checks_count = ap length checks_agree ∙ tabulate_length 64 parity

  checks_at : (p k : ℕ) → p < 88 → k < 64 → at (woven 88 (checks_from 64 0 bs)) (64 * p + k) ≡ at (parity k) p
  checks_at p k hp hk =
      let cs = checks_from 64 0 bs in
      let e : 64 * p + k ≡ length cs * p + k = ap (λ (m : ℕ). m * p + k) (sym checks_count) in
      let c : get_or cs k [] ≡ parity k = ap (λ (ds : List (List ℕ)). get_or ds k []) checks_agree ∙ tabulate_at 64 parity k [] hk in
      ap (at (woven 88 cs)) e ∙ woven_at 88 cs p k hp (omega (arith, checks_count)) ∙ ap (λ (d : List ℕ). at d p) c

  pub with_long : length (with_checks bs) ≡ 130560
  with_long = length-append bs (woven 88 (checks_from 64 0 bs)) ∙ omega (arith, woven_long 88 (checks_from 64 0 bs), checks_count)

  pub with_at : (i : ℕ) → i < 130560 → at (with_checks bs) i ≡ with_parity b i
  unfolding parity
  with_at i l =
      let woven-bits = woven 88 (checks_from 64 0 bs) in
      append_at bs woven-bits 124928 i long (λ h. same i h ∙ sym (parity_before b i h))
      (λ h. let e : i - 124928 ≡ 64 * (i / 64 - 1952) + i % 64 = omega arith in
      ap (at woven-bits) e ∙ checks_at (i / 64 - 1952) (i % 64) (omega arith) (omega arith) ∙ sym (parity_after b i h))
