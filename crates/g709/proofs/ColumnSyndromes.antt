-- The syndromes of sixteen words side by side, by Horner's rule a column at a step. Assumes nothing.
use mathlib.Core.Path.{◌≡◌, refl, sym, ap, ap₂, ◌∙◌}
use mathlib.Core.Bool.{Bool, true}
use mathlib.Core.List.{List, [], ◌∷◌}
use Prim.Native.Nat.{ℕ, zero, suc, ◌+◌, ◌*◌, ◌≤◌, ◌<◌}
use native.Mathlib.Decide.{dec_lt}
use native.Mathlib.Nat.{le_refl, not-suc-le-zero}
use native.Mathlib.Omega.{arith}
use borrow.Author.Tests.{eqb-true}
use lib.Dec.{eqb}
use lib.ListN.{length, set}
use Rattle.fields.specs.Lists.{tabulate}
use Rattle.fields.specs.Elements.{xor, scale, doubled, power, times_c, powers_c, exponents_c}
use Rattle.fields.specs.Places.{at, every, horner, all_below}
use Rattle.fields.proofs.Instances.{field_c}
use Rattle.fields.proofs.Lists.{tabulate_at, tabulate_length, tabulate_same}
use Rattle.fields.proofs.Places.Tests.{every_at}
use Rattle.decoding.specs.Steps.ByTables.{root_value, root_values}
use Rattle.words.proofs.Codes.Horner.{horner_same}
use Rattle.words.proofs.Codes.ReedSolomon.{root_is}
use Rattle.g709.specs.Steps.Registers.{agree}
use Rattle.g709.specs.Steps.Restoring.{lane_of}
use Rattle.g709.specs.Steps.ColumnSyndromes.{value_stored, values_stored, SyndromesTo}
use Rattle.g709.proofs.Overlays.{over_length, over_in, over_front, over_behind, OverTo, over_next, over_end}
use Rattle.g709.proofs.Folds.{by, none, value_by}

-- ---- a value of the sixteen words

abbrev pub new_value : List ℕ → List ℕ → ℕ → ℕ → ℕ → ℕ → ℕ
new_value s rest m n y l = xor (times_c (at s (n + l)) y) (at rest (m + l))

pub value_next : (s rest : List ℕ) (m n y l p v : ℕ) (o : List ℕ) → OverTo s n 16 (new_value s rest m n y) l o → l < 16 → n + 16 ≤ length s → p ≡ times_c (at o (n + l)) y →
    v ≡ xor p (at rest (m + l)) → OverTo s n 16 (new_value s rest m n y) (l + 1) (set o (n + l) v)
value_next s rest m n y l p v o h lt room ep ev =
    over_next s n 16 (new_value s rest m n y) l v o h lt (omega arith)
    (ev ∙ ap (λ (x : ℕ). xor x (at rest (m + l))) (ep ∙ ap (λ (x : ℕ). times_c x y) (h.behind (n + l) (le_refl (n + l)))))

pub value_end : (s rest : List ℕ) (m n i j y l : ℕ) (o : List ℕ) → m ≡ 16 * i → n ≡ 16 * j → OverTo s n 16 (new_value s rest m n y) l o → 16 ≤ l → o ≡ value_stored s rest i j y
unfolding value_stored
value_end s rest m n i j y l o em en h le = over_end s n 16 (new_value s rest m n y) l o h le ∙ rw (em, en)

-- the sixteen powers, written out
sixteen_powers : every 16 (λ j. eqb (at (1 ∷ 2 ∷ 4 ∷ 8 ∷ 16 ∷ 32 ∷ 64 ∷ 128 ∷ 29 ∷ 58 ∷ 116 ∷ 232 ∷ 205 ∷ 135 ∷ 19 ∷ 38 ∷ []) j) (power 8 285 j)) ≡ true
unfolding every power doubled scale xor
sixteen_powers = refl

pub one_value : (s rest a b : List ℕ) (i j : ℕ) → j < 16 → a ≡ values_stored s rest i j →
    b ≡ value_stored a rest i j (at (1 ∷ 2 ∷ 4 ∷ 8 ∷ 16 ∷ 32 ∷ 64 ∷ 128 ∷ 29 ∷ 58 ∷ 116 ∷ 232 ∷ 205 ∷ 135 ∷ 19 ∷ 38 ∷ []) j) → b ≡ values_stored s rest i (j + 1)
unfolding values_stored
one_value s rest a b i j h ea eb =
    let n : suc j ≡ j + 1 = omega arith in
    let y : at (1 ∷ 2 ∷ 4 ∷ 8 ∷ 16 ∷ 32 ∷ 64 ∷ 128 ∷ 29 ∷ 58 ∷ 116 ∷ 232 ∷ 205 ∷ 135 ∷ 19 ∷ 38 ∷ []) j ≡ power 8 285 j =
    eqb-true _ _ (every_at 16 (λ j. eqb (at (1 ∷ 2 ∷ 4 ∷ 8 ∷ 16 ∷ 32 ∷ 64 ∷ 128 ∷ 29 ∷ 58 ∷ 116 ∷ 232 ∷ 205 ∷ 135 ∷ 19 ∷ 38 ∷ []) j) (power 8 285 j)) sixteen_powers j h) in
    eb ∙ ap₂ (λ (a : List ℕ) (y : ℕ). value_stored a rest i j y) ea y ∙ ap (values_stored s rest i) n

pub no_values : (s rest : List ℕ) (i : ℕ) → s ≡ values_stored s rest i 0
unfolding values_stored
no_values s rest i = refl

-- ---- all values

module _ (s rest : List ℕ) (i : ℕ) (long : length s ≡ 272) where
  values_length : (n : ℕ) → length (values_stored s rest i n) ≡ 272
  unfolding values_stored value_stored
  values_length zero = long
  values_length (suc n) = over_length (values_stored s rest i n) (16 * n) 16 _ ∙ values_length n

  values_behind : (n m : ℕ) → 16 * n ≤ m → at (values_stored s rest i n) m ≡ at s m
  unfolding values_stored value_stored
  values_behind zero m h = refl
  values_behind (suc n) m h = over_behind (values_stored s rest i n) (16 * n) 16 _ m (omega arith) ∙ values_behind n m (omega arith)

  values_at : (n j k : ℕ) → n ≤ 16 → j < n → k < 16 → at (values_stored s rest i n) (16 * j + k) ≡ xor (times_c (at s (16 * j + k)) (power 8 285 j)) (at rest (16 * i + k))
  unfolding values_stored value_stored
  values_at zero j k hn hj hk = absurd (not-suc-le-zero hj)
  values_at (suc n) j k hn hj hk = go (λ l. values_at n j k (omega arith) l hk) (dec_lt j n)
    where
      go : (j < n → at (values_stored s rest i n) (16 * j + k) ≡ xor (times_c (at s (16 * j + k)) (power 8 285 j)) (at rest (16 * i + k))) → Dec (j < n) →
          at (value_stored (values_stored s rest i n) rest i n (power 8 285 n)) (16 * j + k) ≡ xor (times_c (at s (16 * j + k)) (power 8 285 j)) (at rest (16 * i + k))
      go before (yes l) = over_front (values_stored s rest i n) (16 * n) 16 _ (16 * j + k) (omega arith) ∙ before l
      go before (no l) =
          let e : j ≡ n = omega arith in
          rw e
          (over_in (values_stored s rest i n) (16 * n) 16 _ k hk (omega (arith, values_length n))
          ∙ ap (λ (x : ℕ). xor (times_c x (power 8 285 n)) (at rest (16 * i + k))) (values_behind n (16 * n + k) (omega arith)))

-- ---- the loop over the columns

zeros_at : (s : List ℕ) → s ≡ tabulate 272 (λ i. 0) → (m : ℕ) → m < 272 → at s m ≡ 0
zeros_at s e m h = ap (λ (s : List ℕ). at s m) e ∙ tabulate_at 272 (λ i. 0) m 0 h

pub syndromes_start : (rest s : List ℕ) → s ≡ tabulate 272 (λ i. 0) → SyndromesTo rest 0 s
unfolding horner
syndromes_start rest s e = record { made = λ j k hj hk. zeros_at s e (16 * j + k) (omega arith) }

one_more : (j : ℕ) (b : ℕ → ℕ) (i : ℕ) → xor (times_c (horner (by j) b i) (power 8 285 j)) (b i) ≡ horner (by j) b (i + 1)
unfolding horner
one_more j b i = let n : suc i ≡ i + 1 = omega arith in ap (horner (by j) b) n

pub syndromes_next : (rest s o : List ℕ) (i : ℕ) → SyndromesTo rest i s → length s ≡ 272 → o ≡ values_stored s rest i 16 → SyndromesTo rest (i + 1) o
syndromes_next rest s o i S long e = record { made = made' }
  where
    made' : (j k : ℕ) → j < 16 → k < 16 → at o (16 * j + k) ≡ horner (λ v. times_c v (power 8 285 j)) (λ t. at rest (16 * t + k)) (i + 1)
    made' j k hj hk =
        ap (λ (o : List ℕ). at o (16 * j + k)) e ∙ values_at s rest i long 16 j k (le_refl 16) hj hk
        ∙ ap (λ (x : ℕ). xor (times_c x (power 8 285 j)) (at rest (16 * i + k))) (S.made j k hj hk) ∙ one_more j (λ t. at rest (16 * t + k)) i

pub syndromes_end : (rest s : List ℕ) (i : ℕ) → SyndromesTo rest i s → i ≤ 16 → 16 ≤ i → SyndromesTo rest 16 s
syndromes_end rest s i S l h = let e : i ≡ 16 = omega arith in rw e at S

-- columns of zeros: those that agree with zeros, and equal ones
agreed : (a b : List ℕ) (from n : ℕ) → agree a b from n ≡ true → (i : ℕ) → i < n → at a i ≡ at b (from + i)
unfolding agree
agreed a b from n h i l = eqb-true (at a i) (at b (from + i)) (every_at n (λ i. eqb (at a i) (at b (from + i))) h i l)

pub agreeing_none : (rest s : List ℕ) (b : Bool) → s ≡ tabulate 272 (λ i. 0) → b ≡ agree rest s 0 272 → b ≡ true → SyndromesTo rest 16 s
agreeing_none rest s b e test z =
    record { made = λ j k hj hk. zeros_at s e (16 * j + k) (omega arith) ∙ sym (none j (λ t. at rest (16 * t + k)) 16 (λ t h. zero' (16 * t + k) (omega arith))) }
  where
    zero' : (m : ℕ) → m < 272 → at rest m ≡ 0
    zero' m h = agreed rest s 0 272 (sym test ∙ z) m h ∙ zeros_at s e (0 + m) (omega arith)

pub syndromes_none : (rest s : List ℕ) → s ≡ tabulate 272 (λ i. 0) → rest ≡ s → SyndromesTo rest 16 s
syndromes_none rest s e same =
    record { made = λ j k hj hk. zeros_at s e (16 * j + k) (omega arith) ∙ sym (none j (λ t. at rest (16 * t + k)) 16 (λ t h. ap (λ (l : List ℕ). at l (16 * t + k)) same ∙ zeros_at s e (16 * t + k) (omega arith))) }

-- ---- what they are

pub lane_syndromes : (rest s : List ℕ) (k : ℕ) → k < 16 → all_below 256 (tabulate 16 (λ i. at rest (16 * i + k))) ≡ true → SyndromesTo rest 16 s →
    lane_of s k ≡ root_values powers_c exponents_c (lane_of rest k)
unfolding lane_of root_values
lane_syndromes rest s k hk bytes S = tabulate_same 16 _ _ (λ j l. S.made j k l hk ∙ sym (value j))
  where
    word : List ℕ
    word = tabulate 16 (λ i. at rest (16 * i + k))

    value : (j : ℕ) → root_value powers_c exponents_c word j ≡ horner (by j) (λ t. at rest (16 * t + k)) 16
    value j =
        root_is 8 285 field_c word bytes j ∙ value_by word j ∙ ap (horner (by j) (at word)) (tabulate_length {A = ℕ} 16 (λ i. at rest (16 * i + k)))
        ∙ horner_same (by j) (at word) (λ t. at rest (16 * t + k)) 16 (λ i l. tabulate_at 16 (λ i. at rest (16 * i + k)) i 0 l)
