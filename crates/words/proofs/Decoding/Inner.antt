-- Inner words: what the decoder finds is the code word within eight places, and if it does not explain the word there is none. Assumes nothing.
use mathlib.Core.Path.{◌≡◌, refl, sym, ap, ap₂, ◌∙◌}
use mathlib.Core.Bool.{Bool, true, false, ◌&&◌, cond, and-eq-true_iff}
use mathlib.Core.List.{List}
use mathlib.Core.Option.{none, some}
use Prim.Native.Nat.{ℕ, zero, suc, ◌+◌, ◌*◌, ◌^◌, ◌≤◌, ◌<◌}
use native.Mathlib.Decide.{dec_lt, ℕ_discrete}
use native.Mathlib.Nat.{le_refl, not-suc-le-zero}
use native.Mathlib.Omega.{arith}
use borrow.Author.Tests.{eq-eqb, eqb-true, ne_eqb}
use lib.Dec.{eqb, ltb, leb, lit<}
use lib.ListN.{length}
use Rattle.fields.specs.Elements.{xor, powers_b, exponents_b}
use Rattle.fields.specs.Steps.ByTables.{table_product}
use Rattle.fields.specs.Places.{at, all_below, value, sum_to, differs, apart_between, apart}
use Rattle.fields.proofs.Lists.{tabulate_at}
use Rattle.fields.proofs.Xor.{xor_lt, xor_self, xor_zero_l, xor_zero_r}
use Rattle.fields.proofs.Places.Tests.{every_at, every_true, below_at, below_all}
use Rattle.fields.proofs.Places.Counting.{differs_most, sum_same, apart_sum}
use Rattle.decoding.specs.Steps.Decoder.{locator, xor_to, syndrome, error_at, Correctable, Decoded, change_between, weight_between, with_errors}
use Rattle.decoding.proofs.Algebra.Tables.{tables_b}
use Rattle.decoding.proofs.Decoding.Changes.{differs_sum, error_none, error_lt, weight_most, errors_length, errors_at, errors_between, syndrome_same, syndrome_add, none_left, few_leave_none}
use Rattle.words.specs.Bits.{bit_at, bits_of}
use Rattle.words.specs.InnerCode.{power_b, is_inner}
use Rattle.words.specs.Nearest.{nearest}
use Rattle.words.specs.Steps.InnerDecoding.{is_bit, is_binary, flips, InnerErrors, explains}
use Rattle.words.proofs.Bits.Bytes.{bit_at_lt, bits_at, bits_length}
use Rattle.words.proofs.Codes.InnerWords.{inner_is, inner_roots}
use Rattle.words.proofs.Codes.InnerRoots.{inner_code}
use Rattle.words.proofs.Codes.Nearest.{nearest_lost}
use Rattle.words.proofs.Codes.Proved.{codes}
use Rattle.words.proofs.Decoding.InnerSyndromes.{times_none, times_bit, times_differs, bit_times, locator_lt, locator_not, located, located_lt, located_add, located_same, value_located, syndromes_are}

-- there is an error at each place listed, with its value
error_here : (places values : List ℕ) (k l : ℕ) → l < k → ((l m : ℕ) → l < m → m < k → at places l < at places m) → error_at places values k (at places l) ≡ at values l
unfolding error_at xor_to
error_here places values zero l h ascending = absurd (not-suc-le-zero h)
error_here places values (suc k) l h ascending = go (ℕ_discrete l k) (error_here places values k l)
  where
    go : Dec (l ≡ k) → (l < k → ((l m : ℕ) → l < m → m < k → at places l < at places m) → error_at places values k (at places l) ≡ at values l) →
        xor (error_at places values k (at places l)) (cond (eqb (at places k) (at places l)) (at values k) 0) ≡ at values l
    go (yes e) before = rw (e, error_none places values k (at places k) (λ l b. ascending l k b (le_refl (suc k))), eq-eqb (at places k) (at places k) refl) (xor_zero_l _)
    go (no n) before =
        rw (ne_eqb (at places k) (at places l) (λ e. omega (arith, ascending l k (omega arith) (le_refl (suc k)))), xor_zero_r)
        (before (omega arith) (λ l m b c. ascending l m b (omega arith)))

-- the bits of the errors' values
pub flip_at : (values : List ℕ) (l : ℕ) → l < 8 → at (flips values) l ≡ differs (at values l) 0
unfolding flips
flip_at values l h = tabulate_at 8 _ l 0 h

differs_lt : (x : ℕ) → differs x 0 < 2
differs_lt x = omega (arith, differs_most x 0)

differs_twice : (x : ℕ) → differs (differs x 0) 0 ≡ differs x 0
unfolding differs
differs_twice zero = refl
differs_twice (suc x) = rw (ne_eqb (suc x) 0 (λ e. omega arith))

flips_weight : (from to : ℕ) (places values : List ℕ) (k : ℕ) → k ≤ 8 → weight_between from to places (flips values) k ≡ weight_between from to places values k
unfolding weight_between change_between
flips_weight from to places values k h =
    sum_same k _ _ (λ l b. ap (λ (x : ℕ). cond (leb from (at places l) && ltb (at places l) to) x 0)
    (ap (λ (x : ℕ). differs x 0) (flip_at values l (omega arith)) ∙ differs_twice (at values l)))

-- the errors found in a word lent as 255 bytes
module _ (w : List ℕ) (long : length w ≡ 255) (places values : List ℕ) (count : ℕ) (left : List ℕ) (E : InnerErrors w places values count left) where
  abbrev t : List ℕ
  t = E.found.t

  abbrev D : Decoded powers_b exponents_b t 2040 places values count left
  D = E.found.decoded

  t_is : (j : ℕ) → j < 16 → at t j ≡ syndrome powers_b exponents_b 2040 (located (bit_at w)) j
  t_is = syndromes_are (bit_at w) (bit_at_lt w) t E.found.syndromes

  word_long : length (bits_of w) ≡ 2040
  word_long = bits_length w ∙ omega arith

  -- if they explain the word, the word with the wrong places inverted is the code word
  module _ (explained : explains powers_b places values count left ≡ true) where
    parts : (all_below 1 left ≡ true) × (is_binary powers_b places values count ≡ true)
    unfolding explains
    parts = (and-eq-true_iff (all_below 1 left) (is_binary powers_b places values count)).0 explained

    abbrev c : List ℕ
    c = with_errors (bit_at w) places (flips values) count 2040

    value_located_at : (k i : ℕ) → k < count → at places k ≡ i → at values k ≡ table_product powers_b exponents_b (locator powers_b 2040 i) (at (flips values) k)
    unfolding is_binary
    value_located_at k i h e =
        let bit = every_at count (λ l. is_bit (at values l) (locator powers_b 2040 (at places l))) parts.1 k h in
        rw (← e, flip_at values k (omega (arith, D.few))) (bit_times powers_b exponents_b tables_b _ _ (locator_lt (at places k)) bit)

    errors_located : (k i : ℕ) → k ≤ count → error_at places values k i ≡ located (error_at places (flips values) k) i
    unfolding error_at xor_to located
    errors_located zero i h = sym (times_none powers_b exponents_b tables_b (locator powers_b 2040 i))
    errors_located (suc k) i h =
        ap₂ xor (errors_located k i (omega arith)) (go (eqb (at places k) i) refl)
        ∙ sym (located_add (error_at places (flips values) k) (λ i. cond (eqb (at places k) i) (at (flips values) k) 0) i)
      where
        go : (b : Bool) → eqb (at places k) i ≡ b → cond b (at values k) 0 ≡ table_product powers_b exponents_b (locator powers_b 2040 i) (cond b (at (flips values) k) 0)
        go true e = value_located_at k i h (eqb-true (at places k) i e)
        go false e = sym (times_none powers_b exponents_b tables_b (locator powers_b 2040 i))

    c_long : length c ≡ 2040
    c_long = errors_length places (flips values) 2040 count (bit_at w)

    flip_lt : (l : ℕ) → l < count → at (flips values) l < 2 ^ 1
    flip_lt l h = rw (flip_at values l (omega (arith, D.few))) (differs_lt (at values l))

    c_below : all_below 2 c ≡ true
    c_below =
        below_all 2 c (λ i l. rw (errors_at places (flips values) 2040 count (bit_at w) i (rw c_long at l))
        (xor_lt 1 _ _ (bit_at_lt w i) (error_lt places (flips values) 1 count i flip_lt)))

    c_root : (j : ℕ) → j < 16 → value 11 2053 (power_b (suc j)) (at c) 2040 ≡ 0
    c_root j l =
        value_located (at c) (below_at 2 c (lit< tt) c_below) j
        ∙ syndrome_same powers_b exponents_b 2040 (located (at c)) (λ i. xor (located (bit_at w) i) (error_at places values count i)) same j
        ∙ syndrome_add powers_b exponents_b 2040 tables_b (located (bit_at w)) (error_at places values count) j
        ∙ ap₂ xor (sym (t_is j l)) (sym (none_left powers_b exponents_b 2040 t places values count left D parts.0 j l)) ∙ xor_self (at t j)
      where
        same : (i : ℕ) → i < 2040 → located (at c) i ≡ xor (located (bit_at w) i) (error_at places values count i)
        same i h =
            located_same (at c) _ i (errors_at places (flips values) 2040 count (bit_at w) i h)
            ∙ located_add (bit_at w) (error_at places (flips values) count) i ∙ ap (xor (located (bit_at w) i)) (sym (errors_located count i (le_refl count)))

    c_code : is_inner c ≡ true
    c_code = inner_code c c_long c_below (λ j h. let q : 2 * j + 1 ≡ suc (2 * j) = omega arith in rw q (c_root (2 * j) (omega arith)))

    -- the places changed, from one on and before another
    pub inner_changes_lem : (from to : ℕ) → to ≤ 2040 → apart_between from to (bits_of w) c ≡ weight_between from to places values count
    inner_changes_lem from to inside =
        errors_between places (flips values) 2040 count (bit_at w) (bits_of w) (λ i l. bits_at w i) D.ascending from to inside
        ∙ flips_weight from to places values count D.few

    c_near : apart (bits_of w) c ≤ 8
    unfolding apart
    c_near = rw word_long (omega (arith, inner_changes_lem 0 2040 (le_refl 2040), weight_most places values 0 2040 count, D.few))

    pub inner_found : nearest is_inner 2 8 (bits_of w) ≡ some c
    inner_found = codes.inner_nearest.complete (bits_of w) c word_long c_long c_code c_near

  -- a code word within eight places is found: the errors explain the word
  module _ (c : List ℕ) (code : is_inner c ≡ true) (near : apart (bits_of w) c ≤ 8) where
    bits_c : (i : ℕ) → at c i < 2
    bits_c = (inner_is c code).bits

    -- the places where the two differ
    abbrev d : ℕ → ℕ
    d i = xor (bit_at w i) (at c i)

    d_lt : (i : ℕ) → d i < 2
    d_lt i = xor_lt 1 _ _ (bit_at_lt w i) (bits_c i)

    sums : (j : ℕ) → j < 16 → at t j ≡ syndrome powers_b exponents_b 2040 (located d) j
    sums j l =
        t_is j l ∙ sym (xor_zero_r _)
        ∙ ap (xor _) (sym (inner_roots c (inner_is c code) (suc j) (omega arith) (omega arith)) ∙ value_located (at c) bits_c j)
        ∙ sym (syndrome_add powers_b exponents_b 2040 tables_b (located (bit_at w)) (located (at c)) j)
        ∙ syndrome_same powers_b exponents_b 2040 _ (located d) (λ i h. sym (located_add (bit_at w) (at c) i)) j

    few : sum_to 2040 (λ i. differs (located d i) 0) ≤ 8
    unfolding located
    few =
        let e : sum_to 2040 (λ i. differs (located d i) 0) ≡ apart (bits_of w) c = rw (apart_sum, word_long) (sum_same 2040 _ _ (λ i l. same i)) in
        omega arith
      where
        same : (i : ℕ) → differs (located d i) 0 ≡ differs (at (bits_of w) i) (at c i)
        same i =
            times_differs powers_b exponents_b tables_b (locator powers_b 2040 i) (d i) (locator_lt i) (locator_not i) (d_lt i)
            ∙ differs_sum (bit_at w i) (at c i) ∙ ap (λ (x : ℕ). differs x (at c i)) (sym (bits_at w i))

    correctable : Correctable powers_b exponents_b t 2040 (located d)
    correctable = record { elements = located_lt d; syndromes = sums; few = few }

    near_leaves_none : all_below 1 left ≡ true
    near_leaves_none = few_leave_none powers_b exponents_b 2040 t places values count left D E.found.left_long (located d) correctable

    near_binary : is_binary powers_b places values count ≡ true
    unfolding is_binary located
    near_binary =
        every_true count (λ l. is_bit (at values l) (locator powers_b 2040 (at places l)))
        (λ l h. let i = at places l in
        let v : at values l ≡ located d i = sym (error_here places values count l h D.ascending) ∙ D.complete (located d) correctable i (D.below l h) in
        rw v (times_bit powers_b exponents_b tables_b (locator powers_b 2040 i) (d i) (locator_lt i) (d_lt i)))

    near_explained : explains powers_b places values count left ≡ true
    unfolding explains
    near_explained = rw (near_leaves_none, near_binary)

  pub inner_lost : explains powers_b places values count left ≡ false → nearest is_inner 2 8 (bits_of w) ≡ none
  inner_lost fails = nearest_lost is_inner 2 8 (bits_of w) (λ c code same. go c code (dec_lt 8 (apart (bits_of w) c)))
    where
      go : (c : List ℕ) → is_inner c ≡ true → Dec (8 < apart (bits_of w) c) → 8 < apart (bits_of w) c
      go c code (yes l) = l
      go c code (no n) =
          let p = near_explained c code (omega arith) in
          let z : ◌≡◌ {A = ℕ} 0 1 = cc in
          absurd (omega arith)
