-- Symbols packed in numbers: packing respects sums, and a division takes six symbols at a step. Assumes nothing.
use mathlib.Core.Path.{◌≡◌, refl, sym, ap, ap₂, ◌∙◌}
use mathlib.Core.Bool.{true}
use mathlib.Core.List.{List}
use mathlib.Core.Logic.{◌⊎◌, inl, inr}
use Prim.Native.Nat.{ℕ, zero, suc, ◌+◌, ◌-◌, ◌*◌, ◌/◌, ◌%◌, ◌^◌, ◌≤◌, ◌<◌}
use native.Mathlib.Decide.{dec_lt}
use native.Mathlib.Nat.{add-suc, add-zero, div-eq_of_lt, eq-or-lt_of_le, le_of_suc-le-suc, le_refl, mod-lt, not-suc-le-zero, zero-add, add_assoc}
use native.Mathlib.Omega.{arith}
use lib.Bits as Bits
use lib.Dec.{lit<}
use lib.ListN.{length, get_or-eq_default}
use lib.Pow.{pow_pos, pow-add, pow_mono, shr-shr, shl_lt, mod-pow-add}
use Rattle.fields.specs.Elements.{xor, times_a}
use Rattle.fields.specs.Lists.{tabulate}
use Rattle.fields.specs.Places.{at, all_below, horner}
use Rattle.fields.proofs.Instances.{field_a}
use Rattle.fields.proofs.Lists.{tabulate_at, tabulate_is, tabulate_same, tabulate_length}
use Rattle.fields.proofs.Xor.{xor_zero_l, xor_zero_r, xor_self, xor_assoc, xor_comm, xor_four, xor_lt, xor_high, xor_shifted, additive_zero}
use Rattle.fields.proofs.Places.Tests.{below_at}
use Rattle.words.specs.ReedSolomon.{shifted_in, divided}
use Rattle.words.specs.OuterCode.{generator}
use Rattle.words.specs.Steps.SixSymbols.{joined, joined_from, symbol_of, six, Packs, packed_number, unpacked, six_parity, parity_entry, digit_parities}
use Rattle.words.proofs.Codes.Horner.{Additive, horner_same, horner_sum, horner_zero}
use Rattle.words.proofs.Codes.TableValues.{divided_lt}
use Rattle.words.proofs.Codes.Division.{divided_length}
use Rattle.words.proofs.Codes.OuterWords.{generator_lt}

-- a shift respects sums, and so does a part of the bits
pub shift_sum : (k : ℕ) → Additive (λ x. x * 2 ^ k)
unfolding xor
shift_sum k x y =
    let e : (z : ℕ) → z * 2 ^ k + 0 ≡ z * 2 ^ k = λ z. add-zero (z * 2 ^ k) in
    sym (ap₂ Bits.bit_xor (sym (e x)) (sym (e y)) ∙ Bits.xor_block k x y 0 0 (pow_pos k) (pow_pos k) ∙ e _)

pub part_sum : (j k : ℕ) → Additive (λ x. x / 2 ^ j % 2 ^ k)
unfolding xor
part_sum j k x y = ap (λ (z : ℕ). z % 2 ^ k) (xor_high j x y) ∙ Bits.xor_mod (x / 2 ^ j) (y / 2 ^ j) k

-- symbols below 1,024
module _ (b : ℕ → ℕ) (small : (i : ℕ) → b i < 1024) where
  pub joined_lt : (n : ℕ) → joined b n < 2 ^ (10 * n)
  unfolding joined horner
  joined_lt zero = pow_pos 0
  joined_lt (suc n) =
      let e : 10 * n + 10 ≡ 10 * suc n = omega arith in
      let m : 2 ^ 10 ≤ 2 ^ (10 * n + 10) = rw pow-add (omega (arith, pow_pos (10 * n))) in
      rw (← e) (xor_lt (10 * n + 10) _ _ (shl_lt (10 * n) 10 (joined_lt n)) (omega (arith, small n)))

  last_or_before : (n i : ℕ) → (i ≡ n) ⊎ (i < n) → (i < n → joined b n / 2 ^ (10 * (n - suc i)) % 1024 ≡ b i) →
      joined b (suc n) / 2 ^ (10 * (suc n - suc i)) % 1024 ≡ b i
  unfolding joined horner
  last_or_before n i (inl e) before =
      let z : 10 * (suc n - suc i) ≡ 0 = omega arith in
      rw (z, e, xor_shifted (joined b n) 10 (b n) (small n)) (omega (arith, small n))
  last_or_before n i (inr l) before =
      let z : 10 * (suc n - suc i) ≡ 10 + 10 * (n - suc i) = omega arith in
      let q : (joined b n * 2 ^ 10 + b n) / 2 ^ 10 ≡ joined b n = omega (arith, small n) in
      rw (z, xor_shifted (joined b n) 10 (b n) (small n), ← shr-shr, q) (before l)

  pub symbol_at_lem : (n i : ℕ) → i < n → joined b n / 2 ^ (10 * (n - suc i)) % 1024 ≡ b i
  symbol_at_lem zero i h = absurd (not-suc-le-zero h)
  symbol_at_lem (suc n) i h = last_or_before n i (eq-or-lt_of_le (le_of_suc-le-suc h)) (symbol_at_lem n i)

past_end : (n : ℕ) (f : ℕ → ℕ) (i : ℕ) → n ≤ i → at (tabulate n f) i ≡ 0
past_end n f i h = get_or-eq_default (tabulate n f) 0 {n = i} (rw tabulate_length h)

pub no_cells : (n i : ℕ) → at (tabulate n (λ i. 0)) i ≡ 0
unfolding tabulate
no_cells zero i = refl
no_cells (suc n) zero = refl
no_cells (suc n) (suc i) = no_cells n i

-- the register of a division by a polynomial of degree n, after j symbols more and from other data
module _ (mul : ℕ → ℕ → ℕ) (n : ℕ) (g : ℕ → ℕ) where
  pub divided_same : (d e : ℕ → ℕ) (k : ℕ) → ((i : ℕ) → i < k → d i ≡ e i) → divided mul n g d k ≡ divided mul n g e k
  unfolding divided
  divided_same d e zero h = refl
  divided_same d e (suc k) h = ap₂ (shifted_in mul n g) (divided_same d e k (λ i l. h i (omega arith))) (h k (le_refl (suc k)))

  -- one symbol more, where the register `after` has the cells of reg from cell j on and those of rest added
  module _ (reg rest after : List ℕ) (j s : ℕ) (long : length reg ≡ n) (so_far : (i : ℕ) → at after i ≡ xor (at reg (j + i)) (at rest i)) where
    leading : xor (at after 0) s ≡ xor (at rest 0) (xor (at reg j) s)
    leading = rw (so_far 0, add-zero) (ap (λ (x : ℕ). xor x s) (xor_comm _ _) ∙ xor_assoc _ _ _)

    shifted_more : (i : ℕ) → Dec (i < n) → at (shifted_in mul n g after s) i ≡ xor (at reg (suc j + i)) (at (shifted_in mul n g rest (xor (at reg j) s)) i)
    unfolding shifted_in
    shifted_more i (yes l) =
        let e : j + suc i ≡ suc j + i = omega arith in
        tabulate_at n _ i 0 l
        ∙ ap₂ xor (so_far (suc i) ∙ ap (λ (m : ℕ). xor (at reg m) (at rest (suc i))) e) (ap (λ (x : ℕ). mul x (g (suc i))) leading)
        ∙ xor_assoc _ _ _ ∙ ap (xor (at reg (suc j + i))) (sym (tabulate_at n _ i 0 l))
    shifted_more i (no h) =
        let none : at reg (suc j + i) ≡ 0 = get_or-eq_default reg 0 {n = suc j + i} (omega (arith, long)) in
        past_end n _ i (omega arith) ∙ sym (xor_self 0) ∙ ap₂ xor (sym none) (sym (past_end n _ i (omega arith)))

  module _ (d : ℕ → ℕ) (k : ℕ) where
    abbrev before : List ℕ
    before = divided mul n g d k

    -- the symbols with the cells that meet them added
    abbrev met : ℕ → ℕ
    met i = xor (at before i) (d (k + i))

    -- cells move up j places, and what the symbols and the cells that they meet leave is added
    pub divided_more : (j i : ℕ) → at (divided mul n g d (k + j)) i ≡ xor (at before (j + i)) (at (divided mul n g met j) i)
    unfolding divided
    divided_more zero i = rw (add-zero, zero-add, no_cells n i) (sym (xor_zero_r _))
    divided_more (suc j) i =
        rw (add-suc, divided)
        (shifted_more before (divided mul n g met j) (divided mul n g d (k + j)) j (d (k + j)) (divided_length mul n g d k) (divided_more j) i (dec_lt i n))

  -- the registers of two data, added
  module _ (mul-sum : (x y z : ℕ) → mul (xor x y) z ≡ xor (mul x z) (mul y z)) where
    shifted_sum : (p q r : List ℕ) (s t : ℕ) → ((i : ℕ) → at r i ≡ xor (at p i) (at q i)) → (i : ℕ) → Dec (i < n) →
        at (shifted_in mul n g r (xor s t)) i ≡ xor (at (shifted_in mul n g p s) i) (at (shifted_in mul n g q t) i)
    unfolding shifted_in
    shifted_sum p q r s t h i (yes l) =
        let first : xor (at r 0) (xor s t) ≡ xor (xor (at p 0) s) (xor (at q 0) t) = ap (λ (x : ℕ). xor x (xor s t)) (h 0) ∙ xor_four _ _ _ _ in
        tabulate_at n _ i 0 l ∙ ap₂ xor (h (suc i)) (ap (λ (x : ℕ). mul x (g (suc i))) first ∙ mul-sum _ _ _)
        ∙ xor_four _ _ _ _ ∙ ap₂ xor (sym (tabulate_at n _ i 0 l)) (sym (tabulate_at n _ i 0 l))
    shifted_sum p q r s t h i (no b) =
        past_end n _ i (omega arith) ∙ sym (xor_self 0) ∙ ap₂ xor (sym (past_end n _ i (omega arith))) (sym (past_end n _ i (omega arith)))

    pub divided_sum : (d e : ℕ → ℕ) (k i : ℕ) → at (divided mul n g (λ j. xor (d j) (e j)) k) i ≡ xor (at (divided mul n g d k) i) (at (divided mul n g e k) i)
    unfolding divided
    divided_sum d e zero i = rw (no_cells n i) (sym (xor_self 0))
    divided_sum d e (suc k) i =
        shifted_sum (divided mul n g d k) (divided mul n g e k) (divided mul n g (λ j. xor (d j) (e j)) k) (d k) (e k) (divided_sum d e k) i (dec_lt i n)

  -- zeros before the data leave the register empty
  module _ (mul-zero : (z : ℕ) → mul 0 z ≡ 0) (d : ℕ → ℕ) where
    divided_zeros : (z : ℕ) → ((i : ℕ) → i < z → d i ≡ 0) → divided mul n g d z ≡ tabulate n (λ i. 0)
    unfolding divided shifted_in
    divided_zeros zero h = refl
    divided_zeros (suc z) h =
        let empty : List ℕ = tabulate n (λ i. 0) in
        ap₂ (shifted_in mul n g) (divided_zeros z (λ i l. h i (omega arith))) (h z (le_refl (suc z)))
        ∙ tabulate_same n _ (λ i. 0) (λ i l. ap₂ xor (no_cells n (suc i)) (ap (λ (x : ℕ). mul (xor x 0) (g (suc i))) (no_cells n 0) ∙ ap (λ (x : ℕ). mul x (g (suc i))) (xor_self 0) ∙ mul-zero _) ∙ xor_self 0)

    pub divided_late : (z : ℕ) → ((i : ℕ) → i < z → d i ≡ 0) → (k : ℕ) → divided mul n g d (z + k) ≡ divided mul n g (λ i. d (z + i)) k
    unfolding divided
    divided_late z h zero = rw add-zero (divided_zeros z h)
    divided_late z h (suc k) = rw (add-suc, divided) (ap (λ (r : List ℕ). shifted_in mul n g r (d (z + k))) (divided_late z h k))

abbrev register_a : (ℕ → ℕ) → ℕ → List ℕ
register_a = divided times_a 16 (at generator)

pub joined_same : (b c : ℕ → ℕ) (n : ℕ) → ((i : ℕ) → i < n → b i ≡ c i) → joined b n ≡ joined c n
unfolding joined
joined_same b c n h = horner_same (λ v. v * 1024) b c n h

joined_sum : (b c : ℕ → ℕ) (n : ℕ) → joined (λ i. xor (b i) (c i)) n ≡ xor (joined b n) (joined c n)
unfolding joined
joined_sum b c n = horner_sum (λ v. v * 1024) (shift_sum 10) b c n

-- numbers of cells that are added
pub six_sum : (p q r : List ℕ) (j k : ℕ) → ((i : ℕ) → at r i ≡ xor (at p (j + i)) (at q i)) → six r k ≡ xor (six p (j + k)) (six q k)
unfolding joined_from
six_sum p q r j k h =
    joined_same _ (λ i. xor (at p (j + k + i)) (at q (k + i))) 6 (λ i l. h (k + i) ∙ ap (λ (m : ℕ). xor (at p m) (at q (k + i))) (sym (add_assoc j k i)))
    ∙ joined_sum (λ i. at p (j + k + i)) (λ i. at q (k + i)) 6

-- the parity of six symbols respects sums
pub parity_sum_lem : (k : ℕ) → Additive (λ x. six (six_parity x) k)
unfolding six_parity symbol_of
parity_sum_lem k x y =
    let symbols = divided_same times_a 16 (at generator) (symbol_of (xor x y)) (λ i. xor (symbol_of x i) (symbol_of y i)) 6 (λ i l. part_sum (10 * (5 - i)) 10 x y) in
    ap (λ (r : List ℕ). six r k) symbols
    ∙ six_sum (six_parity x) (six_parity y) _ 0 k (λ i. divided_sum times_a 16 (at generator) field_a.sum_times (symbol_of x) (symbol_of y) 6 i ∙ rw zero-add)
    ∙ rw zero-add

module _ (b : ℕ → ℕ) (small : (i : ℕ) → b i < 1024) where
  -- m symbols in a number are six with zeros before them
  before_zero : (m i : ℕ) → i < 6 - m → symbol_of (joined b m) i ≡ 0
  unfolding symbol_of
  before_zero m i h =
      let le : 2 ^ (10 * m) ≤ 2 ^ (10 * (5 - i)) = pow_mono {i = 10 * m} {j = 10 * (5 - i)} (omega arith) in
      ap (λ (z : ℕ). z % 1024) (div-eq_of_lt (omega (arith, joined_lt b small m)))

  then_symbol : (m i : ℕ) → m ≤ 6 → i < m → symbol_of (joined b m) (6 - m + i) ≡ b i
  unfolding symbol_of
  then_symbol m i h l =
      let e : 10 * (5 - (6 - m + i)) ≡ 10 * (m - suc i) = omega arith in
      rw e (symbol_at_lem b small m i l)

  pub parity_joined : (m : ℕ) → m ≤ 6 → six_parity (joined b m) ≡ register_a b m
  unfolding six_parity
  parity_joined m h =
      let x = joined b m in
      let z = 6 - m in
      let e : 6 ≡ z + m = omega arith in
      ap (register_a (symbol_of x)) e ∙ divided_late times_a 16 (at generator) (λ y. additive_zero (λ x. times_a x y) (λ u v. field_a.sum_times u v y)) (symbol_of x) z (before_zero m) m
      ∙ divided_same times_a 16 (at generator) (λ i. symbol_of x (z + i)) b m (λ i l. then_symbol m i h l)

-- past the last cell
six_past : (r : List ℕ) → length r ≡ 16 → six r 18 ≡ 0
unfolding joined_from joined
six_past r long = horner_zero (λ v. v * 1024) (shift_sum 10) (λ i. at r (18 + i)) (λ i. get_or-eq_default r 0 {n = 18 + i} (omega (arith, long))) 6

-- six symbols more
module _ (d : ℕ → ℕ) (small : (i : ℕ) → d i < 1024) (k : ℕ) where
  abbrev reg : List ℕ
  reg = register_a d k

  reg_lt : (i : ℕ) → at reg i < 1024
  reg_lt = divided_lt 10 1033 field_a 16 (at generator) d generator_lt small k

  pub high_lt : six reg 0 < 2 ^ 60
  unfolding joined_from
  high_lt = joined_lt (λ i. at reg (0 + i)) (λ i. reg_lt (0 + i)) 6

  -- the symbols with the cells that meet them added
  abbrev meeting : ℕ → ℕ
  meeting j = xor (at reg j) (d (k + j))

  met_six : xor (six reg 0) (joined (λ j. d (k + j)) 6) ≡ joined meeting 6
  unfolding joined_from
  met_six =
      ap (λ (z : ℕ). xor z (joined (λ j. d (k + j)) 6)) (joined_same (λ j. at reg (0 + j)) (at reg) 6 (λ j l. ap (at reg) (zero-add j)))
      ∙ sym (joined_sum (at reg) (λ j. d (k + j)) 6)

  six_more : (c : ℕ) → six (register_a d (k + 6)) c ≡ xor (six reg (6 + c)) (six (six_parity (xor (six reg 0) (joined (λ j. d (k + j)) 6))) c)
  six_more c =
      let parity : six_parity (joined meeting 6) ≡ register_a meeting 6 = parity_joined meeting (λ j. field_a.sum_lt _ _ (reg_lt j) (small (k + j))) 6 (le_refl 6) in
      rw (met_six, parity) (six_sum reg (register_a meeting 6) (register_a d (k + 6)) 6 c (divided_more times_a 16 (at generator) d k 6))

  pub packs_more : (h m l a b c : ℕ) → Packs h m l reg → (x : ℕ) → x ≡ joined (λ j. d (k + j)) 6 →
      Packs a b c (six_parity (xor h x)) → Packs (xor m a) (xor l b) c (register_a d (k + 6))
  packs_more h m l a b c now x ex p =
      let f = xor (six reg 0) (joined (λ j. d (k + j)) 6) in
      let parity : six_parity (xor h x) ≡ six_parity f = ap₂ (λ (y z : ℕ). six_parity (xor y z)) now.high_six ex in
      let past : six reg 18 ≡ 0 = six_past reg (divided_length times_a 16 (at generator) d k) in
      record {
        high_six = ap₂ xor now.middle_six (p.high_six ∙ ap (λ (r : List ℕ). six r 0) parity) ∙ sym (six_more 0);
        middle_six = ap₂ xor now.low_six (p.middle_six ∙ ap (λ (r : List ℕ). six r 6) parity) ∙ sym (six_more 6);
        low_six = p.low_six ∙ ap (λ (r : List ℕ). six r 12) parity ∙ sym (six_more 12 ∙ ap (λ (z : ℕ). xor z (six (six_parity f) 12)) past ∙ xor_zero_l _);
      }

-- the entry of number k for the digit v at the place of digit d
pub entry_is : (k d v : ℕ) → d < 10 → v < 64 → parity_entry (640 * k + (64 * d + v)) ≡ six (six_parity (v * 2 ^ (6 * d))) (6 * k)
unfolding parity_entry
entry_is k d v hd hv =
    let n = 640 * k + (64 * d + v) in
    let ek : n / 640 ≡ k = omega arith in
    let ed : n / 64 % 10 ≡ d = omega arith in
    let ev : n % 64 ≡ v = omega arith in
    rw (ek, ed, ev)

entry_at : (k d v : ℕ) → k < 3 → d < 10 → v < 64 → at digit_parities (640 * k + (64 * d + v)) ≡ six (six_parity (v * 2 ^ (6 * d))) (6 * k)
unfolding digit_parities
entry_at k d v hk hd hv = tabulate_at 1920 parity_entry (640 * k + (64 * d + v)) 0 (omega arith) ∙ entry_is k d v hd hv

-- one digit more
module _ (x d : ℕ) (few : d < 10) where
  abbrev digit : ℕ
  digit = x / 2 ^ (6 * d) % 64

  digit_more : x % 2 ^ (6 * (d + 1)) ≡ xor (digit * 2 ^ (6 * d)) (x % 2 ^ (6 * d))
  digit_more =
      let e : 6 * (d + 1) ≡ 6 + 6 * d = omega arith in
      rw e (mod-pow-add x 6 (6 * d) ∙ sym (xor_shifted digit (6 * d) (x % 2 ^ (6 * d)) (mod-lt x (pow_pos (6 * d)))))

  pub six_digit : (k v : ℕ) → k < 3 → v ≡ digit → six (six_parity (x % 2 ^ (6 * (d + 1)))) (6 * k) ≡ xor (six (six_parity (x % 2 ^ (6 * d))) (6 * k)) (at digit_parities (640 * k + (64 * d + v)))
  six_digit k v hk ev =
      ap (λ (y : ℕ). six (six_parity y) (6 * k)) digit_more ∙ parity_sum_lem (6 * k) _ _ ∙ xor_comm _ _
      ∙ ap (xor (six (six_parity (x % 2 ^ (6 * d))) (6 * k))) (sym (rw ev (entry_at k d digit hk few (mod-lt (x / 2 ^ (6 * d)) (lit< tt)))))

-- the symbols of numbers are the cells that they pack
module _ (h m l : ℕ) (cells : List ℕ) (long : length cells ≡ 16) (small : (i : ℕ) → at cells i < 1024) (p : Packs h m l cells) where
  number_six : (k : ℕ) → k < 3 → packed_number h m l k ≡ six cells (6 * k)
  unfolding packed_number
  number_six zero b = p.high_six
  number_six (suc zero) b = p.middle_six
  number_six (suc (suc zero)) b = p.low_six
  number_six (suc (suc (suc k))) b = absurd (omega arith)

  cell_at : (i : ℕ) → i < 18 → symbol_of (packed_number h m l (i / 6)) (i % 6) ≡ at cells i
  unfolding symbol_of joined_from
  cell_at i b =
      let k = 6 * (i / 6) in
      let e : 10 * (5 - i % 6) ≡ 10 * (6 - suc (i % 6)) = omega arith in
      let whole : k + i % 6 ≡ i = omega arith in
      ap₂ (λ (x y : ℕ). x / 2 ^ y % 1024) (number_six (i / 6) (omega arith)) e
      ∙ symbol_at_lem (λ j. at cells (k + j)) (λ j. small (k + j)) 6 (i % 6) (omega arith) ∙ ap (at cells) whole

  pub unpacked_is : unpacked h m l ≡ cells
  unfolding unpacked
  unpacked_is = sym (tabulate_is 16 _ cells 0 long (λ i b. sym (cell_at i (omega arith))))

  -- the cells are zeros just where the three numbers are
  pub cells_zero : h ≡ 0 → m ≡ 0 → l ≡ 0 → (i : ℕ) → i < 16 → at cells i ≡ 0
  unfolding symbol_of packed_number
  cells_zero eh em el i b =
      sym (cell_at i (omega arith)) ∙ ap (λ (x : ℕ). x / 2 ^ (10 * (5 - i % 6)) % 1024) (none (i / 6)) ∙ ap (λ (x : ℕ). x % 1024) (div-eq_of_lt (pow_pos (10 * (5 - i % 6))))
    where
      none : (k : ℕ) → packed_number h m l k ≡ 0
      none zero = eh
      none (suc zero) = em
      none (suc (suc k)) = el

  pub numbers_zero : ((i : ℕ) → i < 16 → at cells i ≡ 0) → (k : ℕ) → k < 3 → packed_number h m l k ≡ 0
  unfolding joined_from joined
  numbers_zero z k b = number_six k b ∙ horner_zero (λ v. v * 1024) (shift_sum 10) (λ i. at cells (6 * k + i)) (λ i. everywhere (6 * k + i) (dec_lt (6 * k + i) 16)) 6
    where
      everywhere : (i : ℕ) → Dec (i < 16) → at cells i ≡ 0
      everywhere i (yes c) = z i c
      everywhere i (no c) = get_or-eq_default cells 0 {n = i} (omega arith)

-- the last four symbols of a word, and two zeros after them
pub joined_last : (w : List ℕ) (i : ℕ) → all_below 1024 w ≡ true → length w ≡ i + 4 → joined_from w i 6 ≡ joined_from w i 4 * 2 ^ 20 % 2 ^ 64
unfolding joined_from joined horner
joined_last w i small long =
    let x = joined (λ j. at w (i + j)) 4 in
    let none : (j : ℕ) → 4 ≤ j → at w (i + j) ≡ 0 = λ j h. get_or-eq_default w 0 {n = i + j} (omega arith) in
    let lt : x < 2 ^ 40 = joined_lt (λ j. at w (i + j)) (λ j. below_at 1024 w (lit< tt) small (i + j)) 4 in
    ap₂ (λ (y z : ℕ). xor (xor (x * 1024) y * 1024) z) (none 4 (omega arith)) (none 5 (omega arith)) ∙ xor_zero_r _ ∙ ap (λ (y : ℕ). y * 1024) (xor_zero_r (x * 1024))
    ∙ omega arith
