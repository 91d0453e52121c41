-- Division six symbols at a step: the table is stored, symbols are joined, and the register moves on. Assumes nothing.
use mathlib.Core.Path.{◌≡◌, refl, sym, ap, ap₂, ◌∙◌}
use mathlib.Core.Bool.{true}
use mathlib.Core.List.{List, [], ◌∷◌}
use Prim.Native.Nat.{ℕ, zero, suc, ◌+◌, ◌-◌, ◌*◌, ◌/◌, ◌%◌, ◌^◌, ◌≤◌, ◌<◌}
use native.Mathlib.Decide.{ℕ_discrete, dec_lt}
use native.Mathlib.Nat.{add-zero, mod-eq_of_lt, mod-lt, not-suc-le-zero, zero-add}
use native.Mathlib.Numerals.{add-one}
use native.Mathlib.Omega.{arith}
use borrow.Author.Tests.{eq-eqb, eqb-true}
use lib.Bits as Bits
use lib.Dec.{eqb, lit<}
use lib.ListN.{length, get_or, set, take, length-set}
use lib.Pow.{pow-add, pow_mono}
use lib.Seq.{get_or-set_same, get_or-set_other}
use Rattle.fields.specs.Elements.{xor, times_a, powers_a, exponents_a}
use Rattle.fields.specs.Places.{at, all_below, horner}
use Rattle.fields.proofs.Lists.{tabulate_at, tabulate_is, tabulate_length}
use Rattle.fields.proofs.Xor.{xor_lt, xor_comm, xor_shifted, additive_zero}
use Rattle.fields.proofs.Places.Tests.{tests_agree, below_at}
use Rattle.fields.proofs.Places.Filling.{Filled, filled_next, filled_end}
use Rattle.decoding.specs.Steps.ByTables.{root_values}
use Rattle.words.specs.ReedSolomon.{parity_of, divided}
use Rattle.words.specs.OuterCode.{is_outer, generator, outer_parity}
use Rattle.words.specs.Steps.Division.{outer_remainder}
use Rattle.words.specs.Steps.SixSymbols.{joined, joined_from, symbol_of, six, Packs, packed_number, unpacked, six_parity, parity_entry, digit_parities, unit_parities, Stored}
use Rattle.words.proofs.Codes.OuterWords.{outer_length, outer_below, remainder_cell, remainder_length, remainder_below, zero_code, code_zero, remainder_roots}
use Rattle.words.proofs.Codes.Packing.{shift_sum, parity_sum_lem, joined_same, joined_lt, parity_joined, high_lt, packs_more, entry_is, six_digit, six_sum, unpacked_is, cells_zero, numbers_zero, joined_last}
use Rattle.words.proofs.Steps.Loops.{divided_up_to}

module _ (w : List ℕ) (i : ℕ) where
  pub joined_none : 0 ≡ joined_from w i 0
  unfolding joined_from joined horner
  joined_none = refl

  module _ (small : all_below 1024 w ≡ true) where
    symbol_lt : (k : ℕ) → at w (i + k) < 1024
    symbol_lt k = below_at 1024 w (lit< tt) small (i + k)

    pub joined_small : (x j n : ℕ) → x ≡ joined_from w i j → j ≤ n → n ≤ 6 → x < 2 ^ 60
    unfolding joined_from
    joined_small x j n e l h =
        let le : 2 ^ (10 * j) ≤ 2 ^ 60 = pow_mono {i = 10 * j} {j = 60} (omega arith) in
        omega (arith, joined_lt (λ k. at w (i + k)) symbol_lt j)

    pub joined_next : (x j n s y : ℕ) → x ≡ joined_from w i j → j < n → n ≤ 6 → s ≡ get_or w (i + j) 0 → y ≡ xor (x * 2 ^ 10 % 2 ^ 64) s →
        y ≡ joined_from w i (j + 1)
    unfolding joined_from joined horner
    joined_next x j n s y so_far l h es e =
        let le : 2 ^ (10 * j) ≤ 2 ^ 50 = pow_mono {i = 10 * j} {j = 50} (omega arith) in
        let fits : x * 2 ^ 10 % 2 ^ 64 ≡ x * 2 ^ 10 = mod-eq_of_lt (omega (arith, joined_lt (λ k. at w (i + k)) symbol_lt j)) in
        e ∙ ap₂ xor (fits ∙ ap (λ (z : ℕ). z * 1024) so_far) es ∙ sym (ap (joined (λ k. at w (i + k))) (add-one j))

  pub joined_end : (x j n : ℕ) → x ≡ joined_from w i j → j ≤ n → n ≤ j → x ≡ joined_from w i n
  joined_end x j n so_far lo hi = let e : j ≡ n = omega arith in rw e at so_far

pub digit_masked : (x : ℕ) → Bits.bit_and x 63 ≡ x % 64
digit_masked x = Bits.and_mask x 6

pub sum_six : (h x f : ℕ) → f ≡ xor h x → h < 2 ^ 60 → x < 2 ^ 60 → f < 2 ^ 60
sum_six h x f e hh hx = rw e (xor_lt 60 h x hh hx)

pub parities_long : (t : List ℕ) → t ≡ digit_parities → length t ≡ 1920
unfolding digit_parities
parities_long t e = rw e (tabulate_length 1920 parity_entry)

pub digit_inside : (x d v : ℕ) → d < 10 → v ≡ x / 2 ^ (6 * d) % 64 → 64 * d + v < 640
digit_inside x d v h e =
    let small : x / 2 ^ (6 * d) % 64 < 64 = mod-lt (x / 2 ^ (6 * d)) (lit< tt) in
    omega arith

-- the parity of the first digits
module _ (x h m l : ℕ) where
  pub parity_none : h ≡ 0 → m ≡ 0 → l ≡ 0 → Packs h m l (six_parity (x % 2 ^ (6 * 0)))
  parity_none eh em el =
      let none : x % 2 ^ (6 * 0) ≡ 0 = omega arith in
      let z : (k : ℕ) → six (six_parity (x % 2 ^ (6 * 0))) k ≡ 0 = λ k. rw none (additive_zero (λ y. six (six_parity y) k) (parity_sum_lem k)) in
      record { high_six = eh ∙ sym (z 0); middle_six = em ∙ sym (z 6); low_six = el ∙ sym (z 12) }

  module _ (d : ℕ) (so_far : Packs h m l (six_parity (x % 2 ^ (6 * d)))) where
    pub parity_next : (table : List ℕ) (v a b c : ℕ) → table ≡ digit_parities → d < 10 → v ≡ x / 2 ^ (6 * d) % 64 →
        a ≡ xor h (get_or table (64 * d + v) 0) → b ≡ xor m (get_or table (64 * d + v + 640) 0) → c ≡ xor l (get_or table (64 * d + v + 1280) 0) →
        Packs a b c (six_parity (x % 2 ^ (6 * (d + 1))))
    parity_next table v a b c et hd ev ea eb ec =
        let n = 64 * d + v in
        let n0 : 640 * 0 + n ≡ n = omega arith in
        let n1 : 640 * 1 + n ≡ n + 640 = omega arith in
        let n2 : 640 * 2 + n ≡ n + 1280 = omega arith in
        record {
          high_six = ea ∙ ap₂ xor so_far.high_six (rw (et, n0)) ∙ sym (six_digit x d hd 0 v (lit< tt) ev);
          middle_six = eb ∙ ap₂ xor so_far.middle_six (rw (et, n1)) ∙ sym (six_digit x d hd 1 v (lit< tt) ev);
          low_six = ec ∙ ap₂ xor so_far.low_six (rw (et, n2)) ∙ sym (six_digit x d hd 2 v (lit< tt) ev);
        }

    pub parity_end : d ≤ 10 → 10 ≤ d → x < 2 ^ 60 → Packs h m l (six_parity x)
    parity_end lo hi lt =
        let e : d ≡ 10 = omega arith in
        let whole : x % 2 ^ (6 * d) ≡ x = rw e (mod-eq_of_lt lt) in
        rw whole at so_far

-- entries of a digit: that of no bit, and that of a digit with one more bit above the others
module _ (r : ℕ) where
  abbrev place : ℕ
  place = 6 * (r % 10)

  digit_entry : (v : ℕ) → v < 64 → parity_entry (64 * r + v) ≡ six (six_parity (v * 2 ^ place)) (6 * (r / 10))
  digit_entry v h =
      let e : 640 * (r / 10) + (64 * (r % 10) + v) ≡ 64 * r + v = omega arith in
      rw (← e) (entry_is (r / 10) (r % 10) v (mod-lt r (lit< tt)) h)

  pub entry_none : 0 ≡ parity_entry (64 * r)
  entry_none =
      let z : 64 * r + 0 ≡ 64 * r = omega arith in
      let n : 0 * 2 ^ place ≡ 0 = omega arith in
      sym (rw z at (digit_entry 0 (lit< tt)) ∙ ap (λ (x : ℕ). six (six_parity x) (6 * (r / 10))) n ∙ additive_zero (λ x. six (six_parity x) (6 * (r / 10))) (parity_sum_lem (6 * (r / 10))))

  module _ (b : ℕ) (hb : b < 6) where
    pub bit_few : 2 ^ b ≤ 32
    bit_few = pow_mono {i = b} {j = 5} (omega arith)

    pub bit_width : 1 * 2 ^ b % 2 ^ 64 ≡ 2 ^ b
    bit_width = let e : 1 * 2 ^ b ≡ 2 ^ b = omega arith in rw e (mod-eq_of_lt (omega (arith, bit_few)))

    entry_bit : (v : ℕ) → v < 2 ^ b → parity_entry (64 * r + 2 ^ b + v) ≡ xor (parity_entry (64 * r + v)) (parity_entry (64 * r + 2 ^ b))
    entry_bit v h =
        let k = 6 * (r / 10) in
        let one : 1 * 2 ^ b ≡ 2 ^ b = omega arith in
        let both : 64 * r + 2 ^ b + v ≡ 64 * r + (2 ^ b + v) = omega arith in
        let sum : 2 ^ b + v ≡ xor v (2 ^ b) = sym (xor_comm v (2 ^ b) ∙ rw one at (xor_shifted 1 b v h)) in
        ap parity_entry both ∙ digit_entry (2 ^ b + v) (omega (arith, bit_few)) ∙ ap (λ (x : ℕ). six (six_parity (x * 2 ^ place)) k) sum
        ∙ ap (λ (x : ℕ). six (six_parity x) k) (shift_sum place v (2 ^ b)) ∙ parity_sum_lem k (v * 2 ^ place) (2 ^ b * 2 ^ place)
        ∙ sym (ap₂ xor (digit_entry v (omega (arith, bit_few))) (digit_entry (2 ^ b) (omega (arith, bit_few))))

    module _ (t : List ℕ) where
      pub bit_start : Stored (64 * r + 2 ^ b) t → Stored (64 * r + 1 * 2 ^ b % 2 ^ 64 + 0) t
      bit_start s = let e : 64 * r + 1 * 2 ^ b % 2 ^ 64 + 0 ≡ 64 * r + 2 ^ b = omega (arith, bit_width) in rw e s

      pub bit_end : (n v : ℕ) → n ≡ 2 ^ b → v ≤ n → n ≤ v → Stored (64 * r + n + v) t → Stored (64 * r + 2 ^ (b + 1)) t
      bit_end n v e lo hi s =
          let q : 64 * r + n + v ≡ 64 * r + 2 ^ (b + 1) = rw pow-add (omega arith) in
          rw q at s

pub stored_next : (n : ℕ) (t : List ℕ) → Stored n t → n < 1920 → (u : ℕ) → u ≡ parity_entry n → Stored (n + 1) (set t n u)
stored_next n t so_far l u e = record { long = length-set t n u ∙ so_far.long; entry = λ i b. go i b (ℕ_discrete i n) }
  where
    go : (i : ℕ) → i < n + 1 → Dec (i ≡ n) → get_or (set t n u) i 0 ≡ parity_entry i
    go i b (yes q) = rw q (get_or-set_same t n u 0 (omega (arith, so_far.long)) ∙ e)
    go i b (no q) = get_or-set_other t n i u 0 q ∙ so_far.entry i (omega arith)

pub bit_next : (r b n v unit u : ℕ) (t : List ℕ) → r < 30 → b < 6 → n ≡ 2 ^ b → v < n → unit ≡ parity_entry (64 * r + 2 ^ b) → u ≡ xor (get_or t (64 * r + v) 0) unit →
    Stored (64 * r + n + v) t → Stored (64 * r + n + (v + 1)) (set t (64 * r + n + v) u)
bit_next r b n v unit u t hr hb en l eunit eu s =
    let few = bit_few r b hb in
    let q : 64 * r + n + v + 1 ≡ 64 * r + n + (v + 1) = omega arith in
    let old : get_or t (64 * r + v) 0 ≡ parity_entry (64 * r + v) = s.entry (64 * r + v) (omega arith) in
    let here : 64 * r + 2 ^ b + v ≡ 64 * r + n + v = omega arith in
    let new : u ≡ parity_entry (64 * r + n + v) = eu ∙ ap₂ xor old eunit ∙ sym (entry_bit r b hb v (rw en at l)) ∙ ap parity_entry here in
    rw q at (stored_next (64 * r + n + v) t s (omega arith) u new)

-- a digit, and the table
pub digit_start : (r : ℕ) (t : List ℕ) → r < 30 → Stored (64 * r) t → Stored (64 * r + 2 ^ 0) (set t (64 * r) 0)
digit_start r t h s = stored_next (64 * r) t s (omega arith) 0 (entry_none r)

pub unit_entry : (us : List ℕ) (r b : ℕ) → us ≡ unit_parities → r < 30 → b < 6 → get_or us (6 * r + b) 0 ≡ parity_entry (64 * r + 2 ^ b)
unfolding unit_parities
unit_entry us r b e hr hb =
    let n = 6 * r + b in
    let bit : n % 60 ≡ b + 6 * (r % 10) = omega arith in
    let part : n / 60 ≡ r / 10 = omega arith in
    rw (e, tabulate_at 180 (λ (n : ℕ). six (six_parity (2 ^ (n % 60))) (6 * (n / 60))) n 0 (omega arith), bit, part, pow-add)
    (sym (digit_entry r (2 ^ b) (omega (arith, bit_few r b hb))))

pub unit_within : (us : List ℕ) (r b : ℕ) → us ≡ unit_parities → r < 30 → b < 6 → 6 * r + b < length us
unfolding unit_parities
unit_within us r b e hr hb = rw (e, tabulate_length 180 (λ (n : ℕ). six (six_parity (2 ^ (n % 60))) (6 * (n / 60)))) (omega arith)

pub digit_end : (r b : ℕ) (t : List ℕ) → b ≤ 6 → 6 ≤ b → Stored (64 * r + 2 ^ b) t → Stored (64 * (r + 1)) t
digit_end r b t lo hi s =
    let e : b ≡ 6 = omega arith in
    let q : 64 * r + 2 ^ b ≡ 64 * (r + 1) = rw e (omega arith) in
    rw q at s

pub stored_none : (t : List ℕ) → length t ≡ 1920 → Stored (64 * 0) t
stored_none t e = record { long = e; entry = λ i h. absurd (not-suc-le-zero h) }

pub stored_end : (r : ℕ) (t : List ℕ) → 30 ≤ r → Stored (64 * r) t → t ≡ digit_parities
unfolding digit_parities
stored_end r t h s = tabulate_is 1920 parity_entry t 0 s.long (λ i l. s.entry i (omega arith))

-- six symbols more
module _ (h x f a b c : ℕ) (ef : f ≡ xor h x) (p : Packs a b c (six_parity f)) where
  pub next_high : (m y : ℕ) → y ≡ xor m a → y ≡ xor m (six (six_parity (xor h x)) 0)
  next_high m y e = rw (← ef) (e ∙ ap (xor m) p.high_six)

  pub next_middle : (l y : ℕ) → y ≡ xor l b → y ≡ xor l (six (six_parity (xor h x)) 6)
  next_middle l y e = rw (← ef) (e ∙ ap (xor l) p.middle_six)

  pub next_low : c ≡ six (six_parity (xor h x)) 12
  next_low = rw (← ef) p.low_six

-- the register after the first i symbols
module _ (d : List ℕ) (h m l i : ℕ) where
  pub packs_first : all_below 1024 d ≡ true → (x : ℕ) → x ≡ joined_from d 0 i → i ≡ length d % 6 → Packs h m l (six_parity x) → Packs h m l (divided_up_to d i)
  unfolding divided_up_to joined_from
  packs_first small x ex ei p =
      let same : joined (λ j. at d (0 + j)) i ≡ joined (at d) i = joined_same (λ j. at d (0 + j)) (at d) i (λ j b. ap (at d) (zero-add j)) in
      let e : six_parity x ≡ divided times_a 16 (at generator) (at d) i = ap six_parity (ex ∙ same) ∙ parity_joined (at d) (below_at 1024 d (lit< tt) small) i (omega arith) in
      rw e at p

  module _ (so_far : Packs h m l (divided_up_to d i)) where
    pub register_high : all_below 1024 d ≡ true → h < 2 ^ 60
    unfolding divided_up_to
    register_high small = rw so_far.high_six (high_lt (at d) (below_at 1024 d (lit< tt) small) i)

    pub packs_next : all_below 1024 d ≡ true → (x a b c : ℕ) → x ≡ joined_from d i 6 → a ≡ xor m (six (six_parity (xor h x)) 0) → b ≡ xor l (six (six_parity (xor h x)) 6) →
        c ≡ six (six_parity (xor h x)) 12 → Packs a b c (divided_up_to d (i + 6))
    unfolding divided_up_to joined_from
    packs_next small x a b c ex ea eb ec =
        let p = packs_more (at d) (below_at 1024 d (lit< tt) small) i h m l _ _ _ so_far x ex (record { high_six = refl; middle_six = refl; low_six = refl }) in
        record { high_six = ea ∙ p.high_six; middle_six = eb ∙ p.middle_six; low_six = ec ∙ p.low_six }

    pub packs_end : i ≤ length d → length d ≤ i → Packs h m l (outer_parity d)
    unfolding divided_up_to parity_of
    packs_end lo hi = let e : i ≡ length d = omega arith in rw e at so_far

-- the register after the first n symbols, fewer than six, and k times six more
module _ (d : List ℕ) (h m l n : ℕ) (rest : n ≡ length d % 6) where
  pub packs_start : all_below 1024 d ≡ true → (x : ℕ) → x ≡ joined_from d 0 n → Packs h m l (six_parity x) → Packs h m l (divided_up_to d (n + 6 * 0))
  packs_start small x ex p =
      let e : n ≡ n + 6 * 0 = omega arith in
      rw e at (packs_first d h m l n small x ex rest p)

  module _ (k : ℕ) (so_far : Packs h m l (divided_up_to d (n + 6 * k))) where
    pub packs_step : all_below 1024 d ≡ true → (x a b c : ℕ) → x ≡ joined_from d (n + 6 * k) 6 → a ≡ xor m (six (six_parity (xor h x)) 0) → b ≡ xor l (six (six_parity (xor h x)) 6) →
        c ≡ six (six_parity (xor h x)) 12 → Packs a b c (divided_up_to d (n + 6 * (k + 1)))
    packs_step small x a b c ex ea eb ec =
        let e : n + 6 * k + 6 ≡ n + 6 * (k + 1) = omega arith in
        rw e at (packs_next d h m l (n + 6 * k) so_far small x a b c ex ea eb ec)

    pub packs_all : k ≤ length d / 6 → length d / 6 ≤ k → Packs h m l (outer_parity d)
    packs_all lo hi = packs_end d h m l (n + 6 * k) so_far (omega arith) (omega arith)

-- a symbol of six, and the numbers of a register
pub symbol_masked : (x i : ℕ) → i < 6 → Bits.bit_and (x / 2 ^ (10 * (6 - 1 - i))) 1023 ≡ symbol_of x i
unfolding symbol_of
symbol_masked x i h =
    let e : 10 * (6 - 1 - i) ≡ 10 * (5 - i) = omega arith in
    rw e (Bits.and_mask (x / 2 ^ (10 * (5 - i))) 10)

pub symbol_fits : (x : ℕ) → Bits.bit_and x 1023 < 65536
symbol_fits x = omega (arith, Bits.mask_lt x 10)

number_at : (h m l k : ℕ) → k < 3 → get_or (h ∷ m ∷ l ∷ []) k 0 ≡ packed_number h m l k
unfolding packed_number
number_at h m l zero b = refl
number_at h m l (suc zero) b = refl
number_at h m l (suc (suc zero)) b = refl
number_at h m l (suc (suc (suc k))) b = absurd (omega arith)

-- cell i of a register
unfoldable pub cell_of : ℕ → ℕ → ℕ → ℕ → ℕ
cell_of h m l i = symbol_of (packed_number h m l (i / 6)) (i % 6)

module _ (h m l i : ℕ) (cells : List ℕ) (so_far : Filled 16 (cell_of h m l) i cells) where
  pub cells_next : (v : ℕ) → i < 16 → v ≡ symbol_of (get_or (h ∷ m ∷ l ∷ []) (i / 6) 0) (i % 6) → Filled 16 (cell_of h m l) (i + 1) (set cells i v)
  unfolding cell_of
  cells_next v b ev = filled_next so_far b (rw (number_at h m l (i / 6) (omega arith)) at ev)

  pub cells_end : 16 ≤ i → cells ≡ unpacked h m l
  unfolding cell_of unpacked
  cells_end b = filled_end so_far b

pub cells_valued : (es ls cells r : List ℕ) (h m l : ℕ) → cells ≡ unpacked h m l → r ≡ root_values es ls cells → r ≡ root_values es ls (unpacked h m l)
cells_valued es ls cells r h m l e v = v ∙ ap (root_values es ls) e

module _ (d : List ℕ) (small : all_below 1024 d ≡ true) (h m l : ℕ) (p : Packs h m l (outer_parity d)) where
  pub parity_unpacked : (r : List ℕ) → r ≡ unpacked h m l → r ≡ outer_parity d
  parity_unpacked r e = e ∙ unpacked_is h m l (outer_parity d) (outer_length d) (below_at 1024 (outer_parity d) (lit< tt) (outer_below d small)) p

-- the remainder of a word, all but sixteen symbols of which are divided
module _ (w : List ℕ) (least : 16 ≤ length w) (small : all_below 1024 w ≡ true) where
  pub packs_remainder : (h m l a b c : ℕ) → Packs h m l (outer_parity (take (length w - 16 - 0) w)) → (x y z : ℕ) →
      x ≡ joined_from w (length w - 16) 6 → y ≡ joined_from w (length w - 16 + 6) 6 → z ≡ joined_from w (length w - 16 + 12) 4 →
      a ≡ xor h x → b ≡ xor m y → c ≡ xor l (z * 2 ^ 20 % 2 ^ 64) → Packs a b c (outer_remainder w)
  packs_remainder h m l a b c p x y z ex ey ez ea eb ec =
      let n = length w - 16 in
      let all : length w - 16 - 0 ≡ n = omega arith in
      let packs : Packs h m l (outer_parity (take n w)) = rw all at p in
      let last : z * 2 ^ 20 % 2 ^ 64 ≡ joined_from w (n + 12) 6 = ap (λ (v : ℕ). v * 2 ^ 20 % 2 ^ 64) ez ∙ sym (joined_last w (n + 12) small (omega arith)) in
      record {
        high_six = ea ∙ ap₂ xor packs.high_six (ex ∙ ap (λ (i : ℕ). joined_from w i 6) (sym (add-zero n))) ∙ sum 0;
        middle_six = eb ∙ ap₂ xor packs.middle_six ey ∙ sum 6;
        low_six = ec ∙ ap₂ xor packs.low_six last ∙ sum 12;
      }
    where
      sum : (k : ℕ) → xor (six (outer_parity (take (length w - 16) w)) k) (six w (length w - 16 + k)) ≡ six (outer_remainder w) k
      sum k =
          xor_comm _ _
          ∙ sym (six_sum w (outer_parity (take (length w - 16) w)) (outer_remainder w) (length w - 16) k
          (λ i. remainder_cell w (length w - 16) refl least small i (dec_lt i 16) ∙ xor_comm _ _))

  module _ (h m l : ℕ) (p : Packs h m l (outer_remainder w)) where
    remainder_lt : (i : ℕ) → at (outer_remainder w) i < 1024
    remainder_lt = below_at 1024 (outer_remainder w) (lit< tt) (remainder_below w (length w - 16) refl least small)

    long : length (outer_remainder w) ≡ 16
    long = remainder_length w (length w - 16) refl least small

    pub outer_zero : length w ≤ 1023 → eqb (Bits.bit_or (Bits.bit_or h m) l) 0 ≡ is_outer w
    unfolding packed_number
    outer_zero most =
        tests_agree _ _
        (λ t. let z = none (eqb-true (Bits.bit_or (Bits.bit_or h m) l) 0 t) in
        zero_code w (length w - 16) refl least small most (cells_zero h m l (outer_remainder w) long remainder_lt p z.0 z.1 z.2))
        (λ t. let z = numbers_zero h m l (outer_remainder w) long remainder_lt p (code_zero w (length w - 16) refl least small most t) in
        eq-eqb _ 0 (ap₂ (λ (x y : ℕ). Bits.bit_or (Bits.bit_or x y) l) (z 0 (lit< tt)) (z 1 (lit< tt)) ∙ z 2 (lit< tt)))
      where
        none : Bits.bit_or (Bits.bit_or h m) l ≡ 0 → (h ≡ 0) × (m ≡ 0) × (l ≡ 0)
        none e =
            let s = Bits.or_add_and (Bits.bit_or h m) l in
            let t = Bits.or_add_and h m in
            let some : (Bits.bit_or h m ≡ 0) = omega (arith, s, Bits.and_le_l (Bits.bit_or h m) l, Bits.and_le_r (Bits.bit_or h m) l) in
            (omega (arith, t, some, Bits.and_le_l h m, Bits.and_le_r h m), omega (arith, t, some, Bits.and_le_l h m, Bits.and_le_r h m), omega (arith, s, Bits.and_le_l (Bits.bit_or h m) l, Bits.and_le_r (Bits.bit_or h m) l))

    pub root_values_made : (es ls r : List ℕ) → es ≡ powers_a → ls ≡ exponents_a → r ≡ root_values es ls (unpacked h m l) → r ≡ root_values powers_a exponents_a w
    root_values_made es ls r exp log er =
        er ∙ rw (exp, log, unpacked_is h m l (outer_remainder w) long remainder_lt p) (remainder_roots w (length w - 16) refl least small)
