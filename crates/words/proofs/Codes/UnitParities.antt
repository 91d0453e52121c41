-- The parities of single bits are right by one test that is computed over the whole table: those of the last symbol by a step from the empty register, and
-- each other one by a step from that of the same bit a symbol later. Assumes nothing.
use mathlib.Core.Path.{◌≡◌, refl, sym, ap, ap₂, ◌∙◌}
use mathlib.Core.Bool.{Bool, true, false, ◌&&◌, and-eq-true_iff}
use mathlib.Core.List.{List, [], ◌∷◌}
use Prim.Native.Nat.{ℕ, zero, suc, ◌+◌, ◌-◌, ◌*◌, ◌/◌, ◌%◌, ◌^◌, ◌<◌}
use native.Mathlib.Omega.{arith}
use borrow.Author.Tests.{eqb-true}
use lib.Dec.{T, eqb, lit<}
use lib.ListN.{length}
use lib.Pow.{pow-add, pow-lt, shr-shr}
use Rattle.fields.specs.Elements.{xor, scale, doubled, times_from, times, power, times_a}
use Rattle.fields.specs.Lists.{tabulate}
use Rattle.fields.specs.Places.{at, every, horner}
use Rattle.fields.proofs.Instances.{field_a}
use Rattle.fields.proofs.Lists.{tabulate_at, tabulate_is, tabulate_same}
use Rattle.fields.proofs.Pieces.{pieces, look, look_is, once, once_is}
use Rattle.fields.proofs.Xor.{xor_zero_l, additive_zero}
use Rattle.fields.proofs.Places.Tests.{every_at}
use Rattle.words.specs.ReedSolomon.{with_root, generator_of, shifted_in, divided}
use Rattle.words.specs.OuterCode.{generator}
use Rattle.words.specs.Steps.SixSymbols.{joined, joined_from, symbol_of, six, six_parity, unit_parities}
use Rattle.words.proofs.Codes.TableValues.{divided_lt}
use Rattle.words.proofs.Codes.Packing.{symbol_at_lem, divided_same, divided_late, parity_joined, no_cells}
use Rattle.words.proofs.Codes.OuterWords.{generator_lt}

-- the coefficients of the generator, written out so that a test computes them once
abbrev coefficients : List ℕ
coefficients = 1 ∷ 568 ∷ 550 ∷ 748 ∷ 724 ∷ 650 ∷ 1005 ∷ 744 ∷ 27 ∷ 204 ∷ 617 ∷ 218 ∷ 595 ∷ 461 ∷ 746 ∷ 960 ∷ 888 ∷ []

coefficients_are : coefficients ≡ generator
unfolding generator_of with_root tabulate xor scale doubled times times_from power
coefficients_are = refl

-- a step of the division
abbrev step_by : List ℕ → List ℕ → ℕ → List ℕ
step_by g = shifted_in times_a 16 (at g)

abbrev step : List ℕ → ℕ → List ℕ
step = step_by generator

step_same : (p q : List ℕ) (s : ℕ) → ((i : ℕ) → i < 17 → at p i ≡ at q i) → step p s ≡ step q s
unfolding shifted_in
step_same p q s h =
    tabulate_same 16 _ _ (λ i l. ap₂ (λ (x y : ℕ). xor x (times_a (xor y s) (at generator (suc i)))) (h (suc i) (omega arith)) (h 0 (lit< tt)))

-- a single symbol
parity_one : (x : ℕ) → x < 1024 → six_parity x ≡ step [] x
unfolding joined horner divided
parity_one x h =
    ap six_parity (sym (xor_zero_l x)) ∙ parity_joined (λ i. x) (λ i. h) 1 (omega arith)
    ∙ step_same (tabulate 16 (λ i. 0)) [] x (λ i l. no_cells 16 i)

-- symbols that stand a symbol further ahead
parity_ahead : (x : ℕ) → x < 2 ^ 50 → six_parity (x * 1024) ≡ step (six_parity x) 0
unfolding six_parity symbol_of divided
parity_ahead x h =
    let last : x * 1024 / 2 ^ (10 * (5 - 5)) % 1024 ≡ 0 = omega arith in
    let none : x / 2 ^ (10 * (5 - 0)) % 1024 ≡ 0 = omega arith in
    ap₂ step
    (divided_same times_a 16 (at generator) (symbol_of (x * 1024)) (λ j. symbol_of x (1 + j)) 5 moved
    ∙ sym (divided_late times_a 16 (at generator) (λ y. additive_zero (λ x. times_a x y) (λ u v. field_a.sum_times u v y)) (symbol_of x) 1 (first none) 5))
    last
  where
    moved : (j : ℕ) → j < 5 → x * 1024 / 2 ^ (10 * (5 - j)) % 1024 ≡ x / 2 ^ (10 * (5 - (1 + j))) % 1024
    moved j l =
        let e : 10 * (5 - j) ≡ 10 + 10 * (5 - (1 + j)) = omega arith in
        let q : x * 1024 / 2 ^ 10 ≡ x = omega arith in
        rw (e, ← shr-shr, q)

    first : x / 2 ^ (10 * (5 - 0)) % 1024 ≡ 0 → (i : ℕ) → i < 1 → x / 2 ^ (10 * (5 - i)) % 1024 ≡ 0
    first none i l = let e : i ≡ 0 = omega arith in rw e none

parity_lt : (x i : ℕ) → at (six_parity x) i < 1024
unfolding six_parity symbol_of
parity_lt x = divided_lt 10 1033 field_a 16 (at generator) (symbol_of x) generator_lt (λ i. omega arith) 6

six_symbol : (x k i : ℕ) → i < 6 → symbol_of (six (six_parity x) k) i ≡ at (six_parity x) (k + i)
unfolding symbol_of joined_from
six_symbol x k i h =
    let e : 10 * (5 - i) ≡ 10 * (6 - suc i) = omega arith in
    rw e (symbol_at_lem (λ j. at (six_parity x) (k + j)) (λ j. parity_lt x (k + j)) 6 i h)

-- a table, as it is read, and the coefficients of a generator
module _ (g : List ℕ) (table : ℕ → ℕ) where
  -- the cells of the parity of bit i, as they stand in the table; and whether its three numbers are those of a register
  abbrev cells_at : ℕ → List ℕ
  cells_at i = tabulate 18 (λ j. symbol_of (table (60 * (j / 6) + i)) (j % 6))

  abbrev holds : ℕ → List ℕ → Bool
  holds i r = every 3 (λ k. eqb (table (60 * k + i)) (six r (6 * k)))

  abbrev begun : Bool
  begun = every 10 (λ i. holds i (step_by g [] (2 ^ i)))

  abbrev continued : Bool
  continued = every 50 (λ i. holds (10 + i) (step_by g (cells_at i) 0))

  -- the whole test
  abbrev tested : Bool
  tested = begun && continued

  module _ (e : g ≡ generator) (b : begun ≡ true) (c : continued ≡ true) where
    abbrev Unit : ℕ → Type 0
    Unit i = (k : ℕ) → k < 3 → table (60 * k + i) ≡ six (six_parity (2 ^ i)) (6 * k)

    unit_first : (i : ℕ) → i < 10 → Unit i
    unit_first i h k l =
        eqb-true _ _ (every_at 3 (λ k. eqb (table (60 * k + i)) (six (step_by g [] (2 ^ i)) (6 * k))) (every_at 10 (λ i. holds i (step_by g [] (2 ^ i))) b i h) k l)
        ∙ ap (λ (r : List ℕ). six r (6 * k)) (rw e (sym (parity_one (2 ^ i) (pow-lt {i = i} {j = 10} h))))

    cell_same : (i : ℕ) → Unit i → (j : ℕ) → j < 17 → at (cells_at i) j ≡ at (six_parity (2 ^ i)) j
    cell_same i u j h =
        let z : 6 * (j / 6) + j % 6 ≡ j = omega arith in
        tabulate_at 18 _ j 0 (omega arith) ∙ ap (λ (x : ℕ). symbol_of x (j % 6)) (u (j / 6) (omega arith))
        ∙ six_symbol (2 ^ i) (6 * (j / 6)) (j % 6) (omega arith) ∙ ap (at (six_parity (2 ^ i))) z

    unit_next : (i : ℕ) → i < 50 → Unit i → Unit (10 + i)
    unit_next i h u k l =
        let r = step_by g (cells_at i) 0 in
        let small : 2 ^ i < 2 ^ 50 = pow-lt {i = i} {j = 50} h in
        let p : 2 ^ (10 + i) ≡ 2 ^ i * 1024 = pow-add 2 10 i ∙ omega arith in
        eqb-true _ _ (every_at 3 (λ k. eqb (table (60 * k + (10 + i))) (six r (6 * k))) (every_at 50 (λ i. holds (10 + i) (step_by g (cells_at i) 0)) c i h) k l)
        ∙ ap (λ (r : List ℕ). six r (6 * k)) (rw e (step_same (cells_at i) (six_parity (2 ^ i)) 0 (cell_same i u)) ∙ sym (ap six_parity p ∙ parity_ahead (2 ^ i) small))

    unit_at : (q i : ℕ) → i < 10 → 10 * q + i < 60 → Unit (10 * q + i)
    unit_at zero i h l = let z : 10 * 0 + i ≡ i = omega arith in rw z (unit_first i h)
    unit_at (suc q) i h l =
        let z : 10 * suc q + i ≡ 10 + (10 * q + i) = omega arith in
        rw z (unit_next (10 * q + i) (omega arith) (unit_at q i h (omega arith)))

    entry_right : (n : ℕ) → n < 180 → table n ≡ six (six_parity (2 ^ (n % 60))) (6 * (n / 60))
    entry_right n h =
        let i = n % 60 in
        let z : 10 * (i / 10) + i % 10 ≡ i = omega arith in
        let whole : 60 * (n / 60) + i ≡ n = omega arith in
        let u : Unit i = rw z at (unit_at (i / 10) (i % 10) (omega arith) (omega arith)) in
        ap table (sym whole) ∙ u (n / 60) (omega arith)

shown : (b : Bool) → T b → b ≡ true
shown true t = refl
shown false t = absurd t

-- the test of a table that is cut into pieces
abbrev test : List (List ℕ) → Bool
test rs = tested coefficients (look rs)

pub units_right : (us : List ℕ) → length us ≡ 180 → T (once test (pieces us)) → us ≡ unit_parities
unfolding unit_parities
units_right us long t =
    let read = look (pieces us) in
    let both = (and-eq-true_iff (begun coefficients read) (continued coefficients read)).0 (shown _ (once_is test (pieces us) t)) in
    tabulate_is 180 _ us 0 long (λ n h. sym (look_is us n (rw long h)) ∙ entry_right coefficients read coefficients_are both.0 both.1 n h)
