-- Document 03's outer code agrees with ours: its code words, its generator and its parity symbols. Assumes nothing.
use mathlib.Core.Path.{◌≡◌, refl, sym, ap, ap₂, ◌∙◌}
use mathlib.Core.Bool.{Bool, true, false, ◌&&◌, and_comm}
use mathlib.Core.List.{List, [], ◌∷◌}
use Prim.Native.Nat.{ℕ, zero, suc, ◌≤◌, ◌<◌}
use native.Mathlib.Nat.{zero-add}
use native.Mathlib.Omega.{arith}
use lib.Dec.{eqb, lit<, lit≤}
use lib.ListN.{length, drop, replicate, length-drop}
use Rattle.fields.specs.Elements as E
use Rattle.fields.specs.Lists.{tabulate}
use Rattle.fields.specs.Places.{at, every, all_below, value}
use Rattle.fields.proofs.Instances.{field_a}
use Rattle.fields.proofs.Places.Tests.{below_at}
use Rattle.words.specs.ReedSolomon.{value_at_root, is_code_word, generator_of, divided, parity_of}
use Rattle.words.specs.ReedSolomon as Code
use Rattle.words.specs.OuterCode.{power_a, outer_value, outer_parity}
use Rattle.words.specs.OuterCode as Outer
use Rattle.words.proofs.Codes.TableValues.{divided_lt}
use Rattle.words.proofs.Codes.Division.{divided_length}
use Rattle.words.proofs.Codes.OuterWords.{generator_lt}
use Rattle.document03.proofs.Fields.{xor, times_a, pow_a, times_a_agrees, pow_a_agrees}
use Rattle.document03.proofs.Words.WordsAgree.{all_below_lem, runs, sum_agrees, value_agrees, dropped_at, register_is}
use Rattle.document03.proofs.Words.Statements.{scaled_a, with_root, generator_from, generator, shifted_in, register_from, outer_checks, value_at, roots_from, all_symbols, is_outer}

pub symbols_agree : (w : List ℕ) → all_symbols w ≡ all_below 1024 w
symbols_agree = all_below_lem 1024 all_symbols refl (λ s ss. refl)

-- code words
roots_agree : (w : List ℕ) → ((i : ℕ) → at w i < 1024) → (n : ℕ) → n ≤ 1023 → roots_from n w ≡ every n (λ j. eqb (outer_value w j) 0)
unfolding every value_at_root
roots_agree w h zero l = refl
roots_agree w h (suc n) l =
    ap₂ (λ (v : ℕ) (t : Bool). eqb v 0 && t)
    (value_agrees 10 1033 field_a (lit< tt) times_a times_a_agrees (pow_a n) (value_at (pow_a n)) (λ v. refl) (λ v s ss. refl) w h
    ∙ ap (λ (x : ℕ). value 10 1033 x (at w) (length w)) (pow_a_agrees n l ∙ ap power_a (sym (zero-add n))))
    (roots_agree w h n (omega arith))
    ∙ and_comm (eqb (outer_value w n) 0) (every n (λ j. eqb (outer_value w j) 0))

and_same : (a b c : Bool) → (a ≡ true → b ≡ c) → (a && b) ≡ (a && c)
and_same true b c h = h refl
and_same false b c h = refl

pub outer_agrees : (w : List ℕ) → is_outer w ≡ Outer.is_outer w
unfolding is_code_word
outer_agrees w =
    ap (λ (t : Bool). t && roots_from 16 w) (symbols_agree w)
    ∙ and_same (all_below 1024 w) _ _ (λ t. roots_agree w (below_at 1024 w (lit< tt) t) 16 (lit≤ tt))

-- the generator: computed with its roots in a list, since to look each of them up in the table of powers takes too long
roots_of : List ℕ → List ℕ → List ℕ
roots_of [] cs = cs
roots_of (r ∷ rs) cs = roots_of rs (with_root r cs)

root_powers : ℕ → List ℕ
root_powers zero = []
root_powers (suc i) = power_a i ∷ root_powers i

generator_from_lem : (n : ℕ) (cs : List ℕ) → n ≤ 1023 → generator_from n cs ≡ roots_of (root_powers n) cs
unfolding roots_of root_powers
generator_from_lem zero cs h = refl
generator_from_lem (suc n) cs h = generator_from_lem n (with_root (pow_a n) cs) (omega arith) ∙ ap (λ (r : ℕ). roots_of (root_powers n) (with_root r cs)) (pow_a_agrees n h)

generator_computed : roots_of (root_powers 16) (1 ∷ []) ≡ Outer.generator
unfolding roots_of root_powers E.power E.doubled E.xor E.scale E.times E.times_from tabulate generator_of Code.with_root
generator_computed = refl

generator_agrees : generator ≡ Outer.generator
generator_agrees = generator_from_lem 16 (1 ∷ []) (lit≤ tt) ∙ generator_computed

generator_length : length Outer.generator ≡ 17
unfolding generator_of Code.with_root tabulate
generator_length = refl

-- the register
scaled_at : (x : ℕ) (cs : List ℕ) (i : ℕ) → at (scaled_a x cs) i ≡ times_a x (at cs i)
scaled_at x [] i = refl
scaled_at x (c ∷ cs) zero = refl
scaled_at x (c ∷ cs) (suc i) = scaled_at x cs i

scaled_length : (x : ℕ) (cs : List ℕ) → length (scaled_a x cs) ≡ length cs
scaled_length x [] = refl
scaled_length x (c ∷ cs) = ap suc (scaled_length x cs)

module _ (g : List ℕ) (long : length g ≡ 17) where
  shifted_agrees : (reg : List ℕ) (s : ℕ) → length reg ≡ 16 → ((i : ℕ) → at reg i < 1024) → s < 1024 → shifted_in g reg s ≡ Code.shifted_in E.times_a 16 (at g) reg s
  unfolding Code.shifted_in
  shifted_agrees reg s hr h hs =
      let f = xor (at reg 0) s in
      let e : f ≡ E.xor (at reg 0) s = sum_agrees 10 (lit< tt) (at reg 0) s (h 0) hs in
      let lt : E.xor (at reg 0) s < 1024 = field_a.sum_lt (at reg 0) s (h 0) hs in
      register_is 15 _ reg (scaled_a f (drop 1 g)) hr (scaled_length f (drop 1 g) ∙ length-drop 1 g ∙ omega arith)
      (λ i l. ap (xor (at reg (suc i))) (scaled_at f (drop 1 g) i ∙ ap₂ times_a e (dropped_at g i) ∙ times_a_agrees _ _ lt)
      ∙ sum_agrees 10 (lit< tt) _ _ (h (suc i)) (field_a.times_lt _ _ lt))

  module _ (g-lt : (i : ℕ) → at g i < 1024) (w : List ℕ) (w-lt : (i : ℕ) → at w i < 1024) where
    register_agrees : register_from g (replicate 16 0) w ≡ divided E.times_a 16 (at g) (at w) (length w)
    unfolding divided tabulate
    register_agrees =
        let register = divided E.times_a 16 (at g) (at w) in
        runs (shifted_in g) (register_from g) (λ r. refl) (λ r s ss. refl) register w
        (λ i l. shifted_agrees (register i) (at w i) (divided_length E.times_a 16 (at g) (at w) i) (divided_lt 10 1033 field_a 16 (at g) (at w) g-lt w-lt i) (w-lt i))

pub parity_agrees : (d : List ℕ) → all_below 1024 d ≡ true → outer_checks d ≡ outer_parity d
unfolding parity_of
parity_agrees d h =
    ap (λ (g : List ℕ). register_from g (replicate 16 0) d) generator_agrees ∙ register_agrees Outer.generator generator_length generator_lt d (below_at 1024 d (lit< tt) h)
