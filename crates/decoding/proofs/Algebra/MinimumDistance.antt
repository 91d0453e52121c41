-- The minimum distance of the codes over a binary field: degree, first root, number of roots and length are parameters. Assumes nothing.
use mathlib.Core.Path.{◌≡◌, refl, sym, ◌∙◌}
use mathlib.Core.List.{List}
use Prim.Native.Nat.{ℕ, ◌+◌, ◌-◌, ◌^◌, ◌≤◌, ◌<◌}
use native.Mathlib.Omega.{arith}
use borrow.Author.Tests.{eq-eqb, ne_eqb}
use lib.ListN.{length}
use lib.Seq.{ext_get_or}
use Rattle.fields.specs.Elements.{xor, power}
use Rattle.fields.specs.Field.{Field}
use Rattle.fields.specs.Places.{at, value, sum_to, differs, apart}
use Rattle.fields.proofs.Places.Counting.{apart_sum}
use Rattle.decoding.proofs.Algebra.Field.{upto, eq_of_add}
use Rattle.decoding.proofs.Algebra.Support.{support, support_count}
use Rattle.decoding.proofs.Algebra.Elements.{is_zero, ops, laws, power_next, powers_distinct}
use Rattle.decoding.proofs.Algebra.Values.{value_abstract}
use Rattle.decoding.proofs.Algebra.Distance.{distance}

module _ (m p : ℕ) (F : Field m p) where
  -- the distance is the size of the sum's support
  distance_support : (b c : ℕ → ℕ) (n : ℕ) → length (support (ops m p) is_zero (λ i. xor (b i) (c i)) (upto n)) ≡ sum_to n (λ i. differs (b i) (c i))
  unfolding differs
  distance_support b c n =
      support_count (ops m p) is_zero (λ i. xor (b i) (c i)) (λ i. differs (b i) (c i)) (λ i z. rw (eq-eqb (b i) (c i) (eq_of_add (ops m p) (laws m p F) z)))
      (λ i z. rw (ne_eqb (b i) (c i) (λ e. z (rw e (F.sum_self (c i)))))) n

  -- words of n elements with the same values at a^s .. a^(s+k-1) that differ in at most k places are equal
  pub far : (s k n : ℕ) → n ≤ 2 ^ m - 1 → (b c : ℕ → ℕ) → ((i : ℕ) → b i < 2 ^ m) → ((i : ℕ) → c i < 2 ^ m) →
      ((j : ℕ) → j < k → value m p (power m p (s + j)) b n ≡ value m p (power m p (s + j)) c n) → sum_to n (λ i. differs (b i) (c i)) ≤ k →
      (i : ℕ) → i < n → b i ≡ c i
  unfolding power
  far s k n small b c hb hc agree few =
      distance (ops m p) (laws m p F) is_zero (power m p 1) (power m p) refl (power_next m p F) (λ i e. omega (arith, F.power_pos i)) n
      (λ i j h l. powers_distinct m p F i j h (omega arith)) s k b c hb hc
      (λ j h. sym (value_abstract m p F _ (F.power_lt (s + j)) b hb n) ∙ agree j h ∙ value_abstract m p F _ (F.power_lt (s + j)) c hc n)
      (rw (distance_support b c n) few)

  pub far_lists : (s k : ℕ) (c d : List ℕ) → length c ≡ length d → length c ≤ 2 ^ m - 1 → ((i : ℕ) → at c i < 2 ^ m) → ((i : ℕ) → at d i < 2 ^ m) →
      ((j : ℕ) → j < k → value m p (power m p (s + j)) (at c) (length c) ≡ value m p (power m p (s + j)) (at d) (length d)) → apart c d ≤ k → c ≡ d
  far_lists s k c d same small hc hd agree few =
      ext_get_or 0 c d same (far s k (length c) small (at c) (at d) hc hd (λ j h. rw (← same) at (agree j h)) (rw (apart_sum c d) at few))
