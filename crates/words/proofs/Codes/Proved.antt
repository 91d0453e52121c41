-- What is proved of the codes, in one record. Assumes nothing.
use mathlib.Core.Path.{◌≡◌, sym, ◌∙◌}
use mathlib.Core.Bool.{true}
use mathlib.Core.List.{List}
use Prim.Native.Nat.{ℕ, ◌+◌, ◌≤◌, ◌<◌}
use native.Mathlib.Omega.{arith}
use lib.Dec.{lit≤}
use lib.ListN.{length}
use Rattle.fields.specs.Places.{at, apart, value}
use Rattle.fields.proofs.Instances.{field_b}
use Rattle.fields.proofs.Places.Tests.{below_all}
use Rattle.decoding.proofs.Algebra.MinimumDistance.{far_lists}
use Rattle.words.specs.InnerCode.{power_b, is_inner}
use Rattle.words.specs.Nearest.{Decodes}
use Rattle.words.specs.Codes.{Codes}
use Rattle.words.proofs.Codes.ReedSolomon.{reed_solomon}
use Rattle.words.proofs.Codes.OuterWords.{outer_code}
use Rattle.words.proofs.Codes.LeastPolynomials.{factor_vanishes, none_lower}
use Rattle.words.proofs.Codes.InnerWords.{Inner, inner_is, inner_roots}
use Rattle.words.proofs.Codes.InnerParity.{inner_length, inner_made, inner_only}
use Rattle.words.proofs.Codes.Nearest.{decodes}

-- inner code words that differ in at most 16 places are the same: sixteen roots from a^1 on
inner_far : (c d : List ℕ) → is_inner c ≡ true → is_inner d ≡ true → apart c d ≤ 16 → c ≡ d
inner_far c d hc hd =
    let ic = inner_is c hc in
    let jd = inner_is d hd in
    far_lists 11 2053 field_b 1 16 c d (ic.long ∙ sym jd.long) (omega (arith, ic.long)) (λ i. omega (arith, ic.bits i)) (λ i. omega (arith, jd.bits i))
    (λ j l. zero c ic j l ∙ sym (zero d jd j l))
  where
    zero : (w : List ℕ) → Inner w → (j : ℕ) → j < 16 → value 11 2053 (power_b (1 + j)) (at w) (length w) ≡ 0
    zero w i j l = rw i.long (inner_roots w i (1 + j) (omega arith) (omega arith))

inner_nearest : Decodes is_inner 2 8 2040
inner_nearest = decodes is_inner 2 8 2040 (λ c h. below_all 2 c (λ i l. (inner_is c h).bits i)) (λ c d hc hd lc ld. inner_far c d hc hd)

pub codes : Codes
codes =
    record {
      reed_solomon = reed_solomon;
      outer_length = outer_code.parity_length;
      outer_made = outer_code.parity_made;
      outer_only = λ d q short. outer_code.parity_only d q (omega arith);
      outer_distance = outer_code.distance;
      outer_far = λ c d hc hd same short. outer_code.code_far c d hc hd same (omega arith);
      outer_nearest = λ n short. outer_code.code_nearest 8 n (lit≤ tt) (omega arith);
      factor_vanishes = factor_vanishes;
      none_lower = none_lower;
      inner_length = inner_length;
      inner_made = inner_made;
      inner_only = inner_only;
      inner_far = inner_far;
      inner_nearest = inner_nearest;
    }
