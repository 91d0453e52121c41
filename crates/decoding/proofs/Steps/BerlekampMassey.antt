-- The shortest recurrence by Berlekamp and Massey, and the test that it annihilates: a law for each way through a function and each step of a loop.
-- Assumes nothing.
use mathlib.Core.Path.{◌≡◌, refl, sym, ap, ap₂, ◌∙◌}
use mathlib.Core.Bool.{Bool, true, false, cond}
use mathlib.Core.List.{List, ◌∷◌}
use Prim.Native.Nat.{ℕ, zero, suc, ◌+◌, ◌-◌, ◌*◌, ◌≤◌, ◌<◌, zero-le}
use native.Mathlib.Decide.{ℕ_discrete, dec_lt}
use native.Mathlib.Nat.{not-suc-le-zero}
use native.Mathlib.Numerals.{add-one}
use native.Mathlib.Omega.{arith}
use borrow.Author.Tests.{eq-eqb, ne_eqb, lt-ltb, le-ltb}
use lib.Dec.{eqb, ltb}
use lib.ListN.{length, get_or, set, replicate, length-set}
use lib.Seq.{get_or-set_same, get_or-set_other}
use Rattle.fields.specs.Elements.{xor}
use Rattle.fields.specs.Lists.{tabulate}
use Rattle.fields.specs.Steps.ByTables.{table_product, table_inverse}
use Rattle.fields.specs.Places.{at}
use Rattle.fields.proofs.Lists.{tabulate_lt}
use Rattle.fields.proofs.Ways.{past}
use Rattle.fields.proofs.Places.Filling.{zeros_at}
use Rattle.decoding.specs.declared.annihilator.Recurrence.{Recurrence}
use Rattle.decoding.specs.Steps.Decoder.{Tables, xor_to}
use Rattle.decoding.specs.Steps.Annihilator.{applied, Annihilates, convolved, plus_shifted, adjusted, berlekamp_massey_step, berlekamp_massey, reversed_at}
use Rattle.decoding.proofs.Algebra.Tables.{table_laws, xor_to_same}

-- ---- sums

module _ (es ls c t : List ℕ) (n : ℕ) where
  pub convolved_none : 0 ≡ convolved es ls c t n 0
  unfolding convolved xor_to
  convolved_none = refl

  module _ (i v : ℕ) (so_far : v ≡ convolved es ls c t n i) where
    pub convolved_next : (x p r : ℕ) → x ≡ at c i → p ≡ table_product es ls x (get_or t (n - i) 0) → r ≡ xor v p → r ≡ convolved es ls c t n (i + 1)
    unfolding convolved xor_to
    convolved_next x p r ex ep er = rw (add-one, ← so_far, ← ex, ← ep) er

    pub convolved_end : (k : ℕ) → i ≤ k → k ≤ i → v ≡ convolved es ls c t n k
    convolved_end k lo hi = let q : i ≡ k = omega arith in rw q at so_far

module _ (es ls c : List ℕ) (f : ℕ) (p : List ℕ) (s : ℕ) where
  pub shifted_none : c ≡ plus_shifted es ls c f p s 0
  unfolding plus_shifted
  shifted_none = refl

  module _ (k : ℕ) (r : List ℕ) (so_far : r ≡ plus_shifted es ls c f p s k) where
    pub shifted_next : (y z : ℕ) → y ≡ table_product es ls f (get_or p k 0) → z ≡ xor (get_or r (s + k) 0) y → set r (s + k) z ≡ plus_shifted es ls c f p s (k + 1)
    unfolding plus_shifted
    shifted_next y z ey ez = rw (add-one, ← so_far, ← ey, ← ez)

    pub shifted_end : k ≤ 9 - s → 9 ≤ s + k → r ≡ plus_shifted es ls c f p s (9 - s)
    shifted_end lo hi = let q : k ≡ 9 - s = omega arith in rw q at so_far

-- ---- a step

module _ (es ls : List ℕ) (n d : ℕ) (s : Recurrence) (i f : ℕ) (c : List ℕ) (ei : i ≡ table_inverse es ls s.discrepancy) (ef : f ≡ table_product es ls d i)
    (ec : c ≡ plus_shifted es ls s.coefficients f s.previous (n + 1 - s.since) (9 - (n + 1 - s.since))) where
  pub adjusted_same : n < 2 * s.order →
      record { coefficients = c; previous = s.previous; order = s.order; since = s.since; discrepancy = s.discrepancy } ≡ adjusted es ls n d s
  unfolding adjusted
  adjusted_same h = rw (lt-ltb n (2 * s.order) h, ← ei, ← ef, ← ec)

  pub adjusted_new : 2 * s.order ≤ n →
      record { coefficients = c; previous = s.coefficients; order = n + 1 - s.order; since = n + 1; discrepancy = d } ≡ adjusted es ls n d s
  unfolding adjusted
  adjusted_new h = rw (le-ltb n (2 * s.order) h, ← ei, ← ef, ← ec)

module _ (es ls t : List ℕ) where
  module _ (n : ℕ) (s : Recurrence) (d : ℕ) (ed : d ≡ convolved es ls s.coefficients t n (s.order + 1)) where
    pub step_same : d ≡ 0 → s ≡ berlekamp_massey_step es ls t n s
    unfolding berlekamp_massey_step
    step_same z = rw (← ed, eq-eqb d 0 z)

    pub step_new : (d ≡ 0 → ⊥) → (r : Recurrence) → r ≡ adjusted es ls n d s → r ≡ berlekamp_massey_step es ls t n s
    unfolding berlekamp_massey_step
    step_new z r e = rw (← ed, ne_eqb d 0 z) e

  pub berlekamp_massey_none : record { coefficients = 1 ∷ replicate 8 0; previous = 1 ∷ replicate 8 0; order = 0; since = 0; discrepancy = 1 } ≡ berlekamp_massey es ls t 0
  unfolding berlekamp_massey
  berlekamp_massey_none = refl

  module _ (n : ℕ) (s : Recurrence) (so_far : s ≡ berlekamp_massey es ls t n) where
    pub berlekamp_massey_next : (r : Recurrence) → r ≡ berlekamp_massey_step es ls t n s → r ≡ berlekamp_massey es ls t (n + 1)
    unfolding berlekamp_massey
    berlekamp_massey_next r e = rw (add-one, ← so_far) e

    pub berlekamp_massey_end : n ≤ 16 → 16 ≤ n → s ≡ berlekamp_massey es ls t 16
    berlekamp_massey_end lo hi = let q : n ≡ 16 = omega arith in rw q at so_far

-- ---- the polynomial

module _ (c : List ℕ) (order k : ℕ) where
  pub reversed_zero : k + order < 8 → 0 ≡ reversed_at c order k
  unfolding reversed_at
  reversed_zero h = rw (lt-ltb (k + order) 8 h)

  pub reversed_other : 8 ≤ k + order → (r : ℕ) → r ≡ at c (k + order - 8) → r ≡ reversed_at c order k
  unfolding reversed_at
  reversed_other h r e = rw (le-ltb (k + order) 8 h) e

-- its coefficients are elements
module _ (es ls t : List ℕ) (T : Tables es ls) where
  abbrev Elements : List ℕ → Type 0
  Elements c = (k : ℕ) → at c k < length ls

  set_elements : (c : List ℕ) (i x : ℕ) → Elements c → x < length ls → Elements (set c i x)
  set_elements c i x hc hx k = go (ℕ_discrete k i) (dec_lt i (length c))
    where
      go : Dec (k ≡ i) → Dec (i < length c) → at (set c i x) k < length ls
      go (yes e) (yes l) = rw (e, get_or-set_same c i x 0 l) hx
      go (yes e) (no l) = rw (sym (past (set c i x) k (rw (length-set c i x) (omega arith)))) (table_laws es ls T).in_zero
      go (no e) _ = rw (get_or-set_other c i k x 0 e) (hc k)

  shifted_elements : (c : List ℕ) (f : ℕ) (p : List ℕ) (s k : ℕ) → Elements c → Elements (plus_shifted es ls c f p s k)
  unfolding plus_shifted
  shifted_elements c f p s zero h = h
  shifted_elements c f p s (suc k) h =
      let before = shifted_elements c f p s k h in
      set_elements (plus_shifted es ls c f p s k) (s + k) _ before ((table_laws es ls T).in_add _ _ (before (s + k)) ((table_laws es ls T).in_mul f (at p k)))

  step_elements : (n : ℕ) (s : Recurrence) → Elements s.coefficients → Elements (berlekamp_massey_step es ls t n s).coefficients
  unfolding berlekamp_massey_step adjusted
  step_elements n s h = go (eqb (convolved es ls s.coefficients t n (s.order + 1)) 0)
    where
      d : ℕ
      d = convolved es ls s.coefficients t n (s.order + 1)

      pick : (b : Bool) (c : List ℕ) → Elements c →
          Elements (cond {A = Recurrence} b (record { coefficients = c; previous = s.previous; order = s.order; since = s.since; discrepancy = s.discrepancy })
          (record { coefficients = c; previous = s.coefficients; order = n + 1 - s.order; since = n + 1; discrepancy = d })).coefficients
      pick true c e = e
      pick false c e = e

      go : (b : Bool) → Elements (cond {A = Recurrence} b s (adjusted es ls n d s)).coefficients
      go true = h
      go false = pick (ltb n (2 * s.order)) _ (shifted_elements s.coefficients _ s.previous _ _ h)

  start_elements : Elements (1 ∷ replicate 8 0)
  start_elements zero = (table_laws es ls T).in_one
  start_elements (suc k) = rw (zeros_at 8 k) (table_laws es ls T).in_zero

  berlekamp_massey_elements : (n : ℕ) → Elements (berlekamp_massey es ls t n).coefficients
  unfolding berlekamp_massey
  berlekamp_massey_elements zero = start_elements
  berlekamp_massey_elements (suc n) = step_elements n (berlekamp_massey es ls t n) (berlekamp_massey_elements n)

  pub reversed_elements : (s : Recurrence) (v : List ℕ) → s ≡ berlekamp_massey es ls t 16 → v ≡ tabulate 9 (reversed_at s.coefficients s.order) → (k : ℕ) → at v k < length ls
  unfolding reversed_at
  reversed_elements s v e ev k = rw ev (tabulate_lt (length ls) 9 _ (table_laws es ls T).in_zero (λ i. go (ltb (i + s.order) 8) (i + s.order - 8)) k)
    where
      go : (b : Bool) (i : ℕ) → cond b 0 (at s.coefficients i) < length ls
      go true i = (table_laws es ls T).in_zero
      go false i = rw e (berlekamp_massey_elements 16 i)

-- ---- the test

module _ (es ls : List ℕ) where
  applied_is : (b s : ℕ → ℕ) (n : ℕ) → applied (table_product es ls) b n s ≡ xor_to n (λ i. table_product es ls (b i) (s (n - suc i)))
  unfolding applied xor_to
  applied_is b s zero = refl
  applied_is b s (suc n) =
      ap₂ xor (applied_is b (λ k. s (suc k)) n ∙ xor_to_same n _ _ (λ i l. let e : suc (n - suc i) ≡ suc n - suc i = omega arith in ap (λ (k : ℕ). table_product es ls (b i) (s k)) e))
      (let e : 0 ≡ suc n - suc n = omega arith in ap (λ (k : ℕ). table_product es ls (b n) (s k)) e)

  applied_convolved : (t v : List ℕ) (j : ℕ) → applied (table_product es ls) (at v) 9 (λ k. at t (j + k)) ≡ convolved es ls v t (j + 8) 9
  unfolding convolved
  applied_convolved t v j =
      applied_is (at v) (λ k. at t (j + k)) 9
      ∙ xor_to_same 9 _ _ (λ i l. let e : j + (9 - suc i) ≡ j + 8 - i = omega arith in ap (λ (k : ℕ). table_product es ls (at v i) (at t k)) e)

-- coefficient `leading` is 1, and the first j equations hold
pub record Tested (es ls t v : List ℕ) (j : ℕ) : Type 0 where
  pub within : j ≤ 8
  pub leading : ℕ
  pub leading_lt : leading < 9
  pub leading_one : at v leading ≡ 1
  pub equations : (i : ℕ) → i < j → convolved es ls v t (i + 8) 9 ≡ 0

module _ (es ls t v : List ℕ) where
  pub tested_not : false ≡ true → Annihilates es ls t v
  tested_not z = absurd (omega (arith, ap {B = ℕ} (λ (x : Bool). cond x 1 0) z))

  pub tested_none : (k x : ℕ) → length v ≡ 9 → x ≡ at v k → x ≡ 1 → Tested es ls t v 0
  tested_none k x long e one =
      record { within = zero-le; leading = k; leading_lt = go (dec_lt k 9); leading_one = sym e ∙ one; equations = λ i h. absurd (not-suc-le-zero h) }
    where
      go : Dec (k < 9) → k < 9
      go (yes l) = l
      go (no l) = absurd (omega (arith, past v k (rw long (omega arith)), e, one))

  module _ (j : ℕ) (so_far : Tested es ls t v j) where
    pub tested_next : (r : ℕ) → j < 8 → r ≡ convolved es ls v t (j + 8) 9 → r ≡ 0 → Tested es ls t v (j + 1)
    tested_next r h e z =
        record {
          within = omega arith;
          leading = so_far.leading;
          leading_lt = so_far.leading_lt;
          leading_one = so_far.leading_one;
          equations = λ i l. go i l (ℕ_discrete i j);
        }
      where
        go : (i : ℕ) → i < j + 1 → Dec (i ≡ j) → convolved es ls v t (i + 8) 9 ≡ 0
        go i l (yes q) = rw q (sym e ∙ z)
        go i l (no q) = so_far.equations i (omega arith)

    pub tested_end : 8 ≤ j → ((k : ℕ) → at v k < length ls) → Annihilates es ls t v
    tested_end h elements =
        record {
          elements = elements;
          leading = so_far.leading;
          leading_lt = so_far.leading_lt;
          leading_one = so_far.leading_one;
          equations = λ i l. applied_convolved es ls t v i ∙ so_far.equations i (omega arith);
        }
