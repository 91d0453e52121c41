-- The first of all inner words that can be listed: it stands before every other of them. Of the order this uses only that it is a strict total order.
-- Assumes nothing.
use mathlib.Core.Path.{◌≡◌, refl, sym, ◌∙◌}
use mathlib.Core.Logic.{◌⊎◌, inl, inr, ⊎_elim}
use mathlib.Core.Bool.{Bool, true, false, true≢false}
use mathlib.Core.List.{List}
use Prim.Native.Nat.{ℕ, zero, suc, ◌<◌}
use native.Mathlib.Decide.{dec_lt}
use native.Mathlib.Nat.{not-suc-le-zero}
use native.Mathlib.Omega.{arith}
use Rattle.logging.specs.Laws.{Before}
use Rattle.logging.specs.WorstList.{Counts, is_before, is_open, earlier, first_open}
use Rattle.logging.proofs.Order.{transitive, comparable}
use Rattle.logging.proofs.Search.{Open, open_inside, earlier_closed, earlier_empty, earlier_new, earlier_same}

pub same_or_not : (a b : ℕ) → (a ≡ b) ⊎ (a ≡ b → ⊥)
same_or_not a b = go (dec_lt a b) (dec_lt b a)
  where
    go : Dec (a < b) → Dec (b < a) → (a ≡ b) ⊎ (a ≡ b → ⊥)
    go (yes h) d = inr (λ e. omega arith)
    go (no g) (yes h) = inr (λ e. omega arith)
    go (no g) (no h) = inl (omega arith)

-- w is the first of the first n inner words: empty or one that can be listed, and it stands before every other that can be
pub record Top (counts : Counts) (listed : List Bool) (n w : ℕ) : Type 0 where
  pub named : (w ≡ 64) ⊎ ((w < n) × Open counts listed w)
  pub first : (k : ℕ) → k < n → Open counts listed k → (k ≡ w → ⊥) → (w < 64) × Before counts w k

module _ (counts : Counts) (listed : List Bool) (n w : ℕ) (t : Top counts listed n w) where
  -- n is no better than w: w is the first of one more
  top_same : (Open counts listed n → (n ≡ w → ⊥) → (w < 64) × Before counts w n) → Top counts listed (suc n) w
  top_same last = record { named = ⊎_elim (λ e. inl e) (λ p. inr (omega (arith, p.0), p.1)) t.named; first = λ k l. go k (dec_lt k n) l }
    where
      go : (k : ℕ) → Dec (k < n) → k < suc n → Open counts listed k → (k ≡ w → ⊥) → (w < 64) × Before counts w k
      go k (yes l) h = t.first k l
      go k (no g) h = let e : k ≡ n = omega arith in rw e last

  -- n is better than w, which is empty or stands after it
  top_new : Open counts listed n → ((w ≡ 64) ⊎ Before counts n w) → Top counts listed (suc n) n
  top_new o better =
      record {
        named = inr (omega arith, o);
        first = λ k l ok differ. (open_inside counts listed n o, go k (omega (arith, differ)) ok (same_or_not k w) better);
      }
    where
      go : (k : ℕ) → k < n → Open counts listed k → (k ≡ w) ⊎ (k ≡ w → ⊥) → (w ≡ 64) ⊎ Before counts n w → Before counts n k
      go k l ok (inl e) (inl empty) = absurd (omega (arith, open_inside counts listed k ok))
      go k l ok (inl e) (inr b) = rw e b
      go k l ok (inr differ) (inl empty) = absurd (omega (arith, (t.first k l ok differ).0))
      go k l ok (inr differ) (inr b) = transitive counts n w k b (t.first k l ok differ).1

  top_next : Top counts listed (suc n) (earlier counts listed w n)
  top_next = go (is_open counts listed n) refl (same_or_not w 64) (is_before counts n w) refl
    where
      -- w is an inner word, and n does not stand before it
      after : (w ≡ 64 → ⊥) → is_before counts n w ≡ false → (n ≡ w → ⊥) → (w < 64) × Before counts w n
      after full b differ = (
        ⊎_elim (λ e. absurd (full e)) (λ p. open_inside counts listed w p.1) t.named,
        ⊎_elim (λ c. c) (λ c. absurd (true≢false (sym c ∙ b))) (comparable counts w n (λ e. differ (sym e))),
      )

      go : (u : Bool) → is_open counts listed n ≡ u → (w ≡ 64) ⊎ (w ≡ 64 → ⊥) → (v : Bool) → is_before counts n w ≡ v →
          Top counts listed (suc n) (earlier counts listed w n)
      go false o place v b = rw (← earlier_closed counts listed w n _ refl o) (top_same (λ p differ. absurd (true≢false (sym p ∙ o))))
      go true o (inl empty) v b = rw (← earlier_empty counts listed w n _ refl o empty) (top_new o (inl empty))
      go true o (inr full) true b = rw (← earlier_new counts listed w n _ _ refl o refl b) (top_new o (inr b))
      go true o (inr full) false b = rw (← earlier_same counts listed w n _ full refl b) (top_same (λ p. after full b))

pub top : (counts : Counts) (listed : List Bool) (n : ℕ) → Top counts listed n (first_open counts listed n)
unfolding first_open
top counts listed zero = record { named = inl refl; first = λ k l. absurd (not-suc-le-zero l) }
top counts listed (suc n) = top_next counts listed n (first_open counts listed n) (top counts listed n)

-- of all inner words
module _ (counts : Counts) (listed : List Bool) where
  pub top_named : (first_open counts listed 64 ≡ 64) ⊎ Open counts listed (first_open counts listed 64)
  top_named = ⊎_elim (λ e. inl e) (λ p. inr p.1) (top counts listed 64).named

  pub top_before : (k : ℕ) → Open counts listed k → (k ≡ first_open counts listed 64 → ⊥) →
      (first_open counts listed 64 < 64) × Before counts (first_open counts listed 64) k
  top_before k o = (top counts listed 64).first k (open_inside counts listed k o) o
