-- A map of the numbers below n to themselves that takes no value twice takes every value. Assumes nothing.
use mathlib.Core.Path.{◌≡◌, sym}
use mathlib.Core.Bool.{cond}
use Prim.Native.Nat.{ℕ, zero, suc, ◌-◌, ◌<◌}
use native.Mathlib.Nat.{le_refl, not-suc-le-zero}
use native.Mathlib.Decide.{ℕ_discrete, dec_lt}
use native.Mathlib.Omega.{arith}
use borrow.Author.Tests.{lt-ltb, le-ltb}
use lib.Dec.{ltb}

-- the numbers but v, closed up
close : ℕ → ℕ → ℕ
close v y = cond (ltb v y) (y - 1) y

-- a number but v is above v and goes down by one, or is below v and stays
data Closed (v y : ℕ) : Type 0 where
  down : v < y → close v y ≡ y - 1 → Closed v y
  stays : y < v → close v y ≡ y → Closed v y

closed : (v y : ℕ) → (y ≡ v → ⊥) → Closed v y
unfolding close
closed v y ne = go (dec_lt v y)
  where
    go : Dec (v < y) → Closed v y
    go (yes h) = down h (rw (lt-ltb v y h))
    go (no h) = stays (omega arith) (rw (le-ltb v y (omega arith)))

close_lt : (n v y : ℕ) → v < suc n → y < suc n → Closed v y → close v y < n
close_lt n v y hv hy (down h e) = omega arith
close_lt n v y hv hy (stays h e) = omega arith

close_once : (v x y : ℕ) → Closed v x → Closed v y → close v x ≡ close v y → x ≡ y
close_once v x y (down hx ex) (down hy ey) q = omega arith
close_once v x y (down hx ex) (stays hy ey) q = omega arith
close_once v x y (stays hx ex) (down hy ey) q = omega arith
close_once v x y (stays hx ex) (stays hy ey) q = omega arith

pub onto : (n : ℕ) (f : ℕ → ℕ) → ((i : ℕ) → i < n → f i < n) → ((i j : ℕ) → i < n → j < n → f i ≡ f j → i ≡ j) → (y : ℕ) → y < n → (i : ℕ) × (i < n) × (f i ≡ y)
onto zero f into once y h = absurd (not-suc-le-zero h)
onto (suc n) f into once y h = reached (onto n (λ i. close (f n) (f i)) below apart) (ℕ_discrete y (f n))
  where
    other : (i : ℕ) → i < n → Closed (f n) (f i)
    other i l = closed (f n) (f i) (λ q. let z : i ≡ n = once i n (omega arith) (le_refl (suc n)) q in omega arith)

    below : (i : ℕ) → i < n → close (f n) (f i) < n
    below i l = close_lt n (f n) (f i) (into n (le_refl (suc n))) (into i (omega arith)) (other i l)

    apart : (i j : ℕ) → i < n → j < n → close (f n) (f i) ≡ close (f n) (f j) → i ≡ j
    apart i j li lj q = once i j (omega arith) (omega arith) (close_once (f n) (f i) (f j) (other i li) (other j lj) q)

    -- y is the value at n, or a value below n with the value at n closed up
    reached : ((z : ℕ) → z < n → (i : ℕ) × (i < n) × (close (f n) (f i) ≡ z)) → Dec (y ≡ f n) → (i : ℕ) × (i < suc n) × (f i ≡ y)
    reached rest (yes e) = (n, le_refl (suc n), sym e)
    reached rest (no ne) =
        let c : Closed (f n) y = closed (f n) y ne in
        let r = rest (close (f n) y) (close_lt n (f n) y (into n (le_refl (suc n))) h c) in
        (r.0, omega (arith, r.1), close_once (f n) (f r.0) y (other r.0 r.1) c r.2)
