-- Lists given place by place, and a number found by a test.
use Rattle.std.specs.Prelude.{Bool, cond, List, [], ◌∷◌, ℕ, zero, suc}

-- the list f 0, f 1, .. f (n - 1)
unfoldable pub tabulate : {A : Type 0} → ℕ → (ℕ → A) → List A
tabulate zero f = []
tabulate (suc n) f = f 0 ∷ tabulate n (λ i. f (suc i))

-- the number below n that passes the test f: the largest, if several do; 0, if none does
unfoldable pub find : (ℕ → Bool) → ℕ → ℕ
find f zero = 0
find f (suc n) = cond (f n) n (find f n)
