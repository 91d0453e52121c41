-- How a chain of products starts, grows and ends. Assumes nothing.
use mathlib.Core.Path.{◌≡◌, refl}
use mathlib.Core.List.{List}
use Prim.Native.Nat.{ℕ, ◌+◌, ◌≤◌}
use native.Mathlib.Numerals.{add-one}
use native.Mathlib.Omega.{arith}
use Rattle.fields.specs.Steps.ByTables.{table_product}
use Rattle.exports.specs.Chains.{chain}

pub chain_start : (es ls : List ℕ) (x y : ℕ) → x ≡ chain es ls x y 0
unfolding chain
chain_start es ls x y = refl

pub chain_next : (es ls : List ℕ) (x y v i r : ℕ) → v ≡ chain es ls x y i → r ≡ table_product es ls v y → r ≡ chain es ls x y (i + 1)
unfolding chain
chain_next es ls x y v i r e h = rw (add-one, ← e) h

-- the chain of products through tables that are bound to names
pub chain_through : (es ls exp log : List ℕ) (x y n r : ℕ) → exp ≡ es → log ≡ ls → r ≡ chain exp log x y n → r ≡ chain es ls x y n
chain_through es ls exp log x y n r e l h = rw (← e, ← l) h

pub chain_end : (es ls : List ℕ) (x y v i n : ℕ) → v ≡ chain es ls x y i → i ≤ n → n ≤ i → v ≡ chain es ls x y n
chain_end es ls x y v i n e l g = let q : i ≡ n = omega arith in rw q at e
