-- A block that is lent as an array of its length. Assumes nothing.
use mathlib.Core.Path.{◌≡◌, ◌∙◌}
use mathlib.Core.List.{List, [], ◌++◌}
use Prim.Native.Nat.{ℕ, ◌≤◌}
use native.Mathlib.Omega.{arith}
use lib.ListN.{length, drop}
use Rattle.std.specs.Array.{IsFirstChunk}
use Rattle.std.proofs.Common.{append-nil, drop_of_length-le}
use Rattle.std.proofs.lemmas.List.{take_all}

pub lent_whole : (block array : List ℕ) → IsFirstChunk block array 16320 → length block ≡ 16320 → array ≡ block
lent_whole block array f e = f.same ∙ take_all 16320 block (omega arith)

pub lent_back : (block array : List ℕ) → length block ≡ 16320 → array ++ drop 16320 block ≡ array
lent_back block array e =
    let none : drop 16320 block ≡ [] = let l : length block ≤ 16320 = omega arith in drop_of_length-le block l in
    rw (none, append-nil)
