-- What functions give that write a buffer, or a part of one.
use Rattle.std.specs.Prelude.{◌≡◌, cond, List, ℕ, ◌+◌, ◌≤◌, ◌<◌, eqb, length}
use Rattle.fields.specs.Places.{at}

-- the list xs stands in a buffer from place i on, and the other places are as they were
pub record Placed (i : ℕ) (xs before after : List ℕ) : Type 0 where
  pub long : length after ≡ length before
  pub inside : (j : ℕ) → j < length xs → at after (i + j) ≡ at xs j
  pub below : (j : ℕ) → j < i → at after j ≡ at before j
  pub above : (j : ℕ) → i + length xs ≤ j → at after j ≡ at before j

-- a buffer as long as the word gets it; any other stays as it was
unfoldable pub copied : {A : Type 0} → List A → List A → List A
copied w buffer = cond (eqb (length buffer) (length w)) w buffer
