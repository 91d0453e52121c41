-- Document 03 on the calls that check, encode and correct single words: its definitions as it writes them, but that the two fields of its struct
-- `Mended`, number and changed, are two numbers here. Assumes nothing.
use mathlib.Core.Path.{◌≡◌}
use mathlib.Core.Bool.{Bool, true, false, not, ◌&&◌, ◌||◌}
use mathlib.Core.List.{List, [], ◌∷◌, ◌++◌}
use mathlib.Core.Logic.{◌⊎◌}
use Prim.Native.Nat.{ℕ, zero, suc, ◌+◌, ◌*◌, ◌/◌}
use lib.Dec.{eqb, ltb, leb}
use lib.ListN.{length, take, drop}
use Rattle.document03.proofs.Fields.{pick}
use Rattle.document03.proofs.Words.Statements.{when, outer_checks, all_symbols, is_outer, bits_from, inner_checks, is_inner, apart, is_near}

abbrev pub first_of : ℕ → ℕ → ℕ
first_of zero b = b
first_of (suc a) b = suc a

-- the highest bit first
abbrev pub bits_of : List ℕ → List ℕ
bits_of [] = []
bits_of (b ∷ bs) = bits_from 8 b ++ bits_of bs

abbrev pub number_from : ℕ → List ℕ → ℕ
number_from v [] = v
number_from v (b ∷ bs) = number_from (2 * v + b) bs

abbrev pub groups_from : ℕ → ℕ → List ℕ → List ℕ
groups_from zero n bs = []
groups_from (suc k) n bs = number_from 0 (take n bs) ∷ groups_from k n (drop n bs)

abbrev pub bytes_of : List ℕ → List ℕ
bytes_of bs = groups_from (length bs / 8) 8 bs

-- single outer words: 17 to 1,023 symbols, data 1 to 1,007; 6, 3, 7, 4 or 5
abbrev pub outer_long : List ℕ → Bool
outer_long w = leb 17 (length w) && leb (length w) 1023

abbrev pub OuterCheckSays : List ℕ → ℕ → Type 0
OuterCheckSays w r = r ≡ first_of (when (not (outer_long w)) 6) (first_of (when (not (all_symbols w)) 7) (when (not (is_outer w)) 4))

abbrev pub OuterMakeSays : List ℕ → List ℕ → List ℕ → ℕ → Type 0
OuterMakeSays d o o' r = let f = first_of (when (eqb (length d) 0 || ltb 1007 (length d)) 6) (first_of (when (not (eqb (length o) 16)) 3) (when (not (all_symbols d)) 7)) in (r ≡ f) × (o' ≡ pick (eqb f 0) (outer_checks d) o)

-- the code word within eight, and how many changed; or none within eight
abbrev pub Nearest : (List ℕ → Bool) → List ℕ → List ℕ → List ℕ → (List ℕ → List ℕ) → ℕ → ℕ → Type 0
Nearest is_code w o o' out number changed = ((c : List ℕ) × (is_code c ≡ true) × (is_near w c ≡ true) × (number ≡ 0) × (changed ≡ apart w c) × (o' ≡ out c)) ⊎ (((c : List ℕ) → is_code c ≡ true → is_near w c ≡ false) × (number ≡ 5) × (changed ≡ 0) × (o' ≡ o))

abbrev pub MendedWith : ℕ → (List ℕ → Bool) → List ℕ → List ℕ → List ℕ → (List ℕ → List ℕ) → ℕ → ℕ → Type 0
MendedWith zero is_code w o o' out number changed = Nearest is_code w o o' out number changed
MendedWith (suc f) is_code w o o' out number changed = (number ≡ suc f) × (changed ≡ 0) × (o' ≡ o)

abbrev pub OuterMendSays : List ℕ → List ℕ → List ℕ → ℕ → ℕ → Type 0
OuterMendSays w o o' number changed = MendedWith (first_of (when (not (outer_long w)) 6) (first_of (when (not (eqb (length o) (length w))) 3) (when (not (all_symbols w)) 7))) (λ c. is_outer c) w o o' (λ c. c) number changed

-- single inner words: 255 bytes, data 244, checks 11
abbrev pub InnerCheckSays : List ℕ → ℕ → Type 0
InnerCheckSays w r = r ≡ first_of (when (not (eqb (length w) 255)) 6) (when (not (is_inner (bits_of w))) 4)

abbrev pub InnerMakeSays : List ℕ → List ℕ → List ℕ → ℕ → Type 0
InnerMakeSays d o o' r = let f = first_of (when (not (eqb (length d) 244)) 6) (when (not (eqb (length o) 11)) 3) in (r ≡ f) × (o' ≡ pick (eqb f 0) (bytes_of (inner_checks (bits_of d))) o)

abbrev pub InnerMendSays : List ℕ → List ℕ → List ℕ → ℕ → ℕ → Type 0
InnerMendSays w o o' number changed = MendedWith (first_of (when (not (eqb (length w) 255)) 6) (when (not (eqb (length o) 255)) 3)) (λ c. is_inner c) (bits_of w) o o' (λ c. bytes_of c) number changed
