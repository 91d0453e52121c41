-- The worst list of a report: up to eight inner words with a count above 0, in one order. A list has eight places; empty places hold 64.
use Rattle.std.specs.Prelude.{Bool, true, false, not, ◌&&◌, ◌||◌, cond, List, [], ◌∷◌, ℕ, zero, suc, ◌+◌, eqb, ltb, get_or, set, replicate}

-- the counts of a report: for each inner word one of its data places, in the first list, and one of its parity places, in the second
abbrev pub Counts : Type 0
Counts = List ℕ × List ℕ

-- what one of the two lists has for inner word k; 64, an empty place, has none
unfoldable pub count_in : List ℕ → ℕ → ℕ
count_in list k = cond (ltb k 64) (get_or list k 0) 0

-- the count of inner word k, of data places and parity places together ("total"); and that of its data places alone ("changes below place 1,952")
unfoldable pub count_of : Counts → ℕ → ℕ
count_of counts k = count_in counts.0 k + count_in counts.1 k

abbrev pub data_of : Counts → ℕ → ℕ
data_of counts k = count_in counts.0 k

-- the order: inner word j stands before inner word k if its count is larger; or equal, and that of its data places larger; or both equal, and its number higher
unfoldable pub is_before : Counts → ℕ → ℕ → Bool
is_before counts j k =
    ltb (count_of counts k) (count_of counts j)
    || (eqb (count_of counts j) (count_of counts k)
    && (ltb (data_of counts k) (data_of counts j) || (eqb (data_of counts j) (data_of counts k) && ltb k j)))

-- inner word k can be listed next: its count is above 0, and it is not listed yet
unfoldable pub is_open : Counts → List Bool → ℕ → Bool
is_open counts listed k = ltb 0 (count_of counts k) && not (get_or listed k false)

-- what a place that holds j holds once k is looked at: k, if it can be listed and the place is empty or k stands before j; else j
unfoldable pub earlier : Counts → List Bool → ℕ → ℕ → ℕ
earlier counts listed j k = cond (is_open counts listed k && (eqb j 64 || is_before counts k j)) k j

-- of the first n inner words the first in the order that can be listed; 64, if none can
unfoldable pub first_open : Counts → List Bool → ℕ → ℕ
first_open counts listed zero = 64
first_open counts listed (suc n) = earlier counts listed (first_open counts listed n) n

-- n places: the first in the order that can be listed, then the first of those that are left, and so on
unfoldable pub worst_from : ℕ → Counts → List Bool → List ℕ
worst_from zero counts listed = []
worst_from (suc n) counts listed = first_open counts listed 64 ∷ worst_from n counts (set listed (first_open counts listed 64) true)

-- eight places; at the start nothing is listed, of 64 inner words and 64, the empty place
unfoldable pub worst_words : Counts → List ℕ
worst_words counts = worst_from 8 counts (replicate 65 false)
