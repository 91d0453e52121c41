-- A list cut into pieces. To read an entry of a list is to walk to it; by pieces it is to walk to a piece and along it, some 64 steps in a
-- list of 2,048 entries, so that a test may look up every entry. Assumes nothing.
use mathlib.Core.Path.{◌≡◌, ◌∙◌, ap}
use mathlib.Core.Bool.{Bool}
use mathlib.Core.List.{List, [], ◌∷◌}
use Prim.Native.Nat.{ℕ, zero, suc, ◌+◌, ◌*◌, ◌/◌, ◌%◌, ◌<◌}
use native.Mathlib.Nat.{div-add-mod', le_of_suc-le-suc, mod-lt, not-suc-le-zero}
use native.Mathlib.Omega.{arith}
use lib.Dec.{T, lit<}
use lib.ListN.{length, get_or, take, drop}
use lib.Seq.{get_or-take, get_or-drop}

-- k pieces of 32 entries
abbrev pieces_from : ℕ → List ℕ → List (List ℕ)
pieces_from zero xs = []
pieces_from (suc k) xs = take 32 xs ∷ pieces_from k (drop 32 xs)

abbrev pub pieces : List ℕ → List (List ℕ)
pieces xs = pieces_from (length xs / 32 + 1) xs

abbrev pub look : List (List ℕ) → ℕ → ℕ
look rs i = get_or (get_or rs (i / 32) []) (i % 32) 0

look_from : (k a b : ℕ) (xs : List ℕ) → a < k → b < 32 → get_or (get_or (pieces_from k xs) a []) b 0 ≡ get_or xs (a * 32 + b) 0
look_from zero a b xs ha hb = absurd (not-suc-le-zero ha)
look_from (suc k) zero b xs ha hb = get_or-take 32 xs b 0 hb ∙ ap (λ (i : ℕ). get_or xs i 0) (omega arith)
look_from (suc k) (suc a) b xs ha hb =
    look_from k a b (drop 32 xs) (le_of_suc-le-suc ha) hb ∙ get_or-drop 32 xs (a * 32 + b) 0 ∙ ap (λ (i : ℕ). get_or xs i 0) (omega arith)

pub look_is : (xs : List ℕ) (i : ℕ) → i < length xs → look (pieces xs) i ≡ get_or xs i 0
look_is xs i h =
    look_from (length xs / 32 + 1) (i / 32) (i % 32) xs (omega arith) (mod-lt i (lit< tt)) ∙ ap (λ (j : ℕ). get_or xs j 0) (div-add-mod' i 32)

-- f at pieces that are computed first, and once: an argument that is a call may be computed anew wherever f reads it
abbrev pub once : (List (List ℕ) → Bool) → List (List ℕ) → Bool
once f [] = f []
once f (r ∷ rs) = f (r ∷ rs)

pub once_is : (f : List (List ℕ) → Bool) (rs : List (List ℕ)) → T (once f rs) → T (f rs)
once_is f [] t = t
once_is f (r ∷ rs) t = t
