-- Document 03 on frames: its definitions as it writes them, but that `data_symbols` is `unfoldable`, where the document has `abbrev`: the prover would
-- compute its 765 symbols. Assumes nothing.
use mathlib.Core.Bool.{Bool, true, ◌&&◌}
use mathlib.Core.List.{List, [], ◌∷◌, ◌++◌}
use Prim.Native.Nat.{ℕ, zero, suc, ◌*◌}
use lib.Dec.{ltb}
use lib.ListN.{get_or, take, drop}
use Rattle.document03.proofs.Fields.{pick}
use Rattle.document03.proofs.Words.Statements.{outer_checks, bits_from, inner_checks}
use Rattle.document03.proofs.Words.Says.{bits_of, groups_from, bytes_of}

-- outer word w of a payload's bits: 765 symbols, word 15 762 with two fill zeros; with its checks
unfoldable pub data_symbols : ℕ → List ℕ → List ℕ
data_symbols w bs = pick (ltb w 15) (groups_from 765 10 (drop (7650 * w) bs)) (groups_from 762 10 (drop 114750 bs ++ (0 ∷ (0 ∷ []))))

abbrev pub outer_word : ℕ → List ℕ → List ℕ
outer_word w bs = let d = data_symbols w bs in d ++ outer_checks d

abbrev pub symbol_bits : List ℕ → List ℕ
symbol_bits [] = []
symbol_bits (s ∷ ss) = bits_from 10 s ++ symbol_bits ss

-- the two fill zeros are not sent: bits 7,618 and 7,619 of word 15
abbrev pub sent_bits : ℕ → List ℕ → List ℕ
sent_bits w ss = let b = symbol_bits ss in pick (ltb w 15) b (take 7618 b ++ drop 7620 b)

abbrev pub words_from : ℕ → ℕ → List ℕ → List (List ℕ)
words_from zero w bs = []
words_from (suc k) w bs = outer_word w bs ∷ words_from k (suc w) bs

abbrev pub outer_words : List ℕ → List (List ℕ)
outer_words bs = words_from 16 0 bs

abbrev pub sent_from : ℕ → List (List ℕ) → List ℕ
sent_from w [] = []
sent_from w (ss ∷ rest) = sent_bits w ss ++ sent_from (suc w) rest

-- inner word k of the first 124,928 frame bits: every 64th from k
abbrev pub every_from : ℕ → List ℕ → List ℕ
every_from zero bs = []
every_from (suc n) bs = get_or bs 0 0 ∷ every_from n (drop 64 bs)

abbrev pub inner_data : ℕ → List ℕ → List ℕ
inner_data k bs = every_from 1952 (drop k bs)

abbrev pub checks_from : ℕ → ℕ → List ℕ → List (List ℕ)
checks_from zero k bs = []
checks_from (suc n) k bs = inner_checks (inner_data k bs) ∷ checks_from n (suc k) bs

-- check bit p of word k is frame bit 124,928 + 64 p + k
abbrev pub heads : List (List ℕ) → List ℕ
heads [] = []
heads (c ∷ cs) = get_or c 0 0 ∷ heads cs

abbrev pub tails : List (List ℕ) → List (List ℕ)
tails [] = []
tails (c ∷ cs) = drop 1 c ∷ tails cs

abbrev pub woven : ℕ → List (List ℕ) → List ℕ
woven zero cs = []
woven (suc n) cs = heads cs ++ woven n (tails cs)

abbrev pub with_checks : List ℕ → List ℕ
with_checks bs = bs ++ woven 88 (checks_from 64 0 bs)

-- the frame of outer words, and of a payload
abbrev pub frame_of_words : List (List ℕ) → List ℕ
frame_of_words ws = with_checks (sent_from 0 ws)

abbrev pub frame_of : List ℕ → List ℕ
frame_of payload = frame_of_words (outer_words (bits_of payload))

-- a block's inner words and outer words
abbrev pub inner_word : ℕ → List ℕ → List ℕ
inner_word k fs = every_from 2040 (drop k fs)

abbrev pub symbols_from : ℕ → List ℕ → List ℕ
symbols_from n bs = groups_from n 10 bs

abbrev pub outer_of : ℕ → List ℕ → List ℕ
outer_of w fs = pick (ltb w 15) (symbols_from 781 (drop (7810 * w) fs)) (let b = take 7778 (drop 117150 fs) in symbols_from 778 (take 7618 b ++ (0 ∷ (0 ∷ drop 7618 b))))

-- the payload's bits of a frame
abbrev pub payload_from : ℕ → ℕ → List ℕ → List ℕ
payload_from zero w fs = []
payload_from (suc n) w fs = take (pick (ltb w 15) 7650 7618) (drop (7810 * w) fs) ++ payload_from n (suc w) fs

abbrev pub payload_of : List ℕ → List ℕ
payload_of fs = bytes_of (payload_from 16 0 fs)

abbrev pub all_bytes : List ℕ → Bool
all_bytes [] = true
all_bytes (b ∷ bs) = ltb b 256 && all_bytes bs
