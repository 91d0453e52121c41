use Prim.Native.Nat.{ℕ}
use native.Mathlib.Omega.{arith}
use lib.ListN.{length-take, length-drop, length-append}
use lib.Seq.{length-take-le}
use Rattle.words.specs.Bits.{bit_at}
use Rattle.frames.proofs.OuterSymbols.Writing.{word_first, word_last}
use Rattle.frames.proofs.outer_words.receive_word.Goals as goal

pub returns-then-w-lt-LAST : goal.returns-then-w-lt-LAST
returns-then-w-lt-LAST c = word_first (bit_at c.args.block.now) c.args.w _ (omega arith) c.write_from_bit.ensures (omega arith)

pub returns-else-w-lt-LAST : goal.returns-else-w-lt-LAST
returns-else-w-lt-LAST c =
    word_last (bit_at c.args.block.now) c.args.w _ _ c.args.word.now (omega arith) (omega arith) (omega arith) c.write_from_bit-else-w-lt-LAST.ensures
    (omega (arith, length-take {A = ℕ})) c.receive_last.ensures (omega (arith, length-append {A = ℕ}, length-take {A = ℕ}, length-drop {A = ℕ}))

pub slice_bounds-write_from_bit-end-else-w-lt-LAST-3 : goal.slice_bounds-write_from_bit-end-else-w-lt-LAST-3
slice_bounds-write_from_bit-end-else-w-lt-LAST-3 c = omega (arith, length-take-le 761 c.args.word.now (omega arith))

pub write_from_bit-requires-else-w-lt-LAST : goal.write_from_bit-requires-else-w-lt-LAST
write_from_bit-requires-else-w-lt-LAST c =
    let first = length-take-le 761 c.args.word.now (omega arith) in
    (omega arith, omega arith, omega arith, omega arith)
