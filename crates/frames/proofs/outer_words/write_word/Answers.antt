use Prim.Native.Nat.{ℕ}
use native.Mathlib.Omega.{arith}
use borrow.Author.Rules.{rules}
use lib.ListN.{length-take, length-drop, length-append}
use Rattle.frames.proofs.Frames.FrameBits.{data_in_is}
use Rattle.frames.proofs.OuterSymbols.Words.{data_below, word_written}
use Rattle.frames.proofs.outer_words.write_word.Goals as goal

pub write_from_bit-requires : goal.write_from_bit-requires
write_from_bit-requires c =
    let n = data_in_is c.args.w c.requires.0 in
    (omega arith, omega (arith, length-take {A = ℕ}), omega arith, omega (arith, length-take {A = ℕ}))

pub parity-parity-requires : goal.parity-parity-requires
parity-parity-requires c = (
  search rules,
  data_below c.args.payload.now c.args.word.now c.args.w c.data_in-n.result _ c.data_in-n.ensures.0 c.requires.1 c.write_from_bit.ensures
      (omega (arith, length-take {A = ℕ})),
)

pub returns : goal.returns
returns c =
    word_written c.args.payload.now c.args.word.now c.args.w c.data_in-n.result _ c.data_in-n.ensures.0 c.requires.1 c.write_from_bit.ensures
    (omega (arith, length-take {A = ℕ})) _ c.parity-parity.ensures c.copy_from_slice.ensures.after
    (omega (arith, length-append {A = ℕ}, length-take {A = ℕ}, length-drop {A = ℕ}))
