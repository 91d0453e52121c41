use mathlib.Core.Path.{sym}
use native.Mathlib.Omega.{arith}
use Rattle.frames.proofs.Frames.FrameBits.{data_in_first, data_in_last}
use Rattle.frames.proofs.outer_words.data_in.Goals as goal

pub returns-then-w-lt-LAST : goal.returns-then-w-lt-LAST
returns-then-w-lt-LAST c = (sym (data_in_first c.args.w (omega arith)), omega arith)

pub returns-else-w-lt-LAST : goal.returns-else-w-lt-LAST
returns-else-w-lt-LAST c = (sym (data_in_last c.args.w (omega arith)), omega arith)
