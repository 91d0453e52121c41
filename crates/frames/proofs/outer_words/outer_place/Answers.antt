use mathlib.Core.Path.{sym}
use Prim.Native.Nat.{◌*◌}
use native.Mathlib.Omega.{arith}
use Rattle.frames.proofs.Frames.FrameBits.{place_first, place_last}
use Rattle.frames.proofs.outer_words.outer_place.Goals as goal

pub returns-then-k-lt-AFTER_PADDING : goal.returns-then-k-lt-AFTER_PADDING
returns-then-k-lt-AFTER_PADDING c = sym (place_first (8 * c.args.k) (omega arith))

pub returns-else-k-lt-AFTER_PADDING : goal.returns-else-k-lt-AFTER_PADDING
returns-else-k-lt-AFTER_PADDING c = sym (place_last (8 * c.args.k) (omega arith))
