use mathlib.Core.Path.{refl}
use Prim.Native.Nat.{◌*◌}
use native.Mathlib.Omega.{arith}
use borrow.Author.Rules.{rules}
use Rattle.frames.proofs.Numbers.Slices.{rest_at}
use Rattle.frames.proofs.Numbers.Groups.{bytes_next, numbers_end}
use Rattle.frames.proofs.bits.write_bytes.Goals as goal

pub loop-q-preserved : goal.loop-q-preserved
loop-q-preserved c =
    bytes_next c.args.symbols.now _ c.loop-q.q _ _ c.loop-q.invariant (omega arith) (omega arith)
    (λ i. rest_at c.args.symbols.now (4 * c.loop-q.q) _ i (omega arith) refl) c.four_symbols-group.ensures c.to_be_bytes.ensures c.copy_from_slice.ensures.after

pub returns : goal.returns
returns c = search (rules, numbers_end)
