use mathlib.Core.Path.{◌≡◌, refl}
use Prim.Native.Nat.{ℕ, ◌*◌, ◌/◌}
use native.Mathlib.Omega.{arith}
use lib.ListN.{length, length-take, length-drop}
use Rattle.frames.proofs.Numbers.Slices.{rest_bit}
use Rattle.frames.proofs.Numbers.Groups.{eights_next, eights_and_each}
use Rattle.frames.proofs.bits.write_from_byte.Goals as goal

pub loop-q-preserved : goal.loop-q-preserved
loop-q-preserved c =
    eights_next c.args.bytes.now _ c.loop-q.q _ c.loop-q.invariant (omega arith) (omega arith)
    (λ i. rest_bit c.args.bytes.now (10 * c.loop-q.q) _ i (omega arith) refl) c.eight_symbols-eight.ensures c.copy_from_slice.ensures.after

pub returns : goal.returns
returns c =
    let all : c.loop-q.q ≡ length c.args.out.now / 8 = omega arith in
    eights_and_each c.args.bytes.now (length c.args.out.now) (length c.args.out.now / 8) _ _ (rw all at c.loop-q.invariant) (omega arith) (omega arith)
    (omega (arith, length-take {A = ℕ}, length-drop {A = ℕ})) c.write_each.ensures
