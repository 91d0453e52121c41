use mathlib.Core.Path.{refl}
use Prim.Native.Nat.{ℕ, ◌+◌, ◌*◌, ◌/◌, ◌%◌}
use native.Mathlib.Omega.{arith}
use lib.ListN.{length, length-take, length-drop, length-append}
use Rattle.frames.proofs.Numbers.Slices.{rest_bit}
use Rattle.frames.proofs.Numbers.Groups.{each_and_bytes}
use Rattle.frames.proofs.bits.write_from_bit.Goals as goal

pub returns : goal.returns
returns c =
    each_and_bytes c.args.bytes.now _ c.args.out.now c.args.i (length c.args.out.now) (3 * (c.args.i % 8 / 2) % 4) ((c.args.i + 10 * (3 * (c.args.i % 8 / 2) % 4)) / 8) _ _ (omega arith) refl
    (omega arith) refl refl (λ j. rest_bit c.args.bytes.now ((c.args.i + 10 * (3 * (c.args.i % 8 / 2) % 4)) / 8) _ j (omega arith) refl) c.write_each.ensures
    (omega (arith, length-take {A = ℕ}, length-drop {A = ℕ})) c.write_from_byte.ensures
    (omega (arith, length-append {A = ℕ}, length-take {A = ℕ}, length-drop {A = ℕ})) _
    (omega (arith, length-append {A = ℕ}, length-take {A = ℕ}, length-drop {A = ℕ}))
