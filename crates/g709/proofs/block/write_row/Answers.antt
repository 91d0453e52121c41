use mathlib.Core.Path.{refl, ap, ◌∙◌}
use Prim.Native.Nat.{ℕ}
use native.Mathlib.Omega.{arith}
use lib.ListN.{length, length-take, length-drop, length-append}
use Rattle.g709.proofs.Lanes.{registers_length}
use Rattle.g709.proofs.RowSteps.{parity_long, row_stored}
use Rattle.g709.proofs.block.write_row.Goals as goal

pub slice_bounds-parity-end : goal.slice_bounds-parity-end
slice_bounds-parity-end c = parity_long _ _ _ (omega arith) c.divide-registers.ensures

pub slice_bounds-copy-end-3 : goal.slice_bounds-copy-end-3
slice_bounds-copy-end-3 c = omega (arith, length-take {A = ℕ}, length-drop {A = ℕ}, c.requires)

pub copy-requires : goal.copy-requires
copy-requires c = omega (arith, length-take {A = ℕ}, length-drop {A = ℕ}, c.requires, c.told-payload)

pub copy_from_slice-requires : goal.copy_from_slice-requires
copy_from_slice-requires c =
    omega (arith, length-take {A = ℕ}, length-drop {A = ℕ}, length-append {A = ℕ}, c.copy.ensures.len, c.requires, ap length c.divide-registers.ensures ∙ registers_length _ _)

pub returns : goal.returns
returns c = row_stored _ _ _ _ _ 256 c.told-payload c.requires c.divide-registers.ensures c.copy.ensures.after c.copy_from_slice.ensures.after refl
