use mathlib.Core.Path.{ap, ◌∙◌}
use mathlib.Core.List.{List}
use Prim.Native.Nat.{ℕ}
use native.Mathlib.Omega.{arith}
use Rattle.std.proofs.lemmas.List.{get_or-take}
use Rattle.fields.specs.Places.{at}
use Rattle.g709.proofs.RowSteps.{compared, parity_long}
use Rattle.g709.proofs.block.row_agrees.Goals as goal

pub slice_bounds-eq-end : goal.slice_bounds-eq-end
slice_bounds-eq-end c = parity_long _ _ _ (omega arith) c.divide-registers.ensures

pub returns : goal.returns
returns c =
    let part = rw c.unwrap.ensures at c.try_into.ensures.1 in
    compared _ _ _ _ c.told-row (λ i l. ap (λ (a : List ℕ). at a i) part.same ∙ get_or-take 3824 c.args.row.now i 0 l) c.divide-registers.ensures c.eq.ensures
