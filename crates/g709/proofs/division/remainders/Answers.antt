use mathlib.Core.Path.{ap, ◌∙◌}
use mathlib.Core.List.{List}
use Prim.Native.Nat.{ℕ}
use Rattle.std.proofs.lemmas.List.{get_or-take}
use Rattle.fields.specs.Places.{at}
use Rattle.g709.proofs.Overlays.{part_at}
use Rattle.g709.proofs.Folds.{remainders_are}
use Rattle.g709.proofs.division.remainders.Goals as goal

pub returns : goal.returns
returns c =
    let part = rw c.unwrap.ensures at c.try_into.ensures.1 in
    remainders_are _ _ _ _ _ (λ i l. ap (λ (a : List ℕ). at a i) part.same ∙ get_or-take 3824 c.args.row.now i 0 l) c.divide-r.ensures (λ i l. part_at 256 3824 c.args.row.now i l) c.add.ensures
