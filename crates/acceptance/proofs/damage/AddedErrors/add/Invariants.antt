use Rattle.std.proofs.Common.{◌<◌}
use Rattle.acceptance.proofs.damage.AddedErrors.add.Given as goal

abbrev pub invariant-loop : goal.invariant-loop
invariant-loop l = l.place < 130560
