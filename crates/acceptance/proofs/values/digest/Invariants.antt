use Rattle.std.proofs.Common.{◌<◌}
use Rattle.acceptance.proofs.values.digest.Given as goal

abbrev pub invariant-loop-value : goal.invariant-loop-value
invariant-loop-value l = l.h < 1000000007
