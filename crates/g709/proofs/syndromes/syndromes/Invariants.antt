use mathlib.Core.Path.{◌≡◌}
use lib.ListN.{length}
use Rattle.g709.specs.Steps.ColumnSyndromes.{SyndromesTo}
use Rattle.g709.proofs.syndromes.syndromes.Given as goal

abbrev pub invariant-loop-i : goal.invariant-loop-i
invariant-loop-i l = (length l.s ≡ 272) × SyndromesTo l.rest l.i l.s
