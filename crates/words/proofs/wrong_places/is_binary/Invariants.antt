use mathlib.Core.Path.{◌≡◌}
use mathlib.Core.Bool.{true}
use Rattle.words.proofs.Steps.Inner.{binary_up_to}
use Rattle.words.proofs.wrong_places.is_binary.Given as goal

abbrev pub invariant-loop-k : goal.invariant-loop-k
invariant-loop-k l = binary_up_to l.field.exp.now l.at l.values l.k ≡ true
