use mathlib.Core.Path.{◌≡◌}
use Rattle.exports.specs.Chains.{chain}
use Rattle.exports.proofs.products.Given as goal

abbrev pub invariant-loop : goal.invariant-loop
invariant-loop l = l.v ≡ chain l.field.exp.now l.field.log.now l.x l.y l.counter
