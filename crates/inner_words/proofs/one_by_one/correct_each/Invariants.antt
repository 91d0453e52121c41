use Rattle.fields.specs.Elements.{powers_b}
use Rattle.decoding.specs.Steps.PowerTables.{PowerTables}
use Rattle.inner_words.specs.Steps.Passes.{WordRestored}
use Rattle.inner_words.proofs.Passes.InnerPass.{Going}
use Rattle.inner_words.proofs.one_by_one.correct_each.Given as goal

abbrev pub invariant-loop-k : goal.invariant-loop-k
invariant-loop-k l = record { words : Going WordRestored l.initial.block l.k l.left l.block; tables : PowerTables powers_b l.tables }
