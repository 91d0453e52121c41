use mathlib.Core.Path.{◌≡◌}
use Rattle.fields.specs.Elements.{powers_a, exponents_a}
use Rattle.fields.proofs.Places.Filling.{Filled}
use Rattle.words.specs.OuterCode as Code
use Rattle.words.proofs.Steps.Digits.{multiple}
use Rattle.words.proofs.division.multiples.Given as goal

abbrev pub invariant-loop-n : goal.invariant-loop-n
invariant-loop-n l = (l.field.exp.now ≡ powers_a) × (l.field.log.now ≡ exponents_a) × (l.generator ≡ Code.generator) × Filled 512 (multiple l.unit) l.n l.table
