use mathlib.Core.Path.{refl}
use Rattle.fields.specs.Elements.{xor, scale, doubled}
use Rattle.fields.proofs.Instances.{field_c}
use Rattle.fields.proofs.TableTests.{powers_are, exponents_are}
use Rattle.fields.proofs.field_c.Goals as goal

pub returns : goal.returns
unfolding doubled scale xor
returns c = record { exp = powers_are _ _ _ refl tt; log = exponents_are _ _ field_c _ refl refl tt }
