use mathlib.Core.Path.{refl}
use Rattle.fields.specs.Elements.{xor, scale, doubled, times_from, times}
use Rattle.fields.specs.Lists.{tabulate}
use Rattle.fields.specs.Places.{every, horner}
use Rattle.words.specs.ReedSolomon.{shifted_in}
use Rattle.words.specs.Steps.SixSymbols.{joined, joined_from, symbol_of}
use Rattle.words.proofs.Codes.UnitParities.{units_right}
use Rattle.words.proofs.digit_table.units.Goals as goal

pub returns : goal.returns
unfolding every horner tabulate xor scale doubled times times_from joined_from joined symbol_of shifted_in
returns c = units_right _ refl tt
