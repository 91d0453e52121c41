use mathlib.Core.Path.{refl}
use Rattle.fields.specs.Places.{every}
use Rattle.words.specs.Bits.{bit_of, number_of}
use Rattle.inner_words.proofs.ParityPlaces.ParityMatrix.{columns, table_is}
use Rattle.inner_words.proofs.parity.matrix.Goals as goal

pub returns : goal.returns
unfolding every bit_of number_of columns
returns c = table_is _ refl refl
