use mathlib.Core.Path.{refl}
use Rattle.frames.specs.Steps.Symbols.{data_place}
use Rattle.frames.proofs.outer_words.data_place.Goals as goal

pub returns : goal.returns
unfolding data_place
returns c = refl
