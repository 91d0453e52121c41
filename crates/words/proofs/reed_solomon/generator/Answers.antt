use borrow.Author.Rules.{rules}
use Rattle.fields.specs.Elements.{xor, scale, doubled, times_from, times, power}
use Rattle.fields.specs.Lists.{tabulate}
use Rattle.words.specs.ReedSolomon.{with_root, generator_of}
use Rattle.words.proofs.reed_solomon.generator.Goals as goal

pub returns : goal.returns
unfolding generator_of with_root tabulate xor scale doubled times times_from power
returns c = search rules
