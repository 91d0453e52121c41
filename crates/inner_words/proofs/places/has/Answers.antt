use Rattle.inner_words.proofs.Interleaving.EightBytes.{bit_has}
use Rattle.inner_words.proofs.places.has.Goals as goal

pub returns : goal.returns
returns c = bit_has c.args.words c.args.k c.requires
