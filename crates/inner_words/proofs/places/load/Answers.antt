use Rattle.std.proofs.Common.{◌∙◌}
use Rattle.inner_words.proofs.Interleaving.EightBytes.{load_made}
use Rattle.inner_words.proofs.places.load.Goals as goal

pub returns : goal.returns
returns c = c.from_le_bytes.ensures ∙ load_made _ _ c.type_inv.bytes _ (rw c.unwrap.ensures at c.try_into.ensures).1.same
