use Rattle.std.proofs.Common.{◌∙◌}
use Rattle.inner_words.proofs.Interleaving.EightBytes.{place_made}
use Rattle.inner_words.proofs.places.place.Goals as goal

pub returns : goal.returns
returns c = c.from_be_bytes.ensures ∙ place_made _ _ c.type_inv.bytes _ (rw c.unwrap.ensures at c.try_into.ensures).1.same
