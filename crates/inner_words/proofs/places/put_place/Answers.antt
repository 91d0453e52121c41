use Rattle.std.proofs.Common.{◌∙◌, arith}
use Rattle.inner_words.proofs.Interleaving.EightBytes.{place_put}
use Rattle.inner_words.proofs.places.put_place.Goals as goal

pub returns : goal.returns
returns c = place_put _ c.args.p c.args.x _ c.requires (c.copy_from_slice.ensures.after ∙ c.to_be_bytes.ensures) (omega arith)
