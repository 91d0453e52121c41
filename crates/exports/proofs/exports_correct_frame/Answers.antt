use borrow.Author.Rules.{rules}
use Rattle.exports.specs.Packed.{packed, packed_frame}
use Rattle.exports.proofs.Packed.{frame_packed}
use Rattle.exports.proofs.exports_correct_frame.Goals as goal

pub returns : goal.returns
unfolding packed_frame packed
returns c = search (rules, frame_packed)
