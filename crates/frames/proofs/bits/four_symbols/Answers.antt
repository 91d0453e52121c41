use Rattle.frames.proofs.Numbers.Groups.{four_joined}
use Rattle.frames.proofs.bits.four_symbols.Goals as goal

pub returns : goal.returns
returns c = four_joined _ c.from.ensures c.from-2.ensures c.from-3.ensures c.from-4.ensures
