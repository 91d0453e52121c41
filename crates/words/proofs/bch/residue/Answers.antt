use borrow.Author.Rules.{rules}
use Rattle.words.proofs.Steps.FourPlaces.{residue_none, residue_room, residue_next, residue_end}
use Rattle.words.proofs.bch.residue.Goals as goal

pub loop-i-init : goal.loop-i-init
loop-i-init c = search (rules, residue_none)

pub doubled-v-requires : goal.doubled-v-requires
doubled-v-requires c = search (rules, residue_room)

pub loop-i-preserved : goal.loop-i-preserved
loop-i-preserved c = search (rules, residue_next)

pub returns : goal.returns
returns c = search (rules, residue_end)
