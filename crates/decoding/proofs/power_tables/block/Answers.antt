use borrow.Author.Rules.{rules}
use Rattle.decoding.proofs.Steps.PowerTables.{term_small, term_position, block_none, block_some, positions_next, positions_all}
use Rattle.decoding.proofs.power_tables.block.Goals as goal

pub position-requires : goal.position-requires
position-requires c = term_small c.args.terms.now c.loop-d.d c.args.i (search rules) c.requires.by_index.0 c.requires.by_index.1

pub loop-d-preserved : goal.loop-d-preserved
loop-d-preserved c = search (rules, positions_next, term_position)

pub returns-then-any : goal.returns-then-any
returns-then-any c = block_some _ _ _ _ _ _ _ (positions_all c.loop-d.invariant (search rules)) _ c.kept_of.ensures

pub returns : goal.returns
returns c = block_none _ _ _ _ _ _ _ (positions_all c.loop-d.invariant (search rules)) _ (search rules) c.any.ensures
