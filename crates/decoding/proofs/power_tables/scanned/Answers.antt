use native.Mathlib.Omega.{arith}
use borrow.Author.Rules.{rules}
use Rattle.decoding.proofs.Steps.PowerTables.{bases_most, starts_most}
use Rattle.decoding.proofs.Steps.TableRoots.{tables_long, place_small, scanning_none, block_passed}
use Rattle.decoding.proofs.power_tables.scanned.Goals as goal

pub loop-k-init : goal.loop-k-init
loop-k-init c = search (rules, scanning_none)

pub block-p-requires : goal.block-p-requires
block-p-requires c = record {
  tables_len = (tables_long c.requires.tables_for, c.loop-k.invariant.few, place_small c.requires.tables_for (omega arith));
  by_index = (bases_most _ _ c.tables_of-terms.ensures.0, starts_most _ _ _ _ c.tables_of-terms.ensures.1);
}

pub loop-k-preserved : goal.loop-k-preserved
loop-k-preserved c = search (rules, block_passed)
