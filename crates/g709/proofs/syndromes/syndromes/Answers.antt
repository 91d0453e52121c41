use mathlib.Core.Path.{sym, ◌∙◌}
use Rattle.std.specs.Cmp.Lexicographic.{same_text}
use Rattle.g709.proofs.Lanes.{zeros_table, zeros_length}
use Rattle.g709.proofs.ColumnSyndromes.{syndromes_start, syndromes_next, syndromes_end, syndromes_none}
use borrow.Author.Rules.{rules}
use Rattle.g709.proofs.syndromes.syndromes.Goals as goal

pub returns-then-eq : goal.returns-then-eq
returns-then-eq c = syndromes_none _ _ (zeros_table 272) (same_text _ _ (sym c.if-eq.true ∙ c.eq.ensures))

pub loop-i-init : goal.loop-i-init
loop-i-init c = (zeros_length 272, syndromes_start _ _ (zeros_table 272))

pub loop-i-preserved : goal.loop-i-preserved
loop-i-preserved c = (search rules, syndromes_next _ _ _ _ c.loop-i.invariant.1 c.loop-i.invariant.0 c.next_values.ensures)

pub returns : goal.returns
returns c = search (rules, syndromes_end)
