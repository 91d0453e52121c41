use mathlib.Core.Path.{◌∙◌}
use native.Mathlib.Omega.{arith}
use borrow.Author.Rules.{rules}
use Rattle.decoding.proofs.Steps.PowerTables.{keep_few, kept_none, kept_here, kept_not}
use Rattle.decoding.proofs.power_tables.kept_of.Goals as goal
use Rattle.decoding.proofs.power_tables.kept_of.Goals.{then-eight-x, else-eight-x}

pub loop-l-init : goal.loop-l-init
loop-l-init c = search (rules, kept_none)

pub loop-l-preserved : goal.loop-l-preserved
loop-l-preserved c =
    elim c.if-eight-x.branch [
      | then-eight-x w ↦ (
        omega arith,
        keep_few _ _ _ (w.kept-is ∙ w.keep-kept.ensures) c.loop-l.invariant.1,
        kept_here _ _ _ _ _ _ c.loop-l.invariant.2 _ _ c.eight.ensures w.if-eight-x.true (w.kept-is ∙ w.keep-kept.ensures),
      )
      | else-eight-x w ↦ search (rules, kept_not)
    ]
