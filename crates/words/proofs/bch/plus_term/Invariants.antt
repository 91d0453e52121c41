use mathlib.Core.Path.{◌≡◌}
use Rattle.fields.specs.Elements.{powers_b}
use Rattle.fields.proofs.Places.Filling.{Filled}
use Rattle.words.proofs.Steps.Inner.{term_added}
use Rattle.words.proofs.bch.plus_term.Given as goal

abbrev pub invariant-loop-j : goal.invariant-loop-j
invariant-loop-j l = (l.field.exp.now ≡ powers_b) × Filled 8 (term_added powers_b l.w.at l.c l.i) l.j l.at
