use mathlib.Core.Path.{◌≡◌}
use lib.ListN.{get_or}
use Rattle.fields.specs.Elements.{xor}
use Rattle.fields.proofs.Places.Filling.{FilledOver}
use Rattle.words.proofs.Steps.Digits.{DigitMultiples}
use Rattle.words.proofs.Steps.Shifting.{next_cell}
use Rattle.words.proofs.division.Register.next.Given as goal

abbrev pub invariant-loop-i : goal.invariant-loop-i
invariant-loop-i l = (l.f ≡ xor (get_or l.initial.self.cells 0 0) l.s) × DigitMultiples l.tables.low l.tables.high l.f l.l l.h × FilledOver 16 (next_cell l.initial.self.cells l.f) l.initial.self.cells l.i l.self.cells
