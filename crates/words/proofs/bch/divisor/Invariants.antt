use mathlib.Core.Path.{◌≡◌}
use Rattle.words.specs.InnerCode.{product_of}
use Rattle.words.proofs.bch.divisor.Given as goal

abbrev pub invariant-loop-i : goal.invariant-loop-i
invariant-loop-i l = l.d ≡ product_of l.i
