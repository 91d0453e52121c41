use mathlib.Core.Path.{◌≡◌}
use Rattle.words.proofs.Steps.Products.{product_so_far}
use Rattle.words.proofs.bch.times.Given as goal

abbrev pub invariant-loop-k : goal.invariant-loop-k
invariant-loop-k l = l.u ≡ product_so_far l.f l.v l.k
