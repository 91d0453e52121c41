use mathlib.Core.Path.{◌≡◌, ◌∙◌}
use native.Mathlib.Omega.{arith}
use borrow.Author.Rules.{rules}
use Rattle.std.specs.List.{sum}
use Rattle.frames.proofs.Correction.ReportCounts.{total_sum, sum_most}
use Rattle.frames.proofs.comparison.sum.Goals as goal

pub returns : goal.returns
returns c =
    let e : c.sum.result ≡ sum c.args.counts.now = search rules in
    (e ∙ total_sum c.args.counts.now, omega (arith, sum_most c.args.counts.now (λ i. (c.type_inv.counts i).fits) c.requires))
