use Rattle.std.proofs.Common.{◌≡◌, ◌<◌, IfSome, unwrap_or}
use Rattle.logging.specs.WorstList.{first_open}
use Rattle.logging.proofs.first_open.Given as goal

abbrev pub invariant-loop-k : goal.invariant-loop-k
invariant-loop-k l = record { within : IfSome l.first (λ k. k < 64); value : unwrap_or l.first 64 ≡ first_open (l.report.data, l.report.parity) l.listed l.k-counter }
