use Rattle.logging.proofs.Listing.{Listed}
use Rattle.logging.proofs.worst_words.Given as goal

abbrev pub invariant-loop-place : goal.invariant-loop-place
invariant-loop-place l = Listed (l.fn.report.data, l.fn.report.parity) l.place-index l.listed l.place-items
