use Rattle.std.proofs.Common.{take}
use Rattle.std.specs.Io.KnownBytes.{Appends}
use Rattle.report.specs.Printed.{inner_lines}
use Rattle.report.proofs.worst_words.Given as goal

abbrev pub invariant-loop-k : goal.invariant-loop-k
invariant-loop-k g l =
    Appends (g.W.Write.contents l.initial.writer) (g.W.Write.contents l.writer) (inner_lines (l.report.data, l.report.parity) (take l.k-index l.k-items))
