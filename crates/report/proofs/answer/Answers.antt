use Rattle.std.proofs.Common.{ap}
use Rattle.report.specs.Printed.{answer_printed}
use Rattle.report.proofs.Longer.{answers}
use Rattle.report.proofs.answer.Goals as goal

pub returns : goal.returns
unfolding answer_printed
returns g c = answers _ _ _ _ _ c.in_ok-n.ensures.bytes (ap answer_printed c.correct_frame.ensures) c.in_ok-print.ensures
