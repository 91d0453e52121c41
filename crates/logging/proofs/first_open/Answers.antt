use Rattle.std.proofs.Common.{refl, rules}
use Rattle.logging.specs.WorstList.{first_open}
use Rattle.logging.proofs.Search.{first_closed, first_new, first_same}
use Rattle.logging.proofs.first_open.Goals as goal
use Rattle.logging.proofs.first_open.Goals.{then-is_open+then-is_none_or, else-is_open, else-is_open-via-then-is_open+else-is_none_or, else-is_open-via-else-is_open}

pub loop-k-init : goal.loop-k-init
unfolding first_open
loop-k-init c = record { within = tt; value = refl }

pub loop-k-preserved : goal.loop-k-preserved
loop-k-preserved c =
    let i = c.loop-k.invariant in
    let report = c.args.report.now in
    elim c.if-is_open.branch [
      | then-is_open+then-is_none_or w ↦
          rw w.first-is record {
            within = c.loop-k-test.true;
            value =
                first_new (report.data, report.parity) c.args.listed.now c.loop-k.k-counter c.loop-k.first i.value _ c.is_open.ensures w.if-is_open.true
                w.is_none_or.result (λ q. search rules) (λ j q. search rules) w.if-is_none_or.true;
          }
      | else-is_open w ↦
          rw w.first-is (elim w.else-is_open.branch [
            | else-is_open-via-then-is_open+else-is_none_or w' ↦
                record {
                  within = i.within;
                  value =
                      first_same (report.data, report.parity) c.args.listed.now c.loop-k.k-counter c.loop-k.first i.value _ c.is_open.ensures w'.if-is_open.true
                      w'.is_none_or.result (λ q. search rules) (λ j q. search rules) i.within w'.if-is_none_or.false;
                }
            | else-is_open-via-else-is_open w' ↦
                record {
                  within = i.within;
                  value = first_closed (report.data, report.parity) c.args.listed.now c.loop-k.k-counter c.loop-k.first i.value _ c.is_open.ensures w'.if-is_open.false;
                }
          ])
    ]
