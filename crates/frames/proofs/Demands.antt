-- What the buyer asked for, proved: the record of specs/Demands.antt. Assumes nothing.
use Rattle.fields.proofs.Instances.{field_a, field_b}
use Rattle.words.proofs.Codes.Proved.{codes}
use Rattle.frames.specs.Demands.{TwoPasses, Demand2, Demand3, Demands}
use Rattle.frames.proofs.Frames.FarApart.{far}
use Rattle.frames.proofs.Correction.ReportCounts.{both_counts, all_counted_lem}
use Rattle.frames.proofs.Correction.RestoredWords.{inner_near, inner_lost, lost_far, lost_only, lost_wrong, outer_near, outer_lost, one_or_other, passed, restored, none_restored, none_only, corrected, uncorrectable, uncorrectable_only, corrected_frame}
use Rattle.frames.proofs.Proved.{frame_laws}
use Rattle.frames.proofs.DemandOne.{demand_1}
use Rattle.frames.proofs.DemandTwo.{encoded, checked, checked_only, extracted, extracted_only}
use Rattle.frames.proofs.DemandThree.{sent_restored, first_half}

pub two_passes : TwoPasses
two_passes =
    record {
      inner_near = inner_near;
      inner_lost = inner_lost;
      lost_far = lost_far;
      lost_only = lost_only;
      lost_wrong = lost_wrong;
      outer_near = outer_near;
      outer_lost = outer_lost;
      restored = restored;
      none_restored = none_restored;
      none_only = none_only;
      corrected = λ block buffer words fits room. corrected block buffer fits room words;
      uncorrectable = λ block buffer w fits room. uncorrectable block buffer fits room w;
      uncorrectable_only = uncorrectable_only;
      one_or_other = λ block. one_or_other (passed block);
      corrected_frame = corrected_frame;
      counted = both_counts;
      summed = all_counted_lem;
    }

pub demand_2 : Demand2
demand_2 =
    record {
      encoded = λ payload buffer valid. encoded payload valid buffer;
      checked = checked;
      checked_only = checked_only;
      extracted = λ payload buffer valid. extracted payload valid buffer;
      extracted_only = extracted_only;
      passes = two_passes;
    }

pub demand_3 : Demand3
demand_3 =
    record {
      sent_restored = λ lost payload block valid premise. sent_restored lost payload block valid premise;
      first_half = λ lost payload block buffer valid fits room premise. first_half lost payload block valid premise buffer fits room;
      second_half = far;
    }

pub demands : Demands
demands = record { field_a = field_a; field_b = field_b; codes = codes; frames = frame_laws; first = demand_1; second = demand_2; third = demand_3 }
