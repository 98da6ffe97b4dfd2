-- The three demands hold: a theorem of each type of specs/Demands.antt.
use mathlib.Core.Path.{ap}
use borrow.Author.Tests.{ne_eqb}
use Rattle.recording.specs.Tally as tally
use Rattle.promises.proofs.Refused.{nineteen, nineteen-length, nineteen_file}
use Rattle.promises.proofs.Sent.{sends}
use Rattle.transfer.specs.declared.FileState.{FileState}
use Rattle.demands.specs.Demands.{Demand1, Demand2, Demand3}
use Rattle.demands.proofs.Exactly.{exactly}
use Rattle.demands.proofs.Kept.{refused_unchanged, same_end, same-others}
use Rattle.demands.proofs.File.{file_is}
use Rattle.demands.proofs.Eof.{waits_from_eof}

pub demand_1 : Demand1
unfolding tally.counted
demand_1 =
    record {
      exactly = λ s store out i timer. exactly s out timer store i;
      unchanged = λ s store out i timer e. refused_unchanged s store out i timer e;
      tallied = λ t answer bytes e. rw (ne_eqb answer 0 e);
      nineteen = λ s store out i timer e.
          let n = nineteen s store out i timer e in
          record {
            pdu = n.0;
            input = n.1;
            call = n.4;
            length = nineteen-length s store out i timer e;
            progress = λ h. ap (λ (f : FileState). f.progress) (nineteen_file s store out i timer e h);
          };
    }

pub demand_2 : Demand2
demand_2 = record { file = file_is; sent = λ s store out i timer. sends s out store i timer }

pub demand_3 : Demand3
demand_3 = record { waits = waits_from_eof; unaltered = λ h xs. (same_end h xs, same-others h xs) }
