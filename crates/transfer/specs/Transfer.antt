-- The record of a transfer, and the steps that it is in.
use Rattle.std.specs.Prelude.{ℕ, Bool, true, false, Option}
use Rattle.codes.specs.Codes.{no_error, modular}
use Rattle.header.specs.declared.CommonPduConfig.{CommonPduConfig}
use Rattle.numbers.specs.declared.Width.{Width}
use Rattle.transfer.specs.declared.TransactionId.{TransactionId}
use Rattle.transfer.specs.declared.TransactionStep.{TransactionStep}
use Rattle.transfer.specs.declared.TransactionStep.TheVariants.{Idle, Receiving, Waiting, Completion}
use Rattle.transfer.specs.declared.FileState.{FileState}
use Rattle.transfer.specs.declared.CheckState.{CheckState}
use Rattle.transfer.specs.declared.FinishState.{FinishState}
use Rattle.transfer.specs.declared.TransferState.{TransferState}
use Rattle.transfer.specs.declared.Indication.{Indication}

-- what the user is told at a place of a call, or nothing
abbrev pub Note : Type 0
Note = Option Indication

-- the id of a transfer: source id and sequence number
abbrev pub id_of : TransferState → TransactionId
id_of t = record { source = t.conf.source; seqnum = t.conf.seqnum }

-- which step
abbrev pub is_idle : TransactionStep → Bool
is_idle Idle = true
is_idle Receiving = false
is_idle Waiting = false
is_idle Completion = false

abbrev pub is_receiving : TransactionStep → Bool
is_receiving Idle = false
is_receiving Receiving = true
is_receiving Waiting = false
is_receiving Completion = false

abbrev pub is_waiting : TransactionStep → Bool
is_waiting Idle = false
is_waiting Receiving = false
is_waiting Waiting = true
is_waiting Completion = false

abbrev pub is_completion : TransactionStep → Bool
is_completion Idle = false
is_completion Receiving = false
is_completion Waiting = false
is_completion Completion = true

-- a record with one part changed
abbrev pub at_step : TransferState → TransactionStep → TransferState
at_step t x =
    record { step = x; conf = t.conf; closure = t.closure; checksumtype = t.checksumtype; file = t.file; check = t.check; finish = t.finish }

abbrev pub with_file : TransferState → FileState → TransferState
with_file t x =
    record { step = t.step; conf = t.conf; closure = t.closure; checksumtype = t.checksumtype; file = x; check = t.check; finish = t.finish }

abbrev pub with_check : TransferState → CheckState → TransferState
with_check t x =
    record { step = t.step; conf = t.conf; closure = t.closure; checksumtype = t.checksumtype; file = t.file; check = x; finish = t.finish }

abbrev pub with_finish : TransferState → FinishState → TransferState
with_finish t x =
    record { step = t.step; conf = t.conf; closure = t.closure; checksumtype = t.checksumtype; file = t.file; check = t.check; finish = x }

-- no header is kept while idle
abbrev pub no_conf : CommonPduConfig
no_conf =
    record { unacknowledged = false; largefile = false; idwidth = Width.One; seqwidth = Width.One; source = 0; seqnum = 0; dest = 0 }

-- no transfer: a fresh record, but for the length of the last file
unfoldable pub idle_after : ℕ → TransferState
idle_after len =
    record {
      step = Idle;
      conf = no_conf;
      closure = false;
      checksumtype = modular;
      file = record { length = len; progress = 0 };
      check = record { checksum = 0; count = 0 };
      finish = record { condition = no_error; complete = false; retained = false; cancelled = false };
    }

-- start: length 0, progress 0, status retained, delivery incomplete, condition 0
unfoldable pub started_of : CommonPduConfig → Bool → ℕ → TransferState
started_of conf closure checksumtype =
    record {
      step = Receiving;
      conf = conf;
      closure = closure;
      checksumtype = checksumtype;
      file = record { length = 0; progress = 0 };
      check = record { checksum = 0; count = 0 };
      finish = record { condition = no_error; complete = false; retained = true; cancelled = false };
    }
