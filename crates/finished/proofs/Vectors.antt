-- The Finished PDUs of document 01's W1 and W2, computed from the definition.
use mathlib.Core.Path.{◌≡◌, refl}
use mathlib.Core.Bool.{true, false}
use mathlib.Core.List.{[], ◌∷◌}
use Rattle.codes.specs.Codes.{no_error, check_limit_reached}
use Rattle.numbers.specs.Numbers.{big_endian}
use Rattle.numbers.specs.declared.Width.TheVariants.{One}
use Rattle.header.specs.declared.CommonPduConfig.{CommonPduConfig}
use Rattle.finished.specs.Finished.{id_bytes, header_bytes, location, body_bytes, finished_bytes}
use Rattle.finished.specs.declared.EntityId.{EntityId}

-- the transfer of W1 and W2: unacknowledged, a small file, from 1 to 2, sequence number 5, each in one byte
abbrev pub transfer : CommonPduConfig
transfer =
    record {
      unacknowledged = true;
      largefile = false;
      idwidth = One;
      seqwidth = One;
      source = 1;
      seqnum = 5;
      dest = 2;
    }

abbrev pub receiver : EntityId
receiver = record { width = One; value = 2 }

-- W1: no error, delivery complete, file retained
pub w1 : finished_bytes transfer (record { condition = no_error; complete = true; retained = true }) receiver
    ≡ 0x2C ∷ 0x00 ∷ 0x02 ∷ 0x00 ∷ 0x01 ∷ 0x05 ∷ 0x02 ∷ 0x05 ∷ 0x02 ∷ []
unfolding finished_bytes header_bytes id_bytes body_bytes location big_endian
w1 = refl

-- W2: check limit reached, delivery incomplete, file retained, the fault at the receiver
pub w2 : finished_bytes transfer (record { condition = check_limit_reached; complete = false; retained = true }) receiver
    ≡ 0x2C ∷ 0x00 ∷ 0x05 ∷ 0x00 ∷ 0x01 ∷ 0x05 ∷ 0x02 ∷ 0x05 ∷ 0xA6 ∷ 0x06 ∷ 0x01 ∷ 0x02 ∷ []
unfolding finished_bytes header_bytes id_bytes body_bytes location big_endian
w2 = refl
