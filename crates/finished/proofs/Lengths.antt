-- How long a Finished PDU and its parts are.
use Prim.Native.Nat.{ℕ, ◌+◌, ◌≤◌}
use mathlib.Core.Path.{◌≡◌}
use mathlib.Core.Bool.{true, false}
use mathlib.Core.List.{List, []}
use native.Mathlib.Omega.{arith}
use lib.Dec.{lit≤}
use lib.ListN.{length, length-append}
use Rattle.laws.proofs.Tests.{by_cond}
use Rattle.numbers.specs.Numbers.{bytes_of}
use Rattle.numbers.proofs.Laws.{length_big}
use Rattle.header.specs.declared.CommonPduConfig.{CommonPduConfig}
use Rattle.finished.specs.Finished.{id_bytes, header_bytes, unlocated, location, body_bytes, finished_bytes, out_size}
use Rattle.finished.specs.declared.EntityId.{EntityId}
use Rattle.finished.specs.declared.FinishedPdu.{FinishedPdu}
use Rattle.numbers.proofs.Laws.{bytes_small}

-- the parts of the header, and of the data field
pub length_ids : (conf : CommonPduConfig) → length (id_bytes conf) ≡ bytes_of conf.idwidth + bytes_of conf.seqwidth + bytes_of conf.idwidth
unfolding id_bytes
length_ids conf = simp (length-append, length_big) (omega arith)

pub length_header : (conf : CommonPduConfig) (n : ℕ) → length (header_bytes conf n) ≡ 4 + length (id_bytes conf)
unfolding header_bytes
length_header conf n = simp (length-append, length_big) (omega arith)

pub length_body : (f : FinishedPdu) (local : EntityId) → length (body_bytes f local) ≡ 2 + length (location f local)
unfolding body_bytes
length_body f local = simp length-append (omega arith)

-- a fault location takes at most ten bytes
pub location_at_most : (f : FinishedPdu) (local : EntityId) → length (location f local) ≤ 10
unfolding location
location_at_most f local =
    by_cond (λ (l : List ℕ). length l ≤ 10) (unlocated f) [] _ (lit≤ tt)
    (simp length_big (omega (arith, bytes_small local.width)))

-- a Finished PDU takes at most as many bytes as the out buffer must have
pub finished_at_most : (conf : CommonPduConfig) (f : FinishedPdu) (local : EntityId) → length (finished_bytes conf f local) ≤ out_size
unfolding finished_bytes
finished_at_most conf f local =
    rw
    (length-append, length_header, length_ids, length_body)
    (omega (arith, location_at_most f local, bytes_small conf.idwidth, bytes_small conf.seqwidth))

-- the fault location where none is given, and where one is
pub length_none : (f : FinishedPdu) (local : EntityId) → unlocated f ≡ true → length (location f local) ≡ 0
unfolding location
length_none f local e = rw e

pub length-given : (f : FinishedPdu) (local : EntityId) → unlocated f ≡ false → length (location f local) ≡ 2 + bytes_of local.width
unfolding location
length-given f local e = rw e (omega (arith, length_big (bytes_of local.width) local.value))
