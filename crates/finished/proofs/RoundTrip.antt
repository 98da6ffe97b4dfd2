-- A Finished PDU that was written reads back, whatever bytes stand behind it: its header does, and its data field is what stands
-- behind the header.
use Prim.Native.Nat.{ℕ, ◌+◌, ◌-◌, ◌<◌, ◌≤◌}
use mathlib.Core.Path.{◌≡◌, ap}
use mathlib.Core.Bool.{true, false}
use mathlib.Core.List.{List, ◌++◌, append_assoc}
use native.Mathlib.Omega.{arith}
use lib.ListN.{length, get_or, length-append}
use lib.Seq.{take-append_seam, drop-append_seam}
use Rattle.laws.specs.Bits.{flag}
use Rattle.laws.specs.Parts.{stretch}
use Rattle.header.specs.Header.{data_field, header_of}
use Rattle.header.specs.declared.CommonPduConfig.{CommonPduConfig}
use Rattle.codes.specs.Refusals.{Good}
use Rattle.finished.specs.Finished.{header_bytes, body_bytes, finished_bytes}
use Rattle.finished.specs.declared.EntityId.{EntityId}
use Rattle.finished.specs.declared.FinishedPdu.{FinishedPdu}
use Rattle.finished.proofs.Lengths.{length_body, location_at_most}
use Rattle.finished.proofs.HeaderBack.{Bits, bits_of, bits, Fitting, front, ids, header_end_lem, data_end_lem, header_reads}

module _ (conf : CommonPduConfig) (f : FinishedPdu) (local : EntityId) where
  -- the direction is to the sender
  pub direction_bit : flag 3 (get_or (finished_bytes conf f local) 0 0) ≡ true
  unfolding finished_bytes header_bytes bits_of
  direction_bit = ap (λ (b : Bits). b.direction) (bits conf.unacknowledged conf.largefile)

  size_fits : length (body_bytes f local) < 65536
  size_fits = omega (arith, length_body f local, location_at_most f local)

  behind : (rest : List ℕ) → finished_bytes conf f local ++ rest ≡ header_bytes conf (length (body_bytes f local)) ++ (body_bytes f local ++ rest)
  unfolding finished_bytes
  behind rest = append_assoc (header_bytes conf (length (body_bytes f local))) (body_bytes f local) rest

  -- it reads as a header with the fields of the transfer, whose data field ends where the PDU does
  pub reads_back : (rest : List ℕ) → Fitting conf → header_of (finished_bytes conf f local ++ rest) ≡ Good (record { filedata = false; segmentmetadata = false; conf = conf; headerend = length (header_bytes conf (length (body_bytes f local))); dataend = length (finished_bytes conf f local) })
  unfolding finished_bytes
  reads_back rest h =
      let b = body_bytes f local in
      let head = header_bytes conf (length b) in
      let long : length head + length b ≤ length (head ++ (b ++ rest)) = simp length-append (omega arith) in
      rw (behind rest, length-append head b)
      (header_reads (front conf (length b) (b ++ rest) size_fits) (ids conf (length b) (b ++ rest) h) long)

  -- its data field is the one that was written
  pub data_back : (rest : List ℕ) → data_field (finished_bytes conf f local ++ rest) ≡ body_bytes f local
  unfolding data_field stretch
  data_back rest =
      let b = body_bytes f local in
      let head = header_bytes conf (length b) in
      let k = front conf (length b) (b ++ rest) size_fits in
      let n : length head + length b - length head ≡ length b = omega arith in
      rw (behind rest, header_end_lem k, data_end_lem k, n, drop-append_seam head (b ++ rest), take-append_seam b rest)
