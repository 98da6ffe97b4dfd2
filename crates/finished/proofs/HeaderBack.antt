-- A header that was written reads back: each field is read at the place where its bytes were put, so none of the header's refusals holds.
use Prim.Native.Nat.{ℕ, ◌+◌, ◌*◌, ◌/◌, ◌%◌, ◌^◌, ◌<◌, ◌≤◌}
use mathlib.Core.Path.{◌≡◌, refl, ap}
use mathlib.Core.Bool.{Bool, true, false}
use mathlib.Core.List.{List, [], ◌∷◌, ◌++◌, append_assoc}
use native.Mathlib.Omega.{arith}
use lib.ListN.{length, get_or, length-append}
use borrow.Author.Tests.{le-ltb, ne_eqb}
use Rattle.laws.specs.Bits.{flag}
use Rattle.numbers.specs.Numbers.{bytes_of, big_endian, number_at}
use Rattle.numbers.proofs.Laws.{length_big}
use Rattle.header.specs.Header.{data_length, entity_width, sequence_width, header_end, data_end, header_order, header_refusal, conf_of, fields_of, header_of}
use Rattle.header.specs.declared.CommonPduConfig.{CommonPduConfig}
use Rattle.header.specs.declared.PduHeader.{PduHeader}
use Rattle.codes.specs.Refusals.{Good}
use Rattle.finished.specs.Finished.{bit, first_byte, widths_byte, id_bytes, header_bytes}
use Rattle.numbers.proofs.Laws.{bytes_pos, bytes_small, bytes_ok, bytes_width, number_there}
use Rattle.finished.proofs.Lengths.{length_ids, length_header}

-- the bits of a header's first byte
pub record Bits : Type 0 where
  pub version : ℕ
  pub filedata : Bool
  pub direction : Bool
  pub unacknowledged : Bool
  pub crc : Bool
  pub largefile : Bool

unfoldable pub bits_of : ℕ → Bits
bits_of b =
    record { version = b / 32; filedata = flag 4 b; direction = flag 3 b; unacknowledged = flag 2 b; crc = flag 1 b; largefile = flag 0 b }

-- as they were written
pub bits : (u l : Bool) → bits_of (40 + bit u * 4 + bit l) ≡ record { version = 1; filedata = false; direction = true; unacknowledged = u; crc = false; largefile = l }
unfolding bits_of
bits true true = refl
bits true false = refl
bits false true = refl
bits false false = refl

-- the widths as they were written, and the segment metadata flag between them
widths_read : (conf : CommonPduConfig) → (widths_byte conf / 16 % 8 + 1 ≡ bytes_of conf.idwidth) × (widths_byte conf % 8 + 1 ≡ bytes_of conf.seqwidth) × (flag 3 (widths_byte conf) ≡ false)
widths_read conf =
    let i = bytes_pos conf.idwidth in
    let j = bytes_small conf.idwidth in
    let q = bytes_pos conf.seqwidth in
    let r = bytes_small conf.seqwidth in
    (omega arith, omega arith, ne_eqb (widths_byte conf / 8 % 2) 1 (λ e. omega arith))

-- what the first four bytes of a header say, and that those that were written say it
pub record Front (s : List ℕ) (conf : CommonPduConfig) (n : ℕ) : Type 0 where
  pub first : get_or s 0 0 ≡ first_byte conf
  pub widths : get_or s 3 0 ≡ widths_byte conf
  pub size : data_length s ≡ n

pub front : (conf : CommonPduConfig) (n : ℕ) (rest : List ℕ) → n < 65536 → Front (header_bytes conf n ++ rest) conf n
unfolding header_bytes big_endian
front conf n rest h =
    record {
      first = refl;
      widths = refl;
      size = number_there _ (first_byte conf ∷ []) 2 n (widths_byte conf ∷ (id_bytes conf ++ rest)) 1 refl refl h;
    }

-- the widths, a clear segment metadata flag beside them, and where header and data field end
module _ {s : List ℕ} {conf : CommonPduConfig} {n : ℕ} (k : Front s conf n) where
  entity_width_lem : entity_width s ≡ bytes_of conf.idwidth
  entity_width_lem = rw k.widths (widths_read conf).0

  sequence_width_lem : sequence_width s ≡ bytes_of conf.seqwidth
  sequence_width_lem = rw k.widths (widths_read conf).1

  segment-flag : flag 3 (get_or s 3 0) ≡ false
  segment-flag = rw k.widths (widths_read conf).2

  pub header_end_lem : header_end s ≡ length (header_bytes conf n)
  unfolding header_end
  header_end_lem =
      omega (arith, entity_width_lem, sequence_width_lem, length_header conf n, length_ids conf)

  pub data_end_lem : data_end s ≡ length (header_bytes conf n) + n
  unfolding data_end
  data_end_lem = rw (header_end_lem, k.size)

-- the numbers of a transfer fit their widths
pub record Fitting (conf : CommonPduConfig) : Type 0 where
  pub source : conf.source < 256 ^ bytes_of conf.idwidth
  pub seqnum : conf.seqnum < 256 ^ bytes_of conf.seqwidth
  pub dest : conf.dest < 256 ^ bytes_of conf.idwidth

-- what the bytes behind the first four say
pub record Ids (s : List ℕ) (conf : CommonPduConfig) : Type 0 where
  pub source : number_at s 4 (bytes_of conf.idwidth) ≡ conf.source
  pub seqnum : number_at s (4 + bytes_of conf.idwidth) (bytes_of conf.seqwidth) ≡ conf.seqnum
  pub dest : number_at s (4 + bytes_of conf.idwidth + bytes_of conf.seqwidth) (bytes_of conf.idwidth) ≡ conf.dest

-- three pieces behind a front, with the cut before each of them
cut_1 : (p x y z r : List ℕ) → (p ++ (x ++ (y ++ z))) ++ r ≡ p ++ (x ++ (y ++ (z ++ r)))
cut_1 p x y z r = simp append_assoc

cut_2 : (p x y z r : List ℕ) → (p ++ (x ++ (y ++ z))) ++ r ≡ (p ++ x) ++ (y ++ (z ++ r))
cut_2 p x y z r = simp append_assoc

cut_3 : (p x y z r : List ℕ) → (p ++ (x ++ (y ++ z))) ++ r ≡ (p ++ (x ++ y)) ++ (z ++ r)
cut_3 p x y z r = simp append_assoc

pub ids : (conf : CommonPduConfig) (n : ℕ) (rest : List ℕ) → Fitting conf → Ids (header_bytes conf n ++ rest) conf
unfolding header_bytes id_bytes big_endian
ids conf n rest h =
    let i = bytes_of conf.idwidth in
    let q = bytes_of conf.seqwidth in
    let p = (first_byte conf ∷ []) ++ (big_endian 2 n ++ (widths_byte conf ∷ [])) in
    let x = big_endian i conf.source in
    let y = big_endian q conf.seqnum in
    let z = big_endian i conf.dest in
    record {
      source = number_there _ p i conf.source _ 4 (cut_1 p x y z rest) refl h.source;
      seqnum = number_there _ (p ++ x) q conf.seqnum _ (4 + i) (cut_2 p x y z rest) (simp length_big (omega arith)) h.seqnum;
      dest = number_there _ (p ++ (x ++ y)) i conf.dest _ (4 + i + q) (cut_3 p x y z rest) (simp (length-append, length_big) (omega arith)) h.dest;
    }

-- the fields of a header with a data field of n bytes behind it
abbrev pub fields_for : CommonPduConfig → ℕ → PduHeader
fields_for conf n =
    record {
      filedata = false;
      segmentmetadata = false;
      conf = conf;
      headerend = length (header_bytes conf n);
      dataend = length (header_bytes conf n) + n;
    }

-- what a header of these bytes is read as
module _ {s : List ℕ} {conf : CommonPduConfig} {n : ℕ} (k : Front s conf n) where
  first_bits : bits_of (get_or s 0 0) ≡ record { version = 1; filedata = false; direction = true; unacknowledged = conf.unacknowledged; crc = false; largefile = conf.largefile }
  first_bits = rw k.first (bits conf.unacknowledged conf.largefile)

  no_refusal : length (header_bytes conf n) + n ≤ length s → header_refusal s ≡ 0
  unfolding header_refusal header_order bits_of
  no_refusal h =
      let long : 4 ≤ length s = omega (arith, length_header conf n) in
      let ends : data_end s ≤ length s = rw (data_end_lem k) h in
      rw
      (le-ltb (length s) 4 long, ap (λ (b : Bits). b.version) first_bits, entity_width_lem k, bytes_ok, sequence_width_lem k, bytes_ok, ap (λ (b : Bits). b.crc) first_bits, le-ltb (length s) (data_end s) ends)

  fields : Ids s conf → fields_of s ≡ fields_for conf n
  unfolding fields_of conf_of bits_of
  fields h =
      rw
      (ap (λ (b : Bits). b.filedata) first_bits, ap (λ (b : Bits). b.unacknowledged) first_bits, ap (λ (b : Bits). b.largefile) first_bits, segment-flag k, entity_width_lem k, sequence_width_lem k, bytes_width, bytes_width, h.source, h.seqnum, h.dest, header_end_lem k, data_end_lem k)

  pub header_reads : Ids s conf → length (header_bytes conf n) + n ≤ length s → header_of s ≡ Good (fields_for conf n)
  unfolding header_of
  header_reads i h = rw (no_refusal h, fields i)
