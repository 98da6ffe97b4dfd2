-- `recording::tally::data_bytes` meets its contract: without a good header, or for a directive, 0; else what the body carries.
use Prim.Native.Nat.{ℕ}
use mathlib.Core.Path.{◌≡◌, sym}
use mathlib.Core.Bool.{true}
use mathlib.Core.List.{List}
use borrow.Author.Tests.{eq-eqb, ne_eqb, not-true, not-false}
use Rattle.codes.proofs.Refusals.{number-zero}
use Rattle.header.specs.Header.{conf_of, fields_of}
use Rattle.header.specs.declared.PduHeader.{PduHeader}
use Rattle.header.proofs.Laws.{good_header, refused_header, part_of}
use Rattle.packet_info.specs.Routing.{is_file_data}
use Rattle.bodies.proofs.file_data.Laws.{good_file_data, refused_file_data}
use Rattle.recording.specs.Tally.{data_bytes}
use Rattle.inserting.proofs.Laws.{malformed-none}
use Rattle.recording.proofs.tally.data_bytes.Goals as goal

-- a good header that is not a directive's is one of file data
is_data : (s : List ℕ) (h : PduHeader) → h ≡ fields_of s → h.filedata ≡ true → is_file_data s ≡ true
unfolding fields_of
is_data s h e is = rw e at is

pub returns-in_default : goal.returns-in_default
unfolding data_bytes
returns-in_default c =
    rw (← refused_header _ _ c.from_bytes.ensures _ c.in_default.is, ne_eqb _ 0 (number-zero c.in_default.field-0))

pub returns-then-not-h : goal.returns-then-not-h
unfolding data_bytes fields_of
returns-then-not-h c =
    let g = good_header _ _ c.from_bytes.ensures _ c.in-Ok.is in
    rw (eq-eqb _ 0 g.0, rw g.1 at (not-true c.in-Ok.h.filedata c.if-not-h.true))

pub returns-in_default-read : goal.returns-in_default-read
unfolding data_bytes fields_of
returns-in_default-read c =
    let g = good_header _ _ c.from_bytes.ensures _ c.in-Ok.is in
    let part = part_of _ g.1 c.data_field-field.ensures in
    let carries = is_data _ _ g.1 (not-false c.in-Ok.h.filedata c.if-not-h.false) in
    let told = refused_file_data _ _ _ _ c.read.ensures _ c.in_default-read.is in
    rw (eq-eqb _ 0 g.0, carries) (sym (malformed-none (conf_of c.args.pdu.now) _ _ (rw (part, g.1) at told.0)))

pub returns : goal.returns
unfolding data_bytes fields_of
returns c =
    let g = good_header _ _ c.from_bytes.ensures _ c.in-Ok.is in
    let part = part_of _ g.1 c.data_field-field.ensures in
    let carries = is_data _ _ g.1 (not-false c.in-Ok.h.filedata c.if-not-h.false) in
    let whole = good_file_data _ _ _ _ c.read.ensures _ c.in-Ok-read.is in
    rw (eq-eqb _ 0 g.0, carries, c.segment.ensures, whole.1, part, g.1)
