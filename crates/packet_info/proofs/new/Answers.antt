-- `packet_info::new` meets its contract: each answer that a callee gave says which list of the order tells the refusal.
use Prim.Native.Nat.{ℕ}
use mathlib.Core.Path.{◌≡◌, sym, ap, ap₂, ◌∙◌}
use mathlib.Core.List.{List}
use borrow.Author.Tests.{eq-eqb, ne_eqb}
use Rattle.std.specs.Prelude.{Result, Ok, Err}
use Rattle.codes.specs.declared.Refusal.{Refusal}
use Rattle.codes.specs.Refusals.{Answer, Good, number, answered}
use Rattle.codes.proofs.Refusals.{number-zero, ok_tells, err_tells, good_unless, refused_unless}
use Rattle.laws.specs.First.{first_of}
use Rattle.laws.specs.Parts.{stretch}
use Rattle.header.specs.Header.{data_field, conf_of, fields_of}
use Rattle.header.proofs.Laws.{good_header, refused_header}
use Rattle.header.specs.declared.PduHeader.{PduHeader}
use Rattle.packet_info.specs.declared.Target.{Target}
use Rattle.packet_info.specs.declared.PacketInfo.{PacketInfo}
use Rattle.packet_info.specs.Routing.{is_file_data, kind_order, kind_of, route_of, packet_of}
use Rattle.packet_info.proofs.Laws.{header_first, kind_second, foreign_last}
use Rattle.packet_info.proofs.new.Goals as goal

-- what a kind decides, by the fields of a header that was taken
module _ (s : List ℕ) (h : PduHeader) (r : Result Target Refusal) (fields : h ≡ fields_of s) {field : List ℕ} (part : field ≡ stretch s h.headerend h.dataend) (e : answered r ≡ route_of h.filedata field) where
  routed : answered r ≡ route_of (is_file_data s) (data_field s)
  unfolding fields_of data_field
  routed = rw (part, fields) at e

  -- a kind that was taken: none of its refusals is told, and it is the definition's; else one is
  kind : (t : Target) → r ≡ Ok t → (first_of (kind_order (is_file_data s) (data_field s)) ≡ 0) × (t ≡ kind_of (is_file_data s) (data_field s))
  unfolding route_of
  kind t is = ok_tells _ _ t r routed is

  unkind : (m : Refusal) → r ≡ Err m → number m ≡ first_of (kind_order (is_file_data s) (data_field s))
  unfolding route_of
  unkind m is = err_tells _ (kind_of (is_file_data s) (data_field s)) r m routed is

-- its destination is the header's
destination : (h : PduHeader) (s : List ℕ) → h ≡ fields_of s → h.conf.dest ≡ (conf_of s).dest
unfolding fields_of
destination h s e = ap (λ (x : PduHeader). x.conf.dest) e

-- a PDU that is taken, by its kind and header
abbrev taken : Target → PduHeader → Answer PacketInfo
taken t x = Good (record { target = t; header = x })

pub returns-in_default : goal.returns-in_default
unfolding packet_of
returns-in_default c =
    let told = refused_header _ _ c.from_bytes-read.ensures _ c.unwrap_err.ensures in
    refused_unless _ _ _ (told ∙ sym (header_first _ _ (λ z. number-zero _ (told ∙ z))))

pub returns-in_default-routed : goal.returns-in_default-routed
unfolding packet_of
returns-in_default-routed c =
    let h = good_header _ _ c.from_bytes-read.ensures _ c.in-Ok.is in
    let told = unkind _ _ _ h.1 c.data_field.ensures c.routed_to-routed.ensures _ c.unwrap_err-in_default-routed.ensures in
    refused_unless _ _ _ (told ∙ sym (kind_second _ _ h.0 (λ z. number-zero _ (told ∙ z))))

pub returns-then-header-local : goal.returns-then-header-local
unfolding packet_of
returns-then-header-local c =
    let s = c.args.pdu.now in
    let h = good_header _ _ c.from_bytes-read.ensures _ c.in-Ok.is in
    let k = kind _ _ _ h.1 c.data_field.ensures c.routed_to-routed.ensures _ c.in-Ok-routed.is in
    let dest = destination _ s h.1 in
    refused_unless _ _ Refusal.ForAnotherEntity
    (sym (foreign_last s _ h.0 k.0 ∙ rw (ne_eqb (conf_of s).dest _ (λ z. c.if-header-local.true (dest ∙ z)))))

pub returns : goal.returns
unfolding packet_of
returns c =
    let s = c.args.pdu.now in
    let h = good_header _ _ c.from_bytes-read.ensures _ c.in-Ok.is in
    let k = kind _ _ _ h.1 c.data_field.ensures c.routed_to-routed.ensures _ c.in-Ok-routed.is in
    let dest = destination _ s h.1 in
    ap₂ taken k.1 h.1
    ∙ good_unless _ _ (foreign_last s _ h.0 k.0 ∙ rw (eq-eqb (conf_of s).dest _ (sym dest ∙ c.if-header-local.false)))
