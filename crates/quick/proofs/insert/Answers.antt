-- `quick::insert` meets its contract: outside the receiving step and for a directive it is left over, a refusal of 21, 1, 2 or of the routing is handed back, and file data are
-- what `inserting` makes of them.
use Prim.Native.Nat.{ℕ}
use mathlib.Core.Path.{◌≡◌, sym, ◌∙◌}
use mathlib.Core.Bool.{true, false, not}
use mathlib.Core.List.{List}
use lib.ListN.{length}
use borrow.Author.Tests.{eq-eqb, ne_eqb, not-true, not-false}
use Rattle.codes.proofs.Refusals.{number-zero, err_tells}
use Rattle.header.specs.Header.{data_field, fields_of, conf_of}
use Rattle.packet_info.specs.Routing.{is_file_data, kind_of}
use Rattle.packet_info.specs.declared.Target.{Target}
use denote.Enum.Bare.{sameb}
use Rattle.transfer.specs.contracts.TransactionStep.{the_type}
use Rattle.transfer.specs.declared.TransactionStep.{TransactionStep}
use Rattle.transfer.proofs.Steps.{same_receiving}
use Rattle.transfer.specs.Transfer.{is_receiving}
use Rattle.state.specs.declared.State.{State}
use Rattle.dest.specs.Call.{entry_refusal}
use Rattle.dest.proofs.Packets.{entered, info, kind, carried}
use Rattle.quick.specs.Quick.{target_quick, quick_of}
use Rattle.quick.proofs.insert.Goals as goal

-- the way is the one of the PDU's kind
goes : (s : State) (store : List ℕ) (out : ℕ) (pdu : List ℕ) (t : Target) → is_receiving s.transfer.step ≡ true → entry_refusal s (length store) out pdu ≡ 0 → t ≡ kind_of (is_file_data pdu) (data_field pdu) → quick_of s store out pdu ≡ target_quick t s store (conf_of pdu) (fields_of pdu).segmentmetadata (data_field pdu)
unfolding quick_of
goes s store out pdu t receives e k = rw (receives, eq-eqb _ 0 e, k)

-- whether it receives, by the comparison
elsewhere : (s : State) → true ≡ not (sameb the_type s.transfer.step TransactionStep.Receiving) → is_receiving s.transfer.step ≡ false
elsewhere s e = sym (same_receiving s.transfer.step) ∙ not-true _ (sym e)

here : (s : State) → false ≡ not (sameb the_type s.transfer.step TransactionStep.Receiving) → is_receiving s.transfer.step ≡ true
here s e = sym (same_receiving s.transfer.step) ∙ not-false _ (sym e)

pub returns-then-ne : goal.returns-then-ne
unfolding quick_of
returns-then-ne c = rw (elsewhere c.args.s.now c.if-ne.ensures)

pub returns-in-Err : goal.returns-in-Err
unfolding quick_of
returns-in-Err c =
    rw
    (here c.args.s.now c.if-ne.ensures, ← err_tells _ _ _ _ c.entered.ensures c.in-Err.is, ne_eqb _ 0 (number-zero c.in-Err.refusal))

pub returns-in-Metadata : goal.returns-in-Metadata
returns-in-Metadata c =
    let a = c.args in
    let none = entered _ _ _ a.pdu.now _ c.entered.ensures c.in-Ok.is in
    let is = kind _ _ _ a.pdu.now _ c.entered.ensures c.in-Ok.is _ c.in-Metadata.is in
    rw (goes a.s.now a.store.now a.out a.pdu.now Target.Metadata (here a.s.now c.if-ne.ensures) none is)

pub returns-in-Eof : goal.returns-in-Eof
returns-in-Eof c =
    let a = c.args in
    let none = entered _ _ _ a.pdu.now _ c.entered.ensures c.in-Ok.is in
    let is = kind _ _ _ a.pdu.now _ c.entered.ensures c.in-Ok.is _ c.in-Eof.is in
    rw (goes a.s.now a.store.now a.out a.pdu.now Target.Eof (here a.s.now c.if-ne.ensures) none is)

pub returns : goal.returns
returns c =
    let a = c.args in
    let i = info _ _ _ a.pdu.now _ c.entered.ensures c.in-Ok.is in
    let none = entered _ _ _ a.pdu.now _ c.entered.ensures c.in-Ok.is in
    let is = kind _ _ _ a.pdu.now _ c.entered.ensures c.in-Ok.is _ c.in-FileData.is in
    let k = carried a.pdu.now a.s.now a.store.now i c.data_field.ensures c.handle_file_data-i.ensures in
    rw
    (goes a.s.now a.store.now a.out a.pdu.now Target.FileData (here a.s.now c.if-ne.ensures) none is, ← k, c.after_file_data.ensures)
