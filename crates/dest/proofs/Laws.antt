-- Which list of the order tells a refusal: 21, 1 and 2 before the PDU's, and of a Metadata what comes behind its body.
use Prim.Native.Nat.{ℕ}
use mathlib.Core.Path.{◌≡◌, sym, ◌∙◌}
use mathlib.Core.Bool.{false, not}
use mathlib.Core.List.{List}
use lib.Dec.{T}
use Rattle.laws.specs.First.{first_of}
use Rattle.laws.proofs.Order.{numbered, first_left, first_right, first_clear, first_append}
use Rattle.header.specs.declared.CommonPduConfig.{CommonPduConfig}
use Rattle.packet_info.specs.Routing.{packet_order, packet_refusal}
use Rattle.bodies.specs.Metadata.{malformed}
use Rattle.state.specs.State.{busy}
use Rattle.state.specs.Unfit.{unfit_order, unfit_refusal}
use Rattle.state.specs.declared.State.{State}
use Rattle.inserting.specs.Metadata.{body_of, rest_refusal}
use Rattle.dest.specs.Metadata.{metadata_order, metadata_refusal}
use Rattle.dest.specs.Call.{entry_order, entry_refusal}

-- Metadata: behind 11, 10 and 14 comes the rest
pub rest_next : (s : State) (c : CommonPduConfig) (d : List ℕ) → busy s ≡ false → not c.unacknowledged ≡ false → malformed d c.largefile ≡ false → metadata_refusal s c d ≡ rest_refusal s.config c.source d (body_of c d)
unfolding metadata_refusal metadata_order rest_refusal
rest_next s c d p q r = rw (p, q, r)

-- a call: 21, 1 and 2 before the PDU's
unfit-numbered : (s : State) (size out : ℕ) → T (numbered (unfit_order s size out))
unfolding unfit_order
unfit-numbered s size out = tt

module _ (s : State) (size out : ℕ) (pdu : List ℕ) where
  pub unfit_first : (unfit_refusal s size out ≡ 0 → ⊥) → entry_refusal s size out pdu ≡ unfit_refusal s size out
  unfolding entry_refusal entry_order unfit_refusal
  unfit_first h = first_left (unfit_order s size out) _ (unfit-numbered s size out) h

  -- a PDU that nothing refuses was let through by 21, 1 and 2
  pub entry_fit : entry_refusal s size out pdu ≡ 0 → unfit_refusal s size out ≡ 0
  unfolding entry_refusal entry_order unfit_refusal
  entry_fit e =
      first_clear (first_of (unfit_order s size out)) _ (sym (first_append (unfit_order s size out) (packet_order pdu s.config.local.value) (unfit-numbered s size out)) ∙ e)

  pub packet_next : unfit_refusal s size out ≡ 0 → entry_refusal s size out pdu ≡ packet_refusal pdu s.config.local.value
  unfolding entry_refusal entry_order unfit_refusal packet_refusal
  packet_next h = first_right (unfit_order s size out) _ (unfit-numbered s size out) h
