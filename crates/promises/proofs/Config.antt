-- The configuration is part of the state and no call changes it: each state that a call leaves is made from the old one with its
-- configuration.
use Prim.Native.Nat.{ℕ}
use mathlib.Core.Path.{◌≡◌, refl}
use mathlib.Core.Bool.{Bool}
use mathlib.Core.List.{List}
use lib.Dec.{eqb}
use lib.ListN.{length}
use Rattle.laws.proofs.Tests.{by_cond}
use Rattle.header.specs.Header.{conf_of, data_field}
use Rattle.header.specs.declared.CommonPduConfig.{CommonPduConfig}
use Rattle.packet_info.specs.Routing.{is_file_data, kind_of}
use Rattle.packet_info.specs.declared.Target.{Target}
use Rattle.state.specs.State.{busy, settled, begun}
use Rattle.state.specs.Unfit.{unfit_refusal}
use Rattle.state.specs.declared.State.{State}
use Rattle.dest.specs.Metadata.{metadata_refusal, begun_of}
use Rattle.dest.specs.Call.{Input, Outcome, ran_of, busy_call, refused_of, after_insert, file_data_call, eof_call, start_called, started_call, target_call, entry_refusal, insert_call, poll_call, call_of}
use Rattle.inserting.specs.Insert.{Inserted}
use Rattle.dest.specs.Call.{Called}

-- a call that leaves the configuration
abbrev Kept : State → Called → Type 0
Kept s c = c.state.config ≡ s.config

module _ (s : State) (out : List ℕ) (timer : Bool) where
  refused-kept : (i : Inserted) → Kept s (refused_of s i)
  unfolding refused_of settled
  refused-kept i = by_cond (Kept s) (eqb i.answer 19) _ _ refl refl

  after_kept : (i : Inserted) (store : List ℕ) → Kept s (after_insert s i store out timer).called
  unfolding after_insert busy_call ran_of settled
  after_kept i store = by_cond (λ (o : Outcome). Kept s o.called) (eqb i.answer 0) _ _ refl (refused-kept i)

  start-kept : (c : CommonPduConfig) (d : List ℕ) → Kept s (started_call s c d)
  unfolding started_call start_called begun_of begun
  start-kept c d = by_cond (Kept s) (eqb (metadata_refusal s c d) 0) _ _ refl refl

  target_kept : (k : Target) (store : List ℕ) (c : CommonPduConfig) (m : Bool) (d : List ℕ) → Kept s (target_call k s store out c m d timer).called
  unfolding file_data_call eof_call
  target_kept Target.FileData store c m d = after_kept _ _
  target_kept Target.Metadata store c m d = start-kept c d
  target_kept Target.Eof store c m d = after_kept _ store

-- no call changes the configuration
pub config_kept : (s : State) (store out : List ℕ) (i : Input) (timer : Bool) → (call_of s store out i timer).called.state.config ≡ s.config
unfolding call_of poll_call insert_call busy_call ran_of settled
config_kept s store out Input.poll timer =
    by_cond (λ (o : Outcome). Kept s o.called) (eqb (unfit_refusal s (length store) (length out)) 0) _ _
    (by_cond (λ (o : Outcome). Kept s o.called) (busy s) _ _ refl refl)
    refl
config_kept s store out (Input.packet pdu) timer =
    by_cond (λ (o : Outcome). Kept s o.called) (eqb (entry_refusal s (length store) (length out) pdu) 0) _ _
    (target_kept s out timer (kind_of (is_file_data pdu) (data_field pdu)) store (conf_of pdu) _ (data_field pdu))
    refl
