-- No call makes a state that refusal 21 meets: each part of what 21 looks at is kept by a transfer that goes on or ends, and holds of one
-- that starts, whose header was read, whose names are not empty and whose source has an entry.
use Prim.Native.Nat.{ℕ, ◌<◌, ◌≤◌, max}
use mathlib.Core.Path.{◌≡◌, refl, sym, ◌∙◌}
use mathlib.Core.Bool.{Bool, true, false, cond, not, ◌&&◌, true≢false, false≢true}
use mathlib.Core.List.{List}
use native.Mathlib.Nat.{pos_of_ne-zero}
use native.Mathlib.Omega.{arith}
use lib.Dec.{eqb, ltb, lit≤}
use lib.ListN.{length, take, length-take}
use borrow.Author.Tests.{ltb-true, ltb-false, eqb-true, eqb-false, not-false, lt-ltb, le-ltb, le-leb}
use Rattle.std.specs.Prelude.{Option, Some, None}
use Rattle.laws.proofs.Order.{clear}
use Rattle.laws.proofs.Tests.{by_cond, by_test, both_true, neither}
use Rattle.codes.specs.Codes.{filestore_rejection, last_code}
use Rattle.header.specs.Header.{conf_of, fields_of, data_field}
use Rattle.header.specs.declared.CommonPduConfig.{CommonPduConfig}
use Rattle.packet_info.specs.Routing.{is_file_data, kind_of}
use Rattle.packet_info.specs.declared.Target.{Target}
use Rattle.packet_info.proofs.Laws.{header_good}
use Rattle.bodies.specs.Eof.{eof_order}
use Rattle.bodies.specs.Metadata as metadata
use Rattle.filestore.specs.File.{store_limit, file_of}
use Rattle.config.specs.Config.{fits_width, config_broken, handler_of, entries_of, find_in, known_in}
use Rattle.config.specs.declared.Config.{Config}
use Rattle.config.specs.declared.RemoteEntityConfig.{RemoteEntityConfig}
use Rattle.config.proofs.Laws.{known_found}
use Rattle.finished.specs.declared.EntityId.{EntityId}
use Rattle.transfer.specs.Transfer.{is_idle, is_receiving, idle_after, started_of}
use Rattle.transfer.specs.declared.TransferState.{TransferState}
use Rattle.state.specs.State.{name_size, no_name, name_of, fresh_of, busy, settled, begun}
use Rattle.state.specs.Unfit.{conf_fits, codes_fit, record_fits, name_fits, count_below, count_fits, names_fit, count_broken, state_broken, store_unfit, unfit_order, unfit_refusal}
use Rattle.state.specs.declared.Name.{Name}
use Rattle.state.specs.declared.State.{State}
use Rattle.inserting.specs.Insert.{place_order, body_order, body_refusal, segment_placed, segment_taken, file_data_placed, eof_call_order, eof_call_refusal, eof_taken, eof_inserted, Placed}
use Rattle.inserting.specs.Metadata.{body_of, source_name, dest_name, names_order, rest_order}
use Rattle.dest.specs.Metadata.{metadata_order, metadata_refusal, start_of, begun_of}
use Rattle.dest.specs.Call.{Input, poll, packet, Outcome, remote_by, remote_of, faults_of, ran_of, busy_call, refused_of, after_insert, file_data_call, eof_call, start_called, started_call, target_call, entry_refusal, insert_call, poll_call, call_of}
use Rattle.inserting.specs.Insert.{Inserted}
use Rattle.dest.specs.Call.{Called}
use Rattle.inserting.proofs.Laws.{takes-busy}
use Rattle.dest.proofs.Laws.{entry_fit, packet_next}
use Rattle.promises.specs.Reached.{Bytes, InputBytes, Reached, fresh, call}
use Rattle.promises.proofs.Fits.{conf-fits}
use Rattle.promises.proofs.Held.{On, Held, on, over, segment-held, eof-held, busy-held}

-- a state that refusal 21 does not meet, part by part
pub record Sound (s : State) : Type 0 where
  pub config : config_broken s.config ≡ false
  pub short : s.transfer.file.length ≤ store_limit
  pub fits : conf_fits s.transfer.conf ≡ true
  pub codes : codes_fit s.transfer.checksumtype s.transfer.finish.condition ≡ true
  pub names : names_fit (busy s) s.source.len s.dest.len ≡ true
  pub count : count_broken s ≡ false

-- a state is not broken exactly where each part is as it should be
pub parts : (s : State) → state_broken s ≡ false → Sound s
unfolding state_broken record_fits
parts s e =
    let a = neither (config_broken s.config) _ e in
    let b = neither (ltb store_limit s.transfer.file.length) _ a.1 in
    let c = neither (not (record_fits s.transfer)) _ b.1 in
    let fit = both_true (conf_fits s.transfer.conf) _ (not-false _ c.0) in
    let d = neither (not (names_fit (busy s) s.source.len s.dest.len)) _ c.1 in
    record {
      config = a.0;
      short = ltb-false store_limit s.transfer.file.length b.0;
      fits = fit.0;
      codes = fit.1;
      names = not-false _ d.0;
      count = d.1;
    }

pub together : (s : State) → Sound s → state_broken s ≡ false
unfolding state_broken record_fits
together s p = rw (p.config, le-ltb store_limit s.transfer.file.length p.short, p.fits, p.codes, p.names, p.count)

-- the count of a busy state is below its limit, and what is below that fits
busy-fits : (running fits : Bool) → (running && not fits) ≡ false → running ≡ true → fits ≡ true
busy-fits true fits e r = not-false fits e
busy-fits false fits e r = absurd (false≢true r)

fits-busy : (running fits : Bool) → (running ≡ true → fits ≡ true) → (running && not fits) ≡ false
fits-busy true fits h = rw (h refl)
fits-busy false fits h = refl

below_limit : (local : EntityId) (r : Option RemoteEntityConfig) (n : ℕ) → count_below n r ≡ true → n < max 1 (remote_by local r).limit
below_limit local (Some e) n h = ltb-true n (max 1 e.limit) h
below_limit local None n h = absurd (false≢true h)

limit_below : (local : EntityId) (r : Option RemoteEntityConfig) (n k : ℕ) → count_below k r ≡ true → n < max 1 (remote_by local r).limit → count_below n r ≡ true
limit_below local (Some e) n k h b = lt-ltb n (max 1 e.limit) b
limit_below local None n k h b = absurd (false≢true h)

-- the names of a transfer that ends are gone
names_settled : (over : Bool) (source dest : Name) → (over ≡ false → names_fit true source.len dest.len ≡ true) → names_fit (not over) (cond over no_name source).len (cond over no_name dest).len ≡ true
unfolding names_fit no_name
names_settled true source dest h = refl
names_settled false source dest h = h refl

-- what a call leaves is a state that 21 does not meet
abbrev Answers : Called → Type 0
Answers c = state_broken c.state ≡ false

abbrev Leaves : Outcome → Type 0
Leaves o = Answers o.called

module _ (s : State) (sound : Sound s) where
  -- a busy state's source has an entry whose limit the count is below
  count_fits_lem : busy s ≡ true → count_fits (entries_of s.config.table s.config.entries) s.transfer.conf.source s.transfer.check.count ≡ true
  unfolding count_broken
  count_fits_lem r = busy-fits (busy s) _ sound.count r

  -- the state's own transfer goes on where it is busy, and else is over
  own_on : busy s ≡ true → On s s.transfer
  unfolding remote_of count_fits
  own_on r =
      record {
        runs = r;
        same = refl;
        codes = sound.codes;
        short = sound.short;
        below = below_limit s.config.local (find_in (entries_of s.config.table s.config.entries) s.transfer.conf.source) s.transfer.check.count (count_fits_lem r);
      }

  own_by : (b : Bool) → is_idle s.transfer.step ≡ b → Held s s.transfer
  own_by true e = over (record { idle = e; fits = sound.fits; codes = sound.codes; short = sound.short })
  own_by false e = on (own_on (rw e))

  pub own_held : Held s s.transfer
  own_held = own_by (is_idle s.transfer.step) refl

  -- the state with a transfer that goes on or is over
  on_count : (t : TransferState) → On s t → count_fits (entries_of s.config.table s.config.entries) t.conf.source t.check.count ≡ true
  unfolding remote_of count_fits
  on_count t p =
      rw p.same
      (limit_below s.config.local (find_in (entries_of s.config.table s.config.entries) s.transfer.conf.source) t.check.count s.transfer.check.count (count_fits_lem p.runs) p.below)

  -- so it is sound in each part
  settled-parts : (t : TransferState) → Held s t → Sound (settled s t)
  unfolding settled count_broken
  settled-parts t (on p) =
      record {
        config = sound.config;
        short = p.short;
        fits = rw p.same sound.fits;
        codes = p.codes;
        names = names_settled (is_idle t.step) s.source s.dest (λ e. rw p.runs at sound.names);
        count = fits-busy (not (is_idle t.step)) _ (λ e. on_count t p);
      }
  settled-parts t (over p) =
      record {
        config = sound.config;
        short = p.short;
        fits = p.fits;
        codes = p.codes;
        names = names_settled (is_idle t.step) s.source s.dest (λ e. absurd (true≢false (sym p.idle ∙ e)));
        count = rw p.idle;
      }

  settled-sound : (t : TransferState) → Held s t → state_broken (settled s t) ≡ false
  settled-sound t h = together (settled s t) (settled-parts t h)

  -- the busy steps, and a PDU that is refused
  busy-sound : (i : Inserted) (store out : List ℕ) (timer : Bool) → Held s i.transfer → Leaves (busy_call s i store out timer)
  unfolding busy_call ran_of
  busy-sound i store out timer h =
      settled-sound _ (busy-held s (faults_of s.config.handlers) i.transfer store out timer h)

  refused-sound : (i : Inserted) → Held s i.transfer → Answers (refused_of s i)
  unfolding refused_of
  refused-sound i h =
      by_cond Answers (eqb i.answer 19) _ _ (settled-sound i.transfer h) (together s sound)

  after-sound : (i : Inserted) (store out : List ℕ) (timer : Bool) → Held s i.transfer → Leaves (after_insert s i store out timer)
  unfolding after_insert
  after-sound i store out timer h =
      by_cond Leaves (eqb i.answer 0) _ _ (busy-sound i store out timer h) (refused-sound i h)

  -- file data and EOF
  module _ (c : CommonPduConfig) (d : List ℕ) where
    body_busy : (m : Bool) → body_refusal s.transfer c m d ≡ 0 → busy s ≡ true
    unfolding body_refusal body_order place_order
    body_busy m e = takes-busy s.transfer.step (not-false _ (clear (body_order s.transfer c m d) tt e).0)

    pub data_held : (store : List ℕ) → length store ≤ store_limit → (h : ℕ) (notify m : Bool) → Held s (file_data_placed h notify s.transfer store c m d).inserted.transfer
    unfolding file_data_placed segment_placed segment_taken
    data_held store room h notify m =
        let Holds : Placed → Type 0 = λ p. Held s p.inserted.transfer in
        by_test Holds (eqb (body_refusal s.transfer c m d) 0) _ _
        (λ e. segment-held s h s.transfer store _ _ room (own_on (body_busy m (eqb-true (body_refusal s.transfer c m d) 0 e))))
        (λ e. own_held)

    data_sound : (store out : List ℕ) → length store ≤ store_limit → (m timer : Bool) → Leaves (file_data_call s store out c m d timer)
    unfolding file_data_call
    data_sound store out room m timer =
        after-sound _ _ out timer (data_held store room (handler_of s.config.handlers filestore_rejection) s.config.segmentrecv m)

    eof-busy : eof_call_refusal s.transfer c d ≡ 0 → busy s ≡ true
    unfolding eof_call_refusal eof_call_order place_order eof_order
    eof-busy e = takes-busy s.transfer.step (rw (not-false (is_receiving s.transfer.step) (clear (eof_call_order s.transfer c d) tt e).0))

    pub eof-inserted : (notify : Bool) (file : List ℕ) → Held s (eof_inserted (faults_of s.config.handlers) notify s.transfer file c d).transfer
    unfolding eof_inserted eof_taken
    eof-inserted notify file =
        let Holds : Inserted → Type 0 = λ i. Held s i.transfer in
        by_test Holds (eqb (eof_call_refusal s.transfer c d) 0) _ _
        (λ e. eof-held s (faults_of s.config.handlers) s.transfer file _ (own_on (eof-busy (eqb-true (eof_call_refusal s.transfer c d) 0 e))))
        (λ e. own_held)

    eof-sound : (store out : List ℕ) (timer : Bool) → Leaves (eof_call s store out c d timer)
    unfolding eof_call
    eof-sound store out timer =
        after-sound _ _ out timer (eof-inserted s.config.eofrecv (file_of store s.transfer.file.length))

-- a name that is not empty, cut to what a state holds
name_fits_lem : (l : List ℕ) → eqb (length l) 0 ≡ false → name_fits (name_of l).len ≡ true
unfolding name_of
name_fits_lem l e =
    let some = pos_of_ne-zero (eqb-false (length l) 0 e) in
    let n = length-take name_size l in
    rw
    (le-leb 1 (length (take name_size l)) (omega arith), le-leb (length (take name_size l)) name_size (omega arith))

-- the count of a transfer that starts is below any limit
none_below : (r : Option RemoteEntityConfig) (e : RemoteEntityConfig) → r ≡ Some e → count_below 0 r ≡ true
none_below r e h = rw h (lt-ltb 0 (max 1 e.limit) (omega arith))

known_fits : (l : List RemoteEntityConfig) (id : ℕ) → known_in l id ≡ true → count_fits l id 0 ≡ true
unfolding count_fits
known_fits l id h = let k = known_found l id h in none_below (find_in l id) k.0 k.1.0

-- the checksum type of a Metadata is four bits of a byte
type_fits : (c : CommonPduConfig) (d : List ℕ) → (body_of c d).checksumtype ≤ last_code
unfolding metadata.fields_of
type_fits c d = omega arith

-- a Metadata PDU that is taken
module _ (s : State) (sound : Sound s) (c : CommonPduConfig) (fits : conf_fits c ≡ true) (d : List ℕ) where
  begun-parts : metadata_refusal s c d ≡ 0 → Sound (begun_of s c d)
  unfolding metadata_refusal metadata_order rest_order names_order begun_of begun start_of started_of names_fit count_broken
  begun-parts e =
      let k = (clear (metadata_order s c d) tt e).1.1.1 in
      record {
        config = sound.config;
        short = lit≤ tt;
        fits = fits;
        codes = rw (le-leb (body_of c d).checksumtype last_code (type_fits c d));
        names = rw (name_fits_lem (source_name c d) k.1.1.0, name_fits_lem (dest_name c d) k.1.1.1.0);
        count = rw (known_fits (entries_of s.config.table s.config.entries) c.source (not-false _ k.0));
      }

  start-sound : Answers (started_call s c d)
  unfolding started_call start_called
  start-sound =
      by_test Answers (eqb (metadata_refusal s c d) 0) _ _
      (λ e. together (begun_of s c d) (begun-parts (eqb-true (metadata_refusal s c d) 0 e)))
      (λ e. together s sound)

-- a call: refusal 1 leaves a store within its limit, and the header's refusals leave one that is whole
pub unfit-room : (s : State) (size out : ℕ) → unfit_refusal s size out ≡ 0 → size ≤ store_limit
unfolding unfit_refusal unfit_order store_unfit
unfit-room s size out e =
    ltb-false store_limit size (neither (ltb store_limit size) _ (clear (unfit_order s size out) tt e).1.0).0

module _ (s : State) (sound : Sound s) (store out : List ℕ) (timer : Bool) where
  -- by the PDU's kind, with or without a PDU
  target_sound : (k : Target) → length store ≤ store_limit → (c : CommonPduConfig) → conf_fits c ≡ true → (m : Bool) (d : List ℕ) → Leaves (target_call k s store out c m d timer)
  target_sound Target.FileData room c fits m d = data_sound s sound c d store out room m timer
  target_sound Target.Metadata room c fits m d = start-sound s sound c fits d
  target_sound Target.Eof room c fits m d = eof-sound s sound c d store out timer

  insert_sound : (pdu : List ℕ) → Bytes pdu → Leaves (insert_call s store out pdu timer)
  unfolding insert_call
  insert_sound pdu bytes =
      by_test Leaves (eqb (entry_refusal s (length store) (length out) pdu) 0) _ _
      (λ e.
      let taken = eqb-true (entry_refusal s (length store) (length out) pdu) 0 e in
      let fit = entry_fit s (length store) (length out) pdu taken in
      let header = header_good pdu s.config.local.value (sym (packet_next s (length store) (length out) pdu fit) ∙ taken) in
      target_sound (kind_of (is_file_data pdu) (data_field pdu)) (unfit-room s (length store) (length out) fit) (conf_of pdu) (conf-fits pdu bytes header) (fields_of pdu).segmentmetadata (data_field pdu))
      (λ e. together s sound)

  poll_sound : Leaves (poll_call s store out timer)
  unfolding poll_call
  poll_sound =
      by_cond Leaves (eqb (unfit_refusal s (length store) (length out)) 0) _ _
      (by_cond Leaves (busy s) _ _ (busy-sound s sound _ store out timer (own_held s sound)) (together s sound))
      (together s sound)

  call_sound : (i : Input) → InputBytes i → Leaves (call_of s store out i timer)
  unfolding call_of
  call_sound poll bytes = poll_sound
  call_sound (packet pdu) bytes = insert_sound pdu bytes

-- a call on a state that 21 does not meet leaves such a state
pub keeps_sound : (s : State) (store out : List ℕ) (i : Input) (timer : Bool) → InputBytes i → state_broken s ≡ false → state_broken (call_of s store out i timer).called.state ≡ false
keeps_sound s store out i timer bytes e = call_sound s (parts s e) store out timer i bytes

-- a fresh state, part by part
fresh-parts : (g : Config) → config_broken g ≡ false → Sound (fresh_of g)
unfolding fresh_of idle_after no_name names_fit count_broken conf_fits fits_width
fresh-parts g e = record { config = e; short = lit≤ tt; fits = refl; codes = refl; names = refl; count = refl }

-- a fresh state of a configuration that 21 does not meet is one
pub fresh-sound : (g : Config) → config_broken g ≡ false → state_broken (fresh_of g) ≡ false
fresh-sound g e = together (fresh_of g) (fresh-parts g e)

-- so no state that calls lead to is one that 21 meets
pub reached_sound : {s : State} → Reached s → state_broken s ≡ false
reached_sound (fresh g e) = fresh-sound g e
reached_sound (call s store out i timer bytes r) = keeps_sound s store out i timer bytes (reached_sound r)
