-- What a station reports in one event passes: each act of its host, while it settles.
use Rattle.std.proofs.Common.{ℕ, zero, suc, ◌≡◌, ◌==◌, false, List, [], map, Option, Some, None, refl, sym, ap, subst, inl, inr, ◌∙◌, arith}
use Rattle.std.proofs.lemmas.Bool.{cases_Bool}
use Rattle.dt_units.specs.declared.parameters.Params.{Params}
use Rattle.dt_units.specs.declared.endpoints.Flow.{Flow}
use Rattle.dt_units.specs.Limits.{IsWithinLimits}
use Rattle.dt_reports.specs.Told.{Told}
use Rattle.dt_flow_model.specs.declared.acts.RecvKind.{RecvKind}
use Rattle.dt_flow_model.specs.declared.acts.RecvKind.TheVariants as K
use Rattle.dt_flow_model.specs.Acting.{after_act}
use Rattle.dt_flow_model.specs.Flow.{FlowState}
use Rattle.dt_flow_model.specs.Frames.{Mark}
use Rattle.dt_flow_model.specs.ReceiveRecord.{ReceiveRecord, recv_told_of}
use Rattle.dt_flow_model.specs.SendActs.{Act, IsDue, act_of, give_up, meet, record_after, release, renew, resend, send, told_of}
use Rattle.dt_flow_model.specs.Keeping.{IsSegment}
use Rattle.dt_flow_model.specs.SendRecord.{Segment, SendRecord, next_of}
use Rattle.dt_flow_model.proofs.Chains.{all_at}
use Rattle.dt_flow_model.proofs.Chosen.{act_is_due}
use Rattle.dt_flow_model.proofs.Records.{number_fits}
use Rattle.std.specs.List.{All}
use Rattle.dt_world_laws.proofs.Spelled.{cut_segment}
use Rattle.dt_items.specs.declared.item.Item.{Item}
use Rattle.dt_world_model.specs.Host.{Host, HostAct, IsSender, Turn, next_turn, recv_act, send_act, sender_at, told_recv, told_send, turn_of, host_with_sender, work}
use Rattle.dt_world_model.specs.Ledgers.{Ledgers}
use Rattle.dt_world_model.specs.Relay.{Relay, with_outs}
use Rattle.dt_world_model.specs.Script.{play}
use Rattle.dt_world_model.specs.Station.{Station, do_turns, flush_links, go_on, send_off, settle_station, station_with}
use Rattle.dt_world_model.specs.Tables.{same_flow}
use Rattle.dt_world_model.specs.World.{Noted, World, note_told, placed, world_handler}
use Rattle.dt_world_model.proofs.Offers.{IsOf, next_turn_is}
use Rattle.dt_world_model.proofs.Tables.{nat_is}
use Rattle.dt_world_laws.proofs.Books.{Cause}
use Rattle.dt_world_laws.proofs.Flushing.{flush_links_keeps}
use Rattle.dt_world_laws.proofs.Follows.{follows_act}
use Rattle.dt_world_laws.proofs.Good.{Good, reading, relay_leads, stage}
use Rattle.dt_world_laws.proofs.Plays.{do_turn, link_of, play_then}
use Rattle.dt_world_laws.proofs.Settles.{answers_play, off_same}
use Rattle.dt_world_laws.proofs.Turns.{about_send, sender_apart, sender_is, sender_moved, sent_facts, sent_state, state_is, turn_leads}
use Rattle.dt_world_laws.proofs.Views.{views}
use Rattle.dt_audit.specs.declared.facts.Fact.{Fact}
use Rattle.dt_audit.specs.Books.{Book, kept}
use Rattle.dt_audit.specs.LogRows.{FlowLog, by_rows}
use Rattle.dt_audit.specs.Telling.{IsInRange, fact_by}
use Rattle.dt_audit_laws.specs.Books.{GoesOn, IsAbout}
use Rattle.dt_audit_laws.specs.Following.{Followed, FollowsFlow}
use Rattle.dt_audit_laws.specs.Logs.{LogOf, ShowsAlike}
use Rattle.dt_audit_laws.specs.Telling.{changes_told}
use Rattle.dt_audit_laws.proofs.Booking.{report_goes_on}
use Rattle.dt_audit_laws.proofs.Lines.{alike_log, line_goes, nothing_in_range, other_goes, world_fact, world_range}
use Rattle.dt_world_laws.proofs.Alongside.{quiet_by}
use Rattle.dt_audit_laws.proofs.Mute.{IsMute, links_mute, mute_ledgers, mute_log, off_mute}
use Rattle.dt_audit_laws.proofs.Reports.{act_passes}

module _ (w : World) (n : ℕ) where
  -- the lives of a flow are those of its stations, whatever the host does
  pub sender_life_is : (host : Host) (books : Ledgers) (f : Flow) → (views w n host books f).sender_life ≡ (placed w f.from.0).life
  sender_life_is host books f = elim (cases_Bool (n == f.from.0)) [ inl y ↦ rw y (let at : n ≡ f.from.0 = nat_is n f.from.0 y in ap (λ (k : ℕ). (placed w k).life) at) | inr o ↦ rw o refl ]

  pub receiver_life_is : (host : Host) (books : Ledgers) (f : Flow) → (views w n host books f).receiver_life ≡ (placed w f.to.0).life
  receiver_life_is host books f = elim (cases_Bool (n == f.to.0)) [ inl y ↦ rw y (let at : n ≡ f.to.0 = nat_is n f.to.0 y in ap (λ (k : ℕ). (placed w k).life) at) | inr o ↦ rw o refl ]

  -- with the same books a log shows the flows alike, whatever the host does
  pub host_alike : (host host' : Host) (books : Ledgers) (f : Flow) → ShowsAlike (views w n host books f) (views w n host' books f)
  host_alike host host' books f = record {
    taken = refl;
    given = refl;
    run = refl;
    sender = sender_life_is host' books f ∙ sym (sender_life_is host books f);
    receiver = receiver_life_is host' books f ∙ sym (receiver_life_is host books f);
  }

module _ (w : World) (n : ℕ) (cause : Cause) (start : Book FlowLog) where
  -- the log while the station is at work
  abbrev pub Logs : Station Mark → Noted → Type 0
  Logs st d = LogOf w.params (views w n st.host d.ledgers) start d.lines

  -- another host by the same books
  pub host_logs : (host host' : Host) (books : Ledgers) (d : Noted) → LogOf w.params (views w n host books) start d.lines → LogOf w.params (views w n host' books) start d.lines
  host_logs host host' books d log = alike_log w.params (views w n host books) (views w n host' books) start d.lines (host_alike w n host host' books) log

  -- the same host by other books that are the same
  pub books_logs : (host : Host) (books books' : Ledgers) (d : Noted) → books' ≡ books → LogOf w.params (views w n host books) start d.lines → LogOf w.params (views w n host books') start d.lines
  books_logs host books books' d same log = subst (λ (b : Ledgers). LogOf w.params (views w n host b) start d.lines) (sym same) log

  -- what is told says nothing
  pub mute_told : (st : Station Mark) (d : Noted) (host : Host) (told : Told) → IsMute told → Logs st d → LogOf w.params (views w n host (note_told (stage w n cause) told d).ledgers) start (note_told (stage w n cause) told d).lines
  mute_told st d host told mute log =
      let d' = note_told (stage w n cause) told d in
      books_logs host d.ledgers d'.ledgers d' (quiet_by (stage w n cause) _ d.ledgers mute.0)
      (other_goes w.params (views w n st.host d.ledgers) (views w n host d.ledgers) start d.lines _ (world_fact n _ told ∙ mute.1 n) (world_range _ told (nothing_in_range told mute.1)) (host_alike w n st.host host d.ledgers) log)

  -- what is told is about one flow, and passes there
  pub report_logs : (st : Station Mark) (d : Noted) (host : Host) (f : Flow) (told : Told) → Logs st d → IsInRange told → IsAbout f (fact_by n told)
      → ((g : Flow) → same_flow f g ≡ false → views w n host (note_told (stage w n cause) told d).ledgers g ≡ views w n st.host d.ledgers g)
      → ((log : FlowLog) → FollowsFlow w.params (views w n st.host d.ledgers f) log → Followed w.params (views w n st.host d.ledgers f) (views w n host (note_told (stage w n cause) told d).ledgers f) (changes_told n told) log)
      → LogOf w.params (views w n host (note_told (stage w n cause) told d).ledgers) start (note_told (stage w n cause) told d).lines
  report_logs st d host f told log within about others passes =
      let d' = note_told (stage w n cause) told d in
      line_goes w.params (views w n st.host d.ledgers) (views w n host d'.ledgers) start d.lines _ log (world_range _ told within)
      (λ book all.
      subst (λ (fact : Fact). GoesOn w.params (views w n host d'.ledgers) fact book) (sym (world_fact n _ told))
      (report_goes_on w.params (views w n st.host d.ledgers) (views w n host d'.ledgers) book f all others
      (sender_life_is w n host d'.ledgers f ∙ sym (sender_life_is w n st.host d.ledgers f))
      (receiver_life_is w n host d'.ledgers f ∙ sym (receiver_life_is w n st.host d.ledgers f))
      (fact_by n told) about (passes (kept by_rows book.flows f) (all.flows f))))

  -- a frame goes off: nothing is said of it
  pub off_logs : (now : ℕ) (host : Host) (frame : Option (List ℕ)) (relay : Relay Mark) (d : Noted) → LogOf w.params (views w n host d.ledgers) start d.lines
      → let r = play (world_handler (stage w n cause)) (send_off now host frame relay) d in Logs r.1 r.0
  off_logs now host frame relay d log =
      let r = play (world_handler (stage w n cause)) (send_off now host frame relay) d in
      let books = mute_ledgers (stage w n cause) (send_off now host frame relay) d (off_mute now host frame relay) in
      let same : r.1.host ≡ host = answers_play (world_handler (stage w n cause)) (λ (after : Station Mark). after.host ≡ host) (send_off now host frame relay) d (off_same now host frame relay) in
      subst (λ (h : Host). LogOf w.params (views w n h r.0.ledgers) start r.0.lines) (sym same)
      (books_logs host d.ledgers r.0.ledgers r.0 books (mute_log (stage w n cause) w.params (views w n host d.ledgers) start (send_off now host frame relay) d (off_mute now host frame relay) log))

-- AN ACT
said_of_flow : (p : Params) (f : Flow) (n : ℕ) (x : SendRecord) (act : Act) → IsAbout f (fact_by n (told_send f (told_of p x act)))
said_of_flow p f n x (give_up g rest) = refl
said_of_flow p f n x release = tt
said_of_flow p f n x renew = tt
said_of_flow p f n x (resend before g after) = tt
said_of_flow p f n x (send cut rest) = refl
said_of_flow p f n x meet = tt

-- the numbers of what is reported of an act
act_in_range : (p : Params) → IsWithinLimits p → (me : ℕ) (f : Flow) (x : SendRecord) (now : ℕ) (act : Act) → IsSender p me f x → IsDue p now x act → IsInRange (told_send f (told_of p x act))
act_in_range p limits me f x now (give_up g rest) h due =
    let first : IsSegment p g = all_at (IsSegment p) [] rest g (subst (λ (gs : List Segment). All (IsSegment p) gs) due.0 h.kept.segments) in
    (h.flow, omega (arith, first.fits, limits.seg))
act_in_range p limits me f x now release h due = tt
act_in_range p limits me f x now renew h due = tt
act_in_range p limits me f x now (resend before g after) h due = tt
act_in_range p limits me f x now (send cut rest) h due =
    let piece = cut_segment p limits me f x h now cut rest due.0 due.2 in
    (h.flow, number_fits p (next_of x), omega (arith, piece.fits, limits.seg))
act_in_range p limits me f x now meet h due = tt

receiver_mute : (p : Params) (f : Flow) (unread : List Item) (y : ReceiveRecord) (kind : RecvKind) → IsMute (told_recv f (recv_told_of p unread y kind))
receiver_mute p f unread y K.Release = (tt, λ node. refl)
receiver_mute p f unread y K.Ack = (tt, λ node. refl)

module _ (w : World) (n : ℕ) (cause : Cause) (start : Book FlowLog) (limits : IsWithinLimits w.params) where
  send_act_logs : (st : Station Mark) (d : Noted) (good : Good w n cause st d) (f : Flow) (x : SendRecord) (act : Act) (there : sender_at st.host f ≡ Some x) → act_of w.params (reading w n cause) x ≡ Some act → Logs w n cause start st d
      → let t = turn_of w.params (reading w n cause) st.host (send_act f x act) in LogOf w.params (views w n t.host (note_told (stage w n cause) t.told d).ledgers) start (note_told (stage w n cause) t.told d).lines
  send_act_logs st d good f x act there chosen log =
      let p = w.params in
      let s : FlowState = sent_state w n cause limits st d good f x there in
      let after = record_after p (reading w n cause) x act in
      let told = told_send f (told_of p x act) in
      let facts = sent_facts w n cause limits st d good f x there in
      let before = state_is w n cause limits st d good f x there in
      let now : views w n (host_with_sender st.host f after) (note_told (stage w n cause) told d).ledgers f ≡ after_act p s x act =
      sender_moved w n cause limits st d good f x there after told (about_send p f x act) ∙ follows_act p s x refl facts f cause act chosen in
      report_logs w n cause start st d (host_with_sender st.host f after) f told log (act_in_range p limits st.host.me f x (reading w n cause) act (sender_is w n cause limits st d good f x there) (act_is_due p (reading w n cause) x act chosen)) (said_of_flow p f n x act)
      (λ g apart. sender_apart w n cause limits st d good f x there after told g (about_send p f x act) apart)
      (λ flow_log follows.
      subst (λ (t : FlowState). Followed p t (views w n (host_with_sender st.host f after) (note_told (stage w n cause) told d).ledgers f) (changes_told n told) flow_log) (sym before)
      (subst (λ (t : FlowState). Followed p s t (changes_told n told) flow_log) (sym now)
      (act_passes p s f n x act flow_log refl facts chosen (subst (λ (t : FlowState). FollowsFlow p t flow_log) before follows))))

  act_logs : (st : Station Mark) (d : Noted) (a : HostAct) → Good w n cause st d → IsOf w.params (reading w n cause) st.host a → Logs w n cause start st d
      → let t = turn_of w.params (reading w n cause) st.host a in LogOf w.params (views w n t.host (note_told (stage w n cause) t.told d).ledgers) start (note_told (stage w n cause) t.told d).lines
  act_logs st d (send_act f x act) good is log = send_act_logs st d good f x act is.0 is.1 log
  act_logs st d (recv_act f y kind) good is log = mute_told w n cause start st d (turn_of w.params (reading w n cause) st.host (recv_act f y kind)).host _ (receiver_mute w.params f _ y kind) log

  turn_logs : (st : Station Mark) (d : Noted) (turn : Turn) → Good w n cause st d → next_turn w.params (reading w n cause) st.host ≡ Some turn → Logs w n cause start st d
      → let r = play (world_handler (stage w n cause)) (do_turn (reading w n cause) turn st.relay) d in Logs w n cause start r.1 r.0
  turn_logs st d turn good e log =
      let k = next_turn_is w.params (reading w n cause) st.host turn good.host e in
      let told = subst (λ (t : Turn). LogOf w.params (views w n t.host (note_told (stage w n cause) t.told d).ledgers) start (note_told (stage w n cause) t.told d).lines) k.2 (act_logs st d k.0 good k.1 log) in
      off_logs w n cause start (reading w n cause) turn.host turn.frame st.relay (note_told (stage w n cause) turn.told d) told

  -- THE HOST SETTLES
  abbrev Ended : Noted × Station Mark → Type 0
  Ended r = Logs w n cause start r.1 r.0

  go_on_logs : (most : ℕ) (st : Station Mark) (d : Noted) (turn : Option Turn) → Good w n cause st d → next_turn w.params (reading w n cause) st.host ≡ turn → Logs w n cause start st d
      → ((st' : Station Mark) (d' : Noted) → Good w n cause st' d' → Logs w n cause start st' d' → Ended (play (world_handler (stage w n cause)) (do_turns most w.params (reading w n cause) st') d'))
      → Ended (play (world_handler (stage w n cause)) (go_on (do_turns most w.params (reading w n cause)) (reading w n cause) turn st) d)
  go_on_logs most st d None good e log again = log
  go_on_logs most st d (Some turn) good e log again =
      let r = play (world_handler (stage w n cause)) (do_turn (reading w n cause) turn st.relay) d in
      play_then (world_handler (stage w n cause)) Ended (do_turn (reading w n cause) turn st.relay) (do_turns most w.params (reading w n cause)) d
      (again r.1 r.0 (turn_leads w n cause limits st d turn good e).good (turn_logs st d turn good e log))

  do_turns_logs : (most : ℕ) (st : Station Mark) (d : Noted) → Good w n cause st d → Logs w n cause start st d → Ended (play (world_handler (stage w n cause)) (do_turns most w.params (reading w n cause) st) d)
  do_turns_logs zero st d good log = log
  do_turns_logs (suc most) st d good log = go_on_logs most st d (next_turn w.params (reading w n cause) st.host) good refl log (do_turns_logs most)

  pub settle_logs : (st : Station Mark) (d : Noted) → Good w n cause st d → Logs w n cause start st d → Ended (play (world_handler (stage w n cause)) (settle_station w.params (reading w n cause) st) d)
  settle_logs st d good log =
      let links = map link_of st.relay.outs in
      let k = flush_links_keeps w.params (stage w n cause) (views w n st.host d.ledgers) (placed w n).zero links st.relay.outs d good.outs good.copies in
      let r = play (world_handler (stage w n cause)) (flush_links (reading w n cause) links st.relay.outs) d in
      let first = relay_leads w n cause st d (with_outs st.relay r.1) r.0 good k.ledgers k.rest k.copies refl refl in
      let mute = links_mute (reading w n cause) links st.relay.outs in
      let flushed : LogOf w.params (views w n st.host r.0.ledgers) start r.0.lines =
      books_logs w n cause start st.host d.ledgers r.0.ledgers r.0 (mute_ledgers (stage w n cause) (flush_links (reading w n cause) links st.relay.outs) d mute)
      (mute_log (stage w n cause) w.params (views w n st.host d.ledgers) start (flush_links (reading w n cause) links st.relay.outs) d mute log) in
      play_then (world_handler (stage w n cause)) Ended (flush_links (reading w n cause) links st.relay.outs)
      (λ outs. do_turns (work w.params (reading w n cause) st.host) w.params (reading w n cause) (station_with st.host (with_outs st.relay outs))) d
      (do_turns_logs (work w.params (reading w n cause) st.host) (station_with st.host (with_outs st.relay r.1)) r.0 first.good flushed)
