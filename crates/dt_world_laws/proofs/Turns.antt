-- A host's act, its report and the packet that it made: a small step of one flow.
use Rattle.std.proofs.Common.{ℕ, ◌^◌, ◌<◌, zero, suc, ◌≡◌, ◌==◌, Bool, true, false, List, [], ◌∷◌, ◌++◌, map, Option, Some, None, refl, sym, ap, subst, inl, inr, ◌∙◌}
use Rattle.std.specs.List.{All}
use Rattle.dt_items.specs.declared.item.Item.{Item}
use Rattle.dt_units.specs.declared.parameters.Params.{Params}
use Rattle.dt_units.specs.declared.endpoints.Flow.{Flow}
use Rattle.dt_units.specs.Limits.{IsWithinLimits}
use Rattle.dt_reports.specs.Told.{Told}
use Rattle.dt_layout.specs.Spelling.{PacketValue, carrying, gram_spelling}
use Rattle.dt_flow_model.specs.declared.acts.RecvKind.{RecvKind}
use Rattle.dt_flow_model.specs.declared.acts.RecvKind.TheVariants as K
use Rattle.dt_flow_model.specs.Acting.{after_act, after_receiver_act, made_by_act, made_by_receiver, meet_sent}
use Rattle.dt_flow_model.specs.Facts.{AllFit, Facts, Fits, FitsSome}
use Rattle.dt_flow_model.specs.Flow.{FlowState, Packet, ack_place, place_of, sender_reading, receiver_reading, tag_of}
use Rattle.dt_flow_model.specs.Flow as flows
use Rattle.dt_flow_model.specs.SendRecord.{Segment, SendRecord, leads, next_of}
use Rattle.dt_flow_model.specs.SendActs.{Act, IsDue, act_of, give_up, release, renew, resend, send, meet, record_after, told_of}
use Rattle.dt_flow_model.specs.ReceiveRecord.{ReceiveRecord, Receiver, after_recv_act, free_of, recv_due_of, recv_told_of, standing_told}
use Rattle.dt_flow_model.specs.declared.rows.Given.{Given}
use Rattle.dt_flow_model.proofs.Chosen.{act_is_due}
use Rattle.dt_flow_laws.proofs.ArrivalSteps.{recv_act_step}
use Rattle.dt_flow_laws.proofs.Laws.{act_is_step}
use Rattle.dt_flow_laws.proofs.Places.{tag_after}
use Rattle.dt_world_model.specs.Tables.{same_flow, look}
use Rattle.dt_flow_model.specs.Frames.{Mark, ack_packet, data_packet, meet_packet, flow_in, flow_of, forth, frame_of_act, marked_packet, value_in}
use Rattle.dt_world_model.specs.Host.{Host, HostAct, send_act, recv_act, IsHost, work, IsSender, IsReceiver, Turn, next_turn, receiver_at, sender_at, told_recv, told_send, turn_of, host_with_receiver, host_with_sender}
use Rattle.dt_flow_model.specs.Keeping.{HasNumber, IsSegment}
use Rattle.dt_flow_model.specs.Frames.{recv_frame}
use Rattle.dt_world_model.specs.Relay.{with_outs}
use Rattle.dt_world_model.specs.Script.{play}
use Rattle.dt_world_model.specs.Station.{Station, station_with, do_turns, flush_links, go_on, settle_station}
use Rattle.dt_world_laws.proofs.Books.{Book, Cause, book_after, book_of, books_after, flow_state, place_brought, place_in, place_of_sent}
use Rattle.dt_world_model.specs.World.{World, Noted, world_handler, note_told, placed}
use Rattle.dt_world_model.specs.WorldFacts.{IsWaiting}
use Rattle.dt_world_laws.proofs.Hosts.{receiver_written, sender_written, standing_is}
use Rattle.dt_world_model.proofs.Tables.{all_look, flow_is, flow_self, nat_self}
use Rattle.dt_world_laws.proofs.Views.{IsAbout, begins_here, book_told, book_told_other, ends_here, flow_by, near_receiver, near_sender, near_or_receiver, receiver_set, receiver_set_other, near_or_sender, sender_set, sender_set_other, views}
use Rattle.dt_flow_model.specs.Numbering.{number_of}
use Rattle.dt_world_laws.proofs.Follows.{book_in, follows_act, sender_moves}
use Rattle.dt_world_laws.proofs.Received.{follows_receiver, receiver_moves}
use Rattle.dt_world_laws.proofs.Frames.{CanBeSpelled, made_packet, spelled_reads}
use Rattle.dt_world_laws.proofs.Spelled.{ack_spelled, data_spelled, meet_spelled, record_kept, cut_segment}
use Rattle.dt_flow_model.proofs.Chains.{all_at}
use Rattle.dt_flow_laws.proofs.Records.{recv_act_kept}
use Rattle.dt_world_model.proofs.Offers.{IsOf, next_turn_is}
use Rattle.dt_world_laws.proofs.Good.{CanGo, Good, Kept, Leads, Moves, good_moves, leads_then, moves_lifts, moves_on, step_keeps, reading, relay_leads, send_off_leads, stage, stays}
use Rattle.dt_world_laws.proofs.Flushing.{flush_links_keeps}
use Rattle.dt_world_laws.proofs.Plays.{do_turn, link_of, play_then}

-- what is reported of an act is about its flow
pub about_send : (p : Params) (f : Flow) (x : SendRecord) (act : Act) → IsAbout f (told_send f (told_of p x act))
about_send p f x (give_up g rest) = inl (_, refl)
about_send p f x release = inr refl
about_send p f x renew = inr refl
about_send p f x (resend before g after) = inl (_, refl)
about_send p f x (send cut rest) = inl (_, refl)
about_send p f x meet = inl (_, refl)

pub about_recv : (p : Params) (f : Flow) (unread : List Item) (y : ReceiveRecord) (kind : RecvKind) → IsAbout f (told_recv f (recv_told_of p unread y kind))
about_recv p f unread y K.Release = inr refl
about_recv p f unread y K.Ack = inr refl

module _ (w : World) (n : ℕ) (cause : Cause) where
  -- a frame of a packet whose tag is its place can go
  pub can_go : (host : Host) (d : Noted) (from to : ℕ) (v : PacketValue) (place : ℕ) → CanBeSpelled w.params.mpl from to v → place_in (stage w n cause) d.ledgers host (flow_of from to v) v ≡ place
      → FitsSome w.params (views w n host d.ledgers (flow_of from to v)) (marked_packet (record { birth = w.now; place = place }) v) → CanGo w n cause host d (Some (gram_spelling (carrying w.params.mpl from to v)))
  can_go host d from to v place spelled at fits =
      let bytes = gram_spelling (carrying w.params.mpl from to v) in
      let r = spelled_reads w.params.mpl from to v spelled in
      let told : place_in (stage w n cause) d.ledgers host (flow_in bytes) (value_in bytes) ≡ place =
      ap (λ (u : PacketValue). place_in (stage w n cause) d.ledgers host (flow_in bytes) u) r.value ∙ ap (λ (g : Flow). place_in (stage w n cause) d.ledgers host g v) r.flow ∙ at in
      subst (λ (k : ℕ). IsWaiting w.params w.now (placed w n).zero (views w n host d.ledgers) (record { parcel = record { octets = bytes; tag = record { birth = w.now; place = k } }; since = reading w n cause })) (sym told)
      (made_packet w.params w.now (placed w n).zero from to (views w n host d.ledgers) v place spelled fits)

-- THE SENDING SIDE

module _ (w : World) (n : ℕ) (cause : Cause) (limits : IsWithinLimits w.params) (st : Station Mark) (d : Noted) (good : Good w n cause st d)
    (f : Flow) (x : SendRecord) (there : sender_at st.host f ≡ Some x) where
  abbrev p : Params
  p = w.params

  pub sender_is : IsSender p st.host.me f x
  sender_is = all_look Flow SendRecord same_flow flow_self flow_is (IsSender p st.host.me) f x st.host.senders there good.host.senders

  pub here : (n == f.from.0) ≡ true
  here = let from : f.from.0 ≡ n = sender_is.from ∙ good.me in rw from (nat_self n)

  -- the flow as it is
  abbrev pub sent_state : FlowState
  sent_state = flow_state w.now (near_sender w n st.host.until (Some x)) (near_or_receiver w n st.host.until (receiver_at st.host f) f) (book_of d.ledgers f)

  pub state_is : views w n st.host d.ledgers f ≡ sent_state
  state_is =
      begins_here w n st.host.until (sender_at st.host f) (receiver_at st.host f) (book_of d.ledgers f) f here
      ∙ ap (λ (o : Option SendRecord). flow_state w.now (near_sender w n st.host.until o) (near_or_receiver w n st.host.until (receiver_at st.host f) f) (book_of d.ledgers f)) there

  pub sent_facts : Facts p sent_state
  sent_facts = subst (λ (s : FlowState). Facts p s) state_is (good.flows f)

  -- the flow when the host has another record of it, or none, and something was reported about it
  pub sender_moved : (after : Option SendRecord) (told : Told) → IsAbout f told
      → views w n (host_with_sender st.host f after) (note_told (stage w n cause) told d).ledgers f ≡ sender_moves sent_state after (book_after w.params w.now (placed w n).life cause told (book_in sent_state))
  sender_moved after told about =
      let host = host_with_sender st.host f after in
      let books = books_after w.params w.now (placed w n).life cause told d.ledgers in
      begins_here w n host.until (sender_at host f) (receiver_at host f) (book_of books f) f here
      ∙ ap (λ (o : Option SendRecord). flow_state w.now (near_sender w n st.host.until o) (near_or_receiver w n st.host.until (receiver_at st.host f) f) (book_of books f)) (sender_set st.host f after good.host.one_sender)
      ∙ ap (λ (b : Book). flow_state w.now (near_sender w n st.host.until after) (near_or_receiver w n st.host.until (receiver_at st.host f) f) b) (book_told w.params w.now (placed w n).life cause told d.ledgers f about)

  pub sender_apart : (after : Option SendRecord) (told : Told) (g : Flow) → IsAbout f told → same_flow f g ≡ false
      → views w n (host_with_sender st.host f after) (note_told (stage w n cause) told d).ledgers g ≡ views w n st.host d.ledgers g
  sender_apart after told g about apart =
      ap (λ (o : Option SendRecord). flow_by w n st.host.until o (receiver_at st.host g) (book_of (books_after w.params w.now (placed w n).life cause told d.ledgers) g) g) (sender_set_other st.host f after g apart)
      ∙ ap (λ (b : Book). flow_by w n st.host.until (sender_at st.host g) (receiver_at st.host g) b g) (book_told_other w.params w.now (placed w n).life cause told d.ledgers f g about apart)

  pub host_with : (after : Option SendRecord) → ((y : SendRecord) → after ≡ Some y → IsSender p st.host.me f y) → IsHost p (host_with_sender st.host f after)
  host_with after is = sender_written p st.host f after good.host is

  module _ (act : Act) (chosen : act_of p (reading w n cause) x ≡ Some act) where
    abbrev after : Option SendRecord
    after = record_after p (reading w n cause) x act

    abbrev told : Told
    told = told_send f (told_of p x act)

    abbrev host : Host
    host = host_with_sender st.host f after

    abbrev noted : Noted
    noted = note_told (stage w n cause) told d

    due : IsDue p (reading w n cause) x act
    due = act_is_due p (reading w n cause) x act chosen

    view_is : views w n host noted.ledgers f ≡ after_act p sent_state x act
    view_is = sender_moved after told (about_send p f x act) ∙ follows_act p sent_state x refl sent_facts f cause act chosen

    kept_here : Kept p sent_state (after_act p sent_state x act) (made_by_act p sent_state x act)
    kept_here = step_keeps p sent_state (after_act p sent_state x act) [] (made_by_act p sent_state x act) limits (act_is_step p sent_state x act limits refl chosen) sent_facts tt

    moves : Moves p (views w n st.host d.ledgers) (views w n host noted.ledgers) f (made_by_act p sent_state x act)
    moves = record {
      kept = subst (λ (s : FlowState). Kept p s (views w n host noted.ledgers f) (made_by_act p sent_state x act)) (sym state_is) (subst (λ (s : FlowState). Kept p sent_state s (made_by_act p sent_state x act)) (sym view_is) kept_here);
      others = λ g apart. sender_apart after told g (about_send p f x act) apart;
    }

    -- the place that is told for a number is the tag
    place_told_is : (y : SendRecord) (number : ℕ) → after ≡ Some y → place_of_sent p (book_of noted.ledgers f) number (sender_at host f) ≡ tag_of p (after_act p sent_state x act) y number
    place_told_is y number is =
        ap (λ (o : Option SendRecord). place_of_sent p (book_of noted.ledgers f) number o) (sender_set st.host f after good.host.one_sender ∙ is)
        ∙ ap (λ (s : FlowState). tag_of p s y number) view_is

    -- the packet that was made fits, with the octets as they are read
    packet_fits : (q : Packet) → made_by_act p sent_state x act ≡ q ∷ [] → Fits p (views w n host noted.ledgers f) q
    packet_fits q made = let fit : AllFit p (views w n host noted.ledgers f) (q ∷ []) = subst (λ (qs : List Packet). AllFit p (views w n host noted.ledgers f) qs) made moves.kept.made_fit in fit.0

    segment_goes : (g : Segment) (drf : Bool) (y : SendRecord) → after ≡ Some y → IsSegment p g → (q : Packet) → q ≡ record { kind = flows.Data drf g.items; number = number_of p g.offset; birth = w.now; place = place_of sent_state x g.offset } → made_by_act p sent_state x act ≡ q ∷ []
        → CanGo w n cause host noted (Some (forth p f (data_packet f (number_of p g.offset) drf g.items)))
    segment_goes g drf y is seg q what made =
        let tag : q.place ≡ tag_of p (after_act p sent_state x act) y q.number = tag_after p sent_state x y act q limits refl sent_facts chosen is made in
        let number : q.number ≡ number_of p g.offset = ap (λ (k : Packet). k.number) what in
        let place : place_of_sent p (book_of noted.ledgers f) (number_of p g.offset) (sender_at host f) ≡ q.place = place_told_is y (number_of p g.offset) is ∙ sym (ap (λ (k : ℕ). tag_of p (after_act p sent_state x act) y k) number) ∙ sym tag in
        let at : q.place ≡ place_of sent_state x g.offset = ap (λ (k : Packet). k.place) what in
        let fits : Fits p (views w n host noted.ledgers f) (record { kind = flows.Data drf g.items; number = number_of p g.offset; birth = w.now; place = place_of sent_state x g.offset }) = subst (λ (k : Packet). Fits p (views w n host noted.ledgers f) k) what (packet_fits q made) in
        can_go w n cause host noted f.from.0 f.to.0 (data_packet f (number_of p g.offset) drf g.items) (place_of sent_state x g.offset) (data_spelled p limits st.host.me f x sender_is g drf seg) (place ∙ at)
        (subst (λ (is : List Item). Fits p (views w n host noted.ledgers f) (record { kind = flows.Data drf is; number = number_of p g.offset; birth = w.now; place = place_of sent_state x g.offset })) seg.piece fits)

    meet_goes : (y : SendRecord) → after ≡ Some y → made_by_act p sent_state x act ≡ meet_sent p sent_state x ∷ [] → CanGo w n cause host noted (Some (forth p f (meet_packet f (number_of p x.left))))
    meet_goes y is made =
        let tag : place_of sent_state x x.left ≡ tag_of p (after_act p sent_state x act) y (number_of p x.left) = tag_after p sent_state x y act (meet_sent p sent_state x) limits refl sent_facts chosen is made in
        let place : place_of_sent p (book_of noted.ledgers f) (number_of p x.left) (sender_at host f) ≡ place_of sent_state x x.left = place_told_is y (number_of p x.left) is ∙ sym tag in
        can_go w n cause host noted f.from.0 f.to.0 (meet_packet f (number_of p x.left)) (place_of sent_state x x.left) (meet_spelled p limits st.host.me f x sender_is) place (packet_fits (meet_sent p sent_state x) made)

    moved : Good w n cause (station_with host st.relay) noted
    moved = good_moves w n cause st d noted host f (made_by_act p sent_state x act) good (host_with after (λ y e. record_kept p limits st.host.me f x sender_is (reading w n cause) act y due e)) good.me refl moves

    pub sender_leads : CanGo w n cause host noted (frame_of_act p f x act) → Leads w n cause st d (play (world_handler (stage w n cause)) (do_turn (reading w n cause) (turn_of p (reading w n cause) st.host (send_act f x act)) st.relay) d)
    sender_leads can =
        let first : Leads w n cause st d (noted, station_with host st.relay) =
        record { good = moved; on = moves_on p (views w n st.host d.ledgers) (views w n host noted.ledgers) f (made_by_act p sent_state x act) moves; lifts = moves_lifts p (views w n st.host d.ledgers) (views w n host noted.ledgers) f (made_by_act p sent_state x act) moves; until = refl; ins = refl; routes = refl } in
        leads_then w n cause st d (noted, station_with host st.relay) _ first (send_off_leads w n cause (frame_of_act p f x act) (station_with host st.relay) noted moved can)

  segment_at : (act : Act) → act_of p (reading w n cause) x ≡ Some act → (before rest : List Segment) (g : Segment) → x.outstanding ≡ before ++ g ∷ rest → IsSegment p g
  segment_at act chosen before rest g e = all_at (IsSegment p) before rest g (subst (λ (gs : List Segment). All (IsSegment p) gs) e sender_is.kept.segments)

  send_can_go : (act : Act) (chosen : act_of p (reading w n cause) x ≡ Some act) → CanGo w n cause (host act chosen) (noted act chosen) (frame_of_act p f x act)
  send_can_go (give_up g rest) chosen = tt
  send_can_go release chosen = tt
  send_can_go renew chosen = tt
  send_can_go (resend before g rest) chosen =
      segment_goes (resend before g rest) chosen g (leads x g.offset) _ refl (segment_at (resend before g rest) chosen before rest g (due (resend before g rest) chosen).0) _ refl refl
  send_can_go (send cut rest) chosen =
      let is = due (send cut rest) chosen in
      let g : Segment = record { offset = next_of x; items = cut; first = reading w n cause; last = reading w n cause } in
      segment_goes (send cut rest) chosen g (leads x (next_of x)) _ refl (cut_segment p limits st.host.me f x sender_is (reading w n cause) cut rest is.0 is.2) _ refl refl
  send_can_go meet chosen = meet_goes meet chosen _ refl refl

  pub send_act_leads : (act : Act) → act_of p (reading w n cause) x ≡ Some act → Leads w n cause st d (play (world_handler (stage w n cause)) (do_turn (reading w n cause) (turn_of p (reading w n cause) st.host (send_act f x act)) st.relay) d)
  send_act_leads act chosen = sender_leads act chosen (send_can_go act chosen)

-- THE RECEIVING SIDE

module _ (w : World) (n : ℕ) (cause : Cause) (limits : IsWithinLimits w.params) (st : Station Mark) (d : Noted) (good : Good w n cause st d)
    (f : Flow) (here : (n == f.to.0) ≡ true) where
  abbrev p' : Params
  p' = w.params

  abbrev pub held : Receiver
  held = receiver_at st.host f

  abbrev pub given_state : FlowState
  given_state = flow_state w.now (near_or_sender w n st.host.until (sender_at st.host f) f) (near_receiver w n st.host.until held) (book_of d.ledgers f)

  pub given_is : views w n st.host d.ledgers f ≡ given_state
  given_is = ends_here w n st.host.until (sender_at st.host f) held (book_of d.ledgers f) f here

  pub given_facts_now : Facts p' given_state
  given_facts_now = subst (λ (s : FlowState). Facts p' s) given_is (good.flows f)

  pub receiver_moved : (after : Receiver) (told : Told) → IsAbout f told
      → views w n (host_with_receiver st.host f after) (note_told (stage w n cause) told d).ledgers f ≡ receiver_moves given_state after (book_after w.params w.now (placed w n).life cause told (book_in given_state))
  receiver_moved after told about =
      let host' = host_with_receiver st.host f after in
      let books = books_after w.params w.now (placed w n).life cause told d.ledgers in
      ends_here w n host'.until (sender_at host' f) (receiver_at host' f) (book_of books f) f here
      ∙ ap (λ (r : Receiver). flow_state w.now (near_or_sender w n st.host.until (sender_at st.host f) f) (near_receiver w n st.host.until r) (book_of books f)) (receiver_set st.host f after good.host.one_receiver)
      ∙ ap (λ (b : Book). flow_state w.now (near_or_sender w n st.host.until (sender_at st.host f) f) (near_receiver w n st.host.until after) b) (book_told w.params w.now (placed w n).life cause told d.ledgers f about)

  pub receiver_apart : (after : Receiver) (told : Told) (g : Flow) → IsAbout f told → same_flow f g ≡ false
      → views w n (host_with_receiver st.host f after) (note_told (stage w n cause) told d).ledgers g ≡ views w n st.host d.ledgers g
  receiver_apart after told g about apart =
      ap (λ (r : Receiver). flow_by w n st.host.until (sender_at st.host g) r (book_of (books_after w.params w.now (placed w n).life cause told d.ledgers) g) g) (receiver_set_other st.host f after g apart)
      ∙ ap (λ (b : Book). flow_by w n st.host.until (sender_at st.host g) (receiver_at st.host g) b g) (book_told_other w.params w.now (placed w n).life cause told d.ledgers f g about apart)

  pub host_receives : (after : Receiver) → IsReceiver p' st.host.me f after → IsHost p' (host_with_receiver st.host f after)
  host_receives after is = receiver_written p' st.host f after good.host is

  -- a step of the flow, by the receiver and what was told
  pub receiver_steps : (after : Receiver) (told : Told) (s' : FlowState) (made : List Packet) → IsAbout f told → IsReceiver p' st.host.me f after
      → receiver_moves given_state after (book_after w.params w.now (placed w n).life cause told (book_in given_state)) ≡ s' → Kept p' given_state s' made
      → Good w n cause (station_with (host_with_receiver st.host f after) st.relay) (note_told (stage w n cause) told d) × Moves p' (views w n st.host d.ledgers) (views w n (host_with_receiver st.host f after) (note_told (stage w n cause) told d).ledgers) f made
  receiver_steps after told s' made about is e k =
      let books = books_after w.params w.now (placed w n).life cause told d.ledgers in
      let v = views w n (host_with_receiver st.host f after) books in
      let view_is : v f ≡ s' = receiver_moved after told about ∙ e in
      let m : Moves p' (views w n st.host d.ledgers) v f made =
      record {
        kept = subst (λ (s : FlowState). Kept p' s (v f) made) (sym given_is) (subst (λ (s : FlowState). Kept p' given_state s made) (sym view_is) k);
        others = λ g apart. receiver_apart after told g about apart;
      } in
      (good_moves w n cause st d (note_told (stage w n cause) told d) (host_with_receiver st.host f after) f made good (host_receives after is) good.me refl m, m)

  -- an act of the receiver
  module _ (y : ReceiveRecord) (kind : RecvKind) (moment : ℕ) (stands : held.standing ≡ Some y) (due' : recv_due_of p' (reading w n cause) (Some y) ≡ Some (kind, moment)) (is : IsReceiver p' st.host.me f held) where
    abbrev after' : Receiver
    after' = after_recv_act p' held kind

    abbrev told' : Told
    told' = told_recv f (recv_told_of p' held.unread y kind)

    number_kept : (k : RecvKind) → IsReceiver p' st.host.me f (after_recv_act p' held k)
    number_kept k = record { flow = is.flow; to = is.to; kept = recv_act_kept p' held k is.kept }

    recv_kept : Kept p' given_state (after_receiver_act p' given_state kind) (made_by_receiver p' given_state y kind)
    recv_kept = step_keeps p' given_state (after_receiver_act p' given_state kind) [] (made_by_receiver p' given_state y kind) limits
        (recv_act_step p' given_state y kind moment stands (subst (λ (o : Option ReceiveRecord). recv_due_of p' (reading w n cause) o ≡ Some (kind, moment)) (sym stands) due')) given_facts_now tt

    receiver_after : Good w n cause (station_with (host_with_receiver st.host f after') st.relay) (note_told (stage w n cause) told' d) × Moves p' (views w n st.host d.ledgers) (views w n (host_with_receiver st.host f after') (note_told (stage w n cause) told' d).ledgers) f (made_by_receiver p' given_state y kind)
    receiver_after = receiver_steps after' told' (after_receiver_act p' given_state kind) (made_by_receiver p' given_state y kind) (about_recv p' f held.unread y kind) (number_kept kind) (follows_receiver p' given_state f cause y kind) recv_kept

  expected_place : (standing : Option ReceiveRecord) (y : ReceiveRecord) (given : List Given) (a b free : ℕ) → standing ≡ Some y → ack_place (standing_told standing free) given y.expected a ≡ ack_place (Some y) given y.expected b
  expected_place None y given a b free e = absurd cc
  expected_place (Some z) y given a b free e = let same : z ≡ y = cc in subst (λ (k : ReceiveRecord). ack_place (standing_told (Some k) free) given y.expected a ≡ ack_place (Some y) given y.expected b) (sym same) (rw (nat_self y.expected) refl)

  number_of_standing : (standing : Option ReceiveRecord) (y : ReceiveRecord) → standing ≡ Some y → HasNumber standing → y.expected < 2 ^ 32
  number_of_standing standing y e h = let k : HasNumber (Some y) = subst (λ (o : Option ReceiveRecord). HasNumber o) e h in k

  recv_can_go : (y : ReceiveRecord) (kind : RecvKind) (moment : ℕ) (stands : held.standing ≡ Some y) (due' : recv_due_of p' (reading w n cause) (Some y) ≡ Some (kind, moment)) (is : IsReceiver p' st.host.me f held)
      → CanGo w n cause (host_with_receiver st.host f (after_recv_act p' held kind)) (note_told (stage w n cause) (told_recv f (recv_told_of p' held.unread y kind)) d) (recv_frame p' f (recv_told_of p' held.unread y kind))
  recv_can_go y K.Release moment stands due' is = tt
  recv_can_go y K.Ack moment stands due' is =
      let free = free_of p' held.unread in
      let host' = host_with_receiver st.host f (after_recv_act p' held K.Ack) in
      let told = told_recv f (recv_told_of p' held.unread y K.Ack) in
      let noted' = note_told (stage w n cause) told d in
      let m = (receiver_after y K.Ack moment stands due' is).1 in
      let fit : AllFit p' (views w n host' noted'.ledgers f) (made_by_receiver p' given_state y K.Ack) = m.kept.made_fit in
      let set : receiver_at host' f ≡ after_recv_act p' held K.Ack = receiver_set st.host f (after_recv_act p' held K.Ack) good.host.one_receiver in
      let book : book_of noted'.ledgers f ≡ book_of d.ledgers f = book_told w.params w.now (placed w n).life cause told d.ledgers f (about_recv p' f held.unread y K.Ack) in
      let place : ack_place (receiver_at host' f).standing (book_of noted'.ledgers f).given y.expected (place_brought cause) ≡ ack_place (Some y) (book_of d.ledgers f).given y.expected 0 =
      ap (λ (r : Receiver). ack_place r.standing (book_of noted'.ledgers f).given y.expected (place_brought cause)) set
      ∙ ap (λ (b : Book). ack_place (standing_told held.standing free) b.given y.expected (place_brought cause)) book
      ∙ expected_place held.standing y (book_of d.ledgers f).given (place_brought cause) 0 free stands in
      can_go w n cause host' noted' f.to.0 f.from.0 (ack_packet f y.expected free) (ack_place (Some y) (book_of d.ledgers f).given y.expected 0)
      (ack_spelled p' f held.unread y.expected limits is.flow (number_of_standing held.standing y stands is.kept.expected)) place fit.0

  pub recv_act_leads : (y : ReceiveRecord) (kind : RecvKind) (moment : ℕ) → held.standing ≡ Some y → recv_due_of p' (reading w n cause) (Some y) ≡ Some (kind, moment) → IsReceiver p' st.host.me f held
      → Leads w n cause st d (play (world_handler (stage w n cause)) (do_turn (reading w n cause) (turn_of p' (reading w n cause) st.host (recv_act f y kind)) st.relay) d)
  recv_act_leads y kind moment stands due' is =
      let host' = host_with_receiver st.host f (after_recv_act p' held kind) in
      let noted' = note_told (stage w n cause) (told_recv f (recv_told_of p' held.unread y kind)) d in
      let g = receiver_after y kind moment stands due' is in
      let first : Leads w n cause st d (noted', station_with host' st.relay) =
      record { good = g.0; on = moves_on p' (views w n st.host d.ledgers) (views w n host' noted'.ledgers) f (made_by_receiver p' given_state y kind) g.1; lifts = moves_lifts p' (views w n st.host d.ledgers) (views w n host' noted'.ledgers) f (made_by_receiver p' given_state y kind) g.1; until = refl; ins = refl; routes = refl } in
      leads_then w n cause st d (noted', station_with host' st.relay) _ first (send_off_leads w n cause (recv_frame p' f (recv_told_of p' held.unread y kind)) (station_with host' st.relay) noted' g.0 (recv_can_go y kind moment stands due' is))

-- THE HOST'S TURNS

module _ (w : World) (n : ℕ) (cause : Cause) (limits : IsWithinLimits w.params) where
  act_leads : (st : Station Mark) (d : Noted) (a : HostAct) → Good w n cause st d → IsOf w.params (reading w n cause) st.host a
      → Leads w n cause st d (play (world_handler (stage w n cause)) (do_turn (reading w n cause) (turn_of w.params (reading w n cause) st.host a) st.relay) d)
  act_leads st d (send_act f x act) good is = send_act_leads w n cause limits st d good f x is.0 act is.1
  act_leads st d (recv_act f y kind) good is =
      let r = standing_is w.params st.host f y (look same_flow f st.host.receivers) good.host.receivers refl is.0 in
      let to : f.to.0 ≡ n = r.to ∙ good.me in
      recv_act_leads w n cause limits st d good f (rw to (nat_self n)) y kind is.1 is.0 is.2 r

  pub turn_leads : (st : Station Mark) (d : Noted) (turn : Turn) → Good w n cause st d → next_turn w.params (reading w n cause) st.host ≡ Some turn
      → Leads w n cause st d (play (world_handler (stage w n cause)) (do_turn (reading w n cause) turn st.relay) d)
  turn_leads st d turn good e =
      let k = next_turn_is w.params (reading w n cause) st.host turn good.host e in
      subst (λ (t : Turn). Leads w n cause st d (play (world_handler (stage w n cause)) (do_turn (reading w n cause) t st.relay) d)) k.2 (act_leads st d k.0 good k.1)

  go_on_leads : (most : ℕ) (st : Station Mark) (d : Noted) (turn : Option Turn) → Good w n cause st d → next_turn w.params (reading w n cause) st.host ≡ turn
      → ((st' : Station Mark) (d' : Noted) → Good w n cause st' d' → Leads w n cause st' d' (play (world_handler (stage w n cause)) (do_turns most w.params (reading w n cause) st') d'))
      → Leads w n cause st d (play (world_handler (stage w n cause)) (go_on (do_turns most w.params (reading w n cause)) (reading w n cause) turn st) d)
  go_on_leads most st d None good e again = stays w n cause st d good
  go_on_leads most st d (Some turn) good e again =
      let r = play (world_handler (stage w n cause)) (do_turn (reading w n cause) turn st.relay) d in
      let first = turn_leads st d turn good e in
      play_then (world_handler (stage w n cause)) (Leads w n cause st d) (do_turn (reading w n cause) turn st.relay) (do_turns most w.params (reading w n cause)) d
      (leads_then w n cause st d r _ first (again r.1 r.0 first.good))

  pub do_turns_leads : (most : ℕ) (st : Station Mark) (d : Noted) → Good w n cause st d → Leads w n cause st d (play (world_handler (stage w n cause)) (do_turns most w.params (reading w n cause) st) d)
  do_turns_leads zero st d good = stays w n cause st d good
  do_turns_leads (suc most) st d good = go_on_leads most st d (next_turn w.params (reading w n cause) st.host) good refl (do_turns_leads most)

  pub settle_leads : (st : Station Mark) (d : Noted) → Good w n cause st d → Leads w n cause st d (play (world_handler (stage w n cause)) (settle_station w.params (reading w n cause) st) d)
  settle_leads st d good =
      let links = map link_of st.relay.outs in
      let k = flush_links_keeps w.params (stage w n cause) (views w n st.host d.ledgers) (placed w n).zero links st.relay.outs d good.outs good.copies in
      let r = play (world_handler (stage w n cause)) (flush_links (reading w n cause) links st.relay.outs) d in
      let first = relay_leads w n cause st d (with_outs st.relay r.1) r.0 good k.ledgers k.rest k.copies refl refl in
      play_then (world_handler (stage w n cause)) (Leads w n cause st d) (flush_links (reading w n cause) links st.relay.outs)
      (λ outs. do_turns (work w.params (reading w n cause) st.host) w.params (reading w n cause) (station_with st.host (with_outs st.relay outs))) d
      (leads_then w n cause st d (r.0, station_with st.host (with_outs st.relay r.1)) _ first (do_turns_leads (work w.params (reading w n cause) st.host) (station_with st.host (with_outs st.relay r.1)) r.0 first.good))
