-- The receivers of a host after a change of one.
use Rattle.std.proofs.Common.{ℕ, Bool, ◌≡◌, ◌≢◌, ◌<◌, ◌≤◌, ◌++◌, List, [], ◌∷◌, length, set, Option, Some, None, refl, sym, ap, subst, ◌∙◌, arith}
use Rattle.std.specs.Prelude.{Err, drop, IfSome, Result, slice_index_or, unwrap_or}
use Rattle.std.specs.Map.{lookup, remove_entry, set_value}
use Rattle.dt_units.specs.declared.endpoints.Flow.{Flow}
use Rattle.dt_units.specs.declared.parameters.Params.{Params}
use Rattle.dt_units.specs.Moments.{earlier}
use Rattle.indexmap.specs.IndexMap.{insert_entry}
use Rattle.dt_items.specs.declared.item.Item.{Item}
use Rattle.dt_flow_model.specs.declared.arrivals.Action.TheVariants.{Make}
use Rattle.dt_items.specs.declared.piece.Piece.{Piece}
use Rattle.dt_items.specs.Unread.{first_piece, octets_of, piece_told}
use Rattle.dt_flow_model.specs.declared.acts.RecvAct.{RecvAct}
use Rattle.dt_flow_model.specs.declared.acts.RecvKind.{RecvKind}
use Rattle.dt_flow_model.specs.declared.acts.RecvKind.TheVariants.{Release, Ack}
use Rattle.dt_flow_model.specs.declared.moments.RecvMoments.{RecvMoments}
use Rattle.dt_flow_model.specs.ReceiveRecord.{ReceiveRecord, Receiver, action_on, after_data, after_read, answer_to_data, after_recv_act, recv_due_of, recv_moment, recv_told_of, recv_wake_of}
use Rattle.dt_flow_model.specs.declared.arrivals.Arrived.{Arrived}
use Rattle.dt_flow_model.specs.Frames.{recv_frame, reply_frame}
use Rattle.dt_layout.specs.Carried.{IsGram}
use Rattle.dt_recv.specs.Receivers.{ReceiverValue}
use Rattle.dt_timers.specs.Deadlines.{HasNoMoment, IsFirst}
use Rattle.dt_world_model.specs.Host.{Host, host_with_receiver, no_receiver, read_octets}
use Rattle.dt_world_model.specs.Tables.{earliest, look, same_flow}
use Rattle.dt_host.specs.declared.dues.DueKind.TheVariants as due
use Rattle.dt_table.specs.Agendas.{HasRoom, Note, Tables, moment_of_kind, no_note, note_at}
use Rattle.dt_table.specs.Firsts.{IsFirstIn}
use Rattle.dt_host.specs.Notes.{note_of_recv, recv_kinds, recv_note_in, recv_place}
use Rattle.dt_items.specs.declared.memory.NoMemory.{NoMemory}
use Rattle.dt_host.specs.Answers.{IsDataTaken, or_stays}
use Rattle.dt_host.specs.Dues.{HasRecvDue}
use Rattle.dt_host.specs.Hosts.{AreReceiveEntries, IsReceiveEntry, receiver_in, receivers_of}
use Rattle.dt_table.specs.Tables.{AreNoted}
use Rattle.dt_host.specs.Notes.{IsRecvNoted, recv_noted}
use Rattle.dt_table.specs.Places.{equal_flows, present, slot}
use Rattle.dt_host.specs.Sides.{IsRecvKept, IsRecvSide, RecvSideValue}
use Rattle.dt_host.specs.Soonest.{IsQuiet, IsSoonest, receiver_moment}
use Rattle.dt_table.specs.Tables.{IsPlaced, Slots, rows}
use Rattle.dt_host.proofs.Firsts.{quiet_first, quiet_none, recv_exact, soonest_of}
use Rattle.dt_host.proofs.RecvTurns.{IsIdle, IsKept, acted, answered, busy_stays, due_is, entry_is, gone as goes_idle, kept_made, look_none, made, made_with, nothing, read_from, read_moved, read_none, read_some, receiver_found, receiver_of, recv_told, stands_is, stayed, stepped, taken_is, unread_same, value_is, with_receivers}
use Rattle.dt_host.proofs.Rows.{earliest_of_both, none_earliest, some_earliest}
use Rattle.dt_table.proofs.Slots.{all_entries, are_noted, entry_there, none_in, notes_in, rank}
use Rattle.dt_table.proofs.Tables.{Read, Written, first_kept, first_noted, first_slot, found_there, gone, row_of, rows_kept, rows_more, table_left, table_same, table_set, written}

abbrev pub Places : Type 0
Places = Slots ReceiverValue

-- the receivers as their callers see them
abbrev pub seen : Params → ℕ → Places → RecvSideValue
seen p latest os = record { rules = p; latest = latest; entries = present os }

-- the flow's receiver has an act due
abbrev pub HasDueIn : Flow → RecvSideValue → Type 0
HasDueIn f v = (r : Receiver) × (y : ReceiveRecord) × (kind : RecvKind) × (moment : ℕ) × HasRecvDue v.rules v.latest (look same_flow f (receivers_of v.entries)) r y kind moment

-- a kind's moment, by its place in a note
kind_is : (kind : RecvKind) (n : Note) → recv_moment (recv_note_in n) kind ≡ slot n (recv_place kind)
kind_is Release n = refl
kind_is Ack n = refl

pub no_moment : (kind : RecvKind) → slot (no_note recv_kinds) (recv_place kind) ≡ None
no_moment Release = refl
no_moment Ack = refl

pub place_less : (kind : RecvKind) → recv_place kind < recv_kinds
place_less Release = omega arith
place_less Ack = omega arith

-- a receiver is noted as it stands
now_noted : (p : Params) (f : Flow) (u : ReceiverValue) (n : Note) → IsReceiveEntry p f u → n ≡ note_of_recv (recv_noted u.rules u.state) → IsRecvKept p f u n
now_noted p f u n entry e = record { entry = entry; noted = ap recv_note_in e ∙ same (recv_noted u.rules u.state) ∙ ap (λ (q : Params). recv_noted q u.state) entry.rules }
  where
    same : (m : RecvMoments) → recv_note_in (note_of_recv m) ≡ m
    same m = refl

module _ (p : Params) (flows : List (Option Flow)) (os : Places) (t : Tables) (side : IsRecvSide p flows os t) where
  abbrev Kept : Flow → ReceiverValue → Note → Type 0
  Kept = IsRecvKept p

  abbrev NotedAs : Receiver → Note → Type 0
  NotedAs r n = IsRecvNoted p r (recv_note_in n)

  pub all_recv : AreReceiveEntries p (present os)
  all_recv = all_entries Kept (no_note recv_kinds) (IsReceiveEntry p) (λ f s n is. is.entry) os (note_at t) side.kept.noted

  are_noted_as : AreNoted NotedAs (receivers_of (present os)) (notes_in os (note_at t))
  are_noted_as = are_noted Kept (no_note recv_kinds) receiver_in NotedAs (λ f s n is. is.noted) os (note_at t) side.kept.noted

  -- A RECEIVER THAT IS READ
  module _ (f : Flow) (i : ℕ) (at : Read flows os f i) (u : ReceiverValue) where
    -- nothing changed
    pub same_side : u ≡ at.value → IsRecvSide p flows (Written os i at.owner u) t
    same_side same = table_same Kept recv_kinds flows os t side f i at u same

    -- it stands, with its note
    pub side_set : IsReceiveEntry p f u → (new : Tables) (n : Note) → (length n ≡ length t → note_at new i ≡ n) → n ≡ note_of_recv (recv_noted u.rules u.state) → ((j : ℕ) → j ≢ i → note_at new j ≡ note_at t j) → ((count : ℕ) → HasRoom count t → HasRoom count new) → IsRecvSide p flows (Written os i at.owner u) new
    side_set entry new n given here others room = table_set Kept recv_kinds flows os t side f i at u new (now_noted p f u (note_at new i) entry (given (ap (λ (m : Note). length m) here ∙ sym side.counted) ∙ here)) others room

    -- it goes, with its note
    pub side_left : (more : List (Option Flow)) (ps : Places) (new : Tables) → IsPlaced (length t) more ps new → ps ≡ set (Written os i at.owner u) i None → ((j : ℕ) → j ≢ i → note_at new j ≡ note_at t j) → IsRecvSide p more ps new
    side_left more ps new after e others = table_left Kept recv_kinds flows os t side f i at u more ps new after e others

  -- A RECEIVER IS ADDED, or none is
  module _ (more : List (Option Flow)) (ps : Places) (new : Tables) (after : IsPlaced (length t) more ps new) where
    pub side_kept : rows ps (note_at new) ≡ rows os (note_at t) → IsRecvSide p more ps new
    side_kept e = rows_kept Kept recv_kinds flows os t side more ps new after e

    pub side_more : (f : Flow) (u : ReceiverValue) (n : Note) → rows ps (note_at new) ≡ rows os (note_at t) ++ row_of (f, u) n ∷ [] → IsReceiveEntry p f u → n ≡ note_of_recv (recv_noted u.rules u.state) → IsRecvSide p more ps new
    side_more f u n e entry is = rows_more Kept recv_kinds flows os t side more ps new after f u n e (now_noted p f u n entry is)

  -- THE FIRST of a kind, by places, is the first of the notes
  module _ (kind : RecvKind) where
    abbrev Moment : Note → Option ℕ
    Moment n = slot n (recv_place kind)

    exact : (s : ReceiverValue) (n : Note) → NotedAs s.state n → Moment n ≡ receiver_moment p kind s
    exact s n is = sym (kind_is kind n) ∙ recv_exact p kind s (recv_note_in n) is

    later : (s : ReceiverValue) (n : Note) → NotedAs s.state n → (m : ℕ) → receiver_moment p kind s ≡ Some m → (v : ℕ) × (Moment n ≡ Some v) × (v ≤ m)
    later s n is m e = (m, exact s n is ∙ e, omega arith)

    pub quiet_all : (latest : ℕ) → HasNoMoment (moment_of_kind t (recv_place kind)) → IsQuiet (receiver_moment p kind) latest (present os)
    quiet_all latest none = quiet_none receiver_in NotedAs Moment (receiver_moment p kind) later latest (present os) (notes_in os (note_at t)) are_noted_as (none_in Moment os (note_at t) none)

    earliest_noted : (es : List (Flow × ReceiverValue)) (ns : List Note) → AreNoted NotedAs (receivers_of es) ns → earliest Moment ns ≡ earliest (λ (e : Flow × ReceiverValue). receiver_moment p kind e.1) es
    earliest_noted [] [] all = refl
    earliest_noted [] (n ∷ ns) all = absurd all
    earliest_noted (e ∷ es) [] all = absurd all
    earliest_noted (e ∷ es) (n ∷ ns) all = ap (λ (o : Option ℕ). earlier o (earliest Moment ns)) (exact e.1 n all.0) ∙ ap (earlier (receiver_moment p kind e.1)) (earliest_noted es ns all.1)

    pub wake_none : HasNoMoment (moment_of_kind t (recv_place kind)) → earliest (λ (e : Flow × ReceiverValue). receiver_moment p kind e.1) (present os) ≡ None
    wake_none none = sym (earliest_noted (present os) (notes_in os (note_at t)) are_noted_as) ∙ none_earliest Moment (notes_in os (note_at t)) (none_in Moment os (note_at t) none)

    module _ (m i : ℕ) (first : IsFirst (moment_of_kind t (recv_place kind)) m i) where
      abbrev Here : IsFirstIn Moment (notes_in os (note_at t)) m (rank os i)
      Here = first_noted Kept recv_kinds flows os t side (recv_place kind) (no_moment kind) m i first

      pub wake_some : earliest (λ (e : Flow × ReceiverValue). receiver_moment p kind e.1) (present os) ≡ Some m
      wake_some = sym (earliest_noted (present os) (notes_in os (note_at t)) are_noted_as) ∙ some_earliest Moment (notes_in os (note_at t)) m (rank os i) Here

      pub quiet_yet : (latest : ℕ) → latest < m → IsQuiet (receiver_moment p kind) latest (present os)
      quiet_yet latest less = quiet_first receiver_in NotedAs Moment (receiver_moment p kind) later latest (present os) (notes_in os (note_at t)) are_noted_as m (rank os i) Here less

      -- as it is read from its place
      module _ (r : Option (Flow × ReceiverValue)) (v : r ≡ slice_index_or os i r) (g : Flow) (s : ReceiverValue) (is : r ≡ Some (g, s)) where
        pub soonest_here : (latest : ℕ) → m ≤ latest → IsSoonest (receiver_moment p kind) latest (present os) (due.Recv kind) (record { kind = due.Recv kind; moment = m; flow = g })
        soonest_here latest come =
            let kept = first_kept Kept recv_kinds flows os t side (recv_place kind) (no_moment kind) m i first r v g s is in
            let there = first_slot Kept recv_kinds flows os t side (recv_place kind) (no_moment kind) m i first r v g s is in
            soonest_of receiver_in NotedAs Moment (receiver_moment p kind) later latest (present os) (notes_in os (note_at t)) are_noted_as m (rank os i) Here (due.Recv kind) g s come (entry_there os i (g, s) there)
            (sym (exact s (note_at t i) kept.noted) ∙ first.there)

-- A receiver after a step by which it stays, and after one by which it might become idle
pub stepped_entry : (p : Params) (f : Flow) (s : ReceiverValue) → IsReceiveEntry p f s → (step : Params → Receiver → Receiver) → ((r : Receiver) → IsKept r → IsKept (step p r)) → (u : ReceiverValue) → u ≡ record s { state = step s.rules s.state } → IsReceiveEntry p f u
stepped_entry p f s entry step keeps u e =
    let is : u ≡ receiver_of p f (step p s.state) = e ∙ ap (λ (q : Params). receiver_of q s.flow (step q s.state)) entry.rules ∙ ap (λ (g : Flow). receiver_of p g (step p s.state)) entry.flow in
    record {
      rules = ap (λ (w : ReceiverValue). w.rules) is;
      flow = ap (λ (w : ReceiverValue). w.flow) is;
      stays = subst (λ (w : ReceiverValue). IsKept w.state) (sym is) (keeps s.state entry.stays);
    }

pub busy_entry : (p : Params) (f : Flow) (r : Receiver) (u : ReceiverValue) → u ≡ receiver_of p f r → (IsIdle u → ⊥) → IsReceiveEntry p f u
busy_entry p f r u e busy = record { rules = ap (λ (w : ReceiverValue). w.rules) e; flow = ap (λ (w : ReceiverValue). w.flow) e; stays = busy_stays u.state busy }

-- WHAT A CALL LEAVES, by the receivers before it and after it
pub record ActDone (p : Params) (latest : ℕ) (f : Flow) (es es' : List (Flow × ReceiverValue)) (act : RecvAct) (old new : List ℕ) : Type 0 where
  pub told : (r : Receiver) (y : ReceiveRecord) (kind : RecvKind) (moment : ℕ) → HasRecvDue p latest (look same_flow f (receivers_of es)) r y kind moment → act ≡ recv_told_of p r.unread y kind
  pub frame : new ≡ unwrap_or (recv_frame p f act) old
  pub gram : IfSome (recv_frame p f act) (λ octets. IsGram octets)
  pub after : (r : Receiver) (y : ReceiveRecord) (kind : RecvKind) (moment : ℕ) → HasRecvDue p latest (look same_flow f (receivers_of es)) r y kind moment → (host : Host) → with_receivers host (receivers_of es') ≡ host_with_receiver (with_receivers host (receivers_of es)) f (after_recv_act p r kind)

pub record ReadDone (p : Params) (latest : ℕ) (f : Flow) (es es' : List (Flow × ReceiverValue)) (piece : Option Piece) (old new : List ℕ) : Type 0 where
  pub told : (host : Host) → piece ≡ piece_told (read_octets p latest f (length old) (with_receivers host (receivers_of es))).0
  pub octets : (host : Host) → new ≡ octets_of (read_octets p latest f (length old) (with_receivers host (receivers_of es))).0 ++ drop (length (read_octets p latest f (length old) (with_receivers host (receivers_of es))).0) old
  pub after : (host : Host) → with_receivers host (receivers_of es') ≡ (read_octets p latest f (length old) (with_receivers host (receivers_of es))).1

-- A RECEIVER THAT IS READ, and what it does then
module _ {p : Params} {flows : List (Option Flow)} {os : Places} {t : Tables} (side : IsRecvSide p flows os t) {f : Flow} {i : ℕ} (at : Read flows os f i) where
  pub found : lookup (equal_flows f) (present os) ≡ Some at.value
  found = found_there (IsRecvKept p) recv_kinds flows os t side f i at

  pub all_here : AreReceiveEntries p (present os)
  all_here = all_recv p flows os t side

  pub value_here : at.value ≡ receiver_of p f at.value.state
  value_here = value_is f (present os) at.value found p all_here

  pub answer_here : {B : Type 0} (answer : Params → Receiver → B) → answer at.value.rules at.value.state ≡ answer p (receiver_found f (present os))
  answer_here answer = answered f (present os) at.value found p all_here answer

  pub written_here : (u : ReceiverValue) → present (Written os i at.owner u) ≡ set_value (equal_flows f) (present os) u
  written_here u = written (IsRecvKept p) recv_kinds flows os t side f i at u

  pub gone_here : (u : ReceiverValue) (ps : Places) → ps ≡ set (Written os i at.owner u) i None → present ps ≡ remove_entry (equal_flows f) (set_value (equal_flows f) (present os) u)
  gone_here u ps e = ap (λ (qs : Places). present qs) e ∙ gone (IsRecvKept p) recv_kinds flows os t side f i at u

  -- a reply is of its flow
  module _ (answer : Arrived) where
    pub reply_here : (old new : List ℕ) → new ≡ unwrap_or (reply_frame at.value.rules at.value.flow answer) old → new ≡ unwrap_or (reply_frame p f answer) old
    reply_here old new e = e ∙ ap (λ (w : ReceiverValue). unwrap_or (reply_frame w.rules w.flow answer) old) value_here

    pub gram_here : IfSome (reply_frame at.value.rules at.value.flow answer) (λ octets. IsGram octets) → IfSome (reply_frame p f answer) (λ octets. IsGram octets)
    gram_here h = subst (λ (w : ReceiverValue). IfSome (reply_frame w.rules w.flow answer) (λ octets. IsGram octets)) value_here h

  -- a step by which it stays
  module _ (step : Params → Receiver → Receiver) (keeps : (r : Receiver) → IsKept r → IsKept (step p r)) (u : ReceiverValue) (e : u ≡ record at.value { state = step at.value.rules at.value.state }) where
    pub step_entry : IsReceiveEntry p f u
    step_entry = stepped_entry p f at.value (entry_is f (present os) at.value found p all_here) step keeps u e

    pub step_after : (host : Host) → with_receivers host (receivers_of (present (Written os i at.owner u))) ≡ host_with_receiver (with_receivers host (receivers_of (present os))) f (step p (receiver_found f (present os)))
    step_after host = stepped f (present os) at.value found p all_here step keeps u e (present (Written os i at.owner u)) (written_here u) host

  -- a read
  module _ (latest most : ℕ) where
    pub taken_here : (host : Host) → (read_octets p latest f most (with_receivers host (receivers_of (present os)))).0 ≡ first_piece most at.value.state.unread
    taken_here host = taken_is f (present os) at.value found p all_here latest most host

    module _ (u : ReceiverValue) (e : u ≡ record at.value { state = after_read at.value.rules latest (length (first_piece most at.value.state.unread)) at.value.state }) where
      read_is : u ≡ receiver_of p f (read_from f (present os) at.value found p all_here latest most at.value.state)
      read_is = read_moved f (present os) at.value found p all_here latest most u e

      pub read_entry : (IsIdle u → ⊥) → IsReceiveEntry p f u
      read_entry busy = busy_entry p f (read_from f (present os) at.value found p all_here latest most at.value.state) u read_is busy

      module _ (x : Piece) (told : Some x ≡ piece_told (first_piece most at.value.state.unread)) (host : Host) where
        pub read_goes : IsIdle u → (ps : Places) → ps ≡ set (Written os i at.owner u) i None → with_receivers host (receivers_of (present ps)) ≡ (read_octets p latest f most (with_receivers host (receivers_of (present os)))).1
        read_goes idle ps e = goes_idle f (present os) at.value found p all_here u (read_from f (present os) at.value found p all_here latest most at.value.state) read_is (present ps) idle (gone_here u ps e) host ∙ read_some f (present os) at.value found p all_here latest most x told host

        pub read_stays : (IsIdle u → ⊥) → with_receivers host (receivers_of (present (Written os i at.owner u))) ≡ (read_octets p latest f most (with_receivers host (receivers_of (present os)))).1
        read_stays busy = stayed f (present os) at.value found p all_here u (read_from f (present os) at.value found p all_here latest most at.value.state) read_is (present (Written os i at.owner u)) busy (written_here u) host ∙ read_some f (present os) at.value found p all_here latest most x told host

      -- of nothing
      module _ (empty : at.value.state.unread ≡ []) where
        pub unread_here : u ≡ at.value
        unread_here = unread_same f (present os) at.value found p all_here latest most empty u e (present (Written os i at.owner u)) (written_here u)

        pub none_read : (host : Host) → with_receivers host (receivers_of (present (Written os i at.owner u))) ≡ (read_octets p latest f most (with_receivers host (receivers_of (present os)))).1
        none_read host = read_none f (present os) at.value found p all_here latest most empty u e (present (Written os i at.owner u)) (written_here u) host

  -- an act that is due
  module _ (latest : ℕ) (r : Receiver) (y : ReceiveRecord) (kind : RecvKind) (moment : ℕ) (has : HasRecvDue p latest (look same_flow f (receivers_of (present os))) r y kind moment) where
    pub due_here : recv_due_of at.value.rules latest at.value.state.standing ≡ Some (kind, moment)
    due_here = due_is f (present os) at.value found p all_here latest r y kind moment has

    pub stands_here : at.value.state.standing ≡ Some y
    stands_here = stands_is f (present os) at.value found p all_here latest r y kind moment has

    pub told_here : (told : RecvAct) → told ≡ recv_told_of at.value.rules at.value.state.unread y kind → told ≡ recv_told_of p r.unread y kind
    told_here told e = recv_told f (present os) at.value found p all_here latest r y kind moment has told e

    module _ (u : ReceiverValue) (e : u ≡ record at.value { state = after_recv_act at.value.rules at.value.state kind }) where
      act_is : u ≡ receiver_of p f (after_recv_act p r kind)
      act_is = acted f (present os) at.value found p all_here latest r y kind moment has u e

      pub act_entry : (IsIdle u → ⊥) → IsReceiveEntry p f u
      act_entry busy = busy_entry p f (after_recv_act p r kind) u act_is busy

      pub act_goes : IsIdle u → (ps : Places) → ps ≡ set (Written os i at.owner u) i None → (host : Host) → with_receivers host (receivers_of (present ps)) ≡ host_with_receiver (with_receivers host (receivers_of (present os))) f (after_recv_act p r kind)
      act_goes idle ps e host = goes_idle f (present os) at.value found p all_here u (after_recv_act p r kind) act_is (present ps) idle (gone_here u ps e) host

      pub act_stays : (IsIdle u → ⊥) → (host : Host) → with_receivers host (receivers_of (present (Written os i at.owner u))) ≡ host_with_receiver (with_receivers host (receivers_of (present os))) f (after_recv_act p r kind)
      act_stays busy host = stayed f (present os) at.value found p all_here u (after_recv_act p r kind) act_is (present (Written os i at.owner u)) busy (written_here u) host

  -- what goes out is of its flow
  module _ (act : RecvAct) where
    pub frame_here : (old new : List ℕ) → new ≡ unwrap_or (recv_frame at.value.rules at.value.flow act) old → new ≡ unwrap_or (recv_frame p f act) old
    frame_here old new e = e ∙ ap (λ (w : ReceiverValue). unwrap_or (recv_frame w.rules w.flow act) old) value_here

    pub out_here : IfSome (recv_frame at.value.rules at.value.flow act) (λ octets. IsGram octets) → IfSome (recv_frame p f act) (λ octets. IsGram octets)
    out_here h = subst (λ (w : ReceiverValue). IfSome (recv_frame w.rules w.flow act) (λ octets. IsGram octets)) value_here h

  -- all that an act leaves
  module _ (latest : ℕ) (act : RecvAct) (old new : List ℕ) (u : ReceiverValue)
      (told : (kind : RecvKind) (moment : ℕ) (y : ReceiveRecord) → recv_due_of at.value.rules latest at.value.state.standing ≡ Some (kind, moment) → at.value.state.standing ≡ Some y → act ≡ recv_told_of at.value.rules at.value.state.unread y kind)
      (frame : new ≡ unwrap_or (recv_frame at.value.rules at.value.flow act) old) (gram : IfSome (recv_frame at.value.rules at.value.flow act) (λ octets. IsGram octets))
      (moved : (kind : RecvKind) (moment : ℕ) → recv_due_of at.value.rules latest at.value.state.standing ≡ Some (kind, moment) → u ≡ record at.value { state = after_recv_act at.value.rules at.value.state kind }) where
    act_told : (r : Receiver) (y : ReceiveRecord) (kind : RecvKind) (moment : ℕ) → HasRecvDue p latest (look same_flow f (receivers_of (present os))) r y kind moment → act ≡ recv_told_of p r.unread y kind
    act_told r y kind moment due = told_here latest r y kind moment due act (told kind moment y (due_here latest r y kind moment due) (stands_here latest r y kind moment due))

    pub act_gone : IsIdle u → (ps : Places) → ps ≡ set (Written os i at.owner u) i None → ActDone p latest f (present os) (present ps) act old new
    act_gone idle ps e = record {
      told = act_told;
      frame = frame_here act old new frame;
      gram = out_here act gram;
      after = λ r y kind moment due host. act_goes latest r y kind moment due u (moved kind moment (due_here latest r y kind moment due)) idle ps e host;
    }

    pub act_stayed : (IsIdle u → ⊥) → ActDone p latest f (present os) (present (Written os i at.owner u)) act old new
    act_stayed busy = record {
      told = act_told;
      frame = frame_here act old new frame;
      gram = out_here act gram;
      after = λ r y kind moment due host. act_stays latest r y kind moment due u (moved kind moment (due_here latest r y kind moment due)) busy host;
    }

  -- all that a read leaves
  module _ (latest : ℕ) (x : Piece) (old new : List ℕ) (u : ReceiverValue) (told : Some x ≡ piece_told (first_piece (length old) at.value.state.unread))
      (octets : new ≡ octets_of (first_piece (length old) at.value.state.unread) ++ drop (length (first_piece (length old) at.value.state.unread)) old)
      (moved : u ≡ record at.value { state = after_read at.value.rules latest (length (first_piece (length old) at.value.state.unread)) at.value.state }) where
    read_told : (host : Host) → Some x ≡ piece_told (read_octets p latest f (length old) (with_receivers host (receivers_of (present os)))).0
    read_told host = told ∙ ap piece_told (sym (taken_here latest (length old) host))

    read_wrote : (host : Host) → new ≡ octets_of (read_octets p latest f (length old) (with_receivers host (receivers_of (present os)))).0 ++ drop (length (read_octets p latest f (length old) (with_receivers host (receivers_of (present os)))).0) old
    read_wrote host = octets ∙ ap (λ (items : List Item). octets_of items ++ drop (length items) old) (sym (taken_here latest (length old) host))

    pub read_gone : IsIdle u → (ps : Places) → ps ≡ set (Written os i at.owner u) i None → ReadDone p latest f (present os) (present ps) (Some x) old new
    read_gone idle ps e = record { told = read_told; octets = read_wrote; after = λ host. read_goes latest (length old) u moved x told host idle ps e }

    pub read_stayed : (IsIdle u → ⊥) → ReadDone p latest f (present os) (present (Written os i at.owner u)) (Some x) old new
    read_stayed busy = record { told = read_told; octets = read_wrote; after = λ host. read_stays latest (length old) u moved x told host busy }

-- where there was no memory the receivers are as they were
pub data_kept : (p : Params) (latest : ℕ) (f : Flow) (drf : Bool) (number : ℕ) (items : List Item) (es es' : List (Flow × ReceiverValue)) → es' ≡ es → (r : Result Arrived NoMemory) (why : NoMemory) → r ≡ Err why → IsDataTaken p latest f drf number items es es' r
data_kept p latest f drf number items es es' e r why is = λ host.
    subst (λ (q : Result Arrived NoMemory). with_receivers host (receivers_of es') ≡ or_stays q (host_with_receiver (with_receivers host (receivers_of es)) f (after_data p latest (receiver_found f es) drf number items)) (with_receivers host (receivers_of es))) (sym is)
    (ap (λ (l : List (Flow × ReceiverValue)). with_receivers host (receivers_of l)) e)

-- A RECEIVER IS MADE with a data packet
module _ (p : Params) (latest : ℕ) (es : List (Flow × ReceiverValue)) (all : AreReceiveEntries p es) (f : Flow) (absent : lookup (equal_flows f) es ≡ None) (drf : Bool) (number : ℕ) (items : List Item) (makes : action_on p no_receiver drf number items ≡ Make)
    (s u : ReceiverValue) (fresh : s ≡ receiver_of p f no_receiver) (e : u ≡ record s { state = after_data s.rules latest s.state drf number items }) where
  made_is : u ≡ receiver_of p f (after_data p latest no_receiver drf number items)
  made_is = made_with p f latest drf number items s u fresh e

  pub made_entry : IsReceiveEntry p f u
  made_entry = subst (λ (w : ReceiverValue). IsReceiveEntry p f w) (sym made_is) (record { rules = refl; flow = refl; stays = kept_made p latest drf number items makes })

  pub made_answer : (answer : Arrived) → answer ≡ answer_to_data s.rules s.state drf number items → answer ≡ answer_to_data p (receiver_found f es) drf number items
  made_answer answer is =
      is ∙ ap (λ (w : ReceiverValue). answer_to_data w.rules w.state drf number items) fresh
      ∙ ap (λ (r : Receiver). answer_to_data p r drf number items) (sym (nothing f es (look_none f es absent)))

  pub made_after : (after : List (Flow × ReceiverValue)) → after ≡ insert_entry equal_flows es f u → (host : Host) → with_receivers host (receivers_of after) ≡ host_with_receiver (with_receivers host (receivers_of es)) f (after_data p latest (receiver_found f es) drf number items)
  made_after after w host = made f es (look_none f es absent) p all u (λ (r : Receiver). after_data p latest r drf number items) made_is (kept_made p latest drf number items makes) after w host

-- A receiver is to be woken for either act.
pub either_wake : (p : Params) (es : List (Flow × ReceiverValue)) → earlier (earliest (λ (e : Flow × ReceiverValue). receiver_moment p Release e.1) es) (earliest (λ (e : Flow × ReceiverValue). receiver_moment p Ack e.1) es) ≡ earliest (λ (e : Flow × Receiver). recv_wake_of p e.1.standing) (receivers_of es)
either_wake p es = sym (earliest_of_both (λ (e : Flow × ReceiverValue). receiver_moment p Release e.1) (λ (e : Flow × ReceiverValue). receiver_moment p Ack e.1) es) ∙ rows es
  where
    rows : (es : List (Flow × ReceiverValue)) → earliest (λ (e : Flow × ReceiverValue). earlier (receiver_moment p Release e.1) (receiver_moment p Ack e.1)) es ≡ earliest (λ (e : Flow × Receiver). recv_wake_of p e.1.standing) (receivers_of es)
    rows [] = refl
    rows (e ∷ es) = ap (earlier (recv_wake_of p e.1.state.standing)) (rows es)
