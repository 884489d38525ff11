-- The senders of a host after a change of one.
use Rattle.std.proofs.Common.{ℕ, Bool, false, ◌≡◌, ◌≢◌, ◌+◌, ◌<◌, ◌≤◌, ◌++◌, List, [], ◌∷◌, length, set, Option, Some, None, refl, sym, ap, subst, ◌∙◌, arith}
use Rattle.std.specs.Prelude.{Err, IfSome, Ok, Result, option_map, slice_get, slice_index_or, unwrap_or}
use Rattle.std.specs.Map.{lookup, remove_entry, set_value}
use Rattle.std.specs.Option.{option_and_then}
use Rattle.dt_items.specs.Unread.{marked}
use Rattle.dt_layout.specs.Carried.{IsGram}
use Rattle.dt_flow_model.specs.Frames.{frame_of_act}
use Rattle.dt_flow_model.specs.Keeping.{octets_below, taken_by}
use Rattle.dt_flow_model.specs.declared.acts.SendAct.{SendAct}
use Rattle.dt_flow_model.specs.declared.acts.SendAct.TheVariants.{Released}
use Rattle.dt_flow_model.specs.declared.arrivals.Arrived.{Arrived}
use Rattle.dt_flow_model.specs.declared.arrivals.Arrived.TheVariants.{Acked, Dropped}
use Rattle.dt_flow_model.specs.declared.faults.PutFault.{PutFault}
use Rattle.dt_flow_model.specs.declared.faults.PutFault.TheVariants as fault
use Rattle.dt_host.specs.declared.faults.SendFault.TheVariants as send_fault
use Rattle.dt_items.specs.declared.item.Item.{Item}
use Rattle.indexmap.specs.IndexMap.{insert_entry}
use Rattle.dt_units.specs.declared.endpoints.Flow.{Flow}
use Rattle.dt_units.specs.declared.parameters.Params.{Params}
use Rattle.dt_flow_model.specs.SendRecord.{SendRecord, after_put, new_record, on_ack, put, put_fault}
use Rattle.dt_flow_model.specs.SendActs.{Act, act_of, record_after, resends_from, send_moment, send_moments, told_of, wake_of}
use Rattle.dt_flow_model.specs.declared.moments.SendMoments.{SendMoments}
use Rattle.dt_flow_model.specs.declared.acts.SendKind.{SendKind}
use Rattle.dt_flow_model.specs.declared.acts.SendKind.TheVariants.{GiveUp, Release, Resend, Send, Meet}
use Rattle.dt_send.specs.Senders.{SenderValue}
use Rattle.dt_timers.specs.Deadlines.{HasNoMoment, IsFirst}
use Rattle.dt_world_model.specs.Host.{Host, ack_answer, sender_at}
use Rattle.dt_world_model.specs.Tables.{earliest, look, same_flow, write, write_or_erase}
use Rattle.dt_host.specs.declared.dues.DueKind.TheVariants as due
use Rattle.dt_table.specs.Agendas.{HasRoom, Note, Tables, moment_of_kind, no_note, note_at}
use Rattle.dt_table.specs.Firsts.{IsFirstIn}
use Rattle.dt_host.specs.Notes.{SendNote, note_of_send, send_kinds, send_note_in, send_place, wake_place, with_resend}
use Rattle.dt_host.specs.Answers.{IsSent, send_fault_of}
use Rattle.dt_host.specs.declared.faults.SendFault.{SendFault}
use Rattle.dt_host.specs.Dues.{HasDue}
use Rattle.dt_host.specs.Hosts.{AreSendEntries, IsSendEntry, send_record, send_records}
use Rattle.dt_table.specs.Tables.{AreNoted}
use Rattle.dt_host.specs.Notes.{IsSendNoted, send_noted}
use Rattle.dt_table.specs.Places.{equal_flows, present, slot}
use Rattle.dt_host.specs.Sides.{IsSendKept, IsSendSide, SendSideValue}
use Rattle.dt_host.specs.Soonest.{IsQuiet, IsSoonest, sender_moment}
use Rattle.dt_table.specs.Tables.{IsNotedAt, IsPlaced, Slots, rows}
use Rattle.dt_table.proofs.Agendas.{kinds_noted}
use Rattle.dt_table.proofs.Entries.{record_at}
use Rattle.dt_host.proofs.Firsts.{quiet_first, quiet_none, send_exact, send_later, soonest_of}
use Rattle.dt_host.proofs.Later.{senders_wake}
use Rattle.dt_host.proofs.Rows.{none_earliest, some_earliest}
use Rattle.dt_table.proofs.Slots.{all_entries, are_noted, entry_there, first_in, none_in, note_there, notes_in, notes_set, rank}
use Rattle.dt_host.proofs.Stale.{one_less, righted, righted_is, stale}
use Rattle.dt_table.proofs.Tables.{Read, Written, first_kept, first_noted, first_slot, first_taken, found_there, gone, noted_again, row_of, rows_kept, rows_more, table_left, table_set, written}
use Rattle.dt_host.proofs.SenderTables.{acked, entry_is, fault_is, fits_new, full_new, here_is, ignored, none_is, put_here, put_new, record_here, records_made, refused, refused_here, sender_of, taken, wanting, with_senders}
use Rattle.dt_host.proofs.SendTurns.{after_is, chosen_is, entry_after, frame_is, goes, gram_is, stays, told_is}

abbrev pub Places : Type 0
Places = Slots SenderValue

-- the senders as their callers see them
abbrev pub seen : Params → ℕ → Places → SendSideValue
seen p latest os = record { rules = p; latest = latest; entries = present os }

-- the flow's sender has an act due
abbrev pub HasDueIn : Flow → SendSideValue → Type 0
HasDueIn f v = (x : SendRecord) × (act : Act) × HasDue v.rules v.latest (look same_flow f (send_records v.entries)) x act

-- a kind's moment, by its place in a note
kind_is : (kind : SendKind) (n : Note) → send_moment (send_note_in n).moments kind ≡ slot n (send_place kind)
kind_is GiveUp n = refl
kind_is Release n = refl
kind_is Resend n = refl
kind_is Send n = refl
kind_is Meet n = refl

pub no_moment : (kind : SendKind) → slot (no_note send_kinds) (send_place kind) ≡ None
no_moment GiveUp = refl
no_moment Release = refl
no_moment Resend = refl
no_moment Send = refl
no_moment Meet = refl

pub place_less : (kind : SendKind) → send_place kind < send_kinds
place_less GiveUp = omega arith
place_less Release = omega arith
place_less Resend = omega arith
place_less Send = omega arith
place_less Meet = omega arith

-- a sender is noted as it stands now
now_noted : (p : Params) (latest : ℕ) (f : Flow) (u : SenderValue) (n : Note) → IsSendEntry p f u → n ≡ note_of_send (send_noted u.rules latest u.state) → IsSendKept p latest f u n
now_noted p latest f u n entry e =
    let here : n ≡ note_of_send (send_noted p latest u.state) = e ∙ ap (λ (q : Params). note_of_send (send_noted q latest u.state)) entry.rules in
    record { entry = entry; noted = subst (λ (m : Note). IsSendNoted p latest u.state (send_note_in m)) (sym here) (record { since = latest; past = omega arith; moments = refl; wake = refl }) }

abbrev pub noted_in : Tables → ℕ → SendNote
noted_in t i = send_note_in (note_at t i)

-- a note in which the moment of the resend is another
with_other : (n : Note) → length n ≡ send_kinds → (m : Option ℕ) → send_note_in (set n (send_place Resend) m) ≡ with_resend (send_note_in n) m
with_other [] e m = absurd (omega arith)
with_other (a ∷ []) e m = absurd (omega arith)
with_other (a ∷ b ∷ []) e m = absurd (omega arith)
with_other (a ∷ b ∷ c ∷ n) e m = refl

pub resend_here : (t new : Tables) (i : ℕ) (m : Option ℕ) → length t ≡ send_kinds → note_at new i ≡ set (note_at t i) (send_place Resend) m → noted_in new i ≡ with_resend (noted_in t i) m
resend_here t new i m e here = ap send_note_in here ∙ with_other (note_at t i) (kinds_noted t i ∙ e) m

module _ (p : Params) (latest : ℕ) (flows : List (Option Flow)) (os : Places) (t : Tables) (side : IsSendSide p latest flows os t) where
  abbrev Kept : Flow → SenderValue → Note → Type 0
  Kept = IsSendKept p latest

  abbrev NotedAs : SendRecord → Note → Type 0
  NotedAs x n = IsSendNoted p latest x (send_note_in n)

  pub all_send : AreSendEntries p (present os)
  all_send = all_entries Kept (no_note send_kinds) (IsSendEntry p) (λ f s n is. is.entry) os (note_at t) side.kept.noted

  are_noted_as : AreNoted NotedAs (send_records (present os)) (notes_in os (note_at t))
  are_noted_as = are_noted Kept (no_note send_kinds) send_record NotedAs (λ f s n is. is.noted) os (note_at t) side.kept.noted

  abbrev IsKeptAs : Flow → SenderValue → SendNote → Type 0
  IsKeptAs f s n = IsSendEntry p f s × IsSendNoted p latest s.state n

  -- the same notes, as those of senders
  abbrev pub notes : List SendNote
  notes = notes_in os (noted_in t)

  pub are_send_noted : AreNoted (IsSendNoted p latest) (send_records (present os)) notes
  are_send_noted = are_noted IsKeptAs (send_note_in (no_note send_kinds)) send_record (IsSendNoted p latest) (λ f s n is. is.1) os (noted_in t) (λ i. by (slot os i) (note_at t i) (side.kept.noted i))
    where
      by : (o : Option (Flow × SenderValue)) (n : Note) → IsNotedAt Kept (no_note send_kinds) o n → IsNotedAt IsKeptAs (send_note_in (no_note send_kinds)) o (send_note_in n)
      by None n is = ap send_note_in is
      by (Some e) n is = (is.entry, is.noted)

  -- A SENDER THAT IS READ
  module _ (f : Flow) (i : ℕ) (at : Read flows os f i) (u : SenderValue) where
    -- it stands, with its note
    pub side_set : IsSendEntry p f u → (new : Tables) (n : Note) → (length n ≡ length t → note_at new i ≡ n) → n ≡ note_of_send (send_noted u.rules latest u.state) → ((j : ℕ) → j ≢ i → note_at new j ≡ note_at t j) → ((count : ℕ) → HasRoom count t → HasRoom count new) → IsSendSide p latest flows (Written os i at.owner u) new
    side_set entry new n given here others room = table_set Kept send_kinds flows os t side f i at u new (now_noted p latest f u (note_at new i) entry (given (ap (λ (m : Note). length m) here ∙ sym side.counted) ∙ here)) others room

    -- it goes, with its note
    pub side_left : (more : List (Option Flow)) (ps : Places) (new : Tables) → IsPlaced (length t) more ps new → ps ≡ set (Written os i at.owner u) i None → ((j : ℕ) → j ≢ i → note_at new j ≡ note_at t j) → IsSendSide p latest more ps new
    side_left more ps new after e others = table_left Kept send_kinds flows os t side f i at u more ps new after e others

  -- A SENDER IS ADDED, or none is
  module _ (more : List (Option Flow)) (ps : Places) (new : Tables) (after : IsPlaced (length t) more ps new) where
    pub side_kept : rows ps (note_at new) ≡ rows os (note_at t) → IsSendSide p latest more ps new
    side_kept e = rows_kept Kept send_kinds flows os t side more ps new after e

    pub side_more : (f : Flow) (u : SenderValue) (n : Note) → rows ps (note_at new) ≡ rows os (note_at t) ++ row_of (f, u) n ∷ [] → IsSendEntry p f u → n ≡ note_of_send (send_noted u.rules latest u.state) → IsSendSide p latest more ps new
    side_more f u n e entry is = rows_more Kept send_kinds flows os t side more ps new after f u n e (now_noted p latest f u n entry is)

  -- THE FIRST of a kind, by places, is the first of the notes
  module _ (kind : SendKind) where
    abbrev Moment : Note → Option ℕ
    Moment n = slot n (send_place kind)

    later : (s : SenderValue) (n : Note) → NotedAs s.state n → (m : ℕ) → sender_moment p latest kind s ≡ Some m → (v : ℕ) × (Moment n ≡ Some v) × (v ≤ m)
    later s n is m e = let v = send_later p latest kind s (send_note_in n) is m e in (v.0, sym (kind_is kind n) ∙ v.1, v.2)

    pub quiet_all : HasNoMoment (moment_of_kind t (send_place kind)) → IsQuiet (sender_moment p latest kind) latest (present os)
    quiet_all none = quiet_none send_record NotedAs Moment (sender_moment p latest kind) later latest (present os) (notes_in os (note_at t)) are_noted_as (none_in Moment os (note_at t) none)

    module _ (m i : ℕ) (first : IsFirst (moment_of_kind t (send_place kind)) m i) where
      abbrev Here : IsFirstIn Moment (notes_in os (note_at t)) m (rank os i)
      Here = first_noted Kept send_kinds flows os t side (send_place kind) (no_moment kind) m i first

      pub quiet_yet : latest < m → IsQuiet (sender_moment p latest kind) latest (present os)
      quiet_yet less = quiet_first send_record NotedAs Moment (sender_moment p latest kind) later latest (present os) (notes_in os (note_at t)) are_noted_as m (rank os i) Here less

      -- as it is read from its place
      module _ (r : Option (Flow × SenderValue)) (v : r ≡ slice_index_or os i r) (g : Flow) (s : SenderValue) (is : r ≡ Some (g, s)) where
        pub its_slot : slot os i ≡ Some (g, s)
        its_slot = first_slot Kept send_kinds flows os t side (send_place kind) (no_moment kind) m i first r v g s is

        pub its_kept : Kept g s (note_at t i)
        its_kept = first_kept Kept send_kinds flows os t side (send_place kind) (no_moment kind) m i first r v g s is

        pub soonest_here : m ≤ latest → sender_moment p latest kind s ≡ Some m → IsSoonest (sender_moment p latest kind) latest (present os) (due.Send kind) (record { kind = due.Send kind; moment = m; flow = g })
        soonest_here come here = soonest_of send_record NotedAs Moment (sender_moment p latest kind) later latest (present os) (notes_in os (note_at t)) are_noted_as m (rank os i) Here (due.Send kind) g s come (entry_there os i (g, s) its_slot) here

        pub exact_here : (kind ≡ Resend → ⊥) → sender_moment p latest kind s ≡ Some m
        exact_here other = send_exact p latest kind s (send_note_in (note_at t i)) other its_kept.noted m (kind_is kind (note_at t i) ∙ first.there)

  -- the moment of its resend, as its sender tells it now
  pub resend_is : (m i : ℕ) (first : IsFirst (moment_of_kind t (send_place Resend)) m i) (r : Option (Flow × SenderValue)) (v : r ≡ slice_index_or os i r) (g : Flow) (s : SenderValue) (is : r ≡ Some (g, s)) (moments : SendMoments) → moments ≡ send_moments s.rules latest s.state → moments.resend ≡ resends_from p latest s.state.outstanding
  resend_is m i first r v g s is moments e = ap (λ (k : SendMoments). k.resend) e ∙ ap (λ (q : Params). resends_from q latest s.state.outstanding) (let k = its_kept Resend m i first r v g s is in k.entry.rules)

  -- A MOMENT OF A RESEND IS RIGHTED
  module _ (m i : ℕ) (first : IsFirst (moment_of_kind t (send_place Resend)) m i) (r : Option (Flow × SenderValue)) (v : r ≡ slice_index_or os i r) (g : Flow) (s : SenderValue) (is : r ≡ Some (g, s))
      (resend : Option ℕ) (right : resend ≡ resends_from p latest s.state.outstanding) (new : Tables) (here : noted_in new i ≡ with_resend (noted_in t i) resend) (others : (j : ℕ) → j ≢ i → note_at new j ≡ note_at t j) where
    stands : slot os i ≡ Some (g, s)
    stands = its_slot Resend m i first r v g s is

    righted_here : noted_in new i ≡ righted p latest s.state (noted_in t i)
    righted_here = here ∙ ap (with_resend (noted_in t i)) right

    pub righted_side : ((count : ℕ) → HasRoom count t → HasRoom count new) → IsSendSide p latest flows os new
    righted_side room =
        let k = its_kept Resend m i first r v g s is in
        let own : Kept g s (note_at new i) = record { entry = k.entry; noted = subst (IsSendNoted p latest s.state) (sym righted_here) (righted_is p latest s.state (noted_in t i) k.noted) } in
        noted_again Kept send_kinds flows os t side i g s stands new own others room

    pub less_stale : (resend ≡ Some m → ⊥) → stale p latest (send_records (present os)) (notes_in os (noted_in new)) + 1 ≡ stale p latest (send_records (present os)) (notes_in os (noted_in t))
    less_stale apart =
        let rs = send_records (present os) in
        let e : Flow × SendRecord = (g, s.state) in
        let at : slice_get rs (rank os i) ≡ Some e = record_at send_record (present os) (rank os i) ∙ ap (option_map (λ (d : Flow × SenderValue). let x : Flow × SendRecord = (d.0, d.1.state) in x)) (entry_there os i (g, s) stands) in
        let note = note_there os (noted_in t) i (g, s) stands in
        let wrote = notes_set os (noted_in t) (noted_in new) i (g, s) stands (λ j off. ap send_note_in (others j off)) ∙ ap (λ (n : SendNote). set (notes_in os (noted_in t)) (rank os i) n) righted_here in
        ap (λ (ns : List SendNote). stale p latest rs ns + 1) wrote
        ∙ one_less p latest rs (notes_in os (noted_in t)) (rank os i) e (noted_in t i) at note (λ f. apart (right ∙ sym f ∙ first.there))

  -- WHEN TO WAKE
  pub wake_none : HasNoMoment (moment_of_kind t wake_place) → earliest (λ (e : Flow × SendRecord). wake_of p e.1) (send_records (present os)) ≡ None
  wake_none none =
      sym (senders_wake p latest (send_records (present os)) notes are_send_noted)
      ∙ none_earliest (λ (n : SendNote). n.wake) notes (none_in (λ (n : SendNote). n.wake) os (noted_in t) none)

  pub wake_some : (m i : ℕ) → IsFirst (moment_of_kind t wake_place) m i → earliest (λ (e : Flow × SendRecord). wake_of p e.1) (send_records (present os)) ≡ Some m
  wake_some m i first =
      let e = first_taken Kept send_kinds flows os t side wake_place refl m i first in
      sym (senders_wake p latest (send_records (present os)) notes are_send_noted)
      ∙ some_earliest (λ (n : SendNote). n.wake) notes m (rank os i) (first_in (λ (n : SendNote). n.wake) os (noted_in t) m i e.0 e.1 first)

-- A SENDER THAT IS READ, and what it does then
module _ {p : Params} {latest : ℕ} {flows : List (Option Flow)} {os : Places} {t : Tables} (side : IsSendSide p latest flows os t) {f : Flow} {i : ℕ} (at : Read flows os f i) where
  pub found : lookup (equal_flows f) (present os) ≡ Some at.value
  found = found_there (IsSendKept p latest) send_kinds flows os t side f i at

  pub all_here : AreSendEntries p (present os)
  all_here = all_send p latest flows os t side

  pub written_here : (u : SenderValue) → present (Written os i at.owner u) ≡ set_value (equal_flows f) (present os) u
  written_here u = written (IsSendKept p latest) send_kinds flows os t side f i at u

  pub gone_here : (u : SenderValue) (ps : Places) → ps ≡ set (Written os i at.owner u) i None → present ps ≡ remove_entry (equal_flows f) (set_value (equal_flows f) (present os) u)
  gone_here u ps e = ap (λ (qs : Places). present qs) e ∙ gone (IsSendKept p latest) send_kinds flows os t side f i at u

  -- a step changes its record alone
  pub entry_here : (u : SenderValue) → u ≡ record at.value { state = u.state } → IsSendEntry p f u
  entry_here u e = let entry = entry_is p f (present os) all_here at.value found in record { rules = ap (λ (s : SenderValue). s.rules) e ∙ entry.rules; flow = ap (λ (s : SenderValue). s.flow) e ∙ entry.flow }

  -- octets are put
  module _ (octets : List ℕ) (begin end : Bool) where
    pub counted_here : (count : ℕ) → taken_by (record_here p latest f (present os)) + count < octets_below → taken_by at.value.state + count < octets_below
    counted_here count h = subst (λ (x : SendRecord). taken_by x + count < octets_below) (here_is p f (present os) all_here at.value found latest) h

    module _ (u : SenderValue) (e : u ≡ record at.value { state = after_put at.value.rules (marked octets begin end false) at.value.state }) where
      pub put_refused : (why : PutFault) → Some why ≡ put_fault at.value.rules at.value.state (length octets) → (r : Result (Unit {0}) SendFault) → r ≡ Err (send_fault_of why) → IsSent p latest f (marked octets begin end false) (present os) (present (Written os i at.owner u)) r
      put_refused why full r is = λ host.
          refused f (marked octets begin end false) (record_here p latest f (present os)) (present os) (present (Written os i at.owner u)) host
          (ap send_records (written_here u ∙ refused_here p f (present os) all_here at.value found latest octets begin end u why (sym full) e))
          (put_fault p (record_here p latest f (present os)) (length (marked octets begin end false))) why
          (fault_is p f (present os) all_here at.value found latest octets begin end ∙ sym full) r is

      pub put_taken : None ≡ put_fault at.value.rules at.value.state (length octets) → IsSent p latest f (marked octets begin end false) (present os) (present (Written os i at.owner u)) (Ok tt)
      put_taken fits = λ host.
          taken f (marked octets begin end false) (record_here p latest f (present os)) (present os) (present (Written os i at.owner u)) host
          (ap send_records (written_here u) ∙ put_here p f (present os) all_here at.value found latest octets begin end u (sym fits) e)
          (put_fault p (record_here p latest f (present os)) (length (marked octets begin end false)))
          (fault_is p f (present os) all_here at.value found latest octets begin end ∙ sym fits)

  -- octets are acknowledged
  module _ (host : Host) (number window : ℕ) (u : SenderValue) where
    abbrev pub IsAckedAs : Arrived → Type 0
    IsAckedAs answer =
        ack_answer (with_senders host (present os)) f (option_and_then (λ x. on_ack p x number window) (sender_at (with_senders host (present os)) f)) ≡ (answer, with_senders host (present (Written os i at.owner u)))

    pub ack_taken : (count : ℕ) → on_ack at.value.rules at.value.state number window ≡ Some (u.state, count) → IsAckedAs (Acked count)
    ack_taken count e = acked p f (present os) all_here at.value found host (present (Written os i at.owner u)) number window count u (written_here u) e

    pub ack_ignored : u ≡ at.value → on_ack at.value.rules at.value.state number window ≡ None → IsAckedAs Dropped
    ack_ignored same e = ignored p f (present os) all_here at.value found host (present (Written os i at.owner u)) number window (written_here u ∙ ap (λ (s : SenderValue). set_value (equal_flows f) (present os) s) same) e

  -- an act that is due
  module _ (x : SendRecord) (act : Act) (has : HasDue p latest (look same_flow f (send_records (present os))) x act) where
    pub chosen_here : act_of at.value.rules latest at.value.state ≡ Some act
    chosen_here = chosen_is p latest f (present os) all_here at.value found x act has

    pub told_here : (told : SendAct) → IfSome (act_of at.value.rules latest at.value.state) (λ a. told ≡ told_of at.value.rules at.value.state a) → told ≡ told_of p x act
    told_here told e = told_is p latest f (present os) all_here at.value found x act has told e

    pub frame_here : (old new : List ℕ) → IfSome (act_of at.value.rules latest at.value.state) (λ a. new ≡ unwrap_or (frame_of_act at.value.rules at.value.flow at.value.state a) old) → new ≡ unwrap_or (frame_of_act p f x act) old
    frame_here old new e = frame_is p latest f (present os) all_here at.value found x act has old new e

    pub gram_here : IfSome (act_of at.value.rules latest at.value.state) (λ a. IfSome (frame_of_act at.value.rules at.value.flow at.value.state a) (λ octets. IsGram octets)) → IfSome (frame_of_act p f x act) (λ octets. IsGram octets)
    gram_here e = gram_is p latest f (present os) all_here at.value found x act has e

    module _ (u : SenderValue) (e : IfSome (act_of at.value.rules latest at.value.state) (λ a. u ≡ record at.value { state = unwrap_or (record_after at.value.rules latest at.value.state a) at.value.state })) where
      is_after : u ≡ sender_of p f (unwrap_or (record_after p latest x act) x)
      is_after = after_is p latest f (present os) all_here at.value found x act has u e

      pub act_entry : IsSendEntry p f u
      act_entry = entry_after p latest f (present os) all_here at.value found x act has u is_after

      pub act_goes : told_of p x act ≡ Released → (ps : Places) → ps ≡ set (Written os i at.owner u) i None → send_records (present ps) ≡ write_or_erase same_flow f (record_after p latest x act) (send_records (present os))
      act_goes released ps e = ap send_records (gone_here u ps e) ∙ goes p latest f (present os) all_here at.value found x act has u released

      pub act_stays : (told_of p x act ≡ Released → ⊥) → send_records (present (Written os i at.owner u)) ≡ write_or_erase same_flow f (record_after p latest x act) (send_records (present os))
      act_stays on = ap send_records (written_here u) ∙ stays p latest f (present os) all_here at.value found x act has u is_after on

-- A SENDER IS MADE with the first octets of its flow
module _ (p : Params) (latest : ℕ) (es : List (Flow × SenderValue)) (all : AreSendEntries p es) (f : Flow) (absent : lookup (equal_flows f) es ≡ None) (octets : List ℕ) (begin end : Bool) where
  abbrev Items : List Item
  Items = marked octets begin end false

  no_record : look same_flow f (send_records es) ≡ None
  no_record = none_is p f es all absent

  pub make_refused : (cap : ℕ) → cap ≡ p.cap → cap < length octets → IsSent p latest f Items es es (Err (send_fault.Full cap))
  make_refused cap same above = λ host.
      refused f Items (record_here p latest f es) es es host refl (put_fault p (record_here p latest f es) (length Items)) (fault.Full p.cap)
      (full_new p f es all latest no_record octets begin end (omega (arith, same))) (Err (send_fault.Full cap)) (ap (λ (n : ℕ). let r : Result (Unit {0}) SendFault = Err (send_fault.Full n) in r) same)

  pub make_wanting : (cap : ℕ) → cap ≡ p.cap → length octets ≤ cap → (es' : List (Flow × SenderValue)) → es' ≡ es → (r : Result (Unit {0}) SendFault) → r ≡ Err send_fault.NoMemory → IsSent p latest f Items es es' r
  make_wanting cap same within es' e r is = λ host.
      wanting f Items (record_here p latest f es) es es' host (ap send_records e) (put_fault p (record_here p latest f es) (length Items)) (fits_new p f es all latest no_record octets begin end (omega (arith, same))) r is

  module _ (cap : ℕ) (same : cap ≡ p.cap) (within : length octets ≤ cap) (s u : SenderValue) (fresh : s ≡ record { rules = p; flow = f; state = new_record p latest [] }) (e : u ≡ record s { state = after_put s.rules Items s.state }) where
    fresh_is : u ≡ sender_of p f (put Items (record_here p latest f es))
    fresh_is = put_new p f es all latest no_record octets begin end s u fresh (omega (arith, same)) e

    pub make_entry : IsSendEntry p f u
    make_entry = record { rules = ap (λ (w : SenderValue). w.rules) fresh_is; flow = ap (λ (w : SenderValue). w.flow) fresh_is }

    pub make_taken : (es' : List (Flow × SenderValue)) → es' ≡ insert_entry equal_flows es f u → IsSent p latest f Items es es' (Ok tt)
    make_taken es' more = λ host.
        taken f Items (record_here p latest f es) es es' host (ap send_records more ∙ records_made p f es all u ∙ ap (λ (w : SenderValue). write same_flow f w.state (send_records es)) fresh_is)
        (put_fault p (record_here p latest f es) (length Items)) (fits_new p f es all latest no_record octets begin end (omega (arith, same)))
