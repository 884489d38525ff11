-- What a receiver of a table does, in the words of the table.
use Rattle.std.proofs.Common.{ℕ, ◌≡◌, Bool, true, false, List, [], ◌∷◌, length, Option, Some, None, refl, sym, ap, subst, ◌∙◌, inl, inr, arith}
use Rattle.std.specs.Prelude.{◌++◌, drop, nat_le, nat_lt, option_map, unwrap_or}
use Rattle.std.proofs.lemmas.Bool.Decides.{nat_tests}
use Rattle.std.proofs.lemmas.Map.Steps.{set_value_same}
use Rattle.std.specs.Map.{lookup, set_value, remove_entry}
use Rattle.std.proofs.lemmas.Bool.{cases_Bool}
use Rattle.indexmap.specs.IndexMap.{insert_entry}
use Rattle.dt_items.specs.declared.item.Item.{Item}
use Rattle.dt_items.specs.declared.piece.Piece.{Piece}
use Rattle.dt_items.specs.Unread.{first_piece, marked, octets_of, piece_told}
use Rattle.dt_units.specs.declared.parameters.Params.{Params}
use Rattle.dt_units.specs.declared.endpoints.Flow.{Flow}
use Rattle.dt_flow_model.specs.declared.acts.RecvAct.{RecvAct}
use Rattle.dt_flow_model.specs.declared.acts.RecvKind.{RecvKind}
use Rattle.dt_flow_model.specs.declared.arrivals.Action.{Action}
use Rattle.dt_flow_model.specs.declared.arrivals.Action.TheVariants.{Drop, Make, TellNumber, TellExpected, Accept, Skip, Close}
use Rattle.dt_flow_model.specs.declared.arrivals.Arrived.{Arrived}
use Rattle.dt_flow_model.specs.declared.arrivals.Arrived.TheVariants.{Dropped, Replied}
use Rattle.dt_flow_model.specs.ReceiveRecord.{ReceiveRecord, Receiver, action_on, after_action, action_without, after_data, after_meet, after_read, after_recv_act, answer_to, answer_to_data, answer_to_meet, free_of, opens_window, record_read, recv_due_of, recv_told_of, standing_told, worth_telling}
use Rattle.dt_recv.specs.Receivers.{ReceiverValue}
use Rattle.dt_recv.proofs.Accepting.{action_on_is}
use Rattle.dt_world_model.specs.Tables.{same_flow, erase, look, write, write_or_erase}
use Rattle.dt_world_model.specs.Host.{Host, host_with_receiver, kept_if, no_receiver, read_octets, read_piece, receiver_at}
use Rattle.dt_world_model.proofs.Tables.{flow_is}
use Rattle.dt_host.specs.Dues.{HasRecvDue}
use Rattle.dt_host.specs.Hosts.{AreReceiveEntries, IsReceiveEntry, receiver_in, receivers_of}
use Rattle.dt_table.proofs.Entries.{all_found, all_inserted, all_removed, all_written, inserted, look_found, removed, removed_written, written}
use Rattle.dt_table.specs.Places.{equal_flows}
use Rattle.dt_world_model.proofs.Maps.{flows_agree}

-- the receiver of an entry, by its parts
abbrev pub receiver_of : Params → Flow → Receiver → ReceiverValue
receiver_of p f r = record { rules = p; flow = f; state = r }

-- the receiver that a flow has in a table, or the one that stands for none
abbrev pub receiver_found : Flow → List (Flow × ReceiverValue) → Receiver
receiver_found f es = unwrap_or (look same_flow f (receivers_of es)) no_receiver

abbrev pub with_receivers : Host → List (Flow × Receiver) → Host
with_receivers host rs = record host { receivers = rs }

-- RECEIVERS THAT STAY: those that have a record, or unread octets
abbrev pub IsKept : Receiver → Type 0
IsKept r = kept_if r.unread r.standing ≡ Some r

kept_standing : (unread : List Item) (y : ReceiveRecord) → IsKept (record { unread = unread; standing = Some y })
kept_standing [] y = refl
kept_standing (i ∷ is) y = refl

kept_action : (p : Params) (now : ℕ) (unread : List Item) (standing : Option ReceiveRecord) (number : ℕ) (items : List Item) (a : Action) → IsKept (record { unread = unread; standing = standing }) → IsKept (after_action p now unread standing number items a)
kept_action p now unread standing number items Drop h = h
kept_action p now unread standing number items Make h = kept_standing _ _
kept_action p now unread None number items TellNumber h = h
kept_action p now unread (Some y) number items TellNumber h = kept_standing _ _
kept_action p now unread None number items TellExpected h = h
kept_action p now unread (Some y) number items TellExpected h = kept_standing _ _
kept_action p now unread standing number items Accept h = kept_standing _ _
kept_action p now unread standing number items Skip h = kept_standing _ _
kept_action p now unread standing number items Close h = h

pub kept_data : (p : Params) (now : ℕ) (drf : Bool) (number : ℕ) (items : List Item) (r : Receiver) → IsKept r → IsKept (after_data p now r drf number items)
kept_data p now drf number items r h = kept_action p now r.unread r.standing number items (action_on p r drf number items) h

-- one that is made
pub kept_made : (p : Params) (now : ℕ) (drf : Bool) (number : ℕ) (items : List Item) → action_on p no_receiver drf number items ≡ Make → IsKept (after_data p now no_receiver drf number items)
kept_made p now drf number items e = subst (λ (a : Action). IsKept (after_action p now [] None number items a)) (sym e) (kept_standing _ _)

pub made_with : (p : Params) (f : Flow) (now : ℕ) (drf : Bool) (number : ℕ) (items : List Item) (u t : ReceiverValue) → u ≡ receiver_of p f no_receiver → t ≡ record u { state = after_data u.rules now u.state drf number items } → t ≡ receiver_of p f (after_data p now no_receiver drf number items)
made_with p f now drf number items u t new e = e ∙ ap (λ (w : ReceiverValue). receiver_of w.rules w.flow (after_data w.rules now w.state drf number items)) new

kept_told : (unread : List Item) (standing : Option ReceiveRecord) (free : ℕ) → IsKept (record { unread = unread; standing = standing }) → IsKept (record { unread = unread; standing = standing_told standing free })
kept_told unread None free h = h
kept_told unread (Some y) free h = kept_standing _ _

pub kept_meet : (p : Params) (r : Receiver) → IsKept r → IsKept (after_meet p r)
kept_meet p r h = kept_told r.unread r.standing _ h

pub idle_goes : (r : Receiver) → (r.standing ≡ None) × (r.unread ≡ []) → kept_if r.unread r.standing ≡ None
idle_goes r h = rw (h.0, h.1) refl

busy : (unread : List Item) (standing : Option ReceiveRecord) → ((standing ≡ None) × (unread ≡ []) → ⊥) → IsKept (record { unread = unread; standing = standing })
busy [] None h = absurd (h (refl, refl))
busy [] (Some y) h = refl
busy (i ∷ is) standing h = refl

pub busy_stays : (r : Receiver) → ((r.standing ≡ None) × (r.unread ≡ []) → ⊥) → IsKept r
busy_stays r h = busy r.unread r.standing h

abbrev pub IsIdle : ReceiverValue → Type 0
IsIdle t = (t.state.standing ≡ None) × (t.state.unread ≡ [])

-- READS
same_room : (p : Params) (free : ℕ) (y : ReceiveRecord) → opens_window p free free y ≡ false
same_room p free y =
    elim (cases_Bool (nat_lt free (worth_telling p))) [
      | inl below ↦ let above : nat_le (worth_telling p) free ≡ false = grind (arith, nat_tests) in rw (below, above) refl
      | inr above ↦ rw above refl
    ]

record_unread : (p : Params) (now free : ℕ) (standing : Option ReceiveRecord) → record_read p now free free standing ≡ standing
record_unread p now free None = refl
record_unread p now free (Some y) = rw (same_room p free y) refl

-- a read of nothing changes nothing
pub unread_stays : (p : Params) (now : ℕ) (r : Receiver) → after_read p now 0 r ≡ r
unread_stays p now r = ap (λ (o : Option ReceiveRecord). let s : Receiver = record { unread = r.unread; standing = o } in s) (record_unread p now (free_of p r.unread) r.standing)

pub piece_is : (p : Params) (now : ℕ) (f : Flow) (items : List Item) (host : Host) → (read_piece p now f items host).0 ≡ items
piece_is p now f [] host = refl
piece_is p now f (i ∷ is) host = refl

after_piece : (p : Params) (now : ℕ) (f : Flow) (items : List Item) (host : Host) → (items ≡ [] → ⊥) → (read_piece p now f items host).1 ≡ host_with_receiver host f (after_read p now (length items) (receiver_at host f))
after_piece p now f [] host some = absurd (some refl)
after_piece p now f (i ∷ is) host some = refl

pub told_some : (items : List Item) (x : Piece) → Some x ≡ piece_told items → items ≡ [] → ⊥
told_some [] x h e = cc
told_some (i ∷ is) x h e = cc

-- A FLOW WITHOUT A RECEIVER: its whole queue is free
pub free_whole : (p : Params) → p.rcap ≡ free_of p []
free_whole p = omega arith

pub met_without : (p : Params) (number : ℕ) → Replied number p.rcap ≡ answer_to_meet p no_receiver number
met_without p number = ap (λ (window : ℕ). Replied number window) (free_whole p)

module _ (p : Params) (now : ℕ) (drf : Bool) (number : ℕ) (items : List Item) where
  pub told_without : action_on p no_receiver drf number items ≡ TellNumber → Replied number p.rcap ≡ answer_to_data p no_receiver drf number items
  told_without is = met_without p number ∙ ap (λ (a : Action). answer_to None number (length items) (free_of p []) a) (sym is)

  pub stays_without : action_on p no_receiver drf number items ≡ TellNumber → after_data p now no_receiver drf number items ≡ no_receiver
  stays_without is = ap (λ (a : Action). after_action p now [] None number items a) is

  pub dropped_without : action_on p no_receiver drf number items ≡ Drop → Dropped ≡ answer_to_data p no_receiver drf number items
  dropped_without is = ap (λ (a : Action). answer_to None number (length items) (free_of p []) a) (sym is)

  pub ignores_without : action_on p no_receiver drf number items ≡ Drop → after_data p now no_receiver drf number items ≡ no_receiver
  ignores_without is = ap (λ (a : Action). after_action p now [] None number items a) is

-- without a record the action is looked up with a whole queue
pub looked_up : (p : Params) (drf : Bool) (number : ℕ) (octets : List ℕ) (begin end : Bool) (free : ℕ) (a : Action) → free ≡ p.rcap → a ≡ action_without drf (nat_le (length octets) free) → a ≡ action_on p no_receiver drf number (marked octets begin end false)
looked_up p drf number octets begin end free a whole is = action_on_is p no_receiver drf number octets begin end {expected = None} {free = free} refl (whole ∙ free_whole p) is

-- it is one of three
pub drops : (drf fits : Bool) (a : Action) → a ≡ action_without drf fits → (a ≡ Make → ⊥) → (a ≡ TellNumber → ⊥) → a ≡ Drop
drops false fits a is not_make not_tell = is
drops true true a is not_make not_tell = absurd (not_make is)
drops true false a is not_make not_tell = absurd (not_tell is)

erase_none : (f : Flow) (rs : List (Flow × Receiver)) → look same_flow f rs ≡ None → erase same_flow f rs ≡ rs
erase_none f [] h = refl
erase_none f (e ∷ rs) h =
    elim (cases_Bool (same_flow e.0 f)) [
      | inl y ↦ let found : Some e.1 ≡ None = rw y at h in absurd cc
      | inr n ↦ let none : look same_flow f rs ≡ None = rw n at h in rw n (ap (λ (r : List (Flow × Receiver)). e ∷ r) (erase_none f rs none))
    ]

pub look_none : (f : Flow) (es : List (Flow × ReceiverValue)) → lookup (equal_flows f) es ≡ None → look same_flow f (receivers_of es) ≡ None
look_none f es none = look_found equal_flows same_flow flows_agree flow_is ReceiverValue Receiver receiver_in f es ∙ ap (option_map receiver_in) none

module _ (f : Flow) (es : List (Flow × ReceiverValue)) (none : look same_flow f (receivers_of es) ≡ None) where
  pub nothing : receiver_found f es ≡ no_receiver
  nothing = ap (λ (o : Option Receiver). unwrap_or o no_receiver) none

  -- nothing is read
  module _ (p : Params) (now most : ℕ) (host : Host) where
    pub no_piece : None ≡ piece_told (read_octets p now f most (with_receivers host (receivers_of es))).0
    no_piece = ap (λ (r : Receiver). piece_told (read_piece p now f (first_piece most r.unread) (with_receivers host (receivers_of es))).0) (sym nothing)

    pub no_octets : (buf : List ℕ) → buf ≡ octets_of (read_octets p now f most (with_receivers host (receivers_of es))).0 ++ drop (length (read_octets p now f most (with_receivers host (receivers_of es))).0) buf
    no_octets buf = ap (λ (r : Receiver). let items = (read_piece p now f (first_piece most r.unread) (with_receivers host (receivers_of es))).0 in octets_of items ++ drop (length items) buf) (sym nothing)

    pub no_read : with_receivers host (receivers_of es) ≡ (read_octets p now f most (with_receivers host (receivers_of es))).1
    no_read = ap (λ (r : Receiver). (read_piece p now f (first_piece most r.unread) (with_receivers host (receivers_of es))).1) (sym nothing)

  -- a step that leaves none changes no table
  pub unchanged : (step : Receiver → Receiver) → step no_receiver ≡ no_receiver → (host : Host) → with_receivers host (receivers_of es) ≡ host_with_receiver (with_receivers host (receivers_of es)) f (step (receiver_found f es))
  unchanged step e host =
      let same : receivers_of es ≡ write_or_erase same_flow f None (receivers_of es) = sym (erase_none f (receivers_of es) none) in
      ap (λ (rs : List (Flow × Receiver)). with_receivers host rs) same
      ∙ ap (λ (r : Receiver). host_with_receiver (with_receivers host (receivers_of es)) f r) (sym (ap step nothing ∙ e))

  module _ (p : Params) (all : AreReceiveEntries p es) (t : ReceiverValue) (step : Receiver → Receiver) (e : t ≡ receiver_of p f (step no_receiver)) (kept : IsKept (step no_receiver)) (after : List (Flow × ReceiverValue)) (w : after ≡ insert_entry equal_flows es f t) where
    -- a receiver that is made comes last
    pub made : (host : Host) → with_receivers host (receivers_of after) ≡ host_with_receiver (with_receivers host (receivers_of es)) f (step (receiver_found f es))
    made host =
        let state : t.state ≡ step no_receiver = ap (λ (u : ReceiverValue). u.state) e in
        let there : receivers_of after ≡ write same_flow f (step no_receiver) (receivers_of es) =
        ap receivers_of w ∙ inserted equal_flows same_flow flows_agree flow_is ReceiverValue Receiver receiver_in f t es ∙ ap (λ (r : Receiver). write same_flow f r (receivers_of es)) state in
        let whole : receivers_of after ≡ write_or_erase same_flow f (kept_if (step no_receiver).unread (step no_receiver).standing) (receivers_of es) =
        there ∙ ap (λ (o : Option Receiver). write_or_erase same_flow f o (receivers_of es)) (sym kept) in
        ap (λ (rs : List (Flow × Receiver)). with_receivers host rs) whole
        ∙ ap (λ (r : Receiver). host_with_receiver (with_receivers host (receivers_of es)) f (step r)) (sym nothing)

    pub all_made : AreReceiveEntries p after
    all_made =
        let entry : IsReceiveEntry p f t = subst (λ (u : ReceiverValue). IsReceiveEntry p f u) (sym e) (record { rules = refl; flow = refl; stays = kept }) in
        subst (λ (l : List (Flow × ReceiverValue)). AreReceiveEntries p l) (sym w) (all_inserted equal_flows same_flow flows_agree flow_is ReceiverValue (IsReceiveEntry p) f t es all entry)

-- A DATA PACKET of a flow without a receiver
pub looked_without : (p : Params) (drf : Bool) (number : ℕ) (octets : List ℕ) (begin end : Bool) (q : Params) (a : Action) → q ≡ p → a ≡ action_without drf (nat_le (length octets) q.rcap) → a ≡ action_on p no_receiver drf number (marked octets begin end false)
looked_without p drf number octets begin end q a same is = looked_up p drf number octets begin end q.rcap a (ap (λ (r : Params). r.rcap) same) is

module _ (f : Flow) (es : List (Flow × ReceiverValue)) (absent : lookup (equal_flows f) es ≡ None) where
  -- what is answered, and the host as it was
  abbrev pub IsAnsweredAlone : Params → ℕ → Bool → ℕ → List Item → Arrived → Host → Type 0
  IsAnsweredAlone p now drf number items answer host =
      (answer ≡ answer_to_data p (receiver_found f es) drf number items)
      × (with_receivers host (receivers_of es) ≡ host_with_receiver (with_receivers host (receivers_of es)) f (after_data p now (receiver_found f es) drf number items))

  pub made_without : (p : Params) (drf : Bool) (number : ℕ) (items : List Item) → action_on p no_receiver drf number items ≡ Make → (look same_flow f (receivers_of es) ≡ None) × (action_on p (receiver_found f es) drf number items ≡ Make)
  made_without p drf number items is = (look_none f es absent, ap (λ (r : Receiver). action_on p r drf number items) (nothing f es (look_none f es absent)) ∙ is)

  module _ (p : Params) (now : ℕ) (drf : Bool) (number : ℕ) (items : List Item) where
    alone : (answer : Arrived) → answer ≡ answer_to_data p no_receiver drf number items → after_data p now no_receiver drf number items ≡ no_receiver → (host : Host) → IsAnsweredAlone p now drf number items answer host
    alone answer is same host =
        let none = look_none f es absent in
        (is ∙ ap (λ (r : Receiver). answer_to_data p r drf number items) (sym (nothing f es none)), unchanged f es none (λ (r : Receiver). after_data p now r drf number items) same host)

    pub told_alone : action_on p no_receiver drf number items ≡ TellNumber → (host : Host) → IsAnsweredAlone p now drf number items (Replied number p.rcap) host
    told_alone is = alone (Replied number p.rcap) (told_without p now drf number items is) (stays_without p now drf number items is)

    pub dropped_alone : action_on p no_receiver drf number items ≡ Drop → (host : Host) → IsAnsweredAlone p now drf number items Dropped host
    dropped_alone is = alone Dropped (dropped_without p now drf number items is) (ignores_without p now drf number items is)

-- A FLOW WITH A RECEIVER
module _ (f : Flow) (es : List (Flow × ReceiverValue)) (v : ReceiverValue) (found : lookup (equal_flows f) es ≡ Some v) where
  pub look_is : look same_flow f (receivers_of es) ≡ Some v.state
  look_is = look_found equal_flows same_flow flows_agree flow_is ReceiverValue Receiver receiver_in f es ∙ ap (option_map receiver_in) found

  pub found_is : receiver_found f es ≡ v.state
  found_is = ap (λ (o : Option Receiver). unwrap_or o no_receiver) look_is

  module _ (p : Params) (all : AreReceiveEntries p es) where
    pub entry_is : IsReceiveEntry p f v
    entry_is = all_found equal_flows same_flow flows_agree flow_is ReceiverValue (IsReceiveEntry p) f v es all found

    pub value_is : v ≡ receiver_of p f v.state
    value_is = ap (λ (q : Params). receiver_of q v.flow v.state) entry_is.rules ∙ ap (λ (g : Flow). receiver_of p g v.state) entry_is.flow

    pub moved : (step : Params → Receiver → Receiver) (t : ReceiverValue) → t ≡ record v { state = step v.rules v.state } → t ≡ receiver_of p f (step p v.state)
    moved step t e = e ∙ ap (λ (u : ReceiverValue). receiver_of u.rules u.flow (step u.rules u.state)) value_is

    module _ (t : ReceiverValue) (r : Receiver) (e : t ≡ receiver_of p f r) where
      -- a receiver that isn't idle stays in its place
      pub stays : IsKept r → receivers_of (set_value (equal_flows f) es t) ≡ write_or_erase same_flow f (kept_if r.unread r.standing) (receivers_of es)
      stays kept =
          written equal_flows same_flow flows_agree flow_is ReceiverValue Receiver receiver_in f t v es found
          ∙ ap (λ (u : ReceiverValue). write same_flow f u.state (receivers_of es)) e
          ∙ ap (λ (o : Option Receiver). write_or_erase same_flow f o (receivers_of es)) (sym kept)

      -- an idle one goes
      pub goes : kept_if r.unread r.standing ≡ None → receivers_of (remove_entry (equal_flows f) (set_value (equal_flows f) es t)) ≡ write_or_erase same_flow f (kept_if r.unread r.standing) (receivers_of es)
      goes idle =
          ap receivers_of (removed_written equal_flows same_flow flows_agree flow_is ReceiverValue Receiver receiver_in f t es)
          ∙ removed equal_flows same_flow flows_agree flow_is ReceiverValue Receiver receiver_in f es
          ∙ ap (λ (o : Option Receiver). write_or_erase same_flow f o (receivers_of es)) (sym idle)

      pub all_stay : IsKept r → AreReceiveEntries p (set_value (equal_flows f) es t)
      all_stay kept =
          let entry : IsReceiveEntry p f t = subst (λ (u : ReceiverValue). IsReceiveEntry p f u) (sym e) (record { rules = refl; flow = refl; stays = kept }) in
          all_written equal_flows same_flow flows_agree flow_is ReceiverValue (IsReceiveEntry p) f t es all entry

    pub all_left : (t : ReceiverValue) → AreReceiveEntries p (remove_entry (equal_flows f) (set_value (equal_flows f) es t))
    all_left t =
        subst (λ (l : List (Flow × ReceiverValue)). AreReceiveEntries p l) (sym (removed_written equal_flows same_flow flows_agree flow_is ReceiverValue Receiver receiver_in f t es))
        (all_removed equal_flows same_flow flows_agree flow_is ReceiverValue (IsReceiveEntry p) f es all)

    -- a receiver after a call by which it may become idle
    module _ (t : ReceiverValue) (r : Receiver) (e : t ≡ receiver_of p f r) (after : List (Flow × ReceiverValue)) where
      busy_kept : (IsIdle t → ⊥) → IsKept r
      busy_kept busy = subst (λ (u : ReceiverValue). IsKept u.state) e (busy_stays t.state busy)

      pub gone : IsIdle t → after ≡ remove_entry (equal_flows f) (set_value (equal_flows f) es t) → (host : Host) → with_receivers host (receivers_of after) ≡ host_with_receiver (with_receivers host (receivers_of es)) f r
      gone idle w host =
          let none : kept_if r.unread r.standing ≡ None = ap (λ (u : ReceiverValue). kept_if u.state.unread u.state.standing) (sym e) ∙ idle_goes t.state idle in
          ap (λ (rs : List (Flow × Receiver)). with_receivers host rs) (ap receivers_of w ∙ goes t r e none)

      pub stayed : (IsIdle t → ⊥) → after ≡ set_value (equal_flows f) es t → (host : Host) → with_receivers host (receivers_of after) ≡ host_with_receiver (with_receivers host (receivers_of es)) f r
      stayed busy w host = ap (λ (rs : List (Flow × Receiver)). with_receivers host rs) (ap receivers_of w ∙ stays t r e (busy_kept busy))

    -- a read
    module _ (now most : ℕ) where
      pub taken_is : (host : Host) → (read_octets p now f most (with_receivers host (receivers_of es))).0 ≡ first_piece most v.state.unread
      taken_is host = piece_is p now f (first_piece most (receiver_found f es).unread) (with_receivers host (receivers_of es)) ∙ ap (λ (r : Receiver). first_piece most r.unread) found_is

      -- the receiver after it
      abbrev pub read_from : Receiver → Receiver
      read_from r = after_read p now (length (first_piece most r.unread)) r

      pub read_moved : (t : ReceiverValue) → t ≡ record v { state = after_read v.rules now (length (first_piece most v.state.unread)) v.state } → t ≡ receiver_of p f (read_from v.state)
      read_moved t e = moved (λ (q : Params) (r : Receiver). after_read q now (length (first_piece most r.unread)) r) t e

      pub read_some : (x : Piece) → Some x ≡ piece_told (first_piece most v.state.unread) → (host : Host) → host_with_receiver (with_receivers host (receivers_of es)) f (read_from v.state) ≡ (read_octets p now f most (with_receivers host (receivers_of es))).1
      read_some x told host =
          let before = with_receivers host (receivers_of es) in
          let some : first_piece most (receiver_found f es).unread ≡ [] → ⊥ = λ none. told_some (first_piece most v.state.unread) x told (ap (λ (r : Receiver). first_piece most r.unread) (sym found_is) ∙ none) in
          ap (λ (r : Receiver). host_with_receiver before f (read_from r)) (sym found_is)
          ∙ sym (after_piece p now f (first_piece most (receiver_found f es).unread) before some)

      -- nothing was unread
      module _ (empty : v.state.unread ≡ []) (t : ReceiverValue) (e : t ≡ record v { state = after_read v.rules now (length (first_piece most v.state.unread)) v.state }) (after : List (Flow × ReceiverValue)) (w : after ≡ set_value (equal_flows f) es t) where
        none_left : first_piece most v.state.unread ≡ []
        none_left = ap (first_piece most) empty

        pub unread_same : t ≡ v
        unread_same =
            e ∙ ap (λ (items : List Item). receiver_of v.rules v.flow (after_read v.rules now (length items) v.state)) none_left
            ∙ ap (λ (r : Receiver). receiver_of v.rules v.flow r) (unread_stays v.rules now v.state)

        table_same : after ≡ es
        table_same = w ∙ ap (set_value (equal_flows f) es) unread_same ∙ set_value_same (equal_flows f) es v found

        pub read_none : (host : Host) → with_receivers host (receivers_of after) ≡ (read_octets p now f most (with_receivers host (receivers_of es))).1
        read_none host =
            let before = with_receivers host (receivers_of es) in
            ap (λ (l : List (Flow × ReceiverValue)). with_receivers host (receivers_of l)) table_same
            ∙ ap (λ (items : List Item). (read_piece p now f items before).1) (sym (ap (λ (r : Receiver). first_piece most r.unread) found_is ∙ none_left))

    -- a step of a receiver that stays
    module _ (step : Params → Receiver → Receiver) (keeps : (r : Receiver) → IsKept r → IsKept (step p r)) (t : ReceiverValue) (e : t ≡ record v { state = step v.rules v.state }) (after : List (Flow × ReceiverValue)) (w : after ≡ set_value (equal_flows f) es t) where
      kept : IsKept (step p v.state)
      kept = keeps v.state entry_is.stays

      pub stepped : (host : Host) → with_receivers host (receivers_of after) ≡ host_with_receiver (with_receivers host (receivers_of es)) f (step p (receiver_found f es))
      stepped host =
          ap (λ (rs : List (Flow × Receiver)). with_receivers host rs) (ap receivers_of w ∙ stays t (step p v.state) (moved step t e) kept)
          ∙ ap (λ (r : Receiver). host_with_receiver (with_receivers host (receivers_of es)) f (step p r)) (sym found_is)

    -- what it answers
    pub answered : {A : Type 0} (answer : Params → Receiver → A) → answer v.rules v.state ≡ answer p (receiver_found f es)
    answered answer = ap (λ (q : Params). answer q v.state) entry_is.rules ∙ ap (λ (r : Receiver). answer p r) (sym found_is)

    -- what it does by itself
    module _ (now : ℕ) (r : Receiver) (y : ReceiveRecord) (kind : RecvKind) (moment : ℕ) (h : HasRecvDue p now (look same_flow f (receivers_of es)) r y kind moment) where
      pub state_is : v.state ≡ r
      state_is = let e : Some v.state ≡ Some r = sym look_is ∙ h.there in cc

      pub stands_is : v.state.standing ≡ Some y
      stands_is = ap (λ (s : Receiver). s.standing) state_is ∙ h.stands

      pub due_is : recv_due_of v.rules now v.state.standing ≡ Some (kind, moment)
      due_is = ap (λ (q : Params). recv_due_of q now v.state.standing) entry_is.rules ∙ ap (λ (o : Option ReceiveRecord). recv_due_of p now o) stands_is ∙ h.chosen

      pub recv_told : (told : RecvAct) → told ≡ recv_told_of v.rules v.state.unread y kind → told ≡ recv_told_of p r.unread y kind
      recv_told told e = e ∙ ap (λ (q : Params). recv_told_of q v.state.unread y kind) entry_is.rules ∙ ap (λ (s : Receiver). recv_told_of p s.unread y kind) state_is

      pub acted : (t : ReceiverValue) → t ≡ record v { state = after_recv_act v.rules v.state kind } → t ≡ receiver_of p f (after_recv_act p r kind)
      acted t e = moved (λ (q : Params) (s : Receiver). after_recv_act q s kind) t e ∙ ap (λ (s : Receiver). receiver_of p f (after_recv_act p s kind)) state_is
