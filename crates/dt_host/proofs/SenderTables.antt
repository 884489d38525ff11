-- What calls of the table of senders mean for the host.
use Rattle.std.proofs.Common.{ℕ, ◌+◌, ◌≡◌, ◌≤◌, ◌<◌, Bool, true, false, List, [], length, Option, Some, None, Result, Ok, Err, refl, sym, ap, subst, ◌∙◌, arith}
use Rattle.std.proofs.lemmas.Bool.Decides.{nat_tests}
use Rattle.std.specs.Prelude.{option_map, nat_le, if◌then◌else◌}
use Rattle.std.specs.Option.{option_and_then}
use Rattle.std.specs.Map.{lookup, set_value}
use Rattle.std.proofs.lemmas.Map.Steps.{set_value_same}
use Rattle.indexmap.specs.IndexMap.{insert_entry}
use Rattle.dt_items.specs.declared.item.Item.{Item}
use Rattle.dt_items.specs.Unread.{marked}
use Rattle.dt_items.proofs.Marks.{length-marked}
use Rattle.dt_units.specs.declared.parameters.Params.{Params}
use Rattle.dt_units.specs.declared.endpoints.Flow.{Flow}
use Rattle.dt_flow_model.specs.declared.faults.PutFault.{PutFault}
use Rattle.dt_flow_model.specs.declared.faults.PutFault.TheVariants as put_fault
use Rattle.dt_flow_model.specs.declared.arrivals.Arrived.TheVariants.{Acked, Dropped}
use Rattle.dt_flow_model.specs.Numbering.{number_of}
use Rattle.dt_flow_model.specs.Acting.{record_for}
use Rattle.dt_flow_model.specs.SendRecord.{SendRecord, after_put, fits, new_record, on_ack, put, put_fault as fault_of_put, room_of}
use Rattle.dt_send.specs.Senders.{SenderValue}
use Rattle.dt_world_model.specs.Host.{Host, ack_answer, send_into, sender_at}
use Rattle.dt_world_model.specs.Tables.{same_flow, look, write}
use Rattle.dt_world_model.proofs.Tables.{flow_is}
use Rattle.dt_host.specs.Answers.{IsAnswerTo, or_stays, send_fault_of}
use Rattle.dt_host.specs.declared.faults.SendFault.{SendFault}
use Rattle.dt_host.specs.declared.faults.SendFault.TheVariants as fault
use Rattle.dt_host.specs.Hosts.{AreSendEntries, IsSendEntry, send_record, send_records}
use Rattle.dt_table.proofs.Entries.{all_found, all_inserted, inserted, look_found, written}
use Rattle.dt_table.specs.Places.{equal_flows}
use Rattle.dt_world_model.proofs.Maps.{flows_agree}

-- a host with these senders
abbrev pub with_senders : Host → List (Flow × SenderValue) → Host
with_senders host es = record host { senders = send_records es }

-- the record that a send of the flow meets
abbrev pub record_here : Params → ℕ → Flow → List (Flow × SenderValue) → SendRecord
record_here p now f es = record_for p now (look same_flow f (send_records es))

-- A SEND, by what its record says of it
module _ (f : Flow) (items : List Item) (x : SendRecord) (es es' : List (Flow × SenderValue)) (host : Host) where
  -- the answer and the host after it, as the record says
  abbrev pub IsSentBy : Option PutFault → Result (Unit {0}) SendFault → Type 0
  IsSentBy d r =
      let done = send_into f items x (with_senders host es) d in
      IsAnswerTo done.0 r × (with_senders host es' ≡ or_stays r done.1 (with_senders host es))

  pub refused : send_records es' ≡ send_records es → (d : Option PutFault) (why : PutFault) → d ≡ Some why → (r : Result (Unit {0}) SendFault) → r ≡ Err (send_fault_of why) → IsSentBy d r
  refused same d (put_fault.Full free) e r is = rw (e, is) (refl, ap (λ (ss : List (Flow × SendRecord)). record host { senders = ss }) same)

  pub wanting : send_records es' ≡ send_records es → (d : Option PutFault) → d ≡ None → (r : Result (Unit {0}) SendFault) → r ≡ Err fault.NoMemory → IsSentBy d r
  wanting same d e r is = rw (e, is) (refl, ap (λ (ss : List (Flow × SendRecord)). record host { senders = ss }) same)

  pub taken : send_records es' ≡ write same_flow f (put items x) (send_records es) → (d : Option PutFault) → d ≡ None → IsSentBy d (Ok tt)
  taken wrote d e = rw e (refl, ap (λ (ss : List (Flow × SendRecord)). record host { senders = ss }) wrote)

-- what is put where there is no fault
pub put_whole : (p : Params) (items : List Item) (x : SendRecord) → fault_of_put p x (length items) ≡ None → after_put p items x ≡ put items x
put_whole p items x e = by (fits p x (length items)) e
  where
    by : (b : Bool) → (if b then None else Some (put_fault.Full (room_of p x))) ≡ None → (if b then put items x else x) ≡ put items x
    by true e = refl
    by false e = absurd cc

pub put_nothing : (p : Params) (items : List Item) (x : SendRecord) (why : PutFault) → fault_of_put p x (length items) ≡ Some why → after_put p items x ≡ x
put_nothing p items x why e = by (fits p x (length items)) e
  where
    by : (b : Bool) → (if b then None else Some (put_fault.Full (room_of p x))) ≡ Some why → (if b then put items x else x) ≡ x
    by true e = absurd cc
    by false e = refl

-- a sender by its parts
abbrev pub sender_of : Params → Flow → SendRecord → SenderValue
sender_of p f x = record { rules = p; flow = f; state = x }

abbrev sender_with : SenderValue → SendRecord → SenderValue
sender_with s x = record s { state = x }

-- a new record has room for `cap` octets
pub new_is_full : (p : Params) (now count : ℕ) → p.cap < count → fault_of_put p (new_record p now []) count ≡ Some (put_fault.Full p.cap)
new_is_full p now count h =
    let b : nat_le (0 + count) p.cap ≡ false = grind (arith, nat_tests) in
    rw b (ap (λ (free : ℕ). Some (put_fault.Full free)) (omega arith))

pub new_fits : (p : Params) (now count : ℕ) → count ≤ p.cap → fault_of_put p (new_record p now []) count ≡ None
new_fits p now count h = let b : nat_le (0 + count) p.cap ≡ true = grind (arith, nat_tests) in rw b refl

module _ (p : Params) (f : Flow) (es : List (Flow × SenderValue)) (all : AreSendEntries p es) where
  pub new_is : (now : ℕ) → look same_flow f (send_records es) ≡ None → record_here p now f es ≡ new_record p now []
  new_is now gone = ap (record_for p now) gone

  -- a new sender stands at the end
  pub records_made : (t : SenderValue) → send_records (insert_entry equal_flows es f t) ≡ write same_flow f t.state (send_records es)
  records_made t = inserted equal_flows same_flow flows_agree flow_is SenderValue SendRecord send_record f t es

  pub all_made : (t : SenderValue) → t.rules ≡ p → t.flow ≡ f → AreSendEntries p (insert_entry equal_flows es f t)
  all_made t rules flow = all_inserted equal_flows same_flow flows_agree flow_is SenderValue (IsSendEntry p) f t es all (record { rules = rules; flow = flow })

  -- octets are put into a new sender
  module _ (now : ℕ) (gone : look same_flow f (send_records es) ≡ None) (octets : List ℕ) (begin end : Bool) where
    fault_new : fault_of_put p (record_here p now f es) (length (marked octets begin end false)) ≡ fault_of_put p (new_record p now []) (length octets)
    fault_new = ap (λ (x : SendRecord). fault_of_put p x (length (marked octets begin end false))) (new_is now gone) ∙ ap (λ (n : ℕ). fault_of_put p (new_record p now []) n) (length-marked octets begin end false)

    pub full_new : p.cap < length octets → fault_of_put p (record_here p now f es) (length (marked octets begin end false)) ≡ Some (put_fault.Full p.cap)
    full_new h = fault_new ∙ new_is_full p now (length octets) h

    pub fits_new : length octets ≤ p.cap → fault_of_put p (record_here p now f es) (length (marked octets begin end false)) ≡ None
    fits_new h = fault_new ∙ new_fits p now (length octets) h

    pub put_new : (s t : SenderValue) → s ≡ record { rules = p; flow = f; state = new_record p now [] } → length octets ≤ p.cap → t ≡ record s { state = after_put s.rules (marked octets begin end false) s.state }
        → t ≡ record { rules = p; flow = f; state = put (marked octets begin end false) (record_here p now f es) }
    put_new s t made h e =
        let items = marked octets begin end false in
        let one : t ≡ record { rules = p; flow = f; state = after_put p items (new_record p now []) } = e ∙ ap (λ (u : SenderValue). sender_with u (after_put u.rules items u.state)) made in
        let fits : fault_of_put p (new_record p now []) (length items) ≡ None = ap (λ (n : ℕ). fault_of_put p (new_record p now []) n) (length-marked octets begin end false) ∙ new_fits p now (length octets) h in
        let state : after_put p items (new_record p now []) ≡ put items (record_here p now f es) = put_whole p items (new_record p now []) fits ∙ ap (put items) (sym (new_is now gone)) in
        one ∙ ap (λ (x : SendRecord). sender_of p f x) state

  pub none_is : lookup (equal_flows f) es ≡ None → look same_flow f (send_records es) ≡ None
  none_is gone = look_found equal_flows same_flow flows_agree flow_is SenderValue SendRecord send_record f es ∙ ap (option_map send_record) gone

  pub no_number : (count : SendRecord → ℕ) → lookup (equal_flows f) es ≡ None → None ≡ option_map (λ (x : SendRecord). number_of p (count x)) (look same_flow f (send_records es))
  no_number count gone = sym (ap (option_map (λ (x : SendRecord). number_of p (count x))) (none_is gone))

  module _ (s : SenderValue) (found : lookup (equal_flows f) es ≡ Some s) where
    pub entry_is : IsSendEntry p f s
    entry_is = all_found equal_flows same_flow flows_agree flow_is SenderValue (IsSendEntry p) f s es all found

    pub look_is : look same_flow f (send_records es) ≡ Some s.state
    look_is = look_found equal_flows same_flow flows_agree flow_is SenderValue SendRecord send_record f es ∙ ap (option_map send_record) found

    pub here_is : (now : ℕ) → record_here p now f es ≡ s.state
    here_is now = ap (record_for p now) look_is

    -- a number that its record tells
    pub number_here : (count : SendRecord → ℕ) (n : ℕ) → n ≡ number_of s.rules (count s.state) → Some n ≡ option_map (λ (x : SendRecord). number_of p (count x)) (look same_flow f (send_records es))
    number_here count n e = ap (λ (m : ℕ). Some m) (e ∙ ap (λ (q : Params). number_of q (count s.state)) entry_is.rules) ∙ sym (ap (option_map (λ (x : SendRecord). number_of p (count x))) look_is)

    -- a sender that only its record changes

    pub records_kept : (t : SenderValue) → send_records (set_value (equal_flows f) es t) ≡ write same_flow f t.state (send_records es)
    records_kept t = written equal_flows same_flow flows_agree flow_is SenderValue SendRecord send_record f t s es found

    pub unchanged : set_value (equal_flows f) es s ≡ es
    unchanged = set_value_same (equal_flows f) es s found

    -- octets are put into it
    module _ (now : ℕ) (octets : List ℕ) (begin end : Bool) where
      pub fault_is : fault_of_put p (record_here p now f es) (length (marked octets begin end false)) ≡ fault_of_put s.rules s.state (length octets)
      fault_is =
          ap (λ (x : SendRecord). fault_of_put p x (length (marked octets begin end false))) (here_is now)
          ∙ ap (λ (n : ℕ). fault_of_put p s.state n) (length-marked octets begin end false)
          ∙ ap (λ (q : Params). fault_of_put q s.state (length octets)) (sym entry_is.rules)

      pub put_here : (t : SenderValue) → fault_of_put s.rules s.state (length octets) ≡ None → t ≡ record s { state = after_put s.rules (marked octets begin end false) s.state }
          → send_records (set_value (equal_flows f) es t) ≡ write same_flow f (put (marked octets begin end false) (record_here p now f es)) (send_records es)
      put_here t fits e =
          let items = marked octets begin end false in
          let none : fault_of_put s.rules s.state (length items) ≡ None = ap (λ (n : ℕ). fault_of_put s.rules s.state n) (length-marked octets begin end false) ∙ fits in
          let state : t.state ≡ put items (record_here p now f es) = ap (λ (u : SenderValue). u.state) e ∙ put_whole s.rules items s.state none ∙ ap (put items) (sym (here_is now)) in
          records_kept t ∙ ap (λ (x : SendRecord). write same_flow f x (send_records es)) state

      pub refused_here : (t : SenderValue) (why : PutFault) → fault_of_put s.rules s.state (length octets) ≡ Some why → t ≡ record s { state = after_put s.rules (marked octets begin end false) s.state }
          → set_value (equal_flows f) es t ≡ es
      refused_here t why full e =
          let items = marked octets begin end false in
          let some : fault_of_put s.rules s.state (length items) ≡ Some why = ap (λ (n : ℕ). fault_of_put s.rules s.state n) (length-marked octets begin end false) ∙ full in
          let same : t ≡ s = e ∙ ap (λ (x : SendRecord). sender_with s x) (put_nothing s.rules items s.state why some) in
          ap (set_value (equal_flows f) es) same ∙ unchanged

    -- AN ACKNOWLEDGEMENT
    pub acked : (host : Host) (es' : List (Flow × SenderValue)) (k w count : ℕ) (t : SenderValue) → es' ≡ set_value (equal_flows f) es t → on_ack s.rules s.state k w ≡ Some (t.state, count)
        → ack_answer (with_senders host es) f (option_and_then (λ x. on_ack p x k w) (sender_at (with_senders host es) f)) ≡ (Acked count, with_senders host es')
    acked host es' k w count t e a =
        let acks : on_ack p s.state k w ≡ Some (t.state, count) = subst (λ (q : Params). on_ack q s.state k w ≡ Some (t.state, count)) entry_is.rules a in
        let both : option_and_then (λ (x : SendRecord). on_ack p x k w) (look same_flow f (send_records es)) ≡ Some (t.state, count) = ap (option_and_then (λ (x : SendRecord). on_ack p x k w)) look_is ∙ acks in
        ap (ack_answer (with_senders host es) f) both
        ∙ ap (λ (ss : List (Flow × SendRecord)). (Acked count, record host { senders = ss })) (sym (ap send_records e ∙ records_kept t))

    pub ignored : (host : Host) (es' : List (Flow × SenderValue)) (k w : ℕ) → es' ≡ set_value (equal_flows f) es s → on_ack s.rules s.state k w ≡ None
        → ack_answer (with_senders host es) f (option_and_then (λ x. on_ack p x k w) (sender_at (with_senders host es) f)) ≡ (Dropped, with_senders host es')
    ignored host es' k w e a =
        let acks : on_ack p s.state k w ≡ None = subst (λ (q : Params). on_ack q s.state k w ≡ None) entry_is.rules a in
        let both : option_and_then (λ (x : SendRecord). on_ack p x k w) (look same_flow f (send_records es)) ≡ None = ap (option_and_then (λ (x : SendRecord). on_ack p x k w)) look_is ∙ acks in
        ap (ack_answer (with_senders host es) f) both
        ∙ ap (λ (ss : List (Flow × SenderValue)). (Dropped, with_senders host ss)) (sym (e ∙ unchanged))

  pub dropped : (host : Host) (es' : List (Flow × SenderValue)) (k w : ℕ) → es' ≡ es → lookup (equal_flows f) es ≡ None
      → ack_answer (with_senders host es) f (option_and_then (λ x. on_ack p x k w) (sender_at (with_senders host es) f)) ≡ (Dropped, with_senders host es')
  dropped host es' k w e gone =
      ap (λ (o : Option SendRecord). ack_answer (with_senders host es) f (option_and_then (λ (x : SendRecord). on_ack p x k w) o)) (none_is gone)
      ∙ ap (λ (ss : List (Flow × SenderValue)). (Dropped, with_senders host ss)) (sym e)
