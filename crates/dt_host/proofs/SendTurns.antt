-- What a sender of a table does, in the words of the table.
use Rattle.std.proofs.Common.{ℕ, ◌≡◌, List, Option, Some, None, refl, sym, ap, subst, ◌∙◌}
use Rattle.std.specs.Prelude.{option_map, unwrap_or, IfSome}
use Rattle.std.specs.Map.{lookup, set_value, remove_entry}
use Rattle.dt_units.specs.declared.parameters.Params.{Params}
use Rattle.dt_units.specs.declared.endpoints.Flow.{Flow}
use Rattle.dt_flow_model.specs.declared.acts.SendAct.{SendAct}
use Rattle.dt_flow_model.specs.declared.acts.SendAct.TheVariants.{Released}
use Rattle.dt_flow_model.specs.Frames.{frame_of_act}
use Rattle.dt_layout.specs.Carried.{IsGram}
use Rattle.dt_flow_model.specs.SendRecord.{SendRecord}
use Rattle.dt_flow_model.specs.SendActs.{Act, act_of, record_after, told_of}
use Rattle.dt_flow_model.specs.SendActs as model
use Rattle.dt_send.specs.Senders.{SenderValue}
use Rattle.dt_world_model.specs.Tables.{same_flow, look, write_or_erase}
use Rattle.dt_world_model.proofs.Tables.{flow_is}
use Rattle.dt_host.specs.Dues.{HasDue}
use Rattle.dt_host.specs.Hosts.{AreSendEntries, IsSendEntry, send_record, send_records}
use Rattle.dt_table.proofs.Entries.{all_found, all_removed, all_written, look_found, removed, removed_written, written}
use Rattle.dt_table.specs.Places.{equal_flows}
use Rattle.dt_world_model.proofs.Maps.{flows_agree}

-- the sender of an entry, by its parts
abbrev pub sender_of : Params → Flow → SendRecord → SenderValue
sender_of p f x = record { rules = p; flow = f; state = x }

module _ (p : Params) (now : ℕ) (f : Flow) (es : List (Flow × SenderValue)) (all : AreSendEntries p es) (s : SenderValue) (found : lookup (equal_flows f) es ≡ Some s) where
  pub entry_is : IsSendEntry p f s
  entry_is = all_found equal_flows same_flow flows_agree flow_is SenderValue (IsSendEntry p) f s es all found

  pub look_is : look same_flow f (send_records es) ≡ Some s.state
  look_is = look_found equal_flows same_flow flows_agree flow_is SenderValue SendRecord send_record f es ∙ ap (option_map send_record) found

  module _ (x : SendRecord) (act : Act) (h : HasDue p now (look same_flow f (send_records es)) x act) where
    state_is : s.state ≡ x
    state_is = let e : Some s.state ≡ Some x = sym look_is ∙ h.there in cc

    pub sender_is : s ≡ sender_of p f x
    sender_is = ap (λ (q : Params). sender_of q s.flow s.state) entry_is.rules ∙ ap (λ (g : Flow). sender_of p g s.state) entry_is.flow ∙ ap (λ (y : SendRecord). sender_of p f y) state_is

    pub chosen_is : act_of s.rules now s.state ≡ Some act
    chosen_is = ap (λ (t : SenderValue). act_of t.rules now t.state) sender_is ∙ h.chosen

    pub told_is : (told : SendAct) → IfSome (act_of s.rules now s.state) (λ a. told ≡ told_of s.rules s.state a) → told ≡ told_of p x act
    told_is told e =
        let one : told ≡ told_of s.rules s.state act = subst (λ (o : Option Act). IfSome o (λ a. told ≡ told_of s.rules s.state a)) chosen_is e in
        one ∙ ap (λ (t : SenderValue). told_of t.rules t.state act) sender_is

    pub frame_is : (was frame : List ℕ) → IfSome (act_of s.rules now s.state) (λ a. frame ≡ unwrap_or (frame_of_act s.rules s.flow s.state a) was) → frame ≡ unwrap_or (frame_of_act p f x act) was
    frame_is was frame e =
        let one : frame ≡ unwrap_or (frame_of_act s.rules s.flow s.state act) was = subst (λ (o : Option Act). IfSome o (λ a. frame ≡ unwrap_or (frame_of_act s.rules s.flow s.state a) was)) chosen_is e in
        one ∙ ap (λ (t : SenderValue). unwrap_or (frame_of_act t.rules t.flow t.state act) was) sender_is

    pub gram_is : IfSome (act_of s.rules now s.state) (λ a. IfSome (frame_of_act s.rules s.flow s.state a) (λ octets. IsGram octets)) → IfSome (frame_of_act p f x act) (λ octets. IsGram octets)
    gram_is e =
        let one : IfSome (frame_of_act s.rules s.flow s.state act) (λ octets. IsGram octets) = subst (λ (o : Option Act). IfSome o (λ a. IfSome (frame_of_act s.rules s.flow s.state a) (λ octets. IsGram octets))) chosen_is e in
        subst (λ (t : SenderValue). IfSome (frame_of_act t.rules t.flow t.state act) (λ octets. IsGram octets)) sender_is one

    pub after_is : (t : SenderValue) → IfSome (act_of s.rules now s.state) (λ a. t ≡ record s { state = unwrap_or (record_after s.rules now s.state a) s.state }) → t ≡ sender_of p f (unwrap_or (record_after p now x act) x)
    after_is t e =
        let one : t ≡ record s { state = unwrap_or (record_after s.rules now s.state act) s.state } = subst (λ (o : Option Act). IfSome o (λ a. t ≡ record s { state = unwrap_or (record_after s.rules now s.state a) s.state })) chosen_is e in
        one ∙ ap (λ (u : SenderValue). sender_of u.rules u.flow (unwrap_or (record_after u.rules now u.state act) u.state)) sender_is

    -- a sender that isn't released stays in its place
    pub stays : (t : SenderValue) → t ≡ sender_of p f (unwrap_or (record_after p now x act) x) → (told_of p x act ≡ Released → ⊥) → send_records (set_value (equal_flows f) es t) ≡ write_or_erase same_flow f (record_after p now x act) (send_records es)
    stays t e on = by (record_after p now x act) refl
      where
        unreleased : (a : Act) → record_after p now x a ≡ None → told_of p x a ≡ Released
        unreleased (model.give_up g rest) n = absurd cc
        unreleased model.release n = refl
        unreleased model.renew n = absurd cc
        unreleased (model.resend before g rest) n = absurd cc
        unreleased (model.send cut rest) n = absurd cc
        unreleased model.meet n = absurd cc

        by : (o : Option SendRecord) → record_after p now x act ≡ o → send_records (set_value (equal_flows f) es t) ≡ write_or_erase same_flow f o (send_records es)
        by None n = elim (on (unreleased act n)) [ ]
        by (Some x') n =
            let state : t.state ≡ x' = ap (λ (u : SenderValue). u.state) e ∙ ap (λ (o : Option SendRecord). unwrap_or o x) n in
            written equal_flows same_flow flows_agree flow_is SenderValue SendRecord send_record f t s es found ∙ ap (λ (y : SendRecord). write_or_erase same_flow f (Some y) (send_records es)) state

    -- a released one goes
    pub goes : (t : SenderValue) → told_of p x act ≡ Released → send_records (remove_entry (equal_flows f) (set_value (equal_flows f) es t)) ≡ write_or_erase same_flow f (record_after p now x act) (send_records es)
    goes t e =
        ap send_records (removed_written equal_flows same_flow flows_agree flow_is SenderValue SendRecord send_record f t es)
        ∙ removed equal_flows same_flow flows_agree flow_is SenderValue SendRecord send_record f es
        ∙ ap (λ (o : Option SendRecord). write_or_erase same_flow f o (send_records es)) (sym (gone act e))
      where
        gone : (a : Act) → told_of p x a ≡ Released → record_after p now x a ≡ None
        gone (model.give_up g rest) n = absurd cc
        gone model.release n = refl
        gone model.renew n = absurd cc
        gone (model.resend before g rest) n = absurd cc
        gone (model.send cut rest) n = absurd cc
        gone model.meet n = absurd cc

    pub entry_after : (t : SenderValue) → t ≡ sender_of p f (unwrap_or (record_after p now x act) x) → IsSendEntry p f t
    entry_after t e = record { rules = ap (λ (u : SenderValue). u.rules) e; flow = ap (λ (u : SenderValue). u.flow) e }

    pub all_after : (t : SenderValue) → t ≡ sender_of p f (unwrap_or (record_after p now x act) x) → AreSendEntries p (set_value (equal_flows f) es t)
    all_after t e = all_written equal_flows same_flow flows_agree flow_is SenderValue (IsSendEntry p) f t es all (entry_after t e)

    pub all_left : (t : SenderValue) → t ≡ sender_of p f (unwrap_or (record_after p now x act) x) → AreSendEntries p (remove_entry (equal_flows f) (set_value (equal_flows f) es t))
    all_left t e = all_removed equal_flows same_flow flows_agree flow_is SenderValue (IsSendEntry p) f (set_value (equal_flows f) es t) (all_after t e)
