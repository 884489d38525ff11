-- Settling takes no octets: the offset at which those end that a flow's send record has taken doesn't rise, whatever tags are answered.
use Rattle.std.proofs.Common.{ℕ, zero, suc, ◌+◌, ◌<◌, ◌≤◌, ◌≡◌, map, Option, Some, None, refl, sym, ap, subst, inl, inr, arith}
use Rattle.std.proofs.lemmas.Bool.{cases_Bool}
use Rattle.dt_units.specs.declared.parameters.Params.{Params}
use Rattle.dt_units.specs.declared.endpoints.Flow.{Flow}
use Rattle.dt_units.specs.Limits.{IsWithinLimits}
use Rattle.dt_flow_model.proofs.Chosen.{act_is_due}
use Rattle.dt_flow_model.proofs.Records.{act_counts}
use Rattle.dt_flow_model.specs.Acting.{record_for}
use Rattle.dt_flow_model.specs.Keeping.{taken_by}
use Rattle.dt_flow_model.specs.SendActs.{record_after}
use Rattle.dt_flow_model.specs.SendRecord.{SendRecord}
use Rattle.dt_world_model.specs.Host.{Host, HostAct, IsHost, Turn, host_with_sender, next_turn, recv_act, send_act, sender_at, turn_of, work}
use Rattle.dt_world_model.specs.Relay.{with_outs}
use Rattle.dt_world_model.specs.Script.{Answers}
use Rattle.dt_world_model.specs.Station.{Station, do_turns, flush_links, go_on, settle_station, station_with}
use Rattle.dt_world_model.specs.Tables.{same_flow}
use Rattle.dt_world_model.proofs.Offers.{IsOf, next_turn_is}
use Rattle.dt_world_model.proofs.Tables.{flow_is, flow_self, look_set, look_set_other}
use Rattle.dt_world_laws.proofs.Hosts.{turn_keeps}
use Rattle.dt_world_laws.proofs.Plays.{do_turn, link_of}
use Rattle.dt_world_laws.proofs.Settles.{answers_then, any_answer, off_same}

module _ (p : Params) (now : ℕ) (f : Flow) where
  abbrev pub counted : Host → ℕ
  counted host = taken_by (record_for p now (sender_at host f))

  -- a record that goes, or begins anew, has taken none
  after_counts : (x : SendRecord) (after : Option SendRecord) → ((y : SendRecord) → after ≡ Some y → taken_by y ≤ taken_by x) → taken_by (record_for p now after) ≤ taken_by x
  after_counts x None h = omega arith
  after_counts x (Some y) h = h y refl

  act_counted : (host : Host) (a : HostAct) → IsHost p host → IsOf p now host a → counted (turn_of p now host a).host ≤ counted host
  act_counted host (send_act g x act) h is =
      elim (cases_Bool (same_flow g f)) [
        | inl y ↦
            let e : g ≡ f = flow_is g f y in
            let here : sender_at host f ≡ Some x = subst (λ (k : Flow). sender_at host k ≡ Some x) e is.0 in
            let then : sender_at (host_with_sender host g (record_after p now x act)) f ≡ record_after p now x act =
            subst (λ (k : Flow). sender_at (host_with_sender host g (record_after p now x act)) k ≡ record_after p now x act) e (look_set Flow SendRecord same_flow flow_self flow_is g (record_after p now x act) host.senders h.one_sender) in
            let less = after_counts x (record_after p now x act) (λ y e'. act_counts p now x act y (act_is_due p now x act is.1) e') in
            let before : counted host ≡ taken_by x = ap (λ (o : Option SendRecord). taken_by (record_for p now o)) here in
            let after : counted (host_with_sender host g (record_after p now x act)) ≡ taken_by (record_for p now (record_after p now x act)) = ap (λ (o : Option SendRecord). taken_by (record_for p now o)) then in
            omega (arith, less, before, after)
        | inr n ↦
            let same : counted (host_with_sender host g (record_after p now x act)) ≡ counted host =
            ap (λ (o : Option SendRecord). taken_by (record_for p now o)) (look_set_other Flow SendRecord same_flow flow_self flow_is f g (record_after p now x act) host.senders n) in
            omega (arith, same)
      ]
  act_counted host (recv_act g y kind) h is = omega arith

  turn_counted : (host : Host) (turn : Turn) → IsHost p host → next_turn p now host ≡ Some turn → counted turn.host ≤ counted host
  turn_counted host turn h e =
      let k = next_turn_is p now host turn h e in
      subst (λ (t : Turn). counted t.host ≤ counted host) k.2 (act_counted host k.0 h k.1)

  module _ {T : Type 0} (limits : IsWithinLimits p) (more bound : ℕ) where
    abbrev Bounded : Station T → Type 0
    Bounded st = counted st.host + more < bound

    turn_bounded : (most : ℕ) (st : Station T) (turn : Option Turn) → IsHost p st.host → next_turn p now st.host ≡ turn → counted st.host + more < bound
        → ((st' : Station T) → IsHost p st'.host → counted st'.host + more < bound → Answers Bounded (do_turns most p now st'))
        → Answers Bounded (go_on (do_turns most p now) now turn st)
    turn_bounded most st None h e few again = few
    turn_bounded most st (Some turn) h e few again =
        let kept = turn_keeps p now st.host turn limits h e in
        let less = turn_counted st.host turn h e in
        answers_then (λ (after : Station T). after.host ≡ turn.host) Bounded (do_turn now turn st.relay) (do_turns most p now) (off_same now turn.host turn.frame st.relay)
        (λ after same. again after (subst (λ (host : Host). IsHost p host) (sym same) kept) (let left : counted after.host ≡ counted turn.host = ap counted same in omega (arith, less, left)))

    turns_bounded : (most : ℕ) (st : Station T) → IsHost p st.host → counted st.host + more < bound → Answers Bounded (do_turns most p now st)
    turns_bounded zero st h few = few
    turns_bounded (suc most) st h few = turn_bounded most st (next_turn p now st.host) h refl few (turns_bounded most)

    -- SETTLING TAKES NO OCTETS
    pub settle_bounded : (st : Station T) → IsHost p st.host → counted st.host + more < bound → Answers Bounded (settle_station p now st)
    settle_bounded st h few =
        let links = map link_of st.relay.outs in
        answers_then (λ a. Unit {0}) Bounded (flush_links now links st.relay.outs) (λ outs. do_turns (work p now st.host) p now (station_with st.host (with_outs st.relay outs))) (any_answer (flush_links now links st.relay.outs))
        (λ outs t. turns_bounded (work p now st.host) (station_with st.host (with_outs st.relay outs)) h few)
