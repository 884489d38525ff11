-- What a host spells is read again as it was.
use Rattle.std.proofs.Common.{ℕ, ◌+◌, ◌<◌, ◌≤◌, ◌^◌, ◌≡◌, List, refl, sym, ap, subst, ◌∙◌, arith}
use Rattle.dt_units.specs.declared.parameters.Params.{Params}
use Rattle.dt_units.specs.declared.endpoints.Flow.{Flow}
use Rattle.dt_layout.specs.Spelling.{Carries, DeltagramValue, Gram, HasPorts, KeepsRules, PacketValue, carrying, gram_spelling}
use Rattle.dt_layout.specs.Reading.{gram_in, packet_in, packet_fault}
use Rattle.dt_layout.specs.Carried.{IsGram, life_of}
use Rattle.dt_layout.proofs.CarriedLemmas.{gram_in_is, is_gram, life_of_is}
use Rattle.dt_layout.proofs.GramLemmas.{ok_unless}
use Rattle.dt_layout.proofs.PackLemmas.{packet_is_read}
use Rattle.dt_layout.proofs.WriteLemmas.{is_carried, is_deltagram}
use Rattle.dt_flow_model.specs.Facts.{FitsSome}
use Rattle.dt_flow_model.specs.Flow.{FlowState}
use Rattle.dt_flow_laws.proofs.Ages.{made_waits}
use Rattle.dt_flow_model.specs.Frames.{flow_of, flow_in, value_in, marked_packet}
use Rattle.dt_world_model.specs.WorldFacts.{IsWaiting}

pub record CanBeSpelled (lasts begins ends : ℕ) (v : PacketValue) : Type 0 where
  pub rules : KeepsRules v
  pub ports : HasPorts v
  pub alive : 1 ≤ lasts
  pub life : lasts < 2 ^ 32
  pub from : begins < 2 ^ 32
  pub to : ends < 2 ^ 32

pub record IsRead (bytes : List ℕ) (life from to : ℕ) (v : PacketValue) : Type 0 where
  pub gram : IsGram bytes
  pub read : gram_in bytes ≡ carrying life from to v
  pub carries : Carries (gram_in bytes) (value_in bytes)
  pub value : value_in bytes ≡ v
  pub flow : flow_in bytes ≡ flow_of from to v
  pub life_is : life_of bytes ≡ life

pub spelled_reads : (life from to : ℕ) (v : PacketValue) → CanBeSpelled life from to v → IsRead (gram_spelling (carrying life from to v)) life from to v
spelled_reads life from to v h =
    let d = carrying life from to v in
    let bytes = gram_spelling d in
    let g : Gram bytes d = record { fits = is_deltagram v life from to h.rules h.alive h.life h.from h.to; spelled = refl } in
    let read : gram_in bytes ≡ d = gram_in_is bytes d g in
    let c : Carries d v = is_carried v life from to h.rules h.ports in
    let value : packet_in d.body ≡ v = (ok_unless (packet_fault d) (packet_in d.body) v (packet_is_read d v c)).1 in
    let there : value_in bytes ≡ v = ap (λ (e : DeltagramValue). packet_in e.body) read ∙ value in
    record {
      gram = is_gram bytes d g;
      read = read;
      carries = subst (λ (e : DeltagramValue). Carries e (packet_in e.body)) (sym read) (subst (λ (u : PacketValue). Carries d u) (sym value) c);
      value = there;
      flow = ap (λ (e : DeltagramValue). flow_of e.from e.to (packet_in e.body)) read ∙ ap (flow_of from to) value;
      life_is = life_of_is bytes d g;
    }

-- with a tag that fits it is a packet of its flow, and can wait
pub made_packet : (p : Params) (now z from to : ℕ) (views : Flow → FlowState) (v : PacketValue) (place : ℕ) → CanBeSpelled p.mpl from to v → FitsSome p (views (flow_of from to v)) (marked_packet (record { birth = now; place = place }) v)
    → IsWaiting p now z views (record { parcel = record { octets = gram_spelling (carrying p.mpl from to v); tag = record { birth = now; place = place } }; since = now + z })
made_packet p now z from to views v place h fits =
    let r = spelled_reads p.mpl from to v h in
    let age = made_waits p.mpl now h.alive in
    record {
      since = now;
      reading = refl;
      age = record { born = age.born; since = age.since; alive = omega (arith, r.life_is, age.alive); age = omega (arith, r.life_is, age.age) };
      packet = record {
        gram = r.gram;
        carries = r.carries;
        fits = subst (λ (u : PacketValue). FitsSome p (views (flow_in (gram_spelling (carrying p.mpl from to v)))) (marked_packet (record { birth = now; place = place }) u)) (sym r.value)
            (subst (λ (f : Flow). FitsSome p (views f) (marked_packet (record { birth = now; place = place }) v)) (sym r.flow) fits);
      };
    }
