-- What an act of a send record puts into a frame reads as a Deltagram.
use Rattle.std.proofs.Common.{ℕ, ◌≡◌, ◌∷◌, ◌++◌, Option, Some, None, refl, subst, arith}
use Rattle.std.specs.Prelude.{IfSome, All}
use Rattle.dt_units.specs.declared.parameters.Params.{Params}
use Rattle.dt_units.specs.declared.endpoints.Flow.{Flow}
use Rattle.dt_units.specs.Flows.{IsFlow}
use Rattle.dt_units.specs.Limits.{IsWithinLimits}
use Rattle.dt_layout.specs.Carried.{IsGram}
use Rattle.dt_layout.specs.Spelling.{KeepsRules, PacketValue, carrying, gram_spelling}
use Rattle.dt_layout.proofs.CarriedLemmas.{is_gram}
use Rattle.dt_layout.proofs.WriteLemmas.{is_deltagram}
use Rattle.dt_flow_model.specs.Frames.{data_packet, forth, frame_of_act, meet_packet}
use Rattle.dt_flow_model.specs.Keeping.{IsSegment, IsSendRecord}
use Rattle.dt_flow_model.specs.Numbering.{number_of}
use Rattle.dt_flow_model.specs.SendActs.{Act, IsDue, act_of, give_up, release, renew, resend, send, meet}
use Rattle.dt_flow_model.specs.SendRecord.{Segment, SendRecord, leads, next_of}
use Rattle.dt_flow_model.proofs.Chains.{all_at}
use Rattle.dt_flow_model.proofs.Chosen.{act_is_due}
use Rattle.dt_flow_model.proofs.Records.{cut_segment, data_rules, meet_rules}
use Rattle.dt_send.specs.Senders.{SenderValue}
use Rattle.dt_send.proofs.SenderLemmas.{seen}

module _ (p : Params) (limits : IsWithinLimits p) (f : Flow) (flow : IsFlow f) where
  reads : (v : PacketValue) → KeepsRules v → IsGram (forth p f v)
  reads v rules =
      let d = carrying p.mpl f.from.0 f.to.0 v in
      is_gram (gram_spelling d) d record { fits = is_deltagram v p.mpl f.from.0 f.to.0 rules (omega (arith, limits.mpl)) (omega (arith, limits.mpl)) flow.from flow.to; spelled = refl }

  module _ (now : ℕ) (x : SendRecord) (kept : IsSendRecord p x) where
    act_reads : (act : Act) → IsDue p now x act → IfSome (frame_of_act p f x act) (λ octets. IsGram octets)
    act_reads (give_up g rest) due = tt
    act_reads release due = tt
    act_reads renew due = tt
    act_reads (resend before g rest) due =
        let all : All (IsSegment p) (before ++ g ∷ rest) = rw (due.0) at kept.segments in
        reads (data_packet f (number_of p g.offset) (leads x g.offset) g.items) (data_rules p f g (leads x g.offset) limits (all_at (IsSegment p) before rest g all))
    act_reads (send cut rest) due =
        let g : Segment = record { offset = next_of x; items = cut; first = now; last = now } in
        reads (data_packet f (number_of p (next_of x)) (leads x (next_of x)) cut) (data_rules p f g (leads x (next_of x)) limits (cut_segment p limits x kept now cut rest due.0 due.2))
    act_reads meet due = reads (meet_packet f (number_of p x.left)) (meet_rules p f x.left)

    by : (o : Option Act) → act_of p now x ≡ o → IfSome o (λ act. IfSome (frame_of_act p f x act) (λ octets. IsGram octets))
    by None e = tt
    by (Some act) e = act_reads act (act_is_due p now x act e)

    -- in the words of a sender
    pub gram_seen : (v : SenderValue) → seen p f x ≡ v → IfSome (act_of v.rules now v.state) (λ act. IfSome (frame_of_act v.rules v.flow v.state act) (λ octets. IsGram octets))
    gram_seen v same = subst (λ (u : SenderValue). IfSome (act_of u.rules now u.state) (λ act. IfSome (frame_of_act u.rules u.flow u.state act) (λ octets. IsGram octets))) same (by (act_of p now x) refl)
