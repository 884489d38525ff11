-- A record of which no act is due has transmitted what it could.
use Rattle.std.proofs.Common.{ℕ, zero, suc, ◌<◌, ◌≡◌, Bool, true, false, List, [], ◌∷◌, length, Option, Some, None, refl, inl, inr, arith}
use Rattle.std.specs.Prelude.{if◌then◌else◌, ◌&&◌, not}
use Rattle.std.proofs.lemmas.Bool.{cases_lt, cases_Bool}
use Rattle.dt_flow_model.specs.Facts.{Chain, CrossingsOf, Facts, SendSide}
use Rattle.dt_flow_model.specs.Flow.{FlowState}
use Rattle.dt_flow_model.specs.Numbering.{is_crossing, up_to_crossing}
use Rattle.dt_flow_model.specs.SendActs.{Act, act_of, may_send_from, send}
use Rattle.dt_flow_model.specs.SendRecord.{Segment, SendRecord, cut_length, cut_of, items_in, may_go, next_of, rest_of}
use Rattle.dt_flow_model.specs.Steps.{HasTransmitted}
use Rattle.dt_items.specs.declared.item.Item.{Item}
use Rattle.dt_units.specs.Limits.{IsWithinLimits}
use Rattle.dt_units.specs.declared.parameters.Params.{Params}
use Rattle.dt_flow_laws.proofs.Crossings.{some_quantum}
use Rattle.dt_flow_laws.proofs.Waking.{due_is_chosen}
use Rattle.dt_flow_model.proofs.Chains.{chain_next}
use Rattle.dt_flow_model.proofs.Chosen.{cut_count}

first_cut : (most : ℕ) (items : List Item) → 0 < most → 0 < length items → 0 < cut_length most true items
first_cut zero items pos some = absurd (omega arith)
first_cut (suc most) [] pos some = absurd (omega arith)
first_cut (suc most) (i ∷ is) pos some = step i.begin i.end
  where
    step : (b last : Bool) → 0 < (if b && not true then 0 else suc (if last then 0 else cut_length most false is))
    step true last = omega arith
    step false last = omega arith

none_out : (offset : ℕ) (gs : List Segment) → Chain offset gs → items_in gs ≡ 0 → gs ≡ []
none_out offset [] h e = refl
none_out offset (g ∷ gs) h e = absurd (omega (arith, h.1))

none_from : (p : Params) (x : SendRecord) → x.crossed ≡ None → may_send_from p x ≡ 0
none_from p x e = elim (cases_Bool (is_crossing p (next_of x))) [ inl y ↦ rw (y, e) refl | inr n ↦ rw n refl ]

room : (p : Params) (n : ℕ) → IsWithinLimits p → 0 < up_to_crossing p n
room p n limits = let q = some_quantum p limits in omega (arith, q)

refuted : {A : Type 0} (o : Option Act) (act : Act) → o ≡ None → o ≡ Some act → A
refuted None act e f = absurd cc
refuted (Some a) act e f = absurd cc

pub idle_transmitted : (p : Params) (now : ℕ) (x : SendRecord) → IsWithinLimits p → Chain x.left x.outstanding → (next_of x ≡ 0 → 0 < x.edge) → (next_of x ≡ 0 → x.crossed ≡ None) → act_of p now x ≡ None → HasTransmitted (Some x)
idle_transmitted p now x limits chain edge uncrossed idle = λ waits.
    elim (cases_lt 0 (next_of x)) [
      | inl some ↦ some
      | inr none ↦
          let at : next_of x ≡ 0 = omega arith in
          let out : x.outstanding ≡ [] = none_out x.left x.outstanding chain (omega (arith, at, chain_next x.left x.outstanding chain)) in
          let go : 0 < may_go p x = omega (arith, limits.seg, edge at, at, room p (next_of x) limits) in
          let some : 0 < length (cut_of p x) = omega (arith, cut_count p x, first_cut (may_go p x) x.waiting go waits) in
          let few : length x.outstanding < 64 = rw out (omega arith) in
          let c = due_is_chosen p now x (send (cut_of p x) (rest_of p x)) (refl, refl, some, few, omega (arith, none_from p x (uncrossed at))) in
          refuted (act_of p now x) c.0 idle c.1
    ]

pub idle_has_transmitted : (p : Params) (s : FlowState) (x : SendRecord) (now : ℕ) → IsWithinLimits p → Facts p s → s.sender ≡ Some x → act_of p now x ≡ None → HasTransmitted (Some x)
idle_has_transmitted p s x now limits f is idle =
    let fx : SendSide p s.now s.sender_zero s.sender_until s.sender_life s.run s.taken (Some x) = rw is at f.send_side in
    let own : CrossingsOf p s.sender_zero s.run s.taken s.crossings (Some x) = rw is at f.spacing.sender in
    idle_transmitted p now x limits fx.record_facts.chain fx.record_facts.edge own.uncrossed idle
