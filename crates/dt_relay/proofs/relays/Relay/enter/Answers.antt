use Rattle.std.proofs.Common.{◌≡◌, ap, sym, refl, ◌∙◌}
use Rattle.dt_world_model.specs.declared.links.Entered.TheVariants.{NoRoute}
use Rattle.dt_relay.specs.Carrying.{parcel_seen}
use Rattle.dt_relay.proofs.Causes.{enter_cause}
use Rattle.dt_relay.proofs.Entering.{after, answers, same, stays}
use Rattle.dt_relay.proofs.Links.{enter_there, enter_nowhere}
use Rattle.dt_relay.proofs.Lookups.{stays_placed}
use Rattle.dt_relay.proofs.relays.Relay.enter.Goals as goal

pub returns-in-None-place-clause-answer : goal.returns-in-None-place-clause-answer
returns-in-None-place-clause-answer g c =
    ap NoRoute c.to-to.ensures ∙ ap (λ r. r.0) (sym (enter_nowhere (parcel_seen g.P.Carry.octets g.P.Carry.label c.args.packet) c.to-to.result c.args.now c.in-Some.link c.args.self.now c.to-to.ensures c.in-Some.ensures c.in-None-place.ensures.place))

pub returns-in-None-place-clause-after : goal.returns-in-None-place-clause-after
returns-in-None-place-clause-after g c =
    ap (λ r. r.1) (sym (enter_nowhere (parcel_seen g.P.Carry.octets g.P.Carry.label c.args.packet) c.to-to.result c.args.now c.in-Some.link c.args.self.now c.to-to.ensures c.in-Some.ensures c.in-None-place.ensures.place))

pub returns-in-None-place-clause-cause : goal.returns-in-None-place-clause-cause
returns-in-None-place-clause-cause g c = returns-in-None-place-clause-answer g c ∙ enter_cause (parcel_seen g.P.Carry.octets g.P.Carry.label c.args.packet) c.args.now c.args.self.now

pub returns-in-Some-place-clause-answer : goal.returns-in-Some-place-clause-answer
returns-in-Some-place-clause-answer g c =
    let outs : c.self.inside.outs.items ≡ c.args.self.now.outs = ap (λ w. w.outs) c.self.view_is in
    answers (parcel_seen g.P.Carry.octets g.P.Carry.label c.args.packet) c.args.now c.enter.result c.index_mut-queue.result.now _ c.enter.ensures.answer
    (ap (λ r. r.0) (sym (enter_there (parcel_seen g.P.Carry.octets g.P.Carry.label c.args.packet) c.to-to.result c.args.now c.in-Some.link c.in-Some-place.i c.args.self.now c.index_mut-queue.result.now
    c.to-to.ensures c.in-Some.ensures c.in-Some-place.ensures.place c.in-Some-place.ensures.within (rw (← outs) c.index_mut-queue.ensures.value))))

pub returns-in-Some-place-clause-cause : goal.returns-in-Some-place-clause-cause
returns-in-Some-place-clause-cause g c =
    let outs : c.self.inside.outs.items ≡ c.args.self.now.outs = ap (λ w. w.outs) c.self.view_is in
    answers (parcel_seen g.P.Carry.octets g.P.Carry.label c.args.packet) c.args.now c.enter.result c.index_mut-queue.result.now _ c.enter.ensures.answer
    (ap (λ r. r.0) (sym (enter_there (parcel_seen g.P.Carry.octets g.P.Carry.label c.args.packet) c.to-to.result c.args.now c.in-Some.link c.in-Some-place.i c.args.self.now c.index_mut-queue.result.now
    c.to-to.ensures c.in-Some.ensures c.in-Some-place.ensures.place c.in-Some-place.ensures.within (rw (← outs) c.index_mut-queue.ensures.value)))
    ∙ enter_cause (parcel_seen g.P.Carry.octets g.P.Carry.label c.args.packet) c.args.now c.args.self.now)

pub returns-in-Some-place-clause-after : goal.returns-in-Some-place-clause-after
returns-in-Some-place-clause-after g c =
    let outs : c.self.inside.outs.items ≡ c.args.self.now.outs = ap (λ w. w.outs) c.self.view_is in
    let ins : c.self.inside.ins.items ≡ c.args.self.now.ins = ap (λ w. w.ins) c.self.view_is in
    let routes : c.self.inside.routes.items ≡ c.args.self.now.routes = ap (λ w. w.routes) c.self.view_is in
    after (parcel_seen g.P.Carry.octets g.P.Carry.label c.args.packet) c.args.now c.args.self.now _ c.in-Some-place.i c.index_mut-queue.result.now c.enter.new.self (rw (← outs) c.index_mut-queue.ensures.value) (rw (outs, ins, routes) refl)
    c.enter.result c.enter.ensures.queue
    (enter_there (parcel_seen g.P.Carry.octets g.P.Carry.label c.args.packet) c.to-to.result c.args.now c.in-Some.link c.in-Some-place.i c.args.self.now c.index_mut-queue.result.now
    c.to-to.ensures c.in-Some.ensures c.in-Some-place.ensures.place c.in-Some-place.ensures.within (rw (← outs) c.index_mut-queue.ensures.value))

pub returns-in-Some-place-clause-same : goal.returns-in-Some-place-clause-same
returns-in-Some-place-clause-same g c =
    let outs : c.self.inside.outs.items ≡ c.args.self.now.outs = ap (λ w. w.outs) c.self.view_is in
    let ins : c.self.inside.ins.items ≡ c.args.self.now.ins = ap (λ w. w.ins) c.self.view_is in
    let routes : c.self.inside.routes.items ≡ c.args.self.now.routes = ap (λ w. w.routes) c.self.view_is in
    same (parcel_seen g.P.Carry.octets g.P.Carry.label c.args.packet) c.args.now c.args.self.now _ c.in-Some-place.i c.index_mut-queue.result.now c.enter.new.self (rw (← outs) c.index_mut-queue.ensures.value) (rw (outs, ins, routes) refl)
    c.enter.result c.enter.ensures.same

pub returns-in-Some-place-clause-stays : goal.returns-in-Some-place-clause-stays
returns-in-Some-place-clause-stays g c =
    let outs : c.self.inside.outs.items ≡ c.args.self.now.outs = ap (λ w. w.outs) c.self.view_is in
    let ins : c.self.inside.ins.items ≡ c.args.self.now.ins = ap (λ w. w.ins) c.self.view_is in
    let routes : c.self.inside.routes.items ≡ c.args.self.now.routes = ap (λ w. w.routes) c.self.view_is in
    stays (parcel_seen g.P.Carry.octets g.P.Carry.label c.args.packet) c.args.now c.args.self.now _ c.in-Some-place.i c.index_mut-queue.result.now c.enter.new.self (rw (← outs) c.index_mut-queue.ensures.value) (rw (outs, ins, routes) refl)
    c.enter.result c.enter.ensures.answer c.enter.ensures.queue

pub invariant_of-self : goal.invariant_of-self
invariant_of-self g c = stays_placed c.in-Some-place.i c.self.inside.outs.items c.index_mut-queue.result.now c.enter.new.self c.index_mut-queue.ensures.value c.enter.ensures.link c.self.invariant
