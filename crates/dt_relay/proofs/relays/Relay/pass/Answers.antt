use Rattle.std.proofs.Common.{◌≡◌, ap, sym, refl, ◌∙◌}
use Rattle.dt_relay.specs.Passages.{passage_by}
use Rattle.dt_relay.specs.Places.{link_of}
use Rattle.dt_relay.proofs.Lookups.{stays_placed}
use Rattle.dt_relay.proofs.Straight.{passed_link, passes_nowhere, passes_there, way_nowhere, way_there}
use Rattle.dt_relay.proofs.relays.Relay.pass.Goals as goal

pub returns-in-None-place-clause-passes : goal.returns-in-None-place-clause-passes
returns-in-None-place-clause-passes g c = λ parcel names lives.
    passes_nowhere parcel c.args.now.ms c.args.life lives c.args.to c.in-Some.link c.args.self.now (sym names) c.in-Some.ensures c.in-None-place.ensures.place

pub returns-in-None-place-clause-cause : goal.returns-in-None-place-clause-cause
returns-in-None-place-clause-cause g c =
    sym (ap (passage_by c.args.to c.args.life c.args.now.ms) (way_nowhere c.args.to c.in-Some.link c.args.self.now c.in-Some.ensures c.in-None-place.ensures.place))

pub returns-in-Some-place-clause-passes : goal.returns-in-Some-place-clause-passes
returns-in-Some-place-clause-passes g c = λ parcel names lives.
    let same : c.self.inside.outs.items ≡ c.args.self.now.outs = ap (λ w. w.outs) c.self.view_is in
    let ins : c.self.inside.ins.items ≡ c.args.self.now.ins = ap (λ w. w.ins) c.self.view_is in
    let routes : c.self.inside.routes.items ≡ c.args.self.now.routes = ap (λ w. w.routes) c.self.view_is in
    passes_there parcel c.args.now.ms c.args.life lives c.args.to c.in-Some.link c.in-Some-place.i c.args.self.now c.index_mut-queue.result.now (sym names) c.in-Some.ensures c.in-Some-place.ensures.place c.in-Some-place.ensures.within (rw (← same) c.index_mut-queue.ensures.value)
    c.pass.result c.pass.new.self _ c.pass.ensures.passage c.pass.ensures.queue (rw (same, ins, routes) refl)

pub returns-in-Some-place-clause-cause : goal.returns-in-Some-place-clause-cause
returns-in-Some-place-clause-cause g c =
    let same : c.self.inside.outs.items ≡ c.args.self.now.outs = ap (λ w. w.outs) c.self.view_is in
    c.pass.ensures.passage ∙ sym (ap (passage_by c.args.to c.args.life c.args.now.ms) (way_there c.args.to c.in-Some.link c.in-Some-place.i c.args.self.now c.index_mut-queue.result.now c.in-Some.ensures c.in-Some-place.ensures.place (rw (← same) c.index_mut-queue.ensures.value)))

pub invariant_of-self : goal.invariant_of-self
invariant_of-self g c = stays_placed c.in-Some-place.i c.self.inside.outs.items c.index_mut-queue.result.now c.pass.new.self c.index_mut-queue.ensures.value (ap link_of c.pass.ensures.queue ∙ passed_link c.pass.result c.args.now.ms c.index_mut-queue.result.now) c.self.invariant
