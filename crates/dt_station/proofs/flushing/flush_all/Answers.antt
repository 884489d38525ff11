use Rattle.std.proofs.Common.{◌≡◌, ◌∙◌, ◌<◌, ◌+◌, List, ℕ, map, drop, length, ◌∷◌, refl}
use Rattle.std.proofs.lemmas.Result.{err_from_is_err_and}
use Rattle.std.proofs.lemmas.List.{length-map}
use Rattle.dt_relay.specs.Places.{link_in, link_of}
use Rattle.dt_world_model.specs.Station.{flush_at, flush_links}
use Rattle.dt_station.proofs.Playing.{leads_after, stops_within}
use Rattle.dt_station.proofs.Flushes.{kept, next_link}
use Rattle.dt_station.proofs.flushing.flush_all.Goals as goal

pub returns-in_err-flush-clause-ends : goal.returns-in_err-flush-clause-ends
returns-in_err-flush-clause-ends g c =
    let p = err_from_is_err_and c.from_residual.result c.from_residual.ensures.1 in
    let links : List ℕ = map link_of c.args.relay.now.outs in
    let small : c.loop-place.place < length links = rw (length-map c.args.relay.now.outs link_of, ← c.loop-place.invariant.end) c.loop-place-test.true in
    let next : drop c.loop-place.place links ≡ (link_in c.loop-place.relay.outs c.loop-place.place) ∷ drop (c.loop-place.place + 1) links = next_link links (map link_of c.loop-place.relay.outs) c.loop-place.place (link_in c.loop-place.relay.outs c.loop-place.place) c.loop-place.invariant.links small refl in
    let leads = rw next at c.loop-place.invariant.leads in
    rw p.1 (leads.stops c.flush.new.visitor (stops_within g.V.Visitor.tells (g.V.Visitor.tags c.args.now.ms) g.V.Visitor.hands g.V.Visitor.fails (flush_at (link_in c.loop-place.relay.outs c.loop-place.place) c.args.now.ms c.loop-place.relay.outs) (flush_links c.args.now.ms (drop (c.loop-place.place + 1) links)) c.loop-place.visitor c.flush.new.visitor c.in_err-flush.ensures.ends))

pub loop-place-preserved : goal.loop-place-preserved
loop-place-preserved g c =
    let links : List ℕ = map link_of c.args.relay.now.outs in
    let small : c.loop-place.place < length links = rw (length-map c.args.relay.now.outs link_of, ← c.loop-place.invariant.end) c.loop-place-test.true in
    let next : drop c.loop-place.place links ≡ (link_in c.loop-place.relay.outs c.loop-place.place) ∷ drop (c.loop-place.place + 1) links = next_link links (map link_of c.loop-place.relay.outs) c.loop-place.place (link_in c.loop-place.relay.outs c.loop-place.place) c.loop-place.invariant.links small refl in
    let leads = rw next at c.loop-place.invariant.leads in
    record {
      leads = leads_after g.V.Visitor.tells (g.V.Visitor.tags c.args.now.ms) g.V.Visitor.hands g.V.Visitor.fails (flush_links c.args.now.ms links c.args.relay.now.outs) c.args.visitor.now (flush_at (link_in c.loop-place.relay.outs c.loop-place.place) c.args.now.ms c.loop-place.relay.outs) (flush_links c.args.now.ms (drop (c.loop-place.place + 1) links)) c.loop-place.visitor c.flush.new.visitor c.flush.new.relay.outs leads c.in_ok-flush.ensures.ends;
      links = c.in_ok-flush.ensures.links ∙ c.loop-place.invariant.links;
      end = c.loop-place.invariant.end;
      others = kept c.args.relay.now c.loop-place.relay c.flush.new.relay _ c.in_ok-flush.ensures.others c.loop-place.invariant.others;
    }
