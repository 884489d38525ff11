use Rattle.std.proofs.Common.{◌≡◌, ◌∙◌, ℕ, List, ap, map, refl, slice_index, None}
use Rattle.std.proofs.lemmas.Result.{err_from_is_err_and}
use Rattle.dt_relay.specs.Places.{link_in, link_of}
use Rattle.dt_world_model.specs.Relay.{Relay, leave, on_link}
use Rattle.dt_world_model.specs.Script.{◌>>=◌}
use Rattle.dt_world_model.specs.Station.{flush_at}
use Rattle.dt_station.specs.Leaving.{let_out}
use Rattle.dt_station.proofs.Playing.{leads_after, leads_is, stops_within}
use Rattle.dt_station.proofs.Flushes.{flush_ends_on, flush_on_link, kept, leave_links, ready_falls}
use Rattle.dt_station.proofs.flushing.flush.Goals as goal

pub flush-smaller : goal.flush-smaller
flush-smaller g c =
    let same = ap (λ (r : Relay _). r.outs) c.in_ok-let_out.ensures.after in
    rw same (ready_falls (link_in c.flush.relay.outs c.args.place) c.args.now.ms c.flush.relay.outs c.flush-test.ensures)

pub flush-preserved : goal.flush-preserved
flush-preserved g c =
    let first = link_in c.args.relay.now.outs c.args.place in
    let link = link_in c.flush.relay.outs c.args.place in
    let same : link ≡ first = ap (λ (links : List ℕ). slice_index links c.args.place) c.flush.invariant.links in
    let left = on_link link None (leave c.args.now.ms) c.flush.relay.outs in
    let leads = leads_is g.V.Visitor.tells (g.V.Visitor.tags c.args.now.ms) g.V.Visitor.hands g.V.Visitor.fails (flush_at first c.args.now.ms c.args.relay.now.outs) (flush_at first c.args.now.ms c.flush.relay.outs) (let_out link left >>= flush_at first c.args.now.ms) c.args.visitor.now c.flush.visitor (flush_on_link first link c.args.now.ms c.flush.relay.outs same c.flush-test.ensures) c.flush.invariant.leads in
    record {
      leads = leads_after g.V.Visitor.tells (g.V.Visitor.tags c.args.now.ms) g.V.Visitor.hands g.V.Visitor.fails (flush_at first c.args.now.ms c.args.relay.now.outs) c.args.visitor.now (let_out link left) (flush_at first c.args.now.ms) c.flush.visitor c.let_out.new.visitor c.let_out.new.relay.outs leads c.in_ok-let_out.ensures.ends;
      links = ap (λ (r : Relay _). map link_of r.outs) c.in_ok-let_out.ensures.after ∙ leave_links link c.args.now.ms c.flush.relay.outs ∙ c.flush.invariant.links;
      others = kept c.args.relay.now c.flush.relay c.let_out.new.relay _ c.in_ok-let_out.ensures.after c.flush.invariant.others;
    }

pub returns-in_err-let_out-clause-ends : goal.returns-in_err-let_out-clause-ends
returns-in_err-let_out-clause-ends g c =
    let p = err_from_is_err_and c.from_residual.result c.from_residual.ensures.1 in
    let first = link_in c.args.relay.now.outs c.args.place in
    let link = link_in c.flush.relay.outs c.args.place in
    let same : link ≡ first = ap (λ (links : List ℕ). slice_index links c.args.place) c.flush.invariant.links in
    let left = on_link link None (leave c.args.now.ms) c.flush.relay.outs in
    let leads = leads_is g.V.Visitor.tells (g.V.Visitor.tags c.args.now.ms) g.V.Visitor.hands g.V.Visitor.fails (flush_at first c.args.now.ms c.args.relay.now.outs) (flush_at first c.args.now.ms c.flush.relay.outs) (let_out link left >>= flush_at first c.args.now.ms) c.args.visitor.now c.flush.visitor (flush_on_link first link c.args.now.ms c.flush.relay.outs same c.flush-test.ensures) c.flush.invariant.leads in
    rw p.1 (leads.stops c.let_out.new.visitor (stops_within g.V.Visitor.tells (g.V.Visitor.tags c.args.now.ms) g.V.Visitor.hands g.V.Visitor.fails (let_out link left) (flush_at first c.args.now.ms) c.flush.visitor c.let_out.new.visitor c.in_err-let_out.ensures.ends))

pub returns-in_err-let_out-clause-links : goal.returns-in_err-let_out-clause-links
returns-in_err-let_out-clause-links g c =
    ap (λ (r : Relay _). map link_of r.outs) c.in_err-let_out.ensures.after ∙ leave_links (link_in c.flush.relay.outs c.args.place) c.args.now.ms c.flush.relay.outs ∙ c.flush.invariant.links

pub returns-clause-ends : goal.returns-clause-ends
returns-clause-ends g c =
    let first = link_in c.args.relay.now.outs c.args.place in
    let link = link_in c.flush.relay.outs c.args.place in
    let same : link ≡ first = ap (λ (links : List ℕ). slice_index links c.args.place) c.flush.invariant.links in
    c.flush.invariant.leads.plays _ _ (rw (flush_ends_on first link c.args.now.ms c.flush.relay.outs same c.flush-test.ensures) (refl, refl))
