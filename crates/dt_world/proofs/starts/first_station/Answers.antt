use Rattle.std.proofs.Common.{ap, arith, ◌∙◌}
use Rattle.dt_flow_model.specs.Frames.{Mark}
use Rattle.dt_world_model.specs.Relay.{emptied}
use Rattle.dt_world_model.specs.Station.{Station}
use Rattle.dt_world.proofs.Restarting.{emptied_new}
use Rattle.dt_world.proofs.starts.first_station.Goals as goal

pub returns-clause-station : goal.returns-clause-station
returns-clause-station c = record {
  rules = c.in_ok-station.ensures.rules ∙ c.rules.ensures.same;
  unspent = c.in_ok-station.ensures.unspent;
  past = omega (arith, c.in_ok-station.ensures.latest);
  relay = ap (λ (st : Station Mark). emptied st.relay) c.in_ok-station.ensures.station ∙ emptied_new c.in_ok-outs_of.field-0.items c.in_ok-ins_of.field-0.items c.in_ok-routes_of.field-0.items;
}
