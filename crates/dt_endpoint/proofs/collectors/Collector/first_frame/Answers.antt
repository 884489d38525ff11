use Rattle.std.proofs.Common.{◌≡◌, ◌++◌, arith, drop, subst}
use Rattle.std.specs.Prelude.{option_map, option_to_list}
use Rattle.dt_endpoint.specs.Collecting.{Collected}
use Rattle.dt_endpoint.proofs.Fronts.{front_is}
use Rattle.dt_endpoint.proofs.collectors.Collector.first_frame.Goals as goal

pub returns : goal.returns
returns c =
    let item = c.front.ensures.item in
    subst (λ (v : Collected). v.frames ≡ option_to_list (option_map (λ f. f.now) c.front.result) ++ drop 1 v.frames) c.self.view_is
    (front_is (λ f. f.now) c.front.result c.self.inside.frames.items item.0 item.2 (item.4 (omega arith)))
