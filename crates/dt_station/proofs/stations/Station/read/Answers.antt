use Rattle.std.proofs.Common.{◌≡◌, ◌∙◌, List, ap, length, subst, sym}
use Rattle.dt_items.specs.declared.item.Item.{Item}
use Rattle.dt_items.specs.Unread.{piece_told}
use Rattle.dt_host.specs.Hosts.{HostValue}
use Rattle.dt_world_model.specs.Host.{read_octets}
use Rattle.dt_world_model.specs.Station.{station_with}
use Rattle.dt_station.specs.Events.{read_into}
use Rattle.dt_station.specs.Stations.{StationValue}
use Rattle.dt_station.proofs.Answered.{nothing_told, read_as_told}
use Rattle.dt_station.proofs.stations.Station.read.Goals.{in-None, in-Some}
use Rattle.dt_station.proofs.stations.Station.read.Goals as goal

pub returns-clause-filled : goal.returns-clause-filled
returns-clause-filled g c =
    subst (λ (v : StationValue g.row.P-Tag.Denot). c.read.new.buf ≡ read_into v.rules v.latest c.args.flow.now c.args.buf.now v.state.host) c.self.view_is (rw c.deref_mut.ensures.value at c.read.ensures.octets)

pub returns-clause-told : goal.returns-clause-told
returns-clause-told g c =
    let told = g.V.Visitor.tells in
    let from = c.args.visitor.now in
    let flow = c.args.flow.now in
    let taken : StationValue g.row.P-Tag.Denot → List Item = λ v. (read_octets v.rules v.latest flow (length c.args.buf.now) v.state.host).0 in
    let piece : c.read.result ≡ piece_told (taken c.args.self.now) = subst (λ (v : StationValue g.row.P-Tag.Denot). c.read.result ≡ piece_told (taken v)) c.self.view_is (rw c.deref_mut.ensures.value at c.read.ensures.piece) in
    elim c.match-read.branch [
      | in-None w ↦ nothing_told told flow (taken c.args.self.now) from w.tell.new.self c.match-read.visitor w.visitor-is (sym w.in-None.is ∙ piece) w.tell.ensures
      | in-Some w ↦ read_as_told told flow (taken c.args.self.now) from w.tell-in-Some.new.self c.match-read.visitor w.visitor-is w.in-Some.piece c.args.buf.now c.read.new.buf (sym w.in-Some.is ∙ piece) (returns-clause-filled g c) w.tell-in-Some.ensures
    ]

pub returns-clause-after : goal.returns-clause-after
returns-clause-after g c =
    let here = c.self.inside in
    let seen : HostValue → StationValue g.row.P-Tag.Denot = λ h. record { rules = h.rules; latest = here.latest.ms; spent = here.spent; state = station_with h.state here.relay.value } in
    subst (λ (v : StationValue g.row.P-Tag.Denot). seen c.read.new.self ≡ record v { state = station_with (read_octets v.rules v.latest c.args.flow.now (length c.args.buf.now) v.state.host).1 v.state.relay }) c.self.view_is
    (ap seen (rw c.deref_mut.ensures.value at c.read.ensures.after))
