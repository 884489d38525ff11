-- What a read of the world takes and leaves.
use Rattle.std.proofs.Common.{ℕ, ◌≡◌, false, List, [], ◌∷◌, length, drop, Option, Some, None, refl, ap, sym, subst, ◌∙◌}
use Rattle.std.specs.Prelude.{unwrap_or}
use Rattle.dt_items.specs.declared.item.Item.{Item}
use Rattle.dt_items.specs.Unread.{first_piece, octets_of, piece_told}
use Rattle.dt_units.specs.declared.parameters.Params.{Params}
use Rattle.dt_units.specs.declared.endpoints.Flow.{Flow}
use Rattle.dt_units.specs.Flows.{IsFlow}
use Rattle.dt_units.specs.Limits.{IsWithinLimits}
use Rattle.dt_reports.specs.Told.{Told}
use Rattle.dt_flow_model.specs.Frames.{Mark}
use Rattle.dt_flow_model.specs.ReceiveRecord.{Receiver, after_read}
use Rattle.dt_flow_laws.proofs.Records.{none_kept, read_kept}
use Rattle.dt_world_model.specs.Host.{Host, IsHost, IsReceiver, no_receiver, read_piece, receiver_at}
use Rattle.dt_world_model.specs.Script.{◌>>=◌, play}
use Rattle.dt_world_model.specs.Station.{Read, Station, happen, settle_station, station_event, station_with, told_piece}
use Rattle.dt_world_model.specs.Tables.{look, same_flow}
use Rattle.dt_world_model.specs.World.{Noted, Placed, World, note_told, world_handler}
use Rattle.dt_world_model.specs.WorldStep.{noted_at, occasion}
use Rattle.dt_world_model.proofs.Tables.{all_look, flow_is, flow_self}
use Rattle.dt_world_laws.proofs.Hosts.{receiver_written}
use Rattle.dt_world_laws.proofs.Plays.{play_bind}
use Rattle.dt_world_laws.proofs.Settles.{answers_play}
use Rattle.dt_world_laws.proofs.Views.{receiver_set, receiver_set_other}
use Rattle.dt_calls_laws.proofs.Unmoved.{Leaves, settle_leaves}
use Rattle.dt_calls_laws.specs.HasRead.{HasRead, unread_at}

-- the receiver of a flow that ends here
module _ (p : Params) (host : Host) (f : Flow) (keeps : IsHost p host) (flow : IsFlow f) (to : f.to.0 ≡ host.me) where
  entry_is : (o : Option Receiver) → look same_flow f host.receivers ≡ o → IsReceiver p host.me f (unwrap_or o no_receiver)
  entry_is None e = record { flow = flow; to = to; kept = none_kept p }
  entry_is (Some r) e = all_look Flow Receiver same_flow flow_self flow_is (IsReceiver p host.me) f r host.receivers e keeps.receivers

  receiver_is : IsReceiver p host.me f (receiver_at host f)
  receiver_is = entry_is (look same_flow f host.receivers) refl

  -- a read keeps what a host keeps, takes the items of its flow, and leaves those of the others
  read_keeps : (now : ℕ) (items : List Item) → IsHost p (read_piece p now f items host).1
  read_keeps now [] = keeps
  read_keeps now (i ∷ is) =
      let after = after_read p now (length (i ∷ is)) (receiver_at host f) in
      receiver_written p host f after keeps (record { flow = flow; to = to; kept = read_kept p now (length (i ∷ is)) (receiver_at host f) receiver_is.kept })

  read_takes : (now : ℕ) (items : List Item) → unread_at (read_piece p now f items host).1 f ≡ drop (length items) (unread_at host f)
  read_takes now [] = refl
  read_takes now (i ∷ is) = ap (λ (r : Receiver). r.unread) (receiver_set host f (after_read p now (length (i ∷ is)) (receiver_at host f)) keeps.one_receiver)

  read_passes : (now : ℕ) (items : List Item) (g : Flow) → same_flow f g ≡ false → unread_at (read_piece p now f items host).1 g ≡ unread_at host g
  read_passes now [] g apart = refl
  read_passes now (i ∷ is) g apart = ap (λ (r : Receiver). r.unread) (receiver_set_other host f (after_read p now (length (i ∷ is)) (receiver_at host f)) g apart)

pub station_has_read : (w : World) (f : Flow) (most : ℕ) (at : Placed) → IsWithinLimits w.params → IsFlow f → f.to.0 ≡ at.station.host.me → (now : ℕ) → IsHost w.params at.station.host
    → let handler = world_handler (occasion w f.to.0 (Read f most)) in HasRead f most at.station.host (play handler (station_event w.params now (Read f most) at.station) (noted_at w)).1.host
station_has_read w f most at limits flow to now host =
    let p = w.params in
    let handler = world_handler (occasion w f.to.0 (Read f most)) in
    let d = noted_at w in
    let one = play handler (settle_station p now at.station) d in
    let left = answers_play handler (Leaves p at.station) (settle_station p now at.station) d (settle_leaves p now limits at.station host) in
    let before = one.1 in
    let to' : f.to.0 ≡ before.host.me = to ∙ sym left.me in
    let items = first_piece most (unread_at before.host f) in
    let r = read_piece p now f items before.host in
    let told : Told = told_piece f (octets_of r.0) (piece_told r.0) in
    let mid = note_told (occasion w f.to.0 (Read f most)) told one.0 in
    let after = station_with r.1 before.relay in
    let keeps = read_keeps p before.host f left.kept flow to' now items in
    let last = answers_play handler (Leaves p after) (settle_station p now after) mid (settle_leaves p now limits after keeps) in
    let ends : (play handler (station_event p now (Read f most) at.station) d).1 ≡ (play handler (settle_station p now after) mid).1 = ap (λ (n : Noted × Station Mark). n.1) (play_bind handler (settle_station p now at.station) (λ s. happen p now (Read f most) s >>= λ t. settle_station p now t) d) in
    let all : HasRead f most at.station.host (play handler (settle_station p now after) mid).1.host = record {
      taken = last.unread f ∙ read_takes p before.host f left.kept flow to' now items ∙ ap (λ (u : List Item). drop (length (first_piece most u)) u) (left.unread f);
      others = λ g apart. last.unread g ∙ read_passes p before.host f left.kept flow to' now items g apart ∙ left.unread g;
    } in
    subst (λ (s : Station Mark). HasRead f most at.station.host s.host) (sym ends) all
