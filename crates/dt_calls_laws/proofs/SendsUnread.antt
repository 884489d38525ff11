-- A send leaves what is unread.
use Rattle.std.proofs.Common.{ℕ, ◌≡◌, Bool, true, false, List, length, Option, Some, None, refl, ap, sym, subst, ◌∙◌, inl, inr}
use Rattle.std.specs.List.{All}
use Rattle.std.proofs.lemmas.Bool.{cases_Bool}
use Rattle.std.specs.Prelude.{nat_lt}
use Rattle.dt_items.specs.declared.item.Item.{Item}
use Rattle.dt_items.specs.Unread.{marked}
use Rattle.dt_units.specs.declared.parameters.Params.{Params}
use Rattle.dt_units.specs.declared.endpoints.Flow.{Flow}
use Rattle.dt_units.specs.Flows.{IsFlow}
use Rattle.dt_units.specs.Limits.{IsWithinLimits}
use Rattle.dt_reports.specs.Told.{Told}
use Rattle.dt_flow_model.specs.Acting.{record_for}
use Rattle.dt_flow_model.specs.Frames.{Mark}
use Rattle.dt_flow_model.specs.SendRecord.{SendRecord, fits, put}
use Rattle.dt_flow_model.specs.Keeping.{HasNoRun}
use Rattle.dt_flow_model.proofs.Chosen.{le_true}
use Rattle.dt_flow_model.proofs.Records.{new_kept, put_kept}
use Rattle.dt_world_model.specs.Host.{IsHost, IsSender, send_octets, sender_at}
use Rattle.dt_world_model.specs.Script.{◌>>=◌, play}
use Rattle.dt_world_model.specs.Station.{Send, Station, happen, settle_station, station_event, station_with, told_sent}
use Rattle.dt_world_model.specs.Tables.{look, same_flow}
use Rattle.dt_world_model.specs.World.{Noted, Placed, World, note_told, world_handler}
use Rattle.dt_world_model.specs.WorldStep.{noted_at, occasion}
use Rattle.dt_world_model.proofs.Tables.{all_look, flow_is, flow_self}
use Rattle.dt_world_laws.proofs.Happens.{marked_no_run}
use Rattle.dt_world_laws.proofs.Hosts.{sender_written}
use Rattle.dt_world_laws.proofs.Plays.{play_bind}
use Rattle.dt_world_laws.proofs.Settles.{answers_play}
use Rattle.dt_calls_laws.proofs.Unmoved.{Leaves, settle_leaves}
use Rattle.dt_calls_laws.specs.HasRead.{unread_at}

module _ (p : Params) (limits : IsWithinLimits p) (now : ℕ) (st : Station Mark) (keeps : IsHost p st.host) (f : Flow) (flow : IsFlow f) (from : f.from.0 ≡ st.host.me) (items : List Item) (plain : All HasNoRun items) where
  for_is : (o : Option SendRecord) → look same_flow f st.host.senders ≡ o → IsSender p st.host.me f (record_for p now o)
  for_is None e = record { flow = flow; from = from; kept = new_kept p now limits }
  for_is (Some y) e = all_look Flow SendRecord same_flow flow_self flow_is (IsSender p st.host.me) f y st.host.senders e keeps.senders

  abbrev x : SendRecord
  x = record_for p now (sender_at st.host f)

  put_is : fits p x (length items) ≡ true → IsSender p st.host.me f (put items x)
  put_is room = let h = for_is (sender_at st.host f) refl in record { flow = h.flow; from = h.from; kept = put_kept p x items h.kept plain (le_true _ _ room) }

  is_put : fits p x (length items) ≡ true → (y : SendRecord) → Some (put items x) ≡ Some y → IsSender p st.host.me f y
  is_put room y e = let same : put items x ≡ y = cc in subst (λ (z : SendRecord). IsSender p st.host.me f z) same (put_is room)

  send_leaves : Leaves p st (station_with (send_octets p now f items st.host).1 st.relay)
  send_leaves =
      elim (cases_Bool (nat_lt now st.host.until)) [
        | inl y ↦ rw y (record { kept = keeps; me = refl; unread = λ g. refl })
        | inr o ↦
            rw o
            (elim (cases_Bool (fits p x (length items))) [
              | inl y ↦ rw y (record { kept = sender_written p st.host f (Some (put items x)) keeps (is_put y); me = refl; unread = λ g. refl })
              | inr q ↦ rw q (record { kept = keeps; me = refl; unread = λ g. refl })
            ])
      ]

pub station_keeps_unread : (w : World) (f : Flow) (octets : List ℕ) (begin end : Bool) (at : Placed) → IsWithinLimits w.params → IsFlow f → f.from.0 ≡ at.station.host.me → (now : ℕ) → IsHost w.params at.station.host → (g : Flow)
    → unread_at (play (world_handler (occasion w f.from.0 (Send f octets begin end))) (station_event w.params now (Send f octets begin end) at.station) (noted_at w)).1.host g ≡ unread_at at.station.host g
station_keeps_unread w f octets begin end at limits flow from now host g =
    let p = w.params in
    let handler = world_handler (occasion w f.from.0 (Send f octets begin end)) in
    let d = noted_at w in
    let items = marked octets begin end false in
    let one = play handler (settle_station p now at.station) d in
    let left = answers_play handler (Leaves p at.station) (settle_station p now at.station) d (settle_leaves p now limits at.station host) in
    let before = one.1 in
    let from' : f.from.0 ≡ before.host.me = from ∙ sym left.me in
    let r = send_octets p now f items before.host in
    let told : Told = told_sent f (length octets) r.0 in
    let mid = note_told (occasion w f.from.0 (Send f octets begin end)) told one.0 in
    let after = station_with r.1 before.relay in
    let sent = send_leaves p limits now before left.kept f flow from' items (marked_no_run octets begin end) in
    let last = answers_play handler (Leaves p after) (settle_station p now after) mid (settle_leaves p now limits after sent.kept) in
    let ends : (play handler (station_event p now (Send f octets begin end) at.station) d).1 ≡ (play handler (settle_station p now after) mid).1 = ap (λ (n : Noted × Station Mark). n.1) (play_bind handler (settle_station p now at.station) (λ s. happen p now (Send f octets begin end) s >>= λ t. settle_station p now t) d) in
    ap (λ (s : Station Mark). unread_at s.host g) ends ∙ last.unread g ∙ sent.unread g ∙ left.unread g
