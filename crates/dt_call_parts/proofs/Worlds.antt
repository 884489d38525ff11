-- What the events of the world within a step keep, and what they leave unread.
use Rattle.std.proofs.Common.{ℕ, zero, suc, ◌+◌, ◌≡◌, ◌==◌, ◌<◌, ◌≤◌, Bool, true, false, if◌then◌else◌, List, [], ◌∷◌, length, drop, Option, Some, None, refl, ap, sym, subst, ◌∙◌, inl, inr, arith, length-drop}
use Rattle.std.specs.Prelude.{◌&&◌, unwrap_or}
use Rattle.std.proofs.lemmas.Bool.{cases_Bool}
use Rattle.std.proofs.lemmas.List.Elements.{All-nil, All-cons}
use Rattle.dt_items.specs.declared.item.Item.{Item}
use Rattle.dt_items.specs.Unread.{first_piece}
use Rattle.dt_units.specs.declared.endpoints.Flow.{Flow}
use Rattle.dt_units.specs.Flows.{IsFlow}
use Rattle.dt_units.specs.Limits.{IsWithinLimits}
use Rattle.dt_reports.specs.declared.faults.StepFault.{StepFault}
use Rattle.dt_world_model.specs.Host.{first_host}
use Rattle.dt_world_model.specs.Relay.{new_relay}
use Rattle.dt_world_model.specs.Script.{play}
use Rattle.dt_world_model.specs.Station.{Read, Send, station_event, station_with}
use Rattle.dt_world_model.specs.Tables.{look, write}
use Rattle.dt_world_model.specs.World.{Placed, World, view, world_handler}
use Rattle.dt_world_model.specs.WorldFacts.{CanHappen, IsPlaced}
use Rattle.dt_world_model.specs.WorldStep.{Reads, Sends, WorldEvent, after_event, event_at, first_refusal, noted_at, occasion, refusals, step_unless, then_step}
use Rattle.dt_world_model.proofs.Tables.{all_look, look_write, look_write_other, nat_is, nat_self}
use Rattle.dt_world_laws.proofs.Running.{run_goes}
use Rattle.dt_calls_laws.specs.HasRead.{unread_at}
use Rattle.dt_calls_laws.specs.ReadTold.{piece_of}
use Rattle.dt_calls_laws.proofs.Reading.{read_tells_the_next}
use Rattle.dt_calls_laws.proofs.SendsUnread.{station_keeps_unread}
use Rattle.dt_calls_laws.proofs.Takings.{station_has_read}
use Rattle.dt_calls_model.specs.declared.calls.CallState.{CallState}
use Rattle.dt_calls_model.specs.declared.calls.CallState.TheVariants as state
use Rattle.dt_calls_model.specs.Calls.{Client, Server, Side, call_at, is_call}
use Rattle.dt_calls_model.specs.Heard.{piece_in}
use Rattle.dt_calls_model.specs.Messages.{Piece, carried_in, has_number, message_of, number_in, reversed}
use Rattle.dt_calls_model.specs.Reads.{Course, answered_if, happens, most_read, post, take_message, take_whole}
use Rattle.dt_call_parts.specs.Kept.{IsKeptWorld}

abbrev pub unread_in : World → Flow → List Item
unread_in w f = (view w f).unread

-- what each event keeps
pub happens_keeps : (e : WorldEvent) (w : World) → CanHappen e → IsKeptWorld w → IsKeptWorld (happens e w).1
happens_keeps e w can kept =
    let goes = run_goes (e ∷ []) ([], w) kept.limits kept.facts (All-cons CanHappen e [] can (All-nil CanHappen)) in
    record { limits = subst IsWithinLimits (sym goes.1) kept.limits; facts = goes.0.0 }

-- WHERE A STATION IS WRITTEN
abbrev or_first : ℕ → Option Placed → Placed
or_first n o = unwrap_or o (record { zero = 0; life = 0; station = station_with (first_host n) (new_relay [] [] []) })

same_unread : (w : World) (n : ℕ) (at new : Placed) (g : Flow) → look ◌==◌ n w.stations ≡ Some at → unread_at new.station.host g ≡ unread_at at.station.host g
    → unread_at (or_first g.to.0 (look ◌==◌ g.to.0 (write ◌==◌ n new w.stations))).station.host g ≡ unread_at (or_first g.to.0 (look ◌==◌ g.to.0 w.stations)).station.host g
same_unread w n at new g there same =
    elim (cases_Bool (n == g.to.0)) [
      | inl y ↦
          let here : n ≡ g.to.0 = nat_is n g.to.0 y in
          subst (λ (m : ℕ). unread_at (or_first m (look ◌==◌ m (write ◌==◌ n new w.stations))).station.host g ≡ unread_at (or_first m (look ◌==◌ m w.stations)).station.host g) here
          (ap (λ (o : Option Placed). unread_at (or_first n o).station.host g) (look_write ℕ Placed ◌==◌ nat_self nat_is n new w.stations) ∙ same ∙ ap (λ (o : Option Placed). unread_at (or_first n o).station.host g) (sym there))
      | inr other ↦ ap (λ (o : Option Placed). unread_at (or_first g.to.0 o).station.host g) (look_write_other ℕ Placed ◌==◌ nat_self nat_is g.to.0 n new w.stations other)
    ]

module _ (w : World) (kept : IsKeptWorld w) where
  pub there_is : (n : ℕ) (at : Placed) → look ◌==◌ n w.stations ≡ Some at → IsPlaced w.params w.now (view w) n at
  there_is n at there = all_look ℕ Placed ◌==◌ nat_self nat_is (IsPlaced w.params w.now (view w)) n at w.stations there kept.facts.stations

  module _ (f : Flow) (flow : IsFlow f) where
    -- A SEND leaves what is unread
    module _ (octets : List ℕ) (begin end : Bool) (g : Flow) where
      sent_at : (o : Option Placed) → look ◌==◌ f.from.0 w.stations ≡ o → unread_in (event_at w f.from.0 (Send f octets begin end) o).1 g ≡ unread_in w g
      sent_at None there = refl
      sent_at (Some at) there =
          let r = play (world_handler (occasion w f.from.0 (Send f octets begin end))) (station_event w.params (w.now + at.zero) (Send f octets begin end) at.station) (noted_at w) in
          let placed_is = there_is f.from.0 at there in
          same_unread w f.from.0 at (record { zero = at.zero; life = at.life; station = r.1 }) g there (station_keeps_unread w f octets begin end at kept.limits flow (sym placed_is.me) (w.now + at.zero) placed_is.host g)

      pub sent_unless : (o : Option StepFault) → unread_in (then_step ([], w) (step_unless o (after_event w (Sends f octets begin end)))).1 g ≡ unread_in w g
      sent_unless None = sent_at (look ◌==◌ f.from.0 w.stations) refl
      sent_unless (Some fault) = refl

    -- A READ that tells a piece takes what was unread
    some_items : (items : List Item) (piece : Piece) → piece_of items ≡ Some piece → 1 ≤ length items
    some_items [] piece e = absurd cc
    some_items (i ∷ is) piece e = omega arith

    none_of_none : (most : ℕ) → first_piece most [] ≡ []
    none_of_none zero = refl
    none_of_none (suc most) = refl

    some_unread : (most : ℕ) (items : List Item) → 1 ≤ length (first_piece most items) → 1 ≤ length items
    some_unread most [] h = absurd (let none : length (first_piece most []) ≡ 0 = ap length (none_of_none most) in omega arith)
    some_unread most (i ∷ is) h = omega arith

    fewer : (k : ℕ) (items : List Item) → 1 ≤ k → 1 ≤ length items → length (drop k items) < length items
    fewer k items some there = omega (arith, length-drop k items)

    module _ (piece : Piece) where
      read_at : (o : Option Placed) → look ◌==◌ f.to.0 w.stations ≡ o → piece_in (event_at w f.to.0 (Read f most_read) o).0 ≡ Some piece → length (unread_in (event_at w f.to.0 (Read f most_read) o).1 f) < length (unread_in w f)
      read_at None there e = absurd cc
      read_at (Some at) there e =
          let r = play (world_handler (occasion w f.to.0 (Read f most_read))) (station_event w.params (w.now + at.zero) (Read f most_read) at.station) (noted_at w) in
          let new : Placed = record { zero = at.zero; life = at.life; station = r.1 } in
          let placed_is = there_is f.to.0 at there in
          let unread = unread_at at.station.host f in
          let told = sym (ap (λ (o : Option Placed). piece_in (event_at w f.to.0 (Read f most_read) o).0) there) ∙ read_tells_the_next w f most_read at kept.limits there placed_is.host in
          let some = some_items (first_piece most_read unread) piece (sym told ∙ e) in
          let taken = (station_has_read w f most_read at kept.limits flow (sym placed_is.me) (w.now + at.zero) placed_is.host).taken in
          let after : unread_at (or_first f.to.0 (look ◌==◌ f.to.0 (write ◌==◌ f.to.0 new w.stations))).station.host f ≡ drop (length (first_piece most_read unread)) unread =
          ap (λ (o : Option Placed). unread_at (or_first f.to.0 o).station.host f) (look_write ℕ Placed ◌==◌ nat_self nat_is f.to.0 new w.stations) ∙ taken in
          let before : unread ≡ unread_in w f = ap (λ (o : Option Placed). unread_at (or_first f.to.0 o).station.host f) (sym there) in
          let less = fewer (length (first_piece most_read unread)) unread some (some_unread most_read unread some) in
          subst (λ (items : List Item). length items < length (unread_in w f)) (sym after) (subst (λ (items : List Item). length (drop (length (first_piece most_read unread)) unread) < length items) before less)

      read_unless : (o : Option StepFault) → let r = then_step ([], w) (step_unless o (after_event w (Reads f most_read))) in piece_in r.0 ≡ Some piece → length (unread_in r.1 f) < length (unread_in w f)
      read_unless None e = read_at (look ◌==◌ f.to.0 w.stations) refl e
      read_unless (Some fault) e = absurd cc

      pub read_takes : piece_in (happens (Reads f most_read) w).0 ≡ Some piece → length (unread_in (happens (Reads f most_read) w).1 f) < length (unread_in w f)
      read_takes e = read_unless (first_refusal (refusals w (Reads f most_read))) e

-- WHAT TAKING A MESSAGE LEAVES of the world: what is kept, and all that is unread
pub record Leaves (w after : World) : Type 0 where
  pub kept : IsKeptWorld after
  pub unread : (g : Flow) → unread_in after g ≡ unread_in w g

leaves_all : (w : World) → IsKeptWorld w → Leaves w w
leaves_all w kept = record { kept = kept; unread = λ g. refl }

pub flow_back : (f : Flow) → IsFlow f → IsFlow (reversed f)
flow_back f h = record { from = h.to; from_port = h.to_port; to = h.from; to_port = h.from_port }

pub post_leaves : (f : Flow) (octets : List ℕ) (w : World) → IsFlow f → IsKeptWorld w → Leaves w (post f octets w).1
post_leaves f octets w flow kept = record {
  kept = happens_keeps (Sends f octets true true) w flow kept;
  unread = λ g. sent_unless w kept f flow octets true true g (first_refusal (refusals w (Sends f octets true true)));
}

module _ (answer : List ℕ → List ℕ) where
  answer_leaves : (s : CallState) (n : ℕ) (octets : List ℕ) (c : Course) → IsKeptWorld c.calls.world → Leaves c.calls.world (answered_if s n octets c).calls.world
  answer_leaves state.Waiting n octets c kept = leaves_all c.calls.world kept
  answer_leaves state.Answered n octets c kept = leaves_all c.calls.world kept
  answer_leaves state.Unsure n octets c kept = leaves_all c.calls.world kept
  answer_leaves state.Declined n octets c kept = leaves_all c.calls.world kept

  message_leaves : (side : Side) (f : Flow) (message : List ℕ) (c : Course) → IsFlow f → IsKeptWorld c.calls.world → Leaves c.calls.world (take_message answer side f message c).calls.world
  message_leaves Server f message c flow kept = post_leaves (reversed f) (message_of (number_in message) (answer (carried_in message))) c.calls.world (flow_back f flow) kept
  message_leaves Client f message c flow kept = let n = number_in message in answer_leaves (call_at c.calls n).state n (carried_in message) c kept

  if_leaves : (b : Bool) (does : Course → Course) (c : Course) → Leaves c.calls.world (does c).calls.world → IsKeptWorld c.calls.world → Leaves c.calls.world (if b then does c else c).calls.world
  if_leaves true does c leaves kept = leaves
  if_leaves false does c leaves kept = leaves_all c.calls.world kept

  pub whole_leaves : (side : Side) (f : Flow) (whole : Option (List ℕ)) (c : Course) → IsFlow f → IsKeptWorld c.calls.world → Leaves c.calls.world (take_whole answer side f whole c).calls.world
  whole_leaves side f None c flow kept = leaves_all c.calls.world kept
  whole_leaves side f (Some message) c flow kept = if_leaves (has_number message && is_call c.calls f (number_in message)) (take_message answer side f message) c (message_leaves side f message c flow kept) kept
