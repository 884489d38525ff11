-- What a call of an endpoint leaves: its in links, if it found memory, and the frames that left before.
use Rattle.std.proofs.Common.{◌≡◌, ◌∙◌, ◌⊎◌, ℕ, false, List, [], ◌++◌, append-nil, Option, Some, None, sym, ap, inl, inr}
use Rattle.dt_world_model.specs.Station.{Event}
use Rattle.dt_endpoint.specs.declared.answers.Received.{Received}
use Rattle.dt_endpoint.specs.declared.answers.Received.TheVariants as arrived
use Rattle.dt_endpoint.specs.Acts.{OutFrameValue, acts_of, frames_in}
use Rattle.dt_endpoint.specs.Calls.{ArriveDoes, Arrives, Unless, arrive_event, arrive_refusal}
use Rattle.dt_endpoint.specs.Endpoints.{Breaks, EndpointValue, after_event, script_of, with_refused}
use Rattle.dt_network.proofs.Outcomes.{IsStill, arrival_comes_to, followed_is_still, pulled_frame_is_still, pulled_report_is_still, read_comes_to, route_comes_to, same_is_still, send_comes_to, tick_comes_to}
use Rattle.dt_network.specs.Network.{Setup}
use Rattle.dt_network.specs.Steps.{AddRoute, Call, CallArrive, CallRead, CallSend, CallTick, Does, Follow, OpenAgain, PullFrame, PullReport}
use Rattle.dt_early_laws.specs.Shelved.{is_opening}
use Rattle.dt_early_laws.proofs.Links.{ends_ins}

-- AN ENDPOINT GOES ON: it was as little without memory as after, and has the same in links
pub record Same (e f : EndpointValue) : Type 0 where
  pub unspent : e.spent ≡ false
  pub ins : f.state.relay.ins ≡ e.state.relay.ins

still_same : (e f : EndpointValue) → IsStill e f → f.spent ≡ false → Same e f
still_same e f still unspent = record { unspent = sym still.spent ∙ unspent; ins = ap (λ st. st.relay.ins) still.state }

ends_same : (now : ℕ) (event : Event (Unit {0})) (e f : EndpointValue) → e.spent ≡ false → ((f ≡ after_event now event e) ⊎ Breaks now event e f) → f.spent ≡ false → Same e f
ends_same now event e f before ends unspent = record { unspent = before; ins = ends_ins now event e f ends unspent }

pub arrival_same : (answer : Received) (now link : ℕ) (datagram : List ℕ) (waited : ℕ) (e f : EndpointValue) → Arrives answer now link datagram waited e f → f.spent ≡ false → Same e f
arrival_same answer now link datagram waited e f does unspent =
    elim (arrival_comes_to answer now link datagram waited e f does) [
      | inl still ↦ still_same e f still unspent
      | inr k ↦ ends_same now (arrive_event link datagram waited) e f k.unspent k.ends unspent
    ]

pub call_same : (setup : Setup) (n : ℕ) (call : Call) (e f : EndpointValue) → is_opening call ≡ false → Does setup n call e f → f.spent ≡ false → Same e f
call_same setup n (CallTick now answer) e f shut does unspent =
    elim (tick_comes_to answer now e f does) [
      | inl same ↦ still_same e f (same_is_still e f same) unspent
      | inr k ↦ ends_same now _ e f k.0 k.1 unspent
    ]
call_same setup n (CallSend now flow octets begin end answer) e f shut does unspent =
    elim (send_comes_to answer now flow octets begin end e f does.1) [
      | inl k ↦ still_same e f (same_is_still e f k.same) unspent
      | inr k ↦ ends_same now _ e f k.unspent k.ends unspent
    ]
call_same setup n (CallRead now flow room buf answer) e f shut does unspent =
    elim (read_comes_to answer now flow room buf e f does.1) [
      | inl k ↦ still_same e f (same_is_still e f k.same) unspent
      | inr k ↦ ends_same now _ e f k.unspent k.ends unspent
    ]
call_same setup n (CallArrive now link datagram waited answer) e f shut does unspent = arrival_same answer now link datagram waited e f does unspent
call_same setup n PullFrame e f shut does unspent = still_same e f (pulled_frame_is_still e f does) unspent
call_same setup n PullReport e f shut does unspent = still_same e f (pulled_report_is_still e f does) unspent
call_same setup n (AddRoute route answer) e f shut does unspent =
    elim (route_comes_to answer route e f does) [
      | inl same ↦ still_same e f (same_is_still e f same) unspent
      | inr more ↦ record { unspent = ap (λ (x : EndpointValue). x.spent) (sym more) ∙ unspent; ins = ap (λ (x : EndpointValue). x.state.relay.ins) more }
    ]
call_same setup n (Follow flow done) e f shut does unspent = still_same e f (followed_is_still flow done setup n e f does) unspent
call_same setup n (OpenAgain again options) e f shut does unspent = absurd cc

-- THE FRAMES THAT AN ARRIVAL APPENDS come after those that wait
pub record Appended (e f : EndpointValue) : Type 0 where
  pub more : List OutFrameValue
  pub frames : f.frames ≡ e.frames ++ more

ends_appended : (now : ℕ) (event : Event (Unit {0})) (e f : EndpointValue) → (answer : Received) → ArriveDoes answer now event e f → Appended e f
ends_appended now event e f answer does = by_answer answer does
  where
    done : f ≡ after_event now event e → Appended e f
    done same = record { more = frames_in (acts_of (script_of now event e)); frames = ap (λ (x : EndpointValue). x.frames) same }

    by_answer : (a : Received) → ArriveDoes a now event e f → Appended e f
    by_answer arrived.NoMemory broken = record { more = _; frames = broken.frames }
    by_answer arrived.Done k = done k.1
    by_answer arrived.Spent k = done k.1
    by_answer arrived.NoLink k = done k.1
    by_answer (arrived.Bad fault) k = done k.1
    by_answer arrived.Stale k = done k.1

pub arrival_appended : (answer : Received) (now link : ℕ) (datagram : List ℕ) (waited : ℕ) (e f : EndpointValue) → Arrives answer now link datagram waited e f → Appended e f
arrival_appended answer now link datagram waited e f does = by_refusal (arrive_refusal link datagram waited e) does
  where
    by_refusal : (o : Option Received) → Unless o answer (with_refused e) f (ArriveDoes answer now (arrive_event link datagram waited) e f) → Appended e f
    by_refusal (Some refusal) k = record { more = []; frames = ap (λ (x : EndpointValue). x.frames) k.1 ∙ sym (append-nil e.frames) }
    by_refusal None k = ends_appended now (arrive_event link datagram waited) e f answer k
