-- A call of an endpoint, and the same event at its station of the world: they stay beside each other.
use Rattle.std.proofs.Common.{◌≡◌, ◌∙◌, ◌==◌, ◌+◌, ◌≤◌, ℕ, true, false, List, ◌++◌, drop, length, map, Some, refl, sym, ap, subst, arith, inl, inr}
use Rattle.std.specs.Prelude.{All}
use Rattle.std.proofs.Math.Seq.{drop-append_seam}
use Rattle.std.proofs.lemmas.Bool.{cases_Bool}
use Rattle.std.proofs.lemmas.List.Elements.{All-append}
use Rattle.dt_flow_model.specs.Frames.{Mark}
use Rattle.dt_world_model.proofs.Tables.{look_write, look_write_other, nat_is, nat_self}
use Rattle.dt_world_model.specs.Station.{Event}
use Rattle.dt_world_model.specs.Tables.{look, write}
use Rattle.dt_world_model.specs.Tags.{bare_event, bare_station}
use Rattle.dt_world_model.specs.World.{Copy, Placed, World}
use Rattle.dt_world_model.specs.WorldFacts.{WorldFacts}
use Rattle.dt_world_model.specs.WorldStep.{event_at}
use Rattle.dt_endpoint.proofs.Following.{endpoint_follows}
use Rattle.dt_endpoint.specs.Acts.{OutFrameValue, acts_of, frames_in}
use Rattle.dt_endpoint.specs.Endpoints.{EndpointValue, after_event, moment_of, script_of}
use Rattle.dt_endpoint.specs.Networks.{Follows, IsAt, frame_of, world_play}
use Rattle.dt_network.proofs.Frames.{Ends, appended, put_under_way, still_under_way}
use Rattle.dt_network.specs.Beside.{IsBeside, IsStationOf, IsUnderWay}
use Rattle.dt_network.specs.Duties.{KeepsTime}
use Rattle.dt_network.specs.Network.{Network, Setup, clock_of, flights}

same_rest : (before xs ys : List OutFrameValue) → before ++ xs ≡ before ++ ys → xs ≡ ys
same_rest before xs ys h = sym (drop-append_seam before xs) ∙ ap (drop (length before)) h ∙ drop-append_seam before ys

-- the network after a call of a node whose endpoint is known
abbrev pub called : Network → ℕ → EndpointValue → EndpointValue → Network
called net n e f = record { now = net.now; endpoints = write ◌==◌ n f net.endpoints; left = net.left ++ flights net.now (Some e) f }

-- the endpoints of a table after one was written, where that one and the others are stations
pub stations_after : (setup : Setup) (es : List (ℕ × EndpointValue)) (v : World) (n : ℕ) (f : EndpointValue) → IsStationOf setup v n f → ((m : ℕ) (e : EndpointValue) → (n == m) ≡ false → look ◌==◌ m es ≡ Some e → IsStationOf setup v m e)
    → (m : ℕ) (e : EndpointValue) → look ◌==◌ m (write ◌==◌ n f es) ≡ Some e → IsStationOf setup v m e
stations_after setup es v n f here others m e found =
    elim (cases_Bool (n == m)) [
      | inl y ↦
          let same : n ≡ m = nat_is n m y in
          let first : look ◌==◌ m (write ◌==◌ n f es) ≡ Some f = subst (λ (k : ℕ). look ◌==◌ k (write ◌==◌ n f es) ≡ Some f) same (look_write ℕ EndpointValue ◌==◌ nat_self nat_is n f es) in
          let both : Some f ≡ Some e = sym first ∙ found in
          let is : f ≡ e = cc in
          subst (λ (k : ℕ). IsStationOf setup v k e) same (subst (λ (x : EndpointValue). IsStationOf setup v n x) is here)
      | inr o ↦ others m e o (sym (look_write_other ℕ EndpointValue ◌==◌ nat_self nat_is m n f es o) ∙ found)
    ]

-- a station that stays, in a world in which only another was written
pub stays_station : (setup : Setup) (w v : World) (n m : ℕ) (p : Placed) (e : EndpointValue) → v.params ≡ w.params → v.now ≡ w.now → v.stations ≡ write ◌==◌ n p w.stations → (n == m) ≡ false → IsStationOf setup w m e → IsStationOf setup v m e
stays_station setup w v n m p e params now written other s = record {
  at = s.at;
  there = ap (look ◌==◌ m) written ∙ look_write_other ℕ Placed ◌==◌ nat_self nat_is m n p w.stations other ∙ s.there;
  clock = s.clock;
  rules = s.rules ∙ sym params;
  past = omega (arith, s.past, now);
  state = s.state;
}

-- THE MOMENT that an endpoint takes is its station's reading
pub moment_is : (setup : Setup) (net : Network) (n now : ℕ) (e : EndpointValue) → KeepsTime setup net n now → e.latest ≤ net.now + clock_of setup n → moment_of now e ≡ net.now + clock_of setup n
moment_is setup net n now e time past = omega (arith, time.clock, time.most)

module _ (setup : Setup) (net : Network) (w : World) (h : IsBeside setup net w) (n : ℕ) (e : EndpointValue) (s : IsStationOf setup w n e) where
  is_past : e.latest ≤ net.now + clock_of setup n
  is_past = omega (arith, s.past, s.clock, h.now)

  pub is_at : (now : ℕ) → KeepsTime setup net n now → e.spent ≡ false → IsAt w s.at now e
  is_at now time unspent = record {
    rules = s.rules;
    state = s.state unspent;
    moment = omega (arith, moment_is setup net n now e time is_past, s.clock, h.now);
  }

  -- AN EVENT of both
  module _ (now : ℕ) (time : KeepsTime setup net n now) (unspent : e.spent ≡ false) (event : Event Mark) (f : EndpointValue) (ends : Ends now (bare_event event) e f) where
    abbrev after : World
    after = (event_at w n event (Some s.at)).1

    abbrev there_now : Placed
    there_now = record { zero = s.at.zero; life = s.at.life; station = (world_play w n s.at event).1 }

    follows : Follows w n s.at event now e
    follows = endpoint_follows w n s.at event now e (is_at now time unspent)

    abbrev Kept : EndpointValue → Type 0
    Kept x = (x.rules ≡ w.params) × (x.latest ≤ w.now + s.at.zero) × (x.spent ≡ false → x.state ≡ bare_station (world_play w n s.at event).1)

    kept : Ends now (bare_event event) e f → Kept f
    kept (inl done) =
        let moment : moment_of now e ≡ w.now + s.at.zero = (is_at now time unspent).moment in
        let whole : Kept (after_event now (bare_event event) e) = (s.rules, omega (arith, moment), λ u. follows.state) in
        subst Kept (sym done) whole
    kept (inr broken) =
        let moment : moment_of now e ≡ w.now + s.at.zero = (is_at now time unspent).moment in
        (broken.rules ∙ s.rules, omega (arith, moment, broken.latest), λ u. let no : true ≡ false = sym broken.spent ∙ u in absurd cc)

    here : IsStationOf setup after n f
    here =
        let k = kept ends in
        record {
          at = there_now;
          there = look_write ℕ Placed ◌==◌ nat_self nat_is n there_now w.stations;
          clock = s.clock;
          rules = k.0;
          past = k.1;
          state = k.2;
        }

    -- what was appended are copies that the world put
    put : All (IsUnderWay (w.copies ++ follows.copies)) (flights net.now (Some e) f)
    put =
        let a = appended now (bare_event event) e f ends in
        let whole : e.frames ++ frames_in (acts_of (script_of now (bare_event event) e)) ≡ e.frames ++ map frame_of follows.copies = follows.frames in
        let all : frames_in (acts_of (script_of now (bare_event event) e)) ≡ map frame_of follows.copies = same_rest e.frames (frames_in (acts_of (script_of now (bare_event event) e))) (map frame_of follows.copies) whole in
        put_under_way net.now w.copies follows.copies (drop (length e.frames) f.frames) a.rest (a.first ∙ all) (subst (λ (k : ℕ). All (λ (c : Copy). c.put ≡ k) follows.copies) h.now follows.at_once)

    pub event_beside : WorldFacts after → IsBeside setup (called net n e f) after
    event_beside facts = record {
      params = h.params;
      now = h.now;
      endpoints = stations_after setup net.endpoints after n f here (λ m g other found. stays_station setup w after n m there_now g refl refl refl other (h.endpoints m g found));
      left = subst (λ (cs : List Copy). All (IsUnderWay cs) (net.left ++ flights net.now (Some e) f)) (sym follows.put)
          (All-append (IsUnderWay (w.copies ++ follows.copies)) net.left (flights net.now (Some e) f) (still_under_way w.copies follows.copies net.left h.left) put);
      facts = facts;
    }
