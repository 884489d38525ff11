-- The frames that an event appends are copies that the world put on links in it.
use Rattle.std.proofs.Common.{◌≡◌, ◌∙◌, ◌⊎◌, ℕ, List, [], ◌∷◌, ◌++◌, append_assoc, map, length, take, drop, sym, ap, subst, inl, inr}
use Rattle.std.specs.Prelude.{All, Contains}
use Rattle.std.proofs.Math.Seq.{drop-append_seam}
use Rattle.std.proofs.lemmas.List.{append-nil, take-append-drop}
use Rattle.std.proofs.lemmas.List.Concat.{flat_map-append}
use Rattle.std.proofs.lemmas.List.Elements.{All-cons, All-head, All-nil, All-tail, All-weaker, Contains-append_left, Contains-push}
use Rattle.dt_world_model.specs.Station.{Event}
use Rattle.dt_world_model.specs.World.{Copy}
use Rattle.dt_endpoint.specs.Acts.{Act, OutFrameValue, acts_of, frames_in, frames_of_act}
use Rattle.dt_endpoint.specs.Endpoints.{Breaks, EndpointValue, after_event, script_of}
use Rattle.dt_endpoint.specs.Networks.{frame_of}
use Rattle.dt_network.specs.Beside.{IsUnderWay}
use Rattle.dt_network.specs.Network.{Flight}

-- how an event ends: all of it was done, or there was no memory
abbrev pub Ends : ℕ → Event (Unit {0}) → EndpointValue → EndpointValue → Type 0
Ends now event e f = (f ≡ after_event now event e) ⊎ Breaks now event e f

-- the frames that were appended are the first of those that the whole event hands out
pub record Appends (e f : EndpointValue) (all : List OutFrameValue) : Type 0 where
  pub rest : List OutFrameValue
  pub first : drop (length e.frames) f.frames ++ rest ≡ all

behind : (before more after : List OutFrameValue) → after ≡ before ++ more → drop (length before) after ≡ more
behind before more after same = ap (drop (length before)) same ∙ drop-append_seam before more

first_frames : (count : ℕ) (acts : List Act) → frames_in (take count acts) ++ frames_in (drop count acts) ≡ frames_in acts
first_frames count acts = sym (flat_map-append frames_of_act (take count acts) (drop count acts)) ∙ ap frames_in (take-append-drop count acts)

pub appended : (now : ℕ) (event : Event (Unit {0})) (e f : EndpointValue) → Ends now event e f → Appends e f (frames_in (acts_of (script_of now event e)))
appended now event e f (inl done) =
    let all = frames_in (acts_of (script_of now event e)) in
    record { rest = []; first = append-nil (drop (length e.frames) f.frames) ∙ behind e.frames all f.frames (ap (λ (x : EndpointValue). x.frames) done) }
appended now event e f (inr broken) =
    let acts = acts_of (script_of now event e) in
    record {
      rest = frames_in (drop broken.count acts);
      first = ap (λ (fs : List OutFrameValue). fs ++ frames_in (drop broken.count acts)) (behind e.frames (frames_in (take broken.count acts)) f.frames broken.frames) ∙ first_frames broken.count acts;
    }

-- frames that a list of copies is handed out as are under way, also those that are some first ones
abbrev flight_at : ℕ → OutFrameValue → Flight
flight_at now g = record { frame = g; put = now }

abbrev PutAt : ℕ → Copy → Type 0
PutAt now c = c.put ≡ now

pub put_under_way : (now : ℕ) (old copies : List Copy) (frames rest : List OutFrameValue) → frames ++ rest ≡ map frame_of copies → All (PutAt now) copies → All (IsUnderWay (old ++ copies)) (map (flight_at now) frames)
put_under_way now old copies [] rest same put = All-nil (IsUnderWay (old ++ copies))
put_under_way now old [] (f ∷ frames) rest same put = absurd cc
put_under_way now old (c ∷ copies) (f ∷ frames) rest same put =
    let head : f ≡ frame_of c = cc in
    let tail : frames ++ rest ≡ map frame_of copies = cc in
    let one : IsUnderWay (old ++ c ∷ copies) (flight_at now f) =
    record {
      copy = c;
      there = subst (λ (cs : List Copy). Contains cs c) (append_assoc old (c ∷ []) copies) (Contains-append_left (old ++ c ∷ []) copies c (Contains-push old c));
      frame = sym head;
      put = All-head (PutAt now) c copies put;
    } in
    All-cons (IsUnderWay (old ++ c ∷ copies)) (flight_at now f) (map (flight_at now) frames) one
    (subst (λ (cs : List Copy). All (IsUnderWay cs) (map (flight_at now) frames)) (append_assoc old (c ∷ []) copies)
    (put_under_way now (old ++ c ∷ []) copies frames rest tail (All-tail (PutAt now) c copies put)))

-- what was under way still is
pub still_under_way : (old copies : List Copy) (flights : List Flight) → All (IsUnderWay old) flights → All (IsUnderWay (old ++ copies)) flights
still_under_way old copies flights h =
    All-weaker (IsUnderWay old) (IsUnderWay (old ++ copies)) (λ g k. record { copy = k.copy; there = Contains-append_left old copies k.copy k.there; frame = k.frame; put = k.put }) flights h
