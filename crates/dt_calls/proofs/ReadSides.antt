-- What the code has after a read of a side, and after the message that it makes whole.
use Rattle.std.proofs.Common.{ℕ, ◌≡◌, ◌<◌, ◌≤◌, ◌^◌, Bool, true, false, List, length, Option, Some, None, Result, Err, refl, ap, sym, subst, ◌∙◌}
use Rattle.std.specs.Prelude.{MatchOption, is_some}
use Rattle.dt_units.specs.declared.endpoints.Flow.{Flow}
use Rattle.dt_units.specs.Flows.{IsFlow}
use Rattle.dt_world_model.specs.Tables.{has_key, same_flow}
use Rattle.dt_world_model.specs.World.{World}
use Rattle.dt_world_model.specs.WorldStep.{Reads}
use Rattle.dt_world.specs.Worlds.{WorldValue}
use Rattle.dt_calls_laws.specs.Told.{IsOn}
use Rattle.dt_calls_model.specs.declared.calls.Call.{Call}
use Rattle.dt_calls_model.specs.Calls.{Begun, Calls, Server, Side, flow_read}
use Rattle.dt_calls_model.specs.CallTold.{CallEntry}
use Rattle.dt_calls_model.specs.Heard.{piece_in}
use Rattle.dt_calls_model.specs.Messages.{Piece, carried_in}
use Rattle.dt_calls_model.specs.Promises.{AreServedOnce}
use Rattle.dt_calls_model.specs.Reads.{Course, happens, most_read, read_side, take_whole}
use Rattle.dt_calls.specs.declared.call_courses.CallsParts.{CallsParts}
use Rattle.dt_calls.specs.CallCourses.{CourseValue, IsOnCourse, course_seen}
use Rattle.dt_call_parts.specs.Courses.{GoesOn, HasGoneOn, HasStopped, from_calls}
use Rattle.dt_call_parts.specs.Flows.{flows_seen}
use Rattle.dt_calls.specs.Happening.{HasHappened}
use Rattle.dt_call_parts.specs.Hearing.{HeardValue}
use Rattle.dt_call_parts.specs.Waiting.{Covers}
use Rattle.dt_call_parts.specs.Kept.{AreShort, IsKeptWorld, keys_in}
use Rattle.dt_calls.specs.Parts.{HasJoined, IsWhole, calls_seen}
use Rattle.dt_call_parts.proofs.CoursesOn.{piece_on, side_on, starts_on}
use Rattle.dt_call_parts.proofs.FlowTables.{key_written, keys_written}
use Rattle.dt_calls.proofs.Hearings.{piece_heard}
use Rattle.dt_call_parts.proofs.Requests.{request_short, whole_short}
use Rattle.dt_call_parts.proofs.Waiting.{whole_covers}
use Rattle.dt_call_parts.proofs.Worlds.{happens_keeps}
use Rattle.dt_call_parts.proofs.Readings.{ReadsOn, begins, ends_here, falls, has_joined, has_read, left_unread, made_whole, piece_read, reads_on, still_kept, stops_at_message}

-- a result that is an error stopped
pub stopped_with : {L U E : Type 0} (tells : L → CallEntry → L → Type 0) (does : Course → Course) (c : Calls) (l m : L) (after : Calls) (r : Result U E) (e : E) → r ≡ Err e → HasStopped tells does c l m → GoesOn tells does c l m r after
stopped_with tells does c l m after r e is stop = subst (λ r. GoesOn tells does c l m r after) (sym is) stop

pub piece_lost : {A : Type 0} (P : A → Type 0) (r : Option A) (p : Option Piece) → MatchOption r (p ≡ None) P → is_some r ≡ false → p ≡ None
piece_lost P None p h e = h
piece_lost P (Some a) p h e = absurd cc

-- what the taking of a message leaves beside the calls and the world
pub record StaysSo {H : Type 0} (after next : CallsParts H) : Type 0 where
  pub unspent : next.world.spent ≡ false
  pub heard : next.heard.failed ≡ false
  pub waiting : next.waiting ≡ after.waiting
  pub flows : next.flows ≡ after.flows
  pub handler : next.handler ≡ after.handler

module _ {L : Type 0} (tells : L → CallEntry → L → Type 0) (answer : List ℕ → List ℕ) (side : Side) (f : Flow) where
  -- the read of the code is that of the definitions
  pub record IsRead (w : WorldValue) (new : WorldValue) (t : HeardValue) : Type 0 where
    pub world : new.state ≡ (happens (Reads (flow_read side f) most_read) w.state).1
    pub piece : t.piece ≡ piece_in (happens (Reads (flow_read side f) most_read) w.state).0
    pub unspent : new.spent ≡ false
    pub heard : t.failed ≡ false

  pub is_read : (g : Flow) (w new : WorldValue) (h t : HeardValue) → g ≡ flow_read side f → HasHappened (Reads g 65536) w h new t → IsRead w new t
  is_read g w new h t is has =
      let here : HasHappened (Reads (flow_read side f) 65536) w h new t = subst (λ (k : Flow). HasHappened (Reads k 65536) w h new t) is has in
      record {
        world = here.world;
        piece = ap (λ (x : HeardValue). x.piece) here.heard_is ∙ piece_heard (happens (Reads (flow_read side f) most_read) w.state).0 h;
        unspent = here.unspent;
        heard = here.whole;
      }

  world_read : (w new : WorldValue) (t : HeardValue) → IsFlow (flow_read side f) → IsKeptWorld w.state → IsRead w new t → IsKeptWorld new.state
  world_read w new t flow kept read = subst IsKeptWorld (sym read.world) (happens_keeps (Reads (flow_read side f) most_read) w.state flow kept)

  module _ {H : Type 0} (first : CourseValue H) (l0 : L) where
    -- BETWEEN TWO READS: what the calls that were given have become, and the lines.
    pub record IsReading (p : CallsParts H) (l : L) : Type 0 where
      pub begun : IsOn answer (from_calls first.calls)
      pub on : ReadsOn tells answer side f first.calls l0 (calls_seen p) l
      pub keys : keys_in (flows_seen p.flows.entries) ≡ keys_in first.calls.flows
      pub there : has_key same_flow f (flows_seen p.flows.entries) ≡ true
      pub whole : IsWhole p
      pub handler : p.handler ≡ first.handler
      pub course : IsOn answer (from_calls (calls_seen p))

  pub reading_begins : {H : Type 0} (p : CallsParts H) (spent : Bool) (l0 : L) → has_key same_flow f (flows_seen p.flows.entries) ≡ true → IsOnCourse answer p → length p.calls.items ≤ 2 ^ 64 → IsReading (course_seen p spent) l0 p l0
  reading_begins p spent l0 there on few =
      let begun = starts_on answer (calls_seen p) on.course few in
      record {
        begun = begun;
        on = begins tells answer side f (calls_seen p) l0;
        keys = refl;
        there = there;
        whole = on.whole;
        handler = refl;
        course = begun;
      }

  -- ONE READ, from the parts p to the world and to what was heard of it
  pub record OneRead (H : Type 0) : Type 0 where
    pub first : CourseValue H
    pub l0 : L
    pub p : CallsParts H
    pub l : L
    pub is : IsReading first l0 p l
    pub new : WorldValue
    pub t : HeardValue
    pub flow : IsFlow (flow_read side f)
    pub read : IsRead p.world new t

  abbrev pub one_read : {H : Type 0} (first : CourseValue H) (l0 : L) (p : CallsParts H) (l : L) → IsReading first l0 p l → (g : Flow) (new : WorldValue) (t : HeardValue) → g ≡ flow_read side f → IsFlow g → HasHappened (Reads g 65536) p.world p.heard new t → OneRead H
  one_read first l0 p l is g new t same range has =
      record { first = first; l0 = l0; p = p; l = l; is = is; new = new; t = t; flow = subst IsFlow same range; read = is_read g p.world new p.heard t same has }

-- What it leaves
module _ {L H : Type 0} {tells : L → CallEntry → L → Type 0} {answer : List ℕ → List ℕ} {side : Side} {f : Flow} (o : OneRead tells answer side f H) where
  abbrev d : Calls
  d = calls_seen o.p

  abbrev pub with_read : CallsParts H
  with_read = record o.p { world = o.new; heard = o.t }

  abbrev Reading : Course → Course
  Reading r = read_side answer side r f

  abbrev read_calls : Calls
  read_calls = has_read tells answer side f d

  seen : calls_seen with_read ≡ read_calls
  seen = ap (λ (v : World). let x : Calls = record { world = v; calls = d.calls; flows = d.flows } in x) o.read.world

  whole_read : IsWhole with_read
  whole_read = record { unspent = o.read.unspent; heard = o.read.heard; world = world_read tells answer side f o.p.world o.new o.t o.flow o.is.whole.world o.read; waiting = o.is.whole.waiting; requests = o.is.whole.requests }

  -- nothing was there
  pub reading_ends : o.t.piece ≡ None → HasGoneOn tells Reading o.first.calls o.l0 o.l (calls_seen with_read)
  reading_ends none = subst (λ (x : Calls). HasGoneOn tells Reading o.first.calls o.l0 o.l x) (sym seen) (ends_here tells answer side f o.first.calls o.l0 d o.l o.is.on (sym o.read.piece ∙ none))

  pub reading_on : has_key same_flow f o.first.calls.flows ≡ true → o.t.piece ≡ None → IsOnCourse answer with_read
  reading_on key none = record {
    whole = whole_read;
    course = (side_on answer tells side o.first.calls (calls_seen with_read) o.l0 o.l o.is.begun f key (reading_ends none)).facts;
  }

  -- THE PIECE IS JOINED
  module _ (after : CallsParts H) (whole : Option (List ℕ)) (j : HasJoined side f with_read whole after) where
    piece_is : piece_read tells answer side f d ≡ Some j.piece
    piece_is = sym o.read.piece ∙ j.heard

    -- what the definitions have then, and the message that is whole to them
    abbrev now_joined : Calls
    now_joined = has_joined tells answer side f j.piece read_calls

    abbrev now_whole : Option (List ℕ)
    now_whole = made_whole tells answer side f j.piece read_calls

    joined_seen : calls_seen after ≡ now_joined
    joined_seen =
        ap (λ (x : CallsParts H). let y : Calls = record { world = x.world.state; calls = x.calls.items; flows = flows_seen after.flows.entries } in y) j.same
        ∙ ap (λ (fs : List (Flow × Begun)). let y : Calls = record { world = o.new.state; calls = o.p.calls.items; flows = fs } in y) j.flows
        ∙ ap (has_joined tells answer side f j.piece) seen

    whole_seen : whole ≡ now_whole
    whole_seen = j.whole_is ∙ ap (made_whole tells answer side f j.piece) seen

    pub still_served_once : AreServedOnce (calls_seen after)
    still_served_once = subst (λ (x : CallsParts H). AreServedOnce (calls_seen x)) (sym j.same) o.is.course.facts.once

    pub message_is_short : (message : List ℕ) → whole ≡ Some message → side ≡ Server → length (carried_in message) ≤ 65528
    message_is_short message some server = request_short answer d f j.piece message o.is.course.facts o.is.whole.requests o.is.there side piece_is (sym j.whole_is ∙ some) server

    -- what holds of the message that is taken by the handler that the parts have then, which is the one that they began with
    pub taken_by : (answers : H → List ℕ → List ℕ) → answers o.first.handler ≡ answer → (P : (List ℕ → List ℕ) → Option (List ℕ) → Type 0) (message : List ℕ) → whole ≡ Some message → P (answers after.handler) (Some message) → P answer whole
    taken_by answers begun P message some holds =
        let same : answers after.handler ≡ answer = ap answers (ap (λ (x : CallsParts H). x.handler) j.same ∙ o.is.handler) ∙ begun in
        subst (λ (w : Option (List ℕ)). P answer w) (sym some) (subst (λ (a : List ℕ → List ℕ). P a (Some message)) same holds)

    -- THE MESSAGE IS TAKEN, if there is one: it stopped
    pub reading_stops : (n : L) → HasStopped tells (take_whole answer side f whole) (calls_seen after) o.l n → HasStopped tells Reading o.first.calls o.l0 n
    reading_stops n stop =
        stops_at_message tells answer side f o.first.calls o.l0 d o.l j.piece piece_is o.is.on n
        (subst (λ (w : Option (List ℕ)). HasStopped tells (take_whole answer side f w) now_joined o.l n) whole_seen
        (subst (λ (x : Calls). HasStopped tells (take_whole answer side f whole) x o.l n) joined_seen stop))

    -- or it was done
    module _ (n : L) (next : CallsParts H) (gone : HasGoneOn tells (take_whole answer side f whole) (calls_seen after) o.l n (calls_seen next)) where
      taken : HasGoneOn tells (take_whole answer side f now_whole) now_joined o.l n (calls_seen next)
      taken =
          subst (λ (w : Option (List ℕ)). HasGoneOn tells (take_whole answer side f w) now_joined o.l n (calls_seen next)) whole_seen
          (subst (λ (x : Calls). HasGoneOn tells (take_whole answer side f whole) x o.l n (calls_seen next)) joined_seen gone)

      calls_then : next.calls.items ≡ (take_whole answer side f now_whole (from_calls now_joined)).calls.calls
      calls_then = ap (λ (x : Calls). x.calls) taken.calls

      calls_before : o.p.calls.items ≡ now_joined.calls
      calls_before = ap (λ (x : Calls). x.calls) seen

      still_covers : next.waiting ≡ after.waiting → Covers 0 next.waiting.items next.calls.items
      still_covers same =
          let before : Covers 0 o.p.waiting.items now_joined.calls = subst (λ (cs : List Call). Covers 0 o.p.waiting.items cs) calls_before o.is.whole.waiting in
          let there = whole_covers answer o.p.waiting.items side f now_whole (from_calls now_joined) before in
          let kept : next.waiting.items ≡ o.p.waiting.items = ap (λ v. v.items) same ∙ ap (λ (x : CallsParts H). x.waiting.items) j.same in
          subst (λ (ks : List ℕ). Covers 0 ks next.calls.items) (sym kept) (subst (λ (cs : List Call). Covers 0 o.p.waiting.items cs) (sym calls_then) there)

      still_short : AreShort next.calls.items
      still_short =
          let before : AreShort now_joined.calls = subst AreShort calls_before o.is.whole.requests in
          subst AreShort (sym calls_then) (whole_short answer side f now_whole (from_calls now_joined) before)

      pub reading_falls : left_unread tells answer side f (calls_seen next) < left_unread tells answer side f d
      reading_falls = falls tells answer side f o.first.calls o.l0 d o.l j.piece piece_is o.flow o.is.whole.world n (calls_seen next) taken

      pub reading_goes : StaysSo after next → IsReading tells answer side f o.first o.l0 next n
      reading_goes same = record {
        begun = o.is.begun;
        on = reads_on tells answer side f o.first.calls o.l0 d o.l j.piece piece_is o.flow o.is.whole.world o.is.on n (calls_seen next) taken;
        keys = ap (λ fs. keys_in (flows_seen fs.entries)) same.flows ∙ ap keys_in j.flows ∙ keys_written f _ (flows_seen o.p.flows.entries) o.is.there ∙ o.is.keys;
        there = ap (λ fs. has_key same_flow f (flows_seen fs.entries)) same.flows ∙ ap (has_key same_flow f) j.flows ∙ key_written f _ (flows_seen o.p.flows.entries);
        whole = record {
          unspent = same.unspent;
          heard = same.heard;
          world = still_kept tells answer side f o.first.calls o.l0 d o.l j.piece piece_is o.flow o.is.whole.world n (calls_seen next) taken;
          waiting = still_covers same.waiting;
          requests = still_short;
        };
        handler = same.handler ∙ ap (λ (x : CallsParts H). x.handler) j.same ∙ o.is.handler;
        course = piece_on answer tells side d (calls_seen next) o.l n o.is.course f o.is.there j.piece piece_is taken;
      }

    -- none became whole
    pub none_taken : whole ≡ None → HasGoneOn tells (take_whole answer side f whole) (calls_seen after) o.l o.l (calls_seen after)
    none_taken none = subst (λ (w : Option (List ℕ)). HasGoneOn tells (take_whole answer side f w) (calls_seen after) o.l o.l (calls_seen after)) (sym none) (record { lines = refl; calls = refl })

    pub none_stays : StaysSo after after
    none_stays = record { unspent = ap (λ (x : CallsParts H). x.world.spent) j.same ∙ o.read.unspent; heard = ap (λ (x : CallsParts H). x.heard.failed) j.same ∙ o.read.heard; waiting = refl; flows = refl; handler = refl }
