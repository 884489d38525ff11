-- A client and its store.
use Rattle.std.specs.Prelude.{◌+◌, ◌==◌, ℕ, false, if◌then◌else◌, List, [], ◌∷◌, Option, Some, None}
use Rattle.dt_orders_model.specs.declared.knowledge.Known.{Known}
use Rattle.dt_orders_model.specs.declared.lanes.Attempt.{Attempt}
use Rattle.dt_orders_model.specs.declared.lanes.Called.{Called}
use Rattle.dt_orders_model.specs.declared.lanes.Client.{Client}
use Rattle.dt_orders_model.specs.declared.lanes.Fate.{Fate}
use Rattle.dt_orders_model.specs.declared.lanes.Hearing.{Hearing}
use Rattle.dt_orders_model.specs.declared.lanes.Hearing.TheVariants as hearing
use Rattle.dt_orders_model.specs.declared.lanes.Lane.{Lane}
use Rattle.dt_orders_model.specs.declared.lanes.Left.{Left}
use Rattle.dt_orders_model.specs.declared.lanes.Order.{Order}
use Rattle.dt_orders_model.specs.declared.lanes.Sending.TheVariants.{Sent}
use Rattle.dt_orders_model.specs.declared.requests.Kind.TheVariants.{Ask}
use Rattle.dt_orders_model.specs.Lanes.{adopted_by, cancelled_by, hearing_of, known_after, lane_made, lane_opened, lane_unsure, left_of}
use Rattle.dt_orders_model.specs.Stores.{Name}
use Rattle.dt_orders_world_laws.specs.Wires.{Reply}

abbrev pub put_at : {A : Type 0} → (ℕ → A) → ℕ → A → ℕ → A
put_at f here x other = if other == here then x else f other

-- A FATE that a client wrote, in the record of this number: by an answer that named a commit, or, of an order that was never called, by none
pub record Ended : Type 0 where
  pub name : Name
  pub fate : Fate
  pub result : List ℕ
  pub heard : Option Known
  pub record_number : ℕ

-- WHAT A CLIENT'S STORE HAS, up to the record of this number
pub record Kept : Type 0 where
  pub number : ℕ
  pub known : Option Known
  pub lanes : ℕ → Lane
  pub fates : List Ended

-- A CLIENT: what it knows, its lanes, the fates of its orders, the call that waits on each lane, the number of calls that it made in this life, the number of its last record, up to which one they are stored; what a crash may leave of its store; and, as no client keeps them, all that its store ever had and the nonces of all its openings
pub record Process : Type 0 where
  pub client : Client
  pub lanes : ℕ → Lane
  pub fates : List Ended
  pub waits : ℕ → Option Called
  pub count : ℕ
  pub number : ℕ
  pub stored : ℕ
  pub alive : List Kept
  pub olds : List Kept
  pub nonces : List ℕ

abbrev pub name_on : ℕ → Order → Name
name_on lane o = record { lane = lane; number = o.number; tag = o.tag }

abbrev pub attempt_of : Process → Attempt
attempt_of p = record { nonce = p.client.nonce; count = p.count }

-- A RECORD of what the client has now
abbrev pub kept_of : Process → Kept
kept_of p = record { number = p.number + 1; known = p.client.known; lanes = p.lanes; fates = p.fates }

abbrev pub recorded : Process → Process
recorded p = record p { number = p.number + 1; alive = kept_of p ∷ p.alive; olds = kept_of p ∷ p.olds }

abbrev pub with_lane : Process → ℕ → Lane → Process
with_lane p lane l = record p { lanes = put_at p.lanes lane l }

-- AN ORDER IS NOTED, in a record
abbrev pub noted_on : Process → ℕ → Lane → Process
noted_on p lane l = recorded (with_lane p lane l)

-- IT IS CALLED: the call may be on the wire
abbrev pub called_on : Process → ℕ → Called → Process
called_on p lane c = record p { lanes = put_at p.lanes lane (lane_made Sent (p.lanes lane)); waits = put_at p.waits lane (Some c); count = p.count + 1 }

-- A QUESTION, with a commit that was heard of
abbrev pub question_of : Process → Known → Option Known → Called
question_of p since knows = record { kind = Ask; number = 0; tag = 0; since = since; attempt = attempt_of p; knows = knows; is_only = false }

abbrev pub asked_on : Process → ℕ → Called → Process
asked_on p lane c = record p { lanes = put_at p.lanes lane (lane_unsure (p.lanes lane)); waits = put_at p.waits lane (Some c); count = p.count + 1 }

-- A CALL WAITS NO LONGER
abbrev pub ended_on : Process → ℕ → Process
ended_on p lane = record p { lanes = put_at p.lanes lane (lane_unsure (p.lanes lane)); waits = put_at p.waits lane None }

-- WHAT IS LEFT OF A LANE: a fate is written in one record with the lane and with what is known; so is a lane that names this record
abbrev pub left_on : Process → ℕ → Lane → Option Ended → Process
left_on p lane l None = if l.record_number == p.number + 1 then recorded (with_lane p lane l) else with_lane p lane l
left_on p lane l (Some e) = recorded (record p { lanes = put_at p.lanes lane l; fates = e ∷ p.fates })

abbrev pub ended_by : Option Fate → Option Order → (lane record_number : ℕ) → List ℕ → Option Known → Option Ended
ended_by None o lane at result heard = None
ended_by (Some f) None lane at result heard = None
ended_by (Some f) (Some o) lane at result heard = Some (record { name = name_on lane o; fate = f; result = result; heard = heard; record_number = at })

-- AN ANSWER IS HEARD by the call that waits
abbrev pub used_on : Process → Client → ℕ → Called → Reply → Left → Process
used_on p client lane c r left = left_on (record p { client = client; waits = put_at p.waits lane None }) lane left.lane (ended_by left.fate (p.lanes lane).order lane (p.number + 1) r.result (Some r.answer.heard))

abbrev pub heard_as : Hearing → Process → ℕ → Called → Reply → Process
heard_as hearing.Strange p lane c r = ended_on p lane
heard_as hearing.Unsure p lane c r = ended_on p lane
heard_as hearing.Alarm p lane c r = record (ended_on p lane) { client = known_after p.client hearing.Alarm r.answer }
heard_as hearing.Used p lane c r = used_on p (known_after p.client hearing.Used r.answer) lane c r (left_of p.client (p.lanes lane) c r.answer (p.number + 1))

abbrev pub heard_on : Process → ℕ → Called → Reply → Process
heard_on p lane c r = heard_as (hearing_of p.client.known c r.answer) p lane c r

-- THE PROGRAM CANCELS a lane's order
abbrev pub cancelled_on : Process → ℕ → Process
cancelled_on p lane =
    let left = cancelled_by (p.lanes lane).order (p.lanes lane) in
    left_on p lane left.lane (ended_by left.fate (p.lanes lane).order lane (p.number + 1) [] None)

-- IT ADOPTS what the server's store is after a set back
abbrev pub adopted_on : Process → Process
adopted_on p = recorded (record p { client = adopted_by p.client.stopped p.client })

-- A NEW LIFE, over what the store has
abbrev pub opened_on : Process → Kept → ℕ → Process
opened_on p k nonce = record {
  client = record { nonce = nonce; known = k.known; stopped = None; is_once = false };
  lanes = λ lane. lane_opened (k.lanes lane);
  fates = k.fates;
  waits = λ lane. None;
  count = 0;
  number = k.number;
  stored = k.number;
  alive = k ∷ [];
  olds = p.olds;
  nonces = nonce ∷ p.nonces;
}

-- an empty store in its first opening
abbrev pub no_order : Lane
no_order = record { last = 0; order = None; is_fresh = false; is_cancelled = false; is_calling = false; record_number = 0 }

abbrev pub nothing_kept : Kept
nothing_kept = record { number = 0; known = None; lanes = λ lane. no_order; fates = [] }

abbrev pub first_process : ℕ → Process
first_process nonce = record {
  client = record { nonce = nonce; known = None; stopped = None; is_once = false };
  lanes = λ lane. no_order;
  fates = [];
  waits = λ lane. None;
  count = 0;
  number = 0;
  stored = 0;
  alive = nothing_kept ∷ [];
  olds = nothing_kept ∷ [];
  nonces = nonce ∷ [];
}
