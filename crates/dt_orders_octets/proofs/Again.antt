-- What is written is read again: requests and lanes, whose octets depend on what they have.
use Rattle.std.proofs.Common.{◌≡◌, ℕ, ◌<◌, ◌^◌, Bool, true, false, Option, Some, None, rules}
use Rattle.dt_orders_model.specs.declared.knowledge.Known.{Known}
use Rattle.dt_orders_model.specs.declared.lanes.Attempt.{Attempt}
use Rattle.dt_orders_model.specs.declared.lanes.Order.{Order}
use Rattle.dt_orders_model.specs.declared.requests.Kind.{Kind}
use Rattle.dt_orders_model.specs.declared.requests.Kind.TheVariants as kind
use Rattle.dt_orders_model.specs.declared.lanes.Lane.{Lane}
use Rattle.dt_orders_model.specs.declared.lanes.Called.{Called}
use Rattle.dt_orders_octets.specs.declared.requests.NumberedLane.{NumberedLane}
use Rattle.dt_orders_octets.specs.declared.requests.Request.{Request}
use Rattle.dt_orders_octets.specs.Ranges.{FitsLane, FitsRequest}
use Rattle.dt_orders_octets.specs.Reading.{is_lane, is_request, lane_in, read_if, request_in}
use Rattle.dt_orders_octets.specs.Spelling.{lane_octets, request_octets}

abbrev request_of : (lane number tag : ℕ) (since : Known) (attempt : Attempt) (kind : Kind) (knows : Option Known) (only : Bool) → Request
request_of lane number tag since attempt kind knows only = record { lane = lane; called = record { kind = kind; number = number; tag = tag; since = since; attempt = attempt; knows = knows; is_only = only } }

abbrev IsReadRequest : Request → Type 0
IsReadRequest q = FitsRequest q → read_if (is_request (request_octets q)) (request_in (request_octets q)) ≡ Some q

pub request_again : (lane number tag : ℕ) (since : Known) (attempt : Attempt) (kind : Kind) (knows : Option Known) (only : Bool) → IsReadRequest (request_of lane number tag since attempt kind knows only)
request_again lane number tag since attempt kind.Order None false = search rules
request_again lane number tag since attempt kind.Order None true = search rules
request_again lane number tag since attempt kind.Order (Some k) false = search rules
request_again lane number tag since attempt kind.Order (Some k) true = search rules
request_again lane number tag since attempt kind.Cancel None false = search rules
request_again lane number tag since attempt kind.Cancel None true = search rules
request_again lane number tag since attempt kind.Cancel (Some k) false = search rules
request_again lane number tag since attempt kind.Cancel (Some k) true = search rules
request_again lane number tag since attempt kind.Ask None false = search rules
request_again lane number tag since attempt kind.Ask None true = search rules
request_again lane number tag since attempt kind.Ask (Some k) false = search rules
request_again lane number tag since attempt kind.Ask (Some k) true = search rules

abbrev lane_of : (number last record_number : ℕ) (order : Option Order) (fresh cancelled calling : Bool) → NumberedLane
lane_of number last record_number order fresh cancelled calling = record { number = number; lane = record { last = last; order = order; is_fresh = fresh; is_cancelled = cancelled; is_calling = calling; record_number = record_number } }

abbrev IsReadLane : NumberedLane → Type 0
IsReadLane l = FitsLane l → read_if (is_lane (lane_octets l)) (lane_in (lane_octets l)) ≡ Some l

pub lane_again : (number last record_number : ℕ) (order : Option Order) (fresh cancelled calling : Bool) → IsReadLane (lane_of number last record_number order fresh cancelled calling)
lane_again number last record_number None false false false = search rules
lane_again number last record_number None false false true = search rules
lane_again number last record_number None false true false = search rules
lane_again number last record_number None false true true = search rules
lane_again number last record_number None true false false = search rules
lane_again number last record_number None true false true = search rules
lane_again number last record_number None true true false = search rules
lane_again number last record_number None true true true = search rules
lane_again number last record_number (Some o) false false false = search rules
lane_again number last record_number (Some o) false false true = search rules
lane_again number last record_number (Some o) false true false = search rules
lane_again number last record_number (Some o) false true true = search rules
lane_again number last record_number (Some o) true false false = search rules
lane_again number last record_number (Some o) true false true = search rules
lane_again number last record_number (Some o) true true false = search rules
lane_again number last record_number (Some o) true true true = search rules
