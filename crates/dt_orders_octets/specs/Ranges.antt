-- Each number fits its place: what is written then is read again.
use Rattle.std.specs.Prelude.{ℕ, ◌<◌, ◌^◌, Option, Some, None}
use Rattle.dt_orders_model.specs.declared.knowledge.Known.{Known}
use Rattle.dt_orders_model.specs.declared.knowledge.Opening.{Opening}
use Rattle.dt_orders_model.specs.declared.lanes.Answer.{Answer}
use Rattle.dt_orders_model.specs.declared.lanes.Attempt.{Attempt}
use Rattle.dt_orders_model.specs.declared.lanes.Client.{Client}
use Rattle.dt_orders_model.specs.declared.lanes.Order.{Order}
use Rattle.dt_orders_model.specs.declared.registers.Meta.{Meta}
use Rattle.dt_orders_model.specs.declared.registers.Row.{Row}
use Rattle.dt_orders_octets.specs.declared.requests.NumberedLane.{NumberedLane}
use Rattle.dt_orders_octets.specs.declared.requests.Request.{Request}

abbrev pub FitsKnown : Known → Type 0
FitsKnown k = (k.opening < 2 ^ 32) × (k.nonce < 2 ^ 64) × (k.clock < 2 ^ 64)

abbrev pub FitsMaybeKnown : Option Known → Type 0
FitsMaybeKnown None = Unit {0}
FitsMaybeKnown (Some k) = FitsKnown k

abbrev pub FitsAttempt : Attempt → Type 0
FitsAttempt a = (a.nonce < 2 ^ 64) × (a.count < 2 ^ 32)

abbrev pub FitsMeta : Meta → Type 0
FitsMeta m = (m.clock < 2 ^ 63) × (m.horizon < 2 ^ 63) × (m.opening < 2 ^ 32) × (m.nonce < 2 ^ 64)

abbrev pub FitsOpening : Option Opening → Type 0
FitsOpening None = Unit {0}
FitsOpening (Some o) = (0 < o.first) × (o.first < 2 ^ 64) × (o.nonce < 2 ^ 64)

abbrev pub FitsRow : Option Row → Type 0
FitsRow None = Unit {0}
FitsRow (Some r) = (r.number < 2 ^ 63) × (r.tag < 2 ^ 64) × (r.stamp < 2 ^ 64) × (r.born < 2 ^ 64)

abbrev pub FitsRequest : Request → Type 0
FitsRequest q = (q.lane < 2 ^ 32) × (q.called.number < 2 ^ 63) × (q.called.tag < 2 ^ 64) × FitsKnown q.called.since × FitsAttempt q.called.attempt × FitsMaybeKnown q.called.knows

abbrev pub FitsAnswer : Answer → Type 0
FitsAnswer a = (a.value < 2 ^ 63) × FitsKnown a.heard × FitsAttempt a.attempt

abbrev pub FitsClient : Client → Type 0
FitsClient c = (c.nonce < 2 ^ 64) × FitsMaybeKnown c.known × FitsMaybeKnown c.stopped

abbrev pub FitsOrder : Option Order → Type 0
FitsOrder None = Unit {0}
FitsOrder (Some o) = (o.uid < 2 ^ 64) × (o.number < 2 ^ 63) × (o.tag < 2 ^ 64) × FitsKnown o.since

abbrev pub FitsLane : NumberedLane → Type 0
FitsLane l = (l.number < 2 ^ 32) × (l.lane.last < 2 ^ 63) × (l.lane.record_number < 2 ^ 64) × FitsOrder l.lane.order
