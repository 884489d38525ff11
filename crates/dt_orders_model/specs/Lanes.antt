-- What a client does with an order and with an answer.
use Rattle.std.specs.Prelude.{ℕ, ◌+◌, ◌==◌, ◌&&◌, ◌||◌, Bool, true, false, not, max, nat_le, if◌then◌else◌, Option, Some, None}
use Rattle.dt_orders_model.specs.declared.knowledge.Known.{Known}
use Rattle.dt_orders_model.specs.declared.lanes.Answer.{Answer}
use Rattle.dt_orders_model.specs.declared.lanes.Attempt.{Attempt}
use Rattle.dt_orders_model.specs.declared.lanes.Called.{Called}
use Rattle.dt_orders_model.specs.declared.lanes.Client.{Client}
use Rattle.dt_orders_model.specs.declared.lanes.Effect.{Effect}
use Rattle.dt_orders_model.specs.declared.lanes.Effect.TheVariants as effect
use Rattle.dt_orders_model.specs.declared.lanes.Fate.{Fate}
use Rattle.dt_orders_model.specs.declared.lanes.Fate.TheVariants as fate
use Rattle.dt_orders_model.specs.declared.lanes.Hearing.{Hearing}
use Rattle.dt_orders_model.specs.declared.lanes.Hearing.TheVariants as hearing
use Rattle.dt_orders_model.specs.declared.lanes.Lane.{Lane}
use Rattle.dt_orders_model.specs.declared.lanes.Left.{Left}
use Rattle.dt_orders_model.specs.declared.lanes.Order.{Order}
use Rattle.dt_orders_model.specs.declared.lanes.Sending.{Sending}
use Rattle.dt_orders_model.specs.declared.lanes.Sending.TheVariants as sending
use Rattle.dt_orders_model.specs.declared.lanes.Word.{Word}
use Rattle.dt_orders_model.specs.declared.lanes.Word.TheVariants as word
use Rattle.dt_orders_model.specs.declared.requests.Kind.{Kind}
use Rattle.dt_orders_model.specs.declared.requests.Kind.TheVariants as kind

abbrev pub is_same_opening : Known → Known → Bool
is_same_opening a b = a.opening == b.opening && a.nonce == b.nonce

abbrev pub is_same_known : Known → Known → Bool
is_same_known a b = is_same_opening a b && a.clock == b.clock

abbrev pub is_same_attempt : Attempt → Attempt → Bool
is_same_attempt a b = a.nonce == b.nonce && a.count == b.count

-- the call carried what is known now
abbrev pub is_now : Option Known → Option Known → Bool
is_now None None = true
is_now None (Some k) = false
is_now (Some k) None = false
is_now (Some k) (Some q) = is_same_known k q

-- THE RULE OF OPENINGS: an answer of another opening than the known one is used only if its call carried what is known now
abbrev pub is_usable : Option Known → Option Known → Known → Bool
is_usable None knows heard = true
is_usable (Some k) knows heard = is_same_opening k heard || is_now (Some k) knows

-- what is known after an answer that is used: the newer of the two
abbrev pub newer : Option Known → Known → Known
newer None heard = heard
newer (Some k) heard = if is_same_opening k heard && nat_le heard.clock k.clock then k else heard

abbrev pub is_fork : Word → Bool
is_fork word.Forked = true
is_fork _ = false

-- WHAT AN ANSWER IS to the client
abbrev pub hearing_of : Option Known → Called → Answer → Hearing
hearing_of known c a = if not (is_same_attempt c.attempt a.attempt) then hearing.Strange else if is_fork a.word then (if is_now known c.knows then hearing.Alarm else hearing.Unsure) else if is_usable known c.knows a.heard then hearing.Used else hearing.Unsure

abbrev pub known_after : Client → Hearing → Answer → Client
known_after c hearing.Used a = record c { known = Some (newer c.known a.heard) }
known_after c hearing.Alarm a = record c { stopped = Some a.heard }
known_after c hearing.Strange a = c
known_after c hearing.Unsure a = c

-- WHAT AN ANSWER DOES to the order that was called; `only` if it is to the only call of its order, over a transport that delivers each call once at most
abbrev pub effect_of : Word → Bool → Effect
effect_of word.Done only = effect.Ends fate.Done
effect_of word.Never only = effect.Ends fate.Never
effect_of word.NotNow only = effect.Renews
effect_of word.Old only = if only then effect.Renews else effect.Ends fate.Unknown
effect_of word.Stale only = if only then effect.Renumbers else effect.Ends fate.Unknown
effect_of word.AtWork only = effect.Waits
effect_of word.Forked only = effect.Waits
effect_of word.Hello only = effect.Waits
effect_of word.Told only = effect.Waits

abbrev pub is_ask_call : Kind → Bool
is_ask_call kind.Ask = true
is_ask_call kind.Order = false
is_ask_call kind.Cancel = false

-- the call is of the lane's order, as its number and its tag are now
abbrev pub is_of : Option Order → Called → Bool
is_of None c = false
is_of (Some o) c = not (is_ask_call c.kind) && (o.number == c.number && o.tag == c.tag)

-- AN ORDER IS NOTED, with the next number and what is known: only by a client that knows of its server, that isn't stopped, on a lane without an order
abbrev pub lane_noted : Lane → ℕ → ℕ → Known → ℕ → Lane
lane_noted l uid nonce known at = record l { order = Some (record { uid = uid; number = l.last + 1; tag = nonce; since = known }); is_fresh = true; is_cancelled = false; is_calling = false; record_number = at }

abbrev pub given_by : Option Known → Option Known → Option Order → Lane → (uid nonce at : ℕ) → Option Lane
given_by (Some known) None None l uid nonce at = Some (lane_noted l uid nonce known at)
given_by _ _ _ l uid nonce at = None

abbrev pub given_of : Client → Lane → (uid at : ℕ) → Option Lane
given_of c l uid at = given_by c.known c.stopped l.order l uid c.nonce at

-- WHAT IS CALLED: the order exactly as it is noted, once that is stored, one call at a time
abbrev pub kind_of : Bool → Kind
kind_of true = kind.Cancel
kind_of false = kind.Order

abbrev pub called_of : Client → Lane → Order → Attempt → Called
called_of c l o attempt = record { kind = kind_of l.is_cancelled; number = o.number; tag = o.tag; since = o.since; attempt = attempt; knows = c.known; is_only = l.is_fresh }

abbrev pub call_by : Option Known → Option Order → Client → Lane → ℕ → Attempt → Option Called
call_by None (Some o) c l stored attempt = if not l.is_calling && nat_le l.record_number stored then Some (called_of c l o attempt) else None
call_by None None c l stored attempt = None
call_by (Some q) o c l stored attempt = None

abbrev pub call_of : Client → Lane → ℕ → Attempt → Option Called
call_of c l stored attempt = call_by c.stopped l.order c l stored attempt

-- a call that may have been sent is no more the first one
abbrev pub lane_made : Sending → Lane → Lane
lane_made sending.Sent l = record l { is_fresh = false; is_calling = true }
lane_made sending.Declined l = l

abbrev pub lane_unsure : Lane → Lane
lane_unsure l = record l { is_calling = false }

-- a lane that was read from the store: no order is fresh, and all is stored
abbrev pub lane_opened : Lane → Lane
lane_opened l = record l { is_fresh = false; is_cancelled = false; is_calling = false; record_number = 0 }

-- THE ORDER GOES ON from a commit as of which it wasn't executed
abbrev pub lane_renewed : Lane → Order → Known → ℕ → Lane
lane_renewed l o heard at = record l { order = Some (record o { since = heard }); is_calling = false; record_number = at }

-- it gets the number after the row's
abbrev pub lane_renumbered : Lane → Order → ℕ → ℕ → Known → ℕ → Lane
lane_renumbered l o value nonce heard at = record l { order = Some (record { uid = o.uid; number = value + 1; tag = nonce; since = heard }); is_fresh = true; is_calling = false; record_number = at }

-- it has its fate: the lane is free, and its numbers go on above
abbrev pub lane_ended : Lane → Order → ℕ → Lane
lane_ended l o above = record l { last = max (max l.last o.number) above; order = None; is_fresh = false; is_cancelled = false; is_calling = false }

abbrev pub above_of : Word → ℕ → ℕ
above_of word.Stale value = value
above_of _ value = 0

abbrev pub lane_by : Effect → ℕ → Lane → Order → Answer → ℕ → Lane
lane_by effect.Waits nonce l o a at = lane_unsure l
lane_by effect.Renews nonce l o a at = lane_renewed l o a.heard at
lane_by effect.Renumbers nonce l o a at = lane_renumbered l o a.value nonce a.heard at
lane_by (effect.Ends f) nonce l o a at = lane_ended l o (above_of a.word a.value)

abbrev pub fate_by : Effect → Option Fate
fate_by effect.Waits = None
fate_by effect.Renews = None
fate_by effect.Renumbers = None
fate_by (effect.Ends f) = Some f

-- WHAT AN ANSWER THAT IS USED LEAVES of the lane of its call
abbrev pub left_by : Bool → Option Order → ℕ → Lane → Effect → Answer → ℕ → Left
left_by of None nonce l e a at = record { lane = lane_unsure l; fate = None }
left_by false (Some o) nonce l e a at = record { lane = lane_unsure l; fate = None }
left_by true (Some o) nonce l e a at = record { lane = lane_by e nonce l o a at; fate = fate_by e }

abbrev pub left_of : Client → Lane → Called → Answer → ℕ → Left
left_of c l called a at = left_by (is_of l.order called) l.order c.nonce l (effect_of a.word (called.is_only && c.is_once)) a at

-- A CANCEL: an order that wasn't called is never executed, and no message says so; another one is asked about
abbrev pub cancelled_by : Option Order → Lane → Left
cancelled_by None l = record { lane = l; fate = None }
cancelled_by (Some o) l = if l.is_fresh then record { lane = lane_ended l o 0; fate = Some fate.Never } else record { lane = record l { is_cancelled = true }; fate = None }

-- AN ALARM IS ADOPTED
abbrev pub adopted_by : Option Known → Client → Client
adopted_by None c = c
adopted_by (Some q) c = record c { known = Some q; stopped = None }
