-- A worked run of both ends: a client meets its server and gives an order. The server executes it and loses power before it syncs. The client calls again; the server executes the order, and that is synced. The client dies before it hears of that, calls once more, hears that its order is done, and its program is told.
use Rattle.std.specs.Prelude.{◌+◌, false, [], ◌∷◌, Some, None, take}
use Rattle.dt_orders_model.specs.declared.knowledge.Known.{Known}
use Rattle.dt_orders_model.specs.declared.lanes.Fate.TheVariants as fate
use Rattle.dt_orders_model.specs.declared.lanes.Order.{Order}
use Rattle.dt_orders_model.specs.declared.lanes.Word.TheVariants as word
use Rattle.dt_orders_model.specs.Histories.{World, commit, first_store, noted}
use Rattle.dt_orders_model.specs.Lanes.{called_of, lane_noted}
use Rattle.dt_orders_model.specs.Stores.{executed, heard}
use Rattle.dt_orders_world_laws.specs.Both.{Both, Rules, first_both, handled, makes, opened_server, with_client}
use Rattle.dt_orders_world_laws.specs.Clients.{Ended, Kept, Process, asked_on, attempt_of, called_on, ended_on, heard_on, kept_of, name_on, noted_on, opened_on, question_of}
use Rattle.dt_orders_world_laws.specs.Wires.{Reply, Sent, name_of, reply_to}

-- no store is set back
abbrev pub no_set_back : Rules
no_set_back = record { strict = false; server = false; clients = false }

abbrev pub nothing_heard : Known
nothing_heard = record { opening = 0; nonce = 0; clock = 0 }

-- all that client 1 wrote is stored
abbrev pub stored_of : Process → Process
stored_of p = record p { stored = p.number; alive = take 1 p.alive }

abbrev pub stored : Both → Both
stored w = with_client w 1 (stored_of (w.clients 1))

-- it calls the order of its lane 5
abbrev pub call_in : Both → Order → Sent
call_in w o = record { lane = 5; called = called_of (w.clients 1).client ((w.clients 1).lanes 5) o (attempt_of (w.clients 1)) }

abbrev pub called : Both → Order → Both
called w o = makes w 1 (called_on (w.clients 1) 5 (call_in w o).called) (call_in w o)

-- an answer leaves the server
abbrev pub with_left : Both → Reply → Both
with_left w r = record w { left = r ∷ w.left }

-- 1. it asks, and hears of the server's first opening
abbrev pub start : Both
start = first_both 9 (λ i. i + 100)

abbrev pub question : Sent
question = record { lane = 5; called = question_of (start.clients 1) nothing_heard None }

abbrev pub asked : Both
asked = makes start 1 (asked_on (start.clients 1) 5 question.called) question

abbrev pub greeting : Reply
greeting = reply_to question (heard asked.server.present) word.Told 0 [] asked.sent

abbrev pub greeted : Both
greeted = with_left (handled asked asked.server greeting) greeting

abbrev pub met : Both
met = with_client greeted 1 (heard_on (greeted.clients 1) 5 question.called greeting)

-- 2. it gives an order, which is stored, and calls it
abbrev pub order : Order
order = record { uid = 7; number = 1; tag = 101; since = record { opening = 0; nonce = 9; clock = 1 } }

abbrev pub gave : Both
gave = record (with_client met 1 (noted_on (met.clients 1) 5 (lane_noted ((met.clients 1).lanes 5) 7 101 order.since ((met.clients 1).number + 1)))) { server = noted met.server (record { name = name_on 5 order; since = order.since }) }

abbrev pub called_once : Both
called_once = called (stored gave) order

-- 3. the server executes it and loses power before it syncs
abbrev pub lost_call : Sent
lost_call = call_in (stored gave) order

abbrev pub lost_history : World
lost_history = commit called_once.server (executed called_once.server.present (name_of lost_call) (1 ∷ []))

abbrev pub executed_once : Both
executed_once = handled called_once lost_history (reply_to lost_call (heard lost_history.present) word.Done 0 (1 ∷ []) called_once.sent)

abbrev pub powered : Both
powered = opened_server executed_once (first_store 9) 10

-- 4. the call ends unsure and is made again; the order is executed, which is synced
abbrev pub unsure : Both
unsure = with_client powered 1 (ended_on (powered.clients 1) 5)

abbrev pub called_twice : Both
called_twice = called unsure order

abbrev pub second_call : Sent
second_call = call_in unsure order

abbrev pub kept_history : World
kept_history = commit called_twice.server (executed called_twice.server.present (name_of second_call) (2 ∷ []))

abbrev pub executed_again : Both
executed_again = handled called_twice kept_history (reply_to second_call (heard kept_history.present) word.Done 0 (2 ∷ []) called_twice.sent)

abbrev pub synced : Both
synced = record executed_again { alive = take 1 executed_again.alive }

-- 5. the client dies, calls once more, and hears that its order is done
abbrev pub its_store : Kept
its_store = kept_of (record (met.clients 1) { lanes = (gave.clients 1).lanes })

abbrev pub opened : Both
opened = with_client synced 1 (opened_on (synced.clients 1) its_store 5)

abbrev pub called_thrice : Both
called_thrice = called opened order

abbrev pub third_call : Sent
third_call = call_in opened order

abbrev pub answer : Reply
answer = reply_to third_call (heard called_thrice.server.present) word.Done 0 (2 ∷ []) called_thrice.sent

abbrev pub answered : Both
answered = with_left (handled called_thrice called_thrice.server answer) answer

abbrev pub done : Both
done = with_client answered 1 (heard_on (answered.clients 1) 5 third_call.called answer)

-- 6. the fate is stored, and the program is told
abbrev pub fate_of_order : Ended
fate_of_order = record { name = record { lane = 5; number = 1; tag = 101 }; fate = fate.Done; result = 2 ∷ []; heard = Some (record { opening = 1; nonce = 10; clock = 3 }); record_number = 2 }

abbrev pub told : Both
told = let w = stored done in record w { told = record { client = 1; ended = fate_of_order } ∷ [] }
