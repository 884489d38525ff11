-- The octets of one packet as items: where they stand in the unread queue, and where a message ends among them.
use Rattle.std.proofs.Common.{◌≡◌, ℕ, ◌<◌, ◌≤◌, ◌^◌, Bool, true, false, ◌||◌, List, [], ◌∷◌, length, Option, Some, None, refl, sym, ap, arith}
use Rattle.dt_units.specs.declared.parameters.Params.{Params}
use Rattle.dt_units.specs.declared.endpoints.Flow.{Flow}
use Rattle.dt_units.specs.Numbers.{number_after}
use Rattle.dt_items.proofs.Marks.{length-marked}
use Rattle.dt_flow_model.specs.declared.arrivals.Action.{Action}
use Rattle.dt_flow_model.specs.declared.arrivals.Arrived.TheVariants.{Accepted}
use Rattle.dt_flow_model.specs.ReceiveRecord.{ReceiveRecord, Receiver, action_of, action_on, after_action, after_data, answer_to, answer_to_data, due_in, expected_of, free_of, owed_after, record_accepted, told_in}
use Rattle.dt_flow_model.specs.Keeping.{HasTold}
use Rattle.dt_recv.specs.Receivers.{ReceiverValue}
use Rattle.dt_items.specs.declared.item.Item.{Item}
use Rattle.dt_items.specs.Unread.{marked}
use Rattle.dt_flow_model.specs.Ledger.{unread_items}
use Rattle.dt_flow_model.specs.SendRecord.{ends}

pub unread_items-marked : (octets : List ℕ) (begin end run : Bool) → unread_items run (marked octets begin end false) ≡ marked octets begin end run
unread_items-marked [] begin end run = refl
unread_items-marked (x ∷ []) begin end run = refl
unread_items-marked (x ∷ y ∷ rest) begin end run =
    ap (λ (items : List Item). record { octet = x; begin = begin; end = false; run = run } ∷ items) (unread_items-marked (y ∷ rest) false end false)

or_false : (b : Bool) → (b || false) ≡ b
or_false true = refl
or_false false = refl

pub ends-marked : (octets : List ℕ) (begin end : Bool) → 0 < length octets → ends (marked octets begin end false) ≡ end
ends-marked [] begin end some = absurd (omega arith)
ends-marked (x ∷ []) begin end some = or_false end
ends-marked (x ∷ y ∷ rest) begin end some = ends-marked (y ∷ rest) false end (omega arith)

pub number_below : (number count : ℕ) → number_after number count < 2 ^ 32
number_below number count = omega arith

pub told_in-kept : (p : Params) (standing : Option ReceiveRecord) → HasTold p standing → told_in p standing ≤ p.rcap
told_in-kept p None h = omega arith
told_in-kept p (Some y) h = h

-- the record after an acceptance of octets is that of the model, which counts items and looks for an end mark among them
pub accepted_of : (p : Params) (now number : ℕ) (octets : List ℕ) (begin end : Bool) (standing : Option ReceiveRecord) → 0 < length octets
    → (let y : ReceiveRecord = record { expected = number_after number (length octets); touched = now; due = owed_after p now (due_in standing) end; told = told_in p standing } in y) ≡ record_accepted p now number (marked octets begin end false) (due_in standing) (told_in p standing)
accepted_of p now number octets begin end standing some =
    let long = length-marked octets begin end false in
    let last = ends-marked octets begin end some in
    rw (long, last) refl

pub after_same : (p : Params) (f : Flow) {unread unread' : List Item} {y y' : ReceiveRecord} → unread ≡ unread' → y ≡ y'
    → (let r : ReceiverValue = record { rules = p; flow = f; state = record { unread = unread; standing = Some y } } in r) ≡ record { rules = p; flow = f; state = record { unread = unread'; standing = Some y' } }
after_same p f a b = cc

-- the action on a data packet, from what is looked up: its items are as many as its octets
pub action_on_is : (p : Params) (r : Receiver) (drf : Bool) (number : ℕ) (octets : List ℕ) (begin end : Bool) {expected : Option ℕ} {free : ℕ} {a : Action}
    → expected ≡ expected_of r.standing → free ≡ free_of p r.unread → a ≡ action_of expected drf number (length octets) free → a ≡ action_on p r drf number (marked octets begin end false)
action_on_is p r drf number octets begin end e f looked =
    let long = length-marked octets begin end false in
    rw (long, ← e, ← f) looked

-- Where a data packet's action is this one, what is left and answered is what this action leaves and answers.
pub left_by : (v : ReceiverValue) (now : ℕ) (drf : Bool) (number : ℕ) (items : List Item) (a : Action) → action_on v.rules v.state drf number items ≡ a
    → (let r : ReceiverValue = record v { state = after_action v.rules now v.state.unread v.state.standing number items a } in r) ≡ record v { state = after_data v.rules now v.state drf number items }
left_by v now drf number items a is =
    ap (λ (a : Action). let r : ReceiverValue = record v { state = after_action v.rules now v.state.unread v.state.standing number items a } in r) (sym is)

pub answered_by : (v : ReceiverValue) (drf : Bool) (number : ℕ) (items : List Item) (a : Action) → action_on v.rules v.state drf number items ≡ a
    → answer_to v.state.standing number (length items) (free_of v.rules v.state.unread) a ≡ answer_to_data v.rules v.state drf number items
answered_by v drf number items a is =
    ap (λ (a : Action). answer_to v.state.standing number (length items) (free_of v.rules v.state.unread) a) (sym is)

pub accepted-marked : (run : Bool) (octets : List ℕ) (begin end : Bool) → Accepted run (length octets) ≡ Accepted run (length (marked octets begin end false))
accepted-marked run octets begin end = ap (λ (n : ℕ). Accepted run n) (sym (length-marked octets begin end false))
