-- The place of a segment that first goes out is that of the leftmost open octet without a first moment; and the tag of each packet that an act or a reply made is its place.
use Rattle.std.proofs.Common.{Bool, ℕ, ◌+◌, ◌-◌, ◌<◌, ◌≤◌, ◌≡◌, List, [], ◌∷◌, ◌++◌, length, map, Option, Some, None, refl, ap, ◌∙◌, subst, arith, length-append, append_assoc}
use Rattle.dt_flow_model.specs.Acting.{after_act, made_by_act}
use Rattle.dt_flow_model.specs.Facts.{AllPast, Chain, CrossingsOf, Facts, SendSide, open_rows, rows_out}
use Rattle.dt_flow_model.specs.Flow.{FlowState, Packet, ack_place, place_of, sender_reading, tag_of}
use Rattle.dt_flow_model.specs.Ledger.{first_unsent, open_row}
use Rattle.dt_flow_model.specs.ReceiveRecord.{ReceiveRecord, Receiver, action_on, after_action, after_data, after_meet, answer_to, answer_to_data, free_of, standing_told}
use Rattle.dt_flow_model.specs.SendActs.{Act, IsDue, act_of, give_up, meet, record_after, release, renew, resend, send}
use Rattle.dt_flow_model.specs.SendRecord.{Segment, SendRecord, crossed_after, held_of, items_in, next_from, next_of}
use Rattle.dt_flow_model.specs.declared.arrivals.Action.{Action}
use Rattle.dt_flow_model.specs.declared.arrivals.Action.TheVariants.{Accept, Close, Drop, Make, Skip, TellExpected, TellNumber}
use Rattle.dt_flow_model.specs.declared.arrivals.Arrived.TheVariants.{Replied}
use Rattle.dt_flow_model.specs.declared.rows.Given.{Given}
use Rattle.dt_flow_model.specs.declared.rows.Taken.{Taken}
use Rattle.dt_items.specs.declared.item.Item.{Item}
use Rattle.dt_flow_model.specs.Numbering.{number_of}
use Rattle.dt_units.specs.Numbers.{number_distance}
use Rattle.dt_units.specs.Limits.{IsWithinLimits}
use Rattle.dt_units.specs.declared.parameters.Params.{Params}
use Rattle.dt_flow_laws.proofs.Modular.{distance_from}
use Rattle.dt_flow_laws.proofs.Ledger.{note_length, not_open, open_here}
use Rattle.dt_flow_laws.proofs.SenderSteps.{taken_length}
use Rattle.dt_flow_model.proofs.Chains.{chain_front, chain_next, chain_rest, items_append, next_append}
use Rattle.dt_flow_model.proofs.Chosen.{act_is_due, cut_whole}

-- the first Open place of the present life without a first moment
past_old : (life : ℕ) (old rows : List Taken) → AllPast life old → first_unsent life (old ++ rows) ≡ length old + first_unsent life rows
past_old life [] rows h = omega arith
past_old life (row ∷ old) rows h = let k = past_old life old rows h.1 in rw (not_open life row h.0) (omega (arith, k))

past_items : (life first : ℕ) (items : List Item) (rows : List Taken) → first_unsent life (map (open_row life (Some first)) items ++ rows) ≡ length items + first_unsent life rows
past_items life first [] rows = omega arith
past_items life first (i ∷ is) rows = let k = past_items life first is rows in rw (open_here life (Some first) i) (omega (arith, k))

past_out : (clock life : ℕ) (gs : List Segment) (rows : List Taken) → first_unsent life (rows_out clock life gs ++ rows) ≡ items_in gs + first_unsent life rows
past_out clock life [] rows = omega arith
past_out clock life (g ∷ gs) rows =
    let k = past_out clock life gs rows in
    let l = past_items life (g.first - clock) g.items (rows_out clock life gs ++ rows) in
    let same : (map (open_row life (Some (g.first - clock))) g.items ++ rows_out clock life gs) ++ rows ≡ map (open_row life (Some (g.first - clock))) g.items ++ (rows_out clock life gs ++ rows) = append_assoc (map (open_row life (Some (g.first - clock))) g.items) (rows_out clock life gs) rows in
    let e : first_unsent life ((map (open_row life (Some (g.first - clock))) g.items ++ rows_out clock life gs) ++ rows) ≡ first_unsent life (map (open_row life (Some (g.first - clock))) g.items ++ (rows_out clock life gs ++ rows)) = ap (first_unsent life) same in
    omega (arith, e, l, k)

first_waiting : (life : ℕ) (items : List Item) → 0 < length items → first_unsent life (map (open_row life None) items) ≡ 0
first_waiting life [] h = absurd (omega arith)
first_waiting life (i ∷ is) h = rw (open_here life None i) refl

pub unsent_is_place : (p : Params) (s : FlowState) (x : SendRecord) → s.sender ≡ Some x → 0 < length x.waiting → Facts p s → first_unsent s.sender_life s.taken ≡ place_of s x (next_of x)
unsent_is_place p s x is some f =
    let fx : SendSide p s.now s.sender_zero s.sender_until s.sender_life s.run s.taken (Some x) = rw is at f.send_side in
    let len = taken_length p s.now s.sender_zero s.sender_until s.sender_life s.run s.taken x fx in
    let a : first_unsent s.sender_life s.taken ≡ first_unsent s.sender_life (fx.old ++ open_rows s.sender_zero s.sender_life (Some x)) = ap (first_unsent s.sender_life) fx.ledger in
    let b = past_old s.sender_life fx.old (open_rows s.sender_zero s.sender_life (Some x)) fx.past in
    let c = past_out s.sender_zero s.sender_life x.outstanding (map (open_row s.sender_life None) x.waiting) in
    let e = first_waiting s.sender_life x.waiting some in
    omega (arith, len, a, b, c, e)

-- THE TAG OF A PACKET THAT AN ACT MADE, known from the flow and the record after the act

tag_resent : (p : Params) (s : FlowState) (x : SendRecord) (before after : List Segment) (g : Segment) (last : ℕ) → x.outstanding ≡ before ++ g ∷ after
    → next_from x.left (before ++ (record g { last = last }) ∷ after) ≡ next_of x
tag_resent p s x before after g last split = rw (next_append x.left before ((record g { last = last }) ∷ after), split, next_append x.left before (g ∷ after)) refl

-- the packet's place is the tag
abbrev TagIs : Params → FlowState → SendRecord → List Packet → Type 0
TagIs p after x [] = Unit {0}
TagIs p after x (q ∷ qs) = (q.place ≡ tag_of p after x q.number) × TagIs p after x qs

tag_by : (p : Params) (s : FlowState) (x x' : SendRecord) (act : Act) → Chain x.left x.outstanding → held_of x ≤ 65536 → IsDue p (sender_reading s) x act → record_after p (sender_reading s) x act ≡ Some x' → TagIs p (after_act p s x act) x' (made_by_act p s x act)
tag_by p s x x' (give_up g rest) chain held due e = tt
tag_by p s x x' release chain held due e = tt
tag_by p s x x' renew chain held due e = tt
tag_by p s x x' meet chain held due e =
    let same : record x { touched = sender_reading s } ≡ x' = cc in
    let before = distance_from p x.left (next_of x) (omega (arith, chain_next x.left x.outstanding chain)) (omega (arith, chain_next x.left x.outstanding chain)) in
    subst (λ k. TagIs p (after_act p s x meet) k (made_by_act p s x meet)) same (omega (arith, before), tt)
tag_by p s x x' (resend before g after) chain held due e =
    let same : record x { touched = sender_reading s; outstanding = before ++ (record g { last = sender_reading s }) ∷ after } ≡ x' = cc in
    let next = tag_resent p s x before after g (sender_reading s) due.0 in
    let all : Chain x.left (before ++ g ∷ after) = rw (due.0) at chain in
    let rest : Chain (next_from x.left before) (g ∷ after) = chain_rest x.left before (g ∷ after) all in
    let count : items_in x.outstanding ≡ items_in before + (length g.items + items_in after) = rw (due.0) (items_append before (g ∷ after)) in
    let at : g.offset ≡ x.left + items_in before = omega (arith, rest.0, chain_next x.left before (chain_front x.left before (g ∷ after) all)) in
    let end = chain_next x.left x.outstanding chain in
    let number = distance_from p g.offset (next_of x) (omega (arith, at, end, count)) (omega (arith, at, end, count)) in
    let there : number_distance (number_of p (next_from x.left (before ++ (record g { last = sender_reading s }) ∷ after))) (number_of p g.offset) ≡ next_of x - g.offset = ap (λ (n : ℕ). number_distance (number_of p n) (number_of p g.offset)) next ∙ number in
    subst (λ k. TagIs p (after_act p s x (resend before g after)) k (made_by_act p s x (resend before g after))) same (omega (arith, there), tt)
tag_by p s x x' (send cut rest) chain held due e =
    let g : Segment = record { offset = next_of x; items = cut; first = sender_reading s; last = sender_reading s } in
    let same : record x { touched = sender_reading s; crossed = crossed_after p (sender_reading s) x; outstanding = x.outstanding ++ g ∷ []; waiting = rest } ≡ x' = cc in
    let next : next_from x.left (x.outstanding ++ g ∷ []) ≡ next_of x + length cut = next_append x.left x.outstanding (g ∷ []) in
    let whole : x.waiting ≡ cut ++ rest = rw (due.0, due.1) (cut_whole p x) in
    let count : length x.waiting ≡ length cut + length rest = ap (λ (is : List Item). length is) whole ∙ length-append cut rest in
    let number = distance_from p (next_of x) (next_of x + length cut) (omega arith) (omega (arith, count)) in
    let there : number_distance (number_of p (next_from x.left (x.outstanding ++ g ∷ []))) (number_of p (next_of x)) ≡ next_of x + length cut - next_of x = ap (λ (n : ℕ). number_distance (number_of p n) (number_of p (next_of x))) next ∙ number in
    subst (λ k. TagIs p (after_act p s x (send cut rest)) k (made_by_act p s x (send cut rest))) same
    (omega (arith, there, count, note_length s.now (place_of s x (next_of x)) (length cut) s.taken), tt)

pub tag_after : (p : Params) (s : FlowState) (x x' : SendRecord) (act : Act) (q : Packet) → IsWithinLimits p → s.sender ≡ Some x → Facts p s → act_of p (sender_reading s) x ≡ Some act → record_after p (sender_reading s) x act ≡ Some x' → made_by_act p s x act ≡ q ∷ [] → q.place ≡ tag_of p (after_act p s x act) x' q.number
tag_after p s x x' act q limits is f chosen e made =
    let fx : SendSide p s.now s.sender_zero s.sender_until s.sender_life s.run s.taken (Some x) = rw is at f.send_side in
    let sx : CrossingsOf p s.sender_zero s.run s.taken s.crossings (Some x) = rw is at f.spacing.sender in
    let h = tag_by p s x x' act fx.record_facts.chain (omega (arith, sx.held, limits.cap)) (act_is_due p (sender_reading s) x act chosen) e in
    let k : TagIs p (after_act p s x act) x' (q ∷ []) = subst (λ qs. TagIs p (after_act p s x act) x' qs) made h in
    k.0

-- THE TAG OF AN ACKNOWLEDGEMENT, known from the receiver after it

replied_place : (p : Params) (now : ℕ) (unread : List Item) (standing : Option ReceiveRecord) (number : ℕ) (items : List Item) (count free n w : ℕ) (action : Action) (given : List Given) (answered : ℕ) → answer_to standing number count free action ≡ Replied n w
    → ack_place (after_action p now unread standing number items action).standing given n answered ≡ ack_place standing given n answered
replied_place p now unread None number items count free n w Drop given answered e = refl
replied_place p now unread None number items count free n w Make given answered e = absurd cc
replied_place p now unread None number items count free n w TellNumber given answered e = refl
replied_place p now unread None number items count free n w TellExpected given answered e = refl
replied_place p now unread None number items count free n w Accept given answered e = absurd cc
replied_place p now unread None number items count free n w Skip given answered e = absurd cc
replied_place p now unread None number items count free n w Close given answered e = refl
replied_place p now unread (Some y) number items count free n w Drop given answered e = refl
replied_place p now unread (Some y) number items count free n w Make given answered e = absurd cc
replied_place p now unread (Some y) number items count free n w TellNumber given answered e = refl
replied_place p now unread (Some y) number items count free n w TellExpected given answered e = refl
replied_place p now unread (Some y) number items count free n w Accept given answered e = absurd cc
replied_place p now unread (Some y) number items count free n w Skip given answered e = absurd cc
replied_place p now unread (Some y) number items count free n w Close given answered e = refl

pub data_tag : (p : Params) (now : ℕ) (r : Receiver) (drf : Bool) (number : ℕ) (items : List Item) (n w : ℕ) (given : List Given) (answered : ℕ) → answer_to_data p r drf number items ≡ Replied n w
    → ack_place (after_data p now r drf number items).standing given n answered ≡ ack_place r.standing given n answered
data_tag p now r drf number items n w given answered e = replied_place p now r.unread r.standing number items (length items) (free_of p r.unread) n w (action_on p r drf number items) given answered e

told_tag : (standing : Option ReceiveRecord) (free n : ℕ) (given : List Given) (answered : ℕ) → ack_place (standing_told standing free) given n answered ≡ ack_place standing given n answered
told_tag None free n given answered = refl
told_tag (Some y) free n given answered = refl

pub meet_tag : (p : Params) (r : Receiver) (n : ℕ) (given : List Given) (answered : ℕ) → ack_place (after_meet p r).standing given n answered ≡ ack_place r.standing given n answered
meet_tag p r n given answered = told_tag r.standing (free_of p r.unread) n given answered
