-- The reports of a flow's small steps pass: the octets that they name are there, by the flow's facts.
use Rattle.std.proofs.Common.{ℕ, suc, ◌≡◌, ◌+◌, ◌-◌, ◌<◌, ◌≤◌, Bool, true, not, List, [], ◌∷◌, ◌++◌, length, map, Option, Some, None, refl, ap, subst, ◌∙◌, inl, inr, arith}
use Rattle.std.proofs.lemmas.Bool.{cases_Bool}
use Rattle.dt_items.specs.declared.item.Item.{Item}
use Rattle.dt_units.specs.declared.parameters.Params.{Params}
use Rattle.dt_flow_model.specs.declared.rows.Taken.{Taken}
use Rattle.dt_flow_model.specs.Facts.{DataFacts, Facts, Fits, IsOlder, IsPresent, KindFacts, rows_out}
use Rattle.dt_flow_model.specs.Flow.{Data, FlowState, Packet, Run}
use Rattle.dt_flow_model.specs.Ledger.{given_rows, is_open_in, is_unsent, open_row, row_at}
use Rattle.dt_flow_model.specs.Safe.{SafeLedger}
use Rattle.dt_flow_model.specs.SendRecord.{Segment, SendRecord, items_in}
use Rattle.dt_flow_model.specs.Steps.{IsAlive}
use Rattle.dt_flow_laws.proofs.Ledger.{open_here}
use Rattle.dt_world_model.specs.Ledgers.{Accepts, ledger_after}
use Rattle.dt_world_laws.specs.Follow.{at_receiver, flow_ledger}
use Rattle.dt_audit.specs.declared.flow_facts.FlowFact.TheVariants as changes
use Rattle.dt_audit.specs.LogRows.{FlowLog, first_place, is_sent, open_places, places_where}
use Rattle.dt_audit_laws.specs.Following.{FollowsFlow, lives_of}
use Rattle.dt_audit_laws.specs.Numbering.{IsNumbered}
use Rattle.dt_audit_laws.specs.Showing.{Passes, shown}
use Rattle.dt_audit_laws.proofs.Following.{accepted}
use Rattle.dt_audit_laws.proofs.Naming.{named}
use Rattle.dt_audit_laws.proofs.Shown.{open_shown}

-- THE PLACE OF A PACKET THAT IS ACCEPTED
sent_by : (rows : List Taken) (place first : ℕ) → (row_at rows place).first ≡ Some first → is_sent rows place ≡ true
sent_by rows place first e = ap (λ (o : Option ℕ). not (is_unsent o)) e

first_of : (first : Option ℕ) → not (is_unsent first) ≡ true → (moment : ℕ) × (first ≡ Some moment)
first_of None h = absurd cc
first_of (Some moment) h = (moment, refl)

-- it is of the present run: an older one would be no longer alive
of_present : (p : Params) (s : FlowState) (q : Packet) (drf : Bool) (items : List Item) (r : Run) → q.kind ≡ Data drf items → s.run ≡ Some r → IsAlive p s q → Facts p s → Fits p s q → IsPresent p r q.birth q.kind
of_present p s q drf items r kind is alive f fits =
    elim (fits.facts.origin r is) [
      | inl present ↦ present
      | inr old ↦
          let older : IsOlder p r q.birth (Data drf items) = subst (IsOlder p r q.birth) kind old in
          let began = f.receive_side.began r is in
          let now : suc r.sent ≤ suc s.now = (rw is at f.receive_side.sent_now) in
          absurd (omega arith)
    ]

pub place_named : (p : Params) (s : FlowState) (q : Packet) (drf : Bool) (items : List Item) (log : FlowLog) → q.kind ≡ Data drf items → IsAlive p s q → Facts p s → Fits p s q → FollowsFlow p s log
    → (0 < length items) × (first_place q.number log ≡ Some q.place) × (is_sent s.taken q.place ≡ true) × (is_sent s.taken (q.place + length items - 1) ≡ true)
place_named p s q drf items log kind alive f fits follows =
    let carried : DataFacts p s.taken items q = subst (KindFacts p s.taken q) kind fits.facts.kind_facts in
    let run = fits.facts.started in
    let of_run = fits.facts.present run.0 run.1 (of_present p s q drf items run.0 kind run.1 alive f fits) in
    let zero_is : q.place + 0 ≡ q.place = omega arith in
    let first : (row_at s.taken q.place).first ≡ Some carried.first = rw zero_is at (carried.firsts 0 carried.some) in
    let last_is : q.place + (length items - 1) ≡ q.place + length items - 1 = omega (arith, carried.some) in
    let last : (row_at s.taken (q.place + length items - 1)).first ≡ Some carried.first = rw last_is at (carried.firsts (length items - 1) (omega (arith, carried.some))) in
    let here = sent_by s.taken q.place carried.first first in
    let below = follows.above q.place here in
    let edge = first_of (row_at s.taken (log.edge - 1)).first (follows.last (omega arith)) in
    let end = f.receive_side.first_end (log.edge - 1) edge.0 edge.1 in
    let now = f.receive_side.sent_now in
    let near = f.spacing.crossings.near q.place (log.edge - 1) carried.first edge.0 (omega arith) first edge.1 (omega (arith, end, now, alive, carried.within)) in
    let numbered : IsNumbered p (Some run.0) log = subst (λ o. IsNumbered p o log) run.1 follows.numbered in
    let named' = named p run.0 of_run.offset log numbered (omega (arith, of_run.place)) (omega (arith, of_run.place, near)) in (
      carried.some,
      ap (λ n. first_place n log) of_run.number ∙ named' ∙ ap (λ n. Some n) of_run.place,
      here,
      sent_by s.taken (q.place + length items - 1) carried.first last,
    )

-- a packet that is accepted
pub packet_passes : (p : Params) (s : FlowState) (q : Packet) (drf run : Bool) (items : List Item) (node : ℕ) (log : FlowLog) → q.kind ≡ Data drf items → IsAlive p s q → Facts p s → Fits p s q → FollowsFlow p s log
    → SafeLedger s.sender_life s.taken (s.given ++ given_rows s.receiver_life s.now run q.place items) s.reads
    → Passes (lives_of s) (changes.Accepted q.number (length items) run) log (ledger_after (at_receiver p s node items q.place) (Accepts run) (flow_ledger s))
packet_passes p s q drf run items node log kind alive f fits follows safe =
    let at = place_named p s q drf items log kind alive f fits follows in
    accepted (at_receiver p s node items q.place) s.sender_life q.number run (flow_ledger s) log follows.shows at.0 at.1 at.2 at.3 safe

-- OCTETS THAT ARE OPEN
pub count_append : (test : Taken → Bool) (at : ℕ) (xs ys : List Taken) → length (places_where test at (xs ++ ys)) ≡ length (places_where test at xs) + length (places_where test (at + length xs) ys)
count_append test at [] ys = let e : at ≡ at + 0 = omega arith in ap (λ k. length (places_where test k ys)) e ∙ omega arith
count_append test at (x ∷ xs) ys =
    let e : suc at + length xs ≡ at + suc (length xs) = omega arith in
    let rest = subst (λ k. length (places_where test (suc at) (xs ++ ys)) ≡ length (places_where test (suc at) xs) + length (places_where test k ys)) e (count_append test (suc at) xs ys) in
    elim (cases_Bool (test x)) [ inl y ↦ rw y (omega (arith, rest)) | inr n ↦ rw n rest ]

row_count : (life at : ℕ) (first : Option ℕ) (items : List Item) → length (places_where (is_open_in life) at (map (open_row life first) items)) ≡ length items
row_count life at first [] = refl
row_count life at first (item ∷ items) = rw (open_here life first item) (ap suc (row_count life (suc at) first items))

pub out_count : (clock life at : ℕ) (gs : List Segment) → length (places_where (is_open_in life) at (rows_out clock life gs)) ≡ items_in gs
out_count clock life at [] = refl
out_count clock life at (g ∷ gs) =
    let here = map (open_row life (Some (g.first - clock))) g.items in
    count_append (is_open_in life) at here (rows_out clock life gs)
    ∙ ap (λ n. n + length (places_where (is_open_in life) (at + length here) (rows_out clock life gs))) (row_count life at (Some (g.first - clock)) g.items)
    ∙ ap (λ n. length g.items + n) (out_count clock life (at + length here) gs)

-- as many octets of the present life are open as the send record has outstanding, at least
pub open_there : (p : Params) (s : FlowState) (x : SendRecord) (log : FlowLog) → s.sender ≡ Some x → Facts p s → FollowsFlow p s log → items_in x.outstanding ≤ length (open_places s.sender_life log)
open_there p s x log is f follows =
    let old = f.send_side.old in
    let out = rows_out s.sender_zero s.sender_life x.outstanding in
    let waiting = map (open_row s.sender_life None) x.waiting in
    let ledger : s.taken ≡ old ++ (out ++ waiting) = rw is at f.send_side.ledger in
    let places : length (open_places s.sender_life log) ≡ length (places_where (is_open_in s.sender_life) 0 (old ++ (out ++ waiting))) =
    ap (λ rows. length (places_where (is_open_in s.sender_life) 0 rows)) (follows.shows.taken ∙ ap (map shown) ledger)
    ∙ ap length (open_shown s.sender_life 0 (old ++ (out ++ waiting))) in
    let a = count_append (is_open_in s.sender_life) 0 old (out ++ waiting) in
    let b = count_append (is_open_in s.sender_life) (0 + length old) out waiting in
    let c = out_count s.sender_zero s.sender_life (0 + length old) x.outstanding in
    omega (arith, places, a, b, c)
