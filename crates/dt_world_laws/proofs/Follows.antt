-- The ledger follows the reports: told of an act, it is the ledger after the act.
use Rattle.std.proofs.Common.{ℕ, zero, suc, ◌<◌, ◌≤◌, ◌≡◌, List, [], ◌∷◌, ◌++◌, length, Option, Some, refl, ap, ◌∙◌, arith}
use Rattle.dt_flow_model.specs.Ledger.{first_unsent, note_first}
use Rattle.dt_items.specs.declared.item.Item.{Item}
use Rattle.dt_units.specs.declared.parameters.Params.{Params}
use Rattle.dt_units.specs.declared.endpoints.Flow.{Flow}
use Rattle.dt_flow_model.specs.Acting.{after_act}
use Rattle.dt_flow_model.specs.Facts.{Facts, Chain, SendSide}
use Rattle.dt_flow_model.specs.Flow.{Crossing, FlowState, Run, crossings_told, place_of, run_after, run_goes_on, run_told, sender_reading}
use Rattle.dt_flow_model.specs.SendActs.{Act, IsDue, act_of, give_up, release, renew, resend, send, meet, record_after, told_of}
use Rattle.dt_flow_model.specs.SendRecord.{Segment, SendRecord, end_of, next_from, next_of}
use Rattle.dt_flow_model.proofs.Chosen.{act_is_due}
use Rattle.dt_flow_laws.proofs.Told.{told_again, told_crossings, told_place, told_run}
use Rattle.dt_world_laws.proofs.Books.{Book, Cause, book_after}
use Rattle.dt_world_model.specs.Host.{told_send}

-- the ledger in a flow's state, and the state with another one
abbrev pub book_in : FlowState → Book
book_in s = record { taken = s.taken; given = s.given; reads = s.reads; run = s.run; crossings = s.crossings }

abbrev pub with_book : FlowState → Book → FlowState
with_book s b = record s { taken = b.taken; given = b.given; reads = b.reads; run = b.run; crossings = b.crossings }

abbrev pub sender_moves : FlowState → Option SendRecord → Book → FlowState
sender_moves s x b = record s { sender = x; taken = b.taken; given = b.given; reads = b.reads; run = b.run; crossings = b.crossings }

pub moved_next : (left : ℕ) (gs : List Segment) → Chain left gs → left ≤ next_from left gs
moved_next left [] h = omega arith
moved_next left (g ∷ gs) h = let k = moved_next (end_of g) gs h.2 in omega (arith, h.0, h.1)

some_out : (left : ℕ) (before after : List Segment) (g : Segment) → Chain left (before ++ g ∷ after) → left < next_from left (before ++ g ∷ after)
some_out left [] after g h = let k = moved_next (end_of g) after h.2 in omega (arith, h.0, h.1)
some_out left (b ∷ before) after g h = let k = some_out (end_of b) before after g h.2 in omega (arith, h.0, h.1)

module _ (p : Params) (s : FlowState) (x : SendRecord) (is : s.sender ≡ Some x) (f : Facts p s) where
  side : SendSide p s.now s.sender_zero s.sender_until s.sender_life s.run s.taken (Some x)
  side = rw is at f.send_side

  follows_goes_on : 0 < next_of x → run_goes_on s.now s.run ≡ run_after s.run (place_of s x 0) s.now (next_of x)
  follows_goes_on h = told_again p s x is f h

  sent_told : (cut rest : List Item) → act_of p (sender_reading s) x ≡ Some (send cut rest)
      → record s {
        sender = record_after p (sender_reading s) x (send cut rest);
        taken = note_first s.now (first_unsent s.sender_life s.taken) (length cut) s.taken;
        run = run_told p (first_unsent s.sender_life s.taken) s.now s.run;
        crossings = crossings_told p (first_unsent s.sender_life s.taken) s.now s.run s.crossings;
      }
      ≡ after_act p s x (send cut rest)
  sent_told cut rest chosen =
      ap (λ (k : ℕ). let t : FlowState = record s { sender = record_after p (sender_reading s) x (send cut rest); taken = note_first s.now k (length cut) s.taken; run = run_told p (first_unsent s.sender_life s.taken) s.now s.run; crossings = crossings_told p (first_unsent s.sender_life s.taken) s.now s.run s.crossings } in t) (told_place p s x is f cut rest chosen)
      ∙ ap (λ (r : Option Run). let t : FlowState = record s { sender = record_after p (sender_reading s) x (send cut rest); taken = note_first s.now (place_of s x (next_of x)) (length cut) s.taken; run = r; crossings = crossings_told p (first_unsent s.sender_life s.taken) s.now s.run s.crossings } in t) (told_run p s x is f cut rest chosen)
      ∙ ap (λ (cs : List Crossing). let t : FlowState = record s { sender = record_after p (sender_reading s) x (send cut rest); taken = note_first s.now (place_of s x (next_of x)) (length cut) s.taken; run = run_after s.run (place_of s x 0) s.now (next_of x); crossings = cs } in t) (told_crossings p s x is f cut rest chosen)

  pub follows_due : (f : Flow) (cause : Cause) (act : Act) → act_of p (sender_reading s) x ≡ Some act → IsDue p (sender_reading s) x act → sender_moves s (record_after p (sender_reading s) x act) (book_after p s.now s.sender_life cause (told_send f (told_of p x act)) (book_in s)) ≡ after_act p s x act
  follows_due f cause (give_up g rest) chosen due = refl
  follows_due f cause release chosen due = refl
  follows_due f cause renew chosen due = refl
  follows_due f cause (resend before g after) chosen due =
      let chain : Chain x.left (before ++ g ∷ after) = rw (due.0) at side.record_facts.chain in
      let out : x.left < next_of x = rw (due.0) (some_out x.left before after g chain) in
      ap (λ (r : Option Run). let t : FlowState = record s { sender = record_after p (sender_reading s) x (resend before g after); run = r } in t) (follows_goes_on (omega arith))
  follows_due f cause (send cut rest) chosen due =
      sent_told cut rest chosen
  follows_due f cause meet chosen due =
      let edge = side.record_facts.edge in
      let some : 0 < next_of x = pos (next_of x) x.edge due.2 edge in
      ap (λ (r : Option Run). let t : FlowState = record s { sender = record_after p (sender_reading s) x meet; run = r } in t) (follows_goes_on some)
    where
      pos : (n edge : ℕ) → edge ≤ n → (n ≡ 0 → 0 < edge) → 0 < n
      pos zero edge le h = absurd (omega (arith, h refl))
      pos (suc n) edge le h = omega arith

  -- WHAT IS TOLD OF AN ACT OF A SEND RECORD MAKES THE LEDGER WHAT IT IS AFTER THE ACT.
  pub follows_act : (f : Flow) (cause : Cause) (act : Act) → act_of p (sender_reading s) x ≡ Some act → sender_moves s (record_after p (sender_reading s) x act) (book_after p s.now s.sender_life cause (told_send f (told_of p x act)) (book_in s)) ≡ after_act p s x act
  follows_act f cause act chosen = follows_due f cause act chosen (act_is_due p (sender_reading s) x act chosen)
