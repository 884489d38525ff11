-- What is reported of a first transmission from the ledger, the run and the crossings alone is what the send record says: its place, the run after it, and the crossings.
use Rattle.dt_flow_laws.proofs.Transmissions.{segment_row}
use Rattle.std.proofs.Common.{ℕ, zero, suc, ◌+◌, ◌-◌, ◌<◌, ◌≤◌, ◌≡◌, true, false, List, [], ◌∷◌, ◌++◌, length, map, Option, Some, None, refl, sym, ap, ◌∙◌, arith, append_assoc, length-append, inl, inr}
use Rattle.std.specs.Prelude.{nat_le}
use Rattle.dt_items.specs.declared.item.Item.{Item}
use Rattle.dt_units.specs.declared.parameters.Params.{Params}
use Rattle.dt_units.specs.Times.{send_time}
use Rattle.dt_flow_model.specs.declared.rows.Taken.{Taken}
use Rattle.dt_flow_model.specs.Ledger.{first_unsent, open_row, row_at, HasFirst}
use Rattle.dt_flow_model.specs.Flow.{FlowState, Run, base_in, begins_run, crossings_after, crossings_told, place_of, run_after, run_goes_on, run_told, sender_reading}
use Rattle.dt_flow_model.specs.Facts.{Chain, Facts, SendSide, firsts_end, free_from, rows_out, FirstsFrom}
use Rattle.dt_flow_model.specs.SendRecord.{Segment, SendRecord, next_of, items_in, next_from}
use Rattle.dt_flow_model.specs.SendActs.{Act, IsDue, act_of, give_up, kind_of, rank_of, renew, send}
use Rattle.dt_flow_laws.proofs.Waking.{due_is_chosen}
use Rattle.std.proofs.lemmas.Bool.{cases_Bool}
use Rattle.std.proofs.lemmas.Bool.Decides.{nat_tests}
use Rattle.dt_flow_laws.proofs.Ledger.{row_right, firsts_rest}
use Rattle.dt_flow_laws.proofs.Places.{unsent_is_place}
use Rattle.dt_flow_laws.proofs.SenderSteps.{next_is, taken_length}
use Rattle.dt_flow_model.proofs.Chains.{chain_front, chain_next, chain_rest, items_append}
use Rattle.dt_flow_model.proofs.Chosen.{act_is_due, cut_whole, le_true, true_le}

-- A FIRST TRANSMISSION BEGINS A RUN exactly where `send` has passed since the last one

first_item : (life first : ℕ) (items : List Item) (rows : List Taken) → 0 < length items → (row_at (map (open_row life (Some first)) items ++ rows) 0).first ≡ Some first
first_item life first [] rows h = absurd (omega arith)
first_item life first (i ∷ is) rows h = refl

abbrev rank_in : Option Act → ℕ
rank_in None = 0
rank_in (Some a) = rank_of (kind_of a)

not_le : (m n : ℕ) → nat_le m n ≡ false → n < m
not_le m n h = grind (arith, nat_tests)

module _ (p : Params) (s : FlowState) (x : SendRecord) (is : s.sender ≡ Some x) (f : Facts p s) (cut rest : List Item) (chosen : act_of p (sender_reading s) x ≡ Some (send cut rest)) (r : Run) (run : s.run ≡ Some r) where
  side : SendSide p s.now s.sender_zero s.sender_until s.sender_life s.run s.taken (Some x)
  side = rw is at f.send_side

  pub begins_late : next_of x ≡ 0 → r.sent + send_time p ≤ s.now
  begins_late e =
      let fresh = side.record_facts.fresh e in
      let free : free_from p s.run ≡ r.sent + send_time p = ap (free_from p) run in
      omega (arith, fresh, free, side.record_facts.touched)

  not_before : (act : Act) → IsDue p (sender_reading s) x act → rank_of (kind_of act) < 3 → ⊥
  not_before act due less =
      let h = due_is_chosen p (sender_reading s) x act due in
      let k : rank_in (Some h.0) ≡ 3 = ap rank_in (sym h.1 ∙ chosen) in
      omega (arith, k, less, h.2)

  in_time : (out : List Segment) → x.outstanding ≡ out → 0 < next_of x → r.sent + send_time p ≤ s.now → ⊥
  in_time [] e some late =
      let q = side.record_facts.sending some in
      let same : q.0 ≡ r = cc in
      let sent : q.0.sent ≡ r.sent = ap (λ (k : Run). k.sent) same in
      let due = act_is_due p (sender_reading s) x (send cut rest) chosen in
      let whole : x.waiting ≡ cut ++ rest = rw (due.0, due.1) (cut_whole p x) in
      let waits : 0 < length x.waiting = rw whole (rw (length-append cut rest) (omega (arith, due.2))) in
      not_before renew (e, waits, omega (arith, q.2.sent, sent)) (omega arith)
  in_time (g ∷ gs) e some late =
      let q = side.record_facts.sending some in
      let same : q.0 ≡ r = cc in
      let sent : q.0.sent ≡ r.sent = ap (λ (k : Run). k.sent) same in
      let chain : Chain x.left (g ∷ gs) = rw e at side.record_facts.chain in
      let rows : s.taken ≡ side.old ++ (rows_out s.sender_zero s.sender_life (g ∷ gs) ++ map (open_row s.sender_life None) x.waiting) = side.ledger ∙ ap (λ (k : List Segment). side.old ++ (rows_out s.sender_zero s.sender_life k ++ map (open_row s.sender_life None) x.waiting)) e in
      let assoc = append_assoc (map (open_row s.sender_life (Some (g.first - s.sender_zero))) g.items) (rows_out s.sender_zero s.sender_life gs) (map (open_row s.sender_life None) x.waiting) in
      let here : row_at s.taken (length side.old) ≡ row_at (map (open_row s.sender_life (Some (g.first - s.sender_zero))) g.items ++ (rows_out s.sender_zero s.sender_life gs ++ map (open_row s.sender_life None) x.waiting)) 0 =
      ap (λ (k : List Taken). row_at k (length side.old)) rows ∙ row_right side.old (rows_out s.sender_zero s.sender_life (g ∷ gs) ++ map (open_row s.sender_life None) x.waiting) (length side.old) 0 (omega arith) ∙ ap (λ (k : List Taken). row_at k 0) assoc in
      let first : (row_at s.taken (length side.old)).first ≡ Some (g.first - s.sender_zero) = ap (λ (k : Taken). k.first) here ∙ first_item s.sender_life (g.first - s.sender_zero) g.items (rows_out s.sender_zero s.sender_life gs ++ map (open_row s.sender_life None) x.waiting) chain.1 in
      let bound = f.receive_side.first_end (length side.old) (g.first - s.sender_zero) first in
      let end : firsts_end s.run ≡ suc r.sent = ap firsts_end run in
      not_before (give_up g gs) (e, omega (arith, bound, end, late)) (omega arith)

  pub goes_on_in_time : 0 < next_of x → s.now < r.sent + send_time p
  goes_on_in_time some =
      elim (cases_Bool (nat_le (r.sent + send_time p) s.now)) [
        | inl y ↦ absurd (in_time x.outstanding refl some (le_true _ _ y))
        | inr o ↦ not_le _ _ o
      ]

abbrev new_run : ℕ → ℕ → Run
new_run base now = record { base = base; began = now; sent = now }

not_yet : (m n : ℕ) → n < m → nat_le m n ≡ false
not_yet m n h = grind (arith, nat_tests)

-- the run goes on where the record has transmitted
pub goes_on : (run : Option Run) (r : Run) (base now n : ℕ) → run ≡ Some r → 0 < n → run_goes_on now run ≡ run_after run base now n
goes_on run r base now zero is some = absurd (omega arith)
goes_on run r base now (suc n) is some = rw is refl

module _ (p : Params) (s : FlowState) (x : SendRecord) (is : s.sender ≡ Some x) (f : Facts p s) (cut rest : List Item) (chosen : act_of p (sender_reading s) x ≡ Some (send cut rest)) where
  sx : SendSide p s.now s.sender_zero s.sender_until s.sender_life s.run s.taken (Some x)
  sx = rw is at f.send_side

  waits : 0 < length x.waiting
  waits =
      let due = act_is_due p (sender_reading s) x (send cut rest) chosen in
      let whole : x.waiting ≡ cut ++ rest = rw (due.0, due.1) (cut_whole p x) in
      rw whole (rw (length-append cut rest) (omega (arith, due.2)))

  pub told_place : first_unsent s.sender_life s.taken ≡ place_of s x (next_of x)
  told_place = unsent_is_place p s x is waits f

  begins_now : (run : Option Run) → s.run ≡ run → next_of x ≡ 0 → begins_run p s.now run ≡ true
  begins_now None e none = refl
  begins_now (Some r) e none = true_le (r.sent + send_time p) s.now (begins_late p s x is f cut rest chosen r e none)

  goes_on_now : (r : Run) → s.run ≡ Some r → 0 < next_of x → begins_run p s.now (Some r) ≡ false
  goes_on_now r e some = not_yet (r.sent + send_time p) s.now (goes_on_in_time p s x is f cut rest chosen r e some)

  run_of : (n : ℕ) → next_of x ≡ n → run_told p (place_of s x (next_of x)) s.now s.run ≡ run_after s.run (place_of s x 0) s.now n
  run_of zero e =
      let base : place_of s x (next_of x) ≡ place_of s x 0 = ap (place_of s x) e in
      rw (begins_now s.run refl e) (ap (λ (b : ℕ). Some (new_run b s.now)) base)
  run_of (suc n) e =
      let q = sx.record_facts.sending (omega arith) in
      let off : begins_run p s.now s.run ≡ false = ap (begins_run p s.now) q.1 ∙ goes_on_now q.0 q.1 (omega arith) in
      rw off (goes_on s.run q.0 (place_of s x 0) s.now (suc n) q.1 (omega arith))

  -- the offset that the place stands for
  offset_of : (n : ℕ) → next_of x ≡ n → place_of s x (next_of x) - base_in (run_after s.run (place_of s x 0) s.now n) ≡ n
  offset_of zero e = let base : place_of s x (next_of x) ≡ place_of s x 0 = ap (place_of s x) e in omega (arith, base)
  offset_of (suc n) e =
      let q = sx.record_facts.sending (omega arith) in
      let base : base_in (run_after s.run (place_of s x 0) s.now (suc n)) ≡ q.0.base = ap (λ (r : Option Run). base_in (run_after r (place_of s x 0) s.now (suc n))) q.1 in
      let len = taken_length p s.now s.sender_zero s.sender_until s.sender_life s.run s.taken x sx in
      let next = next_is p s.now s.sender_zero s.sender_until s.sender_life s.run s.taken x sx in
      omega (arith, base, len, next, q.2.base)

  pub told_run : run_told p (first_unsent s.sender_life s.taken) s.now s.run ≡ run_after s.run (place_of s x 0) s.now (next_of x)
  told_run = ap (λ (k : ℕ). run_told p k s.now s.run) told_place ∙ run_of (next_of x) refl

  pub told_crossings : crossings_told p (first_unsent s.sender_life s.taken) s.now s.run s.crossings ≡ crossings_after p (next_of x) (place_of s x (next_of x)) s.now s.crossings
  told_crossings =
      ap (λ (k : ℕ). crossings_told p k s.now s.run s.crossings) told_place
      ∙ ap (λ (r : Option Run). crossings_after p (place_of s x (next_of x) - base_in r) (place_of s x (next_of x)) s.now s.crossings) (run_of (next_of x) refl)
      ∙ ap (λ (n : ℕ). crossings_after p n (place_of s x (next_of x)) s.now s.crossings) (offset_of (next_of x) refl)

-- any other transmission goes on with the run
pub told_again : (p : Params) (s : FlowState) (x : SendRecord) → s.sender ≡ Some x → Facts p s → 0 < next_of x → run_goes_on s.now s.run ≡ run_after s.run (place_of s x 0) s.now (next_of x)
told_again p s x is f some =
    let fx : SendSide p s.now s.sender_zero s.sender_until s.sender_life s.run s.taken (Some x) = rw is at f.send_side in
    let q = fx.record_facts.sending some in
    goes_on s.run q.0 (place_of s x 0) s.now (next_of x) q.1 some

-- THE FIRST MOMENTS IN THE RECORD are the ledger's

-- a segment's readings are at the zero of the clock or later
first_from : (z : ℕ) (before : List Segment) (g : Segment) (after : List Segment) → FirstsFrom z (before ++ g ∷ after) → z ≤ g.first
first_from z before g after h = (firsts_rest z before (g ∷ after) h).0

pub first_moment_is : (p : Params) (s : FlowState) (x : SendRecord) (before after : List Segment) (g : Segment) (k : ℕ) → s.sender ≡ Some x → Facts p s → x.outstanding ≡ before ++ g ∷ after → k < length g.items → HasFirst s.sender_zero g.first (row_at s.taken (place_of s x g.offset + k))
first_moment_is p s x before after g k is f split lt =
    let fx : SendSide p s.now s.sender_zero s.sender_until s.sender_life s.run s.taken (Some x) = rw is at f.send_side in
    let len = taken_length p s.now s.sender_zero s.sender_until s.sender_life s.run s.taken x fx in
    let next = next_is p s.now s.sender_zero s.sender_until s.sender_life s.run s.taken x fx in
    let chain : Chain x.left (before ++ g ∷ after) = rw split at fx.record_facts.chain in
    let rest : Chain (next_from x.left before) (g ∷ after) = chain_rest x.left before (g ∷ after) chain in
    let count : items_in x.outstanding ≡ items_in before + (length g.items + items_in after) = rw split (items_append before (g ∷ after)) in
    let number : g.offset ≡ x.left + items_in before = omega (arith, rest.0, chain_next x.left before (chain_front x.left before (g ∷ after) chain)) in
    let place : place_of s x g.offset ≡ length fx.old + items_in before = omega (arith, len, next) in
    let row = segment_row p s.now s.sender_zero s.sender_until s.sender_life s.run s.taken x before after g split fx (place_of s x g.offset + k) k (omega (arith, place)) lt in
    let from = first_from s.sender_zero before g after (rw split at fx.record_facts.firsts) in
    (g.first - s.sender_zero, ap (λ (t : Taken). t.first) row, omega (arith, from))
