-- The order of numbers is the order of places, and an acknowledgement's number is that of its own place.
use Rattle.std.proofs.Common.{ℕ, suc, ◌+◌, ◌-◌, ◌<◌, ◌≤◌, ◌≡◌, ◌==◌, Bool, false, List, [], ◌∷◌, ◌++◌, length, map, Some, None, refl, ap, sym, ◌∙◌, subst, inl, inr, arith, append_assoc}
use Rattle.std.proofs.lemmas.Bool.{cases_lt, cases_Bool}
use Rattle.std.proofs.lemmas.Bool.Decides.{nat_tests}
use Rattle.std.proofs.lemmas.List.{length-map}
use Rattle.std.proofs.Math.Nat.{add-zero}
use Rattle.dt_flow_model.specs.Facts.{Chain, CrossingsOf, DataFacts, Facts, Fits, IsPresent, KindFacts, NearKind, OfRun, ReceiveSide, SendSide, SenderCrossings, firsts_end, open_rows, rows_out}
use Rattle.dt_flow_model.specs.Flow.{Ack, Data, FlowState, Packet, Run, place_of, receiver_reading, sender_reading}
use Rattle.dt_flow_model.specs.Ledger.{open_row, row_at, top}
use Rattle.dt_flow_model.specs.Numbering.{number_of, order_of}
use Rattle.dt_units.specs.Numbers.{relation_of}
use Rattle.dt_flow_model.specs.ReceiveRecord.{IsLive, ReceiveRecord}
use Rattle.dt_flow_model.specs.SendActs.{IsIdle, act_of, give_up}
use Rattle.dt_flow_model.specs.SendRecord.{Segment, SendRecord, items_in, next_from, next_of}
use Rattle.dt_flow_model.specs.Steps.{IsAlive, IsTheirEnd}
use Rattle.dt_flow_model.specs.declared.rows.Fate.TheVariants.{Open}
use Rattle.dt_flow_model.specs.declared.rows.Taken.{Taken}
use Rattle.dt_items.specs.declared.item.Item.{Item}
use Rattle.dt_units.specs.Limits.{IsWithinLimits}
use Rattle.dt_units.specs.Times.{give_time, spacing_time}
use Rattle.dt_units.specs.declared.parameters.Params.{Params}
use Rattle.dt_flow_laws.proofs.Ledger.{out_open, row_left, row_mapped, row_right}
use Rattle.dt_flow_laws.proofs.Frame.{alive_present}
use Rattle.dt_flow_laws.proofs.Modular.{order_places, relation_is, same_offset}
use Rattle.dt_flow_laws.proofs.Nearness.{last_in_time}
use Rattle.dt_flow_laws.proofs.SenderSteps.{next_is, taken_length}
use Rattle.dt_flow_laws.proofs.Waking.{due_is_chosen}
use Rattle.dt_flow_model.proofs.Chains.{chain_front, chain_next, items_append}

-- two places with first moments, of which each may be the later one: neither is more than `spacing` before now
near_both : (p : Params) (s : FlowState) → Facts p s → (a b first next : ℕ) → (row_at s.taken a).first ≡ Some first → (row_at s.taken b).first ≡ Some next → s.now ≤ first + spacing_time p → s.now ≤ next + spacing_time p → (a < b + 2147483648) × (b < a + 2147483648)
near_both p s f a b first next e e' h k =
    let by : first ≤ s.now = omega (arith, f.receive_side.first_end a first e, f.receive_side.sent_now) in
    let by' : next ≤ s.now = omega (arith, f.receive_side.first_end b next e', f.receive_side.sent_now) in
    elim (cases_lt a b) [
      | inl lt ↦ let n : b < a + 2147483648 = f.spacing.crossings.near a b first next (omega arith) e e' (omega arith) in (omega arith, n)
      | inr ge ↦ let n : a < b + 2147483648 = f.spacing.crossings.near b a next first ge e' e (omega arith) in (n, omega arith)
    ]

-- A DATA PACKET

module _ (p : Params) (s : FlowState) (q : Packet) (drf : Bool) (items : List Item) (y : ReceiveRecord) (kind : q.kind ≡ Data drf items) (alive : IsAlive p s q) (f : Facts p s) (h : Fits p s q) (is : s.receiver ≡ Some y) (live : IsLive p (receiver_reading s) y) where
  side : ReceiveSide p s.now s.receiver_zero s.receiver_until s.sender_life s.run s.taken s.given (Some y)
  side = rw is at f.receive_side

  of_run : (r : Run) × (s.run ≡ Some r) × OfRun p s.taken s.given q r
  of_run = alive_present p s.now s.receiver_zero s.receiver_until s.sender_life s.run s.taken s.given s.receiver q f.receive_side h.facts alive

  -- its place and the last given one are near
  near_top : (q.place + 1 < top s.given + 2147483648) × (top s.given < q.place + 1 + 2147483648)
  near_top =
      let d : DataFacts p s.taken items q = subst (λ k. KindFacts p s.taken q k) kind h.facts.kind_facts in
      let here : (row_at s.taken q.place).first ≡ Some d.first = rw (add-zero q.place) at (d.firsts 0 d.some) in
      let some : 0 < top s.given = side.record_facts.accepted in
      let last = last_in_time p s.taken s.given f.receive_side.given_facts f.spacing.given_in_time (top s.given - 1) (omega (arith, some)) in
      let n = near_both p s f q.place (top s.given - 1) d.first last.0 here last.1 (omega (arith, d.within)) (omega (arith, last.2, side.record_facts.touched)) in
      (omega (arith, n.0, some), omega (arith, n.1))

  -- The relation on numbers is the order of places.
  pub data_order : relation_of q.number y.expected ≡ order_of q.place (top s.given)
  data_order =
      let v = side.record_facts.receiving live in
      let w = of_run in
      let base : v.0.base ≡ w.0.base = let same : v.0 ≡ w.0 = cc (v.1, w.1) in ap (λ (r : Run). r.base) same in
      let n = near_top in
      let related = relation_is p w.2.offset v.2.offset (omega (arith, n.0, w.2.place, v.2.place, base)) (omega (arith, n.1, w.2.place, v.2.place, base)) in
      let named : relation_of q.number y.expected ≡ relation_of (number_of p w.2.offset) (number_of p v.2.offset) = ap (λ (a : ℕ). relation_of a y.expected) w.2.number ∙ ap (λ (b : ℕ). relation_of (number_of p w.2.offset) b) v.2.number in
      named ∙ related ∙ order_places w.0.base w.2.offset v.2.offset q.place (top s.given) w.2.place (omega (arith, v.2.place, base))

  -- a number above the expected one is another
  pub above_differs : top s.given < q.place → (q.number == y.expected) ≡ false
  above_differs above =
      let v = side.record_facts.receiving live in
      let w = of_run in
      let base : v.0.base ≡ w.0.base = let same : v.0 ≡ w.0 = cc (v.1, w.1) in ap (λ (r : Run). r.base) same in
      let n = near_top in
      elim (cases_Bool (q.number == y.expected)) [
        | inr other ↦ other
        | inl same ↦
            let e : q.number ≡ y.expected = grind (arith, nat_tests) in
            let o : w.2.offset ≡ v.2.offset = same_offset p w.2.offset v.2.offset (sym w.2.number ∙ e ∙ v.2.number) (omega (arith, n.0, w.2.place, v.2.place, base)) (omega (arith, n.1, w.2.place, v.2.place, base)) in
            absurd (omega (arith, o, w.2.place, v.2.place, base))
      ]

-- AN ACKNOWLEDGEMENT

-- an idle record has nothing to give up
first_lives : (p : Params) (now : ℕ) (x : SendRecord) (g : Segment) (gs : List Segment) → x.outstanding ≡ g ∷ gs → act_of p now x ≡ None → now < g.first + give_time p
first_lives p now x g gs is idle =
    elim (cases_lt now (g.first + give_time p)) [
      | inl lt ↦ lt
      | inr ge ↦ let c = due_is_chosen p now x (give_up g gs) (is, ge) in absurd (let e : None ≡ Some c.0 = sym idle ∙ c.1 in cc)
    ]

-- the row of the first octet that is outstanding
first_out : (z life : ℕ) (g : Segment) (gs : List Segment) (more : List Taken) → 0 < length g.items → (row_at (rows_out z life (g ∷ gs) ++ more) 0).first ≡ Some (g.first - z)
first_out z life g gs more some =
    let a = append_assoc (map (open_row life (Some (g.first - z))) g.items) (rows_out z life gs) more in
    let l = row_left (map (open_row life (Some (g.first - z))) g.items) (rows_out z life gs ++ more) 0 (omega (arith, some, length-map g.items (open_row life (Some (g.first - z))))) in
    let m = row_mapped (open_row life (Some (g.first - z))) g.items 0 some in
    ap (λ (rows : List Taken). (row_at rows 0).first) a ∙ ap (λ (r : Taken). r.first) (l ∙ m)

module _ (p : Params) (limits : IsWithinLimits p) (s : FlowState) (x : SendRecord) (q : Packet) (window : ℕ) (g : Segment) (gone rest : List Segment) (is : s.sender ≡ Some x) (idle : act_of p (sender_reading s) x ≡ None) (kind : q.kind ≡ Ack window) (alive : IsAlive p s q) (f : Facts p s) (h : Fits p s q) (split : x.outstanding ≡ (g ∷ gone) ++ rest) (number : q.number ≡ number_of p (next_from x.left (g ∷ gone))) where
  sends : SendSide p s.now s.sender_zero s.sender_until s.sender_life s.run s.taken (Some x)
  sends = rw is at f.send_side

  own : SenderCrossings p s.sender_zero s.run s.taken s.crossings x
  own = let k : CrossingsOf p s.sender_zero s.run s.taken s.crossings (Some x) = rw is at f.spacing.sender in k

  len : length s.taken ≡ length sends.old + items_in x.outstanding + length x.waiting
  len = taken_length p s.now s.sender_zero s.sender_until s.sender_life s.run s.taken x sends

  next : next_of x ≡ x.left + items_in x.outstanding
  next = next_is p s.now s.sender_zero s.sender_until s.sender_life s.run s.taken x sends

  chain : Chain x.left (g ∷ gone)
  chain = chain_front x.left (g ∷ gone) rest (rw split at sends.record_facts.chain)

  count : items_in x.outstanding ≡ items_in (g ∷ gone) + items_in rest
  count = rw split (items_append (g ∷ gone) rest)

  abbrev end : ℕ
  end = next_from x.left (g ∷ gone)

  end_is : end ≡ x.left + items_in (g ∷ gone)
  end_is = chain_next x.left (g ∷ gone) chain

  some : 0 < length g.items
  some = chain.1

  present : (r : Run) × (s.run ≡ Some r) × OfRun p s.taken s.given q r
  present = alive_present p s.now s.receiver_zero s.receiver_until s.sender_life s.run s.taken s.given s.receiver q f.receive_side h.facts alive

  more : 0 < next_of x
  more = omega (arith, next, count, some)

  -- the run of the record and of the packet
  base : present.0.base + x.left ≡ length sends.old
  base =
      let r = sends.record_facts.sending more in
      let same : r.0.base ≡ present.0.base = let e : r.0 ≡ present.0 = cc (r.1, present.1) in ap (λ (z : Run). z.base) e in
      omega (arith, r.2.base, same)

  -- each place of the run below `next` has a first moment
  went : (place : ℕ) → present.0.base ≤ place → place < present.0.base + next_of x → (first : ℕ) × ((row_at s.taken place).first ≡ Some first)
  went place from to = own.sent more present.0 present.1 place from to

  -- the place of left, which is Open, and first went out less than `give` ago
  abbrev low : ℕ
  low = length sends.old

  rows_at_low : (k : ℕ) → row_at s.taken (low + k) ≡ row_at (rows_out s.sender_zero s.sender_life x.outstanding ++ map (open_row s.sender_life None) x.waiting) k
  rows_at_low k = ap (λ (rows : List Taken). row_at rows (low + k)) sends.ledger ∙ row_right sends.old (open_rows s.sender_zero s.sender_life (Some x)) (low + k) k refl

  low_is_open : (row_at s.taken low).fate ≡ Open
  low_is_open =
      let e = rows_at_low 0 in
      let o = out_open s.sender_zero s.sender_life x.outstanding (map (open_row s.sender_life None) x.waiting) 0 (omega (arith, count, some)) in
      let here : row_at s.taken low ≡ row_at (rows_out s.sender_zero s.sender_life x.outstanding ++ map (open_row s.sender_life None) x.waiting) 0 = ap (row_at s.taken) (sym (add-zero low)) ∙ e in
      ap (λ (r : Taken). r.fate) here ∙ o

  low_first : (row_at s.taken low).first ≡ Some (g.first - s.sender_zero)
  low_first =
      let e = rows_at_low 0 in
      let o : (row_at (rows_out s.sender_zero s.sender_life (g ∷ (gone ++ rest)) ++ map (open_row s.sender_life None) x.waiting) 0).first ≡ Some (g.first - s.sender_zero) = first_out s.sender_zero s.sender_life g (gone ++ rest) (map (open_row s.sender_life None) x.waiting) some in
      let o' : (row_at (rows_out s.sender_zero s.sender_life x.outstanding ++ map (open_row s.sender_life None) x.waiting) 0).first ≡ Some (g.first - s.sender_zero) = rw split o in
      let here : row_at s.taken low ≡ row_at (rows_out s.sender_zero s.sender_life x.outstanding ++ map (open_row s.sender_life None) x.waiting) 0 = ap (row_at s.taken) (sym (add-zero low)) ∙ e in
      ap (λ (r : Taken). r.first) here ∙ o'

  lives : s.now < g.first - s.sender_zero + give_time p
  lives = omega (arith, first_lives p (sender_reading s) x g (gone ++ rest) split idle)

  -- the last octet of the segments that the number would acknowledge
  abbrev last : ℕ
  last = low + items_in (g ∷ gone) - 1

  last_went : (first : ℕ) × ((row_at s.taken last).first ≡ Some first)
  last_went = went last (omega (arith, base, some)) (omega (arith, base, next, count, some))

  last_young : s.now < last_went.0 + spacing_time p
  last_young = omega (arith, lives, f.receive_side.firsts low last (g.first - s.sender_zero) last_went.0 (omega (arith, some)) low_first last_went.1)

  -- the packet's place is near it
  near_end : NearKind p s.run s.taken q (Ack window) → (q.place < last + 4294967296) × (last + 1 < q.place + 4294967296)
  near_end (inl a) =
      let n = near_both p s f a.place last a.first last_went.0 a.first_is last_went.1 (omega (arith, a.in_time)) (omega (arith, last_young)) in
      elim a.beside [ inl at ↦ (omega (arith, at, n.0), omega (arith, at, n.1)) | inr before ↦ (omega (arith, before, n.0), omega (arith, before, n.1)) ]
  near_end (inr b) =
      let r = present in
      let is_present : IsPresent p r.0 q.birth q.kind = present_of r.0 r.1 in
      let under : q.place ≤ low =
      elim (cases_lt low q.place) [ inl lt ↦ absurd (b.settled r.0 r.1 is_present low (omega (arith, base)) lt low_is_open) | inr ge ↦ ge ] in
      let here = went q.place (omega (arith, r.2.place)) (omega (arith, base, next, count, some, under)) in
      let young = b.later q.place here.0 (omega arith) here.1 in
      let n = near_both p s f q.place last here.0 last_went.0 here.1 last_went.1 (omega (arith, young)) (omega (arith, last_young)) in
      (omega (arith, n.0), omega (arith, n.1))
    where
      present_of : (r : Run) → s.run ≡ Some r → IsPresent p r q.birth q.kind
      present_of r e = subst (λ k. IsPresent p r q.birth k) (sym kind) (omega (arith, f.receive_side.began r e, f.receive_side.sent_now, ends r e))
        where
          ends : (r : Run) → s.run ≡ Some r → firsts_end s.run ≡ suc r.sent
          ends r e = ap firsts_end e

  pub end_of_ack : q.place ≡ place_of s x end
  end_of_ack =
      let r = present in
      let n = near_end (subst (λ k. NearKind p s.run s.taken q k) kind h.near.kind) in
      let o : r.2.offset ≡ end = same_offset p r.2.offset end (sym r.2.number ∙ number) (omega (arith, n.0, r.2.place, base, end_is, some)) (omega (arith, n.1, r.2.place, base, end_is, some)) in
      omega (arith, o, r.2.place, base, len, next, count, end_is)

pub ack_end : (p : Params) → IsWithinLimits p → (s : FlowState) (x : SendRecord) (q : Packet) (window : ℕ) (gone rest : List Segment) → s.sender ≡ Some x → IsIdle p (sender_reading s) (Some x) → q.kind ≡ Ack window → IsAlive p s q → Facts p s → Fits p s q
    → x.outstanding ≡ gone ++ rest → q.number ≡ number_of p (next_from x.left gone) → IsTheirEnd s x q gone
ack_end p limits s x q window [] rest is idle kind alive f h split number = tt
ack_end p limits s x q window (g ∷ gone) rest is idle kind alive f h split number = end_of_ack p limits s x q window g gone rest is idle kind alive f h split number
