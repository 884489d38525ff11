-- The receiver's steps keep the facts.
use Rattle.std.proofs.Common.{ℕ, suc, ◌+◌, ◌-◌, ◌<◌, ◌≤◌, ◌≡◌, ◌≢◌, ◌⊎◌, Bool, true, false, List, [], ◌∷◌, ◌++◌, length, Option, Some, None, refl, ap, ◌∙◌, subst, inl, inr, arith, get_or}
use Rattle.std.proofs.Math.Nat.{add-zero}
use Rattle.std.proofs.lemmas.List.{append-nil}
use Rattle.std.proofs.lemmas.Bool.{cases_lt}
use Rattle.dt_flow_laws.proofs.Timed.{FitsTime, Timed, TimedKept}
use Rattle.dt_flow_model.specs.Facts.{AllGivenFacts, Covers, DataFacts, IsGiven, KindFacts, ReceiveSide, ReceiverFacts, SendSide, accepted_before, births_end, firsts_end, free_from, open_rows}
use Rattle.dt_flow_model.specs.Flow.{Ack, Data, FlowState, Kind, Meet, Packet, Run, leads_kind}
use Rattle.dt_flow_model.specs.Ledger.{given_rows, is_open, item_of, last_at, no_item, plain, row_at, top, unread_items}
use Rattle.dt_units.specs.Numbers.{number_after}
use Rattle.dt_flow_model.specs.ReceiveRecord.{IsLive, ReceiveRecord}
use Rattle.dt_flow_model.specs.SendRecord.{SendRecord, next_of}
use Rattle.dt_flow_model.specs.Steps.{IsAlive, IsNextOrSkip, IsSameRecord}
use Rattle.dt_flow_model.specs.declared.rows.Fate.{Fate}
use Rattle.dt_flow_model.specs.declared.rows.Fate.TheVariants.{Acked, Open, Uncertain}
use Rattle.dt_flow_model.specs.declared.rows.Given.{Given}
use Rattle.dt_flow_model.specs.declared.rows.ReadCount.{ReadCount}
use Rattle.dt_flow_model.specs.declared.rows.Taken.{Taken}
use Rattle.dt_items.specs.declared.item.Item.{Item}
use Rattle.dt_units.specs.Times.{receive_time}
use Rattle.dt_units.specs.declared.parameters.Params.{Params}
use Rattle.dt_flow_laws.proofs.Ledger.{over_refl, past_at, row_left}
use Rattle.dt_flow_laws.proofs.Modular.{after_number}
use Rattle.dt_flow_laws.proofs.Frame.{rest_with, packet_on, later_refl, dead, alive_present, made_now, given_left, given_right, given_here, given_ok_append, rising_append, rising_rows, moments_append, moments_rows, top_append, top_rows, last_append, last_rows, top_within, last_first}

-- the record alone changes
rest_y : (c : Params) (s : FlowState) (y : Option ReceiveRecord) → ReceiveSide c s.now s.receiver_zero s.receiver_until s.sender_life s.run s.taken s.given s.receiver → ReceiverFacts c s.now s.receiver_zero s.receiver_until s.run s.taken s.given y → ReceiveSide c s.now s.receiver_zero s.receiver_until s.sender_life s.run s.taken s.given y
rest_y c s y f ok = rest_with c s.now s.receiver_zero s.receiver_until s.receiver_until s.sender_life s.run s.taken s.given s.receiver y f ok

pub receiver_releases : (c : Params) (s : FlowState) (y : ReceiveRecord) → s.receiver ≡ Some y → y.touched + receive_time c ≤ s.now + s.receiver_zero → Timed c s → TimedKept c s (record s { receiver = None }) []
receiver_releases c s y is late f =
    let fy : ReceiveSide c s.now s.receiver_zero s.receiver_until s.sender_life s.run s.taken s.given (Some y) = rw is at f.receive_side in
    record {
      facts = record { send_side = f.send_side; receive_side = rest_y c s None f.receive_side (λ some. omega (arith, fy.record_facts.touched)) };
      packets = λ p h. h;
      made_fit = tt;
    }

limit_of : (c : Params) (run : Option Run) (r : Run) → run ≡ Some r → accepted_before c run ≡ r.sent + c.mpl
limit_of c run r e = rw e

ends_of : (run : Option Run) (r : Run) → run ≡ Some r → firsts_end run ≡ suc r.sent
ends_of run r e = rw e

told_birth : (c : Params) (now window : ℕ) (run : Option Run) (r : Run) → run ≡ Some r → now < r.sent + c.mpl + receive_time c → now < births_end c run (Ack window)
told_birth c now window run r e h = rw e h

lead_birth : (c : Params) (run : Option Run) (r : Run) (kind : Kind) (birth : ℕ) → run ≡ Some r → leads_kind kind ≡ true → birth < births_end c run kind → birth < suc r.sent
lead_birth c run r (Data drf items) birth e h lt = rw e at lt
lead_birth c run r (Ack window) birth e h lt = absurd cc
lead_birth c run r Meet birth e h lt = rw e at lt

pub lead_covers : (taken : List Taken) (given : List Given) (r : Run) (p : Packet) (kind : Kind) → leads_kind kind ≡ true → Covers taken given r p kind → (q : ℕ) → r.base ≤ q → q < p.place → (row_at taken q).fate ≢ Open
lead_covers taken given r p (Data drf items) lead h = h lead
lead_covers taken given r p (Ack window) lead h = absurd cc
lead_covers taken given r p Meet lead h = h

began_now : (c : Params) (s : FlowState) (f : Timed c s) (r : Run) → s.run ≡ Some r → r.began ≤ s.now
began_now c s f r e = omega (arith, f.receive_side.began r e, f.receive_side.sent_now, ends_of s.run r e)

-- an acknowledgement of what is expected
pub tells_expected : (c : Params) → 0 < c.mpl → (s : FlowState) (y : ReceiveRecord) (due : Option ℕ) (told window : ℕ) → s.receiver ≡ Some y → IsLive c (s.now + s.receiver_zero) y → Timed c s
    → TimedKept c s (record s { receiver = Some (record y { due = due; told = told }) }) ((record { kind = (Ack window); number = y.expected; birth = s.now; place = top s.given }) ∷ [])
tells_expected c pos s y due told window is live f =
    let fy : ReceiveSide c s.now s.receiver_zero s.receiver_until s.sender_life s.run s.taken s.given (Some y) = rw is at f.receive_side in
    let q = fy.record_facts.receiving live in
    let within : top s.given ≤ length s.taken = top_within s.taken 0 s.given f.receive_side.given_facts (omega arith) in
    record {
      facts = record {
        send_side = f.send_side;
        receive_side = rest_y c s (Some (record y { due = due; told = told })) f.receive_side
            (record { accepted = fy.record_facts.accepted; touched = fy.record_facts.touched; receiving = λ h. (q.0, q.1, record { offset = q.2.offset; some = q.2.some; place = q.2.place; number = q.2.number; covered = q.2.covered }) });
      };
      packets = λ p h. h;
      made_fit = (
        made_now c s.now s.run q.0 s.taken s.given _ pos q.1 (began_now c s f q.0 q.1) refl within
            (told_birth c s.now window s.run q.0 q.1 (omega (arith, fy.record_facts.touched, fy.last_before fy.record_facts.accepted, limit_of c s.run q.0 q.1)))
            tt
            (record { offset = q.2.offset; place = q.2.place; number = q.2.number; covers = q.2.covered }),
        tt,
      );
    }

y_same : (c : Params) (now z until : ℕ) (run : Option Run) (taken : List Taken) (given : List Given) (y y' : Option ReceiveRecord) → IsSameRecord y y' → ReceiverFacts c now z until run taken given y → ReceiverFacts c now z until run taken given y'
y_same c now z until run taken given None None same h = h
y_same c now z until run taken given None (Some y') same h = elim same [ ]
y_same c now z until run taken given (Some y) None same h = elim same [ ]
y_same c now z until run taken given (Some y) (Some y') same h = record {
  accepted = h.accepted;
  touched = omega (arith, h.touched);
  receiving = λ live. let q = h.receiving (omega arith) in (q.0, q.1, record { offset = q.2.offset; some = q.2.some; place = q.2.place; number = same.0 ∙ q.2.number; covered = q.2.covered });
}

-- an acknowledgement of a packet's own number
pub tells_number : (c : Params) → 0 < c.mpl → (s : FlowState) (p : Packet) (y : Option ReceiveRecord) (window : ℕ) → leads_kind p.kind ≡ true → IsAlive c s p → IsSameRecord s.receiver y → Timed c s → FitsTime c s p
    → TimedKept c s (record s { receiver = y }) ((record { kind = (Ack window); number = p.number; birth = s.now; place = p.place }) ∷ [])
tells_number c pos s p y window lead live same f h =
    let q = alive_present c s.now s.receiver_zero s.receiver_until s.sender_life s.run s.taken s.given s.receiver p f.receive_side h live in
    record {
      facts = record { send_side = f.send_side; receive_side = rest_y c s y f.receive_side (y_same c s.now s.receiver_zero s.receiver_until s.run s.taken s.given s.receiver y same f.receive_side.record_facts) };
      packets = λ p h. h;
      made_fit = (
        made_now c s.now s.run q.0 s.taken s.given _ pos q.1 (began_now c s f q.0 q.1) refl h.in_ledger
            (told_birth c s.now window s.run q.0 q.1 (omega (arith, lead_birth c s.run q.0 p.kind p.birth q.1 lead h.birth)))
            tt
            (record { offset = q.2.offset; place = q.2.place; number = q.2.number; covers = λ r from to. inr (lead_covers s.taken s.given q.0 p p.kind lead q.2.covers r from to) }),
        tt,
      );
    }

fate_cases : (fate : Fate) → (fate ≡ Open) ⊎ (fate ≡ Acked) ⊎ (fate ≡ Uncertain)
fate_cases Open = inl refl
fate_cases Acked = inr (inl refl)
fate_cases Uncertain = inr (inr refl)

-- an Open row before the present run is of an earlier life
below_base : (c : Params) (now z until life : ℕ) (run : Option Run) (taken : List Taken) (x : Option SendRecord) (f : SendSide c now z until life run taken x) (r : Run) → run ≡ Some r → (free_from c run ≤ now → ⊥)
    → (q : ℕ) → q < r.base → (row_at taken q).fate ≡ Open → (row_at taken q).life < life
below_base c now z until life run taken None f r is busy q lt is_open =
    let e : taken ≡ f.old = f.ledger ∙ append-nil f.old in rw e (past_at life f.old f.past q (rw e at is_open))
below_base c now z until life run taken (Some x) f r is busy q lt is_open =
    elim (cases_lt 0 (next_of x)) [
      | inl some ↦
          let w = f.record_facts.sending some in
          let same : w.0.base ≡ r.base = cc (w.1, is) in
          let e = ap (λ rows. row_at rows q) f.ledger ∙ row_left f.old (open_rows z life (Some x)) q (omega (arith, w.2.base)) in
          rw e (past_at life f.old f.past q (rw e at is_open))
      | inr none ↦ absurd (busy (omega (arith, f.record_facts.fresh (omega arith), f.record_facts.touched)))
    ]

given_ok_rows : (taken : List Taken) (life at : ℕ) (mark : Bool) (first place : ℕ) (items : List Item) → first ≤ at
    → ((q k : ℕ) → q ≡ place + k → k < length items → ((row_at taken q).first ≡ Some first) × (item_of (row_at taken q) ≡ plain (get_or items k no_item))) → AllGivenFacts taken (given_rows life at mark place items)
given_ok_rows taken life at mark first place [] le h = tt
given_ok_rows taken life at mark first place (item ∷ items) le h =
    let here = h place 0 (omega arith) (omega arith) in (
      record { first = first; first_is = here.0; after = le; item = here.1 },
      given_ok_rows taken life at false first (suc place) items le (λ q k e lt. h q (suc k) (omega arith) (omega arith)),
    )

-- what each acceptance owes
module _ (c : Params) (s : FlowState) (p : Packet) (drf : Bool) (items : List Item) (f : Timed c s) (h : FitsTime c s p) (kind : p.kind ≡ Data drf items) (some : 0 < length items) (live : IsAlive c s p) where
  data_ok : DataFacts c s.taken items p
  data_ok = subst (λ k. KindFacts c s.taken p k) kind h.kind_facts

  -- the packet is of the present run, and was made by now
  here_birth : p.birth < firsts_end s.run
  here_birth = rw kind at h.birth

  busy : free_from c s.run ≤ s.now → ⊥
  busy free = omega (arith, dead c s.now s.run p.kind p.birth h.birth free)

  first_at : (row_at s.taken p.place).first ≡ Some data_ok.first
  first_at = rw (add-zero p.place) at (data_ok.firsts 0 some)

  -- no gap without a reason, where the packet leads
  gap : drf ≡ true → (q : ℕ) → q < p.place → IsGiven s.given q ⊎ ((row_at s.taken q).fate ≡ Uncertain) ⊎ ((row_at s.taken q).life < s.sender_life)
  gap lead q to =
      let w = alive_present c s.now s.receiver_zero s.receiver_until s.sender_life s.run s.taken s.given s.receiver p f.receive_side h live in
      elim (fate_cases (row_at s.taken q).fate) [
        | inl is_open ↦
            elim (cases_lt q w.0.base) [
              | inl lt ↦ inr (inr (below_base c s.now s.sender_zero s.sender_until s.sender_life s.run s.taken s.sender f.send_side w.0 w.1 busy q lt is_open))
              | inr ge ↦ absurd ((subst (λ k. Covers s.taken s.given w.0 p k) kind w.2.covers) lead q ge to is_open)
            ]
        | inr (inl acked) ↦ inl (f.receive_side.acked q acked)
        | inr (inr uncertain) ↦ inr (inl uncertain)
      ]

  pub accepted : (due : Option ℕ) (told : ℕ) (mark : Bool) (unread : List Item) → top s.given ≤ p.place
      → ((q : ℕ) → top s.given ≤ q → q < p.place → IsGiven s.given q ⊎ ((row_at s.taken q).fate ≡ Uncertain) ⊎ ((row_at s.taken q).life < s.sender_life))
      → ((r : Run) → s.run ≡ Some r → (q : ℕ) → r.base ≤ q → q < p.place → IsGiven s.given q ⊎ ((row_at s.taken q).fate ≢ Open))
      → TimedKept c s
      (record s {
        receiver = Some (record { expected = number_after p.number (length items); touched = s.now + s.receiver_zero; due = due; told = told });
        unread = unread;
        given = s.given ++ given_rows s.receiver_life s.now mark p.place items;
      })
      []
  accepted due told mark unread above reasons done =
      let rows = given_rows s.receiver_life s.now mark p.place items in
      let w = alive_present c s.now s.receiver_zero s.receiver_until s.sender_life s.run s.taken s.given s.receiver p f.receive_side h live in
      let top_is : top (s.given ++ rows) ≡ p.place + length items = top_append 0 s.given rows ∙ top_rows s.receiver_life s.now mark p.place (top s.given) items some in
      let last_is : last_at (s.given ++ rows) ≡ s.now = last_append 0 s.given rows ∙ last_rows s.receiver_life s.now mark p.place (last_at s.given) items some in
      let now_given : (q : ℕ) → p.place ≤ q → q < p.place + length items → IsGiven (s.given ++ rows) q =
      λ q from to. given_right s.given rows q (given_here s.receiver_life s.now mark p.place items q (q - p.place) (omega arith) (omega arith)) in
      record {
        facts = record {
          send_side = f.send_side;
          receive_side = record {
            sent_now = f.receive_side.sent_now;
            began = f.receive_side.began;
            first_end = f.receive_side.first_end;
            firsts = f.receive_side.firsts;
            given_facts = given_ok_append s.taken s.given rows f.receive_side.given_facts
                (given_ok_rows s.taken s.receiver_life s.now mark data_ok.first p.place items (omega (arith, data_ok.after, here_birth, f.receive_side.sent_now))
                (λ q k e lt. (rw e (data_ok.firsts k lt), rw e (data_ok.items_are k lt))));
            moments = moments_append 0 s.given rows f.receive_side.moments (moments_rows s.receiver_life s.now mark p.place (last_at s.given) items (omega (arith, f.receive_side.last_now)));
            last_now = omega (arith, last_is);
            last_before = λ z. omega (arith, last_is, limit_of c s.run w.0 w.1, ends_of s.run w.0 w.1, here_birth);
            record_facts = record {
              accepted = omega (arith, top_is);
              touched = omega (arith, last_is);
              receiving = λ z. (
                w.0,
                w.1,
                record {
                  offset = w.2.offset + length items;
                  some = omega arith;
                  place = omega (arith, top_is, w.2.place);
                  number = after_number c p.number w.2.offset (length items) w.2.number;
                  covered = λ q from to.
                      elim (cases_lt q p.place) [
                        | inl lt ↦ elim (done w.0 w.1 q from lt) [ inl g ↦ inl (given_left s.given rows q g) | inr d ↦ inr d ]
                        | inr ge ↦ inl (now_given q ge (omega (arith, top_is)))
                      ];
                },
              );
            };
            rising = rising_append 0 s.given rows f.receive_side.rising (rising_rows s.receiver_life s.now mark p.place (top s.given) items above);
            skipped = λ q to.
                elim (cases_lt q p.place) [
                  | inl lt ↦
                      let why : IsGiven s.given q ⊎ ((row_at s.taken q).fate ≡ Uncertain) ⊎ ((row_at s.taken q).life < s.sender_life) =
                      elim (cases_lt q (top s.given)) [ inl below ↦ f.receive_side.skipped q below | inr over ↦ reasons q over lt ] in
                      elim why [ inl g ↦ inl (given_left s.given rows q g) | inr z ↦ inr z ]
                  | inr ge ↦ inl (now_given q ge (omega (arith, top_is)))
                ];
            acked = λ q e. given_left s.given rows q (f.receive_side.acked q e);
          };
        };
        packets = packet_on c s.now s.now s.run s.run s.taken s.taken s.given (s.given ++ rows) (omega arith) (later_refl s.run) (over_refl s.taken) (given_left s.given rows);
        made_fit = tt;
      }

  -- without a record the place is past the last given one, since it was first sent after the last acceptance
  past_top : s.receiver ≡ None → s.receiver_until ≤ s.now + s.receiver_zero → top s.given ≤ p.place
  past_top is awake =
      elim (cases_lt p.place (top s.given)) [
        | inl lt ↦
            let fy : ReceiveSide c s.now s.receiver_zero s.receiver_until s.sender_life s.run s.taken s.given None = rw is at f.receive_side in
            let end : top s.given ≡ suc (top s.given - 1) = omega arith in
            let l = last_first s.taken s.given f.receive_side.given_facts (top s.given - 1) end in
            let order : data_ok.first ≤ l.0 = f.receive_side.firsts p.place (top s.given - 1) data_ok.first l.0 (omega arith) first_at l.1 in
            absurd (omega (arith, fy.record_facts (omega arith), data_ok.within, l.2))
        | inr ge ↦ ge
      ]

pub accepts_first : (c : Params) (s : FlowState) (p : Packet) (items : List Item) (due : Option ℕ) (told : ℕ) → s.receiver ≡ None → s.receiver_until ≤ s.now + s.receiver_zero → p.kind ≡ Data true items → 0 < length items → IsAlive c s p → Timed c s → FitsTime c s p
    → TimedKept c s
    (record s {
      receiver = Some (record { expected = number_after p.number (length items); touched = s.now + s.receiver_zero; due = due; told = told });
      unread = s.unread ++ unread_items true items;
      given = s.given ++ given_rows s.receiver_life s.now true p.place items;
    })
    []
accepts_first c s p items due told is awake kind some live f h =
    accepted c s p true items f h kind some live due told true _ (past_top c s p true items f h kind some live is awake)
    (λ q from to. gap c s p true items f h kind some live refl q to)
    (λ r e q from to. let w = alive_present c s.now s.receiver_zero s.receiver_until s.sender_life s.run s.taken s.given s.receiver p f.receive_side h live in let same : w.0.base ≡ r.base = cc (w.1, e) in inr ((subst (λ k. Covers s.taken s.given w.0 p k) kind w.2.covers) refl q (omega arith) to))

pub accepts : (c : Params) (s : FlowState) (y : ReceiveRecord) (p : Packet) (drf mark : Bool) (items : List Item) (due : Option ℕ) → s.receiver ≡ Some y → IsLive c (s.now + s.receiver_zero) y → p.kind ≡ Data drf items → 0 < length items → IsAlive c s p
    → IsNextOrSkip s p drf mark → Timed c s → FitsTime c s p
    → TimedKept c s
    (record s {
      receiver = Some (record y { expected = number_after p.number (length items); touched = s.now + s.receiver_zero; due = due });
      unread = s.unread ++ unread_items mark items;
      given = s.given ++ given_rows s.receiver_life s.now mark p.place items;
    })
    []
accepts c s y p drf mark items due is standing kind some live how f h =
    let fy : ReceiveSide c s.now s.receiver_zero s.receiver_until s.sender_life s.run s.taken s.given (Some y) = rw is at f.receive_side in
    let v = fy.record_facts.receiving standing in
    let w = alive_present c s.now s.receiver_zero s.receiver_until s.sender_life s.run s.taken s.given s.receiver p f.receive_side h live in
    let same : v.0.base ≡ w.0.base = cc (v.1, w.1) in
    elim how [
      | inl next ↦
          accepted c s p drf items f h kind some live due y.told mark _ (omega (arith, next.0))
          (λ q from to. absurd (omega (arith, next.0)))
          (λ r e q from to. let bases : v.0.base ≡ r.base = cc (v.1, e) in v.2.covered q (omega arith) (omega (arith, next.0)))
      | inr skip ↦
          accepted c s p drf items f h kind some live due y.told mark _ (omega (arith, skip.1))
          (λ q from to. gap c s p drf items f h kind some live skip.0 q to)
          (λ r e q from to. let bases : w.0.base ≡ r.base = cc (w.1, e) in inr ((subst (λ k. Covers s.taken s.given w.0 p k) kind w.2.covers) skip.0 q (omega arith) to))
    ]

pub reads : (c : Params) (s : FlowState) (y : Option ReceiveRecord) (unread : List Item) (counts : List ReadCount) → IsSameRecord s.receiver y → Timed c s → TimedKept c s (record s { receiver = y; unread = unread; reads = counts }) []
reads c s y unread counts same f = record {
  facts = record { send_side = f.send_side; receive_side = rest_y c s y f.receive_side (y_same c s.now s.receiver_zero s.receiver_until s.run s.taken s.given s.receiver y same f.receive_side.record_facts) };
  packets = λ p h. h;
  made_fit = tt;
}
