-- The sender's steps keep the facts.
use Rattle.std.proofs.Common.{ℕ, ◌+◌, ◌-◌, ◌<◌, ◌≤◌, ◌≡◌, ◌≢◌, List, [], ◌∷◌, ◌++◌, length, map, Option, Some, None, refl, ap, sym, ◌∙◌, subst, inl, inr, arith, append_assoc, length-append}
use Rattle.std.proofs.lemmas.List.{length-map, map-append, append-nil}
use Rattle.std.proofs.lemmas.Bool.{cases_lt}
use Rattle.dt_flow_laws.proofs.Rows.{KeepsRows}
use Rattle.dt_flow_laws.proofs.Timed.{FitsTime, Timed, TimedKept}
use Rattle.dt_flow_model.specs.Facts.{AllPast, Chain, Covers, IsGiven, SendFacts, SendSide, SenderFacts, Sending, free_from, lives_of, open_rows, rows_out}
use Rattle.dt_flow_model.specs.Flow.{Ack, FlowState, Packet, Run}
use Rattle.dt_flow_model.specs.Ledger.{open_row, row_at, settle, take_rows}
use Rattle.dt_flow_model.specs.SendRecord.{Segment, SendRecord, end_of, items_in, next_from, next_of}
use Rattle.dt_flow_model.specs.Steps.{IsAlive, IsTheirEnd}
use Rattle.dt_flow_model.specs.declared.rows.Fate.{Fate}
use Rattle.dt_flow_model.specs.declared.rows.Fate.TheVariants.{Acked, Open, Uncertain}
use Rattle.dt_flow_model.specs.declared.rows.Taken.{Taken}
use Rattle.dt_items.specs.declared.item.Item.{Item}
use Rattle.dt_units.specs.Times.{quiet_time, send_time}
use Rattle.dt_units.specs.declared.parameters.Params.{Params}
use Rattle.dt_flow_laws.proofs.Ledger.{all_at, over_at, settle_length, settle_lives, take_lives, fall_more, all_new, over_settle, over_append, over_done, settled_out, settle_past, settle_gone, out_append, length_out, length_settled, past_out, past_append, past_at, row_left, row_right, out_open, settle_firsts, took_firsts, settle_acked, took_acked, past_later, past_open, over_refl, SameFirsts, none_open_acked, firsts_rest}
use Rattle.dt_flow_laws.proofs.Frame.{rest_with, rest_moved, rest_later, packet_on, later_refl, dead, alive_present, run_now, rest_reborn}
use Rattle.dt_flow_model.proofs.Chains.{chain_front, chain_next, chain_rest, items_append, next_append}

-- the waiting items' rows
abbrev wait_rows : ℕ → SendRecord → List Taken
wait_rows life x = map (open_row life None) x.waiting

pub open_not_acked : (z life : ℕ) (gs : List Segment) (items : List Item) (k : ℕ) → (row_at (rows_out z life gs ++ map (open_row life None) items) k).fate ≡ Acked → ⊥
open_not_acked z life gs items k e =
    elim (cases_lt k (items_in gs)) [
      | inl lt ↦ let open_here = out_open z life gs (map (open_row life None) items) k lt in cc
      | inr ge ↦ none_open_acked life items (k - items_in gs) (rw (row_right (rows_out z life gs) (map (open_row life None) items) k (k - items_in gs) (omega (arith, length_out z life gs))) at e)
    ]

-- segments leave the record from the left, with a fate that isn't Open
module _ (c : Params) (now z until life : ℕ) (run : Option Run) (taken : List Taken) (x : SendRecord) (gone rest : List Segment) (fate : Fate) (closed : fate ≢ Open) (split : x.outstanding ≡ gone ++ rest) (f : SendSide c now z until life run taken (Some x)) where
  settled_ledger : settle life fate (items_in gone) taken ≡ (f.old ++ settled_out z life fate gone) ++ (rows_out z life rest ++ wait_rows life x)
  settled_ledger =
      let e : taken ≡ f.old ++ (rows_out z life gone ++ (rows_out z life rest ++ wait_rows life x)) =
      f.ledger ∙ ap (λ rows. f.old ++ rows) (rw (split, out_append z life gone rest, append_assoc (rows_out z life gone) (rows_out z life rest) (wait_rows life x))) in
      rw (e, settle_past life fate (items_in gone) f.old (rows_out z life gone ++ (rows_out z life rest ++ wait_rows life x)) f.past, settle_gone z life fate gone (rows_out z life rest ++ wait_rows life x))
      (sym (append_assoc f.old (settled_out z life fate gone) (rows_out z life rest ++ wait_rows life x)))

  settled_length : length (f.old ++ settled_out z life fate gone) ≡ length f.old + items_in gone
  settled_length = omega (arith, length-append f.old (settled_out z life fate gone), length_settled z life fate gone)

  -- a settled row isn't Open
  settled_done : (p : ℕ) → length f.old ≤ p → p < length f.old + items_in gone → (row_at (settle life fate (items_in gone) taken) p).fate ≢ Open
  settled_done p from to e =
      let left = row_left (f.old ++ settled_out z life fate gone) (rows_out z life rest ++ wait_rows life x) p (omega (arith, settled_length)) in
      let right = row_right f.old (settled_out z life fate gone) p (p - length f.old) (omega arith) in
      let here : (row_at (settled_out z life fate gone) (p - length f.old)).fate ≡ Open = rw (settled_ledger, left, right) at e in
      omega (arith, past_at 0 (settled_out z life fate gone) (past_out z 0 life fate gone closed) (p - length f.old) here)

  -- a row that is settled was Open
  was_open : (p : ℕ) → length f.old ≤ p → p < length f.old + items_in gone → (row_at taken p).fate ≡ Open
  was_open p from to =
      let e : taken ≡ f.old ++ (rows_out z life gone ++ (rows_out z life rest ++ wait_rows life x)) =
      f.ledger ∙ ap (λ rows. f.old ++ rows) (rw (split, out_append z life gone rest, append_assoc (rows_out z life gone) (rows_out z life rest) (wait_rows life x))) in
      rw (e, row_right f.old (rows_out z life gone ++ (rows_out z life rest ++ wait_rows life x)) p (p - length f.old) (omega arith))
      (out_open z life gone (rows_out z life rest ++ wait_rows life x) (p - length f.old) (omega arith))

  -- past them the rows are Open still
  still_open : (p : ℕ) → (row_at (settle life fate (items_in gone) taken) p).fate ≡ Acked → (p < length f.old + items_in gone)
  still_open p e =
      elim (cases_lt p (length f.old + items_in gone)) [
        | inl lt ↦ lt
        | inr ge ↦
            let right = row_right (f.old ++ settled_out z life fate gone) (rows_out z life rest ++ wait_rows life x) p (p - (length f.old + items_in gone)) (omega (arith, settled_length)) in
            absurd (open_not_acked z life rest x.waiting (p - (length f.old + items_in gone)) (rw (settled_ledger, right) at e))
      ]

  -- the row at a place before the open ones
  before_same : (p : ℕ) → p < length f.old → (row_at (settle life fate (items_in gone) taken) p) ≡ row_at taken p
  before_same p h =
      rw (settled_ledger, append_assoc f.old (settled_out z life fate gone) (rows_out z life rest ++ wait_rows life x), row_left f.old (settled_out z life fate gone ++ (rows_out z life rest ++ wait_rows life x)) p h)
      (sym (ap (λ rows. row_at rows p) f.ledger ∙ row_left f.old (open_rows z life (Some x)) p h))

  next_same : next_from (next_from x.left gone) rest ≡ next_of x
  next_same = rw (split, next_append x.left gone rest)

  settled_sending : (r : Run) → Sending z life r x f.old taken → (edge : ℕ)
      → Sending z life r (record { left = next_from x.left gone; edge = edge; touched = x.touched; crossed = x.crossed; outstanding = rest; waiting = x.waiting }) (f.old ++ settled_out z life fate gone) (settle life fate (items_in gone) taken)
  settled_sending r h edge =
      let chain : Chain x.left gone = chain_front x.left gone rest (rw split at f.record_facts.chain) in
      record {
        base = omega (arith, h.base, settled_length, chain_next x.left gone chain);
        sent = h.sent;
        settled = λ p from to.
            elim (cases_lt p (length f.old)) [
              | inl lt ↦ rw (before_same p lt) (h.settled p from lt)
              | inr ge ↦ settled_done p ge (omega (arith, settled_length))
            ];
        of_life = λ p from to.
            let lt : p < length taken = omega (arith, settle_length life fate (items_in gone) taken) in
            (over_at taken (settle life fate (items_in gone) taken) (over_settle life fate (items_in gone) taken) p lt).life ∙ h.of_life p from lt;
      }

  pub x_settled : (edge : ℕ) → 0 < next_of x
      → SendSide c now z until life run (settle life fate (items_in gone) taken) (Some (record { left = next_from x.left gone; edge = edge; touched = x.touched; crossed = x.crossed; outstanding = rest; waiting = x.waiting }))
  x_settled edge some = record {
    old = f.old ++ settled_out z life fate gone;
    ledger = settled_ledger;
    past = past_append life f.old (settled_out z life fate gone) f.past (past_out z life life fate gone closed);
    lives = rw (settle_lives life fate (items_in gone) taken) f.lives;
    record_facts = record {
      chain = chain_rest x.left gone rest (rw split at f.record_facts.chain);
      firsts = firsts_rest z gone rest (rw split at f.record_facts.firsts);
      touched = f.record_facts.touched;
      edge = λ h. absurd (omega (arith, next_same));
      fresh = λ h. absurd (omega (arith, next_same));
      sending = λ h. let q = f.record_facts.sending some in (q.0, q.1, settled_sending q.0 q.2 edge);
    };
  }

-- a step of the sender that makes no packet
module _ (c : Params) (s : FlowState) (f : Timed c s) where
  pub no_packet : (x : Option SendRecord) (taken : List Taken) → SendSide c s.now s.sender_zero s.sender_until s.sender_life s.run taken x → KeepsRows s.taken taken → SameFirsts s.taken taken → ((p : ℕ) → (row_at taken p).fate ≡ Acked → IsGiven s.given p)
      → TimedKept c s (record s { sender = x; taken = taken }) []
  no_packet x taken x_facts over same acked = record {
    facts = record { send_side = x_facts; receive_side = rest_moved c s.now s.receiver_zero s.receiver_until s.sender_life s.run s.taken taken s.given over s.receiver same acked f.receive_side };
    packets = packet_on c s.now s.now s.run s.run s.taken taken s.given s.given (omega arith) (later_refl s.run) over (λ q g. g);
    made_fit = tt;
  }

  -- the record alone changes
  pub record_alone : (x : Option SendRecord) → SendSide c s.now s.sender_zero s.sender_until s.sender_life s.run s.taken x → TimedKept c s (record s { sender = x }) []
  record_alone x x_facts = record { facts = record { send_side = x_facts; receive_side = f.receive_side }; packets = λ p h. h; made_fit = tt }

chain_some : (n : ℕ) (g : Segment) (rest : List Segment) → Chain n (g ∷ rest) → 0 < next_from n (g ∷ rest)
chain_some n g rest h = omega (arith, chain_next n (g ∷ rest) h, h.1)

pub gives_up : (c : Params) (s : FlowState) (x : SendRecord) (g : Segment) (rest : List Segment) → s.sender ≡ Some x → x.outstanding ≡ g ∷ rest → Timed c s
    → TimedKept c s (record s { sender = Some (record x { left = end_of g; outstanding = rest }); taken = settle s.sender_life Uncertain (length g.items) s.taken }) []
gives_up c s x g rest is split f =
    let fx : SendSide c s.now s.sender_zero s.sender_until s.sender_life s.run s.taken (Some x) = rw is at f.send_side in
    let some : 0 < next_of x = rw split (chain_some x.left g rest (rw split at fx.record_facts.chain)) in
    let n : items_in (g ∷ []) ≡ length g.items = omega arith in
    let closed : Uncertain ≢ Open = λ e. cc in
    no_packet c s f _ _
    (rw n at (x_settled c s.now s.sender_zero s.sender_until s.sender_life s.run s.taken x (g ∷ []) rest Uncertain closed split fx x.edge some))
    (over_settle s.sender_life Uncertain (length g.items) s.taken)
    (settle_firsts s.sender_life Uncertain (length g.items) s.taken)
    (λ p e. f.receive_side.acked p (settle_acked s.sender_life Uncertain (length g.items) s.taken (λ h. cc) p e))

-- the rows before the open ones stand in the ledger
module _ (c : Params) (now z until life : ℕ) (run : Option Run) (taken : List Taken) (x : SendRecord) (f : SendSide c now z until life run taken (Some x)) where
  pub taken_length : length taken ≡ length f.old + items_in x.outstanding + length x.waiting
  taken_length = omega (
    arith,
    ap (λ rows. length rows) f.ledger,
    length-append f.old (open_rows z life (Some x)),
    length-append (rows_out z life x.outstanding) (map (open_row life None) x.waiting),
    length_out z life x.outstanding,
    length-map x.waiting (open_row life None),
  )

  pub old_within : length f.old ≤ length taken
  old_within = omega (arith, taken_length)

  -- number n of the record stands at its place
  pub next_is : next_of x ≡ x.left + items_in x.outstanding
  next_is = chain_next x.left x.outstanding f.record_facts.chain

-- the place of the end of the segments that an acknowledgement is of
their_end : (s : FlowState) (x : SendRecord) (p : Packet) (gone rest : List Segment) (before : ℕ) → x.outstanding ≡ gone ++ rest → Chain x.left gone → Chain x.left x.outstanding → length s.taken ≡ before + items_in x.outstanding + length x.waiting
    → IsTheirEnd s x p gone → 0 < items_in gone → p.place ≡ before + items_in gone
their_end s x p [] rest before split chain all len ends some = absurd (omega arith)
their_end s x p (g ∷ gs) rest before split chain all len ends some =
    let count : items_in x.outstanding ≡ items_in (g ∷ gs) + items_in rest = rw split (items_append (g ∷ gs) rest) in
    omega (arith, count, ends, chain_next x.left (g ∷ gs) chain, chain_next x.left x.outstanding all)

pub is_acked : (c : Params) (s : FlowState) (x : SendRecord) (p : Packet) (window : ℕ) (gone rest : List Segment) (edge : ℕ) → s.sender ≡ Some x → p.kind ≡ Ack window → IsAlive c s p
    → x.outstanding ≡ gone ++ rest → IsTheirEnd s x p gone → Timed c s → FitsTime c s p
    → TimedKept c s (record s { sender = Some (record x { left = next_from x.left gone; edge = edge; outstanding = rest }); taken = settle s.sender_life Acked (items_in gone) s.taken }) []
is_acked c s x p window gone rest edge is kind live split ends f h =
    let fx : SendSide c s.now s.sender_zero s.sender_until s.sender_life s.run s.taken (Some x) = rw is at f.send_side in
    let closed : Acked ≢ Open = λ e. cc in
    let some : 0 < next_of x =
    elim (cases_lt 0 (next_of x)) [
      | inl lt ↦ lt
      | inr le ↦ absurd (omega (arith, dead c s.now s.run p.kind p.birth h.birth (omega (arith, fx.record_facts.fresh (omega arith), fx.record_facts.touched))))
    ] in
    let q = alive_present c s.now s.receiver_zero s.receiver_until s.sender_life s.run s.taken s.given s.receiver p f.receive_side h live in
    let r = fx.record_facts.sending some in
    let same : q.0 ≡ r.0 = cc (q.1, r.1) in
    let covers = subst (λ k. Covers s.taken s.given q.0 p k) kind q.2.covers in
    let chain : Chain x.left gone = chain_front x.left gone rest (rw split at fx.record_facts.chain) in
    no_packet c s f _ _
    (x_settled c s.now s.sender_zero s.sender_until s.sender_life s.run s.taken x gone rest Acked closed split fx edge some)
    (over_settle s.sender_life Acked (items_in gone) s.taken)
    (settle_firsts s.sender_life Acked (items_in gone) s.taken)
    (λ k e.
    let below = still_open c s.now s.sender_zero s.sender_until s.sender_life s.run s.taken x gone rest Acked closed split fx k e in
    elim (cases_lt k (length fx.old)) [
      | inl lt ↦ f.receive_side.acked k (rw (before_same c s.now s.sender_zero s.sender_until s.sender_life s.run s.taken x gone rest Acked closed split fx k lt) at e)
      | inr ge ↦
          let was = was_open c s.now s.sender_zero s.sender_until s.sender_life s.run s.taken x gone rest Acked closed split fx k ge below in
          let bases : q.0.base ≡ r.0.base = ap (λ (z : Run). z.base) same in
          elim (covers k (omega (arith, r.2.base, bases)) (omega (arith, their_end s x p gone rest (length fx.old) split chain fx.record_facts.chain (taken_length c s.now s.sender_zero s.sender_until s.sender_life s.run s.taken x fx) ends (omega arith)))) [
            | inl g ↦ g
            | inr d ↦ absurd (d was)
          ]
    ])

pub sending_over : (z life : ℕ) (r : Run) (x x' : SendRecord) (old taken taken' : List Taken) → KeepsRows taken taken' → ((p : ℕ) → length taken ≤ p → p < length taken' → (row_at taken' p).life ≡ life) → length old ≤ length taken → x'.left ≡ x.left → x'.touched ≡ x.touched
    → Sending z life r x old taken → Sending z life r x' old taken'
sending_over z life r x x' old taken taken' over new le left touched h = record {
  base = omega (arith, h.base);
  sent = h.sent ∙ sym touched;
  settled = λ p from to. over_done taken taken' over p (omega arith) (h.settled p from to);
  of_life = λ p from to. elim (cases_lt p (length taken)) [ inl lt ↦ (over_at taken taken' over p lt).life ∙ h.of_life p from lt | inr ge ↦ new p ge to ];
}

pub takes : (c : Params) (s : FlowState) (x : SendRecord) (items : List Item) → s.sender ≡ Some x → Timed c s
    → TimedKept c s (record s { sender = Some (record x { waiting = x.waiting ++ items }); taken = take_rows s.sender_life items s.taken }) []
takes c s x items is f =
    let fx : SendSide c s.now s.sender_zero s.sender_until s.sender_life s.run s.taken (Some x) = rw is at f.send_side in
    let W = map (open_row s.sender_life None) x.waiting in
    let N = map (open_row s.sender_life None) items in
    let over = over_append s.taken N in
    let new : (p : ℕ) → length s.taken ≤ p → p < length (s.taken ++ N) → (row_at (s.taken ++ N) p).life ≡ s.sender_life =
    λ p ge to. rw (row_right s.taken N p (p - length s.taken) (omega arith)) (all_at s.sender_life N (all_new s.sender_life items) (p - length s.taken) (omega (arith, length-append s.taken N))) in
    no_packet c s f _ _
    (record {
      old = fx.old;
      ledger =
          ap (λ rows. rows ++ N) fx.ledger
          ∙ rw (map-append (open_row s.sender_life None) x.waiting items, append_assoc fx.old (rows_out s.sender_zero s.sender_life x.outstanding ++ W) N, append_assoc (rows_out s.sender_zero s.sender_life x.outstanding) W N);
      past = fx.past;
      lives = take_lives s.sender_life items s.taken fx.lives;
      record_facts = record {
        chain = fx.record_facts.chain;
        firsts = fx.record_facts.firsts;
        touched = fx.record_facts.touched;
        edge = fx.record_facts.edge;
        fresh = fx.record_facts.fresh;
        sending = λ h. let q = fx.record_facts.sending h in (q.0, q.1, sending_over s.sender_zero s.sender_life q.0 x _ fx.old s.taken _ over new (old_within c s.now s.sender_zero s.sender_until s.sender_life s.run s.taken x fx) refl refl q.2);
      };
    })
    over
    (took_firsts s.sender_life items s.taken)
    (λ p e. f.receive_side.acked p (took_acked s.sender_life items s.taken p e))

pub makes : (c : Params) (s : FlowState) (edge : ℕ) → s.sender ≡ None → s.sender_until ≤ s.now + s.sender_zero → 0 < edge → Timed c s
    → TimedKept c s (record s { sender = Some (record { left = 0; edge = edge; touched = s.now + s.sender_zero; crossed = None; outstanding = []; waiting = [] }) }) []
makes c s edge is awake pos f =
    let fx : SendSide c s.now s.sender_zero s.sender_until s.sender_life s.run s.taken None = rw is at f.send_side in
    record_alone c s f _
    (record {
      old = fx.old;
      ledger = fx.ledger;
      past = fx.past;
      lives = fx.lives;
      record_facts = record { chain = tt; firsts = tt; touched = omega arith; edge = λ h. pos; fresh = λ h. omega (arith, fx.record_facts); sending = λ h. absurd (omega arith) };
    })

-- the time of the last transmission, at a record that has transmitted or not
released_at : (c : Params) (now z life : ℕ) (run : Option Run) (old taken : List Taken) (x : SendRecord) → SendFacts c now z life run old taken x → x.touched + send_time c ≤ now + z → free_from c run ≤ now
released_at c now z life run old taken x h late =
    elim (cases_lt 0 (next_of x)) [
      | inl some ↦ let q = h.sending some in rw (q.1) (omega (arith, q.2.sent))
      | inr none ↦ omega (arith, h.fresh (omega arith))
    ]

pub releases : (c : Params) (s : FlowState) (x : SendRecord) → s.sender ≡ Some x → x.outstanding ≡ [] → x.waiting ≡ [] → x.touched + send_time c ≤ s.now + s.sender_zero → Timed c s → TimedKept c s (record s { sender = None }) []
releases c s x is out wait late f =
    let fx : SendSide c s.now s.sender_zero s.sender_until s.sender_life s.run s.taken (Some x) = rw is at f.send_side in
    record_alone c s f _
    (record {
      old = fx.old;
      ledger = rw (out, wait) at fx.ledger;
      past = fx.past;
      lives = fx.lives;
      record_facts = omega (arith, released_at c s.now s.sender_zero s.sender_life s.run fx.old s.taken x fx.record_facts late);
    })

pub renews : (c : Params) (s : FlowState) (x : SendRecord) (edge : ℕ) → s.sender ≡ Some x → x.outstanding ≡ [] → x.touched + send_time c ≤ s.now + s.sender_zero → 0 < edge → Timed c s
    → TimedKept c s (record s { sender = Some (record { left = 0; edge = edge; touched = s.now + s.sender_zero; crossed = None; outstanding = []; waiting = x.waiting }) }) []
renews c s x edge is out late pos f =
    let fx : SendSide c s.now s.sender_zero s.sender_until s.sender_life s.run s.taken (Some x) = rw is at f.send_side in
    record_alone c s f _
    (record {
      old = fx.old;
      ledger = rw out at fx.ledger;
      past = fx.past;
      lives = fx.lives;
      record_facts = record { chain = tt; firsts = tt; touched = omega arith; edge = λ h. pos; fresh = λ h. omega (arith, released_at c s.now s.sender_zero s.sender_life s.run fx.old s.taken x fx.record_facts late); sending = λ h. absurd (omega arith) };
    })

-- every row is of an earlier life than the one that begins
pub past_all : (z life : ℕ) (x : Option SendRecord) (old : List Taken) → AllPast life old → AllPast (life + 1) (old ++ open_rows z life x)
past_all z life x old h = past_append (life + 1) old (open_rows z life x) (past_later life old h) (past_open z life x)

pub sender_restarts : (c : Params) (s : FlowState) → Timed c s → TimedKept c s (record s { sender = None; sender_life = s.sender_life + 1; sender_until = s.now + s.sender_zero + quiet_time c }) []
sender_restarts c s f = record {
  facts = record {
    send_side = record {
      old = s.taken;
      ledger = sym (append-nil s.taken);
      past = rw (f.send_side.ledger) (past_all s.sender_zero s.sender_life s.sender f.send_side.old f.send_side.past);
      lives = fall_more 0 s.sender_life (s.sender_life + 1) (lives_of s.taken) (omega arith) f.send_side.lives;
      record_facts = omega (arith, run_now c s.run s.now f.receive_side.sent_now);
    };
    receive_side = rest_reborn c s.now s.receiver_zero s.receiver_until s.sender_life s.run s.taken s.given s.receiver f.receive_side;
  };
  packets = λ p h. h;
  made_fit = tt;
}

pub receiver_restarts : (c : Params) (s : FlowState) → Timed c s → TimedKept c s (record s { receiver = None; receiver_life = s.receiver_life + 1; receiver_until = s.now + s.receiver_zero + quiet_time c; unread = [] }) []
receiver_restarts c s f = record {
  facts = record {
    send_side = f.send_side;
    receive_side = rest_with c s.now s.receiver_zero s.receiver_until (s.now + s.receiver_zero + quiet_time c) s.sender_life s.run s.taken s.given s.receiver None f.receive_side (λ some. omega (arith, f.receive_side.last_now));
  };
  packets = λ p h. h;
  made_fit = tt;
}

x_later : (c : Params) (now z until life d : ℕ) (run : Option Run) (old taken : List Taken) (x : Option SendRecord) → SenderFacts c now z until life run old taken x → SenderFacts c (now + d) z until life run old taken x
x_later c now z until life d run old taken None h = omega arith
x_later c now z until life d run old taken (Some x) h = record { chain = h.chain; firsts = h.firsts; touched = omega arith; edge = h.edge; fresh = h.fresh; sending = h.sending }

pub passes : (c : Params) (s : FlowState) (d : ℕ) → Timed c s → TimedKept c s (record s { now = s.now + d }) []
passes c s d f = record {
  facts = record {
    send_side = record { old = f.send_side.old; ledger = f.send_side.ledger; past = f.send_side.past; lives = f.send_side.lives; record_facts = x_later c s.now s.sender_zero s.sender_until s.sender_life d s.run f.send_side.old s.taken s.sender f.send_side.record_facts };
    receive_side = rest_later c s.now s.receiver_zero s.receiver_until s.sender_life d s.run s.taken s.given s.receiver f.receive_side;
  };
  packets = packet_on c s.now (s.now + d) s.run s.run s.taken s.taken s.given s.given (omega arith) (later_refl s.run) (over_refl s.taken) (λ q g. g);
  made_fit = tt;
}
