-- The sender's transmissions keep the facts.
use Rattle.std.proofs.Common.{ℕ, zero, suc, ◌+◌, ◌-◌, ◌<◌, ◌≤◌, ◌≡◌, ◌≢◌, ◌⊎◌, List, [], ◌∷◌, ◌++◌, length, map, Option, Some, None, refl, ap, sym, ◌∙◌, inl, inr, arith, get_or, append_assoc, length-append}
use Rattle.std.proofs.lemmas.List.{length-map, map-append, append-nil}
use Rattle.std.proofs.lemmas.Bool.{cases_lt}
use Rattle.std.proofs.lemmas.Bool.Decides.{nat_tests}
use Rattle.dt_flow_laws.proofs.Rows.{KeepsRows}
use Rattle.dt_flow_laws.proofs.Timed.{Timed, TimedKept}
use Rattle.dt_flow_model.specs.Facts.{Chain, PacketFacts, ReceiveSide, SendFacts, SendSide, Sending, firsts_end, free_from, open_rows, rows_out, FirstsFrom}
use Rattle.dt_flow_model.specs.Flow.{Data, FlowState, Meet, Packet, Run, crossings_after, place_of, run_after}
use Rattle.dt_flow_model.specs.Ledger.{no_item, note_first, open_row, row_at}
use Rattle.dt_flow_model.specs.Numbering.{number_of}
use Rattle.dt_flow_model.specs.ReceiveRecord.{ReceiveRecord}
use Rattle.dt_flow_model.specs.SendRecord.{Segment, SendRecord, crossed_after, items_in, leads, next_from, next_of}
use Rattle.dt_flow_model.specs.declared.rows.Fate.TheVariants.{Acked, Open}
use Rattle.dt_flow_model.specs.declared.rows.Given.{Given}
use Rattle.dt_flow_model.specs.declared.rows.Taken.{Taken}
use Rattle.dt_items.specs.declared.item.Item.{Item}
use Rattle.dt_units.specs.declared.parameters.Params.{Params}
use Rattle.dt_flow_laws.proofs.Ledger.{all_at, all_open, note_length, note_lives, over_refl, over_done, over_length, over_note, note_past, noted_rows, out_append, length_out, row_left, row_right, row_mapped, none_waiting, firsts_rest, firsts_front, firsts_join}
use Rattle.dt_flow_laws.proofs.Frame.{Later, rest_on, rest_fresh, packet_on, packet_fresh, rest_noted, made_now}
use Rattle.dt_flow_laws.proofs.SenderSteps.{taken_length, next_is, open_not_acked, sending_over}
use Rattle.dt_flow_model.proofs.Chains.{chain_front, chain_join, chain_next, chain_rest, items_append}

-- the run after a transmission: the same one, or a new one that begins at number 0
run_goes : (run : Option Run) (r : Run) (base now n : ℕ) → run ≡ Some r → 0 < n → run_after run base now n ≡ Some (record { base = r.base; began = r.began; sent = now })
run_goes None r base now n e h = absurd cc
run_goes (Some q) r base now zero e h = absurd (omega arith)
run_goes (Some q) r base now (suc n) e h = let same : q ≡ r = cc in cc

later_goes : (run : Option Run) (r r' : Run) → run ≡ Some r → r'.base ≡ r.base → r.sent ≤ r'.sent → r'.began ≡ r.began → Later run (Some r')
later_goes None r r' e h k l = absurd cc
later_goes (Some q) r r' e h k l = let same : q ≡ r = cc in rw same (h, k, l)

-- what a transmission of the record at now makes of the run
pub record Transmitted (c : Params) (now : ℕ) (before after : Option Run) (old : List Taken) (x : SendRecord) : Type 0 where
  pub run : Run
  pub is : after ≡ Some run
  pub sent : run.sent ≡ now
  pub base : run.base + x.left ≡ length old
  pub began : run.began ≤ now
  pub how : Later before after ⊎ (free_from c before ≤ now) × (run.began ≡ now)

ends_some : (run : Option Run) (r : Run) (n : ℕ) → run ≡ Some r → firsts_end run ≤ suc n → r.sent ≤ n
ends_some None r n e h = absurd cc
ends_some (Some q) r n e h = let same : r.sent ≡ q.sent = cc in omega arith

pub sent_by : (c : Params) (s : FlowState) (x : SendRecord) (fx : SendSide c s.now s.sender_zero s.sender_until s.sender_life s.run s.taken (Some x)) → ReceiveSide c s.now s.receiver_zero s.receiver_until s.sender_life s.run s.taken s.given s.receiver
    → Transmitted c s.now s.run (run_after s.run (place_of s x 0) s.now (next_of x)) fx.old x
sent_by c s x fx rest =
    let len = taken_length c s.now s.sender_zero s.sender_until s.sender_life s.run s.taken x fx in
    let next = next_is c s.now s.sender_zero s.sender_until s.sender_life s.run s.taken x fx in
    elim (cases_lt 0 (next_of x)) [
      | inl some ↦
          let q = fx.record_facts.sending some in
          let goes = run_goes s.run q.0 (place_of s x 0) s.now (next_of x) q.1 some in
          record { run = record { base = q.0.base; began = q.0.began; sent = s.now }; is = goes; sent = refl; base = q.2.base; began = omega (arith, rest.began q.0 q.1, ends_some s.run q.0 s.now q.1 rest.sent_now); how = inl (rw goes (later_goes s.run q.0 _ q.1 refl (ends_some s.run q.0 s.now q.1 rest.sent_now) refl)) }
      | inr none ↦
          let zero_next : next_of x ≡ 0 = omega arith in
          record {
            run = record { base = place_of s x 0; began = s.now; sent = s.now };
            is = rw zero_next;
            sent = refl;
            base = omega (arith, len, next);
            began = omega arith;
            how = inr (omega (arith, fx.record_facts.fresh zero_next, fx.record_facts.touched), refl);
          }
    ]

-- the other facts, and the packets, after a transmission
rest_sent : (c : Params) (now z until life : ℕ) (run after : Option Run) (old taken : List Taken) (given : List Given) (x : SendRecord) (y : Option ReceiveRecord) → Transmitted c now run after old x → ReceiveSide c now z until life run taken given y → ReceiveSide c now z until life after taken given y
rest_sent c now z until life run after old taken given x y t f =
    elim t.how [
      | inl later ↦ rest_on c now z until life run after taken given later (λ r e. let same : t.run ≡ r = cc (t.is, e) in rw (← same) (omega (arith, t.sent, t.began))) (rw (t.is) (omega (arith, t.sent))) y f
      | inr free ↦ rw (t.is) (rest_fresh c now z until life run t.run taken given free.0 t.sent free.1 y f)
    ]

packet_sent : (c : Params) (now : ℕ) (run after : Option Run) (old xs ys : List Taken) (given : List Given) (x : SendRecord) → 0 < c.mpl → Transmitted c now run after old x → KeepsRows xs ys → (p : Packet) → PacketFacts c run xs given p → PacketFacts c after ys given p
packet_sent c now run after old xs ys given x pos t over p h =
    elim t.how [
      | inl later ↦ packet_on c now now run after xs ys given given (omega arith) later over (λ q g. g) p h
      | inr free ↦ rw (t.is) (packet_fresh c now run t.run xs ys given free.0 t.sent free.1 over pos p h)
    ]

-- the record after a transmission
sending_sent : (c : Params) (now z life : ℕ) (run after : Option Run) (old taken : List Taken) (x x' : SendRecord) (t : Transmitted c now run after old x) → taken ≡ old ++ open_rows z life (Some x) → SendFacts c now z life run old taken x → x'.left ≡ x.left → x'.touched ≡ now + z → Sending z life t.run x' old taken
sending_sent c now z life run after old taken x x' t ledger h left touched = record {
  base = omega (arith, t.base);
  sent = omega (arith, t.sent);
  settled = λ p from to.
      elim (cases_lt 0 (next_of x)) [
        | inl some ↦ let q = h.sending some in q.2.settled p (omega (arith, q.2.base, t.base)) to
        | inr none ↦ absurd (omega (arith, t.base, chain_next x.left x.outstanding h.chain))
      ];
  of_life = λ p from to.
      elim (cases_lt 0 (next_of x)) [
        | inl some ↦ let q = h.sending some in q.2.of_life p (omega (arith, q.2.base, t.base)) to
        | inr none ↦
            let ge : length old ≤ p = omega (arith, t.base, chain_next x.left x.outstanding h.chain) in
            let lt : p < length (old ++ open_rows z life (Some x)) = rw ledger at to in
            rw (ledger, row_right old (open_rows z life (Some x)) p (p - length old) (omega arith)) (all_at life (open_rows z life (Some x)) (all_open z life (Some x)) (p - length old) (omega (arith, length-append old (open_rows z life (Some x)))))
      ];
}

-- a transmission that leaves the ledger alone
module _ (c : Params) (s : FlowState) (x : SendRecord) (pos : 0 < c.mpl) (f : Timed c s) (fx : SendSide c s.now s.sender_zero s.sender_until s.sender_life s.run s.taken (Some x)) where
  after : Option Run
  after = run_after s.run (place_of s x 0) s.now (next_of x)

  pub transmits : (x' : SendRecord) (p : Packet) → Chain x'.left x'.outstanding → FirstsFrom s.sender_zero x'.outstanding → x'.left ≡ x.left → x'.touched ≡ s.now + s.sender_zero → 0 < next_of x' → rows_out s.sender_zero s.sender_life x'.outstanding ≡ rows_out s.sender_zero s.sender_life x.outstanding → x'.waiting ≡ x.waiting
      → PacketFacts c (run_after s.run (place_of s x 0) s.now (next_of x)) s.taken s.given p
      → TimedKept c s (record s { sender = Some x'; run = run_after s.run (place_of s x 0) s.now (next_of x) }) (p ∷ [])
  transmits x' p chain firsts left touched some rows wait ok =
      let t = sent_by c s x fx f.receive_side in
      let fresh : Sending s.sender_zero s.sender_life t.run x' fx.old s.taken = sending_sent c s.now s.sender_zero s.sender_life s.run _ fx.old s.taken x x' t fx.ledger fx.record_facts left touched in
      record {
        facts = record {
          send_side = record {
            old = fx.old;
            ledger = rw (rows, wait) fx.ledger;
            past = fx.past;
            lives = fx.lives;
            record_facts = record {
              chain = chain;
              firsts = firsts;
              touched = omega arith;
              edge = λ h. absurd (omega arith);
              fresh = λ h. absurd (omega arith);
              sending = λ h. (t.run, t.is, fresh);
            };
          };
          receive_side = rest_sent c s.now s.receiver_zero s.receiver_until s.sender_life s.run _ fx.old s.taken s.given x s.receiver t f.receive_side;
        };
        packets = packet_sent c s.now s.run _ fx.old s.taken s.taken s.given x pos t (over_refl s.taken);
        made_fit = (ok, tt);
      }

-- before the record's left all is done
covered : (c : Params) (now z life : ℕ) (run after : Option Run) (old taken : List Taken) (x : SendRecord) (t : Transmitted c now run after old x) → taken ≡ old ++ open_rows z life (Some x) → SendFacts c now z life run old taken x → (q : ℕ) → t.run.base ≤ q → q < length old → (row_at taken q).fate ≢ Open
covered c now z life run after old taken x t ledger h q from to = (sending_sent c now z life run after old taken x (record x { touched = now + z }) t ledger h refl refl).settled q from to

pub meets : (c : Params) (s : FlowState) (x : SendRecord) → 0 < c.mpl → s.sender ≡ Some x → x.outstanding ≡ [] → x.edge ≤ next_of x → Timed c s
    → TimedKept c s (record s { sender = Some (record x { touched = s.now + s.sender_zero }); run = run_after s.run (place_of s x 0) s.now (next_of x) })
    ((record { kind = Meet; number = number_of c x.left; birth = s.now; place = place_of s x x.left }) ∷ [])
meets c s x pos is out edge f =
    let fx : SendSide c s.now s.sender_zero s.sender_until s.sender_life s.run s.taken (Some x) = rw is at f.send_side in
    let t = sent_by c s x fx f.receive_side in
    let len = taken_length c s.now s.sender_zero s.sender_until s.sender_life s.run s.taken x fx in
    let next = next_is c s.now s.sender_zero s.sender_until s.sender_life s.run s.taken x fx in
    let none : items_in x.outstanding ≡ 0 = rw out in
    let some : 0 < next_of x = elim (cases_lt 0 (next_of x)) [ inl lt ↦ lt | inr le ↦ omega (arith, fx.record_facts.edge (omega arith)) ] in
    let place : place_of s x x.left ≡ length fx.old = omega (arith, len, next) in
    transmits c s x pos f fx (record x { touched = s.now + s.sender_zero }) _ fx.record_facts.chain fx.record_facts.firsts refl refl some refl refl
    (made_now c s.now _ t.run s.taken s.given _ pos t.is t.began refl (omega (arith, len)) (rw (t.is) (omega (arith, t.sent))) tt
    (record { offset = x.left; place = omega (arith, t.base); number = refl; covers = λ q from to. covered c s.now s.sender_zero s.sender_life s.run _ fx.old s.taken x t fx.ledger fx.record_facts q from (omega arith) }))

-- a segment's rows in the ledger
module _ (c : Params) (now z until life : ℕ) (run : Option Run) (taken : List Taken) (x : SendRecord) (pre post : List Segment) (g : Segment) (split : x.outstanding ≡ pre ++ g ∷ post) (fx : SendSide c now z until life run taken (Some x)) where
  W : List Taken
  W = map (open_row life None) x.waiting

  G : List Taken
  G = map (open_row life (Some (g.first - z))) g.items

  segment_ledger : taken ≡ (fx.old ++ rows_out z life pre) ++ (map (open_row life (Some (g.first - z))) g.items ++ (rows_out z life post ++ map (open_row life None) x.waiting))
  segment_ledger =
      fx.ledger
      ∙ ap (λ rows. fx.old ++ rows)
      (rw (
        split,
        out_append z life pre (g ∷ post),
        append_assoc (rows_out z life pre) (map (open_row life (Some (g.first - z))) g.items ++ rows_out z life post) (map (open_row life None) x.waiting),
        append_assoc (map (open_row life (Some (g.first - z))) g.items) (rows_out z life post) (map (open_row life None) x.waiting),
      ))
      ∙ sym (append_assoc fx.old (rows_out z life pre) (map (open_row life (Some (g.first - z))) g.items ++ (rows_out z life post ++ map (open_row life None) x.waiting)))

  pub segment_row : (p k : ℕ) → p ≡ length fx.old + items_in pre + k → k < length g.items → row_at taken p ≡ open_row life (Some (g.first - z)) (get_or g.items k no_item)
  segment_row p k at lt =
      rw (
        segment_ledger,
        row_right (fx.old ++ rows_out z life pre) (map (open_row life (Some (g.first - z))) g.items ++ (rows_out z life post ++ map (open_row life None) x.waiting)) p k (omega (arith, length-append fx.old (rows_out z life pre), length_out z life pre)),
        row_left (map (open_row life (Some (g.first - z))) g.items) (rows_out z life post ++ map (open_row life None) x.waiting) k (omega (arith, length-map g.items (open_row life (Some (g.first - z))))),
        row_mapped (open_row life (Some (g.first - z))) g.items k lt,
      )

pub resends : (c : Params) (s : FlowState) (x : SendRecord) (pre post : List Segment) (g : Segment) → 0 < c.mpl → s.sender ≡ Some x → x.outstanding ≡ pre ++ g ∷ post → s.now + s.sender_zero < g.first + c.r → Timed c s
    → TimedKept c s
    (record s {
      sender = Some (record x { touched = s.now + s.sender_zero; outstanding = pre ++ (record g { last = s.now + s.sender_zero }) ∷ post });
      run = run_after s.run (place_of s x 0) s.now (next_of x);
    })
    ((record { kind = Data (leads x g.offset) g.items; number = number_of c g.offset; birth = s.now; place = place_of s x g.offset }) ∷ [])
resends c s x pre post g pos is split within f =
    let fx : SendSide c s.now s.sender_zero s.sender_until s.sender_life s.run s.taken (Some x) = rw is at f.send_side in
    let t = sent_by c s x fx f.receive_side in
    let len = taken_length c s.now s.sender_zero s.sender_until s.sender_life s.run s.taken x fx in
    let next = next_is c s.now s.sender_zero s.sender_until s.sender_life s.run s.taken x fx in
    let chain : Chain x.left (pre ++ g ∷ post) = rw split at fx.record_facts.chain in
    let front : Chain x.left pre = chain_front x.left pre (g ∷ post) chain in
    let rest : Chain (next_from x.left pre) (g ∷ post) = chain_rest x.left pre (g ∷ post) chain in
    let chain' : Chain x.left (pre ++ (record g { last = s.now + s.sender_zero }) ∷ post) = chain_join x.left pre ((record g { last = s.now + s.sender_zero }) ∷ post) front rest in
    let firsts : FirstsFrom s.sender_zero (pre ++ g ∷ post) = rw split at fx.record_facts.firsts in
    let firsts_g : FirstsFrom s.sender_zero (g ∷ post) = firsts_rest s.sender_zero pre (g ∷ post) firsts in
    let firsts' : FirstsFrom s.sender_zero (pre ++ (record g { last = s.now + s.sender_zero }) ∷ post) = firsts_join s.sender_zero pre ((record g { last = s.now + s.sender_zero }) ∷ post) (firsts_front s.sender_zero pre (g ∷ post) firsts) (firsts_g.0, firsts_g.1) in
    let count : items_in x.outstanding ≡ items_in pre + (length g.items + items_in post) = rw split (items_append pre (g ∷ post)) in
    let number : g.offset ≡ x.left + items_in pre = omega (arith, rest.0, chain_next x.left pre front) in
    let place : place_of s x g.offset ≡ length fx.old + items_in pre = omega (arith, len, next) in
    let rows : (p k : ℕ) → p ≡ length fx.old + items_in pre + k → k < length g.items → row_at s.taken p ≡ open_row s.sender_life (Some (g.first - s.sender_zero)) (get_or g.items k no_item) =
    segment_row c s.now s.sender_zero s.sender_until s.sender_life s.run s.taken x pre post g split fx in
    let head : row_at s.taken (place_of s x g.offset) ≡ open_row s.sender_life (Some (g.first - s.sender_zero)) (get_or g.items 0 no_item) = rows (place_of s x g.offset) 0 (omega arith) rest.1 in
    transmits c s x pos f fx (record x { touched = s.now + s.sender_zero; outstanding = pre ++ (record g { last = s.now + s.sender_zero }) ∷ post }) _ chain' firsts' refl refl
    (omega (arith, chain_next x.left (pre ++ (record g { last = s.now + s.sender_zero }) ∷ post) chain', items_append pre ((record g { last = s.now + s.sender_zero }) ∷ post), rest.1))
    (rw (split, out_append s.sender_zero s.sender_life pre (g ∷ post), out_append s.sender_zero s.sender_life pre ((record g { last = s.now + s.sender_zero }) ∷ post)))
    refl
    (made_now c s.now _ t.run s.taken s.given _ pos t.is t.began refl (omega (arith, len)) (rw (t.is) (omega (arith, t.sent)))
    (record {
      some = rest.1;
      first = g.first - s.sender_zero;
      firsts = λ k lt. rw (rows (place_of s x g.offset + k) k (omega arith) lt);
      items_are = λ k lt. rw (rows (place_of s x g.offset + k) k (omega arith) lt);
      after = omega (arith, f.receive_side.first_end (place_of s x g.offset) (g.first - s.sender_zero) (rw head), f.receive_side.sent_now);
      within = omega arith;
    })
    (record {
      offset = g.offset;
      place = omega (arith, t.base);
      number = refl;
      covers = λ drf q from to. covered c s.now s.sender_zero s.sender_life s.run _ fx.old s.taken x t fx.ledger fx.record_facts q from (let first : g.offset ≡ x.left = grind (arith, nat_tests) in omega arith);
    }))

there : (now z : ℕ) → now + z - z ≡ now
there now z = omega arith

-- a cut leaves the waiting items
module _ (c : Params) (now z until life : ℕ) (run : Option Run) (taken : List Taken) (x : SendRecord) (cut rest : List Item) (split : x.waiting ≡ cut ++ rest) (fx : SendSide c now z until life run taken (Some x)) where
  abbrev A : List Taken
  A = fx.old ++ rows_out z life x.outstanding

  abbrev R : List Taken
  R = map (open_row life None) rest

  cut_ledger : taken ≡ A ++ (map (open_row life None) cut ++ R)
  cut_ledger =
      fx.ledger
      ∙ ap (λ rows. fx.old ++ (rows_out z life x.outstanding ++ rows)) (rw (split, map-append (open_row life None) cut rest))
      ∙ sym (append_assoc fx.old (rows_out z life x.outstanding) (map (open_row life None) cut ++ R))

  A_length : length A ≡ length fx.old + items_in x.outstanding
  A_length = omega (arith, length-append fx.old (rows_out z life x.outstanding), length_out z life x.outstanding)

  cut_noted : (place : ℕ) → place ≡ length fx.old + items_in x.outstanding → note_first now place (length cut) taken ≡ A ++ (noted_rows life now cut ++ R)
  cut_noted place e =
      let same : place ≡ length A = omega (arith, A_length) in
      rw (same, cut_ledger) (note_past life now cut A R)

  pub cut_over : (place : ℕ) → place ≡ length fx.old + items_in x.outstanding → KeepsRows taken (note_first now place (length cut) taken)
  cut_over place e = rw (cut_noted place e) (rw cut_ledger (over_note life now cut A R))

  noted_at : (k F : ℕ) → (row_at (noted_rows life now cut ++ R) k).first ≡ Some F → F ≡ now
  noted_at k F h =
      elim (cases_lt k (length cut)) [
        | inl lt ↦
            let e : row_at (noted_rows life now cut ++ R) k ≡ open_row life (Some now) (get_or cut k no_item) =
            row_left (noted_rows life now cut) R k (omega (arith, length-map cut (open_row life (Some now)))) ∙ row_mapped (open_row life (Some now)) cut k lt in
            let f : Some now ≡ Some F = rw e at h in cc
        | inr ge ↦
            let e : row_at (noted_rows life now cut ++ R) k ≡ row_at R (k - length cut) = row_right (noted_rows life now cut) R k (k - length cut) (omega (arith, length-map cut (open_row life (Some now)))) in
            let f = none_waiting life rest (k - length cut) in
            let g = rw e at h in absurd cc
      ]

  pub cut_firsts : (place : ℕ) → place ≡ length fx.old + items_in x.outstanding → (p F : ℕ) → (row_at (note_first now place (length cut) taken) p).first ≡ Some F
      → ((row_at taken p).first ≡ Some F) × (p < place) ⊎ (F ≡ now) × (place ≤ p)
  cut_firsts place e p F h =
      let g = rw (cut_noted place e) at h in
      elim (cases_lt p place) [
        | inl lt ↦
            inl (
              rw (cut_ledger, row_left A (map (open_row life None) cut ++ R) p (omega (arith, A_length))) (rw (row_left A (noted_rows life now cut ++ R) p (omega (arith, A_length))) at g),
              lt,
            )
        | inr ge ↦ inr (noted_at (p - place) F (rw (row_right A (noted_rows life now cut ++ R) p (p - place) (omega (arith, A_length))) at g), ge)
      ]

  -- a place that has a first moment after the cut went out stands before its end
  pub cut_end : (place : ℕ) → place ≡ length fx.old + items_in x.outstanding → (p F : ℕ) → (row_at (note_first now place (length cut) taken) p).first ≡ Some F → p < place + length cut
  cut_end place e p F h =
      elim (cases_lt p (place + length cut)) [
        | inl lt ↦ lt
        | inr ge ↦
            let g = rw (cut_noted place e) at h in
            let right : row_at (A ++ (noted_rows life now cut ++ R)) p ≡ row_at R (p - place - length cut) =
            row_right A (noted_rows life now cut ++ R) p (p - place) (omega (arith, A_length)) ∙ row_right (noted_rows life now cut) R (p - place) (p - place - length cut) (omega (arith, length-map cut (open_row life (Some now)))) in
            let none = none_waiting life rest (p - place - length cut) in
            let f : None ≡ Some F = sym none ∙ ap (λ (r : Taken). r.first) (sym right) ∙ g in
            absurd cc
      ]

  -- and one that had it before stands before the cut
  pub cut_begin : (p F : ℕ) → (row_at taken p).first ≡ Some F → p < length fx.old + items_in x.outstanding
  cut_begin p F h =
      elim (cases_lt p (length fx.old + items_in x.outstanding)) [
        | inl lt ↦ lt
        | inr ge ↦
            let k = p - (length fx.old + items_in x.outstanding) in
            let right : row_at (A ++ (map (open_row life None) cut ++ R)) p ≡ row_at (map (open_row life None) cut ++ R) k = row_right A (map (open_row life None) cut ++ R) p k (omega (arith, A_length)) in
            let joined : map (open_row life None) cut ++ R ≡ map (open_row life None) x.waiting = rw (split, map-append (open_row life None) cut rest) in
            let none = none_waiting life x.waiting k in
            let same : row_at taken p ≡ row_at (map (open_row life None) x.waiting) k = ap (λ (rows : List Taken). row_at rows p) cut_ledger ∙ right ∙ ap (λ (rows : List Taken). row_at rows k) joined in
            let f : None ≡ Some F = sym none ∙ ap (λ (r : Taken). r.first) (sym same) ∙ h in
            absurd cc
      ]

  cut_acked : (place : ℕ) → place ≡ length fx.old + items_in x.outstanding → (p : ℕ) → (row_at (note_first now place (length cut) taken) p).fate ≡ Acked → (row_at taken p).fate ≡ Acked
  cut_acked place e p h =
      let g = rw (cut_noted place e) at h in
      elim (cases_lt p place) [
        | inl lt ↦ rw (cut_ledger, row_left A (map (open_row life None) cut ++ R) p (omega (arith, A_length))) (rw (row_left A (noted_rows life now cut ++ R) p (omega (arith, A_length))) at g)
        | inr ge ↦
            let one : rows_out z life ((record { offset = 0; items = cut; first = now + z; last = now + z }) ∷ []) ≡ noted_rows life now cut = rw (there now z) (append-nil (noted_rows life now cut)) in
            absurd
            (open_not_acked z life ((record { offset = 0; items = cut; first = now + z; last = now + z }) ∷ []) rest (p - place)
            (rw one (rw (row_right A (noted_rows life now cut ++ R) p (p - place) (omega (arith, A_length))) at g)))
      ]

  pub cut_row : (place p k : ℕ) → place ≡ length fx.old + items_in x.outstanding → p ≡ place + k → k < length cut → row_at (note_first now place (length cut) taken) p ≡ open_row life (Some now) (get_or cut k no_item)
  cut_row place p k e at lt =
      rw (
        cut_noted place e,
        row_right A (noted_rows life now cut ++ R) p k (omega (arith, A_length)),
        row_left (noted_rows life now cut) R k (omega (arith, length-map cut (open_row life (Some now)))),
        row_mapped (open_row life (Some now)) cut k lt,
      )

  cut_rows : (n : ℕ) (place : ℕ) → place ≡ length fx.old + items_in x.outstanding
      → note_first now place (length cut) taken ≡ fx.old ++ (rows_out z life (x.outstanding ++ (record { offset = n; items = cut; first = now + z; last = now + z }) ∷ []) ++ R)
  cut_rows n place e =
      cut_noted place e
      ∙ rw (
        out_append z life x.outstanding ((record { offset = n; items = cut; first = now + z; last = now + z }) ∷ []),
        there now z,
        append-nil (noted_rows life now cut),
        append_assoc (rows_out z life x.outstanding) (noted_rows life now cut) R,
        append_assoc fx.old (rows_out z life x.outstanding) (noted_rows life now cut ++ R),
      )

pub sends : (c : Params) (s : FlowState) (x : SendRecord) (cut rest : List Item) → 0 < c.mpl → 0 < c.r → s.sender ≡ Some x → x.waiting ≡ cut ++ rest → 0 < length cut → Timed c s
    → TimedKept c s
    (record s {
      sender = Some (record x { touched = s.now + s.sender_zero; crossed = crossed_after c (s.now + s.sender_zero) x; outstanding = x.outstanding ++ (record { offset = next_of x; items = cut; first = s.now + s.sender_zero; last = s.now + s.sender_zero }) ∷ []; waiting = rest });
      taken = note_first s.now (place_of s x (next_of x)) (length cut) s.taken;
      run = run_after s.run (place_of s x 0) s.now (next_of x);
      crossings = crossings_after c (next_of x) (place_of s x (next_of x)) s.now s.crossings;
    })
    ((record { kind = Data (leads x (next_of x)) cut; number = number_of c (next_of x); birth = s.now; place = place_of s x (next_of x) }) ∷ [])
sends c s x cut rest pos pos_r is split some f =
    let fx : SendSide c s.now s.sender_zero s.sender_until s.sender_life s.run s.taken (Some x) = rw is at f.send_side in
    let t = sent_by c s x fx f.receive_side in
    let len = taken_length c s.now s.sender_zero s.sender_until s.sender_life s.run s.taken x fx in
    let next = next_is c s.now s.sender_zero s.sender_until s.sender_life s.run s.taken x fx in
    let g : Segment = record { offset = next_of x; items = cut; first = s.now + s.sender_zero; last = s.now + s.sender_zero } in
    let place : place_of s x (next_of x) ≡ length fx.old + items_in x.outstanding = omega (arith, len, next) in
    let over = cut_over c s.now s.sender_zero s.sender_until s.sender_life s.run s.taken x cut rest split fx (place_of s x (next_of x)) place in
    let chain : Chain x.left (x.outstanding ++ g ∷ []) = chain_join x.left x.outstanding (g ∷ []) fx.record_facts.chain (refl, some, tt) in
    let x' : SendRecord = record x { touched = s.now + s.sender_zero; crossed = crossed_after c (s.now + s.sender_zero) x; outstanding = x.outstanding ++ g ∷ []; waiting = rest } in
    let more : 0 < next_of x' = omega (arith, chain_next x.left (x.outstanding ++ g ∷ []) chain, items_append x.outstanding (g ∷ [])) in
    let fresh : Sending s.sender_zero s.sender_life t.run x' fx.old s.taken = sending_sent c s.now s.sender_zero s.sender_life s.run _ fx.old s.taken x x' t fx.ledger fx.record_facts refl refl in
    let within : length fx.old ≤ length s.taken = omega (arith, len) in
    let rest_ok = rest_sent c s.now s.receiver_zero s.receiver_until s.sender_life s.run _ fx.old s.taken s.given x s.receiver t f.receive_side in
    record {
      facts = record {
        send_side = record {
          old = fx.old;
          ledger = cut_rows c s.now s.sender_zero s.sender_until s.sender_life s.run s.taken x cut rest split fx (next_of x) (place_of s x (next_of x)) place;
          past = fx.past;
          lives = rw (note_lives s.now (place_of s x (next_of x)) (length cut) s.taken) fx.lives;
          record_facts = record {
            chain = chain;
            firsts = firsts_join s.sender_zero x.outstanding (g ∷ []) fx.record_facts.firsts (omega arith, tt);
            touched = omega arith;
            edge = λ h. absurd (omega (arith, more));
            fresh = λ h. absurd (omega (arith, more));
            sending = λ h. (t.run, t.is, sending_over s.sender_zero s.sender_life t.run x' x' fx.old s.taken _ over (λ p ge to. absurd (omega (arith, note_length s.now (place_of s x (next_of x)) (length cut) s.taken))) within refl refl fresh);
          };
        };
        receive_side = rest_noted c s.now s.receiver_zero s.receiver_until s.sender_life (place_of s x (next_of x)) _ s.taken _ s.given s.receiver over (rw (t.is) (omega (arith, t.sent)))
            (cut_firsts c s.now s.sender_zero s.sender_until s.sender_life s.run s.taken x cut rest split fx (place_of s x (next_of x)) place)
            (λ p e. f.receive_side.acked p (cut_acked c s.now s.sender_zero s.sender_until s.sender_life s.run s.taken x cut rest split fx (place_of s x (next_of x)) place p e))
            rest_ok;
      };
      packets = packet_sent c s.now s.run _ fx.old s.taken _ s.given x pos t over;
      made_fit = (
        made_now c s.now _ t.run _ s.given _ pos t.is t.began refl (omega (arith, len, over_length s.taken _ over)) (rw (t.is) (omega (arith, t.sent)))
            (record {
              some = some;
              first = s.now;
              firsts = λ k lt. rw (cut_row c s.now s.sender_zero s.sender_until s.sender_life s.run s.taken x cut rest split fx (place_of s x (next_of x)) (place_of s x (next_of x) + k) k place (omega arith) lt);
              items_are = λ k lt. rw (cut_row c s.now s.sender_zero s.sender_until s.sender_life s.run s.taken x cut rest split fx (place_of s x (next_of x)) (place_of s x (next_of x) + k) k place (omega arith) lt);
              after = omega arith;
              within = omega arith;
            })
            (record {
              offset = next_of x;
              place = omega (arith, t.base);
              number = refl;
              covers = λ drf q from to.
                  let first : next_of x ≡ x.left = grind (arith, nat_tests) in
                  over_done s.taken _ over q (omega (arith, len)) (covered c s.now s.sender_zero s.sender_life s.run _ fx.old s.taken x t fx.ledger fx.record_facts q from (omega arith));
            }),
        tt,
      );
    }
