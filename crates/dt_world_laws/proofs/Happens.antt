-- Octets are sent or read at a station: small steps of one flow.
use Rattle.std.proofs.Common.{ℕ, zero, suc, ◌≤◌, ◌≡◌, ◌==◌, Bool, true, false, List, [], ◌∷◌, length, Option, Some, None, refl, sym, ap, subst, inl, inr, ◌∙◌, arith}
use Rattle.std.specs.Prelude.{nat_lt, unwrap_or}
use Rattle.std.specs.List.{All}
use Rattle.std.proofs.lemmas.Bool.{cases_Bool}
use Rattle.std.proofs.lemmas.Bool.Decides.{nat_tests}
use Rattle.std.proofs.lemmas.List.Elements.{All-nil, All-cons}
use Rattle.dt_items.specs.declared.item.Item.{Item}
use Rattle.dt_items.specs.Unread.{marked, octets_of, first_piece, following, goes_on}
use Rattle.dt_items.specs.Unread as unread
use Rattle.dt_units.specs.declared.parameters.Params.{Params}
use Rattle.dt_units.specs.declared.endpoints.Flow.{Flow}
use Rattle.dt_units.specs.Limits.{IsWithinLimits}
use Rattle.dt_reports.specs.Told.{Told}
use Rattle.dt_reports.specs.declared.reports.Report.TheVariants as words
use Rattle.dt_reports.specs.declared.faults.Refusal.TheVariants as refusal
use Rattle.dt_flow_model.specs.Acting.{after_taking, after_reading, record_for}
use Rattle.dt_flow_model.specs.Facts.{Facts}
use Rattle.dt_flow_model.specs.Flow.{FlowState}
use Rattle.dt_flow_model.specs.SendRecord.{SendRecord, fits, put, room_of}
use Rattle.dt_flow_model.specs.ReceiveRecord.{Receiver, after_read}
use Rattle.dt_flow_laws.proofs.ArrivalSteps.{read_step}
use Rattle.dt_world_laws.proofs.Lifting.{no_lift}
use Rattle.dt_flow_model.proofs.Chosen.{le_true}
use Rattle.dt_flow_model.proofs.Records.{new_kept, put_kept}
use Rattle.dt_flow_laws.proofs.Records.{none_kept, read_kept}
use Rattle.dt_flow_laws.proofs.Laws.{taking_is_steps}
use Rattle.dt_world_model.specs.Tables.{same_flow, look}
use Rattle.dt_flow_model.specs.Frames.{Mark}
use Rattle.dt_world_model.specs.Host.{Host, IsHost, IsReceiver, IsSender, read_piece, receiver_at, send_octets, sender_at, host_with_receiver, host_with_sender, no_receiver}
use Rattle.dt_units.specs.Flows.{IsFlow}
use Rattle.dt_flow_model.specs.Keeping.{HasNoRun}
use Rattle.dt_world_model.specs.Script.{play}
use Rattle.dt_world_model.specs.Station.{Station, Send, Read, station_with, happen, told_piece, told_sent}
use Rattle.dt_world_laws.proofs.Books.{Book, Cause, Octets, book_of, books_after, flow_state}
use Rattle.dt_world_model.specs.Ledgers.{Ledgers, Neither, effect_of}
use Rattle.dt_world_model.specs.World.{World, Noted, world_handler, note_told, placed}
use Rattle.dt_world_model.proofs.Tables.{all_look, all_set, distinct_set, flow_is, flow_self, nat_self}
use Rattle.dt_world_laws.proofs.Views.{begins_here, book_told, book_told_other, flow_by, near_sender, near_or_receiver, sender_set, sender_set_other, views}
use Rattle.dt_world_laws.proofs.Received.{follows_reading, follows_taking}
use Rattle.dt_world_laws.proofs.Good.{Good, Kept, Leads, Moves, good_moves, moves_lifts, moves_on, step_keeps, steps_keep, reading, stage}
use Rattle.dt_world_laws.proofs.Turns.{given_state, given_facts_now, receiver_steps}

module _ (w : World) (n : ℕ) (cause : Cause) where
  -- what is reported of no flow's ledger changes nothing
  pub silent : (st : Station Mark) (d : Noted) (told : Told) → Good w n cause st d → effect_of told ≡ Neither → Leads w n cause st d (note_told (stage w n cause) told d, st)
  silent st d told good e =
      let d' = note_told (stage w n cause) told d in
      let books : d'.ledgers ≡ d.ledgers = rw e refl in
      let g : Good w n cause st (record { ledgers = d.ledgers; copies = d'.copies; lines = d'.lines }) = record { me = good.me; host = good.host; flows = good.flows; outs = good.outs; copies = good.copies } in
      let k : Leads w n cause st d (record { ledgers = d.ledgers; copies = d'.copies; lines = d'.lines }, st) = record { good = g; on = λ g q z. z; lifts = λ f. no_lift w.params (views w n st.host d.ledgers f); until = refl; ins = refl; routes = refl } in
      subst (λ (bs : Ledgers). Leads w n cause st d (record { ledgers = bs; copies = d'.copies; lines = d'.lines }, st)) (sym books) k

-- OCTETS ARE SENT

pub marked_no_run : (octets : List ℕ) (begin end : Bool) → All HasNoRun (marked octets begin end false)
marked_no_run [] begin end = All-nil HasNoRun
marked_no_run (o ∷ []) begin end = All-cons HasNoRun _ [] refl (All-nil HasNoRun)
marked_no_run (o ∷ o' ∷ os) begin end = All-cons HasNoRun _ _ refl (marked_no_run (o' ∷ os) false end)

not_lt : (m n : ℕ) → nat_lt m n ≡ false → n ≤ m
not_lt m n h = grind (arith, nat_tests)

-- the flow where it begins, the record that its octets go to, and the host with that record
abbrev pub taking_state : World → ℕ → Station Mark → Noted → Flow → FlowState
taking_state w n st d f = flow_state w.now (near_sender w n st.host.until (sender_at st.host f)) (near_or_receiver w n st.host.until (receiver_at st.host f) f) (book_of d.ledgers f)

abbrev pub taking_record : World → ℕ → List Item → Station Mark → Flow → SendRecord
taking_record w n items st f = record_for w.params (reading w n (Octets items)) (sender_at st.host f)

abbrev pub taking_host : World → ℕ → List Item → Station Mark → Flow → Host
taking_host w n items st f = host_with_sender st.host f (Some (put items (taking_record w n items st f)))

abbrev pub taking_books : World → ℕ → List Item → Noted → Flow → ℕ → Ledgers
taking_books w n items d f count = books_after w.params w.now (placed w n).life (Octets items) (words.Took f count) d.ledgers

module _ (w : World) (n : ℕ) (items : List Item) (st : Station Mark) (d : Noted) (good : Good w n (Octets items) st d) (f : Flow) (from : f.from.0 ≡ n) where
  begins : (n == f.from.0) ≡ true
  begins = rw from (nat_self n)

  pub taking_before : views w n st.host d.ledgers f ≡ taking_state w n st d f
  taking_before = begins_here w n st.host.until (sender_at st.host f) (receiver_at st.host f) (book_of d.ledgers f) f begins

  -- the flow takes the octets, and no other is touched
  pub taking_after : (count : ℕ) → views w n (taking_host w n items st f) (taking_books w n items d f count) f ≡ after_taking w.params (taking_state w n st d f) items
  taking_after count =
      let told = words.Took f count in
      let host = taking_host w n items st f in
      let books = taking_books w n items d f count in
      begins_here w n host.until (sender_at host f) (receiver_at host f) (book_of books f) f begins
      ∙ ap (λ (o : Option SendRecord). flow_state w.now (near_sender w n st.host.until o) (near_or_receiver w n st.host.until (receiver_at st.host f) f) (book_of books f)) (sender_set st.host f (Some (put items (taking_record w n items st f))) good.host.one_sender)
      ∙ ap (λ (b : Book). flow_state w.now (near_sender w n st.host.until (Some (put items (taking_record w n items st f)))) (near_or_receiver w n st.host.until (receiver_at st.host f) f) b) (book_told w.params w.now (placed w n).life (Octets items) told d.ledgers f (inl (_, refl)))
      ∙ follows_taking w.params (taking_state w n st d f) f items count

  pub taking_others : (count : ℕ) (g : Flow) → same_flow f g ≡ false → views w n (taking_host w n items st f) (taking_books w n items d f count) g ≡ views w n st.host d.ledgers g
  taking_others count g apart =
      ap (λ (o : Option SendRecord). flow_by w n st.host.until o (receiver_at st.host g) (book_of (taking_books w n items d f count) g) g) (sender_set_other st.host f (Some (put items (taking_record w n items st f))) g apart)
      ∙ ap (λ (b : Book). flow_by w n st.host.until (sender_at st.host g) (receiver_at st.host g) b g) (book_told_other w.params w.now (placed w n).life (Octets items) (words.Took f count) d.ledgers f g (inl (_, refl)) apart)

module _ (w : World) (n : ℕ) (items : List Item) (limits : IsWithinLimits w.params) (st : Station Mark) (d : Noted) (good : Good w n (Octets items) st d) (f : Flow) (flow : IsFlow f) (from : f.from.0 ≡ n) (plain : All HasNoRun items) where
  abbrev p : Params
  p = w.params

  abbrev s : FlowState
  s = taking_state w n st d f

  abbrev x : SendRecord
  x = taking_record w n items st f

  for_is : (o : Option SendRecord) → look same_flow f st.host.senders ≡ o → IsSender p st.host.me f (record_for p (reading w n (Octets items)) o)
  for_is None e = record { flow = flow; from = from ∙ sym good.me; kept = new_kept p (reading w n (Octets items)) limits }
  for_is (Some y) e = all_look Flow SendRecord same_flow flow_self flow_is (IsSender p st.host.me) f y st.host.senders e good.host.senders

  put_is : fits p x (length items) ≡ true → IsSender p st.host.me f (put items x)
  put_is room = let h = for_is (sender_at st.host f) refl in record { flow = h.flow; from = h.from; kept = put_kept p x items h.kept plain (le_true _ _ room) }

  taken_leads : (count : ℕ) → st.host.until ≤ reading w n (Octets items) → fits p x (length items) ≡ true → Leads w n (Octets items) st d (note_told (stage w n (Octets items)) (words.Took f count) d, station_with (host_with_sender st.host f (Some (put items x))) st.relay)
  taken_leads count awake room =
      let told = words.Took f count in
      let host = host_with_sender st.host f (Some (put items x)) in
      let d' = note_told (stage w n (Octets items)) told d in
      let books = books_after w.params w.now (placed w n).life (Octets items) told d.ledgers in
      let before : views w n st.host d.ledgers f ≡ s = taking_before w n items st d good f from in
      let after : views w n host books f ≡ after_taking p s items = taking_after w n items st d good f from count in
      let facts : Facts p s = subst (λ (t : FlowState). Facts p t) before (good.flows f) in
      let kept : Kept p s (after_taking p s items) [] = steps_keep p s (after_taking p s items) [] limits (taking_is_steps p s items limits awake room) facts in
      let m : Moves p (views w n st.host d.ledgers) (views w n host books) f [] =
      record {
        kept = subst (λ (t : FlowState). Kept p t (views w n host books f) []) (sym before) (subst (λ (t : FlowState). Kept p s t []) (sym after) kept);
        others = taking_others w n items st d good f from count;
      } in
      let is : IsHost p host =
      record {
        one_sender = distinct_set Flow SendRecord same_flow flow_self flow_is f (Some (put items x)) st.host.senders good.host.one_sender;
        one_receiver = good.host.one_receiver;
        senders = all_set Flow SendRecord same_flow flow_self flow_is (IsSender p st.host.me) f (Some (put items x)) st.host.senders (λ y e. let same : put items x ≡ y = cc in subst (λ (y : SendRecord). IsSender p st.host.me f y) same (put_is room)) good.host.senders;
        receivers = good.host.receivers;
      } in
      record {
        good = good_moves w n (Octets items) st d d' host f [] good is good.me refl m;
        on = moves_on p (views w n st.host d.ledgers) (views w n host books) f [] m;
        lifts = moves_lifts p (views w n st.host d.ledgers) (views w n host books) f [] m;
        until = refl;
        ins = refl;
        routes = refl;
      }

  pub send_leads : (octets : List ℕ) (begin end : Bool) → items ≡ marked octets begin end false → Leads w n (Octets items) st d (play (world_handler (stage w n (Octets items))) (happen p (reading w n (Octets items)) (Send f octets begin end) st) d)
  send_leads octets begin end e =
      subst (λ (is : List Item). let r = send_octets p (reading w n (Octets items)) f is st.host in Leads w n (Octets items) st d (note_told (stage w n (Octets items)) (told_sent f (length octets) r.0) d, station_with r.1 st.relay)) e
      (elim (cases_Bool (nat_lt (reading w n (Octets items)) st.host.until)) [
        | inl y ↦ rw y (silent w n (Octets items) st d (words.Refused f (refusal.Quiet st.host.until)) good refl)
        | inr o ↦
            rw o
            (elim (cases_Bool (fits p x (length items))) [
              | inl y ↦ rw y (taken_leads (length octets) (not_lt _ _ o) y)
              | inr q ↦ rw q (silent w n (Octets items) st d (words.Refused f (refusal.Full (room_of p x))) good refl)
            ])
      ])

-- OCTETS ARE READ

following_within : (n : ℕ) (before : Item) (items : List Item) → length (following n before items) ≤ length items
following_within n before [] = omega arith
following_within zero before (i ∷ is) = omega arith
following_within (suc n) before (i ∷ is) = elim (cases_Bool (goes_on before i)) [ inl y ↦ rw y (let k = following_within n i is in omega (arith, k)) | inr o ↦ rw o (omega arith) ]

piece_within : (n : ℕ) (items : List Item) → length (first_piece n items) ≤ length items
piece_within n [] = omega arith
piece_within zero (i ∷ is) = omega arith
piece_within (suc n) (i ∷ is) = let k = following_within n i is in omega (arith, k)

module _ (w : World) (n : ℕ) (cause : Cause) (limits : IsWithinLimits w.params) (st : Station Mark) (d : Noted) (good : Good w n cause st d) (f : Flow) (flow : IsFlow f) (to : f.to.0 ≡ n) where
  r-here : (n == f.to.0) ≡ true
  r-here = rw to (nat_self n)

  entry_is : (o : Option Receiver) → look same_flow f st.host.receivers ≡ o → IsReceiver w.params st.host.me f (unwrap_or o no_receiver)
  entry_is None e = record { flow = flow; to = to ∙ sym good.me; kept = none_kept w.params }
  entry_is (Some r) e = all_look Flow Receiver same_flow flow_self flow_is (IsReceiver w.params st.host.me) f r st.host.receivers e good.host.receivers

  -- the receiver of a flow that ends here
  pub receiver_is : IsReceiver w.params st.host.me f (receiver_at st.host f)
  receiver_is = entry_is (look same_flow f st.host.receivers) refl

  read_piece_leads : (piece : List Item) → length piece ≤ length (receiver_at st.host f).unread
      → let r = read_piece w.params (reading w n cause) f piece st.host in Leads w n cause st d (note_told (stage w n cause) (told_piece f (octets_of r.0) (unread.piece_told r.0)) d, station_with r.1 st.relay)
  read_piece_leads [] within = silent w n cause st d (words.Nothing f) good refl
  read_piece_leads (i ∷ is) within =
      let s = given_state w n cause limits st d good f r-here in
      let after = after_read w.params (reading w n cause) (length (i ∷ is)) (receiver_at st.host f) in
      let told = told_piece f (octets_of (i ∷ is)) (unread.piece_told (i ∷ is)) in
      let kept : Kept w.params s (after_reading w.params s (length (i ∷ is))) [] =
      step_keeps w.params s (after_reading w.params s (length (i ∷ is))) [] [] limits (read_step w.params s (length (i ∷ is)) within) (given_facts_now w n cause limits st d good f r-here) tt in
      let is' : IsReceiver w.params st.host.me f after = record { flow = flow; to = to ∙ sym good.me; kept = read_kept w.params (reading w n cause) (length (i ∷ is)) (receiver_at st.host f) receiver_is.kept } in
      let g = receiver_steps w n cause limits st d good f r-here after told (after_reading w.params s (length (i ∷ is))) [] (inl (_, refl)) is' (follows_reading w.params s f cause i.run i.begin (unread.last_item i is).end (i ∷ is)) kept in
      record {
        good = g.0;
        on = moves_on w.params (views w n st.host d.ledgers) (views w n (host_with_receiver st.host f after) (note_told (stage w n cause) told d).ledgers) f [] g.1;
        lifts = moves_lifts w.params (views w n st.host d.ledgers) (views w n (host_with_receiver st.host f after) (note_told (stage w n cause) told d).ledgers) f [] g.1;
        until = refl;
        ins = refl;
        routes = refl;
      }

  pub read_leads : (most : ℕ) → Leads w n cause st d (play (world_handler (stage w n cause)) (happen w.params (reading w n cause) (Read f most) st) d)
  read_leads most = read_piece_leads (first_piece most (receiver_at st.host f).unread) (piece_within most (receiver_at st.host f).unread)
