-- What is reported of octets that are sent and read at a station passes.
use Rattle.std.proofs.Common.{ℕ, suc, ◌≡◌, ◌==◌, Bool, true, false, List, [], ◌∷◌, length, Some, refl, sym, ap, subst, inl, inr, ◌∙◌, ◌<◌, ◌^◌, arith}
use Rattle.std.specs.Prelude.{nat_lt}
use Rattle.std.proofs.lemmas.Bool.{cases_Bool}
use Rattle.dt_items.specs.declared.item.Item.{Item}
use Rattle.dt_items.specs.Unread.{first_piece, last_item, marked, octets_of, piece_told}
use Rattle.dt_units.specs.declared.endpoints.Flow.{Flow}
use Rattle.dt_units.specs.Flows.{IsFlow}
use Rattle.dt_units.specs.Limits.{IsWithinLimits}
use Rattle.dt_flow_model.proofs.Chosen.{le_true}
use Rattle.dt_reports.specs.declared.reports.Report.TheVariants as report
use Rattle.dt_reports.specs.declared.faults.Refusal.TheVariants as refusal
use Rattle.dt_flow_model.specs.Acting.{after_reading, after_taking}
use Rattle.dt_flow_model.specs.Flow.{FlowState}
use Rattle.dt_flow_model.specs.Frames.{Mark}
use Rattle.dt_flow_model.specs.ReceiveRecord.{after_read}
use Rattle.dt_flow_model.specs.SendRecord.{SendRecord, fits, put, room_of}
use Rattle.dt_world_model.specs.Host.{host_with_receiver, host_with_sender, read_piece, receiver_at, send_octets}
use Rattle.dt_world_model.specs.Script.{play}
use Rattle.dt_world_model.specs.Station.{Station, Read, Send, happen, told_piece, told_sent}
use Rattle.dt_world_model.specs.World.{Noted, World, note_told, placed, world_handler}
use Rattle.dt_world_model.proofs.Tables.{nat_self}
use Rattle.dt_world_laws.proofs.Books.{Cause, Octets, books_after}
use Rattle.dt_world_laws.proofs.Good.{Good, reading, stage}
use Rattle.dt_world_laws.proofs.Happens.{taking_after, taking_before, taking_others, taking_record, taking_state}
use Rattle.dt_world_laws.proofs.Received.{follows_reading}
use Rattle.dt_world_laws.proofs.Turns.{given_is, given_state, receiver_apart, receiver_moved}
use Rattle.dt_world_laws.proofs.Views.{views}
use Rattle.dt_audit.specs.Books as books
use Rattle.dt_audit.specs.LogRows.{FlowLog}
use Rattle.dt_audit_laws.specs.Following.{Followed, FollowsFlow}
use Rattle.dt_audit_laws.specs.Logs.{LogOf}
use Rattle.dt_audit_laws.specs.Telling.{changes_told}
use Rattle.dt_audit_laws.proofs.Acting.{Logs, mute_told, report_logs}
use Rattle.dt_audit_laws.proofs.Keeping.{same_follows}
use Rattle.dt_audit_laws.proofs.Reports.{taking_passes}
use Rattle.dt_audit_laws.proofs.SmallSteps as small

pub marked_length : (octets : List ℕ) (begin end run : Bool) → length octets ≡ length (marked octets begin end run)
marked_length [] begin end run = refl
marked_length (o ∷ []) begin end run = refl
marked_length (o ∷ o' ∷ os) begin end run = ap (λ (k : ℕ). suc k) (marked_length (o' ∷ os) false end false)

-- OCTETS ARE SENT
module _ (w : World) (n : ℕ) (items : List Item) (start : books.Book FlowLog) (limits : IsWithinLimits w.params) (st : Station Mark) (d : Noted) (good : Good w n (Octets items) st d) (f : Flow) (flow : IsFlow f) (from : f.from.0 ≡ n) (log : Logs w n (Octets items) start st d) where
  abbrev s : FlowState
  s = taking_state w n st d f

  abbrev x : SendRecord
  x = taking_record w n items st f

  taken_logs : (count : ℕ) → count ≡ length items → count < 2 ^ 32 → LogOf w.params (views w n (host_with_sender st.host f (Some (put items x))) (note_told (stage w n (Octets items)) (report.Took f count) d).ledgers) start (note_told (stage w n (Octets items)) (report.Took f count) d).lines
  taken_logs count same room =
      let p = w.params in
      let told = report.Took f count in
      let host = host_with_sender st.host f (Some (put items x)) in
      let books = books_after w.params w.now (placed w n).life (Octets items) told d.ledgers in
      let before : views w n st.host d.ledgers f ≡ s = taking_before w n items st d good f from in
      let after : views w n host books f ≡ after_taking p s items = taking_after w n items st d good f from count in
      report_logs w n (Octets items) start st d host f told log (flow, room) refl
      (taking_others w n items st d good f from count)
      (λ flow_log follows.
      subst (λ (t : FlowState). Followed p t (views w n host books f) (changes_told n told) flow_log) (sym before)
      (subst (λ (t : FlowState). Followed p s t (changes_told n told) flow_log) (sym after)
      (subst (λ (k : ℕ). Followed p s (after_taking p s items) (changes_told n (report.Took f k)) flow_log) (sym same)
      (taking_passes p s f n items flow_log (subst (λ (t : FlowState). FollowsFlow p t flow_log) before follows)))))

  pub send_logs : (octets : List ℕ) (begin end : Bool) → items ≡ marked octets begin end false → let r = play (world_handler (stage w n (Octets items))) (happen w.params (reading w n (Octets items)) (Send f octets begin end) st) d in Logs w n (Octets items) start r.1 r.0
  send_logs octets begin end e =
      let c = Octets items in
      let count : length octets ≡ length items = marked_length octets begin end false ∙ ap (λ (is : List Item). length is) (sym e) in
      subst (λ (is : List Item). let r = send_octets w.params (reading w n c) f is st.host in LogOf w.params (views w n r.1 (note_told (stage w n c) (told_sent f (length octets) r.0) d).ledgers) start (note_told (stage w n c) (told_sent f (length octets) r.0) d).lines) e
      (elim (cases_Bool (nat_lt (reading w n c) st.host.until)) [
        | inl y ↦ rw y (mute_told w n c start st d st.host (report.Refused f (refusal.Quiet st.host.until)) (tt, λ node. refl) log)
        | inr o ↦
            rw o
            (elim (cases_Bool (fits w.params x (length items))) [
              | inl y ↦ rw y (taken_logs (length octets) count (let le = le_true _ _ y in omega (arith, le, count, limits.cap)))
              | inr q ↦ rw q (mute_told w n c start st d st.host (report.Refused f (refusal.Full (room_of w.params x))) (tt, λ node. refl) log)
            ])
      ])

-- OCTETS ARE READ
module _ (w : World) (n : ℕ) (cause : Cause) (start : books.Book FlowLog) (limits : IsWithinLimits w.params) (st : Station Mark) (d : Noted) (good : Good w n cause st d) (f : Flow) (to : f.to.0 ≡ n) (log : Logs w n cause start st d) where
  r-here : (n == f.to.0) ≡ true
  r-here = rw to (nat_self n)

  piece_logs : (piece : List Item) → let r = read_piece w.params (reading w n cause) f piece st.host in let told = told_piece f (octets_of r.0) (piece_told r.0) in
      LogOf w.params (views w n r.1 (note_told (stage w n cause) told d).ledgers) start (note_told (stage w n cause) told d).lines
  piece_logs [] = mute_told w n cause start st d st.host (report.Nothing f) (tt, λ node. refl) log
  piece_logs (i ∷ is) =
      let p = w.params in
      let s = given_state w n cause limits st d good f r-here in
      let after = after_read p (reading w n cause) (length (i ∷ is)) (receiver_at st.host f) in
      let told = told_piece f (octets_of (i ∷ is)) (piece_told (i ∷ is)) in
      let before : views w n st.host d.ledgers f ≡ s = given_is w n cause limits st d good f r-here in
      let now : views w n (host_with_receiver st.host f after) (note_told (stage w n cause) told d).ledgers f ≡ after_reading p s (length (i ∷ is)) =
      receiver_moved w n cause limits st d good f r-here after told (inl (_, refl)) ∙ follows_reading p s f cause i.run i.begin (last_item i is).end (i ∷ is) in
      report_logs w n cause start st d (host_with_receiver st.host f after) f told log tt tt (λ g apart. receiver_apart w n cause limits st d good f r-here after told g (inl (_, refl)) apart)
      (λ flow_log follows.
      subst (λ (t : FlowState). Followed p t (views w n (host_with_receiver st.host f after) (note_told (stage w n cause) told d).ledgers f) [] flow_log) (sym before)
      (subst (λ (t : FlowState). Followed p s t [] flow_log) (sym now)
      (let here : FollowsFlow p s flow_log = subst (λ (t : FlowState). FollowsFlow p t flow_log) before follows in
      small.silent p s (after_reading p s (length (i ∷ is))) flow_log (same_follows p s (after_reading p s (length (i ∷ is))) flow_log refl refl refl here.numbered here))))

  pub read_logs : (most : ℕ) → let r = play (world_handler (stage w n cause)) (happen w.params (reading w n cause) (Read f most) st) d in Logs w n cause start r.1 r.0
  read_logs most = piece_logs (first_piece most (receiver_at st.host f).unread)
