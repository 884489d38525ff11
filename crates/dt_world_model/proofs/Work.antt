-- Each act lowers the work that is left at its moment, so a settled host has no act due.
use Rattle.std.proofs.Common.{ℕ, ◌+◌, ◌<◌, ◌≤◌, ◌≡◌, Bool, true, false, List, [], ◌∷◌, ◌++◌, length, Option, Some, None, refl, ap, subst, inl, inr, ◌∙◌, arith, length-append}
use Rattle.std.specs.Prelude.{is_some, nat_le, if◌then◌else◌, unwrap_or}
use Rattle.dt_world_model.specs.Host.{no_receiver, Host, HostAct, send_act, recv_act, IsHost, Turn, kept_if, next_turn, one_if, record_work, segment_work, standing_work, turn_of, work}
use Rattle.std.proofs.lemmas.Bool.{cases_Bool}
use Rattle.std.proofs.lemmas.Bool.Decides.{nat_tests}
use Rattle.dt_items.specs.declared.item.Item.{Item}
use Rattle.dt_units.specs.declared.parameters.Params.{Params}
use Rattle.dt_units.specs.declared.endpoints.Flow.{Flow}
use Rattle.dt_units.specs.Limits.{IsWithinLimits}
use Rattle.dt_units.specs.Times.{send_time}
use Rattle.dt_flow_model.specs.declared.acts.RecvKind.{RecvKind}
use Rattle.dt_flow_model.specs.declared.acts.RecvKind.TheVariants as K
use Rattle.dt_flow_model.specs.SendRecord.{Segment, SendRecord, next_of}
use Rattle.dt_flow_model.specs.SendActs.{Act, IsDue, give_up, release, renew, resend, send, meet, record_after}
use Rattle.dt_flow_model.specs.ReceiveRecord.{ReceiveRecord, Receiver, after_recv_act, free_of, recv_due_of, owing, standing_told}
use Rattle.dt_units.specs.Times.{receive_time}
use Rattle.dt_flow_model.proofs.Chosen.{act_is_due, cut_whole, true_le}
use Rattle.dt_world_model.specs.Tables.{same_flow, look, total, write_or_erase}
use Rattle.dt_world_model.proofs.Offers.{IsOf, next_turn_is}

not_yet : (now k : ℕ) → 0 < k → nat_le (now + k) now ≡ false
not_yet now k h = grind (arith, nat_tests)

-- TABLES

abbrev senders_work : Params → ℕ → List (Flow × SendRecord) → ℕ
senders_work p now es = total (λ (e : Flow × SendRecord). record_work p now e.1) es

abbrev receivers_work : List (Flow × Receiver) → ℕ
receivers_work es = total (λ (e : Flow × Receiver). standing_work e.1.standing) es

abbrev segments_work : Params → ℕ → List Segment → ℕ
segments_work p now gs = total (segment_work p now) gs

abbrev sender_work : Params → ℕ → Option SendRecord → ℕ
sender_work p now None = 0
sender_work p now (Some x) = record_work p now x

senders_set : (p : Params) (now : ℕ) (f : Flow) (x : SendRecord) (o : Option SendRecord) (es : List (Flow × SendRecord)) → look same_flow f es ≡ Some x → senders_work p now (write_or_erase same_flow f o es) + record_work p now x ≡ senders_work p now es + sender_work p now o
senders_set p now f x o [] e = absurd cc
senders_set p now f x None (s ∷ es) e =
    elim (cases_Bool (same_flow s.0 f)) [
      | inl y ↦ let found : Some s.1 ≡ Some x = rw y at e in let same : s.1 ≡ x = cc in let k : record_work p now s.1 ≡ record_work p now x = ap (record_work p now) same in rw y (omega (arith, k))
      | inr n ↦ let found : look same_flow f es ≡ Some x = rw n at e in let k = senders_set p now f x None es found in rw n (omega (arith, k))
    ]
senders_set p now f x (Some x') (s ∷ es) e =
    elim (cases_Bool (same_flow s.0 f)) [
      | inl y ↦ let found : Some s.1 ≡ Some x = rw y at e in let same : s.1 ≡ x = cc in let k : record_work p now s.1 ≡ record_work p now x = ap (record_work p now) same in rw y (omega (arith, k))
      | inr n ↦ let found : look same_flow f es ≡ Some x = rw n at e in let k = senders_set p now f x (Some x') es found in rw n (omega (arith, k))
    ]

abbrev receiver_work : Option Receiver → ℕ
receiver_work None = 0
receiver_work (Some r) = standing_work r.standing

receivers_set : (f : Flow) (r : Receiver) (o : Option Receiver) (es : List (Flow × Receiver)) → look same_flow f es ≡ Some r → receivers_work (write_or_erase same_flow f o es) + standing_work r.standing ≡ receivers_work es + receiver_work o
receivers_set f r o [] e = absurd cc
receivers_set f r None (s ∷ es) e =
    elim (cases_Bool (same_flow s.0 f)) [
      | inl y ↦ let found : Some s.1 ≡ Some r = rw y at e in let same : s.1 ≡ r = cc in let k : standing_work s.1.standing ≡ standing_work r.standing = ap (λ (q : Receiver). standing_work q.standing) same in rw y (omega (arith, k))
      | inr n ↦ let found : look same_flow f es ≡ Some r = rw n at e in let k = receivers_set f r None es found in rw n (omega (arith, k))
    ]
receivers_set f r (Some r') (s ∷ es) e =
    elim (cases_Bool (same_flow s.0 f)) [
      | inl y ↦ let found : Some s.1 ≡ Some r = rw y at e in let same : s.1 ≡ r = cc in let k : standing_work s.1.standing ≡ standing_work r.standing = ap (λ (q : Receiver). standing_work q.standing) same in rw y (omega (arith, k))
      | inr n ↦ let found : look same_flow f es ≡ Some r = rw n at e in let k = receivers_set f r (Some r') es found in rw n (omega (arith, k))
    ]

kept_work : (unread : List Item) (standing : Option ReceiveRecord) → receiver_work (kept_if unread standing) ≡ standing_work standing
kept_work [] None = refl
kept_work [] (Some y) = refl
kept_work (i ∷ is) None = refl
kept_work (i ∷ is) (Some y) = refl

-- RECORDS

segments_append : (p : Params) (now : ℕ) (xs ys : List Segment) → segments_work p now (xs ++ ys) ≡ segments_work p now xs + segments_work p now ys
segments_append p now [] ys = omega arith
segments_append p now (x ∷ xs) ys = let k = segments_append p now xs ys in omega (arith, k)

one_at_most : (b : Bool) → one_if b ≤ 1
one_at_most true = omega arith
one_at_most false = omega arith

due_one : (b : Bool) → b ≡ true → one_if b ≡ 1
due_one b e = rw e refl

not_due : (b : Bool) → b ≡ false → one_if b ≡ 0
not_due b e = rw e refl

abbrev rank_in : Option (RecvKind × ℕ) → ℕ
rank_in None = 0
rank_in (Some (K.Release, m)) = 1
rank_in (Some (K.Ack, m)) = 2

module _ (p : Params) (limits : IsWithinLimits p) (now : ℕ) where
  fresh_send : one_if (nat_le (now + send_time p) now) ≡ 0
  fresh_send = not_due _ (not_yet now (send_time p) (omega (arith, limits.mpl)))

  fresh_probe : one_if (nat_le (now + p.probe) now) ≡ 0
  fresh_probe = not_due _ (not_yet now p.probe (omega (arith, limits.probe)))

  fresh_rto : one_if (nat_le (now + p.rto) now) ≡ 0
  fresh_rto = not_due _ (not_yet now p.rto (omega (arith, limits.rto)))

  record_falls : (x : SendRecord) (act : Act) → IsDue p now x act → sender_work p now (record_after p now x act) < record_work p now x
  record_falls x (give_up g rest) due = let k : segments_work p now x.outstanding ≡ segments_work p now (g ∷ rest) = ap (segments_work p now) due.0 in omega (arith, k)
  record_falls x release due = omega arith
  record_falls x renew due =
      let late = due_one (nat_le (x.touched + send_time p) now) (true_le _ _ due.2) in
      omega (arith, late, fresh_send, fresh_probe)
  record_falls x (resend before g rest) due =
      let late = due_one (nat_le (g.last + p.rto) now) (true_le _ _ due.1) in
      let again : Segment = record g { last = now } in
      let old : segments_work p now x.outstanding ≡ segments_work p now before + segments_work p now (g ∷ rest) = ap (segments_work p now) due.0 ∙ segments_append p now before (g ∷ rest) in
      let new = segments_append p now before (again ∷ rest) in
      omega (arith, late, old, new, fresh_send, fresh_probe, fresh_rto)
  record_falls x (send cut rest) due =
      let g : Segment = record { offset = next_of x; items = cut; first = now; last = now } in
      let new = segments_append p now x.outstanding (g ∷ []) in
      let whole : x.waiting ≡ cut ++ rest = rw (due.0, due.1) (cut_whole p x) in
      let count : length x.waiting ≡ length cut + length rest = ap (λ (is : List Item). length is) whole ∙ length-append cut rest in
      omega (arith, new, count, due.2, fresh_send, fresh_probe, fresh_rto)
  record_falls x meet due =
      let late = due_one (nat_le (x.touched + p.probe) now) (true_le _ _ due.3) in
      omega (arith, late, fresh_send, fresh_probe)

  -- an act of a receive record that is due
  standing_falls : (y : ReceiveRecord) (r : Receiver) (kind : RecvKind) (moment : ℕ) → r.standing ≡ Some y → recv_due_of p now (Some y) ≡ Some (kind, moment) → standing_work (after_recv_act p r kind).standing < standing_work r.standing
  standing_falls y r K.Release moment is due = let k : standing_work r.standing ≡ standing_work (Some y) = ap standing_work is in omega (arith, k)
  standing_falls y r K.Ack moment is due =
      let k : standing_work r.standing ≡ standing_work (Some y) = ap standing_work is in
      let l : standing_work (standing_told r.standing (free_of p r.unread)) ≡ standing_work (standing_told (Some y) (free_of p r.unread)) = ap (λ (o : Option ReceiveRecord). standing_work (standing_told o (free_of p r.unread))) is in
      let o = owes y.due (nat_le (y.touched + receive_time p) now) (y.touched + receive_time p) moment due in
      omega (arith, k, l, o)
    where
      owes : (d : Option ℕ) (b : Bool) (m moment : ℕ) → (if b then Some (K.Release, m) else owing now d) ≡ Some (K.Ack, moment) → one_if (is_some d) ≡ 1
      owes (Some due) b m moment e = refl
      owes None true m moment e = absurd (omega (arith, ap rank_in e))
      owes None false m moment e = absurd cc

  -- an act of a record that is due lowers the work
  pub turn_falls : (host : Host) (a : HostAct) → IsOf p now host a → work p now (turn_of p now host a).host < work p now host
  turn_falls host (send_act f x act) is =
      let s = senders_set p now f x (record_after p now x act) host.senders is.0 in
      let k = record_falls x act (act_is_due p now x act is.1) in
      omega (arith, s, k)
  turn_falls host (recv_act f y kind) is = by (look same_flow f host.receivers) refl is.0 (standing_falls y (unwrap_or (look same_flow f host.receivers) no_receiver) kind is.1 is.0 is.2)
    where
      by : (o : Option Receiver) → look same_flow f host.receivers ≡ o → (unwrap_or o no_receiver).standing ≡ Some y → standing_work (after_recv_act p (unwrap_or (look same_flow f host.receivers) no_receiver) kind).standing < standing_work (unwrap_or (look same_flow f host.receivers) no_receiver).standing
          → work p now (turn_of p now host (recv_act f y kind)).host < work p now host
      by None e stands k = absurd cc
      by (Some r) e stands k =
          let after = after_recv_act p (unwrap_or (look same_flow f host.receivers) no_receiver) kind in
          let s = receivers_set f r (kept_if after.unread after.standing) host.receivers e in
          let there : standing_work (unwrap_or (look same_flow f host.receivers) no_receiver).standing ≡ standing_work r.standing = ap (λ (o : Option Receiver). standing_work (unwrap_or o no_receiver).standing) e in
          let left = kept_work after.unread after.standing in
          omega (arith, s, there, left, k)

  -- EACH ACT LOWERS THE WORK THAT IS LEFT
  pub work_falls : (host : Host) (turn : Turn) → IsHost p host → next_turn p now host ≡ Some turn → work p now turn.host < work p now host
  work_falls host turn h e =
      let k = next_turn_is p now host turn h e in
      subst (λ (t : Turn). work p now t.host < work p now host) k.2 (turn_falls host k.0 k.1)
