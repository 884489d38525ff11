-- The flows of a world in which one station is at work: what they are of its host and of the ledger.
use Rattle.dt_items.specs.declared.item.Item.{Item}
use Rattle.std.proofs.Common.{ℕ, ◌≡◌, ◌⊎◌, ◌==◌, true, false, List, [], ◌∷◌, Option, Some, None, refl, ap, subst, inl, inr, ◌∙◌}
use Rattle.std.specs.Prelude.{if◌then◌else◌, unwrap_or}
use Rattle.std.proofs.lemmas.Bool.{cases_Bool}
use Rattle.dt_units.specs.declared.parameters.Params.{Params}
use Rattle.dt_units.specs.declared.endpoints.Flow.{Flow}
use Rattle.dt_reports.specs.Told.{Told}
use Rattle.dt_flow_model.specs.Flow.{FlowState}
use Rattle.dt_flow_model.specs.SendRecord.{SendRecord}
use Rattle.dt_flow_model.specs.ReceiveRecord.{ReceiveRecord, Receiver}
use Rattle.dt_world_model.specs.Tables.{same_flow, look, Distinct}
use Rattle.dt_flow_model.specs.Frames.{Mark}
use Rattle.dt_world_model.specs.Host.{Host, kept_if, sender_at, receiver_at, host_with_sender, host_with_receiver, no_receiver}
use Rattle.dt_world_model.specs.Station.{Station}
use Rattle.dt_world_laws.proofs.Books.{Book, Cause, at_life, book_after, book_by, book_of, book_with, books_after, flow_state}
use Rattle.dt_world_model.specs.Ledgers.{Change, Changes, FlowLedger, FlowRun, Ledgers, Neither, effect_of, ledger_after, ledger_of, ledgers_by, run_of, run_with}
use Rattle.dt_world_model.specs.World.{World, Placed, Noted, SenderSide, ReceiverSide, sender_side, receiver_side, placed, view}
use Rattle.dt_world_model.specs.WorldStep.{world_with}
use Rattle.dt_world_model.proofs.Tables.{look_write, look_write_other, look_set, look_set_other, nat_self, nat_is, flow_self, flow_is}

module _ (w : World) (n : ℕ) where
  -- the station with another state
  abbrev pub set_station : Station Mark → Placed
  set_station st = record { zero = (placed w n).zero; life = (placed w n).life; station = st }

  abbrev pub near_sender : ℕ → Option SendRecord → SenderSide
  near_sender until x = record { zero = (placed w n).zero; life = (placed w n).life; until = until; sender = x }

  abbrev pub near_receiver : ℕ → Receiver → ReceiverSide
  near_receiver until r = record { zero = (placed w n).zero; life = (placed w n).life; until = until; receiver = r }

  abbrev pub near_or_sender : ℕ → Option SendRecord → Flow → SenderSide
  near_or_sender until x f = if n == f.from.0 then near_sender until x else sender_side (placed w f.from.0) f

  abbrev pub near_or_receiver : ℕ → Receiver → Flow → ReceiverSide
  near_or_receiver until r f = if n == f.to.0 then near_receiver until r else receiver_side (placed w f.to.0) f

  -- a flow by what the station's host and the ledger have of it
  abbrev pub flow_by : ℕ → Option SendRecord → Receiver → Book → Flow → FlowState
  flow_by until x r b f = flow_state w.now (near_or_sender until x f) (near_or_receiver until r f) b

  abbrev pub local : Host → Book → Flow → FlowState
  local host b f = flow_by host.until (sender_at host f) (receiver_at host f) b f

  abbrev pub views : Host → Ledgers → Flow → FlowState
  views host books f = local host (book_of books f) f

  -- these are the world's, when the station and what the world noted are put back
  placed_same : (st : Station Mark) (d : Noted) → placed (world_with w n (set_station st) d) n ≡ record { zero = (placed w n).zero; life = (placed w n).life; station = st }
  placed_same st d = rw (look_write ℕ Placed ◌==◌ nat_self nat_is n (record { zero = (placed w n).zero; life = (placed w n).life; station = st }) w.stations)

  placed_other : (st : Station Mark) (d : Noted) (m : ℕ) → (n == m) ≡ false → placed (world_with w n (set_station st) d) m ≡ placed w m
  placed_other st d m h = rw (look_write_other ℕ Placed ◌==◌ nat_self nat_is m n (record { zero = (placed w n).zero; life = (placed w n).life; station = st }) w.stations h)

  sender_view : (st : Station Mark) (d : Noted) (m : ℕ) (f : Flow) → sender_side (placed (world_with w n (set_station st) d) m) f ≡ (if n == m then near_sender st.host.until (sender_at st.host f) else sender_side (placed w m) f)
  sender_view st d m f =
      elim (cases_Bool (n == m)) [
        | inl y ↦ rw y (let at : n ≡ m = nat_is n m y in subst (λ k. sender_side (placed (world_with w n (set_station st) d) k) f ≡ near_sender st.host.until (sender_at st.host f)) at (ap (λ (s : Placed). sender_side s f) (placed_same st d)))
        | inr o ↦ rw o (ap (λ (s : Placed). sender_side s f) (placed_other st d m o))
      ]

  receiver_view : (st : Station Mark) (d : Noted) (m : ℕ) (f : Flow) → receiver_side (placed (world_with w n (set_station st) d) m) f ≡ (if n == m then near_receiver st.host.until (receiver_at st.host f) else receiver_side (placed w m) f)
  receiver_view st d m f =
      elim (cases_Bool (n == m)) [
        | inl y ↦ rw y (let at : n ≡ m = nat_is n m y in subst (λ k. receiver_side (placed (world_with w n (set_station st) d) k) f ≡ near_receiver st.host.until (receiver_at st.host f)) at (ap (λ (s : Placed). receiver_side s f) (placed_same st d)))
        | inr o ↦ rw o (ap (λ (s : Placed). receiver_side s f) (placed_other st d m o))
      ]

  pub world_view : (st : Station Mark) (d : Noted) (f : Flow) → view (world_with w n (set_station st) d) f ≡ views st.host d.ledgers f
  world_view st d f =
      ap (λ (s : SenderSide). flow_state w.now s (receiver_side (placed (world_with w n (set_station st) d) f.to.0) f) (book_of d.ledgers f)) (sender_view st d f.from.0 f)
      ∙ ap (λ (s : ReceiverSide). flow_state w.now (near_or_sender st.host.until (sender_at st.host f) f) s (book_of d.ledgers f)) (receiver_view st d f.to.0 f)

  -- a flow that begins here, and one that ends here
  pub begins_here : (until : ℕ) (x : Option SendRecord) (r : Receiver) (b : Book) (f : Flow) → (n == f.from.0) ≡ true → flow_by until x r b f ≡ flow_state w.now (near_sender until x) (near_or_receiver until r f) b
  begins_here until x r b f h = rw h refl

  pub ends_here : (until : ℕ) (x : Option SendRecord) (r : Receiver) (b : Book) (f : Flow) → (n == f.to.0) ≡ true → flow_by until x r b f ≡ flow_state w.now (near_or_sender until x f) (near_receiver until r) b
  ends_here until x r b f h = rw h refl

-- the records of a host after a change of one flow
module _ (host : Host) (f : Flow) where
  pub sender_set : (x : Option SendRecord) → Distinct same_flow host.senders → sender_at (host_with_sender host f x) f ≡ x
  sender_set x h = look_set Flow SendRecord same_flow flow_self flow_is f x host.senders h

  pub sender_set_other : (x : Option SendRecord) (g : Flow) → same_flow f g ≡ false → sender_at (host_with_sender host f x) g ≡ sender_at host g
  sender_set_other x g h = look_set_other Flow SendRecord same_flow flow_self flow_is g f x host.senders h

  kept_is : (unread : List Item) (standing : Option ReceiveRecord) → unwrap_or (kept_if unread standing) no_receiver ≡ record { unread = unread; standing = standing }
  kept_is [] None = refl
  kept_is [] (Some y) = refl
  kept_is (i ∷ is) None = refl
  kept_is (i ∷ is) (Some y) = refl

  pub receiver_set : (r : Receiver) → Distinct same_flow host.receivers → receiver_at (host_with_receiver host f r) f ≡ r
  receiver_set r h = ap (λ (o : Option Receiver). unwrap_or o no_receiver) (look_set Flow Receiver same_flow flow_self flow_is f (kept_if r.unread r.standing) host.receivers h) ∙ kept_is r.unread r.standing

  pub receiver_set_other : (r : Receiver) (g : Flow) → same_flow f g ≡ false → receiver_at (host_with_receiver host f r) g ≡ receiver_at host g
  receiver_set_other r g h = ap (λ (o : Option Receiver). unwrap_or o no_receiver) (look_set_other Flow Receiver same_flow flow_self flow_is g f (kept_if r.unread r.standing) host.receivers h)

-- what is reported is about one flow
abbrev pub IsAbout : Flow → Told → Type 0
IsAbout f told = ((change : Change) × (effect_of told ≡ Changes f change)) ⊎ (effect_of told ≡ Neither)

module _ (p : Params) (now life : ℕ) (cause : Cause) (told : Told) (books : Ledgers) (f : Flow) where
  by_change : (change : Change) → book_of (ledgers_by (at_life p now life cause) (Changes f change) books) f ≡ book_by (at_life p now life cause) (Changes f change) (book_of books f)
  by_change change =
      let o = at_life p now life cause in
      ap (λ (l : Option FlowLedger). book_with (unwrap_or l (record { taken = []; given = []; reads = [] })) (unwrap_or (look same_flow f (ledgers_by o (Changes f change) books).runs) (record { run = None; crossings = [] }))) (look_write Flow FlowLedger same_flow flow_self flow_is f (ledger_after o change (ledger_of books f)) books.rows)
      ∙ ap (λ (r : Option FlowRun). book_with (ledger_after o change (ledger_of books f)) (unwrap_or r (record { run = None; crossings = [] }))) (look_write Flow FlowRun same_flow flow_self flow_is f (run_with o change (ledger_of books f) (run_of books f)) books.runs)

  by_change_other : (g : Flow) (change : Change) → same_flow f g ≡ false → book_of (ledgers_by (at_life p now life cause) (Changes f change) books) g ≡ book_of books g
  by_change_other g change h =
      let o = at_life p now life cause in
      ap (λ (l : Option FlowLedger). book_with (unwrap_or l (record { taken = []; given = []; reads = [] })) (unwrap_or (look same_flow g (ledgers_by o (Changes f change) books).runs) (record { run = None; crossings = [] }))) (look_write_other Flow FlowLedger same_flow flow_self flow_is g f (ledger_after o change (ledger_of books f)) books.rows h)
      ∙ ap (λ (r : Option FlowRun). book_with (ledger_of books g) (unwrap_or r (record { run = None; crossings = [] }))) (look_write_other Flow FlowRun same_flow flow_self flow_is g f (run_with o change (ledger_of books f) (run_of books f)) books.runs h)

  pub book_told : IsAbout f told → book_of (books_after p now life cause told books) f ≡ book_after p now life cause told (book_of books f)
  book_told (inl (change, e)) = rw e (by_change change)
  book_told (inr e) = rw e refl

  pub book_told_other : (g : Flow) → IsAbout f told → same_flow f g ≡ false → book_of (books_after p now life cause told books) g ≡ book_of books g
  book_told_other g (inl (change, e)) h = rw e (by_change_other g change h)
  book_told_other g (inr e) h = rw e refl
