-- The ledger follows the reports, and the tag of a frame is its packet's place and birth: what is proved of both, about one flow.
use Rattle.std.proofs.Common.{ℕ, ◌<◌, ◌≡◌, ◌^◌, Bool, false, List, [], ◌∷◌, length, Option, Some, None, refl, sym, ap, subst, ◌∙◌}
use Rattle.std.specs.Prelude.{unwrap_or}
use Rattle.std.specs.List.{All}
use Rattle.dt_items.specs.declared.item.Item.{Item}
use Rattle.dt_items.specs.Unread.{octets_of}
use Rattle.dt_units.specs.declared.parameters.Params.{Params}
use Rattle.dt_units.specs.declared.endpoints.Flow.{Flow}
use Rattle.dt_units.specs.Limits.{IsWithinLimits}
use Rattle.dt_reports.specs.Told.{Told, read_told}
use Rattle.dt_reports.specs.declared.reports.Report.TheVariants as words
use Rattle.dt_layout.specs.Spelling.{PacketValue, Data, Meet, carrying, gram_spelling}
use Rattle.dt_flow_model.proofs.Chains.{all_at}
use Rattle.dt_flow_model.proofs.Chosen.{act_is_due}
use Rattle.dt_flow_model.specs.declared.rows.Taken.{Taken}
use Rattle.dt_flow_model.specs.declared.acts.RecvKind.{RecvKind}
use Rattle.dt_flow_model.specs.declared.acts.RecvKind.TheVariants as K
use Rattle.dt_flow_model.specs.Acting.{acked_flow, after_act, after_reading, after_receiver_act, after_taking, data_flow, made_by_act, meet_sent, segment_sent, with_receiver}
use Rattle.dt_flow_model.specs.Facts.{Facts}
use Rattle.dt_flow_model.specs.Flow as flows
use Rattle.dt_flow_model.specs.Flow.{FlowState, Packet, ack_place, receiver_of, sender_reading, tag_of}
use Rattle.dt_flow_model.specs.Frames.{Mark, ack_packet, back, data_packet, flow_in, flow_of, frame_of_act, meet_packet, value_in}
use Rattle.dt_units.specs.Flows.{IsFlow}
use Rattle.dt_flow_model.specs.Keeping.{IsSegment}
use Rattle.dt_flow_model.specs.Numbering.{number_of}
use Rattle.dt_flow_model.specs.ReceiveRecord.{ReceiveRecord, after_meet, answer_to_data, answer_to_meet, free_of, recv_told_of}
use Rattle.dt_flow_model.specs.SendActs.{Act, act_of, give_up, meet, record_after, release, renew, resend, send, told_of}
use Rattle.dt_flow_model.specs.SendRecord.{Segment, SendRecord, leads, next_of}
use Rattle.dt_flow_laws.proofs.Places.{tag_after}
use Rattle.dt_world_model.specs.Tables.{same_flow}
use Rattle.dt_world_model.specs.Host.{Host, IsSender, receiver_at, sender_at, told_arrival, told_recv, told_send}
use Rattle.dt_world_model.specs.Ledgers.{Accepts, Change, Changes, Effect, FlowLedger, FlowRun, GivesUp, Leaves, Ledgers, Neither, Occasion, ReadsOut, Settles, Takes, Transmits, TransmitsAgain, effect_of, ledger_after, ledger_of, ledgers_after, ledgers_by, mark_of, place_for, place_sent, run_of, run_with}
use Rattle.dt_world_model.specs.WorldStep.{items_in_kind}
use Rattle.dt_world_laws.specs.Follow.{IsFollowed, at_receiver, at_sender, changed_by, flow_ledger, flow_run}
use Rattle.dt_world_laws.proofs.Books.{Book, at_life, book_by, ledger_in, run_in}
use Rattle.dt_world_laws.proofs.Follows.{book_in, follows_act}
use Rattle.dt_world_laws.proofs.Frames.{CanBeSpelled, spelled_reads}
use Rattle.dt_world_laws.proofs.Received.{follows_data, follows_meet, follows_reading}
use Rattle.dt_world_laws.proofs.Spelled.{ack_spelled, cut_segment, data_spelled, meet_spelled}
use Rattle.dt_world_model.proofs.Tables.{flow_is, flow_self, look_write, look_write_other}

-- ONE FLOW'S ENTRY CHANGES, the others stay
module _ (o : Occasion) (told : Told) (all : Ledgers) (f : Flow) where
  entry_written : (change : Change) → (ledger_of (ledgers_by o (Changes f change) all) f ≡ ledger_after o change (ledger_of all f)) × (run_of (ledgers_by o (Changes f change) all) f ≡ run_with o change (ledger_of all f) (run_of all f))
  entry_written change = (
    ap (λ (l : Option FlowLedger). unwrap_or l (record { taken = []; given = []; reads = [] })) (look_write Flow FlowLedger same_flow flow_self flow_is f (ledger_after o change (ledger_of all f)) all.rows),
    ap (λ (r : Option FlowRun). unwrap_or r (record { run = None; crossings = [] })) (look_write Flow FlowRun same_flow flow_self flow_is f (run_with o change (ledger_of all f) (run_of all f)) all.runs),
  )

  pub entry_changes : (change : Change) → effect_of told ≡ Changes f change → (ledger_of (ledgers_after o told all) f ≡ ledger_after o change (ledger_of all f)) × (run_of (ledgers_after o told all) f ≡ run_with o change (ledger_of all f) (run_of all f))
  entry_changes change e = rw e (entry_written change)

  entry_left : (change : Change) (g : Flow) → same_flow f g ≡ false → (ledger_of (ledgers_by o (Changes f change) all) g ≡ ledger_of all g) × (run_of (ledgers_by o (Changes f change) all) g ≡ run_of all g)
  entry_left change g apart = (
    ap (λ (l : Option FlowLedger). unwrap_or l (record { taken = []; given = []; reads = [] })) (look_write_other Flow FlowLedger same_flow flow_self flow_is g f (ledger_after o change (ledger_of all f)) all.rows apart),
    ap (λ (r : Option FlowRun). unwrap_or r (record { run = None; crossings = [] })) (look_write_other Flow FlowRun same_flow flow_self flow_is g f (run_with o change (ledger_of all f) (run_of all f)) all.runs apart),
  )

  pub entry_stays : (change : Change) (g : Flow) → effect_of told ≡ Changes f change → same_flow f g ≡ false → (ledger_of (ledgers_after o told all) g ≡ ledger_of all g) × (run_of (ledgers_after o told all) g ≡ run_of all g)
  entry_stays change g e apart = rw e (entry_left change g apart)

-- THE LEDGER FOLLOWS: by the laws of books
by_book : (p : Params) (now life node : ℕ) (items : List Item) (place : ℕ) (e : Effect) (s : FlowState)
    → changed_by (record { params = p; now = now; node = node; life = life; items = items; place = place }) e s ≡ (ledger_in (book_by (at_life p now life (items, place)) e (book_in s)), run_in (book_by (at_life p now life (items, place)) e (book_in s)))
by_book p now life node items place (Changes f Takes) s = refl
by_book p now life node items place (Changes f (Transmits count)) s = refl
by_book p now life node items place (Changes f TransmitsAgain) s = refl
by_book p now life node items place (Changes f (GivesUp count)) s = refl
by_book p now life node items place (Changes f (Settles count)) s = refl
by_book p now life node items place (Changes f (Accepts run)) s = refl
by_book p now life node items place (Changes f (ReadsOut count)) s = refl
by_book p now life node items place (Leaves link life') s = refl
by_book p now life node items place Neither s = refl

abbrev both_book : Book → FlowLedger × FlowRun
both_book b = (ledger_in b, run_in b)

abbrev both_of : FlowState → FlowLedger × FlowRun
both_of s = (flow_ledger s, flow_run s)

module _ (p : Params) (s : FlowState) (f : Flow) (node place : ℕ) (items : List Item) where
  pub act_followed : (x : SendRecord) (act : Act) → s.sender ≡ Some x → Facts p s → act_of p (sender_reading s) x ≡ Some act → IsFollowed (at_sender p s node items place) (told_send f (told_of p x act)) s (after_act p s x act)
  act_followed x act is facts chosen = by_book p s.now s.sender_life node items place (effect_of (told_send f (told_of p x act))) s ∙ ap both_of (follows_act p s x is facts f (items, place) act chosen)

  pub acked_followed : (x : SendRecord) (count window : ℕ) → IsFollowed (at_sender p s node items place) (words.Settled f count window) s (acked_flow s (Some (x, count)))
  acked_followed x count window = refl

  pub taking_followed : (count : ℕ) → IsFollowed (at_sender p s node items place) (words.Took f count) s (after_taking p s items)
  taking_followed count = refl

  pub reading_followed : (run begin end : Bool) (piece : List Item) → IsFollowed (at_receiver p s node items place) (read_told f run begin end (octets_of piece)) s (after_reading p s (length piece))
  reading_followed run begin end piece = by_book p s.now s.receiver_life node items place (effect_of (read_told f run begin end (octets_of piece))) s ∙ ap both_of (follows_reading p s f (items, place) run begin end piece)

  pub receiver_followed : (y : ReceiveRecord) (kind : RecvKind) → IsFollowed (at_receiver p s node items place) (told_recv f (recv_told_of p s.unread y kind)) s (after_receiver_act p s kind)
  receiver_followed y K.Release = refl
  receiver_followed y K.Ack = refl

  pub meet_followed : (from_port to_port number : ℕ) → IsFollowed (at_receiver p s node items place) (told_arrival f (Meet from_port to_port number) (answer_to_meet p (receiver_of s) number)) s (with_receiver s (after_meet p (receiver_of s)))
  meet_followed from_port to_port number =
      by_book p s.now s.receiver_life node items place (effect_of (told_arrival f (Meet from_port to_port number) (answer_to_meet p (receiver_of s) number))) s ∙ ap both_of (follows_meet p s f (items, place) from_port to_port number)

pub data_followed : (p : Params) (s : FlowState) (f : Flow) (node : ℕ) (q : Packet) (from_port to_port : ℕ) (drf begin end : Bool) (octets : List ℕ) (items : List Item) → q.kind ≡ flows.Data drf items
    → IsFollowed (at_receiver p s node items q.place) (told_arrival f (Data from_port to_port q.number drf begin end octets) (answer_to_data p (receiver_of s) drf q.number items)) s (data_flow p s q drf items)
data_followed p s f node q from_port to_port drf begin end octets items kind =
    let told = told_arrival f (Data from_port to_port q.number drf begin end octets) (answer_to_data p (receiver_of s) drf q.number items) in
    by_book p s.now s.receiver_life node items q.place (effect_of told) s
    ∙ ap (λ (is : List Item). both_book (book_by (at_life p s.now s.receiver_life (is, q.place)) (effect_of told) (book_in s))) (sym (ap items_in_kind kind))
    ∙ ap both_of (follows_data p s f q from_port to_port q.number drf begin end octets items kind refl)

-- TAGS
module _ (p : Params) (f : Flow) (o : Occasion) (all : Ledgers) (host : Host) where
  tag_by : (from to : ℕ) (v : PacketValue) (place : ℕ) → CanBeSpelled p.mpl from to v → flow_of from to v ≡ f → place_for o (ledger_of all f) host f v ≡ place → mark_of o all host (gram_spelling (carrying p.mpl from to v)) ≡ record { birth = o.now; place = place }
  tag_by from to v place can is at =
      let bytes = gram_spelling (carrying p.mpl from to v) in
      let r = spelled_reads p.mpl from to v can in
      let told : place_for o (ledger_of all (flow_in bytes)) host (flow_in bytes) (value_in bytes) ≡ place =
      ap (λ (u : PacketValue). place_for o (ledger_of all (flow_in bytes)) host (flow_in bytes) u) r.value ∙ ap (λ (g : Flow). place_for o (ledger_of all g) host g v) (r.flow ∙ is) ∙ at in
      ap (λ (k : ℕ). let m : Mark = record { birth = o.now; place = k } in m) told

module _ (p : Params) (s : FlowState) (f : Flow) (me : ℕ) (x after : SendRecord) (limits : IsWithinLimits p) (sender : IsSender p me f x) (is : s.sender ≡ Some x) (facts : Facts p s)
    (node place : ℕ) (items : List Item) (all : Ledgers) (host : Host) where
  abbrev o : Occasion
  o = at_sender p s node items place

  sent_by : (act : Act) (q : Packet) (number : ℕ) → act_of p (sender_reading s) x ≡ Some act → record_after p (sender_reading s) x act ≡ Some after → made_by_act p s x act ≡ q ∷ [] → sender_at host f ≡ Some after → (ledger_of all f).taken ≡ (after_act p s x act).taken → q.number ≡ number
      → place_sent p (ledger_of all f) number (sender_at host f) ≡ q.place
  sent_by act q number chosen later made stands rows e =
      let tag = tag_after p s x after act q limits is facts chosen later made in
      let l = ledger_of all f in
      let with_rows : place_sent p l number (Some after) ≡ tag_of p (after_act p s x act) after number = ap (λ (n : List Taken). place_sent p (record { taken = n; given = l.given; reads = l.reads }) number (Some after)) rows in
      ap (place_sent p l number) stands ∙ with_rows ∙ ap (tag_of p (after_act p s x act) after) (sym e) ∙ sym tag

  segment_tag : (act : Act) (q : Packet) (g : Segment) (drf : Bool) → act_of p (sender_reading s) x ≡ Some act → record_after p (sender_reading s) x act ≡ Some after → made_by_act p s x act ≡ q ∷ [] → sender_at host f ≡ Some after → (ledger_of all f).taken ≡ (after_act p s x act).taken
      → q.number ≡ number_of p g.offset → q.birth ≡ s.now → IsSegment p g → mark_of o all host (gram_spelling (carrying p.mpl f.from.0 f.to.0 (data_packet f (number_of p g.offset) drf g.items))) ≡ record { birth = q.birth; place = q.place }
  segment_tag act q g drf chosen later made stands rows number birth seg =
      tag_by p f o all host f.from.0 f.to.0 (data_packet f (number_of p g.offset) drf g.items) q.place (data_spelled p limits me f x sender g drf seg) refl (sent_by act q (number_of p g.offset) chosen later made stands rows number)
      ∙ ap (λ (b : ℕ). let m : Mark = record { birth = b; place = q.place } in m) (sym birth)

  pub act_tag : (act : Act) (q : Packet) (octets : List ℕ) → act_of p (sender_reading s) x ≡ Some act → record_after p (sender_reading s) x act ≡ Some after → made_by_act p s x act ≡ q ∷ [] → sender_at host f ≡ Some after → (ledger_of all f).taken ≡ (after_act p s x act).taken
      → frame_of_act p f x act ≡ Some octets → mark_of o all host octets ≡ record { birth = q.birth; place = q.place }
  act_tag (give_up g rest) q octets chosen later made stands rows e = absurd cc
  act_tag release q octets chosen later made stands rows e = absurd cc
  act_tag renew q octets chosen later made stands rows e = absurd cc
  act_tag (resend before g rest) q octets chosen later made stands rows e =
      let due = act_is_due p (sender_reading s) x (resend before g rest) chosen in
      let seg = all_at (IsSegment p) before rest g (subst (λ (gs : List Segment). All (IsSegment p) gs) due.0 sender.kept.segments) in
      let what : segment_sent p s x g.offset g.items ≡ q = cc in
      let bytes : gram_spelling (carrying p.mpl f.from.0 f.to.0 (data_packet f (number_of p g.offset) (leads x g.offset) g.items)) ≡ octets = cc in
      subst (λ (bs : List ℕ). mark_of o all host bs ≡ record { birth = q.birth; place = q.place }) bytes
      (segment_tag (resend before g rest) q g (leads x g.offset) chosen later made stands rows (sym (ap (λ (k : Packet). k.number) what)) (sym (ap (λ (k : Packet). k.birth) what)) seg)
  act_tag (send cut rest) q octets chosen later made stands rows e =
      let due = act_is_due p (sender_reading s) x (send cut rest) chosen in
      let g : Segment = record { offset = next_of x; items = cut; first = sender_reading s; last = sender_reading s } in
      let seg = cut_segment p limits me f x sender (sender_reading s) cut rest due.0 due.2 in
      let what : segment_sent p s x (next_of x) cut ≡ q = cc in
      let bytes : gram_spelling (carrying p.mpl f.from.0 f.to.0 (data_packet f (number_of p (next_of x)) (leads x (next_of x)) cut)) ≡ octets = cc in
      subst (λ (bs : List ℕ). mark_of o all host bs ≡ record { birth = q.birth; place = q.place }) bytes
      (segment_tag (send cut rest) q g (leads x (next_of x)) chosen later made stands rows (sym (ap (λ (k : Packet). k.number) what)) (sym (ap (λ (k : Packet). k.birth) what)) seg)
  act_tag meet q octets chosen later made stands rows e =
      let what : meet_sent p s x ≡ q = cc in
      let bytes : gram_spelling (carrying p.mpl f.from.0 f.to.0 (meet_packet f (number_of p x.left))) ≡ octets = cc in
      subst (λ (bs : List ℕ). mark_of o all host bs ≡ record { birth = q.birth; place = q.place }) bytes
      (tag_by p f o all host f.from.0 f.to.0 (meet_packet f (number_of p x.left)) q.place (meet_spelled p limits me f x sender) refl (sent_by meet q (number_of p x.left) chosen later made stands rows (sym (ap (λ (k : Packet). k.number) what)))
      ∙ ap (λ (b : ℕ). let m : Mark = record { birth = b; place = q.place } in m) (ap (λ (k : Packet). k.birth) what))

-- an acknowledgement has the place that is known from the receiver as it stands then
pub ack_tag : (p : Params) (f : Flow) (o : Occasion) (all : Ledgers) (host : Host) (unread : List Item) (number : ℕ) → IsWithinLimits p → IsFlow f → number < 2 ^ 32
    → mark_of o all host (back p f (ack_packet f number (free_of p unread))) ≡ record { birth = o.now; place = ack_place (receiver_at host f).standing (ledger_of all f).given number o.place }
ack_tag p f o all host unread number limits flow small = tag_by p f o all host f.to.0 f.from.0 (ack_packet f number (free_of p unread)) _ (ack_spelled p f unread number limits flow small) refl refl
