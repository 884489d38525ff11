-- The rows that the world writes are those that the reports of an endpoint tell, but for first moments and places.
use Rattle.std.proofs.Common.{◌≡◌, ◌∙◌, ℕ, zero, suc, Bool, true, false, List, [], ◌∷◌, ◌++◌, ◌<◌, map, None, refl, ap, subst, inl, inr}
use Rattle.std.proofs.lemmas.Bool.{cases_Bool}
use Rattle.std.proofs.lemmas.List.{map-append}
use Rattle.dt_items.specs.declared.item.Item.{Item}
use Rattle.dt_units.specs.declared.endpoints.Flow.{Flow}
use Rattle.dt_units.specs.declared.parameters.Params.{Params}
use Rattle.dt_reports.specs.declared.reports.Report.TheVariants as report
use Rattle.dt_reports.specs.Told.{Told}
use Rattle.dt_flow_model.specs.declared.rows.Fate.{Fate}
use Rattle.dt_flow_model.specs.declared.rows.Fate.TheVariants as fate
use Rattle.dt_flow_model.specs.declared.rows.Taken.{Taken}
use Rattle.dt_flow_model.specs.Frames.{Mark, marked_packet, value_in}
use Rattle.dt_flow_model.specs.Ledger.{given_rows, is_open_in, note_first, open_row, settle, take_rows}
use Rattle.dt_layout.proofs.CarriedLemmas.{gram_in_is, lowered_in}
use Rattle.dt_layout.specs.Carried.{IsGram, life_of, lowered}
use Rattle.dt_layout.specs.Spelling.{Ack, Close, Data, DeltagramValue, Meet, PacketValue}
use Rattle.dt_layout.specs.Reading.{packet_in}
use Rattle.dt_flow_model.specs.declared.rows.Given.{Given}
use Rattle.dt_world_laws.proofs.Reported.{entry_changes, entry_stays}
use Rattle.dt_world_model.proofs.Tables.{flow_is}
use Rattle.dt_world_model.specs.Ledgers.{Accepts, Change, Changes, FlowLedger, GivesUp, Ledgers, Occasion, ReadsOut, Settles, Takes, Transmits, TransmitsAgain, effect_of, ledger_after, ledger_of, ledgers_after, mark_of}
use Rattle.dt_world_model.specs.Script.{Ask, Done, Hand, Script, Tell, play}
use Rattle.dt_world_model.specs.Tables.{same_flow}
use Rattle.dt_world_model.specs.Tags.{Alike, ask, done, hand, tell}
use Rattle.dt_world_model.specs.World.{Noted, note_copy, note_told, world_handler}
use Rattle.dt_world_model.specs.WorldStep.{items_with}
use Rattle.dt_endpoint.specs.Acts.{acts_of, reports_in}
use Rattle.dt_endpoint.specs.Hearing.{kept}
use Rattle.dt_network.specs.Books.{book_all, book_told, given_all, given_told, no_mark, rows_if, unplaced}

-- a row without its first moment
abbrev pub untimed : Taken → Taken
untimed row = record row { first = None }

abbrev pub rows_told : Ledgers → Flow → List Taken
rows_told all f = map untimed (ledger_of all f).taken

untimed_open : (life : ℕ) (items : List Item) → map untimed (map (open_row life None) items) ≡ map (open_row life None) items
untimed_open life [] = refl
untimed_open life (i ∷ is) = ap (λ (rows : List Taken). open_row life None i ∷ rows) (untimed_open life is)

untimed_taken : (life : ℕ) (items : List Item) (rows : List Taken) → map untimed (take_rows life items rows) ≡ take_rows life items (map untimed rows)
untimed_taken life items rows = map-append untimed rows (map (open_row life None) items) ∙ ap (λ (more : List Taken). map untimed rows ++ more) (untimed_open life items)

untimed_settled : (life : ℕ) (fate : Fate) (count : ℕ) (rows : List Taken) → map untimed (settle life fate count rows) ≡ settle life fate count (map untimed rows)
untimed_settled life fate zero rows = refl
untimed_settled life fate (suc count) [] = refl
untimed_settled life fate (suc count) (row ∷ rows) =
    elim (cases_Bool (is_open_in life row)) [
      | inl y ↦ rw y (ap (λ (rest : List Taken). let first : Taken = record row { first = None; fate = fate } in first ∷ rest) (untimed_settled life fate count rows))
      | inr n ↦ rw n (ap (λ (rest : List Taken). untimed row ∷ rest) (untimed_settled life fate (suc count) rows))
    ]

untimed_first : (at place count : ℕ) (rows : List Taken) → map untimed (note_first at place count rows) ≡ map untimed rows
untimed_first at place count [] = refl
untimed_first at zero zero (row ∷ rows) = refl
untimed_first at zero (suc count) (row ∷ rows) = ap (λ (rest : List Taken). untimed row ∷ rest) (untimed_first at zero count rows)
untimed_first at (suc place) count (row ∷ rows) = ap (λ (rest : List Taken). untimed row ∷ rest) (untimed_first at place count rows)

-- a row without its place and its moment
abbrev pub rows_accepted : Ledgers → Flow → List Given
rows_accepted all f = map unplaced (ledger_of all f).given

unplaced_rows : (life at place first : ℕ) (run : Bool) (items : List Item) → map unplaced (given_rows life at run place items) ≡ map unplaced (given_rows life 0 run first items)
unplaced_rows life at place first run [] = refl
unplaced_rows life at place first run (i ∷ is) =
    ap (λ (rows : List Given). let row : Given = record { place = 0; octet = i.octet; begin = i.begin; end = i.end; run = run; life = life; at = 0 } in row ∷ rows) (unplaced_rows life at (suc place) (suc first) false is)

unplaced_accepted : (life at place : ℕ) (run : Bool) (items : List Item) (rows : List Given) → map unplaced (rows ++ given_rows life at run place items) ≡ map unplaced rows ++ map unplaced (given_rows life 0 run 0 items)
unplaced_accepted life at place run items rows = map-append unplaced rows (given_rows life at run place items) ∙ ap (λ (more : List Given). map unplaced rows ++ more) (unplaced_rows life at place 0 run items)

-- A REPORT, as one part of a ledger sees it
module _ {A : Type 0} (part : FlowLedger → List A) where
  abbrev part_of : Ledgers → Flow → List A
  part_of all f = part (ledger_of all f)

  changed : (o : Occasion) (r : Told) (all : Ledgers) (f g : Flow) (change : Change) (same : Bool) → effect_of r ≡ Changes f change → same_flow f g ≡ same → part_of (ledgers_after o r all) g ≡ rows_if same (part (ledger_after o change (ledger_of all g))) (part_of all g)
  changed o r all f g change true is e =
      let here : part_of (ledgers_after o r all) f ≡ part (ledger_after o change (ledger_of all f)) = ap part (entry_changes o r all f change is).0 in
      subst (λ (k : Flow). part_of (ledgers_after o r all) k ≡ part (ledger_after o change (ledger_of all k))) (flow_is f g e) here
  changed o r all f g change false is e = ap part (entry_stays o r all f change g is e).0

  same_either : (same : Bool) (rows : List A) → rows_if same rows rows ≡ rows
  same_either true rows = refl
  same_either false rows = refl

  unchanged : (o : Occasion) (r : Told) (all : Ledgers) (f g : Flow) (change : Change) → effect_of r ≡ Changes f change → part (ledger_after o change (ledger_of all g)) ≡ part_of all g → part_of (ledgers_after o r all) g ≡ part_of all g
  unchanged o r all f g change is same =
      changed o r all f g change (same_flow f g) is refl ∙ ap (λ (rows : List A). rows_if (same_flow f g) rows (part_of all g)) same ∙ same_either (same_flow f g) (part_of all g)

abbrev taken_part : FlowLedger → List Taken
taken_part l = map untimed l.taken

abbrev given_part : FlowLedger → List Given
given_part l = map unplaced l.given

told_booked : (o : Occasion) (all : Ledgers) (g : Flow) (r : Told) → rows_told (ledgers_after o r all) g ≡ book_told g o.life o.items (kept r) (rows_told all g)
told_booked o all g (report.Took f count) =
    changed taken_part o (report.Took f count) all f g Takes (same_flow f g) refl refl ∙ ap (λ (rows : List Taken). rows_if (same_flow f g) rows (rows_told all g)) (untimed_taken o.life o.items (ledger_of all g).taken)
told_booked o all g (report.Uncertain f count) =
    changed taken_part o (report.Uncertain f count) all f g (GivesUp count) (same_flow f g) refl refl ∙ ap (λ (rows : List Taken). rows_if (same_flow f g) rows (rows_told all g)) (untimed_settled o.life fate.Uncertain count (ledger_of all g).taken)
told_booked o all g (report.Settled f count window) =
    changed taken_part o (report.Settled f count window) all f g (Settles count) (same_flow f g) refl refl ∙ ap (λ (rows : List Taken). rows_if (same_flow f g) rows (rows_told all g)) (untimed_settled o.life fate.Acked count (ledger_of all g).taken)
told_booked o all g (report.Sent f number count drf begin end) = unchanged taken_part o (report.Sent f number count drf begin end) all f g (Transmits count) refl (untimed_first o.now _ count (ledger_of all g).taken)
told_booked o all g (report.Resent f number count drf begin end) = unchanged taken_part o (report.Resent f number count drf begin end) all f g TransmitsAgain refl refl
told_booked o all g (report.Met f number) = unchanged taken_part o (report.Met f number) all f g TransmitsAgain refl refl
told_booked o all g (report.Accepted f number count run) = unchanged taken_part o (report.Accepted f number count run) all f g (Accepts run) refl refl
told_booked o all g (report.Read f run begin end octets) = unchanged taken_part o (report.Read f run begin end octets) all f g (ReadsOut _) refl refl
told_booked o all g other = search

told_accepted : (o : Occasion) (all : Ledgers) (g : Flow) (r : Told) → rows_accepted (ledgers_after o r all) g ≡ given_told g o.life o.items (kept r) (rows_accepted all g)
told_accepted o all g (report.Accepted f number count run) =
    changed given_part o (report.Accepted f number count run) all f g (Accepts run) (same_flow f g) refl refl
    ∙ ap (λ (rows : List Given). rows_if (same_flow f g) rows (rows_accepted all g)) (unplaced_accepted o.life o.now o.place run o.items (ledger_of all g).given)
told_accepted o all g (report.Took f count) = unchanged given_part o (report.Took f count) all f g Takes refl refl
told_accepted o all g (report.Uncertain f count) = unchanged given_part o (report.Uncertain f count) all f g (GivesUp count) refl refl
told_accepted o all g (report.Settled f count window) = unchanged given_part o (report.Settled f count window) all f g (Settles count) refl refl
told_accepted o all g (report.Sent f number count drf begin end) = unchanged given_part o (report.Sent f number count drf begin end) all f g (Transmits count) refl refl
told_accepted o all g (report.Resent f number count drf begin end) = unchanged given_part o (report.Resent f number count drf begin end) all f g TransmitsAgain refl refl
told_accepted o all g (report.Met f number) = unchanged given_part o (report.Met f number) all f g TransmitsAgain refl refl
told_accepted o all g (report.Read f run begin end octets) = unchanged given_part o (report.Read f run begin end octets) all f g (ReadsOut _) refl refl
told_accepted o all g other = search

-- A SCRIPT
pub script_booked : {A B : Type 0} (R : A → B → Type 0) (o : Occasion) (g : Flow) {s : Script Mark A} {t : Script (Unit {0}) B} → Alike R s t → (d : Noted) → rows_told (play (world_handler o) s d).0.ledgers g ≡ book_all g o.life o.items (reports_in (acts_of t)) (rows_told d.ledgers g)
script_booked R o g (done h) d = refl
script_booked R o g (tell {t = t} r h) d = script_booked R o g h (note_told o r d) ∙ ap (book_all g o.life o.items (reports_in (acts_of t))) (told_booked o d.ledgers g r)
script_booked R o g (ask host octets h) d = script_booked R o g (h (mark_of o d.ledgers host octets)) d
script_booked R o g (hand link parcel h) d = script_booked R o g h (note_copy o link parcel d)

pub script_accepted : {A B : Type 0} (R : A → B → Type 0) (o : Occasion) (g : Flow) {s : Script Mark A} {t : Script (Unit {0}) B} → Alike R s t → (d : Noted) → rows_accepted (play (world_handler o) s d).0.ledgers g ≡ given_all g o.life o.items (reports_in (acts_of t)) (rows_accepted d.ledgers g)
script_accepted R o g (done h) d = refl
script_accepted R o g (tell {t = t} r h) d = script_accepted R o g h (note_told o r d) ∙ ap (given_all g o.life o.items (reports_in (acts_of t))) (told_accepted o d.ledgers g r)
script_accepted R o g (ask host octets h) d = script_accepted R o g (h (mark_of o d.ledgers host octets)) d
script_accepted R o g (hand link parcel h) d = script_accepted R o g h (note_copy o link parcel d)

-- WHAT A DATAGRAM BRINGS doesn't depend on what nobody sees of it, nor on its life
unseen : (m k : Mark) (v : PacketValue) → items_with (marked_packet m v) ≡ items_with (marked_packet k v)
unseen m k (Data from_port to_port number drf begin end octets) = refl
unseen m k (Ack from_port to_port number window) = refl
unseen m k (Meet from_port to_port number) = refl
unseen m k (Close from_port to_port number) = refl

pub brings : (m : Mark) (by : ℕ) (octets : List ℕ) → IsGram octets → by < life_of octets → items_with (marked_packet m (value_in (lowered by octets))) ≡ items_with (marked_packet no_mark (value_in octets))
brings m by octets gram below =
    let same : value_in (lowered by octets) ≡ value_in octets = ap (λ (d : DeltagramValue). packet_in d.body) (gram_in_is _ _ (lowered_in by octets gram below)) in
    ap (λ (v : PacketValue). items_with (marked_packet m v)) same ∙ unseen m no_mark (value_in octets)
