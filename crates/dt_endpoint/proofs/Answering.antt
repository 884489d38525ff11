-- What is answered to a send and to a read is what the host answered.
use Rattle.std.proofs.Common.{◌≡◌, ◌∙◌, ◌==◌, ◌+◌, ◌<◌, ◌≤◌, ℕ, Bool, false, List, [], ◌∷◌, length, take, Option, Some, None, arith, refl, sym, ap, subst, inl, inr}
use Rattle.std.specs.Prelude.{◌||◌, nat_le, not}
use Rattle.std.proofs.lemmas.Bool.Decides.{nat_tests}
use Rattle.std.proofs.lemmas.Bool.{cases_Bool, eqb-true, false≢true}
use Rattle.std.proofs.lemmas.List.{length-map}
use Rattle.dt_items.specs.declared.item.Item.{Item}
use Rattle.dt_items.specs.declared.piece.Piece.{Piece as ItemPiece}
use Rattle.dt_items.specs.Unread.{first_piece, marked, octets_of, piece_told}
use Rattle.dt_items.proofs.Pieces.{first_piece-fits}
use Rattle.dt_units.specs.declared.parameters.Params.{Params}
use Rattle.dt_units.specs.declared.endpoints.Flow.{Flow}
use Rattle.dt_reports.specs.declared.faults.Refusal.{Refusal}
use Rattle.dt_reports.specs.declared.faults.Refusal.TheVariants as refusal
use Rattle.dt_flow_model.specs.Keeping.{octets_below}
use Rattle.dt_world_model.specs.WorldStep.{first_refusal}
use Rattle.dt_world_model.specs.Host.{Host, read_octets, read_piece, receiver_at, send_octets}
use Rattle.dt_world_model.specs.Station.{Event, Read, Send, Station, settle_station, station_event, told_piece, told_sent}
use Rattle.dt_endpoint.specs.declared.answers.Sent.{Sent}
use Rattle.dt_endpoint.specs.declared.answers.Delivered.{Delivered}
use Rattle.dt_endpoint.specs.declared.heard_answers.HeardAnswer.{HeardAnswer}
use Rattle.dt_endpoint.specs.declared.heard_answers.HeardAnswer.TheVariants as heard
use Rattle.dt_endpoint.specs.Acts.{answer_of}
use Rattle.dt_endpoint.specs.Hearing.{heard_in, hears, piece_after, piece_in}
use Rattle.dt_endpoint.specs.Endpoints.{EndpointValue, after_event, moment_of, script_of}
use Rattle.dt_endpoint.specs.Calls.{ReadDoes, Reads, SendDoes, Sends, piece_by, piece_of, read_answer, read_refusals, send_answer, send_refusals, sent_by, sent_of, settled}
use Rattle.dt_endpoint.proofs.Mute.{event_heard, event_piece}

pub is_equal : (a b : ℕ) → not (a == b) ≡ false → a ≡ b
is_equal a b e = elim (cases_Bool (a == b)) [ inl y ↦ eqb-true a b y | inr n ↦ absurd (false≢true (sym e ∙ ap not n)) ]

sent_said : (f : Flow) (count : ℕ) (r : Option Refusal) → sent_by (hears (told_sent f count r) heard.Nothing) ≡ sent_of r
sent_said f count None = refl
sent_said f count (Some (refusal.Quiet until)) = refl
sent_said f count (Some (refusal.Full free)) = refl

pub sent_is : (p : Params) (now : ℕ) (f : Flow) (octets : List ℕ) (begin end : Bool) (st : Station (Unit {0})) →
    sent_by (heard_in (station_event p now (Send f octets begin end) st) heard.Nothing) ≡ sent_of (send_octets p now f (marked octets begin end false) (answer_of (settle_station p now st)).host).0
sent_is p now f octets begin end st =
    ap sent_by (event_heard p now (Send f octets begin end) st heard.Nothing)
    ∙ sent_said f (length octets) (send_octets p now f (marked octets begin end false) (answer_of (settle_station p now st)).host).0

piece_said : (f : Flow) (octets : List ℕ) (o : Option ItemPiece) → piece_by (hears (told_piece f octets o) heard.Nothing) ≡ piece_of (length octets) o
piece_said f octets None = refl
piece_said f octets (Some told) = refl

pub piece_is : (p : Params) (now : ℕ) (f : Flow) (room : ℕ) (st : Station (Unit {0})) →
    piece_by (heard_in (station_event p now (Read f room) st) heard.Nothing) ≡ (let items = (read_octets p now f room (answer_of (settle_station p now st)).host).0 in piece_of (length (octets_of items)) (piece_told items))
piece_is p now f room st =
    let items = (read_octets p now f room (answer_of (settle_station p now st)).host).0 in
    ap piece_by (event_heard p now (Read f room) st heard.Nothing) ∙ piece_said f (octets_of items) (piece_told items)

octets_said : (f : Flow) (items : List Item) → piece_after (told_piece f (octets_of items) (piece_told items)) [] ≡ octets_of items
octets_said f [] = refl
octets_said f (i ∷ is) = refl

pub octets_are : (p : Params) (now : ℕ) (f : Flow) (room : ℕ) (st : Station (Unit {0})) →
    piece_in (station_event p now (Read f room) st) [] ≡ octets_of (read_octets p now f room (answer_of (settle_station p now st)).host).0
octets_are p now f room st = event_piece p now (Read f room) st [] ∙ octets_said f (read_octets p now f room (answer_of (settle_station p now st)).host).0

piece_small : (p : Params) (now : ℕ) (f : Flow) (room : ℕ) (items : List Item) (host : Host) → length items ≤ room → length (octets_of (read_piece p now f items host).0) ≤ room
piece_small p now f room [] host h = omega arith
piece_small p now f room (i ∷ is) host h = let same : length (octets_of (i ∷ is)) ≡ length (i ∷ is) = length-map (i ∷ is) (λ (item : Item). item.octet) in omega (arith, same, h)

pub octets_fit : (p : Params) (now : ℕ) (f : Flow) (room : ℕ) (host : Host) → length (octets_of (read_octets p now f room host).0) ≤ room
octets_fit p now f room host =
    let items = (receiver_at host f).unread in
    piece_small p now f room (first_piece room items) host (first_piece-fits room items)

-- what was heard, and the answer by it
pub send_does : (h : HeardAnswer) (now : ℕ) (refused : Option Refusal) (event : Event (Unit {0})) (e f : EndpointValue) → sent_by h ≡ sent_of refused → f ≡ after_event now event e → SendDoes (sent_by h) now refused event e f
send_does heard.Nothing now refused event e f same after = (same, after)
send_does heard.Took now refused event e f same after = (same, after)
send_does (heard.Refused (refusal.Quiet until)) now refused event e f same after = (same, after)
send_does (heard.Refused (refusal.Full free)) now refused event e f same after = (same, after)
send_does heard.NoPiece now refused event e f same after = (same, after)
send_does (heard.Piece read) now refused event e f same after = (same, after)

pub read_does : (h : HeardAnswer) (now : ℕ) (items : List Item) (event : Event (Unit {0})) (buf : List ℕ) (e f : EndpointValue) → piece_by h ≡ piece_of (length (octets_of items)) (piece_told items) → take (length (octets_of items)) buf ≡ octets_of items → f ≡ after_event now event e → ReadDoes (piece_by h) now items event buf e f
read_does heard.Nothing now items event buf e f same octets after = (same, octets, after)
read_does heard.Took now items event buf e f same octets after = (same, octets, after)
read_does (heard.Refused fault) now items event buf e f same octets after = (same, octets, after)
read_does heard.NoPiece now items event buf e f same octets after = (same, octets, after)
read_does (heard.Piece read) now items event buf e f same octets after = (same, octets, after)

-- NOTHING REFUSES a call
both_false : (a b : Bool) → a ≡ false → b ≡ false → (a || b) ≡ false
both_false a b h k = rw h k

pub send_unrefused : (flow : Flow) (octets : List ℕ) (e : EndpointValue) → e.spent ≡ false → not (flow.from.0 == e.state.host.me) ≡ false → (flow.to.0 == e.state.host.me) ≡ false → (length octets == 0) ≡ false → e.asked + length octets < octets_below → first_refusal (send_refusals flow octets e) ≡ None
send_unrefused flow octets e unspent from to some few =
    let wrong = both_false (not (flow.from.0 == e.state.host.me)) (flow.to.0 == e.state.host.me) from to in
    let many : nat_le octets_below (e.asked + length octets) ≡ false = grind (arith, nat_tests) in
    rw (unspent, wrong, some, many) refl

pub read_unrefused : (flow : Flow) (room : ℕ) (e : EndpointValue) → e.spent ≡ false → not (flow.to.0 == e.state.host.me) ≡ false → (flow.from.0 == e.state.host.me) ≡ false → (room == 0) ≡ false → first_refusal (read_refusals flow room e) ≡ None
read_unrefused flow room e unspent to from some =
    let wrong = both_false (not (flow.to.0 == e.state.host.me)) (flow.from.0 == e.state.host.me) to from in
    rw (unspent, wrong, some) refl

pub send_done : (now : ℕ) (flow : Flow) (octets : List ℕ) (begin end : Bool) (e f : EndpointValue) (answer : Sent) (h : HeardAnswer) → first_refusal (send_refusals flow octets e) ≡ None → answer ≡ sent_by h → h ≡ heard_in (script_of now (Send flow octets begin end) e) heard.Nothing → f ≡ after_event now (Send flow octets begin end) e → Sends answer now flow octets begin end e f
send_done now flow octets begin end e f answer h unrefused is heard after =
    let same = ap sent_by heard ∙ sent_is e.rules (moment_of now e) flow octets begin end e.state in
    let refused = send_answer now flow octets begin end e in
    let event = Send flow octets begin end in
    rw unrefused (subst (λ (a : Sent). SendDoes a now refused event e f) (sym is) (send_does h now refused event e f same after))

pub read_done : (now : ℕ) (flow : Flow) (room : ℕ) (buf : List ℕ) (e f : EndpointValue) (answer : Delivered) (h : HeardAnswer) → first_refusal (read_refusals flow room e) ≡ None → answer ≡ piece_by h → h ≡ heard_in (script_of now (Read flow room) e) heard.Nothing → (length (piece_in (script_of now (Read flow room) e) []) ≤ room → take (length (piece_in (script_of now (Read flow room) e) [])) buf ≡ piece_in (script_of now (Read flow room) e) []) → f ≡ after_event now (Read flow room) e → Reads answer now flow room buf e f
read_done now flow room buf e f answer h unrefused is heard octets after =
    let items = read_answer now flow room e in
    let event = Read flow room in
    let same = ap piece_by heard ∙ piece_is e.rules (moment_of now e) flow room e.state in
    let are : piece_in (script_of now event e) [] ≡ octets_of items = octets_are e.rules (moment_of now e) flow room e.state in
    let read = subst (λ (xs : List ℕ). length xs ≤ room → take (length xs) buf ≡ xs) are octets (octets_fit e.rules (moment_of now e) flow room (settled now e).host) in
    rw unrefused (subst (λ (a : Delivered). ReadDoes a now items event buf e f) (sym is) (read_does h now items event buf e f same read after))
