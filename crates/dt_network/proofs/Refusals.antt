-- Whether a script tells that a send was refused: a station of the world and an endpoint tell the same.
use Rattle.std.proofs.Common.{◌≡◌, ◌∙◌, ℕ, Bool, true, false, List, [], ◌∷◌, ◌++◌, length, Option, Some, None, refl, sym, ap}
use Rattle.std.specs.Prelude.{◌||◌}
use Rattle.dt_items.specs.Unread.{marked}
use Rattle.dt_units.specs.declared.endpoints.Flow.{Flow}
use Rattle.dt_units.specs.declared.parameters.Params.{Params}
use Rattle.dt_reports.specs.declared.faults.Refusal.{Refusal}
use Rattle.dt_reports.specs.declared.reports.Report.TheVariants as report
use Rattle.dt_reports.specs.Entries.{Entry}
use Rattle.dt_reports.specs.Told.{Told}
use Rattle.dt_flow_model.specs.Frames.{Mark}
use Rattle.dt_world_model.specs.Host.{send_octets}
use Rattle.dt_world_model.specs.Ledgers.{Occasion, effect_of, mark_of}
use Rattle.dt_world_model.specs.Script.{Ask, Done, Hand, Script, Tell, ◌>>=◌, play}
use Rattle.dt_world_model.specs.Station.{Send, Station, happen, settle_station, station_event, station_with, told_sent}
use Rattle.dt_world_model.specs.Tags.{Alike, ask, done, hand, tell}
use Rattle.dt_world_model.specs.World.{Noted, note_copy, note_told, world_handler, world_told}
use Rattle.dt_calls_laws.proofs.Silence.{settle_silent}
use Rattle.dt_calls_laws.specs.Silence.{IsSilent, TellsNoMessage}
use Rattle.dt_calls_model.specs.Heard as heard
use Rattle.dt_calls_model.specs.Heard.{Heard, is_refusal, tells_refusal}
use Rattle.dt_endpoint.specs.Acts.{answer_of}

abbrev pub refuses : {A : Type 0} → Script (Unit {0}) A → Bool
refuses (Done a) = false
refuses (Tell r s) = is_refusal (heard.heard r) || refuses s
refuses (Ask host octets s) = refuses (s tt)
refuses (Hand link parcel s) = refuses s

or_assoc : (a b c : Bool) → ((a || b) || c) ≡ (a || (b || c))
or_assoc true b c = refl
or_assoc false b c = refl

or_none : (a : Bool) → (a || false) ≡ a
or_none true = refl
or_none false = refl

more_lines : (xs : List Entry) (e : Entry) → tells_refusal (xs ++ e ∷ []) ≡ (tells_refusal xs || is_refusal (heard.heard e.told))
more_lines [] e = or_none (is_refusal (heard.heard e.told))
more_lines (x ∷ xs) e = ap (λ (b : Bool). is_refusal (heard.heard x.told) || b) (more_lines xs e) ∙ sym (or_assoc (is_refusal (heard.heard x.told)) (tells_refusal xs) (is_refusal (heard.heard e.told)))

-- where a packet leaves, the world reports the number of its copy too, and neither is a refusal
as_told : (copies : ℕ) (r : Told) → is_refusal (heard.heard (world_told copies r (effect_of r))) ≡ is_refusal (heard.heard r)
as_told copies (report.Put link life) = refl
as_told copies other = search

-- THE LINES of the world are those of the endpoint's script
pub refused_alike : {A B : Type 0} (R : A → B → Type 0) (o : Occasion) {s : Script Mark A} {t : Script (Unit {0}) B} → Alike R s t → (d : Noted) → tells_refusal (play (world_handler o) s d).0.lines ≡ (tells_refusal d.lines || refuses t)
refused_alike R o (done h) d = sym (or_none (tells_refusal d.lines))
refused_alike R o (tell {t = t} r h) d =
    let e : Entry = record { moment = o.now; node = Some o.node; told = world_told (length d.copies) r (effect_of r) } in
    refused_alike R o h (note_told o r d)
    ∙ ap (λ (b : Bool). b || refuses t) (more_lines d.lines e ∙ ap (λ (b : Bool). tells_refusal d.lines || b) (as_told (length d.copies) r))
    ∙ or_assoc (tells_refusal d.lines) (is_refusal (heard.heard r)) (refuses t)
refused_alike R o (ask host octets h) d = refused_alike R o (h (mark_of o d.ledgers host octets)) d
refused_alike R o (hand link parcel h) d = refused_alike R o h (note_copy o link parcel d)

-- A SEND of an endpoint tells what its host answers
silent_is_none : (h : Heard) → IsSilent h → is_refusal h ≡ false
silent_is_none (heard.APiece p) k = refl
silent_is_none heard.ATaking k = refl
silent_is_none heard.ARefusal k = absurd k
silent_is_none (heard.AnAcceptance f) k = refl
silent_is_none (heard.ALoss f) k = refl
silent_is_none heard.NoMessage k = refl

silent_refuses : {A : Type 0} (s : Script (Unit {0}) A) → TellsNoMessage s → refuses s ≡ false
silent_refuses (Done a) h = refl
silent_refuses (Tell r s) h = ap (λ (b : Bool). b || refuses s) (silent_is_none (heard.heard r) h.0) ∙ silent_refuses s h.1
silent_refuses (Ask host octets s) h = silent_refuses (s tt) (h tt)
silent_refuses (Hand link parcel s) h = silent_refuses s h

refuses_then : {A B : Type 0} (s : Script (Unit {0}) A) (k : A → Script (Unit {0}) B) → refuses (s >>= k) ≡ (refuses s || refuses (k (answer_of s)))
refuses_then (Done a) k = refl
refuses_then (Tell r s) k = ap (λ (b : Bool). is_refusal (heard.heard r) || b) (refuses_then s k) ∙ sym (or_assoc (is_refusal (heard.heard r)) (refuses s) (refuses (k (answer_of s))))
refuses_then (Ask host octets s) k = refuses_then (s tt) k
refuses_then (Hand link parcel s) k = refuses_then s k

abbrev pub is_refused : Option Refusal → Bool
is_refused None = false
is_refused (Some fault) = true

told_refused : (f : Flow) (count : ℕ) (r : Option Refusal) → is_refusal (heard.heard (told_sent f count r)) ≡ is_refused r
told_refused f count None = refl
told_refused f count (Some fault) = refl

pub send_refused : (p : Params) (now : ℕ) (f : Flow) (octets : List ℕ) (begin end : Bool) (st : Station (Unit {0})) → refuses (station_event p now (Send f octets begin end) st) ≡ is_refused (send_octets p now f (marked octets begin end false) (answer_of (settle_station p now st)).host).0
send_refused p now f octets begin end st =
    let before = answer_of (settle_station p now st) in
    let r = send_octets p now f (marked octets begin end false) before.host in
    let after : Station (Unit {0}) = station_with r.1 before.relay in
    refuses_then (settle_station p now st) (λ x. happen p now (Send f octets begin end) x >>= λ y. settle_station p now y)
    ∙ ap (λ (b : Bool). b || (is_refusal (heard.heard (told_sent f (length octets) r.0)) || refuses (settle_station p now after))) (silent_refuses (settle_station p now st) (settle_silent p now st))
    ∙ ap (λ (b : Bool). is_refusal (heard.heard (told_sent f (length octets) r.0)) || b) (silent_refuses (settle_station p now after) (settle_silent p now after))
    ∙ or_none (is_refusal (heard.heard (told_sent f (length octets) r.0)))
    ∙ told_refused f (length octets) r.0
