-- A read of the world leaves the octets that each flow took and gave.
use Rattle.std.proofs.Common.{ℕ, ◌+◌, ◌≡◌, ◌==◌, Bool, true, false, List, [], ◌∷◌, length, Option, Some, refl, ap, sym, subst, ◌∙◌}
use Rattle.dt_items.specs.declared.item.Item.{Item}
use Rattle.dt_items.specs.Unread.{first_piece, octets_of, piece_told}
use Rattle.dt_units.specs.declared.parameters.Params.{Params}
use Rattle.dt_units.specs.declared.endpoints.Flow.{Flow}
use Rattle.dt_reports.specs.Told.{Told}
use Rattle.dt_flow_model.specs.Frames.{Mark}
use Rattle.dt_world_model.specs.Host.{read_piece}
use Rattle.dt_world_model.specs.Ledgers.{Changes, FlowLedger, Ledgers, Occasion, ReadsOut, effect_of, ledger_after, ledger_of, ledgers_after}
use Rattle.dt_world_model.specs.Script.{◌>>=◌, play}
use Rattle.dt_world_model.specs.Station.{Read, Station, happen, settle_station, station_event, station_with, told_piece}
use Rattle.dt_world_model.specs.Tables.{look, same_flow}
use Rattle.dt_world_model.specs.World.{Noted, Placed, World, note_told, world_handler}
use Rattle.dt_world_model.specs.WorldStep.{Reads, after_event, event_at, noted_at, occasion}
use Rattle.dt_world_model.proofs.Tables.{flow_is}
use Rattle.dt_world_laws.proofs.Plays.{play_bind}
use Rattle.dt_world_laws.proofs.Reported.{entry_changes, entry_stays}
use Rattle.dt_calls_laws.specs.HasRead.{KeepsOctets, unread_at}
use Rattle.dt_calls_laws.specs.Silence.{SameOctets}
use Rattle.dt_calls_laws.proofs.Octets.{silent_leaves}
use Rattle.dt_calls_laws.proofs.Silence.{settle_silent}

pub keeps_octets : (l : FlowLedger) → KeepsOctets l l
keeps_octets l = record { taken = refl; given = refl }

pub octets_kept : (l after : FlowLedger) → SameOctets l after → KeepsOctets l after
octets_kept l after h = record { taken = h.taken; given = h.given }

pub kept_then : (l mid after : FlowLedger) → KeepsOctets l mid → KeepsOctets mid after → KeepsOctets l after
kept_then l mid after one two = record { taken = two.taken ∙ one.taken; given = two.given ∙ one.given }

-- a report that counts what was read
counted : (b : Bool) (o : Occasion) (told : Told) (all : Ledgers) (f g : Flow) (count : ℕ) → same_flow f g ≡ b → effect_of told ≡ Changes f (ReadsOut count) → KeepsOctets (ledger_of all g) (ledger_of (ledgers_after o told all) g)
counted true o told all f g count e is =
    let here : f ≡ g = flow_is f g e in
    let change : KeepsOctets (ledger_of all f) (ledger_after o (ReadsOut count) (ledger_of all f)) = record { taken = refl; given = refl } in
    subst (λ (k : Flow). KeepsOctets (ledger_of all k) (ledger_of (ledgers_after o told all) k)) here
    (subst (λ (l : FlowLedger). KeepsOctets (ledger_of all f) l) (sym (entry_changes o told all f (ReadsOut count) is).0) change)
counted false o told all f g count e is =
    subst (λ (l : FlowLedger). KeepsOctets (ledger_of all g) l) (sym (entry_stays o told all f (ReadsOut count) g is e).0) (keeps_octets (ledger_of all g))

piece_keeps : (o : Occasion) (all : Ledgers) (f g : Flow) (items : List Item) → KeepsOctets (ledger_of all g) (ledger_of (ledgers_after o (told_piece f (octets_of items) (piece_told items)) all) g)
piece_keeps o all f g [] = keeps_octets (ledger_of all g)
piece_keeps o all f g (i ∷ is) = counted (same_flow f g) o (told_piece f (octets_of (i ∷ is)) (piece_told (i ∷ is))) all f g (length (octets_of (i ∷ is))) refl refl

station_keeps : (p : Params) (now : ℕ) (o : Occasion) (f g : Flow) (most : ℕ) (st : Station Mark) (d : Noted) → KeepsOctets (ledger_of d.ledgers g) (ledger_of (play (world_handler o) (station_event p now (Read f most) st) d).0.ledgers g)
station_keeps p now o f g most st d =
    let handler = world_handler o in
    let one = play handler (settle_station p now st) d in
    let before = one.1 in
    let r = read_piece p now f (first_piece most (unread_at before.host f)) before.host in
    let told : Told = told_piece f (octets_of r.0) (piece_told r.0) in
    let mid = note_told o told one.0 in
    let after = station_with r.1 before.relay in
    let last = (play handler (settle_station p now after) mid).0 in
    let ends : last ≡ (play handler (station_event p now (Read f most) st) d).0 = sym (ap (λ (n : Noted × Station Mark). n.0) (play_bind handler (settle_station p now st) (λ s. happen p now (Read f most) s >>= λ t. settle_station p now t) d)) in
    subst (λ (n : Noted). KeepsOctets (ledger_of d.ledgers g) (ledger_of n.ledgers g)) ends
    (kept_then (ledger_of d.ledgers g) (ledger_of one.0.ledgers g) (ledger_of last.ledgers g) (octets_kept _ _ (silent_leaves o (settle_station p now st) d g (settle_silent p now st)))
    (kept_then (ledger_of one.0.ledgers g) (ledger_of mid.ledgers g) (ledger_of last.ledgers g) (piece_keeps o one.0.ledgers f g r.0)
    (octets_kept _ _ (silent_leaves o (settle_station p now after) mid g (settle_silent p now after)))))

pub read_keeps_octets : (w : World) (f g : Flow) (most : ℕ) (at : Placed) → look ◌==◌ f.to.0 w.stations ≡ Some at → KeepsOctets (ledger_of w.ledgers g) (ledger_of (after_event w (Reads f most)).1.ledgers g)
read_keeps_octets w f g most at there =
    subst (λ (place : Option Placed). KeepsOctets (ledger_of w.ledgers g) (ledger_of (event_at w f.to.0 (Read f most) place).1.ledgers g)) (sym there)
    (station_keeps w.params (w.now + at.zero) (occasion w f.to.0 (Read f most)) f g most at.station (noted_at w))
