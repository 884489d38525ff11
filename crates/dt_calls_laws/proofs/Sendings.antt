-- A send of the world takes its octets, or is refused.
use Rattle.std.proofs.Common.{ℕ, ◌+◌, ◌≡◌, ◌==◌, Bool, true, false, ◌||◌, List, [], ◌∷◌, ◌++◌, length, map, Option, Some, None, refl, ap, sym, subst, ◌∙◌, append_assoc}
use Rattle.std.proofs.lemmas.List.{map-append}
use Rattle.dt_items.specs.declared.item.Item.{Item}
use Rattle.dt_items.specs.Unread.{marked}
use Rattle.dt_units.specs.declared.parameters.Params.{Params}
use Rattle.dt_units.specs.declared.endpoints.Flow.{Flow}
use Rattle.dt_reports.specs.declared.faults.Refusal.{Refusal}
use Rattle.dt_reports.specs.Entries.{Entry}
use Rattle.dt_reports.specs.Told.{Told}
use Rattle.dt_flow_model.specs.Frames.{Mark}
use Rattle.dt_flow_model.specs.Ledger.{item_of, open_row}
use Rattle.dt_world_model.specs.Host.{send_octets}
use Rattle.dt_world_model.specs.Ledgers.{FlowLedger, Ledgers, Occasion, Takes, effect_of, ledger_after, ledger_of, ledgers_after}
use Rattle.dt_world_model.specs.Script.{◌>>=◌, play}
use Rattle.dt_world_model.specs.Station.{Send, Station, happen, settle_station, station_event, station_with, told_sent}
use Rattle.dt_world_model.specs.Tables.{look}
use Rattle.dt_world_model.specs.World.{Noted, Placed, World, note_told, world_handler, world_told}
use Rattle.dt_world_model.specs.WorldStep.{Sends, after_event, event_at, noted_at, occasion}
use Rattle.dt_world_laws.proofs.Plays.{play_bind}
use Rattle.dt_world_laws.proofs.Reported.{entry_changes, entry_stays}
use Rattle.dt_calls_model.specs.Heard.{heard, is_refusal, tells_refusal}
use Rattle.dt_calls_laws.specs.HasRead.{KeepsOctets}
use Rattle.dt_calls_laws.specs.Sent.{SendLeaves, TakesOctets}
use Rattle.dt_calls_laws.proofs.Kept.{keeps_octets, kept_then, octets_kept}
use Rattle.dt_calls_laws.proofs.Octets.{silent_leaves}
use Rattle.dt_calls_laws.proofs.Silence.{refusal_behind, refusal_none, settle_silent, silent_play}

opened : (life : ℕ) (octets : List ℕ) (begin end : Bool) → map item_of (map (open_row life None) (marked octets begin end false)) ≡ marked octets begin end false
opened life [] begin end = refl
opened life (x ∷ []) begin end = refl
opened life (x ∷ y ∷ rest) begin end = ap (λ (is : List Item). (record { octet = x; begin = begin; end = false; run = false }) ∷ is) (opened life (y ∷ rest) false end)

module _ (f : Flow) (octets : List ℕ) (begin end : Bool) where
  -- the one report of a send
  told_leaves : (o : Occasion) (all : Ledgers) (fault : Option Refusal) → o.items ≡ marked octets begin end false
      → let told = told_sent f (length octets) fault in SendLeaves (is_refusal (heard told)) f octets begin end all (ledgers_after o told all)
  told_leaves o all None items =
      let told : Told = told_sent f (length octets) None in
      let l = ledger_of all f in
      let change : TakesOctets octets begin end l (ledger_after o Takes l) = record {
        taken = map-append item_of l.taken (map (open_row o.life None) o.items) ∙ ap (λ (is : List Item). map item_of l.taken ++ map item_of (map (open_row o.life None) is)) items ∙ ap (λ (is : List Item). map item_of l.taken ++ is) (opened o.life octets begin end);
        given = refl;
      } in
      record {
        here = subst (λ (after : FlowLedger). TakesOctets octets begin end l after) (sym (entry_changes o told all f Takes refl).0) change;
        others = λ g apart. subst (λ (after : FlowLedger). KeepsOctets (ledger_of all g) after) (sym (entry_stays o told all f Takes g refl apart).0) (keeps_octets (ledger_of all g));
      }
  told_leaves o all (Some fault) items = λ g. keeps_octets (ledger_of all g)

  -- with what is left before and after it
  leaves_between : (refused : Bool) (all mid next after : Ledgers) → ((g : Flow) → KeepsOctets (ledger_of all g) (ledger_of mid g)) → ((g : Flow) → KeepsOctets (ledger_of next g) (ledger_of after g)) → SendLeaves refused f octets begin end mid next → SendLeaves refused f octets begin end all after
  leaves_between true all mid next after first last h = λ g. kept_then (ledger_of all g) (ledger_of mid g) (ledger_of after g) (first g) (kept_then (ledger_of mid g) (ledger_of next g) (ledger_of after g) (h g) (last g))
  leaves_between false all mid next after first last h = record {
    here = record {
      taken = (last f).taken ∙ h.here.taken ∙ ap (λ (is : List Item). is ++ marked octets begin end false) (first f).taken;
      given = (last f).given ∙ h.here.given ∙ (first f).given;
    };
    others = λ g apart. kept_then (ledger_of all g) (ledger_of mid g) (ledger_of after g) (first g) (kept_then (ledger_of mid g) (ledger_of next g) (ledger_of after g) (h.others g apart) (last g));
  }

  or_nothing : (b : Bool) → (b || false) ≡ b
  or_nothing true = refl
  or_nothing false = refl

  refusal_told : (copies : ℕ) (fault : Option Refusal) → let told = told_sent f (length octets) fault in is_refusal (heard (world_told copies told (effect_of told))) ≡ is_refusal (heard told)
  refusal_told copies None = refl
  refusal_told copies (Some fault) = refl

  station_leaves : (p : Params) (now : ℕ) (o : Occasion) (st : Station Mark) (d : Noted) → o.items ≡ marked octets begin end false → d.lines ≡ []
      → let after = (play (world_handler o) (station_event p now (Send f octets begin end) st) d).0 in SendLeaves (tells_refusal after.lines) f octets begin end d.ledgers after.ledgers
  station_leaves p now o st d items none =
      let handler = world_handler o in
      let one = play handler (settle_station p now st) d in
      let before = one.1 in
      let r = send_octets p now f (marked octets begin end false) before.host in
      let told : Told = told_sent f (length octets) r.0 in
      let mid = note_told o told one.0 in
      let after = station_with r.1 before.relay in
      let e : Entry = record { moment = o.now; node = Some o.node; told = world_told (length one.0.copies) told (effect_of told) } in
      let first = silent_play o (settle_station p now st) d (settle_silent p now st) in
      let last = silent_play o (settle_station p now after) mid (settle_silent p now after) in
      let end_is : (play handler (settle_station p now after) mid).0 ≡ (play handler (station_event p now (Send f octets begin end) st) d).0 =
      sym (ap (λ (n : Noted × Station Mark). n.0) (play_bind handler (settle_station p now st) (λ s. happen p now (Send f octets begin end) s >>= λ t. settle_station p now t) d)) in
      let lines_are : (play handler (settle_station p now after) mid).0.lines ≡ first.lines ++ e ∷ last.lines =
      last.are
      ∙ ap (λ (ls : List Entry). (ls ++ e ∷ []) ++ last.lines) (first.are ∙ ap (λ (ls : List Entry). ls ++ first.lines) none)
      ∙ append_assoc first.lines (e ∷ []) last.lines in
      let refused : tells_refusal (play handler (settle_station p now after) mid).0.lines ≡ is_refusal (heard told) =
      ap tells_refusal lines_are
      ∙ refusal_behind first.lines (e ∷ last.lines) first.silent
      ∙ ap (λ (b : Bool). is_refusal (heard e.told) || b) (refusal_none last.lines last.silent)
      ∙ or_nothing (is_refusal (heard e.told))
      ∙ refusal_told (length one.0.copies) r.0 in
      subst (λ (n : Noted). SendLeaves (tells_refusal n.lines) f octets begin end d.ledgers n.ledgers) end_is
      (subst (λ (b : Bool). SendLeaves b f octets begin end d.ledgers (play handler (settle_station p now after) mid).0.ledgers) (sym refused)
      (leaves_between (is_refusal (heard told)) d.ledgers one.0.ledgers mid.ledgers (play handler (settle_station p now after) mid).0.ledgers
      (λ g. octets_kept _ _ (silent_leaves o (settle_station p now st) d g (settle_silent p now st)))
      (λ g. octets_kept _ _ (silent_leaves o (settle_station p now after) mid g (settle_silent p now after)))
      (told_leaves o one.0.ledgers r.0 items)))

pub send_leaves : (w : World) (f : Flow) (octets : List ℕ) (begin end : Bool) (at : Placed) → look ◌==◌ f.from.0 w.stations ≡ Some at → let r = after_event w (Sends f octets begin end) in SendLeaves (tells_refusal r.0) f octets begin end w.ledgers r.1.ledgers
send_leaves w f octets begin end at there =
    let e = Send f octets begin end in
    subst (λ (place : Option Placed). let r = event_at w f.from.0 e place in SendLeaves (tells_refusal r.0) f octets begin end w.ledgers r.1.ledgers) (sym there)
    (station_leaves f octets begin end w.params (w.now + at.zero) (occasion w f.from.0 e) at.station (noted_at w) refl refl)
