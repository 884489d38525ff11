-- What a station reports that tells no message leaves what was given and read, and the octets that were taken with their marks.
use Rattle.std.proofs.Common.{ℕ, zero, suc, ◌≡◌, Bool, true, false, if◌then◌else◌, List, [], ◌∷◌, map, refl, ap, sym, subst, ◌∙◌}
use Rattle.dt_items.specs.declared.item.Item.{Item}
use Rattle.dt_units.specs.declared.endpoints.Flow.{Flow}
use Rattle.dt_reports.specs.Told.{Told}
use Rattle.dt_reports.specs.Matters as matter
use Rattle.dt_reports.specs.Matters.{Matter, matter_of}
use Rattle.dt_flow_model.specs.Frames.{Mark}
use Rattle.dt_flow_model.specs.declared.rows.Fate.{Fate}
use Rattle.dt_flow_model.specs.declared.rows.Taken.{Taken}
use Rattle.dt_flow_model.specs.Ledger.{first_unsent, is_open_in, item_of, note_first, settle}
use Rattle.dt_world_model.specs.Ledgers.{Accepts, Change, Changes, Effect, FlowLedger, GivesUp, Leaves, Ledgers, Neither, Occasion, ReadsOut, Settles, Takes, Transmits, TransmitsAgain, effect_by, effect_of, ledger_after, ledger_of, ledgers_after, ledgers_by}
use Rattle.dt_world_model.specs.Script.{Script, Done, Tell, Ask, Hand, play}
use Rattle.dt_world_model.specs.Tables.{same_flow}
use Rattle.dt_world_model.specs.World.{Noted, note_copy, note_told, world_handler}
use Rattle.dt_world_model.proofs.Tables.{flow_is}
use Rattle.dt_world_laws.proofs.Reported.{entry_changes, entry_stays}
use Rattle.dt_calls_model.specs.Heard.{heard_by}
use Rattle.dt_calls_laws.specs.Silence.{IsSilent, SameOctets, TellsNoMessage}

pub same_octets : (l : FlowLedger) → SameOctets l l
same_octets l = record { taken = refl; given = refl; reads = refl }

pub octets_then : (l mid after : FlowLedger) → SameOctets l mid → SameOctets mid after → SameOctets l after
octets_then l mid after one two = record { taken = two.taken ∙ one.taken; given = two.given ∙ one.given; reads = two.reads ∙ one.reads }

settle_case : (here : Bool) (fate : Fate) (row : Taken) (one other rows : List Taken) → map item_of one ≡ map item_of rows → map item_of other ≡ map item_of rows → map item_of (if here then (record row { fate = fate }) ∷ one else row ∷ other) ≡ item_of row ∷ map item_of rows
settle_case true fate row one other rows h k = ap (λ (is : List Item). item_of row ∷ is) h
settle_case false fate row one other rows h k = ap (λ (is : List Item). item_of row ∷ is) k

settled_same : (life : ℕ) (fate : Fate) (count : ℕ) (rows : List Taken) → map item_of (settle life fate count rows) ≡ map item_of rows
settled_same life fate zero rows = refl
settled_same life fate (suc count) [] = refl
settled_same life fate (suc count) (row ∷ rows) = settle_case (is_open_in life row) fate row (settle life fate count rows) (settle life fate (suc count) rows) rows (settled_same life fate count rows) (settled_same life fate (suc count) rows)

noted_same : (at place count : ℕ) (rows : List Taken) → map item_of (note_first at place count rows) ≡ map item_of rows
noted_same at zero zero [] = refl
noted_same at zero (suc count) [] = refl
noted_same at (suc place) zero [] = refl
noted_same at (suc place) (suc count) [] = refl
noted_same at zero zero (row ∷ rows) = refl
noted_same at zero (suc count) (row ∷ rows) = ap (λ (is : List Item). item_of row ∷ is) (noted_same at zero count rows)
noted_same at (suc place) zero (row ∷ rows) = ap (λ (is : List Item). item_of row ∷ is) (noted_same at place zero rows)
noted_same at (suc place) (suc count) (row ∷ rows) = ap (λ (is : List Item). item_of row ∷ is) (noted_same at place (suc count) rows)

-- the changes that no message makes
abbrev pub IsQuiet : Change → Type 0
IsQuiet Takes = ⊥
IsQuiet (Transmits count) = Unit {0}
IsQuiet TransmitsAgain = Unit {0}
IsQuiet (GivesUp count) = Unit {0}
IsQuiet (Settles count) = Unit {0}
IsQuiet (Accepts run) = ⊥
IsQuiet (ReadsOut count) = ⊥

-- an effect whose change is among some
abbrev pub OfChange : (Change → Type 0) → Effect → Type 0
OfChange Of (Changes f change) = Of change
OfChange Of (Leaves link life) = Unit {0}
OfChange Of Neither = Unit {0}

-- WHAT HOLDS BETWEEN A LEDGER AND ITSELF, and after each change among some, holds after each report with such a change
module _ (Holds : FlowLedger → FlowLedger → Type 0) (Of : Change → Type 0) (same : (l : FlowLedger) → Holds l l) (changed : (o : Occasion) (change : Change) (l : FlowLedger) → Of change → Holds l (ledger_after o change l)) where
  told_of_flow : (b : Bool) (o : Occasion) (told : Told) (all : Ledgers) (f g : Flow) (change : Change) → same_flow f g ≡ b → effect_of told ≡ Changes f change → Of change → Holds (ledger_of all g) (ledger_of (ledgers_after o told all) g)
  told_of_flow true o told all f g change e is h =
      let here : f ≡ g = flow_is f g e in
      subst (λ (k : Flow). Holds (ledger_of all k) (ledger_of (ledgers_after o told all) k)) here
      (subst (λ (l : FlowLedger). Holds (ledger_of all f) l) (sym (entry_changes o told all f change is).0) (changed o change (ledger_of all f) h))
  told_of_flow false o told all f g change e is h =
      subst (λ (l : FlowLedger). Holds (ledger_of all g) l) (sym (entry_stays o told all f change g is e).0) (same (ledger_of all g))

  pub told_leaves : (o : Occasion) (told : Told) (all : Ledgers) (g : Flow) (effect : Effect) → effect_of told ≡ effect → OfChange Of effect → Holds (ledger_of all g) (ledger_of (ledgers_after o told all) g)
  told_leaves o told all g (Changes f change) e h = told_of_flow (same_flow f g) o told all f g change refl e h
  told_leaves o told all g (Leaves link life) e h = subst (λ (x : Effect). Holds (ledger_of all g) (ledger_of (ledgers_by o x all) g)) (sym e) (same (ledger_of all g))
  told_leaves o told all g Neither e h = subst (λ (x : Effect). Holds (ledger_of all g) (ledger_of (ledgers_by o x all) g)) (sym e) (same (ledger_of all g))

quiet_matter : (m : Matter) → IsSilent (heard_by m) → OfChange IsQuiet (effect_by m)
quiet_matter (matter.Taken f count) h = absurd h
quiet_matter (matter.Refused f fault) h = absurd h
quiet_matter (matter.Transmitted f number count) h = tt
quiet_matter (matter.Retransmitted f) h = tt
quiet_matter (matter.GivenUp f count) h = tt
quiet_matter (matter.Acknowledged f count window) h = tt
quiet_matter (matter.Accepted f number count run) h = absurd h
quiet_matter (matter.Replied f number) h = tt
quiet_matter (matter.Dropped f) h = tt
quiet_matter (matter.ReadOut f run begin end octets) h = absurd h
quiet_matter (matter.NothingRead f) h = tt
quiet_matter (matter.Left link life) h = tt
quiet_matter (matter.Begun life) h = tt
quiet_matter matter.Neither h = tt

pub changed_same : (o : Occasion) (change : Change) (l : FlowLedger) → IsQuiet change → SameOctets l (ledger_after o change l)
changed_same o Takes l h = absurd h
changed_same o (Transmits count) l h = record { taken = noted_same o.now (first_unsent o.life l.taken) count l.taken; given = refl; reads = refl }
changed_same o TransmitsAgain l h = same_octets l
changed_same o (GivesUp count) l h = record { taken = settled_same o.life _ count l.taken; given = refl; reads = refl }
changed_same o (Settles count) l h = record { taken = settled_same o.life _ count l.taken; given = refl; reads = refl }
changed_same o (Accepts run) l h = absurd h
changed_same o (ReadsOut count) l h = absurd h

-- A PLAY without a message
pub silent_leaves : {A : Type 0} (o : Occasion) (s : Script Mark A) (d : Noted) (g : Flow) → TellsNoMessage s → SameOctets (ledger_of d.ledgers g) (ledger_of (play (world_handler o) s d).0.ledgers g)
silent_leaves o (Done a) d g h = same_octets (ledger_of d.ledgers g)
silent_leaves o (Tell r s) d g h =
    let mid = note_told o r d in
    octets_then (ledger_of d.ledgers g) (ledger_of mid.ledgers g) (ledger_of (play (world_handler o) s mid).0.ledgers g) (told_leaves SameOctets IsQuiet same_octets changed_same o r d.ledgers g (effect_of r) refl (quiet_matter (matter_of r) h.0)) (silent_leaves o s mid g h.1)
silent_leaves o (Ask host octets s) d g h = let t = (world_handler o).tag host octets d in silent_leaves o (s t) d g (h t)
silent_leaves o (Hand link parcel s) d g h = silent_leaves o s (note_copy o link parcel d) g h
