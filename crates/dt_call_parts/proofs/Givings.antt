-- An event whose lines tell no data of a flow gives and reads none of it: so what is unread of it stays, where the reader doesn't start again.
use Rattle.std.proofs.Common.{ℕ, ◌+◌, ◌≡◌, ◌==◌, Bool, true, false, List, [], ◌∷◌, ◌++◌, drop, length, Option, Some, None, refl, ap, sym, subst, ◌∙◌, inl, inr, ◌⊎◌, append_assoc, append-nil}
use Rattle.std.specs.Prelude.{unwrap_or}
use Rattle.std.proofs.lemmas.Bool.{cases_Bool}
use Rattle.dt_units.specs.declared.endpoints.Flow.{Flow}
use Rattle.dt_reports.specs.Entries.{Entry}
use Rattle.dt_reports.specs.Told.{Told}
use Rattle.dt_reports.specs.declared.faults.StepFault.{StepFault}
use Rattle.dt_reports.specs.declared.reports.Report.TheVariants as report
use Rattle.dt_flow_model.specs.Frames.{Mark}
use Rattle.dt_flow_model.specs.Ledger.{given_in, read_in}
use Rattle.dt_world_model.specs.Host.{first_host}
use Rattle.dt_world_model.specs.Ledgers.{Accepts, Change, Changes, Effect, FlowLedger, GivesUp, Leaves, Ledgers, Neither, Occasion, ReadsOut, Settles, Takes, Transmits, TransmitsAgain, effect_of, ledger_after, ledger_of, ledgers_after, ledgers_by}
use Rattle.dt_world_model.specs.Relay.{new_relay}
use Rattle.dt_world_model.specs.Script.{Script, Done, Tell, Ask, Hand, play}
use Rattle.dt_world_model.specs.Station.{Event, Arrive, Read, Send, Tick, station_event, station_with}
use Rattle.dt_world_model.specs.Tables.{look, same_flow, write}
use Rattle.dt_world_model.specs.World.{Noted, Placed, World, note_copy, note_told, placed, world_handler, world_told}
use Rattle.dt_world_model.specs.WorldFacts.{CanHappen, WorldFacts}
use Rattle.dt_world_model.specs.WorldStep.{Arrives, Loses, Passes, Reads, Restarts, Sends, Ticks, WorldEvent, after_event, copy_at, event_at, first_refusal, link_for, noted_at, occasion, refusals, restart_at, step_unless, then_step}
use Rattle.dt_world_model.proofs.Tables.{flow_is, look_write, look_write_other, nat_is, nat_self}
use Rattle.dt_world_laws.proofs.Promise.{facts_are_safe}
use Rattle.dt_world_laws.proofs.Reported.{entry_changes, entry_stays}
use Rattle.dt_calls_model.specs.Heard.{ALoss, APiece, ARefusal, ATaking, AnAcceptance, Heard, NoMessage, heard}
use Rattle.dt_calls_model.specs.Reads.{happens}
use Rattle.dt_call_parts.specs.Kept.{IsKeptWorld}
use Rattle.dt_call_parts.proofs.Worlds.{happens_keeps, unread_in}

-- a line that tells no piece, and no data of the flow
abbrev pub GivesNone : Flow → Heard → Type 0
GivesNone g (APiece piece) = ⊥
GivesNone g ATaking = Unit {0}
GivesNone g ARefusal = Unit {0}
GivesNone g (AnAcceptance f) = same_flow f g ≡ false
GivesNone g (ALoss f) = Unit {0}
GivesNone g NoMessage = Unit {0}

abbrev pub AllGiveNone : Flow → List Entry → Type 0
AllGiveNone g [] = Unit {0}
AllGiveNone g (e ∷ es) = GivesNone g (heard e.told) × AllGiveNone g es

-- two ledgers of a flow with the same octets given and read
pub record SameReads (l after : FlowLedger) : Type 0 where
  pub given : after.given ≡ l.given
  pub reads : after.reads ≡ l.reads

same_reads : (l : FlowLedger) → SameReads l l
same_reads l = record { given = refl; reads = refl }

reads_then : (l mid after : FlowLedger) → SameReads l mid → SameReads mid after → SameReads l after
reads_then l mid after one two = record { given = two.given ∙ one.given; reads = two.reads ∙ one.reads }

-- changes that give and read nothing
abbrev IsTacit : Change → Type 0
IsTacit Takes = Unit {0}
IsTacit (Transmits count) = Unit {0}
IsTacit TransmitsAgain = Unit {0}
IsTacit (GivesUp count) = Unit {0}
IsTacit (Settles count) = Unit {0}
IsTacit (Accepts run) = ⊥
IsTacit (ReadsOut count) = ⊥

tacit_same : (o : Occasion) (change : Change) (l : FlowLedger) → IsTacit change → SameReads l (ledger_after o change l)
tacit_same o Takes l h = record { given = refl; reads = refl }
tacit_same o (Transmits count) l h = record { given = refl; reads = refl }
tacit_same o TransmitsAgain l h = record { given = refl; reads = refl }
tacit_same o (GivesUp count) l h = record { given = refl; reads = refl }
tacit_same o (Settles count) l h = record { given = refl; reads = refl }
tacit_same o (Accepts run) l h = absurd h
tacit_same o (ReadsOut count) l h = absurd h

-- it gives and reads nothing of the flow
abbrev TacitFor : Flow → Effect → Type 0
TacitFor g (Changes f change) = IsTacit change ⊎ (same_flow f g ≡ false)
TacitFor g (Leaves link life) = Unit {0}
TacitFor g Neither = Unit {0}

tacit_told : (g : Flow) (copies : ℕ) (r : Told) → GivesNone g (heard (world_told copies r (effect_of r))) → TacitFor g (effect_of r)
tacit_told g copies (report.Accepted f number count run) h = inr h
tacit_told g copies (report.Read f run begin end octets) h = absurd h
tacit_told g copies (report.Took f count) h = inl tt
tacit_told g copies (report.Sent f number count drf begin end) h = inl tt
tacit_told g copies (report.Resent f number count drf begin end) h = inl tt
tacit_told g copies (report.Met f number) h = inl tt
tacit_told g copies (report.Uncertain f count) h = inl tt
tacit_told g copies (report.Settled f count window) h = inl tt
tacit_told g copies other h = tt

module _ (o : Occasion) (told : Told) (all : Ledgers) (g : Flow) where
  flow_case : (b : Bool) (f : Flow) (change : Change) → same_flow f g ≡ b → effect_of told ≡ Changes f change → IsTacit change ⊎ (same_flow f g ≡ false) → SameReads (ledger_of all g) (ledger_of (ledgers_after o told all) g)
  flow_case false f change e is h = subst (λ (l : FlowLedger). SameReads (ledger_of all g) l) (sym (entry_stays o told all f change g is e).0) (same_reads (ledger_of all g))
  flow_case true f change e is (inr apart) = absurd cc
  flow_case true f change e is (inl tacit) =
      let here : f ≡ g = flow_is f g e in
      subst (λ (k : Flow). SameReads (ledger_of all k) (ledger_of (ledgers_after o told all) k)) here
      (subst (λ (l : FlowLedger). SameReads (ledger_of all f) l) (sym (entry_changes o told all f change is).0) (tacit_same o change (ledger_of all f) tacit))

  told_case : (effect : Effect) → effect_of told ≡ effect → TacitFor g effect → SameReads (ledger_of all g) (ledger_of (ledgers_after o told all) g)
  told_case (Changes f change) e h = flow_case (same_flow f g) f change refl e h
  told_case (Leaves link life) e h = subst (λ (x : Effect). SameReads (ledger_of all g) (ledger_of (ledgers_by o x all) g)) (sym e) (same_reads (ledger_of all g))
  told_case Neither e h = subst (λ (x : Effect). SameReads (ledger_of all g) (ledger_of (ledgers_by o x all) g)) (sym e) (same_reads (ledger_of all g))

-- A PLAY and its lines
record HasPlayed (g : Flow) (d after : Noted) : Type 0 where
  more : List Entry
  lines : after.lines ≡ d.lines ++ more
  same : AllGiveNone g more → SameReads (ledger_of d.ledgers g) (ledger_of after.ledgers g)

plays : {A : Type 0} (o : Occasion) (g : Flow) (s : Script Mark A) (d : Noted) → HasPlayed g d (play (world_handler o) s d).0
plays o g (Done a) d = record { more = []; lines = sym (append-nil d.lines); same = λ h. same_reads (ledger_of d.ledgers g) }
plays o g (Tell r s) d =
    let mid = note_told o r d in
    let rest = plays o g s mid in
    let e : Entry = record { moment = o.now; node = Some o.node; told = world_told (length d.copies) r (effect_of r) } in
    record {
      more = e ∷ rest.more;
      lines = rest.lines ∙ append_assoc d.lines (e ∷ []) rest.more;
      same = λ h. reads_then (ledger_of d.ledgers g) (ledger_of mid.ledgers g) (ledger_of (play (world_handler o) s mid).0.ledgers g) (told_case o r d.ledgers g (effect_of r) refl (tacit_told g (length d.copies) r h.0)) (rest.same h.1);
    }
plays o g (Ask host octets s) d = plays o g (s ((world_handler o).tag host octets d)) d
plays o g (Hand link parcel s) d = let rest = plays o g s (note_copy o link parcel d) in record { more = rest.more; lines = rest.lines; same = rest.same }

-- EVENTS of the world
module _ (w : World) (g : Flow) where
  event_same : (n : ℕ) (e : Event Mark) (o : Option Placed) → AllGiveNone g (event_at w n e o).0 → SameReads (ledger_of w.ledgers g) (ledger_of (event_at w n e o).1.ledgers g)
  event_same n e None h = same_reads (ledger_of w.ledgers g)
  event_same n e (Some at) h =
      let played = plays (occasion w n e) g (station_event w.params (w.now + at.zero) e at.station) (noted_at w) in
      played.same (subst (AllGiveNone g) played.lines h)

  restart_same : (n : ℕ) (o : Option Placed) → SameReads (ledger_of w.ledgers g) (ledger_of (restart_at w n o).1.ledgers g)
  restart_same n None = same_reads (ledger_of w.ledgers g)
  restart_same n (Some at) = same_reads (ledger_of w.ledgers g)

  after_same : (e : WorldEvent) → AllGiveNone g (after_event w e).0 → SameReads (ledger_of w.ledgers g) (ledger_of (after_event w e).1.ledgers g)
  after_same (Passes by) h = same_reads (ledger_of w.ledgers g)
  after_same (Sends f octets begin end) h = event_same f.from.0 (Send f octets begin end) (look ◌==◌ f.from.0 w.stations) h
  after_same (Reads f most) h = event_same f.to.0 (Read f most) (look ◌==◌ f.to.0 w.stations) h
  after_same (Ticks n) h = event_same n Tick (look ◌==◌ n w.stations) h
  after_same (Arrives k) h = event_same (link_for w k).to (Arrive (copy_at w k).link (copy_at w k).parcel) (look ◌==◌ (link_for w k).to w.stations) h
  after_same (Loses k) h = same_reads (ledger_of w.ledgers g)
  after_same (Restarts n) h = restart_same n (look ◌==◌ n w.stations)

  -- lives stay, but where a station starts again
  abbrev or_first : ℕ → Option Placed → Placed
  or_first n o = unwrap_or o (record { zero = 0; life = 0; station = station_with (first_host n) (new_relay [] [] []) })

  same_life : (n m : ℕ) (at new : Placed) → look ◌==◌ n w.stations ≡ Some at → new.life ≡ at.life → (or_first m (look ◌==◌ m (write ◌==◌ n new w.stations))).life ≡ (or_first m (look ◌==◌ m w.stations)).life
  same_life n m at new there same =
      elim (cases_Bool (n == m)) [
        | inl y ↦
            subst (λ (k : ℕ). (or_first k (look ◌==◌ k (write ◌==◌ n new w.stations))).life ≡ (or_first k (look ◌==◌ k w.stations)).life) (nat_is n m y)
            (ap (λ (o : Option Placed). (or_first n o).life) (look_write ℕ Placed ◌==◌ nat_self nat_is n new w.stations) ∙ same ∙ ap (λ (o : Option Placed). (or_first n o).life) (sym there))
        | inr other ↦ ap (λ (o : Option Placed). (or_first m o).life) (look_write_other ℕ Placed ◌==◌ nat_self nat_is m n new w.stations other)
      ]

  event_life : (n m : ℕ) (e : Event Mark) (o : Option Placed) → look ◌==◌ n w.stations ≡ o → (placed (event_at w n e o).1 m).life ≡ (placed w m).life
  event_life n m e None there = refl
  event_life n m e (Some at) there =
      let r = play (world_handler (occasion w n e)) (station_event w.params (w.now + at.zero) e at.station) (noted_at w) in
      same_life n m at (record { zero = at.zero; life = at.life; station = r.1 }) there refl

  abbrev pub IsNoRestart : WorldEvent → Type 0
  IsNoRestart (Passes by) = Unit {0}
  IsNoRestart (Sends f octets begin end) = Unit {0}
  IsNoRestart (Reads f most) = Unit {0}
  IsNoRestart (Ticks n) = Unit {0}
  IsNoRestart (Arrives copy) = Unit {0}
  IsNoRestart (Loses copy) = Unit {0}
  IsNoRestart (Restarts n) = ⊥

  after_life : (m : ℕ) (e : WorldEvent) → IsNoRestart e → (placed (after_event w e).1 m).life ≡ (placed w m).life
  after_life m (Passes by) h = refl
  after_life m (Sends f octets begin end) h = event_life f.from.0 m (Send f octets begin end) (look ◌==◌ f.from.0 w.stations) refl
  after_life m (Reads f most) h = event_life f.to.0 m (Read f most) (look ◌==◌ f.to.0 w.stations) refl
  after_life m (Ticks n) h = event_life n m Tick (look ◌==◌ n w.stations) refl
  after_life m (Arrives k) h = event_life (link_for w k).to m (Arrive (copy_at w k).link (copy_at w k).parcel) (look ◌==◌ (link_for w k).to w.stations) refl
  after_life m (Loses k) h = refl
  after_life m (Restarts n) h = absurd h

  -- a step, refused or not
  record IsQuietFor (after : World) : Type 0 where
    reads : SameReads (ledger_of w.ledgers g) (ledger_of after.ledgers g)
    life : (placed after g.to.0).life ≡ (placed w g.to.0).life

  quiet_unless : (e : WorldEvent) → IsNoRestart e → (o : Option StepFault) → AllGiveNone g (then_step ([], w) (step_unless o (after_event w e))).0 → IsQuietFor (then_step ([], w) (step_unless o (after_event w e))).1
  quiet_unless e living None h = record { reads = after_same e h; life = after_life g.to.0 e living }
  quiet_unless e living (Some fault) h = record { reads = same_reads (ledger_of w.ledgers g); life = refl }

  quiet_unread : (after : World) → WorldFacts w → WorldFacts after → IsQuietFor after → unread_in after g ≡ unread_in w g
  quiet_unread after facts later quiet =
      (facts_are_safe after g later).unread
      ∙ ap (λ (life : ℕ). drop (read_in life (ledger_of after.ledgers g).reads) (given_in life (ledger_of after.ledgers g).given)) quiet.life
      ∙ ap (λ rows. drop (read_in (placed w g.to.0).life rows) (given_in (placed w g.to.0).life (ledger_of after.ledgers g).given)) quiet.reads.reads
      ∙ ap (λ rows. drop (read_in (placed w g.to.0).life (ledger_of w.ledgers g).reads) (given_in (placed w g.to.0).life rows)) quiet.reads.given
      ∙ sym (facts_are_safe w g facts).unread

  pub still_unread : (e : WorldEvent) → IsKeptWorld w → CanHappen e → IsNoRestart e → AllGiveNone g (happens e w).0 → unread_in (happens e w).1 g ≡ unread_in w g
  still_unread e kept can living h = quiet_unread (happens e w).1 kept.facts (happens_keeps e w can kept).facts (quiet_unless e living (first_refusal (refusals w e)) h)
