-- A read where nothing is unread, at a station that rests, changes nothing.
use Rattle.std.proofs.Common.{ℕ, zero, suc, ◌+◌, ◌≡◌, ◌==◌, Bool, true, false, if◌then◌else◌, List, [], ◌∷◌, Option, Some, refl, ap, sym, ◌∙◌}
use Rattle.std.proofs.lemmas.Bool.{eqb-true}
use Rattle.dt_items.specs.declared.item.Item.{Item}
use Rattle.dt_items.specs.Unread.{first_piece, octets_of, piece_told}
use Rattle.dt_units.specs.declared.parameters.Params.{Params}
use Rattle.dt_units.specs.declared.endpoints.Flow.{Flow}
use Rattle.dt_reports.specs.declared.reports.Report.TheVariants as report
use Rattle.dt_reports.specs.Entries.{Entry}
use Rattle.dt_flow_model.specs.Frames.{Mark}
use Rattle.dt_world_model.specs.Host.{read_piece, receiver_at}
use Rattle.dt_world_model.specs.Script.{Script, Done, Tell, ◌>>=◌, play}
use Rattle.dt_world_model.specs.Station.{Read, Station, happen, settle_station, station_event, station_with, told_piece}
use Rattle.dt_world_model.specs.Tables.{look, write}
use Rattle.dt_world_model.specs.World.{Placed, World, world_handler}
use Rattle.dt_world_model.specs.WorldStep.{Reads, after_event, event_at, noted_at, occasion, played}
use Rattle.dt_calls_model.specs.Rests.{Rests}
use Rattle.dt_calls_laws.proofs.Resting.{settle_rests}

first_none : (most : ℕ) → first_piece most [] ≡ []
first_none zero = refl
first_none (suc most) = refl

module _ {T : Type 0} (p : Params) (now : ℕ) (f : Flow) (most : ℕ) (st : Station T) where
  read_none : (receiver_at st.host f).unread ≡ [] → happen p now (Read f most) st ≡ Tell (report.Nothing f) (Done st)
  read_none e =
      let none : first_piece most (receiver_at st.host f).unread ≡ [] = ap (first_piece most) e ∙ first_none most in
      ap (λ (items : List Item). let r = read_piece p now f items st.host in let script : Script T (Station T) = Tell (told_piece f (octets_of r.0) (piece_told r.0)) (Done (station_with r.1 st.relay)) in script) none

  -- the station tells that there is nothing, and stays as it is
  pub read_rests : Rests p now st → (receiver_at st.host f).unread ≡ [] → station_event p now (Read f most) st ≡ Tell (report.Nothing f) (Done st)
  read_rests rests e =
      ap (λ (s : Script T (Station T)). s >>= λ before. happen p now (Read f most) before >>= λ after. settle_station p now after) (settle_rests p now st rests)
      ∙ ap (λ (s : Script T (Station T)). s >>= λ after. settle_station p now after) (read_none e)
      ∙ ap (λ (s : Script T (Station T)). Tell (report.Nothing f) s) (settle_rests p now st rests)

-- what stands there is written
module _ {A : Type 0} (k : ℕ) (a : A) where
  write_case : (here : Bool) (e : ℕ × A) (es rest : List (ℕ × A)) (later : Option A) → (e.0 == k) ≡ here → (if here then Some e.1 else later) ≡ Some a → (later ≡ Some a → rest ≡ es) → (if here then (k, a) ∷ es else e ∷ rest) ≡ e ∷ es
  write_case true e es rest later is there again =
      let key : e.0 ≡ k = eqb-true e.0 k is in
      let value : e.1 ≡ a = cc in
      ap (λ (n : ℕ). (n, a) ∷ es) (sym key) ∙ ap (λ (v : A). (e.0, v) ∷ es) (sym value)
  write_case false e es rest later is there again = ap (λ (es : List (ℕ × A)). e ∷ es) (again there)

  pub write_same : (es : List (ℕ × A)) → look ◌==◌ k es ≡ Some a → write ◌==◌ k a es ≡ es
  write_same [] there = absurd cc
  write_same (e ∷ es) there = write_case (e.0 == k) e es (write ◌==◌ k a es) (look ◌==◌ k es) refl there (write_same es)

-- THE READ
pub read_changes_nothing : (w : World) (f : Flow) (most : ℕ) (at : Placed) → look ◌==◌ f.to.0 w.stations ≡ Some at → Rests w.params (w.now + at.zero) at.station → (receiver_at at.station.host f).unread ≡ []
    → after_event w (Reads f most) ≡ ((record { moment = w.now; node = Some f.to.0; told = report.Nothing f }) ∷ [], w)
read_changes_nothing w f most at there rests none =
    ap (event_at w f.to.0 (Read f most)) there
    ∙ ap (λ (s : Script Mark (Station Mark)). played w f.to.0 at (play (world_handler (occasion w f.to.0 (Read f most))) s (noted_at w))) (read_rests w.params (w.now + at.zero) f most at.station rests none)
    ∙ ap (λ (stations : List (ℕ × Placed)). let r : List Entry × World = ((record { moment = w.now; node = Some f.to.0; told = report.Nothing f }) ∷ [], record w { stations = stations }) in r) (write_same f.to.0 at w.stations there)
