-- A world whose ledger of a flow is the book that was told.
use Rattle.std.proofs.Common.{◌≡◌, ◌∙◌, ◌==◌, ◌+◌, ◌≤◌, ℕ, zero, suc, true, false, List, [], ◌∷◌, drop, length, map, Option, Some, refl, sym, ap, arith, inl, inr}
use Rattle.std.specs.Prelude.{unwrap_or}
use Rattle.std.proofs.Math.Seq.{drop-append_seam}
use Rattle.std.proofs.lemmas.Bool.{cases_Bool}
use Rattle.std.proofs.lemmas.List.{length-map}
use Rattle.dt_items.specs.declared.item.Item.{Item}
use Rattle.dt_units.specs.declared.endpoints.Flow.{Flow}
use Rattle.dt_reports.specs.Told.{Told}
use Rattle.dt_flow_model.specs.declared.rows.Given.{Given}
use Rattle.dt_flow_model.specs.declared.rows.ReadCount.{ReadCount}
use Rattle.dt_flow_model.specs.declared.rows.Taken.{Taken}
use Rattle.dt_flow_model.specs.Frames.{Mark}
use Rattle.dt_flow_model.specs.Ledger.{given_at, item_of, row_at}
use Rattle.dt_flow_model.specs.Safe.{SafeLedger}
use Rattle.dt_world_laws.proofs.Bare.{event_alike}
use Rattle.dt_world_laws.proofs.Books.{no_placed}
use Rattle.dt_world_model.proofs.Tables.{look_write_other, nat_is, nat_self}
use Rattle.dt_world_model.specs.Host.{one_if}
use Rattle.dt_world_model.specs.Station.{Arrive, Event, Read, Send, Station, Tick, station_event}
use Rattle.dt_world_model.specs.Tables.{look}
use Rattle.dt_world_model.specs.Tags.{Alike, bare_event, bare_station}
use Rattle.dt_world_model.specs.World.{Placed, SenderSide, World, placed}
use Rattle.dt_world_model.specs.WorldStep.{event_at, noted_at, occasion, restart_at, restarted}
use Rattle.dt_endpoint.specs.Acts.{acts_of, reports_in}
use Rattle.dt_endpoint.specs.Endpoints.{EndpointValue, after_event, moment_of, script_of}
use Rattle.dt_endpoint.specs.Networks.{IsAt}
use Rattle.dt_network.proofs.Booking.{rows_accepted, rows_told, script_accepted, script_booked, untimed}
use Rattle.dt_network.proofs.Frames.{Ends}
use Rattle.dt_network.proofs.Late.{life_stays}
use Rattle.dt_network.proofs.Openings.{first_sender}
use Rattle.dt_network.specs.Books.{Book, book_all, book_by, given_all, new_book}
use Rattle.dt_network.specs.Network.{Setup}
use Rattle.dt_network.specs.Stations.{first_world}

pub record Booked (w : World) (g : Flow) (b : Book) : Type 0 where
  pub rows : rows_told w.ledgers g ≡ b.rows
  pub given : rows_accepted w.ledgers g ≡ b.given
  pub lives : (m : ℕ) → (placed w m).life ≡ b.lives m

abbrev IsBareOf : Station Mark → Station (Unit {0}) → Type 0
IsBareOf a b = b ≡ bare_station a

occasion_life : (w : World) (n : ℕ) (event : Event Mark) → (occasion w n event).life ≡ (placed w n).life
occasion_life w n (Send f octets begin end) = refl
occasion_life w n (Read f most) = refl
occasion_life w n Tick = refl
occasion_life w n (Arrive link parcel) = refl

-- the book after an event that found memory
module _ (w : World) (n : ℕ) (at : Placed) (there : look ◌==◌ n w.stations ≡ Some at) (now : ℕ) (e f : EndpointValue) (h : IsAt w at now e) (event : Event Mark) (ends : Ends now (bare_event event) e f) (found : f.spent ≡ false) where
  abbrev told : List Told
  told = reports_in (acts_of (script_of now (bare_event event) e))

  whole : Ends now (bare_event event) e f → f ≡ after_event now (bare_event event) e
  whole (inl done) = done
  whole (inr broken) = let no : true ≡ false = sym broken.spent ∙ found in absurd cc

  appended : drop (length e.reports) f.reports ≡ told
  appended = ap (λ (x : EndpointValue). drop (length e.reports) x.reports) (whole ends) ∙ drop-append_seam e.reports told

  alike : Alike IsBareOf (station_event w.params (w.now + at.zero) event at.station) (station_event e.rules (moment_of now e) (bare_event event) e.state)
  alike = rw (h.rules, h.moment, h.state) (event_alike w.params (w.now + at.zero) event at.station)

  pub event_booked : (g : Flow) (b : Book) (items : List Item) → (occasion w n event).items ≡ items → Booked w g b → Booked (event_at w n event (Some at)).1 g (book_by g n items (drop (length e.reports) f.reports) b)
  event_booked g b items same booked = record {
    rows =
        script_booked IsBareOf (occasion w n event) g alike (noted_at w)
        ∙ ap (λ (life : ℕ). book_all g life (occasion w n event).items told (rows_told w.ledgers g)) (occasion_life w n event)
        ∙ ap (λ (is : List Item). book_all g (placed w n).life is told (rows_told w.ledgers g)) same
        ∙ ap (book_all g (placed w n).life items told) booked.rows
        ∙ ap (λ (life : ℕ). book_all g life items told b.rows) (booked.lives n)
        ∙ ap (λ (rs : List Told). book_all g (b.lives n) items rs b.rows) (sym appended);
    given =
        script_accepted IsBareOf (occasion w n event) g alike (noted_at w)
        ∙ ap (λ (life : ℕ). given_all g life (occasion w n event).items told (rows_accepted w.ledgers g)) (occasion_life w n event)
        ∙ ap (λ (is : List Item). given_all g (placed w n).life is told (rows_accepted w.ledgers g)) same
        ∙ ap (given_all g (placed w n).life items told) booked.given
        ∙ ap (λ (life : ℕ). given_all g life items told b.given) (booked.lives n)
        ∙ ap (λ (rs : List Told). given_all g (b.lives n) items rs b.given) (sym appended);
    lives = λ m. life_stays w n at event m there ∙ booked.lives m;
  }

-- a node opens again
pub again_booked : (w : World) (n : ℕ) (at : Placed) (g : Flow) (b : Book) → ((m : ℕ) → n ≡ m → (placed (restart_at w n (Some at)).1 m).life ≡ (placed w m).life + 1) → Booked w g b → Booked (restart_at w n (Some at)).1 g (record { rows = b.rows; given = b.given; lives = λ m. b.lives m + one_if (n == m) })
again_booked w n at g b again booked = record {
  rows = booked.rows;
  given = booked.given;
  lives = λ m. elim (cases_Bool (n == m)) [
    | inl y ↦ rw y (again m (nat_is n m y) ∙ ap (λ (k : ℕ). k + 1) (booked.lives m))
    | inr o ↦
        let same : (placed (restart_at w n (Some at)).1 m).life ≡ (placed w m).life = ap (λ (x : Option Placed). (unwrap_or x (no_placed m)).life) (look_write_other ℕ Placed ◌==◌ nat_self nat_is m n (restarted w.params w.now at) w.stations o) in
        rw o (omega (arith, same, booked.lives m))
  ];
}

pub new_booked : (setup : Setup) (g : Flow) → Booked (first_world setup) g new_book
new_booked setup g = record { rows = refl; given = refl; lives = λ m. ap (λ (x : SenderSide). x.life) (first_sender setup.nodes m g) }

-- A SAFE LEDGER without first moments
row_untimed : (rows : List Taken) (place : ℕ) → row_at (map untimed rows) place ≡ untimed (row_at rows place)
row_untimed [] place = refl
row_untimed (row ∷ rows) zero = refl
row_untimed (row ∷ rows) (suc place) = row_untimed rows place

pub safe_untimed : (life : ℕ) (taken : List Taken) (given : List Given) (reads : List ReadCount) → SafeLedger life taken given reads → SafeLedger life (map untimed taken) given reads
safe_untimed life taken given reads h = record {
  in_order = h.in_order;
  in_ledger = λ k lt. omega (arith, h.in_ledger k lt, length-map taken untimed);
  intact = λ k lt. ap item_of (row_untimed taken (given_at given k).place) ∙ h.intact k lt;
  skips_reported = λ place below skipped later.
      let was : life ≤ (row_at taken place).life = omega (arith, later, ap (λ (r : Taken). r.life) (row_untimed taken place)) in
      ap (λ (r : Taken). r.fate) (row_untimed taken place) ∙ h.skips_reported place below skipped was;
  acknowledged_given = λ place acked. h.acknowledged_given place (sym (ap (λ (r : Taken). r.fate) (row_untimed taken place)) ∙ acked);
  first_runs = h.first_runs;
  unbroken = h.unbroken;
  read_within = h.read_within;
  one_entry = h.one_entry;
}
