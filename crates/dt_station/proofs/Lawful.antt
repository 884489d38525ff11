-- Octets that don't read.
use Rattle.std.proofs.Common.{◌≡◌, ℕ, ◌==◌, Bool, true, false, Option, Some, Result, Err, refl, sym, subst}
use Rattle.std.proofs.lemmas.Bool.{eq-eqb}
use Rattle.dt_units.specs.declared.parameters.Params.{Params}
use Rattle.dt_layout.specs.declared.faults.LayoutFault.{LayoutFault}
use Rattle.dt_layout.specs.Carried.{to_of}
use Rattle.dt_layout.specs.Reading.{gram_in, packet_read}
use Rattle.dt_layout.specs.Spelling.{PacketValue}
use Rattle.dt_reports.specs.declared.reports.Report.TheVariants as report
use Rattle.dt_world_model.specs.Relay.{Parcel, admit}
use Rattle.dt_world_model.specs.Script.{Done, Tell}
use Rattle.dt_world_model.specs.Station.{Arrive, Station, come, come_in, deliver, happen}

module _ {T : Type 0} (p : Params) (now : ℕ) where
  come_bad : (mine : Bool) (parcel : Parcel T) (fault : LayoutFault) (station : Station T) → mine ≡ true → packet_read (gram_in parcel.octets) ≡ Err fault → come p now mine parcel station ≡ Tell (report.Bad fault) (Done station)
  come_bad true parcel fault station e h = subst (λ (r : Result PacketValue LayoutFault). deliver p now (gram_in parcel.octets).from r station ≡ Tell (report.Bad fault) (Done station)) (sym h) refl
  come_bad false parcel fault station e h = absurd (cc)

  pub arrives_bad : (link : ℕ) (parcel admitted : Parcel T) (fault : LayoutFault) (station : Station T) → admit link parcel station.relay ≡ Some admitted → to_of admitted.octets ≡ station.host.me → packet_read (gram_in admitted.octets) ≡ Err fault →
      happen p now (Arrive link parcel) station ≡ Tell (report.Bad fault) (Done station)
  arrives_bad link parcel admitted fault station a me h =
      subst (λ (o : Option (Parcel T)). come_in p now link o station ≡ Tell (report.Bad fault) (Done station)) (sym a)
      (come_bad (to_of admitted.octets == station.host.me) admitted fault station (eq-eqb _ _ me) h)
