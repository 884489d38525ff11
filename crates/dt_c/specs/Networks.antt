-- A network as C gives it, and the parameters that suit it.
use Rattle.std.specs.Prelude.{◌≡◌, ℕ, nat_le, Bool, true, false, ◌&&◌, ◌==◌, Option, Some, None}
use Rattle.dt_units.specs.declared.parameters.Params.{Params}
use Rattle.dt_params.specs.declared.networks.Network.{Network}
use Rattle.dt_params.specs.declared.computing.NetworkParams.{NetworkParams}
use Rattle.dt_params.specs.Networks.{AreParametersOf, is_network}
use Rattle.dt_c.specs.declared.c_structs.CParams.{CParams}
use Rattle.dt_c.specs.declared.networks.CNetwork.{CNetwork}
use Rattle.dt_c.specs.CStructs.{invalid, none, ok, params_size}

abbrev pub network_size : ℕ
network_size = 48

abbrev pub network_of : CNetwork → Network
network_of w = record { delay = w.delay_us; round_trip = w.round_trip_us; hops = w.hops; drift = w.drift_ppm; tries = w.tries; mtu = w.mtu; room = w.room; wait = w.wait_ms; shelved = w.shelved }

-- what the caller's struct has of parameters
abbrev pub c_params : Params → CParams → CParams
c_params p out = record { size = out.size; mpl = p.mpl; r = p.r; a = p.a; rto = p.rto; probe = p.probe; seg = p.seg; cap = p.cap; rcap = p.rcap; window = p.window; run_limit = p.run_limit; start = p.start }

-- the structs have the size that is known here, and each number is in its range
abbrev pub is_fit_network : CNetwork → CParams → Bool
is_fit_network w out = (w.size == network_size) && (nat_le params_size out.size && is_network (network_of w))

abbrev pub FillsParams : Option NetworkParams → (status : ℕ) → (old new : CParams) → (charge charged : ℕ) → Type 0
FillsParams (Some s) status old new charge charged = (status ≡ ok) × (new ≡ c_params s.params old) × (charged ≡ s.charge)
FillsParams None status old new charge charged = (status ≡ none) × (new ≡ old) × (charged ≡ charge)

abbrev pub ParamsForFit : Bool → (status : ℕ) → CNetwork → (old new : CParams) → (charge charged : ℕ) → Type 0
ParamsForFit true status w old new charge charged = (answer : Option NetworkParams) × AreParametersOf answer (network_of w) × FillsParams answer status old new charge charged
ParamsForFit false status w old new charge charged = (status ≡ invalid) × (new ≡ old) × (charged ≡ charge)

abbrev pub ParamsFor : (status : ℕ) → CNetwork → (old new : CParams) → (charge charged : ℕ) → Type 0
ParamsFor status w old new charge charged = ParamsForFit (is_fit_network w old) status w old new charge charged
