-- What suits a network.
use Rattle.std.specs.Prelude.{◌≡◌, ◌⊎◌, ℕ, ◌+◌, ◌-◌, ◌*◌, ◌/◌, ◌≤◌, ◌<◌, min, max, Bool, true, false, ◌&&◌, nat_le, Option, Some, None, IsSome}
use Rattle.dt_units.specs.declared.parameters.Params.{Params}
use Rattle.dt_units.specs.Limits.{Between, IsWithinLimits, day, first_out_of_range, is_between}
use Rattle.dt_params.specs.declared.networks.Network.{Network}
use Rattle.dt_params.specs.declared.computing.NetworkParams.{NetworkParams}

-- how many parts there are at least, where the last one may be smaller
abbrev pub ceil : (whole part : ℕ) → ℕ
ceil whole part = (whole + (part - 1)) / part

-- each number of a network is in its range
abbrev pub has_times : Network → Bool
has_times n = nat_le n.delay 86400000000 && (nat_le n.round_trip 86400000000 && nat_le n.wait day)

abbrev pub has_counts : Network → Bool
has_counts n = is_between 1 256 n.hops && (nat_le n.drift 100000 && (is_between 1 1000 n.tries && nat_le n.shelved 1000))

abbrev pub has_sizes : Network → Bool
has_sizes n = is_between 59 65535 n.mtu && is_between 1 65536 n.room

abbrev pub is_network : Network → Bool
is_network n = has_times n && (has_counts n && has_sizes n)

pub record IsNetwork (n : Network) : Type 0 where
  pub delay : n.delay ≤ 86400000000
  pub round_trip : n.round_trip ≤ 86400000000
  pub hops : Between 1 256 n.hops
  pub drift : n.drift ≤ 100000
  pub tries : Between 1 1000 n.tries
  pub mtu : Between 59 65535 n.mtu
  pub room : Between 1 65536 n.room
  pub wait : n.wait ≤ day
  pub shelved : n.shelved ≤ 1000

abbrev pub IsNetworkIf : Bool → Network → Type 0
IsNetworkIf true n = IsNetwork n
IsNetworkIf false n = Unit {0}

-- the longest delay of an acknowledgement, in milliseconds: a tenth of a round trip
abbrev pub ack_delay : Network → ℕ
ack_delay n = max 1 (ceil n.round_trip 10000)

-- from one transmission to the next: one and a half round trips, and twice the delay of an acknowledgement
abbrev pub retry_time : Network → ℕ
retry_time n = ceil (3 * n.round_trip) 2000 + 2 * ack_delay n + 5

-- from the first transmission to the last
abbrev pub retry_span : Network → ℕ
retry_span n = retry_time n * n.tries

-- the most octets of a segment: what the headers leave of the MTU
abbrev pub segment_size : Network → ℕ
segment_size n = min (min (n.mtu - 58) 8192) n.room

-- where packets live at most so long: how long a flow waits from one quantum of its octets to the next
abbrev pub spacing_of : Network → (mpl : ℕ) → ℕ
spacing_of n mpl = 3 * mpl + 2 * retry_span n + ack_delay n

-- the charge of a link: its delay, 43 ms for the machines at its ends and for whole milliseconds, and what two clocks differ by
abbrev pub charge_of : Network → (mpl : ℕ) → ℕ
charge_of n mpl = ceil n.delay 1000 + 43 + ceil (2 * n.drift * spacing_of n mpl) 1000000

-- the life that a packet needs on the longest path: each link's charge, what it waits at each station and a millisecond more, what it
-- waits on a shelf, and five milliseconds
abbrev pub life_of : Network → (mpl : ℕ) → ℕ
life_of n mpl = n.hops * (charge_of n mpl + n.wait + 1) + 5 + n.shelved * retry_time n

-- packets that live so long live long enough, and this is the least such life of at most a day
pub record IsLeast (n : Network) (mpl : ℕ) : Type 0 where
  pub some : 2 ≤ mpl
  pub a_day : mpl ≤ day
  pub enough : life_of n mpl ≤ mpl
  pub least : (m : ℕ) → 2 ≤ m → m < mpl → m < life_of n m

abbrev pub IsLeastLife : Option ℕ → Network → Type 0
IsLeastLife (Some mpl) n = IsLeast n mpl
IsLeastLife None n = (m : ℕ) → 2 ≤ m → m ≤ day → m < life_of n m

abbrev pub params_of : Network → (mpl : ℕ) → Params
params_of n mpl = record {
  mpl = mpl;
  r = retry_span n;
  a = ack_delay n;
  rto = retry_time n;
  probe = min (2 * retry_time n) (3 * mpl + retry_span n + ack_delay n - 1);
  seg = segment_size n;
  cap = n.room;
  rcap = n.room;
  window = n.room;
  run_limit = 2147483648;
  start = 0;
}

-- WHAT SUITS: parameters in their ranges, with the least life that is long enough, and the charge of each link. There is nothing that suits where
-- a number of the network is out of its range, where a packet would live, or a segment be sent again, for longer than a day, or where another
-- parameter would be out of its range
pub record AreSuited (s : NetworkParams) (n : Network) : Type 0 where
  pub network : IsNetwork n
  pub life : IsLeast n s.params.mpl
  pub params : s.params ≡ params_of n s.params.mpl
  pub within : IsWithinLimits s.params
  pub charge : s.charge ≡ charge_of n s.params.mpl

abbrev pub AreParametersOf : Option NetworkParams → Network → Type 0
AreParametersOf (Some s) n = AreSuited s n
AreParametersOf None n = (is_network n ≡ false) ⊎ (day < retry_span n) ⊎ IsLeastLife None n ⊎ ((mpl : ℕ) × IsLeast n mpl × IsSome (first_out_of_range (params_of n mpl)))
