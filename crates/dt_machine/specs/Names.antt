-- Addresses as C's `sockaddr_in` has them: the family in the machine's order of octets, the port with its high octet first, and the four numbers of an IPv4 address. The octets after them say nothing.
use Rattle.std.specs.Prelude.{ℕ, List, [], ◌∷◌, ◌++◌, ◌==◌, if◌then◌else◌, replicate, slice_index, Option, Some, None}
use Rattle.std.specs.Int.{from_be_bytes, from_le_bytes, to_be_bytes, to_le_bytes, w16}
use Rattle.dt_edges.specs.declared.addresses.Address.{Address}

-- the family of IPv4
abbrev pub ipv4 : ℕ
ipv4 = 2

abbrev pub name_of : Address → List ℕ
name_of address = to_le_bytes w16 ipv4 ++ to_be_bytes w16 address.port ++ address.ip ++ replicate 120 0

abbrev pub family_in : List ℕ → ℕ
family_in name = from_le_bytes w16 (slice_index name 0 ∷ slice_index name 1 ∷ [])

abbrev pub port_in : List ℕ → ℕ
port_in name = from_be_bytes w16 (slice_index name 2 ∷ slice_index name 3 ∷ [])

abbrev pub ip_in : List ℕ → List ℕ
ip_in name = slice_index name 4 ∷ slice_index name 5 ∷ slice_index name 6 ∷ slice_index name 7 ∷ []

-- the address there, where its family is that of IPv4
abbrev pub address_in : List ℕ → Option Address
address_in name = if family_in name == ipv4 then Some (record { ip = ip_in name; port = port_in name }) else None
