-- Flows and addresses as words.
use Rattle.std.specs.Prelude.{ℕ, List, [], ◌∷◌, Option, Some, option_and_then}
use Rattle.dt_units.specs.declared.endpoints.Flow.{Flow}
use Rattle.dt_edges.specs.declared.addresses.Address.{Address}
use Rattle.dt_text.specs.Numerals.{numeral}
use Rattle.dt_text.specs.Splitting.{cut}

infixl 10 ◌>>=◌
abbrev pub ◌>>=◌ : {A B : Type 0} → Option A → (A → Option B) → Option B
read >>= next = option_and_then next read

-- `a:p` with a node's number and a port
unfoldable pub endpoint_read : List ℕ → Option (ℕ × ℕ)
endpoint_read word = do
  parts ← cut 58 word
  node ← numeral 4294967295 parts.0
  port ← numeral 65535 parts.1
  Some (node, port)

-- `a:p>b:q`: octets go from the port p of the node a to the port q of the node b
unfoldable pub flow_read : List ℕ → Option Flow
flow_read word = do
  ends ← cut 62 word
  from ← endpoint_read ends.0
  to ← endpoint_read ends.1
  Some (record { from = record { 0 = from.0 }; from_port = from.1; to = record { 0 = to.0 }; to_port = to.1 })

-- `w.x.y.z` with numbers from 0 to 255
unfoldable pub ip_read : List ℕ → Option (List ℕ)
ip_read word = do
  first ← cut 46 word
  second ← cut 46 first.1
  third ← cut 46 second.1
  w ← numeral 255 first.0
  x ← numeral 255 second.0
  y ← numeral 255 third.0
  z ← numeral 255 third.1
  Some (w ∷ x ∷ y ∷ z ∷ [])

-- `w.x.y.z:p`: an IPv4 address and a port
unfoldable pub address_read : List ℕ → Option Address
address_read word = do
  parts ← cut 58 word
  ip ← ip_read parts.0
  port ← numeral 65535 parts.1
  Some (record { ip = ip; port = port })
