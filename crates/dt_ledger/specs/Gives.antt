-- Given rows as they are kept: a give for the octets that were given together, and the octets of all gives, one after the other.
use Rattle.std.specs.Prelude.{ℕ, ◌+◌, ◌^◌, ◌<◌, ◌≤◌, ◌≡◌, false, List, [], ◌∷◌, ◌++◌, length, take, drop}
use Rattle.dt_items.specs.Unread.{items_of, marked}
use Rattle.dt_flow_model.specs.declared.rows.Given.{Given}
use Rattle.dt_flow_model.specs.Ledger.{given_rows}
use Rattle.dt_ledger.specs.declared.gives.Give.{Give}
use Rattle.dt_ledger.specs.declared.given_octets.GivenOctets.{GivenOctets}

-- the rows of octets that were given together
abbrev pub rows_of : Give → List ℕ → List Given
rows_of give octets = given_rows give.life give.at give.run give.place (marked octets give.begin give.end false)

abbrev pub rows_given : GivenOctets → List Given
rows_given g = given_rows g.life g.at g.run g.place (items_of g.payload)

abbrev pub given_in_all : List Give → List ℕ → List Given
given_in_all [] octets = []
given_in_all (give ∷ gives) octets = rows_of give (take give.count octets) ++ given_in_all gives (drop give.count octets)

-- each give has octets, at places below 2^62, and there are no others
abbrev pub HaveOctets : List Give → List ℕ → Type 0
HaveOctets [] octets = length octets ≡ 0
HaveOctets (give ∷ gives) octets =
    (0 < give.count) × (give.count ≤ length octets) × (give.place + give.count < 2 ^ 62) × HaveOctets gives (drop give.count octets)
