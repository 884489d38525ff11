-- What a script says that isn't refused: the node, what it is to do and when, and when it stops.
use Rattle.std.specs.Prelude.{ℕ, Bool, List, Option}
use Rattle.dt_units.specs.declared.parameters.Params.{Params}
use Rattle.dt_edges.specs.declared.addresses.Address.{Address}
use Rattle.dt_edges.specs.declared.addresses.Peer.{Peer}
use Rattle.dt_edges.specs.Wires.{Opening}
use Rattle.dt_text.specs.Tasks.{Task}
use Rattle.dt_world_model.specs.declared.links.InLink.{InLink}
use Rattle.dt_world_model.specs.declared.links.OutLink.{OutLink}
use Rattle.dt_world_model.specs.declared.links.Route.{Route}

-- the node, and how it is reached
pub record Setup : Type 0 where
  pub params : Params
  pub me : ℕ
  -- it begins again, after an earlier life
  pub again : Bool
  pub local : Address
  pub peers : List Peer
  -- the peers' links, as packets leave on them and as they come on them
  pub outs : List OutLink
  pub ins : List InLink
  pub routes : List Route
  -- how many packets its shelf holds at most, where it has one
  pub shelf : Option ℕ

-- what is to be done, and from which moment on
pub record Command : Type 0 where
  pub at : ℕ
  pub task : Task

-- The moments of the commands never fall, and the stop comes last.
pub record Orders : Type 0 where
  pub setup : Setup
  pub commands : List Command
  pub stop : ℕ

-- how the wire is opened
abbrev pub opening_of : Orders → Opening
opening_of o = record { local = o.setup.local; peers = o.setup.peers }
