-- A network of endpoints: the endpoint of each node, and all frames that left one.
use Rattle.std.specs.Prelude.{ℕ, ◌==◌, List, [], drop, length, map, option_map, Option, Some, None, unwrap_or}
use Rattle.dt_units.specs.declared.parameters.Params.{Params}
use Rattle.dt_world_model.specs.declared.links.InLink.{InLink}
use Rattle.dt_world_model.specs.declared.links.OutLink.{OutLink}
use Rattle.dt_world_model.specs.declared.links.Route.{Route}
use Rattle.dt_world_model.specs.Tables.{look}
use Rattle.dt_endpoint.specs.Acts.{OutFrameValue}
use Rattle.dt_endpoint.specs.Endpoints.{EndpointValue, opened}

-- HOW A NODE OPENS: with the links on which frames leave it and those on which datagrams come to it, each by a number that is the node's own, and with its routes. No number means anything at another node
pub record Options : Type 0 where
  pub outs : List OutLink
  pub ins : List InLink
  pub routes : List Route

-- a node: how far its clock is ahead of the network's moment, and how it opens for the first time
pub record NodeSetup : Type 0 where
  pub ahead : ℕ
  pub options : Options

pub record Setup : Type 0 where
  pub params : Params
  pub nodes : List (ℕ × NodeSetup)

-- a frame, and the moment of the network in whose event it left its endpoint's station. The time that it then waits to be pulled and put on a wire is time under way
pub record Flight : Type 0 where
  pub frame : OutFrameValue
  pub put : ℕ

pub record Network : Type 0 where
  -- milliseconds that passed since its beginning
  pub now : ℕ
  pub endpoints : List (ℕ × EndpointValue)
  -- in the order in which they left. Each may come to any node any number of times, or never
  pub left : List Flight

-- how far a node's clock is ahead of the network's moment
abbrev pub clock_of : Setup → ℕ → ℕ
clock_of setup n = unwrap_or (option_map (λ s. s.ahead) (look ◌==◌ n setup.nodes)) 0

-- a node opens, for the first time or again, with the links and routes that it is handed
abbrev pub opened_with : Setup → ℕ → Option ℕ → Options → EndpointValue
opened_with setup n again options = opened setup.params n again options.outs options.ins options.routes

-- a node of the setup opens for the first time
abbrev pub opened_first : Setup → ℕ × NodeSetup → ℕ × EndpointValue
opened_first setup s = (s.0, opened_with setup s.0 None s.1.options)

-- THE NETWORK OF A SETUP: each node has opened for the first time. An endpoint does nothing before its first call, so a node that opens later is one that wasn't called so far
abbrev pub new_network : Setup → Network
new_network setup = record { now = 0; endpoints = map (opened_first setup) setup.nodes; left = [] }

-- the frames that a call appended to those that wait in an endpoint
abbrev pub flights : ℕ → Option EndpointValue → EndpointValue → List Flight
flights now None f = []
flights now (Some e) f = map (λ g. record { frame = g; put = now }) (drop (length e.frames) f.frames)
