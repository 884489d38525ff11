-- Worked runs over literals: the definitions compute them.
use Rattle.std.specs.Prelude.{ℕ, ◌/◌, ◌%◌, Bool, true, false, List, [], ◌∷◌, Option, Some, None}
use Rattle.dt_edges.specs.Wires.{Datagram}
use Rattle.dt_reports.specs.Entries.{Entry}
use Rattle.dt_world_model.specs.Worked.{main_flow, standard}
use Rattle.dt_text.specs.Tasks.{Sends}
use Rattle.dt_script.specs.Orders.{Orders}
use Rattle.dt_node.specs.Acts.{node_lines}
use Rattle.dt_node.specs.Runs.{node_run}

-- node 1 of two, for the first time or again: it sends five octets to node 2 at 0, and stops at 100
abbrev pub exchange : Bool → Orders
exchange again = record {
  setup = record {
    params = standard;
    me = 1;
    again = again;
    local = record { ip = 127 ∷ 0 ∷ 0 ∷ 1 ∷ []; port = 4001 };
    peers = (record { link = 1; address = record { ip = 127 ∷ 0 ∷ 0 ∷ 1 ∷ []; port = 4002 } }) ∷ [];
    outs = (record { link = 1; pace = 0 }) ∷ [];
    ins = (record { link = 1; charge = 50 }) ∷ [];
    routes = (record { to = 2; link = 1 }) ∷ [];
    shelf = None;
  };
  commands = (record { at = 0; task = Sends main_flow true true (104 ∷ 101 ∷ 108 ∷ 108 ∷ 111 ∷ []) }) ∷ [];
  stop = 100;
}

abbrev pub on_one : List ℕ → Datagram
on_one octets = record { link = 1; octets = octets }

-- an acknowledgement of the five octets, and fifteen octets that don't read
abbrev pub acknowledgement : Datagram
acknowledgement = on_one (1 ∷ 1 ∷ 0 ∷ 14 ∷ 0 ∷ 0 ∷ 3 ∷ 231 ∷ 0 ∷ 0 ∷ 0 ∷ 2 ∷ 0 ∷ 0 ∷ 0 ∷ 1 ∷ 2 ∷ 0 ∷ 0 ∷ 20 ∷ 0 ∷ 10 ∷ 0 ∷ 0 ∷ 0 ∷ 5 ∷ 0 ∷ 0 ∷ 15 ∷ 251 ∷ [])

abbrev pub short : Datagram
short = on_one (1 ∷ 1 ∷ 0 ∷ 19 ∷ 0 ∷ 0 ∷ 3 ∷ 231 ∷ 0 ∷ 0 ∷ 0 ∷ 1 ∷ 0 ∷ 0 ∷ 0 ∷ [])

-- NODE 2 WITH A SHELF for four packets, which stops at 100; segments are of four octets
abbrev pub with_shelf : Orders
with_shelf = record {
  setup = record {
    params = record standard { seg = 4 };
    me = 2;
    again = false;
    local = record { ip = 127 ∷ 0 ∷ 0 ∷ 1 ∷ []; port = 4002 };
    peers = (record { link = 1; address = record { ip = 127 ∷ 0 ∷ 0 ∷ 1 ∷ []; port = 4001 } }) ∷ [];
    outs = (record { link = 1; pace = 0 }) ∷ [];
    ins = (record { link = 1; charge = 50 }) ∷ [];
    routes = (record { to = 1; link = 1 }) ∷ [];
    shelf = Some 4;
  };
  commands = [];
  stop = 100;
}

-- the first four octets of a message and the next four, with a life below 1,024
abbrev pub beginning : ℕ → Datagram
beginning life = on_one (1 ∷ 1 ∷ 0 ∷ 18 ∷ 0 ∷ 0 ∷ life / 256 ∷ life % 256 ∷ 0 ∷ 0 ∷ 0 ∷ 1 ∷ 0 ∷ 0 ∷ 0 ∷ 2 ∷ 1 ∷ 3 ∷ 0 ∷ 10 ∷ 0 ∷ 20 ∷ 0 ∷ 0 ∷ 0 ∷ 0 ∷ 0 ∷ 0 ∷ 0 ∷ 0 ∷ 97 ∷ 98 ∷ 99 ∷ 100 ∷ [])

abbrev pub ending : ℕ → Datagram
ending life = on_one (1 ∷ 1 ∷ 0 ∷ 18 ∷ 0 ∷ 0 ∷ life / 256 ∷ life % 256 ∷ 0 ∷ 0 ∷ 0 ∷ 1 ∷ 0 ∷ 0 ∷ 0 ∷ 2 ∷ 1 ∷ 4 ∷ 0 ∷ 10 ∷ 0 ∷ 20 ∷ 0 ∷ 0 ∷ 0 ∷ 4 ∷ 0 ∷ 0 ∷ 0 ∷ 0 ∷ 101 ∷ 102 ∷ 103 ∷ 104 ∷ [])

-- THEIR LOGS: of the first one, where this comes at 40, and of the second one, where the end of a message comes at 10 and its beginning at 20
abbrev pub exchanged : Bool → Option Datagram → List Entry
exchanged again came = node_lines 1 (node_run (exchange again) (1000 ∷ 1040 ∷ 1100 ∷ []) (came ∷ None ∷ [])).acts

abbrev pub shelved : ℕ → List Entry
shelved life = node_lines 2 (node_run with_shelf (1000 ∷ 1010 ∷ 1020 ∷ 1100 ∷ []) (Some (ending life) ∷ Some (beginning life) ∷ None ∷ [])).acts
