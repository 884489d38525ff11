-- The lines of schedules, of scripts and of calls, a row each: which words a line has, and what it says.
use Rattle.std.specs.Prelude.{ℕ, List, [], ◌∷◌, codes, replicate}
use Rattle.dt_units.specs.Limits.{day}
use Rattle.dt_text.specs.declared.lines.Line.TheVariants.{Params, Go, Setup, Run, Script}
use Rattle.dt_text.specs.declared.lines.NodeLine.TheVariants as nodes
use Rattle.dt_text.specs.declared.lines.RunLine.TheVariants.{World, User}
use Rattle.dt_text.specs.declared.lines.ScriptLine.TheVariants.{Me, Local, Node, At, Stop}
use Rattle.dt_text.specs.declared.lines.SetupLine.TheVariants as setups
use Rattle.dt_text.specs.declared.lines.UserLine.TheVariants.{Read}
use Rattle.dt_text.specs.declared.lines.WorldLine.TheVariants as worlds
use Rattle.dt_text.specs.Said.{Said, call_said, send_said}
use Rattle.dt_text.specs.WordKinds.{WordKind, NumberWord, FlowWord, AddressWord, HexWord, MarksWord, AgainWord, Value}

-- A word of a line is fixed, or it is one of a kind and gives the line a value.
pub data Part : Type 0 where
  Fixed : (text : List ℕ) → Part
  Given : (kind : WordKind) → Part

-- what the values of the words make, one after another
abbrev pub Makes : List Part → Type 0
Makes [] = Said
Makes (Fixed text ∷ parts) = Makes parts
Makes (Given kind ∷ parts) = Value kind → Makes parts

-- the words of a line, and what the line says where its words have these values
pub record LineRow : Type 0 where
  pub words : List Part
  pub says : Makes words

-- The ranges of numbers: of 32 bits, the number of a link, a charge or a pace in milliseconds, and how many octets are read at most. And how many
-- octets are sent at most, and are called with: the message of a call has eight octets more. And how many packets a shelf holds at most.
abbrev pub any_number : WordKind
any_number = NumberWord 0 4294967295

abbrev pub link_number : WordKind
link_number = NumberWord 0 255

abbrev pub link_time : WordKind
link_time = NumberWord 0 day

abbrev pub read_count : WordKind
read_count = NumberWord 1 65536

abbrev pub shelf_count : WordKind
shelf_count = NumberWord 1 64

abbrev pub sent_octets : WordKind
sent_octets = HexWord 65536

abbrev pub called_octets : WordKind
called_octets = HexWord 65528

abbrev pub number_word : Part
number_word = Given any_number

abbrev pub link_word : Part
link_word = Given link_number

abbrev pub time_word : Part
time_word = Given link_time

abbrev pub count_word : Part
count_word = Given read_count

abbrev pub room_word : Part
room_word = Given shelf_count

abbrev pub flow_word : Part
flow_word = Given FlowWord

abbrev pub address_word : Part
address_word = Given AddressWord

abbrev pub hex_word : Part
hex_word = Given sent_octets

abbrev pub payload_word : Part
payload_word = Given called_octets

abbrev pub marks_word : Part
marks_word = Given MarksWord

abbrev pub again_word : Part
again_word = Given AgainWord

-- what the ten numbers of `params` say, with this START
abbrev pub parameters : ℕ → Makes (replicate 10 number_word)
parameters start = λ mpl r a rto probe seg cap rcap window run_limit.
    Params (record { mpl = mpl; r = r; a = a; rto = rto; probe = probe; seg = seg; cap = cap; rcap = rcap; window = window; run_limit = run_limit; start = start })

-- `params MPL R A RTO PROBE SEG CAP RCAP WINDOW RUN_LIMIT`: START is 0
abbrev pub params_row : LineRow
params_row = record { words = Fixed (codes "params") ∷ replicate 10 number_word; says = parameters 0 }

-- `params MPL R A RTO PROBE SEG CAP RCAP WINDOW RUN_LIMIT START`
abbrev pub params_start_row : LineRow
params_start_row = record {
  words = Fixed (codes "params") ∷ replicate 11 number_word;
  says = λ mpl r a rto probe seg cap rcap window run_limit start. parameters start mpl r a rto probe seg cap rcap window run_limit;
}

-- `station N ZERO`
abbrev pub station_row : LineRow
station_row = record { words = Fixed (codes "station") ∷ number_word ∷ number_word ∷ []; says = λ n zero. Setup (setups.Station n zero) }

-- `link L FROM TO CHARGE PACE`
abbrev pub link_row : LineRow
link_row = record { words = Fixed (codes "link") ∷ link_word ∷ number_word ∷ number_word ∷ time_word ∷ time_word ∷ []; says = λ link from to charge pace. Setup (setups.Link link from to charge pace) }

-- `route AT TO L`
abbrev pub route_row : LineRow
route_row = record { words = Fixed (codes "route") ∷ number_word ∷ number_word ∷ link_word ∷ []; says = λ at to link. Setup (setups.Route at to link) }

-- `go`
abbrev pub go_row : LineRow
go_row = record { words = Fixed (codes "go") ∷ []; says = Go }

-- `pass D`
abbrev pub pass_row : LineRow
pass_row = record { words = Fixed (codes "pass") ∷ number_word ∷ []; says = λ by. Run (World (worlds.Pass by)) }

-- `send FLOW MARKS HEX`
abbrev pub send_row : LineRow
send_row = record { words = Fixed (codes "send") ∷ flow_word ∷ marks_word ∷ hex_word ∷ []; says = λ flow marks hex. Run (User (send_said flow marks.0 marks.1 hex)) }

-- `read FLOW MAX`
abbrev pub read_row : LineRow
read_row = record { words = Fixed (codes "read") ∷ flow_word ∷ count_word ∷ []; says = λ flow max. Run (User (Read flow max)) }

-- `tick N`
abbrev pub tick_row : LineRow
tick_row = record { words = Fixed (codes "tick") ∷ number_word ∷ []; says = λ n. Run (World (worlds.Tick n)) }

-- `arrive C`
abbrev pub arrive_row : LineRow
arrive_row = record { words = Fixed (codes "arrive") ∷ number_word ∷ []; says = λ copy. Run (World (worlds.Arrive copy)) }

-- `lose C`
abbrev pub lose_row : LineRow
lose_row = record { words = Fixed (codes "lose") ∷ number_word ∷ []; says = λ copy. Run (World (worlds.Lose copy)) }

-- `restart N`
abbrev pub restart_row : LineRow
restart_row = record { words = Fixed (codes "restart") ∷ number_word ∷ []; says = λ n. Run (World (worlds.Restart n)) }

-- `call FLOW HEX`
abbrev pub call_row : LineRow
call_row = record { words = Fixed (codes "call") ∷ flow_word ∷ payload_word ∷ []; says = λ flow hex. Run (call_said flow hex) }

-- `me N first` or `me N again`
abbrev pub me_row : LineRow
me_row = record { words = Fixed (codes "me") ∷ number_word ∷ again_word ∷ []; says = λ n again. Script (Me n again) }

-- `local ADDRESS`
abbrev pub local_row : LineRow
local_row = record { words = Fixed (codes "local") ∷ address_word ∷ []; says = λ address. Script (Local address) }

-- `peer L ADDRESS CHARGE PACE`
abbrev pub peer_row : LineRow
peer_row = record { words = Fixed (codes "peer") ∷ link_word ∷ address_word ∷ time_word ∷ time_word ∷ []; says = λ link address charge pace. Script (Node (nodes.Peer link address charge pace)) }

-- `route TO L`
abbrev pub own_route_row : LineRow
own_route_row = record { words = Fixed (codes "route") ∷ number_word ∷ link_word ∷ []; says = λ to link. Script (Node (nodes.Route to link)) }

-- `shelf N`
abbrev pub shelf_row : LineRow
shelf_row = record { words = Fixed (codes "shelf") ∷ room_word ∷ []; says = λ room. Script (Node (nodes.Shelf room)) }

-- `at T send FLOW MARKS HEX`
abbrev pub at_send_row : LineRow
at_send_row = record {
  words = Fixed (codes "at") ∷ number_word ∷ Fixed (codes "send") ∷ flow_word ∷ marks_word ∷ hex_word ∷ [];
  says = λ at flow marks hex. Script (At at (send_said flow marks.0 marks.1 hex));
}

-- `at T read FLOW MAX`
abbrev pub at_read_row : LineRow
at_read_row = record { words = Fixed (codes "at") ∷ number_word ∷ Fixed (codes "read") ∷ flow_word ∷ count_word ∷ []; says = λ at flow max. Script (At at (Read flow max)) }

-- `at T stop`
abbrev pub at_stop_row : LineRow
at_stop_row = record { words = Fixed (codes "at") ∷ number_word ∷ Fixed (codes "stop") ∷ []; says = λ at. Script (Stop at) }

-- the rows of one kind of line: they have the same fixed words, and differ in how many words there are
abbrev pub LineKind : Type 0
LineKind = List LineRow

-- the kinds of lines of a schedule
abbrev pub of_schedules : List LineKind
of_schedules =
    (params_row ∷ params_start_row ∷ []) ∷ (station_row ∷ []) ∷ (link_row ∷ []) ∷ (route_row ∷ []) ∷ (go_row ∷ [])
    ∷ (pass_row ∷ []) ∷ (send_row ∷ []) ∷ (read_row ∷ []) ∷ (tick_row ∷ []) ∷ (arrive_row ∷ []) ∷ (lose_row ∷ []) ∷ (restart_row ∷ []) ∷ []

-- the kinds of lines of an input of calls
abbrev pub of_calls : List LineKind
of_calls =
    (params_row ∷ params_start_row ∷ []) ∷ (station_row ∷ []) ∷ (link_row ∷ []) ∷ (route_row ∷ []) ∷ (go_row ∷ [])
    ∷ (call_row ∷ []) ∷ (pass_row ∷ []) ∷ (tick_row ∷ []) ∷ (arrive_row ∷ []) ∷ (lose_row ∷ []) ∷ (restart_row ∷ []) ∷ []

-- the kinds of lines of a script, but for those after `at T`
abbrev pub of_scripts : List LineKind
of_scripts = (params_row ∷ params_start_row ∷ []) ∷ (me_row ∷ []) ∷ (local_row ∷ []) ∷ (peer_row ∷ []) ∷ (own_route_row ∷ []) ∷ (shelf_row ∷ []) ∷ (go_row ∷ []) ∷ []

-- the kinds of lines of a script after `at T`
abbrev pub behind_moments : List LineKind
behind_moments = (at_send_row ∷ []) ∷ (at_read_row ∷ []) ∷ (at_stop_row ∷ []) ∷ []
