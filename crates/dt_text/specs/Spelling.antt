-- How what a line says is written: in words, with one space between two of them.
use Rattle.std.specs.Prelude.{◌≡◌, ◌⊎◌, ℕ, List, [], ◌∷◌, ◌++◌}
use Rattle.std.specs.List.{join_with_byte}
use Rattle.dt_text.specs.declared.lines.Form.{Form}
use Rattle.dt_text.specs.declared.lines.Form.TheVariants.{Schedule, Script, Calls}
use Rattle.dt_text.specs.declared.lines.Line.TheVariants as lines
use Rattle.dt_text.specs.declared.lines.NodeLine.{NodeLine}
use Rattle.dt_text.specs.declared.lines.NodeLine.TheVariants as nodes
use Rattle.dt_text.specs.declared.lines.RunLine.{RunLine}
use Rattle.dt_text.specs.declared.lines.RunLine.TheVariants as runs
use Rattle.dt_text.specs.declared.lines.ScriptLine.{ScriptLine}
use Rattle.dt_text.specs.declared.lines.ScriptLine.TheVariants as scripts
use Rattle.dt_text.specs.declared.lines.SetupLine.{SetupLine}
use Rattle.dt_text.specs.declared.lines.SetupLine.TheVariants as setups
use Rattle.dt_text.specs.declared.lines.UserLine.{UserLine}
use Rattle.dt_text.specs.declared.lines.UserLine.TheVariants as users
use Rattle.dt_text.specs.declared.lines.WorldLine.{WorldLine}
use Rattle.dt_text.specs.declared.lines.WorldLine.TheVariants as worlds
use Rattle.dt_text.specs.Said.{Said}
use Rattle.dt_text.specs.WordKinds.{Value, value_text, IsOfKind}
use Rattle.dt_text.specs.Rows.{Part, Fixed, Given, Makes, LineRow, params_row, params_start_row, station_row, link_row, route_row, go_row, pass_row, send_row, read_row, tick_row, arrive_row, lose_row, restart_row, me_row, local_row, peer_row, own_route_row, at_send_row, at_read_row, at_stop_row, shelf_row, call_row}

-- the values of the words of a row, one after another
abbrev pub Values : List Part → Type 0
Values [] = Unit {0}
Values (Fixed text ∷ parts) = Values parts
Values (Given kind ∷ parts) = Value kind × Values parts

-- what the values make
abbrev pub made : (parts : List Part) → Makes parts → Values parts → Said
made [] said values = said
made (Fixed text ∷ parts) makes values = made parts makes values
made (Given kind ∷ parts) makes values = made parts (makes values.0) values.1

-- the words that the values are written as
abbrev pub texts : (parts : List Part) → Values parts → List (List ℕ)
texts [] values = []
texts (Fixed text ∷ parts) values = text ∷ texts parts values
texts (Given kind ∷ parts) values = value_text kind values.0 ∷ texts parts values.1

-- each value is one of the kind of its word
abbrev pub AreOfKinds : (parts : List Part) → Values parts → Type 0
AreOfKinds [] values = Unit {0}
AreOfKinds (Fixed text ∷ parts) values = AreOfKinds parts values
AreOfKinds (Given kind ∷ parts) values = IsOfKind kind values.0 × AreOfKinds parts values.1

-- a row with the values of its words
pub record Way : Type 0 where
  pub row : LineRow
  pub values : Values row.words

abbrev pub by : (row : LineRow) → Values row.words → List Way
by row values = (record { row = row; values = values }) ∷ []

-- a line of worlds alone, which are those of schedules and of calls; or of one of the three forms alone
abbrev pub in_world : Form → List Way → List Way
in_world Schedule ways = ways
in_world Script ways = []
in_world Calls ways = ways

abbrev pub in_schedule : Form → List Way → List Way
in_schedule Schedule ways = ways
in_schedule Script ways = []
in_schedule Calls ways = []

abbrev pub in_script : Form → List Way → List Way
in_script Schedule ways = []
in_script Script ways = ways
in_script Calls ways = []

abbrev pub in_calls : Form → List Way → List Way
in_calls Schedule ways = []
in_calls Script ways = []
in_calls Calls ways = ways

-- a blank line has no words
abbrev pub blank_row : LineRow
blank_row = record { words = []; says = lines.Blank }

-- The rows by which a line may be written, with the values of their words, for each kind of lines.
abbrev pub setup_ways : SetupLine → List Way
setup_ways (setups.Station n zero) = by station_row (n, (zero, tt))
setup_ways (setups.Link link from to charge pace) = by link_row (link, (from, (to, (charge, (pace, tt)))))
setup_ways (setups.Route at to link) = by route_row (at, (to, (link, tt)))

abbrev pub world_ways : WorldLine → List Way
world_ways (worlds.Pass by_ms) = by pass_row (by_ms, tt)
world_ways (worlds.Tick n) = by tick_row (n, tt)
world_ways (worlds.Arrive copy) = by arrive_row (copy, tt)
world_ways (worlds.Lose copy) = by lose_row (copy, tt)
world_ways (worlds.Restart n) = by restart_row (n, tt)

abbrev pub user_ways : UserLine → List Way
user_ways (users.Send flow begin end hex) = by send_row (flow, ((begin, end), (hex.now, tt)))
user_ways (users.Read flow max) = by read_row (flow, (max, tt))

abbrev pub run_ways : Form → RunLine → List Way
run_ways form (runs.World line) = in_world form (world_ways line)
run_ways form (runs.User line) = in_schedule form (user_ways line)
run_ways form (runs.Call flow hex) = in_calls form (by call_row (flow, (hex.now, tt)))

abbrev pub node_ways : NodeLine → List Way
node_ways (nodes.Peer link address charge pace) = by peer_row (link, (address, (charge, (pace, tt))))
node_ways (nodes.Route to link) = by own_route_row (to, (link, tt))
node_ways (nodes.Shelf room) = by shelf_row (room, tt)

abbrev pub at_ways : ℕ → UserLine → List Way
at_ways at (users.Send flow begin end hex) = by at_send_row (at, (flow, ((begin, end), (hex.now, tt))))
at_ways at (users.Read flow max) = by at_read_row (at, (flow, (max, tt)))

abbrev pub script_ways : ScriptLine → List Way
script_ways (scripts.Me n again) = by me_row (n, (again, tt))
script_ways (scripts.Local address) = by local_row (address, tt)
script_ways (scripts.Node line) = node_ways line
script_ways (scripts.At at does) = at_ways at does
script_ways (scripts.Stop at) = by at_stop_row (at, tt)

-- Where a row leaves a part of the line out, it is a way to write the lines alone that it makes.
abbrev pub ways : Form → Said → List Way
ways form lines.Blank = by blank_row tt
ways form (lines.Params p) =
    by params_start_row (p.mpl, (p.r, (p.a, (p.rto, (p.probe, (p.seg, (p.cap, (p.rcap, (p.window, (p.run_limit, (p.start, tt)))))))))))
    ++ by params_row (p.mpl, (p.r, (p.a, (p.rto, (p.probe, (p.seg, (p.cap, (p.rcap, (p.window, (p.run_limit, tt))))))))))
ways form lines.Go = by go_row tt
ways form (lines.Setup line) = in_world form (setup_ways line)
ways form (lines.Run line) = run_ways form line
ways form (lines.Script line) = in_script form (script_ways line)

-- the row makes the line, with values of the kinds of its words
abbrev pub IsWay : Said → Way → Type 0
IsWay said way = (made way.row.words way.row.says way.values ≡ said) × AreOfKinds way.row.words way.values

-- A line of the form, with its values in their ranges: the first of its ways writes it.
abbrev pub IsLineBy : Said → List Way → Type 0
IsLineBy said [] = ⊥
IsLineBy said (way ∷ ways) = IsWay said way

abbrev pub IsLine : Form → Said → Type 0
IsLine form said = IsLineBy said (ways form said)

-- the words of a way with one space between two of them
unfoldable pub way_text : Way → List ℕ
way_text way = join_with_byte 32 (texts way.row.words way.values)

abbrev pub IsSpelledBy : Said → List ℕ → List Way → Type 0
IsSpelledBy said octets [] = ⊥
IsSpelledBy said octets (way ∷ ways) = (IsWay said way × (octets ≡ way_text way)) ⊎ IsSpelledBy said octets ways

-- The octets are a spelling of the line. A line has one spelling, but for parameters whose START is 0: it may be left out.
abbrev pub IsSpelling : Form → Said → List ℕ → Type 0
IsSpelling form said octets = IsSpelledBy said octets (ways form said)
