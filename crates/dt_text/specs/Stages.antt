-- Where each line may stand: the stage after a line, and none where the line isn't allowed.
use Rattle.std.specs.Prelude.{ℕ, Option, Some, None, if◌then◌else◌, nat_le}
use Rattle.dt_text.specs.declared.lines.Form.{Form}
use Rattle.dt_text.specs.declared.lines.Form.TheVariants.{Schedule, Script, Calls}
use Rattle.dt_text.specs.declared.stages.Stage.{Stage}
use Rattle.dt_text.specs.declared.stages.Stage.TheVariants as stages
use Rattle.dt_text.specs.declared.lines.Line.TheVariants as lines
use Rattle.dt_text.specs.declared.lines.RunLine.{RunLine}
use Rattle.dt_text.specs.declared.lines.RunLine.TheVariants.{World, User, Call}
use Rattle.dt_text.specs.declared.lines.ScriptLine.{ScriptLine}
use Rattle.dt_text.specs.declared.lines.ScriptLine.TheVariants.{Me, Local, Node, At, Stop}
use Rattle.dt_text.specs.Said.{Said}

-- at the start alone, and then in the next stage
abbrev pub before_params : Stage → Stage → Option Stage
before_params stages.Start next = Some next
before_params _ next = None

-- after the parameters of a script alone
abbrev pub after_params : Stage → Stage → Option Stage
after_params stages.Params next = Some next
after_params _ next = None

-- after the number of the node alone
abbrev pub after_me : Stage → Stage → Option Stage
after_me stages.Me next = Some next
after_me _ next = None

-- in the setup alone
abbrev pub in_setup : Stage → Stage → Option Stage
in_setup stages.Setup next = Some next
in_setup _ next = None

-- after `go` alone, and the stage stays
abbrev pub in_run : Stage → Option Stage
in_run (stages.Run last) = Some (stages.Run last)
in_run _ = None

-- after `go` alone, and not before the last moment
abbrev pub not_before : Stage → ℕ → Stage → Option Stage
not_before (stages.Run last) moment next = if nat_le last moment then Some next else None
not_before _ moment next = None

-- A schedule: the parameters, then stations, links and routes, then `go`, then what happens.
abbrev pub schedule_run : Stage → RunLine → Option Stage
schedule_run stage (World line) = in_run stage
schedule_run stage (User line) = in_run stage
schedule_run stage (Call flow hex) = None

-- An input of calls: as a schedule, with calls in place of sends and reads.
abbrev pub calls_run : Stage → RunLine → Option Stage
calls_run stage (World line) = in_run stage
calls_run stage (User line) = None
calls_run stage (Call flow hex) = in_run stage

-- the input of a world, by what may stand after its `go`
abbrev pub world_after : (Stage → RunLine → Option Stage) → Stage → Said → Option Stage
world_after run stage lines.Blank = Some stage
world_after run stage (lines.Params p) = before_params stage stages.Setup
world_after run stage lines.Go = in_setup stage (stages.Run 0)
world_after run stage (lines.Setup line) = in_setup stage stages.Setup
world_after run stage (lines.Run line) = run stage line
world_after run stage (lines.Script line) = None

-- A script: the parameters, the node's number, its address, then peers, routes and the shelf, then `go`, then
-- what happens at moments that never fall, and the stop last.
abbrev pub script_line_after : Stage → ScriptLine → Option Stage
script_line_after stage (Me n again) = after_params stage stages.Me
script_line_after stage (Local address) = after_me stage stages.Setup
script_line_after stage (Node line) = in_setup stage stages.Setup
script_line_after stage (At at does) = not_before stage at (stages.Run at)
script_line_after stage (Stop at) = not_before stage at stages.Ended

abbrev pub script_after : Stage → Said → Option Stage
script_after stage lines.Blank = Some stage
script_after stage (lines.Params p) = before_params stage stages.Params
script_after stage lines.Go = in_setup stage (stages.Run 0)
script_after stage (lines.Setup line) = None
script_after stage (lines.Run line) = None
script_after stage (lines.Script line) = script_line_after stage line

-- the stage after a line of the form, where the line is allowed
abbrev pub stage_after : Form → Stage → Said → Option Stage
stage_after Schedule stage line = world_after schedule_run stage line
stage_after Script stage line = script_after stage line
stage_after Calls stage line = world_after calls_run stage line
