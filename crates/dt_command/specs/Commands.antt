-- The commands: which words name one, and which of them reads the source or uses wire and clock.
use Rattle.std.specs.Prelude.{◌≤◌, Bool, true, false, List, [], ◌∷◌, Option, Some, None, if◌then◌else◌, map, option_map, codes, String, string_bytes, bytes_eq}
use Rattle.dt_log.specs.Words.{Text}
use Rattle.dt_make.specs.Schedules.{most_rounds}
use Rattle.dt_command.specs.declared.command.Command.{Command}
use Rattle.dt_command.specs.declared.command.Command.TheVariants.{Serve, Make}
use Rattle.dt_command.specs.declared.job.Job.{Job}
use Rattle.dt_command.specs.declared.job.Job.TheVariants.{Replay, Node, Trace, Retrace, Calls, Audit}
use Rattle.dt_command.specs.Words.{without_mark, rounds_of}

-- the job that a word names
abbrev pub job_of : Text → Option Job
job_of word =
    if bytes_eq word (codes "replay") then Some Replay
    else if bytes_eq word (codes "node") then Some Node
    else if bytes_eq word (codes "trace") then Some Trace
    else if bytes_eq word (codes "retrace") then Some Retrace
    else if bytes_eq word (codes "calls") then Some Calls
    else if bytes_eq word (codes "audit") then Some Audit
    else None

-- the command of one word
abbrev pub alone : Text → Option Command
alone word = option_map Serve (job_of word)

-- the command of a word and a count
abbrev pub counted : Text → Text → Option Command
counted word count = if bytes_eq word (codes "make") then option_map Make (rounds_of count) else None

-- the command of the first word and the next, where they are there
abbrev pub named_by : (word count : Option Text) → Option Command
named_by None count = None
named_by (Some word) None = alone word
named_by (Some word) (Some count) = counted word count

-- the command of all of the words
abbrev pub named : List Text → Option Command
named [] = None
named (word ∷ []) = alone word
named (word ∷ count ∷ []) = counted word count
named (word ∷ count ∷ next ∷ more) = None

-- THE COMMAND that the words of the command line name
abbrev pub command_of : {Z : Type 0} → List (String Z) → Option Command
command_of words = named (without_mark (map string_bytes words))

-- a count is within its limits
abbrev pub IsInRange : Command → Type 0
IsInRange (Serve job) = Unit {0}
IsInRange (Make n) = (1 ≤ n) × (n ≤ most_rounds)

-- whether a command reads the source
abbrev pub reads_source : Option Command → Bool
reads_source None = false
reads_source (Some (Serve job)) = true
reads_source (Some (Make n)) = false

-- whether a command uses wire and clock
abbrev pub job_uses_wire : Job → Bool
job_uses_wire Replay = false
job_uses_wire Node = true
job_uses_wire Trace = true
job_uses_wire Retrace = false
job_uses_wire Calls = false
job_uses_wire Audit = false

abbrev pub uses_wire : Option Command → Bool
uses_wire None = false
uses_wire (Some (Serve job)) = job_uses_wire job
uses_wire (Some (Make n)) = false
