-- What the code has of a line, and of the lines of a log.
use Rattle.std.specs.Prelude.{◌≡◌, Option, Some, None, Result, Ok, Err}
use Rattle.dt_items.specs.declared.memory.NoMemory.{NoMemory}
use Rattle.dt_audit.specs.declared.flaws.Flaw.{Flaw}

-- A line leads to what the definition says, or has the flaw that it says. Where memory runs out nothing is said.
abbrev pub NotesTo : {A : Type 0} → Result A Flaw → Result (Option Flaw) NoMemory → A → Type 0
NotesTo follow (Ok None) after = follow ≡ Ok after
NotesTo follow (Ok (Some flaw)) after = follow ≡ Err flaw
NotesTo follow (Err memory) after = Unit {0}
