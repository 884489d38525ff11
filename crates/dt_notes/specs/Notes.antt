-- What the world notes, as the definitions have it.
use Rattle.std.specs.Prelude.{◌+◌, ◌^◌, ◌≤◌, ◌≡◌, ◌⊎◌, List, [], IsSome, None, length}
use Rattle.dt_units.specs.declared.endpoints.Flow.{Flow}
use Rattle.dt_flow_model.specs.Ledger.{HasNoEntry}
use Rattle.dt_ledger.specs.Reads.{read_of_all}
use Rattle.dt_world_model.specs.Ledgers.{Accepts, Change, FlowLedger, FlowRun, GivesUp, Ledgers, ReadsOut, Settles, Takes, Transmits, TransmitsAgain, ledger_of, run_of}
use Rattle.dt_world_model.specs.Tables.{look, same_flow, write}
use Rattle.dt_notes.specs.declared.notes.Notes.{Notes}
use Rattle.dt_notes.specs.declared.event_contexts.EventContext.{EventContext}

abbrev pub ledgers_seen : Notes → Ledgers
ledgers_seen n = record { rows = n.ledger; runs = n.runs.entries }

-- the run of a flow, of which there is none where it isn't there
abbrev pub run_in : List (Flow × FlowRun) → Flow → FlowRun
run_in runs f = run_of (record { rows = []; runs = runs }) f

-- A flow is there where it has rows and a run; one that isn't begins with none of either. What stands of it stays.
pub record IsThere (f : Flow) (all : Ledgers) : Type 0 where
  pub rows : IsSome (look same_flow f all.rows)
  pub run : IsSome (look same_flow f all.runs)

abbrev pub IsNew : Flow → Ledgers → Type 0
IsNew f all = (look same_flow f all.rows ≡ None) ⊎ (look same_flow f all.runs ≡ None)

abbrev pub begun : Flow → Ledgers → Ledgers
begun f all = record { rows = write same_flow f (ledger_of all f) all.rows; runs = write same_flow f (run_of all f) all.runs }

-- WHERE A CHANGE OF A FLOW THAT IS THERE FINDS NO MEMORY. Octets that are taken or given want room, and so does the first read of a life.
abbrev pub WantsRoom : EventContext → Change → FlowLedger → Type 0
WantsRoom o Takes l = Unit {0}
WantsRoom o (Transmits count) l = ⊥
WantsRoom o TransmitsAgain l = ⊥
WantsRoom o (GivesUp count) l = ⊥
WantsRoom o (Settles count) l = ⊥
WantsRoom o (Accepts run) l = Unit {0}
WantsRoom o (ReadsOut count) l = HasNoEntry o.life l.reads

-- The places of given octets, and the count of those that were read, would not end below 2^62.
abbrev pub IsBeyond : EventContext → Change → FlowLedger → Type 0
IsBeyond o Takes l = ⊥
IsBeyond o (Transmits count) l = ⊥
IsBeyond o TransmitsAgain l = ⊥
IsBeyond o (GivesUp count) l = ⊥
IsBeyond o (Settles count) l = ⊥
IsBeyond o (Accepts run) l = 2 ^ 62 ≤ o.brought.place + length o.brought.octets.octets.now
IsBeyond o (ReadsOut count) l = 2 ^ 62 ≤ read_of_all l.reads + count
