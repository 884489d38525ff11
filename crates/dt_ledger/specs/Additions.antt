-- What is added to the ledger of a flow.
use Rattle.std.specs.Prelude.{◌+◌, ◌^◌, ◌<◌, ◌++◌}
use Rattle.dt_items.specs.Unread.{items_of}
use Rattle.dt_flow_model.specs.Ledger.{HasNoEntry, note_read, take_rows}
use Rattle.dt_world_model.specs.Ledgers.{FlowLedger}
use Rattle.dt_ledger.specs.declared.additions.Addition.{Addition}
use Rattle.dt_ledger.specs.declared.additions.Addition.TheVariants.{Taken, Given, Read}
use Rattle.dt_ledger.specs.Gives.{rows_given}
use Rattle.dt_ledger.specs.Reads.{read_of_all}

abbrev pub added : Addition → FlowLedger → FlowLedger
added (Taken life octets) l = record l { taken = take_rows life (items_of octets) l.taken }
added (Given octets) l = record l { given = l.given ++ rows_given octets }
added (Read life count) l = record l { reads = note_read life count l.reads }

-- what may be added: the octets that were read stay below 2^62
abbrev pub MayBeAdded : Addition → FlowLedger → Type 0
MayBeAdded (Taken life octets) l = Unit {0}
MayBeAdded (Given octets) l = Unit {0}
MayBeAdded (Read life count) l = read_of_all l.reads + count < 2 ^ 62

-- where memory is taken: of what is read, at the first read of a life alone
abbrev pub TakesMemory : Addition → FlowLedger → Type 0
TakesMemory (Taken life octets) l = Unit {0}
TakesMemory (Given octets) l = Unit {0}
TakesMemory (Read life count) l = HasNoEntry life l.reads
