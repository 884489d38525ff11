-- What tells no message, and what it leaves.
use Rattle.std.specs.Prelude.{◌≡◌, map}
use Rattle.dt_flow_model.specs.Ledger.{item_of}
use Rattle.dt_world_model.specs.Ledgers.{FlowLedger}
use Rattle.dt_reports.specs.Told.{Told}
use Rattle.dt_world_model.specs.Script.{Script}
use Rattle.dt_world_laws.specs.Tellings.{AllTold}
use Rattle.dt_calls_model.specs.Heard.{ALoss, APiece, ARefusal, ATaking, AnAcceptance, Heard, NoMessage, heard}

-- no piece, no send and no data
abbrev pub IsSilent : Heard → Type 0
IsSilent (APiece piece) = ⊥
IsSilent ATaking = ⊥
IsSilent ARefusal = ⊥
IsSilent (AnAcceptance flow) = ⊥
IsSilent (ALoss flow) = Unit {0}
IsSilent NoMessage = Unit {0}

abbrev pub IsSilentTold : Told → Type 0
IsSilentTold r = IsSilent (heard r)

-- whatever tags are answered
abbrev pub TellsNoMessage : {T A : Type 0} → Script T A → Type 0
TellsNoMessage s = AllTold IsSilentTold s

-- two ledgers of a flow with the same octets taken, given and read
pub record SameOctets (l after : FlowLedger) : Type 0 where
  pub taken : map item_of after.taken ≡ map item_of l.taken
  pub given : after.given ≡ l.given
  pub reads : after.reads ≡ l.reads
