-- A sender as its callers see it: its parameters, its flow and the send record of the model.
use Rattle.std.specs.Prelude.{ℕ, nat_le, if◌then◌else◌, Option, Some, None}
use Rattle.std.specs.Option.{option_or}
use Rattle.dt_units.specs.declared.parameters.Params.{Params}
use Rattle.dt_units.specs.declared.endpoints.Flow.{Flow}
use Rattle.dt_flow_model.specs.declared.acts.SendKind.{SendKind}
use Rattle.dt_flow_model.specs.declared.acts.SendKind.TheVariants.{GiveUp, Release, Resend, Send, Meet}
use Rattle.dt_flow_model.specs.declared.moments.SendMoments.{SendMoments}
use Rattle.dt_flow_model.specs.SendRecord.{SendRecord}

pub record SenderValue : Type 0 where
  pub rules : Params
  pub flow : Flow
  pub state : SendRecord

-- a kind whose moment has come, with the moment
abbrev pub due_if : ℕ → SendKind → Option ℕ → Option (SendKind × ℕ)
due_if now kind None = None
due_if now kind (Some moment) = if nat_le moment now then Some (kind, moment) else None

-- the first kind whose moment has come
abbrev pub first_due : ℕ → SendMoments → Option (SendKind × ℕ)
first_due now m =
    option_or (due_if now GiveUp m.give_up) (option_or (due_if now Release m.release) (option_or (due_if now Resend m.resend) (option_or (due_if now Send m.send) (due_if now Meet m.meet))))
