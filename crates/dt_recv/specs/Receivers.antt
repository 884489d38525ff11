-- A receiver as its callers see it: its parameters, its flow and the receiver of the model.
use Rattle.dt_units.specs.declared.parameters.Params.{Params}
use Rattle.dt_units.specs.declared.endpoints.Flow.{Flow}
use Rattle.dt_flow_model.specs.ReceiveRecord.{Receiver}

pub record ReceiverValue : Type 0 where
  pub rules : Params
  pub flow : Flow
  pub state : Receiver
