-- The events of calls: a call's flow is in its ranges, and an event of the world is no send and no read.
use Rattle.dt_units.specs.Flows.{IsFlow}
use Rattle.dt_calls_model.specs.CallStep.{CallEvent, Happens, Makes}
use Rattle.dt_calls_laws.specs.Grown.{IsNoSendOrRead}

abbrev pub MayCome : CallEvent → Type 0
MayCome (Makes f payload) = IsFlow f
MayCome (Happens e) = IsNoSendOrRead e
