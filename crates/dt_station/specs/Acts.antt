-- Which acts of a host make a frame.
use Rattle.std.specs.Prelude.{Bool, true, false}
use Rattle.dt_flow_model.specs.declared.acts.SendAct.TheVariants as S
use Rattle.dt_flow_model.specs.declared.acts.RecvAct.TheVariants as R
use Rattle.dt_host.specs.declared.acts.Act.{Act}
use Rattle.dt_host.specs.declared.acts.Act.TheVariants as act

abbrev pub makes_frame : Act → Bool
makes_frame (act.Send (S.GaveUp count)) = false
makes_frame (act.Send S.Released) = false
makes_frame (act.Send S.Renewed) = false
makes_frame (act.Send (S.Resent cut)) = true
makes_frame (act.Send (S.Sent cut)) = true
makes_frame (act.Send (S.Met number)) = true
makes_frame (act.Recv R.Released) = false
makes_frame (act.Recv (R.Acked number window)) = true
