-- What a report says of the world, as the definitions have it.
use Rattle.dt_world_model.specs.Ledgers as ledgers
use Rattle.dt_notes.specs.declared.effects.Change.{Change}
use Rattle.dt_notes.specs.declared.effects.Change.TheVariants as change
use Rattle.dt_notes.specs.declared.effects.SenderStep.{SenderStep}
use Rattle.dt_notes.specs.declared.effects.SenderStep.TheVariants as step
use Rattle.dt_notes.specs.declared.effects.Effect.{Effect}
use Rattle.dt_notes.specs.declared.effects.Effect.TheVariants as effect

abbrev pub step_seen : SenderStep → ledgers.Change
step_seen (step.Transmits count) = ledgers.Transmits count
step_seen step.TransmitsAgain = ledgers.TransmitsAgain
step_seen (step.GivesUp count) = ledgers.GivesUp count
step_seen (step.Settles count) = ledgers.Settles count

abbrev pub change_seen : Change → ledgers.Change
change_seen change.Takes = ledgers.Takes
change_seen (change.Sends does) = step_seen does
change_seen (change.Accepts run) = ledgers.Accepts run
change_seen (change.ReadsOut count) = ledgers.ReadsOut count

abbrev pub effect_seen : Effect → ledgers.Effect
effect_seen (effect.Changes flow change) = ledgers.Changes flow (change_seen change)
effect_seen (effect.Leaves link life) = ledgers.Leaves link life
effect_seen effect.Neither = ledgers.Neither
