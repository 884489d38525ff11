use Rattle.std.proofs.lemmas.List.Elements.{All-drop}
use Rattle.dt_relay.specs.Carrying.{WaitsAsGram}
use Rattle.dt_relay.proofs.queues.LinkQueue.leave.Goals as goal

pub invariant_of-self-in_default : goal.invariant_of-self-in_default
invariant_of-self-in_default g c =
    let kept = c.self.invariant in
    rw c.pop_front.ensures.rest record { grams = All-drop WaitsAsGram 1 c.self.inside.waits.items kept.grams; last_out = kept.last_out }

pub invariant_of-self-2 : goal.invariant_of-self-2
invariant_of-self-2 g c =
    let kept = c.self.invariant in
    rw c.pop_front.ensures.rest record { grams = All-drop WaitsAsGram 1 c.self.inside.waits.items kept.grams; last_out = c.args.now.bounded }
