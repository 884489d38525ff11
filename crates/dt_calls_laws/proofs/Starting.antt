-- The facts of calls hold where there are none yet, over a new world.
use Rattle.std.proofs.Common.{ℕ, ◌≡◌, false, List, refl}
use Rattle.std.proofs.lemmas.List.Elements.{All-nil}
use Rattle.dt_units.specs.Limits.{IsWithinLimits}
use Rattle.dt_world_model.specs.Setup.{Setup, new_world}
use Rattle.dt_world_laws.proofs.Starts.{new_world_facts}
use Rattle.dt_calls_model.specs.Calls.{Calls, new_calls}
use Rattle.dt_calls_model.specs.CallFacts.{CallFacts, CallIsKept}
use Rattle.dt_calls_model.specs.CallStep.{becomes_unsure}
use Rattle.dt_calls_model.specs.Promises.{IsServedOnce}

pub new_calls_facts : (answer : List ℕ → List ℕ) (setup : Setup) → IsWithinLimits setup.params → CallFacts answer (new_calls (new_world setup))
new_calls_facts answer setup limits =
    let c : Calls = new_calls (new_world setup) in
    record {
      course = record {
        limits = limits;
        world = new_world_facts setup;
        distinct = tt;
        flows = tt;
        others = λ f one two. refl;
        calls = All-nil (CallIsKept c);
        once = All-nil IsServedOnce;
      };
      rest = tt;
      sure = All-nil (λ call. becomes_unsure c.world call ≡ false);
    }
