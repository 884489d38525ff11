-- What is dropped of those that wait, one after another.
use Rattle.std.proofs.Common.{rules, ◌∷◌, ◌++◌, ◌∙◌, [], All, List, ap, sym, ℕ}
use Rattle.std.proofs.lemmas.List.{append_assoc}
use Rattle.std.proofs.lemmas.List.Elements.{All-append}
use Rattle.dt_machine.specs.Backlogs.{Waiting}
use Rattle.dt_machine.specs.Intakes.{FirstAreLate, FirstIsLate, IsLate}

pub late-alone : (now : ℕ) → (w : Waiting) → IsLate now w → All (IsLate now) (w ∷ [])
late-alone now w late = search rules

-- one more was dropped
pub drops-one-more : (now : ℕ) → (before between after : List Waiting) → FirstAreLate now before between → FirstIsLate now between after → FirstAreLate now before after
drops-one-more now before between after some one = record {
  dropped = some.dropped ++ one.first ∷ [];
  waited = some.waited ∙ ap (λ l. some.dropped ++ l) one.waited ∙ sym (append_assoc some.dropped (one.first ∷ []) after);
  late = All-append (IsLate now) some.dropped (one.first ∷ []) some.late (late-alone now one.first one.late);
}
