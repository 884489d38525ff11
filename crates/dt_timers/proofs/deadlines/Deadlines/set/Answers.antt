use Rattle.std.proofs.Common.{ℕ, ◌<◌, List, Option, length, set, sym, ap, subst, ◌∙◌, arith}
use Rattle.std.proofs.lemmas.List.{length-map}
use Rattle.dt_timers.specs.Deadlines.{StandInPlace, moment_of}
use Rattle.dt_timers.proofs.Places.{moments, stand, wrote}
use Rattle.dt_timers.proofs.deadlines.Deadlines.set.Goals as goal

pub place-requires : goal.place-requires
place-requires c =
    let t = c.self.inside.tournament in
    let long = length-map t moment_of in
    let whole = ap (λ (ms : List (Option ℕ)). length ms) c.self.view_is in
    let within = c.requires in
    omega arith

pub invariant_of-self : goal.invariant_of-self
invariant_of-self c =
    let t = c.self.inside.tournament in
    let long = length-map t moment_of in
    let whole = ap (λ (ms : List (Option ℕ)). length ms) c.self.view_is in
    let within = c.requires in
    let at : c.args.place < length t = omega arith in
    subst StandInPlace (sym c.place.ensures) (stand t c.args.place c.args.moment at c.self.invariant)

pub returns : goal.returns
returns c =
    let t = c.self.inside.tournament in
    ap moments c.place.ensures
    ∙ wrote t c.args.place c.args.moment
    ∙ ap (λ (ms : List (Option ℕ)). set ms c.args.place c.args.moment) c.self.view_is
