use Rattle.std.proofs.Common.{ℕ, ◌≡◌, true, false, List, Option, None, set, sym, ap, ◌∙◌}
use Rattle.std.specs.Prelude.{not}
use Rattle.dt_timers.specs.declared.deadline.Deadline.{Deadline}
use Rattle.dt_timers.specs.declared.lazy_tournament.LazyTournament.TheInside.{Inside}
use Rattle.dt_timers.specs.Latest.{is_in, with_latest}
use Rattle.dt_timers.specs.Tournaments.{deadline_in}
use Rattle.dt_timers.proofs.Latest.{again, emptied, next_kept, none_is}
use Rattle.dt_timers.proofs.lazy_tournament.LazyTournament.change.Goals as goal
use Rattle.dt_timers.proofs.lazy_tournament.LazyTournament.change.Goals.{in-Some, in_default}

pub returns-then-is_in : goal.returns-then-is_in
returns-then-is_in c =
    let t = c.self.inside in
    let in_it : is_in t.latest c.args.place ≡ true = ap (λ (o : Option Deadline). is_in o c.args.place) (sym c.deadline-latest.ensures) ∙ sym c.is_in.ensures ∙ c.if-is_in.true in
    ap (λ (o : Option Deadline). with_latest o t.played) c.of-placed.ensures
    ∙ again t.played t.latest c.args.place c.args.moment in_it c.self.invariant.beside
    ∙ ap (λ (places : List (Option Deadline)). set places c.args.place (deadline_in c.args.place c.args.moment)) c.self.view_is

pub returns-then-is_none : goal.returns-then-is_none
returns-then-is_none c =
    let t = c.self.inside in
    let not_in : is_in t.latest c.args.place ≡ false = ap (λ (o : Option Deadline). is_in o c.args.place) (sym c.deadline-latest.ensures) ∙ sym c.is_in.ensures ∙ c.if-is_in.false in
    let none : c.args.moment ≡ None = none_is c.args.moment (c.is_none.ensures ∙ ap not c.if-is_none.true) in
    ap (with_latest t.latest) c.place.ensures
    ∙ emptied t.played t.latest c.args.place not_in
    ∙ ap (λ (m : Option ℕ). set (with_latest t.latest t.played) c.args.place (deadline_in c.args.place m)) (sym none)
    ∙ ap (λ (places : List (Option Deadline)). set places c.args.place (deadline_in c.args.place c.args.moment)) c.self.view_is

pub returns : goal.returns
returns c =
    let t = c.self.inside in
    let played : c.match-latest.self-inside.played ≡ with_latest t.latest t.played =
    elim c.match-latest.branch [
      | in-Some w ↦
          ap (λ (inside : Inside). inside.played) w.self-inside-is
          ∙ w.place-in-Some.ensures
          ∙ ap (λ (o : Option Deadline). with_latest o t.played) (sym w.in-Some.is ∙ c.deadline-latest.ensures)
      | in_default w ↦
          ap (λ (inside : Inside). inside.played) w.self-inside-is
          ∙ ap (λ (o : Option Deadline). with_latest o t.played) (sym w.in_default.is ∙ c.deadline-latest.ensures)
    ] in
    next_kept (with_latest t.latest t.played) c.match-latest.self-inside.played c.place-2.new.self c.args.place c.args.moment c.of-placed.result (c.is_none.ensures ∙ ap not c.if-is_none.false) c.of-placed.ensures played c.place-2.ensures
    ∙ ap (λ (places : List (Option Deadline)). set places c.args.place (deadline_in c.args.place c.args.moment)) c.self.view_is
