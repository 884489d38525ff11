use Rattle.std.proofs.Common.{ℕ, [], Option, Some, None, ◌≡◌, ◌<◌, length, List, sym, subst}
use Rattle.dt_table.specs.Agendas.{IsFirstPlace, Tables, moment_of_kind}
use Rattle.std.specs.Prelude.{slice_index_or}
use Rattle.dt_timers.specs.Deadlines.{moment_at}
use Rattle.dt_table.proofs.Agendas.{first_of_kind, none_of_kind, read_table}
use Rattle.dt_table.proofs.agenda.Agenda.first.Goals as goal

module _ (ts : Tables) (k : ℕ) (t : List (Option ℕ)) (is : t ≡ slice_index_or ts k []) where
  first_is : (o : Option (ℕ × ℕ)) → IsFirstPlace (moment_at t) o → IsFirstPlace (moment_of_kind ts k) o
  first_is None none = none_of_kind ts k t is none
  first_is (Some f) first = first_of_kind ts k t is f.0 f.1 first

pub returns : goal.returns
returns c = let e = c.self.view_is in first_is c.args.self.now c.args.kind c.index.result.now (subst (λ (l : Tables). c.index.result.now ≡ slice_index_or l c.args.kind []) e (read_table c.self.inside.tables.items c.args.kind c.index.result.now c.index.ensures (subst (λ (l : Tables). c.args.kind < length l) (sym e) c.requires))) c.first.result c.first.ensures
