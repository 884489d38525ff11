use Rattle.dt_messages.proofs.Joined.{begun_is, none_dropped, whole_is}
use Rattle.dt_messages.proofs.laws.joiner_without_a_longest_is_the_definition.Goals as goal

pub returns : goal.returns
returns c = record { whole = whole_is; begun = begun_is; none = none_dropped }
