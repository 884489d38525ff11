use Rattle.std.proofs.Common.{rules}
use Rattle.dt_items.proofs.item.Item.is_unmarked.Goals as goal

-- refused here: a_begin_mark_is_passed_over
pub returns : goal.returns
returns c = search rules
