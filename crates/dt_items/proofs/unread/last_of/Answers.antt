use Rattle.std.proofs.Common.{arith}
use Rattle.dt_items.proofs.Pieces.{last_item-is}
use Rattle.dt_items.proofs.unread.last_of.Goals as goal

pub returns-else-more-eq0 : goal.returns-else-more-eq0
returns-else-more-eq0 c = last_item-is c.args.first.now c.args.items.now.items c.args.more c.item_in.result (omega arith) c.item_in.ensures
