use Rattle.std.proofs.Common.{◌-◌, length, refl}
use Rattle.std.specs.Prelude.{slice_set}
use Rattle.dt_items.proofs.Pieces.{takes_behind}
use Rattle.dt_items.proofs.unread.copy_piece.Goals as goal

pub returns-clause-copied : goal.returns-clause-copied
returns-clause-copied c =
    let more = c.following_len-more.result in
    let size = length (slice_set c.args.buf.now 0 c.args.first.now.octet) - 1 in
    takes_behind c.args.first.now c.args.items.now.items c.args.buf.now more size c.last_of.result c.copy_octets.new.room c.requires refl c.following_len-more.ensures.value c.last_of.ensures c.copy_octets.ensures
