use Rattle.std.proofs.Common.{arith}
use Rattle.dt_items.proofs.Marks.{length-marked}
use Rattle.dt_send.proofs.RingLemmas.{held_is}
use Rattle.dt_send.proofs.StepLemmas.{marked_plain, put_is, put_rings}
use Rattle.std.proofs.Common.{false}
use Rattle.dt_items.specs.Unread.{marked}
use Rattle.dt_send.proofs.send_buffer.SendBuffer.put.Goals as goal

pub append_marked-requires : goal.append_marked-requires
append_marked-requires c = omega (arith, c.requires.fits, c.requires.rings.room, held_is _ _ c.requires.rings)

pub returns-clause-rings : goal.returns-clause-rings
returns-clause-rings c =
    let k = c.args.asked.now in
    let added = marked k.octets.now k.begin k.end false in
    let count = length-marked k.octets.now k.begin k.end false in
    put_rings c.args.rules.now c.args.self.now c.requires.rings added c.append_marked.new.ring c.append_marked.ensures
    (marked_plain k.octets.now k.begin k.end)
    (omega (arith, count, c.requires.fits))
    (omega (arith, count, c.requires.counted))

pub returns-clause-record : goal.returns-clause-record
returns-clause-record c =
    let k = c.args.asked.now in
    put_is c.args.rules.now c.args.self.now c.requires.rings (marked k.octets.now k.begin k.end false) c.append_marked.new.ring c.append_marked.ensures
