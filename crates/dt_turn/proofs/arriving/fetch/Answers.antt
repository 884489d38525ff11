use Rattle.std.proofs.Common.{◌≡◌, Some, arith}
use Rattle.dt_shelf.specs.declared.taken.Taken.{Taken}
use Rattle.dt_shelf.specs.declared.taken.Taken.TheVariants as taken
use Rattle.dt_shelf.specs.Shelves.{take_held}
use Rattle.dt_turn.specs.Shelving.{fetch}
use Rattle.dt_shelf.proofs.Keeping.{take_falls}
use Rattle.dt_turn.proofs.Shelved.{again_plays, stale_goes}
use Rattle.dt_turn.proofs.arriving.fetch.Goals as goal

pub fetching-smaller : goal.fetching-smaller
fetching-smaller g c =
    let is : Some taken.Stale ≡ (take_held c.args.wanted.flow c.args.wanted.number c.args.now.ms c.fetching.shelf).0 = rw (c.in-Some.is, c.in-Stale.is) at c.take_into.ensures.taken in
    let less = take_falls c.args.wanted.flow c.args.wanted.number c.args.now.ms c.fetching.shelf c.take_into.new.self taken.Stale is c.take_into.ensures.left in
    omega (arith, less)

pub fetching-preserved : goal.fetching-preserved
fetching-preserved g c =
    let v = g.V.Visitor in
    let i = c.fetching.invariant in
    let flow = c.args.wanted.flow in
    let n = c.args.wanted.number in
    let now = c.args.now.ms in
    let left = c.take_into.ensures.left in
    let is : Some taken.Stale ≡ (take_held flow n now c.fetching.shelf).0 = rw (c.in-Some.is, c.in-Stale.is) at c.take_into.ensures.taken in
    let less = take_falls flow n now c.fetching.shelf c.take_into.new.self taken.Stale is left in
    let step = stale_goes v.tells (v.tags now) v.hands v.fails (fetch flow n now c.args.shelf.now) c.args.visitor.now flow n now i.most c.fetching.shelf c.take_into.new.self c.fetching.visitor i.enough i.leads left c.tell.new.self is c.tell.ensures in
    record {
      most = step.0;
      enough = step.1;
      leads = step.2;
      fewer = omega (arith, less, i.fewer);
    }

pub returns-in-Again-clause-plays : goal.returns-in-Again-clause-plays
returns-in-Again-clause-plays g c =
    let v = g.V.Visitor in
    let i = c.fetching.invariant in
    let flow = c.args.wanted.flow in
    let n = c.args.wanted.number in
    let now = c.args.now.ms in
    let link = c.in-Again.link in
    let octets = c.take_into.new.frame in
    let is : Some (taken.Again link octets) ≡ (take_held flow n now c.fetching.shelf).0 = rw (c.in-Some.is, c.in-Again.is) at c.take_into.ensures.taken in
    again_plays v.tells (v.tags now) v.hands v.fails (fetch flow n now c.args.shelf.now) c.args.visitor.now flow n now i.most c.fetching.shelf c.take_into.new.self c.fetching.visitor i.enough i.leads c.take_into.ensures.left c.tell-in-Again.new.self link octets is c.tell-in-Again.ensures

pub returns-in-Again-clause-fewer : goal.returns-in-Again-clause-fewer
returns-in-Again-clause-fewer g c =
    let i = c.fetching.invariant in
    let t : Taken = taken.Again c.in-Again.link c.take_into.new.frame in
    let is : Some t ≡ (take_held c.args.wanted.flow c.args.wanted.number c.args.now.ms c.fetching.shelf).0 = rw (c.in-Some.is, c.in-Again.is) at c.take_into.ensures.taken in
    let less = take_falls c.args.wanted.flow c.args.wanted.number c.args.now.ms c.fetching.shelf c.take_into.new.self t is c.take_into.ensures.left in
    omega (arith, less, i.fewer)
