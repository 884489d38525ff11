use Rattle.dt_early_laws.specs.Shelved.{new_shelved}
use Rattle.dt_early_laws.proofs.Network.{unshelved}
use Rattle.dt_early_laws.proofs.shelved_network_is_a_network.Goals as goal

pub returns : goal.returns
returns c = λ setup shelved are keep.
    let spells = c.unrefused_spells.ensures.deltagram in
    let delays = c.shelf_is_a_link_that_delays.ensures.endpoint in
    unshelved setup spells delays shelved (new_shelved setup) (λ m e there unspent. tt) are keep
