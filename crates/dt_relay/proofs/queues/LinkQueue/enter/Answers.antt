use Rattle.std.proofs.Common.{◌≡◌, ◌∙◌, subst, sym}
use Rattle.std.proofs.lemmas.List.Elements.{All-push}
use Rattle.dt_layout.specs.Carried.{IsGram}
use Rattle.dt_relay.specs.Carrying.{WaitsAsGram}
use Rattle.dt_relay.proofs.queues.LinkQueue.enter.Goals as goal

pub invariant_of-self-2 : goal.invariant_of-self-2
invariant_of-self-2 g c =
    let kept = c.self.invariant in
    let held : c.in_ok-octets.octets.items ≡ g.P.Carry.octets c.args.packet = c.in_ok-octets.ensures.same ∙ c.as_slice.ensures.same ∙ c.frame.ensures in
    let gram : IsGram c.in_ok-octets.octets.items = subst IsGram (sym held) c.requires in
    rw (c.push_back_reserved.ensures.items, c.reserve.ensures.items) record {
      grams = All-push WaitsAsGram c.self.inside.waits.items (record { octets = c.in_ok-octets.octets; tag = c.into_tag-tag.result; since = c.args.now }) kept.grams gram;
      last_out = kept.last_out;
    }
