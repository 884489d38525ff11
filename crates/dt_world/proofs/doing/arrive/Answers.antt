use Rattle.std.proofs.Common.{ℕ, [], ◌∷◌, ap, ◌∙◌}
use Rattle.dt_world_model.specs.declared.links.Link.{Link}
use Rattle.dt_world_model.specs.WorldStep.{is_late_copy, is_lost, link_in}
use Rattle.dt_world.specs.Worlds.{world_seen}
use Rattle.dt_world.proofs.Arriving.{copy_came, copy_comes, copy_packet, copy_there}
use Rattle.dt_world.proofs.doing.arrive.Goals as goal

pub take_copy-link-requires-clause-there : goal.take_copy-link-requires-clause-there
take_copy-link-requires-clause-there g c =
    let w = world_seen c.args.parts.now in
    copy_there w c.args.copy (is_lost w c.args.copy ∷ is_late_copy w c.args.copy ∷ []) c.requires.begun

pub take_copy-link-requires-clause-gram : goal.take_copy-link-requires-clause-gram
take_copy-link-requires-clause-gram g c = (copy_packet (world_seen c.args.parts.now) c.args.copy c.requires.whole.facts c.requires.begun).gram

pub event_at-requires-clause-possible : goal.event_at-requires-clause-possible
event_at-requires-clause-possible g c =
    let w = world_seen c.args.parts.now in
    let node = ap (λ (l : Link). l.to) (c.link_of-to.ensures ∙ ap (λ (i : ℕ). link_in i w.links) c.take_copy-link.ensures.link) in
    copy_comes w c.args.copy c.take_copy-link.result.0 c.link_of-to.result.to _ c.take_copy-link.ensures.link node c.take_copy-link.ensures.parcel c.requires.whole.limits c.requires.whole.facts c.requires.begun

pub returns-clause-happens : goal.returns-clause-happens
returns-clause-happens g c =
    let w = world_seen c.args.parts.now in
    let node = ap (λ (l : Link). l.to) (c.link_of-to.ensures ∙ ap (λ (i : ℕ). link_in i w.links) c.take_copy-link.ensures.link) in
    copy_came w c.args.copy c.take_copy-link.result.0 c.link_of-to.result.to _ c.take_copy-link.ensures.link node c.take_copy-link.ensures.parcel g.L.Lines.tells c.event_at.result _ _ _ c.event_at.ensures.happens
