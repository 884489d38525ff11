-- An event at a station, as the definitions have it.
use Rattle.dt_items.specs.Unread.{items_of}
use Rattle.dt_world_model.specs.Ledgers as ledgers
use Rattle.dt_notes.specs.declared.event_contexts.EventContext.{EventContext}

abbrev pub occasion_seen : EventContext → ledgers.Occasion
occasion_seen o = record { params = o.rules.now; now = o.now; node = o.node; life = o.life; items = items_of o.brought.octets; place = o.brought.place }
