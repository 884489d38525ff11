use Rattle.std.proofs.lemmas.Result.{err_from_is_err_and}
use Rattle.dt_world_model.specs.Station.{station_event}
use Rattle.dt_world.specs.PlacedEvents.{event_seen}
use Rattle.dt_world.proofs.Telling.{lines_kept, links_kept, notes_kept, played_all, played_part}
use Rattle.dt_world.proofs.placed_stations.play.Goals as goal

pub returns-in_err-take_part-clause-notes : goal.returns-in_err-take_part-clause-notes
returns-in_err-take_part-clause-notes g c = notes_kept g.L.Lines.tells c.args.reporter.now c.take_part.result (station_event c.args.station.now.rules c.args.now.ms (event_seen c.args.event.now) c.args.station.now.state) c.take_part.new.reporter c.take_part.new.station.state c.take_part.ensures.script

pub returns-in_err-take_part-clause-lines : goal.returns-in_err-take_part-clause-lines
returns-in_err-take_part-clause-lines g c = lines_kept g.L.Lines.tells c.args.reporter.now c.take_part.result (station_event c.args.station.now.rules c.args.now.ms (event_seen c.args.event.now) c.args.station.now.state) c.take_part.new.reporter c.take_part.new.station.state c.take_part.ensures.script

pub returns-in_err-take_part-clause-played : goal.returns-in_err-take_part-clause-played
returns-in_err-take_part-clause-played g c =
    let p = err_from_is_err_and c.from_residual.result c.from_residual.ensures.1 in
    rw p.1 (played_part g.L.Lines.tells c.args.reporter.now c.take_part.result (station_event c.args.station.now.rules c.args.now.ms (event_seen c.args.event.now) c.args.station.now.state) c.take_part.new.reporter c.take_part.new.station.state c.take_part.ensures.script)

pub returns-then-reporter-clause-notes : goal.returns-then-reporter-clause-notes
returns-then-reporter-clause-notes g c = notes_kept g.L.Lines.tells c.args.reporter.now c.take_part.result (station_event c.args.station.now.rules c.args.now.ms (event_seen c.args.event.now) c.args.station.now.state) c.take_part.new.reporter c.take_part.new.station.state c.take_part.ensures.script

pub returns-then-reporter-clause-lines : goal.returns-then-reporter-clause-lines
returns-then-reporter-clause-lines g c = lines_kept g.L.Lines.tells c.args.reporter.now c.take_part.result (station_event c.args.station.now.rules c.args.now.ms (event_seen c.args.event.now) c.args.station.now.state) c.take_part.new.reporter c.take_part.new.station.state c.take_part.ensures.script

pub returns-then-reporter-clause-played : goal.returns-then-reporter-clause-played
returns-then-reporter-clause-played g c = played_part g.L.Lines.tells c.args.reporter.now c.take_part.result (station_event c.args.station.now.rules c.args.now.ms (event_seen c.args.event.now) c.args.station.now.state) c.take_part.new.reporter c.take_part.new.station.state c.take_part.ensures.script

pub returns-clause-notes : goal.returns-clause-notes
returns-clause-notes g c = notes_kept g.L.Lines.tells c.args.reporter.now c.take_part.result (station_event c.args.station.now.rules c.args.now.ms (event_seen c.args.event.now) c.args.station.now.state) c.take_part.new.reporter c.take_part.new.station.state c.take_part.ensures.script

pub returns-clause-lines : goal.returns-clause-lines
returns-clause-lines g c = lines_kept g.L.Lines.tells c.args.reporter.now c.take_part.result (station_event c.args.station.now.rules c.args.now.ms (event_seen c.args.event.now) c.args.station.now.state) c.take_part.new.reporter c.take_part.new.station.state c.take_part.ensures.script

pub returns-clause-played : goal.returns-clause-played
returns-clause-played g c = played_all g.L.Lines.tells c.args.reporter.now (station_event c.args.station.now.rules c.args.now.ms (event_seen c.args.event.now) c.args.station.now.state) c.take_part.new.reporter c.take_part.new.station.state c.in_ok-take_part.ensures.script c.if-reporter.false

pub returns-clause-relay : goal.returns-clause-relay
returns-clause-relay g c = links_kept g.L.Lines.tells c.args.station.now.rules c.args.now.ms (event_seen c.args.event.now) c.args.station.now.state c.take_part.new.station.state c.args.reporter.now c.take_part.new.reporter c.in_ok-take_part.ensures.script
