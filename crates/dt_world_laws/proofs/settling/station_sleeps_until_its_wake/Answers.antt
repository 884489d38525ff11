use Rattle.dt_world_laws.proofs.Wakes.{host_wake_first, out_wake_first, relay_stays, relay_wake_at, relay_wake_first, station_wake_first, tick_before_wake}
use Rattle.dt_world_laws.proofs.settling.station_sleeps_until_its_wake.Goals as goal

-- src/settling.rt
pub returns-clause-tick : goal.returns-clause-tick
returns-clause-tick c s = λ p now station h. tick_before_wake p now station h

-- src/settling.rt
pub returns-clause-host : goal.returns-clause-host
returns-clause-host c s = host_wake_first

-- src/settling.rt
pub returns-clause-link : goal.returns-clause-link
returns-clause-link c s = λ out. out_wake_first out

-- src/settling.rt
pub returns-clause-relay : goal.returns-clause-relay
returns-clause-relay c s = λ outs. relay_wake_first outs

-- src/settling.rt
pub returns-clause-relay_links : goal.returns-clause-relay_links
returns-clause-relay_links c s = λ before after out now h. relay_stays before after out now h

-- src/settling.rt
pub returns-clause-station : goal.returns-clause-station
returns-clause-station c s = λ p station. station_wake_first p station

-- src/settling.rt
pub returns-clause-relay_link : goal.returns-clause-relay_link
returns-clause-relay_link c s = λ outs moment e. relay_wake_at outs moment e
