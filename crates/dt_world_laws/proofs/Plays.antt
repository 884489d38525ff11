-- A play of two parts.
use Rattle.std.proofs.Common.{◌≡◌, ℕ, refl}
use Rattle.dt_world_model.specs.Host.{Turn}
use Rattle.dt_world_model.specs.Relay.{Out, Relay}
use Rattle.dt_world_model.specs.Station.{Station, send_off}
use Rattle.dt_world_model.specs.Script.{Script, Done, Tell, Ask, Hand, ◌>>=◌, Handler, play}

pub play_bind : {S T A B : Type 0} (handler : Handler S T) (s : Script T A) (k : A → Script T B) (v : S) → play handler (s >>= k) v ≡ play handler (k (play handler s v).1) (play handler s v).0
play_bind handler (Done a) k v = refl
play_bind handler (Tell r s) k v = play_bind handler s k (handler.tell r v)
play_bind handler (Ask h o s) k v = play_bind handler (s (handler.tag h o v)) k v
play_bind handler (Hand l p s) k v = play_bind handler s k (handler.hand l p v)

-- what holds of the two parts' end holds of the whole's
pub play_then : {S T A B : Type 0} (handler : Handler S T) (P : S × B → Type 0) (s : Script T A) (k : A → Script T B) (v : S) → P (play handler (k (play handler s v).1) (play handler s v).0) → P (play handler (s >>= k) v)
play_then handler P s k v h = rw (play_bind handler s k v) h

-- one act of a host: it is told, and its frame goes off
abbrev pub do_turn : {T : Type 0} → ℕ → Turn → Relay T → Script T (Station T)
do_turn now turn relay = Tell turn.told (send_off now turn.host turn.frame relay)

abbrev pub link_of : {T : Type 0} → Out T → ℕ
link_of out = out.link
