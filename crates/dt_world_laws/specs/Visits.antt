-- A state on the way of a script's play, the first and the last among them.
use Rattle.std.specs.Prelude.{◌≡◌, ◌⊎◌}
use Rattle.dt_world_model.specs.Script.{Script, Done, Tell, Ask, Hand, Handler}

abbrev pub IsOnTheWay : {S T A : Type 0} → Handler S T → Script T A → S → S → Type 0
IsOnTheWay handler (Done a) s t = t ≡ s
IsOnTheWay handler (Tell r script) s t = (t ≡ s) ⊎ IsOnTheWay handler script (handler.tell r s) t
IsOnTheWay handler (Ask host octets script) s t = (t ≡ s) ⊎ IsOnTheWay handler (script (handler.tag host octets s)) s t
IsOnTheWay handler (Hand link q script) s t = (t ≡ s) ⊎ IsOnTheWay handler script (handler.hand link q s) t
