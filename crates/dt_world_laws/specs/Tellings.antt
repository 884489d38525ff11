-- What a script tells.
use Rattle.dt_reports.specs.Told.{Told}
use Rattle.dt_world_model.specs.Script.{Script, Done, Tell, Ask, Hand}

-- something holds of each report that it tells, whatever tags are answered
abbrev pub AllTold : {T A : Type 0} → (Told → Type 0) → Script T A → Type 0
AllTold P (Done a) = Unit {0}
AllTold P (Tell r s) = P r × AllTold P s
AllTold {T} P (Ask host octets s) = (t : T) → AllTold P (s t)
AllTold P (Hand link parcel s) = AllTold P s
