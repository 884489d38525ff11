-- Logs one after another. The text of one line and then of more computes: `log_text (entry ∷ entries)` is
-- `entry_text entry ++ log_text entries`.
use Rattle.std.proofs.Common.{◌≡◌, ℕ, List, ◌++◌, take, drop, sym, ap, ◌∙◌, Result, IsErr}
use Rattle.std.proofs.lemmas.List.{take-append-drop}
use Rattle.std.proofs.lemmas.List.Concat.{flat_map-append}
use Rattle.dt_edges.specs.Sinks.{SinkSight, Takes, TakesPart, Puts}
use Rattle.dt_edges.proofs.Puts.{puts_then, puts_failed}
use Rattle.dt_reports.specs.Entries.{Entry}
use Rattle.dt_log.specs.Logs.{entry_text, log_text}
use Rattle.dt_log.proofs.Parts.{puts_as}

-- the text of some entries and then of more
pub log_text-append : (some more : List Entry) → log_text (some ++ more) ≡ log_text some ++ log_text more
log_text-append some more = flat_map-append entry_text some more

-- the text of the first n entries is a first part of the text of all
pub log_text-take : (n : ℕ) (entries : List Entry) → log_text entries ≡ log_text (take n entries) ++ log_text (drop n entries)
log_text-take n entries = ap log_text (sym (take-append-drop n entries)) ∙ log_text-append (take n entries) (drop n entries)

-- Some entries were logged: what the call for more of them says, it says of all.
pub logs_then : {S T E : Type 0} (sight : S → SinkSight) (some more : List Entry) (r : Result T E) (old between new : S) → Takes (log_text some) (sight old) (sight between) → Puts sight (log_text more) r between new → Puts sight (log_text (some ++ more)) r old new
logs_then sight some more r old between new p q = puts_as sight _ _ r old new (log_text-append some more) (puts_then sight (log_text some) (log_text more) r old between new p q)

-- A call that fails within the first entries: it puts a first part of the text of all.
pub logs_failed : {S T E : Type 0} (sight : S → SinkSight) (some more : List Entry) (r : Result T E) (old new : S) → TakesPart (log_text some) (sight old) (sight new) → IsErr r → Puts sight (log_text (some ++ more)) r old new
logs_failed sight some more r old new p is = puts_as sight _ _ r old new (log_text-append some more) (puts_failed sight (log_text some) (log_text more) r old new p is)

-- Name this set on a function that logs some entries and then more, as `two_parts` of dt_edges for two texts.
pub ruleset two_logs = (logs_then, logs_failed)
