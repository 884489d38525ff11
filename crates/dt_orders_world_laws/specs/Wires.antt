-- What is on the wire between clients and a server, and what the server makes of a call.
use Rattle.std.specs.Prelude.{◌≡◌, ◌≢◌, ℕ, Bool, List, [], Option, Some, None}
use Rattle.dt_orders_model.specs.declared.knowledge.Known.{Known}
use Rattle.dt_orders_model.specs.declared.lanes.Answer.{Answer}
use Rattle.dt_orders_model.specs.declared.lanes.Called.{Called}
use Rattle.dt_orders_model.specs.declared.lanes.Word.{Word}
use Rattle.dt_orders_model.specs.declared.lanes.Word.TheVariants as word
use Rattle.dt_orders_model.specs.declared.registers.RowState.TheVariants.{AtWork}
use Rattle.dt_orders_model.specs.declared.requests.Verdict.{Verdict}
use Rattle.dt_orders_model.specs.declared.requests.Verdict.TheVariants as verdict
use Rattle.dt_orders_model.specs.Histories.{Call, Note, World, commit, noted, verdict_at}
use Rattle.dt_orders_model.specs.Stores.{Entry, Name, Store, begun, executed, finished, forgotten, heard, touched, withdrawn}

-- A CALL that a client made on a lane
pub record Sent : Type 0 where
  pub lane : ℕ
  pub called : Called

-- the name of the order that it is a call of
abbrev pub name_of : Sent → Name
name_of s = record { lane = s.lane; number = s.called.number; tag = s.called.tag }

abbrev pub note_of : Sent → Note
note_of s = record { name = name_of s; since = s.called.since }

abbrev pub call_as : Sent → Call
call_as s = record { note = note_of s; kind = s.called.kind; knows = s.called.knows }

-- AN ANSWER on the wire, with its result; and, as no wire has them, the call that it answers and all calls that were made before it
pub record Reply : Type 0 where
  pub answer : Answer
  pub result : List ℕ
  pub call : Sent
  pub before : List Sent

abbrev pub reply_to : Sent → Known → Word → ℕ → List ℕ → List Sent → Reply
reply_to s heard word value result before = record { answer = record { word = word; value = value; heard = heard; attempt = s.called.attempt }; result = result; call = s; before = before }

-- the word of a verdict that changes nothing and has no result
abbrev pub word_of : Verdict → Option Word
word_of verdict.Never = Some word.Never
word_of verdict.AtWork = Some word.AtWork
word_of verdict.Stale = Some word.Stale
word_of verdict.Old = Some word.Old
word_of verdict.Forked = Some word.Forked
word_of verdict.Hello = Some word.Hello
word_of verdict.Read = Some word.Told
word_of verdict.Execute = None
word_of verdict.Cancel = None
word_of verdict.Touch = None
word_of verdict.Done = None

-- A SERVER HANDLES A CALL in one transaction: what its history is then, the word of its answer, and the result. If a handler fails, nothing is committed, and the client may go on from the commit that the answer names
pub data Handles (strict : Bool) (w : World) (s : Sent) : World → Word → List ℕ → Type 0 where
  executes : (result : List ℕ) → verdict_at strict w.present (call_as s) ≡ verdict.Execute → Handles strict w s (commit w (executed w.present (name_of s) result)) word.Done result
  begins : verdict_at strict w.present (call_as s) ≡ verdict.Execute → Handles strict w s (commit w (begun w.present (name_of s))) word.AtWork []
  fails : verdict_at strict w.present (call_as s) ≡ verdict.Execute → Handles strict w s (noted w (record { name = name_of s; since = heard w.present })) word.NotNow []
  cancels : verdict_at strict w.present (call_as s) ≡ verdict.Cancel → Handles strict w s (commit w (withdrawn w.present (name_of s))) word.Never []
  touches : (e : Entry) → w.present.rows s.lane ≡ Some e → verdict_at strict w.present (call_as s) ≡ verdict.Touch → Handles strict w s (commit w (touched w.present s.lane e)) word.Stale []
  answers : (e : Entry) → w.present.rows s.lane ≡ Some e → verdict_at strict w.present (call_as s) ≡ verdict.Done → Handles strict w s w word.Done e.result
  says : (v : Verdict) (said : Word) → verdict_at strict w.present (call_as s) ≡ v → word_of v ≡ Some said → Handles strict w s w said []

-- WHAT A SERVER COMMITS without a call: an order at work gets its result, or a row is forgotten
pub data Works (w : World) : Store → Type 0 where
  finishes : (lane : ℕ) (e : Entry) (result : List ℕ) → w.present.rows lane ≡ Some e → e.row.state ≡ AtWork → Works w (finished w.present lane e result)
  forgets : (lane : ℕ) (e : Entry) → w.present.rows lane ≡ Some e → e.row.state ≢ AtWork → Works w (forgotten w.present lane e)
