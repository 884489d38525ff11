-- An inbox: the messages of one flow, taken out of an endpoint.
use Rattle.std.specs.Prelude.{◌≡◌, ℕ, ◌+◌, List, take, Option, Some, None}
use Rattle.dt_units.specs.declared.endpoints.Flow.{Flow}
use Rattle.dt_calls_model.specs.Messages as messages
use Rattle.dt_messages.specs.Joining.{JoinerValue, joiner_after, lost, message_with, new_joiner}
use Rattle.dt_endpoint.specs.Calls.{Reads}
use Rattle.dt_endpoint.specs.Endpoints.{EndpointValue}
use Rattle.dt_endpoint.specs.declared.answers.Delivered.{Delivered}
use Rattle.dt_endpoint.specs.declared.answers.Delivered.TheVariants as piece
use Rattle.dt_inbox.specs.declared.inboxes.TakenMessage.{TakenMessage}
use Rattle.dt_inbox.specs.declared.inboxes.TakenMessage.TheVariants as taken

pub record InboxValue : Type 0 where
  pub flow : Flow
  pub joiner : JoinerValue

abbrev pub new_inbox : Flow → Option ℕ → InboxValue
new_inbox flow longest = record { flow = flow; joiner = new_joiner longest }

-- so many reads are made for one message at most
abbrev pub most_reads : ℕ
most_reads = 65536

-- A READ is one call of the endpoint, with so much room. It finds a piece.
pub record ReadsPiece (now : ℕ) (flow : Flow) (room : ℕ) (p : messages.Piece) (e f : EndpointValue) : Type 0 where
  pub len : ℕ
  pub buf : List ℕ
  pub reads : Reads (piece.Read len p.run p.begin p.end) now flow room buf e f
  pub octets : p.octets ≡ take len buf

-- the piece goes on the joiner, and makes no message whole
pub record GoesOn (now : ℕ) (flow : Flow) (room : ℕ) (j k : JoinerValue) (e f : EndpointValue) : Type 0 where
  pub piece : messages.Piece
  pub reads : ReadsPiece now flow room piece e f
  pub unfinished : message_with j piece ≡ None
  pub after : k ≡ joiner_after j piece

-- the piece ends the reads: the message is whole, or there was no memory for the piece
abbrev pub EndsAs : TakenMessage → messages.Piece → (j k : JoinerValue) → Type 0
EndsAs (taken.Whole message) p j k = (message_with j p ≡ Some message) × (k ≡ joiner_after j p)
EndsAs other p j k = k ≡ lost j

pub record EndsAt (answer : TakenMessage) (now : ℕ) (flow : Flow) (room : ℕ) (j k : JoinerValue) (e f : EndpointValue) : Type 0 where
  pub piece : messages.Piece
  pub reads : ReadsPiece now flow room piece e f
  pub ends : EndsAs answer piece j k

-- or it finds none
pub record FindsNone (answer : Delivered) (now : ℕ) (flow : Flow) (room : ℕ) (j k : JoinerValue) (e f : EndpointValue) : Type 0 where
  pub buf : List ℕ
  pub reads : Reads answer now flow room buf e f
  pub same : k ≡ j

-- THE LAST READ, by what is answered
abbrev pub Ends : TakenMessage → (now : ℕ) → Flow → (room : ℕ) → (j k : JoinerValue) → (e f : EndpointValue) → Type 0
Ends (taken.Whole message) now flow room j k e f = EndsAt (taken.Whole message) now flow room j k e f
Ends taken.Lost now flow room j k e f = EndsAt taken.Lost now flow room j k e f
Ends taken.Nothing now flow room j k e f = FindsNone piece.Nothing now flow room j k e f
Ends taken.NoMemory now flow room j k e f = FindsNone piece.NoMemory now flow room j k e f
Ends taken.Spent now flow room j k e f = FindsNone piece.Spent now flow room j k e f
Ends taken.BadFlow now flow room j k e f = FindsNone piece.BadFlow now flow room j k e f
Ends taken.NoRoom now flow room j k e f = FindsNone piece.NoRoom now flow room j k e f
Ends taken.Unfinished now flow room j k e f = ⊥

-- a piece, by what is answered once it has gone on the joiner
abbrev pub Joins : Option TakenMessage → messages.Piece → (j k : JoinerValue) → Type 0
Joins None p j k = (message_with j p ≡ None) × (k ≡ joiner_after j p)
Joins (Some (taken.Whole message)) p j k = EndsAs (taken.Whole message) p j k
Joins (Some taken.Lost) p j k = EndsAs taken.Lost p j k
Joins (Some other) p j k = ⊥

-- one read
abbrev pub Reading : Option TakenMessage → (now : ℕ) → Flow → (room : ℕ) → (j k : JoinerValue) → (e f : EndpointValue) → Type 0
Reading None now flow room j k e f = GoesOn now flow room j k e f
Reading (Some answer) now flow room j k e f = Ends answer now flow room j k e f

-- SO MANY READS, one after another, none of which makes a message whole
pub data ReadsOn (now : ℕ) (flow : Flow) (room : ℕ) (j : JoinerValue) (e : EndpointValue) : ℕ → JoinerValue → EndpointValue → Type 0 where
  no_read : ReadsOn now flow room j e 0 j e
  one_more : {n : ℕ} {k l : JoinerValue} {f g : EndpointValue} → ReadsOn now flow room j e n k f → GoesOn now flow room k l f g → ReadsOn now flow room j e (n + 1) l g

-- A MESSAGE IS TAKEN: reads that go on, and a last one.
pub record TakesIn (answer : TakenMessage) (now : ℕ) (flow : Flow) (room : ℕ) (j k : JoinerValue) (e g : EndpointValue) : Type 0 where
  pub count : ℕ
  pub before : JoinerValue
  pub host : EndpointValue
  pub reads : ReadsOn now flow room j e count before host
  pub ends : Ends answer now flow room before k host g

-- or as many reads that go on as were allowed
abbrev pub JoinerTakes : TakenMessage → (most now : ℕ) → Flow → (room : ℕ) → (j k : JoinerValue) → (e g : EndpointValue) → Type 0
JoinerTakes taken.Unfinished most now flow room j k e g = ReadsOn now flow room j e most k g
JoinerTakes other most now flow room j k e g = TakesIn other now flow room j k e g

pub record Takes (answer : TakenMessage) (now room : ℕ) (i k : InboxValue) (e g : EndpointValue) : Type 0 where
  pub flow : k.flow ≡ i.flow
  pub takes : JoinerTakes answer most_reads now i.flow room i.joiner k.joiner e g
