-- A mailbox: the messages of many flows are handed out one by one.
use Rattle.std.specs.Prelude.{◌≡◌, ℕ, nat_le, Bool, List, ◌++◌, drop, length, if◌then◌else◌, Option, Some, None, Result, Ok, Err}
use Rattle.dt_units.specs.declared.endpoints.Flow.{Flow}
use Rattle.dt_endpoint.specs.Endpoints.{EndpointValue}
use Rattle.dt_inbox.specs.FlowInboxes.{FlowInboxesValue, TakesNext, no_inboxes}
use Rattle.dt_inbox.specs.declared.inboxes.TakenMessage.{TakenMessage}
use Rattle.dt_inbox.specs.declared.inboxes.TakenMessage.TheVariants as taken
use Rattle.dt_inbox.specs.declared.mailboxes.Handed.{Handed}
use Rattle.dt_inbox.specs.declared.mailboxes.Handed.TheVariants as handed
use Rattle.dt_inbox.specs.declared.mailboxes.Letter.{Letter}

pub record MailboxValue : Type 0 where
  pub inboxes : FlowInboxesValue
  -- the message for which a buffer had no room
  pub waiting : Option Letter

abbrev pub new_mailbox : Option ℕ → MailboxValue
new_mailbox longest = record { inboxes = no_inboxes longest; waiting = None }

-- A MESSAGE THAT WAITS is handed out where the buffer has room for it. Else it goes on waiting, and its length is told.
abbrev pub has_room : Letter → List ℕ → Bool
has_room letter buf = nat_le (length letter.message.octets) (length buf)

abbrev pub handed_of : Option Letter → List ℕ → Handed
handed_of None buf = handed.Nothing
handed_of (Some letter) buf = if has_room letter buf then handed.Done letter.flow (length letter.message.octets) letter.message.gap else handed.NoRoom letter.flow (length letter.message.octets) letter.message.gap

abbrev pub buffer_after : Option Letter → List ℕ → List ℕ
buffer_after None buf = buf
buffer_after (Some letter) buf = if has_room letter buf then letter.message.octets ++ drop (length letter.message.octets) buf else buf

abbrev pub waiting_after : Option Letter → List ℕ → Option Letter
waiting_after None buf = None
waiting_after (Some letter) buf = if has_room letter buf then None else Some letter

abbrev pub HandsOut : Handed → (before after : List ℕ) → (m n : MailboxValue) → Type 0
HandsOut answer before after m n = (answer ≡ handed_of m.waiting before) × (after ≡ buffer_after m.waiting before) × (n ≡ record m { waiting = waiting_after m.waiting before })

-- A MESSAGE IS FETCHED, or it is told why not.
abbrev pub letter_in : Flow → TakenMessage → Result Letter Handed
letter_in flow (taken.Whole message) = Ok (record { flow = flow; message = message })
letter_in flow taken.Lost = Err (handed.Lost flow)
letter_in flow taken.Nothing = Err handed.More
letter_in flow taken.Unfinished = Err handed.More
letter_in flow taken.BadFlow = Err handed.More
letter_in flow taken.NoRoom = Err handed.More
letter_in flow taken.NoMemory = Err handed.NoMemory
letter_in flow taken.Spent = Err handed.Spent

abbrev pub letter_of : Option (Flow × TakenMessage) → Result Letter Handed
letter_of None = Err handed.Nothing
letter_of (Some answer) = letter_in answer.0 answer.1

pub record FetchesAs (found : Result Letter Handed) (now : ℕ) (v w : FlowInboxesValue) (e f : EndpointValue) : Type 0 where
  pub answer : Option (Flow × TakenMessage)
  pub is : found ≡ letter_of answer
  pub takes : TakesNext answer now v w e f

abbrev pub Fetches : Option Handed → (now : ℕ) → (m n : MailboxValue) → (e f : EndpointValue) → Type 0
Fetches (Some answer) now m n e f = FetchesAs (Err answer) now m.inboxes n.inboxes e f × (n.waiting ≡ m.waiting)
Fetches None now m n e f = (letter : Letter) × FetchesAs (Ok letter) now m.inboxes n.inboxes e f × (n.waiting ≡ Some letter)

abbrev pub HandsFetched : Option Handed → Handed → (before after : List ℕ) → (m n : MailboxValue) → Type 0
HandsFetched (Some why) answer before after m n = (answer ≡ why) × (after ≡ before) × (n ≡ m)
HandsFetched None answer before after m n = HandsOut answer before after m n

pub record TakesFresh (answer : Handed) (now : ℕ) (before after : List ℕ) (m n : MailboxValue) (e f : EndpointValue) : Type 0 where
  pub fetched : Option Handed
  pub between : MailboxValue
  pub fetches : Fetches fetched now m between e f
  pub hands : HandsFetched fetched answer before after between n

-- A MESSAGE IS TAKEN: the one that waits, or else one that is fetched.
abbrev pub TakesInto : Option Letter → Handed → (now : ℕ) → (before after : List ℕ) → (m n : MailboxValue) → (e f : EndpointValue) → Type 0
TakesInto (Some letter) answer now before after m n e f = HandsOut answer before after m n × (f ≡ e)
TakesInto None answer now before after m n e f = TakesFresh answer now before after m n e f
