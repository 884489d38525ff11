-- A program that takes the messages of a node out of a mailbox, and the calls of endpoints that this comes to.
use Rattle.std.specs.Prelude.{ℕ, ◌≡◌, ◌==◌, Bool, true, false, List, [], ◌∷◌, ◌++◌, take, Option, Some, None}
use Rattle.dt_units.specs.declared.endpoints.Flow.{Flow}
use Rattle.dt_world_model.specs.Tables.{look, same_flow}
use Rattle.dt_messages.specs.Joining.{JoinerValue}
use Rattle.dt_endpoint.specs.declared.answers.Delivered.{Delivered}
use Rattle.dt_endpoint.specs.declared.answers.Delivered.TheVariants as piece
use Rattle.dt_endpoint.specs.Endpoints.{EndpointValue}
use Rattle.dt_inbox.specs.declared.inboxes.TakenMessage.{TakenMessage}
use Rattle.dt_inbox.specs.declared.inboxes.TakenMessage.TheVariants as taken
use Rattle.dt_inbox.specs.declared.mailboxes.Handed.{Handed}
use Rattle.dt_inbox.specs.declared.mailboxes.Handed.TheVariants as handed
use Rattle.dt_inbox.specs.declared.mailboxes.Letter.{Letter}
use Rattle.dt_inbox.specs.Inboxes.{Ends, JoinerTakes, ReadsOn, most_reads, no_read, one_more}
use Rattle.dt_inbox.specs.FlowInboxes.{FlowInboxesValue, PassesOn, TakesAny, TakesFrom, TakesNext, heard, no_pass, piece_room, without}
use Rattle.dt_inbox.specs.FlowInboxes as passes
use Rattle.dt_inbox.specs.Mailboxes.{Fetches, MailboxValue, TakesInto, new_mailbox}
use Rattle.dt_network.specs.Network.{Network}
use Rattle.dt_network.specs.Octets.{read_in_step}
use Rattle.dt_network.specs.Steps.{CallRead, Calls, Step, network_after, network_by}

-- THE READS that a take comes to, as steps of a network: each is a call of the node's endpoint, with what it answered
abbrev pub read_step : (node now : ℕ) → Flow → (room : ℕ) → List ℕ → Delivered → EndpointValue → Step
read_step n now flow room buf answer f = Calls n (CallRead now flow room buf answer) f

abbrev pub reads_on : (node : ℕ) {now : ℕ} {flow : Flow} {room : ℕ} {j : JoinerValue} {e : EndpointValue} {count : ℕ} {k : JoinerValue} {g : EndpointValue} → ReadsOn now flow room j e count k g → List Step
reads_on n no_read = []
reads_on n {now} {flow} {room} (one_more {g} before last) = reads_on n before ++ read_step n now flow room last.reads.buf (piece.Read last.reads.len last.piece.run last.piece.begin last.piece.end) g ∷ []

-- the last of them
abbrev pub read_last : (node : ℕ) (answer : TakenMessage) (now : ℕ) (flow : Flow) (room : ℕ) (j k : JoinerValue) (e g : EndpointValue) → Ends answer now flow room j k e g → List Step
read_last n (taken.Whole message) now flow room j k e g h = read_step n now flow room h.reads.buf (piece.Read h.reads.len h.piece.run h.piece.begin h.piece.end) g ∷ []
read_last n taken.Lost now flow room j k e g h = read_step n now flow room h.reads.buf (piece.Read h.reads.len h.piece.run h.piece.begin h.piece.end) g ∷ []
read_last n taken.Nothing now flow room j k e g h = read_step n now flow room h.buf piece.Nothing g ∷ []
read_last n taken.NoMemory now flow room j k e g h = read_step n now flow room h.buf piece.NoMemory g ∷ []
read_last n taken.Spent now flow room j k e g h = read_step n now flow room h.buf piece.Spent g ∷ []
read_last n taken.BadFlow now flow room j k e g h = read_step n now flow room h.buf piece.BadFlow g ∷ []
read_last n taken.NoRoom now flow room j k e g h = read_step n now flow room h.buf piece.NoRoom g ∷ []
read_last n taken.Unfinished now flow room j k e g h = absurd h

abbrev pub reads_in : (node : ℕ) (answer : TakenMessage) (most now : ℕ) (flow : Flow) (room : ℕ) (j k : JoinerValue) (e g : EndpointValue) → JoinerTakes answer most now flow room j k e g → List Step
reads_in n taken.Unfinished most now flow room j k e g h = reads_on n h
reads_in n (taken.Whole message) most now flow room j k e g h = reads_on n h.reads ++ read_last n (taken.Whole message) now flow room h.before k h.host g h.ends
reads_in n taken.Lost most now flow room j k e g h = reads_on n h.reads ++ read_last n taken.Lost now flow room h.before k h.host g h.ends
reads_in n taken.Nothing most now flow room j k e g h = reads_on n h.reads ++ read_last n taken.Nothing now flow room h.before k h.host g h.ends
reads_in n taken.NoMemory most now flow room j k e g h = reads_on n h.reads ++ read_last n taken.NoMemory now flow room h.before k h.host g h.ends
reads_in n taken.Spent most now flow room j k e g h = reads_on n h.reads ++ read_last n taken.Spent now flow room h.before k h.host g h.ends
reads_in n taken.BadFlow most now flow room j k e g h = reads_on n h.reads ++ read_last n taken.BadFlow now flow room h.before k h.host g h.ends
reads_in n taken.NoRoom most now flow room j k e g h = reads_on n h.reads ++ read_last n taken.NoRoom now flow room h.before k h.host g h.ends

-- of one flow, and of all that are passed over
abbrev pub reads_from : (node : ℕ) {answer : Flow × TakenMessage} {now room : ℕ} {v w : FlowInboxesValue} {e f : EndpointValue} → TakesFrom answer now room v w e f → List Step
reads_from n {answer} {now} {room} {e} {f} h = reads_in n answer.1 most_reads now h.before.inbox.flow room h.before.inbox.joiner h.after.inbox.joiner e f h.takes.takes.takes

abbrev pub reads_passed : (node : ℕ) {now : ℕ} {v : FlowInboxesValue} {e : EndpointValue} {count : ℕ} {w : FlowInboxesValue} {f : EndpointValue} → PassesOn now v e count w f → List Step
reads_passed n no_pass = []
reads_passed n (passes.one_more answer before last none) = reads_passed n before ++ reads_from n last

abbrev pub reads_any : (node : ℕ) (answer : Option (Flow × TakenMessage)) (now room : ℕ) (v w : FlowInboxesValue) (e f : EndpointValue) → TakesAny answer now room v w e f → List Step
reads_any n None now room v w e f h = []
reads_any n (Some answer) now room v w e f h = reads_from n h

abbrev pub reads_next : (node : ℕ) {answer : Option (Flow × TakenMessage)} {now : ℕ} {v w : FlowInboxesValue} {e f : EndpointValue} → TakesNext answer now v w e f → List Step
reads_next n {answer} {now} {w} {f} h = reads_passed n h.passes ++ reads_any n answer now piece_room h.before w h.host f h.last

-- of a take of the mailbox: none where a message waited
abbrev pub reads_fetched : (node : ℕ) (fetched : Option Handed) (now : ℕ) (m k : MailboxValue) (e f : EndpointValue) → Fetches fetched now m k e f → List Step
reads_fetched n (Some why) now m k e f h = reads_next n h.0.takes
reads_fetched n None now m k e f h = reads_next n h.1.takes

abbrev pub reads_into : (node : ℕ) (waiting : Option Letter) (answer : Handed) (now : ℕ) (before after : List ℕ) (m k : MailboxValue) (e f : EndpointValue) → TakesInto waiting answer now before after m k e f → List Step
reads_into n (Some letter) answer now before after m k e f h = []
reads_into n None answer now before after m k e f h = reads_fetched n h.fetched now m h.between e f h.fetches

-- THE MESSAGE that is handed out: so many octets at the head of the buffer
abbrev pub letters_of : Handed → (after : List ℕ) → List Letter
letters_of (handed.Done flow len gap) after = (record { flow = flow; message = record { octets = take len after; gap = gap } }) ∷ []
letters_of (handed.NoRoom flow len gap) after = []
letters_of handed.Nothing after = []
letters_of handed.More after = []
letters_of (handed.Lost flow) after = []
letters_of handed.NoMemory after = []
letters_of handed.Spent after = []

-- A PROGRAM AND A MAILBOX of its node: the steps of the network that all comes to, and the letters that were handed out, in their order. The mailbox alone reads the flow. It may be made anew at any time, as where its node opens again; it may hear of flows and forget them
pub data Mails (n : ℕ) (g : Flow) : MailboxValue → Network → List Step → List Letter → Type 0 where
  rests : {m : MailboxValue} {net : Network} → Mails n g m net [] []
  goes : {m : MailboxValue} {net : Network} {steps : List Step} {letters : List Letter} (s : Step) → read_in_step g s ≡ [] → Mails n g m (network_after s net) steps letters → Mails n g m net (s ∷ steps) letters
  anew : {m : MailboxValue} {net : Network} {steps : List Step} {letters : List Letter} (longest : Option ℕ) → Mails n g (new_mailbox longest) net steps letters → Mails n g m net steps letters
  hears : {m : MailboxValue} {net : Network} {steps : List Step} {letters : List Letter} (flow : Flow) → Mails n g (record m { inboxes = heard flow m.inboxes }) net steps letters → Mails n g m net steps letters
  forgets : {m : MailboxValue} {net : Network} {steps : List Step} {letters : List Letter} (flow : Flow) → Mails n g (record m { inboxes = without flow m.inboxes }) net steps letters → Mails n g m net steps letters
  takes : {m : MailboxValue} {net : Network} {steps : List Step} {letters : List Letter} (now : ℕ) (answer : Handed) (before after : List ℕ) (k : MailboxValue) (e f : EndpointValue) → look ◌==◌ n net.endpoints ≡ Some e → (h : TakesInto m.waiting answer now before after m k e f)
      → Mails n g k (network_by (reads_into n m.waiting answer now before after m k e f h) net) steps letters → Mails n g m net (reads_into n m.waiting answer now before after m k e f h ++ steps) (letters_of answer after ++ letters)

-- the messages of a flow among letters
abbrev pub octets_if : Bool → List ℕ → List (List ℕ)
octets_if true octets = octets ∷ []
octets_if false octets = []

abbrev pub messages_for : Flow → List Letter → List (List ℕ)
messages_for g [] = []
messages_for g (l ∷ letters) = octets_if (same_flow l.flow g) l.message.octets ++ messages_for g letters
