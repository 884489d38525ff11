-- What a turn does to its node: calls of the endpoint, of which it hears at once, pieces that are read, and changes that tell no request and no answer.
use Rattle.std.proofs.Common.{ℕ, ◌≤◌, ◌≡◌, ◌⊎◌, true, false, List, [], ◌∷◌, ◌++◌, length, Option, Some}
use Rattle.std.specs.Prelude.{All, Contains, filter}
use Rattle.dt_items.specs.declared.item.Item.{Item}
use Rattle.dt_units.specs.declared.endpoints.Flow.{Flow}
use Rattle.dt_world_model.specs.Host.{one_if}
use Rattle.dt_world_model.specs.Tables.{total}
use Rattle.dt_calls_model.specs.Messages.{Piece}
use Rattle.dt_endpoint.specs.declared.answers.Delivered.TheVariants as answer
use Rattle.dt_reports.specs.Told.{Told}
use Rattle.dt_endpoint.specs.Acts.{OutFrameValue}
use Rattle.dt_endpoint.specs.Endpoints.{EndpointValue}
use Rattle.dt_network.specs.Duties.{KeepsCall}
use Rattle.dt_network.specs.Network.{Flight, Network, Setup}
use Rattle.dt_network.specs.Octets.{Takes, read_by}
use Rattle.dt_network.specs.Steps.{Call, CallRead, Calls, Does, PullReport, Step}
use Rattle.dt_service_model.specs.declared.calls.OpenCall.{OpenCall as Kept}
use Rattle.dt_service_model.specs.declared.happenings.Happening.{Happening}
use Rattle.dt_service_model.specs.declared.happenings.Happening.TheVariants.{Answered, ReplyUncertain, Request, Unsure}
use Rattle.dt_service_model.specs.declared.names.Token.{Token}
use Rattle.dt_service_model.specs.Names.{same_token}
use Rattle.dt_service_model.specs.CallBook.{CallBook}
use Rattle.dt_service_model.specs.Turns.{Node, comes_in, hears, most_read, with_book}
use Rattle.dt_service_model.specs.Whole.{is_of, take_piece}

-- WHAT A NODE HAS BEGUN of a flow: nothing, or one entry, with what its octets have begun
pub record One (g : Flow) (b : Option (List ℕ)) (entries : List (Flow × List ℕ)) : Type 0 where
  pub entry : Flow × List ℕ
  pub alone : filter (is_of g) entries ≡ entry ∷ []
  pub same : Some entry.1 ≡ b

abbrev pub Tracks : Flow → Option (List ℕ) → List (Flow × List ℕ) → Type 0
Tracks g b entries = (filter (is_of g) entries ≡ []) ⊎ One g b entries

-- neither a request nor an answer
abbrev pub IsNoMessage : Happening → Type 0
IsNoMessage (Request token payload) = ⊥
IsNoMessage (Answered number answer) = ⊥
IsNoMessage (Unsure number cause) = Unit {0}
IsNoMessage (ReplyUncertain flow) = Unit {0}

-- a call that waits, as it was made
pub record IsKeptFrom (before : List Kept) (call : Kept) : Type 0 where
  pub was : Kept
  pub there : Contains before was
  pub waits : was.waits ≡ true
  pub number : was.number ≡ call.number
  pub flow : was.flow ≡ call.flow

abbrev pub AreKeptFrom : List Kept → List Kept → Type 0
AreKeptFrom before after = All (λ (call : Kept). call.waits ≡ true → IsKeptFrom before call) after

-- how often a token is open
abbrev pub open_count : Token → List Token → ℕ
open_count t tokens = total (λ (s : Token). one_if (same_token t s)) tokens

-- A QUIET CHANGE: nothing is opened, and no request and no answer is told
pub record IsQuiet (h k : CallBook) : Type 0 where
  pub ports : k.ports ≡ h.ports
  pub closes : h.closed ≡ true → k.closed ≡ true
  pub life : k.life ≡ h.life
  pub count : k.count ≡ h.count
  pub tokens : (t : Token) → Contains k.tokens t → Contains h.tokens t
  pub opens : (t : Token) → open_count t k.tokens ≤ open_count t h.tokens
  pub begun : (g : Flow) (b : Option (List ℕ)) → Tracks g b h.begun → Tracks g b k.begun
  pub waits : AreKeptFrom h.calls k.calls
  pub told : List Happening
  pub happenings : k.happenings ≡ h.happenings ++ told
  pub unsure : All IsNoMessage told

-- a network of the same moment, from which all that had left one has left too
pub record IsLater (base m : Network) : Type 0 where
  pub now : m.now ≡ base.now
  pub left : (g : Flight) → Contains base.left g → Contains m.left g

module _ (setup : Setup) (n : ℕ) where
  -- a call of the endpoint that may be made
  pub record MayCall (base : Network) (call : Call) (e f : EndpointValue) : Type 0 where
    pub does : Does setup n call e f
    pub keeps : (m : Network) → IsLater base m → KeepsCall setup m n call e
    pub frames : List OutFrameValue
    pub appended : f.frames ≡ e.frames ++ frames
    pub unspent : f.spent ≡ false

  -- all reports are pulled
  abbrev pub pulls : EndpointValue → List Told → List Step
  pulls e [] = []
  pulls e (r ∷ rs) = Calls n PullReport (record e { reports = rs }) ∷ pulls e rs

  pub data Moves (base : Network) : Node → List Step → Node → Type 0 where
    rests : {x : Node} → Moves base x [] x
    changes : {x y : Node} {steps : List Step} (h : CallBook) → IsQuiet x.book h → Moves base (record x { book = h }) steps y → Moves base x steps y
    calls : {x y : Node} {steps : List Step} (call : Call) (f : EndpointValue) → MayCall base call x.endpoint f → ((g : Flow) → read_by g call ≡ []) → ((g : Flow) (taken : List Item) → Takes g call taken → taken ≡ []) → Moves base (hears (record x { endpoint = f })) steps y → Moves base x (Calls n call f ∷ (pulls f f.reports ++ steps)) y
    reads : {x y : Node} {steps : List Step} (now : ℕ) (g : Flow) (p : Piece) (o : ℕ) (os : List ℕ) (f : EndpointValue) → comes_in x g ≡ true → p.octets ≡ o ∷ os → MayCall base (CallRead now g most_read p.octets (answer.Read (length p.octets) p.run p.begin p.end)) x.endpoint f
        → Moves base (with_book (take_piece g p) (hears (record x { endpoint = f }))) steps y → Moves base x (Calls n (CallRead now g most_read p.octets (answer.Read (length p.octets) p.run p.begin p.end)) f ∷ (pulls f f.reports ++ steps)) y
