-- What a station does in one event, as far as it is seen from outside.
use Rattle.std.specs.Prelude.{◌≡◌, ◌⊎◌, ℕ, List, Result, Ok, Err}
use Rattle.dt_reports.specs.Told.{Told}
use Rattle.dt_world_model.specs.Host.{Host}
use Rattle.dt_world_model.specs.Relay.{Parcel}

-- Done with an answer; or something is told, a tag is asked for a frame that the host made, or a packet is handed out on a link, and then it goes on.
pub data Script (T A : Type 0) : Type 0 where
  Done : A → Script T A
  Tell : Told → Script T A → Script T A
  -- the host is the one after the act or the reply that made the frame. What follows may rest on the tag that is answered
  Ask : Host → List ℕ → (T → Script T A) → Script T A
  Hand : ℕ → Parcel T → Script T A → Script T A

infixl 10 ◌>>=◌
abbrev pub ◌>>=◌ : {T A B : Type 0} → Script T A → (A → Script T B) → Script T B
(Done a) >>= f = f a
(Tell r s) >>= f = Tell r (s >>= f)
(Ask host octets s) >>= f = Ask host octets (λ t. s t >>= f)
(Hand link parcel s) >>= f = Hand link parcel (s >>= f)

-- A VISITOR sees it: from one of its states it may go on to another when something is told, a tag is answered or a packet is handed out.
module _ {V T A : Type 0} (tells : V → Told → V → Type 0) (tags : V → Host → List ℕ → T → V → Type 0) (hands : V → ℕ → Parcel T → V → Type 0) where
  -- The script is played before a visitor, from its first state to its last, with this answer.
  abbrev pub Plays : Script T A → V → V → A → Type 0
  Plays (Done a) v w b = (v ≡ w) × (a ≡ b)
  Plays (Tell r s) v w b = (m : V) × tells v r m × Plays s m w b
  Plays (Ask host octets s) v w b = (m : V) × (t : T) × tags v host octets t m × Plays (s t) m w b
  Plays (Hand link parcel s) v w b = (m : V) × hands v link parcel m × Plays s m w b

  -- The script is played up to some point, and no further. A packet that is handed out may find no memory: the visitor then fails.
  abbrev pub Stops : (V → V → Type 0) → Script T A → V → V → Type 0
  Stops fails (Done a) v w = v ≡ w
  Stops fails (Tell r s) v w = (v ≡ w) ⊎ ((m : V) × tells v r m × Stops fails s m w)
  Stops fails (Ask host octets s) v w = (v ≡ w) ⊎ ((m : V) × (t : T) × tags v host octets t m × Stops fails (s t) m w)
  Stops fails (Hand link parcel s) v w = (v ≡ w) ⊎ (fails v w ⊎ ((m : V) × hands v link parcel m × Stops fails s m w))

  -- After Ok the whole script was played, with this answer. After an error it was played up to some point.
  abbrev pub Concludes : {U E : Type 0} → (V → V → Type 0) → Result U E → Script T A → V → V → A → Type 0
  Concludes fails (Ok done) s v w b = Plays s v w b
  Concludes fails (Err e) s v w b = Stops fails s v w

-- A HANDLER is a visitor by functions: what a report, a question and a packet do to its state.
pub record Handler (S T : Type 0) : Type 0 where
  pub tell : Told → S → S
  pub tag : Host → List ℕ → S → T
  pub hand : ℕ → Parcel T → S → S

-- the script played before it: the last state, and the answer
abbrev pub play : {S T A : Type 0} → Handler S T → Script T A → S → S × A
play handler (Done a) s = (s, a)
play handler (Tell r script) s = play handler script (handler.tell r s)
play handler (Ask host octets script) s = play handler (script (handler.tag host octets s)) s
play handler (Hand link parcel script) s = play handler script (handler.hand link parcel s)

-- A fact that holds of every state on the way, the first and the last among them.
abbrev pub Along : {S T A : Type 0} → Handler S T → (S → Type 0) → Script T A → S → Type 0
Along handler fact (Done a) s = fact s
Along handler fact (Tell r script) s = fact s × Along handler fact script (handler.tell r s)
Along handler fact (Ask host octets script) s = fact s × Along handler fact (script (handler.tag host octets s)) s
Along handler fact (Hand link parcel script) s = fact s × Along handler fact script (handler.hand link parcel s)

-- WHATEVER TAGS ARE ANSWERED, this holds of the answer.
module _ {T A : Type 0} (fact : A → Type 0) where
  abbrev pub Answers : Script T A → Type 0
  Answers (Done a) = fact a
  Answers (Tell r script) = Answers script
  Answers (Ask host octets script) = (t : T) → Answers (script t)
  Answers (Hand link parcel script) = Answers script
