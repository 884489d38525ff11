-- What is told over the moves of a turn: requests come from whole messages, in their order.
use Rattle.std.proofs.Common.{ℕ, ◌≡◌, Bool, true, false, List, [], ◌∷◌, ◌++◌, length, map, take, Option, Some, None, refl, ap, sym, subst, ◌∙◌, append-nil, append_assoc}
use Rattle.std.specs.Prelude.{All, cond, fold}
use Rattle.std.specs.List.{position}
use Rattle.std.proofs.Math.Seq.{take-length}
use Rattle.std.proofs.lemmas.List.{map-append}
use Rattle.std.proofs.lemmas.List.Elements.{All-head, All-tail}
use Rattle.dt_items.specs.declared.item.Item.{Item}
use Rattle.dt_items.specs.Unread.{marked}
use Rattle.dt_reports.specs.Told.{Told}
use Rattle.dt_units.specs.declared.endpoints.Flow.{Flow}
use Rattle.dt_world_model.proofs.Tables.{flow_is}
use Rattle.dt_world_model.specs.Tables.{same_flow}
use Rattle.dt_calls_model.specs.Messages.{Piece, begun_with, carried_in, has_number, number_in, reversed}
use Rattle.dt_messages.specs.Joining.{whole_within}
use Rattle.dt_endpoint.specs.declared.answers.Delivered.TheVariants as answer
use Rattle.dt_endpoint.specs.Endpoints.{EndpointValue}
use Rattle.dt_network.specs.Network.{Network, Setup}
use Rattle.dt_network.specs.Octets.{all_read, items_read, read_if, read_in_step}
use Rattle.dt_network.specs.Steps.{Step}
use Rattle.dt_service_model.specs.declared.happenings.Happening.{Happening}
use Rattle.dt_service_model.specs.declared.happenings.Happening.TheVariants.{Answered, ReplyUncertain, Request, Unsure}
use Rattle.dt_service_model.specs.declared.names.CallNumber.{CallNumber}
use Rattle.dt_service_model.specs.declared.ports.PortKind.{PortKind}
use Rattle.dt_service_model.specs.declared.ports.PortKind.TheVariants.{Caller, Service}
use Rattle.dt_service_model.specs.CallBook.{CallBook, counted_up, kind_in, longest_message}
use Rattle.dt_service_model.specs.Hearing.{hear}
use Rattle.dt_service_model.specs.Names.{from_u64, token_with}
use Rattle.dt_service_model.specs.Turns.{Node, hears, with_book}
use Rattle.dt_service_model.specs.Whole.{begun_of, grown, is_open, is_waiting_call, take_as, take_piece, take_reply_at, take_whole, without_token}
use Rattle.dt_service_laws.specs.Histories.{Message, each_of, request_in}
use Rattle.dt_service_laws.specs.Orders.{AreSomeOf, none}
use Rattle.dt_service_laws.specs.Wholes.{begun_after, listed, messages_from}
use Rattle.dt_service_laws.proofs.Begun.{begun_same, other_tracks, piece_tracks}
use Rattle.dt_service_laws.proofs.Moves.{IsQuiet, IsNoMessage, Moves, Tracks, calls, changes, pulls, reads, rests}
use Rattle.dt_service_laws.proofs.Orders.{all_of, both, mapped, some_through}
use Rattle.dt_service_laws.proofs.Pieces.{begun_append, messages_append, piece_begun, piece_messages, piece_with, whole_stays}
use Rattle.dt_service_laws.proofs.Quiet.{all_heard_quiet}

pub each_append : (pick : Happening → List Message) (xs ys : List Happening) → each_of pick (xs ++ ys) ≡ each_of pick xs ++ each_of pick ys
each_append pick [] ys = refl
each_append pick (x ∷ xs) ys = ap (λ (ms : List Message). pick x ++ ms) (each_append pick xs ys) ∙ sym (append_assoc (pick x) (each_of pick xs) (each_of pick ys))

pub unsure_requests : (g : Flow) (told : List Happening) → All IsNoMessage told → each_of (request_in g) told ≡ []
unsure_requests g [] all = refl
unsure_requests g (Unsure number cause ∷ told) all = unsure_requests g told (All-tail IsNoMessage (Unsure number cause) told all)
unsure_requests g (ReplyUncertain flow ∷ told) all = unsure_requests g told (All-tail IsNoMessage (ReplyUncertain flow) told all)
unsure_requests g (Request token payload ∷ told) all = absurd (All-head IsNoMessage (Request token payload) told all)
unsure_requests g (Answered number answer ∷ told) all = absurd (All-head IsNoMessage (Answered number answer) told all)

-- what a message of octets says
abbrev pub said : List ℕ → Message
said m = record { number = from_u64 (number_in m); carried = carried_in m }

-- A WHOLE MESSAGE
pub record WholeTells (f g : Flow) (o : Option (List ℕ)) (h k : CallBook) : Type 0 where
  pub begun : k.begun ≡ h.begun
  pub told : List Happening
  pub happenings : k.happenings ≡ h.happenings ++ told
  pub requests : AreSomeOf (each_of (request_in g) told) (cond (same_flow f g) (map said (listed o)) [])

tells_none : (f g : Flow) (o : Option (List ℕ)) (h k : CallBook) → k.begun ≡ h.begun → k.happenings ≡ h.happenings → WholeTells f g o h k
tells_none f g o h k begun happenings = record { begun = begun; told = []; happenings = happenings ∙ sym (append-nil h.happenings); requests = none }

reply_tells : (f g : Flow) (o : Option (List ℕ)) (place : Option ℕ) (n : CallNumber) (answer : List ℕ) (h : CallBook) → WholeTells f g o h (take_reply_at place n answer h)
reply_tells f g o None n answer h = tells_none f g o h (take_reply_at None n answer h) refl refl
reply_tells f g o (Some place) n answer h = record { begun = refl; told = Answered n answer ∷ []; happenings = refl; requests = none }

one_request : (f g : Flow) (m : List ℕ) → AreSomeOf (each_of (request_in g) (Request (token_with f (from_u64 (number_in m))) (carried_in m) ∷ [])) (cond (same_flow f g) (map said (listed (Some m))) [])
one_request f g m = by_test (same_flow f g)
  where
    by_test : (b : Bool) → AreSomeOf (cond b (said m ∷ []) [] ++ []) (cond b (said m ∷ []) [])
    by_test true = all_of (said m ∷ [])
    by_test false = none

request_tells : (f g : Flow) (m : List ℕ) (h : CallBook) (b : Bool) → let token = token_with f (from_u64 (number_in m)) in
    WholeTells f g (Some m) h (cond b (record h { tokens = without_token token h.tokens; counts = record (h.counts) { reused = counted_up h.counts.reused } }) (record h { tokens = h.tokens ++ token ∷ []; happenings = h.happenings ++ Request token (carried_in m) ∷ [] }))
request_tells f g m h true = tells_none f g (Some m) h _ refl refl
request_tells f g m h false = record { begun = refl; told = Request (token_with f (from_u64 (number_in m))) (carried_in m) ∷ []; happenings = refl; requests = one_request f g m }

as_tells : (f g : Flow) (m : List ℕ) (h : CallBook) (kind : Option PortKind) → WholeTells f g (Some m) h (take_as kind f (from_u64 (number_in m)) (carried_in m) h)
as_tells f g m h None = tells_none f g (Some m) h h refl refl
as_tells f g m h (Some Caller) = reply_tells f g (Some m) (position (is_waiting_call (reversed f) (from_u64 (number_in m))) h.calls) (from_u64 (number_in m)) (carried_in m) h
as_tells f g m h (Some Service) = request_tells f g m h (is_open (token_with f (from_u64 (number_in m))) h)

message_tells : (f g : Flow) (m : List ℕ) (h : CallBook) (b : Bool) → WholeTells f g (Some m) h (cond b (take_as (kind_in f.to_port h.ports) f (from_u64 (number_in m)) (carried_in m) h) (record h { counts = record (h.counts) { short = counted_up h.counts.short } }))
message_tells f g m h true = as_tells f g m h (kind_in f.to_port h.ports)
message_tells f g m h false = tells_none f g (Some m) h _ refl refl

pub whole_tells : (f g : Flow) (o : Option (List ℕ)) (h : CallBook) → WholeTells f g o h (take_whole f o h)
whole_tells f g None h = tells_none f g None h h refl refl
whole_tells f g (Some m) h = message_tells f g m h (has_number m)

-- FROM ONE STATE TO ANOTHER, of the octets of a flow that are read in between
pub record Tells (g : Flow) (b : Option (List ℕ)) (items : List Item) (h k : CallBook) : Type 0 where
  pub told : List Happening
  pub happenings : k.happenings ≡ h.happenings ++ told
  pub begun : Tracks g (begun_after b items) k.begun
  pub requests : AreSomeOf (each_of (request_in g) told) (map said (messages_from b items))

pub quiet_tells : (g : Flow) (b : Option (List ℕ)) (h k : CallBook) → IsQuiet h k → Tracks g b h.begun → Tells g b [] h k
quiet_tells g b h k quiet tracks = record { told = quiet.told; happenings = quiet.happenings; begun = quiet.begun g b tracks; requests = subst (λ (ms : List Message). AreSomeOf ms []) (sym (unsure_requests g quiet.told quiet.unsure)) none }

pub tells_then : (g : Flow) (b : Option (List ℕ)) (xs ys : List Item) (h k l : CallBook) → Tells g b xs h k → Tells g (begun_after b xs) ys k l → Tells g b (xs ++ ys) h l
tells_then g b xs ys h k l p q = record {
  told = p.told ++ q.told;
  happenings = q.happenings ∙ ap (λ (ms : List Happening). ms ++ q.told) p.happenings ∙ append_assoc h.happenings p.told q.told;
  begun = subst (λ (o : Option (List ℕ)). Tracks g o l.begun) (sym (begun_append b xs ys)) q.begun;
  requests =
      subst (λ (ms : List Message). AreSomeOf ms (map said (messages_from b (xs ++ ys)))) (sym (each_append (request_in g) p.told q.told))
      (subst (λ (ms : List Message). AreSomeOf (each_of (request_in g) p.told ++ each_of (request_in g) q.told) ms) (sym (ap (map said) (messages_append b xs ys) ∙ map-append said (messages_from b xs) (messages_from (begun_after b xs) ys)))
      (both p.requests q.requests));
}

-- A PIECE
piece_tells : (f g : Flow) (b : Option (List ℕ)) (begin end run : Bool) (o : ℕ) (os : List ℕ) (h : CallBook) → Tracks g b h.begun → (t : Bool) → same_flow f g ≡ t
    → Tells g b (read_if t (marked (o ∷ os) begin end run)) h (take_piece f (piece_with begin end run (o ∷ os)) h)
piece_tells f g b begin end run o os h tracks true is =
    let p = piece_with begin end run (o ∷ os) in
    let same : f ≡ g = flow_is f g is in
    let here : Tracks f b h.begun = subst (λ (k : Flow). Tracks k b h.begun) (sym same) tracks in
    let whole = whole_within (Some longest_message) (begun_of f h) p in
    let w = whole_tells f g whole (grown f (begun_of f h) p h) in
    let some : AreSomeOf (each_of (request_in g) w.told) (map said (listed whole)) = subst (λ (t : Bool). AreSomeOf (each_of (request_in g) w.told) (cond t (map said (listed whole)) [])) is w.requests in
    let grows : Tracks g (begun_with b p) (take_piece f p h).begun = subst (λ (es : List (Flow × List ℕ)). Tracks g (begun_with b p) es) (sym w.begun) (subst (λ (k : Flow). Tracks k (begun_with b p) (grown f (begun_of f h) p h).begun) same (piece_tracks f b p h here)) in
    record {
      told = w.told;
      happenings = w.happenings;
      begun = subst (λ (c : Option (List ℕ)). Tracks g c (take_piece f p h).begun) (sym (piece_begun b o os begin end run)) grows;
      requests =
          subst (λ (ms : List (List ℕ)). AreSomeOf (each_of (request_in g) w.told) (map said ms)) (sym (piece_messages b o os begin end run))
          (some_through some (mapped said (whole_stays (Some longest_message) (begun_of f h) b p (begun_same f b h here))));
    }
piece_tells f g b begin end run o os h tracks false is =
    let p = piece_with begin end run (o ∷ os) in
    let whole = whole_within (Some longest_message) (begun_of f h) p in
    let w = whole_tells f g whole (grown f (begun_of f h) p h) in
    record {
      told = w.told;
      happenings = w.happenings;
      begun = subst (λ (es : List (Flow × List ℕ)). Tracks g b es) (sym w.begun) (other_tracks f g b p h is tracks);
      requests = subst (λ (t : Bool). AreSomeOf (each_of (request_in g) w.told) (cond t (map said (listed whole)) [])) is w.requests;
    }

-- by the read that answered it
pub read_tells : (f g : Flow) (b : Option (List ℕ)) (p : Piece) (o : ℕ) (os : List ℕ) (h : CallBook) → p.octets ≡ o ∷ os → Tracks g b h.begun
    → Tells g b (read_if (same_flow f g) (items_read (answer.Read (length p.octets) p.run p.begin p.end) p.octets)) h (take_piece f p h)
read_tells f g b p o os h is tracks =
    let all : take (length p.octets) p.octets ≡ o ∷ os = take-length p.octets ∙ is in
    subst (λ (xs : List ℕ). Tells g b (read_if (same_flow f g) (marked xs p.begin p.end p.run)) h (take_piece f p h)) (sym all)
    (subst (λ (xs : List ℕ). Tells g b (read_if (same_flow f g) (marked (o ∷ os) p.begin p.end p.run)) h (take_piece f (piece_with p.begin p.end p.run xs) h)) (sym is)
    (piece_tells f g b p.begin p.end p.run o os h tracks (same_flow f g) refl))

-- OVER THE MOVES
pub read_append : (g : Flow) (xs ys : List Step) → all_read g (xs ++ ys) ≡ all_read g xs ++ all_read g ys
read_append g [] ys = refl
read_append g (x ∷ xs) ys = ap (λ (is : List Item). read_in_step g x ++ is) (read_append g xs ys) ∙ sym (append_assoc (read_in_step g x) (all_read g xs) (all_read g ys))

module _ (setup : Setup) (n : ℕ) where
  pulls_read_none : (g : Flow) (e : EndpointValue) (rs : List Told) → all_read g (pulls setup n e rs) ≡ []
  pulls_read_none g e [] = refl
  pulls_read_none g e (r ∷ rs) = pulls_read_none g e rs

  -- what a call reads, and the pulls after it
  pub behind_read : (g : Flow) (e : EndpointValue) (rs : List Told) (steps : List Step) → all_read g (pulls setup n e rs ++ steps) ≡ all_read g steps
  behind_read g e rs steps = read_append g (pulls setup n e rs) steps ∙ ap (λ (is : List Item). is ++ all_read g steps) (pulls_read_none g e rs)

  pub moves_tell : (base : Network) (g : Flow) (b : Option (List ℕ)) (x y : Node) (steps : List Step) → Moves setup n base x steps y → Tracks g b x.book.begun → Tells g b (all_read g steps) x.book y.book
  moves_tell base g b x y steps (rests {x = z}) tracks = record { told = []; happenings = sym (append-nil z.book.happenings); begun = tracks; requests = none }
  moves_tell base g b x y steps (changes {x = z} {y = u} {steps = ss} h quiet more) tracks =
      let first = quiet_tells g b z.book h quiet tracks in
      tells_then g b [] (all_read g ss) z.book h u.book first (moves_tell base g b (record z { book = h }) u ss more first.begun)
  moves_tell base g b x y steps (calls {x = z} {y = u} {steps = ss} call f may nothing taken more) tracks =
      let heard = fold hear z.book f.reports in
      let first = quiet_tells g b z.book heard (all_heard_quiet f.reports z.book) tracks in
      let rest = moves_tell base g b (hears (record z { endpoint = f })) u ss more first.begun in
      subst (λ (is : List Item). Tells g b is z.book u.book) (sym (ap (λ (is : List Item). is ++ all_read g (pulls setup n f f.reports ++ ss)) (nothing g) ∙ behind_read g f f.reports ss))
      (tells_then g b [] (all_read g ss) z.book heard u.book first rest)
  moves_tell base g b x y steps (reads {x = z} {y = u} {steps = ss} now k p o os f comes some may more) tracks =
      let heard = fold hear z.book f.reports in
      let first = quiet_tells g b z.book heard (all_heard_quiet f.reports z.book) tracks in
      let items = read_if (same_flow k g) (items_read (answer.Read (length p.octets) p.run p.begin p.end) p.octets) in
      let second = read_tells k g b p o os heard some first.begun in
      let rest = moves_tell base g (begun_after b items) (with_book (take_piece k p) (hears (record z { endpoint = f }))) u ss more second.begun in
      subst (λ (is : List Item). Tells g b (items ++ is) z.book u.book) (sym (behind_read g f f.reports ss))
      (tells_then g b items (all_read g ss) z.book (take_piece k p heard) u.book (tells_then g b [] items z.book heard (take_piece k p heard) first second) rest)
