-- A read that answers a piece has an octet, and the piece goes on what was begun.
use Rattle.std.proofs.Common.{◌≡◌, ◌∙◌, ◌⊎◌, ℕ, Bool, true, false, List, [], ◌∷◌, length, take, Option, Some, None, refl, sym, ap, subst, inl, inr}
use Rattle.std.specs.Prelude.{option_map}
use Rattle.dt_items.specs.declared.item.Item.{Item}
use Rattle.dt_items.specs.Unread.{marked, octets_of, piece_told}
use Rattle.dt_units.specs.declared.endpoints.Flow.{Flow}
use Rattle.dt_world_model.specs.WorldStep.{first_refusal}
use Rattle.dt_calls_model.specs.Messages.{Piece, begun_with, whole_with}
use Rattle.dt_messages.specs.Joining.{JoinerValue, MessageValue, begun_within, message_with, whole_within}
use Rattle.dt_endpoint.specs.declared.answers.Delivered.{Delivered}
use Rattle.dt_endpoint.specs.declared.answers.Delivered.TheVariants as piece
use Rattle.dt_endpoint.specs.Calls.{ReadDoes, Reads, Unless, piece_of, read_answer, read_refusals}
use Rattle.dt_endpoint.specs.Endpoints.{EndpointValue}
use Rattle.dt_world_model.specs.Station.{Event, Read}
use Rattle.dt_inbox.specs.Inboxes.{ReadsPiece}
use Rattle.dt_network.proofs.Outcomes.{AllAnswers, refusal_is}
use Rattle.dt_service_laws.specs.Orders.{AreSomeOf}
use Rattle.dt_service_laws.specs.Wholes.{begun_after, listed, messages_from}
use Rattle.dt_service_laws.proofs.Pieces.{begun_stays, piece_begun, piece_messages, piece_with, whole_stays}
use Rattle.dt_service_laws.proofs.Wholes.{IsSameOrNone}

pub record IsSome (xs : List ℕ) : Type 0 where
  pub first : ℕ
  pub rest : List ℕ
  pub is : xs ≡ first ∷ rest

abbrev NoPiece : Delivered → Type 0
NoPiece (piece.Read len run begin end) = ⊥
NoPiece other = Unit {0}

module _ (len : ℕ) (run begin end : Bool) (now : ℕ) (flow : Flow) (room : ℕ) (buf : List ℕ) (e f : EndpointValue) where
  abbrev answer : Delivered
  answer = piece.Read len run begin end

  abbrev Does : List Item → Type 0
  Does items = ReadDoes answer now items (Read flow room) buf e f

  by_items : (items : List Item) → Does items → IsSome (take len buf)
  by_items [] h = let no : answer ≡ piece.Nothing = h.0 in absurd cc
  by_items (i ∷ is) h =
      let told : answer ≡ piece_of (length (octets_of (i ∷ is))) (piece_told (i ∷ is)) = h.0 in
      let same : len ≡ length (octets_of (i ∷ is)) = cc in
      record { first = i.octet; rest = octets_of is; is = ap (λ (k : ℕ). take k buf) same ∙ h.1 }

  by_refusal : (o : Option Delivered) → first_refusal (read_refusals flow room e) ≡ o → Unless o answer e f (Does (read_answer now flow room e)) → IsSome (take len buf)
  by_refusal (Some r) is h =
      let all : AllAnswers NoPiece (read_refusals flow room e) = (tt, (tt, (tt, tt))) in
      absurd (subst NoPiece (sym h.0) (refusal_is NoPiece (read_refusals flow room e) r all is))
  by_refusal None is h = by_items (read_answer now flow room e) h

  pub read_has_some : Reads answer now flow room buf e f → IsSome (take len buf)
  read_has_some h = by_refusal (first_refusal (read_refusals flow room e)) refl h

-- the octets of a piece with its marks
abbrev pub items_of : (now : ℕ) (flow : Flow) (room : ℕ) (p : Piece) (e f : EndpointValue) → ReadsPiece now flow room p e f → List Item
items_of now flow room p e f h = marked (take h.len h.buf) p.begin p.end p.run

-- ONE PIECE goes on what was begun, and may make a message whole
pub record Grows (longest : Option ℕ) (r t : Option (List ℕ)) (p : Piece) (items : List Item) : Type 0 where
  pub begun : IsSameOrNone (begun_within longest r p) (begun_after t items)
  pub whole : AreSomeOf (listed (whole_within longest r p)) (messages_from t items)

pub piece_grows : (now : ℕ) (flow : Flow) (room : ℕ) (p : Piece) (e f : EndpointValue) (h : ReadsPiece now flow room p e f) (longest : Option ℕ) (r t : Option (List ℕ)) → IsSameOrNone r t → Grows longest r t p (items_of now flow room p e f h)
piece_grows now flow room p e f h longest r t same =
    let s = read_has_some h.len p.run p.begin p.end now flow room h.buf e f h.reads in
    let q = piece_with p.begin p.end p.run (s.first ∷ s.rest) in
    let is : p ≡ q = ap (λ (os : List ℕ). let x : Piece = record { run = p.run; begin = p.begin; end = p.end; octets = os } in x) (h.octets ∙ s.is) in
    let items : items_of now flow room p e f h ≡ marked (s.first ∷ s.rest) p.begin p.end p.run = ap (λ (os : List ℕ). marked os p.begin p.end p.run) s.is in
    subst (λ (is : List Item). Grows longest r t p is) (sym items)
    (subst (λ (x : Piece). Grows longest r t x (marked (s.first ∷ s.rest) p.begin p.end p.run)) (sym is)
    (record {
      begun = subst (λ (o : Option (List ℕ)). IsSameOrNone (begun_within longest r q) o) (sym (piece_begun t s.first s.rest p.begin p.end p.run)) (begun_stays longest r t q same);
      whole = subst (λ (ms : List (List ℕ)). AreSomeOf (listed (whole_within longest r q)) ms) (sym (piece_messages t s.first s.rest p.begin p.end p.run)) (whole_stays longest r t q same);
    }))

-- the octets of a message that a piece makes whole
message_is : (gap : Bool) (o : Option (List ℕ)) (m : MessageValue) → option_map (λ (octets : List ℕ). let x : MessageValue = record { octets = octets; gap = gap } in x) o ≡ Some m → o ≡ Some m.octets
message_is gap None m h = absurd cc
message_is gap (Some octets) m h =
    let one : MessageValue = record { octets = octets; gap = gap } in
    let same : one ≡ m = cc in
    ap (λ (x : MessageValue). Some x.octets) same

pub whole_is : (j : JoinerValue) (p : Piece) (m : MessageValue) → message_with j p ≡ Some m → whole_within j.longest j.begun p ≡ Some m.octets
whole_is j p m h = message_is _ (whole_within j.longest j.begun p) m h
