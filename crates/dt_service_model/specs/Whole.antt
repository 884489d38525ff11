-- How what is read becomes whole messages, and what a whole message is: at a caller the reply to a call, and at a service a request.
use Rattle.std.specs.Prelude.{ℕ, zero, suc, ◌==◌, ◌&&◌, ◌||◌, Bool, false, not, nat_lt, is_some, List, [], ◌∷◌, ◌++◌, filter, option_map, slice_get, Option, Some, None, if◌then◌else◌}
use Rattle.std.specs.List.{list_any, position, remove}
use Rattle.dt_units.specs.declared.endpoints.Flow.{Flow}
use Rattle.dt_world_model.specs.Tables.{same_flow}
use Rattle.dt_calls_model.specs.Messages.{Piece, carried_in, has_number, number_in, reversed}
use Rattle.dt_messages.specs.Joining.{begun_within, outgrows, whole_within}
use Rattle.dt_service_model.specs.declared.calls.OpenCall.{OpenCall}
use Rattle.dt_service_model.specs.declared.call_counts.CallCounts.{CallCounts}
use Rattle.dt_service_model.specs.declared.happenings.Happening.TheVariants.{Answered, Request}
use Rattle.dt_service_model.specs.declared.names.CallNumber.{CallNumber}
use Rattle.dt_service_model.specs.declared.names.Token.{Token}
use Rattle.dt_service_model.specs.declared.ports.PortKind.{PortKind}
use Rattle.dt_service_model.specs.declared.ports.PortKind.TheVariants.{Caller, Service}
use Rattle.dt_service_model.specs.Names.{from_u64, same_number, same_token, token_with}
use Rattle.dt_service_model.specs.CallBook.{CallBook, counted_up, kind_in, longest_message}

-- A REPLY of number n on the reverse of f: the call of that number that waits on f is answered with it. Else it is dropped and counted.
abbrev pub is_waiting_call : Flow → CallNumber → OpenCall → Bool
is_waiting_call f n call = call.waits && same_number call.number n && same_flow call.flow f

abbrev pub ended : OpenCall → OpenCall
ended call = record call { waits = false }

-- whether a call of this number waits, on any flow
abbrev pub waits_anywhere : CallNumber → List OpenCall → Bool
waits_anywhere n calls = list_any (λ (call : OpenCall). call.waits && same_number call.number n) calls

abbrev pub stray_counted : CallNumber → CallBook → CallCounts
stray_counted n h =
    if not (n.life == h.life) then record (h.counts) { old = counted_up h.counts.old }
    else if nat_lt n.count h.count && not (waits_anywhere n h.calls) then record (h.counts) { late = counted_up h.counts.late }
    else record (h.counts) { strange = counted_up h.counts.strange }

abbrev pub answered_at : (place : ℕ) → List OpenCall → List OpenCall
answered_at place [] = []
answered_at zero (call ∷ calls) = ended call ∷ calls
answered_at (suc place) (call ∷ calls) = call ∷ answered_at place calls

abbrev pub take_reply_at : Option ℕ → CallNumber → List ℕ → CallBook → CallBook
take_reply_at None n answer h = record h { counts = stray_counted n h }
take_reply_at (Some place) n answer h = record h { calls = answered_at place h.calls; happenings = h.happenings ++ Answered n answer ∷ [] }

abbrev pub take_reply : Flow → CallNumber → List ℕ → CallBook → CallBook
take_reply f n answer h = take_reply_at (position (is_waiting_call f n) h.calls) n answer h

-- A REQUEST is handed out, and its name is its token. Where that name is open already neither has one of its own.
abbrev pub is_open : Token → CallBook → Bool
is_open token h = list_any (same_token token) h.tokens

abbrev pub without_token : Token → List Token → List Token
without_token token tokens = filter (λ t. not (same_token token t)) tokens

abbrev pub take_request : Token → List ℕ → CallBook → CallBook
take_request token payload h =
    if is_open token h then record h { tokens = without_token token h.tokens; counts = record (h.counts) { reused = counted_up h.counts.reused } }
    else record h { tokens = h.tokens ++ token ∷ []; happenings = h.happenings ++ Request token payload ∷ [] }

-- A WHOLE MESSAGE, by the kind of the port to which it came
abbrev pub take_as : Option PortKind → Flow → CallNumber → List ℕ → CallBook → CallBook
take_as None f n carried h = h
take_as (Some Caller) f n carried h = take_reply (reversed f) n carried h
take_as (Some Service) f n carried h = take_request (token_with f n) carried h

abbrev pub take_message : Flow → List ℕ → CallBook → CallBook
take_message f message h =
    if has_number message then take_as (kind_in f.to_port h.ports) f (from_u64 (number_in message)) (carried_in message) h
    else record h { counts = record (h.counts) { short = counted_up h.counts.short } }

abbrev pub take_whole : Flow → Option (List ℕ) → CallBook → CallBook
take_whole f None h = h
take_whole f (Some message) h = take_message f message h

-- A PIECE goes on what was begun of its flow, which is taken out and put back as it then is
abbrev pub is_of : Flow → Flow × List ℕ → Bool
is_of f e = same_flow e.0 f

abbrev pub without_begun : Option ℕ → List (Flow × List ℕ) → List (Flow × List ℕ)
without_begun None begun = begun
without_begun (Some place) begun = remove begun place

abbrev pub begun_at : Option ℕ → List (Flow × List ℕ) → Option (List ℕ)
begun_at None begun = None
begun_at (Some place) begun = option_map (λ e. e.1) (slice_get begun place)

abbrev pub with_begun : Flow → Option (List ℕ) → List (Flow × List ℕ) → List (Flow × List ℕ)
with_begun f None begun = begun
with_begun f (Some octets) begun = begun ++ (f, octets) ∷ []

-- a message that had begun is cut at a begin mark and at a run mark
abbrev pub is_cut : Option (List ℕ) → Piece → Bool
is_cut begun p = is_some begun && (p.begin || p.run)

abbrev pub cut_counted : Bool → CallCounts → CallCounts
cut_counted cut c = if cut then record c { cut = counted_up c.cut } else c

abbrev pub long_counted : Bool → CallCounts → CallCounts
long_counted long c = if long then record c { long = counted_up c.long } else c

abbrev pub grown : Flow → Option (List ℕ) → Piece → CallBook → CallBook
grown f begun p h = record h {
  begun = with_begun f (begun_within (Some longest_message) begun p) (without_begun (position (is_of f) h.begun) h.begun);
  counts = long_counted (outgrows (Some longest_message) begun p) (cut_counted (is_cut begun p) h.counts);
}

abbrev pub begun_of : Flow → CallBook → Option (List ℕ)
begun_of f h = begun_at (position (is_of f) h.begun) h.begun

abbrev pub take_piece : Flow → Piece → CallBook → CallBook
take_piece f p h = let begun = begun_of f h in take_whole f (whole_within (Some longest_message) begun p) (grown f begun p h)
