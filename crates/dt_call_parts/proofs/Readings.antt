-- A side is read until nothing is there: what was told so far, and what is still to be read.
use Rattle.std.proofs.Common.{ℕ, zero, suc, ◌≡◌, ◌<◌, List, [], ◌++◌, length, Option, Some, None, refl, ap, sym, subst, ◌∙◌, arith, append_assoc, append-nil}
use Rattle.dt_units.specs.declared.endpoints.Flow.{Flow}
use Rattle.dt_units.specs.Flows.{IsFlow}
use Rattle.dt_world_model.specs.WorldStep.{Reads}
use Rattle.dt_calls_model.specs.Calls.{Calls, Client, Server, Side, begun_at, begun_of, flow_read, with_begun, with_sides}
use Rattle.dt_calls_model.specs.CallTold.{CallEntry}
use Rattle.dt_calls_model.specs.Heard.{piece_in}
use Rattle.dt_calls_model.specs.Messages.{Piece, begun_with, whole_with}
use Rattle.dt_calls_model.specs.Reads.{Course, happens, in_world, most_read, read_side, read_times, take_read, take_whole}
use Rattle.dt_call_parts.specs.Courses.{HasGoneOn, HasStopped, from_calls}
use Rattle.dt_call_parts.specs.Kept.{IsKeptWorld}
use Rattle.dt_call_parts.specs.Telling.{TellsCalls}
use Rattle.dt_call_parts.proofs.Courses.{adds_times, at, behind, behind_behind, tells_then}
use Rattle.dt_call_parts.proofs.Worlds.{Leaves, flow_back, happens_keeps, read_takes, unread_in, whole_leaves}

-- what a side reads is a flow
pub flow_of_read : (side : Side) (f : Flow) → IsFlow (flow_read side f) → IsFlow f
flow_of_read Server f h = h
flow_of_read Client f h = record { from = h.to; from_port = h.to_port; to = h.from; to_port = h.from_port }

pub read_of_flow : (side : Side) (f : Flow) → IsFlow f → IsFlow (flow_read side f)
read_of_flow Server f h = h
read_of_flow Client f h = flow_back f h

module _ {L : Type 0} (tells : L → CallEntry → L → Type 0) (answer : List ℕ → List ℕ) (side : Side) (f : Flow) where
  -- after a read, and with its piece joined
  abbrev pub has_read : Calls → Calls
  has_read c = in_world (happens (Reads (flow_read side f) most_read) c.world).1 c

  abbrev pub has_joined : Piece → Calls → Calls
  has_joined piece c = let b = begun_of c f in with_sides f (with_begun side (begun_with (begun_at side b) piece) b) c

  abbrev pub made_whole : Piece → Calls → Option (List ℕ)
  made_whole piece c = whole_with (begun_at side (begun_of c f)) piece

  abbrev pub piece_read : Calls → Option Piece
  piece_read c = piece_in (happens (Reads (flow_read side f) most_read) c.world).0

  abbrev pub left_unread : Calls → ℕ
  left_unread c = length (unread_in c.world (flow_read side f))

  -- From the calls c the reading has come so far, and goes on from d.
  pub record ReadsOn (c : Calls) (l : L) (d : Calls) (m : L) : Type 0 where
    pub so_far : List CallEntry
    pub most : ℕ
    pub enough : left_unread d < most
    pub goes : read_side answer side (from_calls c) f ≡ behind so_far (read_times answer most side f (from_calls d))
    pub lines : TellsCalls tells so_far l m

  abbrev Reading : Course → Course
  Reading c = read_side answer side c f

  pub begins : (c : Calls) (l : L) → ReadsOn c l c l
  begins c l = record { so_far = []; most = suc (left_unread c); enough = omega arith; goes = refl; lines = refl }

  module _ (c : Calls) (l : L) (d : Calls) (m : L) where
    -- it stops before the next message
    pub stops_here : ReadsOn c l d m → HasStopped tells Reading c l m
    stops_here on = record { part = on.so_far; rest = (read_times answer on.most side f (from_calls d)).told; told = ap (λ (r : Course). r.told) (sym on.goes); lines = on.lines }

    -- nothing was there
    ends_with : (most : ℕ) (so_far : List CallEntry) → left_unread d < most → read_side answer side (from_calls c) f ≡ behind so_far (read_times answer most side f (from_calls d)) → TellsCalls tells so_far l m → piece_read d ≡ None → HasGoneOn tells Reading c l m (has_read d)
    ends_with zero so_far enough goes lines none = absurd (omega arith)
    ends_with (suc most) so_far enough goes lines none =
        let is : Reading (from_calls c) ≡ at so_far (has_read d) =
        goes ∙ ap (λ (p : Option Piece). behind so_far (take_read answer (read_times answer most side f) side f p (from_calls (has_read d)))) none ∙ ap (λ (ls : List CallEntry). at ls (has_read d)) (append-nil so_far) in
        record {
          lines = subst (λ (r : Course). TellsCalls tells r.told l m) (sym is) lines;
          calls = ap (λ (r : Course). r.calls) (sym is);
        }

    pub ends_here : ReadsOn c l d m → piece_read d ≡ None → HasGoneOn tells Reading c l m (has_read d)
    ends_here on none = ends_with on.most on.so_far on.enough on.goes on.lines none

    module _ (piece : Piece) (is_read : piece_read d ≡ Some piece) where
      abbrev joined : Calls
      joined = has_joined piece (has_read d)

      abbrev whole : Option (List ℕ)
      whole = made_whole piece (has_read d)

      abbrev taken : Course
      taken = take_whole answer side f whole (from_calls joined)

      -- the rest is read after the message
      behind_message : (most : ℕ) (so_far : List CallEntry) → read_side answer side (from_calls c) f ≡ behind so_far (read_times answer (suc most) side f (from_calls d))
          → read_side answer side (from_calls c) f ≡ behind (so_far ++ taken.told) (read_times answer most side f (from_calls taken.calls))
      behind_message most so_far goes =
          goes
          ∙ ap (λ (p : Option Piece). behind so_far (take_read answer (read_times answer most side f) side f p (from_calls (has_read d)))) is_read
          ∙ ap (behind so_far) (adds_times answer most side f taken.told taken.calls)
          ∙ sym (behind_behind so_far taken.told (read_times answer most side f (from_calls taken.calls)))

      stops_with : (most : ℕ) (so_far : List CallEntry) → left_unread d < most → read_side answer side (from_calls c) f ≡ behind so_far (read_times answer most side f (from_calls d)) → TellsCalls tells so_far l m
          → (n : L) → HasStopped tells (take_whole answer side f whole) joined m n → HasStopped tells Reading c l n
      stops_with zero so_far enough goes lines n stop = absurd (omega arith)
      stops_with (suc most) so_far enough goes lines n stop =
          let more = (read_times answer most side f (from_calls taken.calls)).told in
          let all : (so_far ++ taken.told) ++ more ≡ (Reading (from_calls c)).told = ap (λ (r : Course). r.told) (sym (behind_message most so_far goes)) in
          record {
            part = so_far ++ stop.part;
            rest = stop.rest ++ more;
            told =
                append_assoc so_far stop.part (stop.rest ++ more)
                ∙ ap (λ (ls : List CallEntry). so_far ++ ls) (sym (append_assoc stop.part stop.rest more) ∙ ap (λ (ls : List CallEntry). ls ++ more) stop.told)
                ∙ sym (append_assoc so_far taken.told more)
                ∙ all;
            lines = tells_then tells so_far stop.part l m n lines stop.lines;
          }

      pub stops_at_message : ReadsOn c l d m → (n : L) → HasStopped tells (take_whole answer side f whole) joined m n → HasStopped tells Reading c l n
      stops_at_message on n stop = stops_with on.most on.so_far on.enough on.goes on.lines n stop

      -- and fewer octets are unread
      module _ (flow : IsFlow (flow_read side f)) (kept : IsKeptWorld d.world) where
        pub message_leaves : Leaves (has_read d).world taken.calls.world
        message_leaves = whole_leaves answer side f whole (from_calls joined) (flow_of_read side f flow) (happens_keeps (Reads (flow_read side f) most_read) d.world flow kept)

        pub fewer_left : left_unread taken.calls < left_unread d
        fewer_left = subst (λ items. length items < left_unread d) (sym (message_leaves.unread (flow_read side f))) (read_takes d.world kept (flow_read side f) flow piece is_read)

        on_with : (most : ℕ) (so_far : List CallEntry) → left_unread d < most → read_side answer side (from_calls c) f ≡ behind so_far (read_times answer most side f (from_calls d)) → TellsCalls tells so_far l m
            → (n : L) → TellsCalls tells taken.told m n → ReadsOn c l taken.calls n
        on_with zero so_far enough goes lines n more = absurd (omega arith)
        on_with (suc most) so_far enough goes lines n more = let less = fewer_left in record {
          so_far = so_far ++ taken.told;
          most = most;
          enough = omega arith;
          goes = behind_message most so_far goes;
          lines = tells_then tells so_far taken.told l m n lines more;
        }

        pub reads_on : ReadsOn c l d m → (n : L) (e : Calls) → HasGoneOn tells (take_whole answer side f whole) joined m n e → ReadsOn c l e n
        reads_on on n e gone = subst (λ (x : Calls). ReadsOn c l x n) (sym gone.calls) (on_with on.most on.so_far on.enough on.goes on.lines n gone.lines)

        pub falls : (n : L) (e : Calls) → HasGoneOn tells (take_whole answer side f whole) joined m n e → left_unread e < left_unread d
        falls n e gone = subst (λ (x : Calls). left_unread x < left_unread d) (sym gone.calls) fewer_left

        pub still_kept : (n : L) (e : Calls) → HasGoneOn tells (take_whole answer side f whole) joined m n e → IsKeptWorld e.world
        still_kept n e gone = subst (λ (x : Calls). IsKeptWorld x.world) (sym gone.calls) message_leaves.kept
