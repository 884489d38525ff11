-- Parts of a step are put together: what each tells goes after what was told before, whatever that was.
use Rattle.std.specs.Prelude.{◌&&◌}
use Rattle.std.proofs.Common.{ℕ, zero, suc, ◌≡◌, Bool, true, false, if◌then◌else◌, List, [], ◌∷◌, ◌++◌, fold, length, map, Option, Some, None, refl, ap, sym, subst, ◌∙◌, append_assoc, append-nil}
use Rattle.dt_units.specs.declared.endpoints.Flow.{Flow}
use Rattle.dt_world_model.specs.WorldStep.{Reads}
use Rattle.dt_world_model.specs.World.{view}
use Rattle.dt_calls_model.specs.declared.calls.CallState.{CallState}
use Rattle.dt_calls_model.specs.declared.calls.CallState.TheVariants as state
use Rattle.dt_calls_model.specs.Calls.{Calls, Client, Server, Side, begun_at, begun_of, call_at, flow_read, is_call, with_begun, with_sides}
use Rattle.dt_calls_model.specs.CallTold.{CallEntry}
use Rattle.dt_calls_model.specs.CallStep.{judge_all, finish}
use Rattle.dt_calls_model.specs.Heard.{piece_in}
use Rattle.dt_calls_model.specs.Messages.{Piece, begun_with, carried_in, has_number, number_in, whole_with}
use Rattle.dt_calls_model.specs.Reads.{Course, answered_if, happens, in_world, most_read, read_all, read_side, read_sides, read_times, take_message, take_piece, take_read, take_whole}
use Rattle.dt_call_parts.specs.Courses.{HasGoneOn, HasStopped, from_calls}
use Rattle.dt_call_parts.specs.Telling.{TellsCalls}

abbrev pub at : List CallEntry → Calls → Course
at told c = record { told = told; calls = c }

abbrev pub behind : List CallEntry → Course → Course
behind told c = record { told = told ++ c.told; calls = c.calls }

abbrev pub Adds : (Course → Course) → Type 0
Adds does = (told : List CallEntry) (c : Calls) → does (at told c) ≡ behind told (does (from_calls c))

-- nothing is told where what was told stays
pub stays : (told : List CallEntry) (c : Calls) → at told c ≡ behind told (from_calls c)
stays told c = ap (λ (ls : List CallEntry). at ls c) (sym (append-nil told))

pub behind_behind : (a b : List CallEntry) (c : Course) → behind (a ++ b) c ≡ behind a (behind b c)
behind_behind a b c = ap (λ (ls : List CallEntry). at ls c.calls) (append_assoc a b c.told)

pub adds_then : (f g : Course → Course) → Adds f → Adds g → Adds (λ c. g (f c))
adds_then f g adds more told c =
    let r = f (from_calls c) in
    ap g (adds told c) ∙ more (told ++ r.told) r.calls ∙ behind_behind told r.told (g (from_calls r.calls)) ∙ ap (behind told) (sym (more r.told r.calls))

-- THE PARTS of the call rule
module _ (answer : List ℕ → List ℕ) where
  adds_answer : (s : CallState) (n : ℕ) (octets : List ℕ) → Adds (answered_if s n octets)
  adds_answer state.Waiting n octets told c = refl
  adds_answer state.Answered n octets told c = stays told c
  adds_answer state.Unsure n octets told c = stays told c
  adds_answer state.Declined n octets told c = stays told c

  adds_message : (side : Side) (f : Flow) (message : List ℕ) → Adds (take_message answer side f message)
  adds_message Server f message told c = refl
  adds_message Client f message told c = let n = number_in message in adds_answer (call_at c n).state n (carried_in message) told c

  adds_if : (b : Bool) (does : Course → Course) → Adds does → Adds (λ c. if b then does c else c)
  adds_if true does adds told c = adds told c
  adds_if false does adds told c = stays told c

  pub adds_whole : (side : Side) (f : Flow) (whole : Option (List ℕ)) → Adds (take_whole answer side f whole)
  adds_whole side f None told c = stays told c
  adds_whole side f (Some message) told c = adds_if (has_number message && is_call c f (number_in message)) (take_message answer side f message) (adds_message side f message) told c

  pub adds_piece : (side : Side) (f : Flow) (piece : Piece) → Adds (take_piece answer side f piece)
  adds_piece side f piece told c =
      let b = begun_of c f in
      adds_whole side f (whole_with (begun_at side b) piece) told (with_sides f (with_begun side (begun_with (begun_at side b) piece) b) c)

  adds_read : (again : Course → Course) → Adds again → (side : Side) (f : Flow) (piece : Option Piece) → Adds (take_read answer again side f piece)
  adds_read again more side f None told c = stays told c
  adds_read again more side f (Some piece) told c = adds_then (take_piece answer side f piece) again (adds_piece side f piece) more told c

  pub adds_times : (most : ℕ) (side : Side) (f : Flow) → Adds (read_times answer most side f)
  adds_times zero side f told c = stays told c
  adds_times (suc most) side f told c =
      let r = happens (Reads (flow_read side f) most_read) c.world in
      adds_read (read_times answer most side f) (adds_times most side f) side f (piece_in r.0) told (in_world r.1 c)

  pub adds_side : (side : Side) (f : Flow) → Adds (λ c. read_side answer side c f)
  adds_side side f told c = adds_times (suc (length (view c.world (flow_read side f)).unread)) side f told c

  pub adds_fold : (side : Side) (fs : List Flow) → Adds (λ c. fold (read_side answer side) c fs)
  adds_fold side [] told c = stays told c
  adds_fold side (f ∷ fs) told c = adds_then (λ r. read_side answer side r f) (λ r. fold (read_side answer side) r fs) (adds_side side f) (adds_fold side fs) told c

  pub adds_sides : (side : Side) → Adds (read_sides answer side)
  adds_sides side told c = adds_fold side (map (λ e. e.0) c.flows) told c

  pub adds_all : Adds (read_all answer)
  adds_all = adds_then (read_sides answer Server) (read_sides answer Client) (adds_sides Server) (adds_sides Client)

  pub adds_finish : Adds (finish answer)
  adds_finish = adds_then (read_all answer) judge_all adds_all (λ told c. refl)

-- LINES one after the other
module _ {L : Type 0} (tells : L → CallEntry → L → Type 0) where
  pub tells_then : (xs ys : List CallEntry) (l m n : L) → TellsCalls tells xs l m → TellsCalls tells ys m n → TellsCalls tells (xs ++ ys) l n
  tells_then [] ys l m n e more = subst (λ (k : L). TellsCalls tells ys k n) (sym e) more
  tells_then (x ∷ xs) ys l m n told more = (told.0, told.1, tells_then xs ys told.0 m n told.2 more)

  module _ (f g : Course → Course) (adds : Adds g) (c : Calls) where
    pub gone_then : (d e : Calls) (l m n : L) → HasGoneOn tells f c l m d → HasGoneOn tells g d m n e → HasGoneOn tells (λ r. g (f r)) c l n e
    gone_then d e l m n one two =
        let r = f (from_calls c) in
        let next : HasGoneOn tells g r.calls m n e = subst (λ (x : Calls). HasGoneOn tells g x m n e) one.calls two in
        let is : g r ≡ behind r.told (g (from_calls r.calls)) = adds r.told r.calls in
        record {
          lines = subst (λ (t : Course). TellsCalls tells t.told l n) (sym is) (tells_then r.told (g (from_calls r.calls)).told l m n one.lines next.lines);
          calls = next.calls ∙ ap (λ (t : Course). t.calls) (sym is);
        }

    pub gone_stop : (d : Calls) (l m n : L) → HasGoneOn tells f c l m d → HasStopped tells g d m n → HasStopped tells (λ r. g (f r)) c l n
    gone_stop d l m n one two =
        let r = f (from_calls c) in
        let next : HasStopped tells g r.calls m n = subst (λ (x : Calls). HasStopped tells g x m n) one.calls two in
        let is : g r ≡ behind r.told (g (from_calls r.calls)) = adds r.told r.calls in
        record {
          part = r.told ++ next.part;
          rest = next.rest;
          told = append_assoc r.told next.part next.rest ∙ ap (λ (ls : List CallEntry). r.told ++ ls) next.told ∙ ap (λ (t : Course). t.told) (sym is);
          lines = tells_then r.told next.part l m n one.lines next.lines;
        }

    pub stop_then : (l m : L) → HasStopped tells f c l m → HasStopped tells (λ r. g (f r)) c l m
    stop_then l m one =
        let r = f (from_calls c) in
        let more = (g (from_calls r.calls)).told in
        let is : g r ≡ behind r.told (g (from_calls r.calls)) = adds r.told r.calls in
        record {
          part = one.part;
          rest = one.rest ++ more;
          told = sym (append_assoc one.part one.rest more) ∙ ap (λ (ls : List CallEntry). ls ++ more) one.told ∙ ap (λ (t : Course). t.told) (sym is);
          lines = one.lines;
        }

  -- nothing was done of it
  pub nothing_told : (does : Course → Course) (c : Calls) (l : L) → HasStopped tells does c l l
  nothing_told does c l = record { part = []; rest = (does (from_calls c)).told; told = refl; lines = refl }
