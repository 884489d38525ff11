-- What was heard of all lines of an event.
use Rattle.std.proofs.Common.{◌≡◌, Bool, true, false, ◌||◌, List, [], ◌∷◌, Option, Some, None, Result, Ok, Err, refl, ap, sym, ◌∙◌}
use Rattle.dt_reports.specs.Entries.{Entry}
use Rattle.dt_reports.specs.declared.faults.StepFault.{StepFault}
use Rattle.dt_reports.specs.declared.faults.StepFault.TheVariants as fault
use Rattle.dt_world_model.specs.World.{World}
use Rattle.dt_world_model.specs.WorldStep.{Refused, Stepped, WorldEvent, then_step, world_step}
use Rattle.dt_world.specs.Outcomes.{Answers, IsDone, IsRefused}
use Rattle.dt_world.specs.Reporters.{TellsAll}
use Rattle.dt_world.specs.Worlds.{WorldValue}
use Rattle.dt_calls_model.specs.Heard.{ALoss, APiece, ARefusal, ATaking, AnAcceptance, Heard, NoMessage, heard, is_refusal, or_later, piece_in, tells_refusal}
use Rattle.dt_calls_model.specs.Messages.{Piece}
use Rattle.dt_calls_model.specs.Reads.{happens}
use Rattle.dt_call_parts.specs.Hearing.{HeardValue, Hears, first_piece, for_event, heard_all, heard_with}
use Rattle.dt_calls.specs.Happening.{HasHappened, Happens, ended}

-- Where nothing failed in the end, each line was heard.
pub heard_of_all : (entries : List Entry) (s t : HeardValue) → TellsAll Hears entries s t → t.failed ≡ false → (s.failed ≡ false) × (t ≡ heard_all entries s)
heard_of_all [] s t e h = (ap (λ (v : HeardValue). v.failed) e ∙ h, sym e)
heard_of_all (x ∷ xs) s t told h =
    let later = heard_of_all xs told.0 t told.2 h in
    let now = told.1.whole later.0 in
    (now.0, later.1 ∙ ap (heard_all xs) now.1)

-- hearing fails no more and no less than before
failed_stays : (what : Heard) (h : HeardValue) → (heard_with what h).failed ≡ h.failed
failed_stays (APiece piece) h = refl
failed_stays ATaking h = refl
failed_stays ARefusal h = refl
failed_stays (AnAcceptance flow) h = refl
failed_stays (ALoss flow) h = refl
failed_stays NoMessage h = refl

-- THE PIECE that is heard is the one that the lines tell.
abbrev piece_or : Option Piece → Option Piece → Option Piece
piece_or None later = later
piece_or (Some piece) later = Some piece

or_none : (piece : Option Piece) → piece_or piece None ≡ piece
or_none None = refl
or_none (Some piece) = refl

first_then : (piece : Piece) (kept later : Option Piece) → piece_or (first_piece piece kept) later ≡ piece_or kept (Some piece)
first_then piece None later = refl
first_then piece (Some kept) later = refl

piece_step : (what : Heard) (h : HeardValue) (later : Option Piece) → piece_or (heard_with what h).piece later ≡ piece_or h.piece (or_later what later)
piece_step (APiece piece) h later = first_then piece h.piece later
piece_step ATaking h later = refl
piece_step ARefusal h later = refl
piece_step (AnAcceptance flow) h later = refl
piece_step (ALoss flow) h later = refl
piece_step NoMessage h later = refl

piece_of_all : (entries : List Entry) (h : HeardValue) → (heard_all entries h).piece ≡ piece_or h.piece (piece_in entries)
piece_of_all [] h = sym (or_none h.piece)
piece_of_all (x ∷ xs) h = piece_of_all xs (heard_with (heard x.told) h) ∙ piece_step (heard x.told) h (piece_in xs)

pub piece_heard : (entries : List Entry) (h : HeardValue) → (heard_all entries (for_event h)).piece ≡ piece_in entries
piece_heard entries h = piece_of_all entries (for_event h)

-- A refusal is heard where the lines tell one.
or_false : (b : Bool) → (b || false) ≡ b
or_false true = refl
or_false false = refl

or_true : (b c : Bool) → true ≡ (b || (true || c))
or_true true c = refl
or_true false c = refl

refusal_step : (what : Heard) (h : HeardValue) (later : Bool) → ((heard_with what h).refused || later) ≡ (h.refused || (is_refusal what || later))
refusal_step (APiece piece) h later = refl
refusal_step ATaking h later = refl
refusal_step ARefusal h later = or_true h.refused later
refusal_step (AnAcceptance flow) h later = refl
refusal_step (ALoss flow) h later = refl
refusal_step NoMessage h later = refl

refusal_of_all : (entries : List Entry) (h : HeardValue) → (heard_all entries h).refused ≡ (h.refused || tells_refusal entries)
refusal_of_all [] h = sym (or_false h.refused)
refusal_of_all (x ∷ xs) h = refusal_of_all xs (heard_with (heard x.told) h) ∙ refusal_step (heard x.told) h (tells_refusal xs)

pub refusal_heard : (entries : List Entry) (h : HeardValue) → (heard_all entries (for_event h)).refused ≡ tells_refusal entries
refusal_heard entries h = refusal_of_all entries (for_event h)

-- AN EVENT OF THE WORLD within a step: it is done, or refused and nothing.
done_is : (e : WorldEvent) (w after : World) (told : List Entry) → world_step w e ≡ Stepped told after → happens e w ≡ (told, after)
done_is e w after told h = ap (then_step ([], w)) h

refused_is : (e : WorldEvent) (w : World) (why : StepFault) → world_step w e ≡ Refused why → happens e w ≡ ([], w)
refused_is e w why h = ap (then_step ([], w)) h

module _ (e : WorldEvent) (w new : WorldValue) (h t : HeardValue) where
  pub done_happened : IsDone Hears w e (for_event h) t new → t.failed ≡ false → HasHappened e w h new t
  done_happened d whole =
      let is = done_is e w.state new.state d.told d.step in
      let all = heard_of_all d.told (for_event h) t d.lines whole in
      record { world = ap (λ (r : List Entry × World). r.1) (sym is); unspent = d.unspent; heard_is = all.1 ∙ ap (λ (r : List Entry × World). heard_all r.0 (for_event h)) (sym is); whole = whole }

  refused_happened : (why : StepFault) → w.spent ≡ false → IsRefused Hears w e why (for_event h) t new → t.failed ≡ false → HasHappened e w h new t
  refused_happened why unspent d whole =
      let is = refused_is e w.state why d.step in
      record {
        world = ap (λ (v : WorldValue). v.state) d.same ∙ ap (λ (r : List Entry × World). r.1) (sym is);
        unspent = ap (λ (v : WorldValue). v.spent) d.same ∙ unspent;
        heard_is = d.lines ∙ ap (λ (r : List Entry × World). heard_all r.0 (for_event h)) (sym is);
        whole = whole;
      }

  by_answer : (answer : Result (Unit {0}) StepFault) (failed : Bool) → w.spent ≡ false → t.failed ≡ failed → Answers Hears answer w e (for_event h) t new → Happens (ended answer failed) e w h new t
  by_answer answer true unspent is a = tt
  by_answer (Ok done) false unspent is a = done_happened a is
  by_answer (Err fault.NoMemory) false unspent is a = tt
  by_answer (Err fault.BadFlow) false unspent is a = refused_happened fault.BadFlow unspent a is
  by_answer (Err (fault.NoStation n)) false unspent is a = refused_happened (fault.NoStation n) unspent a is
  by_answer (Err (fault.NoCopy n)) false unspent is a = refused_happened (fault.NoCopy n) unspent a is
  by_answer (Err (fault.Lost n)) false unspent is a = refused_happened (fault.Lost n) unspent a is
  by_answer (Err (fault.TooLate held charge)) false unspent is a = refused_happened (fault.TooLate held charge) unspent a is

  pub happened : (answer : Result (Unit {0}) StepFault) → w.spent ≡ false → Answers Hears answer w e (for_event h) t new → Happens (ended answer t.failed) e w h new t
  happened answer unspent a = by_answer answer t.failed unspent refl a
