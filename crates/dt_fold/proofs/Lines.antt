-- Lines that are folded one after another.
use Rattle.std.proofs.Common.{◌≡◌, ℕ, suc, ◌+◌, ◌≤◌, List, [], ◌∷◌, ◌++◌, length, true, false, Some, None, Result, Ok, Err, refl, ap, sym, subst, ◌∙◌, append_assoc, arith, add-one}
use Rattle.dt_edges.specs.Sinks.{SinkSight, Takes}
use Rattle.dt_edges.proofs.Puts.{takes_as, takes_nothing, takes_then}
use Rattle.dt_reports.specs.declared.faults.Fault.{Fault}
use Rattle.dt_text.specs.InputLines.{lines_of}
use Rattle.dt_fold.specs.declared.stops.Stop.{Stop}
use Rattle.dt_fold.specs.Folds.{Folded, Turned, Turns, closed, fold_from, fold_on, refusal, refused}
use Rattle.dt_fold.specs.Logging.{Closes, StopsIn, TurnsTo}
use Rattle.dt_fold.proofs.Stopping.{stops_after, stops_as, stops_more}

-- Of all that is logged of an input a first part was put, and the rest is what is logged from here on.
pub record GoesOn {S : Type 0} (all rest : Folded S) (start now : SinkSight) : Type 0 where
  pub part : List ℕ
  pub taken : Takes part start now
  pub text : part ++ rest.text ≡ all.text
  pub state : rest.state ≡ all.state
  pub accepted : rest.accepted ≡ all.accepted

pub begun : {S : Type 0} (all : Folded S) (a : SinkSight) → GoesOn all all a a
begun all a = record { part = []; taken = takes_nothing a; text = refl; state = refl; accepted = refl }

empty_is : (xs : List ℕ) → length xs ≤ 0 → xs ≡ []
empty_is [] h = refl
empty_is (x ∷ xs) h = absurd (omega arith)

module _ {K S : Type 0} (sight : K → SinkSight) (turns : Turns S) where
  step_is : (number : ℕ) (state : S) (line : List ℕ) (lines : List (List ℕ)) → fold_from turns number state (line ∷ lines) ≡ fold_on number state (λ next. fold_from turns (suc number) next lines) (turns.turn state line)
  unfolding fold_from
  step_is number state line lines = refl

  end_is : (number : ℕ) (state : S) → fold_from turns number state [] ≡ closed number state (turns.close state)
  unfolding fold_from
  end_is number state = refl

  -- what is logged from a line on
  abbrev on : ℕ → S → List (List ℕ) → Result (Turned S) Fault → Folded S
  on number state lines r = fold_on number state (λ next. fold_from turns (suc number) next lines) r

  -- a line was turned
  turned : {all : Folded S} {start : SinkSight} (number : ℕ) (state after : S) (lines : List (List ℕ)) (old new : K) (r : Result (Turned S) Fault) → GoesOn all (on number state lines r) start (sight old) → TurnsTo sight r (Ok None) state after old new
      → GoesOn all (fold_from turns (suc number) after lines) start (sight new)
  turned number state after lines old new (Err fault) g t = absurd t
  turned {all} {start} number state after lines old new (Ok u) g t =
      let rest = fold_from turns (suc number) u.state lines in
      subst (λ s. GoesOn all (fold_from turns (suc number) s lines) start (sight new)) t.0 (record {
        part = g.part ++ u.text;
        taken = takes_then g.part u.text start (sight old) (sight new) g.taken t.1;
        text = append_assoc g.part u.text rest.text ∙ g.text;
        state = g.state;
        accepted = g.accepted;
      })

  -- an input that is refused here
  refused_here : {all : Folded S} {start now next : SinkSight} (number : ℕ) (state after : S) (fault : Fault) → GoesOn all (refused number state fault) start now → after ≡ state → next ≡ now
      → (all.accepted ≡ false) × (all.state ≡ after) × ((part : List ℕ) × Takes part start next × (part ++ refusal number fault ≡ all.text))
  refused_here {all} {start} {now} {next} number state after fault g same still = (sym g.accepted, sym g.state ∙ sym same, (g.part, subst (λ s. Takes g.part start s) (sym still) g.taken, g.text))

  -- a line is refused
  line_refused : {all : Folded S} {start : SinkSight} (number : ℕ) (state after : S) (lines : List (List ℕ)) (old new : K) (fault : Fault) (r : Result (Turned S) Fault) → GoesOn all (on number state lines r) start (sight old) → TurnsTo sight r (Ok (Some fault)) state after old new
      → (all.accepted ≡ false) × (all.state ≡ after) × ((part : List ℕ) × Takes part start (sight new) × (part ++ refusal number fault ≡ all.text))
  line_refused {all} {start} number state after lines old new fault r g t =
      refused_here number state after fault (subst (λ q. GoesOn all (on number state lines q) start (sight old)) t.0 g) t.1 t.2

  -- a line stops
  line_stops : {all : Folded S} {start : SinkSight} (number : ℕ) (state after : S) (lines : List (List ℕ)) (old new : K) (stop : Stop) (r : Result (Turned S) Fault) → GoesOn all (on number state lines r) start (sight old) → TurnsTo sight r (Err stop) state after old new
      → StopsIn all.text stop start (sight new)
  line_stops {all} {start} number state after lines old new stop r g t = stops_as stop _ _ start (sight new) g.text (stops_after stop g.part (on number state lines r).text start (sight old) (sight new) g.taken (within r t))
    where
      within : (q : Result (Turned S) Fault) → TurnsTo sight q (Err stop) state after old new → StopsIn (on number state lines q).text stop (sight old) (sight new)
      within (Ok u) h = stops_more stop u.text (fold_from turns (suc number) u.state lines).text (sight old) (sight new) h
      within (Err fault) h = stops_more stop [] (refusal number fault) (sight old) (sight new) h

  -- after the last line: the end is logged, the input is refused, or it stops
  end_logged : {all : Folded S} {start : SinkSight} (number : ℕ) (state : S) (old new : K) (r : Result (List ℕ) Fault) → GoesOn all (closed number state r) start (sight old) → Closes sight r (Ok None) old new
      → (all.accepted ≡ true) × (all.state ≡ state) × Takes all.text start (sight new)
  end_logged number state old new (Err fault) g t = absurd t
  end_logged {all} {start} number state old new (Ok text) g t = (sym g.accepted, sym g.state, takes_as (g.part ++ text) all.text start (sight new) g.text (takes_then g.part text start (sight old) (sight new) g.taken t))

  end_stops : {all : Folded S} {start : SinkSight} (number : ℕ) (state : S) (old new : K) (stop : Stop) (r : Result (List ℕ) Fault) → GoesOn all (closed number state r) start (sight old) → Closes sight r (Err stop) old new → StopsIn all.text stop start (sight new)
  end_stops {all} {start} number state old new stop r g t = stops_as stop _ _ start (sight new) g.text (stops_after stop g.part (closed number state r).text start (sight old) (sight new) g.taken (within r t))
    where
      within : (q : Result (List ℕ) Fault) → Closes sight q (Err stop) old new → StopsIn (closed number state q).text stop (sight old) (sight new)
      within (Ok text) h = h
      within (Err fault) h = stops_more stop [] (refusal number fault) (sight old) (sight new) h

  -- THE SAME for the first line of a rest, and where no octet is left

  at_line : {all : Folded S} {start now : SinkSight} (number : ℕ) (state : S) (line rest more : List ℕ) → lines_of rest ≡ line ∷ lines_of more → GoesOn all (fold_from turns number state (lines_of rest)) start now → GoesOn all (on number state (lines_of more) (turns.turn state line)) start now
  at_line {all} {start} {now} number state line rest more l g = subst (λ f. GoesOn all f start now) (ap (fold_from turns number state) l ∙ step_is number state line (lines_of more)) g

  at_end : {all : Folded S} {start now : SinkSight} (number : ℕ) (state : S) (rest : List ℕ) → length rest ≤ 0 → GoesOn all (fold_from turns number state (lines_of rest)) start now → GoesOn all (closed number state (turns.close state)) start now
  at_end {all} {start} {now} number state rest h g = subst (λ f. GoesOn all f start now) (ap (λ xs. fold_from turns number state (lines_of xs)) (empty_is rest h) ∙ end_is number state) g

  pub turned_on : {all : Folded S} {start : SinkSight} (number : ℕ) (state after : S) (line rest more : List ℕ) (old new : K) → lines_of rest ≡ line ∷ lines_of more → GoesOn all (fold_from turns number state (lines_of rest)) start (sight old) → TurnsTo sight (turns.turn state line) (Ok None) state after old new
      → GoesOn all (fold_from turns (number + 1) after (lines_of more)) start (sight new)
  turned_on number state after line rest more old new l g t = rw (add-one number) (turned number state after (lines_of more) old new (turns.turn state line) (at_line number state line rest more l g) t)

  pub refused_on : {all : Folded S} {start : SinkSight} (number : ℕ) (state after : S) (line rest more : List ℕ) (old new : K) (fault : Fault) → lines_of rest ≡ line ∷ lines_of more → GoesOn all (fold_from turns number state (lines_of rest)) start (sight old) → TurnsTo sight (turns.turn state line) (Ok (Some fault)) state after old new
      → (all.accepted ≡ false) × (all.state ≡ after) × ((part : List ℕ) × Takes part start (sight new) × (part ++ refusal number fault ≡ all.text))
  refused_on number state after line rest more old new fault l g t = line_refused number state after (lines_of more) old new fault (turns.turn state line) (at_line number state line rest more l g) t

  pub stops_on : {all : Folded S} {start : SinkSight} (number : ℕ) (state after : S) (line rest more : List ℕ) (old new : K) (stop : Stop) → lines_of rest ≡ line ∷ lines_of more → GoesOn all (fold_from turns number state (lines_of rest)) start (sight old) → TurnsTo sight (turns.turn state line) (Err stop) state after old new
      → StopsIn all.text stop start (sight new)
  stops_on number state after line rest more old new stop l g t = line_stops number state after (lines_of more) old new stop (turns.turn state line) (at_line number state line rest more l g) t

  pub ends_on : {all : Folded S} {start : SinkSight} (number : ℕ) (state : S) (rest : List ℕ) (old new : K) → length rest ≤ 0 → GoesOn all (fold_from turns number state (lines_of rest)) start (sight old) → Closes sight (turns.close state) (Ok None) old new
      → (all.accepted ≡ true) × (all.state ≡ state) × Takes all.text start (sight new)
  ends_on number state rest old new h g t = end_logged number state old new (turns.close state) (at_end number state rest h g) t

  pub ends_refused : {all : Folded S} {start : SinkSight} (number : ℕ) (state : S) (rest : List ℕ) (old new : K) (fault : Fault) → length rest ≤ 0 → GoesOn all (fold_from turns number state (lines_of rest)) start (sight old) → Closes sight (turns.close state) (Ok (Some fault)) old new
      → (all.accepted ≡ false) × (all.state ≡ state) × ((part : List ℕ) × Takes part start (sight new) × (part ++ refusal number fault ≡ all.text))
  ends_refused {all} {start} number state rest old new fault h g t = refused_here number state state fault (subst (λ q. GoesOn all (closed number state q) start (sight old)) t.0 (at_end number state rest h g)) refl t.1

  pub ends_stopped : {all : Folded S} {start : SinkSight} (number : ℕ) (state : S) (rest : List ℕ) (old new : K) (stop : Stop) → length rest ≤ 0 → GoesOn all (fold_from turns number state (lines_of rest)) start (sight old) → Closes sight (turns.close state) (Err stop) old new → StopsIn all.text stop start (sight new)
  ends_stopped number state rest old new stop h g t = end_stops number state old new stop (turns.close state) (at_end number state rest h g) t
