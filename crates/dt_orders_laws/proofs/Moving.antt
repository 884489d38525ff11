-- The laws, of each history.
use Rattle.std.proofs.Common.{◌≡◌, ◌+◌, ◌≤◌, ℕ, [], ◌∷◌, Bool, true, false, ◌⊎◌, inl, inr, sym, subst, arith, refl}
use Rattle.dt_orders_model.specs.declared.requests.Verdict.{Verdict}
use Rattle.dt_orders_model.specs.declared.requests.Verdict.TheVariants as verdict
use Rattle.dt_orders_model.specs.Closing.{IsOpen}
use Rattle.dt_orders_model.specs.Histories.{Call, Commits, Goes, Note, Onward, Reached, World, asked_of, begins, cancels, commit, commits, executes, fails, finishes, first, first_store, first_world, forgets, goes, known_or, notes, on, set_back, starts, stays, touches, verdict_at}
use Rattle.dt_orders_model.specs.Stores.{Act, Among, Executed, Given, Store, Taken, Withdrawn, heard, is_on, is_same, meta_of, place_of, row_of, shared}
use Rattle.dt_orders_laws.proofs.Closed.{KeepsClosed}
use Rattle.dt_orders_laws.proofs.Commits.{grows_begun, grows_executed, grows_finished, grows_forgotten, grows_touched, grows_withdrawn}
use Rattle.dt_orders_laws.proofs.Lawful.{Extends, IsNoted, IsPast, Lawful, extends_itself, lawful_failed, lawful_grown, lawful_new, lawful_opened, untaken_by}
use Rattle.dt_orders_laws.proofs.Lists.{same_itself}
use Rattle.dt_orders_laws.proofs.Places.{left_within}
use Rattle.dt_orders_laws.proofs.Sound.{Sound}
use Rattle.dt_orders_laws.proofs.Verdicts.{Takes, takes_open}

-- the first world
lawful_first : (nonce : ℕ) → Lawful (first_world nonce)
lawful_first nonce = record {
  here = inl refl;
  each = λ s m. first_past s m;
  from = λ n m. elim m [ ];
  path = first_path;
}
  where
    sound : Sound (first_store nonce)
    sound = record {
      horizon = omega arith;
      firsts = (omega arith, tt);
      rows = λ lane. tt;
      log = λ d m. elim m [ ];
      once = λ o. omega arith;
      results = λ o. omega arith;
    }

    itself : IsPast (first_store nonce) [] (first_store nonce)
    itself = record {
      sound = sound;
      noted = λ d m. elim m [ ];
      before = λ d m. elim m [ ];
      newest = λ h. left_within 0 nonce 1 ((first_store nonce).opening ∷ []) sound.firsts;
      agrees = λ d m h. m;
    }

    first_past : (s : Store) → Among s (first_store nonce ∷ []) → IsPast (first_store nonce) [] s
    first_past s (inl e) = subst (λ (x : Store). IsPast (first_store nonce) [] x) (sym e) itself
    first_past s (inr x) = elim x [ ]

    first_of : (s : Store) → Among s (first_store nonce ∷ []) → s ≡ first_store nonce
    first_of s (inl e) = e
    first_of s (inr x) = elim x [ ]

    first_path : (s t : Store) → Among s (first_store nonce ∷ []) → Among t (first_store nonce ∷ []) → is_on (heard s) t ≡ true → Extends s t
    first_path s t m n is_there = subst (λ (x : Store). Extends x t) (sym (first_of s m)) (subst (λ (x : Store). Extends (first_store nonce) x) (sym (first_of t n)) (extends_itself (first_store nonce)))

-- WHO IS TAKEN is open
pub opened_by : (w : World) (strict : Bool) (c : Call) (v : Verdict) → Takes v → verdict_at strict w.present c ≡ v → IsOpen w.present.horizon (row_of (w.present.rows c.note.name.lane)) c.note.name.number (shared c.note.since w.present)
opened_by w strict c v takes e = takes_open (meta_of w.present) (row_of (w.present.rows c.note.name.lane)) (asked_of c) (record { since = place_of c.note.since w.present; knows = place_of (known_or c.note.since c.knows) w.present }) strict (subst Takes (sym e) takes)

-- and wasn't taken before
new_by : (w : World) (l : Lawful w) (strict : Bool) (c : Call) (v : Verdict) → Takes v → Among c.note w.notes → verdict_at strict w.present c ≡ v → (d : Taken) → Among d w.present.log → is_same d.name c.note.name ≡ false
new_by w l strict c v takes m e d taken = untaken_by w l w.present l.here c.note m (opened_by w strict c v takes e) d taken (is_same d.name c.note.name) refl

named_by : (w : World) (n : Note) (act : Act) → Among n w.notes → (d : Taken) → Among d (record { name = n.name; stamp = w.present.clock + 1; act = act } ∷ w.present.log) → Among d w.present.log ⊎ ((d.stamp ≡ w.present.clock + 1) × IsNoted w.notes d)
named_by w n act m d (inl e) = inr (subst (λ (x : Taken). (x.stamp ≡ w.present.clock + 1) × IsNoted w.notes x) (sym e) (refl, record { note = n; there = m; same = same_itself n.name }))
named_by w n act m d (inr t) = inl t

-- WHAT A COMMIT DOES
pub record Does (w : World) (s : Store) : Type 0 where
  pub horizon : ℕ
  pub lawful : Lawful (commit w s)
  pub keeps : KeepsClosed w.present.clock w.present.horizon w.present.rows s.horizon s.rows
  pub clock : s.clock ≡ w.present.clock + 1
  pub log : (d : Taken) → Among d w.present.log → Among d s.log
  pub results : (g : Given) → Among g w.present.results → Among g s.results

pub does : (w : World) (s : Store) → Lawful w → Commits w s → Does w s
does w s l (executes strict c result m e) =
    let past = l.each w.present l.here in
    let g = grows_executed w.present c.note.name (shared c.note.since w.present) past.sound (opened_by w strict c verdict.Execute tt e) (new_by w l strict c verdict.Execute tt m e) result in
    record { horizon = 0; lawful = lawful_grown w l _ _ _ _ g (named_by w c.note Executed m) (λ d t. inr t) (λ x t. inr t); keeps = g.keeps; clock = refl; log = λ d t. inr t; results = λ x t. inr t }
does w s l (begins strict c m e) =
    let past = l.each w.present l.here in
    let g = grows_begun w.present c.note.name (shared c.note.since w.present) past.sound (opened_by w strict c verdict.Execute tt e) (new_by w l strict c verdict.Execute tt m e) in
    record { horizon = 0; lawful = lawful_grown w l _ _ _ _ g (named_by w c.note Executed m) (λ d t. inr t) (λ x t. t); keeps = g.keeps; clock = refl; log = λ d t. inr t; results = λ x t. t }
does w s l (cancels strict c m e) =
    let past = l.each w.present l.here in
    let g = grows_withdrawn w.present c.note.name (shared c.note.since w.present) past.sound (opened_by w strict c verdict.Cancel tt e) (new_by w l strict c verdict.Cancel tt m e) in
    record { horizon = 0; lawful = lawful_grown w l _ _ _ _ g (named_by w c.note Withdrawn m) (λ d t. inr t) (λ x t. t); keeps = g.keeps; clock = refl; log = λ d t. inr t; results = λ x t. t }
does w s l (touches strict c entry m e is) =
    let past = l.each w.present l.here in
    let g = grows_touched w.present c.note.name.lane entry past.sound is in
    record { horizon = 0; lawful = lawful_grown w l _ _ _ _ g (λ d t. inl t) (λ d t. t) (λ x t. t); keeps = g.keeps; clock = refl; log = λ d t. t; results = λ x t. t }
does w s l (finishes lane entry result is at_work) =
    let past = l.each w.present l.here in
    let g = grows_finished w.present lane entry past.sound is result at_work in
    record { horizon = 0; lawful = lawful_grown w l _ _ _ _ g (λ d t. inl t) (λ d t. t) (λ x t. inr t); keeps = g.keeps; clock = refl; log = λ d t. t; results = λ x t. inr t }
does w s l (forgets lane entry is other) =
    let past = l.each w.present l.here in
    let g = grows_forgotten w.present lane entry past.sound is in
    record { horizon = 0; lawful = lawful_grown w l _ _ _ _ g (λ d t. inl t) (λ d t. t) (λ x t. t); keeps = g.keeps; clock = refl; log = λ d t. t; results = λ x t. t }

-- WHAT A STEP DOES
pub record Moves (w v : World) : Type 0 where
  pub lawful : Lawful v
  pub keeps : KeepsClosed w.present.clock w.present.horizon w.present.rows v.present.horizon v.present.rows
  pub clock : w.present.clock ≤ v.present.clock
  pub log : (d : Taken) → Among d w.present.log → Among d v.present.log
  pub results : (g : Given) → Among g w.present.results → Among g v.present.results

pub moves : (w v : World) → Lawful w → Goes w v → Moves w v
moves w v l (notes o s new m) = record { lawful = lawful_new w o s l new m; keeps = record { keeps = λ lane number at b c. c }; clock = omega arith; log = λ d t. t; results = λ x t. t }
moves w v l (fails strict c m e) = record { lawful = lawful_failed w c.note l m (opened_by w strict c verdict.Execute tt e); keeps = record { keeps = λ lane number at b c. c }; clock = omega arith; log = λ d t. t; results = λ x t. t }
moves w v l (commits s c) = let x = does w s l c in record { lawful = x.lawful; keeps = x.keeps; clock = let e = x.clock in omega arith; log = x.log; results = x.results }
moves w v l (starts nonce drawn) = record { lawful = lawful_opened w l w.present l.here nonce drawn; keeps = record { keeps = λ lane number at b c. c }; clock = omega arith; log = λ d t. t; results = λ x t. t }

-- EACH HISTORY IS LAWFUL
pub lawful_of : (w : World) → Reached w → Lawful w
lawful_of w (first nonce) = lawful_first nonce
lawful_of w (goes {w = u} v r g) = (moves u v (lawful_of u r) g).lawful
lawful_of w (set_back {w = u} s nonce r m drawn) = lawful_opened u (lawful_of u r) s m nonce drawn

-- and all that goes on from it
pub moves_on : (w v : World) → Lawful w → Onward w v → Moves w v
moves_on w v l stays = record { lawful = l; keeps = record { keeps = λ lane number at b c. c }; clock = omega arith; log = λ d t. t; results = λ x t. t }
moves_on w v l (on {u = u} x o g) =
    let a = moves_on w u l o in
    let b = moves u x a.lawful g in
    record {
      lawful = b.lawful;
      keeps = record { keeps = λ lane number at below c. let k = a.clock in b.keeps.keeps lane number at (omega arith) (a.keeps.keeps lane number at below c) };
      clock = let k = a.clock in let j = b.clock in omega arith;
      log = λ d t. b.log d (a.log d t);
      results = λ y t. b.results y (a.results y t);
    }

-- what goes on from a history is one
pub reached_on : (w v : World) → Reached w → Onward w v → Reached v
reached_on w v r stays = r
reached_on w v r (on {u = u} x o g) = goes x (reached_on w u r o) g
