-- What holds of every history.
use Rattle.std.proofs.Common.{◌≡◌, ◌≢◌, ◌+◌, ◌≤◌, ◌<◌, ◌∙◌, ℕ, List, [], ◌∷◌, Bool, true, false, ◌⊎◌, inl, inr, ap, sym, subst, arith, refl, length}
use Rattle.std.specs.Prelude.{Option}
use Rattle.std.proofs.lemmas.Bool.{cases_lt}
use Rattle.dt_orders_model.specs.declared.knowledge.Known.{Known}
use Rattle.dt_orders_model.specs.declared.knowledge.Place.{Place}
use Rattle.dt_orders_model.specs.Closing.{IsClosed, IsOpen}
use Rattle.dt_orders_model.specs.Histories.{IsDrawn, IsDrawnAnew, IsNew, Note, World, commit, noted}
use Rattle.dt_orders_model.specs.Stores.{Among, Entry, Given, Name, Store, Taken, heard, is_on, is_same, place_of, reopened, row_of, shared}
use Rattle.dt_orders_laws.proofs.Closed.{KeepsClosed, open_is_not_closed}
use Rattle.dt_orders_laws.proofs.Lists.{alike_of, either_of, same_by}
use Rattle.dt_orders_laws.proofs.Places.{IsHeard, head_is, left_within, not_on_more, not_on_nowhere, not_there, on_goes_on, on_reopened, shared_by_more, shared_goes_on, shared_nowhere, shared_reopened, shared_within}
use Rattle.dt_orders_laws.proofs.Sound.{Grows, Sound, grown, sound_grown, sound_reopened}

-- the note of an order that was taken
pub record IsNoted (notes : List Note) (d : Taken) : Type 0 where
  pub note : Note
  pub there : Among note notes
  pub same : is_same d.name note.name ≡ true

-- the commit that a note names
pub record CameFrom (past : List Store) (n : Note) : Type 0 where
  pub store : Store
  pub there : Among store past
  pub is : n.since ≡ heard store

-- A STORE OF THE PAST, beside the present one and all notes
pub record IsPast (present : Store) (notes : List Note) (s : Store) : Type 0 where
  pub sound : Sound s
  pub noted : (d : Taken) → Among d s.log → IsNoted notes d
  -- whatever an order's notes name is shared up to a clock before its taking
  pub before : (d : Taken) → Among d s.log → (n : Note) → Among n notes → is_same d.name n.name ≡ true → shared n.since s < d.stamp
  -- the present store is the newest of its opening
  pub newest : (place_of (heard present) s).is_there ≡ true → (place_of (heard present) s).left ≤ present.clock
  -- what was taken up to what is shared with the present store is in that one's history
  pub agrees : (d : Taken) → Among d s.log → d.stamp ≤ shared (heard present) s → Among d present.log

-- A STORE THAT GOES ON FROM ANOTHER: all that was taken, all results, and what was closed then
pub record Extends (s t : Store) : Type 0 where
  pub clock : s.clock ≤ t.clock
  pub log : (d : Taken) → Among d s.log → Among d t.log
  pub results : (g : Given) → Among g s.results → Among g t.results
  pub keeps : KeepsClosed s.clock s.horizon s.rows t.horizon t.rows

pub extends_itself : (s : Store) → Extends s s
extends_itself s = record { clock = omega arith; log = λ d m. m; results = λ g m. m; keeps = record { keeps = λ lane number at w c. c } }

pub extends_on : (s t u : Store) → Extends s t → Extends t u → Extends s u
extends_on s t u a b = record {
  clock = let x = a.clock in let y = b.clock in omega arith;
  log = λ d m. b.log d (a.log d m);
  results = λ g m. b.results g (a.results g m);
  keeps = record { keeps = λ lane number at w c. let x = a.clock in b.keeps.keeps lane number at (omega arith) (a.keeps.keeps lane number at w c) };
}

-- A LAWFUL WORLD
pub record Lawful (w : World) : Type 0 where
  pub here : Among w.present w.past
  pub each : (s : Store) → Among s w.past → IsPast w.present w.notes s
  pub from : (n : Note) → Among n w.notes → CameFrom w.past n
  -- a store goes on from what is on its path
  pub path : (s t : Store) → Among s w.past → Among t w.past → is_on (heard s) t ≡ true → Extends s t

-- what a store heard was heard of the present opening no later than now
pub was_heard : (w : World) → Lawful w → (s : Store) → Among s w.past → IsHeard (heard s) w.present.clock w.present.opening w.present.older
was_heard w l s m = record {
  least = λ number nonce.
      let place : place_of (heard w.present) s ≡ record { is_there = true; left = s.clock } =
      subst (λ (x : ℕ). (let q : Known = record { opening = x; nonce = w.present.opening.nonce; clock = w.present.clock } in place_of q s) ≡ record { is_there = true; left = s.clock }) number
      (head_is w.present.opening.nonce s.clock s.opening s.older (sym nonce)) in
      let newest = (l.each s m).newest (ap (λ (p : Place). p.is_there) place) in
      let left : (place_of (heard w.present) s).left ≡ s.clock = ap (λ (p : Place). p.left) place in
      omega arith;
}

pub note_heard : (w : World) → Lawful w → (n : Note) → Among n w.notes → IsHeard n.since w.present.clock w.present.opening w.present.older
note_heard w l n m =
    let c = l.from n m in
    subst (λ (q : Known). IsHeard q w.present.clock w.present.opening w.present.older) (sym c.is) (was_heard w l c.store c.there)

-- what is shared isn't above the clock
pub shared_below : (q : Known) (s : Store) → Sound s → shared q s ≤ s.clock
shared_below q s sound =
    let a = shared_within q.clock (place_of q s) in
    let b = left_within q.opening q.nonce s.clock (s.opening ∷ s.older) sound.firsts in
    omega arith

-- WHO IS EXECUTED OR CANCELLED wasn't before
pub untaken_by : (w : World) → Lawful w → (s : Store) → Among s w.past → (n : Note) → Among n w.notes → IsOpen s.horizon (row_of (s.rows n.name.lane)) n.name.number (shared n.since s) → (d : Taken) → Among d s.log → (t : Bool) → is_same d.name n.name ≡ t → is_same d.name n.name ≡ false
untaken_by w l s m n noted is_open d taken false e = e
untaken_by w l s m n noted is_open d taken true e =
    let past = l.each s m in
    let alike = alike_of d.name n.name e in
    let closed = (past.sound.log d taken).closed (shared n.since s) (past.before d taken n noted e) in
    let closed_lane : IsClosed s.horizon (row_of (s.rows n.name.lane)) d.name.number (shared n.since s) = subst (λ (x : ℕ). IsClosed s.horizon (row_of (s.rows x)) d.name.number (shared n.since s)) alike.lane closed in
    let closed_number : IsClosed s.horizon (row_of (s.rows n.name.lane)) n.name.number (shared n.since s) = subst (λ (x : ℕ). IsClosed s.horizon (row_of (s.rows n.name.lane)) x (shared n.since s)) alike.number closed_lane in
    absurd (open_is_not_closed s.horizon (row_of (s.rows n.name.lane)) n.name.number (shared n.since s) is_open closed_number)

-- A NOTE MORE, of which each store of the past says the same
more_noted : (notes : List Note) (n : Note) (d : Taken) → IsNoted notes d → IsNoted (n ∷ notes) d
more_noted notes n d i = record { note = i.note; there = inr i.there; same = i.same }

pub lawful_noted : (w : World) (n : Note) → Lawful w → CameFrom w.past n → ((s : Store) → Among s w.past → (d : Taken) → Among d s.log → is_same d.name n.name ≡ true → shared n.since s < d.stamp) → Lawful (noted w n)
lawful_noted w n l came before = record {
  here = l.here;
  each = λ s m. let p = l.each s m in record {
    sound = p.sound;
    noted = λ d t. more_noted w.notes n d (p.noted d t);
    before = λ d t. either_of (λ x. is_same d.name x.name ≡ true → shared x.since s < d.stamp) n w.notes (before s m d t) (p.before d t);
    newest = p.newest;
    agrees = p.agrees;
  };
  from = either_of (CameFrom w.past) n w.notes came l.from;
  path = l.path;
}

-- an order that no note has
pub new_is_untaken : (notes : List Note) (o : Name) → IsNew o notes → (n : Note) → Among n notes → is_same n.name o ≡ true → ⊥
new_is_untaken [] o new n m same = elim m [ ]
new_is_untaken (x ∷ notes) o new n (inl e) same =
    let one : is_same x.name o ≡ true = subst (λ (y : Note). is_same y.name o ≡ true) e same in
    let two = new.0 in
    cc
new_is_untaken (x ∷ notes) o new n (inr m) same = new_is_untaken notes o new.1 n m same

pub lawful_new : (w : World) (o : Name) (s : Store) → Lawful w → IsNew o w.notes → Among s w.past → Lawful (noted w (record { name = o; since = heard s }))
lawful_new w o s l new m = lawful_noted w (record { name = o; since = heard s }) l (record { store = s; there = m; is = refl })
    (λ t among d taken same.
    let had = (l.each t among).noted d taken in
    absurd (new_is_untaken w.notes o new had.note had.there (same_by d.name had.note.name o had.same same)))

-- A HANDLER FAILED: the order wasn't taken up to what the answer names
failed_before : (w : World) → Lawful w → (c : Note) → Among c w.notes → IsOpen w.present.horizon (row_of (w.present.rows c.name.lane)) c.name.number (shared c.since w.present) → (s : Store) → Among s w.past → (d : Taken) → Among d s.log → is_same d.name c.name ≡ true → shared (heard w.present) s < d.stamp
failed_before w l c noted is_open s m d taken same =
    elim (cases_lt (shared (heard w.present) s) d.stamp) [
      | inl below ↦ below
      | inr above ↦
          let in_present = (l.each s m).agrees d taken above in
          let not_same = untaken_by w l w.present l.here c noted is_open d in_present (is_same d.name c.name) refl in
          absurd (apart same not_same)
    ]
  where
    apart : {b : Bool} → b ≡ true → b ≡ false → ⊥
    apart x y = cc

pub lawful_failed : (w : World) (c : Note) → Lawful w → Among c w.notes → IsOpen w.present.horizon (row_of (w.present.rows c.name.lane)) c.name.number (shared c.since w.present) → Lawful (noted w (record { name = c.name; since = heard w.present }))
lawful_failed w c l m is_open = lawful_noted w (record { name = c.name; since = heard w.present }) l (record { store = w.present; there = l.here; is = refl }) (failed_before w l c m is_open)

came_more : (past : List Store) (s : Store) (n : Note) → CameFrom past n → CameFrom (s ∷ past) n
came_more past s n c = record { store = c.store; there = inr c.there; is = c.is }

-- A COMMIT
module _ (w : World) (l : Lawful w) (horizon : ℕ) (rows : ℕ → Option Entry) (log : List Taken) (results : List Given) (g : Grows w.present horizon rows log results) (named : (d : Taken) → Among d log → Among d w.present.log ⊎ ((d.stamp ≡ w.present.clock + 1) × IsNoted w.notes d)) (kept : (d : Taken) → Among d w.present.log → Among d log) (kept_results : (g : Given) → Among g w.present.results → Among g results) where
  abbrev next : Store
  next = grown w.present horizon rows log results

  abbrev now_past : IsPast w.present w.notes w.present
  now_past = l.each w.present l.here

  next_sound : Sound next
  next_sound = sound_grown w.present horizon rows log results now_past.sound g

  note_shared : (n : Note) → Among n w.notes → shared n.since next ≤ shared n.since w.present
  note_shared n m = shared_goes_on n.since w.present.clock w.present.opening w.present.older (note_heard w l n m)

  next_noted : (d : Taken) → Among d w.present.log ⊎ ((d.stamp ≡ w.present.clock + 1) × IsNoted w.notes d) → IsNoted w.notes d
  next_noted d (inl m) = now_past.noted d m
  next_noted d (inr n) = n.1

  next_before : (d : Taken) → Among d w.present.log ⊎ ((d.stamp ≡ w.present.clock + 1) × IsNoted w.notes d) → (n : Note) → Among n w.notes → is_same d.name n.name ≡ true → shared n.since next < d.stamp
  next_before d (inl m) n noted same =
      let a = note_shared n noted in
      let b = now_past.before d m n noted same in
      omega arith
  next_before d (inr x) n noted same =
      let a = note_shared n noted in
      let b = shared_below n.since w.present now_past.sound in
      let c = x.0 in
      omega arith

  next_newest : (place_of (heard next) next).is_there ≡ true → (place_of (heard next) next).left ≤ w.present.clock + 1
  next_newest h = left_within (length w.present.older) w.present.opening.nonce (w.present.clock + 1) (w.present.opening ∷ w.present.older) next_sound.firsts

  next_past : IsPast next w.notes next
  next_past = record {
    sound = next_sound;
    noted = λ d m. next_noted d (named d m);
    before = λ d m. next_before d (named d m);
    newest = next_newest;
    agrees = λ d m h. m;
  }

  old_past : (s : Store) → Among s w.past → IsPast next w.notes s
  old_past s m = let p = l.each s m in record {
    sound = p.sound;
    noted = p.noted;
    before = p.before;
    newest = λ h. let e = p.newest h in omega arith;
    agrees = λ d t h. kept d (p.agrees d t (let e = shared_by_more w.present.clock (place_of (heard w.present) s) p.newest in omega arith));
  }

  next_extends : Extends w.present next
  next_extends = record { clock = omega arith; log = kept; results = kept_results; keeps = g.keeps }

  next_path : (s : Store) → Among s (next ∷ w.past) → (t : Store) → Among t (next ∷ w.past) → is_on (heard s) t ≡ true → Extends s t
  next_path = either_of (λ s. (t : Store) → Among t (next ∷ w.past) → is_on (heard s) t ≡ true → Extends s t) next w.past
      (either_of (λ t. is_on (heard next) t ≡ true → Extends next t) next w.past (λ on. extends_itself next)
      (λ t m on. absurd (not_on_more w.present.clock (place_of (heard w.present) t) (l.each t m).newest on)))
      (λ s m. either_of (λ t. is_on (heard s) t ≡ true → Extends s t) next w.past
      (λ on. extends_on s w.present next (l.path s w.present m l.here (on_goes_on (heard s) w.present.clock w.present.opening w.present.older (was_heard w l s m) on)) next_extends)
      (λ t n. l.path s t m n))

  pub lawful_grown : Lawful (commit w next)
  lawful_grown = record {
    here = inl refl;
    each = either_of (IsPast next w.notes) next w.past next_past old_past;
    from = λ n m. came_more w.past next n (l.from n m);
    path = λ s t m n. next_path s m t n;
  }

-- A STORE OF THE PAST IS OPENED
pub drawn_of : (nonce : ℕ) (past : List Store) → IsDrawnAnew nonce past → (s : Store) → Among s past → IsDrawn nonce (s.opening ∷ s.older)
drawn_of nonce [] d s m = elim m [ ]
drawn_of nonce (x ∷ past) d s (inl e) = subst (λ (y : Store). IsDrawn nonce (y.opening ∷ y.older)) (sym e) d.0
drawn_of nonce (x ∷ past) d s (inr m) = drawn_of nonce past d.1 s m

module _ (w : World) (l : Lawful w) (s : Store) (there : Among s w.past) (nonce : ℕ) (drawn : IsDrawnAnew nonce w.past) where
  abbrev opened : Store
  opened = reopened s nonce

  abbrev its_past : IsPast w.present w.notes s
  its_past = l.each s there

  opened_sound : Sound opened
  opened_sound = sound_reopened s nonce its_past.sound

  -- no commit of the past is of the new opening
  other : (t : Store) → Among t w.past → t.opening.nonce ≢ nonce
  other t m = (drawn_of nonce w.past drawn t m).0

  note_other : (n : Note) → Among n w.notes → n.since.nonce ≢ nonce
  note_other n m e = let c = l.from n m in other c.store c.there (sym (ap (λ (q : Known). q.nonce) c.is) ∙ e)

  opened_shared : (n : Note) → Among n w.notes → shared n.since opened ≤ shared n.since s
  opened_shared n m = shared_reopened n.since s.clock nonce (s.opening ∷ s.older) (note_other n m)

  opened_newest : (place_of (heard opened) opened).is_there ≡ true → (place_of (heard opened) opened).left ≤ s.clock + 1
  opened_newest h = left_within (length (s.opening ∷ s.older)) nonce (s.clock + 1) (opened.opening ∷ opened.older) opened_sound.firsts

  opened_past : IsPast opened w.notes opened
  opened_past = record {
    sound = opened_sound;
    noted = its_past.noted;
    before = λ d m n noted same. let a = opened_shared n noted in let b = its_past.before d m n noted same in omega arith;
    newest = opened_newest;
    agrees = λ d m h. m;
  }

  -- the new opening isn't there in any store of the past
  absent : (t : Store) → Among t w.past → (place_of (heard opened) t).is_there ≡ false
  absent t m = not_there (length (s.opening ∷ s.older)) nonce t.clock (t.opening ∷ t.older) (drawn_of nonce w.past drawn t m)

  before_opened : (t : Store) → Among t w.past → IsPast opened w.notes t
  before_opened t m = let p = l.each t m in record {
    sound = p.sound;
    noted = p.noted;
    before = p.before;
    newest = λ h. let a = absent t m in absurd (apart h a);
    agrees = λ d taken h.
        let none = shared_nowhere opened.clock (place_of (heard opened) t) (absent t m) in
        let some = (p.sound.log d taken).some in
        absurd (omega arith);
  }
    where
      apart : {b : Bool} → b ≡ true → b ≡ false → ⊥
      apart x y = cc

  opened_extends : Extends s opened
  opened_extends = record { clock = omega arith; log = λ d m. m; results = λ g m. m; keeps = record { keeps = λ lane number at b c. c } }

  opened_path : (t : Store) → Among t (opened ∷ w.past) → (u : Store) → Among u (opened ∷ w.past) → is_on (heard t) u ≡ true → Extends t u
  opened_path = either_of (λ t. (u : Store) → Among u (opened ∷ w.past) → is_on (heard t) u ≡ true → Extends t u) opened w.past
      (either_of (λ u. is_on (heard opened) u ≡ true → Extends opened u) opened w.past (λ on. extends_itself opened)
      (λ u m on. absurd (not_on_nowhere opened.clock (place_of (heard opened) u) (absent u m) on)))
      (λ t m. either_of (λ u. is_on (heard t) u ≡ true → Extends t u) opened w.past
      (λ on. extends_on t s opened (l.path t s m there (on_reopened (heard t) s.clock nonce (s.opening ∷ s.older) (other t m) on)) opened_extends)
      (λ u n. l.path t u m n))

  pub lawful_opened : Lawful (commit w opened)
  lawful_opened = record {
    here = inl refl;
    each = either_of (IsPast opened w.notes) opened w.past opened_past before_opened;
    from = λ n m. came_more w.past opened n (l.from n m);
    path = λ t u m n. opened_path t m u n;
  }
