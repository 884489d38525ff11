-- Sides are read until nothing is there.
use Rattle.std.proofs.Common.{ℕ, zero, suc, ◌+◌, ◌<◌, ◌≤◌, ◌≡◌, ◌==◌, true, List, [], ◌∷◌, length, map, take, drop, Option, Some, None, refl, ap, sym, subst, ◌∙◌, inl, inr, arith, append-nil, length-drop}
use Rattle.std.specs.Prelude.{unwrap_or}
use Rattle.std.specs.List.{fold}
use Rattle.std.proofs.lemmas.Bool.{cases_Bool}
use Rattle.dt_items.specs.declared.item.Item.{Item}
use Rattle.dt_items.specs.Unread.{first_piece}
use Rattle.dt_units.specs.declared.endpoints.Flow.{Flow}
use Rattle.dt_reports.specs.Entries.{Entry}
use Rattle.dt_world_model.specs.Tables.{has_key, look, same_flow, write}
use Rattle.dt_world_model.specs.World.{Placed, World, view}
use Rattle.dt_world_model.specs.WorldStep.{Reads, after_event}
use Rattle.dt_world_model.proofs.Tables.{flow_is, flow_self, look_write}
use Rattle.dt_calls_model.specs.CallFacts.{CourseFacts, FlowIsKept}
use Rattle.dt_calls_model.specs.Calls.{Begun, Calls, Client, Server, Side, begun_at, call_at, flow_read, none_begun, with_begun, with_sides}
use Rattle.dt_calls_model.specs.Heard.{piece_in}
use Rattle.dt_calls_model.specs.Messages.{Piece, begun_with, reversed, whole_with}
use Rattle.dt_calls_model.specs.Reads.{Course, happens, in_world, most_read, read_all, read_side, read_sides, read_times, take_piece, take_read, take_whole}
use Rattle.dt_calls_model.specs.Rests.{RestsIn}
use Rattle.dt_calls_laws.specs.Calm.{PieceIsGone, Steady, count_gone, count_read, items_taken, rows_given}
use Rattle.dt_calls_laws.specs.Leads.{AllRead, AreDone, IsDone, Leads, PieceKeeps, names}
use Rattle.dt_calls_laws.specs.Onward.{Onward, StaysQuiet}
use Rattle.dt_calls_laws.specs.ReadTold.{piece_of}
use Rattle.dt_calls_laws.specs.Told.{IsOn}
use Rattle.dt_calls_laws.proofs.Calm.{piece_fits, read_unread}
use Rattle.dt_calls_laws.proofs.Courses.{all_told, leads_same, leads_then, whole_leads}
use Rattle.dt_calls_laws.proofs.Onward.{flow_calm, flow_found, same_call}
use Rattle.dt_calls_laws.proofs.PieceRead.{after_piece, flow_read_is, happens_is, is_there, key_found, key_same, piece_keeps, read_apart, read_goes, read_gone, read_items, read_keys, read_stays_gone, read_told, reader_there, reads_clear, same_calls, still_calls}
use Rattle.dt_calls_laws.proofs.Quiet.{read_quiet, reader_rests}
use Rattle.dt_calls_laws.proofs.States.{all_entries_on}

-- a piece that isn't there is of no items
no_piece : (items : List Item) → piece_of items ≡ None → items ≡ []
no_piece [] e = refl
no_piece (i ∷ is) e = absurd cc

none_first : (most : ℕ) (unread : List Item) → first_piece (suc most) unread ≡ [] → unread ≡ []
none_first most [] e = refl
none_first most (i ∷ is) e = absurd cc

some_first : (items : List Item) (p : Piece) → piece_of items ≡ Some p → 0 < length items
some_first [] p e = absurd cc
some_first (i ∷ is) p e = omega arith

-- the names of entries stay where one of them is written
names_write : (f : Flow) (b : Begun) (flows : List (Flow × Begun)) → has_key same_flow f flows ≡ true → map (λ (e : Flow × Begun). e.0) (write same_flow f b flows) ≡ map (λ (e : Flow × Begun). e.0) flows
names_write f b [] h = absurd cc
names_write f b (x ∷ flows) h =
    elim (cases_Bool (same_flow x.0 f)) [
      | inl y ↦ rw y (ap (λ (g : Flow). g ∷ map (λ (e : Flow × Begun). e.0) flows) (sym (flow_is x.0 f y)))
      | inr o ↦ rw o (ap (λ (gs : List Flow). x.0 ∷ gs) (names_write f b flows (rw o at h)))
    ]

-- WHAT IS DONE with a side stays done.
pub done_stays : (side : Side) (w after : World) (f : Flow) → StaysQuiet w after → IsDone side w f → IsDone side after f
done_stays side w after f quiet h = record { read = quiet.read (flow_read side f) h.read; rests = quiet.rests (flow_read side f).to.0 h.rests }

module _ (answer : List ℕ → List ℕ) (side : Side) (f : Flow) where
  abbrev g : Flow
  g = flow_read side f

  abbrev unread_in : Course → List Item
  unread_in c = (view c.calls.world g).unread

  module _ (c : Course) (on : IsOn answer c) (b : Begun) (there : look same_flow f c.calls.flows ≡ Some b) where
    abbrev r : List Entry × World
    r = happens (Reads g most_read) c.calls.world

    -- the course with the world after the read
    abbrev read_course : Course
    read_course = record c { calls = in_world r.1 c.calls }

    here : FlowIsKept answer c.calls f b
    here = flow_found answer c.calls f b on.facts there

    at : (at : Placed) × (look ◌==◌ g.to.0 c.calls.world.stations ≡ Some at)
    at = reader_there answer side c.calls f b here

    is_read : r ≡ after_event c.calls.world (Reads g most_read)
    is_read = happens_is c.calls.world (Reads g most_read) (reads_clear answer side c.calls f b here)

    quiet : StaysQuiet c.calls.world r.1
    quiet = subst (λ (x : List Entry × World). StaysQuiet c.calls.world x.1) (sym is_read) (read_quiet c.calls.world on.facts.limits on.facts.world g most_read at.0 (flow_read_is answer side f here.ranges) at.1 (reads_clear answer side c.calls f b here))

    rests : RestsIn r.1 g.to.0
    rests = subst (λ (x : List Entry × World). RestsIn x.1 g.to.0) (sym is_read) (reader_rests c.calls.world on.facts.limits on.facts.world g most_read at.0 (flow_read_is answer side f here.ranges) at.1)

    left : (view r.1 g).unread ≡ drop (count_read c.calls.world g most_read) (view c.calls.world g).unread
    left = subst (λ (x : List Entry × World). (view x.1 g).unread ≡ drop (count_read c.calls.world g most_read) (view c.calls.world g).unread) (sym is_read) (read_unread c.calls.world on.facts.limits on.facts.world g most_read at.0 (flow_read_is answer side f here.ranges) at.1)

    fits : count_read c.calls.world g most_read ≤ length (view c.calls.world g).unread
    fits = piece_fits c.calls.world on.facts.limits on.facts.world g most_read at.0 (flow_read_is answer side f here.ranges) at.1

    -- the calls go on over the world after the read
    onward_read : (flows : List (Flow × Begun)) → ((k : Flow) → has_key same_flow k flows ≡ has_key same_flow k c.calls.flows) → Onward c.calls (record { world = r.1; calls = c.calls.calls; flows = flows })
    onward_read flows same = record {
      calls = λ n lt. same_call (call_at c.calls n);
      items = λ k. ([], read_items answer side c.calls f b on.facts there k ∙ sym (append-nil (items_taken c.calls.world k)));
      keys = λ k h. same k ∙ h;
      count = omega arith;
    }

    leads_read : (flows : List (Flow × Begun)) → CourseFacts answer (record { world = r.1; calls = c.calls.calls; flows = flows }) → ((k : Flow) → has_key same_flow k flows ≡ has_key same_flow k c.calls.flows)
        → map (λ (e : Flow × Begun). e.0) flows ≡ names c.calls → Leads answer c (record { told = c.told; calls = record { world = r.1; calls = c.calls.calls; flows = flows } })
    leads_read flows facts same named =
        let after : Calls = record { world = r.1; calls = c.calls.calls; flows = flows } in
        record {
          on = record { facts = facts; few = on.few; told = all_told answer c.calls after c.told on.facts (onward_read flows same) on.told };
          onward = onward_read flows same;
          quiet = quiet;
          names = named;
          count = refl;
        }

    -- NOTHING WAS THERE
    module _ (none : (view c.calls.world g).unread ≡ []) where
      all_steady : (k : Flow) → Steady c.calls.world r.1 k
      all_steady k =
          elim (cases_Bool (same_flow g k)) [
            | inl y ↦ subst (λ (x : Flow). Steady c.calls.world r.1 x) (flow_is g k y) steady_here
            | inr o ↦ (read_apart answer side c.calls f b on.facts there k o).steady
          ]
        where
          gone : PieceIsGone c.calls.world r.1 g most_read
          gone = read_gone answer side c.calls f b on.facts there

          count : count_read c.calls.world g most_read ≡ 0
          count = let len : length (view c.calls.world g).unread ≡ 0 = ap (λ (us : List Item). length us) none in omega (arith, fits, len)

          steady_here : Steady c.calls.world r.1 g
          steady_here = record {
            gone = gone.gone ∙ ap (λ (n : ℕ). take n (rows_given c.calls.world g)) (let e : count_gone c.calls.world g + count_read c.calls.world g most_read ≡ count_gone c.calls.world g = omega (arith, count) in e);
            life = gone.life;
          }

      nothing_course : CourseFacts answer read_course.calls
      nothing_course =
          let items = read_items answer side c.calls f b on.facts there in
          same_calls answer c.calls r.1 c.calls.flows on.facts (read_goes answer side c.calls f b on.facts there) (read_keys answer side c.calls f b on.facts there) (read_stays_gone answer side c.calls f b on.facts there) items on.facts.distinct (λ k. refl)
          (all_entries_on (FlowIsKept answer c.calls) (FlowIsKept answer read_course.calls) c.calls.flows
          (λ k x h. flow_calm answer c.calls read_course.calls k x h (read_keys answer side c.calls f b on.facts there) h.one_way (still_calls answer c.calls r.1 c.calls.flows k items) (all_steady k) (all_steady (reversed k)))
          on.facts.flows)

      pub nothing_leads : Leads answer c read_course
      nothing_leads = leads_read c.calls.flows nothing_course (λ k. refl) refl

      pub nothing_done : IsDone side r.1 f
      nothing_done = record { read = quiet.read g none; rests = rests }

    -- A PIECE WAS THERE
    module _ (p : Piece) (told : piece_in r.0 ≡ Some p) where
      keeps : PieceKeeps answer side f b p (record { world = r.1; calls = c.calls.calls; flows = write same_flow f (after_piece answer side p b) c.calls.flows })
      keeps = piece_keeps answer side c.calls f b p on.facts there told

      abbrev joined_course : Course
      joined_course = record { told = c.told; calls = record { world = r.1; calls = c.calls.calls; flows = write same_flow f (after_piece answer side p b) c.calls.flows } }

      has_f : has_key same_flow f c.calls.flows ≡ true
      has_f = key_found (look same_flow f c.calls.flows) b there

      joined_leads : Leads answer c joined_course
      joined_leads = leads_read (write same_flow f (after_piece answer side p b) c.calls.flows) keeps.facts (λ k. key_same f k (after_piece answer side p b) c.calls.flows has_f) (names_write f (after_piece answer side p b) c.calls.flows has_f)

      abbrev piece_course : Course
      piece_course = take_whole answer side f (whole_with (begun_at side b) p) joined_course

      -- by what the side had begun
      abbrev piece_with : Begun → Course
      piece_with x = take_whole answer side f (whole_with (begun_at side x) p) (record read_course { calls = with_sides f (with_begun side (begun_with (begun_at side x) p) x) read_course.calls })

      piece_is : take_piece answer side f p read_course ≡ piece_course
      piece_is = ap piece_with (ap (λ (o : Option Begun). unwrap_or o none_begun) there)

      whole_then : Leads answer joined_course piece_course × ((k : Flow) → (view piece_course.calls.world k).unread ≡ (view r.1 k).unread)
      whole_then = whole_leads answer side joined_course f (after_piece answer side p b) (whole_with (begun_at side b) p) joined_leads.on (look_write Flow Begun same_flow flow_self flow_is f (after_piece answer side p b) c.calls.flows) keeps.comes

      shorter : suc (length (unread_in piece_course)) ≤ length (unread_in c)
      shorter =
          let n = count_read c.calls.world g most_read in
          let some : 0 < n = some_first (first_piece most_read (view c.calls.world g).unread) p (sym (read_told answer side c.calls f b on.facts there) ∙ told) in
          let len = ap (λ (us : List Item). length us) (whole_then.1 g ∙ left) ∙ length-drop n (view c.calls.world g).unread in
          omega (arith, len, some, fits)

      pub piece_leads : Leads answer c (take_piece answer side f p read_course) × (suc (length (unread_in (take_piece answer side f p read_course))) ≤ length (unread_in c))
      piece_leads =
          subst (λ (d : Course). Leads answer c d × (suc (length (unread_in d)) ≤ length (unread_in c))) (sym piece_is)
          (leads_then answer c joined_course piece_course joined_leads whole_then.0, shorter)

  -- UNTIL NOTHING IS THERE
  abbrev pub ReadsAll : Course → Course → Type 0
  ReadsAll c after = Leads answer c after × IsDone side after.calls.world f

  key_stays : (c after : Course) → has_key same_flow f c.calls.flows ≡ true → Leads answer c after → has_key same_flow f after.calls.flows ≡ true
  key_stays c after h l = l.onward.keys f h

  -- by the piece that was there
  by_piece : (again : Course → Course) (most : ℕ) (c : Course) → IsOn answer c → has_key same_flow f c.calls.flows ≡ true → length (unread_in c) < suc most
      → ((mid : Course) → IsOn answer mid → has_key same_flow f mid.calls.flows ≡ true → length (unread_in mid) < most → ReadsAll mid (again mid))
      → (b : Begun) → look same_flow f c.calls.flows ≡ Some b → (o : Option Piece) → piece_in (happens (Reads g most_read) c.calls.world).0 ≡ o
      → ReadsAll c (take_read answer again side f o (record c { calls = in_world (happens (Reads g most_read) c.calls.world).1 c.calls }))
  by_piece again most c on key less next b there None e =
      let first : first_piece most_read (unread_in c) ≡ [] = no_piece (first_piece most_read (unread_in c)) (sym (read_told answer side c.calls f b on.facts there) ∙ e) in
      let none : unread_in c ≡ [] = none_first 65535 (unread_in c) first in
      (nothing_leads c on b there none, nothing_done c on b there none)
  by_piece again most c on key less next b there (Some p) e =
      let one = piece_leads c on b there p e in
      let mid = take_piece answer side f p (record c { calls = in_world (happens (Reads g most_read) c.calls.world).1 c.calls }) in
      let rest = next mid one.0.on (key_stays c mid key one.0) (omega (arith, one.1, less)) in
      (leads_then answer c mid (again mid) one.0 rest.0, rest.1)

  times_lead : (most : ℕ) (c : Course) → IsOn answer c → has_key same_flow f c.calls.flows ≡ true → length (unread_in c) < most → ReadsAll c (read_times answer most side f c)
  times_lead zero c on key less = absurd (omega arith)
  times_lead (suc most) c on key less =
      let found = is_there (look same_flow f c.calls.flows) key in
      by_piece (read_times answer most side f) most c on key less (times_lead most) found.0 found.1 (piece_in (happens (Reads g most_read) c.calls.world).0) refl

  pub side_leads : (c : Course) → IsOn answer c → has_key same_flow f c.calls.flows ≡ true → ReadsAll c (read_side answer side c f)
  side_leads c on key = times_lead (suc (length (unread_in c))) c on key (omega arith)

-- ALL SIDES
pub all_done_stay : (side : Side) (w after : World) (fs : List Flow) → StaysQuiet w after → AreDone side w fs → AreDone side after fs
all_done_stay side w after [] still h = tt
all_done_stay side w after (f ∷ fs) still h = (done_stays side w after f still h.0, all_done_stay side w after fs still h.1)

abbrev AreThere : List (Flow × Begun) → List Flow → Type 0
AreThere flows [] = Unit {0}
AreThere flows (f ∷ fs) = (has_key same_flow f flows ≡ true) × AreThere flows fs

there_on : (flows flows' : List (Flow × Begun)) (fs : List Flow) → ((k : Flow) → has_key same_flow k flows ≡ true → has_key same_flow k flows' ≡ true) → AreThere flows fs → AreThere flows' fs
there_on flows flows' [] on h = tt
there_on flows flows' (f ∷ fs) on h = (on f h.0, there_on flows flows' fs on h.1)

key_behind : (x : Flow × Begun) (flows : List (Flow × Begun)) (k : Flow) → has_key same_flow k flows ≡ true → has_key same_flow k (x ∷ flows) ≡ true
key_behind x flows k h = elim (cases_Bool (same_flow x.0 k)) [ inl y ↦ rw y refl | inr o ↦ rw o h ]

all_there : (flows : List (Flow × Begun)) → AreThere flows (map (λ (e : Flow × Begun). e.0) flows)
all_there [] = tt
all_there (x ∷ flows) = (rw (flow_self x.0) refl, there_on flows (x ∷ flows) (map (λ (e : Flow × Begun). e.0) flows) (key_behind x flows) (all_there flows))

module _ (answer : List ℕ → List ℕ) where
  fold_leads : (side : Side) (fs : List Flow) (c : Course) → IsOn answer c → AreThere c.calls.flows fs → Leads answer c (fold (read_side answer side) c fs) × AreDone side (fold (read_side answer side) c fs).calls.world fs
  fold_leads side [] c on there = (leads_same answer c on, tt)
  fold_leads side (f ∷ fs) c on there =
      let mid = read_side answer side c f in
      let one = side_leads answer side f c on there.0 in
      let rest = fold_leads side fs mid one.0.on (there_on c.calls.flows mid.calls.flows fs one.0.onward.keys there.1) in
      (leads_then answer c mid (fold (read_side answer side) mid fs) one.0 rest.0, (done_stays side mid.calls.world (fold (read_side answer side) mid fs).calls.world f rest.0.quiet one.1, rest.1))

  pub sides_lead : (side : Side) (c : Course) → IsOn answer c → Leads answer c (read_sides answer side c) × AreDone side (read_sides answer side c).calls.world (names c.calls)
  sides_lead side c on = fold_leads side (names c.calls) c on (all_there c.calls.flows)

  -- THE SERVERS' SIDES, and then the clients'
  pub all_read : (c : Course) → IsOn answer c → AllRead answer c (read_all answer c)
  all_read c on =
      let mid = read_sides answer Server c in
      let after = read_sides answer Client mid in
      let one = sides_lead Server c on in
      let two = sides_lead Client mid one.0.on in
      let named : names after.calls ≡ names c.calls = two.0.names ∙ one.0.names in
      record {
        leads = leads_then answer c mid after one.0 two.0;
        servers = subst (λ (fs : List Flow). AreDone Server after.calls.world fs) (sym named) (all_done_stay Server mid.calls.world after.calls.world (names c.calls) two.0.quiet one.1);
        clients = subst (λ (fs : List Flow). AreDone Client after.calls.world fs) (sym two.0.names) two.1;
      }
