-- A script that is played before a log.
use Rattle.std.proofs.Common.{◌≡◌, ◌<◌, inl, inr, ℕ, Bool, true, false, List, [], ◌∷◌, ◌++◌, map, take, Option, Result, Ok, Err, refl, sym, ap, subst, ◌∙◌}
use Rattle.std.proofs.lemmas.Bool.{cases_Bool, false≢true}
use Rattle.std.proofs.lemmas.List.{map-append}
use Rattle.dt_reports.specs.Told.{Told}
use Rattle.std.specs.Io.KnownBytes.{Appends}
use Rattle.dt_edges.specs.Sinks.{Grows, SinkSight}
use Rattle.dt_fold.specs.Logging.{StopsIn, wants_memory}
use Rattle.dt_world_model.specs.Script.{Script, Done, Tell, Ask, Hand, Plays, Stops, Concludes}
use Rattle.dt_fold.specs.declared.stops.Stop.{Stop}
use Rattle.dt_fold.specs.declared.stops.Stop.TheVariants as stops
use Rattle.std.specs.Prelude.{IfOk, OnErr, OnOk}
use Rattle.dt_items.specs.declared.memory.NoMemory.{NoMemory}
use Rattle.dt_script.specs.declared.orders.Orders.{Orders}
use Rattle.dt_turn.specs.declared.nodes.Node as coded
use Rattle.dt_turn.specs.Codes as codes
use Rattle.dt_turn.specs.Codes.{IsReady}
use Rattle.dt_turn.specs.Nodes.{Node}
use Rattle.dt_node.specs.TurnScripts.{Leaves, ended_by, turned}
use Rattle.dt_node.specs.Acts.{Act, Tells, Hands, Deed, Says, Gives, act_of, acts_of, answer_of}
use Rattle.dt_node.specs.Logging.{Fixed, LogSight, LogTells, LogHands, HandsIf, TellsIf, log_tells, log_tags, log_hands, log_fails}
use Rattle.dt_node.specs.Deeds.{deeds_text, Did, DidSome, FaultsBy, TurnEnds, WroteSome, scene, stop_by, unlost}
use Rattle.dt_node.proofs.Doing.{did_none, did_then, did_then_some, some_more, some_none, acts_unlost, told_did, told_some, handed}

-- After Ok the script was played before the log, with this answer; after an error it was played up to some point.
abbrev LogEnds : {V A U E : Type 0} → (V → LogSight) → Result U E → Script (Unit {0}) A → V → V → A → Type 0
LogEnds view result script v w answer = Concludes (log_tells view) log_tags (log_hands view) log_fails result script v w answer

-- after a line that couldn't be written nothing is done
still_tells : (s t : LogSight) (told : Told) → LogTells s told t → s.failed ≡ true → t ≡ s
still_tells s t told h f = subst (λ (b : Bool). TellsIf b told s t) f h

still_hands : (s t : LogSight) (link : ℕ) (octets : List ℕ) → LogHands s link octets t → s.failed ≡ true → t ≡ s
still_hands s t link octets h f = subst (λ (b : Bool). HandsIf b link octets s t) f h

-- what a script does, and what was done of it
pub record Whole {A : Type 0} (script : Script (Unit {0}) A) (s t : LogSight) (answer : A) : Type 0 where
  pub deeds : List Deed
  pub acts : map act_of deeds ≡ acts_of s.fixed.moment script
  pub did : Did deeds s t
  pub answers : answer_of script ≡ answer

pub record Partly {A : Type 0} (script : Script (Unit {0}) A) (s t : LogSight) : Type 0 where
  pub deeds : List Deed
  pub acts : map act_of deeds ≡ acts_of s.fixed.moment script
  pub did : DidSome deeds s t

module _ {V : Type 0} (view : V → LogSight) where
  pub stops_still : {A : Type 0} (script : Script (Unit {0}) A) (v w : V) → Stops (log_tells view) log_tags (log_hands view) log_fails script v w → (view v).failed ≡ true → view w ≡ view v
  stops_still (Done a) v w p f = ap view (sym p)
  stops_still (Tell r s) v w (inl p) f = ap view (sym p)
  stops_still (Tell r s) v w (inr p) f = let e = still_tells (view v) (view p.0) r p.1 f in stops_still s p.0 w p.2 (ap (λ (x : LogSight). x.failed) e ∙ f) ∙ e
  stops_still (Ask host octets s) v w (inl p) f = ap view (sym p)
  stops_still (Ask host octets s) v w (inr p) f = let e = ap view p.2 in stops_still (s p.1) p.0 w p.3 (ap (λ (x : LogSight). x.failed) e ∙ f) ∙ e
  stops_still (Hand link parcel s) v w (inl p) f = ap view (sym p)
  stops_still (Hand link parcel s) v w (inr (inl p)) f = absurd p
  stops_still (Hand link parcel s) v w (inr (inr p)) f = let e = still_hands (view v) (view p.0) link parcel.octets p.1 f in stops_still s p.0 w p.2 (ap (λ (x : LogSight). x.failed) e ∙ f) ∙ e

  pub plays_stops : {A : Type 0} (script : Script (Unit {0}) A) (v w : V) (b : A) → Plays (log_tells view) log_tags (log_hands view) script v w b → Stops (log_tells view) log_tags (log_hands view) log_fails script v w
  plays_stops (Done a) v w b p = p.0
  plays_stops (Tell r s) v w b p = inr (p.0, p.1, plays_stops s p.0 w b p.2)
  plays_stops (Ask host octets s) v w b p = inr (p.0, p.1, p.2, plays_stops (s p.1) p.0 w b p.3)
  plays_stops (Hand link parcel s) v w b p = inr (inr (p.0, p.1, plays_stops s p.0 w b p.2))

  -- where the log hasn't failed in the end, it hadn't on the way
  was_well : {A : Type 0} (s : Script (Unit {0}) A) (m w : V) (b : A) → Plays (log_tells view) log_tags (log_hands view) s m w b → (view w).failed ≡ false → (view m).failed ≡ false
  was_well s m w b p f =
      elim (cases_Bool (view m).failed) [
        | inl y ↦ absurd (false≢true (sym f ∙ ap (λ (x : LogSight). x.failed) (stops_still s m w (plays_stops s m w b p) y) ∙ y))
        | inr n ↦ n
      ]

  whole_then : {A : Type 0} (first : List Deed) (acts : List Act) (s : Script (Unit {0}) A) (v m w : LogSight) (b : A) → map act_of first ≡ acts → Did first v m → Whole s m w b → (deeds : List Deed) × (map act_of deeds ≡ acts ++ acts_of v.fixed.moment s) × Did deeds v w × (answer_of s ≡ b)
  whole_then first acts s v m w b e h k = (
    first ++ k.deeds,
    map-append act_of first k.deeds ∙ ap (λ xs. xs ++ map act_of k.deeds) e ∙ ap (λ xs. acts ++ xs) (k.acts ∙ ap (λ (f : Fixed). acts_of f.moment s) h.fixed),
    did_then first k.deeds v m w h k.did,
    k.answers,
  )

  partly_then : {A : Type 0} (first : List Deed) (acts : List Act) (s : Script (Unit {0}) A) (v m w : LogSight) → map act_of first ≡ acts → Did first v m → Partly s m w → (deeds : List Deed) × (map act_of deeds ≡ acts ++ acts_of v.fixed.moment s) × DidSome deeds v w
  partly_then first acts s v m w e h k = (
    first ++ k.deeds,
    map-append act_of first k.deeds ∙ ap (λ xs. xs ++ map act_of k.deeds) e ∙ ap (λ xs. acts ++ xs) (k.acts ∙ ap (λ (f : Fixed). acts_of f.moment s) h.fixed),
    did_then_some first k.deeds v m w h k.did,
  )

  partly_cut : {A : Type 0} (first : List Deed) (acts : List Act) (s : Script (Unit {0}) A) (v m w : LogSight) → map act_of first ≡ acts → DidSome first v m → w ≡ m → (deeds : List Deed) × (map act_of deeds ≡ acts ++ acts_of v.fixed.moment s) × DidSome deeds v w
  partly_cut first acts s v m w e h f = (
    first ++ map unlost (acts_of v.fixed.moment s),
    map-append act_of first (map unlost (acts_of v.fixed.moment s)) ∙ ap (λ xs. xs ++ map act_of (map unlost (acts_of v.fixed.moment s))) e ∙ ap (λ xs. acts ++ xs) (acts_unlost (acts_of v.fixed.moment s)),
    subst (λ (x : LogSight). DidSome (first ++ map unlost (acts_of v.fixed.moment s)) v x) (sym f) (some_more first (acts_of v.fixed.moment s) v m h),
  )

  pub plays_whole : {A : Type 0} (script : Script (Unit {0}) A) (v w : V) (b : A) → Plays (log_tells view) log_tags (log_hands view) script v w b → (view v).failed ≡ false → (view w).failed ≡ false → Whole script (view v) (view w) b
  plays_whole (Done a) v w b p f g = record {
    deeds = [];
    acts = refl;
    did = subst (λ (x : V). Did [] (view v) (view x)) p.0 (did_none (view v) f);
    answers = p.1;
  }
  plays_whole (Tell r s) v w b p f g =
      let here = was_well s p.0 w b p.2 g in
      let k = whole_then (Says (view v).fixed.moment r ∷ []) (Tells (view v).fixed.moment r ∷ []) s (view v) (view p.0) (view w) b refl (told_did (view v) (view p.0) r p.1 f here) (plays_whole s p.0 w b p.2 here g) in
      record { deeds = k.0; acts = k.1; did = k.2; answers = k.3 }
  plays_whole (Ask host octets s) v w b p f g =
      let e = ap view p.2 in
      let here : (view p.0).failed ≡ false = ap (λ (x : LogSight). x.failed) e ∙ f in
      subst (λ (x : LogSight). Whole (Ask host octets s) x (view w) b) e
      (let k = plays_whole (s tt) p.0 w b p.3 here g in record { deeds = k.deeds; acts = k.acts; did = k.did; answers = k.answers })
  plays_whole (Hand link parcel s) v w b p f g =
      let here = was_well s p.0 w b p.2 g in
      let h = handed (view v) (view p.0) link parcel.octets p.1 f in
      let k = whole_then (Gives (view v).fixed.moment link parcel.octets h.gone ∷ []) (Hands (view v).fixed.moment link parcel.octets ∷ []) s (view v) (view p.0) (view w) b refl (h.did here) (plays_whole s p.0 w b p.2 here g) in
      record { deeds = k.0; acts = k.1; did = k.2; answers = k.3 }

  partly_if : {A : Type 0} (first : List Deed) (acts : List Act) (s : Script (Unit {0}) A) (v m w : V) → map act_of first ≡ acts → Stops (log_tells view) log_tags (log_hands view) log_fails s m w → ((view m).failed ≡ false → Did first (view v) (view m)) → ((view m).failed ≡ true → DidSome first (view v) (view m))
      → ((view m).failed ≡ false → Partly s (view m) (view w)) → (deeds : List Deed) × (map act_of deeds ≡ acts ++ acts_of (view v).fixed.moment s) × DidSome deeds (view v) (view w)
  partly_if first acts s v m w e p did some rest =
      elim (cases_Bool (view m).failed) [
        | inl y ↦ partly_cut first acts s (view v) (view m) (view w) e (some y) (stops_still s m w p y)
        | inr n ↦ partly_then first acts s (view v) (view m) (view w) e (did n) (rest n)
      ]

  none_done : {A : Type 0} (script : Script (Unit {0}) A) (v w : V) → view w ≡ view v → (view v).failed ≡ false → Partly script (view v) (view w)
  none_done script v w e f = record {
    deeds = map unlost (acts_of (view v).fixed.moment script);
    acts = acts_unlost (acts_of (view v).fixed.moment script);
    did = subst (λ (x : LogSight). DidSome (map unlost (acts_of (view v).fixed.moment script)) (view v) x) (sym e) (some_none (acts_of (view v).fixed.moment script) (view v) f);
  }

  pub stops_partly : {A : Type 0} (script : Script (Unit {0}) A) (v w : V) → Stops (log_tells view) log_tags (log_hands view) log_fails script v w → (view v).failed ≡ false → Partly script (view v) (view w)
  stops_partly (Done a) v w p f = none_done (Done a) v w (ap view (sym p)) f
  stops_partly (Tell r s) v w (inl p) f = none_done (Tell r s) v w (ap view (sym p)) f
  stops_partly (Tell r s) v w (inr p) f =
      let k = partly_if (Says (view v).fixed.moment r ∷ []) (Tells (view v).fixed.moment r ∷ []) s v p.0 w refl p.2 (told_did (view v) (view p.0) r p.1 f) (told_some (view v) (view p.0) r p.1 f) (stops_partly s p.0 w p.2) in
      record { deeds = k.0; acts = k.1; did = k.2 }
  stops_partly (Ask host octets s) v w (inl p) f = none_done (Ask host octets s) v w (ap view (sym p)) f
  stops_partly (Ask host octets s) v w (inr p) f =
      let e = ap view p.2 in
      let here : (view p.0).failed ≡ false = ap (λ (x : LogSight). x.failed) e ∙ f in
      subst (λ (x : LogSight). Partly (Ask host octets s) x (view w)) e
      (let k = stops_partly (s tt) p.0 w p.3 here in record { deeds = k.deeds; acts = k.acts; did = k.did })
  stops_partly (Hand link parcel s) v w (inl p) f = none_done (Hand link parcel s) v w (ap view (sym p)) f
  stops_partly (Hand link parcel s) v w (inr (inl p)) f = absurd p
  stops_partly (Hand link parcel s) v w (inr (inr p)) f =
      let h = handed (view v) (view p.0) link parcel.octets p.1 f in
      let k = partly_if (Gives (view v).fixed.moment link parcel.octets h.gone ∷ []) (Hands (view v).fixed.moment link parcel.octets ∷ []) s v p.0 w refl p.2 h.did h.some (stops_partly s p.0 w p.2) in
      record { deeds = k.0; acts = k.1; did = k.2 }

  pub ends_stops : {A U E : Type 0} (result : Result U E) (script : Script (Unit {0}) A) (v w : V) (b : A) → LogEnds view result script v w b → Stops (log_tells view) log_tags (log_hands view) log_fails script v w
  ends_stops (Ok done) script v w b h = plays_stops script v w b h
  ends_stops (Err e) script v w b h = h

  -- the moment, the node and the loans stay
  pub ends_fixed : {A U E : Type 0} (result : Result U E) (script : Script (Unit {0}) A) (v w : V) (b : A) → LogEnds view result script v w b → (view v).failed ≡ false → (view w).fixed ≡ (view v).fixed
  ends_fixed result script v w b h f = (stops_partly script v w (ends_stops result script v w b h) f).did.fixed

-- It is the same sink, and what it had passed on stays there.
stopped_sink : (stop : Stop) (text : List ℕ) (a b : SinkSight) → StopsIn text stop a b → (b.identity ≡ a.identity) × Grows a.reached b.reached
stopped_sink stops.NoMemory text a b h = (h.1.identity, h.1.reached)
stopped_sink stops.WriteFault text a b h = (h.identity, h.reached)

module _ {V : Type 0} (view : V → LogSight) where
  pub ends_sink : {A U E : Type 0} (result : Result U E) (script : Script (Unit {0}) A) (v w : V) (b : A) → LogEnds view result script v w b → (view v).failed ≡ false → ((view w).out.identity ≡ (view v).out.identity) × Grows (view v).out.reached (view w).out.reached
  ends_sink result script v w b h f = let k = (stops_partly view script v w (ends_stops view result script v w b h) f).did in stopped_sink (stop_by (view w).failed) _ (view v).out (view w).out k.out

-- a part that was written, and the cause
some_held : (text : List ℕ) (stop : Stop) (a b : SinkSight) → StopsIn text stop a b → ((count : ℕ) × Appends a.held b.held (take count text)) × FaultsBy stop a.faults b.faults
some_held text stops.NoMemory a b h = ((h.0, h.1.held), h.1.faults)
some_held text stops.WriteFault a b h = ((h.count, h.held), h.faults)

-- what a turn that ended well answers, by either name
abbrev answered : Bool → Node → Option Node
answered stopped node = codes.turned {E = NoMemory} (Ok stopped) node

same_answer : (stopped : Bool) (node : Node) → answered stopped node ≡ turned (Ok stopped) node
same_answer true node = refl
same_answer false node = refl

-- A turn by what it leaves.
module _ {V : Type 0} (view : V → LogSight) where
  turn_stops : {A : Type 0} (stop : Stop) (failed : Bool) (script : Script (Unit {0}) A) (v w : V) → Stops (log_tells view) log_tags (log_hands view) log_fails script v w → (view v).failed ≡ false → (view w).failed ≡ failed → stop_by failed ≡ stop →
      (deeds : List Deed) × (map act_of deeds ≡ acts_of (view v).fixed.moment script) × WroteSome (view v).fixed.form (view v).fixed.me [] deeds stop (scene (view v).gives (view v).wire (view v).out) (scene (view w).gives (view w).wire (view w).out)
  turn_stops stop failed script v w h f g e =
      let k = stops_partly view script v w h f in
      let text = deeds_text (view v).fixed.form (view v).gives (view v).fixed.me k.deeds in
      let out = subst (λ (s : Stop). StopsIn text s (view v).out (view w).out) (ap stop_by g ∙ e) k.did.out in
      let part = some_held text stop (view v).out (view w).out out in
      (k.deeds, k.acts, record { held = part.0; faults = part.1; wire = k.did.wire })

  pub turn_ends : (failed : Bool) (done : Result Bool NoMemory) (script : Script (Unit {0}) (Option Node)) (v w : V) (node : Node) → LogEnds view done script v w (codes.turned done node) → (view v).failed ≡ false → (view w).failed ≡ failed →
      TurnEnds (ended_by failed done) (view v).fixed.form (view v).fixed.me (view v).fixed.moment [] script (turned (ended_by failed done) node) (scene (view v).gives (view v).wire (view v).out) (scene (view w).gives (view w).wire (view w).out)
  turn_ends true done script v w node h f g = turn_stops stops.WriteFault true script v w (ends_stops view done script v w (codes.turned done node) h) f g refl
  turn_ends false (Ok stopped) script v w node h f g =
      let k = plays_whole view script v w (answered stopped node) h f g in
      (k.deeds, k.acts, record { gives = k.did.gives; held = k.did.out.held; faults = k.did.out.faults; wire = k.did.wire }, k.answers ∙ same_answer stopped node)
  turn_ends false (Err fault) script v w node h f g = turn_stops stops.NoMemory false script v w h f g refl

-- WHAT A TURN LEAVES OF ITS NODE
module _ (o : Orders) (now : ℕ) where
  -- where a line couldn't be written
  pub leaves_fault : (node : coded.Node) → Leaves o now (Err stops.WriteFault) node
  leaves_fault node = record { ready = tt; going = tt; memory = λ e. absurd (false≢true e) }

  -- by what the turn itself leaves
  pub leaves_ended : (failed : Bool) (done : Result Bool NoMemory) (node : coded.Node) → OnOk done (IsReady o now node) → IfOk done (λ stopped. stopped ≡ false → now < o.stop) → OnErr done (node.io.station.spent ≡ true) → Leaves o now (ended_by failed done) node
  leaves_ended true done node ready going memory = leaves_fault node
  leaves_ended false (Ok stopped) node ready going memory = record { ready = ready; going = going; memory = λ e. absurd (false≢true e) }
  leaves_ended false (Err fault) node ready going memory = record { ready = tt; going = tt; memory = λ e. memory }

  -- after its lines were put, or not
  pub leaves_put : (turn result : Result Bool Stop) (node : coded.Node) → IfOk result (λ stopped. turn ≡ Ok stopped) → (wants_memory result ≡ true → wants_memory turn ≡ true) → Leaves o now turn node → Leaves o now result node
  leaves_put turn (Ok stopped) node same wants h = subst (λ (r : Result Bool Stop). Leaves o now r node) same h
  leaves_put turn (Err stop) node same wants h = record { ready = tt; going = tt; memory = λ e. h.memory (wants e) }
