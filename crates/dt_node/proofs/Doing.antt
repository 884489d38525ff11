-- Deeds one after another.
use Rattle.std.proofs.Common.{◌≡◌, ℕ, ◌+◌, ◌<◌, ◌≤◌, Bool, true, false, List, [], ◌∷◌, ◌++◌, length, take, map, Option, Some, None, refl, sym, ap, subst, ◌∙◌, arith, length-append, take_all}
use Rattle.std.specs.Option.{IfSome}
use Rattle.std.proofs.lemmas.List.{append-nil, map-append}
use Rattle.std.proofs.lemmas.Bool.{false≢true}
use Rattle.std.proofs.lemmas.List.Concat.{flat_map-append}
use Rattle.dt_edges.specs.Counts.{is_planned, last_count, next_count}
use Rattle.dt_edges.specs.Sinks.{SinkSight, Takes}
use Rattle.dt_edges.specs.Telling.{NotesAll}
use Rattle.dt_edges.specs.Wires.{Datagram, Plan, SameTaking, WireSight}
use Rattle.dt_edges.proofs.Puts.{takes_as, takes_nothing, takes_then}
use Rattle.dt_reports.specs.Told.{Told}
use Rattle.dt_log.specs.Logs.{entry_text, log_text}
use Rattle.dt_fold.specs.Logging.{StopsIn}
use Rattle.dt_fold.proofs.Stopping.{stops_after, stops_as, stops_more}
use Rattle.dt_node.specs.Acts.{Act, Tells, Hands, Deed, Says, Gives, act_of, log_lines, lines_of_deed, sent_frames, sent_by, node_frames, frames_of_act, fates, fates_by}
use Rattle.dt_node.specs.Logging.{Fixed, GaveBy, HandsIf, LogHands, LogSight, LogTells, TellsIf, UnsentIf, WroteBy, lost_text, told_text}
use Rattle.dt_trace.specs.Inputs.{FailedGive, input_text, trace_text}
use Rattle.dt_node.specs.declared.output_forms.OutputForm.{OutputForm}
use Rattle.dt_node.specs.declared.output_forms.OutputForm.TheVariants as forms
use Rattle.dt_node.specs.Deeds.{counted, deeds_text, lost_numbers, lost, count_true, FatesFrom, Gave, GaveSome, Did, DidSome, Sublist, stop_by, unlost}
use Rattle.dt_node.proofs.Noting.{notes_none, notes_then, sub_all, sub_none, sub_then, fates_then, count_append}

pub log_more : (me : ℕ) (a b : List Deed) → log_text (log_lines me (a ++ b)) ≡ log_text (log_lines me a) ++ log_text (log_lines me b)
log_more me a b = ap log_text (flat_map-append (lines_of_deed me) a b) ∙ flat_map-append entry_text (log_lines me a) (log_lines me b)

pub fates_more : (a b : List Deed) → fates (a ++ b) ≡ fates a ++ fates b
fates_more a b = flat_map-append fates_by a b

pub counted_more : (n : ℕ) (a b : List Bool) → counted n (a ++ b) ≡ counted (counted n a) b
counted_more n [] b = refl
counted_more n (gone ∷ a) b = counted_more (next_count n) a b

pub numbers_more : (n : ℕ) (a b : List Bool) → lost_numbers n (a ++ b) ≡ lost_numbers n a ++ lost_numbers (counted n a) b
numbers_more n [] b = refl
numbers_more n (true ∷ a) b = ap (λ (xs : List ℕ). next_count n ∷ xs) (numbers_more (next_count n) a b)
numbers_more n (false ∷ a) b = numbers_more (next_count n) a b

-- WHAT IS WRITTEN of deeds one after another
pub text_more : (form : OutputForm) (gives me : ℕ) (a b : List Deed) → deeds_text form gives me (a ++ b) ≡ deeds_text form gives me a ++ deeds_text form (counted gives (fates a)) me b
text_more forms.Log gives me a b = log_more me a b
text_more forms.Trace gives me a b =
    ap (λ (fs : List Bool). trace_text (map FailedGive (lost_numbers gives fs))) (fates_more a b)
    ∙ ap (λ (ns : List ℕ). trace_text (map FailedGive ns)) (numbers_more gives (fates a) (fates b))
    ∙ ap trace_text (map-append FailedGive (lost_numbers gives (fates a)) (lost_numbers (counted gives (fates a)) (fates b)))
    ∙ flat_map-append input_text (map FailedGive (lost_numbers gives (fates a))) (map FailedGive (lost_numbers (counted gives (fates a)) (fates b)))

text_none : (form : OutputForm) (gives me : ℕ) → deeds_text form gives me [] ≡ []
text_none forms.Log gives me = refl
text_none forms.Trace gives me = refl

told_line : (form : OutputForm) (fixed : Fixed) (gives : ℕ) (told : Told) → deeds_text form gives fixed.me (Says fixed.moment told ∷ []) ≡ told_text form fixed told ++ []
told_line forms.Log fixed gives told = refl
told_line forms.Trace fixed gives told = refl

lost_line : (form : OutputForm) (fixed : Fixed) (gives link : ℕ) (octets : List ℕ) → deeds_text form gives fixed.me (Gives fixed.moment link octets true ∷ []) ≡ lost_text form fixed (next_count gives) link ++ []
lost_line forms.Log fixed gives link octets = refl
lost_line forms.Trace fixed gives link octets = refl

kept_line : (form : OutputForm) (gives me moment link : ℕ) (octets : List ℕ) → [] ≡ deeds_text form gives me (Gives moment link octets false ∷ [])
kept_line forms.Log gives me moment link octets = refl
kept_line forms.Trace gives me moment link octets = refl

pub lost_more : (a b : List Deed) → lost (a ++ b) ≡ lost a + lost b
lost_more a b = ap count_true (fates_more a b) ∙ count_append (fates a) (fates b)

pub number_more : (a b : List Deed) → length (fates (a ++ b)) ≡ length (fates a) + length (fates b)
number_more a b = ap length (fates_more a b) ∙ length-append (fates a) (fates b)

pub sent_more : (a b : List Deed) → sent_frames (a ++ b) ≡ sent_frames a ++ sent_frames b
sent_more a b = flat_map-append sent_by a b

pub frames_more : (a b : List Act) → node_frames (a ++ b) ≡ node_frames a ++ node_frames b
frames_more a b = flat_map-append frames_of_act a b

pub same_then : (u v w : WireSight) → SameTaking u v → SameTaking v w → SameTaking u w
same_then u v w h k = record {
  taken = k.taken ∙ h.taken;
  opening = k.opening ∙ h.opening;
  plan = k.plan ∙ h.plan;
  takes = k.takes ∙ h.takes;
  used = k.used ∙ h.used;
  take_faults = k.take_faults ∙ h.take_faults;
  opens = k.opens ∙ h.opens;
  last_wait = k.last_wait ∙ h.last_wait;
}

pub same_here : (w : WireSight) → SameTaking w w
same_here w = record { taken = refl; opening = refl; plan = refl; takes = refl; used = refl; take_faults = refl; opens = refl; last_wait = refl }

pub plan_then : (a b : List Deed) (p q : Option Plan) (n m : ℕ) → q ≡ p → (n + length (fates a) ≤ last_count → m ≡ n + length (fates a)) → IfSome p (λ p. n + length (fates a) ≤ last_count → FatesFrom p.failing_gives n (fates a)) → IfSome q (λ p. m + length (fates b) ≤ last_count → FatesFrom p.failing_gives m (fates b)) → IfSome p (λ p. n + length (fates (a ++ b)) ≤ last_count → FatesFrom p.failing_gives n (fates (a ++ b)))
plan_then a b None q n m e f h k = tt
plan_then a b (Some p) q n m e f h k = λ few.
    let j = rw e at k in
    let many = number_more a b in
    let less : n + length (fates a) ≤ last_count = omega arith in
    let here : m ≡ n + length (fates a) = f less in
    let first = h less in
    let second = j (omega arith) in
    subst (λ (f : List Bool). FatesFrom p.failing_gives n f) (sym (fates_more a b)) (fates_then p.failing_gives n (fates a) (fates b) first (subst (λ (x : ℕ). FatesFrom p.failing_gives x (fates b)) here second))

pub gives_then : (a b : List Deed) (u v w : ℕ) → (u + length (fates a) ≤ last_count → v ≡ u + length (fates a)) → (v + length (fates b) ≤ last_count → w ≡ v + length (fates b)) → u + length (fates (a ++ b)) ≤ last_count → w ≡ u + length (fates (a ++ b))
gives_then a b u v w h k few =
    let many = number_more a b in
    let one : v ≡ u + length (fates a) = h (omega arith) in
    let two : w ≡ v + length (fates b) = k (omega arith) in
    omega arith

pub gave_none : (w : WireSight) → Gave [] w w
gave_none w = record {
  given = notes_none w.given;
  lost = omega arith;
  gives = λ few. omega arith;
  plan = elim w.plan as (λ p. IfSome p (λ p. w.gives + 0 ≤ last_count → FatesFrom p.failing_gives w.gives [])) [ None ↦ tt | Some p ↦ λ h. tt ];
  same = same_here w;
}

pub gave_then : (a b : List Deed) (u v w : WireSight) → Gave a u v → Gave b v w → Gave (a ++ b) u w
gave_then a b u v w h k = record {
  given = subst (λ (fs : List Datagram). NotesAll fs u.given w.given) (sym (flat_map-append sent_by a b)) (notes_then (sent_frames a) (sent_frames b) u.given v.given w.given h.given k.given);
  lost = omega (arith, lost_more a b, h.lost, k.lost);
  gives = gives_then a b u.gives v.gives w.gives h.gives k.gives;
  plan = plan_then a b u.plan v.plan u.gives v.gives h.same.plan h.gives h.plan k.plan;
  same = same_then u v w h.same k.same;
}

-- the form and the node stay
text_as : (deeds : List Deed) (f g : Fixed) (n m : ℕ) → f ≡ g → n ≡ m → deeds_text f.form n f.me deeds ≡ deeds_text g.form m g.me deeds
text_as deeds f g n m e k = ap (λ (x : Fixed). deeds_text x.form n x.me deeds) e ∙ ap (λ (n : ℕ). deeds_text g.form n g.me deeds) k

pub did_then : (a b : List Deed) (s t u : LogSight) → Did a s t → Did b t u → Did (a ++ b) s u
did_then a b s t u h k = record {
  fixed = k.fixed ∙ h.fixed;
  gives = k.gives ∙ ap (λ (n : ℕ). counted n (fates b)) h.gives ∙ sym (counted_more s.gives (fates a) (fates b)) ∙ ap (counted s.gives) (sym (fates_more a b));
  failed = k.failed;
  out = takes_as _ _ s.out u.out (sym (text_more s.fixed.form s.gives s.fixed.me a b))
      (takes_then (deeds_text s.fixed.form s.gives s.fixed.me a) (deeds_text s.fixed.form (counted s.gives (fates a)) s.fixed.me b) s.out t.out u.out h.out
      (takes_as _ _ t.out u.out (text_as b t.fixed s.fixed t.gives (counted s.gives (fates a)) h.fixed h.gives) k.out));
  wire = gave_then a b s.wire t.wire u.wire h.wire k.wire;
}

pub did_none : (s : LogSight) → s.failed ≡ false → Did [] s s
did_none s f = record { fixed = refl; gives = refl; failed = f; out = takes_as _ _ s.out s.out (sym (text_none s.fixed.form s.gives s.fixed.me)) (takes_nothing s.out); wire = gave_none s.wire }

-- what wasn't done counts as not lost
lost_unlost : (acts : List Act) → lost (map unlost acts) ≡ 0
lost_unlost [] = refl
lost_unlost (Tells moment told ∷ acts) = lost_unlost acts
lost_unlost (Hands moment link octets ∷ acts) = lost_unlost acts

pub acts_unlost : (acts : List Act) → map act_of (map unlost acts) ≡ acts
acts_unlost [] = refl
acts_unlost (Tells moment told ∷ acts) = ap (λ (xs : List Act). Tells moment told ∷ xs) (acts_unlost acts)
acts_unlost (Hands moment link octets ∷ acts) = ap (λ (xs : List Act). Hands moment link octets ∷ xs) (acts_unlost acts)

pub sent_sub : (deeds : List Deed) → Sublist (sent_frames deeds) (node_frames (map act_of deeds))
sent_sub [] = sub_none []
sent_sub (Says moment told ∷ deeds) = sent_sub deeds
sent_sub (Gives moment link octets true ∷ deeds) = sub_then (sub_none (record { link = link; octets = octets } ∷ [])) (sent_sub deeds)
sent_sub (Gives moment link octets false ∷ deeds) = sub_then (sub_all (record { link = link; octets = octets } ∷ [])) (sent_sub deeds)

pub acts_more : (a b : List Deed) → node_frames (map act_of (a ++ b)) ≡ node_frames (map act_of a) ++ node_frames (map act_of b)
acts_more a b = ap node_frames (map-append act_of a b) ∙ frames_more (map act_of a) (map act_of b)

pub gave_some : (deeds : List Deed) (w v : WireSight) → Gave deeds w v → GaveSome deeds w v
gave_some deeds w v h = record { frames = sent_frames deeds; some = sent_sub deeds; given = h.given; lost = h.lost; same = h.same }

gave_then_some : (a b : List Deed) (u v w : WireSight) → Gave a u v → GaveSome b v w → GaveSome (a ++ b) u w
gave_then_some a b u v w h k = record {
  frames = sent_frames a ++ k.frames;
  some = subst (λ (fs : List Datagram). Sublist (sent_frames a ++ k.frames) fs) (sym (acts_more a b)) (sub_then (sent_sub a) k.some);
  given = notes_then (sent_frames a) k.frames u.given v.given w.given h.given k.given;
  lost = omega (arith, lost_more a b, h.lost, k.lost);
  same = same_then u v w h.same k.same;
}

pub some_more_given : (a : List Deed) (acts : List Act) (w v : WireSight) → GaveSome a w v → GaveSome (a ++ map unlost acts) w v
some_more_given a acts w v h = record {
  frames = h.frames;
  some = subst (λ (fs : List Datagram). Sublist h.frames fs) (sym (acts_more a (map unlost acts)))
      (subst (λ (xs : List Datagram). Sublist xs (node_frames (map act_of a) ++ node_frames (map act_of (map unlost acts)))) (append-nil h.frames) (sub_then h.some (sub_none (node_frames (map act_of (map unlost acts))))));
  given = h.given;
  lost = omega (arith, lost_more a (map unlost acts), lost_unlost acts, h.lost);
  same = h.same;
}

-- all of a text, as a first part of it
taken_all : (text : List ℕ) (a b : SinkSight) → Takes text a b → StopsIn text (stop_by false) a b
taken_all text a b h = (length text, takes_as text (take (length text) text) a b (sym (take_all (length text) text (omega arith))) h)

pub did_some : (deeds : List Deed) (s t : LogSight) → Did deeds s t → DidSome deeds s t
did_some deeds s t h = record {
  fixed = h.fixed;
  out = subst (λ (f : Bool). StopsIn (deeds_text s.fixed.form s.gives s.fixed.me deeds) (stop_by f) s.out t.out) (sym h.failed) (taken_all (deeds_text s.fixed.form s.gives s.fixed.me deeds) s.out t.out h.out);
  wire = gave_some deeds s.wire t.wire h.wire;
}

pub did_then_some : (a b : List Deed) (s t u : LogSight) → Did a s t → DidSome b t u → DidSome (a ++ b) s u
did_then_some a b s t u h k = record {
  fixed = k.fixed ∙ h.fixed;
  out = stops_as (stop_by u.failed) _ _ s.out u.out (sym (text_more s.fixed.form s.gives s.fixed.me a b))
      (stops_after (stop_by u.failed) (deeds_text s.fixed.form s.gives s.fixed.me a) (deeds_text s.fixed.form (counted s.gives (fates a)) s.fixed.me b) s.out t.out u.out h.out
      (stops_as (stop_by u.failed) _ _ t.out u.out (text_as b t.fixed s.fixed t.gives (counted s.gives (fates a)) h.fixed h.gives) k.out));
  wire = gave_then_some a b s.wire t.wire u.wire h.wire k.wire;
}

pub some_more : (a : List Deed) (acts : List Act) (s t : LogSight) → DidSome a s t → DidSome (a ++ map unlost acts) s t
some_more a acts s t h = record {
  fixed = h.fixed;
  out = stops_as (stop_by t.failed) _ _ s.out t.out (sym (text_more s.fixed.form s.gives s.fixed.me a (map unlost acts)))
      (stops_more (stop_by t.failed) (deeds_text s.fixed.form s.gives s.fixed.me a) (deeds_text s.fixed.form (counted s.gives (fates a)) s.fixed.me (map unlost acts)) s.out t.out h.out);
  wire = some_more_given a acts s.wire t.wire h.wire;
}

pub some_none : (acts : List Act) (s : LogSight) → s.failed ≡ false → DidSome (map unlost acts) s s
some_none acts s f = some_more [] acts s s (did_some [] s s (did_none s f))

-- ONE LINE, ONE FRAME

gave_said : (moment : ℕ) (told : Told) (w : WireSight) → Gave (Says moment told ∷ []) w w
gave_said moment told w = let n = gave_none w in record { given = n.given; lost = n.lost; gives = n.gives; plan = n.plan; same = n.same }

-- a line that was written whole, and one that was cut
line_did : (deeds : List Deed) (line : List ℕ) (s t : LogSight) → deeds_text s.fixed.form s.gives s.fixed.me deeds ≡ line ++ [] → t.fixed ≡ s.fixed → t.gives ≡ counted s.gives (fates deeds) → t.failed ≡ false → WroteBy t.failed line s.out t.out → Gave deeds s.wire t.wire → Did deeds s t
line_did deeds line s t e x n g k w = record {
  fixed = x;
  gives = n;
  failed = g;
  out = takes_as line _ s.out t.out (sym (e ∙ append-nil line)) (subst (λ (b : Bool). WroteBy b line s.out t.out) g k);
  wire = w;
}

line_some : (deeds : List Deed) (line : List ℕ) (s t : LogSight) → deeds_text s.fixed.form s.gives s.fixed.me deeds ≡ line ++ [] → t.fixed ≡ s.fixed → t.failed ≡ true → WroteBy t.failed line s.out t.out → GaveSome deeds s.wire t.wire → DidSome deeds s t
line_some deeds line s t e x g k w = record {
  fixed = x;
  out = stops_as (stop_by t.failed) line _ s.out t.out (sym (e ∙ append-nil line))
      (subst (λ (b : Bool). StopsIn line (stop_by b) s.out t.out) (sym g) (subst (λ (b : Bool). WroteBy b line s.out t.out) g k));
  wire = w;
}

told_wire : (s t : LogSight) (told : Told) → t.wire ≡ s.wire → Gave (Says s.fixed.moment told ∷ []) s.wire t.wire
told_wire s t told e = subst (λ (w : WireSight). Gave (Says s.fixed.moment told ∷ []) s.wire w) (sym e) (gave_said s.fixed.moment told s.wire)

pub told_did : (s t : LogSight) (told : Told) → LogTells s told t → s.failed ≡ false → t.failed ≡ false → Did (Says s.fixed.moment told ∷ []) s t
told_did s t told h f g =
    let k = subst (λ (b : Bool). TellsIf b told s t) f h in
    line_did (Says s.fixed.moment told ∷ []) (told_text s.fixed.form s.fixed told) s t (told_line s.fixed.form s.fixed s.gives told) k.0 k.1 g k.3 (told_wire s t told k.2)

pub told_some : (s t : LogSight) (told : Told) → LogTells s told t → s.failed ≡ false → t.failed ≡ true → DidSome (Says s.fixed.moment told ∷ []) s t
told_some s t told h f g =
    let k = subst (λ (b : Bool). TellsIf b told s t) f h in
    line_some (Says s.fixed.moment told ∷ []) (told_text s.fixed.form s.fixed told) s t (told_line s.fixed.form s.fixed s.gives told) k.0 g k.3 (gave_some (Says s.fixed.moment told ∷ []) s.wire t.wire (told_wire s t told k.2))

-- whether a give fails by the plan
plan_one : (p : Option Plan) (gone : Bool) (calls : ℕ) → IfSome p (λ p. calls < last_count → is_planned p.failing_gives (calls + 1) ≡ gone) → IfSome p (λ p. calls + 1 ≤ last_count → FatesFrom p.failing_gives calls (gone ∷ []))
plan_one None gone calls h = tt
plan_one (Some p) gone calls h = λ few. (sym (h (omega arith)), tt)

gave_one : (moment link : ℕ) (octets : List ℕ) (gone : Bool) (w v : WireSight) → GaveBy gone (record { link = link; octets = octets }) w v → Gave (Gives moment link octets gone ∷ []) w v
gave_one moment link octets true w v h = record {
  given = subst (λ (g : Option (List Datagram)). NotesAll [] w.given g) (sym h.given) (notes_none w.given);
  lost = h.faults;
  gives = λ few. omega (arith, h.gives);
  plan = plan_one w.plan true w.gives h.plan;
  same = h.same;
}
gave_one moment link octets false w v h = record {
  given = h.given;
  lost = omega (arith, h.faults);
  gives = λ few. omega (arith, h.gives);
  plan = plan_one w.plan false w.gives h.plan;
  same = h.same;
}

-- a frame that was handed out, as it was done
pub record Handed (link : ℕ) (octets : List ℕ) (s t : LogSight) : Type 0 where
  pub gone : Bool
  pub did : t.failed ≡ false → Did (Gives s.fixed.moment link octets gone ∷ []) s t
  pub some : t.failed ≡ true → DidSome (Gives s.fixed.moment link octets gone ∷ []) s t

handed_by : (link : ℕ) (octets : List ℕ) (s t : LogSight) (gone : Bool) → t.fixed ≡ s.fixed → t.gives ≡ next_count s.gives → GaveBy gone (record { link = link; octets = octets }) s.wire t.wire → UnsentIf gone link s t → Handed link octets s t
handed_by link octets s t true x n w u =
    let deeds = Gives s.fixed.moment link octets true ∷ [] in
    let gave = gave_one s.fixed.moment link octets true s.wire t.wire w in
    let line = lost_text s.fixed.form s.fixed (next_count s.gives) link in
    let wrote = subst (λ (number : ℕ). WroteBy t.failed (lost_text s.fixed.form s.fixed number link) s.out t.out) n u in
    let text = lost_line s.fixed.form s.fixed s.gives link octets in
    record {
      gone = true;
      did = λ g. line_did deeds line s t text x n g wrote gave;
      some = λ g. line_some deeds line s t text x g wrote (gave_some deeds s.wire t.wire gave);
    }
handed_by link octets s t false x n w u = record {
  gone = false;
  did = λ g. record {
    fixed = x;
    gives = n;
    failed = g;
    out = takes_as _ _ s.out t.out (kept_line s.fixed.form s.gives s.fixed.me s.fixed.moment link octets) (subst (λ (o : SinkSight). Takes [] s.out o) (sym u.1) (takes_nothing s.out));
    wire = gave_one s.fixed.moment link octets false s.wire t.wire w;
  };
  some = λ g. absurd (false≢true (sym u.0 ∙ g));
}

pub handed : (s t : LogSight) (link : ℕ) (octets : List ℕ) → LogHands s link octets t → s.failed ≡ false → Handed link octets s t
handed s t link octets h f =
    let k = subst (λ (b : Bool). HandsIf b link octets s t) f h in
    handed_by link octets s t k.0 k.1 k.2 k.3 k.4
