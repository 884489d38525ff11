-- What is kept of wire and clock, call after call.
use Rattle.std.proofs.Common.{◌≡◌, ℕ, ◌+◌, ◌<◌, ◌≤◌, false, nat_lt, List, [], ◌∷◌, ◌++◌, length, Option, Some, None, refl, sym, ap, subst, ◌∙◌, arith, min, zero-add, length-append, inl, inr}
use Rattle.std.proofs.lemmas.Bool.{cases_Bool}
use borrow.Author.Tests.{ltb-true, ltb-false}
use borrow.Author.Count.{below_more}
use Rattle.std.proofs.lemmas.Option.{slice_get_past}
use Rattle.std.proofs.lemmas.List.FromFn.{map-range_with_len_more}
use Rattle.std.specs.Option.{IfSome, IsSome, option_and_then}
use Rattle.dt_edges.specs.Clocks.{ClockSight, ReadsOne, reading_at}
use Rattle.dt_edges.specs.Counts.{is_planned, last_count}
use Rattle.dt_edges.specs.Telling.{Notes, NotesAll}
use Rattle.dt_edges.specs.Wires.{Datagram, Opening, OpensOne, Plan, SameGiving, SameLists, SameTaking, TakesOne, WireSight, cut_to, entry_at, used_after}
use Rattle.dt_trace.specs.Lines.{most_taken}
use Rattle.dt_node.specs.Acts.{Deed, sent_frames, fates}
use Rattle.dt_node.specs.Deeds.{Gave, lost, FatesFrom}
use Rattle.dt_node.specs.Serving.{first_readings, first_entries, NoneFails}
use Rattle.dt_node.proofs.Noting.{notes_none, notes_then}
use Rattle.dt_node.proofs.Doing.{gave_none, gives_then, plan_then, lost_more, sent_more}

-- THE CLOCK

pub record Read (readings : List ℕ) (b c : ClockSight) : Type 0 where
  pub told : NotesAll readings b.readings c.readings
  pub plan : c.plan ≡ b.plan
  pub planned : IfSome b.plan (λ p. b.readings ≡ Some [] → length readings < last_count → (c.readings ≡ Some readings) × (readings ≡ first_readings p (length readings)))

pub read_none : (b : ClockSight) → Read [] b b
read_none b = record {
  told = notes_none b.readings;
  plan = refl;
  planned = elim b.plan as (λ p. IfSome p (λ p. b.readings ≡ Some [] → length {A = ℕ} [] < last_count → (b.readings ≡ Some []) × ([] ≡ first_readings p (length {A = ℕ} [])))) [ None ↦ tt | Some p ↦ λ fresh few. (fresh, refl) ];
}

notes_some : (r : ℕ) (rs : List ℕ) (before after : Option (List ℕ)) → before ≡ Some rs → Notes r before after → IsSome after → after ≡ Some (rs ++ r ∷ [])
notes_some r rs before None e h s = absurd (cc)
notes_some r rs before (Some xs) e h s =
    let same : Some h.0 ≡ Some rs = sym h.1 ∙ e in
    let k : h.0 ≡ rs = cc in
    ap Some (h.2 ∙ ap (λ ys. ys ++ r ∷ []) k)

one_more : (rs : List ℕ) (r : ℕ) → length (rs ++ r ∷ []) ≡ length rs + 1
one_more rs r = length-append rs (r ∷ [])

planned_more : (rs : List ℕ) (r : ℕ) (p : List ℕ) (fresh : Option (List ℕ)) (c d : Option (List ℕ)) → Notes r c d → IfSome c (λ before. r ≡ reading_at p (length before)) → IfSome c (λ before. length before + 1 < last_count → IsSome d) →
    (fresh ≡ Some [] → length rs < last_count → (c ≡ Some rs) × (rs ≡ first_readings p (length rs))) → fresh ≡ Some [] → length (rs ++ r ∷ []) < last_count → (d ≡ Some (rs ++ r ∷ [])) × (rs ++ r ∷ [] ≡ first_readings p (length (rs ++ r ∷ [])))
planned_more rs r p fresh c d n v t h f few =
    let more = one_more rs r in
    let k = h f (omega arith) in
    let value = subst (λ (c : Option (List ℕ)). IfSome c (λ before. r ≡ reading_at p (length before))) k.0 v in
    let tells = subst (λ (c : Option (List ℕ)). IfSome c (λ before. length before + 1 < last_count → IsSome d)) k.0 t in (
      notes_some r rs c d k.0 n (tells (omega arith)),
      ap (λ xs. xs ++ r ∷ []) k.1 ∙ ap (λ x. first_readings p (length rs) ++ x ∷ []) value ∙ sym (map-range_with_len_more (reading_at p) 0 (length rs) (length rs) (zero-add (length rs))) ∙ ap (first_readings p) (sym more),
    )

planned_if : (rs : List ℕ) (r : ℕ) (b c : Option (List ℕ)) (fresh before after : Option (List ℕ)) → c ≡ b → Notes r before after → IfSome c (λ p. IfSome before (λ before. r ≡ reading_at p (length before))) → IfSome c (λ p. IfSome before (λ before. length before + 1 < last_count → IsSome after)) →
    IfSome b (λ p. fresh ≡ Some [] → length rs < last_count → (before ≡ Some rs) × (rs ≡ first_readings p (length rs))) → IfSome b (λ p. fresh ≡ Some [] → length (rs ++ r ∷ []) < last_count → (after ≡ Some (rs ++ r ∷ [])) × (rs ++ r ∷ [] ≡ first_readings p (length (rs ++ r ∷ []))))
planned_if rs r None c fresh before after e n v t h = tt
planned_if rs r (Some p) c fresh before after e n v t h = planned_more rs r p fresh before after n (rw e at v) (rw e at t) h

pub read_more : (rs : List ℕ) (r : ℕ) (b c d : ClockSight) → Read rs b c → ReadsOne r c d → Read (rs ++ r ∷ []) b d
read_more rs r b c d h k = record {
  told = notes_then rs (r ∷ []) b.readings c.readings d.readings h.told k.readings;
  plan = k.plan ∙ h.plan;
  planned = planned_if rs r b.plan c.plan b.readings c.readings d.readings h.plan k.readings k.by_plan k.tells h.planned;
}

-- THE TAKES

pub record PlannedTakes (p : Plan) (takes : List (Option Datagram)) (now : ℕ) : Type 0 where
  pub entries : takes ≡ first_entries p (length takes)
  pub well : NoneFails p.failing_takes (length takes)
  pub used : now ≡ min (length takes) (length p.entries)

pub record Taken (o : Opening) (takes : List (Option Datagram)) (b v : WireSight) : Type 0 where
  pub taken : NotesAll takes b.taken v.taken
  pub faults : v.take_faults ≡ b.take_faults
  pub opening : IfSome v.opening (λ now. now ≡ Some o)
  pub plan : v.plan ≡ b.plan
  pub opened : IfSome b.plan (λ p. p.open_fails ≡ false)
  pub count : b.takes + length takes ≤ last_count → v.takes ≡ b.takes + length takes
  pub planned : IfSome b.plan (λ p. b.takes ≡ 0 → b.used ≡ 0 → length takes ≤ last_count → PlannedTakes p takes v.used)

nothing_planned : (p : Plan) (b u : ℕ) → u ≡ b → b ≡ 0 → PlannedTakes p [] u
nothing_planned p b u e z = record { entries = refl; well = λ k h. absurd (omega arith); used = omega arith }

pub taken_none : (o : Opening) (b v : WireSight) → OpensOne o b v → Taken o [] b v
taken_none o b v h = record {
  taken = subst (λ (t : Option (List (Option Datagram))). NotesAll [] b.taken t) (sym h.same.taken) (notes_none b.taken);
  faults = h.faults;
  opening = h.told;
  plan = h.same.plan;
  opened = h.plan;
  count = λ few. omega (arith, h.same.takes);
  planned = elim b.plan as (λ p. IfSome p (λ p. b.takes ≡ 0 → b.used ≡ 0 → length {A = Option Datagram} [] ≤ last_count → PlannedTakes p [] v.used)) [ None ↦ tt | Some p ↦ λ f u few. nothing_planned p b.used v.used h.same.used u ];
}

-- an entry past the last is none
entry_min : (p : Plan) (n : ℕ) → entry_at p.entries (min n (length p.entries)) ≡ entry_at p.entries n
entry_min p n =
    elim (cases_Bool (nat_lt n (length p.entries))) [
      | inl y ↦ let e : min n (length p.entries) ≡ n = omega (arith, ltb-true _ _ y) in ap (entry_at p.entries) e
      | inr k ↦
          let past : length p.entries ≤ n = omega (arith, ltb-false _ _ k) in
          let e : min n (length p.entries) ≡ length p.entries = omega arith in
          ap (entry_at p.entries) e ∙ ap (λ x. option_and_then (λ entry. entry) x) (slice_get_past p.entries (length p.entries) (omega arith) ∙ sym (slice_get_past p.entries n past))
    ]

used_more : (p : Plan) (n used : ℕ) → used ≡ min n (length p.entries) → used_after p.entries used ≡ min (n + 1) (length p.entries)
used_more p n used e =
    elim (cases_Bool (nat_lt used (length p.entries))) [
      | inl y ↦ let l = ltb-true _ _ y in rw y (omega arith)
      | inr k ↦ let l = ltb-false _ _ k in rw k (omega arith)
    ]

entries_more : (p : Plan) (takes : List (Option Datagram)) (t : Option Datagram) (calls used used' : ℕ) → PlannedTakes p takes used → calls ≡ length takes → is_planned p.failing_takes (calls + 1) ≡ false → t ≡ cut_to most_taken (entry_at p.entries used) → used' ≡ used_after p.entries used → PlannedTakes p (takes ++ t ∷ []) used'
entries_more p takes t calls used used' h c w e u =
    let n = length takes in
    let more : length (takes ++ t ∷ []) ≡ n + 1 = length-append takes (t ∷ []) in
    let here = e ∙ ap (λ k. cut_to most_taken (entry_at p.entries k)) h.used ∙ ap (cut_to most_taken) (entry_min p n) in
    record {
      entries = ap (λ xs. xs ++ t ∷ []) h.entries ∙ ap (λ x. first_entries p n ++ x ∷ []) here ∙ sym (map-range_with_len_more (λ k. cut_to most_taken (entry_at p.entries k)) 0 n n (zero-add n)) ∙ ap (first_entries p) (sym more);
      well = subst (λ (m : ℕ). NoneFails p.failing_takes m) (sym more) (below_more (λ k. is_planned p.failing_takes (k + 1) ≡ false) n h.well (subst (λ (m : ℕ). is_planned p.failing_takes (m + 1) ≡ false) c w));
      used = u ∙ used_more p n used h.used ∙ ap (λ m. min m (length p.entries)) (sym more);
    }

taken_planned : (b c : Option Plan) (takes : List (Option Datagram)) (t : Option Datagram) (first fresh calls used used' : ℕ) → c ≡ b → (first + length takes ≤ last_count → calls ≡ first + length takes) → length (takes ++ t ∷ []) ≡ length takes + 1 →
    IfSome c (λ p. calls < last_count → (is_planned p.failing_takes (calls + 1) ≡ false) × (t ≡ cut_to most_taken (entry_at p.entries used)) × (used' ≡ used_after p.entries used)) →
    IfSome b (λ p. first ≡ 0 → fresh ≡ 0 → length takes ≤ last_count → PlannedTakes p takes used) → IfSome b (λ p. first ≡ 0 → fresh ≡ 0 → length (takes ++ t ∷ []) ≤ last_count → PlannedTakes p (takes ++ t ∷ []) used')
taken_planned None c takes t first fresh calls used used' e n m k h = tt
taken_planned (Some p) c takes t first fresh calls used used' e n m k h = λ z f few.
    let j = rw e at k in
    let same : calls ≡ length takes = omega (arith, n (omega arith)) in
    let one = j (omega arith) in
    entries_more p takes t calls used used' (h z f (omega arith)) same one.0 one.1 one.2

pub taken_more : (o : Opening) (takes : List (Option Datagram)) (t : Option Datagram) (b v w : WireSight) → Taken o takes b v → TakesOne most_taken t v w → Taken o (takes ++ t ∷ []) b w
taken_more o takes t b v w h k =
    let more : length (takes ++ t ∷ []) ≡ length takes + 1 = length-append takes (t ∷ []) in
    record {
      taken = notes_then takes (t ∷ []) b.taken v.taken w.taken h.taken k.taken;
      faults = k.faults ∙ h.faults;
      opening = subst (λ (x : Option (Option Opening)). IfSome x (λ now. now ≡ Some o)) (sym k.same.opening) h.opening;
      plan = k.same.plan ∙ h.plan;
      opened = h.opened;
      count = λ few. let j = h.count (omega arith) in omega (arith, k.takes);
      planned = taken_planned b.plan v.plan takes t b.takes b.used v.takes v.used w.used h.plan h.count more k.plan h.planned;
    }

-- a turn takes nothing
pub taken_on : (o : Opening) (takes : List (Option Datagram)) (b v w : WireSight) → Taken o takes b v → SameTaking v w → Taken o takes b w
taken_on o takes b v w h k = record {
  taken = subst (λ (x : Option (List (Option Datagram))). NotesAll takes b.taken x) (sym k.taken) h.taken;
  faults = k.take_faults ∙ h.faults;
  opening = subst (λ (x : Option (Option Opening)). IfSome x (λ now. now ≡ Some o)) (sym k.opening) h.opening;
  plan = k.plan ∙ h.plan;
  opened = h.opened;
  count = λ few. k.takes ∙ h.count few;
  planned = elim b.plan as (λ p. IfSome p (λ p. b.takes ≡ 0 → b.used ≡ 0 → length takes ≤ last_count → PlannedTakes p takes v.used) → IfSome p (λ p. b.takes ≡ 0 → b.used ≡ 0 → length takes ≤ last_count → PlannedTakes p takes w.used)) [ None ↦ λ h. tt | Some p ↦ λ h z f few. subst (λ (u : ℕ). PlannedTakes p takes u) (sym k.used) (h z f few) ] h.planned;
}

-- THE GIVES

pub record Given (deeds : List Deed) (b v : WireSight) : Type 0 where
  pub given : NotesAll (sent_frames deeds) b.given v.given
  pub lost : min (b.give_faults + lost deeds) last_count ≤ v.give_faults
  pub gives : b.gives + length (fates deeds) ≤ last_count → v.gives ≡ b.gives + length (fates deeds)
  pub plan : IfSome b.plan (λ p. b.gives + length (fates deeds) ≤ last_count → FatesFrom p.failing_gives b.gives (fates deeds))

pub given_none : (b v : WireSight) → SameLists b v → Given [] b v
given_none b v h = let n = gave_none b in record {
  given = subst (λ (x : Option (List Datagram)). NotesAll [] b.given x) (sym h.given) n.given;
  lost = omega (arith, h.give_faults);
  gives = λ few. omega (arith, h.gives);
  plan = n.plan;
}

-- a take gives nothing
pub given_on : (deeds : List Deed) (b v w : WireSight) → Given deeds b v → SameGiving v w → Given deeds b w
given_on deeds b v w h k = record {
  given = subst (λ (x : Option (List Datagram)). NotesAll (sent_frames deeds) b.given x) (sym k.given) h.given;
  lost = omega (arith, h.lost, k.give_faults);
  gives = λ few. k.gives ∙ h.gives few;
  plan = h.plan;
}

pub given_then : (a c : List Deed) (b v w : WireSight) → v.plan ≡ b.plan → Given a b v → Gave c v w → Given (a ++ c) b w
given_then a c b v w p h k = record {
  given = subst (λ (fs : List Datagram). NotesAll fs b.given w.given) (sym (sent_more a c)) (notes_then (sent_frames a) (sent_frames c) b.given v.given w.given h.given k.given);
  lost = omega (arith, lost_more a c, h.lost, k.lost);
  gives = gives_then a c b.gives v.gives w.gives h.gives k.gives;
  plan = plan_then a c b.plan v.plan b.gives v.gives p h.gives h.plan k.plan;
}
