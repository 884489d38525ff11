-- Lines that are logged one after another.
use Rattle.std.proofs.Common.{◌≡◌, ℕ, Bool, true, false, List, [], ◌∷◌, ◌++◌, refl, ap, sym, subst, ◌∙◌, flat_map}
use Rattle.dt_edges.specs.Sinks.{SinkSight, Takes, TakesPart}
use Rattle.dt_edges.proofs.Puts.{takes_nothing, takes_part_first, takes_part_then, takes_then}
use Rattle.dt_scenario.specs.declared.logs.Log.{Log}
use Rattle.dt_scenario.specs.Writing.{Writes, WroteBy}

wrote_then : (failed : Bool) (xs ys : List ℕ) (a b c : SinkSight) → Takes xs a b → WroteBy failed ys b c → WroteBy failed (xs ++ ys) a c
wrote_then false xs ys a b c p q = takes_then xs ys a b c p q
wrote_then true xs ys a b c p q = takes_part_then xs ys a b c p q

-- `Told` says that lines were told one after another: of none the log stays, and else the first was told and then the rest.
module _ {K E : Type 0} (sight : K → SinkSight) (text : E → List ℕ) (Told : List E → Log K → Log K → Type 0)
    (none : (s t : Log K) → Told [] s t → s ≡ t) (first : (x : E) (xs : List E) (s t : Log K) → Told (x ∷ xs) s t → (m : Log K) × Writes sight (text x) s m × Told xs m t) where
  -- after a put that failed nothing more is put
  all_still : (entries : List E) (s t : Log K) → s.failed ≡ true → Told entries s t → (t.failed ≡ true) × (sight t.out.now ≡ sight s.out.now)
  all_still [] s t h w = let e = none s t w in (ap (λ (r : Log K). r.failed) (sym e) ∙ h, ap (λ (r : Log K). sight r.out.now) (sym e))
  all_still (x ∷ xs) s t h w =
      let told = first x xs s t w in
      let one = told.1.still h in
      let more = all_still xs told.0 t one.0 told.2 in
      (more.0, more.1 ∙ one.1)

  -- it is the same sink
  pub same_name : (entries : List E) (s t : Log K) → Told entries s t → t.out.ghost_name ≡ s.out.ghost_name
  same_name [] s t w = ap (λ (r : Log K). r.out.ghost_name) (sym (none s t w))
  same_name (x ∷ xs) s t w = let told = first x xs s t w in same_name xs told.0 t told.2 ∙ told.1.same

  wrote_on : (x : E) (xs : List E) (s m t : Log K) → s.failed ≡ false → Writes sight (text x) s m → (m.failed ≡ false → WroteBy t.failed (flat_map text xs) (sight m.out.now) (sight t.out.now)) → (m.failed ≡ true → (t.failed ≡ true) × (sight t.out.now ≡ sight m.out.now))
      → (b : Bool) → m.failed ≡ b → WroteBy t.failed (flat_map text (x ∷ xs)) (sight s.out.now) (sight t.out.now)
  wrote_on x xs s m t h w go stay false e =
      wrote_then t.failed (text x) (flat_map text xs) (sight s.out.now) (sight m.out.now) (sight t.out.now) (subst (λ (f : Bool). WroteBy f (text x) (sight s.out.now) (sight m.out.now)) e (w.put h)) (go e)
  wrote_on x xs s m t h w go stay true e =
      let part = takes_part_first (text x) (flat_map text xs) (sight s.out.now) (sight m.out.now) (subst (λ (f : Bool). WroteBy f (text x) (sight s.out.now) (sight m.out.now)) e (w.put h)) in
      subst (λ (f : Bool). WroteBy f (flat_map text (x ∷ xs)) (sight s.out.now) (sight t.out.now)) (sym (stay e).0) (subst (λ (a : SinkSight). TakesPart (text x ++ flat_map text xs) (sight s.out.now) a) (sym (stay e).1) part)

  pub wrote_all : (entries : List E) (s t : Log K) → s.failed ≡ false → Told entries s t → WroteBy t.failed (flat_map text entries) (sight s.out.now) (sight t.out.now)
  wrote_all [] s t h w = let e = none s t w in subst (λ (r : Log K). WroteBy r.failed [] (sight s.out.now) (sight r.out.now)) e (subst (λ (f : Bool). WroteBy f [] (sight s.out.now) (sight s.out.now)) (sym h) (takes_nothing (sight s.out.now)))
  wrote_all (x ∷ xs) s t h w = let told = first x xs s t w in wrote_on x xs s told.0 t h told.1 (λ e. wrote_all xs told.0 t e told.2) (λ e. all_still xs told.0 t e told.2) told.0.failed refl
