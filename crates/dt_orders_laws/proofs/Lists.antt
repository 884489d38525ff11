-- One of a list; names; how often.
use Rattle.std.proofs.Common.{◌≡◌, ◌≢◌, ◌≤◌, ◌<◌, ◌∙◌, ℕ, suc, List, [], ◌∷◌, Bool, true, false, inl, inr, ap, sym, subst, arith, refl}
use Rattle.std.specs.Prelude.{◌==◌, ◌&&◌, if◌then◌else◌, Option}
use Rattle.std.proofs.lemmas.Bool.Decides.{nat_tests}
use Rattle.dt_orders_model.specs.Stores.{Among, Entry, Executed, Given, Name, Taken, Withdrawn, executions, is_executed, is_same, put, results_of, times}

-- what holds of the first and of each other one holds of each
pub either_of : {A : Type 0} (P : A → Type 0) (x : A) (xs : List A) → P x → ((y : A) → Among y xs → P y) → (y : A) → Among y (x ∷ xs) → P y
either_of P x xs here there y (inl e) = subst P (sym e) here
either_of P x xs here there y (inr h) = there y h

-- names that are the same
pub record AreAlike (a b : Name) : Type 0 where
  pub lane : a.lane ≡ b.lane
  pub number : a.number ≡ b.number
  pub tag : a.tag ≡ b.tag

pub alike_of : (a b : Name) → is_same a b ≡ true → AreAlike a b
alike_of a b h = record { lane = grind (arith, nat_tests); number = grind (arith, nat_tests); tag = grind (arith, nat_tests) }

pub same_of : (a b : Name) → AreAlike a b → is_same a b ≡ true
same_of a b h = let l = h.lane in let n = h.number in let t = h.tag in grind (arith, nat_tests)

pub same_itself : (a : Name) → is_same a a ≡ true
same_itself a = same_of a a (record { lane = refl; number = refl; tag = refl })

-- two that are the same as a third
pub same_by : (d a b : Name) → is_same d a ≡ true → is_same d b ≡ true → is_same a b ≡ true
same_by d a b one two =
    let x = alike_of d a one in
    let y = alike_of d b two in
    same_of a b (record { lane = sym x.lane ∙ y.lane; number = sym x.number ∙ y.number; tag = sym x.tag ∙ y.tag })

pub other_lane : (a b : Name) → (a.lane ≡ b.lane → ⊥) → is_same a b ≡ false
other_lane a b h = by (is_same a b) refl
  where
    by : (t : Bool) → is_same a b ≡ t → is_same a b ≡ false
    by true e = absurd (h (alike_of a b e).lane)
    by false e = e

-- an order that no entry names was taken no times
pub untaken : (o : Name) (ds : List Taken) → ((d : Taken) → Among d ds → is_same d.name o ≡ false) → times o ds ≡ 0
untaken o [] h = refl
untaken o (d ∷ ds) h =
    let first : is_same d.name o ≡ false = h d (inl refl) in
    let rest : times o ds ≡ 0 = untaken o ds (λ e m. h e (inr m)) in
    rw first rest

pub was_taken : (o : Name) (ds : List Taken) (d : Taken) → Among d ds → is_same d.name o ≡ true → 1 ≤ times o ds
was_taken o [] d h same = elim h [ ]
was_taken o (d' ∷ ds) d (inl e) same =
    let is : is_same d'.name o ≡ true = subst (λ (x : Taken). is_same x.name o ≡ true) e same in
    rw is (omega arith)
was_taken o (d' ∷ ds) d (inr h) same = by (is_same d'.name o) (was_taken o ds d h same)
  where
    by : (t : Bool) → 1 ≤ times o ds → 1 ≤ (if t then suc (times o ds) else times o ds)
    by true rest = omega arith
    by false rest = rest

-- an order is executed no more often than it is taken
pub executed_is_taken : (o : Name) (ds : List Taken) → executions o ds ≤ times o ds
executed_is_taken o [] = omega arith
executed_is_taken o (d ∷ ds) = by (is_same d.name o) (is_executed d.act) (executed_is_taken o ds)
  where
    by : (s x : Bool) → executions o ds ≤ times o ds → (if s && x then suc (executions o ds) else executions o ds) ≤ (if s then suc (times o ds) else times o ds)
    by true true rest = omega arith
    by true false rest = omega arith
    by false x rest = rest

pub was_executed : (o : Name) (ds : List Taken) (stamp : ℕ) → Among (record { name = o; stamp = stamp; act = Executed }) ds → 1 ≤ executions o ds
was_executed o [] stamp h = elim h [ ]
was_executed o (d ∷ ds) stamp (inl e) =
    let same : is_same d.name o ≡ true = subst (λ (x : Taken). is_same x.name o ≡ true) e (same_itself o) in
    let is : is_executed d.act ≡ true = subst (λ (x : Taken). is_executed x.act ≡ true) e refl in
    rw (same, is) (omega arith)
was_executed o (d ∷ ds) stamp (inr h) = by (is_same d.name o && is_executed d.act) (was_executed o ds stamp h)
  where
    by : (t : Bool) → 1 ≤ executions o ds → 1 ≤ (if t then suc (executions o ds) else executions o ds)
    by true rest = omega arith
    by false rest = rest

-- one that was withdrawn was taken more often than executed
pub was_withdrawn : (o : Name) (ds : List Taken) (stamp : ℕ) → Among (record { name = o; stamp = stamp; act = Withdrawn }) ds → executions o ds < times o ds
was_withdrawn o [] stamp h = elim h [ ]
was_withdrawn o (d ∷ ds) stamp (inl e) =
    let same : is_same d.name o ≡ true = subst (λ (x : Taken). is_same x.name o ≡ true) e (same_itself o) in
    let is : is_executed d.act ≡ false = subst (λ (x : Taken). is_executed x.act ≡ false) e refl in
    let rest = executed_is_taken o ds in
    rw (same, is) (omega arith)
was_withdrawn o (d ∷ ds) stamp (inr h) = by (is_same d.name o) (is_executed d.act) (was_withdrawn o ds stamp h)
  where
    by : (s x : Bool) → executions o ds < times o ds → (if s && x then suc (executions o ds) else executions o ds) < (if s then suc (times o ds) else times o ds)
    by true true rest = omega arith
    by true false rest = omega arith
    by false x rest = rest

pub had_result : (o : Name) (gs : List Given) (result : List ℕ) → Among (record { name = o; result = result }) gs → 1 ≤ results_of o gs
had_result o [] result h = elim h [ ]
had_result o (g ∷ gs) result (inl e) =
    let same : is_same g.name o ≡ true = subst (λ (x : Given). is_same x.name o ≡ true) e (same_itself o) in
    rw same (omega arith)
had_result o (g ∷ gs) result (inr h) = by (is_same g.name o) (had_result o gs result h)
  where
    by : (t : Bool) → 1 ≤ results_of o gs → 1 ≤ (if t then suc (results_of o gs) else results_of o gs)
    by true rest = omega arith
    by false rest = rest

-- a row of the table that was put
pub at_put : (P : ℕ → Option Entry → Type 0) (rows : ℕ → Option Entry) (lane : ℕ) (entry : Option Entry) → P lane entry → ((l : ℕ) → l ≢ lane → P l (rows l)) → (l : ℕ) → P l (put rows lane entry l)
at_put P rows lane entry here there l = by (l == lane) refl
  where
    by : (t : Bool) → (l == lane) ≡ t → P l (if t then entry else rows l)
    by true e = let is : l ≡ lane = grind (arith, nat_tests) in subst (λ (x : ℕ). P x entry) (sym is) here
    by false e = let other : l ≢ lane = grind (arith, nat_tests) in there l other

-- names that are the same, beside a third
same_alike : (g o p : Name) → is_same o p ≡ true → is_same g o ≡ is_same g p
same_alike g o p same =
    let x = alike_of o p same in
    let l : (g.lane == o.lane) ≡ (g.lane == p.lane) = ap (λ (n : ℕ). g.lane == n) x.lane in
    let n : (g.number == o.number) ≡ (g.number == p.number) = ap (λ (n : ℕ). g.number == n) x.number in
    let t : (g.tag == o.tag) ≡ (g.tag == p.tag) = ap (λ (n : ℕ). g.tag == n) x.tag in
    ap (λ (b : Bool). b && ((g.number == o.number) && (g.tag == o.tag))) l ∙ (ap (λ (b : Bool). (g.lane == p.lane) && (b && (g.tag == o.tag))) n ∙ ap (λ (b : Bool). (g.lane == p.lane) && ((g.number == p.number) && b)) t)

-- they have as many results
pub results_alike : (o p : Name) (gs : List Given) → is_same o p ≡ true → results_of o gs ≡ results_of p gs
results_alike o p [] same = refl
results_alike o p (g ∷ gs) same =
    let rest = results_alike o p gs same in
    let test = same_alike g.name o p same in
    ap (λ (b : Bool). if b then suc (results_of o gs) else results_of o gs) test ∙ ap (λ (n : ℕ). if is_same g.name p then suc n else n) rest

-- the name of a row's order
abbrev pub name_at : ℕ → ℕ → ℕ → Name
name_at lane number tag = record { lane = lane; number = number; tag = tag }

pub name_is : (lane number number' tag tag' : ℕ) → number ≡ number' → tag ≡ tag' → name_at lane number tag ≡ name_at lane number' tag'
name_is lane number number' tag tag' n t = ap (λ (x : ℕ). name_at lane x tag) n ∙ ap (λ (x : ℕ). name_at lane number' x) t

-- an order that was executed has an entry, wherever that is
pub its_execution : (o : Name) (ds : List Taken) → 1 ≤ executions o ds → (d : Taken) × Among d ds × (is_same d.name o ≡ true) × (is_executed d.act ≡ true)
its_execution o [] some = absurd (omega arith)
its_execution o (d ∷ ds) some = by (is_same d.name o) (is_executed d.act) refl refl some (its_execution o ds)
  where
    by : (s x : Bool) → is_same d.name o ≡ s → is_executed d.act ≡ x → 1 ≤ (if s && x then suc (executions o ds) else executions o ds) → (1 ≤ executions o ds → (e : Taken) × Among e ds × (is_same e.name o ≡ true) × (is_executed e.act ≡ true)) → (e : Taken) × Among e (d ∷ ds) × (is_same e.name o ≡ true) × (is_executed e.act ≡ true)
    by true true same is some rest = (d, inl refl, same, is)
    by true false same is some rest = let r = rest some in (r.0, inr r.1, r.2, r.3)
    by false x same is some rest = let r = rest some in (r.0, inr r.1, r.2, r.3)

pub has_execution : (o : Name) (ds : List Taken) (d : Taken) → Among d ds → is_same d.name o ≡ true → is_executed d.act ≡ true → 1 ≤ executions o ds
has_execution o [] d m same is = elim m [ ]
has_execution o (x ∷ ds) d (inl e) same is =
    let one : is_same x.name o ≡ true = subst (λ (y : Taken). is_same y.name o ≡ true) e same in
    let two : is_executed x.act ≡ true = subst (λ (y : Taken). is_executed y.act ≡ true) e is in
    rw (one, two) (omega arith)
has_execution o (x ∷ ds) d (inr m) same is = by (is_same x.name o && is_executed x.act) (has_execution o ds d m same is)
  where
    by : (t : Bool) → 1 ≤ executions o ds → 1 ≤ (if t then suc (executions o ds) else executions o ds)
    by true rest = omega arith
    by false rest = rest

pub executed_more : (o : Name) (ds es : List Taken) → ((d : Taken) → Among d ds → Among d es) → 1 ≤ executions o ds → 1 ≤ executions o es
executed_more o ds es more some = let x = its_execution o ds some in has_execution o es x.0 (more x.0 x.1) x.2 x.3
