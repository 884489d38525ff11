-- The calls of the parts are judged one after another.
use Rattle.std.proofs.Common.{ℕ, zero, suc, ◌+◌, ◌≡◌, ◌<◌, ◌≤◌, Bool, true, false, List, [], ◌∷◌, length, set, get_or, take, drop, Some, refl, ap, sym, subst, ◌∙◌, arith}
use Rattle.std.specs.Prelude.{◌||◌, slice_get}
use Rattle.std.specs.List.{list_any}
use Rattle.std.proofs.lemmas.List.{get_or_default}
use Rattle.dt_flow_model.specs.declared.rows.Taken as rows
use Rattle.dt_flow_model.specs.Ledger.{row_at}
use Rattle.dt_world_model.specs.World.{World}
use Rattle.dt_calls_model.specs.declared.calls.Call.{Call}
use Rattle.dt_calls_model.specs.declared.calls.CallState.TheVariants as state
use Rattle.dt_calls_model.specs.CallStep.{becomes_unsure}
use Rattle.dt_calls_model.specs.CallTold as told
use Rattle.dt_calls_model.specs.CallTold.{CallEntry}
use Rattle.dt_calls.specs.declared.call_courses.CallsParts.{CallsParts}
use Rattle.dt_call_parts.specs.Waiting.{Covers}
use Rattle.dt_call_parts.proofs.JudgeWaiting.{JudgesTo, call_is_there, drop_at, looked_sure, looked_unsure}
use Rattle.dt_call_parts.proofs.Waiting.{covers_set}

-- one item, read twice
pub same_read : (xs : List Call) (i : ℕ) (x y : Call) → i < length xs → x ≡ get_or xs i x → y ≡ get_or xs i y → x ≡ y
same_read xs i x y h e f = e ∙ get_or_default xs i x y h ∙ sym f

-- THE DOUBTS HAVE COME to the number that is looked at, which is that of a call
module _ {H L : Type 0} (tells : L → CallEntry → L → Type 0) (fn loop : CallsParts H) (l m : L) (i k : ℕ) (less : i < length fn.waiting.items) (same : loop ≡ record fn { calls = loop.calls }) (number : k ≡ get_or loop.waiting.items i k)
    (on : JudgesTo tells fn.world.state fn.calls.items l (drop i fn.waiting.items) loop.calls.items m) where
  pub to_number : JudgesTo tells fn.world.state fn.calls.items l (k ∷ drop (i + 1) fn.waiting.items) loop.calls.items m
  to_number = subst (λ (ns : List ℕ). JudgesTo tells fn.world.state fn.calls.items l ns loop.calls.items m) (drop_at i fn.waiting.items k less (subst (λ (p : CallsParts H). k ≡ get_or p.waiting.items i k) same number)) on

  pub is_there : k < length loop.calls.items
  is_there = call_is_there tells fn.world.state fn.calls.items l loop.calls.items m k (drop (i + 1) fn.waiting.items) to_number

pub record Next {H L : Type 0} (tells : L → CallEntry → L → Type 0) (fn : CallsParts H) (l : L) (ks : List ℕ) (after : CallsParts H) (n : L) : Type 0 where
  pub to : JudgesTo tells fn.world.state fn.calls.items l ks after.calls.items n
  pub same : after ≡ record fn { calls = after.calls }
  pub covers : Covers 0 fn.waiting.items after.calls.items

module _ {H L : Type 0} (tells : L → CallEntry → L → Type 0) (fn loop after : CallsParts H) (l m n : L) (k : ℕ) (ks : List ℕ) (x : Call)
    (to : JudgesTo tells fn.world.state fn.calls.items l (k ∷ ks) loop.calls.items m) (same : loop ≡ record fn { calls = loop.calls }) (covers : Covers 0 fn.waiting.items loop.calls.items)
    (is : x ≡ get_or loop.calls.items k x) (changed : after ≡ record loop { calls = after.calls }) where
  still : after ≡ record fn { calls = after.calls }
  still = changed ∙ ap (λ (p : CallsParts H). let q : CallsParts H = record p { calls = after.calls } in q) same

  world_is : loop.world.state ≡ fn.world.state
  world_is = ap (λ (p : CallsParts H). p.world.state) same

  pub sure_next : becomes_unsure loop.world.state x ≡ false → after.calls.items ≡ loop.calls.items → n ≡ m → Next tells fn l ks after n
  sure_next sure items lines = record {
    to = subst (λ (o : L). JudgesTo tells fn.world.state fn.calls.items l ks after.calls.items o) (sym lines)
        (subst (λ (cs : List Call). JudgesTo tells fn.world.state fn.calls.items l ks cs m) (sym items)
        (looked_sure tells fn.world.state fn.calls.items l loop.calls.items m k ks to x is (ap (λ (w : World). becomes_unsure w x) (sym world_is) ∙ sure)));
    same = still;
    covers = subst (λ (cs : List Call). Covers 0 fn.waiting.items cs) (sym items) covers;
  }

  pub unsure_next : (moment : ℕ) → becomes_unsure loop.world.state x ≡ true → after.calls.items ≡ set loop.calls.items k (record x { state = state.Unsure }) → moment ≡ fn.world.state.now → tells m (record { moment = moment; told = told.Unsure k }) n → Next tells fn l ks after n
  unsure_next moment unsure items at tell = record {
    to = subst (λ (cs : List Call). JudgesTo tells fn.world.state fn.calls.items l ks cs n) (sym items)
        (looked_unsure tells fn.world.state fn.calls.items l loop.calls.items m k ks to x is (ap (λ (w : World). becomes_unsure w x) (sym world_is) ∙ unsure) n (subst (λ (t : ℕ). tells m (record { moment = t; told = told.Unsure k }) n) at tell));
    same = still;
    covers = subst (λ (cs : List Call). Covers 0 fn.waiting.items cs) (sym items) (covers_set 0 fn.waiting.items loop.calls.items k (record x { state = state.Unsure }) (λ e. absurd cc) covers);
  }

-- WHETHER SOME OCTET of a message passes a test, looked at one by one
module _ (test : rows.Taken → Bool) where
  either_true : (a b : Bool) → b ≡ true → (a || b) ≡ true
  either_true true b h = refl
  either_true false b h = h

  in_first : (count k : ℕ) (xs : List rows.Taken) (x : rows.Taken) → k < count → slice_get xs k ≡ Some x → test x ≡ true → list_any test (take count xs) ≡ true
  in_first count k [] x h there t = absurd cc
  in_first zero k (y ∷ ys) x h there t = absurd (omega arith)
  in_first (suc count) zero (y ∷ ys) x h there t = let is : y ≡ x = cc in let yes : test y ≡ true = ap test is ∙ t in rw yes refl
  in_first (suc count) (suc k) (y ∷ ys) x h there t = either_true (test y) (list_any test (take count ys)) (in_first count k ys x (omega arith) there t)

  pub any_there : (xs : List rows.Taken) (place count at : ℕ) (x : rows.Taken) → place ≤ at → at < place + count → slice_get xs at ≡ Some x → test x ≡ true → list_any test (take count (drop place xs)) ≡ true
  any_there xs zero count at x h less there t = in_first count at xs x (omega arith) there t
  any_there [] (suc place) count at x h less there t = absurd cc
  any_there (y ∷ ys) (suc place) count zero x h less there t = absurd (omega arith)
  any_there (y ∷ ys) (suc place) count (suc at) x h less there t = any_there ys place count at x (omega arith) (omega arith) there t

  both_false : (a b : Bool) → a ≡ false → b ≡ false → (a || b) ≡ false
  both_false true b h k = absurd cc
  both_false false b h k = k

  none_first : (count : ℕ) (xs : List rows.Taken) → ((k : ℕ) → k < count → k < length xs → test (row_at xs k) ≡ false) → list_any test (take count xs) ≡ false
  none_first zero xs h = refl
  none_first (suc count) [] h = refl
  none_first (suc count) (y ∷ ys) h = both_false (test y) (list_any test (take count ys)) (h 0 (omega arith) (omega arith)) (none_first count ys (λ k less there. h (suc k) (omega arith) (omega arith)))

  pub none_there : (xs : List rows.Taken) (place count : ℕ) → ((k : ℕ) → place ≤ k → k < place + count → k < length xs → test (row_at xs k) ≡ false) → list_any test (take count (drop place xs)) ≡ false
  none_there xs zero count h = none_first count xs (λ k less there. h k (omega arith) (omega arith) there)
  none_there [] (suc place) zero h = refl
  none_there [] (suc place) (suc count) h = refl
  none_there (y ∷ ys) (suc place) count h = none_there ys place count (λ k from less there. h (suc k) (omega arith) (omega arith) (omega arith))

pub row_is : (xs : List rows.Taken) (k : ℕ) (x : rows.Taken) → slice_get xs k ≡ Some x → row_at xs k ≡ x
row_is [] k x h = absurd cc
row_is (y ∷ ys) zero x h = cc
row_is (y ∷ ys) (suc k) x h = row_is ys k x h
