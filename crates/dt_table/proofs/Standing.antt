-- What stands in places, and where flows do.
use Rattle.std.proofs.Common.{ℕ, zero, suc, ◌≡◌, ◌≢◌, ◌+◌, ◌<◌, ◌≤◌, Bool, true, false, List, [], ◌∷◌, ◌++◌, length, set, Option, Some, None, refl, sym, ap, subst, ◌∙◌, inl, inr, arith, cond, get_or-set_same, get_or-set_other}
use Rattle.std.specs.Prelude.{if◌then◌else◌, option_map}
use Rattle.std.specs.Map.{lookup}
use Rattle.std.proofs.lemmas.Bool.{cases_Bool, cases_eq}
use Rattle.std.proofs.lemmas.List.{length-set}
use Rattle.dt_units.specs.declared.endpoints.Flow.{Flow}
use Rattle.dt_world_model.specs.Tables.{same_flow}
use Rattle.dt_world_model.proofs.Tables.{flow_is, flow_self}
use Rattle.dt_table.specs.Places.{AreIndexed, StandOnce, equal_flows, is_of, place_in, present, slot}
use Rattle.dt_world_model.proofs.Maps.{flows_agree}
use Rattle.dt_table.proofs.Somes.{none_some, same_some, some_none}

-- A PLACE IS WRITTEN
module _ {A : Type 0} where
  pub slot_here : (os : List (Option A)) (i : ℕ) (o : Option A) → i < length os → slot (set os i o) i ≡ o
  slot_here os i o within = get_or-set_same os i o None within

  pub slot_there : (os : List (Option A)) (i j : ℕ) (o : Option A) → j ≢ i → slot (set os i o) j ≡ slot os j
  slot_there os i j o apart = get_or-set_other os i j o None apart

  -- a place that is taken is one of them
  pub slot_within : (os : List (Option A)) (i : ℕ) (a : A) → slot os i ≡ Some a → i < length os
  slot_within [] i a h = absurd (none_some a h)
  slot_within (o ∷ os) zero a h = omega arith
  slot_within (o ∷ os) (suc i) a h = let w = slot_within os i a h in omega arith

  -- one more place that is empty
  pub one_empty : (os : List (Option A)) (i : ℕ) → slot (os ++ None ∷ []) i ≡ slot os i
  one_empty [] zero = refl
  one_empty [] (suc i) = refl
  one_empty (o ∷ os) zero = refl
  one_empty (o ∷ os) (suc i) = one_empty os i

  -- what stands is what the places hold
  pub present_same : (os ps : List (Option A)) → ((i : ℕ) → slot os i ≡ slot ps i) → present os ≡ present ps
  present_same [] [] h = refl
  present_same [] (None ∷ ps) h = present_same [] ps (λ i. h (suc i))
  present_same [] (Some a ∷ ps) h = absurd (none_some a (h 0))
  present_same (None ∷ os) [] h = present_same os [] (λ i. h (suc i))
  present_same (Some a ∷ os) [] h = absurd (some_none a (h 0))
  present_same (None ∷ os) (None ∷ ps) h = present_same os ps (λ i. h (suc i))
  present_same (None ∷ os) (Some a ∷ ps) h = absurd (none_some a (h 0))
  present_same (Some a ∷ os) (None ∷ ps) h = absurd (some_none a (h 0))
  present_same (Some a ∷ os) (Some b ∷ ps) h = ap (λ (c : A). c ∷ present os) (same_some a b (h 0)) ∙ ap (λ (l : List A). b ∷ l) (present_same os ps (λ i. h (suc i)))

  -- one more stands, or one less
  pub one_more : (os : List (Option A)) (i : ℕ) (a : A) → i < length os → slot os i ≡ None → length (present (set os i (Some a))) ≡ length (present os) + 1
  one_more [] i a within h = absurd (omega arith)
  one_more (None ∷ os) zero a within h = omega arith
  one_more (Some b ∷ os) zero a within h = absurd (some_none b h)
  one_more (None ∷ os) (suc i) a within h = one_more os i a (omega arith) h
  one_more (Some b ∷ os) (suc i) a within h = let r = one_more os i a (omega arith) h in omega arith

  pub one_less : (os : List (Option A)) (i : ℕ) (a : A) → slot os i ≡ Some a → length (present (set os i None)) + 1 ≡ length (present os)
  one_less [] i a h = absurd (none_some a h)
  one_less (None ∷ os) zero a h = absurd (none_some a h)
  one_less (Some b ∷ os) zero a h = omega arith
  one_less (None ∷ os) (suc i) a h = one_less os i a h
  one_less (Some b ∷ os) (suc i) a h = let r = one_less os i a h in omega arith

  -- ONE MOVES DOWN over empty places
  pulled : (os : List (Option A)) (n : ℕ) (a : A) → slot os n ≡ Some a → ((k : ℕ) → k < n → slot os k ≡ None) → present os ≡ a ∷ present (set os n None)
  pulled [] n a h gap = absurd (none_some a h)
  pulled (None ∷ os) zero a h gap = absurd (none_some a h)
  pulled (Some b ∷ os) zero a h gap = ap (λ (c : A). c ∷ present os) (same_some b a h)
  pulled (None ∷ os) (suc n) a h gap = pulled os n a h (λ k less. gap (suc k) (omega arith))
  pulled (Some b ∷ os) (suc n) a h gap = absurd (some_none b (gap 0 (omega arith)))

  moved : (os : List (Option A)) (from to : ℕ) (a : A) → to < from → slot os from ≡ Some a → ((k : ℕ) → to ≤ k → k < from → slot os k ≡ None) → present (set (set os from None) to (Some a)) ≡ present os
  moved [] from to a less h gap = absurd (none_some a h)
  moved (o ∷ os) zero to a less h gap = absurd (omega arith)
  moved (None ∷ os) (suc from) zero a less h gap = sym (pulled os from a h (λ k l. gap (suc k) (omega arith) (omega arith)))
  moved (Some b ∷ os) (suc from) zero a less h gap = absurd (some_none b (gap 0 (omega arith) (omega arith)))
  moved (None ∷ os) (suc from) (suc to) a less h gap = moved os from to a (omega arith) h (λ k m l. gap (suc k) (omega arith) (omega arith))
  moved (Some b ∷ os) (suc from) (suc to) a less h gap = ap (λ (l : List A). b ∷ l) (moved os from to a (omega arith) h (λ k m l. gap (suc k) (omega arith) (omega arith)))

  -- it may also stay where it is
  pub moved_to : (os : List (Option A)) (from to : ℕ) (a : A) → to ≤ from → slot os from ≡ Some a → ((k : ℕ) → to ≤ k → k < from → slot os k ≡ None) → present (set (set os from None) to (Some a)) ≡ present os
  moved_to os from to a le h gap =
      elim (cases_eq to from) [
        | inl same ↦ subst (λ (n : ℕ). present (set (set os from None) n (Some a)) ≡ present os) (sym same) (present_same (set (set os from None) from (Some a)) os each)
        | inr apart ↦ moved os from to a (omega arith) h gap
      ]
    where
      each : (i : ℕ) → slot (set (set os from None) from (Some a)) i ≡ slot os i
      each i =
          elim (cases_eq i from) [
            | inl e ↦ subst (λ (n : ℕ). slot (set (set os from None) from (Some a)) n ≡ slot os n) (sym e) (get_or-set_same (set os from None) from (Some a) None (let w = slot_within os from a h in let n = length-set os from None in omega arith) ∙ sym h)
            | inr apart ↦ slot_there (set os from None) from i (Some a) apart ∙ slot_there os from i None apart
          ]

-- what is put back is as it was
pub put_back : {A : Type 0} (os : List (Option A)) (i : ℕ) (a : A) → slot os i ≡ Some a → os ≡ set (set os i None) i (Some a)
put_back [] i a h = refl
put_back (o ∷ os) zero a h = ap (λ (p : Option _). p ∷ os) h
put_back (o ∷ os) (suc i) a h = ap (λ (l : List (Option _)). o ∷ l) (put_back os i a h)

-- THE PLACE OF A FLOW
place_none : (f : Flow) (o : Option Flow) (os : List (Option Flow)) → is_of f o ≡ false → place_in f (o ∷ os) ≡ option_map suc (place_in f os)
place_none f o os n = ap (λ (b : Bool). if b then Some 0 else option_map suc (place_in f os)) n

place_zero : (f : Flow) (o : Option Flow) (os : List (Option Flow)) → is_of f o ≡ true → place_in f (o ∷ os) ≡ Some 0
place_zero f o os y = ap (λ (b : Bool). if b then Some 0 else option_map suc (place_in f os)) y

pub later_some : (o : Option ℕ) (i : ℕ) → option_map suc o ≡ Some i → (j : ℕ) × (o ≡ Some j) × (i ≡ suc j)
later_some None i e = absurd (none_some i e)
later_some (Some j) i e = (j, refl, cc)

pub later_none : (o : Option ℕ) → option_map suc o ≡ None → o ≡ None
later_none None e = refl
later_none (Some j) e = absurd (some_none (suc j) e)

its_own : (f : Flow) (o : Option Flow) → is_of f o ≡ true → o ≡ Some f
its_own f None h = absurd cc
its_own f (Some g) h = ap (λ (e : Flow). Some e) (flow_is g f h)

pub place_at : (f : Flow) (os : List (Option Flow)) (i : ℕ) → place_in f os ≡ Some i → slot os i ≡ Some f
place_at f [] i h = absurd (none_some i h)
place_at f (o ∷ os) i h =
    elim (cases_Bool (is_of f o)) [
      | inl y ↦ subst (λ (n : ℕ). slot (o ∷ os) n ≡ Some f) (same_some 0 i (sym (place_zero f o os y) ∙ h)) (its_own f o y)
      | inr n ↦ let j = later_some (place_in f os) i (sym (place_none f o os n) ∙ h) in subst (λ (k : ℕ). slot (o ∷ os) k ≡ Some f) (sym j.2) (place_at f os j.0 j.1)
    ]

pub place_same : (f : Flow) (os ps : List (Option Flow)) → ((i : ℕ) → slot os i ≡ slot ps i) → place_in f os ≡ place_in f ps
place_same f [] [] h = refl
place_same f [] (p ∷ ps) h =
    let off : is_of f p ≡ false = ap (is_of f) (sym (h 0)) in
    ap (option_map suc) (place_same f [] ps (λ i. h (suc i))) ∙ sym (place_none f p ps off)
place_same f (o ∷ os) [] h =
    let off : is_of f o ≡ false = ap (is_of f) (h 0) in
    place_none f o os off ∙ ap (option_map suc) (place_same f os [] (λ i. h (suc i)))
place_same f (o ∷ os) (p ∷ ps) h =
    ap (λ (q : Option Flow). if is_of f q then Some 0 else option_map suc (place_in f os)) (h 0)
    ∙ ap (λ (q : Option ℕ). if is_of f p then Some 0 else option_map suc q) (place_same f os ps (λ i. h (suc i)))

-- a place that was and is another flow's doesn't count
pub place_other : (f : Flow) (os : List (Option Flow)) (i : ℕ) (o : Option Flow) → is_of f (slot os i) ≡ false → is_of f o ≡ false → place_in f (set os i o) ≡ place_in f os
place_other f [] i o was is = refl
place_other f (p ∷ os) zero o was is = place_none f o os is ∙ sym (place_none f p os was)
place_other f (p ∷ os) (suc i) o was is = ap (λ (q : Option ℕ). if is_of f p then Some 0 else option_map suc q) (place_other f os i o was is)

place_taken : (f : Flow) (os : List (Option Flow)) (i : ℕ) → i < length os → place_in f os ≡ None → place_in f (set os i (Some f)) ≡ Some i
place_taken f [] i within h = absurd (omega arith)
place_taken f (o ∷ os) zero within h = place_zero f (Some f) os (flow_self f)
place_taken f (o ∷ os) (suc i) within h =
    elim (cases_Bool (is_of f o)) [
      | inl y ↦ absurd (some_none 0 (sym (place_zero f o os y) ∙ h))
      | inr n ↦
          place_none f o (set os i (Some f)) n
          ∙ ap (option_map suc) (place_taken f os i (omega arith) (later_none (place_in f os) (sym (place_none f o os n) ∙ h)))
    ]

same_either : (f g : Flow) → same_flow f g ≡ true → same_flow g f ≡ true
same_either f g y = subst (λ (h : Flow). same_flow h f ≡ true) (flow_is f g y) (flow_self f)

-- a flow and another, by what a map tests
by_flow : (P : Flow → Type 0) (f q : Flow) → P f → (same_flow f q ≡ false → P q) → P q
by_flow P f q here there = elim (cases_Bool (same_flow f q)) [ inl y ↦ subst P (flow_is f q y) here | inr n ↦ there n ]

own_test : (f : Flow) → equal_flows f f ≡ true
own_test f = flows_agree f f ∙ flow_self f

other_test : (f q : Flow) → same_flow f q ≡ false → equal_flows f q ≡ false
other_test f q n =
    elim (cases_Bool (equal_flows f q)) [
      | inl y ↦ let both : same_flow f q ≡ true = same_either q f (sym (flows_agree f q) ∙ y) in absurd (apart (sym n ∙ both))
      | inr off ↦ off
    ]
  where
    apart : false ≡ true → ⊥
    apart e = cc

-- A FLOW THAT STANDS NOWHERE TAKES AN EMPTY PLACE
module _ (f : Flow) (flows : List (Option Flow)) (once : StandOnce flows) (i : ℕ) (within : i < length flows) (empty : slot flows i ≡ None) (absent : place_in f flows ≡ None) where
  abbrev taken : List (Option Flow)
  taken = set flows i (Some f)

  taken_own : place_in f taken ≡ Some i
  taken_own = place_taken f flows i within absent

  taken_other : (q : Flow) → same_flow f q ≡ false → place_in q taken ≡ place_in q flows
  taken_other q n = place_other q flows i (Some f) (ap (is_of q) empty) n

  taken_once : StandOnce taken
  taken_once = λ j g h.
      elim (cases_eq j i) [
        | inl same ↦
            let own : f ≡ g = same_some f g (sym (slot_here flows i (Some f) within) ∙ ap (slot taken) (sym same) ∙ h) in
            subst (λ (e : Flow). place_in e taken ≡ Some j) own (taken_own ∙ ap (λ (n : ℕ). Some n) (sym same))
        | inr apart ↦
            let was = once j g (sym (slot_there flows i j (Some f) apart) ∙ h) in
            by_flow (λ (e : Flow). place_in e flows ≡ Some j → place_in e taken ≡ Some j) f g (λ e. absurd (none_some j (sym absent ∙ e))) (λ n e. taken_other g n ∙ e) was
      ]

-- A FLOW LEAVES ITS PLACE
module _ (f : Flow) (flows : List (Option Flow)) (once : StandOnce flows) (i : ℕ) (here : place_in f flows ≡ Some i) where
  abbrev left : List (Option Flow)
  left = set flows i None

  was_here : slot flows i ≡ Some f
  was_here = place_at f flows i here

  left_other : (q : Flow) → same_flow f q ≡ false → place_in q left ≡ place_in q flows
  left_other q n = place_other q flows i None (ap (is_of q) was_here ∙ n) refl

  left_slot : (j : ℕ) (g : Flow) → slot left j ≡ Some g → (j ≢ i) × (slot flows j ≡ Some g)
  left_slot j g h = (apart, sym (slot_there flows i j None apart) ∙ h)
    where
      apart : j ≢ i
      apart = λ same. none_some g (sym (slot_here flows i None (slot_within flows i f was_here)) ∙ ap (slot left) (sym same) ∙ h)

  left_none : place_in f left ≡ None
  left_none = by (place_in f left) refl
    where
      by : (o : Option ℕ) → place_in f left ≡ o → place_in f left ≡ None
      by None e = e
      by (Some j) e =
          let s = left_slot j f (place_at f left j e) in
          absurd (s.0 (same_some j i (sym (once j f s.1) ∙ here)))

  left_once : StandOnce left
  left_once = λ j g h.
      let s = left_slot j g h in
      let was = once j g s.1 in
      by_flow (λ (e : Flow). place_in e flows ≡ Some j → place_in e left ≡ Some j) f g (λ e. absurd (s.0 (same_some j i (sym e ∙ here)))) (λ n e. left_other g n ∙ e) was

  -- a place that was empty is so, and its own is
  left_empty : (to : ℕ) → (to ≢ i → slot flows to ≡ None) → slot left to ≡ None
  left_empty to empty =
      elim (cases_eq to i) [
        | inl same ↦ subst (λ (n : ℕ). slot left n ≡ None) (sym same) (slot_here flows i None (slot_within flows i f was_here))
        | inr apart ↦ slot_there flows i to None apart ∙ empty apart
      ]

  -- and where it takes one of them each flow stands once
  pub moved_once : (to : ℕ) → to < length flows → (to ≢ i → slot flows to ≡ None) → StandOnce (set left to (Some f))
  moved_once to within empty = taken_once f left left_once to (let n = length-set flows i None in omega arith) (left_empty to empty) left_none

-- THE INDEX AFTER A CHANGE
module _ (index : List (Flow × ℕ)) (flows : List (Option Flow)) (is : AreIndexed index flows) (f : Flow) (after : List (Flow × ℕ)) where
  abbrev Updated : Option ℕ → Type 0
  Updated o = (q : Flow) → lookup (equal_flows q) after ≡ cond (equal_flows f q) o (lookup (equal_flows q) index)

  -- it tells the places after it, where it tells that of the flow
  found_by : (o : Option ℕ) (new : List (Option Flow)) → Updated o → place_in f new ≡ o → ((q : Flow) → same_flow f q ≡ false → place_in q new ≡ place_in q flows) → (q : Flow) → lookup (equal_flows q) after ≡ place_in q new
  found_by o new updated own others q =
      by_flow (λ (g : Flow). lookup (equal_flows g) after ≡ place_in g new) f q
      (updated f ∙ ap (λ (b : Bool). cond b o (lookup (equal_flows f) index)) (own_test f) ∙ sym own)
      (λ n. updated q ∙ ap (λ (b : Bool). cond b o (lookup (equal_flows q) index)) (other_test f q n) ∙ is.found q ∙ sym (others q n))

  pub take_indexed : (i : ℕ) → Updated (Some i) → length after ≡ length index + 1 → i < length flows → slot flows i ≡ None → place_in f flows ≡ None → AreIndexed after (set flows i (Some f))
  take_indexed i updated long within empty absent = record {
    found = found_by (Some i) (set flows i (Some f)) updated (taken_own f flows is.once i within empty absent) (taken_other f flows is.once i within empty absent);
    once = taken_once f flows is.once i within empty absent;
    counted = long ∙ ap (λ (n : ℕ). n + 1) is.counted ∙ sym (one_more flows i f within empty);
  }

  module _ (i : ℕ) (here : place_in f flows ≡ Some i) where
    pub leave_indexed : Updated None → length after + 1 ≡ length index → AreIndexed after (set flows i None)
    leave_indexed updated long = record {
      found = found_by None (set flows i None) updated (left_none f flows is.once i here) (left_other f flows is.once i here);
      once = left_once f flows is.once i here;
      counted = (let a = one_less flows i f (was_here f flows is.once i here) in let b = is.counted in omega arith);
    }

    -- it takes another place then
    pub shift_indexed : (to : ℕ) → Updated (Some to) → length after ≡ length index → to < length flows → slot flows to ≡ None → AreIndexed after (set (set flows i None) to (Some f))
    shift_indexed to updated long within empty =
        let mid : List (Option Flow) = set flows i None in
        let once = left_once f flows is.once i here in
        let none = left_none f flows is.once i here in
        let at : slot mid to ≡ None = left_empty f flows is.once i here to (λ apart. empty) in
        let inside : to < length mid = (let n = length-set flows i None in omega arith) in
        record {
          found = found_by (Some to) (set mid to (Some f)) updated (taken_own f mid once to inside at none) (λ q n. taken_other f mid once to inside at none q n ∙ left_other f flows is.once i here q n);
          once = taken_once f mid once to inside at none;
          counted = (let a = one_less flows i f (was_here f flows is.once i here) in let b = one_more mid to f inside at in let c = is.counted in omega arith);
        }

-- more places that are empty
pub same_indexed : (index : List (Flow × ℕ)) (flows more : List (Option Flow)) → ((i : ℕ) → slot more i ≡ slot flows i) → AreIndexed index flows → AreIndexed index more
same_indexed index flows more same is = record {
  found = λ q. is.found q ∙ sym (place_same q more flows same);
  once = λ i f h. place_same f more flows same ∙ is.once i f (sym (same i) ∙ h);
  counted = is.counted ∙ ap (λ (l : List Flow). length l) (sym (present_same more flows same));
}
