-- Nodes that are played again one after another, and the soonest of all places.
use Rattle.std.proofs.Common.{ℕ, zero, suc, ◌≡◌, ◌≢◌, ◌+◌, ◌/◌, ◌<◌, ◌≤◌, ◌⊎◌, inl, inr, List, [], ◌∷◌, refl, length, get_or, set, slice_index_or, ◌*◌, drop, Option, None, sym, ap, subst, ◌∙◌, arith, ◌-◌, length-drop, get_or-set_same, get_or-set_other}
use Rattle.std.proofs.lemmas.List.{drop-set-add, ext_get_or, get_or-drop, get_or_default, get_or_past, length-set}
use Rattle.std.proofs.lemmas.Bool.{cases_eq, cases_lt}
use Rattle.dt_timers.specs.declared.deadline.Deadline.{Deadline}
use Rattle.dt_timers.specs.Order.{IsBy, sooner_of}
use Rattle.dt_timers.specs.Tournaments.{ArePlayed, ArePlayedBut, IsSoonestOf, node}
use Rattle.dt_timers.proofs.Order.{by_first, by_itself, by_second, by_then, either_way, is_one}

half_even : (at k : ℕ) → k + k ≡ at → k ≡ at / 2
half_even at k e = omega arith

even_or_odd : (k : ℕ) → (k ≡ k / 2 + k / 2) ⊎ (k ≡ k / 2 + k / 2 + 1)
even_or_odd k = elim (cases_eq k (k / 2 + k / 2)) [ inl e ↦ inl e | inr ne ↦ inr (omega arith) ]

half_odd : (at k : ℕ) → k + k + 1 ≡ at → k ≡ at / 2
half_odd at k e = omega arith

-- the nodes from one on were played
abbrev pub ArePlayedFrom : ℕ → List (Option Deadline) → Type 0
ArePlayedFrom from nodes = (k : ℕ) → from ≤ k → 1 ≤ k → k + k + 1 < length nodes → node nodes k ≡ sooner_of (node nodes (k + k)) (node nodes (k + k + 1))

-- what was read at a node that is there
pub read : (nodes : List (Option Deadline)) (k : ℕ) (d : Option Deadline) → d ≡ slice_index_or nodes k d → k < length nodes → d ≡ node nodes k
read nodes k d is within = is ∙ get_or_default nodes k d None within

pub winner_is : (nodes : List (Option Deadline)) (at : ℕ) (a b w : Option Deadline) → at + at + 1 < length nodes → a ≡ slice_index_or nodes (2 * at) a → b ≡ slice_index_or nodes (2 * at + 1) b → w ≡ sooner_of a b → w ≡ sooner_of (node nodes (at + at)) (node nodes (at + at + 1))
winner_is nodes at a b w within one other won =
    let twice : 2 * at ≡ at + at = omega arith in
    won
    ∙ ap (λ (d : Option Deadline). sooner_of d b) (read nodes (2 * at) a one (omega arith))
    ∙ ap (λ (d : Option Deadline). sooner_of (node nodes (2 * at)) d) (read nodes (2 * at + 1) b other (omega arith))
    ∙ ap (λ (n : ℕ). sooner_of (node nodes n) (node nodes (n + 1))) twice

pub rival_there : (at rival half : ℕ) → (at ≡ at / 2 + at / 2 → rival ≡ at + 1) → (at ≡ at / 2 + at / 2 + 1 → rival + 1 ≡ at) → at < half + half → rival < half + half
rival_there at rival half even odd within =
    elim (even_or_odd at) [
      | inl e ↦ let next = even e in omega arith
      | inr o ↦ let back = odd o in omega arith
    ]

-- A NODE AND THE ONE THAT IT IS PLAYED AGAINST are the two below one node
pub beats : (nodes : List (Option Deadline)) (at rival : ℕ) (own other w : Option Deadline) → rival < length nodes → (at ≡ at / 2 + at / 2 → rival ≡ at + 1) → (at ≡ at / 2 + at / 2 + 1 → rival + 1 ≡ at) → own ≡ node nodes at → other ≡ slice_index_or nodes rival other → w ≡ sooner_of own other → w ≡ sooner_of (node nodes (at / 2 + at / 2)) (node nodes (at / 2 + at / 2 + 1))
beats nodes at rival own other w within even odd mine is won =
    let both : w ≡ sooner_of (node nodes at) (node nodes rival) =
    won ∙ ap (λ (d : Option Deadline). sooner_of d other) mine ∙ ap (λ (d : Option Deadline). sooner_of (node nodes at) d) (read nodes rival other is within) in
    elim (even_or_odd at) [
      | inl e ↦
          let next : rival ≡ at / 2 + at / 2 + 1 = even e ∙ ap (λ (n : ℕ). n + 1) e in
          both
          ∙ ap (λ (n : ℕ). sooner_of (node nodes n) (node nodes rival)) e
          ∙ ap (λ (n : ℕ). sooner_of (node nodes (at / 2 + at / 2)) (node nodes n)) next
      | inr o ↦
          let back = odd o in
          let before : rival ≡ at / 2 + at / 2 = omega arith in
          both
          ∙ either_way (node nodes at) (node nodes rival)
          ∙ ap (λ (n : ℕ). sooner_of (node nodes n) (node nodes at)) before
          ∙ ap (λ (n : ℕ). sooner_of (node nodes (at / 2 + at / 2)) (node nodes n)) o
    ]

-- TWICE AS MANY PLACES: nodes are added, the places are copied to where the new ones begin, and what is before them is played anew
pub doubled : (half room : ℕ) (old more copied after : List (Option Deadline)) → length old ≡ half + half → half + half ≤ room → length more ≡ room + room
    → ((k : ℕ) → k < half + half → node more k ≡ node old k) → ((k : ℕ) → half + half ≤ k → k < room + room → node more k ≡ None)
    → ((k : ℕ) → room ≤ k → k < room + half → node copied k ≡ node more (half + (k - room))) → ((k : ℕ) → room + half ≤ k → node copied k ≡ node more k) → ((k : ℕ) → room ≤ k → node after k ≡ node copied k)
    → (i : ℕ) → node (drop room after) i ≡ node (drop half old) i
doubled half room old more copied after even wide long was empty moved same kept i =
    let out : node (drop room after) i ≡ node copied (room + i) = get_or-drop room after i None ∙ kept (room + i) (omega arith) in
    let back : node old (half + i) ≡ node (drop half old) i = sym (get_or-drop half old i None) in
    elim (cases_lt i half) [
      | inl there ↦
          let from : half + (room + i - room) ≡ half + i = omega arith in
          out ∙ moved (room + i) (omega arith) (omega arith) ∙ ap (node more) from ∙ was (half + i) (omega arith) ∙ back
      | inr beyond ↦ out ∙ same (room + i) (omega arith) ∙ no_more (room + i) (omega arith) ∙ sym (get_or_past old (half + i) None (omega arith)) ∙ back
    ]
  where
    no_more : (k : ℕ) → half + half ≤ k → node more k ≡ None
    no_more k far = elim (cases_lt k (room + room)) [ inl there ↦ empty k far there | inr past ↦ get_or_past more k None (omega arith) ]

module _ (nodes : List (Option Deadline)) where
  -- a node keeps its deadline where another is written
  pub stays : (at k : ℕ) (d : Option Deadline) → k ≢ at → node (set nodes at d) k ≡ node nodes k
  stays at k d apart = get_or-set_other nodes at k d None apart

  pub wrote : (at : ℕ) (d : Option Deadline) → at < length nodes → node (set nodes at d) at ≡ d
  wrote at d within = get_or-set_same nodes at d None within

  -- ONE MORE NODE IS PLAYED
  module _ (at : ℕ) (some : 1 ≤ at) (within : at + at + 1 < length nodes) where
    abbrev won : Option Deadline
    won = sooner_of (node nodes (at + at)) (node nodes (at + at + 1))

    abbrev after : List (Option Deadline)
    after = set nodes at won

    both : (k : ℕ) → k + k ≢ at → k + k + 1 ≢ at → sooner_of (node after (k + k)) (node after (k + k + 1)) ≡ sooner_of (node nodes (k + k)) (node nodes (k + k + 1))
    both k l r = ap (λ (a : Option Deadline). sooner_of a (node after (k + k + 1))) (stays at (k + k) won l) ∙ ap (λ (b : Option Deadline). sooner_of (node nodes (k + k)) b) (stays at (k + k + 1) won r)

    here : node after at ≡ sooner_of (node after (at + at)) (node after (at + at + 1))
    here =
        let l : at + at ≢ at = λ e. omega arith in
        let r : at + at + 1 ≢ at = λ e. omega arith in
        wrote at won (omega arith) ∙ sym (both at l r)

    -- the next one up may be wrong
    module _ (played : ArePlayedBut at nodes) where
      there : (k : ℕ) → 1 ≤ k → k + k + 1 < length after → k ≢ at / 2 → k ≢ at → node after k ≡ sooner_of (node after (k + k)) (node after (k + k + 1))
      there k k_some k_within apart other =
          let long : k + k + 1 < length nodes = subst (λ (n : ℕ). k + k + 1 < n) (length-set nodes at won) k_within in
          stays at k won other ∙ played k k_some long other ∙ sym (both k (λ e. apart (half_even at k e)) (λ e. apart (half_odd at k e)))

      pub one_more : ArePlayedBut (at / 2) after
      one_more = λ k k_some k_within apart.
          elim (cases_eq k at) [
            | inl same ↦ subst (λ (n : ℕ). node after n ≡ sooner_of (node after (n + n)) (node after (n + n + 1))) (sym same) here
            | inr other ↦ there k k_some k_within apart other
          ]

    -- those after it are played already
    module _ (from : ArePlayedFrom (at + 1) nodes) where
      behind : (k : ℕ) → at ≤ k → 1 ≤ k → k + k + 1 < length after → k ≢ at → node after k ≡ sooner_of (node after (k + k)) (node after (k + k + 1))
      behind k low k_some k_within other =
          let long : k + k + 1 < length nodes = subst (λ (n : ℕ). k + k + 1 < n) (length-set nodes at won) k_within in
          stays at k won other ∙ from k (omega arith) k_some long ∙ sym (both k (λ e. omega arith) (λ e. omega arith))

      pub one_before : ArePlayedFrom at after
      one_before = λ k low k_some k_within.
          elim (cases_eq k at) [
            | inl same ↦ subst (λ (n : ℕ). node after n ≡ sooner_of (node after (n + n)) (node after (n + n + 1))) (sym same) here
            | inr other ↦ behind k low k_some k_within other
          ]

  -- WHERE THE NODE THAT MAY BE WRONG IS RIGHT, none is wrong
  pub all_right : (at : ℕ) → node nodes at ≡ sooner_of (node nodes (at + at)) (node nodes (at + at + 1)) → ArePlayedBut at nodes → ArePlayed nodes
  all_right at right played = λ k some within apart.
      elim (cases_eq k at) [
        | inl same ↦ subst (λ (n : ℕ). node nodes n ≡ sooner_of (node nodes (n + n)) (node nodes (n + n + 1))) (sym same) right
        | inr other ↦ played k some within other
      ]

  -- THE SOONEST
  module _ (half : ℕ) (even : length nodes ≡ half + half) (played : ArePlayed nodes) where
    -- a node that is by another is by the two below it
    down : (k j : ℕ) → 1 ≤ j → j + j + 1 < length nodes → (k ≡ j + j) ⊎ (k ≡ j + j + 1) → IsBy (node nodes 1) (node nodes j) → IsBy (node nodes 1) (node nodes k)
    down k j some long which up =
        let apart : j ≢ 0 = λ e. omega arith in
        let top : IsBy (node nodes 1) (sooner_of (node nodes (j + j)) (node nodes (j + j + 1))) = subst (λ (a : Option Deadline). IsBy (node nodes 1) a) (played j some long apart) up in
        elim which [
          | inl l ↦ subst (λ (n : ℕ). IsBy (node nodes 1) (node nodes n)) (sym l) (by_then (node nodes 1) (sooner_of (node nodes (j + j)) (node nodes (j + j + 1))) (node nodes (j + j)) top (by_first (node nodes (j + j)) (node nodes (j + j + 1))))
          | inr r ↦ subst (λ (n : ℕ). IsBy (node nodes 1) (node nodes n)) (sym r) (by_then (node nodes 1) (sooner_of (node nodes (j + j)) (node nodes (j + j + 1))) (node nodes (j + j + 1)) top (by_second (node nodes (j + j)) (node nodes (j + j + 1))))
        ]

    -- so the top is by each node
    root_by : (most k : ℕ) → k ≤ most → 1 ≤ k → k < length nodes → IsBy (node nodes 1) (node nodes k)
    root_by zero k within some long = absurd (omega arith)
    root_by (suc most) k within some long =
        elim (cases_eq k 1) [
          | inl same ↦ subst (λ (n : ℕ). IsBy (node nodes 1) (node nodes n)) (sym same) (by_itself (node nodes 1))
          | inr other ↦
              let j_most : k / 2 ≤ most = omega arith in
              let j_some : 1 ≤ k / 2 = omega arith in
              let j_within : k / 2 < length nodes = omega arith in
              let j_long : k / 2 + k / 2 + 1 < length nodes = omega arith in
              let which = even_or_odd k in
              down k (k / 2) j_some j_long which (root_by most (k / 2) j_most j_some j_within)
        ]

    -- each node has its deadline from a place, from the places up
    at_place : (k : ℕ) → half ≤ k → (i : ℕ) × (node nodes (half + i) ≡ node nodes k)
    at_place k low = let e : half + (k - half) ≡ k = omega arith in (k - half, ap (node nodes) e)

    won_from : (k : ℕ) → 1 ≤ k → k < half → (i : ℕ) × (node nodes (half + i) ≡ node nodes (k + k)) → (i : ℕ) × (node nodes (half + i) ≡ node nodes (k + k + 1)) → (i : ℕ) × (node nodes (half + i) ≡ node nodes k)
    won_from k some high l r =
        let apart : k ≢ 0 = λ e. omega arith in
        let long : k + k + 1 < length nodes = omega arith in
        let won = played k some long apart in
        elim (is_one (node nodes (k + k)) (node nodes (k + k + 1))) [
          | inl a ↦ (l.0, l.1 ∙ sym (won ∙ a))
          | inr b ↦ (r.0, r.1 ∙ sym (won ∙ b))
        ]

    from_place : (most k : ℕ) → half ≤ k + most → 1 ≤ k → (i : ℕ) × (node nodes (half + i) ≡ node nodes k)
    from_place zero k within some = at_place k (omega arith)
    from_place (suc most) k within some =
        elim (cases_lt k half) [
          | inl high ↦ won_from k some high (from_place most (k + k) (omega arith) (omega arith)) (from_place most (k + k + 1) (omega arith) (omega arith))
          | inr low ↦ at_place k low
        ]

    pub soonest_is : 1 ≤ half → IsSoonestOf (drop half nodes) (node nodes 1)
    soonest_is some =
        let at = from_place half 1 (omega arith) (omega arith) in
        ((at.0, get_or-drop half nodes at.0 None ∙ at.1), λ i. by_place i)
      where
        by_place : (i : ℕ) → IsBy (node nodes 1) (node (drop half nodes) i)
        by_place i =
            elim (cases_lt (half + i) (length nodes)) [
              | inl within ↦ subst (λ (d : Option Deadline). IsBy (node nodes 1) d) (sym (get_or-drop half nodes i None)) (root_by (half + i) (half + i) (omega arith) (omega arith) within)
              | inr beyond ↦
                  let none : node (drop half nodes) i ≡ None = get_or-drop half nodes i None ∙ get_or_past nodes (half + i) None beyond in
                  subst (λ (d : Option Deadline). IsBy (node nodes 1) d) (sym none) tt
            ]

  -- A PLACE IS WRITTEN, and the nodes above it are played: the places after it
  pub placed : (half : ℕ) → length nodes ≡ half + half → (place : ℕ) (d : Option Deadline) (after : List (Option Deadline)) → length after ≡ length (set nodes (half + place) d) → ((k : ℕ) → length (set nodes (half + place) d) ≤ k + k → node after k ≡ node (set nodes (half + place) d) k) → drop half after ≡ set (drop half nodes) place d
  placed half even place d after long same =
      ext_get_or None (drop half after) (drop half (set nodes (half + place) d)) (ap (λ (n : ℕ). n) lengths) each
      ∙ drop-set-add half nodes place d
    where
      lengths : length (drop half after) ≡ length (drop half (set nodes (half + place) d))
      lengths = length-drop half after ∙ ap (λ (n : ℕ). n - half) long ∙ sym (length-drop half (set nodes (half + place) d))

      each : (i : ℕ) → i < length (drop half after) → get_or (drop half after) i None ≡ get_or (drop half (set nodes (half + place) d)) i None
      each i within =
          let size : length (set nodes (half + place) d) ≡ length nodes = length-set nodes (half + place) d in
          let far : length (set nodes (half + place) d) ≤ (half + i) + (half + i) = omega arith in
          get_or-drop half after i None ∙ same (half + i) far ∙ sym (get_or-drop half (set nodes (half + place) d) i None)

-- A place that has a deadline already is written with it.
pub set_again : (places : List (Option Deadline)) (i : ℕ) (d : Option Deadline) → node places i ≡ d → set places i d ≡ places
set_again [] i d e = refl
set_again (c ∷ cs) zero d e = ap (λ (x : Option Deadline). x ∷ cs) (sym e)
set_again (c ∷ cs) (suc i) d e = ap (λ (xs : List (Option Deadline)). c ∷ xs) (set_again cs i d e)
