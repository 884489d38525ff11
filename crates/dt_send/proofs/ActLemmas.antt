-- Each act keeps the record within its ranges, and what was done is the act that was chosen.
use Rattle.std.proofs.Common.{ℕ, ◌≤◌, ◌<◌, ◌^◌, ◌≡◌, ◌⊎◌, List, [], ◌∷◌, ◌++◌, length, Option, Some, None, refl, sym, ap, ◌∙◌, subst, inl, inr, arith}
use Rattle.std.specs.Prelude.{unwrap_or}
use Rattle.std.specs.List.{All}
use Rattle.std.specs.Option.{option_map_or}
use Rattle.std.proofs.lemmas.Bool.{cases_Bool}
use Rattle.std.proofs.lemmas.List.Elements.{All-nil, All-append, All-cons, All-tail}
use Rattle.dt_units.specs.declared.parameters.Params.{Params}
use Rattle.dt_units.specs.declared.endpoints.Flow.{Flow}
use Rattle.dt_units.specs.Limits.{IsWithinLimits}
use Rattle.dt_items.specs.declared.item.Item.{Item}
use Rattle.dt_flow_model.specs.declared.acts.SendAct.{SendAct}
use Rattle.dt_flow_model.specs.declared.acts.SendKind.{SendKind}
use Rattle.dt_flow_model.specs.declared.acts.SendKind.TheVariants.{GiveUp, Release, Resend, Send, Meet}
use Rattle.dt_flow_model.specs.Numbering.{is_crossing}
use Rattle.dt_flow_model.specs.SendRecord.{Segment, SendRecord, crossed_after, cut_of, end_of, new_record, next_of, rest_of}
use Rattle.dt_flow_model.specs.SendActs.{Act, IsDue, act_of, due_of, give_up, giving_up, kind_and_moment, kind_of, meet, meeting, or_else, record_after, release, release_or_renew, releasing, renew, resend, resending, send, sending, told_of}
use Rattle.dt_flow_model.specs.Frames.{frame_of_act}
use Rattle.dt_flow_model.specs.Keeping.{IsBy}
use Rattle.dt_flow_model.proofs.Chains.{all_at, all_swap}
use Rattle.dt_flow_model.proofs.Chosen.{DueOf, act_is_due, either, resend_may, when_is}
use Rattle.dt_flow_model.proofs.Records.{act_counts, act_kept}
use Rattle.dt_send.specs.SendBuffer.{Acts, IsChosen, IsTimedBy, IsWithin}

crossed_by : (p : Params) (now m : ℕ) (x : SendRecord) → now ≤ m → IsBy m x.crossed → IsBy m (crossed_after p now x)
crossed_by p now m x le h = elim (cases_Bool (is_crossing p (next_of x))) [ inl y ↦ rw y le | inr n ↦ rw n h ]

abbrev TimedBy : ℕ → Segment → Type 0
TimedBy m g = (g.first ≤ m) × (g.last ≤ m)

-- moments stay at most the greatest one
pub act_timed : (p : Params) (now m : ℕ) (x : SendRecord) (act : Act) (after : SendRecord) → now ≤ m → IsTimedBy m x → IsDue p now x act → record_after p now x act ≡ Some after → IsTimedBy m after
act_timed p now m x (give_up g rest) after le h due e =
    let all : All (TimedBy m) (g ∷ rest) = rw (due.0) at h.segments in
    let t : IsTimedBy m (record x { left = end_of g; outstanding = rest }) = record { touched = h.touched; crossed = h.crossed; segments = All-tail (TimedBy m) g rest all } in
    let same : record x { left = end_of g; outstanding = rest } ≡ after = cc in
    subst (λ (y : SendRecord). IsTimedBy m y) same t
act_timed p now m x release after le h due e = absurd cc
act_timed p now m x renew after le h due e =
    let t : IsTimedBy m (new_record p now x.waiting) = record { touched = le; crossed = tt; segments = All-nil (TimedBy m) } in
    let same : new_record p now x.waiting ≡ after = cc in
    subst (λ (y : SendRecord). IsTimedBy m y) same t
act_timed p now m x (resend before g rest) after le h due e =
    let all : All (TimedBy m) (before ++ g ∷ rest) = rw (due.0) at h.segments in
    let one = all_at (TimedBy m) before rest g all in
    let again : Segment = record g { last = now } in
    let t : IsTimedBy m (record x { touched = now; outstanding = before ++ again ∷ rest }) = record { touched = le; crossed = h.crossed; segments = all_swap (TimedBy m) before rest g again (one.0, le) all } in
    let same : record x { touched = now; outstanding = before ++ again ∷ rest } ≡ after = cc in
    subst (λ (y : SendRecord). IsTimedBy m y) same t
act_timed p now m x (send cut rest) after le h due e =
    let g : Segment = record { offset = next_of x; items = cut; first = now; last = now } in
    let t : IsTimedBy m (record x { touched = now; crossed = crossed_after p now x; outstanding = x.outstanding ++ g ∷ []; waiting = rest }) =
    record { touched = le; crossed = crossed_by p now m x le h.crossed; segments = All-append (TimedBy m) x.outstanding (g ∷ []) h.segments (All-cons (TimedBy m) g [] (le, le) (All-nil (TimedBy m))) } in
    let same : record x { touched = now; crossed = crossed_after p now x; outstanding = x.outstanding ++ g ∷ []; waiting = rest } ≡ after = cc in
    subst (λ (y : SendRecord). IsTimedBy m y) same t
act_timed p now m x meet after le h due e =
    let t : IsTimedBy m (record x { touched = now }) = record { touched = le; crossed = h.crossed; segments = h.segments } in
    let same : record x { touched = now } ≡ after = cc in
    subst (λ (y : SendRecord). IsTimedBy m y) same t

pub act_within : (p : Params) (now : ℕ) (x : SendRecord) (act : Act) (after : SendRecord) → IsWithinLimits p → now ≤ 2 ^ 62 → IsWithin p x → act_of p now x ≡ Some act → record_after p now x act ≡ Some after → IsWithin p after
act_within p now x act after limits le h chosen e =
    let due = act_is_due p now x act chosen in
    record {
      kept = act_kept p limits x h.kept now act after due e;
      counted = omega (arith, h.counted, act_counts p now x act after due e);
      timed = act_timed p now (2 ^ 62) x act after le h.timed due e;
    }

-- what was done is the act that was chosen
pub acts_by : (p : Params) (f : Flow) (now : ℕ) (x : SendRecord) (act : Act) (told : SendAct) (after : SendRecord) (was frame : List ℕ) → act_of p now x ≡ Some act → told ≡ told_of p x act → frame ≡ unwrap_or (frame_of_act p f x act) was → after ≡ unwrap_or (record_after p now x act) x → Acts p f now x told after was frame
acts_by p f now x act told after was frame e t u v = record { told_is = rw e t; frame_is = rw e u; after_is = rw e v }

-- THE ACT THAT IS CHOSEN, by its kind
abbrev GivesUp : List Segment → Act → Type 0
GivesUp gs act = (g : Segment) × (rest : List Segment) × (act ≡ give_up g rest) × (gs ≡ g ∷ rest)

gives_up_due : (p : Params) (now : ℕ) (x : SendRecord) (act : Act) → kind_of act ≡ GiveUp → IsDue p now x act → GivesUp x.outstanding act
gives_up_due p now x (give_up g rest) k d = (g, rest, refl, d.0)
gives_up_due p now x release k d = absurd cc
gives_up_due p now x renew k d = absurd cc
gives_up_due p now x (resend before g after) k d = absurd cc
gives_up_due p now x (send cut rest) k d = absurd cc
gives_up_due p now x meet k d = absurd cc

abbrev Releases : SendRecord → Act → Type 0
Releases x act = (x.outstanding ≡ []) × ((act ≡ release) × (x.waiting ≡ []) ⊎ (act ≡ renew) × (0 < length x.waiting))

releases_due : (p : Params) (now : ℕ) (x : SendRecord) (act : Act) → kind_of act ≡ Release → IsDue p now x act → Releases x act
releases_due p now x (give_up g rest) k d = absurd cc
releases_due p now x release k d = (d.0, inl (refl, d.1))
releases_due p now x renew k d = (d.0, inr (refl, d.1))
releases_due p now x (resend before g after) k d = absurd cc
releases_due p now x (send cut rest) k d = absurd cc
releases_due p now x meet k d = absurd cc

abbrev Sends : Params → SendRecord → Act → Type 0
Sends p x act = (act ≡ send (cut_of p x) (rest_of p x)) × (0 < length (cut_of p x)) × (length x.outstanding < 64)

sends_due : (p : Params) (now : ℕ) (x : SendRecord) (act : Act) → kind_of act ≡ Send → IsDue p now x act → Sends p x act
sends_due p now x (give_up g rest) k d = absurd cc
sends_due p now x release k d = absurd cc
sends_due p now x renew k d = absurd cc
sends_due p now x (resend before g after) k d = absurd cc
sends_due p now x (send cut rest) k d = (let e = d.0 in let f = d.1 in cc, omega (arith, d.2, ap (λ (is : List Item). length is) d.0), d.3)
sends_due p now x meet k d = absurd cc

meets_due : (p : Params) (now : ℕ) (x : SendRecord) (act : Act) → kind_of act ≡ Meet → IsDue p now x act → act ≡ meet
meets_due p now x (give_up g rest) k d = absurd cc
meets_due p now x release k d = absurd cc
meets_due p now x renew k d = absurd cc
meets_due p now x (resend before g after) k d = absurd cc
meets_due p now x (send cut rest) k d = absurd cc
meets_due p now x meet k d = refl

-- where a segment is sent again, it is the one that the scan chooses
resend_first : (a b : Option Act) (act : Act) → ((d : Act) → a ≡ Some d → kind_of d ≡ Resend → ⊥) → or_else a b ≡ Some act → kind_of act ≡ Resend → b ≡ Some act
resend_first None b act other e k = e
resend_first (Some d) b act other e k = elim (other d refl (let same : d ≡ act = cc in ap kind_of same ∙ k)) [ ]

resend_last : (a b : Option Act) (act : Act) → ((d : Act) → b ≡ Some d → kind_of d ≡ Resend → ⊥) → or_else a b ≡ Some act → kind_of act ≡ Resend → a ≡ Some act
resend_last None b act other e k = elim (other act e k) [ ]
resend_last (Some d) b act other e k = e

giving_no_resend : (p : Params) (now : ℕ) (gs : List Segment) (d : Act) → giving_up p now gs ≡ Some d → kind_of d ≡ Resend → ⊥
giving_no_resend p now [] d e k = cc
giving_no_resend p now (g ∷ gs) d e k = let same = (when_is _ (give_up g gs) d e).1 in let f : GiveUp ≡ Resend = ap kind_of same ∙ k in cc

release_kind : (waiting : List Item) → kind_of (release_or_renew waiting) ≡ Release
release_kind [] = refl
release_kind (i ∷ is) = refl

releasing_no_resend : (p : Params) (now : ℕ) (x : SendRecord) (gs : List Segment) (d : Act) → releasing p now x gs ≡ Some d → kind_of d ≡ Resend → ⊥
releasing_no_resend p now x [] d e k = let same = (when_is _ (release_or_renew x.waiting) d e).1 in let f : Release ≡ Resend = sym (release_kind x.waiting) ∙ ap kind_of same ∙ k in cc
releasing_no_resend p now x (g ∷ gs) d e k = cc

last_no_resend : (p : Params) (now : ℕ) (x : SendRecord) (d : Act) → or_else (sending p now x) (meeting p now x) ≡ Some d → kind_of d ≡ Resend → ⊥
last_no_resend p now x d e k =
    elim (either (sending p now x) (meeting p now x) d e) [
      | inl a ↦ let same = (when_is _ (send (cut_of p x) (rest_of p x)) d a).1 in let f : Send ≡ Resend = ap kind_of same ∙ k in cc
      | inr a ↦ let same = (when_is _ meet d a).1 in let f : Meet ≡ Resend = ap kind_of same ∙ k in cc
    ]

abbrev Resends : Params → ℕ → List Segment → Act → Type 0
Resends p now gs act = (before : List Segment) × (g : Segment) × (after : List Segment) × (act ≡ resend before g after) × (gs ≡ before ++ g ∷ after)

resends_due : (p : Params) (now : ℕ) (gs : List Segment) (act : Act) → DueOf p now gs act → Resends p now gs act
resends_due p now gs (give_up g rest) h = elim h [ ]
resends_due p now gs release h = elim h [ ]
resends_due p now gs renew h = elim h [ ]
resends_due p now gs (resend before g after) h = (before, g, after, refl, h.0)
resends_due p now gs (send cut rest) h = elim h [ ]
resends_due p now gs meet h = elim h [ ]

module _ (p : Params) (now : ℕ) (x : SendRecord) where
  pub resend_chosen : (c : IsChosen p now x Resend) → resending p now x.outstanding ≡ Some c.act
  resend_chosen c =
      resend_last (resending p now x.outstanding) _ c.act (last_no_resend p now x)
      (resend_first (releasing p now x x.outstanding) _ c.act (releasing_no_resend p now x x.outstanding)
      (resend_first (giving_up p now x.outstanding) _ c.act (giving_no_resend p now x.outstanding) c.chosen c.of_kind) c.of_kind) c.of_kind

  pub resends_chosen : (c : IsChosen p now x Resend) → Resends p now x.outstanding c.act
  resends_chosen c = resends_due p now x.outstanding c.act (resend_may p now x.outstanding c.act (resend_chosen c))

  pub gives_up_chosen : (c : IsChosen p now x GiveUp) → GivesUp x.outstanding c.act
  gives_up_chosen c = gives_up_due p now x c.act c.of_kind (act_is_due p now x c.act c.chosen)

  pub releases_chosen : (c : IsChosen p now x Release) → Releases x c.act
  releases_chosen c = releases_due p now x c.act c.of_kind (act_is_due p now x c.act c.chosen)

  pub sends_chosen : (c : IsChosen p now x Send) → Sends p x c.act
  sends_chosen c = sends_due p now x c.act c.of_kind (act_is_due p now x c.act c.chosen)

  pub meets_chosen : (c : IsChosen p now x Meet) → c.act ≡ meet
  meets_chosen c = meets_due p now x c.act c.of_kind (act_is_due p now x c.act c.chosen)

-- what is due names the kind of the act that is chosen
pub chosen_due : (p : Params) (now : ℕ) (x : SendRecord) (kind : SendKind) (moment : ℕ) → due_of p now x ≡ Some (kind, moment) → IsChosen p now x kind
chosen_due p now x kind moment e = from (act_of p now x) refl e
  where
    from : (o : Option Act) → act_of p now x ≡ o → kind_and_moment p x o ≡ Some (kind, moment) → IsChosen p now x kind
    from None f e = absurd cc
    from (Some act) f e = record { act = act; chosen = f; of_kind = ap (λ (o : Option (SendKind × ℕ)). option_map_or (λ (w : SendKind × ℕ). w.0) o kind) e }
