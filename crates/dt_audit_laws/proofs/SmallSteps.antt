-- A log that follows a flow goes on following it with each small step: the step's lines pass, one after another.
use Rattle.std.proofs.Common.{ℕ, zero, suc, ◌≡◌, ◌+◌, ◌-◌, ◌<◌, ◌≤◌, true, not, List, [], ◌∷◌, ◌++◌, length, map, take, Option, Some, None, refl, sym, ap, subst, ◌∙◌, inl, inr, arith, length-append}
use Rattle.std.proofs.lemmas.Bool.{both_ways, cases_lt}
use Rattle.dt_items.specs.declared.item.Item.{Item}
use Rattle.dt_units.specs.declared.parameters.Params.{Params}
use Rattle.dt_flow_model.specs.declared.rows.Fate.{Fate}
use Rattle.dt_flow_model.specs.declared.rows.Fate.TheVariants.{Acked, Uncertain}
use Rattle.dt_flow_model.specs.declared.rows.Taken.{Taken}
use Rattle.dt_flow_model.specs.Facts.{AllFit, Chain, Facts, SendSide}
use Rattle.dt_flow_model.specs.Flow.{FlowState, Packet, new_flow, place_of, run_after}
use Rattle.dt_flow_model.specs.Ledger.{first_unsent, is_unsent, note_first, open_row, settle, take_rows}
use Rattle.dt_flow_model.specs.Numbering.{number_of}
use Rattle.dt_flow_model.specs.SendRecord.{Segment, SendRecord, end_of, items_in, next_of}
use Rattle.dt_flow_model.specs.Steps.{Step, accepts, accepts_first, gives_up, is_acked, makes, meets, passes, reads, receiver_releases, receiver_restarts, releases, renews, resends, sender_restarts, sends, takes, tells_expected, tells_number}
use Rattle.dt_flow_model.proofs.Chains.{items_append}
use Rattle.dt_flow_laws.proofs.Ledger.{settle_firsts, took_firsts}
use Rattle.dt_flow_laws.proofs.Places.{unsent_is_place}
use Rattle.dt_flow_laws.proofs.SafeOf.{safe_of}
use Rattle.dt_flow_laws.proofs.SenderSteps.{next_is, taken_length}
use Rattle.dt_world_model.specs.Ledgers.{FlowLedger}
use Rattle.dt_world_laws.specs.Follow.{at_sender, flow_ledger}
use Rattle.dt_audit.specs.declared.flow_facts.FlowFact.{FlowFact}
use Rattle.dt_audit.specs.declared.flow_facts.FlowFact.TheVariants as changes
use Rattle.dt_audit.specs.LogRows.{FlowLog, behind_last, is_sent, is_unsent_in, no_rows, places_where, unsent_places}
use Rattle.dt_audit_laws.specs.Following.{Followed, FollowsFlow, lives_of}
use Rattle.dt_audit_laws.specs.Numbering.{IsNumbered}
use Rattle.dt_audit_laws.specs.Showing.{Passes, Shows, UnsentLast, shown, shown_given}
use Rattle.dt_audit_laws.specs.Telling.{changes_of}
use Rattle.dt_audit_laws.proofs.Following.{acknowledged, given_up, sent, took}
use Rattle.dt_audit_laws.proofs.Keeping.{base_after, fall_unsent, first_from, first_is, kept_follows, new_unsent, noted_sent, noted_there, noted_unsent, outstanding_below, run_numbered, same_follows, sent_below, settle_unsent, unsent_append, unsent_not}
use Rattle.dt_audit_laws.proofs.Naming.{numbers_kept, sent_behind}
use Rattle.dt_audit_laws.proofs.Reporting.{open_there, packet_passes}
use Rattle.dt_audit_laws.proofs.Shown.{unsent_count}

-- a step that tells nothing
pub silent : (p : Params) (s t : FlowState) (log : FlowLog) → FollowsFlow p t log → Followed p s t [] log
silent p s t log f = record { next = log; passes = refl; follows = f }

-- a step that tells one line
pub told : (p : Params) (s t : FlowState) (change : FlowFact) (log : FlowLog) (ledger : FlowLedger) (line : Passes (lives_of s) change log ledger) → FollowsFlow p t line.next → Followed p s t (change ∷ []) log
told p s t change log ledger line f = record { next = line.next; passes = (line.next, line.passes, refl); follows = f }

-- TOOK
pub took_goes : (p : Params) (s t : FlowState) (items : List Item) (log : FlowLog) → t.taken ≡ take_rows s.sender_life items s.taken → t.given ≡ s.given → t.run ≡ s.run → t.sender_life ≡ s.sender_life → FollowsFlow p s log
    → Followed p s t (changes.Took (length items) ∷ []) log
took_goes p s t items log rows given run life f =
    let line = took (at_sender p s 0 items 0) s.receiver_life (flow_ledger s) log f.shows in
    let shows : Shows (flow_ledger t) line.next = record { taken = line.shows.taken ∙ ap (map shown) (sym rows); given = line.shows.given ∙ ap (map shown_given) (sym given) } in
    told p s t (changes.Took (length items)) log _ line
    (kept_follows p s t log line.next shows run line.edge line.number
    (λ place. ap (λ r. is_sent r place) rows ∙ ap (λ (first : Option ℕ). not (is_unsent first)) (took_firsts s.sender_life items s.taken place))
    (subst (λ r. UnsentLast t.sender_life r) (sym rows) (subst (λ n. UnsentLast n (take_rows s.sender_life items s.taken)) (sym life)
    (f.unsent.0, unsent_append s.sender_life f.unsent.0 s.taken (map (open_row s.sender_life None) items) f.unsent.1 (new_unsent s.sender_life items))))
    f)

-- UNCERTAIN AND SETTLED
pub settled_follows : (p : Params) (s t : FlowState) (x : SendRecord) (fate : Fate) (count : ℕ) (log next : FlowLog) → s.sender ≡ Some x → count ≤ items_in x.outstanding → Facts p s → FollowsFlow p s log
    → t.taken ≡ settle s.sender_life fate count s.taken → t.run ≡ s.run → t.sender_life ≡ s.sender_life → Shows (flow_ledger t) next → next.edge ≡ log.edge → next.next ≡ log.next → FollowsFlow p t next
settled_follows p s t x fate count log next is le facts f rows run life shows edge number =
    kept_follows p s t log next shows run edge number
    (λ place. ap (λ r. is_sent r place) rows ∙ ap (λ (first : Option ℕ). not (is_unsent first)) (settle_firsts s.sender_life fate count s.taken place))
    (subst (λ r. UnsentLast t.sender_life r) (sym rows) (subst (λ n. UnsentLast n (settle s.sender_life fate count s.taken)) (sym life)
    (f.unsent.0, settle_unsent s.sender_life fate count f.unsent.0 s.taken f.unsent.1 (omega (arith, outstanding_below p s x f.unsent.0 is facts f.unsent.1)))))
    f

-- SENT
abbrev sent_state : Params → FlowState → SendRecord → ℕ → List Taken
sent_state p s x count = note_first s.now (place_of s x (next_of x)) count s.taken

sends_follows : (p : Params) (s t : FlowState) (x : SendRecord) (count : ℕ) (log : FlowLog) → s.sender ≡ Some x → count < length x.waiting → Facts p s → FollowsFlow p s log
    → t.taken ≡ sent_state p s x (suc count) → t.given ≡ s.given → t.run ≡ run_after s.run (place_of s x 0) s.now (next_of x) → t.sender_life ≡ s.sender_life
    → Followed p s t (changes.Sent (number_of p (next_of x)) (suc count) ∷ []) log
sends_follows p s t x count log is lt facts f rows given run life =
    let side : SendSide p s.now s.sender_zero s.sender_until s.sender_life s.run s.taken (Some x) = rw is at facts.send_side in
    let long = taken_length p s.now s.sender_zero s.sender_until s.sender_life s.run s.taken x side in
    let next = next_is p s.now s.sender_zero s.sender_until s.sender_life s.run s.taken x side in
    let place : first_unsent s.sender_life s.taken ≡ place_of s x (next_of x) = unsent_is_place p s x is (omega (arith, lt)) facts in
    let stands : place_of s x (next_of x) + length x.waiting ≡ length s.taken = omega (arith, long) in
    let from = f.unsent.0 in
    let waits = first_is s.sender_life s.taken (omega (arith, place, stands, lt)) in
    let within : from ≤ first_unsent s.sender_life s.taken = (
    elim (cases_lt (first_unsent s.sender_life s.taken) from) [
      | inl below ↦ absurd (both_ways _ (unsent_not s.sender_life from s.taken (first_unsent s.sender_life s.taken) f.unsent.1 below) waits)
      | inr above ↦ above
    ]) in
    let same : first_unsent s.sender_life s.taken ≡ from = first_from s.sender_life from s.taken f.unsent.1 (omega (arith, within, place, stands, lt)) in
    let fits : from + suc count ≤ length s.taken = omega (arith, same, place, stands, lt) in
    let there : from + length (unsent_places s.sender_life log) ≡ length s.taken =
    ap (λ r. from + length (places_where (is_unsent_in s.sender_life) 0 r)) f.shows.taken ∙ unsent_count s.sender_life 0 from s.taken f.unsent.1 in
    let line = sent (at_sender p s 0 [] 0) s.receiver_life (number_of p (next_of x)) (suc count) (flow_ledger s) log f.shows f.unsent (omega (arith, there, fits)) in
    let noted : note_first s.now (first_unsent s.sender_life s.taken) (suc count) s.taken ≡ t.taken = ap (λ k. note_first s.now k (suc count) s.taken) place ∙ sym rows in
    let at_from : t.taken ≡ note_first s.now from (suc count) s.taken = sym noted ∙ ap (λ k. note_first s.now k (suc count) s.taken) same in
    let edge : line.next.edge ≡ from + suc count =
    line.edge ∙ ap (λ r. behind_last log.edge (take (suc count) (places_where (is_unsent_in s.sender_life) 0 r))) f.shows.taken
    ∙ sent_behind s.sender_life 0 from count log.edge s.taken f.unsent.1 fits ∙ omega (arith, same) in
    let base = base_after s.run (place_of s x 0) s.now (next_of x) from
    (λ none. omega (arith, none, same, place))
    (λ some. let r = side.record_facts.sending some in (r.0, r.1, omega (arith, r.2.base, next, long, same, place))) in
    told p s t (changes.Sent (number_of p (next_of x)) (suc count)) log _ line
    (record {
      shows = record { taken = line.shows.taken ∙ ap (map shown) noted; given = line.shows.given ∙ ap (map shown_given) (sym given) };
      numbered = subst (λ r. IsNumbered p r line.next) (sym (run ∙ base.1)) (numbers_kept p base.0 (next_of x) (suc count) log line.next (omega (arith, edge, base.2)) line.number);
      above = λ q h.
          elim (noted_sent s.now from (suc count) s.taken q (ap (λ r. is_sent r q) (sym at_from) ∙ h)) [
            | inl before ↦ let lower = sent_below s.sender_life from s.taken q f.unsent.1 before in omega (arith, edge, lower)
            | inr here ↦ omega (arith, edge, here)
          ];
      last = λ some. ap (λ r. is_sent r (line.next.edge - 1)) at_from ∙ noted_there s.now from (suc count) s.taken (line.next.edge - 1) (omega (arith, edge)) (omega (arith, edge)) (omega (arith, edge, fits));
      unsent = subst (λ r. UnsentLast t.sender_life r) (sym at_from) (subst (λ n. UnsentLast n (note_first s.now from (suc count) s.taken)) (sym life)
          (from + suc count, noted_unsent s.sender_life s.now from (suc count) s.taken f.unsent.1 fits));
    })

pub sends_any : (p : Params) (s t : FlowState) (x : SendRecord) (count : ℕ) (log : FlowLog) → s.sender ≡ Some x → 0 < count → count ≤ length x.waiting → Facts p s → FollowsFlow p s log
    → t.taken ≡ sent_state p s x count → t.given ≡ s.given → t.run ≡ run_after s.run (place_of s x 0) s.now (next_of x) → t.sender_life ≡ s.sender_life
    → Followed p s t (changes.Sent (number_of p (next_of x)) count ∷ []) log
sends_any p s t x zero log is some le facts f rows given run life = absurd (omega arith)
sends_any p s t x (suc count) log is some le facts f rows given run life = sends_follows p s t x count log is (omega arith) facts f rows given run life

-- A RECORD THAT HAS TRANSMITTED goes on with its run
chain_some : (n : ℕ) (before : List Segment) (g : Segment) (behind : List Segment) → Chain n (before ++ g ∷ behind) → 0 < length g.items
chain_some n [] g behind h = h.1
chain_some n (b ∷ before) g behind h = chain_some (end_of b) before g behind h.2

pub goes_on : (p : Params) (s t : FlowState) (x : SendRecord) (log : FlowLog) → s.sender ≡ Some x → 0 < next_of x → Facts p s → t.taken ≡ s.taken → t.given ≡ s.given → t.sender_life ≡ s.sender_life → t.run ≡ run_after s.run (place_of s x 0) s.now (next_of x)
    → FollowsFlow p s log → FollowsFlow p t log
goes_on p s t x log is some facts rows given life run f =
    let side : SendSide p s.now s.sender_zero s.sender_until s.sender_life s.run s.taken (Some x) = rw is at facts.send_side in
    let r = side.record_facts.sending some in
    same_follows p s t log rows given life (subst (λ k. IsNumbered p k log) (sym run) (run_numbered p s.run r.0 (place_of s x 0) s.now (next_of x) log r.1 some f.numbered)) f

pub resent_next : (p : Params) (s : FlowState) (x : SendRecord) (before behind : List Segment) (g : Segment) → s.sender ≡ Some x → x.outstanding ≡ before ++ g ∷ behind → Facts p s → 0 < next_of x
resent_next p s x before behind g is split facts =
    let side : SendSide p s.now s.sender_zero s.sender_until s.sender_life s.run s.taken (Some x) = rw is at facts.send_side in
    let next = next_is p s.now s.sender_zero s.sender_until s.sender_life s.run s.taken x side in
    let chain : Chain x.left (before ++ g ∷ behind) = subst (Chain x.left) split side.record_facts.chain in
    let some = chain_some x.left before g behind chain in
    omega (arith, next, ap items_in split, items_append before (g ∷ behind), some)

pub met_next : (p : Params) (s : FlowState) (x : SendRecord) → s.sender ≡ Some x → x.edge ≤ next_of x → Facts p s → 0 < next_of x
met_next p s x is le facts =
    let side : SendSide p s.now s.sender_zero s.sender_until s.sender_life s.run s.taken (Some x) = rw is at facts.send_side in
    elim (cases_lt 0 (next_of x)) [
      | inl some ↦ some
      | inr none ↦ let zero_is : next_of x ≡ 0 = omega arith in omega (arith, side.record_facts.edge zero_is)
    ]

-- EACH SMALL STEP
pub step_followed : (p : Params) (s after : FlowState) (ins made : List Packet) (step : Step p s ins made after) (log : FlowLog) → Facts p s → AllFit p s ins → Facts p after → FollowsFlow p s log → Followed p s after (changes_of p s after ins made step) log
step_followed p s after ins made (passes t by) log h fit g f = silent p t after log (same_follows p t after log refl refl refl f.numbered f)
step_followed p s after ins made (sender_restarts t a) log h fit g f =
    silent p t after log (record {
      shows = f.shows;
      numbered = f.numbered;
      above = f.above;
      last = f.last;
      unsent = (length t.taken, fall_unsent t.sender_life 0 t.taken h.send_side.lives);
    })
step_followed p s after ins made (receiver_restarts t) log h fit g f = silent p t after log (same_follows p t after log refl refl refl f.numbered f)
step_followed p s after ins made (makes t edge a b c) log h fit g f = silent p t after log (same_follows p t after log refl refl refl f.numbered f)
step_followed p s after ins made (takes t x items a b) log h fit g f = took_goes p t after items log refl refl refl refl f
step_followed p s after ins made (gives_up t x seg rest a b) log h fit g f =
    let le : length seg.items ≤ items_in x.outstanding = omega (arith, ap items_in b) in
    let line = given_up (at_sender p t 0 [] 0) t.receiver_life (length seg.items) (flow_ledger t) log f.shows (omega (arith, le, open_there p t x log a h f)) in
    told p t after (changes.Uncertain (length seg.items)) log _ line (settled_follows p t after x Uncertain (length seg.items) log line.next a le h f refl refl refl line.shows line.edge line.number)
step_followed p s after ins made (releases t x a b c d) log h fit g f = silent p t after log (same_follows p t after log refl refl refl f.numbered f)
step_followed p s after ins made (renews t x edge a b c d) log h fit g f = silent p t after log (same_follows p t after log refl refl refl f.numbered f)
step_followed p s after ins made (resends t x before behind seg a b c) log h fit g f =
    silent p t after log (goes_on p t after x log a (resent_next p t x before behind seg a b h) h refl refl refl refl f)
step_followed p s after ins made (sends t x cut rest a b c d e) log h fit g f =
    sends_any p t after x (length cut) log a c (omega (arith, ap length b, length-append cut rest)) h f refl refl refl refl
step_followed p s after ins made (meets t x a b c) log h fit g f =
    silent p t after log (goes_on p t after x log a (met_next p t x a c h) h refl refl refl refl f)
step_followed p s after ins made (is_acked t x q window gone rest edge a b c d e) log h fit g f =
    let le : items_in gone ≤ items_in x.outstanding = omega (arith, ap items_in d, items_append gone rest) in
    let line = acknowledged (at_sender p t 0 [] 0) t.receiver_life (items_in gone) (flow_ledger t) log f.shows (omega (arith, le, open_there p t x log a h f)) (safe_of p after g).ledger in
    told p t after (changes.Settled (items_in gone)) log _ line (settled_follows p t after x Acked (items_in gone) log line.next a le h f refl refl refl line.shows line.edge line.number)
step_followed p s after ins made (accepts_first t q items due what a b c d e) log h fit g f =
    let line = packet_passes p t q true true items 0 log c e h fit.0 f (safe_of p after g).ledger in
    told p t after (changes.Accepted q.number (length items) true) log _ line (kept_follows p t after log line.next line.shows refl line.edge line.number (λ place. refl) f.unsent f)
step_followed p s after ins made (accepts t y q drf run items due a b c d e k) log h fit g f =
    let line = packet_passes p t q drf run items 0 log c e h fit.0 f (safe_of p after g).ledger in
    told p t after (changes.Accepted q.number (length items) run) log _ line (kept_follows p t after log line.next line.shows refl line.edge line.number (λ place. refl) f.unsent f)
step_followed p s after ins made (tells_number t q y window a b c) log h fit g f = silent p t after log (same_follows p t after log refl refl refl f.numbered f)
step_followed p s after ins made (tells_expected t y due what window a b) log h fit g f = silent p t after log (same_follows p t after log refl refl refl f.numbered f)
step_followed p s after ins made (receiver_releases t y a b) log h fit g f = silent p t after log (same_follows p t after log refl refl refl f.numbered f)
step_followed p s after ins made (reads t y piece rest a b) log h fit g f = silent p t after log (same_follows p t after log refl refl refl f.numbered f)

-- a flow that has just begun
pub begun_follows : (p : Params) (sender_zero receiver_zero : ℕ) → FollowsFlow p (new_flow sender_zero receiver_zero) no_rows
begun_follows p sender_zero receiver_zero = record {
  shows = record { taken = refl; given = refl };
  numbered = refl;
  above = λ place h. absurd cc;
  last = λ some. absurd (omega arith);
  unsent = (0, tt);
}
