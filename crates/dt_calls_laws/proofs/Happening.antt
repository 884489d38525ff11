-- An event of the world that is no send and no read keeps the facts of calls. A restart drops what its readers have begun.
use Rattle.std.proofs.Common.{ℕ, ◌≡◌, ◌==◌, Bool, true, false, List, [], ◌∷◌, map, Option, None, refl, sym, subst, ◌∙◌, inl, inr, arith, append-nil}
use Rattle.std.proofs.lemmas.Bool.{cases_Bool}
use Rattle.dt_units.specs.declared.endpoints.Flow.{Flow}
use Rattle.dt_reports.specs.Entries.{Entry}
use Rattle.dt_flow_model.specs.Ledger.{is_given}
use Rattle.dt_world_model.specs.Tables.{AllEntries, Distinct, Lacks, has_key, look, same_flow}
use Rattle.dt_world_model.specs.World.{World}
use Rattle.dt_world_model.specs.WorldFacts.{CanHappen}
use Rattle.dt_world_model.specs.WorldStep.{Arrives, Loses, Passes, Reads, Restarts, Sends, Ticks, WorldEvent, after_event, first_refusal, refusals}
use Rattle.dt_world_model.proofs.Tables.{nat_is}
use Rattle.dt_calls_model.specs.CallFacts.{AreBegun, CourseFacts, FlowIsKept, requests_on}
use Rattle.dt_calls_model.specs.Calls.{Begun, Calls, call_at}
use Rattle.dt_calls_model.specs.CallStep.{flows_after, kept_unless, without_reader}
use Rattle.dt_calls_model.specs.Messages.{reversed}
use Rattle.dt_calls_laws.specs.Calm.{Calm, IsNoRestartOf, Steady, count_gone, items_taken, rows_given}
use Rattle.dt_calls_laws.specs.Grown.{IsNoSendOrRead}
use Rattle.dt_calls_laws.specs.Onward.{Onward}
use Rattle.dt_calls_laws.proofs.Calm.{effect_key, others_calm, restart_gone}
use Rattle.dt_calls_laws.proofs.Growing.{others_grow}
use Rattle.dt_calls_laws.proofs.Making.{not_false, passed}
use Rattle.dt_calls_laws.proofs.Onward.{GoneStays, KeysStay, begun_stays, flow_calm, flow_still, given_whole, same_call}
use Rattle.dt_calls_laws.proofs.PieceRead.{Goes, happens_goes, happens_is, is_there, same_calls, still_calls}
use Rattle.dt_calls_laws.proofs.Serving.{same_number}
use Rattle.dt_calls_laws.proofs.States.{all_entries_on}

pub can_happen : (e : WorldEvent) → IsNoSendOrRead e → CanHappen e
can_happen (Passes by) h = tt
can_happen (Sends f octets begin end) h = absurd h
can_happen (Reads f most) h = absurd h
can_happen (Ticks n) h = tt
can_happen (Arrives copy) h = tt
can_happen (Loses copy) h = tt
can_happen (Restarts n) h = tt

-- THE SIDES after a restart
abbrev sides_after : ℕ → Flow → Begun → Begun
sides_after n k x = record { request = kept_unless (k.to.0 == n) x.request; reply = kept_unless (k.from.0 == n) x.reply }

key_map : (n : ℕ) (k : Flow) (flows : List (Flow × Begun)) → has_key same_flow k (map (without_reader n) flows) ≡ has_key same_flow k flows
key_map n k [] = refl
key_map n k (x ∷ flows) = elim (cases_Bool (same_flow x.0 k)) [ inl y ↦ rw y refl | inr o ↦ rw o (key_map n k flows) ]

lacks_map : (n : ℕ) (k : Flow) (flows : List (Flow × Begun)) → Lacks same_flow k flows → Lacks same_flow k (map (without_reader n) flows)
lacks_map n k [] h = tt
lacks_map n k (x ∷ flows) h = (h.0, lacks_map n k flows h.1)

distinct_map : (n : ℕ) (flows : List (Flow × Begun)) → Distinct same_flow flows → Distinct same_flow (map (without_reader n) flows)
distinct_map n [] h = tt
distinct_map n (x ∷ flows) h = (lacks_map n x.0 flows h.0, distinct_map n flows h.1)

entries_map : (n : ℕ) (P Q : Flow → Begun → Type 0) (flows : List (Flow × Begun)) → ((k : Flow) (x : Begun) → P k x → Q k (sides_after n k x)) → AllEntries P flows → AllEntries Q (map (without_reader n) flows)
entries_map n P Q [] on h = tt
entries_map n P Q (x ∷ flows) on h = (on x.0 x.1 h.0, entries_map n P Q flows on h.1)

module _ (answer : List ℕ → List ℕ) (c : Calls) (facts : CourseFacts answer c) (e : WorldEvent) (plain : IsNoSendOrRead e) (clear : first_refusal (refusals c.world e) ≡ None) where
  abbrev after : World
  after = (after_event c.world e).1

  goes : Goes c.world after
  goes = subst (λ (r : List Entry × World). Goes c.world r.1) (happens_is c.world e clear) (happens_goes c.world e facts.limits facts.world (can_happen e plain))

  items : (k : Flow) → items_taken after k ≡ items_taken c.world k
  items k = (others_grow c.world e k plain).taken

  keys : KeysStay c.world after
  keys m h = effect_key c.world e m h

  calm : (k : Flow) → IsNoRestartOf k.to.0 e → Calm c.world after k
  calm k other = others_calm c.world facts.limits facts.world e k (can_happen e plain) clear plain other

  -- WITHOUT A RESTART
  pub plain_course : ((m : ℕ) → IsNoRestartOf m e) → CourseFacts answer (record { world = after; calls = c.calls; flows = c.flows })
  plain_course none =
      same_calls answer c after c.flows facts goes keys (λ k place h. subst (λ gs. is_given gs place ≡ true) (sym (calm k (none k.to.0)).steady.gone) h) items facts.distinct (λ k. refl)
      (all_entries_on (FlowIsKept answer c) (FlowIsKept answer (record { world = after; calls = c.calls; flows = c.flows })) c.flows
      (λ k x h. flow_calm answer c (record { world = after; calls = c.calls; flows = c.flows }) k x h keys h.one_way (still_calls answer c after c.flows k items) (calm k (none k.to.0)).steady (calm (reversed k) (none k.from.0)).steady)
      facts.flows)

  plain_onward : (flows : List (Flow × Begun)) → ((k : Flow) → has_key same_flow k flows ≡ has_key same_flow k c.flows) → Onward c (record { world = after; calls = c.calls; flows = flows })
  plain_onward flows same = record {
    calls = λ n lt. same_call (call_at c n);
    items = λ k. ([], items k ∙ sym (append-nil (items_taken c.world k)));
    keys = λ k h. same k ∙ h;
    count = omega arith;
  }

module _ (answer : List ℕ → List ℕ) (c : Calls) (facts : CourseFacts answer c) (n : ℕ) (clear : first_refusal (refusals c.world (Restarts n)) ≡ None) where
  abbrev anew : World
  anew = (after_event c.world (Restarts n)).1

  abbrev flows_anew : List (Flow × Begun)
  flows_anew = map (without_reader n) c.flows

  abbrev calls_anew : Calls
  calls_anew = record { world = anew; calls = c.calls; flows = flows_anew }

  other : (k : Flow) → (k.to.0 == n) ≡ false → Steady c.world anew k
  other k e = (calm answer c facts (Restarts n) tt clear k (λ same. same_number k.to.0 n e (sym same))).steady

  -- a side that read there has begun nothing
  begun_anew : (b : Bool) (k : Flow) (spans : List _) (o : Option (List ℕ)) → (k.to.0 == n) ≡ b → AreBegun c.world k spans o → AreBegun anew k spans (kept_unless b o)
  begun_anew true k spans o e h = tt
  begun_anew false k spans o e h = begun_stays c.world anew k spans spans o (other k e) (λ s k. k) h

  flow_anew : (k : Flow) (x : Begun) → FlowIsKept answer c k x → FlowIsKept answer calls_anew k (sides_after n k x)
  flow_anew k x h =
      flow_still answer c calls_anew k x (sides_after n k x) h (keys answer c facts (Restarts n) tt clear) (key_map n (reversed k) c.flows ∙ h.one_way)
      (still_calls answer c anew flows_anew k (items answer c facts (Restarts n) tt clear))
      (begun_anew (k.to.0 == n) k (requests_on c k) x.request refl h.requests_begun) (begun_anew (k.from.0 == n) (reversed k) h.replies x.reply refl h.replies_begun)

  gone_anew : GoneStays c.world anew
  gone_anew k place h =
      elim (cases_Bool (k.to.0 == n)) [
        | inl y ↦
            let there = is_there (look ◌==◌ n c.world.stations) (not_false _ (passed _ _ [] clear).0) in
            let all = restart_gone c.world facts.limits facts.world n there.0 k there.1 (sym (nat_is k.to.0 n y)) in
            subst (λ gs. is_given gs place ≡ true) (sym all.gone) (given_whole (count_gone c.world k) (rows_given c.world k) place h)
        | inr o ↦ subst (λ gs. is_given gs place ≡ true) (sym (other k o).gone) h
      ]

  pub restart_course : CourseFacts answer calls_anew
  restart_course =
      same_calls answer c anew flows_anew facts (goes answer c facts (Restarts n) tt clear) (keys answer c facts (Restarts n) tt clear) gone_anew (items answer c facts (Restarts n) tt clear) (distinct_map n c.flows facts.distinct) (λ k. key_map n k c.flows)
      (entries_map n (FlowIsKept answer c) (FlowIsKept answer calls_anew) c.flows flow_anew facts.flows)

-- ANY SUCH EVENT
abbrev pub happened : WorldEvent → Calls → Calls
happened e c = record { world = (after_event c.world e).1; calls = c.calls; flows = flows_after e c.flows }

module _ (answer : List ℕ → List ℕ) where
  pub event_course : (c : Calls) (e : WorldEvent) → CourseFacts answer c → IsNoSendOrRead e → first_refusal (refusals c.world e) ≡ None → CourseFacts answer (happened e c)
  event_course c (Passes by) facts plain clear = plain_course answer c facts (Passes by) plain clear (λ m. tt)
  event_course c (Sends f octets begin end) facts plain clear = absurd plain
  event_course c (Reads f most) facts plain clear = absurd plain
  event_course c (Ticks n) facts plain clear = plain_course answer c facts (Ticks n) plain clear (λ m. tt)
  event_course c (Arrives copy) facts plain clear = plain_course answer c facts (Arrives copy) plain clear (λ m. tt)
  event_course c (Loses copy) facts plain clear = plain_course answer c facts (Loses copy) plain clear (λ m. tt)
  event_course c (Restarts n) facts plain clear = restart_course answer c facts n clear

  pub event_onward : (c : Calls) (e : WorldEvent) → CourseFacts answer c → IsNoSendOrRead e → first_refusal (refusals c.world e) ≡ None → Onward c (happened e c)
  event_onward c (Passes by) facts plain clear = plain_onward answer c facts (Passes by) plain clear c.flows (λ k. refl)
  event_onward c (Sends f octets begin end) facts plain clear = absurd plain
  event_onward c (Reads f most) facts plain clear = absurd plain
  event_onward c (Ticks n) facts plain clear = plain_onward answer c facts (Ticks n) plain clear c.flows (λ k. refl)
  event_onward c (Arrives copy) facts plain clear = plain_onward answer c facts (Arrives copy) plain clear c.flows (λ k. refl)
  event_onward c (Loses copy) facts plain clear = plain_onward answer c facts (Loses copy) plain clear c.flows (λ k. refl)
  event_onward c (Restarts n) facts plain clear = plain_onward answer c facts (Restarts n) plain clear (map (without_reader n) c.flows) (λ k. key_map n k c.flows)
