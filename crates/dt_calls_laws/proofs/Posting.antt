-- A message is handed in: it stands after all that its flow took, or the host refused it.
use Rattle.std.proofs.Common.{ℕ, ◌≡◌, ◌≢◌, ◌==◌, Bool, true, false, List, ◌++◌, length, Some, None, refl, ap, sym, subst}
use Rattle.std.specs.Prelude.{not}
use Rattle.dt_items.specs.Unread.{marked}
use Rattle.dt_units.specs.declared.endpoints.Flow.{Flow}
use Rattle.dt_units.specs.Flows.{IsFlow}
use Rattle.dt_units.specs.Limits.{IsWithinLimits}
use Rattle.dt_reports.specs.Entries.{Entry}
use Rattle.dt_flow_model.specs.Ledger.{is_given}
use Rattle.dt_world_model.specs.Tables.{has_key, look, same_flow}
use Rattle.dt_world_model.specs.World.{Placed, World, view}
use Rattle.dt_world_model.specs.WorldFacts.{WorldFacts}
use Rattle.dt_world_model.specs.WorldStep.{Sends, WorldEvent, after_event, first_refusal, refusals}
use Rattle.dt_calls_model.specs.declared.calls.Posted.{Posted}
use Rattle.dt_calls_model.specs.declared.calls.Posted.TheVariants.{Refused, Taken}
use Rattle.dt_calls_model.specs.CallFacts.{taken_rows}
use Rattle.dt_calls_model.specs.Heard.{tells_refusal}
use Rattle.dt_calls_model.specs.Reads.{happens, post, posted_in}
use Rattle.dt_calls_laws.specs.Calm.{Steady, items_taken}
use Rattle.dt_calls_laws.specs.Sent.{SendLeaves}
use Rattle.dt_calls_laws.specs.Onward.{StaysQuiet}
use Rattle.dt_calls_laws.proofs.Calm.{effect_key, send_steady, send_unread, two_numbers}
use Rattle.dt_calls_laws.proofs.Onward.{GoneStays, KeysStay}
use Rattle.dt_calls_laws.proofs.PieceRead.{Goes, clear_of_two, happens_goes, happens_is, is_there}
use Rattle.dt_calls_laws.proofs.Quiet.{send_quiet}
use Rattle.dt_calls_laws.proofs.Sendings.{send_leaves}

-- all flows took what they had taken; or the octets stand after what this one took
pub record NoneTaken (w after : World) : Type 0 where
  pub items : (k : Flow) → items_taken after k ≡ items_taken w k

pub record IsTaken (w after : World) (g : Flow) (octets : List ℕ) : Type 0 where
  pub here : items_taken after g ≡ items_taken w g ++ marked octets true true false
  pub others : (k : Flow) → same_flow g k ≡ false → items_taken after k ≡ items_taken w k

abbrev pub PostsAs : World → World → Flow → List ℕ → Posted → Type 0
PostsAs w after g octets Refused = NoneTaken w after
PostsAs w after g octets (Taken place count) = (place ≡ length (taken_rows w g)) × (count ≡ length octets) × IsTaken w after g octets

module _ (w : World) (limits : IsWithinLimits w.params) (facts : WorldFacts w) (g : Flow) (flow : IsFlow g) (ends : g.from.0 ≢ g.to.0) (there : has_key ◌==◌ g.from.0 w.stations ≡ true) (octets : List ℕ) where
  abbrev e : WorldEvent
  e = Sends g octets true true

  abbrev posted_world : World
  posted_world = (post g octets w).1

  clear : first_refusal (refusals w e) ≡ None
  clear = clear_of_two _ _ _ _ (two_numbers g.from.0 g.to.0 ends) (ap not there)

  sent_is : happens e w ≡ after_event w e
  sent_is = happens_is w e clear

  sender : (at : Placed) × (look ◌==◌ g.from.0 w.stations ≡ Some at)
  sender = is_there (look ◌==◌ g.from.0 w.stations) there

  pub post_goes : Goes w posted_world
  post_goes = happens_goes w e limits facts flow

  pub post_steady : (k : Flow) → Steady w posted_world k
  post_steady k = subst (λ (r : List Entry × World). Steady w r.1 k) (sym sent_is) (send_steady w limits facts g octets true true sender.0 flow sender.1 k)

  pub post_gone : GoneStays w posted_world
  post_gone k place h = subst (λ gs. is_given gs place ≡ true) (sym (post_steady k).gone) h

  pub post_keys : KeysStay w posted_world
  post_keys m h = subst (λ (r : List Entry × World). has_key ◌==◌ m r.1.stations ≡ true) (sym sent_is) (effect_key w e m h)

  leaves : (b : Bool) (r : List Entry × World) → tells_refusal r.0 ≡ b → SendLeaves b g octets true true w.ledgers r.1.ledgers → PostsAs w r.1 g octets (posted_in (length (taken_rows w g)) (length octets) r.0)
  leaves true r e h = rw e (record { items = λ k. (h k).taken })
  leaves false r e h = rw e (refl, refl, record { here = h.here.taken; others = λ k apart. (h.others k apart).taken })

  pub posts_as : PostsAs w posted_world g octets (post g octets w).0
  posts_as =
      let at = sender.0 in
      let left = send_leaves w g octets true true at sender.1 in
      subst (λ (r : List Entry × World). PostsAs w r.1 g octets (posted_in (length (taken_rows w g)) (length octets) r.0)) (sym sent_is) (leaves (tells_refusal (after_event w e).0) (after_event w e) refl left)

  pub post_quiet : StaysQuiet w posted_world × ((k : Flow) → (view posted_world k).unread ≡ (view w k).unread)
  post_quiet =
      subst (λ (r : List Entry × World). StaysQuiet w r.1 × ((k : Flow) → (view r.1 k).unread ≡ (view w k).unread)) (sym sent_is)
      (send_quiet w limits facts g octets true true sender.0 flow sender.1 clear, send_unread w limits facts g octets true true sender.0 flow sender.1)
