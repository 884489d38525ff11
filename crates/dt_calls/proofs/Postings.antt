-- A message that was handed in.
use Rattle.std.proofs.Common.{◌≡◌, ℕ, Bool, true, false, if◌then◌else◌, List, length, refl, ap, sym, ◌∙◌}
use Rattle.dt_units.specs.declared.endpoints.Flow.{Flow}
use Rattle.dt_world_model.specs.Ledgers.{ledger_of}
use Rattle.dt_world_model.specs.World.{World}
use Rattle.dt_world_model.specs.WorldStep.{Sends}
use Rattle.dt_world.specs.Worlds.{WorldValue}
use Rattle.dt_calls_model.specs.declared.calls.Posted.{Posted}
use Rattle.dt_calls_model.specs.declared.calls.Posted.TheVariants.{Refused, Taken}
use Rattle.dt_calls_model.specs.Heard.{tells_refusal}
use Rattle.dt_calls_model.specs.Reads.{happens, post}
use Rattle.dt_calls.specs.declared.call_courses.CallsParts.{CallsParts}
use Rattle.dt_calls.specs.Happening.{HasHappened}
use Rattle.dt_call_parts.specs.Hearing.{HeardValue}
use Rattle.dt_calls.specs.Parts.{HasPosted}
use Rattle.dt_calls.proofs.Hearings.{refusal_heard}

module _ {H : Type 0} (flow : Flow) (p : CallsParts H) (octets : List ℕ) (world : WorldValue) (heard : HeardValue) where
  abbrev IsSent : Type 0
  IsSent = HasHappened (Sends flow octets true true) p.world p.heard world heard

  abbrev answer_if : ℕ → ℕ → World → Bool → Posted × World
  answer_if place count after refused = (if refused then Refused else Taken place count, after)

  -- what is heard of it is what the lines tell
  told_is : octets ≡ p.message.items → IsSent → (refused : Bool) → heard.refused ≡ refused → post flow p.message.items p.world.state ≡ answer_if (length (ledger_of p.world.state.ledgers flow).taken) (length p.message.items) world.state refused
  told_is same sent refused e =
      let r = happens (Sends flow octets true true) p.world.state in
      let place = length (ledger_of p.world.state.ledgers flow).taken in
      let tells : tells_refusal r.0 ≡ refused = sym (refusal_heard r.0 p.heard) ∙ ap (λ (h : HeardValue). h.refused) (sym sent.heard_is) ∙ e in
      ap (λ (items : List ℕ). post flow items p.world.state) (sym same)
      ∙ ap (answer_if place (length octets) r.1) tells
      ∙ ap (λ (w : World). answer_if place (length octets) w refused) (sym sent.world)
      ∙ ap (λ (items : List ℕ). answer_if place (length items) world.state refused) same

  pub posted_refused : octets ≡ p.message.items → IsSent → heard.refused ≡ true → HasPosted flow p Refused (record p { world = world; heard = heard })
  posted_refused same sent e = record { posts = told_is same sent true e; same = refl; unspent = sent.unspent; heard = sent.whole }

  pub posted_taken : (place count : ℕ) → octets ≡ p.message.items → IsSent → heard.refused ≡ false → place ≡ length (ledger_of p.world.state.ledgers flow).taken → count ≡ length p.message.items → HasPosted flow p (Taken place count) (record p { world = world; heard = heard })
  posted_taken place count same sent e at many = record {
    posts = told_is same sent false e ∙ ap (λ (n : ℕ). answer_if n (length p.message.items) world.state false) (sym at) ∙ ap (λ (n : ℕ). answer_if place n world.state false) (sym many);
    same = refl;
    unspent = sent.unspent;
    heard = sent.whole;
  }
