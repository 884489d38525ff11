-- A station that rests has nothing to settle.
use Rattle.std.proofs.Common.{ℕ, zero, suc, ◌≡◌, ◌==◌, Bool, true, false, if◌then◌else◌, List, [], ◌∷◌, length, map, MatchBool, Option, Some, None, refl, ap, ◌∙◌}
use Rattle.std.specs.Prelude.{nat_lt}
use Rattle.dt_units.specs.declared.parameters.Params.{Params}
use Rattle.dt_world_model.specs.Host.{Host, IsCurrentHost, Turn, next_turn, work}
use Rattle.dt_world_model.specs.Relay.{Left, Out, Waiting, last_out, leave, leave_first, left_of, may_leave_from, with_outs, with_waits}
use Rattle.dt_world_model.specs.Script.{Script, Done, ◌>>=◌}
use Rattle.dt_world_model.specs.Station.{Station, do_turns, flush, flush_at, flush_links, flush_on, flush_turns, go_on, settle_station, station_with}
use Rattle.dt_world_laws.proofs.Plays.{link_of}
use Rattle.dt_calls_model.specs.Rests.{LinkRests, LinksRest, Rests}

no_turn : (p : Params) (now : ℕ) (host : Host) → IsCurrentHost p now host → next_turn p now host ≡ None
no_turn p now host h = rw h refl

module _ {T : Type 0} where
  -- what leaves a link on which a packet waits, where it is too early or not
  abbrev pub paced_by : Bool → Left T → Out T → Out T → Option (Left T) × Out T
  paced_by early left out later = if early then (None, out) else (Some left, later)

  paced : (early : Bool) (left : Left T) (out later : Out T) → (paced_by early left out later).0 ≡ None → paced_by early left out later ≡ (None, out)
  paced true left out later h = refl
  paced false left out later h = absurd cc

  first_rests : (now : ℕ) (out : Out T) (ws : List (Waiting T)) → (leave_first now out ws).0 ≡ None → leave_first now out ws ≡ (None, out)
  first_rests now out [] h = refl
  first_rests now out (w ∷ ws) h = paced (nat_lt now (may_leave_from out.pace out.last)) (left_of now w) out (with_waits out ws (last_out now out.last (left_of now w))) h

  flush_rests : (most now : ℕ) (out : Out T) → (leave now out).0 ≡ None → flush_turns most now out ≡ Done out
  flush_rests zero now out h = refl
  flush_rests (suc most) now out h = ap (flush_on (flush_turns most now)) (first_rests now out out.waits h)

  at_case : (here : Bool) (link now : ℕ) (out : Out T) (outs : List (Out T)) → MatchBool here ((leave now out).0 ≡ None) (LinkRests now link outs) → (LinkRests now link outs → flush_at link now outs ≡ Done outs)
      → (if here then (flush now out >>= λ after. Done (after ∷ outs)) else (flush_at link now outs >>= λ rest. Done (out ∷ rest))) ≡ Done (out ∷ outs)
  at_case true link now out outs h again = ap (λ (s : Script T (Out T)). s >>= λ after. Done (after ∷ outs)) (flush_rests (length out.waits) now out h)
  at_case false link now out outs h again = ap (λ (s : Script T (List (Out T))). s >>= λ rest. Done (out ∷ rest)) (again h)

  at_rests : (link now : ℕ) (outs : List (Out T)) → LinkRests now link outs → flush_at link now outs ≡ Done outs
  at_rests link now [] h = refl
  at_rests link now (out ∷ outs) h = at_case (out.link == link) link now out outs h (at_rests link now outs)

  links_rest : (now : ℕ) (links : List ℕ) (outs : List (Out T)) → LinksRest now outs → flush_links now links outs ≡ Done outs
  links_rest now [] outs h = refl
  links_rest now (link ∷ links) outs h = ap (λ (s : Script T (List (Out T))). s >>= λ rest. flush_links now links rest) (at_rests link now outs (h link)) ∙ links_rest now links outs h

  turns_rest : (most : ℕ) (p : Params) (now : ℕ) (st : Station T) → next_turn p now st.host ≡ None → do_turns most p now st ≡ Done st
  turns_rest zero p now st e = refl
  turns_rest (suc most) p now st e = ap (λ (turn : Option Turn). go_on (do_turns most p now) now turn st) e

  pub settle_rests : (p : Params) (now : ℕ) (st : Station T) → Rests p now st → settle_station p now st ≡ Done st
  settle_rests p now st h =
      ap (λ (s : Script T (List (Out T))). s >>= λ outs. do_turns (work p now st.host) p now (station_with st.host (with_outs st.relay outs))) (links_rest now (map link_of st.relay.outs) st.relay.outs h.links)
      ∙ turns_rest (work p now st.host) p now st (no_turn p now st.host h.acts)
