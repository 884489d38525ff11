-- The premises of the worked network whose service has no route at first.
use Rattle.std.proofs.Common.{◌≡◌, true, List, [], ◌∷◌, refl, arith}
use Rattle.std.specs.Prelude.{Contains}
use Rattle.dt_layout.specs.Spelling.{Data, carrying, gram_spelling, packet_spelling}
use Rattle.dt_layout.specs.Reading.{gram_fault, gram_in, packet_fault, packet_in}
use Rattle.dt_layout.specs.Carried.{life_of, lowered, to_of}
use Rattle.dt_world_model.specs.Worked.{main_flow}
use Rattle.dt_endpoint.specs.declared.answers.Routed.TheVariants as routed
use Rattle.dt_endpoint.specs.Endpoints.{with_route}
use Rattle.dt_calls_model.specs.Messages.{message_of}
use Rattle.dt_network.specs.Network.{Flight}
use Rattle.dt_network.specs.Worked.{by}
use Rattle.dt_service_model.specs.Names.{to_u64, number_with, token_with}
use Rattle.dt_service_laws.specs.Premises.{KeepsTurn, KeepsTurns}
use Rattle.dt_service_laws.specs.Services.{Arrives, CountsFlow, Does, GetsRoute, GivesReply, Services, Turn, services_by}
use Rattle.dt_service_laws.specs.Worked.{answered_unlisted, called, frame_of, learnt, lists_none, node_in, unlisted, without_routes}
use Rattle.dt_service_laws.proofs.Restarted.{flow, keeps_append, the_frame}

unlisted_kept : KeepsTurns lists_none unlisted without_routes
unfolding gram_spelling packet_spelling gram_in packet_in packet_fault gram_fault life_of to_of lowered
unlisted_kept = (
  tt,
  (
    tt,
    (
      (record { clock = refl; most = omega arith }, flow),
      (tt, ((record { clock = refl; most = omega arith }, λ clear. record { flight = the_frame 0 (services_by lists_none called without_routes); left = (0, omega arith, refl); octets = refl; in_time = omega arith }), tt)),
    ),
  ),
)

abbrev answers : List Turn
answers =
    Does 2 (GetsRoute (by 1 7) routed.Done (with_route (by 1 7) (node_in 2 (services_by lists_none unlisted without_routes)).endpoint))
    ∷ Does 2 (CountsFlow main_flow true)
    ∷ Does 2 (GivesReply 40 (token_with main_flow (number_with 5 0)) (65 ∷ []))
    ∷ []

answers_kept : KeepsTurns lists_none answers (services_by lists_none unlisted without_routes)
unfolding gram_spelling packet_spelling gram_in packet_in packet_fault gram_fault life_of to_of lowered
answers_kept = ((refl, refl), (tt, ((record { clock = refl; most = omega arith }, flow), tt)))

learnt_kept : KeepsTurns lists_none learnt without_routes
learnt_kept = keeps_append lists_none unlisted answers without_routes unlisted_kept answers_kept

abbrev third : Services
third = services_by lists_none learnt without_routes

-- the reply as it left, in one computation each
abbrev reply : Flight
reply = record { frame = record { link = 7; to = 1; octets = gram_spelling (carrying 999 2 1 (Data 20 10 0 true true true (message_of (to_u64 (number_with 5 0)) (65 ∷ [])))) }; put = 40 }

is_left : Contains third.network.left reply
unfolding gram_spelling packet_spelling gram_in packet_in packet_fault gram_fault life_of to_of lowered
is_left = (1, omega arith, refl)

octets_are : reply.frame.octets ≡ frame_of 2 0 third
unfolding gram_spelling packet_spelling gram_in packet_in packet_fault gram_fault life_of to_of lowered
octets_are = refl

now_is : third.network.now ≡ 40
now_is = refl

last_kept : KeepsTurn lists_none (Does 1 (Arrives 40 1 (frame_of 2 0 third) 0)) third
last_kept = (record { clock = refl; most = omega arith }, λ clear. record { flight = reply; left = is_left; octets = octets_are; in_time = omega (arith, now_is) })

pub all_kept : KeepsTurns lists_none answered_unlisted without_routes
all_kept = keeps_append lists_none learnt (Does 1 (Arrives 40 1 (frame_of 2 0 third) 0) ∷ []) without_routes learnt_kept (last_kept, tt)
