-- The premises of the second worked network, each turn that brings a datagram by itself.
use Rattle.std.proofs.Common.{◌≡◌, ℕ, Bool, true, false, List, [], ◌∷◌, ◌++◌, get_or, Some, refl, arith}
use Rattle.std.specs.Prelude.{Contains}
use Rattle.std.proofs.lemmas.List.Elements.{Contains-append_left}
use Rattle.dt_layout.specs.Spelling.{Data, carrying, gram_spelling, packet_spelling}
use Rattle.dt_layout.specs.Reading.{gram_fault, gram_in, packet_fault, packet_in}
use Rattle.dt_layout.specs.Carried.{life_of, lowered, to_of}
use Rattle.dt_units.specs.Flows.{IsFlow}
use Rattle.dt_world_model.specs.Worked.{main_flow}
use Rattle.dt_calls_model.specs.Messages.{message_of}
use Rattle.dt_network.specs.Network.{Flight, Setup}
use Rattle.dt_service_model.specs.declared.ports.PortKind.TheVariants.{Caller}
use Rattle.dt_service_model.specs.Names.{to_u64, number_with, token_with}
use Rattle.dt_service_model.specs.Worked.{roomy}
use Rattle.dt_service_laws.specs.Premises.{KeepsTurn, KeepsTurns}
use Rattle.dt_service_laws.specs.Services.{Arrives, Does, GivesKind, GivesReply, MakesCall, OpensAgain, Passes, Services, Turn, services_after, services_by}
use Rattle.dt_service_laws.specs.Worked.{called, frame_of, handed_out, other_options, replied_late, restarted, started_again, two_nodes, two_services}

pub keeps_append : (setup : Setup) (xs ys : List Turn) (s : Services) → KeepsTurns setup xs s → KeepsTurns setup ys (services_by setup xs s) → KeepsTurns setup (xs ++ ys) s
keeps_append setup [] ys s h k = k
keeps_append setup (t ∷ xs) ys s h k = (h.0, keeps_append setup xs ys (services_after setup t s) h.1 k)

abbrev pub no_flight : Flight
no_flight = record { frame = record { link = 0; to = 0; octets = [] }; put = 0 }

pub flow : IsFlow main_flow
flow = record { from = omega arith; from_port = omega arith; to = omega arith; to_port = omega arith }

-- a frame that left as the k-th
abbrev pub the_frame : ℕ → Services → Flight
the_frame k s = get_or s.network.left k no_flight

-- THE FIRST CALL is handed out
pub first_kept : KeepsTurns two_nodes handed_out two_services
unfolding gram_spelling packet_spelling gram_in packet_in packet_fault gram_fault life_of to_of lowered
first_kept = (
  tt,
  (
    tt,
    (
      (record { clock = refl; most = omega arith }, flow),
      (
        tt,
        (
          (record { clock = refl; most = omega arith }, λ clear. record { flight = the_frame 0 (services_by two_nodes called two_services); left = (0, omega arith, refl); octets = refl; in_time = omega arith }),
          tt,
        ),
      ),
    ),
  ),
)

-- THE CLIENT STARTS AGAIN and calls anew
abbrev again : List Turn
again = Does 1 (OpensAgain (Some 40) other_options roomy 6) ∷ Does 1 (GivesKind 10 Caller) ∷ Passes 6200 ∷ Does 1 (MakesCall 6240 main_flow (98 ∷ []) 8000) ∷ []

again_kept : KeepsTurns two_nodes again (services_by two_nodes handed_out two_services)
again_kept = ((record { now = 40; told = refl; time = record { clock = refl; most = omega arith } }, omega arith), (tt, (tt, ((record { clock = refl; most = omega arith }, flow), tt))))

pub again_started : KeepsTurns two_nodes started_again two_services
again_started = keeps_append two_nodes handed_out again two_services first_kept again_kept

-- ITS CALL COMES
abbrev second : Services
second = services_by two_nodes started_again two_services

second_kept : KeepsTurn two_nodes (Does 2 (Arrives 6240 7 (frame_of 1 0 second) 0)) second
unfolding gram_spelling packet_spelling gram_in packet_in packet_fault gram_fault life_of to_of lowered
second_kept = (record { clock = refl; most = omega arith }, λ clear. record { flight = the_frame 2 second; left = (2, omega arith, refl); octets = refl; in_time = omega arith })

-- both are replied to
abbrev replies : List Turn
replies = Does 2 (Arrives 6240 7 (frame_of 1 0 second) 0) ∷ Does 2 (GivesReply 6240 (token_with main_flow (number_with 5 0)) (65 ∷ [])) ∷ Does 2 (GivesReply 6240 (token_with main_flow (number_with 6 0)) (66 ∷ [])) ∷ []

replies_kept : KeepsTurns two_nodes replies second
replies_kept = (second_kept, ((record { clock = refl; most = omega arith }, flow), ((record { clock = refl; most = omega arith }, flow), tt)))

late_replied : KeepsTurns two_nodes replied_late two_services
late_replied = keeps_append two_nodes started_again replies two_services again_started replies_kept

-- THE REPLIES COME
abbrev third : Services
third = services_by two_nodes replied_late two_services

-- the replies as they left, in one computation each
abbrev replied_with : (number : ℕ) (run : Bool) (life octet : ℕ) → Flight
replied_with number run life octet = record { frame = record { link = 7; to = 1; octets = gram_spelling (carrying 999 2 1 (Data 20 10 number run true true (message_of (to_u64 (number_with life 0)) (octet ∷ [])))) }; put = 6240 }

first_left : Contains third.network.left (replied_with 0 true 5 65)
unfolding gram_spelling packet_spelling gram_in packet_in packet_fault gram_fault life_of to_of lowered
first_left = (4, omega arith, refl)

first_octets : (replied_with 0 true 5 65).frame.octets ≡ frame_of 2 2 third
unfolding gram_spelling packet_spelling gram_in packet_in packet_fault gram_fault life_of to_of lowered
first_octets = refl

last_left : Contains third.network.left (replied_with 9 false 6 66)
unfolding gram_spelling packet_spelling gram_in packet_in packet_fault gram_fault life_of to_of lowered
last_left = (5, omega arith, refl)

last_octets : (replied_with 9 false 6 66).frame.octets ≡ frame_of 2 3 third
unfolding gram_spelling packet_spelling gram_in packet_in packet_fault gram_fault life_of to_of lowered
last_octets = refl

now_is : third.network.now ≡ 6240
now_is = refl

abbrev first_reply : Turn
first_reply = Does 1 (Arrives 6240 3 (frame_of 2 2 third) 0)

late_kept : KeepsTurn two_nodes first_reply third
late_kept = (record { clock = refl; most = omega arith }, λ clear. record { flight = replied_with 0 true 5 65; left = first_left; octets = first_octets; in_time = omega (arith, now_is) })

abbrev last_reply : Turn
last_reply = Does 1 (Arrives 6240 3 (frame_of 2 3 third) 0)

last_kept : KeepsTurn two_nodes last_reply (services_after two_nodes first_reply third)
last_kept = (record { clock = refl; most = omega arith }, λ clear. record { flight = replied_with 9 false 6 66; left = Contains-append_left third.network.left _ (replied_with 9 false 6 66) last_left; octets = last_octets; in_time = omega (arith, now_is) })

pub all_kept : KeepsTurns two_nodes restarted two_services
all_kept = keeps_append two_nodes replied_late (first_reply ∷ last_reply ∷ []) two_services late_replied (late_kept, (last_kept, tt))
