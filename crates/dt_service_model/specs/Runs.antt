-- Eleven worked runs: what is done in each. The contracts of the crate say what is told.
use Rattle.std.specs.Prelude.{ℕ, List, [], ◌∷◌}
use Rattle.dt_world_model.specs.Worked.{standard}
use Rattle.dt_service_model.specs.Names.{number_with}
use Rattle.dt_service_model.specs.Worked.{Calls, ClientRestarts, ClientTicks, Deed, Pair, Replies, ServerRestarts, ServerTicks, ToClient, ToServer, five, pair_with}

-- segments of ten octets and a window of 25; and a send record that holds 40
abbrev pub narrow : Pair
narrow = pair_with (record standard { seg = 10; window = 25 })

abbrev pub short_of_room : Pair
short_of_room = pair_with (record standard { cap = 40 })

abbrev pub answered_in_any_order : List (ℕ × Deed)
answered_in_any_order =
    (0, Calls (97 ∷ []) 8000)
    ∷ (0, Calls (98 ∷ []) 8000)
    ∷ (40, ToServer 0)
    ∷ (40, ToServer 1)
    ∷ (70, Replies (five 1) (66 ∷ []))
    ∷ (70, Replies (five 0) (65 ∷ []))
    ∷ (70, Replies (five 0) (65 ∷ 50 ∷ []))
    ∷ (110, ToClient 2)
    ∷ (110, ToClient 3)
    ∷ []

abbrev pub request_lost : List (ℕ × Deed)
request_lost =
    (0, Calls (97 ∷ []) 8000)
    ∷ (5199, ClientTicks)
    ∷ (5200, ClientTicks)
    ∷ []

abbrev pub reply_late : List (ℕ × Deed)
reply_late =
    (0, Calls (97 ∷ []) 3000)
    ∷ (40, ToServer 0)
    ∷ (40, Replies (five 0) (65 ∷ []))
    ∷ (3000, ClientTicks)
    ∷ (3000, ServerTicks)
    ∷ (3010, ToClient 2)
    ∷ []

abbrev pub reply_given_up : List (ℕ × Deed)
reply_given_up =
    (0, Calls (97 ∷ []) 8000)
    ∷ (0, Calls (98 ∷ []) 8000)
    ∷ (40, ToServer 0)
    ∷ (40, ToServer 1)
    ∷ (40, ToClient 1)
    ∷ (40, Replies (five 0) (65 ∷ []))
    ∷ (40, Replies (five 1) (66 ∷ []))
    ∷ (5239, ServerTicks)
    ∷ (5240, ServerTicks)
    ∷ (8000, ClientTicks)
    ∷ []

abbrev pub client_restarts_at_a_slow_service : List (ℕ × Deed)
client_restarts_at_a_slow_service =
    (0, Calls (112 ∷ 97 ∷ 121 ∷ 32 ∷ 65 ∷ []) 8000)
    ∷ (40, ToServer 0)
    ∷ (100, ClientRestarts 6)
    ∷ (6299, Calls (112 ∷ 97 ∷ 121 ∷ 32 ∷ 66 ∷ []) 8000)
    ∷ (6300, Calls (112 ∷ 97 ∷ 121 ∷ 32 ∷ 66 ∷ []) 8000)
    ∷ (6320, ToServer 1)
    ∷ (6320, Replies (five 0) (112 ∷ 97 ∷ 105 ∷ 100 ∷ 32 ∷ 65 ∷ []))
    ∷ (6340, ToClient 2)
    ∷ (6340, Replies (number_with 6 0) (112 ∷ 97 ∷ 105 ∷ 100 ∷ 32 ∷ 66 ∷ []))
    ∷ (6360, ToClient 3)
    ∷ []

abbrev pub server_restarts_before_its_reply : List (ℕ × Deed)
server_restarts_before_its_reply =
    (0, Calls (97 ∷ []) 8000)
    ∷ (40, ToServer 0)
    ∷ (40, ToClient 0)
    ∷ (100, ServerRestarts 2)
    ∷ (100, Replies (five 0) (65 ∷ []))
    ∷ (6400, Replies (five 0) (65 ∷ []))
    ∷ (6400, Calls (98 ∷ []) 1000)
    ∷ (6410, ToServer 1)
    ∷ (6410, Replies (five 1) (66 ∷ []))
    ∷ (6420, ToClient 2)
    ∷ (8000, ClientTicks)
    ∷ []

abbrev pub given_up_and_served : List (ℕ × Deed)
given_up_and_served =
    (0, Calls (97 ∷ []) 8000)
    ∷ (1, Calls (98 ∷ []) 8000)
    ∷ (40, ToServer 0)
    ∷ (40, ToServer 1)
    ∷ (5151, Replies (five 0) (65 ∷ []))
    ∷ (5151, Replies (five 1) (66 ∷ []))
    ∷ (5200, ToClient 2)
    ∷ (5201, ClientTicks)
    ∷ (5201, ToClient 3)
    ∷ []

abbrev pub tail_and_head_lost : List (ℕ × Deed)
tail_and_head_lost =
    (0, Calls (65 ∷ 65 ∷ 65 ∷ 65 ∷ 65 ∷ 65 ∷ 65 ∷ []) 8000)
    ∷ (0, Calls (66 ∷ 66 ∷ 66 ∷ 66 ∷ 66 ∷ 66 ∷ 66 ∷ []) 8000)
    ∷ (2500, ClientTicks)
    ∷ (2540, ToServer 3)
    ∷ (2740, ServerTicks)
    ∷ (2750, ToClient 0)
    ∷ (4750, ClientTicks)
    ∷ (5200, ClientTicks)
    ∷ (5250, ClientTicks)
    ∷ (5260, ToServer 8)
    ∷ (5260, Calls (67 ∷ 67 ∷ []) 8000)
    ∷ (5270, ToServer 9)
    ∷ []

abbrev pub no_room_for_a_reply : List (ℕ × Deed)
no_room_for_a_reply =
    (0, Calls (48 ∷ 49 ∷ 50 ∷ 51 ∷ 52 ∷ 53 ∷ 54 ∷ 55 ∷ 56 ∷ 57 ∷ 48 ∷ 49 ∷ 50 ∷ 51 ∷ 52 ∷ 53 ∷ 54 ∷ 55 ∷ 56 ∷ 57 ∷ []) 8000)
    ∷ (0, Calls (97 ∷ 110 ∷ 111 ∷ 116 ∷ 104 ∷ 101 ∷ 114 ∷ 32 ∷ 116 ∷ 119 ∷ 101 ∷ 110 ∷ 116 ∷ 121 ∷ 32 ∷ 99 ∷ 104 ∷ 97 ∷ 114 ∷ 115 ∷ []) 8000)
    ∷ (0, Calls (98 ∷ []) 8000)
    ∷ (40, ToServer 0)
    ∷ (40, ToServer 1)
    ∷ (40, Replies (five 0) (48 ∷ 49 ∷ 50 ∷ 51 ∷ 52 ∷ 53 ∷ 54 ∷ 55 ∷ 56 ∷ 57 ∷ 48 ∷ 49 ∷ 50 ∷ 51 ∷ 52 ∷ 53 ∷ 54 ∷ 55 ∷ 56 ∷ 57 ∷ []))
    ∷ (40, Replies (five 1) (97 ∷ 32 ∷ 114 ∷ 101 ∷ 112 ∷ 108 ∷ 121 ∷ 32 ∷ 111 ∷ 102 ∷ 32 ∷ 50 ∷ 50 ∷ 32 ∷ 108 ∷ 101 ∷ 116 ∷ 116 ∷ 101 ∷ 114 ∷ 115 ∷ 33 ∷ []))
    ∷ (80, ToClient 2)
    ∷ (90, ToServer 2)
    ∷ (90, Replies (five 1) (97 ∷ 32 ∷ 114 ∷ 101 ∷ 112 ∷ 108 ∷ 121 ∷ 32 ∷ 111 ∷ 102 ∷ 32 ∷ 50 ∷ 50 ∷ 32 ∷ 108 ∷ 101 ∷ 116 ∷ 116 ∷ 101 ∷ 114 ∷ 115 ∷ 33 ∷ []))
    ∷ (100, ToClient 3)
    ∷ []

abbrev pub asked_again : List (ℕ × Deed)
asked_again =
    (0, Calls (111 ∷ 114 ∷ 100 ∷ 101 ∷ 114 ∷ 32 ∷ 49 ∷ 55 ∷ []) 300)
    ∷ (300, ClientTicks)
    ∷ (300, Calls (119 ∷ 97 ∷ 115 ∷ 32 ∷ 49 ∷ 55 ∷ 32 ∷ 98 ∷ 111 ∷ 111 ∷ 107 ∷ 101 ∷ 100 ∷ 63 ∷ []) 8000)
    ∷ (500, ClientTicks)
    ∷ (510, ToServer 2)
    ∷ (510, Replies (five 0) (98 ∷ 111 ∷ 111 ∷ 107 ∷ 101 ∷ 100 ∷ []))
    ∷ (550, ToClient 1)
    ∷ (800, ClientTicks)
    ∷ (1110, ToServer 4)
    ∷ (1110, Replies (five 1) (121 ∷ 101 ∷ 115 ∷ []))
    ∷ (1120, ToClient 4)
    ∷ []

abbrev pub life_used_twice : List (ℕ × Deed)
life_used_twice =
    (0, Calls (112 ∷ 97 ∷ 121 ∷ 32 ∷ 65 ∷ []) 8000)
    ∷ (0, Calls (112 ∷ 97 ∷ 121 ∷ 32 ∷ 67 ∷ []) 8000)
    ∷ (40, ToServer 0)
    ∷ (40, ToServer 1)
    ∷ (100, ClientRestarts 5)
    ∷ (6300, Calls (112 ∷ 97 ∷ 121 ∷ 32 ∷ 66 ∷ []) 8000)
    ∷ (6300, Replies (five 0) (112 ∷ 97 ∷ 105 ∷ 100 ∷ 32 ∷ 65 ∷ []))
    ∷ (6300, Replies (five 1) (112 ∷ 97 ∷ 105 ∷ 100 ∷ 32 ∷ 67 ∷ []))
    ∷ (6310, ToClient 2)
    ∷ (6310, ToClient 3)
    ∷ (6310, ToServer 2)
    ∷ []
