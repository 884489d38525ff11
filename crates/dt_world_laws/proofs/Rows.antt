-- Worked rows: what the definitions compute of whole schedules.
use Rattle.std.specs.Prelude.{ℕ, ◌≡◌, true, false, List, [], ◌∷◌, ◌++◌, replicate, Option, Some, None}
use Rattle.std.proofs.Common.{refl}
use Rattle.dt_reports.specs.declared.faults.StepFault.{StepFault}
use Rattle.dt_reports.specs.declared.faults.StepFault.TheVariants as X
use Rattle.dt_reports.specs.declared.faults.Refusal.TheVariants as Y
use Rattle.dt_reports.specs.declared.reports.Report.TheVariants as T
use Rattle.dt_reports.specs.Entries.{Entry}
use Rattle.dt_reports.specs.Told.{read_told}
use Rattle.dt_layout.specs.Spelling.{gram_spelling, packet_spelling}
use Rattle.dt_layout.specs.Reading.{gram_in, packet_in, packet_fault, gram_fault}
use Rattle.dt_layout.specs.Carried.{life_of, to_of, lowered}
use Rattle.dt_flow_model.specs.Frames.{flow_between}
use Rattle.dt_world_model.specs.World.{World}
use Rattle.dt_world_model.specs.WorldStep.{Outcome, Refused, Stepped, WorldEvent, Passes, Sends, Reads, Ticks, Arrives, Loses, Restarts, world_step}
use Rattle.dt_world_model.specs.Setup.{new_world}
use Rattle.dt_world_model.specs.Worked.{bare_line, line}

-- the lines of a list of events up to the first that is refused, and its fault
abbrev before_lines : List Entry → List Entry × Option StepFault → List Entry × Option StepFault
before_lines lines r = (lines ++ r.0, r.1)

abbrev on_outcome : (World → List Entry × Option StepFault) → Outcome → List Entry × Option StepFault
on_outcome again (Refused f) = ([], Some f)
on_outcome again (Stepped lines after) = before_lines lines (again after)

abbrev up_to_fault : List WorldEvent → World → List Entry × Option StepFault
up_to_fault [] w = ([], None)
up_to_fault (e ∷ es) w = on_outcome (up_to_fault es) (world_step w e)

abbrev lost : ℕ → ℕ → Entry
lost moment copy = bare_line moment (T.Lost copy)

abbrev row_01_short_exchange_world : World
row_01_short_exchange_world = new_world (record { params = record { mpl = 1000; r = 3000; a = 200; rto = 500; probe = 800; seg = 100; cap = 4096; rcap = 4096; window = 512; run_limit = 2147483648; start = 0 }; stations = ((1, 0) ∷ (2, 0) ∷ []); links = ((record { link = 1; from = 1; to = 2; charge = 50; pace = 0 }) ∷ (record { link = 2; from = 2; to = 1; charge = 50; pace = 0 }) ∷ []); routes = ((1, record { to = 2; link = 1 }) ∷ (2, record { to = 1; link = 2 }) ∷ []) })

row_01_short_exchange : up_to_fault (Sends (flow_between 1 10 2 20) (104 ∷ 101 ∷ 108 ∷ 108 ∷ 111 ∷ []) true true ∷ Passes 40 ∷ Arrives 0 ∷ Passes 30 ∷ Arrives 1 ∷ Reads (flow_between 1 10 2 20) 100 ∷ []) row_01_short_exchange_world ≡ ((line 0 1 (T.Took (flow_between 1 10 2 20) 5) ∷ line 0 1 (T.Sent (flow_between 1 10 2 20) 0 5 true true true) ∷ line 0 1 (T.PutAs 1 999 0) ∷ line 40 2 (T.Accepted (flow_between 1 10 2 20) 0 5 true) ∷ line 40 2 (T.Acked (flow_between 1 10 2 20) 5 4091) ∷ line 40 2 (T.PutAs 2 999 1) ∷ line 70 1 (T.Settled (flow_between 1 10 2 20) 5 4091) ∷ line 70 2 (read_told (flow_between 1 10 2 20) true true true (104 ∷ 101 ∷ 108 ∷ 108 ∷ 111 ∷ [])) ∷ []), None)
unfolding gram_spelling packet_spelling gram_in packet_in packet_fault gram_fault life_of to_of lowered
row_01_short_exchange = refl

abbrev row_02_setup_alone_world : World
row_02_setup_alone_world = new_world (record { params = record { mpl = 1000; r = 3000; a = 200; rto = 500; probe = 800; seg = 100; cap = 4096; rcap = 4096; window = 512; run_limit = 2147483648; start = 0 }; stations = ((1, 0) ∷ (2, 0) ∷ []); links = ((record { link = 1; from = 1; to = 2; charge = 50; pace = 0 }) ∷ (record { link = 2; from = 2; to = 1; charge = 50; pace = 0 }) ∷ []); routes = ((1, record { to = 2; link = 1 }) ∷ (2, record { to = 1; link = 2 }) ∷ []) })

row_02_setup_alone : up_to_fault ([]) row_02_setup_alone_world ≡ (([]), None)
unfolding gram_spelling packet_spelling gram_in packet_in packet_fault gram_fault life_of to_of lowered
row_02_setup_alone = refl

abbrev row_03_three_packets_world : World
row_03_three_packets_world = new_world (record { params = record { mpl = 1000; r = 3000; a = 200; rto = 500; probe = 800; seg = 100; cap = 4096; rcap = 4096; window = 512; run_limit = 2147483648; start = 0 }; stations = ((1, 0) ∷ (2, 0) ∷ []); links = ((record { link = 1; from = 1; to = 2; charge = 50; pace = 0 }) ∷ (record { link = 2; from = 2; to = 1; charge = 50; pace = 0 }) ∷ []); routes = ((1, record { to = 2; link = 1 }) ∷ (2, record { to = 1; link = 2 }) ∷ []) })

row_03_three_packets : up_to_fault (Sends (flow_between 1 10 2 20) (replicate 250 97) true true ∷ []) row_03_three_packets_world ≡ ((line 0 1 (T.Took (flow_between 1 10 2 20) 250) ∷ line 0 1 (T.Sent (flow_between 1 10 2 20) 0 100 true true false) ∷ line 0 1 (T.PutAs 1 999 0) ∷ line 0 1 (T.Sent (flow_between 1 10 2 20) 100 100 false false false) ∷ line 0 1 (T.PutAs 1 999 1) ∷ line 0 1 (T.Sent (flow_between 1 10 2 20) 200 50 false false true) ∷ line 0 1 (T.PutAs 1 999 2) ∷ []), None)
unfolding gram_spelling packet_spelling gram_in packet_in packet_fault gram_fault life_of to_of lowered
row_03_three_packets = refl

abbrev row_04_full_world : World
row_04_full_world = new_world (record { params = record { mpl = 1000; r = 3000; a = 200; rto = 500; probe = 800; seg = 100; cap = 8; rcap = 4096; window = 512; run_limit = 2147483648; start = 0 }; stations = ((1, 0) ∷ (2, 0) ∷ []); links = ((record { link = 1; from = 1; to = 2; charge = 50; pace = 0 }) ∷ (record { link = 2; from = 2; to = 1; charge = 50; pace = 0 }) ∷ []); routes = ((1, record { to = 2; link = 1 }) ∷ (2, record { to = 1; link = 2 }) ∷ []) })

row_04_full : up_to_fault (Sends (flow_between 1 10 2 20) (97 ∷ 97 ∷ 97 ∷ 97 ∷ 97 ∷ 97 ∷ 97 ∷ 97 ∷ []) false false ∷ Sends (flow_between 1 10 2 20) (97 ∷ []) false false ∷ []) row_04_full_world ≡ ((line 0 1 (T.Took (flow_between 1 10 2 20) 8) ∷ line 0 1 (T.Sent (flow_between 1 10 2 20) 0 8 true false false) ∷ line 0 1 (T.PutAs 1 999 0) ∷ line 0 1 (T.Refused (flow_between 1 10 2 20) (Y.Full 0)) ∷ []), None)
unfolding gram_spelling packet_spelling gram_in packet_in packet_fault gram_fault life_of to_of lowered
row_04_full = refl

abbrev row_05_duplicates_world : World
row_05_duplicates_world = new_world (record { params = record { mpl = 1000; r = 3000; a = 200; rto = 500; probe = 800; seg = 100; cap = 4096; rcap = 4096; window = 512; run_limit = 2147483648; start = 0 }; stations = ((1, 0) ∷ (2, 0) ∷ []); links = ((record { link = 1; from = 1; to = 2; charge = 50; pace = 0 }) ∷ (record { link = 2; from = 2; to = 1; charge = 50; pace = 0 }) ∷ []); routes = ((1, record { to = 2; link = 1 }) ∷ (2, record { to = 1; link = 2 }) ∷ []) })

row_05_duplicates : up_to_fault (Sends (flow_between 1 10 2 20) (104 ∷ 101 ∷ 108 ∷ 108 ∷ 111 ∷ []) true true ∷ Arrives 0 ∷ Arrives 0 ∷ Arrives 0 ∷ []) row_05_duplicates_world ≡ ((line 0 1 (T.Took (flow_between 1 10 2 20) 5) ∷ line 0 1 (T.Sent (flow_between 1 10 2 20) 0 5 true true true) ∷ line 0 1 (T.PutAs 1 999 0) ∷ line 0 2 (T.Accepted (flow_between 1 10 2 20) 0 5 true) ∷ line 0 2 (T.Acked (flow_between 1 10 2 20) 5 4091) ∷ line 0 2 (T.PutAs 2 999 1) ∷ line 0 2 (T.Replied (flow_between 1 10 2 20) 5 4091) ∷ line 0 2 (T.PutAs 2 999 2) ∷ line 0 2 (T.Replied (flow_between 1 10 2 20) 5 4091) ∷ line 0 2 (T.PutAs 2 999 3) ∷ []), None)
unfolding gram_spelling packet_spelling gram_in packet_in packet_fault gram_fault life_of to_of lowered
row_05_duplicates = refl

abbrev row_06_reordered_world : World
row_06_reordered_world = new_world (record { params = record { mpl = 1000; r = 3000; a = 200; rto = 500; probe = 800; seg = 100; cap = 4096; rcap = 4096; window = 512; run_limit = 2147483648; start = 0 }; stations = ((1, 0) ∷ (2, 0) ∷ []); links = ((record { link = 1; from = 1; to = 2; charge = 50; pace = 0 }) ∷ (record { link = 2; from = 2; to = 1; charge = 50; pace = 0 }) ∷ []); routes = ((1, record { to = 2; link = 1 }) ∷ (2, record { to = 1; link = 2 }) ∷ []) })

row_06_reordered : up_to_fault (Sends (flow_between 1 10 2 20) (replicate 250 97) true true ∷ Arrives 2 ∷ Arrives 0 ∷ Arrives 2 ∷ Arrives 1 ∷ Passes 200 ∷ Ticks 2 ∷ Arrives 4 ∷ Passes 300 ∷ Ticks 1 ∷ Arrives 5 ∷ Arrives 6 ∷ Reads (flow_between 1 10 2 20) 300 ∷ []) row_06_reordered_world ≡ ((line 0 1 (T.Took (flow_between 1 10 2 20) 250) ∷ line 0 1 (T.Sent (flow_between 1 10 2 20) 0 100 true true false) ∷ line 0 1 (T.PutAs 1 999 0) ∷ line 0 1 (T.Sent (flow_between 1 10 2 20) 100 100 false false false) ∷ line 0 1 (T.PutAs 1 999 1) ∷ line 0 1 (T.Sent (flow_between 1 10 2 20) 200 50 false false true) ∷ line 0 1 (T.PutAs 1 999 2) ∷ line 0 2 (T.Dropped (flow_between 1 10 2 20) 200) ∷ line 0 2 (T.Accepted (flow_between 1 10 2 20) 0 100 true) ∷ line 0 2 (T.Replied (flow_between 1 10 2 20) 100 3996) ∷ line 0 2 (T.PutAs 2 999 3) ∷ line 0 2 (T.Accepted (flow_between 1 10 2 20) 100 100 false) ∷ line 200 2 (T.Acked (flow_between 1 10 2 20) 200 3896) ∷ line 200 2 (T.PutAs 2 999 4) ∷ line 200 1 (T.Settled (flow_between 1 10 2 20) 200 3896) ∷ line 500 1 (T.Resent (flow_between 1 10 2 20) 200 50 true false true) ∷ line 500 1 (T.PutAs 1 999 5) ∷ line 500 2 (T.Accepted (flow_between 1 10 2 20) 200 50 false) ∷ line 500 2 (T.Acked (flow_between 1 10 2 20) 250 3846) ∷ line 500 2 (T.PutAs 2 999 6) ∷ line 500 1 (T.Settled (flow_between 1 10 2 20) 50 3846) ∷ line 500 2 (read_told (flow_between 1 10 2 20) true true true (replicate 250 97)) ∷ []), None)
unfolding gram_spelling packet_spelling gram_in packet_in packet_fault gram_fault life_of to_of lowered
row_06_reordered = refl

abbrev row_07_old_copy_world : World
row_07_old_copy_world = new_world (record { params = record { mpl = 1000; r = 3000; a = 200; rto = 500; probe = 800; seg = 100; cap = 4096; rcap = 4096; window = 512; run_limit = 2147483648; start = 0 }; stations = ((1, 0) ∷ (2, 0) ∷ []); links = ((record { link = 1; from = 1; to = 2; charge = 950; pace = 0 }) ∷ (record { link = 2; from = 2; to = 1; charge = 50; pace = 0 }) ∷ []); routes = ((1, record { to = 2; link = 1 }) ∷ (2, record { to = 1; link = 2 }) ∷ []) })

row_07_old_copy : up_to_fault (Sends (flow_between 1 10 2 20) (104 ∷ 101 ∷ 108 ∷ 108 ∷ 111 ∷ []) true true ∷ Arrives 0 ∷ Passes 2999 ∷ Ticks 1 ∷ Passes 950 ∷ Arrives 2 ∷ []) row_07_old_copy_world ≡ ((line 0 1 (T.Took (flow_between 1 10 2 20) 5) ∷ line 0 1 (T.Sent (flow_between 1 10 2 20) 0 5 true true true) ∷ line 0 1 (T.PutAs 1 999 0) ∷ line 0 2 (T.Accepted (flow_between 1 10 2 20) 0 5 true) ∷ line 0 2 (T.Acked (flow_between 1 10 2 20) 5 4091) ∷ line 0 2 (T.PutAs 2 999 1) ∷ line 2999 1 (T.Resent (flow_between 1 10 2 20) 0 5 true true true) ∷ line 2999 1 (T.PutAs 1 999 2) ∷ line 3949 2 (T.Replied (flow_between 1 10 2 20) 5 4091) ∷ line 3949 2 (T.PutAs 2 999 3) ∷ []), None)
unfolding gram_spelling packet_spelling gram_in packet_in packet_fault gram_fault life_of to_of lowered
row_07_old_copy = refl

abbrev row_08_receive_timer_world : World
row_08_receive_timer_world = new_world (record { params = record { mpl = 1000; r = 3000; a = 200; rto = 500; probe = 800; seg = 100; cap = 4096; rcap = 4096; window = 512; run_limit = 2147483648; start = 0 }; stations = ((1, 0) ∷ (2, 0) ∷ []); links = ((record { link = 1; from = 1; to = 2; charge = 50; pace = 0 }) ∷ (record { link = 2; from = 2; to = 1; charge = 50; pace = 0 }) ∷ []); routes = ((1, record { to = 2; link = 1 }) ∷ (2, record { to = 1; link = 2 }) ∷ []) })

row_08_receive_timer : up_to_fault (Sends (flow_between 1 10 2 20) (104 ∷ 101 ∷ 108 ∷ 108 ∷ 111 ∷ []) true true ∷ Arrives 0 ∷ Passes 4199 ∷ Ticks 2 ∷ Passes 1 ∷ Ticks 2 ∷ []) row_08_receive_timer_world ≡ ((line 0 1 (T.Took (flow_between 1 10 2 20) 5) ∷ line 0 1 (T.Sent (flow_between 1 10 2 20) 0 5 true true true) ∷ line 0 1 (T.PutAs 1 999 0) ∷ line 0 2 (T.Accepted (flow_between 1 10 2 20) 0 5 true) ∷ line 0 2 (T.Acked (flow_between 1 10 2 20) 5 4091) ∷ line 0 2 (T.PutAs 2 999 1) ∷ line 4200 2 (T.Released (flow_between 1 10 2 20) false) ∷ []), None)
unfolding gram_spelling packet_spelling gram_in packet_in packet_fault gram_fault life_of to_of lowered
row_08_receive_timer = refl

abbrev row_09_too_late_world : World
row_09_too_late_world = new_world (record { params = record { mpl = 1000; r = 3000; a = 200; rto = 500; probe = 800; seg = 100; cap = 4096; rcap = 4096; window = 512; run_limit = 2147483648; start = 0 }; stations = ((1, 0) ∷ (2, 0) ∷ []); links = ((record { link = 1; from = 1; to = 2; charge = 50; pace = 0 }) ∷ (record { link = 2; from = 2; to = 1; charge = 50; pace = 0 }) ∷ []); routes = ((1, record { to = 2; link = 1 }) ∷ (2, record { to = 1; link = 2 }) ∷ []) })

row_09_too_late : up_to_fault (Sends (flow_between 1 10 2 20) (104 ∷ 101 ∷ 108 ∷ 108 ∷ 111 ∷ []) true true ∷ Passes 50 ∷ Arrives 0 ∷ Passes 1 ∷ Arrives 0 ∷ []) row_09_too_late_world ≡ ((line 0 1 (T.Took (flow_between 1 10 2 20) 5) ∷ line 0 1 (T.Sent (flow_between 1 10 2 20) 0 5 true true true) ∷ line 0 1 (T.PutAs 1 999 0) ∷ line 50 2 (T.Accepted (flow_between 1 10 2 20) 0 5 true) ∷ line 50 2 (T.Acked (flow_between 1 10 2 20) 5 4091) ∷ line 50 2 (T.PutAs 2 999 1) ∷ []), Some (X.TooLate 51 50))
unfolding gram_spelling packet_spelling gram_in packet_in packet_fault gram_fault life_of to_of lowered
row_09_too_late = refl

abbrev row_10_relay_expired_world : World
row_10_relay_expired_world = new_world (record { params = record { mpl = 1000; r = 3000; a = 200; rto = 500; probe = 800; seg = 100; cap = 4096; rcap = 4096; window = 512; run_limit = 2147483648; start = 0 }; stations = ((1, 0) ∷ (2, 0) ∷ (3, 0) ∷ []); links = ((record { link = 1; from = 1; to = 3; charge = 998; pace = 0 }) ∷ (record { link = 2; from = 3; to = 2; charge = 50; pace = 0 }) ∷ []); routes = ((1, record { to = 2; link = 1 }) ∷ (3, record { to = 2; link = 2 }) ∷ []) })

row_10_relay_expired : up_to_fault (Sends (flow_between 1 10 2 20) (104 ∷ 101 ∷ 108 ∷ 108 ∷ 111 ∷ []) true true ∷ Arrives 0 ∷ []) row_10_relay_expired_world ≡ ((line 0 1 (T.Took (flow_between 1 10 2 20) 5) ∷ line 0 1 (T.Sent (flow_between 1 10 2 20) 0 5 true true true) ∷ line 0 1 (T.PutAs 1 999 0) ∷ line 0 3 (T.ExpiredOut 2) ∷ []), None)
unfolding gram_spelling packet_spelling gram_in packet_in packet_fault gram_fault life_of to_of lowered
row_10_relay_expired = refl

abbrev row_10_relay_last_millisecond_world : World
row_10_relay_last_millisecond_world = new_world (record { params = record { mpl = 1000; r = 3000; a = 200; rto = 500; probe = 800; seg = 100; cap = 4096; rcap = 4096; window = 512; run_limit = 2147483648; start = 0 }; stations = ((1, 0) ∷ (2, 0) ∷ (3, 0) ∷ []); links = ((record { link = 1; from = 1; to = 3; charge = 997; pace = 0 }) ∷ (record { link = 2; from = 3; to = 2; charge = 50; pace = 0 }) ∷ []); routes = ((1, record { to = 2; link = 1 }) ∷ (3, record { to = 2; link = 2 }) ∷ []) })

row_10_relay_last_millisecond : up_to_fault (Sends (flow_between 1 10 2 20) (104 ∷ 101 ∷ 108 ∷ 108 ∷ 111 ∷ []) true true ∷ Arrives 0 ∷ Arrives 1 ∷ []) row_10_relay_last_millisecond_world ≡ ((line 0 1 (T.Took (flow_between 1 10 2 20) 5) ∷ line 0 1 (T.Sent (flow_between 1 10 2 20) 0 5 true true true) ∷ line 0 1 (T.PutAs 1 999 0) ∷ line 0 3 (T.PutAs 2 1 1) ∷ line 0 2 (T.ExpiredIn 2) ∷ []), None)
unfolding gram_spelling packet_spelling gram_in packet_in packet_fault gram_fault life_of to_of lowered
row_10_relay_last_millisecond = refl

abbrev row_11_uncertain_world : World
row_11_uncertain_world = new_world (record { params = record { mpl = 1000; r = 3000; a = 200; rto = 500; probe = 800; seg = 100; cap = 4096; rcap = 4096; window = 512; run_limit = 2147483648; start = 0 }; stations = ((1, 0) ∷ (2, 0) ∷ []); links = ((record { link = 1; from = 1; to = 2; charge = 50; pace = 0 }) ∷ (record { link = 2; from = 2; to = 1; charge = 50; pace = 0 }) ∷ []); routes = ((1, record { to = 2; link = 1 }) ∷ (2, record { to = 1; link = 2 }) ∷ []) })

row_11_uncertain : up_to_fault (Sends (flow_between 1 10 2 20) (97 ∷ []) true true ∷ Loses 0 ∷ Passes 2999 ∷ Ticks 1 ∷ Loses 1 ∷ Passes 2200 ∷ Ticks 1 ∷ Passes 1 ∷ Ticks 1 ∷ Sends (flow_between 1 10 2 20) (98 ∷ []) true true ∷ Arrives 2 ∷ Reads (flow_between 1 10 2 20) 10 ∷ []) row_11_uncertain_world ≡ ((line 0 1 (T.Took (flow_between 1 10 2 20) 1) ∷ line 0 1 (T.Sent (flow_between 1 10 2 20) 0 1 true true true) ∷ line 0 1 (T.PutAs 1 999 0) ∷ lost 0 0 ∷ line 2999 1 (T.Resent (flow_between 1 10 2 20) 0 1 true true true) ∷ line 2999 1 (T.PutAs 1 999 1) ∷ lost 2999 1 ∷ line 5200 1 (T.Uncertain (flow_between 1 10 2 20) 1) ∷ line 5200 1 (T.Took (flow_between 1 10 2 20) 1) ∷ line 5200 1 (T.Sent (flow_between 1 10 2 20) 1 1 true true true) ∷ line 5200 1 (T.PutAs 1 999 2) ∷ line 5200 2 (T.Accepted (flow_between 1 10 2 20) 1 1 true) ∷ line 5200 2 (T.Acked (flow_between 1 10 2 20) 2 4095) ∷ line 5200 2 (T.PutAs 2 999 3) ∷ line 5200 2 (read_told (flow_between 1 10 2 20) true true true (98 ∷ [])) ∷ []), None)
unfolding gram_spelling packet_spelling gram_in packet_in packet_fault gram_fault life_of to_of lowered
row_11_uncertain = refl

abbrev row_12_quiet_time_world : World
row_12_quiet_time_world = new_world (record { params = record { mpl = 1000; r = 3000; a = 200; rto = 500; probe = 800; seg = 100; cap = 4096; rcap = 4096; window = 512; run_limit = 2147483648; start = 0 }; stations = ((1, 0) ∷ (2, 0) ∷ []); links = ((record { link = 1; from = 1; to = 2; charge = 50; pace = 0 }) ∷ (record { link = 2; from = 2; to = 1; charge = 50; pace = 0 }) ∷ []); routes = ((1, record { to = 2; link = 1 }) ∷ (2, record { to = 1; link = 2 }) ∷ []) })

row_12_quiet_time : up_to_fault (Sends (flow_between 1 10 2 20) (97 ∷ []) true true ∷ Loses 0 ∷ Restarts 1 ∷ Passes 6199 ∷ Sends (flow_between 1 10 2 20) (98 ∷ []) true true ∷ Passes 1 ∷ Sends (flow_between 1 10 2 20) (98 ∷ []) true true ∷ Arrives 1 ∷ []) row_12_quiet_time_world ≡ ((line 0 1 (T.Took (flow_between 1 10 2 20) 1) ∷ line 0 1 (T.Sent (flow_between 1 10 2 20) 0 1 true true true) ∷ line 0 1 (T.PutAs 1 999 0) ∷ lost 0 0 ∷ line 0 1 (T.Restarted 1) ∷ line 6199 1 (T.Refused (flow_between 1 10 2 20) (Y.Quiet 6200)) ∷ line 6200 1 (T.Took (flow_between 1 10 2 20) 1) ∷ line 6200 1 (T.Sent (flow_between 1 10 2 20) 0 1 true true true) ∷ line 6200 1 (T.PutAs 1 999 1) ∷ line 6200 2 (T.Accepted (flow_between 1 10 2 20) 0 1 true) ∷ line 6200 2 (T.Acked (flow_between 1 10 2 20) 1 4095) ∷ line 6200 2 (T.PutAs 2 999 2) ∷ []), None)
unfolding gram_spelling packet_spelling gram_in packet_in packet_fault gram_fault life_of to_of lowered
row_12_quiet_time = refl

abbrev row_12_quiet_time_own_clock_world : World
row_12_quiet_time_own_clock_world = new_world (record { params = record { mpl = 1000; r = 3000; a = 200; rto = 500; probe = 800; seg = 100; cap = 4096; rcap = 4096; window = 512; run_limit = 2147483648; start = 0 }; stations = ((1, 5) ∷ (2, 0) ∷ []); links = ((record { link = 1; from = 1; to = 2; charge = 50; pace = 0 }) ∷ (record { link = 2; from = 2; to = 1; charge = 50; pace = 0 }) ∷ []); routes = ((1, record { to = 2; link = 1 }) ∷ (2, record { to = 1; link = 2 }) ∷ []) })

row_12_quiet_time_own_clock : up_to_fault (Sends (flow_between 1 10 2 20) (97 ∷ []) true true ∷ Loses 0 ∷ Restarts 1 ∷ Passes 6199 ∷ Sends (flow_between 1 10 2 20) (98 ∷ []) true true ∷ Passes 1 ∷ Sends (flow_between 1 10 2 20) (98 ∷ []) true true ∷ Arrives 1 ∷ []) row_12_quiet_time_own_clock_world ≡ ((line 0 1 (T.Took (flow_between 1 10 2 20) 1) ∷ line 0 1 (T.Sent (flow_between 1 10 2 20) 0 1 true true true) ∷ line 0 1 (T.PutAs 1 999 0) ∷ lost 0 0 ∷ line 0 1 (T.Restarted 1) ∷ line 6199 1 (T.Refused (flow_between 1 10 2 20) (Y.Quiet 6205)) ∷ line 6200 1 (T.Took (flow_between 1 10 2 20) 1) ∷ line 6200 1 (T.Sent (flow_between 1 10 2 20) 0 1 true true true) ∷ line 6200 1 (T.PutAs 1 999 1) ∷ line 6200 2 (T.Accepted (flow_between 1 10 2 20) 0 1 true) ∷ line 6200 2 (T.Acked (flow_between 1 10 2 20) 1 4095) ∷ line 6200 2 (T.PutAs 2 999 2) ∷ []), None)
unfolding gram_spelling packet_spelling gram_in packet_in packet_fault gram_fault life_of to_of lowered
row_12_quiet_time_own_clock = refl

abbrev row_13_receiver_restarts_world : World
row_13_receiver_restarts_world = new_world (record { params = record { mpl = 1000; r = 3000; a = 200; rto = 500; probe = 800; seg = 100; cap = 4096; rcap = 4096; window = 512; run_limit = 2147483648; start = 0 }; stations = ((1, 0) ∷ (2, 0) ∷ []); links = ((record { link = 1; from = 1; to = 2; charge = 50; pace = 0 }) ∷ (record { link = 2; from = 2; to = 1; charge = 50; pace = 0 }) ∷ []); routes = ((1, record { to = 2; link = 1 }) ∷ (2, record { to = 1; link = 2 }) ∷ []) })

row_13_receiver_restarts : up_to_fault (Sends (flow_between 1 10 2 20) (104 ∷ 101 ∷ 108 ∷ 108 ∷ 111 ∷ []) true true ∷ Arrives 0 ∷ Loses 1 ∷ Restarts 2 ∷ Passes 500 ∷ Ticks 1 ∷ Arrives 2 ∷ Passes 4700 ∷ Ticks 1 ∷ Passes 1000 ∷ Reads (flow_between 1 10 2 20) 10 ∷ []) row_13_receiver_restarts_world ≡ ((line 0 1 (T.Took (flow_between 1 10 2 20) 5) ∷ line 0 1 (T.Sent (flow_between 1 10 2 20) 0 5 true true true) ∷ line 0 1 (T.PutAs 1 999 0) ∷ line 0 2 (T.Accepted (flow_between 1 10 2 20) 0 5 true) ∷ line 0 2 (T.Acked (flow_between 1 10 2 20) 5 4091) ∷ line 0 2 (T.PutAs 2 999 1) ∷ lost 0 1 ∷ line 0 2 (T.Restarted 1) ∷ line 500 1 (T.Resent (flow_between 1 10 2 20) 0 5 true true true) ∷ line 500 1 (T.PutAs 1 999 2) ∷ line 500 2 (T.Quiet 6200) ∷ line 5200 1 (T.Uncertain (flow_between 1 10 2 20) 5) ∷ line 6200 2 (T.Nothing (flow_between 1 10 2 20)) ∷ []), None)
unfolding gram_spelling packet_spelling gram_in packet_in packet_fault gram_fault life_of to_of lowered
row_13_receiver_restarts = refl

abbrev row_14_windows_world : World
row_14_windows_world = new_world (record { params = record { mpl = 1000; r = 3000; a = 200; rto = 500; probe = 800; seg = 100; cap = 4096; rcap = 4; window = 4; run_limit = 2147483648; start = 0 }; stations = ((1, 0) ∷ (2, 0) ∷ []); links = ((record { link = 1; from = 1; to = 2; charge = 50; pace = 0 }) ∷ (record { link = 2; from = 2; to = 1; charge = 50; pace = 0 }) ∷ []); routes = ((1, record { to = 2; link = 1 }) ∷ (2, record { to = 1; link = 2 }) ∷ []) })

row_14_windows : up_to_fault (Sends (flow_between 1 10 2 20) (97 ∷ 98 ∷ 99 ∷ 100 ∷ 101 ∷ 102 ∷ []) true true ∷ Arrives 0 ∷ Passes 200 ∷ Ticks 2 ∷ Arrives 1 ∷ Passes 600 ∷ Ticks 1 ∷ Arrives 2 ∷ Arrives 3 ∷ Reads (flow_between 1 10 2 20) 10 ∷ Loses 4 ∷ Passes 800 ∷ Ticks 1 ∷ Arrives 5 ∷ Arrives 6 ∷ Arrives 7 ∷ []) row_14_windows_world ≡ ((line 0 1 (T.Took (flow_between 1 10 2 20) 6) ∷ line 0 1 (T.Sent (flow_between 1 10 2 20) 0 4 true true false) ∷ line 0 1 (T.PutAs 1 999 0) ∷ line 0 2 (T.Accepted (flow_between 1 10 2 20) 0 4 true) ∷ line 200 2 (T.Acked (flow_between 1 10 2 20) 4 0) ∷ line 200 2 (T.PutAs 2 999 1) ∷ line 200 1 (T.Settled (flow_between 1 10 2 20) 4 0) ∷ line 800 1 (T.Met (flow_between 1 10 2 20) 4) ∷ line 800 1 (T.PutAs 1 999 2) ∷ line 800 2 (T.Replied (flow_between 1 10 2 20) 4 0) ∷ line 800 2 (T.PutAs 2 999 3) ∷ line 800 1 (T.Settled (flow_between 1 10 2 20) 0 0) ∷ line 800 2 (read_told (flow_between 1 10 2 20) true true false (97 ∷ 98 ∷ 99 ∷ 100 ∷ [])) ∷ line 800 2 (T.Acked (flow_between 1 10 2 20) 4 4) ∷ line 800 2 (T.PutAs 2 999 4) ∷ lost 800 4 ∷ line 1600 1 (T.Met (flow_between 1 10 2 20) 4) ∷ line 1600 1 (T.PutAs 1 999 5) ∷ line 1600 2 (T.Replied (flow_between 1 10 2 20) 4 4) ∷ line 1600 2 (T.PutAs 2 999 6) ∷ line 1600 1 (T.Settled (flow_between 1 10 2 20) 0 4) ∷ line 1600 1 (T.Sent (flow_between 1 10 2 20) 4 2 true false true) ∷ line 1600 1 (T.PutAs 1 999 7) ∷ line 1600 2 (T.Accepted (flow_between 1 10 2 20) 4 2 false) ∷ line 1600 2 (T.Acked (flow_between 1 10 2 20) 6 2) ∷ line 1600 2 (T.PutAs 2 999 8) ∷ []), None)
unfolding gram_spelling packet_spelling gram_in packet_in packet_fault gram_fault life_of to_of lowered
row_14_windows = refl

abbrev row_15_renewal_world : World
row_15_renewal_world = new_world (record { params = record { mpl = 1000; r = 3000; a = 200; rto = 500; probe = 800; seg = 100; cap = 4096; rcap = 4096; window = 512; run_limit = 8; start = 0 }; stations = ((1, 0) ∷ (2, 0) ∷ []); links = ((record { link = 1; from = 1; to = 2; charge = 50; pace = 0 }) ∷ (record { link = 2; from = 2; to = 1; charge = 50; pace = 0 }) ∷ []); routes = ((1, record { to = 2; link = 1 }) ∷ (2, record { to = 1; link = 2 }) ∷ []) })

row_15_renewal : up_to_fault (Sends (flow_between 1 10 2 20) (97 ∷ 97 ∷ 97 ∷ 97 ∷ 97 ∷ 97 ∷ 97 ∷ 97 ∷ 97 ∷ 97 ∷ 97 ∷ 97 ∷ 97 ∷ 97 ∷ 97 ∷ 97 ∷ 97 ∷ 97 ∷ 97 ∷ 97 ∷ []) true true ∷ Arrives 0 ∷ Passes 200 ∷ Ticks 2 ∷ Arrives 1 ∷ Passes 5999 ∷ Ticks 1 ∷ Passes 1 ∷ Ticks 1 ∷ Arrives 2 ∷ []) row_15_renewal_world ≡ ((line 0 1 (T.Took (flow_between 1 10 2 20) 20) ∷ line 0 1 (T.Sent (flow_between 1 10 2 20) 0 8 true true false) ∷ line 0 1 (T.PutAs 1 999 0) ∷ line 0 2 (T.Accepted (flow_between 1 10 2 20) 0 8 true) ∷ line 200 2 (T.Acked (flow_between 1 10 2 20) 8 4088) ∷ line 200 2 (T.PutAs 2 999 1) ∷ line 200 1 (T.Settled (flow_between 1 10 2 20) 8 4088) ∷ line 6200 1 (T.Renewed (flow_between 1 10 2 20)) ∷ line 6200 1 (T.Sent (flow_between 1 10 2 20) 0 8 true false false) ∷ line 6200 1 (T.PutAs 1 999 2) ∷ line 6200 2 (T.Released (flow_between 1 10 2 20) false) ∷ line 6200 2 (T.Accepted (flow_between 1 10 2 20) 0 8 true) ∷ []), None)
unfolding gram_spelling packet_spelling gram_in packet_in packet_fault gram_fault life_of to_of lowered
row_15_renewal = refl

abbrev row_18_refused_no_copy_world : World
row_18_refused_no_copy_world = new_world (record { params = record { mpl = 1000; r = 3000; a = 200; rto = 500; probe = 800; seg = 100; cap = 4096; rcap = 4096; window = 512; run_limit = 2147483648; start = 0 }; stations = ((1, 0) ∷ (2, 0) ∷ []); links = ((record { link = 1; from = 1; to = 2; charge = 50; pace = 0 }) ∷ (record { link = 2; from = 2; to = 1; charge = 50; pace = 0 }) ∷ []); routes = ((1, record { to = 2; link = 1 }) ∷ (2, record { to = 1; link = 2 }) ∷ []) })

row_18_refused_no_copy : up_to_fault (Arrives 7 ∷ []) row_18_refused_no_copy_world ≡ (([]), Some (X.NoCopy 7))
unfolding gram_spelling packet_spelling gram_in packet_in packet_fault gram_fault life_of to_of lowered
row_18_refused_no_copy = refl

abbrev row_18_refused_no_station_world : World
row_18_refused_no_station_world = new_world (record { params = record { mpl = 1000; r = 3000; a = 200; rto = 500; probe = 800; seg = 100; cap = 4096; rcap = 4096; window = 512; run_limit = 2147483648; start = 0 }; stations = ((1, 0) ∷ (2, 0) ∷ []); links = ((record { link = 1; from = 1; to = 2; charge = 50; pace = 0 }) ∷ (record { link = 2; from = 2; to = 1; charge = 50; pace = 0 }) ∷ []); routes = ((1, record { to = 2; link = 1 }) ∷ (2, record { to = 1; link = 2 }) ∷ []) })

row_18_refused_no_station : up_to_fault (Ticks 9 ∷ []) row_18_refused_no_station_world ≡ (([]), Some (X.NoStation 9))
unfolding gram_spelling packet_spelling gram_in packet_in packet_fault gram_fault life_of to_of lowered
row_18_refused_no_station = refl

abbrev row_18_refused_bad_flow_world : World
row_18_refused_bad_flow_world = new_world (record { params = record { mpl = 1000; r = 3000; a = 200; rto = 500; probe = 800; seg = 100; cap = 4096; rcap = 4096; window = 512; run_limit = 2147483648; start = 0 }; stations = ((1, 0) ∷ (2, 0) ∷ []); links = ((record { link = 1; from = 1; to = 2; charge = 50; pace = 0 }) ∷ (record { link = 2; from = 2; to = 1; charge = 50; pace = 0 }) ∷ []); routes = ((1, record { to = 2; link = 1 }) ∷ (2, record { to = 1; link = 2 }) ∷ []) })

row_18_refused_bad_flow : up_to_fault (Sends (flow_between 1 10 1 20) (97 ∷ []) true true ∷ []) row_18_refused_bad_flow_world ≡ (([]), Some X.BadFlow)
unfolding gram_spelling packet_spelling gram_in packet_in packet_fault gram_fault life_of to_of lowered
row_18_refused_bad_flow = refl

abbrev row_18_refused_lost_world : World
row_18_refused_lost_world = new_world (record { params = record { mpl = 1000; r = 3000; a = 200; rto = 500; probe = 800; seg = 100; cap = 4096; rcap = 4096; window = 512; run_limit = 2147483648; start = 0 }; stations = ((1, 0) ∷ (2, 0) ∷ []); links = ((record { link = 1; from = 1; to = 2; charge = 50; pace = 0 }) ∷ (record { link = 2; from = 2; to = 1; charge = 50; pace = 0 }) ∷ []); routes = ((1, record { to = 2; link = 1 }) ∷ (2, record { to = 1; link = 2 }) ∷ []) })

row_18_refused_lost : up_to_fault (Sends (flow_between 1 10 2 20) (104 ∷ 101 ∷ 108 ∷ 108 ∷ 111 ∷ []) true true ∷ Loses 0 ∷ Arrives 0 ∷ []) row_18_refused_lost_world ≡ ((line 0 1 (T.Took (flow_between 1 10 2 20) 5) ∷ line 0 1 (T.Sent (flow_between 1 10 2 20) 0 5 true true true) ∷ line 0 1 (T.PutAs 1 999 0) ∷ lost 0 0 ∷ []), Some (X.Lost 0))
unfolding gram_spelling packet_spelling gram_in packet_in packet_fault gram_fault life_of to_of lowered
row_18_refused_lost = refl

abbrev row_19_pace_world : World
row_19_pace_world = new_world (record { params = record { mpl = 1000; r = 3000; a = 200; rto = 500; probe = 800; seg = 100; cap = 4096; rcap = 4096; window = 512; run_limit = 2147483648; start = 0 }; stations = ((1, 0) ∷ (2, 0) ∷ []); links = ((record { link = 1; from = 1; to = 2; charge = 50; pace = 10 }) ∷ (record { link = 2; from = 2; to = 1; charge = 50; pace = 0 }) ∷ []); routes = ((1, record { to = 2; link = 1 }) ∷ (2, record { to = 1; link = 2 }) ∷ []) })

row_19_pace : up_to_fault (Sends (flow_between 1 10 2 20) (97 ∷ []) true true ∷ Sends (flow_between 1 10 2 20) (98 ∷ []) true true ∷ Passes 9 ∷ Ticks 1 ∷ Passes 1 ∷ Ticks 1 ∷ []) row_19_pace_world ≡ ((line 0 1 (T.Took (flow_between 1 10 2 20) 1) ∷ line 0 1 (T.Sent (flow_between 1 10 2 20) 0 1 true true true) ∷ line 0 1 (T.PutAs 1 999 0) ∷ line 0 1 (T.Took (flow_between 1 10 2 20) 1) ∷ line 0 1 (T.Sent (flow_between 1 10 2 20) 1 1 false true true) ∷ line 10 1 (T.PutAs 1 989 1) ∷ []), None)
unfolding gram_spelling packet_spelling gram_in packet_in packet_fault gram_fault life_of to_of lowered
row_19_pace = refl

abbrev row_20_no_route_world : World
row_20_no_route_world = new_world (record { params = record { mpl = 1000; r = 3000; a = 200; rto = 500; probe = 800; seg = 100; cap = 4096; rcap = 4096; window = 512; run_limit = 2147483648; start = 0 }; stations = ((1, 0) ∷ (2, 0) ∷ []); links = ((record { link = 1; from = 1; to = 2; charge = 50; pace = 0 }) ∷ (record { link = 2; from = 2; to = 1; charge = 50; pace = 0 }) ∷ []); routes = ((1, record { to = 2; link = 1 }) ∷ (2, record { to = 1; link = 2 }) ∷ []) })

row_20_no_route : up_to_fault (Sends (flow_between 1 10 9 20) (97 ∷ []) true true ∷ []) row_20_no_route_world ≡ ((line 0 1 (T.Took (flow_between 1 10 9 20) 1) ∷ line 0 1 (T.Sent (flow_between 1 10 9 20) 0 1 true true true) ∷ line 0 1 (T.NoRoute 9) ∷ []), None)
unfolding gram_spelling packet_spelling gram_in packet_in packet_fault gram_fault life_of to_of lowered
row_20_no_route = refl

abbrev row_send_meets_after_giving_up_world : World
row_send_meets_after_giving_up_world = new_world (record { params = record { mpl = 1000; r = 3000; a = 200; rto = 500; probe = 800; seg = 100; cap = 4096; rcap = 4096; window = 4; run_limit = 2147483648; start = 0 }; stations = ((1, 0) ∷ (2, 0) ∷ []); links = ((record { link = 1; from = 1; to = 2; charge = 50; pace = 0 }) ∷ (record { link = 2; from = 2; to = 1; charge = 50; pace = 0 }) ∷ []); routes = ((1, record { to = 2; link = 1 }) ∷ (2, record { to = 1; link = 2 }) ∷ []) })

row_send_meets_after_giving_up : up_to_fault (Sends (flow_between 1 10 2 20) (97 ∷ 98 ∷ 99 ∷ 100 ∷ 101 ∷ 102 ∷ []) true true ∷ Loses 0 ∷ Passes 5200 ∷ Ticks 1 ∷ []) row_send_meets_after_giving_up_world ≡ ((line 0 1 (T.Took (flow_between 1 10 2 20) 6) ∷ line 0 1 (T.Sent (flow_between 1 10 2 20) 0 4 true true false) ∷ line 0 1 (T.PutAs 1 999 0) ∷ lost 0 0 ∷ line 5200 1 (T.Uncertain (flow_between 1 10 2 20) 4) ∷ line 5200 1 (T.Met (flow_between 1 10 2 20) 4) ∷ line 5200 1 (T.PutAs 1 999 1) ∷ []), None)
unfolding gram_spelling packet_spelling gram_in packet_in packet_fault gram_fault life_of to_of lowered
row_send_meets_after_giving_up = refl

abbrev row_send_goes_on_after_giving_up_world : World
row_send_goes_on_after_giving_up_world = new_world (record { params = record { mpl = 1000; r = 3000; a = 200; rto = 500; probe = 800; seg = 100; cap = 4096; rcap = 4096; window = 512; run_limit = 2147483648; start = 0 }; stations = ((1, 0) ∷ (2, 0) ∷ []); links = ((record { link = 1; from = 1; to = 2; charge = 50; pace = 0 }) ∷ (record { link = 2; from = 2; to = 1; charge = 50; pace = 0 }) ∷ []); routes = ((1, record { to = 2; link = 1 }) ∷ (2, record { to = 1; link = 2 }) ∷ []) })

row_send_goes_on_after_giving_up : up_to_fault (Sends (flow_between 1 10 2 20) (97 ∷ []) true true ∷ Loses 0 ∷ Passes 2999 ∷ Ticks 1 ∷ Loses 1 ∷ Passes 2200 ∷ Ticks 1 ∷ Passes 1 ∷ Ticks 1 ∷ Sends (flow_between 1 10 2 20) (98 ∷ []) true true ∷ []) row_send_goes_on_after_giving_up_world ≡ ((line 0 1 (T.Took (flow_between 1 10 2 20) 1) ∷ line 0 1 (T.Sent (flow_between 1 10 2 20) 0 1 true true true) ∷ line 0 1 (T.PutAs 1 999 0) ∷ lost 0 0 ∷ line 2999 1 (T.Resent (flow_between 1 10 2 20) 0 1 true true true) ∷ line 2999 1 (T.PutAs 1 999 1) ∷ lost 2999 1 ∷ line 5200 1 (T.Uncertain (flow_between 1 10 2 20) 1) ∷ line 5200 1 (T.Took (flow_between 1 10 2 20) 1) ∷ line 5200 1 (T.Sent (flow_between 1 10 2 20) 1 1 true true true) ∷ line 5200 1 (T.PutAs 1 999 2) ∷ []), None)
unfolding gram_spelling packet_spelling gram_in packet_in packet_fault gram_fault life_of to_of lowered
row_send_goes_on_after_giving_up = refl

abbrev row_wrap_quantum_world : World
row_wrap_quantum_world = new_world (record { params = record { mpl = 1000; r = 3000; a = 200; rto = 500; probe = 800; seg = 100; cap = 4096; rcap = 4096; window = 512; run_limit = 8; start = 0 }; stations = ((1, 0) ∷ (2, 0) ∷ []); links = ((record { link = 1; from = 1; to = 2; charge = 50; pace = 0 }) ∷ (record { link = 2; from = 2; to = 1; charge = 50; pace = 0 }) ∷ []); routes = ((1, record { to = 2; link = 1 }) ∷ (2, record { to = 1; link = 2 }) ∷ []) })

row_wrap_quantum : up_to_fault (Sends (flow_between 1 10 2 20) (97 ∷ 97 ∷ 97 ∷ 97 ∷ []) true true ∷ Arrives 0 ∷ Arrives 1 ∷ Passes 3500 ∷ Sends (flow_between 1 10 2 20) (97 ∷ 97 ∷ 97 ∷ 97 ∷ []) true true ∷ Arrives 2 ∷ Arrives 3 ∷ Sends (flow_between 1 10 2 20) (98 ∷ []) true true ∷ Passes 5699 ∷ Ticks 1 ∷ Passes 1 ∷ Ticks 1 ∷ Arrives 4 ∷ []) row_wrap_quantum_world ≡ ((line 0 1 (T.Took (flow_between 1 10 2 20) 4) ∷ line 0 1 (T.Sent (flow_between 1 10 2 20) 0 4 true true true) ∷ line 0 1 (T.PutAs 1 999 0) ∷ line 0 2 (T.Accepted (flow_between 1 10 2 20) 0 4 true) ∷ line 0 2 (T.Acked (flow_between 1 10 2 20) 4 4092) ∷ line 0 2 (T.PutAs 2 999 1) ∷ line 0 1 (T.Settled (flow_between 1 10 2 20) 4 4092) ∷ line 3500 1 (T.Took (flow_between 1 10 2 20) 4) ∷ line 3500 1 (T.Sent (flow_between 1 10 2 20) 4 4 true true true) ∷ line 3500 1 (T.PutAs 1 999 2) ∷ line 3500 2 (T.Accepted (flow_between 1 10 2 20) 4 4 false) ∷ line 3500 2 (T.Acked (flow_between 1 10 2 20) 8 4088) ∷ line 3500 2 (T.PutAs 2 999 3) ∷ line 3500 1 (T.Settled (flow_between 1 10 2 20) 4 4088) ∷ line 3500 1 (T.Took (flow_between 1 10 2 20) 1) ∷ line 9200 1 (T.Sent (flow_between 1 10 2 20) 8 1 true true true) ∷ line 9200 1 (T.PutAs 1 999 4) ∷ line 9200 2 (T.Released (flow_between 1 10 2 20) false) ∷ line 9200 2 (T.Accepted (flow_between 1 10 2 20) 8 1 true) ∷ line 9200 2 (T.Acked (flow_between 1 10 2 20) 9 4087) ∷ line 9200 2 (T.PutAs 2 999 5) ∷ []), None)
unfolding gram_spelling packet_spelling gram_in packet_in packet_fault gram_fault life_of to_of lowered
row_wrap_quantum = refl

abbrev row_wrap_start_world : World
row_wrap_start_world = new_world (record { params = record { mpl = 1000; r = 3000; a = 200; rto = 500; probe = 800; seg = 100; cap = 4096; rcap = 4096; window = 512; run_limit = 2147483648; start = 4294967292 }; stations = ((1, 0) ∷ (2, 0) ∷ []); links = ((record { link = 1; from = 1; to = 2; charge = 50; pace = 0 }) ∷ (record { link = 2; from = 2; to = 1; charge = 50; pace = 0 }) ∷ []); routes = ((1, record { to = 2; link = 1 }) ∷ (2, record { to = 1; link = 2 }) ∷ []) })

row_wrap_start : up_to_fault (Sends (flow_between 1 10 2 20) (97 ∷ 97 ∷ 97 ∷ 97 ∷ 97 ∷ 97 ∷ 97 ∷ 97 ∷ 97 ∷ 97 ∷ []) true true ∷ Arrives 0 ∷ Arrives 1 ∷ []) row_wrap_start_world ≡ ((line 0 1 (T.Took (flow_between 1 10 2 20) 10) ∷ line 0 1 (T.Sent (flow_between 1 10 2 20) 4294967292 10 true true true) ∷ line 0 1 (T.PutAs 1 999 0) ∷ line 0 2 (T.Accepted (flow_between 1 10 2 20) 4294967292 10 true) ∷ line 0 2 (T.Acked (flow_between 1 10 2 20) 6 4086) ∷ line 0 2 (T.PutAs 2 999 1) ∷ line 0 1 (T.Settled (flow_between 1 10 2 20) 10 4086) ∷ []), None)
unfolding gram_spelling packet_spelling gram_in packet_in packet_fault gram_fault life_of to_of lowered
row_wrap_start = refl

abbrev row_wrap_start_segments_world : World
row_wrap_start_segments_world = new_world (record { params = record { mpl = 1000; r = 3000; a = 200; rto = 500; probe = 800; seg = 4; cap = 4096; rcap = 4096; window = 512; run_limit = 2147483648; start = 4294967292 }; stations = ((1, 0) ∷ (2, 0) ∷ []); links = ((record { link = 1; from = 1; to = 2; charge = 50; pace = 0 }) ∷ (record { link = 2; from = 2; to = 1; charge = 50; pace = 0 }) ∷ []); routes = ((1, record { to = 2; link = 1 }) ∷ (2, record { to = 1; link = 2 }) ∷ []) })

row_wrap_start_segments : up_to_fault (Sends (flow_between 1 10 2 20) (97 ∷ 97 ∷ 97 ∷ 97 ∷ 97 ∷ 97 ∷ 97 ∷ 97 ∷ 97 ∷ 97 ∷ []) true true ∷ Arrives 0 ∷ Arrives 0 ∷ Arrives 2 ∷ Arrives 1 ∷ Arrives 2 ∷ []) row_wrap_start_segments_world ≡ ((line 0 1 (T.Took (flow_between 1 10 2 20) 10) ∷ line 0 1 (T.Sent (flow_between 1 10 2 20) 4294967292 4 true true false) ∷ line 0 1 (T.PutAs 1 999 0) ∷ line 0 1 (T.Sent (flow_between 1 10 2 20) 0 4 false false false) ∷ line 0 1 (T.PutAs 1 999 1) ∷ line 0 1 (T.Sent (flow_between 1 10 2 20) 4 2 false false true) ∷ line 0 1 (T.PutAs 1 999 2) ∷ line 0 2 (T.Accepted (flow_between 1 10 2 20) 4294967292 4 true) ∷ line 0 2 (T.Replied (flow_between 1 10 2 20) 0 4092) ∷ line 0 2 (T.PutAs 2 999 3) ∷ line 0 2 (T.Replied (flow_between 1 10 2 20) 0 4092) ∷ line 0 2 (T.PutAs 2 999 4) ∷ line 0 2 (T.Accepted (flow_between 1 10 2 20) 0 4 false) ∷ line 0 2 (T.Accepted (flow_between 1 10 2 20) 4 2 false) ∷ line 0 2 (T.Acked (flow_between 1 10 2 20) 6 4086) ∷ line 0 2 (T.PutAs 2 999 5) ∷ []), None)
unfolding gram_spelling packet_spelling gram_in packet_in packet_fault gram_fault life_of to_of lowered
row_wrap_start_segments = refl
