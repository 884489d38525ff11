-- A gap stays from a message that was too long to the next whole one.
use Rattle.std.proofs.Common.{◌≡◌, ℕ, Bool, true, false, List, [], ◌∷◌, Option, Some, None, refl}
use Rattle.std.specs.Prelude.{◌&&◌, ◌||◌, if◌then◌else◌, is_some, not, option_map}
use Rattle.dt_calls_model.specs.Messages.{Piece, joined}
use Rattle.dt_messages.specs.Joining.{JoinerValue, MessageValue, NoneWhole, has_gap, joined_within, joiner_after, joiner_by, message_with, outgrows, whole_within}

-- what outgrows makes nothing whole
left_by : (before out end : Bool) (o : Option (List ℕ)) → (out && not (is_some o)) ≡ true → ((before || (out && not (is_some o))) && not (is_some (if end then o else None))) ≡ true
left_by true true true None h = refl
left_by true true false None h = refl
left_by false true true None h = refl
left_by false true false None h = refl
left_by before false end None h = absurd cc
left_by before true end (Some octets) h = absurd cc
left_by before false end (Some octets) h = absurd cc

left : (j : JoinerValue) (p : Piece) → outgrows j.longest j.begun p ≡ true → (joiner_after j p).gap ≡ true
left j p out = left_by (j.gap || p.run) (is_some (joined j.begun p)) p.end (joined_within j.longest j.begun p) out

kept_by : (gap run out : Bool) (whole : Option (List ℕ)) (g : Bool) → gap ≡ true → option_map (λ octets. let m : MessageValue = record { octets = octets; gap = g } in m) whole ≡ None → ((gap || run || out) && not (is_some whole)) ≡ true
kept_by true true out None g h none = refl
kept_by true false out None g h none = refl
kept_by false run out None g h none = absurd cc
kept_by gap run out (Some octets) g h none = absurd cc

kept : (j : JoinerValue) (p : Piece) → j.gap ≡ true → message_with j p ≡ None → (joiner_after j p).gap ≡ true
kept j p gap none = kept_by j.gap p.run (outgrows j.longest j.begun p) (whole_within j.longest j.begun p) (has_gap j p) gap none

had_by : (gap run out : Bool) (whole : Option (List ℕ)) (m : MessageValue) → gap ≡ true → option_map (λ octets. let w : MessageValue = record { octets = octets; gap = gap || run || out } in w) whole ≡ Some m → m.gap ≡ true
had_by true true out None m h is = absurd cc
had_by true false out None m h is = absurd cc
had_by false run out whole m h is = absurd cc
had_by true true out (Some octets) m h is = cc
had_by true false out (Some octets) m h is = cc

had : (j : JoinerValue) (q : Piece) (m : MessageValue) → j.gap ≡ true → message_with j q ≡ Some m → m.gap ≡ true
had j q m gap is = had_by j.gap q.run (outgrows j.longest j.begun q) (whole_within j.longest j.begun q) m gap is

stays : (j : JoinerValue) (pieces : List Piece) → j.gap ≡ true → NoneWhole j pieces → (joiner_by j pieces).gap ≡ true
stays j [] gap none = gap
stays j (p ∷ pieces) gap none = stays (joiner_after j p) pieces (kept j p gap none.0) none.1

pub gap_is_had : (j : JoinerValue) (p : Piece) (pieces : List Piece) (q : Piece) (next : MessageValue) → outgrows j.longest j.begun p ≡ true → NoneWhole (joiner_after j p) pieces → message_with (joiner_by (joiner_after j p) pieces) q ≡ Some next → next.gap ≡ true
gap_is_had j p pieces q next out none is = had (joiner_by (joiner_after j p) pieces) q next (stays (joiner_after j p) pieces (left j p out) none) is
