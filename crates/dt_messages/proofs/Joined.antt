-- With no longest message, nothing outgrows it.
use Rattle.std.proofs.Common.{◌≡◌, ℕ, Bool, List, Option, Some, None, refl}
use Rattle.std.specs.Prelude.{◌&&◌, if◌then◌else◌, is_some, not, option_map}
use Rattle.dt_calls_model.specs.Messages.{Piece, begun_with, joined, whole_with}
use Rattle.dt_messages.specs.Joining.{JoinerValue, MessageValue, begun_within, counted_up, joiner_after, message_with, outgrows, whole_within}

octets_alone : (gap : Bool) (o : Option (List ℕ)) → option_map (λ (m : MessageValue). m.octets) (option_map (λ octets. record { octets = octets; gap = gap }) o) ≡ o
octets_alone gap None = refl
octets_alone gap (Some octets) = refl

not_both : (o : Option (List ℕ)) (n : ℕ) → (if is_some o && not (is_some o) then counted_up n else n) ≡ n
not_both None n = refl
not_both (Some octets) n = refl

whole_by : (longest : Option ℕ) (begun : Option (List ℕ)) (gap : Bool) (p : Piece) → longest ≡ None → option_map (λ (m : MessageValue). m.octets) (option_map (λ octets. record { octets = octets; gap = gap }) (whole_within longest begun p)) ≡ whole_with begun p
whole_by None begun gap p none = octets_alone gap (whole_with begun p)
whole_by (Some n) begun gap p none = absurd cc

begun_by : (longest : Option ℕ) (begun : Option (List ℕ)) (p : Piece) → longest ≡ None → begun_within longest begun p ≡ begun_with begun p
begun_by None begun p none = refl
begun_by (Some n) begun p none = absurd cc

dropped_by : (longest : Option ℕ) (begun : Option (List ℕ)) (dropped : ℕ) (p : Piece) → longest ≡ None → (if outgrows longest begun p then counted_up dropped else dropped) ≡ dropped
dropped_by None begun dropped p none = not_both (joined begun p) dropped
dropped_by (Some n) begun dropped p none = absurd cc

pub whole_is : (j : JoinerValue) (p : Piece) → j.longest ≡ None → option_map (λ (m : MessageValue). m.octets) (message_with j p) ≡ whole_with j.begun p
whole_is j p none = whole_by j.longest j.begun _ p none

pub begun_is : (j : JoinerValue) (p : Piece) → j.longest ≡ None → (joiner_after j p).begun ≡ begun_with j.begun p
begun_is j p none = begun_by j.longest j.begun p none

pub none_dropped : (j : JoinerValue) (p : Piece) → j.longest ≡ None → (joiner_after j p).dropped ≡ j.dropped
none_dropped j p none = dropped_by j.longest j.begun j.dropped p none
