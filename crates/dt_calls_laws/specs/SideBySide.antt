-- The messages of spans, by what each carries.
use Rattle.std.specs.Prelude.{ℕ, List, [], ◌∷◌}
use Rattle.dt_calls_model.specs.CallFacts.{Span}
use Rattle.dt_calls_model.specs.Messages.{message_of}

abbrev pub messages_of : (Span → List ℕ) → List Span → List (List ℕ)
messages_of carried [] = []
messages_of carried (s ∷ spans) = message_of s.call (carried s) ∷ messages_of carried spans
