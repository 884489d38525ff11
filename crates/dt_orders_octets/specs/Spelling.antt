-- The octets of what is stored and sent: numbers of eight octets, in the order in which they are listed here.
use Rattle.std.specs.Prelude.{ℕ, List, [], ◌∷◌, ◌++◌, Option, Some, None}
use Rattle.dt_orders_model.specs.declared.knowledge.Known.{Known}
use Rattle.dt_orders_model.specs.declared.knowledge.Opening.{Opening}
use Rattle.dt_orders_model.specs.declared.lanes.Answer.{Answer}
use Rattle.dt_orders_model.specs.declared.lanes.Client.{Client}
use Rattle.dt_orders_model.specs.declared.lanes.Order.{Order}
use Rattle.dt_orders_model.specs.declared.registers.Meta.{Meta}
use Rattle.dt_orders_model.specs.declared.registers.Row.{Row}
use Rattle.dt_orders_octets.specs.declared.requests.NumberedLane.{NumberedLane}
use Rattle.dt_orders_octets.specs.declared.requests.Request.{Request}
use Rattle.dt_orders_octets.specs.Codes.{code_of_bool, code_of_kind, code_of_state, code_of_word}
use Rattle.dt_orders_octets.specs.Words.{spell}

abbrev pub known_words : Known → List ℕ
known_words k = k.opening ∷ k.nonce ∷ k.clock ∷ []

-- a commit that somebody heard of, or none
abbrev pub maybe_known_words : Option Known → List ℕ
maybe_known_words None = 0 ∷ 0 ∷ 0 ∷ 0 ∷ []
maybe_known_words (Some k) = 1 ∷ known_words k

abbrev pub meta_words : Meta → List ℕ
meta_words m = m.clock ∷ m.horizon ∷ m.opening ∷ m.nonce ∷ []

-- no opening begins at 0
abbrev pub opening_words : Option Opening → List ℕ
opening_words None = 0 ∷ 0 ∷ []
opening_words (Some o) = o.first ∷ o.nonce ∷ []

abbrev pub row_words : Option Row → List ℕ
row_words None = 0 ∷ 0 ∷ 0 ∷ 0 ∷ 0 ∷ []
row_words (Some r) = code_of_state r.state ∷ r.number ∷ r.tag ∷ r.stamp ∷ r.born ∷ []

abbrev pub request_words : Request → List ℕ
request_words q = code_of_kind q.called.kind ∷ q.lane ∷ q.called.number ∷ q.called.tag ∷ known_words q.called.since ++ q.called.attempt.nonce ∷ q.called.attempt.count ∷ maybe_known_words q.called.knows ++ code_of_bool q.called.is_only ∷ []

abbrev pub answer_words : Answer → List ℕ
answer_words a = code_of_word a.word ∷ a.value ∷ known_words a.heard ++ a.attempt.nonce ∷ a.attempt.count ∷ []

abbrev pub client_words : Client → List ℕ
client_words c = c.nonce ∷ code_of_bool c.is_once ∷ maybe_known_words c.known ++ maybe_known_words c.stopped

abbrev pub order_words : Option Order → List ℕ
order_words None = 0 ∷ 0 ∷ 0 ∷ 0 ∷ 0 ∷ 0 ∷ 0 ∷ []
order_words (Some o) = 1 ∷ o.uid ∷ o.number ∷ o.tag ∷ known_words o.since

abbrev pub lane_words : NumberedLane → List ℕ
lane_words l = l.number ∷ l.lane.last ∷ order_words l.lane.order ++ code_of_bool l.lane.is_fresh ∷ code_of_bool l.lane.is_cancelled ∷ code_of_bool l.lane.is_calling ∷ l.lane.record_number ∷ []

-- THE OCTETS
abbrev pub meta_octets : Meta → List ℕ
meta_octets m = spell [] (meta_words m)

abbrev pub opening_octets : Option Opening → List ℕ
opening_octets o = spell [] (opening_words o)

abbrev pub row_octets : Option Row → List ℕ
row_octets r = spell [] (row_words r)

abbrev pub request_octets : Request → List ℕ
request_octets q = spell [] (request_words q)

abbrev pub answer_octets : Answer → List ℕ
answer_octets a = spell [] (answer_words a)

abbrev pub client_octets : Client → List ℕ
client_octets c = spell [] (client_words c)

abbrev pub lane_octets : NumberedLane → List ℕ
lane_octets l = spell [] (lane_words l)
