-- A call of an order is no question.
use Rattle.std.proofs.Common.{◌≡◌, Bool, true, false, ap, refl}
use Rattle.std.specs.Prelude.{◌==◌, ◌&&◌, not, Some}
use Rattle.dt_orders_model.specs.declared.lanes.Called.{Called}
use Rattle.dt_orders_model.specs.declared.lanes.Order.{Order}
use Rattle.dt_orders_model.specs.declared.requests.Kind.{Kind}
use Rattle.dt_orders_model.specs.declared.requests.Kind.TheVariants as kind
use Rattle.dt_orders_model.specs.Judging.{is_ask}
use Rattle.dt_orders_model.specs.Lanes.{is_ask_call, is_of}
use Rattle.dt_orders_world_laws.proofs.Puts.{apart}

-- an order is no question
pub asks_not : (o : Order) (c : Called) (t : Bool) → is_ask_call c.kind ≡ t → is_of (Some o) c ≡ true → is_ask c.kind ≡ false
asks_not o c t e of = by c.kind refl
  where
    by : (k : Kind) → c.kind ≡ k → is_ask c.kind ≡ false
    by kind.Order is = ap is_ask is
    by kind.Cancel is = ap is_ask is
    by kind.Ask is =
        let ask : is_ask_call c.kind ≡ true = ap is_ask_call is in
        let not_of : is_of (Some o) c ≡ false = ap (λ (b : Bool). not b && (o.number == c.number && o.tag == c.tag)) ask in
        absurd (apart of not_of)
