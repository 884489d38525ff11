-- What is done as is asked, or is refused.
use Rattle.std.proofs.Common.{ℕ, ◌+◌, ◌≡◌, true, List, length, Option, Some, None, refl, ap, ◌∙◌}
use Rattle.dt_units.specs.declared.endpoints.Flow.{Flow}
use Rattle.dt_reports.specs.declared.faults.Refusal.{Refusal}
use Rattle.dt_world_model.specs.Station.{Event}
use Rattle.dt_world_model.specs.WorldStep.{first_refusal}
use Rattle.dt_calls_model.specs.Messages.{message_of, reversed}
use Rattle.dt_endpoint.specs.Calls.{send_answer}
use Rattle.dt_endpoint.specs.Endpoints.{EndpointValue, after_event, moment_of}
use Rattle.dt_service_model.specs.declared.answers.Made.{Made}
use Rattle.dt_service_model.specs.declared.answers.Replied.{Replied}
use Rattle.dt_service_model.specs.declared.names.Token.{Token}
use Rattle.dt_service_model.specs.Asked.{call, call_refusals, forgotten_unless, made_by, made_of, message_event, replied_by, replied_of, reply, reply_refusals, unless, with_call_unless}
use Rattle.dt_service_model.specs.CallBook.{CallBook}
use Rattle.dt_service_model.specs.Names.{to_u64}
use Rattle.dt_service_model.specs.Stopping.{call_kept, message_of_call, token_dropped}
use Rattle.dt_service_model.specs.Turns.{Node, happens, hears, turn_end, with_book}
use Rattle.dt_service.specs.Nodes.{Is, node_of}
use Rattle.dt_service.proofs.Stops.{call_changed, reply_changed, sent_so}

pub refused_so : {A : Type 0} (o : Option A) (r : A) (n : Node) (done : A × Node) → Some r ≡ o → Is r n (unless o n done)
refused_so None r n done h = absurd cc
refused_so (Some s) r n done h = (some_is h, refl)
  where
    some_is : {B : Type 0} {x y : B} → Some x ≡ Some y → x ≡ y
    some_is e = cc

clear_so : {A : Type 0} (o : Option A) (r : A) (n m : Node) (done : A × Node) → o ≡ None → Is r m done → Is r m (unless o n done)
clear_so None r n m done h is = is
clear_so (Some s) r n m done h is = absurd cc

-- a turn that changes something beside the endpoint
turn_done : (now : ℕ) (event : Event (Unit {0})) (change : CallBook → CallBook) (n q k m : Node) (e : EndpointValue) → e ≡ after_event now event n.endpoint → q ≡ hears (node_of e n.book) → k ≡ with_book change q → m ≡ turn_end now k → m ≡ turn_end now (with_book change (happens now event n))
turn_done now event change n q k m e after heard changed ended =
    ended ∙ ap (turn_end now) (changed ∙ ap (with_book change) (heard ∙ ap (λ (x : EndpointValue). hears (node_of x n.book)) after))

-- A CALL
pub call_done : (now : ℕ) (f : Flow) (payload : List ℕ) (patience : ℕ) (n q k m : Node) (message : List ℕ) (e : EndpointValue) (refused : Option Refusal) (count deadline : ℕ) (made : Made) → first_refusal (call_refusals n f payload patience) ≡ None → message ≡ message_of_call payload n.book → e ≡ after_event now (message_event f message) n.endpoint → q ≡ hears (node_of e n.book)
    → refused ≡ send_answer now f message true true n.endpoint → count ≡ length message → deadline ≡ moment_of now n.endpoint + patience → k ≡ with_book (with_call_unless refused f count deadline) q → m ≡ turn_end now k → made ≡ made_of refused n.book → Is made m (call now f payload patience n)
call_done now f payload patience n q k m message e refused count deadline made clear same after heard answer len until kept ended is =
    let message' = message_of_call payload n.book in
    let changed = call_changed now f payload patience n q k message refused count deadline same answer len until kept in
    let answered : refused ≡ send_answer now f message' true true n.endpoint = answer ∙ ap (λ (x : List ℕ). send_answer now f x true true n.endpoint) same in
    let sent : e ≡ after_event now (message_event f message') n.endpoint = after ∙ ap (λ (x : List ℕ). after_event now (message_event f x) n.endpoint) same in
    clear_so (first_refusal (call_refusals n f payload patience)) made n m (made_by now f message' patience n) clear
    (is ∙ ap (λ (r : Option Refusal). made_of r n.book) answered, turn_done now (message_event f message') (call_kept now f message' patience n) n q k m e sent heard changed ended)

-- A REPLY
pub reply_done : (now : ℕ) (token : Token) (payload : List ℕ) (n q k m : Node) (f : Flow) (message : List ℕ) (e : EndpointValue) (refused : Option Refusal) (replied : Replied) → first_refusal (reply_refusals n token payload) ≡ None → f ≡ reversed token.flow → message ≡ message_of (to_u64 token.number) payload → e ≡ after_event now (message_event f message) n.endpoint → q ≡ hears (node_of e n.book)
    → refused ≡ send_answer now f message true true n.endpoint → k ≡ with_book (forgotten_unless refused token) q → m ≡ turn_end now k → replied ≡ replied_of refused → Is replied m (reply now token payload n)
reply_done now token payload n q k m f message e refused replied clear way same after heard answer kept ended is =
    let message' = message_of (to_u64 token.number) payload in
    let g = reversed token.flow in
    let changed = reply_changed now token payload n q k f message refused way same answer kept in
    let answered : refused ≡ send_answer now g message' true true n.endpoint = answer ∙ ap (λ (h : Flow). send_answer now h message true true n.endpoint) way ∙ ap (λ (x : List ℕ). send_answer now g x true true n.endpoint) same in
    clear_so (first_refusal (reply_refusals n token payload)) replied n m (replied_by now token message' n) clear
    (is ∙ ap replied_of answered, turn_done now (message_event g message') (token_dropped now token message' n) n q k m e (sent_so now n f g message message' e way same after) heard changed ended)
