use Rattle.std.proofs.Common.{length, refl, sym, ap, subst, ◌∙◌, arith, false}
use Rattle.std.proofs.lemmas.Result.{err_from_is_err_and}
use Rattle.std.specs.Prelude.{Err, Ok}
use Rattle.std.specs.Map.{lookup}
use Rattle.dt_items.specs.Unread.{marked}
use Rattle.dt_units.specs.declared.parameters.Params.{Params}
use Rattle.dt_table.specs.Agendas.{Note}
use Rattle.dt_host.specs.Notes.{send_kinds}
use Rattle.dt_host.specs.Answers.{IsSent}
use Rattle.dt_host.specs.declared.faults.SendFault.{SendFault}
use Rattle.dt_host.specs.declared.faults.SendFault.TheVariants as fault
use Rattle.dt_table.specs.Places.{equal_flows, present}
use Rattle.dt_host.specs.Sides.{IsSendKept, SendSideValue}
use Rattle.dt_host.proofs.SendSides.{all_send, make_entry, make_refused, make_taken, make_wanting, side_kept, side_more}
use Rattle.dt_table.proofs.Tables.{present_kept, present_more, whole}
use Rattle.dt_host.proofs.send_side.SendSide.make.Goals as goal

pub returns-then-asked-free-clause-sent : goal.returns-then-asked-free-clause-sent
returns-then-asked-free-clause-sent g c =
    let h = c.self.inside in
    let absent = ap (λ (v : SendSideValue). lookup (equal_flows c.args.flow.now) v.entries) c.self.view_is ∙ c.requires.none in
    let k = c.args.asked.now in
    let items = marked k.octets.now k.begin k.end false in
    let cap = ap (λ (q : Params). q.cap) (c.params.ensures.same ∙ c.deref.ensures) in
    subst (λ (v : SendSideValue). IsSent v.rules v.latest c.args.flow.now items v.entries v.entries (Err (fault.Full c.params.result.now.cap))) c.self.view_is
    (make_refused h.rules.value h.latest.ms (present h.table.slots.items) (all_send h.rules.value h.latest.ms h.table.places h.table.slots.items h.table.agenda c.self.invariant) c.args.flow.now absent k.octets.now k.begin k.end c.params.result.now.cap cap (let s = c.if-asked-free.true in omega arith))

pub returns-in_err-sender-clause-sent : goal.returns-in_err-sender-clause-sent
returns-in_err-sender-clause-sent g c =
    let h = c.self.inside in
    let absent = ap (λ (v : SendSideValue). lookup (equal_flows c.args.flow.now) v.entries) c.self.view_is ∙ c.requires.none in
    let k = c.args.asked.now in
    let items = marked k.octets.now k.begin k.end false in
    let cap = ap (λ (q : Params). q.cap) (c.params.ensures.same ∙ c.deref.ensures) in
    let err = err_from_is_err_and c.from_residual.result c.from_residual.ensures.1 in
    subst (λ (v : SendSideValue). IsSent v.rules v.latest c.args.flow.now items v.entries v.entries c.from_residual.result) c.self.view_is
    (make_wanting h.rules.value h.latest.ms (present h.table.slots.items) (all_send h.rules.value h.latest.ms h.table.places h.table.slots.items h.table.agenda c.self.invariant) c.args.flow.now absent k.octets.now k.begin k.end c.params.result.now.cap cap (let s = c.if-asked-free.false in omega arith) (present h.table.slots.items) refl c.from_residual.result (err.1 ∙ ap (λ (why : SendFault). Err why) err.2))

pub add-requires-clause-placed : goal.add-requires-clause-placed
add-requires-clause-placed g c =
    let h = c.self.inside in
    whole (IsSendKept h.rules.value h.latest.ms) send_kinds h.table.places h.table.slots.items h.table.agenda c.self.invariant

pub add-requires-clause-none : goal.add-requires-clause-none
add-requires-clause-none g c =
    let h = c.self.inside in
    let absent = ap (λ (v : SendSideValue). lookup (equal_flows c.args.flow.now) v.entries) c.self.view_is ∙ c.requires.none in
    absent

pub invariant_of-self : goal.invariant_of-self
invariant_of-self g c =
    let h = c.self.inside in
    side_kept h.rules.value h.latest.ms h.table.places h.table.slots.items h.table.agenda c.self.invariant c.add.new.self.places c.add.new.self.slots.items c.add.new.self.agenda c.add.ensures.placed c.in_err-add.ensures.err

pub invariant_of-self-2 : goal.invariant_of-self-2
invariant_of-self-2 g c =
    let h = c.self.inside in
    let absent = ap (λ (v : SendSideValue). lookup (equal_flows c.args.flow.now) v.entries) c.self.view_is ∙ c.requires.none in
    let k = c.args.asked.now in
    let items = marked k.octets.now k.begin k.end false in
    let cap = ap (λ (q : Params). q.cap) (c.params.ensures.same ∙ c.deref.ensures) in
    side_more h.rules.value h.latest.ms h.table.places h.table.slots.items h.table.agenda c.self.invariant c.add.new.self.places c.add.new.self.slots.items c.add.new.self.agenda c.add.ensures.placed c.args.flow.now c.put.new.self c.note_of-note.result c.in_ok-add.ensures.ok (make_entry h.rules.value h.latest.ms (present h.table.slots.items) (all_send h.rules.value h.latest.ms h.table.places h.table.slots.items h.table.agenda c.self.invariant) c.args.flow.now absent k.octets.now k.begin k.end c.params.result.now.cap cap (let s = c.if-asked-free.false in omega arith) c.in_ok-sender.sender c.put.new.self c.in_ok-sender.ensures c.put.ensures.after) c.note_of-note.ensures.note

pub returns-in_err-add-clause-sent : goal.returns-in_err-add-clause-sent
returns-in_err-add-clause-sent g c =
    let h = c.self.inside in
    let absent = ap (λ (v : SendSideValue). lookup (equal_flows c.args.flow.now) v.entries) c.self.view_is ∙ c.requires.none in
    let k = c.args.asked.now in
    let items = marked k.octets.now k.begin k.end false in
    let cap = ap (λ (q : Params). q.cap) (c.params.ensures.same ∙ c.deref.ensures) in
    let err = err_from_is_err_and c.from_residual-in_err-add.result c.from_residual-in_err-add.ensures.1 in
    subst (λ (v : SendSideValue). IsSent v.rules v.latest c.args.flow.now items v.entries (present c.add.new.self.slots.items) c.from_residual-in_err-add.result) c.self.view_is
    (make_wanting h.rules.value h.latest.ms (present h.table.slots.items) (all_send h.rules.value h.latest.ms h.table.places h.table.slots.items h.table.agenda c.self.invariant) c.args.flow.now absent k.octets.now k.begin k.end c.params.result.now.cap cap (let s = c.if-asked-free.false in omega arith) (present c.add.new.self.slots.items) (present_kept (IsSendKept h.rules.value h.latest.ms) send_kinds h.table.places h.table.slots.items h.table.agenda c.self.invariant c.add.new.self.places c.add.new.self.slots.items c.add.new.self.agenda c.add.ensures.placed c.in_err-add.ensures.err) c.from_residual-in_err-add.result (err.1 ∙ ap (λ (why : SendFault). Err why) err.2))

pub returns-clause-sent : goal.returns-clause-sent
returns-clause-sent g c =
    let h = c.self.inside in
    let absent = ap (λ (v : SendSideValue). lookup (equal_flows c.args.flow.now) v.entries) c.self.view_is ∙ c.requires.none in
    let k = c.args.asked.now in
    let items = marked k.octets.now k.begin k.end false in
    let cap = ap (λ (q : Params). q.cap) (c.params.ensures.same ∙ c.deref.ensures) in
    subst (λ (v : SendSideValue). IsSent v.rules v.latest c.args.flow.now items v.entries (present c.add.new.self.slots.items) (Ok tt)) c.self.view_is
    (make_taken h.rules.value h.latest.ms (present h.table.slots.items) (all_send h.rules.value h.latest.ms h.table.places h.table.slots.items h.table.agenda c.self.invariant) c.args.flow.now absent k.octets.now k.begin k.end c.params.result.now.cap cap (let s = c.if-asked-free.false in omega arith) c.in_ok-sender.sender c.put.new.self c.in_ok-sender.ensures c.put.ensures.after (present c.add.new.self.slots.items) (present_more (IsSendKept h.rules.value h.latest.ms) send_kinds h.table.places h.table.slots.items h.table.agenda c.self.invariant c.add.new.self.places c.add.new.self.slots.items c.add.new.self.agenda c.add.ensures.placed c.args.flow.now c.put.new.self c.note_of-note.result c.in_ok-add.ensures.ok absent))

pub add-requires-clause-kinds : goal.add-requires-clause-kinds
add-requires-clause-kinds g c =
    let h = c.self.inside in
    ap (λ (n : Note). length n) c.note_of-note.ensures.note ∙ sym c.self.invariant.counted
