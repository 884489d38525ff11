use Rattle.std.proofs.Common.{ℕ, ◌≡◌, ◌≤◌, ap, ◌∙◌, sym, arith}
use Rattle.dt_open_calls.specs.Slots.{due_at}
use Rattle.dt_open_calls.proofs.Found.{found_noted}
use Rattle.dt_open_calls.proofs.call_index.CallIndex.add.Goals as goal

pub returns-in_err-hold_block-clause-others : goal.returns-in_err-hold_block-clause-others
returns-in_err-hold_block-clause-others c =
    let s = c.args.self.now in
    found_noted s.first c.args.place s.dues.items c.hold_block.new.dues.items s.numbers.entries s.numbers.entries s.flows.entries s.flows.entries (λ b. let e = c.hold_block.ensures b in omega arith) (λ n i le r. r) (λ f i le r. r)

pub returns-in_err-widen_number-clause-others : goal.returns-in_err-widen_number-clause-others
returns-in_err-widen_number-clause-others c =
    let s = c.args.self.now in
    found_noted s.first c.args.place s.dues.items c.hold_block.new.dues.items s.numbers.entries c.widen_number.new.numbers.entries s.flows.entries s.flows.entries (λ b. let e = c.hold_block.ensures b in omega arith) c.widen_number.ensures.others (λ f i le r. r)

pub returns-in_err-widen_flow-clause-others : goal.returns-in_err-widen_flow-clause-others
returns-in_err-widen_flow-clause-others c =
    let s = c.args.self.now in
    found_noted s.first c.args.place s.dues.items c.hold_block.new.dues.items s.numbers.entries c.widen_number.new.numbers.entries s.flows.entries c.widen_flow.new.flows.entries (λ b. let e = c.hold_block.ensures b in omega arith) c.widen_number.ensures.others c.widen_flow.ensures.others

pub returns-clause-others : goal.returns-clause-others
returns-clause-others c =
    let s = c.args.self.now in
    found_noted s.first c.args.place s.dues.items c.touch.new.dues.items s.numbers.entries c.widen_number.new.numbers.entries s.flows.entries c.widen_flow.new.flows.entries (λ b. let e = c.hold_block.ensures b in let t = c.touch.ensures.earlier b in omega arith) c.widen_number.ensures.others c.widen_flow.ensures.others
