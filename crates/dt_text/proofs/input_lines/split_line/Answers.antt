use Rattle.std.proofs.Common.{arith, inl}
use Rattle.dt_text.proofs.InputLineLaws.{up_to_feed, no_feed, first_line, in_parts}
use Rattle.dt_text.proofs.input_lines.split_line.Goals as goal

pub returns-in-Some-clause-lines : goal.returns-in-Some-clause-lines
returns-in-Some-clause-lines c =
    let found = c.in-Some.ensures in
    first_line c.args.input.now c.in-Some.place (up_to_feed c.args.input.now c.in-Some.place found.0.high (λ j below. found.0.before j (omega arith) below) found.1)

pub returns-in-Some-clause-parts : goal.returns-in-Some-clause-parts
returns-in-Some-clause-parts c =
    let found = c.in-Some.ensures in
    inl (in_parts c.args.input.now c.in-Some.place found.0.high found.1)

pub returns-in-None-clause-lines : goal.returns-in-None-clause-lines
returns-in-None-clause-lines c =
    let none = c.in-None.ensures in
    no_feed c.args.input.now (omega arith) (λ j below. none j (omega arith) below)
