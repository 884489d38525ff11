use Rattle.std.proofs.Common.{◌≡◌, Some}
use Rattle.dt_text.specs.declared.lines.Form.TheVariants.{Script}
use Rattle.dt_text.specs.Said.{said}
use Rattle.dt_text.specs.Stages.{stage_after}
use Rattle.dt_script.specs.Drafts.{stage_of}
use Rattle.dt_script.proofs.Reading.{line_turns}
use Rattle.dt_script.proofs.drafts.DraftLineTurns.turn.Goals as goal

pub returns-in_ok-apply_allowed-in-Some : goal.returns-in_ok-apply_allowed-in-Some
returns-in_ok-apply_allowed-in-Some g c =
    let stands : Some c.in-Some.field-0 ≡ stage_after Script (stage_of c.args.self.now) (said c.in-Ok.said) = cc (c.follows.ensures, c.stage.ensures, c.in-Some.is, c.self.view_is) in
    line_turns g.K.Sink.sight c.args.line.now (said c.in-Ok.said) c.in-Some.field-0 c.in_ok-apply_allowed-in-Some.field-0 c.args.self.now c.apply_allowed.new.self c.args._out.now c.in-Ok.ensures.exact stands c.in_ok-apply_allowed-in-Some.ensures
