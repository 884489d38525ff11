use Rattle.std.proofs.Common.{◌*◌, ◌^◌, sym, ap, subst, ◌∙◌, arith}
use Rattle.std.proofs.lemmas.Bool.{eqb-true}
use Rattle.dt_audit.specs.Books.{Book}
use Rattle.dt_audit.specs.FlowNotes.{Notes, TakenWithin}
use Rattle.dt_audit.proofs.Entries.{taken_more}
use Rattle.dt_audit.proofs.Agreement.{same_flaw}
use Rattle.dt_audit.proofs.Lines.{flawed, found_from, none_left, passed_on}
use Rattle.dt_audit.proofs.auditing.find_flaw.Goals as goal

pub loop-rest-init : goal.loop-rest-init
loop-rest-init c = record { left = same_flaw c.args.bytes.now ∙ ap (found_from 1 c.args.bytes.now) (sym c.new-notebook.ensures); within = subst (λ (b : Book Notes). TakenWithin 4294967295 b.flows) (sym c.new-notebook.ensures) tt; few = omega arith }

pub returns-in-Some : goal.returns-in-Some
returns-in-Some c =
    let t = rw c.in-Some.is at c.in_ok-flaw.ensures.notes in
    flawed c.loop-rest.number c.split_line.result.0.now c.loop-rest.rest.now c.split_line.result.1.now c.loop-rest.notebook c.in-Some.flaw _ c.split_line.ensures.lines t c.loop-rest.invariant.left

pub loop-rest-preserved : goal.loop-rest-preserved
loop-rest-preserved c =
    let t = rw c.in_default.is at c.in_ok-flaw.ensures.notes in
    record {
      left = passed_on c.loop-rest.number c.split_line.result.0.now c.loop-rest.rest.now c.split_line.result.1.now c.loop-rest.notebook c.follow_line.new.self _ c.split_line.ensures.lines t c.loop-rest.invariant.left;
      within = subst (λ n. TakenWithin n c.follow_line.new.self.flows) (omega arith) (c.in_ok-flaw.ensures.grows (c.loop-rest.number * 4294967295) c.loop-rest.invariant.within);
      few = omega (arith, c.loop-rest.invariant.few, c.split_line.ensures.fewer);
    }

pub returns : goal.returns
returns c =
    none_left c.loop-rest.number c.loop-rest.rest.now c.loop-rest.notebook _ (omega (arith, eqb-true _ _ (sym c.is_empty.ensures ∙ c.loop-rest-test.false))) c.loop-rest.invariant.left

pub follow_line-requires : goal.follow_line-requires
follow_line-requires c = record { room = taken_more (c.loop-rest.number * 4294967295) (2 ^ 61) c.loop-rest.notebook.flows (omega (arith, c.loop-rest.invariant.few, c.requires.few)) c.loop-rest.invariant.within }
