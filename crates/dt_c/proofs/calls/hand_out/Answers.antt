use Rattle.std.proofs.Common.{◌∙◌, ap, sym}
use Rattle.dt_c.specs.Calls.{buf_after, datagram_after, frame_status, frames_after}
use Rattle.dt_c.proofs.Fronts.{none_waits}
use Rattle.dt_c.proofs.calls.hand_out.Goals as goal

-- no frame waits
pub returns-in_default : goal.returns-in_default
returns-in_default c =
    let e = c.args.endpoint.now in let buf = c.args.buf.now in let out = c.args.out.now in
    let no_frame = none_waits e.frames c.in_default.ensures in (
      sym (ap (λ fs. frame_status fs buf) no_frame),
      sym (ap (λ fs. buf_after fs buf) no_frame),
      sym (ap (λ fs. datagram_after fs out) no_frame),
      ap (λ fs. record e { frames = fs }) (no_frame ∙ sym (ap (λ fs. frames_after fs buf) no_frame)),
    )
