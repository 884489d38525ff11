use Rattle.std.proofs.Common.{◌≡◌, ◌∙◌, ap, drop, subst, sym}
use Rattle.dt_endpoint.specs.Endpoints.{EndpointValue}
use Rattle.dt_c.specs.Calls.{buf_after, datagram_after, frame_status, frames_after}
use Rattle.dt_c.proofs.Fronts.{none_waits}
use Rattle.dt_c.proofs.service_calls.hand_frame.Goals as goal

-- no frame waits
pub returns-in_default : goal.returns-in_default
returns-in_default c =
    let n = c.args.service.now in let buf = c.args.buf.now in let out = c.args.out.now in
    let no_frame = none_waits n.endpoint.frames (subst (λ (e : EndpointValue). e.frames ≡ drop 1 e.frames) c.endpoint.ensures c.in_default.ensures) in (
      sym (ap (λ fs. frame_status fs buf) no_frame),
      sym (ap (λ fs. buf_after fs buf) no_frame),
      sym (ap (λ fs. datagram_after fs out) no_frame),
      ap (λ fs. record n { endpoint = record (n.endpoint) { frames = fs } }) (no_frame ∙ sym (ap (λ fs. frames_after fs buf) no_frame)),
    )
