use Rattle.std.proofs.Common.{◌+◌, ◌%◌, ◌≡◌, refl, sym, arith}
use Rattle.std.specs.List.{range_with_len}
use Rattle.std.proofs.lemmas.List.Folds.{flat_map-map}
use Rattle.dt_edges.proofs.Puts.{takes_as}
use Rattle.dt_log.specs.Words.{octet_text}
use Rattle.dt_log.proofs.Parts.{puts_as}
use Rattle.dt_make.proofs.Counting.{number_taken, number_failed, all_taken}
use Rattle.dt_make.proofs.rounds.put_message.Goals as goal

pub returns-in_err-put_hex : goal.returns-in_err-put_hex
returns-in_err-put_hex g c =
    puts_as _ _ _ _ _ _ (flat_map-map octet_text (λ j. (c.args.number + j) % 256) (range_with_len 0 c.args.length))
    (number_failed _ (λ j. octet_text ((c.args.number + j) % 256)) c.args.length c.loop-place.place _ _ _ _ _ c.loop-place-test.true refl c.loop-place.invariant c.in_err-put_hex.ensures c.from_residual.ensures.0)

pub loop-place-preserved : goal.loop-place-preserved
loop-place-preserved g c =
    number_taken (λ j. octet_text ((c.args.number + j) % 256)) c.args.length c.loop-place.place _ _ _ _ c.loop-place-test.true refl c.loop-place.invariant c.in_ok-put_hex.ensures

pub returns : goal.returns
returns g c =
    let all : c.loop-place.place ≡ c.args.length = omega (arith, c.loop-place-test.false, c.loop-place.auto.place-end) in
    takes_as _ _ _ _ (sym (flat_map-map octet_text (λ j. (c.args.number + j) % 256) (range_with_len 0 c.args.length)))
    (all_taken (λ j. octet_text ((c.args.number + j) % 256)) c.args.length c.loop-place.place _ _ all c.loop-place.invariant)
