use Rattle.std.proofs.Common.{◌≡◌, ◌+◌, ℕ, List, nat_eq, None, sym, ap, ◌∙◌, arith}
use Rattle.std.specs.Prelude.{Err, Ok, OnErr, Result}
use Rattle.std.specs.Map.{lookup}
use Rattle.indexmap.specs.IndexMap.{insert_entry}
use Rattle.dt_ledger.specs.Reads.{reads_in}
use Rattle.dt_ledger.proofs.Reading.{no_entry, one_of_all, reads_in-insert_entry, reads_in-set_value}
use Rattle.dt_ledger.proofs.read_counts.add.Goals as goal

pub overflow_add-read : goal.overflow_add-read
overflow_add-read c = omega (arith, one_of_all (nat_eq c.args.life) c.in-Some.read.now c.args.by_life.now.entries (sym c.in-Some.ensures.value))

pub returns-in-Some-clause-ok : goal.returns-in-Some-clause-ok
returns-in-Some-clause-ok c =
    let had = c.in-Some.read.now in
    let es = c.args.by_life.now.entries in
    ap reads_in ((c.get_mut.follows.holds (had + c.args.count)).0) ∙ reads_in-set_value c.args.life c.args.count had es (sym c.in-Some.ensures.value)

pub returns-clause-ok : goal.returns-clause-ok
returns-clause-ok c =
    let es = c.args.by_life.now.entries in
    let none : lookup (nat_eq c.args.life) es ≡ None = sym c.in_default.ensures.value in
    ap reads_in c.in_ok-insert.ensures.entries
    ∙ ap (λ (xs : List (ℕ × ℕ)). reads_in (insert_entry nat_eq xs c.args.life c.args.count)) (ap (λ m. m.entries) c.get_mut.follows.holds-at-none)
    ∙ reads_in-insert_entry c.args.life c.args.count es none

-- what holds anyway holds after an error
after_an_error : {X Y P : Type 0} (r : Result X Y) → P → OnErr r P
after_an_error (Ok x) p = tt
after_an_error (Err y) p = p

pub returns-in_err-insert-clause-memory : goal.returns-in_err-insert-clause-memory
returns-in_err-insert-clause-memory c = after_an_error c.from_residual.result (no_entry c.args.life c.args.by_life.now.entries (sym c.in_default.ensures.value))
