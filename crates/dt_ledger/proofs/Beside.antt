-- What is kept beside the rows stays true, whatever changes.
use Rattle.std.proofs.Common.{ℕ, ◌≡◌, ◌+◌, ◌-◌, ◌<◌, ◌≤◌, Bool, true, false, nat_lt, List, ◌++◌, length, map, min, None, take, drop, refl, sym, ap, subst, ◌∙◌, inl, inr, arith}
use Rattle.std.proofs.lemmas.Bool.{cases_Bool}
use Rattle.std.proofs.lemmas.Bool.Decides.{nat_tests}
use Rattle.std.proofs.lemmas.List.{length-append, take_at}
use Rattle.dt_items.specs.declared.item.Item.{Item}
use Rattle.dt_flow_model.specs.declared.rows.Fate.{Fate}
use Rattle.dt_flow_model.specs.declared.rows.Taken.{Taken}
use Rattle.dt_flow_model.specs.Ledger.{first_unsent, is_open, is_open_in, note_first, open_row, settle, take_rows}
use Rattle.dt_ledger.specs.declared.fate_counts.FateCounts.{FateCounts}
use Rattle.dt_ledger.specs.declared.progress.Passed.{Passed}
use Rattle.dt_ledger.specs.declared.progress.Progress.{Progress}
use Rattle.dt_ledger.specs.Rows.{AreBeside, IsPassed, NoneBelow, change_at, fates_in, progress_in, settle_at, waits_in, with_fate}
use Rattle.dt_ledger.proofs.Counting.{fates-change_at, fates-take_rows, more_open}
use Rattle.dt_ledger.proofs.Passing.{closed_is_not_open, closed_waits_not, lives_changed, lives_later, lives_settled, lives_taken, none_after, none_append, none_before, none_before_first, none_changed, none_less, none_of_later, none_settled, not_open_in, not_waiting_in, noted, noted_waits_not}
use Rattle.dt_ledger.proofs.Settling.{change_there, length-change_at, length-settle, note_first_is}

-- the rows that a slice of them was written to
pub rewritten : (len : ℕ) (new old : List Taken) → length new ≡ length old → length old ≡ len → take len (new ++ drop (length new) old) ≡ new
rewritten len new old same all = take_at new (drop (length new) old) len (same ∙ all)

pub beside_written : (counts : FateCounts) (progress : Progress) (len : ℕ) (new old target : List Taken) → new ≡ target → length target ≡ length old → length old ≡ len
    → AreBeside counts progress target → AreBeside counts progress (take len (new ++ drop (length new) old))
beside_written counts progress len new old target is same all h =
    let long : length new ≡ length old = ap length is ∙ same in
    subst (AreBeside counts progress) (sym (rewritten len new old long all ∙ is)) h

passed_changed : (test : ℕ → Taken → Bool) (change : Taken → Taken) → ((life : ℕ) (row : Taken) → test life row ≡ false → test life (change row) ≡ false)
    → (passed : Passed) (place count : ℕ) (rows : List Taken) → IsPassed test passed rows → IsPassed test passed (change_at change place count rows)
passed_changed test change keeps passed place count rows h =
    (omega (arith, h.0, length-change_at change place count rows), none_changed (test passed.life) change (keeps passed.life) passed.below place count rows h.1)

-- a first moment
noted_open : (at life : ℕ) (row : Taken) → is_open_in life row ≡ false → is_open_in life (noted at row) ≡ false
noted_open at life row h = h

noted_waits : (at life : ℕ) (row : Taken) → waits_in life row ≡ false → waits_in life (noted at row) ≡ false
noted_waits at life row h = noted_waits_not at life row

pub beside_noted : (counts : FateCounts) (progress : Progress) (at place count : ℕ) (rows : List Taken) → AreBeside counts progress rows → AreBeside counts progress (note_first at place count rows)
beside_noted counts progress at place count rows h =
    subst (AreBeside counts progress) (sym (note_first_is at place count rows))
    (record {
      fates = h.fates ∙ sym (fates-change_at (noted at) (λ _. refl) place count rows);
      lives = lives_changed (noted at) (λ _. refl) progress.latest place count rows h.lives;
      settled = passed_changed is_open_in (noted at) (noted_open at) progress.settled place count rows h.settled;
      sent = passed_changed waits_in (noted at) (noted_waits at) progress.sent place count rows h.sent;
    })

-- the leftmost rows that wait are sent: so many, of which those are noted that are there
pub note_first_there : (at place count : ℕ) (rows : List Taken) → place ≤ length rows → note_first at place (min (length rows - place) count) rows ≡ note_first at place count rows
note_first_there at place count rows l =
    note_first_is at place (min (length rows - place) count) rows
    ∙ there
    ∙ sym (note_first_is at place count rows)
  where
    there : change_at (noted at) place (min (length rows - place) count) rows ≡ change_at (noted at) place count rows
    there =
        elim (cases_Bool (nat_lt (length rows - place) count)) [
          | inl y ↦
              let few : length rows - place < count = grind (arith, nat_tests) in
              let is : min (length rows - place) count ≡ length rows - place = omega arith in
              sym (change_there (noted at) place count (min (length rows - place) count) rows (omega arith) (omega arith))
          | inr other ↦
              let many : count ≤ length rows - place = grind (arith, nat_tests) in
              let is : min (length rows - place) count ≡ count = omega arith in
              ap (λ (n : ℕ). change_at (noted at) place n rows) is
        ]

pub beside_sent : (counts : FateCounts) (progress : Progress) (at life place there : ℕ) (rows : List Taken) → place ≡ first_unsent life rows → place + there ≤ length rows
    → AreBeside counts progress rows → AreBeside counts (record progress { sent = record { life = life; below = place + there } }) (note_first at place there rows)
beside_sent counts progress at life place there rows first within h =
    let noted_rows = beside_noted counts progress at place there rows h in
    let none : NoneBelow (waits_in life) place rows = subst (λ (n : ℕ). NoneBelow (waits_in life) n rows) (sym first) (none_before_first life rows) in
    let after : NoneBelow (waits_in life) (place + there) (note_first at place there rows) =
    subst (NoneBelow (waits_in life) (place + there)) (sym (note_first_is at place there rows)) (none_after (waits_in life) (noted at) (noted_waits_not at life) (place + there) place there rows (omega arith) none) in
    let long : length (note_first at place there rows) ≡ length rows = ap length (note_first_is at place there rows) ∙ length-change_at (noted at) place there rows in
    record { fates = noted_rows.fates; lives = noted_rows.lives; settled = noted_rows.settled; sent = (omega (arith, long, within), after) }

-- a fate by place: rows that are open again are sought again
settled_passed : (test : ℕ → Taken → Bool) (fate : Fate) → (is_open fate ≡ false → (life : ℕ) (row : Taken) → test life (with_fate fate row) ≡ false)
    → (before after : Passed) (place count : ℕ) (rows : List Taken) → after.life ≡ before.life → after.below ≤ before.below → (is_open fate ≡ true → after.below ≤ place)
    → IsPassed test before rows → IsPassed test after (settle_at fate place count rows)
settled_passed test fate closes before after place count rows same less again h = (
  omega (arith, h.0, length-change_at (with_fate fate) place count rows),
  subst (λ (life : ℕ). NoneBelow (test life) after.below (settle_at fate place count rows)) (sym same)
      (elim (cases_Bool (is_open fate)) [
        | inl y ↦ none_before (test before.life) (with_fate fate) after.below place count rows (again y) fewer
        | inr other ↦ none_changed (test before.life) (with_fate fate) (λ row _. closes other before.life row) after.below place count rows fewer
      ]),
)
  where
    fewer : NoneBelow (test before.life) after.below rows
    fewer = none_less (test before.life) after.below before.below rows less h.1

pub beside_settled_at : (counts counts' : FateCounts) (progress : Progress) (settled sent : Passed) (fate : Fate) (place count : ℕ) (rows : List Taken)
    → counts' ≡ fates_in (settle_at fate place count rows)
    → settled.life ≡ progress.settled.life → settled.below ≤ progress.settled.below → (is_open fate ≡ true → settled.below ≤ place)
    → sent.life ≡ progress.sent.life → sent.below ≤ progress.sent.below → (is_open fate ≡ true → sent.below ≤ place)
    → AreBeside counts progress rows
    → AreBeside counts' (record { latest = progress.latest; settled = settled; sent = sent }) (settle_at fate place count rows)
beside_settled_at counts counts' progress settled sent fate place count rows counted a b c d e f h =
    record {
      fates = counted;
      lives = lives_changed (with_fate fate) (λ _. refl) progress.latest place count rows h.lives;
      settled = settled_passed is_open_in fate (closed_is_not_open fate) progress.settled settled place count rows a b c h.settled;
      sent = settled_passed waits_in fate (closed_waits_not fate) progress.sent sent place count rows d e f h.sent;
    }

-- the leftmost open rows are settled
pub beside_settled : (counts counts' : FateCounts) (progress : Progress) (settled : Passed) (life : ℕ) (fate : Fate) (count : ℕ) (rows : List Taken)
    → is_open fate ≡ false → counts' ≡ fates_in (settle life fate count rows) → IsPassed is_open_in settled (settle life fate count rows)
    → AreBeside counts progress rows
    → AreBeside counts' (record progress { settled = settled }) (settle life fate count rows)
beside_settled counts counts' progress settled life fate count rows closed counted passed h =
    record {
      fates = counted;
      lives = lives_settled progress.latest life fate count rows h.lives;
      settled = passed;
      sent = (
        omega (arith, h.sent.0, length-settle life fate count rows),
        none_settled (waits_in progress.sent.life) fate (λ row _. closed_waits_not fate closed progress.sent.life row) life count progress.sent.below rows h.sent.1,
      );
    }

-- octets are taken
beside_more : (counts : FateCounts) (progress : Progress) (life : ℕ) (items : List Item) (rows : List Taken) → AreBeside counts progress rows
    → AreBeside (more_open (length items) counts) (progress_in life (length rows) progress) (rows ++ map (open_row life None) items)
beside_more counts progress life items rows h =
    let more = map (open_row life None) items in
    let long : length rows ≤ length (rows ++ more) = omega (arith, length-append rows more) in
    let fates = ap (more_open (length items)) h.fates ∙ sym (fates-take_rows life items rows) in
    elim (cases_Bool (nat_lt progress.latest life)) [
      | inl y ↦
          let later : progress.latest < life = grind (arith, nat_tests) in
          rw y
          (record {
            fates = fates;
            lives = lives_taken life life items rows (omega arith) (lives_later progress.latest life rows (omega arith) h.lives);
            settled = (long, none_append (is_open_in life) (length rows) rows more (omega arith) (none_of_later (is_open_in life) progress.latest life (not_open_in life) later (length rows) rows h.lives));
            sent = (long, none_append (waits_in life) (length rows) rows more (omega arith) (none_of_later (waits_in life) progress.latest life (not_waiting_in life) later (length rows) rows h.lives));
          })
      | inr other ↦
          let not_later : life ≤ progress.latest = grind (arith, nat_tests) in
          rw other
          (record {
            fates = fates;
            lives = lives_taken progress.latest life items rows not_later h.lives;
            settled = (omega (arith, h.settled.0, long), none_append (is_open_in progress.settled.life) progress.settled.below rows more h.settled.0 h.settled.1);
            sent = (omega (arith, h.sent.0, long), none_append (waits_in progress.sent.life) progress.sent.below rows more h.sent.0 h.sent.1);
          })
    ]

pub length-note_first : (at place count : ℕ) (rows : List Taken) → length (note_first at place count rows) ≡ length rows
length-note_first at place count rows = ap length (note_first_is at place count rows) ∙ length-change_at (noted at) place count rows

pub beside_taken : (counts : FateCounts) (progress after : Progress) (life : ℕ) (items : List Item) (rows all : List Taken) (more count : ℕ)
    → more ≡ length items → count ≡ length rows → after ≡ progress_in life count progress → all ≡ take_rows life items rows
    → AreBeside counts progress rows → AreBeside (more_open more counts) after all
beside_taken counts progress after life items rows all more count a b c d h =
    rw (d, c, b, a) (beside_more counts progress life items rows h)
