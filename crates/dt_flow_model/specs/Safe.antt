-- The safe ledger: what is promised of a flow at every moment. A place is given where a given row names it.
-- Rows are read with a default (`row_at`, `given_at`, `read_count_at`). Beside each sentence stands why the default makes none of them true or empty.
use Rattle.std.specs.Prelude.{ℕ, ◌+◌, ◌<◌, ◌≤◌, ◌≡◌, ◌≢◌, true, false, List, length, None}
use Rattle.std.proofs.Math.ListN.{drop}
use Rattle.dt_flow_model.specs.declared.rows.Fate.TheVariants.{Open, Acked, Uncertain}
use Rattle.dt_flow_model.specs.declared.rows.Taken.{Taken}
use Rattle.dt_flow_model.specs.declared.rows.Given.{Given}
use Rattle.dt_flow_model.specs.declared.rows.ReadCount.{ReadCount}
use Rattle.dt_flow_model.specs.Ledger.{item_of, sent_item_of, given_in, read_in, top, is_given, row_at, given_at, read_count_at}
use Rattle.dt_flow_model.specs.Flow.{FlowState}

-- a given row follows another: it stands one place higher, in the same life of the receiver
pub record Follows (before row : Given) : Type 0 where
  pub place : before.place + 1 ≡ row.place
  pub life : before.life ≡ row.life

-- what speaks of the ledger and the sender's life number alone
pub record SafeLedger (sender_life : ℕ) (taken : List Taken) (given : List Given) (reads : List ReadCount) : Type 0 where
  -- In order: the places in the list of given rows strictly increase. Positions are below the list's length.
  pub in_order : (j k : ℕ) → j < k → k < length given → (given_at given j).place < (given_at given k).place
  -- In ledger: each given row names a place of the ledger. So each sentence that speaks of a given place, or of one below it, speaks of a row that is there.
  pub in_ledger : (k : ℕ) → k < length given → (given_at given k).place < length taken
  -- Intact: the octet, the begin mark and the end mark of each given row are those of its place.
  pub intact : (k : ℕ) → k < length given → item_of (row_at taken (given_at given k).place) ≡ sent_item_of (given_at given k)
  -- Skips reported: each place below the last given one that isn't given is uncertain, or is of an earlier life than the sender's present one. Such a place is in the ledger, since the last given one is. Where nothing was given `top` is 0 and no place is below it.
  pub skips_reported : (place : ℕ) → place < top given → is_given given place ≡ false → sender_life ≤ (row_at taken place).life → (row_at taken place).fate ≡ Uncertain
  -- Acknowledged is given: each acknowledged place is given. The default isn't acknowledged.
  pub acknowledged_given : (place : ℕ) → (row_at taken place).fate ≡ Acked → is_given given place ≡ true
  -- Runs unbroken: a given row without a run mark has the row before it one place lower, in the same life of the receiver.
  pub first_runs : 0 < length given → (given_at given 0).run ≡ true
  pub unbroken : (k : ℕ) → k + 1 < length given → (given_at given (k + 1)).run ≡ false → Follows (given_at given k) (given_at given (k + 1))
  -- Reads: for each life of the receiver, what was read is at most what was given in that life. A life without an entry read nothing, which is what `read_in` says of it.
  pub read_within : (life : ℕ) → read_in life reads ≤ length (given_in life given)
  -- One entry: each life has at most one entry of what was read, so its first is all that was read in it.
  pub one_entry : (j k : ℕ) → j < k → k < length reads → (read_count_at reads j).life ≢ (read_count_at reads k).life

pub record Safe (s : FlowState) : Type 0 where
  pub ledger : SafeLedger s.sender_life s.taken s.given s.reads
  -- Released is reported: where the sender has no send record, no place of its present life is open. The default isn't open.
  pub released_reported : s.sender ≡ None → (place : ℕ) → (row_at s.taken place).life ≡ s.sender_life → (row_at s.taken place).fate ≢ Open
  -- Unread: what is unread are the octets that were given in the receiver's present life, from those on that were read, with their marks. By `read_within` these are there.
  pub unread : s.unread ≡ drop (read_in s.receiver_life s.reads) (given_in s.receiver_life s.given)
