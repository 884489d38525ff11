-- What small steps lead to is safe.
use Rattle.std.proofs.Common.{ℕ, List, [], ◌∷◌, refl, arith}
use Rattle.std.specs.List.{All, Contains}
use Rattle.std.proofs.lemmas.List.Elements.{All-nil, All-append, All-cons, All-head, All-tail, All-contains, All-weaker}
use Rattle.dt_flow_model.specs.Facts.{AllFit, Facts, Fits}
use Rattle.dt_flow_model.specs.Flow.{FlowState, Packet, new_flow}
use Rattle.dt_flow_model.specs.Steps.{Reached, goes, starts}
use Rattle.dt_units.specs.declared.parameters.Params.{Params}
use Rattle.dt_units.specs.Limits.{IsWithinLimits}
use Rattle.dt_flow_laws.proofs.Kept.{kept}

pub start_facts : (c : Params) (sender_zero receiver_zero : ℕ) → Facts c (new_flow sender_zero receiver_zero)
start_facts c sender_zero receiver_zero = record {
  send_side = record { old = []; ledger = refl; past = tt; lives = omega arith; record_facts = omega arith };
  receive_side = record {
    sent_now = omega arith;
    began = λ r e. absurd cc;
    first_end = λ p F h. absurd cc;
    firsts = λ p q F G le h k. absurd cc;
    given_facts = tt;
    moments = tt;
    last_now = omega arith;
    last_before = λ h. absurd (omega arith);
    record_facts = λ h. absurd (omega arith);
    rising = tt;
    skipped = λ p h. absurd (omega arith);
    acked = λ p h. absurd cc;
  };
  read_side = record { unread_is = refl; within = λ l. omega arith; one_entry = tt; lives = omega arith; joined = tt; of_life = tt };
  spacing = record {
    crossings = record {
      at_most_three = omega arith;
      order = tt;
      moments = tt;
      neighbours = tt;
      third = tt;
      sides = tt;
      reach = λ k first e. absurd cc;
      fewer = λ few k first e. omega arith;
      near = λ k later first next le e e' close. absurd cc;
    };
    sender = omega arith;
    given_in_time = tt;
  };
}

all_in : (c : Params) (s : FlowState) (ps : List Packet) → All (Fits c s) ps → AllFit c s ps
all_in c s [] h = tt
all_in c s (p ∷ ps) h = (All-head (Fits c s) p ps h, all_in c s ps (All-tail (Fits c s) p ps h))

all_from : (c : Params) (s : FlowState) (ps : List Packet) → AllFit c s ps → All (Fits c s) ps
all_from c s [] h = All-nil (Fits c s)
all_from c s (p ∷ ps) h = All-cons (Fits c s) p ps h.0 (all_from c s ps h.1)

pub reached : (c : Params) → IsWithinLimits c → (s : FlowState) (packets : List Packet) → Reached c s packets → Facts c s × All (Fits c s) packets
reached c limits s packets (starts a b) = (start_facts c a b, All-nil (Fits c (new_flow a b)))
reached c limits s packets (goes {s = before} {packets = known} {ins = ins} {made = made} r from step) =
    let ih = reached c limits before known r in
    let here : All (Fits c before) ins = All-weaker (Contains known) (Fits c before) (λ p h. All-contains (Fits c before) known p ih.1 h) ins from in
    let k = kept c limits before s ins made step ih.0 (all_in c before ins here) in
    (k.facts, All-append (Fits c s) made known (all_from c s made k.made_fit) (All-weaker (Fits c before) (Fits c s) k.packets known ih.1))
