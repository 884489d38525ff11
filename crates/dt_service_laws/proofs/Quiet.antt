-- Changes of what a node has that tell no request and no answer, and open no token.
use Rattle.std.proofs.Common.{ℕ, ◌-◌, ◌≤◌, ◌≡◌, Bool, true, false, List, [], ◌∷◌, ◌++◌, map, Option, Some, None, refl, ap, sym, subst, ◌∙◌, inl, inr, append-nil, append_assoc, arith}
use Rattle.std.specs.Prelude.{All, Contains, cond, filter, filter_map, fold, is_some, not}
use Rattle.std.specs.List.{cons_option, list_any}
use Rattle.std.proofs.lemmas.Bool.{cases_Bool}
use Rattle.std.proofs.lemmas.List.Elements.{All-append, All-cons, All-contains, All-contains_itself, All-head, All-nil, All-tail, All-weaker}
use Rattle.dt_units.specs.declared.endpoints.Flow.{Flow}
use Rattle.dt_reports.specs.Told.{Told}
use Rattle.dt_world_model.specs.Host.{Host}
use Rattle.dt_world_model.specs.Tables.{same_flow}
use Rattle.dt_calls_model.specs.Messages.{reversed}
use Rattle.dt_service_model.specs.declared.calls.OpenCall.{OpenCall}
use Rattle.dt_service_model.specs.declared.calls.Cause.{Cause}
use Rattle.dt_service_model.specs.declared.call_counts.CallCounts.{CallCounts}
use Rattle.dt_service_model.specs.declared.happenings.Happening.{Happening}
use Rattle.dt_service_model.specs.declared.happenings.Happening.TheVariants.{ReplyUncertain, Unsure}
use Rattle.dt_service_model.specs.declared.names.Token.{Token}
use Rattle.dt_service_model.specs.Names.{same_token}
use Rattle.dt_service_model.specs.Asked.{forgotten}
use Rattle.dt_service_model.specs.Ends.{cause_of, close, is_kept, judge, judged_as, judged_call, unsure_by, unsure_of}
use Rattle.dt_service_model.specs.CallBook.{CallBook, is_service, kind_in}
use Rattle.dt_service_model.specs.Hearing.{Accepts, GivesUp, Heard, NoMatter, Settles, hear, hear_as, heard, is_uncertain, with_fates, with_flow}
use Rattle.dt_service_model.specs.Turns.{done_with, has_receiver, sweep}
use Rattle.dt_service_laws.proofs.Begun.{swept_tracks}
use Rattle.dt_service_laws.proofs.Moves.{AreKeptFrom, IsKeptFrom, IsQuiet, IsNoMessage, Tracks, open_count}

pub kept_itself : (calls : List OpenCall) → AreKeptFrom calls calls
kept_itself calls = All-weaker (Contains calls) (λ (c : OpenCall). c.waits ≡ true → IsKeptFrom calls c) (λ c there waits. record { was = c; there = there; waits = waits; number = refl; flow = refl }) calls (All-contains_itself calls)

pub kept_through : (xs ys zs : List OpenCall) → AreKeptFrom xs ys → AreKeptFrom ys zs → AreKeptFrom xs zs
kept_through xs ys zs first second =
    All-weaker (λ (c : OpenCall). c.waits ≡ true → IsKeptFrom ys c) (λ (c : OpenCall). c.waits ≡ true → IsKeptFrom xs c)
    (λ c from waits.
    let k = from waits in
    let l = All-contains (λ (b : OpenCall). b.waits ≡ true → IsKeptFrom xs b) ys k.was first k.there k.waits in
    record { was = l.was; there = l.there; waits = l.waits; number = l.number ∙ k.number; flow = l.flow ∙ k.flow })
    zs second

-- nothing changes but what no law speaks of
pub quiet_same : (h k : CallBook) → k.ports ≡ h.ports → (h.closed ≡ true → k.closed ≡ true) → k.life ≡ h.life → k.count ≡ h.count → k.tokens ≡ h.tokens → k.begun ≡ h.begun → k.calls ≡ h.calls → k.happenings ≡ h.happenings → IsQuiet h k
quiet_same h k ports closes life count tokens begun calls happenings = record {
  ports = ports;
  closes = closes;
  life = life;
  count = count;
  tokens = λ t there. subst (λ (ts : List Token). Contains ts t) tokens there;
  opens = λ t. (let e = ap (λ (ts : List Token). open_count t ts) tokens in omega (arith, e));
  begun = λ g b tracks. subst (λ (es : List (Flow × List ℕ)). Tracks g b es) (sym begun) tracks;
  waits = subst (λ (cs : List OpenCall). AreKeptFrom h.calls cs) (sym calls) (kept_itself h.calls);
  told = [];
  happenings = happenings ∙ sym (append-nil h.happenings);
  unsure = All-nil IsNoMessage;
}

pub quiet_itself : (h : CallBook) → IsQuiet h h
quiet_itself h = quiet_same h h refl (λ c. c) refl refl refl refl refl refl

pub quiet_then : (h k l : CallBook) → IsQuiet h k → IsQuiet k l → IsQuiet h l
quiet_then h k l p q = record {
  ports = q.ports ∙ p.ports;
  closes = λ c. q.closes (p.closes c);
  life = q.life ∙ p.life;
  count = q.count ∙ p.count;
  tokens = λ t there. p.tokens t (q.tokens t there);
  opens = λ t. (let a = p.opens t in let b = q.opens t in omega (arith, a, b));
  begun = λ g b tracks. q.begun g b (p.begun g b tracks);
  waits = kept_through h.calls k.calls l.calls p.waits q.waits;
  told = p.told ++ q.told;
  happenings = q.happenings ∙ ap (λ (xs : List Happening). xs ++ q.told) p.happenings ∙ append_assoc h.happenings p.told q.told;
  unsure = All-append IsNoMessage p.told q.told p.unsure q.unsure;
}

-- what calls, what was begun and what was told change to
quiet_to : (h : CallBook) (calls : List OpenCall) (begun : List (Flow × List ℕ)) (counts : CallCounts) (happenings told : List Happening) → AreKeptFrom h.calls calls → ((g : Flow) (b : Option (List ℕ)) → Tracks g b h.begun → Tracks g b begun) → happenings ≡ h.happenings ++ told → All IsNoMessage told
    → IsQuiet h (record h { calls = calls; begun = begun; counts = counts; happenings = happenings })
quiet_to h calls begun counts happenings told kept tracked more unsure = record {
  ports = refl;
  closes = λ c. c;
  life = refl;
  count = refl;
  tokens = λ t there. there;
  opens = λ t. omega arith;
  begun = tracked;
  waits = kept;
  told = told;
  happenings = more;
  unsure = unsure;
}

quiet_calls : (h : CallBook) (calls : List OpenCall) → AreKeptFrom h.calls calls → IsQuiet h (record h { calls = calls })
quiet_calls h calls kept = quiet_to h calls h.begun h.counts h.happenings [] kept (λ g b tracks. tracks) (sym (append-nil h.happenings)) (All-nil IsNoMessage)

-- WHAT IS HEARD
all_fates : (base : List OpenCall) (given_up : Bool) (f : Flow) (count : ℕ) (calls : List OpenCall) → All (Contains base) calls → AreKeptFrom base (with_fates given_up f count calls)
all_fates base given_up f count [] all = All-nil (λ (c : OpenCall). c.waits ≡ true → IsKeptFrom base c)
all_fates base given_up f count (call ∷ calls) all =
    let here = All-head (Contains base) call calls all in
    let rest = All-tail (Contains base) call calls all in
    elim (cases_Bool (same_flow call.flow f)) [
      | inl y ↦ rw y (All-cons (λ (c : OpenCall). c.waits ≡ true → IsKeptFrom base c) _ _ (λ waits. record { was = call; there = here; waits = waits; number = refl; flow = refl }) (all_fates base given_up f (count - call.left) calls rest))
      | inr o ↦ rw o (All-cons (λ (c : OpenCall). c.waits ≡ true → IsKeptFrom base c) _ _ (λ waits. record { was = call; there = here; waits = waits; number = refl; flow = refl }) (all_fates base given_up f count calls rest))
    ]

accepts_quiet : (b : Bool) (f : Flow) (h : CallBook) → IsQuiet h (cond b (record h { unread = with_flow f h.unread }) h)
accepts_quiet true f h = quiet_same h (record h { unread = with_flow f h.unread }) refl (λ c. c) refl refl refl refl refl refl
accepts_quiet false f h = quiet_same h h refl (λ c. c) refl refl refl refl refl refl

given_up_quiet : (b c : Bool) (f : Flow) (calls : List OpenCall) (h : CallBook) → AreKeptFrom h.calls calls → IsQuiet h (record h { calls = calls; happenings = cond b (cond c h.happenings (h.happenings ++ ReplyUncertain f ∷ [])) h.happenings })
given_up_quiet true true f calls h kept = quiet_calls h calls kept
given_up_quiet true false f calls h kept = quiet_to h calls h.begun h.counts (h.happenings ++ ReplyUncertain f ∷ []) (ReplyUncertain f ∷ []) kept (λ g b tracks. tracks) refl (All-cons IsNoMessage (ReplyUncertain f) [] tt (All-nil IsNoMessage))
given_up_quiet false c f calls h kept = quiet_calls h calls kept

heard_quiet : (x : Heard) (h : CallBook) → IsQuiet h (hear_as x h)
heard_quiet (Settles f count) h = quiet_calls h (with_fates false f count h.calls) (all_fates h.calls false f count h.calls (All-contains_itself h.calls))
heard_quiet (GivesUp f count) h = given_up_quiet (is_service (kind_in f.from_port h.ports)) (list_any (is_uncertain (reversed f)) h.happenings) (reversed f) (with_fates true f count h.calls) h (all_fates h.calls true f count h.calls (All-contains_itself h.calls))
heard_quiet (Accepts f) h = accepts_quiet (is_some (kind_in f.to_port h.ports)) f h
heard_quiet NoMatter h = quiet_same h h refl (λ c. c) refl refl refl refl refl refl

pub all_heard_quiet : (told : List Told) (h : CallBook) → IsQuiet h (fold hear h told)
all_heard_quiet [] h = quiet_same h h refl (λ c. c) refl refl refl refl refl refl
all_heard_quiet (t ∷ told) h = quiet_then h (hear h t) (fold hear (hear h t) told) (heard_quiet (heard t) h) (all_heard_quiet told (hear h t))

-- A FLOW IS READ NO MORE
pub done_quiet : (f : Flow) (h : CallBook) → IsQuiet h (done_with f h)
done_quiet f h = quiet_same h (done_with f h) refl (λ c. c) refl refl refl refl refl refl

-- WHAT WAS BEGUN without a receiver goes
pub sweep_quiet : (host : Host) (h : CallBook) → IsQuiet h (sweep host h)
sweep_quiet host h = quiet_to h h.calls (sweep host h).begun (sweep host h).counts h.happenings [] (kept_itself h.calls) (λ g b tracks. swept_tracks (has_receiver host) g b h.begun tracks) (sym (append-nil h.happenings)) (All-nil IsNoMessage)

-- CALLS ARE JUDGED
unsure_all : (now : ℕ) (calls : List OpenCall) → All IsNoMessage (filter_map (unsure_of now) calls)
unsure_all now [] = All-nil IsNoMessage
unsure_all now (call ∷ calls) = by_cause (cause_of now call) (unsure_all now calls)
  where
    by_cause : (o : Option Cause) → All IsNoMessage (filter_map (unsure_of now) calls) → All IsNoMessage (cons_option (unsure_by call o) (filter_map (unsure_of now) calls))
    by_cause None rest = rest
    by_cause (Some cause) rest = All-cons IsNoMessage (Unsure call.number cause) (filter_map (unsure_of now) calls) tt rest

all_judged : (base : List OpenCall) (now : ℕ) (calls : List OpenCall) → All (Contains base) calls → AreKeptFrom base (filter is_kept (map (judged_call now) calls))
all_judged base now [] all = All-nil (λ (c : OpenCall). c.waits ≡ true → IsKeptFrom base c)
all_judged base now (call ∷ calls) all = by_kept (is_kept (judged_call now call)) (all_judged base now calls (All-tail (Contains base) call calls all))
  where
    by_cause : (o : Option Cause) → (judged_as call o).waits ≡ true → IsKeptFrom base (judged_as call o)
    by_cause None waits = record { was = call; there = All-head (Contains base) call calls all; waits = waits; number = refl; flow = refl }
    by_cause (Some cause) waits = absurd cc

    by_kept : (b : Bool) → AreKeptFrom base (filter is_kept (map (judged_call now) calls)) → AreKeptFrom base (cond b (judged_call now call ∷ filter is_kept (map (judged_call now) calls)) (filter is_kept (map (judged_call now) calls)))
    by_kept true rest = All-cons (λ (c : OpenCall). c.waits ≡ true → IsKeptFrom base c) (judged_call now call) (filter is_kept (map (judged_call now) calls)) (by_cause (cause_of now call)) rest
    by_kept false rest = rest

pub judge_quiet : (now : ℕ) (h : CallBook) → IsQuiet h (judge now h)
judge_quiet now h = quiet_to h (judge now h).calls h.begun h.counts (judge now h).happenings (filter_map (unsure_of now) h.calls) (all_judged h.calls now h.calls (All-contains_itself h.calls)) (λ g b tracks. tracks) refl (unsure_all now h.calls)

-- A TOKEN IS OPEN NO MORE
pub all_filtered : {X : Type 0} (P : X → Type 0) (keep : X → Bool) (xs : List X) → All P xs → All P (filter keep xs)
all_filtered P keep [] all = All-nil P
all_filtered P keep (x ∷ xs) all =
    elim (cases_Bool (keep x)) [ inl y ↦ rw y (All-cons P x (filter keep xs) (All-head P x xs all) (all_filtered P keep xs (All-tail P x xs all))) | inr o ↦ rw o (all_filtered P keep xs (All-tail P x xs all)) ]

pub filtered_there : {X : Type 0} (keep : X → Bool) (xs : List X) (x : X) → Contains (filter keep xs) x → Contains xs x
filtered_there keep xs x there = All-contains (Contains xs) (filter keep xs) x (all_filtered (Contains xs) keep xs (All-contains_itself xs)) there

pub fewer_open : (t : Token) (keep : Token → Bool) (tokens : List Token) → open_count t (filter keep tokens) ≤ open_count t tokens
fewer_open t keep [] = omega arith
fewer_open t keep (s ∷ tokens) = let more = fewer_open t keep tokens in elim (cases_Bool (keep s)) [ inl y ↦ rw y (omega (arith, more)) | inr o ↦ rw o (omega (arith, more)) ]

quiet_tokens : (h : CallBook) (keep : Token → Bool) → IsQuiet h (record h { tokens = filter keep h.tokens })
quiet_tokens h keep = record {
  ports = refl;
  closes = λ c. c;
  life = refl;
  count = refl;
  tokens = λ t there. filtered_there keep h.tokens t there;
  opens = λ t. fewer_open t keep h.tokens;
  begun = λ g b tracks. tracks;
  waits = kept_itself h.calls;
  told = [];
  happenings = sym (append-nil h.happenings);
  unsure = All-nil IsNoMessage;
}

pub forgotten_quiet : (token : Token) (h : CallBook) → IsQuiet h (forgotten token h)
forgotten_quiet token h = quiet_tokens h (λ t. not (same_token token t))

-- A NODE CLOSES
pub close_quiet : (h : CallBook) → IsQuiet h (close h)
close_quiet h = record {
  ports = refl;
  closes = λ c. refl;
  life = refl;
  count = refl;
  tokens = λ t there. absurd (omega (arith, there.1));
  opens = λ t. omega arith;
  begun = λ g b tracks. inl refl;
  waits = all_filtered (λ (c : OpenCall). c.waits ≡ true → IsKeptFrom h.calls c) (λ (call : OpenCall). call.waits) h.calls (kept_itself h.calls);
  told = [];
  happenings = sym (append-nil h.happenings);
  unsure = All-nil IsNoMessage;
}
