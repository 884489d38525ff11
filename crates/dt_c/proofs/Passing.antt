-- The code of an export: the handle is taken as a reference, each other parameter is copied or lent again, and the result of the call is handed on.
use Rattle.std.specs.Prelude.{◌||◌}
use Rattle.std.proofs.Common.{◌≡◌, ℕ, ◌+◌, suc, zero, List, [], ◌∷◌, length, refl}
use seplogic.Ra.Ura.{Ura}
use base.Logic.{SProp, ent, id⊢, sep}
use mir.Syntax.{Body, Callee, Fn, Local, Opd, Ty, addr_of, aggregate, assign, block, call, copy, deref, erased, field, local, mut, opd_unit, place, return, rv_opd, seq, ty_int, ty_ptr, ty_ref, ty_unit, value_local, w8}
use lib.Dec.{T, eqb}
use mir.Val.{Val, has_ty, vbool, vcode, vfloat, vint, vptr, vstruct, vunit}
use prog.Model.{Model}
use prog.Wp.{WpFn}
use contract.Monad.{fact}
use contract.Lifetimes.{Outlives, bounds_of}
use contract.Running.{MachineTables, Running, tables}
use types.Kit.{raw, ◌⊛◌, later, at_ret, ◌$◌, ◌∵◌, !, qed, done, rewrite, use1, split, await}
use types.Logic.{Logic}
use types.Run.{enter, of_opd, addr, stop, fld, hop, from, no_more, and_then, first, blocks, exec, returns, unit_lit}
use types.Part.{agg, sub, whole}
use types.ByLocal.{alloc_all, pass_all, free_all, look_at, look_in_at, get, get_in, through, sets, sets_last, lands_as, env}
use denote.Laws.{Are, Ises, Typed, valss}
use denote.RattleType.{Denots, flat}
use denote.Memory.{lone, pointee}
use denote.Slice.{slice_ty, slice_val}
use denote.Steps.{heard}
use denote.Triple.Call.{calls_from}
use denote.Triple.Table.{framed}
use Rattle.dt_c.proofs.Lending.{Hands}
use Rattle.dt_c.proofs.Parameters.{Parameters, none, buffer, filled, ◌&◌, rows, words}

abbrev pub stored : Ty → Local
stored τ = local τ value_local

abbrev pub reference : Ty → Local
reference ρ = stored (ty_ref erased mut ρ)

abbrev count : Parameters → ℕ
count none = 0
count (filled ℓ κ P) = 1
count (buffer ℓ κ ps) = count ps + 1
count (p & ps) = count ps + 1

abbrev passed_locals : Parameters → List Local → List Local
passed_locals none ls = ls
passed_locals (filled ℓ κ P) ls = stored (ty_ref ℓ mut (pointee P.written)) ∷ ls
passed_locals (buffer ℓ κ ps) ls = stored (slice_ty (ty_ref ℓ mut (ty_int w8))) ∷ passed_locals ps ls
passed_locals (p & ps) ls = stored p.passed_as ∷ passed_locals ps ls

abbrev copied_locals : Parameters → List Local
copied_locals none = []
copied_locals (filled ℓ κ P) = reference (pointee P.written) ∷ []
copied_locals (buffer ℓ κ ps) = reference (ty_int w8) ∷ stored (slice_ty (ty_ref erased mut (ty_int w8))) ∷ copied_locals ps
copied_locals (p & ps) = stored p.copied_as ∷ copied_locals ps

-- the parameters from local i on go to the locals from j on
abbrev copies : Parameters → (i j : ℕ) → Body → Body
copies none i j rest = rest
copies (filled ℓ κ P) i j rest = seq (assign (place j []) (addr_of (place i (deref (lone P.mir) ∷ [])))) rest
copies (buffer ℓ κ ps) i j rest = seq (assign (place j []) (addr_of (place i (field 0 ∷ deref (ty_int w8) ∷ [])))) (seq (assign (place (j + 1) []) (aggregate (copy (place j []) ∷ copy (place i (field 1 ∷ [])) ∷ []))) (copies ps (i + 1) (j + 2) rest))
copies (p & ps) i j rest = seq (assign (place j []) (rv_opd (copy (place i [])))) (copies ps (i + 1) (j + 1) rest)

abbrev operands : Parameters → ℕ → List Opd
operands none j = []
operands (filled ℓ κ P) j = copy (place j []) ∷ []
operands (buffer ℓ κ ps) j = copy (place (j + 1) []) ∷ operands ps (j + 2)
operands (p & ps) j = copy (place j []) ∷ operands ps (j + 1)

-- the handle is in local 1, and the reference to what lies there comes into the local after `to`
abbrev pub takes_reference : (σ : Ty) (to : ℕ) → Body
takes_reference σ to = block (seq (assign (place (to + 2) []) (rv_opd (copy (place 1 [])))) (seq (assign (place (to + 3) []) (rv_opd (copy (place (to + 2) []))))
    (assign (place (to + 1) []) (addr_of (place (to + 3) (deref σ ∷ []))))))

-- of a call f with a result of the type τ, on what lies at the handle, of the type σ, to which a reference names ρ
module _ (f : Callee) (τ σ ρ : Ty) (ps : Parameters) where
  abbrev locals : List Local
  locals = stored τ ∷ stored ty_ptr ∷ passed_locals ps (reference ρ ∷ reference ρ ∷ stored ty_ptr ∷ stored ty_ptr ∷ copied_locals ps)

  abbrev calls : Body
  calls = seq (assign (place (count ps + 2) []) (rv_opd (copy (place (count ps + 3) [])))) (copies ps 2 (count ps + 6)
      (seq (call f (copy (place (count ps + 2) []) ∷ operands ps (count ps + 6)) (place 0 [])) return))

  abbrev pub code : (n : ℕ) → List (Outlives n) → Fn
  code n os = record { lifetimes = n; outlives = bounds_of n os; ty_params = []; givens = 0; params = count ps + 1; locals = locals; body = seq (takes_reference σ (count ps + 2)) calls }

-- the same of a call that has no result
abbrev closing_locals : Ty → List Local
closing_locals ρ = stored ty_unit ∷ stored ty_ptr ∷ stored ty_unit ∷ reference ρ ∷ reference ρ ∷ stored ty_ptr ∷ stored ty_ptr ∷ []

abbrev closing_calls : Callee → Body
closing_calls f = seq (assign (place 3 []) (rv_opd (copy (place 4 [])))) (seq (call f (copy (place 3 []) ∷ []) (place 2 [])) (seq (assign (place 0 []) (rv_opd opd_unit)) return))

abbrev pub closing : Callee → Ty → Ty → Fn
closing f σ ρ = record { lifetimes = 0; outlives = []; ty_params = []; givens = 0; params = 1; locals = closing_locals ρ; body = seq (takes_reference σ 3) (closing_calls f) }

is_unit : (v : Val) → T (has_ty ty_unit v) → v ≡ vunit
is_unit vunit t = refl
is_unit (vbool b) t = absurd t
is_unit (vint w n) t = absurd t
is_unit (vfloat g x) t = absurd t
is_unit (vptr b o) t = absurd t
is_unit (vstruct vs) t = absurd t
is_unit (vcode c) t = absurd t

-- those that are walked below, where n more may still be copied: five at most, one before a struct that is filled, two before a buffer,
-- and none or two before a buffer and such a struct
abbrev BufferWalked : ℕ → Parameters → Type 0
BufferWalked n none = T (eqb n 3)
BufferWalked n (filled ℓ κ P) = T (eqb n 3 || eqb n 5)
BufferWalked n (buffer ℓ κ ps) = ⊥
BufferWalked n (p & ps) = ⊥

abbrev pub Walked : ℕ → Parameters → Type 0
Walked n none = Unit {0}
Walked n (filled ℓ κ P) = T (eqb n 4 || eqb n 5)
Walked n (buffer ℓ κ ps) = BufferWalked n ps
Walked zero (p & ps) = ⊥
Walked (suc n) (p & ps) = Walked n ps

module _ {M : Type 1} {𝓤 : Ura M} (𝓛 : Logic 𝓤) (𝓜 : Model 𝓤 𝓛.H) (𝓡 : Running 𝓤 𝓛.H 𝓜) where
  open 𝓛 use {H}

  abbrev 𝓣 : MachineTables 𝓤 H 𝓜
  𝓣 = tables 𝓤 H 𝓜 𝓡 𝓡.env

  module _ (f : Callee) (τ σ ρ : Ty) (n : ℕ) (os : List (Outlives n)) (b o : ℕ) (K : Val → SProp 𝓤) where
    abbrev Q : Val → SProp 𝓤
    Q = Hands 𝓛 (τ ∷ []) K

    abbrev HandsOn : (ps : Parameters) → Denots (rows ps) → Type 1
    HandsOn ps a = let vs = vptr b o ∷ flat (rows ps) (valss (rows ps) (words ps) a) in ent 𝓤 (𝓣.C f vs Q) (WpFn 𝓤 H 𝓣.C 𝓣.Λ (code f τ σ ρ ps n os) vs K)

    pub hands_on : (ps : Parameters) → Walked 5 ps → (a : Denots (rows ps)) → Are (rows ps) (Ises (rows ps)) a (valss (rows ps) (words ps) a) → HandsOn ps a
    hands_on none walked a are =
        let ps : Parameters = none in let vs : List Val = vptr b o ∷ [] in
        qed 𝓛 (raw (𝓣.C f vs Q) ∷ []) ∵ enter ! _ _ _ _ _ $ alloc_all ! (λ l. pass_all ! refl ((tt, tt), tt) $ first ! $ blocks ! $
        sets ! (of_opd ! (get ! refl)) refl (tt, tt) $ sets ! (of_opd ! (get ! refl)) refl (tt, tt) $ sets_last ! (addr ! (through ! refl (stop !))) refl (tt, tt) $
        exec ! 𝓣.C 𝓣.Λ (env (locals f τ σ ρ ps) l) (calls f τ σ ρ ps) (at_ret _ K) $ sets ! (of_opd ! (get ! refl)) refl (tt, tt) $
        calls_from ! (framed 𝓤 H 𝓜 𝓣) (raw (𝓣.C f vs Q)) vs Q (id⊢ 𝓤 _) (and_then ! (get ! refl) (no_more !)) (λ v.
        use1 𝓛 (later (raw (fact 𝓤 (Typed (τ ∷ []) (v ∷ []))) ⊛ raw (K v))) (id⊢ 𝓤 _) $ await ! tt $ split ! $ heard ! _ (λ typed. lands_as ! refl refl typed.0 $ returns ! (look_at ! 0 refl) $ free_all ! refl $ done !)))
    hands_on (filled ℓ κ P) walked a are =
        let ps : Parameters = filled ℓ κ P in let vs : List Val = vptr b o ∷ vptr a.0.ref_ptr.0 a.0.ref_ptr.1 ∷ [] in
        qed 𝓛 (raw (𝓣.C f vs Q) ∷ []) ∵ enter ! _ _ _ _ _ $ alloc_all ! (λ l. pass_all ! refl ((tt, tt), ((tt, tt), tt)) $ first ! $ blocks ! $
        sets ! (of_opd ! (get ! refl)) refl (tt, tt) $ sets ! (of_opd ! (get ! refl)) refl (tt, tt) $ sets_last ! (addr ! (through ! refl (stop !))) refl (tt, tt) $
        exec ! 𝓣.C 𝓣.Λ (env (locals f τ σ ρ ps) l) (calls f τ σ ρ ps) (at_ret _ K) $ sets ! (of_opd ! (get ! refl)) refl (tt, tt) $
        sets ! (addr ! (through ! refl (stop !))) refl (tt, tt) $
        calls_from ! (framed 𝓤 H 𝓜 𝓣) (raw (𝓣.C f vs Q)) vs Q (id⊢ 𝓤 _) (and_then ! (get ! refl) (and_then ! (get ! refl) (no_more !))) (λ v.
        use1 𝓛 (later (raw (fact 𝓤 (Typed (τ ∷ []) (v ∷ []))) ⊛ raw (K v))) (id⊢ 𝓤 _) $ await ! tt $ split ! $ heard ! _ (λ typed. lands_as ! refl refl typed.0 $ returns ! (look_at ! 0 refl) $ free_all ! refl $ done !)))
    hands_on (buffer ℓ κ none) walked a are = absurd walked
    hands_on (buffer ℓ κ (filled ℓ′ κ′ P)) walked a are =
        let ps : Parameters = buffer ℓ κ (filled ℓ′ κ′ P) in let vs : List Val = vptr b o ∷ slice_val a.0.ref_ptr (length a.0.now) ∷ vptr a.1.0.ref_ptr.0 a.1.0.ref_ptr.1 ∷ [] in
        qed 𝓛 (raw (𝓣.C f vs Q) ∷ []) ∵ enter ! _ _ _ _ _ $ alloc_all ! (λ l. pass_all ! refl ((tt, tt), ((tt, (tt, (record { fits = are.0.0.1.0 }, tt))), ((tt, tt), tt))) $ first ! $ blocks ! $
        sets ! (of_opd ! (get ! refl)) refl (tt, tt) $ sets ! (of_opd ! (get ! refl)) refl (tt, tt) $ sets_last ! (addr ! (through ! refl (stop !))) refl (tt, tt) $
        exec ! 𝓣.C 𝓣.Λ (env (locals f τ σ ρ ps) l) (calls f τ σ ρ ps) (at_ret _ K) $ sets ! (of_opd ! (get ! refl)) refl (tt, tt) $
        sets ! (addr ! (from ! (fld ! refl (hop ! (look_in_at ! 2 (sub ! 0 refl (whole !))) (stop !))))) refl (tt, tt) $ sets ! (agg ! (and_then ! (get ! refl) (and_then ! (get_in ! (fld ! refl (stop !)) (sub ! 1 refl (whole !))) (no_more !)))) refl (tt, (tt, (record { fits = are.0.0.1.0 }, tt))) $ sets ! (addr ! (through ! refl (stop !))) refl (tt, tt) $
        calls_from ! (framed 𝓤 H 𝓜 𝓣) (raw (𝓣.C f vs Q)) vs Q (id⊢ 𝓤 _) (and_then ! (get ! refl) (and_then ! (get ! refl) (and_then ! (get ! refl) (no_more !)))) (λ v.
        use1 𝓛 (later (raw (fact 𝓤 (Typed (τ ∷ []) (v ∷ []))) ⊛ raw (K v))) (id⊢ 𝓤 _) $ await ! tt $ split ! $ heard ! _ (λ typed. lands_as ! refl refl typed.0 $ returns ! (look_at ! 0 refl) $ free_all ! refl $ done !)))
    hands_on (buffer ℓ κ (buffer ℓ′ κ′ ps)) walked a are = absurd walked
    hands_on (buffer ℓ κ (p & ps)) walked a are = absurd walked
    hands_on (p₁ & none) walked a are =
        let ps : Parameters = p₁ & none in let vs : List Val = vptr b o ∷ p₁.word a.0 ∷ [] in
        qed 𝓛 (raw (𝓣.C f vs Q) ∷ []) ∵ enter ! _ _ _ _ _ $ alloc_all ! (λ l. pass_all ! refl ((tt, tt), (p₁.passed a.0 are.0, tt)) $ first ! $ blocks ! $
        sets ! (of_opd ! (get ! refl)) refl (tt, tt) $ sets ! (of_opd ! (get ! refl)) refl (tt, tt) $ sets_last ! (addr ! (through ! refl (stop !))) refl (tt, tt) $
        exec ! 𝓣.C 𝓣.Λ (env (locals f τ σ ρ ps) l) (calls f τ σ ρ ps) (at_ret _ K) $ sets ! (of_opd ! (get ! refl)) refl (tt, tt) $
        sets ! (of_opd ! (get ! refl)) refl (p₁.copied a.0 are.0) $
        calls_from ! (framed 𝓤 H 𝓜 𝓣) (raw (𝓣.C f vs Q)) vs Q (id⊢ 𝓤 _) (and_then ! (get ! refl) (and_then ! (get ! refl) (no_more !))) (λ v.
        use1 𝓛 (later (raw (fact 𝓤 (Typed (τ ∷ []) (v ∷ []))) ⊛ raw (K v))) (id⊢ 𝓤 _) $ await ! tt $ split ! $ heard ! _ (λ typed. lands_as ! refl refl typed.0 $ returns ! (look_at ! 0 refl) $ free_all ! refl $ done !)))
    hands_on (p₁ & filled ℓ κ P) walked a are =
        let ps : Parameters = p₁ & filled ℓ κ P in let vs : List Val = vptr b o ∷ p₁.word a.0 ∷ vptr a.1.0.ref_ptr.0 a.1.0.ref_ptr.1 ∷ [] in
        qed 𝓛 (raw (𝓣.C f vs Q) ∷ []) ∵ enter ! _ _ _ _ _ $ alloc_all ! (λ l. pass_all ! refl ((tt, tt), (p₁.passed a.0 are.0, ((tt, tt), tt))) $ first ! $ blocks ! $
        sets ! (of_opd ! (get ! refl)) refl (tt, tt) $ sets ! (of_opd ! (get ! refl)) refl (tt, tt) $ sets_last ! (addr ! (through ! refl (stop !))) refl (tt, tt) $
        exec ! 𝓣.C 𝓣.Λ (env (locals f τ σ ρ ps) l) (calls f τ σ ρ ps) (at_ret _ K) $ sets ! (of_opd ! (get ! refl)) refl (tt, tt) $
        sets ! (of_opd ! (get ! refl)) refl (p₁.copied a.0 are.0) $ sets ! (addr ! (through ! refl (stop !))) refl (tt, tt) $
        calls_from ! (framed 𝓤 H 𝓜 𝓣) (raw (𝓣.C f vs Q)) vs Q (id⊢ 𝓤 _) (and_then ! (get ! refl) (and_then ! (get ! refl) (and_then ! (get ! refl) (no_more !)))) (λ v.
        use1 𝓛 (later (raw (fact 𝓤 (Typed (τ ∷ []) (v ∷ []))) ⊛ raw (K v))) (id⊢ 𝓤 _) $ await ! tt $ split ! $ heard ! _ (λ typed. lands_as ! refl refl typed.0 $ returns ! (look_at ! 0 refl) $ free_all ! refl $ done !)))
    hands_on (p₁ & buffer ℓ κ none) walked a are = absurd walked
    hands_on (p₁ & buffer ℓ κ (filled ℓ′ κ′ P)) walked a are = absurd walked
    hands_on (p₁ & buffer ℓ κ (buffer ℓ′ κ′ ps)) walked a are = absurd walked
    hands_on (p₁ & buffer ℓ κ (p & ps)) walked a are = absurd walked
    hands_on (p₁ & p₂ & none) walked a are =
        let ps : Parameters = p₁ & p₂ & none in let vs : List Val = vptr b o ∷ p₁.word a.0 ∷ p₂.word a.1.0 ∷ [] in
        qed 𝓛 (raw (𝓣.C f vs Q) ∷ []) ∵ enter ! _ _ _ _ _ $ alloc_all ! (λ l. pass_all ! refl ((tt, tt), (p₁.passed a.0 are.0, (p₂.passed a.1.0 are.1.0, tt))) $ first ! $ blocks ! $
        sets ! (of_opd ! (get ! refl)) refl (tt, tt) $ sets ! (of_opd ! (get ! refl)) refl (tt, tt) $ sets_last ! (addr ! (through ! refl (stop !))) refl (tt, tt) $
        exec ! 𝓣.C 𝓣.Λ (env (locals f τ σ ρ ps) l) (calls f τ σ ρ ps) (at_ret _ K) $ sets ! (of_opd ! (get ! refl)) refl (tt, tt) $
        sets ! (of_opd ! (get ! refl)) refl (p₁.copied a.0 are.0) $ sets ! (of_opd ! (get ! refl)) refl (p₂.copied a.1.0 are.1.0) $
        calls_from ! (framed 𝓤 H 𝓜 𝓣) (raw (𝓣.C f vs Q)) vs Q (id⊢ 𝓤 _) (and_then ! (get ! refl) (and_then ! (get ! refl) (and_then ! (get ! refl) (no_more !)))) (λ v.
        use1 𝓛 (later (raw (fact 𝓤 (Typed (τ ∷ []) (v ∷ []))) ⊛ raw (K v))) (id⊢ 𝓤 _) $ await ! tt $ split ! $ heard ! _ (λ typed. lands_as ! refl refl typed.0 $ returns ! (look_at ! 0 refl) $ free_all ! refl $ done !)))
    hands_on (p₁ & p₂ & filled ℓ κ P) walked a are = absurd walked
    hands_on (p₁ & p₂ & buffer ℓ κ none) walked a are =
        let ps : Parameters = p₁ & p₂ & buffer ℓ κ none in let vs : List Val = vptr b o ∷ p₁.word a.0 ∷ p₂.word a.1.0 ∷ slice_val a.1.1.0.ref_ptr (length a.1.1.0.now) ∷ [] in
        qed 𝓛 (raw (𝓣.C f vs Q) ∷ []) ∵ enter ! _ _ _ _ _ $ alloc_all ! (λ l. pass_all ! refl ((tt, tt), (p₁.passed a.0 are.0, (p₂.passed a.1.0 are.1.0, ((tt, (tt, (record { fits = are.1.1.0.0.1.0 }, tt))), tt)))) $ first ! $ blocks ! $
        sets ! (of_opd ! (get ! refl)) refl (tt, tt) $ sets ! (of_opd ! (get ! refl)) refl (tt, tt) $ sets_last ! (addr ! (through ! refl (stop !))) refl (tt, tt) $
        exec ! 𝓣.C 𝓣.Λ (env (locals f τ σ ρ ps) l) (calls f τ σ ρ ps) (at_ret _ K) $ sets ! (of_opd ! (get ! refl)) refl (tt, tt) $
        sets ! (of_opd ! (get ! refl)) refl (p₁.copied a.0 are.0) $ sets ! (of_opd ! (get ! refl)) refl (p₂.copied a.1.0 are.1.0) $ sets ! (addr ! (from ! (fld ! refl (hop ! (look_in_at ! 4 (sub ! 0 refl (whole !))) (stop !))))) refl (tt, tt) $ sets ! (agg ! (and_then ! (get ! refl) (and_then ! (get_in ! (fld ! refl (stop !)) (sub ! 1 refl (whole !))) (no_more !)))) refl (tt, (tt, (record { fits = are.1.1.0.0.1.0 }, tt))) $
        calls_from ! (framed 𝓤 H 𝓜 𝓣) (raw (𝓣.C f vs Q)) vs Q (id⊢ 𝓤 _) (and_then ! (get ! refl) (and_then ! (get ! refl) (and_then ! (get ! refl) (and_then ! (get ! refl) (no_more !))))) (λ v.
        use1 𝓛 (later (raw (fact 𝓤 (Typed (τ ∷ []) (v ∷ []))) ⊛ raw (K v))) (id⊢ 𝓤 _) $ await ! tt $ split ! $ heard ! _ (λ typed. lands_as ! refl refl typed.0 $ returns ! (look_at ! 0 refl) $ free_all ! refl $ done !)))
    hands_on (p₁ & p₂ & buffer ℓ κ (filled ℓ′ κ′ P)) walked a are =
        let ps : Parameters = p₁ & p₂ & buffer ℓ κ (filled ℓ′ κ′ P) in let vs : List Val = vptr b o ∷ p₁.word a.0 ∷ p₂.word a.1.0 ∷ slice_val a.1.1.0.ref_ptr (length a.1.1.0.now) ∷ vptr a.1.1.1.0.ref_ptr.0 a.1.1.1.0.ref_ptr.1 ∷ [] in
        qed 𝓛 (raw (𝓣.C f vs Q) ∷ []) ∵ enter ! _ _ _ _ _ $ alloc_all ! (λ l. pass_all ! refl ((tt, tt), (p₁.passed a.0 are.0, (p₂.passed a.1.0 are.1.0, ((tt, (tt, (record { fits = are.1.1.0.0.1.0 }, tt))), ((tt, tt), tt))))) $ first ! $ blocks ! $
        sets ! (of_opd ! (get ! refl)) refl (tt, tt) $ sets ! (of_opd ! (get ! refl)) refl (tt, tt) $ sets_last ! (addr ! (through ! refl (stop !))) refl (tt, tt) $
        exec ! 𝓣.C 𝓣.Λ (env (locals f τ σ ρ ps) l) (calls f τ σ ρ ps) (at_ret _ K) $ sets ! (of_opd ! (get ! refl)) refl (tt, tt) $
        sets ! (of_opd ! (get ! refl)) refl (p₁.copied a.0 are.0) $ sets ! (of_opd ! (get ! refl)) refl (p₂.copied a.1.0 are.1.0) $ sets ! (addr ! (from ! (fld ! refl (hop ! (look_in_at ! 4 (sub ! 0 refl (whole !))) (stop !))))) refl (tt, tt) $ sets ! (agg ! (and_then ! (get ! refl) (and_then ! (get_in ! (fld ! refl (stop !)) (sub ! 1 refl (whole !))) (no_more !)))) refl (tt, (tt, (record { fits = are.1.1.0.0.1.0 }, tt))) $ sets ! (addr ! (through ! refl (stop !))) refl (tt, tt) $
        calls_from ! (framed 𝓤 H 𝓜 𝓣) (raw (𝓣.C f vs Q)) vs Q (id⊢ 𝓤 _) (and_then ! (get ! refl) (and_then ! (get ! refl) (and_then ! (get ! refl) (and_then ! (get ! refl) (and_then ! (get ! refl) (no_more !)))))) (λ v.
        use1 𝓛 (later (raw (fact 𝓤 (Typed (τ ∷ []) (v ∷ []))) ⊛ raw (K v))) (id⊢ 𝓤 _) $ await ! tt $ split ! $ heard ! _ (λ typed. lands_as ! refl refl typed.0 $ returns ! (look_at ! 0 refl) $ free_all ! refl $ done !)))
    hands_on (p₁ & p₂ & buffer ℓ κ (buffer ℓ′ κ′ ps)) walked a are = absurd walked
    hands_on (p₁ & p₂ & buffer ℓ κ (p & ps)) walked a are = absurd walked
    hands_on (p₁ & p₂ & p₃ & none) walked a are =
        let ps : Parameters = p₁ & p₂ & p₃ & none in let vs : List Val = vptr b o ∷ p₁.word a.0 ∷ p₂.word a.1.0 ∷ p₃.word a.1.1.0 ∷ [] in
        qed 𝓛 (raw (𝓣.C f vs Q) ∷ []) ∵ enter ! _ _ _ _ _ $ alloc_all ! (λ l. pass_all ! refl ((tt, tt), (p₁.passed a.0 are.0, (p₂.passed a.1.0 are.1.0, (p₃.passed a.1.1.0 are.1.1.0, tt)))) $ first ! $ blocks ! $
        sets ! (of_opd ! (get ! refl)) refl (tt, tt) $ sets ! (of_opd ! (get ! refl)) refl (tt, tt) $ sets_last ! (addr ! (through ! refl (stop !))) refl (tt, tt) $
        exec ! 𝓣.C 𝓣.Λ (env (locals f τ σ ρ ps) l) (calls f τ σ ρ ps) (at_ret _ K) $ sets ! (of_opd ! (get ! refl)) refl (tt, tt) $
        sets ! (of_opd ! (get ! refl)) refl (p₁.copied a.0 are.0) $ sets ! (of_opd ! (get ! refl)) refl (p₂.copied a.1.0 are.1.0) $ sets ! (of_opd ! (get ! refl)) refl (p₃.copied a.1.1.0 are.1.1.0) $
        calls_from ! (framed 𝓤 H 𝓜 𝓣) (raw (𝓣.C f vs Q)) vs Q (id⊢ 𝓤 _) (and_then ! (get ! refl) (and_then ! (get ! refl) (and_then ! (get ! refl) (and_then ! (get ! refl) (no_more !))))) (λ v.
        use1 𝓛 (later (raw (fact 𝓤 (Typed (τ ∷ []) (v ∷ []))) ⊛ raw (K v))) (id⊢ 𝓤 _) $ await ! tt $ split ! $ heard ! _ (λ typed. lands_as ! refl refl typed.0 $ returns ! (look_at ! 0 refl) $ free_all ! refl $ done !)))
    hands_on (p₁ & p₂ & p₃ & filled ℓ κ P) walked a are = absurd walked
    hands_on (p₁ & p₂ & p₃ & buffer ℓ κ none) walked a are = absurd walked
    hands_on (p₁ & p₂ & p₃ & buffer ℓ κ (filled ℓ′ κ′ P)) walked a are = absurd walked
    hands_on (p₁ & p₂ & p₃ & buffer ℓ κ (buffer ℓ′ κ′ ps)) walked a are = absurd walked
    hands_on (p₁ & p₂ & p₃ & buffer ℓ κ (p & ps)) walked a are = absurd walked
    hands_on (p₁ & p₂ & p₃ & p₄ & none) walked a are =
        let ps : Parameters = p₁ & p₂ & p₃ & p₄ & none in let vs : List Val = vptr b o ∷ p₁.word a.0 ∷ p₂.word a.1.0 ∷ p₃.word a.1.1.0 ∷ p₄.word a.1.1.1.0 ∷ [] in
        qed 𝓛 (raw (𝓣.C f vs Q) ∷ []) ∵ enter ! _ _ _ _ _ $ alloc_all ! (λ l. pass_all ! refl ((tt, tt), (p₁.passed a.0 are.0, (p₂.passed a.1.0 are.1.0, (p₃.passed a.1.1.0 are.1.1.0, (p₄.passed a.1.1.1.0 are.1.1.1.0, tt))))) $ first ! $ blocks ! $
        sets ! (of_opd ! (get ! refl)) refl (tt, tt) $ sets ! (of_opd ! (get ! refl)) refl (tt, tt) $ sets_last ! (addr ! (through ! refl (stop !))) refl (tt, tt) $
        exec ! 𝓣.C 𝓣.Λ (env (locals f τ σ ρ ps) l) (calls f τ σ ρ ps) (at_ret _ K) $ sets ! (of_opd ! (get ! refl)) refl (tt, tt) $
        sets ! (of_opd ! (get ! refl)) refl (p₁.copied a.0 are.0) $ sets ! (of_opd ! (get ! refl)) refl (p₂.copied a.1.0 are.1.0) $ sets ! (of_opd ! (get ! refl)) refl (p₃.copied a.1.1.0 are.1.1.0) $ sets ! (of_opd ! (get ! refl)) refl (p₄.copied a.1.1.1.0 are.1.1.1.0) $
        calls_from ! (framed 𝓤 H 𝓜 𝓣) (raw (𝓣.C f vs Q)) vs Q (id⊢ 𝓤 _) (and_then ! (get ! refl) (and_then ! (get ! refl) (and_then ! (get ! refl) (and_then ! (get ! refl) (and_then ! (get ! refl) (no_more !)))))) (λ v.
        use1 𝓛 (later (raw (fact 𝓤 (Typed (τ ∷ []) (v ∷ []))) ⊛ raw (K v))) (id⊢ 𝓤 _) $ await ! tt $ split ! $ heard ! _ (λ typed. lands_as ! refl refl typed.0 $ returns ! (look_at ! 0 refl) $ free_all ! refl $ done !)))
    hands_on (p₁ & p₂ & p₃ & p₄ & filled ℓ κ P) walked a are = absurd walked
    hands_on (p₁ & p₂ & p₃ & p₄ & buffer ℓ κ none) walked a are = absurd walked
    hands_on (p₁ & p₂ & p₃ & p₄ & buffer ℓ κ (filled ℓ′ κ′ P)) walked a are = absurd walked
    hands_on (p₁ & p₂ & p₃ & p₄ & buffer ℓ κ (buffer ℓ′ κ′ ps)) walked a are = absurd walked
    hands_on (p₁ & p₂ & p₃ & p₄ & buffer ℓ κ (p & ps)) walked a are = absurd walked
    hands_on (p₁ & p₂ & p₃ & p₄ & p₅ & none) walked a are =
        let ps : Parameters = p₁ & p₂ & p₃ & p₄ & p₅ & none in let vs : List Val = vptr b o ∷ p₁.word a.0 ∷ p₂.word a.1.0 ∷ p₃.word a.1.1.0 ∷ p₄.word a.1.1.1.0 ∷ p₅.word a.1.1.1.1.0 ∷ [] in
        qed 𝓛 (raw (𝓣.C f vs Q) ∷ []) ∵ enter ! _ _ _ _ _ $ alloc_all ! (λ l. pass_all ! refl ((tt, tt), (p₁.passed a.0 are.0, (p₂.passed a.1.0 are.1.0, (p₃.passed a.1.1.0 are.1.1.0, (p₄.passed a.1.1.1.0 are.1.1.1.0, (p₅.passed a.1.1.1.1.0 are.1.1.1.1.0, tt)))))) $ first ! $ blocks ! $
        sets ! (of_opd ! (get ! refl)) refl (tt, tt) $ sets ! (of_opd ! (get ! refl)) refl (tt, tt) $ sets_last ! (addr ! (through ! refl (stop !))) refl (tt, tt) $
        exec ! 𝓣.C 𝓣.Λ (env (locals f τ σ ρ ps) l) (calls f τ σ ρ ps) (at_ret _ K) $ sets ! (of_opd ! (get ! refl)) refl (tt, tt) $
        sets ! (of_opd ! (get ! refl)) refl (p₁.copied a.0 are.0) $ sets ! (of_opd ! (get ! refl)) refl (p₂.copied a.1.0 are.1.0) $ sets ! (of_opd ! (get ! refl)) refl (p₃.copied a.1.1.0 are.1.1.0) $ sets ! (of_opd ! (get ! refl)) refl (p₄.copied a.1.1.1.0 are.1.1.1.0) $ sets ! (of_opd ! (get ! refl)) refl (p₅.copied a.1.1.1.1.0 are.1.1.1.1.0) $
        calls_from ! (framed 𝓤 H 𝓜 𝓣) (raw (𝓣.C f vs Q)) vs Q (id⊢ 𝓤 _) (and_then ! (get ! refl) (and_then ! (get ! refl) (and_then ! (get ! refl) (and_then ! (get ! refl) (and_then ! (get ! refl) (and_then ! (get ! refl) (no_more !))))))) (λ v.
        use1 𝓛 (later (raw (fact 𝓤 (Typed (τ ∷ []) (v ∷ []))) ⊛ raw (K v))) (id⊢ 𝓤 _) $ await ! tt $ split ! $ heard ! _ (λ typed. lands_as ! refl refl typed.0 $ returns ! (look_at ! 0 refl) $ free_all ! refl $ done !)))
    hands_on (p₁ & p₂ & p₃ & p₄ & p₅ & filled ℓ κ P) walked a are = absurd walked
    hands_on (p₁ & p₂ & p₃ & p₄ & p₅ & buffer ℓ κ none) walked a are = absurd walked
    hands_on (p₁ & p₂ & p₃ & p₄ & p₅ & buffer ℓ κ (filled ℓ′ κ′ P)) walked a are = absurd walked
    hands_on (p₁ & p₂ & p₃ & p₄ & p₅ & buffer ℓ κ (buffer ℓ′ κ′ ps)) walked a are = absurd walked
    hands_on (p₁ & p₂ & p₃ & p₄ & p₅ & buffer ℓ κ (p & ps)) walked a are = absurd walked
    hands_on (p₁ & p₂ & p₃ & p₄ & p₅ & p₆ & ps) walked a are = absurd walked

  pub closing_hands_on : (f : Callee) (σ ρ : Ty) (b o : ℕ) (K : Val → SProp 𝓤) → ent 𝓤 (𝓣.C f (vptr b o ∷ []) (Hands 𝓛 (ty_unit ∷ []) K)) (WpFn 𝓤 H 𝓣.C 𝓣.Λ (closing f σ ρ) (vptr b o ∷ []) K)
  closing_hands_on f σ ρ b o K =
      let Q : Val → SProp 𝓤 = Hands 𝓛 (ty_unit ∷ []) K in let vs : List Val = vptr b o ∷ [] in
      qed 𝓛 (raw (𝓣.C f vs Q) ∷ []) ∵ enter ! _ _ _ _ _ $ alloc_all ! (λ l. pass_all ! refl ((tt, tt), tt) $ first ! $ blocks ! $
      sets ! (of_opd ! (get ! refl)) refl (tt, tt) $ sets ! (of_opd ! (get ! refl)) refl (tt, tt) $ sets_last ! (addr ! (through ! refl (stop !))) refl (tt, tt) $
      exec ! 𝓣.C 𝓣.Λ (env (closing_locals ρ) l) (closing_calls f) (at_ret _ K) $ sets ! (of_opd ! (get ! refl)) refl (tt, tt) $
      calls_from ! (framed 𝓤 H 𝓜 𝓣) (raw (𝓣.C f vs Q)) vs Q (id⊢ 𝓤 _) (and_then ! (get ! refl) (no_more !)) (λ v.
      use1 𝓛 (later (raw (fact 𝓤 (Typed (ty_unit ∷ []) (v ∷ []))) ⊛ raw (K v))) (id⊢ 𝓤 _) $ await ! tt $ split ! $ heard ! _ (λ typed. let is = is_unit v typed.0.0 in
      rewrite ! 0 (λ (u : Val). raw (K u)) is refl $ lands_as ! is refl (tt, tt) $ sets ! (of_opd ! (unit_lit !)) refl (tt, tt) $
      returns ! (look_at ! 0 refl) $ free_all ! refl $ done !)))
