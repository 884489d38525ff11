-- An export that makes a handle: what a call gives is written where there was room for it.
use Rattle.std.proofs.Common.{◌≡◌, ℕ, List, [], ◌∷◌, refl, sym, subst}
use seplogic.Ra.Ura.{Ura}
use base.Fraction.{full_share}
use base.Fml.{froom, fsep, ftrue}
use base.Logic.{SProp, emp, ent, ex, fst∗, id⊢, sep, snd∗, via}
use borrow.Table.OneValue.{part_in}
use mir.Syntax.{Body, Callee, Fn, Local, Ty, assign, block, call, copy, deref, opd_unit, place, return, rv_opd, seq, ty_ptr, ty_unit}
use mir.Val.{Val, vunit}
use prog.Model.{Model}
use prog.Wp.{Closed, WpFn}
use contract.Monad.{fact, fact_use}
use contract.Running.{MachineTables, Running, tables}
use types.Kit.{‵, raw, ◌⊛◌, some, later, prop, at_ret, ◌$◌, ◌∵◌, !, qed, done, move, drop, use1, use2, split, join, fjoin, feq_i, pick, await, rewrite, regoal, suffices, frame, show}
use types.Logic.{Logic, sem}
use types.Run.{enter, of_opd, unit_lit, stop, init, no_more, first, blocks, exec, returns, assigns_last}
use types.ByLocal.{alloc_all, pass_all, free_all, look_at, get, through, sets, lands_as, env}
use denote.Builtin.{unit}
use denote.Laws.{Is, Lawful, Typed, shows}
use denote.Memory.{lone, part_at}
use denote.RattleType.{RattleType, flat, owns}
use denote.RawPtr.{Ptr, RawPtr, block_ptr, in_a_block, lies_at, ptr_val, room_at}
use denote.Steps.{nothing, heard, peeks}
use denote.Triple.Call.{calls_from}
use denote.Triple.Table.{framed}
use Rattle.dt_c.proofs.Exports.{Answer, Bound}
use Rattle.dt_c.proofs.Passing.{stored}

abbrev locals : Ty → List Local
locals σ = stored ty_unit ∷ stored ty_ptr ∷ stored ty_ptr ∷ stored σ ∷ []

abbrev ends : Body
ends = seq (assign (place 0 []) (rv_opd opd_unit)) return

-- of a call f that gives a value of the type σ
abbrev pub making : Callee → Ty → Fn
making f σ = record {
  lifetimes = 0;
  outlives = [];
  ty_params = [];
  givens = 0;
  params = 1;
  locals = locals σ;
  body = seq (block (seq (assign (place 2 []) (rv_opd (copy (place 1 [])))) (seq (call f [] (place 3 [])) (assign (place 2 (deref σ ∷ [])) (rv_opd (copy (place 3 []))))))) ends;
}

module _ {M : Type 1} {𝓤 : Ura M} (𝓛 : Logic 𝓤) (𝓜 : Model 𝓤 𝓛.H) (𝓡 : Running 𝓤 𝓛.H 𝓜) (A : Answer 𝓛) (e : A.row.Denot) where
  open 𝓛 use {H}

  abbrev 𝓣 : MachineTables 𝓤 H 𝓜
  𝓣 = tables 𝓤 H 𝓜 𝓡 𝓡.env

  abbrev R : RattleType
  R = A.row

  abbrev Asked : SProp 𝓤
  Asked = sep 𝓤 (sep 𝓤 (emp 𝓤) (sem 𝓛 ftrue)) (emp 𝓤)

  abbrev Given : Val → SProp 𝓤
  Given v = H.⇛ (ex 𝓤 (λ (u : R.Denot). sep 𝓤 (sep 𝓤 (emp 𝓤) (sem 𝓛 (R.own_val u (v ∷ [])))) (ex 𝓤 (λ (ws : Unit {0}). sep 𝓤 (sem 𝓛 ftrue) (fact 𝓤 (u ≡ e))))))

  abbrev Made : Ptr → Val → SProp 𝓤
  Made p v = H.⇛ (ex 𝓤 (λ (u : Unit {0}). sep 𝓤 (sep 𝓤 (emp 𝓤) (sem 𝓛 (unit.own_val u (v ∷ [])))) (ex 𝓤 (λ (ws : Unit {0} × Unit {0}). sep 𝓤 (sem 𝓛 (fsep ftrue ftrue)) (sem 𝓛 (lies_at R full_share p e))))))

  module _ {f : Callee} (met : (y : Bound 0 [] (λ κs. []) × Unit {0}) → ent 𝓤 Asked (𝓣.C f [] Given)) where
    writes : (p : Ptr) → ent 𝓤 (sem 𝓛 (room_at R p)) (WpFn 𝓤 H 𝓣.C 𝓣.Λ (making f (lone R.mir)) (ptr_val p ∷ []) (Made p))
    writes p =
        let σ = lone R.mir in
        qed 𝓛 (‵ (room_at R p) ∷ []) ∵ in_a_block ! p (λ q. room_at R q) (id⊢ 𝓤 _) (λ b o is_p.
        regoal ! (λ q. prop (WpFn 𝓤 H 𝓣.C 𝓣.Λ (making f σ) (ptr_val q ∷ []) (Made q))) is_p refl $ use1 𝓛 (‵ (froom σ b o)) (id⊢ 𝓤 _) $
        enter ! _ _ _ _ _ $ alloc_all ! (λ l. pass_all ! refl ((tt, tt), tt) $ first ! $ blocks ! $ sets ! (of_opd ! (get ! refl)) refl (tt, tt) $
        nothing ! $ nothing ! $ join ! $ nothing ! $ move ! (1 ∷ 0 ∷ []) $ use2 𝓛 (raw Asked) (id⊢ 𝓤 _) $
        calls_from ! (framed 𝓤 H 𝓜 𝓣) (raw Asked) [] Given (met ((tt, tt, tt, tt, tt), tt)) (no_more !) (λ v.
        use1 𝓛 (later (some (λ (u : R.Denot). (‵ ftrue ⊛ ‵ (R.own_val u (v ∷ []))) ⊛ some (λ (ws : Unit {0}). ‵ ftrue ⊛ raw (fact 𝓤 (u ≡ e)))))) (id⊢ 𝓤 _) $
        await ! tt $ pick ! (λ u. split ! $ split ! $ drop ! $ peeks ! R (Is R) (shows 𝓛 R) u (v ∷ []) (λ is.
        let good = (subst (λ τs. Typed τs (v ∷ [])) A.one (A.lawful.typed u _ is)).0 in
        lands_as ! refl refl good $ move ! (1 ∷ []) $ pick ! (λ ws. split ! $ drop ! $ heard ! _ (λ told.
        -- [the value; the room; the locals]
        move ! (1 ∷ []) $ assigns_last ! (of_opd ! (get ! refl)) (through ! refl (stop !)) (init ! 0 refl good) $
        exec ! 𝓣.C 𝓣.Λ (env (locals σ) l) ends (at_ret _ (Made (block_ptr b o))) $ sets ! (of_opd ! (unit_lit !)) refl (tt, tt) $
        returns ! (look_at ! 0 refl) $ free_all ! refl $
        use2 𝓛 (‵ (part_at R full_share u b o)) (part_in 𝓛 R A.one full_share u b o v) $ rewrite ! 0 (λ (s : R.Denot). ‵ (part_at R full_share s b o)) told refl $
        suffices ! _ (𝓛.laws.⇛_intro _) $ show ! (λ (s : Unit {0}). sep 𝓤 (sep 𝓤 (emp 𝓤) (sem 𝓛 (unit.own_val s (vunit ∷ [])))) (ex 𝓤 (λ (ws : Unit {0} × Unit {0}). sep 𝓤 (sem 𝓛 (fsep ftrue ftrue)) (sem 𝓛 (part_at R full_share e b o))))) tt $
        feq_i ! _ (vunit ∷ []) (vunit ∷ []) refl $ nothing ! $ join ! $ frame ! $
        show ! (λ (ws : Unit {0} × Unit {0}). sep 𝓤 (sem 𝓛 (fsep ftrue ftrue)) (sem 𝓛 (part_at R full_share e b o))) (tt, tt) $ nothing ! $ nothing ! $ fjoin ! $ frame ! $ done !)))))))

    pub made : {k : Callee} → Closed 𝓤 H 𝓣.C 𝓣.Λ k (making f (lone R.mir)) → (y : Bound 0 [] (λ κs. RawPtr ∷ []) × Unit {0})
        → ent 𝓤 (sep 𝓤 (sep 𝓤 (emp 𝓤) (sem 𝓛 (owns (RawPtr ∷ []) y.0.3 y.0.4))) (sem 𝓛 (room_at R y.0.3.0))) (𝓣.C k (flat (RawPtr ∷ []) y.0.4) (Made y.0.3.0))
    made {k} closes y =
        let p = y.0.3.0 in let room = sem 𝓛 (room_at R p) in let owned = sem 𝓛 (owns (RawPtr ∷ []) y.0.3 y.0.4) in
        let before : SProp 𝓤 = sep 𝓤 (sep 𝓤 (emp 𝓤) owned) room in
        fact_use 𝓤 (Is RawPtr p y.0.4.0) (via 𝓤 _ (fst∗ 𝓤 (sep 𝓤 (emp 𝓤) owned) room) (via 𝓤 _ (snd∗ 𝓤 (emp 𝓤) owned) (via 𝓤 _ (fst∗ 𝓤 (sem 𝓛 (RawPtr.own_val p y.0.4.0)) (sem 𝓛 ftrue)) (shows 𝓛 RawPtr p y.0.4.0)))) (λ is.
        subst (λ (vs : List Val). ent 𝓤 before (𝓣.C k (flat (RawPtr ∷ []) (vs, tt)) (Made p))) (sym is)
        (via 𝓤 _ (snd∗ 𝓤 (sep 𝓤 (emp 𝓤) owned) room) (via 𝓤 _ (writes p) (closes _ _))))
