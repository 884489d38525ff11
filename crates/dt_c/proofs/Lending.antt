-- What all exports do: what lies at the handle is lent to a call for a lifetime that is made for it, and is taken back at the value that the call left.
use Rattle.std.proofs.Common.{◌≡◌, ℕ, List, [], ◌∷◌, ◌++◌, refl, sym, subst, MutBor}
use seplogic.Ra.Ura.{Ura}
use base.Fraction.{full_share}
use base.Logic.{SProp, ent, ex, fst∗, id⊢, mono_l, sep, snd∗, via}
use base.Fml.{Fml, Lft, fbor, flent, flft, fres, fsep, ftrue}
use mir.Syntax.{Ty, named}
use mir.Val.{Val, vptr}
use contract.Monad.{Fun, fact, fact_i, fact_use}
use types.Kit.{‵, raw, ◌⊛◌, some, later, prop, ◌$◌, ◌∵◌, !, qed, by, done, move, keep, drop, use0, use1, use3, split, join, fsplit, fjoin, pick, await, updating, now, rewrite, regoal, suffices, frame, show}
use types.Logic.{Logic, sem}
use types.SemTy.{Body}
use types.Tokens.{lft_new, lft_end}
use denote.Laws.{Are, Is, Ises, Lawful, Spells, Tellss, Typed, all_tell, owns_show, shows, showss, valss}
use denote.Lend.{lends_ref, ref_back}
use denote.Memory.{mem, part_at}
use denote.RattleType.{RattleType, Denots, Valss, flat, owns}
use denote.RawPtr.{Ptr, RawPtr, block_ptr, in_a_block, lies_at, ptr_val, rawptr_Tells, rawptr_vals}
use denote.Ref.{MutRef, mut_vals}
use denote.Steps.{nothing, heard, peeks}
use denote.Triple.Statement.{FmF}
use denote.Triple.Table.{Enters}

-- what a call is to leave, where its result, of the types τs, is handed on to K
abbrev pub Hands : {M : Type 1} {𝓤 : Ura M} (𝓛 : Logic 𝓤) → List Ty → (Val → SProp 𝓤) → Val → SProp 𝓤
Hands {𝓤 = 𝓤} 𝓛 τs K v = 𝓛.H.⇛ (sep 𝓤 (fact 𝓤 (Typed τs (v ∷ []))) (K v))

-- R lies at the handle, Rs are the other parameters and Q is the result. T are the tokens of the caller's lifetimes, and L says the last values of the other parameters.
module _ {M : Type 1} {𝓤 : Ura M} (𝓛 : Logic 𝓤) (R Q : RattleType) (Rs : List RattleType) (T : SProp 𝓤) (a : Denots Rs) {W : Type 0} (L : W → Fml) (Says : Q.Denot → R.Denot → W → Type 0) where
  open 𝓛 use {H}

  abbrev pub lent_at : (b o γ : ℕ) → R.Denot → MutBor R.Denot
  lent_at b o γ x = record { ref_ptr = (b, o); ghost_name = γ; now = x }

  -- what the call is given, and what it leaves
  abbrev pub Asked : Lft → MutBor R.Denot → Valss Rs → SProp 𝓤
  Asked κ r vss = sep 𝓤 (sep 𝓤 (sep 𝓤 (sem 𝓛 (flft κ full_share)) T) (sem 𝓛 (owns (MutRef (named 0) κ R ∷ Rs) (r, a) (mut_vals r, vss)))) (sem 𝓛 ftrue)

  abbrev pub Answered : Lft → MutBor R.Denot → Val → SProp 𝓤
  Answered κ r v = H.⇛ (ex 𝓤 (λ (u : Q.Denot). sep 𝓤 (sep 𝓤 (sep 𝓤 (sem 𝓛 (flft κ full_share)) T) (sem 𝓛 (Q.own_val u (v ∷ []))))
      (ex 𝓤 (λ (ws : R.Denot × W). sep 𝓤 (sem 𝓛 (fsep (fsep (fres r.ghost_name (R.coded.code ws.0)) (fbor κ (Body (mem R) r.ref_ptr.0 r.ref_ptr.1 r.ghost_name))) (L ws.1))) (fact 𝓤 (Says u ws.0 ws.1))))))

  -- what the export is given, and what it leaves
  abbrev pub Given : Ptr → R.Denot → Valss (RawPtr ∷ Rs) → SProp 𝓤
  Given p x vss = sep 𝓤 (sep 𝓤 T (sem 𝓛 (owns (RawPtr ∷ Rs) (p, a) vss))) (sem 𝓛 (lies_at R full_share p x))

  abbrev pub Left : (Q.Denot → W → SProp 𝓤) → Val → SProp 𝓤
  Left Ends v = H.⇛ (ex 𝓤 (λ (u : Q.Denot). sep 𝓤 (sep 𝓤 T (sem 𝓛 (Q.own_val u (v ∷ [])))) (ex 𝓤 (λ (ws : Unit {0} × W). sep 𝓤 (sem 𝓛 (fsep ftrue (L ws.1))) (Ends u ws.1)))))

  module _ (lawful : Lawful 𝓛 Q) (call : Fun 𝓤) (p : Ptr) (x : R.Denot) (Ends : Q.Denot → W → SProp 𝓤)
      (ends : (u : Q.Denot) (h : R.Denot) (w : W) → Says u h w → ent 𝓤 (sem 𝓛 (lies_at R full_share p h)) (Ends u w)) where
    abbrev Lands : Val → SProp 𝓤
    Lands = Hands 𝓛 Q.mir (Left Ends)

    taken_back : (b o γ α : ℕ) → p ≡ block_ptr b o → (v : Val)
        → ent 𝓤 (sep 𝓤 (Answered (α ∷ []) (lent_at b o γ x) v) (sem 𝓛 (flent (α ∷ []) (Body (mem R) b o γ)))) (Lands v)
    taken_back b o γ α e v =
        let κ = α ∷ [] in
        qed 𝓛 (later (some (λ (u : Q.Denot). ((‵ (flft κ full_share) ⊛ raw T) ⊛ ‵ (Q.own_val u (v ∷ []))) ⊛
        some (λ (ws : R.Denot × W). ‵ (fsep (fsep (fres γ (R.coded.code ws.0)) (fbor κ (Body (mem R) b o γ))) (L ws.1)) ⊛ raw (fact 𝓤 (Says u ws.0 ws.1))))) ∷ ‵ (flent κ (Body (mem R) b o γ)) ∷ []) ∵
        updating ! $ await ! tt $ pick ! (λ u. split ! $ split ! $ split ! $ lft_end ! tt $ move ! (2 ∷ []) $
        -- [the result; the dead lifetime; the tokens; what is told; the lender's part]
        peeks ! Q (Is Q) (shows 𝓛 Q) u (v ∷ []) (λ is. move ! (3 ∷ []) $ pick ! (λ ws. split ! $ move ! (1 ∷ []) $ heard ! _ (λ told. fsplit ! $ fsplit ! $
        -- [the loan's last value; its borrow; the other last values; the result; the dead lifetime; the tokens; the lender's part]
        move ! (4 ∷ 6 ∷ 0 ∷ []) $ use3 𝓛 (later (‵ (part_at R full_share ws.0 b o))) (ref_back 𝓛 R κ γ ws.0 b o) $ await ! tt $
        use1 𝓛 (‵ (lies_at R full_share (block_ptr b o) ws.0)) (id⊢ 𝓤 _) $
        rewrite ! 0 (λ (q : Ptr). ‵ (lies_at R full_share q ws.0)) (sym e) refl $ use1 𝓛 (raw (Ends u ws.1)) (ends u ws.0 ws.1 told) $
        -- [what the export says; the borrow; the other last values; the result; the tokens]
        now ! $ use0 𝓛 (raw (fact 𝓤 (Typed Q.mir (v ∷ [])))) (fact_i 𝓤 (Typed Q.mir (v ∷ [])) _ (lawful.typed u _ is)) $ frame ! $ suffices ! _ (𝓛.laws.⇛_intro _) $
        show ! (λ (s : Q.Denot). sep 𝓤 (sep 𝓤 T (sem 𝓛 (Q.own_val s (v ∷ [])))) (ex 𝓤 (λ (zs : Unit {0} × W). sep 𝓤 (sem 𝓛 (fsep ftrue (L zs.1))) (Ends s zs.1)))) u $
        move ! (4 ∷ 3 ∷ []) $ join ! $ frame ! $ show ! (λ (zs : Unit {0} × W). sep 𝓤 (sem 𝓛 (fsep ftrue (L zs.1))) (Ends u zs.1)) (tt, ws.1) $
        nothing ! $ move ! (0 ∷ 3 ∷ []) $ fjoin ! $ frame ! $ keep ! (0 ∷ []) $ done !))))

    module _ (framed : FmF 𝓤 call) (enters : Enters 𝓤 H call)
        (met : (κ : Lft) (b o γ : ℕ) (vss : Valss Rs) → ent 𝓤 (Asked κ (lent_at b o γ x) vss) (call (vptr b o ∷ flat Rs vss) (Answered κ (lent_at b o γ x))))
        (whole : Fun 𝓤) (sp : Spells Rs)
        (hands_on : Are Rs (Ises Rs) a (valss Rs sp a) → (b o : ℕ) (K : Val → SProp 𝓤) → ent 𝓤 (call (vptr b o ∷ flat Rs (valss Rs sp a)) (Hands 𝓛 Q.mir K)) (whole (vptr b o ∷ flat Rs (valss Rs sp a)) K)) where
      lends : Are Rs (Ises Rs) a (valss Rs sp a) → ent 𝓤 (Given p x (rawptr_vals p, valss Rs sp a)) (whole (ptr_val p ∷ flat Rs (valss Rs sp a)) (Left Ends))
      lends are =
          let vss = valss Rs sp a in
          qed 𝓛 ((raw T ⊛ ‵ (owns (RawPtr ∷ Rs) (p, a) (rawptr_vals p, vss))) ∷ ‵ (lies_at R full_share p x) ∷ []) ∵
          split ! $ move ! (1 ∷ []) $ fsplit ! $ drop ! $ move ! (2 ∷ []) $ in_a_block ! p (λ q. lies_at R full_share q x) (id⊢ 𝓤 _) (λ b o e.
          regoal ! (λ q. prop (whole (ptr_val q ∷ flat Rs vss) (Left Ends))) e refl $
          suffices ! _ (hands_on are b o (Left Ends)) $ suffices ! _ (enters (vptr b o ∷ flat Rs vss) Lands) $ updating ! $
          lft_new ! tt (λ α. let κ = α ∷ [] in move ! (1 ∷ []) $
          use1 𝓛 (later (some (λ (γ : ℕ). ‵ ((MutRef (named 0) κ R).own_val (record { ref_ptr = (b, o); ghost_name = γ; now = x }) (vptr b o ∷ [])) ⊛ ‵ (flent κ (Body (mem R) b o γ)))))
          (lends_ref 𝓛 R (named 0) κ x b o) $ await ! tt $ pick ! (λ γ. split ! $ now ! $
          -- [the loan; the lender's part; the loan's token; the other parameters; the tokens]
          let r = lent_at b o γ x in
          move ! (0 ∷ 3 ∷ []) $ fjoin ! $ move ! (2 ∷ 3 ∷ []) $ join ! $ join ! $ nothing ! $ move ! (1 ∷ 0 ∷ []) $ join ! $
          by ! (via 𝓤 _ (mono_l 𝓤 (sem 𝓛 (flent κ (Body (mem R) b o γ))) (met κ b o γ vss))
          (framed (vptr b o ∷ flat Rs vss) (Answered κ r) Lands (sem 𝓛 (flent κ (Body (mem R) b o γ))) (taken_back b o γ α e))))))

      pub lent : Tellss Rs (Ises Rs) sp → (vss : Valss (RawPtr ∷ Rs)) → ent 𝓤 (Given p x vss) (whole (flat (RawPtr ∷ Rs) vss) (Left Ends))
      lent tl vss =
          let Ps = RawPtr ∷ Rs in
          fact_use 𝓤 (Are Ps (Ises Ps) (p, a) vss) (via 𝓤 _ (fst∗ 𝓤 (sep 𝓤 T (sem 𝓛 (owns Ps (p, a) vss))) (sem 𝓛 (lies_at R full_share p x)))
          (via 𝓤 _ (snd∗ 𝓤 T (sem 𝓛 (owns Ps (p, a) vss))) (owns_show 𝓛 Ps (Ises Ps) (showss 𝓛 Ps) (p, a) vss))) (λ are.
          let spelled = all_tell Ps (Ises Ps) (rawptr_vals, sp) (rawptr_Tells, tl) (p, a) vss are in
          subst (λ (us : Valss Ps). ent 𝓤 (Given p x us) (whole (flat Ps us) (Left Ends))) (sym spelled)
          (lends (subst (Are Ps (Ises Ps) (p, a)) spelled are).1))
