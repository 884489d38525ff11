-- Each export is `exported`, at its parameters, its call and what the call's clause says. An export that has no result is `closed`, and one that makes a handle is `made`.
use Rattle.std.proofs.Common.{◌≡◌, ℕ, suc, List, [], ◌∷◌, refl, subst, sym}
use seplogic.Ra.Ura.{Ura}
use base.Fraction.{full_share}
use base.Fml.{fsep, ftrue}
use base.Logic.{SProp, emp, ent, ex, ex_i, id⊢, sep, via}
use mir.Syntax.{Callee, Fn, Ty, named, w64, w8}
use mir.Val.{Val, vptr}
use prog.Model.{Model}
use prog.Wp.{Closed, WpFn}
use base.Fml.{Lft}
use contract.Lifetimes.{AllOutlive, Lfts, Outlives, Shares, toks}
use contract.Monad.{fact, fact_i}
use contract.Running.{MachineTables, Running, tables}
use types.Kit.{‵, raw, prop, ◌$◌, ◌∵◌, !, qed, done, show, frame, use0}
use types.Logic.{Logic, sem}
use denote.Builtin.{u64, u8, unit}
use denote.Plain.{Nothing-Lawful, uint_Lawful}
use denote.Exit.{left, yes}
use denote.Laws.{Are, Ises, Lawful, Typed, valss}
use denote.Memory.{lone, pointee}
use denote.RattleType.{RattleType, Denots, Valss, flat, owns}
use denote.RawPtr.{Ptr, RawPtr, lies_at}
use denote.Ref.{MutBor, MutRef, mut_vals}
use denote.Triple.Table.{enters, framed}
use Rattle.dt_c.proofs.Lending.{Hands, lent}
use Rattle.dt_c.proofs.Parameters.{Lasts, Parameters, none, all_tell, rows, said_of, words}
use Rattle.dt_c.proofs.Passing.{Walked, closing, closing_hands_on, code, hands_on}

-- a result of one machine value
pub record Answer {M : Type 1} {𝓤 : Ura M} (𝓛 : Logic 𝓤) : Type 1 where
  pub row : RattleType
  pub lawful : Lawful 𝓛 row
  pub one : row.mir ≡ lone row.mir ∷ []

abbrev pub status : {M : Type 1} {𝓤 : Ura M} (𝓛 : Logic 𝓤) → Answer 𝓛
status 𝓛 = record { row = u8; lawful = uint_Lawful 𝓛 w8; one = refl }

abbrev pub time : {M : Type 1} {𝓤 : Ura M} (𝓛 : Logic 𝓤) → Answer 𝓛
time 𝓛 = record { row = u64; lawful = uint_Lawful 𝓛 w64; one = refl }

abbrev pub nothing : {M : Type 1} {𝓤 : Ura M} (𝓛 : Logic 𝓤) → Answer 𝓛
nothing 𝓛 = record { row = unit; lawful = Nothing-Lawful 𝓛; one = refl }

-- what a function of these parameters, among whose lifetimes are these that outlive others, is called with, beside its contract's own ghost value
abbrev pub Bound : (n : ℕ) → List (Outlives n) → (Lfts n → List RattleType) → Type 0
Bound n os Rs = (κs : Lfts n) × (qs : Shares n) × AllOutlive n os κs × (a : Denots (Rs κs)) × Valss (Rs κs)

module _ {M : Type 1} {𝓤 : Ura M} (𝓛 : Logic 𝓤) (𝓜 : Model 𝓤 𝓛.H) (𝓡 : Running 𝓤 𝓛.H 𝓜) (R : RattleType) where
  open 𝓛 use {H}

  abbrev 𝓣 : MachineTables 𝓤 H 𝓜
  𝓣 = tables 𝓤 H 𝓜 𝓡 𝓡.env

  -- the call has one lifetime more, the first, and of the others outlive each other those of the export
  module _ (A : Answer 𝓛) (n : ℕ) (os : List (Outlives n)) (os⁺ : List (Outlives (suc n))) (lifts : (κ : Lft) (κs : Lfts n) → AllOutlive n os κs → AllOutlive (suc n) os⁺ (κ, κs)) (ps : Lfts n → Parameters) (Says : (κs : Lfts n) (a : Denots (rows (ps κs))) → R.Denot → A.row.Denot → R.Denot → Lasts (ps κs) a → Type 0) where
    abbrev lent_rows : Lfts (suc n) → List RattleType
    lent_rows κs = MutRef (named 0) κs.0 R ∷ rows (ps κs.1)

    abbrev handle_rows : Lfts n → List RattleType
    handle_rows κs = RawPtr ∷ rows (ps κs)

    -- the call on what lies at the handle meets its clause
    abbrev pub Called : Callee → Type 1
    Called f = (y : Bound (suc n) os⁺ lent_rows × Unit {0}) → ent 𝓤 (sep 𝓤 (sep 𝓤 (toks 𝓛 (suc n) y.0.0 y.0.1) (sem 𝓛 (owns (lent_rows y.0.0) y.0.3 y.0.4))) (emp 𝓤))
        (𝓣.C f (flat (lent_rows y.0.0) y.0.4) (λ v. H.⇛ (ex 𝓤 (λ (u : A.row.Denot). sep 𝓤 (sep 𝓤 (toks 𝓛 (suc n) y.0.0 y.0.1) (sem 𝓛 (A.row.own_val u (v ∷ []))))
        (ex 𝓤 (λ (ws : R.Denot × Lasts (ps y.0.0.1) y.0.3.1). sep 𝓤 (sem 𝓛 (fsep (left ((MutRef (named 0) y.0.0.0 R).exit yes) y.0.3.0 ws.0) (said_of (ps y.0.0.1) y.0.3.1 ws.1)))
        (fact 𝓤 (Says y.0.0.1 y.0.3.1 y.0.3.0.now u ws.0 ws.1))))))))

    -- what an export says of the pointer to its handle, its result and what the call left
    module _ (Ends : (κs : Lfts n) (a : Denots (rows (ps κs))) → R.Denot → Ptr → A.row.Denot → Lasts (ps κs) a → SProp 𝓤) where
      abbrev Ended : Callee → Type 1
      Ended k = (y : Bound n os handle_rows × R.Denot) → ent 𝓤 (sep 𝓤 (sep 𝓤 (toks 𝓛 n y.0.0 y.0.1) (sem 𝓛 (owns (handle_rows y.0.0) y.0.3 y.0.4))) (sem 𝓛 (lies_at R full_share y.0.3.0 y.1)))
          (𝓣.C k (flat (handle_rows y.0.0) y.0.4) (λ v. H.⇛ (ex 𝓤 (λ (u : A.row.Denot). sep 𝓤 (sep 𝓤 (toks 𝓛 n y.0.0 y.0.1) (sem 𝓛 (A.row.own_val u (v ∷ []))))
          (ex 𝓤 (λ (ws : Unit {0} × Lasts (ps y.0.0) y.0.3.1). sep 𝓤 (sem 𝓛 (fsep ftrue (said_of (ps y.0.0) y.0.3.1 ws.1))) (Ends y.0.0 y.0.3.1 y.1 y.0.3.0 u ws.1)))))))

      -- code that hands the call's result on
      abbrev HandsOn : Callee → Fn → Lfts n → Type 2
      HandsOn f e κs = (a : Denots (rows (ps κs))) → Are (rows (ps κs)) (Ises (rows (ps κs))) a (valss (rows (ps κs)) (words (ps κs)) a) → (b o : ℕ) (K : Val → SProp 𝓤)
          → let vs = vptr b o ∷ flat (rows (ps κs)) (valss (rows (ps κs)) (words (ps κs)) a) in ent 𝓤 (𝓣.C f vs (Hands 𝓛 (lone A.row.mir ∷ []) K)) (WpFn 𝓤 H 𝓣.C 𝓣.Λ e vs K)

      ended : (ends : (κs : Lfts n) (a : Denots (rows (ps κs))) (x : R.Denot) (p : Ptr) (u : A.row.Denot) (h : R.Denot) (w : Lasts (ps κs) a) → Says κs a x u h w → ent 𝓤 (sem 𝓛 (lies_at R full_share p h)) (Ends κs a x p u w)) {f k : Callee} (e : Lfts n → Fn) → ((κs : Lfts n) → HandsOn f (e κs) κs) → ((κs : Lfts n) → Closed 𝓤 H 𝓣.C 𝓣.Λ k (e κs)) → Called f → Ended k
      ended ends {f} e hands closes met y =
          let κs = y.0.0 in let a = y.0.3.1 in let p = y.0.3.0 in let x = y.1 in let Rs = rows (ps κs) in
          via 𝓤 _ (lent 𝓛 R A.row Rs (toks 𝓛 n κs y.0.1) a (said_of (ps κs) a) (Says κs a x) A.lawful (𝓣.C f) p x (Ends κs a x p) (ends κs a x p)
          (framed 𝓤 H 𝓜 𝓣 f) (enters 𝓤 H 𝓜 𝓣 f)
          (λ κ b o γ vss. let r : MutBor R.Denot = record { ref_ptr = (b, o); ghost_name = γ; now = x } in met (((κ, κs), (full_share, y.0.1), lifts κ κs y.0.2, (r, a), (mut_vals r, vss)), tt))
          (WpFn 𝓤 H 𝓣.C 𝓣.Λ (e κs)) (words (ps κs))
          (λ are b o K. let vs : List Val = vptr b o ∷ flat Rs (valss Rs (words (ps κs)) a) in
          subst (λ (τs : List Ty). ent 𝓤 (𝓣.C f vs (Hands 𝓛 τs K)) (WpFn 𝓤 H 𝓣.C 𝓣.Λ (e κs) vs K)) (sym A.one) (hands κs a are b o K))
          (all_tell (ps κs)) y.0.4)
          (closes κs _ _)

    -- the handle holds what the call left, of which its clause says what it says
    abbrev Holds : (κs : Lfts n) (a : Denots (rows (ps κs))) → R.Denot → Ptr → A.row.Denot → Lasts (ps κs) a → SProp 𝓤
    Holds κs a x p u w = ex 𝓤 (λ (h : R.Denot). sep 𝓤 (sem 𝓛 (lies_at R full_share p h)) (fact 𝓤 (Says κs a x u h w)))

    holds : (κs : Lfts n) (a : Denots (rows (ps κs))) (x : R.Denot) (p : Ptr) (u : A.row.Denot) (h : R.Denot) (w : Lasts (ps κs) a) → Says κs a x u h w → ent 𝓤 (sem 𝓛 (lies_at R full_share p h)) (Holds κs a x p u w)
    holds κs a x p u h w told = qed 𝓛 (‵ (lies_at R full_share p h) ∷ []) ∵
        show ! (λ (s : R.Denot). sep 𝓤 (sem 𝓛 (lies_at R full_share p s)) (fact 𝓤 (Says κs a x u s w))) h $ frame ! $
        use0 𝓛 (raw (fact 𝓤 (Says κs a x u h w))) (fact_i 𝓤 (Says κs a x u h w) (emp 𝓤) told) $ done !

    pub exported_under : {f k : Callee} → ((κs : Lfts n) → Walked 5 (ps κs)) → ((κs : Lfts n) → Closed 𝓤 H 𝓣.C 𝓣.Λ k (code f (lone A.row.mir) (lone R.mir) (pointee R.written) (ps κs) n os)) → Called f → Ended Holds k
    exported_under {f} walked = ended Holds holds (λ κs. code f (lone A.row.mir) (lone R.mir) (pointee R.written) (ps κs) n os)
        (λ κs a are b o K. hands_on 𝓛 𝓜 𝓡 f (lone A.row.mir) (lone R.mir) (pointee R.written) n os b o K (ps κs) (walked κs) a are)

  -- the same, where no lifetime is known to outlive another
  module _ (A : Answer 𝓛) (n : ℕ) (ps : Lfts n → Parameters) (Says : (κs : Lfts n) (a : Denots (rows (ps κs))) → R.Denot → A.row.Denot → R.Denot → Lasts (ps κs) a → Type 0) where
    pub lifts : (κ : Lft) (κs : Lfts n) → AllOutlive n [] κs → AllOutlive (suc n) [] (κ, κs)
    lifts κ κs o = tt

    pub exported : {f k : Callee} → ((κs : Lfts n) → Walked 5 (ps κs)) → ((κs : Lfts n) → Closed 𝓤 H 𝓣.C 𝓣.Λ k (code f (lone A.row.mir) (lone R.mir) (pointee R.written) (ps κs) n [])) → Called A n [] [] lifts ps Says f → Ended A n [] [] lifts ps Says (Holds A n [] [] lifts ps Says) k
    exported = exported_under A n [] [] lifts ps Says

  -- the call leaves e, and has no result
  module _ (e : R.Denot) where
    abbrev Emptied : (κs : Lfts 0) (a : Denots []) → R.Denot → Ptr → Unit {0} → Unit {0} → SProp 𝓤
    Emptied κs a x p u w = sem 𝓛 (lies_at R full_share p e)

    emptied : (κs : Lfts 0) (a : Denots []) (x : R.Denot) (p : Ptr) (u : Unit {0}) (h : R.Denot) (w : Unit {0}) → h ≡ e → ent 𝓤 (sem 𝓛 (lies_at R full_share p h)) (Emptied κs a x p u w)
    emptied κs a x p u h w told = subst (λ (s : R.Denot). ent 𝓤 (sem 𝓛 (lies_at R full_share p h)) (sem 𝓛 (lies_at R full_share p s))) told (id⊢ 𝓤 _)

    abbrev Leaves : (κs : Lfts 0) (a : Denots []) → R.Denot → Unit {0} → R.Denot → Unit {0} → Type 0
    Leaves κs a x u h w = h ≡ e

    pub none_lifts : (κ : Lft) (κs : Lfts 0) → AllOutlive 0 [] κs → AllOutlive 1 [] (κ, κs)
    none_lifts κ κs o = tt

    pub closed : {f k : Callee} → Closed 𝓤 H 𝓣.C 𝓣.Λ k (closing f (lone R.mir) (pointee R.written)) → Called (nothing 𝓛) 0 [] [] none_lifts (λ κs. none) Leaves f → Ended (nothing 𝓛) 0 [] [] none_lifts (λ κs. none) Leaves Emptied k
    closed {f} closes = ended (nothing 𝓛) 0 [] [] none_lifts (λ κs. none) Leaves Emptied emptied (λ κs. closing f (lone R.mir) (pointee R.written))
        (λ κs a are b o K. closing_hands_on 𝓛 𝓜 𝓡 f (lone R.mir) (pointee R.written) b o K) (λ κs. closes)
