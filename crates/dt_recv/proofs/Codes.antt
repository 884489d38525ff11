-- The action that a row's number names.
use Rattle.std.proofs.Common.{◌≡◌, ℕ, cond, ◌==◌, [], ◌∷◌, refl, sym, ap, ◌∙◌}
use Rattle.dt_flow_model.specs.declared.arrivals.Action.{Action}
use Rattle.dt_flow_model.specs.declared.arrivals.Action.TheVariants.{Drop, Make, TellNumber, TellExpected, Accept, Skip, Close}
use Rattle.dt_recv.specs.Keys.{action_code}

abbrev named : ℕ → Action
named n = cond (n == 0) Drop (cond (n == 1) Make (cond (n == 2) TellNumber (cond (n == 3) TellExpected (cond (n == 4) Accept (cond (n == 5) Skip Close)))))

named-code : (a : Action) → named (action_code a) ≡ a
named-code Drop = refl
named-code Make = refl
named-code TellNumber = refl
named-code TellExpected = refl
named-code Accept = refl
named-code Skip = refl
named-code Close = refl

-- An action is this one where the number picked for it, which stands alone in the list, is this one's.
pub by_row : (code : ℕ) (action wanted : Action) → action_code wanted ∷ [] ≡ code ∷ [] → code ≡ action_code action → action ≡ wanted
by_row code action wanted row named_by =
    let codes : action_code action ≡ action_code wanted = cc in
    sym (named-code action) ∙ ap named codes ∙ named-code wanted
