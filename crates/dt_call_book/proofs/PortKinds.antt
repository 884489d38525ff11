-- The kind of a port, found in a map.
use Rattle.std.proofs.Common.{ℕ, ◌≡◌, ◌==◌, Bool, true, false, List, [], ◌∷◌, ◌++◌, Option, Some, cond, nat_eq, refl, ap, ◌∙◌}
use Rattle.std.specs.Prelude.{find, option_map}
use Rattle.std.specs.Cmp.{nat_eq_equiv}
use Rattle.std.specs.Map.{lookup}
use Rattle.dt_service_model.specs.declared.ports.Port.{Port}
use Rattle.dt_service_model.specs.declared.ports.PortKind.{PortKind}
use Rattle.dt_service_model.specs.CallBook.{kind_in}
use Rattle.dt_call_book.specs.Ports.{port_of, ports_of}

pub kind_found : (port : ℕ) (es : List (ℕ × PortKind)) → lookup (nat_eq port) es ≡ kind_in port (ports_of es)
kind_found port [] = refl
kind_found port (e ∷ es) =
    ap (λ (o : Option PortKind). cond (nat_eq port e.0) (Some e.1) o) (kind_found port es)
    ∙ ap (λ (b : Bool). cond b (Some e.1) (kind_in port (ports_of es))) (nat_eq_equiv.symm port e.0)
    ∙ by (e.0 == port)
  where
    by : (b : Bool) → cond b (Some e.1) (kind_in port (ports_of es)) ≡ option_map (λ (p : Port). p.kind) (cond b (Some (port_of e)) (find (λ (p : Port). p.port == port) (ports_of es)))
    by true = refl
    by false = refl

pub given_behind : (es : List (ℕ × PortKind)) (e : ℕ × PortKind) → ports_of (es ++ e ∷ []) ≡ ports_of es ++ port_of e ∷ []
given_behind [] e = refl
given_behind (d ∷ es) e = ap (λ (l : List Port). port_of d ∷ l) (given_behind es e)
