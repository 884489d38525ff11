-- What is taken of a flow over steps: nothing but by sends.
use Rattle.std.proofs.Common.{ℕ, ◌≡◌, List, [], ◌∷◌, ◌++◌, length, refl, ap, sym, subst, ◌∙◌, append-nil, append_assoc}
use Rattle.dt_items.specs.declared.item.Item.{Item}
use Rattle.dt_reports.specs.Told.{Told}
use Rattle.dt_units.specs.declared.endpoints.Flow.{Flow}
use Rattle.dt_endpoint.specs.declared.answers.Delivered.TheVariants as answer
use Rattle.dt_endpoint.specs.Endpoints.{EndpointValue}
use Rattle.dt_network.specs.Network.{Network, Setup}
use Rattle.dt_network.specs.Octets.{AreTaken, TakesIn}
use Rattle.dt_network.specs.Steps.{CallRead, Calls, PullReport, Step}
use Rattle.dt_service_model.specs.Turns.{Node, hears, most_read, with_book}
use Rattle.dt_service_model.specs.Whole.{take_piece}
use Rattle.dt_service_laws.proofs.Moves.{Moves, calls, changes, pulls, reads, rests}

-- what is taken is known
abbrev pub Takings : Flow → List Step → List Item → Type 0
Takings g steps items = (taken : List Item) → AreTaken g steps taken → taken ≡ items

pub takes_nothing : (g : Flow) → Takings g [] []
takes_nothing g = λ taken h. h

pub takes_more : (g : Flow) (s : Step) (steps : List Step) (xs ys : List Item) → ((first : List Item) → TakesIn g s first → first ≡ xs) → Takings g steps ys → Takings g (s ∷ steps) (xs ++ ys)
takes_more g s steps xs ys one more = λ taken h. h.4 ∙ ap (λ (is : List Item). is ++ h.1) (one h.0 h.2) ∙ ap (λ (is : List Item). xs ++ is) (more h.1 h.3)

-- over steps that follow one another
pub taken_parts : (g : Flow) (xs ys : List Step) (taken : List Item) → AreTaken g (xs ++ ys) taken → (first : List Item) × (rest : List Item) × AreTaken g xs first × AreTaken g ys rest × (taken ≡ first ++ rest)
taken_parts g [] ys taken t = ([], taken, refl, t, refl)
taken_parts g (z ∷ zs) ys taken t =
    let p = taken_parts g zs ys t.1 t.3 in
    (t.0 ++ p.0, p.1, (t.0, p.0, t.2, p.2, refl), p.3, t.4 ∙ ap (λ (is : List Item). t.0 ++ is) p.4 ∙ sym (append_assoc t.0 p.0 p.1))

pub takes_append : (g : Flow) (xs ys : List Step) (us vs : List Item) → Takings g xs us → Takings g ys vs → Takings g (xs ++ ys) (us ++ vs)
takes_append g xs ys us vs h k = λ taken t. let p = taken_parts g xs ys taken t in p.4 ∙ ap (λ (is : List Item). is ++ p.1) (h p.0 p.2) ∙ ap (λ (is : List Item). us ++ is) (k p.1 p.3)

-- where nothing is taken after the first
only_first : (P : List Item → Type 0) (taken first rest : List Item) → taken ≡ first ++ rest → rest ≡ [] → P first → P taken
only_first P taken first rest is none p = subst P (sym (is ∙ ap (λ (is : List Item). first ++ is) none ∙ append-nil first)) p

pub takes_first : (g : Flow) (s : Step) (steps : List Step) (P : List Item → Type 0) → ((first : List Item) → TakesIn g s first → P first) → Takings g steps [] → (taken : List Item) → AreTaken g (s ∷ steps) taken → P taken
takes_first g s steps P one more = λ taken h. only_first P taken h.0 h.1 h.4 (more h.1 h.3) (one h.0 h.2)

pub takes_start : (g : Flow) (xs ys : List Step) (P : List Item → Type 0) → ((first : List Item) → AreTaken g xs first → P first) → Takings g ys [] → (taken : List Item) → AreTaken g (xs ++ ys) taken → P taken
takes_start g xs ys P some more = λ taken h. let p = taken_parts g xs ys taken h in only_first P taken p.0 p.1 p.4 (more p.1 p.3) (some p.0 p.2)

module _ (setup : Setup) (n : ℕ) where
  pulls_take : (g : Flow) (e : EndpointValue) (rs : List Told) → Takings g (pulls setup n e rs) []
  pulls_take g e [] = takes_nothing g
  pulls_take g e (r ∷ rs) = takes_more g (Calls n PullReport (record e { reports = rs })) (pulls setup n e rs) [] [] (λ first h. h) (pulls_take g e rs)

  pub behind_takes : (g : Flow) (e : EndpointValue) (rs : List Told) (steps : List Step) (items : List Item) → Takings g steps items → Takings g (pulls setup n e rs ++ steps) items
  behind_takes g e rs steps items more = takes_append g (pulls setup n e rs) steps [] items (pulls_take g e rs) more

  pub moves_take : (base : Network) (g : Flow) (x y : Node) (steps : List Step) → Moves setup n base x steps y → Takings g steps []
  moves_take base g x y steps rests = takes_nothing g
  moves_take base g x y steps (changes {x = z} {y = u} {steps = ss} h quiet more) = moves_take base g (record z { book = h }) u ss more
  moves_take base g x y steps (calls {x = z} {y = u} {steps = ss} call f may none taken more) = takes_more g (Calls n call f) (pulls setup n f f.reports ++ ss) [] [] (λ first t. taken g first t) (behind_takes g f f.reports ss [] (moves_take base g (hears (record z { endpoint = f })) u ss more))
  moves_take base g x y steps (reads {x = z} {y = u} {steps = ss} now k p o os f comes some may more) = takes_more g (Calls n (CallRead now k most_read p.octets (answer.Read (length p.octets) p.run p.begin p.end)) f) (pulls setup n f f.reports ++ ss) [] [] (λ first t. t) (behind_takes g f f.reports ss [] (moves_take base g (with_book (take_piece k p) (hears (record z { endpoint = f }))) u ss more))
