-- What a node has begun of a flow is what the octets that it read of it have begun, or nothing.
use Rattle.std.proofs.Common.{ℕ, ◌≡◌, ◌⊎◌, Bool, true, false, List, [], ◌∷◌, ◌++◌, length, Option, Some, None, refl, ap, sym, subst, ◌∙◌, inl, inr, append-nil}
use Rattle.std.specs.Prelude.{cond, filter, option_map, slice_get}
use Rattle.std.specs.List.{position, remove}
use Rattle.std.proofs.lemmas.Bool.{cases_Bool}
use Rattle.std.proofs.lemmas.List.Elements.{filter-append}
use Rattle.dt_units.specs.declared.endpoints.Flow.{Flow}
use Rattle.dt_world_model.proofs.Tables.{flow_is, flow_self}
use Rattle.dt_world_model.specs.Tables.{same_flow}
use Rattle.dt_calls_model.specs.Messages.{Piece, begun_with}
use Rattle.dt_messages.specs.Joining.{begun_within}
use Rattle.dt_service_model.specs.CallBook.{CallBook, longest_message}
use Rattle.dt_service_model.specs.Whole.{begun_at, begun_of, grown, is_of, with_begun, without_begun}
use Rattle.dt_service_laws.proofs.Moves.{Tracks}
use Rattle.dt_service_laws.proofs.Pieces.{begun_stays}
use Rattle.dt_service_laws.proofs.Taking.{FirstPasses, NonePasses, by_first, got, removed}
use Rattle.dt_service_laws.proofs.Wholes.{IsSameOrNone}

abbrev pub Entries : Type 0
Entries = List (Flow × List ℕ)

-- by the entries of its flow alone
pub tracks_alike : (g : Flow) (b : Option (List ℕ)) (es fs : Entries) → filter (is_of g) fs ≡ filter (is_of g) es → Tracks g b es → Tracks g b fs
tracks_alike g b es fs same (inl none) = inl (same ∙ none)
tracks_alike g b es fs same (inr one) = inr (record { entry = one.entry; alone = same ∙ one.alone; same = one.same })

other_flow : (f g : Flow) (e : Flow × List ℕ) → same_flow f g ≡ false → is_of f e ≡ true → is_of g e ≡ false
other_flow f g e apart is = subst (λ (k : Flow). same_flow k g ≡ false) (sym (flow_is e.0 f is)) apart

-- THE ENTRY OF A FLOW is taken out
module _ (f : Flow) (es : Entries) where
  abbrev pub left_over : Entries
  left_over = without_begun (position (is_of f) es) es

  abbrev pub taken_out : Option (List ℕ)
  taken_out = begun_at (position (is_of f) es) es

  left_first : (r : FirstPasses (is_of f) es) → left_over ≡ r.front ++ r.back
  left_first r = ap (λ (o : Option ℕ). without_begun o es) r.place ∙ ap (λ (xs : Entries). remove xs (length r.front)) r.is ∙ removed (is_of f) r.front r.x r.back

  out_first : (r : FirstPasses (is_of f) es) → taken_out ≡ Some r.x.1
  out_first r =
      ap (λ (o : Option ℕ). begun_at o es) r.place
      ∙ ap (λ (xs : Entries). option_map (λ (e : Flow × List ℕ). e.1) (slice_get xs (length r.front))) r.is
      ∙ ap (option_map (λ (e : Flow × List ℕ). e.1)) (got (is_of f) r.front r.x r.back)

  left_none : NonePasses (is_of f) es → left_over ≡ es
  left_none l = ap (λ (o : Option ℕ). without_begun o es) l.place

  out_none : NonePasses (is_of f) es → taken_out ≡ None
  out_none l = ap (λ (o : Option ℕ). begun_at o es) l.place

  -- of another flow nothing goes
  pub left_other : (g : Flow) → same_flow f g ≡ false → filter (is_of g) left_over ≡ filter (is_of g) es
  left_other g apart =
      elim (by_first (is_of f) es) [
        | inl l ↦ ap (filter (is_of g)) (left_none l)
        | inr r ↦
            ap (filter (is_of g)) (left_first r)
            ∙ filter-append (is_of g) r.front r.back
            ∙ sym (ap (filter (is_of g)) r.is ∙ filter-append (is_of g) r.front (r.x ∷ r.back) ∙ ap (λ (b : Bool). filter (is_of g) r.front ++ cond b (r.x ∷ filter (is_of g) r.back) (filter (is_of g) r.back)) (other_flow f g r.x apart r.passes))
      ]

  all_first : (r : FirstPasses (is_of f) es) → filter (is_of f) es ≡ r.x ∷ filter (is_of f) r.back
  all_first r =
      ap (filter (is_of f)) r.is
      ∙ filter-append (is_of f) r.front (r.x ∷ r.back)
      ∙ ap (λ (b : Bool). filter (is_of f) r.front ++ cond b (r.x ∷ filter (is_of f) r.back) (filter (is_of f) r.back)) r.passes
      ∙ ap (λ (xs : Entries). xs ++ r.x ∷ filter (is_of f) r.back) r.before

  pub record IsOut (b : Option (List ℕ)) : Type 0 where
    pub same : IsSameOrNone taken_out b
    pub none : filter (is_of f) left_over ≡ []

  pub is_out : (b : Option (List ℕ)) → Tracks f b es → IsOut b
  is_out b tracks =
      elim (by_first (is_of f) es) [
        | inl l ↦ record { same = inl (out_none l); none = ap (filter (is_of f)) (left_none l) ∙ l.none }
        | inr r ↦ elim tracks [
          | inl none ↦ (let no = sym none ∙ all_first r in absurd cc)
          | inr one ↦
              let both : one.entry ∷ [] ≡ r.x ∷ filter (is_of f) r.back = sym one.alone ∙ all_first r in
              let e : one.entry ≡ r.x = cc in
              let no_more : filter (is_of f) r.back ≡ [] = cc in
              record {
                same = inr (out_first r ∙ ap (λ (x : Flow × List ℕ). Some x.1) (sym e) ∙ one.same);
                none = ap (filter (is_of f)) (left_first r) ∙ filter-append (is_of f) r.front r.back ∙ ap (λ (xs : Entries). xs ++ filter (is_of f) r.back) r.before ∙ no_more;
              }
        ]
      ]

-- and put back as it then is
pub back_other : (f g : Flow) (o : Option (List ℕ)) (es : Entries) → same_flow f g ≡ false → filter (is_of g) (with_begun f o es) ≡ filter (is_of g) es
back_other f g None es apart = refl
back_other f g (Some octets) es apart =
    filter-append (is_of g) es ((f, octets) ∷ [])
    ∙ ap (λ (b : Bool). filter (is_of g) es ++ cond b ((f, octets) ∷ []) []) apart
    ∙ append-nil (filter (is_of g) es)

back_same : (f : Flow) (o b : Option (List ℕ)) (es : Entries) → filter (is_of f) es ≡ [] → IsSameOrNone o b → Tracks f b (with_begun f o es)
back_same f None b es none same = inl none
back_same f (Some octets) b es none (inl lost) = absurd cc
back_same f (Some octets) b es none (inr same) = inr (record {
  entry = (f, octets);
  alone = filter-append (is_of f) es ((f, octets) ∷ []) ∙ ap (λ (xs : Entries). xs ++ cond (same_flow f f) ((f, octets) ∷ []) []) none ∙ ap (λ (t : Bool). cond t ((f, octets) ∷ []) []) (flow_self f);
  same = same;
})

-- A PIECE
pub begun_same : (f : Flow) (b : Option (List ℕ)) (h : CallBook) → Tracks f b h.begun → IsSameOrNone (begun_of f h) b
begun_same f b h tracks = (is_out f h.begun b tracks).same

pub piece_tracks : (f : Flow) (b : Option (List ℕ)) (p : Piece) (h : CallBook) → Tracks f b h.begun → Tracks f (begun_with b p) (grown f (begun_of f h) p h).begun
piece_tracks f b p h tracks =
    let out = is_out f h.begun b tracks in
    back_same f (begun_within (Some longest_message) (begun_of f h) p) (begun_with b p) (without_begun (position (is_of f) h.begun) h.begun) out.none (begun_stays (Some longest_message) (begun_of f h) b p out.same)

pub other_tracks : (f g : Flow) (b : Option (List ℕ)) (p : Piece) (h : CallBook) → same_flow f g ≡ false → Tracks g b h.begun → Tracks g b (grown f (begun_of f h) p h).begun
other_tracks f g b p h apart tracks =
    tracks_alike g b h.begun (grown f (begun_of f h) p h).begun
    (back_other f g (begun_within (Some longest_message) (begun_of f h) p) (without_begun (position (is_of f) h.begun) h.begun) apart ∙ left_other f h.begun g apart) tracks

-- what is swept is of flows without a receiver
pub swept_tracks : (keep : Flow × List ℕ → Bool) (g : Flow) (b : Option (List ℕ)) (es : Entries) → Tracks g b es → Tracks g b (filter keep es)
swept_tracks keep g b es tracks =
    elim tracks [
      | inl none ↦ inl (swept_none es none)
      | inr one ↦ elim (swept_one one.entry es one.alone) [ inl none ↦ inl none | inr alone ↦ inr (record { entry = one.entry; alone = alone; same = one.same }) ]
    ]
  where
    swept_none : (xs : Entries) → filter (is_of g) xs ≡ [] → filter (is_of g) (filter keep xs) ≡ []
    swept_none [] h = refl
    swept_none (x ∷ xs) h =
        elim (cases_Bool (is_of g x)) [
          | inl y ↦ (let no : x ∷ filter (is_of g) xs ≡ [] = rw y at h in absurd cc)
          | inr o ↦
              let more : filter (is_of g) xs ≡ [] = rw o at h in
              elim (cases_Bool (keep x)) [ inl k ↦ rw (k, o) (swept_none xs more) | inr n ↦ rw n (swept_none xs more) ]
        ]

    swept_one : (e : Flow × List ℕ) (xs : Entries) → filter (is_of g) xs ≡ e ∷ [] → (filter (is_of g) (filter keep xs) ≡ []) ⊎ (filter (is_of g) (filter keep xs) ≡ e ∷ [])
    swept_one e [] h = inl refl
    swept_one e (x ∷ xs) h =
        elim (cases_Bool (is_of g x)) [
          | inl y ↦
              let both : x ∷ filter (is_of g) xs ≡ e ∷ [] = rw y at h in
              let here : x ≡ e = cc in
              let more : filter (is_of g) xs ≡ [] = cc in
              elim (cases_Bool (keep x)) [
                | inl k ↦ inr (rw (k, y) (ap (λ (rest : Entries). x ∷ rest) (swept_none xs more) ∙ ap (λ (z : Flow × List ℕ). z ∷ []) here))
                | inr n ↦ inl (rw n (swept_none xs more))
              ]
          | inr o ↦
              let more : filter (is_of g) xs ≡ e ∷ [] = rw o at h in
              elim (cases_Bool (keep x)) [
                | inl k ↦ elim (swept_one e xs more) [ inl a ↦ inl (rw (k, o) a) | inr a ↦ inr (rw (k, o) a) ]
                | inr n ↦ elim (swept_one e xs more) [ inl a ↦ inl (rw n a) | inr a ↦ inr (rw n a) ]
              ]
        ]
