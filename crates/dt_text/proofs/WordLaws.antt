-- A word of a kind: what is written is read, and nothing else is; it has no space; and its fault is no Order.
use Rattle.std.proofs.Common.{◌≡◌, ◌≢◌, ℕ, ◌<◌, ◌≤◌, ◌^◌, ◌*◌, ◌%◌, Bool, true, false, cond, eqb, leb, ltb, ◌&&◌, inl, inr, ◌⊎◌, List, [], ◌∷◌, ◌++◌, Option, Some, None, Result, Ok, Err, length, map, refl, ap, subst, ◌∙◌, arith, codes}
use Rattle.std.specs.Fmt.{decimal}
use Rattle.std.specs.Option.{ok_or}
use Rattle.std.specs.Char.{is_ascii_hexdigit}
use Rattle.std.specs.Str.{bytes_eq}
use Rattle.std.specs.List.{join_with_byte, list_all, AllByRecursion}
use Rattle.std.proofs.lemmas.Bool.{le-leb, lt-ltb, leb-true, ltb-true}
use Rattle.std.proofs.lemmas.Bool.Decides.{nat_tests}
use Rattle.std.proofs.lemmas.Slice.Eq.{bytes_eq-Decides}
use Rattle.dt_units.specs.declared.endpoints.Flow.{Flow}
use Rattle.dt_edges.specs.declared.addresses.Address.{Address}
use Rattle.dt_reports.specs.declared.faults.LineFault.{LineFault}
use Rattle.dt_reports.specs.declared.faults.LineFault.TheVariants as faults
use Rattle.dt_text.specs.Numerals.{numeral}
use Rattle.dt_text.specs.Endpoints.{flow_read, ip_read, address_read}
use Rattle.dt_text.specs.Hexadecimal.{is_hex, are_pairs}
use Rattle.dt_text.specs.Splitting.{cut}
use Rattle.dt_log.specs.Words.{endpoint_text, flow_text}
use Rattle.dt_units.specs.Flows.{IsFlow}
use Rattle.dt_text.specs.WordKinds.{WordKind, NumberWord, FlowWord, AddressWord, HexWord, MarksWord, AgainWord, Value, value_read, value_text, number_from, marks_of, again_of, address_text, marks_text, again_text, IsAddress, IsHex, IsOfKind}
use Rattle.dt_text.proofs.NumberLaws.{numeral-decimal, numeral-only}
use Rattle.dt_text.proofs.CutLaws.{IsFree, IsFree-append, IsFree-cons, IsFree-decimal, cut-at, cut-found}
use Rattle.dt_text.proofs.FlowLaws.{both_found, flow-text, flow-only}

both : (a b : Bool) → (a && b) ≡ true → (a ≡ true) × (b ≡ true)
both true b h = (refl, h)
both false b h = cc

some-same : {A : Type 0} (x y : A) → ◌≡◌ {A = Option A} (Some x) (Some y) → x ≡ y
some-same x y h = cc

-- numbers of at most 64 bits
abbrev pub is_small : WordKind → Bool
is_small (NumberWord least most) = ltb most 18446744073709551616
is_small FlowWord = true
is_small AddressWord = true
is_small (HexWord most) = true
is_small MarksWord = true
is_small AgainWord = true

small : (most : ℕ) → ltb most 18446744073709551616 ≡ true → most < 2 ^ 64
small most h = omega (arith, ltb-true most 18446744073709551616 h)

-- what was read holds to a fact
found : {A : Type 0} (read : Option A) (fault : LineFault) (value : A) → ok_or read fault ≡ Ok value → read ≡ Some value
found None fault value h = cc
found (Some other) fault value h = let same : other ≡ value = cc in ap (λ x. Some x) same

pub chosen : {A : Type 0} (b : Bool) (first second : Result A LineFault) (value : A) → cond b first second ≡ Ok value → ((b ≡ true) × (first ≡ Ok value)) ⊎ (second ≡ Ok value)
chosen true first second value h = inl (refl, h)
chosen false first second value h = inr h

pub is_text : (word text : List ℕ) → bytes_eq word text ≡ true → word ≡ text
is_text word text h = (bytes_eq-Decides word text).0 h

-- Addresses.

abbrev IpIs : List ℕ → List ℕ → Type 0
IpIs word ip = (word ≡ join_with_byte 46 (map decimal ip)) × (length ip ≡ 4) × AllByRecursion (λ n. n ≤ 255) ip

ip-only : (word ip : List ℕ) → ip_read word ≡ Some ip → IpIs word ip
unfolding ip_read
ip-only word ip h =
    let first = both_found (cut 46 word) _ ip h in
    let second = both_found (cut 46 first.0.1) _ ip first.2 in
    let third = both_found (cut 46 second.0.1) _ ip second.2 in
    let w = both_found (numeral 255 first.0.0) _ ip third.2 in
    let x = both_found (numeral 255 second.0.0) _ ip w.2 in
    let y = both_found (numeral 255 third.0.0) _ ip x.2 in
    let z = both_found (numeral 255 third.0.1) _ ip y.2 in
    let is : ◌≡◌ {A = List ℕ} (w.0 ∷ x.0 ∷ y.0 ∷ z.0 ∷ []) ip = some-same _ _ z.2 in
    let w-is = numeral-only 255 w.0 first.0.0 (omega arith) w.1 in
    let x-is = numeral-only 255 x.0 second.0.0 (omega arith) x.1 in
    let y-is = numeral-only 255 y.0 third.0.0 (omega arith) y.1 in
    let z-is = numeral-only 255 z.0 third.0.1 (omega arith) z.1 in
    let text : word ≡ decimal w.0 ++ 46 ∷ (decimal x.0 ++ 46 ∷ (decimal y.0 ++ 46 ∷ decimal z.0)) =
    cut-found 46 word first.0.0 first.0.1 first.1
    ∙ ap (λ a. a ++ 46 ∷ first.0.1) w-is.0
    ∙ ap (λ a. decimal w.0 ++ 46 ∷ a) (
    cut-found 46 first.0.1 second.0.0 second.0.1 second.1
    ∙ ap (λ a. a ++ 46 ∷ second.0.1) x-is.0
    ∙ ap (λ a. decimal x.0 ++ 46 ∷ a) (
    cut-found 46 second.0.1 third.0.0 third.0.1 third.1
    ∙ ap (λ a. a ++ 46 ∷ third.0.1) y-is.0
    ∙ ap (λ a. decimal y.0 ++ 46 ∷ a) z-is.0)) in
    subst (IpIs word) is (text, refl, (w-is.1, (x-is.1, (y-is.1, (z-is.1, tt)))))

abbrev AddressIs : List ℕ → Address → Type 0
AddressIs word a = (word ≡ address_text a) × IsAddress a

address-only : (word : List ℕ) (a : Address) → address_read word ≡ Some a → AddressIs word a
unfolding address_read address_text
address-only word a h =
    let parts = both_found (cut 58 word) _ a h in
    let ip = both_found (ip_read parts.0.0) _ a parts.2 in
    let port = both_found (numeral 65535 parts.0.1) _ a ip.2 in
    let made : Address = record { ip = ip.0; port = port.0 } in
    let is : made ≡ a = some-same _ _ port.2 in
    let ip-is = ip-only parts.0.0 ip.0 ip.1 in
    let port-is = numeral-only 65535 port.0 parts.0.1 (omega arith) port.1 in
    let text =
    cut-found 58 word parts.0.0 parts.0.1 parts.1
    ∙ ap (λ front. front ++ 58 ∷ parts.0.1) ip-is.0
    ∙ ap (λ after. join_with_byte 46 (map decimal ip.0) ++ 58 ∷ after) port-is.0 in
    subst (AddressIs word) is (text, record { four = ip-is.1; octets = ip-is.2; port = port-is.1 })

-- numbers with dots between them have none of the octets at which words are cut but dots
free-join : (octet : ℕ) → (octet < 48) ⊎ (57 < octet) → eqb 46 octet ≡ false → (ip : List ℕ) → AllByRecursion (λ n. n ≤ 255) ip → IsFree octet (join_with_byte 46 (map decimal ip))
unfolding IsFree
free-join octet outside dot [] h = tt
free-join octet outside dot (x ∷ []) h = IsFree-decimal octet x outside (omega (arith, h.0))
free-join octet outside dot (x ∷ y ∷ ip) h =
    IsFree-append octet (decimal x) (46 ∷ join_with_byte 46 (map decimal (y ∷ ip))) (IsFree-decimal octet x outside (omega (arith, h.0))) (
    IsFree-cons octet 46 (join_with_byte 46 (map decimal (y ∷ ip))) dot (free-join octet outside dot (y ∷ ip) h.1))

ip-text : (ip : List ℕ) → length ip ≡ 4 → AllByRecursion (λ n. n ≤ 255) ip → ip_read (join_with_byte 46 (map decimal ip)) ≡ Some ip
unfolding ip_read
ip-text (w ∷ x ∷ y ∷ z ∷ []) four h =
    let dotless : (n : ℕ) → n ≤ 255 → IsFree 46 (decimal n) = λ n small. IsFree-decimal 46 n (inl (omega arith)) (omega arith) in
    let first = cut-at 46 (decimal w) (decimal x ++ 46 ∷ (decimal y ++ 46 ∷ decimal z)) (dotless w h.0) in
    let second = cut-at 46 (decimal x) (decimal y ++ 46 ∷ decimal z) (dotless x h.1.0) in
    let third = cut-at 46 (decimal y) (decimal z) (dotless y h.1.1.0) in
    let w-is = numeral-decimal 255 w (omega arith) h.0 in
    let x-is = numeral-decimal 255 x (omega arith) h.1.0 in
    let y-is = numeral-decimal 255 y (omega arith) h.1.1.0 in
    let z-is = numeral-decimal 255 z (omega arith) h.1.1.1.0 in
    rw (first, second, third, w-is, x-is, y-is, z-is) refl
ip-text [] four h = absurd (omega arith)
ip-text (w ∷ []) four h = absurd (omega arith)
ip-text (w ∷ x ∷ []) four h = absurd (omega arith)
ip-text (w ∷ x ∷ y ∷ []) four h = absurd (omega arith)
ip-text (w ∷ x ∷ y ∷ z ∷ v ∷ more) four h = absurd (omega arith)

address-text : (a : Address) → IsAddress a → address_read (address_text a) ≡ Some a
unfolding address_read address_text
address-text a h =
    let parts = cut-at 58 (join_with_byte 46 (map decimal a.ip)) (decimal a.port) (free-join 58 (inr (omega arith)) refl a.ip h.octets) in
    let ip = ip-text a.ip h.four h.octets in
    let port = numeral-decimal 65535 a.port (omega arith) h.port in
    rw (parts, ip, port) refl

-- Digits.

is_hex-means : (most : ℕ) (digits : List ℕ) → is_hex most digits ≡ true → IsHex most digits
is_hex-means most digits h =
    let outer = both (ltb 0 (length digits) && leb (length digits) (2 * most)) (are_pairs digits) h in
    let inner = both (ltb 0 (length digits)) (leb (length digits) (2 * most)) outer.0 in
    record { some = ltb-true 0 (length digits) inner.0; within = leb-true (length digits) (2 * most) inner.1; pairs = outer.1 }

is_hex-from : (most : ℕ) (digits : List ℕ) → IsHex most digits → is_hex most digits ≡ true
is_hex-from most digits h =
    ap (λ b. (b && leb (length digits) (2 * most)) && are_pairs digits) (lt-ltb 0 (length digits) h.some)
    ∙ ap (λ b. b && are_pairs digits) (le-leb (length digits) (2 * most) h.within)
    ∙ h.pairs

not-space : (x : ℕ) → is_ascii_hexdigit x ≡ true → eqb x 32 ≡ false
not-space x h = grind (arith, nat_tests)

free-hexdigits : (digits : List ℕ) → list_all is_ascii_hexdigit digits ≡ true → IsFree 32 digits
unfolding IsFree
free-hexdigits [] h = tt
free-hexdigits (x ∷ digits) h = let tests = both (is_ascii_hexdigit x) (list_all is_ascii_hexdigit digits) h in (not-space x tests.0, free-hexdigits digits tests.1)

-- What is written is read.

number-text : (least most n : ℕ) → most < 2 ^ 64 → least ≤ n → n ≤ most → number_from least (numeral most (decimal n)) ≡ Ok n
number-text least most n small low high = ap (number_from least) (numeral-decimal most n small high) ∙ ap (λ (b : Bool). cond b (Ok n) (Err faults.Number)) (le-leb least n low)

marks-text : (marks : Bool × Bool) → marks_of (marks_text marks) ≡ Ok marks
marks-text (true, true) = refl
marks-text (true, false) = refl
marks-text (false, true) = refl
marks-text (false, false) = refl

again-text : (again : Bool) → again_of (again_text again) ≡ Ok again
again-text true = refl
again-text false = refl

pub value-text : (kind : WordKind) (value : Value kind) → is_small kind ≡ true → IsOfKind kind value → value_read kind (value_text kind value) ≡ Ok value
value-text (NumberWord least most) n bits h = number-text least most n (small most bits) h.0 h.1
value-text FlowWord flow bits h = ap (λ (r : Option Flow). ok_or r faults.Flow) (flow-text flow h)
value-text AddressWord address bits h = ap (λ (r : Option Address). ok_or r faults.Number) (address-text address h)
value-text (HexWord most) hex bits h = ap (λ (b : Bool). cond b (Ok hex) (Err faults.Hex)) (is_hex-from most hex h)
value-text MarksWord marks bits h = marks-text marks
value-text AgainWord again bits h = again-text again

-- Nothing else is read.

abbrev pub IsWritten : (kind : WordKind) → List ℕ → Value kind → Type 0
IsWritten kind word value = (word ≡ value_text kind value) × IsOfKind kind value

number-only : (least most : ℕ) (word : List ℕ) (n : ℕ) (read : Option ℕ) → most < 2 ^ 64 → numeral most word ≡ read → number_from least read ≡ Ok n → IsWritten (NumberWord least most) word n
number-only least most word n None small is h = cc
number-only least most word n (Some other) small is h =
    elim (chosen (leb least other) (Ok other) (Err faults.Number) n h) [
      | inl passed ↦
          let same : other ≡ n = cc in
          let text = numeral-only most other word small is in
          subst (IsWritten (NumberWord least most) word) same (text.0, (leb-true least other passed.0, text.1))
      | inr fault ↦ cc
    ]

marks-only : (word : List ℕ) (marks : Bool × Bool) → marks_of word ≡ Ok marks → IsWritten MarksWord word marks
marks-only word marks h =
    let one : (text : List ℕ) (read : Bool × Bool) → bytes_eq word text ≡ true → text ≡ marks_text read → ◌≡◌ {A = Result (Bool × Bool) LineFault} (Ok read) (Ok marks) → IsWritten MarksWord word marks =
    λ text read is spelled h. let same : read ≡ marks = cc in (is_text word text is ∙ spelled ∙ ap marks_text same, tt) in
    elim (chosen (bytes_eq word (codes "be")) _ _ marks h) [
      | inl p ↦ one (codes "be") (true, true) p.0 refl p.1
      | inr h ↦ elim (chosen (bytes_eq word (codes "b")) _ _ marks h) [
        | inl p ↦ one (codes "b") (true, false) p.0 refl p.1
        | inr h ↦ elim (chosen (bytes_eq word (codes "e")) _ _ marks h) [
          | inl p ↦ one (codes "e") (false, true) p.0 refl p.1
          | inr h ↦ elim (chosen (bytes_eq word (codes "-")) _ _ marks h) [
            | inl p ↦ one (codes "-") (false, false) p.0 refl p.1
            | inr h ↦ cc
          ]
        ]
      ]
    ]

again-only : (word : List ℕ) (again : Bool) → again_of word ≡ Ok again → IsWritten AgainWord word again
again-only word again h =
    elim (chosen (bytes_eq word (codes "first")) _ _ again h) [
      | inl p ↦ let same : false ≡ again = cc in (is_text word (codes "first") p.0 ∙ ap again_text same, tt)
      | inr h ↦ elim (chosen (bytes_eq word (codes "again")) _ _ again h) [
        | inl p ↦ let same : true ≡ again = cc in (is_text word (codes "again") p.0 ∙ ap again_text same, tt)
        | inr h ↦ cc
      ]
    ]

hex-only : (most : ℕ) (word hex : List ℕ) → value_read (HexWord most) word ≡ Ok hex → IsWritten (HexWord most) word hex
hex-only most word hex h =
    elim (chosen (is_hex most word) (Ok word) (Err faults.Hex) hex h) [
      | inl p ↦ let same : word ≡ hex = cc in (same, subst (IsHex most) same (is_hex-means most word p.0))
      | inr h ↦ cc
    ]

pub value-only : (kind : WordKind) (word : List ℕ) (value : Value kind) → is_small kind ≡ true → value_read kind word ≡ Ok value → IsWritten kind word value
value-only (NumberWord least most) word n bits h = number-only least most word n (numeral most word) (small most bits) refl h
value-only FlowWord word flow bits h = flow-only word flow (found (flow_read word) faults.Flow flow h)
value-only AddressWord word address bits h = address-only word address (found (address_read word) faults.Number address h)
value-only (HexWord most) word hex bits h = hex-only most word hex h
value-only MarksWord word marks bits h = marks-only word marks h
value-only AgainWord word again bits h = again-only word again h

-- No word that is written has a space.

-- a word without a space
abbrev pub is_free : List ℕ → Bool
is_free [] = true
is_free (x ∷ text) = cond (eqb x 32) false (is_free text)

passed : (b c : Bool) → cond b false c ≡ true → (b ≡ false) × (c ≡ true)
passed true c h = cc
passed false c h = (refl, h)

pub free_text : (text : List ℕ) → is_free text ≡ true → IsFree 32 text
unfolding IsFree
free_text [] h = tt
free_text (x ∷ text) h = let rest = passed (eqb x 32) (is_free text) h in (rest.0, free_text text rest.1)

free-endpoint : (node port : ℕ) → node < 2 ^ 64 → port < 2 ^ 64 → IsFree 32 (endpoint_text node port)
free-endpoint node port small small_port =
    IsFree-append 32 (decimal node) (58 ∷ decimal port) (IsFree-decimal 32 node (inl (omega arith)) small) (IsFree-cons 32 58 (decimal port) refl (IsFree-decimal 32 port (inl (omega arith)) small_port))

free-flow : (f : Flow) → IsFlow f → IsFree 32 (flow_text f)
unfolding flow_text
free-flow f h =
    IsFree-append 32 (endpoint_text f.from.0 f.from_port) (62 ∷ endpoint_text f.to.0 f.to_port) (free-endpoint f.from.0 f.from_port (omega (arith, h.from)) (omega (arith, h.from_port))) (
    IsFree-cons 32 62 (endpoint_text f.to.0 f.to_port) refl (free-endpoint f.to.0 f.to_port (omega (arith, h.to)) (omega (arith, h.to_port))))

free-address : (a : Address) → IsAddress a → IsFree 32 (address_text a)
unfolding address_text
free-address a h =
    IsFree-append 32 (join_with_byte 46 (map decimal a.ip)) (58 ∷ decimal a.port) (free-join 32 (inl (omega arith)) refl a.ip h.octets) (
    IsFree-cons 32 58 (decimal a.port) refl (IsFree-decimal 32 a.port (inl (omega arith)) (omega (arith, h.port))))

free-marks : (marks : Bool × Bool) → IsFree 32 (marks_text marks)
free-marks (true, true) = free_text (codes "be") refl
free-marks (true, false) = free_text (codes "b") refl
free-marks (false, true) = free_text (codes "e") refl
free-marks (false, false) = free_text (codes "-") refl

free-again : (again : Bool) → IsFree 32 (again_text again)
free-again true = free_text (codes "again") refl
free-again false = free_text (codes "first") refl

pub value-free : (kind : WordKind) (value : Value kind) → is_small kind ≡ true → IsOfKind kind value → IsFree 32 (value_text kind value)
value-free (NumberWord least most) n bits h = let most_small = small most bits in IsFree-decimal 32 n (inl (omega arith)) (omega (arith, h.1))
value-free FlowWord flow bits h = free-flow flow h
value-free AddressWord address bits h = free-address address h
value-free (HexWord most) hex bits h = free-hexdigits hex (both (eqb (length hex % 2) 0) (list_all is_ascii_hexdigit hex) h.pairs).1
value-free MarksWord marks bits h = free-marks marks
value-free AgainWord again bits h = free-again again

-- No fault of a word is Order.

-- what was read, or a fault other than Order
unfoldable pub IsTold : {A : Type 0} → Result A LineFault → Type 0
IsTold (Ok value) = Unit {0}
IsTold (Err fault) = fault ≢ faults.Order

pub told-ok : {A : Type 0} (value : A) → IsTold {A = A} (Ok value)
unfolding IsTold
told-ok value = tt

pub told-err : (A : Type 0) (fault : LineFault) → fault ≢ faults.Order → IsTold {A = A} (Err fault)
unfolding IsTold
told-err A fault other = other

pub not_order : {A : Type 0} (read : Result A LineFault) → IsTold read → read ≢ Err faults.Order
unfolding IsTold
not_order (Ok value) told = λ h. cc
not_order (Err fault) told = λ h. let is : fault ≡ faults.Order = cc in told is

pub told-choice : {A : Type 0} (b : Bool) (first second : Result A LineFault) → IsTold first → IsTold second → IsTold (cond b first second)
told-choice true first second told other = told
told-choice false first second told other = other

told-found : {A : Type 0} (read : Option A) (fault : LineFault) → fault ≢ faults.Order → IsTold (ok_or read fault)
unfolding IsTold
told-found None fault other = other
told-found (Some value) fault other = tt

told-number : (least : ℕ) (n : Option ℕ) → IsTold (number_from least n)
told-number least None = told-err _ faults.Number (λ h. cc)
told-number least (Some n) = told-choice _ (Ok n) (Err faults.Number) (told-ok n) (told-err _ faults.Number (λ h. cc))

pub value-told : (kind : WordKind) (word : List ℕ) → IsTold (value_read kind word)
value-told (NumberWord least most) word = told-number least (numeral most word)
value-told FlowWord word = told-found (flow_read word) faults.Flow (λ h. cc)
value-told AddressWord word = told-found (address_read word) faults.Number (λ h. cc)
value-told (HexWord most) word = told-choice (is_hex most word) (Ok word) (Err faults.Hex) (told-ok word) (told-err _ faults.Hex (λ h. cc))
value-told MarksWord word =
    told-choice (bytes_eq word (codes "be")) _ _ (told-ok _) (
    told-choice (bytes_eq word (codes "b")) _ _ (told-ok _) (
    told-choice (bytes_eq word (codes "e")) _ _ (told-ok _) (
    told-choice (bytes_eq word (codes "-")) _ _ (told-ok _) (told-err _ faults.Word (λ h. cc)))))
value-told AgainWord word = told-choice (bytes_eq word (codes "first")) _ _ (told-ok _) (told-choice (bytes_eq word (codes "again")) _ _ (told-ok _) (told-err _ faults.Word (λ h. cc)))
