-- The places that the parts of a derivation write: each has a type, is written with the definition's types, and has no fault.
use Rattle.mir_round_trip.specs.Bodies.{names_at}
use Rattle.std.proofs.Common.{◌≡◌, ◌<◌, ℕ, true, false, List, [], ◌∷◌, ◌++◌, map, flat_map, length, refl, sym, ap, subst, ◌∙◌, Some, is_none}
use Rattle.std.proofs.lemmas.List.{append-nil}
use Rattle.mir_syntax.specs.declared.body.Place.{Place}
use Rattle.mir_syntax.specs.Tree.{Tree}
use Rattle.mir_syntax.specs.Crate as C
use Rattle.mir_syntax.specs.Crate.{TypedRvalue, TypedStmt, Crate}
use Rattle.mir_syntax.specs.Shapes.{place_ty, shapes_of}
use Rattle.mir_text.specs.Grammar.{Items, end, last, more, items_of, AllOf}
use Rattle.mir_text.specs.GrammarPlaces as p
use Rattle.mir_text.specs.GrammarPlaces.{PlaceRule, OperandRule}
use Rattle.mir_text.specs.GrammarStatements as r
use Rattle.mir_text.specs.GrammarStatements.{BuildRule, RvalueRule, StmtRule}
use Rattle.mir_text.specs.GrammarTerms as g
use Rattle.mir_text.specs.GrammarTerms.{TermRule}
use Rattle.mir_text.specs.Names.{Strings, Names}
use Rattle.mir_text.specs.NamedBodies.{Declared, declared_ty, place_named, operand_named, parts_named, rvalue_named, stmt_named, term_named}
use Rattle.mir_text.specs.NameFaults.{each, each_item, place_codes, operand_codes, parts_codes, build_codes, rvalue_codes, stmt_codes, call_codes, target_codes, arm_codes, term_codes}
use Rattle.mir_text.specs.PlaceText.{local_ty}
use Rattle.mir_text.specs.ReadLines.{operand_places, parts_places, rvalue_places, stmt_places, term_places, is_wrong, any_wrong}
use Rattle.mir_syntax.specs.Parts as mir
use Rattle.mir_rules.proofs.Lists.{append_empty-left, append_empty-right, or_false-left, or_false-right, is_there}
use Rattle.mir_round_trip.proofs.Spelling.{all-append}
use Rattle.mir_round_trip.proofs.Rvalues.{two-same}
use Rattle.mir_round_trip.proofs.FunctionsBack.{map-append}
use Rattle.mir_round_trip.proofs.PlacesWritten.{Read}
use Rattle.mir_round_trip.proofs.PlaceTypes.{place_has}

-- ---- no fault

abbrev NoFault : Names → Declared → PlaceRule → Type 0
NoFault N L q = place_codes N L q ≡ []

operand-none : (N : Names) (L : Declared) (x : OperandRule) → operand_codes N L x ≡ [] → AllOf (NoFault N L) (operand_places x)
operand-none N L (p.copy q) h = (h, tt)
operand-none N L (p.move q) h = (h, tt)
operand-none N L (p.bare q) h = (h, tt)
operand-none N L (p.const x) h = tt

items-none : {R : Type 0} (N : Names) (L : Declared) (of : R → OperandRule) (xs : Items R) → each_item (λ x. operand_codes N L (of x)) xs ≡ [] → AllOf (NoFault N L) (each_item (λ x. operand_places (of x)) xs)
items-none N L of end h = tt
items-none N L of (last x) h = all-append (NoFault N L) (operand_places (of x)) [] (operand-none N L (of x) (append_empty-left (operand_codes N L (of x)) [] h)) tt
items-none N L of (more x xs) h =
    all-append (NoFault N L) (operand_places (of x)) _ (operand-none N L (of x) (append_empty-left (operand_codes N L (of x)) _ h)) (items-none N L of xs (append_empty-right (operand_codes N L (of x)) _ h))

each-none : (N : Names) (L : Declared) (xs : List OperandRule) → each (operand_codes N L) xs ≡ [] → AllOf (NoFault N L) (each operand_places xs)
each-none N L [] h = tt
each-none N L (x ∷ xs) h =
    all-append (NoFault N L) (operand_places x) _ (operand-none N L x (append_empty-left (operand_codes N L x) _ h)) (each-none N L xs (append_empty-right (operand_codes N L x) _ h))

parts-none : (N : Names) (L : Declared) (x : BuildRule) → parts_codes N L x ≡ [] → AllOf (NoFault N L) (parts_places x)
parts-none N L r.plain h = tt
parts-none N L (r.tupled xs) h = items-none N L (λ x. x) xs h
parts-none N L (r.labelled xs) h = items-none N L (λ x. x.1) xs h

two-none : (N : Names) (L : Declared) (x y : OperandRule) → operand_codes N L x ++ operand_codes N L y ≡ [] → AllOf (NoFault N L) (operand_places x ++ operand_places y)
two-none N L x y h =
    all-append (NoFault N L) (operand_places x) (operand_places y) (operand-none N L x (append_empty-left (operand_codes N L x) _ h)) (operand-none N L y (append_empty-right (operand_codes N L x) _ h))

rvalue-none : (N : Names) (L : Declared) (x : RvalueRule) → rvalue_codes N L x ≡ [] → AllOf (NoFault N L) (rvalue_places x)
rvalue-none N L (r.«use» x) h = operand-none N L x h
rvalue-none N L (r.cast x u) h = operand-none N L x (append_empty-left (operand_codes N L x) _ h)
rvalue-none N L (r.binary op x y) h = two-none N L x y h
rvalue-none N L (r.overflow op x y) h = two-none N L x y h
rvalue-none N L (r.unary op x) h = operand-none N L x h
rvalue-none N L (r.reference b q) h = (h, tt)
rvalue-none N L (r.discriminant q) h = (h, tt)
rvalue-none N L r.nothing h = tt
rvalue-none N L (r.tuple_of x xs) h =
    all-append (NoFault N L) (operand_places x) _ (operand-none N L x (append_empty-left (operand_codes N L x) _ h)) (items-none N L (λ y. y) xs (append_empty-right (operand_codes N L x) _ h))
rvalue-none N L (r.build q x) h = parts-none N L x (append_empty-right (build_codes N q x) (parts_codes N L x) h)

stmt-none : (N : Names) (L : Declared) (x : StmtRule) → stmt_codes N L x ≡ [] → AllOf (NoFault N L) (stmt_places x)
stmt-none N L (r.assign q x) h = (append_empty-left (place_codes N L q) _ h, rvalue-none N L x (append_empty-right (place_codes N L q) _ h))
stmt-none N L r.nop h = tt
stmt-none N L (r.live x) h = tt
stmt-none N L (r.dead x) h = tt
stmt-none N L (r.set q k) h = (h, tt)

term-none : (N : Names) (L : Declared) (labels : List ℕ) (x : TermRule) → term_codes N L labels x ≡ [] → AllOf (NoFault N L) (term_places x)
term-none N L labels (g.goto b) h = tt
term-none N L labels g.returns h = tt
term-none N L labels g.never h = tt
term-none N L labels (g.switch x arms b) h =
    operand-none N L x (append_empty-left (operand_codes N L x) _ (append_empty-left (operand_codes N L x ++ each (arm_codes labels) arms) (target_codes labels b) h))
term-none N L labels (g.call q path xs b u) h =
    let third = append_empty-left (place_codes N L q ++ call_codes N path ++ each_item (operand_codes N L) xs) (target_codes labels b) h in
    let second = append_empty-left (place_codes N L q ++ call_codes N path) (each_item (operand_codes N L) xs) third in
    (append_empty-left (place_codes N L q) (call_codes N path) second, items-none N L (λ y. y) xs (append_empty-right (place_codes N L q ++ call_codes N path) (each_item (operand_codes N L) xs) third))
term-none N L labels (g.drop q b u) h = (append_empty-left (place_codes N L q) (target_codes labels b) h, tt)
term-none N L labels (g.assert expected x message xs b u) h =
    let front = append_empty-left (operand_codes N L x ++ each (operand_codes N L) xs) (target_codes labels b) h in
    all-append (NoFault N L) (operand_places x) _ (operand-none N L x (append_empty-left (operand_codes N L x) _ front)) (each-none N L xs (append_empty-right (operand_codes N L x) _ front))

-- ---- the named places

operand-same : (N : Names) (L : Declared) (x : OperandRule) → map (place_named N L) (operand_places x) ≡ mir.operand_places (operand_named N L x)
operand-same N L (p.copy q) = refl
operand-same N L (p.move q) = refl
operand-same N L (p.bare q) = refl
operand-same N L (p.const x) = refl

items-same : {R : Type 0} (N : Names) (L : Declared) (of : R → OperandRule) (xs : Items R)
    → map (place_named N L) (each_item (λ x. operand_places (of x)) xs) ≡ flat_map mir.operand_places (items_of (λ x. operand_named N L (of x)) xs)
items-same N L of end = refl
items-same N L of (last x) = map-append (place_named N L) (operand_places (of x)) [] ∙ ap (λ l. l ++ []) (operand-same N L (of x))
items-same N L of (more x xs) = map-append (place_named N L) (operand_places (of x)) _ ∙ two-same (λ a b. a ++ b) (operand-same N L (of x)) (items-same N L of xs)

each-same : (N : Names) (L : Declared) (xs : List OperandRule) → map (place_named N L) (each operand_places xs) ≡ flat_map mir.operand_places (map (operand_named N L) xs)
each-same N L [] = refl
each-same N L (x ∷ xs) = map-append (place_named N L) (operand_places x) _ ∙ two-same (λ a b. a ++ b) (operand-same N L x) (each-same N L xs)

one-same : (N : Names) (L : Declared) (x : OperandRule) → map (place_named N L) (operand_places x) ≡ flat_map mir.operand_places (operand_named N L x ∷ [])
one-same N L x = operand-same N L x ∙ sym (append-nil (mir.operand_places (operand_named N L x)))

two-named : (N : Names) (L : Declared) (x y : OperandRule) → map (place_named N L) (operand_places x ++ operand_places y) ≡ flat_map mir.operand_places (operand_named N L x ∷ operand_named N L y ∷ [])
two-named N L x y = map-append (place_named N L) (operand_places x) (operand_places y) ∙ two-same (λ a b. a ++ b) (operand-same N L x) (one-same N L y)

parts-same : (N : Names) (L : Declared) (x : BuildRule) → map (place_named N L) (parts_places x) ≡ flat_map mir.operand_places (parts_named N L x)
parts-same N L r.plain = refl
parts-same N L (r.tupled xs) = items-same N L (λ x. x) xs
parts-same N L (r.labelled xs) = items-same N L (λ x. x.1) xs

rvalue-same : (N : Names) (L : Declared) (x : RvalueRule) → map (place_named N L) (rvalue_places x) ≡ mir.rvalue_places (rvalue_named N L x)
rvalue-same N L (r.«use» x) = one-same N L x
rvalue-same N L (r.cast x u) = one-same N L x
rvalue-same N L (r.binary op x y) = two-named N L x y
rvalue-same N L (r.overflow op x y) = two-named N L x y
rvalue-same N L (r.unary op x) = one-same N L x
rvalue-same N L (r.reference true q) = refl
rvalue-same N L (r.reference false q) = refl
rvalue-same N L (r.discriminant q) = refl
rvalue-same N L r.nothing = refl
rvalue-same N L (r.tuple_of x xs) = map-append (place_named N L) (operand_places x) _ ∙ two-same (λ a b. a ++ b) (operand-same N L x) (items-same N L (λ y. y) xs)
rvalue-same N L (r.build q x) = parts-same N L x

-- the places of a statement of a body
abbrev pub places_of_stmt : TypedStmt → List Place
places_of_stmt (C.assign q x) = q ∷ mir.rvalue_places x
places_of_stmt (C.storage_live x) = []
places_of_stmt (C.storage_dead x) = []
places_of_stmt (C.set_discriminant q k) = q ∷ []

-- each place has a type
abbrev pub AllTyped : Crate → List Tree → List Place → Type 0
AllTyped c locals qs = AllOf (λ q. is_none (place_ty (shapes_of c) locals q) ≡ false) qs

stmt-typed : (c : Crate) (locals : List Tree) (N : Names) (L : Declared) (x : StmtRule) → AllOf (λ s. AllTyped c locals (places_of_stmt s)) (stmt_named N L x) → AllTyped c locals (map (place_named N L) (stmt_places x))
stmt-typed c locals N L (r.assign q x) h = (h.0.0, subst (AllTyped c locals) (sym (rvalue-same N L x)) h.0.1)
stmt-typed c locals N L r.nop h = tt
stmt-typed c locals N L (r.live x) h = tt
stmt-typed c locals N L (r.dead x) h = tt
stmt-typed c locals N L (r.set q k) h = (h.0.0, tt)

term-same : (N : Names) (L : Declared) (x : TermRule) → map (place_named N L) (term_places x) ≡ mir.term_places (term_named N L x)
term-same N L (g.goto b) = refl
term-same N L g.returns = refl
term-same N L g.never = refl
term-same N L (g.switch x arms b) = one-same N L x
term-same N L (g.call q path xs b u) = ap (λ l. place_named N L q ∷ l) (items-same N L (λ y. y) xs)
term-same N L (g.drop q b u) = refl
term-same N L (g.assert expected x message xs b u) = map-append (place_named N L) (operand_places x) _ ∙ two-same (λ a b. a ++ b) (operand-same N L x) (each-same N L xs)

-- ---- all together

places-read : (c : Crate) (strings : Strings) (L : Declared) (locals : List Tree) → ((x : ℕ) (t : Tree) → declared_ty L x ≡ Some t → x < length locals → local_ty locals x ≡ t) → (qs : List PlaceRule)
    → AllTyped c locals (map (place_named (names_at c strings) L) qs) → AllOf (NoFault (names_at c strings) L) qs → any_wrong (names_at c strings) L qs ≡ false → AllOf (Read c strings L) qs
places-read c strings L locals typed [] h codes right = tt
places-read c strings L locals typed (q ∷ qs) h codes right =
    let t = is_there (place_ty (shapes_of c) locals (place_named (names_at c strings) L q)) h.0 in (
      record { type = t.0; has = place_has c strings L locals typed q codes.0 t.0 t.1; right = or_false-left (is_wrong (names_at c strings) L q) _ right },
      places-read c strings L locals typed qs h.1 codes.1 (or_false-right (is_wrong (names_at c strings) L q) _ right),
    )

pub stmt_read : (c : Crate) (strings : Strings) (L : Declared) (locals : List Tree) → ((x : ℕ) (t : Tree) → declared_ty L x ≡ Some t → x < length locals → local_ty locals x ≡ t) → (x : StmtRule)
    → AllOf (λ s. AllTyped c locals (places_of_stmt s)) (stmt_named (names_at c strings) L x) → stmt_codes (names_at c strings) L x ≡ [] → any_wrong (names_at c strings) L (stmt_places x) ≡ false
    → AllOf (Read c strings L) (stmt_places x)
stmt_read c strings L locals typed x h codes right =
    places-read c strings L locals typed (stmt_places x) (stmt-typed c locals (names_at c strings) L x h) (stmt-none (names_at c strings) L x codes) right

pub term_read : (c : Crate) (strings : Strings) (L : Declared) (locals : List Tree) → ((x : ℕ) (t : Tree) → declared_ty L x ≡ Some t → x < length locals → local_ty locals x ≡ t) → (labels : List ℕ) (x : TermRule)
    → AllTyped c locals (mir.term_places (term_named (names_at c strings) L x)) → term_codes (names_at c strings) L labels x ≡ [] → any_wrong (names_at c strings) L (term_places x) ≡ false
    → AllOf (Read c strings L) (term_places x)
term_read c strings L locals typed labels x h codes right =
    places-read c strings L locals typed (term_places x) (subst (AllTyped c locals) (sym (term-same (names_at c strings) L x)) h) (term-none (names_at c strings) L labels x codes) right
