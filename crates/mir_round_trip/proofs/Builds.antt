-- Builds of structs and variants: the rule that writes one, its text, and back.
use Rattle.mir_round_trip.specs.Names.{IsName, IsPath}
use Rattle.mir_round_trip.specs.Bodies.{AreFields, IsOne, IsBuild, IsOperand}
use Rattle.std.proofs.Common.{◌≡◌, ℕ, Bool, true, false, List, [], ◌∷◌, ◌++◌, codes, refl, sym, ap, subst, ◌∙◌, append_assoc}
use Rattle.mir_syntax.specs.declared.types.Form.{Form}
use Rattle.mir_syntax.specs.declared.types.Form.TheVariants as form
use Rattle.mir_syntax.specs.declared.body.Operand.{Operand}
use Rattle.mir_syntax.specs.Tree.{Tree}
use Rattle.mir_syntax.specs.Crate.{TypedField, Crate}
use Rattle.mir_text.specs.declared.symbol.Symbol.TheVariants as s
use Rattle.mir_text.specs.Symbols.{number_in}
use Rattle.mir_text.specs.Grammar.{AllOf, items_put}
use Rattle.mir_text.specs.GrammarTypes.{PathRule, path_put}
use Rattle.mir_text.specs.GrammarPlaces.{operand_put}
use Rattle.mir_text.specs.GrammarStatements as r
use Rattle.mir_text.specs.GrammarStatements.{NamedRule, named_put, BuildRule, parts_put}
use Rattle.mir_text.specs.Names.{Strings}
use Rattle.mir_text.specs.NameFaults.{field_names}
use Rattle.mir_text.specs.TypeText.{piece, more_items, comma_list, def_at}
use Rattle.mir_text.specs.PlaceText.{variant_at, operand_text}
use Rattle.mir_text.specs.StatementText.{variant_path, more_named, named_text, build_parts, build_text}
use Rattle.mir_round_trip.proofs.Spelling.{Puts, Spelt, after, and_then, alone, none, bare, put_as, all-map}
use Rattle.mir_round_trip.proofs.Atoms.{name_spelt}
use Rattle.mir_round_trip.proofs.Literals.{open_sign, close_sign, colons_sign, colon_space, brace, close_brace_space, braces}
use Rattle.mir_round_trip.proofs.Paths.{path_rule, path_spelt, with_last, put-last}
use Rattle.mir_round_trip.proofs.Operands.{operand_rule, operand_spelt}
use Rattle.mir_round_trip.proofs.Lists.{Front, items_rule, join-put, more-front, Spells, more_spelt, comma_spelt}

-- ---- operands by name

abbrev pub Labelled : Type 0
Labelled = TypedField × Operand

-- fields and operands side by side
abbrev pub side_by_side : List TypedField → List Operand → List Labelled
side_by_side (f ∷ fs) (x ∷ xs) = (f, x) ∷ side_by_side fs xs
side_by_side fs xs = []

abbrev pub named_rule : Crate → Strings → List Tree → Labelled → NamedRule
named_rule c strings locals x = (number_in strings x.0.name, operand_rule c strings locals x.1)

abbrev labelled_text : Crate → List Tree → Labelled → List ℕ
labelled_text c locals x = x.0.name ++ (codes ": " ++ operand_text c locals x.1)

-- ---- the rule

abbrev pub parts_rule : Crate → Strings → List Tree → Form → List TypedField → List Operand → BuildRule
parts_rule c strings locals form.Unit fields xs = r.plain
parts_rule c strings locals form.Tuple fields xs = r.tupled (items_rule (operand_rule c strings locals) xs)
parts_rule c strings locals form.Named fields xs = r.labelled (items_rule (named_rule c strings locals) (side_by_side fields xs))

abbrev pub built_path : Strings → Bool → List ℕ → List ℕ → PathRule
built_path strings true path name = with_last (path_rule strings path) (number_in strings name)
built_path strings false path name = path_rule strings path

-- ---- builds that a text writes

-- ---- its text

labelled-more : (c : Crate) (locals : List Tree) (fs : List TypedField) (xs : List Operand) (v : List ℕ) → more_items (labelled_text c locals) (side_by_side fs xs) ++ v ≡ more_named c locals fs xs ++ v
unfolding more_items more_named piece
labelled-more c locals [] xs v = refl
labelled-more c locals (f ∷ fs) [] v = refl
labelled-more c locals (f ∷ fs) (x ∷ xs) v =
    let m = more_items (labelled_text c locals) (side_by_side fs xs) in
    let n = more_named c locals fs xs in
    let o = operand_text c locals x in
    let first : ((f.name ++ (codes ": " ++ o)) ++ m) ++ v ≡ f.name ++ (codes ": " ++ (o ++ (m ++ v))) = simp append_assoc in
    let then-others = ap (λ l. f.name ++ (codes ": " ++ (o ++ l))) (labelled-more c locals fs xs v) in
    let last : f.name ++ (codes ": " ++ (o ++ (n ++ v))) ≡ (f.name ++ (codes ": " ++ (o ++ n))) ++ v = simp append_assoc in
    ap (λ l. codes ", " ++ l) (first ∙ then-others ∙ last)

labelled-spelt : (c : Crate) (locals : List Tree) (fs : List TypedField) (xs : List Operand) → AllOf IsName (field_names fs) → AllOf (IsOperand c locals) xs
    → AllOf (Spells (labelled_text c locals) named_put (λ strings. named_rule c strings locals) (λ x. x.0.name ∷ [])) (side_by_side fs xs)
labelled-spelt c locals [] xs h k = tt
labelled-spelt c locals (f ∷ fs) [] h k = tt
labelled-spelt c locals (f ∷ fs) (x ∷ xs) h k =
    (and_then (name_spelt f.name h.0) (λ left clear. refl) (after colon_space (operand_spelt c locals x k.0)), labelled-spelt c locals fs xs h.1 k.1)

named-spelt : (c : Crate) (locals : List Tree) (fs : List TypedField) (xs : List Operand) → AllOf IsName (field_names fs) → AllOf (IsOperand c locals) xs
    → Spelt (named_text c locals fs xs) (λ strings. parts_put (parts_rule c strings locals form.Named fs xs)) []
unfolding named_text piece
named-spelt c locals [] xs h k = alone braces
named-spelt c locals (f ∷ fs) [] h k = alone braces
named-spelt c locals (f ∷ fs) (x ∷ xs) h k =
    let all = labelled-spelt c locals (f ∷ fs) (x ∷ xs) h k in
    let v = codes " }" in
    let others = more_spelt (labelled_text c locals) named_put (λ strings. named_rule c strings locals) (λ y. y.0.name ∷ []) s.CloseBrace v (λ strings rest. rest) [] (λ left clear. refl) (alone close_brace_space) (side_by_side fs xs) all.1 in
    let b = after brace (and_then all.0 (more-front (labelled_text c locals) v (side_by_side fs xs) (λ left clear. refl)) others) in
    let m = more_items (labelled_text c locals) (side_by_side fs xs) in
    let o = operand_text c locals x in
    let first : (f.name ++ (codes ": " ++ o)) ++ (m ++ v) ≡ f.name ++ (codes ": " ++ (o ++ (m ++ v))) = simp append_assoc in
    let is : codes " { " ++ ((f.name ++ (codes ": " ++ o)) ++ (m ++ v)) ≡ codes " { " ++ (f.name ++ (codes ": " ++ (o ++ (more_named c locals fs xs ++ v)))) =
    ap (λ l. codes " { " ++ l) (first ∙ ap (λ l. f.name ++ (codes ": " ++ (o ++ l))) (labelled-more c locals fs xs v)) in
    subst (λ l. Spelt l (λ strings. parts_put (parts_rule c strings locals form.Named (f ∷ fs) (x ∷ xs))) []) is
    (put_as (λ strings ground rest. ap (λ l. s.OpenBrace ∷ l) (sym (join-put named_put s.CloseBrace (named_rule c strings locals (f, x)) (items_rule (named_rule c strings locals) (side_by_side fs xs)) rest))) (bare b))

pub operands-spelt : (c : Crate) (locals : List Tree) (xs : List Operand) → AllOf (IsOperand c locals) xs
    → AllOf (Spells (operand_text c locals) operand_put (λ strings. operand_rule c strings locals) (λ x. [])) xs
operands-spelt c locals xs h = all-map (λ x is. operand_spelt c locals x is) xs h

-- operands up to the parenthesis that closes them, and what follows
pub operand-list : (c : Crate) (locals : List Tree) (v : List ℕ) (g : Puts) (ms : List (List ℕ)) → Front v → Spelt v (λ strings rest. s.Close ∷ g strings rest) ms → (xs : List Operand) → AllOf (IsOperand c locals) xs
    → Spelt (comma_list (operand_text c locals) xs ++ v) (λ strings rest. items_put operand_put s.Close (items_rule (operand_rule c strings locals) xs) (g strings rest)) []
operand-list c locals v g ms front b xs h =
    bare (comma_spelt (operand_text c locals) operand_put (λ strings. operand_rule c strings locals) (λ x. []) s.Close v g ms front b xs (operands-spelt c locals xs h))

parts-spelt : (c : Crate) (locals : List Tree) (form : Form) (fs : List TypedField) (xs : List Operand) → AreFields form fs → AllOf (IsOperand c locals) xs
    → Spelt (build_parts c locals form fs xs) (λ strings. parts_put (parts_rule c strings locals form fs xs)) []
unfolding build_parts piece
parts-spelt c locals form.Unit fs xs h k = none
parts-spelt c locals form.Tuple fs xs h k = after open_sign (operand-list c locals (codes ")") (λ strings rest. rest) [] (λ left clear. refl) (alone close_sign) xs k)
parts-spelt c locals form.Named fs xs h k = named-spelt c locals fs xs h k

parts-front : (c : Crate) (locals : List Tree) (form : Form) (fs : List TypedField) (xs : List Operand) → Front (build_parts c locals form fs xs)
unfolding build_parts named_text piece
parts-front c locals form.Unit fs xs = λ left clear. clear
parts-front c locals form.Tuple fs xs = λ left clear. refl
parts-front c locals form.Named [] xs = λ left clear. refl
parts-front c locals form.Named (f ∷ fs) [] = λ left clear. refl
parts-front c locals form.Named (f ∷ fs) (x ∷ xs) = λ left clear. refl

-- the path of a build and what follows it
built-spelt : (is_enum : Bool) (path name v : List ℕ) (g : Puts) → IsPath path → (is_enum ≡ true → IsName name) → Front v → Spelt v g []
    → Spelt (path ++ (variant_path is_enum name ++ v)) (λ strings rest. path_put (built_path strings is_enum path name) (g strings rest)) []
unfolding variant_path piece
built-spelt true path name v g is named front b =
    let behind = after colons_sign (and_then (name_spelt name (named refl)) front b) in
    put_as (λ strings ground rest. sym (put-last (path_rule strings path) (number_in strings name) (g strings rest)))
    (bare (and_then (path_spelt path is) (λ left clear. refl) behind))
built-spelt false path name v g is named front b = bare (and_then (path_spelt path is) front b)

name-of-one : (c : Crate) (d k : ℕ) (b : Bool) → IsOne c d k b → b ≡ true → IsName (variant_at c d k).name
name-of-one c d k true h e = h.0
name-of-one c d k false h e = absurd cc

pub build_spelt : (c : Crate) (locals : List Tree) (d k : ℕ) (xs : List Operand) → IsBuild c locals d k xs
    → Spelt (build_text c locals (def_at c d) (variant_at c d k) xs)
    (λ strings rest. path_put (built_path strings (def_at c d).is_enum (def_at c d).path (variant_at c d k).name) (parts_put (parts_rule c strings locals (variant_at c d k).form (variant_at c d k).fields xs) rest)) []
unfolding build_text piece
build_spelt c locals d k xs h =
    let v = variant_at c d k in
    built-spelt (def_at c d).is_enum (def_at c d).path v.name (build_parts c locals v.form v.fields xs) (λ strings. parts_put (parts_rule c strings locals v.form v.fields xs))
    h.def.path (name-of-one c d k (def_at c d).is_enum h.named) (parts-front c locals v.form v.fields xs) (parts-spelt c locals v.form v.fields xs h.fields h.operands)
