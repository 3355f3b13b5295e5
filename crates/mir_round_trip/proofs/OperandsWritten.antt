-- The operands and rvalues that a derivation names are such as a canonical text writes.
use Rattle.mir_round_trip.specs.Names.{IsDef, crate_paths}
use Rattle.mir_round_trip.specs.Bodies.{names_at, IsConst, IsOperand, AreFields, IsOne, AreAsMany, IsBuild, IsRvalue}
use Rattle.std.proofs.Common.{◌≡◌, ◌<◌, ◌+◌, ◌-◌, ℕ, zero, suc, Bool, true, false, List, [], ◌∷◌, ◌++◌, length, get_or, codes, refl, sym, ap, subst, ◌∙◌, arith, append_assoc, Option, Some, None, slice_get, bytes_eq, if◌then◌else◌}
use Rattle.std.proofs.lemmas.Bool.{ltb-true}
use Rattle.mir_syntax.specs.declared.types.Form.{Form}
use Rattle.mir_syntax.specs.declared.types.Form.TheVariants as form
use Rattle.mir_syntax.specs.Tree.{Tree}
use Rattle.mir_syntax.specs.Crate.{TypedField, TypedVariant, TypedDef, Crate}
use Rattle.mir_syntax.specs.Shapes.{◌>>=◌}
use Rattle.mir_text.specs.Numbers.{count, limit, least}
use Rattle.mir_text.specs.Words.{place_in}
use Rattle.mir_text.specs.Grammar.{Items, end, last, more, items_of, AllItems, AllOf}
use Rattle.mir_text.specs.GrammarTypes as t
use Rattle.mir_text.specs.GrammarTypes.{PathRule}
use Rattle.mir_text.specs.GrammarPlaces as p
use Rattle.mir_text.specs.GrammarPlaces.{ValueRule, OperandRule}
use Rattle.mir_text.specs.GrammarStatements as r
use Rattle.mir_text.specs.GrammarStatements.{BuildRule, RvalueRule}
use Rattle.mir_text.specs.Names.{Strings, string_at, path_bytes, last_name, within, without_last}
use Rattle.mir_text.specs.NamedBodies.{Declared, variant_in, value_named, operand_named, struct_at, enum_variant_at, built_by, or_first, parts_named, rvalue_named}
use Rattle.mir_text.specs.NameFaults.{each_item, operand_codes, parts_codes, same_texts, field_names, has_form, variant_fits, variant_number, def_number, built_variant, build_codes, rvalue_codes}
use Rattle.mir_text.specs.Nesting.{ValueFits, OperandGood, NamedGood, PartsGood, RvalueGood}
use Rattle.mir_text.specs.ReadLines.{operand_places, parts_places, rvalue_places}
use Rattle.mir_text.specs.TypeText.{no_def, def_at}
use Rattle.mir_text.specs.PlaceText.{no_variant, variant_at}
use Rattle.mir_text.proofs.Fitting.{greatest_below, least_below, bits_below}
use Rattle.mir_text.proofs.Codes.{unless_met, first_good}
use Rattle.mir_syntax.proofs.Binds.{bind_some}
use Rattle.mir_rules.proofs.Lists.{append_empty-left, append_empty-right, and_true-right}
use Rattle.mir_round_trip.proofs.Rvalues.{two-same}
use Rattle.mir_round_trip.proofs.Blocks.{all-left, all-right}
use Rattle.mir_round_trip.proofs.TypesWritten.{def_there, path-of, ty_written}
use Rattle.mir_round_trip.proofs.PlacesWritten.{DefsKnown, at-place, variant-by, Given, Read, place_written}

-- ---- constants

const-written : (x : ValueRule) → ValueFits x → IsConst (value_named x)
const-written (p.number negative n u) h = bits_below negative n u h
const-written (p.boolean x) h = tt
const-written p.unit h = tt
const-written (p.least u) h = ltb-true (least u) (count u) (least_below u)
const-written (p.most u) h = ltb-true (limit false u) (count u) (greatest_below u)

-- ---- operands

pub operand_written : (c : Crate) (strings : Strings) (L : Declared) (locals : List Tree) → Given c strings L locals → (x : OperandRule) → AllOf (Read c strings L) (operand_places x)
    → operand_codes (names_at c strings) L x ≡ [] → OperandGood x → IsOperand c locals (operand_named (names_at c strings) L x)
unfolding IsOperand
operand_written c strings L locals given (p.copy q) h codes good = place_written c strings L locals given q h.0 codes good
operand_written c strings L locals given (p.move q) h codes good = place_written c strings L locals given q h.0 codes good
operand_written c strings L locals given (p.bare q) h codes good = place_written c strings L locals given q h.0 codes good
operand_written c strings L locals given (p.const x) h codes good = const-written x good

-- of each item, where nothing is wrong with it
items-written : {R : Type 0} (c : Crate) (strings : Strings) (L : Declared) (locals : List Tree) → Given c strings L locals → (of : R → OperandRule) (Good : R → Type 0) → ((x : R) → Good x → OperandGood (of x))
    → (xs : Items R) → AllOf (Read c strings L) (each_item (λ x. operand_places (of x)) xs) → each_item (λ x. operand_codes (names_at c strings) L (of x)) xs ≡ [] → AllItems Good xs
    → AllOf (IsOperand c locals) (items_of (λ x. operand_named (names_at c strings) L (of x)) xs)
items-written c strings L locals given of Good as-good end h codes good = tt
items-written c strings L locals given of Good as-good (last x) h codes good =
    (operand_written c strings L locals given (of x) (all-left (Read c strings L) (operand_places (of x)) [] h) (append_empty-left (operand_codes (names_at c strings) L (of x)) [] codes) (as-good x good), tt)
items-written c strings L locals given of Good as-good (more x xs) h codes good = (
  operand_written c strings L locals given (of x) (all-left (Read c strings L) (operand_places (of x)) _ h) (append_empty-left (operand_codes (names_at c strings) L (of x)) _ codes) (as-good x good.0),
  items-written c strings L locals given of Good as-good xs (all-right (Read c strings L) (operand_places (of x)) _ h) (append_empty-right (operand_codes (names_at c strings) L (of x)) _ codes) good.1,
)

pub operands_written : (c : Crate) (strings : Strings) (L : Declared) (locals : List Tree) → Given c strings L locals → (xs : Items OperandRule) → AllOf (Read c strings L) (each_item operand_places xs)
    → each_item (operand_codes (names_at c strings) L) xs ≡ [] → AllItems OperandGood xs → AllOf (IsOperand c locals) (items_of (operand_named (names_at c strings) L) xs)
operands_written c strings L locals given xs h codes good = items-written c strings L locals given (λ x. x) OperandGood (λ x is. is) xs h codes good

parts-written : (c : Crate) (strings : Strings) (L : Declared) (locals : List Tree) → Given c strings L locals → (x : BuildRule) → AllOf (Read c strings L) (parts_places x)
    → parts_codes (names_at c strings) L x ≡ [] → PartsGood x → AllOf (IsOperand c locals) (parts_named (names_at c strings) L x)
parts-written c strings L locals given r.plain h codes good = tt
parts-written c strings L locals given (r.tupled xs) h codes good = operands_written c strings L locals given xs h codes good
parts-written c strings L locals given (r.labelled xs) h codes good = items-written c strings L locals given (λ x. x.1) NamedGood (λ x is. is) xs h codes good

-- ---- builds

-- what a path builds: a struct, or a variant of an enum
record Builds (c : Crate) (d k : ℕ) : Type 0 where
  pub def : IsDef c d
  pub one : k < length (def_at c d).variants
  pub named : IsOne c d k (def_at c d).is_enum

-- without its last name
front-by : (strings : Strings) (n : ℕ) (q front : PathRule) (o : Option PathRule) → without_last q ≡ o → within n o ≡ Some front
    → ((f : PathRule) → without_last q ≡ Some f → path_bytes strings q ≡ path_bytes strings f ++ (codes "::" ++ string_at strings (last_name q)))
    → string_at strings n ++ codes "::" ++ path_bytes strings q ≡ path_bytes strings front ++ (codes "::" ++ string_at strings (last_name q))
front-by strings n q front None e h later = absurd cc
front-by strings n q front (Some f) e h later =
    let is : t.name_in n f ≡ front = cc in
    ap (λ l. string_at strings n ++ codes "::" ++ l) (later f e) ∙ sym (append_assoc (string_at strings n ++ codes "::") (path_bytes strings f) (codes "::" ++ string_at strings (last_name q)))
    ∙ ap (λ x. path_bytes strings x ++ (codes "::" ++ string_at strings (last_name q))) is

front-bytes : (strings : Strings) (q front : PathRule) → without_last q ≡ Some front → path_bytes strings q ≡ path_bytes strings front ++ (codes "::" ++ string_at strings (last_name q))
front-bytes strings (t.name n) front h = absurd cc
front-bytes strings (t.name_in n (t.name k)) front h =
    let e : t.name n ≡ front = cc in
    append_assoc (string_at strings n) (codes "::") (string_at strings k) ∙ ap (λ f. path_bytes strings f ++ (codes "::" ++ string_at strings k)) e
front-bytes strings (t.name_in n (t.name_in k q)) front h = front-by strings n (t.name_in k q) front (without_last (t.name_in k q)) refl h (λ f e. front-bytes strings (t.name_in k q) f e)

pair-same : (x y : ℕ × ℕ) → Some x ≡ Some y → (x.0 ≡ y.0) × (x.1 ≡ y.1)
pair-same x y h = let e : x ≡ y = cc in (ap (λ z. z.0) e, ap (λ z. z.1) e)

-- what a struct at a number is built as
abbrev made : TypedDef → ℕ → Option (ℕ × ℕ)
made x e = if x.is_enum then None else Some (e, 0)

plain-struct : (x : TypedDef) (b : Bool) (e d k : ℕ) → x.is_enum ≡ b → made x e ≡ Some (d, k) → (x.is_enum ≡ false) × (e ≡ d) × (0 ≡ k)
plain-struct x true e d k f h = let n = rw f at h in absurd cc
plain-struct x false e d k f h = let n = rw f at h in let both = pair-same (e, 0) (d, k) n in (f, both.0, both.1)

struct-by : (c : Crate) (strings : Strings) (bytes : List ℕ) (d k : ℕ) → DefsKnown c → (place_in (crate_paths c) bytes >>= struct_at (names_at c strings)) ≡ Some (d, k) → k < length (def_at c d).variants → Builds c d k
unfolding ◌>>=◌
struct-by c strings bytes d k known h one =
    let (e, f, g) = bind_some h in
    let (x, e1, e2) = bind_some g in
    let is = plain-struct x x.is_enum e d k refl e2 in
    let at = at-place no_def c.defs e x e1 in
    let same : e ≡ d = is.1 in
    let flag : (def_at c d).is_enum ≡ false = ap (λ n. (def_at c n).is_enum) (sym same) ∙ ap (λ y. y.is_enum) at.1 ∙ is.0 in
    let def = subst (IsDef c) same (def_there c bytes e known.paths f) in
    record { def = def; one = one; named = subst (IsOne c d k) (sym flag) (sym is.2) }

-- the variant of an enum at a number
enum-one : (c : Crate) (strings : Strings) (bytes : List ℕ) (e d k : ℕ) → enum_variant_at (names_at c strings) bytes e ≡ Some (d, k) → (e ≡ d) × ((x : TypedDef) × (slice_get c.defs d ≡ Some x) × (variant_in bytes x ≡ Some k))
unfolding ◌>>=◌
enum-one c strings bytes e d k h =
    let (x, e1, e2) = bind_some h in
    let (m, f1, f2) = bind_some e2 in
    let both = pair-same (e, m) (d, k) f2 in
    (both.0, (x, ap (slice_get c.defs) (sym both.0) ∙ e1, f1 ∙ ap Some both.1))

enum-by : (c : Crate) (strings : Strings) (q : PathRule) (d k : ℕ) → DefsKnown c → (place_in (crate_paths c) (path_bytes strings q) >>= struct_at (names_at c strings)) ≡ None
    → (without_last q >>= λ front. place_in (crate_paths c) (path_bytes strings front) >>= enum_variant_at (names_at c strings) (string_at strings (last_name q))) ≡ Some (d, k) → k < length (def_at c d).variants → Builds c d k
unfolding ◌>>=◌
enum-by c strings q d k known none h one =
    let (front, f1, f2) = bind_some h in
    let (e, g1, g2) = bind_some f2 in
    let is = enum-one c strings (string_at strings (last_name q)) e d k g2 in
    let (x, x1, x2) = is.1 in
    let at = at-place no_def c.defs d x x1 in
    let v = variant-by x (string_at strings (last_name q)) k x.is_enum refl x2 in
    let flag : (def_at c d).is_enum ≡ true = ap (λ y. y.is_enum) at.1 ∙ v.enum in
    let name : (variant_at c d k).name ≡ string_at strings (last_name q) = ap (λ y. (get_or y.variants k no_variant).name) at.1 ∙ v.name in
    let def = subst (IsDef c) is.0 (def_there c (path_bytes strings front) e known.paths g1) in
    let same-place : place_in (crate_paths c) (path_bytes strings front) ≡ Some d = g1 ∙ ap Some is.0 in
    let path = path-of c (path_bytes strings front) d same-place in
    let bytes : path_bytes strings q ≡ (def_at c d).path ++ (codes "::" ++ (variant_at c d k).name) =
    front-bytes strings q front f1 ∙ two-same (λ a b. a ++ (codes "::" ++ b)) (sym path) (sym name) in
    let found : variant_in (variant_at c d k).name (def_at c d) ≡ Some k = two-same variant_in name at.1 ∙ x2 in
    record {
      def = def;
      one = one;
      named = subst (IsOne c d k) (sym flag)
          (known.variants d k at.0 one flag, found, λ any. ap (λ l. place_in (crate_paths c) l >>= struct_at (names_at c any)) (sym bytes) ∙ none);
    }

built-by : (c : Crate) (strings : Strings) (q : PathRule) (d k : ℕ) (o : Option (ℕ × ℕ)) → DefsKnown c → (place_in (crate_paths c) (path_bytes strings q) >>= struct_at (names_at c strings)) ≡ o
    → built_by (names_at c strings) q ≡ Some (d, k) → k < length (def_at c d).variants → Builds c d k
built-by c strings q d k (Some x) known e h one = let same : Some x ≡ Some (d, k) = rw e at h in struct-by c strings (path_bytes strings q) d k known (e ∙ same) one
built-by c strings q d k None known e h one = enum-by c strings q d k known e (rw e at h) one

-- ---- the form of a build

def-number : (xs : List TypedDef) (n : ℕ) (x : TypedDef) → def_number xs n ≡ Some x → (n < length xs) × (get_or xs n no_def ≡ x)
def-number [] n x h = absurd cc
def-number (y ∷ xs) zero x h = (omega arith, cc)
def-number (y ∷ xs) (suc n) x h = let k = def-number xs n x h in let less = k.0 in (omega (arith, less), k.1)

variant-number : (xs : List TypedVariant) (n : ℕ) (x : TypedVariant) → variant_number xs n ≡ Some x → (n < length xs) × (get_or xs n no_variant ≡ x)
variant-number [] n x h = absurd cc
variant-number (y ∷ xs) zero x h = (omega arith, cc)
variant-number (y ∷ xs) (suc n) x h = let k = variant-number xs n x h in let less = k.0 in (omega (arith, less), k.1)

same-length : (a b : List (List ℕ)) → same_texts a b ≡ true → length a ≡ length b
same-length [] [] h = refl
same-length [] (y ∷ ys) h = absurd cc
same-length (x ∷ xs) [] h = absurd cc
same-length (x ∷ xs) (y ∷ ys) h = ap suc (same-length xs ys (and_true-right (bytes_eq x y) (same_texts xs ys) h))

items-length : {R A B : Type 0} (f : R → A) (h : R → B) (xs : Items R) → length (items_of f xs) ≡ length (items_of h xs)
items-length f h end = refl
items-length f h (last x) = refl
items-length f h (more x xs) = ap suc (items-length f h xs)

fields-length : (fs : List TypedField) → length (field_names fs) ≡ length fs
fields-length [] = refl
fields-length (f ∷ fs) = ap suc (fields-length fs)

as-many : (c : Crate) (strings : Strings) (L : Declared) (kind : Form) (fs : List TypedField) (x : BuildRule) → AreFields kind fs → has_form (names_at c strings) kind fs x ≡ true
    → AreAsMany kind (length (parts_named (names_at c strings) L x)) (length fs)
as-many c strings L form.Unit fs r.plain is h = sym (ap length is)
as-many c strings L form.Unit fs (r.tupled xs) is h = absurd cc
as-many c strings L form.Unit fs (r.labelled xs) is h = absurd cc
as-many c strings L form.Tuple fs x is h = tt
as-many c strings L form.Named fs r.plain is h = absurd cc
as-many c strings L form.Named fs (r.tupled xs) is h = absurd cc
as-many c strings L form.Named fs (r.labelled xs) is h =
    items-length (λ x. operand_named (names_at c strings) L x.1) (λ x. string_at strings x.0) xs ∙ same-length _ _ h ∙ fields-length fs

-- the variant that is built, where the form fits
record Fits (c : Crate) (strings : Strings) (x : BuildRule) (d k : ℕ) : Type 0 where
  pub there : d < length c.defs
  pub one : k < length (def_at c d).variants
  pub form : has_form (names_at c strings) (variant_at c d k).form (variant_at c d k).fields x ≡ true

fits-by : (c : Crate) (strings : Strings) (x : BuildRule) (d k : ℕ) (o : Option TypedVariant) → built_variant (names_at c strings) (d, k) ≡ o → variant_fits (names_at c strings) x o ≡ true → Fits c strings x d k
unfolding ◌>>=◌
fits-by c strings x d k None e h = absurd cc
fits-by c strings x d k (Some v) e h =
    let (y, f1, f2) = bind_some e in
    let at = def-number c.defs d y f1 in
    let it = variant-number y.variants k v f2 in
    let same : variant_at c d k ≡ v = ap (λ z. get_or z.variants k no_variant) at.1 ∙ it.1 in
    record {
      there = at.0;
      one = subst (λ z. k < length z.variants) (sym at.1) it.0;
      form = ap (λ w. has_form (names_at c strings) w.form w.fields x) same ∙ h;
    }

build-by : (c : Crate) (strings : Strings) (L : Declared) (locals : List Tree) → Given c strings L locals → (q : PathRule) (x : BuildRule) (o : Option (ℕ × ℕ)) → built_by (names_at c strings) q ≡ o
    → variant_fits (names_at c strings) x (o >>= built_variant (names_at c strings)) ≡ true → AllOf (IsOperand c locals) (parts_named (names_at c strings) L x)
    → IsBuild c locals (or_first o).0 (or_first o).1 (parts_named (names_at c strings) L x)
unfolding ◌>>=◌
build-by c strings L locals given q x None e h all = absurd cc
build-by c strings L locals given q x (Some (d, k)) e h all =
    let fit = fits-by c strings x d k (built_variant (names_at c strings) (d, k)) refl h in
    let b = built-by c strings q d k _ given.defs refl e fit.one in
    record {
      def = b.def;
      one = b.one;
      named = b.named;
      fields = given.defs.fields d k fit.there fit.one;
      count = as-many c strings L (variant_at c d k).form (variant_at c d k).fields x (given.defs.fields d k fit.there fit.one) fit.form;
      operands = all;
    }

-- ---- rvalues

pub rvalue_written : (c : Crate) (strings : Strings) (L : Declared) (locals : List Tree) → Given c strings L locals → (x : RvalueRule) → AllOf (Read c strings L) (rvalue_places x)
    → rvalue_codes (names_at c strings) L x ≡ [] → RvalueGood x → IsRvalue c locals (rvalue_named (names_at c strings) L x)
unfolding IsRvalue IsOperand
rvalue_written c strings L locals given (r.«use» x) h codes good = operand_written c strings L locals given x h codes good
rvalue_written c strings L locals given (r.cast x u) h codes good = (
  operand_written c strings L locals given x h (append_empty-left (operand_codes (names_at c strings) L x) _ codes) good.0,
  ty_written c strings given.defs.paths u (unless_met _ 12 (append_empty-right (operand_codes (names_at c strings) L x) _ codes)) good.1,
)
rvalue_written c strings L locals given (r.binary op x y) h codes good = (
  operand_written c strings L locals given x (all-left (Read c strings L) (operand_places x) (operand_places y) h) (append_empty-left (operand_codes (names_at c strings) L x) _ codes) good.0,
  operand_written c strings L locals given y (all-right (Read c strings L) (operand_places x) (operand_places y) h) (append_empty-right (operand_codes (names_at c strings) L x) _ codes) good.1,
)
rvalue_written c strings L locals given (r.overflow op x y) h codes good = (
  operand_written c strings L locals given x (all-left (Read c strings L) (operand_places x) (operand_places y) h) (append_empty-left (operand_codes (names_at c strings) L x) _ codes) good.0,
  operand_written c strings L locals given y (all-right (Read c strings L) (operand_places x) (operand_places y) h) (append_empty-right (operand_codes (names_at c strings) L x) _ codes) good.1,
)
rvalue_written c strings L locals given (r.unary op x) h codes good = operand_written c strings L locals given x h codes good
rvalue_written c strings L locals given (r.reference true q) h codes good = place_written c strings L locals given q h.0 codes good
rvalue_written c strings L locals given (r.reference false q) h codes good = place_written c strings L locals given q h.0 codes good
rvalue_written c strings L locals given (r.discriminant q) h codes good = place_written c strings L locals given q h.0 codes good
rvalue_written c strings L locals given r.nothing h codes good = tt
rvalue_written c strings L locals given (r.tuple_of x xs) h codes good = (
  operand_written c strings L locals given x (all-left (Read c strings L) (operand_places x) (each_item operand_places xs) h) (append_empty-left (operand_codes (names_at c strings) L x) _ codes) (first_good x good.0),
  operands_written c strings L locals given xs (all-right (Read c strings L) (operand_places x) (each_item operand_places xs) h) (append_empty-right (operand_codes (names_at c strings) L x) _ codes) good.1,
)
rvalue_written c strings L locals given (r.build q x) h codes good =
    let own = append_empty-left (build_codes (names_at c strings) q x) (parts_codes (names_at c strings) L x) codes in
    let parts = append_empty-right (build_codes (names_at c strings) q x) (parts_codes (names_at c strings) L x) codes in
    build-by c strings L locals given q x (built_by (names_at c strings) q) refl (unless_met _ 13 own) (parts-written c strings L locals given x h parts good)
