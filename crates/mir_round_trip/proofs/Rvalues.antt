-- Rvalues: the rule that writes one, its text, and back.
use Rattle.mir_round_trip.specs.Names.{IsTy}
use Rattle.mir_round_trip.specs.Bodies.{AreParts, IsRvalue, names_at, IsOperand}
use Rattle.std.proofs.Common.{◌≡◌, ◌≤◌, true, false, List, [], ◌∷◌, codes, refl, sym, ap, subst, ◌∙◌}
use Rattle.mir_syntax.specs.declared.body.BinOp.{BinOp}
use Rattle.mir_syntax.specs.declared.body.BinOp.TheVariants as bin
use Rattle.mir_syntax.specs.declared.body.OverOp.{OverOp}
use Rattle.mir_syntax.specs.declared.body.OverOp.TheVariants as over
use Rattle.mir_syntax.specs.declared.body.UnOp.{UnOp}
use Rattle.mir_syntax.specs.declared.body.UnOp.TheVariants as un
use Rattle.mir_syntax.specs.declared.body.Operand.{Operand}
use Rattle.mir_syntax.specs.declared.body.Operand.TheVariants as operand
use Rattle.mir_syntax.specs.Tree.{Tree}
use Rattle.mir_syntax.specs.Crate as C
use Rattle.mir_syntax.specs.Crate.{Crate, TypedRvalue}
use Rattle.mir_rules.proofs.Lists.{append_empty}
use Rattle.mir_text.specs.declared.symbol.Symbol.{Symbol}
use Rattle.mir_text.specs.declared.symbol.Symbol.TheVariants as s
use Rattle.mir_text.specs.Words.{word_place}
use Rattle.mir_text.specs.Symbols.{word_token, block_digits}
use Rattle.mir_text.specs.Grammar.{items_put}
use Rattle.mir_text.specs.GrammarPlaces.{operand_put}
use Rattle.mir_text.specs.GrammarStatements as r
use Rattle.mir_text.specs.GrammarStatements.{RvalueRule, pair_put, rvalue_put}
use Rattle.mir_text.specs.Names.{Strings}
use Rattle.mir_text.specs.NamedBodies.{Declared, or_first, build_named, rvalue_named}
use Rattle.mir_text.specs.NameFaults.{operand_codes, rvalue_codes}
use Rattle.mir_text.specs.Nesting.{OperandGood, FirstGood, TypeGood, RvalueGood}
use Rattle.mir_text.specs.TypeText.{piece, more_items, def_at}
use Rattle.mir_text.specs.PlaceText.{variant_at, operand_text}
use Rattle.mir_text.specs.StatementText.{binary_name, over_name, unary_name, tuple_text, pair_text, rvalue_text}
use Rattle.mir_round_trip.proofs.Spelling.{Spelt, after, and_then, alone, bare, put_as}
use Rattle.mir_round_trip.proofs.Atoms.{word_spelt}
use Rattle.mir_round_trip.proofs.Literals.{open_sign, close_sign, comma_space, comma_close, as_word, cast_end, ampersand_sign, ampersand_mut, discriminant_open}
use Rattle.mir_round_trip.proofs.Types.{type_rule, type_spelt, type_back, depth_kept}
use Rattle.mir_round_trip.proofs.Places.{place_rule, place_spelt}
use Rattle.mir_round_trip.proofs.PlacesBack.{Setting, type_faultless, place_back, place_faultless, place_good}
use Rattle.mir_round_trip.proofs.Operands.{operand_rule, operand_spelt, operand_back, operand_faultless, operand_good}
use Rattle.mir_round_trip.proofs.Lists.{items_rule, tail_put, join-put, join-tail, more_spelt, items-all, each-item-none}
use Rattle.mir_round_trip.proofs.Builds.{parts_rule, built_path, operands-spelt, build_spelt}
use Rattle.mir_round_trip.proofs.BuildsBack.{build-named, build-parts, build-faultless, operands-back, operands-faultless, operands-good, parts-faultless, parts-good}

-- ---- operators

binary-spelt : (op : BinOp) → Spelt (binary_name op) (λ strings rest. s.Binary op ∷ rest) []
unfolding binary_name word_token block_digits word_place
binary-spelt bin.Add = word_spelt 65 (codes "dd") (s.Binary bin.Add) refl refl refl
binary-spelt bin.Sub = word_spelt 83 (codes "ub") (s.Binary bin.Sub) refl refl refl
binary-spelt bin.Mul = word_spelt 77 (codes "ul") (s.Binary bin.Mul) refl refl refl
binary-spelt bin.Div = word_spelt 68 (codes "iv") (s.Binary bin.Div) refl refl refl
binary-spelt bin.Rem = word_spelt 82 (codes "em") (s.Binary bin.Rem) refl refl refl
binary-spelt bin.BitXor = word_spelt 66 (codes "itXor") (s.Binary bin.BitXor) refl refl refl
binary-spelt bin.BitAnd = word_spelt 66 (codes "itAnd") (s.Binary bin.BitAnd) refl refl refl
binary-spelt bin.BitOr = word_spelt 66 (codes "itOr") (s.Binary bin.BitOr) refl refl refl
binary-spelt bin.Shl = word_spelt 83 (codes "hl") (s.Binary bin.Shl) refl refl refl
binary-spelt bin.Shr = word_spelt 83 (codes "hr") (s.Binary bin.Shr) refl refl refl
binary-spelt bin.Eq = word_spelt 69 (codes "q") (s.Binary bin.Eq) refl refl refl
binary-spelt bin.Ne = word_spelt 78 (codes "e") (s.Binary bin.Ne) refl refl refl
binary-spelt bin.Lt = word_spelt 76 (codes "t") (s.Binary bin.Lt) refl refl refl
binary-spelt bin.Le = word_spelt 76 (codes "e") (s.Binary bin.Le) refl refl refl
binary-spelt bin.Gt = word_spelt 71 (codes "t") (s.Binary bin.Gt) refl refl refl
binary-spelt bin.Ge = word_spelt 71 (codes "e") (s.Binary bin.Ge) refl refl refl
binary-spelt bin.AddUnchecked = word_spelt 65 (codes "ddUnchecked") (s.Binary bin.AddUnchecked) refl refl refl
binary-spelt bin.SubUnchecked = word_spelt 83 (codes "ubUnchecked") (s.Binary bin.SubUnchecked) refl refl refl
binary-spelt bin.MulUnchecked = word_spelt 77 (codes "ulUnchecked") (s.Binary bin.MulUnchecked) refl refl refl

over-spelt : (op : OverOp) → Spelt (over_name op) (λ strings rest. s.Over op ∷ rest) []
unfolding over_name word_token block_digits word_place
over-spelt over.Add = word_spelt 65 (codes "ddWithOverflow") (s.Over over.Add) refl refl refl
over-spelt over.Sub = word_spelt 83 (codes "ubWithOverflow") (s.Over over.Sub) refl refl refl
over-spelt over.Mul = word_spelt 77 (codes "ulWithOverflow") (s.Over over.Mul) refl refl refl

unary-spelt : (op : UnOp) → Spelt (unary_name op) (λ strings rest. s.Unary op ∷ rest) []
unfolding unary_name word_token block_digits word_place
unary-spelt un.Not = word_spelt 78 (codes "ot") (s.Unary un.Not) refl refl refl
unary-spelt un.Neg = word_spelt 78 (codes "eg") (s.Unary un.Neg) refl refl refl

-- ---- the rule

-- the tuple of operands, at least one
abbrev pub tuple_rule : Crate → Strings → List Tree → List Operand → RvalueRule
tuple_rule c strings locals [] = r.nothing
tuple_rule c strings locals (x ∷ xs) = r.tuple_of (operand_rule c strings locals x) (items_rule (operand_rule c strings locals) xs)

unfoldable pub rvalue_rule : Crate → Strings → List Tree → TypedRvalue → RvalueRule
rvalue_rule c strings locals (C.«use» x) = r.«use» (operand_rule c strings locals x)
rvalue_rule c strings locals (C.binary op x y) = r.binary op (operand_rule c strings locals x) (operand_rule c strings locals y)
rvalue_rule c strings locals (C.overflow op x y) = r.overflow op (operand_rule c strings locals x) (operand_rule c strings locals y)
rvalue_rule c strings locals (C.unary op x) = r.unary op (operand_rule c strings locals x)
rvalue_rule c strings locals (C.cast x t) = r.cast (operand_rule c strings locals x) (type_rule c strings t)
rvalue_rule c strings locals (C.ref q) = r.reference false (place_rule c strings locals q)
rvalue_rule c strings locals (C.ref_mut q) = r.reference true (place_rule c strings locals q)
rvalue_rule c strings locals (C.discriminant q) = r.discriminant (place_rule c strings locals q)
rvalue_rule c strings locals (C.tuple xs) = tuple_rule c strings locals xs
rvalue_rule c strings locals (C.build d k xs) =
    r.build (built_path strings (def_at c d).is_enum (def_at c d).path (variant_at c d k).name) (parts_rule c strings locals (variant_at c d k).form (variant_at c d k).fields xs)

-- ---- rvalues that a text writes

-- ---- its text

pair-spelt : (c : Crate) (locals : List Tree) (x y : Operand) → IsOperand c locals x → IsOperand c locals y
    → Spelt (pair_text c locals x y) (λ strings. pair_put (operand_rule c strings locals x) (operand_rule c strings locals y)) []
unfolding pair_text piece
pair-spelt c locals x y h k = after open_sign (and_then (operand_spelt c locals x h) (λ left clear. refl) (after comma_space (and_then (operand_spelt c locals y k) (λ left clear. refl) (alone close_sign))))

-- behind the first operand stand a comma and the others
tail-more : (c : Crate) (strings : Strings) (locals : List Tree) (y : Operand) (ys : List Operand) (rest : List Symbol)
    → tail_put operand_put s.Close (items_rule (operand_rule c strings locals) (y ∷ ys)) rest ≡ s.Comma ∷ items_put operand_put s.Close (items_rule (operand_rule c strings locals) (y ∷ ys)) rest
tail-more c strings locals y ys rest =
    join-tail operand_put s.Close (operand_rule c strings locals y) (items_rule (operand_rule c strings locals) ys) rest
    ∙ ap (λ l. s.Comma ∷ l) (sym (join-put operand_put s.Close (operand_rule c strings locals y) (items_rule (operand_rule c strings locals) ys) rest))

tuple-spelt : (c : Crate) (locals : List Tree) (xs : List Operand) → AreParts c locals xs → Spelt (tuple_text c locals xs) (λ strings. rvalue_put (tuple_rule c strings locals xs)) []
unfolding tuple_text more_items piece
tuple-spelt c locals [] h = absurd h
tuple-spelt c locals (x ∷ []) h = after open_sign (and_then (operand_spelt c locals x h.0) (λ left clear. refl) (alone comma_close))
tuple-spelt c locals (x ∷ y ∷ ys) h =
    let others = more_spelt (operand_text c locals) operand_put (λ strings. operand_rule c strings locals) (λ z. []) s.Close (codes ")") (λ strings rest. rest) [] (λ left clear. refl) (alone close_sign) (y ∷ ys) (operands-spelt c locals (y ∷ ys) h.1) in
    put_as (λ strings ground rest. ap (λ l. s.Open ∷ operand_put (operand_rule c strings locals x) l) (tail-more c strings locals y ys rest))
    (bare (after open_sign (and_then (operand_spelt c locals x h.0) (λ left clear. refl) others)))

pub rvalue_spelt : (c : Crate) (locals : List Tree) (x : TypedRvalue) → IsRvalue c locals x → Spelt (rvalue_text c locals x) (λ strings. rvalue_put (rvalue_rule c strings locals x)) []
unfolding rvalue_text rvalue_rule IsRvalue pair_text piece
rvalue_spelt c locals (C.«use» x) h = operand_spelt c locals x h
rvalue_spelt c locals (C.binary op x y) h = and_then (binary-spelt op) (λ left clear. refl) (pair-spelt c locals x y h.0 h.1)
rvalue_spelt c locals (C.overflow op x y) h = and_then (over-spelt op) (λ left clear. refl) (pair-spelt c locals x y h.0 h.1)
rvalue_spelt c locals (C.unary op x) h = and_then (unary-spelt op) (λ left clear. refl) (after open_sign (and_then (operand_spelt c locals x h) (λ left clear. refl) (alone close_sign)))
rvalue_spelt c locals (C.cast x t) h = and_then (operand_spelt c locals x h.0) (λ left clear. refl) (after as_word (and_then (type_spelt c t h.1.proper) (λ left clear. refl) (alone cast_end)))
rvalue_spelt c locals (C.ref q) h = after ampersand_sign (place_spelt c locals q h)
rvalue_spelt c locals (C.ref_mut q) h = after ampersand_mut (place_spelt c locals q h)
rvalue_spelt c locals (C.discriminant q) h = after discriminant_open (and_then (place_spelt c locals q h) (λ left clear. refl) (alone close_sign))
rvalue_spelt c locals (C.tuple xs) h = tuple-spelt c locals xs h
rvalue_spelt c locals (C.build d k xs) h = build_spelt c locals d k xs h

-- ---- back

pub two-same : {A B D : Type 0} (f : A → B → D) {a x : A} {b y : B} → a ≡ x → b ≡ y → f a b ≡ f x y
two-same f {x = x} {b = b} e h = ap (λ z. f z b) e ∙ ap (f x) h

tuple-back : (c : Crate) (strings : Strings) (L : Declared) (locals : List Tree) → Setting c strings L locals → (xs : List Operand) → AreParts c locals xs
    → rvalue_named (names_at c strings) L (tuple_rule c strings locals xs) ≡ C.tuple xs
tuple-back c strings L locals set [] h = absurd h
tuple-back c strings L locals set (x ∷ xs) h = two-same (λ y ys. C.tuple (y ∷ ys)) (operand_back c strings L locals set x h.0) (operands-back c strings L locals set xs h.1)

pub rvalue_back : (c : Crate) (strings : Strings) (L : Declared) (locals : List Tree) → Setting c strings L locals → (x : TypedRvalue) → IsRvalue c locals x
    → rvalue_named (names_at c strings) L (rvalue_rule c strings locals x) ≡ x
unfolding rvalue_rule IsRvalue
rvalue_back c strings L locals set (C.«use» x) h = ap C.«use» (operand_back c strings L locals set x h)
rvalue_back c strings L locals set (C.binary op x y) h = two-same (C.binary op) (operand_back c strings L locals set x h.0) (operand_back c strings L locals set y h.1)
rvalue_back c strings L locals set (C.overflow op x y) h = two-same (C.overflow op) (operand_back c strings L locals set x h.0) (operand_back c strings L locals set y h.1)
rvalue_back c strings L locals set (C.unary op x) h = ap (C.unary op) (operand_back c strings L locals set x h)
rvalue_back c strings L locals set (C.cast x t) h = two-same C.cast (operand_back c strings L locals set x h.0) (type_back c strings set.kept.paths t h.1.proper)
rvalue_back c strings L locals set (C.ref q) h = ap C.ref (place_back c strings L locals set q h)
rvalue_back c strings L locals set (C.ref_mut q) h = ap C.ref_mut (place_back c strings L locals set q h)
rvalue_back c strings L locals set (C.discriminant q) h = ap C.discriminant (place_back c strings L locals set q h)
rvalue_back c strings L locals set (C.tuple xs) h = tuple-back c strings L locals set xs h
rvalue_back c strings L locals set (C.build d k xs) h =
    two-same (λ o ys. build_named (or_first o) ys) (build-named c strings set.kept locals d k xs h) (build-parts c strings L locals set d k xs h)

-- ---- no fault

tuple-faultless : (c : Crate) (strings : Strings) (L : Declared) (locals : List Tree) → Setting c strings L locals → (xs : List Operand) → AreParts c locals xs
    → rvalue_codes (names_at c strings) L (tuple_rule c strings locals xs) ≡ []
tuple-faultless c strings L locals set [] h = refl
tuple-faultless c strings L locals set (x ∷ xs) h =
    append_empty _ _ (operand_faultless c strings L locals set x h.0)
    (each-item-none (operand_codes (names_at c strings) L) (operand_rule c strings locals) xs (operands-faultless c strings L locals set xs h.1))

pub rvalue_faultless : (c : Crate) (strings : Strings) (L : Declared) (locals : List Tree) → Setting c strings L locals → (x : TypedRvalue) → IsRvalue c locals x
    → rvalue_codes (names_at c strings) L (rvalue_rule c strings locals x) ≡ []
unfolding rvalue_rule IsRvalue
rvalue_faultless c strings L locals set (C.«use» x) h = operand_faultless c strings L locals set x h
rvalue_faultless c strings L locals set (C.binary op x y) h = append_empty _ _ (operand_faultless c strings L locals set x h.0) (operand_faultless c strings L locals set y h.1)
rvalue_faultless c strings L locals set (C.overflow op x y) h = append_empty _ _ (operand_faultless c strings L locals set x h.0) (operand_faultless c strings L locals set y h.1)
rvalue_faultless c strings L locals set (C.unary op x) h = operand_faultless c strings L locals set x h
rvalue_faultless c strings L locals set (C.cast x t) h = append_empty _ _ (operand_faultless c strings L locals set x h.0) (type_faultless c strings set.kept t h.1.proper)
rvalue_faultless c strings L locals set (C.ref q) h = place_faultless c strings L locals set q h
rvalue_faultless c strings L locals set (C.ref_mut q) h = place_faultless c strings L locals set q h
rvalue_faultless c strings L locals set (C.discriminant q) h = place_faultless c strings L locals set q h
rvalue_faultless c strings L locals set (C.tuple xs) h = tuple-faultless c strings L locals set xs h
rvalue_faultless c strings L locals set (C.build d k xs) h =
    append_empty _ _ (build-faultless c strings set.kept locals d k xs h) (parts-faultless c strings L locals set (variant_at c d k).form (variant_at c d k).fields xs h.operands)

-- ---- good

pub ty_good : (c : Crate) (strings : Strings) (t : Tree) → IsTy c t → TypeGood (type_rule c strings t)
ty_good c strings t h = subst (λ n. n ≤ 65) (sym (depth_kept c strings t)) h.depth

first-good : (c : Crate) (strings : Strings) (locals : List Tree) (x : Operand) → OperandGood (operand_rule c strings locals x) → FirstGood (operand_rule c strings locals x)
unfolding operand_rule
first-good c strings locals (operand.Copy q) h = h
first-good c strings locals (operand.Move q) h = h
first-good c strings locals (operand.Const x) h = h

tuple-good : (c : Crate) (strings : Strings) (locals : List Tree) (xs : List Operand) → AreParts c locals xs → RvalueGood (tuple_rule c strings locals xs)
tuple-good c strings locals [] h = tt
tuple-good c strings locals (x ∷ xs) h =
    (first-good c strings locals x (operand_good c strings locals x h.0), items-all OperandGood (operand_rule c strings locals) xs (operands-good c strings locals xs h.1))

pub rvalue_good : (c : Crate) (strings : Strings) (locals : List Tree) (x : TypedRvalue) → IsRvalue c locals x → RvalueGood (rvalue_rule c strings locals x)
unfolding rvalue_rule IsRvalue
rvalue_good c strings locals (C.«use» x) h = operand_good c strings locals x h
rvalue_good c strings locals (C.binary op x y) h = (operand_good c strings locals x h.0, operand_good c strings locals y h.1)
rvalue_good c strings locals (C.overflow op x y) h = (operand_good c strings locals x h.0, operand_good c strings locals y h.1)
rvalue_good c strings locals (C.unary op x) h = operand_good c strings locals x h
rvalue_good c strings locals (C.cast x t) h = (operand_good c strings locals x h.0, ty_good c strings t h.1)
rvalue_good c strings locals (C.ref q) h = place_good c strings locals q h
rvalue_good c strings locals (C.ref_mut q) h = place_good c strings locals q h
rvalue_good c strings locals (C.discriminant q) h = place_good c strings locals q h
rvalue_good c strings locals (C.tuple xs) h = tuple-good c strings locals xs h
rvalue_good c strings locals (C.build d k xs) h = parts-good c strings locals (variant_at c d k).form (variant_at c d k).fields xs h.operands
