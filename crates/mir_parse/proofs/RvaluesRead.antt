-- Parsing rvalues is the grammar's rule, both ways.
use Rattle.std.proofs.Common.{◌≡◌, ℕ, ◌≤◌, Bool, true, false, List, [], ◌∷◌, Ok, refl, sym, ap, ap₂, subst, ◌∙◌, arith}
use Rattle.mir_text.specs.declared.symbol.Symbol.{Symbol}
use Rattle.mir_text.specs.declared.symbol.Symbol.TheVariants as s
use Rattle.mir_text.specs.Grammar.{Items, items_put, AllItems}
use Rattle.mir_text.specs.GrammarTypes.{PathRule, name, name_in, path_put, TypeRule, mut_put, type_put}
use Rattle.mir_text.specs.GrammarPlaces.{PlaceRule, local, deref, field, variant_field, field_put, place_put, OperandRule, copy, move, bare, const, operand_put}
use Rattle.mir_text.specs.GrammarStatements.{named_put, BuildRule, plain, tupled, labelled, RvalueRule, «use», cast, binary, overflow, unary, reference, discriminant, nothing, tuple_of, build, pair_put, parts_put, cast_put, rvalue_put}
use Rattle.mir_text.specs.Nesting.{type_depth, PlaceGood, OperandGood, FirstGood, PartsGood, RvalueGood}
use Rattle.mir_tree.specs.declared.ty.TypeText.{TypeText}
use Rattle.mir_tree.specs.declared.operand.PlaceText.{PlaceText}
use Rattle.mir_tree.specs.declared.operand.ProjText.TheVariants as p
use Rattle.mir_tree.specs.declared.operand.OperandText.{OperandText}
use Rattle.mir_tree.specs.declared.operand.OperandText.TheVariants as o
use Rattle.mir_tree.specs.declared.rvalue.RvalueText.{RvalueText}
use Rattle.mir_tree.specs.declared.rvalue.RvalueText.TheVariants as r
use Rattle.mir_tree.specs.declared.rvalue.BuildText.{BuildText}
use Rattle.mir_tree.specs.declared.rvalue.BuildText.TheVariants as u
use Rattle.mir_tree.specs.Types.{path_text, type_text}
use Rattle.mir_tree.specs.Bodies.{operand_rule, named_rule, build_rule, rvalue_rule}
use Rattle.mir_tree.proofs.TypesBack.{path-back}
use Rattle.mir_parse.specs.declared.place.BaseText.{BaseText}
use Rattle.mir_parse.specs.declared.place.BaseText.TheVariants as b
use Rattle.mir_parse.specs.Promises.{starts_colons, Semicolon}
use Rattle.mir_parse.specs.Parser.{and_then}
use Rattle.mir_parse.specs.Signs.{close, open_paren, comma, this_name}
use Rattle.mir_parse.specs.Types.{type_text_at, mut_at}
use Rattle.mir_parse.specs.Places.{with_proj, base_at, field_after}
use Rattle.mir_parse.specs.Rvalues.{parts, build as build_at, single, pair, place_single, cast_end, cast_or_use, use_at, tuple_more, tuple, tuple_of as tuple_from, after_first, opened, rvalue}
use Rattle.mir_parse.proofs.PathsRead.{path-complete, path-sound}
use Rattle.mir_parse.proofs.TypesRead.{type-complete, type-sound, type_rule-back, mut-put}
use Rattle.mir_parse.proofs.PlacesRead.{place_text, place-back, BaseRule, place, variant, base_put, base_of, BaseGood, field_rule, place-complete, place-sound, base-sound, as_base, base-complete, field_after-complete, field_after-sound}
use Rattle.mir_parse.proofs.OperandsRead.{operand_text, operand-back, named_text, named-back, IsOperand, operand-complete, operand-sound, operands-complete, operands-sound, nameds-complete, nameds-sound}
use Rattle.mir_parse.proofs.Laws.{in_steps, id_steps, ok_same, IsRead, items_text, items-back, close-sound, open_paren-sound, comma-sound, this_name-sound}

-- ---- the tree of an rvalue

abbrev pub build_text : BuildRule → BuildText
build_text plain = u.Plain
build_text (tupled xs) = u.Tupled (items_text operand_text xs)
build_text (labelled xs) = u.Labelled (items_text named_text xs)

abbrev pub rvalue_text : RvalueRule → RvalueText
rvalue_text («use» x) = r.Use (operand_text x)
rvalue_text (cast x t) = r.Cast (operand_text x) (type_text t)
rvalue_text (binary op x y) = r.Binary op (operand_text x) (operand_text y)
rvalue_text (overflow op x y) = r.Overflow op (operand_text x) (operand_text y)
rvalue_text (unary op x) = r.Unary op (operand_text x)
rvalue_text (reference mut q) = r.Ref mut (place_text q)
rvalue_text (discriminant q) = r.Discriminant (place_text q)
rvalue_text nothing = r.Nothing
rvalue_text (tuple_of x xs) = r.Tuple (operand_text x) (items_text operand_text xs)
rvalue_text (build q x) = r.Build (path_text q) (build_text x)

abbrev pub IsRvalue : List Symbol → RvalueText → List Symbol → Type 0
IsRvalue = IsRead rvalue_put rvalue_text RvalueGood

build-back : (x : BuildRule) → build_rule (build_text x) ≡ x
build-back plain = refl
build-back (tupled xs) = ap tupled (items-back operand_text operand_rule operand-back xs)
build-back (labelled xs) = ap labelled (items-back named_text named_rule named-back xs)

pub rvalue-back : (x : RvalueRule) → rvalue_rule (rvalue_text x) ≡ x
rvalue-back («use» x) = ap «use» (operand-back x)
rvalue-back (cast x t) = ap₂ cast (operand-back x) (type_rule-back t)
rvalue-back (binary op x y) = ap₂ (binary op) (operand-back x) (operand-back y)
rvalue-back (overflow op x y) = ap₂ (overflow op) (operand-back x) (operand-back y)
rvalue-back (unary op x) = ap (unary op) (operand-back x)
rvalue-back (reference mut q) = ap (reference mut) (place-back q)
rvalue-back (discriminant q) = ap discriminant (place-back q)
rvalue-back nothing = refl
rvalue-back (tuple_of x xs) = ap₂ tuple_of (operand-back x) (items-back operand_text operand_rule operand-back xs)
rvalue-back (build q x) = ap₂ build (path-back q) (build-back x)

-- ---- what the grammar puts is read

opened-base : (q : PlaceRule) (rest : List Symbol) → opened (place_put q rest) ≡ and_then (base_at 64 (place_put q rest)) (λ x ts. and_then (after_first x ts) (λ v ts. Ok (v, ts)))
unfolding opened
opened-base (local n) rest = refl
opened-base (deref q) rest = refl
opened-base (field q n t) rest = refl
opened-base (variant_field q name_no n t) rest = refl

after_first-field : (x : BaseRule) (n : ℕ) (t : TypeRule) (rest : List Symbol) → type_depth t ≤ 64 → n ≤ 4294967295
    → after_first (base_of x) (field_put n t rest) ≡ cast_or_use (o.Bare (place_text (field_rule x n t))) rest
unfolding after_first
after_first-field x n t rest h small = rw (field_after-complete 64 x n t rest h small) (id_steps (cast_or_use (o.Bare (place_text (field_rule x n t))) rest))

-- an rvalue that begins with a bare place goes on behind it
rvalue-bare : (q : PlaceRule) (rest : List Symbol) → PlaceGood 65 q → rvalue (place_put q rest) ≡ cast_or_use (o.Bare (place_text q)) rest
unfolding rvalue use_at opened close
rvalue-bare (local n) rest g = rw (operand-complete (bare (local n)) rest g) (id_steps _ ∙ id_steps _)
rvalue-bare (deref q) rest g = rw (place-complete q 64 (s.Close ∷ rest) (omega arith) g.1) (id_steps _ ∙ id_steps _)
rvalue-bare (field q n t) rest g =
    rw (opened-base q (field_put n t rest), as_base q 64 (field_put n t rest) (omega arith) g.1.1, after_first-field (place q) n t rest (omega arith) g.1.0) (id_steps _ ∙ id_steps _)
rvalue-bare (variant_field q name_no n t) rest g =
    rw (base-complete (variant q name_no) 64 (field_put n t rest) (omega arith) g.1.1, after_first-field (variant q name_no) n t rest (omega arith) g.1.0) (id_steps _ ∙ id_steps _)

rvalue-operand : (x : OperandRule) (rest : List Symbol) → OperandGood x → rvalue (operand_put x rest) ≡ cast_or_use (operand_text x) rest
unfolding rvalue use_at
rvalue-operand (copy q) rest g = rw (operand-complete (copy q) rest g) (id_steps _ ∙ id_steps _)
rvalue-operand (move q) rest g = rw (operand-complete (move q) rest g) (id_steps _ ∙ id_steps _)
rvalue-operand (const x) rest g = rw (operand-complete (const x) rest g) (id_steps _ ∙ id_steps _)
rvalue-operand (bare q) rest g = rvalue-bare q rest g

tuple_more-complete : (x : OperandText) (xs : Items OperandRule) (rest : List Symbol) → AllItems OperandGood xs → tuple_more x (items_put operand_put s.Close xs rest) ≡ Ok (r.Tuple x (items_text operand_text xs), rest)
unfolding tuple_more
tuple_more-complete x xs rest g = rw (operands-complete xs rest g) refl

tuple-complete : (x : OperandRule) (xs : Items OperandRule) (rest : List Symbol) → OperandGood x → AllItems OperandGood xs
    → tuple (operand_put x (s.Comma ∷ items_put operand_put s.Close xs rest)) ≡ Ok (r.Tuple (operand_text x) (items_text operand_text xs), rest)
unfolding tuple comma
tuple-complete x xs rest g gs = rw (operand-complete x (s.Comma ∷ items_put operand_put s.Close xs rest) g, tuple_more-complete (operand_text x) xs rest gs) refl

pair-complete : (x y : OperandRule) (rest : List Symbol) → OperandGood x → OperandGood y → pair (pair_put x y rest) ≡ Ok ((operand_text x, operand_text y), rest)
unfolding pair open_paren close comma
pair-complete x y rest g h = rw (operand-complete x (s.Comma ∷ operand_put y (s.Close ∷ rest)) g, operand-complete y (s.Close ∷ rest) h) refl

cast-complete : (x : OperandText) (t : TypeRule) (rest : List Symbol) → type_depth t ≤ 65 → cast_or_use x (cast_put t rest) ≡ Ok (r.Cast x (type_text t), rest)
unfolding cast_or_use cast_end open_paren this_name close
cast-complete x t rest h = rw (type-complete t 65 (s.Open ∷ s.Name 7 ∷ s.Close ∷ rest) h refl) refl

place-not_mut : (q : PlaceRule) (rest : List Symbol) → mut_at (place_put q rest) ≡ (false, place_put q rest)
unfolding mut_at
place-not_mut (local n) rest = refl
place-not_mut (deref q) rest = refl
place-not_mut (field q n t) rest = refl
place-not_mut (variant_field q name_no n t) rest = refl

place-past_mut : (mut : Bool) (q : PlaceRule) (rest : List Symbol) → mut_at (mut_put mut (place_put q rest)) ≡ (mut, place_put q rest)
unfolding mut_at
place-past_mut false q rest = place-not_mut q rest
place-past_mut true q rest = refl

pub parts-complete : (x : BuildRule) (rest : List Symbol) → PartsGood x → parts (parts_put x (s.Semicolon ∷ rest)) ≡ Ok (build_text x, s.Semicolon ∷ rest)
unfolding parts
parts-complete plain rest g = refl
parts-complete (tupled xs) rest g = rw (operands-complete xs (s.Semicolon ∷ rest) g) refl
parts-complete (labelled xs) rest g = rw (nameds-complete xs (s.Semicolon ∷ rest) g) refl

pub parts_no_colons : (x : BuildRule) (rest : List Symbol) → starts_colons (parts_put x (s.Semicolon ∷ rest)) ≡ false
parts_no_colons plain rest = refl
parts_no_colons (tupled xs) rest = refl
parts_no_colons (labelled xs) rest = refl

build-complete : (q : PathRule) (x : BuildRule) (rest : List Symbol) → PartsGood x → build_at (path_put q (parts_put x (s.Semicolon ∷ rest))) ≡ Ok (r.Build (path_text q) (build_text x), s.Semicolon ∷ rest)
unfolding build_at
build-complete q x rest g = rw (path-complete q (parts_put x (s.Semicolon ∷ rest)) (parts_no_colons x rest), parts-complete x rest g) refl

rvalue-path : (q : PathRule) (rest : List Symbol) → rvalue (path_put q rest) ≡ and_then (build_at (path_put q rest)) (λ v ts. Ok (v, ts))
unfolding rvalue
rvalue-path (name n) rest = refl
rvalue-path (name_in n q) rest = refl

pub rvalue-complete : (x : RvalueRule) (rest : List Symbol) → RvalueGood x → rvalue (rvalue_put x (s.Semicolon ∷ rest)) ≡ Ok (rvalue_text x, s.Semicolon ∷ rest)
unfolding rvalue opened single place_single open_paren close cast_or_use after_first
rvalue-complete («use» x) rest g = rvalue-operand x (s.Semicolon ∷ rest) g
rvalue-complete (cast x t) rest g = rvalue-operand x (cast_put t (s.Semicolon ∷ rest)) g.0 ∙ cast-complete (operand_text x) t (s.Semicolon ∷ rest) g.1
rvalue-complete (binary op x y) rest g = rw (pair-complete x y (s.Semicolon ∷ rest) g.0 g.1) refl
rvalue-complete (overflow op x y) rest g = rw (pair-complete x y (s.Semicolon ∷ rest) g.0 g.1) refl
rvalue-complete (unary op x) rest g = rw (operand-complete x (s.Close ∷ s.Semicolon ∷ rest) g) refl
rvalue-complete (reference mut q) rest g = rw (place-past_mut mut q (s.Semicolon ∷ rest), place-complete q 65 (s.Semicolon ∷ rest) g.0 g.1) refl
rvalue-complete (discriminant q) rest g = rw (place-complete q 65 (s.Close ∷ s.Semicolon ∷ rest) g.0 g.1) refl
rvalue-complete nothing rest g = refl
rvalue-complete (tuple_of (copy q) xs) rest g = rw (tuple-complete (copy q) xs (s.Semicolon ∷ rest) g.0 g.1) refl
rvalue-complete (tuple_of (move q) xs) rest g = rw (tuple-complete (move q) xs (s.Semicolon ∷ rest) g.0 g.1) refl
rvalue-complete (tuple_of (const x) xs) rest g = rw (tuple-complete (const x) xs (s.Semicolon ∷ rest) g.0 g.1) refl
rvalue-complete (tuple_of (bare q) xs) rest g =
    let after = s.Comma ∷ items_put operand_put s.Close xs (s.Semicolon ∷ rest) in
    rw (opened-base q after, as_base q 64 after g.0.0 g.0.1, tuple_more-complete (o.Bare (place_text q)) xs (s.Semicolon ∷ rest) g.1) refl
rvalue-complete (build q x) rest g = rw (rvalue-path q (parts_put x (s.Semicolon ∷ rest)), build-complete q x rest g) refl

-- ---- what is read is what the grammar yields

cast_end-sound : {R : Type 0} (ts : List Symbol) (w : TypeText) (rest : List Symbol) → cast_end ts ≡ Ok (w, rest) → ((t : TypeRule) → type_text t ≡ w → ts ≡ type_put t (s.Open ∷ s.Name 7 ∷ s.Close ∷ rest) → type_depth t ≤ 65 → R) → R
unfolding cast_end
cast_end-sound ts w rest h k =
    in_steps _ _ (w, rest) h (λ x past typed h1.
    in_steps _ _ (w, rest) h1 (λ a past1 opens h2.
    in_steps _ _ (w, rest) h2 (λ c past2 named_is h3.
    in_steps _ _ (w, rest) h3 (λ d past3 closes same_h.
    let same = ok_same _ _ same_h in
    let t = type-sound 65 ts x past typed in
    k t.rule (t.reads ∙ ap (λ y. y.0) same)
    (t.yields ∙ ap (type_put t.rule) (open_paren-sound past (a, past1) opens ∙ ap (λ l. s.Open ∷ l) (this_name-sound 7 past1 (c, past2) named_is
    ∙ ap (λ l. s.Name 7 ∷ l) (close-sound past2 (d, past3) closes ∙ ap (λ y. s.Close ∷ y.1) same))))
    t.good))))

-- an operand, and what stands behind it
use_by : (ts past : List Symbol) (x : OperandText) (v : RvalueText) (rest : List Symbol) → IsOperand ts x past → cast_or_use x past ≡ Ok (v, rest) → IsRvalue ts v rest
unfolding cast_or_use
use_by ts [] x v rest first h =
    let same = ok_same _ _ h in
    record { rule = «use» first.rule; reads = ap r.Use first.reads ∙ ap (λ y. y.0) same; yields = first.yields ∙ ap (λ y. operand_put first.rule y.1) same; good = first.good }
use_by ts (s.As ∷ past) x v rest first h =
    in_steps _ _ (v, rest) h (λ w over ended same_h.
    let same = ok_same _ _ same_h in
    cast_end-sound past w over ended (λ t is yields nests.
    record {
      rule = cast first.rule t;
      reads = ap₂ r.Cast first.reads is ∙ ap (λ y. y.0) same;
      yields = first.yields ∙ ap (λ l. operand_put first.rule (s.As ∷ l)) yields ∙ ap (λ y. operand_put first.rule (cast_put t y.1)) same;
      good = (first.good, nests);
    }))
use_by ts (y ∷ past) x v rest first h =
    let same = ok_same _ _ h in
    record { rule = «use» first.rule; reads = ap r.Use first.reads ∙ ap (λ y. y.0) same; yields = first.yields ∙ ap (λ y. operand_put first.rule y.1) same; good = first.good }

use-sound : (ts : List Symbol) (v : RvalueText) (rest : List Symbol) → use_at ts ≡ Ok (v, rest) → IsRvalue ts v rest
unfolding use_at
use-sound ts v rest h =
    in_steps _ _ (v, rest) h (λ x past found went.
    in_steps _ _ (v, rest) went (λ w over found2 same_h.
    let P : RvalueText × List Symbol → Type 0 = λ y. IsRvalue ts y.0 y.1 in
    subst P (ok_same _ _ same_h) (use_by ts past x w over (operand-sound ts x past found) found2)))

pair-sound : {R : Type 0} (ts : List Symbol) (x y : OperandText) (rest : List Symbol) → pair ts ≡ Ok ((x, y), rest)
    → ((a c : OperandRule) → operand_text a ≡ x → operand_text c ≡ y → ts ≡ pair_put a c rest → OperandGood a → OperandGood c → R) → R
unfolding pair
pair-sound ts x y rest h k =
    in_steps _ _ ((x, y), rest) h (λ a past opens h1.
    in_steps _ _ ((x, y), rest) h1 (λ x1 past1 first h2.
    in_steps _ _ ((x, y), rest) h2 (λ c past2 is_comma h3.
    in_steps _ _ ((x, y), rest) h3 (λ y1 past3 second h4.
    in_steps _ _ ((x, y), rest) h4 (λ d past4 closes same_h.
    let same = ok_same _ _ same_h in
    let one = operand-sound past x1 past1 first in
    let two = operand-sound past2 y1 past3 second in
    k one.rule two.rule (one.reads ∙ ap (λ q. q.0.0) same) (two.reads ∙ ap (λ q. q.0.1) same)
    (open_paren-sound ts (a, past) opens ∙ ap (λ l. s.Open ∷ l) (one.yields ∙ ap (operand_put one.rule) (comma-sound past1 (c, past2) is_comma
    ∙ ap (λ l. s.Comma ∷ l) (two.yields ∙ ap (operand_put two.rule) (close-sound past3 (d, past4) closes ∙ ap (λ q. s.Close ∷ q.1) same)))))
    one.good two.good)))))

pub single-sound : {R : Type 0} (ts : List Symbol) (x : OperandText) (rest : List Symbol) → single ts ≡ Ok (x, rest)
    → ((a : OperandRule) → operand_text a ≡ x → ts ≡ s.Open ∷ operand_put a (s.Close ∷ rest) → OperandGood a → R) → R
unfolding single
single-sound ts x rest h k =
    in_steps _ _ (x, rest) h (λ a past opens h1.
    in_steps _ _ (x, rest) h1 (λ x1 past1 first h2.
    in_steps _ _ (x, rest) h2 (λ d past2 closes same_h.
    let same = ok_same _ _ same_h in
    let one = operand-sound past x1 past1 first in
    k one.rule (one.reads ∙ ap (λ q. q.0) same)
    (open_paren-sound ts (a, past) opens ∙ ap (λ l. s.Open ∷ l) (one.yields ∙ ap (operand_put one.rule) (close-sound past1 (d, past2) closes ∙ ap (λ q. s.Close ∷ q.1) same)))
    one.good)))

pub place_single-sound : {R : Type 0} (ts : List Symbol) (x : PlaceText) (rest : List Symbol) → place_single ts ≡ Ok (x, rest)
    → ((a : PlaceRule) → place_text a ≡ x → ts ≡ s.Open ∷ place_put a (s.Close ∷ rest) → PlaceGood 65 a → R) → R
unfolding place_single
place_single-sound ts x rest h k =
    in_steps _ _ (x, rest) h (λ a past opens h1.
    in_steps _ _ (x, rest) h1 (λ x1 past1 first h2.
    in_steps _ _ (x, rest) h2 (λ d past2 closes same_h.
    let same = ok_same _ _ same_h in
    let one = place-sound 65 past x1 past1 first in
    k one.rule (one.reads ∙ ap (λ q. q.0) same)
    (open_paren-sound ts (a, past) opens ∙ ap (λ l. s.Open ∷ l) (one.yields ∙ ap (place_put one.rule) (close-sound past1 (d, past2) closes ∙ ap (λ q. s.Close ∷ q.1) same)))
    one.good)))

-- the first operand of a tuple, and the others
tuple_by : (ts past over : List Symbol) (x : OperandText) (v : RvalueText) (rest : List Symbol) (a : OperandRule) → operand_text a ≡ x → ts ≡ operand_put a past → FirstGood a → past ≡ s.Comma ∷ over → tuple_more x over ≡ Ok (v, rest)
    → IsRvalue (s.Open ∷ ts) v rest
unfolding tuple_more
tuple_by ts past over x v rest a is yields good is_comma h =
    in_steps _ _ (v, rest) h (λ xs last_past found same_h.
    let same = ok_same _ _ same_h in
    let others = operands-sound over xs last_past found in
    record {
      rule = tuple_of a others.rule;
      reads = ap₂ r.Tuple is others.reads ∙ ap (λ y. y.0) same;
      yields = ap (λ l. s.Open ∷ l) (yields ∙ ap (operand_put a) (is_comma ∙ ap (λ l. s.Comma ∷ l) (others.yields ∙ ap (λ y. items_put operand_put s.Close others.rule y.1) same)));
      good = (good, others.good);
    })

-- a tuple whose first operand begins with a word
abbrev starts_place : Symbol → Bool
starts_place (s.Local n) = true
starts_place s.Open = true
starts_place d = false

no_place : (d : Symbol) (ts : List Symbol) (q : PlaceRule) (rest : List Symbol) → starts_place d ≡ false → d ∷ ts ≡ place_put q rest → ⊥
no_place d ts (local n) rest e h = let is : d ≡ s.Local n = cc in let t : false ≡ true = sym e ∙ ap starts_place is in absurd cc
no_place d ts (deref q) rest e h = let is : d ≡ s.Open = cc in let t : false ≡ true = sym e ∙ ap starts_place is in absurd cc
no_place d ts (field q n t) rest e h = let is : d ≡ s.Open = cc in let t : false ≡ true = sym e ∙ ap starts_place is in absurd cc
no_place d ts (variant_field q name_no n t) rest e h = let is : d ≡ s.Open = cc in let t : false ≡ true = sym e ∙ ap starts_place is in absurd cc

first_good : (d : Symbol) (ts past : List Symbol) (a : OperandRule) → starts_place d ≡ false → d ∷ ts ≡ operand_put a past → OperandGood a → FirstGood a
first_good d ts past (copy q) e h g = g
first_good d ts past (move q) e h g = g
first_good d ts past (const x) e h g = g
first_good d ts past (bare q) e h g = absurd (no_place d ts q past e h)

tuple_word : (d : Symbol) (ts : List Symbol) (v : RvalueText) (rest : List Symbol) → starts_place d ≡ false → and_then (tuple (d ∷ ts)) (λ v ts. Ok (v, ts)) ≡ Ok (v, rest) → IsRvalue (s.Open ∷ d ∷ ts) v rest
unfolding tuple
tuple_word d ts v rest e h0 =
    let P : RvalueText × List Symbol → Type 0 = λ y. IsRvalue (s.Open ∷ d ∷ ts) y.0 y.1 in
    in_steps _ _ (v, rest) h0 (λ v1 rest1 h same_h0.
    subst P (ok_same _ _ same_h0) (
    in_steps _ _ (v1, rest1) h (λ x past found h1.
    in_steps _ _ (v1, rest1) h1 (λ c past1 is_comma h2.
    in_steps _ _ (v1, rest1) h2 (λ w over found2 same_h.
    let first = operand-sound (d ∷ ts) x past found in
    subst P (ok_same _ _ same_h) (tuple_by (d ∷ ts) past past1 x w over first.rule first.reads first.yields (first_good d ts past first.rule e first.yields first.good) (comma-sound past (c, past1) is_comma) found2))))))

-- a bare place as an operand
bare-operand : (ts past : List Symbol) (q : PlaceText) → IsRead place_put place_text (PlaceGood 65) ts q past → IsOperand ts (o.Bare q) past
bare-operand ts past q x = record { rule = bare x.rule; reads = ap o.Bare x.reads; yields = x.yields; good = x.good }

first_base : (ts over : List Symbol) (x : BaseText) (v : RvalueText) (rest : List Symbol) (a : BaseRule) → base_of a ≡ x → ts ≡ base_put a (s.Comma ∷ over) → BaseGood 64 a → tuple_from x over ≡ Ok (v, rest) → IsRvalue (s.Open ∷ ts) v rest
first_base ts over (b.Place q) v rest (place a) is yields good h =
    let P : RvalueText × List Symbol → Type 0 = λ y. IsRvalue (s.Open ∷ ts) y.0 y.1 in
    let same : place_text a ≡ q = cc in
    in_steps _ _ (v, rest) h (λ w past found same_h.
    subst P (ok_same _ _ same_h) (tuple_by ts (s.Comma ∷ over) over (o.Bare q) w past (bare a) (ap o.Bare same) yields good refl found))
first_base ts over (b.Place q) v rest (variant a n) is yields good h = absurd cc
first_base ts over (b.Variant q n) v rest a is yields good h = absurd cc

first_field : (ts past : List Symbol) (x : BaseText) (v : RvalueText) (rest : List Symbol) → IsRead base_put base_of (BaseGood 64) ts x past
    → and_then (field_after (type_text_at 64) x past) (λ q ts. and_then (cast_or_use (o.Bare q) ts) (λ v ts. Ok (v, ts))) ≡ Ok (v, rest) → IsRvalue (s.Open ∷ ts) v rest
first_field ts past x v rest base h =
    let P : RvalueText × List Symbol → Type 0 = λ y. IsRvalue (s.Open ∷ ts) y.0 y.1 in
    in_steps _ _ (v, rest) h (λ q over found h1.
    in_steps _ _ (v, rest) h1 (λ w over1 found1 same_h.
    subst P (ok_same _ _ same_h) (use_by (s.Open ∷ ts) over (o.Bare q) w over1 (bare-operand (s.Open ∷ ts) over q (field_after-sound 64 ts past x q over base found)) found1)))

after_first-sound : (ts past : List Symbol) (x : BaseText) (v : RvalueText) (rest : List Symbol) → IsRead base_put base_of (BaseGood 64) ts x past → after_first x past ≡ Ok (v, rest) → IsRvalue (s.Open ∷ ts) v rest
unfolding after_first
after_first-sound ts [] x v rest base h = first_field ts [] x v rest base h
after_first-sound ts (s.Comma ∷ over) x v rest base h = first_base ts over x v rest base.rule base.reads base.yields base.good h
after_first-sound ts (y ∷ past) x v rest base h = first_field ts (y ∷ past) x v rest base h

opened-first : (ts : List Symbol) (v : RvalueText) (rest : List Symbol) → and_then (base_at 64 ts) (λ x ts. and_then (after_first x ts) (λ v ts. Ok (v, ts))) ≡ Ok (v, rest) → IsRvalue (s.Open ∷ ts) v rest
opened-first ts v rest h =
    let P : RvalueText × List Symbol → Type 0 = λ y. IsRvalue (s.Open ∷ ts) y.0 y.1 in
    in_steps _ _ (v, rest) h (λ x past found h1.
    in_steps _ _ (v, rest) h1 (λ w over found1 same_h.
    subst P (ok_same _ _ same_h) (after_first-sound ts past x w over (base-sound 64 ts x past found) found1)))

deref-operand : (ts past over : List Symbol) (q : PlaceText) → IsRead place_put place_text (PlaceGood 64) ts q past → past ≡ s.Close ∷ over → IsOperand (s.Open ∷ s.Star ∷ ts) (o.Bare (with_proj q p.Deref)) over
deref-operand ts past over q inner close_is =
    record {
      rule = bare (deref inner.rule);
      reads = ap (λ y. o.Bare (with_proj y p.Deref)) inner.reads;
      yields = ap (λ l. s.Open ∷ s.Star ∷ l) (inner.yields ∙ ap (place_put inner.rule) close_is);
      good = (omega (arith, inner.good.0), inner.good.1);
    }

opened-sound : (ts : List Symbol) (v : RvalueText) (rest : List Symbol) → opened ts ≡ Ok (v, rest) → IsRvalue (s.Open ∷ ts) v rest
unfolding opened
opened-sound [] v rest h = opened-first [] v rest h
opened-sound (s.Close ∷ ts) v rest h = let same = ok_same _ _ h in record { rule = nothing; reads = ap (λ y. y.0) same; yields = ap (λ y. s.Open ∷ s.Close ∷ y.1) same; good = tt }
opened-sound (s.Copy ∷ ts) v rest h = tuple_word s.Copy ts v rest refl h
opened-sound (s.Move ∷ ts) v rest h = tuple_word s.Move ts v rest refl h
opened-sound (s.Const ∷ ts) v rest h = tuple_word s.Const ts v rest refl h
opened-sound (s.Star ∷ ts) v rest h =
    let P : RvalueText × List Symbol → Type 0 = λ y. IsRvalue (s.Open ∷ s.Star ∷ ts) y.0 y.1 in
    in_steps _ _ (v, rest) h (λ q past found h1.
    in_steps _ _ (v, rest) h1 (λ c over closes h2.
    in_steps _ _ (v, rest) h2 (λ w over1 found1 same_h.
    subst P (ok_same _ _ same_h) (use_by (s.Open ∷ s.Star ∷ ts) over (o.Bare (with_proj q p.Deref)) w over1 (deref-operand ts past over q (place-sound 64 ts q past found) (close-sound past (c, over) closes)) found1))))
opened-sound (y ∷ ts) v rest h = opened-first (y ∷ ts) v rest h

pub parts-sound : {R : Type 0} (ts : List Symbol) (x : BuildText) (rest : List Symbol) → parts ts ≡ Ok (x, rest) → ((a : BuildRule) → build_text a ≡ x → ts ≡ parts_put a rest → PartsGood a → R) → R
unfolding parts
parts-sound [] x rest h k = let same = ok_same _ _ h in k plain (ap (λ y. y.0) same) (ap (λ y. y.1) same) tt
parts-sound (s.Open ∷ ts) x rest h k =
    in_steps _ _ (x, rest) h (λ xs past found same_h.
    let same = ok_same _ _ same_h in
    let items = operands-sound ts xs past found in
    k (tupled items.rule) (ap u.Tupled items.reads ∙ ap (λ y. y.0) same) (ap (λ l. s.Open ∷ l) (items.yields ∙ ap (λ y. items_put operand_put s.Close items.rule y.1) same)) items.good)
parts-sound (s.OpenBrace ∷ ts) x rest h k =
    in_steps _ _ (x, rest) h (λ xs past found same_h.
    let same = ok_same _ _ same_h in
    let items = nameds-sound ts xs past found in
    k (labelled items.rule) (ap u.Labelled items.reads ∙ ap (λ y. y.0) same) (ap (λ l. s.OpenBrace ∷ l) (items.yields ∙ ap (λ y. items_put named_put s.CloseBrace items.rule y.1) same)) items.good)
parts-sound (y ∷ ts) x rest h k = let same = ok_same _ _ h in k plain (ap (λ y. y.0) same) (ap (λ y. y.1) same) tt

build-sound : (ts : List Symbol) (v : RvalueText) (rest : List Symbol) → build_at ts ≡ Ok (v, rest) → IsRvalue ts v rest
unfolding build_at
build-sound ts v rest h =
    in_steps _ _ (v, rest) h (λ ns past found h1.
    in_steps _ _ (v, rest) h1 (λ x over found1 same_h.
    let same = ok_same _ _ same_h in
    let q = path-sound ts ns past found in
    parts-sound past x over found1 (λ a is yields good.
    record {
      rule = build q.rule a;
      reads = ap₂ r.Build q.reads is ∙ ap (λ y. y.0) same;
      yields = q.yields ∙ ap (path_put q.rule) yields ∙ ap (λ y. path_put q.rule (parts_put a y.1)) same;
      good = good;
    })))

rvalue-use : (ts : List Symbol) (v : RvalueText) (rest : List Symbol) → and_then (use_at ts) (λ v ts. Ok (v, ts)) ≡ Ok (v, rest) → IsRvalue ts v rest
rvalue-use ts v rest h = use-sound ts v rest (sym (id_steps (use_at ts)) ∙ h)

pub rvalue-sound : (ts : List Symbol) (v : RvalueText) (rest : List Symbol) → rvalue ts ≡ Ok (v, rest) → IsRvalue ts v rest
unfolding rvalue
rvalue-sound [] v rest h = rvalue-use [] v rest h
rvalue-sound (s.Binary op ∷ ts) v rest h =
    in_steps _ _ (v, rest) h (λ x past found same_h.
    let same = ok_same _ _ same_h in
    pair-sound ts x.0 x.1 past found (λ a c is is2 yields g g2.
    record { rule = binary op a c; reads = ap₂ (r.Binary op) is is2 ∙ ap (λ y. y.0) same; yields = ap (λ l. s.Binary op ∷ l) (yields ∙ ap (λ y. pair_put a c y.1) same); good = (g, g2) }))
rvalue-sound (s.Over op ∷ ts) v rest h =
    in_steps _ _ (v, rest) h (λ x past found same_h.
    let same = ok_same _ _ same_h in
    pair-sound ts x.0 x.1 past found (λ a c is is2 yields g g2.
    record { rule = overflow op a c; reads = ap₂ (r.Overflow op) is is2 ∙ ap (λ y. y.0) same; yields = ap (λ l. s.Over op ∷ l) (yields ∙ ap (λ y. pair_put a c y.1) same); good = (g, g2) }))
rvalue-sound (s.Unary op ∷ ts) v rest h =
    in_steps _ _ (v, rest) h (λ x past found same_h.
    let same = ok_same _ _ same_h in
    single-sound ts x past found (λ a is yields g.
    record { rule = unary op a; reads = ap (r.Unary op) is ∙ ap (λ y. y.0) same; yields = ap (λ l. s.Unary op ∷ l) (yields ∙ ap (λ y. s.Open ∷ operand_put a (s.Close ∷ y.1)) same); good = g }))
rvalue-sound (s.Ampersand ∷ ts) v rest h =
    in_steps _ _ (v, rest) h (λ x past found same_h.
    let same = ok_same _ _ same_h in
    let inner = place-sound 65 (mut_at ts).1 x past found in
    record {
      rule = reference (mut_at ts).0 inner.rule;
      reads = ap (r.Ref (mut_at ts).0) inner.reads ∙ ap (λ y. y.0) same;
      yields = ap (λ l. s.Ampersand ∷ l) (mut-put ts ∙ ap (λ l. mut_put (mut_at ts).0 l) (inner.yields ∙ ap (λ y. place_put inner.rule y.1) same));
      good = inner.good;
    })
rvalue-sound (s.Discriminant ∷ ts) v rest h =
    in_steps _ _ (v, rest) h (λ x past found same_h.
    let same = ok_same _ _ same_h in
    place_single-sound ts x past found (λ a is yields g.
    record { rule = discriminant a; reads = ap r.Discriminant is ∙ ap (λ y. y.0) same; yields = ap (λ l. s.Discriminant ∷ l) (yields ∙ ap (λ y. s.Open ∷ place_put a (s.Close ∷ y.1)) same); good = g }))
rvalue-sound (s.Open ∷ ts) v rest h = opened-sound ts v rest (sym (id_steps (opened ts)) ∙ h)
rvalue-sound (s.Name n ∷ ts) v rest h = build-sound (s.Name n ∷ ts) v rest (sym (id_steps (build_at (s.Name n ∷ ts))) ∙ h)
rvalue-sound (x ∷ ts) v rest h = rvalue-use (x ∷ ts) v rest h

-- before a semicolon
pub rvalue-ends : (x : RvalueRule) (rest : List Symbol) → RvalueGood x → Semicolon rest → rvalue (rvalue_put x rest) ≡ Ok (rvalue_text x, rest)
rvalue-ends x [] g follows = absurd cc
rvalue-ends x (s.Semicolon ∷ rest) g follows = rvalue-complete x rest g
rvalue-ends x (t ∷ rest) g follows = absurd cc
