-- Texts of lists that are printed item by item, and texts of what a program holds.
use Rattle.std.proofs.Common.{◌≡◌, ◌==◌, not, IsTrue, rules, Bor, option_copied, MatchOption, ℕ, suc, zero, Bool, true, false, take, ◌+◌, ◌-◌, ◌<◌, ◌≤◌, min, List, [], ◌∷◌, ◌++◌, length, drop, get_or, map, slice_get, Option, Some, None, codes, decimal, refl, sym, ap, subst, ◌∙◌, arith, append_assoc}
use Rattle.std.specs.Option.{option_map, unwrap_or}
use Rattle.std.proofs.lemmas.List.{append-nil, at_drop_more, get_or_past, drop-map, take-map, take_all}
use Rattle.std.proofs.lemmas.Bool.{eqb-true}
use Rattle.std.proofs.lemmas.Option.{slice_get-map, unwrap_or-slice_get}
use Rattle.std.proofs.Math.ListN.{drop_of_length-le}
use Rattle.mir_syntax.specs.declared.types.TyId.{TyId}
use Rattle.mir_syntax.specs.declared.types.ScalarTy.TheVariants as scalar_ty
use Rattle.mir_syntax.specs.declared.types.Ty as ty_of_table
use Rattle.mir_syntax.specs.declared.types.Ty.TheVariants.{Scalar, Tuple, Ref, RefMut, Named}
use Rattle.mir_syntax.specs.declared.types.Field.{Field}
use Rattle.mir_syntax.specs.declared.types.Def.{Def}
use Rattle.mir_syntax.specs.declared.types.Variant.{Variant}
use Rattle.mir_syntax.specs.declared.types.Outside.{Outside}
use Rattle.mir_syntax.specs.declared.body.Proj.{Proj}
use Rattle.mir_syntax.specs.declared.body.Proj.TheVariants as proj
use Rattle.mir_syntax.specs.declared.body.Arm.{Arm}
use Rattle.mir_syntax.specs.declared.body.Operand.{Operand}
use Rattle.mir_syntax.specs.declared.body.Function.{Function}
use Rattle.mir_syntax.specs.declared.program.Program.{Program}
use Rattle.mir_syntax.specs.Tree.{Tree, scalar, empty, named, node, at_id, at_ids, trees_of}
use Rattle.mir_syntax.specs.Shapes.{Shape, shapes_of, fields_tree, field_id, field_ty_of, proj_ty}
use Rattle.mir_syntax.specs.Crate.{TypedField, TypedDef, TypedOutside, TypedStmt, TypedBlock, TypedFunction, Crate, field_of, def_of, variant_of, outside_of, function_of, crate_of}
use Rattle.mir_syntax.specs.Table.{all_below}
use Rattle.mir_syntax.proofs.Trees.{length-trees_of}
use Rattle.mir_syntax.proofs.Places.{field-of-fields, fields_of-tuple}
use Rattle.mir_text.specs.TypeText.{piece, more_items, no_def, def_at, scalar_text, type_text, parts_text}
use Rattle.mir_text.specs.PlaceText.{local_ty, no_variant, variant_at, opening, openings, closing, closings, type_after, variant_name, operand_text}
use Rattle.mir_text.specs.StatementText.{variant_path, build_parts, build_text, more_named, stmt_line, stmts_text}
use Rattle.mir_text.specs.TermText.{block_name, path_or_none, function_paths, outside_paths, arms_text, block_text, blocks_text}
use Rattle.mir_text.specs.Text.{local_decl, let_line, lets_text, more_args, gap_text, function_text, functions_text, def_text, defs_text, outside_text, outsides_text, others_stand}
use Rattle.mir_print.specs.declared.fields.Part.{Part}
use Rattle.mir_print.specs.declared.fields.Part.TheVariants.{Ty, Fields}
use Rattle.mir_print.specs.Parts.{part_tree}
use Rattle.mir_print.specs.Seen.{crate_in}
use Rattle.mir_print.specs.Prints.{At, Goes}
use Rattle.mir_print.proofs.Printing.{goes_then, goes_nothing}

-- an id that isn't in the table
pub past_table : (c : Crate) (types : List ty_of_table.Ty) (id : TyId) → length types ≤ id.0 → type_text c (at_id (trees_of types) id) ≡ scalar_text scalar_ty.Bool
unfolding type_text
past_table c types id past =
    let out : at_id (trees_of types) id ≡ scalar scalar_ty.Bool = get_or_past (trees_of types) id.0 (scalar scalar_ty.Bool) (omega (arith, length-trees_of types, past)) in
    rw out refl

-- ---- lists

-- when the rest is printed, the whole is
abbrev pub Remains : At → At → List ℕ → List ℕ → Type 0
Remains start now whole rest = (to : At) → Goes now to rest → Goes start to whole

pub remains_after : {start now next : At} {whole s rest : List ℕ} → Remains start now whole (s ++ rest) → Goes now next s → Remains start next whole rest
remains_after r g to h = r to (goes_then g h)

-- an item is printed, and the others remain
pub remains_more : {X : Type 0} {start now next : At} {whole s : List ℕ} (F G : List X → List ℕ) (xs : List X) (i : ℕ) (item : X) → i < length xs → item ≡ get_or xs i item
    → F (item ∷ drop (i + 1) xs) ≡ s ++ G (drop (i + 1) xs) → Remains start now whole (F (drop i xs)) → Goes now next s
    → Remains start next whole (G (drop (i + 1) xs))
remains_more {X} {start} {now} {next} {whole} {s} F G xs i item within is splits r g to h =
    let here : F (drop i xs) ≡ s ++ G (drop (i + 1) xs) =
    at_drop_more F xs i item within ∙ ap (λ x. F (x ∷ drop (i + 1) xs)) (sym is) ∙ splits in
    r to (rw here (goes_then g h))

-- the same of an item that is read by its place
pub remains_next : {X : Type 0} {start now next : At} {whole s : List ℕ} (F G : List X → List ℕ) (xs : List X) (i : ℕ) (d : X) → i < length xs
    → F (get_or xs i d ∷ drop (i + 1) xs) ≡ s ++ G (drop (i + 1) xs) → Remains start now whole (F (drop i xs)) → Goes now next s
    → Remains start next whole (G (drop (i + 1) xs))
remains_next {X} {start} {now} {next} {whole} {s} F G xs i d within splits r g to h =
    let here : F (drop i xs) ≡ s ++ G (drop (i + 1) xs) = at_drop_more F xs i d within ∙ splits in
    r to (rw here (goes_then g h))

-- no item remains
pub remains_none : {X : Type 0} {start now : At} {whole : List ℕ} (F : List X → List ℕ) (xs : List X) (i : ℕ) → length xs ≤ i
    → F [] ≡ [] → Remains start now whole (F (drop i xs)) → Goes start now whole
remains_none {X} {start} {now} {whole} F xs i past none r =
    let end : F (drop i xs) ≡ [] = ap F (drop_of_length-le xs past) ∙ none in
    r now (rw end goes_nothing)

-- no item remains, and what ends the list is printed
pub remains_end : {X : Type 0} {start now next : At} {whole s : List ℕ} (F : List X → List ℕ) (xs : List X) (i : ℕ) → length xs ≤ i
    → F [] ≡ s → Remains start now whole (F (drop i xs)) → Goes now next s → Goes start next whole
remains_end {X} {start} {now} {next} {whole} {s} F xs i past ends r g =
    let end : F (drop i xs) ≡ s = ap F (drop_of_length-le xs past) ∙ ends in
    r next (rw end g)

pub first_item : {A : Type 0} (f : A → List ℕ) (x : A) (xs : List A) → more_items f (x ∷ xs) ≡ (piece (codes ", ") ++ f x) ++ more_items f xs
unfolding more_items
first_item f x xs = rw (append_assoc (piece (codes ", ")) (f x) (more_items f xs)) refl

pub no_items : {A : Type 0} (f : A → List ℕ) → more_items f [] ≡ []
unfolding more_items
no_items f = refl

pub first_stmt : (c : Crate) (locals : List Tree) (s : TypedStmt) (ss : List TypedStmt) → stmts_text c locals (s ∷ ss) ≡ stmt_line c locals s ++ stmts_text c locals ss
unfolding stmts_text
first_stmt c locals s ss = refl

pub no_stmts : (c : Crate) (locals : List Tree) → stmts_text c locals [] ≡ []
unfolding stmts_text
no_stmts c locals = refl

pub first_block : (c : Crate) (locals : List Tree) (n m : ℕ) (b : TypedBlock) (bs : List TypedBlock) → m ≡ n + 1 → blocks_text c locals n (b ∷ bs) ≡ (piece (codes "\n") ++ block_text c locals n b) ++ blocks_text c locals m bs
unfolding blocks_text
first_block c locals n m b bs next = let e : m ≡ suc n = omega (arith, next) in rw (e, append_assoc (piece (codes "\n")) (block_text c locals n b) (blocks_text c locals (suc n) bs)) refl

pub no_blocks : (c : Crate) (locals : List Tree) (n : ℕ) → blocks_text c locals n [] ≡ []
unfolding blocks_text
no_blocks c locals n = refl

pub first_let : (c : Crate) (x y : ℕ) (t : Tree) (ts : List Tree) → y ≡ x + 1 → lets_text c x (t ∷ ts) ≡ let_line c x t ++ lets_text c y ts
unfolding lets_text
first_let c x y t ts next = let e : y ≡ suc x = omega (arith, next) in rw e refl

pub no_lets : (c : Crate) (x : ℕ) → lets_text c x [] ≡ []
unfolding lets_text
no_lets c x = refl

pub first_arg : (c : Crate) (x y : ℕ) (t : Tree) (ts : List Tree) → y ≡ x + 1 → more_args c x (t ∷ ts) ≡ (piece (codes ", ") ++ local_decl c x t) ++ more_args c y ts
unfolding more_args
first_arg c x y t ts next = let e : y ≡ suc x = omega (arith, next) in rw (e, append_assoc (piece (codes ", ")) (local_decl c x t) (more_args c (suc x) ts)) refl

pub no_args : (c : Crate) (x : ℕ) → more_args c x [] ≡ []
unfolding more_args
no_args c x = refl

pub first_function : (c : Crate) (before : Bool) (f : TypedFunction) (fs : List TypedFunction) → functions_text c before (f ∷ fs) ≡ (gap_text before ++ function_text c f) ++ functions_text c true fs
unfolding functions_text
first_function c before f fs = rw (append_assoc (gap_text before) (function_text c f) (functions_text c true fs)) refl

pub no_functions : (c : Crate) (before : Bool) → functions_text c before [] ≡ []
unfolding functions_text
no_functions c before = refl

pub first_def : (c : Crate) (d : TypedDef) (ds : List TypedDef) → defs_text c (d ∷ ds) ≡ def_text c d ++ defs_text c ds
unfolding defs_text
first_def c d ds = refl

pub no_defs : (c : Crate) → defs_text c [] ≡ []
unfolding defs_text
no_defs c = refl

pub first_outside : (c : Crate) (o : TypedOutside) (os : List TypedOutside) → outsides_text c (o ∷ os) ≡ outside_text c o ++ outsides_text c os
unfolding outsides_text
first_outside c o os = refl

pub no_outsides : (c : Crate) → outsides_text c [] ≡ []
unfolding outsides_text
no_outsides c = refl

pub first_arm : (a : Arm) (others : List Arm)
    → arms_text (a ∷ others) ≡ (piece (decimal a.value) ++ (piece (codes ": ") ++ (block_name a.block ++ piece (codes ", ")))) ++ arms_text others
unfolding arms_text
first_arm a others =
    rw (
      append_assoc (piece (decimal a.value)) (piece (codes ": ") ++ (block_name a.block ++ piece (codes ", "))) (arms_text others),
      append_assoc (piece (codes ": ")) (block_name a.block ++ piece (codes ", ")) (arms_text others),
      append_assoc (block_name a.block) (piece (codes ", ")) (arms_text others),
    ) refl

pub no_arms : arms_text [] ≡ []
unfolding arms_text
no_arms = refl

-- a later part of a tuple
pub first_part : (c : Crate) (trees : List Tree) (id : TyId) (ids : List TyId)
    → parts_text c (at_ids trees (id ∷ ids)) ≡ (piece (codes ", ") ++ type_text c (at_id trees id)) ++ parts_text c (at_ids trees ids)
unfolding parts_text
first_part c trees id ids = rw (append_assoc (piece (codes ", ")) (type_text c (at_id trees id)) (parts_text c (at_ids trees ids))) refl

pub no_parts : (c : Crate) (trees : List Tree) → parts_text c (at_ids trees []) ≡ piece (codes ")")
unfolding parts_text
no_parts c trees = refl

-- ---- places

-- the last projection opens first
openings_last : (ps : List Proj) (p : Proj) → openings (ps ++ p ∷ []) ≡ opening p ++ openings ps
unfolding openings
openings_last [] p = sym (append-nil (opening p))
openings_last (q ∷ ps) p = rw (openings_last ps p) (append_assoc (opening p) (openings ps) (opening q))

take_last : {X : Type 0} (xs : List X) (i : ℕ) (d : X) → i < length xs → take (suc i) xs ≡ take i xs ++ get_or xs i d ∷ []
take_last [] i d within = absurd (omega arith)
take_last (x ∷ xs) zero d within = refl
take_last (x ∷ xs) (suc i) d within = ap (λ l. x ∷ l) (take_last xs i d (omega arith))

pub openings_next : (ps : List Proj) (i n : ℕ) (d : Proj) → i < length ps → n ≡ i + 1 → openings (take n ps) ≡ opening (get_or ps i d) ++ openings (take i ps)
openings_next ps i n d within next =
    let e : n ≡ suc i = omega (arith, next) in
    rw (e, take_last ps i d within) (openings_last (take i ps) (get_or ps i d))

pub no_openings : (ps : List Proj) (n : ℕ) → n ≤ 0 → openings (take n ps) ≡ []
unfolding openings
no_openings [] zero h = refl
no_openings [] (suc n) h = refl
no_openings (p ∷ ps) zero h = refl
no_openings (p ∷ ps) (suc n) h = absurd (omega arith)

pub first_closing : (c : Crate) (t : Tree) (p : Proj) (ps : List Proj) → closings c t (p ∷ ps) ≡ closing c t p ++ closings c (type_after c t p) ps
unfolding closings
first_closing c t p ps = refl

pub no_closings : (c : Crate) (t : Tree) → closings c t [] ≡ []
unfolding closings
no_closings c t = refl

-- ---- what a program holds

-- a definition of a program
pub def_some : (p : Program) (d : ℕ) (def : Def) → slice_get p.defs d ≡ Some def → def_at (crate_in p) d ≡ def_of (trees_of p.types) def
unfolding crate_in
def_some p d def h =
    sym (unwrap_or-slice_get (crate_of p).defs d no_def) ∙ ap (λ o. unwrap_or o no_def) (slice_get-map (def_of (trees_of p.types)) p.defs d ∙ ap (option_map (def_of (trees_of p.types))) h)

pub def_none : (p : Program) (d : ℕ) → slice_get p.defs d ≡ None → def_at (crate_in p) d ≡ no_def
unfolding crate_in
def_none p d h =
    sym (unwrap_or-slice_get (crate_of p).defs d no_def) ∙ ap (λ o. unwrap_or o no_def) (slice_get-map (def_of (trees_of p.types)) p.defs d ∙ ap (option_map (def_of (trees_of p.types))) h)

-- a variant of a definition
pub variant_some : (p : Program) (d k : ℕ) (def : Def) (v : Variant) → slice_get p.defs d ≡ Some def → slice_get def.variants k ≡ Some v
    → variant_at (crate_in p) d k ≡ variant_of (trees_of p.types) v
variant_some p d k def v h at =
    let trees = trees_of p.types in
    let variants = map (variant_of trees) def.variants in
    ap (λ x. get_or x.variants k no_variant) (def_some p d def h)
    ∙ sym (unwrap_or-slice_get variants k no_variant) ∙ ap (λ o. unwrap_or o no_variant) (slice_get-map (variant_of trees) def.variants k ∙ ap (option_map (variant_of trees)) at)

pub variant_none : (p : Program) (d k : ℕ) (def : Def) → slice_get p.defs d ≡ Some def → slice_get def.variants k ≡ None → variant_at (crate_in p) d k ≡ no_variant
variant_none p d k def h at =
    let trees = trees_of p.types in
    let variants = map (variant_of trees) def.variants in
    ap (λ x. get_or x.variants k no_variant) (def_some p d def h)
    ∙ sym (unwrap_or-slice_get variants k no_variant) ∙ ap (λ o. unwrap_or o no_variant) (slice_get-map (variant_of trees) def.variants k ∙ ap (option_map (variant_of trees)) at)

-- builds of what a program doesn't have
pub build_none : (c : Crate) (locals : List Tree) (xs : List Operand) (k : ℕ) → build_text c locals no_def (get_or no_def.variants k no_variant) xs ≡ []
unfolding build_text piece variant_path build_parts
build_none c locals xs k = refl

pub build_bare : (c : Crate) (locals : List Tree) (d : TypedDef) (xs : List Operand) → build_text c locals d no_variant xs ≡ piece d.path ++ variant_path d.is_enum []
unfolding build_text build_parts
build_bare c locals d xs = ap (λ l. piece d.path ++ l) (append-nil (variant_path d.is_enum []))

-- the path of a function
pub function_some : (trees : List Tree) (fs : List Function) (k : ℕ) (f : Function) → slice_get fs k ≡ Some f → path_or_none (function_paths (map (function_of trees) fs)) k ≡ f.path
function_some trees [] k f h = absurd cc
function_some trees (g ∷ fs) zero f h = let same : g ≡ f = cc in ap (λ x. x.path) same
function_some trees (g ∷ fs) (suc k) f h = function_some trees fs k f h

pub function_none : (trees : List Tree) (fs : List Function) (k : ℕ) → slice_get fs k ≡ None → path_or_none (function_paths (map (function_of trees) fs)) k ≡ []
function_none trees [] k h = refl
function_none trees (g ∷ fs) zero h = absurd cc
function_none trees (g ∷ fs) (suc k) h = function_none trees fs k h

pub outside_some : (trees : List Tree) (fs : List Outside) (k : ℕ) (f : Outside) → slice_get fs k ≡ Some f → path_or_none (outside_paths (map (outside_of trees) fs)) k ≡ f.path
outside_some trees [] k f h = absurd cc
outside_some trees (g ∷ fs) zero f h = let same : g ≡ f = cc in ap (λ x. x.path) same
outside_some trees (g ∷ fs) (suc k) f h = outside_some trees fs k f h

pub outside_none : (trees : List Tree) (fs : List Outside) (k : ℕ) → slice_get fs k ≡ None → path_or_none (outside_paths (map (outside_of trees) fs)) k ≡ []
outside_none trees [] k h = refl
outside_none trees (g ∷ fs) zero h = absurd cc
outside_none trees (g ∷ fs) (suc k) h = outside_none trees fs k h

-- ---- locals

pub part_of : (f : TyId → Tree) (n : ℕ) (ids : List TyId) → take n (drop 1 (map f ids)) ≡ map f (take n (drop 1 ids))
part_of f n ids = ap (take n) (drop-map f 1 ids) ∙ take-map f n (drop 1 ids)

pub take_least : {X : Type 0} (n m : ℕ) (xs : List X) → m ≡ min n (length xs) → take m xs ≡ take n xs
take_least zero m xs h = let e : m ≡ zero = omega (arith, h) in rw e refl
take_least (suc n) m [] h = let e : m ≡ zero = omega (arith, h) in rw e refl
take_least (suc n) zero (x ∷ xs) h = absurd (omega (arith, h))
take_least (suc n) (suc m) (x ∷ xs) h = ap (λ l. x ∷ l) (take_least n m xs (omega (arith, h)))

pub drop_least : {X : Type 0} (n m : ℕ) (xs : List X) → m ≡ min n (length xs) → drop m xs ≡ drop n xs
drop_least zero m xs h = let e : m ≡ zero = omega (arith, h) in rw e refl
drop_least (suc n) m [] h = let e : m ≡ zero = omega (arith, h) in rw e refl
drop_least (suc n) zero (x ∷ xs) h = absurd (omega (arith, h))
drop_least (suc n) (suc m) (x ∷ xs) h = drop_least n m xs (omega (arith, h))

-- ---- a list that is taken apart

-- the first item of a list, and the others
pub opened : {X : Type 0} {a e : At} (F : List X → List ℕ) (xs : List X) (item : X) → 1 ≤ length xs → item ≡ get_or xs 0 item
    → Goes a e (F (item ∷ take (length xs - 1) (drop 1 xs))) → Goes a e (F xs)
opened {X} {a} {e} F [] item some is g = absurd (omega arith)
opened {X} {a} {e} F (x ∷ xs) item some is g =
    let all : take (length (x ∷ xs) - 1) xs ≡ xs = take_all (length (x ∷ xs) - 1) xs (omega arith) in
    let whole : item ∷ take (length (x ∷ xs) - 1) xs ≡ x ∷ xs = ap (λ l. item ∷ l) all ∙ ap (λ y. y ∷ xs) is in
    subst (λ l. Goes a e (F l)) whole g

pub opened_copy : {X : Type 0} {a e : At} (F : List X → List ℕ) (xs : List X) (d : X) → 1 ≤ length xs
    → Goes a e (F (get_or xs 0 d ∷ take (length xs - 1) (drop 1 xs))) → Goes a e (F xs)
opened_copy {X} {a} {e} F [] d some g = absurd (omega arith)
opened_copy {X} {a} {e} F (x ∷ xs) d some g =
    let all : take (length (x ∷ xs) - 1) xs ≡ xs = take_all (length (x ∷ xs) - 1) xs (omega arith) in
    subst (λ l. Goes a e (F (x ∷ l))) all g

-- ---- loops over places and named operands

pub openings_start : {a : At} (ps : List Proj) → Remains a a (openings ps) (openings (take (length ps) ps))
openings_start {a} ps to g = subst (λ l. Goes a to (openings l)) (take_all (length ps) ps (omega arith)) g

pub openings_more : {start now next : At} {whole : List ℕ} (ps : List Proj) (i n : ℕ) (d : Proj) → i < length ps → n ≡ i + 1
    → Remains start now whole (openings (take n ps)) → Goes now next (opening (get_or ps i d)) → Remains start next whole (openings (take i ps))
openings_more {start} {now} {next} {whole} ps i n d within more r g to h = r to (rw (openings_next ps i n d within more) (goes_then g h))

pub openings_done : {start now : At} {whole : List ℕ} (ps : List Proj) (n : ℕ) → n ≤ 0 → Remains start now whole (openings (take n ps)) → Goes start now whole
openings_done {start} {now} {whole} ps n h r = r now (rw (no_openings ps n h) goes_nothing)

pub closings_more : {start now next : At} {whole : List ℕ} (c : Crate) (t u : Tree) (ps : List Proj) (i : ℕ) (d : Proj) → i < length ps → u ≡ type_after c t (get_or ps i d)
    → Remains start now whole (closings c t (drop i ps)) → Goes now next (closing c t (get_or ps i d)) → Remains start next whole (closings c u (drop (i + 1) ps))
closings_more {start} {now} {next} {whole} c t u ps i d within on r g =
    remains_next (closings c t) (closings c u) ps i d within (rw on (first_closing c t (get_or ps i d) (drop (i + 1) ps))) r g

named_next : (c : Crate) (locals : List Tree) (f : TypedField) (fs : List TypedField) (x : Operand) (xs : List Operand)
    → more_named c locals (f ∷ fs) (x ∷ xs) ≡ (piece (codes ", ") ++ (piece f.name ++ (piece (codes ": ") ++ operand_text c locals x))) ++ more_named c locals fs xs
unfolding more_named
named_next c locals f fs x xs =
    let rest = more_named c locals fs xs in
    let text = operand_text c locals x in
    rw (append_assoc (piece (codes ", ")) (piece f.name ++ (piece (codes ": ") ++ text)) rest, append_assoc (piece f.name) (piece (codes ": ") ++ text) rest, append_assoc (piece (codes ": ")) text rest) refl

pub named_more : {start now next : At} {whole : List ℕ} (c : Crate) (locals trees : List Tree) (fs : List Field) (xs : List Operand) (i : ℕ) (f : Field) (x : Operand)
    → i < length fs → i < length xs → f ≡ get_or fs i f → x ≡ get_or xs i x
    → Remains start now whole (more_named c locals (map (field_of trees) (drop i fs)) (drop i xs))
    → Goes now next (piece (codes ", ") ++ (piece f.name ++ (piece (codes ": ") ++ operand_text c locals x)))
    → Remains start next whole (more_named c locals (map (field_of trees) (drop (i + 1) fs)) (drop (i + 1) xs))
named_more {start} {now} {next} {whole} c locals trees fs xs i f x in_fields in_operands is_field is_operand r g to h =
    let typed = map (field_of trees) in
    let left : more_named c locals (typed (drop i fs)) (drop i xs) ≡ more_named c locals (typed (f ∷ drop (i + 1) fs)) (drop i xs) =
    at_drop_more (λ l. more_named c locals (typed l) (drop i xs)) fs i f in_fields ∙ ap (λ y. more_named c locals (typed (y ∷ drop (i + 1) fs)) (drop i xs)) (sym is_field) in
    let both : more_named c locals (typed (f ∷ drop (i + 1) fs)) (drop i xs) ≡ more_named c locals (typed (f ∷ drop (i + 1) fs)) (x ∷ drop (i + 1) xs) =
    at_drop_more (λ l. more_named c locals (typed (f ∷ drop (i + 1) fs)) l) xs i x in_operands ∙ ap (λ y. more_named c locals (typed (f ∷ drop (i + 1) fs)) (y ∷ drop (i + 1) xs)) (sym is_operand) in
    let here = left ∙ both ∙ named_next c locals (field_of trees f) (typed (drop (i + 1) fs)) x (drop (i + 1) xs) in
    r to (rw here (goes_then g h))

no_operands : (c : Crate) (locals : List Tree) (fs : List TypedField) → more_named c locals fs [] ≡ []
unfolding more_named
no_operands c locals [] = refl
no_operands c locals (f ∷ fs) = refl

named_past : (c : Crate) (locals trees : List Tree) (i : ℕ) (fs : List Field) (xs : List Operand) → min (length fs) (length xs) ≤ i
    → more_named c locals (map (field_of trees) (drop i fs)) (drop i xs) ≡ []
unfolding more_named
named_past c locals trees zero [] xs h = refl
named_past c locals trees zero (f ∷ fs) [] h = refl
named_past c locals trees zero (f ∷ fs) (x ∷ xs) h = absurd (omega (arith, h))
named_past c locals trees (suc i) [] xs h = refl
named_past c locals trees (suc i) (f ∷ fs) [] h = no_operands c locals (map (field_of trees) (drop i fs))
named_past c locals trees (suc i) (f ∷ fs) (x ∷ xs) h = named_past c locals trees i fs xs (omega (arith, h))

pub named_done : {start now : At} {whole : List ℕ} (c : Crate) (locals trees : List Tree) (i : ℕ) (fs : List Field) (xs : List Operand) → min (length fs) (length xs) ≤ i
    → Remains start now whole (more_named c locals (map (field_of trees) (drop i fs)) (drop i xs)) → Goes start now whole
named_done {start} {now} {whole} c locals trees i fs xs h r = r now (rw (named_past c locals trees i fs xs h) goes_nothing)

-- ---- parts of places

pub part_field_fields : (D : List Shape) (trees : List Tree) (fields : List Field) (i : ℕ)
    → option_map (at_id trees) (option_map field_id (slice_get fields i)) ≡ proj_ty D (fields_tree trees fields) (proj.Field i)
part_field_fields D trees fields i = field-of-fields D trees (fields_tree trees fields) fields i (sym (fields_of-tuple D (map field_ty_of (map (field_of trees) fields))))

-- what stands behind a projection, where it fits and where it doesn't
pub after_some : (c : Crate) (t u : Tree) (p : Proj) → proj_ty (shapes_of c) t p ≡ Some u → u ≡ type_after c t p
unfolding type_after
after_some c t u p h = rw h refl

pub after_none : (c : Crate) (t : Tree) (p : Proj) → proj_ty (shapes_of c) t p ≡ None → empty ≡ type_after c t p
unfolding type_after
after_none c t p h = rw h refl

pub deref_fields : (D : List Shape) (trees : List Tree) (fields : List Field) → proj_ty D (fields_tree trees fields) proj.Deref ≡ None
deref_fields D trees [] = refl
deref_fields D trees (f ∷ fields) = refl

pub downcast_fields : (D : List Shape) (trees : List Tree) (fields : List Field) (k : ℕ) → proj_ty D (fields_tree trees fields) (proj.Downcast k) ≡ None
downcast_fields D trees [] k = refl
downcast_fields D trees (f ∷ fields) k = refl

pub no_name_fields : (c : Crate) (trees : List Tree) (fields : List Field) (k : ℕ) → variant_name c (fields_tree trees fields) k ≡ []
unfolding variant_name
no_name_fields c trees [] k = refl
no_name_fields c trees (f ∷ fields) k = refl

pub name_named : (p : Program) (d k : ℕ) (def : Def) (v : Variant) → slice_get p.defs d ≡ Some def → slice_get def.variants k ≡ Some v → variant_name (crate_in p) (named d) k ≡ v.name
unfolding variant_name
name_named p d k def v h at = ap (λ x. x.name) (variant_some p d k def v h at)

pub name_no_variant : (p : Program) (d k : ℕ) (def : Def) → slice_get p.defs d ≡ Some def → slice_get def.variants k ≡ None → variant_name (crate_in p) (named d) k ≡ []
unfolding variant_name
name_no_variant p d k def h at = ap (λ x. x.name) (variant_none p d k def h at)

pub name_no_def : (p : Program) (d k : ℕ) → slice_get p.defs d ≡ None → variant_name (crate_in p) (named d) k ≡ []
unfolding variant_name
name_no_def p d k h = ap (λ x. (get_or x.variants k no_variant).name) (def_none p d h)

pub name_other : (c : Crate) (trees : List Tree) (ty : ty_of_table.Ty) (k : ℕ) → ((d : ℕ) → ty ≡ Named d → ⊥) → variant_name c (node trees ty) k ≡ []
unfolding variant_name
name_other c trees (Scalar s) k name = refl
name_other c trees (Tuple []) k name = refl
name_other c trees (Tuple (a ∷ ids)) k name = refl
name_other c trees (Ref a) k name = refl
name_other c trees (RefMut a) k name = refl
name_other c trees (Named d) k name = absurd (name d refl)

pub name_scalar : (c : Crate) (t : Tree) (k : ℕ) → t ≡ scalar scalar_ty.Bool → variant_name c t k ≡ []
unfolding variant_name
name_scalar c t k h = rw h refl

-- whether anything stands before the functions
none_stand : (trees : List Tree) (ds : List Def) (os : List Outside) (b : Bool) → length ds ≡ 0 → (length os == 0) ≡ b → not b ≡ others_stand (map (def_of trees) ds) (map (outside_of trees) os)
none_stand trees [] [] b e h = ap not (sym h)
none_stand trees [] (o ∷ os) true e h = let none = eqb-true (length (o ∷ os)) 0 h in absurd (omega (arith, none))
none_stand trees [] (o ∷ os) false e h = refl
none_stand trees (d ∷ ds) os b e h = absurd (omega (arith, e))

some_stand : (trees : List Tree) (ds : List Def) (os : List Outside) → (length ds == 0) ≡ false → true ≡ others_stand (map (def_of trees) ds) (map (outside_of trees) os)
some_stand trees [] os h = absurd cc
some_stand trees (d ∷ ds) os h = refl

pub no_defs_stand : (p : Program) (b : Bool) → (length p.defs == 0) ≡ true → (length p.outsides == 0) ≡ b → not b ≡ others_stand (crate_in p).defs (crate_in p).outsides
unfolding crate_in
no_defs_stand p b e h = none_stand (trees_of p.types) p.defs p.outsides b (eqb-true (length p.defs) 0 e) h

pub defs_stand : (p : Program) → (length p.defs == 0) ≡ false → true ≡ others_stand (crate_in p).defs (crate_in p).outsides
unfolding crate_in
defs_stand p h = some_stand (trees_of p.types) p.defs p.outsides h

-- ---- ids below a bound

ids_front : (n : ℕ) (ids : List TyId) (k : ℕ) → IsTrue (all_below n ids) → IsTrue (all_below n (take k ids))
ids_front n [] zero h = h
ids_front n [] (suc k) h = h
ids_front n (id ∷ ids) zero h = search rules
ids_front n (id ∷ ids) (suc k) h =
    let both : (id.0 < n) × IsTrue (all_below n ids) = search rules in
    let others = ids_front n ids k both.1 in
    search rules

pub ids_behind : (n : ℕ) (ids : List TyId) (k : ℕ) → IsTrue (all_below n ids) → IsTrue (all_below n (take k (drop 1 ids)))
ids_behind n [] k h = ids_front n [] k h
ids_behind n (id ∷ ids) k h = let both : (id.0 < n) × IsTrue (all_below n ids) = search rules in ids_front n ids k both.1

-- ---- what stands at a local, and at a part that is no type

pub local_some : (trees : List Tree) (ids : List TyId) (k : ℕ) (id : TyId) → slice_get ids k ≡ Some id → at_id trees id ≡ local_ty (map (at_id trees) ids) k
unfolding local_ty
local_some trees ids k id h = sym (ap (λ o. unwrap_or o empty) (slice_get-map (at_id trees) ids k ∙ ap (option_map (at_id trees)) h)) ∙ unwrap_or-slice_get (map (at_id trees) ids) k empty

pub local_none : (trees : List Tree) (ids : List TyId) (k : ℕ) → slice_get ids k ≡ None → empty ≡ local_ty (map (at_id trees) ids) k
unfolding local_ty
local_none trees ids k h = sym (ap (λ o. unwrap_or o empty) (slice_get-map (at_id trees) ids k ∙ ap (option_map (at_id trees)) h)) ∙ unwrap_or-slice_get (map (at_id trees) ids) k empty

pub other_deref : (c : Crate) (trees : List Tree) (part : Part) → ((id : TyId) → part ≡ Ty id → ⊥) → empty ≡ type_after c (part_tree trees part) proj.Deref
other_deref c trees (Ty id) other = absurd (other id refl)
other_deref c trees (Fields fields) other = after_none c (fields_tree trees fields.now) proj.Deref (deref_fields (shapes_of c) trees fields.now)

pub other_downcast : (c : Crate) (trees : List Tree) (part : Part) (k : ℕ) → ((id : TyId) → part ≡ Ty id → ⊥) → empty ≡ type_after c (part_tree trees part) (proj.Downcast k)
other_downcast c trees (Ty id) k other = absurd (other id refl)
other_downcast c trees (Fields fields) k other = after_none c (fields_tree trees fields.now) (proj.Downcast k) (downcast_fields (shapes_of c) trees fields.now k)

pub other_name : (c : Crate) (trees : List Tree) (part : Part) (k : ℕ) → ((id : TyId) → part ≡ Ty id → ⊥) → variant_name c (part_tree trees part) k ≡ []
other_name c trees (Ty id) k other = absurd (other id refl)
other_name c trees (Fields fields) k other = no_name_fields c trees fields.now k

pub name_read : (p : Program) (d k : ℕ) (def : Def) (o : Option (Bor Variant)) → slice_get p.defs d ≡ Some def → option_copied o ≡ slice_get def.variants k
    → MatchOption o (variant_name (crate_in p) (named d) k ≡ []) (λ v. variant_name (crate_in p) (named d) k ≡ v.now.name)
name_read p d k def None h is = name_no_variant p d k def h (sym is)
name_read p d k def (Some v) h is = name_named p d k def v.now h (sym is)

pub local_here : (trees : List Tree) (ids : List TyId) (k : ℕ) (id : TyId) → k < length ids → id ≡ get_or ids k id → at_id trees id ≡ local_ty (map (at_id trees) ids) k
unfolding local_ty
local_here trees [] k id within is = absurd (omega (arith, within))
local_here trees (x ∷ ids) zero id within is = ap (at_id trees) is
local_here trees (x ∷ ids) (suc k) id within is = local_here trees ids k id (omega (arith, within)) is

pub local_past : (trees : List Tree) (ids : List TyId) (k : ℕ) → length ids ≤ k → empty ≡ local_ty (map (at_id trees) ids) k
unfolding local_ty
local_past trees [] k past = refl
local_past trees (x ∷ ids) zero past = absurd (omega (arith, past))
local_past trees (x ∷ ids) (suc k) past = local_past trees ids k (omega (arith, past))
