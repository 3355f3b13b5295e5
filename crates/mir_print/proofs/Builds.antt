-- Texts of builds: of operands that are taken apart, and of what a program doesn't have.
use Rattle.std.proofs.Common.{◌≡◌, ℕ, ◌-◌, ◌≤◌, take, drop, List, [], ◌∷◌, ◌++◌, length, get_or, slice_get, Some, None, codes, sym, ap, subst, ◌∙◌, arith}
use Rattle.std.proofs.lemmas.List.{take_all}
use Rattle.mir_syntax.specs.declared.types.Def.{Def}
use Rattle.mir_syntax.specs.declared.types.Variant.{Variant}
use Rattle.mir_syntax.specs.declared.body.Operand.{Operand}
use Rattle.mir_syntax.specs.declared.program.Program.{Program}
use Rattle.mir_syntax.specs.Tree.{Tree, trees_of}
use Rattle.mir_syntax.specs.Crate.{Crate, def_of, variant_of}
use Rattle.mir_text.specs.TypeText.{piece, more_items, def_at}
use Rattle.mir_text.specs.PlaceText.{no_variant, variant_at, operand_text}
use Rattle.mir_text.specs.StatementText.{variant_path, build_text, tuple_text}
use Rattle.mir_print.specs.Seen.{crate_in}
use Rattle.mir_print.specs.Prints.{At, Goes}
use Rattle.mir_print.proofs.Printing.{goes_nothing}
use Rattle.mir_print.proofs.Texts.{def_some, def_none, variant_some, variant_none, build_none, build_bare}

-- a list of one item
pub opened_lone : {X : Type 0} {a e : At} (F : List X → List ℕ) (xs : List X) (item : X) → 1 ≤ length xs → length xs ≤ 1 → item ≡ get_or xs 0 item
    → Goes a e (F (item ∷ [])) → Goes a e (F xs)
opened_lone {X} {a} {e} F [] item some lone is g = absurd (omega arith)
opened_lone {X} {a} {e} F (x ∷ []) item some lone is g = subst (λ y. Goes a e (F (y ∷ []))) is g
opened_lone {X} {a} {e} F (x ∷ y ∷ xs) item some lone is g = absurd (omega arith)

-- a tuple of more than one part
pub opened_tuple : {a e : At} (c : Crate) (locals : List Tree) (xs : List Operand) (x : Operand) → 2 ≤ length xs → x ≡ get_or xs 0 x
    → Goes a e (piece (codes "(") ++ (operand_text c locals x ++ (more_items (operand_text c locals) (take (length xs - 1) (drop 1 xs)) ++ piece (codes ")"))))
    → Goes a e (tuple_text c locals xs)
unfolding tuple_text
opened_tuple {a} {e} c locals [] x some is g = absurd (omega arith)
opened_tuple {a} {e} c locals (y ∷ []) x some is g = absurd (omega arith)
opened_tuple {a} {e} c locals (y ∷ z ∷ zs) x some is g =
    let f = operand_text c locals in
    let all : take (length (y ∷ z ∷ zs) - 1) (z ∷ zs) ≡ z ∷ zs = take_all (length (y ∷ z ∷ zs) - 1) (z ∷ zs) (omega arith) in
    let whole : Goes a e (piece (codes "(") ++ (f x ++ (more_items f (z ∷ zs) ++ piece (codes ")")))) =
    subst (λ l. Goes a e (piece (codes "(") ++ (f x ++ (more_items f l ++ piece (codes ")"))))) all g in
    subst (λ w. Goes a e (piece (codes "(") ++ (f w ++ (more_items f (z ∷ zs) ++ piece (codes ")"))))) is whole

-- a build of what a program has or doesn't have
pub goes_no_def : {a : At} (p : Program) (locals : List Tree) (xs : List Operand) (d k : ℕ) → slice_get p.defs d ≡ None
    → Goes a a (build_text (crate_in p) locals (def_at (crate_in p) d) (variant_at (crate_in p) d k) xs)
goes_no_def {a} p locals xs d k h =
    let C = crate_in p in
    let none : build_text C locals (def_at C d) (variant_at C d k) xs ≡ [] =
    ap (λ x. build_text C locals x (get_or x.variants k no_variant) xs) (def_none p d h) ∙ build_none C locals xs k in
    subst (Goes a a) (sym none) goes_nothing

pub goes_no_variant : {a e : At} (p : Program) (locals : List Tree) (xs : List Operand) (d k : ℕ) (def : Def) → slice_get p.defs d ≡ Some def → slice_get def.variants k ≡ None
    → Goes a e (piece def.path ++ variant_path def.is_enum []) → Goes a e (build_text (crate_in p) locals (def_at (crate_in p) d) (variant_at (crate_in p) d k) xs)
goes_no_variant {a} {e} p locals xs d k def h at g =
    let C = crate_in p in
    let typed = def_of (trees_of p.types) def in
    let bare : build_text C locals (def_at C d) (variant_at C d k) xs ≡ piece def.path ++ variant_path def.is_enum [] =
    ap (λ x. build_text C locals x (variant_at C d k) xs) (def_some p d def h) ∙ ap (λ v. build_text C locals typed v xs) (variant_none p d k def h at) ∙ build_bare C locals typed xs in
    subst (Goes a e) (sym bare) g

pub goes_built : {a e : At} (p : Program) (locals : List Tree) (xs : List Operand) (d k : ℕ) (def : Def) (v : Variant) → slice_get p.defs d ≡ Some def → slice_get def.variants k ≡ Some v
    → Goes a e (build_text (crate_in p) locals (def_of (trees_of p.types) def) (variant_of (trees_of p.types) v) xs)
    → Goes a e (build_text (crate_in p) locals (def_at (crate_in p) d) (variant_at (crate_in p) d k) xs)
goes_built {a} {e} p locals xs d k def v h at g =
    let C = crate_in p in
    let typed = def_of (trees_of p.types) def in
    let same : build_text C locals (def_at C d) (variant_at C d k) xs ≡ build_text C locals typed (variant_of (trees_of p.types) v) xs =
    ap (λ x. build_text C locals x (variant_at C d k) xs) (def_some p d def h) ∙ ap (λ w. build_text C locals typed w xs) (variant_some p d k def v h at) in
    subst (Goes a e) (sym same) g
