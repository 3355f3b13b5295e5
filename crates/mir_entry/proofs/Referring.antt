-- References in types, part by part.
use Rattle.std.proofs.Common.{◌≡◌, ◌∙◌, refl, sym, ap, ℕ, zero, suc, ◌+◌, ◌-◌, ◌<◌, ◌≤◌, Bool, true, false, ◌||◌, List, [], ◌∷◌, map, length, drop, get_or, slice_get, Some, None, add-one, arith}
use Rattle.std.proofs.Math.Seq.{drop-cons}
use Rattle.mir_syntax.specs.declared.types.TyId.{TyId}
use Rattle.mir_syntax.specs.declared.types.Def.{Def}
use Rattle.mir_syntax.specs.declared.program.Program.{Program}
use Rattle.mir_syntax.specs.Tree.{Tree, more, at_id, at_ids, trees_of}
use Rattle.mir_syntax.specs.Crate.{variant_of}
use Rattle.mir_syntax.specs.Shapes.{Shape, fields_tuple}
use Rattle.mir_syntax.proofs.Places.{shape-at, shape-past}
use Rattle.mir_semantics.specs.Entry.{refers_by, refers_of, refers_def, any_refers, holds_reference}
use Rattle.mir_meaning.specs.Programs.{shapes_in}
use Rattle.mir_meaning.proofs.Blanks.{depth_enough}

-- ---- definitions

pub refers_last : (D : List Shape) (n d : ℕ) → n ≡ 0 → false ≡ refers_def D n d
refers_last D zero d h = refl
refers_last D (suc n) d h = absurd (omega arith)

pub refers_past : (p : Program) (n d : ℕ) → slice_get p.defs d ≡ None → false ≡ refers_def (shapes_in p) n d
refers_past p zero d h = refl
refers_past p (suc n) d h = sym (ap (refers_of (refers_def (shapes_in p) n)) (shape-past p d h))

pub refers_at : (p : Program) (n d : ℕ) (def : Def) → (n ≡ 0 → ⊥) → slice_get p.defs d ≡ Some def
    → any_refers (refers_def (shapes_in p) (n - 1)) (map fields_tuple (map (variant_of (trees_of p.types)) def.variants)) ≡ refers_def (shapes_in p) n d
refers_at p zero d def some h = absurd (some refl)
refers_at p (suc n) d def some h =
    let one : suc n - 1 ≡ n = omega arith in
    rw one (sym (ap (refers_of (refers_def (shapes_in p) n)) (shape-at p d def h)))

-- ---- lists of types

or_true : (a b : Bool) → a ≡ true → (a || b) ≡ true
or_true a b e = rw e refl

or_false : (a b : Bool) → a ≡ false → (a || b) ≡ b
or_false a b e = rw e refl

-- ---- signatures

pub holds_more : (D : List Shape) (t ts : Tree) → holds_reference D (more t ts) ≡ (holds_reference D t || holds_reference D ts)
unfolding holds_reference
holds_more D t ts = refl

pub holds_in : (p : Program) (t : Tree) (n : ℕ) (r : Bool) → n ≡ length p.defs → r ≡ refers_by (refers_def (shapes_in p) n) t → r ≡ holds_reference (shapes_in p) t
unfolding holds_reference
holds_in p t n r e h = h ∙ ap (λ m. refers_by (refers_def (shapes_in p) m) t) (e ∙ depth_enough p)

pub any_on : (D : List Shape) (trees : List Tree) (types : List TyId) (i : ℕ) (d : TyId) → i < length types → holds_reference D (at_id trees (get_or types i d)) ≡ false → holds_reference D (at_ids trees (drop i types)) ≡ holds_reference D (at_ids trees (drop (i + 1) types))
any_on D trees types i d h off =
    ap (λ xs. holds_reference D (at_ids trees xs)) (drop-cons types i d h) ∙ holds_more D (at_id trees (get_or types i d)) (at_ids trees (drop (suc i) types)) ∙ or_false _ _ off
    ∙ ap (λ n. holds_reference D (at_ids trees (drop n types))) (sym (add-one i))

pub any_stop : (D : List Shape) (trees : List Tree) (types : List TyId) (i : ℕ) (d : TyId) → i < length types → holds_reference D (at_id trees (get_or types i d)) ≡ true → true ≡ holds_reference D (at_ids trees (drop i types))
any_stop D trees types i d h on =
    sym (ap (λ xs. holds_reference D (at_ids trees xs)) (drop-cons types i d h) ∙ holds_more D (at_id trees (get_or types i d)) (at_ids trees (drop (suc i) types)) ∙ or_true _ _ on)

none_left : {A : Type 0} (xs : List A) (n : ℕ) → length xs ≤ n → drop n xs ≡ []
none_left [] zero h = refl
none_left [] (suc n) h = refl
none_left (x ∷ xs) zero h = absurd (omega arith)
none_left (x ∷ xs) (suc n) h = none_left xs n (omega arith)

pub any_end : (D : List Shape) (trees : List Tree) (types : List TyId) (n : ℕ) → length types ≤ n → false ≡ holds_reference D (at_ids trees (drop n types))
unfolding holds_reference
any_end D trees types n h = sym (ap (λ xs. holds_reference D (at_ids trees xs)) (none_left types n h))
