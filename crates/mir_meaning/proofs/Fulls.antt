-- Values with no hole at a unit of drop, part by part.
use Rattle.std.proofs.Common.{◌≡◌, ℕ, zero, suc, Bool, true, false, not, nat_eq, if◌then◌else◌, List, [], ◌∷◌, length, slice_get, Option, Some, None, refl, sym, ap, ◌∙◌}
use Rattle.mir_syntax.specs.declared.types.TyId.{TyId}
use Rattle.mir_syntax.specs.declared.types.Field.{Field}
use Rattle.mir_syntax.specs.declared.program.Program.{Program}
use Rattle.mir_syntax.specs.Tree.{Tree, more, named, at_id, at_ids}
use Rattle.mir_syntax.specs.Shapes.{Shape, fields_tree, struct_fields, needs_drop, needs_def}
use Rattle.mir_semantics.specs.Values.{Value, number, nil, cons, variant, pointer, hole, part, is_hole, is_unit, full, full_by, full_of, full_def}
use Rattle.mir_meaning.specs.Programs.{shapes_in, parts_of}
use Rattle.mir_meaning.proofs.Blanks.{depth_enough}

no_items : (f : ℕ → Value → Bool) (t ts : Tree) (v : Value) → ((i : ℕ) → part i v ≡ None) → false ≡ full_by f (more t ts) v
no_items f t ts (number n) h = refl
no_items f t ts nil h = refl
no_items f t ts (cons v vs) h = absurd (let none : Some v ≡ None = h zero in cc)
no_items f t ts (variant k v) h = refl
no_items f t ts (pointer a) h = refl
no_items f t ts hole h = refl

pub no_ids : (f : ℕ → Value → Bool) (trees : List Tree) (ids : List TyId) (v : Value) (b : Bool) → b ≡ nat_eq (length ids) 0 → b ≡ false → ((i : ℕ) → part i v ≡ None) → false ≡ full_by f (at_ids trees ids) v
no_ids f trees [] v b e n h = absurd cc
no_ids f trees (id ∷ ids) v b e n h = no_items f (at_id trees id) (at_ids trees ids) v h

pub no_fields : (f : ℕ → Value → Bool) (trees : List Tree) (fields : List Field) (v : Value) (b : Bool) → b ≡ nat_eq (length fields) 0 → b ≡ false → ((i : ℕ) → part i v ≡ None) → false ≡ full_by f (fields_tree trees fields) v
no_fields f trees [] v b e n h = absurd cc
no_fields f trees (x ∷ fields) v b e n h = no_items f (at_id trees x.ty) (fields_tree trees fields) v h

needs_nothing : (D : List Shape) (n d : ℕ) → slice_get D d ≡ None → needs_def D n d ≡ false
needs_nothing D zero d h = refl
needs_nothing D (suc n) d h = rw h refl

needs_none : (D : List Shape) (d : ℕ) → slice_get D d ≡ None → needs_drop D (named d) ≡ false
unfolding needs_drop
needs_none D d h = needs_nothing D (length D) d h

go_unit : (f : ℕ → Value → Bool) (o : Option Shape) (v : Value) → (o ≡ None → ⊥) → None ≡ parts_of o → not (is_hole v) ≡ full_of f true o v
go_unit f None v there h = absurd (there refl)
go_unit f (Some s) v there h = by_unit (is_unit s) refl
  where
    by_unit : (b : Bool) → is_unit s ≡ b → not (is_hole v) ≡ full_of f true (Some s) v
    by_unit true e = rw e refl
    by_unit false e = absurd (let wrong : None ≡ Some (struct_fields s) = h ∙ ap (λ b. if b then None else Some (struct_fields s)) e in cc)

-- a unit of drop is full where it is no hole
pub full_unit : (D : List Shape) (n d : ℕ) (t : Tree) (v : Value) → (n ≡ 0 → ⊥) → t ≡ named d → needs_drop D t ≡ true → None ≡ parts_of (slice_get D d) → not (is_hole v) ≡ full_def D n d v
full_unit D zero d t v n e needs h = absurd (n refl)
full_unit D (suc n) d t v _ e needs h =
    let needed : needs_drop D (named d) ≡ true = sym (ap (needs_drop D) e) ∙ needs in
    let there : slice_get D d ≡ None → ⊥ = λ gone. (let wrong : true ≡ false = sym needed ∙ needs_none D d gone in cc) in
    rw needed (go_unit (full_def D n) (slice_get D d) v there h)

pub full_whole : (p : Program) (t : Tree) (v : Value) (n : ℕ) (b : Bool) → n ≡ length p.defs → b ≡ full_by (full_def (shapes_in p) n) t v → b ≡ full (shapes_in p) t v
unfolding full
full_whole p t v n b e h = h ∙ ap (λ m. full_by (full_def (shapes_in p) m) t v) (e ∙ depth_enough p)
