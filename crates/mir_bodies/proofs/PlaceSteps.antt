-- A place that is read, one projection after another.
use Rattle.std.proofs.Common.{◌≡◌, ℕ, ◌<◌, Bool, ◌||◌, List, [], ◌∷◌, ◌++◌, length, Option, Some, None, IfSome, is_some, refl, sym, ap, ap₂, ◌∙◌, append_assoc, arith}
use Rattle.std.specs.Option.{option_map, unwrap_or}
use Rattle.mir_syntax.specs.declared.types.TyId.{TyId}
use Rattle.mir_syntax.specs.declared.body.Proj.{Proj}
use Rattle.mir_syntax.specs.declared.body.Proj.TheVariants.{Field, Downcast, Deref}
use Rattle.mir_syntax.specs.declared.program.Program.{Program}
use Rattle.mir_syntax.specs.Tree.{Tree, at_id, trees_of}
use Rattle.mir_syntax.specs.Crate.{crate_of}
use Rattle.mir_syntax.specs.Shapes.{shapes_of, shapes_from, ◌>>=◌}
use Rattle.mir_text.specs.GrammarTypes.{TypeRule}
use Rattle.mir_text.specs.GrammarPlaces as g
use Rattle.mir_text.specs.GrammarPlaces.{PlaceRule}
use Rattle.mir_text.specs.Names.{Names, string_at, ty_of}
use Rattle.mir_text.specs.NamedBodies.{place_ty_of, projs_named, variant_at_place, variant_of_ty, or_zero, local_in, downcast_ty}
use Rattle.mir_text.specs.NameFaults.{Fault, on_line, unless, type_codes, place_codes}
use Rattle.mir_text.specs.ReadLines.{differs}
use Rattle.mir_tree.specs.declared.operand.ProjText.{ProjText}
use Rattle.mir_tree.specs.declared.operand.ProjText.TheVariants as p
use Rattle.mir_tree.specs.Types.{type_rule}
use Rattle.mir_tree.specs.Bodies.{place_from}
use Rattle.mir_resolve.specs.declared.draft.Draft.{Draft}
use Rattle.mir_resolve.specs.Faults.{noted}
use Rattle.mir_resolve.specs.Definitions.{Went}
use Rattle.mir_resolve.proofs.Noting.{noted_on}
use Rattle.mir_bodies.specs.declared.scope.Scope.{Scope}
use Rattle.mir_bodies.specs.declared.place.Walk.{Walk}
use Rattle.mir_bodies.specs.Scope.{Sense, Tells}
use Rattle.mir_bodies.specs.Places.{pointee_of, field_of_ty, variant_by_name, variant_field_of, downcast_by, Reaches}
use Rattle.mir_bodies.proofs.Shaped.{field_alike, variant_field_alike}
use Rattle.mir_bodies.proofs.TellsOn.{ty_kept, ty_inside}

-- ---- by the shapes that a scope tells

shapes_told : {scope : Scope} {p : Program} {sense : Sense} → Tells scope p sense → sense.names.shapes ≡ shapes_from [] 0 (crate_of p).defs
shapes_told t = t.shapes ∙ ap (shapes_from [] 0) t.defs

field_told : {scope : Scope} {p : Program} {sense : Sense} → Tells scope p sense → (n : ℕ) (o : Option Tree)
    → field_of_ty (shapes_of (crate_of p)) n o ≡ field_of_ty sense.names.shapes n o
unfolding shapes_of
field_told {scope = scope} {p = p} {sense = sense} t n o =
    field_alike (crate_of p).functions [] (crate_of p).defs o n ∙ ap (λ D. field_of_ty D n o) (sym (shapes_told {scope = scope} {p = p} {sense = sense} t))

variant_field_told : {scope : Scope} {p : Program} {sense : Sense} → Tells scope p sense → (n : ℕ) (k : Option ℕ) (o : Option Tree)
    → variant_field_of (shapes_of (crate_of p)) n k o ≡ variant_field_of sense.names.shapes n k o
unfolding shapes_of
variant_field_told {scope = scope} {p = p} {sense = sense} t n k o =
    variant_field_alike (crate_of p).functions [] (crate_of p).defs o n k ∙ ap (λ D. variant_field_of D n k o) (sym (shapes_told {scope = scope} {p = p} {sense = sense} t))

-- ---- one projection

pub deref_step : (sense : Sense) (start : Option Fault) (line : ℕ) (q : PlaceRule) (walk : Walk) (draft : Draft) (ty : Option TyId) (proj : List Proj)
    → option_map (at_id (trees_of draft.program.types)) ty ≡ pointee_of (option_map (at_id (trees_of draft.program.types)) walk.ty)
    → IfSome ty (λ id. id.0 < length draft.program.types) → proj ≡ walk.proj ++ Deref ∷ []
    → Reaches sense start line q walk draft → Reaches sense start line (g.deref q) (record { ty = ty; proj = proj; wrong = walk.wrong }) draft
deref_step sense start line q walk draft ty proj is inside put r = record {
  ty = is ∙ ap pointee_of r.ty;
  inside = inside;
  proj = put ∙ ap (λ l. l ++ Deref ∷ []) r.proj;
  wrong = r.wrong;
  notes = r.notes;
}

pub field_step : (scope : Scope) (sense : Sense) (start : Option Fault) (line : ℕ) (q : PlaceRule) (walk : Walk) (old new : Draft) (n : ℕ) (u : TypeRule) (ty : Option TyId)
    (d wrong : Bool) (proj : List Proj)
    → Tells scope old.program sense
    → option_map (at_id (trees_of old.program.types)) ty ≡ field_of_ty (shapes_of (crate_of old.program)) n (option_map (at_id (trees_of old.program.types)) walk.ty)
    → IfSome ty (λ id. id.0 < length old.program.types)
    → d ≡ differs (option_map (at_id (trees_of old.program.types)) ty) (ty_of sense.names u)
    → Went old new line (type_codes sense.names u) → proj ≡ walk.proj ++ Field n ∷ [] → wrong ≡ (walk.wrong || d)
    → Reaches sense start line q walk old → Reaches sense start line (g.field q n u) (record { ty = ty; proj = proj; wrong = wrong }) new
field_step scope sense start line q walk old new n u ty d wrong proj t is inside differ went put or r =
    let stands : option_map (at_id (trees_of old.program.types)) ty ≡ place_ty_of sense.names sense.locals (g.field q n u) =
    is ∙ ap (field_of_ty (shapes_of (crate_of old.program)) n) r.ty ∙ field_told {scope = scope} {p = old.program} {sense = sense} t n (place_ty_of sense.names sense.locals q) in
    record {
      ty = ty_kept old.program.types new.program.types ty went.grown.types inside ∙ stands;
      inside = ty_inside old.program.types new.program.types ty went.grown.types inside;
      proj = put ∙ ap (λ l. l ++ Field n ∷ []) r.proj;
      wrong = or ∙ ap₂ (λ a b. a || b) r.wrong (differ ∙ ap (λ o. differs o (ty_of sense.names u)) stands);
      notes = went.notes ∙ ap (λ k. noted k (on_line line (type_codes sense.names u))) r.notes
          ∙ sym (noted_on start line (place_codes sense.names sense.locals q) (type_codes sense.names u));
    }

zero_or : (o : Option ℕ) → unwrap_or o 0 ≡ or_zero o
zero_or None = refl
zero_or (Some n) = refl

same_downcast : (names : Names) (t : Tree) (n : ℕ) (k : Option ℕ) → downcast_by names.shapes t n k ≡ downcast_ty names t n k
same_downcast names t n None = refl
same_downcast names t n (Some k) = refl

-- a variant's field, where the variant is found by its name
by_name : (names : Names) (v n : ℕ) (o : Option Tree) → variant_field_of names.shapes n (variant_by_name names v o) o
    ≡ o >>= (λ t. downcast_ty names t n (variant_of_ty names (string_at names.strings v) t))
unfolding ◌>>=◌
by_name names v n None = refl
by_name names v n (Some t) = same_downcast names t n (variant_of_ty names (string_at names.strings v) t)

pub variant_step : (scope : Scope) (sense : Sense) (start : Option Fault) (line : ℕ) (q : PlaceRule) (walk : Walk) (old between new : Draft) (v n : ℕ) (u : TypeRule)
    (k : Option ℕ) (ty : Option TyId) (d wrong : Bool) (one proj : List Proj)
    → Tells scope old.program sense
    → k ≡ variant_by_name sense.names v (option_map (at_id (trees_of old.program.types)) walk.ty)
    → between.program ≡ old.program → between.notes ≡ noted old.notes (on_line line (unless (is_some k) 13))
    → option_map (at_id (trees_of old.program.types)) ty ≡ variant_field_of (shapes_of (crate_of old.program)) n k (option_map (at_id (trees_of old.program.types)) walk.ty)
    → IfSome ty (λ id. id.0 < length old.program.types)
    → d ≡ differs (option_map (at_id (trees_of old.program.types)) ty) (ty_of sense.names u)
    → Went between new line (type_codes sense.names u)
    → one ≡ walk.proj ++ Downcast (unwrap_or k 0) ∷ [] → proj ≡ one ++ Field n ∷ [] → wrong ≡ (walk.wrong || d)
    → Reaches sense start line q walk old → Reaches sense start line (g.variant_field q v n u) (record { ty = ty; proj = proj; wrong = wrong }) new
variant_step scope sense start line q walk old between new v n u k ty d wrong one proj t found same coded is inside differ went first put or r =
    let names = sense.names in
    let at = place_ty_of names sense.locals q in
    let number : k ≡ variant_at_place names sense.locals q v = found ∙ ap (variant_by_name names v) r.ty in
    let stands : option_map (at_id (trees_of old.program.types)) ty ≡ place_ty_of names sense.locals (g.variant_field q v n u) =
    is ∙ ap₂ (λ o i. variant_field_of (shapes_of (crate_of old.program)) n i o) r.ty number
    ∙ variant_field_told {scope = scope} {p = old.program} {sense = sense} t n (variant_at_place names sense.locals q v) at
    ∙ by_name names v n at in
    let grown = went.grown.types in
    let codes = place_codes names sense.locals q in
    let missing = unless (is_some (variant_at_place names sense.locals q v)) 13 in
    record {
      ty = ty_kept old.program.types new.program.types ty (rw same at grown) inside ∙ stands;
      inside = ty_inside old.program.types new.program.types ty (rw same at grown) inside;
      proj = put ∙ ap (λ l. l ++ Field n ∷ []) (first ∙ ap₂ (λ l i. l ++ Downcast i ∷ []) r.proj (zero_or k ∙ ap or_zero number))
          ∙ append_assoc (projs_named names sense.locals q) (Downcast (or_zero (variant_at_place names sense.locals q v)) ∷ []) (Field n ∷ []);
      wrong = or ∙ ap₂ (λ a b. a || b) r.wrong (differ ∙ ap (λ o. differs o (ty_of names u)) stands);
      notes = went.notes
          ∙ ap (λ kept. noted kept (on_line line (type_codes names u)))
          (coded ∙ ap₂ (λ kept i. noted kept (on_line line (unless (is_some i) 13))) r.notes number ∙ sym (noted_on start line codes missing))
          ∙ sym (noted_on start line (codes ++ missing) (type_codes names u));
    }

-- ---- where a place ends

-- where no projections are left the place is whole
pub place_ended : (q whole : PlaceRule) (left : List ProjText) → length left < 1 → place_from q left ≡ whole → q ≡ whole
place_ended q whole [] short h = h
place_ended q whole (x ∷ left) short h = absurd (omega arith)

pub local_kept : (q : PlaceRule) (ps : List ProjText) → local_in (place_from q ps) ≡ local_in q
local_kept q [] = refl
local_kept q (p.Deref ∷ ps) = local_kept (g.deref q) ps
local_kept q (p.Field n ty ∷ ps) = local_kept (g.field q n (type_rule ty)) ps
local_kept q (p.VariantField name n ty ∷ ps) = local_kept (g.variant_field q name n (type_rule ty)) ps
