-- The flat form of values of definitions, and of a whole value.
use Rattle.std.proofs.Common.{◌≡◌, ◌∙◌, refl, sym, ap, ℕ, zero, suc, ◌-◌, Bool, true, false, List, [], ◌∷◌, ◌++◌, map, length, Option, Some, None, slice_get, ℤ, pos, append_assoc, arith}
use Rattle.std.proofs.lemmas.List.{map-append}
use Rattle.mir_syntax.specs.declared.number.Number.{Number}
use Rattle.mir_syntax.specs.declared.types.Field.{Field}
use Rattle.mir_syntax.specs.declared.program.Program.{Program}
use Rattle.mir_syntax.specs.Tree.{Tree, named, trees_of}
use Rattle.mir_syntax.specs.Shapes.{Shape, ◌>>=◌, fields_tree, fields_of_struct, variant_of_enum, struct_fields, fields_of, variant_ty}
use Rattle.mir_semantics.specs.Values.{Value, number, nil, cons, variant, pointer, hole}
use Rattle.mir_semantics.specs.Step.{variant_in}
use Rattle.mir_semantics.specs.Entry.{both, flat_by, flat_fields, flat_variant, flat_of, flat_def, flat}
use Rattle.mir_meaning.specs.Programs.{shapes_in}
use Rattle.mir_meaning.proofs.Blanks.{depth_enough}
use Rattle.mir_machine.specs.Ends.{integer_in}
use Rattle.mir_entry.specs.Pushed.{pushed}
use Rattle.mir_entry.proofs.FlatParts.{both_none}

-- ---- joined

both_nil : (x : Option (List ℤ)) → both (Some []) x ≡ x
unfolding ◌>>=◌
both_nil None = refl
both_nil (Some xs) = refl

both_on : (a b : List ℤ) (x : Option (List ℤ)) → both (Some a) (both (Some b) x) ≡ both (Some (a ++ b)) x
unfolding ◌>>=◌
both_on a b None = refl
both_on a b (Some xs) = ap Some (sym (append_assoc a b xs))

-- ---- definitions

pub def_last : (D : List Shape) (n d : ℕ) (v : Value) (a : List ℤ) → n ≡ 0 → both (Some a) (flat_def D n d v) ≡ None
def_last D zero d v a h = both_none a None refl
def_last D (suc n) d v a h = absurd (omega arith)

struct_of : (f : ℕ → Value → Option (List ℤ)) (o : Option Shape) (t : Tree) (v : Value) → (o >>= fields_of_struct) ≡ Some t → flat_of f o v ≡ flat_by f t v
unfolding ◌>>=◌
struct_of f None t v h = absurd cc
struct_of f (Some s) t v h = by_kind s.is_enum refl
  where
    by_kind : (b : Bool) → s.is_enum ≡ b → flat_of f (Some s) v ≡ flat_by f t v
    by_kind true e = let wrong : ◌≡◌ {A = Option Tree} None (Some t) = rw e at h in absurd cc
    by_kind false e = let same : ◌≡◌ {A = Option Tree} (Some (struct_fields s)) (Some t) = rw e at h in let own : struct_fields s ≡ t = cc in rw e (ap (λ u. flat_by f u v) own)

pub struct_pushed : (p : Program) (n d : ℕ) (fields : List Field) (v : Value) (a : List ℤ) (w : Option (List ℤ)) → (n ≡ 0 → ⊥) → Some (fields_tree (trees_of p.types) fields) ≡ fields_of (shapes_in p) (named d)
    → both (Some a) (flat_by (flat_def (shapes_in p) (n - 1)) (fields_tree (trees_of p.types) fields) v) ≡ w → both (Some a) (flat_def (shapes_in p) n d v) ≡ w
struct_pushed p zero d fields v a w some e h = absurd (some refl)
struct_pushed p (suc n) d fields v a w some e h =
    let one : suc n - 1 ≡ n = omega arith in
    ap (both (Some a)) (struct_of (flat_def (shapes_in p) n) (slice_get (shapes_in p) d) (fields_tree (trees_of p.types) fields) v (sym e))
    ∙ ap (λ m. both (Some a) (flat_by (flat_def (shapes_in p) m) (fields_tree (trees_of p.types) fields) v)) (sym one) ∙ h

enum_of : (f : ℕ → Value → Option (List ℤ)) (o : Option Shape) (k : ℕ) (v : Value) → (o >>= fields_of_struct) ≡ None → flat_of f o (variant k v) ≡ both (Some (pos k ∷ [])) (flat_fields f (o >>= variant_of_enum k) v)
unfolding ◌>>=◌
enum_of f None k v h = refl
enum_of f (Some s) k v h = by_kind s.is_enum refl
  where
    by_kind : (b : Bool) → s.is_enum ≡ b → flat_of f (Some s) (variant k v) ≡ both (Some (pos k ∷ [])) (flat_fields f (variant_of_enum k s) v)
    by_kind true e = rw e refl
    by_kind false e = let wrong : ◌≡◌ {A = Option Tree} (Some (struct_fields s)) None = rw e at h in absurd cc

no_variant : (f : ℕ → Value → Option (List ℤ)) (ts : List Tree) (v : Value) → None ≡ variant_in v → flat_variant f ts v ≡ None
no_variant f ts (number n) h = refl
no_variant f ts nil h = refl
no_variant f ts (cons v vs) h = refl
no_variant f ts (variant k v) h = absurd cc
no_variant f ts (pointer p) h = refl
no_variant f ts hole h = refl

other_of : (f : ℕ → Value → Option (List ℤ)) (o : Option Shape) (v : Value) → (o >>= fields_of_struct) ≡ None → None ≡ variant_in v → flat_of f o v ≡ None
unfolding ◌>>=◌
other_of f None v h g = refl
other_of f (Some s) v h g = by_kind s.is_enum refl
  where
    by_kind : (b : Bool) → s.is_enum ≡ b → flat_of f (Some s) v ≡ None
    by_kind true e = rw e (no_variant f s.variants v g)
    by_kind false e = let wrong : ◌≡◌ {A = Option Tree} (Some (struct_fields s)) None = rw e at h in absurd cc

pub def_other : (D : List Shape) (n d : ℕ) (v : Value) (a : List ℤ) → None ≡ fields_of D (named d) → None ≡ variant_in v → both (Some a) (flat_def D n d v) ≡ None
def_other D zero d v a e h = both_none a None refl
def_other D (suc n) d v a e h = both_none a (flat_of (flat_def D n) (slice_get D d) v) (other_of (flat_def D n) (slice_get D d) v (sym e) h)

-- no such variant
pub def_past : (D : List Shape) (n d k : ℕ) (t : Tree) (v w : Value) (a : List ℤ) → None ≡ fields_of D (named d) → t ≡ named d → None ≡ variant_ty D t k → v ≡ variant k w → both (Some a) (flat_def D n d v) ≡ None
def_past D zero d k t v w a e g h s = both_none a None refl
def_past D (suc n) d k t v w a e g h s =
    let none : variant_ty D (named d) k ≡ None = sym (h ∙ ap (λ u. variant_ty D u k) g) in
    rw s (both_none a (flat_of (flat_def D n) (slice_get D d) (variant k w)) (enum_of (flat_def D n) (slice_get D d) k w (sym e) ∙ both_none (pos k ∷ []) (flat_fields (flat_def D n) (variant_ty D (named d) k) w) (ap (λ o. flat_fields (flat_def D n) o w) none)))

pub variant_pushed : (p : Program) (n d k : ℕ) (t : Tree) (fields : List Field) (v w : Value) (old new : List Number) (x : Number) (whole : Option (List ℤ)) → (n ≡ 0 → ⊥) → None ≡ fields_of (shapes_in p) (named d) → t ≡ named d
    → Some (fields_tree (trees_of p.types) fields) ≡ variant_ty (shapes_in p) t k → v ≡ variant k w → integer_in x ≡ pos k → new ≡ old ++ x ∷ []
    → both (Some (map integer_in new)) (flat_by (flat_def (shapes_in p) (n - 1)) (fields_tree (trees_of p.types) fields) w) ≡ whole → both (Some (map integer_in old)) (flat_def (shapes_in p) n d v) ≡ whole
variant_pushed p zero d k t fields v w old new x whole some e g h s shown put kept = absurd (some refl)
variant_pushed p (suc n) d k t fields v w old new x whole some e g h s shown put kept =
    let one : suc n - 1 ≡ n = omega arith in
    let f = flat_def (shapes_in p) n in
    let fs = fields_tree (trees_of p.types) fields in
    let there : variant_ty (shapes_in p) (named d) k ≡ Some fs = sym (h ∙ ap (λ u. variant_ty (shapes_in p) u k) g) in
    let more : map integer_in new ≡ map integer_in old ++ pos k ∷ [] = ap (map integer_in) put ∙ map-append integer_in old (x ∷ []) ∙ ap (λ i. map integer_in old ++ i ∷ []) shown in
    let own : flat_def (shapes_in p) (suc n) d v ≡ both (Some (pos k ∷ [])) (flat_by f fs w) =
    ap (flat_def (shapes_in p) (suc n) d) s ∙ enum_of f (slice_get (shapes_in p) d) k w (sym e) ∙ ap (λ o. both (Some (pos k ∷ [])) (flat_fields f o w)) there in
    ap (both (Some (map integer_in old))) own ∙ both_on (map integer_in old) (pos k ∷ []) (flat_by f fs w) ∙ ap (λ is. both (Some is) (flat_by f fs w)) (sym more)
    ∙ ap (λ m. both (Some (map integer_in new)) (flat_by (flat_def (shapes_in p) m) fs w)) (sym one) ∙ kept

-- ---- whole values

flat_in : (p : Program) (t : Tree) (v : Value) (n : ℕ) (old : List Number) → n ≡ length p.defs → old ≡ [] → both (Some (map integer_in old)) (flat_by (flat_def (shapes_in p) n) t v) ≡ flat (shapes_in p) t v
unfolding flat
flat_in p t v n old e h =
    ap (λ ns. both (Some (map integer_in ns)) (flat_by (flat_def (shapes_in p) n) t v)) h ∙ both_nil (flat_by (flat_def (shapes_in p) n) t v)
    ∙ ap (λ m. flat_by (flat_def (shapes_in p) m) t v) (e ∙ depth_enough p)

pub flat_some : (p : Program) (t : Tree) (v : Value) (n : ℕ) (b : Bool) (old new : List Number) → n ≡ length p.defs → old ≡ [] → both (Some (map integer_in old)) (flat_by (flat_def (shapes_in p) n) t v) ≡ pushed b new → b ≡ true
    → Some (map integer_in new) ≡ flat (shapes_in p) t v
flat_some p t v n b old new e h k g = sym (sym (flat_in p t v n old e h) ∙ k ∙ ap (λ c. pushed c new) g)

pub flat_none : (p : Program) (t : Tree) (v : Value) (n : ℕ) (b : Bool) (old new : List Number) → n ≡ length p.defs → old ≡ [] → both (Some (map integer_in old)) (flat_by (flat_def (shapes_in p) n) t v) ≡ pushed b new → b ≡ false
    → None ≡ flat (shapes_in p) t v
flat_none p t v n b old new e h k g = sym (sym (flat_in p t v n old e h) ∙ k ∙ ap (λ c. pushed c new) g)
