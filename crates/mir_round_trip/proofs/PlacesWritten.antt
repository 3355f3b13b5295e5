-- The places that a derivation names are such as a canonical text writes, where they have types and are written with those of their fields.
use Rattle.mir_round_trip.specs.Names.{IsName, crate_paths, Proper, tree_depth}
use Rattle.mir_round_trip.specs.Bodies.{AreFields, plain_shapes, names_at, field_type, IsVariant, Path, path_depth, depth_at, IsPlace}
use Rattle.std.proofs.Common.{◌≡◌, ◌<◌, ◌≤◌, ◌^◌, ℕ, zero, suc, max, Bool, true, false, not, List, [], ◌∷◌, ◌++◌, map, length, get_or, refl, sym, ap, subst, ◌∙◌, arith, Option, Some, None, is_some, slice_get}
use Rattle.mir_syntax.specs.declared.body.Proj.{Proj}
use Rattle.mir_syntax.specs.declared.body.Proj.TheVariants.{Field, Downcast, Deref}
use Rattle.mir_syntax.specs.Tree.{Tree, named}
use Rattle.mir_syntax.specs.Crate.{TypedVariant, TypedDef, Crate}
use Rattle.mir_syntax.specs.Shapes.{◌>>=◌, pointee, proj_ty}
use Rattle.mir_text.specs.Words.{place_in}
use Rattle.mir_text.specs.GrammarPlaces as p
use Rattle.mir_text.specs.GrammarPlaces.{PlaceRule}
use Rattle.mir_text.specs.GrammarTypes.{TypeRule}
use Rattle.mir_text.specs.Names.{Strings, Names, string_at, type_named, same_type}
use Rattle.mir_text.specs.NamedBodies.{Declared, declared_ty, variant_names, variant_in, variant_of_ty, place_ty_of, downcast_ty, variant_at_place, or_zero, local_in, projs_named, place_named}
use Rattle.mir_text.specs.NameFaults.{unless, type_codes, place_codes}
use Rattle.mir_text.specs.Nesting.{type_depth, place_depth, Small, PlaceGood}
use Rattle.mir_text.specs.ReadLines.{differs, is_wrong}
use Rattle.mir_text.specs.TypeText.{no_def, def_at}
use Rattle.mir_text.specs.PlaceText.{or_unit, local_ty, type_after, no_variant, variant_at}
use Rattle.mir_text.proofs.Numbered.{place_from-there}
use Rattle.mir_text.proofs.Codes.{unless_met}
use Rattle.mir_syntax.proofs.Binds.{bind_some}
use Rattle.mir_rules.proofs.Lists.{append_empty-left, append_empty-right, or_false-left, or_false-right}
use Rattle.mir_round_trip.proofs.Numbering.{stands-at}
use Rattle.mir_round_trip.proofs.Meaning.{proj-same}
use Rattle.mir_round_trip.proofs.Rvalues.{two-same}
use Rattle.mir_round_trip.proofs.TypesWritten.{PathsWritten, type_proper, type_depth_same, same_type_is}

-- ---- paths, one more step behind

abbrev path_end : Crate → Tree → List Proj → Tree
path_end c t [] = t
path_end c t (Deref ∷ ps) = path_end c (type_after c t Deref) ps
path_end c t (Field n ∷ ps) = path_end c (type_after c t (Field n)) ps
path_end c t (Downcast k ∷ Field n ∷ ps) = path_end c (field_type c t k n) ps
path_end c t ps = t

path-more : (c : Crate) (t : Tree) (ps qs : List Proj) → Path c t ps → Path c (path_end c t ps) qs → Path c t (ps ++ qs)
path-more c t [] qs h k = k
path-more c t (Deref ∷ ps) qs h k = (h.0, path-more c (type_after c t Deref) ps qs h.1 k)
path-more c t (Field n ∷ ps) qs h k = (h.0, h.1, h.2, path-more c (type_after c t (Field n)) ps qs h.3 k)
path-more c t (Downcast m ∷ Field n ∷ ps) qs h k = (h.0, h.1, h.2, h.3, h.4, path-more c (field_type c t m n) ps qs h.5 k)
path-more c t ps qs h k = absurd h

end-more : (c : Crate) (t : Tree) (ps qs : List Proj) → Path c t ps → path_end c t (ps ++ qs) ≡ path_end c (path_end c t ps) qs
end-more c t [] qs h = refl
end-more c t (Deref ∷ ps) qs h = end-more c (type_after c t Deref) ps qs h.1
end-more c t (Field n ∷ ps) qs h = end-more c (type_after c t (Field n)) ps qs h.3
end-more c t (Downcast m ∷ Field n ∷ ps) qs h = end-more c (field_type c t m n) ps qs h.5
end-more c t ps qs h = absurd h

depth-more : (c : Crate) (t : Tree) (m : ℕ) (ps qs : List Proj) → Path c t ps → path_depth c t m (ps ++ qs) ≡ path_depth c (path_end c t ps) (path_depth c t m ps) qs
depth-more c t m [] qs h = refl
depth-more c t m (Deref ∷ ps) qs h = depth-more c (type_after c t Deref) (suc m) ps qs h.1
depth-more c t m (Field n ∷ ps) qs h = depth-more c (type_after c t (Field n)) (suc (max m (tree_depth (type_after c t (Field n))))) ps qs h.3
depth-more c t m (Downcast k ∷ Field n ∷ ps) qs h = depth-more c (field_type c t k n) (suc (max (suc m) (tree_depth (field_type c t k n)))) ps qs h.5
depth-more c t m ps qs h = absurd h

-- ---- one step

after-is : (c : Crate) (t u : Tree) (s : Proj) → proj_ty (plain_shapes c) t s ≡ Some u → type_after c t s ≡ u
unfolding type_after
after-is c t u s h = ap or_unit (proj-same c t s ∙ h)

-- what is known of a step: the path, its end and its depth
record Step (c : Crate) (t u : Tree) (m d : ℕ) (ps : List Proj) : Type 0 where
  pub path : Path c t ps
  pub end : path_end c t ps ≡ u
  pub depth : path_depth c t m ps ≡ d

deref-step : (c : Crate) (t u : Tree) (m : ℕ) → pointee t ≡ Some u → Step c t u m (suc m) (Deref ∷ [])
deref-step c t u m h =
    let e = after-is c t u Deref h in
    record { path = (h ∙ ap Some (sym e), tt); end = e; depth = refl }

field-step : (c : Crate) (t u : Tree) (n m d : ℕ) → n ≤ 4294967295 → proj_ty (plain_shapes c) t (Field n) ≡ Some u → Proper c u → tree_depth u ≡ d → Step c t u m (suc (max m d)) (Field n ∷ [])
field-step c t u n m d small h proper deep =
    let e = after-is c t u (Field n) h in
    record { path = (small, h ∙ ap Some (sym e), subst (Proper c) (sym e) proper, tt); end = e; depth = ap (λ x. suc (max m x)) (ap tree_depth e ∙ deep) }

variant-step : (c : Crate) (t w u : Tree) (k n m d : ℕ) → n ≤ 4294967295 → IsVariant c t k → proj_ty (plain_shapes c) t (Downcast k) ≡ Some w → proj_ty (plain_shapes c) w (Field n) ≡ Some u → Proper c u
    → tree_depth u ≡ d → Step c t u m (suc (max (suc m) d)) (Downcast k ∷ Field n ∷ [])
variant-step c t w u k n m d small is down h proper deep =
    let a = after-is c t w (Downcast k) down in
    let e : field_type c t k n ≡ u = ap (λ x. type_after c x (Field n)) a ∙ after-is c w u (Field n) h in
    record {
      path = (small, is, down ∙ ap Some (sym a), ap (λ x. proj_ty (plain_shapes c) x (Field n)) a ∙ h ∙ ap Some (sym e), subst (Proper c) (sym e) proper, tt);
      end = e;
      depth = ap (λ x. suc (max (suc m) x)) (ap tree_depth e ∙ deep);
    }

-- ---- what is known of the crate

-- paths of definitions and names of variants are such
pub record DefsKnown (c : Crate) : Type 0 where
  pub paths : PathsWritten c
  pub variants : (d k : ℕ) → d < length c.defs → k < length (def_at c d).variants → (def_at c d).is_enum ≡ true → IsName (variant_at c d k).name
  pub fields : (d k : ℕ) → d < length c.defs → k < length (def_at c d).variants → AreFields (variant_at c d k).form (variant_at c d k).fields

pub at-place : {A : Type 0} (other : A) (xs : List A) (n : ℕ) (x : A) → slice_get xs n ≡ Some x → (n < length xs) × (get_or xs n other ≡ x)
at-place other [] n x h = absurd cc
at-place other (y ∷ xs) zero x h = (omega arith, cc)
at-place other (y ∷ xs) (suc n) x h = let k = at-place other xs n x h in let less = k.0 in (omega (arith, less), k.1)

name-at : (vs : List TypedVariant) (k : ℕ) → get_or (map (λ v. v.name) vs) k [] ≡ (get_or vs k no_variant).name
name-at [] k = refl
name-at (v ∷ vs) zero = refl
name-at (v ∷ vs) (suc k) = name-at vs k

names-length : (vs : List TypedVariant) → length (map (λ v. v.name) vs) ≡ length vs
names-length [] = refl
names-length (v ∷ vs) = ap suc (names-length vs)

-- the variant of an enum that a name names
pub record Named (d : TypedDef) (bytes : List ℕ) (k : ℕ) : Type 0 where
  pub enum : d.is_enum ≡ true
  pub there : k < length d.variants
  pub name : (get_or d.variants k no_variant).name ≡ bytes

pub variant-by : (d : TypedDef) (bytes : List ℕ) (k : ℕ) (b : Bool) → d.is_enum ≡ b → variant_in bytes d ≡ Some k → Named d bytes k
variant-by d bytes k false e h = let n = rw e at h in absurd cc
variant-by d bytes k true e h =
    let n : place_in (variant_names d) bytes ≡ Some k = rw e at h in
    let at = stands-at 0 k (variant_names d) bytes n in
    let same : at.0 ≡ k = omega (arith, at.1) in
    let less = place_from-there 0 k (variant_names d) bytes n in
    let all = names-length d.variants in
    record { enum = e; there = omega (arith, less, all); name = sym (name-at d.variants k) ∙ ap (λ j. get_or (variant_names d) j []) (sym same) ∙ at.2 }

variant-of-def : (c : Crate) (strings : Strings) (bytes : List ℕ) (d k : ℕ) → DefsKnown c → (slice_get c.defs d >>= variant_in bytes) ≡ Some k → IsVariant c (named d) k
unfolding ◌>>=◌
variant-of-def c strings bytes d k known h =
    let (x, e, f) = bind_some h in
    let at = at-place no_def c.defs d x e in
    let is = variant-by x bytes k x.is_enum refl f in
    let enum : (def_at c d).is_enum ≡ true = ap (λ y. y.is_enum) at.1 ∙ is.enum in
    let there : k < length (def_at c d).variants = subst (λ y. k < length y.variants) (sym at.1) is.there in
    let name : (variant_at c d k).name ≡ bytes = ap (λ y. (get_or y.variants k no_variant).name) at.1 ∙ is.name in
    record {
      def = d;
      is = refl;
      there = at.0;
      one = there;
      enum = enum;
      name = known.variants d k at.0 there enum;
      found = λ any. ap (λ l. slice_get c.defs d >>= variant_in l) name ∙ h;
    }

variant-is : (c : Crate) (strings : Strings) (bytes : List ℕ) (t : Tree) (k : ℕ) → DefsKnown c → variant_of_ty (names_at c strings) bytes t ≡ Some k → IsVariant c t k
variant-is c strings bytes (named d) k known h = variant-of-def c strings bytes d k known h
variant-is c strings bytes t k known h = absurd cc

-- ---- places

-- locals have the types with which they are declared
abbrev pub Typed : Declared → List Tree → Type 0
Typed L locals = (x : ℕ) (t : Tree) → declared_ty L x ≡ Some t → x < length locals → local_ty locals x ≡ t

-- what a derivation says of the bodies of a crate
pub record Given (c : Crate) (strings : Strings) (L : Declared) (locals : List Tree) : Type 0 where
  pub defs : DefsKnown c
  pub typed : Typed L locals
  pub there : (x : ℕ) → is_some (declared_ty L x) ≡ true → x < length locals
  pub few : length locals ≤ 2 ^ 32

record Placed (c : Crate) (strings : Strings) (L : Declared) (locals : List Tree) (q : PlaceRule) (t : Tree) : Type 0 where
  pub step : Step c (local_ty locals (local_in q)) t 1 (place_depth q) (projs_named (names_at c strings) L q)

one-more : (c : Crate) (t0 t u : Tree) (m d : ℕ) (ps qs : List Proj) → Step c t0 t 1 m ps → Step c t u m d qs → Step c t0 u 1 d (ps ++ qs)
one-more c t0 t u m d ps qs a b =
    let path : Path c (path_end c t0 ps) qs = subst (λ x. Path c x qs) (sym a.end) b.path in
    record {
      path = path-more c t0 ps qs a.path path;
      end = end-more c t0 ps qs a.path ∙ ap (λ x. path_end c x qs) a.end ∙ b.end;
      depth = depth-more c t0 1 ps qs a.path ∙ two-same (λ x y. path_depth c x y qs) a.end a.depth ∙ b.depth;
    }

unnot : (b : Bool) → not b ≡ false → b ≡ true
unnot true h = refl
unnot false h = absurd cc

not-wrong : (o : Option Tree) (t u : Tree) → o ≡ Some t → differs o u ≡ false → t ≡ u
not-wrong o t u e h = let n : not (same_type t u) ≡ false = ap (λ x. differs x u) (sym e) ∙ h in same_type_is t u (unnot (same_type t u) n)

-- a type that a place is written with is that of the field
field-type : (c : Crate) (strings : Strings) → DefsKnown c → (t : Tree) (u : TypeRule) → t ≡ type_named strings (crate_paths c) u → type_codes (names_at c strings) u ≡ [] → Proper c t × (tree_depth t ≡ type_depth u)
field-type c strings known t u e h =
    (subst (Proper c) (sym e) (type_proper c strings known.paths u (unless_met _ 12 h)), ap tree_depth e ∙ type_depth_same strings (crate_paths c) u)

variant-placed : (c : Crate) (strings : Strings) (L : Declared) (locals : List Tree) → Given c strings L locals → (q : PlaceRule) (v n : ℕ) (u : TypeRule) (s t : Tree) → Placed c strings L locals q s
    → place_ty_of (names_at c strings) L q ≡ Some s → (o : Option ℕ) → variant_of_ty (names_at c strings) (string_at strings v) s ≡ o → downcast_ty (names_at c strings) s n o ≡ Some t
    → n ≤ 4294967295 → Proper c t → tree_depth t ≡ type_depth u → Placed c strings L locals (p.variant_field q v n u) t
unfolding ◌>>=◌
variant-placed c strings L locals given q v n u s t a e1 None k e2 small proper deep = absurd cc
variant-placed c strings L locals given q v n u s t a e1 (Some m) k e2 small proper deep =
    let N = names_at c strings in
    let (w, f1, f2) = bind_some e2 in
    let is = variant-is c strings (string_at strings v) s m given.defs k in
    let at : variant_at_place N L q v ≡ Some m = ap (λ o. o >>= variant_of_ty N (string_at strings v)) e1 ∙ k in
    let step = one-more c _ s t _ _ _ (Downcast m ∷ Field n ∷ []) a.step (variant-step c s w t m n (place_depth q) (type_depth u) small is f1 f2 proper deep) in
    record { step = subst (λ l. Step c (local_ty locals (local_in q)) t 1 (place_depth (p.variant_field q v n u)) l) (ap (λ o. projs_named N L q ++ Downcast (or_zero o) ∷ Field n ∷ []) (sym at)) step }

placed : (c : Crate) (strings : Strings) (L : Declared) (locals : List Tree) → Given c strings L locals → (q : PlaceRule) (t : Tree) → place_ty_of (names_at c strings) L q ≡ Some t
    → place_codes (names_at c strings) L q ≡ [] → is_wrong (names_at c strings) L q ≡ false → Small q → local_in q < length locals → Placed c strings L locals q t
unfolding ◌>>=◌
placed c strings L locals given (p.local x) t e codes right small less = record { step = record { path = tt; end = given.typed x t e less; depth = refl } }
placed c strings L locals given (p.deref q) t e codes right small less =
    let (v, e1, e2) = bind_some e in
    let a = placed c strings L locals given q v e1 codes right small less in
    record { step = one-more c _ v t _ _ _ (Deref ∷ []) a.step (deref-step c v t (place_depth q) e2) }
placed c strings L locals given (p.field q n u) t e codes right small less =
    let (v, e1, e2) = bind_some e in
    let a = placed c strings L locals given q v e1 (append_empty-left _ _ codes) (or_false-left _ _ right) small.1 less in
    let same = not-wrong _ t (type_named strings (crate_paths c) u) e (or_false-right _ _ right) in
    let is = field-type c strings given.defs t u same (append_empty-right (place_codes (names_at c strings) L q) _ codes) in
    record { step = one-more c _ v t _ _ _ (Field n ∷ []) a.step (field-step c v t n (place_depth q) (type_depth u) small.0 e2 is.0 is.1) }
placed c strings L locals given (p.variant_field q v n u) t e codes right small less =
    let N = names_at c strings in
    let (s, e1, e2) = bind_some e in
    let front = append_empty-left (place_codes N L q ++ unless (is_some (variant_at_place N L q v)) 13) (type_codes N u) codes in
    let a = placed c strings L locals given q s e1 (append_empty-left (place_codes N L q) _ front) (or_false-left _ _ right) small.1 less in
    let same = not-wrong _ t (type_named strings (crate_paths c) u) e (or_false-right _ _ right) in
    let is = field-type c strings given.defs t u same (append_empty-right (place_codes N L q ++ unless (is_some (variant_at_place N L q v)) 13) (type_codes N u) codes) in
    variant-placed c strings L locals given q v n u s t a e1 (variant_of_ty N (string_at strings v) s) refl e2 small.0 is.0 is.1

-- a place that a derivation names
pub record Read (c : Crate) (strings : Strings) (L : Declared) (q : PlaceRule) : Type 0 where
  pub type : Tree
  pub has : place_ty_of (names_at c strings) L q ≡ Some type
  pub right : is_wrong (names_at c strings) L q ≡ false

-- a place with a type begins at a declared local
read-local : (N : Names) (L : Declared) (q : PlaceRule) (t : Tree) → place_ty_of N L q ≡ Some t → is_some (declared_ty L (local_in q)) ≡ true
read-local N L (p.local x) t h = ap is_some h
read-local N L (p.deref q) t h = let (s, e1, e2) = bind_some h in read-local N L q s e1
read-local N L (p.field q n u) t h = let (s, e1, e2) = bind_some h in read-local N L q s e1
read-local N L (p.variant_field q v n u) t h = let (s, e1, e2) = bind_some h in read-local N L q s e1

pub place_written : (c : Crate) (strings : Strings) (L : Declared) (locals : List Tree) → Given c strings L locals → (q : PlaceRule) → Read c strings L q
    → place_codes (names_at c strings) L q ≡ [] → PlaceGood 65 q → IsPlace c locals (place_named (names_at c strings) L q)
unfolding depth_at
place_written c strings L locals given q read codes good =
    let less = given.there (local_in q) (read-local (names_at c strings) L q read.type read.has) in
    let few = given.few in
    let a = placed c strings L locals given q read.type read.has codes read.right good.1 less in
    record { there = less; small = omega arith; path = a.step.path; depth = subst (λ n. n ≤ 65) (sym a.step.depth) good.0 }
