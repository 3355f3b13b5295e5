-- What stands behind the shapes of a crate: the definition, and the function that is its destructor.
use Rattle.std.proofs.Common.{◌≡◌, refl, sym, ap, subst, ℕ, zero, suc, ◌+◌, Bool, true, false, nat_eq, ◌&&◌, if◌then◌else◌, List, [], ◌∷◌, Some, slice_get, arith, None}
use Rattle.std.proofs.Common.{eqb-true}
use Rattle.std.proofs.lemmas.Bool.{not-false}
use Rattle.std.specs.List.{list_all}
use Rattle.mir_syntax.specs.Tree.{Tree, empty, ref_mut, named}
use Rattle.mir_syntax.specs.Crate.{TypedDef, TypedOutside, TypedFunction, Crate}
use Rattle.mir_syntax.specs.Shapes.{Shape, drops_locals, is_destructor_of, destructor_from, shape_of, shapes_from, shapes_of, destructor_of}
use Rattle.mir_rules.specs.DefinitionRules.{is_scalar, is_scalar_or_unit}
use Rattle.mir_rules.specs.Valid.{Valid}
use Rattle.mir_syntax.proofs.Binds.{bind_some}
use Rattle.mir_rules.proofs.Lists.{and_true-left, and_true-right}
use Rattle.mir_rules.proofs.ValidCrates.{keeps}

-- ---- shapes

shape_at : (functions : List TypedFunction) (n : ℕ) (defs : List TypedDef) (d : ℕ) (s : Shape) → slice_get (shapes_from functions n defs) d ≡ Some s → (def : TypedDef) × (slice_get defs d ≡ Some def) × (s ≡ shape_of functions (d + n) def)
shape_at functions n [] d s e = absurd (grind arith)
shape_at functions n (def ∷ defs) zero s e = (def, refl, let same : s ≡ shape_of functions n def = grind arith in let z : zero + n ≡ n = omega arith in rw z same)
shape_at functions n (def ∷ defs) (suc d) s e =
    let (found, at, same) = shape_at functions (suc n) defs d s e in
    let z : suc d + n ≡ d + suc n = omega arith in
    (found, at, rw z same)

-- each shape is that of the definition of its number
pub shape_is : (C : Crate) (d : ℕ) (s : Shape) → slice_get (shapes_of C) d ≡ Some s → (def : TypedDef) × (slice_get C.defs d ≡ Some def) × (s ≡ shape_of C.functions d def)
unfolding shapes_of
shape_is C d s e =
    let (def, at, same) = shape_at C.functions 0 C.defs d s e in
    let z : d + 0 ≡ d = omega arith in
    (def, at, rw z at same)

-- ---- destructors

-- a function that is a destructor of the definition
pub record IsDestructor (d : ℕ) (g : TypedFunction) : Type 0 where
  pub is_drop : g.is_drop ≡ true
  pub args : g.body.args ≡ 1
  pub others : List Tree
  pub locals : g.body.locals ≡ empty ∷ ref_mut (named d) ∷ others

drops_is : (d : ℕ) (locals : List Tree) → drops_locals d locals ≡ true → (others : List Tree) × (locals ≡ empty ∷ ref_mut (named d) ∷ others)
drops_is d (empty ∷ ref_mut (named k) ∷ others) h = (others, ap (λ n. empty ∷ ref_mut (named n) ∷ others) (eqb-true k d h))
drops_is d locals h = absurd (grind arith)

destructor_is : (d : ℕ) (g : TypedFunction) → is_destructor_of d g ≡ true → IsDestructor d g
destructor_is d g h =
    let head = nat_eq g.body.args 1 && drops_locals d g.body.locals in
    let rest = and_true-right g.is_drop head h in
    let (others, locals) = drops_is d g.body.locals (and_true-right (nat_eq g.body.args 1) (drops_locals d g.body.locals) rest) in
    record { is_drop = and_true-left g.is_drop head h; args = eqb-true g.body.args 1 (and_true-left (nat_eq g.body.args 1) (drops_locals d g.body.locals) rest); others = others; locals = locals }

-- it stands in a list of functions, which are counted from a number
abbrev Found : ℕ → ℕ → ℕ → List TypedFunction → Type 0
Found d n f fs = (j : ℕ) × (g : TypedFunction) × (f ≡ j + n) × (slice_get fs j ≡ Some g) × IsDestructor d g

destructor_there : (d n f : ℕ) (fs : List TypedFunction) → destructor_from d n fs ≡ Some f → Found d n f fs
destructor_there d n f [] e = absurd (grind arith)
destructor_there d n f (g ∷ fs) e = go (is_destructor_of d g) refl e (λ k. destructor_there d (suc n) f fs k)
  where
    go : (b : Bool) → is_destructor_of d g ≡ b → (if b then Some n else destructor_from d (suc n) fs) ≡ Some f → (destructor_from d (suc n) fs ≡ Some f → Found d (suc n) f fs) → Found d n f (g ∷ fs)
    go true is k later = (0, g, (let same : n ≡ f = grind arith in omega (arith, same)), refl, destructor_is d g is)
    go false is k later = let (j, h, at, found, fits) = later k in (suc j, h, omega (arith, at), found, fits)

-- the destructor of a type is a function with the header of one
pub destructor_found : (C : Crate) (d f : ℕ) → destructor_of (shapes_of C) (named d) ≡ Some f → (g : TypedFunction) × (slice_get C.functions f ≡ Some g) × IsDestructor d g
destructor_found C d f e =
    let (s, at, k) = bind_some e in
    let (def, there, same) = shape_is C d s at in
    let (j, g, number, found, fits) = destructor_there d 0 f C.functions (rw same at k) in
    let z : f ≡ j = omega (arith, number) in
    (g, subst (λ i. slice_get C.functions i ≡ Some g) (sym z) found, fits)

-- ---- outside functions

-- of a valid crate: arguments are scalar, and so is a result that isn't `()`
pub outside_scalar : (C : Crate) → Valid C → (o : ℕ) (out : TypedOutside) → slice_get C.outsides o ≡ Some out → (list_all is_scalar out.args ≡ true) × (is_scalar_or_unit out.result ≡ true)
outside_scalar C valid o out e =
    let both = not-false (list_all is_scalar out.args && is_scalar_or_unit out.result) ((keeps C valid).outsides o out e) in
    (and_true-left (list_all is_scalar out.args) (is_scalar_or_unit out.result) both, and_true-right (list_all is_scalar out.args) (is_scalar_or_unit out.result) both)
