-- A drop of the elaborated function begins, over the layer.
use Rattle.std.proofs.Common.{◌≡◌, refl, sym, ap, ap₂, ◌∙◌, subst, ℕ, Bool, true, false, List, [], ◌∷◌, ◌++◌, map, Option, Some, None, slice_get, append_assoc, arith}
use Rattle.mir_syntax.specs.declared.body.Proj.{Proj}
use Rattle.mir_syntax.specs.declared.body.Proj.TheVariants.{Field, Downcast, Deref}
use Rattle.mir_syntax.specs.declared.body.Place.{Place}
use Rattle.mir_syntax.specs.declared.body.Term.TheVariants.{Drop}
use Rattle.mir_syntax.specs.Tree.{Tree}
use Rattle.mir_syntax.specs.Crate.{TypedBlock, TypedBody}
use Rattle.mir_syntax.specs.Shapes.{Shape, place_ty, needs_drop, destructor_of}
use Rattle.mir_syntax.specs.Parts.{is_direct}
use Rattle.mir_semantics.specs.Values.{Addr, Value, is_hole}
use Rattle.mir_semantics.specs.Memory.{Memory, value_at, there, further, project, walk}
use Rattle.mir_semantics.specs.Step.{Code, Here, Visit, Dropping, Control, State, Next, on, local_addr, resolve, type_of, visits_of, work_on, visit, visit_unless, visit_if, work_off, begun, finish, perform, step}
use Rattle.mir_syntax.proofs.Binds.{bind_some, some_bind}
use Rattle.move_paths.specs.Effects.{in_local}
use Rattle.mir_relate.proofs.Leaves.{some_val}
use Rattle.drop_elab.proofs.refines.Near.{Plain}
use Rattle.drop_elab.proofs.refines.Outer.{at_unit, outer_units}

-- a place of fields of a local resolves to itself
there_is : (o : Option Value) (a b : Addr) → there o a ≡ Some b → a ≡ b
there_is None a b e = absurd (grind arith)
there_is (Some v) a b e = some_val e

end_append : (xs : List Proj) → xs ++ [] ≡ xs
end_append [] = refl
end_append (x ∷ xs) = ap (λ ys. x ∷ ys) (end_append xs)

pub walk_is : (m : Memory) (a b : Addr) (ps : List Proj) → is_direct ps ≡ true → walk m a ps ≡ Some b → record a { path = a.path ++ ps } ≡ b
unfolding walk project
walk_is m a b [] di e = ap (λ ps. record a { path = ps }) (end_append a.path) ∙ some_val e
walk_is m a b (Field i ∷ ps) di e =
    let (c, e1, e2) = bind_some e in
    let h : further a (Field i) ≡ c = there_is (value_at m (further a (Field i))) (further a (Field i)) c e1 in
    ap (λ ps. record a { path = ps }) (sym (append_assoc a.path (Field i ∷ []) ps)) ∙ walk_is m (further a (Field i)) b ps di (subst (λ c. walk m c ps ≡ Some b) (sym h) e2)
walk_is m a b (Downcast k ∷ ps) di e = absurd (grind arith)
walk_is m a b (Deref ∷ ps) di e = absurd (grind arith)

pub direct_plain : (ps : List Proj) → is_direct ps ≡ true → Plain ps
direct_plain [] e = tt
direct_plain (Field i ∷ ps) e = direct_plain ps e
direct_plain (Downcast k ∷ ps) e = absurd (grind arith)
direct_plain (Deref ∷ ps) e = absurd (grind arith)

-- a step of a drop that has begun doesn't look at what the control said of drops
abbrev pub begun_state : State → Dropping → State
begun_state s d = record s { top = record s.top { dropping = Some d } }

work_same : (D : List Shape) (s : State) (d0 d : Dropping) (is : List Visit) → work_on D (begun_state s d0) (record s.top { dropping = Some d0 }) d is ≡ work_on D s s.top d is
unfolding work_on
work_same D s d0 d [] = refl
work_same D s d0 d (i ∷ is) = refl

visit_same : (C : Code) (s : State) (d0 d : Dropping) (i : Visit) (is : List Visit) (v : Value) (o : Option ℕ) → visit C (begun_state s d0) d i is v o ≡ visit C s d i is v o
unfolding visit Rattle.mir_semantics.specs.Step.enter Rattle.mir_semantics.specs.Step.entered
visit_same C s d0 d i is v None = work_same C.shapes s d0 d (visits_of C.shapes i.addr i.ty v ++ is)
visit_same C s d0 d i is v (Some g) = refl

unless_same : (C : Code) (s : State) (d0 d : Dropping) (i : Visit) (is : List Visit) (v : Value) (b : Bool) → visit_unless C (begun_state s d0) d i is v b ≡ visit_unless C s d i is v b
unfolding visit_unless
unless_same C s d0 d i is v true = work_same C.shapes s d0 d is
unless_same C s d0 d i is v false = visit_same C s d0 d i is v (destructor_of C.shapes i.ty)

pub if_same : (C : Code) (s : State) (d0 d : Dropping) (i : Visit) (is : List Visit) (b : Bool) (x : Next) → visit_if C s d i is b ≡ Some x → visit_if C (begun_state s d0) d i is b ≡ Some x
unfolding visit_if
if_same C s d0 d i is false x e = work_same C.shapes s d0 d is ∙ e
if_same C s d0 d i is true x e = let (v, e1, e2) = bind_some e in some_bind _ e1 (unless_same C s d0 d i is v (is_hole v) ∙ e2)

-- the units of a place, one by one
pub list_units : (D : List Shape) (p : Place) (us : List (List Proj)) → map (in_local p.local) (map (λ u. p.proj ++ u) us) ≡ outer_units (List Place) D (λ u vs. u ∷ vs) p us []
list_units D p [] = refl
list_units D p (u ∷ us) = ap (λ (vs : List Place). at_unit p u ∷ vs) (list_units D p us)

-- the first step of a drop is a visit of its place
pub first_step_is : (X : Code) (body : TypedBody) (s : State) (k : TypedBlock) (p : Place) (t : ℕ) (x : Next) → slice_get X.bodies s.top.function ≡ Some body → slice_get body.blocks s.top.block ≡ Some k → slice_get k.stmts s.top.at ≡ None → k.term ≡ Drop p t → s.top.dropping ≡ None → is_direct p.proj ≡ true → step X s ≡ Some x → (ty : Tree) × (place_ty X.shapes body.locals p ≡ Some ty) × (let i : Visit = record { addr = record { frame = s.top.frame; local = p.local; path = p.proj }; ty = ty } in visit_if X s (record { place = i; target = t; items = i ∷ [] }) i [] (needs_drop X.shapes ty) ≡ Some x)
unfolding step perform finish begun work_off type_of resolve local_addr
first_step_is X body s k p t x eb ek none term dr di e =
    let H : Here = record { shapes = X.shapes; locals = body.locals; frame = s.top.frame } in
    let a : step X s ≡ perform X H s k.term (slice_get k.stmts s.top.at) = some_bind _ eb (some_bind _ ek refl) in
    let b : perform X H s k.term (slice_get k.stmts s.top.at) ≡ finish X H s (Drop p t) = ap₂ (perform X H s) term none in
    let (d, e1, e2) = bind_some (sym (a ∙ b) ∙ e) in
    let f1 : begun H s p t None ≡ Some d = ap (begun H s p t) (sym dr) ∙ e1 in
    let (ad, g1, g2) = bind_some f1 in
    let (ty, h1, h2) = bind_some g2 in
    let same : record { frame = s.top.frame; local = p.local; path = p.proj } ≡ ad = walk_is s.memory (record { frame = s.top.frame; local = p.local; path = [] }) ad p.proj di g1 in
    let i : Visit = record { addr = record { frame = s.top.frame; local = p.local; path = p.proj }; ty = ty } in
    let de : record { place = i; target = t; items = i ∷ [] } ≡ d = ap (λ a. let i : Visit = record { addr = a; ty = ty } in let d : Dropping = record { place = i; target = t; items = i ∷ [] } in d) same ∙ some_val h2 in
    (ty, h1, subst (λ (d : Dropping). work_off X s d d.items ≡ Some x) (sym de) e2)
