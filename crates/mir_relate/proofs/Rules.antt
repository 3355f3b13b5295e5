-- What the layer asks of the rules, in a valid crate.
use Rattle.std.proofs.Common.{◌≡◌, refl, sym, ap, ◌∙◌, subst, ℕ, zero, suc, ◌<◌, ◌≤◌, Bool, true, false, List, [], ◌∷◌, length, take, drop, map, set, Some, slice_get, arith}
use Rattle.mir_syntax.specs.declared.body.Proj.{Proj}
use Rattle.mir_syntax.specs.declared.body.Proj.TheVariants.{Field, Downcast, Deref}
use Rattle.mir_syntax.specs.declared.body.Place.{Place}
use Rattle.mir_syntax.specs.declared.body.Operand.{Operand}
use Rattle.mir_syntax.specs.declared.body.Callee.TheVariants as callee
use Rattle.mir_syntax.specs.declared.body.Term.{Term}
use Rattle.mir_syntax.specs.declared.body.Term.TheVariants.{Goto, Switch, Return, Unreachable, Drop, Call, Assert}
use Rattle.mir_syntax.specs.Tree.{Tree, scalar, empty, more, ref, ref_mut, named, tuple_of}
use Rattle.mir_syntax.specs.Crate.{set_discriminant, TypedBlock, TypedBody, TypedFunction, Crate}
use Rattle.mir_syntax.specs.Shapes.{Shape, shapes_of, place_ty, needs_drop, destructor_of}
use Rattle.mir_syntax.specs.Parts.{has_deref, is_direct}
use Rattle.mir_syntax.proofs.Parts.{direct_no_deref}
use Rattle.mir_rules.specs.Typing as rules
use Rattle.mir_rules.specs.Typing.{operands_ty}
use Rattle.mir_rules.specs.Valid.{Valid}
use Rattle.mir_syntax.proofs.Binds.{bind_some}
use Rattle.mir_rules.proofs.Lists.{and_true-right}
use Rattle.mir_rules.proofs.Statements.{Sets}
use Rattle.mir_rules.proofs.Terminators.{OwnTyped}
use Rattle.mir_rules.proofs.ValidCrates.{stmt_at, term_at, args_below, body_formed_at}
use Rattle.mir_rules.proofs.Destructors.{destructor_found}
use Rattle.mir_semantics.specs.Values.{Value, listed}
use Rattle.mir_semantics.specs.Step.{body_in, code_of}
use Rattle.mir_semantics.specs.Run.{Entry}
use Rattle.mir_semantics.specs.Entry.{IsEntry, is_by, is_def, has_type}
use Rattle.mir_semantics.specs.Refines.{header}
use Rattle.mir_renaming.proofs.Items.{DropPlain}
use Rattle.valid_runs.proofs.Codes.{body_back}
use Rattle.mir_relate.specs.Pass.{ArgsTerm}

-- ---- places without a dereference

pub deref_indirect : (ps : List Proj) → has_deref ps ≡ true → is_direct ps ≡ false
deref_indirect [] h = absurd (grind arith)
deref_indirect (Field i ∷ ps) h = deref_indirect ps h
deref_indirect (Downcast k ∷ ps) h = refl
deref_indirect (Deref ∷ ps) h = refl

-- ---- all bodies

module _ (C : Crate) (valid : Valid C) where
  drop_plain : (ts : List Tree) (t : Term) → OwnTyped C (shapes_of C) ts t → DropPlain t
  drop_plain ts (Drop p u) h = direct_no_deref p.proj h.direct
  drop_plain ts (Goto u) h = tt
  drop_plain ts (Switch o arms u) h = tt
  drop_plain ts Return h = tt
  drop_plain ts Unreachable h = tt
  drop_plain ts (Call p g os u) h = tt
  drop_plain ts (Assert o c m os u) h = tt

  -- a drop's place has no dereference
  pub plain : (g : ℕ) (b : TypedBody) (i : ℕ) (k : TypedBlock) → slice_get (code_of C).bodies g ≡ Some b → slice_get b.blocks i ≡ Some k → DropPlain k.term
  plain g b i k e1 e2 =
      let (h, at, same) = body_back C.functions g b e1 in
      let e2' : slice_get h.body.blocks i ≡ Some k = ap (λ (b : TypedBody). slice_get b.blocks i) same ∙ e2 in
      drop_plain h.body.locals k.term (term_at C valid g i h k at e2').own

  -- a discriminant is set only on a type that needs no drop
  pub calm_sets : (g : ℕ) (b : TypedBody) (i : ℕ) (k : TypedBlock) (j : ℕ) (p : Place) (v : ℕ) → slice_get (code_of C).bodies g ≡ Some b → slice_get b.blocks i ≡ Some k → slice_get k.stmts j ≡ Some (set_discriminant p v) → (t : Tree) → place_ty (shapes_of C) b.locals p ≡ Some t → needs_drop (shapes_of C) t ≡ false
  calm_sets g b i k j p v e1 e2 e3 t e4 =
      let (h, at, same) = body_back C.functions g b e1 in
      let e2' : slice_get h.body.blocks i ≡ Some k = ap (λ (b : TypedBody). slice_get b.blocks i) same ∙ e2 in
      let sets : Sets (shapes_of C) b.args b.locals p v = subst (λ (b : TypedBody). Sets (shapes_of C) b.args b.locals p v) same (stmt_at C valid g i j h k (set_discriminant p v) at e2' e3) in
      subst (λ y. needs_drop (shapes_of C) y ≡ false) (let z : Some sets.ty ≡ Some t = sym sets.place ∙ e4 in grind arith) sets.needs_none

  -- ---- calls and destructors

  tree_is : (a b : Tree) → Some a ≡ Some b → a ≡ b
  tree_is a b e = grind arith

  all_operands : (locals : List Tree) (n : ℕ) (ls : List Tree) (os : List Operand) (us : Tree) → n ≤ length ls → operands_ty (shapes_of C) locals os ≡ Some us → us ≡ tuple_of (take n ls) → length os ≡ n
  unfolding operands_ty
  all_operands locals zero ls [] us l e s = refl
  all_operands locals (suc n) [] [] us l e s = absurd (omega (arith, l))
  all_operands locals (suc n) (u ∷ ls) [] us l e s = absurd (let z : empty ≡ more u (tuple_of (take n ls)) = tree_is empty us e ∙ s in grind arith)
  all_operands locals zero ls (o ∷ os) us l e s =
      let (u, e1, k1) = bind_some e in
      let (vs, e2, k2) = bind_some k1 in
      absurd (let z : more u vs ≡ empty = tree_is (more u vs) us k2 ∙ s in grind arith)
  all_operands locals (suc n) [] (o ∷ os) us l e s = absurd (omega (arith, l))
  all_operands locals (suc n) (t ∷ ls) (o ∷ os) us l e s =
      let (u, e1, k1) = bind_some e in
      let (vs, e2, k2) = bind_some k1 in
      let z : more u vs ≡ more t (tuple_of (take n ls)) = tree_is (more u vs) us k2 ∙ s in
      ap suc (all_operands locals n ls os vs (omega (arith, l)) e2 (grind arith))

  rest_long : (xs : List Tree) (n : ℕ) → n < length xs → n ≤ length (drop 1 xs)
  rest_long [] n l = absurd (omega (arith, l))
  rest_long (x ∷ xs) n l = omega (arith, l)

  own_all : (locals : List Tree) (t : Term) → OwnTyped C (shapes_of C) locals t → ArgsTerm (code_of C) t
  own_all locals (Call p (callee.Local f) os t) h = λ b eb.
      (let (g, e1, k1) = bind_some h.wanted in
      let (g2, at, same) = body_back C.functions f.0 b eb in
      let one : g ≡ g2 = (let z : Some g ≡ Some g2 = sym e1 ∙ at in grind arith) in
      let below = args_below C g.body (body_formed_at C valid f.0 g e1) in
      let l = all_operands locals g.body.args (drop 1 g.body.locals) os h.types (rest_long g.body.locals g.body.args below) h.operands (sym (tree_is (tuple_of (rules.args_of g.body)) h.types k1)) in
      l ∙ ap (λ (g : TypedFunction). g.body.args) one ∙ ap (λ (b : TypedBody). b.args) same)
  own_all locals (Call p (callee.Outside o) os t) h = tt
  own_all locals (Goto t) h = tt
  own_all locals (Switch o as' t) h = tt
  own_all locals Return h = tt
  own_all locals Unreachable h = tt
  own_all locals (Drop p t) h = tt
  own_all locals (Assert o e x os t) h = tt

  pub calls_all : (f : ℕ) (b : TypedBody) (i : ℕ) (k : TypedBlock) → slice_get (code_of C).bodies f ≡ Some b → slice_get b.blocks i ≡ Some k → ArgsTerm (code_of C) k.term
  calls_all f b i k e1 e2 =
      let (g, at, same) = body_back C.functions f b e1 in
      let e2' : slice_get g.body.blocks i ≡ Some k = ap (λ (b : TypedBody). slice_get b.blocks i) same ∙ e2 in
      own_all g.body.locals k.term (term_at C valid f i g k at e2').own

  pub one_destroyed : (t : Tree) (f : ℕ) (b : TypedBody) → destructor_of (shapes_of C) t ≡ Some f → slice_get (code_of C).bodies f ≡ Some b → 1 ≡ b.args
  one_destroyed (named d) f b e eb =
      let (g, at, is) = destructor_found C d f e in
      let (g2, at2, same) = body_back C.functions f b eb in
      let one : g ≡ g2 = (let z : Some g ≡ Some g2 = sym at ∙ at2 in grind arith) in
      sym is.args ∙ ap (λ (g : TypedFunction). g.body.args) one ∙ ap (λ (b : TypedBody). b.args) same
  one_destroyed (scalar s) f b e eb = absurd (grind arith)
  one_destroyed empty f b e eb = absurd (grind arith)
  one_destroyed (more t u) f b e eb = absurd (grind arith)
  one_destroyed (ref t) f b e eb = absurd (grind arith)
  one_destroyed (ref_mut t) f b e eb = absurd (grind arith)

-- an entry has the arguments of its function
all_values : (of_def : ℕ → Value → Bool) (n : ℕ) (ls : List Tree) (vs : List Value) → n ≤ length ls → is_by of_def (tuple_of (take n ls)) (listed vs) ≡ true → length vs ≡ n
all_values of_def zero ls [] l e = refl
all_values of_def zero ls (v ∷ vs) l e = absurd (grind arith)
all_values of_def (suc n) [] vs l e = absurd (omega (arith, l))
all_values of_def (suc n) (t ∷ ls) [] l e = absurd (grind arith)
all_values of_def (suc n) (t ∷ ls) (v ∷ vs) l e = ap suc (all_values of_def n ls vs (omega (arith, l)) (and_true-right (is_by of_def t v) (is_by of_def (tuple_of (take n ls)) (listed vs)) e))

all_typed : (D : List Shape) (n : ℕ) (ls : List Tree) (vs : List Value) → n < length ls → has_type D (tuple_of (drop 1 (take (suc n) ls))) (listed vs) ≡ true → length vs ≡ n
unfolding has_type
all_typed D n [] vs l e = absurd (omega (arith, l))
all_typed D n (t ∷ ls) vs l e = all_values (is_def D (length D)) n ls vs (omega (arith, l)) e

pub all_entry : (C : Crate) → Valid C → (e : Entry) (k : IsEntry (code_of C) e) → length e.args ≡ k.body.args
all_entry C valid e k =
    let (g, at, same) = body_back C.functions e.function k.body k.there in
    let below : k.body.args < length k.body.locals = subst (λ (b : TypedBody). b.args < length b.locals) same (args_below C g.body (body_formed_at C valid e.function g at)) in
    all_typed (shapes_of C) k.body.args k.body.locals e.args below k.typed

-- ---- the list of functions with another in a place

pub bodies_other : (fs : List TypedFunction) (f h : ℕ) (v : TypedFunction) → (h ≡ f → ⊥) → slice_get (map body_in (set fs f v)) h ≡ slice_get (map body_in fs) h
bodies_other [] f h v ne = refl
bodies_other (y ∷ fs) zero zero v ne = absurd (ne refl)
bodies_other (y ∷ fs) zero (suc h) v ne = refl
bodies_other (y ∷ fs) (suc f) zero v ne = refl
bodies_other (y ∷ fs) (suc f) (suc h) v ne = bodies_other fs f h v (λ e. ne (ap suc e))

pub headers_set : (fs : List TypedFunction) (f : ℕ) (g g2 : TypedFunction) → slice_get fs f ≡ Some g → header g2 ≡ header g → map header (set fs f g2) ≡ map header fs
headers_set [] f g g2 e h = refl
headers_set (x ∷ fs) zero g g2 e h = ap (λ y. y ∷ map header fs) (h ∙ ap header (let z : g ≡ x = grind arith in z))
headers_set (x ∷ fs) (suc f) g g2 e h = ap (λ ys. header x ∷ ys) (headers_set fs f g g2 e h)
