-- What a terminator that breaks no rule says of types, and the other way round.
use Rattle.std.proofs.Common.{◌≡◌, ◌≢◌, refl, sym, ap, ◌∙◌, subst, ℕ, zero, suc, ◌<◌, Bool, true, false, not, ◌==◌, List, [], ◌∷◌, ◌++◌, map, length, Some, slice_get, arith}
use Rattle.std.proofs.Common.{ltb-true, eq-eqb}
use Rattle.std.proofs.lemmas.Bool.{not-false}
use Rattle.std.specs.List.{flat_map}
use Rattle.mir_syntax.specs.declared.types.ScalarTy.{ScalarTy}
use Rattle.mir_syntax.specs.declared.body.Place.{Place}
use Rattle.mir_syntax.specs.declared.body.Operand.{Operand}
use Rattle.mir_syntax.specs.declared.body.Callee.{Callee}
use Rattle.mir_syntax.specs.declared.body.Callee.TheVariants as callee
use Rattle.mir_syntax.specs.declared.body.Arm.{Arm}
use Rattle.mir_syntax.specs.declared.body.Term.{Term}
use Rattle.mir_syntax.specs.declared.body.Term.TheVariants as term
use Rattle.mir_syntax.specs.Tree.{Tree, scalar, tuple_of}
use Rattle.mir_syntax.specs.Crate.{Crate}
use Rattle.mir_syntax.specs.Shapes.{◌>>=◌, Shape, place_ty, goes_through_destructor}
use Rattle.mir_syntax.specs.Parts.{is_direct, operand_places, term_operands, term_places, targets}
use Rattle.mir_rules.specs.Typing.{bool_ty, scalar_of, operand_ty, operands_ty, args_of, result_of, callee_args_ty, callee_result_ty}
use Rattle.mir_rules.specs.Formed.{callee_formed, call_formed}
use Rattle.mir_rules.specs.BodyRules.{unfit, arm_value, has_twice, has_too_wide, breaks_v05, breaks_v06, breaks_v15, breaks_v16, breaks_v17, breaks_v18, breaks_v19, breaks_v20, breaks_v23}
use Rattle.mir_rules.specs.Broken.{if_broken, operands_broken, own_broken, terminator_broken}
use Rattle.mir_syntax.proofs.Binds.{some_bind}
use Rattle.mir_rules.proofs.Lists.{append_empty, append_empty-left, append_empty-right, or_false-left, or_false-right, list_any_false-left, list_any_false-right, list_any_false, list_any_false-at, if_broken_empty, if_broken_none}
use Rattle.mir_rules.proofs.Typed.{missing, list_any_none_append, unfit_made, made_unfit, place_typed, typed_place, operand_typed, typed_operand, operands_typed, typed_operands}
use Rattle.mir_rules.proofs.Statements.{MovesKept, moves_kept, moves_keep, differ_not, not_differ}

-- ---- what is in a list's range is there

pub slice_get_there : {A : Type 0} (xs : List A) (i : ℕ) → i < length xs → (x : A) × (slice_get xs i ≡ Some x)
slice_get_there [] i h = absurd (omega arith)
slice_get_there (x ∷ xs) zero h = (x, refl)
slice_get_there (x ∷ xs) (suc i) h = slice_get_there xs i (omega arith)

-- a callee that is there has a signature
pub callee_there : (C : Crate) (g : Callee) → callee_formed C g ≡ true → (ts t : Tree) × (callee_args_ty C g ≡ Some ts) × (callee_result_ty C g ≡ Some t)
callee_there C (callee.Local f) h =
    let (g, e) = slice_get_there C.functions f.0 (ltb-true f.0 (length C.functions) h) in
    (tuple_of (args_of g.body), result_of g.body, some_bind _ e refl, some_bind _ e refl)
callee_there C (callee.Outside o) h =
    let (g, e) = slice_get_there C.outsides o.0 (ltb-true o.0 (length C.outsides) h) in
    (tuple_of g.args, g.result, some_bind _ e refl, some_bind _ e refl)

pub scalar_of_is : (t : Tree) (s : ScalarTy) → scalar_of t ≡ Some s → t ≡ scalar s
scalar_of_is (scalar u) s e = ap scalar (let k : u ≡ s = grind arith in k)
scalar_of_is t s e = absurd (grind arith)

-- no terminator goes to bb0
pub not_to_start : (t : Term) (i b : ℕ) → breaks_v05 t ≡ false → slice_get (targets t) i ≡ Some b → b ≢ 0
not_to_start t i b h e z = absurd (let k : true ≡ false = sym (eq-eqb b 0 z) ∙ list_any_false-at (λ j. j == 0) (targets t) i b h e in grind arith)

module _ (C : Crate) (D : List Shape) (locals : List Tree) where
  pub record Switches (a : Operand) (arms : List Arm) : Type 0 where
    pub ty : ScalarTy
    pub operand : operand_ty D locals a ≡ Some (scalar ty)
    pub once : has_twice (map arm_value arms) ≡ false
    pub fits : has_too_wide (Some ty) (map arm_value arms) ≡ false

  pub record Drops (p : Place) : Type 0 where
    pub ty : Tree
    pub place : place_ty D locals p ≡ Some ty
    pub direct : is_direct p.proj ≡ true
    pub outside : goes_through_destructor D locals p ≡ false

  pub record Calls (p : Place) (g : Callee) (args : List Operand) : Type 0 where
    pub ty : Tree
    pub place : place_ty D locals p ≡ Some ty
    pub result : callee_result_ty C g ≡ Some ty
    pub types : Tree
    pub operands : operands_ty D locals args ≡ Some types
    pub wanted : callee_args_ty C g ≡ Some types

  pub record Asserts (a : Operand) (args : List Operand) : Type 0 where
    pub condition : operand_ty D locals a ≡ Some bool_ty
    pub message : (i : ℕ) (o : Operand) → slice_get args i ≡ Some o → (s : ScalarTy) × (operand_ty D locals o ≡ Some (scalar s))

  abbrev pub OwnTyped : Term → Type 0
  OwnTyped (term.Switch a arms other) = Switches a arms
  OwnTyped (term.Drop p next) = Drops p
  OwnTyped (term.Call p g args next) = Calls p g args
  OwnTyped (term.Assert a expected text args next) = Asserts a args
  OwnTyped (term.Goto next) = Unit {0}
  OwnTyped term.Return = Unit {0}
  OwnTyped term.Unreachable = Unit {0}

  pub record TermTyped (t : Term) : Type 0 where
    pub targets : breaks_v05 t ≡ false
    pub own : OwnTyped t
    pub moves : MovesKept D locals (term_operands t)

  -- ---- from the rules

  switch_typed : (a : Operand) (arms : List Arm) → breaks_v06 D locals (operand_places a) ≡ false → if_broken (breaks_v17 D locals a) 17 ++ if_broken (breaks_v18 D locals a arms) 18 ≡ [] → Switches a arms
  switch_typed a arms places h =
      let (t, e) = operand_typed D locals a places in
      let v17 = if_broken (breaks_v17 D locals a) 17 in
      let v18 = if_broken (breaks_v18 D locals a arms) 18 in
      let (s, f) = unfit_made (operand_ty D locals a) scalar_of t (if_broken_empty (breaks_v17 D locals a) 17 (append_empty-left v17 v18 h)) e in
      let wide = has_too_wide (operand_ty D locals a >>= scalar_of) (map arm_value arms) in
      let both = if_broken_empty (breaks_v18 D locals a arms) 18 (append_empty-right v17 v18 h) in
      let is : (operand_ty D locals a >>= scalar_of) ≡ Some s = some_bind _ e f in
      record {
        ty = s;
        operand = rw (scalar_of_is t s f) at e;
        once = or_false-left (has_twice (map arm_value arms)) wide both;
        fits = subst (λ o. has_too_wide o (map arm_value arms) ≡ false) is (or_false-right (has_twice (map arm_value arms)) wide both);
      }

  drop_typed : (p : Place) → breaks_v06 D locals (p ∷ []) ≡ false → if_broken (breaks_v23 D locals p) 23 ≡ [] → Drops p
  drop_typed p places h =
      let (t, e) = place_typed D locals p [] places in
      let both = if_broken_empty (breaks_v23 D locals p) 23 h in
      record { ty = t; place = e; direct = not-false (is_direct p.proj) (or_false-left (not (is_direct p.proj)) (goes_through_destructor D locals p) both); outside = or_false-right (not (is_direct p.proj)) (goes_through_destructor D locals p) both }

  call_typed : (p : Place) (g : Callee) (args : List Operand) → callee_formed C g ≡ true → breaks_v06 D locals (p ∷ flat_map operand_places args) ≡ false → if_broken (breaks_v15 C D locals g args) 15 ++ if_broken (breaks_v16 C D locals g p) 16 ≡ [] → Calls p g args
  call_typed p g args formed places h =
      let (t, e) = place_typed D locals p (flat_map operand_places args) places in
      let (ts, f) = operands_typed D locals args (or_false-right _ (breaks_v06 D locals (flat_map operand_places args)) places) in
      let (us, u, wanted, result) = callee_there C g formed in
      let v15 = if_broken (breaks_v15 C D locals g args) 15 in
      let v16 = if_broken (breaks_v16 C D locals g p) 16 in
      let same = differ_not (operands_ty D locals args) (callee_args_ty C g) ts us (if_broken_empty (breaks_v15 C D locals g args) 15 (append_empty-left v15 v16 h)) f wanted in
      let alike = differ_not (callee_result_ty C g) (place_ty D locals p) u t (if_broken_empty (breaks_v16 C D locals g p) 16 (append_empty-right v15 v16 h)) result e in
      record { ty = t; place = e; result = rw alike at result; types = ts; operands = f; wanted = rw same wanted }

  abbrev says_no_scalar : Operand → Bool
  says_no_scalar a = unfit (operand_ty D locals a) scalar_of

  -- each operand has a type, and it is a scalar's
  message_typed : (args : List Operand) → breaks_v06 D locals (flat_map operand_places args) ≡ false → breaks_v20 D locals args ≡ false → (i : ℕ) (o : Operand) → slice_get args i ≡ Some o → (s : ScalarTy) × (operand_ty D locals o ≡ Some (scalar s))
  message_typed [] places h i o e = absurd (grind arith)
  message_typed (a ∷ args) places h zero o e =
      let (t, f) = operand_typed D locals a (list_any_false-left (missing D locals) (operand_places a) (flat_map operand_places args) places) in
      let (s, g) = unfit_made (operand_ty D locals a) scalar_of t (or_false-left (says_no_scalar a) (breaks_v20 D locals args) h) f in
      (s, rw (let same : o ≡ a = grind arith in same) (rw (scalar_of_is t s g) at f))
  message_typed (a ∷ args) places h (suc i) o e =
      message_typed args (list_any_false-right (missing D locals) (operand_places a) (flat_map operand_places args) places) (or_false-right (says_no_scalar a) (breaks_v20 D locals args) h) i o e

  assert_typed : (a : Operand) (args : List Operand) → breaks_v06 D locals (operand_places a ++ flat_map operand_places args) ≡ false → if_broken (breaks_v19 D locals a) 19 ++ if_broken (breaks_v20 D locals args) 20 ≡ [] → Asserts a args
  assert_typed a args places h =
      let (t, e) = operand_typed D locals a (list_any_false-left (missing D locals) (operand_places a) (flat_map operand_places args) places) in
      let v19 = if_broken (breaks_v19 D locals a) 19 in
      let v20 = if_broken (breaks_v20 D locals args) 20 in
      let same = differ_not (operand_ty D locals a) (Some bool_ty) t bool_ty (if_broken_empty (breaks_v19 D locals a) 19 (append_empty-left v19 v20 h)) e refl in
      record {
        condition = rw same at e;
        message = message_typed args (list_any_false-right (missing D locals) (operand_places a) (flat_map operand_places args) places) (if_broken_empty (breaks_v20 D locals args) 20 (append_empty-right v19 v20 h));
      }

  own_typed : (t : Term) → call_formed C t ≡ true → breaks_v06 D locals (term_places t) ≡ false → own_broken C D locals t ≡ [] → OwnTyped t
  own_typed (term.Switch a arms other) formed places h = switch_typed a arms (list_any_false-left (missing D locals) (operand_places a) [] places) h
  own_typed (term.Drop p next) formed places h = drop_typed p places h
  own_typed (term.Call p g args next) formed places h = call_typed p g args formed places h
  own_typed (term.Assert a expected text args next) formed places h = assert_typed a args places h
  own_typed (term.Goto next) formed places h = tt
  own_typed term.Return formed places h = tt
  own_typed term.Unreachable formed places h = tt

  pub term_typed : (t : Term) → call_formed C t ≡ true → terminator_broken C D locals t ≡ [] → TermTyped t
  unfolding terminator_broken
  term_typed t formed h =
      let v05 = if_broken (breaks_v05 t) 5 in
      let v06 = if_broken (breaks_v06 D locals (term_places t)) 6 in
      let moved = operands_broken D locals (term_operands t) in
      let h1 = append_empty-right v05 (v06 ++ (own_broken C D locals t ++ moved)) h in
      let h2 = append_empty-right v06 (own_broken C D locals t ++ moved) h1 in
      let places = if_broken_empty (breaks_v06 D locals (term_places t)) 6 (append_empty-left v06 (own_broken C D locals t ++ moved) h1) in
      record {
        targets = if_broken_empty (breaks_v05 t) 5 (append_empty-left v05 (v06 ++ (own_broken C D locals t ++ moved)) h);
        own = own_typed t formed places (append_empty-left (own_broken C D locals t) moved h2);
        moves = moves_kept D locals (term_operands t) (append_empty-right (own_broken C D locals t) moved h2);
      }

  -- ---- to the rules

  typed_message : (args : List Operand) → ((i : ℕ) (o : Operand) → slice_get args i ≡ Some o → (s : ScalarTy) × (operand_ty D locals o ≡ Some (scalar s))) → breaks_v06 D locals (flat_map operand_places args) ≡ false
  typed_message [] h = refl
  typed_message (a ∷ args) h =
      let (s, e) = h 0 a refl in
      list_any_none_append D locals (operand_places a) (flat_map operand_places args) (typed_operand D locals a (scalar s) e) (typed_message args (λ i o f. h (suc i) o f))

  typed_places : (t : Term) → OwnTyped t → breaks_v06 D locals (term_places t) ≡ false
  typed_places (term.Switch a arms other) h = list_any_none_append D locals (operand_places a) [] (typed_operand D locals a (scalar h.ty) h.operand) refl
  typed_places (term.Drop p next) h = typed_place D locals p [] h.ty h.place refl
  typed_places (term.Call p g args next) h = typed_place D locals p (flat_map operand_places args) h.ty h.place (typed_operands D locals args h.types h.operands)
  typed_places (term.Assert a expected text args next) h =
      list_any_none_append D locals (operand_places a) (flat_map operand_places args) (typed_operand D locals a bool_ty h.condition) (typed_message args h.message)
  typed_places (term.Goto next) h = refl
  typed_places term.Return h = refl
  typed_places term.Unreachable h = refl

  typed_switch : (a : Operand) (arms : List Arm) → Switches a arms → if_broken (breaks_v17 D locals a) 17 ++ if_broken (breaks_v18 D locals a arms) 18 ≡ []
  typed_switch a arms h =
      let is : (operand_ty D locals a >>= scalar_of) ≡ Some h.ty = some_bind _ h.operand refl in
      let wide : has_too_wide (operand_ty D locals a >>= scalar_of) (map arm_value arms) ≡ false = subst (λ o. has_too_wide o (map arm_value arms) ≡ false) (sym is) h.fits in
      append_empty (if_broken (breaks_v17 D locals a) 17) (if_broken (breaks_v18 D locals a arms) 18)
      (if_broken_none (breaks_v17 D locals a) 17 (made_unfit (operand_ty D locals a) scalar_of (scalar h.ty) h.ty h.operand refl))
      (if_broken_none (breaks_v18 D locals a arms) 18 (rw h.once wide))

  typed_call : (p : Place) (g : Callee) (args : List Operand) → Calls p g args → if_broken (breaks_v15 C D locals g args) 15 ++ if_broken (breaks_v16 C D locals g p) 16 ≡ []
  typed_call p g args h =
      append_empty (if_broken (breaks_v15 C D locals g args) 15) (if_broken (breaks_v16 C D locals g p) 16)
      (if_broken_none (breaks_v15 C D locals g args) 15 (not_differ (operands_ty D locals args) (callee_args_ty C g) h.types h.operands h.wanted))
      (if_broken_none (breaks_v16 C D locals g p) 16 (not_differ (callee_result_ty C g) (place_ty D locals p) h.ty h.result h.place))

  typed_assert : (a : Operand) (args : List Operand) → Asserts a args → if_broken (breaks_v19 D locals a) 19 ++ if_broken (breaks_v20 D locals args) 20 ≡ []
  typed_assert a args h =
      append_empty (if_broken (breaks_v19 D locals a) 19) (if_broken (breaks_v20 D locals args) 20)
      (if_broken_none (breaks_v19 D locals a) 19 (not_differ (operand_ty D locals a) (Some bool_ty) bool_ty h.condition refl))
      (if_broken_none (breaks_v20 D locals args) 20 (list_any_false says_no_scalar args (λ i o e. let (s, f) = h.message i o e in made_unfit (operand_ty D locals o) scalar_of (scalar s) s f refl)))

  typed_own : (t : Term) → OwnTyped t → own_broken C D locals t ≡ []
  typed_own (term.Switch a arms other) h = typed_switch a arms h
  typed_own (term.Drop p next) h = if_broken_none (breaks_v23 D locals p) 23 (rw h.direct h.outside)
  typed_own (term.Call p g args next) h = typed_call p g args h
  typed_own (term.Assert a expected text args next) h = typed_assert a args h
  typed_own (term.Goto next) h = refl
  typed_own term.Return h = refl
  typed_own term.Unreachable h = refl

  pub typed_term : (t : Term) → TermTyped t → terminator_broken C D locals t ≡ []
  unfolding terminator_broken
  typed_term t h =
      let v05 = if_broken (breaks_v05 t) 5 in
      let v06 = if_broken (breaks_v06 D locals (term_places t)) 6 in
      let moved = operands_broken D locals (term_operands t) in
      append_empty v05 (v06 ++ (own_broken C D locals t ++ moved)) (if_broken_none (breaks_v05 t) 5 h.targets)
      (append_empty v06 (own_broken C D locals t ++ moved) (if_broken_none (breaks_v06 D locals (term_places t)) 6 (typed_places t h.own))
      (append_empty (own_broken C D locals t) moved (typed_own t h.own) (moves_keep D locals (term_operands t) h.moves)))
