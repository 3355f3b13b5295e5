-- What a statement that breaks no rule says of types, and the other way round.
use Rattle.std.proofs.Common.{◌≡◌, refl, ℕ, ◌<◌, false, not, List, [], ◌∷◌, ◌++◌, Option, Some, slice_get}
use Rattle.std.proofs.lemmas.Bool.{leb-false, lt-leb, not-true, not_from_true, not-false}
use Rattle.mir_syntax.specs.declared.body.Place.{Place}
use Rattle.mir_syntax.specs.declared.body.Operand.{Operand}
use Rattle.mir_syntax.specs.Tree.{Tree}
use Rattle.mir_syntax.specs.Crate.{TypedRvalue, TypedStmt, assign, storage_live, storage_dead, set_discriminant}
use Rattle.mir_syntax.specs.Shapes.{◌>>=◌, Shape, place_ty, needs_drop}
use Rattle.mir_rules.specs.Same.{same_tree}
use Rattle.mir_syntax.specs.Parts.{rvalue_operands, rvalue_places}
use Rattle.mir_rules.specs.Typing.{rvalue_ty, enum_of}
use Rattle.mir_rules.specs.BodyRules.{differ, settable, breaks_v06, breaks_v08, breaks_v14, breaks_v21, breaks_v22, breaks_v24, breaks_v25}
use Rattle.mir_rules.specs.Broken.{if_broken, operands_broken, rvalue_broken, statement_broken}
use Rattle.mir_syntax.proofs.Binds.{bind_some, some_bind}
use Rattle.mir_rules.proofs.Lists.{append_empty, append_empty-left, append_empty-right, or_false-right, then_some_is, if_broken_empty, if_broken_none}
use Rattle.mir_rules.proofs.Same.{same_tree_is, same_tree_refl}
use Rattle.mir_rules.proofs.Typed.{unfit_made, made_unfit, place_typed, typed_place, rvalue_typed, typed_rvalue, typed_rvalue_keeps}

-- ---- types that don't differ

pub differ_not : (o k : Option Tree) (t u : Tree) → differ o k ≡ false → o ≡ Some t → k ≡ Some u → t ≡ u
differ_not o k t u h e f = same_tree_is t u (not-false (same_tree t u) (rw (e, f) at h))

pub not_differ : (o k : Option Tree) (t : Tree) → o ≡ Some t → k ≡ Some t → differ o k ≡ false
not_differ o k t e f = rw (e, f) (not_from_true (same_tree t t) (same_tree_refl t))

module _ (D : List Shape) (locals : List Tree) where
  -- no operand moves through a type with a destructor, and none moves what needs drop from behind a reference or out of a variant
  pub record MovesKept (operands : List Operand) : Type 0 where
    pub through : breaks_v21 D locals operands ≡ false
    pub indirect : breaks_v22 D locals operands ≡ false

  pub moves_kept : (operands : List Operand) → operands_broken D locals operands ≡ [] → MovesKept operands
  moves_kept operands h = record {
    through = if_broken_empty (breaks_v21 D locals operands) 21 (append_empty-left (if_broken (breaks_v21 D locals operands) 21) (if_broken (breaks_v22 D locals operands) 22) h);
    indirect = if_broken_empty (breaks_v22 D locals operands) 22 (append_empty-right (if_broken (breaks_v21 D locals operands) 21) (if_broken (breaks_v22 D locals operands) 22) h);
  }

  pub moves_keep : (operands : List Operand) → MovesKept operands → operands_broken D locals operands ≡ []
  moves_keep operands m = append_empty (if_broken (breaks_v21 D locals operands) 21) (if_broken (breaks_v22 D locals operands) 22) (if_broken_none (breaks_v21 D locals operands) 21 m.through) (if_broken_none (breaks_v22 D locals operands) 22 m.indirect)

module _ (D : List Shape) (args : ℕ) (locals : List Tree) where
  -- the place and the rvalue have one type
  pub record Assigns (p : Place) (r : TypedRvalue) : Type 0 where
    pub ty : Tree
    pub place : place_ty D locals p ≡ Some ty
    pub rvalue : rvalue_ty D locals r ≡ Some ty
    pub moves : MovesKept D locals (rvalue_operands r)

  -- the place is an enum that needs no drop and has the variant
  pub record Sets (p : Place) (k : ℕ) : Type 0 where
    pub ty : Tree
    pub place : place_ty D locals p ≡ Some ty
    pub shape : Shape
    pub enum : enum_of D ty ≡ Some shape
    pub needs_none : needs_drop D ty ≡ false
    pub fields : Tree
    pub variant : slice_get shape.variants k ≡ Some fields

  abbrev pub StmtTyped : TypedStmt → Type 0
  StmtTyped (assign p r) = Assigns p r
  StmtTyped (storage_live x) = args < x
  StmtTyped (storage_dead x) = args < x
  StmtTyped (set_discriminant p k) = Sets p k

  -- ---- from the rules

  pub assign_typed : (p : Place) (r : TypedRvalue) → statement_broken D args locals (assign p r) ≡ [] → Assigns p r
  unfolding statement_broken
  assign_typed p r h =
      let v06 = if_broken (breaks_v06 D locals (p ∷ rvalue_places r)) 6 in
      let v14 = if_broken (breaks_v14 D locals p r) 14 in
      let moved = operands_broken D locals (rvalue_operands r) in
      let places = if_broken_empty (breaks_v06 D locals (p ∷ rvalue_places r)) 6 (append_empty-left v06 (rvalue_broken D locals r ++ (v14 ++ moved)) h) in
      let h1 = append_empty-right v06 (rvalue_broken D locals r ++ (v14 ++ moved)) h in
      let h2 = append_empty-right (rvalue_broken D locals r) (v14 ++ moved) h1 in
      let (t, e) = place_typed D locals p (rvalue_places r) places in
      let (u, f) = rvalue_typed D locals r (or_false-right _ (breaks_v06 D locals (rvalue_places r)) places) (append_empty-left (rvalue_broken D locals r) (v14 ++ moved) h1) in
      let same = differ_not (rvalue_ty D locals r) (place_ty D locals p) u t (if_broken_empty (breaks_v14 D locals p r) 14 (append_empty-left v14 moved h2)) f e in
      record { ty = u; place = rw same e; rvalue = f; moves = moves_kept D locals (rvalue_operands r) (append_empty-right v14 moved h2) }

  settable_is : (t : Tree) (s : Shape) → settable D t ≡ Some s → (enum_of D t ≡ Some s) × (needs_drop D t ≡ false)
  settable_is t s e =
      let (x, e1, k) = bind_some e in
      let (n, same) = then_some_is (not (needs_drop D t)) x s k in
      (rw same at e1, not-true (needs_drop D t) n)

  set_typed : (p : Place) (k : ℕ) → statement_broken D args locals (set_discriminant p k) ≡ [] → Sets p k
  unfolding statement_broken
  set_typed p k h =
      let v06 = if_broken (breaks_v06 D locals (p ∷ [])) 6 in
      let v24 = if_broken (breaks_v24 D locals p) 24 in
      let v25 = if_broken (breaks_v25 D locals p k) 25 in
      let h1 = append_empty-right v06 (v24 ++ v25) h in
      let (t, e) = place_typed D locals p [] (if_broken_empty (breaks_v06 D locals (p ∷ [])) 6 (append_empty-left v06 (v24 ++ v25) h)) in
      let (s, f) = unfit_made (place_ty D locals p) (settable D) t (if_broken_empty (breaks_v24 D locals p) 24 (append_empty-left v24 v25 h1)) e in
      let (enum, needs) = settable_is t s f in
      let (fields, g) = unfit_made (place_ty D locals p >>= enum_of D) (λ s. slice_get s.variants k) s (if_broken_empty (breaks_v25 D locals p k) 25 (append_empty-right v24 v25 h1)) (some_bind _ e enum) in
      record { ty = t; place = e; shape = s; enum = enum; needs_none = needs; fields = fields; variant = g }

  pub stmt_typed : (s : TypedStmt) → statement_broken D args locals s ≡ [] → StmtTyped s
  unfolding statement_broken
  stmt_typed (assign p r) h = assign_typed p r h
  stmt_typed (storage_live x) h = leb-false x args (if_broken_empty (breaks_v08 args x) 8 h)
  stmt_typed (storage_dead x) h = leb-false x args (if_broken_empty (breaks_v08 args x) 8 h)
  stmt_typed (set_discriminant p k) h = set_typed p k h

  -- ---- to the rules

  typed_assign : (p : Place) (r : TypedRvalue) → Assigns p r → statement_broken D args locals (assign p r) ≡ []
  unfolding statement_broken
  typed_assign p r a =
      let v06 = if_broken (breaks_v06 D locals (p ∷ rvalue_places r)) 6 in
      let v14 = if_broken (breaks_v14 D locals p r) 14 in
      let moved = operands_broken D locals (rvalue_operands r) in
      append_empty v06 (rvalue_broken D locals r ++ (v14 ++ moved))
      (if_broken_none (breaks_v06 D locals (p ∷ rvalue_places r)) 6 (typed_place D locals p (rvalue_places r) a.ty a.place (typed_rvalue D locals r a.ty a.rvalue)))
      (append_empty (rvalue_broken D locals r) (v14 ++ moved) (typed_rvalue_keeps D locals r a.ty a.rvalue)
      (append_empty v14 moved (if_broken_none (breaks_v14 D locals p r) 14 (not_differ (rvalue_ty D locals r) (place_ty D locals p) a.ty a.rvalue a.place)) (moves_keep D locals (rvalue_operands r) a.moves)))

  typed_set : (p : Place) (k : ℕ) → Sets p k → statement_broken D args locals (set_discriminant p k) ≡ []
  unfolding statement_broken
  typed_set p k a =
      let v06 = if_broken (breaks_v06 D locals (p ∷ [])) 6 in
      let v24 = if_broken (breaks_v24 D locals p) 24 in
      let v25 = if_broken (breaks_v25 D locals p k) 25 in
      let can : settable D a.ty ≡ Some a.shape = some_bind _ a.enum (rw a.needs_none refl) in
      append_empty v06 (v24 ++ v25) (if_broken_none (breaks_v06 D locals (p ∷ [])) 6 (typed_place D locals p [] a.ty a.place refl))
      (append_empty v24 v25 (if_broken_none (breaks_v24 D locals p) 24 (made_unfit (place_ty D locals p) (settable D) a.ty a.shape a.place can))
      (if_broken_none (breaks_v25 D locals p k) 25 (made_unfit (place_ty D locals p >>= enum_of D) (λ s. slice_get s.variants k) a.shape a.fields (some_bind _ a.place a.enum) a.variant)))

  pub typed_stmt : (s : TypedStmt) → StmtTyped s → statement_broken D args locals s ≡ []
  unfolding statement_broken
  typed_stmt (assign p r) a = typed_assign p r a
  typed_stmt (storage_live x) a = if_broken_none (breaks_v08 args x) 8 (lt-leb x args a)
  typed_stmt (storage_dead x) a = if_broken_none (breaks_v08 args x) 8 (lt-leb x args a)
  typed_stmt (set_discriminant p k) a = typed_set p k a
