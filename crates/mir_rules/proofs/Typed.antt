-- Operands and rvalues that break no rule have types, and the other way round.
use Rattle.std.proofs.Common.{◌≡◌, refl, Bool, false, List, [], ◌∷◌, ◌++◌, Option, Some, None, is_none, arith}
use Rattle.std.specs.List.{list_any, flat_map}
use Rattle.mir_syntax.specs.declared.body.Place.{Place}
use Rattle.mir_syntax.specs.declared.body.Operand.{Operand}
use Rattle.mir_syntax.specs.declared.body.Operand.TheVariants as operand
use Rattle.mir_syntax.specs.Tree.{Tree, empty, more}
use Rattle.mir_syntax.specs.Tree as tree
use Rattle.mir_syntax.specs.Crate.{TypedRvalue, «use», binary, overflow, unary, cast, ref, ref_mut, discriminant, tuple, build}
use Rattle.mir_syntax.specs.Shapes.{Shape, place_ty}
use Rattle.mir_syntax.specs.Parts.{operand_places, rvalue_places}
use Rattle.mir_rules.specs.Typing.{const_ty, operand_ty, operands_ty, binary_ty, overflow_ty, unary_ty, cast_ty, discriminant_ty, build_ty, rvalue_ty}
use Rattle.mir_rules.specs.BodyRules.{unfit, unfit_pair, breaks_v06, breaks_v09, breaks_v10, breaks_v11, breaks_v12, breaks_v13}
use Rattle.mir_rules.specs.Broken.{rvalue_broken}
use Rattle.mir_syntax.proofs.Binds.{bind_some, some_bind}
use Rattle.mir_rules.proofs.Lists.{or_false-left, or_false-right, list_any_false-left, list_any_false-right, is_there, if_broken_empty, if_broken_none}

-- ---- what is made of what is there

pub unfit_made : {A B : Type 0} (o : Option A) (make : A → Option B) (a : A) → unfit o make ≡ false → o ≡ Some a → (b : B) × (make a ≡ Some b)
unfit_made None make a h e = absurd (grind arith)
unfit_made (Some x) make a h e = rw (let same : x ≡ a = grind arith in same) at (is_there (make x) h)

pub made_unfit : {A B : Type 0} (o : Option A) (make : A → Option B) (a : A) (b : B) → o ≡ Some a → make a ≡ Some b → unfit o make ≡ false
made_unfit o make a b e f = rw (e, f) refl

pub pair_made : {A B C : Type 0} (o : Option A) (k : Option B) (make : A → B → Option C) (a : A) (b : B) → unfit_pair o k make ≡ false → o ≡ Some a → k ≡ Some b → (c : C) × (make a b ≡ Some c)
pair_made None k make a b h e f = absurd (grind arith)
pair_made (Some x) k make a b h e f = unfit_made k (make a) b (rw (let same : x ≡ a = grind arith in same) at h) f

pub made_pair : {A B C : Type 0} (o : Option A) (k : Option B) (make : A → B → Option C) (a : A) (b : B) (c : C) → o ≡ Some a → k ≡ Some b → make a b ≡ Some c → unfit_pair o k make ≡ false
made_pair o k make a b c e f g = rw (e, f, g) refl

module _ (D : List Shape) (locals : List Tree) where
  abbrev pub missing : Place → Bool
  missing p = is_none (place_ty D locals p)

  -- ---- places

  pub place_typed : (p : Place) (others : List Place) → breaks_v06 D locals (p ∷ others) ≡ false → (t : Tree) × (place_ty D locals p ≡ Some t)
  place_typed p others h = is_there (place_ty D locals p) (or_false-left (missing p) (list_any missing others) h)

  pub typed_place : (p : Place) (others : List Place) (t : Tree) → place_ty D locals p ≡ Some t → breaks_v06 D locals others ≡ false → breaks_v06 D locals (p ∷ others) ≡ false
  typed_place p others t e h = rw e h

  -- ---- operands

  pub operand_typed : (a : Operand) → breaks_v06 D locals (operand_places a) ≡ false → (t : Tree) × (operand_ty D locals a ≡ Some t)
  unfolding operand_ty
  operand_typed (operand.Copy p) h = place_typed p [] h
  operand_typed (operand.Move p) h = place_typed p [] h
  operand_typed (operand.Const c) h = (const_ty c, refl)

  pub typed_operand : (a : Operand) (t : Tree) → operand_ty D locals a ≡ Some t → breaks_v06 D locals (operand_places a) ≡ false
  unfolding operand_ty
  typed_operand (operand.Copy p) t e = typed_place p [] t e refl
  typed_operand (operand.Move p) t e = typed_place p [] t e refl
  typed_operand (operand.Const c) t e = refl

  pub list_any_none_append : (xs ys : List Place) → breaks_v06 D locals xs ≡ false → breaks_v06 D locals ys ≡ false → breaks_v06 D locals (xs ++ ys) ≡ false
  list_any_none_append [] ys h k = k
  list_any_none_append (x ∷ xs) ys h k = rw (or_false-left (missing x) (list_any missing xs) h) (list_any_none_append xs ys (or_false-right (missing x) (list_any missing xs) h) k)

  pub operands_typed : (os : List Operand) → breaks_v06 D locals (flat_map operand_places os) ≡ false → (ts : Tree) × (operands_ty D locals os ≡ Some ts)
  unfolding operands_ty
  operands_typed [] h = (empty, refl)
  operands_typed (a ∷ os) h =
      let (t, e) = operand_typed a (list_any_false-left missing (operand_places a) (flat_map operand_places os) h) in
      let (ts, f) = operands_typed os (list_any_false-right missing (operand_places a) (flat_map operand_places os) h) in
      (more t ts, some_bind _ e (some_bind _ f refl))

  pub typed_operands : (os : List Operand) (ts : Tree) → operands_ty D locals os ≡ Some ts → breaks_v06 D locals (flat_map operand_places os) ≡ false
  unfolding operands_ty
  typed_operands [] ts e = refl
  typed_operands (a ∷ os) ts e =
      let (t, e1, k) = bind_some e in
      let (us, e2, k2) = bind_some k in
      list_any_none_append (operand_places a) (flat_map operand_places os) (typed_operand a t e1) (typed_operands os us e2)

  one_typed : (a : Operand) → breaks_v06 D locals (operand_places a ++ []) ≡ false → (t : Tree) × (operand_ty D locals a ≡ Some t)
  one_typed a h = operand_typed a (list_any_false-left missing (operand_places a) [] h)

  typed_one : (a : Operand) (t : Tree) → operand_ty D locals a ≡ Some t → breaks_v06 D locals (operand_places a ++ []) ≡ false
  typed_one a t e = list_any_none_append (operand_places a) [] (typed_operand a t e) refl

  two_typed : (a b : Operand) → breaks_v06 D locals (operand_places a ++ (operand_places b ++ [])) ≡ false → (t u : Tree) × (operand_ty D locals a ≡ Some t) × (operand_ty D locals b ≡ Some u)
  two_typed a b h =
      let (t, e) = operand_typed a (list_any_false-left missing (operand_places a) (operand_places b ++ []) h) in
      let (u, f) = one_typed b (list_any_false-right missing (operand_places a) (operand_places b ++ []) h) in
      (t, u, e, f)

  typed_two : (a b : Operand) (t u : Tree) → operand_ty D locals a ≡ Some t → operand_ty D locals b ≡ Some u → breaks_v06 D locals (operand_places a ++ (operand_places b ++ [])) ≡ false
  typed_two a b t u e f = list_any_none_append (operand_places a) (operand_places b ++ []) (typed_operand a t e) (typed_one b u f)

  -- ---- rvalues

  -- an rvalue whose places have types and that keeps the rules V09 to V13 has a type
  pub rvalue_typed : (r : TypedRvalue) → breaks_v06 D locals (rvalue_places r) ≡ false → rvalue_broken D locals r ≡ [] → (t : Tree) × (rvalue_ty D locals r ≡ Some t)
  unfolding rvalue_ty rvalue_broken
  rvalue_typed («use» a) h k = one_typed a h
  rvalue_typed (binary op a b) h k =
      let (t, u, e, f) = two_typed a b h in
      let (w, g) = pair_made (operand_ty D locals a) (operand_ty D locals b) (binary_ty op) t u (if_broken_empty (breaks_v09 D locals (binary_ty op) a b) 9 k) e f in
      (w, some_bind _ e (some_bind _ f g))
  rvalue_typed (overflow op a b) h k =
      let (t, u, e, f) = two_typed a b h in
      let (w, g) = pair_made (operand_ty D locals a) (operand_ty D locals b) overflow_ty t u (if_broken_empty (breaks_v09 D locals overflow_ty a b) 9 k) e f in
      (w, some_bind _ e (some_bind _ f g))
  rvalue_typed (unary op a) h k =
      let (t, e) = one_typed a h in
      let (w, g) = unfit_made (operand_ty D locals a) (unary_ty op) t (if_broken_empty (breaks_v10 D locals op a) 10 k) e in
      (w, some_bind _ e g)
  rvalue_typed (cast a ty) h k =
      let (t, e) = one_typed a h in
      let (w, g) = unfit_made (operand_ty D locals a) (cast_ty ty) t (if_broken_empty (breaks_v11 D locals a ty) 11 k) e in
      (w, some_bind _ e g)
  rvalue_typed (ref p) h k = let (t, e) = place_typed p [] h in (tree.ref t, some_bind _ e refl)
  rvalue_typed (ref_mut p) h k = let (t, e) = place_typed p [] h in (tree.ref_mut t, some_bind _ e refl)
  rvalue_typed (discriminant p) h k =
      let (t, e) = place_typed p [] h in
      let (w, g) = unfit_made (place_ty D locals p) (discriminant_ty D) t (if_broken_empty (breaks_v13 D locals p) 13 k) e in
      (w, some_bind _ e g)
  rvalue_typed (tuple parts) h k = operands_typed parts h
  rvalue_typed (build d v parts) h k =
      let (ts, e) = operands_typed parts h in
      let (w, g) = unfit_made (operands_ty D locals parts) (build_ty D d v) ts (if_broken_empty (breaks_v12 D locals d v parts) 12 k) e in
      (w, some_bind _ e g)

  pub typed_rvalue : (r : TypedRvalue) (t : Tree) → rvalue_ty D locals r ≡ Some t → breaks_v06 D locals (rvalue_places r) ≡ false
  unfolding rvalue_ty
  typed_rvalue («use» a) t e = typed_one a t e
  typed_rvalue (binary op a b) t e = let (u, e1, k) = bind_some e in let (w, e2, k2) = bind_some k in typed_two a b u w e1 e2
  typed_rvalue (overflow op a b) t e = let (u, e1, k) = bind_some e in let (w, e2, k2) = bind_some k in typed_two a b u w e1 e2
  typed_rvalue (unary op a) t e = let (u, e1, k) = bind_some e in typed_one a u e1
  typed_rvalue (cast a ty) t e = let (u, e1, k) = bind_some e in typed_one a u e1
  typed_rvalue (ref p) t e = let (u, e1, k) = bind_some e in typed_place p [] u e1 refl
  typed_rvalue (ref_mut p) t e = let (u, e1, k) = bind_some e in typed_place p [] u e1 refl
  typed_rvalue (discriminant p) t e = let (u, e1, k) = bind_some e in typed_place p [] u e1 refl
  typed_rvalue (tuple parts) t e = typed_operands parts t e
  typed_rvalue (build d v parts) t e = let (ts, e1, k) = bind_some e in typed_operands parts ts e1

  pub typed_rvalue_keeps : (r : TypedRvalue) (t : Tree) → rvalue_ty D locals r ≡ Some t → rvalue_broken D locals r ≡ []
  unfolding rvalue_ty rvalue_broken
  typed_rvalue_keeps («use» a) t e = refl
  typed_rvalue_keeps (binary op a b) t e =
      let (u, e1, k) = bind_some e in
      let (w, e2, k2) = bind_some k in
      if_broken_none (breaks_v09 D locals (binary_ty op) a b) 9 (made_pair (operand_ty D locals a) (operand_ty D locals b) (binary_ty op) u w t e1 e2 k2)
  typed_rvalue_keeps (overflow op a b) t e =
      let (u, e1, k) = bind_some e in
      let (w, e2, k2) = bind_some k in
      if_broken_none (breaks_v09 D locals overflow_ty a b) 9 (made_pair (operand_ty D locals a) (operand_ty D locals b) overflow_ty u w t e1 e2 k2)
  typed_rvalue_keeps (unary op a) t e = let (u, e1, k) = bind_some e in if_broken_none (breaks_v10 D locals op a) 10 (made_unfit (operand_ty D locals a) (unary_ty op) u t e1 k)
  typed_rvalue_keeps (cast a ty) t e = let (u, e1, k) = bind_some e in if_broken_none (breaks_v11 D locals a ty) 11 (made_unfit (operand_ty D locals a) (cast_ty ty) u t e1 k)
  typed_rvalue_keeps (ref p) t e = refl
  typed_rvalue_keeps (ref_mut p) t e = refl
  typed_rvalue_keeps (discriminant p) t e = let (u, e1, k) = bind_some e in if_broken_none (breaks_v13 D locals p) 13 (made_unfit (place_ty D locals p) (discriminant_ty D) u t e1 k)
  typed_rvalue_keeps (tuple parts) t e = refl
  typed_rvalue_keeps (build d v parts) t e = let (ts, e1, k) = bind_some e in if_broken_none (breaks_v12 D locals d v parts) 12 (made_unfit (operands_ty D locals parts) (build_ty D d v) ts t e1 k)
