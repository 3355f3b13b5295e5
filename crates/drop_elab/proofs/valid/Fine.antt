-- Statements and terminators of a body that are formed and keep the rules, and those that elaboration makes.
use Rattle.std.proofs.Common.{◌≡◌, refl, ap, ap₂, subst, ℕ, zero, suc, ◌<◌, Bool, true, false, ◌==◌, ◌||◌, List, [], ◌∷◌, ◌++◌, length, map, Some, slice_get, arith, lt-ltb}
use Rattle.mir_syntax.specs.declared.types.IntTy.TheVariants.{Isize}
use Rattle.std.specs.List.{list_all, list_any}
use Rattle.std.proofs.lemmas.Bool.{and_from}
use Rattle.std.proofs.lemmas.Option.{slice_get_within}
use Rattle.mir_syntax.specs.declared.types.ScalarTy.TheVariants as scalar_ty
use Rattle.mir_syntax.specs.declared.body.Place.{Place}
use Rattle.mir_syntax.specs.declared.body.Operand.TheVariants as operand
use Rattle.mir_syntax.specs.declared.body.Callee.TheVariants as callee
use Rattle.mir_syntax.specs.declared.body.Arm.{Arm}
use Rattle.mir_syntax.specs.declared.body.Term.{Term}
use Rattle.mir_syntax.specs.declared.body.Term.TheVariants.{Goto, Switch, Call}
use Rattle.mir_syntax.specs.Tree.{Tree, empty, more, ref_mut}
use Rattle.mir_syntax.specs.Crate.{«use», discriminant, TypedStmt, assign, TypedBlock, TypedBody, Crate}
use Rattle.mir_syntax.specs.Crate as rvalue
use Rattle.mir_syntax.specs.Parts.{arm_block}
use Rattle.mir_syntax.specs.Shapes.{Shape, place_ty}
use Rattle.mir_syntax.proofs.Binds.{some_bind}
use Rattle.mir_rules.specs.BodyRules.{arm_value, has_twice, has_too_wide}
use Rattle.mir_rules.specs.Formed.{type_formed, place_formed, callee_formed, block_there, stmt_formed, term_formed}
use Rattle.mir_rules.specs.Typing.{bool_ty, isize_ty, enum_of, operand_ty, operands_ty, rvalue_ty, callee_args_ty, callee_result_ty}
use Rattle.mir_rules.proofs.Statements.{StmtTyped}
use Rattle.mir_rules.proofs.Terminators.{TermTyped}
use Rattle.drop_elab.specs.Plan.{local_place, set_flag}

-- of each member
abbrev pub Each : {A : Type 0} → (A → Type 0) → List A → Type 0
Each P [] = Unit {0}
Each P (x ∷ xs) = P x × Each P xs

pub each_append : {A : Type 0} (P : A → Type 0) (xs ys : List A) → Each P xs → Each P ys → Each P (xs ++ ys)
each_append P [] ys h k = k
each_append P (x ∷ xs) ys h k = (h.0, each_append P xs ys h.1 k)

pub each_at : {A : Type 0} (P : A → Type 0) (xs : List A) (i : ℕ) (x : A) → Each P xs → slice_get xs i ≡ Some x → P x
each_at P [] i x h e = absurd (grind arith)
each_at P (y ∷ xs) zero x h e = subst P (let z : y ≡ x = grind arith in z) h.0
each_at P (y ∷ xs) (suc i) x h e = each_at P xs i x h.1 e

pub each_from : {A : Type 0} (P : A → Type 0) (xs : List A) → ((i : ℕ) (x : A) → slice_get xs i ≡ Some x → P x) → Each P xs
each_from P [] h = tt
each_from P (x ∷ xs) h = (h 0 x refl, each_from P xs (λ i y e. h (suc i) y e))

module _ (C : Crate) (D : List Shape) (e : TypedBody) where
  pub record StmtFine (s : TypedStmt) : Type 0 where
    pub formed : stmt_formed C e s ≡ true
    pub typed : StmtTyped D e.args e.locals s

  pub record TermFine (t : Term) : Type 0 where
    pub formed : term_formed C e t ≡ true
    pub typed : TermTyped C D e.locals t

  pub record BlockFine (k : TypedBlock) : Type 0 where
    pub stmts : Each StmtFine k.stmts
    pub term : TermFine k.term

  abbrev pub TypeFine : Tree → Type 0
  TypeFine t = type_formed C t ≡ true

  -- a block that may be a target
  pub record Target (t : ℕ) : Type 0 where
    pub there : block_there e t ≡ true
    pub later : 0 < t

  -- a place of this type
  pub record PlaceFine (p : Place) (t : Tree) : Type 0 where
    pub formed : place_formed e p ≡ true
    pub typed : place_ty D e.locals p ≡ Some t

  -- a destructor of this type
  pub record Destroys (t : Tree) (g : ℕ) : Type 0 where
    pub formed : callee_formed C (callee.Local (record { 0 = g })) ≡ true
    pub args : callee_args_ty C (callee.Local (record { 0 = g })) ≡ Some (more (ref_mut t) empty)
    pub result : callee_result_ty C (callee.Local (record { 0 = g })) ≡ Some empty

  pub target_at : (t : ℕ) (k : TypedBlock) → 0 < t → slice_get e.blocks t ≡ Some k → Target t
  target_at t k l q = record { there = lt-ltb t (length e.blocks) (slice_get_within e.blocks t k q); later = l }

  pub not_first : (t : ℕ) → 0 < t → (t == 0) ≡ false
  not_first t l = grind (arith, l)

  pub local_fine : (x : ℕ) (t : Tree) → slice_get e.locals x ≡ Some t → PlaceFine (local_place x) t
  unfolding place_ty
  local_fine x t q = record { formed = and_from _ _ (lt-ltb x (length e.locals) (slice_get_within e.locals x t q)) refl; typed = some_bind _ q refl }

  -- ---- what elaboration makes

  pub goto_fine : (t : ℕ) → Target t → TermFine (Goto t)
  unfolding term_formed
  goto_fine t h = record {
    formed = and_from _ _ refl (and_from _ _ refl (and_from _ _ refl (and_from _ _ h.there refl)));
    typed = record { targets = ap (λ b. b || false) (not_first t h.later); own = tt; moves = record { through = refl; indirect = refl } };
  }

  pub set_fine : (x : ℕ) (b : Bool) → slice_get e.locals x ≡ Some bool_ty → StmtFine (set_flag x b)
  unfolding stmt_formed rvalue_ty operand_ty
  set_fine x b q = (let p = local_fine x bool_ty q in record { formed = and_from _ _ p.formed refl; typed = record { ty = bool_ty; place = p.typed; rvalue = refl; moves = record { through = refl; indirect = refl } } })

  pub borrow_fine : (l : ℕ) (q : Place) (t : Tree) → slice_get e.locals l ≡ Some (ref_mut t) → PlaceFine q t → StmtFine (assign (local_place l) (rvalue.ref_mut q))
  unfolding stmt_formed rvalue_ty
  borrow_fine l q t el h = (let p = local_fine l (ref_mut t) el in record { formed = and_from _ _ p.formed (and_from _ _ refl (and_from _ _ refl (and_from _ _ h.formed refl))); typed = record { ty = ref_mut t; place = p.typed; rvalue = some_bind _ h.typed refl; moves = record { through = refl; indirect = refl } } })

  pub destroy_fine : (l g b : ℕ) (t : Tree) → slice_get e.locals l ≡ Some (ref_mut t) → slice_get e.locals (suc l) ≡ Some empty → Destroys t g → Target b → TermFine (Call (local_place (suc l)) (callee.Local (record { 0 = g })) (operand.Move (local_place l) ∷ []) b)
  unfolding term_formed operands_ty operand_ty
  destroy_fine l g b t el eu d h =
      let p = local_fine l (ref_mut t) el in
      let q = local_fine (suc l) empty eu in
      record {
        formed = and_from _ _ d.formed (and_from _ _ refl (and_from _ _ (and_from _ _ q.formed (and_from _ _ p.formed refl)) (and_from _ _ h.there refl)));
        typed = record {
          targets = ap (λ b. b || false) (not_first b h.later);
          own = record { ty = empty; place = q.typed; result = d.result; types = more (ref_mut t) empty; operands = some_bind _ p.typed (some_bind _ {o = Some empty} refl refl); wanted = d.args };
          moves = record { through = refl; indirect = refl };
        };
      }

  pub discriminant_fine : (l : ℕ) (q : Place) (t : Tree) (s : Shape) → slice_get e.locals l ≡ Some isize_ty → PlaceFine q t → enum_of D t ≡ Some s → StmtFine (assign (local_place l) (discriminant q))
  unfolding stmt_formed rvalue_ty
  discriminant_fine l q t s el h en = (let p = local_fine l isize_ty el in record { formed = and_from _ _ p.formed (and_from _ _ refl (and_from _ _ refl (and_from _ _ h.formed refl))); typed = record { ty = isize_ty; place = p.typed; rvalue = some_bind _ h.typed (some_bind _ en refl); moves = record { through = refl; indirect = refl } } })

  pub guard_fine : (x a b : ℕ) → slice_get e.locals x ≡ Some bool_ty → Target a → Target b → TermFine (Switch (operand.Copy (local_place x)) (record { value = 0; block = a } ∷ []) b)
  unfolding term_formed operand_ty
  guard_fine x a b el h k =
      let p = local_fine x bool_ty el in
      record {
        formed = and_from _ _ refl (and_from _ _ refl (and_from _ _ (and_from _ _ p.formed refl) (and_from _ _ h.there (and_from _ _ k.there refl))));
        typed = record {
          targets = ap₂ (λ a b. a || (b || false)) (not_first a h.later) (not_first b k.later);
          own = record { ty = scalar_ty.Bool; operand = p.typed; once = refl; fits = refl };
          moves = record { through = refl; indirect = refl };
        };
      }

  -- arms that lead to targets, for numbers that stand once and fit
  pub choose_fine : (l b : ℕ) (arms : List Arm) → slice_get e.locals l ≡ Some isize_ty → Each (λ a. Target a.block) arms → Target b → has_twice (map arm_value arms) ≡ false → has_too_wide (Some (scalar_ty.Int Isize)) (map arm_value arms) ≡ false → TermFine (Switch (operand.Move (local_place l)) arms b)
  unfolding term_formed operand_ty
  choose_fine l b arms el ha hb once fits =
      let p = local_fine l isize_ty el in
      record {
        formed = and_from _ _ refl (and_from _ _ refl (and_from _ _ (and_from _ _ p.formed refl) (all_there arms ha)));
        typed = record {
          targets = none_first arms ha;
          own = record { ty = scalar_ty.Int Isize; operand = p.typed; once = once; fits = fits };
          moves = record { through = refl; indirect = refl };
        };
      }
    where
      all_there : (arms : List Arm) → Each (λ a. Target a.block) arms → list_all (block_there e) (map arm_block arms ++ b ∷ []) ≡ true
      all_there [] h = and_from _ _ hb.there refl
      all_there (a ∷ arms) h = and_from _ _ h.0.there (all_there arms h.1)

      none_first : (arms : List Arm) → Each (λ a. Target a.block) arms → list_any (λ i. i == 0) (map arm_block arms ++ b ∷ []) ≡ false
      none_first [] h = ap (λ c. c || false) (not_first b hb.later)
      none_first (a ∷ arms) h = ap₂ (λ c d. c || d) (not_first a.block h.0.later) (none_first arms h.1)
