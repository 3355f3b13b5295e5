-- A folded body is formed where the body is.
use Rattle.std.proofs.Common.{◌≡◌, inl, inr, refl, sym, ap, ◌∙◌, subst, ℕ, Bool, true, false, ◌&&◌, nat_eq, nat_lt, if◌then◌else◌, List, [], ◌∷◌, ◌++◌, map, length, Option, Some, None, slice_get}
use Rattle.std.specs.Prelude.{flat_map}
use Rattle.std.specs.List.{list_all}
use Rattle.std.proofs.lemmas.Bool.{and_from}
use Rattle.std.proofs.lemmas.List.Folds.{list_all-append}
use Rattle.mir_syntax.specs.declared.types.ScalarTy.{ScalarTy}
use Rattle.mir_syntax.specs.declared.types.ScalarTy.TheVariants as scalar_ty
use Rattle.mir_syntax.specs.declared.body.Proj.TheVariants.{Field}
use Rattle.mir_syntax.specs.declared.body.Place.{Place}
use Rattle.mir_syntax.specs.declared.body.Const.{Const}
use Rattle.mir_syntax.specs.declared.body.Arm.{Arm}
use Rattle.mir_syntax.specs.declared.body.Operand.{Operand}
use Rattle.mir_syntax.specs.declared.body.Term.{Term}
use Rattle.mir_syntax.specs.declared.body.Term.TheVariants.{Goto, Switch, Return, Unreachable, Drop, Call, Assert}
use Rattle.mir_syntax.specs.Crate.{TypedRvalue, «use», binary, overflow, unary, cast, discriminant, tuple, build, TypedStmt, assign, storage_live, storage_dead, set_discriminant, TypedBlock, TypedBody, Crate}
use Rattle.mir_syntax.specs.Crate as rvalue
use Rattle.mir_syntax.specs.Tree.{Tree}
use Rattle.mir_syntax.specs.Shapes.{Shape}
use Rattle.mir_semantics.specs.Step.{Here, scalar_in, scalar_ty_of, take_arm}
use Rattle.mir_syntax.specs.Parts.{operand_places, rvalue_operands, rvalue_places, term_operands, term_places, targets, arm_block}
use Rattle.mir_rules.specs.Formed.{const_formed, operand_formed, place_formed, shape_formed, rvalue_formed, stmt_formed, call_formed, block_there, term_formed, block_formed, has_start, body_formed, type_formed}
use Rattle.mir_rules.proofs.Lists.{and_true-left, and_true-right, list_all_true, list_all_true-left, list_all_true-right}
use Rattle.mir_rules.proofs.ValidCrates.{stmt_formed_at, term_formed_at}
use Rattle.const_flow.specs.declared.cell.Cell.{Cell}
use Rattle.const_flow.specs.declared.cell.Cell.TheVariants.{Nothing, Num, Many}
use Rattle.const_flow.specs.Facts.{Facts, known, value_known, after_all}
use Rattle.const_flow.specs.ConstAt.{Reached, text}
use Rattle.const_rewrite.specs.Folded.{literal_of, or_constant, folded_operand, folded_operands, binary_result, number_or, pair_or, folded_rvalue, folded_stmt, folded_stmts, switch_or, as_expected, folded_term, folded_blocks, folded_by}
use Rattle.const_rewrite.proofs.Literals.{literal_known, literal_formed}
use Rattle.const_rewrite.proofs.Blocks.{BlockFrom, blocks_long, blocks_from, stmt_back}
use Rattle.mir_relate.proofs.Formed.{same_locals_stmt, BlocksFormed}

constant_formed : (o : Option ScalarTy) (k : Cell) (c : Const) → literal_of o k ≡ Some c → const_formed c ≡ true
constant_formed o k c e = let (t, n, et, ek, el) = literal_known o k c e in literal_formed t n c el

module _ (D : List Shape) (locals : List Tree) (fs : Facts) where
  abbrev T : Here
  T = record { shapes = D; locals = locals; frame = 0 }

  fold_formed : (o : Operand) → operand_formed o ≡ true → operand_formed (folded_operand T fs o) ≡ true
  unfolding folded_operand
  fold_formed o e = go (literal_of (scalar_ty_of T o) (known fs o)) refl
    where
      go : (c : Option Const) → literal_of (scalar_ty_of T o) (known fs o) ≡ c → operand_formed (or_constant c o) ≡ true
      go None q = e
      go (Some c) q = constant_formed (scalar_ty_of T o) (known fs o) c q

  all_formed : (os : List Operand) → list_all operand_formed os ≡ true → list_all operand_formed (folded_operands T fs os) ≡ true
  all_formed [] e = refl
  all_formed (o ∷ os) e = and_from _ _ (fold_formed o (and_true-left (operand_formed o) (list_all operand_formed os) e)) (all_formed os (and_true-right (operand_formed o) (list_all operand_formed os) e))

  module _ (pl : Place → Bool) where
    fold_places : (o : Operand) → list_all pl (operand_places o) ≡ true → list_all pl (operand_places (folded_operand T fs o)) ≡ true
    unfolding folded_operand
    fold_places o e = go (literal_of (scalar_ty_of T o) (known fs o))
      where
        go : (c : Option Const) → list_all pl (operand_places (or_constant c o)) ≡ true
        go None = e
        go (Some c) = refl

    all_places : (os : List Operand) → list_all pl (flat_map operand_places os) ≡ true → list_all pl (flat_map operand_places (folded_operands T fs os)) ≡ true
    all_places [] e = refl
    all_places (o ∷ os) e =
        list_all-append pl (operand_places (folded_operand T fs o)) (flat_map operand_places (folded_operands T fs os))
        ∙ and_from _ _ (fold_places o (list_all_true-left pl (operand_places o) (flat_map operand_places os) e))
        (all_places os (list_all_true-right pl (operand_places o) (flat_map operand_places os) e))

    -- what is asked of an rvalue's parts
    abbrev Fine : TypedRvalue → Type 0
    Fine r = (list_all operand_formed (rvalue_operands r) ≡ true) × (list_all pl (rvalue_places r) ≡ true)

    number_fine : (o : Option ScalarTy) (k : Cell) (y : TypedRvalue) → Fine y → Fine (number_or (literal_of o k) y)
    number_fine o k y e = go (literal_of o k) refl
      where
        go : (c : Option Const) → literal_of o k ≡ c → Fine (number_or c y)
        go None q = e
        go (Some c) q = (and_from _ _ (constant_formed o k c q) refl, refl)

    pair_fine : (o o' : Option ScalarTy) (k k' : Cell) (y : TypedRvalue) → Fine y → Fine (pair_or (literal_of o k) (literal_of o' k') y)
    pair_fine o o' k k' y e = go (literal_of o k) (literal_of o' k') refl refl
      where
        go : (c c' : Option Const) → literal_of o k ≡ c → literal_of o' k' ≡ c' → Fine (pair_or c c' y)
        go None c' q q' = e
        go (Some c) None q q' = e
        go (Some c) (Some c') q q' = (and_from _ _ (constant_formed o k c q) (and_from _ _ (constant_formed o' k' c' q') refl), refl)

    rvalue_fine : (x : TypedRvalue) → Fine x → Fine (folded_rvalue T fs x)
    unfolding folded_rvalue
    rvalue_fine («use» o) (e, f) = (all_formed (o ∷ []) e, all_places (o ∷ []) f)
    rvalue_fine (binary op a b) (e, f) = number_fine (binary_result T op a) (value_known T fs (binary op a b) []) (binary op (folded_operand T fs a) (folded_operand T fs b)) (all_formed (a ∷ b ∷ []) e, all_places (a ∷ b ∷ []) f)
    rvalue_fine (overflow op a b) (e, f) = pair_fine (scalar_ty_of T a) (Some scalar_ty.Bool) (value_known T fs (overflow op a b) (Field 0 ∷ [])) (value_known T fs (overflow op a b) (Field 1 ∷ [])) (overflow op (folded_operand T fs a) (folded_operand T fs b)) (all_formed (a ∷ b ∷ []) e, all_places (a ∷ b ∷ []) f)
    rvalue_fine (unary op a) (e, f) = number_fine (scalar_ty_of T a) (value_known T fs (unary op a) []) (unary op (folded_operand T fs a)) (all_formed (a ∷ []) e, all_places (a ∷ []) f)
    rvalue_fine (cast a t) (e, f) = number_fine (scalar_in t) (value_known T fs (cast a t) []) (cast (folded_operand T fs a) t) (all_formed (a ∷ []) e, all_places (a ∷ []) f)
    rvalue_fine (rvalue.ref q) h = h
    rvalue_fine (rvalue.ref_mut q) h = h
    rvalue_fine (discriminant q) h = h
    rvalue_fine (tuple os) (e, f) = (all_formed os e, all_places os f)
    rvalue_fine (build d k os) (e, f) = (all_formed os e, all_places os f)

  module _ (C : Crate) where
    number_shape : (c : Option Const) (y : TypedRvalue) → shape_formed C y ≡ true → shape_formed C (number_or c y) ≡ true
    number_shape None y e = e
    number_shape (Some c) y e = refl

    pair_shape : (c d : Option Const) (y : TypedRvalue) → shape_formed C y ≡ true → shape_formed C (pair_or c d y) ≡ true
    pair_shape None d y e = e
    pair_shape (Some c) None y e = e
    pair_shape (Some c) (Some d) y e = refl

    rvalue_shape : (x : TypedRvalue) → shape_formed C x ≡ true → shape_formed C (folded_rvalue T fs x) ≡ true
    unfolding folded_rvalue
    rvalue_shape («use» o) e = refl
    rvalue_shape (binary op a b) e = number_shape (literal_of (binary_result T op a) (value_known T fs (binary op a b) [])) (binary op (folded_operand T fs a) (folded_operand T fs b)) refl
    rvalue_shape (overflow op a b) e = pair_shape (literal_of (scalar_ty_of T a) (value_known T fs (overflow op a b) (Field 0 ∷ []))) (literal_of (Some scalar_ty.Bool) (value_known T fs (overflow op a b) (Field 1 ∷ []))) (overflow op (folded_operand T fs a) (folded_operand T fs b)) refl
    rvalue_shape (unary op a) e = number_shape (literal_of (scalar_ty_of T a) (value_known T fs (unary op a) [])) (unary op (folded_operand T fs a)) refl
    rvalue_shape (cast a t) e = number_shape (literal_of (scalar_in t) (value_known T fs (cast a t) [])) (cast (folded_operand T fs a) t) e
    rvalue_shape (rvalue.ref q) e = refl
    rvalue_shape (rvalue.ref_mut q) e = refl
    rvalue_shape (discriminant q) e = refl
    rvalue_shape (tuple []) e = e
    rvalue_shape (tuple (o ∷ os)) e = refl
    rvalue_shape (build d k os) e = e

    pub stmt_fine : (b : TypedBody) (s : TypedStmt) → stmt_formed C b s ≡ true → stmt_formed C b (folded_stmt T fs s) ≡ true
    unfolding stmt_formed
    stmt_fine b (assign p x) e =
        let r = and_true-right (place_formed b p) (rvalue_formed C b x) e in
        let parts = and_true-right (shape_formed C x) (list_all operand_formed (rvalue_operands x) && list_all (place_formed b) (rvalue_places x)) r in
        let (f, g) = rvalue_fine (place_formed b) x (and_true-left (list_all operand_formed (rvalue_operands x)) (list_all (place_formed b) (rvalue_places x)) parts, and_true-right (list_all operand_formed (rvalue_operands x)) (list_all (place_formed b) (rvalue_places x)) parts) in
        and_from _ _ (and_true-left (place_formed b p) (rvalue_formed C b x) e) (and_from _ _ (rvalue_shape x (and_true-left (shape_formed C x) (list_all operand_formed (rvalue_operands x) && list_all (place_formed b) (rvalue_places x)) r)) (and_from _ _ f g))
    stmt_fine b (storage_live x) e = e
    stmt_fine b (storage_dead x) e = e
    stmt_fine b (set_discriminant p k) e = e

    arm_all : (q : ℕ → Bool) (n : ℕ) (arms : List Arm) (u : ℕ) → list_all q (map arm_block arms ++ u ∷ []) ≡ true → q (take_arm n arms u) ≡ true
    arm_all q n [] u e = and_true-left (q u) true e
    arm_all q n (a ∷ arms) u e = go (nat_eq a.value n) (and_true-left (q a.block) (list_all q (map arm_block arms ++ u ∷ [])) e) (arm_all q n arms u (and_true-right (q a.block) (list_all q (map arm_block arms ++ u ∷ [])) e))
      where
        go : (b : Bool) → q a.block ≡ true → q (take_arm n arms u) ≡ true → q (if b then a.block else take_arm n arms u) ≡ true
        go true x y = x
        go false x y = y

    -- what is asked of a terminator
    abbrev TermFine : TypedBody → Term → Type 0
    TermFine b t = (call_formed C t ≡ true) × (list_all operand_formed (term_operands t) ≡ true) × (list_all (place_formed b) (term_places t) ≡ true) × (list_all (block_there b) (targets t) ≡ true)

    term_parts : (b : TypedBody) (t : Term) → term_formed C b t ≡ true → TermFine b t
    unfolding term_formed
    term_parts b t e =
        let ops = list_all operand_formed (term_operands t) in
        let places = list_all (place_formed b) (term_places t) in
        let there = list_all (block_there b) (targets t) in
        let e1 = and_true-right (call_formed C t) (ops && (places && there)) e in
        let e2 = and_true-right ops (places && there) e1 in
        (and_true-left (call_formed C t) (ops && (places && there)) e, and_true-left ops (places && there) e1, and_true-left places there e2, and_true-right places there e2)

    term_whole : (b : TypedBody) (t : Term) → TermFine b t → term_formed C b t ≡ true
    unfolding term_formed
    term_whole b t (e1, e2, e3, e4) = and_from _ _ e1 (and_from _ _ e2 (and_from _ _ e3 e4))

    term_fine : (b : TypedBody) (t : Term) → TermFine b t → TermFine b (folded_term T fs t)
    unfolding folded_term
    term_fine b (Goto u) h = h
    term_fine b (Switch o arms u) (e1, e2, e3, e4) = go (known fs o)
      where
        go : (q : Cell) → TermFine b (switch_or q o arms u)
        go (Num n) = (refl, refl, refl, and_from _ _ (arm_all (block_there b) n arms u e4) refl)
        go Nothing = (e1, e2, e3, e4)
        go Many = (e1, e2, e3, e4)
    term_fine b Return h = h
    term_fine b Unreachable h = h
    term_fine b (Drop p u) h = h
    term_fine b (Call p g os u) (e1, e2, e3, e4) = (e1, all_formed os e2, and_from _ _ (and_true-left (place_formed b p) (list_all (place_formed b) (flat_map operand_places os)) e3) (all_places (place_formed b) os (and_true-right (place_formed b p) (list_all (place_formed b) (flat_map operand_places os)) e3)), e4)
    term_fine b (Assert o c words os u) (e1, e2, e3, e4) = go (as_expected c (known fs o))
      where
        go : (k : Bool) → TermFine b (if k then Goto u else (Assert (folded_operand T fs o) c words (folded_operands T fs os) u))
        go true = (refl, refl, refl, e4)
        go false = (refl, all_formed (o ∷ os) e2, all_places (place_formed b) (o ∷ os) e3, e4)

    pub folded_term_formed : (b : TypedBody) (t : Term) → term_formed C b t ≡ true → term_formed C b (folded_term T fs t) ≡ true
    folded_term_formed b t e = term_whole b (folded_term T fs t) (term_fine b t (term_parts b t e))

-- ---- a body

module _ (C : Crate) (D : List Shape) (xs : List Reached) (b : TypedBody) where
  abbrev b2 : TypedBody
  b2 = record b { blocks = folded_blocks (text D b) b.blocks xs }

  same_term : (t : Term) → term_formed C b2 t ≡ term_formed C b t
  unfolding term_formed
  same_term t = ap (λ n. call_formed C t && (list_all operand_formed (term_operands t) && (list_all (place_formed b) (term_places t) && list_all (λ i. nat_lt i n) (targets t)))) (blocks_long (text D b) b.blocks xs)

  module _ (formed : body_formed C b ≡ true) where
    stays : (i : ℕ) (k : TypedBlock) → slice_get b.blocks i ≡ Some k → block_formed C b2 k ≡ true
    stays i k e = and_from _ _ (list_all_true (stmt_formed C b2) k.stmts (λ n s f. same_locals_stmt C b b2 refl s ∙ stmt_formed_at C b formed i n k s e f)) (same_term k.term ∙ term_formed_at C b formed i k e)

    changes : (i : ℕ) (k : TypedBlock) (fs : Facts) → slice_get b.blocks i ≡ Some k → block_formed C b2 (record { stmts = folded_stmts (text D b) fs k.stmts; term = folded_term (text D b) (after_all (text D b) k.stmts fs) k.term }) ≡ true
    changes i k fs e =
        let h = text D b in
        let last = after_all h k.stmts fs in
        let stmts : list_all (stmt_formed C b2) (folded_stmts h fs k.stmts) ≡ true = list_all_true (stmt_formed C b2) (folded_stmts h fs k.stmts) (λ n s2 f. (let (gs, s, at, same) = stmt_back h k.stmts n fs s2 f in subst (λ s2. stmt_formed C b2 s2 ≡ true) same (same_locals_stmt C b b2 refl (folded_stmt h gs s) ∙ stmt_fine D b.locals gs C b s (stmt_formed_at C b formed i n k s e at)))) in
        and_from _ _ stmts (same_term (folded_term h last k.term) ∙ folded_term_formed D b.locals last C b k.term (term_formed_at C b formed i k e))

    each : BlocksFormed C b2
    each i k2 e = (let (k, at, from) = blocks_from (text D b) b.blocks xs i k2 e in go k at from)
      where
        go : (k : TypedBlock) → slice_get b.blocks i ≡ Some k → BlockFrom (text D b) k k2 → block_formed C b2 k2 ≡ true
        go k at (inl same) = subst (λ k. block_formed C b2 k ≡ true) (sym same) (stays i k at)
        go k at (inr (fs, same)) = subst (λ k. block_formed C b2 k ≡ true) (sym same) (changes i k fs at)

    all_there : body_formed C b2 ≡ true
    unfolding body_formed
    all_there =
        let locals = list_all (type_formed C) b.locals in
        let blocks = list_all (block_formed C b) b.blocks in
        let start : has_start b2 ≡ true = ap (λ n. nat_lt 0 n && nat_lt b.args (length b.locals)) (blocks_long (text D b) b.blocks xs) ∙ and_true-left (has_start b) (locals && blocks) formed in
        let types = and_true-left locals blocks (and_true-right (has_start b) (locals && blocks) formed) in
        rw (start, types) (list_all_true (block_formed C b2) b2.blocks each)

  pub formed_by : body_formed C b ≡ true → body_formed C (folded_by D xs b) ≡ true
  unfolding folded_by
  formed_by formed = all_there formed
