-- A folded body breaks no rule where the body breaks none.
use Rattle.std.proofs.Common.{◌≡◌, inl, inr, refl, sym, ap, ap₂, ◌∙◌, subst, ℕ, Bool, true, false, ◌||◌, nat_eq, ◌==◌, if◌then◌else◌, List, [], ◌∷◌, ◌++◌, map, Option, Some, None, slice_get}
use Rattle.std.specs.List.{list_any}
use Rattle.mir_syntax.specs.declared.types.ScalarTy.TheVariants as scalar_ty
use Rattle.mir_syntax.specs.declared.body.Proj.TheVariants.{Field}
use Rattle.mir_syntax.specs.declared.body.Const.{Const}
use Rattle.mir_syntax.specs.declared.body.Arm.{Arm}
use Rattle.mir_syntax.specs.declared.body.Operand.{Operand}
use Rattle.mir_syntax.specs.declared.body.Operand.TheVariants as operand
use Rattle.mir_syntax.specs.declared.body.Term.{Term}
use Rattle.mir_syntax.specs.declared.body.Term.TheVariants.{Goto, Switch, Return, Unreachable, Drop, Call, Assert}
use Rattle.mir_syntax.specs.Tree.{Tree}
use Rattle.mir_syntax.specs.Crate.{TypedRvalue, «use», binary, overflow, unary, cast, discriminant, tuple, build, TypedStmt, assign, storage_live, storage_dead, set_discriminant, TypedBlock, TypedBody, Crate}
use Rattle.mir_syntax.specs.Crate as rvalue
use Rattle.mir_syntax.specs.Shapes.{Shape, shapes_of}
use Rattle.mir_semantics.specs.Step.{Here, scalar_in, scalar_ty_of, take_arm}
use Rattle.mir_syntax.proofs.Lists.{map_back}
use Rattle.mir_syntax.specs.Parts.{rvalue_operands, arm_block}
use Rattle.mir_rules.specs.BodyRules.{moves_through_destructor, moves_needing_indirectly}
use Rattle.mir_rules.specs.Typing.{operand_ty}
use Rattle.mir_rules.proofs.Lists.{or_false-left, or_false-right}
use Rattle.mir_rules.specs.Broken.{statement_broken, terminator_broken}
use Rattle.mir_rules.proofs.Keeps.{BodyKeeps}
use Rattle.mir_rules.proofs.Statements.{StmtTyped, stmt_typed, typed_stmt}
use Rattle.mir_rules.proofs.Terminators.{TermTyped, typed_term}
use Rattle.const_flow.specs.declared.cell.Cell.{Cell}
use Rattle.const_flow.specs.declared.cell.Cell.TheVariants.{Nothing, Num, Many}
use Rattle.const_flow.specs.Facts.{Facts, known, value_known, after_all}
use Rattle.const_flow.specs.ConstAt.{Reached, text}
use Rattle.const_rewrite.specs.Folded.{literal_of, folded_operand, folded_operands, binary_result, number_or, pair_or, folded_rvalue, folded_stmt, switch_or, as_expected, folded_term, folded_by}
use Rattle.const_rewrite.proofs.Blocks.{BlockFrom, blocks_from, stmt_back}
use Rattle.const_rewrite.proofs.valid.Types.{operand_kept, operands_kept, rvalue_kept, all_fewer}

module _ (D : List Shape) (locals : List Tree) (fs : Facts) where
  abbrev T : Here
  T = record { shapes = D; locals = locals; frame = 0 }

  module _ (p : Operand → Bool) (h : (c : Const) → p (operand.Const c) ≡ false) where
    number_fewer : (c : Option Const) (y : TypedRvalue) → list_any p (rvalue_operands y) ≡ false → list_any p (rvalue_operands (number_or c y)) ≡ false
    number_fewer None y e = e
    number_fewer (Some c) y e = ap (λ a. a || false) (h c)

    pair_fewer : (c d : Option Const) (y : TypedRvalue) → list_any p (rvalue_operands y) ≡ false → list_any p (rvalue_operands (pair_or c d y)) ≡ false
    pair_fewer None d y e = e
    pair_fewer (Some c) None y e = e
    pair_fewer (Some c) (Some d) y e = ap₂ (λ a b. a || (b || false)) (h c) (h d)

    pub rvalue_fewer : (x : TypedRvalue) → list_any p (rvalue_operands x) ≡ false → list_any p (rvalue_operands (folded_rvalue T fs x)) ≡ false
    unfolding folded_rvalue
    rvalue_fewer («use» o) e = all_fewer D locals fs p h (o ∷ []) e
    rvalue_fewer (binary op a b) e = number_fewer (literal_of (binary_result T op a) (value_known T fs (binary op a b) [])) (binary op (folded_operand T fs a) (folded_operand T fs b)) (all_fewer D locals fs p h (a ∷ b ∷ []) e)
    rvalue_fewer (overflow op a b) e = pair_fewer (literal_of (scalar_ty_of T a) (value_known T fs (overflow op a b) (Field 0 ∷ []))) (literal_of (Some scalar_ty.Bool) (value_known T fs (overflow op a b) (Field 1 ∷ []))) (overflow op (folded_operand T fs a) (folded_operand T fs b)) (all_fewer D locals fs p h (a ∷ b ∷ []) e)
    rvalue_fewer (unary op a) e = number_fewer (literal_of (scalar_ty_of T a) (value_known T fs (unary op a) [])) (unary op (folded_operand T fs a)) (all_fewer D locals fs p h (a ∷ []) e)
    rvalue_fewer (cast a t) e = number_fewer (literal_of (scalar_in t) (value_known T fs (cast a t) [])) (cast (folded_operand T fs a) t) (all_fewer D locals fs p h (a ∷ []) e)
    rvalue_fewer (rvalue.ref q) e = e
    rvalue_fewer (rvalue.ref_mut q) e = e
    rvalue_fewer (discriminant q) e = e
    rvalue_fewer (tuple os) e = all_fewer D locals fs p h os e
    rvalue_fewer (build d k os) e = all_fewer D locals fs p h os e

  -- statements
  pub stmt_kept : (args : ℕ) (s : TypedStmt) → StmtTyped D args locals s → StmtTyped D args locals (folded_stmt T fs s)
  stmt_kept args (assign p x) a = record {
    ty = a.ty;
    place = a.place;
    rvalue = rvalue_kept D locals fs x a.ty a.rvalue;
    moves = record { through = rvalue_fewer (moves_through_destructor D locals) (λ c. refl) x a.moves.through; indirect = rvalue_fewer (moves_needing_indirectly D locals) (λ c. refl) x a.moves.indirect };
  }
  stmt_kept args (storage_live x) a = a
  stmt_kept args (storage_dead x) a = a
  stmt_kept args (set_discriminant p k) a = a

  -- the taken block is one of the switch's
  arm_in : (q : ℕ → Bool) (n : ℕ) (arms : List Arm) (u : ℕ) → list_any q (map arm_block arms ++ u ∷ []) ≡ false → q (take_arm n arms u) ≡ false
  arm_in q n [] u e = or_false-left (q u) false e
  arm_in q n (a ∷ arms) u e = go (nat_eq a.value n) (or_false-left (q a.block) (list_any q (map arm_block arms ++ u ∷ [])) e) (arm_in q n arms u (or_false-right (q a.block) (list_any q (map arm_block arms ++ u ∷ [])) e))
    where
      go : (b : Bool) → q a.block ≡ false → q (take_arm n arms u) ≡ false → q (if b then a.block else take_arm n arms u) ≡ false
      go true x y = x
      go false x y = y

  -- terminators
  pub term_kept : (C : Crate) (t : Term) → TermTyped C D locals t → TermTyped C D locals (folded_term T fs t)
  unfolding folded_term
  term_kept C (Goto u) a = a
  term_kept C (Switch o arms u) a = go (known fs o)
    where
      go : (q : Cell) → TermTyped C D locals (switch_or q o arms u)
      go (Num n) = record { targets = ap (λ b. b || false) (arm_in (λ i. i == 0) n arms u a.targets); own = tt; moves = record { through = refl; indirect = refl } }
      go Nothing = a
      go Many = a
  term_kept C Return a = a
  term_kept C Unreachable a = a
  term_kept C (Drop p u) a = a
  term_kept C (Call p g os u) a = record {
    targets = a.targets;
    own = record { ty = a.own.ty; place = a.own.place; result = a.own.result; types = a.own.types; operands = operands_kept D locals fs os ∙ a.own.operands; wanted = a.own.wanted };
    moves = record { through = all_fewer D locals fs (moves_through_destructor D locals) (λ c. refl) os a.moves.through; indirect = all_fewer D locals fs (moves_needing_indirectly D locals) (λ c. refl) os a.moves.indirect };
  }
  term_kept C (Assert o c words os u) a = go (as_expected c (known fs o))
    where
      go : (b : Bool) → TermTyped C D locals (if b then Goto u else (Assert (folded_operand T fs o) c words (folded_operands T fs os) u))
      go true = record { targets = a.targets; own = tt; moves = record { through = refl; indirect = refl } }
      go false = record {
        targets = a.targets;
        own = record { condition = operand_kept D locals fs o ∙ a.own.condition; message = λ i q e. (let (p, ep, same) = map_back (folded_operand T fs) os i q e in let (s, es) = a.own.message i p ep in (s, ap (operand_ty D locals) (sym same) ∙ operand_kept D locals fs p ∙ es)) };
        moves = record { through = all_fewer D locals fs (moves_through_destructor D locals) (λ c. refl) (o ∷ os) a.moves.through; indirect = all_fewer D locals fs (moves_needing_indirectly D locals) (λ c. refl) (o ∷ os) a.moves.indirect };
      }

-- ---- a body

-- the rules that a body keeps, its folded one keeps
module _ (C : Crate) (b : TypedBody) (xs : List Reached) (typed : (j : ℕ) (k : TypedBlock) → slice_get b.blocks j ≡ Some k → TermTyped C (shapes_of C) b.locals k.term) (keeps : BodyKeeps C b) where
  abbrev B : Here
  B = text (shapes_of C) b

  stmts_keep : (j i : ℕ) (k k2 : TypedBlock) (s2 : TypedStmt) → slice_get b.blocks j ≡ Some k → BlockFrom B k k2 → slice_get k2.stmts i ≡ Some s2 → statement_broken (shapes_of C) b.args b.locals s2 ≡ []
  stmts_keep j i k k2 s2 at (inl same) e = keeps.stmts j i k s2 at (ap (λ (k : TypedBlock). slice_get k.stmts i) (sym same) ∙ e)
  stmts_keep j i k k2 s2 at (inr (fs, same)) e =
      let (gs, s, es, is) = stmt_back B k.stmts i fs s2 (ap (λ (k : TypedBlock). slice_get k.stmts i) (sym same) ∙ e) in
      typed_stmt (shapes_of C) b.args b.locals s2 (subst (StmtTyped (shapes_of C) b.args b.locals) is (stmt_kept (shapes_of C) b.locals gs b.args s (stmt_typed (shapes_of C) b.args b.locals s (keeps.stmts j i k s at es))))

  term_keeps : (j : ℕ) (k k2 : TypedBlock) → slice_get b.blocks j ≡ Some k → BlockFrom B k k2 → terminator_broken C (shapes_of C) b.locals k2.term ≡ []
  term_keeps j k k2 at (inl same) = ap (λ (k : TypedBlock). terminator_broken C (shapes_of C) b.locals k.term) same ∙ keeps.terms j k at
  term_keeps j k k2 at (inr (fs, same)) =
      let last = after_all B k.stmts fs in
      ap (λ (k : TypedBlock). terminator_broken C (shapes_of C) b.locals k.term) same ∙ typed_term C (shapes_of C) b.locals (folded_term B last k.term) (term_kept (shapes_of C) b.locals last C k.term (typed j k at))

  pub keeps_by : BodyKeeps C (folded_by (shapes_of C) xs b)
  unfolding folded_by
  keeps_by = record {
    stmts = λ j i k2 s2 e f. (let (k, at, from) = blocks_from B b.blocks xs j k2 e in stmts_keep j i k k2 s2 at from f);
    terms = λ j k2 e. (let (k, at, from) = blocks_from B b.blocks xs j k2 e in term_keeps j k k2 at from);
  }
