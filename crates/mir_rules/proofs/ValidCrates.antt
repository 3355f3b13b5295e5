-- What a valid crate gives at each of its places, and how a body is valid in it.
use Rattle.std.proofs.Common.{◌≡◌, ◌⊎◌, inl, inr, refl, subst, ℕ, suc, ◌<◌, ◌≤◌, Bool, true, nat_lt, ◌&&◌, length, take, set, Some, slice_get, arith}
use Rattle.std.proofs.Common.{ltb-true}
use Rattle.std.specs.List.{list_all}
use Rattle.std.proofs.lemmas.List.{set-set}
use Rattle.mir_syntax.specs.Tree.{Tree}
use Rattle.mir_syntax.specs.Crate.{TypedStmt, TypedBlock, TypedBody, TypedFunction, Crate}
use Rattle.mir_syntax.specs.Shapes.{shapes_of}
use Rattle.mir_syntax.proofs.Lists.{set_there}
use Rattle.mir_syntax.specs.Parts.{term_operands, term_places, targets}
use Rattle.mir_rules.specs.Formed.{type_formed, place_formed, operand_formed, call_formed, block_there, stmt_formed, term_formed, block_formed, has_start, body_formed, function_formed, def_formed, outside_formed, is_formed}
use Rattle.mir_rules.specs.Limits.{most_in_body}
use Rattle.mir_rules.specs.Valid.{Valid, with_body, at_function, ValidAt}
use Rattle.mir_rules.proofs.Lists.{and_true-left, and_true-right, list_all_true-at}
use Rattle.mir_rules.proofs.Keeps.{BodyKeeps, CrateKeeps, crate_keeps}
use Rattle.mir_rules.proofs.Statements.{StmtTyped, stmt_typed}
use Rattle.mir_rules.proofs.Terminators.{TermTyped, term_typed, slice_get_there}
use Rattle.mir_rules.proofs.Bodies.{Alike, set_alike, set_cases, valid_with}

-- ---- the parts of a formed body

module _ (C : Crate) (b : TypedBody) (formed : body_formed C b ≡ true) where
  abbrev locals_formed : Bool
  locals_formed = list_all (type_formed C) b.locals

  abbrev blocks_formed : Bool
  blocks_formed = list_all (block_formed C b) b.blocks

  starts : has_start b ≡ true
  unfolding body_formed
  starts = and_true-left (has_start b) (locals_formed && blocks_formed) formed

  blocks : blocks_formed ≡ true
  unfolding body_formed
  blocks = and_true-right locals_formed blocks_formed (and_true-right (has_start b) (locals_formed && blocks_formed) formed)

  -- bb0 is there
  pub first_block : (k : TypedBlock) × (slice_get b.blocks 0 ≡ Some k)
  first_block = slice_get_there b.blocks 0 (ltb-true 0 (length b.blocks) (and_true-left (nat_lt 0 (length b.blocks)) (nat_lt b.args (length b.locals)) starts))

  pub args_below : b.args < length b.locals
  args_below = ltb-true b.args (length b.locals) (and_true-right (nat_lt 0 (length b.blocks)) (nat_lt b.args (length b.locals)) starts)

  -- `_0` is there
  pub result_there : (t : Tree) × (slice_get b.locals 0 ≡ Some t)
  result_there = slice_get_there b.locals 0 (omega (arith, args_below))

  pub local_formed_at : (x : ℕ) (t : Tree) → slice_get b.locals x ≡ Some t → type_formed C t ≡ true
  unfolding body_formed
  local_formed_at x t e = list_all_true-at (type_formed C) b.locals x t (and_true-left locals_formed blocks_formed (and_true-right (has_start b) (locals_formed && blocks_formed) formed)) e

  pub stmt_formed_at : (j i : ℕ) (k : TypedBlock) (s : TypedStmt) → slice_get b.blocks j ≡ Some k → slice_get k.stmts i ≡ Some s → stmt_formed C b s ≡ true
  stmt_formed_at j i k s e e2 = list_all_true-at (stmt_formed C b) k.stmts i s (and_true-left (list_all (stmt_formed C b) k.stmts) (term_formed C b k.term) (list_all_true-at (block_formed C b) b.blocks j k blocks e)) e2

  pub term_formed_at : (j : ℕ) (k : TypedBlock) → slice_get b.blocks j ≡ Some k → term_formed C b k.term ≡ true
  term_formed_at j k e = and_true-right (list_all (stmt_formed C b) k.stmts) (term_formed C b k.term) (list_all_true-at (block_formed C b) b.blocks j k blocks e)

  -- each target is a block
  pub target_there : (j i n : ℕ) (k : TypedBlock) → slice_get b.blocks j ≡ Some k → slice_get (targets k.term) i ≡ Some n → n < length b.blocks
  unfolding term_formed
  target_there j i n k e e2 =
      let own = call_formed C k.term in
      let ops = list_all operand_formed (term_operands k.term) in
      let places = list_all (place_formed b) (term_places k.term) in
      let all = list_all (block_there b) (targets k.term) in
      let there = and_true-right places all (and_true-right ops (places && all) (and_true-right own (ops && (places && all)) (term_formed_at j k e))) in
      ltb-true n (length b.blocks) (list_all_true-at (block_there b) (targets k.term) i n there e2)

-- ---- the parts of a valid crate

module _ (C : Crate) (valid : Valid C) where
  pub keeps : CrateKeeps C
  keeps = crate_keeps C valid.rules

  pub body_formed_at : (f : ℕ) (g : TypedFunction) → slice_get C.functions f ≡ Some g → body_formed C g.body ≡ true
  unfolding is_formed
  body_formed_at f g e =
      let defs = list_all (def_formed C) C.defs in
      let outsides = list_all (outside_formed C) C.outsides in
      let functions = list_all (function_formed C) C.functions in
      list_all_true-at (function_formed C) C.functions f g (and_true-right outsides functions (and_true-right defs (outsides && functions) valid.formed)) e

  pub stmt_at : (f j i : ℕ) (g : TypedFunction) (k : TypedBlock) (s : TypedStmt) → slice_get C.functions f ≡ Some g → slice_get g.body.blocks j ≡ Some k → slice_get k.stmts i ≡ Some s → StmtTyped (shapes_of C) g.body.args g.body.locals s
  stmt_at f j i g k s e e2 e3 = stmt_typed (shapes_of C) g.body.args g.body.locals s ((keeps.bodies f g e).stmts j i k s e2 e3)

  pub term_at : (f j : ℕ) (g : TypedFunction) (k : TypedBlock) → slice_get C.functions f ≡ Some g → slice_get g.body.blocks j ≡ Some k → TermTyped C (shapes_of C) g.body.locals k.term
  unfolding term_formed
  term_at f j g k e e2 =
      term_typed C (shapes_of C) g.body.locals k.term
      (and_true-left (call_formed C k.term) (list_all operand_formed (term_operands k.term) && (list_all (place_formed g.body) (term_places k.term) && list_all (block_there g.body) (targets k.term))) (term_formed_at C g.body (body_formed_at f g e) j k e2))
      ((keeps.bodies f g e).terms j k e2)

-- ---- bodies

pub valid_put : (C : Crate) (f : ℕ) (g : TypedFunction) (b : TypedBody) → Valid C → slice_get C.functions f ≡ Some g → Alike (with_body g b) g → body_formed C b ≡ true → BodyKeeps C b → Valid (at_function C f g b)
valid_put C f g b v e alike formed kept = valid_with C (set C.functions f (with_body g b)) (set_alike C.functions f g (with_body g b) e alike) v (λ j g2 at. each j g2 (set_cases C.functions f j (with_body g b) g2 at))
  where
    each : (j : ℕ) (g2 : TypedFunction) → (g2 ≡ with_body g b) ⊎ (slice_get C.functions j ≡ Some g2) → (body_formed C g2.body ≡ true) × BodyKeeps C g2.body
    each j g2 (inl same) = rw same (formed, kept)
    each j g2 (inr at) = (body_formed_at C v j g2 at, (keeps C v).bodies j g2 at)

-- a body that is formed and breaks no rule is valid in the place of one with its header
pub valid_at : (C : Crate) (f : ℕ) (g : TypedFunction) (b : TypedBody) → Valid C → slice_get C.functions f ≡ Some g → Alike (with_body g b) g → body_formed C b ≡ true → BodyKeeps C b → length b.blocks ≤ most_in_body → length b.locals ≤ most_in_body → ValidAt C f b
valid_at C f g b v e alike formed kept few_blocks few_locals = record { function = g; is = e; valid = valid_put C f g b v e alike formed kept; blocks = few_blocks; locals = few_locals }

-- the crate in which a body is valid has it at its function
pub holds_body : (C : Crate) (f : ℕ) (b : TypedBody) (h : ValidAt C f b) → slice_get (at_function C f h.function b).functions f ≡ Some (with_body h.function b)
holds_body C f b h = set_there C.functions f (with_body h.function b) h.function h.is

-- a body that a pass makes of a valid one
pub valid_again : (C : Crate) (f : ℕ) (b b2 : TypedBody) (h : ValidAt C f b) → b2.args ≡ b.args → take (suc b.args) b2.locals ≡ take (suc b.args) b.locals → body_formed (at_function C f h.function b) b2 ≡ true → BodyKeeps (at_function C f h.function b) b2 → length b2.blocks ≤ most_in_body → length b2.locals ≤ most_in_body → ValidAt C f b2
valid_again C f b b2 h args start formed kept few_blocks few_locals =
    let put = valid_put (at_function C f h.function b) f (with_body h.function b) b2 h.valid (holds_body C f b h) (record { is_drop = refl; args = args; start = start }) formed kept in
    record {
      function = h.function;
      is = h.is;
      valid = subst (λ fs. Valid (record C { functions = fs })) (set-set C.functions f (with_body h.function b) (with_body h.function b2)) put;
      blocks = few_blocks;
      locals = few_locals;
    }
