-- The parts of a formed body are whole: each downcast is followed by a field.
use Rattle.std.proofs.Common.{◌≡◌, Bool, true, ◌&&◌, nat_lt, List, [], ◌∷◌, ◌++◌, map, flat_map, length, refl}
use Rattle.std.specs.List.{list_all}
use Rattle.std.proofs.lemmas.Bool.{and_from}
use Rattle.mir_syntax.specs.declared.body.Place.{Place}
use Rattle.mir_syntax.specs.declared.body.Operand.{Operand}
use Rattle.mir_syntax.specs.declared.body.Operand.TheVariants as operand
use Rattle.mir_syntax.specs.declared.body.Rvalue.{Rvalue}
use Rattle.mir_syntax.specs.declared.body.Rvalue.TheVariants as rvalue
use Rattle.mir_syntax.specs.declared.body.Stmt.{Stmt}
use Rattle.mir_syntax.specs.declared.body.Stmt.TheVariants as stmt
use Rattle.mir_syntax.specs.declared.body.Term.{Term}
use Rattle.mir_syntax.specs.declared.body.Term.TheVariants as term
use Rattle.mir_syntax.specs.declared.body.Block.{Block}
use Rattle.mir_syntax.specs.Tree.{Tree}
use Rattle.mir_syntax.specs.Crate.{TypedBody, Crate, rvalue_of, stmt_of, block_of}
use Rattle.mir_syntax.specs.Parts.{path_formed, operand_places, rvalue_operands, rvalue_places, term_operands, term_places, targets, operand_whole, rvalue_whole, stmt_whole, term_whole, block_whole}
use Rattle.mir_rules.specs.Formed.{place_formed, operand_formed, shape_formed, rvalue_formed, stmt_formed, call_formed, term_formed, block_formed, block_there, type_formed, has_start, body_formed}
use Rattle.mir_rules.proofs.Lists.{and_true-left, and_true-right, list_all_true-left, list_all_true-right}

module _ (C : Crate) (b : TypedBody) where
  whole_place : (p : Place) → place_formed b p ≡ true → path_formed p.proj ≡ true
  whole_place p h = and_true-right (nat_lt p.local (length b.locals)) (path_formed p.proj) h

  whole_operand : (a : Operand) → list_all (place_formed b) (operand_places a) ≡ true → operand_whole a ≡ true
  whole_operand (operand.Copy p) h = whole_place p (and_true-left (place_formed b p) true h)
  whole_operand (operand.Move p) h = whole_place p (and_true-left (place_formed b p) true h)
  whole_operand (operand.Const value) h = refl

  whole_operands : (parts : List Operand) → list_all (place_formed b) (flat_map operand_places parts) ≡ true → list_all operand_whole parts ≡ true
  whole_operands [] h = refl
  whole_operands (a ∷ parts) h =
      and_from (operand_whole a) (list_all operand_whole parts)
      (whole_operand a (list_all_true-left (place_formed b) (operand_places a) (flat_map operand_places parts) h))
      (whole_operands parts (list_all_true-right (place_formed b) (operand_places a) (flat_map operand_places parts) h))

  one : (a : Operand) → list_all (place_formed b) (flat_map operand_places (a ∷ [])) ≡ true → operand_whole a ≡ true
  one a h = and_true-left (operand_whole a) true (whole_operands (a ∷ []) h)

  pair : (x y : Operand) → list_all (place_formed b) (flat_map operand_places (x ∷ y ∷ [])) ≡ true → (operand_whole x && operand_whole y) ≡ true
  pair x y h =
      let all = whole_operands (x ∷ y ∷ []) h in
      let others = and_true-right (operand_whole x) (operand_whole y && true) all in
      and_from (operand_whole x) (operand_whole y) (and_true-left (operand_whole x) (operand_whole y && true) all) (and_true-left (operand_whole y) true others)

  whole_value : (trees : List Tree) (r : Rvalue) → list_all (place_formed b) (rvalue_places (rvalue_of trees r)) ≡ true → rvalue_whole r ≡ true
  whole_value trees (rvalue.Use a) h = one a h
  whole_value trees (rvalue.Binary op x y) h = pair x y h
  whole_value trees (rvalue.Overflow op x y) h = pair x y h
  whole_value trees (rvalue.Unary op a) h = one a h
  whole_value trees (rvalue.Cast a ty) h = one a h
  whole_value trees (rvalue.Ref p) h = whole_place p (and_true-left (place_formed b p) true h)
  whole_value trees (rvalue.RefMut p) h = whole_place p (and_true-left (place_formed b p) true h)
  whole_value trees (rvalue.Discriminant p) h = whole_place p (and_true-left (place_formed b p) true h)
  whole_value trees (rvalue.Tuple parts) h = whole_operands parts h
  whole_value trees (rvalue.Build d v parts) h = whole_operands parts h

  whole_stmt : (trees : List Tree) (s : Stmt) → stmt_formed C b (stmt_of trees s) ≡ true → stmt_whole s ≡ true
  unfolding stmt_formed
  whole_stmt trees (stmt.Assign p r) h =
      let v = rvalue_of trees r in
      let value = and_true-right (place_formed b p) (rvalue_formed C b v) h in
      let parts = and_true-right (shape_formed C v) (list_all operand_formed (rvalue_operands v) && list_all (place_formed b) (rvalue_places v)) value in
      let places = and_true-right (list_all operand_formed (rvalue_operands v)) (list_all (place_formed b) (rvalue_places v)) parts in
      and_from (path_formed p.proj) (rvalue_whole r) (whole_place p (and_true-left (place_formed b p) (rvalue_formed C b v) h)) (whole_value trees r places)
  whole_stmt trees (stmt.StorageLive x) h = refl
  whole_stmt trees (stmt.StorageDead x) h = refl
  whole_stmt trees (stmt.SetDiscriminant p k) h = whole_place p h

  whole_stmts : (trees : List Tree) (stmts : List Stmt) → list_all (stmt_formed C b) (map (stmt_of trees) stmts) ≡ true → list_all stmt_whole stmts ≡ true
  whole_stmts trees [] h = refl
  whole_stmts trees (s ∷ stmts) h =
      let head = stmt_formed C b (stmt_of trees s) in
      let others = list_all (stmt_formed C b) (map (stmt_of trees) stmts) in
      and_from (stmt_whole s) (list_all stmt_whole stmts) (whole_stmt trees s (and_true-left head others h)) (whole_stmts trees stmts (and_true-right head others h))

  whole_places : (t : Term) → list_all (place_formed b) (term_places t) ≡ true → term_whole t ≡ true
  whole_places (term.Switch a arms other) h = one a h
  whole_places (term.Drop p next) h = whole_place p (and_true-left (place_formed b p) true h)
  whole_places (term.Call p who args next) h =
      let others = list_all (place_formed b) (flat_map operand_places args) in
      and_from (path_formed p.proj) (list_all operand_whole args) (whole_place p (and_true-left (place_formed b p) others h)) (whole_operands args (and_true-right (place_formed b p) others h))
  whole_places (term.Assert a expected text args next) h = whole_operands (a ∷ args) h
  whole_places (term.Goto next) h = refl
  whole_places term.Return h = refl
  whole_places term.Unreachable h = refl

  whole_term : (t : Term) → term_formed C b t ≡ true → term_whole t ≡ true
  unfolding term_formed
  whole_term t h =
      let places = list_all (place_formed b) (term_places t) && list_all (block_there b) (targets t) in
      let rest = and_true-right (call_formed C t) (list_all operand_formed (term_operands t) && places) h in
      let there = and_true-right (list_all operand_formed (term_operands t)) places rest in
      whole_places t (and_true-left (list_all (place_formed b) (term_places t)) (list_all (block_there b) (targets t)) there)

  formed_call : (t : Term) → term_formed C b t ≡ true → call_formed C t ≡ true
  unfolding term_formed
  formed_call t h =
      let places = list_all (place_formed b) (term_places t) && list_all (block_there b) (targets t) in
      and_true-left (call_formed C t) (list_all operand_formed (term_operands t) && places) h

  formed_term : (trees : List Tree) (k : Block) → block_formed C b (block_of trees k) ≡ true → term_formed C b k.term ≡ true
  formed_term trees k h = and_true-right (list_all (stmt_formed C b) (map (stmt_of trees) k.stmts)) (term_formed C b k.term) h

  pub whole_block : (trees : List Tree) (k : Block) → block_formed C b (block_of trees k) ≡ true → block_whole k ≡ true
  whole_block trees k h =
      let stmts = list_all (stmt_formed C b) (map (stmt_of trees) k.stmts) in
      and_from (list_all stmt_whole k.stmts) (term_whole k.term) (whole_stmts trees k.stmts (and_true-left stmts (term_formed C b k.term) h)) (whole_term k.term (formed_term trees k h))

  pub block_call : (trees : List Tree) (k : Block) → block_formed C b (block_of trees k) ≡ true → call_formed C k.term ≡ true
  block_call trees k h = formed_call k.term (formed_term trees k h)

  pub formed_blocks : body_formed C b ≡ true → list_all (block_formed C b) b.blocks ≡ true
  unfolding body_formed
  formed_blocks h =
      let types = list_all (type_formed C) b.locals in
      let blocks = list_all (block_formed C b) b.blocks in
      and_true-right types blocks (and_true-right (has_start b) (types && blocks) h)
