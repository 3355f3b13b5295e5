-- In a valid crate the body in which a call is replaced is valid.
use Rattle.std.proofs.Common.{◌≡◌, ◌⊎◌, inl, inr, refl, sym, ap, ◌∙◌, subst, ℕ, zero, suc, ◌+◌, ◌<◌, ◌≤◌, Bool, true, false, if◌then◌else◌, List, [], ◌∷◌, ◌++◌, length, map, take, drop, set, Some, slice_get, arith}
use Rattle.std.proofs.Common.{lt-ltb}
use Rattle.std.specs.List.{list_all, flat_map}
use Rattle.std.proofs.lemmas.List.{length-append, length-set, length-map}
use Rattle.std.proofs.lemmas.List.Folds.{list_all-append}
use Rattle.std.proofs.lemmas.Option.{slice_get_within, get_or_from_slice_get}
use Rattle.mir_syntax.specs.declared.body.Place.{Place}
use Rattle.mir_syntax.specs.declared.body.Operand.{Operand}
use Rattle.mir_syntax.specs.declared.body.Operand.TheVariants as operand
use Rattle.mir_syntax.specs.declared.body.Callee.TheVariants as callee
use Rattle.mir_syntax.specs.declared.body.Term.{Term}
use Rattle.mir_syntax.specs.declared.body.Term.TheVariants.{Goto, Switch, Return, Unreachable, Drop, Call, Assert}
use Rattle.mir_syntax.specs.Tree.{Tree, empty, more, tuple_of}
use Rattle.mir_syntax.specs.Tree as tree
use Rattle.mir_syntax.specs.Crate.{TypedRvalue, «use», ref_mut, TypedStmt, assign, TypedBlock, TypedBody, TypedFunction, Crate}
use Rattle.mir_syntax.specs.Shapes.{Shape, shapes_of, place_ty}
use Rattle.mir_syntax.proofs.Lists.{map_back}
use Rattle.mir_syntax.specs.Parts.{operand_places, targets, has_deref}
use Rattle.mir_rules.specs.Typing.{operand_ty, operands_ty, rvalue_ty, args_of, result_of}
use Rattle.mir_rules.specs.BodyRules.{breaks_v05, breaks_v21, breaks_v22}
use Rattle.mir_rules.specs.Formed.{type_formed, place_formed, operand_formed, stmt_formed, term_formed, rvalue_formed, block_formed, body_formed}
use Rattle.mir_rules.specs.Valid.{Valid, at_function}
use Rattle.mir_rules.proofs.Lists.{and_true-left, and_true-right, or_false-left, or_false-right, list_all_true}
use Rattle.mir_rules.proofs.Statements.{MovesKept, StmtTyped, typed_stmt}
use Rattle.mir_rules.proofs.Terminators.{TermTyped, slice_get_there, not_to_start, typed_term}
use Rattle.mir_rules.proofs.ValidCrates.{body_formed_at, args_below, stmt_formed_at, term_formed_at, stmt_at, term_at, first_block, local_formed_at, target_there, valid_put}
use Rattle.mir_syntax.proofs.Binds.{bind_some, some_bind}
use Rattle.trim_locals.specs.Trimmed.{renamed_stmt, renamed_term}
use Rattle.mir_relate.specs.Renumbered.{Numbering, OperandSame, OperandsSame, StmtSame, TermSame}
use Rattle.mir_relate.proofs.Renumbered.{place_same, operand_same, moves_same, term_keeps, stmt_formed_same, term_formed_same}
use Rattle.mir_relate.proofs.Leaves.{some_val}
use Rattle.inline_pass.specs.Spliced.{after, term_after, whole_local, handed, first_mutable, kept_local, kept, kept_dest, referent_of, result_to, block_after}
use Rattle.inline_pass.proofs.Text.{sum_zero, stmt_ready, term_ready, itself, stmt_itself, operands_itself}
use Rattle.inline_pass.proofs.refines.Running.{Off}
use Rattle.std.proofs.lemmas.List.{take-append-le}
use Rattle.mir_rules.proofs.Keeps.{BodyKeeps}
use Rattle.mir_rules.proofs.Bodies.{set_cases}
use Rattle.inline_pass.proofs.Bodies.{Site, inlined_body, append_cases, own_locals, copy_locals, kept_there, calling}
use Rattle.inline_pass.proofs.valid.Stays.{same_of, term_itself, stmt_kept, stmt_formed_any, TermParts, term_parts, parts_term, all_more, goals_there, goals_start, after_typed, after_formed}

taken_at : (ls : List Tree) (n j : ℕ) (t : Tree) → slice_get (take n ls) j ≡ Some t → slice_get ls j ≡ Some t
taken_at [] zero j t e = absurd (grind arith)
taken_at [] (suc n) j t e = absurd (grind arith)
taken_at (l ∷ ls) zero j t e = absurd (grind arith)
taken_at (l ∷ ls) (suc n) zero t e = e
taken_at (l ∷ ls) (suc n) (suc j) t e = taken_at ls n j t e

arg_at : (ls : List Tree) (n j : ℕ) (t : Tree) → slice_get (take n (drop 1 ls)) j ≡ Some t → slice_get ls (suc j) ≡ Some t
arg_at [] n j t e = absurd (let z : slice_get {X = Tree} [] j ≡ Some t = taken_at [] n j t e in grind arith)
arg_at (l ∷ ls) n j t e = taken_at ls n j t e

module _ (C : Crate) (valid : Valid C) (f : ℕ) (fn : TypedFunction) (fn_at : slice_get C.functions f ≡ Some fn) (s : Site fn.body) (hn : TypedFunction) (hn_at : slice_get C.functions s.called.0 ≡ Some hn) where
  abbrev D : List Shape
  D = shapes_of C

  abbrev b1 : TypedBody
  b1 = fn.body

  abbrev h : TypedBody
  h = hn.body

  abbrev L : ℕ
  L = length b1.locals

  abbrev B : ℕ
  B = length b1.blocks

  abbrev d : ℕ
  d = L + length h.locals

  abbrev bt : TypedBody
  bt = inlined_body fn.body s hn.body

  formed1 : body_formed C b1 ≡ true
  formed1 = body_formed_at C valid f fn fn_at

  formedh : body_formed C h ≡ true
  formedh = body_formed_at C valid s.called.0 hn hn_at

  args1 : b1.args < L
  args1 = args_below C b1 formed1

  some_blocks : 0 < B
  some_blocks = let (k, e) = first_block C b1 formed1 in slice_get_within b1.blocks 0 k e

  some_locals : 0 < length h.locals
  some_locals = let l = args_below C h formedh in omega (arith, l)

  abbrev call_block : TypedBlock
  call_block = calling b1 h s.block s.found s.is_found s.dest s.args s.next

  abbrev copied : TypedBlock → TypedBlock
  copied = block_after L B (kept_dest d s.dest) s.next

  long_blocks : length bt.blocks ≡ B + length h.blocks
  long_blocks =
      let a = length-append (set b1.blocks s.block call_block) (map copied h.blocks) in
      let b = length-set b1.blocks s.block call_block in
      let c = length-map h.blocks copied in
      omega (arith, a, b, c)

  long_locals : L ≤ length bt.locals
  long_locals = let a = length-append b1.locals (h.locals ++ kept_local h.locals s.dest) in omega (arith, a)

  -- ---- the two texts

  abbrev R0 : Numbering
  R0 = Off 0 L

  abbrev R1 : Numbering
  R1 = Off L (length h.locals)

  ready0 : (x : ℕ) → x < L → R0 x (itself x)
  ready0 x l = (l, sum_zero x)

  ready1 : (x : ℕ) → x < length h.locals → R1 x (after L x)
  ready1 x l = (l, refl)

  types0 : (x y : ℕ) → R0 x y → slice_get b1.locals x ≡ slice_get bt.locals y
  types0 x y q =
      let (t, at) = slice_get_there b1.locals x q.0 in
      at ∙ sym (own_locals b1 h s.block s.found s.is_found s.dest s.args s.next x t at) ∙ ap (slice_get bt.locals) (sym (sum_zero x) ∙ q.1)

  types1 : (x y : ℕ) → R1 x y → slice_get h.locals x ≡ slice_get bt.locals y
  types1 x y q =
      let (t, at) = slice_get_there h.locals x q.0 in
      at ∙ sym (copy_locals b1 h s.block s.found s.is_found s.dest s.args s.next x t at) ∙ ap (slice_get bt.locals) q.1

  above0 : (x y : ℕ) → R0 x y → b1.args < x → b1.args < y
  above0 x y q l = let z = q.1 in omega (arith, z, l)

  above1 : (x y : ℕ) → R1 x y → h.args < x → b1.args < y
  above1 x y q l = let z = q.1 in let a = args1 in omega (arith, z, a)

  -- ---- statements

  abbrev Ok : TypedStmt → Type 0
  Ok t = (stmt_formed C bt t ≡ true) × StmtTyped D b1.args bt.locals t

  own_stmt : (m a : ℕ) (n : TypedBlock) (t : TypedStmt) → slice_get b1.blocks m ≡ Some n → slice_get n.stmts a ≡ Some t → Ok t
  own_stmt m a n t e e2 =
      let fm = stmt_formed_at C b1 formed1 m a n t e e2 in
      let same : StmtSame R0 t t = subst (StmtSame R0 t) (stmt_itself t) (stmt_ready C b1 R0 itself ready0 t fm) in (
        sym (stmt_formed_any C bt b1.blocks t) ∙ stmt_formed_same C b1 (record bt { blocks = b1.blocks }) R0 types0 refl t t same ∙ fm,
        stmt_kept D b1.args b1.args b1.locals bt.locals R0 types0 above0 t t same (stmt_at C valid f m a fn n t fn_at e e2),
      )

  copy_stmt : (m a : ℕ) (n : TypedBlock) (t : TypedStmt) → slice_get h.blocks m ≡ Some n → slice_get n.stmts a ≡ Some t → Ok (renamed_stmt (after L) t)
  copy_stmt m a n t e e2 =
      let fm = stmt_formed_at C h formedh m a n t e e2 in
      let same = stmt_ready C h R1 (after L) ready1 t fm in (
        sym (stmt_formed_any C bt h.blocks (renamed_stmt (after L) t)) ∙ stmt_formed_same C h (record bt { blocks = h.blocks }) R1 types1 refl t (renamed_stmt (after L) t) same ∙ fm,
        stmt_kept D h.args b1.args h.locals bt.locals R1 types1 above1 t (renamed_stmt (after L) t) same (stmt_at C valid s.called.0 m a hn n t hn_at e e2),
      )

  -- ---- terminators

  abbrev TermOk : Term → Type 0
  TermOk t = (term_formed C bt t ≡ true) × TermTyped C D bt.locals t

  own_term : (m : ℕ) (n : TypedBlock) → slice_get b1.blocks m ≡ Some n → TermOk n.term
  own_term m n e =
      let fm = term_formed_at C b1 formed1 m n e in
      let same : TermSame R0 n.term n.term = subst (TermSame R0 n.term) (term_itself n.term) (same_of C b1 R0 itself ready0 n.term (term_ready C b1 R0 itself ready0 n.term fm)) in
      let q = term_parts C (record bt { blocks = b1.blocks }) n.term (term_formed_same C b1 (record bt { blocks = b1.blocks }) R0 types0 refl n.term n.term same ∙ fm) in
      let le : B ≤ length bt.blocks = (let z = long_blocks in omega (arith, z)) in (
        parts_term C bt n.term (record { call = q.call; operands = q.operands; places = q.places; goals = all_more B (length bt.blocks) le (targets n.term) q.goals }),
        term_keeps D b1.locals bt.locals R0 types0 C n.term n.term same (term_at C valid f m fn n fn_at e),
      )

  site_term : TermTyped C D b1.locals (Call s.dest (callee.Local s.called) s.args s.next)
  site_term = subst (TermTyped C D b1.locals) s.ends (term_at C valid f s.block fn s.found fn_at s.is_found)

  next_some : 0 < s.next
  next_some = go s.next (not_to_start (Call s.dest (callee.Local s.called) s.args s.next) 0 s.next site_term.targets refl)
    where
      go : (n : ℕ) → (n ≡ 0 → ⊥) → 0 < n
      go zero ne = absurd (ne refl)
      go (suc n) ne = omega arith

  next_there : s.next < B
  next_there = target_there C b1 formed1 s.block 0 s.next s.found s.is_found (ap (λ t. slice_get (targets t) 0) s.ends)

  copy_term : (m : ℕ) (n : TypedBlock) → slice_get h.blocks m ≡ Some n → TermOk (term_after L B s.next n.term)
  copy_term m n e =
      let fm = term_formed_at C h formedh m n e in
      let same = same_of C h R1 (after L) ready1 n.term (term_ready C h R1 (after L) ready1 n.term fm) in
      let t = renamed_term (after L) n.term in
      let q = term_parts C (record bt { blocks = h.blocks }) t (term_formed_same C h (record bt { blocks = h.blocks }) R1 types1 refl n.term t same ∙ fm) in
      let old = term_parts C h n.term fm in
      let z = long_blocks in
      let l = next_there in
      let goals = goals_there L B s.next (length h.blocks) (length bt.blocks) n.term (omega (arith, z)) (omega (arith, z, l)) old.goals in (
        parts_term C bt (term_after L B s.next n.term) (after_formed C bt L B s.next n.term goals q.call q.operands q.places),
        after_typed C D bt.locals L B s.next n.term (goals_start L B s.next n.term some_blocks next_some) (term_keeps D h.locals bt.locals R1 types1 C n.term t same (term_at C valid s.called.0 m hn n hn_at e)),
      )

  -- ---- the result and the destination

  abbrev ty : Tree
  ty = site_term.own.ty

  first_local : (t : Tree) × (slice_get h.locals 0 ≡ Some t)
  first_local = slice_get_there h.locals 0 some_locals

  result_is : first_local.0 ≡ ty
  result_is =
      let (g, e1, e2) = bind_some site_term.own.result in
      let same : hn ≡ g = some_val (sym hn_at ∙ e1) in
      sym (get_or_from_slice_get h.locals 0 first_local.0 empty first_local.1) ∙ ap (λ (g : TypedFunction). result_of g.body) same ∙ some_val e2

  -- the callee's result has the type of the destination
  pub result_first : (t : Tree) → place_ty D b1.locals s.dest ≡ Some t → slice_get h.locals 0 ≡ Some t
  result_first t e = first_local.1 ∙ ap Some result_is ∙ sym site_term.own.place ∙ e

  result_there : slice_get bt.locals L ≡ Some ty
  result_there =
      let z : L + 0 ≡ L = omega arith in
      ap (slice_get bt.locals) (sym z) ∙ copy_locals b1 h s.block s.found s.is_found s.dest s.args s.next 0 first_local.0 first_local.1 ∙ ap Some result_is

  dest_term : TermOk (Call s.dest (callee.Local s.called) s.args s.next)
  dest_term = subst TermOk s.ends (own_term s.block s.found s.is_found)

  dest_parts : TermParts C bt (Call s.dest (callee.Local s.called) s.args s.next)
  dest_parts = term_parts C bt (Call s.dest (callee.Local s.called) s.args s.next) dest_term.0

  dest_formed : place_formed bt s.dest ≡ true
  dest_formed = and_true-left (place_formed bt s.dest) (list_all (place_formed bt) (flat_map operand_places s.args)) dest_parts.places

  dest_ty : place_ty D b1.locals s.dest ≡ Some ty
  dest_ty = site_term.own.place

  dest_ty2 : place_ty D bt.locals s.dest ≡ Some ty
  dest_ty2 =
      let same : TermSame R0 (Call s.dest (callee.Local s.called) s.args s.next) (Call s.dest (callee.Local s.called) s.args s.next) = subst (TermSame R0 (Call s.dest (callee.Local s.called) s.args s.next)) (term_itself (Call s.dest (callee.Local s.called) s.args s.next)) (same_of C b1 R0 itself ready0 (Call s.dest (callee.Local s.called) s.args s.next) (term_ready C b1 R0 itself ready0 (Call s.dest (callee.Local s.called) s.args s.next) (ap (term_formed C b1) (sym s.ends) ∙ term_formed_at C b1 formed1 s.block s.found s.is_found))) in
      place_same D b1.locals bt.locals R0 types0 s.dest s.dest same.0 ∙ dest_ty

  kept_ty : has_deref s.dest.proj ≡ true → slice_get bt.locals d ≡ Some (tree.ref_mut ty)
  kept_ty q = kept_there b1 h s.block s.found s.is_found s.dest s.args s.next q ty (first_local.1 ∙ ap Some result_is)

  whole_ty : (x : ℕ) (t : Tree) → slice_get bt.locals x ≡ Some t → place_ty D bt.locals (whole_local x) ≡ Some t
  unfolding place_ty
  whole_ty x t e = some_bind _ e refl

  behind_ty : (x : ℕ) (t : Tree) → slice_get bt.locals x ≡ Some (tree.ref_mut t) → place_ty D bt.locals (referent_of x) ≡ Some t
  unfolding place_ty
  behind_ty x t e = some_bind _ e (some_bind _ refl refl)

  whole_formed : (x : ℕ) (t : Tree) → slice_get bt.locals x ≡ Some t → place_formed bt (whole_local x) ≡ true
  whole_formed x t e = rw (lt-ltb x (length bt.locals) (slice_get_within bt.locals x t e)) refl

  behind_formed : (x : ℕ) (t : Tree) → slice_get bt.locals x ≡ Some t → place_formed bt (referent_of x) ≡ true
  behind_formed x t e = rw (lt-ltb x (length bt.locals) (slice_get_within bt.locals x t e)) refl

  assigned_formed : (q : Place) (r : TypedRvalue) → place_formed bt q ≡ true → rvalue_formed C bt r ≡ true → stmt_formed C bt (assign q r) ≡ true
  unfolding stmt_formed
  assigned_formed q r a b = rw (a, b) refl

  move_formed : rvalue_formed C bt («use» (operand.Move (whole_local L))) ≡ true
  move_formed = rw (whole_formed L ty result_there) refl

  operand_whole : operand_ty D bt.locals (operand.Move (whole_local L)) ≡ Some ty
  unfolding operand_ty
  operand_whole = whole_ty L ty result_there

  rvalue_use : (o : Operand) (t : Tree) → operand_ty D bt.locals o ≡ Some t → rvalue_ty D bt.locals («use» o) ≡ Some t
  unfolding rvalue_ty
  rvalue_use o t e = e

  rvalue_kept : rvalue_ty D bt.locals (ref_mut s.dest) ≡ Some (tree.ref_mut ty)
  unfolding rvalue_ty
  rvalue_kept = some_bind _ dest_ty2 refl

  result_ok : Ok (assign (kept_dest d s.dest) («use» (operand.Move (whole_local L))))
  result_ok = go (has_deref s.dest.proj) refl
    where
      go : (c : Bool) → has_deref s.dest.proj ≡ c → Ok (assign (if c then referent_of d else s.dest) («use» (operand.Move (whole_local L))))
      go true q = (
        assigned_formed (referent_of d) _ (behind_formed d _ (kept_ty q)) move_formed,
        record { ty = ty; place = behind_ty d ty (kept_ty q); rvalue = rvalue_use (operand.Move (whole_local L)) ty operand_whole; moves = record { through = refl; indirect = refl } },
      )
      go false q = (
        assigned_formed s.dest _ dest_formed move_formed,
        record { ty = ty; place = dest_ty2; rvalue = rvalue_use (operand.Move (whole_local L)) ty operand_whole; moves = record { through = refl; indirect = refl } },
      )

  kept_ok : (a : ℕ) (t : TypedStmt) → slice_get (kept d s.dest) a ≡ Some t → Ok t
  kept_ok a t e = go (has_deref s.dest.proj) refl a e
    where
      this : has_deref s.dest.proj ≡ true → Ok (assign (whole_local d) (ref_mut s.dest))
      this q = (
        assigned_formed (whole_local d) (ref_mut s.dest) (whole_formed d _ (kept_ty q)) (rw dest_formed refl),
        record { ty = tree.ref_mut ty; place = whole_ty d _ (kept_ty q); rvalue = rvalue_kept; moves = record { through = refl; indirect = refl } },
      )

      go : (c : Bool) → has_deref s.dest.proj ≡ c → (a : ℕ) → slice_get (if c then assign (whole_local d) (ref_mut s.dest) ∷ [] else []) a ≡ Some t → Ok t
      go true q zero e = subst Ok (some_val e) (this q)
      go true q (suc a) e = absurd (grind arith)
      go false q a e = absurd (grind arith)

  -- ---- the arguments

  first_move : (o : Operand) (os : List Operand) → MovesKept D b1.locals (o ∷ os) → MovesKept D b1.locals (o ∷ []) × MovesKept D b1.locals os
  first_move o os m = (
    record { through = rw (or_false-left _ (breaks_v21 D b1.locals os) m.through) refl; indirect = rw (or_false-left _ (breaks_v22 D b1.locals os) m.indirect) refl },
    record { through = or_false-right _ (breaks_v21 D b1.locals os) m.through; indirect = or_false-right _ (breaks_v22 D b1.locals os) m.indirect },
  )

  handed_ok : (os : List Operand) (y : ℕ) (ts : List Tree) → OperandsSame R0 os os → list_all operand_formed os ≡ true → list_all (place_formed bt) (flat_map operand_places os) ≡ true → MovesKept D b1.locals os → operands_ty D b1.locals os ≡ Some (tuple_of ts) → ((j : ℕ) (t : Tree) → slice_get ts j ≡ Some t → slice_get bt.locals (y + j) ≡ Some t) → (a : ℕ) (t : TypedStmt) → slice_get (handed y os) a ≡ Some t → Ok t
  unfolding operands_ty
  handed_ok [] y ts same fo fp mv e at a t q = absurd (grind arith)
  handed_ok (o ∷ os) y [] same fo fp mv e at a t q =
      let (u, e1, k1) = bind_some e in
      let (us, e2, k2) = bind_some k1 in
      absurd (let z : more u us ≡ empty = some_val k2 in grind arith)
  handed_ok (o ∷ os) y (v ∷ ts) same fo fp mv e at a t q =
      let (u, e1, k1) = bind_some e in
      let (us, e2, k2) = bind_some k1 in
      let z : more u us ≡ more v (tuple_of ts) = some_val k2 in
      let zv : u ≡ v = grind arith in
      let zs : us ≡ tuple_of ts = grind arith in
      let (m1, ms) = first_move o os mv in
      let ps = list_all-append (place_formed bt) (operand_places o) (flat_map operand_places os) in
      let two = sym ps ∙ fp in
      let fp1 = and_true-left (list_all (place_formed bt) (operand_places o)) (list_all (place_formed bt) (flat_map operand_places os)) two in
      let fps = and_true-right (list_all (place_formed bt) (operand_places o)) (list_all (place_formed bt) (flat_map operand_places os)) two in
      let y0 : y + 0 ≡ y = omega arith in
      let there : slice_get bt.locals y ≡ Some u = ap (slice_get bt.locals) (sym y0) ∙ at 0 v refl ∙ ap Some (sym zv) in
      go a q (first y o u there same.0 (and_true-left (operand_formed o) (list_all operand_formed os) fo) fp1 m1 e1) (λ a q. handed_ok os (suc y) ts same.1 (and_true-right (operand_formed o) (list_all operand_formed os) fo) fps ms (e2 ∙ ap Some zs) (λ j t b. (let s : suc y + j ≡ y + suc j = omega arith in ap (slice_get bt.locals) s ∙ at (suc j) t b)) a t q)
    where
      first : (y : ℕ) (o : Operand) (u : Tree) → slice_get bt.locals y ≡ Some u → OperandSame R0 o o → operand_formed o ≡ true → list_all (place_formed bt) (operand_places o) ≡ true → MovesKept D b1.locals (o ∷ []) → operand_ty D b1.locals o ≡ Some u → Ok (assign (whole_local y) («use» o))
      first y o u there same fo fp mv e = (
        assigned_formed (whole_local y) («use» o) (whole_formed y u there) (rw (fo, list_all-append (place_formed bt) (operand_places o) [], fp) refl),
        record { ty = u; place = whole_ty y u there; rvalue = rvalue_use o u (operand_same D b1.locals bt.locals R0 types0 o o same ∙ e); moves = moves_same D b1.locals bt.locals R0 types0 (o ∷ []) (o ∷ []) (same, tt) mv },
      )

      go : (a : ℕ) → slice_get (handed y (o ∷ os)) a ≡ Some t → Ok (assign (whole_local y) («use» o)) → ((a : ℕ) → slice_get (handed (suc y) os) a ≡ Some t → Ok t) → Ok t
      go zero q f ih = subst Ok (some_val q) f
      go (suc a) q f ih = ih a q

  args_ok : (a : ℕ) (t : TypedStmt) → slice_get (handed (suc L) s.args) a ≡ Some t → Ok t
  args_ok a t q =
      let rd = term_ready C b1 R0 itself ready0 (Call s.dest (callee.Local s.called) s.args s.next) (ap (term_formed C b1) (sym s.ends) ∙ term_formed_at C b1 formed1 s.block s.found s.is_found) in
      let same = subst (OperandsSame R0 s.args) (operands_itself s.args) rd.1 in
      let ps = and_true-right (place_formed bt s.dest) (list_all (place_formed bt) (flat_map operand_places s.args)) dest_parts.places in
      let (g, e1, e2) = bind_some site_term.own.wanted in
      let is : hn ≡ g = some_val (sym hn_at ∙ e1) in
      let types_are : site_term.own.types ≡ tuple_of (args_of h) = sym (some_val e2) ∙ ap (λ (g : TypedFunction). tuple_of (args_of g.body)) (sym is) in
      handed_ok s.args (suc L) (args_of h) same dest_parts.operands ps site_term.moves (site_term.own.operands ∙ ap Some types_are) (λ j t e. args_there j t (arg_at h.locals h.args j t e)) a t q
    where
      args_there : (j : ℕ) (t : Tree) → slice_get h.locals (suc j) ≡ Some t → slice_get bt.locals (suc L + j) ≡ Some t
      args_there j t e = let z : L + suc j ≡ suc L + j = omega arith in ap (slice_get bt.locals) (sym z) ∙ copy_locals b1 h s.block s.found s.is_found s.dest s.args s.next (suc j) t e

  -- ---- all blocks

  -- what is asked of a block
  abbrev BlockOk : TypedBlock → Type 0
  BlockOk n = ((a : ℕ) (t : TypedStmt) → slice_get n.stmts a ≡ Some t → Ok t) × TermOk n.term

  call_ok : BlockOk call_block
  unfolding term_formed
  call_ok = (stmts, (rw (lt-ltb B (length bt.blocks) (let z = long_blocks in let l = long_h in omega (arith, z, l))) refl, record { targets = subst (λ n. breaks_v05 (Goto n) ≡ false) (let z : B + 0 ≡ B = omega arith in z) (goals_start L B s.next (Goto 0) some_blocks next_some); own = tt; moves = record { through = refl; indirect = refl } }))
    where
      long_h : 0 < length h.blocks
      long_h = let (k, e) = first_block C h formedh in slice_get_within h.blocks 0 k e

      stmts : (a : ℕ) (t : TypedStmt) → slice_get call_block.stmts a ≡ Some t → Ok t
      stmts a t e = go (append_cases s.found.stmts (kept d s.dest ++ handed (suc L) s.args) a t e)
        where
          late : (j : ℕ) → (slice_get (kept d s.dest) j ≡ Some t) ⊎ ((i : ℕ) × (slice_get (handed (suc L) s.args) i ≡ Some t)) → Ok t
          late j (inl q) = kept_ok j t q
          late j (inr (i, q)) = args_ok i t q

          go : (slice_get s.found.stmts a ≡ Some t) ⊎ ((j : ℕ) × (slice_get (kept d s.dest ++ handed (suc L) s.args) j ≡ Some t)) → Ok t
          go (inl q) = own_stmt s.block a s.found t s.is_found q
          go (inr (j, q)) = late j (append_cases (kept d s.dest) (handed (suc L) s.args) j t q)

  copied_ok : (m : ℕ) (n : TypedBlock) → slice_get h.blocks m ≡ Some n → BlockOk (copied n)
  copied_ok m n e = (stmts, copy_term m n e)
    where
      last : (t : Term) (j : ℕ) (x : TypedStmt) → slice_get (result_to L (kept_dest d s.dest) t) j ≡ Some x → Ok x
      last Return zero x q = subst Ok (some_val q) result_ok
      last Return (suc j) x q = absurd (grind arith)
      last (Goto u) j x q = absurd (grind arith)
      last (Switch c arms u) j x q = absurd (grind arith)
      last Unreachable j x q = absurd (grind arith)
      last (Drop c u) j x q = absurd (grind arith)
      last (Call c w os u) j x q = absurd (grind arith)
      last (Assert c y z os u) j x q = absurd (grind arith)

      stmts : (a : ℕ) (t : TypedStmt) → slice_get (copied n).stmts a ≡ Some t → Ok t
      stmts a t q = go (append_cases (map (renamed_stmt (after L)) n.stmts) (result_to L (kept_dest d s.dest) n.term) a t q)
        where
          go : (slice_get (map (renamed_stmt (after L)) n.stmts) a ≡ Some t) ⊎ ((j : ℕ) × (slice_get (result_to L (kept_dest d s.dest) n.term) j ≡ Some t)) → Ok t
          go (inl q) = let (x, at, is) = map_back (renamed_stmt (after L)) n.stmts a t q in subst Ok is (copy_stmt m a n x e at)
          go (inr (j, q)) = last n.term j t q

  block_ok : (m : ℕ) (n : TypedBlock) → slice_get bt.blocks m ≡ Some n → BlockOk n
  block_ok m n e = go (append_cases (set b1.blocks s.block call_block) (map copied h.blocks) m n e)
    where
      own : (n ≡ call_block) ⊎ (slice_get b1.blocks m ≡ Some n) → BlockOk n
      own (inl q) = subst BlockOk (sym q) call_ok
      own (inr q) = ((λ a t e. own_stmt m a n t q e), own_term m n q)

      go : (slice_get (set b1.blocks s.block call_block) m ≡ Some n) ⊎ ((j : ℕ) × (slice_get (map copied h.blocks) j ≡ Some n)) → BlockOk n
      go (inl q) = own (set_cases b1.blocks s.block m call_block n q)
      go (inr (j, q)) = let (x, at, is) = map_back copied h.blocks j n q in subst BlockOk is (copied_ok j x at)

  -- ---- the body

  locals_ok : list_all (type_formed C) bt.locals ≡ true
  locals_ok =
      let own = list_all_true (type_formed C) b1.locals (λ x t e. local_formed_at C b1 formed1 x t e) in
      let copies = list_all_true (type_formed C) h.locals (λ x t e. local_formed_at C h formedh x t e) in
      list_all-append (type_formed C) b1.locals (h.locals ++ kept_local h.locals s.dest) ∙ rw (own, list_all-append (type_formed C) h.locals (kept_local h.locals s.dest), copies) (more own (has_deref s.dest.proj))
    where
      ok_first : (ts : List Tree) → ((t : Tree) → slice_get ts 0 ≡ Some t → type_formed C t ≡ true) → list_all (type_formed C) (first_mutable ts) ≡ true
      ok_first [] ok = refl
      ok_first (t ∷ ts) ok = rw (ok t refl) refl

      more : list_all (type_formed C) b1.locals ≡ true → (c : Bool) → list_all (type_formed C) (if c then first_mutable h.locals else []) ≡ true
      more own false = refl
      more own true = ok_first h.locals (λ t e. local_formed_at C h formedh 0 t e)

  pub with_formed : body_formed C bt ≡ true
  unfolding body_formed
  with_formed =
      let z = long_blocks in
      let l = some_blocks in
      let a = args1 in
      let ll = long_locals in
      rw (lt-ltb 0 (length bt.blocks) (omega (arith, z, l)), lt-ltb b1.args (length bt.locals) (omega (arith, a, ll)), locals_ok) (list_all_true (block_formed C bt) bt.blocks (λ m n e. each m n (block_ok m n e)))
    where
      each : (m : ℕ) (n : TypedBlock) → BlockOk n → block_formed C bt n ≡ true
      each m n (ss, t) = rw (list_all_true (stmt_formed C bt) n.stmts (λ a x e. (ss a x e).0), t.0) refl

  pub with_keeps : BodyKeeps C bt
  unfolding term_formed
  with_keeps = record {
    stmts = λ m a n t e e2. typed_stmt D b1.args bt.locals t ((block_ok m n e).0 a t e2).1;
    terms = λ m n e. typed_term C D bt.locals n.term (block_ok m n e).1.1;
  }

  pub site_valid : Valid (at_function C f fn bt)
  site_valid =
      let a = args1 in
      valid_put C f fn bt valid fn_at (record { is_drop = refl; args = refl; start = take-append-le (suc b1.args) b1.locals (h.locals ++ kept_local h.locals s.dest) (omega (arith, a)) }) with_formed with_keeps
