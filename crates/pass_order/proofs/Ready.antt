-- A body that fits a function has what the passes ask for.
use Rattle.std.proofs.Common.{◌≡◌, subst, ℕ, ◌<◌, ◌^◌, true, nat_lt, List, [], ◌∷◌, length, get_or, arith, ltb-true}
use Rattle.std.specs.List.{All}
use Rattle.std.proofs.lemmas.List.{length-map}
use Rattle.std.proofs.lemmas.List.Elements.{All-nil, All-cons}
use Rattle.std.proofs.lemmas.Option.{slice_get-get_or}
use Rattle.std.proofs.lemmas.Simd.{map-map}
use Rattle.mir_syntax.specs.declared.types.Ty.{Ty}
use Rattle.mir_syntax.specs.declared.body.Place.{Place}
use Rattle.mir_syntax.specs.declared.body.Stmt.{Stmt}
use Rattle.mir_syntax.specs.declared.body.Stmt.TheVariants as stmt
use Rattle.mir_syntax.specs.declared.body.Block.{Block}
use Rattle.mir_syntax.specs.declared.body.Body.{Body}
use Rattle.mir_syntax.specs.Tree.{Tree, at_id}
use Rattle.mir_syntax.specs.Crate.{TypedBody, TypedFunction, Crate, rvalue_of, stmt_of, block_of, body_of}
use Rattle.mir_syntax.specs.Shapes.{Shape, shapes_of}
use Rattle.mir_syntax.specs.Ids.{BodyInTable}
use Rattle.mir_syntax.proofs.Lists.{map_there}
use Rattle.mir_syntax.specs.Parts.{path_formed}
use Rattle.mir_rules.specs.Formed.{place_formed, rvalue_formed, stmt_formed, body_formed}
use Rattle.mir_rules.specs.Valid.{with_body, at_function}
use Rattle.mir_rules.proofs.Lists.{and_true-left}
use Rattle.mir_rules.proofs.Keeps.{BodyKeeps}
use Rattle.mir_rules.proofs.ValidCrates.{body_formed_at, keeps, holds_body, stmt_formed_at}
use Rattle.mir_cfg.specs.Paths.{terms_of, Closed}
use Rattle.cfg_simplify.specs.Simple.{term_of}
use Rattle.cfg_simplify.proofs.valid.Kept as simple
use Rattle.dead_store.specs.Rounds.{set_locals, BlockSetsBelow, IsReady}
use Rattle.sroa_pass.specs.Code.{IsTyped}
use Rattle.sroa_pass.proofs.equal.Ready as split
use Rattle.pass_order.specs.Fits.{FitsAt}
use Rattle.pass_order.proofs.Fits.{as_valid, shapes_fit}

module _ (C : Crate) (f : ℕ) (g : TypedFunction) (trees : List Tree) (body : Body) (h : FitsAt C f g (body_of trees body)) where
  abbrev typed : TypedBody
  typed = body_of trees body

  abbrev C2 : Crate
  C2 = at_function C f g (body_of trees body)

  formed : body_formed C2 typed ≡ true
  formed = body_formed_at C2 h.valid f (with_body g typed) (holds_body C f typed (as_valid C f g typed h))

  kept : BodyKeeps C2 typed
  kept = (keeps C2 h.valid).bodies f (with_body g typed) (holds_body C f typed (as_valid C f g typed h))

  pub some_block : 0 < length body.blocks
  some_block = let some = simple.some_block C2 typed formed in let long = length-map body.blocks (block_of trees) in omega (arith, some, long)

  pub few_blocks : length body.blocks < 2 ^ 30
  few_blocks = let few = h.blocks in let long = length-map body.blocks (block_of trees) in omega (arith, few, long)

  pub few_locals : length body.locals < 2 ^ 30
  few_locals = let few = h.locals in let long = length-map body.locals (at_id trees) in omega (arith, few, long)

  -- each edge leads to a block
  pub closed : Closed (terms_of body)
  closed = subst Closed (map-map term_of (block_of trees) body.blocks) (simple.closed typed (simple.leads C2 typed formed kept))

  -- each place has a type, and a local with fields gets no more values than these
  pub is_typed : IsTyped (shapes_of C) typed
  is_typed =
      subst (λ (D : List Shape). IsTyped D typed) (shapes_fit C f g typed h)
      (split.is_typed C2 h.valid f (with_body g typed) (holds_body C f typed (as_valid C f g typed h)))

  -- ---- locals that are written

  local_below : (p : Place) → place_formed typed p ≡ true → p.local < length body.locals
  local_below p e =
      let there = ltb-true p.local (length typed.locals) (and_true-left (nat_lt p.local (length typed.locals)) (path_formed p.proj) e) in
      let long = length-map body.locals (at_id trees) in
      omega (arith, there, long)

  one_below : (x : ℕ) → x < length body.locals → All (λ x. x < length body.locals) (x ∷ [])
  one_below x l = All-cons (λ x. x < length body.locals) x [] l (All-nil (λ x. x < length body.locals))

  set_below : (s : Stmt) → stmt_formed C2 typed (stmt_of trees s) ≡ true → All (λ x. x < length body.locals) (set_locals s)
  unfolding stmt_formed
  set_below (stmt.Assign p r) e = one_below p.local (local_below p (and_true-left (place_formed typed p) (rvalue_formed C2 typed (rvalue_of trees r)) e))
  set_below (stmt.StorageLive x) e = All-nil (λ x. x < length body.locals)
  set_below (stmt.StorageDead x) e = All-nil (λ x. x < length body.locals)
  set_below (stmt.SetDiscriminant p k) e = one_below p.local (local_below p e)

  sets : All (BlockSetsBelow (length body.locals)) body.blocks
  sets j d l i e m =
      let k : Block = get_or body.blocks j d in
      let s : Stmt = get_or k.stmts i e in
      let at = map_there (block_of trees) body.blocks j k (slice_get-get_or body.blocks j d l) in
      let there = map_there (stmt_of trees) k.stmts i s (slice_get-get_or k.stmts i e m) in
      set_below s (stmt_formed_at C2 typed formed j i (block_of trees k) (stmt_of trees s) at there)

  pub ready : (types : List Ty) → BodyInTable types body → IsReady types body
  ready types ids = record { ids = ids; closed = closed; few_blocks = few_blocks; few_locals = few_locals; sets = sets }
