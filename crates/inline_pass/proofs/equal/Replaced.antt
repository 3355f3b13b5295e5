-- The body that the code makes where it replaces a call is the defined one.
use Rattle.std.proofs.Common.{◌≡◌, refl, sym, ap, ap₂, ◌∙◌, ℕ, zero, suc, ◌+◌, ◌<◌, ◌^◌, Bool, true, false, ◌&&◌, if◌then◌else◌, List, [], ◌∷◌, ◌++◌, map, length, set, Some, slice_get, arith}
use Rattle.std.specs.List.{list_all}
use Rattle.std.proofs.lemmas.List.{map-append, length-map}
use Rattle.mir_syntax.specs.declared.types.TyId.{TyId}
use Rattle.mir_syntax.specs.declared.body.Place.{Place}
use Rattle.mir_syntax.specs.declared.body.Operand.{Operand}
use Rattle.mir_syntax.specs.declared.body.Rvalue.TheVariants as rvalue
use Rattle.mir_syntax.specs.declared.body.Stmt.TheVariants as stmt
use Rattle.mir_syntax.specs.declared.body.Term.TheVariants.{Goto}
use Rattle.mir_syntax.specs.declared.body.Block.{Block}
use Rattle.mir_syntax.specs.declared.body.Body.{Body}
use Rattle.mir_syntax.specs.Tree.{Tree, ref_mut, at_id}
use Rattle.mir_syntax.specs.Crate.{TypedStmt, assign, TypedBlock, TypedBody, Crate, stmt_of, block_of, body_of}
use Rattle.mir_syntax.specs.Crate as typed
use Rattle.mir_syntax.specs.Parts.{has_deref}
use Rattle.mir_rules.specs.Formed.{block_formed, body_formed, has_start, type_formed}
use Rattle.mir_rules.proofs.Lists.{and_true-right}
use Rattle.inline_pass.specs.declared.call.Call.{Call}
use Rattle.inline_pass.specs.Spliced.{whole_local, kept_local, kept, kept_dest, handed, block_after, with_call}
use Rattle.inline_pass.specs.Code.{bare_kept, bare_handed, kept_id, bare_block, bare_entered, set_by, bare_with_call}
use Rattle.inline_pass.proofs.equal.Copied.{blocks_copied}

module _ (trees : List Tree) where
  kept_same : (d : ℕ) (dest : Place) → map (stmt_of trees) (bare_kept d dest) ≡ kept d dest
  kept_same d dest = go (has_deref dest.proj)
    where
      go : (c : Bool) → map (stmt_of trees) (if c then stmt.Assign (whole_local d) (rvalue.RefMut dest) ∷ [] else []) ≡ (if c then assign (whole_local d) (typed.ref_mut dest) ∷ [] else [])
      go true = refl
      go false = refl

  handed_same : (x : ℕ) (os : List Operand) → map (stmt_of trees) (bare_handed x os) ≡ handed x os
  handed_same x [] = refl
  handed_same x (o ∷ os) = ap (λ ss. assign (whole_local x) (typed.«use» o) ∷ ss) (handed_same (suc x) os)

  local_same : (id : TyId) (dest : Place) (ids : List TyId) (first : TyId) → slice_get ids 0 ≡ Some first → at_id trees id ≡ ref_mut (at_id trees first) → map (at_id trees) (kept_id id dest) ≡ kept_local (map (at_id trees) ids) dest
  local_same id dest [] first e q = absurd (grind arith)
  local_same id dest (t ∷ ids) first e q = go (has_deref dest.proj)
    where
      go : (c : Bool) → map (at_id trees) (if c then id ∷ [] else []) ≡ (if c then ref_mut (at_id trees t) ∷ [] else [])
      go true = ap (λ t. t ∷ []) (q ∙ ap (λ t. ref_mut (at_id trees t)) (let z : first ≡ t = grind arith in z))
      go false = refl

  set_same : (f : Block → Block) (ks : List Block) (i : ℕ) (k : Block) → slice_get ks i ≡ Some k → map (block_of trees) (set_by f ks i) ≡ set (map (block_of trees) ks) i (block_of trees (f k))
  set_same f [] i k e = absurd (grind arith)
  set_same f (x ∷ ks) zero k e = ap (λ x. block_of trees (f x) ∷ map (block_of trees) ks) (let z : x ≡ k = grind arith in z)
  set_same f (x ∷ ks) (suc i) k e = ap (λ xs. block_of trees x ∷ xs) (set_same f ks i k e)

  -- the body with a call less, where the caller has so many locals and blocks, and the callee so many locals
  abbrev made : TypedBody → ℕ → List TypedStmt → Call → TypedBody → ℕ → ℕ → ℕ → TypedBody
  made b i ss call h locals blocks n = record {
    args = b.args;
    locals = b.locals ++ (h.locals ++ kept_local h.locals call.dest);
    blocks = set b.blocks i (record { stmts = ss ++ (kept (locals + n) call.dest ++ handed (suc locals) call.args); term = Goto blocks }) ++ map (block_after locals blocks (kept_dest (locals + n) call.dest) call.next) h.blocks;
  }

  entered_same : (locals blocks d : ℕ) (call : Call) (k : Block) → block_of trees (bare_entered locals blocks d call k) ≡ record { stmts = map (stmt_of trees) k.stmts ++ (kept d call.dest ++ handed (suc locals) call.args); term = Goto blocks }
  entered_same locals blocks d call k =
      ap (λ ss. record { stmts = ss; term = Goto blocks })
      (map-append (stmt_of trees) k.stmts (bare_kept d call.dest ++ bare_handed (suc locals) call.args)
      ∙ ap (λ ss. map (stmt_of trees) k.stmts ++ ss) (map-append (stmt_of trees) (bare_kept d call.dest) (bare_handed (suc locals) call.args) ∙ ap₂ (λ xs ys. xs ++ ys) (kept_same d call.dest) (handed_same (suc locals) call.args)))

  blocks_formed : (C : Crate) (h : TypedBody) → body_formed C h ≡ true → list_all (block_formed C h) h.blocks ≡ true
  unfolding body_formed
  blocks_formed C h e = and_true-right (list_all (type_formed C) h.locals) (list_all (block_formed C h) h.blocks) (and_true-right (has_start h) (list_all (type_formed C) h.locals && list_all (block_formed C h) h.blocks) e)

  module _ (C : Crate) (b : Body) (i : ℕ) (k : Block) (call : Call) (callee : Body) (id first : TyId) (there : slice_get b.blocks i ≡ Some k) (formed : body_formed C (body_of trees callee) ≡ true) (few_locals : length b.locals + length callee.locals < 2 ^ 32) (few_blocks : length b.blocks + length callee.blocks < 2 ^ 32) (is_first : slice_get callee.locals 0 ≡ Some first) (mutable : at_id trees id ≡ ref_mut (at_id trees first)) where
    abbrev L : ℕ
    L = length b.locals

    abbrev B : ℕ
    B = length b.blocks

    abbrev d : ℕ
    d = L + length callee.locals

    abbrev h : TypedBody
    h = body_of trees callee

    locals_same : map (at_id trees) (b.locals ++ (callee.locals ++ kept_id id call.dest)) ≡ map (at_id trees) b.locals ++ (map (at_id trees) callee.locals ++ kept_local (map (at_id trees) callee.locals) call.dest)
    locals_same =
        map-append (at_id trees) b.locals (callee.locals ++ kept_id id call.dest)
        ∙ ap (λ ts. map (at_id trees) b.locals ++ ts) (map-append (at_id trees) callee.locals (kept_id id call.dest) ∙ ap (λ ts. map (at_id trees) callee.locals ++ ts) (local_same id call.dest callee.locals first is_first mutable))

    copies_same : map (block_of trees) (map (bare_block L B (kept_dest d call.dest) call.next) callee.blocks) ≡ map (block_after L B (kept_dest d call.dest) call.next) h.blocks
    copies_same =
        let many : length h.locals ≡ length callee.locals = length-map callee.locals (at_id trees) in
        let more : length h.blocks ≡ length callee.blocks = length-map callee.blocks (block_of trees) in
        blocks_copied C h trees L B (omega (arith, few_locals, many)) (omega (arith, few_blocks, more)) (kept_dest d call.dest) call.next callee.blocks (blocks_formed C h formed)

    blocks_same : map (block_of trees) (set_by (bare_entered L B d call) b.blocks i ++ map (bare_block L B (kept_dest d call.dest) call.next) callee.blocks) ≡ set (map (block_of trees) b.blocks) i (record { stmts = map (stmt_of trees) k.stmts ++ (kept d call.dest ++ handed (suc L) call.args); term = Goto B }) ++ map (block_after L B (kept_dest d call.dest) call.next) h.blocks
    blocks_same =
        map-append (block_of trees) (set_by (bare_entered L B d call) b.blocks i) (map (bare_block L B (kept_dest d call.dest) call.next) callee.blocks)
        ∙ ap₂ (λ xs ys. xs ++ ys) (set_same (bare_entered L B d call) b.blocks i k there ∙ ap (set (map (block_of trees) b.blocks) i) (entered_same L B d call k)) copies_same

    pub with_call_same : body_of trees (bare_with_call b i call callee id) ≡ with_call (body_of trees b) i (map (stmt_of trees) k.stmts) call.dest call.args call.next h
    with_call_same =
        ap₂ (λ ts ks. record { args = b.args; locals = ts; blocks = ks }) locals_same blocks_same
        ∙ ap (λ n. made (body_of trees b) i (map (stmt_of trees) k.stmts) call h L B n) (sym (length-map callee.locals (at_id trees)))
        ∙ ap₂ (λ l m. made (body_of trees b) i (map (stmt_of trees) k.stmts) call h l m (length h.locals)) (sym (length-map b.locals (at_id trees))) (sym (length-map b.blocks (block_of trees)))
