-- The result of a body that may be inlined, and what the code makes of a body with a call to it.
use Rattle.std.proofs.Common.{◌≡◌, sym, ap, ap₂, ◌∙◌, ℕ, ◌+◌, ◌<◌, ◌^◌, true, List, length, map, get_or, Some, slice_get, arith}
use Rattle.std.proofs.lemmas.List.{length-map}
use Rattle.std.proofs.lemmas.Option.{slice_get-get_or}
use Rattle.mir_syntax.specs.declared.program.Program.{Program}
use Rattle.mir_syntax.specs.declared.types.TyId.{TyId}
use Rattle.mir_syntax.specs.declared.body.Place.{Place}
use Rattle.mir_syntax.specs.declared.body.Operand.{Operand}
use Rattle.mir_syntax.specs.declared.body.Callee.{Callee}
use Rattle.mir_syntax.specs.declared.body.Term.TheVariants as term
use Rattle.mir_syntax.specs.declared.body.Block.{Block}
use Rattle.mir_syntax.specs.declared.body.Body.{Body}
use Rattle.mir_syntax.specs.Tree.{Tree, ref_mut, at_id, trees_of}
use Rattle.mir_syntax.specs.Crate.{Crate, crate_of, stmt_of, body_of}
use Rattle.mir_rules.specs.Formed.{body_formed}
use Rattle.mir_rules.proofs.ValidCrates.{args_below}
use Rattle.mir_relate.proofs.Leaves.{some_val}
use Rattle.inline_pass.specs.declared.call.Call.{Call}
use Rattle.inline_pass.specs.Spliced.{with_call}
use Rattle.inline_pass.specs.Takes.{Inlinable}
use Rattle.inline_pass.specs.Code.{set_by, bare_with_call, IsCallAt, without_call}
use Rattle.inline_pass.proofs.equal.Places.{same_without}
use Rattle.inline_pass.proofs.equal.Replaced.{with_call_same}

module _ (p : Program) (h : Body) (fine : Inlinable p h) where
  pub some_locals : 0 < length h.locals
  some_locals =
      let a = args_below (crate_of p) (body_of (trees_of p.types) h) fine.formed in
      let n = length-map h.locals (at_id (trees_of p.types)) in
      omega (arith, a, n)

  pub first_is : slice_get h.locals 0 ≡ Some (get_or h.locals 0 (record { 0 = 0 }))
  first_is = slice_get-get_or h.locals 0 (record { 0 = 0 }) some_locals

-- a terminator is one call
record SameCall (call : Call) (p : Place) (os : List Operand) (n : ℕ) : Type 0 where
  pub dest : call.dest ≡ p
  pub args : call.args ≡ os
  pub next : call.next ≡ n

same_call : (call : Call) (p : Place) (g g' : Callee) (os : List Operand) (next : ℕ) → term.Call call.dest g' call.args call.next ≡ term.Call p g os next → SameCall call p os next
same_call call p g g' os next e = record { dest = grind arith; args = grind arith; next = grind arith }

module _ (trees : List Tree) (C : Crate) (b : Body) (i : ℕ) (call : Call) (callee : Body) (id first : TyId) (is : IsCallAt b.blocks i call) (formed : body_formed C (body_of trees callee) ≡ true) (few_locals : length b.locals + length callee.locals < 2 ^ 32) (few_blocks : length b.blocks + length callee.blocks < 2 ^ 32) (is_first : slice_get callee.locals 0 ≡ Some first) (mutable : at_id trees id ≡ ref_mut (at_id trees first)) where
  pub replaced : (new took : Body) → took ≡ record b { blocks = set_by without_call b.blocks i } → new ≡ bare_with_call took i call callee id → (k : Block) (p : Place) (g : Callee) (os : List Operand) (next : ℕ) → slice_get b.blocks i ≡ Some k → k.term ≡ term.Call p g os next → body_of trees new ≡ with_call (body_of trees b) i (map (stmt_of trees) k.stmts) p os next (body_of trees callee)
  replaced new took e q k p g os next at ends =
      let (k', at', (g', ends')) = is in
      let same : k' ≡ k = some_val (sym at' ∙ at) in
      let s = same_call call p g g' os next (sym ends' ∙ ap (λ (k : Block). k.term) same ∙ ends) in
      ap (body_of trees) (q ∙ ap (λ b. bare_with_call b i call callee id) e ∙ same_without b i call callee id)
      ∙ with_call_same trees C b i k call callee id first at formed few_locals few_blocks is_first mutable
      ∙ ap (λ p. with_call (body_of trees b) i (map (stmt_of trees) k.stmts) p call.args call.next (body_of trees callee)) s.dest
      ∙ ap₂ (λ os n. with_call (body_of trees b) i (map (stmt_of trees) k.stmts) p os n (body_of trees callee)) s.args s.next
