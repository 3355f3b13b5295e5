-- The code at one block: what it does there is the definition.
use Rattle.std.proofs.Common.{◌≡◌, sym, ap, ap₂, ◌∙◌, subst, ℕ, ◌+◌, ◌<◌, ◌≤◌, ◌^◌, true, false, ◌&&◌, nat_le, List, length, map, MatchOption, option_map, option_copied, Bor, Option, Some, None, slice_get, sum_by, arith}
use Rattle.std.proofs.Common.{leb-true}
use Rattle.std.proofs.lemmas.List.{length-map}
use Rattle.mir_syntax.specs.declared.program.Program.{Program}
use Rattle.mir_syntax.specs.declared.body.Place.{Place}
use Rattle.mir_syntax.specs.declared.body.Operand.{Operand}
use Rattle.mir_syntax.specs.declared.body.Callee.{Callee}
use Rattle.mir_syntax.specs.declared.body.Term.TheVariants as term
use Rattle.mir_syntax.specs.declared.body.Block.{Block}
use Rattle.mir_syntax.specs.declared.body.Body.{Body}
use Rattle.mir_syntax.specs.Ids.{BodyInTable}
use Rattle.mir_syntax.specs.Tree.{Tree, at_id, trees_of}
use Rattle.mir_syntax.specs.Crate.{TypedBody, stmt_of, block_of, body_of}
use Rattle.mir_syntax.proofs.Lists.{map_there}
use Rattle.mir_rules.proofs.Lists.{and_true-left, and_true-right}
use Rattle.mir_rules.proofs.Terminators.{slice_get_there}
use Rattle.inline_pass.specs.declared.call.Call.{Call}
use Rattle.inline_pass.specs.declared.splice.Caller.{Caller}
use Rattle.inline_pass.specs.Spliced.{stmts_in, with_call, fits, most_blocks, most_locals, most_stmts, inlined_at}
use Rattle.inline_pass.specs.Takes.{Inlinable}
use Rattle.inline_pass.specs.Caller.{IsCaller}
use Rattle.inline_pass.specs.Code.{capped, copied_in, kept_count, entering, keeping, bare_stmts, bare_fits, taken_at, IsCallAt}
use Rattle.inline_pass.proofs.equal.Sizes.{capped_le, stmts_long, blocks_long, locals_long, fits_is}
use Rattle.inline_pass.proofs.equal.At.{stays_none, stays_large, is_replaced, taken_call}
use Rattle.inline_pass.proofs.equal.Results.{some_locals}

module _ (p : Program) (taken : ℕ → Option TypedBody) (c : Caller) (i : ℕ) (fine : IsCaller p c) (lt : i < length c.body.blocks) where
  abbrev trees : List Tree
  trees = trees_of p.types

  abbrev b : TypedBody
  b = body_of (trees_of p.types) c.body

  abbrev At : Block → Type 0
  At k = slice_get c.body.blocks i ≡ Some k

  typed_there : (k : Block) → At k → slice_get b.blocks i ≡ Some (block_of trees k)
  typed_there k at = map_there (block_of trees) c.body.blocks i k at

  -- nothing is inlined for the terminator
  pub none_is : (r : Option (Bor Body)) → r ≡ None → ((k : Block) → At k → option_map (body_of (trees_of p.types)) (option_copied r) ≡ taken_at taken k.term) → body_of (trees_of p.types) c.body ≡ inlined_at taken (body_of (trees_of p.types) c.body) i
  none_is r e h =
      let (k, at) = slice_get_there c.body.blocks i lt in
      sym (stays_none taken b i (block_of trees k) (typed_there k at) (sym (h k at) ∙ ap (λ o. option_map (body_of trees) (option_copied o)) e))

  module _ (h : Body) (inlinable : Inlinable p h) (is : (k : Block) → At k → Some (body_of (trees_of p.types) h) ≡ taken_at taken k.term) where
    abbrev hT : TypedBody
    hT = body_of (trees_of p.types) h

    copied : ℕ
    copied = sum_by copied_in (map (block_of trees) h.blocks)

    module _ (k : Block) (at : At k) (q : Place) (g : Callee) (os : List Operand) (next : ℕ) (ends : k.term ≡ term.Call q g os next) where
      abbrev b' : TypedBody
      b' = with_call b i (map (stmt_of (trees_of p.types)) k.stmts) q os next hT

      some : 0 < length hT.locals
      some = let l = some_locals p h inlinable in let n = length-map h.locals (at_id trees) in omega (arith, l, n)

      counted : bare_stmts c.stmts k.term (map (block_of trees) h.blocks) ≡ capped (sum_by stmts_in b'.blocks)
      counted =
          let all = stmts_long b i (block_of trees k) (typed_there k at) q os next hT in
          let old = fine.counted in
          let extra : entering k.term ≡ kept_count q + length os = ap entering ends in
          omega (arith, all, old, extra)

      typed_fits : (stmts : ℕ) → stmts ≡ capped (sum_by stmts_in b'.blocks) → bare_fits c.body k.term h stmts ≡ fits b'
      typed_fits stmts e =
          ap₂ (λ m n. nat_le (capped (m + n)) most_blocks && (nat_le (capped (length c.body.locals + length h.locals + keeping k.term)) most_locals && nat_le stmts most_stmts)) (sym (length-map c.body.blocks (block_of trees))) (sym (length-map h.blocks (block_of trees)))
          ∙ ap₂ (λ m n. nat_le (capped (length b.blocks + length hT.blocks)) most_blocks && (nat_le (capped (m + n + keeping k.term)) most_locals && nat_le stmts most_stmts)) (sym (length-map c.body.locals (at_id trees))) (sym (length-map h.locals (at_id trees)))
          ∙ ap (λ t. nat_le (capped (length b.blocks + length hT.blocks)) most_blocks && (nat_le (capped (length b.locals + length hT.locals + keeping t)) most_locals && nat_le stmts most_stmts)) ends
          ∙ fits_is b i (block_of trees k) (typed_there k at) q os next hT g some stmts e

    -- there is no room
    pub large_is : (r : Option ℕ) → r ≡ None → ((trees : List Tree) (k : Block) → At k → MatchOption r (bare_fits c.body k.term h (bare_stmts c.stmts k.term (map (block_of trees) h.blocks)) ≡ false) (λ left. (left ≡ bare_stmts c.stmts k.term (map (block_of trees) h.blocks)) × (bare_fits c.body k.term h left ≡ true))) → body_of (trees_of p.types) c.body ≡ inlined_at taken (body_of (trees_of p.types) c.body) i
    large_is r e room =
        let (k, at) = slice_get_there c.body.blocks i lt in
        let (q, g, os, next, ends) = taken_call taken k.term hT (sym (is k at)) in
        let no : bare_fits c.body k.term h (bare_stmts c.stmts k.term (map (block_of trees) h.blocks)) ≡ false = subst (λ r. MatchOption r (bare_fits c.body k.term h (bare_stmts c.stmts k.term (map (block_of trees) h.blocks)) ≡ false) (λ left. (left ≡ bare_stmts c.stmts k.term (map (block_of trees) h.blocks)) × (bare_fits c.body k.term h left ≡ true))) e (room trees k at) in
        sym (stays_large taken b i (block_of trees k) (typed_there k at) q g os next ends hT (sym (is k at)) (sym (typed_fits k at q g os next ends (bare_stmts c.stmts k.term (map (block_of trees) h.blocks)) (counted k at q g os next ends)) ∙ no))

    -- there is room
    module _ (left : ℕ) (room : (trees : List Tree) (k : Block) → At k → (left ≡ bare_stmts c.stmts k.term (map (block_of trees) h.blocks)) × (bare_fits c.body k.term h left ≡ true)) where
      record Room (k : Block) : Type 0 where
        pub blocks : length c.body.blocks + length h.blocks ≤ most_blocks
        pub locals : length c.body.locals + length h.locals + keeping k.term ≤ most_locals
        pub stmts : left ≤ most_stmts

      has_room : (k : Block) → At k → Room k
      has_room k at =
          let ok = (room trees k at).1 in
          let l = nat_le (capped (length c.body.locals + length h.locals + keeping k.term)) most_locals in
          let s = nat_le left most_stmts in
          let m = nat_le (capped (length c.body.blocks + length h.blocks)) most_blocks in
          let rest = and_true-right m (l && s) ok in
          record {
            blocks = leb-true (length c.body.blocks + length h.blocks) most_blocks (sym (capped_le (length c.body.blocks + length h.blocks) most_blocks (omega arith)) ∙ and_true-left m (l && s) ok);
            locals = leb-true (length c.body.locals + length h.locals + keeping k.term) most_locals (sym (capped_le (length c.body.locals + length h.locals + keeping k.term) most_locals (omega arith)) ∙ and_true-left l s rest);
            stmts = leb-true left most_stmts (and_true-right l s rest);
          }

      pub few_blocks : length c.body.blocks + length h.blocks < 2 ^ 30
      few_blocks = let (k, at) = slice_get_there c.body.blocks i lt in let l = (has_room k at).blocks in omega (arith, l)

      pub few_locals : length c.body.locals + length h.locals < 2 ^ 30
      few_locals = let (k, at) = slice_get_there c.body.blocks i lt in let l = (has_room k at).locals in omega (arith, l)

      pub few_args : (call : Call) → IsCallAt c.body.blocks i call → length call.args < 2 ^ 30
      few_args call (k, at, (g, ends)) =
          let e = (room trees k at).0 in
          let l = (has_room k at).stmts in
          let n : entering k.term ≡ kept_count call.dest + length call.args = ap entering ends in
          omega (arith, e, l, n)

      module _ (new : Body) (made : (k : Block) (q : Place) (g : Callee) (os : List Operand) (next : ℕ) → At k → k.term ≡ term.Call q g os next → body_of (trees_of p.types) new ≡ with_call (body_of (trees_of p.types) c.body) i (map (stmt_of (trees_of p.types)) k.stmts) q os next (body_of (trees_of p.types) h)) where
        pub done_is : body_of (trees_of p.types) new ≡ inlined_at taken (body_of (trees_of p.types) c.body) i
        done_is =
            let (k, at) = slice_get_there c.body.blocks i lt in
            let (q, g, os, next, ends) = taken_call taken k.term hT (sym (is k at)) in
            let e : left ≡ capped (sum_by stmts_in (b' k at q g os next ends).blocks) = (room trees k at).0 ∙ counted k at q g os next ends in
            made k q g os next at ends ∙ sym (is_replaced taken b i (block_of trees k) (typed_there k at) q g os next ends hT (sym (is k at)) (sym (typed_fits k at q g os next ends left e) ∙ (room trees k at).1))

        new_blocks : length new.blocks ≡ length c.body.blocks + length h.blocks
        new_blocks =
            let (k, at) = slice_get_there c.body.blocks i lt in
            let (q, g, os, next, ends) = taken_call taken k.term hT (sym (is k at)) in
            sym (length-map new.blocks (block_of trees)) ∙ ap (λ (b : TypedBody). length b.blocks) (made k q g os next at ends) ∙ blocks_long b i (block_of trees k) (typed_there k at) q os next hT ∙ ap₂ (λ m n. m + n) (length-map c.body.blocks (block_of trees)) (length-map h.blocks (block_of trees))

        pub done_grows : length c.body.blocks ≤ length new.blocks
        done_grows = let e = new_blocks in omega (arith, e)

        pub done_caller : ((call : Call) → IsCallAt c.body.blocks i call → BodyInTable p.types c.body → BodyInTable p.types new) → IsCaller p (record { body = new; stmts = left })
        done_caller below =
            let (k, at) = slice_get_there c.body.blocks i lt in
            let (q, g, os, next, ends) = taken_call taken k.term hT (sym (is k at)) in
            let locals : length new.locals ≡ length b.locals + length hT.locals + kept_count q = sym (length-map new.locals (at_id trees)) ∙ ap (λ (b : TypedBody). length b.locals) (made k q g os next at ends) ∙ locals_long b i (block_of trees k) (typed_there k at) q os next hT (some k at q g os next ends) in
            let n = length-map c.body.locals (at_id trees) in
            let m = length-map h.locals (at_id trees) in
            let few = (has_room k at).locals in
            let one : keeping k.term ≡ kept_count q = ap keeping ends in
            let blocks = new_blocks in
            let fewer = few_blocks in
            record {
              counted = (room trees k at).0 ∙ counted k at q g os next ends ∙ ap (λ (b : TypedBody). capped (sum_by stmts_in b.blocks)) (sym (made k q g os next at ends));
              in_table = below (record { dest = q; args = os; next = next }) (k, at, (g, ends)) fine.in_table;
              few_blocks = omega (arith, blocks, fewer);
              few_locals = omega (arith, locals, n, m, few, one);
            }
