-- Blocks one after the other, and rounds of them.
use Rattle.std.proofs.Common.{◌≡◌, refl, sym, ap, ap₂, ◌∙◌, ℕ, suc, ◌+◌, ◌-◌, ◌<◌, ◌≤◌, List, [], ◌∷◌, ◌++◌, length, Option, arith}
use Rattle.std.specs.List.{range_with_len}
use Rattle.std.proofs.lemmas.List.{map-id, length-map}
use Rattle.std.proofs.lemmas.List.FromFn.{map-range_with_len_more}
use Rattle.mir_syntax.specs.declared.body.Body.{Body}
use Rattle.mir_syntax.specs.Tree.{Tree}
use Rattle.mir_syntax.specs.Crate.{TypedBody, block_of, body_of}
use Rattle.inline_pass.specs.Spliced.{inlined_at, inlined_in, rounds, most_depth}

range_push : (a n j : ℕ) → a + n ≡ j → range_with_len a (n + 1) ≡ range_with_len a n ++ j ∷ []
range_push a n j e = sym (map-id (range_with_len a (n + 1))) ∙ map-range_with_len_more (λ k. k) a n j e ∙ ap (λ xs. xs ++ j ∷ []) (map-id (range_with_len a n))

module _ (taken : ℕ → Option TypedBody) where
  in_push : (is : List ℕ) (b : TypedBody) (j : ℕ) → inlined_in taken b (is ++ j ∷ []) ≡ inlined_at taken (inlined_in taken b is) j
  in_push [] b j = refl
  in_push (i ∷ is) b j = in_push is (inlined_at taken b i) j

  -- one block more
  pub in_more : (b : TypedBody) (from block : ℕ) → from ≤ block → inlined_at taken (inlined_in taken b (range_with_len from (block - from))) block ≡ inlined_in taken b (range_with_len from (block + 1 - from))
  in_more b from block le =
      let n : block + 1 - from ≡ (block - from) + 1 = omega (arith, le) in
      sym (ap (λ n. inlined_in taken b (range_with_len from n)) n ∙ ap (inlined_in taken b) (range_push from (block - from) block (omega (arith, le))) ∙ in_push (range_with_len from (block - from)) b block)

  -- one round more
  pub round_more : (b : TypedBody) (depth from : ℕ) → depth < most_depth → rounds taken (most_depth - (depth + 1)) (length b.blocks) (inlined_in taken b (range_with_len from (length b.blocks - from))) ≡ rounds taken (most_depth - depth) from b
  round_more b depth from lt =
      let n : most_depth - depth ≡ suc (most_depth - (depth + 1)) = omega (arith, lt) in
      sym (ap (λ n. rounds taken n from b) n)

  -- the same of the bodies that the code holds
  pub round_done : (trees : List Tree) (old new : Body) (depth from end : ℕ) → depth < most_depth → end ≡ length old.blocks → body_of trees new ≡ inlined_in taken (body_of trees old) (range_with_len from (length old.blocks - from)) → rounds taken (most_depth - (depth + 1)) end (body_of trees new) ≡ rounds taken (most_depth - depth) from (body_of trees old)
  round_done trees old new depth from end lt e h =
      let long : length (body_of trees old).blocks ≡ length old.blocks = length-map old.blocks (block_of trees) in
      ap₂ (rounds taken (most_depth - (depth + 1))) (e ∙ sym long) (h ∙ ap (λ n. inlined_in taken (body_of trees old) (range_with_len from (n - from))) (sym long)) ∙ round_more (body_of trees old) depth from lt
