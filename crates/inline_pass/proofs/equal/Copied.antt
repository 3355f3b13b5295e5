-- The copies that the code makes of a formed callee are those of the definition.
use Rattle.std.proofs.Common.{◌≡◌, refl, sym, ap, ap₂, ◌∙◌, ℕ, ◌+◌, ◌<◌, ◌^◌, true, List, [], ◌∷◌, ◌++◌, append_assoc, map, length, get_or, take, arith}
use Rattle.std.specs.List.{list_all}
use Rattle.std.proofs.lemmas.List.{map-append, take_more}
use Rattle.std.proofs.Math.Nat.{min-eq_left}
use Rattle.mir_syntax.specs.declared.body.Place.{Place}
use Rattle.mir_syntax.specs.declared.body.Stmt.{Stmt}
use Rattle.mir_syntax.specs.declared.body.Term.{Term}
use Rattle.mir_syntax.specs.declared.body.Term.TheVariants.{Goto, Switch, Return, Unreachable, Drop, Call, Assert}
use Rattle.mir_syntax.specs.declared.body.Block.{Block}
use Rattle.mir_syntax.specs.Tree.{Tree}
use Rattle.mir_syntax.specs.Crate.{TypedBody, Crate, stmt_of, block_of}
use Rattle.mir_rules.specs.Formed.{stmt_formed, term_formed, block_formed}
use Rattle.mir_rules.proofs.Lists.{and_true-left, and_true-right}
use Rattle.trim_locals.specs.Trimmed.{renamed_stmt}
use Rattle.trim_locals.specs.Code.{bare_renamed_stmt}
use Rattle.trim_locals.proofs.equal.Same.{stmt_renamed}
use Rattle.inline_pass.specs.Spliced.{after, term_after, result_to, block_after}
use Rattle.inline_pass.specs.Code.{shifted, bare_term, bare_result, bare_block}
use Rattle.inline_pass.proofs.equal.Agree.{stmt_agree, term_agree}

-- a number that fits
pub shifted_is : (n m x : ℕ) → n + m < 2 ^ 32 → x < m → shifted n x ≡ after n x
shifted_is n m x few lt = min-eq_left (omega (arith, few, lt))

module _ (C : Crate) (h : TypedBody) (trees : List Tree) (locals blocks : ℕ) (few_locals : locals + length h.locals < 2 ^ 32) (few_blocks : blocks + length h.blocks < 2 ^ 32) (dest : Place) (next : ℕ) where
  in_locals : (x : ℕ) → x < length h.locals → shifted locals x ≡ after locals x
  in_locals x lt = shifted_is locals (length h.locals) x few_locals lt

  in_blocks : (x : ℕ) → x < length h.blocks → shifted blocks x ≡ after blocks x
  in_blocks x lt = shifted_is blocks (length h.blocks) x few_blocks lt

  stmt_copied : (s : Stmt) → stmt_formed C h (stmt_of trees s) ≡ true → stmt_of trees (bare_renamed_stmt (shifted locals) s) ≡ renamed_stmt (after locals) (stmt_of trees s)
  stmt_copied s e = stmt_renamed trees (shifted locals) s ∙ stmt_agree C h (shifted locals) (after locals) in_locals (stmt_of trees s) e

  stmts_copied : (ss : List Stmt) → list_all (stmt_formed C h) (map (stmt_of trees) ss) ≡ true → map (stmt_of trees) (map (bare_renamed_stmt (shifted locals)) ss) ≡ map (renamed_stmt (after locals)) (map (stmt_of trees) ss)
  stmts_copied [] e = refl
  stmts_copied (s ∷ ss) e =
      let rest = list_all (stmt_formed C h) (map (stmt_of trees) ss) in
      ap₂ (λ t ts. t ∷ ts) (stmt_copied s (and_true-left (stmt_formed C h (stmt_of trees s)) rest e)) (stmts_copied ss (and_true-right (stmt_formed C h (stmt_of trees s)) rest e))

  term_copied : (t : Term) → term_formed C h t ≡ true → bare_term locals blocks next t ≡ term_after locals blocks next t
  term_copied Return e = refl
  term_copied (Goto u) e = term_agree C h (shifted locals) (after locals) in_locals (shifted blocks) (after blocks) in_blocks (Goto u) e
  term_copied (Switch a arms u) e = term_agree C h (shifted locals) (after locals) in_locals (shifted blocks) (after blocks) in_blocks (Switch a arms u) e
  term_copied Unreachable e = refl
  term_copied (Drop p u) e = term_agree C h (shifted locals) (after locals) in_locals (shifted blocks) (after blocks) in_blocks (Drop p u) e
  term_copied (Call p c os u) e = term_agree C h (shifted locals) (after locals) in_locals (shifted blocks) (after blocks) in_blocks (Call p c os u) e
  term_copied (Assert a w x os u) e = term_agree C h (shifted locals) (after locals) in_locals (shifted blocks) (after blocks) in_blocks (Assert a w x os u) e

  result_copied : (t : Term) → map (stmt_of trees) (bare_result locals dest t) ≡ result_to locals dest t
  result_copied Return = refl
  result_copied (Goto u) = refl
  result_copied (Switch a arms u) = refl
  result_copied Unreachable = refl
  result_copied (Drop p u) = refl
  result_copied (Call p c os u) = refl
  result_copied (Assert a w x os u) = refl

  block_copied : (k : Block) → block_formed C h (block_of trees k) ≡ true → block_of trees (bare_block locals blocks dest next k) ≡ block_after locals blocks dest next (block_of trees k)
  block_copied k e =
      let all = list_all (stmt_formed C h) (map (stmt_of trees) k.stmts) in
      ap₂ (λ ss t. record { stmts = ss; term = t })
      (map-append (stmt_of trees) (map (bare_renamed_stmt (shifted locals)) k.stmts) (bare_result locals dest k.term) ∙ ap₂ (λ xs ys. xs ++ ys) (stmts_copied k.stmts (and_true-left all (term_formed C h k.term) e)) (result_copied k.term))
      (term_copied k.term (and_true-right all (term_formed C h k.term) e))

  pub blocks_copied : (ks : List Block) → list_all (block_formed C h) (map (block_of trees) ks) ≡ true → map (block_of trees) (map (bare_block locals blocks dest next) ks) ≡ map (block_after locals blocks dest next) (map (block_of trees) ks)
  blocks_copied [] e = refl
  blocks_copied (k ∷ ks) e =
      let rest = list_all (block_formed C h) (map (block_of trees) ks) in
      ap₂ (λ x xs. x ∷ xs) (block_copied k (and_true-left (block_formed C h (block_of trees k)) rest e)) (blocks_copied ks (and_true-right (block_formed C h (block_of trees k)) rest e))

-- one block more at the end
pub pushed_more : {A B : Type 0} (f : A → B) (old now now2 : List B) (xs : List A) (i : ℕ) (k : A) (copy : B) → i < length xs → k ≡ get_or xs i k → now ≡ old ++ map f (take i xs) → now2 ≡ now ++ copy ∷ [] → copy ≡ f k → now2 ≡ old ++ map f (take (i + 1) xs)
pushed_more f old now now2 xs i k copy l there e more is =
    more ∙ ap₂ (λ ys y. ys ++ y ∷ []) e (is ∙ ap f there)
    ∙ append_assoc old (map f (take i xs)) (f (get_or xs i k) ∷ [])
    ∙ ap (λ ys. old ++ ys) (sym (map-append f (take i xs) (get_or xs i k ∷ [])) ∙ ap (map f) (sym (take_more xs i k l)))
