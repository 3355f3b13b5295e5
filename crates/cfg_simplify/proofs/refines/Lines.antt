-- Blocks that are joined, left out and renumbered: each block of the target is a line of blocks of the source, each of which goes to the
-- next. The body has the same statements under other jumps.
use Rattle.std.proofs.Common.{◌≡◌, inl, inr, refl, ap, ◌∙◌, subst, ℕ, suc, ◌+◌, ◌<◌, ◌≤◌, List, [], ◌∷◌, ◌++◌, length, Option, Some, None, slice_get, arith}
use Rattle.std.proofs.lemmas.Option.{slice_get_within}
use Rattle.mir_syntax.proofs.Trees.{slice_get-front}
use Rattle.mir_syntax.proofs.Lists.{slice_get-behind, slice_get-none}
use Rattle.mir_syntax.specs.declared.body.Term.{Term}
use Rattle.mir_syntax.specs.declared.body.Term.TheVariants.{Goto}
use Rattle.mir_syntax.specs.Crate.{TypedBody, TypedBlock, TypedStmt}
use Rattle.cfg_simplify.proofs.refines.Jumps.{SameTerm, same_term_map, Meets, BodyJumps}

-- the line begins with the block
abbrev pub Begins : List ℕ → ℕ → Type 0
Begins [] t = ⊥
Begins (i ∷ is) t = i ≡ t

-- a line of blocks has these statements, one block's after another's, and at its end this terminator
abbrev pub IsLine : (ℕ → ℕ → Type 0) → TypedBody → List ℕ → List TypedStmt → Term → Type 0
IsLine Target b [] stmts term = ⊥
IsLine Target b (i ∷ []) stmts term = (k : TypedBlock) × (slice_get b.blocks i ≡ Some k) × (stmts ≡ k.stmts) × SameTerm Target term k.term
IsLine Target b (i ∷ j ∷ is) stmts term = (k : TypedBlock) × (rest : List TypedStmt) × (slice_get b.blocks i ≡ Some k) × (k.term ≡ Goto j) × (stmts ≡ k.stmts ++ rest) × IsLine Target b (j ∷ is) rest term

-- the target's blocks are lines of the source's, the first one from bb0 on, and each edge to a block leads to the line that begins with it
pub record Joins (target source : TypedBody) (line : ℕ → List ℕ) : Type 0 where
  pub start : Begins (line 0) 0
  pub blocks : (j t : ℕ) → Begins (line j) t → (k : TypedBlock) × (slice_get target.blocks j ≡ Some k) × IsLine (λ t2 t1. Begins (line t2) t1) source (line j) k.stmts k.term

module _ (target source : TypedBody) (line : ℕ → List ℕ) (joins : Joins target source line) where
  abbrev pub Target : ℕ → ℕ → Type 0
  Target t2 t1 = Begins (line t2) t1

  -- the source stands in a block of a line, of which the blocks `rest` are to come; the target's block is that line
  abbrev pub Place : ℕ → ℕ → ℕ → ℕ → ℕ → Type 0
  Place n i2 a2 i1 a1 =
      (k2 : TypedBlock) × (rest : List ℕ) × (stmts : List TypedStmt) × (off : ℕ) × (slice_get target.blocks i2 ≡ Some k2) × IsLine Target source (i1 ∷ rest) stmts k2.term × ((a : ℕ) → slice_get k2.stmts (off + a) ≡ slice_get stmts a) × (a2 ≡ off + a1) × ((k : TypedBlock) → slice_get source.blocks i1 ≡ Some k → a1 ≤ length k.stmts) × (n ≡ length rest)

  begin : (t2 t1 : ℕ) → Target t2 t1 → (n : ℕ) × Place n t2 0 t1 0
  begin t2 t1 b = let (k2, e, l) = joins.blocks t2 t1 b in go (line t2) b k2 e l
    where
      go : (is : List ℕ) → Begins is t1 → (k2 : TypedBlock) → slice_get target.blocks t2 ≡ Some k2 → IsLine Target source is k2.stmts k2.term → (n : ℕ) × Place n t2 0 t1 0
      go [] b k2 e l = absurd b
      go (i ∷ is) b k2 e l = (length is, (k2, is, k2.stmts, 0, e, subst (λ i. IsLine Target source (i ∷ is) k2.stmts k2.term) b l, (λ a. ap (slice_get k2.stmts) (let z : 0 + a ≡ a = omega arith in z)), omega arith, (λ k _. omega arith), refl))

  same_block : (i : ℕ) (k k1 : TypedBlock) → slice_get source.blocks i ≡ Some k → slice_get source.blocks i ≡ Some k1 → k ≡ k1
  same_block i k k1 e f = grind (arith, e, f)

  -- at a statement
  at_statement : (n i2 a2 i1 a1 off : ℕ) (rest : List ℕ) (stmts : List TypedStmt) (k2 k1 : TypedBlock) (x : TypedStmt) → slice_get target.blocks i2 ≡ Some k2 → IsLine Target source (i1 ∷ rest) stmts k2.term → ((a : ℕ) → slice_get k2.stmts (off + a) ≡ slice_get stmts a) → a2 ≡ off + a1 → n ≡ length rest → slice_get source.blocks i1 ≡ Some k1 → slice_get k1.stmts a1 ≡ Some x → slice_get stmts a1 ≡ Some x → Meets Place n target i2 a2 i1 a1 k1.term (Some x)
  at_statement n i2 a2 i1 a1 off rest stmts k2 k1 x e l same p q ek es ex =
      (k2, n, e, ap (slice_get k2.stmts) p ∙ same a1 ∙ ex, (k2, rest, stmts, off, e, l, same, (let z : suc a2 ≡ off + suc a1 = omega (arith, p) in z), (λ k f. subst (λ k. suc a1 ≤ length k.stmts) (same_block i1 k1 k ek f) (let h : a1 < length k1.stmts = slice_get_within k1.stmts a1 x es in omega (arith, h))), q))

  meet : (n i2 a2 i1 a1 : ℕ) → Place n i2 a2 i1 a1 → (k1 : TypedBlock) → slice_get source.blocks i1 ≡ Some k1 → Meets Place n target i2 a2 i1 a1 k1.term (slice_get k1.stmts a1)
  meet n i2 a2 i1 a1 (k2, rest, stmts, off, e, l, same, p, within, q) k1 ek = go rest l q (slice_get k1.stmts a1) refl
    where
      go : (rest : List ℕ) → IsLine Target source (i1 ∷ rest) stmts k2.term → n ≡ length rest → (st : Option TypedStmt) → slice_get k1.stmts a1 ≡ st → Meets Place n target i2 a2 i1 a1 k1.term st
      go [] l q (Some x) es =
          let (k, f, ss, t) = l in
          at_statement n i2 a2 i1 a1 off [] stmts k2 k1 x e l same p q ek es (ap (λ xs. slice_get xs a1) (ss ∙ ap (λ k. k.stmts) (same_block i1 k k1 f ek)) ∙ es)
      go [] l q None es =
          let (k, f, ss, t) = l in
          let b : k ≡ k1 = same_block i1 k k1 f ek in
          inr (k2, e, ap (slice_get k2.stmts) p ∙ same a1 ∙ ap (λ xs. slice_get xs a1) (ss ∙ ap (λ k. k.stmts) b) ∙ es, same_term_map _ _ (λ t2 t1 h. begin t2 t1 h) k2.term k1.term (subst (λ k. SameTerm Target k2.term k.term) b t))
      go (j ∷ is) l q (Some x) es =
          let (k, tail, f, t, ss, next) = l in
          at_statement n i2 a2 i1 a1 off (j ∷ is) stmts k2 k1 x e l same p q ek es (ap (λ xs. slice_get xs a1) (ss ∙ ap (λ k. k.stmts ++ tail) (same_block i1 k k1 f ek)) ∙ slice_get-front k1.stmts tail a1 x es)
      go (j ∷ is) l q None es =
          let (k, tail, f, t, ss, next) = l in
          let b : k ≡ k1 = same_block i1 k k1 f ek in
          let all : stmts ≡ k1.stmts ++ tail = ss ∙ ap (λ k. k.stmts ++ tail) b in
          let end : a1 ≡ length k1.stmts = let h : length k1.stmts ≤ a1 = slice_get-none k1.stmts a1 es in let h' : a1 ≤ length k1.stmts = within k1 ek in omega (arith, h, h') in
          let from : (a : ℕ) → slice_get k2.stmts (a2 + a) ≡ slice_get tail a = λ a.
          (let z : a2 + a ≡ off + (length k1.stmts + a) = omega (arith, p, end) in ap (slice_get k2.stmts) z)
          ∙ same (length k1.stmts + a) ∙ ap (λ xs. slice_get xs (length k1.stmts + a)) all ∙ slice_get-behind k1.stmts tail a in
          inl (j, length is, subst (λ k. k.term ≡ Goto j) b t, (k2, is, tail, a2, e, next, from, omega arith, (λ k _. omega arith), refl), omega (arith, q))

  pub body_jumps : BodyJumps target source Place
  body_jumps = record { starts = begin 0 0 joins.start; meets = meet }
