-- A body with its locals renumbered, and with storage statements left out, mirrors the other one.
use Rattle.std.proofs.Common.{◌≡◌, inl, inr, refl, sym, ap, ap₂, ◌∙◌, subst, ℕ, suc, ◌<◌, [], ◌∷◌, length, drop, Option, Some, None, slice_get, arith}
use Rattle.mir_syntax.specs.declared.body.Term.{Term}
use Rattle.mir_syntax.specs.declared.body.Term.TheVariants.{Goto, Switch, Return, Unreachable, Drop, Call, Assert}
use Rattle.mir_syntax.specs.Crate.{TypedStmt, TypedBlock}
use Rattle.mir_semantics.specs.Step.{take_arm}
use Rattle.mir_relate.specs.Frames.{Change}
use Rattle.mir_relate.specs.Renumbered.{TermSame, StmtsSame}
use Rattle.mir_relate.proofs.Leaves.{some_val}
use Rattle.mir_relate.proofs.Mirror.{Positions, To, TermAs, Meets, Mirrors}
use Rattle.mir_relate.proofs.Numbered.{Homes}
use Rattle.mir_relate.proofs.Rest.{drop_some, drop_none, drop_next, get_drop}
use Rattle.trim_locals.proofs.Renumbered.{BodySame}
use Rattle.trim_locals.proofs.refines.Slots.{slots_of, slots_agree}

module _ (X : Change) (B : ℕ → Option ℕ) (same : BodySame B X.body2 X.body1) where
  -- as far in the same block, but for the statements that go; the number is of those that are left in the source's block
  abbrev pub InBlock : Positions
  InBlock n i2 a2 i1 a1 = (i2 ≡ i1) × ((k1 k2 : TypedBlock) → slice_get X.body1.blocks i1 ≡ Some k1 → slice_get X.body2.blocks i1 ≡ Some k2 → StmtsSame (Homes B) (drop a1 k1.stmts) (drop a2 k2.stmts) × (n ≡ length (drop a1 k1.stmts)))

  left_there : Option TypedBlock → ℕ
  left_there None = 0
  left_there (Some k) = length k.stmts

  begins : (u : ℕ) → To InBlock u u
  unfolding left_there
  begins u = (
    left_there (slice_get X.body1.blocks u),
    (refl, λ k1 k2 i1 i2. (let (k, i, ss, _) = same.blocks u k1 i1 in (subst (λ (k : TypedBlock). StmtsSame (Homes B) k1.stmts k.stmts) (some_val (sym i ∙ i2)) ss, ap left_there i1))),
  )

  -- the same targets
  leads : (u1 u2 : ℕ) → u1 ≡ u2 → To InBlock u2 u1
  leads u1 u2 e = subst (λ u. To InBlock u u1) e (begins u1)

  term_as : (t u : Term) → TermSame (Homes B) t u → TermAs (Homes B) (To InBlock) t u
  term_as (Goto u1) (Goto u2) h = leads u1 u2 h
  term_as (Switch o arms1 u1) (Switch p arms2 u2) h = (h.0, λ i. leads (take_arm i arms1 u1) (take_arm i arms2 u2) (ap₂ (take_arm i) h.1 h.2))
  term_as Return Return h = tt
  term_as Unreachable Unreachable h = tt
  term_as (Drop p u1) (Drop q u2) h = (h.0, leads u1 u2 h.1)
  term_as (Call p g os u1) (Call q k ps u2) h = (h.0, h.1, h.2, leads u1 u2 h.3)
  term_as (Assert o e x os u1) (Assert p f y ps u2) h = (h.0, h.1, h.2, h.3, leads u1 u2 h.4)
  term_as t u h = absurd h

  -- two places in the block of this number
  module _ (n i a2 a1 : ℕ) (k1 k2 : TypedBlock) (i1 : slice_get X.body1.blocks i ≡ Some k1) (i2 : slice_get X.body2.blocks i ≡ Some k2) where
    further : (b2 b1 : ℕ) → StmtsSame (Homes B) (drop b1 k1.stmts) (drop b2 k2.stmts) → InBlock (length (drop b1 k1.stmts)) i b2 i b1
    further b2 b1 h = (refl, λ k1' k2' j1 j2. here k1' k2' (some_val (sym i1 ∙ j1)) (some_val (sym i2 ∙ j2)))
      where
        here : (k1' k2' : TypedBlock) → k1 ≡ k1' → k2 ≡ k2' → StmtsSame (Homes B) (drop b1 k1'.stmts) (drop b2 k2'.stmts) × (length (drop b1 k1.stmts) ≡ length (drop b1 k1'.stmts))
        here k1' k2' e1 e2 = (subst (λ (k : TypedBlock). StmtsSame (Homes B) (drop b1 k.stmts) (drop b2 k2'.stmts)) e1 (subst (λ (k : TypedBlock). StmtsSame (Homes B) (drop b1 k1.stmts) (drop b2 k.stmts)) e2 h), ap (λ (k : TypedBlock). length (drop b1 k.stmts)) e1)

    at_statement : (s : TypedStmt) → slice_get k1.stmts a1 ≡ Some s → n ≡ length (drop a1 k1.stmts) → StmtsSame (Homes B) (s ∷ drop (suc a1) k1.stmts) (drop a2 k2.stmts) → Meets B InBlock n X.body2 i a2 i a1 k1.term (Some s)
    at_statement s at len (inl (gone, ss)) = inl (length (drop (suc a1) k1.stmts), gone, further a2 (suc a1) ss, less)
      where
        less : length (drop (suc a1) k1.stmts) < n
        less = (let z : n ≡ suc (length (drop (suc a1) k1.stmts)) = len ∙ ap length (drop_some k1.stmts a1 s at) in omega arith)
    at_statement s at len (inr (t, rest2, z, ps, ss)) =
        let (at2, next) = drop_next k2.stmts a2 t rest2 z in
        inr (k2, t, length (drop (suc a1) k1.stmts), i2, at2, ps, further (suc a2) (suc a1) (subst (λ ts. StmtsSame (Homes B) (drop (suc a1) k1.stmts) ts) next ss))

    at_end : slice_get k1.stmts a1 ≡ None → StmtsSame (Homes B) (drop a1 k1.stmts) (drop a2 k2.stmts) → TermSame (Homes B) k1.term k2.term → Meets B InBlock n X.body2 i a2 i a1 k1.term None
    at_end none ss ts =
        let nil2 : drop a2 k2.stmts ≡ [] = subst (λ xs. StmtsSame (Homes B) xs (drop a2 k2.stmts)) (drop_none k1.stmts a1 none) ss in
        inr (k2, i2, get_drop k2.stmts a2 ∙ ap (λ ss. slice_get ss 0) nil2, term_as k1.term k2.term ts)

    meets_at : (o : Option TypedStmt) → slice_get k1.stmts a1 ≡ o → StmtsSame (Homes B) (drop a1 k1.stmts) (drop a2 k2.stmts) → n ≡ length (drop a1 k1.stmts) → TermSame (Homes B) k1.term k2.term → Meets B InBlock n X.body2 i a2 i a1 k1.term o
    meets_at (Some s) at ss len ts = at_statement s at len (subst (λ xs. StmtsSame (Homes B) xs (drop a2 k2.stmts)) (drop_some k1.stmts a1 s at) ss)
    meets_at None at ss len ts = at_end at ss ts

  meets : (n i2 a2 i1 a1 : ℕ) → InBlock n i2 a2 i1 a1 → (k1 : TypedBlock) → slice_get X.body1.blocks i1 ≡ Some k1 → Meets B InBlock n X.body2 i2 a2 i1 a1 k1.term (slice_get k1.stmts a1)
  meets n i2 a2 i1 a1 (e, here) k1 e1 =
      let (k2, e2, _, ts) = same.blocks i1 k1 e1 in
      let (ss, len) = here k1 k2 e1 e2 in
      subst (λ i. Meets B InBlock n X.body2 i a2 i1 a1 k1.term (slice_get k1.stmts a1)) (sym e) (meets_at n i1 a2 a1 k1 k2 e1 e2 (slice_get k1.stmts a1) refl ss len ts)

  pub mirrors : ((x x' y : ℕ) → B x ≡ Some y → B x' ≡ Some y → x ≡ x') → Mirrors X B InBlock
  mirrors once = record {
    once = once;
    types = same.types;
    result = same.fixed 0 (omega arith);
    starts = begins 0;
    meets = meets;
    slots = λ j vs ws hv few x y e v q. slots_of X.source.shapes B once X.body1.args same.fixed X.body1.locals X.body2.locals same.some1 same.some2 same.types j vs ws hv.0 few x y e v q;
    agree = λ j vs ws hv few x y t v w e e1 e2. slots_agree X.source.shapes B once X.body1.args same.fixed X.body1.locals X.body2.locals same.some1 same.some2 same.types j vs ws hv few x y t v w e e1 e2;
  }
