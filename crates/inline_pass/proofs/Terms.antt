-- The terminators of a body in which calls are inlined: no `drop` comes in, and what is called the body calls or one that is taken.
use Rattle.std.proofs.Common.{◌≡◌, ◌⊎◌, inl, inr, refl, sym, ap, ◌∙◌, ℕ, suc, ◌+◌, true, false, List, ◌++◌, length, map, set, Option, Some, slice_get, arith}
use Rattle.mir_syntax.specs.declared.body.Place.{Place}
use Rattle.mir_syntax.specs.declared.body.Operand.{Operand}
use Rattle.mir_syntax.specs.declared.body.Callee.{Callee}
use Rattle.mir_syntax.specs.declared.body.Term.{Term}
use Rattle.mir_syntax.specs.declared.body.Term.TheVariants.{Goto, Switch, Return, Unreachable, Drop, Call, Assert}
use Rattle.mir_syntax.specs.Crate.{TypedBlock, TypedBody}
use Rattle.mir_syntax.proofs.Lists.{map_back}
use Rattle.mir_rules.specs.Calls.{Calls}
use Rattle.mir_rules.specs.Drops.{is_drop, NoDrops}
use Rattle.mir_rules.proofs.Bodies.{set_cases}
use Rattle.inline_pass.specs.Spliced.{term_after, block_after, kept, kept_dest, handed, fits, spliced}
use Rattle.inline_pass.proofs.Bodies.{Site, inlined_body, append_cases}
use Rattle.inline_pass.proofs.Rounds.{keeps_all}

-- a terminator of the body with a call less is a goto, one of the body, or the copy of one of the callee's
module _ (b : TypedBody) (s : Site b) (h : TypedBody) where
  abbrev pub copied_term : Term → Term
  copied_term = term_after (length b.locals) (length b.blocks) s.next

  pub data FromWhere (t : Term) : Type 0 where
    jumps : (u : ℕ) → t ≡ Goto u → FromWhere t
    own : (m : ℕ) (k : TypedBlock) → slice_get b.blocks m ≡ Some k → t ≡ k.term → FromWhere t
    copy : (j : ℕ) (k : TypedBlock) → slice_get h.blocks j ≡ Some k → t ≡ copied_term k.term → FromWhere t

  calling : TypedBlock
  calling = record { stmts = s.found.stmts ++ (kept (length b.locals + length h.locals) s.dest ++ handed (suc (length b.locals)) s.args); term = Goto (length b.blocks) }

  copied : TypedBlock → TypedBlock
  copied = block_after (length b.locals) (length b.blocks) (kept_dest (length b.locals + length h.locals) s.dest) s.next

  pub from_where : (m : ℕ) (n : TypedBlock) → slice_get (inlined_body b s h).blocks m ≡ Some n → FromWhere n.term
  unfolding calling copied
  from_where m n e = go (append_cases (set b.blocks s.block calling) (map copied h.blocks) m n e)
    where
      in_b : (n ≡ calling) ⊎ (slice_get b.blocks m ≡ Some n) → FromWhere n.term
      in_b (inl q) = jumps (length b.blocks) (ap (λ (n : TypedBlock). n.term) q)
      in_b (inr q) = own m n q refl

      go : (slice_get (set b.blocks s.block calling) m ≡ Some n) ⊎ ((j : ℕ) × (slice_get (map copied h.blocks) j ≡ Some n)) → FromWhere n.term
      go (inl q) = in_b (set_cases b.blocks s.block m calling n q)
      go (inr (j, q)) = (let (k, at, is) = map_back copied h.blocks j n q in copy j k at (ap (λ (n : TypedBlock). n.term) (sym is)))

-- ---- no `drop`

drop_after : (locals blocks next : ℕ) (t : Term) → is_drop t ≡ false → is_drop (term_after locals blocks next t) ≡ false
drop_after l b n (Goto t) e = refl
drop_after l b n (Switch a arms t) e = refl
drop_after l b n Return e = refl
drop_after l b n Unreachable e = refl
drop_after l b n (Call p g os t) e = refl
drop_after l b n (Assert a w x os t) e = refl
drop_after l b n (Drop p t) e = absurd (grind arith)

pub inlined_no_drops : (b : TypedBody) (s : Site b) (h : TypedBody) → NoDrops b → NoDrops h → NoDrops (inlined_body b s h)
inlined_no_drops b s h nb nh = record { none = λ m n e. go n.term (from_where b s h m n e) }
  where
    go : (t : Term) → FromWhere b s h t → is_drop t ≡ false
    go t (jumps u q) = ap is_drop q
    go t (own m k e q) = ap is_drop q ∙ nb.none m k e
    go t (copy j k e q) = ap is_drop q ∙ drop_after (length b.locals) (length b.blocks) s.next k.term (nh.none j k e)

pub spliced_no_drops : (taken : ℕ → Option TypedBody) (b : TypedBody) → NoDrops b → ((g : ℕ) (h : TypedBody) → taken g ≡ Some h → NoDrops h) → NoDrops (spliced taken b)
spliced_no_drops taken b nb nh = keeps_all taken NoDrops (λ b nb s h q fit. inlined_no_drops b s h nb (nh s.called.0 h q)) b nb

-- ---- calls

calls_after : (locals blocks next : ℕ) (t : Term) (p : Place) (c : Callee) (os : List Operand) (u : ℕ) → term_after locals blocks next t ≡ Call p c os u → (q : Place) × (ps : List Operand) × (v : ℕ) × (t ≡ Call q c ps v)
calls_after l b n (Goto t) p c os u e = absurd (grind arith)
calls_after l b n (Switch a arms t) p c os u e = absurd (grind arith)
calls_after l b n Return p c os u e = absurd (grind arith)
calls_after l b n Unreachable p c os u e = absurd (grind arith)
calls_after l b n (Call q d ps v) p c os u e = (q, ps, v, ap (λ c. Call q c ps v) (let z : d ≡ c = grind arith in z))
calls_after l b n (Assert a w x os' t) p c os u e = absurd (grind arith)
calls_after l b n (Drop q t) p c os u e = absurd (grind arith)

-- the body calls it, or one that is taken
abbrev pub CallsOne : (ℕ → Option TypedBody) → TypedBody → Callee → Type 0
CallsOne taken b c = Calls b c ⊎ ((g : ℕ) × (h : TypedBody) × (taken g ≡ Some h) × Calls h c)

pub spliced_calls : (taken : ℕ → Option TypedBody) (b : TypedBody) (c : Callee) → Calls (spliced taken b) c → CallsOne taken b c
spliced_calls taken b = keeps_all taken Fair inlined b (λ c k. inl k)
  where
    Fair : TypedBody → Type 0
    Fair b' = (c : Callee) → Calls b' c → CallsOne taken b c

    inlined : (b' : TypedBody) → Fair b' → (s : Site b') (h : TypedBody) → taken s.called.0 ≡ Some h → fits (inlined_body b' s h) ≡ true → Fair (inlined_body b' s h)
    inlined b' fair s h q fit c (i, k, p, os, next, at, ends) = go (from_where b' s h i k at)
      where
        go : FromWhere b' s h k.term → CallsOne taken b c
        go (jumps u e) = absurd (let z : Goto u ≡ Call p c os next = sym e ∙ ends in grind arith)
        go (own m n e same) = fair c (m, n, p, os, next, e, sym same ∙ ends)
        go (copy j n e same) = (let (p', os', u, is) = calls_after (length b'.locals) (length b'.blocks) s.next n.term p c os next (sym same ∙ ends) in inr (s.called.0, h, q, (j, n, p', os', u, e, is)))
