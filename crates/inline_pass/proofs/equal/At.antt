-- One block: the call that ends it is inlined, or nothing is.
use Rattle.std.proofs.Common.{◌≡◌, refl, sym, ap, ◌∙◌, ℕ, true, false, if◌then◌else◌, List, Option, Some, None, slice_get, arith}
use Rattle.mir_syntax.specs.declared.body.Place.{Place}
use Rattle.mir_syntax.specs.declared.body.Operand.{Operand}
use Rattle.mir_syntax.specs.declared.body.Callee.{Callee}
use Rattle.mir_syntax.specs.declared.body.Callee.TheVariants as callee
use Rattle.mir_syntax.specs.declared.body.Term.{Term}
use Rattle.mir_syntax.specs.declared.body.Term.TheVariants.{Goto, Switch, Return, Unreachable, Drop, Call, Assert}
use Rattle.mir_syntax.specs.Crate.{TypedStmt, TypedBlock, TypedBody}
use Rattle.inline_pass.specs.Spliced.{with_call, if_fits, fits, with_taken, with_term, with_block, inlined_at}
use Rattle.inline_pass.specs.Code.{taken_at}

module _ (taken : ℕ → Option TypedBody) (b : TypedBody) (i : ℕ) where
  term_none : (ss : List TypedStmt) (t : Term) → taken_at taken t ≡ None → with_term taken b i ss t ≡ b
  term_none ss (Call p (callee.Local g) os next) e = ap (with_taken b i ss p os next) e
  term_none ss (Call p (callee.Outside o) os next) e = refl
  term_none ss (Goto u) e = refl
  term_none ss (Switch a arms u) e = refl
  term_none ss Return e = refl
  term_none ss Unreachable e = refl
  term_none ss (Drop p u) e = refl
  term_none ss (Assert a w x os u) e = refl

  term_some : (ss : List TypedStmt) (p : Place) (c : Callee) (os : List Operand) (next : ℕ) (h : TypedBody) → taken_at taken (Call p c os next) ≡ Some h → with_term taken b i ss (Call p c os next) ≡ if_fits b (with_call b i ss p os next h)
  term_some ss p (callee.Local g) os next h e = ap (with_taken b i ss p os next) e
  term_some ss p (callee.Outside o) os next h e = absurd (grind arith)

  module _ (k : TypedBlock) (there : slice_get b.blocks i ≡ Some k) where
    here : inlined_at taken b i ≡ with_term taken b i k.stmts k.term
    here = ap (with_block taken b i) there

    pub stays_none : taken_at taken k.term ≡ None → inlined_at taken b i ≡ b
    stays_none e = here ∙ term_none k.stmts k.term e

    module _ (p : Place) (c : Callee) (os : List Operand) (next : ℕ) (ends : k.term ≡ Call p c os next) (h : TypedBody) (is : taken_at taken k.term ≡ Some h) where
      inlined_if : inlined_at taken b i ≡ if_fits b (with_call b i k.stmts p os next h)
      inlined_if = here ∙ ap (with_term taken b i k.stmts) ends ∙ term_some k.stmts p c os next h (ap (taken_at taken) (sym ends) ∙ is)

      pub stays_large : fits (with_call b i k.stmts p os next h) ≡ false → inlined_at taken b i ≡ b
      stays_large e = inlined_if ∙ ap (λ c. if c then with_call b i k.stmts p os next h else b) e

      pub is_replaced : fits (with_call b i k.stmts p os next h) ≡ true → inlined_at taken b i ≡ with_call b i k.stmts p os next h
      is_replaced e = inlined_if ∙ ap (λ c. if c then with_call b i k.stmts p os next h else b) e

-- only of a call
pub taken_call : (taken : ℕ → Option TypedBody) (t : Term) (h : TypedBody) → taken_at taken t ≡ Some h → (p : Place) × (c : Callee) × (os : List Operand) × (next : ℕ) × (t ≡ Call p c os next)
taken_call taken (Call p c os next) h e = (p, c, os, next, refl)
taken_call taken (Goto u) h e = absurd (grind arith)
taken_call taken (Switch a arms u) h e = absurd (grind arith)
taken_call taken Return h e = absurd (grind arith)
taken_call taken Unreachable h e = absurd (grind arith)
taken_call taken (Drop p u) h e = absurd (grind arith)
taken_call taken (Assert a w x os u) h e = absurd (grind arith)
