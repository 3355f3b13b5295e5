-- What each call that is inlined keeps, all rounds keep.
use Rattle.std.proofs.Common.{◌≡◌, refl, ℕ, zero, suc, ◌-◌, Bool, true, false, if◌then◌else◌, List, [], ◌∷◌, length, Option, Some, None, slice_get}
use Rattle.std.specs.List.{range_with_len}
use Rattle.mir_syntax.specs.declared.types.FnId.{FnId}
use Rattle.mir_syntax.specs.declared.body.Place.{Place}
use Rattle.mir_syntax.specs.declared.body.Operand.{Operand}
use Rattle.mir_syntax.specs.declared.body.Callee.TheVariants as callee
use Rattle.mir_syntax.specs.declared.body.Term.{Term}
use Rattle.mir_syntax.specs.declared.body.Term.TheVariants.{Goto, Switch, Return, Unreachable, Drop, Call, Assert}
use Rattle.mir_syntax.specs.Crate.{TypedBlock, TypedBody}
use Rattle.inline_pass.specs.Spliced.{with_call, fits, if_fits, with_taken, with_term, with_block, inlined_at, inlined_in, rounds, spliced}
use Rattle.inline_pass.proofs.Bodies.{Site, inlined_body}

module _ (taken : ℕ → Option TypedBody) (P : TypedBody → Type 0) (inlined : (b : TypedBody) → P b → (s : Site b) (h : TypedBody) → taken s.called.0 ≡ Some h → fits (inlined_body b s h) ≡ true → P (inlined_body b s h)) where
  module _ (b : TypedBody) (is : P b) where
    where_fits : (b' : TypedBody) → (fits b' ≡ true → P b') → P (if_fits b b')
    where_fits b' h = go (fits b') refl
      where
        go : (c : Bool) → fits b' ≡ c → P (if c then b' else b)
        go true e = h e
        go false e = is

    keeps_taken : (i : ℕ) (k : TypedBlock) (p : Place) (g : FnId) (os : List Operand) (next : ℕ) → slice_get b.blocks i ≡ Some k → k.term ≡ Call p (callee.Local g) os next → (o : Option TypedBody) → taken g.0 ≡ o → P (with_taken b i k.stmts p os next o)
    keeps_taken i k p g os next at ends None q = is
    keeps_taken i k p g os next at ends (Some h) q = where_fits (with_call b i k.stmts p os next h) (inlined b is (record { block = i; found = k; is_found = at; dest = p; called = g; args = os; next = next; ends = ends }) h q)

    keeps_term : (i : ℕ) (k : TypedBlock) → slice_get b.blocks i ≡ Some k → (t : Term) → k.term ≡ t → P (with_term taken b i k.stmts t)
    keeps_term i k at (Call p (callee.Local g) os next) ends = keeps_taken i k p g os next at ends (taken g.0) refl
    keeps_term i k at (Call p (callee.Outside o) os next) ends = is
    keeps_term i k at (Goto t) ends = is
    keeps_term i k at (Switch a arms t) ends = is
    keeps_term i k at Return ends = is
    keeps_term i k at Unreachable ends = is
    keeps_term i k at (Assert a e x os t) ends = is
    keeps_term i k at (Drop p t) ends = is

    keeps_at : (i : ℕ) → P (inlined_at taken b i)
    keeps_at i = go (slice_get b.blocks i) refl
      where
        go : (o : Option TypedBlock) → slice_get b.blocks i ≡ o → P (with_block taken b i o)
        go None q = is
        go (Some k) q = keeps_term i k q k.term refl

  keeps_in : (is : List ℕ) (b : TypedBody) → P b → P (inlined_in taken b is)
  keeps_in [] b h = h
  keeps_in (i ∷ is) b h = keeps_in is (inlined_at taken b i) (keeps_at b h i)

  pub keeps_rounds : (n from : ℕ) (b : TypedBody) → P b → P (rounds taken n from b)
  keeps_rounds zero from b h = h
  keeps_rounds (suc n) from b h = keeps_rounds n (length b.blocks) _ (keeps_in (range_with_len from (length b.blocks - from)) b h)

  pub keeps_all : (b : TypedBody) → P b → P (spliced taken b)
  unfolding spliced
  keeps_all b h = keeps_rounds 3 0 b h
