-- What is known of the parts of a value.
use Rattle.std.proofs.Common.{◌≡◌, refl, sym, ap, ◌∙◌, ℕ, zero, suc, ◌<◌, ◌≤◌, List, [], ◌∷◌, length, Some, None, slice_get, ◌==◌, true, false, arith}
use Rattle.mir_syntax.specs.declared.body.Proj.{Proj}
use Rattle.mir_syntax.specs.declared.body.Proj.TheVariants.{Field, Downcast, Deref}
use Rattle.mir_syntax.specs.declared.body.Operand.{Operand}
use Rattle.mir_syntax.specs.declared.body.OverOp.{OverOp}
use Rattle.mir_syntax.specs.declared.body.Rvalue.{Rvalue}
use Rattle.mir_syntax.specs.declared.body.Rvalue.TheVariants as syntax
use Rattle.mir_syntax.specs.Tree.{Tree}
use Rattle.mir_syntax.specs.Crate.{overflow, tuple, build, rvalue_of}
use Rattle.mir_semantics.specs.Step.{Here}
use Rattle.const_flow.specs.declared.cell.Cell.TheVariants.{Many}
use Rattle.const_flow.specs.Facts.{Facts, known, part_known, nth_known, both, wrapped_of, flag_of, value_known}

abbrev NoField : List Proj → Type 0
NoField r = (i : ℕ) (ps : List Proj) → r ≡ Field i ∷ ps → ⊥

filled : (p : Proj) (ps : List Proj) → (length (p ∷ ps) == 0) ≡ true → ⊥
filled p ps e = let z : (length (p ∷ ps) == 0) ≡ false = grind arith in let bad : true ≡ false = sym e ∙ z in cc

module _ (h : Here) (fs : Facts) where
  -- ---- values made of others

  pub tuple_other : (os : List Operand) (r : List Proj) → NoField r → Many ≡ value_known h fs (tuple os) r
  unfolding value_known
  tuple_other os [] n = refl
  tuple_other os (Field i ∷ ps) n = absurd (n i ps refl)
  tuple_other os (Downcast k ∷ ps) n = refl
  tuple_other os (Deref ∷ ps) n = refl

  pub build_other : (d k : ℕ) (os : List Operand) (r : List Proj) → NoField r → Many ≡ value_known h fs (build d k os) r
  unfolding value_known
  build_other d k os [] n = refl
  build_other d k os (Field i ∷ ps) n = absurd (n i ps refl)
  build_other d k os (Downcast j ∷ ps) n = refl
  build_other d k os (Deref ∷ ps) n = refl

  nth_there : (os : List Operand) (i : ℕ) (o : Operand) (ps : List Proj) → slice_get os i ≡ Some o → part_known fs o ps ≡ nth_known fs os i ps
  unfolding nth_known
  nth_there [] i o ps e = absurd cc
  nth_there (a ∷ os) zero o ps e = let same : o ≡ a = cc in ap (λ x. part_known fs x ps) same
  nth_there (a ∷ os) (suc i) o ps e = nth_there os i o ps e

  nth_gone : (os : List Operand) (i : ℕ) (ps : List Proj) → slice_get os i ≡ None → Many ≡ nth_known fs os i ps
  unfolding nth_known
  nth_gone [] i ps e = refl
  nth_gone (a ∷ os) zero ps e = absurd cc
  nth_gone (a ∷ os) (suc i) ps e = nth_gone os i ps e

  pub tuple_there : (os : List Operand) (r : List Proj) (i : ℕ) (o : Operand) (ps : List Proj) → r ≡ Field i ∷ ps → slice_get os i ≡ Some o → part_known fs o ps ≡ value_known h fs (tuple os) r
  unfolding value_known
  tuple_there os r i o ps w e = nth_there os i o ps e ∙ sym (ap (value_known h fs (tuple os)) w)

  pub tuple_gone : (os : List Operand) (r : List Proj) (i : ℕ) (ps : List Proj) → r ≡ Field i ∷ ps → slice_get os i ≡ None → Many ≡ value_known h fs (tuple os) r
  unfolding value_known
  tuple_gone os r i ps w e = nth_gone os i ps e ∙ sym (ap (value_known h fs (tuple os)) w)

  pub build_there : (d k : ℕ) (os : List Operand) (r : List Proj) (i : ℕ) (o : Operand) (ps : List Proj) → r ≡ Field i ∷ ps → slice_get os i ≡ Some o → part_known fs o ps ≡ value_known h fs (build d k os) r
  unfolding value_known
  build_there d k os r i o ps w e = nth_there os i o ps e ∙ sym (ap (value_known h fs (build d k os)) w)

  pub build_gone : (d k : ℕ) (os : List Operand) (r : List Proj) (i : ℕ) (ps : List Proj) → r ≡ Field i ∷ ps → slice_get os i ≡ None → Many ≡ value_known h fs (build d k os) r
  unfolding value_known
  build_gone d k os r i ps w e = nth_gone os i ps e ∙ sym (ap (value_known h fs (build d k os)) w)

  -- ---- a result and its flag

  module _ (op : OverOp) (a b : Operand) where
    pub over_other : (r : List Proj) → NoField r → Many ≡ value_known h fs (overflow op a b) r
    unfolding value_known
    over_other [] n = refl
    over_other (Field i ∷ ps) n = absurd (n i ps refl)
    over_other (Downcast k ∷ ps) n = refl
    over_other (Deref ∷ ps) n = refl

    deeper : (i : ℕ) (p : Proj) (ps : List Proj) → Many ≡ value_known h fs (overflow op a b) (Field i ∷ (p ∷ ps))
    unfolding value_known
    deeper zero p ps = refl
    deeper (suc zero) p ps = refl
    deeper (suc (suc i)) p ps = refl

    further : (i : ℕ) → 1 < i → Many ≡ value_known h fs (overflow op a b) (Field i ∷ [])
    unfolding value_known
    further zero l = absurd (omega arith)
    further (suc zero) l = absurd (omega arith)
    further (suc (suc i)) l = refl

    pub over_deeper : (r : List Proj) (i : ℕ) (ps : List Proj) → r ≡ Field i ∷ ps → (length ps == 0) ≡ false → Many ≡ value_known h fs (overflow op a b) r
    over_deeper r i [] w e = absurd cc
    over_deeper r i (p ∷ ps) w e = deeper i p ps ∙ sym (ap (value_known h fs (overflow op a b)) w)

    pub over_further : (r : List Proj) (i : ℕ) (ps : List Proj) → r ≡ Field i ∷ ps → (length ps == 0) ≡ true → 1 < i → Many ≡ value_known h fs (overflow op a b) r
    over_further r i [] w e l = further i l ∙ sym (ap (value_known h fs (overflow op a b)) w)
    over_further r i (p ∷ ps) w e l = absurd (filled p ps e)

    pub over_first : (r : List Proj) (i : ℕ) (ps : List Proj) → r ≡ Field i ∷ ps → (length ps == 0) ≡ true → i ≡ 0 → both (wrapped_of h op a) (known fs a) (known fs b) ≡ value_known h fs (overflow op a b) r
    unfolding value_known
    over_first r zero [] w e l = sym (ap (value_known h fs (overflow op a b)) w)
    over_first r (suc i) [] w e l = absurd (omega arith)
    over_first r i (p ∷ ps) w e l = absurd (filled p ps e)

    pub over_second : (r : List Proj) (i : ℕ) (ps : List Proj) → r ≡ Field i ∷ ps → (length ps == 0) ≡ true → i ≤ 1 → (i ≡ 0 → ⊥) → both (flag_of h op a) (known fs a) (known fs b) ≡ value_known h fs (overflow op a b) r
    unfolding value_known
    over_second r zero [] w e l n = absurd (n refl)
    over_second r (suc zero) [] w e l n = sym (ap (value_known h fs (overflow op a b)) w)
    over_second r (suc (suc i)) [] w e l n = absurd (omega arith)
    over_second r i (p ∷ ps) w e l n = absurd (filled p ps e)

  -- ---- numbers have no parts

  pub no_part : (trees : List Tree) (x : Rvalue) (r : List Proj) → (length r == 0) ≡ false
      → ((o : Operand) → x ≡ syntax.Use o → ⊥) → ((os : List Operand) → x ≡ syntax.Tuple os → ⊥) → ((d k : ℕ) (os : List Operand) → x ≡ syntax.Build d k os → ⊥)
      → ((op : OverOp) (a b : Operand) → x ≡ syntax.Overflow op a b → ⊥)
      → Many ≡ value_known h fs (rvalue_of trees x) r
  unfolding value_known
  no_part trees x [] e un nt nb nov = absurd cc
  no_part trees (syntax.Use o) (p ∷ r) e un nt nb nov = absurd (un o refl)
  no_part trees (syntax.Binary op a b) (p ∷ r) e un nt nb nov = refl
  no_part trees (syntax.Overflow op a b) (p ∷ r) e un nt nb nov = absurd (nov op a b refl)
  no_part trees (syntax.Unary op a) (p ∷ r) e un nt nb nov = refl
  no_part trees (syntax.Cast a ty) (p ∷ r) e un nt nb nov = refl
  no_part trees (syntax.Ref q) (p ∷ r) e un nt nb nov = refl
  no_part trees (syntax.RefMut q) (p ∷ r) e un nt nb nov = refl
  no_part trees (syntax.Discriminant q) (p ∷ r) e un nt nb nov = refl
  no_part trees (syntax.Tuple os) (p ∷ r) e un nt nb nov = absurd (nt os refl)
  no_part trees (syntax.Build d k os) (p ∷ r) e un nt nb nov = absurd (nb d k os refl)
