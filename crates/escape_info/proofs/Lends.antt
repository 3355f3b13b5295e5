-- A local to a part of which a statement makes a reference is borrowed.
use Rattle.std.proofs.Common.{◌≡◌, ◌⊎◌, inl, inr, refl, sym, ap, ◌∙◌, subst, ℕ, zero, suc, Bool, true, false, ◌||◌, if◌then◌else◌, List, [], ◌∷◌, ◌++◌, Some, slice_get, arith, eq-eqb}
use Rattle.std.proofs.lemmas.List.Folds.{list_any-append}
use Rattle.std.specs.List.{list_any, flat_map}
use Rattle.mir_syntax.specs.declared.body.Place.{Place}
use Rattle.mir_syntax.specs.Crate.{TypedStmt, assign, TypedBlock, TypedBody}
use Rattle.mir_syntax.specs.Crate as rvalue
use Rattle.mir_syntax.specs.Shapes.{Shape}
use Rattle.mir_syntax.specs.Parts.{has_deref}
use Rattle.escape_info.specs.Borrowed.{lent, lent_in, dropped, is, borrowed}
use Rattle.std.proofs.lemmas.Bool.{or_left, or_right}

any_left : (p : ℕ → Bool) (xs ys : List ℕ) → list_any p xs ≡ true → list_any p (xs ++ ys) ≡ true
any_left p xs ys h = list_any-append p xs ys ∙ or_left (list_any p xs) (list_any p ys) h

any_right : (p : ℕ → Bool) (xs ys : List ℕ) → list_any p ys ≡ true → list_any p (xs ++ ys) ≡ true
any_right p xs ys h = list_any-append p xs ys ∙ or_right (list_any p xs) (list_any p ys) h

any_flat : {A : Type 0} (p : ℕ → Bool) (f : A → List ℕ) (xs : List A) (i : ℕ) (x : A) → slice_get xs i ≡ Some x → list_any p (f x) ≡ true → list_any p (flat_map f xs) ≡ true
any_flat p f [] i x e h = absurd (grind arith)
any_flat p f (y ∷ xs) zero x e h = any_left p (f y) (flat_map f xs) (rw (let same : y ≡ x = grind arith in same) h)
any_flat p f (y ∷ xs) (suc i) x e h = any_right p (f y) (flat_map f xs) (any_flat p f xs i x e h)

lent_direct : (x : ℕ) (q : Place) → q.local ≡ x → has_deref q.proj ≡ false → list_any (is x) (if has_deref q.proj then [] else q.local ∷ []) ≡ true
lent_direct x q same h = subst (λ b. list_any (is x) (if b then [] else q.local ∷ []) ≡ true) (sym h) (ap (λ b. b || false) (eq-eqb x q.local (sym same)))

lent_here : (p q : Place) (s : TypedStmt) → (s ≡ assign p (rvalue.ref q)) ⊎ (s ≡ assign p (rvalue.ref_mut q)) → has_deref q.proj ≡ false → list_any (is q.local) (lent s) ≡ true
lent_here p q s (inl e) h = rw e (lent_direct q.local q refl h)
lent_here p q s (inr e) h = rw e (lent_direct q.local q refl h)

pub lends : (D : List Shape) (b : TypedBody) (i n : ℕ) (k : TypedBlock) (p q : Place) → slice_get b.blocks i ≡ Some k → (slice_get k.stmts n ≡ Some (assign p (rvalue.ref q))) ⊎ (slice_get k.stmts n ≡ Some (assign p (rvalue.ref_mut q))) → has_deref q.proj ≡ false → borrowed D b q.local ≡ true
lends D b i n k p q e1 e2 h = any_flat (is q.local) (lent_in D b.locals) b.blocks i k e1 (any_left (is q.local) (flat_map lent k.stmts) (dropped D b.locals k.term) (in_stmts e2))
  where
    in_stmts : (slice_get k.stmts n ≡ Some (assign p (rvalue.ref q))) ⊎ (slice_get k.stmts n ≡ Some (assign p (rvalue.ref_mut q))) → list_any (is q.local) (flat_map lent k.stmts) ≡ true
    in_stmts (inl e) = any_flat (is q.local) lent k.stmts n (assign p (rvalue.ref q)) e (lent_here p q (assign p (rvalue.ref q)) (inl refl) h)
    in_stmts (inr e) = any_flat (is q.local) lent k.stmts n (assign p (rvalue.ref_mut q)) e (lent_here p q (assign p (rvalue.ref_mut q)) (inr refl) h)
