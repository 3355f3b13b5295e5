-- The type of the first declaration of a local, where one declaration more is made.
use Rattle.std.proofs.Common.{◌≡◌, ℕ, nat_eq, Bool, true, false, cond, List, [], ◌∷◌, ◌++◌, Option, Some, None, is_some, refl, sym, ap, ◌∙◌, eqb-true}
use Rattle.std.specs.declared.hash.FoldHasher.{FoldHasher}
use Rattle.std.specs.declared.hash.BuildHasherDefault.{BuildHasherDefault}
use Rattle.std.specs.HashMap.{HashMap, get}
use Rattle.mir_syntax.specs.declared.types.TyId.{TyId}
use Rattle.mir_text.specs.NamedBodies.{or_else}
use Rattle.mir_text.proofs.Numbered.{or_else-none}
use Rattle.mir_bodies.specs.Locals.{first_ty, AreFirsts}

head : (p : Bool) (t : TyId) (F G H : Option TyId) → F ≡ or_else G H → cond p (Some t) F ≡ or_else (cond p (Some t) G) H
head true t F G H h = refl
head false t F G H h = h

first-append : (ds : List (ℕ × TyId)) (x : ℕ) (t : TyId) (q : ℕ) → first_ty (ds ++ (x, t) ∷ []) q ≡ or_else (first_ty ds q) (cond (nat_eq x q) (Some t) None)
first-append [] x t q = refl
first-append (d ∷ ds) x t q =
    head (nat_eq d.0 q) d.1 (first_ty (ds ++ (x, t) ∷ []) q) (first_ty ds q) (cond (nat_eq x q) (Some t) None) (first-append ds x t q)

new-at : (r : Bool) (o : Option TyId) (t : TyId) → (r ≡ true → o ≡ None) → or_else o (cond r (Some t) None) ≡ cond r (Some t) o
new-at true None t h = refl
new-at true (Some u) t h = let e : Some u ≡ None = h refl in absurd cc
new-at false o t h = or_else-none o

old-at : (r : Bool) (o : Option TyId) (t : TyId) → (r ≡ true → is_some o ≡ true) → or_else o (cond r (Some t) None) ≡ o
old-at true None t h = let e : false ≡ true = h refl in absurd cc
old-at true (Some u) t h = refl
old-at false o t h = or_else-none o

absent : (o : Option TyId) → is_some o ≡ false → o ≡ None
absent None h = refl
absent (Some t) h = absurd cc

-- a local that isn't declared gets its type
pub first_of_new : (ds : List (ℕ × TyId)) (x : ℕ) (t : TyId) (m n : HashMap ℕ TyId (BuildHasherDefault FoldHasher)) → AreFirsts ds m → is_some (get nat_eq m x) ≡ false
    → ((q : ℕ) → get nat_eq n q ≡ cond (nat_eq x q) (Some t) (get nat_eq m q)) → AreFirsts (ds ++ (x, t) ∷ []) n
first_of_new ds x t m n a none put =
    let at_x : first_ty ds x ≡ None = sym (a.found x) ∙ absent (get nat_eq m x) none in
    record {
      found = λ q.
          put q ∙ ap (cond (nat_eq x q) (Some t)) (a.found q)
          ∙ sym (first-append ds x t q ∙ new-at (nat_eq x q) (first_ty ds q) t (λ e. ap (first_ty ds) (sym (eqb-true x q e)) ∙ at_x));
    }

-- a local that is declared keeps its type
pub first_of_old : (ds : List (ℕ × TyId)) (x : ℕ) (t : TyId) (m : HashMap ℕ TyId (BuildHasherDefault FoldHasher)) → AreFirsts ds m → is_some (get nat_eq m x) ≡ true
    → AreFirsts (ds ++ (x, t) ∷ []) m
first_of_old ds x t m a stands =
    let at_x : is_some (first_ty ds x) ≡ true = ap is_some (sym (a.found x)) ∙ stands in
    record {
      found = λ q.
          a.found q
          ∙ sym (first-append ds x t q ∙ old-at (nat_eq x q) (first_ty ds q) t (λ e. ap (λ y. is_some (first_ty ds y)) (sym (eqb-true x q e)) ∙ at_x));
    }
