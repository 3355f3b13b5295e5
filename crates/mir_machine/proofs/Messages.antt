-- The integers of a message's operands.
use Rattle.std.proofs.Common.{◌≡◌, ℕ, ◌+◌, ◌<◌, ◌≤◌, List, [], ◌∷◌, ◌++◌, length, drop, get_or, Option, Some, None, refl, sym, ap, ◌∙◌, append_assoc, ℤ}
use Rattle.std.proofs.lemmas.List.{append-nil, drop_all}
use Rattle.mir_syntax.specs.declared.types.ScalarTy.{ScalarTy}
use Rattle.mir_syntax.specs.declared.body.Operand.{Operand}
use Rattle.mir_syntax.specs.Shapes.{◌>>=◌}
use Rattle.mir_num.specs.Numbers.{integer_of}
use Rattle.mir_semantics.specs.Memory.{Memory}
use Rattle.mir_semantics.specs.Step.{Here, scalar_ty_of, read_number, integers}
use Rattle.mir_meaning.proofs.Operands.{drop_next}
use Rattle.mir_syntax.proofs.Binds.{bind_at, bind_gone}

-- what is left of them, after the integers so far
abbrev pub then_integers : List ℤ → Option (List ℤ × Memory) → Option (List ℤ × Memory)
then_integers zs o = o >>= λ rs. Some (zs ++ rs.0, rs.1)

pub all_integers : (h : Here) (m : Memory) (os : List Operand) (zs : List ℤ) → zs ≡ [] → integers h m os ≡ then_integers zs (integers h m os)
unfolding ◌>>=◌
all_integers h m os zs e = go (integers h m os) ∙ ap (λ l. then_integers l (integers h m os)) (sym e)
  where
    go : (o : Option (List ℤ × Memory)) → o ≡ then_integers [] o
    go None = refl
    go (Some r) = refl

next_untyped : (h : Here) (m : Memory) (o : Operand) (os : List Operand) → scalar_ty_of h o ≡ None → integers h m (o ∷ os) ≡ None
unfolding integers
next_untyped h m o os e = bind_gone _ _ e

next_gone : (h : Here) (m : Memory) (o : Operand) (os : List Operand) (t : ScalarTy) → scalar_ty_of h o ≡ Some t → read_number h m o ≡ None → integers h m (o ∷ os) ≡ None
unfolding integers
next_gone h m o os t e f = bind_at _ t _ e ∙ bind_gone _ _ f

next_read : (h : Here) (m m' : Memory) (o : Operand) (os : List Operand) (t : ScalarTy) (n : ℕ) (zs : List ℤ) → scalar_ty_of h o ≡ Some t → read_number h m o ≡ Some (n, m') → then_integers zs (integers h m (o ∷ os)) ≡ then_integers (zs ++ integer_of t n ∷ []) (integers h m' os)
unfolding integers ◌>>=◌
next_read h m m' o os t n zs e f = rw (e, f) (go (integers h m' os))
  where
    go : (x : Option (List ℤ × Memory)) → then_integers zs (x >>= λ rs. Some (integer_of t n ∷ rs.0, rs.1)) ≡ then_integers (zs ++ integer_of t n ∷ []) x
    go None = refl
    go (Some r) = ap (λ l. Some (l, r.1)) (sym (append_assoc zs (integer_of t n ∷ []) r.0))

pub left_untyped : (h : Here) (m : Memory) (os : List Operand) (i : ℕ) (o : Operand) (zs : List ℤ) → i < length os → o ≡ get_or os i o → None ≡ scalar_ty_of h o → then_integers zs (integers h m (drop i os)) ≡ None
left_untyped h m os i o zs l e r = bind_gone _ _ (ap (integers h m) (drop_next os i o l e) ∙ next_untyped h m o (drop (i + 1) os) (sym r))

pub left_gone : (h : Here) (m : Memory) (os : List Operand) (i : ℕ) (o : Operand) (t : ScalarTy) (zs : List ℤ) → i < length os → o ≡ get_or os i o → Some t ≡ scalar_ty_of h o → read_number h m o ≡ None → then_integers zs (integers h m (drop i os)) ≡ None
left_gone h m os i o t zs l e r f = bind_gone _ _ (ap (integers h m) (drop_next os i o l e) ∙ next_gone h m o (drop (i + 1) os) t (sym r) f)

pub left_read : (h : Here) (m m' : Memory) (os : List Operand) (i : ℕ) (o : Operand) (t : ScalarTy) (zs new : List ℤ) (n : ℕ) → i < length os → o ≡ get_or os i o → Some t ≡ scalar_ty_of h o → read_number h m o ≡ Some (n, m') → new ≡ zs ++ integer_of t n ∷ []
    → then_integers zs (integers h m (drop i os)) ≡ then_integers new (integers h m' (drop (i + 1) os))
left_read h m m' os i o t zs new n l e r f g =
    ap (λ l. then_integers zs (integers h m l)) (drop_next os i o l e) ∙ (next_read h m m' o (drop (i + 1) os) t n zs (sym r) f ∙ ap (λ l. then_integers l (integers h m' (drop (i + 1) os))) (sym g))

pub left_none : (h : Here) (m : Memory) (os : List Operand) (i : ℕ) (zs : List ℤ) → length os ≤ i → then_integers zs (integers h m (drop i os)) ≡ Some (zs, m)
unfolding integers ◌>>=◌
left_none h m os i zs l = ap (λ l. then_integers zs (integers h m l)) (drop_all i os l) ∙ ap (λ l. Some (l, m)) (append-nil zs)
