-- The slots of a new frame on both sides.
use Rattle.std.proofs.Common.{◌≡◌, refl, ap, subst, ℕ, zero, suc, List, [], ◌∷◌, ◌++◌, length, drop, Some, slice_get, arith}
use Rattle.mir_syntax.specs.Tree.{Tree}
use Rattle.mir_syntax.specs.Shapes.{Shape}
use Rattle.mir_semantics.specs.Values.{Value}
use Rattle.mir_renaming.specs.Renaming.{Renaming, ValueRel, SomeRel}
use Rattle.mir_renaming.proofs.Statements.{blank_rel, ValuesRel}
use Rattle.mir_semantics.specs.Step.{blanks, first_of, new_slots}

append_rel : (j : Renaming) (a b c d : List Value) → ValuesRel j a b → ValuesRel j c d → ValuesRel j (a ++ c) (b ++ d)
append_rel j [] [] c d h k = k
append_rel j (v ∷ a) (w ∷ b) c d h k = (h.0, append_rel j a b c d h.1 k)
append_rel j [] (w ∷ b) c d h k = absurd h
append_rel j (v ∷ a) [] c d h k = absurd h

blanks_self : (j : Renaming) (D : List Shape) (ts : List Tree) → ValuesRel j (blanks D ts) (blanks D ts)
blanks_self j D [] = tt
blanks_self j D (t ∷ ts) = (blank_rel j D t, blanks_self j D ts)

pub same_length : (j : Renaming) (vs ws : List Value) → ValuesRel j vs ws → length vs ≡ length ws
same_length j [] [] h = refl
same_length j (v ∷ vs) (w ∷ ws) h = ap suc (same_length j vs ws h.1)
same_length j [] (w ∷ ws) h = absurd h
same_length j (v ∷ vs) [] h = absurd h

pub slots_rel : (j : Renaming) (D : List Shape) (ts : List Tree) (vs ws : List Value) → ValuesRel j vs ws → ValuesRel j (new_slots D ts vs) (new_slots D ts ws)
unfolding new_slots
slots_rel j D ts vs ws h = append_rel j (blanks D (first_of ts)) (blanks D (first_of ts)) _ _ (blanks_self j D (first_of ts)) (append_rel j vs ws _ _ h (subst (λ n. ValuesRel j (blanks D (drop (suc (length vs)) ts)) (blanks D (drop (suc n) ts))) (same_length j vs ws h) (blanks_self j D (drop (suc (length vs)) ts))))

pub value_in : (j : Renaming) (vs ws : List Value) (x : ℕ) (v : Value) → ValuesRel j vs ws → slice_get vs x ≡ Some v → SomeRel j v (slice_get ws x)
value_in j (v' ∷ vs) (w ∷ ws) zero v h e = (w, refl, subst (λ y. ValueRel j y w) (let k : v' ≡ v = grind arith in k) h.0)
value_in j (v' ∷ vs) (w ∷ ws) (suc x) v h e = value_in j vs ws x v h.1 e
value_in j [] ws x v h e = absurd (grind arith)
value_in j (v' ∷ vs) [] x v h e = absurd h
