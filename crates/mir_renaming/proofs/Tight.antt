-- Lists of values of two memories that have holes where the other side has them, and such values of a new frame.
use Rattle.std.proofs.Common.{◌≡◌, refl, ap, subst, ℕ, zero, suc, List, [], ◌∷◌, ◌++◌, length, drop, Some, slice_get, arith, Bool, true, false, if◌then◌else◌, Option, None}
use Rattle.mir_syntax.specs.Tree.{Tree}
use Rattle.mir_syntax.specs.Shapes.{Shape}
use Rattle.mir_semantics.specs.Values.{Value, blank, variant, listed}
use Rattle.mir_semantics.specs.Step.{blanks, first_of, new_slots, built_by}
use Rattle.mir_renaming.proofs.Agree.{Tight, tight_self}

abbrev pub Tights : List Value → List Value → Type 0
Tights [] [] = Unit {0}
Tights (v ∷ vs) (w ∷ ws) = Tight v w × Tights vs ws
Tights _ _ = ⊥

pub listed_tight : (vs ws : List Value) → Tights vs ws → Tight (listed vs) (listed ws)
listed_tight [] [] h = tt
listed_tight (v ∷ vs) (w ∷ ws) h = (h.0, listed_tight vs ws h.1)
listed_tight [] (w ∷ ws) h = absurd h
listed_tight (v ∷ vs) [] h = absurd h

pub built_tight : (k : ℕ) (o : Option Shape) (v w : Value) → Tight v w → Tight (built_by k v o) (built_by k w o)
built_tight k None v w h = refl
built_tight k (Some d) v w h = go d.is_enum
  where
    go : (b : Bool) → Tight (if b then variant k v else v) (if b then variant k w else w)
    go true = h
    go false = h

-- The starts of an entry are related.

pub tights_self : (vs : List Value) → Tights vs vs
tights_self [] = tt
tights_self (v ∷ vs) = (tight_self v, tights_self vs)

-- Steps of both sides keep the agreement of memories at the locals of the frames that may drop.

-- ---- values of a new frame

append_tight : (a b c d : List Value) → Tights a b → Tights c d → Tights (a ++ c) (b ++ d)
append_tight [] [] c d h k = k
append_tight (v ∷ a) (w ∷ b) c d h k = (h.0, append_tight a b c d h.1 k)
append_tight [] (w ∷ b) c d h k = absurd h
append_tight (v ∷ a) [] c d h k = absurd h

blanks_tight : (D : List Shape) (ts : List Tree) → Tights (blanks D ts) (blanks D ts)
blanks_tight D [] = tt
blanks_tight D (t ∷ ts) = (tight_self (blank D t), blanks_tight D ts)

tight_length : (vs ws : List Value) → Tights vs ws → length vs ≡ length ws
tight_length [] [] h = refl
tight_length (v ∷ vs) (w ∷ ws) h = ap suc (tight_length vs ws h.1)
tight_length [] (w ∷ ws) h = absurd h
tight_length (v ∷ vs) [] h = absurd h

pub slots_tight : (D : List Shape) (ts : List Tree) (vs ws : List Value) → Tights vs ws → Tights (new_slots D ts vs) (new_slots D ts ws)
unfolding new_slots
slots_tight D ts vs ws h = append_tight (blanks D (first_of ts)) (blanks D (first_of ts)) _ _ (blanks_tight D (first_of ts)) (append_tight vs ws _ _ h (subst (λ n. Tights (blanks D (drop (suc (length vs)) ts)) (blanks D (drop (suc n) ts))) (tight_length vs ws h) (blanks_tight D (drop (suc (length vs)) ts))))

pub tight_in : (vs ws : List Value) (x : ℕ) (v w : Value) → Tights vs ws → slice_get vs x ≡ Some v → slice_get ws x ≡ Some w → Tight v w
tight_in (v' ∷ vs) (w' ∷ ws) zero v w h e g = subst (λ y. Tight y w) (let k : v' ≡ v = grind arith in k) (subst (λ y. Tight v' y) (let k : w' ≡ w = grind arith in k) h.0)
tight_in (v' ∷ vs) (w' ∷ ws) (suc x) v w h e g = tight_in vs ws x v w h.1 e g
tight_in [] ws x v w h e g = absurd (grind arith)
tight_in (v' ∷ vs) [] x v w h e g = absurd h
