-- Steps one after another: what is there goes on, what isn't ends.
use Rattle.std.proofs.Common.{◌≡◌, Option, Some, None, refl, sym, ap, subst}
use Rattle.std.specs.Prelude.{Result, Ok, Err, IsErrAnd}
use Rattle.mir_syntax.specs.Shapes.{◌>>=◌}
use Rattle.mir_meaning.specs.declared.stop.Stop.{Stop}
use Rattle.mir_meaning.specs.declared.stop.Stop.TheVariants.{Undefined, OutOfMemory}
use Rattle.mir_meaning.specs.Gives.{Gives}

pub bind_later : {A B C : Type 0} (o : Option A) (f : A → Option B) (k : A → B → Option C) → (o >>= f) ≡ None → (o >>= λ a. f a >>= k a) ≡ None
unfolding ◌>>=◌
bind_later None f k h = refl
bind_later (Some a) f k h = ap (λ p. p >>= k a) h

-- what stops a part stops the whole, where the whole is undefined with the part
pub stopped : {A B C D : Type 0} (e : Stop) (r : Result A Stop) (s : Result C Stop) (part : Option B) (whole : Option D) (f : A → B) (g : C → D) → r ≡ Err e → IsErrAnd s (λ x. x ≡ e) → Gives r part f → (part ≡ None → whole ≡ None) → Gives s whole g
stopped e (Ok x) s part whole f g a b h go = absurd cc
stopped e r (Ok y) part whole f g a b h go = absurd b
stopped e (Err Undefined) (Err Undefined) part whole f g a b h go = go h
stopped e (Err Undefined) (Err OutOfMemory) part whole f g a b h go = tt
stopped e (Err OutOfMemory) (Err Undefined) part whole f g a b h go = absurd cc
stopped e (Err OutOfMemory) (Err OutOfMemory) part whole f g a b h go = tt

pub gives_same : {A B : Type 0} (r : Result A Stop) (o o' : Option B) (f : A → B) → o' ≡ o → Gives r o f → Gives r o' f
gives_same r o o' f e g = subst (λ x. Gives r x f) (sym e) g
