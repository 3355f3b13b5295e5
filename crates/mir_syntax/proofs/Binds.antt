-- Steps one after another, each of which may give nothing.
use Rattle.std.proofs.Common.{◌≡◌, Option, Some, None, refl, sym, ap, subst, arith}
use Rattle.mir_syntax.specs.Shapes.{◌>>=◌}

pub bind_bind : {A B C : Type 0} (o : Option A) (f : A → Option B) (g : B → Option C) → ((o >>= f) >>= g) ≡ (o >>= λ x. f x >>= g)
unfolding ◌>>=◌
bind_bind None f g = refl
bind_bind (Some x) f g = refl

pub bind_back : {A : Type 0} (o : Option A) → (o >>= λ x. Some x) ≡ o
unfolding ◌>>=◌
bind_back None = refl
bind_back (Some x) = refl

-- ---- what is there goes on

pub bind_some : {A B : Type 0} {o : Option A} {f : A → Option B} {y : B} → (o >>= f) ≡ Some y → (x : A) × (o ≡ Some x) × (f x ≡ Some y)
unfolding ◌>>=◌
bind_some {o = None} e = absurd (grind arith)
bind_some {o = Some x} e = (x, refl, e)

pub some_bind : {A B : Type 0} (f : A → Option B) {o : Option A} {x : A} {y : Option B} → o ≡ Some x → f x ≡ y → (o >>= f) ≡ y
unfolding ◌>>=◌
some_bind f {y = y} e h = subst (λ o. (o >>= f) ≡ y) (sym e) h

pub bind_at : {A B : Type 0} (o : Option A) (x : A) (k : A → Option B) → o ≡ Some x → (o >>= k) ≡ k x
unfolding ◌>>=◌
bind_at o x k e = ap (λ p. p >>= k) e

-- ---- what isn't there ends

pub bind_gone : {A B : Type 0} (o : Option A) (k : A → Option B) → o ≡ None → (o >>= k) ≡ None
unfolding ◌>>=◌
bind_gone o k e = ap (λ p. p >>= k) e

pub bind_dead : {A B : Type 0} (o : Option A) (k : A → Option B) → ((x : A) → k x ≡ None) → (o >>= k) ≡ None
unfolding ◌>>=◌
bind_dead None k h = refl
bind_dead (Some x) k h = h x
