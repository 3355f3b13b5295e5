-- A crate with other bodies: what stands in it, and one more body that is replaced.
use Rattle.std.proofs.Common.{◌≡◌, refl, sym, ap, ap₂, ◌∙◌, ℕ, zero, suc, ◌+◌, ◌<◌, ◌≤◌, List, [], ◌∷◌, length, set, Some, slice_get, arith}
use Rattle.std.proofs.lemmas.Option.{slice_get_within}
use Rattle.mir_syntax.specs.Crate.{TypedBody, TypedFunction, Crate}
use Rattle.mir_rules.specs.Valid.{with_body, at_function}
use Rattle.mir_rules.proofs.Terminators.{slice_get_there}
use Rattle.sched_core.specs.State.{upd}
use Rattle.sched_core.proofs.Upd.{upd_same, upd_other}
use Rattle.pass_order.specs.Bodies.{body_or_none, body_at, bodied, with_bodies}

abbrev pub Bodies : Type 0
Bodies = ℕ → TypedBody

bodied_same : (bs cs : Bodies) (i : ℕ) (gs : List TypedFunction) → ((f : ℕ) → i ≤ f → f < i + length gs → bs f ≡ cs f) → bodied bs i gs ≡ bodied cs i gs
bodied_same bs cs i [] h = refl
bodied_same bs cs i (g ∷ gs) h = ap₂ (λ b hs. with_body g b ∷ hs) (h i (omega arith) (omega arith)) (bodied_same bs cs (suc i) gs (λ f a b. h f (omega (arith, a)) (omega (arith, b))))

-- only the bodies of its functions matter
pub same_bodies : (C : Crate) (bs cs : Bodies) → ((f : ℕ) → f < length C.functions → bs f ≡ cs f) → with_bodies C bs ≡ with_bodies C cs
unfolding with_bodies
same_bodies C bs cs h = ap (λ gs. let K : Crate = record C { functions = gs } in K) (bodied_same bs cs 0 C.functions (λ f a b. h f (omega (arith, b))))

bodied_long : (bs : Bodies) (i : ℕ) (gs : List TypedFunction) → length (bodied bs i gs) ≡ length gs
bodied_long bs i [] = refl
bodied_long bs i (g ∷ gs) = ap suc (bodied_long bs (suc i) gs)

pub as_many : (C : Crate) (bs : Bodies) → length (with_bodies C bs).functions ≡ length C.functions
unfolding with_bodies
as_many C bs = bodied_long bs 0 C.functions

bodied_there : (bs : Bodies) (i f : ℕ) (gs : List TypedFunction) (g : TypedFunction) → slice_get gs f ≡ Some g → slice_get (bodied bs i gs) f ≡ Some (with_body g (bs (i + f)))
bodied_there bs i f [] g e = absurd (grind arith)
bodied_there bs i zero (x ∷ gs) g e = ap₂ (λ (y : TypedFunction) (j : ℕ). Some (with_body y (bs j))) (let z : x ≡ g = grind arith in z) (let z : i ≡ i + 0 = omega arith in z)
bodied_there bs i (suc f) (x ∷ gs) g e = bodied_there bs (suc i) f gs g e ∙ ap (λ (j : ℕ). Some (with_body g (bs j))) (let z : suc i + f ≡ i + suc f = omega arith in z)

-- the function with its other body
pub stands_there : (C : Crate) (bs : Bodies) (f : ℕ) (g : TypedFunction) → slice_get C.functions f ≡ Some g → slice_get (with_bodies C bs).functions f ≡ Some (with_body g (bs f))
unfolding with_bodies
stands_there C bs f g e = bodied_there bs 0 f C.functions g e ∙ ap (λ (j : ℕ). Some (with_body g (bs j))) (let z : 0 + f ≡ f = omega arith in z)

-- where a function stands, it does so with its other body
pub comes_from : (C : Crate) (bs : Bodies) (f : ℕ) (n : TypedFunction) → slice_get (with_bodies C bs).functions f ≡ Some n → (f < length C.functions) × (n.body ≡ bs f)
comes_from C bs f n e =
    let l = slice_get_within (with_bodies C bs).functions f n e in
    let low : f < length C.functions = omega (arith, l, as_many C bs) in
    let (g, at) = slice_get_there C.functions f low in
    let same : Some (with_body g (bs f)) ≡ Some n = sym (stands_there C bs f g at) ∙ e in
    (low, ap (λ (n : TypedFunction). n.body) (let z : n ≡ with_body g (bs f) = grind arith in z))

bodied_own : (i : ℕ) (gs : List TypedFunction) (bs : Bodies) → ((f : ℕ) (g : TypedFunction) → slice_get gs f ≡ Some g → bs (i + f) ≡ g.body) → bodied bs i gs ≡ gs
bodied_own i [] bs h = refl
bodied_own i (g ∷ gs) bs h =
    ap₂ (λ b hs. with_body g b ∷ hs) (ap bs (let z : i ≡ i + 0 = omega arith in z) ∙ h 0 g refl)
    (bodied_own (suc i) gs bs (λ f n e. ap bs (let z : suc i + f ≡ i + suc f = omega arith in z) ∙ h (suc f) n e))

pub own_body : (C : Crate) (f : ℕ) (g : TypedFunction) → slice_get C.functions f ≡ Some g → body_at C f ≡ g.body
own_body C f g e = ap body_or_none e

-- with its own bodies it is itself
pub own_bodies : (C : Crate) → with_bodies C (body_at C) ≡ C
unfolding with_bodies
own_bodies C = ap (λ gs. let K : Crate = record C { functions = gs } in K) (bodied_own 0 C.functions (body_at C) (λ f g e. ap (body_at C) (let z : 0 + f ≡ f = omega arith in z) ∙ own_body C f g e))

set_bodied : (bs : Bodies) (i f : ℕ) (b : TypedBody) (gs : List TypedFunction) (g : TypedFunction) → slice_get gs f ≡ Some g → set (bodied bs i gs) f (with_body g b) ≡ bodied (upd bs (i + f) b) i gs
set_bodied bs i f b [] g e = absurd (grind arith)
set_bodied bs i zero b (x ∷ gs) g e =
    let same : g ≡ x = grind arith in
    let here : b ≡ upd bs (i + 0) b i = sym (ap (upd bs (i + 0) b) (let z : i ≡ i + 0 = omega arith in z) ∙ upd_same bs (i + 0) b) in
    let head : with_body g b ≡ with_body x (upd bs (i + 0) b i) = ap₂ with_body same here in
    ap₂ (λ (y : TypedFunction) (hs : List TypedFunction). y ∷ hs) head (bodied_same bs (upd bs (i + 0) b) (suc i) gs (λ f a l. sym (upd_other bs (i + 0) b f (λ z. omega (arith, a, z)))))
set_bodied bs i (suc f) b (x ∷ gs) g e =
    let there : bs i ≡ upd bs (i + suc f) b i = sym (upd_other bs (i + suc f) b i (λ z. omega (arith, z))) in
    ap₂ (λ (c : TypedBody) (hs : List TypedFunction). with_body x c ∷ hs) there
    (set_bodied bs (suc i) f b gs g e ∙ ap (λ (k : ℕ). bodied (upd bs k b) (suc i) gs) (let z : suc i + f ≡ i + suc f = omega arith in z))

-- one body more that is replaced
pub one_replaced : (C : Crate) (bs : Bodies) (f : ℕ) (g : TypedFunction) (b : TypedBody) → slice_get C.functions f ≡ Some g → at_function (with_bodies C bs) f (with_body g (bs f)) b ≡ with_bodies C (upd bs f b)
unfolding with_bodies
one_replaced C bs f g b e =
    ap (λ gs. let K : Crate = record C { functions = gs } in K)
    (set_bodied bs 0 f b C.functions g e ∙ ap (λ (k : ℕ). bodied (upd bs k b) 0 C.functions) (let z : 0 + f ≡ f = omega arith in z))
