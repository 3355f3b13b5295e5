-- The order of what is known, its height, and that more known before gives more known of operands: proofs alone, of the law that `solve` asks for.
use Rattle.std.proofs.Common.{◌≡◌, ◌⊎◌, inl, inr, ⊎_elim, refl, sym, ap, ap₂, ◌∙◌, subst, ℕ, zero, suc, ◌+◌, ◌*◌, ◌≤◌, Bool, true, false, nat_eq, if◌then◌else◌, List, [], ◌∷◌, length, Option, Some, arith}
use Rattle.mir_syntax.specs.declared.body.Proj.{Proj}
use Rattle.mir_syntax.specs.declared.body.Place.{Place}
use Rattle.mir_syntax.specs.declared.body.Const.TheVariants as constant
use Rattle.mir_syntax.specs.declared.body.Operand.{Operand}
use Rattle.mir_syntax.specs.declared.body.Operand.TheVariants as operand
use Rattle.place_map.specs.Tracked.{way, beyond}
use Rattle.const_flow.specs.declared.cell.Cell.{Cell}
use Rattle.const_flow.specs.declared.cell.Cell.TheVariants.{Nothing, Num, Many}
use Rattle.const_flow.specs.Facts.{Facts, join, is_end, look, part_known, known, nth_known, outcome, one, both}
use Rattle.const_flow.specs.ConstAt.{join_each}
use Rattle.const_flow.specs.Order.{BelowCell, BelowFacts, weight, places, sum}
use Rattle.const_flow.specs.Same.{same_or_not}

some_one : {A : Type 0} {x y : A} → Some x ≡ Some y → x ≡ y
some_one e = grind arith

-- one fact
pub known_same : (k : Cell) → BelowCell k k
known_same Nothing = tt
known_same (Num n) = refl
known_same Many = tt

known_then : (a b c : Cell) → BelowCell a b → BelowCell b c → BelowCell a c
known_then Nothing b c h k = tt
known_then (Num a) Nothing c h k = absurd h
known_then (Num a) (Num b) Nothing h k = absurd k
known_then (Num a) (Num b) (Num c) h k = h ∙ k
known_then (Num a) (Num b) Many h k = tt
known_then (Num a) Many Nothing h k = absurd k
known_then (Num a) Many (Num c) h k = absurd k
known_then (Num a) Many Many h k = tt
known_then Many Nothing c h k = absurd h
known_then Many (Num b) c h k = absurd h
known_then Many Many c h k = k

pub to_many : (k : Cell) → BelowCell k Many
to_many Nothing = tt
to_many (Num n) = tt
to_many Many = tt

join_is : (a b : ℕ) → ((join (Num a) (Num b) ≡ Num a) × (a ≡ b)) ⊎ (join (Num a) (Num b) ≡ Many)
join_is a b = go (same_or_not a b)
  where
    go : ((nat_eq a b ≡ true) × (a ≡ b)) ⊎ ((nat_eq a b ≡ false) × (a ≡ b → ⊥)) → ((join (Num a) (Num b) ≡ Num a) × (a ≡ b)) ⊎ (join (Num a) (Num b) ≡ Many)
    go (inl h) = inl (ap (λ c. if c then Num a else Many) h.0, h.1)
    go (inr h) = inr (ap (λ c. if c then Num a else Many) h.0)

known_left : (a b : Cell) → BelowCell a (join a b)
known_left Nothing b = tt
known_left (Num a) Nothing = refl
known_left (Num a) (Num b) = ⊎_elim (λ h. subst (BelowCell (Num a)) (sym h.0) refl) (λ h. subst (BelowCell (Num a)) (sym h) tt) (join_is a b)
known_left (Num a) Many = tt
known_left Many b = tt

known_right : (a b : Cell) → BelowCell b (join a b)
known_right Nothing b = known_same b
known_right (Num a) Nothing = tt
known_right (Num a) (Num b) = ⊎_elim (λ h. subst (BelowCell (Num b)) (sym h.0) (sym h.1)) (λ h. subst (BelowCell (Num b)) (sym h) tt) (join_is a b)
known_right (Num a) Many = tt
known_right Many b = to_many b

clash : (a b : ℕ) → a ≡ b → join (Num a) (Num b) ≡ Many → ⊥
clash a b e q = go (same_or_not a b)
  where
    go : ((nat_eq a b ≡ true) × (a ≡ b)) ⊎ ((nat_eq a b ≡ false) × (a ≡ b → ⊥)) → ⊥
    go (inl h) = let z : Num a ≡ Many = sym (ap (λ c. if c then Num a else Many) h.0) ∙ q in grind arith
    go (inr h) = h.1 e

known_least : (a b c : Cell) → BelowCell a c → BelowCell b c → BelowCell (join a b) c
known_least Nothing b c h k = k
known_least (Num a) Nothing c h k = h
known_least (Num a) (Num b) Nothing h k = absurd h
known_least (Num a) (Num b) (Num c) h k = ⊎_elim (λ q. subst (λ z. BelowCell z (Num c)) (sym q.0) h) (λ q. absurd (differ q)) (join_is a b)
  where
    differ : join (Num a) (Num b) ≡ Many → ⊥
    differ q = let same : a ≡ b = h ∙ sym k in clash a b same q
known_least (Num a) (Num b) Many h k = to_many (join (Num a) (Num b))
known_least (Num a) Many c h k = k
known_least Many b c h k = h

weight_below : (a b : Cell) → BelowCell a b → weight a ≤ weight b
weight_below Nothing b h = omega arith
weight_below (Num a) (Num b) h = omega arith
weight_below (Num a) Many h = omega arith
weight_below Many Many h = omega arith
weight_below (Num a) Nothing h = absurd h
weight_below Many Nothing h = absurd h
weight_below Many (Num b) h = absurd h

weight_same : (a b : Cell) → BelowCell a b → weight a ≡ weight b → a ≡ b
weight_same Nothing Nothing h e = refl
weight_same Nothing (Num b) h e = absurd (grind arith)
weight_same Nothing Many h e = absurd (grind arith)
weight_same (Num a) (Num b) h e = ap Num h
weight_same (Num a) Many h e = absurd (grind arith)
weight_same Many Many h e = refl
weight_same (Num a) Nothing h e = absurd h
weight_same Many Nothing h e = absurd h
weight_same Many (Num b) h e = absurd h

weight_high : (a : Cell) → weight a ≤ 2
weight_high Nothing = omega arith
weight_high (Num n) = omega arith
weight_high Many = omega arith

-- lists of facts
pub facts_same : (fs : Facts) → BelowFacts fs fs
facts_same [] = tt
facts_same (e ∷ fs) = ((refl, known_same e.known), facts_same fs)

pub facts_then : (fs gs hs : Facts) → BelowFacts fs gs → BelowFacts gs hs → BelowFacts fs hs
facts_then [] [] [] h k = tt
facts_then (e ∷ fs) (d ∷ gs) (c ∷ hs) h k = ((h.0.0 ∙ k.0.0, known_then e.known d.known c.known h.0.1 k.0.1), facts_then fs gs hs h.1 k.1)
facts_then [] (d ∷ gs) hs h k = absurd h
facts_then (e ∷ fs) [] hs h k = absurd h
facts_then [] [] (c ∷ hs) h k = absurd k
facts_then (e ∷ fs) (d ∷ gs) [] h k = absurd k

pub sum_below : (fs gs : Facts) → BelowFacts fs gs → sum fs ≤ sum gs
sum_below [] [] h = omega arith
sum_below (e ∷ fs) (d ∷ gs) h = let a = weight_below e.known d.known h.0.1 in let b = sum_below fs gs h.1 in omega arith
sum_below [] (d ∷ gs) h = absurd h
sum_below (e ∷ fs) [] h = absurd h

pub sum_same : (fs gs : Facts) → BelowFacts fs gs → sum fs ≡ sum gs → fs ≡ gs
sum_same [] [] h q = refl
sum_same (e ∷ fs) (d ∷ gs) h q =
    let a = weight_below e.known d.known h.0.1 in
    let b = sum_below fs gs h.1 in
    ap₂ (λ z zs. z ∷ zs) (ap₂ (λ p k. record { place = p; known = k }) h.0.0 (weight_same e.known d.known h.0.1 (omega arith))) (sum_same fs gs h.1 (omega arith))
sum_same [] (d ∷ gs) h q = absurd h
sum_same (e ∷ fs) [] h q = absurd h

pub sum_high : (fs : Facts) → sum fs ≤ length (places fs) * 2
sum_high [] = omega arith
sum_high (e ∷ fs) =
    let a = weight_high e.known in
    let b = sum_high fs in
    let c : suc (length (places fs)) * 2 ≡ 2 + length (places fs) * 2 = grind arith in
    subst (λ n. weight e.known + sum fs ≤ n) (sym c) (omega arith)

head_same : {a b : Place} {arms bs : List Place} → a ∷ arms ≡ b ∷ bs → a ≡ b
head_same e = grind arith

tail_same : {a b : Place} {arms bs : List Place} → a ∷ arms ≡ b ∷ bs → arms ≡ bs
tail_same e = grind arith

pub facts_left : (fs gs : Facts) → places fs ≡ places gs → BelowFacts fs (join_each fs gs)
facts_left [] [] q = tt
facts_left (e ∷ fs) (d ∷ gs) q = ((refl, known_left e.known d.known), facts_left fs gs (tail_same q))
facts_left [] (d ∷ gs) q = absurd (grind arith)
facts_left (e ∷ fs) [] q = absurd (grind arith)

pub facts_right : (fs gs : Facts) → places fs ≡ places gs → BelowFacts gs (join_each fs gs)
facts_right [] [] q = tt
facts_right (e ∷ fs) (d ∷ gs) q = ((sym (head_same q), known_right e.known d.known), facts_right fs gs (tail_same q))
facts_right [] (d ∷ gs) q = absurd (grind arith)
facts_right (e ∷ fs) [] q = absurd (grind arith)

pub facts_least : (fs gs hs : Facts) → BelowFacts fs hs → BelowFacts gs hs → BelowFacts (join_each fs gs) hs
facts_least [] gs hs h k = h
facts_least (e ∷ fs) [] hs h k = h
facts_least (e ∷ fs) (d ∷ gs) (c ∷ hs) h k = ((h.0.0, known_least e.known d.known c.known h.0.1 k.0.1), facts_least fs gs hs h.1 k.1)
facts_least (e ∷ fs) (d ∷ gs) [] h k = absurd h

pub join_places : (fs gs : Facts) → places (join_each fs gs) ≡ places fs
join_places [] gs = refl
join_places (e ∷ fs) [] = refl
join_places (e ∷ fs) (d ∷ gs) = ap (λ ps. e.place ∷ ps) (join_places fs gs)

pub below_places : (fs gs : Facts) → BelowFacts fs gs → places fs ≡ places gs
below_places [] [] h = refl
below_places (e ∷ fs) (d ∷ gs) h = ap₂ (λ p ps. p ∷ ps) h.0.0 (below_places fs gs h.1)
below_places [] (d ∷ gs) h = absurd h
below_places (e ∷ fs) [] h = absurd h

-- more known gives more
pub look_below : (fs gs : Facts) (p : Place) → BelowFacts fs gs → BelowCell (look fs p) (look gs p)
unfolding look
look_below [] [] p h = tt
look_below (e ∷ fs) (d ∷ gs) p h = go (look_below fs gs p h.1) (is_end (way e.place p)) (is_end (way d.place p)) (ap (λ q. is_end (way q p)) h.0.0)
  where
    go : BelowCell (look fs p) (look gs p) → (a b : Bool) → a ≡ b → BelowCell (if a then e.known else look fs p) (if b then d.known else look gs p)
    go ih true true q = h.0.1
    go ih false false q = ih
    go ih true false q = absurd (grind arith)
    go ih false true q = absurd (grind arith)
look_below [] (d ∷ gs) p h = absurd h
look_below (e ∷ fs) [] p h = absurd h

pub part_below : (fs gs : Facts) (o : Operand) (r : List Proj) → BelowFacts fs gs → BelowCell (part_known fs o r) (part_known gs o r)
unfolding part_known
part_below fs gs (operand.Copy p) r h = look_below fs gs (beyond p r) h
part_below fs gs (operand.Move p) r h = look_below fs gs (beyond p r) h
part_below fs gs (operand.Const (constant.Int t n)) [] h = refl
part_below fs gs (operand.Const (constant.Bool b)) [] h = refl
part_below fs gs (operand.Const (constant.Int t n)) (p ∷ r) h = tt
part_below fs gs (operand.Const (constant.Bool b)) (p ∷ r) h = tt
part_below fs gs (operand.Const constant.Unit) r h = tt

pub known_below : (fs gs : Facts) (o : Operand) → BelowFacts fs gs → BelowCell (known fs o) (known gs o)
unfolding known
known_below fs gs o h = part_below fs gs o [] h

pub nth_below : (fs gs : Facts) (os : List Operand) (i : ℕ) (r : List Proj) → BelowFacts fs gs → BelowCell (nth_known fs os i r) (nth_known gs os i r)
unfolding nth_known
nth_below fs gs [] i r h = tt
nth_below fs gs (o ∷ os) zero r h = part_below fs gs o r h
nth_below fs gs (o ∷ os) (suc i) r h = nth_below fs gs os i r h

pub one_below : (g : ℕ → Option ℕ) (a b : Cell) → BelowCell a b → BelowCell (one g a) (one g b)
one_below g Nothing b h = tt
one_below g (Num a) (Num b) h = subst (λ b. BelowCell (outcome (g a)) (outcome (g b))) h (known_same (outcome (g a)))
one_below g (Num a) Many h = to_many (outcome (g a))
one_below g Many Many h = tt
one_below g (Num a) Nothing h = absurd h
one_below g Many Nothing h = absurd h
one_below g Many (Num b) h = absurd h

many_below : (g : ℕ → ℕ → Option ℕ) (a b : Cell) → BelowCell a b → BelowCell (both g Many a) (both g Many b)
many_below g Nothing b h = tt
many_below g (Num a) (Num b) h = tt
many_below g (Num a) Many h = tt
many_below g Many Many h = tt
many_below g (Num a) Nothing h = absurd h
many_below g Many Nothing h = absurd h
many_below g Many (Num b) h = absurd h

is_many : (g : ℕ → ℕ → Option ℕ) (n : ℕ) (k : Cell) → BelowCell (one (g n) k) (both g Many k)
is_many g n Nothing = tt
is_many g n (Num c) = to_many (outcome (g n c))
is_many g n Many = tt

pub both_below : (g : ℕ → ℕ → Option ℕ) (a b c d : Cell) → BelowCell a b → BelowCell c d → BelowCell (both g a c) (both g b d)
both_below g Nothing b c d h k = tt
both_below g (Num a) (Num b) c d h k = subst (λ b. BelowCell (one (g a) c) (one (g b) d)) h (one_below (g a) c d k)
both_below g (Num a) Many c d h k = known_then (one (g a) c) (both g Many c) (both g Many d) (is_many g a c) (many_below g c d k)
both_below g Many Many c d h k = many_below g c d k
both_below g (Num a) Nothing c d h k = absurd h
both_below g Many Nothing c d h k = absurd h
both_below g Many (Num b) c d h k = absurd h
