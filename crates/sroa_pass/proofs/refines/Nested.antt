-- A value that is written field by field is written as a whole, and plain places stay where they are meanwhile.
use Rattle.std.proofs.Common.{◌≡◌, refl, sym, ap, ◌∙◌, ℕ, zero, suc, Bool, true, false, nat_eq, if◌then◌else◌, List, [], ◌∷◌, ◌++◌, Option, Some, None, option_map, arith}
use Rattle.mir_syntax.specs.declared.body.Proj.{Proj}
use Rattle.mir_syntax.specs.declared.body.Proj.TheVariants.{Field, Downcast, Deref}
use Rattle.mir_semantics.specs.Values.{Addr, Value, number, nil, cons, variant, pointer, hole, part, payload, inner, at_path, change_part, change_inner, put}
use Rattle.mir_semantics.specs.Memory.{Memory, value_at, write, further, there, project, walk}
use Rattle.mir_syntax.specs.Parts.{has_deref}
use Rattle.mir_syntax.proofs.Binds.{bind_some, some_bind}
use Rattle.mir_renaming.proofs.Memory.{write_same}
use Rattle.mir_syntax.proofs.Bools.{if_true, if_false}
use Rattle.mir_renaming.proofs.Walks.{walk_plain}

val : {A : Type 0} {x y : A} → Some x ≡ Some y → x ≡ y
val e = grind arith

no_hit : (i : ℕ) (v u : Value) → (part i v ≡ Some u → ⊥) → part i v ≡ Some u → ⊥
no_hit i v u f e = f e

-- a part that is changed, and changed again
part_changed : (i : ℕ) (g : Value → Value) (v u : Value) → part i v ≡ Some u → part i (change_part i g v) ≡ Some (g u)
part_changed zero g (cons v vs) u e = ap (λ v. Some (g v)) (val e)
part_changed (suc i) g (cons v vs) u e = part_changed i g vs u e
part_changed zero g v u e = absurd (grind arith)
part_changed (suc i) g v u e = absurd (grind arith)

part_twice : (i : ℕ) (g h k : Value → Value) (v u : Value) → part i v ≡ Some u → h (g u) ≡ k u → change_part i h (change_part i g v) ≡ change_part i k v
part_twice zero g h k (cons v vs) u e q = ap (λ x. cons x vs) (ap (λ v. h (g v)) (val e) ∙ q ∙ ap k (sym (val e)))
part_twice (suc i) g h k (cons v vs) u e q = ap (cons v) (part_twice i g h k vs u e q)
part_twice zero g h k v u e q = absurd (grind arith)
part_twice (suc i) g h k v u e q = absurd (grind arith)

payload_hit : (k n : ℕ) (v u : Value) → payload k (variant n v) ≡ Some u → (nat_eq n k ≡ true) × (v ≡ u)
payload_hit k n v u e = go (nat_eq n k) refl
  where
    go : (b : Bool) → nat_eq n k ≡ b → (nat_eq n k ≡ true) × (v ≡ u)
    go true q = (q, val (sym (if_true (Some v) None q) ∙ e))
    go false q = absurd (let z : ◌≡◌ {A = Option Value} None (Some u) = sym (if_false (Some v) None q) ∙ e in grind arith)

inner_changed : (p : Proj) (g : Value → Value) (v u : Value) → inner p v ≡ Some u → inner p (change_inner p g v) ≡ Some (g u)
inner_changed (Field i) g v u e = part_changed i g v u e
inner_changed (Downcast k) g (variant n v) u e =
    let (q, same) = payload_hit k n v u e in
    if_true (Some (if nat_eq n k then g v else v)) None q ∙ ap (λ x. Some x) (if_true (g v) v q) ∙ ap (λ v. Some (g v)) same
inner_changed (Downcast k) g v u e = absurd (grind arith)
inner_changed Deref g v u e = absurd (grind arith)

inner_twice : (p : Proj) (g h k : Value → Value) (v u : Value) → inner p v ≡ Some u → h (g u) ≡ k u → change_inner p h (change_inner p g v) ≡ change_inner p k v
inner_twice (Field i) g h k v u e q = part_twice i g h k v u e q
inner_twice (Downcast n) g h k (variant m v) u e q =
    let (b, same) = payload_hit n m v u e in
    ap (variant m) (if_true (h (if nat_eq m n then g v else v)) (if nat_eq m n then g v else v) b ∙ ap h (if_true (g v) v b) ∙ ap (λ v. h (g v)) same ∙ q ∙ ap k (sym same) ∙ sym (if_true (k v) v b))
inner_twice (Downcast n) g h k v u e q = absurd (grind arith)
inner_twice Deref g h k v u e q = absurd (grind arith)

-- a value above what is written
pub at_put : (ps qs : List Proj) (w v u : Value) → at_path ps v ≡ Some u → at_path ps (put (ps ++ qs) w v) ≡ Some (put qs w u)
at_put [] qs w v u e = ap (λ v. Some (put qs w v)) (val e)
at_put (p ∷ ps) qs w v u e = let (x, e1, e2) = bind_some e in some_bind _ (inner_changed p (put (ps ++ qs) w) v x e1) (at_put ps qs w x u e2)

-- what was written inside is written over
pub put_put : (ps qs : List Proj) (w z v u : Value) → at_path ps v ≡ Some u → put ps z (put (ps ++ qs) w v) ≡ put ps z v
put_put [] qs w z v u e = refl
put_put (p ∷ ps) qs w z v u e = let (x, e1, e2) = bind_some e in inner_twice p (put (ps ++ qs) w) (put ps z) (put ps z) v x e1 (put_put ps qs w z x u e2)

-- the fields of a list, one by one
abbrev pub fill : ℕ → Value → Value → Value
fill i (cons w ws) o = fill (suc i) ws (change_part i (λ x. w) o)
fill i v o = o

fill_behind : (ws : Value) (i : ℕ) (o os : Value) → fill (suc i) ws (cons o os) ≡ cons o (fill i ws os)
fill_behind (cons w ws) i o os = fill_behind ws (suc i) o (change_part i (λ x. w) os)
fill_behind nil i o os = refl
fill_behind (number n) i o os = refl
fill_behind (variant k v) i o os = refl
fill_behind (pointer a) i o os = refl
fill_behind hole i o os = refl

-- lists of one length
abbrev pub Alongside : Value → Value → Type 0
Alongside nil nil = Unit {0}
Alongside (cons v vs) (cons w ws) = Alongside vs ws
Alongside v w = ⊥

pub fill_all : (v o : Value) → Alongside v o → fill 0 v o ≡ v
fill_all nil nil h = refl
fill_all (cons v vs) (cons o os) h = fill_behind vs 0 v os ∙ ap (cons v) (fill_all vs os h)
fill_all v o h = absurd h

-- written at a place, field by field
abbrev pub puts : List Proj → ℕ → Value → Value → Value
puts ps i (cons w ws) o = puts ps (suc i) ws (put (ps ++ Field i ∷ []) w o)
puts ps i v o = o

put_field : (i : ℕ) (w u : Value) → put (Field i ∷ []) w u ≡ change_part i (λ x. w) u
put_field i w u = refl

put_at : (ps : List Proj) (v u : Value) → at_path ps v ≡ Some u → put ps u v ≡ v
put_at [] v u e = sym (val e)
put_at (p ∷ ps) v u e = let (x, e1, e2) = bind_some e in same p (put ps u) v x e1 (put_at ps x u e2)
  where
    same_part : (i : ℕ) (g : Value → Value) (v x : Value) → part i v ≡ Some x → g x ≡ x → change_part i g v ≡ v
    same_part zero g (cons v vs) x e q = ap (λ y. cons y vs) (ap g (val e) ∙ q ∙ sym (val e))
    same_part (suc i) g (cons v vs) x e q = ap (cons v) (same_part i g vs x e q)
    same_part zero g v x e q = absurd (grind arith)
    same_part (suc i) g v x e q = absurd (grind arith)

    same : (p : Proj) (g : Value → Value) (v x : Value) → inner p v ≡ Some x → g x ≡ x → change_inner p g v ≡ v
    same (Field i) g v x e q = same_part i g v x e q
    same (Downcast k) g (variant n v) x e q = let (b, s) = payload_hit k n v x e in ap (variant n) (if_true (g v) v b ∙ ap g s ∙ q ∙ sym s)
    same (Downcast k) g v x e q = absurd (grind arith)
    same Deref g v x e q = absurd (grind arith)

pub puts_fill : (ws : Value) (ps : List Proj) (i : ℕ) (o u : Value) → at_path ps o ≡ Some u → puts ps i ws o ≡ put ps (fill i ws u) o
puts_fill (cons w ws) ps i o u e = puts_fill ws ps (suc i) (put (ps ++ Field i ∷ []) w o) (change_part i (λ x. w) u) (at_put ps (Field i ∷ []) w o u e) ∙ put_put ps (Field i ∷ []) w (fill (suc i) ws (change_part i (λ x. w) u)) o u e
puts_fill nil ps i o u e = sym (put_at ps o u e)
puts_fill (number n) ps i o u e = sym (put_at ps o u e)
puts_fill (variant k v) ps i o u e = sym (put_at ps o u e)
puts_fill (pointer a) ps i o u e = sym (put_at ps o u e)
puts_fill hole ps i o u e = sym (put_at ps o u e)

-- so a whole value is
pub puts_all : (ps : List Proj) (v o u : Value) → at_path ps o ≡ Some u → Alongside v u → puts ps 0 v o ≡ put ps v o
puts_all ps v o u e h = puts_fill v ps 0 o u e ∙ ap (λ z. put ps z o) (fill_all v u h)

-- a plain place stays, where values above it stay
there_still : (m m' : Memory) (a c : Addr) (v' : Value) → there (value_at m a) a ≡ Some c → value_at m' a ≡ Some v' → there (value_at m' a) a ≡ Some c
there_still m m' a c v' e g = go (value_at m a) e
  where
    go : (o : Option Value) → there o a ≡ Some c → there (value_at m' a) a ≡ Some c
    go None e = absurd (grind arith)
    go (Some v) e = ap (λ o. there o a) g ∙ e

abbrev pub Above : Addr → Addr → Type 0
Above c b = (rest : List Proj) × (c.frame ≡ b.frame) × (c.local ≡ b.local) × (c.path ++ rest ≡ b.path)

there_same : (o : Option Value) (a c : Addr) → there o a ≡ Some c → (v : Value) × (o ≡ Some v) × (a ≡ c)
there_same None a c e = absurd (grind arith)
there_same (Some v) a c e = (v, refl, val e)

pub walk_still : (ps : List Proj) (m m' : Memory) (a b : Addr) → has_deref ps ≡ false → walk m a ps ≡ Some b → ((c : Addr) → Above c b → (v : Value) → value_at m c ≡ Some v → (v' : Value) × (value_at m' c ≡ Some v')) → walk m' a ps ≡ Some b
unfolding walk project
walk_still [] m m' a b hd e st = e
walk_still (Field i ∷ ps) m m' a b hd e st =
    let (a', e1, e2) = bind_some e in
    let (v, ev, is) = there_same (value_at m (further a (Field i))) (further a (Field i)) a' e1 in
    let (f, l, q) = walk_plain ps m a' b hd e2 in
    let (v', ev') = st (further a (Field i)) (ps, ap (λ a. a.frame) is ∙ sym f, ap (λ a. a.local) is ∙ sym l, ap (λ (a : Addr). a.path ++ ps) is ∙ sym q) v ev in
    some_bind _ (ap (λ o. there o (further a (Field i))) ev' ∙ ap (λ a. Some a) is) (walk_still ps m m' a' b hd e2 st)
walk_still (Downcast i ∷ ps) m m' a b hd e st =
    let (a', e1, e2) = bind_some e in
    let (v, ev, is) = there_same (value_at m (further a (Downcast i))) (further a (Downcast i)) a' e1 in
    let (f, l, q) = walk_plain ps m a' b hd e2 in
    let (v', ev') = st (further a (Downcast i)) (ps, ap (λ a. a.frame) is ∙ sym f, ap (λ a. a.local) is ∙ sym l, ap (λ (a : Addr). a.path ++ ps) is ∙ sym q) v ev in
    some_bind _ (ap (λ o. there o (further a (Downcast i))) ev' ∙ ap (λ a. Some a) is) (walk_still ps m m' a' b hd e2 st)
walk_still (Deref ∷ ps) m m' a b hd e st = absurd (grind arith)

append_twice : (ps qs rs : List Proj) → (ps ++ qs) ++ rs ≡ ps ++ (qs ++ rs)
append_twice [] qs rs = refl
append_twice (p ∷ ps) qs rs = ap (λ x. p ∷ x) (append_twice ps qs rs)

-- a value above a field that is written
pub value_still : (m : Memory) (b c : Addr) (i : ℕ) (w v : Value) → Above c b → value_at m c ≡ Some v → (v' : Value) × (value_at (write m (further b (Field i)) w) c ≡ Some v')
unfolding value_at
value_still m b c i w v (rest, f, l, q) e =
    let (o, e1, e2) = bind_some e in
    let path : b.path ++ Field i ∷ [] ≡ c.path ++ (rest ++ Field i ∷ []) = ap (λ ps. ps ++ Field i ∷ []) (sym q) ∙ append_twice c.path rest (Field i ∷ []) in
    (put (rest ++ Field i ∷ []) w v, some_bind _ (write_same m (further b (Field i)) w c.frame c.local (f, l) ∙ ap (option_map (put (b.path ++ Field i ∷ []) w)) e1) (ap (λ ps. at_path c.path (put ps w o)) path ∙ at_put c.path (rest ++ Field i ∷ []) w o v e2))
