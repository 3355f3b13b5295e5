-- The fields of a place, read one by one.
use Rattle.std.proofs.Common.{◌≡◌, refl, sym, ap, ◌∙◌, subst, ℕ, suc, ◌+◌, Bool, true, false, ◌&&◌, List, [], ◌∷◌, ◌++◌, Option, Some, arith}
use Rattle.mir_syntax.specs.declared.body.Proj.{Proj}
use Rattle.mir_syntax.specs.declared.body.Proj.TheVariants.{Field}
use Rattle.mir_syntax.specs.declared.body.Place.{Place}
use Rattle.mir_syntax.specs.declared.body.Operand.{Operand}
use Rattle.mir_syntax.specs.declared.body.Operand.TheVariants as operand
use Rattle.mir_syntax.specs.Tree.{Tree, scalar, empty, more, ref, ref_mut, named}
use Rattle.mir_syntax.specs.Shapes.{Shape}
use Rattle.mir_semantics.specs.Values.{Addr, Value, number, nil, cons, variant, pointer, hole, listed, whole, part}
use Rattle.mir_semantics.specs.Memory.{Memory, value_at, further, there, project, walk}
use Rattle.mir_semantics.specs.Step.{Here, local_addr, resolve, read_at, read, read_all}
use Rattle.mir_syntax.proofs.Binds.{bind_some, some_bind}
use Rattle.mir_renaming.proofs.Statements.{true_only}
use Rattle.mir_renaming.proofs.Types.{TypeMap, HasTy, more_eq}
use Rattle.sroa_pass.proofs.Fields.{Rows}
use Rattle.mir_renaming.proofs.Walks.{value_at_further}

abbrev pub field_of : Place → ℕ → Place
field_of q i = record q { proj = q.proj ++ Field i ∷ [] }

abbrev pub field_copies : Place → ℕ → Tree → List Operand
field_copies q i (more t ts) = operand.Copy (field_of q i) ∷ field_copies q (suc i) ts
field_copies q i t = []

val : {A : Type 0} {x y : A} → Some x ≡ Some y → x ≡ y
val e = grind arith

walk_end : (ps : List Proj) (m : Memory) (a b c : Addr) (p : Proj) → walk m a ps ≡ Some b → project m b p ≡ Some c → walk m a (ps ++ p ∷ []) ≡ Some c
unfolding walk
walk_end [] m a b c p e f = some_bind _ (ap (λ a. project m a p) (val e) ∙ f) refl
walk_end (q ∷ ps) m a b c p e f = let (x, e1, e2) = bind_some e in some_bind _ e1 (walk_end ps m x b c p e2 f)

pub field_there : (h : Here) (m : Memory) (q : Place) (a : Addr) (v w : Value) (i : ℕ) → resolve h m q ≡ Some a → value_at m a ≡ Some v → part i v ≡ Some w → (resolve h m (field_of q i) ≡ Some (further a (Field i))) × (value_at m (further a (Field i)) ≡ Some w)
unfolding resolve project
field_there h m q a v w i er ev p = (walk_end q.proj m (local_addr h.frame q.local) a (further a (Field i)) (Field i) er (ap (λ o. there o (further a (Field i))) (value_at_further m a (Field i) v w ev p)), value_at_further m a (Field i) v w ev p)

pub field_read : (h : Here) (m : Memory) (q : Place) (a : Addr) (v w : Value) (i : ℕ) → resolve h m q ≡ Some a → value_at m a ≡ Some v → part i v ≡ Some w → whole w ≡ true → read h m (operand.Copy (field_of q i)) ≡ Some (w, m)
unfolding read read_at
field_read h m q a v w i er ev p wh =
    let (g1, g2) = field_there h m q a v w i er ev p in
    some_bind _ g1 (some_bind _ (some_bind _ g2 (true_only (whole w) w wh)) refl)

pub both_true : (a b : Bool) → (a && b) ≡ true → (a ≡ true) × (b ≡ true)
both_true true b e = (refl, e)
both_true false b e = absurd (grind arith)

module _ (D : List Shape) (G : TypeMap) (h : Here) (m : Memory) (q : Place) (a : Addr) (v : Value) (er : resolve h m q ≡ Some a) (ev : value_at m a ≡ Some v) where
  pub fields_copied : (i : ℕ) (us : Tree) (v' : Value) → whole v' ≡ true → HasTy D G us v' → Rows us → ((k : ℕ) (w : Value) → part k v' ≡ Some w → part (i + k) v ≡ Some w) → (vs : List Value) × (read_all h m (field_copies q i us) ≡ Some (vs, m)) × (listed vs ≡ v')
  unfolding read_all
  fields_copied i (more t ts) (cons w ws) wh (b, bs, e, hb, hbs) ro pk =
      let (w1, w2) = both_true (whole w) (whole ws) wh in
      let (_, same) = more_eq D G t ts b bs e in
      let here : part i v ≡ Some w = ap (λ n. part n v) (let z : i ≡ i + 0 = omega arith in z) ∙ pk 0 w refl in
      let (vs, g, l) = fields_copied (suc i) ts ws w2 (subst (λ y. HasTy D G y ws) (sym same) hbs) ro (λ k u e. ap (λ n. part n v) (let z : suc i + k ≡ i + suc k = omega arith in z) ∙ pk (suc k) u e) in
      (w ∷ vs, some_bind _ (field_read h m q a v w i er ev here w1) (some_bind _ g refl), ap (cons w) l)
  fields_copied i empty nil wh ty ro pk = ([], refl, refl)
  fields_copied i empty (cons w ws) wh (b, bs, e, hb, hbs) ro pk = absurd (let z : ◌≡◌ {A = Option Tree} (Some empty) (Some (more b bs)) = e in grind arith)
  fields_copied i empty (number n) wh ty ro pk = absurd (grind arith)
  fields_copied i empty (variant k x) wh (b, e, hb) ro pk = absurd (grind arith)
  fields_copied i empty (pointer x) wh (b, e, hb) ro pk = absurd (grind arith)
  fields_copied i empty hole wh ty ro pk = absurd (grind arith)
  fields_copied i (more t ts) nil wh ty ro pk = absurd (grind arith)
  fields_copied i (more t ts) (number n) wh ty ro pk = absurd (grind arith)
  fields_copied i (more t ts) (variant k x) wh (b, e, hb) ro pk = absurd (grind arith)
  fields_copied i (more t ts) (pointer x) wh (b, e, hb) ro pk = absurd (grind arith)
  fields_copied i (more t ts) hole wh ty ro pk = absurd (grind arith)
  fields_copied i (scalar s) v' wh ty ro pk = absurd ro
  fields_copied i (ref t) v' wh ty ro pk = absurd ro
  fields_copied i (ref_mut t) v' wh ty ro pk = absurd ro
  fields_copied i (named d) v' wh ty ro pk = absurd ro
