-- Statements under a renaming of locals.
use Rattle.std.proofs.Common.{◌≡◌, refl, sym, ap, ap₂, ◌∙◌, subst, ℕ, zero, suc, Bool, true, false, not, nat_eq, if◌then◌else◌, List, [], ◌∷◌, length, Option, Some, None, slice_get, arith}
use Rattle.std.proofs.lemmas.Bool.{eqb-true, and_parts, and_from}
use Rattle.mir_syntax.specs.declared.body.Place.{Place}
use Rattle.mir_syntax.specs.declared.body.Const.{Const}
use Rattle.mir_syntax.specs.declared.body.Const.TheVariants as constant
use Rattle.mir_syntax.specs.declared.body.Operand.{Operand}
use Rattle.mir_syntax.specs.declared.body.Operand.TheVariants as operand
use Rattle.mir_syntax.specs.Tree.{Tree, scalar, empty, more, ref, ref_mut, named}
use Rattle.mir_syntax.specs.Crate.{TypedRvalue, «use», binary, overflow, unary, cast, discriminant, tuple, build, TypedStmt, assign, storage_live, storage_dead, set_discriminant}
use Rattle.mir_syntax.specs.Crate as rvalue
use Rattle.mir_syntax.specs.Shapes.{Shape, ◌>>=◌, struct_fields, needs_drop, variant_ty, path_ty, place_ty}
use Rattle.mir_num.specs.Numbers as num
use Rattle.mir_semantics.specs.Values.{Addr, Value, number, cons, variant, pointer, hole, listed, is_hole, whole, is_unit, blank_by, blank_of, blank_def, blank, full_by, full_of, full_def, full}
use Rattle.mir_semantics.specs.Memory.{Memory, local_at, value_at, write, walk}
use Rattle.mir_semantics.specs.Step.{Dest, Here, only_if, local_addr, resolve, type_of, guard_of, dest_of, allows, store, const_value, const_ty, read_at, read, read_all, number_in, read_number, operand_ty, scalar_in, scalar_ty_of, variant_in, built_by, built, read_two, pair_of, eval, set_blank, is_variant, write_unless, exec}
use Rattle.mir_renaming.specs.Renaming.{Renaming, AddrRel, ValueRel, SomeRel, Sub, MemRel, AddrThere, NoClash}
use Rattle.mir_syntax.proofs.Binds.{bind_some, some_bind}
use Rattle.mir_renaming.proofs.Memory.{whole_rel, value_at_rel, walk_rel, write_rel, write_back, write_again}

-- a value without references is related to itself
blank_by_rel : (j : Renaming) (of_def : ℕ → Value) → ((d : ℕ) → ValueRel j (of_def d) (of_def d)) → (t : Tree) → ValueRel j (blank_by of_def t) (blank_by of_def t)
blank_by_rel j of_def h (scalar s) = tt
blank_by_rel j of_def h empty = tt
blank_by_rel j of_def h (more t ts) = (blank_by_rel j of_def h t, blank_by_rel j of_def h ts)
blank_by_rel j of_def h (ref t) = tt
blank_by_rel j of_def h (ref_mut t) = tt
blank_by_rel j of_def h (named d) = h d

blank_of_rel : (j : Renaming) (of_def : ℕ → Value) → ((d : ℕ) → ValueRel j (of_def d) (of_def d)) → (o : Option Shape) → ValueRel j (blank_of of_def o) (blank_of of_def o)
blank_of_rel j of_def h None = tt
blank_of_rel j of_def h (Some d) = go (is_unit d)
  where
    go : (b : Bool) → ValueRel j (if b then hole else blank_by of_def (struct_fields d)) (if b then hole else blank_by of_def (struct_fields d))
    go true = tt
    go false = blank_by_rel j of_def h (struct_fields d)

blank_def_rel : (j : Renaming) (D : List Shape) (n d : ℕ) → ValueRel j (blank_def D n d) (blank_def D n d)
blank_def_rel j D zero d = tt
blank_def_rel j D (suc n) d = blank_of_rel j (blank_def D n) (blank_def_rel j D n) (slice_get D d)

pub blank_rel : (j : Renaming) (D : List Shape) (t : Tree) → ValueRel j (blank D t) (blank D t)
unfolding blank
blank_rel j D t = blank_by_rel j (blank_def D (length D)) (blank_def_rel j D (length D)) t

-- a value that is of a variant, and one related to it, which is of the same
pub variant_is : (i : ℕ) (w : Value) → is_variant i w ≡ true → (u : Value) × (w ≡ variant i u)
variant_is i (variant n u) q = (u, ap (λ n. variant n u) (eqb-true n i q))
variant_is i w q = absurd (grind arith)

pub variants_same : (j : Renaming) (i : ℕ) (v w : Value) → ValueRel j v w → is_variant i v ≡ true → is_variant i w ≡ false → ⊥
variants_same j i (variant n v) (variant n' w) r p q = let z : nat_eq n i ≡ nat_eq n' i = ap (λ x. nat_eq x i) r.0 in grind arith
variants_same j i v w r p q = grind arith

abbrev FullRel : Renaming → (ℕ → Value → Bool) → Type 0
FullRel j of_def = (d : ℕ) (v w : Value) → ValueRel j v w → of_def d v ≡ true → of_def d w ≡ true

full_by_rel : (j : Renaming) (of_def : ℕ → Value → Bool) → FullRel j of_def → (t : Tree) (v w : Value) → ValueRel j v w → full_by of_def t v ≡ true → full_by of_def t w ≡ true
full_by_rel j of_def h (more t ts) (cons v vs) (cons w ws) r e =
    let (a, b) = and_parts (full_by of_def t v) (full_by of_def ts vs) e in
    and_from (full_by of_def t w) (full_by of_def ts ws) (full_by_rel j of_def h t v w r.0 a) (full_by_rel j of_def h ts vs ws r.1 b)
full_by_rel j of_def h (named d) v w r e = h d v w r e
full_by_rel j of_def h (scalar t) v w r e = refl
full_by_rel j of_def h empty v w r e = refl
full_by_rel j of_def h (ref t) v w r e = refl
full_by_rel j of_def h (ref_mut t) v w r e = refl
full_by_rel j of_def h (more t ts) v w r e = absurd (grind arith)

not_hole_rel : (j : Renaming) (v w : Value) → ValueRel j v w → not (is_hole v) ≡ true → not (is_hole w) ≡ true
not_hole_rel j hole w r e = absurd (grind arith)
not_hole_rel j v hole r e = absurd (grind arith)
not_hole_rel j v w r e = refl

full_of_rel : (j : Renaming) (of_def : ℕ → Value → Bool) → FullRel j of_def → (b : Bool) (o : Option Shape) (v w : Value) → ValueRel j v w → full_of of_def b o v ≡ true → full_of of_def b o w ≡ true
full_of_rel j of_def h true (Some d) v w r e = go (is_unit d) e
  where
    go : (b : Bool) → (if b then not (is_hole v) else full_by of_def (struct_fields d) v) ≡ true → (if b then not (is_hole w) else full_by of_def (struct_fields d) w) ≡ true
    go true e = not_hole_rel j v w r e
    go false e = full_by_rel j of_def h (struct_fields d) v w r e
full_of_rel j of_def h true None v w r e = refl
full_of_rel j of_def h false o v w r e = refl

full_def_rel : (j : Renaming) (D : List Shape) (n : ℕ) → FullRel j (full_def D n)
full_def_rel j D zero d v w r e = refl
full_def_rel j D (suc n) d v w r e = full_of_rel j (full_def D n) (full_def_rel j D n) (needs_drop D (named d)) (slice_get D d) v w r e

pub allows_rel : (j : Renaming) (D : List Shape) (g : Option Tree) (v w : Value) → ValueRel j v w → allows D g v ≡ true → allows D g w ≡ true
unfolding full
allows_rel j D None v w r e = refl
allows_rel j D (Some t) v w r e = full_by_rel j (full_def D (length D)) (full_def_rel j D (length D)) t v w r e

-- lists of values
abbrev pub ValuesRel : Renaming → List Value → List Value → Type 0
ValuesRel j [] [] = Unit {0}
ValuesRel j (v ∷ vs) (w ∷ ws) = ValueRel j v w × ValuesRel j vs ws
ValuesRel j _ _ = ⊥

pub listed_rel : (j : Renaming) (vs ws : List Value) → ValuesRel j vs ws → ValueRel j (listed vs) (listed ws)
listed_rel j [] [] r = tt
listed_rel j (v ∷ vs) (w ∷ ws) r = (r.0, listed_rel j vs ws r.1)
listed_rel j [] (w ∷ ws) r = absurd r
listed_rel j (v ∷ vs) [] r = absurd r

built_by_rel : (j : Renaming) (k : ℕ) (v w : Value) (o : Option Shape) → ValueRel j v w → ValueRel j (built_by k v o) (built_by k w o)
built_by_rel j k v w None r = tt
built_by_rel j k v w (Some d) r = go d.is_enum
  where
    go : (b : Bool) → ValueRel j (if b then variant k v else v) (if b then variant k w else w)
    go true = (refl, r)
    go false = r

pub built_rel : (j : Renaming) (D : List Shape) (d k : ℕ) (v w : Value) → ValueRel j v w → ValueRel j (built D d k v) (built D d k w)
built_rel j D d k v w r = built_by_rel j k v w (slice_get D d) r

pub number_rel : (j : Renaming) (v w : Value) (n : ℕ) → ValueRel j v w → number_in v ≡ Some n → number_in w ≡ Some n
number_rel j (number a) (number b) n r e = ap Some (sym r) ∙ e
number_rel j v w n r e = absurd (grind arith)

pub variant_rel : (j : Renaming) (v w : Value) (n : ℕ) → ValueRel j v w → variant_in v ≡ Some n → variant_in w ≡ Some n
variant_rel j (variant a v) (variant b w) n r e = ap Some (sym r.0) ∙ e
variant_rel j v w n r e = absurd (grind arith)

pub only_true : {A : Type 0} (b : Bool) (x y : A) → only_if b x ≡ Some y → (b ≡ true) × (x ≡ y)
only_true true x y e = (refl, grind arith)
only_true false x y e = absurd (grind arith)

pub true_only : {A : Type 0} (b : Bool) (x : A) → b ≡ true → only_if b x ≡ Some x
true_only b x e = ap (λ b. only_if b x) e

-- read_two memories, and nothing is kept twice of what lives
pub record Linked (j L : Renaming) (m2 m1 : Memory) : Type 0 where
  pub mem : MemRel j L m2 m1
  pub apart : (f x f' x' : ℕ) (r : ℕ × ℕ) (u u' : Value) → L f x ≡ Some r → L f' x' ≡ Some r → local_at m1 f x ≡ Some u → local_at m1 f' x' ≡ Some u' → (f ≡ f') × (x ≡ x')

-- what a reading of the source asks of the target
abbrev pub Got : {A : Type 0} → (A → A → Type 0) → Renaming → Renaming → A × Memory → Option (A × Memory) → Type 0
Got {A = A} V j L r o = (q : A × Memory) × (o ≡ Some q) × V r.0 q.0 × Linked j L q.1 r.1

pub got_at : {A : Type 0} (V : A → A → Type 0) (j L : Renaming) (x r : A × Memory) (o : Option (A × Memory)) → Some x ≡ Some r → Got V j L x o → Got V j L r o
got_at V j L x r o e g = subst (λ r. Got V j L r o) (let k : x ≡ r = grind arith in k) g

pub write_linked : (j L : Renaming) (m2 m1 : Memory) (a b : Addr) (v w u : Value) → Linked j L m2 m1 → AddrRel L a b → ValueRel j v w → value_at m1 a ≡ Some u → Linked j L (write m2 b w) (write m1 a v)
unfolding value_at
write_linked j L m2 m1 a b v w u r h hv e =
    let (o, eo, _) = bind_some e in
    record {
      mem = write_rel j L m2 m1 a b v w r.mem h hv (λ f x u' l k. r.apart f x a.frame a.local (b.frame, b.local) u' o l h.root k eo);
      apart = λ f x f' x' q u1 u2 l l' k k'. (let (p1, e1) = write_back m1 a v f x u1 k in let (p2, e2) = write_back m1 a v f' x' u2 k' in r.apart f x f' x' q p1 p2 l l' e1 e2);
    }

-- a write, where the target's local is kept by this one alone
pub write_clear : (j L : Renaming) (m2 m1 : Memory) (a b : Addr) (v w : Value) → Linked j L m2 m1 → AddrRel L a b → ValueRel j v w → NoClash L m1 a b → Linked j L (write m2 b w) (write m1 a v)
write_clear j L m2 m1 a b v w r h hv nc =
    record {
      mem = write_rel j L m2 m1 a b v w r.mem h hv nc;
      apart = λ f x f' x' q u1 u2 l l' k k'. (let (p1, e1) = write_back m1 a v f x u1 k in let (p2, e2) = write_back m1 a v f' x' u2 k' in r.apart f x f' x' q p1 p2 l l' e1 e2);
    }

-- destinations
pub record DestRel (L : Renaming) (d c : Dest) : Type 0 where
  pub addr : AddrRel L d.addr c.addr
  pub guard : d.guard ≡ c.guard

abbrev pub MemGot : Renaming → Renaming → Memory → Option Memory → Type 0
MemGot j L m1 o = (m2 : Memory) × (o ≡ Some m2) × Linked j L m2 m1

pub store_rel : (D : List Shape) (j L : Renaming) (m2 m1 m1' : Memory) (d c : Dest) (v w : Value) → DestRel L d c → ValueRel j v w → Linked j L m2 m1 → store D m1 d v ≡ Some m1' → MemGot j L m1' (store D m2 c w)
unfolding store
store_rel D j L m2 m1 m1' d c v w h hv l e =
    let (old, e1, k1) = bind_some e in
    let (ok, same) = only_true (allows D d.guard old) (write m1 d.addr v) m1' k1 in
    let (old', g1, h1) = value_at_rel j L m2 m1 l.mem d.addr c.addr h.addr old e1 in
    let ok' : allows D c.guard old' ≡ true = subst (λ g. allows D g old' ≡ true) h.guard (allows_rel j D d.guard old old' h1 ok) in
    (write m2 c.addr w, some_bind _ g1 (true_only _ (write m2 c.addr w) ok'), subst (λ m. Linked j L (write m2 c.addr w) m) same (write_linked j L m2 m1 d.addr c.addr v w old l h.addr hv e1))

pub const_rel : (j : Renaming) (c : Const) → ValueRel j (const_value c) (const_value c)
unfolding const_value
const_rel j (constant.Int t n) = refl
const_rel j (constant.Bool b) = refl
const_rel j constant.Unit = tt

-- one frame of each side; the definitions are the same
module _ (D : List Shape) (ts1 ts2 : List Tree) (f1 f2 : ℕ) (j L : Renaming) (low : Sub j L) where
  abbrev pub H1 : Here
  H1 = record { shapes = D; locals = ts1; frame = f1 }

  abbrev pub H2 : Here
  H2 = record { shapes = D; locals = ts2; frame = f2 }

  pub record PlaceRel (K : Renaming) (p q : Place) : Type 0 where
    pub root : K f1 p.local ≡ Some (f2, q.local)
    pub proj : p.proj ≡ q.proj
    pub ty : slice_get ts1 p.local ≡ slice_get ts2 q.local

  abbrev pub OperandRel : Operand → Operand → Type 0
  OperandRel (operand.Copy p) (operand.Copy q) = PlaceRel L p q
  OperandRel (operand.Move p) (operand.Move q) = PlaceRel L p q
  OperandRel (operand.Const c) (operand.Const d) = c ≡ d
  OperandRel _ _ = ⊥

  abbrev pub OperandsRel : List Operand → List Operand → Type 0
  OperandsRel [] [] = Unit {0}
  OperandsRel (o ∷ os) (p ∷ ps) = OperandRel o p × OperandsRel os ps
  OperandsRel _ _ = ⊥

  pub place_ty_rel : (K : Renaming) (p q : Place) → PlaceRel K p q → type_of H1 p ≡ type_of H2 q
  unfolding type_of place_ty
  place_ty_rel K p q r = ap₂ (λ o ps. o >>= λ t. path_ty D t ps) r.ty r.proj

  operand_ty_rel : (o p : Operand) → OperandRel o p → operand_ty H1 o ≡ operand_ty H2 p
  unfolding operand_ty
  operand_ty_rel (operand.Copy p) (operand.Copy q) r = place_ty_rel L p q r
  operand_ty_rel (operand.Move p) (operand.Move q) r = place_ty_rel L p q r
  operand_ty_rel (operand.Const c) (operand.Const d) r = ap (λ c. Some (const_ty c)) r
  operand_ty_rel o p r = absurd r

  pub scalar_ty_rel : (o p : Operand) → OperandRel o p → scalar_ty_of H1 o ≡ scalar_ty_of H2 p
  unfolding scalar_ty_of
  scalar_ty_rel o p r = ap (λ x. x >>= scalar_in) (operand_ty_rel o p r)

  pub resolve_rel : (K : Renaming) → Sub j K → Sub K L → (m2 m1 : Memory) (p q : Place) (a : Addr) → PlaceRel K p q → MemRel j L m2 m1 → resolve H1 m1 p ≡ Some a → AddrThere K a (resolve H2 m2 q)
  unfolding resolve local_addr
  resolve_rel K lo hi m2 m1 p q a r m e =
      let (b, f, h) = walk_rel j K L lo hi m2 m1 m p.proj _ _ a (record { root = r.root; path = refl }) e in
      (b, subst (λ ps. walk m2 (local_addr f2 q.local) ps ≡ Some b) r.proj f, h)

  pub read_at_rel : (m2 m1 : Memory) (a b : Addr) (v : Value) → AddrRel L a b → MemRel j L m2 m1 → read_at m1 a ≡ Some v → SomeRel j v (read_at m2 b) × (value_at m1 a ≡ Some v)
  unfolding read_at
  read_at_rel m2 m1 a b v h m e =
      let (u, e1, e2) = bind_some e in
      let (t, same) = only_true (whole u) u v e2 in
      let (w, f1, r1) = value_at_rel j L m2 m1 m a b h u e1 in
      ((w, some_bind _ f1 (true_only (whole w) w (whole_rel j u w r1 t)), subst (λ x. ValueRel j x w) same r1), e1 ∙ ap Some same)

  pub read_rel : (m2 m1 : Memory) (o p : Operand) (r : Value × Memory) → OperandRel o p → Linked j L m2 m1 → read H1 m1 o ≡ Some r → Got (ValueRel j) j L r (read H2 m2 p)
  unfolding read
  read_rel m2 m1 (operand.Copy p) (operand.Copy q) r h l e =
      let (a, e1, e2) = bind_some e in
      let (v, e3, e4) = bind_some e2 in
      let (b, f1, h1) = resolve_rel L low (λ f x r e. e) m2 m1 p q a h l.mem e1 in
      let ((w, f2, h2), at) = read_at_rel m2 m1 a b v h1 l.mem e3 in
      got_at (ValueRel j) j L _ r (read H2 m2 (operand.Copy q)) e4 ((w, m2), some_bind _ f1 (some_bind _ f2 refl), h2, l)
  read_rel m2 m1 (operand.Move p) (operand.Move q) r h l e =
      let (a, e1, e2) = bind_some e in
      let (v, e3, e4) = bind_some e2 in
      let (t, e5, e6) = bind_some e4 in
      let (b, f1, h1) = resolve_rel L low (λ f x r e. e) m2 m1 p q a h l.mem e1 in
      let ((w, f2, h2), at) = read_at_rel m2 m1 a b v h1 l.mem e3 in
      got_at (ValueRel j) j L _ r (read H2 m2 (operand.Move q)) e6 ((w, write m2 b (blank D t)), some_bind _ f1 (some_bind _ f2 (some_bind _ (sym (place_ty_rel L p q h) ∙ e5) refl)), h2, write_linked j L m2 m1 a b (blank D t) (blank D t) v l h1 (blank_rel j D t) at)
  read_rel m2 m1 (operand.Const c) (operand.Const d) r h l e = got_at (ValueRel j) j L _ r (read H2 m2 (operand.Const d)) e ((const_value d, m2), refl, subst (λ x. ValueRel j (const_value c) (const_value x)) h (const_rel j c), l)
  read_rel m2 m1 o p r h l e = absurd h

  pub read_all_rel : (os ps : List Operand) (m2 m1 : Memory) (r : List Value × Memory) → OperandsRel os ps → Linked j L m2 m1 → read_all H1 m1 os ≡ Some r → Got (ValuesRel j) j L r (read_all H2 m2 ps)
  unfolding read_all
  read_all_rel [] [] m2 m1 r h l e = got_at (ValuesRel j) j L _ r (Some ([], m2)) e (([], m2), refl, tt, l)
  read_all_rel (o ∷ os) (p ∷ ps) m2 m1 r h l e =
      let (x, e1, e2) = bind_some e in
      let (y, e3, e4) = bind_some e2 in
      let (x', g1, h1, l1) = read_rel m2 m1 o p x h.0 l e1 in
      let (y', g2, h2, l2) = read_all_rel os ps x'.1 x.1 y h.1 l1 e3 in
      got_at (ValuesRel j) j L _ r (read_all H2 m2 (p ∷ ps)) e4 ((x'.0 ∷ y'.0, y'.1), some_bind _ g1 (some_bind _ g2 refl), (h1, h2), l2)
  read_all_rel [] (p ∷ ps) m2 m1 r h l e = absurd h
  read_all_rel (o ∷ os) [] m2 m1 r h l e = absurd h

  pub read_number_rel : (m2 m1 : Memory) (a c : Operand) (r : ℕ × Memory) → OperandRel a c → Linked j L m2 m1 → read_number H1 m1 a ≡ Some r → Got (λ x y. x ≡ y) j L r (read_number H2 m2 c)
  unfolding read_number
  read_number_rel m2 m1 a c r h l e =
      let (x, e1, k1) = bind_some e in
      let (n, e2, k2) = bind_some k1 in
      let (x', g1, h1, l1) = read_rel m2 m1 a c x h l e1 in
      got_at (λ x y. x ≡ y) j L _ r (read_number H2 m2 c) k2 ((n, x'.1), some_bind _ g1 (some_bind _ (number_rel j x.0 x'.0 n h1 e2) refl), refl, l1)

  two_rel : (m2 m1 : Memory) (a b c d : Operand) (r : (ℕ × ℕ) × Memory) → OperandRel a c → OperandRel b d → Linked j L m2 m1 → read_two H1 m1 a b ≡ Some r → Got (λ x y. x ≡ y) j L r (read_two H2 m2 c d)
  unfolding read_two
  two_rel m2 m1 a b c d r ha hb l e =
      let (x, e1, k1) = bind_some e in
      let (y, e2, k2) = bind_some k1 in
      let (x', g1, h1, l1) = read_number_rel m2 m1 a c x ha l e1 in
      let (y', g2, h2, l2) = read_number_rel x'.1 x.1 b d y hb l1 e2 in
      got_at (λ x y. x ≡ y) j L _ r (read_two H2 m2 c d) k2 (((x'.0, y'.0), y'.1), some_bind _ g1 (some_bind _ g2 refl), ap₂ (λ n k. (n, k)) h1 h2, l2)

  -- a reference to a place: its local stands for one, or the place goes through a reference
  abbrev pub RvalueRel : TypedRvalue → TypedRvalue → Type 0
  RvalueRel («use» o) («use» p) = OperandRel o p
  RvalueRel (binary op a b) (binary op' c d) = (op ≡ op') × OperandRel a c × OperandRel b d
  RvalueRel (overflow op a b) (overflow op' c d) = (op ≡ op') × OperandRel a c × OperandRel b d
  RvalueRel (unary op a) (unary op' b) = (op ≡ op') × OperandRel a b
  RvalueRel (cast a t) (cast b u) = (t ≡ u) × OperandRel a b
  RvalueRel (rvalue.ref p) (rvalue.ref q) = PlaceRel j p q
  RvalueRel (rvalue.ref_mut p) (rvalue.ref_mut q) = PlaceRel j p q
  RvalueRel (discriminant p) (discriminant q) = PlaceRel L p q
  RvalueRel (tuple os) (tuple ps) = OperandsRel os ps
  RvalueRel (build d k os) (build d' k' ps) = (d ≡ d') × (k ≡ k') × OperandsRel os ps
  RvalueRel _ _ = ⊥

  pub eval_rel : (m2 m1 : Memory) (x y : TypedRvalue) (r : Value × Memory) → RvalueRel x y → Linked j L m2 m1 → eval H1 m1 x ≡ Some r → Got (ValueRel j) j L r (eval H2 m2 y)
  unfolding eval
  eval_rel m2 m1 («use» o) («use» p) r h l e = read_rel m2 m1 o p r h l e
  eval_rel m2 m1 (binary op a b) (binary op' c d) r h l e =
      let (t, e1, k1) = bind_some e in
      let (x, e2, k2) = bind_some k1 in
      let (n, e3, k3) = bind_some k2 in
      let (x', g2, h2, l2) = two_rel m2 m1 a b c d x h.1 h.2 l e2 in
      let e3' : num.binop op' t x'.0.0 x'.0.1 ≡ Some n = subst (λ o. num.binop o t x'.0.0 x'.0.1 ≡ Some n) h.0 (subst (λ p. num.binop op t p.0 p.1 ≡ Some n) h2 e3) in
      got_at (ValueRel j) j L _ r (eval H2 m2 (binary op' c d)) k3 ((number n, x'.1), some_bind _ (sym (scalar_ty_rel a c h.1) ∙ e1) (some_bind _ g2 (some_bind _ e3' refl)), refl, l2)
  eval_rel m2 m1 (overflow op a b) (overflow op' c d) r h l e =
      let (t, e1, k1) = bind_some e in
      let (x, e2, k2) = bind_some k1 in
      let (x', g2, h2, l2) = two_rel m2 m1 a b c d x h.1 h.2 l e2 in
      let same : num.over op t x.0.0 x.0.1 ≡ num.over op' t x'.0.0 x'.0.1 = ap₂ (λ o p. num.over o t p.0 p.1) h.0 h2 in
      got_at (ValueRel j) j L _ r (eval H2 m2 (overflow op' c d)) k2 ((pair_of (num.over op' t x'.0.0 x'.0.1), x'.1), some_bind _ (sym (scalar_ty_rel a c h.1) ∙ e1) (some_bind _ g2 refl), subst (λ z. ValueRel j (pair_of (num.over op t x.0.0 x.0.1)) (pair_of z)) same (refl, (refl, tt)), l2)
  eval_rel m2 m1 (unary op a) (unary op' b) r h l e =
      let (t, e1, k1) = bind_some e in
      let (x, e2, k2) = bind_some k1 in
      let (x', g2, h2, l2) = read_number_rel m2 m1 a b x h.1 l e2 in
      got_at (ValueRel j) j L _ r (eval H2 m2 (unary op' b)) k2 ((number (num.unary op' t x'.0), x'.1), some_bind _ (sym (scalar_ty_rel a b h.1) ∙ e1) (some_bind _ g2 refl), ap₂ (λ o n. num.unary o t n) h.0 h2, l2)
  eval_rel m2 m1 (cast a t) (cast b u) r h l e =
      let (from, e1, k1) = bind_some e in
      let (to, e2, k2) = bind_some k1 in
      let (x, e3, k3) = bind_some k2 in
      let (x', g3, h3, l3) = read_number_rel m2 m1 a b x h.1 l e3 in
      got_at (ValueRel j) j L _ r (eval H2 m2 (cast b u)) k3 ((number (num.cast from to x'.0), x'.1), some_bind _ (sym (scalar_ty_rel a b h.1) ∙ e1) (some_bind _ (ap scalar_in (sym h.0) ∙ e2) (some_bind _ g3 refl)), ap (num.cast from to) h3, l3)
  eval_rel m2 m1 (rvalue.ref p) (rvalue.ref q) r h l e =
      let (a, e1, k1) = bind_some e in
      let (b, g1, h1) = resolve_rel j (λ f x r e. e) low m2 m1 p q a h l.mem e1 in
      got_at (ValueRel j) j L _ r (eval H2 m2 (rvalue.ref q)) k1 ((pointer b, m2), some_bind _ g1 refl, h1, l)
  eval_rel m2 m1 (rvalue.ref_mut p) (rvalue.ref_mut q) r h l e =
      let (a, e1, k1) = bind_some e in
      let (b, g1, h1) = resolve_rel j (λ f x r e. e) low m2 m1 p q a h l.mem e1 in
      got_at (ValueRel j) j L _ r (eval H2 m2 (rvalue.ref_mut q)) k1 ((pointer b, m2), some_bind _ g1 refl, h1, l)
  eval_rel m2 m1 (discriminant p) (discriminant q) r h l e =
      let (a, e1, k1) = bind_some e in
      let (v, e2, k2) = bind_some k1 in
      let (n, e3, k3) = bind_some k2 in
      let (b, g1, h1) = resolve_rel L low (λ f x r e. e) m2 m1 p q a h l.mem e1 in
      let (w, g2, h2) = value_at_rel j L m2 m1 l.mem a b h1 v e2 in
      got_at (ValueRel j) j L _ r (eval H2 m2 (discriminant q)) k3 ((number n, m2), some_bind _ g1 (some_bind _ g2 (some_bind _ (variant_rel j v w n h2 e3) refl)), refl, l)
  eval_rel m2 m1 (tuple os) (tuple ps) r h l e =
      let (x, e1, k1) = bind_some e in
      let (x', g1, h1, l1) = read_all_rel os ps m2 m1 x h l e1 in
      got_at (ValueRel j) j L _ r (eval H2 m2 (tuple ps)) k1 ((listed x'.0, x'.1), some_bind _ g1 refl, listed_rel j x.0 x'.0 h1, l1)
  eval_rel m2 m1 (build d k os) (build d' k' ps) r h l e =
      let (x, e1, k1) = bind_some e in
      let (x', g1, h1, l1) = read_all_rel os ps m2 m1 x h.2 l e1 in
      let rel : ValueRel j (built D d k (listed x.0)) (built D d' k' (listed x'.0)) = subst (λ i. ValueRel j (built D d k (listed x.0)) (built D i k' (listed x'.0))) h.0 (subst (λ i. ValueRel j (built D d k (listed x.0)) (built D d i (listed x'.0))) h.1 (built_rel j D d k (listed x.0) (listed x'.0) (listed_rel j x.0 x'.0 h1))) in
      got_at (ValueRel j) j L _ r (eval H2 m2 (build d' k' ps)) k1 ((built D d' k' (listed x'.0), x'.1), some_bind _ g1 refl, rel, l1)
  eval_rel m2 m1 x y r h l e = absurd h

  pub dest_rel : (m2 m1 : Memory) (p q : Place) (d : Dest) → PlaceRel L p q → Linked j L m2 m1 → dest_of H1 m1 p ≡ Some d → (c : Dest) × (dest_of H2 m2 q ≡ Some c) × DestRel L d c
  unfolding dest_of
  dest_rel m2 m1 p q d h l e =
      let (a, e1, k1) = bind_some e in
      let (t, e2, k2) = bind_some k1 in
      let (b, g1, h1) = resolve_rel L low (λ f x r e. e) m2 m1 p q a h l.mem e1 in
      (record { addr = b; guard = guard_of D q.proj t }, some_bind _ g1 (some_bind _ (sym (place_ty_rel L p q h) ∙ e2) refl), subst (λ d. DestRel L d (record { addr = b; guard = guard_of D q.proj t })) (grind arith) (let z : DestRel L (record { addr = a; guard = guard_of D p.proj t }) (record { addr = b; guard = guard_of D q.proj t }) = record { addr = h1; guard = ap (λ ps. guard_of D ps t) h.proj } in z))

  -- a local of each side
  pub record LocalRel (x y : ℕ) : Type 0 where
    pub root : L f1 x ≡ Some (f2, y)
    pub ty : slice_get ts1 x ≡ slice_get ts2 y

  abbrev pub StmtRel : TypedStmt → TypedStmt → Type 0
  StmtRel (assign p x) (assign q y) = PlaceRel L p q × RvalueRel x y
  StmtRel (storage_live x) (storage_live y) = LocalRel x y
  StmtRel (storage_dead x) (storage_dead y) = LocalRel x y
  StmtRel (set_discriminant p k) (set_discriminant q i) = PlaceRel L p q × (k ≡ i)
  StmtRel _ _ = ⊥

  -- an enum's payload has the shape of its variant: what the types of the target give
  abbrev pub PayloadsOk : Memory → Type 0
  PayloadsOk m2 = (q : Place) (b : Addr) (t fields : Tree) (k : ℕ) (u : Value) → resolve H2 m2 q ≡ Some b → type_of H2 q ≡ Some t → variant_ty D t k ≡ Some fields → value_at m2 b ≡ Some (variant k u) → ValueRel j (blank D fields) u

  -- no other local is kept in the one that stands for a local of this frame
  abbrev pub Clear : Memory → Type 0
  Clear m1 = (x y : ℕ) → L f1 x ≡ Some (f2, y) → (f x' : ℕ) (u : Value) → L f x' ≡ Some (f2, y) → local_at m1 f x' ≡ Some u → (f ≡ f1) × (x' ≡ x)

  set_blank_rel : (m2 m1 m1' : Memory) (x y : ℕ) → LocalRel x y → Linked j L m2 m1 → Clear m1 → (t : Tree) → slice_get ts1 x ≡ Some t → write m1 (local_addr f1 x) (blank D t) ≡ m1' → MemGot j L m1' (set_blank H2 m2 y)
  unfolding set_blank local_addr
  set_blank_rel m2 m1 m1' x y h l all t e same =
      (write m2 (local_addr f2 y) (blank D t), some_bind _ (sym h.ty ∙ e) refl, subst (λ m. Linked j L (write m2 (local_addr f2 y) (blank D t)) m) same (write_clear j L m2 m1 (local_addr f1 x) (local_addr f2 y) (blank D t) (blank D t) l (record { root = h.root; path = refl }) (blank_rel j D t) (λ f x' u k r. all x y h.root f x' u k r)))

  set_blank_split : (m1 m1' : Memory) (x : ℕ) → set_blank H1 m1 x ≡ Some m1' → (t : Tree) × (slice_get ts1 x ≡ Some t) × (write m1 (local_addr f1 x) (blank D t) ≡ m1')
  unfolding set_blank
  set_blank_split m1 m1' x e = let (t, e1, k1) = bind_some e in (t, e1, grind arith)

  blanks_rel : (m2 m1 m1' : Memory) (x y : ℕ) → LocalRel x y → Linked j L m2 m1 → Clear m1 → set_blank H1 m1 x ≡ Some m1' → MemGot j L m1' (set_blank H2 m2 y)
  blanks_rel m2 m1 m1' x y h l all e = go (set_blank_split m1 m1' x e)
    where
      go : (t : Tree) × (slice_get ts1 x ≡ Some t) × (write m1 (local_addr f1 x) (blank D t) ≡ m1') → MemGot j L m1' (set_blank H2 m2 y)
      go (t, e1, same) = set_blank_rel m2 m1 m1' x y h l all t e1 same

  -- the setting of a discriminant
  set_rel : (m2 m1 : Memory) (a b : Addr) (v w : Value) (k : ℕ) (fresh : Value) → AddrRel L a b → ValueRel j v w → Linked j L m2 m1 → value_at m1 a ≡ Some v → value_at m2 b ≡ Some w → ValueRel j fresh fresh → ((u : Value) → w ≡ variant k u → ValueRel j fresh u) → Linked j L (write_unless (is_variant k w) m2 b (variant k fresh)) (write_unless (is_variant k v) m1 a (variant k fresh))
  unfolding write_unless
  set_rel m2 m1 a b v w k fresh h hv l e1 e2 hf hp = go (is_variant k v) (is_variant k w) refl refl
    where
      -- the target's value stays where the source's is written
      stay : is_variant k w ≡ true → Linked j L m2 (write m1 a (variant k fresh))
      stay q =
          let (u, same) = variant_is k w q in
          let rel : ValueRel j (variant k fresh) w = subst (λ w. ValueRel j (variant k fresh) w) (sym same) (let z : ValueRel j (variant k fresh) (variant k u) = (refl, hp u same) in z) in
          let l' = write_linked j L m2 m1 a b (variant k fresh) w v l h rel e1 in
          record { apart = l'.apart; mem = record { at = λ f x g y ll u' e. (let (z, f2, r2) = l'.mem.at f x g y ll u' e in (z, sym (write_again m2 b w g y e2) ∙ f2, r2)) } }

      go : (p q : Bool) → is_variant k v ≡ p → is_variant k w ≡ q → Linked j L (write_unless q m2 b (variant k fresh)) (write_unless p m1 a (variant k fresh))
      go true true p q = l
      go true false p q = absurd (variants_same j k v w hv p q)
      go false true p q = stay q
      go false false p q = write_linked j L m2 m1 a b (variant k fresh) (variant k fresh) v l h (refl, hf) e1

  abbrev pub IsSet : TypedStmt → Type 0
  IsSet (set_discriminant p k) = Unit {0}
  IsSet _ = ⊥

  pub exec_rel : (m2 m1 m1' : Memory) (x y : TypedStmt) → StmtRel x y → Linked j L m2 m1 → Clear m1 → (IsSet x → PayloadsOk m2) → exec H1 m1 x ≡ Some m1' → MemGot j L m1' (exec H2 m2 y)
  unfolding exec
  exec_rel m2 m1 m1' (assign p x) (assign q y) h l all ok e =
      let (v, e1, k1) = bind_some e in
      let (d, e2, k2) = bind_some k1 in
      let (w, g1, h1, l1) = eval_rel m2 m1 x y v h.1 l e1 in
      let (c, g2, h2) = dest_rel w.1 v.1 p q d h.0 l1 e2 in
      let (m2', g3, l3) = store_rel D j L w.1 v.1 m1' d c v.0 w.0 h2 h1 l1 k2 in
      (m2', some_bind _ g1 (some_bind _ g2 g3), l3)
  exec_rel m2 m1 m1' (storage_live x) (storage_live y) h l all ok e = blanks_rel m2 m1 m1' x y h l all e
  exec_rel m2 m1 m1' (storage_dead x) (storage_dead y) h l all ok e = blanks_rel m2 m1 m1' x y h l all e
  exec_rel m2 m1 m1' (set_discriminant p k) (set_discriminant q i) h l all ok e =
      let (a, e1, k1) = bind_some e in
      let (v, e2, k2) = bind_some k1 in
      let (t, e3, k3) = bind_some k2 in
      let (fields, e4, k4) = bind_some k3 in
      let (b, g1, h1) = resolve_rel L low (λ f x r e. e) m2 m1 p q a h.0 l.mem e1 in
      let (w, g2, h2) = value_at_rel j L m2 m1 l.mem a b h1 v e2 in
      let ty : type_of H2 q ≡ Some t = sym (place_ty_rel L p q h.0) ∙ e3 in
      let l' = set_rel m2 m1 a b v w k (blank D fields) h1 h2 l e2 g2 (blank_rel j D fields) (λ u same. ok tt q b t fields k u g1 ty e4 (g2 ∙ ap Some same)) in
      let same : write_unless (is_variant k v) m1 a (variant k (blank D fields)) ≡ m1' = grind arith in
      subst (λ n. MemGot j L m1' (exec H2 m2 (set_discriminant q n))) h.1 (write_unless (is_variant k w) m2 b (variant k (blank D fields)), some_bind _ g1 (some_bind _ g2 (some_bind _ ty (some_bind _ e4 refl))), subst (λ m. Linked j L (write_unless (is_variant k w) m2 b (variant k (blank D fields))) m) same l')
  exec_rel m2 m1 m1' x y h l all ok e = absurd h
