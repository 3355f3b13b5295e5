-- What is known of scalars holds: statements.
use Rattle.std.proofs.Common.{◌≡◌, inl, inr, refl, sym, ap, ◌∙◌, subst, ℕ, zero, suc, Bool, true, false, if◌then◌else◌, List, [], ◌∷◌, ◌++◌, Option, Some, None, slice_get, arith}
use Rattle.mir_syntax.specs.declared.types.ScalarTy.{ScalarTy}
use Rattle.mir_syntax.specs.declared.body.Proj.{Proj}
use Rattle.mir_syntax.specs.declared.body.Proj.TheVariants.{Field, Downcast, Deref}
use Rattle.mir_syntax.specs.declared.body.Place.{Place}
use Rattle.mir_syntax.specs.declared.body.Const.{Const}
use Rattle.mir_syntax.specs.declared.body.Const.TheVariants as constant
use Rattle.mir_syntax.specs.declared.body.Operand.{Operand}
use Rattle.mir_syntax.specs.declared.body.Operand.TheVariants as operand
use Rattle.mir_syntax.specs.declared.body.OverOp.{OverOp}
use Rattle.mir_syntax.specs.Tree.{Tree, scalar, empty, more, ref, ref_mut, named}
use Rattle.mir_syntax.specs.Crate.{TypedRvalue, «use», binary, overflow, unary, cast, discriminant, tuple, build, TypedStmt, assign, storage_live, storage_dead, set_discriminant}
use Rattle.mir_syntax.specs.Crate as rvalue
use Rattle.mir_syntax.specs.Shapes.{Shape, ◌>>=◌, path_ty, place_ty, variant_ty, fields_of_struct, struct_fields, variant_of_enum}
use Rattle.mir_num.specs.Numbers as num
use Rattle.mir_semantics.specs.Values.{Addr, Value, number, nil, cons, variant, pointer, hole, listed, whole, part, at_path, blank}
use Rattle.mir_semantics.specs.Memory.{Memory, value_at, write}
use Rattle.mir_semantics.specs.Step.{Dest, Here, local_addr, type_of, dest_of, allows, store, const_value, read_at, read, read_all, number_in, operand_ty, scalar_ty_of, read_number, read_two, built_by, built, eval, set_blank, is_variant, write_unless, exec}
use Rattle.mir_syntax.specs.Parts.{has_deref, is_direct}
use Rattle.mir_syntax.proofs.Binds.{bind_some, some_bind}
use Rattle.mir_renaming.specs.Renaming.{Renaming, ValueRel, RootOf}
use Rattle.mir_renaming.proofs.Memory.{write_rel}
use Rattle.mir_renaming.proofs.Statements.{blank_rel, const_rel, only_true, built_rel}
use Rattle.const_flow.specs.declared.cell.Cell.{Cell}
use Rattle.const_flow.specs.declared.cell.Cell.TheVariants.{Nothing, Num, Many}
use Rattle.place_map.specs.Tracked.{beyond}
use Rattle.const_flow.specs.Facts.{Facts, whole_local, look, learn, always, part_known, known, nth_known, outcome, one, both, binary_of, wrapped_of, flag_of, unary_of, cast_of, value_known, moved, moved_all, after_stmt}
use Rattle.mir_syntax.specs.Parts.{rvalue_operands}
use Rattle.const_flow.specs.Holding.{Fits, NumFits, H, addr_of, Holds}
use Rattle.const_flow.proofs.sound.Values.{many_fits, at_append}
use Rattle.const_flow.proofs.sound.Frames.{Seen, Sealed, Shared, Where, where_seen, value_self, resolve_where, look_holds, look_deref, learn_holds, forget_holds, blank_new, under}

some_one : {A : Type 0} {x y : A} → Some x ≡ Some y → x ≡ y
some_one e = grind arith

deref_more : (ps r : List Proj) → has_deref ps ≡ true → has_deref (ps ++ r) ≡ true
deref_more [] r e = absurd (grind arith)
deref_more (Field i ∷ ps) r e = deref_more ps r e
deref_more (Downcast k ∷ ps) r e = deref_more ps r e
deref_more (Deref ∷ ps) r e = refl

pub num_fits : (k : Cell) (v : Value) (n : ℕ) → Fits k (Some v) → number_in v ≡ Some n → NumFits k n
num_fits Nothing v n h e = absurd (let z : number_in hole ≡ Some n = ap number_in (sym h) ∙ e in grind arith)
num_fits (Num c) v n (inl h) e = absurd (let z : number_in hole ≡ Some n = ap number_in (sym h) ∙ e in grind arith)
num_fits (Num c) v n (inr h) e = some_one (ap number_in (sym h) ∙ e)
num_fits Many v n h e = tt

outcome_fits : (o : Option ℕ) (n : ℕ) → o ≡ Some n → Fits (outcome o) (Some (number n))
outcome_fits None n e = absurd (grind arith)
outcome_fits (Some i) n e = inr (ap number (sym (some_one e)))

one_fits : (g : ℕ → Option ℕ) (k : Cell) (a n : ℕ) → NumFits k a → g a ≡ Some n → Fits (one g k) (Some (number n))
one_fits g Nothing a n h e = absurd h
one_fits g (Num c) a n h e = outcome_fits (g c) n (ap g h ∙ e)
one_fits g Many a n h e = tt

both_fits : (g : ℕ → ℕ → Option ℕ) (k i : Cell) (a b n : ℕ) → NumFits k a → NumFits i b → g a b ≡ Some n → Fits (both g k i) (Some (number n))
both_fits g Nothing i a b n h h' e = absurd h
both_fits g (Num c) i a b n h h' e = one_fits (g c) i b n h' (ap (λ c. g c b) h ∙ e)
both_fits g Many Nothing a b n h h' e = absurd h'
both_fits g Many (Num c) a b n h h' e = tt
both_fits g Many Many a b n h h' e = tt

-- the frame's number doesn't matter to types
pub same_scalar : (D : List Shape) (ts : List Tree) (f : ℕ) (o : Operand) → scalar_ty_of (record { shapes = D; locals = ts; frame = f }) o ≡ scalar_ty_of (record { shapes = D; locals = ts; frame = 0 }) o
unfolding scalar_ty_of operand_ty type_of
same_scalar D ts f (operand.Copy p) = refl
same_scalar D ts f (operand.Move p) = refl
same_scalar D ts f (operand.Const c) = refl

module _ (D : List Shape) (ts : List Tree) (f : ℕ) (Free : ℕ → Type 0) (i K : Renaming) (seen : Seen i K f) (shut : (x : ℕ) → Free x → i f x ≡ None) where
  abbrev pub T : Here
  T = record { shapes = D; locals = ts; frame = 0 }

  abbrev pub E : Here
  E = H D ts f Free

  abbrev pub Hold : Memory → Facts → Type 0
  Hold = Holds D ts f Free

  abbrev pub Seal : Memory → Type 0
  Seal = Sealed i K

  seal_write : (m : Memory) (q : Place) (a : Addr) (v : Value) → Seal m → Where i f q a → ValueRel i v v → Seal (write m a v)
  seal_write m q a v s w h = write_rel i K m m a a v v s (record { root = where_seen i K f seen q a w; path = refl }) h (λ g x u e r. root_at g x (seen.selves g x (a.frame, a.local) e))
    where
      root_at : (g x : ℕ) → ◌≡◌ {A = ℕ × ℕ} (a.frame, a.local) (g, x) → RootOf a g x
      root_at g x e = (ap (λ (p : ℕ × ℕ). p.0) (sym e), ap (λ (p : ℕ × ℕ). p.1) (sym e))

  -- reads
  part_fits : (m : Memory) (fs : Facts) (p : Place) (a : Addr) (v : Value) (r : List Proj) → Where i f p a → value_at m a ≡ Some v → Hold m fs → Fits (look fs (beyond p r)) (at_path r v)
  unfolding value_at beyond
  part_fits m fs p a v r (inl (d, same)) e h =
      let e' : value_at m (addr_of D ts f Free p) ≡ Some v = ap (value_at m) (sym same) ∙ e in
      let (o, e1, e2) = bind_some e' in
      subst (Fits (look fs (beyond p r))) (some_bind (at_path (p.proj ++ r)) e1 (at_append p.proj r o v e2)) (look_holds D ts f Free m fs (beyond p r) h)
  part_fits m fs p a v r (inr (d, s)) e h = subst (λ k. Fits k (at_path r v)) (sym (look_deref D ts f Free m fs (beyond p r) h (deref_more p.proj r d))) (many_fits (at_path r v))

  -- what a read of an operand leaves
  pub record ReadKeeps (m : Memory) (o : Operand) (r : Value × Memory) : Type 0 where
    pub kept : Seal r.1
    pub value : ValueRel i r.0 r.0
    pub facts : (fs : Facts) → Hold m fs → Hold r.1 (moved o fs)
    pub parts : (fs : Facts) → Hold m fs → (ps : List Proj) → Fits (part_known fs o ps) (at_path ps r.0)

  const_fits : (fs : Facts) (c : Const) (ps : List Proj) → Fits (part_known fs (operand.Const c) ps) (at_path ps (const_value c))
  unfolding part_known const_value
  const_fits fs (constant.Int t n) [] = inr refl
  const_fits fs (constant.Bool b) [] = inr refl
  const_fits fs (constant.Int t n) (p ∷ ps) = many_fits (at_path (p ∷ ps) (number n))
  const_fits fs (constant.Bool b) (p ∷ ps) = many_fits (at_path (p ∷ ps) (number (num.flag b)))
  const_fits fs constant.Unit ps = many_fits (at_path ps nil)

  pub read_keeps : (m : Memory) (o : Operand) (r : Value × Memory) → Seal m → read E m o ≡ Some r → ReadKeeps m o r
  unfolding read read_at moved part_known
  read_keeps m (operand.Copy p) r s e =
      let (a, e1, k1) = bind_some e in
      let (v, e2, k2) = bind_some k1 in
      let (u, e3, k3) = bind_some e2 in
      let (_, same) = only_true (whole u) u v k3 in
      let at : value_at m a ≡ Some v = e3 ∙ ap Some same in
      let w = resolve_where i K f seen D ts m p a s e1 in
      subst (ReadKeeps m (operand.Copy p)) (some_one k2) (record { kept = s; value = value_self i K f seen m a v s (where_seen i K f seen p a w) at; facts = λ fs h. h; parts = λ fs h ps. part_fits m fs p a v ps w at h })
  read_keeps m (operand.Move p) r s e =
      let (a, e1, k1) = bind_some e in
      let (v, e2, k2) = bind_some k1 in
      let (t, e4, k4) = bind_some k2 in
      let (u, e3, k3) = bind_some e2 in
      let (_, same) = only_true (whole u) u v k3 in
      let at : value_at m a ≡ Some v = e3 ∙ ap Some same in
      let w = resolve_where i K f seen D ts m p a s e1 in
      subst (ReadKeeps m (operand.Move p)) (some_one k4) (record { kept = seal_write m p a (blank D t) s w (blank_rel i D t); value = value_self i K f seen m a v s (where_seen i K f seen p a w) at; facts = λ fs h. learn_holds D ts f Free i shut m a (blank D t) p (always Nothing) fs w (blank_new D ts f Free i shut p t e4) h; parts = λ fs h ps. part_fits m fs p a v ps w at h })
  read_keeps m (operand.Const c) r s e = subst (ReadKeeps m (operand.Const c)) (some_one e) (record { kept = s; value = const_rel i c; facts = λ fs h. h; parts = λ fs h ps. const_fits fs c ps })

  forget_moved : (m : Memory) (o : Operand) (fs : Facts) → Hold m (moved o fs) → Hold m fs
  unfolding moved
  forget_moved m (operand.Copy p) fs h = h
  forget_moved m (operand.Move p) fs h = forget_holds D ts f Free i shut m p fs h
  forget_moved m (operand.Const c) fs h = h

  -- moves take nothing from the facts
  forget_all : (m : Memory) (os : List Operand) (fs : Facts) → Hold m (moved_all os fs) → Hold m fs
  forget_all m [] fs h = h
  forget_all m (o ∷ os) fs h = forget_moved m o fs (forget_all m os (moved o fs) h)

  pub read_holds : (m : Memory) (o : Operand) (r : Value × Memory) (fs : Facts) → ReadKeeps m o r → Hold m fs → Hold r.1 fs
  read_holds m o r fs k h = forget_moved r.1 o fs (k.facts fs h)

  -- of a list of rvalue_operands
  pub record AllKeep (m : Memory) (os : List Operand) (r : List Value × Memory) : Type 0 where
    pub kept : Seal r.1
    pub value : ValueRel i (listed r.0) (listed r.0)
    pub facts : (fs : Facts) → Hold m fs → Hold r.1 (moved_all os fs)
    pub parts : (fs : Facts) → Hold m fs → (i : ℕ) (ps : List Proj) → Fits (nth_known fs os i ps) (part i (listed r.0) >>= at_path ps)

  no_part : (i : ℕ) (ps : List Proj) (k : Cell) → Fits k (part i nil >>= at_path ps)
  unfolding ◌>>=◌
  no_part zero ps k = tt
  no_part (suc i) ps k = tt

  both_parts : (m : Memory) (o : Operand) (os : List Operand) (x : Value × Memory) (y : List Value × Memory) → ReadKeeps m o x → AllKeep x.1 os y → (fs : Facts) → Hold m fs → (i : ℕ) (ps : List Proj) → Fits (nth_known fs (o ∷ os) i ps) (part i (listed (x.0 ∷ y.0)) >>= at_path ps)
  unfolding nth_known ◌>>=◌
  both_parts m o os x y k ks fs h zero ps = k.parts fs h ps
  both_parts m o os x y k ks fs h (suc i) ps = ks.parts fs (read_holds m o x fs k h) i ps

  pub read_all_keeps : (m : Memory) (os : List Operand) (r : List Value × Memory) → Seal m → read_all E m os ≡ Some r → AllKeep m os r
  unfolding read_all
  read_all_keeps m [] r s e = subst (AllKeep m []) (some_one e) (record { kept = s; value = tt; facts = λ fs h. h; parts = λ fs h i ps. no_part i ps _ })
  read_all_keeps m (o ∷ os) r s e =
      let (x, e1, k1) = bind_some e in
      let (y, e2, k2) = bind_some k1 in
      let k = read_keeps m o x s e1 in
      let ks = read_all_keeps x.1 os y k.kept e2 in
      subst (AllKeep m (o ∷ os)) (some_one k2) (record { kept = ks.kept; value = (k.value, ks.value); facts = λ fs h. ks.facts (moved o fs) (k.facts fs h); parts = λ fs h i ps. both_parts m o os x y k ks fs h i ps })

  -- two numbers
  pub record TwoKeep (m : Memory) (a b : Operand) (r : (ℕ × ℕ) × Memory) : Type 0 where
    pub kept : Seal r.1
    pub facts : (fs : Facts) → Hold m fs → Hold r.1 (moved b (moved a fs))
    pub first : (fs : Facts) → Hold m fs → NumFits (known fs a) r.0.0
    pub second : (fs : Facts) → Hold m fs → NumFits (known fs b) r.0.1

  pub number_known : (m : Memory) (o : Operand) (r : Value × Memory) (n : ℕ) (fs : Facts) → ReadKeeps m o r → number_in r.0 ≡ Some n → Hold m fs → NumFits (known fs o) n
  unfolding known
  number_known m o r n fs k e h = num_fits (known fs o) r.0 n (k.parts fs h []) e

  -- a number
  pub record NumberKeeps (m : Memory) (o : Operand) (r : ℕ × Memory) : Type 0 where
    pub kept : Seal r.1
    pub facts : (fs : Facts) → Hold m fs → Hold r.1 (moved o fs)
    pub still : (fs : Facts) → Hold m fs → Hold r.1 fs
    pub is : (fs : Facts) → Hold m fs → NumFits (known fs o) r.0

  pub number_keeps : (m : Memory) (o : Operand) (r : ℕ × Memory) → Seal m → read_number E m o ≡ Some r → NumberKeeps m o r
  unfolding read_number
  number_keeps m o r s e =
      let (x, e1, k1) = bind_some e in
      let (n, e2, k2) = bind_some k1 in
      let k = read_keeps m o x s e1 in
      subst (NumberKeeps m o) (some_one k2) (record { kept = k.kept; facts = k.facts; still = λ fs h. read_holds m o x fs k h; is = λ fs h. number_known m o x n fs k e2 h })

  pub two_keeps : (m : Memory) (a b : Operand) (r : (ℕ × ℕ) × Memory) → Seal m → read_two E m a b ≡ Some r → TwoKeep m a b r
  unfolding read_two
  two_keeps m a b r s e =
      let (x, e1, k1) = bind_some e in
      let (y, e3, k3) = bind_some k1 in
      let k = number_keeps m a x s e1 in
      let k' = number_keeps x.1 b y k.kept e3 in
      subst (TwoKeep m a b) (some_one k3) (record {
        kept = k'.kept;
        facts = λ fs h. k'.facts (moved a fs) (k.facts fs h);
        first = k.is;
        second = λ fs h. k'.is fs (k.still fs h);
      })

  -- rvalues
  pub record EvalKeeps (m : Memory) (x : TypedRvalue) (r : Value × Memory) : Type 0 where
    pub kept : Seal r.1
    pub value : ValueRel i r.0 r.0
    pub facts : (fs : Facts) → Hold m fs → Hold r.1 (moved_all (rvalue_operands x) fs)
    pub parts : (fs : Facts) → Hold m fs → (ps : List Proj) → Fits (value_known T fs x ps) (at_path ps r.0)

  -- a place whose address is taken is borrowed, or goes through a reference
  abbrev pub OkAddr : TypedRvalue → Type 0
  OkAddr (rvalue.ref p) = has_deref p.proj ≡ false → i f p.local ≡ Some (f, p.local)
  OkAddr (rvalue.ref_mut p) = has_deref p.proj ≡ false → i f p.local ≡ Some (f, p.local)
  OkAddr _ = Unit {0}

  no_part_of : (i : ℕ) (v : Value) (ps : List Proj) (k : Cell) → part i v ≡ None → Fits k (part i v >>= at_path ps)
  unfolding ◌>>=◌
  no_part_of i v ps k e = subst (λ o. Fits k (o >>= at_path ps)) (sym e) tt

  built_parts : (d k i : ℕ) (v : Value) (ps : List Proj) (q : Cell) → Fits q (part i v >>= at_path ps) → Fits q (part i (built D d k v) >>= at_path ps)
  built_parts d k i v ps q h = go (slice_get D d)
    where
      hole_part : (i : ℕ) → part i hole ≡ None
      hole_part zero = refl
      hole_part (suc i) = refl

      variant_part : (i k : ℕ) (v : Value) → part i (variant k v) ≡ None
      variant_part zero k v = refl
      variant_part (suc i) k v = refl

      pick : (b : Bool) → Fits q (part i (if b then variant k v else v) >>= at_path ps)
      pick true = no_part_of i (variant k v) ps q (variant_part i k v)
      pick false = h

      go : (o : Option Shape) → Fits q (part i (built_by k v o) >>= at_path ps)
      go None = no_part_of i hole ps q (hole_part i)
      go (Some df) = pick df.is_enum

  binary_parts : (fs : Facts) (x : TypedRvalue) (n : ℕ) → ((fs' : Facts) → fs' ≡ fs → Fits (value_known T fs x []) (Some (number n))) → (ps : List Proj) → ((p : Proj) (qs : List Proj) → value_known T fs x (p ∷ qs) ≡ Many) → Fits (value_known T fs x ps) (at_path ps (number n))
  binary_parts fs x n h [] m = h fs refl
  binary_parts fs x n h (p ∷ ps) m = subst (λ k. Fits k (at_path (p ∷ ps) (number n))) (sym (m p ps)) (many_fits _)

  over_parts : (fs : Facts) (op : OverOp) (a b : Operand) (n i : ℕ) → Fits (value_known T fs (overflow op a b) (Field 0 ∷ [])) (Some (number n)) → Fits (value_known T fs (overflow op a b) (Field 1 ∷ [])) (Some (number i)) → (ps : List Proj) → Fits (value_known T fs (overflow op a b) ps) (at_path ps (cons (number n) (cons (number i) nil)))
  unfolding value_known ◌>>=◌
  over_parts fs op a b n i h h' (Field zero ∷ []) = h
  over_parts fs op a b n i h h' (Field (suc zero) ∷ []) = h'
  over_parts fs op a b n i h h' [] = many_fits (at_path [] (cons (number n) (cons (number i) nil)))
  over_parts fs op a b n i h h' (Field zero ∷ (p ∷ ps)) = many_fits (at_path (Field zero ∷ (p ∷ ps)) (cons (number n) (cons (number i) nil)))
  over_parts fs op a b n i h h' (Field (suc zero) ∷ (p ∷ ps)) = many_fits (at_path (Field (suc zero) ∷ (p ∷ ps)) (cons (number n) (cons (number i) nil)))
  over_parts fs op a b n i h h' (Field (suc (suc k)) ∷ ps) = many_fits (at_path (Field (suc (suc k)) ∷ ps) (cons (number n) (cons (number i) nil)))
  over_parts fs op a b n i h h' (Downcast k ∷ ps) = many_fits (at_path (Downcast k ∷ ps) (cons (number n) (cons (number i) nil)))
  over_parts fs op a b n i h h' (Deref ∷ ps) = many_fits (at_path (Deref ∷ ps) (cons (number n) (cons (number i) nil)))

  tuple_parts : (fs : Facts) (os : List Operand) (v : Value) → ((i : ℕ) (ps : List Proj) → Fits (nth_known fs os i ps) (part i v >>= at_path ps)) → (ps : List Proj) → Fits (value_known T fs (tuple os) ps) (at_path ps v)
  unfolding value_known
  tuple_parts fs os v h [] = many_fits (at_path [] v)
  tuple_parts fs os v h (Field i ∷ ps) = h i ps
  tuple_parts fs os v h (Downcast k ∷ ps) = many_fits (at_path (Downcast k ∷ ps) v)
  tuple_parts fs os v h (Deref ∷ ps) = many_fits (at_path (Deref ∷ ps) v)

  build_parts : (fs : Facts) (d k : ℕ) (os : List Operand) (v : Value) → ((i : ℕ) (ps : List Proj) → Fits (nth_known fs os i ps) (part i v >>= at_path ps)) → (ps : List Proj) → Fits (value_known T fs (build d k os) ps) (at_path ps v)
  unfolding value_known
  build_parts fs d k os v h [] = many_fits (at_path [] v)
  build_parts fs d k os v h (Field i ∷ ps) = h i ps
  build_parts fs d k os v h (Downcast i ∷ ps) = many_fits (at_path (Downcast i ∷ ps) v)
  build_parts fs d k os v h (Deref ∷ ps) = many_fits (at_path (Deref ∷ ps) v)

  shared_at : (p : Place) (a : Addr) → (has_deref p.proj ≡ false → i f p.local ≡ Some (f, p.local)) → Where i f p a → Shared i a
  shared_at p a ok (inl (d, same)) = subst (Shared i) (sym same) (ok d)
  shared_at p a ok (inr (d, h)) = h

  pub eval_keeps : (m : Memory) (x : TypedRvalue) (r : Value × Memory) → Seal m → OkAddr x → eval E m x ≡ Some r → EvalKeeps m x r
  unfolding eval value_known binary_of wrapped_of flag_of unary_of cast_of
  eval_keeps m («use» o) r s ok e = let k = read_keeps m o r s e in record { kept = k.kept; value = k.value; facts = k.facts; parts = k.parts }
  eval_keeps m (binary op a b) r s ok e =
      let (t, e1, k1) = bind_some e in
      let (x, e2, k2) = bind_some k1 in
      let (n, e3, k3) = bind_some k2 in
      let k = two_keeps m a b x s e2 in
      subst (EvalKeeps m (binary op a b)) (some_one k3) (record { kept = k.kept; value = refl; facts = k.facts; parts = λ fs h ps. binary_parts fs (binary op a b) n (λ fs' q. both_fits (binary_of T op a) (known fs a) (known fs b) x.0.0 x.0.1 n (k.first fs h) (k.second fs h) (some_bind _ (sym (same_scalar D ts f a) ∙ e1) e3)) ps (λ p qs. refl) })
  eval_keeps m (overflow op a b) r s ok e =
      let (t, e1, k1) = bind_some e in
      let (x, e2, k2) = bind_some k1 in
      let k = two_keeps m a b x s e2 in
      let z = num.over op t x.0.0 x.0.1 in
      let t' = sym (same_scalar D ts f a) ∙ e1 in
      subst (EvalKeeps m (overflow op a b)) (some_one k2) (record { kept = k.kept; value = (refl, (refl, tt)); facts = k.facts; parts = λ fs h ps. over_parts fs op a b z.0 (num.flag z.1) (both_fits (wrapped_of T op a) (known fs a) (known fs b) x.0.0 x.0.1 z.0 (k.first fs h) (k.second fs h) (some_bind _ t' refl)) (both_fits (flag_of T op a) (known fs a) (known fs b) x.0.0 x.0.1 (num.flag z.1) (k.first fs h) (k.second fs h) (some_bind _ t' refl)) ps })
  eval_keeps m (unary op a) r s ok e =
      let (t, e1, k1) = bind_some e in
      let (x, e2, k2) = bind_some k1 in
      let k = number_keeps m a x s e2 in
      subst (EvalKeeps m (unary op a)) (some_one k2) (record { kept = k.kept; value = refl; facts = k.facts; parts = λ fs h ps. binary_parts fs (unary op a) (num.unary op t x.0) (λ fs' q. one_fits (unary_of T op a) (known fs a) x.0 (num.unary op t x.0) (k.is fs h) (some_bind _ (sym (same_scalar D ts f a) ∙ e1) refl)) ps (λ p qs. refl) })
  eval_keeps m (cast a t) r s ok e =
      let (from, e1, k1) = bind_some e in
      let (to, e2, k2) = bind_some k1 in
      let (x, e3, k3) = bind_some k2 in
      let k = number_keeps m a x s e3 in
      subst (EvalKeeps m (cast a t)) (some_one k3) (record { kept = k.kept; value = refl; facts = k.facts; parts = λ fs h ps. binary_parts fs (cast a t) (num.cast from to x.0) (λ fs' q. one_fits (cast_of T a t) (known fs a) x.0 (num.cast from to x.0) (k.is fs h) (some_bind _ (sym (same_scalar D ts f a) ∙ e1) (some_bind _ e2 refl))) ps (λ p qs. refl) })
  eval_keeps m (rvalue.ref p) r s ok e =
      let (a, e1, k1) = bind_some e in
      let w = resolve_where i K f seen D ts m p a s e1 in
      subst (EvalKeeps m (rvalue.ref p)) (some_one k1) (record { kept = s; value = record { root = shared_at p a ok w; path = refl }; facts = λ fs h. h; parts = λ fs h ps. many_fits (at_path ps (pointer a)) })
  eval_keeps m (rvalue.ref_mut p) r s ok e =
      let (a, e1, k1) = bind_some e in
      let w = resolve_where i K f seen D ts m p a s e1 in
      subst (EvalKeeps m (rvalue.ref_mut p)) (some_one k1) (record { kept = s; value = record { root = shared_at p a ok w; path = refl }; facts = λ fs h. h; parts = λ fs h ps. many_fits (at_path ps (pointer a)) })
  eval_keeps m (discriminant p) r s ok e =
      let (a, e1, k1) = bind_some e in
      let (v, e2, k2) = bind_some k1 in
      let (n, e3, k3) = bind_some k2 in
      subst (EvalKeeps m (discriminant p)) (some_one k3) (record { kept = s; value = refl; facts = λ fs h. h; parts = λ fs h ps. many_fits _ })
  eval_keeps m (tuple os) r s ok e =
      let (x, e1, k1) = bind_some e in
      let k = read_all_keeps m os x s e1 in
      subst (EvalKeeps m (tuple os)) (some_one k1) (record { kept = k.kept; value = k.value; facts = k.facts; parts = λ fs h ps. tuple_parts fs os (listed x.0) (k.parts fs h) ps })
  eval_keeps m (build d n os) r s ok e =
      let (x, e1, k1) = bind_some e in
      let k = read_all_keeps m os x s e1 in
      subst (EvalKeeps m (build d n os)) (some_one k1) (record { kept = k.kept; value = built_rel i D d n (listed x.0) (listed x.0) k.value; facts = k.facts; parts = λ fs h ps. build_parts fs d n os (built D d n (listed x.0)) (λ z qs. built_parts d n z (listed x.0) qs (nth_known fs os z qs) (k.parts fs h z qs)) ps })

  pub eval_holds : (m : Memory) (x : TypedRvalue) (r : Value × Memory) (fs : Facts) → EvalKeeps m x r → Hold m fs → Hold r.1 fs
  eval_holds m x r fs k h = forget_all r.1 (rvalue_operands x) fs (k.facts fs h)

  -- statements
  pub record StmtKeeps (m : Memory) (st : TypedStmt) (m' : Memory) : Type 0 where
    pub kept : Seal m'
    pub facts : (fs : Facts) → Hold m fs → Hold m' (after_stmt T st fs)

  abbrev pub OkStmtAddr : TypedStmt → Type 0
  OkStmtAddr (assign p x) = OkAddr x
  OkStmtAddr _ = Unit {0}

  -- a result is stored at a place
  pub store_keeps : (m : Memory) (p : Place) (d : Dest) (v : Value) (m' : Memory) → Seal m → Where i f p d.addr → ValueRel i v v → store D m d v ≡ Some m' → Seal m' × ((fs : Facts) (new : List Proj → Cell) → ((ps : List Proj) → Fits (new ps) (at_path ps v)) → Hold m fs → Hold m' (learn p new fs))
  unfolding store
  store_keeps m p d v m' s w h e =
      let (old, e1, k1) = bind_some e in
      let (_, same) = only_true (allows D d.guard old) (write m d.addr v) m' k1 in
      (subst Seal same (seal_write m p d.addr v s w h), λ fs new ok hs. subst (λ m. Hold m (learn p new fs)) same (learn_holds D ts f Free i shut m d.addr v p new fs w (λ q r g wy. ok r) hs))

  pub dest_where : (m : Memory) (p : Place) (d : Dest) → Seal m → dest_of E m p ≡ Some d → Where i f p d.addr
  unfolding dest_of
  dest_where m p d s e =
      let (a, e1, k1) = bind_some e in
      let (t, e2, k2) = bind_some k1 in
      subst (λ d. Where i f p d.addr) (some_one k2) (resolve_where i K f seen D ts m p a s e1)

  blank_keeps : (m : Memory) (x : ℕ) (m' : Memory) → Seal m → set_blank E m x ≡ Some m' → Seal m' × ((fs : Facts) → Hold m fs → Hold m' (learn (whole_local x) (always Nothing) fs))
  unfolding set_blank local_addr type_of place_ty
  blank_keeps m x m' s e =
      let (t, e1, k1) = bind_some e in
      let w : Where i f (whole_local x) (record { frame = f; local = x; path = [] }) = inl (refl, refl) in
      (subst Seal (some_one k1) (seal_write m (whole_local x) _ (blank D t) s w (blank_rel i D t)), λ fs h. subst (λ m. Hold m (learn (whole_local x) (always Nothing) fs)) (some_one k1) (learn_holds D ts f Free i shut m _ (blank D t) (whole_local x) (always Nothing) fs w (blank_new D ts f Free i shut (whole_local x) t (some_bind _ e1 refl)) h))

  -- under an enum nothing is tracked
  no_fields : (t us : Tree) (k : ℕ) (r : List Proj) (s : ScalarTy) → is_direct r ≡ true → variant_ty D t k ≡ Some us → path_ty D t r ≡ Some (scalar s) → ⊥
  no_fields t us k [] s o e h = absurd (let z : variant_ty D (scalar s) k ≡ Some us = ap (λ t. variant_ty D t k) (sym (some_one h)) ∙ e in grind arith)
  no_fields (named d) us k (Field n ∷ r) s o e h =
      let (x, e1, e2) = bind_some e in
      let (u, g1, g2) = bind_some h in
      let (w, g3, g4) = bind_some g1 in
      let (y, g5, g6) = bind_some g3 in
      let same : y ≡ x = some_one (sym g5 ∙ e1) in
      both_ways x w x.is_enum refl e2 (subst (λ (y : Shape). fields_of_struct y ≡ Some w) same g6)
    where
      both_ways : (x : Shape) (w : Tree) (b : Bool) → x.is_enum ≡ b → variant_of_enum k x ≡ Some us → fields_of_struct x ≡ Some w → ⊥
      both_ways x w true q e g = absurd (let z : None ≡ Some w = ap (λ b. if b then None else Some (struct_fields x)) (sym q) ∙ g in grind arith)
      both_ways x w false q e g = absurd (let z : None ≡ Some us = ap (λ b. if b then slice_get x.variants k else None) (sym q) ∙ e in grind arith)
  no_fields (scalar x) us k (Field n ∷ r) s o e h = absurd (grind arith)
  no_fields empty us k (Field n ∷ r) s o e h = absurd (grind arith)
  no_fields (more x y) us k (Field n ∷ r) s o e h = absurd (grind arith)
  no_fields (ref x) us k (Field n ∷ r) s o e h = absurd (grind arith)
  no_fields (ref_mut x) us k (Field n ∷ r) s o e h = absurd (grind arith)
  no_fields t us k (Downcast n ∷ r) s o e h = absurd (grind arith)
  no_fields t us k (Deref ∷ r) s o e h = absurd (grind arith)

  set_keeps : (m : Memory) (p : Place) (a : Addr) (t us : Tree) (k : ℕ) (b : Bool) → Seal m → Where i f p a → type_of E p ≡ Some t → variant_ty D t k ≡ Some us → StmtKeeps m (set_discriminant p k) (write_unless b m a (variant k (blank D us)))
  unfolding write_unless after_stmt
  set_keeps m p a t us k true s w e h = record { kept = s; facts = λ fs hs. hs }
  set_keeps m p a t us k false s w e h = record {
    kept = seal_write m p a (variant k (blank D us)) s w (refl, blank_rel i D us);
    facts = λ fs hs. forget_holds D ts f Free i shut (write m a (variant k (blank D us))) p fs (learn_holds D ts f Free i shut m a (variant k (blank D us)) p (always Nothing) fs w (λ q r g wy. (let (o, z) = under D ts f Free i shut p t q r e g wy in absurd (no_fields t us k r g.ty o h z))) hs);
  }

  pub exec_keeps : (m : Memory) (st : TypedStmt) (m' : Memory) → Seal m → OkStmtAddr st → exec E m st ≡ Some m' → StmtKeeps m st m'
  unfolding exec after_stmt
  exec_keeps m (assign p x) m' s ok e =
      let (v, e1, k1) = bind_some e in
      let (d, e2, k2) = bind_some k1 in
      let k = eval_keeps m x v s ok e1 in
      let (k', facts) = store_keeps v.1 p d v.0 m' k.kept (dest_where v.1 p d k.kept e2) k.value k2 in
      record { kept = k'; facts = λ fs h. facts (moved_all (rvalue_operands x) fs) (value_known T fs x) (k.parts fs h) (k.facts fs h) }
  exec_keeps m (storage_live x) m' s ok e = let (k, facts) = blank_keeps m x m' s e in record { kept = k; facts = facts }
  exec_keeps m (storage_dead x) m' s ok e = let (k, facts) = blank_keeps m x m' s e in record { kept = k; facts = facts }
  exec_keeps m (set_discriminant p k) m' s ok e =
      let (a, e1, k1) = bind_some e in
      let (v, e2, k2) = bind_some k1 in
      let (t, e3, k3) = bind_some k2 in
      let (us, e4, k4) = bind_some k3 in
      subst (StmtKeeps m (set_discriminant p k)) (some_one k4) (set_keeps m p a t us k (is_variant k v) s (resolve_where i K f seen D ts m p a s e1) e3 e4)
