-- An entry's start is typed, and its arguments hold neither a hole nor a reference.
use Rattle.std.proofs.Common.{◌≡◌, refl, sym, ap, ◌∙◌, subst, ℕ, zero, suc, Bool, true, false, if◌then◌else◌, List, [], ◌∷◌, length, take, drop, Option, Some, None, slice_get, arith}
use Rattle.mir_syntax.specs.Tree.{Tree, scalar, empty, more, named, tuple_of}
use Rattle.mir_syntax.specs.Crate.{TypedBody}
use Rattle.mir_syntax.specs.Shapes.{Shape, struct_fields}
use Rattle.mir_rules.proofs.Lists.{and_true-left, and_true-right}
use Rattle.mir_semantics.specs.Values.{Value, number, nil, cons, variant, listed}
use Rattle.mir_semantics.specs.Memory.{open_frame}
use Rattle.mir_semantics.specs.Step.{Code, new_slots}
use Rattle.mir_semantics.specs.Run.{Entry, start, slots_at}
use Rattle.mir_semantics.specs.Entry.{IsEntry, is_by, is_fields, is_variant_of, is_of, is_def, has_type, arg_types}
use Rattle.mir_syntax.proofs.Binds.{some_bind}
use Rattle.mir_renaming.proofs.Frames.{unequal}
use Rattle.mir_syntax.proofs.Bools.{if_false}
use Rattle.mir_renaming.proofs.Ghosts.{is_plain, AllPlain}
use Rattle.mir_renaming.proofs.Types.{TypeMap, HasTy}
use Rattle.mir_renaming.proofs.Typed.{TysOf, args_of, ValidCode, Typed, with_locals, with_new, open_ty, slots_ty}
use Rattle.valid_runs.proofs.Blanks.{Tuples, first_tupled, struct_ty}

-- ---- a value of a type without references holds no reference

plain_by : (of_def : ℕ → Value → Bool) → ((d : ℕ) (v : Value) → of_def d v ≡ true → is_plain v ≡ true) → (t : Tree) (v : Value) → is_by of_def t v ≡ true → is_plain v ≡ true
plain_by of_def h (scalar s) (number n) e = refl
plain_by of_def h empty nil e = refl
plain_by of_def h (more t ts) (cons v vs) e = rw (plain_by of_def h t v (and_true-left (is_by of_def t v) (is_by of_def ts vs) e)) (plain_by of_def h ts vs (and_true-right (is_by of_def t v) (is_by of_def ts vs) e))
plain_by of_def h (named d) v e = h d v e
plain_by of_def h t v e = absurd (grind arith)

plain_def : (D : List Shape) (n d : ℕ) (v : Value) → is_def D n d v ≡ true → is_plain v ≡ true
plain_def D zero d v e = absurd (grind arith)
plain_def D (suc n) d v e = go (λ k w. plain_def D n k w) (slice_get D d) e
  where
    fields : ((k : ℕ) (w : Value) → is_def D n k w ≡ true → is_plain w ≡ true) → (o : Option Tree) (w : Value) → is_fields (is_def D n) o w ≡ true → is_plain w ≡ true
    fields ih None w e = absurd (grind arith)
    fields ih (Some t) w e = plain_by (is_def D n) ih t w e

    in_variant : ((k : ℕ) (w : Value) → is_def D n k w ≡ true → is_plain w ≡ true) → (ts : List Tree) (v : Value) → is_variant_of (is_def D n) ts v ≡ true → is_plain v ≡ true
    in_variant ih ts (variant k w) e = fields ih (slice_get ts k) w e
    in_variant ih ts v e = absurd (grind arith)

    pick : ((k : ℕ) (w : Value) → is_def D n k w ≡ true → is_plain w ≡ true) → (s : Shape) (b : Bool) → (if b then is_variant_of (is_def D n) s.variants v else is_by (is_def D n) (struct_fields s) v) ≡ true → is_plain v ≡ true
    pick ih s true e = in_variant ih s.variants v e
    pick ih s false e = plain_by (is_def D n) ih (struct_fields s) v e

    go : ((k : ℕ) (w : Value) → is_def D n k w ≡ true → is_plain w ≡ true) → (o : Option Shape) → is_of (is_def D n) o v ≡ true → is_plain v ≡ true
    go ih None e = absurd (grind arith)
    go ih (Some s) e = pick ih s s.is_enum e

each_plain : (vs : List Value) → is_plain (listed vs) ≡ true → AllPlain vs
each_plain [] e = tt
each_plain (v ∷ vs) e = (and_true-left (is_plain v) (is_plain (listed vs)) e, each_plain vs (and_true-right (is_plain v) (is_plain (listed vs)) e))

typed_plain : (D : List Shape) (t : Tree) (v : Value) → has_type D t v ≡ true → is_plain v ≡ true
unfolding has_type
typed_plain D t v e = plain_by (is_def D (length D)) (plain_def D (length D)) t v e

pub args_plain : (C : Code) (e : Entry) → IsEntry C e → AllPlain e.args
args_plain C e k = each_plain e.args (typed_plain C.shapes (tuple_of (arg_types k.body)) (listed e.args) k.typed)

-- ---- and has the type

module _ (D : List Shape) (G : TypeMap) (tuples : Tuples D) where
  typed_by : (of_def : ℕ → Value → Bool) → ((d : ℕ) (v : Value) → of_def d v ≡ true → HasTy D G (named d) v) → (t : Tree) (v : Value) → is_by of_def t v ≡ true → HasTy D G t v
  typed_by of_def h (scalar s) (number n) e = refl
  typed_by of_def h empty nil e = refl
  typed_by of_def h (more t ts) (cons v vs) e = (t, ts, refl, typed_by of_def h t v (and_true-left (is_by of_def t v) (is_by of_def ts vs) e), typed_by of_def h ts vs (and_true-right (is_by of_def t v) (is_by of_def ts vs) e))
  typed_by of_def h (named d) v e = h d v e
  typed_by of_def h t v e = absurd (grind arith)

  typed_def : (n d : ℕ) (v : Value) → is_def D n d v ≡ true → HasTy D G (named d) v
  typed_def zero d v e = absurd (grind arith)
  typed_def (suc n) d v e = go (λ k w. typed_def n k w) (slice_get D d) refl e
    where
      fields : ((k : ℕ) (w : Value) → is_def D n k w ≡ true → HasTy D G (named k) w) → (s : Shape) → slice_get D d ≡ Some s → s.is_enum ≡ true → (k : ℕ) (o : Option Tree) → slice_get s.variants k ≡ o → (w : Value) → is_fields (is_def D n) o w ≡ true → HasTy D G (named d) (variant k w)
      fields ih s at en k None q w e = absurd (grind arith)
      fields ih s at en k (Some t) q w e = (t, some_bind _ at (ap (λ b. if b then slice_get s.variants k else None) en ∙ q), typed_by (is_def D n) ih t w e)

      in_variant : ((k : ℕ) (w : Value) → is_def D n k w ≡ true → HasTy D G (named k) w) → (s : Shape) → slice_get D d ≡ Some s → s.is_enum ≡ true → (v : Value) → is_variant_of (is_def D n) s.variants v ≡ true → HasTy D G (named d) v
      in_variant ih s at en (variant k w) e = fields ih s at en k (slice_get s.variants k) refl w e
      in_variant ih s at en v e = absurd (grind arith)

      pick : ((k : ℕ) (w : Value) → is_def D n k w ≡ true → HasTy D G (named k) w) → (s : Shape) → slice_get D d ≡ Some s → (b : Bool) → s.is_enum ≡ b → (if b then is_variant_of (is_def D n) s.variants v else is_by (is_def D n) (struct_fields s) v) ≡ true → HasTy D G (named d) v
      pick ih s at true en e = in_variant ih s at en v e
      pick ih s at false en e =
          struct_ty D G d (struct_fields s) v (first_tupled s.variants (tuples d s at)) (some_bind _ at (ap (λ b. if b then None else Some (struct_fields s)) en)) (typed_by (is_def D n) ih (struct_fields s) v e)

      go : ((k : ℕ) (w : Value) → is_def D n k w ≡ true → HasTy D G (named k) w) → (o : Option Shape) → slice_get D d ≡ o → is_of (is_def D n) o v ≡ true → HasTy D G (named d) v
      go ih None at e = absurd (grind arith)
      go ih (Some s) at e = pick ih s at s.is_enum refl e

  args_by : (of_def : ℕ → Value → Bool) → ((d : ℕ) (v : Value) → of_def d v ≡ true → HasTy D G (named d) v) → (n : ℕ) (ts : List Tree) (vs : List Value) → is_by of_def (tuple_of (take n ts)) (listed vs) ≡ true → TysOf D G ts vs
  args_by of_def h n [] vs e = tt
  args_by of_def h n (t ∷ ts) [] e = tt
  args_by of_def h zero (t ∷ ts) (v ∷ vs) e = absurd (grind arith)
  args_by of_def h (suc n) (t ∷ ts) (v ∷ vs) e =
      let first = is_by of_def t v in
      let rest = is_by of_def (tuple_of (take n ts)) (listed vs) in
      (typed_by of_def h t v (and_true-left first rest e), args_by of_def h n ts vs (and_true-right first rest e))

  args_typed : (n : ℕ) (ls : List Tree) (vs : List Value) → has_type D (tuple_of (drop 1 (take (suc n) ls))) (listed vs) ≡ true → TysOf D G (args_of ls) vs
  unfolding has_type
  args_typed n [] vs e = tt
  args_typed n (t ∷ ls) vs e = args_by (is_def D (length D)) (typed_def (length D)) n ls vs e

-- ---- the start

only_body : (a b : TypedBody) → Some a ≡ Some b → a ≡ b
only_body a b e = grind arith

module _ (C : Code) (valid : ValidCode C) (tuples : Tuples C.shapes) where
  no_types : TypeMap
  no_types f x = None

  typed_from : (e : Entry) (k : IsEntry C e) (answers : List ℕ) (o : Option TypedBody) → slice_get C.bodies e.function ≡ o → o ≡ Some k.body → Typed C valid (record (start C e answers) { memory = record { frame = 0; slots = slots_at C e.args o } ∷ [] })
  unfolding open_frame no_types
  typed_from e k answers None at is = absurd (grind arith)
  typed_from e k answers (Some b) at is = state b at (let same : b ≡ k.body = grind arith in same)
    where
      state : (b : TypedBody) → slice_get C.bodies e.function ≡ Some b → b ≡ k.body → Typed C valid (record (start C e answers) { memory = record { frame = 0; slots = new_slots C.shapes b.locals e.args } ∷ [] })
      state b at same =
          let G = with_locals C valid no_types 0 b.locals in
          let args : TysOf C.shapes G (args_of b.locals) e.args = args_typed C.shapes G tuples b.args b.locals e.args (subst (λ (b : TypedBody). has_type C.shapes (tuple_of (arg_types b)) (listed e.args) ≡ true) (sym same) k.typed) in
          record {
            types = G;
            mem = open_ty C valid no_types [] 0 b.locals (new_slots C.shapes b.locals e.args) (λ x. refl) (record { at = λ f x t v g m. absurd (grind arith) }) (slots_ty C valid G b.locals e.args args);
            top = record { locals = λ b2 e2 x t q. with_new C valid no_types 0 b.locals x ∙ subst (λ (b : TypedBody). slice_get b.locals x ≡ Some t) (only_body b2 b (sym e2 ∙ at)) q; dest = λ d q. absurd (grind arith); dropping = tt };
            callers = tt;
            fresh = λ f x far. if_false (slice_get b.locals x) None (unequal 0 f (λ z. omega (arith, z, far)));
          }

  pub start_typed : (e : Entry) → IsEntry C e → (answers : List ℕ) → Typed C valid (start C e answers)
  start_typed e k answers = typed_from e k answers (slice_get C.bodies e.function) refl k.there
