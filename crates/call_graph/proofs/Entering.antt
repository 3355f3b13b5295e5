-- Parts of a type that are gone over: what is found, and what is left to go over.
use Rattle.std.proofs.Common.{◌≡◌, refl, sym, ap, ap₂, ◌∙◌, subst, ℕ, zero, suc, ◌+◌, ◌-◌, ◌<◌, ◌≤◌, Bool, true, false, ◌||◌, ◌&&◌, List, [], ◌∷◌, ◌++◌, append_assoc, append-nil, map, length, Option, Some, None, is_some, slice_get, arith}
use Rattle.std.specs.Prelude.{IsTrue, nat_lt, sum_by, option_to_list}
use Rattle.std.specs.List.{All, flat_map, list_all}
use Rattle.std.proofs.lemmas.Bool.{or_left, or_right}
use Rattle.std.proofs.lemmas.Bool.Decides.{nat_tests}
use Rattle.std.proofs.lemmas.List.{map-append, length-map}
use Rattle.std.proofs.lemmas.Grind.{flat_map-append}
use Rattle.std.proofs.lemmas.List.Sums.{sum_by-cons, sum_by-append, sum_by_push}
use Rattle.mir_syntax.specs.declared.types.TyId.{TyId}
use Rattle.mir_syntax.specs.declared.types.Field.{Field}
use Rattle.mir_syntax.specs.declared.types.Variant.{Variant}
use Rattle.mir_syntax.specs.Table.{all_below}
use Rattle.mir_syntax.specs.Ids.{field_below, variant_below}
use Rattle.mir_syntax.specs.Tree.{Tree, more, named, tuple_of, at_id, at_ids, trees_of}
use Rattle.mir_syntax.specs.declared.program.Program.{Program}
use Rattle.mir_syntax.specs.Crate.{field_of, variant_of, def_of, crate_of}
use Rattle.mir_syntax.proofs.Places.{shapes_from-length}
use Rattle.mir_syntax.specs.Shapes.{Shape, shapes_of, field_id, field_ty_of, fields_tuple, needs_by, any_needs, needs_of, needs_def, needs_drop, destructor_of, ◌>>=◌}
use Rattle.call_graph.specs.declared.parts.Part.{Part}
use Rattle.call_graph.specs.Callees.{destructors_by, destructors_of, destructors_def, destructors_in}
use Rattle.call_graph.specs.Walk.{added, all_added, part_at, reversed, variant_types, types_in, destructors_at, size_by, size_of, size_def, size_at, Entered, IsOpen, pending}

-- ---- numbers put at the end

pub added_append : (xs ys zs : List ℕ) → all_added xs (ys ++ zs) ≡ all_added (all_added xs ys) zs
added_append xs [] zs = refl
added_append xs (y ∷ ys) zs = added_append (added xs y) ys zs

-- ---- what types give

module _ (D : List Shape) (trees : List Tree) (depth : ℕ) where
  abbrev parts : List TyId → List Part
  parts ids = map (part_at depth) ids

  tuple_destructors : (ids : List TyId) → destructors_by (destructors_def D depth) (at_ids trees ids) ≡ flat_map (destructors_at D trees) (parts ids)
  tuple_destructors [] = refl
  tuple_destructors (id ∷ ids) = ap (λ (xs : List ℕ). destructors_by (destructors_def D depth) (at_id trees id) ++ xs) (tuple_destructors ids)

  tuple_size : (ids : List TyId) → suc (sum_by (size_at D trees) (parts ids)) ≡ size_by (size_def D depth) (at_ids trees ids)
  tuple_size [] = refl
  tuple_size (id ∷ ids) = let r = tuple_size ids in let s = sum_by-cons (size_at D trees) (part_at depth id) (parts ids) in omega (arith, r, s)

  fields_ids : (fs : List Field) → tuple_of (map field_ty_of (map (field_of trees) fs)) ≡ at_ids trees (map field_id fs)
  fields_ids [] = refl
  fields_ids (f ∷ fs) = ap (more (at_id trees f.ty)) (fields_ids fs)

  variants_destructors : (vs : List Variant) → flat_map (destructors_by (destructors_def D depth)) (map fields_tuple (map (variant_of trees) vs)) ≡ flat_map (destructors_at D trees) (parts (types_in vs))
  variants_destructors [] = refl
  variants_destructors (v ∷ vs) =
      ap₂ (λ (xs ys : List ℕ). xs ++ ys) (ap (destructors_by (destructors_def D depth)) (fields_ids v.fields) ∙ tuple_destructors (variant_types v)) (variants_destructors vs)
      ∙ sym (ap (flat_map (destructors_at D trees)) (map-append (part_at depth) (variant_types v) (types_in vs)) ∙ flat_map-append (destructors_at D trees) (parts (variant_types v)) (parts (types_in vs)))

  variants_size : (vs : List Variant) → sum_by (size_at D trees) (parts (types_in vs)) ≤ sum_by (size_by (size_def D depth)) (map fields_tuple (map (variant_of trees) vs))
  variants_size [] = omega arith
  variants_size (v ∷ vs) =
      let a = sum_by-cons (size_by (size_def D depth)) (fields_tuple (variant_of trees v)) (map fields_tuple (map (variant_of trees) vs)) in
      let b = ap (size_by (size_def D depth)) (fields_ids v.fields) in
      let c = tuple_size (variant_types v) in
      let d = ap (sum_by (size_at D trees)) (map-append (part_at depth) (variant_types v) (types_in vs)) in
      let e = sum_by-append (size_at D trees) (parts (variant_types v)) (parts (types_in vs)) in
      let r = variants_size vs in
      omega (arith, a, b, c, d, e, r)

-- ---- ids in the table

and_both : (a b : Bool) → IsTrue a → IsTrue b → IsTrue (a && b)
and_both a b x y = grind arith

and_first : (a b : Bool) → IsTrue (a && b) → IsTrue a
and_first a b x = grind arith

and_second : (a b : Bool) → IsTrue (a && b) → IsTrue b
and_second a b x = grind arith

below_append : (n : ℕ) (xs ys : List TyId) → IsTrue (all_below n xs) → IsTrue (all_below n ys) → IsTrue (all_below n (xs ++ ys))
below_append n [] ys a b = b
below_append n (x ∷ xs) ys a b = and_both (nat_lt x.0 n) (all_below n (xs ++ ys)) (and_first (nat_lt x.0 n) (all_below n xs) a) (below_append n xs ys (and_second (nat_lt x.0 n) (all_below n xs) a) b)

pub below_more : (m n : ℕ) (xs : List TyId) → m ≤ n → IsTrue (all_below m xs) → IsTrue (all_below n xs)
below_more m n [] l a = a
below_more m n (x ∷ xs) l a =
    let here : IsTrue (nat_lt x.0 n) = (let b = and_first (nat_lt x.0 m) (all_below m xs) a in grind (arith, nat_tests)) in
    and_both (nat_lt x.0 n) (all_below n xs) here (below_more m n xs l (and_second (nat_lt x.0 m) (all_below m xs) a))

fields_below : (n : ℕ) (fs : List Field) → IsTrue (list_all (field_below n) fs) → IsTrue (all_below n (map field_id fs))
fields_below n [] a = a
fields_below n (f ∷ fs) a = and_both (nat_lt f.ty.0 n) (all_below n (map field_id fs)) (and_first (nat_lt f.ty.0 n) (list_all (field_below n) fs) a) (fields_below n fs (and_second (nat_lt f.ty.0 n) (list_all (field_below n) fs) a))

pub variants_below : (n : ℕ) (vs : List Variant) → IsTrue (list_all (variant_below n) vs) → IsTrue (all_below n (types_in vs))
variants_below n [] a = a
variants_below n (v ∷ vs) a = below_append n (variant_types v) (types_in vs) (fields_below n v.fields (and_first (variant_below n v) (list_all (variant_below n) vs) a)) (variants_below n vs (and_second (variant_below n v) (list_all (variant_below n) vs) a))

-- ---- a part was gone over

module _ (D : List Shape) (trees : List Tree) (part : Part) (found : List ℕ) (stack : List Part) where
  -- nothing was there
  pub nothing_entered : destructors_at D trees part ≡ [] → 1 ≤ size_at D trees part → Entered D trees part found found stack stack
  nothing_entered e s = record {
    own = [];
    inner = [];
    depth = part.depth;
    found_is = refl;
    stack_is = sym (append-nil stack);
    destructors_are = e;
    smaller = s;
    deep = omega arith;
    in_table = refl;
  }

  -- a tuple
  pub tuple_entered : (stack2 : List Part) (ids : List TyId) → at_id trees part.ty ≡ at_ids trees ids → IsTrue (all_below (length trees) ids) → stack2 ≡ stack ++ reversed (map (part_at part.depth) ids) → Entered D trees part found found stack stack2
  tuple_entered stack2 ids is below e = record {
    own = [];
    inner = ids;
    depth = part.depth;
    found_is = refl;
    stack_is = e;
    destructors_are = ap (destructors_by (destructors_def D part.depth)) is ∙ tuple_destructors D trees part.depth ids;
    smaller = (let a = ap (size_by (size_def D part.depth)) is in let b = tuple_size D trees part.depth ids in omega (arith, a, b));
    deep = omega arith;
    in_table = below;
  }

  -- a definition
  pub definition_entered : (found2 : List ℕ) (stack2 : List Part) (d n : ℕ) (s : Shape) (vs : List Variant) → at_id trees part.ty ≡ named d → part.depth ≡ suc n → slice_get D d ≡ Some s → s.variants ≡ map fields_tuple (map (variant_of trees) vs) → IsTrue (all_below (length trees) (types_in vs)) → found2 ≡ all_added found (option_to_list s.destructor) → stack2 ≡ stack ++ reversed (map (part_at n) (types_in vs)) → Entered D trees part found found2 stack stack2
  definition_entered found2 stack2 d n s vs is at there variants below f e = record {
    own = option_to_list s.destructor;
    inner = types_in vs;
    depth = n;
    found_is = f;
    stack_is = e;
    destructors_are =
        ap₂ (λ (k : ℕ) (t : Tree). destructors_by (destructors_def D k) t) at is ∙ ap (destructors_of (destructors_def D n)) there
        ∙ ap (λ (xs : List ℕ). option_to_list s.destructor ++ xs) (ap (flat_map (destructors_by (destructors_def D n))) variants ∙ variants_destructors D trees n vs);
    smaller =
        (let a = ap₂ (λ (k : ℕ) (t : Tree). size_by (size_def D k) t) at is ∙ ap (size_of (size_def D n)) there in
        let b = ap (sum_by (size_by (size_def D n))) variants in
        let c = variants_size D trees n vs in
        omega (arith, a, b, c));
    deep = omega (arith, at);
    in_table = below;
  }

-- every part has some size
size_there : (D : List Shape) (k d : ℕ) → 1 ≤ size_def D k d
size_there D zero d = omega arith
size_there D (suc k) d = go (slice_get D d)
  where
    go : (o : Option Shape) → 1 ≤ size_of (size_def D k) o
    go None = omega arith
    go (Some s) = omega arith

pub size_some : (D : List Shape) (k : ℕ) (t : Tree) → 1 ≤ size_by (size_def D k) t
size_some D k (more t ts) = let r = size_some D k ts in omega (arith, r)
size_some D k (named d) = size_there D k d
size_some D k t = omega arith

-- ---- a type that needs no drop has no destructors in it

or_none : (a b : Bool) → (a || b) ≡ false → (a ≡ false) × (b ≡ false)
or_none false false e = (refl, refl)
or_none false true e = absurd (cc)
or_none true b e = absurd (cc)

no_own : (o : Option ℕ) → is_some o ≡ false → option_to_list o ≡ []
no_own None e = refl
no_own (Some x) e = absurd (cc)

module _ (D : List Shape) where
  none_by : (p : ℕ → Bool) (of_def : ℕ → List ℕ) → ((d : ℕ) → p d ≡ false → of_def d ≡ []) → (t : Tree) → needs_by p t ≡ false → destructors_by of_def t ≡ []
  none_by p of_def h (more t ts) e = let b = or_none (needs_by p t) (needs_by p ts) e in ap₂ (λ (xs ys : List ℕ). xs ++ ys) (none_by p of_def h t b.0) (none_by p of_def h ts b.1)
  none_by p of_def h (named d) e = h d e
  none_by p of_def h t e = refl

  none_in_any : (p : ℕ → Bool) (of_def : ℕ → List ℕ) → ((d : ℕ) → p d ≡ false → of_def d ≡ []) → (ts : List Tree) → any_needs p ts ≡ false → flat_map (destructors_by of_def) ts ≡ []
  none_in_any p of_def h [] e = refl
  none_in_any p of_def h (t ∷ ts) e = let b = or_none (needs_by p t) (any_needs p ts) e in ap₂ (λ (xs ys : List ℕ). xs ++ ys) (none_by p of_def h t b.0) (none_in_any p of_def h ts b.1)

  none_def : (k d : ℕ) → needs_def D k d ≡ false → destructors_def D k d ≡ []
  none_def zero d e = refl
  none_def (suc k) d e = go (slice_get D d) e (λ j. none_def k j)
    where
      go : (o : Option Shape) → needs_of (needs_def D k) o ≡ false → ((d : ℕ) → needs_def D k d ≡ false → destructors_def D k d ≡ []) → destructors_of (destructors_def D k) o ≡ []
      go None e inner = refl
      go (Some s) e inner = let b = or_none (is_some s.destructor) (any_needs (needs_def D k) s.variants) e in ap₂ (λ (xs ys : List ℕ). xs ++ ys) (no_own s.destructor b.0) (none_in_any (needs_def D k) (destructors_def D k) inner s.variants b.1)

  or_map : (a b c d : Bool) → (a ≡ true → c ≡ true) → (b ≡ true → d ≡ true) → (a || b) ≡ true → (c || d) ≡ true
  or_map true b c d f g e = or_left c d (f refl)
  or_map false b c d f g e = or_right c d (g e)

  module _ (p q : ℕ → Bool) (f : (k : ℕ) → p k ≡ true → q k ≡ true) where
    by_mono : (t : Tree) → needs_by p t ≡ true → needs_by q t ≡ true
    by_mono (more t ts) h = or_map (needs_by p t) (needs_by p ts) (needs_by q t) (needs_by q ts) (by_mono t) (by_mono ts) h
    by_mono (named d) h = f d h
    by_mono t h = absurd (grind arith)

    any_mono : (ts : List Tree) → any_needs p ts ≡ true → any_needs q ts ≡ true
    any_mono [] h = absurd (grind arith)
    any_mono (t ∷ ts) h = or_map (needs_by p t) (any_needs p ts) (needs_by q t) (any_needs q ts) (by_mono t) (any_mono ts) h

    of_mono : (o : Option Shape) → needs_of p o ≡ true → needs_of q o ≡ true
    of_mono None h = absurd (grind arith)
    of_mono (Some s) h = or_map (is_some s.destructor) (any_needs p s.variants) (is_some s.destructor) (any_needs q s.variants) (λ e. e) (any_mono s.variants) h

  deeper : (k d : ℕ) → needs_def D k d ≡ true → needs_def D (suc k) d ≡ true
  deeper zero d e = absurd (cc)
  deeper (suc k) d e = of_mono (needs_def D k) (needs_def D (suc k)) (deeper k) (slice_get D d) e

  much_deeper : (j k d : ℕ) → needs_def D k d ≡ true → needs_def D (j + k) d ≡ true
  much_deeper zero k d e = subst (λ (n : ℕ). needs_def D n d ≡ true) (let z : k ≡ 0 + k = omega arith in z) e
  much_deeper (suc j) k d e = subst (λ (n : ℕ). needs_def D n d ≡ true) (let z : suc (j + k) ≡ suc j + k = omega arith in z) (deeper (j + k) d (much_deeper j k d e))

  pub none_needed : (k : ℕ) (t : Tree) → k ≤ length D → needs_drop D t ≡ false → destructors_by (destructors_def D k) t ≡ []
  unfolding needs_drop
  none_needed k t l e = none_by (needs_def D k) (destructors_def D k) (none_def k) t (go (needs_by (needs_def D k) t) refl)
    where
      more_deep : (d : ℕ) → needs_def D k d ≡ true → needs_def D (length D) d ≡ true
      more_deep d h = subst (λ (n : ℕ). needs_def D n d ≡ true) (let z : (length D - k) + k ≡ length D = omega arith in z) (much_deeper (length D - k) k d h)

      go : (b : Bool) → needs_by (needs_def D k) t ≡ b → b ≡ false
      go false h = refl
      go true h = absurd (let m = by_mono (needs_def D k) (needs_def D (length D)) more_deep t h in let n : needs_by (needs_def D (length D)) t ≡ false = e in cc)

-- ---- the parts that are left

pub reversed_pending : (D : List Shape) (trees : List Tree) (rest ps : List Part) → pending D trees (rest ++ reversed ps) ≡ flat_map (destructors_at D trees) ps ++ pending D trees rest
reversed_pending D trees rest [] = ap (pending D trees) (append-nil rest)
reversed_pending D trees rest (p ∷ ps) =
    ap (pending D trees) (sym (append_assoc rest (reversed ps) (p ∷ [])))
    ∙ last_pending (rest ++ reversed ps) p
    ∙ ap (λ (xs : List ℕ). destructors_at D trees p ++ xs) (reversed_pending D trees rest ps)
    ∙ sym (append_assoc (destructors_at D trees p) (flat_map (destructors_at D trees) ps) (pending D trees rest))
  where
    last_pending : (xs : List Part) (p : Part) → pending D trees (xs ++ p ∷ []) ≡ destructors_at D trees p ++ pending D trees xs
    last_pending [] p = sym (append-nil (destructors_at D trees p))
    last_pending (x ∷ xs) p = ap (λ (ys : List ℕ). ys ++ destructors_at D trees x) (last_pending xs p) ∙ append_assoc (destructors_at D trees p) (pending D trees xs) (destructors_at D trees x)

pub last_pending : (D : List Shape) (trees : List Tree) (xs : List Part) (p : Part) → pending D trees (xs ++ p ∷ []) ≡ destructors_at D trees p ++ pending D trees xs
last_pending D trees xs p = reversed_pending D trees xs (p ∷ []) ∙ ap (λ (ys : List ℕ). ys ++ pending D trees xs) (append-nil (destructors_at D trees p))

abbrev pub AllOpen : List Shape → List Tree → List Part → Type 0
AllOpen D trees [] = Unit {0}
AllOpen D trees (p ∷ ps) = IsOpen D trees p × AllOpen D trees ps

open_append : (D : List Shape) (trees : List Tree) (xs ys : List Part) → AllOpen D trees xs → AllOpen D trees ys → AllOpen D trees (xs ++ ys)
open_append D trees [] ys a b = b
open_append D trees (x ∷ xs) ys a b = (a.0, open_append D trees xs ys a.1 b)

open_left : (D : List Shape) (trees : List Tree) (xs ys : List Part) → AllOpen D trees (xs ++ ys) → AllOpen D trees xs × AllOpen D trees ys
open_left D trees [] ys a = (tt, a)
open_left D trees (x ∷ xs) ys a = let r = open_left D trees xs ys a.1 in ((a.0, r.0), r.1)

open_inner : (D : List Shape) (trees : List Tree) (depth : ℕ) (ids : List TyId) → depth ≤ length D → IsTrue (all_below (length trees) ids) → AllOpen D trees (reversed (map (part_at depth) ids))
open_inner D trees depth [] l a = tt
open_inner D trees depth (id ∷ ids) l a =
    open_append D trees (reversed (map (part_at depth) ids)) (part_at depth id ∷ []) (open_inner D trees depth ids l (and_second (nat_lt id.0 (length trees)) (all_below (length trees) ids) a))
    (record { in_table = (let b = and_first (nat_lt id.0 (length trees)) (all_below (length trees) ids) a in grind (arith, nat_tests)); deep = l }, tt)

reversed_size : (D : List Shape) (trees : List Tree) (ps : List Part) → sum_by (size_at D trees) (reversed ps) ≡ sum_by (size_at D trees) ps
reversed_size D trees [] = refl
reversed_size D trees (p ∷ ps) = let a = sum_by_push (size_at D trees) (reversed ps) p in let b = sum_by-cons (size_at D trees) p ps in let r = reversed_size D trees ps in omega (arith, a, b, r)

-- ---- all below a bound

abbrev pub Below : ℕ → List ℕ → Type 0
Below n xs = All (λ f. f < n) xs

pub below_left : (n : ℕ) (xs ys : List ℕ) → Below n (xs ++ ys) → Below n xs
below_left n [] ys a = λ k d l. absurd (omega arith)
below_left n (x ∷ xs) ys a = go (below_left n xs ys (λ k d l. a (suc k) d (omega (arith, l))))
  where
    go : Below n xs → Below n (x ∷ xs)
    go r zero d l = a 0 d (omega arith)
    go r (suc k) d l = r k d (omega (arith, l))

pub below_right : (n : ℕ) (xs ys : List ℕ) → Below n (xs ++ ys) → Below n ys
below_right n [] ys a = a
below_right n (x ∷ xs) ys a = below_right n xs ys (λ k d l. a (suc k) d (omega (arith, l)))

-- ---- the walk

pub record Going (D : List Shape) (trees : List Tree) (bits : ℕ) (start whole found : List ℕ) (stack : List Part) : Type 0 where
  pub all : all_added found (pending D trees stack) ≡ all_added start whole
  pub inside : Below bits (pending D trees stack)
  pub parts_open : AllOpen D trees stack

module _ (D : List Shape) (trees : List Tree) (bits : ℕ) (start whole found : List ℕ) (stack rest : List Part) (part : Part) (going : Going D trees bits start whole found stack) (popped : stack ≡ rest ++ part ∷ []) where
  pending_is : pending D trees stack ≡ destructors_at D trees part ++ pending D trees rest
  pending_is = ap (pending D trees) popped ∙ last_pending D trees rest part

  pub part_open : IsOpen D trees part
  part_open = (open_left D trees rest (part ∷ []) (subst (AllOpen D trees) popped going.parts_open)).1.0

  rest_open : AllOpen D trees rest
  rest_open = (open_left D trees rest (part ∷ []) (subst (AllOpen D trees) popped going.parts_open)).0

  pub part_inside : Below bits (destructors_at D trees part)
  part_inside = below_left bits (destructors_at D trees part) (pending D trees rest) (subst (Below bits) pending_is going.inside)

  stack_size : sum_by (size_at D trees) stack ≡ sum_by (size_at D trees) rest + size_at D trees part
  stack_size = ap (sum_by (size_at D trees)) popped ∙ sum_by_push (size_at D trees) rest part

  -- a part that needs no drop
  pub skipped : needs_drop D (at_id trees part.ty) ≡ false → Going D trees bits start whole found rest
  skipped e =
      let none : destructors_at D trees part ≡ [] = none_needed D part.depth (at_id trees part.ty) part_open.deep e in
      let same : pending D trees stack ≡ pending D trees rest = pending_is ∙ ap (λ (xs : List ℕ). xs ++ pending D trees rest) none in
      record {
        all = ap (all_added found) (sym same) ∙ going.all;
        inside = subst (Below bits) same going.inside;
        parts_open = rest_open;
      }

  pub skipped_less : sum_by (size_at D trees) rest < sum_by (size_at D trees) stack
  skipped_less = let a = size_some D part.depth (at_id trees part.ty) in omega (arith, a, stack_size)

  module _ (found2 : List ℕ) (stack2 : List Part) (entered : Entered D trees part found found2 rest stack2) where
    abbrev inner : List Part
    inner = map (part_at entered.depth) entered.inner

    left_is : pending D trees stack ≡ entered.own ++ pending D trees stack2
    left_is =
        pending_is ∙ ap (λ (xs : List ℕ). xs ++ pending D trees rest) entered.destructors_are
        ∙ append_assoc entered.own (flat_map (destructors_at D trees) inner) (pending D trees rest)
        ∙ ap (λ (xs : List ℕ). entered.own ++ xs) (sym (ap (pending D trees) entered.stack_is ∙ reversed_pending D trees rest inner))

    pub went : Going D trees bits start whole found2 stack2
    went = record {
      all = ap (λ (xs : List ℕ). all_added xs (pending D trees stack2)) entered.found_is ∙ sym (added_append found entered.own (pending D trees stack2)) ∙ ap (all_added found) (sym left_is) ∙ going.all;
      inside = below_right bits entered.own (pending D trees stack2) (subst (Below bits) left_is going.inside);
      parts_open = subst (AllOpen D trees) (sym entered.stack_is) (open_append D trees rest (reversed inner) rest_open (open_inner D trees entered.depth entered.inner (let a = entered.deep in let b = part_open.deep in omega (arith, a, b)) entered.in_table));
    }

    pub went_less : sum_by (size_at D trees) stack2 < sum_by (size_at D trees) stack
    went_less =
        let a = ap (sum_by (size_at D trees)) entered.stack_is in
        let b = sum_by-append (size_at D trees) rest (reversed inner) in
        let c = reversed_size D trees inner in
        let d = entered.smaller in
        omega (arith, a, b, c, d, stack_size)

pub walk_begins : (D : List Shape) (trees : List Tree) (bits : ℕ) (start : List ℕ) (stack : List Part) (id : TyId) → stack ≡ record { ty = id; depth = length D } ∷ [] → id.0 < length trees → Below bits (destructors_in D (at_id trees id)) → Going D trees bits start (destructors_in D (at_id trees id)) start stack
unfolding destructors_in
walk_begins D trees bits start stack id e lt inside = record {
  all = ap (λ (ps : List Part). all_added start (pending D trees ps)) e;
  inside = subst (λ (ps : List Part). Below bits (pending D trees ps)) (sym e) inside;
  parts_open = subst (AllOpen D trees) (sym e) (record { in_table = lt; deep = omega arith }, tt);
}

-- the destructor of a definition
pub own_destructor_is : (D : List Shape) (t : Tree) (d : ℕ) (s : Shape) → t ≡ named d → slice_get D d ≡ Some s → destructor_of D t ≡ s.destructor
unfolding ◌>>=◌
own_destructor_is D t d s is there = ap (destructor_of D) is ∙ ap (λ (o : Option Shape). o >>= λ s. s.destructor) there

-- no such definition
pub none_defined : (D : List Shape) (k : ℕ) (t : Tree) (d : ℕ) → t ≡ named d → slice_get D d ≡ None → destructors_by (destructors_def D k) t ≡ []
none_defined D zero t d is none = ap (destructors_by (destructors_def D 0)) is
none_defined D (suc k) t d is none = ap (destructors_by (destructors_def D (suc k))) is ∙ ap (destructors_of (destructors_def D k)) none

-- the own destructor is one of those in the type
pub own_below : (D : List Shape) (bits k : ℕ) (t : Tree) (d : ℕ) (s : Shape) → t ≡ named d → slice_get D d ≡ Some s → (k ≡ 0 → ⊥) → Below bits (destructors_by (destructors_def D k) t) → Below bits (option_to_list (destructor_of D t))
own_below D bits zero t d s is there some inside = absurd (some refl)
own_below D bits (suc k) t d s is there some inside =
    let whole : destructors_by (destructors_def D (suc k)) t ≡ option_to_list s.destructor ++ flat_map (destructors_by (destructors_def D k)) s.variants = ap (destructors_by (destructors_def D (suc k))) is ∙ ap (destructors_of (destructors_def D k)) there in
    subst (λ (o : Option ℕ). Below bits (option_to_list o)) (sym (own_destructor_is D t d s is there)) (below_left bits (option_to_list s.destructor) (flat_map (destructors_by (destructors_def D k)) s.variants) (subst (Below bits) whole inside))

-- there are as many shapes as definitions
pub shapes_many : (p : Program) → length (shapes_of (crate_of p)) ≡ length p.defs
unfolding shapes_of
shapes_many p = shapes_from-length (crate_of p).functions 0 (crate_of p).defs ∙ length-map p.defs (def_of (trees_of p.types))

-- at the end nothing is left
pub ended : (D : List Shape) (trees : List Tree) (bits : ℕ) (start whole found : List ℕ) (stack : List Part) → Going D trees bits start whole found stack → stack ≡ [] → found ≡ all_added start whole
ended D trees bits start whole found stack going e = sym (ap (λ (ps : List Part). all_added found (pending D trees ps)) e) ∙ going.all
