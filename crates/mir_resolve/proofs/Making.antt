-- Lists of parts that are made while the table grows: what stands there means the same in the larger table.
use Rattle.std.proofs.Common.{IsTrue, ◌≡◌, ℕ, ◌≤◌, ◌<◌, Bool, nat_lt, List, [], ◌∷◌, ◌++◌, ◌-◌, ◌&&◌, true, false, map, length, take, drop, get_or, refl, sym, ap, ap₂, ◌∙◌, arith, rules, append_assoc, append-nil}
use Rattle.std.proofs.lemmas.List.{map-append, take_all}
use Rattle.std.specs.List.{list_all}
use Rattle.mir_syntax.specs.declared.types.Ty.{Ty}
use Rattle.mir_syntax.specs.declared.types.TyId.{TyId}
use Rattle.mir_syntax.specs.Tree.{Tree, at_id, trees_of, Extends}
use Rattle.mir_syntax.specs.Crate.{TypedField, field_of, TypedVariant, variant_of}
use Rattle.mir_syntax.specs.Table.{all_below}
use Rattle.mir_resolve.specs.Definitions.{id_below}
use Rattle.mir_syntax.specs.Ids.{field_below, variant_below}
use Rattle.mir_syntax.proofs.Growth.{map-same, all-weaker, lt-more, length-extends, at_id-extends}

-- a part that lies in a table means the same in a larger one, and lies there too
pub record Keeps {X Y : Type 0} (of : List Tree → X → Y) (below : ℕ → X → Bool) : Type 0 where
  pub same : (old new : List Ty) → Extends old new → (x : X) → IsTrue (below (length old) x) → of (trees_of new) x ≡ of (trees_of old) x
  pub wider : (n m : ℕ) → n ≤ m → (x : X) → IsTrue (below n x) → IsTrue (below m x)

pub made_step : {X Y : Type 0} (of : List Tree → X → Y) (below : ℕ → X → Bool) → Keeps of below → (old new : List Ty) → Extends old new
    → (xs : List X) (x : X) (y : Y) (rest whole : List Y) → IsTrue (list_all (below (length old)) xs)
    → map (of (trees_of old)) xs ++ y ∷ rest ≡ whole → of (trees_of new) x ≡ y → map (of (trees_of new)) (xs ++ x ∷ []) ++ rest ≡ whole
made_step of below keeps old new e xs x y rest whole h told is =
    ap (λ l. l ++ rest) (map-append (of (trees_of new)) xs (x ∷ []) ∙ ap₂ (λ l v. l ++ v ∷ []) (map-same (below (length old)) (of (trees_of new)) (of (trees_of old)) (keeps.same old new e) xs h) is)
    ∙ append_assoc (map (of (trees_of old)) xs) (y ∷ []) rest
    ∙ told

all-snoc : {X : Type 0} (test : X → Bool) (xs : List X) (x : X) → IsTrue (list_all test xs) → IsTrue (test x) → IsTrue (list_all test (xs ++ x ∷ []))
all-snoc test [] x h k = search rules
all-snoc test (y ∷ xs) x h k =
    let both : IsTrue (test y) × IsTrue (list_all test xs) = search rules in
    let rest = all-snoc test xs x both.1 k in
    search rules

pub inside_step : {X Y : Type 0} (of : List Tree → X → Y) (below : ℕ → X → Bool) → Keeps of below → (old new : List Ty) → Extends old new
    → (xs : List X) (x : X) → IsTrue (list_all (below (length old)) xs) → IsTrue (below (length new) x) → IsTrue (list_all (below (length new)) (xs ++ x ∷ []))
inside_step of below keeps old new e xs x h k =
    all-snoc (below (length new)) xs x (all-weaker (below (length old)) (below (length new)) (keeps.wider (length old) (length new) (length-extends old new e)) xs h) k

-- where nothing is left all is made
pub made_ended : {Y Z : Type 0} (f : Z → Y) (left : List Z) (made whole : List Y) → length left < 1 → made ++ map f left ≡ whole → made ≡ whole
made_ended f [] made whole short h = sym (append-nil made) ∙ h
made_ended f (x ∷ left) made whole short h = absurd (omega arith)

-- what is left behind the first
abbrev pub later_of : {Z : Type 0} → List Z → List Z
later_of left = take (length left - 1) (drop 1 left)

later_all : {Z : Type 0} (z : Z) (left : List Z) → later_of (z ∷ left) ≡ left
later_all z left = take_all (length (z ∷ left) - 1) left (omega arith)

-- the first of what is left
pub first_left : {Z : Type 0} (left : List Z) (z : Z) → 1 ≤ length left → z ≡ get_or left 0 z → left ≡ z ∷ later_of left
first_left [] z h is = absurd (omega arith)
first_left (x ∷ left) z h is = ap₂ (λ y ys. y ∷ ys) (sym is) (sym (later_all x left))

pub and_step : (a b c d : Bool) → a && (b && c) ≡ d → (a && b) && c ≡ d
and_step true b c d h = h
and_step false b c d h = h

pub fields_keep : Keeps field_of field_below
fields_keep = record {
  same = λ old new e f h. let lt : f.ty.0 < length old = search rules in ap (λ t. let r : TypedField = record { name = f.name; ty = t } in r) (at_id-extends old new f.ty e lt);
  wider = λ n m le f h. lt-more n m f.ty.0 le h;
}

pub variants_keep : Keeps variant_of variant_below
variants_keep = record {
  same = λ old new e v h.
      ap (λ fields. let r : TypedVariant = record { name = v.name; form = v.form; fields = fields } in r)
      (map-same (field_below (length old)) (field_of (trees_of new)) (field_of (trees_of old)) (fields_keep.same old new e) v.fields h);
  wider = λ n m le v h. all-weaker (field_below n) (field_below m) (fields_keep.wider n m le) v.fields h;
}

pub ids_keep : Keeps at_id id_below
ids_keep = record {
  same = λ old new e id h. let lt : id.0 < length old = search rules in at_id-extends old new id e lt;
  wider = λ n m le id h. lt-more n m id.0 le h;
}

-- the ids of a list lie in a table
pub ids_all : (n : ℕ) (ids : List TyId) → IsTrue (list_all (id_below n) ids) → IsTrue (all_below n ids)
ids_all n [] h = refl
ids_all n (id ∷ ids) h =
    let both : IsTrue (nat_lt id.0 n) × IsTrue (list_all (id_below n) ids) = search rules in
    let rest = ids_all n ids both.1 in
    search rules
