-- Lists of values as they are seen.
use Rattle.std.proofs.Common.{◌≡◌, ℕ, zero, suc, nat_eq, if◌then◌else◌, Bor, ◌<◌, ◌≤◌, Bool, true, false, ◌&&◌, List, [], ◌∷◌, ◌++◌, map, length, take, drop, get_or, slice_get, Some, None, refl, sym, ap, ◌∙◌, arith, rules}
use Rattle.std.specs.Option.{option_map}
use Rattle.std.proofs.Math.ListN.{set, length-set}
use Rattle.std.proofs.lemmas.List.{set-set}
use Rattle.std.proofs.lemmas.Option.{slice_get-get_or}
use Rattle.mir_semantics.specs.Values.{Value, number, cons, variant, pointer, hole, listed, whole, is_hole, part, payload, inner, at_path, change_part, change_payload}
use Rattle.mir_syntax.specs.Shapes.{◌>>=◌}
use Rattle.mir_semantics.specs.Memory.{referent}
use Rattle.mir_semantics.specs.Step.{variant_in}
use Rattle.mir_meaning.specs.declared.datum.Datum.{Datum, Num, Parts, Variant, Ref, Hole, the_lemmas}
use Rattle.mir_meaning.specs.declared.part.Part.{Part}
use Rattle.mir_meaning.specs.declared.part.Part.TheVariants.{Fields}
use Rattle.mir_meaning.specs.Views.{value_of, addr_of, part_of}
use Rattle.mir_syntax.specs.declared.body.Proj.{Proj}
use Rattle.mir_meaning.specs.declared.pointer.Pointer.{Pointer}

pub view_parts : (vs : List Datum) → value_of (Parts vs) ≡ listed (map value_of vs)
view_parts vs = search (rules, the_lemmas)

pub view_variant : (k : ℕ) (vs : List Datum) → value_of (Variant k vs) ≡ variant k (listed (map value_of vs))
view_variant k vs = search (rules, the_lemmas)

pub view_num : (n : ℕ) → value_of (Num n) ≡ number n
view_num n = search (rules, the_lemmas)

pub view_ref : (p : Pointer) → value_of (Ref p) ≡ pointer (addr_of p)
view_ref p = search (rules, the_lemmas)

pub view_hole : value_of Hole ≡ hole
view_hole = search (rules, the_lemmas)

pub whole_false : (vs : List Datum) (i : ℕ) (v : Datum) → slice_get vs i ≡ Some v → whole (value_of v) ≡ false → whole (listed (map value_of vs)) ≡ false
whole_false [] i v h n = grind arith
whole_false (x ∷ vs) zero v h n = let e : x ≡ v = grind arith in rw (e, n) refl
whole_false (x ∷ vs) (suc i) v h n = rw (whole_false vs i v h n) (and-false (whole (value_of x)))
  where
    and-false : (b : Bool) → (b && false) ≡ false
    and-false true = refl
    and-false false = refl

pub whole_true : (vs : List Datum) → ((k : ℕ) → k < length vs → (v : Datum) → slice_get vs k ≡ Some v → whole (value_of v) ≡ true) → whole (listed (map value_of vs)) ≡ true
whole_true [] h = refl
whole_true (x ∷ vs) h = rw (h zero (omega arith) x refl, whole_true vs (λ k b v e. h (suc k) (omega arith) v e)) refl

pub part_get : (vs : List Datum) (i : ℕ) → part i (listed (map value_of vs)) ≡ option_map value_of (slice_get vs i)
part_get [] zero = refl
part_get [] (suc i) = refl
part_get (v ∷ vs) zero = refl
part_get (v ∷ vs) (suc i) = part_get vs i

pub change_set : (vs : List Datum) (i : ℕ) (f : Value → Value) (old new : Datum) → slice_get vs i ≡ Some old → value_of new ≡ f (value_of old)
    → listed (map value_of (set vs i new)) ≡ change_part i f (listed (map value_of vs))
change_set [] i f old new h e = grind arith
change_set (v ∷ vs) zero f old new h e = let o : v ≡ old = grind arith in ap (λ w. cons w (listed (map value_of vs))) (e ∙ ap (λ x. f (value_of x)) (sym o))
change_set (v ∷ vs) (suc i) f old new h e = ap (cons (value_of v)) (change_set vs i f old new h e)

pub change_past : (vs : List Datum) (i : ℕ) (f : Value → Value) → length vs ≤ i → change_part i f (listed (map value_of vs)) ≡ listed (map value_of vs)
change_past [] zero f h = refl
change_past [] (suc i) f h = refl
change_past (v ∷ vs) zero f h = absurd (omega arith)
change_past (v ∷ vs) (suc i) f h = ap (cons (value_of v)) (change_past vs i f (omega arith))

pub listed_hole : (vs : List Datum) → is_hole (listed (map value_of vs)) ≡ false
listed_hole [] = refl
listed_hole (v ∷ vs) = refl

pub listed_variant : (vs : List Datum) → variant_in (listed (map value_of vs)) ≡ None
listed_variant [] = refl
listed_variant (v ∷ vs) = refl

pub listed_referent : (vs : List Datum) → referent (listed (map value_of vs)) ≡ None
listed_referent [] = refl
listed_referent (v ∷ vs) = refl

pub listed_payload : (vs : List Datum) (k : ℕ) → payload k (listed (map value_of vs)) ≡ None
listed_payload [] k = refl
listed_payload (v ∷ vs) k = refl

pub listed_change_payload : (vs : List Datum) (k : ℕ) (f : Value → Value) → change_payload k f (listed (map value_of vs)) ≡ listed (map value_of vs)
listed_change_payload [] k f = refl
listed_change_payload (v ∷ vs) k f = refl

pub set_twice : (vs : List Datum) (i : ℕ) (a b : Datum) → set (set vs i a) i b ≡ set vs i b
set_twice [] i a b = refl
set_twice (v ∷ vs) zero a b = refl
set_twice (v ∷ vs) (suc i) a b = ap (λ l. v ∷ l) (set_twice vs i a b)

-- ---- a datum of each kind

pub parts_hole : (d : Datum) (vs : List Datum) → d ≡ Parts vs → false ≡ is_hole (value_of d)
parts_hole d vs e = sym (ap (λ x. is_hole (value_of x)) e ∙ (ap is_hole (view_parts vs) ∙ listed_hole vs))

pub parts_variant : (d : Datum) (vs : List Datum) → d ≡ Parts vs → None ≡ variant_in (value_of d)
parts_variant d vs e = sym (ap (λ x. variant_in (value_of x)) e ∙ (ap variant_in (view_parts vs) ∙ listed_variant vs))

pub parts_referent : (d : Datum) (vs : List Datum) → d ≡ Parts vs → None ≡ referent (value_of d)
parts_referent d vs e = sym (ap (λ x. referent (value_of x)) e ∙ (ap referent (view_parts vs) ∙ listed_referent vs))

pub parts_payload : (d : Datum) (vs : List Datum) (k : ℕ) → d ≡ Parts vs → None ≡ payload k (value_of d)
parts_payload d vs k e = sym (ap (λ x. payload k (value_of x)) e ∙ (ap (payload k) (view_parts vs) ∙ listed_payload vs k))

pub parts_listed : (d : Datum) (vs : List Datum) → d ≡ Parts vs → value_of d ≡ listed (map value_of vs)
parts_listed d vs e = ap value_of e ∙ view_parts vs

no_part : (v : Value) → part zero v ≡ None → ((i : ℕ) → part (suc i) v ≡ None) → (i : ℕ) → part i v ≡ None
no_part v a b zero = a
no_part v a b (suc i) = b i

pub num_part : (d : Datum) (n : ℕ) → d ≡ Num n → (i : ℕ) → part i (value_of d) ≡ None
num_part d n e i = ap (λ x. part i (value_of x)) e ∙ (ap (part i) (view_num n) ∙ no_part (number n) refl (λ j. refl) i)

pub variant_part : (d : Datum) (k : ℕ) (vs : List Datum) → d ≡ Variant k vs → (i : ℕ) → part i (value_of d) ≡ None
variant_part d k vs e i = ap (λ x. part i (value_of x)) e ∙ (ap (part i) (view_variant k vs) ∙ no_part (variant k (listed (map value_of vs))) refl (λ j. refl) i)

pub ref_part : (d : Datum) (p : Pointer) → d ≡ Ref p → (i : ℕ) → part i (value_of d) ≡ None
ref_part d p e i = ap (λ x. part i (value_of x)) e ∙ (ap (part i) (view_ref p) ∙ no_part (pointer (addr_of p)) refl (λ j. refl) i)

pub hole_part : (d : Datum) → d ≡ Hole → (i : ℕ) → part i (value_of d) ≡ None
hole_part d e i = ap (λ x. part i (value_of x)) e ∙ (ap (part i) view_hole ∙ no_part hole refl (λ j. refl) i)

pub variant_payload : (d : Datum) (j k : ℕ) (vs : List Datum) → d ≡ Variant j vs → payload k (value_of d) ≡ (if nat_eq j k then Some (listed (map value_of vs)) else None)
variant_payload d j k vs e = ap (λ x. payload k (value_of x)) e ∙ ap (payload k) (view_variant j vs)

pub fields_hole : (p : Part) (fs : Bor (List Datum)) → p ≡ Fields fs → false ≡ is_hole (part_of p)
fields_hole p fs e = sym (ap (λ x. is_hole (part_of x)) e ∙ listed_hole fs.now)

pub fields_variant : (p : Part) (fs : Bor (List Datum)) → p ≡ Fields fs → None ≡ variant_in (part_of p)
fields_variant p fs e = sym (ap (λ x. variant_in (part_of x)) e ∙ listed_variant fs.now)

pub fields_referent : (p : Part) (fs : Bor (List Datum)) → p ≡ Fields fs → None ≡ referent (part_of p)
fields_referent p fs e = sym (ap (λ x. referent (part_of x)) e ∙ listed_referent fs.now)

pub fields_payload : (p : Part) (fs : Bor (List Datum)) (k : ℕ) → p ≡ Fields fs → None ≡ payload k (part_of p)
fields_payload p fs k e = sym (ap (λ x. payload k (part_of x)) e ∙ listed_payload fs.now k)

pub item_none : (p : Value) (vs : List Datum) (i : ℕ) → p ≡ listed (map value_of vs) → None ≡ slice_get vs i → None ≡ part i p
item_none p vs i e n = sym (ap (part i) e ∙ (part_get vs i ∙ ap (option_map value_of) (sym n)))

pub item_some : (p : Value) (vs : List Datum) (i : ℕ) (d : Datum) → p ≡ listed (map value_of vs) → Some d ≡ slice_get vs i → Some (value_of d) ≡ part i p
item_some p vs i d e n = sym (ap (part i) e ∙ (part_get vs i ∙ ap (option_map value_of) (sym n)))

pub along_more : (ps rest : List Proj) (v w : Value) (q : Proj) → ps ≡ q ∷ rest → Some w ≡ inner q v → at_path rest w ≡ at_path ps v
unfolding ◌>>=◌
along_more ps rest v w q at is = rw at (ap (λ o. o >>= at_path rest) is)

pub along_none : (ps rest : List Proj) (v : Value) (q : Proj) → ps ≡ q ∷ rest → None ≡ inner q v → None ≡ at_path ps v
unfolding ◌>>=◌
along_none ps rest v q at is = rw at (ap (λ o. o >>= at_path rest) is)

pub along_end : (ps : List Proj) (v : Value) → ps ≡ [] → Some v ≡ at_path ps v
along_end ps v e = rw e refl

-- ---- writes through a slice of a list

pub take_front : {X : Type 0} (xs ys : List X) → take (length xs) (xs ++ ys) ≡ xs
take_front [] ys = refl
take_front (x ∷ xs) ys = ap (λ l. x ∷ l) (take_front xs ys)

pub unwritten : {X : Type 0} (xs slice : List X) → slice ≡ xs → take (length xs) (slice ++ drop (length slice) xs) ≡ xs
unwritten xs slice e = rw e (take_front xs (drop (length xs) xs))

pub written : {X : Type 0} (xs slice : List X) (i : ℕ) (x : X) → slice ≡ xs → take (length xs) (set slice i x ++ drop (length (set slice i x)) xs) ≡ set xs i x
written xs slice i x e = rw e (ap (λ n. take n (set xs i x ++ drop (length (set xs i x)) xs)) (sym (length-set xs i x)) ∙ take_front (set xs i x) (drop (length (set xs i x)) xs))

pub written_twice : {X : Type 0} (xs slice : List X) (i : ℕ) (a x : X) → slice ≡ xs → take (length xs) (set (set slice i a) i x ++ drop (length (set (set slice i a) i x)) xs) ≡ set xs i x
written_twice xs slice i a x e = rw (set-set slice i a x) (written xs slice i x e)

pub slot_read : {X : Type 0} (xs slice : List X) (i : ℕ) (d old : X) → slice ≡ xs → i < length slice → old ≡ get_or slice i d → slice_get xs i ≡ Some old
slot_read xs slice i d old e b o = rw (← e) (slice_get-get_or slice i d b ∙ ap (λ x. Some x) (sym o))

pub parts_change : (d : Datum) (vs : List Datum) (k : ℕ) (f : Value → Value) → d ≡ Parts vs → value_of (Parts vs) ≡ change_payload k f (value_of d)
parts_change d vs k f e = sym (ap (λ x. change_payload k f (value_of x)) e ∙ (ap (change_payload k f) (view_parts vs) ∙ (listed_change_payload vs k f ∙ sym (view_parts vs))))
