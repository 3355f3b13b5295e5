-- What is read from integers is a value of the type in front of the rest, and each such value is read.
use Rattle.std.proofs.Common.{◌≡◌, ◌∙◌, refl, sym, ap, subst, ℕ, zero, suc, ◌<◌, ◌≤◌, ◌^◌, Bool, true, false, nat_lt, List, [], ◌∷◌, ◌++◌, length, slice_get, Option, Some, None, arith, append_assoc, ℤ, pos, negsuc}
use Rattle.std.proofs.lemmas.Bool.{and_parts}
use Rattle.std.proofs.lemmas.Bool.Decides.{nat_tests}
use Rattle.std.proofs.lemmas.Option.{slice_get_within}
use Rattle.mir_syntax.specs.declared.types.ScalarTy.{ScalarTy}
use Rattle.mir_syntax.specs.Tree.{Tree, scalar, empty, more, ref, ref_mut, named}
use Rattle.mir_syntax.specs.Shapes.{Shape, ◌>>=◌, struct_fields}
use Rattle.mir_num.specs.Widths.{patterns}
use Rattle.mir_num.specs.Numbers.{integer_of, exactly}
use Rattle.mir_semantics.specs.Values.{Value, number, nil, cons, variant}
use Rattle.mir_semantics.specs.Entry.{is_by, is_variant_of, is_of, is_def, both, flat_by, flat_fields, flat_variant, flat_of, flat_def, has_type, flat}
use Rattle.mir_entry.specs.Readings.{Reading, read_scalar, scalar_front, then_read, read_by, as_variant, with_number, read_fields, read_variant, read_of, read_def, reading}
use Rattle.mir_entry.proofs.Integers.{bits_for, exact_of}

-- a value, by whether it is of a type and its flat form, stands in front of the rest
pub record Front (typed : Bool) (form : Option (List ℤ)) (is rest : List ℤ) : Type 0 where
  pub front : List ℤ
  pub is_typed : typed ≡ true
  pub is_form : form ≡ Some front
  pub whole : is ≡ front ++ rest

abbrev pub Sound : (ℕ → List ℤ → Reading) → (ℕ → Value → Bool) → (ℕ → Value → Option (List ℤ)) → Type 0
Sound F I G = (d : ℕ) (is : List ℤ) (v : Value) (rest : List ℤ) → F d is ≡ Some (v, rest) → Front (I d v) (G d v) is rest

abbrev pub Complete : (ℕ → List ℤ → Reading) → (ℕ → Value → Bool) → (ℕ → Value → Option (List ℤ)) → Type 0
Complete F I G = (d : ℕ) (v : Value) (front rest : List ℤ) → I d v ≡ true → G d v ≡ Some front → F d (front ++ rest) ≡ Some (v, rest)

-- ---- sound

scalar_sound : (s : ScalarTy) (i : ℤ) (is : List ℤ) (v : Value) (rest : List ℤ) (o : Option ℕ) → exactly s i ≡ o → read_scalar is o ≡ Some (v, rest) → (F : ℕ → Value → Bool) (G : ℕ → Value → Option (List ℤ)) → Front (is_by F (scalar s) v) (flat_by G (scalar s) v) (i ∷ is) rest
scalar_sound s i is v rest None e h F G = absurd cc
scalar_sound s i is v rest (Some n) e h F G =
    let b = bits_for s i n e in
    let pair : ◌≡◌ {A = Value × List ℤ} (number n, is) (v, rest) = cc in
    let value : number n ≡ v = ap (λ p. p.0) pair in
    let behind : is ≡ rest = ap (λ p. p.1) pair in
    let shown = b.shown in
    let small = b.small in
    subst (λ w. Front (is_by F (scalar s) w) (flat_by G (scalar s) w) (i ∷ is) rest) value
    (record { front = i ∷ []; is_typed = grind (arith, nat_tests); is_form = rw shown refl; whole = ap (λ x. i ∷ x) behind })

pair_sound : (I : ℕ → Value → Bool) (G : ℕ → Value → Option (List ℤ)) (t ts : Tree) (v vs : Value) (is mid rest : List ℤ)
    → Front (is_by I t v) (flat_by G t v) is mid → Front (is_by I ts vs) (flat_by G ts vs) mid rest → Front (is_by I (more t ts) (cons v vs)) (flat_by G (more t ts) (cons v vs)) is rest
unfolding ◌>>=◌
pair_sound I G t ts v vs is mid rest a b = record {
  front = a.front ++ b.front;
  is_typed = rw (a.is_typed, b.is_typed) refl;
  is_form = rw (a.is_form, b.is_form) refl;
  whole = a.whole ∙ ap (λ x. a.front ++ x) b.whole ∙ sym (append_assoc a.front b.front rest);
}

more_sound : (F : ℕ → List ℤ → Reading) (I : ℕ → Value → Bool) (G : ℕ → Value → Option (List ℤ)) (t ts : Tree)
    → ((is : List ℤ) (v : Value) (rest : List ℤ) → read_by F t is ≡ Some (v, rest) → Front (is_by I t v) (flat_by G t v) is rest)
    → ((is : List ℤ) (v : Value) (rest : List ℤ) → read_by F ts is ≡ Some (v, rest) → Front (is_by I ts v) (flat_by G ts v) is rest)
    → (is : List ℤ) (v : Value) (rest : List ℤ) → read_by F (more t ts) is ≡ Some (v, rest) → Front (is_by I (more t ts) v) (flat_by G (more t ts) v) is rest
unfolding ◌>>=◌
more_sound F I G t ts first_sound others_sound is v rest h = by_first (read_by F t is) refl h
  where
    by_second : (x : Value × List ℤ) → read_by F t is ≡ Some x → (y : Reading) → read_by F ts x.1 ≡ y → ◌>>=◌ {B = Value × List ℤ} y (λ z. Some (cons x.0 z.0, z.1)) ≡ Some (v, rest) → Front (is_by I (more t ts) v) (flat_by G (more t ts) v) is rest
    by_second x e None g k = absurd cc
    by_second x e (Some y) g k =
        let pair : ◌≡◌ {A = Value × List ℤ} (cons x.0 y.0, y.1) (v, rest) = cc in
        let both_sound = pair_sound I G t ts x.0 y.0 is x.1 y.1 (first_sound is x.0 x.1 e) (others_sound x.1 y.0 y.1 g) in
        let first = subst (λ w. Front (is_by I (more t ts) w) (flat_by G (more t ts) w) is y.1) (ap (λ p. p.0) pair) both_sound in
        subst (λ r. Front (is_by I (more t ts) v) (flat_by G (more t ts) v) is r) (ap (λ p. p.1) pair) first

    by_first : (x : Reading) → read_by F t is ≡ x → then_read (read_by F ts) x ≡ Some (v, rest) → Front (is_by I (more t ts) v) (flat_by G (more t ts) v) is rest
    by_first None e g = absurd cc
    by_first (Some x) e g = by_second x e (read_by F ts x.1) refl g

sound_by : (F : ℕ → List ℤ → Reading) (I : ℕ → Value → Bool) (G : ℕ → Value → Option (List ℤ)) → Sound F I G → (t : Tree) (is : List ℤ) (v : Value) (rest : List ℤ) → read_by F t is ≡ Some (v, rest) → Front (is_by I t v) (flat_by G t v) is rest
sound_by F I G def (scalar s) [] v rest h = absurd cc
sound_by F I G def (scalar s) (i ∷ is) v rest h = scalar_sound s i is v rest (exactly s i) refl h I G
sound_by F I G def empty is v rest h =
    let pair : ◌≡◌ {A = Value × List ℤ} (nil, is) (v, rest) = cc in
    subst (λ w. Front (is_by I empty w) (flat_by G empty w) is rest) (ap (λ p. p.0) pair)
    (record { front = []; is_typed = refl; is_form = refl; whole = ap (λ p. p.1) pair })
sound_by F I G def (more t ts) is v rest h = more_sound F I G t ts (λ i w r e. sound_by F I G def t i w r e) (λ i w r e. sound_by F I G def ts i w r e) is v rest h
sound_by F I G def (ref t) is v rest h = absurd cc
sound_by F I G def (ref_mut t) is v rest h = absurd cc
sound_by F I G def (named d) is v rest h = def d is v rest h

variant_sound : (F : ℕ → List ℤ → Reading) (I : ℕ → Value → Bool) (G : ℕ → Value → Option (List ℤ)) → Sound F I G → (ts : List Tree) (is : List ℤ) (v : Value) (rest : List ℤ) → read_variant F ts is ≡ Some (v, rest) → Front (is_variant_of I ts v) (flat_variant G ts v) is rest
unfolding ◌>>=◌
variant_sound F I G def ts [] v rest h = absurd cc
variant_sound F I G def ts (negsuc k ∷ is) v rest h = absurd cc
variant_sound F I G def ts (pos k ∷ is) v rest h = by_size (nat_lt k (2 ^ 32)) refl
  where
    by_value : (t : Tree) → slice_get ts k ≡ Some t → (y : Reading) → read_by F t is ≡ y → as_variant k y ≡ Some (v, rest) → Front (is_variant_of I ts v) (flat_variant G ts v) (pos k ∷ is) rest
    by_value t e None g q = absurd cc
    by_value t e (Some y) g q =
        let pair : ◌≡◌ {A = Value × List ℤ} (variant k y.0, y.1) (v, rest) = cc in
        let inner = sound_by F I G def t is y.0 y.1 g in
        let whole : Front (is_variant_of I ts (variant k y.0)) (flat_variant G ts (variant k y.0)) (pos k ∷ is) y.1 =
        record { front = pos k ∷ inner.front; is_typed = rw e inner.is_typed; is_form = rw (e, inner.is_form) refl; whole = ap (λ x. pos k ∷ x) inner.whole } in
        let first = subst (λ w. Front (is_variant_of I ts w) (flat_variant G ts w) (pos k ∷ is) y.1) (ap (λ p. p.0) pair) whole in
        subst (λ r. Front (is_variant_of I ts v) (flat_variant G ts v) (pos k ∷ is) r) (ap (λ p. p.1) pair) first

    by_fields : (o : Option Tree) → slice_get ts k ≡ o → read_fields F is (with_number k o) ≡ Some (v, rest) → Front (is_variant_of I ts v) (flat_variant G ts v) (pos k ∷ is) rest
    by_fields None e g = absurd cc
    by_fields (Some t) e g = by_value t e (read_by F t is) refl g

    by_size : (b : Bool) → nat_lt k (2 ^ 32) ≡ b → Front (is_variant_of I ts v) (flat_variant G ts v) (pos k ∷ is) rest
    by_size true e = by_fields (slice_get ts k) refl (rw e at h)
    by_size false e = let no : ◌≡◌ {A = Reading} None (Some (v, rest)) = rw e at h in absurd cc

shape_sound : (F : ℕ → List ℤ → Reading) (I : ℕ → Value → Bool) (G : ℕ → Value → Option (List ℤ)) → Sound F I G → (o : Option Shape) (is : List ℤ) (v : Value) (rest : List ℤ) → read_of F o is ≡ Some (v, rest) → Front (is_of I o v) (flat_of G o v) is rest
shape_sound F I G def None is v rest h = absurd cc
shape_sound F I G def (Some s) is v rest h = by_kind s.is_enum refl
  where
    by_kind : (b : Bool) → s.is_enum ≡ b → Front (is_of I (Some s) v) (flat_of G (Some s) v) is rest
    by_kind true e = rw e (variant_sound F I G def s.variants is v rest (rw e at h))
    by_kind false e = rw e (sound_by F I G def (struct_fields s) is v rest (rw e at h))

pub def_sound : (D : List Shape) (n : ℕ) → Sound (read_def D n) (is_def D n) (flat_def D n)
def_sound D zero d is v rest h = absurd cc
def_sound D (suc n) d is v rest h = shape_sound (read_def D n) (is_def D n) (flat_def D n) (def_sound D n) (slice_get D d) is v rest h

-- what is read is a value of the type whose flat form stands in front
pub reading_sound : (D : List Shape) (t : Tree) (is : List ℤ) (v : Value) (rest : List ℤ) → reading D t is ≡ Some (v, rest) → Front (has_type D t v) (flat D t v) is rest
unfolding reading has_type flat
reading_sound D t is v rest h = sound_by (read_def D (length D)) (is_def D (length D)) (flat_def D (length D)) (def_sound D (length D)) t is v rest h

-- ---- complete

record Parts (x y : Option (List ℤ)) (whole : List ℤ) : Type 0 where
  first : List ℤ
  second : List ℤ
  first_is : x ≡ Some first
  second_is : y ≡ Some second
  joined : whole ≡ first ++ second

both_parts : (x y : Option (List ℤ)) (whole : List ℤ) → both x y ≡ Some whole → Parts x y whole
unfolding ◌>>=◌
both_parts None y whole h = absurd cc
both_parts (Some a) None whole h = absurd cc
both_parts (Some a) (Some b) whole h = record { first = a; second = b; first_is = refl; second_is = refl; joined = cc }

scalar_complete : (s : ScalarTy) (n : ℕ) (front rest : List ℤ) → nat_lt n (patterns s) ≡ true → ◌≡◌ {A = Option (List ℤ)} (Some (integer_of s n ∷ [])) (Some front) → scalar_front s (front ++ rest) ≡ Some (number n, rest)
scalar_complete s n front rest typed form =
    let same : integer_of s n ∷ [] ≡ front = cc in
    let small : n < patterns s = grind (arith, nat_tests) in
    subst (λ x. scalar_front s (x ++ rest) ≡ Some (number n, rest)) same (rw (exact_of s n small) refl)

joined_read : (F : ℕ → List ℤ → Reading) (t ts : Tree) (v vs : Value) (a b front rest : List ℤ) → front ≡ a ++ b → read_by F t (a ++ (b ++ rest)) ≡ Some (v, b ++ rest) → read_by F ts (b ++ rest) ≡ Some (vs, rest) → read_by F (more t ts) (front ++ rest) ≡ Some (cons v vs, rest)
unfolding ◌>>=◌
joined_read F t ts v vs a b front rest e first second =
    let whole : front ++ rest ≡ a ++ (b ++ rest) = ap (λ x. x ++ rest) e ∙ append_assoc a b rest in
    rw (whole, first, second) refl

complete_by : (F : ℕ → List ℤ → Reading) (I : ℕ → Value → Bool) (G : ℕ → Value → Option (List ℤ)) → Complete F I G → (t : Tree) (v : Value) (front rest : List ℤ) → is_by I t v ≡ true → flat_by G t v ≡ Some front → read_by F t (front ++ rest) ≡ Some (v, rest)
complete_by F I G def (scalar s) (number n) front rest typed form = scalar_complete s n front rest typed form
complete_by F I G def (scalar s) _ front rest typed form = absurd cc
complete_by F I G def empty nil front rest typed form = let none : [] ≡ front = cc in subst (λ x. read_by F empty (x ++ rest) ≡ Some (nil, rest)) none refl
complete_by F I G def empty _ front rest typed form = absurd cc
complete_by F I G def (more t ts) (cons v vs) front rest typed form =
    let both_typed = and_parts (is_by I t v) (is_by I ts vs) typed in
    let parts = both_parts (flat_by G t v) (flat_by G ts vs) front form in
    let first = complete_by F I G def t v parts.first (parts.second ++ rest) both_typed.0 parts.first_is in
    let second = complete_by F I G def ts vs parts.second rest both_typed.1 parts.second_is in
    joined_read F t ts v vs parts.first parts.second front rest parts.joined first second
complete_by F I G def (more t ts) _ front rest typed form = absurd cc
complete_by F I G def (ref t) _ front rest typed form = absurd cc
complete_by F I G def (ref_mut t) _ front rest typed form = absurd cc
complete_by F I G def (named d) v front rest typed form = def d v front rest typed form

variant_read : (F : ℕ → List ℤ → Reading) (ts : List Tree) (k : ℕ) (t : Tree) (v : Value) (front second rest : List ℤ) → front ++ rest ≡ pos k ∷ (second ++ rest) → nat_lt k (2 ^ 32) ≡ true → slice_get ts k ≡ Some t → read_by F t (second ++ rest) ≡ Some (v, rest) → read_variant F ts (front ++ rest) ≡ Some (variant k v, rest)
variant_read F ts k t v front second rest whole small e inner = rw (whole, small, e, inner) refl

variant_complete : (F : ℕ → List ℤ → Reading) (I : ℕ → Value → Bool) (G : ℕ → Value → Option (List ℤ)) → Complete F I G → (ts : List Tree) → length ts ≤ 2 ^ 32 → (v : Value) (front rest : List ℤ) → is_variant_of I ts v ≡ true → flat_variant G ts v ≡ Some front → read_variant F ts (front ++ rest) ≡ Some (v, rest)
variant_complete F I G def ts few (variant k v) front rest typed form = by_fields (slice_get ts k) refl
  where
    by_fields : (o : Option Tree) → slice_get ts k ≡ o → read_variant F ts (front ++ rest) ≡ Some (variant k v, rest)
    by_fields None e = let no : false ≡ true = rw e at typed in absurd cc
    by_fields (Some t) e =
        let parts = both_parts (Some (pos k ∷ [])) (flat_fields G (slice_get ts k) v) front form in
        let head : pos k ∷ [] ≡ parts.first = let h = parts.first_is in cc in
        let whole : front ++ rest ≡ pos k ∷ (parts.second ++ rest) = ap (λ x. x ++ rest) (parts.joined ∙ ap (λ x. x ++ parts.second) (sym head)) in
        let inner_form : flat_by G t v ≡ Some parts.second = ap (λ o. flat_fields G o v) (sym e) ∙ parts.second_is in
        let inner : read_by F t (parts.second ++ rest) ≡ Some (v, rest) = complete_by F I G def t v parts.second rest (rw e at typed) inner_form in
        let within = slice_get_within ts k t e in
        let small : nat_lt k (2 ^ 32) ≡ true = grind (arith, nat_tests) in
        variant_read F ts k t v front parts.second rest whole small e inner
variant_complete F I G def ts few _ front rest typed form = absurd cc

shape_complete : (F : ℕ → List ℤ → Reading) (I : ℕ → Value → Bool) (G : ℕ → Value → Option (List ℤ)) → Complete F I G → (o : Option Shape) → ((s : Shape) → o ≡ Some s → length s.variants ≤ 2 ^ 32) → (v : Value) (front rest : List ℤ) → is_of I o v ≡ true → flat_of G o v ≡ Some front → read_of F o (front ++ rest) ≡ Some (v, rest)
shape_complete F I G def None few v front rest typed form = absurd cc
shape_complete F I G def (Some s) few v front rest typed form = by_kind s.is_enum refl
  where
    by_kind : (b : Bool) → s.is_enum ≡ b → read_of F (Some s) (front ++ rest) ≡ Some (v, rest)
    by_kind true e = rw e (variant_complete F I G def s.variants (few s refl) v front rest (rw e at typed) (rw e at form))
    by_kind false e = rw e (complete_by F I G def (struct_fields s) v front rest (rw e at typed) (rw e at form))

-- no definition has more variants than numbers of 32 bits
pub record Few (D : List Shape) : Type 0 where
  pub few : (d : ℕ) (s : Shape) → slice_get D d ≡ Some s → length s.variants ≤ 2 ^ 32

pub def_complete : (D : List Shape) → Few D → (n : ℕ) → Complete (read_def D n) (is_def D n) (flat_def D n)
def_complete D few zero d v front rest typed form = absurd cc
def_complete D few (suc n) d v front rest typed form = shape_complete (read_def D n) (is_def D n) (flat_def D n) (def_complete D few n) (slice_get D d) (few.few d) v front rest typed form

-- each value of the type is read from its flat form
pub reading_complete : (D : List Shape) → Few D → (t : Tree) (v : Value) (front rest : List ℤ) → has_type D t v ≡ true → flat D t v ≡ Some front → reading D t (front ++ rest) ≡ Some (v, rest)
unfolding reading has_type flat
reading_complete D few t v front rest typed form = complete_by (read_def D (length D)) (is_def D (length D)) (flat_def D (length D)) (def_complete D few (length D)) t v front rest typed form
