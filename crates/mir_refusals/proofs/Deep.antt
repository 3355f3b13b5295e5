-- S06: a type in 65 others.
use Rattle.std.proofs.Common.{◌≡◌, ℕ, zero, suc, ◌+◌, ◌<◌, ◌≤◌, Bool, true, false, ◌&&◌, ◌||◌, nat_eq, nat_lt, ◌⊎◌, inl, inr, List, [], ◌∷◌, ◌++◌, map, length, drop, refl, sym, ap, ◌∙◌, subst, append_assoc, append-nil, arith, rules}
use Rattle.mir_syntax.specs.declared.types.IntTy.TheVariants as i
use Rattle.mir_text.specs.declared.symbol.Symbol.{Symbol}
use Rattle.mir_text.specs.declared.symbol.Symbol.TheVariants as s
use Rattle.mir_text.specs.Bytes.{suffix_at}
use Rattle.mir_text.specs.Pieces.{Piece, text_of, Stand}
use Rattle.mir_text.specs.Words.{word_place}
use Rattle.mir_text.specs.Symbols.{word_token, block_digits, Lined}
use Rattle.mir_text.specs.GrammarTypes as t
use Rattle.mir_text.specs.GrammarTypes.{PathRule, path_put, TypeRule, type_put, TypesRule, types_put}
use Rattle.mir_text.specs.GrammarItems as n
use Rattle.mir_text.specs.GrammarItems.{FieldsRule, struct_put, AttrRule, attr_put, drop_put, item_put, FileRule, file_put}
use Rattle.mir_text.specs.Nesting.{type_depth, types_depth, FileGood}
use Rattle.mir_text.specs.ReadFaults.{Viable, TooDeep, Breaks, Reading, Innermost, MayBegin, IsReadFault}
use Rattle.mir_text.specs.Spans.{items_spans, is_open, begins_part, numbers_from, spans_of}
use Rattle.mir_text.proofs.Cut.{cut, cut_from, piece_at, number_piece, stands as stand_by}
use Rattle.mir_refusals.specs.Texts.{deep_type}
use Rattle.mir_refusals.proofs.Symbols.{first-is, rest-is, stands, none-refused, AllStand, no-path, path-first, path-second}
use Rattle.mir_refusals.proofs.Parts.{far-dropped, lt-true, elsewhere-begins, items-elsewhere}

-- so many `&`
abbrev pub amps : ℕ → List Symbol
amps zero = []
amps (suc k) = s.Ampersand ∷ amps k

abbrev front : List Symbol
front = s.Struct ∷ s.Name 8 ∷ s.Open ∷ []

-- ---- a struct with a deep type

abbrev refs : TypeRule → ℕ → TypeRule
refs u zero = u
refs u (suc k) = t.ref false (refs u k)

struct_of : TypeRule → FileRule
struct_of u = n.struct (t.name 8) (n.tupled (t.last u)) ∷ []

refs-put : (u : TypeRule) (k : ℕ) (rest : List Symbol) → type_put (refs u k) rest ≡ amps k ++ type_put u rest
refs-put u zero rest = refl
refs-put u (suc k) rest = ap (λ l. s.Ampersand ∷ l) (refs-put u k rest)

refs-depth : (k : ℕ) → type_depth (refs t.bool k) ≡ suc k
refs-depth zero = refl
refs-depth (suc k) = ap suc (refs-depth k)

amps-more : (k : ℕ) (rest : List Symbol) → amps k ++ s.Ampersand ∷ rest ≡ s.Ampersand ∷ amps k ++ rest
amps-more zero rest = refl
amps-more (suc k) rest = ap (λ l. s.Ampersand ∷ l) (amps-more k rest)

struct-puts : (u : TypeRule) (k : ℕ) (xs : List Symbol) → type_put u (s.Close ∷ s.Semicolon ∷ []) ≡ xs → file_put (struct_of (refs u k)) [] ≡ front ++ (amps k ++ xs)
unfolding struct_of
struct-puts u k xs is = ap (λ l. front ++ l) (refs-put u k (s.Close ∷ s.Semicolon ∷ []) ∙ ap (λ l. amps k ++ l) is)

front-append : (k : ℕ) (x : Symbol) (more : List Symbol) → ((front ++ amps k) ++ x ∷ []) ++ more ≡ front ++ (amps k ++ x ∷ more)
front-append k x more = ap (λ l. front ++ l) (append_assoc (amps k) (x ∷ []) more)

viable-bool : (k : ℕ) → Viable ((front ++ amps k) ++ s.Bool ∷ [])
viable-bool k = record {
  file = struct_of (refs t.bool k);
  more = s.Close ∷ s.Semicolon ∷ [];
  derives = struct-puts t.bool k (s.Bool ∷ s.Close ∷ s.Semicolon ∷ []) refl ∙ sym (front-append k s.Bool (s.Close ∷ s.Semicolon ∷ []));
}

viable-int : (k : ℕ) → Viable ((front ++ amps k) ++ s.Int i.U8 ∷ [])
viable-int k = record {
  file = struct_of (refs (t.int i.U8) k);
  more = s.Close ∷ s.Semicolon ∷ [];
  derives = struct-puts (t.int i.U8) k (s.Int i.U8 ∷ s.Close ∷ s.Semicolon ∷ []) refl ∙ sym (front-append k (s.Int i.U8) (s.Close ∷ s.Semicolon ∷ []));
}

viable-amp : (k : ℕ) → Viable ((front ++ amps k) ++ s.Ampersand ∷ [])
viable-amp k = record {
  file = struct_of (refs t.bool (suc k));
  more = s.Bool ∷ s.Close ∷ s.Semicolon ∷ [];
  derives =
      struct-puts t.bool (suc k) (s.Bool ∷ s.Close ∷ s.Semicolon ∷ []) refl
      ∙ ap (λ l. front ++ l) (sym (amps-more k (s.Bool ∷ s.Close ∷ s.Semicolon ∷ [])))
      ∙ sym (front-append k s.Ampersand (s.Bool ∷ s.Close ∷ s.Semicolon ∷ []));
}

-- a type in at most 64 others is good
good : (k : ℕ) → k ≤ 64 → FileGood (struct_of (refs t.bool k))
unfolding struct_of
good k small = (rw (refs-depth k) (omega (arith, small)), tt)

-- ---- how a struct begins

abbrev StructFile : List Symbol → FileRule → Type 0
StructFile more file = (p : PathRule) × (fs : FieldsRule) × (items : FileRule) × (file ≡ n.struct p fs ∷ items) × (path_put p (struct_put fs (file_put items [])) ≡ more)

no-fn : (a : AttrRule) (d : Bool) (rest more : List Symbol) → attr_put a (drop_put d (s.Fn ∷ rest)) ≡ s.Struct ∷ more → ⊥
no-fn n.none true rest more e = absurd cc
no-fn n.none false rest more e = absurd cc
no-fn n.hint d rest more e = absurd cc
no-fn n.always d rest more e = absurd cc
no-fn n.never d rest more e = absurd cc

struct-file : (file : FileRule) (more : List Symbol) → file_put file [] ≡ s.Struct ∷ more → StructFile more file
struct-file [] more e = absurd cc
struct-file (n.struct p fs ∷ items) more e = (p, fs, items, refl, rest-is e)
struct-file (n.enum p vs ∷ items) more e = absurd cc
struct-file (n.extern p us u ∷ items) more e = absurd cc
struct-file (n.function f ∷ items) more e = absurd (no-fn f.attr f.is_drop _ more e)

fields-first : (fs : FieldsRule) (rest : List Symbol) (x : Symbol) (more : List Symbol) → struct_put fs rest ≡ x ∷ more → (x ≡ s.Semicolon) ⊎ ((x ≡ s.Open) ⊎ (x ≡ s.OpenBrace))
fields-first n.plain rest x more e = inl (sym (first-is e))
fields-first (n.tupled us) rest x more e = inr (inl (sym (first-is e)))
fields-first (n.labelled fs) rest x more e = inr (inr (sym (first-is e)))

-- behind `struct`, a name and `(` stand types
abbrev Tupled : List Symbol → FileRule → Type 0
Tupled more file = (p : PathRule) × (us : TypesRule) × (items : FileRule) × (file ≡ n.struct p (n.tupled us) ∷ items) × (types_put us (s.Semicolon ∷ file_put items []) ≡ more)

tupled-fields : (p : PathRule) (fs : FieldsRule) (items : FileRule) (more : List Symbol) → struct_put fs (file_put items []) ≡ s.Open ∷ more → Tupled more (n.struct p fs ∷ items)
tupled-fields p n.plain items more e = absurd cc
tupled-fields p (n.tupled us) items more e = (p, us, items, refl, rest-is e)
tupled-fields p (n.labelled fs) items more e = absurd cc

tupled : (file : FileRule) (more : List Symbol) → file_put file [] ≡ front ++ more → Tupled more file
tupled file more e = let (p, fs, items, is, h) = struct-file file (s.Name 8 ∷ s.Open ∷ more) e in rw is (go p fs items (path-second p (struct_put fs (file_put items [])) 8 (s.Open ∷ more) h))
  where
    go : (p : PathRule) (fs : FieldsRule) (items : FileRule) → ((struct_put fs (file_put items []) ≡ s.Open ∷ more) ⊎ ((others : List Symbol) × (s.Open ∷ more ≡ s.Colons ∷ others)))
        → Tupled more (n.struct p fs ∷ items)
    go p fs items (inl h) = tupled-fields p fs items more h
    go p fs items (inr (others, h)) = absurd cc

-- ---- the front isn't refused

no-second : (x : Symbol) → ((k : ℕ) → x ≡ s.Name k → ⊥) → Viable (s.Struct ∷ x ∷ []) → ⊥
no-second x other v =
    let (p, fs, items, is, h) = struct-file v.file (x ∷ v.more) v.derives in
    let (k, name) = path-first p (struct_put fs (file_put items [])) x v.more h in
    other k name

no-third : (x : Symbol) → (x ≡ s.Colons → ⊥) → (x ≡ s.Semicolon → ⊥) → (x ≡ s.Open → ⊥) → (x ≡ s.OpenBrace → ⊥) → Viable (s.Struct ∷ s.Name 8 ∷ x ∷ []) → ⊥
no-third x colons end paren brace v =
    let (p, fs, items, is, h) = struct-file v.file (s.Name 8 ∷ x ∷ v.more) v.derives in
    go fs items (path-second p (struct_put fs (file_put items [])) 8 (x ∷ v.more) h)
  where
    fields : (x ≡ s.Semicolon) ⊎ ((x ≡ s.Open) ⊎ (x ≡ s.OpenBrace)) → ⊥
    fields (inl e) = end e
    fields (inr (inl e)) = paren e
    fields (inr (inr e)) = brace e

    go : (fs : FieldsRule) (items : FileRule) → ((struct_put fs (file_put items []) ≡ x ∷ v.more) ⊎ ((others : List Symbol) × (x ∷ v.more ≡ s.Colons ∷ others))) → ⊥
    go fs items (inl h) = fields (fields-first fs (file_put items []) x v.more h)
    go fs items (inr (others, h)) = colons (first-is h)

name-opens : TooDeep (s.Struct ∷ []) (s.Name 8) → ⊥
name-opens h = no-second h.least (λ j e. let z : s.Bool ≡ s.Name j = sym h.opens ∙ e in absurd cc) h.viable

apart-from : (x y z : Symbol) → x ≡ y → (y ≡ z → ⊥) → x ≡ z → ⊥
apart-from x y z is apart e = apart (sym is ∙ e)

paren-opens : TooDeep (s.Struct ∷ s.Name 8 ∷ []) s.Open → ⊥
paren-opens h = go h.opens
  where
    go : (h.least ≡ s.Bool) ⊎ (h.least ≡ s.Local 0) → ⊥
    go (inl is) = no-third h.least (apart-from h.least s.Bool s.Colons is (λ e. absurd cc)) (apart-from h.least s.Bool s.Semicolon is (λ e. absurd cc)) (apart-from h.least s.Bool s.Open is (λ e. absurd cc))
        (apart-from h.least s.Bool s.OpenBrace is (λ e. absurd cc)) h.viable
    go (inr is) = no-third h.least (apart-from h.least (s.Local 0) s.Colons is (λ e. absurd cc)) (apart-from h.least (s.Local 0) s.Semicolon is (λ e. absurd cc)) (apart-from h.least (s.Local 0) s.Open is (λ e. absurd cc))
        (apart-from h.least (s.Local 0) s.OpenBrace is (λ e. absurd cc)) h.viable

-- so few `&` open nothing too deep
amp-opens : (k : ℕ) → k ≤ 64 → TooDeep (front ++ amps k) s.Ampersand → ⊥
amp-opens k small h = h.none_good (struct_of (refs t.bool k)) (s.Close ∷ s.Semicolon ∷ []) (good k small)
    (struct-puts t.bool k (s.Bool ∷ s.Close ∷ s.Semicolon ∷ []) refl ∙ rw h.opens (sym (append_assoc front (amps k) (s.Bool ∷ s.Close ∷ s.Semicolon ∷ []))))

amps-stand : (j k : ℕ) → k + j ≤ 65 → AllStand (front ++ amps k) (amps j)
amps-stand zero k small = tt
amps-stand (suc j) k small = (
  stands (front ++ amps k) s.Ampersand (inl (viable-amp k)) (λ e. absurd cc) (amp-opens k (omega (arith, small))) (λ h. h) (λ h. h),
  rw (one-more k) (amps-stand j (suc k) (omega (arith, small))),
)
  where
    one-more : (k : ℕ) → (front ++ amps k) ++ s.Ampersand ∷ [] ≡ front ++ amps (suc k)
    one-more k = ap (λ l. front ++ l) (amps-more k [] ∙ ap (λ l. s.Ampersand ∷ l) (append-nil (amps k)))

begins : (xs ys : List Symbol) → s.Struct ∷ s.Name 8 ∷ s.Open ∷ s.Bool ∷ s.Close ∷ s.Semicolon ∷ [] ≡ xs ++ ys → Viable xs
unfolding struct_of
begins xs ys is = record { file = struct_of t.bool; more = ys; derives = is }

front-stands : AllStand [] (front ++ amps 65)
front-stands = (
  stands [] s.Struct (inl (begins (s.Struct ∷ []) (s.Name 8 ∷ s.Open ∷ s.Bool ∷ s.Close ∷ s.Semicolon ∷ []) refl)) (λ e. absurd cc) (λ h. h.opens) (λ h. h) (λ h. h),
  (
    stands (s.Struct ∷ []) (s.Name 8) (inl (begins (s.Struct ∷ s.Name 8 ∷ []) (s.Open ∷ s.Bool ∷ s.Close ∷ s.Semicolon ∷ []) refl)) (λ e. absurd cc) name-opens (λ h. h) (λ h. h),
    (
      stands (s.Struct ∷ s.Name 8 ∷ []) s.Open (inl (begins front (s.Bool ∷ s.Close ∷ s.Semicolon ∷ []) refl)) (λ e. absurd cc) paren-opens (λ h. h) (λ h. h),
      amps-stand 65 0 (omega arith),
    ),
  ),
)

-- ---- one more type is too deep

bool-depth : (u : TypeRule) (rest more : List Symbol) → type_put u rest ≡ s.Bool ∷ more → type_depth u ≡ 1
bool-depth (t.int j) rest more e = absurd cc
bool-depth t.bool rest more e = refl
bool-depth (t.ref m u) rest more e = absurd cc
bool-depth (t.path p) rest more e = refl
bool-depth t.unit rest more e = absurd cc
bool-depth (t.tuple u us) rest more e = absurd cc

no-mut : (k : ℕ) (rest more : List Symbol) → s.Mut ∷ rest ≡ amps k ++ s.Bool ∷ more → ⊥
no-mut zero rest more e = absurd cc
no-mut (suc k) rest more e = absurd cc

depth-of : (k : ℕ) (u : TypeRule) (rest more : List Symbol) → type_put u rest ≡ amps k ++ s.Bool ∷ more → type_depth u ≡ suc k
depth-of zero u rest more e = bool-depth u rest more e
depth-of (suc k) (t.int j) rest more e = absurd cc
depth-of (suc k) t.bool rest more e = absurd cc
depth-of (suc k) (t.ref true u) rest more e = absurd (no-mut k (type_put u rest) more (rest-is e))
depth-of (suc k) (t.ref false u) rest more e = ap suc (depth-of k u rest more (rest-is e))
depth-of (suc k) (t.path p) rest more e = absurd (no-path p rest s.Ampersand (amps k ++ s.Bool ∷ more) (λ j e. absurd cc) e)
depth-of (suc k) t.unit rest more e = absurd cc
depth-of (suc k) (t.tuple u us) rest more e = absurd cc

types-deep : (k : ℕ) (us : TypesRule) (rest more : List Symbol) → types_put us rest ≡ s.Ampersand ∷ amps k ++ s.Bool ∷ more → suc (suc k) ≤ types_depth us
types-deep k t.end rest more e = absurd cc
types-deep k (t.last u) rest more e = let deep = depth-of (suc k) u (s.Close ∷ rest) more e in omega (arith, deep)
types-deep k (t.more u us) rest more e = let deep = depth-of (suc k) u (s.Comma ∷ types_put us rest) more e in omega (arith, deep)

none-good : (file : FileRule) (more : List Symbol) → FileGood file → file_put file [] ≡ front ++ (amps 65 ++ s.Bool ∷ more) → ⊥
none-good file more is_good e = let (p, us, items, is, h) = tupled file (amps 65 ++ s.Bool ∷ more) e in go p us items (subst FileGood is is_good) h
  where
    go : (p : PathRule) (us : TypesRule) (items : FileRule) → FileGood (n.struct p (n.tupled us) ∷ items) → types_put us (s.Semicolon ∷ file_put items []) ≡ amps 65 ++ s.Bool ∷ more → ⊥
    go p us items g h = let deep = types-deep 64 us (s.Semicolon ∷ file_put items []) more h in let shallow : types_depth us ≤ 65 = g.0 in omega (arith, deep, shallow)

abbrev before : List Symbol
before = front ++ amps 65

deep-here : TooDeep before (s.Int i.U8)
deep-here = record { goes_on = inl (viable-int 65); least = s.Bool; opens = refl; viable = viable-bool 65; none_good = λ file more g e. none-good file more g e }

below-six : (k : ℕ) → k < 6 → Breaks before (s.Int i.U8) k → ⊥
below-six k small (inl (e, h)) = h.1 (inl (viable-int 65))
below-six k small (inr (inl (e, h))) = omega arith
below-six k small (inr (inr (inl (e, h)))) = omega arith
below-six k small (inr (inr (inr (inl (e, h))))) = omega arith
below-six k small (inr (inr (inr (inr (e, h))))) = omega arith

-- ---- the part that is open: the item

path-some : (p : PathRule) (rest : List Symbol) → 1 ≤ length (path_put p rest)
path-some (t.name k) rest = omega arith
path-some (t.name_in k p) rest = omega arith

type-some : (u : TypeRule) (rest : List Symbol) → 1 ≤ length (type_put u rest)
type-some (t.int j) rest = omega arith
type-some t.bool rest = omega arith
type-some (t.ref m u) rest = omega arith
type-some (t.path p) rest = path-some p rest
type-some t.unit rest = omega arith
type-some (t.tuple u us) rest = omega arith

-- a type that begins with so many `&` is longer, whatever stands behind it
long : (k : ℕ) (u : TypeRule) (rest more behind : List Symbol) → type_put u rest ≡ amps k ++ more → suc k ≤ length (type_put u behind)
long zero u rest more behind e = type-some u behind
long (suc k) (t.int j) rest more behind e = absurd cc
long (suc k) t.bool rest more behind e = absurd cc
long (suc zero) (t.ref true u) rest more behind e = omega arith
long (suc (suc k)) (t.ref true u) rest more behind e = absurd cc
long (suc k) (t.ref false u) rest more behind e = let inside = long k u rest more behind (rest-is e) in omega (arith, inside)
long (suc k) (t.path p) rest more behind e = absurd (no-path p rest s.Ampersand (amps k ++ more) (λ j e. absurd cc) e)
long (suc k) t.unit rest more behind e = absurd cc
long (suc k) (t.tuple u us) rest more behind e = absurd cc

types-long : (k : ℕ) (us : TypesRule) (rest more behind : List Symbol) → types_put us rest ≡ s.Ampersand ∷ amps k ++ more → suc (suc k) ≤ length (types_put us behind)
types-long k t.end rest more behind e = absurd cc
types-long k (t.last u) rest more behind e = long (suc k) u (s.Close ∷ rest) more (s.Close ∷ behind) e
types-long k (t.more u us) rest more behind e = long (suc k) u (s.Comma ∷ types_put us rest) more (s.Comma ∷ types_put us behind) e

path-adds : (p : PathRule) (rest : List Symbol) → suc (length rest) ≤ length (path_put p rest)
path-adds (t.name k) rest = omega arith
path-adds (t.name_in k p) rest = let inside = path-adds p rest in omega (arith, inside)

-- the item is longer than what stands before the symbol
item-long : (p : PathRule) (us : TypesRule) (rest more : List Symbol) → types_put us rest ≡ amps 65 ++ more → 68 < length (item_put (n.struct p (n.tupled us)) [])
item-long p us rest more e =
    let inside = types-long 64 us rest more (s.Semicolon ∷ []) e in
    let outside = path-adds p (s.Open ∷ types_put us (s.Semicolon ∷ [])) in
    omega (arith, inside, outside)

item-begins : (p : PathRule) (us : TypesRule) (items : FileRule) → 68 < length (item_put (n.struct p (n.tupled us)) []) → begins_part (spans_of (n.struct p (n.tupled us) ∷ items)) 68 ≡ false
item-begins p us items below =
    let inside = length (path_put p (s.Open ∷ types_put us (s.Semicolon ∷ []))) in
    let places = drop inside (numbers_from 1 (length (path_put p (s.Open ∷ types_put us (s.Semicolon ∷ file_put items []))))) in
    elsewhere-begins 68 (items_spans items places) (items-elsewhere 68 (omega arith) items places (far-dropped 68 1 inside _ (omega (arith, below))))

item-open : (p : PathRule) (us : TypesRule) (items : FileRule) → 68 < length (item_put (n.struct p (n.tupled us)) []) → is_open (spans_of (n.struct p (n.tupled us) ∷ items)) 0 68 ≡ true
item-open p us items below =
    let inside = length (path_put p (s.Open ∷ types_put us (s.Semicolon ∷ []))) in
    let is : nat_lt 68 (0 + suc inside) ≡ true = lt-true 68 (0 + suc inside) (omega (arith, below)) in
    rw is refl

-- the symbol stands in the item alone
in-item : (file : FileRule) (more : List Symbol) → file_put file [] ≡ front ++ (amps 65 ++ more) → (begins_part (spans_of file) 68 ≡ false) × (is_open (spans_of file) 0 68 ≡ true)
in-item file more e =
    let (p, us, items, is, h) = tupled file (amps 65 ++ more) e in
    let below = item-long p us (s.Semicolon ∷ file_put items []) more h in
    rw is (item-begins p us items below, item-open p us items below)

in-reading : (r : Reading before (s.Int i.U8)) → (begins_part (spans_of r.file) 68 ≡ false) × (is_open (spans_of r.file) 0 68 ≡ true)
in-reading r = in-item r.file (r.other ∷ r.more) (r.derives ∙ append_assoc front (amps 65) (r.other ∷ r.more))

no-part : MayBegin before (s.Int i.U8) → ⊥
no-part (r, is) = let isnt = (in-reading r).0 in absurd cc

a-reading : Reading before (s.Int i.U8)
a-reading = record {
  other = s.Int i.U8;
  read_as = inl refl;
  file = struct_of (refs (t.int i.U8) 65);
  more = s.Close ∷ s.Semicolon ∷ [];
  derives = struct-puts (t.int i.U8) 65 (s.Int i.U8 ∷ s.Close ∷ s.Semicolon ∷ []) refl;
}

from-first : (b : Bool) → ((b && true) || false) ≡ true → b ≡ true
from-first true e = refl
from-first false e = absurd cc

is-zero : (start : ℕ) → is_open (spans_of (struct_of (refs (t.int i.U8) 65))) start 68 ≡ true → start ≤ 0
unfolding struct_of
is-zero start e =
    let is : nat_eq 0 start ≡ true = from-first (nat_eq 0 start) e in
    let same : 0 ≡ start = search rules in
    omega (arith, same)

the-item : Innermost before (s.Int i.U8) 0
unfolding a-reading
the-item = ((λ r. (in-reading r).1), λ start holds. is-zero start (holds a-reading))

-- ---- the text

pub pieces : List Piece
pieces = cut deep_type

all-stand : Stand pieces []
unfolding pieces cut cut_from piece_at number_piece suffix_at
all-stand = stand_by pieces [] refl

whole : deep_type ≡ text_of pieces ++ []
unfolding pieces cut cut_from piece_at number_piece suffix_at
whole = refl

abbrev on_two : Symbol → Lined
on_two x = (x, 2)

no-six : ◌≡◌ {A = ℕ} 6 4 → ⊥
no-six e = omega arith

pub deep-type : IsReadFault deep_type 6 2
unfolding pieces cut cut_from piece_at number_piece suffix_at word_token block_digits word_place
deep-type = inl (record {
  pieces = pieces;
  left = [];
  cut = record { whole = whole; stand = all-stand };
  before = map on_two before;
  at = on_two (s.Int i.U8);
  after = map on_two (s.Close ∷ s.Semicolon ∷ []);
  symbols = refl;
  first = none-refused before front-stands;
  refused = (inr (inl (refl, deep-here)), below-six);
  on_line = inr ((λ e. absurd (no-six e)), inr (no-part, (0, the-item, refl)));
})
