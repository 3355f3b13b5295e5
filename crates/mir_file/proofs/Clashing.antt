-- An item clashes with one before it exactly where it meets what was seen of them.
use Rattle.std.proofs.Common.{◌≡◌, ℕ, ◌<◌, ◌&&◌, ◌||◌, not, Bool, true, false, cond, List, [], ◌∷◌, ◌++◌, map, length, codes, Option, refl, sym, ap, ap₂, ◌∙◌}
use Rattle.std.proofs.lemmas.Slice.Eq.{bytes_eq-Decides}
use Rattle.std.specs.Str.{bytes_eq}
use Rattle.mir_syntax.proofs.Bools.{same_tests}
use Rattle.mir_text.specs.NameFaults.{Fault, Defined, on_line, unless, each, stands_in, same_flag, same_path, is_variant_path, clashes, any_clashes, path_faults, variant_paths}
use Rattle.mir_text.specs.GrammarItems.{VariantRule}
use Rattle.mir_text.specs.Names.{Strings, string_at, path_bytes}
use Rattle.mir_tree.specs.declared.Items.{Items}
use Rattle.mir_tree.specs.declared.ty.PathText.{PathText}
use Rattle.mir_tree.specs.declared.item.VariantText.{VariantText}
use Rattle.mir_tree.specs.declared.item.ItemText.{ItemText}
use Rattle.mir_tree.specs.declared.item.ItemText.TheVariants as i
use Rattle.mir_tree.specs.Lists.{items_rule}
use Rattle.mir_tree.specs.Types.{path_rule}
use Rattle.mir_tree.specs.Rules.{variant_rule}
use Rattle.mir_resolve.specs.Definitions.{before_defs}
use Rattle.mir_resolve.proofs.Listed.{items_listed}
use Rattle.mir_resolve.specs.Faults.{noted}
use Rattle.mir_resolve.specs.Once.{SameTexts}
use Rattle.mir_resolve.proofs.NoneTwice.{stands-first}
use Rattle.mir_file.specs.declared.clashes.SeenPaths.{SeenPaths}
use Rattle.mir_file.specs.Clashes.{defined_at, variant_path, any_stands, if_so, as_type, as_function, as_struct, meets, Saw}
use Rattle.mir_file.proofs.Steps.{faults_step, faults_ended}

-- ---- tests

or-false : (b : Bool) → b || false ≡ b
or-false true = refl
or-false false = refl

pub or-assoc : (a b c : Bool) → (a || b) || c ≡ (a || (b || c))
or-assoc true b c = refl
or-assoc false b c = refl

or-pairs : (a b c d : Bool) → (a || b) || (c || d) ≡ ((a || c) || (b || d))
or-pairs true b c d = refl
or-pairs false true true d = refl
or-pairs false true false d = refl
or-pairs false false c d = refl

or-threes : (p s q v r w : Bool) → (p || s) || ((q || v) || (r || w)) ≡ ((p || (q || r)) || (s || (v || w)))
or-threes p s q v r w = ap (λ x. (p || s) || x) (or-pairs q v r w) ∙ or-pairs p s (q || r) (v || w)

bytes_eq-sym : (a b : List ℕ) → bytes_eq a b ≡ bytes_eq b a
bytes_eq-sym a b = same_tests (bytes_eq a b) (bytes_eq b a)
    (λ e. (bytes_eq-Decides b a).1 (sym ((bytes_eq-Decides a b).0 e)))
    (λ e. (bytes_eq-Decides a b).1 (sym ((bytes_eq-Decides b a).0 e)))

-- ---- texts that stand in lists

stands-append : (xs ys : List (List ℕ)) (t : List ℕ) → stands_in (xs ++ ys) t ≡ (stands_in xs t || stands_in ys t)
stands-append [] ys t = refl
stands-append (x ∷ xs) ys t =
    stands-first x (xs ++ ys) t ∙ ap (λ b. bytes_eq x t || b) (stands-append xs ys t)
    ∙ sym (or-assoc (bytes_eq x t) (stands_in xs t) (stands_in ys t))
    ∙ ap (λ b. b || stands_in ys t) (sym (stands-first x xs t))

pub same_then : (xs ys zs : List (List ℕ)) → SameTexts xs ys → SameTexts ys zs → SameTexts xs zs
same_then xs ys zs h k = record { same = λ t. h.same t ∙ k.same t }

pub same_front : (zs xs ys : List (List ℕ)) → SameTexts xs ys → SameTexts (zs ++ xs) (zs ++ ys)
same_front zs xs ys h = record { same = λ t. stands-append zs xs t ∙ ap (λ b. stands_in zs t || b) (h.same t) ∙ sym (stands-append zs ys t) }

pub same_itself : (xs : List (List ℕ)) → SameTexts xs xs
same_itself xs = record { same = λ t. refl }

or-swap : (a b c : Bool) → a || (b || c) ≡ (b || (a || c))
or-swap true true c = refl
or-swap true false c = refl
or-swap false b c = refl

-- one text is taken from the front and was seen
pub same_step : (x : List ℕ) (rest old new whole : List (List ℕ)) → SameTexts new (x ∷ old) → SameTexts ((x ∷ rest) ++ old) whole → SameTexts (rest ++ new) whole
same_step x rest old new whole h k = record {
  same = λ t.
      stands-append rest new t ∙ ap (λ b. stands_in rest t || b) (h.same t ∙ stands-first x old t)
      ∙ or-swap (stands_in rest t) (bytes_eq x t) (stands_in old t)
      ∙ ap (λ b. bytes_eq x t || b) (sym (stands-append rest old t)) ∙ sym (stands-first x (rest ++ old) t)
      ∙ k.same t;
}

any-none : (vs : List (List ℕ)) → any_stands [] vs ≡ false
any-none [] = refl
any-none (v ∷ vs) = any-none vs

any-first : (p : List ℕ) (xs vs : List (List ℕ)) → any_stands (p ∷ xs) vs ≡ (stands_in vs p || any_stands xs vs)
any-first p xs [] = refl
any-first p xs (v ∷ vs) =
    ap₂ (λ a b. a || b) (stands-first p xs v) (any-first p xs vs)
    ∙ or-pairs (bytes_eq p v) (stands_in xs v) (stands_in vs p) (any_stands xs vs)
    ∙ ap (λ b. b || (stands_in xs v || any_stands xs vs)) (ap (λ b. b || stands_in vs p) (bytes_eq-sym p v) ∙ sym (stands-first v vs p))

any-same : (xs ys vs : List (List ℕ)) → SameTexts xs ys → any_stands xs vs ≡ any_stands ys vs
any-same xs ys [] h = refl
any-same xs ys (v ∷ vs) h = ap₂ (λ a b. a || b) (h.same v) (any-same xs ys vs h)

-- ---- one item more

space-step : (f g : Bool) (p q : List ℕ) (ts fs : List (List ℕ))
    → stands_in (cond f (if_so g q ++ ts) (cond g [] (q ∷ []) ++ fs)) p ≡ ((same_flag f g && bytes_eq p q) || stands_in (cond f ts fs) p)
space-step true true p q ts fs = stands-first q ts p ∙ ap (λ b. b || stands_in ts p) (bytes_eq-sym q p)
space-step true false p q ts fs = refl
space-step false true p q ts fs = refl
space-step false false p q ts fs = stands-first q fs p ∙ ap (λ b. b || stands_in fs p) (bytes_eq-sym q p)

variants-step : (s : Bool) (xs ys : List (List ℕ)) (p : List ℕ) → (s && stands_in (xs ++ ys) p) ≡ ((s && stands_in xs p) || (s && stands_in ys p))
variants-step true xs ys p = stands-append xs ys p
variants-step false xs ys p = refl

structs-step : (s : Bool) (q : List ℕ) (xs vs : List (List ℕ)) → any_stands (if_so s q ++ xs) vs ≡ ((s && stands_in vs q) || any_stands xs vs)
structs-step true q xs vs = any-first q xs vs
structs-step false q xs vs = refl

none-seen : (f s : Bool) (p : List ℕ) (vs : List (List ℕ)) → (stands_in (cond f [] []) p || ((s && stands_in [] p) || any_stands [] vs)) ≡ false
none-seen true true p vs = any-none vs
none-seen true false p vs = any-none vs
none-seen false true p vs = any-none vs
none-seen false false p vs = any-none vs

abbrev variants_in : Defined → List (List ℕ)
variants_in b = b.variants

met-all : (a : Defined) (bs : List Defined)
    → (stands_in (cond a.is_type (each as_type bs) (each as_function bs)) a.path || ((a.is_struct && stands_in (each variants_in bs) a.path) || any_stands (each as_struct bs) a.variants))
    ≡ any_clashes a bs
met-all a [] = none-seen a.is_type a.is_struct a.path a.variants
met-all a (b ∷ bs) =
    ap₂ (λ x y. x || y)
    (space-step a.is_type b.is_type a.path b.path (each as_type bs) (each as_function bs))
    (ap₂ (λ x y. x || y) (variants-step a.is_struct b.variants (each variants_in bs) a.path) (structs-step b.is_struct b.path (each as_struct bs) a.variants))
    ∙ or-threes (same_path a b) (stands_in (cond a.is_type (each as_type bs) (each as_function bs)) a.path)
    (is_variant_path a b) (a.is_struct && stands_in (each variants_in bs) a.path)
    (is_variant_path b a) (any_stands (each as_struct bs) a.variants)
    ∙ ap (λ x. clashes a b || x) (met-all a bs)

-- ---- what was seen

-- these items were seen
pub record SeenOf (seen : SeenPaths) (before : List Defined) : Type 0 where
  pub types : SameTexts seen.types (each as_type before)
  pub functions : SameTexts seen.functions (each as_function before)
  pub structs : SameTexts seen.structs (each as_struct before)
  pub variants : SameTexts seen.variants (each variants_in before)

space-same : (f : Bool) (p : List ℕ) (ts us fs gs : List (List ℕ)) → SameTexts ts us → SameTexts fs gs → stands_in (cond f ts fs) p ≡ stands_in (cond f us gs) p
space-same true p ts us fs gs h k = h.same p
space-same false p ts us fs gs h k = k.same p

meets-seen : (seen : SeenPaths) (before : List Defined) (a : Defined) → SeenOf seen before → meets seen a ≡ any_clashes a before
meets-seen seen before a s =
    ap₂ (λ x y. x || y)
    (space-same a.is_type a.path seen.types (each as_type before) seen.functions (each as_function before) s.types s.functions)
    (ap₂ (λ x y. x || y) (ap (λ b. a.is_struct && b) (s.variants.same a.path)) (any-same seen.structs (each as_struct before) a.variants s.structs))
    ∙ met-all a before

one-seen : (zs old new before : List (List ℕ)) → SameTexts new (zs ++ old) → SameTexts old before → SameTexts new (zs ++ before)
one-seen zs old new before h k = same_then new (zs ++ old) (zs ++ before) h (same_front zs old before k)

saw-more : (old new : SeenPaths) (before : List Defined) (a : Defined) → SeenOf old before → Saw old new a → SeenOf new (a ∷ before)
saw-more old new before a s saw = record {
  types = one-seen (as_type a) old.types new.types (each as_type before) saw.types s.types;
  functions = one-seen (as_function a) old.functions new.functions (each as_function before) saw.functions s.functions;
  structs = one-seen (as_struct a) old.structs new.structs (each as_struct before) saw.structs s.structs;
  variants = one-seen a.variants old.variants new.variants (each variants_in before) saw.variants s.variants;
}

-- ---- the walk

-- some items were seen, and the faults of those that are left are still to be noted
pub record Sees (seen : SeenPaths) (start kept : Option Fault) (left whole : List Defined) : Type 0 where
  pub before : List Defined
  pub seen_of : SeenOf seen before
  pub notes : noted kept (path_faults before left) ≡ noted start (path_faults [] whole)

pub sees_none : (seen : SeenPaths) (start : Option Fault) (whole : List Defined)
    → seen.types ≡ [] → seen.functions ≡ [] → seen.structs ≡ [] → seen.variants ≡ [] → Sees seen start start whole whole
sees_none seen start whole t f s v = record {
  before = [];
  seen_of = record {
    types = record { same = λ x. ap (λ l. stands_in l x) t };
    functions = record { same = λ x. ap (λ l. stands_in l x) f };
    structs = record { same = λ x. ap (λ l. stands_in l x) s };
    variants = record { same = λ x. ap (λ l. stands_in l x) v };
  };
  notes = refl;
}

pub sees_step : (old new : SeenPaths) (start kept later : Option Fault) (a : Defined) (rest whole : List Defined)
    → Sees old start kept (a ∷ rest) whole → Saw old new a → later ≡ noted kept (on_line a.line (unless (not (meets old a)) 10)) → Sees new start later rest whole
sees_step old new start kept later a rest whole s saw is = record {
  before = a ∷ s.before;
  seen_of = saw-more old new s.before a s.seen_of saw;
  notes = faults_step kept later _ (on_line a.line (unless (not (any_clashes a s.before)) 10)) (path_faults (a ∷ s.before) rest)
      (is ∙ ap (λ b. noted kept (on_line a.line (unless (not b) 10))) (meets-seen old s.before a s.seen_of)) s.notes;
}

pub sees_ended : {Z : Type 0} (of : Z → Defined) (seen : SeenPaths) (start kept : Option Fault) (left : List Z) (whole : List Defined)
    → length left < 1 → Sees seen start kept (map of left) whole → kept ≡ noted start (path_faults [] whole)
sees_ended of seen start kept left whole short s = faults_ended (λ l. path_faults s.before (map of l)) left kept _ short refl s.notes

pub line_is : (strings : Strings) (line : ℕ) (part : ItemText) → (defined_at strings line part).line ≡ line
line_is strings line (i.Struct path fields) = refl
line_is strings line (i.Enum path variants) = refl
line_is strings line (i.Extern path args result) = refl
line_is strings line (i.Function x) = refl

-- ---- enums

variants-listed : (strings : Strings) (path : List ℕ) (vs : Items VariantText)
    → variant_paths (before_defs strings []) path (items_rule variant_rule vs) ≡ map (variant_path strings path) vs.items
variants-listed strings path vs = items_listed (λ (v : VariantRule). path ++ codes "::" ++ string_at strings v.0) variant_rule vs.items vs.trailing

variants-there : (strings : Strings) (path : PathText) (vs : Items VariantText) (buffer : List ℕ) (texts : List VariantText)
    → buffer ≡ path_bytes strings (path_rule path) → texts ≡ vs.items
    → map (variant_path strings buffer) texts ≡ variant_paths (before_defs strings []) (path_bytes strings (path_rule path)) (items_rule variant_rule vs)
variants-there strings path vs buffer texts p t =
    ap₂ (λ b l. map (variant_path strings b) l) p t ∙ sym (variants-listed strings (path_bytes strings (path_rule path)) vs)

pub meets_enum : (strings : Strings) (line : ℕ) (path : PathText) (vs : Items VariantText) (seen : SeenPaths) (buffer : List ℕ) (texts : List VariantText)
    → buffer ≡ path_bytes strings (path_rule path) → texts ≡ vs.items
    → (stands_in seen.types buffer || any_stands seen.structs (map (variant_path strings buffer) texts)) ≡ meets seen (defined_at strings line (i.Enum path vs))
meets_enum strings line path vs seen buffer texts p t =
    ap₂ (λ b l. stands_in seen.types b || any_stands seen.structs l) p (variants-there strings path vs buffer texts p t)

same-as : (xs ys : List (List ℕ)) → xs ≡ ys → SameTexts xs ys
same-as xs ys e = record { same = λ t. ap (λ l. stands_in l t) e }

pub saw_enum : (strings : Strings) (line : ℕ) (path : PathText) (vs : Items VariantText) (old new : SeenPaths) (buffer : List ℕ) (texts : List VariantText)
    → buffer ≡ path_bytes strings (path_rule path) → texts ≡ vs.items
    → SameTexts new.types (buffer ∷ old.types) → new.functions ≡ old.functions → new.structs ≡ old.structs
    → SameTexts new.variants (map (variant_path strings buffer) texts ++ old.variants) → Saw old new (defined_at strings line (i.Enum path vs))
saw_enum strings line path vs old new buffer texts p t types functions structs variants = record {
  types = same_then new.types (buffer ∷ old.types) _ types (same-as _ _ (ap (λ b. b ∷ old.types) p));
  functions = same-as new.functions old.functions functions;
  structs = same-as new.structs old.structs structs;
  variants = same_then new.variants (map (variant_path strings buffer) texts ++ old.variants) _ variants
      (same-as _ _ (ap (λ l. l ++ old.variants) (variants-there strings path vs buffer texts p t)));
}
