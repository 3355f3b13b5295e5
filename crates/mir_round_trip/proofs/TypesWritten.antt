-- The paths and types that a derivation writes are such as a canonical text writes.
use Rattle.mir_round_trip.specs.Names.{IsName, PathNames, one, more, joined, in_front, split, AllNames, IsPath, crate_paths, IsDef, Proper, AreProper, tree_depth, parts_depth, IsTy}
use Rattle.std.proofs.Common.{◌≡◌, ◌<◌, ◌≤◌, ◌+◌, ℕ, zero, suc, max, Bool, true, false, ◌==◌, nat_eq, List, [], ◌∷◌, ◌++◌, map, length, get_or, codes, refl, sym, ap, subst, ◌∙◌, arith, append_assoc, Option, Some, None, is_some}
use Rattle.std.proofs.lemmas.Bool.Decides.{nat_tests}
use Rattle.std.specs.Char.{is_ascii_alphabetic}
use Rattle.mir_syntax.specs.declared.types.IntTy.{IntTy}
use Rattle.mir_syntax.specs.declared.types.IntTy.TheVariants as i
use Rattle.mir_syntax.specs.declared.types.ScalarTy.{ScalarTy}
use Rattle.mir_syntax.specs.declared.types.ScalarTy.TheVariants as scalar_ty
use Rattle.mir_syntax.specs.Tree as tree
use Rattle.mir_syntax.specs.Tree.{Tree}
use Rattle.mir_syntax.specs.Crate.{TypedDef, Crate}
use Rattle.mir_text.specs.Bytes.{AreAll, is_name_byte}
use Rattle.mir_text.specs.Pieces.{Piece, blank, line, comment, local, number, typed, text, word, under, mark, spelled, IsPiece}
use Rattle.mir_text.specs.Words.{place_in}
use Rattle.mir_text.specs.Symbols.{name, token_of}
use Rattle.mir_text.specs.GrammarTypes as t
use Rattle.mir_text.specs.GrammarTypes.{PathRule, TypeRule, TypesRule}
use Rattle.mir_text.specs.Names.{Strings, string_at, path_bytes, named_or, type_named, types_named, is_known, are_known, int_number, same_scalar, same_type}
use Rattle.mir_text.specs.Nesting.{type_depth, types_depth}
use Rattle.mir_text.specs.TypeText.{no_def, def_at}
use Rattle.mir_text.proofs.Numbered.{place_from-there}
use Rattle.mir_rules.specs.Same as rule
use Rattle.mir_rules.proofs.Same.{same_scalar_is}
use Rattle.mir_rules.proofs.Lists.{and_true-left, and_true-right}
use Rattle.mir_round_trip.proofs.Numbering.{stands-at}
use Rattle.mir_round_trip.proofs.Types.{max-zero}
use Rattle.mir_round_trip.proofs.Rvalues.{two-same}
use Rattle.mir_round_trip.proofs.Carried.{PathNice}

-- ---- names have no colon

letter-name : (b : ℕ) → is_ascii_alphabetic b ≡ true → is_name_byte b ≡ true
letter-name b h = rw h refl

piece-bytes : (p : Piece) (bytes : List ℕ) → IsPiece p → token_of p ≡ name bytes → AreAll is_name_byte (spelled p)
piece-bytes (blank b) bytes h e = absurd cc
piece-bytes line bytes h e = absurd cc
piece-bytes (comment bs) bytes h e = absurd cc
piece-bytes (local d ds) bytes h e = absurd cc
piece-bytes (number d ds) bytes h e = absurd cc
piece-bytes (typed d ds u) bytes h e = absurd cc
piece-bytes (text bs) bytes h e = absurd cc
piece-bytes (word b bs) bytes h e = (letter-name b h.0, h.1)
piece-bytes (under b bs) bytes h e = (refl, h.1)
piece-bytes (mark m) bytes h e = absurd cc

name-bytes : (bytes : List ℕ) → IsName bytes → AreAll is_name_byte bytes
name-bytes bytes h = subst (AreAll is_name_byte) h.spells (piece-bytes h.piece bytes h.is h.token)

no-colon : (b : ℕ) → is_name_byte b ≡ true → (b == 58) ≡ false
no-colon b h = grind (arith, nat_tests)

split-front : (b a : ℕ) (bs : List ℕ) → is_name_byte b ≡ true → split (b ∷ a ∷ bs) ≡ in_front b (split (a ∷ bs))
split-front b a bs h = rw (no-colon b h) refl

split-one : (bs : List ℕ) → AreAll is_name_byte bs → split bs ≡ one bs
split-one [] h = refl
split-one (b ∷ []) h = refl
split-one (b ∷ a ∷ bs) h = split-front b a bs h.0 ∙ ap (in_front b) (split-one (a ∷ bs) h.1)

split-more : (bs others : List ℕ) → AreAll is_name_byte bs → split (bs ++ (codes "::" ++ others)) ≡ more bs (split others)
split-more [] others h = refl
split-more (b ∷ []) others h = split-front b 58 (58 ∷ others) h.0 ∙ ap (in_front b) (split-more [] others tt)
split-more (b ∷ a ∷ bs) others h = split-front b a (bs ++ (codes "::" ++ others)) h.0 ∙ ap (in_front b) (split-more (a ∷ bs) others h.1)

abbrev written_path : Strings → PathRule → PathNames
written_path strings (t.name n) = one (string_at strings n)
written_path strings (t.name_in n q) = more (string_at strings n) (written_path strings q)

path-joined : (strings : Strings) (q : PathRule) → path_bytes strings q ≡ joined (written_path strings q)
path-joined strings (t.name n) = refl
path-joined strings (t.name_in n q) =
    append_assoc (string_at strings n) (codes "::") (path_bytes strings q) ∙ ap (λ l. string_at strings n ++ (codes "::" ++ l)) (path-joined strings q)

split-joined : (strings : Strings) (q : PathRule) → PathNice strings q → split (joined (written_path strings q)) ≡ written_path strings q
split-joined strings (t.name n) h = split-one (string_at strings n) (name-bytes (string_at strings n) h)
split-joined strings (t.name_in n q) h =
    split-more (string_at strings n) (joined (written_path strings q)) (name-bytes (string_at strings n) h.0) ∙ ap (more (string_at strings n)) (split-joined strings q h.1)

all-written : (strings : Strings) (q : PathRule) → PathNice strings q → AllNames (written_path strings q)
all-written strings (t.name n) h = h
all-written strings (t.name_in n q) h = (h.0, all-written strings q h.1)

pub path_written : (strings : Strings) (q : PathRule) → PathNice strings q → IsPath (path_bytes strings q)
path_written strings q h =
    let names = written_path strings q in
    let is : IsPath (joined names) = record { whole = ap joined (split-joined strings q h); names = subst AllNames (sym (split-joined strings q h)) (all-written strings q h) } in
    subst IsPath (sym (path-joined strings q)) is

-- ---- definitions that a path names

path-at : (ds : List TypedDef) (d : ℕ) → get_or (map (λ x. x.path) ds) d [] ≡ (get_or ds d no_def).path
path-at [] d = refl
path-at (x ∷ xs) zero = refl
path-at (x ∷ xs) (suc d) = path-at xs d

paths-length : (ds : List TypedDef) → length (map (λ x. x.path) ds) ≡ length ds
paths-length [] = refl
paths-length (x ∷ xs) = ap suc (paths-length xs)

-- each definition's path is one
abbrev pub PathsWritten : Crate → Type 0
PathsWritten c = (d : ℕ) → d < length c.defs → IsPath (def_at c d).path

-- the definition that a path names has that path
pub path-of : (c : Crate) (bytes : List ℕ) (d : ℕ) → place_in (crate_paths c) bytes ≡ Some d → (def_at c d).path ≡ bytes
path-of c bytes d h =
    let at = stands-at 0 d (crate_paths c) bytes h in
    let same : at.0 ≡ d = omega (arith, at.1) in
    sym (path-at c.defs d) ∙ ap (λ n. get_or (crate_paths c) n []) (sym same) ∙ at.2

pub def_there : (c : Crate) (bytes : List ℕ) (d : ℕ) → PathsWritten c → place_in (crate_paths c) bytes ≡ Some d → IsDef c d
def_there c bytes d paths h =
    let at = stands-at 0 d (crate_paths c) bytes h in
    let same : at.0 ≡ d = omega (arith, at.1) in
    let path : (def_at c d).path ≡ bytes = sym (path-at c.defs d) ∙ ap (λ n. get_or (crate_paths c) n []) (sym same) ∙ at.2 in
    let less = place_from-there 0 d (crate_paths c) bytes h in
    let all = paths-length c.defs in
    let there : d < length c.defs = omega (arith, less, all) in
    record { there = there; path = paths d there; place = ap (place_in (crate_paths c)) path ∙ h }

-- ---- types

named-proper : (c : Crate) (bytes : List ℕ) (o : Option ℕ) → PathsWritten c → place_in (crate_paths c) bytes ≡ o → is_some o ≡ true → Proper c (named_or (length (crate_paths c)) o)
unfolding Proper
named-proper c bytes None paths e h = absurd cc
named-proper c bytes (Some d) paths e h = def_there c bytes d paths e

mutual
  unfolding Proper AreProper

  pub type_proper : (c : Crate) (strings : Strings) → PathsWritten c → (u : TypeRule) → is_known strings (crate_paths c) u ≡ true → Proper c (type_named strings (crate_paths c) u)
  type_proper c strings paths (t.int x) h = tt
  type_proper c strings paths t.bool h = tt
  type_proper c strings paths (t.ref true u) h = type_proper c strings paths u h
  type_proper c strings paths (t.ref false u) h = type_proper c strings paths u h
  type_proper c strings paths (t.path q) h = named-proper c (path_bytes strings q) (place_in (crate_paths c) (path_bytes strings q)) paths refl h
  type_proper c strings paths t.unit h = tt
  type_proper c strings paths (t.tuple u us) h = (
    type_proper c strings paths u (and_true-left (is_known strings (crate_paths c) u) (are_known strings (crate_paths c) us) h),
    types_proper c strings paths us (and_true-right (is_known strings (crate_paths c) u) (are_known strings (crate_paths c) us) h),
  )

  pub types_proper : (c : Crate) (strings : Strings) → PathsWritten c → (us : TypesRule) → are_known strings (crate_paths c) us ≡ true → AreProper c (types_named strings (crate_paths c) us)
  types_proper c strings paths t.end h = tt
  types_proper c strings paths (t.last u) h = (type_proper c strings paths u h, tt)
  types_proper c strings paths (t.more u us) h = (
    type_proper c strings paths u (and_true-left (is_known strings (crate_paths c) u) (are_known strings (crate_paths c) us) h),
    types_proper c strings paths us (and_true-right (is_known strings (crate_paths c) u) (are_known strings (crate_paths c) us) h),
  )

named-depth : (n : ℕ) (o : Option ℕ) → tree_depth (named_or n o) ≡ 1
named-depth n None = refl
named-depth n (Some d) = refl

mutual
  pub type_depth_same : (strings : Strings) (paths : List (List ℕ)) (u : TypeRule) → tree_depth (type_named strings paths u) ≡ type_depth u
  type_depth_same strings paths (t.int x) = refl
  type_depth_same strings paths t.bool = refl
  type_depth_same strings paths (t.ref true u) = ap suc (type_depth_same strings paths u)
  type_depth_same strings paths (t.ref false u) = ap suc (type_depth_same strings paths u)
  type_depth_same strings paths (t.path q) = named-depth (length paths) (place_in paths (path_bytes strings q))
  type_depth_same strings paths t.unit = refl
  type_depth_same strings paths (t.tuple u us) = two-same (λ a b. suc (max a b)) (type_depth_same strings paths u) (types_depth_same strings paths us)

  pub types_depth_same : (strings : Strings) (paths : List (List ℕ)) (us : TypesRule) → parts_depth (types_named strings paths us) ≡ types_depth us
  types_depth_same strings paths t.end = refl
  types_depth_same strings paths (t.last u) = sym (max-zero (tree_depth (type_named strings paths u))) ∙ type_depth_same strings paths u
  types_depth_same strings paths (t.more u us) = two-same max (type_depth_same strings paths u) (types_depth_same strings paths us)

pub ty_written : (c : Crate) (strings : Strings) → PathsWritten c → (u : TypeRule) → is_known strings (crate_paths c) u ≡ true → type_depth u ≤ 65 → IsTy c (type_named strings (crate_paths c) u)
ty_written c strings paths u h k = record { proper = type_proper c strings paths u h; depth = subst (λ n. n ≤ 65) (sym (type_depth_same strings (crate_paths c) u)) k }

-- ---- the same types are one

int-number : (x : IntTy) → int_number x ≡ rule.place_of_int x
int-number i.I8 = refl
int-number i.I16 = refl
int-number i.I32 = refl
int-number i.I64 = refl
int-number i.I128 = refl
int-number i.Isize = refl
int-number i.U8 = refl
int-number i.U16 = refl
int-number i.U32 = refl
int-number i.U64 = refl
int-number i.U128 = refl
int-number i.Usize = refl

scalar-is : (x y : ScalarTy) → same_scalar x y ≡ true → x ≡ y
scalar-is scalar_ty.Bool scalar_ty.Bool h = refl
scalar-is scalar_ty.Bool (scalar_ty.Int y) h = absurd cc
scalar-is (scalar_ty.Int x) scalar_ty.Bool h = absurd cc
scalar-is (scalar_ty.Int x) (scalar_ty.Int y) h =
    same_scalar_is (scalar_ty.Int x) (scalar_ty.Int y) (two-same (λ a b. nat_eq a b) (sym (int-number x)) (sym (int-number y)) ∙ h)

number-is : (a b : ℕ) → nat_eq a b ≡ true → a ≡ b
number-is a b h = grind (arith, nat_tests)

pub same_type_is : (x y : Tree) → same_type x y ≡ true → x ≡ y
same_type_is (tree.scalar x) (tree.scalar y) h = ap tree.scalar (scalar-is x y h)
same_type_is tree.empty tree.empty h = refl
same_type_is (tree.more x xs) (tree.more y ys) h =
    two-same tree.more (same_type_is x y (and_true-left (same_type x y) (same_type xs ys) h)) (same_type_is xs ys (and_true-right (same_type x y) (same_type xs ys) h))
same_type_is (tree.ref x) (tree.ref y) h = ap tree.ref (same_type_is x y h)
same_type_is (tree.ref_mut x) (tree.ref_mut y) h = ap tree.ref_mut (same_type_is x y h)
same_type_is (tree.named d) (tree.named e) h = ap tree.named (number-is d e h)
same_type_is x y h = absurd cc
