-- Types: the rule that writes one, its text, and back.
use Rattle.mir_round_trip.specs.Names.{crate_paths, IsDef, Proper, AreProper, tree_depth, parts_depth, Clear}
use Rattle.std.proofs.Common.{◌≡◌, ◌<◌, ℕ, suc, max, Bool, true, false, ◌&&◌, List, [], ◌∷◌, ◌++◌, length, codes, refl, sym, ap, ◌∙◌, arith, Some, is_some}
use Rattle.std.proofs.lemmas.Bool.{and_from}
use Rattle.mir_syntax.specs.declared.types.IntTy.{IntTy}
use Rattle.mir_syntax.specs.declared.types.IntTy.TheVariants as i
use Rattle.mir_syntax.specs.declared.types.ScalarTy.{ScalarTy}
use Rattle.mir_syntax.specs.declared.types.ScalarTy.TheVariants as scalar_ty
use Rattle.mir_syntax.specs.Tree.{Tree, scalar, empty, more, ref, ref_mut, named}
use Rattle.mir_syntax.specs.Crate.{Crate}
use Rattle.mir_text.specs.declared.symbol.Symbol.{Symbol}
use Rattle.mir_text.specs.declared.symbol.Symbol.TheVariants as s
use Rattle.mir_text.specs.Words.{word_place, place_in}
use Rattle.mir_text.specs.Symbols.{word_token, block_digits}
use Rattle.mir_text.specs.Grammar.{AllOf}
use Rattle.mir_text.specs.GrammarTypes as t
use Rattle.mir_text.specs.GrammarTypes.{PathRule, TypeRule, type_put, TypesRule, types_put}
use Rattle.mir_text.specs.Names.{Strings, path_bytes, named_or, type_named, types_named, is_known, are_known}
use Rattle.mir_text.specs.Nesting.{type_depth, types_depth}
use Rattle.mir_text.specs.TypeText.{piece, int_name, scalar_text, def_at, type_text, rest_text, parts_text}
use Rattle.mir_round_trip.proofs.Spelling.{Spelt, after, and_then, alone, bare, put_as}
use Rattle.mir_round_trip.proofs.Atoms.{word_spelt}
use Rattle.mir_round_trip.proofs.Literals.{open_sign, close_sign, unit, ampersand_sign, ampersand_mut, comma_space, comma_close}
use Rattle.mir_round_trip.proofs.Paths.{path_rule, path_names, path_spelt, Back, path_back}

-- ---- the rule

-- one more type in front of others
abbrev pub join_type : TypeRule → TypesRule → TypesRule
join_type u t.end = t.last u
join_type u (t.last v) = t.more u (t.last v)
join_type u (t.more v us) = t.more u (t.more v us)

abbrev pub scalar_rule : ScalarTy → TypeRule
scalar_rule scalar_ty.Bool = t.bool
scalar_rule (scalar_ty.Int n) = t.int n

unfoldable mutual
  pub type_rule : Crate → Strings → Tree → TypeRule
  type_rule c strings (scalar x) = scalar_rule x
  type_rule c strings empty = t.unit
  type_rule c strings (more u us) = t.tuple (type_rule c strings u) (types_rule c strings us)
  type_rule c strings (ref u) = t.ref false (type_rule c strings u)
  type_rule c strings (ref_mut u) = t.ref true (type_rule c strings u)
  type_rule c strings (named d) = t.path (path_rule strings (def_at c d).path)

  -- of the types of a tuple
  pub types_rule : Crate → Strings → Tree → TypesRule
  types_rule c strings (more u us) = join_type (type_rule c strings u) (types_rule c strings us)
  types_rule c strings u = t.end

-- ---- types that a text writes

-- ---- its text

int-spelt : (n : IntTy) → Spelt (int_name n) (λ strings rest. s.Int n ∷ rest) []
unfolding int_name word_token block_digits word_place
int-spelt i.I8 = word_spelt 105 (codes "8") (s.Int i.I8) refl refl refl
int-spelt i.I16 = word_spelt 105 (codes "16") (s.Int i.I16) refl refl refl
int-spelt i.I32 = word_spelt 105 (codes "32") (s.Int i.I32) refl refl refl
int-spelt i.I64 = word_spelt 105 (codes "64") (s.Int i.I64) refl refl refl
int-spelt i.I128 = word_spelt 105 (codes "128") (s.Int i.I128) refl refl refl
int-spelt i.Isize = word_spelt 105 (codes "size") (s.Int i.Isize) refl refl refl
int-spelt i.U8 = word_spelt 117 (codes "8") (s.Int i.U8) refl refl refl
int-spelt i.U16 = word_spelt 117 (codes "16") (s.Int i.U16) refl refl refl
int-spelt i.U32 = word_spelt 117 (codes "32") (s.Int i.U32) refl refl refl
int-spelt i.U64 = word_spelt 117 (codes "64") (s.Int i.U64) refl refl refl
int-spelt i.U128 = word_spelt 117 (codes "128") (s.Int i.U128) refl refl refl
int-spelt i.Usize = word_spelt 117 (codes "size") (s.Int i.Usize) refl refl refl

bool-spelt : Spelt (codes "bool") (λ strings rest. s.Bool ∷ rest) []
unfolding word_token block_digits word_place
bool-spelt = word_spelt 98 (codes "ool") s.Bool refl refl refl

scalar-spelt : (x : ScalarTy) → Spelt (scalar_text x) (λ strings. type_put (scalar_rule x)) []
unfolding scalar_text piece
scalar-spelt scalar_ty.Bool = bool-spelt
scalar-spelt (scalar_ty.Int n) = int-spelt n

-- what follows a type of a tuple
abbrev pub following_put : TypesRule → List Symbol → List Symbol
following_put t.end rest = s.Close ∷ rest
following_put (t.last u) rest = s.Comma ∷ types_put (t.last u) rest
following_put (t.more u us) rest = s.Comma ∷ types_put (t.more u us) rest

pub join-parts : (u : TypeRule) (us : TypesRule) (rest : List Symbol) → types_put (join_type u us) rest ≡ type_put u (following_put us rest)
join-parts u t.end rest = refl
join-parts u (t.last v) rest = refl
join-parts u (t.more v us) rest = refl

pub join-comma : (u : TypeRule) (us : TypesRule) (rest : List Symbol) → following_put (join_type u us) rest ≡ s.Comma ∷ types_put (join_type u us) rest
join-comma u t.end rest = refl
join-comma u (t.last v) rest = refl
join-comma u (t.more v us) rest = refl

-- what follows a type in a tuple begins with no byte of a name
parts-clear : (c : Crate) (us : Tree) (left : List ℕ) → Clear (parts_text c us ++ left)
unfolding parts_text piece
parts-clear c (more u us) left = refl
parts-clear c us left = refl

rest-clear : (c : Crate) (us : Tree) (left : List ℕ) → Clear (rest_text c us ++ left)
unfolding rest_text piece
rest-clear c (more u us) left = refl
rest-clear c us left = refl

mutual
  unfolding type_text type_rule Proper piece rest_text types_rule AreProper parts_text

  pub type_spelt : (c : Crate) (u : Tree) → Proper c u → Spelt (type_text c u) (λ strings. type_put (type_rule c strings u)) []
  type_spelt c (scalar x) h = scalar-spelt x
  type_spelt c empty h = alone unit
  type_spelt c (more u us) h = after open_sign (and_then (type_spelt c u h.0) (λ left clear. rest-clear c us left) (rest-spelt c us h.1))
  type_spelt c (ref u) h = after ampersand_sign (type_spelt c u h)
  type_spelt c (ref_mut u) h = after ampersand_mut (type_spelt c u h)
  type_spelt c (named d) h = bare (path_spelt (def_at c d).path h.path)

  rest-spelt : (c : Crate) (us : Tree) → AreProper c us → Spelt (rest_text c us) (λ strings rest. s.Comma ∷ types_put (types_rule c strings us) rest) []
  rest-spelt c empty h = alone comma_close
  rest-spelt c (more u us) h =
      put_as (λ strings ground rest. ap (λ l. s.Comma ∷ l) (sym (join-parts (type_rule c strings u) (types_rule c strings us) rest)))
      (after comma_space (and_then (type_spelt c u h.0) (λ left clear. parts-clear c us left) (parts-spelt c us h.1)))
  rest-spelt c u h = absurd h

  parts-spelt : (c : Crate) (us : Tree) → AreProper c us → Spelt (parts_text c us) (λ strings. following_put (types_rule c strings us)) []
  parts-spelt c empty h = alone close_sign
  parts-spelt c (more u us) h =
      put_as (λ strings ground rest. ap (λ l. s.Comma ∷ l) (sym (join-parts (type_rule c strings u) (types_rule c strings us) rest)) ∙ sym (join-comma (type_rule c strings u) (types_rule c strings us) rest))
      (after comma_space (and_then (type_spelt c u h.0) (λ left clear. parts-clear c us left) (parts-spelt c us h.1)))
  parts-spelt c u h = absurd h

-- ---- back

-- the names in the paths of structs and enums are read back
abbrev pub PathsBack : Crate → Strings → Type 0
PathsBack c strings = (d : ℕ) → d < length c.defs → AllOf (Back strings) (path_names (def_at c d).path)

join-named : (strings : Strings) (paths : List (List ℕ)) (u : TypeRule) (us : TypesRule) → types_named strings paths (join_type u us) ≡ more (type_named strings paths u) (types_named strings paths us)
join-named strings paths u t.end = refl
join-named strings paths u (t.last v) = refl
join-named strings paths u (t.more v us) = refl

def-place : (c : Crate) (strings : Strings) (d : ℕ) → PathsBack c strings → IsDef c d → place_in (crate_paths c) (path_bytes strings (path_rule strings (def_at c d).path)) ≡ Some d
def-place c strings d back h = ap (place_in (crate_paths c)) (path_back strings (def_at c d).path h.path (back d h.there)) ∙ h.place

mutual
  unfolding type_rule Proper types_rule AreProper

  pub type_back : (c : Crate) (strings : Strings) → PathsBack c strings → (u : Tree) → Proper c u → type_named strings (crate_paths c) (type_rule c strings u) ≡ u
  type_back c strings back (scalar scalar_ty.Bool) h = refl
  type_back c strings back (scalar (scalar_ty.Int n)) h = refl
  type_back c strings back empty h = refl
  type_back c strings back (more u us) h = ap (λ x. more x (types_named strings (crate_paths c) (types_rule c strings us))) (type_back c strings back u h.0) ∙ ap (more u) (types_back c strings back us h.1)
  type_back c strings back (ref u) h = ap ref (type_back c strings back u h)
  type_back c strings back (ref_mut u) h = ap ref_mut (type_back c strings back u h)
  type_back c strings back (named d) h = ap (named_or (length (crate_paths c))) (def-place c strings d back h)

  pub types_back : (c : Crate) (strings : Strings) → PathsBack c strings → (us : Tree) → AreProper c us → types_named strings (crate_paths c) (types_rule c strings us) ≡ us
  types_back c strings back empty h = refl
  types_back c strings back (more u us) h =
      join-named strings (crate_paths c) (type_rule c strings u) (types_rule c strings us)
      ∙ ap (λ x. more x (types_named strings (crate_paths c) (types_rule c strings us))) (type_back c strings back u h.0) ∙ ap (more u) (types_back c strings back us h.1)
  types_back c strings back u h = absurd h

-- ---- each path in it is known

join-known : (strings : Strings) (paths : List (List ℕ)) (u : TypeRule) (us : TypesRule) → is_known strings paths u ≡ true → are_known strings paths us ≡ true → are_known strings paths (join_type u us) ≡ true
join-known strings paths u t.end h k = h
join-known strings paths u (t.last v) h k = and_from _ _ h k
join-known strings paths u (t.more v us) h k = and_from _ _ h k

mutual
  unfolding type_rule Proper types_rule AreProper

  pub type_known : (c : Crate) (strings : Strings) → PathsBack c strings → (u : Tree) → Proper c u → is_known strings (crate_paths c) (type_rule c strings u) ≡ true
  type_known c strings back (scalar scalar_ty.Bool) h = refl
  type_known c strings back (scalar (scalar_ty.Int n)) h = refl
  type_known c strings back empty h = refl
  type_known c strings back (more u us) h = and_from _ _ (type_known c strings back u h.0) (types_known c strings back us h.1)
  type_known c strings back (ref u) h = type_known c strings back u h
  type_known c strings back (ref_mut u) h = type_known c strings back u h
  type_known c strings back (named d) h = ap is_some (def-place c strings d back h)

  pub types_known : (c : Crate) (strings : Strings) → PathsBack c strings → (us : Tree) → AreProper c us → are_known strings (crate_paths c) (types_rule c strings us) ≡ true
  types_known c strings back empty h = refl
  types_known c strings back (more u us) h =
      join-known strings (crate_paths c) (type_rule c strings u) (types_rule c strings us) (type_known c strings back u h.0) (types_known c strings back us h.1)
  types_known c strings back u h = absurd h

-- ---- how deep it nests

pub max-zero : (n : ℕ) → n ≡ max n 0
max-zero n = grind arith

join-depth : (u : TypeRule) (us : TypesRule) → types_depth (join_type u us) ≡ max (type_depth u) (types_depth us)
join-depth u t.end = max-zero (type_depth u)
join-depth u (t.last v) = refl
join-depth u (t.more v us) = refl

mutual
  unfolding type_rule types_rule

  pub depth_kept : (c : Crate) (strings : Strings) (u : Tree) → type_depth (type_rule c strings u) ≡ tree_depth u
  depth_kept c strings (scalar scalar_ty.Bool) = refl
  depth_kept c strings (scalar (scalar_ty.Int n)) = refl
  depth_kept c strings empty = refl
  depth_kept c strings (more u us) = ap (λ n. suc (max n (types_depth (types_rule c strings us)))) (depth_kept c strings u) ∙ ap (λ n. suc (max (tree_depth u) n)) (depths_kept c strings us)
  depth_kept c strings (ref u) = ap suc (depth_kept c strings u)
  depth_kept c strings (ref_mut u) = ap suc (depth_kept c strings u)
  depth_kept c strings (named d) = refl

  pub depths_kept : (c : Crate) (strings : Strings) (us : Tree) → types_depth (types_rule c strings us) ≡ parts_depth us
  depths_kept c strings (more u us) =
      join-depth (type_rule c strings u) (types_rule c strings us)
      ∙ ap (λ n. max n (types_depth (types_rule c strings us))) (depth_kept c strings u) ∙ ap (λ n. max (tree_depth u) n) (depths_kept c strings us)
  depths_kept c strings u = refl
