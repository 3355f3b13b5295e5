-- Which derivation the tree of a path or of a type is.
use Rattle.std.specs.Prelude.{ℕ, zero, suc, Bool, true, false, List, [], ◌∷◌, ◌++◌}
use Rattle.mir_text.specs.GrammarTypes.{PathRule, name, name_in, TypeRule, int, bool, ref, path, unit, tuple, TypesRule, end, last, more}
use Rattle.mir_tree.specs.declared.ty.PathText.{PathText}
use Rattle.mir_tree.specs.declared.ty.TypePart.{TypePart}
use Rattle.mir_tree.specs.declared.ty.TypePart.TheVariants as p
use Rattle.mir_tree.specs.declared.ty.TypeText.{TypeText}
use Rattle.mir_tree.specs.declared.Items.{Items}

-- ---- paths

abbrev pub path_of : ℕ → List ℕ → PathRule
path_of n [] = name n
path_of n (k ∷ ks) = name_in n (path_of k ks)

abbrev pub path_rule : PathText → PathRule
path_rule x = path_of x.first x.rest

-- the names of a path, in order
abbrev pub path_names : PathRule → List ℕ
path_names (name n) = n ∷ []
path_names (name_in n p) = n ∷ path_names p

abbrev pub path_text : PathRule → PathText
path_text (name n) = record { first = n; rest = [] }
path_text (name_in n p) = record { first = n; rest = path_names p }

-- ---- types

-- the types of a list, by these and whether a comma stands after the last one
abbrev pub types_listed : List TypeRule → Bool → TypesRule
types_listed [] trailing = end
types_listed (t ∷ []) false = last t
types_listed (t ∷ []) true = more t end
types_listed (t ∷ u ∷ us) trailing = more t (types_listed (u ∷ us) trailing)

abbrev pub tuple_listed : List TypeRule → Bool → TypeRule
tuple_listed [] trailing = unit
tuple_listed (t ∷ ts) trailing = tuple t (types_listed ts trailing)

-- so many types are taken from a stack, and put in front of those that were taken before; and what is left of it
abbrev pub taken : ℕ → List TypeRule → List TypeRule → List TypeRule × List TypeRule
taken zero before stack = (before, stack)
taken (suc n) before [] = (before, [])
taken (suc n) before (t ∷ stack) = taken n (t ∷ before) stack

abbrev pub with_tuple : Bool → List TypeRule × List TypeRule → List TypeRule
with_tuple trailing q = tuple_listed q.0 trailing ∷ q.1

abbrev pub with_ref : Bool → List TypeRule → List TypeRule
with_ref m [] = []
with_ref m (t ∷ stack) = ref m t ∷ stack

-- the types after one part, the last one first
abbrev pub after_part : TypePart → List TypeRule → List TypeRule
after_part (p.Int t) stack = int t ∷ stack
after_part p.Bool stack = bool ∷ stack
after_part (p.Path x) stack = path (path_rule x) ∷ stack
after_part p.Unit stack = unit ∷ stack
after_part (p.Ref m) stack = with_ref m stack
after_part (p.Tuple n trailing) stack = with_tuple trailing (taken n [] stack)

abbrev pub after_parts : List TypePart → List TypeRule → List TypeRule
after_parts [] stack = stack
after_parts (x ∷ xs) stack = after_parts xs (after_part x stack)

abbrev pub top_of : List TypeRule → TypeRule
top_of [] = unit
top_of (t ∷ stack) = t

-- the type that parts make
unfoldable pub type_of_parts : List TypePart → TypeRule
type_of_parts parts = top_of (after_parts parts [])

abbrev pub type_rule : TypeText → TypeRule
type_rule x = type_of_parts x.parts

abbrev pub types_of : List TypeText → List TypeRule
types_of [] = []
types_of (x ∷ xs) = type_rule x ∷ types_of xs

abbrev pub types_rule : Items TypeText → TypesRule
types_rule xs = types_listed (types_of xs.items) xs.trailing

-- ---- the parts of a type

abbrev pub types_count : TypesRule → ℕ
types_count end = 0
types_count (last t) = 1
types_count (more t ts) = suc (types_count ts)

-- a comma stands after the last one
abbrev pub ends_in_comma : TypesRule → Bool
ends_in_comma end = true
ends_in_comma (last t) = false
ends_in_comma (more t ts) = ends_in_comma ts

abbrev mutual
  pub type_parts : TypeRule → List TypePart
  type_parts (int t) = p.Int t ∷ []
  type_parts bool = p.Bool ∷ []
  type_parts (ref m t) = type_parts t ++ p.Ref m ∷ []
  type_parts (path x) = p.Path (path_text x) ∷ []
  type_parts unit = p.Unit ∷ []
  type_parts (tuple t ts) = type_parts t ++ (types_parts ts ++ p.Tuple (suc (types_count ts)) (ends_in_comma ts) ∷ [])

  pub types_parts : TypesRule → List TypePart
  types_parts end = []
  types_parts (last t) = type_parts t
  types_parts (more t ts) = type_parts t ++ types_parts ts

abbrev pub type_text : TypeRule → TypeText
type_text t = record { parts = type_parts t }
