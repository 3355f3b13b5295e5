-- The grammar of paths and types.
--
--     path = name ( "::" name )*
--     type = integer type | "bool" | "&" "mut"? type | path
--          | "(" ")" | "(" type "," type,* ")"
use Rattle.std.specs.Prelude.{ℕ, Bool, true, false, List, [], ◌∷◌}
use Rattle.mir_syntax.specs.declared.types.IntTy.{IntTy}
use Rattle.mir_text.specs.declared.symbol.Symbol.TheVariants as s
use Rattle.mir_text.specs.Grammar.{Put}

-- ---- path

pub data PathRule : Type 0 where
  name : ℕ → PathRule
  name_in : ℕ → PathRule → PathRule

abbrev pub path_put : Put PathRule
path_put (name n) rest = s.Name n ∷ rest
path_put (name_in n path) rest = s.Name n ∷ s.Colons ∷ path_put path rest

-- ---- type

mutual
  pub data TypeRule : Type 0 where
    int : IntTy → TypeRule
    bool : TypeRule
    ref : Bool → TypeRule → TypeRule
    path : PathRule → TypeRule
    unit : TypeRule
    tuple : TypeRule → TypesRule → TypeRule

  -- type,* and the parenthesis that closes it
  pub data TypesRule : Type 0 where
    end : TypesRule
    last : TypeRule → TypesRule
    more : TypeRule → TypesRule → TypesRule

-- "mut"?
abbrev pub mut_put : Put Bool
mut_put true rest = s.Mut ∷ rest
mut_put false rest = rest

abbrev mutual
  pub type_put : Put TypeRule
  type_put (int i) rest = s.Int i ∷ rest
  type_put bool rest = s.Bool ∷ rest
  type_put (ref m t) rest = s.Ampersand ∷ mut_put m (type_put t rest)
  type_put (path p) rest = path_put p rest
  type_put unit rest = s.Open ∷ s.Close ∷ rest
  type_put (tuple t ts) rest = s.Open ∷ type_put t (s.Comma ∷ types_put ts rest)

  pub types_put : Put TypesRule
  types_put end rest = s.Close ∷ rest
  types_put (last t) rest = type_put t (s.Close ∷ rest)
  types_put (more t ts) rest = type_put t (s.Comma ∷ types_put ts rest)

-- the types of a list, in order
abbrev pub types_in : TypesRule → List TypeRule
types_in end = []
types_in (last t) = t ∷ []
types_in (more t ts) = t ∷ types_in ts
