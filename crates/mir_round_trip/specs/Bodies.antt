-- Bodies that a text writes: places nest no deeper than a text may, names are names, numbers are small enough.
use Rattle.std.specs.Prelude.{◌≡◌, ◌<◌, ◌≤◌, ◌^◌, ℕ, suc, max, Bool, true, false, List, [], ◌∷◌, ◌++◌, length, codes, Some, None}
use Rattle.mir_syntax.specs.declared.types.Form.{Form}
use Rattle.mir_syntax.specs.declared.types.Form.TheVariants as form
use Rattle.mir_syntax.specs.declared.body.Proj.{Proj}
use Rattle.mir_syntax.specs.declared.body.Proj.TheVariants.{Field, Downcast, Deref}
use Rattle.mir_syntax.specs.declared.body.Place.{Place}
use Rattle.mir_syntax.specs.declared.body.Const.{Const}
use Rattle.mir_syntax.specs.declared.body.Const.TheVariants as const
use Rattle.mir_syntax.specs.declared.body.Operand.{Operand}
use Rattle.mir_syntax.specs.declared.body.Operand.TheVariants as operand
use Rattle.mir_syntax.specs.declared.body.Callee.{Callee}
use Rattle.mir_syntax.specs.declared.body.Callee.TheVariants as callee
use Rattle.mir_syntax.specs.declared.body.Arm.{Arm}
use Rattle.mir_syntax.specs.declared.body.Term.{Term}
use Rattle.mir_syntax.specs.declared.body.Term.TheVariants as term
use Rattle.mir_syntax.specs.Tree.{Tree, named}
use Rattle.mir_syntax.specs.Crate as C
use Rattle.mir_syntax.specs.Crate.{TypedField, TypedRvalue, TypedStmt, TypedBlock, TypedFunction, Crate}
use Rattle.mir_syntax.specs.Shapes.{Shape, shapes_from, ◌>>=◌, pointee, proj_ty}
use Rattle.mir_text.specs.Numbers.{count}
use Rattle.mir_text.specs.Words.{place_in}
use Rattle.mir_text.specs.Pieces.{IsContent}
use Rattle.mir_text.specs.Grammar.{AllOf}
use Rattle.mir_text.specs.Names.{Strings, Names}
use Rattle.mir_text.specs.NamedBodies.{variant_in, variant_of_ty, struct_at}
use Rattle.mir_text.specs.NameFaults.{field_names}
use Rattle.mir_text.specs.TypeText.{def_at}
use Rattle.mir_text.specs.PlaceText.{local_ty, type_after, variant_at}
use Rattle.mir_text.specs.TermText.{function_paths, outside_paths, callee_path}
use Rattle.mir_round_trip.specs.Names.{IsName, IsPath, crate_paths, IsDef, Proper, tree_depth, IsTy}

-- the shapes without destructors
abbrev pub plain_shapes : Crate → List Shape
plain_shapes c = shapes_from [] 0 c.defs

-- what the names of a crate's canonical text mean
abbrev pub names_at : Crate → Strings → Names
names_at c strings = record {
  strings = strings;
  paths = crate_paths c;
  defs = c.defs;
  shapes = plain_shapes c;
  functions = function_paths c.functions;
  outsides = outside_paths c.outsides;
}

-- a field of a variant, of so many projections
abbrev pub field_type : Crate → Tree → ℕ → ℕ → Tree
field_type c t k n = type_after c (type_after c t (Downcast k)) (Field n)

-- a type has a variant, which its name names
pub record IsVariant (c : Crate) (t : Tree) (k : ℕ) : Type 0 where
  pub def : ℕ
  pub is : t ≡ named def
  pub there : def < length c.defs
  pub one : k < length (def_at c def).variants
  pub enum : (def_at c def).is_enum ≡ true
  pub name : IsName (variant_at c def k).name
  pub found : (strings : Strings) → variant_of_ty (names_at c strings) (variant_at c def k).name (named def) ≡ Some k

abbrev pub Path : Crate → Tree → List Proj → Type 0
Path c t [] = Unit {0}
Path c t (Deref ∷ ps) = (pointee t ≡ Some (type_after c t Deref)) × Path c (type_after c t Deref) ps
Path c t (Field n ∷ ps) =
    (n ≤ 4294967295) × (proj_ty (plain_shapes c) t (Field n) ≡ Some (type_after c t (Field n))) × Proper c (type_after c t (Field n)) × Path c (type_after c t (Field n)) ps
Path c t (Downcast k ∷ Field n ∷ ps) =
    (n ≤ 4294967295) × IsVariant c t k × (proj_ty (plain_shapes c) t (Downcast k) ≡ Some (type_after c t (Downcast k)))
    × (proj_ty (plain_shapes c) (type_after c t (Downcast k)) (Field n) ≡ Some (field_type c t k n)) × Proper c (field_type c t k n) × Path c (field_type c t k n) ps
Path c t ps = ⊥

-- how deep the rule of a place nests, so many being there before its projections
abbrev pub path_depth : Crate → Tree → ℕ → List Proj → ℕ
path_depth c t n [] = n
path_depth c t n (Deref ∷ ps) = path_depth c (type_after c t Deref) (suc n) ps
path_depth c t n (Field m ∷ ps) = path_depth c (type_after c t (Field m)) (suc (max n (tree_depth (type_after c t (Field m))))) ps
path_depth c t n (Downcast k ∷ Field m ∷ ps) = path_depth c (field_type c t k m) (suc (max (suc n) (tree_depth (field_type c t k m)))) ps
path_depth c t n ps = n

-- how deep the rule of a place nests
unfoldable pub depth_at : Crate → List Tree → Place → ℕ
depth_at c locals q = path_depth c (local_ty locals q.local) 1 q.proj

pub record IsPlace (c : Crate) (locals : List Tree) (q : Place) : Type 0 where
  pub there : q.local < length locals
  pub small : q.local < 2 ^ 32
  pub path : Path c (local_ty locals q.local) q.proj
  pub depth : depth_at c locals q ≤ 65

-- a number is one of its type
abbrev pub IsConst : Const → Type 0
IsConst (const.Int t n) = n < count t
IsConst x = Unit {0}

unfoldable pub IsOperand : Crate → List Tree → Operand → Type 0
IsOperand c locals (operand.Copy q) = IsPlace c locals q
IsOperand c locals (operand.Move q) = IsPlace c locals q
IsOperand c locals (operand.Const x) = IsConst x

-- the names of fields in braces are names; without a form there are none
abbrev pub AreFields : Form → List TypedField → Type 0
AreFields form.Unit fields = fields ≡ []
AreFields form.Tuple fields = Unit {0}
AreFields form.Named fields = AllOf IsName (field_names fields)

-- a variant of an enum has a name that names it, and no struct has their path; a struct has one variant
abbrev pub IsOne : Crate → ℕ → ℕ → Bool → Type 0
IsOne c d k true =
    IsName (variant_at c d k).name × (variant_in (variant_at c d k).name (def_at c d) ≡ Some k)
    × ((strings : Strings) → (place_in (crate_paths c) ((def_at c d).path ++ (codes "::" ++ (variant_at c d k).name)) >>= struct_at (names_at c strings)) ≡ None)
IsOne c d k false = k ≡ 0

-- a build has as many operands as fields; in the form of a tuple the rules on types say so
abbrev pub AreAsMany : Form → ℕ → ℕ → Type 0
AreAsMany form.Tuple m n = Unit {0}
AreAsMany form.Unit m n = m ≡ n
AreAsMany form.Named m n = m ≡ n

pub record IsBuild (c : Crate) (locals : List Tree) (d k : ℕ) (xs : List Operand) : Type 0 where
  pub def : IsDef c d
  pub one : k < length (def_at c d).variants
  pub named : IsOne c d k (def_at c d).is_enum
  pub fields : AreFields (variant_at c d k).form (variant_at c d k).fields
  pub count : AreAsMany (variant_at c d k).form (length xs) (length (variant_at c d k).fields)
  pub operands : AllOf (IsOperand c locals) xs

abbrev pub AreParts : Crate → List Tree → List Operand → Type 0
AreParts c locals [] = ⊥
AreParts c locals (x ∷ xs) = IsOperand c locals x × AllOf (IsOperand c locals) xs

unfoldable pub IsRvalue : Crate → List Tree → TypedRvalue → Type 0
IsRvalue c locals (C.«use» x) = IsOperand c locals x
IsRvalue c locals (C.binary op x y) = IsOperand c locals x × IsOperand c locals y
IsRvalue c locals (C.overflow op x y) = IsOperand c locals x × IsOperand c locals y
IsRvalue c locals (C.unary op x) = IsOperand c locals x
IsRvalue c locals (C.cast x t) = IsOperand c locals x × IsTy c t
IsRvalue c locals (C.ref q) = IsPlace c locals q
IsRvalue c locals (C.ref_mut q) = IsPlace c locals q
IsRvalue c locals (C.discriminant q) = IsPlace c locals q
IsRvalue c locals (C.tuple xs) = AreParts c locals xs
IsRvalue c locals (C.build d k xs) = IsBuild c locals d k xs

pub record IsLocal (locals : List Tree) (x : ℕ) : Type 0 where
  pub there : x < length locals
  pub small : x < 2 ^ 32

unfoldable pub IsStmt : Crate → List Tree → TypedStmt → Type 0
IsStmt c locals (C.assign q x) = IsPlace c locals q × IsRvalue c locals x
IsStmt c locals (C.storage_live x) = IsLocal locals x
IsStmt c locals (C.storage_dead x) = IsLocal locals x
IsStmt c locals (C.set_discriminant q k) = IsPlace c locals q × (k ≤ 4294967295)

-- one of so many blocks
pub record IsTarget (n b : ℕ) : Type 0 where
  pub there : b < n
  pub small : b < 2 ^ 32

pub record IsArm (n : ℕ) (a : Arm) : Type 0 where
  pub value : a.value < 2 ^ 128
  pub block : IsTarget n a.block

-- a number is that of a function or an outside function, which its path names
abbrev pub IsFunction : Crate → Callee → Type 0
IsFunction c (callee.Local f) = (f.0 < length (function_paths c.functions)) × (place_in (function_paths c.functions) (callee_path c (callee.Local f)) ≡ Some f.0)
IsFunction c (callee.Outside o) =
    (o.0 < length (outside_paths c.outsides)) × (place_in (function_paths c.functions) (callee_path c (callee.Outside o)) ≡ None)
    × (place_in (outside_paths c.outsides) (callee_path c (callee.Outside o)) ≡ Some o.0)

pub record IsCallee (c : Crate) (f : Callee) : Type 0 where
  pub path : IsPath (callee_path c f)
  pub is : IsFunction c f

unfoldable pub IsTerm : Crate → List Tree → ℕ → Term → Type 0
IsTerm c locals n (term.Goto b) = IsTarget n b
IsTerm c locals n (term.Switch x arms b) = IsOperand c locals x × AllOf (IsArm n) arms × IsTarget n b
IsTerm c locals n term.Return = Unit {0}
IsTerm c locals n term.Unreachable = Unit {0}
IsTerm c locals n (term.Drop q b) = IsPlace c locals q × IsTarget n b
IsTerm c locals n (term.Call q f xs b) = IsPlace c locals q × IsCallee c f × AllOf (IsOperand c locals) xs × IsTarget n b
IsTerm c locals n (term.Assert x expected message xs b) = IsOperand c locals x × IsContent false message × AllOf (IsOperand c locals) xs × IsTarget n b

-- a block of so many
pub record IsBlock (c : Crate) (locals : List Tree) (n : ℕ) (b : TypedBlock) : Type 0 where
  pub stmts : AllOf (IsStmt c locals) b.stmts
  pub term : IsTerm c locals n b.term

pub record IsFn (c : Crate) (f : TypedFunction) : Type 0 where
  pub path : IsPath f.path
  pub args : f.body.args < length f.body.locals
  pub few : length f.body.locals ≤ 2 ^ 32
  pub types : AllOf (IsTy c) f.body.locals
  pub some : 0 < length f.body.blocks
  pub few_blocks : length f.body.blocks ≤ 2 ^ 32
  pub blocks : AllOf (IsBlock c f.body.locals (length f.body.blocks)) f.body.blocks
