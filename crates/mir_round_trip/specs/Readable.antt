-- Crates that a text writes: their parts are so, and no two of their paths clash.
use Rattle.std.specs.Prelude.{◌≡◌, ℕ, Bool, true, false, not, List, [], ◌∷◌, ◌++◌, map, codes}
use Rattle.mir_syntax.specs.declared.types.Form.{Form}
use Rattle.mir_syntax.specs.declared.types.Form.TheVariants as form
use Rattle.mir_syntax.specs.Crate.{TypedField, TypedVariant, TypedDef, TypedOutside, TypedFunction, Crate}
use Rattle.mir_text.specs.Grammar.{AllOf}
use Rattle.mir_text.specs.NameFaults.{field_names, none_twice, Defined, any_clashes}
use Rattle.mir_round_trip.specs.Names.{IsName, IsPath, IsTy}
use Rattle.mir_round_trip.specs.Bodies.{IsFn}

pub record IsPart (c : Crate) (f : TypedField) : Type 0 where
  pub unnamed : f.name ≡ []
  pub type : IsTy c f.ty

pub record IsField (c : Crate) (f : TypedField) : Type 0 where
  pub name : IsName f.name
  pub type : IsTy c f.ty

abbrev pub IsFields : Crate → Form → List TypedField → Type 0
IsFields c form.Unit fields = fields ≡ []
IsFields c form.Tuple fields = AllOf (IsPart c) fields
IsFields c form.Named fields = AllOf (IsField c) fields × (none_twice [] (field_names fields) ≡ true)

pub record IsOption (c : Crate) (v : TypedVariant) : Type 0 where
  pub name : IsName v.name
  pub fields : IsFields c v.form v.fields

abbrev pub IsShape : Crate → Bool → List TypedVariant → Type 0
IsShape c true vs = AllOf (IsOption c) vs × (none_twice [] (map (λ v. v.name) vs) ≡ true)
IsShape c false [] = ⊥
IsShape c false (v ∷ []) = (v.name ≡ []) × IsFields c v.form v.fields
IsShape c false (v ∷ w ∷ vs) = ⊥

pub record IsDefinition (c : Crate) (d : TypedDef) : Type 0 where
  pub path : IsPath d.path
  pub shape : IsShape c d.is_enum d.variants

pub record IsOutside (c : Crate) (o : TypedOutside) : Type 0 where
  pub path : IsPath o.path
  pub args : AllOf (IsTy c) o.args
  pub result : IsTy c o.result

-- a crate whose parts a text writes
pub record AreWritten (c : Crate) : Type 0 where
  pub defs : AllOf (IsDefinition c) c.defs
  pub outsides : AllOf (IsOutside c) c.outsides
  pub functions : AllOf (IsFn c) c.functions

-- without its line
abbrev pub unlined : Defined → Defined
unlined a = record { line = 0; is_type = a.is_type; is_struct = a.is_struct; path = a.path; variants = a.variants }

abbrev pub option_paths : List ℕ → Bool → List TypedVariant → List (List ℕ)
option_paths path true vs = map (λ v. path ++ codes "::" ++ v.name) vs
option_paths path false vs = []

abbrev pub def_defined : TypedDef → Defined
def_defined d = record { line = 0; is_type = true; is_struct = not d.is_enum; path = d.path; variants = option_paths d.path d.is_enum d.variants }

abbrev pub outside_defined : TypedOutside → Defined
outside_defined o = record { line = 0; is_type = false; is_struct = false; path = o.path; variants = [] }

abbrev pub fn_defined : TypedFunction → Defined
fn_defined f = record { line = 0; is_type = false; is_struct = false; path = f.path; variants = [] }

abbrev pub crate_defined : Crate → List Defined
crate_defined c = map def_defined c.defs ++ (map outside_defined c.outsides ++ map fn_defined c.functions)

-- none clashes with one that stands before it, some standing before all
abbrev pub AreApart : List Defined → List Defined → Type 0
AreApart before [] = Unit {0}
AreApart before (a ∷ others) = (any_clashes a before ≡ false) × AreApart (a ∷ before) others

-- a crate that a text writes
pub record Readable (c : Crate) : Type 0 where
  pub written : AreWritten c
  pub apart : AreApart [] (crate_defined c)
