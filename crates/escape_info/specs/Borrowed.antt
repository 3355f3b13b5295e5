-- Which locals of a body are borrowed: a reference to a part of them is made, or a part of them is dropped, which hands a reference to a
-- destructor.
use Rattle.std.specs.Prelude.{ℕ, Bool, true, false, ◌==◌, List, [], ◌∷◌, ◌++◌, if◌then◌else◌, Option, Some, None}
use Rattle.std.specs.List.{list_any, flat_map}
use Rattle.mir_syntax.specs.declared.body.Place.{Place}
use Rattle.mir_syntax.specs.declared.body.Rvalue.{Rvalue}
use Rattle.mir_syntax.specs.declared.body.Rvalue.TheVariants as rvalue
use Rattle.mir_syntax.specs.declared.body.Stmt.{Stmt}
use Rattle.mir_syntax.specs.declared.body.Stmt.TheVariants as stmt
use Rattle.mir_syntax.specs.declared.body.Term.{Term}
use Rattle.mir_syntax.specs.declared.body.Term.TheVariants as term
use Rattle.mir_syntax.specs.Tree.{Tree}
use Rattle.mir_syntax.specs.Crate.{TypedRvalue, ref, ref_mut, TypedStmt, assign, TypedBlock, TypedBody}
use Rattle.mir_syntax.specs.Parts.{has_deref}
use Rattle.mir_syntax.specs.Shapes.{Shape, whole_place_ty, needs_drop}

abbrev pub if_direct : Place → List ℕ
if_direct p = if has_deref p.proj then [] else p.local ∷ []

-- the local to a part of which a reference is made
abbrev pub lent_by : TypedRvalue → List ℕ
lent_by (ref p) = if_direct p
lent_by (ref_mut p) = if_direct p
lent_by _ = []

abbrev pub lent : TypedStmt → List ℕ
lent (assign p r) = lent_by r
lent _ = []

-- whether the type of a place needs drop
abbrev pub type_needs_drop : List Shape → Option Tree → Bool
type_needs_drop D None = false
type_needs_drop D (Some t) = needs_drop D t

abbrev pub place_needs_drop : List Shape → List Tree → Place → Bool
place_needs_drop D locals p = type_needs_drop D (whole_place_ty D locals p)

-- the local of a part that is dropped by more than forgetting it
abbrev pub dropped : List Shape → List Tree → Term → List ℕ
dropped D locals (term.Drop p next) = if place_needs_drop D locals p then p.local ∷ [] else []
dropped D locals _ = []

-- all that a block lends
abbrev pub lent_in : List Shape → List Tree → TypedBlock → List ℕ
lent_in D locals b = flat_map lent b.stmts ++ dropped D locals b.term

abbrev pub is : ℕ → ℕ → Bool
is x y = x == y

-- whether a local is borrowed
abbrev pub borrowed : List Shape → TypedBody → ℕ → Bool
borrowed D body x = list_any (is x) (flat_map (lent_in D body.locals) body.blocks)

-- ---- the same of statements with ids
abbrev pub bare_lent_by : Rvalue → List ℕ
bare_lent_by (rvalue.Ref p) = if_direct p
bare_lent_by (rvalue.RefMut p) = if_direct p
bare_lent_by _ = []

abbrev pub bare_lent : Stmt → List ℕ
bare_lent (stmt.Assign p r) = bare_lent_by r
bare_lent _ = []
