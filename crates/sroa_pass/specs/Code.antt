-- What the code makes of a body, over places, statements and blocks as the program holds them.
use Rattle.std.specs.Prelude.{◌≡◌, ℕ, suc, ◌+◌, ◌<◌, ◌≤◌, Bool, true, false, not, ◌&&◌, nat_lt, IsTrue, if◌then◌else◌, List, [], ◌∷◌, ◌++◌, map, length, get_or, slice_get, Option, Some, None}
use Rattle.std.specs.List.{flat_map, list_all, range_with_len}
use Rattle.mir_syntax.specs.declared.body.Proj.{Proj}
use Rattle.mir_syntax.specs.declared.body.Proj.TheVariants.{Field}
use Rattle.mir_syntax.specs.declared.body.Place.{Place}
use Rattle.mir_syntax.specs.declared.body.Operand.{Operand}
use Rattle.mir_syntax.specs.declared.body.Operand.TheVariants.{Copy, Move, Const}
use Rattle.mir_syntax.specs.declared.body.Rvalue.{Rvalue}
use Rattle.mir_syntax.specs.declared.body.Rvalue.TheVariants.{Use, Binary, Overflow, Unary, Cast, Ref, RefMut, Discriminant, Tuple, Build}
use Rattle.mir_syntax.specs.declared.body.Stmt.{Stmt}
use Rattle.mir_syntax.specs.declared.body.Stmt.TheVariants.{Assign, StorageLive, StorageDead, SetDiscriminant}
use Rattle.mir_syntax.specs.declared.body.Term.{Term}
use Rattle.mir_syntax.specs.declared.body.Term.TheVariants as term
use Rattle.mir_syntax.specs.declared.body.Block.{Block}
use Rattle.mir_syntax.specs.declared.types.TyId.{TyId}
use Rattle.mir_syntax.specs.declared.program.Program.{Program}
use Rattle.mir_syntax.specs.Tree.{Tree, at_id, trees_of}
use Rattle.mir_syntax.specs.Crate.{TypedRvalue, tuple, build, TypedStmt, assign, storage_live, storage_dead, set_discriminant, TypedBlock, TypedBody, crate_of}
use Rattle.mir_syntax.specs.Shapes.{◌>>=◌, Shape, shapes_of, fields_of}
use Rattle.mir_syntax.specs.Table.{all_below}
use Rattle.mir_syntax.specs.Ids.{IdsInTable}
use Rattle.mir_syntax.specs.Parts.{has_deref, begins_with_field, rvalue_places, term_places}
use Rattle.mir_rules.specs.BodyRules.{breaks_v06}
use Rattle.sroa_pass.specs.declared.parts.Parts.{Parts}
use Rattle.sroa_pass.specs.declared.by_fields.Whole.{Whole}
use Rattle.sroa_pass.specs.declared.by_fields.Whole.TheVariants as whole
use Rattle.sroa_pass.specs.Split.{parts_of, if_any, field_types, is_nil, is_apart, most_fields, most_locals, may_split, firsts, new_types, fields_at}

-- ---- locals that something holds whole

-- the local of a place that doesn't begin in a field
abbrev pub held_place : Place → List ℕ
held_place p = if begins_with_field p.proj then [] else p.local ∷ []

abbrev pub held_operand : Operand → List ℕ
held_operand (Copy p) = held_place p
held_operand (Move p) = held_place p
held_operand (Const c) = []

abbrev pub held_rvalue : Rvalue → List ℕ
held_rvalue (Use a) = held_operand a
held_rvalue (Binary op a b) = held_operand a ++ held_operand b
held_rvalue (Overflow op a b) = held_operand a ++ held_operand b
held_rvalue (Unary op a) = held_operand a
held_rvalue (Cast a ty) = held_operand a
held_rvalue (Ref p) = held_place p
held_rvalue (RefMut p) = held_place p
held_rvalue (Discriminant p) = held_place p
held_rvalue (Tuple os) = flat_map held_operand os
held_rvalue (Build d k os) = flat_map held_operand os

-- a constant, or at a place of another local
abbrev pub operand_apart : ℕ → Operand → Bool
operand_apart x (Copy p) = is_apart x p
operand_apart x (Move p) = is_apart x p
operand_apart x (Const c) = true

-- the values of fields, none of them of the local itself
abbrev pub fills_from : ℕ → Rvalue → Bool
fills_from x (Use a) = operand_apart x a
fills_from x (Tuple os) = list_all (operand_apart x) os
fills_from x (Build d k os) = list_all (operand_apart x) os
fills_from x _ = false

-- the whole of a local gets its fields
abbrev pub fills_whole : Place → Rvalue → Bool
fills_whole p r = is_nil p.proj && fills_from p.local r

-- the whole of the second place's local goes to the first place
abbrev pub hands_place : Place → Place → Bool
hands_place p q = is_nil q.proj && (is_apart q.local p && not (has_deref p.proj))

abbrev pub hands_whole : Place → Rvalue → Bool
hands_whole p (Use (Copy q)) = hands_place p q
hands_whole p (Use (Move q)) = hands_place p q
hands_whole p _ = false

abbrev pub held_target : Place → Rvalue → List ℕ
held_target p r = if fills_whole p r then [] else held_place p

abbrev pub held_source : Place → Rvalue → List ℕ
held_source p r = if hands_whole p r then [] else held_rvalue r

abbrev pub held_stmt : Stmt → List ℕ
held_stmt (Assign p r) = held_target p r ++ held_source p r
held_stmt (StorageLive x) = []
held_stmt (StorageDead x) = []
held_stmt (SetDiscriminant p k) = held_place p

abbrev pub held_term : Term → List ℕ
held_term (term.Switch o arms other) = held_operand o
held_term (term.Drop p next) = held_place p
held_term (term.Call p callee os next) = held_place p ++ flat_map held_operand os
held_term (term.Assert o expected words os next) = held_operand o ++ flat_map held_operand os
held_term (term.Goto next) = []
held_term term.Return = []
held_term term.Unreachable = []

abbrev pub held_block : Block → List ℕ
held_block k = flat_map held_stmt k.stmts ++ held_term k.term

-- ---- places at the new locals

-- the new locals of each local that is split
abbrev pub Table : Type 0
Table = List (Option Parts)

abbrev pub parts_at : Table → ℕ → Option Parts
parts_at t x = get_or t x None

abbrev pub whole_parts : Table → Place → Option Parts
whole_parts t p = if is_nil p.proj then parts_at t p.local else None

-- the local of the field in which a place begins
abbrev pub part_of : Option Parts → List Proj → Option ℕ
part_of (Some a) (Field i ∷ ps) = if nat_lt i a.count then Some (a.first + i) else None
part_of o ps = None

abbrev pub behind : List Proj → List Proj
behind [] = []
behind (p ∷ ps) = ps

abbrev pub place_at : Option ℕ → Place → Place
place_at (Some y) p = record { local = y; proj = behind p.proj }
place_at None p = p

abbrev pub put_place : Table → Place → Place
put_place t p = place_at (part_of (parts_at t p.local) p.proj) p

abbrev pub put_operand : Table → Operand → Operand
put_operand t (Copy p) = Copy (put_place t p)
put_operand t (Move p) = Move (put_place t p)
put_operand t (Const c) = Const c

abbrev pub put_rvalue : Table → Rvalue → Rvalue
put_rvalue t (Use a) = Use (put_operand t a)
put_rvalue t (Binary op a b) = Binary op (put_operand t a) (put_operand t b)
put_rvalue t (Overflow op a b) = Overflow op (put_operand t a) (put_operand t b)
put_rvalue t (Unary op a) = Unary op (put_operand t a)
put_rvalue t (Cast a ty) = Cast (put_operand t a) ty
put_rvalue t (Ref p) = Ref (put_place t p)
put_rvalue t (RefMut p) = RefMut (put_place t p)
put_rvalue t (Discriminant p) = Discriminant (put_place t p)
put_rvalue t (Tuple os) = Tuple (map (put_operand t) os)
put_rvalue t (Build d k os) = Build d k (map (put_operand t) os)

abbrev pub put_term : Table → Term → Term
put_term t (term.Goto next) = term.Goto next
put_term t (term.Switch o arms other) = term.Switch (put_operand t o) arms other
put_term t term.Return = term.Return
put_term t term.Unreachable = term.Unreachable
put_term t (term.Drop p next) = term.Drop (put_place t p) next
put_term t (term.Call p callee os next) = term.Call (put_place t p) callee (map (put_operand t) os) next
put_term t (term.Assert o expected words os next) = term.Assert (put_operand t o) expected words (map (put_operand t) os) next

-- ---- statements by fields

abbrev pub own : ℕ → Place
own y = record { local = y; proj = [] }

-- where the fields of a place's value are
abbrev pub whole_of : Option Parts → Place → Whole
whole_of (Some a) p = whole.Parts a
whole_of None p = whole.Place p

abbrev pub whole_at : Table → Place → Whole
whole_at t p = whole_of (whole_parts t p) (put_place t p)

abbrev pub field_in : Whole → ℕ → Place
field_in (whole.Parts a) i = own (a.first + i)
field_in (whole.Place p) i = record { local = p.local; proj = p.proj ++ Field i ∷ [] }

abbrev pub copy_field : Whole → Whole → ℕ → Stmt
copy_field to from i = Assign (field_in to i) (Use (Copy (field_in from i)))

-- so many fields, in order
abbrev pub copied_fields : Whole → Whole → ℕ → List Stmt
copied_fields to from n = map (copy_field to from) (range_with_len 0 n)

-- values for the locals from one up to another
abbrev pub put_fields : Table → ℕ → ℕ → List Operand → List Stmt
put_fields t y end [] = []
put_fields t y end (o ∷ os) = if nat_lt y end then Assign (own y) (Use (put_operand t o)) ∷ put_fields t (suc y) end os else put_fields t y end os

abbrev pub count_of : Option Parts → Option Parts → Option ℕ
count_of (Some a) o = Some a.count
count_of None (Some b) = Some b.count
count_of None None = None

-- how many fields go from the second place to the first one, where one of them is the whole of a split local
abbrev pub fields_between : Table → Place → Place → Option ℕ
fields_between t p q = count_of (whole_parts t p) (whole_parts t q)

abbrev pub one_assign : Table → Place → Rvalue → List Stmt
one_assign t p r = Assign (put_place t p) (put_rvalue t r) ∷ []

abbrev pub used_stmts : Table → Place → Operand → Place → Option ℕ → List Stmt
used_stmts t p o q (Some n) = copied_fields (whole_at t p) (whole_at t q) n
used_stmts t p o q None = one_assign t p (Use o)

abbrev pub use_stmts : Table → Place → Operand → List Stmt
use_stmts t p (Copy q) = used_stmts t p (Copy q) q (fields_between t p q)
use_stmts t p (Move q) = used_stmts t p (Move q) q (fields_between t p q)
use_stmts t p (Const c) = one_assign t p (Use (Const c))

abbrev pub built_stmts : Table → Place → Rvalue → List Operand → Option Parts → List Stmt
built_stmts t p r os (Some a) = put_fields t a.first (a.first + a.count) os
built_stmts t p r os None = one_assign t p r

abbrev pub assign_stmts : Table → Place → Rvalue → List Stmt
assign_stmts t p (Use o) = use_stmts t p o
assign_stmts t p (Tuple os) = built_stmts t p (Tuple os) os (whole_parts t p)
assign_stmts t p (Build d k os) = built_stmts t p (Build d k os) os (whole_parts t p)
assign_stmts t p r = one_assign t p r

abbrev pub storage : Bool → ℕ → Stmt
storage true x = StorageLive x
storage false x = StorageDead x

abbrev pub storage_stmts : Bool → ℕ → Option Parts → List Stmt
storage_stmts live x (Some a) = map (λ i. storage live (a.first + i)) (range_with_len 0 a.count)
storage_stmts live x None = storage live x ∷ []

abbrev pub put_stmt : Table → Stmt → List Stmt
put_stmt t (Assign p r) = assign_stmts t p r
put_stmt t (StorageLive x) = storage_stmts true x (parts_at t x)
put_stmt t (StorageDead x) = storage_stmts false x (parts_at t x)
put_stmt t (SetDiscriminant p k) = SetDiscriminant (put_place t p) k ∷ []

abbrev pub put_block : Table → Block → Block
put_block t k = record { stmts = flat_map (put_stmt t) k.stmts; term = put_term t k.term }

-- ---- the locals that are split

-- the fields of a tuple or a struct
abbrev pub own_fields : List Shape → Tree → List Tree
own_fields D t = if_any (fields_of D t >>= parts_of)

-- whether a local may be split, by the row of those that stay
abbrev pub may_by : ℕ → List Bool → ℕ → ℕ → Bool
may_by args held x n = nat_lt args x && (not (get_or held x false) && (nat_lt 0 n && nat_lt n (suc most_fields)))

-- and whether its fields, which are so many, have room
abbrev pub is_chosen : ℕ → List Bool → ℕ → ℕ → ℕ → Bool
is_chosen args held x n standing = may_by args held x n && nat_lt (standing + n) (suc most_locals)

-- ids for the fields of a type come to the end
pub record Adds (p : Program) (id : TyId) (old new : List TyId) : Type 0 where
  pub added : List TyId
  pub is : new ≡ old ++ added
  pub types : map (at_id (trees_of p.types)) added ≡ own_fields (shapes_of (crate_of p)) (at_id (trees_of p.types) id)
  pub in_table : IdsInTable p → id.0 < length p.types → IsTrue (all_below (length p.types) added)

abbrev pub count_in : Program → TyId → ℕ
count_in p id = length (field_types (shapes_of (crate_of p)) (at_id (trees_of p.types) id))

abbrev pub first_of_parts : Option Parts → Option ℕ
first_of_parts None = None
first_of_parts (Some a) = Some a.first

-- the row tells which locals may be split
abbrev pub MayBe : List Shape → TypedBody → ℕ → List Bool → Type 0
MayBe D b args held = (x : ℕ) (t : Tree) → x < length b.locals → may_split D b x t ≡ may_by args held x (length (field_types D t))

-- a local is split or not, and its new locals come to the end
abbrev pub Tried : Program → ℕ → List Bool → ℕ → TyId → List TyId → List TyId → Option Parts → Type 0
Tried p args held x id old new None = (is_chosen args held x (count_in p id) (length old) ≡ false) × (new ≡ old)
Tried p args held x id old new (Some a) =
    (is_chosen args held x (count_in p id) (length old) ≡ true) × (a.first ≡ length old) × (a.count ≡ count_in p id) × Adds p id old new

-- the locals are split that the definition names, and their new locals stand at the end
pub record SplitLocals (p : Program) (args : ℕ) (held : List Bool) (old new : List TyId) (t : Table) : Type 0 where
  pub added : List TyId
  pub is : new ≡ old ++ added
  pub in_table : IdsInTable p → IsTrue (all_below (length p.types) old) → IsTrue (all_below (length p.types) added)
  pub firsts : (b : TypedBody) → b.locals ≡ map (at_id (trees_of p.types)) old → MayBe (shapes_of (crate_of p)) b args held → map first_of_parts t ≡ firsts (shapes_of (crate_of p)) b
  pub counts : (x : ℕ) (a : Parts) → parts_at t x ≡ Some a → a.count ≡ count_in p (get_or old x (record { 0 = 0 }))
  pub types : map (at_id (trees_of p.types)) added ≡ new_types (shapes_of (crate_of p)) (map first_of_parts t) (map (at_id (trees_of p.types)) old)

-- ---- what is asked of a body

abbrev pub stmt_places : TypedStmt → List Place
stmt_places (assign p r) = p ∷ rvalue_places r
stmt_places (storage_live x) = []
stmt_places (storage_dead x) = []
stmt_places (set_discriminant p k) = p ∷ []

-- the values of which an rvalue is put together
abbrev pub values_of : TypedRvalue → List Operand
values_of (tuple os) = os
values_of (build d k os) = os
values_of r = []

-- each place has a type, and what is put together for a local has no more values than that has fields, if it has some
pub record IsTyped (D : List Shape) (b : TypedBody) : Type 0 where
  pub stmts : (i n : ℕ) (k : TypedBlock) (s : TypedStmt) → slice_get b.blocks i ≡ Some k → slice_get k.stmts n ≡ Some s → breaks_v06 D b.locals (stmt_places s) ≡ false
  pub terms : (i : ℕ) (k : TypedBlock) → slice_get b.blocks i ≡ Some k → breaks_v06 D b.locals (term_places k.term) ≡ false
  pub values : (i n : ℕ) (k : TypedBlock) (p : Place) (r : TypedRvalue) → slice_get b.blocks i ≡ Some k → slice_get k.stmts n ≡ Some (assign p r) → p.proj ≡ [] → 0 < length (fields_at D b.locals p.local) → length (values_of r) ≤ length (fields_at D b.locals p.local)
