-- A body in which locals of a tuple or struct type are replaced by one local for each field, as rustc's ScalarReplacementOfAggregates makes it
-- in outline.
use Rattle.std.specs.Prelude.{ℕ, suc, ◌+◌, Bool, true, false, not, ◌&&◌, ◌||◌, nat_eq, nat_lt, if◌then◌else◌, List, [], ◌∷◌, ◌++◌, map, length, get_or, Option, Some, None, is_some}
use Rattle.std.specs.List.{flat_map, list_all}
use Rattle.mir_syntax.specs.declared.body.Proj.{Proj}
use Rattle.mir_syntax.specs.declared.body.Proj.TheVariants.{Field}
use Rattle.mir_syntax.specs.declared.body.Place.{Place}
use Rattle.mir_syntax.specs.declared.body.Operand.{Operand}
use Rattle.mir_syntax.specs.declared.body.Operand.TheVariants.{Copy, Move, Const}
use Rattle.mir_syntax.specs.declared.body.Term.{Term}
use Rattle.mir_syntax.specs.declared.body.Term.TheVariants.{Goto, Switch, Return, Unreachable, Drop, Call, Assert}
use Rattle.mir_syntax.specs.Tree.{Tree, empty, more}
use Rattle.mir_syntax.specs.Crate.{TypedRvalue, «use», binary, overflow, unary, cast, ref, ref_mut, discriminant, tuple, build, TypedStmt, assign, storage_live, storage_dead, set_discriminant, TypedBlock, TypedBody}
use Rattle.mir_syntax.specs.Shapes.{◌>>=◌, Shape, fields_of, destructor_of}
use Rattle.mir_syntax.specs.Parts.{has_deref, begins_with_field, rvalue_places, term_places}
use Rattle.escape_info.specs.Borrowed.{borrowed}

-- ---- fields

-- the types of which a tuple is made
abbrev pub parts_of : Tree → Option (List Tree)
parts_of empty = Some []
parts_of (more t ts) = parts_of ts >>= λ us. Some (t ∷ us)
parts_of _ = None

abbrev pub if_any : Option (List Tree) → List Tree
if_any None = []
if_any (Some ts) = ts

-- the types of the fields of a tuple, or of a struct without a destructor of its own
abbrev pub field_types : List Shape → Tree → List Tree
field_types D t = if is_some (destructor_of D t) then [] else if_any (fields_of D t >>= parts_of)

-- ---- which locals are split

abbrev pub is_nil : {A : Type 0} → List A → Bool
is_nil [] = true
is_nil (x ∷ xs) = false

abbrev pub is_of : ℕ → Place → Bool
is_of x p = nat_eq p.local x

abbrev pub is_whole : ℕ → Place → Bool
is_whole x p = is_of x p && is_nil p.proj

-- a place of another local
abbrev pub is_apart : ℕ → Place → Bool
is_apart x p = not (is_of x p)

-- a place of another local, or in a field of this one
abbrev pub by_field : ℕ → Place → Bool
by_field x p = is_apart x p || begins_with_field p.proj

-- a value that is given whole, or put together of the values of its fields
abbrev pub gives_fields : TypedRvalue → Bool
gives_fields («use» o) = true
gives_fields (tuple os) = true
gives_fields (build d k os) = true
gives_fields _ = false

-- a copy or move of the whole of a local
abbrev pub takes_whole : ℕ → TypedRvalue → Bool
takes_whole x («use» (Copy p)) = is_whole x p
takes_whole x («use» (Move p)) = is_whole x p
takes_whole x _ = false

-- the whole of a local gets its fields, from places of other locals
abbrev pub fills : ℕ → Place → TypedRvalue → Bool
fills x p r = is_whole x p && (gives_fields r && list_all (is_apart x) (rvalue_places r))

-- the whole of a local goes to a place of another one, not through a reference
abbrev pub hands_on : ℕ → Place → TypedRvalue → Bool
hands_on x p r = takes_whole x r && (is_apart x p && not (has_deref p.proj))

abbrev pub allows_stmt : ℕ → TypedStmt → Bool
allows_stmt x (assign p r) = (by_field x p || fills x p r) && (list_all (by_field x) (rvalue_places r) || hands_on x p r)
allows_stmt x (storage_live y) = true
allows_stmt x (storage_dead y) = true
allows_stmt x (set_discriminant p k) = by_field x p

abbrev pub allows_block : ℕ → TypedBlock → Bool
allows_block x k = list_all (allows_stmt x) k.stmts && list_all (by_field x) (term_places k.term)

abbrev pub most_fields : ℕ
most_fields = 16

abbrev pub most_locals : ℕ
most_locals = 10000

-- `_0`, arguments and borrowed locals are not split
abbrev pub may_split : List Shape → TypedBody → ℕ → Tree → Bool
may_split D b x t = nat_lt b.args x && (not (borrowed D b x) && (nat_lt 0 (length (field_types D t)) && (nat_lt (length (field_types D t)) (suc most_fields) && list_all (allows_block x) b.blocks)))

-- ---- the new locals

-- of each local that is split, the first of the locals of its fields; the locals are tried in order, n standing so far
abbrev pub firsts_from : List Shape → TypedBody → ℕ → ℕ → List Tree → List (Option ℕ)
firsts_from D b n x [] = []
firsts_from D b n x (t ∷ ts) =
    if may_split D b x t && nat_lt (n + length (field_types D t)) (suc most_locals) then Some n ∷ firsts_from D b (n + length (field_types D t)) (suc x) ts else None ∷ firsts_from D b n (suc x) ts

abbrev pub firsts : List Shape → TypedBody → List (Option ℕ)
firsts D b = firsts_from D b (length b.locals) 0 b.locals

-- the types of the new locals, in order
abbrev pub new_types : List Shape → List (Option ℕ) → List Tree → List Tree
new_types D (Some n ∷ fs) (t ∷ ts) = field_types D t ++ new_types D fs ts
new_types D (None ∷ fs) (t ∷ ts) = new_types D fs ts
new_types D _ _ = []

-- ---- an assignment to or of the whole of a split local: one for each field, in order

abbrev pub field_at : Place → ℕ → Place
field_at p i = record p { proj = p.proj ++ Field i ∷ [] }

abbrev pub copies : Place → Place → ℕ → List Tree → List TypedStmt
copies p q i [] = []
copies p q i (t ∷ ts) = assign (field_at p i) («use» (Copy (field_at q i))) ∷ copies p q (suc i) ts

abbrev pub puts : Place → ℕ → List Operand → List TypedStmt
puts p i [] = []
puts p i (o ∷ os) = assign (field_at p i) («use» o) ∷ puts p (suc i) os

-- the fields being those of these types
abbrev pub spread : List Tree → Place → TypedRvalue → List TypedStmt
spread ts p («use» (Copy q)) = copies p q 0 ts
spread ts p («use» (Move q)) = copies p q 0 ts
spread ts p (tuple os) = puts p 0 os
spread ts p (build d k os) = puts p 0 os
spread ts p r = assign p r ∷ []

-- ---- the text

abbrev pub First : Type 0
First = ℕ → Option ℕ

abbrev pub moved_to : Option ℕ → Place → List Proj → Place
moved_to (Some y) p (Field i ∷ ps) = record { local = y + i; proj = ps }
moved_to o p ps = p

-- a place in field i of a split local is one of the local of field i
abbrev pub split_place : First → Place → Place
split_place s p = moved_to (s p.local) p p.proj

abbrev pub split_operand : First → Operand → Operand
split_operand s (Copy p) = Copy (split_place s p)
split_operand s (Move p) = Move (split_place s p)
split_operand s (Const c) = Const c

abbrev pub split_rvalue : First → TypedRvalue → TypedRvalue
split_rvalue s («use» o) = «use» (split_operand s o)
split_rvalue s (binary op a b) = binary op (split_operand s a) (split_operand s b)
split_rvalue s (overflow op a b) = overflow op (split_operand s a) (split_operand s b)
split_rvalue s (unary op a) = unary op (split_operand s a)
split_rvalue s (cast a t) = cast (split_operand s a) t
split_rvalue s (ref p) = ref (split_place s p)
split_rvalue s (ref_mut p) = ref_mut (split_place s p)
split_rvalue s (discriminant p) = discriminant (split_place s p)
split_rvalue s (tuple os) = tuple (map (split_operand s) os)
split_rvalue s (build d k os) = build d k (map (split_operand s) os)

-- the place of which the whole is copied or moved
abbrev pub used_place : TypedRvalue → Option Place
used_place («use» (Copy q)) = Some q
used_place («use» (Move q)) = Some q
used_place _ = None

-- whether a place is the whole of a split local
abbrev pub is_split : First → Place → Bool
is_split s p = is_nil p.proj && is_some (s p.local)

-- the fields of each local
abbrev pub Fields : Type 0
Fields = ℕ → List Tree

abbrev pub spread_read : First → Fields → Place → TypedRvalue → Option Place → List TypedStmt
spread_read s fields p r None = assign p r ∷ []
spread_read s fields p r (Some q) = if is_split s q then spread (fields q.local) p r else assign p r ∷ []

-- an assignment by fields, where it writes or reads the whole of a split local
abbrev pub by_fields : First → Fields → Place → TypedRvalue → List TypedStmt
by_fields s fields p r = if is_split s p then spread (fields p.local) p r else spread_read s fields p r (used_place r)

-- a statement at the places of the new locals
abbrev pub renamed : First → TypedStmt → TypedStmt
renamed s (assign p r) = assign (split_place s p) (split_rvalue s r)
renamed s (storage_live x) = storage_live x
renamed s (storage_dead x) = storage_dead x
renamed s (set_discriminant p k) = set_discriminant (split_place s p) k

-- the same storage statement of each new local
abbrev pub storages : (ℕ → TypedStmt) → ℕ → List Tree → List TypedStmt
storages f y [] = []
storages f y (t ∷ ts) = f y ∷ storages f (suc y) ts

abbrev pub split_storage : (ℕ → TypedStmt) → List Tree → ℕ → Option ℕ → List TypedStmt
split_storage f ts x (Some y) = storages f y ts
split_storage f ts x None = f x ∷ []

abbrev pub split_stmt : First → Fields → TypedStmt → List TypedStmt
split_stmt s fields (assign p r) = map (renamed s) (by_fields s fields p r)
split_stmt s fields (storage_live x) = split_storage storage_live (fields x) x (s x)
split_stmt s fields (storage_dead x) = split_storage storage_dead (fields x) x (s x)
split_stmt s fields (set_discriminant p k) = renamed s (set_discriminant p k) ∷ []

abbrev pub split_term : First → Term → Term
split_term s (Goto next) = Goto next
split_term s (Switch o arms other) = Switch (split_operand s o) arms other
split_term s Return = Return
split_term s Unreachable = Unreachable
split_term s (Drop p next) = Drop (split_place s p) next
split_term s (Call p callee os next) = Call (split_place s p) callee (map (split_operand s) os) next
split_term s (Assert o expected words os next) = Assert (split_operand s o) expected words (map (split_operand s) os) next

abbrev pub split_block : First → Fields → TypedBlock → TypedBlock
split_block s fields k = record { stmts = flat_map (split_stmt s fields) k.stmts; term = split_term s k.term }

abbrev pub first_of : List (Option ℕ) → First
first_of fs x = get_or fs x None

abbrev pub fields_at : List Shape → List Tree → Fields
fields_at D locals x = field_types D (get_or locals x empty)

-- with these first locals
abbrev pub split_by : List Shape → List (Option ℕ) → TypedBody → TypedBody
split_by D fs b = record { args = b.args; locals = b.locals ++ new_types D fs b.locals; blocks = map (split_block (first_of fs) (fields_at D b.locals)) b.blocks }

unfoldable pub split : List Shape → TypedBody → TypedBody
split D b = split_by D (firsts D b) b
