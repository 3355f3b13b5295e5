-- A table that grows changes nothing of what was in it: types, bodies and the crate are what they were.
use Rattle.std.proofs.Common.{IsTrue, ◌≡◌, ℕ, ◌<◌, ◌≤◌, inl, inr, Bool, nat_lt, List, [], ◌∷◌, ◌++◌, map, length, slice_get, Some, refl, sym, ap, ap₂, ◌∙◌, arith, rules, append-nil, length-append}
use Rattle.std.specs.List.{list_all}
use Rattle.mir_syntax.specs.declared.types.TyId.{TyId}
use Rattle.mir_syntax.specs.declared.types.Ty.{Ty}
use Rattle.mir_syntax.specs.declared.types.Field.{Field}
use Rattle.mir_syntax.specs.declared.types.Variant.{Variant}
use Rattle.mir_syntax.specs.declared.types.Def.{Def}
use Rattle.mir_syntax.specs.declared.types.Outside.{Outside}
use Rattle.mir_syntax.specs.declared.body.Rvalue.{Rvalue}
use Rattle.mir_syntax.specs.declared.body.Rvalue.TheVariants as rvalue
use Rattle.mir_syntax.specs.declared.body.Stmt.{Stmt}
use Rattle.mir_syntax.specs.declared.body.Stmt.TheVariants as stmt
use Rattle.mir_syntax.specs.declared.body.Block.{Block}
use Rattle.mir_syntax.specs.declared.body.Body.{Body}
use Rattle.mir_syntax.specs.declared.body.Function.{Function}
use Rattle.mir_syntax.specs.declared.program.Program.{Program}
use Rattle.mir_syntax.specs.Tree.{Tree, at_id, node, trees_of, Extends}
use Rattle.mir_syntax.specs.Table.{IsTable, Grows, all_below, ids_below}
use Rattle.mir_syntax.specs.Ids.{rvalue_below, stmt_below, block_below, body_below, function_below, field_below, variant_below, def_below, outside_below, BodyInTable, IdsInTable}
use Rattle.mir_syntax.specs.Crate.{TypedField, TypedVariant, TypedDef, TypedOutside, TypedBlock, TypedBody, TypedStmt, TypedFunction, Crate, cast, assign, field_of, variant_of, def_of, outside_of, rvalue_of, stmt_of, block_of, body_of, function_of, crate_of}
use Rattle.mir_syntax.proofs.Trees.{trees_from-append, trees_from-front, length-trees_of, at_id-front, node-front, at_id-node}

-- ---- tests on each item of a list

pub map-same : {X Y : Type 0} (test : X → Bool) (f g : X → Y) → ((x : X) → IsTrue (test x) → f x ≡ g x) → (xs : List X) → IsTrue (list_all test xs) → map f xs ≡ map g xs
map-same test f g same [] h = refl
map-same test f g same (x ∷ xs) h =
    let both : IsTrue (test x) × IsTrue (list_all test xs) = search rules in
    ap₂ (λ y ys. y ∷ ys) (same x both.0) (map-same test f g same xs both.1)

pub all-weaker : {X : Type 0} (test other : X → Bool) → ((x : X) → IsTrue (test x) → IsTrue (other x)) → (xs : List X) → IsTrue (list_all test xs) → IsTrue (list_all other xs)
all-weaker test other weaker [] h = refl
all-weaker test other weaker (x ∷ xs) h =
    let both : IsTrue (test x) × IsTrue (list_all test xs) = search rules in
    let first = weaker x both.0 in
    let rest = all-weaker test other weaker xs both.1 in
    search rules

pub lt-more : (n m i : ℕ) → n ≤ m → IsTrue (nat_lt i n) → IsTrue (nat_lt i m)
lt-more n m i le h = let below : i < n = search rules in let wide : i < m = omega arith in search rules

pub all_below-more : (n m : ℕ) → n ≤ m → (ids : List TyId) → IsTrue (all_below n ids) → IsTrue (all_below m ids)
all_below-more n m le [] h = refl
all_below-more n m le (id ∷ ids) h =
    let both : IsTrue (nat_lt id.0 n) × IsTrue (all_below n ids) = search rules in
    let first = lt-more n m id.0 le both.0 in
    let rest = all_below-more n m le ids both.1 in
    search rules

-- ---- what holds of a table holds of a longer one

pub rvalue-more : (n m : ℕ) → n ≤ m → (r : Rvalue) → IsTrue (rvalue_below n r) → IsTrue (rvalue_below m r)
rvalue-more n m le (rvalue.Cast a ty) h = lt-more n m ty.0 le h
rvalue-more n m le (rvalue.Use a) h = refl
rvalue-more n m le (rvalue.Binary op a b) h = refl
rvalue-more n m le (rvalue.Overflow op a b) h = refl
rvalue-more n m le (rvalue.Unary op a) h = refl
rvalue-more n m le (rvalue.Ref p) h = refl
rvalue-more n m le (rvalue.RefMut p) h = refl
rvalue-more n m le (rvalue.Discriminant p) h = refl
rvalue-more n m le (rvalue.Tuple parts) h = refl
rvalue-more n m le (rvalue.Build d v parts) h = refl

pub stmt-more : (n m : ℕ) → n ≤ m → (s : Stmt) → IsTrue (stmt_below n s) → IsTrue (stmt_below m s)
stmt-more n m le (stmt.Assign p r) h = rvalue-more n m le r h
stmt-more n m le (stmt.StorageLive x) h = refl
stmt-more n m le (stmt.StorageDead x) h = refl
stmt-more n m le (stmt.SetDiscriminant p k) h = refl

pub block-more : (n m : ℕ) → n ≤ m → (b : Block) → IsTrue (block_below n b) → IsTrue (block_below m b)
block-more n m le b h = all-weaker (stmt_below n) (stmt_below m) (stmt-more n m le) b.stmts h

pub body-more : (n m : ℕ) → n ≤ m → (b : Body) → IsTrue (body_below n b) → IsTrue (body_below m b)
body-more n m le b h =
    let both : IsTrue (all_below n b.locals) × IsTrue (list_all (block_below n) b.blocks) = search rules in
    let locals = all_below-more n m le b.locals both.0 in
    let blocks = all-weaker (block_below n) (block_below m) (block-more n m le) b.blocks both.1 in
    search rules

pub field-more : (n m : ℕ) → n ≤ m → (f : Field) → IsTrue (field_below n f) → IsTrue (field_below m f)
field-more n m le f h = lt-more n m f.ty.0 le h

pub variant-more : (n m : ℕ) → n ≤ m → (v : Variant) → IsTrue (variant_below n v) → IsTrue (variant_below m v)
variant-more n m le v h = all-weaker (field_below n) (field_below m) (field-more n m le) v.fields h

pub def-more : (n m : ℕ) → n ≤ m → (d : Def) → IsTrue (def_below n d) → IsTrue (def_below m d)
def-more n m le d h = all-weaker (variant_below n) (variant_below m) (variant-more n m le) d.variants h

pub outside-more : (n m : ℕ) → n ≤ m → (o : Outside) → IsTrue (outside_below n o) → IsTrue (outside_below m o)
outside-more n m le o h =
    let both : IsTrue (all_below n o.args) × IsTrue (nat_lt o.result.0 n) = search rules in
    let args = all_below-more n m le o.args both.0 in
    let result = lt-more n m o.result.0 le both.1 in
    search rules

pub function-more : (n m : ℕ) → n ≤ m → (f : Function) → IsTrue (function_below n f) → IsTrue (function_below m f)
function-more n m le f h = body-more n m le f.body h

-- ---- ids that lie in a table stand for the same in a longer one

pub ids-front : (trees later : List Tree) (ids : List TyId) → IsTrue (all_below (length trees) ids) → map (at_id (trees ++ later)) ids ≡ map (at_id trees) ids
ids-front trees later [] h = refl
ids-front trees later (id ∷ ids) h =
    let both : (id.0 < length trees) × IsTrue (all_below (length trees) ids) = search rules in
    ap₂ (λ t ts. t ∷ ts) (at_id-front trees later id both.0) (ids-front trees later ids both.1)

pub rvalue-front : (trees later : List Tree) (r : Rvalue) → IsTrue (rvalue_below (length trees) r) → rvalue_of (trees ++ later) r ≡ rvalue_of trees r
rvalue-front trees later (rvalue.Cast a ty) h = ap (λ t. cast a t) (at_id-front trees later ty (search rules))
rvalue-front trees later (rvalue.Use a) h = refl
rvalue-front trees later (rvalue.Binary op a b) h = refl
rvalue-front trees later (rvalue.Overflow op a b) h = refl
rvalue-front trees later (rvalue.Unary op a) h = refl
rvalue-front trees later (rvalue.Ref p) h = refl
rvalue-front trees later (rvalue.RefMut p) h = refl
rvalue-front trees later (rvalue.Discriminant p) h = refl
rvalue-front trees later (rvalue.Tuple parts) h = refl
rvalue-front trees later (rvalue.Build d v parts) h = refl

pub stmt-front : (trees later : List Tree) (s : Stmt) → IsTrue (stmt_below (length trees) s) → stmt_of (trees ++ later) s ≡ stmt_of trees s
stmt-front trees later (stmt.Assign p r) h = ap (λ x. assign p x) (rvalue-front trees later r h)
stmt-front trees later (stmt.StorageLive x) h = refl
stmt-front trees later (stmt.StorageDead x) h = refl
stmt-front trees later (stmt.SetDiscriminant p k) h = refl

pub block-front : (trees later : List Tree) (b : Block) → IsTrue (block_below (length trees) b) → block_of (trees ++ later) b ≡ block_of trees b
block-front trees later b h =
    let make : List TypedStmt → TypedBlock = λ stmts. record { stmts = stmts; term = b.term } in
    ap make (map-same (stmt_below (length trees)) (stmt_of (trees ++ later)) (stmt_of trees) (stmt-front trees later) b.stmts h)

pub body-front : (trees later : List Tree) (b : Body) → IsTrue (body_below (length trees) b) → body_of (trees ++ later) b ≡ body_of trees b
body-front trees later b h =
    let both : IsTrue (all_below (length trees) b.locals) × IsTrue (list_all (block_below (length trees)) b.blocks) = search rules in
    let make : List Tree → List TypedBlock → TypedBody = λ locals blocks. record { args = b.args; locals = locals; blocks = blocks } in
    ap₂ make (ids-front trees later b.locals both.0)
    (map-same (block_below (length trees)) (block_of (trees ++ later)) (block_of trees) (block-front trees later) b.blocks both.1)

pub function-front : (trees later : List Tree) (f : Function) → IsTrue (function_below (length trees) f) → function_of (trees ++ later) f ≡ function_of trees f
function-front trees later f h =
    let make : TypedBody → TypedFunction = λ body. record { path = f.path; inlining = f.inline; is_drop = f.is_drop; body = body } in
    ap make (body-front trees later f.body h)

pub field-front : (trees later : List Tree) (f : Field) → IsTrue (field_below (length trees) f) → field_of (trees ++ later) f ≡ field_of trees f
field-front trees later f h =
    let make : Tree → TypedField = λ ty. record { name = f.name; ty = ty } in
    ap make (at_id-front trees later f.ty (search rules))

pub variant-front : (trees later : List Tree) (v : Variant) → IsTrue (variant_below (length trees) v) → variant_of (trees ++ later) v ≡ variant_of trees v
variant-front trees later v h =
    let make : List TypedField → TypedVariant = λ fields. record { name = v.name; form = v.form; fields = fields } in
    ap make (map-same (field_below (length trees)) (field_of (trees ++ later)) (field_of trees) (field-front trees later) v.fields h)

pub def-front : (trees later : List Tree) (d : Def) → IsTrue (def_below (length trees) d) → def_of (trees ++ later) d ≡ def_of trees d
def-front trees later d h =
    let make : List TypedVariant → TypedDef = λ variants. record { path = d.path; is_enum = d.is_enum; variants = variants } in
    ap make (map-same (variant_below (length trees)) (variant_of (trees ++ later)) (variant_of trees) (variant-front trees later) d.variants h)

pub outside-front : (trees later : List Tree) (o : Outside) → IsTrue (outside_below (length trees) o) → outside_of (trees ++ later) o ≡ outside_of trees o
outside-front trees later o h =
    let both : IsTrue (all_below (length trees) o.args) × (o.result.0 < length trees) = search rules in
    let make : List Tree → Tree → TypedOutside = λ args result. record { path = o.path; args = args; result = result } in
    ap₂ make (ids-front trees later o.args both.0) (at_id-front trees later o.result both.1)

-- ---- a table that grows

pub Extends-same : (types : List Ty) → Extends types types
Extends-same types = ([], sym (append-nil types))

pub Grows-Extends : (old new : List Ty) (ty : Ty) → Grows old new ty → Extends old new
Grows-Extends old new ty (inl same) = ([], same ∙ sym (append-nil old))
Grows-Extends old new ty (inr more) = (ty ∷ [], more)

pub trees_of-extends : (old new : List Ty) → Extends old new → (later : List Tree) × (trees_of new ≡ trees_of old ++ later)
trees_of-extends old new e =
    let front = trees_from-front (trees_of old) e.0 in
    (front.0, ap trees_of e.1 ∙ trees_from-append [] old e.0 ∙ front.1)

pub length-extends : (old new : List Ty) → Extends old new → length old ≤ length new
length-extends old new e = omega (arith, length-append old e.0, ap length e.1)

-- earlier ids stand for what they stood for
pub at_id-extends : (old new : List Ty) (id : TyId) → Extends old new → id.0 < length old → at_id (trees_of new) id ≡ at_id (trees_of old) id
at_id-extends old new id e h =
    let front = trees_of-extends old new e in
    rw front.1 (at_id-front (trees_of old) front.0 id (omega (arith, length-trees_of old)))

-- a type of earlier ids stands for what it stood for
pub node-extends : (old new : List Ty) (ty : Ty) → Extends old new → IsTrue (ids_below (length old) ty) → node (trees_of new) ty ≡ node (trees_of old) ty
node-extends old new ty e h =
    let front = trees_of-extends old new e in
    rw front.1 (node-front (trees_of old) front.0 ty (rw (length-trees_of old) h))

-- a body keeps its types
pub body_of-extends : (old new : List Ty) (b : Body) → Extends old new → BodyInTable old b → body_of (trees_of new) b ≡ body_of (trees_of old) b
body_of-extends old new b e h =
    let front = trees_of-extends old new e in
    rw front.1 (body-front (trees_of old) front.0 b (rw (length-trees_of old) h))

pub BodyInTable-extends : (old new : List Ty) (b : Body) → Extends old new → BodyInTable old b → BodyInTable new b
BodyInTable-extends old new b e h = body-more (length old) (length new) (length-extends old new e) b h

-- a program that differs in its table alone, which has grown, is the same crate
pub crate_of-extends : (old new : Program) → Extends old.types new.types → new.defs ≡ old.defs → new.outsides ≡ old.outsides → new.functions ≡ old.functions
    → IdsInTable old → crate_of new ≡ crate_of old
crate_of-extends old new e defs outsides functions h =
    let front = trees_of-extends old.types new.types e in
    let trees = trees_of old.types in
    let long : length old.types ≡ length trees = sym (length-trees_of old.types) in
    let d = map-same (def_below (length trees)) (def_of (trees ++ front.0)) (def_of trees) (def-front trees front.0) old.defs (rw long at h.defs) in
    let o = map-same (outside_below (length trees)) (outside_of (trees ++ front.0)) (outside_of trees) (outside-front trees front.0) old.outsides (rw long at h.outsides) in
    let f = map-same (function_below (length trees)) (function_of (trees ++ front.0)) (function_of trees) (function-front trees front.0) old.functions (rw long at h.functions) in
    let make : List TypedDef → List TypedOutside → List TypedFunction → Crate = λ defs outsides functions. record { defs = defs; outsides = outsides; functions = functions } in
    rw (front.1, defs, outsides, functions, d, o, f) refl

pub IdsInTable-extends : (old new : Program) → Extends old.types new.types → new.defs ≡ old.defs → new.outsides ≡ old.outsides → new.functions ≡ old.functions
    → IdsInTable old → IdsInTable new
IdsInTable-extends old new e defs outsides functions h =
    let n = length old.types in
    let m = length new.types in
    let le = length-extends old.types new.types e in
    record {
      defs = rw defs (all-weaker (def_below n) (def_below m) (def-more n m le) old.defs h.defs);
      outsides = rw outsides (all-weaker (outside_below n) (outside_below m) (outside-more n m le) old.outsides h.outsides);
      functions = rw functions (all-weaker (function_below n) (function_below m) (function-more n m le) old.functions h.functions);
    }

-- the id of a type that stands in the grown table stands for what that type did before
pub at_id-grown : (old new : List Ty) (id : TyId) (ty : Ty) → IsTable new → Extends old new → IsTrue (ids_below (length old) ty) → slice_get new id.0 ≡ Some ty
    → at_id (trees_of new) id ≡ node (trees_of old) ty
at_id-grown old new id ty table e below found = at_id-node new id ty table found ∙ node-extends old new ty e below
