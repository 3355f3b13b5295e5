-- What is read of a program whose ids lie in its table lies there too.
use Rattle.std.proofs.Common.{IsTrue, ◌≡◌, ℕ, suc, zero, ◌<◌, Bool, List, [], ◌∷◌, length, slice_get, Option, Some, None, IfSome, Bor, option_copied, sym, arith, rules}
use Rattle.std.specs.List.{list_all}
use Rattle.std.specs.Option.{option_map}
use Rattle.mir_syntax.specs.declared.types.TyId.{TyId}
use Rattle.mir_syntax.specs.declared.types.Ty.{Ty}
use Rattle.mir_syntax.specs.declared.types.Field.{Field}
use Rattle.mir_syntax.specs.declared.types.Variant.{Variant}
use Rattle.mir_syntax.specs.declared.types.Def.{Def}
use Rattle.mir_syntax.specs.declared.body.Body.{Body}
use Rattle.mir_syntax.specs.declared.program.Program.{Program}
use Rattle.mir_syntax.specs.Table.{IsTable, all_below, ids_below}
use Rattle.mir_syntax.specs.Ids.{field_below, variant_below, def_below, block_below, BodyInTable, IdsInTable}
use Rattle.mir_syntax.specs.Shapes.{field_id}
use Rattle.mir_syntax.proofs.OneId.{ids_below-more}
use Rattle.std.proofs.lemmas.Option.{slice_get_within}

pub all-at : {X : Type 0} (test : X → Bool) (xs : List X) (k : ℕ) (x : X) → IsTrue (list_all test xs) → slice_get xs k ≡ Some x → IsTrue (test x)
all-at test [] k x h at = absurd cc
all-at test (y ∷ xs) zero x h at =
    let both : IsTrue (test y) × IsTrue (list_all test xs) = search rules in
    let same : y ≡ x = cc in
    rw (sym same) both.0
all-at test (y ∷ xs) (suc k) x h at =
    let both : IsTrue (test y) × IsTrue (list_all test xs) = search rules in
    all-at test xs k x both.1 at

pub ids-at : (n : ℕ) (ids : List TyId) (k : ℕ) (id : TyId) → IsTrue (all_below n ids) → slice_get ids k ≡ Some id → id.0 < n
ids-at n [] k id h at = absurd cc
ids-at n (y ∷ ids) zero id h at =
    let both : (y.0 < n) × IsTrue (all_below n ids) = search rules in
    let same : y ≡ id = cc in
    rw (sym same) both.0
ids-at n (y ∷ ids) (suc k) id h at =
    let both : (y.0 < n) × IsTrue (all_below n ids) = search rules in
    ids-at n ids k id both.1 at

-- an id of a list of them
pub id-read : (n : ℕ) (ids : List TyId) (k : ℕ) (o : Option TyId) → IsTrue (all_below n ids) → o ≡ slice_get ids k → IfSome o (λ id. id.0 < n)
id-read n ids k None h is = tt
id-read n ids k (Some id) h is = ids-at n ids k id h (sym is)

-- the type of one of these fields
pub field-read : (n : ℕ) (fields : List Field) (k : ℕ) (o : Option TyId) → IsTrue (list_all (field_below n) fields) → o ≡ option_map field_id (slice_get fields k) → IfSome o (λ id. id.0 < n)
field-read n fields k None h is = tt
field-read n [] k (Some id) h is = absurd cc
field-read n (f ∷ fields) zero (Some id) h is =
    let both : (f.ty.0 < n) × IsTrue (list_all (field_below n) fields) = search rules in
    let same : id ≡ f.ty = cc in
    rw same both.0
field-read n (f ∷ fields) (suc k) (Some id) h is =
    let both : (f.ty.0 < n) × IsTrue (list_all (field_below n) fields) = search rules in
    field-read n fields k (Some id) both.1 is

-- a type of the table
pub ty-made : (types : List Ty) (k : ℕ) (o : Option (Bor Ty)) → IsTable types → option_copied o ≡ slice_get types k → IfSome o (λ ty. IsTrue (ids_below (length types) ty.now))
ty-made types k None table is = tt
ty-made types k (Some ty) table is =
    let below = slice_get_within types k ty.now (sym is) in
    ids_below-more k (length types) (omega arith) ty.now (table.made k ty.now (sym is))

-- the fields of a variant
pub variant-in-table : (p : Program) (d k : ℕ) (def : Def) (v : Variant) → IdsInTable p → slice_get p.defs d ≡ Some def → slice_get def.variants k ≡ Some v
    → IsTrue (list_all (field_below (length p.types)) v.fields)
variant-in-table p d k def v h at of =
    all-at (variant_below (length p.types)) def.variants k v (all-at (def_below (length p.types)) p.defs d def h.defs at) of

-- the type of a local
pub local-in-table : (types : List Ty) (b : Body) (k : ℕ) (id : TyId) → BodyInTable types b → slice_get b.locals k ≡ Some id → id.0 < length types
local-in-table types b k id h at =
    let n = length types in
    let both : IsTrue (all_below n b.locals) × IsTrue (list_all (block_below n) b.blocks) = search rules in
    ids-at n b.locals k id both.0 at
