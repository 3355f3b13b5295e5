-- The types of locals from `_0` on, over their declarations.
use Rattle.std.proofs.Common.{IsTrue, ◌≡◌, ℕ, zero, suc, ◌+◌, ◌<◌, nat_lt, List, [], ◌∷◌, ◌++◌, map, Option, Some, None, IfSome, option_map, refl, ap, ap₂, ◌∙◌, add-one, arith, rules}
use Rattle.std.specs.Option.{unwrap_or}
use Rattle.std.specs.List.{list_all}
use Rattle.mir_syntax.specs.declared.types.TyId.{TyId}
use Rattle.mir_syntax.specs.Tree.{Tree, empty, at_id}
use Rattle.mir_syntax.specs.Table.{all_below}
use Rattle.mir_text.specs.Naming.{or_unit, locals_from}
use Rattle.mir_bodies.specs.Locals.{first_ty, declared_in}
use Rattle.mir_bodies.proofs.TellsOn.{first_declared, first_inside}
use Rattle.mir_file.specs.Declarations.{declared_below, ids_from}

-- one local more
ids-more : (ds : List (ℕ × TyId)) (unit : TyId) (x n : ℕ) → ids_from ds unit x (suc n) ≡ ids_from ds unit x n ++ unwrap_or (first_ty ds (x + n)) unit ∷ []
ids-more ds unit x zero = let here : x ≡ x + 0 = omega arith in ap (λ y. unwrap_or (first_ty ds y) unit ∷ []) here
ids-more ds unit x (suc n) =
    let there : suc x + n ≡ x + suc n = omega arith in
    ap (λ l. unwrap_or (first_ty ds x) unit ∷ l) (ids-more ds unit (suc x) n ∙ ap (λ y. ids_from ds unit (suc x) n ++ unwrap_or (first_ty ds y) unit ∷ []) there)

pub ids_to : (ds : List (ℕ × TyId)) (unit : TyId) (n : ℕ) → ids_from ds unit 0 (n + 1) ≡ ids_from ds unit 0 n ++ unwrap_or (first_ty ds n) unit ∷ []
ids_to ds unit n =
    let here : 0 + n ≡ n = omega arith in
    ap (ids_from ds unit 0) (add-one n) ∙ ids-more ds unit 0 n ∙ ap (λ y. ids_from ds unit 0 n ++ unwrap_or (first_ty ds y) unit ∷ []) here

or-told : (trees : List Tree) (unit : TyId) (o : Option TyId) → at_id trees unit ≡ empty → at_id trees (unwrap_or o unit) ≡ or_unit (option_map (at_id trees) o)
or-told trees unit None h = h
or-told trees unit (Some id) h = refl

pub ids_told : (trees : List Tree) (ds : List (ℕ × TyId)) (unit : TyId) → at_id trees unit ≡ empty → (x n : ℕ) → map (at_id trees) (ids_from ds unit x n) ≡ locals_from (declared_in trees ds) x n
ids_told trees ds unit h x zero = refl
ids_told trees ds unit h x (suc n) =
    ap₂ (λ t ts. t ∷ ts) (or-told trees unit (first_ty ds x) h ∙ ap or_unit (first_declared trees ds x)) (ids_told trees ds unit h (suc x) n)

or-inside : (n : ℕ) (unit : TyId) (o : Option TyId) → unit.0 < n → IfSome o (λ k. k.0 < n) → IsTrue (nat_lt (unwrap_or o unit).0 n)
or-inside n unit None h k = search rules
or-inside n unit (Some id) h k = search rules

pub ids_inside : (n : ℕ) (ds : List (ℕ × TyId)) (unit : TyId) → unit.0 < n → IsTrue (list_all (declared_below n) ds) → (x k : ℕ) → IsTrue (all_below n (ids_from ds unit x k))
ids_inside n ds unit h all x zero = refl
ids_inside n ds unit h all x (suc k) =
    let first = or-inside n unit (first_ty ds x) h (first_inside n ds x (first_ty ds x) all refl) in
    let rest = ids_inside n ds unit h all (suc x) k in
    search rules
