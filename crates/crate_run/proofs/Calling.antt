-- The functions of a program and of its crate.
use Rattle.std.proofs.Common.{◌≡◌, ◌≤◌, ◌<◌, ◌^◌, ℕ, zero, suc, List, [], ◌∷◌, length, take, drop, ◌++◌, slice_get, Option, Some, None, Result, Ok, Err, refl, sym, ap, ◌∙◌, arith}
use Rattle.std.specs.Prelude.{IsErrAnd}
use Rattle.std.specs.Option.{option_map}
use Rattle.std.proofs.lemmas.List.{length-map}
use Rattle.std.proofs.lemmas.Option.{slice_get-map, slice_get_within}
use Rattle.mir_syntax.specs.declared.body.Function.{Function}
use Rattle.mir_syntax.specs.declared.types.TyId.{TyId}
use Rattle.mir_syntax.specs.declared.program.Program.{Program}
use Rattle.mir_syntax.specs.Tree.{at_id, trees_of}
use Rattle.mir_syntax.specs.Crate.{TypedFunction, Crate, function_of, crate_of}
use Rattle.mir_rules.specs.Broken.{gather}
use Rattle.mir_rules.specs.Limits.{most_functions, header_spot, with_code, first_past, functions_passed, types_passed, bodies_passed, statements_passed, most_statements, passed}
use Rattle.mir_rules.specs.Valid.{Valid, Within}
use Rattle.mir_rules.proofs.Lists.{append_empty-left, map_empty-source}
use Rattle.mir_rules.proofs.ValidCrates.{args_below, body_formed_at}
use Rattle.mir_semantics.specs.Step.{body_in, code_of}
use Rattle.mir_meaning.specs.Programs.{type_in}
use Rattle.crate_run.specs.declared.fault.RunFault.{RunFault}
use Rattle.crate_run.specs.Ran.{IsAt, HasNoFunction}

-- ---- one function

pub function_there : (p : Program) (k : ℕ) (g : Function) → slice_get p.functions k ≡ Some g → slice_get (crate_of p).functions k ≡ Some (function_of (trees_of p.types) g)
function_there p k g e = slice_get-map (function_of (trees_of p.types)) p.functions k ∙ ap (option_map (function_of (trees_of p.types))) e

pub body_there : (C : Crate) (k : ℕ) (f : TypedFunction) → slice_get C.functions k ≡ Some f → slice_get (code_of C).bodies k ≡ Some f.body
body_there C k f e = slice_get-map body_in C.functions k ∙ ap (option_map body_in) e

mapped_from : {A B : Type 0} (F : A → B) (o : Option A) (y : B) → option_map F o ≡ Some y → (x : A) × (o ≡ Some x) × (F x ≡ y)
mapped_from F None y e = absurd cc
mapped_from F (Some x) y e = let same : F x ≡ y = cc in (x, refl, same)

pub function_from : (p : Program) (k : ℕ) (f : TypedFunction) → slice_get (crate_of p).functions k ≡ Some f → (g : Function) × (slice_get p.functions k ≡ Some g) × (function_of (trees_of p.types) g ≡ f)
function_from p k f e = mapped_from (function_of (trees_of p.types)) (slice_get p.functions k) f (sym (slice_get-map (function_of (trees_of p.types)) p.functions k) ∙ e)

-- `_0` is there
pub result_there : (p : Program) (k : ℕ) (g : Function) → Valid (crate_of p) → slice_get p.functions k ≡ Some g → 0 < length g.body.locals
result_there p k g valid e =
    let trees = trees_of p.types in
    let f = function_of trees g in
    let below = args_below (crate_of p) f.body (body_formed_at (crate_of p) valid k f (function_there p k g e)) in
    omega (arith, below, length-map g.body.locals (at_id trees))

-- ---- how many there are

past : {A : Type 0} (n : ℕ) (xs : List A) → take 1 (drop n xs) ≡ [] → length xs ≤ n
past n [] e = omega arith
past zero (x ∷ xs) e = absurd cc
past (suc n) (x ∷ xs) e = omega (arith, past n xs e)

length_headers : (n : ℕ) (fs : List TypedFunction) → length (gather header_spot n fs) ≡ length fs
length_headers n [] = refl
length_headers n (f ∷ fs) = ap suc (length_headers (suc n) fs)

few_functions : (C : Crate) → Within C → length C.functions ≤ most_functions
unfolding passed functions_passed
few_functions C within =
    let none : functions_passed most_functions C ≡ [] = append_empty-left (functions_passed most_functions C) (types_passed C ++ (bodies_passed C ++ statements_passed most_statements C)) within.limits in
    let headers = gather header_spot 0 C.functions in
    let few = past most_functions headers (map_empty-source (with_code 2) (first_past most_functions headers) none) in
    omega (arith, few, length_headers 0 C.functions)

-- ---- paths

pub none_has_path : (p : Program) (path : List ℕ) → Within (crate_of p) → ((k : ℕ) (g : Function) → k < 2 ^ 32 → slice_get p.functions k ≡ Some g → g.path ≡ path → ⊥) → HasNoFunction (crate_of p) path
none_has_path p path within none k f there named =
    let from = function_from p k f there in
    let small = few_functions (crate_of p) within in
    let below = slice_get_within (crate_of p).functions k f there in
    none k from.0 (omega (arith, small, below)) from.1 (ap (λ (h : TypedFunction). h.path) from.2 ∙ named)

pub has_path : (p : Program) (path : List ℕ) (k : ℕ) (g : Function) → slice_get p.functions k ≡ Some g → g.path ≡ path → ((j : ℕ) (h : Function) → j < k → slice_get p.functions j ≡ Some h → h.path ≡ path → ⊥)
    → IsAt (crate_of p) path k (function_of (trees_of p.types) g)
has_path p path k g e named first =
    record {
      there = function_there p k g e;
      named = named;
      first = λ j f below there same. let from = function_from p j f there in first j from.0 below from.1 (ap (λ (h : TypedFunction). h.path) from.2 ∙ same);
    }

-- the type of `_0` as the crate has it
pub result_typed : (p : Program) (g : Function) (ty : TyId) → slice_get g.body.locals 0 ≡ Some ty → slice_get (function_of (trees_of p.types) g).body.locals 0 ≡ Some (type_in p ty)
result_typed p g ty e = slice_get-map (at_id (trees_of p.types)) g.body.locals 0 ∙ ap (option_map (at_id (trees_of p.types))) e

-- the fault of a call is that of the function that makes it
pub fault_on : {A B : Type 0} (r : Result A RunFault) (s : Result B RunFault) (e x : RunFault) → r ≡ Err e → IsErrAnd s (λ y. y ≡ e) → s ≡ Err x → r ≡ Err x
fault_on r (Ok b) e x is same gives = absurd same
fault_on r (Err y) e x is same gives = let whole : y ≡ x = cc in is ∙ ap Err (sym same ∙ whole)
