-- A made crate is within the limits.
use Rattle.std.proofs.Common.{◌≡◌, ◌≤◌, ◌+◌, ◌*◌, ℕ, zero, suc, List, [], take, map, length, refl, sym, ap, subst, ◌∙◌, arith}
use Rattle.std.proofs.lemmas.List.{drop_all, length-append}
use Rattle.mir_syntax.specs.Crate.{TypedFunction}
use Rattle.mir_syntax.specs.Shapes.{needs_drop}
use Rattle.mir_rules.specs.Broken.{Spot, gather}
use Rattle.mir_rules.specs.Weights.{nodes, units}
use Rattle.mir_rules.specs.Limits.{most_functions, most_statements, is_large_type, body_weight, blocks_count, locals_count, first_past, with_code, header_spot, function_spots, statement_spots, functions_passed, locals_passed, count_passed, types_passed, bodies_passed, statements_passed, passed}
use Rattle.mir_rules.specs.Valid.{Within}
use Rattle.mir_rules.proofs.Lists.{append_empty, gather_empty}
use Rattle.crate_gen.specs.declared.choice.Choice.{Choice}
use Rattle.crate_gen.specs.Made.{choice, after_choice, made_function, made_functions, made_crate}
use Rattle.crate_gen.proofs.Members.{made_at}
use Rattle.crate_gen.proofs.Rules.{no_shapes}

headers_long : (n i more x : ℕ) → length (gather header_spot i (made_functions n i more x)) ≡ more
headers_long n i zero x = refl
headers_long n i (suc more) x = let rest = headers_long n (suc i) more (after_choice x) in omega (arith, rest)

spots_long : (n i more x : ℕ) → length (gather function_spots i (made_functions n i more x)) ≡ 3 * more
spots_long n i zero x = refl
spots_long n i (suc more) x =
    let rest = spots_long n (suc i) more (after_choice x) in
    length-append (function_spots i (made_function i (choice n x))) (gather function_spots (suc i) (made_functions n (suc i) more (after_choice x))) ∙ (let e : 3 + length (gather function_spots (suc i) (made_functions n (suc i) more (after_choice x))) ≡ 3 * suc more = omega (arith, rest) in e)

none_past : (limit code : ℕ) (spots : List Spot) → length spots ≤ limit → map (with_code code) (first_past limit spots) ≡ []
none_past limit code spots few = ap (λ l. map (with_code code) (take 1 l)) (drop_all limit spots few)

few_functions : (start n : ℕ) → n ≤ 10000 → functions_passed most_functions (made_crate start n) ≡ []
unfolding functions_passed
few_functions start n few = none_past most_functions 2 (gather header_spot 0 (made_functions n 0 n start)) (let long = headers_long n 0 n start in omega (arith, long))

few_statements : (start n : ℕ) → n ≤ 10000 → statements_passed most_statements (made_crate start n) ≡ []
unfolding statements_passed statement_spots
few_statements start n few = none_past most_statements 6 (gather function_spots 0 (made_functions n 0 n start)) (let long = spots_long n 0 n start in omega (arith, long))

small_locals : (f j : ℕ) (c : Choice) → locals_passed [] f (made_function j c) ≡ []
unfolding is_large_type nodes units needs_drop
small_locals f j c = refl

small_blocks : (f j : ℕ) (c : Choice) → count_passed 4 (blocks_count []) f (made_function j c) ≡ []
unfolding blocks_count body_weight
small_blocks f j c = refl

small_count : (f j : ℕ) (c : Choice) → count_passed 5 (locals_count []) f (made_function j c) ≡ []
unfolding locals_count body_weight
small_count f j c = refl

each : {B : Type 0} (find : ℕ → TypedFunction → List B) (start n : ℕ) → ((f j : ℕ) (c : Choice) → find f (made_function j c) ≡ []) → gather find 0 (made_functions n 0 n start) ≡ []
each find start n none =
    gather_empty find 0 (made_functions n 0 n start) (λ k g at. let (j, y, is) = made_at n 0 n start k g at in subst (λ f. find (k + 0) f ≡ []) (sym is) (none (k + 0) j (choice n y)))

small_types : (start n : ℕ) → types_passed (made_crate start n) ≡ []
unfolding types_passed
small_types start n = subst (λ D. gather (locals_passed D) 0 (made_functions n 0 n start) ≡ []) (sym (no_shapes start n)) (each (locals_passed []) start n small_locals)

small_bodies : (start n : ℕ) → bodies_passed (made_crate start n) ≡ []
unfolding bodies_passed
small_bodies start n =
    append_empty _ _
    (subst (λ D. gather (count_passed 4 (blocks_count D)) 0 (made_functions n 0 n start) ≡ []) (sym (no_shapes start n)) (each (count_passed 4 (blocks_count [])) start n small_blocks))
    (subst (λ D. gather (count_passed 5 (locals_count D)) 0 (made_functions n 0 n start) ≡ []) (sym (no_shapes start n)) (each (count_passed 5 (locals_count [])) start n small_count))

none_passed : (start n : ℕ) → n ≤ 10000 → passed (made_crate start n) ≡ []
unfolding passed
none_passed start n few =
    append_empty _ _ (few_functions start n few) (append_empty _ _ (small_types start n) (append_empty _ _ (small_bodies start n) (few_statements start n few)))

pub within : (start n : ℕ) → n ≤ 10000 → Within (made_crate start n)
within start n few = record { limits = none_passed start n few }
