-- The faults of the head of a function, in the order in which they are noted.
use Rattle.std.proofs.Common.{◌≡◌, ℕ, nat_eq, cond, Bool, true, false, List, [], ◌∷◌, ◌++◌, map, length, get_or, Option, Some, refl, sym, ap, ap₂, ◌∙◌}
use Rattle.std.proofs.lemmas.List.{map-append, length-map}
use Rattle.mir_syntax.specs.Tree.{Tree}
use Rattle.mir_text.specs.GrammarItems.{ArgRule}
use Rattle.mir_text.specs.Names.{Names, ty_of, same_type}
use Rattle.mir_text.specs.NamedBodies.{declared_ty}
use Rattle.mir_text.specs.Naming.{declared}
use Rattle.mir_text.specs.PartLines.{Lined}
use Rattle.mir_text.specs.ReadLines.{local_line, local_lines}
use Rattle.mir_text.specs.NameFaults.{Fault, on_line, unless, each, type_codes, none_missing, blocks_in_order, labels_of, declaration_faults, args_in_place, declared_once, result_faults}
use Rattle.mir_tree.specs.declared.Lined.{Lined as LinedText}
use Rattle.mir_tree.specs.declared.item.ArgText.{ArgText}
use Rattle.mir_tree.specs.declared.item.FnText.{FnText}
use Rattle.mir_tree.specs.Bodies.{lined}
use Rattle.mir_tree.specs.Rules.{arg_rule, fn_rule, lined_fn}
use Rattle.mir_resolve.specs.Faults.{noted}
use Rattle.mir_resolve.proofs.Noting.{noted-append, noted_on}
use Rattle.mir_resolve.proofs.FaultOrder.{noted_swap}
use Rattle.mir_file.specs.Declarations.{result_fault, head_faults, declarations_faults}
use Rattle.mir_file.proofs.Declaring.{declares_lined, declared_lined, head_declared, declarations_apart}

-- ---- the type of `_0`

pub result_told : (names : Names) (result : Tree) (xs : List (Lined ArgRule))
    → result_faults names result xs ≡ result_fault (declared_ty (map (declares_lined names) xs) 0) result (local_line xs 0)
result_told names result [] = refl
result_told names result (a ∷ xs) =
    let one : List Fault = on_line a.0 (unless (same_type (ty_of names a.1.1) result) 14) in
    let rest = declared_ty (map (declares_lined names) xs) 0 in
    let line = local_line xs 0 in
    elim (nat_eq a.1.0 0) as (λ b. cond b one (result_faults names result xs) ≡ result_fault (cond b (Some (ty_of names a.1.1)) rest) result (cond b a.0 line)) [
      | true ↦ refl
      | false ↦ result_told names result xs
    ]

pub first_lined : (xs : List (Lined ArgRule)) → get_or (local_lines xs 0 (length xs)) 0 0 ≡ local_line xs 0
first_lined [] = refl
first_lined (a ∷ xs) = refl

pub head_declares : (names : Names) (x : FnText) → declared names (fn_rule x) ≡ map (declares_lined names) (map (lined arg_rule) x.args.items ++ map (lined arg_rule) x.lets)
head_declares names x =
    head_declared names x
    ∙ sym (map-append (declares_lined names) (map (lined arg_rule) x.args.items) (map (lined arg_rule) x.lets)
    ∙ ap₂ (λ a b. a ++ b) (declared_lined names x.args.items) (declared_lined names x.lets))

pub head_length : (names : Names) (x : FnText) → length (declared names (fn_rule x)) ≡ length (map (lined arg_rule) x.args.items ++ map (lined arg_rule) x.lets)
head_length names x =
    ap length (head_declares names x) ∙ length-map (map (lined arg_rule) x.args.items ++ map (lined arg_rule) x.lets) (declares_lined names)

-- ---- the order

reorder : (k : Option Fault) (d o m b a : List Fault)
    → noted (noted (noted (noted (noted k d) o) m) b) a ≡ noted (noted (noted (noted (noted k m) b) d) a) o
reorder k d o m b a =
    ap (λ j. noted (noted j b) a) (noted_swap (noted k d) o m ∙ ap (λ j. noted j o) (noted_swap k d m))
    ∙ ap (λ j. noted j a) (noted_swap (noted (noted k m) d) o b ∙ ap (λ j. noted j o) (noted_swap (noted k m) d b))
    ∙ noted_swap (noted (noted (noted k m) b) d) o a

joined : (k : Option Fault) (line : ℕ) (t m b : List ℕ) (d a o r : List Fault)
    → noted (noted (noted (noted (noted (noted (noted k (on_line line t)) (on_line line m)) (on_line line b)) d) a) o) r
    ≡ noted k (on_line line (t ++ m ++ b) ++ d ++ a ++ o ++ r)
joined k line t m b d a o r = sym (
    noted-append k (on_line line (t ++ m ++ b) ++ d ++ a ++ o) r
    ∙ ap (λ j. noted j r) (noted-append k (on_line line (t ++ m ++ b) ++ d ++ a) o
    ∙ ap (λ j. noted j o) (noted-append k (on_line line (t ++ m ++ b) ++ d) a
    ∙ ap (λ j. noted j a) (noted-append k (on_line line (t ++ m ++ b)) d
    ∙ ap (λ j. noted j d) (noted_on k line (t ++ m) b ∙ ap (λ j. noted j (on_line line b)) (noted_on k line t m))))))

-- what is noted after the head is its faults
pub head_noted : (names : Names) (x : FnText) (line : ℕ) (k : Option Fault) (result : Option Tree) (first : ℕ)
    → result ≡ declared_ty (declared names (fn_rule x)) 0 → first ≡ local_line (map (lined arg_rule) x.args.items ++ map (lined arg_rule) x.lets) 0
    → noted (noted (noted (noted (noted (noted k (on_line line (type_codes names (fn_rule x).result)))
    (declarations_faults names [] (map (lined arg_rule) x.args.items ++ map (lined arg_rule) x.lets)))
    (on_line line (unless (none_missing (declared names (fn_rule x))) 14)))
    (on_line line (unless (blocks_in_order (labels_of (lined_fn line x))) 15)))
    (args_in_place 1 (map (lined arg_rule) x.args.items)))
    (result_fault result (ty_of names (fn_rule x).result) first)
    ≡ noted k (head_faults names (lined_fn line x))
head_noted names x line k result first is at =
    let args = map (lined arg_rule) x.args.items in
    let all = args ++ map (lined arg_rule) x.lets in
    let t = type_codes names (fn_rule x).result in
    let m : List ℕ = unless (none_missing (declared names (fn_rule x))) 14 in
    let b : List ℕ = unless (blocks_in_order (labels_of (lined_fn line x))) 15 in
    let d = each (declaration_faults names) all in
    let a = args_in_place 1 args in
    let o = declared_once [] all in
    let ty = ty_of names (fn_rule x).result in
    let start = noted k (on_line line t) in
    ap₂ (λ j r. noted (noted (noted (noted j (on_line line m)) (on_line line b)) a) r)
    (declarations_apart names start all)
    (ap₂ (λ o l. result_fault o ty l) (is ∙ ap (λ ds. declared_ty ds 0) (head_declares names x)) at ∙ sym (result_told names ty all))
    ∙ ap (λ j. noted j (result_faults names ty all)) (reorder start d o (on_line line m) (on_line line b) a)
    ∙ joined k line t m b d a o (result_faults names ty all)

pub head_went : (names : Names) (x : FnText) (line : ℕ) (k0 k1 k2 k3 k4 k5 k6 : Option Fault) (missing ordered : Bool) (args : List (LinedText ArgText)) (result : Option Tree) (ty : Tree) (first : ℕ)
    → k1 ≡ noted k0 (on_line line (type_codes names (fn_rule x).result))
    → k2 ≡ noted k1 (declarations_faults names [] (map (lined arg_rule) x.args.items ++ map (lined arg_rule) x.lets))
    → k3 ≡ noted k2 (on_line line (unless missing 14)) → k4 ≡ noted k3 (on_line line (unless ordered 15))
    → k5 ≡ noted k4 (args_in_place 1 (map (lined arg_rule) args)) → k6 ≡ noted k5 (result_fault result ty first)
    → missing ≡ none_missing (declared names (fn_rule x)) → ordered ≡ blocks_in_order (labels_of (lined_fn line x)) → args ≡ x.args.items
    → ty ≡ ty_of names (fn_rule x).result → result ≡ declared_ty (declared names (fn_rule x)) 0
    → first ≡ local_line (map (lined arg_rule) x.args.items ++ map (lined arg_rule) x.lets) 0
    → k6 ≡ noted k0 (head_faults names (lined_fn line x))
head_went names x line k0 k1 k2 k3 k4 k5 k6 missing ordered args result ty first e1 e2 e3 e4 e5 e6 miss ord same is told at =
    let m : List Fault = on_line line (unless (none_missing (declared names (fn_rule x))) 14) in
    let b : List Fault = on_line line (unless (blocks_in_order (labels_of (lined_fn line x))) 15) in
    let a = args_in_place 1 (map (lined arg_rule) x.args.items) in
    let d = declarations_faults names [] (map (lined arg_rule) x.args.items ++ map (lined arg_rule) x.lets) in
    let three : k3 ≡ noted (noted (noted k0 (on_line line (type_codes names (fn_rule x).result))) d) m =
    e3 ∙ ap (λ t. noted k2 (on_line line (unless t 14))) miss ∙ ap (λ k. noted k m) (e2 ∙ ap (λ k. noted k d) e1) in
    let four : k4 ≡ noted (noted (noted (noted k0 (on_line line (type_codes names (fn_rule x).result))) d) m) b =
    e4 ∙ ap (λ t. noted k3 (on_line line (unless t 15))) ord ∙ ap (λ k. noted k b) three in
    let five : k5 ≡ noted (noted (noted (noted (noted k0 (on_line line (type_codes names (fn_rule x).result))) d) m) b) a =
    e5 ∙ ap (λ l. noted k4 (args_in_place 1 (map (lined arg_rule) l))) same ∙ ap (λ k. noted k a) four in
    e6 ∙ ap₂ (λ k t. noted k (result_fault result t first)) five is
    ∙ head_noted names x line k0 result first told at
