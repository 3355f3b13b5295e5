-- Locals that are declared one after another, and the faults of their declarations.
use Rattle.std.proofs.Common.{◌≡◌, ℕ, ◌<◌, ◌||◌, nat_eq, not, Bool, true, false, cond, List, [], ◌∷◌, ◌++◌, map, length, Option, Some, None, is_some, refl, sym, ap, ap₂, ◌∙◌, append_assoc, append-nil, rules}
use Rattle.std.proofs.lemmas.List.{map-append}
use Rattle.std.proofs.lemmas.Simd.{map-map}
use Rattle.mir_syntax.specs.declared.types.TyId.{TyId}
use Rattle.mir_syntax.specs.Tree.{Tree, at_id}
use Rattle.mir_syntax.proofs.Growth.{lt-more, at_id-extends}
use Rattle.mir_text.specs.GrammarItems.{ArgRule}
use Rattle.mir_text.specs.Names.{Names}
use Rattle.mir_text.specs.NamedBodies.{Declared, declared_ty}
use Rattle.mir_text.specs.Naming.{declares, declared}
use Rattle.mir_text.specs.PartLines.{Lined}
use Rattle.mir_text.specs.NameFaults.{Fault, on_line, unless, each, is_among, type_codes, declaration_faults, declared_once}
use Rattle.mir_tree.specs.declared.Lined.{Lined as LinedText}
use Rattle.mir_tree.specs.declared.item.ArgText.{ArgText}
use Rattle.mir_tree.specs.declared.item.FnText.{FnText}
use Rattle.mir_tree.specs.Bodies.{lined}
use Rattle.mir_tree.specs.Rules.{arg_rule, part_arg, fn_rule}
use Rattle.mir_resolve.specs.declared.draft.Draft.{Draft}
use Rattle.mir_resolve.specs.Faults.{noted}
use Rattle.mir_resolve.proofs.Growing.{grown_then}
use Rattle.mir_resolve.proofs.Listed.{items_listed}
use Rattle.mir_resolve.proofs.Making.{Keeps}
use Rattle.mir_resolve.proofs.Noting.{noted-append, noted_on}
use Rattle.mir_resolve.proofs.FaultOrder.{noted_swap}
use Rattle.mir_bodies.specs.Locals.{first_ty, declared_in}
use Rattle.mir_file.specs.Items.{Noticed}
use Rattle.mir_file.specs.Declarations.{declared_below, declared_as, declaration_codes, declarations_faults}
use Rattle.mir_file.proofs.Scopes.{lets-plain}

-- ---- declarations in a table

pub declared_keep : Keeps declared_as declared_below
declared_keep = record {
  same = λ old new e d h. let lt : d.1.0 < length old = search rules in ap (λ t. let q : ℕ × Tree = (d.0, t) in q) (at_id-extends old new d.1 e lt);
  wider = λ n m le d h. lt-more n m d.1.0 le h;
}

some-cond : (b : Bool) (t : TyId) (u : Tree) (o : Option TyId) (p : Option Tree) → is_some o ≡ is_some p → is_some (cond b (Some t) o) ≡ is_some (cond b (Some u) p)
some-cond true t u o p h = refl
some-cond false t u o p h = h

-- a local is declared exactly where it has an id
pub declared_some : (trees : List Tree) (ds : List (ℕ × TyId)) (x : ℕ) → is_some (first_ty ds x) ≡ is_some (declared_ty (declared_in trees ds) x)
declared_some trees [] x = refl
declared_some trees (d ∷ ds) x = some-cond (nat_eq d.0 x) d.1 (at_id trees d.1) (first_ty ds x) (declared_ty (declared_in trees ds) x) (declared_some trees ds x)

-- ---- what a function declares

pub head_declared : (names : Names) (x : FnText)
    → declared names (fn_rule x) ≡ map (λ a. declares names (part_arg a)) x.args.items ++ map (λ a. declares names (part_arg a)) x.lets
head_declared names x =
    ap₂ (λ a b. map (declares names) (a ++ b)) (items_listed (λ (a : ArgRule). a) part_arg x.args.items x.args.trailing) (lets-plain (map part_arg x.lets))
    ∙ map-append (declares names) (map part_arg x.args.items) (map part_arg x.lets)
    ∙ ap₂ (λ a b. a ++ b) (map-map (declares names) part_arg x.args.items) (map-map (declares names) part_arg x.lets)

abbrev pub declares_lined : Names → Lined ArgRule → ℕ × Tree
declares_lined names a = declares names a.1

pub declared_lined : (names : Names) (xs : List (LinedText ArgText)) → map (declares_lined names) (map (lined arg_rule) xs) ≡ map (λ a. declares names (part_arg a)) xs
declared_lined names xs = map-map (declares_lined names) (lined arg_rule) xs

pub noticed_then : (a b c : Draft) (xs ys : List Fault) → Noticed a b xs → Noticed b c ys → Noticed a c (xs ++ ys)
noticed_then a b c xs ys h k = record {
  grown = grown_then h.grown k.grown;
  notes = k.notes ∙ ap (λ n. noted n ys) h.notes ∙ sym (noted-append a.notes xs ys);
}

pub declarations_append : (names : Names) (before : Declared) (xs ys : List (Lined ArgRule))
    → declarations_faults names before (xs ++ ys) ≡ declarations_faults names before xs ++ declarations_faults names (before ++ map (declares_lined names) xs) ys
declarations_append names before [] ys = ap (λ b. declarations_faults names b ys) (sym (append-nil before))
declarations_append names before (x ∷ xs) ys =
    ap (λ l. on_line x.0 (declaration_codes names before x.1) ++ l)
    (declarations_append names (before ++ declares names x.1 ∷ []) xs ys
    ∙ ap (λ b. declarations_faults names (before ++ declares names x.1 ∷ []) xs ++ declarations_faults names b ys) (append_assoc before (declares names x.1 ∷ []) (map (declares_lined names) xs)))
    ∙ sym (append_assoc (on_line x.0 (declaration_codes names before x.1)) (declarations_faults names (before ++ declares names x.1 ∷ []) xs) (declarations_faults names (before ++ (declares names x.1 ∷ map (declares_lined names) xs)) ys))

-- ---- types and locals apart

or-swap : (a b c : Bool) → a || (b || c) ≡ (b || (a || c))
or-swap true true c = refl
or-swap true false c = refl
or-swap false b c = refl

some-if : (b : Bool) (t : Tree) (o : Option Tree) → is_some (cond b (Some t) o) ≡ (b || is_some o)
some-if true t o = refl
some-if false t o = refl

declared-snoc : (ds : Declared) (n : ℕ) (t : Tree) (x : ℕ) → is_some (declared_ty (ds ++ (n, t) ∷ []) x) ≡ (nat_eq n x || is_some (declared_ty ds x))
declared-snoc [] n t x = some-if (nat_eq n x) t None
declared-snoc (d ∷ ds) n t x =
    some-if (nat_eq d.0 x) d.1 (declared_ty (ds ++ (n, t) ∷ []) x)
    ∙ ap (λ b. nat_eq d.0 x || b) (declared-snoc ds n t x)
    ∙ or-swap (nat_eq d.0 x) (nat_eq n x) (is_some (declared_ty ds x))
    ∙ ap (λ b. nat_eq n x || b) (sym (some-if (nat_eq d.0 x) d.1 (declared_ty ds x)))

apart : (names : Names) (before : Declared) (numbers : List ℕ) (k : Option Fault) (xs : List (Lined ArgRule))
    → ((x : ℕ) → is_some (declared_ty before x) ≡ is_among numbers x)
    → noted k (declarations_faults names before xs) ≡ noted (noted k (each (declaration_faults names) xs)) (declared_once numbers xs)
unfolding noted
apart names before numbers k [] same = refl
apart names before numbers k (a ∷ xs) same =
    let n = a.0 in
    let ty : List ℕ = type_codes names a.1.1 in
    let once : List ℕ = unless (not (is_among numbers a.1.0)) 14 in
    let types = each (declaration_faults names) xs in
    let others = declared_once (a.1.0 ∷ numbers) xs in
    let later = before ++ declares names a.1 ∷ [] in
    noted-append k (on_line n (declaration_codes names before a.1)) (declarations_faults names later xs)
    ∙ ap (λ b. noted (noted k (on_line n (ty ++ unless (not b) 14))) (declarations_faults names later xs)) (same a.1.0)
    ∙ ap (λ j. noted j (declarations_faults names later xs)) (noted_on k n ty once)
    ∙ apart names later (a.1.0 ∷ numbers) (noted (noted k (on_line n ty)) (on_line n once)) xs
    (λ x. declared-snoc before a.1.0 (declares names a.1).1 x ∙ ap (λ b. nat_eq a.1.0 x || b) (same x))
    ∙ ap (λ j. noted j others) (noted_swap (noted k (on_line n ty)) (on_line n once) types ∙ ap (λ j. noted j (on_line n once)) (sym (noted-append k (on_line n ty) types)))
    ∙ sym (noted-append (noted k (on_line n ty ++ types)) (on_line n once) others)

-- the faults of declarations are those of their types and those of locals that are declared again
pub declarations_apart : (names : Names) (k : Option Fault) (xs : List (Lined ArgRule))
    → noted k (declarations_faults names [] xs) ≡ noted (noted k (each (declaration_faults names) xs)) (declared_once [] xs)
declarations_apart names k xs = apart names [] [] k xs (λ x. refl)
