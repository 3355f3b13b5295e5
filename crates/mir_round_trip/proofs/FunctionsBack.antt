-- What the rule of a function means: the function itself, with no fault.
use Rattle.std.proofs.Common.{◌≡◌, ◌<◌, ◌≤◌, ℕ, suc, max, Bool, true, false, not, ◌&&◌, nat_eq, List, [], ◌∷◌, ◌++◌, map, length, take, drop, refl, sym, ap, subst, ◌∙◌, arith, if◌then◌else◌}
use Rattle.std.proofs.lemmas.Bool.Decides.{nat_tests}
use Rattle.mir_syntax.specs.declared.types.ScalarTy.{ScalarTy}
use Rattle.mir_syntax.specs.declared.types.ScalarTy.TheVariants as scalar_ty
use Rattle.mir_syntax.specs.declared.body.Inline.{Inline}
use Rattle.mir_syntax.specs.declared.body.Inline.TheVariants as inlining
use Rattle.mir_syntax.specs.Tree.{Tree, scalar, empty, more, ref, ref_mut, named}
use Rattle.mir_syntax.specs.Crate.{Crate, TypedBlock, TypedBody, TypedFunction}
use Rattle.mir_rules.proofs.Lists.{append_empty}
use Rattle.mir_text.specs.Grammar.{Put, Items, AllItems, AllOf, items_put, items_of}
use Rattle.mir_text.specs.Grammar as g
use Rattle.mir_text.specs.GrammarItems.{ArgRule, arg_put}
use Rattle.mir_text.specs.Names.{Strings, ty_of, same_scalar, same_type, int_number}
use Rattle.mir_text.specs.NamedBodies.{Declared}
use Rattle.mir_text.specs.Naming.{lets_of, declares, declared, locals_from, inline_named, body_named, function_named}
use Rattle.mir_text.specs.PartLines.{LinesFrom, first_line, past, Lined, items_lined, lets_lined, after_front, after_result, fn_lined}
use Rattle.mir_text.specs.NameFaults.{Fault, on_line, unless, each, is_among, type_codes, declaration_faults, args_in_place, declared_once, result_faults, none_missing, blocks_in_order, labels_of, fn_faults}
use Rattle.mir_text.specs.Nesting.{ArgGood, decls_depth, DeclsGood, FnGood, type_depth}
use Rattle.mir_text.specs.PlaceText.{local_ty}
use Rattle.mir_text.specs.Text.{args_of, others_of}
use Rattle.mir_round_trip.specs.Bodies.{names_at, IsFn}
use Rattle.mir_round_trip.proofs.Spelling.{all-map, all-append}
use Rattle.mir_round_trip.proofs.Paths.{path_names, Back, path_back}
use Rattle.mir_round_trip.proofs.Types.{type_rule, type_back}
use Rattle.mir_round_trip.proofs.Meaning.{Kept, met}
use Rattle.mir_round_trip.proofs.PlacesBack.{Declares, Setting, type_faultless}
use Rattle.mir_round_trip.proofs.Lists.{join_item, items_rule, items-map, items-all}
use Rattle.mir_round_trip.proofs.Rvalues.{two-same, ty_good}
use Rattle.mir_round_trip.proofs.Blocks.{blocks_names, all-left, all-right, blocks_back, line-none, blocks_faultless, numbers_from, block-labels, among, blocks-in-order, blocks_good}
use Rattle.mir_round_trip.proofs.TermsBack.{HasLabels}
use Rattle.mir_round_trip.proofs.Locals.{numbered, declares as declares-all, locals-back, args-count, none-missing, Fresh, fresh}
use Rattle.mir_round_trip.proofs.Functions.{decl_rule, lets_rule, attr_rule, fn_rule, fn_names, IsDecl, first_type, arg_decls, other_decls}

-- ---- the declarations of a body

abbrev decls_at : ℕ → List Tree → Declared
decls_at a locals = numbered 1 (take a (drop 1 locals)) ++ (0, local_ty locals 0) ∷ numbered (suc a) (drop (suc a) locals)

-- what is known of them
record Stated (a : ℕ) (locals : List Tree) : Type 0 where
  pub declares : Declares (decls_at a locals) locals
  pub back : locals_from (decls_at a locals) 0 (length (decls_at a locals)) ≡ locals
  pub count : length (numbered 1 (take a (drop 1 locals))) ≡ a
  pub whole : none_missing (decls_at a locals) ≡ true
  pub once : Fresh [] (decls_at a locals)

stated : (a : ℕ) (locals : List Tree) → a < length locals → Stated a locals
unfolding local_ty
stated a [] h = absurd (omega arith)
stated a (t ∷ ts) h =
    let less : a ≤ length ts = omega arith in
    record { declares = declares-all t ts a less; back = locals-back t ts a less; count = args-count t ts a less; whole = none-missing t ts a less; once = fresh t ts a less }

-- ---- what it declares

pub map-append : {A B : Type 0} (f : A → B) (xs ys : List A) → map f (xs ++ ys) ≡ map f xs ++ map f ys
map-append f [] ys = refl
map-append f (x ∷ xs) ys = ap (λ l. f x ∷ l) (map-append f xs ys)

pub map-length : {A B : Type 0} (f : A → B) (xs : List A) → length (map f xs) ≡ length xs
map-length f [] = refl
map-length f (x ∷ xs) = ap suc (map-length f xs)

lets-rules : (c : Crate) (strings : Strings) (ds : List (ℕ × Tree)) → lets_of (lets_rule c strings ds) ≡ map (decl_rule c strings) ds
lets-rules c strings [] = refl
lets-rules c strings (d ∷ ds) = ap (λ l. decl_rule c strings d ∷ l) (lets-rules c strings ds)

decl-back : (c : Crate) (strings : Strings) → Kept c strings → (d : ℕ × Tree) → IsDecl c d → declares (names_at c strings) (decl_rule c strings d) ≡ d
decl-back c strings kept d h = ap (λ u. let r : ℕ × Tree = (d.0, u) in r) (type_back c strings kept.paths d.1 h.type.proper)

decls-back : (c : Crate) (strings : Strings) → Kept c strings → (ds : List (ℕ × Tree)) → AllOf (IsDecl c) ds → map (declares (names_at c strings)) (map (decl_rule c strings) ds) ≡ ds
decls-back c strings kept [] h = refl
decls-back c strings kept (d ∷ ds) h = two-same (λ x l. x ∷ l) (decl-back c strings kept d h.0) (decls-back c strings kept ds h.1)

all-decls : (c : Crate) (f : TypedFunction) → IsFn c f → AllOf (IsDecl c) (decls_at f.body.args f.body.locals)
all-decls c f h =
    all-append (IsDecl c) (numbered 1 (args_of f.body)) ((0, local_ty f.body.locals 0) ∷ numbered (suc f.body.args) (others_of f.body)) (arg_decls c f h)
    (record { small = omega arith; type = first_type c f h }, other_decls c f h)

declared-is : (c : Crate) (strings : Strings) → Kept c strings → (f : TypedFunction) → IsFn c f → declared (names_at c strings) (fn_rule c strings f) ≡ decls_at f.body.args f.body.locals
unfolding fn_rule
declared-is c strings kept f h =
    let front = numbered 1 (args_of f.body) in
    let others : List (ℕ × Tree) = (0, local_ty f.body.locals 0) ∷ numbered (suc f.body.args) (others_of f.body) in
    ap (map (declares (names_at c strings))) (two-same (λ u v. u ++ v) (items-map (λ a. a) (decl_rule c strings) front) (lets-rules c strings others) ∙ sym (map-append (decl_rule c strings) front others))
    ∙ decls-back c strings kept (front ++ others) (all-decls c f h)

fn-setting : (c : Crate) (strings : Strings) → Kept c strings → (f : TypedFunction) → IsFn c f → Setting c strings (declared (names_at c strings) (fn_rule c strings f)) f.body.locals
fn-setting c strings kept f h = record {
  kept = kept;
  declares = subst (λ L. Declares L f.body.locals) (sym (declared-is c strings kept f h)) (stated f.body.args f.body.locals h.args).declares;
}

-- ---- back

inline-back : (i : Inline) → inline_named (attr_rule i) ≡ i
inline-back inlining.Plain = refl
inline-back inlining.Hint = refl
inline-back inlining.Always = refl
inline-back inlining.Never = refl

as-body : (a x : ℕ) (b y : List Tree) (d z : List TypedBlock) → a ≡ x → b ≡ y → d ≡ z → ◌≡◌ {A = TypedBody} (record { args = a; locals = b; blocks = d }) (record { args = x; locals = y; blocks = z })
as-body a x b y d z e h k =
    two-same (λ u v. let r : TypedBody = record { args = u; locals = v; blocks = d } in r) e h ∙ ap (λ w. let r : TypedBody = record { args = x; locals = y; blocks = w } in r) k

body-back : (c : Crate) (strings : Strings) → Kept c strings → (f : TypedFunction) → IsFn c f → AllOf (Back strings) (fn_names f)
    → body_named (names_at c strings) (declared (names_at c strings) (fn_rule c strings f)) (fn_rule c strings f) ≡ f.body
unfolding fn_rule
body-back c strings kept f h names =
    let is = stated f.body.args f.body.locals h.args in
    let args = ap length (items-map (λ a. a) (decl_rule c strings) (numbered 1 (args_of f.body))) ∙ map-length (decl_rule c strings) (numbered 1 (args_of f.body)) ∙ is.count in
    let locals = ap (λ L. locals_from L 0 (length L)) (declared-is c strings kept f h) ∙ is.back in
    let blocks = blocks_back c strings (declared (names_at c strings) (fn_rule c strings f)) f.body.locals (fn-setting c strings kept f h) (length f.body.blocks) 0 f.body.blocks h.blocks
    (all-right (Back strings) (path_names f.path) (blocks_names f.body.blocks) names) in
    as-body _ _ _ _ _ _ args locals blocks

as-function : (d : Bool) (a x : List ℕ) (b y : Inline) (e z : TypedBody) → a ≡ x → b ≡ y → e ≡ z
    → ◌≡◌ {A = TypedFunction} (record { path = a; inlining = b; is_drop = d; body = e }) (record { path = x; inlining = y; is_drop = d; body = z })
as-function d a x b y e z h k l =
    two-same (λ u v. let r : TypedFunction = record { path = u; inlining = v; is_drop = d; body = e } in r) h k ∙ ap (λ w. let r : TypedFunction = record { path = x; inlining = y; is_drop = d; body = w } in r) l

pub function_back : (c : Crate) (strings : Strings) → Kept c strings → (f : TypedFunction) → IsFn c f → AllOf (Back strings) (fn_names f) → function_named (names_at c strings) (fn_rule c strings f) ≡ f
unfolding fn_rule
function_back c strings kept f h names =
    as-function f.is_drop _ _ _ _ _ _ (path_back strings f.path h.path (all-left (Back strings) (path_names f.path) (blocks_names f.body.blocks) names)) (inline-back f.inlining)
    (body-back c strings kept f h names)

-- ---- declarations with their lines

-- declarations on some lines are those of some locals
abbrev Aligned : Crate → Strings → List (Lined ArgRule) → Declared → Type 0
Aligned c strings [] [] = Unit {0}
Aligned c strings (a ∷ xs) (d ∷ ds) = (a.1 ≡ decl_rule c strings d) × Aligned c strings xs ds
Aligned c strings xs ds = ⊥

aligned-append : (c : Crate) (strings : Strings) (xs ys : List (Lined ArgRule)) (ds es : Declared) → Aligned c strings xs ds → Aligned c strings ys es → Aligned c strings (xs ++ ys) (ds ++ es)
aligned-append c strings [] ys [] es h k = k
aligned-append c strings [] ys (d ∷ ds) es h k = absurd h
aligned-append c strings (x ∷ xs) ys [] es h k = absurd h
aligned-append c strings (x ∷ xs) ys (d ∷ ds) es h k = (h.0, aligned-append c strings xs ys ds es h.1 k)

-- an item joined to others has a line, and the others have theirs
record JoinLined {R : Type 0} (put : Put R) (r : R) (rs : Items R) (lines : LinesFrom) : Type 0 where
  pub later : LinesFrom
  pub same : items_lined put (join_item r rs) lines ≡ (first_line lines, r) ∷ items_lined put rs later

join-lined : {R : Type 0} (put : Put R) (r : R) (rs : Items R) (lines : LinesFrom) → JoinLined put r rs lines
join-lined put r g.end lines = record { later = []; same = refl }
join-lined put r (g.last q) lines = record { later = drop 1 (past put r lines); same = refl }
join-lined put r (g.more q qs) lines = record { later = drop 1 (past put r lines); same = refl }

args-aligned : (c : Crate) (strings : Strings) (ds : Declared) (lines : LinesFrom) → Aligned c strings (items_lined arg_put (items_rule (decl_rule c strings) ds) lines) ds
args-aligned c strings [] lines = tt
args-aligned c strings (d ∷ ds) lines =
    let j = join-lined arg_put (decl_rule c strings d) (items_rule (decl_rule c strings) ds) lines in
    subst (λ l. Aligned c strings l (d ∷ ds)) (sym j.same) (refl, args-aligned c strings ds j.later)

lets-aligned : (c : Crate) (strings : Strings) (ds : Declared) (lines : LinesFrom) → Aligned c strings (lets_lined (lets_rule c strings ds) lines) ds
lets-aligned c strings [] lines = tt
lets-aligned c strings (d ∷ ds) lines = (refl, lets-aligned c strings ds _)

-- ---- no fault of theirs

types-faultless : (c : Crate) (strings : Strings) → Kept c strings → (xs : List (Lined ArgRule)) (ds : Declared) → AllOf (IsDecl c) ds → Aligned c strings xs ds
    → each (declaration_faults (names_at c strings)) xs ≡ []
types-faultless c strings kept [] ds all h = refl
types-faultless c strings kept (x ∷ xs) [] all h = absurd h
types-faultless c strings kept (x ∷ xs) (d ∷ ds) all h =
    two-same (λ u v. u ++ v) (ap (λ r. on_line x.0 (type_codes (names_at c strings) r.1)) h.0 ∙ line-none x.0 _ (type_faultless c strings kept d.1 all.0.type.proper))
    (types-faultless c strings kept xs ds all.1 h.1)

equal : (a b : ℕ) → a ≡ b → nat_eq a b ≡ true
equal a b h = grind (arith, nat_tests)

not-equal : (a b : ℕ) → b < a → nat_eq a b ≡ false
not-equal a b h = grind (arith, nat_tests)

unless-same : (k : ℕ) (n code line : ℕ) → k ≡ n → on_line line (unless (nat_eq k n) code) ≡ []
unless-same k n code line h = line-none line _ (met _ code (equal k n h))

places-right : (c : Crate) (strings : Strings) (k : ℕ) (us : List Tree) (xs : List (Lined ArgRule)) → Aligned c strings xs (numbered k us) → args_in_place k xs ≡ []
places-right c strings k us [] h = refl
places-right c strings k [] (x ∷ xs) h = absurd h
places-right c strings k (u ∷ us) (x ∷ xs) h = two-same (λ a b. a ++ b) (unless-same x.1.0 k 14 x.0 (ap (λ r. r.0) h.0)) (places-right c strings (suc k) us xs h.1)

once-each : (c : Crate) (strings : Strings) (before : List ℕ) (xs : List (Lined ArgRule)) (ds : Declared) → Fresh before ds → Aligned c strings xs ds → declared_once before xs ≡ []
once-each c strings before [] ds new h = refl
once-each c strings before (x ∷ xs) [] new h = absurd h
once-each c strings before (x ∷ xs) (d ∷ ds) new h =
    let first : on_line x.0 (unless (not (is_among before x.1.0)) 14) ≡ [] =
    line-none x.0 _ (met _ 14 (ap (λ r. not (is_among before r.0)) h.0 ∙ ap not new.0)) in
    two-same (λ a b. a ++ b) first (ap (λ r. declared_once (r.0 ∷ before) xs) h.0 ∙ once-each c strings (d.0 ∷ before) xs ds new.1 h.1)

same-scalar : (x : ScalarTy) → same_scalar x x ≡ true
same-scalar scalar_ty.Bool = refl
same-scalar (scalar_ty.Int n) = equal (int_number n) (int_number n) refl

same-tree : (t : Tree) → same_type t t ≡ true
same-tree (scalar x) = same-scalar x
same-tree empty = refl
same-tree (more t ts) = two-same (λ a b. a && b) (same-tree t) (same-tree ts)
same-tree (ref t) = same-tree t
same-tree (ref_mut t) = same-tree t
same-tree (named d) = equal d d refl

result-here : (b : Bool) (x y : List Fault) → b ≡ true → x ≡ [] → (if b then x else y) ≡ []
result-here b x y e h = rw e h

result-later : (b : Bool) (x y : List Fault) → b ≡ false → y ≡ [] → (if b then x else y) ≡ []
result-later b x y e h = rw e h

result-right : (c : Crate) (strings : Strings) (k : ℕ) (us : List Tree) (t : Tree) (others : Declared) (xs : List (Lined ArgRule)) → 0 < k → Aligned c strings xs (numbered k us ++ (0, t) ∷ others)
    → result_faults (names_at c strings) (ty_of (names_at c strings) (type_rule c strings t)) xs ≡ []
result-right c strings k us t others [] some h = refl
result-right c strings k [] t others (x ∷ xs) some h =
    let zero-there : nat_eq x.1.0 0 ≡ true = ap (λ r. nat_eq r.0 0) h.0 in
    let same : same_type (ty_of (names_at c strings) x.1.1) (ty_of (names_at c strings) (type_rule c strings t)) ≡ true =
    ap (λ r. same_type (ty_of (names_at c strings) r.1) (ty_of (names_at c strings) (type_rule c strings t))) h.0 ∙ same-tree (ty_of (names_at c strings) (type_rule c strings t)) in
    result-here _ _ _ zero-there (line-none x.0 _ (met _ 14 same))
result-right c strings k (u ∷ us) t others (x ∷ xs) some h =
    let other : nat_eq x.1.0 0 ≡ false = ap (λ r. nat_eq r.0 0) h.0 ∙ not-equal k 0 some in
    result-later _ _ _ other (result-right c strings (suc k) us t others xs (omega arith) h.1)

-- ---- no fault of the function

pub function_faultless : (c : Crate) (strings : Strings) → Kept c strings → (f : TypedFunction) → IsFn c f → (lines : LinesFrom) → fn_faults (names_at c strings) (fn_lined (fn_rule c strings f) lines) ≡ []
unfolding fn_rule
function_faultless c strings kept f h lines =
    let rule = fn_rule c strings f in
    let names = names_at c strings in
    let D = decls_at f.body.args f.body.locals in
    let is = stated f.body.args f.body.locals h.args in
    let set = fn-setting c strings kept f h in
    let n = length f.body.blocks in
    let t = local_ty f.body.locals 0 in
    let lined = fn_lined rule lines in
    let labels : labels_of lined ≡ numbers_from 0 n = block-labels c strings f.body.locals 0 f.body.blocks _ in
    let has : HasLabels (labels_of lined) n = subst (λ l. HasLabels l n) (sym labels) (λ b less. among 0 n b (omega arith) (omega arith)) in
    let args = args-aligned c strings (numbered 1 (args_of f.body)) (after_front rule lines) in
    let all : Aligned c strings (lined.args ++ lined.lets) D =
    aligned-append c strings lined.args lined.lets (numbered 1 (args_of f.body)) ((0, t) ∷ numbered (suc f.body.args) (others_of f.body)) args
    (lets-aligned c strings ((0, t) ∷ numbered (suc f.body.args) (others_of f.body)) (after_result rule lines)) in
    let head : on_line lined.head (type_codes names rule.result ++ unless (none_missing (declared names rule)) 14 ++ unless (blocks_in_order (labels_of lined)) 15) ≡ [] =
    line-none lined.head _ (append_empty _ _ (append_empty _ _ (type_faultless c strings kept t (first_type c f h).proper) (met _ 14 (ap none_missing (declared-is c strings kept f h) ∙ is.whole)))
    (met _ 15 (ap blocks_in_order labels ∙ blocks-in-order n h.some))) in
    append_empty _ _ (append_empty _ _ (append_empty _ _ (append_empty _ _ (append_empty _ _ head
    (types-faultless c strings kept (lined.args ++ lined.lets) D (all-decls c f h) all))
    (places-right c strings 1 (args_of f.body) lined.args args))
    (once-each c strings [] (lined.args ++ lined.lets) D is.once all))
    (result-right c strings 1 (args_of f.body) t (numbered (suc f.body.args) (others_of f.body)) (lined.args ++ lined.lets) (omega arith) all))
    (blocks_faultless c strings (declared names rule) f.body.locals set (labels_of lined) n has 0 f.body.blocks _ h.blocks)

-- ---- good

pub max-most : (a b n : ℕ) → a ≤ n → b ≤ n → max a b ≤ n
max-most a b n h k = grind arith

lets-good : (c : Crate) (strings : Strings) (ds : List (ℕ × Tree)) → AllOf (IsDecl c) ds → DeclsGood (lets_rule c strings ds)
lets-good c strings [] h = (omega arith, tt)
lets-good c strings (d ∷ ds) h =
    let others = lets-good c strings ds h.1 in
    (max-most (type_depth (type_rule c strings d.1)) (decls_depth (lets_rule c strings ds)) 65 (ty_good c strings d.1 h.0.type) others.0, (tt, others.1))

pub function_good : (c : Crate) (strings : Strings) (f : TypedFunction) → IsFn c f → FnGood (fn_rule c strings f)
unfolding fn_rule
function_good c strings f h = (
  items-all ArgGood (decl_rule c strings) (numbered 1 (args_of f.body)) (all-map (λ d is. ty_good c strings d.1 is.type) (numbered 1 (args_of f.body)) (arg_decls c f h)),
  ty_good c strings (local_ty f.body.locals 0) (first_type c f h),
  lets-good c strings ((0, local_ty f.body.locals 0) ∷ numbered (suc f.body.args) (others_of f.body)) (record { small = omega arith; type = first_type c f h }, other_decls c f h),
  blocks_good c strings f.body.locals (length f.body.blocks) 0 f.body.blocks h.blocks,
)
