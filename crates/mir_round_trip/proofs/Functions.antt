-- Functions: the rule that writes one, and its text.
use Rattle.mir_round_trip.specs.Names.{Clear, IsTy}
use Rattle.mir_round_trip.specs.Bodies.{IsFn}
use Rattle.std.proofs.Common.{◌≡◌, ◌<◌, ◌≤◌, ◌+◌, ◌^◌, ℕ, zero, suc, Bool, true, false, List, [], ◌∷◌, ◌++◌, length, take, drop, codes, refl, sym, ap, subst, arith, append_assoc, length-drop}
use Rattle.std.proofs.lemmas.List.{append-nil, length-take}
use Rattle.mir_syntax.specs.declared.body.Inline.{Inline}
use Rattle.mir_syntax.specs.declared.body.Inline.TheVariants as inlining
use Rattle.mir_syntax.specs.Tree.{Tree}
use Rattle.mir_syntax.specs.Crate.{Crate, TypedBlock, TypedFunction}
use Rattle.mir_text.specs.declared.symbol.Symbol.TheVariants as s
use Rattle.mir_text.specs.Grammar.{AllOf, items_put, each_put}
use Rattle.mir_text.specs.GrammarTypes.{path_put, type_put}
use Rattle.mir_text.specs.GrammarTerms.{block_put}
use Rattle.mir_text.specs.GrammarItems as m
use Rattle.mir_text.specs.GrammarItems.{ArgRule, arg_put, AttrRule, attr_put, DeclRule, DeclsRule, decl_put, decls_put, FnRule, drop_put, fn_put}
use Rattle.mir_text.specs.Names.{Strings}
use Rattle.mir_text.specs.TypeText.{piece, more_items, comma_list, type_text}
use Rattle.mir_text.specs.PlaceText.{local_ty}
use Rattle.mir_text.specs.TermText.{blocks_text}
use Rattle.mir_text.specs.Text.{local_decl, more_args, args_text, let_line, lets_text, args_of, others_of, body_text, inline_text, drop_text, header_text, function_text}
use Rattle.mir_round_trip.proofs.Spelling.{Puts, Spelt, after, and_then, alone, none, bare, all-map, Whole, whole_alone, whole_after, whole_then, whole_trim}
use Rattle.mir_round_trip.proofs.Atoms.{local_spelt}
use Rattle.mir_round_trip.proofs.Literals.{open_sign, colon_space, end_of_line, let_mut, drop_word, fn_word, result_arrow, body_open, body_close, inline_hint, inline_always, inline_never}
use Rattle.mir_round_trip.proofs.Paths.{path_rule, path_names, path_spelt}
use Rattle.mir_round_trip.proofs.Types.{type_rule, type_spelt}
use Rattle.mir_round_trip.proofs.Lists.{Front, items_rule, comma_spelt}
use Rattle.mir_round_trip.proofs.Blocks.{blocks_rule, blocks_names, blocks_spelt}
use Rattle.mir_round_trip.proofs.Locals.{numbered}

-- ---- the rule

abbrev pub decl_rule : Crate → Strings → ℕ × Tree → ArgRule
decl_rule c strings d = (d.0, type_rule c strings d.1)

abbrev pub lets_rule : Crate → Strings → List (ℕ × Tree) → DeclsRule
lets_rule c strings [] = m.no_decls
lets_rule c strings (d ∷ ds) = m.decls (m.«let» true d.0 (type_rule c strings d.1)) (lets_rule c strings ds)

abbrev pub attr_rule : Inline → AttrRule
attr_rule inlining.Plain = m.none
attr_rule inlining.Hint = m.hint
attr_rule inlining.Always = m.always
attr_rule inlining.Never = m.never

unfoldable pub fn_rule : Crate → Strings → TypedFunction → FnRule
fn_rule c strings f = record {
  attr = attr_rule f.inlining;
  is_drop = f.is_drop;
  path = path_rule strings f.path;
  args = items_rule (decl_rule c strings) (numbered 1 (args_of f.body));
  result = type_rule c strings (local_ty f.body.locals 0);
  locals = lets_rule c strings ((0, local_ty f.body.locals 0) ∷ numbered (suc f.body.args) (others_of f.body));
  blocks = blocks_rule c strings f.body.locals 0 f.body.blocks;
}

abbrev pub fn_names : TypedFunction → List (List ℕ)
fn_names f = path_names f.path ++ blocks_names f.body.blocks

-- ---- functions that a text writes

-- a declaration that a text writes
pub record IsDecl (c : Crate) (d : ℕ × Tree) : Type 0 where
  pub small : d.0 < 2 ^ 32
  pub type : IsTy c d.1

numbered-decls : (c : Crate) (k : ℕ) (ts : List Tree) → k + length ts ≤ 2 ^ 32 → AllOf (IsTy c) ts → AllOf (IsDecl c) (numbered k ts)
numbered-decls c k [] h all = tt
numbered-decls c k (t ∷ ts) h all = (record { small = omega arith; type = all.0 }, numbered-decls c (suc k) ts (omega arith) all.1)

all-take : {A : Type 0} (P : A → Type 0) (n : ℕ) (xs : List A) → AllOf P xs → AllOf P (take n xs)
all-take P zero xs h = tt
all-take P (suc n) [] h = tt
all-take P (suc n) (x ∷ xs) h = (h.0, all-take P n xs h.1)

all-drop : {A : Type 0} (P : A → Type 0) (n : ℕ) (xs : List A) → AllOf P xs → AllOf P (drop n xs)
all-drop P zero xs h = h
all-drop P (suc n) [] h = tt
all-drop P (suc n) (x ∷ xs) h = all-drop P n xs h.1

first-type : (c : Crate) (locals : List Tree) → 0 < length locals → AllOf (IsTy c) locals → IsTy c (local_ty locals 0)
unfolding local_ty
first-type c [] h all = absurd (omega arith)
first-type c (t ∷ ts) h all = all.0

pub first_type : (c : Crate) (f : TypedFunction) → IsFn c f → IsTy c (local_ty f.body.locals 0)
first_type c f h = let less = h.args in first-type c f.body.locals (omega arith) h.types

pub arg_decls : (c : Crate) (f : TypedFunction) → IsFn c f → AllOf (IsDecl c) (numbered 1 (args_of f.body))
arg_decls c f h =
    let few = h.few in
    let less = h.args in
    let m = length-drop 1 f.body.locals in
    let n = length-take f.body.args (drop 1 f.body.locals) in
    let bound : 1 + length (args_of f.body) ≤ 2 ^ 32 = grind (arith, m, n) in
    numbered-decls c 1 (args_of f.body) bound (all-take (IsTy c) f.body.args (drop 1 f.body.locals) (all-drop (IsTy c) 1 f.body.locals h.types))

pub other_decls : (c : Crate) (f : TypedFunction) → IsFn c f → AllOf (IsDecl c) (numbered (suc f.body.args) (others_of f.body))
other_decls c f h =
    let few = h.few in
    let less = h.args in
    let m = length-drop (suc f.body.args) f.body.locals in
    numbered-decls c (suc f.body.args) (others_of f.body) (omega (arith, m)) (all-drop (IsTy c) (suc f.body.args) f.body.locals h.types)

-- ---- its text

abbrev decl_text : Crate → ℕ × Tree → List ℕ
decl_text c d = local_decl c d.0 d.1

decl-spelt : (c : Crate) (d : ℕ × Tree) → IsDecl c d → Spelt (decl_text c d) (λ strings. arg_put (decl_rule c strings d)) []
unfolding local_decl piece
decl-spelt c d h = and_then (local_spelt d.0 h.small) (λ left clear. refl) (after colon_space (type_spelt c d.1 h.type.proper))

more-args : (c : Crate) (k : ℕ) (ts : List Tree) → more_items (decl_text c) (numbered k ts) ≡ more_args c k ts
unfolding more_args more_items
more-args c k [] = refl
more-args c k (t ∷ ts) = ap (λ l. piece (codes ", ") ++ (local_decl c k t ++ l)) (more-args c (suc k) ts)

args-text : (c : Crate) (ts : List Tree) → comma_list (decl_text c) (numbered 1 ts) ≡ args_text c ts
unfolding args_text comma_list
args-text c [] = refl
args-text c (t ∷ ts) = ap (λ l. local_decl c 1 t ++ l) (more-args c 2 ts)

-- of no concern that nothing is added
pub trim : {t : List ℕ} {f : Puts} {ns : List (List ℕ)} → Spelt t f (ns ++ []) → Spelt t f ns
trim {t = t} {f = f} {ns = ns} a = subst (Spelt t f) (append-nil ns) a

header-spelt : (c : Crate) (f : TypedFunction) → IsFn c f
    → Spelt (header_text c f.path f.body)
    (λ strings rest. s.Fn ∷ path_put (path_rule strings f.path) (s.Open ∷ items_put arg_put s.Close (items_rule (decl_rule c strings) (numbered 1 (args_of f.body)))
    (s.Arrow ∷ type_put (type_rule c strings (local_ty f.body.locals 0)) (s.OpenBrace ∷ rest)))) (path_names f.path)
unfolding header_text piece
header-spelt c f h =
    let t = local_ty f.body.locals 0 in
    let v = codes ") -> " ++ (type_text c t ++ codes " {\n") in
    let result = after result_arrow (and_then (type_spelt c t (first_type c f h).proper) (λ left clear. refl) (alone body_open)) in
    let args = comma_spelt (decl_text c) arg_put (λ strings. decl_rule c strings) (λ d. []) s.Close v (λ strings rest. s.Arrow ∷ type_put (type_rule c strings t) (s.OpenBrace ∷ rest)) []
    (λ left clear. refl) result (numbered 1 (args_of f.body)) (all-map (decl-spelt c) (numbered 1 (args_of f.body)) (arg_decls c f h)) in
    let list = subst (λ l. Spelt (l ++ v) (λ strings rest. items_put arg_put s.Close (items_rule (decl_rule c strings) (numbered 1 (args_of f.body))) (s.Arrow ∷ type_put (type_rule c strings t) (s.OpenBrace ∷ rest))) [])
    (args-text c (args_of f.body)) (bare args) in
    after fn_word (trim (and_then (path_spelt f.path h.path) (λ left clear. refl) (after open_sign list)))

let-spelt : (c : Crate) (x : ℕ) (t : Tree) → IsDecl c (x, t) → Spelt (let_line c x t) (λ strings. decl_put (m.«let» true x (type_rule c strings t))) []
unfolding let_line local_decl piece
let-spelt c x t h =
    after let_mut (and_then (and_then (local_spelt x h.small) (λ left clear. refl) (after colon_space (type_spelt c t h.type.proper))) (λ left clear. refl) (alone end_of_line))

lets-front : (c : Crate) (k : ℕ) (ts : List Tree) → Front (lets_text c k ts)
unfolding lets_text let_line piece
lets-front c k [] = λ left clear. clear
lets-front c k (t ∷ ts) = λ left clear. refl

lets-spelt : (c : Crate) (k : ℕ) (ts : List Tree) → AllOf (IsDecl c) (numbered k ts) → Spelt (lets_text c k ts) (λ strings. decls_put (lets_rule c strings (numbered k ts))) []
unfolding lets_text
lets-spelt c k [] h = none
lets-spelt c k (t ∷ ts) h = and_then (let-spelt c k t h.0) (lets-front c (suc k) ts) (lets-spelt c (suc k) ts h.1)

front-by : (c : Crate) (locals : List Tree) (k : ℕ) (bs : List TypedBlock) → Front (blocks_text c locals k bs)
unfolding blocks_text piece
front-by c locals k [] = λ left clear. clear
front-by c locals k (b ∷ bs) = λ left clear. refl

both-front : (u v : List ℕ) → Front u → Front v → Front (u ++ v)
both-front u v h k = λ left clear. subst Clear (sym (append_assoc u v left)) (h (v ++ left) (k left clear))

blocks-front : (c : Crate) (f : TypedFunction) → Front (blocks_text c f.body.locals 0 f.body.blocks)
blocks-front c f = front-by c f.body.locals 0 f.body.blocks

body-spelt : (c : Crate) (f : TypedFunction) → IsFn c f
    → Spelt (body_text c f.body) (λ strings rest. decls_put (lets_rule c strings ((0, local_ty f.body.locals 0) ∷ numbered (suc f.body.args) (others_of f.body)))
    (each_put block_put (blocks_rule c strings f.body.locals 0 f.body.blocks) rest)) (blocks_names f.body.blocks)
unfolding body_text
body-spelt c f h =
    let first = let-spelt c 0 (local_ty f.body.locals 0) (record { small = omega arith; type = first_type c f h }) in
    let others = lets-spelt c (suc f.body.args) (others_of f.body) (other_decls c f h) in
    let few : 0 + length f.body.blocks ≤ 2 ^ 32 = let n = h.few_blocks in omega arith in
    and_then first (both-front (lets_text c (suc f.body.args) (others_of f.body)) (blocks_text c f.body.locals 0 f.body.blocks) (lets-front c (suc f.body.args) (others_of f.body)) (blocks-front c f))
    (and_then others (blocks-front c f) (blocks_spelt c f.body.locals (length f.body.blocks) 0 f.body.blocks h.blocks few))

attr-spelt : (i : Inline) {u : List ℕ} {f : Puts} {ms : List (List ℕ)} → Whole u f ms → Whole (inline_text i ++ u) (λ strings rest. attr_put (attr_rule i) (f strings rest)) ms
unfolding inline_text piece
attr-spelt inlining.Plain a = a
attr-spelt inlining.Hint a = whole_after inline_hint a
attr-spelt inlining.Always a = whole_after inline_always a
attr-spelt inlining.Never a = whole_after inline_never a

drop-spelt : (d : Bool) {u : List ℕ} {f : Puts} {ms : List (List ℕ)} → Whole u f ms → Whole (drop_text d ++ u) (λ strings rest. drop_put d (f strings rest)) ms
unfolding drop_text piece
drop-spelt true a = whole_after drop_word a
drop-spelt false a = a

-- a body begins with a space
body-clear : (c : Crate) (f : TypedFunction) (left : List ℕ) → Clear ((body_text c f.body ++ codes "}\n") ++ left)
unfolding body_text let_line piece
body-clear c f left = refl

pub function_spelt : (c : Crate) (f : TypedFunction) → IsFn c f → Whole (function_text c f) (λ strings. fn_put (fn_rule c strings f)) (fn_names f)
unfolding function_text fn_rule piece
function_spelt c f h =
    let whole = whole_then (header-spelt c f h) (λ left. body-clear c f left) (whole_trim (whole_then (body-spelt c f h) (λ left. refl) (whole_alone body_close))) in
    attr-spelt f.inlining (drop-spelt f.is_drop whole)
