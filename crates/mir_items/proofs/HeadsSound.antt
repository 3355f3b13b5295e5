-- Parsing a function up to its blocks is the grammar's rule: what is read is a derivation.
use Rattle.std.proofs.Common.{◌≡◌, ℕ, ◌≤◌, Bool, true, false, List, [], ◌∷◌, length, Ok, refl, sym, ap, subst, ◌∙◌, arith}
use Rattle.mir_syntax.specs.declared.body.Inline.{Inline}
use Rattle.mir_text.specs.declared.symbol.Symbol.{Symbol}
use Rattle.mir_text.specs.declared.symbol.Symbol.TheVariants as s
use Rattle.mir_text.specs.Grammar.{Items, end, last, more, items_put, each_put}
use Rattle.mir_text.specs.GrammarTypes.{PathRule, path_put, TypeRule, type_put}
use Rattle.mir_text.specs.GrammarTerms.{block_put}
use Rattle.mir_text.specs.GrammarItems as m
use Rattle.mir_text.specs.GrammarItems.{ArgRule, arg_put, attr_put, drop_put, DeclsRule, decls_put, result_put, FnRule, fn_put}
use Rattle.mir_text.specs.Nesting.{TypeGood}
use Rattle.mir_tree.specs.declared.ty.PathText.{PathText}
use Rattle.mir_tree.specs.declared.ty.TypeText.{TypeText}
use Rattle.mir_tree.specs.declared.item.FnText.{FnText}
use Rattle.mir_tree.specs.Types.{path_text, type_text}
use Rattle.mir_parse.proofs.Laws.{in_steps, ok_same, open_brace-sound}
use Rattle.mir_parse.proofs.PathsRead.{path_grows}
use Rattle.mir_parse.proofs.TypesRead.{type_grows}
use Rattle.mir_items.specs.Attrs.{drop_at}
use Rattle.mir_items.specs.Items.{fn_path, result_open, head, fn_head, fn_front}
use Rattle.mir_items.proofs.AttrsRead.{attr-sound, drop-sound}
use Rattle.mir_items.proofs.ArgsRead.{args_text, args-sound}
use Rattle.mir_items.proofs.DeclsRead.{lets_text}
use Rattle.mir_items.proofs.DeclsSound.{decls-sound}
use Rattle.mir_items.proofs.OthersRead.{fn_word-sound, path_open-sound, result_type_put, result_type-sound}
use Rattle.mir_items.proofs.HeadsRead.{HeadRule, head_put, HeadGood, head_text}

-- a function is its head and its blocks
abbrev pub head_of : FnRule → HeadRule
head_of f = record { attr = f.attr; is_drop = f.is_drop; path = f.path; args = f.args; result = f.result; locals = f.locals }

pub fn-is-head : (f : FnRule) (rest : List Symbol) → fn_put f rest ≡ head_put (head_of f) (each_put block_put f.blocks (s.CloseBrace ∷ rest))
fn-is-head f rest = refl

-- ---- parts

fn_path-sound : (ts : List Symbol) (x : PathText) (rest : List Symbol) → fn_path ts ≡ Ok (x, rest) → (p : PathRule) × (path_text p ≡ x) × (ts ≡ s.Fn ∷ path_put p (s.Open ∷ rest))
unfolding fn_path
fn_path-sound ts x rest h =
    in_steps _ _ (x, rest) h (λ a past is_fn went.
    in_steps _ _ (x, rest) went (λ p over opened same_h.
    let same = ok_same _ _ same_h in
    let q = path_open-sound past p over opened in
    (q.rule, q.reads ∙ ap (λ y. y.0) same, fn_word-sound ts (a, past) is_fn ∙ ap (λ l. s.Fn ∷ l) (q.yields ∙ ap (λ y. path_put q.rule (s.Open ∷ y.1)) same))))

-- an arrow, a type and an opening brace
record IsResultOpen (ts : List Symbol) (x : TypeText) (rest : List Symbol) : Type 0 where
  rule : TypeRule
  reads : type_text rule ≡ x
  yields : ts ≡ result_put rule rest
  good : TypeGood rule

result_open-sound : (ts : List Symbol) (x : TypeText) (rest : List Symbol) → result_open ts ≡ Ok (x, rest) → IsResultOpen ts x rest
unfolding result_open
result_open-sound ts x rest h =
    in_steps _ _ (x, rest) h (λ u over typed went.
    in_steps _ _ (x, rest) went (λ a after opened same_h.
    let t = result_type-sound ts u over typed in
    let P : TypeText × List Symbol → Type 0 = λ y. IsResultOpen ts y.0 y.1 in
    subst P (ok_same _ _ same_h) (record {
      rule = t.rule;
      reads = t.reads;
      yields = t.yields ∙ ap (result_type_put t.rule) (open_brace-sound over (a, after) opened);
      good = t.good;
    })))

args_grow : (xs : Items ArgRule) (rest : List Symbol) → length rest ≤ length (items_put arg_put s.Close xs rest)
args_grow end rest = omega arith
args_grow (last a) rest = omega (arith, type_grows a.1 (s.Close ∷ rest))
args_grow (more a xs) rest = omega (arith, type_grows a.1 (s.Comma ∷ items_put arg_put s.Close xs rest), args_grow xs rest)

-- ---- behind an attribute and `drop`

word-sound : (lines : List ℕ) (w : Inline) (is_drop : Bool) (ts : List Symbol) (x : FnText) (rest : List Symbol) → length ts ≤ length lines → fn_head lines w is_drop ts ≡ Ok (x, rest)
    → (p : PathRule) × (xs : Items ArgRule) × (u : TypeRule) × (ds : DeclsRule)
    × (head w is_drop (path_text p) (args_text lines xs (result_put u (decls_put ds rest))) (type_text u) (lets_text lines ds (decls_put ds rest)) ≡ x)
    × (ts ≡ s.Fn ∷ path_put p (s.Open ∷ items_put arg_put s.Close xs (result_put u (decls_put ds rest))))
    × HeadGood (record { attr = m.none; is_drop = is_drop; path = p; args = xs; result = u; locals = ds })
unfolding fn_head
word-sound lines w is_drop ts x rest within h =
    in_steps _ _ (x, rest) h (λ px over pathed went.
    in_steps _ _ (x, rest) went (λ xs past listed went2.
    in_steps _ _ (x, rest) went2 (λ ux after typed went3.
    in_steps _ _ (x, rest) went3 (λ ls last_ts declared same_h.
    let p = fn_path-sound ts px over pathed in
    let a = args-sound lines over xs past listed in
    let t = result_open-sound past ux after typed in
    let fewer : length after ≤ length lines = omega (arith, ap length p.2, path_grows p.0 (s.Open ∷ over), ap length a.yields, args_grow a.rule past, ap length t.yields, type_grows t.rule (s.OpenBrace ∷ after)) in
    let d = decls-sound lines 65 after [] ls last_ts fewer declared in
    let body : past ≡ result_put t.rule (decls_put d.rule last_ts) = t.yields ∙ ap (result_put t.rule) d.yields in
    let listed_is : args_text lines a.rule (result_put t.rule (decls_put d.rule last_ts)) ≡ xs = ap (args_text lines a.rule) (sym body) ∙ a.reads in
    let same = ok_same _ _ same_h in
    let Q : FnText × List Symbol → Type 0 = λ y.
    (p : PathRule) × (xs : Items ArgRule) × (u : TypeRule) × (ds : DeclsRule)
    × (head w is_drop (path_text p) (args_text lines xs (result_put u (decls_put ds y.1))) (type_text u) (lets_text lines ds (decls_put ds y.1)) ≡ y.0)
    × (ts ≡ s.Fn ∷ path_put p (s.Open ∷ items_put arg_put s.Close xs (result_put u (decls_put ds y.1))))
    × HeadGood (record { attr = m.none; is_drop = is_drop; path = p; args = xs; result = u; locals = ds }) in
    subst Q same (
      p.0,
      a.rule,
      t.rule,
      d.rule,
      (λ i. head w is_drop (p.1 i) (listed_is i) (t.reads i) (d.reads i)),
      p.2 ∙ ap (λ l. s.Fn ∷ path_put p.0 (s.Open ∷ l)) (a.yields ∙ ap (items_put arg_put s.Close a.rule) body),
      (a.good, t.good, (d.nests, d.small)),
    )))))

-- ---- the whole head

pub record IsHead (lines : List ℕ) (ts : List Symbol) (x : FnText) (rest : List Symbol) : Type 0 where
  pub rule : HeadRule
  pub reads : head_text lines rule rest ≡ x
  pub yields : ts ≡ head_put rule rest
  pub good : HeadGood rule

drop_fewer : (is : Bool) (rest : List Symbol) → length rest ≤ length (drop_put is rest)
drop_fewer true rest = omega arith
drop_fewer false rest = omega arith

attr_fewer : (r : _) (rest : List Symbol) → length rest ≤ length (attr_put r rest)
attr_fewer m.none rest = omega arith
attr_fewer m.hint rest = omega arith
attr_fewer m.always rest = omega arith
attr_fewer m.never rest = omega arith

pub head-sound : (lines : List ℕ) (ts : List Symbol) (x : FnText) (rest : List Symbol) → length ts ≤ length lines → fn_front lines ts ≡ Ok (x, rest) → IsHead lines ts x rest
unfolding fn_front
head-sound lines ts x rest within h =
    in_steps _ _ (x, rest) h (λ w past found went.
    in_steps _ _ (x, rest) went (λ y last_ts headed same_h.
    let a = attr-sound ts w past found in
    let is = (drop_at past).0 in
    let over = (drop_at past).1 in
    let fewer : length over ≤ length lines = omega (arith, ap length a.yields, attr_fewer a.rule past, ap length (drop-sound past), drop_fewer is over) in
    let v = word-sound lines w is over y last_ts fewer headed in
    let P : FnText × List Symbol → Type 0 = λ q. IsHead lines ts q.0 q.1 in
    subst P (ok_same _ _ same_h) (record {
      rule = record { attr = a.rule; is_drop = is; path = v.0; args = v.1; result = v.2; locals = v.3 };
      reads = ap (λ w. head w is (path_text v.0) (args_text lines v.1 (result_put v.2 (decls_put v.3 last_ts))) (type_text v.2) (lets_text lines v.3 (decls_put v.3 last_ts))) a.reads ∙ v.4;
      yields = a.yields ∙ ap (attr_put a.rule) (drop-sound past ∙ ap (drop_put is) v.5);
      good = v.6;
    })))
