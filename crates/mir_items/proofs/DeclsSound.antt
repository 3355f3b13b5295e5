-- Parsing declarations is the grammar's rule: what is read is a derivation.
use Rattle.std.proofs.Common.{◌≡◌, ℕ, zero, suc, ◌≤◌, Bool, true, false, List, [], ◌∷◌, ◌++◌, length, Ok, Err, Option, Some, None, refl, sym, ap, subst, ◌∙◌, arith, append_assoc, append-nil}
use Rattle.mir_text.specs.declared.symbol.Symbol.{Symbol}
use Rattle.mir_text.specs.declared.symbol.Symbol.TheVariants as s
use Rattle.mir_text.specs.Grammar.{each_put, AllOf}
use Rattle.mir_text.specs.GrammarTypes.{PathRule, path_put, mut_put}
use Rattle.mir_text.specs.GrammarItems as m
use Rattle.mir_text.specs.GrammarItems.{ArgRule, arg_put, DebugSymbol, is_semicolon, debug_put, DeclRule, DeclsRule, inlined_put, decl_put, decls_put}
use Rattle.mir_text.specs.Nesting.{type_depth, decl_depth, decls_depth, DebugGood, DebugSymbolGood, DeclSmall, DeclsSmall}
use Rattle.mir_tree.specs.declared.Lined.{Lined}
use Rattle.mir_tree.specs.declared.item.ArgText.{ArgText}
use Rattle.mir_tree.specs.declared.ty.TypeText.{TypeText}
use Rattle.mir_parse.specs.Parser.{Found}
use Rattle.mir_parse.proofs.Laws.{in_steps, ok_same, IsRead, local-sound, colon-sound, semicolon-sound, small_number-sound, this_name-sound, close-sound, open_brace-sound, close_brace-sound}
use Rattle.mir_parse.proofs.PathsRead.{path-sound}
use Rattle.mir_parse.proofs.TypesRead.{type-sound}
use Rattle.mir_items.specs.Lines.{line_of, in_part}
use Rattle.mir_items.specs.Decls.{arg_at, with_line, mut_past, let_end, let_at, debug_end, inlined, scope_front, scope_with, decl_turn, decls_go_on, decls_from, scope_at, decls_at}
use Rattle.mir_items.proofs.Sizes.{inlined_size, decl_size, first-line}
use Rattle.mir_items.proofs.DeclsRead.{arg_text, let_text, lets_text, lets_text-more, scope_text}

-- ---- arguments and `let` lines

abbrev pub ArgNests : ℕ → ArgRule → Type 0
ArgNests d a = type_depth a.1 ≤ d

abbrev pub IsArg : ℕ → List Symbol → ArgText → List Symbol → Type 0
IsArg d = IsRead arg_put arg_text (ArgNests d)

pub arg_at-sound : (d : ℕ) (ts : List Symbol) (x : ArgText) (rest : List Symbol) → arg_at d ts ≡ Ok (x, rest) → IsArg d ts x rest
unfolding arg_at
arg_at-sound d ts x rest h =
    in_steps _ _ (x, rest) h (λ n past named went.
    in_steps _ _ (x, rest) went (λ a over is_colon went2.
    in_steps _ _ (x, rest) went2 (λ u after typed same_h.
    let t = type-sound d over u after typed in
    let of : TypeText → ArgText = λ u. record { local = n; ty = u } in
    let P : ArgText × List Symbol → Type 0 = λ y. IsArg d ts y.0 y.1 in
    subst P (ok_same _ _ same_h) (record {
      rule = (n, t.rule);
      reads = ap of t.reads;
      yields = local-sound ts (n, past) named ∙ ap (λ l. s.Local n ∷ l) (colon-sound past (a, over) is_colon ∙ ap (λ l. s.Colon ∷ l) t.yields);
      good = t.good;
    }))))

-- what is found in a part was found
pub part_ok : {A : Type 0} (ts : List Symbol) (found : Found A) (y : A × List Symbol) → in_part ts found ≡ Ok y → found ≡ Ok y
part_ok ts (Ok q) y h = h
part_ok ts (Err e) y h = absurd cc

-- a declaration was read, and its `let` lines stand behind others
pub record IsDecl (lines : List ℕ) (d : ℕ) (ts : List Symbol) (before us : List (Lined ArgText)) (rest : List Symbol) : Type 0 where
  pub rule : DeclRule
  pub reads : before ++ let_text lines rule (decl_put rule rest) ≡ us
  pub yields : ts ≡ decl_put rule rest
  pub nests : decl_depth rule ≤ d
  pub small : DeclSmall rule

pub record IsDecls (lines : List ℕ) (d : ℕ) (ts : List Symbol) (before us : List (Lined ArgText)) (rest : List Symbol) : Type 0 where
  pub rule : DeclsRule
  pub reads : before ++ lets_text lines rule (decls_put rule rest) ≡ us
  pub yields : ts ≡ decls_put rule rest
  pub nests : decls_depth rule ≤ d
  pub small : DeclsSmall rule

mut-sound : {R : Type 0} (ts : List Symbol) → ((mutable : Bool) → ts ≡ mut_put mutable (mut_past ts) → R) → R
unfolding mut_past
mut-sound [] k = k false refl
mut-sound (s.Mut ∷ ts) k = k true refl
mut-sound (x ∷ ts) k = k false refl

let-by : (lines : List ℕ) (d : ℕ) (ts over rest : List Symbol) (before : List (Lined ArgText)) (a : ArgText) (mutable : Bool) → ts ≡ mut_put mutable (mut_past ts) → IsArg d (mut_past ts) a over → over ≡ s.Semicolon ∷ rest
    → IsDecl lines d (s.Let ∷ ts) before (before ++ with_line (line_of lines (s.Let ∷ ts)) a ∷ []) rest
let-by lines d ts over rest before a mutable front arg ended =
    let inner : ts ≡ mut_put mutable (arg_put arg.rule (s.Semicolon ∷ rest)) = front ∙ ap (mut_put mutable) (arg.yields ∙ ap (arg_put arg.rule) ended) in
    let put = decl_put (m.«let» mutable arg.rule.0 arg.rule.1) rest in
    record {
      rule = m.«let» mutable arg.rule.0 arg.rule.1;
      reads =
          ap (λ n. before ++ with_line n (arg_text arg.rule) ∷ []) (first-line lines put ∙ ap (λ l. line_of lines (s.Let ∷ l)) (sym inner))
          ∙ ap (λ x. before ++ with_line (line_of lines (s.Let ∷ ts)) x ∷ []) arg.reads;
      yields = ap (λ l. s.Let ∷ l) inner;
      nests = arg.good;
      small = tt;
    }

let_end-sound : {R : Type 0} (d : ℕ) (ts : List Symbol) (a : ArgText) (rest : List Symbol) → let_end d ts ≡ Ok (a, rest) → ((over : List Symbol) → IsArg d (mut_past ts) a over → over ≡ s.Semicolon ∷ rest → R) → R
unfolding let_end
let_end-sound d ts a rest h k =
    in_steps _ _ (a, rest) h (λ x over found went.
    in_steps _ _ (a, rest) went (λ b after ended same_h.
    let same = ok_same _ _ same_h in
    k over (subst (λ y. IsArg d (mut_past ts) y over) (ap (λ q. q.0) same) (arg_at-sound d (mut_past ts) x over found)) (semicolon-sound over (b, after) ended ∙ ap (λ q. s.Semicolon ∷ q.1) same)))

let-sound : (lines : List ℕ) (d : ℕ) (ts : List Symbol) (before : List (Lined ArgText)) (l : Lined ArgText) (rest : List Symbol) → let_at lines d ts ≡ Ok (l, rest) → IsDecl lines d (s.Let ∷ ts) before (before ++ l ∷ []) rest
unfolding let_at
let-sound lines d ts before l rest h =
    in_steps _ _ (l, rest) (part_ok (s.Let ∷ ts) _ (l, rest) h) (λ a past found same_h.
    let P : Lined ArgText × List Symbol → Type 0 = λ y. IsDecl lines d (s.Let ∷ ts) before (before ++ y.0 ∷ []) y.1 in
    subst P (ok_same _ _ same_h) (let_end-sound d ts a past found (λ over arg ended. mut-sound ts (λ mutable front. let-by lines d ts over past before a mutable front arg ended))))

-- ---- `debug` lines

record IsDebug (ts rest : List Symbol) : Type 0 where
  rule : List DebugSymbol
  yields : ts ≡ each_put debug_put rule (s.Semicolon ∷ rest)
  good : AllOf DebugSymbolGood rule

more-debug : (x : Symbol) (ts rest : List Symbol) → is_semicolon x ≡ false → DebugGood x → IsDebug ts rest → IsDebug (x ∷ ts) rest
more-debug x ts rest other good others = record {
  rule = record { symbol = x; other = other } ∷ others.rule;
  yields = ap (λ l. x ∷ l) others.yields;
  good = (good, others.good);
}

debug-sound : (ts : List Symbol) (a : Unit {0}) (rest : List Symbol) → debug_end ts ≡ Ok (a, rest) → IsDebug ts rest
unfolding debug_end
debug-sound [] a rest h = absurd cc
debug-sound (s.Semicolon ∷ ts) a rest h = record { rule = []; yields = ap (λ q. s.Semicolon ∷ q.1) (ok_same _ _ h); good = tt }
debug-sound (s.LargeLocal ∷ ts) a rest h = absurd cc
debug-sound (s.LargeBlock ∷ ts) a rest h = absurd cc
debug-sound (x ∷ ts) a rest h = more-debug x ts rest refl tt (debug-sound ts a rest h)

-- ---- scopes

record IsFront (ts rest : List Symbol) : Type 0 where
  number : ℕ
  inlining : Option PathRule
  yields : ts ≡ s.Number number ∷ inlined_put inlining (s.OpenBrace ∷ rest)
  small : number ≤ 4294967295

inlined-sound : {R : Type 0} (ts : List Symbol) (a : Unit {0}) (rest : List Symbol) → inlined ts ≡ Ok (a, rest) → ((q : Option PathRule) → ts ≡ inlined_put q rest → R) → R
unfolding inlined
inlined-sound [] a rest h k = k None (ap (λ q. q.1) (ok_same _ _ h))
inlined-sound (s.Open ∷ ts) a rest h k =
    in_steps _ _ (a, rest) h (λ b past named went.
    in_steps _ _ (a, rest) went (λ p over found went2.
    in_steps _ _ (a, rest) went2 (λ c after closed same_h.
    let q = path-sound past p over found in
    k (Some q.rule) (ap (λ l. s.Open ∷ l) (this_name-sound 3 ts (b, past) named
    ∙ ap (λ l. s.Name 3 ∷ l) (q.yields ∙ ap (path_put q.rule) (close-sound over (c, after) closed ∙ ap (λ q. s.Close ∷ q.1) (ok_same _ _ same_h))))))))
inlined-sound (x ∷ ts) a rest h k = k None (ap (λ q. q.1) (ok_same _ _ h))

front-sound : (ts : List Symbol) (a : Unit {0}) (rest : List Symbol) → scope_front ts ≡ Ok (a, rest) → IsFront ts rest
unfolding scope_front
front-sound ts a rest h =
    in_steps _ _ (a, rest) h (λ n past numbered went.
    in_steps _ _ (a, rest) went (λ b over found went2.
    in_steps _ _ (a, rest) went2 (λ c after opened same_h.
    let end : over ≡ s.OpenBrace ∷ rest = open_brace-sound over (c, after) opened ∙ ap (λ q. s.OpenBrace ∷ q.1) (ok_same _ _ same_h) in
    small_number-sound ts (n, past) numbered (λ stands small.
    inlined-sound past b over found (λ q inner.
    record { number = n; inlining = q; yields = stands ∙ ap (λ l. s.Number n ∷ l) (inner ∙ ap (inlined_put q) end); small = small })))))

-- ---- declarations

abbrev ScopeSound : List ℕ → ℕ → Type 0
ScopeSound lines d = (ts : List Symbol) (before us : List (Lined ArgText)) (rest : List Symbol) → length (s.Scope ∷ ts) ≤ length lines → scope_at lines d before ts ≡ Ok (us, rest) → IsDecl lines d (s.Scope ∷ ts) before us rest

turn-sound : {R : Type 0} (lines : List ℕ) (d : ℕ) → ScopeSound lines d → (before : List (Lined ArgText)) (ts : List Symbol) (q : Bool × List (Lined ArgText)) (rest : List Symbol) → length ts ≤ length lines
    → decl_turn (scope_at lines d) lines d before ts ≡ Ok (q, rest)
    → (q ≡ (true, before) → ts ≡ rest → R) → ((us : List (Lined ArgText)) → q ≡ (false, us) → IsDecl lines d ts before us rest → R) → R
unfolding decl_turn
turn-sound lines d scope before [] q rest within h end_k more_k = let same = ok_same _ _ h in end_k (sym (ap (λ y. y.0) same)) (ap (λ y. y.1) same)
turn-sound lines d scope before (s.Let ∷ ts) q rest within h end_k more_k =
    in_steps _ _ (q, rest) h (λ l past found same_h.
    let same = ok_same _ _ same_h in
    more_k (before ++ l ∷ []) (sym (ap (λ y. y.0) same)) (subst (IsDecl lines d (s.Let ∷ ts) before (before ++ l ∷ [])) (ap (λ y. y.1) same) (let-sound lines d ts before l past found)))
turn-sound lines d scope before (s.Debug ∷ ts) q rest within h end_k more_k =
    in_steps _ _ (q, rest) h (λ a past found same_h.
    let same = ok_same _ _ same_h in
    let x = debug-sound ts a past found in
    more_k before (sym (ap (λ y. y.0) same)) (subst (IsDecl lines d (s.Debug ∷ ts) before before) (ap (λ y. y.1) same)
    (record { rule = m.debug x.rule; reads = append-nil before; yields = ap (λ l. s.Debug ∷ l) x.yields; nests = omega arith; small = x.good })))
turn-sound lines d scope before (s.Scope ∷ ts) q rest within h end_k more_k =
    in_steps _ _ (q, rest) h (λ ls past found same_h.
    let same = ok_same _ _ same_h in
    more_k ls (sym (ap (λ y. y.0) same)) (subst (IsDecl lines d (s.Scope ∷ ts) before ls) (ap (λ y. y.1) same) (scope ts before ls past within found)))
turn-sound lines d scope before (x ∷ ts) q rest within h end_k more_k = let same = ok_same _ _ h in end_k (sym (ap (λ y. y.0) same)) (ap (λ y. y.1) same)

one-more : (lines : List ℕ) (d : ℕ) (ts past : List Symbol) (before ls us : List (Lined ArgText)) (rest : List Symbol) → length ts ≤ length lines → IsDecl lines d ts before ls past → IsDecls lines d past ls us rest → IsDecls lines d ts before us rest
one-more lines d ts past before ls us rest within first others =
    let ds = others.rule in
    let front : ts ≡ decl_put first.rule (decls_put ds rest) = first.yields ∙ ap (decl_put first.rule) others.yields in
    let fits : length (decl_put first.rule (decls_put ds rest)) ≤ length lines = subst (λ (l : List Symbol). length l ≤ length lines) front within in
    let tail = lets_text lines ds (decls_put ds rest) in
    record {
      rule = m.decls first.rule ds;
      reads =
          ap (λ l. before ++ l) (lets_text-more lines first.rule ds rest fits)
          ∙ sym (append_assoc before (let_text lines first.rule (decl_put first.rule (decls_put ds rest))) tail)
          ∙ ap (λ l. l ++ tail) (ap (λ l. before ++ let_text lines first.rule (decl_put first.rule l)) (sym others.yields) ∙ first.reads)
          ∙ others.reads;
      yields = front;
      nests = omega (arith, first.nests, others.nests);
      small = (first.small, others.small);
    }

decls_from-sound : (lines : List ℕ) (d : ℕ) → ScopeSound lines d → (n : ℕ) (ts : List Symbol) (before us : List (Lined ArgText)) (rest : List Symbol) → length ts ≤ length lines
    → decls_from (scope_at lines d) lines d n before ts ≡ Ok (us, rest) → IsDecls lines d ts before us rest
unfolding decls_from
decls_from-sound lines d scope zero ts before us rest within h = absurd cc
decls_from-sound lines d scope (suc n) ts before us rest within h =
    in_steps _ _ (us, rest) h (λ q past turned went.
    turn-sound lines d scope before ts q past within turned
    (λ is stands. let same = ok_same _ _ (ap (λ y. decls_go_on (decls_from (scope_at lines d) lines d n) y past) (sym is) ∙ went) in
    record { rule = m.no_decls; reads = append-nil before ∙ ap (λ y. y.0) same; yields = stands ∙ ap (λ y. y.1) same; nests = omega arith; small = tt })
    (λ ls is first.
    let fewer : length past ≤ length ts = omega (arith, ap length first.yields, decl_size first.rule past) in
    one-more lines d ts past before ls us rest within first
    (decls_from-sound lines d scope n past ls us rest (omega arith) (ap (λ y. decls_go_on (decls_from (scope_at lines d) lines d n) y past) (sym is) ∙ went))))

scope-by : (lines : List ℕ) (d : ℕ) (ts over past rest : List Symbol) (before ls : List (Lined ArgText)) → length (s.Scope ∷ ts) ≤ length lines → IsFront ts over → IsDecls lines d over before ls past → past ≡ s.CloseBrace ∷ rest → IsDecl lines (suc d) (s.Scope ∷ ts) before ls rest
scope-by lines d ts over past rest before ls within front inner closed =
    let ds = inner.rule in
    let scope = m.scope front.number front.inlining ds in
    let stands : s.Scope ∷ ts ≡ decl_put scope rest =
    ap (λ l. s.Scope ∷ l) (front.yields ∙ ap (λ l. s.Number front.number ∷ inlined_put front.inlining (s.OpenBrace ∷ l)) (inner.yields ∙ ap (decls_put ds) closed)) in
    let fits : length (decl_put scope rest) ≤ length lines = subst (λ (l : List Symbol). length l ≤ length lines) stands within in
    record {
      rule = scope;
      reads = ap (λ l. before ++ l) (scope_text lines front.number front.inlining ds rest fits) ∙ ap (λ l. before ++ lets_text lines ds (decls_put ds l)) (sym closed) ∙ inner.reads;
      yields = stands;
      nests = omega (arith, inner.nests);
      small = (front.small, inner.small);
    }

front_fewer : (ts over : List Symbol) (front : IsFront ts over) → length over ≤ length ts
front_fewer ts over front = omega (arith, ap length front.yields, inlined_size front.inlining (s.OpenBrace ∷ over))

pub scope-sound : (lines : List ℕ) (d : ℕ) → ScopeSound lines d
unfolding scope_at scope_with
scope-sound lines zero ts before us rest within h = absurd cc
scope-sound lines (suc d) ts before us rest within h =
    in_steps _ _ (us, rest) h (λ a over fronted went.
    in_steps _ _ (us, rest) went (λ ls past found went2.
    in_steps _ _ (us, rest) went2 (λ b after closed same_h.
    let same = ok_same _ _ same_h in
    let front = front-sound ts a over fronted in
    let fewer = front_fewer ts over front in
    let inner = decls_from-sound lines d (scope-sound lines d) (suc (length over)) over before ls past (omega arith) found in
    let P : List (Lined ArgText) × List Symbol → Type 0 = λ y. IsDecl lines (suc d) (s.Scope ∷ ts) before y.0 y.1 in
    subst P same (scope-by lines d ts over past after before ls within front inner (close_brace-sound past (b, after) closed)))))

pub decls-sound : (lines : List ℕ) (d : ℕ) (ts : List Symbol) (before us : List (Lined ArgText)) (rest : List Symbol) → length ts ≤ length lines → decls_at lines d before ts ≡ Ok (us, rest) → IsDecls lines d ts before us rest
decls-sound lines d ts before us rest within h = decls_from-sound lines d (scope-sound lines d) (suc (length ts)) ts before us rest within h
