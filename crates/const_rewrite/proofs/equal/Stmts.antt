-- Statements that are folded one after another.
use Rattle.std.proofs.Common.{◌≡◌, refl, sym, ap, ap₂, ◌∙◌, ℕ, ◌+◌, ◌<◌, ◌≤◌, Bool, true, IsTrue, List, [], ◌∷◌, ◌++◌, length, map, get_or, set, take, Some, None, arith}
use Rattle.std.specs.Option.{option_map}
use Rattle.std.specs.List.{list_all}
use Rattle.std.proofs.lemmas.Bool.{and_parts, and_from}
use Rattle.std.proofs.lemmas.List.{map-append, take_all}
use Rattle.std.proofs.lemmas.List.Folds.{list_all-append}
use Rattle.mir_syntax.specs.declared.body.Stmt.{Stmt}
use Rattle.mir_syntax.specs.Tree.{Tree}
use Rattle.mir_syntax.specs.Crate.{TypedStmt, stmt_of}
use Rattle.mir_syntax.specs.Ids.{stmt_below}
use Rattle.mir_semantics.specs.Step.{Here}
use Rattle.const_flow.specs.Facts.{Facts, after_stmt, after_all}
use Rattle.const_flow.specs.ConstAt.{Reached}
use Rattle.const_rewrite.specs.Folded.{folded_stmt, folded_stmts}
use Rattle.const_rewrite.specs.Points.{where_reached}
use Rattle.const_rewrite.proofs.equal.Fronts.{Front, front_long, front_item, front_set, front_none, front_all, take_more}

after_more : (h : Here) (ss : List TypedStmt) (s : TypedStmt) (fs : Facts) → after_all h (ss ++ s ∷ []) fs ≡ after_stmt h s (after_all h ss fs)
after_more h [] s fs = refl
after_more h (t ∷ ss) s fs = after_more h ss s (after_stmt h t fs)

stmts_more : (h : Here) (fs : Facts) (ss : List TypedStmt) (s : TypedStmt) → folded_stmts h fs (ss ++ s ∷ []) ≡ folded_stmts h fs ss ++ folded_stmt h (after_all h ss fs) s ∷ []
stmts_more h fs [] s = refl
stmts_more h fs (t ∷ ss) s = ap (λ xs. folded_stmt h fs t ∷ xs) (stmts_more h (after_stmt h t fs) ss s)

-- what is known after statements, of what is known before
abbrev pub passed : Here → List TypedStmt → Reached → Reached
passed h ss x = option_map (after_all h ss) x

passed_more : (h : Here) (ss : List TypedStmt) (s : TypedStmt) (x : Reached) → option_map (after_stmt h s) (passed h ss x) ≡ passed h (ss ++ s ∷ []) x
passed_more h ss s None = refl
passed_more h ss s (Some fs) = ap Some (sym (after_more h ss s fs))

reached_more : (h : Here) (ss : List TypedStmt) (s : TypedStmt) (x : Reached) → where_reached (folded_stmts h) x ss ++ where_reached (folded_stmt h) (passed h ss x) s ∷ [] ≡ where_reached (folded_stmts h) x (ss ++ s ∷ [])
reached_more h ss s None = refl
reached_more h ss s (Some fs) = sym (stmts_more h fs ss s)

list_all_end : {A : Type 0} (p : A → Bool) (xs : List A) (x : A) → list_all p (xs ++ x ∷ []) ≡ true → (list_all p xs ≡ true) × (p x ≡ true)
list_all_end p xs x h = (let (a, b) = and_parts (list_all p xs) (list_all p (x ∷ [])) (sym (list_all-append p xs (x ∷ [])) ∙ h) in (a, (and_parts (p x) true b).0))

list_all_more : {A : Type 0} (p : A → Bool) (xs : List A) (x : A) → list_all p xs ≡ true → p x ≡ true → list_all p (xs ++ x ∷ []) ≡ true
list_all_more p xs x h e = list_all-append p xs (x ∷ []) ∙ and_from (list_all p xs) (list_all p (x ∷ [])) h (and_from (p x) true e refl)

-- ids stay where one more item of a front keeps its own
pub ids_more : {A : Type 0} (below : ℕ → A → Bool) (old front : List A) (at : ℕ) (d v : A) → at < length old → ((n : ℕ) → IsTrue (list_all (below n) (take at old)) → IsTrue (list_all (below n) front))
    → ((n : ℕ) → IsTrue (below n (get_or old at d)) → IsTrue (below n v)) → (n : ℕ) → IsTrue (list_all (below n) (take (at + 1) old)) → IsTrue (list_all (below n) (front ++ v ∷ []))
ids_more below old front at d v l done more n h =
    let both = list_all_end (below n) (take at old) (get_or old at d) (ap (list_all (below n)) (sym (take_more old at d l)) ∙ h) in
    list_all_more (below n) front v (done n both.0) (more n both.1)

-- the first statements are folded, and this is known after them
pub record Going (trees : List Tree) (h : Here) (was now : Reached) (old items front : List Stmt) (at : ℕ) : Type 0 where
  pub here : Front old items front at
  pub done : map (stmt_of trees) front ≡ where_reached (folded_stmts h) was (map (stmt_of trees) (take at old))
  pub facts : now ≡ passed h (map (stmt_of trees) (take at old)) was
  pub ids : (n : ℕ) → IsTrue (list_all (stmt_below n) (take at old)) → IsTrue (list_all (stmt_below n) front)

pub going_none : (trees : List Tree) (h : Here) (was : Reached) (old items : List Stmt) → items ≡ old → Going trees h was was old items [] 0
going_none trees h None old items e = record { here = front_none old items e; done = refl; facts = refl; ids = λ n e. refl }
going_none trees h (Some fs) old items e = record { here = front_none old items e; done = refl; facts = refl; ids = λ n e. refl }

pub going_more : (trees : List Tree) (h : Here) (was now now2 : Reached) (old items front : List Stmt) (at : ℕ) (d v : Stmt) → at < length old → Going trees h was now old items front at
    → stmt_of trees v ≡ where_reached (folded_stmt h) now (stmt_of trees (get_or items at d)) → now2 ≡ option_map (after_stmt h (stmt_of trees (get_or items at d))) now
    → ((n : ℕ) → IsTrue (stmt_below n (get_or items at d)) → IsTrue (stmt_below n v)) → Going trees h was now2 old (set items at v) (front ++ v ∷ []) (at + 1)
going_more trees h was now now2 old items front at d v l g is facts ids = record {
  here = front_set old items front at v l g.here;
  done =
      map-append (stmt_of trees) front (v ∷ [])
      ∙ ap₂ (λ xs y. xs ++ y ∷ []) g.done (is ∙ ap₂ (λ x s. where_reached (folded_stmt h) x (stmt_of trees s)) g.facts item)
      ∙ reached_more h (map (stmt_of trees) (take at old)) (stmt_of trees (get_or old at d)) was
      ∙ ap (where_reached (folded_stmts h) was) taken;
  facts =
      facts ∙ ap₂ (λ x s. option_map (after_stmt h (stmt_of trees s)) x) g.facts item
      ∙ passed_more h (map (stmt_of trees) (take at old)) (stmt_of trees (get_or old at d)) was
      ∙ ap (λ ss. passed h ss was) taken;
  ids = ids_more stmt_below old front at d v l g.ids (λ n e. ids n (ap (stmt_below n) item ∙ e));
}
  where
    item : get_or items at d ≡ get_or old at d
    item = front_item old items front at d l g.here

    taken : map (stmt_of trees) (take at old) ++ stmt_of trees (get_or old at d) ∷ [] ≡ map (stmt_of trees) (take (at + 1) old)
    taken = sym (map-append (stmt_of trees) (take at old) (get_or old at d ∷ [])) ∙ ap (map (stmt_of trees)) (sym (take_more old at d l))

pub all_folded : (trees : List Tree) (h : Here) (was now : Reached) (old items front : List Stmt) (at : ℕ) → length items ≤ at → Going trees h was now old items front at
    → (map (stmt_of trees) items ≡ where_reached (folded_stmts h) was (map (stmt_of trees) old)) × (now ≡ passed h (map (stmt_of trees) old) was) × ((n : ℕ) → IsTrue (list_all (stmt_below n) old) → IsTrue (list_all (stmt_below n) items))
all_folded trees h was now old items front at m g = (
  ap (map (stmt_of trees)) all ∙ g.done ∙ ap (λ ss. where_reached (folded_stmts h) was (map (stmt_of trees) ss)) whole,
  g.facts ∙ ap (λ ss. passed h (map (stmt_of trees) ss) was) whole,
  λ n e. ap (list_all (stmt_below n)) all ∙ g.ids n (ap (list_all (stmt_below n)) whole ∙ e),
)
  where
    all : items ≡ front
    all = front_all old items front at m g.here

    whole : take at old ≡ old
    whole = take_all at old (let long = front_long old items front at g.here in omega arith)
