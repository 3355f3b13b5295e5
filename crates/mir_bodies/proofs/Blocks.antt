-- Statements and blocks that are read one after another.
use Rattle.std.proofs.Common.{IsTrue, ◌≡◌, ℕ, ◌<◌, Bool, true, false, List, [], ◌∷◌, ◌++◌, map, length, Option, Some, None, refl, sym, ap, ap₂, ◌∙◌, append_assoc, append-nil, rules, arith}
use Rattle.std.proofs.lemmas.List.{map-append}
use Rattle.std.specs.List.{list_all}
use Rattle.mir_syntax.specs.declared.types.Ty.{Ty}
use Rattle.mir_syntax.specs.declared.body.Stmt.{Stmt}
use Rattle.mir_syntax.specs.Tree.{Tree, trees_of, Extends}
use Rattle.mir_syntax.specs.Crate.{TypedStmt, stmt_of}
use Rattle.mir_syntax.specs.Ids.{stmt_below}
use Rattle.mir_syntax.proofs.Trees.{length-trees_of}
use Rattle.mir_syntax.proofs.Growth.{map-same, all-weaker, stmt-front, stmt-more, length-extends, trees_of-extends}
use Rattle.mir_text.specs.GrammarStatements as r
use Rattle.mir_text.specs.GrammarStatements.{StmtRule}
use Rattle.mir_text.specs.Names.{Names}
use Rattle.mir_text.specs.NamedBodies.{Declared, or_else, stmt_named, stmts_named}
use Rattle.mir_text.specs.NameFaults.{Fault, each}
use Rattle.mir_text.specs.ReadLines.{stmt_line_in, line_if, first_of}
use Rattle.mir_text.proofs.Numbered.{or_else-none}
use Rattle.mir_tree.specs.declared.Lined.{Lined}
use Rattle.mir_tree.specs.declared.body.StmtText.{StmtText}
use Rattle.mir_tree.specs.Bodies.{lined, stmt_rule}
use Rattle.mir_resolve.specs.Faults.{noted}
use Rattle.mir_resolve.proofs.Noting.{noted-append}
use Rattle.mir_bodies.specs.Scope.{Sense}
use Rattle.mir_bodies.specs.Statements.{listed, stmts_in, first_kept, text_stmts, text_line}

-- statements mean the same in a larger table
pub stmts_kept : (old new : List Ty) (stmts : List Stmt) → Extends old new → IsTrue (list_all (stmt_below (length old)) stmts)
    → map (stmt_of (trees_of new)) stmts ≡ map (stmt_of (trees_of old)) stmts
stmts_kept old new stmts e h =
    let front = trees_of-extends old new e in
    let trees = trees_of old in
    let long : length old ≡ length trees = sym (length-trees_of old) in
    ap (λ all. map (stmt_of all) stmts) front.1
    ∙ map-same (stmt_below (length trees)) (stmt_of (trees ++ front.0)) (stmt_of trees) (stmt-front trees front.0) stmts (rw long at h)

pub stmts_inside : (old new : List Ty) (stmts : List Stmt) → Extends old new → IsTrue (list_all (stmt_below (length old)) stmts) → IsTrue (list_all (stmt_below (length new)) stmts)
stmts_inside old new stmts e h = all-weaker (stmt_below (length old)) (stmt_below (length new)) (stmt-more (length old) (length new) (length-extends old new e)) stmts h

pub all_joined : {X : Type 0} (test : X → Bool) (xs ys : List X) → IsTrue (list_all test xs) → IsTrue (list_all test ys) → IsTrue (list_all test (xs ++ ys))
all_joined test [] ys h k = k
all_joined test (x ∷ xs) ys h k =
    let both : IsTrue (test x) × IsTrue (list_all test xs) = search rules in
    let rest = all_joined test xs ys both.1 k in
    search rules

-- one statement more
pub stmts_step : (old new : List Ty) (stmts all : List Stmt) (part : Option Stmt) (here later whole : List TypedStmt) → Extends old new → IsTrue (list_all (stmt_below (length old)) stmts)
    → all ≡ stmts ++ listed part → map (stmt_of (trees_of old)) stmts ++ (here ++ later) ≡ whole → stmts_in (trees_of new) part ≡ here
    → map (stmt_of (trees_of new)) all ++ later ≡ whole
stmts_step old new stmts all part here later whole e h put told is =
    ap (λ l. map (stmt_of (trees_of new)) l ++ later) put
    ∙ ap (λ l. l ++ later) (map-append (stmt_of (trees_of new)) stmts (listed part) ∙ ap₂ (λ xs ys. xs ++ ys) (stmts_kept old new stmts e h) is)
    ∙ append_assoc (map (stmt_of (trees_of old)) stmts) here later
    ∙ told

line_of : (names : Names) (locals : Declared) (trees : List Tree) (part : Option Stmt) (line : ℕ) (rule : StmtRule) → stmts_in trees part ≡ stmt_named names locals rule
    → map (λ s. line) (listed part) ≡ stmt_line_in (line, rule)
line_of names locals trees None line r.nop h = refl
line_of names locals trees (Some s) line r.nop h = absurd cc
line_of names locals trees None line (r.assign q x) h = absurd cc
line_of names locals trees (Some s) line (r.assign q x) h = refl
line_of names locals trees None line (r.live x) h = absurd cc
line_of names locals trees (Some s) line (r.live x) h = refl
line_of names locals trees None line (r.dead x) h = absurd cc
line_of names locals trees (Some s) line (r.dead x) h = refl
line_of names locals trees None line (r.set q k) h = absurd cc
line_of names locals trees (Some s) line (r.set q k) h = refl

pub lines_step : (sense : Sense) (trees : List Tree) (lines all : List ℕ) (part : Option Stmt) (x : Lined StmtText) (later whole : List ℕ)
    → all ≡ lines ++ map (λ s. x.line) (listed part) → lines ++ (text_line x ++ later) ≡ whole → stmts_in trees part ≡ text_stmts sense x → all ++ later ≡ whole
lines_step sense trees lines all part x later whole put told is =
    ap (λ l. l ++ later) (put ∙ ap (λ l. lines ++ l) (line_of sense.names sense.locals trees part x.line (stmt_rule x.part) is))
    ∙ append_assoc lines (text_line x) later ∙ told

pub kept_step : (w : Option ℕ) (a b : Bool) (line : ℕ) (rest : List ℕ) → a ≡ b → or_else (first_kept w a line) (first_of rest) ≡ or_else w (first_of (line_if b line ++ rest))
kept_step (Some n) a b line rest h = refl
kept_step None a true line rest h = rw h refl
kept_step None a false line rest h = rw h refl

pub kept_last : (w : Option ℕ) (a b : Bool) (line : ℕ) (front : List ℕ) → w ≡ first_of front → a ≡ b → first_kept w a line ≡ first_of (front ++ line_if b line)
kept_last w a true line [] h e = rw (h, e) refl
kept_last w a false line [] h e = rw (h, e) refl
kept_last w a b line (n ∷ front) h e = rw h refl

pub faults_step : (old new whole : Option Fault) (here later : List Fault) → noted old (here ++ later) ≡ whole → new ≡ noted old here → noted new later ≡ whole
faults_step old new whole here later h is = ap (λ k. noted k later) is ∙ sym (noted-append old here later) ∙ h

-- where nothing is left
pub list_ended : {X Y : Type 0} (f : X → List Y) (left : List X) (made whole : List Y) → length left < 1 → made ++ each f left ≡ whole → made ≡ whole
list_ended f [] made whole short h = sym (append-nil made) ∙ h
list_ended f (x ∷ left) made whole short h = absurd (omega arith)

pub wrong_over : {X : Type 0} (f : X → List ℕ) (left : List X) (w whole : Option ℕ) → length left < 1 → or_else w (first_of (each f left)) ≡ whole → w ≡ whole
wrong_over f [] w whole short h = sym (or_else-none w) ∙ h
wrong_over f (x ∷ left) w whole short h = absurd (omega arith)

pub faults_over : {X : Type 0} (f : X → List Fault) (left : List X) (kept whole : Option Fault) → length left < 1 → noted kept (each f left) ≡ whole → kept ≡ whole
unfolding noted
faults_over f [] kept whole short h = h
faults_over f (x ∷ left) kept whole short h = absurd (omega arith)

-- the statements of a block
pub stmts_each : (sense : Sense) (texts : List (Lined StmtText)) → each (text_stmts sense) texts ≡ stmts_named sense.names sense.locals (map (λ s. s.1) (map (lined stmt_rule) texts))
stmts_each sense [] = refl
stmts_each sense (x ∷ texts) = ap (λ l. text_stmts sense x ++ l) (stmts_each sense texts)

pub each_mapped : {X Y B : Type 0} (f : Y → List B) (h : X → Y) (xs : List X) → each (λ x. f (h x)) xs ≡ each f (map h xs)
each_mapped f h [] = refl
each_mapped f h (x ∷ xs) = ap (λ l. f (h x) ++ l) (each_mapped f h xs)
