-- What statements and terminators do to the bit of a unit, put together.
use Rattle.std.proofs.Common.{◌≡◌, refl, sym, ap, ◌∙◌, ℕ, ◌+◌, ◌<◌, Bool, true, false, not, ◌||◌, if◌then◌else◌, List, [], ◌∷◌, ◌++◌, map, take, length, get_or, Option, Some, None, arith}
use Rattle.std.proofs.lemmas.List.{take_more}
use Rattle.std.proofs.lemmas.List.{map-append}
use Rattle.mir_syntax.specs.declared.body.Operand.{Operand}
use Rattle.mir_syntax.specs.declared.body.Operand.TheVariants.{Copy, Move, Const}
use Rattle.mir_syntax.specs.declared.body.Place.{Place}
use Rattle.mir_syntax.specs.declared.body.Stmt.{Stmt}
use Rattle.mir_syntax.specs.Tree.{Tree}
use Rattle.mir_syntax.specs.Crate.{TypedStmt, stmt_of}
use Rattle.move_paths.specs.Effects.{in_local, is_under, moved_by_operand, moved_by, ended_if, begun_or_ended, effect}
use Rattle.move_paths.specs.Rows.{has, passed, passed_stmts, written, each_unit}
use Rattle.move_paths.proofs.Each.{Doing, Does, does_then, does_as}

-- the bits of units that are moved are cleared of the status
abbrev pub moves : Bool → List Operand → Doing
moves status os u before = if moved_by os u then not status else before

-- a status that isn't followed is had no longer, and one that is, is
pub has_true : (status : Bool) → has status true ≡ status
has_true true = refl
has_true false = refl

pub has_false : (status : Bool) → has status false ≡ not status
has_false true = refl
has_false false = refl

or_last : (a b : Bool) (off before : Bool) → (if b then off else (if a then off else before)) ≡ (if a || b then off else before)
or_last true true off before = refl
or_last true false off before = refl
or_last false true off before = refl
or_last false false off before = refl

moved_append : (os : List Operand) (o : Operand) (u : Place) → moved_by (os ++ o ∷ []) u ≡ (moved_by os u || moved_by_operand o u)
moved_append [] o u = right (moved_by_operand o u)
  where
    right : (a : Bool) → (a || false) ≡ a
    right true = refl
    right false = refl
moved_append (p ∷ os) o u = ap (λ b. moved_by_operand p u || b) (moved_append os o u) ∙ assoc (moved_by_operand p u)
  where
    assoc : (a : Bool) → (a || (moved_by os u || moved_by_operand o u)) ≡ ((a || moved_by os u) || moved_by_operand o u)
    assoc true = refl
    assoc false = refl

-- one operand
pub moves_one : (status : Bool) (o : Operand) (u : Place) (before : Bool) → (if moved_by_operand o u then not status else before) ≡ moves status (o ∷ []) u before
moves_one status o u before = go (moved_by_operand o u)
  where
    go : (a : Bool) → (if a then not status else before) ≡ (if a || false then not status else before)
    go true = refl
    go false = refl

-- one operand more
pub moves_more : (status : Bool) (os : List Operand) (i : ℕ) (d : Operand) → i < length os → (u : Place) (before : Bool) → (if moved_by_operand (get_or os i d) u then not status else moves status (take i os) u before) ≡ moves status (take (i + 1) os) u before
moves_more status os i d l u before =
    or_last (moved_by (take i os) u) (moved_by_operand (get_or os i d) u) (not status) before
    ∙ ap (λ c. if c then not status else before) (sym (moved_append (take i os) (get_or os i d) u) ∙ ap (λ xs. moved_by xs u) (sym (take_more os i d l)))

-- operands, and then more of them
pub moves_then : (status : Bool) (o : Operand) (os : List Operand) (u : Place) (before : Bool) → moves status os u (if moved_by_operand o u then not status else before) ≡ moves status (o ∷ os) u before
moves_then status o os u before = go (moved_by_operand o u) (moved_by os u)
  where
    go : (a b : Bool) → (if b then not status else (if a then not status else before)) ≡ (if a || b then not status else before)
    go a b = or_last a b (not status) before

-- what is written after the moves
pub moves_written : (status : Bool) (p : Place) (os : List Operand) (u : Place) (before : Bool) → written p status u (moves status os u before) ≡ passed status (begun_or_ended (is_under p u) (moved_by os u)) before
moves_written status p os u before = go (is_under p u) (moved_by os u)
  where
    go : (a b : Bool) → (if a then status else (if b then not status else before)) ≡ passed status (begun_or_ended a b) before
    go true b = sym (has_true status)
    go false true = sym (has_false status)
    go false false = refl

-- moves alone
pub moves_passed : (status : Bool) (os : List Operand) (u : Place) (before : Bool) → moves status os u before ≡ passed status (begun_or_ended false (moved_by os u)) before
moves_passed status os u before = go (moved_by os u)
  where
    go : (b : Bool) → (if b then not status else before) ≡ passed status (begun_or_ended false b) before
    go true = sym (has_false status)
    go false = refl

-- a unit's storage begins or ends, or it is dropped
pub ended_passed : (status c : Bool) (before : Bool) → (if c then not status else before) ≡ passed status (ended_if c) before
ended_passed status true before = sym (has_false status)
ended_passed status false before = refl

-- ---- statements

passed_append : (status : Bool) (ss : List TypedStmt) (s : TypedStmt) (u : Place) (before : Bool) → passed_stmts status (ss ++ s ∷ []) u before ≡ passed status (effect u s) (passed_stmts status ss u before)
passed_append status [] s u before = refl
passed_append status (t ∷ ss) s u before = passed_append status ss s u (passed status (effect u t) before)

pub passed_more : (status : Bool) (trees : List Tree) (ss : List Stmt) (i : ℕ) (d : Stmt) → i < length ss → (u : Place) (before : Bool) → passed status (effect u (stmt_of trees (get_or ss i d))) (passed_stmts status (map (stmt_of trees) (take i ss)) u before) ≡ passed_stmts status (map (stmt_of trees) (take (i + 1) ss)) u before
passed_more status trees ss i d l u before =
    sym (passed_append status (map (stmt_of trees) (take i ss)) (stmt_of trees (get_or ss i d)) u before)
    ∙ ap (λ xs. passed_stmts status xs u before) (sym (map-append (stmt_of trees) (take i ss) (get_or ss i d ∷ [])) ∙ ap (map (stmt_of trees)) (sym (take_more ss i d l)))

-- ---- operands

abbrev pub moves_operand : Bool → Operand → Doing
moves_operand status o u before = if moved_by_operand o u then not status else before

pub not_moved : (status : Bool) (o : Operand) → ((p : Place) → o ≡ Move p → ⊥) → (u : Place) (before : Bool) → before ≡ moves_operand status o u before
not_moved status (Move p) h u before = absurd (h p refl)
not_moved status (Copy p) h u before = refl
not_moved status (Const k) h u before = refl

pub moves_two : (status : Bool) (a b : Operand) (u : Place) (before : Bool) → moves_operand status b u (moves_operand status a u before) ≡ moves status (a ∷ b ∷ []) u before
moves_two status a b u before = moves_one status b u (moves_operand status a u before) ∙ moves_then status a (b ∷ []) u before
