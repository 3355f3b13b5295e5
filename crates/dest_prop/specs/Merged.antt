-- A body in which locals that are copied into one another, and are never written while another of them is live, share one local: as
-- rustc's DestinationPropagation makes it.
use Rattle.std.specs.Prelude.{ℕ, suc, min, Bool, true, false, not, nat_eq, nat_le, ◌&&◌, ◌||◌, if◌then◌else◌, List, [], ◌∷◌, map, length, Option, Some, slice_get}
use Rattle.std.specs.List.{filter, flat_map, list_all, list_any, range_with_len}
use Rattle.bit_rows.specs.Rows.{stands}
use Rattle.mir_syntax.specs.declared.body.Place.{Place}
use Rattle.mir_syntax.specs.declared.body.Operand.{Operand}
use Rattle.mir_syntax.specs.declared.body.Operand.TheVariants as operand
use Rattle.mir_syntax.specs.declared.body.Term.{Term}
use Rattle.mir_syntax.specs.declared.body.Term.TheVariants.{Goto, Switch, Return, Unreachable, Drop, Call, Assert}
use Rattle.mir_syntax.specs.Tree.{Tree}
use Rattle.mir_syntax.specs.Crate.{TypedRvalue, «use», binary, overflow, unary, cast, discriminant, tuple, build, TypedStmt, assign, storage_live, storage_dead, set_discriminant, TypedBlock, TypedBody}
use Rattle.mir_syntax.specs.Crate as rvalue
use Rattle.mir_syntax.specs.Shapes.{Shape}
use Rattle.mir_syntax.specs.Parts.{has_deref, operand_places}
use Rattle.mir_rules.specs.Same.{same_tree}
use Rattle.escape_info.specs.Borrowed.{borrowed}
use Rattle.liveness.specs.Live.{whole}
use Rattle.liveness.specs.Decided.{is_live}

-- two locals
abbrev pub Pair : Type 0
Pair = ℕ × ℕ

-- ---- candidates: copies and moves of whole locals into whole locals

abbrev pub pairs : List ℕ → List ℕ → List Pair
pairs (x ∷ xs) (y ∷ ys) = (x, y) ∷ []
pairs _ _ = []

abbrev pub used_whole : TypedRvalue → List ℕ
used_whole («use» o) = flat_map whole (operand_places o)
used_whole _ = []

-- the whole of the second is copied or moved into the whole of the first
abbrev pub copies : TypedStmt → List Pair
copies (assign p r) = pairs (whole p) (used_whole r)
copies _ = []

abbrev pub one_type : Option Tree → Option Tree → Bool
one_type (Some t) (Some u) = same_tree t u
one_type _ _ = false

-- both are of one type, and neither is borrowed
abbrev pub may_share : List Shape → TypedBody → Pair → Bool
may_share D b c = one_type (slice_get b.locals c.0) (slice_get b.locals c.1) && (not (borrowed D b c.0) && not (borrowed D b c.1))

-- in the order of their statements
abbrev pub candidates : List Shape → TypedBody → List Pair
candidates D b = filter (may_share D b) (flat_map (λ (k : TypedBlock). flat_map copies k.stmts) b.blocks)

-- ---- conflicts

-- the local that is written, or a part of it
abbrev pub written : Place → List ℕ
written p = if has_deref p.proj then [] else p.local ∷ []

-- a storage statement is no write
abbrev pub stmt_writes : TypedStmt → List ℕ
stmt_writes (assign p r) = written p
stmt_writes (set_discriminant p k) = written p
stmt_writes (storage_live x) = []
stmt_writes (storage_dead x) = []

abbrev pub is_copy : TypedStmt → ℕ → ℕ → Bool
is_copy s x y = list_any (λ c. nat_eq c.0 x && nat_eq c.1 y) (copies s)

-- whether it holds of an item of a list, and of the item's number
abbrev pub any_from : {A : Type 0} → (ℕ → A → Bool) → ℕ → List A → Bool
any_from test n [] = false
any_from test n (x ∷ xs) = test n x || any_from test (suc n) xs

-- a statement writes x while y is live after it, and doesn't copy y into x
abbrev pub stmt_hurts : List Shape → TypedBody → ℕ → ℕ → ℕ → ℕ → TypedStmt → Bool
stmt_hurts D b x y i n s = stands x (stmt_writes s) && (is_live D b i (suc n) y && not (is_copy s x y))

-- a call's result is written to x while y is live where the call returns
abbrev pub term_hurts : List Shape → TypedBody → ℕ → ℕ → Term → Bool
term_hurts D b x y (Call p g os next) = stands x (written p) && is_live D b next 0 y
term_hurts D b x y _ = false

abbrev pub block_hurts : List Shape → TypedBody → ℕ → ℕ → ℕ → TypedBlock → Bool
block_hurts D b x y i k = any_from (stmt_hurts D b x y i) 0 k.stmts || term_hurts D b x y k.term

abbrev pub is_argument : TypedBody → ℕ → Bool
is_argument b x = nat_le 1 x && nat_le x b.args

-- x is written while y is live, or is an argument while y is live at the start
abbrev pub hurts : List Shape → TypedBody → ℕ → ℕ → Bool
hurts D b x y = any_from (block_hurts D b x y) 0 b.blocks || (is_argument b x && is_live D b 0 0 y)

unfoldable pub conflict : List Shape → TypedBody → ℕ → ℕ → Bool
conflict D b x y = hurts D b x y || hurts D b y x

-- ---- groups: each local has a home, and those with one home are a group

-- the locals that have the home of this one
abbrev pub members : TypedBody → (ℕ → ℕ) → ℕ → List ℕ
members b home x = filter (λ y. nat_eq (home y) (home x)) (range_with_len 0 (length b.locals))

-- `_0` and the arguments keep their places
abbrev pub is_fixed : TypedBody → ℕ → Bool
is_fixed b x = nat_le x b.args

abbrev pub agree : List Shape → TypedBody → ℕ → ℕ → Bool
agree D b x y = not (conflict D b x y) && not (is_fixed b x && is_fixed b y)

-- each member of the one group agrees with each of the other
abbrev pub may_join : List Shape → TypedBody → (ℕ → ℕ) → Pair → Bool
may_join D b home c = list_all (λ x. list_all (agree D b x) (members b home c.1)) (members b home c.0)

-- the home of a group is its least member: the fixed one, where there is one
abbrev pub joined : (ℕ → ℕ) → Pair → ℕ → ℕ
joined home c x = if nat_eq (home x) (home c.0) || nat_eq (home x) (home c.1) then min (home c.0) (home c.1) else home x

-- the groups of one candidate after another join where they may
abbrev pub homes_after : List Shape → TypedBody → (ℕ → ℕ) → List Pair → ℕ → ℕ
homes_after D b home [] = home
homes_after D b home (c ∷ cs) = homes_after D b (if may_join D b home c then joined home c else home) cs

-- at first each local is alone
unfoldable pub home_of : List Shape → TypedBody → ℕ → ℕ
home_of D b = homes_after D b (λ x. x) (candidates D b)

-- another local has the same home
unfoldable pub is_shared : TypedBody → (ℕ → ℕ) → ℕ → Bool
is_shared b home x = list_any (λ y. not (nat_eq y x)) (members b home x)

-- ---- the body: each place goes to its local's home; what is moved out of a shared one is copied

abbrev pub place_home : (ℕ → ℕ) → Place → Place
place_home home p = record { local = home p.local; proj = p.proj }

abbrev pub operand_home : (ℕ → Bool) → (ℕ → ℕ) → Operand → Operand
operand_home shared home (operand.Copy p) = operand.Copy (place_home home p)
operand_home shared home (operand.Move p) = if shared p.local then operand.Copy (place_home home p) else operand.Move (place_home home p)
operand_home shared home (operand.Const c) = operand.Const c

abbrev pub rvalue_home : (ℕ → Bool) → (ℕ → ℕ) → TypedRvalue → TypedRvalue
rvalue_home shared home («use» o) = «use» (operand_home shared home o)
rvalue_home shared home (binary op a c) = binary op (operand_home shared home a) (operand_home shared home c)
rvalue_home shared home (overflow op a c) = overflow op (operand_home shared home a) (operand_home shared home c)
rvalue_home shared home (unary op a) = unary op (operand_home shared home a)
rvalue_home shared home (cast a t) = cast (operand_home shared home a) t
rvalue_home shared home (rvalue.ref p) = rvalue.ref (place_home home p)
rvalue_home shared home (rvalue.ref_mut p) = rvalue.ref_mut (place_home home p)
rvalue_home shared home (discriminant p) = discriminant (place_home home p)
rvalue_home shared home (tuple os) = tuple (map (operand_home shared home) os)
rvalue_home shared home (build d k os) = build d k (map (operand_home shared home) os)

abbrev pub stmt_home : (ℕ → Bool) → (ℕ → ℕ) → TypedStmt → TypedStmt
stmt_home shared home (assign p r) = assign (place_home home p) (rvalue_home shared home r)
stmt_home shared home (storage_live x) = storage_live (home x)
stmt_home shared home (storage_dead x) = storage_dead (home x)
stmt_home shared home (set_discriminant p k) = set_discriminant (place_home home p) k

abbrev pub term_home : (ℕ → Bool) → (ℕ → ℕ) → Term → Term
term_home shared home (Goto next) = Goto next
term_home shared home (Switch o arms other) = Switch (operand_home shared home o) arms other
term_home shared home Return = Return
term_home shared home Unreachable = Unreachable
term_home shared home (Drop p next) = Drop (place_home home p) next
term_home shared home (Call p g os next) = Call (place_home home p) g (map (operand_home shared home) os) next
term_home shared home (Assert o e text os next) = Assert (operand_home shared home o) e text (map (operand_home shared home) os) next

-- a storage statement of a shared local goes, and so does a copy of one to its own home
abbrev pub stays : (ℕ → Bool) → (ℕ → ℕ) → TypedStmt → Bool
stays shared home (assign p r) = not (list_any (λ c. shared c.0 && nat_eq (home c.0) (home c.1)) (copies (assign p r)))
stays shared home (storage_live x) = not (shared x)
stays shared home (storage_dead x) = not (shared x)
stays shared home (set_discriminant p k) = true

abbrev pub block_home : (ℕ → Bool) → (ℕ → ℕ) → TypedBlock → TypedBlock
block_home shared home k = record { stmts = map (stmt_home shared home) (filter (stays shared home) k.stmts); term = term_home shared home k.term }

abbrev pub merged_by : (ℕ → Bool) → (ℕ → ℕ) → TypedBody → TypedBody
merged_by shared home b = record b { blocks = map (block_home shared home) b.blocks }

unfoldable pub merged : List Shape → TypedBody → TypedBody
merged D b = merged_by (is_shared b (home_of D b)) (home_of D b) b
