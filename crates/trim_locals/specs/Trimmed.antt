-- A body without the locals that stand in storage statements alone, or nowhere.
use Rattle.std.specs.Prelude.{ℕ, suc, Bool, true, false, if◌then◌else◌, List, [], ◌∷◌, ◌++◌, map, take, length, get_or}
use Rattle.std.specs.List.{filter, flat_map, count_by, range_with_len}
use Rattle.mir_syntax.specs.declared.body.Place.{Place}
use Rattle.mir_syntax.specs.declared.body.Operand.{Operand}
use Rattle.mir_syntax.specs.declared.body.Operand.TheVariants as operand
use Rattle.mir_syntax.specs.declared.body.Term.{Term}
use Rattle.mir_syntax.specs.declared.body.Term.TheVariants as term
use Rattle.mir_syntax.specs.Crate.{TypedRvalue, «use», binary, overflow, unary, cast, ref, ref_mut, discriminant, tuple, build, TypedStmt, assign, storage_live, storage_dead, set_discriminant, TypedBlock, TypedBody}
use Rattle.mir_syntax.specs.Parts.{rvalue_places, term_places}
use Rattle.bit_rows.specs.Rows.{stands}
use Rattle.liveness.specs.Live.{place_local}

-- ---- which locals are used

-- the locals of the places in a statement; a storage statement has none
abbrev pub stmt_uses : TypedStmt → List ℕ
stmt_uses (assign p r) = map place_local (rvalue_places r) ++ p.local ∷ []
stmt_uses (storage_live x) = []
stmt_uses (storage_dead x) = []
stmt_uses (set_discriminant p k) = p.local ∷ []

abbrev pub term_uses : Term → List ℕ
term_uses t = map place_local (term_places t)

abbrev pub block_uses : TypedBlock → List ℕ
block_uses k = flat_map stmt_uses k.stmts ++ term_uses k.term

-- `_0`, the arguments, and all that stand in a place
abbrev pub used_locals : TypedBody → List ℕ
used_locals b = range_with_len 0 (suc b.args) ++ flat_map block_uses b.blocks

-- of each local whether it is used
abbrev pub used_marks : TypedBody → List Bool
used_marks b = map (λ x. stands x (used_locals b)) (range_with_len 0 (length b.locals))

-- ---- renumbering

abbrev pub self : Bool → Bool
self m = m

-- the new number of a local: how many used ones stand before it
abbrev pub new_number : List Bool → ℕ → ℕ
new_number marks x = count_by self (take x marks)

-- of each local its new number
abbrev pub new_numbers : List Bool → List ℕ
new_numbers marks = map (new_number marks) (range_with_len 0 (length marks))

abbrev pub number_in : List ℕ → ℕ → ℕ
number_in numbers x = get_or numbers x 0

abbrev pub renamed_place : (ℕ → ℕ) → Place → Place
renamed_place f p = record { local = f p.local; proj = p.proj }

abbrev pub renamed_operand : (ℕ → ℕ) → Operand → Operand
renamed_operand f (operand.Copy p) = operand.Copy (renamed_place f p)
renamed_operand f (operand.Move p) = operand.Move (renamed_place f p)
renamed_operand f (operand.Const c) = operand.Const c

abbrev pub renamed_rvalue : (ℕ → ℕ) → TypedRvalue → TypedRvalue
renamed_rvalue f («use» a) = «use» (renamed_operand f a)
renamed_rvalue f (binary op a b) = binary op (renamed_operand f a) (renamed_operand f b)
renamed_rvalue f (overflow op a b) = overflow op (renamed_operand f a) (renamed_operand f b)
renamed_rvalue f (unary op a) = unary op (renamed_operand f a)
renamed_rvalue f (cast a ty) = cast (renamed_operand f a) ty
renamed_rvalue f (ref p) = ref (renamed_place f p)
renamed_rvalue f (ref_mut p) = ref_mut (renamed_place f p)
renamed_rvalue f (discriminant p) = discriminant (renamed_place f p)
renamed_rvalue f (tuple parts) = tuple (map (renamed_operand f) parts)
renamed_rvalue f (build d v parts) = build d v (map (renamed_operand f) parts)

abbrev pub renamed_stmt : (ℕ → ℕ) → TypedStmt → TypedStmt
renamed_stmt f (assign p r) = assign (renamed_place f p) (renamed_rvalue f r)
renamed_stmt f (storage_live x) = storage_live (f x)
renamed_stmt f (storage_dead x) = storage_dead (f x)
renamed_stmt f (set_discriminant p k) = set_discriminant (renamed_place f p) k

abbrev pub renamed_term : (ℕ → ℕ) → Term → Term
renamed_term f (term.Goto next) = term.Goto next
renamed_term f (term.Switch a arms other) = term.Switch (renamed_operand f a) arms other
renamed_term f term.Return = term.Return
renamed_term f term.Unreachable = term.Unreachable
renamed_term f (term.Drop p next) = term.Drop (renamed_place f p) next
renamed_term f (term.Call p callee args next) = term.Call (renamed_place f p) callee (map (renamed_operand f) args) next
renamed_term f (term.Assert a expected text args next) = term.Assert (renamed_operand f a) expected text (map (renamed_operand f) args) next

-- ---- what stays

-- the items that are marked
abbrev pub marked_items : {A : Type 0} → List Bool → List A → List A
marked_items [] xs = []
marked_items (m ∷ marks) [] = []
marked_items (m ∷ marks) (x ∷ xs) = if m then x ∷ marked_items marks xs else marked_items marks xs

-- a storage statement stays where its local is used
abbrev pub stays : List Bool → TypedStmt → Bool
stays marks (assign p r) = true
stays marks (storage_live x) = get_or marks x false
stays marks (storage_dead x) = get_or marks x false
stays marks (set_discriminant p k) = true

abbrev pub trimmed_block : List Bool → TypedBlock → TypedBlock
trimmed_block marks k =
    let f = number_in (new_numbers marks) in
    record { stmts = map (renamed_stmt f) (filter (stays marks) k.stmts); term = renamed_term f k.term }

abbrev pub trimmed : TypedBody → TypedBody
trimmed b = record { args = b.args; locals = marked_items (used_marks b) b.locals; blocks = map (trimmed_block (used_marks b)) b.blocks }
