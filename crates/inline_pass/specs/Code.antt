-- What the code makes of a body, over bodies as the program holds them.
use Rattle.std.specs.Prelude.{◌≡◌, ℕ, zero, suc, ◌+◌, ◌-◌, ◌^◌, min, Bool, ◌&&◌, nat_le, sum_by, List, [], ◌∷◌, ◌++◌, map, length, if◌then◌else◌, Option, Some, None, slice_get}
use Rattle.mir_syntax.specs.declared.types.TyId.{TyId}
use Rattle.mir_syntax.specs.declared.body.Place.{Place}
use Rattle.mir_syntax.specs.declared.body.Operand.{Operand}
use Rattle.mir_syntax.specs.declared.body.Operand.TheVariants as operand
use Rattle.mir_syntax.specs.declared.body.Rvalue.TheVariants as rvalue
use Rattle.mir_syntax.specs.declared.body.Stmt.{Stmt}
use Rattle.mir_syntax.specs.declared.body.Stmt.TheVariants as stmt
use Rattle.mir_syntax.specs.declared.body.Callee.{Callee}
use Rattle.mir_syntax.specs.declared.body.Callee.TheVariants as callee
use Rattle.mir_syntax.specs.declared.body.Term.{Term}
use Rattle.mir_syntax.specs.declared.body.Term.TheVariants as term
use Rattle.mir_syntax.specs.declared.body.Block.{Block}
use Rattle.mir_syntax.specs.declared.body.Body.{Body}
use Rattle.mir_syntax.specs.Crate.{TypedBlock, TypedBody}
use Rattle.mir_syntax.specs.Parts.{has_deref, retargeted}
use Rattle.trim_locals.specs.Trimmed.{renamed_term}
use Rattle.trim_locals.specs.Code.{bare_renamed_stmt}
use Rattle.inline_pass.specs.declared.call.Call.{Call}
use Rattle.inline_pass.specs.Spliced.{whole_local, kept_dest, most_blocks, most_locals, most_stmts}

-- ---- copies of the callee's text

-- a number that is so much greater, as far as numbers go
abbrev pub shifted : ℕ → ℕ → ℕ
shifted n x = min (n + x) (2 ^ 32 - 1)

abbrev pub bare_term : ℕ → ℕ → ℕ → Term → Term
bare_term locals blocks next term.Return = term.Goto next
bare_term locals blocks next t = retargeted (shifted blocks) (renamed_term (shifted locals) t)

abbrev pub bare_result : ℕ → Place → Term → List Stmt
bare_result locals dest term.Return = stmt.Assign dest (rvalue.Use (operand.Move (whole_local locals))) ∷ []
bare_result locals dest _ = []

abbrev pub bare_block : ℕ → ℕ → Place → ℕ → Block → Block
bare_block locals blocks dest next k =
    record { stmts = map (bare_renamed_stmt (shifted locals)) k.stmts ++ bare_result locals dest k.term; term = bare_term locals blocks next k.term }

-- ---- the calling block

abbrev pub bare_kept : ℕ → Place → List Stmt
bare_kept d dest = if has_deref dest.proj then stmt.Assign (whole_local d) (rvalue.RefMut dest) ∷ [] else []

abbrev pub bare_handed : ℕ → List Operand → List Stmt
bare_handed x [] = []
bare_handed x (o ∷ os) = stmt.Assign (whole_local x) (rvalue.Use o) ∷ bare_handed (suc x) os

-- a local more, where the destination goes through a reference
abbrev pub kept_id : TyId → Place → List TyId
kept_id id dest = if has_deref dest.proj then id ∷ [] else []

-- the calling block, which ended in the call
abbrev pub bare_entered : ℕ → ℕ → ℕ → Call → Block → Block
bare_entered locals blocks d call k = record { stmts = k.stmts ++ (bare_kept d call.dest ++ bare_handed (suc locals) call.args); term = term.Goto blocks }

-- ---- one call

-- the block at a place is another one
abbrev pub set_by : (Block → Block) → List Block → ℕ → List Block
set_by f [] i = []
set_by f (k ∷ ks) zero = f k ∷ ks
set_by f (k ∷ ks) (suc i) = k ∷ set_by f ks i

abbrev pub bare_with_call : Body → ℕ → Call → Body → TyId → Body
bare_with_call b i call callee id =
    let locals = length b.locals in
    let blocks = length b.blocks in
    let d = locals + length callee.locals in
    record {
      args = b.args;
      locals = b.locals ++ (callee.locals ++ kept_id id call.dest);
      blocks = set_by (bare_entered locals blocks d call) b.blocks i ++ map (bare_block locals blocks (kept_dest d call.dest) call.next) callee.blocks;
    }

-- ---- which body is inlined for a terminator

abbrev pub taken_at : (ℕ → Option TypedBody) → Term → Option TypedBody
taken_at taken (term.Call dest (callee.Local g) args next) = taken g.0
taken_at taken _ = None

-- the terminator is this call, of some function
abbrev pub IsCall : Term → Call → Type 0
IsCall t call = (g : Callee) × (t ≡ term.Call call.dest g call.args call.next)

abbrev pub NoCall : Term → Type 0
NoCall t = (p : Place) (g : Callee) (os : List Operand) (next : ℕ) → t ≡ term.Call p g os next → ⊥

-- the block out of which the call at its end was taken
abbrev pub without_call : Block → Block
without_call k = record { stmts = k.stmts; term = term.Unreachable }

abbrev pub IsCallAt : List Block → ℕ → Call → Type 0
IsCallAt ks i call = (k : Block) × (slice_get ks i ≡ Some k) × IsCall k.term call

abbrev pub NoCallAt : List Block → ℕ → Type 0
NoCallAt ks i = (k : Block) → slice_get ks i ≡ Some k → NoCall k.term

-- ---- sizes, as far as the machine's numbers go

abbrev pub capped : ℕ → ℕ
capped n = min n (2 ^ 64 - 1)

-- how many statements come of a block of the callee
abbrev pub returns : Term → ℕ
returns term.Return = 1
returns _ = 0

abbrev pub copied_in : TypedBlock → ℕ
copied_in k = length k.stmts + returns k.term

abbrev pub kept_count : Place → ℕ
kept_count dest = if has_deref dest.proj then 1 else 0

-- how many statements and locals the caller gets besides, for the call that the terminator is
abbrev pub entering : Term → ℕ
entering (term.Call dest callee args next) = kept_count dest + length args
entering _ = 0

abbrev pub keeping : Term → ℕ
keeping (term.Call dest callee args next) = kept_count dest
keeping _ = 0

-- how many statements a body that has so many has without the call, and whether it fits then
abbrev pub bare_stmts : ℕ → Term → List TypedBlock → ℕ
bare_stmts stmts t copied = capped (stmts + capped (entering t) + capped (sum_by copied_in copied))

abbrev pub bare_fits : Body → Term → Body → ℕ → Bool
bare_fits b t h stmts = nat_le (capped (length b.blocks + length h.blocks)) most_blocks && (nat_le (capped (length b.locals + length h.locals + keeping t)) most_locals && nat_le stmts most_stmts)
