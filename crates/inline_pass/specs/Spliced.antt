-- A body in which calls are replaced by the bodies of the functions that they call. This project's own, after rustc's inliner.
use Rattle.std.specs.Prelude.{ℕ, zero, suc, Bool, ◌+◌, ◌-◌, ◌&&◌, nat_le, if◌then◌else◌, List, [], ◌∷◌, ◌++◌, map, length, set, Option, Some, None, slice_get, sum_by}
use Rattle.std.specs.List.{range_with_len}
use Rattle.mir_syntax.specs.declared.body.Proj.TheVariants.{Deref}
use Rattle.mir_syntax.specs.declared.body.Place.{Place}
use Rattle.mir_syntax.specs.declared.body.Operand.{Operand}
use Rattle.mir_syntax.specs.declared.body.Operand.TheVariants as operand
use Rattle.mir_syntax.specs.declared.body.Callee.TheVariants as callee
use Rattle.mir_syntax.specs.declared.body.Term.{Term}
use Rattle.mir_syntax.specs.declared.body.Term.TheVariants as term
use Rattle.mir_syntax.specs.Tree.{Tree}
use Rattle.mir_syntax.specs.Tree as tree
use Rattle.mir_syntax.specs.Crate.{«use», ref_mut, TypedStmt, assign, TypedBlock, TypedBody}
use Rattle.mir_syntax.specs.Parts.{has_deref, retargeted}
use Rattle.trim_locals.specs.Trimmed.{renamed_stmt, renamed_term}

abbrev pub whole_local : ℕ → Place
whole_local x = record { local = x; proj = [] }

abbrev pub referent_of : ℕ → Place
referent_of x = record { local = x; proj = Deref ∷ [] }

-- ---- the callee's blocks, behind so many locals and blocks of the caller

-- the number of a local or block of the callee
abbrev pub after : ℕ → ℕ → ℕ
after n x = n + x

-- where the callee returns, the caller goes on at the block to which the call returns
abbrev pub term_after : ℕ → ℕ → ℕ → Term → Term
term_after locals blocks next term.Return = term.Goto next
term_after locals blocks next t = retargeted (after blocks) (renamed_term (after locals) t)

-- and the result goes to the call's destination
abbrev pub result_to : ℕ → Place → Term → List TypedStmt
result_to locals dest term.Return = assign dest («use» (operand.Move (whole_local locals))) ∷ []
result_to locals dest _ = []

abbrev pub block_after : ℕ → ℕ → Place → ℕ → TypedBlock → TypedBlock
block_after locals blocks dest next k =
    record { stmts = map (renamed_stmt (after locals)) k.stmts ++ result_to locals dest k.term; term = term_after locals blocks next k.term }

-- ---- the destination, which is resolved before the callee runs

-- where it goes through a reference, one more local keeps a reference to it: to a value of the callee's result type
abbrev pub first_mutable : List Tree → List Tree
first_mutable [] = []
first_mutable (t ∷ ts) = tree.ref_mut t ∷ []

abbrev pub kept_local : List Tree → Place → List Tree
kept_local callee_locals dest = if has_deref dest.proj then first_mutable callee_locals else []

abbrev pub kept : ℕ → Place → List TypedStmt
kept d dest = if has_deref dest.proj then assign (whole_local d) (ref_mut dest) ∷ [] else []

abbrev pub kept_dest : ℕ → Place → Place
kept_dest d dest = if has_deref dest.proj then referent_of d else dest

-- ---- the arguments, from a local on

abbrev pub handed : ℕ → List Operand → List TypedStmt
handed x [] = []
handed x (o ∷ os) = assign (whole_local x) («use» o) ∷ handed (suc x) os

-- ---- the body with one call less

-- the call that ends block i, with these statements before it, is replaced by the callee's body
abbrev pub with_call : TypedBody → ℕ → List TypedStmt → Place → List Operand → ℕ → TypedBody → TypedBody
with_call b i stmts dest args next callee =
    let locals = length b.locals in
    let blocks = length b.blocks in
    let d = locals + length callee.locals in
    record {
      args = b.args;
      locals = b.locals ++ (callee.locals ++ kept_local callee.locals dest);
      blocks = set b.blocks i (record { stmts = stmts ++ (kept d dest ++ handed (suc locals) args); term = term.Goto blocks }) ++ map (block_after locals blocks (kept_dest d dest) next) callee.blocks;
    }

-- ---- the limits

abbrev pub most_blocks : ℕ
most_blocks = 1000

abbrev pub most_locals : ℕ
most_locals = 2000

abbrev pub most_stmts : ℕ
most_stmts = 4000

abbrev pub stmts_in : TypedBlock → ℕ
stmts_in k = length k.stmts

abbrev pub fits : TypedBody → Bool
fits b = nat_le (length b.blocks) most_blocks && (nat_le (length b.locals) most_locals && nat_le (sum_by stmts_in b.blocks) most_stmts)

-- a call stays where the body without it would pass a limit
abbrev pub if_fits : TypedBody → TypedBody → TypedBody
if_fits b b' = if fits b' then b' else b

-- ---- all calls; of a function that is inlined here `taken` gives the body

abbrev pub with_taken : TypedBody → ℕ → List TypedStmt → Place → List Operand → ℕ → Option TypedBody → TypedBody
with_taken b i stmts dest args next None = b
with_taken b i stmts dest args next (Some callee) = if_fits b (with_call b i stmts dest args next callee)

abbrev pub with_term : (ℕ → Option TypedBody) → TypedBody → ℕ → List TypedStmt → Term → TypedBody
with_term taken b i stmts (term.Call dest (callee.Local g) args next) = with_taken b i stmts dest args next (taken g.0)
with_term taken b i stmts _ = b

abbrev pub with_block : (ℕ → Option TypedBody) → TypedBody → ℕ → Option TypedBlock → TypedBody
with_block taken b i None = b
with_block taken b i (Some k) = with_term taken b i k.stmts k.term

-- the call that ends the block is inlined, where there is one that is
abbrev pub inlined_at : (ℕ → Option TypedBody) → TypedBody → ℕ → TypedBody
inlined_at taken b i = with_block taken b i (slice_get b.blocks i)

-- these blocks, one after the other
abbrev pub inlined_in : (ℕ → Option TypedBody) → TypedBody → List ℕ → TypedBody
inlined_in taken b [] = b
inlined_in taken b (i ∷ is) = inlined_in taken (inlined_at taken b i) is

-- so many rounds: each takes the blocks from a number on, in order, and the blocks that it appends are those of the next round
abbrev pub rounds : (ℕ → Option TypedBody) → ℕ → ℕ → TypedBody → TypedBody
rounds taken zero from b = b
rounds taken (suc n) from b = rounds taken n (length b.blocks) (inlined_in taken b (range_with_len from (length b.blocks - from)))

abbrev pub most_depth : ℕ
most_depth = 3

-- calls of the body, of the bodies inlined for them and of those inlined for these
unfoldable pub spliced : (ℕ → Option TypedBody) → TypedBody → TypedBody
spliced taken b = rounds taken most_depth 0 b
