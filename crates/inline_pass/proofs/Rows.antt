-- Bodies in which calls are replaced, computed.
use Rattle.std.proofs.Common.{◌≡◌, refl, ℕ, zero, suc, List, [], ◌∷◌, ◌++◌, Option, Some, None, length, true, false}
use Rattle.mir_syntax.specs.declared.types.IntTy.TheVariants.{U32}
use Rattle.mir_syntax.specs.declared.body.BinOp.TheVariants.{Add, Mul}
use Rattle.mir_syntax.specs.declared.body.Operand.{Operand}
use Rattle.mir_syntax.specs.declared.body.Proj.TheVariants.{Field, Deref}
use Rattle.mir_syntax.specs.declared.body.Term.TheVariants.{Goto, Switch, Return, Call, Drop}
use Rattle.mir_syntax.specs.Tree.{Tree, empty, ref_mut, named}
use Rattle.mir_syntax.specs.Crate.{TypedStmt, TypedBlock, TypedBody, «use», binary, assign, Crate}
use Rattle.mir_syntax.specs.Crate as rvalue
use Rattle.mir_semantics.specs.Values.{number, nil}
use Rattle.mir_semantics.specs.Step.{Code, code_of, returned}
use Rattle.mir_semantics.specs.Run.{ended, Entry, run}
use Rattle.mir_semantics.proofs.Opened.{Opened}
use Rattle.mir_semantics.proofs.Sample.{int, place, part_of, lit, copy, move, arm, to_function, to_outside, block, body, function, destructor, field, struct, outside}
use Rattle.mir_syntax.specs.declared.body.Inline.TheVariants as inline
use Rattle.call_graph.specs.Cost.{cost}
use Rattle.inline_pass.specs.Takes.{takes}
use Rattle.inline_pass.specs.Spliced.{spliced, rounds}

abbrev give : ℕ → Operand → TypedStmt
give x o = assign (place x) («use» o)

-- ---- two functions that call each other

abbrev a : TypedBody
a = body 1 (int U32 ∷ int U32 ∷ []) (block [] (Call (place 0) (to_function 1) (copy (place 1) ∷ []) 1) ∷ block [] Return ∷ [])

abbrev b : TypedBody
b = body 1 (int U32 ∷ int U32 ∷ int U32 ∷ [])
    (block (assign (place 2) (binary Add (copy (place 1)) (lit U32 1)) ∷ []) (Call (place 0) (to_function 0) (copy (place 2) ∷ []) 1) ∷ block [] Return ∷ [])

-- of function 1 alone
abbrev only : TypedBody → ℕ → Option TypedBody
only h (suc zero) = Some h
only h _ = None

a_has_b : spliced (only b) a
    ≡ body 1 (int U32 ∷ int U32 ∷ int U32 ∷ int U32 ∷ int U32 ∷ [])
    (block (give 3 (copy (place 1)) ∷ []) (Goto 2)
    ∷ block [] Return
    ∷ block (assign (place 4) (binary Add (copy (place 3)) (lit U32 1)) ∷ []) (Call (place 2) (to_function 0) (copy (place 4) ∷ []) 3)
    ∷ block (give 0 (move (place 2)) ∷ []) (Goto 1) ∷ [])
unfolding Opened spliced
a_has_b = refl

-- a function that calls itself isn't inlined into itself
abbrev itself : TypedBody
itself = body 1 (int U32 ∷ int U32 ∷ []) (block [] (Call (place 0) (to_function 0) (copy (place 1) ∷ []) 1) ∷ block [] Return ∷ [])

a_call_of_itself_stays : spliced (only b) itself ≡ itself
unfolding Opened spliced
a_call_of_itself_stays = refl

-- ---- one block

abbrev m : TypedBody
m = body 1 (int U32 ∷ int U32 ∷ []) (block (assign (place 0) (binary Mul (copy (place 1)) (lit U32 2)) ∷ []) Return ∷ [])

z_has_m : spliced (only m) a
    ≡ body 1 (int U32 ∷ int U32 ∷ int U32 ∷ int U32 ∷ [])
    (block (give 3 (copy (place 1)) ∷ []) (Goto 2)
    ∷ block [] Return
    ∷ block (assign (place 2) (binary Mul (copy (place 3)) (lit U32 2)) ∷ give 0 (move (place 2)) ∷ []) (Goto 1) ∷ [])
unfolding Opened spliced
z_has_m = refl

-- ---- a destination behind a reference that the callee changes

abbrev u32_ref : Tree
u32_ref = ref_mut (int U32)

abbrev behind : ℕ → Operand
behind x = copy (part_of x (Deref ∷ []))

abbrev g_body : TypedBody
g_body = body 2 (int U32 ∷ ref_mut u32_ref ∷ u32_ref ∷ []) (block (assign (part_of 1 (Deref ∷ [])) («use» (copy (place 2))) ∷ give 0 (lit U32 9) ∷ []) Return ∷ [])

abbrev before : List TypedStmt
before = give 1 (lit U32 1) ∷ give 2 (lit U32 2) ∷ assign (place 3) (rvalue.ref_mut (place 1)) ∷ assign (place 4) (rvalue.ref_mut (place 3)) ∷ assign (place 5) (rvalue.ref_mut (place 2)) ∷ []

abbrev f_body : TypedBody
f_body = body 0 (int U32 ∷ int U32 ∷ int U32 ∷ u32_ref ∷ ref_mut u32_ref ∷ u32_ref ∷ [])
    (block before (Call (part_of 3 (Deref ∷ [])) (to_function 1) (copy (place 4) ∷ copy (place 5) ∷ []) 1) ∷ block (give 0 (copy (place 1)) ∷ []) Return ∷ [])

abbrev f_spliced : TypedBody
f_spliced = body 0 (int U32 ∷ int U32 ∷ int U32 ∷ u32_ref ∷ ref_mut u32_ref ∷ u32_ref ∷ int U32 ∷ ref_mut u32_ref ∷ u32_ref ∷ u32_ref ∷ [])
    (block (before ++ (assign (place 9) (rvalue.ref_mut (part_of 3 (Deref ∷ []))) ∷ give 7 (copy (place 4)) ∷ give 8 (copy (place 5)) ∷ [])) (Goto 2)
    ∷ block (give 0 (copy (place 1)) ∷ []) Return
    ∷ block (assign (part_of 7 (Deref ∷ [])) («use» (copy (place 8))) ∷ give 6 (lit U32 9) ∷ assign (part_of 9 (Deref ∷ [])) («use» (move (place 6))) ∷ []) (Goto 1) ∷ [])

f_keeps_its_destination : spliced (only g_body) f_body ≡ f_spliced
unfolding Opened spliced
f_keeps_its_destination = refl

abbrev with_f : TypedBody → Code
with_f f = code_of (record { defs = []; outsides = []; functions = function f ∷ function g_body ∷ [] })

abbrev entry : Entry
entry = record { function = 0; args = [] }

source_returns : run (with_f f_body) entry [] 20 ≡ ended [] (returned (number 9))
unfolding Opened spliced
source_returns = refl

target_returns : run (with_f f_spliced) entry [] 20 ≡ ended [] (returned (number 9))
unfolding Opened spliced
target_returns = refl

-- ---- calls of inlined bodies, to the third depth

abbrev b3 : TypedBody
b3 = body 1 (int U32 ∷ int U32 ∷ int U32 ∷ int U32 ∷ [])
    (block (assign (place 2) (binary Mul (copy (place 1)) (lit U32 3)) ∷ assign (place 3) (binary Add (copy (place 2)) (lit U32 1)) ∷ []) (Call (place 0) (to_function 1) (copy (place 3) ∷ []) 1) ∷ block [] Return ∷ [])

abbrev c3 : TypedBody
c3 = body 1 (int U32 ∷ int U32 ∷ int U32 ∷ [])
    (block (assign (place 2) (binary Add (copy (place 1)) (lit U32 1)) ∷ []) (Call (place 0) (to_function 1) (copy (place 2) ∷ []) 1) ∷ block [] Return ∷ [])

abbrev a3 : TypedBody
a3 = body 1 (int U32 ∷ int U32 ∷ []) (block [] (Call (place 0) (to_function 2) (copy (place 1) ∷ []) 1) ∷ block [] Return ∷ [])

abbrev both : ℕ → Option TypedBody
both (suc zero) = Some b3
both (suc (suc zero)) = Some c3
both _ = None

three_deep : spliced both a3
    ≡ body 1 (int U32 ∷ int U32 ∷ int U32 ∷ int U32 ∷ int U32 ∷ int U32 ∷ int U32 ∷ int U32 ∷ int U32 ∷ int U32 ∷ int U32 ∷ int U32 ∷ int U32 ∷ [])
    (block (give 3 (copy (place 1)) ∷ []) (Goto 2)
    ∷ block [] Return
    ∷ block (assign (place 4) (binary Add (copy (place 3)) (lit U32 1)) ∷ give 6 (copy (place 4)) ∷ []) (Goto 4)
    ∷ block (give 0 (move (place 2)) ∷ []) (Goto 1)
    ∷ block (assign (place 7) (binary Mul (copy (place 6)) (lit U32 3)) ∷ assign (place 8) (binary Add (copy (place 7)) (lit U32 1)) ∷ give 10 (copy (place 8)) ∷ []) (Goto 6)
    ∷ block (give 2 (move (place 5)) ∷ []) (Goto 3)
    ∷ block (assign (place 11) (binary Mul (copy (place 10)) (lit U32 3)) ∷ assign (place 12) (binary Add (copy (place 11)) (lit U32 1)) ∷ []) (Call (place 9) (to_function 1) (copy (place 12) ∷ []) 7)
    ∷ block (give 5 (move (place 9)) ∷ []) (Goto 5) ∷ [])
unfolding Opened spliced
three_deep = refl

-- one round leaves the calls that inlined bodies bring along
one_deep : rounds both 1 0 a3
    ≡ body 1 (int U32 ∷ int U32 ∷ int U32 ∷ int U32 ∷ int U32 ∷ [])
    (block (give 3 (copy (place 1)) ∷ []) (Goto 2)
    ∷ block [] Return
    ∷ block (assign (place 4) (binary Add (copy (place 3)) (lit U32 1)) ∷ []) (Call (place 2) (to_function 1) (copy (place 4) ∷ []) 3)
    ∷ block (give 0 (move (place 2)) ∷ []) (Goto 1) ∷ [])
unfolding Opened spliced
one_deep = refl

-- a destination that is resolved after the callee is another one
abbrev f_late : TypedBody
f_late = body 0 f_spliced.locals
    (block (before ++ (give 7 (copy (place 4)) ∷ give 8 (copy (place 5)) ∷ [])) (Goto 2)
    ∷ block (give 0 (copy (place 1)) ∷ []) Return
    ∷ block (assign (part_of 7 (Deref ∷ [])) («use» (copy (place 8))) ∷ give 6 (lit U32 9) ∷ assign (part_of 3 (Deref ∷ [])) («use» (move (place 6))) ∷ []) (Goto 1) ∷ [])

late_is_wrong : run (with_f f_late) entry [] 20 ≡ ended [] (returned (number 1))
unfolding Opened spliced
late_is_wrong = refl

-- ---- a callee that drops: what an earlier call left in its locals would be dropped in the caller's frame

abbrev leaving : TypedBody
leaving = body 1 (empty ∷ int U32 ∷ named 0 ∷ [])
    (block [] (Switch (copy (place 1)) (arm 0 2 ∷ []) 1)
    ∷ block (assign (place 2) (rvalue.build 0 0 (lit U32 1 ∷ [])) ∷ []) (Goto 3)
    ∷ block [] (Drop (place 2) 3)
    ∷ block [] Return ∷ [])

-- calls it with 1, and by the same call with 0
abbrev twice : TypedBody
twice = body 0 (empty ∷ int U32 ∷ [])
    (block (give 1 (lit U32 1) ∷ []) (Goto 1)
    ∷ block [] (Call (place 0) (to_function 1) (copy (place 1) ∷ []) 2)
    ∷ block [] (Switch (copy (place 1)) (arm 0 3 ∷ []) 4)
    ∷ block [] Return
    ∷ block (give 1 (lit U32 0) ∷ []) (Goto 1) ∷ [])

abbrev noting : TypedBody
noting = body 1 (empty ∷ ref_mut (named 0) ∷ []) (block [] (Call (place 0) (to_outside 0) (copy (part_of 1 (Deref ∷ Field 0 ∷ [])) ∷ []) 1) ∷ block [] Return ∷ [])

abbrev dropping : TypedBody → Code
dropping f = code_of (record { defs = struct (field (int U32) ∷ []) ∷ []; outsides = outside (int U32 ∷ []) empty ∷ []; functions = function f ∷ function leaving ∷ destructor noting ∷ [] })

source_drops_nothing : run (dropping twice) entry [] 40 ≡ ended [] (returned nil)
unfolding Opened spliced
source_drops_nothing = refl

target_drops : run (dropping (spliced (only leaving) twice)) entry [] 40 ≡ ended (record { outside = 0; args = 1 ∷ []; answer = None } ∷ []) (returned nil)
unfolding Opened spliced
target_drops = refl

-- ---- limits, and which bodies are taken

abbrev many : ℕ → List Tree
many zero = []
many (suc n) = int U32 ∷ many n

abbrev wide : ℕ → TypedBody
wide n = body 1 (many n) (block (give 0 (lit U32 1) ∷ []) Return ∷ [])

-- with two locals of the caller these would be 2,001
a_call_with_too_many_locals_stays : spliced (only (wide 1999)) a ≡ a
unfolding Opened spliced
a_call_with_too_many_locals_stays = refl

a_call_with_as_many_locals_as_may_be_goes : length (spliced (only (wide 1998)) a).locals ≡ 2000
unfolding Opened spliced
a_call_with_as_many_locals_as_may_be_goes = refl

small_bodies_are_taken : takes true inline.Plain false m ≡ true
unfolding cost
small_bodies_are_taken = refl

-- its call costs more than 25 and less than 50
a_large_caller_takes_less : takes true inline.Plain false b ≡ false
unfolding cost
a_large_caller_takes_less = refl

a_small_caller_takes_it : takes false inline.Plain false b ≡ true
unfolding cost
a_small_caller_takes_it = refl

never_is_not_taken : takes false inline.Never true m ≡ false
never_is_not_taken = refl
