-- Small crates, computed.
use Rattle.std.proofs.Common.{◌≡◌, refl, ℕ, zero, suc, true, false, List, [], ◌∷◌, map}
use Rattle.std.specs.Prelude.{Some, nat_lt}
use Rattle.mir_syntax.specs.declared.types.IntTy.TheVariants as int_ty
use Rattle.mir_syntax.specs.declared.types.ScalarTy.TheVariants as scalar_ty
use Rattle.mir_syntax.specs.declared.body.BinOp.TheVariants as binop
use Rattle.mir_syntax.specs.declared.body.Const.TheVariants as const
use Rattle.mir_syntax.specs.declared.body.Place.{Place}
use Rattle.mir_syntax.specs.declared.body.Operand.{Operand}
use Rattle.mir_syntax.specs.declared.body.Operand.TheVariants.{Copy, Move, Const}
use Rattle.mir_syntax.specs.declared.body.Callee.TheVariants.{Local}
use Rattle.mir_syntax.specs.declared.body.Term.{Term}
use Rattle.mir_syntax.specs.declared.body.Term.TheVariants as term
use Rattle.mir_syntax.specs.Tree.{Tree, scalar, empty, more, ref, ref_mut, named}
use Rattle.mir_syntax.specs.Crate.{TypedStmt, TypedBlock, TypedBody, assign, storage_live, binary, «use», build}
use Rattle.mir_syntax.specs.Shapes.{Shape, whole_path_ty, ◌>>=◌}
use Rattle.call_graph.specs.Callees.{callees, destructors_in}
use Rattle.call_graph.specs.Cost.{cost}
use Rattle.call_graph.specs.Qualif.{terms_qualify}
use Rattle.call_graph.specs.Graph.{Graph, bytes_below, next_known, reach, asks, above, weight}

u32 : Tree
u32 = scalar (scalar_ty.Int int_ty.U32)

local : ℕ → Place
local x = record { local = x; proj = [] }

block : List TypedStmt → Term → TypedBlock
block stmts t = record { stmts = stmts; term = t }

-- `_0 = f(copy _x)`, and on to bb1
calls : ℕ → ℕ → Term
calls f x = term.Call (local 0) (Local (record { 0 = f })) (Copy (local x) ∷ []) 1

number : ℕ → Operand
number n = Const (const.Int int_ty.U32 n)

two : TypedBlock → TypedBody
two b = record { args = 1; locals = u32 ∷ u32 ∷ u32 ∷ []; blocks = b ∷ block [] term.Return ∷ [] }

-- a function that does nothing but call another
passes_on : ℕ → TypedBody
passes_on f = two (block [] (calls f 1))

-- one that adds first
adds : ℕ → TypedBody
adds f = two (block (assign (local 2) (binary binop.Add (Copy (local 1)) (number 1)) ∷ []) (calls f 2))

term_of : TypedBlock → Term
term_of b = b.term

-- ---- a calls b, which calls a: a asks for b, and b asks for nothing

each : ℕ → TypedBody
each zero = passes_on 1
each _ = adds 0

each_graph : Graph
each_graph = record { functions = 2; callees = λ f. callees [] (each f); below = λ f g. nat_lt f g }

each_costs : (cost (each 0) ≡ 35) × (cost (each 1) ≡ 40) × (terms_qualify (map term_of (each 0).blocks) ≡ false)
unfolding cost each passes_on adds two block term_of calls
each_costs = (refl, refl, refl)

each_calls : (callees [] (each 0) ≡ 1 ∷ []) × (callees [] (each 1) ≡ 0 ∷ []) × (reach each_graph 0 ≡ 0 ∷ 1 ∷ []) × (reach each_graph 1 ≡ 1 ∷ 0 ∷ [])
unfolding each_graph callees each passes_on adds two block calls reach next_known
each_calls = (refl, refl, refl, refl)

each_asks : (asks each_graph 0 1 ≡ true) × (asks each_graph 1 0 ≡ false) × (asks each_graph 0 0 ≡ false) × (asks each_graph 1 1 ≡ false)
unfolding each_graph callees each passes_on adds two block calls reach next_known asks
each_asks = (refl, refl, refl, refl)

-- who is asked for has the lesser weight
each_weights : (weight each_graph 0 ≡ 7) × (weight each_graph 1 ≡ 6)
unfolding each_graph callees each passes_on adds two block calls reach next_known weight above
each_weights = (refl, refl)

-- ---- f calls itself: it asks for nothing

itself_graph : Graph
itself_graph = record { functions = 1; callees = λ f. callees [] (passes_on 0); below = λ f g. nat_lt f g }

itself_asks : (reach itself_graph 0 ≡ 0 ∷ []) × (asks itself_graph 0 0 ≡ false)
unfolding itself_graph callees passes_on two block calls reach next_known asks
itself_asks = (refl, refl)

-- ---- z calls m, which qualifies: z asks for it, though its path isn't below

m_body : TypedBody
m_body = record { args = 1; locals = u32 ∷ u32 ∷ []; blocks = block (assign (local 0) (binary binop.Mul (Copy (local 1)) (number 2)) ∷ []) term.Return ∷ [] }

m_and_z : ℕ → TypedBody
m_and_z zero = m_body
m_and_z _ = passes_on 0

z_graph : Graph
z_graph = record { functions = 2; callees = λ f. callees [] (m_and_z f); below = λ f g. nat_lt f g }

m_alone : (cost m_body ≡ 10) × (terms_qualify (map term_of m_body.blocks) ≡ true) × (callees [] m_body ≡ [])
unfolding cost callees m_body block term_of
m_alone = (refl, refl, refl)

z_asks : (reach z_graph 1 ≡ 1 ∷ 0 ∷ []) × (asks z_graph 1 0 ≡ true) × (asks z_graph 0 1 ≡ false)
unfolding z_graph callees m_and_z m_body passes_on two block calls reach next_known asks
z_asks = (refl, refl, refl)

-- ---- a calls c, b calls c, c calls b: through c the function a asks for b too

three : ℕ → TypedBody
three zero = passes_on 2
three (suc zero) = adds 2
three _ = adds 1

three_graph : Graph
three_graph = record { functions = 3; callees = λ f. callees [] (three f); below = λ f g. nat_lt f g }

three_asks : (asks three_graph 0 1 ≡ true) × (asks three_graph 0 2 ≡ true) × (asks three_graph 1 2 ≡ true) × (asks three_graph 2 1 ≡ false) × (asks three_graph 1 1 ≡ false)
unfolding three_graph callees three passes_on adds two block calls reach next_known asks
three_asks = (refl, refl, refl, refl, refl)

-- ---- a value with a destructor that is moved on one arm: whom it is handed to comes first, then its destructor; what is behind references
-- isn't dropped

with_destructor : List Shape
with_destructor =
    record { is_enum = false; variants = more u32 empty ∷ []; destructor = Some 0 }
    ∷ record { is_enum = true; variants = empty ∷ more (named 0) (more (ref_mut (named 0)) (more (named 0) empty)) ∷ []; destructor = Some 3 }
    ∷ []

moved : TypedBody
moved = record {
  args = 1;
  locals = empty ∷ scalar scalar_ty.Bool ∷ named 0 ∷ empty ∷ [];
  blocks =
      block (assign (local 2) (build 0 0 (number 7 ∷ [])) ∷ []) (term.Switch (Copy (local 1)) (record { value = 0; block = 2 } ∷ []) 1)
      ∷ block [] (term.Call (local 3) (Local (record { 0 = 1 })) (Move (local 2) ∷ []) 2)
      ∷ block [] (term.Drop (local 2) 3)
      ∷ block [] term.Return
      ∷ [];
}

moved_calls : (callees with_destructor moved ≡ 1 ∷ 0 ∷ []) × (terms_qualify (map term_of moved.blocks) ≡ false)
unfolding callees moved with_destructor block term_of whole_path_ty ◌>>=◌ destructors_in local u32
moved_calls = (refl, refl)

inside : destructors_in with_destructor (more (named 1) (more (ref (named 0)) empty)) ≡ 3 ∷ 0 ∷ 0 ∷ []
unfolding with_destructor destructors_in u32
inside = refl

-- ---- blocks that go round, also where no path leads to them

goes_round : (terms_qualify (term.Goto 0 ∷ []) ≡ false) × (terms_qualify (term.Return ∷ term.Goto 2 ∷ term.Goto 1 ∷ []) ≡ false) × (terms_qualify (term.Goto 2 ∷ term.Return ∷ term.Goto 1 ∷ []) ≡ true)
goes_round = (refl, refl, refl)

-- ---- storage costs nothing

storage : cost (record { args = 0; locals = empty ∷ u32 ∷ []; blocks = block (storage_live 1 ∷ assign (local 1) («use» (number 1)) ∷ []) term.Return ∷ [] }) ≡ 10
unfolding cost block
storage = refl

-- ---- paths: a byte that is less, or the beginning of the other

paths : (bytes_below (97 ∷ []) (98 ∷ []) ≡ true) × (bytes_below (97 ∷ []) (97 ∷ 58 ∷ []) ≡ true) × (bytes_below (97 ∷ 58 ∷ []) (97 ∷ []) ≡ false) × (bytes_below (97 ∷ []) (97 ∷ []) ≡ false)
paths = (refl, refl, refl, refl)
