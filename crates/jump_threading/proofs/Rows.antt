-- Small bodies threaded, computed.
use Rattle.std.proofs.Common.{◌≡◌, refl, ℕ, zero, suc, Bool, true, false, List, [], ◌∷◌}
use Rattle.mir_syntax.specs.declared.types.IntTy.TheVariants.{I32}
use Rattle.mir_syntax.specs.declared.types.ScalarTy.TheVariants as scalar_ty
use Rattle.mir_syntax.specs.declared.body.Place.{Place}
use Rattle.mir_syntax.specs.declared.body.Const.TheVariants as constant
use Rattle.mir_syntax.specs.declared.body.Operand.{Operand}
use Rattle.mir_syntax.specs.declared.body.Operand.TheVariants.{Copy, Move, Const}
use Rattle.mir_syntax.specs.declared.body.Term.TheVariants.{Goto, Switch, Return}
use Rattle.mir_syntax.specs.Tree.{Tree, scalar, ref}
use Rattle.mir_syntax.specs.Crate.{«use», TypedStmt, assign, TypedBlock, TypedBody}
use Rattle.mir_syntax.specs.Crate as rvalue
use Rattle.mir_syntax.specs.Shapes.{◌>>=◌, place_ty}
use Rattle.mir_num.specs.Numbers.{flag}
use Rattle.mir_semantics.specs.Step.{type_of, operand_ty, scalar_ty_of}
use Rattle.const_flow.specs.Rounds.{round}
use Rattle.place_map.specs.Tracked.{way, beyond, scalars, tracked}
use Rattle.const_flow.specs.Facts.{look, learn, part_known, known, nth_known, value_known, moved, after_stmt, after_term, leads}
use Rattle.const_flow.specs.ConstAt.{sent, const_flow, const_at}
use Rattle.jump_threading.specs.Threaded.{taken, jump, thread_of, threads, threaded_by, threaded}

abbrev local : ℕ → Place
local x = record { local = x; proj = [] }

abbrev bool : Tree
bool = scalar scalar_ty.Bool

abbrev int : ℕ → Operand
int n = Const (constant.Int I32 n)

abbrev sets : ℕ → Operand → TypedStmt
sets x o = assign (local x) («use» o)

-- `_2` becomes this, and on to a block
abbrev says : Bool → ℕ → TypedBlock
says b u = record { stmts = sets 2 (Const (constant.Bool b)) ∷ []; term = Goto u }

-- statements before a jump
abbrev onward : List TypedStmt → ℕ → TypedBlock
onward ss u = record { stmts = ss; term = Goto u }

-- bb0 asks `_1`, bb1 and bb2 write the answer to `_2`, and bb3 asks that; so far as the two lead, and with these copies
abbrev asks : List Tree → List TypedStmt → List TypedStmt → ℕ → ℕ → List TypedBlock → TypedBody
asks more first before u v copies = record {
  args = 1;
  locals = scalar (scalar_ty.Int I32) ∷ bool ∷ bool ∷ more;
  blocks =
      record { stmts = first; term = Switch (Copy (local 1)) (record { value = 0; block = 2 } ∷ []) 1 } ∷ says true u ∷ says false v ∷
      record { stmts = before; term = Switch (Move (local 2)) (record { value = 0; block = 5 } ∷ []) 4 } ∷
      onward (sets 0 (int 10) ∷ []) 6 ∷ onward (sets 0 (int 20) ∷ []) 6 ∷
      record { stmts = []; term = Return } ∷ copies;
}

-- both edges are threaded
threads_both : threaded [] (asks [] [] [] 3 3 []) ≡ asks [] [] [] 7 8 (onward [] 4 ∷ onward [] 5 ∷ [])
unfolding threaded threaded_by threads thread_of jump taken const_at const_flow tracked scalars sent leads after_term after_stmt moved value_known nth_known known part_known learn look beyond way round scalar_ty_of operand_ty type_of place_ty ◌>>=◌ flag
threads_both = refl

-- nothing is known of a local that is borrowed
abbrev lends : List TypedStmt
lends = assign (local 3) (rvalue.ref (local 2)) ∷ []

leaves_borrowed : threaded [] (asks (ref bool ∷ []) lends [] 3 3 []) ≡ asks (ref bool ∷ []) lends [] 3 3 []
unfolding threaded threaded_by threads thread_of jump taken const_at const_flow tracked scalars sent leads after_term after_stmt moved value_known nth_known known part_known learn look beyond way round scalar_ty_of operand_ty type_of place_ty ◌>>=◌ flag
leaves_borrowed = refl

-- eight statements are copied, nine aren't
abbrev ones : ℕ → List TypedStmt
ones zero = []
ones (suc n) = sets 0 (int 1) ∷ ones n

copies_eight : threaded [] (asks [] [] (ones 8) 3 3 []) ≡ asks [] [] (ones 8) 7 8 (onward (ones 8) 4 ∷ onward (ones 8) 5 ∷ [])
unfolding threaded threaded_by threads thread_of jump taken const_at const_flow tracked scalars sent leads after_term after_stmt moved value_known nth_known known part_known learn look beyond way round scalar_ty_of operand_ty type_of place_ty ◌>>=◌ flag
copies_eight = refl

leaves_nine : threaded [] (asks [] [] (ones 9) 3 3 []) ≡ asks [] [] (ones 9) 3 3 []
unfolding threaded threaded_by threads thread_of jump taken const_at const_flow tracked scalars sent leads after_term after_stmt moved value_known nth_known known part_known learn look beyond way round scalar_ty_of operand_ty type_of place_ty ◌>>=◌ flag
leaves_nine = refl
