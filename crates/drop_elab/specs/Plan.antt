-- What stands for a drop: a plan, in the order in which it is run, and the code that a plan is laid out as. The plan is that of the
-- rustc-dev-guide on drop elaboration; the order of the new locals and blocks is this project's own.
use Rattle.std.specs.Prelude.{ℕ, zero, suc, ◌+◌, Bool, true, false, if◌then◌else◌, List, [], ◌∷◌, ◌++◌, length, Option, Some, None, slice_get}
use Rattle.mir_syntax.specs.declared.body.Proj.{Proj}
use Rattle.mir_syntax.specs.declared.body.Proj.TheVariants.{Field, Downcast}
use Rattle.mir_syntax.specs.declared.body.Place.{Place}
use Rattle.mir_syntax.specs.declared.body.Const.TheVariants as constant
use Rattle.mir_syntax.specs.declared.body.Operand.TheVariants as operand
use Rattle.mir_syntax.specs.declared.body.Callee.TheVariants as callee
use Rattle.mir_syntax.specs.declared.body.Arm.{Arm}
use Rattle.mir_syntax.specs.declared.body.Term.{Term}
use Rattle.mir_syntax.specs.declared.body.Term.TheVariants.{Goto, Switch, Call}
use Rattle.mir_syntax.specs.Tree.{Tree, empty, more, ref_mut, named}
use Rattle.mir_syntax.specs.Crate.{«use», discriminant, TypedStmt, assign, TypedBlock}
use Rattle.mir_syntax.specs.Crate as rvalue
use Rattle.mir_syntax.specs.Shapes.{Shape, struct_fields, needs_drop}
use Rattle.mir_rules.specs.Typing.{isize_ty}

-- A plan is `done`, or its first piece with what comes after it:
-- `destroy p t g`: the destructor g is called with `&mut` of the place p, which has the type t;
-- `choose p arms`: the arm of the variant that is active at p, if there is one. `arm k q` is that of the variant k, and `done` ends them;
-- `guarded x q`: q where the flag x is true; `clear x`: the flag x becomes false.
pub data Plan : Type 0 where
  done : Plan
  destroy : Place → Tree → ℕ → Plan → Plan
  choose : Place → Plan → Plan → Plan
  arm : ℕ → Plan → Plan → Plan
  guarded : ℕ → Plan → Plan → Plan
  clear : ℕ → Plan → Plan

-- ---- the glue of a place

abbrev pub part : Place → Proj → Place
part p q = record p { proj = p.proj ++ q ∷ [] }

-- of the parts of a tuple from a number on, in order, or of a definition, given that of each definition
abbrev pub glue_from : (ℕ → Place → Plan → Plan) → Place → ℕ → Tree → Plan → Plan
glue_from of_def p i (more t ts) rest = glue_from of_def (part p (Field i)) 0 t (glue_from of_def p (suc i) ts rest)
glue_from of_def p i (named d) rest = of_def d p rest
glue_from of_def p i _ rest = rest

-- an arm for each variant that needs drop, the first variant having this number
abbrev pub arms_of : List Shape → (ℕ → Place → Plan → Plan) → Place → ℕ → List Tree → Plan
arms_of D of_def p k [] = done
arms_of D of_def p k (t ∷ ts) = if needs_drop D t then arm k (glue_from of_def (part p (Downcast k)) 0 t done) (arms_of D of_def p (suc k) ts) else arms_of D of_def p (suc k) ts

abbrev pub chosen : Place → Plan → Plan → Plan
chosen p done rest = rest
chosen p arms rest = choose p arms rest

-- of what is inside a definition
abbrev pub glue_inside : List Shape → (ℕ → Place → Plan → Plan) → Shape → Place → Plan → Plan
glue_inside D of_def s p rest = if s.is_enum then chosen p (arms_of D of_def p 0 s.variants) rest else glue_from of_def p 0 (struct_fields s) rest

-- first the destructor, then what is inside
abbrev pub glue_shape : List Shape → (ℕ → Place → Plan → Plan) → ℕ → Shape → Option ℕ → Place → Plan → Plan
glue_shape D of_def d s None p rest = glue_inside D of_def s p rest
glue_shape D of_def d s (Some g) p rest = destroy p (named d) g (glue_inside D of_def s p rest)

abbrev pub glue_of : List Shape → (ℕ → Place → Plan → Plan) → ℕ → Bool → Option Shape → Place → Plan → Plan
glue_of D of_def d true (Some s) p rest = glue_shape D of_def d s s.destructor p rest
glue_of D of_def d _ _ p rest = rest

abbrev pub glue_def : List Shape → ℕ → ℕ → Place → Plan → Plan
glue_def D zero d p rest = rest
glue_def D (suc n) d p rest = glue_of D (glue_def D n) d (needs_drop D (named d)) (slice_get D d) p rest

-- the glue of a place of a type, and then the rest
unfoldable pub glue : List Shape → Place → Tree → Plan → Plan
glue D p t rest = glue_from (glue_def D (length D)) p 0 t rest

-- ---- plans as code

abbrev pub local_place : ℕ → Place
local_place x = record { local = x; proj = [] }

abbrev pub set_flag : ℕ → Bool → TypedStmt
set_flag x b = assign (local_place x) («use» (operand.Const (constant.Bool b)))

-- what a plan adds to the block at whose end it is laid out, the new locals and the new blocks; of arms, `heads` are their first blocks
pub record Laid : Type 0 where
  pub stmts : List TypedStmt
  pub term : Term
  pub locals : List Tree
  pub blocks : List TypedBlock
  pub heads : List TypedBlock

abbrev pub code : Laid → TypedBlock
code k = record { stmts = k.stmts; term = k.term }

abbrev pub arms_from : ℕ → Plan → List Arm
arms_from b (arm k q rest) = record { value = k; block = b } ∷ arms_from (suc b) rest
arms_from b _ = []

-- new locals are numbered from l on and new blocks from b on; at its end the plan goes to the block s
abbrev pub lay : Plan → ℕ → ℕ → ℕ → Laid
lay done l b s = record { stmts = []; term = Goto s; locals = []; blocks = []; heads = [] }
lay (clear x p) l b s =
    let r = lay p l b s in
    record { stmts = set_flag x false ∷ r.stmts; term = r.term; locals = r.locals; blocks = r.blocks; heads = [] }
lay (destroy q t g p) l b s =
    let r = lay p (suc (suc l)) (suc b) s in
    record {
      stmts = assign (local_place l) (rvalue.ref_mut q) ∷ [];
      term = Call (local_place (suc l)) (callee.Local (record { 0 = g })) (operand.Move (local_place l) ∷ []) b;
      locals = ref_mut t ∷ (empty ∷ r.locals);
      blocks = code r ∷ r.blocks;
      heads = [];
    }
lay (guarded x q p) l b s =
    let g = lay q l (suc (suc b)) (suc b) in
    let r = lay p (l + length g.locals) (suc (suc b) + length g.blocks) s in
    record {
      stmts = [];
      term = Switch (operand.Copy (local_place x)) (record { value = 0; block = suc b } ∷ []) b;
      locals = g.locals ++ r.locals;
      blocks = code g ∷ (code r ∷ (g.blocks ++ r.blocks));
      heads = [];
    }
lay (choose q arms p) l b s =
    let join = b + length (arms_from b arms) in
    let a = lay arms (suc l) (suc join) join in
    let r = lay p (suc l + length a.locals) (suc join + length a.blocks) s in
    record {
      stmts = assign (local_place l) (discriminant q) ∷ [];
      term = Switch (operand.Move (local_place l)) (arms_from b arms) join;
      locals = isize_ty ∷ (a.locals ++ r.locals);
      blocks = a.heads ++ (code r ∷ (a.blocks ++ r.blocks));
      heads = [];
    }
lay (arm k q rest) l b s =
    let g = lay q l b s in
    let r = lay rest (l + length g.locals) (b + length g.blocks) s in
    record { stmts = []; term = Goto s; locals = g.locals ++ r.locals; blocks = g.blocks ++ r.blocks; heads = code g ∷ r.heads }
