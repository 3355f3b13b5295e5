-- For which calls a function's body is inlined: by its attribute, by what it costs, and by whether it is plain enough to be inlined more freely.
use Rattle.std.specs.Prelude.{◌≡◌, ℕ, Bool, true, false, nat_le, Option, Some, None, option_map, slice_get}
use Rattle.mir_syntax.specs.declared.body.Inline.{Inline}
use Rattle.mir_syntax.specs.declared.body.Inline.TheVariants as inline
use Rattle.mir_syntax.specs.declared.body.Body.{Body}
use Rattle.mir_syntax.specs.declared.program.Program.{Program}
use Rattle.mir_syntax.specs.declared.types.TyId.{TyId}
use Rattle.mir_syntax.specs.Tree.{ref_mut, at_id, trees_of, Stands}
use Rattle.mir_syntax.specs.Ids.{BodyInTable}
use Rattle.mir_syntax.specs.Crate.{TypedBody, Crate, crate_of, body_of}
use Rattle.mir_syntax.specs.Shapes.{◌>>=◌}
use Rattle.mir_rules.specs.Formed.{body_formed}
use Rattle.call_graph.specs.Cost.{cost}

-- what a callee may cost: less where the caller is large, more where the callee is taken freely
abbrev pub most_cost : Bool → Bool → ℕ
most_cost false true = 100
most_cost false false = 50
most_cost true true = 50
most_cost true false = 25

-- whether the body of a function with this attribute is inlined into a caller that is large or isn't
abbrev pub takes : Bool → Inline → Bool → TypedBody → Bool
takes large inline.Always qualifies h = true
takes large inline.Never qualifies h = false
takes large inline.Hint qualifies h = nat_le (cost h) (most_cost large true)
takes large inline.Plain qualifies h = nat_le (cost h) (most_cost large qualifies)

abbrev pub if_taken : Bool → TypedBody → Option TypedBody
if_taken true h = Some h
if_taken false h = None

-- of the bodies that are lent, those that are inlined
abbrev pub taken_of : Crate → Bool → (ℕ → Option TypedBody) → (ℕ → Bool) → ℕ → Option TypedBody
taken_of C large lent qualifies g = slice_get C.functions g >>= λ f. lent g >>= λ h. if_taken (takes large f.inlining (qualifies g) h) h

-- ---- of bodies as a program holds them

-- a body that may be inlined: it is formed, its ids lie in the table, and there is `&mut` of its result's type
pub record Inlinable (p : Program) (h : Body) : Type 0 where
  pub formed : body_formed (crate_of p) (body_of (trees_of p.types) h) ≡ true
  pub in_table : BodyInTable p.types h
  pub mutable : (id : TyId) → slice_get h.locals 0 ≡ Some id → (there : TyId) × Stands p.types there (ref_mut (at_id (trees_of p.types) id))

abbrev pub AllInlinable : Program → (ℕ → Option Body) → Type 0
AllInlinable p lent = (g : ℕ) (h : Body) → lent g ≡ Some h → Inlinable p h

abbrev pub taken_in : Program → Bool → (ℕ → Option Body) → (ℕ → Bool) → ℕ → Option TypedBody
taken_in p large lent qualifies = taken_of (crate_of p) large (λ g. option_map (body_of (trees_of p.types)) (lent g)) qualifies
