-- The bodies of a crate by the numbers of its functions, and a crate with other bodies.
use Rattle.std.specs.Prelude.{ℕ, suc, List, [], ◌∷◌, Option, Some, None, slice_get}
use Rattle.mir_syntax.specs.declared.body.Inline.{Inline}
use Rattle.mir_syntax.specs.declared.body.Inline.TheVariants.{Plain}
use Rattle.mir_syntax.specs.Crate.{TypedBody, TypedFunction, Crate}
use Rattle.mir_rules.specs.Valid.{with_body}

abbrev pub no_body : TypedBody
no_body = record { args = 0; locals = []; blocks = [] }

abbrev pub body_or_none : Option TypedFunction → TypedBody
body_or_none None = no_body
body_or_none (Some g) = g.body

abbrev pub body_at : Crate → ℕ → TypedBody
body_at C f = body_or_none (slice_get C.functions f)

abbrev pub inlining_or_plain : Option TypedFunction → Inline
inlining_or_plain None = Plain
inlining_or_plain (Some g) = g.inlining

abbrev pub inlining_at : Crate → ℕ → Inline
inlining_at C f = inlining_or_plain (slice_get C.functions f)

-- functions, the first of which has the number i, with these bodies
abbrev pub bodied : (ℕ → TypedBody) → ℕ → List TypedFunction → List TypedFunction
bodied bodies i [] = []
bodied bodies i (g ∷ gs) = with_body g (bodies i) ∷ bodied bodies (suc i) gs

-- all else stays as it is
unfoldable pub with_bodies : Crate → (ℕ → TypedBody) → Crate
with_bodies C bodies = record C { functions = bodied bodies 0 C.functions }
