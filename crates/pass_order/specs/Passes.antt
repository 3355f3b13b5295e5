-- The passes in their order, and what they make of a body and of a crate.
use Rattle.std.specs.Prelude.{List, [], ◌∷◌, map}
use Rattle.mir_syntax.specs.Crate.{TypedBody, Crate}
use Rattle.mir_syntax.specs.Shapes.{Shape, shapes_of}
use Rattle.mir_rules.specs.Valid.{with_body}
use Rattle.cfg_simplify.specs.Simple.{simple}
use Rattle.sroa_pass.specs.Split.{split}
use Rattle.const_rewrite.specs.Folded.{folded}
use Rattle.jump_threading.specs.Threaded.{threaded}
use Rattle.dest_prop.specs.Merged.{merged}
use Rattle.dead_store.specs.Pruned.{pruned}
use Rattle.trim_locals.specs.Trimmed.{trimmed}

-- a pass over one body, in a crate whose definitions have these shapes
abbrev pub BodyPass : Type 0
BodyPass = List Shape → TypedBody → TypedBody

-- tuples and structs that stay in the body are split, what is known is folded, jumps to a known switch are threaded, locals that are copied into one another are merged and what nobody reads goes, the
-- control flow being cleaned before, between and after; then locals that are left without use go
abbrev pub passes : List BodyPass
passes = (λ D. simple) ∷ split ∷ folded ∷ (λ D. simple) ∷ threaded ∷ (λ D. simple) ∷ merged ∷ pruned ∷ (λ D. simple) ∷ (λ D. trimmed) ∷ []

-- a body after some passes, one after another
abbrev pub after : List BodyPass → BodyPass
after [] D b = b
after (pass ∷ rest) D b = after rest D (pass D b)

unfoldable pub after_passes : BodyPass
after_passes D b = after passes D b

-- the crate with each of its bodies after a pass, and all else as it is
abbrev pub each_body : BodyPass → Crate → Crate
each_body pass C = record C { functions = map (λ g. with_body g (pass (shapes_of C) g.body)) C.functions }

unfoldable pub optimised : Crate → Crate
optimised C = each_body after_passes C
