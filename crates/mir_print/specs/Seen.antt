-- A program as its crate, and a function with another body.
-- `crate_in` is a word for `crate_of` that is not computed; no public promise rests on it.
use Rattle.mir_syntax.specs.declared.program.Program.{Program}
use Rattle.mir_syntax.specs.Crate.{TypedBody, TypedFunction, Crate, crate_of}

unfoldable pub crate_in : Program → Crate
crate_in p = crate_of p

-- the function with a body in place of its own
abbrev pub with_body : TypedFunction → TypedBody → TypedFunction
with_body f b = record { path = f.path; inlining = f.inlining; is_drop = f.is_drop; body = b }
