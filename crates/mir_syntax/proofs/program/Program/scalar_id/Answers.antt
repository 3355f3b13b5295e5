use Rattle.std.proofs.Common.{◌≡◌, ℕ, rules, slice_get, Some}
use Rattle.std.proofs.lemmas.Option.{slice_get_within}
use Rattle.mir_syntax.specs.declared.types.Ty.TheVariants.{Scalar}
use Rattle.mir_syntax.proofs.Trees.{at_id-node}
use Rattle.mir_syntax.proofs.KeptDrops.{scalar-there}
use Rattle.mir_syntax.proofs.program.Program.scalar_id.Goals as goal

pub returns-in-Some-clause-stands : goal.returns-in-Some-clause-stands
returns-in-Some-clause-stands c =
    let p = c.args.self.now in
    let found : slice_get p.types c.in-Some.at ≡ Some (Scalar c.args.ty) = search rules in
    at_id-node p.types (record { 0 = c.in-Some.at }) (Scalar c.args.ty) p.table found

pub returns-in-Some-clause-in_table : goal.returns-in-Some-clause-in_table
returns-in-Some-clause-in_table c =
    let p = c.args.self.now in
    let found : slice_get p.types c.in-Some.at ≡ Some (Scalar c.args.ty) = search rules in
    slice_get_within p.types c.in-Some.at (Scalar c.args.ty) found

pub returns-clause-stands : goal.returns-clause-stands
returns-clause-stands c =
    let p = c.args.self.now in
    let there = scalar-there p.types c.args.ty c.requires.0 p.table c.requires.1 in
    let absent : (k : ℕ) → slice_get p.types k ≡ Some (Scalar c.args.ty) → ⊥ = search rules in
    absurd (absent c.requires.0.0 there)

pub returns-clause-in_table : goal.returns-clause-in_table
returns-clause-in_table c =
    let p = c.args.self.now in
    let there = scalar-there p.types c.args.ty c.requires.0 p.table c.requires.1 in
    let absent : (k : ℕ) → slice_get p.types k ≡ Some (Scalar c.args.ty) → ⊥ = search rules in
    absurd (absent c.requires.0.0 there)
