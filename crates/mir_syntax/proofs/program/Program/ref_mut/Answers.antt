use Rattle.std.proofs.Common.{◌≡◌, ℕ, rules, slice_get, Some}
use Rattle.mir_syntax.specs.declared.types.Ty.TheVariants.{RefMut}
use Rattle.mir_syntax.proofs.Trees.{at_id-node}
use Rattle.mir_syntax.proofs.KeptDrops.{ref_mut-there}
use Rattle.mir_syntax.proofs.program.Program.ref_mut.Goals as goal
use Rattle.std.proofs.lemmas.Option.{slice_get_within}

pub returns-in-Some-clause-stands : goal.returns-in-Some-clause-stands
returns-in-Some-clause-stands c =
    let p = c.args.self.now in
    let found : slice_get p.types c.in-Some.at ≡ Some (RefMut c.args.id) = search rules in
    at_id-node p.types (record { 0 = c.in-Some.at }) (RefMut c.args.id) p.table found

pub returns-in-Some-clause-in_table : goal.returns-in-Some-clause-in_table
returns-in-Some-clause-in_table c =
    let p = c.args.self.now in
    let found : slice_get p.types c.in-Some.at ≡ Some (RefMut c.args.id) = search rules in
    slice_get_within p.types c.in-Some.at (RefMut c.args.id) found

pub returns-clause-stands : goal.returns-clause-stands
returns-clause-stands c =
    let p = c.args.self.now in
    let there = ref_mut-there p.types c.args.id c.requires.there.0 p.table c.requires.in_table c.requires.there.1 in
    let absent : (k : ℕ) → slice_get p.types k ≡ Some (RefMut c.args.id) → ⊥ = search rules in
    absurd (absent c.requires.there.0.0 there)
