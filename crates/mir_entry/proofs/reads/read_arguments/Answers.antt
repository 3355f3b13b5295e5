use Rattle.std.proofs.Common.{◌≡◌, ◌∙◌, refl, sym, ap, suc, [], ◌∷◌, take, length, Some, None, arith}
use Rattle.std.proofs.lemmas.List.{append-nil}
use Rattle.mir_syntax.specs.Tree.{at_ids, trees_of}
use Rattle.mir_meaning.specs.Programs.{shapes_in, type_in}
use Rattle.mir_meaning.specs.Views.{value_of, fields_of}
use Rattle.mir_entry.specs.Readings.{Reading, read_by, read_def, integers_of}
use Rattle.mir_entry.proofs.Finding.{found_there, on_behind}
use Rattle.mir_entry.proofs.Variants.{ids_pushed, ids_stopped, ids_done, ids_read, ids_whole, reading_in}
use Rattle.mir_entry.proofs.reads.read_arguments.Goals as goal

pub arguments-preserved : goal.arguments-preserved
arguments-preserved c =
    let p = c.args.program.now in
    let count : length c.arguments.types.now ≡ suc (length c.in-Some.others.now) = ap length c.in-Some.ensures in
    let found : ◌≡◌ {A = Reading} (Some (value_of c.in-Some-2.value, integers_of c.in-Some-2.rest.now)) (read_by (read_def (shapes_in p) c.len.result) (type_in p c.in-Some.ty) (integers_of c.arguments.numbers.now)) = rw c.in-Some-2.is at c.in_ok-value.ensures in
    record {
      place = omega (arith, count, c.arguments.invariant.place);
      left = on_behind c.args.types.now c.arguments.types.now c.in-Some.others.now c.arguments.place c.in-Some.ty c.arguments.invariant.left c.in-Some.ensures;
      same = λ tail.
          ids_pushed (read_def (shapes_in p) (length p.defs)) (trees_of p.types) (c.in-Some.ty ∷ tail) tail c.in-Some.ty c.arguments.values c.push.new.self c.in-Some-2.value (integers_of c.arguments.numbers.now) (integers_of c.in-Some-2.rest.now)
          refl (found ∙ ap (λ n. read_by (read_def (shapes_in p) n) (type_in p c.in-Some.ty) (integers_of c.arguments.numbers.now)) c.len.ensures) c.in_ok-push-in-Some-2.ensures.ok
          ∙ c.arguments.invariant.same (c.in-Some.ty ∷ tail)
          ∙ ap (λ ids. read_by (read_def (shapes_in p) (length p.defs)) (at_ids (trees_of p.types) ids) (integers_of c.args.numbers.now))
          (ids_read c.args.types.now c.arguments.types.now c.in-Some.others.now tail c.arguments.place c.in-Some.ty c.arguments.invariant.left c.in-Some.ensures);
    }

pub returns-in-None-clause-read : goal.returns-in-None-clause-read
returns-in-None-clause-read c =
    let p = c.args.program.now in
    let none : ◌≡◌ {A = Reading} None (read_by (read_def (shapes_in p) c.len.result) (type_in p c.in-Some.ty) (integers_of c.arguments.numbers.now)) = rw c.in-None.is at c.in_ok-value.ensures in
    reading_in p (at_ids (trees_of p.types) c.args.types.now) (length p.defs) (integers_of c.args.numbers.now) None refl
    (ids_stopped (read_def (shapes_in p) (length p.defs)) (trees_of p.types) c.arguments.types.now c.in-Some.others.now c.in-Some.ty c.arguments.values (integers_of c.arguments.numbers.now) _ c.in-Some.ensures
    (none ∙ ap (λ n. read_by (read_def (shapes_in p) n) (type_in p c.in-Some.ty) (integers_of c.arguments.numbers.now)) c.len.ensures)
    (c.arguments.invariant.same c.arguments.types.now)
    ∙ ap (λ ids. read_by (read_def (shapes_in p) (length p.defs)) (at_ids (trees_of p.types) ids) (integers_of c.args.numbers.now)) (ids_whole c.args.types.now c.arguments.types.now c.arguments.place c.arguments.invariant.left))

pub returns-in-None-clause-stops : goal.returns-in-None-clause-stops
returns-in-None-clause-stops c =
    let p = c.args.program.now in
    let none : ◌≡◌ {A = Reading} None (read_by (read_def (shapes_in p) c.len.result) (type_in p c.in-Some.ty) (integers_of c.arguments.numbers.now)) = rw c.in-None.is at c.in_ok-value.ensures in
    record {
      next = c.in-Some.ty;
      values = c.arguments.values;
      rest = integers_of c.arguments.numbers.now;
      there = found_there c.args.types.now c.arguments.types.now c.in-Some.others.now c.arguments.place c.in-Some.ty c.arguments.invariant.left c.in-Some.ensures;
      before =
          sym (reading_in p (at_ids (trees_of p.types) (take c.arguments.place c.args.types.now)) (length p.defs) (integers_of c.args.numbers.now) (Some (fields_of c.arguments.values, integers_of c.arguments.numbers.now)) refl
          (ids_done (read_def (shapes_in p) (length p.defs)) (trees_of p.types) [] c.arguments.values (integers_of c.arguments.numbers.now) _ refl (c.arguments.invariant.same [])
          ∙ ap (λ ids. read_by (read_def (shapes_in p) (length p.defs)) (at_ids (trees_of p.types) ids) (integers_of c.args.numbers.now)) (append-nil (take c.arguments.place c.args.types.now))));
      none = sym (reading_in p (type_in p c.in-Some.ty) c.len.result (integers_of c.arguments.numbers.now) None c.len.ensures none);
    }

pub returns-clause-read : goal.returns-clause-read
returns-clause-read c =
    let p = c.args.program.now in
    reading_in p (at_ids (trees_of p.types) c.args.types.now) (length p.defs) (integers_of c.args.numbers.now) (Some (fields_of c.arguments.values, integers_of c.arguments.numbers.now)) refl
    (ids_done (read_def (shapes_in p) (length p.defs)) (trees_of p.types) c.arguments.types.now c.arguments.values (integers_of c.arguments.numbers.now) _ c.in_default.ensures (c.arguments.invariant.same c.arguments.types.now)
    ∙ ap (λ ids. read_by (read_def (shapes_in p) (length p.defs)) (at_ids (trees_of p.types) ids) (integers_of c.args.numbers.now)) (ids_whole c.args.types.now c.arguments.types.now c.arguments.place c.arguments.invariant.left))
