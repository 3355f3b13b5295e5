use Rattle.std.proofs.Common.{ℕ, List, ap, ap₂, sym, refl, ◌∙◌, is_some}
use Rattle.mir_syntax.specs.declared.body.Proj.{Proj}
use Rattle.mir_syntax.specs.declared.body.Place.{Place}
use Rattle.std.specs.Option.{option_map}
use Rattle.mir_syntax.specs.Tree.{at_id, trees_of}
use Rattle.mir_text.specs.GrammarPlaces as gr
use Rattle.mir_text.specs.NamedBodies.{projs_named, declared_ty}
use Rattle.mir_text.specs.NameFaults.{on_line, unless}
use Rattle.mir_tree.specs.Bodies.{place_from, place_rule}
use Rattle.mir_resolve.specs.Faults.{noted}
use Rattle.mir_resolve.proofs.Growing.{grown_same}
use Rattle.mir_bodies.proofs.TellsOn.{first_declared, first_inside, is_some-map}
use Rattle.mir_bodies.proofs.PlaceSteps.{place_ended, local_kept}
use Rattle.mir_bodies.proofs.place.read_place.Goals as goal
use Rattle.std.proofs.Common.{◌≡◌, length}

pub projs-init : goal.projs-init
projs-init g c =
    let trees = trees_of c.args.draft.now.program.types in
    let x = c.args.text.now.local in
    let stands : option_map (at_id trees) c.get-ty.result ≡ declared_ty g.sense.locals x =
    ap (option_map (at_id trees)) c.get-ty.ensures ∙ first_declared trees c.args.scope.now.locals.now x ∙ ap (λ ds. declared_ty ds x) (sym c.requires.locals) in
    record {
      q = gr.local x;
      on = record {
        ty = stands;
        inside = first_inside (length c.args.draft.now.program.types) c.args.scope.now.locals.now x c.get-ty.result c.requires.locals_below c.get-ty.ensures;
        proj = c.in_ok-proj.ensures;
        wrong = refl;
        notes = c.note_unless.ensures
            ∙ ap (λ b. noted c.args.draft.now.notes (on_line c.args.line (unless b 14)))
            (c.is_some.ensures ∙ sym (is_some-map (at_id trees) c.get-ty.result) ∙ ap (λ o. is_some o) stands);
      };
      whole = ap (place_from (gr.local x)) c.as_slice-left.ensures;
      grown = grown_same c.args.draft.now.program;
      tells = c.requires;
    }

pub returns-clause-place : goal.returns-clause-place
returns-clause-place g c =
    let make : ℕ → List Proj → Place = λ x ps. record { local = x; proj = ps } in
    let same = place_ended c.projs.invariant.q (place_rule c.args.text.now) c.projs.left.now c.in_default.len_below c.projs.invariant.whole in
    ap₂ make (sym (local_kept (gr.local c.args.text.now.local) c.args.text.now.projs))
    (c.projs.invariant.on.proj ∙ ap (projs_named g.sense.names g.sense.locals) same)
