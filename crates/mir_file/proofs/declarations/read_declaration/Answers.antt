use Rattle.std.proofs.Common.{ℕ, not, is_some, ◌∙◌, ◌++◌, ap, sym, rules}
use Rattle.mir_syntax.specs.Tree.{Tree, trees_of}
use Rattle.mir_text.specs.NameFaults.{on_line, unless}
use Rattle.mir_resolve.specs.Faults.{noted}
use Rattle.mir_resolve.specs.Definitions.{text_codes}
use Rattle.mir_resolve.proofs.Noting.{noted_on}
use Rattle.mir_file.specs.Declarations.{declared_below, declared_as}
use Rattle.mir_file.proofs.Steps.{one_more, more_inside}
use Rattle.mir_file.proofs.Declaring.{declared_keep, declared_some}
use Rattle.mir_file.proofs.declarations.read_declaration.Goals as goal

pub returns-clause-declared : goal.returns-clause-declared
returns-clause-declared c =
    let is = c.in_ok-ty.ensures in
    let make : Tree → ℕ × Tree = λ t. (c.args.text.now.local, t) in
    one_more declared_as declared_below declared_keep c.args.draft.now.program.types c.read_noted.new.draft.program.types is.went.grown.types
    c.args.locals c.in_ok-more.more (c.args.text.now.local, c.in_ok-ty.ty) _ c.requires c.in_ok-more.ensures (ap make is.stands)

pub returns-clause-inside : goal.returns-clause-inside
returns-clause-inside c =
    let is = c.in_ok-ty.ensures in
    more_inside declared_as declared_below declared_keep c.args.draft.now.program.types c.read_noted.new.draft.program.types is.went.grown.types
    c.args.locals c.in_ok-more.more (c.args.text.now.local, c.in_ok-ty.ty) c.requires c.in_ok-more.ensures (search (rules, is.inside))

pub returns-clause-went : goal.returns-clause-went
returns-clause-went c =
    let is = c.in_ok-ty.ensures.went in
    let kept = c.args.draft.now.notes in
    let line = c.args.line in
    let text = c.args.text.now in
    let codes = text_codes c.args.strings.now c.args.paths.now text.ty in
    record {
      grown = is.grown;
      notes = c.note_unless.ensures
          ∙ ap (λ k. noted k (on_line line (unless (not c.is_some-stood.result) 14))) is.notes
          ∙ sym (noted_on kept line codes (unless (not c.is_some-stood.result) 14))
          ∙ ap (λ b. noted kept (on_line line (codes ++ unless (not b) 14)))
          (c.is_some-stood.ensures ∙ ap is_some c.get.ensures ∙ declared_some (trees_of c.args.draft.now.program.types) c.args.locals text.local);
    }
