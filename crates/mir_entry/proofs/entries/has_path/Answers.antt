use Rattle.std.proofs.Common.{sym, ◌∙◌}
use Rattle.std.proofs.lemmas.Bool.Decides.{Decides-eqb}
use Rattle.std.proofs.lemmas.Slice.Eq.{slice_eq-Decides}
use Rattle.mir_entry.proofs.entries.has_path.Goals as goal

pub returns : goal.returns
returns c =
    let decides = slice_eq-Decides Decides-eqb _ _ _ c.eq.ensures in
    ((λ t. sym c.as_slice.ensures ∙ decides.0 t), (λ e. decides.1 (c.as_slice.ensures ∙ e)))
