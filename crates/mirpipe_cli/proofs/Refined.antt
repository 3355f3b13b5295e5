-- A crate without `drop` terminators is refined by what the passes make of it.
use Rattle.std.proofs.Common.{◌≡◌, refl, ℕ, Bool, true, false, List, [], ◌∷◌, Some, None, option_map, slice_get, if◌then◌else◌, ◌+◌}
use Rattle.mir_syntax.specs.declared.lines.Lines.{Lines}
use Rattle.mir_syntax.specs.Crate.{TypedFunction, Crate}
use Rattle.mir_rules.specs.Broken.{Spot, terminator, gather}
use Rattle.mir_rules.specs.Faults.{line_at}
use Rattle.mir_rules.specs.Valid.{Valid, Within}
use Rattle.mir_rules.proofs.Lists.{gather_empty-at}
use Rattle.mir_semantics.specs.Refines.{Refines}
use Rattle.mir_rules.specs.Drops.{is_drop, NoDrops}
use Rattle.pass_order.specs.Passes.{optimised}
use Rattle.pass_order.proofs.Crates.{optimised_refines}
use Rattle.mirpipe_cli.specs.FirstDrop.{drop_spot, drop_spots, drops, first_drop}

-- ---- a crate without a first `drop` has none

none_first : (lines : Lines) (spots : List Spot) → option_map (line_at lines) (slice_get spots 0) ≡ None → spots ≡ []
none_first lines [] e = refl
none_first lines (s ∷ spots) e = absurd cc

no_spots : (lines : Lines) (C : Crate) → first_drop lines C ≡ None → gather drop_spots 0 C.functions ≡ []
unfolding first_drop drops
no_spots lines C e = none_first lines (gather drop_spots 0 C.functions) e

not_drop : (found : Bool) (s : Spot) → (if found then s ∷ [] else []) ≡ [] → found ≡ false
not_drop true s e = absurd cc
not_drop false s e = refl

pub no_drops : (lines : Lines) (C : Crate) → first_drop lines C ≡ None → (f : ℕ) (g : TypedFunction) → slice_get C.functions f ≡ Some g → NoDrops g.body
no_drops lines C none f g e =
    let here = gather_empty-at drop_spots 0 C.functions f g (no_spots lines C none) e in
    record {
      none = λ i k e2.
          let at = gather_empty-at (drop_spot (f + 0)) 0 g.body.blocks i k here e2 in
          not_drop (is_drop k.term) (terminator (f + 0) (i + 0)) at;
    }

-- ---- the law

pub passed_refines : (C : Crate) (lines : Lines) → Valid C → Within C → first_drop lines C ≡ None → Refines (optimised C) C
passed_refines C lines valid within none = optimised_refines C valid within (no_drops lines C none)
