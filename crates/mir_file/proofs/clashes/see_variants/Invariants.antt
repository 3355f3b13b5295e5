use Rattle.std.proofs.Common.{◌≡◌, ◌++◌, ◌||◌, map, take, length}
use Rattle.mir_resolve.specs.Once.{SameTexts}
use Rattle.mir_file.specs.Clashes.{variant_path, any_stands}
use Rattle.mir_file.proofs.clashes.see_variants.Given as goal

abbrev pub invariant-variants : goal.invariant-variants
invariant-variants l = record {
  size : l.len ≡ length l.fn.buffer;
  front : take l.len l.buffer ≡ l.fn.buffer;
  taken : (l.taken || any_stands l.structs (map (variant_path l.strings l.fn.buffer) l.left)) ≡ any_stands l.structs (map (variant_path l.strings l.fn.buffer) l.texts);
  seen : SameTexts (map (variant_path l.strings l.fn.buffer) l.left ++ l.variants) (map (variant_path l.strings l.fn.buffer) l.texts ++ l.fn.variants);
}

abbrev pub decreases-variants : goal.decreases-variants
decreases-variants l = length l.left
