-- The first block that ends in a `drop`, over blocks with ids; no public promise rests on it.
use Rattle.std.specs.Prelude.{ℕ, suc, List, [], ◌∷◌, Option, Some, None, if◌then◌else◌}
use Rattle.mir_syntax.specs.declared.body.Block.{Block}
use Rattle.mir_rules.specs.Drops.{is_drop}

abbrev pub drop_from : ℕ → List Block → Option ℕ
drop_from n [] = None
drop_from n (b ∷ bs) = if is_drop b.term then Some n else drop_from (suc n) bs

abbrev pub drop_block : List Block → Option ℕ
drop_block bs = drop_from 0 bs
