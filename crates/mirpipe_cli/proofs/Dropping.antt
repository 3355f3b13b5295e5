-- The first `drop` of a crate, found block by block.
use Rattle.std.proofs.Common.{◌≡◌, refl, ap, subst, ◌∙◌, ℕ, zero, suc, ◌+◌, ◌<◌, ◌≤◌, Bool, true, false, List, [], ◌∷◌, ◌++◌, length, map, drop, get_or, Option, Some, None, slice_get, option_map, if◌then◌else◌, arith}
use Rattle.mir_syntax.specs.declared.body.Block.{Block}
use Rattle.mir_syntax.specs.declared.body.Function.{Function}
use Rattle.mir_syntax.specs.declared.lines.BlockLines.{BlockLines}
use Rattle.mir_syntax.specs.declared.lines.FnLines.{FnLines}
use Rattle.mir_syntax.specs.declared.lines.Lines.{Lines}
use Rattle.mir_syntax.specs.Shapes.{◌>>=◌}
use Rattle.mir_syntax.specs.declared.program.Program.{Program}
use Rattle.mir_syntax.specs.Tree.{Tree, trees_of}
use Rattle.mir_syntax.specs.Crate.{block_of, function_of, crate_of}
use Rattle.mir_rules.specs.Broken.{Spot, terminator, gather}
use Rattle.mir_rules.specs.Faults.{or_zero, line_at}
use Rattle.mir_rules.specs.Drops.{is_drop}
use Rattle.mirpipe_cli.specs.FirstDrop.{drop_spot, drop_spots, drops, first_drop}
use Rattle.mirpipe_cli.specs.Found.{drop_from, drop_block}

-- ---- lines

pub line_there : (lines : Lines) (f j : ℕ) (g : FnLines) (k : BlockLines) → Some g ≡ slice_get lines.functions f → Some k ≡ slice_get g.blocks j → k.term ≡ line_at lines (terminator f j)
unfolding line_at ◌>>=◌
line_there lines f j g k e e2 =
    subst (λ (o : Option FnLines). k.term ≡ or_zero ((o >>= λ h. slice_get h.blocks j) >>= λ b. Some b.term)) e
    (subst (λ (o : Option BlockLines). k.term ≡ or_zero (o >>= λ b. Some b.term)) e2 refl)

pub no_block_line : (lines : Lines) (f j : ℕ) (g : FnLines) → Some g ≡ slice_get lines.functions f → None ≡ slice_get g.blocks j → 0 ≡ line_at lines (terminator f j)
unfolding line_at ◌>>=◌
no_block_line lines f j g e e2 =
    subst (λ (o : Option FnLines). 0 ≡ or_zero ((o >>= λ h. slice_get h.blocks j) >>= λ b. Some b.term)) e
    (subst (λ (o : Option BlockLines). 0 ≡ or_zero (o >>= λ b. Some b.term)) e2 refl)

pub no_function_line : (lines : Lines) (f j : ℕ) → None ≡ slice_get lines.functions f → 0 ≡ line_at lines (terminator f j)
unfolding line_at ◌>>=◌
no_function_line lines f j e = subst (λ (o : Option FnLines). 0 ≡ or_zero ((o >>= λ h. slice_get h.blocks j) >>= λ b. Some b.term)) e refl

-- ---- blocks

step_if : (found : Bool) (n : ℕ) (rest : Option ℕ) → found ≡ false → (if found then Some n else rest) ≡ rest
step_if true n rest e = absurd cc
step_if false n rest e = refl

-- a block without a `drop` is passed over
pub drop_more : (n i : ℕ) (bs : List Block) (b : Block) → i < length bs → is_drop (get_or bs i b).term ≡ false → drop_from n (drop i bs) ≡ drop_from (suc n) (drop (suc i) bs)
drop_more n i [] b l e = absurd (omega (arith, l))
drop_more n zero (x ∷ bs) b l e = step_if (is_drop x.term) n (drop_from (suc n) bs) e
drop_more n (suc i) (x ∷ bs) b l e = drop_more n i bs b (omega (arith, l)) e

stop_if : (found : Bool) (n : ℕ) (rest : Option ℕ) → found ≡ true → (if found then Some n else rest) ≡ Some n
stop_if true n rest e = refl
stop_if false n rest e = absurd cc

pub drop_here : (n i : ℕ) (bs : List Block) (b : Block) → i < length bs → is_drop (get_or bs i b).term ≡ true → drop_from n (drop i bs) ≡ Some n
drop_here n i [] b l e = absurd (omega (arith, l))
drop_here n zero (x ∷ bs) b l e = stop_if (is_drop x.term) n (drop_from (suc n) bs) e
drop_here n (suc i) (x ∷ bs) b l e = drop_here n i bs b (omega (arith, l)) e

-- ---- spots

first_spot_if : (found : Bool) (f n : ℕ) (spots : List Spot) (rest : Option ℕ) → slice_get spots 0 ≡ option_map (terminator f) rest
    → slice_get ((if found then terminator f n ∷ [] else []) ++ spots) 0 ≡ option_map (terminator f) (if found then Some n else rest)
first_spot_if true f n spots rest e = refl
first_spot_if false f n spots rest e = e

spots_in : (trees : List Tree) (f n : ℕ) (bs : List Block) → slice_get (gather (drop_spot f) n (map (block_of trees) bs)) 0 ≡ option_map (terminator f) (drop_from n bs)
spots_in trees f n [] = refl
spots_in trees f n (b ∷ bs) = first_spot_if (is_drop b.term) f n (gather (drop_spot f) (suc n) (map (block_of trees) bs)) (drop_from (suc n) bs) (spots_in trees f (suc n) bs)

-- the first spot of functions that are counted from a number
abbrev pub first_spot : List Tree → ℕ → List Function → Option Spot
first_spot trees n fs = slice_get (gather drop_spots n (map (function_of trees) fs)) 0

append_first : (xs ys : List Spot) (s : Spot) → slice_get xs 0 ≡ Some s → slice_get (xs ++ ys) 0 ≡ Some s
append_first [] ys s e = absurd cc
append_first (x ∷ xs) ys s e = e

append_none : (xs ys : List Spot) → slice_get xs 0 ≡ None → slice_get (xs ++ ys) 0 ≡ slice_get ys 0
append_none [] ys e = refl
append_none (x ∷ xs) ys e = absurd cc

pub spot_here : (trees : List Tree) (n i j : ℕ) (fs : List Function) (g : Function) → i < length fs → drop_block (get_or fs i g).body.blocks ≡ Some j → first_spot trees n (drop i fs) ≡ Some (terminator n j)
spot_here trees n i j [] g l e = absurd (omega (arith, l))
spot_here trees n zero j (x ∷ fs) g l e =
    append_first (drop_spots n (function_of trees x)) (gather drop_spots (suc n) (map (function_of trees) fs)) (terminator n j) (spots_in trees n 0 x.body.blocks ∙ ap (option_map (terminator n)) e)
spot_here trees n (suc i) j (x ∷ fs) g l e = spot_here trees n i j fs g (omega (arith, l)) e

pub spot_more : (trees : List Tree) (n i : ℕ) (fs : List Function) (g : Function) → i < length fs → drop_block (get_or fs i g).body.blocks ≡ None → first_spot trees n (drop i fs) ≡ first_spot trees (suc n) (drop (suc i) fs)
spot_more trees n i [] g l e = absurd (omega (arith, l))
spot_more trees n zero (x ∷ fs) g l e =
    append_none (drop_spots n (function_of trees x)) (gather drop_spots (suc n) (map (function_of trees) fs)) (spots_in trees n 0 x.body.blocks ∙ ap (option_map (terminator n)) e)
spot_more trees n (suc i) (x ∷ fs) g l e = spot_more trees n i fs g (omega (arith, l)) e

-- past the last one there is none
pub no_spot_left : (trees : List Tree) (n i : ℕ) (fs : List Function) → length fs ≤ i → first_spot trees n (drop i fs) ≡ None
no_spot_left trees n zero [] e = refl
no_spot_left trees n zero (g ∷ fs) e = absurd (omega (arith, e))
no_spot_left trees n (suc i) [] e = refl
no_spot_left trees n (suc i) (g ∷ fs) e = no_spot_left trees n i fs (omega (arith, e))

-- ---- the line

pub first_line : (lines : Lines) (p : Program) (s : Spot) → first_spot (trees_of p.types) 0 p.functions ≡ Some s → first_drop lines (crate_of p) ≡ Some (line_at lines s)
unfolding first_drop drops
first_line lines p s e = ap (option_map (line_at lines)) e

pub no_line : (lines : Lines) (p : Program) → first_spot (trees_of p.types) 0 p.functions ≡ None → first_drop lines (crate_of p) ≡ None
unfolding first_drop drops
no_line lines p e = ap (option_map (line_at lines)) e
