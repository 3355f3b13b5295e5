-- Lists that are made part by part, and faults that are noted part by part.
use Rattle.std.proofs.Common.{IsTrue, ◌≡◌, ℕ, ◌<◌, Bool, List, [], ◌∷◌, ◌++◌, map, length, Option, refl, sym, ap, ap₂, subst, ◌∙◌, append_assoc, append-nil, arith}
use Rattle.std.proofs.lemmas.List.{map-append}
use Rattle.std.specs.List.{list_all}
use Rattle.mir_syntax.specs.declared.types.Ty.{Ty}
use Rattle.mir_syntax.specs.Tree.{Tree, trees_of, Extends}
use Rattle.mir_syntax.specs.Crate.{def_of, outside_of}
use Rattle.mir_syntax.specs.Ids.{def_below, outside_below}
use Rattle.mir_syntax.proofs.Trees.{length-trees_of}
use Rattle.mir_syntax.proofs.Growth.{map-same, trees_of-extends, def-front, def-more, outside-front, outside-more}
use Rattle.mir_text.specs.NameFaults.{Fault}
use Rattle.mir_resolve.specs.Faults.{noted}
use Rattle.mir_resolve.proofs.Making.{Keeps, inside_step}
use Rattle.mir_resolve.proofs.Noting.{noted-append}

-- one part more
pub append_step : {X : Type 0} (old new part rest whole : List X) → new ≡ old ++ part → old ++ (part ++ rest) ≡ whole → new ++ rest ≡ whole
append_step old new part rest whole is h = ap (λ l. l ++ rest) is ∙ append_assoc old part rest ∙ h

pub none_left : {Z : Type 0} (left : List Z) → length left < 1 → left ≡ []
none_left [] h = refl
none_left (x ∷ left) h = absurd (omega arith)

-- where nothing is left all is made
pub append_ended : {X Z : Type 0} (of : List Z → List X) (left : List Z) (made whole : List X) → length left < 1 → of [] ≡ [] → made ++ of left ≡ whole → made ≡ whole
append_ended of left made whole short nil h =
    sym (append-nil made) ∙ ap (λ l. made ++ l) (sym nil) ∙ ap (λ l. made ++ of l) (sym (none_left left short)) ∙ h

pub faults_step : (kept later whole : Option Fault) (part rest : List Fault) → later ≡ noted kept part → noted kept (part ++ rest) ≡ whole → noted later rest ≡ whole
faults_step kept later whole part rest is h = ap (λ k. noted k rest) is ∙ sym (noted-append kept part rest) ∙ h

pub faults_ended : {Z : Type 0} (of : List Z → List Fault) (left : List Z) (kept whole : Option Fault) → length left < 1 → of [] ≡ [] → noted kept (of left) ≡ whole → kept ≡ whole
unfolding noted
faults_ended of left kept whole short nil h =
    ap (noted kept) (sym nil) ∙ ap (λ l. noted kept (of l)) (sym (none_left left short)) ∙ h

-- ---- parts that lie in a table

pub front_keeps : {X Y : Type 0} (of : List Tree → X → Y) (below : ℕ → X → Bool)
    → ((trees later : List Tree) (x : X) → IsTrue (below (length trees) x) → of (trees ++ later) x ≡ of trees x)
    → (old new : List Ty) → Extends old new → (x : X) → IsTrue (below (length old) x) → of (trees_of new) x ≡ of (trees_of old) x
front_keeps of below front old new e x h =
    let P : ℕ → Type 0 = λ n. IsTrue (below n x) in
    let grown = trees_of-extends old new e in
    ap (λ trees. of trees x) grown.1 ∙ front (trees_of old) grown.0 x (subst P (sym (length-trees_of old)) h)

pub defs_keep : Keeps def_of def_below
defs_keep = record { same = front_keeps def_of def_below def-front; wider = def-more }

pub outsides_keep : Keeps outside_of outside_below
outsides_keep = record { same = front_keeps outside_of outside_below outside-front; wider = outside-more }

-- one part more, in a table that has grown
pub one_more : {X Y : Type 0} (of : List Tree → X → Y) (below : ℕ → X → Bool) → Keeps of below → (old new : List Ty) → Extends old new
    → (xs later : List X) (x : X) (y : Y) → IsTrue (list_all (below (length old)) xs) → later ≡ xs ++ x ∷ [] → of (trees_of new) x ≡ y
    → map (of (trees_of new)) later ≡ map (of (trees_of old)) xs ++ y ∷ []
one_more of below keeps old new e xs later x y h is made =
    ap (map (of (trees_of new))) is ∙ map-append (of (trees_of new)) xs (x ∷ [])
    ∙ ap₂ (λ l v. l ++ v ∷ []) (map-same (below (length old)) (of (trees_of new)) (of (trees_of old)) (keeps.same old new e) xs h) made

pub more_inside : {X Y : Type 0} (of : List Tree → X → Y) (below : ℕ → X → Bool) → Keeps of below → (old new : List Ty) → Extends old new
    → (xs later : List X) (x : X) → IsTrue (list_all (below (length old)) xs) → later ≡ xs ++ x ∷ [] → IsTrue (below (length new) x)
    → IsTrue (list_all (below (length new)) later)
more_inside of below keeps old new e xs later x h is k =
    let P : List _ → Type 0 = λ l. IsTrue (list_all (below (length new)) l) in
    subst P (sym is) (inside_step of below keeps old new e xs x h k)
