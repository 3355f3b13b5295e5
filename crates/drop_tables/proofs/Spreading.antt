-- How marks spread: a definition after a definition, and round after round.
use Rattle.std.proofs.Common.{◌≡◌, ℕ, zero, suc, ◌+◌, ◌-◌, ◌<◌, ◌≤◌, Bool, false, ◌||◌, List, [], ◌∷◌, ◌++◌, map, length, take, slice_get, Option, Some, None, IsTrue, refl, sym, ap, ap₂, ◌∙◌, arith}
use Rattle.std.proofs.Math.Path.{fun_ext}
use Rattle.std.proofs.Math.Seq.{take-length}
use Rattle.std.proofs.lemmas.List.{get_or_past, length-append}
use Rattle.std.proofs.lemmas.Option.{slice_get_within}
use borrow.Author.Count.{below_more}
use Rattle.std.specs.List.{list_any}
use Rattle.mir_syntax.specs.declared.types.Def.{Def}
use Rattle.mir_syntax.specs.declared.program.Program.{Program}
use Rattle.mir_syntax.specs.Tree.{trees_of}
use Rattle.mir_syntax.specs.Ids.{def_below, IdsInTable}
use Rattle.mir_syntax.specs.Crate.{crate_of}
use Rattle.mir_syntax.specs.Shapes.{Shape, shapes_of, needs_by}
use Rattle.mir_syntax.proofs.Trees.{length-trees_of}
use Rattle.mir_syntax.proofs.Places.{shape-at, shape-past}
use Rattle.mir_syntax.proofs.InTable.{all-at}
use Rattle.mir_syntax.proofs.Lists.{slice_get-none}
use Rattle.mir_rules.specs.DefinitionRules.{holds_one}
use Rattle.drop_tables.specs.Marks.{is_marked, variant_marked, spread}
use Rattle.drop_tables.proofs.Marking.{variants_held, mark_last, mark_before}

-- a definition, by what is known of all types
pub def_marks : (p : Program) (marks : ℕ → Bool) (known : List Bool) (d : ℕ) (def : Def) → IdsInTable p → known ≡ map (needs_by marks) (trees_of p.types) → slice_get p.defs d ≡ Some def
    → list_any (variant_marked known) def.variants ≡ holds_one marks (slice_get (shapes_of (crate_of p)) d)
def_marks p marks known d def ids is at =
    let trees = trees_of p.types in
    let long = length-trees_of p.types in
    let below : IsTrue (def_below (length p.types) def) = all-at (def_below (length p.types)) p.defs d def ids.defs at in
    let held = variants_held marks trees (length p.types) (omega (arith, long)) def.variants below in
    let all : take (length p.types) trees ≡ trees = ap (λ n. take n trees) (sym long) ∙ take-length trees in
    ap (λ l. list_any (variant_marked l) def.variants) (is ∙ ap (map (needs_by marks)) (sym all)) ∙ (held ∙ ap (holds_one marks) (sym (shape-at p d def at)))

pub one_more_mark : (old new : List Bool) (at : ℕ) (f : ℕ → Bool) (b : Bool) → new ≡ old ++ b ∷ [] → length old ≡ at → ((d : ℕ) → d < at → is_marked old d ≡ f d) → b ≡ f at
    → (length new ≡ at + 1) × ((d : ℕ) → d < at + 1 → is_marked new d ≡ f d)
one_more_mark old new at f b is long below here = (
  ap length is ∙ (length-append old (b ∷ []) ∙ ap (λ n. n + 1) long),
  below_more (λ d. is_marked new d ≡ f d) at (λ d h. ap (λ l. is_marked l d) is ∙ (mark_before old b d (omega (arith, long, h)) ∙ below d h))
      (ap (λ l. is_marked l at) is ∙ (mark_last old b at long ∙ here)),
)

-- past the definitions nothing is marked
pub all_marks : (p : Program) (own held : List Bool) (marks : ℕ → Bool) → length own ≡ length p.defs → length held ≡ length p.defs
    → ((d : ℕ) → d < length p.defs → is_marked held d ≡ (is_marked own d || holds_one marks (slice_get (shapes_of (crate_of p)) d)))
    → (d : ℕ) → is_marked held d ≡ (is_marked own d || holds_one marks (slice_get (shapes_of (crate_of p)) d))
all_marks p own held marks long own_long below d = go (slice_get p.defs d) refl
  where
    go : (o : Option Def) → slice_get p.defs d ≡ o → is_marked held d ≡ (is_marked own d || holds_one marks (slice_get (shapes_of (crate_of p)) d))
    go None e =
        let past : length p.defs ≤ d = slice_get-none p.defs d e in
        let nothing : is_marked own d ≡ false = get_or_past own d false (omega (arith, long, past)) in
        let empty : is_marked held d ≡ false = get_or_past held d false (omega (arith, own_long, past)) in
        empty ∙ sym (ap₂ (λ a (o : Option Shape). a || holds_one marks o) nothing (shape-past p d e))
    go (Some def) e = below d (slice_get_within p.defs d def e)

module _ (D : List Shape) (own start : ℕ → Bool) where
  still : (n k : ℕ) → spread D own start (suc n) ≡ spread D own start n → spread D own start (k + n) ≡ spread D own start n
  still n zero h = ap (spread D own start) (omega arith)
  still n (suc k) h =
      let more : suc k + n ≡ suc (k + n) = omega arith in
      ap (spread D own start) more ∙ (ap (λ (f : ℕ → Bool). λ (d : ℕ). own d || holds_one f (slice_get D d)) (still n k h) ∙ h)

  -- where a round changes nothing, none after it does
  pub stable : (n m : ℕ) → n ≤ m → ((d : ℕ) → spread D own start (suc n) d ≡ spread D own start n d) → (d : ℕ) → spread D own start n d ≡ spread D own start m d
  stable n m below h d =
      let far : (m - n) + n ≡ m = omega arith in
      sym (ap (λ k. spread D own start k d) (sym far) ∙ ap (λ (f : ℕ → Bool). f d) (still n (m - n) (fun_ext h)))
