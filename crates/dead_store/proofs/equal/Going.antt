-- Blocks that are pruned one after another.
use Rattle.std.proofs.Common.{◌≡◌, ◌⊎◌, inl, inr, refl, sym, ap, ◌∙◌, ℕ, ◌+◌, ◌<◌, ◌≤◌, Bool, List, [], length, get_or, set, arith}
use Rattle.std.proofs.lemmas.Bool.{cases_eq}
use Rattle.std.proofs.lemmas.List.{length-set, get_or-set_same, get_or-set_other, get_or_default}
use Rattle.mir_syntax.specs.declared.body.Block.{Block}
use Rattle.mir_syntax.specs.Tree.{Tree}
use Rattle.bit_rows.specs.Rows.{row_at}
use Rattle.dead_store.specs.Rounds.{block_after}

-- the first blocks are pruned, the others and their rows are still as they were
pub record Going (trees : List Tree) (lent : List Bool) (ends : List (List Bool)) (old items : List Block) (live : List (List Bool)) (at : ℕ) : Type 0 where
  pub long : length items ≡ length old
  pub rows : length live ≡ length ends
  pub done : (i : ℕ) (d : Block) → i < at → i < length old → get_or items i d ≡ block_after trees lent (row_at ends i) (get_or old i d)
  pub rest : (i : ℕ) (d : Block) → at ≤ i → i < length old → get_or items i d ≡ get_or old i d
  pub same : (i : ℕ) → at ≤ i → row_at live i ≡ row_at ends i

pub going_none : (trees : List Tree) (lent : List Bool) (ends : List (List Bool)) (old : List Block) → Going trees lent ends old old ends 0
going_none trees lent ends old = record {
  long = refl;
  rows = refl;
  done = λ i d l m. absurd (omega arith);
  rest = λ i d l m. refl;
  same = λ i l. refl;
}

pub going_more : (trees : List Tree) (lent : List Bool) (ends : List (List Bool)) (old items items2 : List Block) (live live2 : List (List Bool)) (at : ℕ) (d v : Block) (w : List Bool) → at < length old → Going trees lent ends old items live at → v ≡ block_after trees lent (row_at live at) (get_or items at d) → items2 ≡ set items at v → live2 ≡ set live at w → Going trees lent ends old items2 live2 (at + 1)
going_more trees lent ends old items items2 live live2 at d v w l g is e q = record {
  long = ap length e ∙ length-set items at v ∙ g.long;
  rows = ap length q ∙ length-set live at w ∙ g.rows;
  done = λ i d2 m n. ap (λ (xs : List Block). get_or xs i d2) e ∙ found i d2 m n (cases_eq i at);
  rest = λ i d2 m n. ap (λ (xs : List Block). get_or xs i d2) e ∙ get_or-set_other items at i v d2 (λ s. absurd (omega arith)) ∙ g.rest i d2 (omega arith) n;
  same = λ i m. ap (λ t. row_at t i) q ∙ get_or-set_other live at i w [] (λ s. absurd (omega arith)) ∙ g.same i (omega arith);
}
  where
    default : (d2 : Block) → get_or old at d ≡ get_or old at d2
    default d2 = get_or_default old at d d2 l

    found : (i : ℕ) (d2 : Block) → i < at + 1 → i < length old → (i ≡ at) ⊎ (i ≡ at → ⊥) → get_or (set items at v) i d2 ≡ block_after trees lent (row_at ends i) (get_or old i d2)
    found i d2 m n (inl s) =
        ap (λ i. get_or (set items at v) i d2) s ∙ get_or-set_same items at v d2 (omega (arith, g.long)) ∙ is
        ∙ ap (λ r. block_after trees lent r (get_or items at d)) (g.same at (omega arith))
        ∙ ap (block_after trees lent (row_at ends at)) (g.rest at d (omega arith) l ∙ default d2)
        ∙ ap (λ i. block_after trees lent (row_at ends i) (get_or old i d2)) (sym s)
    found i d2 m n (inr ne) = get_or-set_other items at i v d2 ne ∙ g.done i d2 (omega arith) n
