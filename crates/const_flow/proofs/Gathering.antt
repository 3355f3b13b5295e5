-- Rows of cells that are gathered, one after another.
use Rattle.std.proofs.Common.{◌≡◌, inl, inr, refl, sym, ap, ap₂, ◌∙◌, ℕ, zero, suc, ◌+◌, ◌≤◌, List, [], ◌∷◌, ◌++◌, map, take, drop, length, Option, Some, None, arith}
use Rattle.std.proofs.lemmas.List.{length-append, take-append-le}
use Rattle.std.proofs.Math.Seq.{take-length}
use Rattle.mir_syntax.specs.declared.body.Place.{Place}
use Rattle.flow_engine.proofs.Lists.{some_one, get_push}
use Rattle.const_flow.specs.declared.cell.Cell.{Cell}
use Rattle.const_flow.specs.Cells.{facts_of, reached_of}
use Rattle.const_flow.specs.Compact.{reached_in, IsCompact}

map_push : {A B : Type 0} (f : A → B) (xs : List A) (y : A) → map f (xs ++ y ∷ []) ≡ map f xs ++ f y ∷ []
map_push f [] y = refl
map_push f (x ∷ xs) y = ap (λ ys. f x ∷ ys) (map_push f xs y)

kept_cells : (cells row : List Cell) (from w : ℕ) → from + w ≤ length cells → take w (drop from (cells ++ row)) ≡ take w (drop from cells)
kept_cells cells row zero w l = take-append-le w cells row (omega arith)
kept_cells [] row (suc from) w l = absurd (omega arith)
kept_cells (c ∷ cells) row (suc from) w l = kept_cells cells row from w (omega arith)

past_cells : (cells row : List Cell) → drop (length cells) (cells ++ row) ≡ row
past_cells [] row = refl
past_cells (c ∷ cells) row = past_cells cells row

kept_rows : (ps : List Place) (cells row : List Cell) (rows : List (Option ℕ)) → IsCompact ps cells rows → map (reached_in ps (cells ++ row)) rows ≡ map (reached_in ps cells) rows
kept_rows ps cells row [] k = refl
kept_rows ps cells row (None ∷ rows) k = ap (λ xs. None ∷ xs) (kept_rows ps cells row rows (λ b from e. k (suc b) from e))
kept_rows ps cells row (Some from ∷ rows) k = ap₂ (λ (ks : List Cell) xs. Some (facts_of ps ks) ∷ xs) (kept_cells cells row from (length ps) (k 0 from refl)) (kept_rows ps cells row rows (λ b from e. k (suc b) from e))

-- these cells and rows are those of the first facts
pub record IsGathered (ps : List Place) (cells : List Cell) (rows : List (Option ℕ)) (xs : List (Option (List Cell))) : Type 0 where
  pub compact : IsCompact ps cells rows
  pub known : map (reached_in ps cells) rows ≡ map (reached_of ps) xs

pub gathered_none : (ps : List Place) → IsGathered ps [] [] []
gathered_none ps = record { compact = λ b from e. absurd (grind arith); known = refl }

pub one_unreached : (ps : List Place) (cells : List Cell) (rows : List (Option ℕ)) (xs : List (Option (List Cell))) → IsGathered ps cells rows xs → IsGathered ps cells (rows ++ None ∷ []) (xs ++ None ∷ [])
one_unreached ps cells rows xs w = record {
  compact = λ b from e. elim (get_push rows None b (Some from) (length rows) refl e) [ inl q ↦ absurd (let z : ◌≡◌ {A = Option ℕ} (Some from) None = q.1 in grind arith) | inr g ↦ w.compact b from g ];
  known = map_push (reached_in ps cells) rows None ∙ ap (λ ys. ys ++ None ∷ []) w.known ∙ sym (map_push (reached_of ps) xs None);
}

pub one_reached : (ps : List Place) (cells row : List Cell) (rows : List (Option ℕ)) (xs : List (Option (List Cell))) → length row ≡ length ps → IsGathered ps cells rows xs → IsGathered ps (cells ++ row) (rows ++ Some (length cells) ∷ []) (xs ++ Some row ∷ [])
one_reached ps cells row rows xs long w = record {
  compact = λ b from e. elim (get_push rows (Some (length cells)) b (Some from) (length rows) refl e) [
    | inl q ↦ (let z : from ≡ length cells = some_one q.1 in omega (arith, length-append cells row))
    | inr g ↦ (let old = w.compact b from g in omega (arith, length-append cells row))
  ];
  known = map_push (reached_in ps (cells ++ row)) rows (Some (length cells))
      ∙ ap₂ (λ ys (ks : List Cell). ys ++ Some (facts_of ps ks) ∷ []) (kept_rows ps cells row rows w.compact ∙ w.known) (ap (take (length ps)) (past_cells cells row) ∙ ap (λ n. take n row) (sym long) ∙ take-length row)
      ∙ sym (map_push (reached_of ps) xs (Some row));
}
