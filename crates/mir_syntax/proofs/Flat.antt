-- Blocks whose statements are ranges of one table.
use Rattle.std.proofs.Common.{◌≡◌, refl, sym, ap, ap₂, ◌∙◌, subst, ℕ, zero, suc, ◌-◌, ◌<◌, ◌≤◌, List, [], ◌∷◌, ◌++◌, append_assoc, length, get_or, take, drop, Some, slice_get, arith, length-append, length-drop}
use Rattle.std.proofs.lemmas.List.{drop-append-le, take-append-le, take_all}
use Rattle.std.proofs.Math.Seq.{drop-append_seam}
use Rattle.mir_syntax.specs.declared.body.Stmt.{Stmt}
use Rattle.mir_syntax.specs.declared.body.Term.{Term}
use Rattle.mir_syntax.specs.declared.body.Block.{Block}
use Rattle.mir_syntax.specs.Flat.{blocks_from, Covers, start_of, stmts_at, term_at}

pub blocks_long : (start : ℕ) (ends : List ℕ) (ts : List Term) (stmts : List Stmt) → length ends ≡ length ts
    → length (blocks_from start ends ts stmts) ≡ length ends
blocks_long start [] ts stmts e = refl
blocks_long start (x ∷ ends) [] stmts e = absurd (omega arith)
blocks_long start (x ∷ ends) (t ∷ ts) stmts e = ap suc (blocks_long x ends ts stmts (omega (arith, e)))

-- ---- a block by its number

pub stmts_are : (start i : ℕ) (ends : List ℕ) (ts : List Term) (stmts : List Stmt) → length ends ≡ length ts → i < length ends
    → stmts_at (blocks_from start ends ts stmts) i ≡ Some (take (get_or ends i 0 - start_of start ends i) (drop (start_of start ends i) stmts))
stmts_are start i [] ts stmts e lt = absurd (omega arith)
stmts_are start i (x ∷ ends) [] stmts e lt = absurd (omega arith)
stmts_are start zero (x ∷ ends) (t ∷ ts) stmts e lt = refl
stmts_are start (suc zero) (x ∷ ends) (t ∷ ts) stmts e lt = stmts_are x zero ends ts stmts (omega (arith, e)) (omega (arith, lt))
stmts_are start (suc (suc i)) (x ∷ ends) (t ∷ ts) stmts e lt = stmts_are x (suc i) ends ts stmts (omega (arith, e)) (omega (arith, lt))

pub term_is : (start i : ℕ) (ends : List ℕ) (ts : List Term) (stmts : List Stmt) (t : Term) → length ends ≡ length ts → i < length ends
    → t ≡ get_or ts i t → term_at (blocks_from start ends ts stmts) i ≡ Some t
term_is start i [] ts stmts t e lt h = absurd (omega arith)
term_is start i (x ∷ ends) [] stmts t e lt h = absurd (omega arith)
term_is start zero (x ∷ ends) (u ∷ us) stmts t e lt h = ap Some (sym h)
term_is start (suc i) (x ∷ ends) (u ∷ us) stmts t e lt h = term_is x i ends us stmts t (omega (arith, e)) (omega (arith, lt)) h

-- a block is its statements and its terminator
pub block_is : (blocks : List Block) (i : ℕ) (ss : List Stmt) (t : Term) → stmts_at blocks i ≡ Some ss → term_at blocks i ≡ Some t
    → slice_get blocks i ≡ Some (record { stmts = ss; term = t })
block_is [] i ss t a b = absurd (cc)
block_is (k ∷ ks) zero ss t a b = let same : k.stmts ≡ ss = cc in let ends : k.term ≡ t = cc in ap₂ (λ (x : List Stmt) (y : Term). Some (record { stmts = x; term = y })) same ends
block_is (k ∷ ks) (suc i) ss t a b = block_is ks i ss t a b

-- so it is the one there
pub block_there : (blocks : List Block) (i : ℕ) (ss : List Stmt) (t : Term) → stmts_at blocks i ≡ Some ss → term_at blocks i ≡ Some t
    → (i < length blocks) × (record { stmts = ss; term = t } ≡ get_or blocks i (record { stmts = ss; term = t }))
block_there [] i ss t a b = absurd (cc)
block_there (k ∷ ks) zero ss t a b = (omega arith, (let same : k.stmts ≡ ss = cc in let ends : k.term ≡ t = cc in ap₂ (λ (x : List Stmt) (y : Term). record { stmts = x; term = y }) (sym same) (sym ends)))
block_there (k ∷ ks) (suc i) ss t a b = let r = block_there ks i ss t a b in ((let l = r.0 in omega arith), r.1)

-- ---- ranges lie in the table

covers_up : (start last : ℕ) (ends : List ℕ) → Covers start last ends → start ≤ last
covers_up start last [] c = omega (arith, c)
covers_up start last (x ∷ ends) c = let a = c.0 in let b = covers_up x last ends c.1 in omega (arith, a, b)

pub ends_within : (start last i : ℕ) (ends : List ℕ) → Covers start last ends → i < length ends → get_or ends i 0 ≤ last
ends_within start last i [] c lt = absurd (omega arith)
ends_within start last zero (x ∷ ends) c lt = covers_up x last ends c.1
ends_within start last (suc i) (x ∷ ends) c lt = ends_within x last i ends c.1 (omega (arith, lt))

pub starts_before : (start last i : ℕ) (ends : List ℕ) → Covers start last ends → i < length ends → start_of start ends i ≤ get_or ends i 0
starts_before start last i [] c lt = absurd (omega arith)
starts_before start last zero (x ∷ ends) c lt = c.0
starts_before start last (suc zero) (x ∷ ends) c lt = starts_before x last zero ends c.1 (omega (arith, lt))
starts_before start last (suc (suc i)) (x ∷ ends) c lt = starts_before x last (suc i) ends c.1 (omega (arith, lt))

-- ---- one more block at the end

pub covers_more : (start last more : ℕ) (ends : List ℕ) → Covers start last ends → last ≤ more → Covers start more (ends ++ more ∷ [])
covers_more start last more [] c up = ((omega (arith, c, up)), refl)
covers_more start last more (x ∷ ends) c up = (c.0, covers_more x last more ends c.1 up)

-- what stands before the end of the table stays
kept_part : (start end : ℕ) (stmts own : List Stmt) → start ≤ end → end ≤ length stmts
    → take (end - start) (drop start (stmts ++ own)) ≡ take (end - start) (drop start stmts)
kept_part start end stmts own up within =
    ap (take (end - start)) (drop-append-le start stmts own (omega (arith, up, within)))
    ∙ take-append-le (end - start) (drop start stmts) own (omega (arith, up, within, length-drop start stmts))

last_part : (start : ℕ) (stmts own : List Stmt) → start ≡ length stmts
    → take (length (stmts ++ own) - start) (drop start (stmts ++ own)) ≡ own
last_part start stmts own e =
    let many : length (stmts ++ own) - start ≡ length own = omega (arith, e, length-append stmts own) in
    ap₂ take many (ap (λ k. drop k (stmts ++ own)) e ∙ drop-append_seam stmts own) ∙ take_all (length own) own (omega arith)

pub one_more : (start : ℕ) (ends : List ℕ) (ts : List Term) (stmts own : List Stmt) (t : Term) → Covers start (length stmts) ends
    → length ends ≡ length ts
    → blocks_from start (ends ++ length (stmts ++ own) ∷ []) (ts ++ t ∷ []) (stmts ++ own) ≡ blocks_from start ends ts stmts ++ record { stmts = own; term = t } ∷ []
one_more start [] [] stmts own t c e = ap (λ (ss : List Stmt). record { stmts = ss; term = t } ∷ []) (last_part start stmts own c)
one_more start [] (u ∷ us) stmts own t c e = absurd (omega arith)
one_more start (x ∷ ends) [] stmts own t c e = absurd (omega arith)
one_more start (x ∷ ends) (u ∷ us) stmts own t c e =
    ap₂ (λ (ss : List Stmt) (ks : List Block). record { stmts = ss; term = u } ∷ ks) (kept_part start x stmts own c.0 (covers_up x (length stmts) ends c.1)) (one_more x ends us stmts own t c.1 (omega (arith, e)))

-- ---- blocks that are put into the table one after another

-- the table has the blocks but for those that are still to come
pub record Gathers (blocks : List Block) (ends : List ℕ) (ts : List Term) (stmts : List Stmt) (rest : List Block) : Type 0 where
  pub told : blocks_from 0 ends ts stmts ++ rest ≡ blocks
  pub covers : Covers 0 (length stmts) ends
  pub as_many : length ends ≡ length ts

gathers_one : (blocks : List Block) (ends : List ℕ) (ts : List Term) (stmts : List Stmt) (k : Block) (rest : List Block)
    → Gathers blocks ends ts stmts (k ∷ rest)
    → Gathers blocks (ends ++ length (stmts ++ k.stmts) ∷ []) (ts ++ k.term ∷ []) (stmts ++ k.stmts) rest
gathers_one blocks ends ts stmts k rest g = record {
  told = ap (λ ks. ks ++ rest) (one_more 0 ends ts stmts k.stmts k.term g.covers g.as_many) ∙ append_assoc (blocks_from 0 ends ts stmts) (k ∷ []) rest ∙ g.told;
  covers = covers_more 0 (length stmts) (length (stmts ++ k.stmts)) ends g.covers (omega (arith, length-append stmts k.stmts));
  as_many = (let a = length-append ends (length (stmts ++ k.stmts) ∷ []) in let b = length-append ts (k.term ∷ []) in let e = g.as_many in omega (arith, a, b, e));
}

pub gathers_more : (blocks : List Block) (ends ends2 : List ℕ) (ts ts2 : List Term) (stmts stmts2 : List Stmt) (rest rest2 : List Block) (k : Block) (end : ℕ) → Gathers blocks ends ts stmts rest → rest ≡ k ∷ rest2
    → stmts2 ≡ stmts ++ k.stmts → end ≡ length stmts2 → ends2 ≡ ends ++ end ∷ [] → ts2 ≡ ts ++ k.term ∷ [] → Gathers blocks ends2 ts2 stmts2 rest2
gathers_more blocks ends ends2 ts ts2 stmts stmts2 rest rest2 k end g next own at e t =
    let one = gathers_one blocks ends ts stmts k rest2 (subst (Gathers blocks ends ts stmts) next g) in
    subst (λ es. Gathers blocks es ts2 stmts2 rest2) (ap (λ n. ends ++ n ∷ []) (ap length (sym own) ∙ sym at) ∙ sym e)
    (subst (λ us. Gathers blocks (ends ++ length (stmts ++ k.stmts) ∷ []) us stmts2 rest2) (sym t)
    (subst (λ ss. Gathers blocks (ends ++ length (stmts ++ k.stmts) ∷ []) (ts ++ k.term ∷ []) ss rest2) (sym own) one))

pub gathered_few : (blocks : List Block) (ends : List ℕ) (ts : List Term) (stmts : List Stmt) (rest : List Block)
    → Gathers blocks ends ts stmts rest → length ends ≤ length blocks
gathered_few blocks ends ts stmts rest g = let l = ap length g.told in omega (arith, l, length-append (blocks_from 0 ends ts stmts) rest, blocks_long 0 ends ts stmts g.as_many)
