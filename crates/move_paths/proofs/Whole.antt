-- From the tables that the code makes to the statuses that paths bring.
use Rattle.std.proofs.Common.{◌≡◌, inl, inr, refl, sym, ap, ◌∙◌, subst, ℕ, ◌<◌, ◌≤◌, Bool, true, false, not, nat_lt, List, [], ◌∷◌, map, length, get_or, Some, slice_get, IsTrue, ◌↔◌, arith}
use Rattle.std.specs.List.{All}
use Rattle.std.proofs.lemmas.Bool.{cases_Bool}
use Rattle.std.proofs.lemmas.List.{length-map, get_or-map, length-replicate, get_or_past}
use Rattle.std.proofs.lemmas.Option.{slice_get-get_or}
use Rattle.mir_syntax.specs.declared.body.Block.{Block}
use Rattle.mir_syntax.specs.declared.body.Body.{Body}
use Rattle.mir_syntax.specs.declared.body.Place.{Place}
use Rattle.mir_syntax.specs.declared.body.Term.TheVariants.{Unreachable}
use Rattle.mir_syntax.specs.Tree.{Tree}
use Rattle.mir_syntax.specs.Crate.{TypedBlock, TypedBody, block_of, body_of}
use Rattle.mir_cfg.specs.Paths.{block_term, terms_of, Closed, Reached}
use Rattle.bit_rows.specs.Rows.{row_at, flag, HasSize}
use Rattle.flow_engine.specs.declared.edges.Edge.{Edge}
use Rattle.flow_engine.specs.Flow.{Least, problem}
use Rattle.liveness.specs.Rows.{blank, block_at, no_block, IsRows}
use Rattle.liveness.specs.Facts.{IsBelow, joined}
use Rattle.liveness.specs.Lattice.{single}
use Rattle.liveness.proofs.Filling.{rows_sized}
use Rattle.liveness.proofs.Solved.{contains_at}
use Rattle.liveness.proofs.Whole.{targets_in}
use Rattle.move_paths.specs.Inits.{is_argument, Comes}
use Rattle.move_paths.specs.Rows.{has, passed_block, end_row, first_row, IsOnward}
use Rattle.move_paths.specs.Facts.{IsSized, begun, sent}
use Rattle.move_paths.proofs.Each.{each_long}
use Rattle.move_paths.proofs.Solved.{facts_long, solved}

abbrev pub LeastAt : ℕ → ℕ → List Edge → List Edge → List (List Bool) → List (List Bool) → List (List Bool) → List (List (List Bool)) → Type 0
LeastAt n bits es edges first gens kills facts = Least (λ x. HasSize x 1 bits) (IsBelow bits) (problem joined (begun bits first) (sent bits edges gens kills) n es) facts

-- the same by other names
pub least_moved : (n n2 bits bits2 : ℕ) (edges : List Edge) (first gens kills : List (List Bool)) (facts : List (List (List Bool))) → n ≡ n2 → bits ≡ bits2 → LeastAt n bits edges edges first gens kills facts → LeastAt n2 bits2 edges edges first gens kills facts
least_moved n n2 bits bits2 edges first gens kills facts en el l =
    subst (λ m. LeastAt m bits2 edges edges first gens kills facts) en (subst (λ k. LeastAt n k edges edges first gens kills facts) el l)

pub end_long : (status : Bool) (us : List Place) (k : TypedBlock) → length (end_row status us k) ≡ length us
end_long status us k = each_long (passed_block status k) us (blank (length us)) (length-replicate (length us) false)

module _ (trees : List Tree) (body : Body) where
  none : Block
  none = record { stmts = []; term = Unreachable }

  -- a block's terminator is that of the body as it is seen
  pub same_terms : (a : ℕ) → get_or (terms_of body) a Unreachable ≡ (block_at (body_of trees body).blocks a).term
  same_terms a = elim (cases_Bool (nat_lt a (length body.blocks))) [
    | inl h ↦ (let l : a < length body.blocks = grind arith in
        get_or-map block_term body.blocks a none Unreachable l ∙ ap (λ (k : TypedBlock). k.term) (sym (get_or-map (block_of trees) body.blocks a none no_block l)))
    | inr h ↦ (get_or_past (terms_of body) a Unreachable (let q = length-map body.blocks block_term in let p : length body.blocks ≤ a = grind arith in omega arith)
        ∙ ap (λ (k : TypedBlock). k.term) (sym (get_or_past (body_of trees body).blocks a no_block (let q = length-map body.blocks (block_of trees) in let p : length body.blocks ≤ a = grind arith in omega arith))))
  ]

  module _ (us : List Place) (closed : Closed (terms_of body)) (status : Bool) (edges : List Edge) (first gens kills : List (List Bool)) (onward : IsOnward (Reached (terms_of body)) (body_of trees body).blocks (length body.blocks) edges) (fr : first ≡ first_row status body.args us ∷ []) (gr : IsRows (length body.blocks) (λ i. end_row status us (block_at (body_of trees body).blocks i)) gens) (kr : IsRows (length body.blocks) (λ i. end_row (not status) us (block_at (body_of trees body).blocks i)) kills) where
    pub sized : IsSized (length body.blocks) (length us) edges first gens kills
    sized = record {
      starts = λ i e at. (onward.only e (contains_at edges i e at)).0;
      first_size = subst (λ t. HasSize t 1 (length us)) (sym fr) (single (length us) (first_row status body.args us) (length-map us (λ u. has status (is_argument body.args u))));
      gens_size = rows_sized (length body.blocks) (length us) (λ i. end_row status us (block_at (body_of trees body).blocks i)) gens (λ r. end_long status us (block_at (body_of trees body).blocks r)) gr;
      kills_size = rows_sized (length body.blocks) (length us) (λ i. end_row (not status) us (block_at (body_of trees body).blocks i)) kills (λ r. end_long (not status) us (block_at (body_of trees body).blocks r)) kr;
    }

    pub inside : All (λ e. (e.from < length body.blocks) × (e.to < length body.blocks)) edges
    inside k d l = (let p = onward.only (get_or edges k d) (contains_at edges k (get_or edges k d) (slice_get-get_or edges k d l)) in (p.0, targets_in [] trees body closed (get_or edges k d).from (get_or edges k d).to p.0 p.2))

    module _ (facts : List (List (List Bool))) (least : Least (λ x. HasSize x 1 (length us)) (IsBelow (length us)) (problem joined (begun (length us) first) (sent (length us) edges gens kills) (length body.blocks) edges) facts) where
      blocks_long : length body.blocks ≡ length (body_of trees body).blocks
      blocks_long = sym (length-map body.blocks (block_of trees))

      pub all_long : length facts ≡ length body.blocks
      all_long = facts_long (body_of trees body) (terms_of body) same_terms us (length body.blocks) (length us) blocks_long refl (targets_in [] trees body closed) status edges first gens kills onward fr gr kr sized facts least

      pub all_sized : All (λ x. HasSize x 1 (length us)) facts
      all_sized k d l = least.facts k (get_or facts k d) (slice_get-get_or facts k d l)

      module _ (table : List (List Bool)) (is : table ≡ map (λ row. row_at row 0) facts) where
        row_is : (i : ℕ) → i < length body.blocks → row_at table i ≡ row_at (get_or facts i []) 0
        row_is i l = ap (λ t. row_at t i) is ∙ get_or-map (λ row. row_at row 0) facts i [] [] (omega (arith, all_long))

        pub table_size : HasSize table (length body.blocks) (length us)
        table_size = record {
          count_is = ap length is ∙ length-map facts (λ row. row_at row 0) ∙ all_long;
          bits_is = λ i l. ap length (row_is i l) ∙ (all_sized i [] (omega (arith, all_long))).bits_is 0 (omega arith);
        }

        pub table_comes : (i k : ℕ) (u : Place) → i < length body.blocks → slice_get us k ≡ Some u → IsTrue (flag table i k) ↔ Comes (body_of trees body) u i status
        table_comes i k u l at = subst (λ row. IsTrue (get_or row k false) ↔ Comes (body_of trees body) u i status) (sym (row_is i l)) (solved (body_of trees body) (terms_of body) same_terms us (length body.blocks) (length us) blocks_long refl (targets_in [] trees body closed) status edges first gens kills onward fr gr kr sized facts least k u at i l)
