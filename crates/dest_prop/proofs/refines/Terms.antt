-- The end of a block of the merged body: both do the same step.
use Rattle.std.proofs.Common.{◌≡◌, refl, sym, subst, ℕ, Bool, false, List, [], map, Some, None, slice_get, arith}
use Rattle.std.specs.List.{Contains, flat_map}
use Rattle.std.proofs.lemmas.List.Elements.{Contains-append_left, Contains-append_right}
use Rattle.mir_syntax.specs.declared.body.Operand.{Operand}
use Rattle.mir_syntax.specs.declared.body.Term.{Term}
use Rattle.mir_syntax.specs.declared.body.Term.TheVariants.{Goto, Switch, Return, Unreachable, Drop, Call, Assert}
use Rattle.mir_syntax.specs.Tree.{Tree}
use Rattle.mir_syntax.specs.Shapes.{Shape}
use Rattle.mir_syntax.specs.Crate.{TypedBlock}
use Rattle.mir_syntax.specs.Parts.{targets}
use Rattle.mir_syntax.proofs.Members.{has_first, has_none}
use Rattle.mir_semantics.specs.Values.{Value}
use Rattle.mir_semantics.specs.Step.{Here, State, local_addr, read_at, take_arm}
use Rattle.mir_renaming.proofs.Typed.{TermTy}
use Rattle.mir_renaming.proofs.Statements as text
use Rattle.mir_renaming.proofs.Agree.{whole_tight}
use Rattle.mir_rules.specs.Drops.{is_drop}
use Rattle.mir_relate.specs.Alike.{Same, Reads, AllRead}
use Rattle.mir_relate.specs.Frames.{Change, Pass}
use Rattle.mir_relate.specs.Pass.{Valids, MoveOk, AllMoves, TermMoves}
use Rattle.mir_relate.proofs.Own as own
use Rattle.mir_relate.proofs.Wholes.{read_at_whole}
use Rattle.liveness.specs.Live.{operand_locals, result_reads, term_reads, term_fills, Live}
use Rattle.liveness.proofs.Paths.{live_term, live_edge}
use Rattle.dead_store.proofs.refines.Reads.{ok_operand, ok_operands, take_leads}
use Rattle.dest_prop.specs.Merged.{home_of, is_shared, operand_home, term_home, merged_by}
use Rattle.dest_prop.proofs.Homes.{fixed_self}
use Rattle.dest_prop.proofs.refines.Conflicts.{clear_call}
use Rattle.dest_prop.proofs.refines.Frames as frames
use Rattle.dest_prop.proofs.refines.Starts.{frame_laws}
use Rattle.dest_prop.proofs.refines.Moment as moment
use Rattle.dest_prop.proofs.refines.Moment.{Moment}
use Rattle.dest_prop.proofs.refines.Reads as reads
use Rattle.dest_prop.proofs.refines.Results as results

module _ {X : Change} {once : X.body2 ≡ merged_by (is_shared X.body1 (home_of X.source.shapes X.body1)) (home_of X.source.shapes X.body1) X.body1} {V : Valids X} {Inv : State → Type 0} (now : Moment X once V Inv) where
  open now use {n, s2, s1, r, st, lives, r.{core.{lent as j}}, s2.{top.{frame as f2}}, s1.{top.{frame as f1}}}

  abbrev D : List Shape
  D = X.source.shapes

  abbrev P : Pass
  P = frames.pass X once

  abbrev ts1 : List Tree
  ts1 = X.body1.locals

  abbrev home : ℕ → ℕ
  home = home_of X.source.shapes X.body1

  abbrev shared : ℕ → Bool
  shared = is_shared X.body1 (home_of X.source.shapes X.body1)

  abbrev H1 : Here
  H1 = moment.H1 now

  -- what a return hands over
  result : moment.Alive now 0 → (v : Value) → read_at s1.memory (local_addr f1 0) ≡ Some v → (w : Value) × (read_at s2.memory (local_addr f2 0) ≡ Some w) × Same j v w
  unfolding local_addr
  result al v e =
      let zero : home 0 ≡ 0 = fixed_self D X.body1 0 (omega arith) in
      let ((w, g, rel), at) = text.read_at_rel D ts1 X.body2.locals f1 f2 j (moment.L now) (moment.low now) s2.memory s1.memory (record { frame = f1; local = 0; path = [] }) (record { frame = f2; local = 0; path = [] }) v (record { root = subst (λ y. moment.L now f1 0 ≡ Some (f2, y)) zero (moment.at now 0 al); path = refl }) (moment.mem now s2.memory s1.memory (moment.first now)) e in
      (w, g, (rel, whole_tight j v w rel (read_at_whole s1.memory (record { frame = f1; local = 0; path = [] }) v e)))

  module _ (k : TypedBlock) (ek : slice_get X.body1.blocks s1.top.block ≡ Some k) (none : slice_get k.stmts s1.top.at ≡ None) where
    reads_term : (x : ℕ) → Contains (term_reads D ts1 k.term) x → moment.Alive now x
    reads_term x q = lives.covers x (live_term D X.body1 s1.top.block s1.top.at x k ek none q)

    edges : (u x : ℕ) → Contains (targets k.term) u → (Contains (term_fills k.term) x → ⊥) → Live D X.body1 u 0 x → moment.Alive now x
    edges u x l q lv = lives.covers x (live_edge D X.body1 s1.top.block s1.top.at x u k ek none l lv q)

    operand_reads : (o : Operand) → ((x : ℕ) → Contains (operand_locals o) x → moment.Alive now x) → MoveOk H1 o → Reads (moment.S now) (moment.Q now) o (operand_home shared home o)
    operand_reads o h mo = reads.operand_reads now o (ok_operand (moment.Alive now) o h) mo

    operands_read : (os : List Operand) → ((x : ℕ) → Contains (flat_map operand_locals os) x → moment.Alive now x) → AllMoves H1 os → AllRead (moment.S now) (moment.Q now) os (map (operand_home shared home) os)
    operands_read os h mo = reads.operands_read now os (ok_operands (moment.Alive now) os h) mo

    abbrev pub SameStep : Term → Term → Type 0
    SameStep = own.SameStep X P V Inv (frame_laws X once V Inv) n s2 s1 r [] s1.callers refl (omega arith) now.below (moment.S now) (moment.Q now) (moment.left now) refl (moment.first now)

    pub same_step : (t : Term) → k.term ≡ t → is_drop t ≡ false → TermMoves H1 t → TermTy X.source H1 t → SameStep t (term_home shared home t)
    same_step t et nd mo ty = go t et nd mo ty (λ x q. reads_term x (subst (λ t. Contains (term_reads D ts1 t) x) (sym et) q)) (λ u x l q lv. edges u x (subst (λ t. Contains (targets t) u) (sym et) l) (λ c. q (subst (λ t. Contains (term_fills t) x) et c)) lv)
      where
        go : (t : Term) → k.term ≡ t → is_drop t ≡ false → TermMoves H1 t → TermTy X.source H1 t → ((x : ℕ) → Contains (term_reads D ts1 t) x → moment.Alive now x) → ((u x : ℕ) → Contains (targets t) u → (Contains (term_fills t) x → ⊥) → Live D X.body1 u 0 x → moment.Alive now x) → SameStep t (term_home shared home t)
        go (Goto u) et nd mo ty h ed = λ m2 m1 q. moment.edge now m2 m1 u (λ x lv. ed u x (has_first u []) (has_none x) lv) q
        go (Switch o arms u) et nd mo ty h ed = (
          operand_reads o h mo,
          λ i m2 m1 q. moment.edge now m2 m1 (take_arm i arms u) (λ x lv. ed (take_arm i arms u) x (take_leads i arms u) (has_none x) lv) q,
        )
        go Return et nd mo ty h ed = (refl, result (h 0 (has_first 0 [])))
        go Unreachable et nd mo ty h ed = tt
        go (Call p g os u) et nd mo (t, pt, ct) h ed = (
          refl,
          operands_read os (λ x q. h x (Contains-append_left (flat_map operand_locals os) (result_reads D ts1 p) x q)) mo,
          λ d1 e. results.found now p u t pt (λ q. h p.local (Contains-append_right (flat_map operand_locals os) (result_reads D ts1 p) p.local q)) (λ x lv q. ed u x (has_first u []) q lv) (λ d x lv e. clear_call D X.body1 s1.top.block k p g os u ek et d x lv e) d1 e,
        )
        go (Assert o c words os u) et nd mo ty h ed = (
          operand_reads o (λ x q. h x (Contains-append_left (operand_locals o) (flat_map operand_locals os) x q)) mo.0,
          refl,
          refl,
          operands_read os (λ x q. h x (Contains-append_right (operand_locals o) (flat_map operand_locals os) x q)) mo.1,
          λ m2 m1 q. moment.edge now m2 m1 u (λ x lv. ed u x (has_first u []) (has_none x) lv) q,
        )
        go (Drop p u) et nd mo ty h ed = absurd (grind arith)
