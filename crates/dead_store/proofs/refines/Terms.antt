-- The end of a block of the pruned body: both do the same step.
use Rattle.std.proofs.Common.{◌≡◌, refl, sym, subst, ℕ, false, List, [], Some, None, slice_get, arith}
use Rattle.std.specs.List.{Contains, flat_map}
use Rattle.std.proofs.lemmas.List.Elements.{Contains-append_left, Contains-append_right}
use Rattle.mir_syntax.specs.declared.body.Operand.{Operand}
use Rattle.mir_syntax.specs.declared.body.Term.{Term}
use Rattle.mir_syntax.specs.declared.body.Term.TheVariants.{Goto, Switch, Return, Unreachable, Drop, Call, Assert}
use Rattle.mir_syntax.specs.Tree.{Tree}
use Rattle.mir_syntax.specs.Shapes.{Shape}
use Rattle.mir_syntax.specs.Crate.{TypedBlock}
use Rattle.mir_semantics.specs.Step.{State, take_arm}
use Rattle.mir_renaming.proofs.Typed.{TermTy}
use Rattle.mir_syntax.specs.Parts.{targets}
use Rattle.mir_rules.specs.Drops.{is_drop}
use Rattle.mir_relate.specs.Alike.{Reads, AllRead}
use Rattle.mir_relate.specs.Frames.{Change, Pass}
use Rattle.mir_relate.specs.Pass.{Valids, MoveOk, AllMoves, TermMoves}
use Rattle.mir_relate.proofs.Own as own
use Rattle.liveness.specs.Live.{operand_locals, result_reads, term_reads, term_fills, Live}
use Rattle.mir_syntax.proofs.Members.{has_first, has_none}
use Rattle.liveness.proofs.Paths.{live_term, live_edge}
use Rattle.dead_store.specs.Pruned.{pruned_once}
use Rattle.dead_store.proofs.refines.Reads.{ok_operand, ok_operands, take_leads}
use Rattle.dead_store.proofs.refines.Frames as frames
use Rattle.dead_store.proofs.refines.Moment as moment
use Rattle.dead_store.proofs.refines.Moment.{Moment}
use Rattle.dead_store.proofs.refines.Results as results

module _ {X : Change} {once : X.body2 ≡ pruned_once X.source.shapes X.body1} {V : Valids X} {Inv : State → Type 0} (now : Moment X once V Inv) where
  open now use {n, s2, s1, r, st, lives, r.{core.{lent as j}}, s2.{top.{frame as f2}}, s1.{top.{frame as f1}}}
  open moment.seen now use {Q, S, H1, Alive}

  abbrev D : List Shape
  D = X.source.shapes

  abbrev P : Pass
  P = frames.pass X once

  abbrev ts1 : List Tree
  ts1 = X.body1.locals

  module _ (k : TypedBlock) (ek : slice_get X.body1.blocks s1.top.block ≡ Some k) (none : slice_get k.stmts s1.top.at ≡ None) where
    reads : (x : ℕ) → Contains (term_reads D ts1 k.term) x → Alive x
    reads x q = lives.covers x (live_term D X.body1 s1.top.block s1.top.at x k ek none q)

    edges : (u x : ℕ) → Contains (targets k.term) u → (Contains (term_fills k.term) x → ⊥) → Live D X.body1 u 0 x → Alive x
    edges u x l q lv = lives.covers x (live_edge D X.body1 s1.top.block s1.top.at x u k ek none l lv q)

    operand_reads : (o : Operand) → ((x : ℕ) → Contains (operand_locals o) x → Alive x) → MoveOk H1 o → Reads S Q o o
    operand_reads o h mo = moment.operand_reads now o (ok_operand (moment.A now) o (λ x q. moment.at now x (h x q))) mo

    operands_read : (os : List Operand) → ((x : ℕ) → Contains (flat_map operand_locals os) x → Alive x) → AllMoves H1 os → AllRead S Q os os
    operands_read os h mo = moment.operands_read now os (ok_operands (moment.A now) os (λ x q. moment.at now x (h x q))) mo

    abbrev pub SameStep : Term → Term → Type 0
    SameStep = own.SameStep X P V Inv (frames.frames X once V Inv) n s2 s1 r [] s1.callers refl (omega arith) now.below S Q (moment.left now) refl (moment.first now)

    pub same_step : (t : Term) → k.term ≡ t → is_drop t ≡ false → TermMoves H1 t → TermTy X.source H1 t → SameStep t t
    same_step t et nd mo ty = go t nd mo ty (λ x q. reads x (subst (λ t. Contains (term_reads D ts1 t) x) (sym et) q)) (λ u x l q lv. edges u x (subst (λ t. Contains (targets t) u) (sym et) l) (λ c. q (subst (λ t. Contains (term_fills t) x) et c)) lv)
      where
        go : (t : Term) → is_drop t ≡ false → TermMoves H1 t → TermTy X.source H1 t → ((x : ℕ) → Contains (term_reads D ts1 t) x → Alive x) → ((u x : ℕ) → Contains (targets t) u → (Contains (term_fills t) x → ⊥) → Live D X.body1 u 0 x → Alive x) → SameStep t t
        go (Goto u) nd mo ty h ed = λ m2 m1 q. moment.edge now m2 m1 u (λ x lv. ed u x (has_first u []) (has_none x) lv) q
        go (Switch o arms u) nd mo ty h ed = (
          operand_reads o h mo,
          λ i m2 m1 q. moment.edge now m2 m1 (take_arm i arms u) (λ x lv. ed (take_arm i arms u) x (take_leads i arms u) (has_none x) lv) q,
        )
        go Return nd mo ty h ed = (refl, moment.result now (moment.at now 0 (h 0 (has_first 0 []))))
        go Unreachable nd mo ty h ed = tt
        go (Call p g os u) nd mo (t, pt, ct) h ed = (
          refl,
          operands_read os (λ x q. h x (Contains-append_left (flat_map operand_locals os) (result_reads D ts1 p) x q)) mo,
          λ d1 e. results.found now p u t pt (λ q. h p.local (Contains-append_right (flat_map operand_locals os) (result_reads D ts1 p) p.local q)) (λ x lv q. ed u x (has_first u []) q lv) d1 e,
        )
        go (Assert o c words os u) nd mo ty h ed = (
          operand_reads o (λ x q. h x (Contains-append_left (operand_locals o) (flat_map operand_locals os) x q)) mo.0,
          refl,
          refl,
          operands_read os (λ x q. h x (Contains-append_right (operand_locals o) (flat_map operand_locals os) x q)) mo.1,
          λ m2 m1 q. moment.edge now m2 m1 u (λ x lv. ed u x (has_first u []) (has_none x) lv) q,
        )
        go (Drop p u) nd mo ty h ed = absurd (grind arith)
