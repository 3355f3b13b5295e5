use Rattle.std.proofs.Common.{◌≡◌, ◌-◌, ◌<◌, ◌||◌, ◌==◌, ℕ, suc, Bool, true, false, replicate, length, slice_get, sym, ap, ap₂, subst, ◌∙◌, arith}
use Rattle.std.proofs.Math.Path.{fun_ext}
use Rattle.std.proofs.lemmas.List.{length-set, length-replicate}
use Rattle.mir_syntax.specs.Crate.{crate_of}
use Rattle.mir_syntax.specs.Shapes.{shapes_of}
use Rattle.mir_rules.specs.DefinitionRules.{holds_one, holds}
use Rattle.drop_tables.specs.Marks.{is_marked}
use Rattle.drop_tables.specs.Holders.{AreHolders, AreInside}
use Rattle.drop_tables.proofs.Destroying.{shapes_count}
use Rattle.drop_tables.proofs.Levels.{holds_spread}
use Rattle.drop_tables.proofs.MarkLists.{none_marked, one_marked}
use Rattle.drop_tables.proofs.Noting.{are_inside}
use Rattle.drop_tables.proofs.cycles.Circles.comes_back.Goals as goal

pub spread-requires-clause-inside : goal.spread-requires-clause-inside
spread-requires-clause-inside c =
    subst AreInside (sym c.as_slice.ensures) (are_inside (shapes_of (crate_of c.args.program.now)) c.args.self.now.holders c.requires.asked.holders_are)

pub spread-requires-clause-own : goal.spread-requires-clause-own
spread-requires-clause-own c =
    let count = c.len-count.result in
    let own : length c.in_ok-own.own ≡ count = ap length c.in_ok-own.ensures ∙ (length-set (replicate count false) c.args.def true ∙ length-replicate count false) in
    own ∙ (c.len-count.ensures ∙ (sym (shapes_count c.args.program.now) ∙ (sym c.requires.asked.holders_are.long ∙ ap length (sym c.as_slice.ensures))))

pub returns : goal.returns
returns c =
    let p = c.args.program.now in
    let D = shapes_of (crate_of p) in
    let e = c.args.def in
    let before = c.len-count.result - 1 in
    let inside : e < c.len-count.result = omega (arith, c.len-count.ensures, c.requires.there) in
    let many : suc before ≡ length D = omega (arith, c.len-count.ensures, shapes_count p, c.requires.there) in
    let own : (k : ℕ) → is_marked c.in_ok-own.own k ≡ (k == e) = λ k. ap (λ l. is_marked l k) c.in_ok-own.ensures ∙ one_marked c.len-count.result e k inside in
    let are : AreHolders D c.as_slice.result.now = subst (AreHolders D) (sym c.as_slice.ensures) c.requires.asked.holders_are in
    let reached : is_marked c.as_slice-3.result.now ≡ (λ (k : ℕ). k == e || holds D before e k) =
    fun_ext (λ k. ap (λ l. is_marked l k) c.as_slice-3.ensures ∙ (c.in_ok-reached.ensures D are k ∙ holds_spread D (is_marked c.in_ok-own.own) e own before k)) in
    let none : is_marked c.as_slice-2.result.now e ≡ false = ap (λ l. is_marked l e) (c.as_slice-2.ensures ∙ c.in_ok-none.ensures) ∙ none_marked c.len-count.result e in
    c.is_marked.ensures ∙ (ap (λ l. is_marked l e) c.as_slice-4.ensures ∙ (c.in_ok-held.ensures.marks e ∙ (ap₂ (λ b (f : ℕ → Bool). b || holds_one f (slice_get D e)) none reached ∙ ap (λ n. holds D n e e) many)))
